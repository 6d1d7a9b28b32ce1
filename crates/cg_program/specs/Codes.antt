-- A source as data: it is told apart by its program and its filters.
use Rattle.std.specs.Prelude.{List, refl}
use Rattle.std.specs.Coded.{Coded, code_by, coded×, coded_list}
use Rattle.src_tree.specs.declared.expr.TypedExpr.{TypedExpr}
use Rattle.src_tree.specs.declared.program.Program.{Program}
use Rattle.src_tree.specs.contracts.program.Program as program
use Rattle.src_tree.specs.contracts.expr.TypedExpr as expr
use Rattle.cg_program.specs.Compiled.{Source}

abbrev pub source_code : Coded Source
source_code =
    code_by (Program × List TypedExpr) (coded× program.the_row.coded (coded_list expr.the_row.coded)) (λ s. (s.program, s.filters)) (λ p. record { program = p.0; filters = p.1 }) (λ _. refl)
