use Rattle.std.proofs.Common.{◌≡◌, ◌++◌, length, take}
use Rattle.std.specs.Prelude.{map}
use Rattle.cg_expr.specs.Seen.{seen}
use Rattle.cg_stmt.specs.Functions.{machine_function, filter_function}
use Rattle.cg_program.proofs.functions.machine_functions.Given as goal

abbrev pub invariant-loop-function : goal.invariant-loop-function
invariant-loop-function l =
    l.functions ≡ map (machine_function (seen l.at)) (take l.function-index l.at.program.now.functions)

abbrev pub invariant-loop-filter : goal.invariant-loop-filter
invariant-loop-filter l =
    l.functions ≡ map (machine_function (seen l.at)) l.at.program.now.functions ++ map (filter_function (seen l.at) (length l.at.program.now.names)) (take l.filter-index l.filters)
