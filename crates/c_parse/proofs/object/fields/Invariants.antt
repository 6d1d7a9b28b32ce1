use Rattle.std.proofs.Common.{◌≡◌, ◌≤◌, ℕ, length}
use Rattle.c_ast.specs.Trees.{objects}
use Rattle.c_parse_expr.specs.Reads.{climb, snoc}
use Rattle.c_parse.specs.Statements.{more_items}
use Rattle.c_parse.specs.Declarations.{field, fields}
use Rattle.c_parse.proofs.object.fields.Given as goal

abbrev pub invariant-fields : goal.invariant-fields
invariant-fields l =
    (n : ℕ) × (length l.tokens ≤ n)
    × (fields l.fn.tokens ≡ climb more_items field snoc n (objects l.list) l.tokens)

abbrev pub decreases-fields : goal.decreases-fields
decreases-fields l = length l.tokens
