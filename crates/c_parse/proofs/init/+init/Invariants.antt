use Rattle.std.proofs.Common.{◌≡◌, ◌≤◌, ◌+◌, ◌*◌, ℕ, length}
use Rattle.c_ast.specs.Trees.{initializer_list}
use Rattle.c_parse_expr.specs.Reads.{climb, snoc}
use Rattle.c_parse.specs.Declarations.{next_init, init, sees_next}
use Rattle.c_parse.proofs.init.+init.Given as goal

abbrev pub decreases-init : goal.decreases-init
decreases-init l = 16 * l.room + 1

abbrev pub decreases-next_init : goal.decreases-next_init
decreases-next_init l = 16 * l.room + 2

abbrev pub decreases-more_inits : goal.decreases-more_inits
decreases-more_inits l = 16 * l.room + 3

abbrev pub decreases-inits : goal.decreases-inits
decreases-inits l = 16 * l.room + 4

abbrev pub decreases-init_braces : goal.decreases-init_braces
decreases-init_braces l = 16 * l.room + 5

abbrev pub decreases-init_by : goal.decreases-init_by
decreases-init_by l = 16 * l.room + 6

abbrev pub invariant-more_inits-commas : goal.invariant-more_inits-commas
invariant-more_inits-commas l =
    (n : ℕ) × (length l.tokens ≤ n)
    × (climb sees_next (next_init (init l.room)) snoc (length l.fn.tokens) (initializer_list l.fn.first) l.fn.tokens ≡ climb sees_next (next_init (init l.room)) snoc n (initializer_list l.list) l.tokens)

abbrev pub decreases-more_inits-commas : goal.decreases-more_inits-commas
decreases-more_inits-commas l = length l.tokens
