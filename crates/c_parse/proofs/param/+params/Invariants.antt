use Rattle.std.proofs.Common.{◌≡◌, ◌≤◌, ◌+◌, ◌*◌, ℕ, length}
use Rattle.c_ast.specs.Trees.{parameter_list}
use Rattle.c_ast.specs.declared.token.Mark.TheVariants.{Comma}
use Rattle.c_parse_expr.specs.Reads.{climb, snoc}
use Rattle.c_parse_expr.specs.Reading.{sees}
use Rattle.c_parse.specs.Parameters.{next_param, params}
use Rattle.c_parse.proofs.param.+params.Given as goal

abbrev pub decreases-params : goal.decreases-params
decreases-params l = 16 * l.room + 1

abbrev pub decreases-function_declarator : goal.decreases-function_declarator
decreases-function_declarator l = 16 * l.room + 2

abbrev pub decreases-declarator : goal.decreases-declarator
decreases-declarator l = 16 * l.room + 3

abbrev pub decreases-first_param : goal.decreases-first_param
decreases-first_param l = 16 * l.room + 4

abbrev pub decreases-param : goal.decreases-param
decreases-param l = 16 * l.room + 4

abbrev pub decreases-next_param : goal.decreases-next_param
decreases-next_param l = 16 * l.room + 5

abbrev pub decreases-more_params : goal.decreases-more_params
decreases-more_params l = 16 * l.room + 6

abbrev pub decreases-some_params : goal.decreases-some_params
decreases-some_params l = 16 * l.room + 7

abbrev pub decreases-params_after : goal.decreases-params_after
decreases-params_after l = 16 * l.room + 8

abbrev pub decreases-params_by : goal.decreases-params_by
decreases-params_by l = 16 * l.room + 9

abbrev pub invariant-more_params-commas : goal.invariant-more_params-commas
invariant-more_params-commas l =
    (n : ℕ) × (length l.tokens ≤ n)
    × (climb (sees Comma) (next_param (params l.room)) snoc (length l.fn.tokens) (parameter_list l.fn.first) l.fn.tokens ≡ climb (sees Comma) (next_param (params l.room)) snoc n (parameter_list l.list) l.tokens)

abbrev pub decreases-more_params-commas : goal.decreases-more_params-commas
decreases-more_params-commas l = length l.tokens
