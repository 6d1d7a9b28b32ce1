use Rattle.std.proofs.Common.{◌≡◌, ◌+◌, ◌*◌, suc}
use Rattle.c_ast.specs.Trees.{expression}
use Rattle.c_parse_expr.specs.Reads.{climb}
use Rattle.c_parse_expr.specs.Reading.{expr, unary, levels, steps, links, more_steps, step, join_step, more_links, link, join_link}
use Rattle.c_parse_expr.proofs.expr.+expr.Given as goal

abbrev pub decreases-group : goal.decreases-group
decreases-group l = 100 * l.room + 51

abbrev pub decreases-index : goal.decreases-index
decreases-index l = 100 * l.room + 51

abbrev pub decreases-prim : goal.decreases-prim
decreases-prim l = 100 * l.room + 52

abbrev pub decreases-read_step : goal.decreases-read_step
decreases-read_step l = 100 * l.room + 52

abbrev pub decreases-steps : goal.decreases-steps
decreases-steps l = 100 * l.room + 53

abbrev pub decreases-postfix : goal.decreases-postfix
decreases-postfix l = 100 * l.room + 54

abbrev pub decreases-prefixed : goal.decreases-prefixed
decreases-prefixed l = 100 * l.room + 5

abbrev pub decreases-cast : goal.decreases-cast
decreases-cast l = 100 * l.room + 5

abbrev pub decreases-unary_by : goal.decreases-unary_by
decreases-unary_by l = 100 * l.room + 55

abbrev pub decreases-unary : goal.decreases-unary
decreases-unary l = 100 * l.room + 4

abbrev pub decreases-link : goal.decreases-link
decreases-link l = 100 * l.room + 8 + 4 * l.level

abbrev pub decreases-links : goal.decreases-links
decreases-links l = 100 * l.room + 9 + 4 * l.below

abbrev pub decreases-chain : goal.decreases-chain
decreases-chain l = 100 * l.room + 10 + 4 * l.below

abbrev pub decreases-levels : goal.decreases-levels
decreases-levels l = 100 * l.room + 7 + 4 * l.count

abbrev pub decreases-branches : goal.decreases-branches
decreases-branches l = 100 * l.room + 51

abbrev pub decreases-branches_if_any : goal.decreases-branches_if_any
decreases-branches_if_any l = 100 * l.room + 52

abbrev pub decreases-whole : goal.decreases-whole
decreases-whole l = 100 * l.room + 53

abbrev pub decreases-expr : goal.decreases-expr
decreases-expr l = 100 * l.room + 50

abbrev pub invariant-links-links : goal.invariant-links-links
invariant-links-links l =
    links (suc (suc l.below)) (levels l.below (unary l.room)) (expression l.fn.first) l.fn.tokens ≡ climb (more_links (suc (suc l.below))) (link (suc (suc l.below)) (levels l.below (unary l.room))) join_link l.left (expression l.base) l.tokens

abbrev pub decreases-links-links : goal.decreases-links-links
decreases-links-links l = l.left

abbrev pub invariant-steps-steps : goal.invariant-steps-steps
invariant-steps-steps l = steps (expr l.room) (expression l.fn.first) l.fn.tokens ≡ climb more_steps (step (expr l.room)) join_step l.left (expression l.base) l.tokens

abbrev pub decreases-steps-steps : goal.decreases-steps-steps
decreases-steps-steps l = l.left
