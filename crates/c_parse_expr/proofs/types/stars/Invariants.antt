use Rattle.std.proofs.Common.{◌≡◌, ◌≤◌, ◌-◌}
use Rattle.c_ast.specs.declared.token.Mark.TheVariants.{Star}
use Rattle.c_parse_expr.specs.Reads.{climb}
use Rattle.c_parse_expr.specs.Reading.{stars, sees, expect, one_more}
use Rattle.c_parse_expr.proofs.types.stars.Given as goal

abbrev pub invariant-stars : goal.invariant-stars
invariant-stars l = (l.count ≤ 8) × (stars l.fn.tokens ≡ climb (sees Star) (expect Star) one_more (8 - l.count) l.count l.tokens)

abbrev pub decreases-stars : goal.decreases-stars
decreases-stars l = 8 - l.count
