use Rattle.std.proofs.Common.{◌≡◌, vec_len}
use Rattle.lu_image.specs.Renaming.{in_order_among, in_order}
use Rattle.lu_image.proofs.rename.in_order.Given as goal

abbrev pub invariant-loop-rename : goal.invariant-loop-rename
invariant-loop-rename l = in_order_among l.rest.items l.made.items ≡ in_order l.fn.renames.items

abbrev pub decreases-loop-rename : goal.decreases-loop-rename
decreases-loop-rename l = vec_len l.rest
