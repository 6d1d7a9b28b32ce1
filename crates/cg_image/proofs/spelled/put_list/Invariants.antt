use Rattle.std.proofs.Common.{◌≡◌, ◌++◌, length, take}
use Rattle.std.specs.List.{flat_map}
use Rattle.cg_image.specs.Image.{number_bytes}
use Rattle.cg_image.proofs.spelled.put_list.Given as goal

abbrev pub invariant-loop-item : goal.invariant-loop-item
invariant-loop-item g l =
    l.out.items ≡ (l.fn.out.items ++ number_bytes (length l.items)) ++ flat_map g.T.Spelled.spelling (take l.item-index l.items)
