use Rattle.std.proofs.Common.{◌∙◌, ap, sym, subst, arith}
use Rattle.std.specs.Prelude.{sum_by}
use Rattle.std.specs.List.Sorted.{IsStrictlyIncreasing}
use Rattle.lu_remap.specs.Shapes.{room}
use Rattle.lu_remap.proofs.Numbers.{moved_rise}
use Rattle.lu_remap.proofs.Room.{has_room}
use Rattle.lu_remap.proofs.map.AddressMap.build.Goals as goal

pub placed-requires : goal.placed-requires
placed-requires c =
    let low = has_room c.args.pairing.now c.parts-parts.ensures.built c.requires.sound c.args.old.now c.requires.counted c.args.needed.now c.in_ok-shapes.ensures.within in
    let same = ap (sum_by room) (c.deref.ensures.value ∙ c.in_ok-shapes.ensures.rows) in
    omega (arith, low, same)

pub invariant_of-result : goal.invariant_of-result
invariant_of-result c =
    (subst IsStrictlyIncreasing (sym c.in_ok-shapes.ensures.moved) (moved_rise c.args.pairing.now c.args.old.now c.args.needed.now c.requires.rising), c.requires.sound.few)
