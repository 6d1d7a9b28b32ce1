use Rattle.std.proofs.Common.{◌≡◌, sym, Some, slice_get, refl, arith}
use Rattle.c_types.specs.Place.{step_place}
use Rattle.c_types.proofs.PlaceLaws.{step-within}
use Rattle.c_types.proofs.descent.next_place.Goals as goal

pub overflow_add-result : goal.overflow_add-result
overflow_add-result c =
    let p = c.args.parts.now in
    let leads : step_place p (slice_get p.types c.args.at.ty) c.args.step ≡ Some c.in-Some.to = sym c.in-Some.ensures in
    let inside = step-within p c.requires.kept.built c.args.at.ty (slice_get p.types c.args.at.ty) c.args.step c.in-Some.to refl leads in
    omega (arith, inside, c.requires.inside)

pub returns-in-Some-clause-inside : goal.returns-in-Some-clause-inside
returns-in-Some-clause-inside c =
    let p = c.args.parts.now in
    let leads : step_place p (slice_get p.types c.args.at.ty) c.args.step ≡ Some c.in-Some.to = sym c.in-Some.ensures in
    let inside = step-within p c.requires.kept.built c.args.at.ty (slice_get p.types c.args.at.ty) c.args.step c.in-Some.to refl leads in
    omega (arith, inside, c.requires.inside)
