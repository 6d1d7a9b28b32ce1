use Rattle.std.proofs.Common.{◌≡◌, ◌∙◌, ◌*◌, ap, Some, None, true, slice_get, nat_lt, if◌then◌else◌, arith}
use Rattle.std.proofs.lemmas.Bool.Decides.{nat_tests}
use Rattle.c_types.specs.declared.parts.Ty.TheVariants.{Array}
use Rattle.c_types.specs.declared.path.Step.TheVariants.{Index}
use Rattle.c_types.specs.Layout.{size_of}
use Rattle.c_types.specs.Place.{place, step_place}
use Rattle.c_types.proofs.TableLemmas.{step-small}
use Rattle.c_types.proofs.descent.element_place.Goals as goal

pub overflow_mul-result : goal.overflow_mul-result
overflow_mul-result c =
    let p = c.args.parts.now in
    let u = c.in-Some-Array.element in
    let ty : slice_get p.types c.args.number ≡ Some (Array u c.in-Some-Array.count) = cc in
    let lt : nat_lt c.args.k c.in-Some-Array.count ≡ true = (let h = c.if-k-count.true in grind (arith, nat_tests)) in
    let leads : step_place p (slice_get p.types c.args.number) (Index c.args.k) ≡ Some (place u (c.args.k * size_of p u)) =
    ap (λ o. step_place p o (Index c.args.k)) ty ∙ ap (λ b. if b then Some (place u (c.args.k * size_of p u)) else None) lt
    in
    let small = step-small p c.args.shapes.now c.requires c.args.number (Index c.args.k) (place u (c.args.k * size_of p u)) leads in
    let size = ap (λ s. c.args.k * s.size) (c.shape_at.ensures ∙ c.requires.each u) in
    omega (arith, small, size)
