use Rattle.std.proofs.Common.{◌≡◌, ◌∙◌, ap, sym, Some, slice_get, length, arith}
use Rattle.std.specs.Option.{option_map}
use Rattle.c_types.specs.declared.parts.Ty.TheVariants.{Struct}
use Rattle.c_types.specs.declared.path.Step.TheVariants.{Field}
use Rattle.c_types.specs.Tables.{fields_of}
use Rattle.c_types.specs.Layout.{nth_start, field_offset}
use Rattle.c_types.specs.Rounds.{shape_at}
use Rattle.c_types.specs.Place.{place, step_place}
use Rattle.c_types.proofs.Numbered.{fields_few}
use Rattle.c_types.proofs.TableLemmas.{AreSmall-kept, same-shapes, step-small}
use Rattle.c_types.proofs.descent.field_place.Goals as goal

pub nth_start-requires-clause-known : goal.nth_start-requires-clause-known
nth_start-requires-clause-known c = AreSmall-kept c.args.parts.now c.args.shapes.now c.requires

pub nth_start-requires-clause-count : goal.nth_start-requires-clause-count
nth_start-requires-clause-count c =
    let few = fields_few c.args.parts.now c.requires.built.numbered c.in-Some-Struct.tag in
    omega (arith, few, ap length c.fields_of-fields.ensures)

pub overflow_cast-result : goal.overflow_cast-result
overflow_cast-result c =
    let p = c.args.parts.now in
    let tag = c.in-Some-Struct.tag in
    let f = c.in_ok-field.field in
    let ty : slice_get p.types c.args.number ≡ Some (Struct tag) = cc in
    let entry : slice_get (fields_of p tag) c.args.k ≡ Some f = ap (λ fields. slice_get fields c.args.k) (sym c.fields_of-fields.ensures) ∙ sym c.in_ok-field.ensures in
    let leads : step_place p (slice_get p.types c.args.number) (Field c.args.k) ≡ Some (place f.ty (field_offset p tag c.args.k)) =
    ap (λ o. step_place p o (Field c.args.k)) ty ∙ ap (option_map (λ f. place f.ty (field_offset p tag c.args.k))) entry
    in
    let small = step-small p c.args.shapes.now c.requires c.args.number (Field c.args.k) (place f.ty (field_offset p tag c.args.k)) leads in
    let start = c.nth_start.ensures ∙ (ap (λ fields. nth_start (shape_at c.args.shapes.now) 0 fields c.args.k) c.fields_of-fields.ensures ∙ ap (λ known. nth_start known 0 (fields_of p tag) c.args.k) (same-shapes p c.args.shapes.now c.requires)) in
    omega (arith, small, start)
