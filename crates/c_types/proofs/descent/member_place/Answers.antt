use Rattle.std.proofs.Common.{◌≡◌, ◌∙◌, ap, sym, Some, slice_get}
use Rattle.std.specs.Option.{option_map}
use Rattle.c_types.specs.declared.parts.Ty.TheVariants.{Union}
use Rattle.c_types.specs.declared.path.Step.TheVariants.{Member}
use Rattle.c_types.specs.Tables.{members_of}
use Rattle.c_types.specs.Layout.{members_start, member_offset, Shapes}
use Rattle.c_types.specs.Rounds.{shape_at}
use Rattle.c_types.specs.Place.{place, step_place}
use Rattle.c_types.proofs.TableLemmas.{AreSmall-kept, same-shapes}
use Rattle.c_types.proofs.descent.member_place.Goals as goal

pub members_start-requires : goal.members_start-requires
members_start-requires c = AreSmall-kept c.args.parts.now c.args.shapes.now c.requires

pub returns : goal.returns
returns c =
    let p = c.args.parts.now in
    let tag = c.in-Some-Union.tag in
    let f = c.in_ok-member.member in
    let ty : slice_get p.types c.args.number ≡ Some (Union tag) = cc in
    let entry : slice_get (members_of p tag) c.args.k ≡ Some f = ap (λ fields. slice_get fields c.args.k) (sym c.members_of-members.ensures) ∙ sym c.in_ok-member.ensures in
    let start : c.members_start.result ≡ member_offset p tag =
    c.members_start.ensures.value
    ∙ (ap (members_start (shape_at c.args.shapes.now)) c.members_of-members.ensures
    ∙ ap (λ (known : Shapes). members_start known (members_of p tag)) (same-shapes p c.args.shapes.now c.requires))
    in
    ap (λ x. Some (place f.ty x)) start
    ∙ sym (ap (λ o. step_place p o (Member c.args.k)) ty ∙ ap (option_map (λ f. place f.ty (member_offset p tag))) entry)
