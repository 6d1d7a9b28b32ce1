use Rattle.std.proofs.Common.{ap, ◌∙◌, length}
use Rattle.lu_remap.specs.declared.spot.Spot.TheVariants.{Nowhere}
use Rattle.lu_remap.specs.Descent.{aim_of, answer_of, extent_of, versions, visit, visit_elements, object_elements}
use Rattle.lu_remap.proofs.Images.{object-image}
use Rattle.lu_remap.proofs.descent.Descent.offset_image.Goals as goal

pub returns : goal.returns
returns c =
    let m = versions c.args.self.now.pairing.now in
    let aim = aim_of c.args.self.now.aim in
    let e = c.args.from in
    let said = c.visit_elements.ensures
    ∙ (ap (λ new. visit_elements m aim (visit m aim (length c.as_slice-depth.result.now)) e.elem e.count new c.args.offset Nowhere) c.object_elements.ensures
    ∙ ap (λ n. visit_elements m aim (visit m aim n) e.elem e.count (object_elements (extent_of e) (extent_of c.args.to)) c.args.offset Nowhere) (ap length (c.as_slice-depth.ensures ∙ ap (λ p. p.types) c.parts.ensures.value))) in
    c.answer.ensures ∙ (ap answer_of said ∙ object-image m aim (extent_of e) (extent_of c.args.to) c.args.offset)
