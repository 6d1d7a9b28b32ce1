use Rattle.std.proofs.Common.{◌∙◌, ap, ◌++◌, ◌∷◌, []}
use Rattle.lu_image.specs.Pairing.{part_pairs}
use Rattle.lu_pair.specs.Tags.{pair_of}
use Rattle.lu_pair.proofs.Steps.{map-more}
use Rattle.lu_pair.proofs.parts.all_part_pairs.Goals as goal

pub loop-tag-preserved : goal.loop-tag-preserved
loop-tag-preserved c =
    let p = c.args.p.now in
    map-more p.old.now c.loop-tag.tag-index c.tag-item.result c.tag-item.is c.loop-tag-test.true
    (part_pairs c.args.renaming.now p.old_texts.now p.new_texts.now p.new.now (pair_of p)) c.loop-tag.pairs.items c.push.new.self.items c.loop-tag.invariant
    (c.in_ok-push.ensures.items ∙ ap (λ v. c.loop-tag.pairs.items ++ v ∷ []) c.in_ok-part_pairs.ensures)
