use Rattle.std.proofs.Common.{◌≡◌, subst}
use Rattle.lu_image.specs.Pairing.{struct_pairs, field_pairs}
use Rattle.lu_pair.specs.Refusing.{IsRefusedBy}
use Rattle.lu_pair.specs.Tags.{ArePaired}
use Rattle.lu_pair.proofs.Whole.{if-ok, struct-refusal-is, structs-are, fields-are}
use Rattle.lu_pair.proofs.paired.pair_structs.Goals as goal

pub returns : goal.returns
returns c =
    let old = c.args.old.now in
    let new = c.args.new.now in
    let rs = c.args.renames.now in
    let t = c.struct_task-task.result in
    let h = c.struct_task-task.ensures.task in
    let r = c.pair_tags.result in
    record {
      refused = subst (λ o. IsRefusedBy o r) (struct-refusal-is old new rs t h) c.pair_tags.ensures.refused;
      tags = if-ok r (ArePaired t) (λ pairs. pairs.tags.items ≡ struct_pairs old new rs) (structs-are old new rs t h) c.pair_tags.ensures.paired;
      parts = if-ok r (ArePaired t) (λ pairs. pairs.parts.items ≡ field_pairs old new rs) (fields-are old new rs t h) c.pair_tags.ensures.paired;
    }
