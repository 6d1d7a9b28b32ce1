use Rattle.std.proofs.Common.{◌≡◌, subst}
use Rattle.lu_image.specs.Pairing.{union_pairs, member_pairs}
use Rattle.lu_pair.specs.Refusing.{IsRefusedBy}
use Rattle.lu_pair.specs.Tags.{ArePaired}
use Rattle.lu_pair.proofs.Whole.{if-ok, union-refusal-is, unions-are, members-are}
use Rattle.lu_pair.proofs.paired.pair_unions.Goals as goal

pub returns : goal.returns
returns c =
    let old = c.args.old.now in
    let new = c.args.new.now in
    let rs = c.args.renames.now in
    let t = c.union_task-task.result in
    let h = c.union_task-task.ensures.task in
    let r = c.pair_tags.result in
    record {
      refused = subst (λ o. IsRefusedBy o r) (union-refusal-is old new rs t h) c.pair_tags.ensures.refused;
      tags = if-ok r (ArePaired t) (λ pairs. pairs.tags.items ≡ union_pairs old new rs) (unions-are old new rs t h) c.pair_tags.ensures.paired;
      parts = if-ok r (ArePaired t) (λ pairs. pairs.parts.items ≡ member_pairs old new rs) (members-are old new rs t h) c.pair_tags.ensures.paired;
    }
