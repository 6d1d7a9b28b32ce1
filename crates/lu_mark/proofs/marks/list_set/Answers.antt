use Rattle.std.proofs.Common.{◌∙◌, sym, ap, true, false, [], ◌∷◌, ◌++◌, length, arith}
use Rattle.std.specs.Prelude.{vec_capacity}
use Rattle.std.proofs.lemmas.List.{append-nil, length_push}
use Rattle.lu_mark.proofs.Members.{flagged_below, flagged_below-more}
use Rattle.lu_mark.proofs.marks.list_set.Goals as goal
use Rattle.lu_mark.proofs.marks.list_set.Goals.{then-flags-x, else-flags-x}

pub loop-x-preserved : goal.loop-x-preserved
loop-x-preserved c =
    elim c.if-flags-x.branch [
      | then-flags-x w ↦
          let more = flagged_below-more c.args.flags.now c.loop-x.x true w.if-flags-x.true in
          let items = ap (λ v. v.items) w.numbers-is ∙ w.push_reserved.ensures.items in
          let size = ap length items ∙ length_push c.loop-x.numbers.items c.loop-x.x in
          record {
            numbers = items ∙ (ap (λ zs. zs ++ c.loop-x.x ∷ []) c.loop-x.invariant.numbers ∙ sym more);
            few = omega (arith, size, c.loop-x.invariant.few);
            capacity = ap vec_capacity w.numbers-is ∙ (w.push_reserved.ensures.capacity ∙ c.loop-x.invariant.capacity);
          }
      | else-flags-x w ↦
          let more = flagged_below-more c.args.flags.now c.loop-x.x false w.if-flags-x.false in
          let same = append-nil (flagged_below c.args.flags.now c.loop-x.x) in
          let items = ap (λ v. v.items) w.numbers-is in
          let size = ap length items in
          record {
            numbers = items ∙ (c.loop-x.invariant.numbers ∙ sym (more ∙ same));
            few = omega (arith, size, c.loop-x.invariant.few);
            capacity = ap vec_capacity w.numbers-is ∙ c.loop-x.invariant.capacity;
          }
    ]
