use Rattle.std.proofs.Common.{arith}
use Rattle.bm_pages.proofs.ExtentLemmas.{used_if, used_only_if, lt_true, true_lt}
use Rattle.bm_pages.proofs.extents.is_used.Goals as goal

pub returns-then-count-gt0 : goal.returns-then-count-gt0
returns-then-count-gt0 c =
    let es = c.args.extents.now in
    let count = c.count_up_to-count.result in (
      λ past. used_if es c.requires.laid_out c.args.page count c.count_up_to-count.ensures _ c.if-count-gt0.true (true_lt _ _ past),
      λ used. lt_true _ _ (used_only_if es c.requires.laid_out c.args.page count c.count_up_to-count.ensures _ used).1,
    )

pub returns-else-count-gt0 : goal.returns-else-count-gt0
returns-else-count-gt0 c = (
  λ some. absurd (omega (arith, true_lt 0 c.count_up_to-count.result some)),
  λ used. lt_true _ _ (used_only_if c.args.extents.now c.requires.laid_out c.args.page c.count_up_to-count.result c.count_up_to-count.ensures (record { addr = 0; size = 0 }) used).0,
)
