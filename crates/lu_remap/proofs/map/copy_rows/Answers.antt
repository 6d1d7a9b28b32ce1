use Rattle.std.proofs.Common.{◌∙◌, ap, sym, [], ◌∷◌, ◌++◌}
use Rattle.lu_remap.proofs.Finding.{take_next}
use Rattle.lu_remap.proofs.map.copy_rows.Goals as goal

pub loop-k-preserved : goal.loop-k-preserved
loop-k-preserved c =
    c.in_ok-push.ensures.items ∙ (ap (λ rows. rows ++ c.row.result ∷ []) c.loop-k.invariant ∙ sym (take_next c.args.old.now c.loop-k.k c.row.result c.row.ensures))
