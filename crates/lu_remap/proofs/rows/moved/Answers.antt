use Rattle.std.proofs.Common.{◌∙◌, ap, sym, Ok}
use Rattle.lu_image_store.specs.Pointers.{at_offset, target}
use Rattle.lu_remap.specs.Rows.{answer}
use Rattle.lu_remap.proofs.Targets.{target-is}
use Rattle.lu_remap.proofs.rows.moved.Goals as goal

pub returns-in-Ok : goal.returns-in-Ok
returns-in-Ok c =
    let k = c.args.k in
    let offset = c.args.offset in
    ap Ok (sym (target-is k c.in-Ok.offset)) ∙ ap (λ r. answer k offset (at_offset k (target k offset) r)) c.in-Ok.ensures
