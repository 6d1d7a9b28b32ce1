use Rattle.std.proofs.Common.{◌∙◌, sym, ap, Some}
use Rattle.lu_base.specs.declared.limits.TheConstants.{MESSAGE_BYTES}
use Rattle.bm_frame.proofs.Bytes.{inside, holds, piece_there}
use Rattle.bm_serve.proofs.outgoing.bytes_at.Goals as goal

pub copy_out-requires : goal.copy_out-requires
copy_out-requires g c =
    inside (g.B.Bytes.content c.args.memory.now) c.args.objects.now c.requires c.args.address MESSAGE_BYTES c.in_ok-_row._row (sym c.in_ok-_row.ensures.is)

pub returns : goal.returns
returns g c =
    let m = g.B.Bytes.content c.args.memory.now in
    let h = holds m c.args.objects.now c.requires c.args.address MESSAGE_BYTES c.in_ok-_row._row (sym c.in_ok-_row.ensures.is) in
    ap Some (c.copy_out.ensures _ _ h) ∙ sym (piece_there m c.args.objects.now c.requires c.args.address MESSAGE_BYTES c.in_ok-_row._row (sym c.in_ok-_row.ensures.is))
