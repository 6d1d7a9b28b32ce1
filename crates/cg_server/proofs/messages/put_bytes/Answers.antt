use Rattle.std.proofs.Common.{◌∙◌, ap, sym}
use Rattle.std.specs.Prelude.{slice_get}
use Rattle.bm_code.specs.Calls.{with_content}
use Rattle.bm_cpu.specs.State.{with_process}
use Rattle.cg_server.proofs.Bytes.{put_with}
use Rattle.cg_server.proofs.messages.put_bytes.Goals as goal

pub returns : goal.returns
returns g c =
    let p = c.args.machine.now.process in
    let at = ap (λ rows. slice_get rows c.args.row) (sym c.objects.ensures.rows) ∙ c.row-row.ensures in
    c.put.ensures.kept
    ∙ ap (λ m. with_process c.args.machine.now (with_content p m)) (put_with p.content p.rows c.objects.ensures.mapped c.requires.messages c.args.row c.requires.row c.row-row.result at c.args.bytes.now c.requires.long c.put.new.self.process.content c.put.ensures.written)
