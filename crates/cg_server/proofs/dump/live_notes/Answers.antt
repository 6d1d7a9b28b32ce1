use Rattle.cg_server.specs.Dump.{live_notes}
use Rattle.cg_server.proofs.DumpLemmas.{one_more}
use Rattle.cg_server.proofs.dump.live_notes.Goals as goal

pub loop-number-preserved : goal.loop-number-preserved
loop-number-preserved g c =
    let p = c.args.p.now in
    let m = g.B.Bytes.content c.args.memory.now in
    let rows = c.args.objects.now in
    one_more p m c.loop-number.notes.items c.push_live.new.notes.items (live_notes p m 0 rows) c.loop-number.number rows c.row-row.result c.row-row.ensures c.in_ok-push_live.ensures c.loop-number.invariant
