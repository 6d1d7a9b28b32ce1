use Rattle.lu_walk.proofs.Reading.{read_whole}
use Rattle.lu_walk.proofs.bytes.object_bytes.Goals as goal

pub returns : goal.returns
returns g c =
    read_whole (g.B.Bytes.content c.args.memory.now) c.args.row.now.addr c.args.row.now.size c.requires.0 c.requires.1 c.requires.2 c.deref_mut.result.now c.copy_out.new.into c.in_ok-bytes.bytes.items c.in_ok-bytes.bytes.len c.in_ok-bytes.ensures c.deref_mut.ensures.value c.copy_out.ensures c.copy_out.auto.into c.in_ok-bytes.bytes.ok.0
