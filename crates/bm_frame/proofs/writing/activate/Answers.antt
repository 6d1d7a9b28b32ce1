use Rattle.std.proofs.Common.{ap, length}
use Rattle.bm_frame.proofs.Written.{member_holds, number_inside, activated, four_bytes_of}
use Rattle.bm_frame.proofs.writing.activate.Goals as goal

pub clear_bytes-requires-clause-inside : goal.clear_bytes-requires-clause-inside
clear_bytes-requires-clause-inside g c =
    let i = c.requires.inside in
    (i.0, i.1, member_holds (g.B.Bytes.content c.args.memory.now) (g.B.Bytes.content c.args.memory.now) c.args.at c.args.offset c.args.size i.0 i.1 i.2)

pub write-requires : goal.write-requires
write-requires g c =
    let i = c.requires.inside in
    number_inside (g.B.Bytes.content c.args.memory.now) (g.B.Bytes.content c.clear_bytes.new.memory) c.args.at c.args.offset c.args.size i.0 i.1 i.2 c.clear_bytes.ensures c.to_le_bytes.result (ap length c.to_le_bytes.ensures)

pub returns : goal.returns
returns g c =
    λ s a h. activated (g.B.Bytes.content c.args.memory.now) (g.B.Bytes.content c.clear_bytes.new.memory) c.args.at c.args.offset c.args.size s a h c.clear_bytes.ensures c.to_le_bytes.result (ap length c.to_le_bytes.ensures) c.args.member (g.B.Bytes.content c.write.new.self) (four_bytes_of c.args.member c.to_le_bytes.result c.to_le_bytes.ensures) c.write.ensures
