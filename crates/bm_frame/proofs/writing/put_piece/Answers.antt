use Rattle.std.proofs.Common.{sym}
use Rattle.bm_frame.proofs.Bytes.{inside}
use Rattle.bm_frame.proofs.Written.{put_there, put_mapped}
use Rattle.bm_frame.proofs.writing.put_piece.Goals as goal

pub write-requires : goal.write-requires
write-requires g c =
    inside (g.B.Bytes.content c.args.memory.now) c.args.objects.now c.requires.mapped c.args.address _ c.in-Some._row (sym c.in-Some.ensures.is)

pub returns-clause-is : goal.returns-clause-is
returns-clause-is g c =
    put_there (g.B.Bytes.content c.args.memory.now) c.args.objects.now c.requires.mapped c.args.address c.args.piece.now c.in-Some._row (sym c.in-Some.ensures.is) (g.B.Bytes.content c.write.new.self) c.write.ensures

pub returns-clause-mapped : goal.returns-clause-mapped
returns-clause-mapped g c =
    put_mapped (g.B.Bytes.content c.args.memory.now) c.args.objects.now c.requires.mapped c.args.address c.args.piece.now c.in-Some._row (sym c.in-Some.ensures.is) (g.B.Bytes.content c.write.new.self) c.write.ensures
