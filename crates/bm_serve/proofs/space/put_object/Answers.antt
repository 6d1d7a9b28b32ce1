use Rattle.std.proofs.Common.{refl}
use Rattle.bm_serve.proofs.Added.{some_there, undone}
use Rattle.bm_serve.proofs.space.put_object.Goals as goal

pub unmap-requires : goal.unmap-requires
unmap-requires g c = some_there (g.B.Bytes.content c.args.space.now.memory) (g.B.Bytes.content c.map.new.self) c.args.row.addr _ c.in-Ok.ensures.ok

pub returns-in_default-add-clause-kept : goal.returns-in_default-add-clause-kept
returns-in_default-add-clause-kept g c =
    (undone (g.B.Bytes.content c.args.space.now.memory) (g.B.Bytes.content c.map.new.self) (g.B.Bytes.content c.unmap.new.self) c.args.row.addr _ c.requires.fresh c.in-Ok.ensures.ok c.unmap.ensures, c.in_default-add.ensures.err, refl, refl)
