use Rattle.bm_serve.proofs.Fresh.{space_fresh}
use Rattle.bm_cpu.proofs.machine.Machine.new.Goals as goal

pub put_globals-requires-clause-space : goal.put_globals-requires-clause-space
put_globals-requires-clause-space g c =
    space_fresh c.args.code.now.types (g.B.Bytes.content c.args.mem) c.fresh.result c.requires.fresh c.fresh.ensures
