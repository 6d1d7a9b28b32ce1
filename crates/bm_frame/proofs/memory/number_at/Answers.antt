use Rattle.bm_frame.proofs.Bytes.{read_front}
use Rattle.bm_frame.proofs.memory.number_at.Goals as goal

pub returns : goal.returns
returns g c =
    λ start bytes h. read_front (g.B.Bytes.content c.args.memory.now) c.args.address c.args.size start bytes c.copy_out.new.into c.number_of_front.result c.requires.size h c.copy_out.ensures c.number_of_front.ensures
