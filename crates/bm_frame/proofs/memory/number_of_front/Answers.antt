use Rattle.std.proofs.Common.{◌∙◌, ◌-◌}
use Rattle.bm_frame.proofs.Bytes.{front_of}
use Rattle.bm_frame.proofs.memory.number_of_front.Goals as goal

pub returns : goal.returns
returns c = λ front len e. c.from_le_bytes.ensures ∙ front_of c.args.bytes.now front (8 - c.args.count) c.told-bytes e
