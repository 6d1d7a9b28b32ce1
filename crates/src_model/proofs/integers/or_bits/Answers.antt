use Rattle.std.proofs.lemmas.Nat.{or_lt}
use Rattle.src_meaning.specs.Integers.{bits_of}
use Rattle.src_model.proofs.integers.or_bits.Goals as goal

pub from_bits-requires : goal.from_bits-requires
from_bits-requires c =
    or_lt (bits_of c.args.kind) c.residue.result c.residue-2.result c.residue.ensures.bound c.residue-2.ensures.bound
