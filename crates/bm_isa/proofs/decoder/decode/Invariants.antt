use Rattle.std.proofs.Common.{◌≡◌, ◌++◌, length, All}
use Rattle.bm_isa.specs.Encoding.{code_bytes, FitsMachine}
use Rattle.bm_isa.proofs.decoder.decode.Given as goal

abbrev pub invariant-loop-rest : goal.invariant-loop-rest
invariant-loop-rest l = (l.bytes ≡ code_bytes l.code.items ++ l.rest) × All FitsMachine l.code.items

abbrev pub decreases-loop-rest : goal.decreases-loop-rest
decreases-loop-rest l = length l.rest
