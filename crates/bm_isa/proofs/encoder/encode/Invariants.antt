use Rattle.std.proofs.Common.{◌≡◌, take}
use Rattle.bm_isa.specs.Encoding.{code_bytes}
use Rattle.bm_isa.proofs.encoder.encode.Given as goal

abbrev pub invariant-loop-instr : goal.invariant-loop-instr
invariant-loop-instr l = l.bytes.items ≡ code_bytes (take l.instr-index l.code)
