use Rattle.std.proofs.Common.{◌≡◌, ◌+◌, drop}
use Rattle.cg_stmt.specs.Functions as spec
use Rattle.cg_stmt.proofs.functions.signature_number.Given as goal

abbrev pub invariant-loop-signature : goal.invariant-loop-signature
invariant-loop-signature l =
    spec.signature_number l.signatures l.ret l.params ≡ l.number + spec.signature_number (drop l.signature-index l.signatures) l.ret l.params
