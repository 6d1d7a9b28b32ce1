use Rattle.std.proofs.Common.{◌≡◌, ◌+◌, drop}
use Rattle.bm_code.specs.Services.{heap_bytes}
use Rattle.bm_cpu.proofs.objects.heap_bytes.Given as goal

abbrev pub invariant-loop-index : goal.invariant-loop-index
invariant-loop-index l = l.sum + heap_bytes (drop l.index l.objects) ≡ heap_bytes l.objects
