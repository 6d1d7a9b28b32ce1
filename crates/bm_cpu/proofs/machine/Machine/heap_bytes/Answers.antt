use Rattle.std.proofs.Common.{◌≡◌, subst}
use Rattle.bm_code.specs.Services.{heap_bytes}
use Rattle.bm_cpu.proofs.machine.Machine.heap_bytes.Goals as goal

pub returns : goal.returns
returns g c =
    subst (λ s. c.self.inside.space.used ≡ heap_bytes s.process.rows) c.self.view_is c.self.invariant.1.used_is
