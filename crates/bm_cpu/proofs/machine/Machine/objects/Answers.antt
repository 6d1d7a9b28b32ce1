use Rattle.std.proofs.Common.{subst}
use Rattle.bm_code.specs.Mapped.{IsMapped}
use Rattle.bm_cpu.proofs.machine.Machine.objects.Goals as goal

pub returns-clause-mapped : goal.returns-clause-mapped
returns-clause-mapped g c =
    subst (λ s. IsMapped s.process.content s.process.rows) c.self.view_is c.self.invariant.1.mapped
