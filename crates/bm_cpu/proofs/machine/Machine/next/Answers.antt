use Rattle.std.proofs.Common.{◌<◌, All, subst}
use Rattle.bm_objects.specs.Table.{end_of}
use Rattle.bm_cpu.proofs.machine.Machine.next.Goals as goal

pub returns-clause-above : goal.returns-clause-above
returns-clause-above g c =
    subst (λ s. All (λ r. end_of r < c.self.inside.space.next) s.process.rows) c.self.view_is c.self.invariant.1.above
