use Rattle.std.proofs.Common.{◌∙◌, sym, ap, subst}
use Rattle.bm_code.specs.Accepted.{IsAccepted}
use Rattle.cg_program.specs.Compiled.{source, machine_code}
use Rattle.cg_program.proofs.Accepts.{accepted}
use Rattle.cg_program.proofs.code.Code.machine.Goals as goal

pub returns-clause-value : goal.returns-clause-value
returns-clause-value c = c.self.invariant.0 ∙ ap machine_code c.self.view_is

pub returns-clause-accepted : goal.returns-clause-accepted
returns-clause-accepted c =
    subst IsAccepted (sym c.self.invariant.0) (accepted (source c.self.inside.program c.self.inside.filters) c.self.invariant.1)
