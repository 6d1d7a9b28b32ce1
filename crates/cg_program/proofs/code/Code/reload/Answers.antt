use Rattle.std.proofs.Common.{◌∙◌, sym, ap}
use Rattle.cg_program.specs.Compiled.{machine_code}
use Rattle.cg_program.proofs.code.Code.reload.Goals as goal

pub invariant_of-self : goal.invariant_of-self
invariant_of-self c = (c.requires ∙ ap machine_code (sym c.self.view_is), c.self.invariant.1)
