use Rattle.std.proofs.Common.{sym, subst}
use Rattle.std.specs.Prelude.{codes}
use Rattle.bm_code.specs.Accepted.{HasParameters}
use Rattle.cg_program.specs.Compiled.{machine_code}
use Rattle.cg_server.proofs.Parameters.{has_init, handler_parameters}
use Rattle.cg_server.proofs.server.Server.init.Goals as goal

pub start-requires-clause-parameters : goal.start-requires-clause-parameters
start-requires-clause-parameters g c =
    let s = c.self.inside.code.now in
    let is = c.self.invariant.1 in
    subst (λ code. HasParameters code c.handler_number-init.result 0) (sym c.self.invariant.0) (subst (λ n. HasParameters (machine_code s) n 0) (sym c.handler_number-init.ensures) (handler_parameters s is (codes "init") (has_init s is)))
