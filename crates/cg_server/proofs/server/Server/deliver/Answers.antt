use Rattle.std.proofs.Common.{◌∙◌, ap, sym, subst}
use Rattle.std.specs.Prelude.{codes}
use Rattle.bm_code.specs.Accepted.{HasParameters}
use Rattle.cg_program.specs.Compiled.{machine_code}
use Rattle.cg_server.proofs.Parameters.{has_on_message, handler_parameters}
use Rattle.cg_server.proofs.server.Server.deliver.Goals as goal

pub start-requires-clause-parameters : goal.start-requires-clause-parameters
start-requires-clause-parameters g c =
    let s = c.self.inside.code.now in
    let is = c.self.invariant.1 in
    let code = ap (λ s. s.code) c.put_bytes.ensures ∙ c.self.invariant.0 in
    subst (λ code. HasParameters code c.self.inside.on_message 0) (sym code) (subst (λ n. HasParameters (machine_code s) n 0) (sym c.self.invariant.3) (handler_parameters s is (codes "on_message") (has_on_message s is)))
