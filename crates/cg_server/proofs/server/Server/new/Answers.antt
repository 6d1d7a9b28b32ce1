use Rattle.std.proofs.Common.{◌∙◌, ap}
use Rattle.bm_code.specs.Globals.{initial_process}
use Rattle.cg_server.specs.Messages.{has_messages}
use Rattle.cg_server.proofs.Initial.{has_at_start}
use Rattle.cg_server.proofs.server.Server.new.Goals as goal

pub invariant_of-result : goal.invariant_of-result
invariant_of-result g c =
    let set = c.in_ok-set_world.ensures.ok in
    let made = c.in_ok-machine.ensures in
    let code = c.machine.ensures.value in
    let rows = ap (λ s. has_messages s.process.rows) set ∙ (ap (λ s. has_messages s.process.rows) made ∙ ap (λ k. has_messages (initial_process k).rows) code) in
    (ap (λ s. s.code) set ∙ (ap (λ s. s.code) made ∙ code), c.program-program.ensures.source, rows ∙ has_at_start c.args.code.now c.program-program.ensures.source, c.handler_number.ensures)
