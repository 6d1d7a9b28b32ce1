use Rattle.std.proofs.Common.{◌∙◌, ap, sym}
use Rattle.bm_code.specs.Services.{is_heap_object}
use Rattle.cg_server.specs.Messages.{has_messages}
use Rattle.cg_server.proofs.Keeps.{freed}
use Rattle.cg_server.proofs.server.Server.free_temp.Goals as goal

pub invariant_of-self : goal.invariant_of-self
invariant_of-self g c =
    let m = c.self.inside.machine in
    let is = ap (λ rows. is_heap_object rows c.args.addr) (sym c.objects.ensures.rows) ∙ (sym c.is_heap_object.ensures ∙ c.if-is_heap_object.true) in
    let rows = ap (λ s. has_messages s.process.rows) c.remove.ensures ∙ freed m.process.rows c.args.addr is c.self.invariant.2 in
    (ap (λ s. s.code) c.remove.ensures ∙ c.self.invariant.0, c.self.invariant.1, rows, c.self.invariant.3)
