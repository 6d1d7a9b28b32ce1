use Rattle.std.proofs.Common.{◌∙◌, ap, sym, subst, length}
use Rattle.bm_code.specs.Accepted.{HasParameters}
use Rattle.bm_code.specs.Calls.{started}
use Rattle.bm_code.specs.Ran.{IsRun}
use Rattle.cg_program.specs.Compiled.{machine_code}
use Rattle.cg_server.proofs.Kept.{no_pause}
use Rattle.cg_server.proofs.server.Server.call.Goals as goal

pub start-requires-clause-parameters : goal.start-requires-clause-parameters
start-requires-clause-parameters g c =
    let same = c.self.invariant.0 ∙ ap (λ s. machine_code s.source) c.self.view_is in
    subst (λ code. HasParameters code c.args.function (length c.args.args.now)) (sym same) c.requires.parameters

pub returns-clause-ends : goal.returns-clause-ends
returns-clause-ends g c =
    let m = c.self.inside.machine in
    let code = machine_code c.self.inside.code.now in
    let served = c.run.ensures.run in
    no_pause code m.world (started m.process c.args.function c.args.args.now) c.run.result served.ran (subst (λ a. IsRun code a.world 1000000 a.process c.run.result served.ran) c.start.ensures served.run)
