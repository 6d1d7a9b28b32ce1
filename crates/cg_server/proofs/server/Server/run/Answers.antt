use Rattle.std.proofs.Common.{◌∙◌, ap, sym, subst}
use Rattle.bm_code.specs.declared.stop.Stop.TheVariants.{Returned}
use Rattle.bm_code.specs.Calls.{is_running, with_content}
use Rattle.bm_code.specs.Ran.{IsRun}
use Rattle.cg_program.specs.Compiled.{machine_code}
use Rattle.cg_server.specs.Deliveries.{delivered}
use Rattle.cg_server.specs.Messages.{has_messages, no_message, with_bytes}
use Rattle.cg_server.specs.State.{with_process}
use Rattle.cg_server.proofs.Kept.{delivered_else, run_keeps, run_over}
use Rattle.cg_server.proofs.server.Server.run.Goals as goal

pub put_bytes-requires-clause-idle : goal.put_bytes-requires-clause-idle
put_bytes-requires-clause-idle g c =
    let m = c.self.inside.machine in
    run_over m.code m.world c.args.ticks m.process (Returned c.in-Returned.field-0) c.run-stop.new.self.process c.in-Returned.ensures.run

pub put_bytes-requires-clause-messages : goal.put_bytes-requires-clause-messages
put_bytes-requires-clause-messages g c =
    let m = c.self.inside.machine in
    run_keeps m.code m.world c.args.ticks m.process c.run-stop.result c.run-stop.new.self.process c.run-stop.ensures.run c.self.invariant.2

pub put_bytes-requires-in-Returned-clause-idle : goal.put_bytes-requires-in-Returned-clause-idle
put_bytes-requires-in-Returned-clause-idle g c =
    let m = c.self.inside.machine in
    ap (λ s. is_running s.process.activity) c.put_bytes.ensures
    ∙ run_over m.code m.world c.args.ticks m.process (Returned c.in-Returned.field-0) c.run-stop.new.self.process c.in-Returned.ensures.run

pub put_bytes-requires-in-Returned-clause-messages :
    goal.put_bytes-requires-in-Returned-clause-messages
put_bytes-requires-in-Returned-clause-messages g c =
    let m = c.self.inside.machine in
    ap (λ s. has_messages s.process.rows) c.put_bytes.ensures
    ∙ run_keeps m.code m.world c.args.ticks m.process c.run-stop.result c.run-stop.new.self.process c.run-stop.ensures.run c.self.invariant.2

pub invariant_of-self : goal.invariant_of-self
invariant_of-self g c =
    let m = c.self.inside.machine in
    let kept = run_keeps m.code m.world c.args.ticks m.process c.run-stop.result c.run-stop.new.self.process c.run-stop.ensures.run c.self.invariant.2 in
    let code = ap (λ s. s.code) c.put_bytes-in-Returned.ensures ∙ (ap (λ s. s.code) c.put_bytes.ensures ∙ ap (λ s. s.code) c.run-stop.ensures.kept) in
    let rows = ap (λ s. has_messages s.process.rows) c.put_bytes-in-Returned.ensures ∙ ap (λ s. has_messages s.process.rows) c.put_bytes.ensures in
    (code ∙ c.self.invariant.0, c.self.invariant.1, rows ∙ kept, c.self.invariant.3)

pub invariant_of-self-in_default : goal.invariant_of-self-in_default
invariant_of-self-in_default g c =
    let m = c.self.inside.machine in
    let kept = run_keeps m.code m.world c.args.ticks m.process c.run-stop.result c.run-stop.new.self.process c.run-stop.ensures.run c.self.invariant.2 in
    (ap (λ s. s.code) c.run-stop.ensures.kept ∙ c.self.invariant.0, c.self.invariant.1, kept, c.self.invariant.3)

pub returns-in-Returned-clause-run : goal.returns-in-Returned-clause-run
returns-in-Returned-clause-run g c =
    let m = c.self.inside.machine in
    let ran = c.run-stop.new.self.process in
    let run = subst (λ s. IsRun (machine_code s.source) s.world c.args.ticks s.process c.run-stop.result ran) c.self.view_is (subst (λ code. IsRun code m.world c.args.ticks m.process c.run-stop.result ran) c.self.invariant.0 c.run-stop.ensures.run) in
    let cleared = ap (λ s. s.process) c.put_bytes-in-Returned.ensures ∙ ap (λ s. with_content s.process (with_bytes s.process.rows 1 no_message s.process.content)) c.put_bytes.ensures in
    record { ran = ran; run = run; is = cleared ∙ ap (λ s. delivered s ran) (sym c.in-Returned.is) }

pub returns-in_default : goal.returns-in_default
returns-in_default g c =
    let m = c.self.inside.machine in
    let ran = c.run-stop.new.self.process in
    let run = subst (λ s. IsRun (machine_code s.source) s.world c.args.ticks s.process c.run-stop.result ran) c.self.view_is (subst (λ code. IsRun code m.world c.args.ticks m.process c.run-stop.result ran) c.self.invariant.0 c.run-stop.ensures.run) in
    record {
      over = run_over m.code m.world c.args.ticks m.process c.run-stop.result ran c.run-stop.ensures.run;
      run = record { ran = ran; run = run; is = delivered_else c.run-stop.result ran c.in_default.not-Returned };
      kept = ap (λ s. record { process = ran; source = c.self.inside.code.now; world = s.world }) c.run-stop.ensures.kept ∙ ap (λ s. with_process s ran) c.self.view_is;
    }

pub returns-in-Returned-clause-over : goal.returns-in-Returned-clause-over
returns-in-Returned-clause-over g c =
    let m = c.self.inside.machine in
    ap (λ s. is_running s.process.activity) c.put_bytes-in-Returned.ensures
    ∙ (ap (λ s. is_running s.process.activity) c.put_bytes.ensures
    ∙ run_over m.code m.world c.args.ticks m.process c.run-stop.result c.run-stop.new.self.process c.run-stop.ensures.run)
