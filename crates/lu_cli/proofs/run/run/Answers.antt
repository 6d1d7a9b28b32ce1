use Rattle.std.proofs.Common.{◌≡◌, ◌<◌, ◌+◌, ◌∙◌, IfSome, Ok, Err, length, ap, sym, subst, arith, rules}
use Rattle.lu_cli.specs.declared.write.Stopped.{Stopped}
use Rattle.lu_cli.specs.Told.{event_at}
use Rattle.lu_cli.specs.Ran.{StepWrote}
use Rattle.lu_cli.proofs.RunLemmas.{goes_on, stops}
use Rattle.lu_cli.proofs.WithinLemmas.{step-within}
use Rattle.lu_cli.proofs.run.run.Goals as goal

pub step-requires : goal.step-requires
step-requires g c =
    step-within c.args.setup.now c.loop-n.n (length c.loop-n.system.runners) c.event_at.result c.as_slice-events.result.now c.requires.setup c.requires.plain
    c.loop-n.invariant.count c.event_at.ensures c.as_slice-events.ensures

pub returns-in-Err-step-clause-wrote : goal.returns-in-Err-step-clause-wrote
returns-in-Err-step-clause-wrote g c =
    let is : c.event_at.result ≡ event_at c.args.setup.now.events c.loop-n.n = c.event_at.ensures ∙ ap (λ es. event_at es c.loop-n.n) c.as_slice-events.ensures in
    let within : c.loop-n.n < length c.args.setup.now.events + 2 = let t = c.loop-n-test.true in omega (arith, t, ap length c.as_slice-events.ensures) in
    stops c.args.setup.now c.in-Ok.servers.items c.loop-n.n c.loop-n.system c.step.new.system (g.K.Sink.wrote c.args.sink.now) (g.K.Sink.wrote c.loop-n.sink)
    (g.K.Sink.wrote c.step.new.sink) c.in-Err-step.stopped c.in-Err-step.stopped c.in-Ok.ensures within c.loop-n.invariant.reached
    (subst (λ e. IfSome (g.K.Sink.wrote c.loop-n.sink) (λ b. StepWrote {E = Stopped} e c.loop-n.system c.step.new.system b (g.K.Sink.wrote c.step.new.sink) (Err c.in-Err-step.stopped))) is c.in-Err-step.ensures.wrote)

pub loop-n-preserved : goal.loop-n-preserved
loop-n-preserved g c =
    let is : c.event_at.result ≡ event_at c.args.setup.now.events c.loop-n.n = c.event_at.ensures ∙ ap (λ es. event_at es c.loop-n.n) c.as_slice-events.ensures in
    record {
      count = c.step.ensures.count ∙ c.loop-n.invariant.count;
      later = search rules;
      reached = goes_on c.args.setup.now c.in-Ok.servers.items c.loop-n.n c.loop-n.system c.step.new.system (g.K.Sink.wrote c.args.sink.now)
          (g.K.Sink.wrote c.loop-n.sink) (g.K.Sink.wrote c.step.new.sink) c.loop-n.invariant.reached
          (subst (λ e. IfSome (g.K.Sink.wrote c.loop-n.sink) (λ b. StepWrote {E = Unit {0}} e c.loop-n.system c.step.new.system b (g.K.Sink.wrote c.step.new.sink) (Ok tt))) is c.in_default.ensures.wrote);
    }
