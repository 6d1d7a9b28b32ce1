use Rattle.bm_run.specs.View.{process_in}
use Rattle.bm_step.proofs.Runs.{one_more, lighter, ends}
use Rattle.bm_step.proofs.run.run.Goals as goal

pub returns-in-Some-clause-run : goal.returns-in-Some-clause-run
returns-in-Some-clause-run g c =
    let a = c.args in
    let now = c.loop-stop in
    let new = c.step.new in
    ends a.code.now a.world.now a.ticks (process_in (g.B.Bytes.content a.space.now.memory) a.space.now.objects a.space.now.next a.outbox.now a.calls.now) now.left (process_in (g.B.Bytes.content now.space.memory) now.space.objects now.space.next now.outbox now.calls) c.in-Some.stop new.left (process_in (g.B.Bytes.content new.space.memory) new.space.objects new.space.next new.outbox new.calls) now.invariant.come c.in-Some.ensures.step

pub loop-stop-smaller : goal.loop-stop-smaller
loop-stop-smaller g c =
    let a = c.args in
    let now = c.loop-stop in
    let new = c.step.new in
    lighter a.code.now a.world.now now.left (process_in (g.B.Bytes.content now.space.memory) now.space.objects now.space.next now.outbox now.calls) new.left (process_in (g.B.Bytes.content new.space.memory) new.space.objects new.space.next new.outbox new.calls) c.in_default.ensures.step

pub loop-stop-preserved : goal.loop-stop-preserved
loop-stop-preserved g c =
    let a = c.args in
    let now = c.loop-stop in
    let new = c.step.new in
    record {
      space = c.in_default.ensures.space;
      come = one_more a.code.now a.world.now a.ticks (process_in (g.B.Bytes.content a.space.now.memory) a.space.now.objects a.space.now.next a.outbox.now a.calls.now) now.left (process_in (g.B.Bytes.content now.space.memory) now.space.objects now.space.next now.outbox now.calls) new.left (process_in (g.B.Bytes.content new.space.memory) new.space.objects new.space.next new.outbox new.calls) now.invariant.come c.in_default.ensures.step;
    }
