use Rattle.bm_code.specs.Measure.{weight}
use Rattle.bm_run.specs.View.{process_in}
use Rattle.bm_serve.specs.Space.{IsSpace}
use Rattle.bm_step.proofs.Runs.{HasCome}
use Rattle.bm_step.proofs.run.run.Given as goal

abbrev pub invariant-loop-stop : goal.invariant-loop-stop
invariant-loop-stop g l = record {
  space : IsSpace l.code.types (g.B.Bytes.content l.space.memory) l.space.objects l.space.next l.space.used;
  come : HasCome l.code l.world l.ticks (process_in (g.B.Bytes.content l.fn.space.memory) l.fn.space.objects l.fn.space.next l.fn.outbox l.fn.calls) l.left (process_in (g.B.Bytes.content l.space.memory) l.space.objects l.space.next l.outbox l.calls);
}

abbrev pub decreases-loop-stop : goal.decreases-loop-stop
decreases-loop-stop g l = weight l.code l.left (process_in (g.B.Bytes.content l.space.memory) l.space.objects l.space.next l.outbox l.calls)
