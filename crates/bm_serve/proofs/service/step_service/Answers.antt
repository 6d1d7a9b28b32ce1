use Rattle.bm_serve.specs.Held.{held, process_of}
use Rattle.bm_serve.proofs.service.step_service.Goals as goal

pub returns-in-Allocate-clause-served : goal.returns-in-Allocate-clause-served
returns-in-Allocate-clause-served g c = rw c.in-Allocate.is (c.step_allocate.ensures.served c.args.world.now c.args.outbox.now)

pub returns-in-Free-clause-served : goal.returns-in-Free-clause-served
returns-in-Free-clause-served g c = rw c.in-Free.is (c.step_free.ensures.served c.args.world.now c.args.outbox.now)

pub returns-in-Panic-clause-served : goal.returns-in-Panic-clause-served
returns-in-Panic-clause-served g c =
    let p = process_of (held (g.B.Bytes.content c.args.space.now.memory) c.args.space.now.objects c.args.space.now.next c.args.outbox.now) in
    rw c.in-Panic.is (λ activity spare callers. c.panic_of.ensures c.args.code.now c.args.world.now (p activity spare) callers)
