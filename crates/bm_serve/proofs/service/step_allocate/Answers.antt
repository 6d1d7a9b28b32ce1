use Rattle.bm_frame.specs.View.{frame_of}
use Rattle.bm_serve.proofs.Allocated.{refused, allocated}
use Rattle.bm_serve.proofs.service.step_allocate.Goals as goal

pub returns-in_default-allocate-clause-served : goal.returns-in_default-allocate-clause-served
returns-in_default-allocate-clause-served g c =
    let a = c.args in
    let now = a.space.now in
    let new = c.allocate.new.space in
    let m = g.B.Bytes.content now.memory in
    let k = c.in-Some-top.ensures in
    let e = c.in_default-allocate.ensures.made in
    λ world outbox activity spare callers. refused a.code.now world m now.objects now.next outbox activity spare callers (frame_of a.frame.now) a.site c.in-Some.target.now c.in-Some-top.count c.in-Some.ensures k (g.B.Bytes.content new.memory) new.objects new.next e

pub returns-clause-served : goal.returns-clause-served
returns-clause-served g c =
    let a = c.args in
    let now = a.space.now in
    let new = c.allocate.new.space in
    let m = g.B.Bytes.content now.memory in
    λ world outbox activity spare callers. allocated a.code.now world m now.objects now.next outbox activity spare callers (frame_of a.frame.now) a.site c.in-Some.target.now c.in-Some-top.count c.in-Some.ensures c.in-Some-top.ensures c.in-Ok.address (g.B.Bytes.content new.memory) new.objects new.next (frame_of c.replace_top.new.frame) c.in-Ok.ensures.made c.replace_top.ensures
