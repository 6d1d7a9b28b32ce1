use Rattle.std.proofs.Common.{◌≡◌, ◌∙◌, [], ◌≤◌, ◌<◌, ap, map, length, arith}
use Rattle.bm_code.specs.Transfers.{pop_words}
use Rattle.bm_frame.specs.View.{frame_of}
use Rattle.bm_run.specs.View.{process_in}
use Rattle.bm_run.proofs.Came.{came_trapped, Popped, pop_some}
use Rattle.bm_run.proofs.Calling.{came_as, call_short, call_goes}
use Rattle.bm_run.proofs.transfer.call.Goals as goal

pub returns-then-arguments-len : goal.returns-then-arguments-len
returns-then-arguments-len c =
    let a = c.args in
    let now = a.calls.now in
    let s = c.in-Some-signature_of.signature.now in
    let few : length now.frame.stack < length s.params = omega (arith, c.if-arguments-len.true, c.len.ensures.count, ap length c.as_slice-arguments.ensures) in
    let t = c.stop_by-then-arguments-len in
    λ m rows next outbox. came_trapped m rows next outbox now t.new.calls _ _ t.result a.left.now (call_short a.code.now a.function.now (process_in m rows next outbox now) (frame_of now.frame) (map frame_of now.callers) a.number c.in-Some.callee.now s c.in-Some.ensures.is c.in-Some-signature_of.ensures few) t.ensures.result t.ensures.calls

pub returns : goal.returns
returns c =
    let a = c.args in
    let now = a.calls.now in
    let s = c.in-Some-signature_of.signature.now in
    let many : length s.params ≤ length now.frame.stack = omega (arith, c.if-arguments-len.false, c.len.ensures.count, ap length c.as_slice-arguments.ensures) in
    let q : Popped (length s.params) now.frame.stack [] = pop_some (length s.params) now.frame.stack [] many in
    let same : length c.as_slice-arguments.result.now ≡ length s.params = ap length c.as_slice-arguments.ensures in
    λ m rows next outbox. came_as _ _ _ _ _ _ _ (call_goes a.code.now a.function.now (process_in m rows next outbox now) (frame_of now.frame) (map frame_of now.callers) a.number c.in-Some.callee.now s q.args q.rest c.in-Some.ensures.is c.in-Some-signature_of.ensures q.is) (c.enter.ensures q.args q.rest (ap (λ n. pop_words n now.frame.stack []) same ∙ q.is) m rows next outbox)
