use Rattle.std.proofs.Common.{◌≡◌, ◌≤◌, ◌<◌, ◌∙◌, ◌+◌, ◌-◌, sym, ap, drop, length, true, arith}
use Rattle.lu_base.specs.declared.limits.TheConstants.{FRAMES}
use Rattle.bm_code.specs.Transfers.{has_room}
use Rattle.bm_run.proofs.Came.{left_long, no_room, too_deep, enters, entered_process, came_trapped, came_stopped, came_spent}
use Rattle.bm_run.proofs.transfer.enter.Goals as goal

pub returns-then-not-has_room : goal.returns-then-not-has_room
returns-then-not-has_room c =
    let a = c.args in
    let now = a.calls.now in
    λ args rest popped m rows next outbox.
    let long : length (drop a.below rest) ≡ c.len.result - a.arguments - a.below = left_long m rows next outbox a.function.now now a.number a.callee.now a.signature.now a.arguments a.below c.requires.running args rest popped c.requires.words ∙ ap (λ n. n - a.arguments - a.below) (sym c.len.ensures.count) in
    came_trapped m rows next outbox now c.stop_by.new.calls _ _ c.stop_by.result a.left.now (no_room m rows next outbox a.function.now now a.number a.callee.now a.signature.now a.arguments a.below c.requires.running args rest popped (sym c.if-not-has_room.true ∙ c.has_room.ensures (drop a.below rest) long)) c.stop_by.ensures.result c.stop_by.ensures.calls

pub returns-then-len : goal.returns-then-len
returns-then-len c =
    let a = c.args in
    let now = a.calls.now in
    λ args rest popped m rows next outbox.
    let long : length (drop a.below rest) ≡ c.len.result - a.arguments - a.below = left_long m rows next outbox a.function.now now a.number a.callee.now a.signature.now a.arguments a.below c.requires.running args rest popped c.requires.words ∙ ap (λ n. n - a.arguments - a.below) (sym c.len.ensures.count) in
    let room : true ≡ has_room a.function.now a.signature.now.result (drop a.below rest) = sym c.if-not-has_room.false ∙ c.has_room.ensures (drop a.below rest) long in
    let many : FRAMES ≤ length now.callers + 1 = omega (arith, c.len-2.ensures, c.if-len.true) in
    came_trapped m rows next outbox now c.stop_by-then-len.new.calls _ _ c.stop_by-then-len.result a.left.now (too_deep m rows next outbox a.function.now now a.number a.callee.now a.signature.now a.arguments a.below c.requires.running args rest popped room many) c.stop_by-then-len.ensures.result c.stop_by-then-len.ensures.calls

pub returns-in-Some : goal.returns-in-Some
returns-in-Some c =
    let a = c.args in
    let now = a.calls.now in
    λ args rest popped m rows next outbox.
    let long : length (drop a.below rest) ≡ c.len.result - a.arguments - a.below = left_long m rows next outbox a.function.now now a.number a.callee.now a.signature.now a.arguments a.below c.requires.running args rest popped c.requires.words ∙ ap (λ n. n - a.arguments - a.below) (sym c.len.ensures.count) in
    let room : true ≡ has_room a.function.now a.signature.now.result (drop a.below rest) = sym c.if-not-has_room.false ∙ c.has_room.ensures (drop a.below rest) long in
    let few : length now.callers + 1 < FRAMES = omega (arith, c.len-2.ensures, c.if-len.false) in
    came_stopped m rows next outbox now c.spend.new.calls _ _ c.in-Some.stop a.left.now c.spend.new.left (enters m rows next outbox a.function.now now a.number a.callee.now a.signature.now a.arguments a.below c.requires.running args rest popped room few) c.in-Some.ensures

pub returns : goal.returns
returns c =
    let a = c.args in
    let now = a.calls.now in
    λ args rest popped m rows next outbox.
    let long : length (drop a.below rest) ≡ c.len.result - a.arguments - a.below = left_long m rows next outbox a.function.now now a.number a.callee.now a.signature.now a.arguments a.below c.requires.running args rest popped c.requires.words ∙ ap (λ n. n - a.arguments - a.below) (sym c.len.ensures.count) in
    let room : true ≡ has_room a.function.now a.signature.now.result (drop a.below rest) = sym c.if-not-has_room.false ∙ c.has_room.ensures (drop a.below rest) long in
    let few : length now.callers + 1 < FRAMES = omega (arith, c.len-2.ensures, c.if-len.false) in
    came_spent m rows next outbox now c.spend.new.calls _ _ a.left.now c.spend.new.left _ (enters m rows next outbox a.function.now now a.number a.callee.now a.signature.now a.arguments a.below c.requires.running args rest popped room few) c.in_default.ensures (entered_process m rows next outbox a.function.now now a.number a.callee.now a.signature.now a.arguments a.below c.requires.running args rest popped c.spend.new.calls a.left.now c.spend.new.left c.in_default.ensures c.enter.new.frame c.enter.new.self c.enter.ensures)
