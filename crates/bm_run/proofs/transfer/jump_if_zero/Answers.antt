use Rattle.std.proofs.Common.{◌<◌, map, ◌+◌, sym, ap, length, arith}
use Rattle.lu_base.specs.declared.trap.Trap.TheVariants.{BadCode}
use Rattle.bm_code.specs.Transfers.{jump, trap, running, is_place_of, Next}
use Rattle.bm_code.specs.Frames.{moved}
use Rattle.bm_frame.specs.View.{frame_of}
use Rattle.bm_run.specs.View.{process_in}
use Rattle.bm_run.proofs.Calling.{came_as, zero_goes, lt_true}
use Rattle.bm_run.proofs.transfer.jump_if_zero.Goals as goal

pub returns-then-word-eq0 : goal.returns-then-word-eq0
returns-then-word-eq0 c =
    let a = c.args in
    let inside : a.to < length a.function.now.code = omega (arith, c.if-to-as_slice.false, ap length c.as_slice.ensures) in
    λ m rows next outbox.
    let p = process_in m rows next outbox a.calls.now in
    let f = frame_of a.calls.now.frame in
    let cs = map frame_of a.calls.now.callers in
    came_as _ _ _ _ _ _ _ (zero_goes (is_place_of a.function.now a.to) f.stack c.in-Some.word (jump a.function.now p f cs a.to) (λ rest. Next (running p (moved f (f.place + 1) rest) cs)) (trap BadCode p) (trap BadCode p) (lt_true a.to (length a.function.now.code) inside) (sym c.in-Some.ensures) c.if-word-eq0.true) (c.go_to.ensures m rows next outbox)
