use Rattle.std.proofs.Common.{◌≡◌, ◌≢◌, ◌∙◌, ◌-◌, ℕ, suc, zero, ap, sym, map, length, arith, refl, [], ◌∷◌}
use Rattle.std.proofs.lemmas.Option.{slice_get_within}
use Rattle.bm_frame.specs.View.{frame_of}
use Rattle.bm_run.specs.View.{process_in}
use Rattle.bm_run.proofs.Came.{came_trapped}
use Rattle.bm_run.proofs.Calling.{came_as, Under, under, indirect_none, indirect_null, indirect_nowhere, indirect_other, indirect_goes}
use Rattle.bm_run.proofs.transfer.call_indirect.Goals as goal

above : (w : ℕ) → w ≢ 0 → w ≡ suc (w - 1)
above zero h = absurd (h refl)
above (suc w) h = omega arith

pub returns-in_default : goal.returns-in_default
returns-in_default c =
    let a = c.args in
    let now = a.calls.now in
    λ m rows next outbox. came_trapped m rows next outbox now c.stop_by.new.calls _ _ c.stop_by.result a.left.now (indirect_none a.code.now a.function.now (process_in m rows next outbox now) (frame_of now.frame) (map frame_of now.callers) a.arguments c.in_default.ensures) c.stop_by.ensures.result c.stop_by.ensures.calls

pub returns-then-word-eq0 : goal.returns-then-word-eq0
returns-then-word-eq0 c =
    let a = c.args in
    let now = a.calls.now in
    let w = c.in-Some.word in
    λ m rows next outbox. came_trapped m rows next outbox now c.stop_by-then-word-eq0.new.calls _ _ c.stop_by-then-word-eq0.result a.left.now (indirect_null a.code.now a.function.now (process_in m rows next outbox now) (frame_of now.frame) (map frame_of now.callers) a.arguments w c.in-Some.ensures c.if-word-eq0.true) c.stop_by-then-word-eq0.ensures.result c.stop_by-then-word-eq0.ensures.calls

pub returns-in_default-function_at : goal.returns-in_default-function_at
returns-in_default-function_at c =
    let a = c.args in
    let now = a.calls.now in
    let w = c.in-Some.word in
    let number : w ≡ suc (w - 1) = above w c.if-word-eq0.false in
    λ m rows next outbox. came_trapped m rows next outbox now c.stop_by-in_default-function_at.new.calls _ _ c.stop_by-in_default-function_at.result a.left.now (indirect_nowhere a.code.now a.function.now (process_in m rows next outbox now) (frame_of now.frame) (map frame_of now.callers) a.arguments w c.in-Some.ensures (w - 1) number c.in_default-function_at.ensures.is) c.stop_by-in_default-function_at.ensures.result c.stop_by-in_default-function_at.ensures.calls

pub returns-then-as_slice-arguments : goal.returns-then-as_slice-arguments
returns-then-as_slice-arguments c =
    let a = c.args in
    let now = a.calls.now in
    let w = c.in-Some.word in
    let number : w ≡ suc (w - 1) = above w c.if-word-eq0.false in
    let s = c.in-Some-signature_of.signature.now in
    let same : length c.as_slice.result.now ≡ length s.params = ap length c.as_slice.ensures in
    λ m rows next outbox. came_trapped m rows next outbox now c.stop_by-then-as_slice-arguments.new.calls _ _ c.stop_by-then-as_slice-arguments.result a.left.now (indirect_other a.code.now a.function.now (process_in m rows next outbox now) (frame_of now.frame) (map frame_of now.callers) a.arguments w c.in-Some.ensures (w - 1) c.in-Some-function_at.callee.now s number c.in-Some-function_at.ensures.is c.in-Some-signature_of.ensures (λ e. c.if-as_slice-arguments.true (same ∙ e))) c.stop_by-then-as_slice-arguments.ensures.result c.stop_by-then-as_slice-arguments.ensures.calls

pub enter-requires-clause-words : goal.enter-requires-clause-words
enter-requires-clause-words c = omega (arith, slice_get_within c.args.calls.now.frame.stack c.args.arguments c.in-Some.word (sym c.in-Some.ensures))

pub returns : goal.returns
returns c =
    let a = c.args in
    let now = a.calls.now in
    let w = c.in-Some.word in
    let number : w ≡ suc (w - 1) = above w c.if-word-eq0.false in
    let s = c.in-Some-signature_of.signature.now in
    let same : length c.as_slice.result.now ≡ length s.params = ap length c.as_slice.ensures in
    let count : length s.params ≡ a.arguments = sym same ∙ c.if-as_slice-arguments.false in
    λ m rows next outbox.
    let u : Under a.arguments now.frame.stack [] w = under a.code.now a.function.now (process_in m rows next outbox now) (frame_of now.frame) (map frame_of now.callers) a.arguments w c.in-Some.ensures in
    came_as _ _ _ _ _ _ _ (indirect_goes a.code.now a.function.now (process_in m rows next outbox now) (frame_of now.frame) (map frame_of now.callers) a.arguments w c.in-Some.ensures (w - 1) c.in-Some-function_at.callee.now s number c.in-Some-function_at.ensures.is c.in-Some-signature_of.ensures count) (c.enter.ensures u.args (w ∷ u.below) u.is m rows next outbox)
