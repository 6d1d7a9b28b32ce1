-- What runs keep.
use Rattle.std.proofs.Common.{◌≡◌, ◌≢◌, ◌∙◌, refl, ap, subst, true, false, ℕ, zero, suc, ◌+◌, Some, None, arith}
use Rattle.lu_base.specs.declared.world.World.{World}
use Rattle.bm_code.specs.declared.code.MachineCode.{MachineCode}
use Rattle.bm_code.specs.declared.stop.Stop.{Stop}
use Rattle.bm_code.specs.declared.stop.Stop.TheVariants as S
use Rattle.bm_code.specs.Process.{Activity, Idle, Starting, Running, Process}
use Rattle.bm_code.specs.Calls.{is_running}
use Rattle.bm_code.specs.Ran.{AddsObject, IsRun}
use Rattle.bm_code.specs.Run.{Ending, Returned, Trapped, Paused, Final, final, spend, onward, run_machine}
use Rattle.bm_code.specs.Step.{step_in, step_instruction}
use Rattle.bm_code.specs.Steps.{Progress, progress, ticked, progress_by, advance}
use Rattle.bm_code.specs.Transfers.{Effect, Next, Spends, Returns, Traps}
use Rattle.bm_code.proofs.Steps.{split, pause_after_steps}
use Rattle.bm_cpu.specs.State.{MachineState, with_process}
use Rattle.cg_server.specs.Deliveries.{delivered, is_unfinished}
use Rattle.cg_server.specs.Messages.{has_messages}
use Rattle.cg_server.proofs.Keeps.{KeepsMessages, Keeps, step_keeps}

some_in : {A : Type 0} (a b : A) → Some a ≡ Some b → a ≡ b
some_in a b h = cc

none_some : {A : Type 0} (a : A) → None ≡ Some a → ⊥
none_some a h = cc

-- no call runs, unless it paused
abbrev IsOver : Ending → Process → Type 0
IsOver (Returned v) q = is_running q.activity ≡ false
IsOver (Trapped t) q = is_running q.activity ≡ false
IsOver Paused q = Unit {0}

module _ (code : MachineCode) (world : World) where
  record Leaves (p : Process) (r : Final) : Type 0 where
    messages : KeepsMessages p.rows r.process.rows
    over : IsOver r.ending r.process

  leaves_then : (p q : Process) (r : Final) → KeepsMessages p.rows q.rows → Leaves q r → Leaves p r
  leaves_then p q r k l = record { messages = λ h. l.messages (k h); over = l.over }

  run_leaves : (n left : ℕ) (p : Process) (r : Final) → run_machine code world n left p ≡ Some r → Leaves p r
  run_leaves zero left p r h = absurd (none_some r h)
  run_leaves (suc n) left p r h = by_effect (step_instruction code world p) (step_keeps code world p) h (run_leaves n)
    where
      by_spare : (s l : ℕ) (x : Process) → KeepsMessages p.rows x.rows → spend s l (run_machine code world n) p x ≡ Some r → ((left : ℕ) (p : Process) (r : Final) → run_machine code world n left p ≡ Some r → Leaves p r) → Leaves p r
      by_spare zero l x k h again = subst (Leaves p) (some_in _ r h) (record { messages = λ m. m; over = refl })
      by_spare (suc s) zero x k h again = subst (Leaves p) (some_in _ r h) (record { messages = λ m. m; over = tt })
      by_spare (suc s) (suc l) x k h again = leaves_then p (record x { spare = s }) r k (again l (record x { spare = s }) r h)

      by_effect : (e : Effect) → Keeps code world p e → onward e (run_machine code world n) left p ≡ Some r → ((left : ℕ) (p : Process) (r : Final) → run_machine code world n left p ≡ Some r → Leaves p r) → Leaves p r
      by_effect (Next x) k h again = leaves_then p x r k.1 (again left x r h)
      by_effect (Spends x) k h again = by_spare p.spare left x k.1 h again
      by_effect (Returns v x) k h again = subst (Leaves p) (some_in _ r h) (record { messages = k.1; over = k.0 })
      by_effect (Traps t x) k h again = subst (Leaves p) (some_in _ r h) (record { messages = k.1; over = k.0 })

  -- instructions that go on: what they spend is no longer to spare
  record Goes (p : Process) (a : Progress) : Type 0 where
    spare : a.spent + a.process.spare ≡ p.spare
    messages : KeepsMessages p.rows a.process.rows

  one_goes : (p : Process) (a : Progress) → progress_by (step_instruction code world p) p ≡ Some a → Goes p a
  one_goes p a h = by_effect (step_instruction code world p) (step_keeps code world p) h
    where
      by_spare : (s : ℕ) (x : Process) → p.spare ≡ s → KeepsMessages p.rows x.rows → ticked s x ≡ Some a → Goes p a
      by_spare zero x at k h = absurd (none_some a h)
      by_spare (suc s) x at k h =
          let all : 1 + s ≡ p.spare = omega (arith, at) in
          subst (Goes p) (some_in (progress (record x { spare = s }) 1) a h) (record { spare = all; messages = k })

      by_effect : (e : Effect) → Keeps code world p e → progress_by e p ≡ Some a → Goes p a
      by_effect (Next x) k h =
          let all : 0 + x.spare ≡ p.spare = omega (arith, k.0) in
          subst (Goes p) (some_in (progress x 0) a h) (record { spare = all; messages = k.1 })
      by_effect (Spends x) k h = by_spare p.spare x refl k.1 h
      by_effect (Returns v x) k h = absurd (none_some a h)
      by_effect (Traps t x) k h = absurd (none_some a h)

  steps_go : (n : ℕ) (p : Process) (b : Progress) → advance code world n p ≡ Some b → Goes p b
  steps_go zero p b h =
      let all : 0 + p.spare ≡ p.spare = omega arith in
      subst (Goes p) (some_in (progress p 0) b h) (record { spare = all; messages = λ m. m })
  steps_go (suc n) p b h =
      let s = split code world n p b h in
      let one = one_goes p s.one s.first in
      let rest = steps_go n s.one.process s.rest s.others in
      let all : (s.one.spent + s.rest.spent) + s.rest.process.spare ≡ p.spare = omega (arith, one.spare, rest.spare) in
      subst (Goes p) s.whole (record { spare = all; messages = λ m. rest.messages (one.messages m) })

  -- the messages' rows stay
  pub run_keeps : (ticks : ℕ) (p : Process) (stop : Stop) (q : Process) → IsRun code world ticks p stop q → has_messages p.rows ≡ true → has_messages q.rows ≡ true
  run_keeps ticks p (S.Returned v) q run = (run_leaves run.steps ticks p (final (Returned v) q) run.is).messages
  run_keeps ticks p (S.Trapped t) q run = (run_leaves run.steps ticks p (final (Trapped t) q) run.is).messages
  run_keeps ticks p S.Paused q run = (run_leaves run.steps ticks p (final Paused q) run.is).messages
  run_keeps ticks p S.Memory q run = (steps_go run.count p (progress q run.spent) run.steps).messages

  -- an instruction that needs a tick, or adds an object, is one of a call that runs
  needs_call : (p : Process) (a : Activity) (x : Process) → p.activity ≡ a → step_in code world p a ≡ Spends x → is_running a ≡ true
  needs_call p (Idle None) x e h = absurd (returned h)
    where
      returned : Returns 0 p ≡ Spends x → ⊥
      returned h = cc
  needs_call p (Idle (Some t)) x e h = absurd (trapped h)
    where
      trapped : Traps t p ≡ Spends x → ⊥
      trapped h = cc
  needs_call p (Starting g args) x e h = refl
  needs_call p (Running f callers) x e h = refl

  adds_call : (p : Process) (a : Activity) → AddsObject p (step_in code world p a) → is_running a ≡ true
  adds_call p (Idle None) h = absurd h
  adds_call p (Idle (Some t)) h = absurd h
  adds_call p (Starting g args) h = refl
  adds_call p (Running f callers) h = refl

  -- whether a call runs after a run
  pub run_over : (ticks : ℕ) (p : Process) (stop : Stop) (q : Process) → IsRun code world ticks p stop q → is_running q.activity ≡ is_unfinished stop
  run_over ticks p (S.Returned v) q run = (run_leaves run.steps ticks p (final (Returned v) q) run.is).over
  run_over ticks p (S.Trapped t) q run = (run_leaves run.steps ticks p (final (Trapped t) q) run.is).over
  run_over ticks p S.Paused q run = let pause = pause_after_steps code world ticks p q run in needs_call q q.activity pause.next refl pause.needs
  run_over ticks p S.Memory q run = adds_call q q.activity run.adds

  -- a run of as many ticks as the call has to spare doesn't pause
  pub no_pause : (p : Process) (stop : Stop) (q : Process) → IsRun code world p.spare p stop q → stop ≢ S.Paused
  no_pause p stop q run e = paused (subst (λ s. IsRun code world p.spare p s q) e run)
    where
      paused : IsRun code world p.spare p S.Paused q → ⊥
      paused run =
          let pause = pause_after_steps code world p.spare p q run in
          let all = (steps_go pause.count p (progress q p.spare) pause.steps).spare in
          let some = pause.spare in
          omega (arith, all, some)

-- a call that began on a machine, and how far it has run
module _ (s a b : MachineState) (p : Process) (ticks : ℕ) (stop : Stop) (begun : a ≡ with_process s p) (kept : b ≡ with_process a b.process) (run : IsRun a.code a.world ticks a.process stop b.process) where
  pub run_from : IsRun s.code s.world ticks p stop b.process
  run_from = subst (λ m. IsRun m.code m.world ticks m.process stop b.process) begun run

  pub code_from : b.code ≡ s.code
  code_from = ap (λ m. m.code) kept ∙ ap (λ m. m.code) begun

  pub rows_from : has_messages p.rows ≡ true → has_messages b.process.rows ≡ true
  rows_from = run_keeps s.code s.world ticks p stop b.process run_from

-- no run but one that returned clears the messages
pub delivered_else : (stop : Stop) (p : Process) → ((v : ℕ) → stop ≡ S.Returned v → ⊥) → p ≡ delivered stop p
delivered_else (S.Returned v) p h = absurd (h v refl)
delivered_else (S.Trapped t) p h = refl
delivered_else S.Paused p h = refl
delivered_else S.Memory p h = refl
