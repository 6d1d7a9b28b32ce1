-- A call that pauses still runs.
use Rattle.std.proofs.Common.{◌≡◌, refl, sym, ap, subst, ℕ, zero, suc, Bool, true, false, true≢false, Option, Some, None}
use Rattle.lu_base.specs.declared.trap.Trap.{Trap}
use Rattle.lu_base.specs.declared.trap.Trap.TheVariants.{Budget}
use Rattle.lu_base.specs.declared.world.World.{World}
use Rattle.bm_code.specs.declared.code.MachineCode.{MachineCode}
use Rattle.bm_code.specs.Calls.{is_running}
use Rattle.bm_code.specs.Process.{Process, Activity, Idle, Starting, Running}
use Rattle.bm_code.specs.Transfers.{Effect, Next, Spends, Returns, Traps, idle}
use Rattle.bm_code.specs.Step.{step_in, step_instruction}
use Rattle.bm_code.specs.Run.{Ending, Returned, Trapped, Paused, Final, final, spend, onward, run_machine, RunsTo}

abbrev is_pause : Ending → Bool
is_pause (Returned v) = false
is_pause (Trapped t) = false
is_pause Paused = true

abbrev pauses : Option Final → Bool
pauses None = false
pauses (Some f) = is_pause f.ending

no_pause : (t : Trap) (p q : Process) → Some (final (Trapped t) p) ≡ Some (final Paused q) → ⊥
no_pause t p q e = true≢false (sym (ap pauses e))

no_return : (v : ℕ) (p q : Process) → Some (final (Returned v) p) ≡ Some (final Paused q) → ⊥
no_return v p q e = true≢false (sym (ap pauses e))

abbrev left_by : Process → Option Final → Process
left_by other None = other
left_by other (Some f) = f.process

same_process : (p q : Process) → Some (final Paused p) ≡ Some (final Paused q) → p ≡ q
same_process p q e = ap (left_by p) e

module _ (code : MachineCode) (world : World) where
  -- an instruction takes a tick only where a call runs
  spends : (p x : Process) (a : Activity) → step_in code world p a ≡ Spends x → is_running a ≡ true
  spends p x (Idle None) e = absurd (cc)
  spends p x (Idle (Some t)) e = absurd (cc)
  spends p x (Starting f args) e = refl
  spends p x (Running frame callers) e = refl

  paused : (n left : ℕ) (p q : Process) → run_machine code world n left p ≡ Some (final Paused q) → is_running q.activity ≡ true
  paused zero left p q e = absurd (cc)
  paused (suc n) left p q e = by_effect (step_instruction code world p) refl e (λ left y e. paused n left y q e)
    where
      by_spare : (s left : ℕ) (x : Process) → step_instruction code world p ≡ Spends x → spend s left (run_machine code world n) p x ≡ Some (final Paused q) → ((left : ℕ) (y : Process) → run_machine code world n left y ≡ Some (final Paused q) → is_running q.activity ≡ true) → is_running q.activity ≡ true
      by_spare zero left x is e later = absurd (no_pause Budget (idle (Some Budget) p) q e)
      by_spare (suc s) zero x is e later =
          subst (λ q. is_running q.activity ≡ true) (same_process p q e) (spends p x p.activity is)
      by_spare (suc s) (suc left) x is e later = later left (record x { spare = s }) e

      by_effect : (f : Effect) → step_instruction code world p ≡ f → onward f (run_machine code world n) left p ≡ Some (final Paused q) → ((left : ℕ) (y : Process) → run_machine code world n left y ≡ Some (final Paused q) → is_running q.activity ≡ true) → is_running q.activity ≡ true
      by_effect (Next x) is e later = later left x e
      by_effect (Spends x) is e later = by_spare p.spare left x is e later
      by_effect (Returns v x) is e later = absurd (no_return v x q e)
      by_effect (Traps t x) is e later = absurd (no_pause t x q e)

  pub paused-runs : (ticks : ℕ) (p q : Process) → RunsTo code world ticks p (final Paused q) → is_running q.activity ≡ true
  paused-runs ticks p q run = paused run.steps ticks p q run.is
