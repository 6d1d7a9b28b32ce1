-- Each run ends.
use Rattle.std.proofs.Common.{◌≡◌, ◌∙◌, refl, ap, sym, subst, ℕ, zero, suc, ◌+◌, ◌*◌, ◌<◌, ◌≤◌, Some, arith}
use Rattle.lu_base.specs.declared.trap.Trap.TheVariants.{Budget}
use Rattle.bm_code.specs.declared.code.MachineCode.{MachineCode}
use Rattle.lu_base.specs.declared.world.World.{World}
use Rattle.bm_code.specs.Process.{Process}
use Rattle.bm_code.specs.Transfers.{Effect, Next, Spends, Returns, Traps, idle}
use Rattle.bm_code.specs.Step.{step_instruction}
use Rattle.bm_code.specs.Run.{Returned, Trapped, Paused, Final, final, spend, onward, run_machine}
use Rattle.bm_code.specs.Measure.{ahead, longest, weight}
use Rattle.bm_code.specs.Laws.{AlwaysEnd}
use Rattle.bm_code.proofs.Falls.{Falls, step_falls}

pub tick_falls : (left n a b : ℕ) → a ≤ b + n → left * (n + 1) + a < suc left * (n + 1) + b
tick_falls left n a b h = omega arith

module _ (code : MachineCode) (world : World) where
  abbrev Ended : ℕ → ℕ → Process → Type 0
  Ended n left p = (r : Final) × (run_machine code world n left p ≡ Some r)

  ends_within : (n left : ℕ) (p : Process) → weight code left p < n → Ended n left p
  ends_within zero left p lt = absurd (omega arith)
  ends_within (suc n) left p lt = by_effect (step_instruction code world p) refl (step_falls code world p p.activity) (ends_within n)
    where
      by_spare : (s l : ℕ) (q : Process) → p.spare ≡ s → left ≡ l → step_instruction code world p ≡ Spends q → ahead code.functions q.activity ≤ ahead code.functions p.activity + longest code.functions → ((left : ℕ) (p : Process) → weight code left p < n → Ended n left p) → Ended (suc n) left p
      by_spare zero l q at is e le again = (final (Trapped Budget) (idle (Some Budget) p), ap (λ e. onward e (run_machine code world n) left p) e ∙ ap (λ s. spend s left (run_machine code world n) p q) at)
      by_spare (suc s) zero q at is e le again = (final Paused p, ap (λ e. onward e (run_machine code world n) left p) e ∙ (ap (λ s. spend s left (run_machine code world n) p q) at ∙ ap (λ l. spend (suc s) l (run_machine code world n) p q) is))
      by_spare (suc s) (suc l) q at is e le again =
          let less : weight code l (record q { spare = s }) < suc l * (longest code.functions + 1) + ahead code.functions p.activity = tick_falls l (longest code.functions) (ahead code.functions q.activity) (ahead code.functions p.activity) le in
          let total : suc l * (longest code.functions + 1) + ahead code.functions p.activity ≡ weight code left p = ap (λ l. l * (longest code.functions + 1) + ahead code.functions p.activity) (sym is) in
          let r = again l (record q { spare = s }) (omega (arith, less, total, lt)) in
          (r.0, ap (λ e. onward e (run_machine code world n) left p) e ∙ (ap (λ s. spend s left (run_machine code world n) p q) at ∙ (ap (λ l. spend (suc s) l (run_machine code world n) p q) is ∙ r.1)))

      by_effect : (e : Effect) → step_instruction code world p ≡ e → Falls code world p.activity (step_instruction code world p) → ((left : ℕ) (p : Process) → weight code left p < n → Ended n left p) → Ended (suc n) left p
      by_effect (Next q) e f again =
          let less : ahead code.functions q.activity < ahead code.functions p.activity = subst (Falls code world p.activity) e f in
          let r = again left q (omega (arith, less, lt)) in
          (r.0, ap (λ e. onward e (run_machine code world n) left p) e ∙ r.1)
      by_effect (Spends q) e f again = by_spare p.spare left q refl refl e (subst (Falls code world p.activity) e f) again
      by_effect (Returns v q) e f again = (final (Returned v) q, ap (λ e. onward e (run_machine code world n) left p) e)
      by_effect (Traps t q) e f again = (final (Trapped t) q, ap (λ e. onward e (run_machine code world n) left p) e)

  pub always_end : AlwaysEnd code world
  always_end ticks p =
      let r = ends_within (suc (weight code ticks p)) ticks p (omega arith) in
      (r.0, record { steps = suc (weight code ticks p); is = r.1 })
