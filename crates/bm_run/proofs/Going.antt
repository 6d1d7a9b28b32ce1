-- From steps to runs.
use Rattle.std.proofs.Common.{◌≡◌, ◌∙◌, ap, sym, subst, refl, ℕ, suc, ◌+◌, ◌*◌, ◌<◌, ◌≤◌, length, Some, None, arith}
use Rattle.lu_base.specs.declared.trap.Trap.TheVariants.{Budget}
use Rattle.bm_code.specs.declared.code.MachineCode.{MachineCode}
use Rattle.lu_base.specs.declared.world.World.{World}
use Rattle.bm_code.specs.Process.{Process}
use Rattle.bm_code.specs.Transfers.{Effect, Next, Spends, Returns, Traps, idle}
use Rattle.bm_code.specs.Step.{step_instruction}
use Rattle.bm_code.specs.Steps.{Steps}
use Rattle.bm_code.specs.Run.{Returned, Trapped, Paused, Final, final, RunsTo}
use Rattle.bm_code.specs.Measure.{ahead, longest, weight}
use Rattle.bm_code.proofs.Falls.{Falls, step_falls}
use Rattle.bm_code.proofs.Ends.{tick_falls}
use Rattle.bm_code.proofs.Steps.{once_next, once_tick, steps_prolong, run_returns, run_traps, run_budget, run_pause}
use Rattle.bm_code.specs.declared.stop.Stop.{Stop}
use Rattle.bm_code.specs.declared.stop.Stop.TheVariants as S
use Rattle.bm_code.specs.Ran.{AddsObject, IsRun}
use Rattle.bm_run.specs.Came.{Came}
use Rattle.bm_run.specs.Going.{IsStep}

module _ (code : MachineCode) (world : World) where
  pub record HasGone (left : ℕ) (p : Process) (left' : ℕ) (q : Process) : Type 0 where
    pub spent : ℕ
    pub ticks : left ≡ spent + left'
    pub steps : Steps code world 1 spent p q
    pub falls : weight code left' q < weight code left p

  -- a step that goes on
  pub has_gone : (left : ℕ) (p : Process) (left' : ℕ) (q : Process) → IsStep code world left p None left' q → HasGone left p left' q
  has_gone left p left' q step = by_effect (step_instruction code world p) refl (step_falls code world p p.activity) step
    where
      by_effect : (e : Effect) → step_instruction code world p ≡ e → Falls code world p.activity (step_instruction code world p) → Came e p left None left' q → HasGone left p left' q
      by_effect (Next x) e f c =
          let less : ahead code.functions x.activity < ahead code.functions p.activity = subst (Falls code world p.activity) e f in
          let same : ahead code.functions q.activity ≡ ahead code.functions x.activity = ap (λ x. ahead code.functions x.activity) c.1 in
          let whole : left' * (longest code.functions + 1) ≡ left * (longest code.functions + 1) = ap (λ l. l * (longest code.functions + 1)) c.0 in
          record {
            spent = 0;
            ticks = omega (arith, c.0);
            steps = subst (Steps code world 1 0 p) (sym c.1) (once_next code world p x e);
            falls = omega (arith, less, same, whole);
          }
      by_effect (Spends x) e f c =
          let le : ahead code.functions x.activity ≤ ahead code.functions p.activity + longest code.functions = subst (Falls code world p.activity) e f in
          let same : ahead code.functions q.activity ≡ ahead code.functions x.activity = ap (λ x. ahead code.functions x.activity) c.process in
          let less = tick_falls left' (longest code.functions) (ahead code.functions x.activity) (ahead code.functions p.activity) le in
          let whole : left * (longest code.functions + 1) ≡ suc left' * (longest code.functions + 1) = ap (λ l. l * (longest code.functions + 1)) c.ticks in
          record {
            spent = 1;
            ticks = omega (arith, c.ticks);
            steps = subst (Steps code world 1 1 p) (sym c.process) (once_tick code world q.spare p x e c.spare);
            falls = omega (arith, less, same, whole);
          }
      by_effect (Returns v x) e f c = absurd c
      by_effect (Traps t x) e f c = absurd c

  -- a step that stops ends the run
  pub stops : (ticks count spent left : ℕ) (p q : Process) (s : Stop) (left' : ℕ) (x : Process) → ticks ≡ spent + left → Steps code world count spent p q → IsStep code world left q (Some s) left' x → IsRun code world ticks p s x
  stops ticks count spent left p q s left' x total led step = by_effect (step_instruction code world q) refl s step
    where
      ended : (r : Final) → RunsTo code world left q r → RunsTo code world ticks p r
      ended r run = subst (λ t. RunsTo code world t p r) (sym total) (steps_prolong code world count spent left p q r led run)

      by_effect : (e : Effect) → step_instruction code world q ≡ e → (s : Stop) → Came e q left (Some s) left' x → IsRun code world ticks p s x
      by_effect (Next y) e (S.Returned v) c = absurd c
      by_effect (Next y) e (S.Trapped t) c = absurd c
      by_effect (Next y) e S.Paused c = absurd c
      by_effect (Next y) e S.Memory c =
          let here : step_instruction code world x ≡ Next y = ap (step_instruction code world) c.1 ∙ e in
          let more : length x.rows < length y.rows = omega (arith, c.2, ap (λ p. length p.rows) c.1) in
          record {
            count = count;
            spent = spent;
            within = omega (arith, total);
            steps = subst (Steps code world count spent p) (sym c.1) led;
            adds = subst (AddsObject x) (sym here) more;
          }
      by_effect (Spends y) e (S.Returned v) c = absurd c
      by_effect (Spends y) e (S.Trapped t) c =
          subst (λ x. RunsTo code world ticks p (final (Trapped t) x)) (sym c.2) (subst (λ t. RunsTo code world ticks p (final (Trapped t) (idle (Some Budget) q))) (sym c.1) (ended (final (Trapped Budget) (idle (Some Budget) q)) (run_budget code world left q y e c.0)))
      by_effect (Spends y) e S.Paused c =
          let at : RunsTo code world left q (final Paused q) = subst (λ t. RunsTo code world t q (final Paused q)) (sym c.0) (run_pause code world q y e c.1) in
          subst (λ x. RunsTo code world ticks p (final Paused x)) (sym c.2) (ended (final Paused q) at)
      by_effect (Spends y) e S.Memory c = absurd c
      by_effect (Returns v y) e (S.Returned w) c =
          subst (λ x. RunsTo code world ticks p (final (Returned w) x)) (sym c.1) (subst (λ v. RunsTo code world ticks p (final (Returned v) y)) (sym c.0) (ended (final (Returned v) y) (run_returns code world left v q y e)))
      by_effect (Returns v y) e (S.Trapped t) c = absurd c
      by_effect (Returns v y) e S.Paused c = absurd c
      by_effect (Returns v y) e S.Memory c = absurd c
      by_effect (Traps t y) e (S.Returned v) c = absurd c
      by_effect (Traps t y) e (S.Trapped u) c =
          subst (λ x. RunsTo code world ticks p (final (Trapped u) x)) (sym c.1) (subst (λ t. RunsTo code world ticks p (final (Trapped t) y)) (sym c.0) (ended (final (Trapped t) y) (run_traps code world left t q y e)))
      by_effect (Traps t y) e S.Paused c = absurd c
      by_effect (Traps t y) e S.Memory c = absurd c
