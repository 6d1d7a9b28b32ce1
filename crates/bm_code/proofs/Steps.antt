-- Instructions that go on, and runs.
use Rattle.std.proofs.Common.{◌≡◌, ◌∙◌, refl, ap, sym, subst, ℕ, zero, suc, ◌+◌, ◌<◌, Option, Some, None, arith}
use Rattle.std.specs.Option.{option_map}
use Rattle.lu_spec.specs.Then.{then_option}
use Rattle.lu_base.specs.declared.trap.Trap.{Trap}
use Rattle.lu_base.specs.declared.trap.Trap.TheVariants.{Budget}
use Rattle.bm_code.specs.declared.code.MachineCode.{MachineCode}
use Rattle.lu_base.specs.declared.world.World.{World}
use Rattle.bm_code.specs.Process.{Process}
use Rattle.bm_code.specs.Transfers.{Effect, Next, Spends, Returns, Traps, idle}
use Rattle.bm_code.specs.Step.{step_instruction}
use Rattle.bm_code.specs.Steps.{Progress, progress, ticked, progress_by, after_ticks, advance, Steps}
use Rattle.bm_code.specs.Run.{Returned, Trapped, Paused, Final, final, spend, onward, run_machine, RunsTo}
use Rattle.bm_code.specs.Laws.{BeginWith, StepOnce, StepsCompose, StepsProlong, IsPause, PauseAfterSteps}

some_in : {A : Type 0} (a b : A) → Some a ≡ Some b → a ≡ b
some_in a b h = cc

none_some : {A : Type 0} (a : A) → None ≡ Some a → ⊥
none_some a h = cc

-- what the rest gave, where it gave something
mapped_in : {A B : Type 0} (f : A → B) (o : Option A) (b : B) → option_map f o ≡ Some b → (a : A) × (o ≡ Some a) × (f a ≡ b)
mapped_in f None b e = absurd (none_some b e)
mapped_in f (Some a) b e = (a, refl, some_in (f a) b e)

then_in : {A B : Type 0} (f : A → Option B) (o : Option A) (b : B) → then_option o f ≡ Some b → (a : A) × (o ≡ Some a) × (f a ≡ Some b)
then_in f None b e = absurd (none_some b e)
then_in f (Some a) b e = (a, refl, e)

module _ (code : MachineCode) (world : World) where
  -- one instruction more at the front of a run
  before : (ticks : ℕ) (p : Process) (e : Effect) (r : Final) → step_instruction code world p ≡ e → (n : ℕ) → onward e (run_machine code world n) ticks p ≡ Some r → RunsTo code world ticks p r
  before ticks p e r is n h = record { steps = suc n; is = ap (λ e. onward e (run_machine code world n) ticks p) is ∙ h }

  pub run_next : (ticks : ℕ) (p q : Process) (r : Final) → step_instruction code world p ≡ Next q → RunsTo code world ticks q r → RunsTo code world ticks p r
  run_next ticks p q r e run = before ticks p (Next q) r e run.steps run.is

  pub run_tick : (ticks spare : ℕ) (p q : Process) (r : Final) → step_instruction code world p ≡ Spends q → p.spare ≡ suc spare → RunsTo code world ticks (record q { spare = spare }) r → RunsTo code world (suc ticks) p r
  run_tick ticks spare p q r e at run =
      before (suc ticks) p (Spends q) r e run.steps (ap (λ s. spend s (suc ticks) (run_machine code world run.steps) p q) at ∙ run.is)

  pub run_returns : (ticks v : ℕ) (p q : Process) → step_instruction code world p ≡ Returns v q → RunsTo code world ticks p (final (Returned v) q)
  run_returns ticks v p q e = before ticks p (Returns v q) (final (Returned v) q) e 0 refl

  pub run_traps : (ticks : ℕ) (t : Trap) (p q : Process) → step_instruction code world p ≡ Traps t q → RunsTo code world ticks p (final (Trapped t) q)
  run_traps ticks t p q e = before ticks p (Traps t q) (final (Trapped t) q) e 0 refl

  pub run_budget : (ticks : ℕ) (p q : Process) → step_instruction code world p ≡ Spends q → p.spare ≡ 0 → RunsTo code world ticks p (final (Trapped Budget) (idle (Some Budget) p))
  run_budget ticks p q e at =
      before ticks p (Spends q) (final (Trapped Budget) (idle (Some Budget) p)) e 0 (ap (λ s. spend s ticks (run_machine code world 0) p q) at)

  pub run_pause : (p q : Process) → step_instruction code world p ≡ Spends q → 0 < p.spare → RunsTo code world 0 p (final Paused p)
  run_pause p q e some = by_spare p.spare refl
    where
      by_spare : (s : ℕ) → p.spare ≡ s → RunsTo code world 0 p (final Paused p)
      by_spare zero at = absurd (omega (arith, some, at))
      by_spare (suc s) at = before 0 p (Spends q) (final Paused p) e 0 (ap (λ s. spend s 0 (run_machine code world 0) p q) at)

  pub begin_with : BeginWith code world
  begin_with = record { next = run_next; tick = run_tick; returns = run_returns; traps = run_traps; budget = run_budget; pause = run_pause }

  -- one instruction that goes on, and further ones
  pub steps_more : (n : ℕ) (p : Process) (a b : Progress) → progress_by (step_instruction code world p) p ≡ Some a → advance code world n a.process ≡ Some b → advance code world (suc n) p ≡ Some (after_ticks a.spent b)
  steps_more n p a b e f =
      ap (λ o. then_option o (λ a. option_map (after_ticks a.spent) (advance code world n a.process))) e
      ∙ ap (option_map (after_ticks a.spent)) f

  pub once_next : (p q : Process) → step_instruction code world p ≡ Next q → Steps code world 1 0 p q
  once_next p q e = steps_more 0 p (progress q 0) (progress q 0) (ap (λ e. progress_by e p) e) refl

  pub once_tick : (spare : ℕ) (p q : Process) → step_instruction code world p ≡ Spends q → p.spare ≡ suc spare → Steps code world 1 1 p (record q { spare = spare })
  once_tick spare p q e at =
      let x : Process = record q { spare = spare } in
      steps_more 0 p (progress x 1) (progress x 0) (ap (λ e. progress_by e p) e ∙ ap (λ s. ticked s q) at) refl

  pub step_once : StepOnce code world
  step_once = record { next = once_next; tick = once_tick }

  -- the first instruction of some, and the others
  pub record Split (n : ℕ) (p : Process) (b : Progress) : Type 0 where
    pub one : Progress
    pub rest : Progress
    pub first : progress_by (step_instruction code world p) p ≡ Some one
    pub others : advance code world n one.process ≡ Some rest
    pub whole : after_ticks one.spent rest ≡ b

  pub split : (n : ℕ) (p : Process) (b : Progress) → advance code world (suc n) p ≡ Some b → Split n p b
  split n p b e =
      let t = then_in (λ a. option_map (after_ticks a.spent) (advance code world n a.process)) (progress_by (step_instruction code world p) p) b e in
      let m = mapped_in (after_ticks t.0.spent) (advance code world n t.0.process) b t.2 in
      record { one = t.0; rest = m.0; first = t.1; others = m.1; whole = m.2 }

  pub steps_compose : StepsCompose code world
  steps_compose zero m a b p q r s t =
      let same : progress p 0 ≡ progress q a = some_in _ _ s in
      let at : p ≡ q = ap (λ x. x.process) same in
      let none : 0 ≡ a = ap (λ x. x.spent) same in
      let sum : b ≡ a + b = omega (arith, none) in
      let count : m ≡ 0 + m = omega arith in
      subst (λ c. Steps code world c (a + b) p r) count (subst (λ k. Steps code world m k p r) sum (subst (λ q. Steps code world m b q r) (sym at) t))
  steps_compose (suc n) m a b p q r s t =
      let f = split n p (progress q a) s in
      let at : f.rest.process ≡ q = ap (λ x. x.process) f.whole in
      let sum : f.one.spent + f.rest.spent ≡ a = ap (λ x. x.spent) f.whole in
      let all : f.one.spent + (f.rest.spent + b) ≡ a + b = omega (arith, sum) in
      let rest = steps_compose n m f.rest.spent b f.one.process f.rest.process r f.others (subst (λ q. advance code world m q ≡ Some (progress r b)) (sym at) t) in
      let count : suc (n + m) ≡ suc n + m = omega arith in
      subst (λ c. Steps code world c (a + b) p r) count (subst (λ k. Steps code world (suc (n + m)) k p r) all (steps_more (n + m) p f.one (progress r (f.rest.spent + b)) f.first rest))

  -- a run after one instruction that goes on
  one_prolongs : (ticks : ℕ) (p : Process) (a : Progress) (r : Final) → progress_by (step_instruction code world p) p ≡ Some a → RunsTo code world ticks a.process r → RunsTo code world (a.spent + ticks) p r
  one_prolongs ticks p a r e run = by_effect (step_instruction code world p) refl e
    where
      by_spare : (s : ℕ) (x : Process) → p.spare ≡ s → step_instruction code world p ≡ Spends x → ticked s x ≡ Some a → RunsTo code world (a.spent + ticks) p r
      by_spare zero x at is h = absurd (none_some a h)
      by_spare (suc s) x at is h =
          let same : progress (record x { spare = s }) 1 ≡ a = some_in _ _ h in
          let more : suc ticks ≡ 1 + ticks = omega arith in
          subst (λ a. RunsTo code world (a.spent + ticks) p r) same (subst (λ t. RunsTo code world t p r) more (run_tick ticks s p x r is at (subst (λ a. RunsTo code world ticks a.process r) (sym same) run)))

      by_effect : (e : Effect) → step_instruction code world p ≡ e → progress_by e p ≡ Some a → RunsTo code world (a.spent + ticks) p r
      by_effect (Next x) is h =
          let same : progress x 0 ≡ a = some_in _ _ h in
          let none : ticks ≡ 0 + ticks = omega arith in
          subst (λ a. RunsTo code world (a.spent + ticks) p r) same (subst (λ t. RunsTo code world t p r) none (run_next ticks p x r is (subst (λ a. RunsTo code world ticks a.process r) (sym same) run)))
      by_effect (Spends x) is h = by_spare p.spare x refl is h
      by_effect (Returns v x) is h = absurd (none_some a h)
      by_effect (Traps t x) is h = absurd (none_some a h)

  pub steps_prolong : StepsProlong code world
  steps_prolong zero spent ticks p q r s run =
      let same : progress p 0 ≡ progress q spent = some_in _ _ s in
      let at : p ≡ q = ap (λ x. x.process) same in
      let none : 0 ≡ spent = ap (λ x. x.spent) same in
      let sum : ticks ≡ spent + ticks = omega (arith, none) in
      subst (λ t. RunsTo code world t p r) sum (subst (λ q. RunsTo code world ticks q r) (sym at) run)
  steps_prolong (suc n) spent ticks p q r s run =
      let f = split n p (progress q spent) s in
      let at : f.rest.process ≡ q = ap (λ x. x.process) f.whole in
      let sum : f.one.spent + f.rest.spent ≡ spent = ap (λ x. x.spent) f.whole in
      let all : f.one.spent + (f.rest.spent + ticks) ≡ spent + ticks = omega (arith, sum) in
      let rest = steps_prolong n f.rest.spent ticks f.one.process f.rest.process r f.others (subst (λ q. RunsTo code world ticks q r) (sym at) run) in
      subst (λ t. RunsTo code world t p r) all (one_prolongs (f.rest.spent + ticks) p f.one r f.first rest)

  paused_in : (p q : Process) → Some (final Paused p) ≡ Some (final Paused q) → p ≡ q
  paused_in p q h = ap (λ f. f.process) (some_in _ _ h)

  trap_paused : (t : Trap) (x q : Process) → Some (final (Trapped t) x) ≡ Some (final Paused q) → ⊥
  trap_paused t x q h = let e : Trapped t ≡ Paused = ap (λ f. f.ending) (some_in _ _ h) in cc

  return_paused : (v : ℕ) (x q : Process) → Some (final (Returned v) x) ≡ Some (final Paused q) → ⊥
  return_paused v x q h = let e : Returned v ≡ Paused = ap (λ f. f.ending) (some_in _ _ h) in cc

  -- one instruction before a pause
  pause_on : (ticks : ℕ) (p : Process) (a : Progress) (q : Process) → progress_by (step_instruction code world p) p ≡ Some a → IsPause code world ticks a.process q → IsPause code world (a.spent + ticks) p q
  pause_on ticks p a q e c = record {
    count = suc c.count;
    steps = steps_more c.count p a (progress q ticks) e c.steps;
    next = c.next;
    needs = c.needs;
    spare = c.spare;
  }

  pause_within : (n ticks : ℕ) (p q : Process) → run_machine code world n ticks p ≡ Some (final Paused q) → IsPause code world ticks p q
  pause_within zero ticks p q h = absurd (none_some (final Paused q) h)
  pause_within (suc n) ticks p q h = by_effect (step_instruction code world p) refl h (pause_within n)
    where
      by_spare : (s t : ℕ) (x : Process) → ticks ≡ t → p.spare ≡ s → step_instruction code world p ≡ Spends x → spend s t (run_machine code world n) p x ≡ Some (final Paused q) → ((ticks : ℕ) (p q : Process) → run_machine code world n ticks p ≡ Some (final Paused q) → IsPause code world ticks p q) → IsPause code world t p q
      by_spare zero t x left at is h again = absurd (trap_paused Budget _ q h)
      by_spare (suc s) zero x left at is h again =
          subst (IsPause code world 0 p) (paused_in p q h) (record { count = 0; steps = refl; next = x; needs = is; spare = omega (arith, at) })
      by_spare (suc s) (suc t) x left at is h again =
          let y : Process = record x { spare = s } in
          let more : 1 + t ≡ suc t = omega arith in
          subst (λ t. IsPause code world t p q) more (pause_on t p (progress y 1) q (ap (λ e. progress_by e p) is ∙ ap (λ s. ticked s x) at) (again t y q h))

      by_effect : (e : Effect) → step_instruction code world p ≡ e → onward e (run_machine code world n) ticks p ≡ Some (final Paused q) → ((ticks : ℕ) (p q : Process) → run_machine code world n ticks p ≡ Some (final Paused q) → IsPause code world ticks p q) → IsPause code world ticks p q
      by_effect (Next x) is h again =
          let none : 0 + ticks ≡ ticks = omega arith in
          subst (λ t. IsPause code world t p q) none (pause_on ticks p (progress x 0) q (ap (λ e. progress_by e p) is) (again ticks x q h))
      by_effect (Spends x) is h again = by_spare p.spare ticks x refl refl is h again
      by_effect (Returns v x) is h again = absurd (return_paused v x q h)
      by_effect (Traps t x) is h again = absurd (trap_paused t x q h)

  pub pause_after_steps : PauseAfterSteps code world
  pause_after_steps ticks p q run = pause_within run.steps ticks p q run.is
