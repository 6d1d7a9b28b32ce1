-- A pause changes nothing, and a run ends in one way.
use Rattle.std.proofs.Common.{◌≡◌, ◌∙◌, refl, ap, sym, subst, ℕ, zero, suc, ◌+◌, Option, Some, None, arith}
use Rattle.lu_base.specs.declared.trap.Trap.{Trap}
use Rattle.lu_base.specs.declared.trap.Trap.TheVariants.{Budget}
use Rattle.bm_code.specs.declared.code.MachineCode.{MachineCode}
use Rattle.lu_base.specs.declared.world.World.{World}
use Rattle.bm_code.specs.Process.{Process}
use Rattle.bm_code.specs.Transfers.{Effect, Next, Spends, Returns, Traps}
use Rattle.bm_code.specs.Step.{step_instruction}
use Rattle.bm_code.specs.Run.{Returned, Trapped, Paused, Final, final, spend, onward, run_machine, RunsTo}
use Rattle.bm_code.specs.Laws.{Compose, EndInOneWay}

some_in : {A : Type 0} (a b : A) → Some a ≡ Some b → a ≡ b
some_in a b h = cc

is_none : (r : Final) → None ≡ Some r → ⊥
is_none r h = cc

trap_paused : (t : Trap) (x q : Process) → Some (final (Trapped t) x) ≡ Some (final Paused q) → ⊥
trap_paused t x q h = let e : Trapped t ≡ Paused = ap (λ f. f.ending) (some_in _ _ h) in cc

return_paused : (v : ℕ) (x q : Process) → Some (final (Returned v) x) ≡ Some (final Paused q) → ⊥
return_paused v x q h = let e : Returned v ≡ Paused = ap (λ f. f.ending) (some_in _ _ h) in cc

paused_same : (p q : Process) → Some (final Paused p) ≡ Some (final Paused q) → p ≡ q
paused_same p q h = ap (λ f. f.process) (some_in _ _ h)

some_same : {A : Type 0} (o : Option A) (r s : A) → o ≡ Some r → o ≡ Some s → r ≡ s
some_same o r s a b = cc

module _ (code : MachineCode) (world : World) where
  -- one instruction more at the front
  before : (left : ℕ) (p : Process) (e : Effect) (r : Final) → step_instruction code world p ≡ e → (n : ℕ) → onward e (run_machine code world n) left p ≡ Some r → RunsTo code world left p r
  before left p e r is n h = record { steps = suc n; is = ap (λ e. onward e (run_machine code world n) left p) is ∙ h }

  paused : (n m j k : ℕ) (p q : Process) (r : Final) → run_machine code world n j p ≡ Some (final Paused q) → run_machine code world m k q ≡ Some r → RunsTo code world (j + k) p r
  paused zero m j k p q r a b = absurd (is_none (final Paused q) a)
  paused (suc n) m j k p q r a b = by_effect (step_instruction code world p) refl a (λ j x h. paused n m j k x q r h b)
    where
      by_spare : (s j : ℕ) (x : Process) → p.spare ≡ s → step_instruction code world p ≡ Spends x → spend s j (run_machine code world n) p x ≡ Some (final Paused q) → ((j : ℕ) (x : Process) → run_machine code world n j x ≡ Some (final Paused q) → RunsTo code world (j + k) x r) → RunsTo code world (j + k) p r
      by_spare zero j x at is h again = absurd (trap_paused Budget _ q h)
      by_spare (suc s) zero x at is h again =
          let same = paused_same p q h in
          let none : k ≡ 0 + k = omega arith in
          record { steps = m; is = subst (λ n. run_machine code world m n p ≡ Some r) none (subst (λ x. run_machine code world m k x ≡ Some r) (sym same) b) }
      by_spare (suc s) (suc j) x at is h again =
          let rest = again j (record x { spare = s }) h in
          let more : suc (j + k) ≡ suc j + k = omega arith in
          subst (λ n. RunsTo code world n p r) more (before (suc (j + k)) p (Spends x) r is rest.steps (ap (λ t. spend t (suc (j + k)) (run_machine code world rest.steps) p x) at ∙ rest.is))

      by_effect : (e : Effect) → step_instruction code world p ≡ e → onward e (run_machine code world n) j p ≡ Some (final Paused q) → ((j : ℕ) (x : Process) → run_machine code world n j x ≡ Some (final Paused q) → RunsTo code world (j + k) x r) → RunsTo code world (j + k) p r
      by_effect (Next x) is h again = let rest = again j x h in before (j + k) p (Next x) r is rest.steps rest.is
      by_effect (Spends x) is h again = by_spare p.spare j x refl is h again
      by_effect (Returns v x) is h again = absurd (return_paused v x q h)
      by_effect (Traps t x) is h again = absurd (trap_paused t x q h)

  pub composes : Compose code world
  composes j k p q r a b = paused a.steps b.steps j k p q r a.is b.is

  -- more instructions change nothing of a run that is over
  longer : (n m left : ℕ) (p : Process) (r s : Final) → run_machine code world n left p ≡ Some r → run_machine code world m left p ≡ Some s → r ≡ s
  longer zero m left p r s a b = absurd (is_none r a)
  longer (suc n) zero left p r s a b = absurd (is_none s b)
  longer (suc n) (suc m) left p r s a b = by_effect (step_instruction code world p) a b (λ l x. longer n m l x r s)
    where
      by_spare : (t l : ℕ) (x : Process) → spend t l (run_machine code world n) p x ≡ Some r → spend t l (run_machine code world m) p x ≡ Some s → ((l : ℕ) (x : Process) → run_machine code world n l x ≡ Some r → run_machine code world m l x ≡ Some s → r ≡ s) → r ≡ s
      by_spare zero l x a b again = some_same _ r s a b
      by_spare (suc t) zero x a b again = some_same _ r s a b
      by_spare (suc t) (suc l) x a b again = again l (record x { spare = t }) a b

      by_effect : (e : Effect) → onward e (run_machine code world n) left p ≡ Some r → onward e (run_machine code world m) left p ≡ Some s → ((l : ℕ) (x : Process) → run_machine code world n l x ≡ Some r → run_machine code world m l x ≡ Some s → r ≡ s) → r ≡ s
      by_effect (Next x) a b again = again left x a b
      by_effect (Spends x) a b again = by_spare p.spare left x a b again
      by_effect (Returns v x) a b again = some_same _ r s a b
      by_effect (Traps t x) a b again = some_same _ r s a b

  pub one_end : EndInOneWay code world
  one_end j p r s a b = longer a.steps b.steps j p r s a.is b.is
