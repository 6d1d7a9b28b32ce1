-- How far a run has come.
use Rattle.std.proofs.Common.{◌≡◌, ap, subst, ℕ, ◌+◌, ◌-◌, ◌<◌, ◌≤◌, Some, None, arith}
use Rattle.bm_code.specs.declared.code.MachineCode.{MachineCode}
use Rattle.lu_base.specs.declared.world.World.{World}
use Rattle.bm_code.specs.Process.{Process}
use Rattle.bm_code.specs.Measure.{weight}
use Rattle.bm_code.specs.Steps.{progress, Steps}
use Rattle.bm_code.proofs.Steps.{steps_compose}
use Rattle.bm_code.specs.declared.stop.Stop.{Stop}
use Rattle.bm_code.specs.Ran.{IsRun}
use Rattle.bm_run.specs.Going.{IsStep}
use Rattle.bm_run.proofs.Going.{HasGone, has_gone, stops}

-- a run of so many ticks from p has come to q by some instructions, with so many ticks left
pub record HasCome (code : MachineCode) (world : World) (ticks : ℕ) (p : Process) (left : ℕ) (q : Process) : Type 0 where
  pub bound : left ≤ ticks
  pub count : ℕ
  pub steps : Steps code world count (ticks - left) p q

module _ (code : MachineCode) (world : World) where
  pub at_first : (ticks : ℕ) (p : Process) → HasCome code world ticks p ticks p
  at_first ticks p =
      let none : 0 ≡ ticks - ticks = omega arith in
      record { bound = omega arith; count = 0; steps = ap (λ n. Some (progress p n)) none }

  pub one_more : (ticks : ℕ) (p : Process) (left : ℕ) (q : Process) (left' : ℕ) (x : Process) → HasCome code world ticks p left q → IsStep code world left q None left' x → HasCome code world ticks p left' x
  one_more ticks p left q left' x h step =
      let g : HasGone code world left q left' x = has_gone code world left q left' x step in
      let sum : ticks - left + g.spent ≡ ticks - left' = omega (arith, h.bound, g.ticks) in
      record {
        bound = omega (arith, h.bound, g.ticks);
        count = h.count + 1;
        steps = subst (λ n. Steps code world (h.count + 1) n p x) sum (steps_compose code world h.count 1 (ticks - left) g.spent p q x h.steps g.steps);
      }

  pub lighter : (left : ℕ) (q : Process) (left' : ℕ) (x : Process) → IsStep code world left q None left' x → weight code left' x < weight code left q
  lighter left q left' x step = (has_gone code world left q left' x step).falls

  pub ends : (ticks : ℕ) (p : Process) (left : ℕ) (q : Process) (s : Stop) (left' : ℕ) (x : Process) → HasCome code world ticks p left q → IsStep code world left q (Some s) left' x → IsRun code world ticks p s x
  ends ticks p left q s left' x h step =
      stops code world ticks h.count (ticks - left) left p q s left' x (omega (arith, h.bound)) h.steps step
