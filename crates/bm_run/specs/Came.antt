-- What a step answers, against what the instruction does.
use Rattle.std.specs.Prelude.{◌≡◌, ℕ, suc, ◌<◌, length, Option, Some, None}
use Rattle.lu_base.specs.declared.trap.Trap.TheVariants.{Budget}
use Rattle.bm_code.specs.Process.{Process}
use Rattle.bm_code.specs.Transfers.{Effect, Next, Spends, Returns, Traps, idle}
use Rattle.bm_code.specs.declared.stop.Stop.{Stop}
use Rattle.bm_code.specs.declared.stop.Stop.TheVariants as S

pub record HasSpent (p x : Process) (left left' : ℕ) (q : Process) : Type 0 where
  pub spare : p.spare ≡ suc q.spare
  pub ticks : left ≡ suc left'
  pub process : q ≡ record x { spare = q.spare }

-- `p` with `left` ticks came to `q` with `left'` ticks, or stopped there
abbrev pub Came : Effect → Process → ℕ → Option Stop → ℕ → Process → Type 0
Came (Next x) p left None left' q = (left' ≡ left) × (q ≡ x)
Came (Next x) p left (Some (S.Returned v)) left' q = ⊥
Came (Next x) p left (Some (S.Trapped t)) left' q = ⊥
Came (Next x) p left (Some S.Paused) left' q = ⊥
Came (Next x) p left (Some S.Memory) left' q = (left' ≡ left) × (q ≡ p) × (length p.rows < length x.rows)
Came (Spends x) p left None left' q = HasSpent p x left left' q
Came (Spends x) p left (Some (S.Returned v)) left' q = ⊥
Came (Spends x) p left (Some (S.Trapped t)) left' q = (p.spare ≡ 0) × (t ≡ Budget) × (q ≡ idle (Some Budget) p)
Came (Spends x) p left (Some S.Paused) left' q = (left ≡ 0) × (0 < p.spare) × (q ≡ p)
Came (Spends x) p left (Some S.Memory) left' q = ⊥
Came (Returns v x) p left (Some (S.Returned w)) left' q = (w ≡ v) × (q ≡ x)
Came (Returns v x) p left _ left' q = ⊥
Came (Traps t x) p left (Some (S.Trapped u)) left' q = (u ≡ t) × (q ≡ x)
Came (Traps t x) p left _ left' q = ⊥
