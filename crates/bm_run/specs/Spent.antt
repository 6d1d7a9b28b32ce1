-- A tick of what is under way.
use Rattle.std.specs.Prelude.{◌≡◌, ℕ, suc, ◌<◌, Option, Some, None}
use Rattle.lu_base.specs.declared.trap.Trap.{Trap}
use Rattle.lu_base.specs.declared.trap.Trap.TheVariants.{Budget}
use Rattle.bm_run.specs.declared.calls.Mode.TheVariants as M
use Rattle.bm_run.specs.declared.calls.Calls.{Calls}
use Rattle.bm_code.specs.declared.stop.Stop.{Stop}
use Rattle.bm_code.specs.declared.stop.Stop.TheVariants as S

-- no call runs, and the last one trapped so, or did not; no tick is to spare
abbrev pub ended : Option Trap → Calls → Calls
ended last c = record { mode = M.Idle last; frame = c.frame; callers = c.callers; spare = 0 }

abbrev pub with_spare : ℕ → Calls → Calls
with_spare n c = record { mode = c.mode; frame = c.frame; callers = c.callers; spare = n }

abbrev pub IsSpent : Calls → ℕ → Option Stop → Calls → ℕ → Type 0
IsSpent c left None d left' = (c.spare ≡ suc d.spare) × (left ≡ suc left') × (d ≡ with_spare d.spare c)
IsSpent c left (Some (S.Returned v)) d left' = ⊥
IsSpent c left (Some (S.Trapped t)) d left' = (c.spare ≡ 0) × (t ≡ Budget) × (d ≡ ended (Some Budget) c)
IsSpent c left (Some S.Paused) d left' = (left ≡ 0) × (0 < c.spare) × (d ≡ c)
IsSpent c left (Some S.Memory) d left' = ⊥
