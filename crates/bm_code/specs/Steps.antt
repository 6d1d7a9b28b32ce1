-- Instructions that go on, and their ticks.
use Rattle.std.specs.Prelude.{◌≡◌, ℕ, zero, suc, ◌+◌, Option, Some, None}
use Rattle.std.specs.Option.{option_map}
use Rattle.lu_spec.specs.Then.{then_option}
use Rattle.lu_base.specs.declared.world.World.{World}
use Rattle.bm_code.specs.declared.code.MachineCode.{MachineCode}
use Rattle.bm_code.specs.Process.{Process}
use Rattle.bm_code.specs.Transfers.{Effect, Next, Spends, Returns, Traps}
use Rattle.bm_code.specs.Step.{step_instruction}

-- a process to which instructions led, and how many ticks they spent
pub record Progress : Type 0 where
  pub process : Process
  pub spent : ℕ

abbrev pub progress : Process → ℕ → Progress
progress p spent = record { process = p; spent = spent }

-- a tick of the call, which has so many to spare
abbrev pub ticked : ℕ → Process → Option Progress
ticked zero q = None
ticked (suc spare) q = Some (progress (record q { spare = spare }) 1)

-- none where the call ends, or has no tick to spare
abbrev pub progress_by : Effect → Process → Option Progress
progress_by (Next q) p = Some (progress q 0)
progress_by (Spends q) p = ticked p.spare q
progress_by (Returns v q) p = None
progress_by (Traps t q) p = None

-- with so many ticks before
abbrev pub after_ticks : ℕ → Progress → Progress
after_ticks spent a = progress a.process (spent + a.spent)

-- n instructions, where each goes on
abbrev pub advance : MachineCode → World → ℕ → Process → Option Progress
advance code world zero p = Some (progress p 0)
advance code world (suc n) p =
    then_option (progress_by (step_instruction code world p) p) (λ a. option_map (after_ticks a.spent) (advance code world n a.process))

-- n instructions and so many ticks lead from p to q
abbrev pub Steps : MachineCode → World → ℕ → ℕ → Process → Process → Type 0
Steps code world n spent p q = advance code world n p ≡ Some (progress q spent)
