-- How instructions lead from a process that stands for a store to another, to a trap, or to a result.
use Rattle.std.specs.Prelude.{◌≡◌, ℕ, ◌+◌, List, [], ◌∷◌, Some, Ok, Err, slice_get}
use Rattle.lu_base.specs.Sending.{Sent}
use Rattle.lu_base.specs.declared.trap.Trap.{Trap}
use Rattle.lu_base.specs.declared.trap.Trap.TheVariants.{BadCode, Budget}
use Rattle.src_tree.specs.declared.value.Store.{Store}
use Rattle.src_tree.specs.declared.program.Program.{Program}
use Rattle.src_meaning.specs.Objects.{Gives}
use Rattle.bm_isa.specs.declared.instr.Instr.{Instr}
use Rattle.bm_code.specs.declared.code.MachineCode.{MachineCode}
use Rattle.lu_base.specs.declared.world.World.{World}
use Rattle.bm_code.specs.Process.{Activity, Process}
use Rattle.bm_code.specs.Transfers.{Effect, Spends, Traps, idle}
use Rattle.bm_code.specs.Step.{step_instruction}
use Rattle.bm_code.specs.Steps.{Steps}
use Rattle.cg_state.specs.Represents.{process_of}

-- not the trap of ill-formed code
abbrev pub IsPlain : Trap → Type 0
IsPlain BadCode = ⊥
IsPlain _ = Unit {0}

-- the instructions stand in the code at this place
abbrev pub HasAt : List Instr → ℕ → List Instr → Type 0
HasAt code pc [] = Unit {0}
HasAt code pc (i ∷ is) = (slice_get code pc ≡ Some i) × HasAt code (pc + 1) is

-- a moment of a run, by the store that its process stands for
pub record Point : Type 0 where
  pub store : Store
  pub sends : List Sent
  pub activity : Activity
  pub ticks : ℕ

abbrev pub point : Store → List Sent → Activity → ℕ → Point
point s o a t = record { store = s; sends = o; activity = a; ticks = t }

-- the effect ends the call by the trap, its process as it was: as the instruction traps, or needs a tick that the call lacks
abbrev pub TrapsBy : Trap → Process → Effect → Type 0
TrapsBy t p (Traps u q) = (u ≡ t) × (q ≡ idle (Some t) p)
TrapsBy t p (Spends q) = (t ≡ Budget) × (p.spare ≡ 0)
TrapsBy t p _ = ⊥

module _ (program : Program) (code : MachineCode) (world : World) where
  abbrev pub process_at : Point → Process
  process_at p = process_of program p.store p.sends p.activity p.ticks

  -- instructions lead from p to q, and spend the ticks between
  pub record Leads (p q : Point) : Type 0 where
    pub count : ℕ
    pub spent : ℕ
    pub counted : spent + q.ticks ≡ p.ticks
    pub steps : Steps code world count spent (process_at p) (process_at q)

  -- instructions lead from p to a process that has so many ticks left, of those at p; the next one traps
  pub record TrapsAs (p : Point) (t : Trap) (ticks : ℕ) : Type 0 where
    pub count : ℕ
    pub spent : ℕ
    pub counted : spent + ticks ≡ p.ticks
    pub process : Process
    pub spare : process.spare ≡ ticks
    pub steps : Steps code world count spent (process_at p) process
    pub traps : TrapsBy t process (step_instruction code world process)

  -- instructions lead from there to where a result is given, which is good, or to a trap as the text does
  abbrev pub Yields : {A : Type 0} → Point → (A → Type 0) → (A → Point) → Gives A → Type 0
  Yields p good to (Ok a) = good a × Leads p (to a)
  Yields p good to (Err t) = IsPlain t × TrapsAs p t p.ticks
