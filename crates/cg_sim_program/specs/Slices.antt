-- Calls that run in slices of ticks.
use Rattle.std.specs.Prelude.{◌≡◌, ℕ, ◌+◌, ◌-◌, ◌<◌, ◌≤◌, ◌⊎◌, List, [], ◌∷◌, map, sum, Some, None, slice_get}
use Rattle.lu_base.specs.declared.world.World.{World}
use Rattle.lu_base.specs.declared.limits.TheConstants.{CALL_TICKS}
use Rattle.lu_base.specs.declared.trap.Trap.{Trap}
use Rattle.src_tree.specs.declared.value.Value.{Value}
use Rattle.src_tree.specs.declared.value.Store.{Store}
use Rattle.src_tree.specs.declared.program.Function.{Function}
use Rattle.src_tree.specs.declared.program.Program.{Program}
use Rattle.src_meaning.specs.Objects.{addresses}
use Rattle.src_meaning.specs.Store.{IsStore}
use Rattle.src_meaning.specs.Call.{Ending, Returned, Trapped, Starved, call}
use Rattle.bm_code.specs.declared.code.MachineCode.{MachineCode}
use Rattle.bm_code.specs.Calls.{started}
use Rattle.bm_code.specs.Process.{Process, Idle}
use Rattle.bm_code.specs.Ran.{IsRefused}
use Rattle.bm_code.specs.Run as Run
use Rattle.bm_code.specs.Run.{Final, final, Paused, RunsTo}
use Rattle.bm_code.specs.Transfers.{idle}
use Rattle.cg_program.specs.Compiled.{Source, IsSource, machine_code}
use Rattle.cg_state.specs.Represents.{value_word, process_of, Represents}
use Rattle.cg_sim.specs.CallEnds.{AreOfTypes, result_word}

-- one run of a call that did not end it, and what it spent: it paused, when all its ticks were spent, or an allocation was
-- refused, when so many were
abbrev pub IsSlice : MachineCode → World → ℕ → Process → Process → Type 0
IsSlice code world spent p q =
    RunsTo code world spent p (final Paused q) ⊎ ((ticks : ℕ) × (refused : IsRefused code world ticks p q) × (refused.spent ≡ spent))

-- such runs one after the other, and what each spent
abbrev pub AreSlices : MachineCode → World → List ℕ → Process → Process → Type 0
AreSlices code world [] p q = p ≡ q
AreSlices code world (spent ∷ more) p q = (x : Process) × IsSlice code world spent p x × AreSlices code world more x q

-- no call runs then, and the last one trapped so
abbrev pub EndsByTrap : Trap → Final → Type 0
EndsByTrap t r = (p : Process) × (r ≡ final (Run.Trapped t) (idle (Some t) p))

-- a run ends as the call of the text does: it returned the word of the result, and no call runs in the process of the
-- store with the sends; or it trapped so
abbrev pub AnswersAs : Program → Ending → Final → Type 0
AnswersAs p (Returned v store sends left) r =
    r ≡ final (Run.Returned (result_word p store v)) (process_of p store sends (Idle None) 0)
AnswersAs p (Trapped trap left) r = EndsByTrap trap r
AnswersAs p Starved r = ⊥

-- how many ticks a call with so many used
abbrev pub used_of : ℕ → Ending → ℕ
used_of ticks (Returned v store sends left) = ticks - left
used_of ticks (Trapped trap left) = ticks - left
used_of ticks Starved = ticks

-- with fewer ticks than the call of the text used, the last run pauses; with as many or more it ends as that call
pub record EndsAfter (p : Program) (ending : Ending) (used given : ℕ) (r : Final) : Type 0 where
  pub short : given < used → r.ending ≡ Paused
  pub enough : used ≤ given → AnswersAs p ending r

-- A call of a function of the program that is begun on the machine's program of a source, in a process that stands for a
-- store, ends as the call of the text does, and just when it has had the ticks that this one uses, however they were given.
abbrev pub CallsRunInSlices : Type 0
CallsRunInSlices = (s : Source) → IsSource s → (world : World) → (store : Store) → IsStore s.program store
    → (process : Process) → Represents process s.program store
    → (f : ℕ) (d : Function) → slice_get s.program.functions f ≡ Some d
    → (args : List Value) → AreOfTypes s.program store d.params args
    → (slices : List ℕ) (last : ℕ) (q : Process) (r : Final)
    → AreSlices (machine_code s) world slices (started process f (map (value_word (addresses s.program.types store)) args)) q
    → RunsTo (machine_code s) world last q r
    → let ending = call s.program world store f args CALL_TICKS in
    EndsAfter s.program ending (used_of CALL_TICKS ending) (sum slices + last) r
