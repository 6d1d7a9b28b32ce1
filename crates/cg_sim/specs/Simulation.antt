-- The code of a program means the program.
use Rattle.std.specs.Prelude.{◌≡◌, ℕ, List, [], map, Some, slice_get}
use Rattle.lu_base.specs.declared.world.World.{World}
use Rattle.src_tree.specs.declared.value.Value.{Value}
use Rattle.src_tree.specs.declared.value.Store.{Store}
use Rattle.src_tree.specs.declared.program.Function.{Function}
use Rattle.src_tree.specs.declared.program.Program.{Program}
use Rattle.src_meaning.specs.Objects.{addresses}
use Rattle.src_meaning.specs.Store.{IsStore}
use Rattle.src_meaning.specs.Call.{call}
use Rattle.src_meaning.specs.Valid.{IsValid}
use Rattle.bm_code.specs.declared.code.MachineCode.{MachineCode}
use Rattle.bm_code.specs.Process.{Starting}
use Rattle.cg_state.specs.Represents.{value_word}
use Rattle.cg_state.specs.Runs.{Point, point}
use Rattle.cg_sim.specs.Compiled.{IsCompiled}
use Rattle.cg_sim.specs.CallEnds.{AreOfTypes, EndsAs}

-- a call begins, in the process of a store, with the words of its arguments
abbrev pub call_start : Program → Store → ℕ → List Value → ℕ → Point
call_start p store f args ticks = point store [] (Starting f (map (value_word (addresses p.types store)) args)) ticks

-- A call of a function of a valid program, on machine code of the program, ends as the call of the text does.
abbrev pub CallsRun : Type 0
CallsRun = (p : Program) → IsValid p → (code : MachineCode) → IsCompiled p code → (world : World)
    → (store : Store) → IsStore p store → (f : ℕ) (d : Function) → slice_get p.functions f ≡ Some d
    → (args : List Value) → AreOfTypes p store d.params args → (ticks : ℕ)
    → EndsAs p code world (call_start p store f args ticks) d.ret (call p world store f args ticks)
