-- What the compiler makes of a source means its program.
use Rattle.std.specs.Prelude.{◌≡◌, ℕ, List, [], Some, None, slice_get}
use Rattle.lu_base.specs.declared.world.World.{World}
use Rattle.src_tree.specs.declared.value.Value.{Value}
use Rattle.src_tree.specs.declared.value.Store.{Store}
use Rattle.src_tree.specs.declared.program.Function.{Function}
use Rattle.src_meaning.specs.Initial.{initial_store}
use Rattle.src_meaning.specs.Store.{IsStore}
use Rattle.src_meaning.specs.Call.{call}
use Rattle.bm_code.specs.Process.{Idle}
use Rattle.bm_code.specs.Globals.{initial_process}
use Rattle.cg_program.specs.Compiled.{Source, IsSource, machine_code}
use Rattle.cg_state.specs.Represents.{process_of}
use Rattle.cg_sim.specs.Compiled.{IsCompiled}
use Rattle.cg_sim.specs.CallEnds.{AreOfTypes, EndsAs}
use Rattle.cg_sim.specs.Simulation.{call_start}

-- The machine's program of a source is code of its program; the filters' functions stand behind the program's.
abbrev pub AreCompiled : Type 0
AreCompiled = (s : Source) → IsSource s → IsCompiled s.program (machine_code s)

-- The machine's program of a source starts as the process of the initial store.
abbrev pub StartInitial : Type 0
StartInitial = (s : Source) → IsSource s
    → initial_process (machine_code s) ≡ process_of s.program (initial_store s.program) [] (Idle None) 0

-- A call of a function of the program, on the machine's program of a source, ends as the call of the text does.
abbrev pub SourceCallsRun : Type 0
SourceCallsRun = (s : Source) → IsSource s → (world : World) → (store : Store) → IsStore s.program store
    → (f : ℕ) (d : Function) → slice_get s.program.functions f ≡ Some d
    → (args : List Value) → AreOfTypes s.program store d.params args → (ticks : ℕ)
    → EndsAs s.program (machine_code s) world (call_start s.program store f args ticks) d.ret (call s.program world store f args ticks)
