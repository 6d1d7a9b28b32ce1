-- What one instruction does, apart from the counting of ticks.
use Rattle.std.specs.Prelude.{List, [], Some, None, Result, Ok, Err, slice_get}
use Rattle.lu_base.specs.declared.trap.Trap.{Trap}
use Rattle.lu_base.specs.declared.trap.Trap.TheVariants.{BadCode}
use Rattle.bm_mem.specs.Content.{Content}
use Rattle.bm_alu.specs.Words.{combined, transformed}
use Rattle.bm_code.specs.declared.code.MachineCode.{MachineCode}
use Rattle.bm_code.specs.declared.code.MachineFunction.{MachineFunction}
use Rattle.lu_base.specs.declared.world.World.{World}
use Rattle.bm_code.specs.declared.operation.Operation.{Operation}
use Rattle.bm_code.specs.declared.operation.Operation.TheVariants.{OnStack, OnWord, OnWords, OnPointers, Reads, Writes, Transfers, Serves}
use Rattle.bm_code.specs.Kinds.{operation_of}
use Rattle.bm_code.specs.Process.{Frame, Activity, Idle, Starting, Running, Process}
use Rattle.bm_code.specs.Frames.{some_or, stacked, on_word, on_words}
use Rattle.bm_code.specs.Pointers.{pointed, read, written}
use Rattle.bm_code.specs.Transfers.{Effect, Next, Spends, Returns, Traps, trap, running, entered, transferred}
use Rattle.bm_code.specs.Services.{served}

-- what an instruction does that concerns the frame alone
abbrev pub on_frame : Result Frame Trap → Process → List Frame → Effect
on_frame (Ok f) p callers = Next (running p f callers)
on_frame (Err t) p callers = trap t p

-- the frame and memory
abbrev pub on_memory : Result (Frame × Content) Trap → Process → List Frame → Effect
on_memory (Ok q) p callers = Next (running (record p { content = q.1 }) q.0 callers)
on_memory (Err t) p callers = trap t p

abbrev pub act : Operation → MachineCode → World → MachineFunction → Process → Frame → List Frame → Effect
act (OnStack o) code world m p f callers = on_frame (stacked o m.height f) p callers
act (OnWord o) code world m p f callers = on_frame (on_word (transformed o) f) p callers
act (OnWords o) code world m p f callers = on_frame (on_words (combined o) f) p callers
act (OnPointers o) code world m p f callers = on_frame (on_words (pointed o p.rows) f) p callers
act (Reads o) code world m p f callers = on_frame (on_word (read o code.types p.content p.rows) f) p callers
act (Writes o) code world m p f callers = on_memory (written o p.content p.rows f) p callers
act (Transfers o) code world m p f callers = transferred o code m p f callers
act (Serves o) code world m p f callers = served o code world p f callers

-- the instruction at a frame's place; there is none past the function's end
abbrev pub fetched : MachineCode → World → Process → Frame → List Frame → MachineFunction → Effect
fetched code world p f callers m =
    some_or (slice_get m.code f.place) (trap BadCode p) (λ i. act (operation_of i) code world m p f callers)

abbrev pub step_in : MachineCode → World → Process → Activity → Effect
step_in code world p (Idle None) = Returns 0 p
step_in code world p (Idle (Some t)) = Traps t p
step_in code world p (Starting g args) =
    some_or (slice_get code.functions g) (trap BadCode p) (λ d. Spends (running p (entered d g args) []))
step_in code world p (Running f callers) =
    some_or (slice_get code.functions f.function) (trap BadCode p) (fetched code world p f callers)

-- The next instruction of the call that runs, or its entry. Where no call runs, the answer is that of the last one.
abbrev pub step_instruction : MachineCode → World → Process → Effect
step_instruction code world p = step_in code world p p.activity
