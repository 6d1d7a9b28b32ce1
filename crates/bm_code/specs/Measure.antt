-- How much a run can still do.
use Rattle.std.specs.Prelude.{ℕ, ◌+◌, ◌-◌, ◌*◌, max, List, [], ◌∷◌, length, Option, Some, None, slice_get}
use Rattle.bm_code.specs.declared.code.MachineCode.{MachineCode}
use Rattle.bm_code.specs.declared.code.MachineFunction.{MachineFunction}
use Rattle.bm_code.specs.Process.{Frame, Activity, Idle, Starting, Running, Process}

-- how many instructions lie ahead in a frame's function
abbrev pub ahead_in : Frame → Option MachineFunction → ℕ
ahead_in f None = 0
ahead_in f (Some m) = length m.code - f.place

abbrev pub ahead_of : List MachineFunction → Frame → ℕ
ahead_of ms f = ahead_in f (slice_get ms f.function)

abbrev pub ahead_of_all : List MachineFunction → List Frame → ℕ
ahead_of_all ms [] = 0
ahead_of_all ms (f ∷ fs) = ahead_of ms f + ahead_of_all ms fs

-- in all frames
abbrev pub ahead : List MachineFunction → Activity → ℕ
ahead ms (Idle last) = 0
ahead ms (Starting g args) = 0
ahead ms (Running f callers) = ahead_of ms f + ahead_of_all ms callers

abbrev pub longest : List MachineFunction → ℕ
longest [] = 0
longest (m ∷ ms) = max (length m.code) (longest ms)

-- it falls with each instruction: one that lies ahead is done, or a tick is spent
abbrev pub weight : MachineCode → ℕ → Process → ℕ
weight code left p = left * (longest code.functions + 1) + ahead code.functions p.activity
