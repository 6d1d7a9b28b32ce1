-- The frame of the definitions that a frame in memory stands for.
use Rattle.std.specs.Prelude.{◌≡◌, Result, Ok, Err}
use Rattle.lu_base.specs.declared.trap.Trap.{Trap}
use Rattle.bm_code.specs.Process.{Frame}
use Rattle.bm_frame.specs.declared.frame.Frame.{Frame as FrameParts}

abbrev pub frame_of : FrameParts → Frame
frame_of f = record { function = f.function; place = f.place; locals = f.locals; stack = f.stack }

-- an answer against what a definition gives: the value that is left, or the trap
abbrev pub Leaves : {A B : Type 0} → Result A Trap → Result B Trap → B → Type 0
Leaves (Ok _) given left = given ≡ Ok left
Leaves (Err t) given left = given ≡ Err t
