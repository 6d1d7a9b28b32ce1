-- A function at its entry, and its caller.
use Rattle.std.specs.Prelude.{◌≡◌, ℕ, ◌+◌, ◌-◌, List, [], ◌∷◌, ◌++◌, length, drop, replicate, Some}
use Rattle.bm_code.specs.Process.{Frame}
use Rattle.bm_code.specs.Transfers.{pop_words}
use Rattle.bm_frame.specs.declared.frame.Frame.{Frame as FrameParts}
use Rattle.bm_frame.specs.View.{frame_of}

-- the frame of a function with so many locals, whose arguments were taken off the caller's stack with `below` words more
pub record IsOpened (new caller waiting : Frame) (function locals arguments below : ℕ) : Type 0 where
  pub args : List ℕ
  pub rest : List ℕ
  pub taken : pop_words arguments caller.stack [] ≡ Some (args, rest)
  pub entry : new ≡ record { function = function; place = 0; locals = args ++ replicate (locals - length args) 0; stack = [] }
  pub left : waiting ≡ record { function = caller.function; place = caller.place + 1; locals = caller.locals; stack = drop below rest }

pub record IsEntered (old new : FrameParts) (callers callers' : List FrameParts) (function locals arguments below : ℕ) : Type 0 where
  pub caller : FrameParts
  pub waits : callers' ≡ caller ∷ callers
  pub opened : IsOpened (frame_of new) (frame_of old) (frame_of caller) function locals arguments below
