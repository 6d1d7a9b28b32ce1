-- Frames at the start.
use Rattle.std.specs.Prelude.{[]}
use Rattle.bm_code.specs.Process.{Frame}

-- at the first instruction of the function 0, with no locals and no words
abbrev pub first_frame : Frame
first_frame = record { function = 0; place = 0; locals = []; stack = [] }
