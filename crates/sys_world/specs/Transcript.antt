-- The transcript: the lines of all that a run's events tell.
use Rattle.std.specs.Prelude.{ℕ, ◌+◌, List, [], ◌∷◌, ◌++◌, Option, Some, None, slice_get}
use Rattle.lu_lines.specs.Line.{Text, line_bytes}
use Rattle.lu_lines.specs.declared.note.Note.{Note}
use Rattle.sched_file.specs.declared.event.Event.{Event}
use Rattle.sched_file.specs.declared.event.Event.TheVariants as event
use Rattle.sys_world.specs.Setup.{UpdateSetup, SystemSetup}
use Rattle.sys_world.specs.World.{SystemWorld, start}
use Rattle.sys_world.specs.Steps.{world_step}
use Rattle.sys_world.specs.Shortages.{Shortages, Read, unit_of, last_of, after_notes, nothing_read}

abbrev pub lines_bytes : List Note → Text
lines_bytes [] = []
lines_bytes (n ∷ ns) = line_bytes n ++ lines_bytes ns

-- Boot, the setup's events, Finish
abbrev pub all_events : SystemSetup → List Event
all_events setup = event.Boot ∷ (setup.events ++ event.Finish ∷ [])

-- the unit of each event in which memory was refused, as a run met them; none behind the end of the list
abbrev pub Met : Type 0
Met = List (Option ℕ)

abbrev pub first_met : Met → Option ℕ
first_met [] = None
first_met (k ∷ ks) = k

abbrev pub later_met : Met → Met
later_met [] = []
later_met (k ∷ ks) = ks

-- what events tell from a world on
abbrev pub notes_met : SystemSetup → Met → List Event → SystemWorld → List Note
notes_met setup ks [] w = []
notes_met setup ks (e ∷ es) w =
    (world_step setup w e (first_met ks)).told ++ notes_met setup (later_met ks) es (world_step setup w e (first_met ks))

-- the unit that a map names for the last attempt of an update
abbrev pub last_unit_of : Shortages → Read → Option UpdateSetup → Option ℕ
last_unit_of short r None = None
last_unit_of short r (Some u) = unit_of short (last_of r.last u.name)

-- the unit that a map names for the attempt that an event would begin or works on, counted by what was told before
abbrev pub unit_at : SystemSetup → Shortages → Read → Event → Option ℕ
unit_at setup short r (event.Update u) = unit_of short (r.attempts + 1)
unit_at setup short r (event.Work u units) = last_unit_of short r (slice_get setup.updates u)
unit_at setup short r event.Boot = None
unit_at setup short r (event.Send client server m) = None
unit_at setup short r (event.Run server ticks) = None
unit_at setup short r (event.Commit u) = None
unit_at setup short r (event.Abort u) = None
unit_at setup short r (event.Dump server) = None
unit_at setup short r event.Finish = None

-- what events tell, where a map says which attempt ends for want of memory, and in which unit
abbrev pub notes_from : SystemSetup → Shortages → List Event → SystemWorld → Read → List Note
notes_from setup short [] w r = []
notes_from setup short (e ∷ es) w r =
    let next = world_step setup w e (unit_at setup short r e) in next.told ++ notes_from setup short es next (after_notes next.told r)

-- the notes of a whole run
abbrev pub run_notes : SystemSetup → Shortages → List Note
run_notes setup short = notes_from setup short (all_events setup) (start setup) nothing_read

abbrev pub transcript : SystemSetup → Shortages → Text
transcript setup short = lines_bytes (run_notes setup short)
