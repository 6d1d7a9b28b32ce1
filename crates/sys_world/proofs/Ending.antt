-- What each run tells last.
use Rattle.std.proofs.Common.{◌≡◌, List, [], ◌∷◌, ◌++◌, refl, ap, ◌∙◌, append_assoc, append-nil}
use Rattle.lu_lines.specs.Line.{Text, line_bytes}
use Rattle.lu_lines.specs.declared.note.Note.{Note}
use Rattle.lu_lines.specs.declared.note.Note.TheVariants as note
use Rattle.sched_file.specs.declared.event.Event.{Event}
use Rattle.sched_file.specs.declared.event.Event.TheVariants as event
use Rattle.sys_world.specs.Setup.{SystemSetup}
use Rattle.sys_world.specs.World.{SystemWorld, start}
use Rattle.sys_world.specs.Steps.{world_step, end_notes}
use Rattle.sys_world.specs.Shortages.{Shortages, Read, after_notes, nothing_read}
use Rattle.sys_world.specs.Transcript.{lines_bytes, unit_at, notes_from, transcript}

lines_bytes-append : (xs ys : List Note) → lines_bytes (xs ++ ys) ≡ lines_bytes xs ++ lines_bytes ys
lines_bytes-append [] ys = refl
lines_bytes-append (x ∷ xs) ys = rw (lines_bytes-append xs ys) (simp append_assoc)

abbrev EndsSo : List Note → Type 0
EndsSo notes = (before : List Note) × (notes ≡ before ++ note.End ∷ [])

behind : (front notes : List Note) → EndsSo notes → EndsSo (front ++ notes)
behind front notes (before, e) = (front ++ before, rw e (simp append_assoc))

run-ends : (setup : SystemSetup) (short : Shortages) (events : List Event) (w : SystemWorld) (r : Read)
    → EndsSo (notes_from setup short (events ++ event.Finish ∷ []) w r)
run-ends setup short [] w r = (end_notes w.hosts, simp append_assoc)
run-ends setup short (e ∷ es) w r =
    let next = world_step setup w e (unit_at setup short r e) in
    behind next.told (notes_from setup short (es ++ event.Finish ∷ []) next (after_notes next.told r)) (run-ends setup short es next (after_notes next.told r))

pub transcript-ends : (setup : SystemSetup) (short : Shortages)
    → (before : Text) × (transcript setup short ≡ before ++ line_bytes note.End)
transcript-ends setup short =
    let (notes, e) = run-ends setup short (event.Boot ∷ setup.events) (start setup) nothing_read in
    (lines_bytes notes, ap lines_bytes e ∙ (lines_bytes-append notes (note.End ∷ []) ∙ simp append-nil))
