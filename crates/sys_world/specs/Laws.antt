-- Laws of runs, as statements.
use Rattle.std.specs.Prelude.{◌≡◌, ◌++◌}
use Rattle.lu_lines.specs.Line.{Text, line_bytes}
use Rattle.lu_lines.specs.declared.note.Note.TheVariants as note
use Rattle.sys_world.specs.Setup.{SystemSetup}
use Rattle.sys_world.specs.Shortages.{Shortages}
use Rattle.sys_world.specs.Transcript.{transcript}

-- whatever happens in a run, its last line is `end`
abbrev pub TranscriptsEnd : Type 0
TranscriptsEnd =
    (setup : SystemSetup) (short : Shortages) → (before : Text) × (transcript setup short ≡ before ++ line_bytes note.End)
