-- What the events of a run write.
use Rattle.std.specs.Prelude.{◌≡◌, ◌⊎◌, ◌≤◌, ◌+◌, ℕ, List, [], ◌++◌, length, Option, Some, Result, Ok, Err}
use Rattle.lu_spec.specs.Prefix.{IsPrefix}
use Rattle.lu_lines.specs.declared.note.Note.{Note}
use Rattle.sched_file.specs.declared.event.Event.{Event}
use Rattle.sys_mail.specs.Room.{cell_values}
use Rattle.sys_run.specs.Runs.{SystemValue, Machines}
use Rattle.sys_run.specs.Events.{IsStep}
use Rattle.lu_load.specs.declared.setup.Setup.{Setup}
use Rattle.lu_cli.specs.Told.{lines_bytes, Tells, TellsFirst}

-- a system, and what was told
abbrev pub machines : SystemValue → List Note → Machines
machines s told = record { runners = s.runners; mail = record { cells = cell_values s.cells; told = told } }

-- a front of what the event tells was written
pub record WroteFrontOf (event : Event) (old : SystemValue) (before : List ℕ) (after : Option (List ℕ)) : Type 0 where
  pub new : SystemValue
  pub told : List Note
  pub step : IsStep event (machines old []) (machines new told)
  pub front : List ℕ
  pub is : IsPrefix front (lines_bytes told)
  pub wrote : after ≡ Some (before ++ front)

-- what an event wrote: with Ok the lines of what it tells, and else a front of them or nothing
abbrev pub StepWrote : {E : Type 0} → Event → SystemValue → SystemValue → List ℕ → Option (List ℕ) → Result (Unit {0}) E → Type 0
StepWrote event old new before after (Ok _) =
    (told : List Note) × IsStep event (machines old []) (machines new told) × (after ≡ Some (before ++ lines_bytes told))
StepWrote event old new before after (Err _) = WroteFrontOf event old before after ⊎ (after ≡ Some before)

-- a front of the lines of a run's first events, so many
pub record IsRunFront (setup : Setup) (front : List ℕ) : Type 0 where
  pub count : ℕ
  pub within : count ≤ length setup.events + 2
  pub text : List ℕ
  pub tells : TellsFirst setup count text
  pub is : IsPrefix front text

-- a front of the lines of a run: nothing, or a front of those of its first events
abbrev pub RunFront : Setup → List ℕ → Type 0
RunFront setup front = (front ≡ []) ⊎ IsRunFront setup front

-- what a run wrote: with Ok all its lines, and else a front of them
abbrev pub RunWrote : {E : Type 0} → Setup → List ℕ → Option (List ℕ) → Result (Unit {0}) E → Type 0
RunWrote setup before after (Ok _) = (text : List ℕ) × Tells setup text × (after ≡ Some (before ++ text))
RunWrote setup before after (Err _) = (front : List ℕ) × RunFront setup front × (after ≡ Some (before ++ front))
