-- The events that a schedule's file stands for, and why it stands for none.
use Rattle.std.specs.Prelude.{◌≡◌, ⊤, ◌<◌, ◌≤◌, List, length, Option, None, Some, Result, Ok, Err, IsSomeAnd}
use Rattle.lu_base.specs.declared.limits.TheConstants.{SCHEDULE_BYTES}
use Rattle.lu_lines.specs.Line.{Text}
use Rattle.plan_file.specs.declared.plan.Plan.{Plan}
use Rattle.sched_file.specs.declared.error.SchedError.TheVariants as error
use Rattle.sched_file.specs.declared.event.Event.{Event}
use Rattle.sched_file.specs.Schedule.{schedule_of}
use Rattle.lu_load_lines.specs.declared.refusal.LoadRefusal.TheVariants as of
use Rattle.lu_load_lines.specs.declared.refusal.ScheduleRefusal.{ScheduleRefusal}
use Rattle.lu_load_lines.specs.declared.refusal.ScheduleRefusal.TheVariants.{Absent, TooLarge, Line, Limit}
use Rattle.lu_load.specs.declared.error.LoadError.{LoadError}
use Rattle.lu_load.specs.declared.error.LoadError.TheVariants.{Refused, ReadFault, Memory}

-- the file is there with this text, which is within the limit
abbrev pub HasScheduleText : Option Text → Text → Type 0
HasScheduleText file text = (file ≡ Some text) × (length text ≤ SCHEDULE_BYTES)

-- the file's text stands for these events of the plan
abbrev pub IsSchedule : Plan → Option Text → List Event → Type 0
IsSchedule plan file events = (text : Text) × HasScheduleText file text × (schedule_of plan text ≡ Ok events)

-- why a text is no schedule of the plan; the other causes are none of a text
abbrev pub RefusesScheduleText : Plan → Text → ScheduleRefusal → Type 0
RefusesScheduleText plan text Absent = ⊥
RefusesScheduleText plan text TooLarge = ⊥
RefusesScheduleText plan text (Line n) = schedule_of plan text ≡ Err (error.Line n)
RefusesScheduleText plan text Limit = schedule_of plan text ≡ Err error.Limit

-- why a file is no schedule of the plan: it isn't there, is above the limit, or its text is none
abbrev pub RefusesSchedule : Plan → Option Text → ScheduleRefusal → Type 0
RefusesSchedule plan file Absent = file ≡ None
RefusesSchedule plan file TooLarge = IsSomeAnd file (λ text. SCHEDULE_BYTES < length text)
RefusesSchedule plan file cause = (text : Text) × HasScheduleText file text × RefusesScheduleText plan text cause

-- What an answer says of a text: want of memory says nothing, and other answers are none of a schedule's text.
abbrev pub ScheduleTextAnswers : Plan → Text → Result (List Event) LoadError → Type 0
ScheduleTextAnswers plan text (Ok events) = schedule_of plan text ≡ Ok events
ScheduleTextAnswers plan text (Err (Refused (of.Schedule why))) = RefusesScheduleText plan text why
ScheduleTextAnswers plan text (Err Memory) = ⊤
ScheduleTextAnswers plan text (Err other) = ⊥

-- What an answer says of a file: a failed read, and want of memory, say nothing.
abbrev pub ScheduleAnswers : Plan → Option Text → Result (List Event) LoadError → Type 0
ScheduleAnswers plan file (Ok events) = IsSchedule plan file events
ScheduleAnswers plan file (Err (Refused (of.Schedule why))) = RefusesSchedule plan file why
ScheduleAnswers plan file (Err ReadFault) = ⊤
ScheduleAnswers plan file (Err Memory) = ⊤
ScheduleAnswers plan file (Err other) = ⊥
