-- What the files of a run stand for, and why they stand for nothing.
use Rattle.std.specs.Prelude.{◌≡◌, ⊤, ℤ, ◌+◌, pos, List, map, length, Result, Ok, Err}
use Rattle.lu_base.specs.Files.{Files}
use Rattle.lu_lines.specs.Line.{Text}
use Rattle.plan_file.specs.declared.plan.Plan.{Plan}
use Rattle.plan_file.specs.declared.plan.Server.{Server}
use Rattle.plan_file.specs.Kept.{KeepsForms}
use Rattle.sched_file.specs.Events.{AreBasic}
use Rattle.cg_program.specs.Compiled.{Source}
use Rattle.lu_load_lines.specs.declared.refusal.LoadRefusal.{LoadRefusal}
use Rattle.lu_load_lines.specs.declared.refusal.LoadRefusal.TheVariants as of
use Rattle.lu_load_lines.specs.declared.refusal.ScheduleRefusal.{ScheduleRefusal}
use Rattle.lu_load.specs.declared.error.LoadError.{LoadError}
use Rattle.lu_load.specs.declared.error.LoadError.TheVariants.{Refused, ReadFault, Memory}
use Rattle.lu_load.specs.declared.setup.Setup.{Setup}
use Rattle.lu_load.specs.declared.update.UpdateSetup.{UpdateSetup}
use Rattle.lu_load.specs.Plans.{IsPlan, RefusesPlan}
use Rattle.lu_load.specs.Programs.{sources_of, AreLoaded, RefusesSources}
use Rattle.lu_load.specs.Updates.{AreUpdates, RefusesUpdates}
use Rattle.lu_load.specs.Schedules.{IsSchedule, RefusesSchedule}

-- the plan of that name, and the code of each of its sources, without filters
pub record HasSources (files : Files) (name : Text) (plan : Plan) (codes : List Source) : Type 0 where
  pub plan_file : IsPlan (files name) plan
  pub sources : AreLoaded files (sources_of plan) codes

-- The setup that the files stand for: of the plan of that name, the code of each source, what each update stands for, and the
-- events of the schedule.
pub record IsSetup (files : Files) (name : Text) (setup : Setup) : Type 0 where
  pub sources : HasSources files name setup.plan setup.codes
  pub updates : AreUpdates setup.plan setup.codes (length setup.plan.update) setup.updates
  pub schedule : IsSchedule setup.plan (files setup.plan.schedule) setup.events

-- the sources are tried once there is a plan
pub record RefusesAnySource (files : Files) (name : Text) (refusal : LoadRefusal) : Type 0 where
  pub plan : Plan
  pub plan_file : IsPlan (files name) plan
  pub sources : RefusesSources files (sources_of plan) refusal

-- the updates are tried once there are sources
pub record RefusesAnyUpdate (files : Files) (name : Text) (refusal : LoadRefusal) : Type 0 where
  pub plan : Plan
  pub codes : List Source
  pub sources : HasSources files name plan codes
  pub refused : RefusesUpdates plan codes refusal

-- the schedule is tried last
pub record RefusesLast (files : Files) (name : Text) (why : ScheduleRefusal) : Type 0 where
  pub plan : Plan
  pub codes : List Source
  pub sources : HasSources files name plan codes
  pub updates : List UpdateSetup
  pub accepted : AreUpdates plan codes (length plan.update) updates
  pub schedule : RefusesSchedule plan (files plan.schedule) why

-- The first cause why the files stand for no setup, in this order: the plan, each server's source, each update's source, for
-- each update its filter, its renames, its handlers and its last call, and the schedule.
abbrev pub RefusesSetup : Files → Text → LoadRefusal → Type 0
RefusesSetup files name (of.Plan why) = RefusesPlan (files name) why
RefusesSetup files name (of.Filter update why) = RefusesAnyUpdate files name (of.Filter update why)
RefusesSetup files name (of.Pairing update why) = RefusesAnyUpdate files name (of.Pairing update why)
RefusesSetup files name (of.Schedule why) = RefusesLast files name why
RefusesSetup files name refusal = RefusesAnySource files name refusal

-- What an answer says of the files: a failed read, and want of memory, say nothing.
abbrev pub LoadAnswers : Files → Text → Result Setup LoadError → Type 0
LoadAnswers files name (Ok setup) = IsSetup files name setup
LoadAnswers files name (Err (Refused refusal)) = RefusesSetup files name refusal
LoadAnswers files name (Err ReadFault) = ⊤
LoadAnswers files name (Err Memory) = ⊤

-- the numbers of the servers, in order
abbrev pub numbers_of : Plan → List ℤ
numbers_of plan = map (λ (s : Server). pos s.number) plan.server

-- What each setup keeps: the forms of the plan, the servers' numbers, a code for each source, what each update stands for, and
-- basic events.
pub record KeepsSetup (setup : Setup) : Type 0 where
  pub plan : KeepsForms setup.plan
  pub numbers : setup.numbers ≡ numbers_of setup.plan
  pub codes : length setup.codes ≡ length setup.plan.server + length setup.plan.update
  pub updates : AreUpdates setup.plan setup.codes (length setup.plan.update) setup.updates
  pub events : AreBasic setup.plan setup.events
