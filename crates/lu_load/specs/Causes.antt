-- The causes for which no setup is loaded, by those of the crates below.
use Rattle.std.specs.Prelude.{◌≡◌, ◌⊎◌, List, ℕ}
use Rattle.lu_base.specs.declared.shelf.ShelfFault.{ShelfFault}
use Rattle.lu_base.specs.declared.shelf.ShelfFault.TheVariants as file
use Rattle.plan_file.specs.declared.error.PlanError.{PlanError}
use Rattle.plan_file.specs.declared.error.PlanError.TheVariants as plan_error
use Rattle.sched_file.specs.declared.error.SchedError.{SchedError}
use Rattle.sched_file.specs.declared.error.SchedError.TheVariants as schedule_error
use Rattle.lu_source.specs.declared.error.SourceError.{SourceError}
use Rattle.lu_source.specs.declared.error.SourceError.TheVariants as source_error
use Rattle.lu_filter.specs.declared.error.FilterError.{FilterError}
use Rattle.lu_filter.specs.declared.error.FilterError.TheVariants as filter_error
use Rattle.lu_resolve.specs.declared.error.ResolveError.{ResolveError}
use Rattle.lu_resolve.specs.declared.error.ResolveError.TheVariants as resolve
use Rattle.lu_load_lines.specs.declared.refusal.FilterRefusal.TheVariants as filter
use Rattle.lu_load_lines.specs.declared.refusal.LoadRefusal.{LoadRefusal}
use Rattle.lu_load_lines.specs.declared.refusal.LoadRefusal.TheVariants as of
use Rattle.lu_load_lines.specs.declared.refusal.PlanRefusal.TheVariants as plan
use Rattle.lu_load_lines.specs.declared.refusal.ScheduleRefusal.TheVariants as schedule
use Rattle.lu_load.specs.declared.error.LoadError.{LoadError}
use Rattle.lu_load.specs.declared.error.LoadError.TheVariants.{Refused, ReadFault, Memory}

abbrev pub plan_file_cause : ShelfFault → LoadError
plan_file_cause file.Failed = ReadFault
plan_file_cause file.Absent = Refused (of.Plan plan.Absent)
plan_file_cause file.TooLarge = Refused (of.Plan plan.TooLarge)
plan_file_cause file.Memory = Memory

abbrev pub plan_cause : PlanError → LoadError
plan_cause plan_error.NotToml = Refused (of.Plan plan.NotToml)
plan_cause (plan_error.Field key) = Refused (of.Plan (plan.Field key))
plan_cause (plan_error.Limit list) = Refused (of.Plan (plan.Limit list))
plan_cause plan_error.Memory = Memory

abbrev pub schedule_file_cause : ShelfFault → LoadError
schedule_file_cause file.Failed = ReadFault
schedule_file_cause file.Absent = Refused (of.Schedule schedule.Absent)
schedule_file_cause file.TooLarge = Refused (of.Schedule schedule.TooLarge)
schedule_file_cause file.Memory = Memory

abbrev pub schedule_cause : SchedError → LoadError
schedule_cause (schedule_error.Line n) = Refused (of.Schedule (schedule.Line n))
schedule_cause schedule_error.Limit = Refused (of.Schedule schedule.Limit)
schedule_cause schedule_error.Memory = Memory

-- the cause that the source in the file of that name isn't read; the name takes memory
abbrev pub IsSourceCause : List ℕ → SourceError → LoadError → Type 0
IsSourceCause file (source_error.Refused why) e = (e ≡ Refused (of.Source file why)) ⊎ (e ≡ Memory)
IsSourceCause file source_error.ReadFault e = e ≡ ReadFault
IsSourceCause file source_error.Memory e = e ≡ Memory

abbrev pub IsRefusedOr : LoadRefusal → LoadError → Type 0
IsRefusedOr why e = (e ≡ Refused why) ⊎ (e ≡ Memory)

-- the cause that the filter of the update of that name is refused; the name takes memory
abbrev pub IsFilterCause : List ℕ → FilterError → LoadError → Type 0
IsFilterCause name (filter_error.BadByte col) e = IsRefusedOr (of.Filter name (filter.BadByte col)) e
IsFilterCause name (filter_error.BadNumber col) e = IsRefusedOr (of.Filter name (filter.BadNumber col)) e
IsFilterCause name filter_error.Syntax e = IsRefusedOr (of.Filter name filter.Syntax) e
IsFilterCause name filter_error.TooDeep e = IsRefusedOr (of.Filter name filter.TooDeep) e
IsFilterCause name (filter_error.Rule code) e = IsRefusedOr (of.Filter name (filter.Rule code)) e
IsFilterCause name filter_error.NotInt e = IsRefusedOr (of.Filter name filter.NotInteger) e
IsFilterCause name filter_error.Memory e = e ≡ Memory

-- the cause that the names of the update of that name are refused
abbrev pub IsPairingCause : List ℕ → ResolveError → LoadError → Type 0
IsPairingCause name (resolve.Refused why) e = IsRefusedOr (of.Pairing name why) e
IsPairingCause name resolve.Memory e = e ≡ Memory
