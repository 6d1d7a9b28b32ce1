-- The lines that are written of refused files.
use Rattle.std.specs.Prelude.{List, [], ◌∷◌, ◌++◌, codes}
use Rattle.std.specs.Fmt.{decimal}
use Rattle.lu_lines.specs.Line.{Text, further_words}
use Rattle.plan_file.specs.Keys.{key_text, list_text}
use Rattle.lu_load_lines.specs.declared.refusal.LoadRefusal.{LoadRefusal}
use Rattle.lu_load_lines.specs.declared.refusal.LoadRefusal.TheVariants as of
use Rattle.lu_load_lines.specs.declared.refusal.PlanRefusal.{PlanRefusal}
use Rattle.lu_load_lines.specs.declared.refusal.PlanRefusal.TheVariants as plan
use Rattle.lu_load_lines.specs.declared.refusal.SourceRefusal.{SourceRefusal}
use Rattle.lu_load_lines.specs.declared.refusal.SourceRefusal.TheVariants as source
use Rattle.lu_load_lines.specs.declared.refusal.FilterRefusal.{FilterRefusal}
use Rattle.lu_load_lines.specs.declared.refusal.FilterRefusal.TheVariants as filter
use Rattle.lu_load_lines.specs.declared.refusal.PairingRefusal.{PairingRefusal}
use Rattle.lu_load_lines.specs.declared.refusal.PairingRefusal.TheVariants as pairing
use Rattle.lu_load_lines.specs.declared.refusal.NameKind.{NameKind}
use Rattle.lu_load_lines.specs.declared.refusal.NameKind.TheVariants.{Global, Struct, Field, Union, Member, Function, Site, Handler, After}
use Rattle.lu_load_lines.specs.declared.refusal.ScheduleRefusal.{ScheduleRefusal}
use Rattle.lu_load_lines.specs.declared.refusal.ScheduleRefusal.TheVariants as schedule

-- ---- the words of each cause

abbrev pub plan_words : PlanRefusal → List Text
plan_words plan.Absent = codes "absent" ∷ []
plan_words plan.TooLarge = codes "size" ∷ []
plan_words plan.NotToml = codes "toml" ∷ []
plan_words (plan.Field key) = codes "field" ∷ key_text key ∷ []
plan_words (plan.Limit list) = codes "limit" ∷ list_text list ∷ []

abbrev pub source_words : SourceRefusal → List Text
source_words source.Absent = codes "absent" ∷ []
source_words source.TooLarge = codes "size" ∷ []
source_words (source.BadByte line col) = codes "byte" ∷ decimal line ∷ decimal col ∷ []
source_words (source.BadNumber line col) = codes "number" ∷ decimal line ∷ decimal col ∷ []
source_words (source.Syntax k) = codes "syntax" ∷ decimal k ∷ []
source_words (source.TooDeep k) = codes "deep" ∷ decimal k ∷ []
source_words (source.Rule k code) = codes "rule" ∷ decimal k ∷ decimal code ∷ []

abbrev pub filter_words : FilterRefusal → List Text
filter_words (filter.BadByte col) = codes "byte" ∷ decimal col ∷ []
filter_words (filter.BadNumber col) = codes "number" ∷ decimal col ∷ []
filter_words filter.Syntax = codes "syntax" ∷ []
filter_words filter.TooDeep = codes "deep" ∷ []
filter_words (filter.Rule code) = codes "rule" ∷ decimal code ∷ []
filter_words filter.NotInteger = codes "notint" ∷ []

abbrev pub kind_text : NameKind → Text
kind_text Global = codes "global"
kind_text Struct = codes "struct"
kind_text Field = codes "field"
kind_text Union = codes "union"
kind_text Member = codes "member"
kind_text Function = codes "function"
kind_text Site = codes "site"
kind_text Handler = codes "handler"
kind_text After = codes "after"

abbrev pub pairing_words : PairingRefusal → List Text
pairing_words (pairing.NoSuch kind name) = codes "nosuch" ∷ kind_text kind ∷ name ∷ []
pairing_words (pairing.Twice kind name) = codes "twice" ∷ kind_text kind ∷ name ∷ []

abbrev pub schedule_words : ScheduleRefusal → List Text
schedule_words schedule.Absent = codes "absent" ∷ []
schedule_words schedule.TooLarge = codes "size" ∷ []
schedule_words (schedule.Line n) = codes "line" ∷ decimal n ∷ []
schedule_words schedule.Limit = codes "limit" ∷ []

-- ---- lines

-- the line of these words
abbrev pub refused_line : List Text → Text
refused_line words = codes "refused" ++ further_words words

-- the words behind `refused`: what is refused, and why
abbrev pub refusal_words : LoadRefusal → List Text
refusal_words (of.Plan why) = codes "plan" ∷ plan_words why
refusal_words (of.Source file why) = file ∷ source_words why
refusal_words (of.TooLong file function) = file ∷ codes "long" ∷ function ∷ []
refusal_words (of.Filter update why) = codes "update" ∷ update ∷ codes "filter" ∷ filter_words why
refusal_words (of.Pairing update why) = codes "update" ∷ update ∷ pairing_words why
refusal_words (of.Schedule why) = codes "schedule" ∷ schedule_words why

-- the line that is written of a refusal
abbrev pub refusal_line : LoadRefusal → Text
refusal_line refusal = refused_line (refusal_words refusal)
