-- The plan that a file stands for, and why it stands for none.
use Rattle.std.specs.Prelude.{◌≡◌, ⊤, ◌<◌, length, Option, None, Result, Ok, Err, IsSomeAnd}
use Rattle.lu_base.specs.declared.limits.TheConstants.{TEXT_BYTES}
use Rattle.lu_lines.specs.Line.{Text}
use Rattle.plan_file.specs.declared.error.PlanError.TheVariants as error
use Rattle.plan_file.specs.declared.plan.Plan.{Plan}
use Rattle.plan_file.specs.Plans.{plan_of}
use Rattle.lu_source.specs.Sources.{HasText}
use Rattle.lu_load_lines.specs.declared.refusal.LoadRefusal.TheVariants as of
use Rattle.lu_load_lines.specs.declared.refusal.PlanRefusal.{PlanRefusal}
use Rattle.lu_load_lines.specs.declared.refusal.PlanRefusal.TheVariants.{Absent, TooLarge, NotToml, Field, Limit}
use Rattle.lu_load.specs.declared.error.LoadError.{LoadError}
use Rattle.lu_load.specs.declared.error.LoadError.TheVariants.{Refused, ReadFault, Memory}

-- the file is there, within the limit, and its text stands for this plan
abbrev pub IsPlan : Option Text → Plan → Type 0
IsPlan file plan = (text : Text) × HasText file text × (plan_of text ≡ Ok plan)

-- why a text stands for no plan; the other causes are none of a text
abbrev pub RefusesPlanText : Text → PlanRefusal → Type 0
RefusesPlanText text Absent = ⊥
RefusesPlanText text TooLarge = ⊥
RefusesPlanText text NotToml = plan_of text ≡ Err error.NotToml
RefusesPlanText text (Field key) = plan_of text ≡ Err (error.Field key)
RefusesPlanText text (Limit list) = plan_of text ≡ Err (error.Limit list)

-- why a file is no plan: it isn't there, is above the limit, or its text stands for none
abbrev pub RefusesPlan : Option Text → PlanRefusal → Type 0
RefusesPlan file Absent = file ≡ None
RefusesPlan file TooLarge = IsSomeAnd file (λ text. TEXT_BYTES < length text)
RefusesPlan file cause = (text : Text) × HasText file text × RefusesPlanText text cause

-- What an answer says of a text: want of memory says nothing, and other answers are none of a plan's text.
abbrev pub PlanTextAnswers : Text → Result Plan LoadError → Type 0
PlanTextAnswers text (Ok plan) = plan_of text ≡ Ok plan
PlanTextAnswers text (Err (Refused (of.Plan why))) = RefusesPlanText text why
PlanTextAnswers text (Err Memory) = ⊤
PlanTextAnswers text (Err other) = ⊥

-- What an answer says of a file: a failed read, and want of memory, say nothing.
abbrev pub PlanAnswers : Option Text → Result Plan LoadError → Type 0
PlanAnswers file (Ok plan) = IsPlan file plan
PlanAnswers file (Err (Refused (of.Plan why))) = RefusesPlan file why
PlanAnswers file (Err ReadFault) = ⊤
PlanAnswers file (Err Memory) = ⊤
PlanAnswers file (Err other) = ⊥
