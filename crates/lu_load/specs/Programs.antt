-- The programs of a plan's sources, and why a source has none.
use Rattle.std.specs.Prelude.{◌≡◌, ⊤, ℕ, List, [], ◌∷◌, ◌++◌, map, take, slice_get, Some, None, Result, Ok, Err}
use Rattle.lu_spec.specs.Then.{then_option}
use Rattle.std.specs.Option.{unwrap_or}
use Rattle.lu_base.specs.Files.{Files}
use Rattle.lu_lines.specs.Line.{Text}
use Rattle.plan_file.specs.declared.plan.Plan.{Plan}
use Rattle.plan_file.specs.declared.plan.Server.{Server}
use Rattle.plan_file.specs.declared.plan.Update.{Update}
use Rattle.plan_file.specs.declared.plan.Pointers.{Pointers}
use Rattle.plan_file.specs.declared.plan.Pointers.TheVariants.{Narrow, Wide}
use Rattle.src_tree.specs.declared.program.Program.{Program}
use Rattle.cg_program.specs.Compiled.{Source, source, first_long}
use Rattle.lu_source.specs.Sources.{IsSource, RefusesFile}
use Rattle.lu_load_lines.specs.declared.refusal.LoadRefusal.{LoadRefusal}
use Rattle.lu_load_lines.specs.declared.refusal.LoadRefusal.TheVariants as of
use Rattle.lu_load.specs.declared.source.SourceFile.{SourceFile}
use Rattle.lu_load.specs.declared.error.LoadError.{LoadError}
use Rattle.lu_load.specs.declared.error.LoadError.TheVariants.{Refused, ReadFault, Memory}

-- the size of a program's pointers in bytes
abbrev pub pointer_size : Pointers → ℕ
pointer_size Narrow = 4
pointer_size Wide = 8

abbrev pub server_source : Server → SourceFile
server_source s = record { file = s.source; pointers = s.pointers }

abbrev pub update_source : Update → SourceFile
update_source u = record { file = u.source; pointers = u.pointers }

-- the sources of a plan: those of its servers, and behind them those of its updates
abbrev pub sources_of : Plan → List SourceFile
sources_of plan = map server_source plan.server ++ map update_source plan.update

-- the text of the file denotes this program
abbrev pub IsProgramOf : Files → SourceFile → Program → Type 0
IsProgramOf files s program = IsSource (pointer_size s.pointers) (files s.file) program

-- the text of the file denotes the code's program, which has no filter, and no function of which is too long
pub record IsLoaded (files : Files) (s : SourceFile) (code : Source) : Type 0 where
  pub denoted : IsProgramOf files s code.program
  pub short : first_long code.program.functions ≡ None
  pub plain : code.filters ≡ []

-- the code of each source in turn
abbrev pub AreLoaded : Files → List SourceFile → List Source → Type 0
AreLoaded files [] [] = ⊤
AreLoaded files (s ∷ ss) (c ∷ cs) = IsLoaded files s c × AreLoaded files ss cs
AreLoaded files ss cs = ⊥

-- the name of a function of a valid program
abbrev pub function_text : Program → ℕ → Text
function_text p k = unwrap_or (then_option (slice_get p.functions k) (λ f. slice_get p.names f.name)) []

-- the function of that name is the first of the program that is too long
pub record IsTooLong (program : Program) (function : Text) : Type 0 where
  pub number : ℕ
  pub first : first_long program.functions ≡ Some number
  pub name : function ≡ function_text program number

-- why a source has no code: its file is none, or a function of its program is too long
abbrev pub RefusesSource : Files → SourceFile → LoadRefusal → Type 0
RefusesSource files s (of.Source file why) = (file ≡ s.file) × RefusesFile (pointer_size s.pointers) (files file) why
RefusesSource files s (of.TooLong file function) =
    (file ≡ s.file) × ((program : Program) × IsProgramOf files s program × IsTooLong program function)
RefusesSource files s other = ⊥

-- the first of the sources that has no code, with the cause
pub record RefusesSources (files : Files) (ss : List SourceFile) (refusal : LoadRefusal) : Type 0 where
  pub place : ℕ
  pub refused : SourceFile
  pub there : slice_get ss place ≡ Some refused
  pub codes : List Source
  pub before : AreLoaded files (take place ss) codes
  pub cause : RefusesSource files refused refusal

-- What an answer says of a source: a failed read, and want of memory, say nothing.
abbrev pub SourceAnswers : Files → SourceFile → Result Source LoadError → Type 0
SourceAnswers files s (Ok code) = IsLoaded files s code
SourceAnswers files s (Err (Refused refusal)) = RefusesSource files s refusal
SourceAnswers files s (Err ReadFault) = ⊤
SourceAnswers files s (Err Memory) = ⊤

-- What an answer says of a valid program, where it is the source's: want of memory says nothing, and there is no other cause.
abbrev pub CodeAnswers : SourceFile → Program → Result Source LoadError → Type 0
CodeAnswers s program (Ok code) = (code ≡ source program []) × (first_long program.functions ≡ None)
CodeAnswers s program (Err (Refused (of.TooLong file function))) = (file ≡ s.file) × IsTooLong program function
CodeAnswers s program (Err Memory) = ⊤
CodeAnswers s program (Err other) = ⊥

abbrev pub SourcesAnswers : Files → List SourceFile → Result (List Source) LoadError → Type 0
SourcesAnswers files ss (Ok codes) = AreLoaded files ss codes
SourcesAnswers files ss (Err (Refused refusal)) = RefusesSources files ss refusal
SourcesAnswers files ss (Err ReadFault) = ⊤
SourcesAnswers files ss (Err Memory) = ⊤
