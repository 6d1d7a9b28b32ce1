-- What a call of the program says of the files and of what was written.
use Rattle.std.specs.Prelude.{◌≡◌, ◌≤◌, ℕ, List, [], ◌∷◌, ◌++◌, length, Option, Some, None, Result, Ok, Err, codes}
use Rattle.lu_spec.specs.Fault.{HasRisen}
use Rattle.lu_spec.specs.Prefix.{IsPrefix}
use Rattle.lu_base.specs.Files.{Files}
use Rattle.lu_base.specs.declared.status.Status.{Status}
use Rattle.lu_base.specs.declared.status.Status.TheVariants.{Done, Usage, ReadFault, Refused, WriteFault, Memory}
use Rattle.plan_file.specs.declared.plan.Update.{Update}
use Rattle.lu_load_lines.specs.Lines.{refusal_line}
use Rattle.lu_load.specs.declared.setup.Setup.{Setup}
use Rattle.lu_load.specs.declared.error.LoadError.{LoadError}
use Rattle.lu_load.specs.declared.error.LoadError.TheVariants as load
use Rattle.lu_load.specs.Setups.{LoadAnswers}
use Rattle.lu_cli.specs.declared.words.Verb.{Verb}
use Rattle.lu_cli.specs.declared.words.Verb.TheVariants.{Run, Check}
use Rattle.lu_cli.specs.Words.{Asked}
use Rattle.lu_cli.specs.Told.{Tells}
use Rattle.lu_cli.specs.Ran.{RunFront}

-- the line of a plan whose updates the program doesn't run
abbrev pub unbuilt_line : List ℕ
unbuilt_line = codes "refused unbuilt" ++ 10 ∷ []

-- the line of a plan that is loaded
abbrev pub ok_line : List ℕ
ok_line = codes "ok" ++ 10 ∷ []

-- what `run` writes of a setup, and its status: the lines of the run, where the plan has no update
abbrev pub RunWrites : List Update → Setup → Status → List ℕ → Type 0
RunWrites [] setup status text = (status ≡ Done) × Tells setup text
RunWrites (u ∷ us) setup status text = (status ≡ Refused) × (text ≡ unbuilt_line)

abbrev pub SetupWrites : Verb → Setup → Status → List ℕ → Type 0
SetupWrites Run setup status text = RunWrites setup.plan.update setup status text
SetupWrites Check setup status text = (status ≡ Done) × (text ≡ ok_line)

-- what a verb writes of what was loaded, and its status
abbrev pub Writes : Verb → Result Setup LoadError → Status → List ℕ → Type 0
Writes verb (Ok setup) status text = SetupWrites verb setup status text
Writes verb (Err (load.Refused refusal)) status text = (status ≡ Refused) × (text ≡ refusal_line refusal)
Writes verb (Err load.ReadFault) status text = ⊥
Writes verb (Err load.Memory) status text = ⊥

-- a front of what `run` writes
abbrev pub PlanFront : List Update → Setup → List ℕ → Type 0
PlanFront [] setup front = RunFront setup front
PlanFront (u ∷ us) setup front = IsPrefix front unbuilt_line

abbrev pub SetupFront : Verb → Setup → List ℕ → Type 0
SetupFront Run setup front = PlanFront setup.plan.update setup front
SetupFront Check setup front = IsPrefix front ok_line

-- with Ok all that the verb writes of a setup was written, and else a front of it
abbrev pub SetupWrote : {E : Type 0} → Verb → Setup → List ℕ → Option (List ℕ) → Result Status E → Type 0
SetupWrote verb setup before after (Ok status) =
    (text : List ℕ) × SetupWrites verb setup status text × (after ≡ Some (before ++ text))
SetupWrote verb setup before after (Err _) = (front : List ℕ) × SetupFront verb setup front × (after ≡ Some (before ++ front))

-- a front of what a verb writes of what was loaded; nothing where memory was refused to the loader
abbrev pub IsFrontOf : Verb → Result Setup LoadError → List ℕ → Type 0
IsFrontOf verb (Ok setup) front = SetupFront verb setup front
IsFrontOf verb (Err (load.Refused refusal)) front = IsPrefix front (refusal_line refusal)
IsFrontOf verb (Err load.ReadFault) front = ⊥
IsFrontOf verb (Err load.Memory) front = front ≡ []

-- the whole text was written behind what stood there before
pub record WroteWhole (files : Files) (asked : Asked) (before : List ℕ) (after : Option (List ℕ)) (status : Status) : Type 0 where
  pub loaded : Result Setup LoadError
  pub answer : LoadAnswers files asked.plan loaded
  pub text : List ℕ
  pub writes : Writes asked.verb loaded status text
  pub wrote : after ≡ Some (before ++ text)

-- a front of it was written
pub record WroteFront (files : Files) (asked : Asked) (before : List ℕ) (after : Option (List ℕ)) : Type 0 where
  pub loaded : Result Setup LoadError
  pub answer : LoadAnswers files asked.plan loaded
  pub front : List ℕ
  pub is : IsFrontOf asked.verb loaded front
  pub wrote : after ≡ Some (before ++ front)

-- What each status says. With a failed read nothing was written, and with a failed write or want of memory a front.
abbrev pub Answers : Files → Asked → List ℕ → Option (List ℕ) → Status → Type 0
Answers files asked before after Done = WroteWhole files asked before after Done
Answers files asked before after Refused = WroteWhole files asked before after Refused
Answers files asked before after Usage = ⊥
Answers files asked before after ReadFault = after ≡ Some before
Answers files asked before after WriteFault = WroteFront files asked before after
Answers files asked before after Memory = WroteFront files asked before after

-- the count of faults never falls, and the status is answered only where it has risen
pub record OnlyRisen (fault : Status) (before now : ℕ) (status : Status) : Type 0 where
  pub later : before ≤ now
  pub risen : status ≡ fault → HasRisen before now
