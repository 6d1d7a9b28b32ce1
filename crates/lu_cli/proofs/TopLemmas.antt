-- What is written of a setup, and what the statuses say.
use Rattle.std.proofs.Common.{◌≡◌, ◌⊎◌, inl, inr, ℕ, List, [], ◌∷◌, ◌++◌, length, Option, Some, None, Result, Ok, Err, IfOk, IfSome, refl, sym, ◌∙◌, ap, subst}
use Rattle.std.proofs.lemmas.List.{append-nil}
use Rattle.lu_spec.specs.Prefix.{IsPrefix}
use Rattle.lu_base.specs.Files.{Files}
use Rattle.lu_base.specs.declared.status.Status.{Status}
use Rattle.lu_base.specs.declared.status.Status.TheVariants as status
use Rattle.plan_file.specs.declared.plan.Update.{Update}
use Rattle.lu_load_lines.specs.declared.refusal.LoadRefusal.{LoadRefusal}
use Rattle.lu_load_lines.specs.Lines.{refusal_line}
use Rattle.lu_load.specs.declared.setup.Setup.{Setup}
use Rattle.lu_load.specs.declared.error.LoadError.{LoadError}
use Rattle.lu_load.specs.declared.error.LoadError.TheVariants as load
use Rattle.lu_load.specs.Setups.{LoadAnswers}
use Rattle.lu_cli.specs.declared.words.Verb.{Verb}
use Rattle.lu_cli.specs.declared.words.Verb.TheVariants.{Run, Check}
use Rattle.lu_cli.specs.declared.write.Stopped.{Stopped}
use Rattle.lu_cli.specs.declared.write.Stopped.TheVariants as stopped
use Rattle.lu_cli.specs.Sequence as sequence
use Rattle.lu_cli.specs.Stops.{status_of}
use Rattle.lu_cli.specs.Words.{Asked, asked}
use Rattle.lu_cli.specs.Ran.{RunWrote, RunFront}
use Rattle.lu_cli.specs.Top.{unbuilt_line, ok_line, RunWrites, PlanFront, SetupWrites, SetupFront, SetupWrote, Writes, IsFrontOf, WroteWhole, WroteFront, Answers}

-- ---- what is written of a setup

whole : (verb : Verb) (setup : Setup) (s : Status) (piece : List ℕ) (held after : Option (List ℕ)) (r : Result Status Stopped)
    → SetupWrites verb setup s piece → ((front : List ℕ) → IsPrefix front piece → SetupFront verb setup front)
    → IfOk r (λ t. t ≡ s) → IfSome held (λ before. sequence.Wrote before piece after r) → IfSome held (λ before. SetupWrote verb setup before after r)
whole verb setup s piece None after r writes fronts status wrote = tt
whole verb setup s piece (Some before) after (Ok t) writes fronts status wrote = (piece, subst (λ t. SetupWrites verb setup t piece) (sym status) writes, wrote)
whole verb setup s piece (Some before) after (Err e) writes fronts status wrote = (wrote.0, fronts wrote.0 wrote.1, wrote.2)

pub checked : (setup : Setup) (held after : Option (List ℕ)) (r : Result Status Stopped) → IfOk r (λ t. t ≡ status.Done)
    → IfSome held (λ before. sequence.Wrote before ok_line after r) → IfSome held (λ before. SetupWrote Check setup before after r)
checked setup held after r = whole Check setup status.Done ok_line held after r (refl, refl) (λ front is. is)

unbuilt_writes : (us : List Update) (setup : Setup) → (length us ≡ 0 → ⊥) → RunWrites us setup status.Refused unbuilt_line
unbuilt_writes [] setup some = absurd (some refl)
unbuilt_writes (u ∷ us) setup some = (refl, refl)

unbuilt_front : (us : List Update) (setup : Setup) (front : List ℕ) → (length us ≡ 0 → ⊥) → IsPrefix front unbuilt_line → PlanFront us setup front
unbuilt_front [] setup front some is = absurd (some refl)
unbuilt_front (u ∷ us) setup front some is = is

pub unbuilt : (setup : Setup) (held after : Option (List ℕ)) (r : Result Status Stopped) → (length setup.plan.update ≡ 0 → ⊥)
    → IfOk r (λ t. t ≡ status.Refused) → IfSome held (λ before. sequence.Wrote before unbuilt_line after r)
    → IfSome held (λ before. SetupWrote Run setup before after r)
unbuilt setup held after r some =
    whole Run setup status.Refused unbuilt_line held after r (unbuilt_writes setup.plan.update setup some) (λ front is. unbuilt_front setup.plan.update setup front some is)

pub ran : (setup : Setup) (held after : Option (List ℕ)) (f : Unit {0}) → setup.plan.update ≡ []
    → IfSome held (λ before. RunWrote {E = Stopped} setup before after (Ok f)) → IfSome held (λ before. SetupWrote {E = Stopped} Run setup before after (Ok status.Done))
ran setup None after f none wrote = tt
ran setup (Some before) after f none wrote = (wrote.0, subst (λ us. RunWrites us setup status.Done wrote.0) (sym none) (refl, wrote.1), wrote.2)

pub ran-stopped : (setup : Setup) (held after : Option (List ℕ)) (e : Stopped) → setup.plan.update ≡ []
    → IfSome held (λ before. RunWrote {E = Stopped} setup before after (Err e)) → IfSome held (λ before. SetupWrote {E = Stopped} Run setup before after (Err e))
ran-stopped setup None after e none wrote = tt
ran-stopped setup (Some before) after e none wrote = (wrote.0, subst (λ us. PlanFront us setup wrote.0) (sym none) wrote.1, wrote.2)

-- ---- what the statuses say

abbrev Says : Option Files → Option (List ℕ) → Asked → Option (List ℕ) → Status → Type 0
Says held wrote a after s = IfSome held (λ files. IfSome wrote (λ before. Answers files a before after s))

whole_says : (files : Files) (a : Asked) (before : List ℕ) (after : Option (List ℕ)) (s : Status) → (s ≡ status.Done) ⊎ (s ≡ status.Refused)
    → WroteWhole files a before after s → Answers files a before after s
whole_says files a before after s (inl e) w = subst (Answers files a before after) (sym e) (subst (WroteWhole files a before after) e w)
whole_says files a before after s (inr e) w = subst (Answers files a before after) (sym e) (subst (WroteWhole files a before after) e w)

setup_says : (files : Files) (verb : Verb) (plan before : List ℕ) (after : Option (List ℕ)) (setup : Setup) (r : Result Status Stopped)
    → LoadAnswers files plan (Ok setup) → IfOk r (λ s. (s ≡ status.Done) ⊎ (s ≡ status.Refused)) → SetupWrote verb setup before after r
    → Answers files (asked verb plan) before after (status_of r)
setup_says files verb plan before after setup (Ok s) loaded is wrote =
    whole_says files (asked verb plan) before after s is (record { loaded = Ok setup; answer = loaded; text = wrote.0; writes = wrote.1; wrote = wrote.2 })
setup_says files verb plan before after setup (Err stopped.WriteFault) loaded is wrote =
    record { loaded = Ok setup; answer = loaded; front = wrote.0; is = wrote.1; wrote = wrote.2 }
setup_says files verb plan before after setup (Err stopped.Memory) loaded is wrote =
    record { loaded = Ok setup; answer = loaded; front = wrote.0; is = wrote.1; wrote = wrote.2 }

pub setup-says : (held : Option Files) (wrote : Option (List ℕ)) (verb : Verb) (plan : List ℕ) (after : Option (List ℕ)) (setup : Setup) (r : Result Status Stopped) (s : Status)
    → s ≡ status_of r → IfSome held (λ files. LoadAnswers files plan (Ok setup)) → IfOk r (λ s. (s ≡ status.Done) ⊎ (s ≡ status.Refused))
    → IfSome wrote (λ before. SetupWrote verb setup before after r) → Says held wrote (asked verb plan) after s
setup-says None wrote verb plan after setup r s e loaded is text = tt
setup-says (Some files) None verb plan after setup r s e loaded is text = tt
setup-says (Some files) (Some before) verb plan after setup r s e loaded is text =
    subst (Answers files (asked verb plan) before after) (sym e) (setup_says files verb plan before after setup r loaded is text)

refusal_says : (files : Files) (verb : Verb) (plan before : List ℕ) (after : Option (List ℕ)) (refusal : LoadRefusal) (r : Result Status Stopped)
    → LoadAnswers files plan (Err (load.Refused refusal)) → IfOk r (λ s. s ≡ status.Refused) → sequence.Wrote before (refusal_line refusal) after r
    → Answers files (asked verb plan) before after (status_of r)
refusal_says files verb plan before after refusal (Ok s) loaded is wrote =
    subst (Answers files (asked verb plan) before after) (sym is)
    (record { loaded = Err (load.Refused refusal); answer = loaded; text = refusal_line refusal; writes = (refl, refl); wrote = wrote })
refusal_says files verb plan before after refusal (Err stopped.WriteFault) loaded is wrote =
    record { loaded = Err (load.Refused refusal); answer = loaded; front = wrote.0; is = wrote.1; wrote = wrote.2 }
refusal_says files verb plan before after refusal (Err stopped.Memory) loaded is wrote =
    record { loaded = Err (load.Refused refusal); answer = loaded; front = wrote.0; is = wrote.1; wrote = wrote.2 }

pub refusal-says : (held : Option Files) (wrote : Option (List ℕ)) (verb : Verb) (plan : List ℕ) (after : Option (List ℕ)) (refusal : LoadRefusal) (r : Result Status Stopped) (s : Status)
    → s ≡ status_of r → IfSome held (λ files. LoadAnswers files plan (Err (load.Refused refusal))) → IfOk r (λ s. s ≡ status.Refused)
    → IfSome wrote (λ before. sequence.Wrote before (refusal_line refusal) after r) → Says held wrote (asked verb plan) after s
refusal-says None wrote verb plan after refusal r s e loaded is text = tt
refusal-says (Some files) None verb plan after refusal r s e loaded is text = tt
refusal-says (Some files) (Some before) verb plan after refusal r s e loaded is text =
    subst (Answers files (asked verb plan) before after) (sym e) (refusal_says files verb plan before after refusal r loaded is text)

pub memory-says : (held : Option Files) (wrote : Option (List ℕ)) (verb : Verb) (plan : List ℕ)
    → IfSome held (λ files. LoadAnswers files plan (Err load.Memory)) → Says held wrote (asked verb plan) wrote status.Memory
memory-says None wrote verb plan loaded = tt
memory-says (Some files) None verb plan loaded = tt
memory-says (Some files) (Some before) verb plan loaded =
    record { loaded = Err load.Memory; answer = loaded; front = []; is = refl; wrote = ap (λ l. Some l) (sym (append-nil before)) }
