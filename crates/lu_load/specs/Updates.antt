-- What the updates of a plan stand for between the codes of its sources, and which is refused first.
use Rattle.std.specs.Prelude.{◌≡◌, ⊤, ℕ, ◌+◌, Bool, false, ◌&&◌, nat_eq, if◌then◌else◌, List, length, position, unwrap_or, slice_get, Some, Result, Ok, Err}
use Rattle.std.specs.Option.{option_map_or}
use Rattle.lu_lines.specs.Line.{Text}
use Rattle.src_tree.specs.declared.expr.TypedExpr.{TypedExpr}
use Rattle.src_tree.specs.declared.program.Program.{Program}
use Rattle.plan_file.specs.declared.plan.Plan.{Plan}
use Rattle.plan_file.specs.declared.plan.Server.{Server}
use Rattle.plan_file.specs.declared.plan.Update.{Update}
use Rattle.cg_program.specs.Compiled.{Source}
use Rattle.lu_image.specs.declared.pairing.Pairing.{Pairing}
use Rattle.lu_image.specs.Pairs.{Pairs}
use Rattle.lu_filter.specs.declared.error.FilterError.TheVariants as filter_error
use Rattle.lu_filter.specs.Filters.{IsFilter, Refuses}
use Rattle.lu_resolve.specs.declared.error.ResolveError.TheVariants as resolve
use Rattle.lu_resolve.specs.Updates.{resolved}
use Rattle.lu_load_lines.specs.declared.refusal.FilterRefusal.{FilterRefusal}
use Rattle.lu_load_lines.specs.declared.refusal.FilterRefusal.TheVariants.{BadByte, BadNumber, Syntax, TooDeep, Rule, NotInteger}
use Rattle.lu_load_lines.specs.declared.refusal.LoadRefusal.{LoadRefusal}
use Rattle.lu_load_lines.specs.declared.refusal.LoadRefusal.TheVariants as of
use Rattle.lu_load.specs.declared.error.LoadError.{LoadError}
use Rattle.lu_load.specs.declared.error.LoadError.TheVariants.{Refused, ReadFault, Memory}
use Rattle.lu_load.specs.declared.update.UpdateSetup.{UpdateSetup}
use Rattle.lu_load.specs.declared.update.Resolution.{Resolution}

-- ---- places

-- an update brings the version of the server
abbrev pub brings : ℕ → ℕ → Update → Bool
brings server version u = nat_eq u.server server && nat_eq u.to version

-- it is the version that the server begins with
abbrev pub begins_with : List Server → ℕ → ℕ → Bool
begins_with servers server version = option_map_or (λ (s : Server). nat_eq s.version version) (slice_get servers server) false

-- how many updates come before the first that brings the version of the server
abbrev pub bringing : List Update → ℕ → ℕ → ℕ
bringing updates server version = unwrap_or (position (brings server version) updates) (length updates)

-- the place of a version of a server among the sources: the server's, or behind the servers that of the update that brings it
abbrev pub version_place : Plan → ℕ → ℕ → ℕ
version_place plan server version =
    if begins_with plan.server server version then server else length plan.server + bringing plan.update server version

-- ---- updates

-- An update of that number: the places of the codes that it replaces and brings, its filter, and what belongs together in the
-- two programs, which it pairs.
pub record IsUpdate (plan : Plan) (codes : List Source) (number : ℕ) (u : Update) (s : UpdateSetup) : Type 0 where
  pub old_place : s.old ≡ version_place plan u.server u.from
  pub new_place : s.new ≡ length plan.server + number
  pub old : Source
  pub old_is : slice_get codes s.old ≡ Some old
  pub new : Source
  pub new_is : slice_get codes s.new ≡ Some new
  pub filter : IsFilter old.program u.filter s.filter
  pub pairing : resolved old.program new.program u ≡ Ok s.pairing
  pub pairs : Pairs old.program new.program s.pairing

-- the first updates of a plan, so many
pub record AreUpdates (plan : Plan) (codes : List Source) (count : ℕ) (updates : List UpdateSetup) : Type 0 where
  pub count_is : length updates ≡ count
  pub each : (k : ℕ) (s : UpdateSetup) → slice_get updates k ≡ Some s
      → (u : Update) × (slice_get plan.update k ≡ Some u) × IsUpdate plan codes k u s

-- ---- refusals

-- why a text is no filter of a program
abbrev pub RefusesFilter : Program → Text → FilterRefusal → Type 0
RefusesFilter old text (BadByte col) = Refuses old text (filter_error.BadByte col)
RefusesFilter old text (BadNumber col) = Refuses old text (filter_error.BadNumber col)
RefusesFilter old text Syntax = Refuses old text filter_error.Syntax
RefusesFilter old text TooDeep = Refuses old text filter_error.TooDeep
RefusesFilter old text (Rule code) = Refuses old text (filter_error.Rule code)
RefusesFilter old text NotInteger = Refuses old text filter_error.NotInt

abbrev pub HasFilter : Program → Text → Type 0
HasFilter old text = (filter : TypedExpr) × IsFilter old text filter

-- why an update stands for nothing between two programs: the filter is tried first
abbrev pub RefusesBetween : Program → Program → Update → LoadRefusal → Type 0
RefusesBetween old new u (of.Filter name why) = (name ≡ u.name) × RefusesFilter old u.filter why
RefusesBetween old new u (of.Pairing name why) =
    (name ≡ u.name) × (HasFilter old u.filter × (resolved old new u ≡ Err (resolve.Refused why)))
RefusesBetween old new u other = ⊥

-- why the update of that number stands for nothing
pub record RefusesUpdate (plan : Plan) (codes : List Source) (number : ℕ) (refusal : LoadRefusal) : Type 0 where
  pub refused : Update
  pub there : slice_get plan.update number ≡ Some refused
  pub old : Source
  pub old_is : slice_get codes (version_place plan refused.server refused.from) ≡ Some old
  pub new : Source
  pub new_is : slice_get codes (length plan.server + number) ≡ Some new
  pub cause : RefusesBetween old.program new.program refused refusal

-- the first of the updates that stands for nothing, with the cause
pub record RefusesUpdates (plan : Plan) (codes : List Source) (refusal : LoadRefusal) : Type 0 where
  pub number : ℕ
  pub updates : List UpdateSetup
  pub before : AreUpdates plan codes number updates
  pub cause : RefusesUpdate plan codes number refusal

-- ---- answers: want of memory says nothing, and no other cause is an update's

abbrev pub FilterAnswers : Program → Update → Result TypedExpr LoadError → Type 0
FilterAnswers old u (Ok filter) = IsFilter old u.filter filter
FilterAnswers old u (Err (Refused (of.Filter name why))) = (name ≡ u.name) × RefusesFilter old u.filter why
FilterAnswers old u (Err Memory) = ⊤
FilterAnswers old u (Err other) = ⊥

abbrev pub PairingAnswers : Program → Program → Update → Result Pairing LoadError → Type 0
PairingAnswers old new u (Ok p) = (resolved old new u ≡ Ok p) × Pairs old new p
PairingAnswers old new u (Err (Refused (of.Pairing name why))) = (name ≡ u.name) × (resolved old new u ≡ Err (resolve.Refused why))
PairingAnswers old new u (Err Memory) = ⊤
PairingAnswers old new u (Err other) = ⊥

-- what an update stands for between two programs
pub record Resolves (old new : Program) (u : Update) (r : Resolution) : Type 0 where
  pub filter : IsFilter old u.filter r.filter
  pub pairing : resolved old new u ≡ Ok r.pairing
  pub pairs : Pairs old new r.pairing

abbrev pub BetweenAnswers : Program → Program → Update → Result Resolution LoadError → Type 0
BetweenAnswers old new u (Ok r) = Resolves old new u r
BetweenAnswers old new u (Err (Refused refusal)) = RefusesBetween old new u refusal
BetweenAnswers old new u (Err Memory) = ⊤
BetweenAnswers old new u (Err ReadFault) = ⊥

abbrev pub UpdateAnswers : Plan → List Source → ℕ → Result UpdateSetup LoadError → Type 0
UpdateAnswers plan codes number (Ok s) = (u : Update) × (slice_get plan.update number ≡ Some u) × IsUpdate plan codes number u s
UpdateAnswers plan codes number (Err (Refused refusal)) = RefusesUpdate plan codes number refusal
UpdateAnswers plan codes number (Err Memory) = ⊤
UpdateAnswers plan codes number (Err ReadFault) = ⊥

abbrev pub UpdatesAnswers : Plan → List Source → Result (List UpdateSetup) LoadError → Type 0
UpdatesAnswers plan codes (Ok updates) = AreUpdates plan codes (length plan.update) updates
UpdatesAnswers plan codes (Err (Refused refusal)) = RefusesUpdates plan codes refusal
UpdatesAnswers plan codes (Err Memory) = ⊤
UpdatesAnswers plan codes (Err ReadFault) = ⊥
