-- The updates of a plan.
use Rattle.std.specs.Prelude.{ℕ, ◌+◌, ℤ, List, [], ◌∷◌, Bool, false, ◌&&◌, ◌||◌, not, nat_eq, nat_le, Option, Some, None, Result, Ok, if◌then◌else◌, codes}
use Rattle.std.specs.List.{list_any}
use Rattle.std.specs.Str.{bytes_eq}
use Rattle.lu_spec.specs.Then.{then_option, then_do}
use Rattle.toml.specs.Data.{Data, Members, get_member, as_str, as_bool, as_array, as_table}
use Rattle.plan_file.specs.declared.key.Key.TheVariants as key
use Rattle.plan_file.specs.declared.error.PlanError.{PlanError}
use Rattle.plan_file.specs.declared.plan.Server.{Server}
use Rattle.plan_file.specs.declared.plan.Update.{Update}
use Rattle.plan_file.specs.declared.plan.Dangling.TheVariants as dangling
use Rattle.plan_file.specs.declared.plan.Pointers.TheVariants as pointers
use Rattle.plan_file.specs.declared.update.Target.{Target}
use Rattle.plan_file.specs.declared.update.Step.{Step}
use Rattle.plan_file.specs.declared.settings.Settings.{Settings}
use Rattle.plan_file.specs.Forms.{is_name, is_file_name, is_filter, text_where, number_between, count_of, int_of, dangling_of, pointers_of}
use Rattle.plan_file.specs.Lookup.{optional, needed, defaulted, or_field, if_passed, has_only, each_onto}
use Rattle.plan_file.specs.Renames.{renames_of, are_in_order}
use Rattle.plan_file.specs.Handlers.{handlers_of}

-- the place and the own version of the server of a name, where the first of the list has that place
abbrev pub target_from : ℕ → List Server → List ℕ → Option Target
target_from place [] name = None
target_from place (s ∷ ss) name =
    if bytes_eq s.name name then Some (record { server = place; version = s.version }) else target_from (place + 1) ss name

-- a server's name
abbrev pub target_of : List Server → Data → Option Target
target_of servers d = then_option (as_str d) (target_from 0 servers)

-- the `to` of an earlier update of the server
abbrev pub is_reached : Target → List Update → ℕ → Bool
is_reached target earlier version = list_any (λ (u : Update). nat_eq u.server target.server && nat_eq u.to version) earlier

-- the server's own version, or the `to` of an earlier update of it
abbrev pub is_version : Target → List Update → ℕ → Bool
is_version target earlier version = nat_eq target.version version || is_reached target earlier version

abbrev pub has_update_name : List Update → List ℕ → Bool
has_update_name updates name = list_any (λ (u : Update). bytes_eq u.name name) updates

-- which step of which server an update is, or the first refusal
unfoldable pub step_of : List Server → List Update → Members → Result Step PlanError
step_of servers earlier ms =
    then_do (needed ms (codes "name") key.UpdateName (text_where is_name)) (λ name.
    if_passed (not (has_update_name earlier name)) key.UpdateName (
    then_do (needed ms (codes "server") key.UpdateServer (target_of servers)) (λ target.
    then_do (needed ms (codes "from") key.UpdateFrom (number_between 1 1000000)) (λ from.
    if_passed (is_version target earlier from) key.UpdateFrom (
    then_do (needed ms (codes "to") key.UpdateTo (number_between 1 1000000)) (λ to.
    if_passed (not (is_version target earlier to)) key.UpdateTo (
    then_do (needed ms (codes "source") key.UpdateSource (text_where is_file_name)) (λ source.
    then_do (defaulted ms (codes "pointers") key.UpdatePointers pointers_of pointers.Narrow) (λ size.
    Ok (record { name = name; server = target.server; from = from; to = to; source = source; pointers = size }))))))))))

abbrev pub hold_at : List ℤ → Data → Result ℤ PlanError
hold_at earlier d = or_field key.UpdateHold (int_of d)

-- a list of at most 64 ints
abbrev pub hold_in : Data → Result (List ℤ) PlanError
hold_in d =
    then_do (or_field key.UpdateHold (as_array d)) (λ ds. if_passed (nat_le (count_of ds) 64) key.UpdateHold (each_onto hold_at [] ds))

-- the types that are held, none where there is no list of them
abbrev pub hold_of : Option Data → Result (List ℤ) PlanError
hold_of None = Ok []
hold_of (Some d) = hold_in d

-- how an update goes, or the first refusal
unfoldable pub settings_of : Members → Result Settings PlanError
settings_of ms =
    then_do (defaulted ms (codes "filter") key.UpdateFilter (text_where is_filter) (codes "1")) (λ filter.
    then_do (hold_of (get_member (codes "hold") ms)) (λ hold.
    then_do (defaulted ms (codes "tries") key.UpdateTries (number_between 1 1000) 16) (λ tries.
    then_do (defaulted ms (codes "dangling") key.UpdateDangling dangling_of dangling.Refuse) (λ dangling.
    then_do (defaulted ms (codes "gated") key.UpdateGated as_bool false) (λ gated.
    then_do (optional ms (codes "after") key.UpdateAfter (text_where is_name)) (λ after.
    Ok (record { filter = filter; hold = hold; tries = tries; dangling = dangling; gated = gated; after = after })))))))

abbrev pub update_words : List (List ℕ)
update_words =
    codes "name" ∷ codes "server" ∷ codes "from" ∷ codes "to" ∷ codes "source" ∷ codes "pointers" ∷ codes "filter" ∷ codes "hold"
    ∷ codes "tries" ∷ codes "dangling" ∷ codes "gated" ∷ codes "after" ∷ codes "rename" ∷ codes "handler" ∷ []

-- the update that a table stands for behind the earlier ones, or its first refusal
unfoldable pub update_of : List Server → List Update → Members → Result Update PlanError
update_of servers earlier ms =
    then_do (step_of servers earlier ms) (λ step.
    then_do (settings_of ms) (λ settings.
    then_do (renames_of (get_member (codes "rename") ms)) (λ renames.
    then_do (handlers_of (get_member (codes "handler") ms)) (λ handlers.
    if_passed (has_only update_words ms) key.UpdateUnknown (
    Ok (record {
      name = step.name;
      server = step.server;
      from = step.from;
      to = step.to;
      source = step.source;
      pointers = step.pointers;
      filter = settings.filter;
      hold = settings.hold;
      tries = settings.tries;
      dangling = settings.dangling;
      gated = settings.gated;
      after = settings.after;
      rename = renames;
      handler = handlers;
    }))))))

-- the update that an item of the list stands for
abbrev pub update_at : List Server → List Update → Data → Result Update PlanError
update_at servers earlier d = then_do (or_field key.Update (as_table d)) (update_of servers earlier)

-- the renames are in the order of tables and old names
abbrev pub has_renames_in_order : Update → Bool
has_renames_in_order u = are_in_order u.rename
