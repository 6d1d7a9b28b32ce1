-- The value of a key in a table, or the refusal of that key.
use Rattle.std.specs.Prelude.{◌≡◌, ℕ, List, [], ◌∷◌, ◌++◌, Bool, true, ◌&&◌, nat_le, Option, Some, None, is_some, Result, Ok, Err, if◌then◌else◌}
use Rattle.std.specs.List.{list_any}
use Rattle.std.specs.Option.{unwrap_or}
use Rattle.std.specs.Str.{bytes_eq}
use Rattle.lu_spec.specs.Then.{then_do}
use Rattle.toml.specs.Data.{Data, Items, no_items, item, as_array, as_table, Members, no_members, member, get_member}
use Rattle.plan_file.specs.declared.key.Key.{Key}
use Rattle.plan_file.specs.declared.key.LimitedList.{LimitedList}
use Rattle.plan_file.specs.declared.error.PlanError.{PlanError}
use Rattle.plan_file.specs.declared.error.PlanError.TheVariants as error
use Rattle.plan_file.specs.Forms.{count_of}

-- the value, or the refusal of the key
abbrev pub or_field : {A : Type 0} → Key → Option A → Result A PlanError
or_field name None = Err (error.Field name)
or_field name (Some a) = Ok a

-- what follows, where the test holds, or else the refusal of the key
abbrev pub if_passed : {A : Type 0} → Bool → Key → Result A PlanError → Result A PlanError
if_passed test name next = if test then next else Err (error.Field name)

-- nothing where the key isn't there; its value has to be of the form
abbrev pub of_form : {A : Type 0} → Key → (Data → Option A) → Option Data → Result (Option A) PlanError
of_form name form None = Ok None
of_form name form (Some d) = then_do (or_field name (form d)) (λ a. Ok (Some a))

-- a key that may be left out
abbrev pub optional : {A : Type 0} → Members → List ℕ → Key → (Data → Option A) → Result (Option A) PlanError
optional ms word name form = of_form name form (get_member word ms)

-- a key that is needed
abbrev pub needed : {A : Type 0} → Members → List ℕ → Key → (Data → Option A) → Result A PlanError
needed ms word name form = then_do (optional ms word name form) (or_field name)

-- a key with a default
abbrev pub defaulted : {A : Type 0} → Members → List ℕ → Key → (Data → Option A) → A → Result A PlanError
defaulted ms word name form value = then_do (optional ms word name form) (λ o. Ok (unwrap_or o value))

abbrev pub are_tables : Items → Bool
are_tables no_items = true
are_tables (item d ds) = is_some (as_table d) && are_tables ds

-- so many items, each of which is a table
abbrev pub checked_items : Key → LimitedList → ℕ → ℕ → Items → Result Items PlanError
checked_items name limited low high ds =
    if_passed (are_tables ds) name
    (if nat_le low (count_of ds) && nat_le (count_of ds) high then Ok ds else Err (error.Limit limited))

-- a list of so many tables
abbrev pub table_list : Key → LimitedList → ℕ → ℕ → Data → Result Items PlanError
table_list name limited low high d = then_do (or_field name (as_array d)) (checked_items name limited low high)

-- what the items stand for one after another, behind what is there; each is read with those before it in sight
abbrev pub each_onto : {T : Type 0} → (List T → Data → Result T PlanError) → List T → Items → Result (List T) PlanError
each_onto read done no_items = Ok done
each_onto read done (item d ds) = then_do (read done d) (λ t. each_onto read (done ++ t ∷ []) ds)

-- each key of the table is one of those
abbrev pub has_only : List (List ℕ) → Members → Bool
has_only words no_members = true
has_only words (member k d ms) = list_any (λ word. bytes_eq k word) words && has_only words ms

-- why nothing was read: what the definition refuses, or there is no memory
abbrev pub IsRefusal : {A : Type 0} → Result A PlanError → PlanError → Type 0
IsRefusal given e = ¬ (e ≡ error.Memory) → given ≡ Err e

-- the answer is what the definition gives; want of memory says nothing
abbrev pub Reads : {A : Type 0} → Result A PlanError → Result A PlanError → Type 0
Reads given (Ok a) = given ≡ Ok a
Reads given (Err e) = IsRefusal given e
