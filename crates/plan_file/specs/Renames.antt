-- The rename tables of an update.
use Rattle.std.specs.Prelude.{ℕ, ◌+◌, List, [], ◌∷◌, ◌++◌, Bool, true, ◌&&◌, nat_eq, nat_lt, if◌then◌else◌, Option, Some, None, Result, Ok, codes}
use Rattle.std.specs.List.{list_all}
use Rattle.std.specs.Ordering.{nat_cmp, is_lt}
use Rattle.std.specs.Cmp.Lexicographic.{slice_cmp}
use Rattle.std.specs.Str.{bytes_eq}
use Rattle.lu_spec.specs.Then.{then_option, then_do}
use Rattle.toml.specs.Data.{Data, Members, no_members, member, get_member, as_str, as_table}
use Rattle.plan_file.specs.declared.key.Key.{Key}
use Rattle.plan_file.specs.declared.key.Key.TheVariants as key
use Rattle.plan_file.specs.declared.error.PlanError.{PlanError}
use Rattle.plan_file.specs.declared.plan.Rename.{Rename}
use Rattle.plan_file.specs.declared.rename.RenameTable.{RenameTable}
use Rattle.plan_file.specs.declared.rename.RenameTable.TheVariants as rename
use Rattle.plan_file.specs.Forms.{is_name, is_dotted, is_site, passing}
use Rattle.plan_file.specs.Lookup.{or_field, if_passed, has_only}

abbrev pub rename_word : RenameTable → List ℕ
rename_word rename.Global = codes "global"
rename_word rename.Struct = codes "struct"
rename_word rename.Field = codes "field"
rename_word rename.Union = codes "union"
rename_word rename.Member = codes "member"
rename_word rename.Function = codes "function"
rename_word rename.Site = codes "site"

abbrev pub rename_key : RenameTable → Key
rename_key rename.Global = key.RenameGlobal
rename_key rename.Struct = key.RenameStruct
rename_key rename.Field = key.RenameField
rename_key rename.Union = key.RenameUnion
rename_key rename.Member = key.RenameMember
rename_key rename.Function = key.RenameFunction
rename_key rename.Site = key.RenameSite

-- the form of the old names of a table: its keys
abbrev pub is_old : RenameTable → List ℕ → Bool
is_old rename.Field text = is_dotted text
is_old rename.Member text = is_dotted text
is_old rename.Site text = is_site text
is_old table text = is_name text

-- the form of the new names of a table: its values
abbrev pub is_new : RenameTable → List ℕ → Bool
is_new rename.Site text = is_site text
is_new table text = is_name text

-- the rename that a key and its value stand for
abbrev pub rename_of : RenameTable → List ℕ → Data → Option Rename
rename_of table old d =
    then_option (passing (is_old table) old) (λ old.
    then_option (then_option (as_str d) (passing (is_new table))) (λ new.
    Some (record { table = rename_word table; old = old; new = new })))

-- the renames so far, and those of a table's keys
abbrev pub entries_onto : RenameTable → List Rename → Members → Result (List Rename) PlanError
entries_onto table done no_members = Ok done
entries_onto table done (member k d ms) = then_do (or_field (rename_key table) (rename_of table k d)) (λ r. entries_onto table (done ++ r ∷ []) ms)

-- the renames so far, and those of one table, where it is there
abbrev pub table_onto : RenameTable → List Rename → Option Data → Result (List Rename) PlanError
table_onto table done None = Ok done
table_onto table done (Some d) = then_do (or_field (rename_key table) (as_table d)) (entries_onto table done)

-- the renames so far, and those of some tables in turn
abbrev pub tables_onto : Members → List Rename → List RenameTable → Result (List Rename) PlanError
tables_onto ms done [] = Ok done
tables_onto ms done (table ∷ tables) = then_do (table_onto table done (get_member (rename_word table) ms)) (λ more. tables_onto ms more tables)

abbrev pub all_tables : List RenameTable
all_tables = rename.Global ∷ rename.Struct ∷ rename.Field ∷ rename.Union ∷ rename.Member ∷ rename.Function ∷ rename.Site ∷ []

abbrev pub rename_words : List (List ℕ)
rename_words =
    codes "global" ∷ codes "struct" ∷ codes "field" ∷ codes "union" ∷ codes "member" ∷ codes "function" ∷ codes "site" ∷ []

abbrev pub renames_in : Members → Result (List Rename) PlanError
renames_in ms = then_do (tables_onto ms [] all_tables) (λ renames. if_passed (has_only rename_words ms) key.RenameUnknown (Ok renames))

-- the renames of an update: none where it has no rename tables
abbrev pub renames_of : Option Data → Result (List Rename) PlanError
renames_of None = Ok []
renames_of (Some d) = then_do (or_field key.UpdateRename (as_table d)) renames_in

-- the tables by the order in which they are tried
abbrev pub table_number : RenameTable → ℕ
table_number rename.Global = 0
table_number rename.Struct = 1
table_number rename.Field = 2
table_number rename.Union = 3
table_number rename.Member = 4
table_number rename.Function = 5
table_number rename.Site = 6

-- where a text stands among some words
abbrev pub place_among : List (List ℕ) → List ℕ → ℕ
place_among [] text = 0
place_among (word ∷ words) text = if bytes_eq text word then 0 else place_among words text + 1

-- the number of the table of a word
abbrev pub table_place : List ℕ → ℕ
table_place word = place_among rename_words word

-- a rename is of an earlier table, or of this one and its old name is less by its bytes
abbrev pub comes_before_name : Rename → ℕ → List ℕ → Bool
comes_before_name r table old =
    if nat_eq (table_place r.table) table then is_lt (slice_cmp nat_cmp r.old old) else nat_lt (table_place r.table) table

abbrev pub comes_before : Rename → Rename → Bool
comes_before a b = comes_before_name a (table_place b.table) b.old

-- each comes before all behind it, so no table has one old name twice
abbrev pub are_in_order : List Rename → Bool
are_in_order [] = true
are_in_order (r ∷ rs) = list_all (comes_before r) rs && are_in_order rs

-- they are in order, and each is of one of the first so many tables
abbrev pub are_in_order_below : ℕ → List Rename → Bool
are_in_order_below tables renames = are_in_order renames && list_all (λ r. nat_lt (table_place r.table) tables) renames
