-- Renames and their order.
use Rattle.std.specs.Prelude.{ℕ, zero, suc, Bool, true, false, ◌&&◌, ◌||◌, nat_eq, nat_lt, if◌then◌else◌, List, [], ◌∷◌}
use Rattle.std.specs.List.{list_any}
use Rattle.std.specs.Ordering.{nat_cmp, is_lt}
use Rattle.std.specs.Str.{bytes_eq}
use Rattle.std.specs.Cmp.Lexicographic.{slice_cmp}
use Rattle.lu_image.specs.declared.rename.Table.{Table}
use Rattle.lu_image.specs.declared.rename.Table.TheVariants as T
use Rattle.lu_image.specs.declared.rename.Rename.{Rename}

-- the order of the tables
abbrev pub table_number : Table → ℕ
table_number T.Global = 0
table_number T.Struct = 1
table_number T.Field = 2
table_number T.Union = 3
table_number T.Member = 4
table_number T.Function = 5
table_number T.Site = 6

abbrev pub is_in_table : Table → Rename → Bool
is_in_table table r = nat_eq (table_number r.table) (table_number table)

-- an earlier table, or the same one and an old name that is less by its bytes
abbrev pub comes_before : Rename → Rename → Bool
comes_before a b =
    if nat_eq (table_number a.table) (table_number b.table) then is_lt (slice_cmp nat_cmp a.old b.old) else nat_lt (table_number a.table) (table_number b.table)

abbrev pub follow_in_order : Rename → List Rename → Bool
follow_in_order r [] = true
follow_in_order r (s ∷ rs) = comes_before r s && follow_in_order s rs

-- each comes before the next one, so no table has one old name twice
abbrev pub are_in_order : List Rename → Bool
are_in_order [] = true
are_in_order (r ∷ rs) = follow_in_order r rs

-- two renames are of one table and have one old name
abbrev pub has_name_of : Rename → Rename → Bool
has_name_of a b = nat_eq (table_number a.table) (table_number b.table) && bytes_eq a.old b.old

-- some table has one old name twice
abbrev pub has_name_twice : List Rename → Bool
has_name_twice [] = false
has_name_twice (r ∷ rs) = list_any (has_name_of r) rs || has_name_twice rs

-- how many stand before the first that a rename comes before
abbrev pub place_among : Rename → List Rename → ℕ
place_among r [] = zero
place_among r (s ∷ ss) = if comes_before r s then zero else suc (place_among r ss)

-- with one more rename, before the first that it comes before
abbrev pub with_rename : Rename → List Rename → List Rename
with_rename r [] = r ∷ []
with_rename r (s ∷ ss) = if comes_before r s then r ∷ s ∷ ss else s ∷ with_rename r ss

-- renames put in their order among others
abbrev pub in_order_among : List Rename → List Rename → List Rename
in_order_among [] done = done
in_order_among (r ∷ rs) done = with_rename r (in_order_among rs done)

-- the renames in the order of their tables and of the old names' bytes
abbrev pub in_order : List Rename → List Rename
in_order renames = in_order_among renames []
