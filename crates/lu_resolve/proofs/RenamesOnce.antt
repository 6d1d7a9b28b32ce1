-- In the renames of a plan no table has one old name twice.
use Rattle.std.proofs.Common.{◌≡◌, ◌∙◌, refl, sym, ap, Bool, true, false, ◌&&◌, nat_eq, nat_lt, if◌then◌else◌, List, [], ◌∷◌}
use Rattle.std.specs.Prelude.{map, IsTrue}
use Rattle.std.specs.List.{list_all, list_any}
use Rattle.std.specs.Str.{bytes_eq}
use Rattle.std.specs.Ordering.{nat_cmp, is_lt, is_eq}
use Rattle.std.specs.declared.cmp.Ordering.{Ordering}
use Rattle.std.specs.declared.cmp.Ordering.TheVariants.{Less, Equal, Greater}
use Rattle.std.specs.Cmp.Lexicographic.{slice_cmp}
use Rattle.std.proofs.lemmas.Map.Text.{is_eq-slice_cmp}
use Rattle.std.proofs.lemmas.Slice.Eq.{bytes_eq-Decides}
use Rattle.c_types.proofs.Lists.{and_left, and_right}
use Rattle.plan_file.specs.declared.plan.Rename.{Rename}
use Rattle.plan_file.specs.declared.rename.RenameTable.{RenameTable}
use Rattle.plan_file.specs.declared.rename.RenameTable.TheVariants as rename
use Rattle.plan_file.specs.Kept.{keeps_rename}
use Rattle.plan_file.specs.Renames.{all_tables, rename_word, is_old, is_new, table_place, comes_before, are_in_order}
use Rattle.lu_image.specs.Renaming.{table_number, has_name_of, has_name_twice}
use Rattle.lu_resolve.specs.Renames.{table_of, rename_of}
use Rattle.lu_resolve.proofs.Tests.{neither, any-some}

word-number : (t : RenameTable) → table_number (table_of (rename_word t)) ≡ table_place (rename_word t)
word-number rename.Global = refl
word-number rename.Struct = refl
word-number rename.Field = refl
word-number rename.Union = refl
word-number rename.Member = refl
word-number rename.Function = refl
word-number rename.Site = refl

-- the number of a rename's table is the place of its word
kept-number : (r : Rename) → keeps_rename r ≡ true → table_number (table_of r.table) ≡ table_place r.table
kept-number r kept =
    let some = any-some (λ t. bytes_eq r.table (rename_word t) && is_old t r.old && is_new t r.new) all_tables kept in
    let word : bytes_eq r.table (rename_word some.0) ≡ true = and_left (bytes_eq r.table (rename_word some.0)) _ (and_left (bytes_eq r.table (rename_word some.0) && is_old some.0 r.old) _ some.1) in
    let is : r.table ≡ rename_word some.0 = (bytes_eq-Decides r.table (rename_word some.0)).0 word in
    ap (λ w. table_number (table_of w)) is ∙ word-number some.0 ∙ ap table_place (sym is)

not_equal : (x : Ordering) → is_lt x ≡ true → is_eq x ≡ false
not_equal Less less = refl
not_equal Equal less = absurd (cc)
not_equal Greater less = refl

apart : (t : Bool) (x : Ordering) (below same : Bool) → (if t then is_lt x else below) ≡ true → is_eq x ≡ same → (t && same) ≡ false
apart true x below same before is = sym is ∙ not_equal x before
apart false x below same before is = refl

other-name : (a b : Rename) → keeps_rename a ≡ true → keeps_rename b ≡ true → comes_before a b ≡ true → has_name_of (rename_of a) (rename_of b) ≡ false
other-name a b keeps_a keeps_b before =
    ap (λ n. nat_eq n (table_number (table_of b.table)) && bytes_eq a.old b.old) (kept-number a keeps_a)
    ∙ (ap (λ n. nat_eq (table_place a.table) n && bytes_eq a.old b.old) (kept-number b keeps_b)
    ∙ apart (nat_eq (table_place a.table) (table_place b.table)) (slice_cmp nat_cmp a.old b.old) (nat_lt (table_place a.table) (table_place b.table))
    (bytes_eq a.old b.old) before (is_eq-slice_cmp a.old b.old))

none-other : (a : Rename) (rs : List Rename) → keeps_rename a ≡ true → list_all keeps_rename rs ≡ true → list_all (comes_before a) rs ≡ true
    → list_any (has_name_of (rename_of a)) (map rename_of rs) ≡ false
none-other a [] keeps_a keeps before = refl
none-other a (r ∷ rs) keeps_a keeps before =
    neither (has_name_of (rename_of a) (rename_of r)) _
    (other-name a r keeps_a (and_left (keeps_rename r) _ keeps) (and_left (comes_before a r) _ before))
    (none-other a rs keeps_a (and_right (keeps_rename r) _ keeps) (and_right (comes_before a r) _ before))

pub once : (rs : List Rename) → IsTrue (list_all keeps_rename rs) → IsTrue (are_in_order rs) → has_name_twice (map rename_of rs) ≡ false
once [] keeps ordered = refl
once (r ∷ rs) keeps ordered =
    neither (list_any (has_name_of (rename_of r)) (map rename_of rs)) _
    (none-other r rs (and_left (keeps_rename r) _ keeps) (and_right (keeps_rename r) _ keeps) (and_left (list_all (comes_before r) rs) _ ordered))
    (once rs (and_right (keeps_rename r) _ keeps) (and_right (list_all (comes_before r) rs) _ ordered))
