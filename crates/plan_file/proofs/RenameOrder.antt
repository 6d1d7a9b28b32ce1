-- Renames of tables in turn keep the order of tables and, within one, that of the keys.
use Rattle.std.proofs.Common.{◌≡◌, ℕ, ◌+◌, ◌<◌, Bool, true, false, nat_eq, nat_lt, if◌then◌else◌, IsTrue, List, [], ◌∷◌, ◌++◌, Option, Some, None, Ok, String, Global, refl, sym, ap, ◌∙◌, append_assoc, arith}
use Rattle.std.specs.List.{list_all, AllByRecursion}
use Rattle.std.specs.List.Sorted.{IsStrictlySortedBy}
use Rattle.std.specs.Map.{keys_of}
use Rattle.std.specs.String.{string_cmp, string_bytes}
use Rattle.std.specs.Ordering.{nat_cmp, is_lt}
use Rattle.std.specs.declared.cmp.Ordering.{Ordering}
use Rattle.std.specs.declared.cmp.Ordering.TheVariants.{Less}
use Rattle.std.specs.Cmp.{first_so, second_so}
use Rattle.std.specs.Cmp.Derive.{both_true}
use Rattle.std.specs.Cmp.Lexicographic.{slice_cmp}
use Rattle.std.proofs.lemmas.Bool.Decides.{nat_tests}
use Rattle.std.proofs.lemmas.List.Folds.{list_all-append}
use Rattle.lu_spec.specs.Then.{then_option}
use Rattle.lu_spec.proofs.ThenLemmas.{then_some, then_ok}
use Rattle.toml.specs.Data.{Data, Members, no_members, member, as_str}
use Rattle.toml.specs.View.{members_view}
use Rattle.toml.specs.declared.value.Value.{Value}
use Rattle.plan_file.specs.declared.key.Key.{Key}
use Rattle.plan_file.specs.declared.plan.Rename.{Rename}
use Rattle.plan_file.specs.declared.rename.RenameTable.{RenameTable}
use Rattle.plan_file.specs.declared.rename.RenameTable.TheVariants as rename
use Rattle.plan_file.specs.Forms.{passing}
use Rattle.plan_file.specs.Lookup.{or_field}
use Rattle.plan_file.specs.Renames.{rename_word, rename_key, rename_of, is_old, is_new, entries_onto, table_number, table_place, comes_before, are_in_order, are_in_order_below}

-- a rename of a table, which has a key of it
pub record IsOf (kind : RenameTable) (key : List ℕ) (r : Rename) : Type 0 where
  pub table : r.table ≡ rename_word kind
  pub old : r.old ≡ key
  pub old_form : is_old kind r.old ≡ true
  pub new_form : is_new kind r.new ≡ true

-- the renames of some keys, one by one
pub data AreOf (kind : RenameTable) : Members → List Rename → Type 0 where
  of_none : AreOf kind no_members []
  of_more : (key : List ℕ) (d : Data) (ms : Members) (r : Rename) (rs : List Rename) → IsOf kind key r → AreOf kind ms rs → AreOf kind (member key d ms) (r ∷ rs)

passing_step : (t : Bool) (text out : List ℕ) → (if t then Some text else None) ≡ Some out → (t ≡ true) × (out ≡ text)
passing_step true text out e = (refl, cc)
passing_step false text out e = absurd (cc)

pub passing-some : (test : List ℕ → Bool) (text out : List ℕ) → passing test text ≡ Some out → (test text ≡ true) × (out ≡ text)
passing-some test text out e = passing_step (test text) text out e

is-of : (kind : RenameTable) (key : List ℕ) (d : Data) (r : Rename) → rename_of kind key d ≡ Some r → IsOf kind key r
is-of kind key d r e =
    let a = then_some (passing (is_old kind) key) (λ old.
    then_option (then_option (as_str d) (passing (is_new kind))) (λ new.
    Some (record { table = rename_word kind; old = old; new = new }))) r e in
    let b = then_some (then_option (as_str d) (passing (is_new kind))) (λ new.
    Some (record { table = rename_word kind; old = a.0; new = new })) r a.2 in
    let c = then_some (as_str d) (passing (is_new kind)) b.0 b.1 in
    let old = passing-some (is_old kind) key a.0 a.1 in
    let new = passing-some (is_new kind) c.0 b.0 c.2 in
    let same : record { table = rename_word kind; old = a.0; new = b.0 } ≡ r = cc in
    record {
      table = ap (λ (s : Rename). s.table) (sym same);
      old = ap (λ (s : Rename). s.old) (sym same) ∙ old.1;
      old_form = ap (λ (s : Rename). is_old kind s.old) (sym same) ∙ ap (is_old kind) old.1 ∙ old.0;
      new_form = ap (λ (s : Rename). is_new kind s.new) (sym same) ∙ ap (is_new kind) new.1 ∙ new.0;
    }

pub or_field-ok : {A : Type 0} (name : Key) (o : Option A) (a : A) → or_field name o ≡ Ok a → o ≡ Some a
or_field-ok name None a e = absurd (cc)
or_field-ok name (Some b) a e = ap Some (let same : b ≡ a = cc in same)

append-none : (xs : List Rename) → xs ≡ xs ++ []
append-none [] = refl
append-none (x ∷ xs) = ap (λ l. x ∷ l) (append-none xs)

pub entries-are : (kind : RenameTable) (done : List Rename) (ms : Members) (new : List Rename) → entries_onto kind done ms ≡ Ok new
    → (more : List Rename) × (new ≡ done ++ more) × AreOf kind ms more
entries-are kind done no_members new e = ([], (let same : done ≡ new = cc in sym same ∙ append-none done), of_none)
entries-are kind done (member key d ms) new e =
    let a = then_ok (or_field (rename_key kind) (rename_of kind key d)) (λ r. entries_onto kind (done ++ r ∷ []) ms) new e in
    let rest = entries-are kind (done ++ a.0 ∷ []) ms new a.2 in
    (a.0 ∷ rest.0, rest.1 ∙ simp append_assoc, of_more key d ms a.0 rest.0 (is-of kind key d a.0 (or_field-ok (rename_key kind) (rename_of kind key d) a.0 a.1)) rest.2)

-- a key is less than all those of some members, and the keys of members rise
abbrev pub Precedes : List ℕ → Members → Type 0
Precedes key no_members = Unit {0}
Precedes key (member other d ms) = (slice_cmp nat_cmp key other ≡ Less) × Precedes key ms

abbrev pub Rises : Members → Type 0
Rises no_members = Unit {0}
Rises (member key d ms) = Precedes key ms × Rises ms

place-number : (kind : RenameTable) → table_place (rename_word kind) ≡ table_number kind
place-number rename.Global = refl
place-number rename.Struct = refl
place-number rename.Field = refl
place-number rename.Union = refl
place-number rename.Member = refl
place-number rename.Function = refl
place-number rename.Site = refl

same_table : (p q : ℕ) (x : Ordering) → p ≡ q → x ≡ Less → (if nat_eq p q then is_lt x else nat_lt p q) ≡ true
same_table p q x e less = let t : nat_eq p q ≡ true = grind (arith, nat_tests) in ap (λ b. if b then is_lt x else nat_lt p q) t ∙ ap is_lt less

earlier_table : (p q : ℕ) (b : Bool) → p < q → (if nat_eq p q then b else nat_lt p q) ≡ true
earlier_table p q b less =
    let f : nat_eq p q ≡ false = grind (arith, nat_tests) in
    let t : nat_lt p q ≡ true = grind (arith, nat_tests) in
    ap (λ c. if c then b else nat_lt p q) f ∙ t

before-all : (kind : RenameTable) (r : Rename) (key : List ℕ) → IsOf kind key r → (ms : Members) (rs : List Rename) → AreOf kind ms rs → Precedes key ms → list_all (comes_before r) rs ≡ true
before-all kind r key is _ _ of_none first = refl
before-all kind r key is _ _ (of_more other d ms s rs of rest) first =
    both_true
    (same_table (table_place r.table) (table_place s.table) (slice_cmp nat_cmp r.old s.old) (ap table_place (is.table ∙ sym of.table))
    (ap (λ k. slice_cmp nat_cmp k s.old) is.old ∙ ap (slice_cmp nat_cmp key) of.old ∙ first.0))
    (before-all kind r key is ms rs rest first.1)

are-in-order : (kind : RenameTable) (ms : Members) (rs : List Rename) → AreOf kind ms rs → Rises ms → are_in_order rs ≡ true
are-in-order kind _ _ of_none rises = refl
are-in-order kind _ _ (of_more key d ms r rs of rest) rises = both_true (before-all kind r key of ms rs rest rises.0) (are-in-order kind ms rs rest rises.1)

-- all are of one table
are-at : (kind : RenameTable) (ms : Members) (rs : List Rename) → AreOf kind ms rs → AllByRecursion (λ r. table_place r.table ≡ table_number kind) rs
are-at kind _ _ of_none = tt
are-at kind _ _ (of_more key d ms r rs of rest) = (ap table_place of.table ∙ place-number kind, are-at kind ms rs rest)

all-below : (n : ℕ) (rs : List Rename) → AllByRecursion (λ r. table_place r.table ≡ n) rs → list_all (λ r. nat_lt (table_place r.table) (n + 1)) rs ≡ true
all-below n [] at = refl
all-below n (r ∷ rs) at = both_true (let e : table_place r.table ≡ n = at.0 in grind (arith, nat_tests)) (all-below n rs at.1)

more-below : (n : ℕ) (rs : List Rename) → list_all (λ r. nat_lt (table_place r.table) n) rs ≡ true → list_all (λ r. nat_lt (table_place r.table) (n + 1)) rs ≡ true
more-below n [] below = refl
more-below n (r ∷ rs) below =
    let here : nat_lt (table_place r.table) n ≡ true = first_so (nat_lt (table_place r.table) n) _ below in
    both_true (grind (arith, nat_tests)) (more-below n rs (second_so (nat_lt (table_place r.table) n) _ below))

before-later : (n : ℕ) (r : Rename) (rs : List Rename) → table_place r.table < n → AllByRecursion (λ s. table_place s.table ≡ n) rs → list_all (comes_before r) rs ≡ true
before-later n r [] less at = refl
before-later n r (s ∷ rs) less at =
    both_true (earlier_table (table_place r.table) (table_place s.table) (is_lt (slice_cmp nat_cmp r.old s.old)) (let e : table_place s.table ≡ n = at.0 in omega arith))
    (before-later n r rs less at.1)

in-order-append : (n : ℕ) (xs ys : List Rename) → are_in_order xs ≡ true → list_all (λ r. nat_lt (table_place r.table) n) xs ≡ true
    → are_in_order ys ≡ true → AllByRecursion (λ r. table_place r.table ≡ n) ys → are_in_order (xs ++ ys) ≡ true
in-order-append n [] ys ordered below later at = later
in-order-append n (x ∷ xs) ys ordered below later at =
    let here : nat_lt (table_place x.table) n ≡ true = first_so (nat_lt (table_place x.table) n) _ below in
    both_true
    (list_all-append (comes_before x) xs ys
    ∙ both_true (first_so (list_all (comes_before x) xs) (are_in_order xs) ordered) (before-later n x ys (grind (arith, nat_tests)) at))
    (in-order-append n xs ys (second_so (list_all (comes_before x) xs) (are_in_order xs) ordered) (second_so (nat_lt (table_place x.table) n) _ below) later at)

below_step : (n : ℕ) (done more new : List Rename) → new ≡ done ++ more → IsTrue (are_in_order_below n done) → are_in_order more ≡ true
    → AllByRecursion (λ r. table_place r.table ≡ n) more → IsTrue (are_in_order_below (n + 1) new)
below_step n done more new is ordered later at =
    let sorted = first_so (are_in_order done) (list_all (λ r. nat_lt (table_place r.table) n) done) ordered in
    let below = second_so (are_in_order done) (list_all (λ r. nat_lt (table_place r.table) n) done) ordered in
    ap (are_in_order_below (n + 1)) is
    ∙ both_true (in-order-append n done more sorted below later at)
    (list_all-append (λ r. nat_lt (table_place r.table) (n + 1)) done more ∙ both_true (more-below n done below) (all-below n more at))

-- the renames of one more table keep the order
pub entries-in-order : (kind : RenameTable) (done new : List Rename) (ms : Members) → entries_onto kind done ms ≡ Ok new → Rises ms
    → IsTrue (are_in_order_below (table_number kind) done) → IsTrue (are_in_order_below (table_number kind + 1) new)
entries-in-order kind done new ms e rises ordered =
    let more = entries-are kind done ms new e in
    below_step (table_number kind) done more.0 new more.1 ordered (are-in-order kind ms more.0 more.2 rises) (are-at kind ms more.0 more.2)

pub none-in-order : (kind : RenameTable) (done : List Rename) → IsTrue (are_in_order_below (table_number kind) done) → IsTrue (are_in_order_below (table_number kind + 1) done)
none-in-order kind done ordered = below_step (table_number kind) done [] done (append-none done) ordered refl tt

pub are-in-order-of : (n : ℕ) (renames : List Rename) → IsTrue (are_in_order_below n renames) → IsTrue (are_in_order renames)
are-in-order-of n renames h = first_so (are_in_order renames) (list_all (λ r. nat_lt (table_place r.table) n) renames) h

-- the keys of an ordered map rise
precedes-view : (k : String Global) (es : List (String Global × Value)) → AllByRecursion (λ j. string_cmp k j ≡ Less) (keys_of es) → Precedes (string_bytes k) (members_view es)
precedes-view k [] all = tt
precedes-view k (e ∷ es) all = (all.0, precedes-view k es all.1)

pub rises-view : (es : List (String Global × Value)) → IsStrictlySortedBy string_cmp (keys_of es) → Rises (members_view es)
unfolding IsStrictlySortedBy
rises-view [] sorted = tt
rises-view (e ∷ es) sorted = (precedes-view e.0 es sorted.0, rises-view es sorted.1)
