-- Renames that are put in their order are in order.
use Rattle.std.proofs.Common.{◌≡◌, ℕ, zero, suc, ◌<◌, ◌≤◌, Bool, true, false, true≢false, ◌&&◌, ◌||◌, nat_eq, nat_lt, if◌then◌else◌, IsTrue, List, [], ◌∷◌, ◌++◌, length, take, drop, refl, sym, ap, ◌∙◌, arith}
use Rattle.std.specs.Prelude.{insert}
use Rattle.std.specs.List.{list_any}
use Rattle.std.specs.Ordering.{nat_cmp, is_lt, is_eq, ordering_reverse}
use Rattle.std.specs.declared.cmp.Ordering.{Ordering}
use Rattle.std.specs.declared.cmp.Ordering.TheVariants.{Less, Equal, Greater}
use Rattle.std.specs.Str.{bytes_eq}
use Rattle.std.specs.Cmp.Derive.{both_true}
use Rattle.std.specs.Cmp.Lexicographic.{slice_cmp}
use Rattle.std.proofs.lemmas.Cmp.{nat_list_cmp_total}
use Rattle.std.proofs.lemmas.Bool.Decides.{nat_tests}
use Rattle.std.proofs.lemmas.Map.Text.{is_eq-slice_cmp}
use Rattle.lu_image.specs.declared.rename.Rename.{Rename}
use Rattle.lu_image.specs.Renaming.{table_number, comes_before, follow_in_order, are_in_order, has_name_of, has_name_twice, place_among, with_rename, in_order_among, in_order}

-- what stands at the place of a rename
place_step : (t : Bool) (r s : Rename) (ss : List Rename) → insert ss (place_among r ss) r ≡ with_rename r ss
    → insert (s ∷ ss) (if t then zero else suc (place_among r ss)) r ≡ (if t then r ∷ s ∷ ss else s ∷ with_rename r ss)
place_step true r s ss ih = refl
place_step false r s ss ih = ap (λ l. s ∷ l) ih

pub insert-place : (r : Rename) (renames : List Rename) → insert renames (place_among r renames) r ≡ with_rename r renames
insert-place r [] = refl
insert-place r (s ∷ ss) = place_step (comes_before r s) r s ss (insert-place r ss)

pub ruleset places = insert-place

-- of two renames with different names one comes before the other
greater : (x : Ordering) → is_lt x ≡ false → is_eq x ≡ false → ordering_reverse x ≡ Less
greater Less lt eq = absurd (true≢false lt)
greater Equal lt eq = absurd (true≢false eq)
greater Greater lt eq = refl

after_step : (t : Bool) (n m : ℕ) (x y : Ordering) (same : Bool) → nat_eq n m ≡ t → (if t then is_lt x else nat_lt n m) ≡ false → (t && same) ≡ false
    → is_eq x ≡ same → y ≡ ordering_reverse x → (if nat_eq m n then is_lt y else nat_lt m n) ≡ true
after_step true n m x y same e lt other is reversed =
    let equal : nat_eq m n ≡ true = grind (arith, nat_tests) in
    ap (λ c. if c then is_lt y else nat_lt m n) equal ∙ ap is_lt (reversed ∙ greater x lt (is ∙ other))
after_step false n m x y same e lt other is reversed =
    let apart : nat_eq m n ≡ false = grind (arith, nat_tests) in
    let below : nat_lt m n ≡ true = grind (arith, nat_tests) in
    ap (λ c. if c then is_lt y else nat_lt m n) apart ∙ below

comes-after : (r s : Rename) → comes_before r s ≡ false → has_name_of r s ≡ false → comes_before s r ≡ true
comes-after r s before other =
    after_step (nat_eq (table_number r.table) (table_number s.table)) (table_number r.table) (table_number s.table) (slice_cmp nat_cmp r.old s.old) (slice_cmp nat_cmp s.old r.old)
    (bytes_eq r.old s.old) refl before other (is_eq-slice_cmp r.old s.old) (nat_list_cmp_total.antisymm s.old r.old)

or_left : (a b : Bool) → (a || b) ≡ false → a ≡ false
or_left true b e = absurd (true≢false e)
or_left false b e = refl

or_right : (a b : Bool) → (a || b) ≡ false → b ≡ false
or_right true b e = absurd (true≢false e)
or_right false b e = e

or_both : (a b : Bool) → a ≡ false → b ≡ false → (a || b) ≡ false
or_both true b e f = absurd (true≢false e)
or_both false b e f = f

and_left : (a b : Bool) → (a && b) ≡ true → a ≡ true
and_left true b e = refl
and_left false b e = absurd (true≢false (sym e))

and_right : (a b : Bool) → (a && b) ≡ true → b ≡ true
and_right true b e = e
and_right false b e = absurd (true≢false (sym e))

follow_step : (t : Bool) (p r s : Rename) (ss : List Rename) → comes_before r s ≡ t → comes_before p r ≡ true → comes_before p s ≡ true → follow_in_order s ss ≡ true
    → has_name_of r s ≡ false → (comes_before s r ≡ true → follow_in_order s (with_rename r ss) ≡ true)
    → follow_in_order p (if t then r ∷ s ∷ ss else s ∷ with_rename r ss) ≡ true
follow_step true p r s ss before first second rest other later = both_true first (both_true before rest)
follow_step false p r s ss before first second rest other later = both_true second (later (comes-after r s before other))

follow-with : (p r : Rename) (ss : List Rename) → comes_before p r ≡ true → follow_in_order p ss ≡ true → list_any (has_name_of r) ss ≡ false
    → follow_in_order p (with_rename r ss) ≡ true
follow-with p r [] first rest other = both_true first refl
follow-with p r (s ∷ ss) first rest other =
    follow_step (comes_before r s) p r s ss refl first (and_left (comes_before p s) (follow_in_order s ss) rest) (and_right (comes_before p s) (follow_in_order s ss) rest)
    (or_left (has_name_of r s) (list_any (has_name_of r) ss) other)
    (λ before. follow-with s r ss before (and_right (comes_before p s) (follow_in_order s ss) rest) (or_right (has_name_of r s) (list_any (has_name_of r) ss) other))

with_step : (t : Bool) (r s : Rename) (ss : List Rename) → comes_before r s ≡ t → follow_in_order s ss ≡ true → has_name_of r s ≡ false
    → (comes_before s r ≡ true → follow_in_order s (with_rename r ss) ≡ true) → are_in_order (if t then r ∷ s ∷ ss else s ∷ with_rename r ss) ≡ true
with_step true r s ss before rest other later = both_true before rest
with_step false r s ss before rest other later = later (comes-after r s before other)

with-in-order : (r : Rename) (ss : List Rename) → are_in_order ss ≡ true → list_any (has_name_of r) ss ≡ false → are_in_order (with_rename r ss) ≡ true
with-in-order r [] ordered other = refl
with-in-order r (s ∷ ss) ordered other =
    with_step (comes_before r s) r s ss refl ordered (or_left (has_name_of r s) (list_any (has_name_of r) ss) other)
    (λ before. follow-with s r ss before ordered (or_right (has_name_of r s) (list_any (has_name_of r) ss) other))

none_step : (t : Bool) (p : Rename → Bool) (r s : Rename) (ss : List Rename) → p r ≡ false → p s ≡ false → list_any p ss ≡ false → list_any p (with_rename r ss) ≡ false
    → list_any p (if t then r ∷ s ∷ ss else s ∷ with_rename r ss) ≡ false
none_step true p r s ss first second rest more = or_both (p r) (p s || list_any p ss) first (or_both (p s) (list_any p ss) second rest)
none_step false p r s ss first second rest more = or_both (p s) (list_any p (with_rename r ss)) second more

none-with : (p : Rename → Bool) (r : Rename) (ss : List Rename) → p r ≡ false → list_any p ss ≡ false → list_any p (with_rename r ss) ≡ false
none-with p r [] first rest = or_both (p r) false first refl
none-with p r (s ∷ ss) first rest =
    none_step (comes_before r s) p r s ss first (or_left (p s) (list_any p ss) rest) (or_right (p s) (list_any p ss) rest)
    (none-with p r ss first (or_right (p s) (list_any p ss) rest))

none-in-order : (p : Rename → Bool) (rs : List Rename) → list_any p rs ≡ false → list_any p (in_order rs) ≡ false
none-in-order p [] none = refl
none-in-order p (r ∷ rs) none = none-with p r (in_order rs) (or_left (p r) (list_any p rs) none) (none-in-order p rs (or_right (p r) (list_any p rs) none))

pub in_order-ordered : (rs : List Rename) → has_name_twice rs ≡ false → IsTrue (are_in_order (in_order rs))
in_order-ordered [] once = refl
in_order-ordered (r ∷ rs) once =
    with-in-order r (in_order rs) (in_order-ordered rs (or_right (list_any (has_name_of r) rs) (has_name_twice rs) once))
    (none-in-order (has_name_of r) rs (or_left (list_any (has_name_of r) rs) (has_name_twice rs) once))

-- the last rename goes first
pub in_order_among-last : (front : List Rename) (r : Rename) (done : List Rename) → in_order_among (front ++ r ∷ []) done ≡ in_order_among front (with_rename r done)
in_order_among-last [] r done = refl
in_order_among-last (s ∷ ss) r done = ap (with_rename s) (in_order_among-last ss r done)

pub ruleset orders = (in_order-ordered, in_order_among-last)
