-- Pointers that are moved by elements, and their differences.
use Rattle.std.proofs.Common.{length, ◌≡◌, ◌∙◌, refl, sym, ap, subst, Bool, true, false, ◌&&◌, cond, ℕ, zero, suc, ◌+◌, ◌-◌, ◌*◌, ◌/◌, ◌^◌, ◌<◌, ◌≤◌, List, [], ◌∷◌, Option, Some, Ok, Err, arith, nat_eq, nat_le}
use Rattle.std.specs.Prelude.{slice_get, ℤ, pos, negsuc, ◌+ℤ◌, ◌-ℤ◌, ◌*ℤ◌, neg_ℤ, int_div, find}
use Rattle.std.specs.Option.{option_map_or}
use Rattle.std.proofs.Math.Nat.{div-le_self, mod-eq_of_lt}
use Rattle.std.proofs.lemmas.Int.{ints}
use Rattle.std.proofs.lemmas.Bool.Decides.{nat_tests}
use Rattle.lu_spec.specs.Then.{then_do}
use Rattle.lu_base.specs.declared.trap.Trap.TheVariants.{PtrRange, BadCode}
use Rattle.c_types.specs.Refusal.{IsBuilt}
use Rattle.c_types.specs.declared.parts.IntKind.TheVariants as K
use Rattle.c_types.specs.declared.parts.Ty.{Ty}
use Rattle.c_types.specs.declared.parts.Ty.TheVariants as T
use Rattle.c_types.specs.Layout.{size_of}
use Rattle.c_types.proofs.PlaceLaws.{size-low}
use Rattle.src_tree.specs.declared.value.Value.{Value, Int, Null, Pointer}
use Rattle.src_tree.specs.declared.value.Object.{Object}
use Rattle.src_tree.specs.declared.value.Store.{Store}
use Rattle.src_tree.specs.declared.program.Program.{Program}
use Rattle.src_tree.specs.declared.expr.BinaryOperator.TheVariants.{PointerAdd, AddPointer, PointerSubtract, PointerDifference}
use Rattle.src_meaning.specs.Integers.{wrapped}
use Rattle.lu_base.specs.declared.limits.TheConstants.{FIRST_ADDRESS}
use Rattle.src_meaning.specs.Objects.{or_trap, object_size, addresses}
use Rattle.src_meaning.specs.Pointers.{offset_within, moved, with_offsets, difference}
use Rattle.src_meaning.specs.Operators.{pointed_size, with_int, binary}
use Rattle.src_meaning.specs.Store.{IsStore, is_address}
use Rattle.src_meaning.specs.ValidTypes.{is_int, is_long_long, is_object_pointer, points_to, ty}
use Rattle.src_meaning.specs.ValidExpression.{move_fits, difference_fits}
use Rattle.src_meaning.proofs.LayoutLengths.{and_left, and_right}
use Rattle.bm_isa.specs.declared.instr.Instr.TheVariants as I
use Rattle.bm_objects.specs.declared.row.Row.{Row}
use Rattle.bm_objects.specs.Table.{reaches}
use Rattle.bm_alu.specs.Words as alu
use Rattle.bm_alu.specs.Words.{signed, of_signed, extended}
use Rattle.bm_code.specs.Frames.{some_or, bad}
use Rattle.bm_code.specs.Pointers.{stepped, shifted, of_one_object, distance}
use Rattle.cg_state.specs.Represents.{address_in, row_of, rows_of}
use Rattle.cg_expr.specs.Pieces.{element_size_in, binary_last}
use Rattle.cg_state.proofs.Words.{IsWord, wrapped_held, cut_is}
use Rattle.cg_state.proofs.Typed.{Typed, an_int, typed_int, APointer, null, to, a_pointer, typed_pointer, object_of, object_address}
use Rattle.cg_sim_expr.proofs.Straight.{one_word}
use Rattle.cg_sim_expr.proofs.Matching.{word, run, Matches, int_kind}
use Rattle.cg_state.proofs.Memory.{find_row, address_is}
use Rattle.cg_sim_expr.proofs.Limits.{address_below}
use Rattle.cg_sim_expr.proofs.Tables.{pointed_known}
use Rattle.cg_sim_expr.proofs.Fits.{IsSmall, signed_small, signed_back}
use Rattle.cg_sim_expr.proofs.Pointers.{offsets_fit}

-- an offset that is moved up or down
sum_up : (k n size : ℕ) → pos k +ℤ (pos n *ℤ pos size) ≡ pos (k + n * size)
sum_up k n size = refl

times_down : (n size : ℕ) → negsuc n *ℤ pos size ≡ neg_ℤ (pos (suc n * size))
times_down n size = refl

less_by : (k m : ℕ) → m ≤ k → pos k +ℤ neg_ℤ (pos m) ≡ pos (k - m)
less_by k m h = omega (arith, ints, h)

below_by : (k m : ℕ) → k < m → pos k +ℤ neg_ℤ (pos m) ≡ negsuc (m - k - 1)
below_by k m h = omega (arith, ints, h)

le_shifted : (a k s : ℕ) → nat_le (a + k) (a + s) ≡ nat_le k s
le_shifted a k s = at (nat_le k s) refl
  where
    at : (b : Bool) → nat_le k s ≡ b → nat_le (a + k) (a + s) ≡ b
    at true q = grind (arith, nat_tests, q)
    at false q = grind (arith, nat_tests, q)

at_most : (a b : ℕ) → a ≤ b → nat_le a b ≡ true
at_most a b h = grind (arith, nat_tests, h)

shifted_above : (rows : List Row) (size n : ℕ) (z : ℤ) → 0 < n → shifted rows size n z ≡ some_or (find (reaches n) rows) bad (stepped n size z)
shifted_above rows size zero z lt = absurd (omega (arith, lt))
shifted_above rows size (suc n) z lt = refl

-- a distance in elements, as a word
negated_word : (e : ℕ) → e < 2 ^ 63 → alu.word (2 ^ 64 - e) ≡ of_signed (neg_ℤ (pos e))
negated_word zero h = refl
negated_word (suc e) h = let lt : 2 ^ 64 - suc e < 2 ^ 64 = omega arith in mod-eq_of_lt lt ∙ omega (arith, ints, h)

negated_is_word : (e : ℕ) → e < 2 ^ 63 → IsWord (neg_ℤ (pos e))
negated_is_word zero h = omega arith
negated_is_word (suc e) h = omega (arith, h)

distance_is : (a k j size : ℕ) → a + k < 2 ^ 32 → a + j < 2 ^ 32 → distance (a + k) (a + j) size ≡ of_signed (wrapped K.Int (int_div (pos k -ℤ pos j) (pos size)))
distance_is a k j size hk hj = by (nat_le (a + j) (a + k)) refl
  where
    by : (b : Bool) → nat_le (a + j) (a + k) ≡ b → extended K.Int (cond b ((a + k - (a + j)) / size) (alu.word (2 ^ 64 - (a + j - (a + k)) / size))) ≡ of_signed (wrapped K.Int (int_div (pos k -ℤ pos j) (pos size)))
    by true e =
        let le : j ≤ k = grind (arith, nat_tests, e) in
        let d : a + k - (a + j) ≡ k - j = omega arith in
        let z : pos (k - j) ≡ pos k -ℤ pos j = omega (arith, ints, le) in
        let low : (k - j) / size < 2 ^ 64 = omega (arith, div-le_self (k - j) size, hk) in
        ap (λ n. extended K.Int (n / size)) d ∙ (cut_is K.Int (pos ((k - j) / size)) low ∙ ap (λ z. of_signed (wrapped K.Int (int_div z (pos size)))) z)
    by false e =
        let lt : k < j = grind (arith, nat_tests, e) in
        let d : a + j - (a + k) ≡ suc (j - k - 1) = omega (arith, lt) in
        let z : negsuc (j - k - 1) ≡ pos k -ℤ pos j = omega (arith, ints, lt) in
        let low : suc (j - k - 1) / size < 2 ^ 63 = omega (arith, div-le_self (suc (j - k - 1)) size, hj, lt) in
        ap (λ n. extended K.Int (alu.word (2 ^ 64 - n / size))) d ∙ (ap (extended K.Int) (negated_word (suc (j - k - 1) / size) low) ∙ (cut_is K.Int (neg_ℤ (pos (suc (j - k - 1) / size))) (negated_is_word (suc (j - k - 1) / size) low) ∙ ap (λ z. of_signed (wrapped K.Int (int_div z (pos size)))) z))

module _ (p : Program) (built : IsBuilt p.types) (s : Store) (ok : IsStore p s) (u : ℕ) (rest : List ℕ) where
  abbrev base : ℕ → ℕ
  base o = address_in (addresses p.types s) o

  abbrev Moved : ℕ → Value → ℤ → Type 0
  Moved size v z = Matches p built s u rest (moved p.types s size v z) (then_do (one_word rest (shifted (rows_of p s) size (word p built s v) z)) (run p built s []))

  -- a pointer that is moved by elements of a size
  moved_matches : (t size : ℕ) (v : Value) (z : ℤ) → slice_get p.types.types u ≡ Some (T.Pointer t) → APointer p built s v → Moved size v z
  moved_matches t size _ (pos zero) e null = (typed_pointer p built s u t Null e null, refl)
  moved_matches t size _ (pos (suc n)) e null = (tt, refl)
  moved_matches t size _ (negsuc n) e null = (tt, refl)
  moved_matches t size _ z e (to o k h) =
      let x = object_of p built s o k h in
      let a = address_is (length p.sites) p.types s o x.object x.is in
      let low = object_address p built s o k h in
      let machine : shifted (rows_of p s) size (base o + k) z ≡ stepped (base o + k) size z (row_of (length p.sites) p.types (base o) x.object) = shifted_above (rows_of p s) size (base o + k) z (omega (arith, low))
      ∙ (ap (λ n. some_or (find (reaches (n + k)) (rows_of p s)) bad (stepped (base o + k) size z)) a
      ∙ (ap (λ r. some_or r bad (stepped (base o + k) size z)) (find_row (length p.sites) p.types FIRST_ADDRESS s.objects o k x.object x.is x.within) ∙ ap (λ n. stepped (base o + k) size z (row_of (length p.sites) p.types n x.object)) (sym a))) in
      subst (λ r. Matches p built s u rest (moved p.types s size (Pointer o k) z) (then_do (one_word rest r) (run p built s []))) (sym machine) (subst (λ q. Matches p built s u rest (then_do (or_trap BadCode q) (λ x. offset_within o (object_size p.types x) (pos k +ℤ (z *ℤ pos size)))) (then_do (one_word rest (stepped (base o + k) size z (row_of (length p.sites) p.types (base o) x.object))) (run p built s []))) (sym x.is) (by_sign x.object x.is x.within z))
    where
      goes : (x : Object) → slice_get s.objects o ≡ Some x → (m w : ℕ) (b : Bool) → nat_le m (object_size p.types x) ≡ b → w ≡ base o + m → Matches p built s u rest (cond b (Ok (Pointer o m)) (Err PtrRange)) (then_do (one_word rest (cond b (Ok w) (Err PtrRange))) (run p built s []))
      goes x is m w true le same =
          let address : is_address p s o m ≡ true = ap (λ q. option_map_or (λ (x : Object). nat_le m (object_size p.types x)) q false) is ∙ le in
          (typed_pointer p built s u t (Pointer o m) e (to o m address), ap (λ w. w ∷ rest) same)
      goes x is m w false le same = (tt, refl)

      up : (x : Object) → slice_get s.objects o ≡ Some x → (m : ℕ) → Matches p built s u rest (cond (nat_le (k + m) (object_size p.types x)) (Ok (Pointer o (k + m))) (Err PtrRange)) (then_do (one_word rest (cond (nat_le (base o + k + m) (base o + object_size p.types x)) (Ok (base o + k + m)) (Err PtrRange))) (run p built s []))
      up x is m =
          let sum : base o + k + m ≡ base o + (k + m) = omega arith in
          let test : nat_le (base o + k + m) (base o + object_size p.types x) ≡ nat_le (k + m) (object_size p.types x) = ap (λ n. nat_le n (base o + object_size p.types x)) sum ∙ le_shifted (base o) (k + m) (object_size p.types x) in
          subst (λ b. Matches p built s u rest (cond (nat_le (k + m) (object_size p.types x)) (Ok (Pointer o (k + m))) (Err PtrRange)) (then_do (one_word rest (cond b (Ok (base o + k + m)) (Err PtrRange))) (run p built s []))) (sym test) (goes x is (k + m) (base o + k + m) (nat_le (k + m) (object_size p.types x)) refl sum)

      down : (x : Object) → slice_get s.objects o ≡ Some x → k ≤ object_size p.types x → (m : ℕ) (b : Bool) → nat_le m k ≡ b → Matches p built s u rest (offset_within o (object_size p.types x) (pos k +ℤ neg_ℤ (pos m))) (then_do (one_word rest (cond b (Ok (base o + k - m)) (Err PtrRange))) (run p built s []))
      down x is within m true test =
          let le : m ≤ k = grind (arith, nat_tests, test) in
          let back : base o + k - m ≡ base o + (k - m) = omega (arith, le) in
          let inside : nat_le (k - m) (object_size p.types x) ≡ true = at_most (k - m) (object_size p.types x) (omega (arith, within)) in
          subst (λ z. Matches p built s u rest (offset_within o (object_size p.types x) z) (then_do (one_word rest (Ok (base o + k - m))) (run p built s []))) (sym (less_by k m le)) (subst (λ b. Matches p built s u rest (cond b (Ok (Pointer o (k - m))) (Err PtrRange)) (then_do (one_word rest (Ok (base o + k - m))) (run p built s []))) (sym inside) (goes x is (k - m) (base o + k - m) true inside back))
      down x is within m false test =
          let lt : k < m = grind (arith, nat_tests, test) in
          subst (λ z. Matches p built s u rest (offset_within o (object_size p.types x) z) (Err PtrRange)) (sym (below_by k m lt)) (tt, refl)

      by_sign : (x : Object) → slice_get s.objects o ≡ Some x → k ≤ object_size p.types x → (z : ℤ) → Matches p built s u rest (offset_within o (object_size p.types x) (pos k +ℤ (z *ℤ pos size))) (then_do (one_word rest (stepped (base o + k) size z (row_of (length p.sites) p.types (base o) x))) (run p built s []))
      by_sign x is within (pos n) = up x is (n * size)
      by_sign x is within (negsuc n) =
          subst (λ b. Matches p built s u rest (offset_within o (object_size p.types x) (pos k +ℤ neg_ℤ (pos (suc n * size)))) (then_do (one_word rest (cond b (Ok (base o + k - suc n * size)) (Err PtrRange))) (run p built s []))) (sym (le_shifted (base o) (suc n * size) k)) (down x is within (suc n * size) (nat_le (suc n * size) k) refl)

  -- the type of a pointer on which arithmetic is allowed
  record PointsTo (a : ℕ) : Type 0 where
    at : ℕ
    is : slice_get p.types.types a ≡ Some (T.Pointer at)

  points_in : (a : ℕ) → is_object_pointer (ty p.types a) ≡ true → PointsTo a
  points_in a h = by (slice_get p.types.types a) refl h
    where
      by : (o : Option Ty) → slice_get p.types.types a ≡ o → is_object_pointer o ≡ true → PointsTo a
      by (Some (T.Pointer t)) e h = record { at = t; is = e }
      by _ e h = absurd (cc)

  long_in : (a : ℕ) → is_long_long (ty p.types a) ≡ true → slice_get p.types.types a ≡ Some (T.Int K.LongLong)
  long_in a h = by (slice_get p.types.types a) h
    where
      by : (o : Option Ty) → is_long_long o ≡ true → o ≡ Some (T.Int K.LongLong)
      by (Some (T.Int K.LongLong)) h = refl
      by _ h = absurd (cc)

  eq_of : (a b : ℕ) → nat_eq a b ≡ true → a ≡ b
  eq_of a b h = grind (arith, nat_tests, h)

  -- a number of elements, by which a pointer is moved up, or down
  module _ (a b : ℕ) (v w : Value) (hv : Typed p built s a v) (hw : Typed p built s b w) (fits : move_fits p.types u a b ≡ true) where
    more : nat_eq a u && is_long_long (ty p.types b) ≡ true
    more = and_right (is_object_pointer (ty p.types u)) (nat_eq a u && is_long_long (ty p.types b)) fits

    node : PointsTo u
    node = points_in u (and_left (is_object_pointer (ty p.types u)) (nat_eq a u && is_long_long (ty p.types b)) fits)

    a_move : APointer p built s v
    a_move = a_pointer p built s u node.at v node.is (subst (λ t. Typed p built s t v) (eq_of a u (and_left (nat_eq a u) (is_long_long (ty p.types b)) more)) hv)

    by_number : (g : ℤ → ℤ) → ((z : ℤ) → IsSmall z → g (signed (of_signed z)) ≡ g z) → Matches p built s u rest (then_do (or_trap BadCode (pointed_size p.types (slice_get p.types.types u))) (λ size. with_int w (λ z. moved p.types s size v (g z)))) (then_do (one_word rest (shifted (rows_of p s) (element_size_in p.types (ty p.types u)) (word p built s v) (g (signed (word p built s w))))) (run p built s []))
    by_number g same =
        let n = node in
        let z = an_int p built s b K.LongLong w (long_in b (and_right (nat_eq a u) (is_long_long (ty p.types b)) more)) hw in
        let size = size_of p.types n.at in
        subst (λ w. Matches p built s u rest (then_do (or_trap BadCode (pointed_size p.types (slice_get p.types.types u))) (λ size. with_int w (λ z. moved p.types s size v (g z)))) (then_do (one_word rest (shifted (rows_of p s) (element_size_in p.types (ty p.types u)) (word p built s v) (g (signed (word p built s w))))) (run p built s []))) (sym z.is) (subst (λ o. Matches p built s u rest (then_do (or_trap BadCode (pointed_size p.types o)) (λ size. moved p.types s size v (g z.number))) (then_do (one_word rest (shifted (rows_of p s) (element_size_in p.types o) (word p built s v) (g (signed (of_signed z.number))))) (run p built s []))) (sym n.is) (subst (λ m. Matches p built s u rest (moved p.types s size v (g z.number)) (then_do (one_word rest (shifted (rows_of p s) size (word p built s v) m)) (run p built s []))) (sym (same z.number (signed_small K.LongLong z.number refl z.held))) (moved_matches n.at size v (g z.number) n.is a_move)))

    pub add_matches : Matches p built s u rest (binary p.types s u a PointerAdd v w) (run p built s (binary_last p.types u a PointerAdd) (word p built s w ∷ word p built s v ∷ rest))
    add_matches = by_number (λ z. z) signed_back

    pub add_turned_matches : Matches p built s u rest (binary p.types s u b AddPointer w v) (run p built s (binary_last p.types u b AddPointer) (word p built s v ∷ word p built s w ∷ rest))
    add_turned_matches = by_number (λ z. z) signed_back

    pub subtract_matches : Matches p built s u rest (binary p.types s u a PointerSubtract v w) (run p built s (binary_last p.types u a PointerSubtract) (word p built s w ∷ word p built s v ∷ rest))
    subtract_matches = by_number neg_ℤ (λ z h. ap neg_ℤ (signed_back z h))

  -- the difference of two pointers
  difference_is_offsets : (size : ℕ) (v w : Value) → difference size v w ≡ with_offsets (λ k j. Ok (Int (wrapped K.Int (int_div (k -ℤ j) (pos size))))) v w
  difference_is_offsets size v w = refl

  pub difference_matches : (a b : ℕ) (v w : Value) → Typed p built s a v → Typed p built s b w → difference_fits p.types u a b ≡ true → Matches p built s u rest (binary p.types s u a PointerDifference v w) (run p built s (binary_last p.types u a PointerDifference) (word p built s w ∷ word p built s v ∷ rest))
  difference_matches a b v w hv hw fits =
      let int_node = and_left (is_int (ty p.types u)) (nat_eq a b && is_object_pointer (ty p.types a)) fits in
      let more = and_right (is_int (ty p.types u)) (nat_eq a b && is_object_pointer (ty p.types a)) fits in
      let n = points_in a (and_right (nat_eq a b) (is_object_pointer (ty p.types a)) more) in
      let one : b ≡ a = sym (eq_of a b (and_left (nat_eq a b) (is_object_pointer (ty p.types a)) more)) in
      let pv = a_pointer p built s a n.at v n.is hv in
      let pw = a_pointer p built s a n.at w n.is (subst (λ t. Typed p built s t w) one hw) in
      let size = size_of p.types n.at in
      let points : points_to (slice_get p.types.types a) n.at ≡ true = ap (λ o. points_to o n.at) n.is ∙ same n.at in
      let low = size-low p.types built n.at (pointed_known p built a n.at points) in
      let some : nat_eq size 0 ≡ false = Rattle.cg_state.proofs.Tests.eq_false size (λ e. omega (arith, e, low)) in
      let rows = rows_of p s in
      let r = of_one_object rows (word p built s v) (word p built s w) (distance (word p built s v) (word p built s w) size) in
      subst (λ o. Matches p built s u rest (then_do (or_trap BadCode (pointed_size p.types o)) (λ size. difference size v w)) (then_do (one_word rest (cond (nat_eq (element_size_in p.types o) 0) bad (of_one_object rows (word p built s v) (word p built s w) (distance (word p built s v) (word p built s w) (element_size_in p.types o))))) (run p built s []))) (sym n.is) (subst (λ c. Matches p built s u rest (difference size v w) (then_do (one_word rest (cond c bad r)) (run p built s []))) (sym some) (offsets_fit p built s (λ k j. Ok (Int (wrapped K.Int (int_div (k -ℤ j) (pos size))))) (λ a b. distance a b size) (λ r w. Matches p built s u rest r (then_do (one_word rest w) (run p built s []))) v w pv pw (tt, refl) (gives int_node size (pos 0 -ℤ pos 0) (distance 0 0 size) (distance_is 0 0 0 size (omega arith) (omega arith))) (λ o k j h i.
      gives int_node size (pos k -ℤ pos j) (distance (base o + k) (base o + j) size) (distance_is (base o) k j size (address_below p built s ok o k h) (address_below p built s ok o j i)))))
    where
      same : (n : ℕ) → nat_eq n n ≡ true
      same n = grind (arith, nat_tests)

      gives : is_int (ty p.types u) ≡ true → (size : ℕ) (d : ℤ) (c : ℕ) → c ≡ of_signed (wrapped K.Int (int_div d (pos size))) → Matches p built s u rest (Ok (Int (wrapped K.Int (int_div d (pos size))))) (Ok (c ∷ rest))
      gives h size d c q =
          (typed_int p built s u K.Int (wrapped K.Int (int_div d (pos size))) (int_kind p built s u h) (wrapped_held K.Int (int_div d (pos size))), ap (λ w. w ∷ rest) q)
