-- Comparisons of integers and of pointers.
use Rattle.std.proofs.Common.{◌≡◌, ◌∙◌, refl, sym, ap, subst, Bool, true, false, not, ◌&&◌, cond, ℕ, ◌+◌, ◌-◌, ◌^◌, ◌<◌, List, [], ◌∷◌, Option, Some, None, Result, Ok, Err, arith, nat_eq, nat_lt}
use Rattle.std.specs.Prelude.{slice_get, ℤ, pos, negsuc, int_lt}
use Rattle.std.proofs.lemmas.Int.{ints}
use Rattle.std.proofs.lemmas.Bool.Decides.{nat_tests}
use Rattle.lu_spec.specs.Then.{then_do}
use Rattle.lu_base.specs.declared.trap.Trap.{Trap}
use Rattle.c_types.specs.Refusal.{IsBuilt}
use Rattle.c_types.specs.declared.parts.IntKind.{IntKind}
use Rattle.c_types.specs.declared.parts.IntKind.TheVariants as K
use Rattle.c_types.specs.declared.parts.Ty.{Ty}
use Rattle.c_types.specs.declared.parts.Ty.TheVariants as T
use Rattle.src_tree.specs.declared.value.Value.{Value, Int, Null, Pointer, Function}
use Rattle.src_tree.specs.declared.value.Store.{Store}
use Rattle.src_tree.specs.declared.program.Program.{Program}
use Rattle.src_tree.specs.declared.expr.BinaryOperator.TheVariants.{Less, LessEqual, Greater, GreaterEqual, Equal, NotEqual}
use Rattle.src_meaning.specs.Integers.{is_held, is_signed, flag}
use Rattle.src_meaning.specs.Objects.{Gives, addresses}
use Rattle.src_meaning.specs.Pointers.{with_offsets, is_less, are_equal}
use Rattle.src_meaning.specs.Operators.{flagged, negated, binary}
use Rattle.src_meaning.specs.ValidTypes.{is_int, is_ordered, is_comparable, ty}
use Rattle.src_meaning.specs.ValidExpression.{order_fits, equality_fits}
use Rattle.src_meaning.proofs.LayoutLengths.{and_left, and_right}
use Rattle.bm_isa.specs.declared.instr.Instr.{Instr}
use Rattle.bm_isa.specs.declared.instr.Instr.TheVariants as I
use Rattle.bm_alu.specs.Words as alu
use Rattle.bm_alu.specs.Words.{signed, of_signed}
use Rattle.bm_code.specs.Kinds.{operation_of}
use Rattle.bm_code.specs.Pointers.{of_one_object}
use Rattle.cg_state.specs.Represents.{address_in, content_of, rows_of}
use Rattle.cg_expr.specs.Pieces.{less, binary_last}
use Rattle.cg_state.specs.Runs.{IsPlain}
use Rattle.cg_state.proofs.Words.{held_word}
use Rattle.cg_state.proofs.Typed.{Typed, an_int, APointer, null, to, a_pointer, a_void_pointer, AFunction, no_function, to_function, a_function, object_address}
use Rattle.cg_sim_expr.proofs.Straight.{word_effect, one_word}
use Rattle.cg_sim_expr.proofs.Matching.{word, run, Matches, flag_matches}
use Rattle.cg_sim_expr.proofs.Fits.{IsNatural, natural, unsigned_natural, signed_small, signed_back}
use Rattle.cg_sim_expr.proofs.Pointers.{offsets_fit, same_pointer}

flag_word : (b : Bool) → alu.flag b ≡ of_signed (flag b)
flag_word true = refl
flag_word false = refl

not_flag : (b : Bool) → alu.flag (nat_eq (of_signed (flag b)) 0) ≡ of_signed (flag (not b))
not_flag true = refl
not_flag false = refl

unequal : (a b : ℕ) → (a ≡ b → ⊥) → nat_eq a b ≡ false
unequal a b h = grind (arith, nat_tests, h)

one_more : (f k : ℕ) → nat_eq (f + 1) (k + 1) ≡ nat_eq f k
one_more f k = at (nat_eq f k) refl
  where
    at : (c : Bool) → nat_eq f k ≡ c → nat_eq (f + 1) (k + 1) ≡ c
    at true q = grind (arith, nat_tests, q)
    at false q = grind (arith, nat_tests, q)

-- words of negative numbers are one where the numbers are
same_below : (a b : ℕ) → a < 2 ^ 63 → b < 2 ^ 63 → nat_eq (of_signed (negsuc a)) (of_signed (negsuc b)) ≡ nat_eq a b
same_below a b ha hb = at (nat_eq a b) refl
  where
    at : (c : Bool) → nat_eq a b ≡ c → nat_eq (of_signed (negsuc a)) (of_signed (negsuc b)) ≡ c
    at true q = grind (arith, ints, nat_tests, q)
    at false q = unequal_of (λ e. different q e)
      where
        different : nat_eq a b ≡ false → of_signed (negsuc a) ≡ of_signed (negsuc b) → ⊥
        different q e = let one : a ≡ b = omega (arith, ints, e, ha, hb) in absurd (let t : nat_eq a b ≡ true = grind (arith, nat_tests, one) in cc)

        unequal_of : (of_signed (negsuc a) ≡ of_signed (negsuc b) → ⊥) → nat_eq (of_signed (negsuc a)) (of_signed (negsuc b)) ≡ false
        unequal_of h = unequal (of_signed (negsuc a)) (of_signed (negsuc b)) h

signed_of : (kind : IntKind) (n : ℕ) → is_held kind (negsuc n) ≡ true → is_signed kind ≡ true
signed_of K.Char n h = refl
signed_of K.Short n h = refl
signed_of K.Int n h = refl
signed_of K.LongLong n h = refl
signed_of _ n h = absurd (cc)

-- a comparison on both sides: the same answer, or the same trap
abbrev Decides : Gives Bool → Result ℕ Trap → Type 0
Decides (Ok b) (Ok c) = c ≡ of_signed (flag b)
Decides (Err t) (Err w) = IsPlain t × (w ≡ t)
Decides _ _ = ⊥

module _ (p : Program) (built : IsBuilt p.types) (s : Store) where
  -- an answer as it stands, and turned round
  plain_matches : (u : ℕ) (rest : List ℕ) (b : Gives Bool) (r : Result ℕ Trap) → is_int (ty p.types u) ≡ true → Decides b r → Matches p built s u rest (flagged b) (then_do (one_word rest r) (run p built s []))
  plain_matches u rest (Ok b) (Ok c) h d = flag_matches p built s u b c rest h d
  plain_matches u rest (Ok b) (Err t) h d = absurd d
  plain_matches u rest (Err t) (Ok c) h d = absurd d
  plain_matches u rest (Err t) (Err w) h d = d

  turned_matches : (u : ℕ) (rest : List ℕ) (b : Gives Bool) (r : Result ℕ Trap) → is_int (ty p.types u) ≡ true → Decides b r → Matches p built s u rest (flagged (negated b)) (then_do (one_word rest r) (run p built s (I.Not ∷ [])))
  turned_matches u rest (Ok b) (Ok c) h d =
      flag_matches p built s u (not b) (alu.flag (nat_eq c 0)) rest h (ap (λ c. alu.flag (nat_eq c 0)) d ∙ not_flag b)
  turned_matches u rest (Ok b) (Err t) h d = absurd d
  turned_matches u rest (Err t) (Ok c) h d = absurd d
  turned_matches u rest (Err t) (Err w) h d = d

  -- what the instruction of an order gives
  record LessIs (v w : Value) (i : Instr) : Type 0 where
    result : Result ℕ Trap
    effect : (rest : List ℕ) → word_effect p.types (content_of p.types s) (rows_of p s) (operation_of i) (word p built s w ∷ word p built s v ∷ rest) ≡ one_word rest result
    decides : Decides (is_less v w) result

  less_ints : (kind : IntKind) (x y : ℤ) → is_held kind x ≡ true → is_held kind y ≡ true → (b : Bool) → is_signed kind ≡ b → LessIs (Int x) (Int y) (cond b I.LessSigned I.LessUnsigned)
  less_ints kind x y hx hy true sg = record {
    result = Ok (alu.flag (int_lt (signed (of_signed x)) (signed (of_signed y))));
    effect = λ rest. refl;
    decides = ap (λ z. alu.flag (int_lt z (signed (of_signed y)))) (signed_back x (signed_small kind x sg hx)) ∙ (ap (λ z. alu.flag (int_lt x z)) (signed_back y (signed_small kind y sg hy)) ∙ flag_word (int_lt x y));
  }
  less_ints kind x y hx hy false sg = by x y (unsigned_natural kind x sg hx) (unsigned_natural kind y sg hy)
    where
      by : (x y : ℤ) → IsNatural x → IsNatural y → LessIs (Int x) (Int y) I.LessUnsigned
      by _ _ (natural m) (natural n) = record { result = Ok (alu.flag (nat_lt m n)); effect = λ rest. refl; decides = flag_word (nat_lt m n) }

  less_is_offsets : (v w : Value) → APointer p built s v → APointer p built s w → is_less v w ≡ with_offsets (λ k j. Ok (int_lt k j)) v w
  less_is_offsets _ _ null null = refl
  less_is_offsets _ _ null (to q j h) = refl
  less_is_offsets _ _ (to o k h) null = refl
  less_is_offsets _ _ (to o k h) (to q j i) = refl

  less_pointers : (v w : Value) → APointer p built s v → APointer p built s w → LessIs v w I.PointerLess
  less_pointers v w hv hw = record {
    result = of_one_object (rows_of p s) (word p built s v) (word p built s w) (alu.flag (nat_lt (word p built s v) (word p built s w)));
    effect = λ rest. refl;
    decides = subst (λ b. Decides b (of_one_object (rows_of p s) (word p built s v) (word p built s w) (alu.flag (nat_lt (word p built s v) (word p built s w))))) (sym (less_is_offsets v w hv hw)) (offsets_fit p built s (λ k j. Ok (int_lt k j)) (λ a b. alu.flag (nat_lt a b)) Decides v w hv hw (tt, refl) refl (λ o k j h i. ap alu.flag (shifted (address_in (addresses p.types s) o) k j) ∙ flag_word (nat_lt k j)));
  }
    where
      shifted : (a k j : ℕ) → nat_lt (a + k) (a + j) ≡ nat_lt k j
      shifted a k j = at (nat_lt k j) refl
        where
          at : (c : Bool) → nat_lt k j ≡ c → nat_lt (a + k) (a + j) ≡ c
          at true q = grind (arith, nat_tests, q)
          at false q = grind (arith, nat_tests, q)

  less_in : (a : ℕ) (v w : Value) → is_ordered (ty p.types a) ≡ true → Typed p built s a v → Typed p built s a w → LessIs v w (less (ty p.types a))
  less_in a v w h hv hw = by (slice_get p.types.types a) refl h
    where
      by : (o : Option Ty) → slice_get p.types.types a ≡ o → is_ordered o ≡ true → LessIs v w (less o)
      by (Some (T.Int kind)) e h =
          let x = an_int p built s a kind v e hv in
          let y = an_int p built s a kind w e hw in
          subst (λ v. LessIs v w (less (Some (T.Int kind)))) (sym x.is) (subst (λ w. LessIs (Int x.number) w (less (Some (T.Int kind)))) (sym y.is) (less_ints kind x.number y.number x.held y.held (is_signed kind) refl))
      by (Some (T.Pointer t)) e h = less_pointers v w (a_pointer p built s a t v e hv) (a_pointer p built s a t w e hw)
      by (Some T.VoidPointer) e h = less_pointers v w (a_void_pointer p built s a v e hv) (a_void_pointer p built s a w e hw)
      by (Some (T.Function g)) e h = absurd (cc)
      by (Some (T.Struct k)) e h = absurd (cc)
      by (Some (T.Union k)) e h = absurd (cc)
      by (Some (T.Array t n)) e h = absurd (cc)
      by None e h = absurd (cc)

  eq_of : (a b : ℕ) → nat_eq a b ≡ true → a ≡ b
  eq_of a b h = grind (arith, nat_tests, h)

  module _ (u a b : ℕ) (v w : Value) (rest : List ℕ) (hv : Typed p built s a v) (hw : Typed p built s b w) where
    module _ (fits : order_fits p.types u a b ≡ true) where
      an_int_node : is_int (ty p.types u) ≡ true
      an_int_node = and_left (is_int (ty p.types u)) (nat_eq a b && is_ordered (ty p.types a)) fits

      ordered : is_ordered (ty p.types a) ≡ true
      ordered = and_right (nat_eq a b) (is_ordered (ty p.types a)) (and_right (is_int (ty p.types u)) (nat_eq a b && is_ordered (ty p.types a)) fits)

      one_type : Typed p built s a w
      one_type =
          let same : a ≡ b = eq_of a b (and_left (nat_eq a b) (is_ordered (ty p.types a)) (and_right (is_int (ty p.types u)) (nat_eq a b && is_ordered (ty p.types a)) fits)) in
          subst (λ t. Typed p built s t w) (sym same) hw

      pub less_matches : Matches p built s u rest (binary p.types s u a Less v w) (run p built s (binary_last p.types u a Less) (word p built s w ∷ word p built s v ∷ rest))
      less_matches =
          let l = less_in a v w ordered hv one_type in
          subst (λ r. Matches p built s u rest (flagged (is_less v w)) (then_do r (run p built s []))) (sym (l.effect rest)) (plain_matches u rest (is_less v w) l.result an_int_node l.decides)

      pub greater_equal_matches : Matches p built s u rest (binary p.types s u a GreaterEqual v w) (run p built s (binary_last p.types u a GreaterEqual) (word p built s w ∷ word p built s v ∷ rest))
      greater_equal_matches =
          let l = less_in a v w ordered hv one_type in
          subst (λ r. Matches p built s u rest (flagged (negated (is_less v w))) (then_do r (run p built s (I.Not ∷ [])))) (sym (l.effect rest)) (turned_matches u rest (is_less v w) l.result an_int_node l.decides)

      pub greater_matches : Matches p built s u rest (binary p.types s u a Greater v w) (run p built s (binary_last p.types u a Greater) (word p built s w ∷ word p built s v ∷ rest))
      greater_matches =
          let l = less_in a w v ordered one_type hv in
          subst (λ r. Matches p built s u rest (flagged (is_less w v)) (then_do r (run p built s []))) (sym (l.effect rest)) (plain_matches u rest (is_less w v) l.result an_int_node l.decides)

      pub less_equal_matches : Matches p built s u rest (binary p.types s u a LessEqual v w) (run p built s (binary_last p.types u a LessEqual) (word p built s w ∷ word p built s v ∷ rest))
      less_equal_matches =
          let l = less_in a w v ordered one_type hv in
          subst (λ r. Matches p built s u rest (flagged (negated (is_less w v))) (then_do r (run p built s (I.Not ∷ [])))) (sym (l.effect rest)) (turned_matches u rest (is_less w v) l.result an_int_node l.decides)

  -- equality
  abbrev Equals : Value → Value → Type 0
  Equals v w = Decides (are_equal v w) (Ok (alu.flag (nat_eq (word p built s v) (word p built s w))))

  equals : (v w : Value) (b : Bool) → are_equal v w ≡ Ok b → nat_eq (word p built s v) (word p built s w) ≡ b → Equals v w
  equals v w b e q = subst (λ r. Decides r (Ok (alu.flag (nat_eq (word p built s v) (word p built s w))))) (sym e) (ap alu.flag q ∙ flag_word b)

  equal_ints : (kind : IntKind) (x y : ℤ) → is_held kind x ≡ true → is_held kind y ≡ true → Equals (Int x) (Int y)
  equal_ints kind (pos a) (pos b) hx hy = equals (Int (pos a)) (Int (pos b)) (nat_eq a b) refl refl
  equal_ints kind (negsuc a) (negsuc b) hx hy =
      equals (Int (negsuc a)) (Int (negsuc b)) (nat_eq a b) refl (same_below a b (held_word kind (negsuc a) hx) (held_word kind (negsuc b) hy))
  equal_ints kind (pos a) (negsuc b) hx hy =
      let small = signed_small kind (pos a) (signed_of kind b hy) hx in
      equals (Int (pos a)) (Int (negsuc b)) false refl (unequal a (of_signed (negsuc b)) (λ e. omega (arith, ints, e, small, held_word kind (negsuc b) hy)))
  equal_ints kind (negsuc a) (pos b) hx hy =
      let small = signed_small kind (pos b) (signed_of kind a hx) hy in
      equals (Int (negsuc a)) (Int (pos b)) false refl (unequal (of_signed (negsuc a)) b (λ e. omega (arith, ints, e, small, held_word kind (negsuc a) hx)))

  equal_pointers : (v w : Value) → APointer p built s v → APointer p built s w → Equals v w
  equal_pointers _ _ null null = refl
  equal_pointers _ _ null (to q j h) =
      let low = object_address p built s q j h in
      equals Null (Pointer q j) false refl (unequal 0 (word p built s (Pointer q j)) (λ e. omega (arith, e, low)))
  equal_pointers _ _ (to o k h) null =
      let low = object_address p built s o k h in
      equals (Pointer o k) Null false refl (unequal (word p built s (Pointer o k)) 0 (λ e. omega (arith, e, low)))
  equal_pointers _ _ (to o k h) (to q j i) =
      equals (Pointer o k) (Pointer q j) (nat_eq o q && nat_eq k j) refl (same_pointer p built s o k q j h i)

  equal_names : (g : ℕ) (v w : Value) → AFunction p built s g v → AFunction p built s g w → Equals v w
  equal_names g _ _ no_function no_function = refl
  equal_names g _ _ no_function (to_function f h) = equals Null (Function f) false refl (unequal 0 (f + 1) (λ e. omega (arith, e)))
  equal_names g _ _ (to_function f h) no_function = equals (Function f) Null false refl (unequal (f + 1) 0 (λ e. omega (arith, e)))
  equal_names g _ _ (to_function f h) (to_function k i) = equals (Function f) (Function k) (nat_eq f k) refl (one_more f k)

  equal_in : (a : ℕ) (v w : Value) → is_comparable (ty p.types a) ≡ true → Typed p built s a v → Typed p built s a w → Equals v w
  equal_in a v w h hv hw = by (slice_get p.types.types a) refl h
    where
      by : (o : Option Ty) → slice_get p.types.types a ≡ o → is_comparable o ≡ true → Equals v w
      by (Some (T.Int kind)) e h =
          let x = an_int p built s a kind v e hv in
          let y = an_int p built s a kind w e hw in
          subst (λ v. Equals v w) (sym x.is) (subst (λ w. Equals (Int x.number) w) (sym y.is) (equal_ints kind x.number y.number x.held y.held))
      by (Some (T.Pointer t)) e h = equal_pointers v w (a_pointer p built s a t v e hv) (a_pointer p built s a t w e hw)
      by (Some T.VoidPointer) e h = equal_pointers v w (a_void_pointer p built s a v e hv) (a_void_pointer p built s a w e hw)
      by (Some (T.Function g)) e h = equal_names g v w (a_function p built s a g v e hv) (a_function p built s a g w e hw)
      by (Some (T.Struct k)) e h = absurd (cc)
      by (Some (T.Union k)) e h = absurd (cc)
      by (Some (T.Array t n)) e h = absurd (cc)
      by None e h = absurd (cc)

  module _ (u a b : ℕ) (v w : Value) (rest : List ℕ) (hv : Typed p built s a v) (hw : Typed p built s b w) where
    module _ (fits : equality_fits p.types u a b ≡ true) where
      a_flag_node : is_int (ty p.types u) ≡ true
      a_flag_node = and_left (is_int (ty p.types u)) (nat_eq a b && is_comparable (ty p.types a)) fits

      equal_both : Equals v w
      equal_both =
          let more = and_right (is_int (ty p.types u)) (nat_eq a b && is_comparable (ty p.types a)) fits in
          let same : a ≡ b = eq_of a b (and_left (nat_eq a b) (is_comparable (ty p.types a)) more) in
          equal_in a v w (and_right (nat_eq a b) (is_comparable (ty p.types a)) more) hv (subst (λ t. Typed p built s t w) (sym same) hw)

      pub equal_matches : Matches p built s u rest (binary p.types s u a Equal v w) (run p built s (binary_last p.types u a Equal) (word p built s w ∷ word p built s v ∷ rest))
      equal_matches = plain_matches u rest (are_equal v w) (Ok (alu.flag (nat_eq (word p built s v) (word p built s w)))) a_flag_node equal_both

      pub unequal_matches : Matches p built s u rest (binary p.types s u a NotEqual v w) (run p built s (binary_last p.types u a NotEqual) (word p built s w ∷ word p built s v ∷ rest))
      unequal_matches = turned_matches u rest (are_equal v w) (Ok (alu.flag (nat_eq (word p built s v) (word p built s w)))) a_flag_node equal_both
