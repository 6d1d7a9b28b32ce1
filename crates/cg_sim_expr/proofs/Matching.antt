-- What pieces of code make of the words of values, against what the operators give.
use Rattle.std.proofs.Common.{◌≡◌, ◌∙◌, refl, ap, sym, subst, Bool, true, false, not, ◌&&◌, ◌||◌, ◌⊎◌, inl, inr, cond, ℕ, zero, suc, ◌+◌, ◌-◌, ◌*◌, ◌^◌, ◌<◌, List, [], ◌∷◌, Option, Some, None, Result, Ok, Err, arith, lit<}
use Rattle.std.specs.Prelude.{slice_get, ℤ, pos, negsuc, ◌+ℤ◌, ◌-ℤ◌, ◌*ℤ◌, neg_ℤ, nat_eq}
use Rattle.std.specs.Option.{option_map_or}
use Rattle.std.proofs.lemmas.Int.{ints}
use Rattle.std.proofs.lemmas.Bool.Decides.{nat_tests}
use Rattle.lu_spec.specs.Then.{then_do}
use Rattle.lu_base.specs.declared.trap.Trap.{Trap}
use Rattle.lu_base.specs.declared.trap.Trap.TheVariants.{BadCode}
use Rattle.c_types.specs.Refusal.{IsBuilt}
use Rattle.c_types.specs.declared.parts.Ty.{Ty}
use Rattle.c_types.specs.declared.parts.Ty.TheVariants as T
use Rattle.c_types.specs.declared.parts.IntKind.{IntKind}
use Rattle.c_types.specs.declared.parts.IntKind.TheVariants as K
use Rattle.src_tree.specs.declared.value.Value.{Value, Int, Null, Pointer, Function}
use Rattle.src_tree.specs.declared.value.Store.{Store}
use Rattle.src_tree.specs.declared.program.Program.{Program}
use Rattle.src_tree.specs.declared.expr.UnaryOperator.{UnaryOperator}
use Rattle.src_tree.specs.declared.expr.UnaryOperator.TheVariants.{Minus, Complement, Not}
use Rattle.src_meaning.specs.Integers.{is_held, wrapped, flag, is_zero}
use Rattle.src_meaning.specs.Objects.{Gives, or_trap, addresses}
use Rattle.src_meaning.specs.Operators.{is_true, converted, converted_to, kind_in, unary, flagged, on_ints, binary}
use Rattle.src_meaning.specs.ValidTypes.{is_scalar, is_pointer, is_promoted, is_int, converts, casts, is_ordered, is_comparable, is_named, is_object_pointer, is_long_long, ty}
use Rattle.src_meaning.specs.Expression.{Scope, value_of, chosen, logical}
use Rattle.src_tree.specs.declared.expr.LogicalOperator.{LogicalOperator}
use Rattle.src_tree.specs.declared.expr.LogicalOperator.TheVariants.{And, Or}
use Rattle.cg_expr.specs.Pieces as piece
use Rattle.src_meaning.specs.Constant.{is_zero_literal}
use Rattle.src_tree.specs.declared.expr.ExprKind.{ExprKind, Number}
use Rattle.src_tree.specs.declared.expr.BinaryOperator.{BinaryOperator}
use Rattle.src_tree.specs.declared.expr.BinaryOperator.TheVariants as O
use Rattle.src_meaning.specs.ValidExpression.{Declarations, local_type, is_number, is_below, number_limit, is_function_name, unary_fits, cast_fits, convert_fits, conditional_fits, binary_fits, arithmetic_fits, shift_fits, order_fits, equality_fits, move_fits, difference_fits}
use Rattle.src_meaning.proofs.LayoutLengths.{and_left, and_right}
use Rattle.bm_isa.specs.declared.instr.Instr.{Instr}
use Rattle.bm_isa.specs.declared.instr.Instr.TheVariants as I
use Rattle.std.specs.Int.{w64, int_wrap}
use Rattle.cg_state.proofs.Tests.{eq_false}
use Rattle.bm_alu.specs.Words.{signed, of_signed, extended, normalized, int_kinds}
use Rattle.cg_state.specs.Represents.{value_word, content_of, rows_of}
use Rattle.cg_expr.specs.Pieces.{normal, int_number, arithmetic, unary_first, unary_last, logical_first, decided_value, binary_last}
use Rattle.cg_state.specs.Runs.{IsPlain}
use Rattle.cg_state.proofs.Typed.{Typed, AnInt, an_int, typed_int, APointer, null, to, a_pointer, a_void_pointer, AFunction, no_function, to_function, a_function, typed_pointer, typed_void, typed_function, object_address}
use Rattle.cg_sim_expr.proofs.Straight.{straight, IsFine}
use Rattle.cg_state.proofs.Words.{word_of_number, IsWord, held_word, wrapped_held, cut_is, word_below, signed_word, sum_is, difference_is, product_is}

number_of_kind : (kind : IntKind) (w : ℕ) → normalized (slice_get int_kinds (int_number kind)) w ≡ Ok (extended kind w)
number_of_kind K.Char w = refl
number_of_kind K.UChar w = refl
number_of_kind K.Short w = refl
number_of_kind K.UShort w = refl
number_of_kind K.Int w = refl
number_of_kind K.UInt w = refl
number_of_kind K.LongLong w = refl
number_of_kind K.ULongLong w = refl

-- a pointer to objects, of any type
abbrev pub is_object_address : Option Ty → Bool
is_object_address (Some (T.Pointer t)) = true
is_object_address (Some T.VoidPointer) = true
is_object_address _ = false

module _ (p : Program) (built : IsBuilt p.types) (s : Store) where
  abbrev pub word : Value → ℕ
  word v = value_word (addresses p.types s) v

  abbrev pub run : List Instr → List ℕ → Result (List ℕ) Trap
  run is stack = straight p.types (content_of p.types s) (rows_of p s) is stack

  -- what code makes of the stack is the value's word on the rest, or the same trap
  abbrev pub Matches : ℕ → List ℕ → Gives Value → Result (List ℕ) Trap → Type 0
  Matches u rest (Ok v) (Ok stack) = Typed p built s u v × (stack ≡ word v ∷ rest)
  Matches u rest (Err t) (Err w) = IsPlain t × (w ≡ t)
  Matches u rest _ _ = ⊥

  pub matches_fine : (u : ℕ) (rest : List ℕ) (r : Gives Value) (w : Result (List ℕ) Trap) → Matches u rest r w → IsFine w
  matches_fine u rest (Ok v) (Ok stack) h = tt
  matches_fine u rest (Ok v) (Err t) h = absurd h
  matches_fine u rest (Err t) (Ok stack) h = absurd h
  matches_fine u rest (Err t) (Err w) h = subst IsPlain (sym h.1) h.0

  -- the truth of a scalar is that its word isn't 0
  pub record Truth (v : Value) : Type 0 where
    pub holds : Bool
    pub is : is_true v ≡ Ok holds
    pub one : holds ≡ true → word v ≡ 0 → ⊥
    pub alt : holds ≡ false → word v ≡ 0

  -- an int's word, cut
  run_normal : (kind : IntKind) (w : ℕ) (rest : List ℕ) → run (normal (Some (T.Int kind))) (w ∷ rest) ≡ Ok (extended kind w ∷ rest)
  run_normal kind w rest = ap (λ r. then_do (then_do r (λ v. Ok (v ∷ rest))) (run [])) (number_of_kind kind w)

  -- a value of a scalar type
  pub data AScalar (u : ℕ) (v : Value) : Type 0 where
    an_integer : (kind : IntKind) → slice_get p.types.types u ≡ Some (T.Int kind) → AnInt p built s kind v → AScalar u v
    an_address : is_object_address (slice_get p.types.types u) ≡ true → APointer p built s v → AScalar u v
    a_name : (g : ℕ) → slice_get p.types.types u ≡ Some (T.Function g) → AFunction p built s g v → AScalar u v

  pub a_scalar : (u : ℕ) (v : Value) → is_scalar (slice_get p.types.types u) ≡ true → Typed p built s u v → AScalar u v
  a_scalar u v sc h = by (slice_get p.types.types u) refl sc
    where
      by : (o : Option Ty) → slice_get p.types.types u ≡ o → is_scalar o ≡ true → AScalar u v
      by (Some (T.Int kind)) e sc = an_integer kind e (an_int p built s u kind v e h)
      by (Some (T.Pointer w)) e sc = an_address (ap is_object_address e) (a_pointer p built s u w v e h)
      by (Some T.VoidPointer) e sc = an_address (ap is_object_address e) (a_void_pointer p built s u v e h)
      by (Some (T.Function g)) e sc = a_name g e (a_function p built s u g v e h)
      by (Some (T.Struct k)) e sc = absurd (cc)
      by (Some (T.Union k)) e sc = absurd (cc)
      by (Some (T.Array w n)) e sc = absurd (cc)
      by None e sc = absurd (cc)

  truth_of_int : (z : ℤ) → IsWord z → Truth (Int z)
  truth_of_int (pos zero) h = record { holds = false; is = refl; one = λ e w. absurd (cc); alt = λ e. refl }
  truth_of_int (pos (suc n)) h = record { holds = true; is = refl; one = λ e w. omega arith; alt = λ e. absurd (cc) }
  truth_of_int (negsuc n) h = record { holds = true; is = refl; one = λ e w. omega arith; alt = λ e. absurd (cc) }

  pub truth_of : (u : ℕ) (v : Value) → AScalar u v → Truth v
  truth_of u v (an_integer kind e i) = subst Truth (sym i.is) (truth_of_int i.number (held_word kind i.number i.held))
  truth_of u v (an_address e null) = record { holds = false; is = refl; one = λ e w. absurd (cc); alt = λ e. refl }
  truth_of u v (an_address e (to o k h)) =
      let low = object_address p built s o k h in
      record { holds = true; is = refl; one = λ e w. omega (arith, low); alt = λ e. absurd (cc) }
  truth_of u v (a_name g e no_function) = record { holds = false; is = refl; one = λ e w. absurd (cc); alt = λ e. refl }
  truth_of u v (a_name g e (to_function f h)) = record { holds = true; is = refl; one = λ e w. omega arith; alt = λ e. absurd (cc) }

  -- a conversion to an integer type
  int_case : (u : ℕ) (kind : IntKind) (z : ℤ) (rest : List ℕ) → slice_get p.types.types u ≡ Some (T.Int kind) → IsWord z → Matches u rest (Ok (Int (wrapped kind z))) (run (normal (Some (T.Int kind))) (of_signed z ∷ rest))
  int_case u kind z rest e h =
      subst (Matches u rest (Ok (Int (wrapped kind z)))) (sym (run_normal kind (of_signed z) rest)) (typed_int p built s u kind (wrapped kind z) e (wrapped_held kind z), ap (λ w. w ∷ rest) (cut_is kind z h))

  pub int_matches : (u : ℕ) (kind : IntKind) (z : ℤ) (rest : List ℕ) → slice_get p.types.types u ≡ Some (T.Int kind) → IsWord z → Matches u rest (Ok (Int (wrapped kind z))) (run (normal (ty p.types u)) (of_signed z ∷ rest))
  int_matches u kind z rest e h =
      subst (λ o. Matches u rest (Ok (Int (wrapped kind z))) (run (normal o) (of_signed z ∷ rest))) (sym e) (int_case u kind z rest e h)

  module _ (u a : ℕ) (v : Value) (rest : List ℕ) (h : Typed p built s a v) where
    abbrev Converts : Option Ty → Type 0
    Converts o = Matches u rest (converted_to o v) (run (normal o) (word v ∷ rest))

    to_int : (from kind : IntKind) → slice_get p.types.types u ≡ Some (T.Int kind) → AnInt p built s from v → Converts (Some (T.Int kind))
    to_int from kind e i =
        subst (λ v. Matches u rest (converted_to (Some (T.Int kind)) v) (run (normal (Some (T.Int kind))) (word v ∷ rest))) (sym i.is) (int_case u kind i.number rest e (held_word from i.number i.held))

    pointer_to : (v : Value) (w : ℕ) → slice_get p.types.types u ≡ Some (T.Pointer w) → APointer p built s v → Matches u rest (converted_to (Some (T.Pointer w)) v) (run [] (word v ∷ rest))
    pointer_to v w e null = (typed_pointer p built s u w Null e null, refl)
    pointer_to v w e (to o k q) = (typed_pointer p built s u w (Pointer o k) e (to o k q), refl)

    void_to : (v : Value) → slice_get p.types.types u ≡ Some T.VoidPointer → APointer p built s v → Matches u rest (converted_to (Some T.VoidPointer) v) (run [] (word v ∷ rest))
    void_to v e null = (typed_void p built s u Null e null, refl)
    void_to v e (to o k q) = (typed_void p built s u (Pointer o k) e (to o k q), refl)

    name_to : (v : Value) (g : ℕ) → slice_get p.types.types u ≡ Some (T.Function g) → AFunction p built s g v → Matches u rest (converted_to (Some (T.Function g)) v) (run [] (word v ∷ rest))
    name_to v g e no_function = (typed_function p built s u g Null e no_function, refl)
    name_to v g e (to_function f q) = (typed_function p built s u g (Function f) e (to_function f q), refl)

    cast_case : (oa ou : Option Ty) → slice_get p.types.types a ≡ oa → slice_get p.types.types u ≡ ou → casts oa ou ≡ true → Converts ou
    cast_case (Some (T.Int j)) (Some (T.Int k)) ea eu c = to_int j k eu (an_int p built s a j v ea h)
    cast_case (Some (T.Pointer w)) (Some T.VoidPointer) ea eu c = void_to v eu (a_pointer p built s a w v ea h)
    cast_case (Some T.VoidPointer) (Some (T.Pointer w)) ea eu c = pointer_to v w eu (a_void_pointer p built s a v ea h)
    cast_case _ _ ea eu c = absurd (cc)

    convert_case : (oa ou : Option Ty) → slice_get p.types.types a ≡ oa → slice_get p.types.types u ≡ ou → converts oa ou ≡ true → Converts ou
    convert_case (Some (T.Int j)) (Some (T.Int k)) ea eu c = to_int j k eu (an_int p built s a j v ea h)
    convert_case (Some (T.Pointer w)) (Some (T.Pointer x)) ea eu c = pointer_to v x eu (a_pointer p built s a w v ea h)
    convert_case (Some (T.Pointer w)) (Some T.VoidPointer) ea eu c = void_to v eu (a_pointer p built s a w v ea h)
    convert_case (Some T.VoidPointer) (Some (T.Pointer w)) ea eu c = pointer_to v w eu (a_void_pointer p built s a v ea h)
    convert_case (Some T.VoidPointer) (Some T.VoidPointer) ea eu c = void_to v eu (a_void_pointer p built s a v ea h)
    convert_case (Some (T.Function g)) (Some (T.Function k)) ea eu c =
        let same : g ≡ k = grind (arith, nat_tests, c) in
        name_to v k eu (subst (λ g. AFunction p built s g v) same (a_function p built s a g v ea h))
    convert_case _ _ ea eu c = absurd (cc)

  pub cast_matches : (u a : ℕ) (v : Value) (rest : List ℕ) → Typed p built s a v → cast_fits p.types u a ≡ true → Matches u rest (converted p.types u v) (run (normal (ty p.types u)) (word v ∷ rest))
  cast_matches u a v rest h c =
      cast_case u a v rest h (slice_get p.types.types a) (slice_get p.types.types u) refl refl (and_left (casts (ty p.types a) (ty p.types u)) (is_named p.types u) c)

  pub convert_matches : (u a : ℕ) (v : Value) (rest : List ℕ) → Typed p built s a v → converts (ty p.types a) (ty p.types u) ≡ true → Matches u rest (converted p.types u v) (run (normal (ty p.types u)) (word v ∷ rest))
  convert_matches u a v rest h c = convert_case u a v rest h (slice_get p.types.types a) (slice_get p.types.types u) refl refl c

  -- the int 0 as a pointer
  pub zero_matches : (u : ℕ) (rest : List ℕ) → is_pointer (ty p.types u) ≡ true → Matches u rest (converted p.types u (Int (pos 0))) (run (normal (ty p.types u)) (0 ∷ rest))
  zero_matches u rest h = by (slice_get p.types.types u) refl h
    where
      by : (o : Option Ty) → slice_get p.types.types u ≡ o → is_pointer o ≡ true → Matches u rest (converted_to o (Int (pos 0))) (run (normal o) (0 ∷ rest))
      by (Some (T.Pointer w)) e h = (typed_pointer p built s u w Null e null, refl)
      by (Some T.VoidPointer) e h = (typed_void p built s u Null e null, refl)
      by (Some (T.Function g)) e h = (typed_function p built s u g Null e no_function, refl)
      by (Some (T.Int kind)) e h = absurd (cc)
      by (Some (T.Struct k)) e h = absurd (cc)
      by (Some (T.Union k)) e h = absurd (cc)
      by (Some (T.Array w n)) e h = absurd (cc)
      by None e h = absurd (cc)

  casts_scalar : (a b : Option Ty) → casts a b ≡ true → is_scalar a ≡ true
  casts_scalar (Some (T.Int j)) b h = refl
  casts_scalar (Some (T.Pointer w)) b h = refl
  casts_scalar (Some T.VoidPointer) b h = refl
  casts_scalar _ _ h = absurd (cc)

  pub cast_scalar : (u a : ℕ) → cast_fits p.types u a ≡ true → is_scalar (slice_get p.types.types a) ≡ true
  cast_scalar u a h = casts_scalar (ty p.types a) (ty p.types u) (and_left (casts (ty p.types a) (ty p.types u)) (is_named p.types u) h)

  pub converts_scalar : (a b : Option Ty) → converts a b ≡ true → is_scalar a ≡ true
  converts_scalar (Some (T.Int j)) b h = refl
  converts_scalar (Some (T.Pointer w)) b h = refl
  converts_scalar (Some T.VoidPointer) b h = refl
  converts_scalar (Some (T.Function g)) b h = refl
  converts_scalar _ _ h = absurd (cc)

  -- numbers and names
  number_held : (kind : IntKind) (z : ℤ) → is_below z (number_limit kind) ≡ true → is_held kind z ≡ true
  number_held K.Int (pos n) h = grind (arith, nat_tests, h)
  number_held K.UInt (pos n) h = grind (arith, nat_tests, h)
  number_held K.LongLong (pos n) h = grind (arith, nat_tests, h)
  number_held K.ULongLong (pos n) h = grind (arith, nat_tests, h)
  number_held K.Char (pos n) h = grind (arith, nat_tests, h)
  number_held K.UChar (pos n) h = grind (arith, nat_tests, h)
  number_held K.Short (pos n) h = grind (arith, nat_tests, h)
  number_held K.UShort (pos n) h = grind (arith, nat_tests, h)
  number_held kind (negsuc n) h = absurd (cc)

  -- the word of a number that stands in the text
  pub number_word : (u : ℕ) (z : ℤ) → is_number (ty p.types u) z ≡ true → piece.word_of z ≡ word (Int z)
  number_word u z h = by (slice_get p.types.types u) h
    where
      of_kind : (kind : IntKind) (z : ℤ) → is_below z (number_limit kind) ≡ true → piece.word_of z ≡ word (Int z)
      of_kind kind (pos n) h = word_of_number n (held_word kind (pos n) (number_held kind (pos n) h))
      of_kind kind (negsuc n) h = absurd (cc)

      by : (o : Option Ty) → is_number o z ≡ true → piece.word_of z ≡ word (Int z)
      by (Some (T.Int kind)) h = of_kind kind z h
      by _ h = absurd (cc)

  pub number_typed : (u : ℕ) (z : ℤ) → is_number (ty p.types u) z ≡ true → Typed p built s u (Int z)
  number_typed u z h = by (slice_get p.types.types u) refl h
    where
      by : (o : Option Ty) → slice_get p.types.types u ≡ o → is_number o z ≡ true → Typed p built s u (Int z)
      by (Some (T.Int kind)) e h = typed_int p built s u kind z e (number_held kind z h)
      by _ e h = absurd (cc)

  pub name_typed : (u g : ℕ) → is_function_name p (ty p.types u) g ≡ true → Typed p built s u (Function g)
  name_typed u g h = by (slice_get p.types.types u) refl h
    where
      by : (o : Option Ty) → slice_get p.types.types u ≡ o → is_function_name p o g ≡ true → Typed p built s u (Function g)
      by (Some (T.Function k)) e h = typed_function p built s u k (Function g) e (to_function g h)
      by _ e h = absurd (cc)

  eq_of : (a b : ℕ) → nat_eq a b ≡ true → a ≡ b
  eq_of a b h = grind (arith, nat_tests, h)

  pub local_known : (d : Declarations) (x u : ℕ) → option_map_or (nat_eq u) (local_type d x) false ≡ true → local_type d x ≡ Some u
  local_known d x u h = by (local_type d x) h
    where
      by : (o : Option ℕ) → option_map_or (nat_eq u) o false ≡ true → o ≡ Some u
      by None h = absurd (cc)
      by (Some w) h = ap Some (sym (eq_of u w h))

  pub chosen_is : (c a b : Gives Value) → then_do c (λ v. chosen (is_true v) a b) ≡ chosen (then_do c is_true) a b
  chosen_is (Ok v) a b = refl
  chosen_is (Err t) a b = refl

  -- what a conditional's operands are
  pub record IsChoice (u c a b : ℕ) : Type 0 where
    pub test : is_scalar (slice_get p.types.types c) ≡ true
    pub one : a ≡ u
    pub other : b ≡ u

  pub conditional_parts : (u c a b : ℕ) → conditional_fits p.types u c a b ≡ true → IsChoice u c a b
  conditional_parts u c a b h =
      let rest = and_right (is_scalar (ty p.types c)) (nat_eq a u && (nat_eq b u && is_comparable (ty p.types u))) h in
      record {
        test = and_left (is_scalar (ty p.types c)) (nat_eq a u && (nat_eq b u && is_comparable (ty p.types u))) h;
        one = eq_of a u (and_left (nat_eq a u) (nat_eq b u && is_comparable (ty p.types u)) rest);
        other = eq_of b u (and_left (nat_eq b u) (is_comparable (ty p.types u)) (and_right (nat_eq a u) (nat_eq b u && is_comparable (ty p.types u)) rest));
      }

  promoted_scalar : (o : Option Ty) → is_promoted o ≡ true → is_scalar o ≡ true
  promoted_scalar (Some (T.Int kind)) h = refl
  promoted_scalar _ h = absurd (cc)

  ordered_scalar : (o : Option Ty) → is_ordered o ≡ true → is_scalar o ≡ true
  ordered_scalar (Some (T.Int kind)) h = refl
  ordered_scalar (Some (T.Pointer w)) h = refl
  ordered_scalar (Some T.VoidPointer) h = refl
  ordered_scalar _ h = absurd (cc)

  comparable_scalar : (o : Option Ty) → is_comparable o ≡ true → is_scalar o ≡ true
  comparable_scalar (Some (T.Int kind)) h = refl
  comparable_scalar (Some (T.Pointer w)) h = refl
  comparable_scalar (Some T.VoidPointer) h = refl
  comparable_scalar (Some (T.Function g)) h = refl
  comparable_scalar _ h = absurd (cc)

  pointer_scalar : (o : Option Ty) → is_object_pointer o ≡ true → is_scalar o ≡ true
  pointer_scalar (Some (T.Pointer w)) h = refl
  pointer_scalar _ h = absurd (cc)

  long_scalar : (o : Option Ty) → is_long_long o ≡ true → is_scalar o ≡ true
  long_scalar (Some (T.Int kind)) h = refl
  long_scalar _ h = absurd (cc)

  abbrev Scalars : ℕ → ℕ → Type 0
  Scalars a b = (is_scalar (ty p.types a) ≡ true) × (is_scalar (ty p.types b) ≡ true)

  arithmetic_scalars : (u a b : ℕ) → arithmetic_fits p.types u a b ≡ true → Scalars a b
  arithmetic_scalars u a b h =
      let sc = promoted_scalar (ty p.types u) (and_left (is_promoted (ty p.types u)) (nat_eq a u && nat_eq b u) h) in
      let rest = and_right (is_promoted (ty p.types u)) (nat_eq a u && nat_eq b u) h in
      let ea = eq_of a u (and_left (nat_eq a u) (nat_eq b u) rest) in
      let eb = eq_of b u (and_right (nat_eq a u) (nat_eq b u) rest) in
      (subst (λ w. is_scalar (ty p.types w) ≡ true) (sym ea) sc, subst (λ w. is_scalar (ty p.types w) ≡ true) (sym eb) sc)

  shift_scalars : (u a b : ℕ) → shift_fits p.types u a b ≡ true → Scalars a b
  shift_scalars u a b h =
      let sc = promoted_scalar (ty p.types u) (and_left (is_promoted (ty p.types u)) (nat_eq a u && is_promoted (ty p.types b)) h) in
      let rest = and_right (is_promoted (ty p.types u)) (nat_eq a u && is_promoted (ty p.types b)) h in
      let ea = eq_of a u (and_left (nat_eq a u) (is_promoted (ty p.types b)) rest) in
      (subst (λ w. is_scalar (ty p.types w) ≡ true) (sym ea) sc, promoted_scalar (ty p.types b) (and_right (nat_eq a u) (is_promoted (ty p.types b)) rest))

  order_scalars : (u a b : ℕ) → order_fits p.types u a b ≡ true → Scalars a b
  order_scalars u a b h =
      let rest = and_right (is_int (ty p.types u)) (nat_eq a b && is_ordered (ty p.types a)) h in
      let e = eq_of a b (and_left (nat_eq a b) (is_ordered (ty p.types a)) rest) in
      let sc = ordered_scalar (ty p.types a) (and_right (nat_eq a b) (is_ordered (ty p.types a)) rest) in
      (sc, subst (λ w. is_scalar (ty p.types w) ≡ true) e sc)

  equality_scalars : (u a b : ℕ) → equality_fits p.types u a b ≡ true → Scalars a b
  equality_scalars u a b h =
      let rest = and_right (is_int (ty p.types u)) (nat_eq a b && is_comparable (ty p.types a)) h in
      let e = eq_of a b (and_left (nat_eq a b) (is_comparable (ty p.types a)) rest) in
      let sc = comparable_scalar (ty p.types a) (and_right (nat_eq a b) (is_comparable (ty p.types a)) rest) in
      (sc, subst (λ w. is_scalar (ty p.types w) ≡ true) e sc)

  move_scalars : (u a b : ℕ) → move_fits p.types u a b ≡ true → Scalars a b
  move_scalars u a b h =
      let sc = pointer_scalar (ty p.types u) (and_left (is_object_pointer (ty p.types u)) (nat_eq a u && is_long_long (ty p.types b)) h) in
      let rest = and_right (is_object_pointer (ty p.types u)) (nat_eq a u && is_long_long (ty p.types b)) h in
      let ea = eq_of a u (and_left (nat_eq a u) (is_long_long (ty p.types b)) rest) in
      (subst (λ w. is_scalar (ty p.types w) ≡ true) (sym ea) sc, long_scalar (ty p.types b) (and_right (nat_eq a u) (is_long_long (ty p.types b)) rest))

  difference_scalars : (u a b : ℕ) → difference_fits p.types u a b ≡ true → Scalars a b
  difference_scalars u a b h =
      let rest = and_right (is_int (ty p.types u)) (nat_eq a b && is_object_pointer (ty p.types a)) h in
      let e = eq_of a b (and_left (nat_eq a b) (is_object_pointer (ty p.types a)) rest) in
      let sc = pointer_scalar (ty p.types a) (and_right (nat_eq a b) (is_object_pointer (ty p.types a)) rest) in
      (sc, subst (λ w. is_scalar (ty p.types w) ≡ true) e sc)

  -- both operands of an operator are scalars
  pub binary_scalars : (u a b : ℕ) (op : BinaryOperator) → binary_fits p.types u op a b ≡ true → Scalars a b
  binary_scalars u a b O.Add h = arithmetic_scalars u a b h
  binary_scalars u a b O.Subtract h = arithmetic_scalars u a b h
  binary_scalars u a b O.Multiply h = arithmetic_scalars u a b h
  binary_scalars u a b O.Divide h = arithmetic_scalars u a b h
  binary_scalars u a b O.Remainder h = arithmetic_scalars u a b h
  binary_scalars u a b O.BitAnd h = arithmetic_scalars u a b h
  binary_scalars u a b O.BitXor h = arithmetic_scalars u a b h
  binary_scalars u a b O.BitOr h = arithmetic_scalars u a b h
  binary_scalars u a b O.ShiftLeft h = shift_scalars u a b h
  binary_scalars u a b O.ShiftRight h = shift_scalars u a b h
  binary_scalars u a b O.Less h = order_scalars u a b h
  binary_scalars u a b O.LessEqual h = order_scalars u a b h
  binary_scalars u a b O.Greater h = order_scalars u a b h
  binary_scalars u a b O.GreaterEqual h = order_scalars u a b h
  binary_scalars u a b O.Equal h = equality_scalars u a b h
  binary_scalars u a b O.NotEqual h = equality_scalars u a b h
  binary_scalars u a b O.PointerAdd h = move_scalars u a b h
  binary_scalars u a b O.AddPointer h = let both = move_scalars u b a h in (both.1, both.0)
  binary_scalars u a b O.PointerSubtract h = move_scalars u a b h
  binary_scalars u a b O.PointerDifference h = difference_scalars u a b h

  -- a conversion that fits: of the literal 0 to a pointer, or without a cast
  pub zero_or_converts : (u a : ℕ) (zero_literal : Bool) → convert_fits p.types u a zero_literal ≡ true → (is_pointer (ty p.types u) && zero_literal ≡ true) ⊎ (converts (ty p.types a) (ty p.types u) ≡ true)
  zero_or_converts u a z h = by (converts (ty p.types a) (ty p.types u)) refl h
    where
      by : (b : Bool) → converts (ty p.types a) (ty p.types u) ≡ b → b || (is_pointer (ty p.types u) && z) ≡ true → (is_pointer (ty p.types u) && z ≡ true) ⊎ (converts (ty p.types a) (ty p.types u) ≡ true)
      by true e h = inr e
      by false e h = inl h

  zero_scalar : (a : ℕ) (kind : ExprKind) → is_zero_literal p.types a kind ≡ true → is_scalar (ty p.types a) ≡ true
  zero_scalar a (Number z) h = promoted_scalar (ty p.types a) (by (slice_get p.types.types a) (and_left (is_int (ty p.types a)) (is_zero z) h))
    where
      by : (o : Option Ty) → is_int o ≡ true → is_promoted o ≡ true
      by (Some (T.Int K.Int)) h = refl
      by _ h = absurd (cc)
  zero_scalar a _ h = absurd (cc)

  pub converts_or_zero_scalar : (u a : ℕ) (kind : ExprKind) → (is_pointer (ty p.types u) && is_zero_literal p.types a kind ≡ true) ⊎ (converts (ty p.types a) (ty p.types u) ≡ true) → is_scalar (slice_get p.types.types a) ≡ true
  converts_or_zero_scalar u a kind (inl z) = zero_scalar a kind (and_right (is_pointer (ty p.types u)) (is_zero_literal p.types a kind) z)
  converts_or_zero_scalar u a kind (inr c) = converts_scalar (ty p.types a) (ty p.types u) c

  -- the literal 0 gives 0
  pub zero_value : (scope : Scope) → scope.types ≡ p.types → (a : ℕ) (kind : ExprKind) → is_zero_literal p.types a kind ≡ true → (v : Value) → value_of scope a kind ≡ Ok v → Int (pos 0) ≡ v
  zero_value scope same a (Number z) h v e = zero_number z (and_right (is_int (ty p.types a)) (is_zero z) h) e
    where
      zero_number : (z : ℤ) → is_zero z ≡ true → ◌≡◌ {A = Gives Value} (Ok (Int z)) (Ok v) → Int (pos 0) ≡ v
      zero_number (pos zero) h e = cc
      zero_number (pos (suc n)) h e = absurd (cc)
      zero_number (negsuc n) h e = absurd (cc)
  zero_value scope same a _ h v e = absurd (cc)

  -- an integer of a promoted type, as the type of the node says
  pub record Promoted (u : ℕ) : Type 0 where
    pub kind : IntKind
    pub is : slice_get p.types.types u ≡ Some (T.Int kind)

  pub promoted : (u : ℕ) → is_promoted (ty p.types u) ≡ true → Promoted u
  promoted u h = by (slice_get p.types.types u) refl h
    where
      by : (o : Option Ty) → slice_get p.types.types u ≡ o → is_promoted o ≡ true → Promoted u
      by (Some (T.Int kind)) e h = record { kind = kind; is = e }
      by _ e h = absurd (cc)

  -- a word that is cut to a number's
  pub cut_matches : (u : ℕ) (kind : IntKind) (z : ℤ) (c : ℕ) (rest : List ℕ) → slice_get p.types.types u ≡ Some (T.Int kind) → is_held kind z ≡ true → extended kind c ≡ of_signed z → Matches u rest (Ok (Int z)) (run (normal (Some (T.Int kind))) (c ∷ rest))
  cut_matches u kind z c rest e h q =
      subst (Matches u rest (Ok (Int z))) (sym (run_normal kind c rest)) (typed_int p built s u kind z e h, ap (λ w. w ∷ rest) q)

  flag_held : (b : Bool) → is_held K.Int (flag b) ≡ true
  flag_held true = refl
  flag_held false = refl

  -- 0 or 1, an int
  pub int_kind : (u : ℕ) → is_int (ty p.types u) ≡ true → slice_get p.types.types u ≡ Some (T.Int K.Int)
  int_kind u h = by (slice_get p.types.types u) h
    where
      by : (o : Option Ty) → is_int o ≡ true → o ≡ Some (T.Int K.Int)
      by (Some (T.Int K.Int)) h = refl
      by _ h = absurd (cc)

  pub flag_matches : (u : ℕ) (b : Bool) (c : ℕ) (rest : List ℕ) → is_int (ty p.types u) ≡ true → c ≡ of_signed (flag b) → Matches u rest (Ok (Int (flag b))) (Ok (c ∷ rest))
  flag_matches u b c rest h q = (typed_int p built s u K.Int (flag b) (int_kind u h) (flag_held b), ap (λ w. w ∷ rest) q)

  not_word : (v : Value) (t : Truth v) → cond (nat_eq (word v) 0) 1 0 ≡ of_signed (flag (not t.holds))
  not_word v t = by t.holds t.one t.alt
    where
      by : (b : Bool) → (b ≡ true → word v ≡ 0 → ⊥) → (b ≡ false → word v ≡ 0) → cond (nat_eq (word v) 0) 1 0 ≡ of_signed (flag (not b))
      by true one alt = ap (λ b. cond b 1 0) (eq_false (word v) (one refl))
      by false one alt = ap (λ n. cond (nat_eq n 0) 1 0) (alt refl)

  -- the operand of a unary operator, with what stands below it
  abbrev pub below : UnaryOperator → List ℕ → List ℕ
  below Minus rest = 0 ∷ rest
  below Complement rest = 18446744073709551615 ∷ rest
  below Not rest = rest

  minus_case : (u : ℕ) (kind : IntKind) (c : ℕ) (d z : ℤ) (rest : List ℕ) → slice_get p.types.types u ≡ Some (T.Int kind) → IsWord z → c < 2 ^ 64 → signed c ≡ int_wrap w64 d → Matches u rest (Ok (Int (wrapped kind (d -ℤ z)))) (run (arithmetic (Some (T.Int kind)) (λ k. I.Subtract)) (of_signed z ∷ c ∷ rest))
  minus_case u kind c d z rest e h low q =
      cut_matches u kind (wrapped kind (d -ℤ z)) (Rattle.bm_alu.specs.Words.word (c + (2 ^ 64 - of_signed z))) rest e (wrapped_held kind (d -ℤ z)) (difference_is kind c (of_signed z) d z low (word_below z h) q (signed_word z h))

  zero_minus : (z : ℤ) → pos 0 -ℤ z ≡ neg_ℤ z
  zero_minus (pos zero) = refl
  zero_minus (pos (suc n)) = omega (arith, ints)
  zero_minus (negsuc n) = omega (arith, ints)

  pub unary_matches : (u a : ℕ) (op : UnaryOperator) (v : Value) (rest : List ℕ) → Typed p built s a v → unary_fits p.types u op a ≡ true → Matches u rest (unary p.types u op v) (run (unary_last (ty p.types u) op) (word v ∷ below op rest))
  unary_matches u a Not v rest h fits =
      let t = truth_of a v (a_scalar a v (and_right (is_int (ty p.types u)) (is_scalar (ty p.types a)) fits) h) in
      subst (λ r. Matches u rest (then_do (then_do r (λ b. Ok (not b))) (λ b. Ok (Int (flag b)))) (run (unary_last (ty p.types u) Not) (word v ∷ rest))) (sym t.is) (flag_matches u (not t.holds) (cond (nat_eq (word v) 0) 1 0) rest (and_left (is_int (ty p.types u)) (is_scalar (ty p.types a)) fits) (not_word v t))
  unary_matches u a Minus v rest h fits =
      let k = promoted u (and_left (is_promoted (ty p.types u)) (nat_eq a u) fits) in
      let same = eq_of a u (and_right (is_promoted (ty p.types u)) (nat_eq a u) fits) in
      let i = an_int p built s u k.kind v k.is (subst (λ w. Typed p built s w v) same h) in
      let word_i = held_word k.kind i.number i.held in
      let at_int : Matches u rest (Ok (Int (wrapped k.kind (neg_ℤ i.number)))) (run (arithmetic (Some (T.Int k.kind)) (λ k. I.Subtract)) (of_signed i.number ∷ 0 ∷ rest)) = subst (λ z. Matches u rest (Ok (Int (wrapped k.kind z))) (run (arithmetic (Some (T.Int k.kind)) (λ k. I.Subtract)) (of_signed i.number ∷ 0 ∷ rest))) (zero_minus i.number) (minus_case u k.kind 0 (pos 0) i.number rest k.is word_i (lit< tt) (signed_word (pos 0) (lit< tt))) in
      subst (λ v. Matches u rest (unary p.types u Minus v) (run (unary_last (ty p.types u) Minus) (word v ∷ 0 ∷ rest))) (sym i.is) (subst (λ o. Matches u rest (then_do (or_trap BadCode (kind_in o)) (λ kind. Ok (Int (wrapped kind (neg_ℤ i.number))))) (run (unary_last o Minus) (of_signed i.number ∷ 0 ∷ rest))) (sym k.is) at_int)
  unary_matches u a Complement v rest h fits =
      let k = promoted u (and_left (is_promoted (ty p.types u)) (nat_eq a u) fits) in
      let same = eq_of a u (and_right (is_promoted (ty p.types u)) (nat_eq a u) fits) in
      let i = an_int p built s u k.kind v k.is (subst (λ w. Typed p built s w v) same h) in
      let word_i = held_word k.kind i.number i.held in
      let at_int : Matches u rest (Ok (Int (wrapped k.kind (negsuc 0 -ℤ i.number)))) (run (arithmetic (Some (T.Int k.kind)) (λ k. I.Subtract)) (of_signed i.number ∷ 18446744073709551615 ∷ rest)) = minus_case u k.kind 18446744073709551615 (negsuc 0) i.number rest k.is word_i (lit< tt) (signed_word (negsuc 0) (lit< tt)) in
      subst (λ v. Matches u rest (unary p.types u Complement v) (run (unary_last (ty p.types u) Complement) (word v ∷ 18446744073709551615 ∷ rest))) (sym i.is) (subst (λ o. Matches u rest (then_do (or_trap BadCode (kind_in o)) (λ kind. Ok (Int (wrapped kind (negsuc 0 -ℤ i.number))))) (run (unary_last o Complement) (of_signed i.number ∷ 18446744073709551615 ∷ rest))) (sym k.is) at_int)

  pub unary_scalar : (u a : ℕ) (op : UnaryOperator) → unary_fits p.types u op a ≡ true → is_scalar (slice_get p.types.types a) ≡ true
  unary_scalar u a Not h = and_right (is_int (ty p.types u)) (is_scalar (ty p.types a)) h
  unary_scalar u a Minus h =
      subst (λ w. is_scalar (ty p.types w) ≡ true) (sym (eq_of a u (and_right (is_promoted (ty p.types u)) (nat_eq a u) h))) (promoted_scalar (ty p.types u) (and_left (is_promoted (ty p.types u)) (nat_eq a u) h))
  unary_scalar u a Complement h =
      subst (λ w. is_scalar (ty p.types w) ≡ true) (sym (eq_of a u (and_right (is_promoted (ty p.types u)) (nat_eq a u) h))) (promoted_scalar (ty p.types u) (and_left (is_promoted (ty p.types u)) (nat_eq a u) h))

  -- 0 or 1 as a value
  pub flag_truth : (b : Bool) → Truth (Int (flag b))
  flag_truth b = record { holds = b; is = is_flag b; one = some b; alt = none b }
    where
      is_flag : (b : Bool) → is_true (Int (flag b)) ≡ Ok b
      is_flag true = refl
      is_flag false = refl

      some : (b : Bool) → b ≡ true → word (Int (flag b)) ≡ 0 → ⊥
      some true e w = absurd (omega arith)
      some false e w = absurd (cc)

      none : (b : Bool) → b ≡ false → word (Int (flag b)) ≡ 0
      none true e = absurd (cc)
      none false e = refl

  -- what the left operand of a logical operator becomes, and whether the right one counts
  pub goes_on : LogicalOperator → Bool → Bool
  goes_on And b = b
  goes_on Or b = not b

  pub turned : LogicalOperator → (v : Value) → Truth v → Value
  turned And v t = v
  turned Or v t = Int (flag (not t.holds))

  pub turned_truth : (op : LogicalOperator) (v : Value) (t : Truth v) → (q : Truth (turned op v t)) × (q.holds ≡ goes_on op t.holds)
  unfolding goes_on turned flag_truth
  turned_truth And v t = (t, refl)
  turned_truth Or v t = (flag_truth (not t.holds), refl)

  pub first_matches : (op : LogicalOperator) (v : Value) (t : Truth v) (rest : List ℕ) → run (logical_first op) (word v ∷ rest) ≡ Ok (word (turned op v t) ∷ rest)
  unfolding turned
  first_matches And v t rest = refl
  first_matches Or v t rest = ap (λ w. Ok (w ∷ rest)) (not_word v t)

  pub logical_is : (op : LogicalOperator) (a : Gives Value) (b : Gives Bool) → flagged (logical op (then_do a is_true) b) ≡ then_do a (λ v. flagged (logical op (is_true v) b))
  logical_is And (Ok v) b = refl
  logical_is And (Err t) b = refl
  logical_is Or (Ok v) b = refl
  logical_is Or (Err t) b = refl

  pub decided_is : (op : LogicalOperator) (x : Bool) (b : Gives Bool) → cond (goes_on op x) (flagged b) (Ok (Int (pos (decided_value op)))) ≡ flagged (logical op (Ok x) b)
  unfolding goes_on
  decided_is And true b = refl
  decided_is And false b = refl
  decided_is Or true b = refl
  decided_is Or false b = refl

  pub flagged_is : (b : Gives Value) → flagged (then_do b is_true) ≡ then_do b (λ v. flagged (is_true v))
  flagged_is (Ok v) = refl
  flagged_is (Err t) = refl

  twice_not : (b : Bool) → cond (nat_eq (of_signed (flag (not b))) 0) 1 0 ≡ of_signed (flag b)
  twice_not true = refl
  twice_not false = refl

  pub flagged_matches : (u : ℕ) (v : Value) (t : Truth v) (rest : List ℕ) → is_int (ty p.types u) ≡ true → Matches u rest (flagged (is_true v)) (run piece.as_flag (word v ∷ rest))
  flagged_matches u v t rest h =
      subst (λ r. Matches u rest (flagged r) (run piece.as_flag (word v ∷ rest))) (sym t.is) (flag_matches u t.holds (cond (nat_eq (cond (nat_eq (word v) 0) 1 0) 0) 1 0) rest h (ap (λ w. cond (nat_eq w 0) 1 0) (not_word v t) ∙ twice_not t.holds))

  pub decided_typed : (u : ℕ) (op : LogicalOperator) → is_int (ty p.types u) ≡ true → Typed p built s u (Int (pos (decided_value op)))
  decided_typed u And h = typed_int p built s u K.Int (pos 0) (int_kind u h) refl
  decided_typed u Or h = typed_int p built s u K.Int (pos 1) (int_kind u h) refl

  -- operators on two integers of one promoted type
  abbrev on_two : Option Ty → (IntKind → ℤ → ℤ → Gives ℤ) → ℤ → ℤ → Gives Value
  on_two o f a b = then_do (or_trap BadCode (kind_in o)) (λ kind. then_do (f kind a b) (λ z. Ok (Int z)))

  module _ (u a b : ℕ) (fits : arithmetic_fits p.types u a b ≡ true) (v w : Value) (hv : Typed p built s a v) (hw : Typed p built s b w) (rest : List ℕ) where
    node : Promoted u
    node = promoted u (and_left (is_promoted (ty p.types u)) (nat_eq a u && nat_eq b u) fits)

    one_type : a ≡ u
    one_type = eq_of a u (and_left (nat_eq a u) (nat_eq b u) (and_right (is_promoted (ty p.types u)) (nat_eq a u && nat_eq b u) fits))

    other_type : b ≡ u
    other_type = eq_of b u (and_right (nat_eq a u) (nat_eq b u) (and_right (is_promoted (ty p.types u)) (nat_eq a u && nat_eq b u) fits))

    -- it is enough to look at numbers of the node's type
    by_numbers : (f : IntKind → ℤ → ℤ → Gives ℤ) (i : IntKind → Instr) → ((kind : IntKind) → slice_get p.types.types u ≡ Some (T.Int kind) → (x y : ℤ) → is_held kind x ≡ true → is_held kind y ≡ true → Matches u rest (then_do (f kind x y) (λ z. Ok (Int z))) (run (i kind ∷ normal (Some (T.Int kind))) (of_signed y ∷ of_signed x ∷ rest))) → Matches u rest (on_ints p.types u v w f) (run (arithmetic (ty p.types u) i) (word w ∷ word v ∷ rest))
    by_numbers f i case =
        let k = node in
        let x = an_int p built s u k.kind v k.is (subst (λ t. Typed p built s t v) one_type hv) in
        let y = an_int p built s u k.kind w k.is (subst (λ t. Typed p built s t w) other_type hw) in
        subst (λ v. Matches u rest (on_ints p.types u v w f) (run (arithmetic (ty p.types u) i) (word w ∷ word v ∷ rest))) (sym x.is) (subst (λ w. Matches u rest (on_ints p.types u (Int x.number) w f) (run (arithmetic (ty p.types u) i) (word w ∷ of_signed x.number ∷ rest))) (sym y.is) (subst (λ o. Matches u rest (on_two o f x.number y.number) (run (arithmetic o i) (of_signed y.number ∷ of_signed x.number ∷ rest))) (sym k.is) (case k.kind k.is x.number y.number x.held y.held)))

    pub add_matches : Matches u rest (binary p.types s u a O.Add v w) (run (binary_last p.types u a O.Add) (word w ∷ word v ∷ rest))
    add_matches =
        by_numbers (λ kind x y. Ok (wrapped kind (x +ℤ y))) (λ kind. I.Add) (λ kind e x y hx hy.
        let wx = held_word kind x hx in
        let wy = held_word kind y hy in
        cut_matches u kind (wrapped kind (x +ℤ y)) (Rattle.bm_alu.specs.Words.word (of_signed x + of_signed y)) rest e (wrapped_held kind (x +ℤ y)) (sum_is kind (of_signed x) (of_signed y) x y (word_below x wx) (word_below y wy) (signed_word x wx) (signed_word y wy)))

    pub subtract_matches : Matches u rest (binary p.types s u a O.Subtract v w) (run (binary_last p.types u a O.Subtract) (word w ∷ word v ∷ rest))
    subtract_matches =
        by_numbers (λ kind x y. Ok (wrapped kind (x -ℤ y))) (λ kind. I.Subtract) (λ kind e x y hx hy.
        let wx = held_word kind x hx in
        let wy = held_word kind y hy in
        cut_matches u kind (wrapped kind (x -ℤ y)) (Rattle.bm_alu.specs.Words.word (of_signed x + (2 ^ 64 - of_signed y))) rest e (wrapped_held kind (x -ℤ y)) (difference_is kind (of_signed x) (of_signed y) x y (word_below x wx) (word_below y wy) (signed_word x wx) (signed_word y wy)))

    pub multiply_matches : Matches u rest (binary p.types s u a O.Multiply v w) (run (binary_last p.types u a O.Multiply) (word w ∷ word v ∷ rest))
    multiply_matches =
        by_numbers (λ kind x y. Ok (wrapped kind (x *ℤ y))) (λ kind. I.Multiply) (λ kind e x y hx hy.
        let wx = held_word kind x hx in
        let wy = held_word kind y hy in
        cut_matches u kind (wrapped kind (x *ℤ y)) (Rattle.bm_alu.specs.Words.word (of_signed x * of_signed y)) rest e (wrapped_held kind (x *ℤ y)) (product_is kind (of_signed x) (of_signed y) x y (word_below x wx) (word_below y wy) (signed_word x wx) (signed_word y wy)))
