-- Operators on the bits of integers, and shifts.
use Rattle.std.proofs.Common.{◌≡◌, ◌∙◌, refl, sym, ap, subst, Bool, true, false, ◌&&◌, ◌||◌, cond, ℕ, ◌-◌, ◌*◌, ◌/◌, ◌%◌, ◌^◌, ◌<◌, ◌≤◌, List, ◌∷◌, Some, Ok, Err, arith, nat_eq, nat_lt}
use Rattle.std.specs.Prelude.{slice_get, ℤ, pos, negsuc, ◌*ℤ◌, bit_and, bit_or, bit_xor}
use Rattle.std.specs.Int.{int_shr}
use Rattle.std.proofs.Math.Nat.{div-le_self, mod-lt, mod-eq_of_lt}
use Rattle.std.proofs.lemmas.Nat.{and_mod, or_mod, xor_mod, pow_pos}
use Rattle.std.proofs.Math.Pow.{pow-lt}
use Rattle.std.proofs.lemmas.Int.{ints}
use Rattle.std.proofs.lemmas.Bool.Decides.{nat_tests}
use Rattle.lu_spec.specs.Then.{then_do}
use Rattle.lu_base.specs.declared.trap.Trap.TheVariants.{BadShift, BadCode}
use Rattle.c_types.specs.Refusal.{IsBuilt}
use Rattle.c_types.specs.declared.parts.IntKind.{IntKind}
use Rattle.c_types.specs.declared.parts.IntKind.TheVariants as K
use Rattle.c_types.specs.declared.parts.Ty.TheVariants as T
use Rattle.src_tree.specs.declared.value.Value.{Value, Int}
use Rattle.src_tree.specs.declared.value.Store.{Store}
use Rattle.src_tree.specs.declared.program.Program.{Program}
use Rattle.src_tree.specs.declared.expr.BinaryOperator.TheVariants.{BitAnd, BitXor, BitOr, ShiftLeft, ShiftRight}
use Rattle.src_meaning.specs.Integers.{is_held, is_signed, residue, from_bits, wrapped, bits_of, on_bits, with_count, shifted_left, shifted_right}
use Rattle.src_meaning.specs.Objects.{Gives, or_trap}
use Rattle.src_meaning.specs.Operators.{kind_in, on_ints, binary}
use Rattle.src_meaning.specs.ValidTypes.{is_promoted, is_wide, ty}
use Rattle.src_meaning.specs.ValidExpression.{arithmetic_fits, shift_fits}
use Rattle.src_meaning.proofs.LayoutLengths.{and_left, and_right}
use Rattle.bm_isa.specs.declared.instr.Instr.{Instr}
use Rattle.bm_isa.specs.declared.instr.Instr.TheVariants as I
use Rattle.bm_alu.specs.Words.{signed, of_signed, extended, within_width}
use Rattle.cg_expr.specs.Pieces.{normal, signed_or, arithmetic, binary_last}
use Rattle.cg_state.proofs.Words.{IsWord, held_word, word_below, signed_word, residue-int_wrap, residue_of_word, residue_below, from_held, extended_is, wrapped_held, wrapped_of_held, product_is, cut_is}
use Rattle.cg_state.proofs.Typed.{Typed, an_int}
use Rattle.cg_sim_expr.proofs.Matching.{word, run, Matches, promoted, cut_matches}
use Rattle.cg_sim_expr.proofs.Arithmetic.{arithmetic_case}
use Rattle.cg_sim_expr.proofs.Fits.{IsNatural, natural, unsigned_natural, signed_small, signed_back}

-- the bits of a number are the lowest of its word
bits_are : (kind : IntKind) (z : ℤ) → IsWord z → residue kind z ≡ of_signed z % 2 ^ bits_of kind
bits_are kind z h = sym (residue-int_wrap kind z) ∙ (ap (residue kind) (sym (signed_word z h)) ∙ residue_of_word kind (of_signed z) (word_below z h))

few_bits : (kind : IntKind) → 2 ^ bits_of kind ≤ 2 ^ 64
few_bits K.Char = omega arith
few_bits K.UChar = omega arith
few_bits K.Short = omega arith
few_bits K.UShort = omega arith
few_bits K.Int = omega arith
few_bits K.UInt = omega arith
few_bits K.LongLong = omega arith
few_bits K.ULongLong = omega arith

-- what is made of the bits of numbers, if the lowest bits of the result hang on theirs alone
record IsBitwise (f : ℕ → ℕ → ℕ) : Type 0 where
  low : (a b k : ℕ) → f a b % 2 ^ k ≡ f (a % 2 ^ k) (b % 2 ^ k)

module _ (f : ℕ → ℕ → ℕ) (bitwise : IsBitwise f) where
  below : (a b k : ℕ) → a < 2 ^ k → b < 2 ^ k → f a b < 2 ^ k
  below a b k ha hb =
      let e : f a b % 2 ^ k ≡ f a b = bitwise.low a b k ∙ (ap (λ x. f x (b % 2 ^ k)) (mod-eq_of_lt ha) ∙ ap (f a) (mod-eq_of_lt hb)) in
      let m = mod-lt (f a b) (pow_pos k) in
      omega (arith, e, m)

  on_bits_is : (kind : IntKind) (x y : ℤ) → IsWord x → IsWord y → extended kind (f (of_signed x) (of_signed y)) ≡ of_signed (on_bits f kind x y)
  on_bits_is kind x y wx wy =
      let w = f (of_signed x) (of_signed y) in
      let small : w < 2 ^ 64 = below (of_signed x) (of_signed y) 64 (word_below x wx) (word_below y wy) in
      extended_is kind w small
      ∙ ap (λ n. of_signed (from_bits kind n)) (residue_of_word kind w small ∙ (bitwise.low (of_signed x) (of_signed y) (bits_of kind) ∙ (ap (λ n. f n (of_signed y % 2 ^ bits_of kind)) (sym (bits_are kind x wx)) ∙ ap (f (residue kind x)) (sym (bits_are kind y wy)))))

  on_bits_held : (kind : IntKind) (x y : ℤ) → is_held kind (on_bits f kind x y) ≡ true
  on_bits_held kind x y = from_held kind (f (residue kind x) (residue kind y)) (below (residue kind x) (residue kind y) (bits_of kind) (residue_below kind x) (residue_below kind y))

and_bitwise : IsBitwise bit_and
and_bitwise = record { low = and_mod }

or_bitwise : IsBitwise bit_or
or_bitwise = record { low = or_mod }

xor_bitwise : IsBitwise bit_xor
xor_bitwise = record { low = xor_mod }

widths : (kind : IntKind) → is_wide kind ≡ true → (nat_eq (bits_of kind) 32 || nat_eq (bits_of kind) 64) ≡ true
widths K.Int w = refl
widths K.UInt w = refl
widths K.LongLong w = refl
widths K.ULongLong w = refl
widths _ w = absurd (cc)

low_width : (kind : IntKind) → bits_of kind ≤ 64
low_width K.Char = omega arith
low_width K.UChar = omega arith
low_width K.Short = omega arith
low_width K.UShort = omega arith
low_width K.Int = omega arith
low_width K.UInt = omega arith
low_width K.LongLong = omega arith
low_width K.ULongLong = omega arith

big : (n m : ℕ) → m ≤ 64 → n < 2 ^ 63 → nat_lt (of_signed (negsuc n)) m ≡ false
big n m le lt = let large : 2 ^ 63 ≤ of_signed (negsuc n) = omega (arith, ints, lt) in grind (arith, nat_tests, large, le)

-- a smaller number is held too
less_held : (kind : IntKind) (a b : ℕ) → b ≤ a → is_held kind (pos a) ≡ true → is_held kind (pos b) ≡ true
less_held K.Char a b le h = grind (arith, nat_tests, h, le)
less_held K.UChar a b le h = grind (arith, nat_tests, h, le)
less_held K.Short a b le h = grind (arith, nat_tests, h, le)
less_held K.UShort a b le h = grind (arith, nat_tests, h, le)
less_held K.Int a b le h = grind (arith, nat_tests, h, le)
less_held K.UInt a b le h = grind (arith, nat_tests, h, le)
less_held K.LongLong a b le h = grind (arith, nat_tests, h, le)
less_held K.ULongLong a b le h = grind (arith, nat_tests, h, le)

above_held : (kind : IntKind) (a b : ℕ) → b ≤ a → is_held kind (negsuc a) ≡ true → is_held kind (negsuc b) ≡ true
above_held K.Char a b le h = grind (arith, nat_tests, h, le)
above_held K.UChar a b le h = absurd (cc)
above_held K.Short a b le h = grind (arith, nat_tests, h, le)
above_held K.UShort a b le h = absurd (cc)
above_held K.Int a b le h = grind (arith, nat_tests, h, le)
above_held K.UInt a b le h = absurd (cc)
above_held K.LongLong a b le h = grind (arith, nat_tests, h, le)
above_held K.ULongLong a b le h = absurd (cc)

shifted_held : (kind : IntKind) (z : ℤ) (n : ℕ) → is_held kind z ≡ true → is_held kind (int_shr z n) ≡ true
shifted_held kind (pos a) n h = less_held kind a (a / 2 ^ n) (div-le_self a (2 ^ n)) h
shifted_held kind (negsuc a) n h = above_held kind a (a / 2 ^ n) (div-le_self a (2 ^ n)) h

low_power : (n : ℕ) → n < 64 → 2 ^ n < 2 ^ 64
low_power n h = pow-lt h

module _ (p : Program) (built : IsBuilt p.types) (s : Store) (u : ℕ) (rest : List ℕ) where
  pub and_matches : (a b : ℕ) (v w : Value) → Typed p built s a v → Typed p built s b w → arithmetic_fits p.types u a b ≡ true → Matches p built s u rest (binary p.types s u a BitAnd v w) (run p built s (binary_last p.types u a BitAnd) (word p built s w ∷ word p built s v ∷ rest))
  and_matches a b v w hv hw fits =
      arithmetic_case p built s u a b v w rest (λ kind x y. Ok (on_bits bit_and kind x y)) (λ kind. I.And) hv hw fits (λ kind x y e hx hy.
      cut_matches p built s u kind (on_bits bit_and kind x y) (bit_and (of_signed x) (of_signed y)) rest e (on_bits_held bit_and and_bitwise kind x y) (on_bits_is bit_and and_bitwise kind x y (held_word kind x hx) (held_word kind y hy)))

  pub or_matches : (a b : ℕ) (v w : Value) → Typed p built s a v → Typed p built s b w → arithmetic_fits p.types u a b ≡ true → Matches p built s u rest (binary p.types s u a BitOr v w) (run p built s (binary_last p.types u a BitOr) (word p built s w ∷ word p built s v ∷ rest))
  or_matches a b v w hv hw fits =
      arithmetic_case p built s u a b v w rest (λ kind x y. Ok (on_bits bit_or kind x y)) (λ kind. I.Or) hv hw fits (λ kind x y e hx hy.
      cut_matches p built s u kind (on_bits bit_or kind x y) (bit_or (of_signed x) (of_signed y)) rest e (on_bits_held bit_or or_bitwise kind x y) (on_bits_is bit_or or_bitwise kind x y (held_word kind x hx) (held_word kind y hy)))

  pub xor_matches : (a b : ℕ) (v w : Value) → Typed p built s a v → Typed p built s b w → arithmetic_fits p.types u a b ≡ true → Matches p built s u rest (binary p.types s u a BitXor v w) (run p built s (binary_last p.types u a BitXor) (word p built s w ∷ word p built s v ∷ rest))
  xor_matches a b v w hv hw fits =
      arithmetic_case p built s u a b v w rest (λ kind x y. Ok (on_bits bit_xor kind x y)) (λ kind. I.Xor) hv hw fits (λ kind x y e hx hy.
      cut_matches p built s u kind (on_bits bit_xor kind x y) (bit_xor (of_signed x) (of_signed y)) rest e (on_bits_held bit_xor xor_bitwise kind x y) (on_bits_is bit_xor xor_bitwise kind x y (held_word kind x hx) (held_word kind y hy)))

  module _ (kind : IntKind) (g : ℕ → ℤ) (h : ℕ → ℕ) where
    abbrev Shifted : Gives ℤ → ℕ → Bool → Type 0
    Shifted r m b = Matches p built s u rest (then_do r (λ z. Ok (Int z))) (then_do (then_do (cond b (Ok (h m)) (Err BadShift)) (λ v. Ok (v ∷ rest))) (run p built s (normal (Some (T.Int kind)))))

    -- a shift's count, on both sides
    counted : (y : ℤ) → is_wide kind ≡ true → IsWord y → ((n : ℕ) → n < bits_of kind → Matches p built s u rest (Ok (Int (g n))) (run p built s (normal (Some (T.Int kind))) (h n ∷ rest))) → Matches p built s u rest (then_do (with_count kind y g) (λ z. Ok (Int z))) (then_do (then_do (within_width (bits_of kind) (of_signed y) (h (of_signed y))) (λ v. Ok (v ∷ rest))) (run p built s (normal (Some (T.Int kind)))))
    counted y wide wy each =
        subst (λ b. Matches p built s u rest (then_do (with_count kind y g) (λ z. Ok (Int z))) (then_do (then_do (cond b (cond (nat_lt (of_signed y) (bits_of kind)) (Ok (h (of_signed y))) (Err BadShift)) (Err BadCode)) (λ v. Ok (v ∷ rest))) (run p built s (normal (Some (T.Int kind)))))) (sym (widths kind wide)) (by_sign y wy)
      where
        by : (n : ℕ) (b : Bool) → nat_lt n (bits_of kind) ≡ b → Shifted (cond b (Ok (g n)) (Err BadShift)) n b
        by n true e = let lt : n < bits_of kind = grind (arith, nat_tests, e) in each n lt
        by n false e = (tt, refl)

        by_sign : (y : ℤ) → IsWord y → Shifted (with_count kind y g) (of_signed y) (nat_lt (of_signed y) (bits_of kind))
        by_sign (pos n) wy = by n (nat_lt n (bits_of kind)) refl
        by_sign (negsuc n) wy = subst (λ b. Shifted (Err BadShift) (of_signed (negsuc n)) b) (sym (big n (bits_of kind) (low_width kind) wy)) (tt, refl)

  -- a shift of integers, whose count has a type of its own
  shift_case : (a b : ℕ) (v w : Value) (f : IntKind → ℤ → ℤ → Gives ℤ) (i : IntKind → Instr) → Typed p built s a v → Typed p built s b w → shift_fits p.types u a b ≡ true → ((kind : IntKind) (x y : ℤ) → slice_get p.types.types u ≡ Some (T.Int kind) → is_wide kind ≡ true → is_held kind x ≡ true → IsWord y → Matches p built s u rest (then_do (f kind x y) (λ z. Ok (Int z))) (run p built s (arithmetic (Some (T.Int kind)) i) (of_signed y ∷ of_signed x ∷ rest))) → Matches p built s u rest (on_ints p.types u v w f) (run p built s (arithmetic (ty p.types u) i) (word p built s w ∷ word p built s v ∷ rest))
  shift_case a b v w f i hv hw fits each =
      let wide = and_left (is_promoted (ty p.types u)) (nat_eq a u && is_promoted (ty p.types b)) fits in
      let more = and_right (is_promoted (ty p.types u)) (nat_eq a u && is_promoted (ty p.types b)) fits in
      let k = promoted p built s u wide in
      let kb = promoted p built s b (and_right (nat_eq a u) (is_promoted (ty p.types b)) more) in
      let one = equal a u (and_left (nat_eq a u) (is_promoted (ty p.types b)) more) in
      let x = an_int p built s u k.kind v k.is (subst (λ t. Typed p built s t v) one hv) in
      let y = an_int p built s b kb.kind w kb.is hw in
      subst (λ v. Matches p built s u rest (on_ints p.types u v w f) (run p built s (arithmetic (ty p.types u) i) (word p built s w ∷ word p built s v ∷ rest))) (sym x.is) (subst (λ w. Matches p built s u rest (on_ints p.types u (Int x.number) w f) (run p built s (arithmetic (ty p.types u) i) (word p built s w ∷ of_signed x.number ∷ rest))) (sym y.is) (subst (λ o. Matches p built s u rest (then_do (or_trap BadCode (kind_in o)) (λ kind. then_do (f kind x.number y.number) (λ z. Ok (Int z)))) (run p built s (arithmetic o i) (of_signed y.number ∷ of_signed x.number ∷ rest))) (sym k.is) (each k.kind x.number y.number k.is (ap is_promoted (sym k.is) ∙ wide) x.held (held_word kb.kind y.number y.held))))
    where
      equal : (a b : ℕ) → nat_eq a b ≡ true → a ≡ b
      equal a b h = grind (arith, nat_tests, h)

  pub left_matches : (a b : ℕ) (v w : Value) → Typed p built s a v → Typed p built s b w → shift_fits p.types u a b ≡ true → Matches p built s u rest (binary p.types s u a ShiftLeft v w) (run p built s (binary_last p.types u a ShiftLeft) (word p built s w ∷ word p built s v ∷ rest))
  left_matches a b v w hv hw fits =
      shift_case a b v w shifted_left (λ kind. I.ShiftLeft (bits_of kind)) hv hw fits (λ kind x y e wide hx wy.
      let wx = held_word kind x hx in
      counted kind (λ n. wrapped kind (x *ℤ pos (2 ^ n))) (λ n. Rattle.bm_alu.specs.Words.word (of_signed x * 2 ^ n)) y wide wy (λ n lt.
      let small : 2 ^ n < 2 ^ 64 = low_power n (omega (arith, lt, low_width kind)) in
      cut_matches p built s u kind (wrapped kind (x *ℤ pos (2 ^ n))) (Rattle.bm_alu.specs.Words.word (of_signed x * 2 ^ n)) rest e (wrapped_held kind (x *ℤ pos (2 ^ n))) (product_is kind (of_signed x) (2 ^ n) x (pos (2 ^ n)) (word_below x wx) small (signed_word x wx) (signed_word (pos (2 ^ n)) small))))

  right_case : (kind : IntKind) (x y : ℤ) → slice_get p.types.types u ≡ Some (T.Int kind) → is_wide kind ≡ true → is_held kind x ≡ true → IsWord y → (b : Bool) → is_signed kind ≡ b → Matches p built s u rest (then_do (shifted_right kind x y) (λ z. Ok (Int z))) (run p built s (cond b (I.ShiftRightSigned (bits_of kind)) (I.ShiftRightUnsigned (bits_of kind)) ∷ normal (Some (T.Int kind))) (of_signed y ∷ of_signed x ∷ rest))
  right_case kind x y e wide hx wy true sg =
      counted kind (λ n. int_shr x n) (λ n. of_signed (int_shr (signed (of_signed x)) n)) y wide wy (λ n lt.
      let held = shifted_held kind x n hx in
      let c : extended kind (of_signed (int_shr (signed (of_signed x)) n)) ≡ of_signed (int_shr x n) = ap (λ z. extended kind (of_signed (int_shr z n))) (signed_back x (signed_small kind x sg hx)) ∙ (cut_is kind (int_shr x n) (held_word kind (int_shr x n) held) ∙ ap of_signed (wrapped_of_held kind (int_shr x n) held)) in
      cut_matches p built s u kind (int_shr x n) (of_signed (int_shr (signed (of_signed x)) n)) rest e held c)
  right_case kind x y e wide hx wy false sg = by x (unsigned_natural kind x sg hx) hx
    where
      by : (x : ℤ) → IsNatural x → is_held kind x ≡ true → Matches p built s u rest (then_do (shifted_right kind x y) (λ z. Ok (Int z))) (run p built s (I.ShiftRightUnsigned (bits_of kind) ∷ normal (Some (T.Int kind))) (of_signed y ∷ of_signed x ∷ rest))
      by _ (natural m) hm =
          counted kind (λ n. int_shr (pos m) n) (λ n. m / 2 ^ n) y wide wy (λ n lt.
          let held = shifted_held kind (pos m) n hm in
          cut_matches p built s u kind (int_shr (pos m) n) (m / 2 ^ n) rest e held (cut_is kind (int_shr (pos m) n) (held_word kind (int_shr (pos m) n) held) ∙ ap of_signed (wrapped_of_held kind (int_shr (pos m) n) held)))

  pub right_matches : (a b : ℕ) (v w : Value) → Typed p built s a v → Typed p built s b w → shift_fits p.types u a b ≡ true → Matches p built s u rest (binary p.types s u a ShiftRight v w) (run p built s (binary_last p.types u a ShiftRight) (word p built s w ∷ word p built s v ∷ rest))
  right_matches a b v w hv hw fits =
      shift_case a b v w shifted_right (λ kind. signed_or kind (I.ShiftRightSigned (bits_of kind)) (I.ShiftRightUnsigned (bits_of kind))) hv hw fits (λ kind x y e wide hx wy. right_case kind x y e wide hx wy (is_signed kind) refl)
