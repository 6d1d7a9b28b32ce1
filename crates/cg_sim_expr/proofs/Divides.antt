-- Quotients and remainders of integers.
use Rattle.std.proofs.Common.{◌≡◌, ◌∙◌, refl, sym, ap, subst, Bool, true, false, cond, ℕ, ◌-◌, ◌/◌, ◌%◌, ◌^◌, ◌<◌, List, ◌∷◌, Some, Ok, Err, arith, nat_eq}
use Rattle.std.specs.Prelude.{slice_get, ℤ, pos, int_div, int_rem}
use Rattle.std.proofs.Math.Nat.{div-le_self, mod-le}
use Rattle.lu_spec.specs.Then.{then_do}
use Rattle.lu_base.specs.declared.trap.Trap.TheVariants.{DivZero}
use Rattle.c_types.specs.Refusal.{IsBuilt}
use Rattle.c_types.specs.declared.parts.IntKind.{IntKind}
use Rattle.c_types.specs.declared.parts.Ty.TheVariants as T
use Rattle.src_tree.specs.declared.value.Value.{Value, Int}
use Rattle.src_tree.specs.declared.value.Store.{Store}
use Rattle.src_tree.specs.declared.program.Program.{Program}
use Rattle.src_tree.specs.declared.expr.BinaryOperator.TheVariants.{Divide, Remainder}
use Rattle.src_meaning.specs.Integers.{is_held, is_signed, is_zero, wrapped, quotient, remainder}
use Rattle.src_meaning.specs.Operators.{binary}
use Rattle.src_meaning.specs.ValidExpression.{arithmetic_fits}
use Rattle.bm_isa.specs.declared.instr.Instr.TheVariants as I
use Rattle.bm_alu.specs.Words.{signed, of_signed}
use Rattle.cg_expr.specs.Pieces.{normal, signed_or, binary_last}
use Rattle.cg_state.proofs.Words.{IsWord, held_word, wrapped_held, cut_is}
use Rattle.cg_state.proofs.Typed.{Typed}
use Rattle.cg_sim_expr.proofs.Matching.{word, run, Matches, cut_matches}
use Rattle.cg_sim_expr.proofs.Arithmetic.{arithmetic_case}
use Rattle.cg_sim_expr.proofs.Fits.{IsNatural, natural, unsigned_natural, signed_small, signed_back, zero_word, quotient_word, remainder_word}

module _ (p : Program) (built : IsBuilt p.types) (s : Store) (u : ℕ) (rest : List ℕ) where
  -- a division by a word that may be 0
  unless_matches : (kind : IntKind) (y z : ℤ) (c : ℕ) → slice_get p.types.types u ≡ Some (T.Int kind) → IsWord y → IsWord z → c ≡ of_signed z → Matches p built s u rest (then_do (cond (is_zero y) (Err DivZero) (Ok (wrapped kind z))) (λ z. Ok (Int z))) (then_do (then_do (cond (nat_eq (of_signed y) 0) (Err DivZero) (Ok c)) (λ v. Ok (v ∷ rest))) (run p built s (normal (Some (T.Int kind)))))
  unless_matches kind y z c e wy wz is =
      subst (λ b. Matches p built s u rest (then_do (cond (is_zero y) (Err DivZero) (Ok (wrapped kind z))) (λ z. Ok (Int z))) (then_do (then_do (cond b (Err DivZero) (Ok c)) (λ v. Ok (v ∷ rest))) (run p built s (normal (Some (T.Int kind)))))) (sym (zero_word y wy)) (by (is_zero y))
    where
      by : (b : Bool) → Matches p built s u rest (then_do (cond b (Err DivZero) (Ok (wrapped kind z))) (λ z. Ok (Int z))) (then_do (then_do (cond b (Err DivZero) (Ok c)) (λ v. Ok (v ∷ rest))) (run p built s (normal (Some (T.Int kind)))))
      by true = (tt, refl)
      by false = cut_matches p built s u kind (wrapped kind z) c rest e (wrapped_held kind z) (ap (Rattle.bm_alu.specs.Words.extended kind) is ∙ cut_is kind z wz)

  divide_case : (kind : IntKind) (x y : ℤ) → slice_get p.types.types u ≡ Some (T.Int kind) → is_held kind x ≡ true → is_held kind y ≡ true → (b : Bool) → is_signed kind ≡ b → Matches p built s u rest (then_do (quotient kind x y) (λ z. Ok (Int z))) (run p built s (cond b I.DivideSigned I.DivideUnsigned ∷ normal (Some (T.Int kind))) (of_signed y ∷ of_signed x ∷ rest))
  divide_case kind x y e hx hy true sg =
      let sx = signed_small kind x sg hx in
      let sy = signed_small kind y sg hy in
      unless_matches kind y (int_div x y) (of_signed (int_div (signed (of_signed x)) (signed (of_signed y)))) e (held_word kind y hy) (quotient_word x y sx) (ap (λ z. of_signed (int_div z (signed (of_signed y)))) (signed_back x sx) ∙ ap (λ z. of_signed (int_div x z)) (signed_back y sy))
  divide_case kind x y e hx hy false sg = by x y (unsigned_natural kind x sg hx) (unsigned_natural kind y sg hy) hx hy
    where
      by : (x y : ℤ) → IsNatural x → IsNatural y → is_held kind x ≡ true → is_held kind y ≡ true → Matches p built s u rest (then_do (quotient kind x y) (λ z. Ok (Int z))) (run p built s (I.DivideUnsigned ∷ normal (Some (T.Int kind))) (of_signed y ∷ of_signed x ∷ rest))
      by _ _ (natural m) (natural n) hm hn =
          let low : m < 2 ^ 64 = held_word kind (pos m) hm in
          unless_matches kind (pos n) (pos (m / n)) (m / n) e (held_word kind (pos n) hn) (omega (arith, low, div-le_self m n)) refl

  remainder_case : (kind : IntKind) (x y : ℤ) → slice_get p.types.types u ≡ Some (T.Int kind) → is_held kind x ≡ true → is_held kind y ≡ true → (b : Bool) → is_signed kind ≡ b → Matches p built s u rest (then_do (remainder kind x y) (λ z. Ok (Int z))) (run p built s (cond b I.RemainderSigned I.RemainderUnsigned ∷ normal (Some (T.Int kind))) (of_signed y ∷ of_signed x ∷ rest))
  remainder_case kind x y e hx hy true sg =
      let sx = signed_small kind x sg hx in
      let sy = signed_small kind y sg hy in
      unless_matches kind y (int_rem x y) (of_signed (int_rem (signed (of_signed x)) (signed (of_signed y)))) e (held_word kind y hy) (remainder_word x y sx) (ap (λ z. of_signed (int_rem z (signed (of_signed y)))) (signed_back x sx) ∙ ap (λ z. of_signed (int_rem x z)) (signed_back y sy))
  remainder_case kind x y e hx hy false sg = by x y (unsigned_natural kind x sg hx) (unsigned_natural kind y sg hy) hx hy
    where
      by : (x y : ℤ) → IsNatural x → IsNatural y → is_held kind x ≡ true → is_held kind y ≡ true → Matches p built s u rest (then_do (remainder kind x y) (λ z. Ok (Int z))) (run p built s (I.RemainderUnsigned ∷ normal (Some (T.Int kind))) (of_signed y ∷ of_signed x ∷ rest))
      by _ _ (natural m) (natural n) hm hn =
          let low : m < 2 ^ 64 = held_word kind (pos m) hm in
          unless_matches kind (pos n) (pos (m % n)) (m % n) e (held_word kind (pos n) hn) (omega (arith, low, mod-le m n)) refl

  pub divide_matches : (a b : ℕ) (v w : Value) → Typed p built s a v → Typed p built s b w → arithmetic_fits p.types u a b ≡ true → Matches p built s u rest (binary p.types s u a Divide v w) (run p built s (binary_last p.types u a Divide) (word p built s w ∷ word p built s v ∷ rest))
  divide_matches a b v w hv hw fits =
      arithmetic_case p built s u a b v w rest quotient (λ kind. signed_or kind I.DivideSigned I.DivideUnsigned) hv hw fits (λ kind x y e hx hy. divide_case kind x y e hx hy (is_signed kind) refl)

  pub remainder_matches : (a b : ℕ) (v w : Value) → Typed p built s a v → Typed p built s b w → arithmetic_fits p.types u a b ≡ true → Matches p built s u rest (binary p.types s u a Remainder v w) (run p built s (binary_last p.types u a Remainder) (word p built s w ∷ word p built s v ∷ rest))
  remainder_matches a b v w hv hw fits =
      arithmetic_case p built s u a b v w rest remainder (λ kind. signed_or kind I.RemainderSigned I.RemainderUnsigned) hv hw fits (λ kind x y e hx hy. remainder_case kind x y e hx hy (is_signed kind) refl)
