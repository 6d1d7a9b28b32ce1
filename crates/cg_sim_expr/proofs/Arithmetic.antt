-- Sums, differences and products of integers.
use Rattle.std.proofs.Common.{◌≡◌, sym, subst, Bool, true, false, ℕ, ◌+◌, ◌-◌, ◌*◌, ◌^◌, List, ◌∷◌, Some, Ok, arith}
use Rattle.std.specs.Prelude.{slice_get, nat_eq, ℤ, ◌+ℤ◌, ◌-ℤ◌, ◌*ℤ◌}
use Rattle.std.proofs.lemmas.Bool.Decides.{nat_tests}
use Rattle.lu_spec.specs.Then.{then_do}
use Rattle.lu_base.specs.declared.trap.Trap.TheVariants.{BadCode}
use Rattle.c_types.specs.Refusal.{IsBuilt}
use Rattle.c_types.specs.declared.parts.IntKind.{IntKind}
use Rattle.c_types.specs.declared.parts.Ty.TheVariants as T
use Rattle.src_tree.specs.declared.value.Value.{Value, Int}
use Rattle.src_tree.specs.declared.value.Store.{Store}
use Rattle.src_tree.specs.declared.program.Program.{Program}
use Rattle.src_tree.specs.declared.expr.BinaryOperator.{BinaryOperator}
use Rattle.src_tree.specs.declared.expr.BinaryOperator.TheVariants.{Add, Subtract, Multiply}
use Rattle.src_meaning.specs.Integers.{is_held, wrapped}
use Rattle.src_meaning.specs.Objects.{Gives, or_trap}
use Rattle.src_meaning.specs.Operators.{kind_in, on_ints, binary}
use Rattle.src_meaning.specs.ValidTypes.{is_promoted, ty}
use Rattle.src_meaning.specs.ValidExpression.{arithmetic_fits, binary_fits}
use Rattle.src_meaning.proofs.LayoutLengths.{and_left, and_right}
use Rattle.bm_isa.specs.declared.instr.Instr.{Instr}
use Rattle.bm_isa.specs.declared.instr.Instr.TheVariants as I
use Rattle.bm_alu.specs.Words.{of_signed}
use Rattle.cg_expr.specs.Pieces.{arithmetic, binary_last}
use Rattle.cg_state.proofs.Words.{held_word, word_below, signed_word, wrapped_held, sum_is, difference_is, product_is}
use Rattle.cg_state.proofs.Typed.{Typed, an_int}
use Rattle.cg_sim_expr.proofs.Matching.{word, run, Matches, promoted, cut_matches}

abbrev pub is_linear : BinaryOperator → Bool
is_linear Add = true
is_linear Subtract = true
is_linear Multiply = true
is_linear _ = false

module _ (p : Program) (built : IsBuilt p.types) (s : Store) where
  -- an operator on integers of one promoted type
  pub arithmetic_case : (u a b : ℕ) (v w : Value) (rest : List ℕ) (f : IntKind → ℤ → ℤ → Gives ℤ) (i : IntKind → Instr) → Typed p built s a v → Typed p built s b w → arithmetic_fits p.types u a b ≡ true → ((kind : IntKind) (x y : ℤ) → slice_get p.types.types u ≡ Some (T.Int kind) → is_held kind x ≡ true → is_held kind y ≡ true → Matches p built s u rest (then_do (f kind x y) (λ z. Ok (Int z))) (run p built s (arithmetic (Some (T.Int kind)) i) (of_signed y ∷ of_signed x ∷ rest))) → Matches p built s u rest (on_ints p.types u v w f) (run p built s (arithmetic (ty p.types u) i) (word p built s w ∷ word p built s v ∷ rest))
  arithmetic_case u a b v w rest f i hv hw fits each =
      let k = promoted p built s u (and_left (is_promoted (ty p.types u)) _ fits) in
      let more = and_right (is_promoted (ty p.types u)) _ fits in
      let one = equal a u (and_left (nat_eq a u) (nat_eq b u) more) in
      let two = equal b u (and_right (nat_eq a u) (nat_eq b u) more) in
      let x = an_int p built s u k.kind v k.is (subst (λ t. Typed p built s t v) one hv) in
      let y = an_int p built s u k.kind w k.is (subst (λ t. Typed p built s t w) two hw) in
      subst (λ v. Matches p built s u rest (on_ints p.types u v w f) (run p built s (arithmetic (ty p.types u) i) (word p built s w ∷ word p built s v ∷ rest))) (sym x.is) (subst (λ w. Matches p built s u rest (on_ints p.types u (Int x.number) w f) (run p built s (arithmetic (ty p.types u) i) (word p built s w ∷ of_signed x.number ∷ rest))) (sym y.is) (subst (λ o. Matches p built s u rest (then_do (or_trap BadCode (kind_in o)) (λ kind. then_do (f kind x.number y.number) (λ z. Ok (Int z)))) (run p built s (arithmetic o i) (of_signed y.number ∷ of_signed x.number ∷ rest))) (sym k.is) (each k.kind x.number y.number k.is x.held y.held)))
    where
      equal : (a b : ℕ) → nat_eq a b ≡ true → a ≡ b
      equal a b h = grind (arith, nat_tests, h)

  pub linear_matches : (u a b : ℕ) (op : BinaryOperator) (v w : Value) (rest : List ℕ) → is_linear op ≡ true → Typed p built s a v → Typed p built s b w → binary_fits p.types u op a b ≡ true → Matches p built s u rest (binary p.types s u a op v w) (run p built s (binary_last p.types u a op) (word p built s w ∷ word p built s v ∷ rest))
  linear_matches u a b Add v w rest l hv hw fits =
      arithmetic_case u a b v w rest (λ kind x y. Ok (wrapped kind (x +ℤ y))) (λ kind. I.Add) hv hw fits (λ kind x y e hx hy.
      let wx = held_word kind x hx in
      let wy = held_word kind y hy in
      cut_matches p built s u kind (wrapped kind (x +ℤ y)) (Rattle.bm_alu.specs.Words.word (of_signed x + of_signed y)) rest e (wrapped_held kind (x +ℤ y)) (sum_is kind (of_signed x) (of_signed y) x y (word_below x wx) (word_below y wy) (signed_word x wx) (signed_word y wy)))
  linear_matches u a b Subtract v w rest l hv hw fits =
      arithmetic_case u a b v w rest (λ kind x y. Ok (wrapped kind (x -ℤ y))) (λ kind. I.Subtract) hv hw fits (λ kind x y e hx hy.
      let wx = held_word kind x hx in
      let wy = held_word kind y hy in
      cut_matches p built s u kind (wrapped kind (x -ℤ y)) (Rattle.bm_alu.specs.Words.word (of_signed x + (2 ^ 64 - of_signed y))) rest e (wrapped_held kind (x -ℤ y)) (difference_is kind (of_signed x) (of_signed y) x y (word_below x wx) (word_below y wy) (signed_word x wx) (signed_word y wy)))
  linear_matches u a b Multiply v w rest l hv hw fits =
      arithmetic_case u a b v w rest (λ kind x y. Ok (wrapped kind (x *ℤ y))) (λ kind. I.Multiply) hv hw fits (λ kind x y e hx hy.
      let wx = held_word kind x hx in
      let wy = held_word kind y hy in
      cut_matches p built s u kind (wrapped kind (x *ℤ y)) (Rattle.bm_alu.specs.Words.word (of_signed x * of_signed y)) rest e (wrapped_held kind (x *ℤ y)) (product_is kind (of_signed x) (of_signed y) x y (word_below x wx) (word_below y wy) (signed_word x wx) (signed_word y wy)))
  linear_matches u a b _ v w rest l hv hw fits = absurd (cc)
