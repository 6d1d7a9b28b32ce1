-- Each binary operator: its code gives of the words of two values the word of what the operator gives.
use Rattle.std.proofs.Common.{◌≡◌, refl, true, ℕ, List, ◌∷◌}
use Rattle.c_types.specs.Refusal.{IsBuilt}
use Rattle.src_tree.specs.declared.value.Value.{Value}
use Rattle.src_tree.specs.declared.value.Store.{Store}
use Rattle.src_tree.specs.declared.program.Program.{Program}
use Rattle.src_tree.specs.declared.expr.BinaryOperator.{BinaryOperator}
use Rattle.src_tree.specs.declared.expr.BinaryOperator.TheVariants as O
use Rattle.src_meaning.specs.Operators.{binary}
use Rattle.src_meaning.specs.Store.{IsStore}
use Rattle.src_meaning.specs.ValidExpression.{binary_fits}
use Rattle.cg_expr.specs.Pieces.{binary_last}
use Rattle.cg_state.proofs.Typed.{Typed}
use Rattle.cg_sim_expr.proofs.Matching.{word, run, Matches}
use Rattle.cg_sim_expr.proofs.Arithmetic.{linear_matches}
use Rattle.cg_sim_expr.proofs.Divides.{divide_matches, remainder_matches}
use Rattle.cg_sim_expr.proofs.Shifts.{and_matches, or_matches, xor_matches, left_matches, right_matches}
use Rattle.cg_sim_expr.proofs.Compares.{less_matches, less_equal_matches, greater_matches, greater_equal_matches, equal_matches, unequal_matches}
use Rattle.cg_sim_expr.proofs.Moves.{add_matches, add_turned_matches, subtract_matches, difference_matches}

module _ (p : Program) (built : IsBuilt p.types) (s : Store) (ok : IsStore p s) where
  pub operator_matches : (u a b : ℕ) (op : BinaryOperator) (v w : Value) (rest : List ℕ) → Typed p built s a v → Typed p built s b w → binary_fits p.types u op a b ≡ true → Matches p built s u rest (binary p.types s u a op v w) (run p built s (binary_last p.types u a op) (word p built s w ∷ word p built s v ∷ rest))
  operator_matches u a b O.Add v w rest hv hw fits = linear_matches p built s u a b O.Add v w rest refl hv hw fits
  operator_matches u a b O.Subtract v w rest hv hw fits = linear_matches p built s u a b O.Subtract v w rest refl hv hw fits
  operator_matches u a b O.Multiply v w rest hv hw fits = linear_matches p built s u a b O.Multiply v w rest refl hv hw fits
  operator_matches u a b O.Divide v w rest hv hw fits = divide_matches p built s u rest a b v w hv hw fits
  operator_matches u a b O.Remainder v w rest hv hw fits = remainder_matches p built s u rest a b v w hv hw fits
  operator_matches u a b O.BitAnd v w rest hv hw fits = and_matches p built s u rest a b v w hv hw fits
  operator_matches u a b O.BitXor v w rest hv hw fits = xor_matches p built s u rest a b v w hv hw fits
  operator_matches u a b O.BitOr v w rest hv hw fits = or_matches p built s u rest a b v w hv hw fits
  operator_matches u a b O.ShiftLeft v w rest hv hw fits = left_matches p built s u rest a b v w hv hw fits
  operator_matches u a b O.ShiftRight v w rest hv hw fits = right_matches p built s u rest a b v w hv hw fits
  operator_matches u a b O.Less v w rest hv hw fits = less_matches p built s u a b v w rest hv hw fits
  operator_matches u a b O.LessEqual v w rest hv hw fits = less_equal_matches p built s u a b v w rest hv hw fits
  operator_matches u a b O.Greater v w rest hv hw fits = greater_matches p built s u a b v w rest hv hw fits
  operator_matches u a b O.GreaterEqual v w rest hv hw fits = greater_equal_matches p built s u a b v w rest hv hw fits
  operator_matches u a b O.Equal v w rest hv hw fits = equal_matches p built s u a b v w rest hv hw fits
  operator_matches u a b O.NotEqual v w rest hv hw fits = unequal_matches p built s u a b v w rest hv hw fits
  operator_matches u a b O.PointerAdd v w rest hv hw fits = add_matches p built s ok u rest a b v w hv hw fits
  operator_matches u a b O.AddPointer v w rest hv hw fits = add_turned_matches p built s ok u rest b a w v hw hv fits
  operator_matches u a b O.PointerSubtract v w rest hv hw fits = subtract_matches p built s ok u rest a b v w hv hw fits
  operator_matches u a b O.PointerDifference v w rest hv hw fits = difference_matches p built s ok u rest a b v w hv hw fits
