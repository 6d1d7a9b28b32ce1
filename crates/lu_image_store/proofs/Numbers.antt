-- Integers of other types, and types that don't correspond.
use Rattle.std.proofs.Common.{◌≡◌, refl, ℕ, pos, negsuc, [], ◌∷◌}
use Rattle.src_tree.specs.declared.value.Value.TheBlock as V
use Rattle.src_tree.specs.declared.value.Value.{Value, Int, Null}
use Rattle.c_types.specs.declared.parts.Ty.TheVariants as T
use Rattle.c_types.specs.declared.parts.IntKind.TheVariants as I
use Rattle.c_types.specs.declared.path.Step.TheVariants.{Index}
use Rattle.src_tree.specs.declared.program.Program.{Program}
use Rattle.lu_image.specs.declared.refusal.Why.TheVariants as W
use Rattle.lu_image.specs.declared.refusal.Kept.TheVariants as K
use Rattle.lu_image_store.proofs.Samples.{parts, program, global, int, one, moves_to, refuses, update}

-- n of int, of long long, of int *
abbrev counter : ℕ → Program
counter t = program (parts (T.Int I.LongLong ∷ T.Pointer 0 ∷ []) [] []) (global 21 t ∷ []) [] []

widened : update (counter 0) (counter 3) [] (one 0 (int 2147483647) ∷ []) ≡ moves_to (one 3 (int 2147483647) ∷ [])
unfolding V.shape-the_row-Value-0 V.hidden-the_row-Value-0 V.shown-the_row-Value-0 V.shape-the_row-Value-1 V.hidden-the_row-Value-1 V.shown-the_row-Value-1 denote.Hole.Carrier.hidden Rattle.src_tree.specs.declared.value.Value.TheViews.out-Value denote.Hole.Carrier.out denote.Hole.Carrier.shown
widened = refl

too_wide : update (counter 3) (counter 0) [] (one 3 (int 2147483648) ∷ []) ≡ refuses W.Narrow 2 (Index 0 ∷ []) (K.Int (pos 2147483648))
unfolding V.shape-the_row-Value-0 V.hidden-the_row-Value-0 V.shown-the_row-Value-0 V.shape-the_row-Value-1 V.hidden-the_row-Value-1 V.shown-the_row-Value-1 denote.Hole.Carrier.hidden Rattle.src_tree.specs.declared.value.Value.TheViews.out-Value denote.Hole.Carrier.out denote.Hole.Carrier.shown
too_wide = refl

narrowed : update (counter 3) (counter 0) [] (one 3 (Int (negsuc 2147483647)) ∷ []) ≡ moves_to (one 0 (Int (negsuc 2147483647)) ∷ [])
unfolding V.shape-the_row-Value-0 V.hidden-the_row-Value-0 V.shown-the_row-Value-0 V.shape-the_row-Value-1 V.hidden-the_row-Value-1 V.shown-the_row-Value-1 denote.Hole.Carrier.hidden Rattle.src_tree.specs.declared.value.Value.TheViews.out-Value denote.Hole.Carrier.out denote.Hole.Carrier.shown
narrowed = refl

other_shape : update (counter 0) (counter 4) [] (one 0 (int 0) ∷ []) ≡ refuses W.Shape 2 (Index 0 ∷ []) K.Nothing
unfolding V.shape-the_row-Value-0 V.hidden-the_row-Value-0 V.shown-the_row-Value-0 V.shape-the_row-Value-1 V.hidden-the_row-Value-1 V.shown-the_row-Value-1 denote.Hole.Carrier.hidden Rattle.src_tree.specs.declared.value.Value.TheViews.out-Value denote.Hole.Carrier.out denote.Hole.Carrier.shown
other_shape = refl
