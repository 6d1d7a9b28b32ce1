-- The value of a pointer tells its object and its offset.
use Rattle.std.proofs.Common.{◌≡◌, refl, ℕ}
use Rattle.src_tree.specs.declared.value.Value.{Pointer, out-Value}
use Rattle.src_tree.specs.declared.value.Value.TheBlock as V
use Rattle.lu_remap.specs.declared.rows.Target.{Target}
use Rattle.lu_remap.specs.Rows.{target_in}

abbrev pub aimed : ℕ → ℕ → Target
aimed object offset = record { object = object; offset = offset }

pub target-is : (k offset : ℕ) → target_in (out-Value (Pointer k offset)) ≡ aimed k offset
unfolding V.shape-the_row-Value-0 V.hidden-the_row-Value-0 V.shown-the_row-Value-0 V.shape-the_row-Value-1 V.hidden-the_row-Value-1 V.shown-the_row-Value-1 denote.Hole.Carrier.hidden Rattle.src_tree.specs.declared.value.Value.TheViews.out-Value denote.Hole.Carrier.out denote.Hole.Carrier.shown
target-is k offset = refl
