use Rattle.std.proofs.Common.{◌≡◌, ◌≤◌, ◌++◌, drop}
use Rattle.lu_base.specs.declared.limits.TheConstants.{HEAP_BYTES}
use Rattle.lu_remap.specs.Shapes.{global_shapes, heap_shapes, moved_numbers, over_limit}
use Rattle.lu_remap.proofs.shapes.needed_shapes.Given as goal

abbrev pub invariant-loop-k : goal.invariant-loop-k
invariant-loop-k l = record {
  rows : l.moving.rows.items ++ heap_shapes l.pairing l.old (drop l.k-index l.needed) ≡ global_shapes l.pairing.new ++ heap_shapes l.pairing l.old l.needed;
  moved : l.moving.moved.items ++ moved_numbers l.pairing l.old (drop l.k-index l.needed) ≡ moved_numbers l.pairing l.old l.needed;
  over : over_limit l.pairing l.old l.moving.total (drop l.k-index l.needed) ≡ over_limit l.pairing l.old 0 l.needed;
  low : l.moving.total ≤ HEAP_BYTES;
}
