use Rattle.std.proofs.Common.{◌≡◌, ◌+◌, ◌≤◌, ◌++◌, drop}
use Rattle.std.specs.Prelude.{sum_by}
use Rattle.lu_base.specs.declared.limits.TheConstants.{FIRST_ADDRESS}
use Rattle.lu_remap.specs.Shapes.{placed, room}
use Rattle.lu_remap.proofs.placing.placed.Given as goal

abbrev pub invariant-loop-shape : goal.invariant-loop-shape
invariant-loop-shape l = record {
  rows : l.rows.items ++ placed l.next (drop l.shape-index l.shapes) ≡ placed FIRST_ADDRESS l.shapes;
  room : l.next + sum_by room (drop l.shape-index l.shapes) ≤ FIRST_ADDRESS + sum_by room l.shapes;
}
