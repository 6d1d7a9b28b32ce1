use Rattle.std.proofs.Common.{◌≡◌, ◌≤◌, max, drop}
use Rattle.c_types.specs.Layout.{greatest_align}
use Rattle.c_types.specs.Rounds.{shape_at}
use Rattle.c_types.proofs.shape.greatest_align.Given as goal

abbrev pub invariant-loop-field : goal.invariant-loop-field
invariant-loop-field l = record {
  value : max l.greatest (greatest_align (shape_at l.shapes) (drop l.field-index l.fields)) ≡ greatest_align (shape_at l.shapes) l.fields;
  low : 1 ≤ l.greatest;
  high : l.greatest ≤ 8;
}
