use Rattle.std.proofs.Common.{◌≡◌, ◌≤◌, ◌+◌, max, drop}
use Rattle.c_types.specs.Layout.{greatest_size, greatest as most}
use Rattle.c_types.specs.Rounds.{shape_at}
use Rattle.c_types.proofs.shape.greatest_size.Given as goal

abbrev pub invariant-loop-field : goal.invariant-loop-field
invariant-loop-field l = record {
  value : max l.greatest (greatest_size (shape_at l.shapes) (drop l.field-index l.fields)) ≡ greatest_size (shape_at l.shapes) l.fields;
  high : l.greatest ≤ most + 1;
}
