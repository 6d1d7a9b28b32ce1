use Rattle.std.proofs.Common.{◌≡◌, ◌≤◌, ◌*◌, ◌^◌, drop}
use Rattle.c_types.specs.Layout.{fields_end}
use Rattle.c_types.specs.Rounds.{shape_at}
use Rattle.c_types.proofs.shape.fields_end.Given as goal

abbrev pub invariant-loop-field : goal.invariant-loop-field
invariant-loop-field l = record {
  value : fields_end (shape_at l.shapes) l.end (drop l.field-index l.fields) ≡ fields_end (shape_at l.shapes) 0 l.fields;
  bound : l.end ≤ l.field-index * 2 ^ 21;
}
