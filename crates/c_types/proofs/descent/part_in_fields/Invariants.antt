use Rattle.std.proofs.Common.{◌≡◌, ◌≤◌, drop}
use Rattle.c_types.specs.Rounds.{shape_at}
use Rattle.c_types.specs.Descent.{part_in_fields}
use Rattle.c_types.proofs.descent.part_in_fields.Given as goal

abbrev pub invariant-loop-number : goal.invariant-loop-number
invariant-loop-number l = record {
  value : part_in_fields (shape_at l.shapes) l.end (drop l.number l.fields) l.number l.offset ≡ part_in_fields (shape_at l.shapes) 0 l.fields 0 l.offset;
  bound : l.end ≤ l.offset;
}
