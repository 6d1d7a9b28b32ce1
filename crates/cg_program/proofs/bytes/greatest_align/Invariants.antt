use Rattle.std.proofs.Common.{◌≡◌, ◌≤◌, max, drop}
use Rattle.c_types.specs.Layout.{shape_of, greatest_align}
use Rattle.cg_program.proofs.bytes.greatest_align.Given as goal

abbrev pub invariant-loop-member : goal.invariant-loop-member
invariant-loop-member l = record {
  value : max l.greatest (greatest_align (shape_of l.types) (drop l.member-index l.members)) ≡ greatest_align (shape_of l.types) l.members;
  low : 1 ≤ l.greatest;
}
