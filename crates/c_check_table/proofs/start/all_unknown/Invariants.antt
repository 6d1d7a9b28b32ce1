use Rattle.std.proofs.Common.{◌≡◌, ◌+◌}
use Rattle.c_check_table.specs.Tables as spec
use Rattle.c_check_table.proofs.start.all_unknown.Given as goal

abbrev pub invariant-loop : goal.invariant-loop
invariant-loop l = record {
  entries : l.entries.items ≡ spec.all_unknown l.fn.first l.counter;
  tag : l.tag ≡ l.fn.first + l.counter;
}
