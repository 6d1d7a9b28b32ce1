use Rattle.std.proofs.Common.{◌≡◌, false, length, unwrap_or, slice_get, ◌≤◌}
use Rattle.std.specs.Prelude.{filter, vec_capacity}
use Rattle.std.specs.List.{range_with_len}
use Rattle.lu_mark.proofs.marks.list_set.Given as goal

abbrev pub invariant-loop-x : goal.invariant-loop-x
invariant-loop-x l = record {
  numbers : l.numbers.items ≡ filter (λ x. unwrap_or (slice_get l.flags x) false) (range_with_len 0 l.x);
  few : length l.numbers.items ≤ l.x;
  capacity : vec_capacity l.numbers ≡ vec_capacity l.fn.numbers;
}
