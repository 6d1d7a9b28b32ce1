use Rattle.std.proofs.Common.{◌≡◌, ◌<◌}
use Rattle.std.specs.Prelude.{All, filter}
use Rattle.std.specs.List.{range_with_len}
use Rattle.lu_scan.specs.Given.{versions}
use Rattle.lu_walk.specs.Rows.{is_root_row}
use Rattle.lu_walk.proofs.rows.roots.Given as goal

abbrev pub invariant-loop-number : goal.invariant-loop-number
invariant-loop-number l = record {
  roots : l.found.items ≡ filter (is_root_row (versions l.programs) l.rows) (range_with_len 0 l.number);
  inside : All (λ k. k < l.count) l.found.items;
}
