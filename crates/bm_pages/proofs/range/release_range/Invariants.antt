use Rattle.std.proofs.Common.{◌≤◌}
use Rattle.bm_pages.specs.Directory.{pages_in}
use Rattle.bm_pages.specs.Extents.{IsReleased}
use Rattle.bm_pages.proofs.range.release_range.Given as goal

abbrev pub invariant-loop-number : goal.invariant-loop-number
invariant-loop-number l = record {
  in_range : l.first ≤ l.number;
  released : IsReleased l.extents (pages_in l.fn.directory) (pages_in l.directory) l.first l.number;
}
