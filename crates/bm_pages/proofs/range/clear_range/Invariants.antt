use Rattle.std.proofs.Common.{◌≤◌, ◌-◌, replicate}
use Rattle.bm_pages.specs.Pages.{IsOverwritten}
use Rattle.bm_pages.specs.Directory.{pages_in}
use Rattle.bm_pages.proofs.range.clear_range.Given as goal

abbrev pub invariant-loop-done : goal.invariant-loop-done
invariant-loop-done l = record {
  in_range : l.done ≤ l.size;
  cleared : IsOverwritten (pages_in l.fn.directory) (pages_in l.directory) l.addr (replicate l.done 0);
}

abbrev pub decreases-loop-done : goal.decreases-loop-done
decreases-loop-done l = l.size - l.done
