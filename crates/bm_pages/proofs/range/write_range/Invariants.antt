use Rattle.std.proofs.Common.{◌≤◌, ◌-◌, length, take}
use Rattle.bm_pages.specs.Pages.{IsOverwritten}
use Rattle.bm_pages.specs.Directory.{pages_in}
use Rattle.bm_pages.proofs.range.write_range.Given as goal

abbrev pub invariant-loop-done : goal.invariant-loop-done
invariant-loop-done l = record {
  in_range : l.done ≤ length l.piece;
  written : IsOverwritten (pages_in l.fn.directory) (pages_in l.directory) l.addr (take l.done l.piece);
}

abbrev pub decreases-loop-done : goal.decreases-loop-done
decreases-loop-done l = length l.piece - l.done
