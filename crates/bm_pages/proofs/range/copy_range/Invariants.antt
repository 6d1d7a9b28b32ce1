use Rattle.std.proofs.Common.{◌≡◌, ◌≤◌, ◌-◌, length, take}
use Rattle.bm_pages.specs.Pages.{bytes_from}
use Rattle.bm_pages.specs.Directory.{pages_in}
use Rattle.bm_pages.proofs.range.copy_range.Given as goal

abbrev pub invariant-loop-done : goal.invariant-loop-done
invariant-loop-done l = record {
  in_range : l.done ≤ length l.into;
  as_long : length l.into ≡ length l.fn.into;
  copied : take l.done l.into ≡ bytes_from (pages_in l.directory) l.addr l.done;
}

abbrev pub decreases-loop-done : goal.decreases-loop-done
decreases-loop-done l = length l.into - l.done
