use Rattle.std.proofs.Common.{ℕ, ◌-◌, ◌<◌, ◌≤◌, length, get_or}
use Rattle.bm_objects.specs.declared.row.Row.{Row}
use Rattle.lu_walk.proofs.rows.count_up_to.Given as goal

abbrev pub invariant-loop-low : goal.invariant-loop-low
invariant-loop-low l = record {
  ordered : l.low ≤ l.high;
  within : l.high ≤ length l.rows;
  up_to : (k : ℕ) (d : Row) → k < l.low → (get_or l.rows k d).addr ≤ l.addr;
  above : (k : ℕ) (d : Row) → l.high ≤ k → k < length l.rows → l.addr < (get_or l.rows k d).addr;
}

abbrev pub decreases-loop-low : goal.decreases-loop-low
decreases-loop-low l = l.high - l.low
