use Rattle.std.proofs.Common.{◌≡◌, ◌-◌, ◌≤◌, ℕ, List}
use Rattle.std.specs.FinMap.{insert}
use Rattle.lu_spec.specs.Splice.{spliced}
use Rattle.bm_mem.specs.Content.{Holds}
use Rattle.bm_frame.proofs.Bytes.{zero_bytes}
use Rattle.bm_frame.proofs.writing.clear_bytes.Given as goal

abbrev pub invariant-loop-done : goal.invariant-loop-done
invariant-loop-done g l = record {
  within : l.done ≤ l.size;
  cleared : (s : ℕ) (a : List ℕ) → Holds (g.B.Bytes.content l.fn.memory) s a l.address l.size → g.B.Bytes.content l.memory ≡ insert (g.B.Bytes.content l.fn.memory) s (spliced a (l.address - s) (zero_bytes l.done));
}

abbrev pub decreases-loop-done : goal.decreases-loop-done
decreases-loop-done g l = l.size - l.done
