use Rattle.std.proofs.Common.{◌≡◌, ◌-◌, ◌≤◌, ℕ, List}
use Rattle.std.specs.FinMap.{insert}
use Rattle.lu_spec.specs.Splice.{piece_at, spliced}
use Rattle.bm_mem.specs.Content.{Holds}
use Rattle.bm_frame.proofs.writing.copy_up.Given as goal

abbrev pub invariant-loop-done : goal.invariant-loop-done
invariant-loop-done g l = record {
  within : l.done ≤ l.size;
  copied : (s t : ℕ) (a b : List ℕ) → Holds (g.B.Bytes.content l.fn.memory) s a l.from l.size → Holds (g.B.Bytes.content l.fn.memory) t b l.to l.size → g.B.Bytes.content l.memory ≡ insert (g.B.Bytes.content l.fn.memory) t (spliced b (l.to - t) (piece_at a (l.from - s) l.done));
}

abbrev pub decreases-loop-done : goal.decreases-loop-done
decreases-loop-done g l = l.size - l.done
