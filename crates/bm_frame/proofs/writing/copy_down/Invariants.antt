use Rattle.std.proofs.Common.{◌≡◌, ◌+◌, ◌-◌, ◌≤◌, ℕ, List}
use Rattle.std.specs.FinMap.{insert}
use Rattle.lu_spec.specs.Splice.{piece_at, spliced}
use Rattle.bm_mem.specs.Content.{Holds}
use Rattle.bm_frame.proofs.writing.copy_down.Given as goal

abbrev pub invariant-loop-left : goal.invariant-loop-left
invariant-loop-left g l = record {
  within : l.left ≤ l.size;
  copied : (s t : ℕ) (a b : List ℕ) → Holds (g.B.Bytes.content l.fn.memory) s a l.from l.size → Holds (g.B.Bytes.content l.fn.memory) t b l.to l.size → g.B.Bytes.content l.memory ≡ insert (g.B.Bytes.content l.fn.memory) t (spliced b (l.to - t + l.left) (piece_at a (l.from - s + l.left) (l.size - l.left)));
}

abbrev pub decreases-loop-left : goal.decreases-loop-left
decreases-loop-left g l = l.left
