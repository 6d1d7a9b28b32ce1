use Rattle.std.proofs.Common.{◌≡◌, ℕ, ◌+◌, ◌-◌, ◌≤◌, List, length, replicate, arith}
use Rattle.std.proofs.lemmas.List.{length-replicate}
use Rattle.std.specs.FinMap.{insert}
use Rattle.bm_mem.specs.Content.{Content, Holds, IsInside, IsWritten}
use Rattle.bm_mem.proofs.Laws.{clear_empty, mapped, holds_after}
use Rattle.page_tests.proofs.pages.keeps_a_piece.Goals as goal

module _ (first m : Content) (addr : ℕ) (piece : List ℕ) (low : 2 ≤ addr) (made : m ≡ insert first (addr - 2) (replicate (length piece + 4) 0)) where
  inside_new : Holds m (addr - 2) (replicate (length piece + 4) 0) addr (length piece)
  inside_new = mapped first m (addr - 2) (length piece + 4) addr (length piece) made (omega arith) (omega arith)

  inside_written : (n : Content) → IsWritten m n addr piece → (len : ℕ) → len ≡ length piece + 4 → IsInside n (addr - 2) len
  inside_written n w len long =
      (addr - 2, _, holds_after m n addr piece (addr - 2) (replicate (length piece + 4) 0) inside_new w (addr - 2) len (omega arith) (omega (arith, long, length-replicate {A = ℕ} (length piece + 4) 0)))

pub map-requires-clause-clear : goal.map-requires-clause-clear
map-requires-clause-clear g c =
    clear_empty (g.B.Bytes.content c.fresh-memory.result) (c.args.addr - 2) (length c.args.piece.now + 4) c.fresh-memory.ensures

pub write-requires : goal.write-requires
write-requires g c =
    (c.args.addr - 2, replicate (length c.args.piece.now + 4) 0, inside_new (g.B.Bytes.content c.fresh-memory.result) (g.B.Bytes.content c.map.new.self) c.args.addr c.args.piece.now c.requires.low c.in_ok-map.ensures.ok)

pub copy_out-requires : goal.copy_out-requires
copy_out-requires g c =
    inside_written (g.B.Bytes.content c.fresh-memory.result) (g.B.Bytes.content c.map.new.self) c.args.addr c.args.piece.now c.requires.low c.in_ok-map.ensures.ok (g.B.Bytes.content c.write.new.self) c.write.ensures (length c.deref_mut.result.now) (omega (arith, c.deref_mut.ensures.len, c.in_ok-all.ensures.len))
