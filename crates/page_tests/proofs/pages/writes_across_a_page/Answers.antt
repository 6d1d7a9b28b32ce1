use Rattle.std.proofs.Common.{◌≡◌, ℕ, ◌+◌, ◌≤◌, [], ◌∷◌, replicate, arith, IsSome}
use Rattle.std.proofs.lemmas.List.{length-replicate}
use Rattle.std.specs.FinMap.{get, insert}
use Rattle.bm_mem.specs.Content.{Content, Holds, IsInside, IsWritten}
use Rattle.bm_mem.proofs.Laws.{clear_empty, mapped, holds_after, after_write, is_some}
use Rattle.page_tests.proofs.pages.writes_across_a_page.Goals as goal

module _ (first m n : Content) (size : ℕ) (made : m ≡ insert first 4096 (replicate size 0)) (long : 4352 ≤ size) where
  inside_new : (addr len : ℕ) → 4096 ≤ addr → addr + len ≤ 8448 → Holds m 4096 (replicate size 0) addr len
  inside_new addr len low high = mapped first m 4096 size addr len made low (omega arith)

  module _ (w : IsWritten m n 8190 (1 ∷ 2 ∷ 3 ∷ 4 ∷ [])) where
    inside_written : (addr len : ℕ) → 4096 ≤ addr → addr + len ≤ 8448 → IsInside n addr len
    inside_written addr len low high =
        (4096, _, holds_after m n 8190 (1 ∷ 2 ∷ 3 ∷ 4 ∷ []) 4096 (replicate size 0) (inside_new 8190 4 (omega arith) (omega arith)) w addr len low (omega (arith, length-replicate {A = ℕ} size 0)))

    there : IsSome (get n 4096)
    there = is_some n 4096 _ (after_write m n 8190 (1 ∷ 2 ∷ 3 ∷ 4 ∷ []) 4096 (replicate size 0) (inside_new 8190 4 (omega arith) (omega arith)) w)

pub map-requires-clause-clear : goal.map-requires-clause-clear
map-requires-clause-clear g c = clear_empty (g.B.Bytes.content c.fresh-memory.result) 4096 c.args.size c.fresh-memory.ensures

pub write-requires : goal.write-requires
write-requires g c =
    (4096, replicate c.args.size 0, inside_new (g.B.Bytes.content c.fresh-memory.result) (g.B.Bytes.content c.map.new.self) (g.B.Bytes.content c.map.new.self) c.args.size c.in_ok-map.ensures.ok c.requires.long 8190 4 (omega arith) (omega arith))

pub copy_out-requires : goal.copy_out-requires
copy_out-requires g c =
    inside_written (g.B.Bytes.content c.fresh-memory.result) (g.B.Bytes.content c.map.new.self) (g.B.Bytes.content c.write.new.self) c.args.size c.in_ok-map.ensures.ok c.requires.long c.write.ensures 8189 6 (omega arith) (omega arith)

pub read-requires-clause-inside : goal.read-requires-clause-inside
read-requires-clause-inside g c =
    inside_written (g.B.Bytes.content c.fresh-memory.result) (g.B.Bytes.content c.map.new.self) (g.B.Bytes.content c.write.new.self) c.args.size c.in_ok-map.ensures.ok c.requires.long c.write.ensures 8188 4 (omega arith) (omega arith)

pub read-requires-2-clause-inside : goal.read-requires-2-clause-inside
read-requires-2-clause-inside g c =
    inside_written (g.B.Bytes.content c.fresh-memory.result) (g.B.Bytes.content c.map.new.self) (g.B.Bytes.content c.write.new.self) c.args.size c.in_ok-map.ensures.ok c.requires.long c.write.ensures 8192 2 (omega arith) (omega arith)

pub unmap-requires : goal.unmap-requires
unmap-requires g c =
    there (g.B.Bytes.content c.fresh-memory.result) (g.B.Bytes.content c.map.new.self) (g.B.Bytes.content c.write.new.self) c.args.size c.in_ok-map.ensures.ok c.requires.long c.write.ensures
