use Rattle.std.proofs.Common.{◌≡◌, ◌≢◌, ◌∙◌, ap, ◌⊎◌, inl, inr, ℕ, ◌+◌, ◌≤◌, List, [], ◌∷◌, length, replicate, Some, None, IsSome, arith}
use Rattle.std.proofs.lemmas.List.{length-replicate}
use Rattle.std.proofs.lemmas.Bool.{cases_eq}
use Rattle.std.specs.Ordering.{nat_cmp}
use Rattle.std.specs.FinMap.{empty, get, insert, remove as without, get-empty}
use Rattle.bm_mem.specs.Content.{Content, Holds, IsInside, IsClear, IsWritten}
use Rattle.bm_mem.proofs.Laws.{clear_empty, mapped, holds_in, holds_after, after_write, kept_by_map, kept_by_unmap, kept_by_write, is_some}
use Rattle.page_tests.proofs.TestLemmas.{clear_beside, clear_without}
use Rattle.page_tests.proofs.pages.shares_a_page.Goals as goal

far : ◌≢◌ {A = ℕ} 4112 4096
far e = omega arith

near : ◌≢◌ {A = ℕ} 4096 4112
near e = omega arith

-- two objects
module _ (m0 m1 : Content) (e0 : m0 ≡ empty) (e1 : m1 ≡ insert m0 4096 (replicate 8 0)) where
  clear_second : IsClear m1 4112 8
  clear_second = clear_beside m0 m1 4096 (replicate 8 0) 4112 8 e1 (clear_empty m0 4112 8 e0) (inl (omega (arith, length-replicate {A = ℕ} 8 0)))

  module _ (m2 : Content) (e2 : m2 ≡ insert m1 4112 (replicate 8 0)) where
    first_new : Holds m2 4096 (replicate 8 0) 4096 2
    first_new =
        holds_in m1 m2 4096 (replicate 8 0) 4096 2 (kept_by_map m1 m2 4112 (replicate 8 0) 4096 e2 near) (mapped m0 m1 4096 8 4096 2 e1 (omega arith) (omega arith))

    second_new : Holds m2 4112 (replicate 8 0) 4112 2
    second_new = mapped m1 m2 4112 8 4112 2 e2 (omega arith) (omega arith)

    -- both written
    module _ (m3 : Content) (w3 : IsWritten m2 m3 4096 (1 ∷ 2 ∷ [])) where
      second_kept : Holds m3 4112 (replicate 8 0) 4112 2
      second_kept =
          holds_in m2 m3 4112 (replicate 8 0) 4112 2 (kept_by_write m2 m3 4096 (1 ∷ 2 ∷ []) 4096 (replicate 8 0) first_new w3 4112 far) second_new

      module _ (m4 : Content) (w4 : IsWritten m3 m4 4112 (3 ∷ 4 ∷ [])) where
        first_there : IsSome (get m4 4096)
        first_there =
            is_some m4 4096 _ (kept_by_write m3 m4 4112 (3 ∷ 4 ∷ []) 4112 (replicate 8 0) second_kept w4 4096 near ∙ after_write m2 m3 4096 (1 ∷ 2 ∷ []) 4096 (replicate 8 0) first_new w3)

        nothing_else : (at : ℕ) → at ≢ 4096 → at ≢ 4112 → get m4 at ≡ None
        nothing_else at not_first not_second =
            kept_by_write m3 m4 4112 (3 ∷ 4 ∷ []) 4112 (replicate 8 0) second_kept w4 at not_second
            ∙ (kept_by_write m2 m3 4096 (1 ∷ 2 ∷ []) 4096 (replicate 8 0) first_new w3 at not_first
            ∙ (kept_by_map m1 m2 4112 (replicate 8 0) at e2 not_second
            ∙ (kept_by_map m0 m1 4096 (replicate 8 0) at e1 not_first
            ∙ (ap (λ c. get c at) e0 ∙ get-empty nat_cmp at))))

        -- the first taken away
        module _ (m5 : Content) (e5 : m5 ≡ without m4 4096) where
          second_left : (bytes : List ℕ) × Holds m5 4112 bytes 4112 2
          second_left =
              let h = holds_after m3 m4 4112 (3 ∷ 4 ∷ []) 4112 (replicate 8 0) second_kept w4 4112 2 (omega arith) (omega (arith, length-replicate {A = ℕ} 8 0)) in
              (_, holds_in m4 m5 4112 _ 4112 2 (kept_by_unmap m4 m5 4096 4112 e5 far) h)

          second_inside : IsInside m5 4112 2
          second_inside = (4112, second_left.0, second_left.1)

          clear_first : IsClear m5 4096 8
          clear_first = clear_without m4 m5 4096 4096 8 e5 (λ at bytes other there. by_place at bytes other there (cases_eq at 4112))
            where
              by_place : (at : ℕ) (bytes : List ℕ) → at ≢ 4096 → get m4 at ≡ Some bytes → (at ≡ 4112) ⊎ (at ≢ 4112) → (at + length bytes ≤ 4096) ⊎ (4096 + 8 ≤ at)
              by_place at bytes other there (inl same) = inr (omega (arith, same))
              by_place at bytes other there (inr differs) = let none = nothing_else at other differs in absurd (cc (none, there))

          -- and made again
          module _ (m6 : Content) (e6 : m6 ≡ insert m5 4096 (replicate 8 0)) where
            first_again : IsInside m6 4096 2
            first_again = (4096, replicate 8 0, mapped m5 m6 4096 8 4096 2 e6 (omega arith) (omega arith))

            second_still : IsInside m6 4112 2
            second_still = (4112, second_left.0, holds_in m5 m6 4112 second_left.0 4112 2 (kept_by_map m5 m6 4096 (replicate 8 0) 4112 e6 far) second_left.1)

pub map-requires-clause-clear : goal.map-requires-clause-clear
map-requires-clause-clear g c = clear_empty (g.B.Bytes.content c.fresh-memory.result) 4096 8 c.fresh-memory.ensures

pub map-requires-2-clause-clear : goal.map-requires-2-clause-clear
map-requires-2-clause-clear g c =
    clear_second (g.B.Bytes.content c.fresh-memory.result) (g.B.Bytes.content c.map.new.self) c.fresh-memory.ensures c.in_ok-map.ensures.ok

pub write-requires : goal.write-requires
write-requires g c =
    (4096, replicate 8 0, first_new (g.B.Bytes.content c.fresh-memory.result) (g.B.Bytes.content c.map.new.self) c.fresh-memory.ensures c.in_ok-map.ensures.ok (g.B.Bytes.content c.map-2.new.self) c.in_ok-map-2.ensures.ok)

pub write-requires-2 : goal.write-requires-2
write-requires-2 g c =
    (4112, replicate 8 0, second_kept (g.B.Bytes.content c.fresh-memory.result) (g.B.Bytes.content c.map.new.self) c.fresh-memory.ensures c.in_ok-map.ensures.ok (g.B.Bytes.content c.map-2.new.self) c.in_ok-map-2.ensures.ok (g.B.Bytes.content c.write.new.self) c.write.ensures)

pub unmap-requires : goal.unmap-requires
unmap-requires g c =
    first_there (g.B.Bytes.content c.fresh-memory.result) (g.B.Bytes.content c.map.new.self) c.fresh-memory.ensures c.in_ok-map.ensures.ok (g.B.Bytes.content c.map-2.new.self) c.in_ok-map-2.ensures.ok (g.B.Bytes.content c.write.new.self) c.write.ensures (g.B.Bytes.content c.write-2.new.self) c.write-2.ensures

pub read-requires-clause-inside : goal.read-requires-clause-inside
read-requires-clause-inside g c =
    second_inside (g.B.Bytes.content c.fresh-memory.result) (g.B.Bytes.content c.map.new.self) c.fresh-memory.ensures c.in_ok-map.ensures.ok (g.B.Bytes.content c.map-2.new.self) c.in_ok-map-2.ensures.ok (g.B.Bytes.content c.write.new.self) c.write.ensures (g.B.Bytes.content c.write-2.new.self) c.write-2.ensures (g.B.Bytes.content c.unmap.new.self) c.unmap.ensures

pub map-requires-3-clause-clear : goal.map-requires-3-clause-clear
map-requires-3-clause-clear g c =
    clear_first (g.B.Bytes.content c.fresh-memory.result) (g.B.Bytes.content c.map.new.self) c.fresh-memory.ensures c.in_ok-map.ensures.ok (g.B.Bytes.content c.map-2.new.self) c.in_ok-map-2.ensures.ok (g.B.Bytes.content c.write.new.self) c.write.ensures (g.B.Bytes.content c.write-2.new.self) c.write-2.ensures (g.B.Bytes.content c.unmap.new.self) c.unmap.ensures

pub read-requires-2-clause-inside : goal.read-requires-2-clause-inside
read-requires-2-clause-inside g c =
    first_again (g.B.Bytes.content c.fresh-memory.result) (g.B.Bytes.content c.map.new.self) c.fresh-memory.ensures c.in_ok-map.ensures.ok (g.B.Bytes.content c.map-2.new.self) c.in_ok-map-2.ensures.ok (g.B.Bytes.content c.write.new.self) c.write.ensures (g.B.Bytes.content c.write-2.new.self) c.write-2.ensures (g.B.Bytes.content c.unmap.new.self) c.unmap.ensures (g.B.Bytes.content c.map-3.new.self) c.in_ok-map-3.ensures.ok

pub read-requires-3-clause-inside : goal.read-requires-3-clause-inside
read-requires-3-clause-inside g c =
    second_still (g.B.Bytes.content c.fresh-memory.result) (g.B.Bytes.content c.map.new.self) c.fresh-memory.ensures c.in_ok-map.ensures.ok (g.B.Bytes.content c.map-2.new.self) c.in_ok-map-2.ensures.ok (g.B.Bytes.content c.write.new.self) c.write.ensures (g.B.Bytes.content c.write-2.new.self) c.write-2.ensures (g.B.Bytes.content c.unmap.new.self) c.unmap.ensures (g.B.Bytes.content c.map-3.new.self) c.in_ok-map-3.ensures.ok
