-- The notes of a dump, one by one.
use Rattle.std.proofs.Common.{◌≡◌, ◌∙◌, refl, ap, sym, cond, ℕ, zero, suc, ◌+◌, ◌≤◌, List, [], ◌∷◌, ◌++◌, length, take, drop, Some, arith, append_assoc}
use Rattle.std.specs.Prelude.{slice_get}
use Rattle.lu_lines.specs.declared.note.Note.{Note}
use Rattle.src_tree.specs.declared.program.Program.{Program}
use Rattle.bm_mem.specs.Content.{Content}
use Rattle.bm_objects.specs.declared.row.Row.{Row}
use Rattle.cg_server.specs.Dump.{object_note, live_notes}

-- all of the bytes
pub all_of : (bytes : List ℕ) (n k : ℕ) → length bytes ≡ n → k ≡ 0 → take n (drop k bytes) ≡ bytes
all_of bytes n k e z = ap (λ k. take n (drop k bytes)) z ∙ (ap (λ n. take n bytes) (sym e) ∙ whole bytes)
  where
    whole : (l : List ℕ) → take (length l) l ≡ l
    whole [] = refl
    whole (x ∷ l) = ap (λ l. x ∷ l) (whole l)

module _ (p : Program) (m : Content) where
  -- the notes from row k on, the first apart
  next_notes : (j : ℕ) (rows : List Row) (k : ℕ) (r : Row) → slice_get rows k ≡ Some r → live_notes p m j (drop k rows) ≡ cond r.live (object_note p m j r ∷ []) [] ++ live_notes p m (j + 1) (drop (suc k) rows)
  next_notes j [] k r e = absurd (cc)
  next_notes j (x ∷ rows) zero r e = let same : x ≡ r = cc in ap (λ x. cond x.live (object_note p m j x ∷ []) [] ++ live_notes p m (j + 1) rows) same
  next_notes j (x ∷ rows) (suc k) r e = next_notes j rows k r e

  behind : (k : ℕ) (rows : List Row) (r : Row) → slice_get rows k ≡ Some r → live_notes p m k (drop k rows) ≡ cond r.live (object_note p m k r ∷ []) [] ++ live_notes p m (k + 1) (drop (k + 1) rows)
  behind k rows r e =
      let next : suc k ≡ k + 1 = omega arith in
      next_notes k rows k r e ∙ ap (λ n. cond r.live (object_note p m k r ∷ []) [] ++ live_notes p m (k + 1) (drop n rows)) next

  -- the notes up to the next row
  pub one_more : (notes more all : List Note) (k : ℕ) (rows : List Row) (r : Row) → slice_get rows k ≡ Some r → more ≡ notes ++ cond r.live (object_note p m k r ∷ []) [] → notes ++ live_notes p m k (drop k rows) ≡ all → more ++ live_notes p m (k + 1) (drop (k + 1) rows) ≡ all
  one_more notes more all k rows r e is h =
      ap (λ l. l ++ live_notes p m (k + 1) (drop (k + 1) rows)) is
      ∙ (append_assoc notes (cond r.live (object_note p m k r ∷ []) []) (live_notes p m (k + 1) (drop (k + 1) rows))
      ∙ (sym (ap (λ l. notes ++ l) (behind k rows r e)) ∙ h))

  pub none_left : (k : ℕ) (rows : List Row) → length rows ≤ k → live_notes p m k (drop k rows) ≡ []
  none_left k rows h = ap (live_notes p m k) (past rows k h)
    where
      past : (l : List Row) (k : ℕ) → length l ≤ k → drop k l ≡ []
      past [] zero h = refl
      past [] (suc k) h = refl
      past (x ∷ l) zero h = absurd (omega (arith, h))
      past (x ∷ l) (suc k) h = past l k (omega (arith, h))
