-- The bytes of an object as they are read whole.
use Rattle.std.proofs.Common.{◌≡◌, ◌∙◌, ap, sym, ℕ, ◌-◌, List, ◌++◌, length, take, drop, replicate, Some, arith}
use Rattle.std.specs.FinMap.{get}
use Rattle.std.proofs.lemmas.List.{length-replicate, take-append-le}
use Rattle.std.proofs.Math.Seq.{take-length}
use Rattle.lu_spec.specs.Splice.{piece_at}
use Rattle.bm_mem.specs.Content.{Content, Holds, IsRead}

module _ (m : Content) (addr size : ℕ) (bytes : List ℕ) (at : get m addr ≡ Some bytes) (long : length bytes ≡ size) where
  held : (n : ℕ) → n ≡ size → Holds m addr bytes addr n
  held n same = record { at = at; low = omega arith; high = omega (arith, long, same) }

  whole_piece : (n : ℕ) → n ≡ size → piece_at bytes (addr - addr) n ≡ bytes
  whole_piece n same =
      let start : addr - addr ≡ 0 = omega arith in
      ap (λ k. take n (drop k bytes)) start ∙ (ap (λ k. take k bytes) (same ∙ sym long) ∙ take-length bytes)

  pub read_whole : (old new items : List ℕ) (len : ℕ) → items ≡ replicate size 0 → old ≡ items → IsRead m addr (length old) new → length new ≡ length old → len ≡ length items → get m addr ≡ Some (take len (new ++ drop (length new) items))
  read_whole old new items len zeroed same read kept counted =
      let sized : length items ≡ size = ap length zeroed ∙ length-replicate size 0 in
      let count : length old ≡ size = ap length same ∙ sized in
      let is : new ≡ bytes = read addr bytes (held (length old) count) ∙ whole_piece (length old) count in
      let front : len ≡ length new = counted ∙ (sized ∙ sym (kept ∙ count)) in
      let kept_front : take len (new ++ drop (length new) items) ≡ new = ap (λ n. take n (new ++ drop (length new) items)) front ∙ (take-append-le (length new) new (drop (length new) items) (omega arith) ∙ take-length new) in
      at ∙ ap Some (sym (kept_front ∙ is))
