-- Laws of memory: what a write, a new object and an object less leave, and what is read then.
use Rattle.std.proofs.Common.{◌≡◌, ◌≢◌, ◌∙◌, refl, ap, sym, subst, ◌⊎◌, inl, inr, ℕ, ◌≤◌, ◌+◌, ◌-◌, List, length, replicate, Some, None, IsSome, arith}
use Rattle.std.proofs.lemmas.List.{length-replicate}
use Rattle.std.proofs.lemmas.Bool.{cases_eq}
use Rattle.std.specs.Cmp.{nat_cmp_total}
use Rattle.std.specs.Ordering.{nat_cmp}
use Rattle.std.specs.FinMap.{empty, get, insert, remove as without, get-empty, get-insert, get-remove}
use Rattle.lu_spec.specs.Splice.{piece_at, spliced}
use Rattle.lu_spec.proofs.SpliceLemmas.{length-spliced, piece_at-spliced, piece_at-spliced_before, piece_at-spliced_after}
use Rattle.bm_mem.specs.Content.{Content, Holds, IsClear, IsRead, IsWritten}
use Rattle.bm_mem.proofs.Entries.{address_refl, other_address}

-- at the address of a change, and at others
pub get-insert_there : (m : Content) (start : ℕ) (bytes : List ℕ) → get (insert m start bytes) start ≡ Some bytes
get-insert_there m start bytes = get-insert nat_cmp_total m start bytes start ∙ rw (address_refl start) refl

pub get-insert_else : (m : Content) (start : ℕ) (bytes : List ℕ) (other : ℕ) → other ≢ start → get (insert m start bytes) other ≡ get m other
get-insert_else m start bytes other differs = get-insert nat_cmp_total m start bytes other ∙ rw (other_address other start differs) refl

pub get-remove_there : (m : Content) (start : ℕ) → get (without m start) start ≡ None
get-remove_there m start = get-remove nat_cmp_total m start start ∙ rw (address_refl start) refl

pub get-remove_else : (m : Content) (start other : ℕ) → other ≢ start → get (without m start) other ≡ get m other
get-remove_else m start other differs = get-remove nat_cmp_total m start other ∙ rw (other_address other start differs) refl

-- an object that another change leaves
pub holds_in : (m n : Content) (start : ℕ) (bytes : List ℕ) (addr len : ℕ) → get n start ≡ get m start → Holds m start bytes addr len → Holds n start bytes addr len
holds_in m n start bytes addr len same h = record { at = same ∙ h.at; low = h.low; high = h.high }

-- a new object is zero, and the others are as they were
pub mapped : (m n : Content) (start size addr len : ℕ) → n ≡ insert m start (replicate size 0) → start ≤ addr → addr + len ≤ start + size → Holds n start (replicate size 0) addr len
mapped m n start size addr len e low high = record {
  at = ap (λ c. get c start) e ∙ get-insert_there m start (replicate size 0);
  low = low;
  high = omega (arith, high, length-replicate {A = ℕ} size 0);
}

pub kept_by_map : (m n : Content) (start : ℕ) (new : List ℕ) (other : ℕ) → n ≡ insert m start new → other ≢ start → get n other ≡ get m other
kept_by_map m n start new other e differs = ap (λ c. get c other) e ∙ get-insert_else m start new other differs

-- an object is taken away, and the others are as they were
pub kept_by_unmap : (m n : Content) (start other : ℕ) → n ≡ without m start → other ≢ start → get n other ≡ get m other
kept_by_unmap m n start other e differs = ap (λ c. get c other) e ∙ get-remove_else m start other differs

-- a write
module _ (m n : Content) (addr : ℕ) (piece : List ℕ) (start : ℕ) (bytes : List ℕ) (h : Holds m start bytes addr (length piece)) (w : IsWritten m n addr piece) where
  within : addr - start + length piece ≤ length bytes
  within = omega (arith, h.low, h.high)

  pub after_write : get n start ≡ Some (spliced bytes (addr - start) piece)
  after_write = ap (λ c. get c start) (w start bytes h) ∙ get-insert_there m start (spliced bytes (addr - start) piece)

  -- the object still has its ranges
  pub holds_after : (at count : ℕ) → start ≤ at → at + count ≤ start + length bytes → Holds n start (spliced bytes (addr - start) piece) at count
  holds_after at count low high = record {
    at = after_write;
    low = low;
    high = omega (arith, high, length-spliced bytes (addr - start) piece within);
  }

  -- what is read is what was written
  pub reads_back : (read : List ℕ) → IsRead n addr (length piece) read → read ≡ piece
  reads_back read r =
      r start (spliced bytes (addr - start) piece) (holds_after addr (length piece) h.low h.high) ∙ piece_at-spliced bytes (addr - start) piece within

  -- other objects are as they were
  pub kept_by_write : (other : ℕ) → other ≢ start → get n other ≡ get m other
  kept_by_write other differs =
      ap (λ c. get c other) (w start bytes h) ∙ get-insert_else m start (spliced bytes (addr - start) piece) other differs

  -- and so is each range that shares no byte with the piece
  pub reads_elsewhere : (other : ℕ) (kept : List ℕ) (at count : ℕ) → Holds m other kept at count → (at + count ≤ addr) ⊎ (addr + length piece ≤ at) → (read : List ℕ) → IsRead n at count read → IsRead m at count read
  reads_elsewhere other kept at count k side read r = λ first given g. by_place first given g (cases_eq first start)
    where
      beside : (given : List ℕ) → Holds m start given at count → given ≡ bytes → (at + count ≤ addr) ⊎ (addr + length piece ≤ at) → read ≡ piece_at given (at - start) count
      beside given g same (inl before) =
          r start (spliced bytes (addr - start) piece) (holds_after at count g.low (omega (arith, g.high, ap length same)))
          ∙ (piece_at-spliced_before bytes (addr - start) piece (at - start) count within (omega (arith, before, g.low)) ∙ ap (λ l. piece_at l (at - start) count) (sym same))
      beside given g same (inr after) =
          r start (spliced bytes (addr - start) piece) (holds_after at count g.low (omega (arith, g.high, ap length same)))
          ∙ (piece_at-spliced_after bytes (addr - start) piece (at - start) count within (omega (arith, after, h.low)) ∙ ap (λ l. piece_at l (at - start) count) (sym same))

      by_place : (first : ℕ) (given : List ℕ) → Holds m first given at count → (first ≡ start) ⊎ (first ≢ start) → read ≡ piece_at given (at - first) count
      by_place first given g (inl same) =
          let here : Holds m start given at count = subst (λ s. Holds m s given at count) same g in
          let one : Some given ≡ Some bytes = sym here.at ∙ h.at in
          let equal : given ≡ bytes = cc in
          beside given here equal side ∙ ap (λ s. piece_at given (at - s) count) (sym same)
      by_place first given g (inr differs) = r first given (holds_in m n first given at count (kept_by_write first differs) g)

-- memory without objects is clear
pub clear_empty : (m : Content) (addr len : ℕ) → m ≡ empty → IsClear m addr len
clear_empty m addr len e = λ start bytes at.
    let none : get m start ≡ None = ap (λ c. get c start) e ∙ get-empty nat_cmp start in absurd (cc (none, at))

pub is_some : (m : Content) (start : ℕ) (bytes : List ℕ) → get m start ≡ Some bytes → IsSome (get m start)
is_some m start bytes at = rw at refl
