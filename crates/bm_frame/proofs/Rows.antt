-- What the search by address finds.
use Rattle.std.proofs.Common.{◌≡◌, refl, sym, subst, ℕ, zero, suc, ◌+◌, ◌<◌, ◌≤◌, ◌^◌, List, [], ◌∷◌, Option, Some, None, arith}
use Rattle.std.specs.Prelude.{find, slice_get, All, IfSome}
use Rattle.bm_objects.specs.declared.row.Row.{Row}
use Rattle.bm_objects.specs.Table.{end_of, reaches, IsTable}
use Rattle.bm_objects.proofs.TableLemmas.{found, reaches_is}

pub record IsFound (rows : List Row) (a : ℕ) (r : Row) : Type 0 where
  pub index : ℕ
  pub at : slice_get rows index ≡ Some r
  pub low : r.addr ≤ a
  pub high : a ≤ r.addr + r.size
  pub end : r.addr + r.size < 2 ^ 32

ended : (rows : List Row) → All (λ r. end_of r < 2 ^ 32) rows → (k : ℕ) (r : Row) → slice_get rows k ≡ Some r → end_of r < 2 ^ 32
ended [] h k r e = absurd (cc)
ended (x ∷ rows) h zero r e = let same : x ≡ r = cc in subst (λ r. end_of r < 2 ^ 32) same (h 0 x (omega arith))
ended (x ∷ rows) h (suc k) r e = ended rows (λ k d lt. h (suc k) d (omega arith)) k r e

pub is_found : (rows : List Row) → IsTable rows → (a : ℕ) (r : Row) → find (reaches a) rows ≡ Some r → IsFound rows a r
is_found rows t a r e =
    let f = found (reaches a) rows r e in
    let b = reaches_is a r f.2 in
    record { index = f.0; at = f.1; low = b.0; high = b.1; end = ended rows t.ends f.0 r f.1 }

pub found_none : (rows : List Row) → IsTable rows → (a : ℕ) → 2 ^ 32 ≤ a → find (reaches a) rows ≡ None
found_none rows t a h = by_found (find (reaches a) rows) refl
  where
    by_found : (o : Option Row) → find (reaches a) rows ≡ o → o ≡ None
    by_found None e = refl
    by_found (Some r) e = let f = is_found rows t a r e in absurd (omega (arith, f.high, f.end))

pub found_low : (rows : List Row) (a : ℕ) (o : Option Row) → IsTable rows → o ≡ find (reaches a) rows → IfSome o (λ r. r.addr ≤ a)
found_low rows a None t e = tt
found_low rows a (Some r) t e = (is_found rows t a r (sym e)).low

pub found_high : (rows : List Row) (a : ℕ) (o : Option Row) → IsTable rows → o ≡ find (reaches a) rows → IfSome o (λ r. a ≤ r.addr + r.size)
found_high rows a None t e = tt
found_high rows a (Some r) t e = (is_found rows t a r (sym e)).high

pub found_end : (rows : List Row) (a : ℕ) (o : Option Row) → IsTable rows → o ≡ find (reaches a) rows → IfSome o (λ r. r.addr + r.size < 2 ^ 32)
found_end rows a None t e = tt
found_end rows a (Some r) t e = (is_found rows t a r (sym e)).end
