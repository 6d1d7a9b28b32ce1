-- The search by address finds the first row that has it.
use Rattle.std.proofs.Common.{◌≡◌, ◌∙◌, sym, ap, refl, subst, ℕ, zero, suc, ◌+◌, ◌<◌, ◌≤◌, ◌^◌, Bool, true, false, List, [], ◌∷◌, ◌++◌, take, length, get_or, Some, None, slice_get, arith}
use Rattle.std.specs.List.{position_from}
use Rattle.std.proofs.lemmas.Bool.Decides.{nat_tests}
use Rattle.std.proofs.lemmas.Option.{get_or_from_slice_get}
use Rattle.bm_objects.specs.declared.row.Row.{Row}
use Rattle.bm_objects.specs.Table.{end_of, reaches, IsTable}
use Rattle.bm_objects.specs.Search.{IsLastUpTo, AllAbove}
use Rattle.bm_objects.proofs.TableLemmas.{find_above, find_behind, not_found}

none_passes : (p : Row → Bool) (rows : List Row) (j : ℕ) → ((k : ℕ) (row : Row) → slice_get rows k ≡ Some row → p row ≡ false) → position_from p j rows ≡ None
none_passes p [] j h = refl
none_passes p (x ∷ rows) j h = rw (h 0 x refl) (none_passes p rows _ (λ k row at. h (suc k) row at))

first_passes : (p : Row → Bool) (rows : List Row) (i j n : ℕ) (row : Row) → j + i ≡ n → slice_get rows i ≡ Some row → p row ≡ true → ((k : ℕ) (r : Row) → k < i → slice_get rows k ≡ Some r → p r ≡ false) → position_from p j rows ≡ Some n
first_passes p [] i j n row sum at passes before = absurd (cc)
first_passes p (x ∷ rows) zero j n row sum at passes before =
    let same : x ≡ row = cc in
    let head : p x ≡ true = ap p same ∙ passes in
    let here : j ≡ n = omega (arith, sum) in
    rw head (ap Some here)
first_passes p (x ∷ rows) (suc i) j n row sum at passes before =
    rw (before 0 x (omega arith) refl) (first_passes p rows i _ n row (omega (arith, sum)) at passes (λ k r below there. before (suc k) r (omega arith) there))

pub none_above : (rows : List Row) (addr : ℕ) → AllAbove rows addr → position_from (reaches addr) 0 rows ≡ None
none_above rows addr above =
    none_passes (reaches addr) rows 0 (not_found (reaches addr) rows (find_above rows addr above))

module _ (rows : List Row) (t : IsTable rows) (addr i : ℕ) (row : Row) (last : IsLastUpTo rows addr i) (at : slice_get rows i ≡ Some row) where
  begins : row.addr ≤ addr
  begins = subst (λ r. r.addr ≤ addr) (get_or_from_slice_get rows i row row at) (last.begins row)

  pub at_last : addr ≤ end_of row → position_from (reaches addr) 0 rows ≡ Some i
  at_last high =
      let low = begins in
      first_passes (reaches addr) rows i 0 i row (omega arith) at (grind (arith, nat_tests, low, high)) (λ k r below there.
      let h = t.apart k i row below last.inside in
      let first : end_of (get_or rows k row) ≡ end_of r = ap end_of (get_or_from_slice_get rows k r row there) in
      let second : (get_or rows i row).addr ≡ row.addr = ap (λ r. r.addr) (get_or_from_slice_get rows i row row at) in
      let behind : end_of r < addr = omega (arith, h, first, second, low) in
      grind (arith, nat_tests, behind))

  pub behind_last : end_of row < addr → position_from (reaches addr) 0 rows ≡ None
  behind_last behind =
      none_passes (reaches addr) rows 0 (not_found (reaches addr) rows (find_behind rows t addr i row last (sym (get_or_from_slice_get rows i row row at)) behind))

-- an index is no greater than the address of its row
pub index_low : (rows : List Row) → IsTable rows → (k : ℕ) (d : Row) → k < length rows → k ≤ (get_or rows k d).addr
index_low rows t zero d inside = omega arith
index_low rows t (suc k) d inside =
    let h = t.apart k (suc k) d (omega arith) inside in
    let low = index_low rows t k d (omega arith) in
    omega (arith, h, low)

pub index_bound : (rows : List Row) → IsTable rows → (k : ℕ) (d : Row) → k < length rows → k < 2 ^ 32
index_bound rows t k d inside =
    let h = index_low rows t k d inside in
    let end = t.ends k d inside in
    omega (arith, h, end)

-- a row by its index
pub at_index : (rows : List Row) (k : ℕ) (d : Row) → k < length rows → slice_get rows k ≡ Some (get_or rows k d)
at_index [] k d inside = absurd (omega arith)
at_index (x ∷ rows) zero d inside = refl
at_index (x ∷ rows) (suc k) d inside = at_index rows k d (omega arith)

take_suc : (rows : List Row) (k : ℕ) (row : Row) → slice_get rows k ≡ Some row → take (suc k) rows ≡ take k rows ++ row ∷ []
take_suc [] k row at = absurd (cc)
take_suc (x ∷ rows) zero row at = let same : x ≡ row = cc in ap (λ r. r ∷ []) same
take_suc (x ∷ rows) (suc k) row at = ap (λ l. x ∷ l) (take_suc rows k row at)

-- one more row
pub take_next : (rows : List Row) (k : ℕ) (row : Row) → slice_get rows k ≡ Some row → take (k + 1) rows ≡ take k rows ++ row ∷ []
take_next rows k row at =
    let next : k + 1 ≡ suc k = omega arith in ap (λ n. take n rows) next ∙ take_suc rows k row at
