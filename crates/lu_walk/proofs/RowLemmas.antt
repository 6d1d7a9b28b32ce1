-- The row of an address.
use Rattle.std.proofs.Common.{◌≡◌, ◌∙◌, ◌⊎◌, inl, inr, refl, ap, sym, subst, Bool, true, false, cond, ℕ, zero, suc, ◌+◌, ◌-◌, ◌<◌, ◌≤◌, List, [], ◌∷◌, ◌++◌, length, get_or, Some, None, slice_get, ◌^◌, arith}
use Rattle.std.specs.Prelude.{filter}
use Rattle.std.specs.List.{range_with_len}
use Rattle.std.specs.Option.{option_map}
use Rattle.std.proofs.lemmas.List.Elements.{filter-append}
use Rattle.std.proofs.lemmas.Option.{slice_get_within, get_or_from_slice_get}
use Rattle.std.proofs.lemmas.Bool.{cases_lt}
use Rattle.std.proofs.lemmas.Bool.Decides.{nat_tests}
use Rattle.bm_objects.specs.declared.row.Row.{Row}
use Rattle.bm_objects.specs.Table.{end_of, reaches, IsTable}
use Rattle.bm_objects.proofs.TableLemmas.{addresses_rise}
use Rattle.lu_walk.specs.Rows.{row_at, IsCountUpTo}

-- nothing reaches
pub row_at-none : (addr : ℕ) (rows : List Row) → ((k : ℕ) (d : Row) → k < length rows → reaches addr (get_or rows k d) ≡ false) → row_at addr rows ≡ None
row_at-none addr [] none = refl
row_at-none addr (row ∷ rows) none =
    ap (λ b. cond b (Some 0) (option_map (λ i. suc i) (row_at addr rows))) (none 0 row (omega arith))
    ∙ ap (option_map (λ i. suc i)) (row_at-none addr rows (λ k d h. none (suc k) d (omega (arith, h))))

-- the first that reaches
pub row_at-first : (addr : ℕ) (rows : List Row) (i : ℕ) (d : Row) → i < length rows → reaches addr (get_or rows i d) ≡ true → ((k : ℕ) (d : Row) → k < i → reaches addr (get_or rows k d) ≡ false) → row_at addr rows ≡ Some i
row_at-first addr [] i d inside here before = absurd (omega (arith, inside))
row_at-first addr (row ∷ rows) zero d inside here before =
    ap (λ b. cond b (Some 0) (option_map (λ i. suc i) (row_at addr rows))) here
row_at-first addr (row ∷ rows) (suc i) d inside here before =
    ap (λ b. cond b (Some 0) (option_map (λ i. suc i) (row_at addr rows))) (before 0 row (omega arith))
    ∙ ap (option_map (λ i. suc i)) (row_at-first addr rows i d (omega (arith, inside)) here (λ k d h. before (suc k) d (omega (arith, h))))

reaches_if : (addr : ℕ) (row : Row) → row.addr ≤ addr → addr ≤ end_of row → reaches addr row ≡ true
reaches_if addr row low high = grind (arith, nat_tests)

below_row : (addr : ℕ) (row : Row) → addr < row.addr → reaches addr row ≡ false
below_row addr row low = grind (arith, nat_tests)

behind_row : (addr : ℕ) (row : Row) → end_of row < addr → reaches addr row ≡ false
behind_row addr row low = grind (arith, nat_tests)

module _ (rows : List Row) (table : IsTable rows) (addr count : ℕ) (counted : IsCountUpTo rows addr count) where
  pub none_up_to : count ≡ 0 → row_at addr rows ≡ None
  none_up_to zeroed =
      row_at-none addr rows (λ k d h. below_row addr (get_or rows k d) (counted.above k d (omega (arith, zeroed)) h))

  module _ (some : 0 < count) where
    abbrev last : ℕ
    last = count - 1

    before : (k : ℕ) (d : Row) → k < last → reaches addr (get_or rows k d) ≡ false
    before k d h =
        let apart = table.apart k last d h (omega (arith, some, counted.within)) in
        let begun = counted.up_to last d (omega (arith, some)) in
        behind_row addr (get_or rows k d) (omega (arith, apart, begun))

    pub last_reaches : (d : Row) → addr ≤ end_of (get_or rows last d) → row_at addr rows ≡ Some last
    last_reaches d high =
        row_at-first addr rows last d (omega (arith, some, counted.within)) (reaches_if addr (get_or rows last d) (counted.up_to last d (omega (arith, some))) high) before

    pub last_ended : ((d : Row) → end_of (get_or rows last d) < addr) → row_at addr rows ≡ None
    last_ended behind = row_at-none addr rows (λ k d h. by k d h (cases_lt k last) (cases_lt last k))
      where
        by : (k : ℕ) (d : Row) → k < length rows → (k < last) ⊎ (last ≤ k) → (last < k) ⊎ (k ≤ last) → reaches addr (get_or rows k d) ≡ false
        by k d h (inl lt) other = before k d lt
        by k d h (inr ge) (inl gt) = below_row addr (get_or rows k d) (counted.above k d (omega (arith, gt, some)) h)
        by k d h (inr ge) (inr le) =
            let here : k ≡ last = omega (arith, ge, le) in
            subst (λ n. reaches addr (get_or rows n d) ≡ false) (sym here) (behind_row addr (get_or rows last d) (behind d))

-- what the row in the middle tells of those before it and behind it
module _ (rows : List Row) (table : IsTable rows) (middle : ℕ) (row : Row) (at : slice_get rows middle ≡ Some row) (addr : ℕ) where
  at_middle : (d : Row) → get_or rows middle d ≡ row
  at_middle d = get_or_from_slice_get rows middle row d at

  pub up_to_middle : row.addr ≤ addr → (k : ℕ) (d : Row) → k < middle + 1 → (get_or rows k d).addr ≤ addr
  up_to_middle low k d h =
      let inside = slice_get_within rows middle row at in
      let rise = addresses_rise rows table k middle d (omega (arith, h)) inside in
      let same : (get_or rows middle d).addr ≡ row.addr = ap (λ (r : Row). r.addr) (at_middle d) in
      omega (arith, rise, same, low)

  pub above_middle : addr < row.addr → (k : ℕ) (d : Row) → middle ≤ k → k < length rows → addr < (get_or rows k d).addr
  above_middle high k d h inside =
      let rise = addresses_rise rows table middle k d h inside in
      let same : (get_or rows middle d).addr ≡ row.addr = ap (λ (r : Row). r.addr) (at_middle d) in
      omega (arith, rise, same, high)

pub row_end : (rows : List Row) → IsTable rows → (i : ℕ) (row : Row) → slice_get rows i ≡ Some row → end_of row < 2 ^ 32
row_end rows table i row at =
    let end = table.ends i row (slice_get_within rows i row at) in
    subst (λ r. end_of r < 2 ^ 32) (get_or_from_slice_get rows i row row at) end

-- one more number
range-more : (n a : ℕ) → range_with_len a (suc n) ≡ range_with_len a n ++ (a + n) ∷ []
range-more zero a = let e : a ≡ a + 0 = omega arith in ap (λ k. k ∷ []) e
range-more (suc n) a =
    let e : (a + 1) + n ≡ a + suc n = omega arith in
    ap (λ ks. a ∷ ks) (range-more n (a + 1) ∙ ap (λ k. range_with_len (a + 1) n ++ k ∷ []) e)

pub filter-range_more : (p : ℕ → Bool) (n : ℕ) (b : Bool) → p n ≡ b → filter p (range_with_len 0 (n + 1)) ≡ filter p (range_with_len 0 n) ++ cond b (n ∷ []) []
filter-range_more p n b e =
    let one : n + 1 ≡ suc n = omega arith in
    let z : 0 + n ≡ n = omega arith in
    ap (λ k. filter p (range_with_len 0 k)) one
    ∙ (ap (filter p) (range-more n 0 ∙ ap (λ k. range_with_len 0 n ++ k ∷ []) z)
    ∙ (filter-append p (range_with_len 0 n) (n ∷ []) ∙ ap (λ d. filter p (range_with_len 0 n) ++ cond d (n ∷ []) []) e))
