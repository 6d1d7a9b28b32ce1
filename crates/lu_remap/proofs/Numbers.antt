-- The place of a number among rising numbers.
use Rattle.std.proofs.Common.{◌≡◌, ◌⊎◌, inl, inr, ap, refl, ℕ, zero, suc, ◌+◌, ◌<◌, ◌≤◌, Bool, true, false, nat_eq, cond, List, [], ◌∷◌, ◌++◌, length, get_or, Some, None, arith}
use Rattle.std.specs.Prelude.{filter, is_some}
use Rattle.std.specs.List.{position_from}
use Rattle.std.specs.List.Sorted.{IsStrictlyIncreasing}
use Rattle.std.proofs.lemmas.Bool.{cases_lt}
use Rattle.std.proofs.lemmas.Bool.Decides.{nat_tests}
use Rattle.std.proofs.lemmas.List.Kept.{IsStrictlyIncreasing-filter, AllPairs-from_increasing}
use Rattle.bm_objects.specs.declared.row.Row.{Row}
use Rattle.lu_image.specs.declared.pairing.Pairing.{Pairing}
use Rattle.lu_remap.specs.Shapes.{shape_at, number_if, moved_numbers}

none_at : (p : ℕ → Bool) (xs : List ℕ) (j : ℕ) → ((k : ℕ) → k < length xs → p (get_or xs k 0) ≡ false) → position_from p j xs ≡ None
none_at p [] j h = refl
none_at p (x ∷ xs) j h = rw (h 0 (omega arith)) (none_at p xs _ (λ k inside. h (suc k) (omega arith)))

first_at : (p : ℕ → Bool) (xs : List ℕ) (i j n : ℕ) → j + i ≡ n → i < length xs → p (get_or xs i 0) ≡ true → ((k : ℕ) → k < i → p (get_or xs k 0) ≡ false) → position_from p j xs ≡ Some n
first_at p [] i j n sum inside passes before = absurd (omega arith)
first_at p (x ∷ xs) zero j n sum inside passes before =
    let here : j ≡ n = omega (arith, sum) in rw passes (ap Some here)
first_at p (x ∷ xs) (suc i) j n sum inside passes before =
    rw (before 0 (omega arith)) (first_at p xs i _ n (omega (arith, sum)) (omega arith) passes (λ k below. before (suc k) (omega arith)))

module _ (xs : List ℕ) (rising : IsStrictlyIncreasing xs) where
  pub do_not_fall : (i j : ℕ) → i ≤ j → j < length xs → get_or xs i 0 ≤ get_or xs j 0
  do_not_fall i j le inside = by (cases_lt i j)
    where
      by : (i < j) ⊎ (j ≤ i) → get_or xs i 0 ≤ get_or xs j 0
      by (inl lt) = let h = AllPairs-from_increasing xs rising i j 0 lt inside in omega (arith, h)
      by (inr ge) = let same : i ≡ j = omega arith in let e = ap (λ k. get_or xs k 0) same in omega (arith, e)

  pub found_at : (k i : ℕ) → i < length xs → get_or xs i 0 ≡ k → position_from (nat_eq k) 0 xs ≡ Some i
  found_at k i inside is =
      first_at (nat_eq k) xs i 0 i (omega arith) inside (grind (arith, nat_tests, is)) (λ j below. let h = AllPairs-from_increasing xs rising j i 0 below inside in let less : get_or xs j 0 < k = omega (arith, h, is) in grind (arith, nat_tests, less))

pub none_of : (xs : List ℕ) (k i : ℕ) → ((j : ℕ) → j < i → get_or xs j 0 < k) → ((j : ℕ) → i ≤ j → j < length xs → k < get_or xs j 0) → position_from (nat_eq k) 0 xs ≡ None
none_of xs k i low high = none_at (nat_eq k) xs 0 (λ j inside. by j inside (cases_lt j i))
  where
    by : (j : ℕ) → j < length xs → (j < i) ⊎ (i ≤ j) → nat_eq k (get_or xs j 0) ≡ false
    by j inside (inl lt) = let less = low j lt in grind (arith, nat_tests, less)
    by j inside (inr ge) = let more = high j ge inside in grind (arith, nat_tests, more)

-- the numbers that move are some of the needed ones
moved-filter : (p : Pairing) (rows : List Row) (ks : List ℕ) → moved_numbers p rows ks ≡ filter (λ k. is_some (shape_at p rows k)) ks
moved-filter p rows [] = refl
moved-filter p rows (k ∷ ks) = by (is_some (shape_at p rows k)) (moved-filter p rows ks)
  where
    by : (b : Bool) → moved_numbers p rows ks ≡ filter (λ k. is_some (shape_at p rows k)) ks → number_if b k ++ moved_numbers p rows ks ≡ cond b (k ∷ filter (λ k. is_some (shape_at p rows k)) ks) (filter (λ k. is_some (shape_at p rows k)) ks)
    by true rest = ap (λ l. k ∷ l) rest
    by false rest = rest

pub moved_rise : (p : Pairing) (rows : List Row) (ks : List ℕ) → IsStrictlyIncreasing ks → IsStrictlyIncreasing (moved_numbers p rows ks)
moved_rise p rows ks rising =
    rw (moved-filter p rows ks) (IsStrictlyIncreasing-filter (λ k. is_some (shape_at p rows k)) ks rising)
