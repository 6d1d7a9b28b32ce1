-- Objects stand in order, with a gap behind each.
use Rattle.std.proofs.Common.{◌≡◌, refl, ap, ◌⊎◌, inl, inr, ℕ, zero, suc, ◌+◌, ◌<◌, ◌≤◌, List, [], ◌∷◌, ◌++◌, Some, arith}
use Rattle.std.specs.Prelude.{slice_get}
use Rattle.std.proofs.lemmas.Bool.{cases_lt}
use Rattle.lu_base.specs.Addresses.{address_after, addresses_from, next_from, StandsAt, LiesIn}

pub after_above : (a size : ℕ) → a + size + 16 ≤ address_after a size
after_above a size = omega arith

pub after_low : (a size : ℕ) → address_after a size ≤ a + size + 31
after_low a size = omega arith

pub next_above : (first : ℕ) (sizes : List ℕ) → first ≤ next_from first sizes
next_above first [] = omega arith
next_above first (size ∷ sizes) = omega (arith, after_above first size, next_above (address_after first size) sizes)

-- appending changes no address
pub addresses_append : (first : ℕ) (sizes more : List ℕ) → addresses_from first (sizes ++ more) ≡ addresses_from first sizes ++ addresses_from (next_from first sizes) more
addresses_append first [] more = refl
addresses_append first (size ∷ sizes) more = ap (λ l. first ∷ l) (addresses_append (address_after first size) sizes more)

pub next_append : (first : ℕ) (sizes more : List ℕ) → next_from first (sizes ++ more) ≡ next_from (next_from first sizes) more
next_append first [] more = refl
next_append first (size ∷ sizes) more = next_append (address_after first size) sizes more

pub address_stays : (first : ℕ) (sizes more : List ℕ) (k a : ℕ) → slice_get (addresses_from first sizes) k ≡ Some a → slice_get (addresses_from first (sizes ++ more)) k ≡ Some a
address_stays first [] more k a e = absurd (cc)
address_stays first (size ∷ sizes) more zero a e = e
address_stays first (size ∷ sizes) more (suc k) a e = address_stays (address_after first size) sizes more k a e

-- each object has an address
pub stands_at : (first : ℕ) (sizes : List ℕ) (k size : ℕ) → slice_get sizes k ≡ Some size → (a : ℕ) × StandsAt first sizes k a size
stands_at first [] k size e = absurd (cc)
stands_at first (s ∷ sizes) zero size e = (first, record { stands = refl; has = e })
stands_at first (s ∷ sizes) (suc k) size e =
    let rest = stands_at (address_after first s) sizes k size e in
    (rest.0, record { stands = rest.1.stands; has = e })

-- no object stands below the first
pub none_below : (first : ℕ) (sizes : List ℕ) (k a size : ℕ) → StandsAt first sizes k a size → first ≤ a
none_below first [] k a size at = let e = at.has in absurd (cc)
none_below first (s ∷ sizes) zero a size at = let e = at.stands in let same : first ≡ a = cc in omega arith
none_below first (s ∷ sizes) (suc k) a size at =
    omega (arith, after_above first s, none_below (address_after first s) sizes k a size (record { stands = at.stands; has = at.has }))

-- each ends before the next address
pub ends_below : (first : ℕ) (sizes : List ℕ) (k a size : ℕ) → StandsAt first sizes k a size → a + size < next_from first sizes
ends_below first [] k a size at = let e = at.has in absurd (cc)
ends_below first (s ∷ sizes) zero a size at =
    let e = at.stands in
    let f = at.has in
    let here : first ≡ a = cc in
    let long : s ≡ size = cc in
    omega (arith, after_above first s, next_above (address_after first s) sizes)
ends_below first (s ∷ sizes) (suc k) a size at = ends_below (address_after first s) sizes k a size (record { stands = at.stands; has = at.has })

-- an earlier object ends before a later one begins, with at least one byte between
pub ends_before : (first : ℕ) (sizes : List ℕ) (j k a b m n : ℕ) → j < k → StandsAt first sizes j a m → StandsAt first sizes k b n → a + m + 16 ≤ b
ends_before first [] j k a b m n lt at later = let e = at.has in absurd (cc)
ends_before first (s ∷ sizes) j zero a b m n lt at later = absurd (omega arith)
ends_before first (s ∷ sizes) zero (suc k) a b m n lt at later =
    let e = at.stands in
    let f = at.has in
    let here : first ≡ a = cc in
    let long : s ≡ m = cc in
    omega (arith, after_above first s, none_below (address_after first s) sizes k b n (record { stands = later.stands; has = later.has }))
ends_before first (s ∷ sizes) (suc j) (suc k) a b m n lt at later =
    ends_before (address_after first s) sizes j k a b m n (omega arith) (record { stands = at.stands; has = at.has }) (record { stands = later.stands; has = later.has })

-- an address lies in at most one object, its end included
pub lies_in_one : (first : ℕ) (sizes : List ℕ) (j k a : ℕ) → LiesIn first sizes j a → LiesIn first sizes k a → j ≡ k
lies_in_one first sizes j k a one two = by_order (cases_lt j k) (cases_lt k j)
  where
    by_order : (j < k) ⊎ (k ≤ j) → (k < j) ⊎ (j ≤ k) → j ≡ k
    by_order (inl lt) other =
        let h = ends_before first sizes j k one.start two.start one.size two.size lt one.object two.object in
        absurd (omega (arith, h, one.high, two.low))
    by_order (inr ge) (inl lt) =
        let h = ends_before first sizes k j two.start one.start two.size one.size lt two.object one.object in
        absurd (omega (arith, h, two.high, one.low))
    by_order (inr ge) (inr le) = omega arith
