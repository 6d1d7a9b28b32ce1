-- Objects in address order as a finite map: which of them has a range, and what a change of one leaves.
use Rattle.std.proofs.Common.{◌≡◌, ◌≢◌, ◌∙◌, refl, ap, sym, Bool, true, false, cond, ◌⊎◌, inl, inr, ℕ, zero, suc, ◌<◌, ◌≤◌, ◌+◌, ◌^◌, List, [], ◌∷◌, length, get_or, Some, Any, nat_le, arith}
use Rattle.std.specs.Ordering.{nat_cmp, eq_by_cmp}
use Rattle.std.specs.Cmp.{nat_cmp_total}
use Rattle.std.specs.FinMap.{find, get, from_entries, get-from_entries}
use Rattle.std.specs.List.Sorted.{IsNonDecreasingBy, IsPartitionPoint}
use Rattle.std.proofs.lemmas.Bool.{cases_lt}
use Rattle.std.proofs.lemmas.Bool.Decides.{nat_tests}
use Rattle.bm_mem.specs.Layout.{Entry, IsLaidOutFrom, IsLaidOut, IsCountUpTo, IsPlaceOf}
use Rattle.bm_mem.specs.Content.{Content, Holds}

abbrev pub end_of : Entry → ℕ
end_of e = e.0 + length e.1

-- the map of the entries
abbrev pub content_of : List Entry → Content
content_of es = from_entries es

-- the comparison of addresses
abbrev pub same_address : ℕ → ℕ → Bool
same_address a b = eq_by_cmp nat_cmp a b

pub equal_address : (a b : ℕ) → same_address a b ≡ true → a ≡ b
equal_address a b e = grind (arith, nat_tests)

pub other_address : (a b : ℕ) → a ≢ b → same_address a b ≡ false
other_address a b e = grind (arith, nat_tests)

pub address_refl : (a : ℕ) → same_address a a ≡ true
address_refl a = grind (arith, nat_tests)

-- the order of the entries
pub from_bound : (bound : ℕ) (es : List Entry) → IsLaidOutFrom bound es → (k : ℕ) (d : Entry) → k < length es → bound ≤ (get_or es k d).0
from_bound bound [] h k d inside = absurd (omega arith)
from_bound bound (e ∷ es) h zero d inside = h.0
from_bound bound (e ∷ es) h (suc k) d inside = let r = from_bound (end_of e) es h.3 k d (omega arith) in omega (arith, h.0, r)

pub apart : (bound : ℕ) (es : List Entry) → IsLaidOutFrom bound es → (i j : ℕ) (d : Entry) → i < j → j < length es → end_of (get_or es i d) ≤ (get_or es j d).0
apart bound [] h i j d ij inside = absurd (omega arith)
apart bound (e ∷ es) h i zero d ij inside = absurd (omega arith)
apart bound (e ∷ es) h zero (suc j) d ij inside = from_bound (end_of e) es h.3 j d (omega arith)
apart bound (e ∷ es) h (suc i) (suc j) d ij inside = apart (end_of e) es h.3 i j d (omega arith) (omega arith)

pub sizes : (bound : ℕ) (es : List Entry) → IsLaidOutFrom bound es → (k : ℕ) (d : Entry) → k < length es → (0 < length (get_or es k d).1) × (end_of (get_or es k d) < 2 ^ 32)
sizes bound [] h k d inside = absurd (omega arith)
sizes bound (e ∷ es) h zero d inside = (h.1, h.2)
sizes bound (e ∷ es) h (suc k) d inside = sizes (end_of e) es h.3 k d (omega arith)

pub addresses_rise : (es : List Entry) → IsLaidOut es → IsNonDecreasingBy (λ e. e.0) es
addresses_rise es h = λ i j d ij inside. by_order i j d ij inside (cases_lt i j)
  where
    by_order : (i j : ℕ) (d : Entry) → i ≤ j → j < length es → (i < j) ⊎ (j ≤ i) → (get_or es i d).0 ≤ (get_or es j d).0
    by_order i j d ij inside (inl lt) = let r = apart 0 es h i j d lt inside in omega (arith, r)
    by_order i j d ij inside (inr ge) = let same : i ≡ j = omega arith in rw same (omega arith)

-- the count that the binary search gives
pub count_from_partition : (es : List Entry) (addr count : ℕ) → IsPartitionPoint (λ e. nat_le e.0 addr ≡ true) (λ e. nat_le e.0 addr ≡ false) es count → count ≤ length es → IsCountUpTo es addr count
count_from_partition es addr count p bound = record {
  bound = bound;
  up_to = λ k d below. up_to_if (get_or es k d) (p.0 k d (omega arith) below);
  above = λ k d from inside. above_if (get_or es k d) (p.1 k d from inside);
}
  where
    up_to_if : (e : Entry) → nat_le e.0 addr ≡ true → e.0 ≤ addr
    up_to_if e h = grind (arith, nat_tests)

    above_if : (e : Entry) → nat_le e.0 addr ≡ false → addr < e.0
    above_if e h = grind (arith, nat_tests)

-- an object that begins at or below the address
pub some_counted : (es : List Entry) (addr count : ℕ) → IsCountUpTo es addr count → Any (λ e. e.0 ≤ addr) es → 1 ≤ count
some_counted es addr count c any = by_count (cases_lt any.0 count)
  where
    low : (get_or es any.0 any.1).0 ≤ addr
    low = omega (arith, any.4, ap (λ e. e.0) any.3)

    by_count : (any.0 < count) ⊎ (count ≤ any.0) → 1 ≤ count
    by_count (inl lt) = omega arith
    by_count (inr ge) = absurd (omega (arith, c.above any.0 any.1 ge any.2, low))

-- the entry of an address
pub entry_at : (es : List Entry) (start : ℕ) (bytes : List ℕ) → find nat_cmp start es ≡ Some bytes → (k : ℕ) × (k < length es) × ((d : Entry) → get_or es k d ≡ (start, bytes))
entry_at [] start bytes e = cc
entry_at (x ∷ es) start bytes e = at_head (same_address start x.0) refl e (entry_at es start bytes)
  where
    at_head : (t : Bool) → same_address start x.0 ≡ t → cond t (Some x.1) (find nat_cmp start es) ≡ Some bytes → (find nat_cmp start es ≡ Some bytes → (k : ℕ) × (k < length es) × ((d : Entry) → get_or es k d ≡ (start, bytes))) → (k : ℕ) × (k < length (x ∷ es)) × ((d : Entry) → get_or (x ∷ es) k d ≡ (start, bytes))
    at_head true t e below =
        let first : x.0 ≡ start = sym (equal_address start x.0 t) in
        let second : x.1 ≡ bytes = cc in
        let both : ◌≡◌ {A = Entry} (x.0, x.1) (start, bytes) = cc (first, second) in (0, omega arith, λ d. both)
    at_head false t e below = let r = below e in (suc r.0, omega (arith, r.1), r.2)

pub in_content : (es : List Entry) (start : ℕ) (bytes : List ℕ) → get (content_of es) start ≡ Some bytes → (k : ℕ) × (k < length es) × ((d : Entry) → get_or es k d ≡ (start, bytes))
in_content es start bytes e = entry_at es start bytes (sym (get-from_entries nat_cmp_total es start) ∙ e)

-- the object that has a range begins at or below it
pub begun : (es : List Entry) (start : ℕ) (bytes : List ℕ) (addr : ℕ) → get (content_of es) start ≡ Some bytes → start ≤ addr → Any (λ e. e.0 ≤ addr) es
begun es start bytes addr at low =
    let r = in_content es start bytes at in (r.0, (start, bytes), r.1, r.2 (start, bytes), low)

-- and is the last that does
pub holder : (es : List Entry) (addr len start : ℕ) (bytes : List ℕ) (index offset : ℕ) → IsLaidOut es → 0 < len → Holds (content_of es) start bytes addr len → IsPlaceOf es addr index offset → (d : Entry) → get_or es index d ≡ (start, bytes)
holder es addr len start bytes index offset laid some h place d = by_order (cases_lt r.0 index) (cases_lt index r.0)
  where
    r : (k : ℕ) × (k < length es) × ((d : Entry) → get_or es k d ≡ (start, bytes))
    r = in_content es start bytes h.at

    begins : (get_or es r.0 d).0 ≡ start
    begins = ap (λ e. e.0) (r.2 d)

    ends : end_of (get_or es r.0 d) ≡ start + length bytes
    ends = ap end_of (r.2 d)

    by_order : (r.0 < index) ⊎ (index ≤ r.0) → (index < r.0) ⊎ (r.0 ≤ index) → get_or es index d ≡ (start, bytes)
    by_order (inl lt) other =
        absurd (omega (arith, apart 0 es laid r.0 index d lt place.inside, ends, place.begins d, h.high, some))
    by_order (inr ge) (inl gt) = absurd (omega (arith, place.above r.0 d gt r.1, begins, h.low))
    by_order (inr ge) (inr le) = let same : index ≡ r.0 = omega arith in rw same (r.2 d)
