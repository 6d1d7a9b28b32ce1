-- Tables of objects: the search by address, one more row, and one that dies.
use Rattle.std.proofs.Common.{◌≡◌, ◌≢◌, ◌∙◌, sym, ap, refl, subst, ℕ, zero, suc, ◌-◌, ◌<◌, ◌≤◌, ◌^◌, ◌⊎◌, inl, inr, Bool, true, false, nat_le, nat_eq, List, [], ◌∷◌, ◌++◌, length, get_or, set, Option, Some, None, All, Any, cond, slice_get, arith}
use Rattle.std.specs.List.{find}
use Rattle.std.specs.List.Sorted.{IsNonDecreasingBy, IsPartitionPoint}
use Rattle.std.specs.Option.{SomeIff, MatchOption}
use Rattle.std.proofs.lemmas.Bool.{cases_lt, cases_eq}
use Rattle.std.proofs.lemmas.Bool.Decides.{nat_tests}
use Rattle.std.proofs.lemmas.List.{get_or-map, get_or_read, same_lists, get_or-set_same, get_or-set_other, length-set, length-map}
use Rattle.std.proofs.lemmas.Option.{slice_get_within, get_or_from_slice_get}
use Rattle.std.proofs.lemmas.List.Elements.{All-push}
use Rattle.std.proofs.lemmas.List.Quantifiers.{all_pairs_push}
use Rattle.bm_objects.specs.declared.row.Row.{Row}
use Rattle.bm_objects.specs.Table.{end_of, reaches, IsTable, killed_at, killed}
use Rattle.bm_objects.specs.Search.{IsLastUpTo, AllAbove}

-- the addresses rise
pub addresses_rise : (rows : List Row) → IsTable rows → IsNonDecreasingBy (λ row. row.addr) rows
addresses_rise rows t = λ i j d ij inside. by_order i j d ij inside (cases_lt i j)
  where
    by_order : (i j : ℕ) (d : Row) → i ≤ j → j < length rows → (i < j) ⊎ (j ≤ i) → (get_or rows i d).addr ≤ (get_or rows j d).addr
    by_order i j d ij inside (inl lt) = let h = t.apart i j d lt inside in omega (arith, h)
    by_order i j d ij inside (inr ge) = let same : i ≡ j = omega arith in rw same (omega arith)

-- nothing passes
pub find_none : (p : Row → Bool) (rows : List Row) → ((k : ℕ) (d : Row) → k < length rows → p (get_or rows k d) ≡ false) → find p rows ≡ None
find_none p [] h = refl
find_none p (row ∷ rows) h =
    rw (h 0 row (omega arith)) (find_none p rows (λ k d below. h (suc k) d (omega arith)))

-- the first that passes
pub find_first : (p : Row → Bool) (rows : List Row) (i : ℕ) (row : Row) → i < length rows → row ≡ get_or rows i row → p row ≡ true → ((k : ℕ) (d : Row) → k < i → p (get_or rows k d) ≡ false) → find p rows ≡ Some row
find_first p [] i row inside is passes before = absurd (omega arith)
find_first p (x ∷ rows) zero row inside is passes before = let head : p x ≡ true = subst (λ r. p r ≡ true) is passes in rw head (ap Some (sym is))
find_first p (x ∷ rows) (suc i) row inside is passes before =
    rw (before 0 x (omega arith)) (find_first p rows i row (omega arith) is passes (λ k d below. before (suc k) d (omega arith)))

reaches_if : (addr : ℕ) (row : Row) → row.addr ≤ addr → addr ≤ end_of row → reaches addr row ≡ true
reaches_if addr row low high = grind (arith, nat_tests)

below_row : (addr : ℕ) (row : Row) → addr < row.addr → reaches addr row ≡ false
below_row addr row low = grind (arith, nat_tests)

behind_row : (addr : ℕ) (row : Row) → end_of row < addr → reaches addr row ≡ false
behind_row addr row low = grind (arith, nat_tests)

-- what the search finds
pub find_above : (rows : List Row) (addr : ℕ) → AllAbove rows addr → find (reaches addr) rows ≡ None
find_above rows addr above = find_none (reaches addr) rows (λ k d inside. below_row addr (get_or rows k d) (above k d inside))

module _ (rows : List Row) (t : IsTable rows) (addr i : ℕ) (row : Row) (last : IsLastUpTo rows addr i) (is : row ≡ get_or rows i row) where
  begins : row.addr ≤ addr
  begins = subst (λ r. r.addr ≤ addr) (sym is) (last.begins row)

  at_last : (k : ℕ) (d : Row) → k ≡ i → get_or rows k d ≡ row
  at_last k d same = ap (λ n. get_or rows n d) same ∙ sym (get_or_read rows i row last.inside is d)

  before : (k : ℕ) (d : Row) → k < i → reaches addr (get_or rows k d) ≡ false
  before k d below =
      let h = t.apart k i d below last.inside in behind_row addr (get_or rows k d) (omega (arith, h, last.begins d))

  pub find_last : addr ≤ end_of row → find (reaches addr) rows ≡ Some row
  find_last high = find_first (reaches addr) rows i row last.inside is (reaches_if addr row begins high) before

  pub find_behind : end_of row < addr → find (reaches addr) rows ≡ None
  find_behind behind = find_none (reaches addr) rows (λ k d inside. by_place k d inside (cases_lt k i) (cases_lt i k))
    where
      by_place : (k : ℕ) (d : Row) → k < length rows → (k < i) ⊎ (i ≤ k) → (i < k) ⊎ (k ≤ i) → reaches addr (get_or rows k d) ≡ false
      by_place k d inside (inl lt) other = before k d lt
      by_place k d inside (inr ge) (inl gt) = below_row addr (get_or rows k d) (last.later k d gt inside)
      by_place k d inside (inr ge) (inr le) =
          let here : get_or rows k d ≡ row = at_last k d (omega arith) in rw here (behind_row addr row behind)

-- one more row
pub table_pushed : (rows : List Row) (row : Row) → IsTable rows → All (λ r. end_of r < row.addr) rows → end_of row < 2 ^ 32 → IsTable (rows ++ row ∷ [])
table_pushed rows row t above end = record {
  ends = All-push (λ r. end_of r < 2 ^ 32) rows row t.ends end;
  apart = all_pairs_push (λ r later. end_of r < later.addr) rows row t.apart above;
}

-- a row that dies stands where it stood
same_addr : (addr : ℕ) (row : Row) → (killed_at addr row).addr ≡ row.addr
same_addr addr row = grind (arith, nat_tests)

same_end : (addr : ℕ) (row : Row) → end_of (killed_at addr row) ≡ end_of row
same_end addr row = grind (arith, nat_tests)

pub table_killed : (rows : List Row) (addr : ℕ) → IsTable rows → IsTable (killed rows addr)
table_killed rows addr t = record {
  ends = λ k d inside.
      let below : k < length rows = omega (arith, length-map rows (killed_at addr)) in
      let at = get_or-map (killed_at addr) rows k d d below in
      let h = t.ends k d below in rw (at, same_end addr (get_or rows k d)) h;
  apart = λ i j d ij inside.
      let below : j < length rows = omega (arith, length-map rows (killed_at addr)) in
      let first = get_or-map (killed_at addr) rows i d d (omega arith) in
      let second = get_or-map (killed_at addr) rows j d d below in
      let h = t.apart i j d ij below in
      rw (first, second, same_end addr (get_or rows i d), same_addr addr (get_or rows j d)) h;
}

dies : (addr : ℕ) (row : Row) → row.addr ≡ addr → killed_at addr row ≡ record row { live = false }
dies addr row e = let yes : nat_eq row.addr addr ≡ true = grind (arith, nat_tests) in rw yes refl

stays : (addr : ℕ) (row : Row) → row.addr ≢ addr → killed_at addr row ≡ row
stays addr row e = let no : nat_eq row.addr addr ≡ false = grind (arith, nat_tests) in rw no refl

-- a row begins at the address
pub not_above : (rows : List Row) (addr : ℕ) → Any (λ r. r.addr ≡ addr) rows → AllAbove rows addr → ⊥
not_above rows addr any above =
    let h = above any.0 any.1 any.2 in
    omega (arith, h, any.4, ap (λ r. r.addr) any.3)

module _ (rows : List Row) (t : IsTable rows) (addr i : ℕ) (row : Row) (last : IsLastUpTo rows addr i) (is : row ≡ get_or rows i row) (any : Any (λ r. r.addr ≡ addr) rows) where
  pub begins_there : row.addr ≡ addr
  begins_there = by_place (cases_lt any.0 i) (cases_lt i any.0)
    where
      at_any : (get_or rows any.0 any.1).addr ≡ addr
      at_any = ap (λ r. r.addr) any.3 ∙ any.4

      by_place : (any.0 < i) ⊎ (i ≤ any.0) → (i < any.0) ⊎ (any.0 ≤ i) → row.addr ≡ addr
      by_place (inl lt) other =
          let h = t.apart any.0 i any.1 lt last.inside in absurd (omega (arith, h, last.begins any.1, at_any))
      by_place (inr ge) (inl gt) = absurd (omega (arith, last.later any.0 any.1 gt any.2, at_any))
      by_place (inr ge) (inr le) =
          let here : get_or rows any.0 any.1 ≡ row = at_last rows t addr i row last is any.0 any.1 (omega arith) in ap (λ r. r.addr) (sym here) ∙ at_any

  other_addr : (k : ℕ) (d : Row) → k < length rows → k ≢ i → (get_or rows k d).addr ≢ addr
  other_addr k d inside differs same = by_place (cases_lt k i) (cases_lt i k)
    where
      at_i : (get_or rows i d).addr ≡ addr
      at_i = ap (λ r. r.addr) (at_last rows t addr i row last is i d refl) ∙ begins_there

      by_place : (k < i) ⊎ (i ≤ k) → (i < k) ⊎ (k ≤ i) → ⊥
      by_place (inl lt) other = let h = t.apart k i d lt last.inside in omega (arith, h, at_i, same)
      by_place (inr ge) (inl gt) = omega (arith, last.later k d gt inside, same)
      by_place (inr ge) (inr le) = differs (omega arith)

  pub killed_is : set rows i (record row { live = false }) ≡ killed rows addr
  killed_is = same_lists _ _ (length-set rows i (record row { live = false }) ∙ sym (length-map rows (killed_at addr))) (λ k d inside. by_place k d (omega (arith, length-set rows i (record row { live = false }))) (cases_eq k i))
    where
      by_place : (k : ℕ) (d : Row) → k < length rows → (k ≡ i) ⊎ (k ≢ i) → get_or (set rows i (record row { live = false })) k d ≡ get_or (killed rows addr) k d
      by_place k d inside (inl same) =
          rw same (get_or-set_same rows i (record row { live = false }) d last.inside ∙ (sym (dies addr row begins_there) ∙ (ap (killed_at addr) is ∙ sym (get_or-map (killed_at addr) rows i row d last.inside))))
      by_place k d inside (inr differs) =
          get_or-set_other rows i k (record row { live = false }) d differs
          ∙ (sym (stays addr (get_or rows k d) (other_addr k d inside differs)) ∙ sym (get_or-map (killed_at addr) rows k d d inside))

-- what the binary search says
pub last_from_partition : (rows : List Row) (addr count : ℕ) (o : Option ℕ) → IsPartitionPoint (λ row. nat_le row.addr addr ≡ true) (λ row. nat_le row.addr addr ≡ false) rows count → count ≤ length rows → SomeIff o (1 ≤ count) (count - 1) → MatchOption o (AllAbove rows addr) (IsLastUpTo rows addr)
last_from_partition rows addr count None p bound s = λ k d inside.
    let none : count ≡ 0 = omega (arith, s) in
    let above = p.1 k d (omega arith) inside in above_if (get_or rows k d) above
  where
    above_if : (row : Row) → nat_le row.addr addr ≡ false → addr < row.addr
    above_if row e = grind (arith, nat_tests)
last_from_partition rows addr count (Some i) p bound s = record {
  inside = omega (arith, s.0, s.1);
  begins = λ d. up_to_if (get_or rows i d) (p.0 i d (omega arith) (omega (arith, s.0, s.1)));
  later = λ k d more inside. above_if (get_or rows k d) (p.1 k d (omega (arith, s.0, s.1)) inside);
}
  where
    up_to_if : (row : Row) → nat_le row.addr addr ≡ true → row.addr ≤ addr
    up_to_if row e = grind (arith, nat_tests)

    above_if : (row : Row) → nat_le row.addr addr ≡ false → addr < row.addr
    above_if row e = grind (arith, nat_tests)

-- what `find` says of a table
pub reaches_is : (addr : ℕ) (row : Row) → reaches addr row ≡ true → (row.addr ≤ addr) × (addr ≤ end_of row)
reaches_is addr row h = (grind (arith, nat_tests), grind (arith, nat_tests))

pub found : (p : Row → Bool) (rows : List Row) (row : Row) → find p rows ≡ Some row → (k : ℕ) × (slice_get rows k ≡ Some row) × (p row ≡ true)
found p [] row e = absurd (cc)
found p (x ∷ rows) row e = by_test (p x) refl e (found p rows row)
  where
    by_test : (t : Bool) → p x ≡ t → cond t (Some x) (find p rows) ≡ Some row → (find p rows ≡ Some row → (k : ℕ) × (slice_get rows k ≡ Some row) × (p row ≡ true)) → (k : ℕ) × (slice_get (x ∷ rows) k ≡ Some row) × (p row ≡ true)
    by_test true t e below = let same : x ≡ row = cc in (0, ap Some same, subst (λ r. p r ≡ true) same t)
    by_test false t e below = let r = below e in (suc r.0, r.1, r.2)

pub not_found : (p : Row → Bool) (rows : List Row) → find p rows ≡ None → (k : ℕ) (row : Row) → slice_get rows k ≡ Some row → p row ≡ false
not_found p [] e k row at = absurd (cc)
not_found p (x ∷ rows) e k row at = by_test (p x) refl e k at (λ none j there. not_found p rows none j row there)
  where
    by_test : (t : Bool) → p x ≡ t → cond t (Some x) (find p rows) ≡ None → (k : ℕ) → slice_get (x ∷ rows) k ≡ Some row → (find p rows ≡ None → (j : ℕ) → slice_get rows j ≡ Some row → p row ≡ false) → p row ≡ false
    by_test true t e k at below = absurd (cc)
    by_test false t e zero at below = let same : x ≡ row = cc in subst (λ r. p r ≡ false) same t
    by_test false t e (suc k) at below = below e k at

-- a row is found by each of its addresses
pub finds_row : (rows : List Row) (addr k : ℕ) (row : Row) → IsTable rows → slice_get rows k ≡ Some row → row.addr ≤ addr → addr ≤ end_of row → find (reaches addr) rows ≡ Some row
finds_row rows addr k row t at low high =
    let inside = slice_get_within rows k row at in
    let here : row ≡ get_or rows k row = sym (get_or_from_slice_get rows k row row at) in
    find_first (reaches addr) rows k row inside here (reaches_if addr row low high) (λ j d below.
    let h = t.apart j k d below inside in
    let same : get_or rows k d ≡ row = get_or_from_slice_get rows k row d at in
    behind_row addr (get_or rows j d) (omega (arith, h, ap (λ r. r.addr) same, low)))
