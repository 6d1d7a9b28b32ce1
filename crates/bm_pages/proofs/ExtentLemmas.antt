-- Objects in address order.
use Rattle.std.proofs.Common.{◌≡◌, ◌∙◌, ap, ◌⊎◌, inl, inr, ℕ, ◌<◌, ◌≤◌, ◌+◌, ◌*◌, List, [], ◌∷◌, length, get_or, ◌-◌, ◌^◌, nat_le, nat_lt, IsTrue, true, false, subst, arith, rules}
use Rattle.std.specs.List.Sorted.{IsNonDecreasingBy, IsPartitionPoint}
use Rattle.std.proofs.lemmas.List.{get_or-map, length-map, length-replicate, get_or_default}
use Rattle.std.proofs.lemmas.Bool.{cases_lt}
use Rattle.bm_mem.specs.Layout.{IsLaidOut, IsCountUpTo}
use Rattle.bm_mem.proofs.Entries.{end_of, addresses_rise, count_from_partition, sizes, apart}
use Rattle.bm_pages.specs.declared.extents.Extent.{Extent}
use Rattle.bm_pages.specs.Extents.{zero_entry, layout_of, IsUsed}

pub extents_rise : (es : List Extent) → IsLaidOut (layout_of es) → IsNonDecreasingBy (λ e. e.addr) es
extents_rise es laid = λ i j d ij inside.
    let h = addresses_rise (layout_of es) laid i j (zero_entry d) ij (omega (arith, length-map es zero_entry)) in
    rw (get_or-map zero_entry es i d (zero_entry d) (omega arith), get_or-map zero_entry es j d (zero_entry d) inside) at h

pub count_from_extents : (es : List Extent) (addr count : ℕ) → IsPartitionPoint (λ e. nat_le e.addr addr ≡ true) (λ e. nat_le e.addr addr ≡ false) es count → count ≤ length es → IsCountUpTo (layout_of es) addr count
count_from_extents [] addr count p bound = count_from_partition [] addr count (λ k d low below. absurd (omega arith), λ k d low below. absurd (omega arith)) bound
count_from_extents (e ∷ es) addr count p bound =
    count_from_partition (layout_of (e ∷ es)) addr count (
      λ k d low below. rw (get_or-map zero_entry (e ∷ es) k e d (omega arith)) (p.0 k e low below),
      λ k d low below.
          let inside : k < length (e ∷ es) = omega (arith, length-map (e ∷ es) zero_entry) in
          rw (get_or-map zero_entry (e ∷ es) k e d inside) (p.1 k e low inside),
    )
    (omega (arith, bound, length-map (e ∷ es) zero_entry))

-- the bounds of an object, and that two lie apart
module _ (es : List Extent) (laid : IsLaidOut (layout_of es)) where
  inside_layout : (k : ℕ) → k < length es → k < length (layout_of es)
  inside_layout k inside = omega (arith, inside, length-map es zero_entry)

  layout_at : (k : ℕ) (d : Extent) → k < length es → get_or (layout_of es) k (zero_entry d) ≡ zero_entry (get_or es k d)
  layout_at k d inside = get_or-map zero_entry es k d (zero_entry d) inside

  ends_at : (k : ℕ) (d : Extent) → k < length es → end_of (get_or (layout_of es) k (zero_entry d)) ≡ (get_or es k d).addr + (get_or es k d).size
  ends_at k d inside =
      ap end_of (layout_at k d inside)
      ∙ ap (λ n. (get_or es k d).addr + n) (length-replicate {A = ℕ} (get_or es k d).size 0)

  pub extent_bounds : (k : ℕ) (d : Extent) → k < length es → (0 < (get_or es k d).size) × ((get_or es k d).addr + (get_or es k d).size < 2 ^ 32)
  extent_bounds k d inside =
      let r = sizes 0 (layout_of es) laid k (zero_entry d) (inside_layout k inside) in
      let long : length (get_or (layout_of es) k (zero_entry d)).1 ≡ (get_or es k d).size = ap (λ e. length e.1) (layout_at k d inside) ∙ length-replicate {A = ℕ} (get_or es k d).size 0 in
      (omega (arith, r.0, long), omega (arith, r.1, ends_at k d inside))

  pub extents_apart : (i j : ℕ) (d : Extent) → i < j → j < length es → (get_or es i d).addr + (get_or es i d).size ≤ (get_or es j d).addr
  extents_apart i j d ij inside =
      let r = apart 0 (layout_of es) laid i j (zero_entry d) ij (inside_layout j inside) in
      omega (arith, r, ends_at i d (omega arith), ap (λ e. e.0) (layout_at j d inside))

  module _ (addr count : ℕ) (c : IsCountUpTo (layout_of es) addr count) where
    pub count_inside : count ≤ length es
    count_inside = omega (arith, c.bound, length-map es zero_entry)

    pub begins_up_to : (k : ℕ) (d : Extent) → k < count → (get_or es k d).addr ≤ addr
    begins_up_to k d below = omega (arith, c.up_to k (zero_entry d) below, ap (λ e. e.0) (layout_at k d (omega (arith, count_inside))))

    pub begins_above : (k : ℕ) (d : Extent) → count ≤ k → k < length es → addr < (get_or es k d).addr
    begins_above k d from inside = omega (arith, c.above k (zero_entry d) from (inside_layout k inside), ap (λ e. e.0) (layout_at k d inside))

  -- the last object that begins before a page's end tells whether the page is used
  module _ (page count : ℕ) (c : IsCountUpTo (layout_of es) (page * 4096 + 4095) count) where
    pub used_if : (d : Extent) → 0 < count → page * 4096 < (get_or es (count - 1) d).addr + (get_or es (count - 1) d).size → IsUsed es page
    used_if d some past =
        let inside : count - 1 < length es = omega (arith, some, count_inside (page * 4096 + 4095) count c) in
        let begins = begins_up_to (page * 4096 + 4095) count c (count - 1) d (omega arith) in
        (count - 1, get_or es (count - 1) d, inside, get_or_default es (count - 1) (get_or es (count - 1) d) d inside, record { begins = omega (arith, begins); ends = past })

    pub used_only_if : (d : Extent) → IsUsed es page → (0 < count) × (page * 4096 < (get_or es (count - 1) d).addr + (get_or es (count - 1) d).size)
    used_only_if d used = by_order (cases_lt used.0 count)
      where
        at : get_or es used.0 d ≡ used.1
        at = get_or_default es used.0 d used.1 used.2 ∙ used.3

        begins : (get_or es used.0 d).addr < (page + 1) * 4096
        begins = omega (arith, used.4.begins, ap (λ e. e.addr) at)

        ends : page * 4096 < (get_or es used.0 d).addr + (get_or es used.0 d).size
        ends = omega (arith, used.4.ends, ap (λ e. e.addr + e.size) at)

        last_in : 0 < count → count - 1 < length es
        last_in some = omega (arith, some, count_inside (page * 4096 + 4095) count c)

        by_last : used.0 < count → (used.0 < count - 1) ⊎ (count - 1 ≤ used.0) → page * 4096 < (get_or es (count - 1) d).addr + (get_or es (count - 1) d).size
        by_last below (inl before) =
            let r = extents_apart used.0 (count - 1) d before (last_in (omega (arith, below))) in omega (arith, r, ends)
        by_last below (inr is_last) = let same : used.0 ≡ count - 1 = omega (arith, below, is_last) in subst (λ k. page * 4096 < (get_or es k d).addr + (get_or es k d).size) same ends

        by_order : (used.0 < count) ⊎ (count ≤ used.0) → (0 < count) × (page * 4096 < (get_or es (count - 1) d).addr + (get_or es (count - 1) d).size)
        by_order (inl below) = (omega (arith, below), by_last below (cases_lt used.0 (count - 1)))
        by_order (inr above) =
            absurd (omega (arith, begins_above (page * 4096 + 4095) count c used.0 d above used.2, begins))

pub lt_true : (a b : ℕ) → a < b → IsTrue (nat_lt a b)
lt_true a b h = search rules

pub true_lt : (a b : ℕ) → IsTrue (nat_lt a b) → a < b
true_lt a b h = search rules
