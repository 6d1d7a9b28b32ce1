-- One object changed, taken away or added: the map and the order.
use Rattle.std.proofs.Common.{◌≡◌, ◌≢◌, ◌∙◌, refl, ap, sym, Bool, true, false, cond, ◌⊎◌, inl, inr, ℕ, zero, suc, ◌<◌, ◌≤◌, ◌+◌, ◌^◌, List, [], ◌∷◌, length, get_or, set, Some, None, arith}
use Rattle.std.specs.List.{remove, insert as inserted}
use Rattle.std.specs.Ordering.{nat_cmp}
use Rattle.std.specs.Cmp.{nat_cmp_total}
use Rattle.std.specs.FinMap.{find, insert, remove as without, get-from_entries, get-insert, get-remove, same_map, nat_cmp-IsAntisymmetric}
use Rattle.bm_mem.specs.Layout.{Entry, IsLaidOutFrom, IsLaidOut, IsCountUpTo}
use Rattle.bm_mem.specs.Content.{IsClear}
use Rattle.bm_mem.proofs.Entries.{end_of, content_of, same_address, equal_address, other_address, address_refl, from_bound, sizes}

cond_twice : {A : Type 0} (t : Bool) (a b c : A) → cond t a (cond t b c) ≡ cond t a c
cond_twice true a b c = refl
cond_twice false a b c = refl

cond_swap : {A : Type 0} (t u : Bool) (a b c : A) → (t ≡ true → u ≡ true → ⊥) → cond t a (cond u b c) ≡ cond u b (cond t a c)
cond_swap true true a b c h = absurd (h refl refl)
cond_swap true false a b c h = refl
cond_swap false true a b c h = refl
cond_swap false false a b c h = refl

-- one address is not two
not_both : (q a b : ℕ) → a ≢ b → same_address q a ≡ true → same_address q b ≡ true → ⊥
not_both q a b differs t u = differs (sym (equal_address q a t) ∙ equal_address q b u)

-- the entry that the map has at an address
pub found_there : (bound : ℕ) (es : List Entry) → IsLaidOutFrom bound es → (k : ℕ) (d : Entry) → k < length es → find nat_cmp (get_or es k d).0 es ≡ Some (get_or es k d).1
found_there bound [] h k d inside = absurd (omega arith)
found_there bound (e ∷ es) h zero d inside = rw (address_refl e.0) refl
found_there bound (e ∷ es) h (suc k) d inside =
    let later = from_bound (end_of e) es h.3 k d (omega arith) in
    let differs : same_address (get_or es k d).0 e.0 ≡ false = other_address (get_or es k d).0 e.0 (λ q. omega (arith, later, q, h.1)) in
    rw differs (found_there (end_of e) es h.3 k d (omega arith))

none_below : (bound : ℕ) (es : List Entry) → IsLaidOutFrom bound es → (q : ℕ) → q < bound → find nat_cmp q es ≡ None
none_below bound [] h q low = refl
none_below bound (e ∷ es) h q low =
    let differs : same_address q e.0 ≡ false = other_address q e.0 (λ r. omega (arith, r, h.0)) in
    rw differs (none_below (end_of e) es h.3 q (omega (arith, h.0)))

-- a lower bound, and a higher one
lower : (bound below : ℕ) (es : List Entry) → below ≤ bound → IsLaidOutFrom bound es → IsLaidOutFrom below es
lower bound below [] le h = tt
lower bound below (e ∷ es) le h = (omega (arith, h.0), h.1, h.2, h.3)

higher : (bound above : ℕ) (es : List Entry) → IsLaidOutFrom bound es → ((k : ℕ) (d : Entry) → k < length es → above ≤ (get_or es k d).0) → IsLaidOutFrom above es
higher bound above [] h all = tt
higher bound above (e ∷ es) h all = (all 0 e (omega arith), h.1, h.2, h.3)

-- other bytes at an object
find-set : (bound : ℕ) (es : List Entry) → IsLaidOutFrom bound es → (i start : ℕ) (new : List ℕ) (d : Entry) → i < length es → (get_or es i d).0 ≡ start → (q : ℕ) → find nat_cmp q (set es i (start, new)) ≡ cond (same_address q start) (Some new) (find nat_cmp q es)
find-set bound [] h i start new d inside at q = absurd (omega arith)
find-set bound (e ∷ es) h zero start new d inside at q =
    rw at (sym (cond_twice (same_address q start) (Some new) (Some e.1) (find nat_cmp q es)))
find-set bound (e ∷ es) h (suc i) start new d inside at q =
    let later = from_bound (end_of e) es h.3 i d (omega arith) in
    let differs : e.0 ≢ start = λ r. omega (arith, later, at, r, h.1) in
    ap (cond (same_address q e.0) (Some e.1)) (find-set (end_of e) es h.3 i start new d (omega arith) at q)
    ∙ cond_swap (same_address q e.0) (same_address q start) (Some e.1) (Some new) (find nat_cmp q es) (not_both q e.0 start differs)

pub content-set : (es : List Entry) → IsLaidOut es → (i start : ℕ) (new : List ℕ) (d : Entry) → i < length es → (get_or es i d).0 ≡ start → content_of (set es i (start, new)) ≡ insert (content_of es) start new
content-set es h i start new d inside at =
    same_map nat_cmp_total nat_cmp-IsAntisymmetric _ _ (λ q.
    get-from_entries nat_cmp_total (set es i (start, new)) q
    ∙ (find-set 0 es h i start new d inside at q
    ∙ (ap (cond (same_address q start) (Some new)) (sym (get-from_entries nat_cmp_total es q)) ∙ sym (get-insert nat_cmp_total (content_of es) start new q))))

pub laid-set : (bound : ℕ) (es : List Entry) → IsLaidOutFrom bound es → (i start : ℕ) (new : List ℕ) (d : Entry) → i < length es → (get_or es i d).0 ≡ start → length (get_or es i d).1 ≡ length new → IsLaidOutFrom bound (set es i (start, new))
laid-set bound [] h i start new d inside at long = absurd (omega arith)
laid-set bound (e ∷ es) h zero start new d inside at long =
    (omega (arith, h.0, at), omega (arith, h.1, long), omega (arith, h.2, at, long), lower (end_of e) (start + length new) es (omega (arith, at, long)) h.3)
laid-set bound (e ∷ es) h (suc i) start new d inside at long =
    (h.0, h.1, h.2, laid-set (end_of e) es h.3 i start new d (omega arith) at long)

-- an object less
find-remove : (bound : ℕ) (es : List Entry) → IsLaidOutFrom bound es → (i start : ℕ) (d : Entry) → i < length es → (get_or es i d).0 ≡ start → (q : ℕ) → find nat_cmp q (remove es i) ≡ cond (same_address q start) None (find nat_cmp q es)
find-remove bound [] h i start d inside at q = absurd (omega arith)
find-remove bound (e ∷ es) h zero start d inside at q = by_test (same_address q start) refl
  where
    by_test : (t : Bool) → same_address q start ≡ t → find nat_cmp q es ≡ cond (same_address q start) None (cond (same_address q e.0) (Some e.1) (find nat_cmp q es))
    by_test true t = rw t (none_below (end_of e) es h.3 q (omega (arith, equal_address q start t, at, h.1)))
    by_test false t = rw (at, t) refl
find-remove bound (e ∷ es) h (suc i) start d inside at q =
    let later = from_bound (end_of e) es h.3 i d (omega arith) in
    let differs : e.0 ≢ start = λ r. omega (arith, later, at, r, h.1) in
    ap (cond (same_address q e.0) (Some e.1)) (find-remove (end_of e) es h.3 i start d (omega arith) at q)
    ∙ cond_swap (same_address q e.0) (same_address q start) (Some e.1) None (find nat_cmp q es) (not_both q e.0 start differs)

pub content-remove : (es : List Entry) → IsLaidOut es → (i start : ℕ) (d : Entry) → i < length es → (get_or es i d).0 ≡ start → content_of (remove es i) ≡ without (content_of es) start
content-remove es h i start d inside at =
    same_map nat_cmp_total nat_cmp-IsAntisymmetric _ _ (λ q.
    get-from_entries nat_cmp_total (remove es i) q
    ∙ (find-remove 0 es h i start d inside at q
    ∙ (ap (cond (same_address q start) None) (sym (get-from_entries nat_cmp_total es q)) ∙ sym (get-remove nat_cmp_total (content_of es) start q))))

pub laid-remove : (bound : ℕ) (es : List Entry) → IsLaidOutFrom bound es → (i : ℕ) → IsLaidOutFrom bound (remove es i)
laid-remove bound [] h zero = tt
laid-remove bound [] h (suc i) = tt
laid-remove bound (e ∷ es) h zero = lower (end_of e) bound es (omega (arith, h.0)) h.3
laid-remove bound (e ∷ es) h (suc i) = (h.0, h.1, h.2, laid-remove (end_of e) es h.3 i)

-- an object more
find-insert : (es : List Entry) (i start : ℕ) (new : List ℕ) → i ≤ length es → ((k : ℕ) (d : Entry) → k < i → (get_or es k d).0 ≢ start) → (q : ℕ) → find nat_cmp q (inserted es i (start, new)) ≡ cond (same_address q start) (Some new) (find nat_cmp q es)
find-insert [] zero start new inside before q = refl
find-insert [] (suc i) start new inside before q = absurd (omega arith)
find-insert (e ∷ es) zero start new inside before q = refl
find-insert (e ∷ es) (suc i) start new inside before q =
    ap (cond (same_address q e.0) (Some e.1)) (find-insert es i start new (omega arith) (λ k d below. before (suc k) d (omega arith)) q)
    ∙ cond_swap (same_address q e.0) (same_address q start) (Some e.1) (Some new) (find nat_cmp q es) (not_both q e.0 start (before 0 e (omega arith)))

laid-insert : (bound : ℕ) (es : List Entry) → IsLaidOutFrom bound es → (i start : ℕ) (new : List ℕ) → i ≤ length es → bound ≤ start → 0 < length new → start + length new < 2 ^ 32 → ((k : ℕ) (d : Entry) → k < i → end_of (get_or es k d) ≤ start) → ((k : ℕ) (d : Entry) → i ≤ k → k < length es → start + length new ≤ (get_or es k d).0) → IsLaidOutFrom bound (inserted es i (start, new))
laid-insert bound [] h zero start new inside low some end before after = (low, some, end, tt)
laid-insert bound [] h (suc i) start new inside low some end before after = absurd (omega arith)
laid-insert bound (e ∷ es) h zero start new inside low some end before after =
    (low, some, end, higher bound (start + length new) (e ∷ es) h (λ k d below. after k d (omega arith) below))
laid-insert bound (e ∷ es) h (suc i) start new inside low some end before after =
    (h.0, h.1, h.2, laid-insert (end_of e) es h.3 i start new (omega arith) (before 0 e (omega arith)) some end (λ k d below. before (suc k) d (omega arith)) (λ k d from below. after (suc k) d (omega arith) (omega arith)))

module _ (es : List Entry) (laid : IsLaidOut es) (start count : ℕ) (new : List ℕ) (c : IsCountUpTo es start count) (some : 0 < length new) (clear : IsClear (content_of es) start (length new)) where
  clear_at : (k : ℕ) (d : Entry) → k < length es → (end_of (get_or es k d) ≤ start) ⊎ (start + length new ≤ (get_or es k d).0)
  clear_at k d inside =
      clear (get_or es k d).0 (get_or es k d).1 (get-from_entries nat_cmp_total es (get_or es k d).0 ∙ found_there 0 es laid k d inside)

  ends_before : (k : ℕ) (d : Entry) → k < count → end_of (get_or es k d) ≤ start
  ends_before k d below = by_side (clear_at k d (omega (arith, c.bound)))
    where
      by_side : (end_of (get_or es k d) ≤ start) ⊎ (start + length new ≤ (get_or es k d).0) → end_of (get_or es k d) ≤ start
      by_side (inl h) = h
      by_side (inr h) = absurd (omega (arith, h, c.up_to k d below, some))

  begins_after : (k : ℕ) (d : Entry) → count ≤ k → k < length es → start + length new ≤ (get_or es k d).0
  begins_after k d from inside = by_side (clear_at k d inside)
    where
      by_side : (end_of (get_or es k d) ≤ start) ⊎ (start + length new ≤ (get_or es k d).0) → start + length new ≤ (get_or es k d).0
      by_side (inl h) = absurd (omega (arith, h, c.above k d from inside))
      by_side (inr h) = h

  other_start : (k : ℕ) (d : Entry) → k < count → (get_or es k d).0 ≢ start
  other_start k d below same =
      let h = ends_before k d below in
      let size = sizes 0 es laid k d (omega (arith, c.bound)) in omega (arith, h, size.0, same)

  pub laid_inserted : start + length new < 2 ^ 32 → IsLaidOut (inserted es count (start, new))
  laid_inserted end = laid-insert 0 es laid count start new c.bound (omega arith) some end ends_before begins_after

  pub content_inserted : content_of (inserted es count (start, new)) ≡ insert (content_of es) start new
  content_inserted =
      same_map nat_cmp_total nat_cmp-IsAntisymmetric _ _ (λ q.
      get-from_entries nat_cmp_total (inserted es count (start, new)) q
      ∙ (find-insert es count start new c.bound other_start q
      ∙ (ap (cond (same_address q start) (Some new)) (sym (get-from_entries nat_cmp_total es q)) ∙ sym (get-insert nat_cmp_total (content_of es) start new q))))
