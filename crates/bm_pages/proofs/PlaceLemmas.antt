-- An object more, and an object less: the objects, their pages, and what is then in memory.
use Rattle.std.proofs.Common.{◌≡◌, ◌≢◌, ◌∙◌, refl, ap, sym, subst, ◌⊎◌, inl, inr, ℕ, zero, suc, ◌<◌, ◌≤◌, ◌+◌, ◌-◌, ◌*◌, ◌/◌, ◌%◌, ◌^◌, List, [], ◌∷◌, length, get_or, replicate, Some, IsSome, arith}
use Rattle.std.specs.List.{remove, insert as inserted}
use Rattle.std.specs.FinMap.{get, insert, remove as without, get-from_entries}
use Rattle.std.specs.Cmp.{nat_cmp_total}
use Rattle.std.proofs.lemmas.List.{length-map, length-replicate}
use Rattle.std.proofs.lemmas.Bool.{cases_eq, cases_lt}
use Rattle.bm_mem.specs.Layout.{Entry, IsLaidOut, IsCountUpTo}
use Rattle.bm_mem.specs.Content.{Content, IsClear}
use Rattle.bm_mem.proofs.Entries.{content_of}
use Rattle.bm_mem.proofs.Changes.{laid_inserted, content_inserted, laid-remove, content-remove, found_there}
use Rattle.bm_mem.proofs.ObjectLemmas.{some_value}
use Rattle.bm_pages.specs.declared.extents.Extent.{Extent}
use Rattle.bm_pages.specs.Pages.{Pages, byte_at, bytes_from, IsThere, IsBacked, IsOverwritten}
use Rattle.bm_pages.specs.Directory.{IsTaken, IsPartlyTaken}
use Rattle.bm_pages.specs.Extents.{entry_in, entries_in, layout_of, ReachesInto, IsUsed, IsReleased, IsSound}
use Rattle.bm_pages.proofs.ExtentLemmas.{extent_bounds, extents_apart, begins_up_to, begins_above, count_inside}
use Rattle.bm_pages.proofs.RangeLemmas.{length-bytes_from, bytes_from-ext}
use Rattle.bm_pages.proofs.ContentLemmas.{no_extent, laid_entries, laid_layout, entry_at, same_entries, object_used, reaches, IsObject, object_in}

-- the page of an object's first byte, and one more than that of its last
abbrev pub first_of : Extent → ℕ
first_of e = e.addr / 4096

abbrev pub end_of : Extent → ℕ
end_of e = (e.addr + e.size - 1) / 4096 + 1

-- an object reaches into the pages from its first on below its end
pub reaches_in : (e : Extent) (page : ℕ) → 0 < e.size → first_of e ≤ page → page < end_of e → ReachesInto page e
reaches_in e page some low high = record { begins = omega arith; ends = omega arith }

pub reaches_first : (e : Extent) (page : ℕ) → ReachesInto page e → first_of e ≤ page
reaches_first e page r = omega (arith, r.begins)

pub reaches_end : (e : Extent) (page : ℕ) → ReachesInto page e → page < end_of e
reaches_end e page r = omega (arith, r.ends)

-- whether a page is used can be told
reach_cases : (e : Extent) (page : ℕ) → ReachesInto page e ⊎ (ReachesInto page e → ⊥)
reach_cases e page = by_order (cases_lt e.addr ((page + 1) * 4096)) (cases_lt (page * 4096) (e.addr + e.size))
  where
    by_order : (e.addr < (page + 1) * 4096) ⊎ ((page + 1) * 4096 ≤ e.addr) → (page * 4096 < e.addr + e.size) ⊎ (e.addr + e.size ≤ page * 4096) → ReachesInto page e ⊎ (ReachesInto page e → ⊥)
    by_order (inl begins) (inl ends) = inl (record { begins = begins; ends = ends })
    by_order (inr late) other = inr (λ r. omega (arith, late, r.begins))
    by_order (inl begins) (inr early) = inr (λ r. omega (arith, early, r.ends))

used_head : (e : Extent) (es : List Extent) (page : ℕ) → ReachesInto page e → IsUsed (e ∷ es) page
used_head e es page r = (0, e, omega arith, refl, r)

used_tail : (e : Extent) (es : List Extent) (page : ℕ) → IsUsed es page → IsUsed (e ∷ es) page
used_tail e es page u = (suc u.0, u.1, omega (arith, u.2), u.3, u.4)

used_split : (e : Extent) (es : List Extent) (page : ℕ) → IsUsed (e ∷ es) page → ReachesInto page e ⊎ IsUsed es page
used_split e es page u = by_index u.0 u.2 u.3
  where
    by_index : (k : ℕ) → k < length (e ∷ es) → get_or (e ∷ es) k u.1 ≡ u.1 → ReachesInto page e ⊎ IsUsed es page
    by_index zero inside is = inl (subst (ReachesInto page) (sym is) u.4)
    by_index (suc k) inside is = inr (k, u.1, omega (arith, inside), is, u.4)

used_nowhere : (page : ℕ) → IsUsed [] page → ⊥
used_nowhere page u = omega (arith, u.2)

pub used_cases : (es : List Extent) (page : ℕ) → IsUsed es page ⊎ (IsUsed es page → ⊥)
used_cases [] page = inr (used_nowhere page)
used_cases (e ∷ es) page = by_head (reach_cases e page) (used_cases es page)
  where
    by_split : (ReachesInto page e → ⊥) → (IsUsed es page → ⊥) → ReachesInto page e ⊎ IsUsed es page → ⊥
    by_split apart none (inl r) = apart r
    by_split apart none (inr u) = none u

    by_head : ReachesInto page e ⊎ (ReachesInto page e → ⊥) → IsUsed es page ⊎ (IsUsed es page → ⊥) → IsUsed (e ∷ es) page ⊎ (IsUsed (e ∷ es) page → ⊥)
    by_head (inl r) other = inl (used_head e es page r)
    by_head (inr apart) (inl u) = inl (used_tail e es page u)
    by_head (inr apart) (inr none) = inr (λ u. by_split apart none (used_split e es page u))

-- an object more
pub used_more : (es : List Extent) (i : ℕ) (e : Extent) (page : ℕ) → IsUsed es page → IsUsed (inserted es i e) page
used_more [] zero e page u = absurd (used_nowhere page u)
used_more [] (suc i) e page u = absurd (used_nowhere page u)
used_more (x ∷ es) zero e page u = used_tail e (x ∷ es) page u
used_more (x ∷ es) (suc i) e page u = by_split (used_more es i e page) (used_split x es page u)
  where
    by_split : (IsUsed es page → IsUsed (inserted es i e) page) → ReachesInto page x ⊎ IsUsed es page → IsUsed (x ∷ inserted es i e) page
    by_split more (inl r) = used_head x (inserted es i e) page r
    by_split more (inr h) = used_tail x (inserted es i e) page (more h)

pub used_new : (es : List Extent) (i : ℕ) (e : Extent) (page : ℕ) → i ≤ length es → ReachesInto page e → IsUsed (inserted es i e) page
used_new [] zero e page inside r = used_head e [] page r
used_new [] (suc i) e page inside r = absurd (omega arith)
used_new (x ∷ es) zero e page inside r = used_head e (x ∷ es) page r
used_new (x ∷ es) (suc i) e page inside r = used_tail x (inserted es i e) page (used_new es i e page (omega arith) r)

pub used_inserted : (es : List Extent) (i : ℕ) (e : Extent) (page : ℕ) → i ≤ length es → IsUsed (inserted es i e) page → ReachesInto page e ⊎ IsUsed es page
used_inserted [] zero e page inside u = used_split e [] page u
used_inserted [] (suc i) e page inside u = absurd (omega arith)
used_inserted (x ∷ es) zero e page inside u = used_split e (x ∷ es) page u
used_inserted (x ∷ es) (suc i) e page inside u = by_split (used_inserted es i e page (omega arith)) (used_split x (inserted es i e) page u)
  where
    by_rest : ReachesInto page e ⊎ IsUsed es page → ReachesInto page e ⊎ IsUsed (x ∷ es) page
    by_rest (inl r) = inl r
    by_rest (inr h) = inr (used_tail x es page h)

    by_split : (IsUsed (inserted es i e) page → ReachesInto page e ⊎ IsUsed es page) → ReachesInto page x ⊎ IsUsed (inserted es i e) page → ReachesInto page e ⊎ IsUsed (x ∷ es) page
    by_split rest (inl r) = inr (used_head x es page r)
    by_split rest (inr h) = by_rest (rest h)

pub entries_inserted : (pages : Pages) (es : List Extent) (i : ℕ) (e : Extent) → entries_in pages (inserted es i e) ≡ inserted (entries_in pages es) i (entry_in pages e)
entries_inserted pages [] zero e = refl
entries_inserted pages [] (suc i) e = refl
entries_inserted pages (x ∷ es) zero e = refl
entries_inserted pages (x ∷ es) (suc i) e = ap (λ l. entry_in pages x ∷ l) (entries_inserted pages es i e)

-- an object less
pub used_rest : (es : List Extent) (i : ℕ) (page : ℕ) → IsUsed (remove es i) page → IsUsed es page
used_rest [] zero page u = u
used_rest [] (suc i) page u = u
used_rest (x ∷ es) zero page u = used_tail x es page u
used_rest (x ∷ es) (suc i) page u = by_split (used_rest es i page) (used_split x (remove es i) page u)
  where
    by_split : (IsUsed (remove es i) page → IsUsed es page) → ReachesInto page x ⊎ IsUsed (remove es i) page → IsUsed (x ∷ es) page
    by_split rest (inl r) = used_head x es page r
    by_split rest (inr h) = used_tail x es page (rest h)

pub used_removed : (es : List Extent) (i : ℕ) (d : Extent) (page : ℕ) → i < length es → IsUsed es page → ReachesInto page (get_or es i d) ⊎ IsUsed (remove es i) page
used_removed [] i d page inside u = absurd (omega arith)
used_removed (x ∷ es) zero d page inside u = used_split x es page u
used_removed (x ∷ es) (suc i) d page inside u = by_split (used_removed es i d page (omega arith)) (used_split x es page u)
  where
    by_rest : ReachesInto page (get_or es i d) ⊎ IsUsed (remove es i) page → ReachesInto page (get_or es i d) ⊎ IsUsed (x ∷ remove es i) page
    by_rest (inl r) = inl r
    by_rest (inr h) = inr (used_tail x (remove es i) page h)

    by_split : (IsUsed es page → ReachesInto page (get_or es i d) ⊎ IsUsed (remove es i) page) → ReachesInto page x ⊎ IsUsed es page → ReachesInto page (get_or es i d) ⊎ IsUsed (x ∷ remove es i) page
    by_split rest (inl r) = inr (used_head x (remove es i) page r)
    by_split rest (inr h) = by_rest (rest h)

pub entries_removed : (pages : Pages) (es : List Extent) (i : ℕ) → entries_in pages (remove es i) ≡ remove (entries_in pages es) i
entries_removed pages [] zero = refl
entries_removed pages [] (suc i) = refl
entries_removed pages (x ∷ es) zero = refl
entries_removed pages (x ∷ es) (suc i) = ap (λ l. entry_in pages x ∷ l) (entries_removed pages es i)

pub laid_left : (pages : Pages) (es : List Extent) (i : ℕ) → IsLaidOut (layout_of es) → IsLaidOut (layout_of (remove es i))
laid_left pages es i laid =
    laid_layout pages (remove es i) (subst IsLaidOut (sym (entries_removed pages es i)) (laid-remove 0 (entries_in pages es) (laid_entries pages es laid) i))

-- how many objects begin at or below an address, whatever their bytes
pub count_entries : (pages : Pages) (es : List Extent) → IsLaidOut (layout_of es) → (addr count : ℕ) → IsCountUpTo (layout_of es) addr count → IsCountUpTo (entries_in pages es) addr count
count_entries pages es laid addr count c = record {
  bound = omega (arith, count_inside es laid addr count c, length-map es (entry_in pages));
  up_to = λ k d below. omega (arith, begins_up_to es laid addr count c k no_extent below, first k d (omega (arith, below, count_inside es laid addr count c)));
  above = λ k d from below. omega (arith, begins_above es laid addr count c k no_extent from (omega (arith, below, length-map es (entry_in pages))), first k d (omega (arith, below, length-map es (entry_in pages))));
}
  where
    first : (k : ℕ) (d : Entry) → k < length es → (get_or (entries_in pages es) k d).0 ≡ (get_or es k no_extent).addr
    first k d inside = ap (λ x. x.0) (entry_at pages es k inside d)

-- objects whose pages are as they were
pub same_where_used : (old new : Pages) (es : List Extent) → ((page : ℕ) → IsUsed es page → new page ≡ old page) → entries_in new es ≡ entries_in old es
same_where_used old new es same =
    same_entries old new es (λ k inside j below. ap (λ bytes. get_or bytes (((get_or es k no_extent).addr + j) % 4096) 0) (same (((get_or es k no_extent).addr + j) / 4096) (object_used es k inside j below)))

-- pages taken in vain and given up again
pub all_as_before : (es : List Extent) (old middle new : Pages) (first end : ℕ) → IsSound old es → IsPartlyTaken old middle first end → IsReleased es middle new first end → (page : ℕ) → new page ≡ old page
all_as_before es old middle new first end sound t r page = by_use (used_cases es page) (cases_lt page first) (cases_lt page end)
  where
    by_use : IsUsed es page ⊎ (IsUsed es page → ⊥) → (page < first) ⊎ (first ≤ page) → (page < end) ⊎ (end ≤ page) → new page ≡ old page
    by_use (inl u) low high = r.used page u ∙ t.kept page (omega (arith, sound.used page u))
    by_use (inr free) (inl low) high = r.below page low ∙ t.others page low
    by_use (inr free) (inr low) (inl high) = r.gone page low high free ∙ sym (sound.unused page free)
    by_use (inr free) (inr low) (inr high) = r.above page high ∙ t.others_above page high

pub undone : (es seen : List Extent) (old middle new : Pages) (first end low high : ℕ) → IsSound old es → IsPartlyTaken old middle first end → seen ≡ es → low ≡ first → high ≡ end → IsReleased seen middle new low high → (page : ℕ) → new page ≡ old page
undone es seen old middle new first end low high sound t is is_first is_end r =
    all_as_before es old middle new first end sound t (subst (λ l. IsReleased l middle new first end) is (subst (λ n. IsReleased seen middle new n end) is_first (subst (λ n. IsReleased seen middle new low n) is_end r)))

pub sound_same : (es : List Extent) (old new : Pages) → IsSound old es → ((page : ℕ) → new page ≡ old page) → IsSound new es
sound_same es old new sound same = record {
  laid_out = sound.laid_out;
  whole = λ page some. ap length (same page) ∙ sound.whole page (omega (arith, some, ap length (same page)));
  used = λ page u. ap length (same page) ∙ sound.used page u;
  unused = λ page free. same page ∙ sound.unused page free;
}

-- a new object
module _ (es : List Extent) (old middle new : Pages) (index : ℕ) (e : Extent) (sound : IsSound old es) (inside : index ≤ length es) (some : 0 < e.size) (taken : IsTaken old middle (first_of e) (end_of e)) where
  taken_there : (page : ℕ) → first_of e ≤ page → page < end_of e → (length (old page) ≡ 0) ⊎ (length (old page) ≢ 0) → IsThere middle page
  taken_there page low high (inl none) = ap length (taken.made page low high none) ∙ length-replicate {A = ℕ} 4096 0
  taken_there page low high (inr any) =
      ap length (taken.kept page (omega (arith, any))) ∙ sound.whole page (omega (arith, any))

  pub used_kept : (page : ℕ) → IsUsed es page → middle page ≡ old page
  used_kept page u = taken.kept page (omega (arith, sound.used page u))

  pub object_backed : IsBacked middle e.addr e.size
  object_backed = λ k below.
      let r = reaches e k below in
      taken_there ((e.addr + k) / 4096) (reaches_first e _ r) (reaches_end e _ r) (cases_eq (length (old ((e.addr + k) / 4096))) 0)

  module _ (w : IsOverwritten middle new e.addr (replicate e.size 0)) where
    no_bytes : (xs : List ℕ) → length xs ≡ 0 → xs ≡ []
    no_bytes [] e = refl
    no_bytes (x ∷ xs) e = absurd (omega arith)

    there_after : (page : ℕ) → (ReachesInto page e) ⊎ (IsUsed es page) → IsThere new page
    there_after page (inl r) =
        w.lengths page ∙ taken_there page (reaches_first e page r) (reaches_end e page r) (cases_eq (length (old page)) 0)
    there_after page (inr u) = w.lengths page ∙ (ap length (used_kept page u) ∙ sound.used page u)

    outside_same : (page : ℕ) → (page < first_of e) ⊎ (end_of e ≤ page) → middle page ≡ old page
    outside_same page (inl low) = taken.others page low
    outside_same page (inr high) = taken.others_above page high

    whole_after : (page : ℕ) → 0 < length (new page) → (page < first_of e) ⊎ (first_of e ≤ page) → (page < end_of e) ⊎ (end_of e ≤ page) → IsThere new page
    whole_after page any (inl low) high =
        let same = outside_same page (inl low) in
        w.lengths page ∙ (ap length same ∙ sound.whole page (omega (arith, any, w.lengths page, ap length same)))
    whole_after page any (inr low) (inr high) =
        let same = outside_same page (inr high) in
        w.lengths page ∙ (ap length same ∙ sound.whole page (omega (arith, any, w.lengths page, ap length same)))
    whole_after page any (inr low) (inl high) = w.lengths page ∙ taken_there page low high (cases_eq (length (old page)) 0)

    unused_after : (page : ℕ) → (IsUsed (inserted es index e) page → ⊥) → (page < first_of e) ⊎ (first_of e ≤ page) → (page < end_of e) ⊎ (end_of e ≤ page) → new page ≡ []
    unused_after page free (inr low) (inl high) =
        absurd (free (used_new es index e page inside (reaches_in e page some low high)))
    unused_after page free (inl low) high =
        no_bytes (new page) (w.lengths page ∙ ap length (outside_same page (inl low) ∙ sound.unused page (λ u. free (used_more es index e page u))))
    unused_after page free (inr low) (inr high) =
        no_bytes (new page) (w.lengths page ∙ ap length (outside_same page (inr high) ∙ sound.unused page (λ u. free (used_more es index e page u))))

    zeros : bytes_from new e.addr e.size ≡ replicate e.size 0
    zeros =
        sym (bytes_from-ext (replicate e.size 0) new e.addr e.size (length-replicate {A = ℕ} e.size 0) (λ k below. sym (w.piece_there k (omega (arith, below, length-replicate {A = ℕ} e.size 0)))))

    module _ (m : Content) (view : content_of (entries_in old es) ≡ m) (c : IsCountUpTo (layout_of es) e.addr index) (clear : IsClear m e.addr e.size) where
      -- the other objects lie apart from it
      apart_at : (k : ℕ) → k < length es → ((get_or es k no_extent).addr + (get_or es k no_extent).size ≤ e.addr) ⊎ (e.addr + e.size ≤ (get_or es k no_extent).addr)
      apart_at k below =
          subst (λ n. ((get_or es k no_extent).addr + n ≤ e.addr) ⊎ (e.addr + e.size ≤ (get_or es k no_extent).addr)) (length-bytes_from old (get_or es k no_extent).addr (get_or es k no_extent).size) (clear (get_or es k no_extent).addr (bytes_from old (get_or es k no_extent).addr (get_or es k no_extent).size) there)
        where
          found : get (content_of (entries_in old es)) (get_or (entries_in old es) k (entry_in old no_extent)).0 ≡ Some (get_or (entries_in old es) k (entry_in old no_extent)).1
          found =
              get-from_entries nat_cmp_total (entries_in old es) (get_or (entries_in old es) k (entry_in old no_extent)).0
              ∙ found_there 0 (entries_in old es) (laid_entries old es sound.laid_out) k (entry_in old no_extent) (omega (arith, below, length-map es (entry_in old)))

          there : get m (get_or es k no_extent).addr ≡ Some (bytes_from old (get_or es k no_extent).addr (get_or es k no_extent).size)
          there =
              ap (λ c. get c (get_or es k no_extent).addr) (sym view)
              ∙ subst (λ x. get (content_of (entries_in old es)) x.0 ≡ Some x.1) (entry_at old es k below (entry_in old no_extent)) found

      others_same : entries_in new es ≡ entries_in old es
      others_same = same_entries old new es (λ k below j within. by_side k below j within (apart_at k below))
        where
          by_side : (k : ℕ) → k < length es → (j : ℕ) → j < (get_or es k no_extent).size → ((get_or es k no_extent).addr + (get_or es k no_extent).size ≤ e.addr) ⊎ (e.addr + e.size ≤ (get_or es k no_extent).addr) → byte_at new ((get_or es k no_extent).addr + j) ≡ byte_at old ((get_or es k no_extent).addr + j)
          by_side k below j within side = by_place side ∙ ap (λ bytes. get_or bytes (((get_or es k no_extent).addr + j) % 4096) 0) (used_kept _ (object_used es k below j within))
            where
              by_place : ((get_or es k no_extent).addr + (get_or es k no_extent).size ≤ e.addr) ⊎ (e.addr + e.size ≤ (get_or es k no_extent).addr) → byte_at new ((get_or es k no_extent).addr + j) ≡ byte_at middle ((get_or es k no_extent).addr + j)
              by_place (inl before) = w.below ((get_or es k no_extent).addr + j) (omega (arith, before, within))
              by_place (inr after) = w.above ((get_or es k no_extent).addr + j) (omega (arith, after, length-replicate {A = ℕ} e.size 0))

      entries_after : entries_in new (inserted es index e) ≡ inserted (entries_in old es) index (e.addr, replicate e.size 0)
      entries_after =
          entries_inserted new es index e
          ∙ (ap (λ l. inserted l index (entry_in new e)) others_same ∙ ap (λ bytes. inserted (entries_in old es) index (e.addr, bytes)) zeros)

      clear_there : IsClear (content_of (entries_in old es)) e.addr (length {A = ℕ} (replicate e.size 0))
      clear_there =
          subst (λ c. IsClear c e.addr (length {A = ℕ} (replicate e.size 0))) (sym view) (subst (IsClear m e.addr) (sym (length-replicate {A = ℕ} e.size 0)) clear)

      some_there : 0 < length {A = ℕ} (replicate e.size 0)
      some_there = omega (arith, some, length-replicate {A = ℕ} e.size 0)

      pub content_mapped : content_of (entries_in new (inserted es index e)) ≡ insert m e.addr (replicate e.size 0)
      content_mapped =
          ap content_of entries_after
          ∙ (content_inserted (entries_in old es) (laid_entries old es sound.laid_out) e.addr index (replicate e.size 0) (count_entries old es sound.laid_out e.addr index c) some_there clear_there ∙ ap (λ c. insert c e.addr (replicate e.size 0)) view)

      pub sound_mapped : e.addr + e.size < 2 ^ 32 → IsSound new (inserted es index e)
      sound_mapped end = record {
        laid_out = laid_layout new (inserted es index e) (subst IsLaidOut (sym entries_after) (laid_inserted (entries_in old es) (laid_entries old es sound.laid_out) e.addr index (replicate e.size 0) (count_entries old es sound.laid_out e.addr index c) some_there clear_there (omega (arith, end, length-replicate {A = ℕ} e.size 0))));
        whole = λ page any. whole_after page any (cases_lt page (first_of e)) (cases_lt page (end_of e));
        used = λ page u. there_after page (used_inserted es index e page inside u);
        unused = λ page free. unused_after page free (cases_lt page (first_of e)) (cases_lt page (end_of e));
      }

-- an object taken away
module _ (es : List Extent) (old new : Pages) (index : ℕ) (sound : IsSound old es) (inside : index < length es) (r : IsReleased (remove es index) old new (first_of (get_or es index no_extent)) (end_of (get_or es index no_extent))) where
  abbrev pub e : Extent
  e = get_or es index no_extent

  page_kept : (page : ℕ) → (page < first_of e) ⊎ (end_of e ≤ page) → new page ≡ old page
  page_kept page (inl low) = r.below page low
  page_kept page (inr high) = r.above page high

  whole_kept : (page : ℕ) → 0 < length (new page) → new page ≡ old page → IsThere new page
  whole_kept page any same = ap length same ∙ sound.whole page (omega (arith, any, ap length same))

  whole_left : (page : ℕ) → 0 < length (new page) → IsUsed (remove es index) page ⊎ (IsUsed (remove es index) page → ⊥) → (page < first_of e) ⊎ (first_of e ≤ page) → (page < end_of e) ⊎ (end_of e ≤ page) → IsThere new page
  whole_left page any (inl u) low high = whole_kept page any (r.used page u)
  whole_left page any (inr free) (inl low) high = whole_kept page any (r.below page low)
  whole_left page any (inr free) (inr low) (inr high) = whole_kept page any (r.above page high)
  whole_left page any (inr free) (inr low) (inl high) = absurd (omega (arith, any, ap length (r.gone page low high free)))

  other_unused : (page : ℕ) → (IsUsed (remove es index) page → ⊥) → (page < first_of e) ⊎ (end_of e ≤ page) → IsUsed es page → ⊥
  other_unused page free side u = by_object side (used_removed es index no_extent page inside u)
    where
      by_object : (page < first_of e) ⊎ (end_of e ≤ page) → ReachesInto page e ⊎ IsUsed (remove es index) page → ⊥
      by_object side (inr u) = free u
      by_object (inl low) (inl reach) = omega (arith, low, reaches_first e page reach)
      by_object (inr high) (inl reach) = omega (arith, high, reaches_end e page reach)

  unused_left : (page : ℕ) → (IsUsed (remove es index) page → ⊥) → (page < first_of e) ⊎ (first_of e ≤ page) → (page < end_of e) ⊎ (end_of e ≤ page) → new page ≡ []
  unused_left page free (inl low) high =
      r.below page low ∙ sound.unused page (other_unused page free (inl low))
  unused_left page free (inr low) (inr high) =
      r.above page high ∙ sound.unused page (other_unused page free (inr high))
  unused_left page free (inr low) (inl high) = r.gone page low high free

  pub sound_unmapped : IsSound new (remove es index)
  sound_unmapped = record {
    laid_out = laid_left old es index sound.laid_out;
    whole = λ page any. whole_left page any (used_cases (remove es index) page) (cases_lt page (first_of e)) (cases_lt page (end_of e));
    used = λ page u. ap length (r.used page u) ∙ sound.used page (used_rest es index page u);
    unused = λ page free. unused_left page free (cases_lt page (first_of e)) (cases_lt page (end_of e));
  }

  pub content_unmapped : (m : Content) → content_of (entries_in old es) ≡ m → (addr : ℕ) → e.addr ≡ addr → content_of (entries_in new (remove es index)) ≡ without m addr
  content_unmapped m view addr at =
      ap content_of (same_where_used old new (remove es index) r.used ∙ entries_removed old es index)
      ∙ (content-remove (entries_in old es) (laid_entries old es sound.laid_out) index addr (entry_in old no_extent) (omega (arith, inside, length-map es (entry_in old))) (ap (λ x. x.0) (entry_at old es index inside (entry_in old no_extent)) ∙ at)
      ∙ ap (λ c. without c addr) view)

-- the object that begins at an address is the last that begins at or below it
module _ (pages : Pages) (es : List Extent) (sound : IsSound pages es) (m : Content) (view : content_of (entries_in pages es) ≡ m) (addr count : ℕ) (c : IsCountUpTo (layout_of es) addr count) (there : IsSome (get m addr)) where
  bytes_there : (bytes : List ℕ) × (get m addr ≡ Some bytes)
  bytes_there = some_value (get m addr) there

  object : (index : ℕ) × IsObject pages es addr bytes_there.0 index
  object = object_in pages es sound m view addr bytes_there.0 bytes_there.1

  counted : object.0 < count
  counted = by_order (cases_lt object.0 count)
    where
      by_order : (object.0 < count) ⊎ (count ≤ object.0) → object.0 < count
      by_order (inl below) = below
      by_order (inr above) =
          absurd (omega (arith, begins_above es sound.laid_out addr count c object.0 no_extent above object.1.inside, object.1.first))

  pub some_counted : 0 < count
  some_counted = omega (arith, counted)

  pub last_inside : count - 1 < length es
  last_inside = omega (arith, counted, count_inside es sound.laid_out addr count c)

  last_is : object.0 ≡ count - 1
  last_is = by_order (cases_lt object.0 (count - 1))
    where
      by_order : (object.0 < count - 1) ⊎ (count - 1 ≤ object.0) → object.0 ≡ count - 1
      by_order (inr from) = omega (arith, from, counted)
      by_order (inl before) =
          absurd (omega (arith, extents_apart es sound.laid_out object.0 (count - 1) no_extent before last_inside, (extent_bounds es sound.laid_out object.0 no_extent object.1.inside).0, begins_up_to es sound.laid_out addr count c (count - 1) no_extent (omega (arith, some_counted)), object.1.first))

  pub last_first : (get_or es (count - 1) no_extent).addr ≡ addr
  last_first = ap (λ k. (get_or es k no_extent).addr) (sym last_is) ∙ object.1.first
