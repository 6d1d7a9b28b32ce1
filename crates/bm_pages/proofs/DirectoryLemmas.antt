-- What a change of one page, and an entry more, are to the pages of a directory.
use Rattle.std.proofs.Common.{◌≡◌, ◌≢◌, ◌∙◌, refl, ap, sym, ◌⊎◌, inl, inr, ℕ, zero, suc, ◌<◌, ◌≤◌, ◌+◌, ◌/◌, ◌%◌, List, [], ◌∷◌, ◌++◌, length, get_or, set, replicate, subst, arith}
use Rattle.std.proofs.lemmas.List.{get_or-set_same, get_or-set_other, get_or-map, length-map, map-set, get_or_past}
use Rattle.std.proofs.lemmas.Bool.{cases_eq, cases_lt}
use Rattle.bm_pages.specs.declared.page.Page.{Page}
use Rattle.bm_pages.specs.declared.directory.Part.{Part}
use Rattle.bm_pages.specs.Pages.{Pages}
use Rattle.std.specs.Vec.{with_item}
use Rattle.bm_pages.specs.Directory.{bytes_of, row_of, rows_of, page_in, part_pages, ChangesPage, IsTaken}

-- an entry without memory more
pub default_more : {A : Type 0} (xs : List A) (d : A) (k : ℕ) → get_or (xs ++ d ∷ []) k d ≡ get_or xs k d
default_more [] d zero = refl
default_more [] d (suc k) = refl
default_more (x ∷ xs) d zero = refl
default_more (x ∷ xs) d (suc k) = default_more xs d k

-- a page of the list of lists changed
pub row_changed : (rows : List (List (List ℕ))) (number : ℕ) (bytes : List ℕ) → number / 1024 < length rows → number % 1024 < length (get_or rows (number / 1024) []) → ChangesPage (page_in rows) (page_in (set rows (number / 1024) (set (get_or rows (number / 1024) []) (number % 1024) bytes))) number bytes
row_changed rows number bytes part_in page_in_it = record {
  changed = ap (λ r. get_or r j []) (get_or-set_same rows i row [] part_in) ∙ get_or-set_same (get_or rows i []) j bytes [] page_in_it;
  others = λ page differs. by_part page differs (cases_eq (page / 1024) i);
}
  where
    i : ℕ
    i = number / 1024

    j : ℕ
    j = number % 1024

    row : List (List ℕ)
    row = set (get_or rows (number / 1024) []) (number % 1024) bytes

    by_part : (page : ℕ) → page ≢ number → (page / 1024 ≡ i) ⊎ (page / 1024 ≢ i) → page_in (set rows i row) page ≡ page_in rows page
    by_part page differs (inr other) = ap (λ r. get_or r (page % 1024) []) (get_or-set_other rows i (page / 1024) row [] other)
    by_part page differs (inl same) =
        let offset : page % 1024 ≢ j = λ e. differs (omega (arith, e, same)) in
        ap (λ p. get_or (get_or (set rows i row) p []) (page % 1024) []) same
        ∙ (ap (λ r. get_or r (page % 1024) []) (get_or-set_same rows i row [] part_in)
        ∙ (get_or-set_other (get_or rows i []) j (page % 1024) bytes [] offset ∙ ap (λ p. get_or (get_or rows p []) (page % 1024) []) (sym same)))

-- a page of a directory changed
pub part_changed : (parts : List Part) (number : ℕ) (part new : Part) (bytes : List ℕ) → number / 1024 < length parts → part ≡ get_or parts (number / 1024) part → number % 1024 < length part.pages.items → row_of new ≡ set (row_of part) (number % 1024) bytes → ChangesPage (page_in (rows_of parts)) (page_in (rows_of (set parts (number / 1024) new))) number bytes
part_changed parts number part new bytes part_in read page_in_it row = rw sets changes
  where
    row_there : get_or (rows_of parts) (number / 1024) [] ≡ row_of part
    row_there = get_or-map row_of parts (number / 1024) part [] part_in ∙ ap row_of (sym read)

    sets : rows_of (set parts (number / 1024) new) ≡ set (rows_of parts) (number / 1024) (set (get_or (rows_of parts) (number / 1024) []) (number % 1024) bytes)
    sets =
        map-set row_of parts (number / 1024) new
        ∙ ap (set (rows_of parts) (number / 1024)) (row ∙ ap (λ r. set r (number % 1024) bytes) (sym row_there))

    changes : ChangesPage (page_in (rows_of parts)) (page_in (set (rows_of parts) (number / 1024) (set (get_or (rows_of parts) (number / 1024) []) (number % 1024) bytes))) number bytes
    changes =
        row_changed (rows_of parts) number bytes (omega (arith, part_in, length-map parts row_of)) (omega (arith, page_in_it, length-map part.pages.items bytes_of, ap length row_there))

-- a page that has memory has its entries
pub part_inside : (parts : List Part) (number : ℕ) → 0 < length (page_in (rows_of parts) number) → number / 1024 < length parts
part_inside parts number there = by_order (cases_lt (number / 1024) (length parts))
  where
    by_order : (number / 1024 < length parts) ⊎ (length parts ≤ number / 1024) → number / 1024 < length parts
    by_order (inl lt) = lt
    by_order (inr ge) =
        let none : get_or (rows_of parts) (number / 1024) [] ≡ [] = get_or_past (rows_of parts) (number / 1024) [] (omega (arith, ge, length-map parts row_of)) in
        let empty : page_in (rows_of parts) number ≡ [] = ap (λ r. get_or r (number % 1024) []) none in absurd (omega (arith, there, ap length empty))

pub page_inside : (parts : List Part) (number : ℕ) (part : Part) → 0 < length (page_in (rows_of parts) number) → part ≡ get_or parts (number / 1024) part → number % 1024 < length part.pages.items
page_inside parts number part there read = by_order (cases_lt (number % 1024) (length part.pages.items))
  where
    row_there : get_or (rows_of parts) (number / 1024) [] ≡ row_of part
    row_there = get_or-map row_of parts (number / 1024) part [] (part_inside parts number there) ∙ ap row_of (sym read)

    by_order : (number % 1024 < length part.pages.items) ⊎ (length part.pages.items ≤ number % 1024) → number % 1024 < length part.pages.items
    by_order (inl lt) = lt
    by_order (inr ge) =
        let none : get_or (row_of part) (number % 1024) [] ≡ [] = get_or_past (row_of part) (number % 1024) [] (omega (arith, ge, length-map part.pages.items bytes_of)) in
        let empty : page_in (rows_of parts) number ≡ [] = ap (λ r. get_or r (number % 1024) []) row_there ∙ none in
        absurd (omega (arith, there, ap length empty))

-- the page that is read
pub page_read : (parts : List Part) (number : ℕ) (part : Part) (page : Page) → number / 1024 < length parts → part ≡ get_or parts (number / 1024) part → number % 1024 < length part.pages.items → page ≡ get_or part.pages.items (number % 1024) page → page.bytes.items ≡ page_in (rows_of parts) number
page_read parts number part page part_in read page_in_it page_is =
    sym (ap (λ r. get_or r (number % 1024) []) (get_or-map row_of parts (number / 1024) part [] part_in ∙ ap row_of (sym read))
    ∙ (get_or-map bytes_of part.pages.items (number % 1024) page [] page_in_it ∙ ap bytes_of (sym page_is)))

-- a part with another page
abbrev pub with_page : Part → ℕ → Page → Part
with_page part j page = record { pages = with_item part.pages j page }

pub row-with_page : (part : Part) (j : ℕ) (page : Page) (bytes : List ℕ) → page.bytes.items ≡ bytes → row_of (with_page part j page) ≡ set (row_of part) j bytes
row-with_page part j page bytes is = map-set bytes_of part.pages.items j page ∙ ap (set (row_of part) j) is

-- a part of a directory changed
module _ (parts : List Part) (number : ℕ) (part new : Part) (part_in : number / 1024 < length parts) (read : part ≡ get_or parts (number / 1024) part) where
  in_part : (page : ℕ) → page / 1024 ≡ number / 1024 → page_in (rows_of (set parts (number / 1024) new)) page ≡ part_pages new (page % 1024)
  in_part page same =
      ap (λ r. get_or r (page % 1024) [])
      (ap (λ i. get_or (rows_of (set parts (number / 1024) new)) i []) same
      ∙ (ap (λ rows. get_or rows (number / 1024) []) (map-set row_of parts (number / 1024) new)
      ∙ get_or-set_same (rows_of parts) (number / 1024) (row_of new) [] (omega (arith, part_in, length-map parts row_of))))

  in_part_before : (page : ℕ) → page / 1024 ≡ number / 1024 → page_in (rows_of parts) page ≡ part_pages part (page % 1024)
  in_part_before page same =
      ap (λ r. get_or r (page % 1024) [])
      (ap (λ i. get_or (rows_of parts) i []) same ∙ (get_or-map row_of parts (number / 1024) part [] part_in ∙ ap row_of (sym read)))

  elsewhere : (page : ℕ) → page / 1024 ≢ number / 1024 → page_in (rows_of (set parts (number / 1024) new)) page ≡ page_in (rows_of parts) page
  elsewhere page other =
      ap (λ r. get_or r (page % 1024) [])
      (ap (λ rows. get_or rows (page / 1024) []) (map-set row_of parts (number / 1024) new)
      ∙ get_or-set_other (rows_of parts) (number / 1024) (page / 1024) (row_of new) [] other)

  pub part_same : ((k : ℕ) → part_pages new k ≡ part_pages part k) → (page : ℕ) → page_in (rows_of (set parts (number / 1024) new)) page ≡ page_in (rows_of parts) page
  part_same same page = by_part (cases_eq (page / 1024) (number / 1024))
    where
      by_part : (page / 1024 ≡ number / 1024) ⊎ (page / 1024 ≢ number / 1024) → page_in (rows_of (set parts (number / 1024) new)) page ≡ page_in (rows_of parts) page
      by_part (inl here) = in_part page here ∙ (same (page % 1024) ∙ sym (in_part_before page here))
      by_part (inr other) = elsewhere page other

  pub part_taken : IsTaken (part_pages part) (part_pages new) (number % 1024) (number % 1024 + 1) → IsTaken (page_in (rows_of parts)) (page_in (rows_of (set parts (number / 1024) new))) number (number + 1)
  part_taken t = record {
    kept = λ page some. kept page some (cases_eq (page / 1024) (number / 1024));
    made = λ page low high none. made page (omega (arith, low, high)) none;
    others = λ page low. others page (λ e. omega (arith, e, low)) (cases_eq (page / 1024) (number / 1024));
    others_above = λ page high. others page (λ e. omega (arith, e, high)) (cases_eq (page / 1024) (number / 1024));
  }
    where
      kept : (page : ℕ) → 0 < length (page_in (rows_of parts) page) → (page / 1024 ≡ number / 1024) ⊎ (page / 1024 ≢ number / 1024) → page_in (rows_of (set parts (number / 1024) new)) page ≡ page_in (rows_of parts) page
      kept page some (inr other) = elsewhere page other
      kept page some (inl here) =
          in_part page here
          ∙ (t.kept (page % 1024) (omega (arith, some, ap length (in_part_before page here))) ∙ sym (in_part_before page here))

      made : (page : ℕ) → page ≡ number → length (page_in (rows_of parts) page) ≡ 0 → page_in (rows_of (set parts (number / 1024) new)) page ≡ replicate 4096 0
      made page is none =
          let here : page / 1024 ≡ number / 1024 = ap (λ p. p / 1024) is in
          let offset : page % 1024 ≡ number % 1024 = ap (λ p. p % 1024) is in
          in_part page here ∙ t.made (page % 1024) (omega (arith, offset)) (omega (arith, offset)) (omega (arith, none, ap length (in_part_before page here)))

      others : (page : ℕ) → page ≢ number → (page / 1024 ≡ number / 1024) ⊎ (page / 1024 ≢ number / 1024) → page_in (rows_of (set parts (number / 1024) new)) page ≡ page_in (rows_of parts) page
      others page differs (inr other) = elsewhere page other
      others page differs (inl here) = in_part page here ∙ (by_side (cases_lt (page % 1024) (number % 1024)) ∙ sym (in_part_before page here))
        where
          by_side : (page % 1024 < number % 1024) ⊎ (number % 1024 ≤ page % 1024) → part_pages new (page % 1024) ≡ part_pages part (page % 1024)
          by_side (inl low) = t.others (page % 1024) low
          by_side (inr high) =
              let offset : page % 1024 ≢ number % 1024 = λ e. differs (omega (arith, e, here)) in
              t.others_above (page % 1024) (omega (arith, high, offset))

-- an entry of a part changed
pub entry_taken : (part : Part) (j : ℕ) (old new : Page) → j < length part.pages.items → old ≡ get_or part.pages.items j old → (0 < length old.bytes.items → new.bytes.items ≡ old.bytes.items) → (length old.bytes.items ≡ 0 → new.bytes.items ≡ replicate 4096 0) → IsTaken (part_pages part) (part_pages (with_page part j new)) j (j + 1)
entry_taken part j old new inside read kept made = record {
  kept = λ page some. kept_at page some (cases_eq page j);
  made = λ page low high none. made_at page (omega (arith, low, high)) none;
  others = λ page low. other page (λ e. omega (arith, e, low));
  others_above = λ page high. other page (λ e. omega (arith, e, high));
}
  where
    row : row_of (with_page part j new) ≡ set (row_of part) j new.bytes.items
    row = row-with_page part j new new.bytes.items refl

    before : part_pages part j ≡ old.bytes.items
    before = get_or-map bytes_of part.pages.items j old [] inside ∙ ap bytes_of (sym read)

    after : part_pages (with_page part j new) j ≡ new.bytes.items
    after =
        ap (λ r. get_or r j []) row
        ∙ get_or-set_same (row_of part) j new.bytes.items [] (omega (arith, inside, length-map part.pages.items bytes_of))

    other : (page : ℕ) → page ≢ j → part_pages (with_page part j new) page ≡ part_pages part page
    other page differs = ap (λ r. get_or r page []) row ∙ get_or-set_other (row_of part) j page new.bytes.items [] differs

    kept_at : (page : ℕ) → 0 < length (part_pages part page) → (page ≡ j) ⊎ (page ≢ j) → part_pages (with_page part j new) page ≡ part_pages part page
    kept_at page some (inr differs) = other page differs
    kept_at page some (inl same) =
        let here : 0 < length (part_pages part j) = subst (λ p. 0 < length (part_pages part p)) same some in
        ap (part_pages (with_page part j new)) same
        ∙ (after ∙ (kept (omega (arith, here, ap length before)) ∙ (sym before ∙ ap (part_pages part) (sym same))))

    made_at : (page : ℕ) → page ≡ j → length (part_pages part page) ≡ 0 → part_pages (with_page part j new) page ≡ replicate 4096 0
    made_at page same none =
        let here : length (part_pages part j) ≡ 0 = subst (λ p. length (part_pages part p) ≡ 0) same none in
        ap (part_pages (with_page part j new)) same ∙ (after ∙ made (omega (arith, here, ap length before)))

-- a change after one that changes no page
pub taken_after : (old middle new : Pages) (first end : ℕ) → ((page : ℕ) → middle page ≡ old page) → IsTaken middle new first end → IsTaken old new first end
taken_after old middle new first end same t = record {
  kept = λ page some. t.kept page (omega (arith, some, ap length (same page))) ∙ same page;
  made = λ page low high none. t.made page low high (omega (arith, none, ap length (same page)));
  others = λ page low. t.others page low ∙ same page;
  others_above = λ page high. t.others_above page high ∙ same page;
}

-- an entry of a part as it was
pub entry_same : (part : Part) (j : ℕ) (old new : Page) → j < length part.pages.items → old ≡ get_or part.pages.items j old → new.bytes.items ≡ old.bytes.items → (k : ℕ) → part_pages (with_page part j new) k ≡ part_pages part k
entry_same part j old new inside read same k = by_index (cases_eq k j)
  where
    row : row_of (with_page part j new) ≡ set (row_of part) j new.bytes.items
    row = row-with_page part j new new.bytes.items refl

    by_index : (k ≡ j) ⊎ (k ≢ j) → part_pages (with_page part j new) k ≡ part_pages part k
    by_index (inr differs) = ap (λ r. get_or r k []) row ∙ get_or-set_other (row_of part) j k new.bytes.items [] differs
    by_index (inl here) =
        ap (part_pages (with_page part j new)) here
        ∙ (ap (λ r. get_or r j []) row
        ∙ (get_or-set_same (row_of part) j new.bytes.items [] (omega (arith, inside, length-map part.pages.items bytes_of))
        ∙ (same ∙ (sym (get_or-map bytes_of part.pages.items j old [] inside ∙ ap bytes_of (sym read)) ∙ ap (part_pages part) (sym here)))))
