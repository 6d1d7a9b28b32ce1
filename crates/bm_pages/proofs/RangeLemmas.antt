-- Reads and writes of ranges that go over the ends of pages.
use Rattle.std.proofs.Common.{◌≡◌, ◌≢◌, ◌∙◌, refl, ap, sym, subst, ◌⊎◌, inl, inr, ℕ, zero, suc, ◌<◌, ◌≤◌, ◌+◌, ◌-◌, ◌/◌, ◌%◌, min, List, [], ◌∷◌, ◌++◌, length, get_or, take, drop, replicate, arith}
use Rattle.std.proofs.lemmas.List.{ext_get_or, get_or-take, get_or-drop, get_or-append_right, length-take-le, length-take, length-drop, length-append, length-replicate, append_assoc, take_at, replicate-append-replicate}
use Rattle.std.proofs.lemmas.Bool.{cases_eq, cases_lt}
use Rattle.std.proofs.Math.Seq.{take-add}
use Rattle.std.proofs.Math.ListN.{get_or-append}
use Rattle.lu_spec.specs.Splice.{spliced}
use Rattle.lu_spec.proofs.SpliceLemmas.{length-spliced}
use Rattle.bm_pages.specs.Pages.{Pages, byte_at, bytes_from, IsThere, IsBacked, IsOverwritten}
use Rattle.bm_pages.specs.Directory.{ChangesPage, IsTaken, IsPartlyTaken}
use Rattle.bm_pages.specs.declared.extents.Extent.{Extent}
use Rattle.bm_pages.specs.Extents.{IsUsed, IsReleased}

-- addresses of one page
pub same_page : (addr k : ℕ) → addr % 4096 + k < 4096 → (addr + k) / 4096 ≡ addr / 4096
same_page addr k inside = omega arith

pub same_offset : (addr k : ℕ) → addr % 4096 + k < 4096 → (addr + k) % 4096 ≡ addr % 4096 + k
same_offset addr k inside = omega arith

pub byte_in_page : (pages : Pages) (addr k : ℕ) → addr % 4096 + k < 4096 → byte_at pages (addr + k) ≡ get_or (pages (addr / 4096)) (addr % 4096 + k) 0
byte_in_page pages addr k inside =
    ap (λ n. get_or (pages n) ((addr + k) % 4096) 0) (same_page addr k inside)
    ∙ ap (λ n. get_or (pages (addr / 4096)) n 0) (same_offset addr k inside)

-- the bytes of a range
pub length-bytes_from : (pages : Pages) (addr count : ℕ) → length (bytes_from pages addr count) ≡ count
length-bytes_from pages addr zero = refl
length-bytes_from pages addr (suc count) = ap suc (length-bytes_from pages (addr + 1) count)

pub get_or-bytes_from : (pages : Pages) (addr count k : ℕ) → k < count → get_or (bytes_from pages addr count) k 0 ≡ byte_at pages (addr + k)
get_or-bytes_from pages addr zero k inside = absurd (omega arith)
get_or-bytes_from pages addr (suc count) zero inside = ap (byte_at pages) (omega arith)
get_or-bytes_from pages addr (suc count) (suc k) inside =
    get_or-bytes_from pages (addr + 1) count k (omega arith) ∙ ap (byte_at pages) (omega arith)

pub bytes_from-ext : (xs : List ℕ) (pages : Pages) (addr count : ℕ) → length xs ≡ count → ((k : ℕ) → k < count → get_or xs k 0 ≡ byte_at pages (addr + k)) → xs ≡ bytes_from pages addr count
bytes_from-ext xs pages addr count long each =
    ext_get_or 0 xs (bytes_from pages addr count) (long ∙ sym (length-bytes_from pages addr count)) (λ k inside. each k (omega (arith, inside, long)) ∙ sym (get_or-bytes_from pages addr count k (omega (arith, inside, long))))

-- a piece of a page
pub piece_of_page : (pages : Pages) (addr count : ℕ) → IsThere pages (addr / 4096) → addr % 4096 + count ≤ 4096 → take count (drop (addr % 4096) (pages (addr / 4096))) ≡ bytes_from pages addr count
piece_of_page pages addr count there inside =
    bytes_from-ext (take count (drop (addr % 4096) (pages (addr / 4096)))) pages addr count (simp (length-take, length-drop) (omega (arith, there, inside))) each
  where
    each : (k : ℕ) → k < count → get_or (take count (drop (addr % 4096) (pages (addr / 4096)))) k 0 ≡ byte_at pages (addr + k)
    each k below =
        get_or-take count (drop (addr % 4096) (pages (addr / 4096))) k 0 below
        ∙ (get_or-drop (addr % 4096) (pages (addr / 4096)) k 0 ∙ sym (byte_in_page pages addr k (omega (arith, below, inside))))

-- two ranges, one after the other
pub bytes_from-add : (pages : Pages) (addr m n : ℕ) → bytes_from pages addr (m + n) ≡ bytes_from pages addr m ++ bytes_from pages (addr + m) n
bytes_from-add pages addr m n =
    sym (bytes_from-ext (bytes_from pages addr m ++ bytes_from pages (addr + m) n) pages addr (m + n) long (λ k inside. by_order k inside (cases_lt k m)))
  where
    front : length (bytes_from pages addr m) ≡ m
    front = length-bytes_from pages addr m

    long : length (bytes_from pages addr m ++ bytes_from pages (addr + m) n) ≡ m + n
    long = length-append (bytes_from pages addr m) (bytes_from pages (addr + m) n) ∙ omega (arith, front, length-bytes_from pages (addr + m) n)

    by_order : (k : ℕ) → k < m + n → (k < m) ⊎ (m ≤ k) → get_or (bytes_from pages addr m ++ bytes_from pages (addr + m) n) k 0 ≡ byte_at pages (addr + k)
    by_order k inside (inl below) =
        get_or-append (bytes_from pages addr m) (bytes_from pages (addr + m) n) 0 k (omega (arith, below, front)) ∙ get_or-bytes_from pages addr m k below
    by_order k inside (inr above) =
        get_or-append_right (bytes_from pages addr m) (bytes_from pages (addr + m) n) m k 0 front above
        ∙ (get_or-bytes_from pages (addr + m) n (k - m) (omega arith) ∙ ap (byte_at pages) (omega arith))

-- the elements of a list with another piece
module _ (xs : List ℕ) (at : ℕ) (piece : List ℕ) (fits : at + length piece ≤ length xs) where
  front_long : length (take at xs) ≡ at
  front_long = length-take-le at xs (omega arith)

  pub spliced_inside : (k : ℕ) → k < length piece → get_or (spliced xs at piece) (at + k) 0 ≡ get_or piece k 0
  spliced_inside k inside =
      get_or-append_right (take at xs) (piece ++ drop (at + length piece) xs) at (at + k) 0 front_long (omega arith)
      ∙ (ap (λ n. get_or (piece ++ drop (at + length piece) xs) n 0) (omega arith) ∙ get_or-append piece (drop (at + length piece) xs) 0 k inside)

  pub spliced_below : (k : ℕ) → k < at → get_or (spliced xs at piece) k 0 ≡ get_or xs k 0
  spliced_below k below =
      get_or-append (take at xs) (piece ++ drop (at + length piece) xs) 0 k (omega (arith, front_long, below))
      ∙ get_or-take at xs k 0 below

  pub spliced_above : (k : ℕ) → at + length piece ≤ k → get_or (spliced xs at piece) k 0 ≡ get_or xs k 0
  spliced_above k above =
      get_or-append_right (take at xs) (piece ++ drop (at + length piece) xs) at k 0 front_long (omega arith)
      ∙ (get_or-append_right piece (drop (at + length piece) xs) (length piece) (k - at) 0 refl (omega arith)
      ∙ (get_or-drop (at + length piece) xs (k - at - length piece) 0 ∙ ap (λ n. get_or xs n 0) (omega arith)))

-- a piece written in one page
module _ (old new : Pages) (addr : ℕ) (piece : List ℕ) (there : IsThere old (addr / 4096)) (inside : addr % 4096 + length piece ≤ 4096) (change : ChangesPage old new (addr / 4096) (spliced (old (addr / 4096)) (addr % 4096) piece)) where
  page_fits : addr % 4096 + length piece ≤ length (old (addr / 4096))
  page_fits = omega (arith, inside, there)

  other_byte : (q : ℕ) → (q / 4096 ≡ addr / 4096) ⊎ (q / 4096 ≢ addr / 4096) → (q / 4096 ≡ addr / 4096 → get_or (spliced (old (addr / 4096)) (addr % 4096) piece) (q % 4096) 0 ≡ get_or (old (addr / 4096)) (q % 4096) 0) → byte_at new q ≡ byte_at old q
  other_byte q (inr other) kept = ap (λ bytes. get_or bytes (q % 4096) 0) (change.others (q / 4096) other)
  other_byte q (inl same) kept =
      ap (λ n. get_or (new n) (q % 4096) 0) same
      ∙ (ap (λ bytes. get_or bytes (q % 4096) 0) change.changed ∙ (kept same ∙ ap (λ n. get_or (old n) (q % 4096) 0) (sym same)))

  page_length : (page : ℕ) → (page ≡ addr / 4096) ⊎ (page ≢ addr / 4096) → length (new page) ≡ length (old page)
  page_length page (inr other) = ap length (change.others page other)
  page_length page (inl same) =
      ap (λ n. length (new n)) same
      ∙ (ap length change.changed ∙ (length-spliced (old (addr / 4096)) (addr % 4096) piece page_fits ∙ ap (λ n. length (old n)) (sym same)))

  pub overwritten_in_page : IsOverwritten old new addr piece
  overwritten_in_page = record {
    piece_there = λ k below.
        byte_in_page new addr k (omega (arith, below, inside))
        ∙ (ap (λ bytes. get_or bytes (addr % 4096 + k) 0) change.changed ∙ spliced_inside (old (addr / 4096)) (addr % 4096) piece page_fits k below);
    below = λ q low. other_byte q (cases_eq (q / 4096) (addr / 4096)) (λ same. spliced_below (old (addr / 4096)) (addr % 4096) piece page_fits (q % 4096) (omega (arith, same, low)));
    above = λ q high. other_byte q (cases_eq (q / 4096) (addr / 4096)) (λ same. spliced_above (old (addr / 4096)) (addr % 4096) piece page_fits (q % 4096) (omega (arith, same, high)));
    lengths = λ page. page_length page (cases_eq page (addr / 4096));
  }

-- nothing written, and a piece after another
pub overwritten_none : (pages : Pages) (addr : ℕ) → IsOverwritten pages pages addr []
overwritten_none pages addr = record {
  piece_there = λ k inside. absurd (omega arith);
  below = λ q low. refl;
  above = λ q high. refl;
  lengths = λ page. refl;
}

pub overwritten_more : (a b c : Pages) (addr : ℕ) (p q : List ℕ) → IsOverwritten a b addr p → IsOverwritten b c (addr + length p) q → IsOverwritten a c addr (p ++ q)
overwritten_more a b c addr p q f s = record {
  piece_there = λ k inside. by_order k (omega (arith, inside, length-append p q)) (cases_lt k (length p));
  below = λ at low. s.below at (omega (arith, low)) ∙ f.below at low;
  above = λ at high.
      s.above at (omega (arith, high, length-append p q)) ∙ f.above at (omega (arith, high, length-append p q));
  lengths = λ page. s.lengths page ∙ f.lengths page;
}
  where
    by_order : (k : ℕ) → k < length p + length q → (k < length p) ⊎ (length p ≤ k) → byte_at c (addr + k) ≡ get_or (p ++ q) k 0
    by_order k inside (inl below) = s.below (addr + k) (omega arith) ∙ (f.piece_there k below ∙ sym (get_or-append p q 0 k below))
    by_order k inside (inr above) =
        ap (byte_at c) (omega arith)
        ∙ (s.piece_there (k - length p) (omega arith) ∙ sym (get_or-append_right p q (length p) k 0 refl above))

-- a range with pages after a write
pub backed_after : (old new : Pages) (at : ℕ) (piece : List ℕ) (addr count : ℕ) → IsOverwritten old new at piece → IsBacked old addr count → IsBacked new addr count
backed_after old new at piece addr count w backed = λ k inside. w.lengths ((addr + k) / 4096) ∙ backed k inside

-- pages taken, one more
pub taken_none : (pages : Pages) (first : ℕ) → IsTaken pages pages first first
taken_none pages first = record {
  kept = λ page some. refl;
  made = λ page low high none. absurd (omega arith);
  others = λ page low. refl;
  others_above = λ page high. refl;
}

pub taken_more : (a b c : Pages) (first number : ℕ) → first ≤ number → IsTaken a b first number → IsTaken b c number (number + 1) → IsTaken a c first (number + 1)
taken_more a b c first number order f s = record {
  kept = λ page some. s.kept page (omega (arith, some, ap length (f.kept page some))) ∙ f.kept page some;
  made = λ page low high none. made page low high none (cases_lt page number);
  others = λ page low. s.others page (omega arith) ∙ f.others page low;
  others_above = λ page high. s.others_above page high ∙ f.others_above page (omega arith);
}
  where
    made : (page : ℕ) → first ≤ page → page < number + 1 → length (a page) ≡ 0 → (page < number) ⊎ (number ≤ page) → c page ≡ replicate 4096 0
    made page low high none (inl below) = s.others page below ∙ f.made page low below none
    made page low high none (inr above) = s.made page above high (omega (arith, none, ap length (f.others_above page above)))

pub partly_taken : (a b c : Pages) (first number end : ℕ) → number ≤ end → IsTaken a b first number → ((page : ℕ) → c page ≡ b page) → IsPartlyTaken a c first end
partly_taken a b c first number end order t same = record {
  kept = λ page some. same page ∙ t.kept page some;
  others = λ page low. same page ∙ t.others page low;
  others_above = λ page high. same page ∙ t.others_above page (omega arith);
}

-- how much of a range a page has
pub in_page : (addr left count : ℕ) → count ≡ min (4096 - addr % 4096) left → addr % 4096 + count ≤ 4096
in_page addr left count is = omega arith

pub at_most : (addr left count : ℕ) → count ≡ min (4096 - addr % 4096) left → count ≤ left
at_most addr left count is = omega arith

-- a step of a write, and of one of zeros
pub write_step : (old middle new : Pages) (addr done count : ℕ) (piece : List ℕ) → done < length piece → count ≡ min (4096 - (addr + done) % 4096) (length piece - done) → IsBacked old addr (length piece) → IsOverwritten old middle addr (take done piece) → ChangesPage middle new ((addr + done) / 4096) (spliced (middle ((addr + done) / 4096)) ((addr + done) % 4096) (take (done + count - done) (drop done piece))) → IsOverwritten old new addr (take (done + count) piece)
write_step old middle new addr done count piece inside is backed before change =
    subst (IsOverwritten old new addr) (sym (take-add done count piece)) (overwritten_more old middle new addr (take done piece) (take count (drop done piece)) before next)
  where
    left : count ≤ length piece - done
    left = at_most (addr + done) (length piece - done) count is

    long : length (take count (drop done piece)) ≡ count
    long = length-take-le count (drop done piece) (omega (arith, left, length-drop done piece))

    there : IsThere middle ((addr + done) / 4096)
    there = before.lengths ((addr + done) / 4096) ∙ backed done inside

    exact : ChangesPage middle new ((addr + done) / 4096) (spliced (middle ((addr + done) / 4096)) ((addr + done) % 4096) (take count (drop done piece)))
    exact =
        let same : done + count - done ≡ count = omega arith in
        subst (λ n. ChangesPage middle new ((addr + done) / 4096) (spliced (middle ((addr + done) / 4096)) ((addr + done) % 4096) (take n (drop done piece)))) same change

    next : IsOverwritten middle new (addr + length (take done piece)) (take count (drop done piece))
    next =
        subst (λ n. IsOverwritten middle new (addr + n) (take count (drop done piece))) (sym (length-take-le done piece (omega arith))) (overwritten_in_page middle new (addr + done) (take count (drop done piece)) there (omega (arith, long, in_page (addr + done) (length piece - done) count is)) exact)

pub clear_step : (old middle new : Pages) (addr done count size : ℕ) → done < size → count ≡ min (4096 - (addr + done) % 4096) (size - done) → IsBacked old addr size → IsOverwritten old middle addr (replicate done 0) → ChangesPage middle new ((addr + done) / 4096) (spliced (middle ((addr + done) / 4096)) ((addr + done) % 4096) (replicate count 0)) → IsOverwritten old new addr (replicate (done + count) 0)
clear_step old middle new addr done count size inside is backed before change =
    subst (IsOverwritten old new addr) (replicate-append-replicate done count 0) (overwritten_more old middle new addr (replicate done 0) (replicate count 0) before next)
  where
    there : IsThere middle ((addr + done) / 4096)
    there = before.lengths ((addr + done) / 4096) ∙ backed done inside

    next : IsOverwritten middle new (addr + length {A = ℕ} (replicate done 0)) (replicate count 0)
    next =
        subst (λ n. IsOverwritten middle new (addr + n) (replicate count 0)) (sym (length-replicate {A = ℕ} done 0)) (overwritten_in_page middle new (addr + done) (replicate count 0) there (omega (arith, length-replicate {A = ℕ} count 0, in_page (addr + done) (size - done) count is)) change)

-- a step of a copy
module _ (pages : Pages) (addr done count : ℕ) (into piece : List ℕ) (inside : done < length into) (is : count ≡ min (4096 - (addr + done) % 4096) (length into - done)) (here : piece ≡ bytes_from pages (addr + done) count) where
  pub piece_long : length piece ≡ count
  piece_long = ap length here ∙ length-bytes_from pages (addr + done) count

  pub piece_fits : done + length piece ≤ length into
  piece_fits = omega (arith, piece_long, at_most (addr + done) (length into - done) count is, inside)

  pub copy_step : take done into ≡ bytes_from pages addr done → take (done + count) (spliced into done piece) ≡ bytes_from pages addr (done + count)
  copy_step before =
      ap (take (done + count)) (sym (append_assoc (take done into) piece (drop (done + length piece) into)))
      ∙ (take_at (take done into ++ piece) (drop (done + length piece) into) (done + count) long
      ∙ (ap (λ l. l ++ piece) before ∙ (ap (λ l. bytes_from pages addr done ++ l) here ∙ sym (bytes_from-add pages addr done count))))
    where
      long : length (take done into ++ piece) ≡ done + count
      long = length-append (take done into) piece ∙ omega (arith, length-take-le done into (omega arith), piece_long)

-- pages given up: none, one, one more
pub released_none : (es : List Extent) (pages : Pages) (first : ℕ) → IsReleased es pages pages first first
released_none es pages first = record {
  gone = λ page low high free. absurd (omega arith);
  used = λ page by. refl;
  below = λ page low. refl;
  above = λ page high. refl;
}

pub released_more : (es : List Extent) (a b c : Pages) (first number : ℕ) → first ≤ number → IsReleased es a b first number → IsReleased es b c number (number + 1) → IsReleased es a c first (number + 1)
released_more es a b c first number order f s = record {
  gone = λ page low high free. gone page low high free (cases_lt page number);
  used = λ page by. s.used page by ∙ f.used page by;
  below = λ page low. s.below page (omega arith) ∙ f.below page low;
  above = λ page high. s.above page high ∙ f.above page (omega arith);
}
  where
    gone : (page : ℕ) → first ≤ page → page < number + 1 → (IsUsed es page → ⊥) → (page < number) ⊎ (number ≤ page) → c page ≡ []
    gone page low high free (inl below) = s.below page below ∙ f.gone page low below free
    gone page low high free (inr above) = s.gone page above high free

-- a page given up that no object has a byte in
pub released_one : (es : List Extent) (old new : Pages) (number : ℕ) → (IsUsed es number → ⊥) → ChangesPage old new number [] → IsReleased es old new number (number + 1)
released_one es old new number free change = record {
  gone = λ page low high free. ap new (omega arith) ∙ change.changed;
  used = λ page by. change.others page (λ e. free (subst (IsUsed es) e by));
  below = λ page low. change.others page (λ e. omega (arith, e, low));
  above = λ page high. change.others page (λ e. omega (arith, e, high));
}

-- a page that an object has a byte in, or without memory, stays
pub released_used : (es : List Extent) (pages : Pages) (number : ℕ) → IsUsed es number → IsReleased es pages pages number (number + 1)
released_used es pages number by = record {
  gone = λ page low high free. let same : number ≡ page = omega arith in absurd (free (subst (IsUsed es) same by));
  used = λ page by. refl;
  below = λ page low. refl;
  above = λ page high. refl;
}

no_bytes : (xs : List ℕ) → (0 < length xs → ⊥) → xs ≡ []
no_bytes [] h = refl
no_bytes (x ∷ xs) h = absurd (h (omega arith))

pub released_absent : (es : List Extent) (pages : Pages) (number : ℕ) → (0 < length (pages number) → ⊥) → IsReleased es pages pages number (number + 1)
released_absent es pages number none = record {
  gone = λ page low high free. ap pages (omega arith) ∙ no_bytes (pages number) none;
  used = λ page by. refl;
  below = λ page low. refl;
  above = λ page high. refl;
}
