-- The content of pages: what a range in memory, and a write, is to the pages and the objects.
use Rattle.std.proofs.Common.{◌≡◌, ◌≢◌, ◌∙◌, refl, ap, sym, subst, ◌⊎◌, inl, inr, ℕ, ◌<◌, ◌≤◌, ◌+◌, ◌-◌, ◌/◌, List, [], ◌∷◌, length, get_or, set, map, take, drop, replicate, Some, arith}
use Rattle.std.specs.FinMap.{get, insert}
use Rattle.std.proofs.lemmas.List.{ext_get_or, get_or-take, get_or-drop, get_or-map, get_or_default, length-map, length-set, length-take, length-drop, length-replicate, get_or-set_same, get_or-set_other}
use Rattle.std.proofs.lemmas.Bool.{cases_eq, cases_lt}
use Rattle.lu_spec.specs.Splice.{piece_at, spliced}
use Rattle.lu_spec.proofs.SpliceLemmas.{length-spliced}
use Rattle.bm_mem.specs.Layout.{Entry, IsLaidOut, IsLaidOutFrom}
use Rattle.bm_mem.specs.Content.{Content, Holds, IsInside, IsRead, IsWritten}
use Rattle.bm_mem.proofs.Entries.{content_of, in_content}
use Rattle.bm_mem.proofs.Changes.{content-set}
use Rattle.bm_pages.specs.declared.extents.Extent.{Extent}
use Rattle.bm_pages.specs.Pages.{Pages, byte_at, bytes_from, IsBacked, IsOverwritten}
use Rattle.bm_pages.specs.Extents.{entry_in, entries_in, zero_entry, layout_of, ReachesInto, IsUsed, IsSound}
use Rattle.bm_pages.proofs.ExtentLemmas.{extents_apart}
use Rattle.bm_pages.proofs.RangeLemmas.{length-bytes_from, get_or-bytes_from, bytes_from-ext, spliced_inside, spliced_below, spliced_above}

-- an extent to read past the end with
abbrev pub no_extent : Extent
no_extent = record { addr = 0; size = 0 }

-- the layout does not depend on the bytes
pub relaid : (f g : Extent → Entry) → ((e : Extent) → (f e).0 ≡ (g e).0) → ((e : Extent) → length (f e).1 ≡ length (g e).1) → (bound : ℕ) (es : List Extent) → IsLaidOutFrom bound (map f es) → IsLaidOutFrom bound (map g es)
relaid f g first long bound [] h = tt
relaid f g first long bound (e ∷ es) h = (
  omega (arith, h.0, first e),
  omega (arith, h.1, long e),
  omega (arith, h.2, first e, long e),
  subst (λ b. IsLaidOutFrom b (map g es)) (omega (arith, first e, long e)) (relaid f g first long ((f e).0 + length (f e).1) es h.3),
)

same_length : (pages : Pages) (e : Extent) → length (replicate {A = ℕ} e.size 0) ≡ length (bytes_from pages e.addr e.size)
same_length pages e = length-replicate {A = ℕ} e.size 0 ∙ sym (length-bytes_from pages e.addr e.size)

pub laid_entries : (pages : Pages) (es : List Extent) → IsLaidOut (layout_of es) → IsLaidOut (entries_in pages es)
laid_entries pages es h = relaid zero_entry (entry_in pages) (λ e. refl) (same_length pages) 0 es h

pub laid_layout : (pages : Pages) (es : List Extent) → IsLaidOut (entries_in pages es) → IsLaidOut (layout_of es)
laid_layout pages es h = relaid (entry_in pages) zero_entry (λ e. refl) (λ e. sym (same_length pages e)) 0 es h

-- the same bytes in the same places
pub same_bytes : (old new : Pages) (addr count : ℕ) → ((k : ℕ) → k < count → byte_at new (addr + k) ≡ byte_at old (addr + k)) → bytes_from new addr count ≡ bytes_from old addr count
same_bytes old new addr count each =
    bytes_from-ext (bytes_from new addr count) old addr count (length-bytes_from new addr count) (λ k inside. get_or-bytes_from new addr count k inside ∙ each k inside)

pub entry_at : (pages : Pages) (es : List Extent) (k : ℕ) → k < length es → (d : Entry) → get_or (entries_in pages es) k d ≡ entry_in pages (get_or es k no_extent)
entry_at pages es k inside d = get_or-map (entry_in pages) es k no_extent d inside

pub same_entries : (old new : Pages) (es : List Extent) → ((k : ℕ) → k < length es → (j : ℕ) → j < (get_or es k no_extent).size → byte_at new ((get_or es k no_extent).addr + j) ≡ byte_at old ((get_or es k no_extent).addr + j)) → entries_in new es ≡ entries_in old es
same_entries old new es each =
    ext_get_or (entry_in old no_extent) (entries_in new es) (entries_in old es) (length-map es (entry_in new) ∙ sym (length-map es (entry_in old))) each_entry
  where
    each_entry : (k : ℕ) → k < length (entries_in new es) → get_or (entries_in new es) k (entry_in old no_extent) ≡ get_or (entries_in old es) k (entry_in old no_extent)
    each_entry k below =
        let inside : k < length es = omega (arith, below, length-map es (entry_in new)) in
        let e = get_or es k no_extent in
        entry_at new es k inside (entry_in old no_extent)
        ∙ (ap (λ bytes. (e.addr, bytes)) (same_bytes old new e.addr e.size (each k inside)) ∙ sym (entry_at old es k inside (entry_in old no_extent)))

-- the pages of an object
pub reaches : (e : Extent) (j : ℕ) → j < e.size → ReachesInto ((e.addr + j) / 4096) e
reaches e j inside = record { begins = omega arith; ends = omega arith }

pub used_by : (es : List Extent) (k page : ℕ) → k < length es → ReachesInto page (get_or es k no_extent) → IsUsed es page
used_by es k page inside r = (k, get_or es k no_extent, inside, get_or_default es k (get_or es k no_extent) no_extent inside, r)

pub object_used : (es : List Extent) (k : ℕ) → k < length es → (j : ℕ) → j < (get_or es k no_extent).size → IsUsed es (((get_or es k no_extent).addr + j) / 4096)
object_used es k inside j below = used_by es k _ inside (reaches (get_or es k no_extent) j below)

-- the object of an address
pub record IsObject (pages : Pages) (es : List Extent) (start : ℕ) (bytes : List ℕ) (index : ℕ) : Type 0 where
  pub inside : index < length es
  pub first : (get_or es index no_extent).addr ≡ start
  pub content : bytes ≡ bytes_from pages start (get_or es index no_extent).size

pub size_of : (pages : Pages) (es : List Extent) (start : ℕ) (bytes : List ℕ) (index : ℕ) → IsObject pages es start bytes index → length bytes ≡ (get_or es index no_extent).size
size_of pages es start bytes index o = ap length o.content ∙ length-bytes_from pages start (get_or es index no_extent).size

pub object_at : (pages : Pages) (es : List Extent) (start : ℕ) (bytes : List ℕ) → get (content_of (entries_in pages es)) start ≡ Some bytes → (index : ℕ) × IsObject pages es start bytes index
object_at pages es start bytes at = (r.0, record { inside = inside; first = first; content = content })
  where
    r : (k : ℕ) × (k < length (entries_in pages es)) × ((d : Entry) → get_or (entries_in pages es) k d ≡ (start, bytes))
    r = in_content (entries_in pages es) start bytes at

    inside : r.0 < length es
    inside = omega (arith, r.1, length-map es (entry_in pages))

    e : Extent
    e = get_or es r.0 no_extent

    same : ◌≡◌ {A = Entry} (entry_in pages (get_or es r.0 no_extent)) (start, bytes)
    same = sym (entry_at pages es r.0 inside (start, bytes)) ∙ r.2 (start, bytes)

    first : (get_or es r.0 no_extent).addr ≡ start
    first = ap (λ e. e.0) same

    content : bytes ≡ bytes_from pages start (get_or es r.0 no_extent).size
    content = sym (ap (λ e. e.1) same) ∙ ap (λ a. bytes_from pages a (get_or es r.0 no_extent).size) first

-- a piece of the bytes of a range
pub piece_of_range : (pages : Pages) (start size addr len : ℕ) → start ≤ addr → addr + len ≤ start + size → bytes_from pages addr len ≡ piece_at (bytes_from pages start size) (addr - start) len
piece_of_range pages start size addr len low high =
    sym (bytes_from-ext (take len (drop (addr - start) (bytes_from pages start size))) pages addr len (simp (length-take, length-drop) (omega (arith, length-bytes_from pages start size))) each)
  where
    each : (k : ℕ) → k < len → get_or (take len (drop (addr - start) (bytes_from pages start size))) k 0 ≡ byte_at pages (addr + k)
    each k below =
        get_or-take len (drop (addr - start) (bytes_from pages start size)) k 0 below
        ∙ (get_or-drop (addr - start) (bytes_from pages start size) k 0
        ∙ (get_or-bytes_from pages start size (addr - start + k) (omega arith) ∙ ap (byte_at pages) (omega arith)))

module _ (pages : Pages) (es : List Extent) (sound : IsSound pages es) (m : Content) (view : content_of (entries_in pages es) ≡ m) where
  pub object_in : (start : ℕ) (bytes : List ℕ) → get m start ≡ Some bytes → (index : ℕ) × IsObject pages es start bytes index
  object_in start bytes at = object_at pages es start bytes (ap (λ c. get c start) view ∙ at)

  -- what is read
  pub reads : (addr len : ℕ) (piece : List ℕ) → piece ≡ bytes_from pages addr len → IsRead m addr len piece
  reads addr len piece is = λ start bytes h.
      let o = object_in start bytes h.at in
      let size = size_of pages es start bytes o.0 o.1 in
      is
      ∙ (piece_of_range pages start (get_or es o.0 no_extent).size addr len h.low (omega (arith, h.high, size))
      ∙ ap (λ l. piece_at l (addr - start) len) (sym o.1.content))

  -- a range in an object has pages
  pub backed : (addr len : ℕ) → IsInside m addr len → IsBacked pages addr len
  backed addr len h = λ k below.
      let o = object_in h.0 h.1 h.2.at in
      let e = get_or es o.0 no_extent in
      let size = size_of pages es h.0 h.1 o.0 o.1 in
      let same : e.addr + (addr - h.0 + k) ≡ addr + k = omega (arith, o.1.first, h.2.low) in
      let used = object_used es o.0 o.1.inside (addr - h.0 + k) (omega (arith, h.2.low, h.2.high, size, below)) in
      sound.used ((addr + k) / 4096) (subst (λ q. IsUsed es (q / 4096)) same used)

  -- a write
  module _ (new : Pages) (addr : ℕ) (piece : List ℕ) (w : IsOverwritten pages new addr piece) where
    no_bytes : (xs : List ℕ) → length xs ≡ 0 → xs ≡ []
    no_bytes [] e = refl
    no_bytes (x ∷ xs) e = absurd (omega arith)

    pub sound_after : IsSound new es
    sound_after = record {
      laid_out = sound.laid_out;
      whole = λ page some. w.lengths page ∙ sound.whole page (omega (arith, some, w.lengths page));
      used = λ page by. w.lengths page ∙ sound.used page by;
      unused = λ page free. no_bytes (new page) (w.lengths page ∙ ap length (sound.unused page free));
    }

    module _ (start : ℕ) (bytes : List ℕ) (h : Holds m start bytes addr (length piece)) (index : ℕ) (o : IsObject pages es start bytes index) where
      size_is : length bytes ≡ (get_or es index no_extent).size
      size_is = size_of pages es start bytes index o

      fits : addr - start + length piece ≤ length bytes
      fits = omega (arith, h.low, h.high)

      new_byte : (j : ℕ) → j < (get_or es index no_extent).size → (j < addr - start) ⊎ (addr - start ≤ j) → (j < addr - start + length piece) ⊎ (addr - start + length piece ≤ j) → get_or (spliced bytes (addr - start) piece) j 0 ≡ byte_at new (start + j)
      new_byte j inside (inl before) other =
          spliced_below bytes (addr - start) piece fits j before
          ∙ (ap (λ l. get_or l j 0) o.content
          ∙ (get_or-bytes_from pages start (get_or es index no_extent).size j inside ∙ sym (w.below (start + j) (omega (arith, h.low, before)))))
      new_byte j inside (inr from) (inl below) =
          ap (λ n. get_or (spliced bytes (addr - start) piece) n 0) (omega arith)
          ∙ (spliced_inside bytes (addr - start) piece fits (j - (addr - start)) (omega arith)
          ∙ (sym (w.piece_there (j - (addr - start)) (omega arith)) ∙ ap (byte_at new) (omega (arith, h.low, from))))
      new_byte j inside (inr from) (inr after) =
          spliced_above bytes (addr - start) piece fits j after
          ∙ (ap (λ l. get_or l j 0) o.content
          ∙ (get_or-bytes_from pages start (get_or es index no_extent).size j inside ∙ sym (w.above (start + j) (omega (arith, h.low, after)))))

      new_bytes : spliced bytes (addr - start) piece ≡ bytes_from new start (get_or es index no_extent).size
      new_bytes =
          bytes_from-ext (spliced bytes (addr - start) piece) new start (get_or es index no_extent).size (length-spliced bytes (addr - start) piece fits ∙ size_is) (λ j inside. new_byte j inside (cases_lt j (addr - start)) (cases_lt j (addr - start + length piece)))

      entry_new : (k : ℕ) → k < length es → (k ≡ index) ⊎ (k ≢ index) → (d : Entry) → get_or (entries_in new es) k d ≡ get_or (set (entries_in pages es) index (start, spliced bytes (addr - start) piece)) k d
      entry_new k inside (inl same) d =
          ap (λ i. get_or (entries_in new es) i d) same
          ∙ (entry_at new es index o.inside d
          ∙ (ap (λ a. (a, bytes_from new a (get_or es index no_extent).size)) o.first
          ∙ (ap (λ l. (start, l)) (sym new_bytes)
          ∙ (sym (get_or-set_same (entries_in pages es) index (start, spliced bytes (addr - start) piece) d (omega (arith, o.inside, length-map es (entry_in pages))))
          ∙ ap (λ i. get_or (set (entries_in pages es) index (start, spliced bytes (addr - start) piece)) i d) (sym same)))))
      entry_new k inside (inr differs) d =
          entry_at new es k inside d
          ∙ (ap (λ l. ((get_or es k no_extent).addr, l)) (same_bytes pages new (get_or es k no_extent).addr (get_or es k no_extent).size (λ j below. beside j below (cases_lt k index)))
          ∙ (sym (entry_at pages es k inside d)
          ∙ sym (get_or-set_other (entries_in pages es) index k (start, spliced bytes (addr - start) piece) d differs)))
        where
          beside : (j : ℕ) → j < (get_or es k no_extent).size → (k < index) ⊎ (index ≤ k) → byte_at new ((get_or es k no_extent).addr + j) ≡ byte_at pages ((get_or es k no_extent).addr + j)
          beside j below (inl before) =
              let r = extents_apart es sound.laid_out k index no_extent before o.inside in
              w.below ((get_or es k no_extent).addr + j) (omega (arith, r, below, o.first, h.low))
          beside j below (inr from) =
              let after : index < k = omega (arith, from, differs) in
              let r = extents_apart es sound.laid_out index k no_extent after inside in
              w.above ((get_or es k no_extent).addr + j) (omega (arith, r, o.first, h.high, size_is))

      entries_new : entries_in new es ≡ set (entries_in pages es) index (start, spliced bytes (addr - start) piece)
      entries_new =
          ext_get_or (entry_in new no_extent) (entries_in new es) (set (entries_in pages es) index (start, spliced bytes (addr - start) piece)) (length-map es (entry_in new) ∙ sym (length-set (entries_in pages es) index (start, spliced bytes (addr - start) piece) ∙ length-map es (entry_in pages))) (λ k below. entry_new k (omega (arith, below, length-map es (entry_in new))) (cases_eq k index) (entry_in new no_extent))

      content_new : content_of (entries_in new es) ≡ insert m start (spliced bytes (addr - start) piece)
      content_new =
          ap content_of entries_new
          ∙ (content-set (entries_in pages es) (laid_entries pages es sound.laid_out) index start (spliced bytes (addr - start) piece) (start, bytes) (omega (arith, o.inside, length-map es (entry_in pages))) (ap (λ e. e.0) (entry_at pages es index o.inside (start, bytes)) ∙ o.first)
          ∙ ap (λ c. insert c start (spliced bytes (addr - start) piece)) view)

    pub writes : IsWritten m (content_of (entries_in new es)) addr piece
    writes = λ start bytes h. let o = object_in start bytes h.at in content_new start bytes h o.0 o.1
