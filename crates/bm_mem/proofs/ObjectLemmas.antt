-- Vectors of objects in address order: what a range in memory is to them.
use Rattle.std.proofs.Common.{◌≡◌, ◌∙◌, refl, ap, sym, subst, inl, inr, ℕ, zero, suc, ◌<◌, ◌≤◌, ◌+◌, ◌-◌, ◌^◌, List, [], ◌∷◌, length, get_or, set, Option, Some, None, IsSome, Any, nat_le, Bool, true, false, cond, ◌==◌, ◌++◌, take, drop, arith}
use Rattle.std.specs.List.{remove, insert as inserted}
use Rattle.std.specs.FinMap.{get, insert, remove as without, get-insert, same_map, nat_cmp-IsAntisymmetric}
use Rattle.std.specs.Cmp.{nat_cmp_total}
use Rattle.std.proofs.lemmas.Bool.Decides.{nat_tests}
use Rattle.lu_spec.specs.Splice.{spliced}
use Rattle.std.specs.List.Sorted.{IsNonDecreasingBy, IsPartitionPoint}
use Rattle.std.proofs.lemmas.List.{map-set, get_or-map, length-map, take-append-drop}
use Rattle.bm_mem.specs.declared.vec_bytes.Object.{Object}
use Rattle.bm_mem.specs.Layout.{Entry, entry_of, entries, IsLaidOut, IsPlaceOf, IsCountUpTo}
use Rattle.bm_mem.specs.Content.{Content, Holds, IsInside, IsWidth}
use Rattle.bm_mem.proofs.Entries.{end_of, content_of, same_address, equal_address, begun, in_content, holder, sizes, addresses_rise, count_from_partition}
use Rattle.bm_mem.proofs.Changes.{content-set, laid-set, content-remove, laid-remove}

pub some_value : {A : Type 0} (o : Option A) → IsSome o → (x : A) × (o ≡ Some x)
some_value (Some x) h = (x, refl)
some_value None h = cc

pub width_some : (len : ℕ) → IsWidth len → 0 < len
width_some len (inl h) = omega (arith, h)
width_some len (inr (inl h)) = omega (arith, h)
width_some len (inr (inr (inl h))) = omega (arith, h)
width_some len (inr (inr (inr h))) = omega (arith, h)

pub entries_removed : (os : List Object) (i : ℕ) → entries (remove os i) ≡ remove (entries os) i
entries_removed [] zero = refl
entries_removed [] (suc i) = refl
entries_removed (o ∷ os) zero = refl
entries_removed (o ∷ os) (suc i) = ap (λ es. entry_of o ∷ es) (entries_removed os i)

pub entries_inserted : (os : List Object) (i : ℕ) (o : Object) → entries (inserted os i o) ≡ inserted (entries os) i (entry_of o)
entries_inserted [] zero o = refl
entries_inserted [] (suc i) o = refl
entries_inserted (x ∷ os) zero o = refl
entries_inserted (x ∷ os) (suc i) o = ap (λ es. entry_of x ∷ es) (entries_inserted os i o)

-- the entry of an object that is read
entry_read : (os : List Object) (i : ℕ) (x : Object) → i < length os → x ≡ get_or os i x → (d : Entry) → get_or (entries os) i d ≡ entry_of x
entry_read os i x inside read d = get_or-map entry_of os i x d inside ∙ ap entry_of (sym read)

-- the object that has a range
pub record IsHolder (x : Object) (addr len start : ℕ) (bytes : List ℕ) (offset : ℕ) : Type 0 where
  pub address : x.addr ≡ start
  pub content : x.bytes.items ≡ bytes
  pub offset_is : offset ≡ addr - start
  pub fits : offset + len ≤ length bytes
  pub end : start + length bytes < 2 ^ 32

module _ (os : List Object) (laid : IsLaidOut (entries os)) (seen : List Object) (is : seen ≡ os) (m : Content) (view : content_of (entries os) ≡ m) where
  of_entries : (start : ℕ) (bytes : List ℕ) (addr len : ℕ) → Holds m start bytes addr len → Holds (content_of (entries os)) start bytes addr len
  of_entries start bytes addr len h = subst (λ c. Holds c start bytes addr len) (sym view) h

  -- some object begins at or below a range
  pub begun_for : (addr len : ℕ) → IsInside m addr len → Any (λ e. e.0 ≤ addr) (entries seen)
  begun_for addr len h =
      subst (λ l. Any (λ e. e.0 ≤ addr) (entries l)) (sym is) (begun (entries os) h.0 h.1 addr (of_entries h.0 h.1 addr len h.2).at h.2.low)

  module _ (addr len index offset : ℕ) (place : IsPlaceOf (entries seen) addr index offset) (some : 0 < len) where
    place_here : IsPlaceOf (entries os) addr index offset
    place_here = subst (λ l. IsPlaceOf (entries l) addr index offset) is place

    pub inside_here : index < length os
    inside_here = omega (arith, place_here.inside, length-map os entry_of)

    pub holder_is : (x : Object) → x ≡ get_or os index x → (start : ℕ) (bytes : List ℕ) → Holds m start bytes addr len → IsHolder x addr len start bytes offset
    holder_is x read start bytes h =
        let there : get_or (entries os) index (entry_of x) ≡ (start, bytes) = holder (entries os) addr len start bytes index offset laid some (of_entries start bytes addr len h) place_here (entry_of x) in
        let same : entry_of x ≡ (start, bytes) = sym (entry_read os index x inside_here read (entry_of x)) ∙ there in
        let address : x.addr ≡ start = ap (λ e. e.0) same in
        let content : x.bytes.items ≡ bytes = ap (λ e. e.1) same in
        let low : start + offset ≡ addr = ap (λ e. e.0 + offset) (sym there) ∙ place_here.begins (entry_of x) in
        let size = sizes 0 (entries os) laid index (entry_of x) place_here.inside in
        record {
          address = address;
          content = content;
          offset_is = omega (arith, low);
          fits = omega (arith, low, h.high);
          end = omega (arith, size.1, ap end_of there);
        }

  -- an object changed
  module _ (index : ℕ) (x n : Object) (inside : index < length os) (read : x ≡ get_or os index x) (address : n.addr ≡ x.addr) (long : length n.bytes.items ≡ length x.bytes.items) where
    changed : entries (set os index n) ≡ set (entries os) index (x.addr, n.bytes.items)
    changed = map-set entry_of os index n ∙ ap (λ a. set (entries os) index (a, n.bytes.items)) address

    below : index < length (entries os)
    below = omega (arith, inside, length-map os entry_of)

    there : get_or (entries os) index (entry_of x) ≡ entry_of x
    there = entry_read os index x inside read (entry_of x)

    pub laid_changed : IsLaidOut (entries (set os index n))
    laid_changed =
        subst IsLaidOut (sym changed) (laid-set 0 (entries os) laid index x.addr n.bytes.items (entry_of x) below (ap (λ e. e.0) there) (ap (λ e. length e.1) there ∙ sym long))

    pub content_changed : content_of (entries (set os index n)) ≡ insert m x.addr n.bytes.items
    content_changed =
        ap content_of changed
        ∙ (content-set (entries os) laid index x.addr n.bytes.items (entry_of x) below (ap (λ e. e.0) there) ∙ ap (λ c. insert c x.addr n.bytes.items) view)

  -- an object taken away
  pub holds_first : (addr : ℕ) (bytes : List ℕ) → get m addr ≡ Some bytes → Holds m addr bytes addr 1
  holds_first addr bytes at =
      let r = in_content (entries os) addr bytes (ap (λ c. get c addr) view ∙ at) in
      let size = sizes 0 (entries os) laid r.0 (addr, bytes) r.1 in
      record { at = at; low = omega arith; high = omega (arith, size.0, ap (λ e. length e.1) (r.2 (addr, bytes))) }

  module _ (addr index offset : ℕ) (place : IsPlaceOf (entries seen) addr index offset) (there : IsSome (get m addr)) where
    bytes_there : (bytes : List ℕ) × (get m addr ≡ Some bytes)
    bytes_there = some_value (get m addr) there

    at_start : (d : Entry) → get_or (entries os) index d ≡ (addr, bytes_there.0)
    at_start d =
        holder (entries os) addr 1 addr bytes_there.0 index offset laid (omega arith) (of_entries addr bytes_there.0 addr 1 (holds_first addr bytes_there.0 bytes_there.1)) (place_here addr 1 index offset place (omega arith)) d

    pub laid_removed : IsLaidOut (entries (remove os index))
    laid_removed = subst IsLaidOut (sym (entries_removed os index)) (laid-remove 0 (entries os) laid index)

    pub content_removed : content_of (entries (remove os index)) ≡ without m addr
    content_removed =
        ap content_of (entries_removed os index)
        ∙ (content-remove (entries os) laid index addr (addr, bytes_there.0) (place_here addr 1 index offset place (omega arith)).inside (ap (λ e. e.0) (at_start (addr, bytes_there.0))) ∙ ap (λ c. without c addr) view)

-- what the binary search asks, and what it gives
pub objects_rise : (os : List Object) → IsLaidOut (entries os) → IsNonDecreasingBy (λ o. o.addr) os
objects_rise os laid = λ i j d ij inside.
    let h = addresses_rise (entries os) laid i j (entry_of d) ij (omega (arith, length-map os entry_of)) in
    rw (get_or-map entry_of os i d (entry_of d) (omega arith), get_or-map entry_of os j d (entry_of d) inside) at h

pub count_from_objects : (os : List Object) (addr count : ℕ) → IsPartitionPoint (λ o. nat_le o.addr addr ≡ true) (λ o. nat_le o.addr addr ≡ false) os count → count ≤ length os → IsCountUpTo (entries os) addr count
count_from_objects [] addr count p bound = count_from_partition [] addr count (λ k d low below. absurd (omega arith), λ k d low below. absurd (omega arith)) bound
count_from_objects (o ∷ os) addr count p bound =
    count_from_partition (entries (o ∷ os)) addr count (
      λ k d low below. rw (get_or-map entry_of (o ∷ os) k o d (omega arith)) (p.0 k o low below),
      λ k d low below.
          let inside : k < length (o ∷ os) = omega (arith, length-map (o ∷ os) entry_of) in
          rw (get_or-map entry_of (o ∷ os) k o d inside) (p.1 k o low inside),
    )
    (omega (arith, bound, length-map (o ∷ os) entry_of))

-- what `is_empty` says
pub is_empty : (n : ℕ) → true ≡ (n == 0) → n ≡ 0
is_empty n e = grind (arith, nat_tests)

pub is_not_empty : (n : ℕ) → false ≡ (n == 0) → 0 < n
is_not_empty n e = grind (arith, nat_tests)

-- an empty piece changes nothing
same_at : (m : Content) (start : ℕ) (bytes : List ℕ) → get m start ≡ Some bytes → m ≡ insert m start bytes
same_at m start bytes at =
    same_map nat_cmp_total nat_cmp-IsAntisymmetric m (insert m start bytes) (λ q. by_test q (same_address q start) refl ∙ sym (get-insert nat_cmp_total m start bytes q))
  where
    by_test : (q : ℕ) (t : Bool) → same_address q start ≡ t → get m q ≡ cond (same_address q start) (Some bytes) (get m q)
    by_test q true t = rw t (ap (get m) (equal_address q start t) ∙ at)
    by_test q false t = rw t refl

pub nothing_written : (m : Content) (start : ℕ) (bytes : List ℕ) (addr : ℕ) (piece : List ℕ) → length piece ≡ 0 → Holds m start bytes addr (length piece) → m ≡ insert m start (spliced bytes (addr - start) piece)
nothing_written m start bytes addr [] empty h =
    let all : bytes ≡ spliced bytes (addr - start) [] = sym (take-append-drop (addr - start) bytes) ∙ ap (λ n. take (addr - start) bytes ++ drop n bytes) (omega arith) in
    same_at m start bytes h.at ∙ ap (insert m start) all
nothing_written m start bytes addr (b ∷ piece) empty h = absurd (omega arith)
