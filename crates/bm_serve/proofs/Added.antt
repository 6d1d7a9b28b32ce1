-- A space with one more object.
use Rattle.std.proofs.Common.{◌≡◌, ◌≢◌, ◌∙◌, refl, ap, sym, subst, ◌⊎◌, inl, inr, true, ℕ, zero, suc, ◌+◌, ◌<◌, ◌^◌, List, [], ◌∷◌, ◌++◌, length, replicate, Option, Some, None, arith}
use Rattle.std.specs.Prelude.{slice_get, All, IsSome}
use Rattle.std.specs.FinMap.{get, insert, remove, same_map, nat_cmp-IsAntisymmetric}
use Rattle.std.specs.Cmp.{nat_cmp_total}
use Rattle.std.proofs.lemmas.Bool.{cases_eq}
use Rattle.std.proofs.lemmas.List.{length-replicate}
use Rattle.lu_base.specs.Addresses.{address_after}
use Rattle.c_types.specs.declared.parts.Parts.{Parts}
use Rattle.bm_mem.specs.Content.{Content, IsClear}
use Rattle.bm_mem.proofs.Laws.{get-insert_there, get-insert_else, get-remove_there, get-remove_else}
use Rattle.bm_objects.specs.declared.row.Row.{Row}
use Rattle.bm_objects.specs.Table.{end_of}
use Rattle.bm_code.specs.Services.{heap_part_of, heap_bytes}
use Rattle.bm_code.specs.Mapped.{HasObject, IsOfRow, IsMapped, AreKnown}
use Rattle.bm_serve.specs.Space.{IsSpace}

some_in : {A : Type 0} (a b : A) → Some a ≡ Some b → a ≡ b
some_in a b h = cc

get_before : (rows : List Row) (r x : Row) (k : ℕ) → slice_get rows k ≡ Some x → slice_get (rows ++ r ∷ []) k ≡ Some x
get_before [] r x k e = absurd (cc)
get_before (y ∷ rows) r x zero e = e
get_before (y ∷ rows) r x (suc k) e = get_before rows r x k e

get_last : (rows : List Row) (r : Row) → slice_get (rows ++ r ∷ []) (length rows) ≡ Some r
get_last [] r = refl
get_last (y ∷ rows) r = get_last rows r

get_either : (rows : List Row) (r x : Row) (k : ℕ) → slice_get (rows ++ r ∷ []) k ≡ Some x → (slice_get rows k ≡ Some x) ⊎ (r ≡ x)
get_either [] r x zero e = inr (some_in r x e)
get_either [] r x (suc k) e = absurd (cc)
get_either (y ∷ rows) r x zero e = inl e
get_either (y ∷ rows) r x (suc k) e = get_either rows r x k e

all_at : (rows : List Row) (next : ℕ) → All (λ r. end_of r < next) rows → (k : ℕ) (x : Row) → slice_get rows k ≡ Some x → end_of x < next
all_at [] next h k x e = absurd (cc)
all_at (y ∷ rows) next h zero x e = let same : y ≡ x = cc in subst (λ r. end_of r < next) same (h 0 y (omega arith))
all_at (y ∷ rows) next h (suc k) x e = all_at rows next (λ k d lt. h (suc k) d (omega arith)) k x e

pub heap_added : (rows : List Row) (r : Row) → heap_bytes (rows ++ r ∷ []) ≡ heap_bytes rows + heap_part_of r
heap_added [] r = omega arith
heap_added (y ∷ rows) r = omega (arith, heap_added rows r)

-- a process has no object at or above its next address
module _ (m : Content) (rows : List Row) (next : ℕ) (mapped : IsMapped m rows) (above : All (λ r. end_of r < next) rows) where
  begins_below : (start : ℕ) (bytes : List ℕ) → get m start ≡ Some bytes → start + length bytes < next
  begins_below start bytes e =
      let o = mapped.only start bytes e in
      let h = mapped.live o.0 o.1 o.2 o.4 in
      let same : bytes ≡ h.0 = some_in bytes h.0 (sym e ∙ (ap (get m) (sym o.3) ∙ h.1)) in
      omega (arith, all_at rows next above o.0 o.1 o.2, ap length same, h.2, o.3)

  pub is_clear : (size : ℕ) → IsClear m next size
  is_clear size = λ start bytes e. inl (omega (arith, begins_below start bytes e))

  pub is_fresh : get m next ≡ None
  is_fresh = by_get (get m next) refl
    where
      by_get : (o : Option (List ℕ)) → get m next ≡ o → o ≡ None
      by_get None e = refl
      by_get (Some bytes) e = absurd (omega (arith, begins_below next bytes e))

pub some_there : (m n : Content) (a : ℕ) (b : List ℕ) → n ≡ insert m a b → IsSome (get n a)
some_there m n a b e = let there : get n a ≡ Some b = ap (λ c. get c a) e ∙ get-insert_there m a b in rw there refl

-- an object that comes and goes changes nothing
pub undone : (m n n' : Content) (a : ℕ) (b : List ℕ) → get m a ≡ None → n ≡ insert m a b → n' ≡ remove n a → n' ≡ m
undone m n n' a b none e f =
    f ∙ (ap (λ c. remove c a) e ∙ same_map nat_cmp_total nat_cmp-IsAntisymmetric (remove (insert m a b) a) m (λ q. by_place q (cases_eq q a)))
  where
    by_place : (q : ℕ) → (q ≡ a) ⊎ (q ≢ a) → get (remove (insert m a b) a) q ≡ get m q
    by_place q (inl same) = ap (get (remove (insert m a b) a)) same ∙ (get-remove_there (insert m a b) a ∙ (sym none ∙ ap (get m) (sym same)))
    by_place q (inr differs) = get-remove_else (insert m a b) a q differs ∙ get-insert_else m a b q differs

module _ (types : Parts) (m : Content) (rows : List Row) (next used : ℕ) (space : IsSpace types m rows next used) (r : Row) (place : r.addr ≡ next) (live : r.live ≡ true) (known : r.elem < length types.types) (part : heap_part_of r ≡ r.size) (low : end_of r + 31 < 2 ^ 32) (used_low : used + r.size < 2 ^ 60) where
  abbrev zeros : List ℕ
  zeros = replicate r.size 0

  abbrev more : List Row
  more = rows ++ r ∷ []

  with_object : Content
  with_object = insert m r.addr zeros

  old_object : (x : Row) → x.addr ≢ r.addr → HasObject m x → HasObject (insert m r.addr zeros) x
  old_object x differs h = (h.0, get-insert_else m r.addr zeros x.addr differs ∙ h.1, h.2)

  each_live : (k : ℕ) (x : Row) → slice_get more k ≡ Some x → x.live ≡ true → HasObject (insert m r.addr zeros) x
  each_live k x e l = by_case (get_either rows r x k e)
    where
      by_case : (slice_get rows k ≡ Some x) ⊎ (r ≡ x) → HasObject (insert m r.addr zeros) x
      by_case (inl old) = old_object x (λ same. absurd (omega (arith, all_at rows next space.above k x old, place, same))) (space.mapped.live k x old l)
      by_case (inr same) = subst (HasObject (insert m r.addr zeros)) same (zeros, get-insert_there m r.addr zeros, length-replicate {A = ℕ} r.size 0)

  each_only : (start : ℕ) (bytes : List ℕ) → get (insert m r.addr zeros) start ≡ Some bytes → IsOfRow more start
  each_only start bytes e = by_case (cases_eq start r.addr)
    where
      by_case : (start ≡ r.addr) ⊎ (start ≢ r.addr) → IsOfRow more start
      by_case (inl same) = (length rows, r, get_last rows r, sym same, live)
      by_case (inr differs) =
          let o = space.mapped.only start bytes (sym (get-insert_else m r.addr zeros start differs) ∙ e) in
          (o.0, o.1, get_before rows r o.1 o.0 o.2, o.3, o.4)

  each_known : AreKnown types more
  each_known k x e = by_case (get_either rows r x k e)
    where
      by_case : (slice_get rows k ≡ Some x) ⊎ (r ≡ x) → x.elem < length types.types
      by_case (inl old) = space.known k x old
      by_case (inr same) = subst (λ y. y.elem < length types.types) same known

  after_end : end_of r < address_after r.addr r.size
  after_end = omega arith

  each_above : All (λ y. end_of y < address_after r.addr r.size) more
  each_above = push rows r (address_after r.addr r.size) lower after_end
    where
      push : (rows : List Row) (r : Row) (n : ℕ) → All (λ y. end_of y < n) rows → end_of r < n → All (λ y. end_of y < n) (rows ++ r ∷ [])
      push [] r n h k zero d lt = k
      push [] r n h k (suc i) d lt = absurd (omega arith)
      push (y ∷ rows) r n h k zero d lt = h 0 d (omega arith)
      push (y ∷ rows) r n h k (suc i) d lt = push rows r n (λ j d lt. h (suc j) d (omega arith)) k i d (omega arith)

      lower : All (λ y. end_of y < address_after r.addr r.size) rows
      lower k d lt = omega (arith, space.above k d lt, place, after_end)

  pub space_added : (n : Content) (rows' : List Row) (next' used' : ℕ) → n ≡ insert m r.addr zeros → rows' ≡ more → next' ≡ address_after r.addr r.size → used' ≡ used + r.size → IsSpace types n rows' next' used'
  space_added n rows' next' used' e f g h =
      subst (λ n. IsSpace types n rows' next' used') (sym e) (subst (λ l. IsSpace types (insert m r.addr zeros) l next' used') (sym f) (subst (λ k. IsSpace types (insert m r.addr zeros) more k used') (sym g) (subst (λ k. IsSpace types (insert m r.addr zeros) more (address_after r.addr r.size) k) (sym h) whole)))
    where
      whole : IsSpace types (insert m r.addr zeros) more (address_after r.addr r.size) (used + r.size)
      whole = record {
        mapped = record { live = each_live; only = each_only };
        known = each_known;
        above = each_above;
        used_is = omega (arith, heap_added rows r, part, space.used_is);
        used_low = used_low;
        next_low = omega (arith, low);
      }
