-- A space with one more object, or with other bytes.
use Rattle.std.proofs.Common.{◌≡◌, ◌≢◌, ◌∙◌, refl, ap, sym, subst, ◌⊎◌, inl, inr, true, ℕ, zero, suc, ◌+◌, ◌-◌, ◌<◌, ◌≤◌, ◌^◌, List, [], ◌∷◌, ◌++◌, length, replicate, take, drop, Some, All, arith}
use Rattle.std.specs.Prelude.{slice_get}
use Rattle.std.specs.FinMap.{get, insert}
use Rattle.std.proofs.lemmas.Bool.{cases_eq}
use Rattle.std.proofs.lemmas.List.{length-replicate}
use Rattle.std.proofs.lemmas.List.Elements.{All-push}
use Rattle.lu_spec.specs.Splice.{spliced}
use Rattle.lu_spec.proofs.SpliceLemmas.{length-spliced}
use Rattle.lu_base.specs.Addresses.{address_after}
use Rattle.c_types.specs.declared.parts.Parts.{Parts}
use Rattle.bm_mem.specs.Content.{Content, Holds, IsInside, IsWritten}
use Rattle.bm_mem.proofs.Laws.{get-insert_there, get-insert_else}
use Rattle.bm_objects.specs.declared.row.Row.{Row}
use Rattle.bm_objects.specs.Table.{end_of, IsTable, next_address}
use Rattle.bm_code.specs.Services.{heap_part_of, heap_bytes}
use Rattle.bm_code.specs.Mapped.{HasObject, IsOfRow, IsMapped, AreKnown}
use Rattle.bm_frame.proofs.Copying.{insert_twice}
use Rattle.bm_frame.proofs.Written.{still_mapped}
use Rattle.bm_serve.specs.Space.{IsSpace}
use Rattle.bm_serve.proofs.Added.{heap_added}
use Rattle.bm_cpu.proofs.Rows.{after_end, after_low, heap_low, above_all, next_low}

some_in : {A : Type 0} (a b : A) → Some a ≡ Some b → a ≡ b
some_in a b h = cc

get_before : (rows : List Row) (r x : Row) (k : ℕ) → slice_get rows k ≡ Some x → slice_get (rows ++ r ∷ []) k ≡ Some x
get_before [] r x k e = absurd (cc)
get_before (y ∷ rows) r x zero e = e
get_before (y ∷ rows) r x (suc k) e = get_before rows r x k e

get_last : (rows : List Row) (r : Row) → slice_get (rows ++ r ∷ []) (length rows) ≡ Some r
get_last [] r = refl
get_last (y ∷ rows) r = get_last rows r

get_either : (rows : List Row) (r x : Row) (k : ℕ) → slice_get (rows ++ r ∷ []) k ≡ Some x → (slice_get rows k ≡ Some x) ⊎ (r ≡ x)
get_either [] r x zero e = inr (some_in r x e)
get_either [] r x (suc k) e = absurd (cc)
get_either (y ∷ rows) r x zero e = inl e
get_either (y ∷ rows) r x (suc k) e = get_either rows r x k e

all_at : (rows : List Row) (next : ℕ) → All (λ r. end_of r < next) rows → (k : ℕ) (x : Row) → slice_get rows k ≡ Some x → end_of x < next
all_at [] next h k x e = absurd (cc)
all_at (y ∷ rows) next h zero x e = let same : y ≡ x = cc in subst (λ r. end_of r < next) same (h 0 y (omega arith))
all_at (y ∷ rows) next h (suc k) x e = all_at rows next (λ k d lt. h (suc k) d (omega arith)) k x e

module _ (types : Parts) (m : Content) (rows : List Row) (next used : ℕ) (space : IsSpace types m rows next used) where
  -- a zero object behind all others
  module _ (r : Row) (live : r.live ≡ true) (known : r.elem < length types.types) (above : All (λ x. end_of x < r.addr) rows) (low : end_of r < 2 ^ 32) where
    abbrev zeros : List ℕ
    zeros = replicate r.size 0

    abbrev more : List Row
    more = rows ++ r ∷ []

    old_object : (x : Row) → x.addr ≢ r.addr → HasObject m x → HasObject (insert m r.addr zeros) x
    old_object x differs h = (h.0, get-insert_else m r.addr zeros x.addr differs ∙ h.1, h.2)

    each_live : (k : ℕ) (x : Row) → slice_get more k ≡ Some x → x.live ≡ true → HasObject (insert m r.addr zeros) x
    each_live k x e l = by_case (get_either rows r x k e)
      where
        by_case : (slice_get rows k ≡ Some x) ⊎ (r ≡ x) → HasObject (insert m r.addr zeros) x
        by_case (inl old) = old_object x (λ same. absurd (omega (arith, all_at rows r.addr above k x old, same))) (space.mapped.live k x old l)
        by_case (inr same) = subst (HasObject (insert m r.addr zeros)) same (zeros, get-insert_there m r.addr zeros, length-replicate {A = ℕ} r.size 0)

    each_only : (start : ℕ) (bytes : List ℕ) → get (insert m r.addr zeros) start ≡ Some bytes → IsOfRow more start
    each_only start bytes e = by_case (cases_eq start r.addr)
      where
        by_case : (start ≡ r.addr) ⊎ (start ≢ r.addr) → IsOfRow more start
        by_case (inl same) = (length rows, r, get_last rows r, sym same, live)
        by_case (inr differs) =
            let o = space.mapped.only start bytes (sym (get-insert_else m r.addr zeros start differs) ∙ e) in
            (o.0, o.1, get_before rows r o.1 o.0 o.2, o.3, o.4)

    each_known : AreKnown types more
    each_known k x e = by_case (get_either rows r x k e)
      where
        by_case : (slice_get rows k ≡ Some x) ⊎ (r ≡ x) → x.elem < length types.types
        by_case (inl old) = space.known k x old
        by_case (inr same) = subst (λ y. y.elem < length types.types) same known

    lower : All (λ y. end_of y < address_after r.addr r.size) rows
    lower k d lt = omega (arith, above k d lt, after_end r)

    pub space_more : (n : Content) (rows' : List Row) (next' used' : ℕ) → n ≡ insert m r.addr zeros → rows' ≡ more → next' ≡ address_after r.addr r.size → used' ≡ used + heap_part_of r → IsTable rows' → IsSpace types n rows' next' used'
    space_more n rows' next' used' e f g h table =
        subst (λ n. IsSpace types n rows' next' used') (sym e) (subst (λ l. IsSpace types (insert m r.addr zeros) l next' used') (sym f) (subst (λ k. IsSpace types (insert m r.addr zeros) more k used') (sym g) whole))
      where
        sum : used' ≡ heap_bytes more
        sum = omega (arith, h, heap_added rows r, space.used_is)

        whole : IsSpace types (insert m r.addr zeros) more (address_after r.addr r.size) used'
        whole = record {
          mapped = record { live = each_live; only = each_only };
          known = each_known;
          above = All-push (λ y. end_of y < address_after r.addr r.size) rows r lower (after_end r);
          used_is = sum;
          used_low = omega (arith, sum, heap_low more (subst IsTable f table));
          next_low = omega (arith, low, after_low r);
        }

  -- other bytes in an object
  pub space_written : (n : Content) (addr : ℕ) (piece : List ℕ) → IsInside m addr (length piece) → IsWritten m n addr piece → IsSpace types n rows next used
  space_written n addr piece inside written =
      let start = inside.0 in
      let bytes = inside.1 in
      let h : Holds m start bytes addr (length piece) = inside.2 in
      let o = space.mapped.only start bytes h.at in
      let there : get m o.1.addr ≡ Some bytes = ap (get m) o.3 ∙ h.at in
      let long : length (spliced bytes (addr - start) piece) ≡ length bytes = length-spliced bytes (addr - start) piece (omega (arith, h.low, h.high)) in
      let still : IsMapped (insert m o.1.addr (spliced bytes (addr - start) piece)) rows = still_mapped m rows space.mapped o.0 o.1 o.2 o.4 bytes (spliced bytes (addr - start) piece) there long in
      let at : IsMapped (insert m start (spliced bytes (addr - start) piece)) rows = subst (λ a. IsMapped (insert m a (spliced bytes (addr - start) piece)) rows) o.3 still in
      record {
        mapped = subst (λ c. IsMapped c rows) (sym (written start bytes h)) at;
        known = space.known;
        above = space.above;
        used_is = space.used_is;
        used_low = space.used_low;
        next_low = space.next_low;
      }

-- objects that are given, with their bytes
pub space_given : (types : Parts) (m : Content) (rows : List Row) (next used : ℕ) → IsMapped m rows → AreKnown types rows → IsTable rows → next ≡ next_address rows → used ≡ heap_bytes rows → IsSpace types m rows next used
space_given types m rows next used mapped known table next_is used_is =
    subst (λ n. IsSpace types m rows n used) (sym next_is) (record {
      mapped = mapped;
      known = known;
      above = above_all rows table;
      used_is = used_is;
      used_low = omega (arith, used_is, heap_low rows table);
      next_low = next_low rows table;
    })

drop_all : (xs : List ℕ) (n : ℕ) → length xs ≤ n → drop n xs ≡ []
drop_all [] zero le = refl
drop_all [] (suc n) le = refl
drop_all (x ∷ xs) zero le = absurd (omega arith)
drop_all (x ∷ xs) (suc n) le = drop_all xs n (omega arith)

append_none : (xs : List ℕ) → xs ++ [] ≡ xs
append_none [] = refl
append_none (x ∷ xs) = ap (λ l. x ∷ l) (append_none xs)

-- a piece in place of all bytes
spliced_whole : (bytes piece : List ℕ) (at : ℕ) → at ≡ 0 → length piece ≡ length bytes → spliced bytes at piece ≡ piece
spliced_whole bytes piece at none long =
    ap (λ n. take n bytes ++ (piece ++ drop (n + length piece) bytes)) none
    ∙ (ap (λ l. piece ++ l) (drop_all bytes (0 + length piece) (omega (arith, long))) ∙ append_none piece)

-- an object that is made and then written whole
module _ (m n : Content) (addr size : ℕ) (made : n ≡ insert m addr (replicate size 0)) (piece : List ℕ) (long : length piece ≡ size) where
  holds : Holds n addr (replicate size 0) addr (length piece)
  holds = record {
    at = ap (λ c. get c addr) made ∙ get-insert_there m addr (replicate size 0);
    low = omega arith;
    high = omega (arith, long, length-replicate {A = ℕ} size 0);
  }

  pub is_inside : IsInside n addr (length piece)
  is_inside = (addr, replicate size 0, holds)

  pub made_with : (x : Content) → IsWritten n x addr piece → x ≡ insert m addr piece
  made_with x written =
      let zeros : List ℕ = replicate size 0 in
      let whole : spliced zeros (addr - addr) piece ≡ piece = spliced_whole zeros piece (addr - addr) (omega arith) (long ∙ sym (length-replicate {A = ℕ} size 0)) in
      written addr zeros holds ∙ (ap (insert n addr) whole ∙ (ap (λ c. insert c addr piece) made ∙ insert_twice m addr zeros piece))
