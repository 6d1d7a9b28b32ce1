-- Tables of objects: the next address, and the bytes of the heap.
use Rattle.std.proofs.Common.{◌≡◌, ◌∙◌, refl, ap, ℕ, zero, suc, ◌+◌, ◌<◌, ◌≤◌, ◌^◌, Bool, true, false, cond, ◌&&◌, List, [], ◌∷◌, length, drop, Some, All, arith, slice_get}
use Rattle.std.specs.Prelude.{is_some}
use Rattle.std.specs.List.{AllPairs}
use Rattle.std.proofs.lemmas.List.Elements.{All-nil, All-cons}
use Rattle.lu_base.specs.declared.limits.TheConstants.{FIRST_ADDRESS}
use Rattle.lu_base.specs.Addresses.{address_after}
use Rattle.bm_objects.specs.declared.row.Row.{Row}
use Rattle.bm_objects.specs.Table.{end_of, IsTable, next_from, next_address}
use Rattle.bm_code.specs.Services.{is_live_heap, heap_part_of, heap_bytes}

some_in : {A : Type 0} (a b : A) → Some a ≡ Some b → a ≡ b
some_in a b h = cc

pub after_end : (r : Row) → end_of r < address_after r.addr r.size
after_end r = omega arith

pub after_low : (r : Row) → address_after r.addr r.size ≤ end_of r + 31
after_low r = omega arith

abbrev Apart : List Row → Type 0
Apart rows = AllPairs (λ r later. end_of r < later.addr) rows

apart_tail : (r : Row) (rows : List Row) → Apart (r ∷ rows) → Apart rows
apart_tail r rows apart = λ i j d lt inside. apart (suc i) (suc j) d (omega arith) (omega arith)

-- the next address lies behind all objects
above_from : (rows : List Row) (first : ℕ) → Apart rows → All (λ r. end_of r < next_from first rows) rows
above_from [] first apart = All-nil (λ r. end_of r < first)
above_from (r ∷ []) first apart = All-cons (λ x. end_of x < address_after r.addr r.size) r [] (after_end r) (All-nil (λ x. end_of x < address_after r.addr r.size))
above_from (r ∷ x ∷ rows) first apart =
    let rest : All (λ y. end_of y < next_from (address_after r.addr r.size) (x ∷ rows)) (x ∷ rows) = above_from (x ∷ rows) (address_after r.addr r.size) (apart_tail r (x ∷ rows) apart) in
    let last : end_of x < next_from (address_after r.addr r.size) (x ∷ rows) = rest 0 x (omega arith) in
    let behind : end_of r < x.addr = apart 0 1 r (omega arith) (omega arith) in
    All-cons (λ y. end_of y < next_from (address_after r.addr r.size) (x ∷ rows)) r (x ∷ rows) (omega (arith, last, behind)) rest

pub above_all : (rows : List Row) → IsTable rows → All (λ r. end_of r < next_address rows) rows
above_all rows t = above_from rows FIRST_ADDRESS t.apart

low_from : (rows : List Row) (first : ℕ) → first < 2 ^ 60 → All (λ r. end_of r < 2 ^ 32) rows → next_from first rows < 2 ^ 60
low_from [] first low ends = low
low_from (r ∷ rows) first low ends =
    let end : end_of r < 2 ^ 32 = ends 0 r (omega arith) in
    low_from rows (address_after r.addr r.size) (omega (arith, after_low r, end)) (λ k d lt. ends (suc k) d (omega arith))

pub next_low : (rows : List Row) → IsTable rows → next_address rows < 2 ^ 60
next_low rows t = low_from rows FIRST_ADDRESS (omega arith) t.ends

-- it follows the last object
next_last : (rows : List Row) (first k : ℕ) (r : Row) → slice_get rows k ≡ Some r → length rows ≡ suc k → next_from first rows ≡ address_after r.addr r.size
next_last [] first k r e l = absurd (omega arith)
next_last (x ∷ []) first zero r e l = ap (λ r. address_after r.addr r.size) (some_in x r e)
next_last (x ∷ []) first (suc k) r e l = absurd (omega arith)
next_last (x ∷ y ∷ rows) first zero r e l = absurd (omega arith)
next_last (x ∷ y ∷ rows) first (suc k) r e l = next_last (y ∷ rows) (address_after x.addr x.size) k r e (omega arith)

pub next_after : (rows : List Row) (k : ℕ) (r : Row) → slice_get rows k ≡ Some r → length rows ≡ suc k → next_address rows ≡ address_after r.addr r.size
next_after rows k r e l = next_last rows FIRST_ADDRESS k r e l

pub next_first : (rows : List Row) → length rows ≡ 0 → next_address rows ≡ FIRST_ADDRESS
next_first [] l = refl
next_first (r ∷ rows) l = absurd (omega arith)

part_low : (r : Row) → heap_part_of r ≤ r.size
part_low r = by_test (is_live_heap r)
  where
    by_test : (b : Bool) → cond b r.size 0 ≤ r.size
    by_test true = omega arith
    by_test false = omega arith

-- the objects share no byte, so that they have no more than there are addresses
heap_from : (rows : List Row) (b : ℕ) → b ≤ 2 ^ 32 → All (λ r. b ≤ r.addr) rows → All (λ r. end_of r < 2 ^ 32) rows → Apart rows → b + heap_bytes rows ≤ 2 ^ 32
heap_from [] b le low ends apart = omega arith
heap_from (r ∷ rows) b le low ends apart =
    let here : b ≤ r.addr = low 0 r (omega arith) in
    let end : end_of r < 2 ^ 32 = ends 0 r (omega arith) in
    let behind : All (λ x. end_of r ≤ x.addr) rows = λ k d lt. let h = apart 0 (suc k) d (omega arith) (omega arith) in omega (arith, h) in
    omega (arith, here, part_low r, heap_from rows (end_of r) (omega (arith, end)) behind (λ k d lt. ends (suc k) d (omega arith)) (apart_tail r rows apart))

pub heap_low : (rows : List Row) → IsTable rows → heap_bytes rows ≤ 2 ^ 32
heap_low rows t = omega (arith, heap_from rows 0 (omega arith) (λ k d lt. omega arith) t.ends t.apart)

heap_drop : (rows : List Row) (i : ℕ) (r : Row) → slice_get rows i ≡ Some r → heap_bytes (drop i rows) ≡ heap_part_of r + heap_bytes (drop (suc i) rows)
heap_drop [] i r e = absurd (cc)
heap_drop (x ∷ rows) zero r e = ap (λ x. heap_part_of x + heap_bytes rows) (some_in x r e)
heap_drop (x ∷ rows) (suc i) r e = heap_drop rows i r e

pub heap_more : (rows : List Row) (i : ℕ) (r : Row) → slice_get rows i ≡ Some r → heap_bytes (drop i rows) ≡ heap_part_of r + heap_bytes (drop (i + 1) rows)
heap_more rows i r e = let next : suc i ≡ i + 1 = omega arith in heap_drop rows i r e ∙ ap (λ n. heap_part_of r + heap_bytes (drop n rows)) next

pub heap_none : (rows : List Row) (i : ℕ) → length rows ≤ i → heap_bytes (drop i rows) ≡ 0
heap_none [] zero le = refl
heap_none [] (suc i) le = refl
heap_none (r ∷ rows) zero le = absurd (omega arith)
heap_none (r ∷ rows) (suc i) le = heap_none rows i (omega arith)
