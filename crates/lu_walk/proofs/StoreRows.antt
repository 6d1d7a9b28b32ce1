-- The rows of a store: words go to the rows of their objects.
use Rattle.std.proofs.Common.{◌≡◌, ◌∙◌, refl, ap, sym, Bool, true, false, ◌&&◌, not, cond, ℕ, zero, suc, ◌+◌, ◌<◌, ◌≤◌, List, [], ◌∷◌, length, Option, Some, None, slice_get, nat_le, arith}
use Rattle.std.specs.Prelude.{map, filter, is_some}
use Rattle.std.specs.List.{cons_option}
use Rattle.std.specs.Option.{option_map, option_map_or}
use Rattle.std.proofs.lemmas.Bool.Decides.{nat_tests}
use Rattle.lu_spec.specs.Then.{then_option}
use Rattle.lu_base.specs.Addresses.{address_after, next_from}
use Rattle.lu_base.specs.declared.limits.TheConstants.{FIRST_ADDRESS}
use Rattle.c_types.specs.declared.parts.Parts.{Parts}
use Rattle.c_types.specs.Refusal.{IsBuilt}
use Rattle.src_tree.specs.declared.value.ObjectKind.{ObjectKind}
use Rattle.src_tree.specs.declared.value.ObjectKind.TheVariants.{Global, Heap, Temporary}
use Rattle.src_tree.specs.declared.value.Object.{Object}
use Rattle.src_tree.specs.declared.value.Store.{Store}
use Rattle.src_tree.specs.declared.program.Program.{Program}
use Rattle.src_meaning.specs.Objects.{object_size, is_live, is_global, is_live_heap}
use Rattle.src_meaning.specs.Store.{IsStore}
use Rattle.bm_objects.specs.declared.row.Row.{Row}
use Rattle.cg_state.specs.Represents.{site_of, address_past, row_of, rows_from, rows_of}
use Rattle.cg_state.proofs.Memory.{stands, after_above, address_is}
use Rattle.cg_state.proofs.Typed.{object_of, object_address}
use Rattle.lu_image_store.specs.Versions.{Versions, paired_global}
use Rattle.lu_image_store.specs.Needed.{is_object}
use Rattle.lu_scan.specs.Targets.{GoesTo, GoInTurn, AreWords}
use Rattle.lu_walk.specs.Rows.{row_at, is_row, is_live_heap_row, target_of, targets_of, is_root_row}

-- an object ends before the next address
next_above : (first : ℕ) (sizes : List ℕ) → first ≤ next_from first sizes
next_above first [] = omega arith
next_above first (size ∷ sizes) =
    let h = next_above (address_after first size) sizes in omega (arith, h)

ends_below : (sites : ℕ) (p : Parts) (first : ℕ) (os : List Object) (o : ℕ) (x : Object) (e : slice_get os o ≡ Some x) → (stands sites p first os o x e).address + object_size p x ≤ next_from first (map (object_size p) os)
unfolding stands
ends_below sites p first [] o x e = absurd (cc)
ends_below sites p first (y ∷ os) zero x e =
    let same : y ≡ x = cc in
    let size : object_size p y ≡ object_size p x = ap (object_size p) same in
    let h = next_above (address_after first (object_size p y)) (map (object_size p) os) in
    omega (arith, h, size)
ends_below sites p first (y ∷ os) (suc o) x e = ends_below sites p (address_past p first y) os o x e

-- the addresses of objects are words, and none is null
pub are_words : (p : Program) → IsBuilt p.types → (s : Store) → IsStore p s → AreWords p s
are_words p built s ok o k h =
    let x = object_of p built s o k h in
    let low = object_address p built s o k h in
    let st = stands (length p.sites) p.types FIRST_ADDRESS s.objects o x.object x.is in
    let end = ends_below (length p.sites) p.types FIRST_ADDRESS s.objects o x.object x.is in
    let at = address_is (length p.sites) p.types s o x.object x.is in
    (omega (arith, low), omega (arith, end, at, x.within, ok.last))

inside_if : (a b c : ℕ) → a ≤ b → b ≤ c → (nat_le a b && nat_le b c) ≡ true
inside_if a b c h k = grind (arith, nat_tests)

past_if : (a b c : ℕ) → c < b → (nat_le a b && nat_le b c) ≡ false
past_if a b c h = grind (arith, nat_tests)

-- the row of an address in an object
row_at-object : (sites : ℕ) (p : Parts) (first : ℕ) (os : List Object) (o k : ℕ) (x : Object) (e : slice_get os o ≡ Some x) → k ≤ object_size p x → row_at ((stands sites p first os o x e).address + k) (rows_from sites p first os) ≡ Some o
unfolding stands
row_at-object sites p first [] o k x e le = absurd (cc)
row_at-object sites p first (y ∷ os) zero k x e le =
    let same : y ≡ x = cc in
    let size : object_size p y ≡ object_size p x = ap (object_size p) same in
    ap (λ b. cond b (Some 0) (option_map (λ i. suc i) (row_at (first + k) (rows_from sites p (address_past p first y) os)))) (inside_if first (first + k) (first + object_size p y) (omega arith) (omega (arith, le, size)))
row_at-object sites p first (y ∷ os) (suc o) k x e le =
    let rest = stands sites p (address_past p first y) os o x e in
    let n = rest.address + k in
    ap (λ b. cond b (Some 0) (option_map (λ i. suc i) (row_at n (rows_from sites p (address_past p first y) os)))) (past_if first n (first + object_size p y) (omega (arith, after_above p first y, rest.above)))
    ∙ ap (option_map (λ i. suc i)) (row_at-object sites p (address_past p first y) os o k x e le)

-- there are as many rows as objects
pub rows-length : (sites : ℕ) (p : Parts) (first : ℕ) (os : List Object) → length (rows_from sites p first os) ≡ length os
rows-length sites p first [] = refl
rows-length sites p first (x ∷ os) = ap suc (rows-length sites p (address_past p first x) os)

pub no_row : (sites : ℕ) (p : Parts) (first : ℕ) (os : List Object) (k : ℕ) → slice_get os k ≡ None → slice_get (rows_from sites p first os) k ≡ None
no_row sites p first [] k e = refl
no_row sites p first (x ∷ os) zero e = absurd (cc)
no_row sites p first (x ∷ os) (suc k) e = no_row sites p (address_past p first x) os k e

module _ (p : Program) (s : Store) where
  abbrev rows : List Row
  rows = rows_of p s

  -- a test of rows that is one of objects
  tests_alike : (test : Row → Bool) (of : Object → Bool) → ((address : ℕ) (x : Object) → test (row_of (length p.sites) p.types address x) ≡ of x) → (k : ℕ) → is_row rows test k ≡ is_object s of k
  tests_alike test of same k = by (slice_get s.objects k) refl
    where
      by : (o : Option Object) → slice_get s.objects k ≡ o → is_row rows test k ≡ is_object s of k
      by None e =
          ap (λ q. option_map_or test q false) (no_row (length p.sites) p.types FIRST_ADDRESS s.objects k e) ∙ sym (ap (λ q. option_map_or of q false) e)
      by (Some x) e =
          let st = stands (length p.sites) p.types FIRST_ADDRESS s.objects k x e in
          ap (λ q. option_map_or test q false) st.row ∙ (same st.address x ∙ sym (ap (λ q. option_map_or of q false) e))

  heap_alike : (address : ℕ) (x : Object) (kind : ObjectKind) → x.kind ≡ kind → is_live_heap_row (row_of (length p.sites) p.types address x) ≡ is_live_heap x
  heap_alike address x Global e = ap (λ k. is_live x && is_some (site_of (length p.sites) k)) e ∙ sym (ap (λ k. is_live x && not (is_global k)) e)
  heap_alike address x (Heap site) e = ap (λ k. is_live x && is_some (site_of (length p.sites) k)) e ∙ sym (ap (λ k. is_live x && not (is_global k)) e)
  heap_alike address x Temporary e = ap (λ k. is_live x && is_some (site_of (length p.sites) k)) e ∙ sym (ap (λ k. is_live x && not (is_global k)) e)

  pub live_heap_alike : (k : ℕ) → is_row rows is_live_heap_row k ≡ is_object s is_live_heap k
  live_heap_alike k = tests_alike is_live_heap_row is_live_heap (λ address x. heap_alike address x x.kind refl) k

  root_alike : (b : Bool) (x : Object) (kind : ObjectKind) → x.kind ≡ kind → (not (is_some (site_of (length p.sites) x.kind)) && b) ≡ (is_global x.kind && b)
  root_alike b x Global e = ap (λ k. not (is_some (site_of (length p.sites) k)) && b) e ∙ sym (ap (λ k. is_global k && b) e)
  root_alike b x (Heap site) e = ap (λ k. not (is_some (site_of (length p.sites) k)) && b) e ∙ sym (ap (λ k. is_global k && b) e)
  root_alike b x Temporary e = ap (λ k. not (is_some (site_of (length p.sites) k)) && b) e ∙ sym (ap (λ k. is_global k && b) e)

  pub roots_alike : (m : Versions) (k : ℕ) → is_root_row m rows k ≡ is_object s (λ x. is_global x.kind && is_some (paired_global m k)) k
  roots_alike m k = tests_alike (λ row. not (is_some row.site) && is_some (paired_global m k)) (λ x. is_global x.kind && is_some (paired_global m k)) (λ address x. root_alike (is_some (paired_global m k)) x x.kind refl) k

  module _ (built : IsBuilt p.types) where
    -- the live object of the heap to which a word goes
    target_is : (w o : ℕ) → GoesTo p s w o → target_of rows w ≡ cond (is_object s is_live_heap o) (Some o) None
    target_is w o goes =
        let x = object_of p built s o goes.0 goes.1 in
        let st = stands (length p.sites) p.types FIRST_ADDRESS s.objects o x.object x.is in
        let word : w ≡ st.address + goes.0 = goes.2 ∙ ap (λ n. n + goes.0) (address_is (length p.sites) p.types s o x.object x.is) in
        let found : row_at w rows ≡ Some o = ap (λ n. row_at n rows) word ∙ row_at-object (length p.sites) p.types FIRST_ADDRESS s.objects o goes.0 x.object x.is x.within in
        ap (λ q. then_option q (λ i. cond (is_row rows is_live_heap_row i) (Some i) None)) found ∙ ap (λ b. cond b (Some o) None) (live_heap_alike o)

    one_target : (o : ℕ) (b : Bool) (targets rest : List ℕ) → targets ≡ rest → cons_option (cond b (Some o) None) targets ≡ cond b (o ∷ rest) rest
    one_target o true targets rest e = ap (λ os. o ∷ os) e
    one_target o false targets rest e = e

    -- of words that go in turn to objects, the targets are the live objects of the heap among them
    pub targets_are : (words objects : List ℕ) → GoInTurn p s words objects → targets_of rows words ≡ filter (is_object s is_live_heap) objects
    targets_are [] [] go = refl
    targets_are [] (o ∷ objects) go = absurd go
    targets_are (w ∷ words) [] go = absurd go
    targets_are (w ∷ words) (o ∷ objects) go =
        ap (λ q. cons_option q (targets_of rows words)) (target_is w o go.0) ∙ one_target o (is_object s is_live_heap o) (targets_of rows words) (filter (is_object s is_live_heap) objects) (targets_are words objects go.1)
