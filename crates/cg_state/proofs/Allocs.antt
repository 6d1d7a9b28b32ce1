-- ALLOCATE is what an allocation does, where the content of the new store is the old one with zero bytes.
use Rattle.std.proofs.Common.{map, ◌≡◌, ◌∙◌, refl, ap, sym, Bool, true, false, ◌&&◌, cond, ℕ, suc, ◌+◌, ◌*◌, ◌<◌, List, [], ◌∷◌, ◌++◌, length, replicate, Some, arith, nat_lt, nat_le}
use Rattle.std.specs.Prelude.{slice_get, pos, negsuc}
use Rattle.std.specs.Option.{option_map_or}
use Rattle.std.specs.FinMap as map
use Rattle.std.proofs.lemmas.Int.{ints}
use Rattle.std.proofs.lemmas.Bool.Decides.{nat_tests}
use Rattle.c_types.specs.declared.parts.Parts.{Parts}
use Rattle.c_types.specs.declared.parts.IntKind.TheVariants as K
use Rattle.c_types.specs.Layout.{size_of}
use Rattle.src_tree.specs.declared.value.Object.{Object}
use Rattle.src_tree.specs.declared.value.ObjectKind.TheVariants.{Heap}
use Rattle.src_tree.specs.declared.value.Store.{Store}
use Rattle.src_tree.specs.declared.program.Program.{Program}
use Rattle.src_meaning.specs.Integers.{is_held}
use Rattle.lu_base.specs.declared.limits.TheConstants.{FIRST_ADDRESS}
use Rattle.cg_state.specs.Represents.{address_past, address_in, row_of, rows_from, rows_of, content_of, process_of}
use Rattle.lu_base.specs.Addresses.{addresses_from, next_from}
use Rattle.src_meaning.specs.Objects.{object_size, is_live, is_live_heap, addresses, next_address, heap_sizes, zero_object, has_room, append_object}
use Rattle.lu_base.specs.Sending.{Sent}
use Rattle.src_meaning.specs.Store.{is_address}
use Rattle.bm_objects.specs.declared.row.Row.{Row}
use Rattle.bm_alu.specs.Words.{of_signed}
use Rattle.bm_code.specs.declared.code.MachineCode.{MachineCode}
use Rattle.bm_code.specs.Process.{Activity, Frame, Process}
use Rattle.bm_code.specs.Frames.{advanced}
use Rattle.bm_code.specs.Transfers.{Next, running}
use Rattle.bm_code.specs.Services.{heap_bytes as row_bytes, new_row, can_allocate, allocate, with_object}
use Rattle.cg_state.proofs.Words.{held_pos, held_neg}
use Rattle.cg_state.proofs.Frees.{site_is}

rows_more : (sites : ℕ) (p : Parts) (a : ℕ) (os : List Object) (x : Object) → rows_from sites p a (os ++ x ∷ []) ≡ rows_from sites p a os ++ row_of sites p (next_from a (map (object_size p) os)) x ∷ []
rows_more sites p a [] x = refl
rows_more sites p a (y ∷ os) x = ap (λ l. row_of sites p a y ∷ l) (rows_more sites p (address_past p a y) os x)

pub end_more : (p : Parts) (a : ℕ) (os : List Object) (x : Object) → next_from a (map (object_size p) (os ++ x ∷ [])) ≡ address_past p (next_from a (map (object_size p) os)) x
end_more p a [] x = refl
end_more p a (y ∷ os) x = end_more p (address_past p a y) os x

address_more : (p : Parts) (a : ℕ) (os : List Object) (x : Object) → slice_get (addresses_from a (map (object_size p) (os ++ x ∷ []))) (length os) ≡ Some (next_from a (map (object_size p) os))
address_more p a [] x = refl
address_more p a (y ∷ os) x = address_more p (address_past p a y) os x

last_is : (os : List Object) (x : Object) → slice_get (os ++ x ∷ []) (length os) ≡ Some x
last_is [] x = refl
last_is (y ∷ os) x = last_is os x

heap_is : (sites : ℕ) (p : Parts) (a : ℕ) (os : List Object) → row_bytes (rows_from sites p a os) ≡ heap_sizes p os
heap_is sites p a [] = refl
heap_is sites p a (y ∷ os) =
    ap (λ b. cond (is_live y && b) (object_size p y) 0 + row_bytes (rows_from sites p (address_past p a y) os)) (site_is sites y.kind)
    ∙ ap (λ n. cond (is_live_heap y) (object_size p y) 0 + n) (heap_is sites p (address_past p a y) os)

module _ (p : Program) (code : MachineCode) (same : code.types ≡ p.types) (s : Store) (site elem : ℕ) (sends : List Sent) (a : Activity) (t : ℕ) (fr : Frame) (cs : List Frame) (rest : List ℕ) where
  abbrev before : Process
  before = process_of p s sends a t

  abbrev row : ℕ → Row
  row n = new_row code (next_address p.types s) site elem n

  abbrev made : ℕ → Object
  made n = zero_object p.types (Heap site) elem n

  row_is : (n : ℕ) → row n ≡ row_of (length p.sites) p.types (next_address p.types s) (made n)
  row_is n = ap (λ ts. record { addr = next_address p.types s; elem = elem; count = n; size = n * size_of ts elem; site = Some site; live = true }) same

  -- null, where the machine has no room
  pub none_is : (n : ℕ) → can_allocate (rows_of p s) (row n) ≡ false → allocate before fr cs rest (row n) ≡ Next (running before (advanced fr (0 ∷ rest)) cs)
  none_is n e = ap (λ b. cond b (Next (running (with_object before (row n)) (advanced fr ((row n).addr ∷ rest)) cs)) (Next (running before (advanced fr (0 ∷ rest)) cs))) e

  pub room_is : (n : ℕ) → can_allocate (rows_of p s) (row (suc n)) ≡ has_room p.types s (made (suc n))
  room_is n =
      ap (λ r. can_allocate (rows_of p s) r) (row_is (suc n))
      ∙ (ap (λ b. b && (nat_le (row_bytes (rows_of p s) + object_size p.types (made (suc n))) 4194304 && nat_le (address_past p.types (next_address p.types s) (made (suc n))) 4026531840)) (some n)
      ∙ ap (λ h. nat_le (h + object_size p.types (made (suc n))) 4194304 && nat_le (address_past p.types (next_address p.types s) (made (suc n))) 4026531840) (heap_is (length p.sites) p.types FIRST_ADDRESS s.objects))
    where
      some : (n : ℕ) → nat_lt 0 (suc n) ≡ true
      some n = grind (arith, nat_tests)

  pub zero_is_none : can_allocate (rows_of p s) (row 0) ≡ false
  zero_is_none = refl

  -- so many elements need more than there is
  pub many_are_none : (n : ℕ) → 0 < size_of p.types elem → 4194304 < n → can_allocate (rows_of p s) (row n) ≡ false
  many_are_none n some many =
      ap (λ r. can_allocate (rows_of p s) r) (row_is n)
      ∙ (ap (λ b. nat_lt 0 n && (b && nat_le (address_past p.types (next_address p.types s) (made n)) 4026531840)) (above (row_bytes (rows_of p s)) (n * size_of p.types elem) (larger n (size_of p.types elem) some many)) ∙ and_none (nat_lt 0 n))
    where
      and_none : (b : Bool) → (b && false) ≡ false
      and_none true = refl
      and_none false = refl

      above : (h k : ℕ) → 4194304 < k → nat_le (h + k) 4194304 ≡ false
      above h k lt = let n : 4194304 < h + k = omega (arith, lt) in grind (arith, nat_tests, n)

      larger : (n k : ℕ) → 0 < k → 4194304 < n → 4194304 < n * k
      larger n k some many = grind (arith, some, many)

  -- the new object
  pub made_is : (n : ℕ) → map.insert (content_of p.types s) (next_address p.types s) (replicate (object_size p.types (made (suc n))) 0) ≡ content_of p.types (append_object s (made (suc n))) → has_room p.types s (made (suc n)) ≡ true → allocate before fr cs rest (row (suc n)) ≡ Next (running (process_of p (append_object s (made (suc n))) sends a t) (advanced fr (next_address p.types s ∷ rest)) cs)
  made_is n content room =
      let x = made (suc n) in
      let after = append_object s x in
      let next = next_address p.types s in
      let there = λ (q : Process). Next (running q (advanced fr (next ∷ rest)) cs) in
      ap (λ b. cond b (there (with_object before (row (suc n)))) (Next (running before (advanced fr (0 ∷ rest)) cs))) (room_is n ∙ room)
      ∙ (ap (λ r. there (with_object before r)) (row_is (suc n))
      ∙ (ap (λ m. there (record { content = m; rows = rows_of p s ++ row_of (length p.sites) p.types next x ∷ []; next = address_past p.types next x; outbox = sends; activity = a; spare = t })) content
      ∙ (ap (λ r. there (record { content = content_of p.types after; rows = r; next = address_past p.types next x; outbox = sends; activity = a; spare = t })) (sym (rows_more (length p.sites) p.types FIRST_ADDRESS s.objects x))
      ∙ ap (λ n. there (record { content = content_of p.types after; rows = rows_of p after; next = n; outbox = sends; activity = a; spare = t })) (sym (end_more p.types FIRST_ADDRESS s.objects x)))))

  pub word_is : (x : Object) → address_in (addresses p.types (append_object s x)) (length s.objects) + 0 ≡ next_address p.types s
  word_is x = let e = ap (λ o. option_map_or (λ n. n) o 0) (address_more p.types FIRST_ADDRESS s.objects x) in omega (arith, e)

  pub new_address : (x : Object) → is_address p (append_object s x) (length s.objects) 0 ≡ true
  new_address x = ap (λ o. option_map_or (λ x. nat_le 0 (object_size p.types x)) o false) (last_is s.objects x) ∙ low (object_size p.types x)
    where
      low : (n : ℕ) → nat_le 0 n ≡ true
      low n = grind (arith, nat_tests)

-- the words of counts
pub positive_word : (n : ℕ) → is_held K.LongLong (pos n) ≡ true → of_signed (pos n) ≡ n
positive_word n h = let b = held_pos K.LongLong n h in omega (arith, ints, b)

pub negative_word : (n : ℕ) → is_held K.LongLong (negsuc n) ≡ true → 4194304 < of_signed (negsuc n)
negative_word n h = let b = held_neg K.LongLong n h in omega (arith, ints, b)
