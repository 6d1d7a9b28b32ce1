-- A temporary at the next address is the process of the store with it.
use Rattle.std.proofs.Common.{◌≡◌, ◌∙◌, refl, ap, sym, Bool, true, false, ◌&&◌, cond, ℕ, ◌+◌, ◌*◌, ◌≤◌, List, [], ◌∷◌, ◌++◌, length, map, Option, Some, None, arith, nat_eq, nat_le}
use Rattle.std.specs.Prelude.{slice_get}
use Rattle.std.specs.List.{list_all}
use Rattle.std.specs.Option.{option_map_or}
use Rattle.std.specs.Ordering.{nat_cmp}
use Rattle.std.specs.Cmp.{nat_cmp_total}
use Rattle.std.specs.FinMap.{find as look, insert, get-from_entries, get-insert, same_map, nat_cmp-IsAntisymmetric}
use Rattle.std.proofs.lemmas.List.{append-nil}
use Rattle.std.proofs.lemmas.Bool.Decides.{nat_tests}
use Rattle.lu_base.specs.Addresses.{addresses_from, next_from}
use Rattle.lu_base.specs.declared.limits.TheConstants.{FIRST_ADDRESS}
use Rattle.c_types.specs.declared.parts.Parts.{Parts}
use Rattle.c_types.specs.Layout.{size_of}
use Rattle.c_types.specs.Refusal.{IsBuilt}
use Rattle.src_tree.specs.declared.value.Value.{Value}
use Rattle.src_tree.specs.declared.value.Object.{Object}
use Rattle.src_tree.specs.declared.value.Store.{Store}
use Rattle.src_tree.specs.declared.program.Global as Text
use Rattle.src_tree.specs.declared.program.Program.{Program}
use Rattle.src_meaning.specs.Objects.{object_size, is_live, is_live_heap, addresses, next_address, heap_sizes, heap_bytes, has_room, append_object}
use Rattle.src_meaning.specs.Store.{IsStore, has_type, is_struct, is_address, are_elements, is_well_typed, is_heap_object, is_global_object, are_objects}
use Rattle.src_meaning.specs.ValueBytes.{Addresses, bytes_of, elements_bytes}
use Rattle.src_meaning.proofs.LayoutLengths.{and_left, and_right}
use Rattle.src_laws.proofs.Extended.{and_in, extends_more, type_kept, well_typed_kept}
use Rattle.bm_objects.specs.declared.row.Row.{Row}
use Rattle.bm_code.specs.Process.{Process}
use Rattle.bm_code.specs.Services.{heap_bytes as row_bytes, can_allocate}
use Rattle.cg_server.specs.State.{ServerState}
use Rattle.cg_server.specs.Temporaries.{temporary_row, with_bytes_behind, placed}
use Rattle.cg_state.specs.Represents.{address_past, address_in, value_word, row_of, rows_from, rows_of, with_entry, entries_from, content_of, process_of}
use Rattle.cg_state.proofs.Memory.{after_above}
use Rattle.cg_state.proofs.Stores.{same_address, equal_address, cond_swap}
use Rattle.cg_state.proofs.Frees.{site_is}
use Rattle.cg_state.proofs.Allocs.{end_more}
use Rattle.cg_sim_expr.proofs.Limits.{end_above}
use Rattle.cg_sim.proofs.Kept.{kept_word_of}
use Rattle.cg_sim.proofs.MoreAddresses.{elements_keep}
use Rattle.cg_meaning.specs.Servers.{IsServerOf}
use Rattle.cg_sim_temporary.specs.Temporaries.{temporary, next_pointer, IsPlaced, PlacesTemporaries}
use Rattle.cg_sim_temporary.proofs.Stands.{stands_after}

rows_more : (sites : ℕ) (p : Parts) (a : ℕ) (os : List Object) (x : Object) → rows_from sites p a (os ++ x ∷ []) ≡ rows_from sites p a os ++ row_of sites p (next_from a (map (object_size p) os)) x ∷ []
rows_more sites p a [] x = refl
rows_more sites p a (y ∷ os) x = ap (λ l. row_of sites p a y ∷ l) (rows_more sites p (address_past p a y) os x)

address_more : (p : Parts) (a : ℕ) (os : List Object) (x : Object) → slice_get (addresses_from a (map (object_size p) (os ++ x ∷ []))) (length os) ≡ Some (next_from a (map (object_size p) os))
address_more p a [] x = refl
address_more p a (y ∷ os) x = address_more p (address_past p a y) os x

-- the rows' heap is that of the objects
heap_is : (sites : ℕ) (p : Parts) (a : ℕ) (os : List Object) → row_bytes (rows_from sites p a os) ≡ heap_sizes p os
heap_is sites p a [] = refl
heap_is sites p a (y ∷ os) =
    ap (λ b. cond (is_live y && b) (object_size p y) 0 + row_bytes (rows_from sites p (address_past p a y) os)) (site_is sites y.kind)
    ∙ ap (λ n. cond (is_live_heap y) (object_size p y) 0 + n) (heap_is sites p (address_past p a y) os)

heap_more : (p : Parts) (os : List Object) (x : Object) → heap_sizes p (os ++ x ∷ []) ≡ heap_sizes p os + cond (is_live_heap x) (object_size p x) 0
heap_more p [] x = omega arith
heap_more p (y ∷ os) x = let rest = heap_more p os x in omega (arith, rest)

at_most : (a b : ℕ) → nat_le a b ≡ true → a ≤ b
at_most a b h = grind (arith, nat_tests, h)

module _ (p : Program) (x : Object) (heap : is_heap_object p x ≡ true) where
  heaps_more : (xs : List Object) → list_all (is_heap_object p) xs ≡ true → list_all (is_heap_object p) (xs ++ x ∷ []) ≡ true
  heaps_more [] h = and_in (is_heap_object p x) true heap refl
  heaps_more (y ∷ xs) h =
      and_in (is_heap_object p y) _ (and_left (is_heap_object p y) (list_all (is_heap_object p) xs) h) (heaps_more xs (and_right (is_heap_object p y) (list_all (is_heap_object p) xs) h))

  objects_more : (gs : List Text.Global) (xs : List Object) → are_objects p gs xs ≡ true → are_objects p gs (xs ++ x ∷ []) ≡ true
  objects_more [] xs h = heaps_more xs h
  objects_more (g ∷ gs) [] h = absurd (cc)
  objects_more (g ∷ gs) (y ∷ xs) h =
      and_in (is_global_object p g y) _ (and_left (is_global_object p g y) (are_objects p gs xs) h) (objects_more gs xs (and_right (is_global_object p g y) (are_objects p gs xs) h))

-- the entries of a content with one object more
module _ (p : Parts) (av : Addresses) (x : Object) (vs : List Value) (live : x.elements ≡ Some vs) (q : ℕ) where
  abbrev mine : Option (List ℕ)
  mine = Some (elements_bytes p av x.elem vs)

  look_more : (a : ℕ) (os : List Object) → look nat_cmp q (entries_from p av a (os ++ x ∷ [])) ≡ cond (same_address q (next_from a (map (object_size p) os))) mine (look nat_cmp q (entries_from p av a os))
  look_more a [] = ap (λ l. look nat_cmp q (with_entry p av a x.elem l [])) live
  look_more a (y ∷ os) = by y.elements (look_more (address_past p a y) os)
    where
      by : (l : Option (List Value)) → look nat_cmp q (entries_from p av (address_past p a y) (os ++ x ∷ [])) ≡ cond (same_address q (next_from (address_past p a y) (map (object_size p) os))) mine (look nat_cmp q (entries_from p av (address_past p a y) os)) → look nat_cmp q (with_entry p av a y.elem l (entries_from p av (address_past p a y) (os ++ x ∷ []))) ≡ cond (same_address q (next_from (address_past p a y) (map (object_size p) os))) mine (look nat_cmp q (with_entry p av a y.elem l (entries_from p av (address_past p a y) os)))
      by None rest = rest
      by (Some us) rest =
          let up = after_above p a y in
          let end = end_above p (address_past p a y) os in
          ap (cond (same_address q a) (Some (elements_bytes p av y.elem us))) rest
          ∙ cond_swap (same_address q a) (same_address q (next_from (address_past p a y) (map (object_size p) os))) (Some (elements_bytes p av y.elem us)) mine (look nat_cmp q (entries_from p av (address_past p a y) os)) (λ t u. let m = equal_address q a t in let n = equal_address q (next_from (address_past p a y) (map (object_size p) os)) u in omega (arith, m, n, up, end))

module _ (p : Program) (built : IsBuilt p.types) (store : Store) (ok : IsStore p store) where
  -- the bytes of the objects stay where addresses do
  entries_keep : (b : Addresses) → ((o k : ℕ) → is_address p store o k ≡ true → address_in b o ≡ address_in (addresses p.types store) o) → (a : ℕ) (os : List Object) → list_all (is_well_typed p store) os ≡ true → entries_from p.types (addresses p.types store) a os ≡ entries_from p.types b a os
  entries_keep b same a [] h = refl
  entries_keep b same a (y ∷ os) h =
      by y.elements (and_left (is_well_typed p store y) (list_all (is_well_typed p store) os) h) (entries_keep b same (address_past p.types a y) os (and_right (is_well_typed p store y) (list_all (is_well_typed p store) os) h))
    where
      by : (l : Option (List Value)) → are_elements p store y l ≡ true → entries_from p.types (addresses p.types store) (address_past p.types a y) os ≡ entries_from p.types b (address_past p.types a y) os → with_entry p.types (addresses p.types store) a y.elem l (entries_from p.types (addresses p.types store) (address_past p.types a y) os) ≡ with_entry p.types b a y.elem l (entries_from p.types b (address_past p.types a y) os)
      by None g rest = rest
      by (Some vs) g rest =
          ap (λ l. (a, l) ∷ entries_from p.types (addresses p.types store) (address_past p.types a y) os) (elements_keep p built store (addresses p.types store) b same y.elem vs (and_right (nat_eq (length vs) y.count) (list_all (has_type p store y.elem) vs) g))
          ∙ ap (λ l. (a, elements_bytes p.types b y.elem vs) ∷ l) rest

  module _ (elem : ℕ) (v : Value) (structure : is_struct (slice_get p.types.types elem) ≡ true) (typed : has_type p store elem v ≡ true) where
    abbrev x : Object
    x = temporary elem v

    abbrev after : Store
    after = append_object store x

    abbrev next : ℕ
    next = next_address p.types store

    abbrev bytes : List ℕ
    bytes = bytes_of p.types (addresses p.types store) elem v

    -- the store with the temporary is one of the program
    stays_store : has_room p.types store x ≡ true → IsStore p after
    stays_store room =
        let fits = at_most (heap_bytes p.types store + object_size p.types x) 4194304 (and_left (nat_le (heap_bytes p.types store + object_size p.types x) 4194304) (nat_le (address_past p.types next x) 4026531840) room) in
        let low = at_most (address_past p.types next x) 4026531840 (and_right (nat_le (heap_bytes p.types store + object_size p.types x) 4194304) (nat_le (address_past p.types next x) 4026531840) room) in
        let more = heap_more p.types store.objects x in
        let end = end_more p.types FIRST_ADDRESS store.objects x in
        record {
          objects = objects_more p x (heap_object fits) p.globals store.objects ok.objects;
          typed = all_typed store.objects ok.typed;
          heap = omega (arith, more, fits);
          last = omega (arith, end, low);
        }
      where
        below : (h k : ℕ) → h + k ≤ 4194304 → nat_le k 4194304 ≡ true
        below h k le = let low : k ≤ 4194304 = omega (arith, le) in grind (arith, nat_tests, low)

        heap_object : heap_bytes p.types store + object_size p.types x ≤ 4194304 → is_heap_object p x ≡ true
        heap_object fits =
            ap (λ b. (b && true) && (true && nat_le (object_size p.types x) 4194304)) structure ∙ below (heap_bytes p.types store) (object_size p.types x) fits

        all_typed : (os : List Object) → list_all (is_well_typed p store) os ≡ true → list_all (is_well_typed p after) (os ++ x ∷ []) ≡ true
        all_typed [] h = ap (λ b. (true && (b && true)) && true) (type_kept p store after (extends_more store.objects (x ∷ [])) elem v typed)
        all_typed (y ∷ os) h =
            and_in (is_well_typed p after y) _ (well_typed_kept p store after (extends_more store.objects (x ∷ [])) y (and_left (is_well_typed p store y) (list_all (is_well_typed p store) os) h)) (all_typed os (and_right (is_well_typed p store y) (list_all (is_well_typed p store) os) h))

    -- and its content has the temporary's bytes more
    content_more : insert (content_of p.types store) next bytes ≡ content_of p.types after
    content_more =
        let b = addresses p.types after in
        let old = entries_from p.types (addresses p.types store) FIRST_ADDRESS store.objects in
        let stay = kept_word_of p built store after (extends_more store.objects (x ∷ [])) in
        let keep = entries_keep b stay FIRST_ADDRESS store.objects ok.typed in
        let same : bytes ≡ elements_bytes p.types b elem (v ∷ []) = sym (append-nil bytes) ∙ elements_keep p built store (addresses p.types store) b stay elem (v ∷ []) (ap (λ b. b && true) typed) in
        same_map nat_cmp_total nat_cmp-IsAntisymmetric _ _ (λ q. get-insert nat_cmp_total (content_of p.types store) next bytes q
        ∙ (ap (cond (same_address q next) (Some bytes)) (get-from_entries nat_cmp_total old q)
        ∙ (ap (λ l. cond (same_address q next) (Some bytes) (look nat_cmp q l)) keep
        ∙ (ap (λ l. cond (same_address q next) (Some l) (look nat_cmp q (entries_from p.types b FIRST_ADDRESS store.objects))) same
        ∙ (sym (look_more p.types b x (v ∷ []) refl q FIRST_ADDRESS store.objects) ∙ sym (get-from_entries nat_cmp_total (entries_from p.types b FIRST_ADDRESS (store.objects ++ x ∷ [])) q))))))

    row_is : temporary_row p next elem ≡ row_of (length p.sites) p.types next x
    row_is =
        let one : size_of p.types elem ≡ 1 * size_of p.types elem = omega arith in
        ap (λ n. record { addr = next; elem = elem; count = 1; size = n; site = Some (length p.sites); live = true }) one

    room_is : can_allocate (rows_of p store) (row_of (length p.sites) p.types next x) ≡ has_room p.types store x
    room_is = ap (λ h. nat_le (h + object_size p.types x) 4194304 && nat_le (address_past p.types next x) 4026531840) (heap_is (length p.sites) p.types FIRST_ADDRESS store.objects)

module _ (s : ServerState) (store : Store) (is : IsServerOf s store) (elem : ℕ) (v : Value) where
  abbrev program : Program
  program = s.source.program

  abbrev made : Store
  made = append_object store (temporary elem v)

  abbrev here : ℕ
  here = next_address program.types store

  abbrev now : Process
  now = process_of program store s.process.outbox s.process.activity s.process.spare

  abbrev row : Row
  row = row_of (length program.sites) program.types here (temporary elem v)

  module _ (structure : is_struct (slice_get program.types.types elem) ≡ true) (typed : has_type program store elem v ≡ true) where
    abbrev image : List ℕ
    image = bytes_of program.types (addresses program.types store) elem v

    behind : with_bytes_behind now row image ≡ process_of program made s.process.outbox s.process.activity s.process.spare
    behind =
        ap (λ m. record (with_bytes_behind now row image) { content = m }) (content_more program is.source.valid.built store is.is_store elem v structure typed)
        ∙ (ap (λ r. record (with_bytes_behind now row image) { content = content_of program.types made; rows = r }) (sym (rows_more (length program.sites) program.types FIRST_ADDRESS store.objects (temporary elem v)))
        ∙ ap (λ n. record now { content = content_of program.types made; rows = rows_of program made; next = n }) (sym (end_more program.types FIRST_ADDRESS store.objects (temporary elem v))))

    word_is : here ≡ value_word (addresses program.types made) (next_pointer store)
    word_is = let e = ap (λ o. option_map_or (λ n. n) o 0) (address_more program.types FIRST_ADDRESS store.objects (temporary elem v)) in omega (arith, e)

    placed_is : placed program s.process elem image ≡ cond (has_room program.types store (temporary elem v)) (Some here, with_bytes_behind now row image) (None, now)
    placed_is =
        ap (λ q. placed program q elem image) is.process.is
        ∙ (ap (λ r. cond (can_allocate (rows_of program store) r) (Some r.addr, with_bytes_behind now r image) (None, now)) (row_is program is.source.valid.built store is.is_store elem v structure typed)
        ∙ ap (λ b. cond b (Some here, with_bytes_behind now row image) (None, now)) (room_is program is.source.valid.built store is.is_store elem v structure typed))

    places : (address : Option ℕ) (q : Process) → (address, q) ≡ placed program s.process elem image → IsPlaced s store (temporary elem v) (has_room program.types store (temporary elem v)) address q
    places address q e = by (has_room program.types store (temporary elem v)) refl (e ∙ placed_is)
      where
        by : (b : Bool) → has_room program.types store (temporary elem v) ≡ b → ◌≡◌ {A = Option ℕ × Process} (address, q) (cond b (Some here, with_bytes_behind now row image) (None, now)) → IsPlaced s store (temporary elem v) b address q
        by true room e =
            (ap (λ (r : Option ℕ × Process). r.0) e ∙ ap Some word_is, stands_after s store is made (stays_store program is.source.valid.built store is.is_store elem v structure typed room) q (ap (λ (r : Option ℕ × Process). r.1) e ∙ behind))
        by false room e = (ap (λ (r : Option ℕ × Process). r.0) e, ap (λ (r : Option ℕ × Process). r.1) e ∙ sym is.process.is)

pub places_temporaries : PlacesTemporaries
places_temporaries s store is elem v structure typed address q e = places s store is elem v structure typed address q e
