-- Taking away what begins at an address is a free of the object that begins there.
use Rattle.std.proofs.Common.{◌≡◌, ◌∙◌, refl, ap, sym, Bool, true, false, ◌&&◌, cond, ℕ, suc, ◌+◌, List, [], ◌∷◌, length, map, Option, Some, None, Ok, Err, arith, nat_eq}
use Rattle.std.specs.Prelude.{slice_get, find, is_some}
use Rattle.std.specs.Option.{option_map_or}
use Rattle.std.proofs.lemmas.Bool.Decides.{nat_tests}
use Rattle.lu_spec.specs.Then.{then_do}
use Rattle.lu_base.specs.Addresses.{addresses_from}
use Rattle.lu_base.specs.declared.limits.TheConstants.{FIRST_ADDRESS}
use Rattle.lu_base.specs.declared.trap.Trap.TheVariants.{BadFree}
use Rattle.src_tree.specs.declared.value.Value.{Value, Pointer}
use Rattle.src_tree.specs.declared.value.Object.{Object}
use Rattle.src_tree.specs.declared.value.Store.{Store}
use Rattle.src_tree.specs.declared.program.Program.{Program}
use Rattle.src_meaning.specs.Objects.{Gives, or_trap, object_size, is_live, is_live_heap, with_object, with_elements, freed, freed_object}
use Rattle.src_meaning.proofs.LayoutLengths.{and_left, and_right}
use Rattle.src_laws.proofs.StoreLaws.{freed_keeps}
use Rattle.bm_objects.specs.Table.{reaches}
use Rattle.bm_code.specs.Process.{Process}
use Rattle.bm_code.specs.Services.{is_heap_start, is_heap_object, without_object}
use Rattle.cg_server.specs.State.{ServerState, with_process}
use Rattle.cg_server.specs.Temporaries.{without_temporary}
use Rattle.cg_state.specs.Represents.{address_past, site_of, row_of, rows_from, rows_of, content_of, process_of}
use Rattle.cg_state.proofs.Memory.{stands, find_row}
use Rattle.cg_state.proofs.Frees.{site_is, rows_dead, end_dead, remove_content}
use Rattle.cg_meaning.specs.Servers.{IsServerOf}
use Rattle.cg_sim_temporary.specs.Temporaries.{IsHeapAt, FreesTemporaries, FreesNothing}
use Rattle.cg_sim_temporary.proofs.Stands.{stands_after}

same_number : (a b : ℕ) → a ≡ b → nat_eq a b ≡ true
same_number a b h = grind (arith, nat_tests, h)

both : (a b : Bool) → a ≡ true → b ≡ true → (a && b) ≡ true
both a b h g = cc

elements_of : (x : Object) → is_live_heap x ≡ true → (vs : List Value) × (x.elements ≡ Some vs)
elements_of x h = by x.elements refl (and_left (is_live x) _ h)
  where
    by : (l : Option (List Value)) → x.elements ≡ l → is_live x ≡ true → (vs : List Value) × (x.elements ≡ Some vs)
    by (Some vs) e g = (vs, e)
    by None e g = absurd (dead (sym (ap (λ l. elim l as (λ _. Bool) [ None ↦ false | Some elements ↦ true ]) e) ∙ g))
      where
        dead : false ≡ true → ⊥
        dead h = cc

module _ (s : ServerState) (store : Store) (is : IsServerOf s store) where
  abbrev p : Program
  p = s.source.program

  abbrev now : Process
  now = process_of p store s.process.outbox s.process.activity s.process.spare

  module _ (o address : ℕ) (h : IsHeapAt p store o address) where
    abbrev x : Object
    x = h.object

    abbrev after : Store
    after = with_object store o (with_elements x None)

    abbrev start : ℕ
    start = (stands (length p.sites) p.types FIRST_ADDRESS store.objects o x h.at).address

    start_is : start ≡ address
    start_is = let e = (stands (length p.sites) p.types FIRST_ADDRESS store.objects o x h.at).is in let f = h.begins in cc

    begins : is_heap_object (rows_of p store) start ≡ true
    begins =
        let n : start + 0 ≡ start = omega arith in
        ap (λ n. option_map_or (is_heap_start start) (find (reaches n) (rows_of p store)) false) (sym n)
        ∙ (ap (λ r. option_map_or (is_heap_start start) r false) (find_row (length p.sites) p.types FIRST_ADDRESS store.objects o 0 x h.at (omega arith))
        ∙ both (nat_eq start start) (is_live x && is_some (site_of (length p.sites) x.kind)) (same_number start start refl) (ap (λ b. is_live x && b) (site_is (length p.sites) x.kind) ∙ h.live))

    taken : (vs : List Value) → x.elements ≡ Some vs → without_temporary now start ≡ process_of p after s.process.outbox s.process.activity s.process.spare
    taken vs live =
        ap (λ b. cond b (without_object now start) now) begins
        ∙ (ap (λ m. record now { content = m; rows = (without_object now start).rows }) (remove_content (length p.sites) p.types x vs live store o h.at)
        ∙ (ap (λ r. record now { content = content_of p.types after; rows = r }) (rows_dead (length p.sites) p.types x vs live FIRST_ADDRESS store.objects o h.at)
        ∙ ap (λ n. record now { content = content_of p.types after; rows = rows_of p after; next = n }) (sym (end_dead (length p.sites) p.types x vs live FIRST_ADDRESS store.objects o h.at))))

    freed_is : freed store (Pointer o 0) ≡ Ok after
    freed_is = ap (λ q. then_do (or_trap BadFree q) (freed_object store o)) h.at ∙ ap (λ b. cond {A = Gives Store} b (Ok after) (Err BadFree)) h.live

    frees : (after : Store) × (freed store (Pointer o 0) ≡ Ok after) × IsServerOf (with_process s (without_temporary s.process address)) after
    frees =
        let vs = elements_of x h.live in
        let same : without_temporary s.process address ≡ process_of p after s.process.outbox s.process.activity s.process.spare = ap (λ q. without_temporary q address) is.process.is ∙ (ap (without_temporary now) (sym start_is) ∙ taken vs.0 vs.1) in
        (after, freed_is, stands_after s store is after (freed_keeps p is.source.valid.built store is.is_store (Pointer o 0) after freed_is) (without_temporary s.process address) same)

  -- where a heap object begins by the rows, one does in the store
  record Begins (first : ℕ) (os : List Object) (a : ℕ) : Type 0 where
    number : ℕ
    object : Object
    at : slice_get os number ≡ Some object
    live : is_live_heap object ≡ true
    start : slice_get (addresses_from first (map (object_size p.types) os)) number ≡ Some a

  found : (a first : ℕ) (os : List Object) → is_heap_object (rows_from (length p.sites) p.types first os) a ≡ true → Begins first os a
  found a first [] h = absurd (cc)
  found a first (y ∷ os) h = by (reaches a (row_of (length p.sites) p.types first y)) (found a (address_past p.types first y) os) h
    where
      same_of : (a b : ℕ) → nat_eq a b ≡ true → a ≡ b
      same_of a b h = grind (arith, nat_tests, h)

      later : Begins (address_past p.types first y) os a → Begins first (y ∷ os) a
      later b = record { number = suc b.number; object = b.object; at = b.at; live = b.live; start = b.start }

      by : (b : Bool) → (is_heap_object (rows_from (length p.sites) p.types (address_past p.types first y) os) a ≡ true → Begins (address_past p.types first y) os a) → option_map_or (is_heap_start a) (cond b (Some (row_of (length p.sites) p.types first y)) (find (reaches a) (rows_from (length p.sites) p.types (address_past p.types first y) os))) false ≡ true → Begins first (y ∷ os) a
      by true rest h =
          let there = and_left (nat_eq first a) (is_live y && is_some (site_of (length p.sites) y.kind)) h in
          let live = and_right (nat_eq first a) (is_live y && is_some (site_of (length p.sites) y.kind)) h in
          record {
            number = 0;
            object = y;
            at = refl;
            live = sym (ap (λ b. is_live y && b) (site_is (length p.sites) y.kind)) ∙ live;
            start = ap Some (same_of first a there);
          }
      by false rest h = later (rest h)

  stays : (address : ℕ) → ((o : ℕ) → IsHeapAt p store o address → ⊥) → without_temporary s.process address ≡ s.process
  stays address none =
      ap (λ q. without_temporary q address) is.process.is ∙ (by (is_heap_object (rows_of p store) address) refl ∙ sym is.process.is)
    where
      by : (b : Bool) → is_heap_object (rows_of p store) address ≡ b → cond b (without_object now address) now ≡ now
      by false e = refl
      by true e =
          let f = found address FIRST_ADDRESS store.objects e in
          absurd (none f.number (record { object = f.object; at = f.at; live = f.live; begins = f.start }))

pub frees_temporaries : FreesTemporaries
frees_temporaries s store is o address h = frees s store is o address h

pub frees_nothing : FreesNothing
frees_nothing s store is address none = stays s store is address none
