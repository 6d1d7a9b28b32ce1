-- The image of a store is a store of the new program.
use Rattle.std.proofs.Common.{◌≡◌, ◌∙◌, refl, sym, ap, subst, ℕ, zero, suc, ◌+◌, ◌-◌, ◌*◌, ◌<◌, ◌≤◌, Bool, true, false, ◌&&◌, not, nat_lt, nat_le, if◌then◌else◌, List, [], ◌∷◌, map, length, Option, Some, None, Ok, slice_get, arith}
use Rattle.std.specs.List.{list_all}
use Rattle.std.specs.Option.{option_map_or}
use Rattle.std.proofs.lemmas.Bool.Decides.{nat_tests}
use Rattle.std.proofs.lemmas.Option.{slice_get_within}
use Rattle.lu_base.specs.Addresses as by_size
use Rattle.lu_base.proofs.AddressLemmas.{after_low}
use Rattle.c_types.specs.declared.parts.Parts.{Parts}
use Rattle.c_types.specs.declared.parts.Ty.{Ty}
use Rattle.c_types.specs.declared.parts.Ty.TheVariants as T
use Rattle.c_types.specs.Layout.{size_of}
use Rattle.c_types.specs.Refusal.{IsBuilt}
use Rattle.src_tree.specs.declared.value.Object.{Object}
use Rattle.src_tree.specs.declared.value.Store.{Store}
use Rattle.src_tree.specs.declared.program.Global as Text
use Rattle.src_tree.specs.declared.program.Site.{Site}
use Rattle.src_tree.specs.declared.program.Program.{Program}
use Rattle.src_meaning.specs.Initial.{global_elem, global_count, elem_in, count_in, initial_object, initial_store}
use Rattle.src_meaning.specs.Objects.{is_live, is_live_heap, is_global, object_size, heap_sizes, next_address}
use Rattle.src_meaning.specs.Store.{IsStore}
use Rattle.src_meaning.specs.ValidTypes.{is_starred}
use Rattle.src_meaning.specs.Valid.{IsValid, is_few, has_few_entries, has_valid_types, has_valid_globals, has_valid_functions, are_globals, has_messages, is_function, has_handlers, is_object_site, are_within}
use Rattle.src_meaning.specs.ValidNumbering.{is_numbered}
use Rattle.src_meaning.specs.ValidNames.{are_names, names_differ}
use Rattle.src_meaning.proofs.LayoutLengths.{and_left, and_right}
use Rattle.src_laws.proofs.Extended.{objects_kept}
use Rattle.src_laws.proofs.Sizes.{size-array}
use Rattle.src_laws.proofs.StoreParts.{all_get}
use Rattle.lu_image.specs.declared.pairing.Pairing.{Pairing}
use Rattle.lu_image_store.specs.Versions.{Versions}
use Rattle.lu_image_store.specs.Pointers.{Context}
use Rattle.lu_image_store.specs.Needed.{is_in, is_object, step, needed_objects}
use Rattle.lu_image_store.specs.Carried.{carried}
use Rattle.lu_image_store.specs.Stores.{is_heap_number, heap_of, context_of, heap_size, first_over, move_objects, store_image}
use Rattle.lu_image_store.proofs.Closure.{needed_objects-are}
use Rattle.lu_image_laws.specs.Between.{between}
use Rattle.lu_image_laws.proofs.Members.{get_map, mapped}
use Rattle.lu_image_laws.proofs.Pointed.{Lands}
use Rattle.lu_image_laws.proofs.Shapes.{shapes_of}
use Rattle.lu_image_laws.proofs.Placed.{made_within, stands}
use Rattle.lu_image_laws.proofs.Moved.{Fits, sizes_of, all_move}

-- the rules of a valid program on globals, and on functions and sites
rules : (p : Program) → IsValid p → (has_valid_globals p ≡ true) × (has_valid_functions p ≡ true)
rules p valid =
    let last = has_valid_globals p && has_valid_functions p in
    let types = has_valid_types p && last in
    let differ = names_differ p.globals p.functions && types in
    let few = has_few_entries p && differ in
    let both = and_right (has_valid_types p) last (and_right (names_differ p.globals p.functions) types (and_right (has_few_entries p) differ (and_right (are_names p.names) few valid.rules))) in
    (and_left (has_valid_globals p) (has_valid_functions p) both, and_right (has_valid_globals p) (has_valid_functions p) both)

global_rules : (p : Program) → has_valid_globals p ≡ true → (nat_le (length p.globals) 4096 ≡ true) × (are_within p 1048576 p.globals ≡ true)
global_rules p h =
    let last = are_globals p 0 p.globals && are_within p 1048576 p.globals in
    let rest = has_messages p p.globals && last in
    let few = nat_le (length p.globals) 4096 in
    (and_left few rest h, and_right (are_globals p 0 p.globals) (are_within p 1048576 p.globals) (and_right (has_messages p p.globals) last (and_right few rest h)))

site_rule : (p : Program) → has_valid_functions p ≡ true → list_all (is_object_site p) p.sites ≡ true
site_rule p h =
    let last = list_all (is_object_site p) p.sites && is_numbered p.sites p.functions in
    let handlers = has_handlers p && last in
    let functions = list_all (is_function p) p.functions && handlers in
    and_left (list_all (is_object_site p) p.sites) (is_numbered p.sites p.functions) (and_right (has_handlers p) last (and_right (list_all (is_function p) p.functions) handlers (and_right (is_few p.functions) functions h)))

-- sites of a valid program name types of its table
starred_within : (p : Parts) (n t : ℕ) → is_starred p n (slice_get p.types t) ≡ true → t < length p.types
starred_within p n t h = by (slice_get p.types t) refl h
  where
    by : (o : Option Ty) → slice_get p.types t ≡ o → is_starred p n o ≡ true → t < length p.types
    by None e h = absurd (bare n h)
      where
        bare : (n : ℕ) → is_starred p n None ≡ true → ⊥
        bare zero h = absurd (cc)
        bare (suc n) h = absurd (cc)
    by (Some ty) e h = slice_get_within p.types t ty e

-- the size of a global's object
size_global : (p : Parts) → IsBuilt p → (t : ℕ) → global_count p t * size_of p (global_elem p t) ≡ size_of p t
size_global p built t = by (slice_get p.types t) refl
  where
    by : (o : Option Ty) → slice_get p.types t ≡ o → count_in o * size_of p (elem_in t o) ≡ size_of p t
    by (Some (T.Array u n)) e = let size = size-array p built t u n e in let turned : n * size_of p u ≡ size_of p u * n = grind arith in turned ∙ sym size
    by None e = omega arith
    by (Some (T.Int k)) e = omega arith
    by (Some (T.Pointer u)) e = omega arith
    by (Some T.VoidPointer) e = omega arith
    by (Some (T.Function g)) e = omega arith
    by (Some (T.Struct n)) e = omega arith
    by (Some (T.Union n)) e = omega arith

module _ (p : Program) (built : IsBuilt p.types) where
  -- the store at the start takes nothing of the heap, and few addresses
  start_heap : (gs : List Text.Global) → heap_sizes p.types (map (initial_object p) gs) ≡ 0
  start_heap [] = refl
  start_heap (g ∷ gs) = ap (λ n. 0 + n) (start_heap gs)

  start_last : (gs : List Text.Global) (room first : ℕ) → are_within p room gs ≡ true → by_size.next_from first (map (object_size p.types) (map (initial_object p) gs)) ≤ first + room + 31 * length gs
  start_last [] room first h = omega arith
  start_last (g ∷ gs) room first h =
      let size = size_global p.types built g.ty in
      let fit = and_left (nat_le (size_of p.types g.ty) room) (are_within p (room - size_of p.types g.ty) gs) h in
      let low : size_of p.types g.ty ≤ room = grind (arith, nat_tests, fit) in
      let rest = start_last gs (room - size_of p.types g.ty) (by_size.address_after first (object_size p.types (initial_object p g))) (and_right (nat_le (size_of p.types g.ty) room) (are_within p (room - size_of p.types g.ty) gs) h) in
      let after = after_low first (object_size p.types (initial_object p g)) in
      omega (arith, size, low, rest, after)

-- no object passes the bound, so all together don't
within_bound : (size : ℕ → ℕ) (sum : List ℕ → ℕ) → sum [] ≡ 0 → ((k : ℕ) (ks : List ℕ) → sum (k ∷ ks) ≡ size k + sum ks) → (ks : List ℕ) (total : ℕ) → total ≤ 4194304 → first_over size total ks ≡ None → total + sum ks ≤ 4194304
within_bound size sum none more [] total low h = omega (arith, none, low)
within_bound size sum none more (k ∷ ks) total low h = by (nat_lt 4194304 (total + size k)) refl h (λ low h. within_bound size sum none more ks (total + size k) low h)
  where
    by : (b : Bool) → nat_lt 4194304 (total + size k) ≡ b → (if b then Some k else first_over size (total + size k) ks) ≡ None → (total + size k ≤ 4194304 → first_over size (total + size k) ks ≡ None → total + size k + sum ks ≤ 4194304) → total + sum (k ∷ ks) ≤ 4194304
    by true e h below = absurd (cc)
    by false e h below =
        let low : total + size k ≤ 4194304 = grind (arith, nat_tests, e) in
        let rest = below low h in
        let sum_is = more k ks in
        omega (arith, rest, sum_is)

module _ (old new : Program) (q : Pairing) (s next : Store) (old_built : IsBuilt old.types) (valid : IsValid new) (starts : IsStore new (initial_store new)) (ok : IsStore old s) where
  abbrev m : Versions
  m = between old new q

  abbrev initial : Store
  initial = initial_store new

  abbrev needed : List ℕ
  needed = needed_objects m s

  abbrev heap : List ℕ
  heap = heap_of s needed

  abbrev c : Context
  c = context_of m s heap

  sited : (k u : ℕ) → slice_get (map (λ (d : Site). d.elem) new.sites) k ≡ Some u → u < length new.types.types
  sited k u h =
      let d = mapped (λ (d : Site). d.elem) (slice_get new.sites k) u (sym (get_map (λ (d : Site). d.elem) new.sites k) ∙ h) in
      let one = all_get (is_object_site new) new.sites k d.0 (site_rule new (rules new valid).1) d.1 in
      subst (λ u. u < length new.types.types) d.2 (starred_within new.types 8 d.0.elem one)

  first_low : next_address new.types initial ≤ 1179648
  first_low =
      let few = (global_rules new (rules new valid).0).0 in
      let low : length new.globals ≤ 4096 = grind (arith, nat_tests, few) in
      let last = start_last new valid.built new.globals 1048576 4096 (global_rules new (rules new valid).0).1 in
      omega (arith, low, last)

  module _ (moved : move_objects c needed initial ≡ Ok next) where
    -- carried pointers lead to objects that have moved
    lands : (k o : ℕ) → is_in needed k ≡ true → is_in (carried m s k) o ≡ true → Lands m s next c.number o
    lands k o here leads x d at live is = stands old new q s next moved o x d at is later
      where
        follows : is_global x.kind ≡ false → is_object s is_live_heap o ≡ true
        follows kind = ap (λ o. option_map_or is_live_heap o false) at ∙ (ap (λ b. is_live x && not b) kind ∙ ap (λ b. b && true) live)

        later : is_heap_number s o ≡ true → is_in needed o ≡ true
        later h =
            let not_global : not (is_global x.kind) ≡ true = sym (ap (λ o. option_map_or (λ (x : Object). not (is_global x.kind)) o false) at) ∙ h in
            let list = needed_objects-are m s in
            let chain = list.sound k here in
            list.whole o (suc chain.0, step chain.1 leads (slice_get_within s.objects o x at) (follows (by (is_global x.kind) not_global)))
          where
            by : (b : Bool) → not b ≡ true → b ≡ false
            by true h = absurd (cc)
            by false h = refl

    abbrev sum : List ℕ → ℕ
    sum ks = sizes_of old new old_built valid.built sited q s next ok c.number (next_address new.types initial) ks

    fits : first_over (heap_size m s) 0 needed ≡ None → IsStore new next
    fits none =
        let bound = within_bound (heap_size m s) sum refl (λ k ks. refl) needed 0 (omega arith) none in
        let empty = start_heap new valid.built new.globals in
        let low = first_low in
        let start : Fits old new old_built valid.built sited q s next ok c.number (next_address new.types initial) initial (sum needed) = record {
          objects = starts.objects;
          typed = objects_kept new initial next (shapes_of c needed initial next moved).more initial.objects starts.typed;
          heap = omega (arith, bound, empty);
          last = omega arith;
        } in
        let end = all_move old new old_built valid.built sited q s next ok c.number (next_address new.types initial) needed initial next start (λ k here o leads. lands k o here leads) moved in
        let room = end.heap in
        let last = end.last in
        record {
          objects = end.objects;
          typed = end.typed;
          heap = omega (arith, room);
          last = omega (arith, room, last, low);
        }

  -- the law
  pub image_keeps : store_image m s initial ≡ Ok next → IsStore new next
  image_keeps h =
      let made = made_within (move_objects c needed initial) (first_over (heap_size m s) 0 needed) next h in fits made.1 made.0
