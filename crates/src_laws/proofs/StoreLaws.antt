-- A store stays a store of the program when a part is assigned, an object is freed, or one is allocated.
use Rattle.std.proofs.Common.{◌≡◌, ◌∙◌, refl, ap, sym, subst, Bool, true, false, ◌&&◌, not, cond, ℕ, zero, suc, ◌+◌, ◌<◌, ◌≤◌, List, [], ◌∷◌, ◌++◌, map, replicate, length, Option, Some, None, Ok, Err, arith, nat_eq, nat_lt, nat_le}
use Rattle.std.specs.Prelude.{slice_get, slice_set, ℤ, pos, negsuc}
use Rattle.std.specs.List.{list_all}
use Rattle.std.specs.Option.{option_map_or}
use Rattle.std.proofs.lemmas.List.{length-replicate}
use Rattle.std.proofs.lemmas.Bool.Decides.{nat_tests}
use Rattle.lu_spec.specs.Then.{then_option, then_do}
use Rattle.lu_spec.proofs.ThenLemmas.{then_some}
use Rattle.lu_base.specs.declared.trap.Trap.TheVariants.{BadCode, BadFree}
use Rattle.lu_base.specs.Addresses as by_size
use Rattle.lu_base.proofs.AddressLemmas.{next_append}
use Rattle.c_types.specs.declared.parts.Parts.{Parts}
use Rattle.c_types.specs.declared.path.Place as T_place
use Rattle.c_types.specs.Refusal.{IsBuilt}
use Rattle.c_types.specs.Place.{object_place}
use Rattle.c_types.proofs.ObjectLaws.{element-of}
use Rattle.src_tree.specs.declared.value.Value.{Value, Null, Int, Pointer, Function, Struct', Array', Union'}
use Rattle.src_tree.specs.declared.value.Object.{Object}
use Rattle.src_tree.specs.declared.value.ObjectKind.{ObjectKind}
use Rattle.src_tree.specs.declared.value.ObjectKind.TheVariants.{Global, Heap, Temporary}
use Rattle.src_tree.specs.declared.value.Store.{Store}
use Rattle.src_tree.specs.declared.program.Global as Text
use Rattle.src_tree.specs.declared.program.Program.{Program}
use Rattle.src_tree.specs.declared.program.Site.{Site}
use Rattle.src_meaning.specs.Paths.{zero_of, with_element_part}
use Rattle.src_meaning.specs.Objects.{or_trap, Place, with_object, with_elements, is_live, is_live_heap, is_global, object_size, heap_sizes, heap_bytes, next_address, store_with, freed, freed_object, zero_object, has_room, append_object, allocated}
use Rattle.src_meaning.specs.Store.{IsStore, has_type, is_well_typed, are_elements, is_of_kind, is_heap_object, is_global_object, are_objects}
use Rattle.src_meaning.proofs.LayoutLengths.{and_left, and_right}
use Rattle.src_laws.proofs.Extended.{and_in, Extends, extends_set, extends_more, values_kept, well_typed_kept, all_typed_set}
use Rattle.src_laws.proofs.StoreParts.{all_get, elements_keep, element_there}
use Rattle.src_laws.proofs.ZeroValues.{zeros_typed}

module _ (p : Program) (x x' : Object) (heap : is_heap_object p x ≡ true → is_heap_object p x' ≡ true) (global : (g : Text.Global) → is_global_object p g x ≡ true → is_global_object p g x' ≡ true) where
  heap_set : (xs : List Object) (o : ℕ) → list_all (is_heap_object p) xs ≡ true → slice_get xs o ≡ Some x → list_all (is_heap_object p) (slice_set xs o x') ≡ true
  heap_set [] o h e = absurd (cc)
  heap_set (y ∷ xs) zero h e =
      let same : y ≡ x = cc in
      and_in (is_heap_object p x') (list_all (is_heap_object p) xs) (heap (subst (λ y. is_heap_object p y ≡ true) same (and_left (is_heap_object p y) (list_all (is_heap_object p) xs) h))) (and_right (is_heap_object p y) (list_all (is_heap_object p) xs) h)
  heap_set (y ∷ xs) (suc o) h e =
      and_in (is_heap_object p y) (list_all (is_heap_object p) (slice_set xs o x')) (and_left (is_heap_object p y) (list_all (is_heap_object p) xs) h) (heap_set xs o (and_right (is_heap_object p y) (list_all (is_heap_object p) xs) h) e)

  pub objects_set : (gs : List Text.Global) (xs : List Object) (o : ℕ) → are_objects p gs xs ≡ true → slice_get xs o ≡ Some x → are_objects p gs (slice_set xs o x') ≡ true
  objects_set [] xs o h e = heap_set xs o h e
  objects_set (g ∷ gs) [] o h e = absurd (cc)
  objects_set (g ∷ gs) (y ∷ xs) zero h e =
      let same : y ≡ x = cc in
      and_in (is_global_object p g x') (are_objects p gs xs) (global g (subst (λ y. is_global_object p g y ≡ true) same (and_left (is_global_object p g y) (are_objects p gs xs) h))) (and_right (is_global_object p g y) (are_objects p gs xs) h)
  objects_set (g ∷ gs) (y ∷ xs) (suc o) h e =
      and_in (is_global_object p g y) (are_objects p gs (slice_set xs o x')) (and_left (is_global_object p g y) (are_objects p gs xs) h) (objects_set gs xs o (and_right (is_global_object p g y) (are_objects p gs xs) h) e)

-- no more bytes in the heap
heap_less : (p : Parts) (x x' : Object) → cond (is_live_heap x') (object_size p x') 0 ≤ cond (is_live_heap x) (object_size p x) 0 → (os : List Object) (o : ℕ) → slice_get os o ≡ Some x → heap_sizes p (slice_set os o x') ≤ heap_sizes p os
heap_less p x x' less [] o e = absurd (cc)
heap_less p x x' less (y ∷ os) zero e =
    let same : y ≡ x = cc in
    subst (λ y. cond (is_live_heap x') (object_size p x') 0 + heap_sizes p os ≤ cond (is_live_heap y) (object_size p y) 0 + heap_sizes p os) (sym same) (sums (heap_sizes p os) (cond (is_live_heap x') (object_size p x') 0) (cond (is_live_heap x) (object_size p x) 0) less)
  where
    sums : (n a b : ℕ) → a ≤ b → a + n ≤ b + n
    sums n a b h = omega (arith, h)
heap_less p x x' less (y ∷ os) (suc o) e =
    more (cond (is_live_heap y) (object_size p y) 0) (heap_sizes p (slice_set os o x')) (heap_sizes p os) (heap_less p x x' less os o e)
  where
    more : (n a b : ℕ) → a ≤ b → n + a ≤ n + b
    more n a b h = omega (arith, h)

-- the sizes stay, and with them every address
sizes_set : (p : Parts) (x : Object) (l : Option (List Value)) (os : List Object) (o : ℕ) → slice_get os o ≡ Some x → map (object_size p) (slice_set os o (with_elements x l)) ≡ map (object_size p) os
sizes_set p x l [] o e = absurd (cc)
sizes_set p x l (y ∷ os) zero e = let same : y ≡ x = cc in ap (λ (y : Object). object_size p y ∷ map (object_size p) os) (sym same)
sizes_set p x l (y ∷ os) (suc o) e = ap (λ l. object_size p y ∷ l) (sizes_set p x l os o e)

kind_same : (p : Program) (x : Object) (l : Option (List Value)) (k : ObjectKind) → is_of_kind p (with_elements x l) k ≡ is_of_kind p x k
kind_same p x l Global = refl
kind_same p x l (Heap site) = refl
kind_same p x l Temporary = refl

heap_kept : (p : Program) (x : Object) (l : Option (List Value)) → is_heap_object p x ≡ true → is_heap_object p (with_elements x l) ≡ true
heap_kept p x l h = ap (λ b. b && (nat_lt 0 x.count && nat_le (object_size p.types x) 4194304)) (kind_same p x l x.kind) ∙ h

global_kept : (p : Program) (g : Text.Global) (x : Object) (vs : List Value) → is_global_object p g x ≡ true → is_global_object p g (with_elements x (Some vs)) ≡ true
global_kept p g x vs h =
    and_in _ _ (and_left _ _ h) (and_in true _ refl (and_right (is_live x) _ (and_right _ _ h)))

no_global : (p : Program) (g : Text.Global) (x : Object) (k : ObjectKind) → not (is_global k) ≡ true → is_global_object p g (record x { kind = k }) ≡ true → ⊥
no_global p g x Global e h = absurd (cc)
no_global p g x (Heap site) e h = absurd (cc)
no_global p g x Temporary e h = absurd (cc)

equal : (a b : ℕ) → a ≡ b → nat_eq a b ≡ true
equal a b e = grind (arith, nat_tests, e)

at_most : (a b : ℕ) → nat_le a b ≡ true → a ≤ b
at_most a b h = grind (arith, nat_tests, h)

nothing : (n : ℕ) → 0 ≤ n
nothing n = omega arith

least : (n : ℕ) → n ≤ n
least n = omega arith

pub elements_typed : (p : Program) (s : Store) → IsStore p s → (o : ℕ) (x : Object) (vs : List Value) → slice_get s.objects o ≡ Some x → x.elements ≡ Some vs → (length vs ≡ x.count) × (list_all (has_type p s x.elem) vs ≡ true)
elements_typed p s ok o x vs e live =
    let one : is_well_typed p s x ≡ true = all_get (is_well_typed p s) s.objects o x ok.typed e in
    let two : (nat_eq (length vs) x.count && list_all (has_type p s x.elem) vs) ≡ true = subst (λ l. are_elements p s x l ≡ true) live one in
    (same (length vs) x.count (and_left (nat_eq (length vs) x.count) (list_all (has_type p s x.elem) vs) two), and_right (nat_eq (length vs) x.count) (list_all (has_type p s x.elem) vs) two)
  where
    same : (a b : ℕ) → nat_eq a b ≡ true → a ≡ b
    same a b h = grind (arith, nat_tests, h)

module _ (p : Program) (built : IsBuilt p.types) (s : Store) (ok : IsStore p s) where
  -- with other elements of a live object
  module _ (o : ℕ) (x : Object) (vs ws : List Value) (at : slice_get s.objects o ≡ Some x) (live : x.elements ≡ Some vs) (long : length ws ≡ length vs) (all : list_all (has_type p s x.elem) ws ≡ true) where
    abbrev changed : Store
    changed = with_object s o (with_elements x (Some ws))

    elements_set : IsStore p changed
    elements_set =
        let x' = with_elements x (Some ws) in
        let old = elements_typed p s ok o x vs at live in
        let more : Extends s.objects changed.objects = extends_set s.objects o x (Some ws) at in
        let alive : is_live x ≡ true = ap (λ l. elim l as (λ _. Bool) [ None ↦ false | Some elements ↦ true ]) live in
        let less = heap_less p.types x x' (same_part alive) s.objects o at in
        let same = ap by_size.next_address (sizes_set p.types x (Some ws) s.objects o at) in
        let count : length ws ≡ x.count = omega (arith, long, old.0) in
        let limit = ok.heap in
        let last = ok.last in
        record {
          objects = objects_set p x x' (heap_kept p x (Some ws)) (λ g e. global_kept p g x ws e) p.globals s.objects o ok.objects at;
          typed = all_typed_set p s changed more s.objects o x' ok.typed (and_in (nat_eq (length ws) x.count) (list_all (has_type p changed x.elem) ws) (equal (length ws) x.count count) (values_kept p s changed more x.elem ws all));
          heap = omega (arith, less, limit);
          last = omega (arith, same, last);
        }
      where
        same_part : is_live x ≡ true → cond (is_live_heap (with_elements x (Some ws))) (object_size p.types (with_elements x (Some ws))) 0 ≤ cond (is_live_heap x) (object_size p.types x) 0
        same_part alive = subst (λ b. cond (true && not (is_global x.kind)) (object_size p.types x) 0 ≤ cond (b && not (is_global x.kind)) (object_size p.types x) 0) (sym alive) (least (cond (true && not (is_global x.kind)) (object_size p.types x) 0))

  -- an assignment of a value of the place's type
  pub assigned_keeps : (at : Place) (x : Object) (to : T_place.Place) (v : Value) (s' : Store) → slice_get s.objects at.object ≡ Some x → object_place p.types x.elem x.count at.path ≡ Some to → has_type p s to.ty v ≡ true → store_with s at v ≡ Ok s' → IsStore p s'
  assigned_keeps at x to v s' there leads typed made = by (slice_get s.objects at.object) there (some_of _ made)
    where
      some_of : (o : Option Store) → or_trap BadCode o ≡ Ok s' → o ≡ Some s'
      some_of None e = absurd (cc)
      some_of (Some q) e = let same : q ≡ s' = cc in ap Some same

      by : (o : Option Object) → o ≡ Some x → then_option o (λ x. then_option x.elements (λ elements. then_option (with_element_part elements at.path v) (λ changed. Some (with_object s at.object (with_elements x (Some changed)))))) ≡ Some s' → IsStore p s'
      by None e made = absurd (cc)
      by (Some y) e made =
          let is_x : y ≡ x = cc in
          let made_x = subst (λ (x : Object). then_option x.elements (λ elements. then_option (with_element_part elements at.path v) (λ changed. Some (with_object s at.object (with_elements x (Some changed))))) ≡ Some s') is_x made in
          let vs = then_some x.elements (λ elements. then_option (with_element_part elements at.path v) (λ changed. Some (with_object s at.object (with_elements x (Some changed))))) s' made_x in
          let ws = then_some (with_element_part vs.0 at.path v) (λ changed. Some (with_object s at.object (with_elements x (Some changed)))) s' vs.2 in
          let el = element-of p.types x.elem x.count at.path to leads in
          let old = elements_typed p s ok at.object x vs.0 there vs.1 in
          let puts = subst (λ path. with_element_part vs.0 path v ≡ Some ws.0) el.path_is ws.1 in
          let part = element_there vs.0 el.number el.steps v ws.0 puts in
          let keeps = elements_keep p built s x.elem vs.0 el.number el.steps part.0 el.last old.1 el.rest part.1 v ws.0 (subst (λ t. has_type p s t v ≡ true) (sym el.ty) typed) puts in
          let is_s : with_object s at.object (with_elements x (Some ws.0)) ≡ s' = let e = ws.2 in cc in
          subst (IsStore p) is_s (elements_set at.object x vs.0 ws.0 there vs.1 keeps.0 keeps.1)

  -- an object of the heap dies
  dies : (o : ℕ) (x : Object) → slice_get s.objects o ≡ Some x → is_live_heap x ≡ true → IsStore p (with_object s o (with_elements x None))
  dies o x e h =
      let x' = with_elements x None in
      let s' = with_object s o x' in
      let more : Extends s.objects s'.objects = extends_set s.objects o x None e in
      let less = heap_less p.types x x' (nothing (cond (is_live_heap x) (object_size p.types x) 0)) s.objects o e in
      let same = ap by_size.next_address (sizes_set p.types x None s.objects o e) in
      let limit = ok.heap in
      let last = ok.last in
      record {
        objects = objects_set p x x' (heap_kept p x None) (λ g q. absurd (no_global p g x x.kind (and_right (is_live x) (not (is_global x.kind)) h) q)) p.globals s.objects o ok.objects e;
        typed = all_typed_set p s s' more s.objects o x' ok.typed refl;
        heap = omega (arith, less, limit);
        last = omega (arith, same, last);
      }

  -- a free
  pub freed_keeps : (v : Value) (s' : Store) → freed s v ≡ Ok s' → IsStore p s'
  freed_keeps Null s' e = let same : s ≡ s' = cc in subst (IsStore p) same ok
  freed_keeps (Pointer o zero) s' e = by (slice_get s.objects o) refl e
    where
      live : (x : Object) (b : Bool) → is_live_heap x ≡ b → slice_get s.objects o ≡ Some x → cond b (Ok (with_object s o (with_elements x None))) (Err BadFree) ≡ Ok s' → IsStore p s'
      live x true q at e = let same : with_object s o (with_elements x None) ≡ s' = cc in subst (IsStore p) same (dies o x at q)
      live x false q at e = absurd (cc)

      by : (q : Option Object) → slice_get s.objects o ≡ q → then_do (or_trap BadFree q) (freed_object s o) ≡ Ok s' → IsStore p s'
      by None at e = absurd (cc)
      by (Some x) at e = live x (is_live_heap x) refl at e
  freed_keeps (Pointer o (suc k)) s' e = absurd (cc)
  freed_keeps (Int z) s' e = absurd (cc)
  freed_keeps (Function f) s' e = absurd (cc)
  freed_keeps (Struct' m vs) s' e = absurd (cc)
  freed_keeps (Array' m vs) s' e = absurd (cc)
  freed_keeps (Union' k m body) s' e = absurd (cc)

heap_more : (p : Parts) (os : List Object) (x : Object) → heap_sizes p (os ++ x ∷ []) ≡ heap_sizes p os + cond (is_live_heap x) (object_size p x) 0
heap_more p [] x = omega arith
heap_more p (y ∷ os) x = let rest = heap_more p os x in omega (arith, rest)

sizes_more : (p : Parts) (os : List Object) (x : Object) → map (object_size p) (os ++ x ∷ []) ≡ map (object_size p) os ++ object_size p x ∷ []
sizes_more p [] x = refl
sizes_more p (y ∷ os) x = ap (λ l. object_size p y ∷ l) (sizes_more p os x)

module _ (p : Program) (x : Object) (heap : is_heap_object p x ≡ true) where
  heaps_more : (xs : List Object) → list_all (is_heap_object p) xs ≡ true → list_all (is_heap_object p) (xs ++ x ∷ []) ≡ true
  heaps_more [] h = and_in (is_heap_object p x) true heap refl
  heaps_more (y ∷ xs) h =
      and_in (is_heap_object p y) _ (and_left (is_heap_object p y) (list_all (is_heap_object p) xs) h) (heaps_more xs (and_right (is_heap_object p y) (list_all (is_heap_object p) xs) h))

  objects_more : (gs : List Text.Global) (xs : List Object) → are_objects p gs xs ≡ true → are_objects p gs (xs ++ x ∷ []) ≡ true
  objects_more [] xs h = heaps_more xs h
  objects_more (g ∷ gs) [] h = absurd (cc)
  objects_more (g ∷ gs) (y ∷ xs) h =
      and_in (is_global_object p g y) _ (and_left (is_global_object p g y) (are_objects p gs xs) h) (objects_more gs xs (and_right (is_global_object p g y) (are_objects p gs xs) h))

module _ (p : Program) (built : IsBuilt p.types) (s : Store) (ok : IsStore p s) (site elem : ℕ) (d : Site) (at : slice_get p.sites site ≡ Some d) (is_elem : d.elem ≡ elem) (known : elem < length p.types.types) where
  module _ (n : ℕ) where
    abbrev x : Object
    x = zero_object p.types (Heap site) elem (suc n)

    abbrev after : Store
    after = append_object s x

    abbrev vs : List Value
    vs = replicate (suc n) (zero_of p.types elem)

    grown : has_room p.types s x ≡ true → IsStore p after
    grown room =
        let fits = at_most (heap_bytes p.types s + object_size p.types x) 4194304 (and_left (nat_le (heap_bytes p.types s + object_size p.types x) 4194304) (nat_le (by_size.address_after (next_address p.types s) (object_size p.types x)) 4026531840) room) in
        let low = at_most (by_size.address_after (next_address p.types s) (object_size p.types x)) 4026531840 (and_right (nat_le (heap_bytes p.types s + object_size p.types x) 4194304) (nat_le (by_size.address_after (next_address p.types s) (object_size p.types x)) 4026531840) room) in
        let more = heap_more p.types s.objects x in
        let next : next_address p.types after ≡ by_size.address_after (next_address p.types s) (object_size p.types x) = ap by_size.next_address (sizes_more p.types s.objects x) ∙ next_append 4096 (map (object_size p.types) s.objects) (object_size p.types x ∷ []) in
        record {
          objects = objects_more p x (heap_object fits) p.globals s.objects ok.objects;
          typed = all_typed s.objects ok.typed;
          heap = omega (arith, more, fits);
          last = omega (arith, next, low);
        }
      where
        heap_object : heap_bytes p.types s + object_size p.types x ≤ 4194304 → is_heap_object p x ≡ true
        heap_object fits =
            let kind : is_of_kind p x (Heap site) ≡ true = ap (λ o. option_map_or (λ (d : Site). nat_eq d.elem elem) o false) at ∙ equal d.elem elem is_elem in
            and_in (is_of_kind p x (Heap site)) _ kind (and_in (nat_lt 0 (suc n)) _ (some n) (below (heap_bytes p.types s) (object_size p.types x) fits))
          where
            some : (n : ℕ) → nat_lt 0 (suc n) ≡ true
            some n = grind (arith, nat_tests)

            below : (h k : ℕ) → h + k ≤ 4194304 → nat_le k 4194304 ≡ true
            below h k le = let low : k ≤ 4194304 = omega (arith, le) in grind (arith, nat_tests, low)

        all_typed : (os : List Object) → list_all (is_well_typed p s) os ≡ true → list_all (is_well_typed p after) (os ++ x ∷ []) ≡ true
        all_typed [] h =
            let long : length vs ≡ suc n = length-replicate {A = Value} (suc n) (zero_of p.types elem) in
            and_in (is_well_typed p after x) true (and_in (nat_eq (length vs) (suc n)) (list_all (has_type p after elem) vs) (equal (length vs) (suc n) long) (zeros_typed p built after elem (suc n) known)) refl
        all_typed (y ∷ os) h =
            and_in (is_well_typed p after y) _ (well_typed_kept p s after (extends_more s.objects (x ∷ [])) y (and_left (is_well_typed p s y) (list_all (is_well_typed p s) os) h)) (all_typed os (and_right (is_well_typed p s y) (list_all (is_well_typed p s) os) h))

  -- an allocation at a site of that element type
  pub allocated_keeps : (n : ℤ) → IsStore p (allocated p.types s site elem n).1
  allocated_keeps (negsuc n) = ok
  allocated_keeps (pos zero) = ok
  allocated_keeps (pos (suc n)) = by (has_room p.types s (x n)) refl
    where
      by : (b : Bool) → has_room p.types s (x n) ≡ b → IsStore p (cond {A = Value × Store} b (Pointer (length s.objects) 0, append_object s (x n)) (Null, s)).1
      by true e = grown n e
      by false e = ok
