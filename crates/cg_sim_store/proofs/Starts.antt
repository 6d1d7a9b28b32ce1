-- The globals with values of their types are the objects of a store of the program.
use Rattle.std.proofs.Common.{◌≡◌, ◌∙◌, refl, ap, sym, Bool, true, ◌&&◌, ℕ, suc, ◌+◌, ◌-◌, ◌*◌, ◌≤◌, List, [], ◌∷◌, map, length, Option, Some, None, arith, nat_eq, nat_le}
use Rattle.std.specs.Prelude.{slice_get}
use Rattle.std.specs.List.{list_all}
use Rattle.std.proofs.lemmas.Bool.Decides.{nat_tests}
use Rattle.lu_base.specs.Addresses as by_size
use Rattle.lu_base.proofs.AddressLemmas.{after_low}
use Rattle.c_types.specs.declared.parts.Parts.{Parts}
use Rattle.c_types.specs.declared.parts.Ty.{Ty}
use Rattle.c_types.specs.declared.parts.Ty.TheVariants as T
use Rattle.c_types.specs.Layout.{size_of}
use Rattle.c_types.specs.Refusal.{IsBuilt}
use Rattle.src_tree.specs.declared.value.Value.{Value, out-Value}
use Rattle.src_tree.specs.declared.value.Value.TheOpen as V
use Rattle.src_tree.specs.declared.value.Object.{Object}
use Rattle.src_tree.specs.declared.value.Store.{Store}
use Rattle.src_tree.specs.declared.program.Global as Text
use Rattle.src_tree.specs.declared.program.Program.{Program}
use Rattle.src_meaning.specs.Paths.{Layer}
use Rattle.src_meaning.specs.Initial.{elem_in, count_in, global_elem, global_count, items_in, elements_in, global_object}
use Rattle.src_meaning.specs.Objects.{object_size, heap_sizes}
use Rattle.src_meaning.specs.Store.{IsStore, has_type, layer_has_type, is_well_typed, is_global_object, are_objects}
use Rattle.src_meaning.specs.Valid.{IsValid, are_within}
use Rattle.src_meaning.proofs.LayoutLengths.{and_left, and_right, has_type-is}
use Rattle.src_laws.proofs.Extended.{and_in}
use Rattle.src_laws.proofs.Sizes.{size-array}
use Rattle.cg_sim_store.proofs.Rules.{few_globals, within_size}

itself : (n : ℕ) → nat_eq n n ≡ true
itself n = grind (arith, nat_tests)

-- the size of a global's object
size_global : (p : Parts) → IsBuilt p → (t : ℕ) → global_count p t * size_of p (global_elem p t) ≡ size_of p t
size_global p built t = by (slice_get p.types t) refl
  where
    by : (o : Option Ty) → slice_get p.types t ≡ o → count_in o * size_of p (elem_in t o) ≡ size_of p t
    by (Some (T.Array u n)) e =
        let size = size-array p built t u n e in
        let turned : n * size_of p u ≡ size_of p u * n = grind arith in
        turned ∙ sym size
    by None e = omega arith
    by (Some (T.Int k)) e = omega arith
    by (Some (T.Pointer u)) e = omega arith
    by (Some T.VoidPointer) e = omega arith
    by (Some (T.Function g)) e = omega arith
    by (Some (T.Struct n)) e = omega arith
    by (Some (T.Union n)) e = omega arith

module _ (p : Program) (valid : IsValid p) (f : Text.Global → Value) where
  -- a global as an object
  abbrev pub object_of : Text.Global → Object
  object_of g = global_object p.types g.ty (f g)

  abbrev pub store_of : Store
  store_of = record { objects = map object_of p.globals }

  abbrev AreTyped : Store → List Text.Global → Type 0
  AreTyped s gs = (k : ℕ) (g : Text.Global) → slice_get gs k ≡ Some g → has_type p s g.ty (f g) ≡ true

  are_globals : (gs : List Text.Global) → are_objects p gs (map object_of gs) ≡ true
  are_globals [] = refl
  are_globals (g ∷ gs) =
      let elem = global_elem p.types g.ty in
      let count = global_count p.types g.ty in
      and_in (is_global_object p g (object_of g)) _ (and_in (nat_eq elem elem) (nat_eq count count) (itself elem) (itself count)) (are_globals gs)

  -- the elements of a global have their type
  elements_typed : (s : Store) (t : ℕ) (v : Value) → has_type p s t v ≡ true → (o : Option Ty) → slice_get p.types.types t ≡ o → nat_eq (length (elements_in o v)) (count_in o) && list_all (has_type p s (elem_in t o)) (elements_in o v) ≡ true
  elements_typed s t v h o e = by o e
    where
      alone : (b : Bool) → b ≡ true → b && true ≡ true
      alone b h = cc

      of_array : (u n : ℕ) (l : Layer) → layer_has_type p s (has_type p s) (T.Array u n) l ≡ true → nat_eq (length (items_in l)) n && list_all (has_type p s u) (items_in l) ≡ true
      of_array u n (V.Array items) h = h
      of_array u n (V.Int z) h = absurd (cc)
      of_array u n V.Null h = absurd (cc)
      of_array u n (V.Pointer o k) h = absurd (cc)
      of_array u n (V.Function g) h = absurd (cc)
      of_array u n (V.Struct vs) h = absurd (cc)
      of_array u n (V.Union k body) h = absurd (cc)

      by : (o : Option Ty) → slice_get p.types.types t ≡ o → nat_eq (length (elements_in o v)) (count_in o) && list_all (has_type p s (elem_in t o)) (elements_in o v) ≡ true
      by (Some (T.Array u n)) e = of_array u n (out-Value v) (sym (has_type-is p s valid.built [] t (T.Array u n) e v) ∙ h)
      by None e = alone (has_type p s t v) h
      by (Some (T.Int k)) e = alone (has_type p s t v) h
      by (Some (T.Pointer u)) e = alone (has_type p s t v) h
      by (Some T.VoidPointer) e = alone (has_type p s t v) h
      by (Some (T.Function g)) e = alone (has_type p s t v) h
      by (Some (T.Struct n)) e = alone (has_type p s t v) h
      by (Some (T.Union n)) e = alone (has_type p s t v) h

  well_typed : (s : Store) (gs : List Text.Global) → AreTyped s gs → list_all (is_well_typed p s) (map object_of gs) ≡ true
  well_typed s [] all = refl
  well_typed s (g ∷ gs) all =
      and_in (is_well_typed p s (object_of g)) _ (elements_typed s g.ty (f g) (all 0 g refl) (slice_get p.types.types g.ty) refl) (well_typed s gs (λ k g e. all (suc k) g e))

  -- globals take nothing of the heap
  no_heap : (gs : List Text.Global) → heap_sizes p.types (map object_of gs) ≡ 0
  no_heap [] = refl
  no_heap (g ∷ gs) = ap (λ n. 0 + n) (no_heap gs)

  last_address : (gs : List Text.Global) (room first : ℕ) → are_within p room gs ≡ true → by_size.next_from first (map (object_size p.types) (map object_of gs)) ≤ first + room + 31 * length gs
  last_address [] room first h = omega arith
  last_address (g ∷ gs) room first h =
      let size = size_global p.types valid.built g.ty in
      let fit = and_left (nat_le (size_of p.types g.ty) room) (are_within p (room - size_of p.types g.ty) gs) h in
      let low : size_of p.types g.ty ≤ room = grind (arith, nat_tests, fit) in
      let rest = last_address gs (room - size_of p.types g.ty) (by_size.address_after first (object_size p.types (object_of g))) (and_right (nat_le (size_of p.types g.ty) room) (are_within p (room - size_of p.types g.ty) gs) h) in
      let after = after_low first (object_size p.types (object_of g)) in
      omega (arith, size, low, rest, after)

  pub globals_store : AreTyped store_of p.globals → IsStore p store_of
  globals_store all =
      let none = no_heap p.globals in
      let few = few_globals p valid in
      let last = last_address p.globals 1048576 4096 (within_size p valid) in
      record {
        objects = are_globals p.globals;
        typed = well_typed store_of p.globals all;
        heap = omega (arith, none);
        last = omega (arith, few, last);
      }
