-- The image of an object's elements is of the new object's element type and count.
use Rattle.std.proofs.Common.{◌≡◌, ◌∙◌, refl, sym, ap, subst, ℕ, ◌<◌, Bool, true, nat_eq, if◌then◌else◌, List, [], ◌∷◌, replicate, take, length, Option, Some, Ok, slice_get, arith}
use Rattle.std.specs.Prelude.{flat_map}
use Rattle.std.specs.List.{list_all}
use Rattle.std.proofs.lemmas.Bool.Decides.{nat_tests}
use Rattle.std.proofs.lemmas.List.{length-replicate}
use Rattle.std.proofs.lemmas.Option.{slice_get_within}
use Rattle.c_types.specs.declared.parts.Ty.{Ty}
use Rattle.c_types.specs.declared.parts.Ty.TheVariants as T
use Rattle.c_types.specs.declared.path.Step.TheVariants.{Index}
use Rattle.c_types.specs.Numbering.{is_array}
use Rattle.c_types.specs.Refusal.{IsBuilt}
use Rattle.src_tree.specs.declared.value.Value.{Value, Array, out-Value}
use Rattle.src_tree.specs.declared.value.Value.TheVariants.{outs-Array}
use Rattle.src_tree.specs.declared.value.Value.TheOpen as V
use Rattle.src_tree.specs.declared.value.Store.{Store}
use Rattle.src_tree.specs.declared.program.Program.{Program}
use Rattle.src_meaning.specs.Paths.{Layer, zero_of}
use Rattle.src_meaning.specs.Initial.{elem_in, count_in, global_elem, global_count, items_in, elements_in, global_elements}
use Rattle.src_meaning.specs.Store.{has_type, layer_has_type}
use Rattle.src_meaning.proofs.LayoutLengths.{and_left, and_right, typed_within, has_type-is}
use Rattle.src_laws.proofs.ZeroValues.{zeros_typed}
use Rattle.lu_image.specs.declared.pairing.Pairing.{Pairing}
use Rattle.lu_image_store.specs.Versions.{Versions, extent, old_types, old_type, new_type}
use Rattle.lu_image_store.specs.Paths.{share_paths}
use Rattle.lu_image_store.specs.Faults.{Gives}
use Rattle.lu_image_store.specs.Pointers.{Context}
use Rattle.lu_image_store.specs.Values
use Rattle.lu_image_store.specs.Carried
use Rattle.lu_image_store.specs.Objects.{declared_value, in_declared, global_image, heap_image}
use Rattle.lu_image_laws.specs.Between.{between}
use Rattle.lu_image_laws.proofs.Members.{Each, each_left, and_in}
use Rattle.lu_image_laws.proofs.Pointed.{Lands}
use Rattle.lu_image_laws.proofs.Typed.{made_of, within_of, keeps, items_keep, image_at, carried_at}

-- a type of which there is a value is in the table
pub known_of : (p : Program) (s : Store) (t : ℕ) (v : Value) → has_type p s t v ≡ true → t < length p.types.types
known_of p s t v h =
    let ty = typed_within p s (length p.types.types) t v h in slice_get_within p.types.types t ty.0 ty.1

-- a global's elements are one value of its type
pub declared_typed : (p : Program) (s : Store) → IsBuilt p.types → (t : ℕ) (o : Option Ty) → slice_get p.types.types t ≡ o → (vs : List Value) → length vs ≡ count_in o → list_all (has_type p s (elem_in t o)) vs ≡ true → has_type p s t (declared_value o vs) ≡ true
declared_typed p s built t (Some (T.Array u n)) e vs long all =
    let test : nat_eq (length vs) n ≡ true = grind (arith, nat_tests, long) in
    has_type-is p s built [] t (T.Array u n) e (Array vs)
    ∙ (ap (λ l. layer_has_type p s (has_type p s) (T.Array u n) l) (outs-Array vs) ∙ and_in (nat_eq (length vs) n) (list_all (has_type p s u) vs) test all)
declared_typed p s built t _ e [] long all = absurd (cc)
declared_typed p s built t _ e (v ∷ []) long all = and_left (has_type p s t v) true all
declared_typed p s built t _ e (v ∷ x ∷ vs) long all = absurd (omega (arith, long))

-- and back
pub elements_typed : (p : Program) (s : Store) → IsBuilt p.types → (t : ℕ) (o : Option Ty) → slice_get p.types.types t ≡ o → (v : Value) → has_type p s t v ≡ true → (length (elements_in o v) ≡ count_in o) × (list_all (has_type p s (elem_in t o)) (elements_in o v) ≡ true)
elements_typed p s built t (Some (T.Array u n)) e v h = by (out-Value v) (sym (has_type-is p s built [] t (T.Array u n) e v) ∙ h)
  where
    by : (l : Layer) → layer_has_type p s (has_type p s) (T.Array u n) l ≡ true → (length (items_in l) ≡ n) × (list_all (has_type p s u) (items_in l) ≡ true)
    by (V.Array vs) h =
        let count = and_left (nat_eq (length vs) n) (list_all (has_type p s u) vs) h in
        (grind (arith, nat_tests, count), and_right (nat_eq (length vs) n) (list_all (has_type p s u) vs) h)
    by _ h = absurd (cc)
elements_typed p s built t _ e v h = (refl, and_in (has_type p s t v) true h refl)

undeclared : (o : Option Ty) (r : Gives Value) (w : Value) → in_declared o r ≡ Ok w → r ≡ Ok w
undeclared (Some (T.Array u n)) r w h = h
undeclared _ r w h = within_of (Index 0) r w h

module _ (old new : Program) (old_built : IsBuilt old.types) (new_built : IsBuilt new.types) (q : Pairing) (s next : Store) (number : ℕ → ℕ) where
  abbrev m : Versions
  m = between old new q

  abbrev c : Context
  c = record { versions = m; store = s; number = number }

  abbrev has : ℕ → Value → Bool
  has = has_type old s

  abbrev will_have : ℕ → Value → Bool
  will_have = has_type new next

  abbrev Good : ℕ → Type 0
  Good = Lands m s next number

  -- the elements of a heap object
  pub heap_keeps : (t u count : ℕ) → u < length new.types.types → (vs ws : List Value) → list_all (has t) vs ≡ true → Each Good (flat_map (Carried.carried_in m t true (new_type m u)) (take count vs)) → heap_image c t u count vs ≡ Ok ws → (length ws ≡ count) × (list_all (will_have u) ws ≡ true)
  heap_keeps t u count known [] ws typed all h =
      let bs = replicate count (zero_of new.types u) in
      let same : bs ≡ ws = cc in
      (ap length (sym same) ∙ length-replicate {A = Value} count (zero_of new.types u), subst (λ ws. list_all (will_have u) ws ≡ true) same (zeros_typed new new_built next u count known))
  heap_keeps t u count known (v ∷ vs) ws typed all h =
      let bs = replicate count (zero_of new.types u) in
      let long : length bs ≡ count = length-replicate {A = Value} count (zero_of new.types u) in
      let old_known = known_of old s t v (and_left (has t v) (list_all (has t) vs) typed) in
      let kept = items_keep old new old_built new_built q s next number Values.in_place t u (keeps old new old_built new_built q s next number t old_known) (Values.is_zero_value (old_types m) t) 0 (v ∷ vs) bs ws typed (zeros_typed new new_built next u count known) (subst (λ n. Each Good (flat_map (Carried.carried_in m t true (new_type m u)) (take n (v ∷ vs)))) (sym long) all) h in
      (kept.0 ∙ long, kept.1)

  -- what a global of types a and b carries
  abbrev global_carried : (t u : ℕ) → Option Ty → Option Ty → List Value → List ℕ
  global_carried t u a b vs =
      if share_paths (extent (elem_in t a) (count_in a) (is_array a)) (extent (elem_in u b) (count_in b) (is_array b)) then flat_map (Carried.carried_in m (elem_in t a) true (new_type m (elem_in u b))) (take (count_in b) vs) else []

  -- one value
  one_of : (f : Value → List ℕ) (g : List Value → Value) → ((v : Value) (vs : List Value) → g (v ∷ vs) ≡ v) → (vs : List Value) → length vs ≡ 1 → Each Good (flat_map f (take 1 vs)) → Each Good (f (g vs))
  one_of f g first [] long all = absurd (cc)
  one_of f g first (v ∷ []) long all = subst (λ v. Each Good (f v)) (sym (first v [])) (each_left Good (f v) [] all)
  one_of f g first (v ∷ x ∷ vs) long all = absurd (omega (arith, long))

  -- arrays to arrays, others to others
  value_carries : (t u : ℕ) (a : Ty) (b : Option Ty) → old_type m t ≡ Some a → (vs : List Value) → length vs ≡ count_in (Some a) → Values.corresponds_here m a b ≡ true → new_type m u ≡ b → Each Good (global_carried t u (Some a) b vs) → Each Good (Carried.carried_in m t true (new_type m u) (declared_value (Some a) vs))
  value_carries t u (T.Array y n) (Some (T.Array x l)) e vs long paired f all =
      subst (Each Good) (sym (carried_at old new old_built new_built q s next number t (T.Array y n) e true (new_type m u) (Array vs) ∙ (ap (λ o. Carried.carried_step m (Carried.carried_in m) (T.Array y n) true o (out-Value (Array vs))) f ∙ ap (Carried.carried_step m (Carried.carried_in m) (T.Array y n) true (Some (T.Array x l))) (outs-Array vs)))) all
  value_carries t u (T.Int j) (Some (T.Int k)) e vs long paired f all = one_of (Carried.carried_in m t true (new_type m u)) (declared_value (Some (T.Int j))) (λ v vs. refl) vs long all
  value_carries t u (T.Pointer j) (Some (T.Pointer k)) e vs long paired f all = one_of (Carried.carried_in m t true (new_type m u)) (declared_value (Some (T.Pointer j))) (λ v vs. refl) vs long all
  value_carries t u T.VoidPointer (Some T.VoidPointer) e vs long paired f all = one_of (Carried.carried_in m t true (new_type m u)) (declared_value (Some T.VoidPointer)) (λ v vs. refl) vs long all
  value_carries t u (T.Function j) (Some (T.Function k)) e vs long paired f all = one_of (Carried.carried_in m t true (new_type m u)) (declared_value (Some (T.Function j))) (λ v vs. refl) vs long all
  value_carries t u (T.Struct j) (Some (T.Struct k)) e vs long paired f all = one_of (Carried.carried_in m t true (new_type m u)) (declared_value (Some (T.Struct j))) (λ v vs. refl) vs long all
  value_carries t u (T.Union j) (Some (T.Union k)) e vs long paired f all = one_of (Carried.carried_in m t true (new_type m u)) (declared_value (Some (T.Union j))) (λ v vs. refl) vs long all
  value_carries t u _ _ e vs long paired f all = absurd (cc)

  -- a global's value
  pub global_keeps : (t u : ℕ) (vs bs ws : List Value) → length vs ≡ global_count old.types t → list_all (has (global_elem old.types t)) vs ≡ true → length bs ≡ global_count new.types u → list_all (will_have (global_elem new.types u)) bs ≡ true → Each Good (global_carried t u (old_type m t) (new_type m u) vs) → global_image c t u vs bs ≡ Ok ws → (length ws ≡ global_count new.types u) × (list_all (will_have (global_elem new.types u)) ws ≡ true)
  global_keeps t u vs bs ws long typed based_long based all h =
      let v = declared_value (old_type m t) vs in
      let b = declared_value (new_type m u) bs in
      let v_typed = declared_typed old s old_built t (old_type m t) refl vs long typed in
      let b_typed = declared_typed new next new_built u (new_type m u) refl bs based_long based in
      let w = made_of (global_elements new.types u) (in_declared (old_type m t) (Values.image_of c t Values.in_place u v b)) ws h in
      let image = undeclared (old_type m t) (Values.image_of c t Values.in_place u v b) w.0 w.1 in
      let ty = typed_within old s (length old.types.types) t v v_typed in
      let paired = image_at old new old_built new_built q s next number t ty.0 ty.1 Values.in_place u v b w.0 image in
      let is_a = ap (λ a. declared_value a vs) ty.1 in
      let all_a = subst (λ a. Each Good (global_carried t u a (new_type m u) vs)) ty.1 all in
      let all_v = subst (λ v. Each Good (Carried.carried_in m t true (new_type m u) v)) (sym is_a) (value_carries t u ty.0 (new_type m u) ty.1 vs (long ∙ ap count_in ty.1) paired.0 refl all_a) in
      let kept = keeps old new old_built new_built q s next number t (known_of old s t v v_typed) Values.in_place u v b w.0 v_typed b_typed all_v image in
      let parts = elements_typed new next new_built u (new_type m u) refl w.0 kept in
      (ap length (sym w.2) ∙ parts.0, subst (λ ws. list_all (will_have (global_elem new.types u)) ws ≡ true) w.2 parts.1)
