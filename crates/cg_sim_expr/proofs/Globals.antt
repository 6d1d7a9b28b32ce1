-- A global stands where the compiler puts it.
use Rattle.std.proofs.Common.{length, ◌≡◌, ◌∙◌, refl, ap, sym, subst, Bool, true, false, inl, inr, cond, ℕ, zero, suc, ◌+◌, ◌*◌, List, [], ◌∷◌, Option, Some, None, arith, nat_eq, nat_lt}
use Rattle.std.specs.Prelude.{slice_get, map}
use Rattle.std.specs.Option.{option_map_or}
use Rattle.std.proofs.lemmas.Bool.Decides.{nat_tests}
use Rattle.lu_spec.specs.Then.{then_option}
use Rattle.c_types.specs.declared.parts.Parts.{Parts}
use Rattle.c_types.specs.declared.parts.Ty.{Ty}
use Rattle.c_types.specs.declared.parts.Ty.TheVariants as T
use Rattle.c_types.specs.declared.path.Step.TheVariants.{Index}
use Rattle.c_types.specs.Numbering.{is_array}
use Rattle.c_types.specs.Layout.{size_of}
use Rattle.c_types.specs.Place.{place}
use Rattle.c_types.specs.Refusal.{IsBuilt}
use Rattle.src_tree.specs.declared.value.Value.{Value}
use Rattle.src_tree.specs.declared.value.Object.{Object}
use Rattle.src_tree.specs.declared.value.Store.{Store}
use Rattle.src_tree.specs.declared.program.Global as Text
use Rattle.src_tree.specs.declared.program.Program.{Program}
use Rattle.src_meaning.specs.Initial.{initial_object, initial_store, global_elem, global_count, elem_in, count_in}
use Rattle.lu_base.specs.declared.limits.TheConstants.{FIRST_ADDRESS}
use Rattle.lu_base.specs.Addresses.{address_after, addresses_from}
use Rattle.src_meaning.specs.Objects.{Place, place as place_at, object_size, is_live, addresses, offset_in}
use Rattle.src_meaning.specs.Expression.{global_place}
use Rattle.src_meaning.specs.Store.{IsStore, are_objects, is_global_object}
use Rattle.src_meaning.proofs.LayoutLengths.{and_left, and_right}
use Rattle.cg_state.specs.Represents.{address_in}
use Rattle.cg_state.proofs.Typed.{Typed}
use Rattle.cg_state.proofs.Memory.{stands, address_is}
use Rattle.cg_state.proofs.Places.{IsPart, place_word, place_word_is, elements_typed, item_part}
use Rattle.cg_sim_expr.proofs.Loads.{size_is}
use Rattle.cg_sim_expr.proofs.Steps.{IsPlaced, IsWhole}

-- where the globals stand, by their types
abbrev pub starts_from : Parts → ℕ → List Text.Global → List ℕ
starts_from p a gs = addresses_from a (map (λ (g : Text.Global). size_of p g.ty) gs)

module _ (p : Program) (built : IsBuilt p.types) (s : Store) (ok : IsStore p s) where
  -- a global's object
  pub record Held (d : Text.Global) (x : Object) : Type 0 where
    pub live : is_live x ≡ true
    pub elem : x.elem ≡ global_elem p.types d.ty
    pub count : x.count ≡ global_count p.types d.ty

  held : (d : Text.Global) (x : Object) → is_global_object p d x ≡ true → Held d x
  held d x h =
      let rest = and_right _ _ h in
      let more = and_right (is_live x) _ rest in
      record { live = and_left (is_live x) _ rest; elem = equal x.elem (global_elem p.types d.ty) (and_left (nat_eq x.elem (global_elem p.types d.ty)) (nat_eq x.count (global_count p.types d.ty)) more); count = equal x.count (global_count p.types d.ty) (and_right (nat_eq x.elem (global_elem p.types d.ty)) (nat_eq x.count (global_count p.types d.ty)) more) }
    where
      equal : (a b : ℕ) → nat_eq a b ≡ true → a ≡ b
      equal a b h = grind (arith, nat_tests, h)

  pub size_same : (d : Text.Global) (x : Object) → Held d x → object_size p.types x ≡ size_of p.types d.ty
  size_same d x h =
      ap (λ n. n * size_of p.types x.elem) h.count ∙ (ap (λ t. global_count p.types d.ty * size_of p.types t) h.elem ∙ by (slice_get p.types.types d.ty) refl)
    where
      one : (n : ℕ) → 1 * n ≡ n
      one n = omega arith

      times : (a b : ℕ) → a * b ≡ b * a
      times a b = grind arith

      by : (o : Option Ty) → slice_get p.types.types d.ty ≡ o → count_in o * size_of p.types (elem_in d.ty o) ≡ size_of p.types d.ty
      by (Some (T.Array u n)) e = times n (size_of p.types u) ∙ sym (size_is p built s ok d.ty (T.Array u n) (size_of p.types u * n) e refl)
      by (Some (T.Int kind)) e = one (size_of p.types d.ty)
      by (Some (T.Pointer u)) e = one (size_of p.types d.ty)
      by (Some T.VoidPointer) e = one (size_of p.types d.ty)
      by (Some (T.Function u)) e = one (size_of p.types d.ty)
      by (Some (T.Struct u)) e = one (size_of p.types d.ty)
      by (Some (T.Union u)) e = one (size_of p.types d.ty)
      by None e = one (size_of p.types d.ty)

  record Stands (d : Text.Global) (g a : ℕ) (gs : List Text.Global) (xs : List Object) : Type 0 where
    object : Object
    at : slice_get xs g ≡ Some object
    holds : Held d object
    start : slice_get (starts_from p.types a gs) g ≡ slice_get (addresses_from a (map (object_size p.types) xs)) g

  global_stands : (d : Text.Global) (g a : ℕ) (gs : List Text.Global) (xs : List Object) → are_objects p gs xs ≡ true → slice_get gs g ≡ Some d → Stands d g a gs xs
  global_stands d g a [] xs h e = absurd (cc)
  global_stands d g a (y ∷ gs) [] h e = absurd (cc)
  global_stands d zero a (y ∷ gs) (x ∷ xs) h e =
      let is_d : y ≡ d = cc in
      record { object = x; at = refl; holds = held d x (subst (λ y. is_global_object p y x ≡ true) is_d (and_left (is_global_object p y x) (are_objects p gs xs) h)); start = refl }
  global_stands d (suc g) a (y ∷ gs) (x ∷ xs) h e =
      let here = held y x (and_left (is_global_object p y x) (are_objects p gs xs) h) in
      let next : address_after a (size_of p.types y.ty) ≡ address_after a (object_size p.types x) = ap (λ n. address_after a n) (sym (size_same y x here)) in
      let rest = global_stands d g (address_after a (object_size p.types x)) gs xs (and_right (is_global_object p y x) (are_objects p gs xs) h) e in
      record { object = rest.object; at = rest.at; holds = rest.holds; start = ap (λ b. slice_get (starts_from p.types b gs) g) next ∙ rest.start }

  elements_of : (x : Object) → is_live x ≡ true → (vs : List Value) × (x.elements ≡ Some vs)
  elements_of x h = by x.elements refl h
    where
      by : (l : Option (List Value)) → x.elements ≡ l → elim l as (λ _. Bool) [ None ↦ false | Some elements ↦ true ] ≡ true → (vs : List Value) × (x.elements ≡ Some vs)
      by None e h = absurd (cc)
      by (Some vs) e h = (vs, e)

  abbrev PlacedAt : ℕ → ℕ → Place → Type 0
  PlacedAt g u q = IsPlaced p built s ok u q × (address_in (starts_from p.types FIRST_ADDRESS p.globals) g ≡ place_word p built s ok q)

  placed : (g u : ℕ) (d : Text.Global) → slice_get p.globals g ≡ Some d → d.ty ≡ u → PlacedAt g u (global_place p.types u g)
  placed g u d e same = by (slice_get p.types.types u) refl
    where
      st : Stands d g FIRST_ADDRESS p.globals s.objects
      st = global_stands d g FIRST_ADDRESS p.globals s.objects ok.objects e

      x : Object
      x = st.object

      vs : (vs : List Value) × (x.elements ≡ Some vs)
      vs = elements_of x st.holds.live

      start_is : address_in (starts_from p.types FIRST_ADDRESS p.globals) g ≡ address_in (addresses p.types s) g
      start_is = ap (λ o. option_map_or (λ n. n) o 0) st.start

      elem_is : x.elem ≡ elem_in u (slice_get p.types.types u)
      elem_is = subst (λ t. x.elem ≡ elem_in t (slice_get p.types.types t)) same st.holds.elem

      count_is : x.count ≡ count_in (slice_get p.types.types u)
      count_is = subst (λ t. x.count ≡ count_in (slice_get p.types.types t)) same st.holds.count

      single : x.elem ≡ u → x.count ≡ 1 → PlacedAt g u (place_at g (Index 0 ∷ []))
      single elem count =
          let all = elements_typed p built s ok g x vs.0 st.at vs.1 in
          let long = all.0 in
          let item = item_part p built s ok x.elem vs.0 0 all.1 (omega (arith, long, count)) in
          let test : nat_lt 0 x.count ≡ true = ap (nat_lt 0) count in
          let none : 0 * size_of p.types x.elem + 0 ≡ 0 = omega arith in
          let part : IsPart p built s ok u (place_at g (Index 0 ∷ [])) = record {
            object = x;
            elements = vs.0;
            at = st.at;
            live = vs.1;
            offset = 0;
            leads = ap (λ b. cond b (Some (place x.elem (0 * size_of p.types x.elem + 0))) None) test ∙ (ap (λ n. Some (place x.elem n)) none ∙ ap (λ t. Some (place t 0)) elem);
            value = item.0;
            is = ap (λ o. then_option o (λ v. Some v)) item.1;
            is_typed = subst (λ t. Typed p built s t item.0) elem item.2;
          } in
          let w : place_word p built s ok (place_at g (Index 0 ∷ [])) ≡ (stands (length p.sites) p.types FIRST_ADDRESS s.objects g x st.at).address + 0 = place_word_is p built s ok u (place_at g (Index 0 ∷ [])) part in
          let a = address_is (length p.sites) p.types s g x st.at in
          (inl part, omega (arith, start_is, w, a))

      by : (o : Option Ty) → slice_get p.types.types u ≡ o → PlacedAt g u (cond (is_array o) (place_at g []) (place_at g (Index 0 ∷ [])))
      by (Some (T.Array t n)) q =
          let elem : x.elem ≡ t = elem_is ∙ ap (elem_in u) q in
          let count : x.count ≡ n = count_is ∙ ap count_in q in
          let whole : IsWhole p built s ok u (place_at g []) = record { object = x; elements = vs.0; at = st.at; live = vs.1; no_step = refl; array = q ∙ (ap (λ t. Some (T.Array t n)) (sym elem) ∙ ap (λ n. Some (T.Array x.elem n)) (sym count)) } in
          let none : option_map_or (λ x. option_map_or (λ k. k) (offset_in p.types x []) 0) (slice_get s.objects g) 0 ≡ 0 = ap (λ o. option_map_or (λ x. option_map_or (λ k. k) (offset_in p.types x []) 0) o 0) st.at in
          (inr whole, omega (arith, start_is, none))
      by (Some (T.Int kind)) q = single (elem_is ∙ ap (elem_in u) q) (count_is ∙ ap count_in q)
      by (Some (T.Pointer t)) q = single (elem_is ∙ ap (elem_in u) q) (count_is ∙ ap count_in q)
      by (Some T.VoidPointer) q = single (elem_is ∙ ap (elem_in u) q) (count_is ∙ ap count_in q)
      by (Some (T.Function t)) q = single (elem_is ∙ ap (elem_in u) q) (count_is ∙ ap count_in q)
      by (Some (T.Struct t)) q = single (elem_is ∙ ap (elem_in u) q) (count_is ∙ ap count_in q)
      by (Some (T.Union t)) q = single (elem_is ∙ ap (elem_in u) q) (count_is ∙ ap count_in q)
      by None q = single (elem_is ∙ ap (elem_in u) q) (count_is ∙ ap count_in q)

  pub global_placed : (g u : ℕ) → option_map_or (λ (d : Text.Global). nat_eq d.ty u) (slice_get p.globals g) false ≡ true → PlacedAt g u (global_place p.types u g)
  global_placed g u h = by (slice_get p.globals g) refl h
    where
      by : (o : Option Text.Global) → slice_get p.globals g ≡ o → option_map_or (λ (d : Text.Global). nat_eq d.ty u) o false ≡ true → PlacedAt g u (global_place p.types u g)
      by None e h = absurd (cc)
      by (Some d) e h = let same : d.ty ≡ u = grind (arith, nat_tests, h) in placed g u d e same

  initial_sizes : (gs : List Text.Global) → map (object_size p.types) (map (initial_object p) gs) ≡ map (λ (g : Text.Global). size_of p.types g.ty) gs
  initial_sizes [] = refl
  initial_sizes (g ∷ gs) =
      let one = size_same g (initial_object p g) (record { live = refl; elem = refl; count = refl }) in
      ap (λ n. n ∷ map (object_size p.types) (map (initial_object p) gs)) one ∙ ap (λ ns. size_of p.types g.ty ∷ ns) (initial_sizes gs)

  -- the objects of the initial store stand where the globals do
  pub initial_starts : addresses p.types (initial_store p) ≡ starts_from p.types FIRST_ADDRESS p.globals
  initial_starts = ap (addresses_from FIRST_ADDRESS) (initial_sizes p.globals)
