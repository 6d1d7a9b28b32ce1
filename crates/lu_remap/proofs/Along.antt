-- The new place at the end of a path, step by step.
use Rattle.std.proofs.Common.{◌≡◌, ◌∙◌, refl, sym, ap, ℕ, ◌+◌, ◌*◌, Bool, true, false, ◌&&◌, nat_lt, if◌then◌else◌, List, [], ◌∷◌, Option, Some, None, arith}
use Rattle.std.specs.Option.{option_map}
use Rattle.lu_spec.specs.Then.{then_option}
use Rattle.c_types.specs.declared.path.Place.{Place}
use Rattle.c_types.specs.declared.path.Step.{Step}
use Rattle.c_types.specs.declared.path.Step.TheVariants.{Index}
use Rattle.c_types.specs.Place.{place, shifted, step_place, path_place}
use Rattle.c_types.proofs.PlaceLaws.{first-of}
use Rattle.lu_image_store.specs.Versions.{Versions, Extent, old_types, new_types, old_type, new_type, new_size}
use Rattle.lu_image_store.specs.Paths.{step_image, path_image, share_paths, new_place}
use Rattle.lu_image_store.specs.Paths as Paths
use Rattle.lu_remap.specs.Descent.{elements, next_place, element_at, object_elements}

shift-twice : (a b : ℕ) (q : Option Place) → then_option q (shifted (a + b)) ≡ then_option (then_option q (shifted b)) (shifted a)
shift-twice a b None = refl
shift-twice a b (Some q) = let e : a + b + q.offset ≡ a + (b + q.offset) = omega arith in ap (λ x. Some (place q.ty x)) e

module _ (m : Versions) where
  -- from an old type and a new place
  abbrev pub along : ℕ → List Step → Option Place → Option Place
  along t [] to = to
  along t (s ∷ path) to =
      then_option (step_place (old_types m) (old_type m t) s) (λ from. along from.ty path (next_place m (old_type m t) s to))

  abbrev pub path_to : ℕ → ℕ → List Step → Option Place
  path_to t u path = then_option (path_image m t u path) (path_place (new_types m) u)

  pub along-none : (t : ℕ) (path : List Step) → along t path None ≡ None
  along-none t [] = refl
  along-none t (s ∷ path) = by (step_place (old_types m) (old_type m t) s) (λ u. along-none u path)
    where
      by : (q : Option Place) → ((u : ℕ) → along u path None ≡ None) → then_option q (λ from. along from.ty path None) ≡ None
      by None below = refl
      by (Some q) below = below q.ty

  pub along-is : (t u base : ℕ) (path : List Step) (x : Place) → path_place (old_types m) t path ≡ Some x → along t path (Some (place u base)) ≡ then_option (path_to t u path) (shifted base)
  along-is t u base [] x e = let z : base ≡ base + 0 = omega arith in ap (λ x. Some (place u x)) z
  along-is t u base (s ∷ path) x e =
      let f = first-of (old_types m) t s path x e in
      ap (λ o. then_option o (λ from. along from.ty path (next_place m (old_type m t) s (Some (place u base))))) f.step
      ∙ (by f.part.ty (step_image m (old_type m t) (new_type m u) s) (λ v at. along-is f.part.ty v at path f.last f.rest)
      ∙ sym (ap (λ o. then_option (then_option (then_option o (λ from. then_option (step_image m (old_type m t) (new_type m u) s) (λ next. then_option (step_place (new_types m) (new_type m u) next) (λ to. option_map (λ rest. next ∷ rest) (path_image m from.ty to.ty path))))) (path_place (new_types m) u)) (shifted base)) f.step))
    where
      by_rest : (next : Step) (to : Place) → step_place (new_types m) (new_type m u) next ≡ Some to → (z : Option (List Step)) → then_option (then_option z (path_place (new_types m) to.ty)) (shifted (base + to.offset)) ≡ then_option (then_option (option_map (λ rest. next ∷ rest) z) (path_place (new_types m) u)) (shifted base)
      by_rest next to r None = refl
      by_rest next to r (Some rest) =
          shift-twice base to.offset (path_place (new_types m) to.ty rest) ∙ sym (ap (λ o. then_option (then_option o (λ to. then_option (path_place (new_types m) to.ty rest) (shifted to.offset))) (shifted base)) r)

      by_part : (v : ℕ) (next : Step) → ((w at : ℕ) → along v path (Some (place w at)) ≡ then_option (path_to v w path) (shifted at)) → (r : Option Place) → step_place (new_types m) (new_type m u) next ≡ r → along v path (then_option r (shifted base)) ≡ then_option (then_option (then_option r (λ to. option_map (λ rest. next ∷ rest) (path_image m v to.ty path))) (path_place (new_types m) u)) (shifted base)
      by_part v next below None r = along-none v path
      by_part v next below (Some to) r =
          below to.ty (base + to.offset) ∙ by_rest next to r (path_image m v to.ty path)

      by : (v : ℕ) (q : Option Step) → ((w at : ℕ) → along v path (Some (place w at)) ≡ then_option (path_to v w path) (shifted at)) → along v path (then_option (then_option q (step_place (new_types m) (new_type m u))) (shifted base)) ≡ then_option (then_option (then_option q (λ next. then_option (step_place (new_types m) (new_type m u) next) (λ to. option_map (λ rest. next ∷ rest) (path_image m v to.ty path)))) (path_place (new_types m) u)) (shifted base)
      by v None below = along-none v path
      by v (Some next) below =
          by_part v next below (step_place (new_types m) (new_type m u) next) refl

  -- in an object: a path that begins with an index
  pub object-along : (e d : Extent) (i : ℕ) (path : List Step) (x : Place) → nat_lt i e.count ≡ true → path_place (old_types m) e.elem path ≡ Some x → Paths.place_image m e d (Index i ∷ path) ≡ along e.elem path (element_at m (object_elements e d) i)
  object-along e d i path x lt valid =
      ap (λ b. then_option (if share_paths e d && (b && nat_lt i d.count) then option_map (λ rest. Index i ∷ rest) (path_image m e.elem d.elem path) else None) (new_place m d)) lt ∙ by (share_paths e d)
    where
      by_rest : nat_lt i d.count ≡ true → (z : Option (List Step)) → then_option (option_map (λ rest. Index i ∷ rest) z) (new_place m d) ≡ then_option (then_option z (path_place (new_types m) d.elem)) (shifted (i * new_size m d.elem))
      by_rest within None = refl
      by_rest within (Some rest) =
          ap (λ b. if b then then_option (path_place (new_types m) d.elem rest) (shifted (i * new_size m d.elem)) else None) within

      by_within : (within : Bool) → nat_lt i d.count ≡ within → then_option (if within then option_map (λ rest. Index i ∷ rest) (path_image m e.elem d.elem path) else None) (new_place m d) ≡ along e.elem path (if within then Some (place d.elem (0 + i * new_size m d.elem)) else None)
      by_within false is = sym (along-none e.elem path)
      by_within true is =
          let start : i * new_size m d.elem ≡ 0 + i * new_size m d.elem = omega arith in
          by_rest is (path_image m e.elem d.elem path) ∙ (ap (λ n. then_option (path_to e.elem d.elem path) (shifted n)) start ∙ sym (along-is e.elem d.elem (0 + i * new_size m d.elem) path x valid))

      by : (shared : Bool) → then_option (if shared && (true && nat_lt i d.count) then option_map (λ rest. Index i ∷ rest) (path_image m e.elem d.elem path) else None) (new_place m d) ≡ along e.elem path (then_option (if shared then Some (elements d.elem 0 d.count) else None) (λ r. if nat_lt i r.count then Some (place r.ty (r.offset + i * new_size m r.ty)) else None))
      by false = sym (along-none e.elem path)
      by true = by_within (nat_lt i d.count) refl
