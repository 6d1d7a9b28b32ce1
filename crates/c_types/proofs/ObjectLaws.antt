-- Laws of the places of an object.
use Rattle.std.proofs.Common.{◌≡◌, ◌∙◌, sym, ap, subst, refl, ℕ, ◌<◌, ◌≤◌, ◌+◌, ◌-◌, ◌*◌, Bool, true, false, ◌⊎◌, inl, inr, nat_lt, if◌then◌else◌, List, [], ◌∷◌, length, Option, Some, None, arith}
use Rattle.std.proofs.lemmas.Bool.{cases_order}
use Rattle.std.proofs.lemmas.Bool.Decides.{nat_tests}
use Rattle.std.specs.Prelude.{MatchOption, MatchBool, is_some}
use Rattle.std.specs.List.{list_any}
use Rattle.std.specs.Option.{option_map}
use Rattle.lu_spec.specs.Then.{then_option}
use Rattle.lu_spec.proofs.ThenLemmas.{then_some}
use Rattle.c_types.specs.declared.parts.Parts.{Parts}
use Rattle.c_types.specs.declared.path.Step.{Step}
use Rattle.c_types.specs.declared.path.Step.TheVariants.{Index, Field, Member}
use Rattle.c_types.specs.declared.descent.Part.{Part}
use Rattle.c_types.specs.Layout.{IsMultiple, size_of, align_of}
use Rattle.c_types.specs.declared.path.Place.{Place}
use Rattle.c_types.specs.Place.{place, shifted, path_place, object_place, is_member, IsOutsideUnions, IsPlaceAt, HasPlaceAt, HasNoPlaceAt}
use Rattle.c_types.specs.Descent.{part_in_array, descend, find_place}
use Rattle.c_types.specs.Refusal.{IsBuilt}
use Rattle.c_types.proofs.Numbered.{pointer_aligned}
use Rattle.c_types.proofs.Alignment.{IsMultiple-greater, IsMultiple-times, IsMultiple-trans, IsMultiple-add}
use Rattle.c_types.proofs.ShapeLaws.{shape-sound}
use Rattle.c_types.proofs.PlaceLaws.{after, size-low}
use Rattle.c_types.proofs.PathLaws.{Apart, IsNested, path-within, path-known, path-depth, path-aligned, path-apart}
use Rattle.c_types.proofs.Settled.{depth-high, depth-low}
use Rattle.c_types.proofs.DescentLemmas.{array-find, FoundItem, array-sound, descend-find, descend-sound}

abbrev or_place : Option Place → Place
or_place None = place 0 0
or_place (Some q) = q

-- what a path of an object says
pub record Element (p : Parts) (elem count : ℕ) (path : List Step) (to : Place) : Type 0 where
  pub number : ℕ
  pub steps : List Step
  pub path_is : path ≡ Index number ∷ steps
  pub within : nat_lt number count ≡ true
  pub last : Place
  pub rest : path_place p elem steps ≡ Some last
  pub ty : last.ty ≡ to.ty
  pub sum : number * size_of p elem + last.offset ≡ to.offset

pub element-of : (p : Parts) (elem count : ℕ) (path : List Step) (to : Place) → object_place p elem count path ≡ Some to → Element p elem count path to
element-of p elem count [] to e = cc
element-of p elem count (Field k ∷ path) to e = cc
element-of p elem count (Member k ∷ path) to e = cc
element-of p elem count (Index i ∷ path) to e = by_test (nat_lt i count) refl e
  where
    by_test : (b : Bool) → nat_lt i count ≡ b → (if b then then_option (path_place p elem path) (shifted (i * size_of p elem)) else None) ≡ Some to → Element p elem count (Index i ∷ path) to
    by_test false h e = cc
    by_test true h e =
        let a = then_some (path_place p elem path) (shifted (i * size_of p elem)) to e in
        record {
          number = i;
          steps = path;
          path_is = refl;
          within = h;
          last = a.0;
          rest = a.1;
          ty = ap (λ o. (or_place o).ty) a.2;
          sum = ap (λ o. (or_place o).offset) a.2;
        }

module _ (p : Parts) (built : IsBuilt p) (elem count : ℕ) where
  -- a place lies inside its object
  pub object-within : (path : List Step) (to : Place) → object_place p elem count path ≡ Some to → to.offset + size_of p to.ty ≤ count * size_of p elem
  object-within path to e =
      let f = element-of p elem count path to e in
      let i = path-within p built elem f.steps f.last f.rest in
      let lt : f.number < count = (let h : nat_lt f.number count ≡ true = f.within in grind (arith, nat_tests)) in
      let m = after f.number count (size_of p elem) lt in
      omega (arith, i, m, f.sum, ap (size_of p) f.ty)

  pub object-known : (path : List Step) (to : Place) → elem < length p.types → object_place p elem count path ≡ Some to → to.ty < length p.types
  object-known path to k e =
      let f = element-of p elem count path to e in
      let i = path-known p built elem f.steps f.last k f.rest in omega (arith, i, f.ty)

  -- a place is aligned in its object
  pub object-aligned : (path : List Step) (to : Place) → object_place p elem count path ≡ Some to → IsMultiple to.offset (align_of p to.ty)
  object-aligned path to e =
      let f = element-of p elem count path to e in
      let i = path-aligned p built elem f.steps f.last f.rest in
      let divides = IsMultiple-greater (shape-sound p (pointer_aligned p built.numbered) f.last.ty).aligned (shape-sound p (pointer_aligned p built.numbered) elem).aligned i.lower in
      let whole = IsMultiple-trans (size_of p elem) (align_of p elem) (align_of p f.last.ty) (shape-sound p (pointer_aligned p built.numbered) elem).whole divides in
      let times = IsMultiple-times (size_of p elem) f.number (align_of p f.last.ty) whole in
      let turned : size_of p elem * f.number ≡ f.number * size_of p elem = omega arith in
      let P : ℕ → Type 0 = λ x. IsMultiple x (align_of p f.last.ty) in
      let both = IsMultiple-add (f.number * size_of p elem) f.last.offset (align_of p f.last.ty) (subst P turned times) i.offset in
      let Q : ℕ → Type 0 = λ t. IsMultiple (f.number * size_of p elem + f.last.offset) (align_of p t) in
      let R : ℕ → Type 0 = λ x. IsMultiple x (align_of p to.ty) in
      subst R f.sum (subst Q f.ty both)

  -- two places of one object, one of them outside unions, are apart, or one is in the other
  pub object-apart : (a b : List Step) (x y : Place) → IsOutsideUnions a → object_place p elem count a ≡ Some x → object_place p elem count b ≡ Some y → Apart p x y ⊎ IsNested a b
  object-apart a b x y m e f = by_order (element-of p elem count a x e) (element-of p elem count b y f)
    where
      by_order : Element p elem count a x → Element p elem count b y → Apart p x y ⊎ IsNested a b
      by_order one other = by_case (cases_order one.number other.number)
        where
          size : ℕ
          size = size_of p elem

          inner : IsOutsideUnions one.steps
          inner = ap (list_any is_member) (sym one.path_is) ∙ m

          back : IsNested (Index one.number ∷ one.steps) (Index one.number ∷ other.steps) → one.number ≡ other.number → IsNested a b
          back h same =
              let P : List Step → Type 0 = λ l. IsNested l b in
              let Q : List Step → Type 0 = λ l. IsNested (Index one.number ∷ one.steps) l in
              subst P (sym one.path_is) (subst Q (ap (λ i. Index i ∷ other.steps) same ∙ sym other.path_is) h)

          by_rest : one.number ≡ other.number → Apart p one.last other.last ⊎ IsNested one.steps other.steps → Apart p x y ⊎ IsNested a b
          by_rest same (inl (inl h)) = inl (inl (omega (arith, h, one.sum, other.sum, ap (λ i. i * size_of p elem) same, ap (size_of p) one.ty)))
          by_rest same (inl (inr h)) = inl (inr (omega (arith, h, one.sum, other.sum, ap (λ i. i * size_of p elem) same, ap (size_of p) other.ty)))
          by_rest same (inr (inl (rest, h))) = inr (back (inl (rest, ap (λ l. Index one.number ∷ l) h)) same)
          by_rest same (inr (inr (rest, h))) = inr (back (inr (rest, ap (λ l. Index one.number ∷ l) h)) same)

          by_case : (one.number ≡ other.number) ⊎ ((one.number < other.number) ⊎ (other.number < one.number)) → Apart p x y ⊎ IsNested a b
          by_case (inl same) = by_rest same (path-apart p built elem one.steps other.steps one.last other.last inner one.rest other.rest)
          by_case (inr (inl h)) =
              let m = after one.number other.number (size_of p elem) h in
              let i = path-within p built elem one.steps one.last one.rest in
              inl (inl (omega (arith, m, i, one.sum, other.sum, ap (size_of p) one.ty)))
          by_case (inr (inr h)) =
              let m = after other.number one.number (size_of p elem) h in
              let i = path-within p built elem other.steps other.last other.rest in
              inl (inr (omega (arith, m, i, one.sum, other.sum, ap (size_of p) other.ty)))

  -- the place at an offset of a path gives that path back
  pub find_place-path : (offset want : ℕ) (path : List Step) → elem < length p.types → IsPlaceAt p elem count offset want path → find_place p elem count offset want ≡ Some path
  find_place-path offset want path k at =
      let f = element-of p elem count path (place want offset) at.leads in
      let within = path-within p built elem f.steps f.last f.rest in
      let known = path-known p built elem f.steps f.last k f.rest in
      let some = size-low p built f.last.ty known in
      let found = array-find elem (size_of p elem) count f.number offset f.within (size-low p built elem k) (omega (arith, f.sum)) (omega (arith, f.sum, within, some)) in
      let outside : IsOutsideUnions f.steps = ap (list_any is_member) (sym f.path_is) ∙ at.outside in
      let last : f.last.offset ≡ offset - f.number * size_of p elem = omega (arith, f.sum) in
      let rest : path_place p elem f.steps ≡ Some (place want (offset - f.number * size_of p elem)) = f.rest ∙ (ap (λ t. Some (place t f.last.offset)) f.ty ∙ ap (λ x. Some (place want x)) last) in
      let falls = path-depth p built elem f.steps f.last k f.rest in
      let high = depth-high p elem in
      let one = depth-low p elem f.last.ty k in
      let short : length f.steps < length p.types = omega (arith, falls, high, one) in
      let below = descend-find p built (length p.types) elem (offset - f.number * size_of p elem) want f.steps k outside rest short in
      rw (found, below) (ap Some (sym f.path_is))

  pub find_place-sound : (offset want : ℕ) (path : List Step) → elem < length p.types → find_place p elem count offset want ≡ Some path → IsPlaceAt p elem count offset want path
  find_place-sound offset want path k e =
      let found = then_some (part_in_array elem (size_of p elem) count offset) (λ q. option_map (λ path. q.step ∷ path) (descend p (length p.types) q.ty q.rest want)) path e in
      let item = array-sound elem (size_of p elem) count offset found.0 (size-low p built elem k) found.1 in
      by_rest found.0 item (descend p (length p.types) found.0.ty found.0.rest want) refl found.2
    where
      by_rest : (q : Part) → FoundItem elem (size_of p elem) count offset q → (o : Option (List Step)) → descend p (length p.types) q.ty q.rest want ≡ o → option_map (λ path. q.step ∷ path) o ≡ Some path → IsPlaceAt p elem count offset want path
      by_rest q item None d e = cc
      by_rest q item (Some rest) d e =
          let inner = descend-sound p built (length p.types) q.ty q.rest want rest d in
          let same : Index item.number ∷ rest ≡ path = ap (λ s. s ∷ rest) (sym item.step) ∙ (cc) in
          let leads : object_place p elem count (Index item.number ∷ rest) ≡ Some (place want offset) =
          ap (λ b. if b then then_option (path_place p elem rest) (shifted (item.number * size_of p elem)) else None) item.within
          ∙ (ap (λ o. then_option o (shifted (item.number * size_of p elem))) (ap (λ t. path_place p t rest) (sym item.ty) ∙ inner.0)
          ∙ ap (λ x. Some (place want x)) item.rest)
          in
          subst (IsPlaceAt p elem count offset want) same (record { leads = leads; outside = inner.1 })

  -- at one offset at most one place outside unions has a given type
  pub one-place : (offset want : ℕ) (a b : List Step) → elem < length p.types → IsPlaceAt p elem count offset want a → IsPlaceAt p elem count offset want b → a ≡ b
  one-place offset want a b k at_a at_b = some_same a b (sym (find_place-path offset want a k at_a) ∙ find_place-path offset want b k at_b)
    where
      or_none : Option (List Step) → List Step
      or_none None = []
      or_none (Some l) = l

      some_same : (a b : List Step) → ◌≡◌ {A = Option (List Step)} (Some a) (Some b) → a ≡ b
      some_same a b e = cc

  pub no-place : (offset want : ℕ) → elem < length p.types → find_place p elem count offset want ≡ None → HasNoPlaceAt p elem count offset want
  no-place offset want k e path at = let x : Some path ≡ None = sym (find_place-path offset want path k at) ∙ e in cc

  pub found-decided : (offset want : ℕ) → elem < length p.types → (o : Option (List Step)) → o ≡ find_place p elem count offset want → MatchOption o (HasNoPlaceAt p elem count offset want) (IsPlaceAt p elem count offset want)
  found-decided offset want k None e = no-place offset want k (sym e)
  found-decided offset want k (Some path) e = find_place-sound offset want path k (sym e)

  pub fits-decided : (offset want : ℕ) → elem < length p.types → (b : Bool) → b ≡ is_some (find_place p elem count offset want) → MatchBool b (HasPlaceAt p elem count offset want) (HasNoPlaceAt p elem count offset want)
  fits-decided offset want k b e = by_found b (find_place p elem count offset want) refl e
    where
      by_found : (b : Bool) (o : Option (List Step)) → find_place p elem count offset want ≡ o → b ≡ is_some o → MatchBool b (HasPlaceAt p elem count offset want) (HasNoPlaceAt p elem count offset want)
      by_found true None f e = cc
      by_found true (Some path) f e = (path, find_place-sound offset want path k f)
      by_found false None f e = no-place offset want k f
      by_found false (Some path) f e = cc
