-- Each candidate is in the list.
use Rattle.std.proofs.Common.{◌≡◌, ◌∙◌, ◌⊎◌, inl, inr, sym, ap, subst, refl, ℕ, zero, suc, ◌<◌, ◌≤◌, ◌+◌, ◌-◌, ◌*◌, ◌/◌, ◌%◌, Bool, true, false, ◌&&◌, nat_eq, nat_lt, nat_le, if◌then◌else◌, List, [], ◌∷◌, ◌++◌, map, length, Option, Some, None, slice_get, arith}
use Rattle.std.specs.List.{list_any}
use Rattle.std.proofs.Math.Nat.{div-mul-le_self, lt-div-mul-add}
use Rattle.std.proofs.lemmas.Bool.Decides.{nat_tests}
use Rattle.c_types.specs.declared.parts.FieldDef.{FieldDef}
use Rattle.c_types.specs.declared.parts.Parts.{Parts}
use Rattle.c_types.specs.declared.parts.Ty.{Ty}
use Rattle.c_types.specs.declared.parts.Ty.TheVariants.{Int, Pointer, VoidPointer, Function, Struct, Union, Array}
use Rattle.c_types.specs.declared.path.Place.{Place}
use Rattle.c_types.specs.declared.path.Step.{Step}
use Rattle.c_types.specs.declared.path.Step.TheVariants.{Index, Field, Member}
use Rattle.c_types.specs.Tables.{fields_of}
use Rattle.c_types.specs.Recursion.{at_type, by_fuel}
use Rattle.c_types.specs.Layout.{Shapes, shape_of, size_of, field_start, field_end, nth_start, field_offset}
use Rattle.c_types.specs.Place.{place, step_place, path_place, is_member, IsOutsideUnions}
use Rattle.c_types.specs.Refusal.{IsBuilt}
use Rattle.c_types.proofs.MarkLemmas.{held_known}
use Rattle.c_types.proofs.Settled.{depth-high, depth-low}
use Rattle.c_types.proofs.ShapeLaws.{shape_of-is}
use Rattle.c_types.proofs.PlaceLaws.{same-place, index-step, field-step, after, step-held, first-of, size-low}
use Rattle.c_types.proofs.PathLaws.{or_false, path-within, path-depth}
use Rattle.c_types.proofs.DescentLemmas.{items-apart}
use Rattle.c_types.proofs.ObjectLaws.{element-of}
use Rattle.lu_image_store.specs.Candidates.{Candidate, at_place, at_end, at_whole, is_wanted, IsCandidate, Inside, under, one_if, in_part, in_field, in_fields, in_element, in_last, in_elements, inside_step, candidates}

-- a candidate is in a list
abbrev pub Has : Candidate → List Candidate → Type 0
Has c [] = ⊥
Has c (x ∷ xs) = (x ≡ c) ⊎ Has c xs

has_left : (c : Candidate) (xs ys : List Candidate) → Has c xs → Has c (xs ++ ys)
has_left c [] ys h = absurd h
has_left c (x ∷ xs) ys (inl e) = inl e
has_left c (x ∷ xs) ys (inr h) = inr (has_left c xs ys h)

has_right : (c : Candidate) (xs ys : List Candidate) → Has c ys → Has c (xs ++ ys)
has_right c [] ys h = h
has_right c (x ∷ xs) ys h = inr (has_right c xs ys h)

has_under : (s : Step) (c : Candidate) (xs : List Candidate) → Has c xs → Has (under s c) (map (under s) xs)
has_under s c [] h = absurd h
has_under s c (x ∷ xs) (inl e) = inl (ap (under s) e)
has_under s c (x ∷ xs) (inr h) = inr (has_under s c xs h)

has_if : (c : Candidate) (b : Bool) (xs : List Candidate) → b ≡ true → Has c xs → Has c (if b then xs else [])
has_if c true xs e h = h
has_if c false xs e h = absurd (cc)

and_of : (a b : Bool) → a ≡ true → b ≡ true → a && b ≡ true
and_of a b e h = cc

module _ (known : Shapes) (part : ℕ → Inside) (c : Candidate) where
  field-has : (fs : List FieldDef) (end j k offset : ℕ) (f : FieldDef) → slice_get fs k ≡ Some f → nth_start known end fs k ≤ offset → offset ≤ nth_start known end fs k + (known f.ty).size → Has c (part f.ty (offset - nth_start known end fs k)) → Has (under (Field (j + k)) c) (in_fields known part end fs j offset)
  field-has [] end j k offset f e low high h = absurd (cc)
  field-has (d ∷ fs) end j zero offset f e low high h =
      let q : d ≡ f = cc in
      let size = ap (λ d. (known d.ty).size) q in
      let P : FieldDef → Type 0 = λ d'. Has c (part d'.ty (offset - field_start known end d)) in
      let here : Has c (part d.ty (offset - field_start known end d)) = subst P (sym q) h in
      let started : nat_le (field_start known end d) offset ≡ true = grind (arith, nat_tests, low) in
      let ended : nat_le offset (field_end known end d) ≡ true = (let le : offset ≤ field_end known end d = omega (arith, high, size) in grind (arith, nat_tests, le)) in
      let z : j ≡ j + 0 = omega arith in
      let Q : ℕ → Type 0 = λ i. Has (under (Field i) c) (in_fields known part end (d ∷ fs) j offset) in
      subst Q z (has_left (under (Field j) c) (in_field part j d (field_start known end d) (field_end known end d) offset) (in_fields known part (field_end known end d) fs (j + 1) offset) (has_if (under (Field j) c) (nat_le (field_start known end d) offset && nat_le offset (field_end known end d)) _ (and_of (nat_le (field_start known end d) offset) (nat_le offset (field_end known end d)) started ended) (has_under (Field j) c _ here)))
  field-has (d ∷ fs) end j (suc k) offset f e low high h =
      let z : (j + 1) + k ≡ j + suc k = omega arith in
      let Q : ℕ → Type 0 = λ i. Has (under (Field i) c) (in_fields known part end (d ∷ fs) j offset) in
      subst Q z (has_right (under (Field ((j + 1) + k)) c) (in_field part j d (field_start known end d) (field_end known end d) offset) (in_fields known part (field_end known end d) fs (j + 1) offset) (field-has fs (field_end known end d) (j + 1) k offset f e low high h))

element-has : (part : Inside) (c : Candidate) (size n i r offset : ℕ) → 0 < size → nat_lt i n ≡ true → i * size + r ≡ offset → r ≤ size → Has c (part r) → Has (under (Index i) c) (in_elements part size n offset)
element-has part c size n i r offset some lt sum le h = by_test (nat_lt r size) refl
  where
    found : Has (under (Index i) c) (in_element part n i r)
    found = has_if (under (Index i) c) (nat_lt i n) _ lt (has_under (Index i) c (part r) h)

    by_test : (b : Bool) → nat_lt r size ≡ b → Has (under (Index i) c) (in_elements part size n offset)
    by_test true e =
        let below : r < size = grind (arith, nat_tests, e) in
        let same : i ≡ offset / size = sym (items-apart (offset / size) i size offset (div-mul-le_self offset size) (lt-div-mul-add {a = offset} {b = size} some) (omega (arith, sum)) (omega (arith, sum, below))) in
        let rest : r ≡ offset % size = omega (arith, sum, ap (λ x. x * size) same) in
        let P : ℕ → Type 0 = λ q. Has (under (Index i) c) (in_element part n q r) in
        let Q : ℕ → Type 0 = λ q. Has (under (Index i) c) (in_element part n (offset / size) q) in
        has_right (under (Index i) c) _ _ (subst Q rest (subst P same found))
    by_test false e =
        let whole : size ≡ r = (let high : size ≤ r = grind (arith, nat_tests, e) in omega (arith, high, le)) in
        let twice = after i (suc i) size (omega arith) in
        let exact : suc i * size ≡ offset = omega (arith, sum, whole) in
        let same : suc i ≡ offset / size = sym (items-apart (offset / size) (suc i) size offset (div-mul-le_self offset size) (lt-div-mul-add {a = offset} {b = size} some) (omega (arith, exact)) (omega (arith, exact, some))) in
        let rest : offset % size ≡ 0 = omega (arith, exact, ap (λ x. x * size) same) in
        let none : nat_eq (offset % size) 0 ≡ true = grind (arith, nat_tests, rest) in
        let P : ℕ → Type 0 = λ q. Has (under (Index i) c) (in_element part n i q) in
        let Q : ℕ → Type 0 = λ q. Has (under (Index i) c) (in_last part size n q) in
        let there : Has (under (Index i) c) (in_last part size n (suc i)) = subst P (sym whole) found in
        has_left (under (Index i) c) _ _ (has_if (under (Index i) c) (nat_eq (offset % size) 0) _ none (subst Q same there))

module _ (p : Parts) (built : IsBuilt p) (want : Option ℕ) where
  abbrev inside : ℕ → ℕ → Inside
  inside n = by_fuel p (inside_step p want) (λ offset. []) n

  abbrev part_of : ℕ → ℕ → Inside
  part_of n = in_part want (inside n)

  -- what is in a part is in the whole, one step further
  step-has : (n : ℕ) (o : Option Ty) (s : Step) (to : Place) (r offset : ℕ) (c : Candidate) → step_place p o s ≡ Some to → is_member s ≡ false → to.offset + r ≡ offset → r ≤ size_of p to.ty → 0 < size_of p to.ty → Has c (part_of n to.ty r) → Has (under s c) (at_type (inside_step p want (inside n)) (λ offset. []) o offset)
  step-has n None s to r offset c e m sum le some h = absurd (cc)
  step-has n (Some (Int i)) s to r offset c e m sum le some h = absurd (cc)
  step-has n (Some (Pointer u)) s to r offset c e m sum le some h = absurd (cc)
  step-has n (Some VoidPointer) s to r offset c e m sum le some h = absurd (cc)
  step-has n (Some (Function g)) s to r offset c e m sum le some h = absurd (cc)
  step-has n (Some (Union u)) (Index i) to r offset c e m sum le some h = absurd (cc)
  step-has n (Some (Union u)) (Field i) to r offset c e m sum le some h = absurd (cc)
  step-has n (Some (Union u)) (Member i) to r offset c e m sum le some h = absurd (cc)
  step-has n (Some (Struct t)) (Index i) to r offset c e m sum le some h = absurd (cc)
  step-has n (Some (Struct t)) (Member i) to r offset c e m sum le some h = absurd (cc)
  step-has n (Some (Struct t)) (Field i) to r offset c e m sum le some h =
      let f = field-step (slice_get (fields_of p t) i) (field_offset p t i) to e in
      let at = ap (λ q. q.offset) f.2 in
      let end = ap (λ q. q.offset + size_of p q.ty) f.2 in
      let rest : r ≡ offset - field_offset p t i = omega (arith, sum, at) in
      let P : Place → Type 0 = λ q. Has c (part_of n q.ty r) in
      let Q : ℕ → Type 0 = λ x. Has c (part_of n f.0.ty x) in
      let z : 0 + i ≡ i = omega arith in
      let R : ℕ → Type 0 = λ i. Has (under (Field i) c) (in_fields (shape_of p) (part_of n) 0 (fields_of p t) 0 offset) in
      subst R z (field-has (shape_of p) (part_of n) c (fields_of p t) 0 0 i offset f.0 f.1 (omega (arith, sum, at)) (omega (arith, sum, at, end, le)) (subst Q rest (subst P (sym f.2) h)))
  step-has n (Some (Array u k)) (Field i) to r offset c e m sum le some h = absurd (cc)
  step-has n (Some (Array u k)) (Member i) to r offset c e m sum le some h = absurd (cc)
  step-has n (Some (Array u k)) (Index i) to r offset c e m sum le some h =
      let q = index-step (nat_lt i k) (place u (i * size_of p u)) to e in
      let at = ap (λ q. q.offset) q.1 in
      let size = ap (λ q. size_of p q.ty) q.1 in
      let P : Place → Type 0 = λ q. Has c (part_of n q.ty r) in
      has_right (under (Index i) c) (one_if (is_wanted want u && nat_eq (k * size_of p u) offset) (at_end [])) _ (element-has (part_of n u) c (size_of p u) k i r offset (omega (arith, size, some)) q.0 (omega (arith, sum, at)) (omega (arith, le, size)) (subst P (sym q.1) h))

  place-has : (n t offset u : ℕ) (path : List Step) → t < length p.types → path_place p t path ≡ Some (place u offset) → IsOutsideUnions path → is_wanted want u ≡ true → length path ≤ n → Has (at_place path) (part_of n t offset)
  place-has n t offset u [] known e out wants short =
      let q = same-place t 0 u offset e in
      let zeroed : nat_eq offset 0 ≡ true = (let h : 0 ≡ offset = q.1 in grind (arith, nat_tests)) in
      let wanted : is_wanted want t ≡ true = ap (is_wanted want) q.0 ∙ wants in
      has_left (at_place []) (one_if (is_wanted want t && nat_eq offset 0) (at_place [])) _ (has_if (at_place []) (is_wanted want t && nat_eq offset 0) _ (and_of (is_wanted want t) (nat_eq offset 0) wanted zeroed) (inl refl))
  place-has zero t offset u (s ∷ path) known e out wants short = absurd (omega (arith, short))
  place-has (suc n) t offset u (s ∷ path) known e out wants short =
      let f = first-of p t s path (place u offset) e in
      let steps = or_false (is_member s) _ out in
      let there = held_known p built.numbered t f.part.ty (step-held p (slice_get p.types t) s f.part f.step) in
      let within = path-within p built f.part.ty path f.last f.rest in
      let rest : path_place p f.part.ty path ≡ Some (place u f.last.offset) = f.rest ∙ ap (λ t. Some (place t f.last.offset)) f.ty in
      let below = place-has n f.part.ty f.last.offset u path there rest steps.1 wants (omega (arith, short)) in
      has_right (at_place (s ∷ path)) (one_if (is_wanted want t && nat_eq offset 0) (at_place [])) _ (step-has n (slice_get p.types t) s f.part f.last.offset offset (at_place path) f.step steps.0 f.sum (omega (arith, within)) (size-low p built f.part.ty there) below)

  end-has : (n t offset a u k start : ℕ) (path : List Step) → t < length p.types → path_place p t path ≡ Some (place a start) → IsOutsideUnions path → slice_get p.types a ≡ Some (Array u k) → start + k * size_of p u ≡ offset → is_wanted want u ≡ true → length path < n → Has (at_end path) (part_of n t offset)
  end-has zero t offset a u k start path known e out array sum wants short = absurd (omega (arith, short))
  end-has (suc n) t offset a u k start [] known e out array sum wants short =
      let q = same-place t 0 a start e in
      let here : Some (Array u k) ≡ slice_get p.types t = sym (ap (slice_get p.types) q.0 ∙ array) in
      let total : k * size_of p u ≡ offset = omega (arith, sum, q.1) in
      let ended : nat_eq (k * size_of p u) offset ≡ true = grind (arith, nat_tests, total) in
      let P : Option Ty → Type 0 = λ o. Has (at_end []) (at_type (inside_step p want (inside n)) (λ offset. []) o offset) in
      has_right (at_end []) (one_if (is_wanted want t && nat_eq offset 0) (at_place [])) _ (subst P here (has_left (at_end []) (one_if (is_wanted want u && nat_eq (k * size_of p u) offset) (at_end [])) _ (has_if (at_end []) (is_wanted want u && nat_eq (k * size_of p u) offset) _ (and_of (is_wanted want u) (nat_eq (k * size_of p u) offset) wants ended) (inl refl))))
  end-has (suc n) t offset a u k start (s ∷ path) known e out array sum wants short =
      let f = first-of p t s path (place a start) e in
      let steps = or_false (is_member s) _ out in
      let there = held_known p built.numbered t f.part.ty (step-held p (slice_get p.types t) s f.part f.step) in
      let within = path-within p built f.part.ty path f.last f.rest in
      let whole = ap (λ s. s.size) (shape_of-is p built a (Array u k) array) in
      let same = ap (size_of p) f.ty in
      let rest : path_place p f.part.ty path ≡ Some (place a f.last.offset) = f.rest ∙ ap (λ t. Some (place t f.last.offset)) f.ty in
      let below = end-has n f.part.ty (f.last.offset + k * size_of p u) a u k f.last.offset path there rest steps.1 array refl wants (omega (arith, short)) in
      has_right (at_end (s ∷ path)) (one_if (is_wanted want t && nat_eq offset 0) (at_place [])) _ (step-has n (slice_get p.types t) s f.part (f.last.offset + k * size_of p u) offset (at_end path) f.step steps.0 (omega (arith, f.sum, sum)) (omega (arith, within, whole, same)) (size-low p built f.part.ty there) below)

  module _ (elem count offset : ℕ) (known : elem < length p.types) where
    object-has : (i r : ℕ) (c : Candidate) → nat_lt i count ≡ true → i * size_of p elem + r ≡ offset → r ≤ size_of p elem → Has c (part_of (length p.types) elem r) → Has (under (Index i) c) (candidates p elem count want offset)
    object-has i r c lt sum le h =
        has_right (under (Index i) c) (one_if (is_wanted want elem && nat_eq (count * size_of p elem) offset) at_whole) _ (element-has (part_of (length p.types) elem) c (size_of p elem) count i r offset (size-low p built elem known) lt sum le h)

    -- the list has all candidates
    pub candidates-whole : (c : Candidate) → IsCandidate p elem count want offset c → Has c (candidates p elem count want offset)
    candidates-whole (at_place path) h =
        let f = element-of p elem count path (place h.0 offset) h.1 in
        let outside : IsOutsideUnions f.steps = ap (list_any is_member) (sym f.path_is) ∙ h.2 in
        let within = path-within p built elem f.steps f.last f.rest in
        let rest : path_place p elem f.steps ≡ Some (place h.0 f.last.offset) = f.rest ∙ ap (λ t. Some (place t f.last.offset)) f.ty in
        let falls = path-depth p built elem f.steps f.last known f.rest in
        let high = depth-high p elem in
        let P : List Step → Type 0 = λ path. Has (at_place path) (candidates p elem count want offset) in
        subst P (sym f.path_is) (object-has f.number f.last.offset (at_place f.steps) f.within f.sum (omega (arith, within)) (place-has (length p.types) elem f.last.offset h.0 f.steps known rest outside h.3 (omega (arith, falls, high))))
    candidates-whole (at_end path) h =
        let f = element-of p elem count path (place h.0 h.3) h.4 in
        let outside : IsOutsideUnions f.steps = ap (list_any is_member) (sym f.path_is) ∙ h.5 in
        let within = path-within p built elem f.steps f.last f.rest in
        let whole = ap (λ s. s.size) (shape_of-is p built h.0 (Array h.1 h.2) h.6) in
        let same = ap (size_of p) f.ty in
        let rest : path_place p elem f.steps ≡ Some (place h.0 f.last.offset) = f.rest ∙ ap (λ t. Some (place t f.last.offset)) f.ty in
        let falls = path-depth p built elem f.steps f.last known f.rest in
        let high = depth-high p elem in
        let one = depth-low p elem f.last.ty known in
        let ends = h.7 in
        let P : List Step → Type 0 = λ path. Has (at_end path) (candidates p elem count want offset) in
        subst P (sym f.path_is) (object-has f.number (f.last.offset + h.2 * size_of p h.1) (at_end f.steps) f.within (omega (arith, f.sum, ends)) (omega (arith, within, whole, same)) (end-has (length p.types) elem (f.last.offset + h.2 * size_of p h.1) h.0 h.1 h.2 f.last.offset f.steps known rest outside h.6 refl h.8 (omega (arith, falls, high, one))))
    candidates-whole at_whole h =
        let ended : nat_eq (count * size_of p elem) offset ≡ true = (let e = h.0 in grind (arith, nat_tests, e)) in
        has_left at_whole (one_if (is_wanted want elem && nat_eq (count * size_of p elem) offset) at_whole) _ (has_if at_whole (is_wanted want elem && nat_eq (count * size_of p elem) offset) _ (and_of (is_wanted want elem) (nat_eq (count * size_of p elem) offset) h.1 ended) (inl refl))
