-- Each candidate of the list is one.
use Rattle.std.proofs.Common.{◌≡◌, ◌∙◌, ap, subst, refl, ℕ, zero, suc, ◌≤◌, ◌+◌, ◌-◌, ◌*◌, ◌/◌, ◌%◌, Bool, true, false, ◌&&◌, ◌||◌, nat_eq, nat_lt, nat_le, if◌then◌else◌, List, [], ◌∷◌, ◌++◌, map, length, Option, Some, None, slice_get, arith}
use Rattle.std.specs.Prelude.{IsTrue}
use Rattle.std.specs.List.{list_any, AllByRecursion}
use Rattle.std.specs.Option.{option_map}
use Rattle.std.proofs.lemmas.Bool.Decides.{nat_tests}
use Rattle.lu_spec.specs.Then.{then_option}
use Rattle.c_types.specs.declared.parts.FieldDef.{FieldDef}
use Rattle.c_types.specs.declared.parts.Parts.{Parts}
use Rattle.c_types.specs.declared.parts.Ty.{Ty}
use Rattle.c_types.specs.declared.parts.Ty.TheVariants.{Int, Pointer, VoidPointer, Function, Struct, Union, Array}
use Rattle.c_types.specs.declared.path.Place.{Place}
use Rattle.c_types.specs.declared.path.Step.{Step}
use Rattle.c_types.specs.declared.path.Step.TheVariants.{Index, Field}
use Rattle.c_types.specs.Tables.{fields_of}
use Rattle.c_types.specs.Recursion.{at_type, by_fuel}
use Rattle.c_types.specs.Layout.{Shapes, shape_of, size_of, field_start, field_end, nth_start, field_offset}
use Rattle.c_types.specs.Place.{place, shifted, step_place, path_place, object_place, is_member, IsOutsideUnions}
use Rattle.c_types.proofs.Lists.{and_left, and_right}
use Rattle.lu_image_store.specs.Candidates.{Candidate, at_place, at_end, at_whole, is_wanted, IsCandidate, Inside, under, one_if, in_part, in_field, in_fields, in_last, in_elements, inside_step, candidates}

abbrev All : (Candidate → Type 0) → List Candidate → Type 0
All P xs = AllByRecursion P xs

all_append : (P : Candidate → Type 0) (xs ys : List Candidate) → All P xs → All P ys → All P (xs ++ ys)
all_append P [] ys a b = b
all_append P (x ∷ xs) ys a b = (a.0, all_append P xs ys a.1 b)

all_under : (P Q : Candidate → Type 0) (s : Step) → ((c : Candidate) → P c → Q (under s c)) → (xs : List Candidate) → All P xs → All Q (map (under s) xs)
all_under P Q s each [] a = tt
all_under P Q s each (x ∷ xs) a = (each x a.0, all_under P Q s each xs a.1)

all_one : (P : Candidate → Type 0) (b : Bool) (c : Candidate) → (b ≡ true → P c) → All P (one_if b c)
all_one P true c h = (h refl, tt)
all_one P false c h = tt

all_if : (P : Candidate → Type 0) (b : Bool) (xs : List Candidate) → (b ≡ true → All P xs) → All P (if b then xs else [])
all_if P true xs h = h refl
all_if P false xs h = tt

module _ (known : Shapes) (part : ℕ → Inside) (P : Candidate → Type 0) where
  all_fields : (fs : List FieldDef) (end j offset : ℕ) → ((k : ℕ) (f : FieldDef) → slice_get fs k ≡ Some f → nth_start known end fs k ≤ offset → All P (map (under (Field (j + k))) (part f.ty (offset - nth_start known end fs k)))) → All P (in_fields known part end fs j offset)
  all_fields [] end j offset each = tt
  all_fields (f ∷ fs) end j offset each =
      let z : j + 0 ≡ j = omega arith in
      let Q : ℕ → Type 0 = λ i. All P (map (under (Field i)) (part f.ty (offset - field_start known end f))) in
      let head : All P (in_field part j f (field_start known end f) (field_end known end f) offset) =
      all_if P (nat_le (field_start known end f) offset && nat_le offset (field_end known end f)) _ (λ e. let le = and_left (nat_le (field_start known end f) offset) (nat_le offset (field_end known end f)) e in subst Q z (each 0 f refl (grind (arith, nat_tests, le)))) in
      let tail = all_fields fs (field_end known end f) (j + 1) offset (λ k d e low. let y : j + suc k ≡ (j + 1) + k = omega arith in let R : ℕ → Type 0 = λ i. All P (map (under (Field i)) (part d.ty (offset - nth_start known (field_end known end f) fs k))) in subst R y (each (suc k) d e low)) in
      all_append P (in_field part j f (field_start known end f) (field_end known end f) offset) _ head tail

module _ (part : Inside) (P : Candidate → Type 0) (size n offset : ℕ) (each : (i r : ℕ) → nat_lt i n ≡ true → i * size + r ≡ offset → All P (map (under (Index i)) (part r))) where
  all_last : (k : ℕ) → k * size ≡ offset → All P (in_last part size n k)
  all_last zero e = tt
  all_last (suc i) e = all_if P (nat_lt i n) _ (λ lt. each i size lt (omega (arith, e)))

  all_elements : All P (in_elements part size n offset)
  all_elements =
      all_append P (if nat_eq (offset % size) 0 then in_last part size n (offset / size) else []) _ (all_if P (nat_eq (offset % size) 0) _ (λ e. let none : offset % size ≡ 0 = grind (arith, nat_tests, e) in all_last (offset / size) (omega (arith, none)))) (all_if P (nat_lt (offset / size) n) _ (λ lt. each (offset / size) (offset % size) lt (omega arith)))

module _ (p : Parts) (want : Option ℕ) where
  -- as IsCandidate, in a value of type t
  abbrev IsInside : ℕ → ℕ → Candidate → Type 0
  IsInside t offset (at_place path) = (u : ℕ) × (path_place p t path ≡ Some (place u offset)) × IsOutsideUnions path × IsTrue (is_wanted want u)
  IsInside t offset (at_end path) = (a u n start : ℕ) × (path_place p t path ≡ Some (place a start)) × IsOutsideUnions path × (slice_get p.types a ≡ Some (Array u n)) × (start + n * size_of p u ≡ offset) × IsTrue (is_wanted want u)
  IsInside t offset at_whole = ⊥

  step-path : (t : ℕ) (s : Step) (to : Place) (path : List Step) (u x : ℕ) → step_place p (slice_get p.types t) s ≡ Some to → path_place p to.ty path ≡ Some (place u x) → path_place p t (s ∷ path) ≡ Some (place u (to.offset + x))
  step-path t s to path u x e h =
      ap (λ o. then_option o (λ to. then_option (path_place p to.ty path) (shifted to.offset))) e ∙ ap (λ o. then_option o (shifted to.offset)) h

  under-inside : (t : ℕ) (s : Step) (to : Place) (offset rest : ℕ) → step_place p (slice_get p.types t) s ≡ Some to → is_member s ≡ false → to.offset + rest ≡ offset → (c : Candidate) → IsInside to.ty rest c → IsInside t offset (under s c)
  under-inside t s to offset rest e out sum (at_place path) h =
      (h.0, step-path t s to path h.0 rest e h.1 ∙ ap (λ x. Some (place h.0 x)) sum, ap (λ b. b || list_any is_member path) out ∙ h.2, h.3)
  under-inside t s to offset rest e out sum (at_end path) h =
      let ends = h.7 in
      (h.0, h.1, h.2, to.offset + h.3, step-path t s to path h.0 h.3 e h.4, ap (λ b. b || list_any is_member path) out ∙ h.5, h.6, omega (arith, ends, sum), h.8)
  under-inside t s to offset rest e out sum at_whole h = absurd h

  module _ (inside : ℕ → Inside) (sound : (t offset : ℕ) → All (IsInside t offset) (inside t offset)) where
    part-sound : (t offset : ℕ) → All (IsInside t offset) (in_part want inside t offset)
    part-sound t offset =
        all_append (IsInside t offset) (one_if (is_wanted want t && nat_eq offset 0) (at_place [])) (inside t offset) (all_one (IsInside t offset) (is_wanted want t && nat_eq offset 0) (at_place []) (λ e. let wants = and_left (is_wanted want t) (nat_eq offset 0) e in let zeroed = and_right (is_wanted want t) (nat_eq offset 0) e in let none : 0 ≡ offset = grind (arith, nat_tests, zeroed) in (t, ap (λ x. Some (place t x)) none, refl, wants))) (sound t offset)

    step-sound : (t : ℕ) (ty : Ty) → slice_get p.types t ≡ Some ty → (offset : ℕ) → All (IsInside t offset) (inside_step p want inside ty offset)
    step-sound t (Int k) here offset = tt
    step-sound t (Pointer u) here offset = tt
    step-sound t VoidPointer here offset = tt
    step-sound t (Function g) here offset = tt
    step-sound t (Union u) here offset = tt
    step-sound t (Struct s) here offset =
        all_fields (shape_of p) (in_part want inside) (IsInside t offset) (fields_of p s) 0 0 offset (λ k f e low. let z : 0 + k ≡ k = omega arith in let leads : step_place p (slice_get p.types t) (Field (0 + k)) ≡ Some (place f.ty (field_offset p s k)) = ap (λ o. step_place p o (Field (0 + k))) here ∙ (ap (λ i. step_place p (Some (Struct s)) (Field i)) z ∙ ap (option_map (λ f'. place f'.ty (field_offset p s k))) e) in all_under (IsInside f.ty (offset - field_offset p s k)) (IsInside t offset) (Field (0 + k)) (under-inside t (Field (0 + k)) (place f.ty (field_offset p s k)) offset (offset - field_offset p s k) leads refl (omega (arith, low))) _ (part-sound f.ty (offset - field_offset p s k)))
    step-sound t (Array u n) here offset =
        all_append (IsInside t offset) (one_if (is_wanted want u && nat_eq (n * size_of p u) offset) (at_end [])) (in_elements (in_part want inside u) (size_of p u) n offset) (all_one (IsInside t offset) (is_wanted want u && nat_eq (n * size_of p u) offset) (at_end []) (λ e. let wants = and_left (is_wanted want u) (nat_eq (n * size_of p u) offset) e in let zeroed = and_right (is_wanted want u) (nat_eq (n * size_of p u) offset) e in let same : 0 + n * size_of p u ≡ offset = grind (arith, nat_tests, zeroed) in (t, u, n, 0, refl, refl, here, same, wants))) (all_elements (in_part want inside u) (IsInside t offset) (size_of p u) n offset (λ i r lt sum. let leads : step_place p (slice_get p.types t) (Index i) ≡ Some (place u (i * size_of p u)) = ap (λ o. step_place p o (Index i)) here ∙ ap (λ b. if b then Some (place u (i * size_of p u)) else None) lt in all_under (IsInside u r) (IsInside t offset) (Index i) (under-inside t (Index i) (place u (i * size_of p u)) offset r leads refl sum) _ (part-sound u r)))

    entry-sound : (t offset : ℕ) (o : Option Ty) → slice_get p.types t ≡ o → All (IsInside t offset) (at_type (inside_step p want inside) (λ offset. []) o offset)
    entry-sound t offset None here = tt
    entry-sound t offset (Some ty) here = step-sound t ty here offset

  inside-sound : (n t offset : ℕ) → All (IsInside t offset) (by_fuel p (inside_step p want) (λ offset. []) n t offset)
  inside-sound zero t offset = tt
  inside-sound (suc n) t offset =
      entry-sound (by_fuel p (inside_step p want) (λ offset. []) n) (inside-sound n) t offset (slice_get p.types t) refl

  object-path : (elem count i : ℕ) (path : List Step) (u x : ℕ) → nat_lt i count ≡ true → path_place p elem path ≡ Some (place u x) → object_place p elem count (Index i ∷ path) ≡ Some (place u (i * size_of p elem + x))
  object-path elem count i path u x lt h =
      ap (λ b. if b then then_option (path_place p elem path) (shifted (i * size_of p elem)) else None) lt ∙ ap (λ o. then_option o (shifted (i * size_of p elem))) h

  under-object : (elem count offset i r : ℕ) → nat_lt i count ≡ true → i * size_of p elem + r ≡ offset → (c : Candidate) → IsInside elem r c → IsCandidate p elem count want offset (under (Index i) c)
  under-object elem count offset i r lt sum (at_place path) h = (h.0, object-path elem count i path h.0 r lt h.1 ∙ ap (λ x. Some (place h.0 x)) sum, h.2, h.3)
  under-object elem count offset i r lt sum (at_end path) h =
      let ends = h.7 in
      (h.0, h.1, h.2, i * size_of p elem + h.3, object-path elem count i path h.0 h.3 lt h.4, h.5, h.6, omega (arith, ends, sum), h.8)
  under-object elem count offset i r lt sum at_whole h = absurd h

  -- all that the list has are candidates
  pub candidates-sound : (elem count offset : ℕ) → All (IsCandidate p elem count want offset) (candidates p elem count want offset)
  candidates-sound elem count offset =
      let inside = by_fuel p (inside_step p want) (λ offset. []) (length p.types) in
      all_append (IsCandidate p elem count want offset) (one_if (is_wanted want elem && nat_eq (count * size_of p elem) offset) at_whole) _ (all_one (IsCandidate p elem count want offset) (is_wanted want elem && nat_eq (count * size_of p elem) offset) at_whole (λ e. let wants = and_left (is_wanted want elem) (nat_eq (count * size_of p elem) offset) e in let zeroed = and_right (is_wanted want elem) (nat_eq (count * size_of p elem) offset) e in (grind (arith, nat_tests, zeroed), wants))) (all_elements (in_part want inside elem) (IsCandidate p elem count want offset) (size_of p elem) count offset (λ i r lt sum. all_under (IsInside elem r) (IsCandidate p elem count want offset) (Index i) (under-object elem count offset i r lt sum) _ (part-sound inside (inside-sound (length p.types)) elem r)))
