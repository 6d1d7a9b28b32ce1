-- The descent finds exactly the place.
use Rattle.std.proofs.Common.{◌≡◌, ◌∙◌, sym, ap, subst, refl, ℕ, zero, suc, ◌<◌, ◌≤◌, ◌+◌, ◌-◌, ◌*◌, ◌/◌, ◌%◌, Bool, true, false, ◌||◌, ◌⊎◌, inl, inr, nat_eq, nat_lt, if◌then◌else◌, List, [], ◌∷◌, length, Option, Some, None, slice_get, arith}
use Rattle.std.proofs.Math.Nat.{div-mul-le_self, lt-div-mul-add}
use Rattle.std.proofs.lemmas.Bool.{cases_order}
use Rattle.std.proofs.lemmas.Bool.Decides.{nat_tests}
use Rattle.std.specs.Prelude.{Contains}
use Rattle.std.specs.List.{list_any}
use Rattle.c_types.specs.Chain.{held_in, held_by}
use Rattle.std.specs.Option.{option_map}
use Rattle.lu_spec.specs.Then.{then_option}
use Rattle.lu_spec.proofs.ThenLemmas.{then_some}
use Rattle.c_types.specs.declared.parts.Ty.{Ty}
use Rattle.c_types.specs.declared.parts.Ty.TheVariants.{Int, Pointer, VoidPointer, Function, Struct, Union, Array}
use Rattle.c_types.specs.declared.parts.FieldDef.{FieldDef}
use Rattle.c_types.specs.declared.parts.Parts.{Parts}
use Rattle.c_types.specs.declared.path.Step.{Step}
use Rattle.c_types.specs.declared.path.Step.TheVariants.{Index, Field, Member}
use Rattle.c_types.specs.declared.descent.Part.{Part}
use Rattle.c_types.specs.Tables.{fields_of}
use Rattle.c_types.specs.Recursion.{depth}
use Rattle.c_types.specs.Layout.{Shapes, field_start, field_end, nth_start, shape_of, size_of, field_offset}
use Rattle.c_types.specs.declared.path.Place.{Place}
use Rattle.c_types.specs.Place.{place, shifted, step_place, path_place, is_member, IsOutsideUnions}
use Rattle.c_types.specs.Descent.{part, part_in_fields, part_in_array, part_at, is_here, descend}
use Rattle.c_types.specs.Refusal.{IsBuilt}
use Rattle.c_types.proofs.Lists.{and_left, and_right}
use Rattle.c_types.proofs.FieldLaws.{nth-above}
use Rattle.c_types.proofs.MarkLemmas.{held_known}
use Rattle.c_types.proofs.PlaceLaws.{same-place, index-step, field-step, after, step-held, first-of, low, size-low}
use Rattle.c_types.proofs.PathLaws.{or_false, path-within, path-known, path-depth}

module _ (known : Shapes) (low : (t : ℕ) → 1 ≤ (known t).align) where
  -- the field that has a byte is found
  fields-find : (fields : List FieldDef) (end j k offset : ℕ) (f : FieldDef) → slice_get fields k ≡ Some f → nth_start known end fields k ≤ offset → offset < nth_start known end fields k + (known f.ty).size → part_in_fields known end fields j offset ≡ Some (part (Field (j + k)) f.ty (offset - nth_start known end fields k))
  fields-find [] end j k offset f e a b = cc
  fields-find (d ∷ fs) end j zero offset f e a b =
      let q : d ≡ f = cc in
      let size = ap (λ d. (known d.ty).size) q in
      let inside : nat_lt offset (field_end known end d) ≡ true = grind (arith, nat_tests) in
      let started : nat_lt offset (field_start known end d) ≡ false = grind (arith, nat_tests) in
      let z : j ≡ j + 0 = omega arith in
      rw (inside, started) (ap (λ j. Some (part (Field j) d.ty (offset - field_start known end d))) z ∙ ap (λ (d' : FieldDef). Some (part (Field (j + 0)) d'.ty (offset - field_start known end d))) q)
  fields-find (d ∷ fs) end j (suc k) offset f e a b =
      let above = nth-above known low fs (field_end known end d) k f e in
      let past : nat_lt offset (field_end known end d) ≡ false = (let h : field_end known end d ≤ offset = omega (arith, above) in grind (arith, nat_tests)) in
      let z : (j + 1) + k ≡ j + suc k = omega arith in
      rw past (fields-find fs (field_end known end d) (j + 1) k offset f e a b ∙ ap (λ j. Some (part (Field j) f.ty (offset - nth_start known (field_end known end d) fs k))) z)

  record FoundField (fields : List FieldDef) (end j offset : ℕ) (q : Part) : Type 0 where
    pub number : ℕ
    pub field : FieldDef
    pub entry : slice_get fields number ≡ Some field
    pub is : part (Field (j + number)) field.ty (offset - nth_start known end fields number) ≡ q
    pub started : nth_start known end fields number ≤ offset

  -- and what is found is such a field
  fields-sound : (fields : List FieldDef) (end j offset : ℕ) (q : Part) → part_in_fields known end fields j offset ≡ Some q → FoundField fields end j offset q
  fields-sound [] end j offset q e = cc
  fields-sound (d ∷ fs) end j offset q e = by_end (nat_lt offset (field_end known end d)) refl e (fields-sound fs (field_end known end d) (j + 1) offset q)
    where
      by_start : (b : Bool) → nat_lt offset (field_start known end d) ≡ b → (if b then None else Some (part (Field j) d.ty (offset - field_start known end d))) ≡ Some q → FoundField (d ∷ fs) end j offset q
      by_start true h e = cc
      by_start false h e =
          let z : j + 0 ≡ j = omega arith in
          let is : part (Field j) d.ty (offset - field_start known end d) ≡ q = cc in
          record { number = 0; field = d; entry = refl; is = ap (λ j. part (Field j) d.ty (offset - field_start known end d)) z ∙ is; started = grind (arith, nat_tests) }

      by_end : (b : Bool) → nat_lt offset (field_end known end d) ≡ b → (if b then (if nat_lt offset (field_start known end d) then None else Some (part (Field j) d.ty (offset - field_start known end d))) else part_in_fields known (field_end known end d) fs (j + 1) offset) ≡ Some q → (part_in_fields known (field_end known end d) fs (j + 1) offset ≡ Some q → FoundField fs (field_end known end d) (j + 1) offset q) → FoundField (d ∷ fs) end j offset q
      by_end true h e below = by_start (nat_lt offset (field_start known end d)) refl e
      by_end false h e below =
          let r = below e in
          let z : j + suc r.number ≡ (j + 1) + r.number = omega arith in
          record { number = suc r.number; field = r.field; entry = r.entry; is = ap (λ j. part (Field j) r.field.ty (offset - nth_start known (field_end known end d) fs r.number)) z ∙ r.is; started = r.started }

-- which element has a byte
pub items-apart : (i j z n : ℕ) → i * z ≤ n → n < i * z + z → j * z ≤ n → n < j * z + z → i ≡ j
items-apart i j z n a b c d = by_order (cases_order i j)
  where
    by_order : (i ≡ j) ⊎ ((i < j) ⊎ (j < i)) → i ≡ j
    by_order (inl e) = e
    by_order (inr (inl h)) = absurd (let m = after i j z h in omega (arith, m))
    by_order (inr (inr h)) = absurd (let m = after j i z h in omega (arith, m))

pub array-find : (t size n i offset : ℕ) → nat_lt i n ≡ true → 0 < size → i * size ≤ offset → offset < i * size + size → part_in_array t size n offset ≡ Some (part (Index i) t (offset - i * size))
array-find t size n i offset lt some a b =
    let same : offset / size ≡ i = items-apart (offset / size) i size offset (div-mul-le_self offset size) (lt-div-mul-add {a = offset} {b = size} some) a b in
    let rest : offset % size ≡ offset - i * size = omega (arith, ap (λ x. x * size) same) in
    rw (same, lt) (ap (λ r. Some (part (Index i) t r)) rest)

pub record FoundItem (t size n offset : ℕ) (q : Part) : Type 0 where
  pub number : ℕ
  pub within : nat_lt number n ≡ true
  pub step : q.step ≡ Index number
  pub ty : q.ty ≡ t
  pub rest : number * size + q.rest ≡ offset

pub array-sound : (t size n offset : ℕ) (q : Part) → 0 < size → part_in_array t size n offset ≡ Some q → FoundItem t size n offset q
array-sound t size n offset q some e = by_test (nat_lt (offset / size) n) refl e
  where
    by_test : (b : Bool) → nat_lt (offset / size) n ≡ b → (if b then Some (part (Index (offset / size)) t (offset % size)) else None) ≡ Some q → FoundItem t size n offset q
    by_test false h e = cc
    by_test true h e =
        let is : part (Index (offset / size)) t (offset % size) ≡ q = cc in
        record {
          number = offset / size;
          within = h;
          step = ap (λ q. q.step) (sym is);
          ty = ap (λ q. q.ty) (sym is);
          rest = omega (arith, ap (λ q. q.rest) is);
        }

module _ (p : Parts) (built : IsBuilt p) where
  -- the part to which a step leads is found by each of its bytes
  part-find : (t : ℕ) (o : Option Ty) (s : Step) (to : Place) (offset : ℕ) → slice_get p.types t ≡ o → is_member s ≡ false → step_place p o s ≡ Some to → to.offset ≤ offset → offset < to.offset + size_of p to.ty → part_at p offset o ≡ Some (part s to.ty (offset - to.offset))
  part-find t None s to offset k m e a b = cc
  part-find t (Some (Int i)) s to offset k m e a b = cc
  part-find t (Some (Pointer u)) s to offset k m e a b = cc
  part-find t (Some VoidPointer) s to offset k m e a b = cc
  part-find t (Some (Function g)) s to offset k m e a b = cc
  part-find t (Some (Union r)) (Index i) to offset k m e a b = cc
  part-find t (Some (Union r)) (Field i) to offset k m e a b = cc
  part-find t (Some (Union r)) (Member i) to offset k m e a b = cc
  part-find t (Some (Struct r)) (Index i) to offset k m e a b = cc
  part-find t (Some (Struct r)) (Member i) to offset k m e a b = cc
  part-find t (Some (Struct r)) (Field i) to offset k m e a b =
      let f = field-step (slice_get (fields_of p r) i) (field_offset p r i) to e in
      let at = ap (λ q. q.offset) f.2 in
      let end = ap (λ q. q.offset + size_of p q.ty) f.2 in
      let found = fields-find (shape_of p) (low p built) (fields_of p r) 0 0 i offset f.0 f.1 (omega (arith, at)) (omega (arith, end)) in
      let z : 0 + i ≡ i = omega arith in
      found ∙ (ap (λ j. Some (part (Field j) f.0.ty (offset - field_offset p r i))) z ∙ ap (λ (q : Place). Some (part (Field i) q.ty (offset - q.offset))) f.2)
  part-find t (Some (Array u n)) (Field i) to offset k m e a b = cc
  part-find t (Some (Array u n)) (Member i) to offset k m e a b = cc
  part-find t (Some (Array u n)) (Index i) to offset k m e a b =
      let q = index-step (nat_lt i n) (place u (i * size_of p u)) to e in
      let at = ap (λ q. q.offset) q.1 in
      let end = ap (λ q. q.offset + size_of p q.ty) q.1 in
      let some : 0 < size_of p u = omega (arith, at, end) in
      array-find u (size_of p u) n i offset q.0 some (omega (arith, at)) (omega (arith, end)) ∙ ap (λ (q : Place). Some (part (Index i) q.ty (offset - q.offset))) q.1

  record FoundPart (o : Option Ty) (offset : ℕ) (q : Part) : Type 0 where
    pub to : Place
    pub step : step_place p o q.step ≡ Some to
    pub ty : q.ty ≡ to.ty
    pub sum : to.offset + q.rest ≡ offset
    pub outside : is_member q.step ≡ false

  part-sound : (t : ℕ) (o : Option Ty) (offset : ℕ) (q : Part) → slice_get p.types t ≡ o → part_at p offset o ≡ Some q → FoundPart o offset q
  part-sound t None offset q k e = cc
  part-sound t (Some (Int i)) offset q k e = cc
  part-sound t (Some (Pointer u)) offset q k e = cc
  part-sound t (Some VoidPointer) offset q k e = cc
  part-sound t (Some (Function g)) offset q k e = cc
  part-sound t (Some (Union r)) offset q k e = cc
  part-sound t (Some (Struct r)) offset q k e =
      let f = fields-sound (shape_of p) (low p built) (fields_of p r) 0 0 offset q e in
      let z : 0 + f.number ≡ f.number = omega arith in
      let step : q.step ≡ Field f.number = ap (λ q. q.step) (sym f.is) ∙ ap Field z in
      record {
        to = place f.field.ty (field_offset p r f.number);
        step = ap (step_place p (Some (Struct r))) step ∙ ap (option_map (λ f'. place f'.ty (field_offset p r f.number))) f.entry;
        ty = ap (λ q. q.ty) (sym f.is);
        sum = omega (arith, f.started, ap (λ q. q.rest) f.is);
        outside = ap is_member step;
      }
  part-sound t (Some (Array u n)) offset q k e =
      let known = held_known p built.numbered t u (ap_contains k) in
      let f = array-sound u (size_of p u) n offset q (size-low p built u known) e in
      record {
        to = place u (f.number * size_of p u);
        step = ap (step_place p (Some (Array u n))) f.step ∙ ap (λ b. if b then Some (place u (f.number * size_of p u)) else None) f.within;
        ty = f.ty;
        sum = f.rest;
        outside = ap is_member f.step;
      }
    where
      ap_contains : slice_get p.types t ≡ Some (Array u n) → Contains (held_by p t) u
      ap_contains k = let P : Option Ty → Type 0 = λ o. Contains (held_in p o) u in subst P (sym k) (0, omega arith, refl)

  -- the byte at an offset in a place is in the part to which its path's first step leads
  pub descend-find : (n t offset want : ℕ) (path : List Step) → t < length p.types → IsOutsideUnions path → path_place p t path ≡ Some (place want offset) → length path < n → descend p n t offset want ≡ Some path
  descend-find zero t offset want path k m e lt = absurd (omega arith)
  descend-find (suc n) t offset want [] k m e lt =
      let q = same-place t 0 want offset e in
      let same : nat_eq t want ≡ true = (let h : t ≡ want = q.0 in grind (arith, nat_tests)) in
      let zeroed : nat_eq offset 0 ≡ true = (let h : 0 ≡ offset = q.1 in grind (arith, nat_tests)) in
      rw (same, zeroed) refl
  descend-find (suc n) t offset want (s ∷ path) k m e lt =
      let f = first-of p t s path (place want offset) e in
      let steps = or_false (is_member s) _ m in
      let held = step-held p (slice_get p.types t) s f.part f.step in
      let known = held_known p built.numbered t f.part.ty held in
      let within = path-within p built f.part.ty path f.last f.rest in
      let last_known = path-known p built f.part.ty path f.last known f.rest in
      let some = size-low p built f.last.ty last_known in
      let found = part-find t (slice_get p.types t) s f.part offset refl steps.0 f.step (omega (arith, f.sum)) (omega (arith, f.sum, within, some)) in
      let falls = path-depth p built t (s ∷ path) (place want offset) k e in
      let other : nat_eq t want ≡ false = not_same t want (λ h. omega (arith, falls, ap (depth p) h)) in
      let last : offset - f.part.offset ≡ f.last.offset = omega (arith, f.sum) in
      let rest : path_place p f.part.ty path ≡ Some (place want (offset - f.part.offset)) = f.rest ∙ (ap (λ t. Some (place t f.last.offset)) f.ty ∙ ap (λ x. Some (place want x)) (sym last)) in
      let below = descend-find n f.part.ty (offset - f.part.offset) want path known steps.1 rest (omega arith) in
      rw (other, found, below) refl
    where
      not_same : (a b : ℕ) → (a ≡ b → ⊥) → nat_eq a b ≡ false
      not_same a b h = by_test (nat_eq a b) refl
        where
          by_test : (c : Bool) → nat_eq a b ≡ c → nat_eq a b ≡ false
          by_test true e = absurd (h (grind (arith, nat_tests)))
          by_test false e = e

  -- and what it finds is such a place
  pub descend-sound : (n t offset want : ℕ) (path : List Step) → descend p n t offset want ≡ Some path → (path_place p t path ≡ Some (place want offset)) × IsOutsideUnions path
  descend-sound zero t offset want path e = cc
  descend-sound (suc n) t offset want path e = by_here (is_here t offset want) refl e (descend-sound n)
    where
      here : is_here t offset want ≡ true → [] ≡ path → (path_place p t path ≡ Some (place want offset)) × IsOutsideUnions path
      here h same =
          let a = and_left (nat_eq t want) (nat_eq offset 0) h in
          let b = and_right (nat_eq t want) (nat_eq offset 0) h in
          let q : t ≡ want = grind (arith, nat_tests) in
          let z : 0 ≡ offset = grind (arith, nat_tests) in
          let P : List Step → Type 0 = λ path. (path_place p t path ≡ Some (place want offset)) × IsOutsideUnions path in
          subst P same (ap (λ t. Some (place t 0)) q ∙ ap (λ x. Some (place want x)) z, refl)

      by_rest : (q : Part) → part_at p offset (slice_get p.types t) ≡ Some q → (o : Option (List Step)) → descend p n q.ty q.rest want ≡ o → option_map (λ path. q.step ∷ path) o ≡ Some path → ((t offset want : ℕ) (path : List Step) → descend p n t offset want ≡ Some path → (path_place p t path ≡ Some (place want offset)) × IsOutsideUnions path) → (path_place p t path ≡ Some (place want offset)) × IsOutsideUnions path
      by_rest q found None d e below = cc
      by_rest q found (Some rest) d e below =
          let part = part-sound t (slice_get p.types t) offset q refl found in
          let inner = below q.ty q.rest want rest d in
          let same : q.step ∷ rest ≡ path = cc in
          let P : List Step → Type 0 = λ path. (path_place p t path ≡ Some (place want offset)) × IsOutsideUnions path in
          subst P same (
            ap (λ o. then_option o (λ to. then_option (path_place p to.ty rest) (shifted to.offset))) part.step
                ∙ (ap (λ o. then_option o (shifted part.to.offset)) (ap (λ u. path_place p u rest) (sym part.ty) ∙ inner.0)
                ∙ ap (λ x. Some (place want x)) part.sum),
            ap (λ b. b || list_any is_member rest) part.outside ∙ inner.1,
          )

      by_here : (b : Bool) → is_here t offset want ≡ b → (if b then Some [] else then_option (part_at p offset (slice_get p.types t)) (λ q. option_map (λ path. q.step ∷ path) (descend p n q.ty q.rest want))) ≡ Some path → ((t offset want : ℕ) (path : List Step) → descend p n t offset want ≡ Some path → (path_place p t path ≡ Some (place want offset)) × IsOutsideUnions path) → (path_place p t path ≡ Some (place want offset)) × IsOutsideUnions path
      by_here true h e below = here h (cc)
      by_here false h e below =
          let found = then_some (part_at p offset (slice_get p.types t)) (λ q. option_map (λ path. q.step ∷ path) (descend p n q.ty q.rest want)) path e in
          by_rest found.0 found.1 (descend p n found.0.ty found.0.rest want) refl found.2 below
