-- Laws of places in a table: a place lies inside, is aligned, and two places outside unions share bytes only where
-- one is in the other.
use Rattle.std.proofs.Common.{◌≡◌, ap, subst, refl, ℕ, zero, suc, ◌<◌, ◌≤◌, ◌+◌, ◌*◌, Bool, true, false, nat_lt, if◌then◌else◌, List, [], ◌∷◌, length, Option, Some, None, slice_get, arith}
use Rattle.std.proofs.Math.Nat.{mul-le-mul_left}
use Rattle.std.proofs.lemmas.Bool.Decides.{nat_tests}
use Rattle.std.specs.Prelude.{Contains}
use Rattle.std.specs.Option.{option_map}
use Rattle.lu_spec.specs.Then.{then_option}
use Rattle.lu_spec.proofs.ThenLemmas.{then_some}
use Rattle.c_types.specs.declared.parts.IntKind.{IntKind}
use Rattle.c_types.specs.declared.parts.IntKind.TheVariants.{Char, UChar, Short, UShort, Int as Int_kind, UInt, LongLong, ULongLong}
use Rattle.c_types.specs.declared.parts.Ty.{Ty}
use Rattle.c_types.specs.declared.parts.Ty.TheVariants.{Int, Pointer, VoidPointer, Function, Struct, Union, Array}
use Rattle.c_types.specs.declared.parts.FieldDef.{FieldDef}
use Rattle.c_types.specs.declared.parts.Parts.{Parts}
use Rattle.c_types.specs.declared.path.Step.{Step}
use Rattle.c_types.specs.declared.path.Step.TheVariants.{Index, Field, Member}
use Rattle.c_types.specs.Tables.{fields_of, members_of}
use Rattle.c_types.specs.Chain.{field_types, held_in, held_by, is_settled}
use Rattle.c_types.specs.Recursion.{at_type, by_fuel}
use Rattle.c_types.specs.Layout.{shape, int_size, next_multiple, IsMultiple, Shapes, greatest_align, greatest_size, field_end, fields_end, members_start, union_align, shape_step, shape_of, size_of, align_of, field_offset, member_offset}
use Rattle.c_types.specs.declared.path.Place.{Place}
use Rattle.c_types.specs.Place.{place, shifted, step_place, path_place}
use Rattle.c_types.specs.Refusal.{IsBuilt}
use Rattle.c_types.proofs.Numbered.{pointer_aligned}
use Rattle.c_types.proofs.Alignment.{IsAlignment, IsAlignment-low, IsMultiple-greater, IsMultiple-times, IsMultiple-trans, IsMultiple-next}
use Rattle.c_types.proofs.Capped.{next_multiple-above, fuel-low}
use Rattle.c_types.proofs.Shapes.{greatest_align-low}
use Rattle.c_types.proofs.FieldLaws.{align-greatest, size-greatest, nth-aligned, end-above, fields_end-above, nth-within}
use Rattle.c_types.proofs.MarkLemmas.{held_known}
use Rattle.c_types.proofs.Settled.{settled-edge}
use Rattle.c_types.proofs.ShapeLaws.{shape-sound, IsAlignment-greatest, settled, shape_of-is, struct-some, length-low}

abbrev or_place : Option Place → Place
or_place None = place 0 0
or_place (Some q) = q

pub same-place : (a b c d : ℕ) → ◌≡◌ {A = Option Place} (Some (place a b)) (Some (place c d)) → (a ≡ c) × (b ≡ d)
same-place a b c d e = (ap (λ o. (or_place o).ty) e, ap (λ o. (or_place o).offset) e)

-- what the step to an element, to a field or to a member says
pub index-step : (b : Bool) (q : Place) (to : Place) → (if b then Some q else None) ≡ Some to → (b ≡ true) × (q ≡ to)
index-step true q to e = (refl, cc)
index-step false q to e = cc

pub field-step : (o : Option FieldDef) (at : ℕ) (to : Place) → option_map (λ f. place f.ty at) o ≡ Some to → (f : FieldDef) × (o ≡ Some f) × (place f.ty at ≡ to)
field-step None at to e = cc
field-step (Some f) at to e = (f, refl, cc)

contains-field : (fields : List FieldDef) (k : ℕ) (f : FieldDef) → slice_get fields k ≡ Some f → Contains (field_types fields) f.ty
contains-field [] k f e = cc
contains-field (d ∷ fs) zero f e = let q : d ≡ f = cc in (0, omega arith, ap (λ d. d.ty) q)
contains-field (d ∷ fs) (suc k) f e = let i = contains-field fs k f e in (suc i.0, omega (arith, i.1), i.2)

pub after : (i j z : ℕ) → i < j → i * z + z ≤ j * z
after i j z h = let m = mul-le-mul_left {m = suc i} {n = j} z (omega arith) in omega (arith, m)

-- a step leads to a type that is held
pub step-held : (p : Parts) (o : Option Ty) (s : Step) (to : Place) → step_place p o s ≡ Some to → Contains (held_in p o) to.ty
step-held p None s to e = cc
step-held p (Some (Int k)) s to e = cc
step-held p (Some (Pointer t)) s to e = cc
step-held p (Some VoidPointer) s to e = cc
step-held p (Some (Function g)) s to e = cc
step-held p (Some (Struct r)) (Index k) to e = cc
step-held p (Some (Struct r)) (Member k) to e = cc
step-held p (Some (Struct r)) (Field k) to e =
    let f = field-step (slice_get (fields_of p r) k) (field_offset p r k) to e in
    let P : Place → Type 0 = λ q. Contains (field_types (fields_of p r)) q.ty in
    subst P f.2 (contains-field (fields_of p r) k f.0 f.1)
step-held p (Some (Union r)) (Index k) to e = cc
step-held p (Some (Union r)) (Field k) to e = cc
step-held p (Some (Union r)) (Member k) to e =
    let f = field-step (slice_get (members_of p r) k) (member_offset p r) to e in
    let P : Place → Type 0 = λ q. Contains (field_types (members_of p r)) q.ty in
    subst P f.2 (contains-field (members_of p r) k f.0 f.1)
step-held p (Some (Array t n)) (Field k) to e = cc
step-held p (Some (Array t n)) (Member k) to e = cc
step-held p (Some (Array t n)) (Index i) to e =
    let q = index-step (nat_lt i n) (place t (i * size_of p t)) to e in (0, omega arith, ap (λ q. q.ty) q.1)

-- what a path that begins with a step says
pub record First (p : Parts) (t : ℕ) (s : Step) (path : List Step) (to : Place) : Type 0 where
  pub part : Place
  pub last : Place
  pub step : step_place p (slice_get p.types t) s ≡ Some part
  pub rest : path_place p part.ty path ≡ Some last
  pub ty : last.ty ≡ to.ty
  pub sum : part.offset + last.offset ≡ to.offset

pub first-of : (p : Parts) (t : ℕ) (s : Step) (path : List Step) (to : Place) → path_place p t (s ∷ path) ≡ Some to → First p t s path to
first-of p t s path to e =
    let a = then_some (step_place p (slice_get p.types t) s) (λ part. then_option (path_place p part.ty path) (shifted part.offset)) to e in
    let b = then_some (path_place p a.0.ty path) (shifted a.0.offset) to a.2 in
    record {
      part = a.0;
      last = b.0;
      step = a.1;
      rest = b.1;
      ty = ap (λ o. (or_place o).ty) b.2;
      sum = ap (λ o. (or_place o).offset) b.2;
    }

module _ (p : Parts) (built : IsBuilt p) where
  pub low : (t : ℕ) → 1 ≤ align_of p t
  low t = IsAlignment-low (shape-sound p (pointer_aligned p built.numbered) t).aligned

  -- no size is zero
  step-some : (known : Shapes) → ((t : ℕ) → 1 ≤ (known t).align) → (t : ℕ) (ty : Ty) → slice_get p.types t ≡ Some ty → ((u : ℕ) → Contains (held_in p (Some ty)) u → 0 < (known u).size) → 0 < (shape_step p known ty).size
  step-some known low t (Int k) e some = by_kind k
    where
      by_kind : (k : IntKind) → 0 < int_size k
      by_kind Char = omega arith
      by_kind UChar = omega arith
      by_kind Short = omega arith
      by_kind UShort = omega arith
      by_kind Int_kind = omega arith
      by_kind UInt = omega arith
      by_kind LongLong = omega arith
      by_kind ULongLong = omega arith
  step-some known low t (Pointer u) e some = IsAlignment-low (pointer_aligned p built.numbered)
  step-some known low t VoidPointer e some = IsAlignment-low (pointer_aligned p built.numbered)
  step-some known low t (Function g) e some = IsAlignment-low (pointer_aligned p built.numbered)
  step-some known low t (Struct s) e some = by_fields (fields_of p s) refl some
    where
      by_fields : (fields : List FieldDef) → fields_of p s ≡ fields → ((u : ℕ) → Contains (field_types fields) u → 0 < (known u).size) → 0 < next_multiple (fields_end known 0 fields) (greatest_align known fields)
      by_fields [] none some = absurd (struct-some p built t s e none)
      by_fields (d ∷ fs) same some =
          let here = some d.ty (0, omega arith, refl) in
          let a = end-above known low 0 d in
          let b = fields_end-above known low fs (field_end known 0 d) in
          let c = next_multiple-above (fields_end known 0 (d ∷ fs)) (greatest_align known (d ∷ fs)) (greatest_align-low known (d ∷ fs)) in
          omega (arith, here, a, b, c)
  step-some known low t (Union u) e some =
      let members = members_of p u in
      let a = next_multiple-above 4 (greatest_align known members) (greatest_align-low known members) in
      let b = next_multiple-above (members_start known members + greatest_size known members) (union_align known members) (omega arith) in
      omega (arith, a, b)
  step-some known low t (Array u n) e some =
      let here = some u (0, omega arith, refl) in
      let one = length-low p built t u n e in
      let m = mul-le-mul_left {m = 1} {n = n} (known u).size one in omega (arith, here, m)

  fuel-some : (k t : ℕ) → is_settled (held_by p) k t ≡ true → t < length p.types → 0 < (by_fuel p (shape_step p) (shape 0 1) k t).size
  fuel-some zero t h lt = cc
  fuel-some (suc k) t h lt = by_entry (slice_get p.types t) refl (λ u c. fuel-some k u (settled-edge (held_by p) k t u h c) (held_known p built.numbered t u c))
    where
      none_within : {A : Type 0} (xs : List A) (n : ℕ) → slice_get xs n ≡ None → n < length xs → ⊥
      none_within [] n e h = omega arith
      none_within (x ∷ xs) zero e h = cc
      none_within (x ∷ xs) (suc n) e h = none_within xs n e (omega arith)

      by_entry : (o : Option Ty) → slice_get p.types t ≡ o → ((u : ℕ) → Contains (held_in p o) u → 0 < (by_fuel p (shape_step p) (shape 0 1) k u).size) → 0 < (at_type (shape_step p (by_fuel p (shape_step p) (shape 0 1) k)) (shape 0 1) o).size
      by_entry None e some = absurd (none_within p.types t e lt)
      by_entry (Some ty) e some = step-some (by_fuel p (shape_step p) (shape 0 1) k) (fuel-low p (IsAlignment-low (pointer_aligned p built.numbered)) k) t ty e some

  pub size-low : (t : ℕ) → t < length p.types → 0 < size_of p t
  size-low t lt = fuel-some (length p.types) t (settled p built t lt) lt

  -- a part lies inside
  pub step-within : (t : ℕ) (o : Option Ty) (s : Step) (to : Place) → slice_get p.types t ≡ o → step_place p o s ≡ Some to → to.offset + size_of p to.ty ≤ size_of p t
  step-within t None s to k e = cc
  step-within t (Some (Int i)) s to k e = cc
  step-within t (Some (Pointer u)) s to k e = cc
  step-within t (Some VoidPointer) s to k e = cc
  step-within t (Some (Function g)) s to k e = cc
  step-within t (Some (Struct r)) (Index i) to k e = cc
  step-within t (Some (Struct r)) (Member i) to k e = cc
  step-within t (Some (Struct r)) (Field i) to k e =
      let known = shape_of p in
      let fields = fields_of p r in
      let f = field-step (slice_get fields i) (field_offset p r i) to e in
      let a = nth-within known low fields 0 i f.0 f.1 in
      let b = next_multiple-above (fields_end known 0 fields) (greatest_align known fields) (greatest_align-low known fields) in
      let size = ap (λ s. s.size) (shape_of-is p built t (Struct r) k) in
      omega (arith, a, b, size, ap (λ q. q.offset + size_of p q.ty) f.2)
  step-within t (Some (Union r)) (Index i) to k e = cc
  step-within t (Some (Union r)) (Field i) to k e = cc
  step-within t (Some (Union r)) (Member i) to k e =
      let known = shape_of p in
      let members = members_of p r in
      let f = field-step (slice_get members i) (member_offset p r) to e in
      let a = size-greatest known members i f.0 f.1 in
      let b = next_multiple-above (members_start known members + greatest_size known members) (union_align known members) (omega arith) in
      let size = ap (λ s. s.size) (shape_of-is p built t (Union r) k) in
      omega (arith, a, b, size, ap (λ q. q.offset + size_of p q.ty) f.2)
  step-within t (Some (Array u n)) (Field i) to k e = cc
  step-within t (Some (Array u n)) (Member i) to k e = cc
  step-within t (Some (Array u n)) (Index i) to k e =
      let q = index-step (nat_lt i n) (place u (i * size_of p u)) to e in
      let lt : i < n = grind (arith, nat_tests, q.0) in
      let m = after i n (size_of p u) lt in
      let size = ap (λ s. s.size) (shape_of-is p built t (Array u n) k) in
      omega (arith, m, size, ap (λ q. q.offset + size_of p q.ty) q.1)

  -- a part is aligned, and its alignment is no greater
  pub record IsAlignedPart (t : ℕ) (to : Place) : Type 0 where
    pub offset : IsMultiple to.offset (align_of p to.ty)
    pub lower : align_of p to.ty ≤ align_of p t

  pub step-aligned : (t : ℕ) (o : Option Ty) (s : Step) (to : Place) → slice_get p.types t ≡ o → step_place p o s ≡ Some to → IsAlignedPart t to
  step-aligned t None s to k e = cc
  step-aligned t (Some (Int i)) s to k e = cc
  step-aligned t (Some (Pointer u)) s to k e = cc
  step-aligned t (Some VoidPointer) s to k e = cc
  step-aligned t (Some (Function g)) s to k e = cc
  step-aligned t (Some (Struct r)) (Index i) to k e = cc
  step-aligned t (Some (Struct r)) (Member i) to k e = cc
  step-aligned t (Some (Struct r)) (Field i) to k e =
      let known = shape_of p in
      let fields = fields_of p r in
      let f = field-step (slice_get fields i) (field_offset p r i) to e in
      let align = ap (λ s. s.align) (shape_of-is p built t (Struct r) k) in
      let le = align-greatest known fields i f.0 f.1 in
      subst (IsAlignedPart t) f.2 (record { offset = nth-aligned known fields 0 i f.0 f.1; lower = omega (arith, align, le) })
  step-aligned t (Some (Union r)) (Index i) to k e = cc
  step-aligned t (Some (Union r)) (Field i) to k e = cc
  step-aligned t (Some (Union r)) (Member i) to k e =
      let known = shape_of p in
      let members = members_of p r in
      let f = field-step (slice_get members i) (member_offset p r) to e in
      let align = ap (λ s. s.align) (shape_of-is p built t (Union r) k) in
      let le = align-greatest known members i f.0 f.1 in
      let divides = IsMultiple-greater (shape-sound p (pointer_aligned p built.numbered) f.0.ty).aligned (IsAlignment-greatest known (shape-sound p (pointer_aligned p built.numbered)) members) le in
      subst (IsAlignedPart t) f.2 (record {
        offset = IsMultiple-trans (members_start known members) (greatest_align known members) (align_of p f.0.ty) (IsMultiple-next 4 (greatest_align known members)) divides;
        lower = omega (arith, align, le);
      })
  step-aligned t (Some (Array u n)) (Field i) to k e = cc
  step-aligned t (Some (Array u n)) (Member i) to k e = cc
  step-aligned t (Some (Array u n)) (Index i) to k e =
      let q = index-step (nat_lt i n) (place u (i * size_of p u)) to e in
      let align = ap (λ s. s.align) (shape_of-is p built t (Array u n) k) in
      let whole = IsMultiple-times (size_of p u) i (align_of p u) (shape-sound p (pointer_aligned p built.numbered) u).whole in
      let turned : size_of p u * i ≡ i * size_of p u = omega arith in
      let P : ℕ → Type 0 = λ x. IsMultiple x (align_of p u) in
      subst (IsAlignedPart t) q.1 (record { offset = subst P turned whole; lower = omega (arith, align) })
