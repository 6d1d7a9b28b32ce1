-- Laws of paths and of the places of an object: a place lies inside, is aligned, and two places outside unions share
-- bytes only where one is in the other.
use Rattle.std.proofs.Common.{◌≡◌, ◌∙◌, sym, ap, subst, refl, ℕ, ◌<◌, ◌≤◌, ◌+◌, ◌*◌, Bool, true, false, ◌||◌, ◌⊎◌, inl, inr, nat_lt, List, [], ◌∷◌, ◌++◌, length, Option, Some, None, slice_get, arith}
use Rattle.std.proofs.lemmas.Bool.{cases_order}
use Rattle.lu_spec.specs.Prefix.{IsPrefix}
use Rattle.lu_spec.proofs.PrefixLemmas.{IsPrefix-nil}
use Rattle.c_types.specs.declared.parts.Ty.{Ty}
use Rattle.c_types.specs.declared.parts.Ty.TheVariants.{Int, Pointer, VoidPointer, Function, Struct, Union, Array}
use Rattle.c_types.specs.declared.parts.FieldDef.{FieldDef}
use Rattle.c_types.specs.declared.parts.Parts.{Parts}
use Rattle.c_types.specs.declared.path.Step.{Step}
use Rattle.c_types.specs.declared.path.Step.TheVariants.{Index, Field, Member}
use Rattle.c_types.specs.Tables.{fields_of}
use Rattle.c_types.specs.Recursion.{depth}
use Rattle.c_types.specs.Layout.{IsMultiple, shape_of, size_of, align_of, field_offset}
use Rattle.c_types.specs.declared.path.Place.{Place}
use Rattle.c_types.specs.Place.{place, step_place, path_place, is_member, IsOutsideUnions}
use Rattle.c_types.specs.Refusal.{IsBuilt}
use Rattle.c_types.proofs.Numbered.{pointer_aligned}
use Rattle.c_types.proofs.Alignment.{IsMultiple-greater, IsMultiple-zero, IsMultiple-trans, IsMultiple-add}
use Rattle.c_types.proofs.FieldLaws.{nth-before}
use Rattle.c_types.proofs.MarkLemmas.{held_known}
use Rattle.c_types.proofs.Settled.{depth-falls}
use Rattle.c_types.proofs.ShapeLaws.{shape-sound, settled}
use Rattle.c_types.proofs.PlaceLaws.{same-place, index-step, field-step, after, step-held, First, first-of, low, step-within, IsAlignedPart, step-aligned}

pub or_false : (a b : Bool) → a || b ≡ false → (a ≡ false) × (b ≡ false)
or_false true b h = (h, cc)
or_false false b h = (refl, h)

-- one place ends before the other begins
abbrev pub Apart : Parts → Place → Place → Type 0
Apart p a b = (a.offset + size_of p a.ty ≤ b.offset) ⊎ (b.offset + size_of p b.ty ≤ a.offset)

-- one path goes on from the other
abbrev pub IsNested : List Step → List Step → Type 0
IsNested a b = IsPrefix a b ⊎ IsPrefix b a

-- two steps are one, or lead to parts that are apart
steps-apart : (p : Parts) → ((t : ℕ) → 1 ≤ align_of p t) → (o : Option Ty) (a b : Step) (x y : Place) → is_member a ≡ false → step_place p o a ≡ Some x → step_place p o b ≡ Some y → (a ≡ b) ⊎ Apart p x y
steps-apart p low None a b x y m e f = cc
steps-apart p low (Some (Int k)) a b x y m e f = cc
steps-apart p low (Some (Pointer t)) a b x y m e f = cc
steps-apart p low (Some VoidPointer) a b x y m e f = cc
steps-apart p low (Some (Function g)) a b x y m e f = cc
steps-apart p low (Some (Union u)) (Index i) b x y m e f = cc
steps-apart p low (Some (Union u)) (Field i) b x y m e f = cc
steps-apart p low (Some (Union u)) (Member i) b x y m e f = cc
steps-apart p low (Some (Struct s)) (Index i) b x y m e f = cc
steps-apart p low (Some (Struct s)) (Member i) b x y m e f = cc
steps-apart p low (Some (Struct s)) (Field i) (Index j) x y m e f = cc
steps-apart p low (Some (Struct s)) (Field i) (Member j) x y m e f = cc
steps-apart p low (Some (Struct s)) (Field i) (Field j) x y m e f = by_order (cases_order i j)
  where
    one : (d : FieldDef) × (slice_get (fields_of p s) i ≡ Some d) × (place d.ty (field_offset p s i) ≡ x)
    one = field-step (slice_get (fields_of p s) i) (field_offset p s i) x e

    other : (d : FieldDef) × (slice_get (fields_of p s) j ≡ Some d) × (place d.ty (field_offset p s j) ≡ y)
    other = field-step (slice_get (fields_of p s) j) (field_offset p s j) y f

    ends : place one.0.ty (field_offset p s i) ≡ x → field_offset p s i + size_of p one.0.ty ≡ x.offset + size_of p x.ty
    ends q = ap (λ q. q.offset + size_of p q.ty) q

    by_order : (i ≡ j) ⊎ ((i < j) ⊎ (j < i)) → (Field i ≡ Field j) ⊎ Apart p x y
    by_order (inl h) = inl (ap Field h)
    by_order (inr (inl h)) =
        let before = nth-before (shape_of p) low (fields_of p s) 0 i j one.0 other.0 one.1 other.1 h in
        inr (inl (omega (arith, before, ap (λ q. q.offset + size_of p q.ty) one.2, ap (λ q. q.offset) other.2)))
    by_order (inr (inr h)) =
        let before = nth-before (shape_of p) low (fields_of p s) 0 j i other.0 one.0 other.1 one.1 h in
        inr (inr (omega (arith, before, ap (λ q. q.offset + size_of p q.ty) other.2, ap (λ q. q.offset) one.2)))
steps-apart p low (Some (Array t n)) (Field i) b x y m e f = cc
steps-apart p low (Some (Array t n)) (Member i) b x y m e f = cc
steps-apart p low (Some (Array t n)) (Index i) (Field j) x y m e f = cc
steps-apart p low (Some (Array t n)) (Index i) (Member j) x y m e f = cc
steps-apart p low (Some (Array t n)) (Index i) (Index j) x y m e f = by_order (cases_order i j)
  where
    one : (nat_lt i n ≡ true) × (place t (i * size_of p t) ≡ x)
    one = index-step (nat_lt i n) (place t (i * size_of p t)) x e

    other : (nat_lt j n ≡ true) × (place t (j * size_of p t) ≡ y)
    other = index-step (nat_lt j n) (place t (j * size_of p t)) y f

    by_order : (i ≡ j) ⊎ ((i < j) ⊎ (j < i)) → (Index i ≡ Index j) ⊎ Apart p x y
    by_order (inl h) = inl (ap Index h)
    by_order (inr (inl h)) =
        let m = after i j (size_of p t) h in
        inr (inl (omega (arith, m, ap (λ q. q.offset + size_of p q.ty) one.1, ap (λ q. q.offset) other.1)))
    by_order (inr (inr h)) =
        let m = after j i (size_of p t) h in
        inr (inr (omega (arith, m, ap (λ q. q.offset + size_of p q.ty) other.1, ap (λ q. q.offset) one.1)))

module _ (p : Parts) (built : IsBuilt p) where
  -- the place of a path lies inside the type
  pub path-within : (t : ℕ) (path : List Step) (to : Place) → path_place p t path ≡ Some to → to.offset + size_of p to.ty ≤ size_of p t
  path-within t [] to e = let q = same-place t 0 to.ty to.offset e in omega (arith, q.1, ap (size_of p) q.0)
  path-within t (s ∷ path) to e =
      let f = first-of p t s path to e in
      let i = path-within f.part.ty path f.last f.rest in
      let j = step-within p built t (slice_get p.types t) s f.part refl f.step in
      omega (arith, i, j, f.sum, ap (size_of p) f.ty)

  pub path-known : (t : ℕ) (path : List Step) (to : Place) → t < length p.types → path_place p t path ≡ Some to → to.ty < length p.types
  path-known t [] to k e = let q = same-place t 0 to.ty to.offset e in omega (arith, q.0)
  path-known t (s ∷ path) to k e =
      let f = first-of p t s path to e in
      let known = held_known p built.numbered t f.part.ty (step-held p (slice_get p.types t) s f.part f.step) in
      let i = path-known f.part.ty path f.last known f.rest in omega (arith, i, f.ty)

  -- the depth falls along a path
  pub path-depth : (t : ℕ) (path : List Step) (to : Place) → t < length p.types → path_place p t path ≡ Some to → depth p to.ty + length path ≤ depth p t
  path-depth t [] to k e = let q = same-place t 0 to.ty to.offset e in omega (arith, ap (depth p) q.0)
  path-depth t (s ∷ path) to k e =
      let f = first-of p t s path to e in
      let held = step-held p (slice_get p.types t) s f.part f.step in
      let known = held_known p built.numbered t f.part.ty held in
      let i = path-depth f.part.ty path f.last known f.rest in
      let j = depth-falls p t f.part.ty (settled p built t k) held in
      omega (arith, i, j, ap (depth p) f.ty)

  -- the place of a path is aligned, and its alignment is no greater
  pub path-aligned : (t : ℕ) (path : List Step) (to : Place) → path_place p t path ≡ Some to → IsAlignedPart p built t to
  path-aligned t [] to e =
      let q = same-place t 0 to.ty to.offset e in
      let P : ℕ → Type 0 = λ x. IsMultiple x (align_of p to.ty) in
      record { offset = subst P q.1 (IsMultiple-zero (align_of p to.ty)); lower = omega (arith, ap (align_of p) q.0) }
  path-aligned t (s ∷ path) to e =
      let f = first-of p t s path to e in
      let i = path-aligned f.part.ty path f.last f.rest in
      let j = step-aligned p built t (slice_get p.types t) s f.part refl f.step in
      let divides = IsMultiple-greater (shape-sound p (pointer_aligned p built.numbered) f.last.ty).aligned (shape-sound p (pointer_aligned p built.numbered) f.part.ty).aligned i.lower in
      let part = IsMultiple-trans f.part.offset (align_of p f.part.ty) (align_of p f.last.ty) j.offset divides in
      let both = IsMultiple-add f.part.offset f.last.offset (align_of p f.last.ty) part i.offset in
      let P : ℕ → Type 0 = λ x. IsMultiple x (align_of p to.ty) in
      let Q : ℕ → Type 0 = λ t. IsMultiple (f.part.offset + f.last.offset) (align_of p t) in
      record { offset = subst P f.sum (subst Q f.ty both); lower = omega (arith, i.lower, j.lower, ap (align_of p) f.ty) }

  -- two places outside unions are apart, or one is in the other
  pub path-apart : (t : ℕ) (a b : List Step) (x y : Place) → IsOutsideUnions a → path_place p t a ≡ Some x → path_place p t b ≡ Some y → Apart p x y ⊎ IsNested a b
  path-apart t [] b x y m e f = inr (inl (IsPrefix-nil b))
  path-apart t (s ∷ a) [] x y m e f = inr (inr (IsPrefix-nil (s ∷ a)))
  path-apart t (s ∷ a) (r ∷ b) x y m e f =
      let one = first-of p t s a x e in
      let other = first-of p t r b y f in
      by_steps one other (steps-apart p (low p built) (slice_get p.types t) s r one.part other.part (or_false (is_member s) _ m).0 one.step other.step) (λ z g. path-apart one.part.ty a b one.last z (or_false (is_member s) _ m).1 one.rest g)
    where
      by_steps : (one : First p t s a x) (other : First p t r b y) → (s ≡ r) ⊎ Apart p one.part other.part → ((z : Place) → path_place p one.part.ty b ≡ Some z → Apart p one.last z ⊎ IsNested a b) → Apart p x y ⊎ IsNested (s ∷ a) (r ∷ b)
      by_steps one other (inr (inl h)) below =
          let i = path-within one.part.ty a one.last one.rest in
          inl (inl (omega (arith, h, i, one.sum, other.sum, ap (size_of p) one.ty)))
      by_steps one other (inr (inr h)) below =
          let i = path-within other.part.ty b other.last other.rest in
          inl (inr (omega (arith, h, i, one.sum, other.sum, ap (size_of p) other.ty)))
      by_steps one other (inl same) below = by_rest (below other.last (ap (λ u. path_place p u b) q.0 ∙ other.rest))
        where
          q : (one.part.ty ≡ other.part.ty) × (one.part.offset ≡ other.part.offset)
          q = same-place one.part.ty one.part.offset other.part.ty other.part.offset (sym one.step ∙ (ap (step_place p (slice_get p.types t)) same ∙ other.step))

          by_rest : Apart p one.last other.last ⊎ IsNested a b → Apart p x y ⊎ IsNested (s ∷ a) (r ∷ b)
          by_rest (inl (inl h)) = inl (inl (omega (arith, h, one.sum, other.sum, q.1, ap (size_of p) one.ty)))
          by_rest (inl (inr h)) = inl (inr (omega (arith, h, one.sum, other.sum, q.1, ap (size_of p) other.ty)))
          by_rest (inr (inl (rest, h))) = inr (inl (rest, ap (λ l. r ∷ l) h ∙ ap (λ z. z ∷ (a ++ rest)) (sym same)))
          by_rest (inr (inr (rest, h))) = inr (inr (rest, ap (λ l. s ∷ l) h ∙ ap (λ z. z ∷ (b ++ rest)) same))
