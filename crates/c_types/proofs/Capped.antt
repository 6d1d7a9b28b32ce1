-- Shapes with capped sizes follow the shapes.
use Rattle.std.proofs.Common.{◌≡◌, ◌∙◌, ap, refl, ℕ, zero, suc, ◌<◌, ◌≤◌, ◌+◌, ◌*◌, max, min, ◌⊎◌, inl, inr, List, [], ◌∷◌, map, replicate, length, Option, Some, None, slice_get, arith}
use mathlib.Core.Path.{fun_ext}
use Rattle.std.proofs.Math.Nat.{mul-le-mul_left}
use Rattle.std.proofs.lemmas.Bool.{cases_lt}
use Rattle.std.specs.Option.{option_map_or}
use Rattle.c_types.specs.declared.parts.IntKind.{IntKind}
use Rattle.c_types.specs.declared.parts.IntKind.TheVariants.{Char, UChar, Short, UShort, Int as Int_kind, UInt, LongLong, ULongLong}
use Rattle.c_types.specs.declared.parts.Ty.{Ty}
use Rattle.c_types.specs.declared.parts.Ty.TheVariants.{Int, Pointer, VoidPointer, Function, Struct, Union, Array}
use Rattle.c_types.specs.declared.parts.FieldDef.{FieldDef}
use Rattle.c_types.specs.declared.parts.Parts.{Parts}
use Rattle.c_types.specs.declared.shape.Shape.{Shape}
use Rattle.c_types.specs.Tables.{fields_of, members_of}
use Rattle.c_types.specs.Recursion.{at_type, by_fuel}
use Rattle.c_types.specs.Layout.{greatest, shape, next_multiple, int_size, Shapes, greatest_align, greatest_size, field_start, field_end, fields_end, members_start, union_align, shape_step}
use Rattle.c_types.specs.Rounds.{shape_at, capped, round_shape, shape_rounds}
use Rattle.c_types.proofs.Shapes.{greatest_align-low}

-- two sizes are equal, or both too big
abbrev Alike : ℕ → ℕ → Type 0
Alike a b = (a ≡ b) ⊎ ((greatest < a) × (greatest < b))

alike-min : (a b : ℕ) → Alike a b → min a (greatest + 1) ≡ min b (greatest + 1)
alike-min a b (inl e) = ap (λ n. min n (greatest + 1)) e
alike-min a b (inr (h, k)) = omega arith

min-alike : (a : ℕ) → Alike (min a (greatest + 1)) a
min-alike a = by_case (cases_lt greatest a)
  where
    by_case : (greatest < a) ⊎ (a ≤ greatest) → Alike (min a (greatest + 1)) a
    by_case (inl h) = inr (omega arith, h)
    by_case (inr h) = inl (omega arith)

pub next_multiple-above : (n a : ℕ) → 1 ≤ a → n ≤ next_multiple n a
next_multiple-above n a h = omega arith

alike-multiple : (a b n : ℕ) → 1 ≤ n → Alike a b → Alike (next_multiple a n) (next_multiple b n)
alike-multiple a b n low (inl e) = inl (ap (λ m. next_multiple m n) e)
alike-multiple a b n low (inr (h, k)) =
    let i = next_multiple-above a n low in
    let j = next_multiple-above b n low in inr (omega (arith, i), omega (arith, j))

alike-add : (a b c d : ℕ) → Alike a b → Alike c d → Alike (a + c) (b + d)
alike-add a b c d (inl e) (inl f) = inl (ap (λ n. n + c) e ∙ ap (λ n. b + n) f)
alike-add a b c d (inl e) (inr (h, k)) = inr (omega arith, omega arith)
alike-add a b c d (inr (h, k)) q = inr (omega arith, omega arith)

alike-max : (a b c d : ℕ) → Alike a b → Alike c d → Alike (max a c) (max b d)
alike-max a b c d (inl e) (inl f) = inl (ap (λ n. max n c) e ∙ ap (λ n. max b n) f)
alike-max a b c d (inl e) (inr (h, k)) = inr (omega arith, omega arith)
alike-max a b c d (inr (h, k)) q = inr (omega arith, omega arith)

alike-times : (a b n : ℕ) → Alike a b → Alike (a * n) (b * n)
alike-times a b n (inl e) = inl (ap (λ m. m * n) e)
alike-times a b zero (inr h) = inl (omega arith)
alike-times a b (suc n) (inr (h, k)) =
    inr ((let m = mul-le-mul_left {m = 1} {n = suc n} a (omega arith) in omega (arith, m)), (let m = mul-le-mul_left {m = 1} {n = suc n} b (omega arith) in omega (arith, m)))

-- the shapes of the types, with their sizes capped
abbrev cut : Shapes → Shapes
cut known t = capped (known t)

module _ (known : Shapes) where
  cut-align : (fields : List FieldDef) → greatest_align (cut known) fields ≡ greatest_align known fields
  cut-align [] = refl
  cut-align (f ∷ fs) = ap (λ a. max (known f.ty).align a) (cut-align fs)

  cut-size : (fields : List FieldDef) → Alike (greatest_size (cut known) fields) (greatest_size known fields)
  cut-size [] = inl refl
  cut-size (f ∷ fs) = alike-max _ (known f.ty).size _ (greatest_size known fs) (min-alike (known f.ty).size) (cut-size fs)

  cut-end : ((t : ℕ) → 1 ≤ (known t).align) → (fields : List FieldDef) (a b : ℕ) → Alike a b → Alike (fields_end (cut known) a fields) (fields_end known b fields)
  cut-end low [] a b h = h
  cut-end low (f ∷ fs) a b h =
      cut-end low fs (field_end (cut known) a f) (field_end known b f) (alike-add _ (field_start known b f) _ (known f.ty).size (alike-multiple a b (known f.ty).align (low f.ty) h) (min-alike (known f.ty).size))

same_shape : (a b n m : ℕ) → Alike a b → n ≡ m → capped (shape a n) ≡ capped (shape b m)
same_shape a b n m h e = ap (λ s. shape s n) (alike-min a b h) ∙ ap (shape (min b (greatest + 1))) e

pub capped-step : (p : Parts) (known : Shapes) → ((t : ℕ) → 1 ≤ (known t).align) → (ty : Ty) → capped (shape_step p (cut known) ty) ≡ capped (shape_step p known ty)
capped-step p known low (Int k) = refl
capped-step p known low (Pointer t) = refl
capped-step p known low VoidPointer = refl
capped-step p known low (Function g) = refl
capped-step p known low (Struct s) =
    let fs = fields_of p s in
    let align = cut-align known fs in
    let end = cut-end known low fs 0 0 (inl refl) in
    let rounded = alike-multiple _ (fields_end known 0 fs) (greatest_align known fs) (greatest_align-low known fs) end in
    ap (λ a. capped (shape (next_multiple (fields_end (cut known) 0 fs) a) a)) align ∙ same_shape _ (next_multiple (fields_end known 0 fs) (greatest_align known fs)) _ (greatest_align known fs) rounded refl
capped-step p known low (Union u) =
    let fs = members_of p u in
    let align = cut-align known fs in
    let ends = alike-add (members_start known fs) (members_start known fs) _ (greatest_size known fs) (inl refl) (cut-size known fs) in
    let rounded = alike-multiple _ (members_start known fs + greatest_size known fs) (union_align known fs) (omega arith) ends in
    ap (λ a. capped (shape (next_multiple (next_multiple 4 a + greatest_size (cut known) fs) (max 4 a)) (max 4 a))) align ∙ same_shape _ (next_multiple (members_start known fs + greatest_size known fs) (union_align known fs)) _ (union_align known fs) rounded refl
capped-step p known low (Array t n) =
    same_shape _ ((known t).size * n) _ (known t).align (alike-times _ (known t).size n (min-alike (known t).size)) refl

int_size-low : (k : IntKind) → 1 ≤ int_size k
int_size-low Char = omega arith
int_size-low UChar = omega arith
int_size-low Short = omega arith
int_size-low UShort = omega arith
int_size-low Int_kind = omega arith
int_size-low UInt = omega arith
int_size-low LongLong = omega arith
int_size-low ULongLong = omega arith

module _ (p : Parts) (pointer : 1 ≤ p.pointer) where
  step-low : (known : Shapes) → ((t : ℕ) → 1 ≤ (known t).align) → (ty : Ty) → 1 ≤ (shape_step p known ty).align
  step-low known low (Int k) = int_size-low k
  step-low known low (Pointer t) = pointer
  step-low known low VoidPointer = pointer
  step-low known low (Function g) = pointer
  step-low known low (Struct s) = greatest_align-low known (fields_of p s)
  step-low known low (Union u) = omega arith
  step-low known low (Array t n) = low t

  pub fuel-low : (k t : ℕ) → 1 ≤ (by_fuel p (shape_step p) (shape 0 1) k t).align
  fuel-low zero t = omega arith
  fuel-low (suc k) t = by_entry (slice_get p.types t) (fuel-low k)
    where
      by_entry : (o : Option Ty) → ((u : ℕ) → 1 ≤ (by_fuel p (shape_step p) (shape 0 1) k u).align) → 1 ≤ (at_type (shape_step p (by_fuel p (shape_step p) (shape 0 1) k)) (shape 0 1) o).align
      by_entry None low = omega arith
      by_entry (Some ty) low = step-low (by_fuel p (shape_step p) (shape 0 1) k) low ty

  shape_at-replicate : (n t : ℕ) → shape_at (replicate n (shape 0 1)) t ≡ shape 0 1
  shape_at-replicate zero t = refl
  shape_at-replicate (suc n) zero = refl
  shape_at-replicate (suc n) (suc t) = shape_at-replicate n t

  shape_at-map : (f : Ty → Shape) (types : List Ty) (t : ℕ) → shape_at (map f types) t ≡ option_map_or f (slice_get types t) (shape 0 1)
  shape_at-map f [] t = refl
  shape_at-map f (ty ∷ types) zero = refl
  shape_at-map f (ty ∷ types) (suc t) = shape_at-map f types t

  -- equal shapes of types by number give equal shapes
  pub rounds-capped : (k t : ℕ) → shape_at (shape_rounds p k) t ≡ capped (by_fuel p (shape_step p) (shape 0 1) k t)
  rounds-capped zero t = shape_at-replicate (length p.types) t
  rounds-capped (suc k) t = shape_at-map (round_shape p (shape_rounds p k)) p.types t ∙ by_entry (slice_get p.types t) (rounds-capped k)
    where
      by_entry : (o : Option Ty) → ((u : ℕ) → shape_at (shape_rounds p k) u ≡ capped (by_fuel p (shape_step p) (shape 0 1) k u)) → option_map_or (round_shape p (shape_rounds p k)) o (shape 0 1) ≡ capped (at_type (shape_step p (by_fuel p (shape_step p) (shape 0 1) k)) (shape 0 1) o)
      by_entry None same = refl
      by_entry (Some ty) same =
          let known = by_fuel p (shape_step p) (shape 0 1) k in
          ap (λ (f : Shapes). capped (shape_step p f ty)) (fun_ext same) ∙ capped-step p known (fuel-low k) ty
