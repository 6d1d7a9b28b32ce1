-- Laws of sizes and alignments.
use Rattle.std.proofs.Common.{◌≡◌, ◌∙◌, sym, ap, subst, refl, ℕ, zero, suc, ◌<◌, ◌≤◌, ◌+◌, ◌*◌, max, Bool, true, false, ◌&&◌, ◌||◌, inl, nat_lt, nat_le, List, [], ◌∷◌, ◌++◌, map, length, Option, Some, None, slice_get, arith}
use Rattle.std.proofs.lemmas.Bool.Decides.{nat_tests}
use Rattle.std.proofs.lemmas.Option.{slice_get_within}
use Rattle.std.specs.Prelude.{Contains, IsSomeAnd, not}
use Rattle.c_types.specs.declared.parts.IntKind.TheVariants.{Char, UChar, Short, UShort, Int as Int_kind, UInt, LongLong, ULongLong}
use Rattle.c_types.specs.declared.parts.Ty.{Ty}
use Rattle.c_types.specs.declared.parts.Ty.TheVariants.{Int, Pointer, VoidPointer, Function, Struct, Union, Array}
use Rattle.c_types.specs.declared.parts.TagDef.{TagDef}
use Rattle.c_types.specs.declared.parts.FieldDef.{FieldDef}
use Rattle.c_types.specs.declared.parts.Parts.{Parts}
use Rattle.c_types.specs.declared.shape.Shape.{Shape}
use Rattle.c_types.specs.Tables.{fields_in, fields_of, members_of}
use Rattle.c_types.specs.Chain.{field_types, held_by, is_settled}
use Rattle.c_types.specs.Recursion.{at_type, by_fuel, IsLocal}
use Rattle.c_types.specs.Layout.{greatest, shape, next_multiple, IsMultiple, Shapes, greatest_align, greatest_size, field_end, fields_end, members_start, union_align, shape_step, shape_of, size_of}
use Rattle.c_types.specs.Refusal.{Entry, type_entry, tag_entry, signature_entry, entries, HasNoField, has_bad_length, IsBuilt}
use Rattle.c_types.proofs.Numbered.{type_numbered}
use Rattle.c_types.proofs.Alignment.{IsAlignment, one_byte, two_bytes, four_bytes, eight_bytes, IsAlignment-max, IsMultiple-self, IsMultiple-times, IsMultiple-next}
use Rattle.c_types.proofs.MarkLemmas.{held_known}
use Rattle.c_types.proofs.Settled.{settled_all, by_type-is}

-- an alignment, and a size that is a multiple of it
pub record IsSound (s : Shape) : Type 0 where
  pub aligned : IsAlignment s.align
  pub whole : IsMultiple s.size s.align

module _ (known : Shapes) (sound : (t : ℕ) → IsSound (known t)) where
  pub IsAlignment-greatest : (fields : List FieldDef) → IsAlignment (greatest_align known fields)
  IsAlignment-greatest [] = one_byte
  IsAlignment-greatest (f ∷ fs) = IsAlignment-max (sound f.ty).aligned (IsAlignment-greatest fs)

  step-sound : (p : Parts) → IsAlignment p.pointer → (ty : Ty) → IsSound (shape_step p known ty)
  step-sound p pointer (Int Char) = record { aligned = one_byte; whole = (1, refl) }
  step-sound p pointer (Int UChar) = record { aligned = one_byte; whole = (1, refl) }
  step-sound p pointer (Int Short) = record { aligned = two_bytes; whole = (1, refl) }
  step-sound p pointer (Int UShort) = record { aligned = two_bytes; whole = (1, refl) }
  step-sound p pointer (Int Int_kind) = record { aligned = four_bytes; whole = (1, refl) }
  step-sound p pointer (Int UInt) = record { aligned = four_bytes; whole = (1, refl) }
  step-sound p pointer (Int LongLong) = record { aligned = eight_bytes; whole = (1, refl) }
  step-sound p pointer (Int ULongLong) = record { aligned = eight_bytes; whole = (1, refl) }
  step-sound p pointer (Pointer t) = record { aligned = pointer; whole = IsMultiple-self p.pointer }
  step-sound p pointer VoidPointer = record { aligned = pointer; whole = IsMultiple-self p.pointer }
  step-sound p pointer (Function g) = record { aligned = pointer; whole = IsMultiple-self p.pointer }
  step-sound p pointer (Struct s) = record {
    aligned = IsAlignment-greatest (fields_of p s);
    whole = IsMultiple-next (fields_end known 0 (fields_of p s)) (greatest_align known (fields_of p s));
  }
  step-sound p pointer (Union u) =
      let members = members_of p u in
      record {
        aligned = IsAlignment-max four_bytes (IsAlignment-greatest members);
        whole = IsMultiple-next (members_start known members + greatest_size known members) (union_align known members);
      }
  step-sound p pointer (Array t n) = record {
    aligned = (sound t).aligned;
    whole = IsMultiple-times (known t).size n (known t).align (sound t).whole;
  }

module _ (p : Parts) (pointer : IsAlignment p.pointer) where
  fuel-sound : (k t : ℕ) → IsSound (by_fuel p (shape_step p) (shape 0 1) k t)
  fuel-sound zero t = record { aligned = one_byte; whole = (0, refl) }
  fuel-sound (suc k) t = by_entry (slice_get p.types t) (fuel-sound k)
    where
      by_entry : (o : Option Ty) → ((u : ℕ) → IsSound (by_fuel p (shape_step p) (shape 0 1) k u)) → IsSound (at_type (shape_step p (by_fuel p (shape_step p) (shape 0 1) k)) (shape 0 1) o)
      by_entry None sound = record { aligned = one_byte; whole = (0, refl) }
      by_entry (Some ty) sound = step-sound (by_fuel p (shape_step p) (shape 0 1) k) sound p pointer ty

  -- every type has an alignment, and its size is a multiple of it
  pub shape-sound : (t : ℕ) → IsSound (shape_of p t)
  shape-sound t = fuel-sound (length p.types) t

-- the shape of a type asks only of the types that it holds
module _ (f g : Shapes) where
  align-local : (fields : List FieldDef) → ((u : ℕ) → Contains (field_types fields) u → f u ≡ g u) → greatest_align f fields ≡ greatest_align g fields
  align-local [] same = refl
  align-local (d ∷ fs) same =
      let rest = align-local fs (λ u c. same u (suc c.0, omega (arith, c.1), c.2)) in
      let here = same d.ty (0, omega arith, refl) in
      ap (λ s. max s.align (greatest_align f fs)) here ∙ ap (max (g d.ty).align) rest

  size-local : (fields : List FieldDef) → ((u : ℕ) → Contains (field_types fields) u → f u ≡ g u) → greatest_size f fields ≡ greatest_size g fields
  size-local [] same = refl
  size-local (d ∷ fs) same =
      let rest = size-local fs (λ u c. same u (suc c.0, omega (arith, c.1), c.2)) in
      let here = same d.ty (0, omega arith, refl) in
      ap (λ s. max s.size (greatest_size f fs)) here ∙ ap (max (g d.ty).size) rest

  end-local : (fields : List FieldDef) → ((u : ℕ) → Contains (field_types fields) u → f u ≡ g u) → (end : ℕ) → fields_end f end fields ≡ fields_end g end fields
  end-local [] same end = refl
  end-local (d ∷ fs) same end =
      let here = same d.ty (0, omega arith, refl) in
      let rest = end-local fs (λ u c. same u (suc c.0, omega (arith, c.1), c.2)) (field_end g end d) in
      ap (λ (s : Shape). fields_end f (next_multiple end s.align + s.size) fs) here ∙ rest

pub shape_step-local : (p : Parts) → IsLocal p (shape_step p)
shape_step-local p f g (Int k) same = refl
shape_step-local p f g (Pointer t) same = refl
shape_step-local p f g VoidPointer same = refl
shape_step-local p f g (Function i) same = refl
shape_step-local p f g (Struct s) same =
    ap (λ end. shape (next_multiple end (greatest_align f (fields_of p s))) (greatest_align f (fields_of p s))) (end-local f g (fields_of p s) same 0)
    ∙ ap (λ a. shape (next_multiple (fields_end g 0 (fields_of p s)) a) a) (align-local f g (fields_of p s) same)
shape_step-local p f g (Union u) same =
    ap (λ n. shape (next_multiple (members_start f (members_of p u) + n) (union_align f (members_of p u))) (union_align f (members_of p u))) (size-local f g (members_of p u) same)
    ∙ ap (λ a. shape (next_multiple (next_multiple 4 a + greatest_size g (members_of p u)) (max 4 a)) (max 4 a)) (align-local f g (members_of p u) same)
shape_step-local p f g (Array t n) same = ap (λ (s : Shape). shape (s.size * n) s.align) (same t (0, omega arith, refl))

-- an entry among those before and after it
pub get-after : {A : Type 0} (xs ys : List A) (k : ℕ) → slice_get (xs ++ ys) (length xs + k) ≡ slice_get ys k
get-after [] ys k = let z : 0 + k ≡ k = omega arith in ap (slice_get ys) z
get-after (x ∷ xs) ys k = let z : suc (length xs) + k ≡ suc (length xs + k) = omega arith in ap (slice_get (x ∷ (xs ++ ys))) z ∙ get-after xs ys k

pub get-before : {A : Type 0} (xs ys : List A) (k : ℕ) (x : A) → slice_get xs k ≡ Some x → slice_get (xs ++ ys) k ≡ Some x
get-before [] ys k x e = cc
get-before (y ∷ xs) ys zero x e = e
get-before (y ∷ xs) ys (suc k) x e = get-before xs ys k x e

pub get-map : {A B : Type 0} (f : A → B) (xs : List A) (k : ℕ) (x : A) → slice_get xs k ≡ Some x → slice_get (map f xs) k ≡ Some (f x)
get-map f [] k x e = cc
get-map f (y ∷ xs) zero x e = let q : y ≡ x = cc in ap (λ z. Some (f z)) q
get-map f (y ∷ xs) (suc k) x e = get-map f xs k x e

pub some_within : {A : Type 0} (xs : List A) (k : ℕ) → k < length xs → (x : A) × (slice_get xs k ≡ Some x)
some_within [] k h = absurd (omega arith)
some_within (x ∷ xs) zero h = (x, refl)
some_within (x ∷ xs) (suc k) h = some_within xs k (omega arith)

struct-entry : (p : Parts) (s : ℕ) (tag : TagDef) → slice_get p.structs s ≡ Some tag → slice_get (entries p) (length (map type_entry p.types) + s) ≡ Some (tag_entry tag)
struct-entry p s tag e =
    get-after (map type_entry p.types) _ s ∙ get-before (map tag_entry p.structs) (map tag_entry p.unions ++ map signature_entry p.signatures) s (tag_entry tag) (get-map tag_entry p.structs s tag e)

module _ (p : Parts) (built : IsBuilt p) where
  pub settled : (t : ℕ) → t < length p.types → is_settled (held_by p) (length p.types) t ≡ true
  settled t h = settled_all (held_by p) (length p.types) (held_known p built.numbered) (λ x c. built.acyclic x (inl c)) t h

  -- the equation of a shape
  pub shape_of-is : (t : ℕ) (ty : Ty) → slice_get p.types t ≡ Some ty → shape_of p t ≡ shape_step p (shape_of p) ty
  shape_of-is t ty e =
      by_type-is p (shape_step p) (shape 0 1) (shape_step-local p) t (settled t (slice_get_within p.types t ty e)) ∙ ap (at_type (shape_step p (shape_of p)) (shape 0 1)) e

  pub struct-some : (t s : ℕ) → slice_get p.types t ≡ Some (Struct s) → fields_of p s ≡ [] → ⊥
  struct-some t s e none =
      let h = type_numbered p built.numbered t (Struct s) e in
      let lt : s < length p.structs = grind (arith, nat_tests) in
      let tag = some_within p.structs s lt in
      let empty : tag.0.fields ≡ [] = ap fields_in (sym tag.1) ∙ none in
      let P : Option Entry → Type 0 = λ o. IsSomeAnd o HasNoField in
      built.full (length (map type_entry p.types) + s) (let i : IsSomeAnd (Some (tag_entry tag.0)) HasNoField = empty in subst P (sym (struct-entry p s tag.0 tag.1)) i)

  pub length-low : (t u n : ℕ) → slice_get p.types t ≡ Some (Array u n) → 1 ≤ n
  length-low t u n e = by_test (nat_lt 0 n) refl
    where
      bad : nat_lt 0 n ≡ false → has_bad_length (slice_get p.types t) ≡ true
      bad h = ap has_bad_length e ∙ ap (λ b. not (b && nat_le n greatest)) h

      by_test : (b : Bool) → nat_lt 0 n ≡ b → 1 ≤ n
      by_test true h = grind (arith, nat_tests)
      by_test false h = absurd (built.small t (or_right (nat_lt greatest (size_of p t)) _ (bad h)))
        where
          or_right : (a b : Bool) → b ≡ true → a || b ≡ true
          or_right true b h = refl
          or_right false b h = h
