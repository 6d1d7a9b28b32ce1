-- What a well-numbered table has.
use Rattle.std.proofs.Common.{◌≡◌, ◌∙◌, sym, ap, ℕ, zero, suc, ◌<◌, ◌^◌, ◌-◌, Bool, true, false, ◌&&◌, ◌||◌, nat_eq, inl, inr, List, [], ◌∷◌, length, Option, Some, None, slice_get, arith, refl}
use Rattle.std.proofs.lemmas.Bool.Decides.{nat_tests}
use Rattle.std.specs.List.{list_all}
use Rattle.c_types.proofs.Lists.{and_left, and_right}
use Rattle.c_types.specs.declared.parts.Ty.{Ty}
use Rattle.c_types.specs.declared.parts.Ty.TheVariants.{Pointer, Array}
use Rattle.c_types.specs.declared.parts.TagDef.{TagDef}
use Rattle.c_types.specs.declared.parts.FieldDef.{FieldDef}
use Rattle.c_types.specs.declared.parts.Parts.{Parts}
use Rattle.c_types.specs.Tables.{fields_in, fields_of, members_of}
use Rattle.c_types.specs.Layout.{IsPointerSize}
use Rattle.c_types.proofs.Alignment.{IsAlignment, IsAlignment-pointer}
use Rattle.c_types.specs.Numbering.{is_pointer_size, is_countable, names_entry, type_is_numbered, tag_is_numbered, signature_is_numbered, are_countable, is_well_numbered}

pub and_both : (a b : Bool) → a ≡ true → b ≡ true → a && b ≡ true
and_both true b p q = q
and_both false b p q = p

pub list_all-at : {A : Type 0} (f : A → Bool) (xs : List A) (k : ℕ) (x : A) → list_all f xs ≡ true → slice_get xs k ≡ Some x → f x ≡ true
list_all-at f [] k x h e = cc
list_all-at f (y ∷ ys) zero x h e = let q : y ≡ x = cc in ap f (sym q) ∙ and_left (f y) (list_all f ys) h
list_all-at f (y ∷ ys) (suc k) x h e = list_all-at f ys k x (and_right (f y) (list_all f ys) h) e

pointer-size : (w : ℕ) → is_pointer_size w ≡ true → IsPointerSize w
pointer-size w h = by_four (nat_eq w 4) refl
  where
    by_eight : (b : Bool) → nat_eq w 8 ≡ b → nat_eq w 4 ≡ false → IsPointerSize w
    by_eight true e f = inr (grind (arith, nat_tests))
    by_eight false e f = absurd (cc)

    by_four : (b : Bool) → nat_eq w 4 ≡ b → IsPointerSize w
    by_four true e = inl (grind (arith, nat_tests))
    by_four false e = by_eight (nat_eq w 8) refl e

module _ (p : Parts) (numbered : is_well_numbered p ≡ true) where
  pub all_countable : are_countable p ≡ true
  all_countable = and_left (are_countable p) _ numbered

  rest : list_all (type_is_numbered p) p.types && (list_all (tag_is_numbered p) p.structs && (list_all (tag_is_numbered p) p.unions && (list_all (signature_is_numbered p) p.signatures && is_pointer_size p.pointer))) ≡ true
  rest = and_right (are_countable p) _ numbered

  pub types_numbered : list_all (type_is_numbered p) p.types ≡ true
  types_numbered = and_left (list_all (type_is_numbered p) p.types) _ rest

  tags : list_all (tag_is_numbered p) p.structs && (list_all (tag_is_numbered p) p.unions && (list_all (signature_is_numbered p) p.signatures && is_pointer_size p.pointer)) ≡ true
  tags = and_right (list_all (type_is_numbered p) p.types) _ rest

  structs_numbered : list_all (tag_is_numbered p) p.structs ≡ true
  structs_numbered = and_left (list_all (tag_is_numbered p) p.structs) _ tags

  unions_numbered : list_all (tag_is_numbered p) p.unions ≡ true
  unions_numbered = and_left (list_all (tag_is_numbered p) p.unions) _ (and_right (list_all (tag_is_numbered p) p.structs) _ tags)

  -- a pointer takes 4 or 8 bytes
  pub pointer_sized : IsPointerSize p.pointer
  pointer_sized =
      let last = and_right (list_all (tag_is_numbered p) p.unions) _ (and_right (list_all (tag_is_numbered p) p.structs) _ tags) in
      pointer-size p.pointer (and_right (list_all (signature_is_numbered p) p.signatures) _ last)

  pub pointer_aligned : IsAlignment p.pointer
  pointer_aligned = IsAlignment-pointer p.pointer pointer_sized

  pub types_few : length p.types < 2 ^ 32 - 1
  types_few = let h : is_countable p.types ≡ true = and_left (is_countable p.types) _ all_countable in grind (arith, nat_tests)

  tag_few : (tags : List TagDef) → list_all (tag_is_numbered p) tags ≡ true → (o : Option TagDef) (k : ℕ) → slice_get tags k ≡ o → length (fields_in o) < 2 ^ 32 - 1
  tag_few tags h None k e = omega arith
  tag_few tags h (Some tag) k e =
      let here = list_all-at (tag_is_numbered p) tags k tag h e in
      let few : is_countable tag.fields ≡ true = and_left (is_countable tag.fields) _ here in
      grind (arith, nat_tests)

  pub fields_few : (s : ℕ) → length (fields_of p s) < 2 ^ 32 - 1
  fields_few s = tag_few p.structs structs_numbered (slice_get p.structs s) s refl

  pub members_few : (u : ℕ) → length (members_of p u) < 2 ^ 32 - 1
  members_few u = tag_few p.unions unions_numbered (slice_get p.unions u) u refl

  tag_types : (tags : List TagDef) → list_all (tag_is_numbered p) tags ≡ true → (o : Option TagDef) (k : ℕ) → slice_get tags k ≡ o → (j : ℕ) (f : FieldDef) → slice_get (fields_in o) j ≡ Some f → f.ty < length p.types
  tag_types tags h None k e j f g = cc
  tag_types tags h (Some tag) k e j f g =
      let here = list_all-at (tag_is_numbered p) tags k tag h e in
      let all = and_right (is_countable tag.fields) (list_all (λ f. names_entry p.types f.ty) tag.fields) here in
      let one : names_entry p.types f.ty ≡ true = list_all-at (λ f. names_entry p.types f.ty) tag.fields j f all g in
      grind (arith, nat_tests)

  pub field_known : (s j : ℕ) (f : FieldDef) → slice_get (fields_of p s) j ≡ Some f → f.ty < length p.types
  field_known s j f g = tag_types p.structs structs_numbered (slice_get p.structs s) s refl j f g

  pub member_known : (u j : ℕ) (f : FieldDef) → slice_get (members_of p u) j ≡ Some f → f.ty < length p.types
  member_known u j f g = tag_types p.unions unions_numbered (slice_get p.unions u) u refl j f g

  pub type_numbered : (t : ℕ) (ty : Ty) → slice_get p.types t ≡ Some ty → type_is_numbered p ty ≡ true
  type_numbered t ty e = list_all-at (type_is_numbered p) p.types t ty types_numbered e

  pub element_known : (t u n : ℕ) → slice_get p.types t ≡ Some (Array u n) → u < length p.types
  element_known t u n e =
      let h = type_numbered t (Array u n) e in
      let one : names_entry p.types u ≡ true = and_left (names_entry p.types u) _ h in
      grind (arith, nat_tests)

  pub pointee_known : (t u : ℕ) → slice_get p.types t ≡ Some (Pointer u) → u < length p.types
  pointee_known t u e = let h : names_entry p.types u ≡ true = type_numbered t (Pointer u) e in grind (arith, nat_tests)
