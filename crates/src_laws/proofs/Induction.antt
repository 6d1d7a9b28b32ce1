-- Induction on the types of a built table: each from the types that it holds.
use Rattle.std.proofs.Common.{◌≡◌, ◌∙◌, refl, ap, sym, subst, true, ℕ, zero, suc, ◌+◌, ◌<◌, List, [], ◌∷◌, ◌++◌, length, map, Option, Some, None, slice_get, arith}
use Rattle.std.specs.Prelude.{Contains, IsSomeAnd}
use Rattle.std.proofs.lemmas.Bool.Decides.{nat_tests}
use Rattle.c_types.specs.declared.parts.Parts.{Parts}
use Rattle.c_types.specs.declared.parts.TagDef.{TagDef}
use Rattle.c_types.specs.declared.parts.Ty.{Ty}
use Rattle.c_types.specs.declared.parts.Ty.TheVariants.{Union}
use Rattle.c_types.specs.Chain.{held_in, held_by, is_settled}
use Rattle.c_types.specs.Refusal.{Entry, type_entry, tag_entry, signature_entry, entries, HasNoField, IsBuilt}
use Rattle.c_types.specs.Tables.{fields_in, members_of}
use Rattle.c_types.proofs.MarkLemmas.{held_known}
use Rattle.c_types.proofs.Numbered.{type_numbered}
use Rattle.c_types.proofs.Settled.{settled-edge}
use Rattle.c_types.proofs.ShapeLaws.{settled, get-after, get-before, get-map, some_within}

none_within : {A : Type 0} (xs : List A) (n : ℕ) → slice_get xs n ≡ None → n < length xs → ⊥
none_within [] n e h = absurd (omega (arith, h))
none_within (x ∷ xs) zero e h = absurd (cc)
none_within (x ∷ xs) (suc n) e h = none_within xs n e (omega (arith, h))

module _ (p : Parts) (built : IsBuilt p) where
  module _ (Holds : ℕ → Type 0) (step : (t : ℕ) (ty : Ty) → slice_get p.types t ≡ Some ty → ((u : ℕ) → Contains (held_in p (Some ty)) u → Holds u) → Holds t) where
    by_rounds : (n t : ℕ) → is_settled (held_by p) n t ≡ true → t < length p.types → Holds t
    by_rounds zero t h lt = absurd (cc)
    by_rounds (suc n) t h lt =
        by (slice_get p.types t) refl (λ u c. by_rounds n u (settled-edge (held_by p) n t u h c) (held_known p built.numbered t u c))
      where
        by : (o : Option Ty) → slice_get p.types t ≡ o → ((u : ℕ) → Contains (held_in p o) u → Holds u) → Holds t
        by None e below = absurd (none_within p.types t e lt)
        by (Some ty) e below = step t ty e below

    pub type-induction : (t : ℕ) → t < length p.types → Holds t
    type-induction t lt = by_rounds (length p.types) t (settled p built t lt) lt

  union-entry : (u : ℕ) (tag : TagDef) → slice_get p.unions u ≡ Some tag → slice_get (entries p) (length (map type_entry p.types) + (length (map tag_entry p.structs) + u)) ≡ Some (tag_entry tag)
  union-entry u tag e =
      get-after (map type_entry p.types) _ (length (map tag_entry p.structs) + u)
      ∙ (get-after (map tag_entry p.structs) (map tag_entry p.unions ++ map signature_entry p.signatures) u ∙ get-before (map tag_entry p.unions) (map signature_entry p.signatures) u (tag_entry tag) (get-map tag_entry p.unions u tag e))

  -- a union has a member
  pub union-some : (t u : ℕ) → slice_get p.types t ≡ Some (Union u) → members_of p u ≡ [] → ⊥
  union-some t u e none =
      let h = type_numbered p built.numbered t (Union u) e in
      let lt : u < length p.unions = grind (arith, nat_tests, h) in
      let tag = some_within p.unions u lt in
      let empty : tag.0.fields ≡ [] = ap fields_in (sym tag.1) ∙ none in
      built.full (length (map type_entry p.types) + (length (map tag_entry p.structs) + u)) (let i : IsSomeAnd (Some (tag_entry tag.0)) HasNoField = empty in subst (λ (o : Option Entry). IsSomeAnd o HasNoField) (sym (union-entry u tag.0 tag.1)) i)
