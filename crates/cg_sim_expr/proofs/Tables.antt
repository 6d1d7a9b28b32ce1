-- What a built table says of its types.
use Rattle.std.proofs.Common.{◌≡◌, ◌∙◌, refl, ap, sym, Bool, true, false, ◌&&◌, ◌||◌, not, ℕ, zero, suc, ◌^◌, ◌<◌, ◌≤◌, List, [], ◌∷◌, length, Option, Some, arith, nat_lt, nat_le}
use Rattle.std.specs.Prelude.{slice_get, pos}
use Rattle.std.specs.List.{list_all}
use Rattle.std.proofs.lemmas.Bool.Decides.{nat_tests}
use Rattle.c_types.specs.declared.parts.Ty.{Ty}
use Rattle.c_types.specs.declared.parts.Ty.TheVariants as T
use Rattle.c_types.specs.declared.parts.IntKind.TheVariants as K
use Rattle.c_types.specs.Numbering.{type_is_numbered, are_countable}
use Rattle.c_types.specs.Refusal.{IsBuilt, has_bad_length}
use Rattle.c_types.specs.Layout.{greatest, size_of}
use Rattle.src_tree.specs.declared.value.Value.{Int}
use Rattle.src_tree.specs.declared.value.Store.{Store}
use Rattle.src_tree.specs.declared.program.Program.{Program}
use Rattle.src_meaning.specs.Integers.{is_held}
use Rattle.src_meaning.specs.ValidTypes.{points_to, is_unsigned_int}
use Rattle.src_meaning.proofs.LayoutLengths.{and_left, and_right}
use Rattle.cg_state.proofs.Typed.{Typed, typed_int}

all_at : {A : Type 0} (f : A → Bool) (xs : List A) (n : ℕ) (x : A) → list_all f xs ≡ true → slice_get xs n ≡ Some x → f x ≡ true
all_at f [] n x h e = absurd (cc)
all_at f (y ∷ xs) zero x h e = let same : y ≡ x = cc in ap f (sym same) ∙ and_left (f y) (list_all f xs) h
all_at f (y ∷ xs) (suc n) x h e = all_at f xs n x (and_right (f y) (list_all f xs) h) e

or_right : (a b : Bool) → b ≡ true → (a || b) ≡ true
or_right true b h = refl
or_right false b h = h

or_left : (a b : Bool) → a ≡ true → (a || b) ≡ true
or_left true b h = refl
or_left false b h = absurd (cc)

module _ (p : Program) (built : IsBuilt p.types) where
  -- no size is above the greatest
  pub size_small : (t : ℕ) → size_of p.types t ≤ greatest
  size_small t = by (nat_lt greatest (size_of p.types t)) refl
    where
      by : (b : Bool) → nat_lt greatest (size_of p.types t) ≡ b → size_of p.types t ≤ greatest
      by true e = absurd (built.small t (or_left (nat_lt greatest (size_of p.types t)) (has_bad_length (slice_get p.types.types t)) e))
      by false e = grind (arith, nat_tests, e)

  -- nor a length
  pub length_small : (u t n : ℕ) → slice_get p.types.types u ≡ Some (T.Array t n) → n < 2 ^ 32
  length_small u t n e = by (nat_le n greatest) refl
    where
      falls : (b : Bool) → not (b && false) ≡ true
      falls true = refl
      falls false = refl

      by : (b : Bool) → nat_le n greatest ≡ b → n < 2 ^ 32
      by true q = let le : n ≤ greatest = grind (arith, nat_tests, q) in omega (arith, le)
      by false q = absurd (built.small u (or_right (nat_lt greatest (size_of p.types u)) (has_bad_length (slice_get p.types.types u)) (ap has_bad_length e ∙ (ap (λ b. not (nat_lt 0 n && b)) q ∙ falls (nat_lt 0 n)))))

  pub size_typed : (s : Store) (u w : ℕ) → is_unsigned_int (slice_get p.types.types u) ≡ true → Typed p built s u (Int (pos (size_of p.types w)))
  size_typed s u w h = typed_int p built s u K.UInt (pos (size_of p.types w)) (unsigned (slice_get p.types.types u) h) (held (size_of p.types w) (size_small w))
    where
      unsigned : (o : Option Ty) → is_unsigned_int o ≡ true → o ≡ Some (T.Int K.UInt)
      unsigned (Some (T.Int K.UInt)) h = refl
      unsigned _ h = absurd (cc)

      held : (n : ℕ) → n ≤ greatest → is_held K.UInt (pos n) ≡ true
      held n le = let lt : n < 2 ^ 32 = omega (arith, le) in grind (arith, nat_tests, lt)

  -- a pointer's type is of the table
  pub pointed_known : (a u : ℕ) → points_to (slice_get p.types.types a) u ≡ true → u < length p.types.types
  pointed_known a u h = by (slice_get p.types.types a) refl h
    where
      numbered : list_all (type_is_numbered p.types) p.types.types ≡ true
      numbered = and_left (list_all (type_is_numbered p.types) p.types.types) _ (and_right (are_countable p.types) _ built.numbered)

      by : (o : Option Ty) → slice_get p.types.types a ≡ o → points_to o u ≡ true → u < length p.types.types
      by (Some (T.Pointer t)) e h =
          let same : t ≡ u = grind (arith, nat_tests, h) in
          let n = all_at (type_is_numbered p.types) p.types.types a (T.Pointer t) numbered e in
          grind (arith, nat_tests, n, same)
      by _ e h = absurd (cc)
