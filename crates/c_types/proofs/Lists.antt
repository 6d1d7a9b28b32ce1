-- Entries of lists.
use Rattle.std.proofs.Common.{◌≡◌, ◌∙◌, ap, Bool, true, false, ◌&&◌, ℕ, zero, suc, ◌<◌, List, [], ◌∷◌, length, Option, Some, None, slice_get, arith, refl}
use Rattle.std.specs.Prelude.{IsSomeAnd}
use Rattle.std.specs.Cmp.Lexicographic.{pointwise}
use Rattle.c_types.specs.declared.parts.FieldDef.{FieldDef}
use Rattle.c_types.specs.Refusal.{HaveOneName}

pub and_left : (a b : Bool) → a && b ≡ true → a ≡ true
and_left true b h = refl
and_left false b h = h

pub and_right : (a b : Bool) → a && b ≡ true → b ≡ true
and_right true b h = h
and_right false b h = cc

-- of what holds of an entry, there is an entry
pub within-some_and : {A : Type 0} (P : A → Type 0) (xs : List A) (n : ℕ) → IsSomeAnd (slice_get xs n) P → n < length xs
within-some_and P [] n h = absurd h
within-some_and P (x ∷ xs) zero h = omega arith
within-some_and P (x ∷ xs) (suc n) h = let i = within-some_and P xs n h in omega arith

pub within-one_name : (fields : List FieldDef) (j k : ℕ) → HaveOneName fields j k → k < length fields
within-one_name fields j k h = by_first (slice_get fields j) h
  where
    by_first : (o : Option FieldDef) → IsSomeAnd o (λ a. IsSomeAnd (slice_get fields k) (λ b. a.name ≡ b.name)) → k < length fields
    by_first None h = absurd h
    by_first (Some a) h = within-some_and (λ b. a.name ≡ b.name) fields k h

-- lists whose entries are equal by a test
pub same-pointwise : {A : Type 0} (test : A → A → Bool) → ((a b : A) → test a b ≡ true → a ≡ b) → (xs ys : List A) → pointwise test xs ys ≡ true → xs ≡ ys
same-pointwise test same [] [] h = refl
same-pointwise test same [] (y ∷ ys) h = cc
same-pointwise test same (x ∷ xs) [] h = cc
same-pointwise test same (x ∷ xs) (y ∷ ys) h =
    let head = same x y (and_left (test x y) (pointwise test xs ys) h) in
    let rest = same-pointwise test same xs ys (and_right (test x y) (pointwise test xs ys) h) in
    ap (λ a. a ∷ xs) head ∙ ap (λ zs. y ∷ zs) rest
