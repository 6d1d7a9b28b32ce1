-- What holds of each number of a list, and entries of lists.
use Rattle.std.proofs.Common.{◌≡◌, refl, ℕ, zero, suc, Bool, true, false, ◌&&◌, ◌||◌, nat_eq, List, [], ◌∷◌, ◌++◌, map, slice_get, arith, Option, Some, None}
use Rattle.std.specs.Option.{option_map}
use Rattle.std.proofs.lemmas.Bool.Decides.{nat_tests}
use Rattle.c_types.proofs.ChainLemmas.{or_left, or_right}
use Rattle.lu_image_store.specs.Needed.{is_in}

pub in_left : (xs ys : List ℕ) (x : ℕ) → is_in xs x ≡ true → is_in (xs ++ ys) x ≡ true
in_left [] ys x h = absurd (cc)
in_left (y ∷ xs) ys x h = by (nat_eq y x) h (in_left xs ys x)
  where
    by : (b : Bool) → b || is_in xs x ≡ true → (is_in xs x ≡ true → is_in (xs ++ ys) x ≡ true) → b || is_in (xs ++ ys) x ≡ true
    by true h later = refl
    by false h later = later h

pub in_right : (xs ys : List ℕ) (x : ℕ) → is_in ys x ≡ true → is_in (xs ++ ys) x ≡ true
in_right [] ys x h = h
in_right (y ∷ xs) ys x h = or_right (nat_eq y x) (is_in (xs ++ ys) x) (in_right xs ys x h)

module _ (Good : ℕ → Type 0) where
  -- each number of a list
  abbrev pub Each : List ℕ → Type 0
  Each xs = (o : ℕ) → is_in xs o ≡ true → Good o

  pub each_left : (xs ys : List ℕ) → Each (xs ++ ys) → Each xs
  each_left xs ys all o h = all o (in_left xs ys o h)

  pub each_right : (xs ys : List ℕ) → Each (xs ++ ys) → Each ys
  each_right xs ys all o h = all o (in_right xs ys o h)

  pub each_alone : (o : ℕ) → Each (o ∷ []) → Good o
  each_alone o all = all o (let e : nat_eq o o ≡ true = grind (arith, nat_tests) in or_left (nat_eq o o) false e)

-- the entry of a list's image
pub get_map : {A B : Type 0} (f : A → B) (xs : List A) (k : ℕ) → slice_get (map f xs) k ≡ option_map f (slice_get xs k)
get_map f [] k = refl
get_map f (x ∷ xs) zero = refl
get_map f (x ∷ xs) (suc k) = get_map f xs k

pub and_in : (a b : Bool) → a ≡ true → b ≡ true → a && b ≡ true
and_in a b h g = cc

pub mapped : {A B : Type 0} (f : A → B) (o : Option A) (b : B) → option_map f o ≡ Some b → (a : A) × (o ≡ Some a) × (f a ≡ b)
mapped f None b h = absurd (cc)
mapped f (Some a) b h = (a, refl, cc)
