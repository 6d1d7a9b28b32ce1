-- Laws of lists of names.
use Rattle.std.proofs.Common.{◌≡◌, ◌∙◌, sym, ap, refl, ℕ, zero, suc, ◌+◌, ◌<◌, Bool, true, false, nat_lt, if◌then◌else◌, List, [], ◌∷◌, ◌++◌, length, take, Option, Some, None, is_some, append_assoc, append-nil, arith}
use Rattle.std.proofs.lemmas.Bool.Decides.{nat_tests}
use Rattle.std.specs.Option.{option_map, option_map_or}
use Rattle.lu_image.specs.Names.{Names, find, is_named, joined}
use Rattle.lu_image.specs.declared.rename.Rename.{Rename}
use Rattle.lu_image.specs.Pairing.{given_name, given_names, is_given}
use Rattle.lu_pair.specs.Places.{or_place}

-- a name that comes last counts where no earlier entry has it
pub find-push : (q : List ℕ) (xs : Names) (x : Option (List ℕ)) → find q (xs ++ x ∷ []) ≡ or_place (find q xs) (if is_named q x then Some (length xs) else None)
find-push q [] x = by (is_named q x)
  where
    by : (b : Bool) → (if b then Some 0 else option_map (λ k. k + 1) None) ≡ (if b then Some 0 else None)
    by true = refl
    by false = refl
find-push q (y ∷ ys) x = by (is_named q y) (find q ys) (is_named q x) (find-push q ys x)
  where
    by : (b : Bool) (o : Option ℕ) (c : Bool) → find q (ys ++ x ∷ []) ≡ or_place o (if c then Some (length ys) else None)
        → (if b then Some 0 else option_map (λ k. k + 1) (find q (ys ++ x ∷ []))) ≡ or_place (if b then Some 0 else option_map (λ k. k + 1) o) (if c then Some (length (y ∷ ys)) else None)
    by true o c h = refl
    by false (Some k) c h = ap (option_map (λ k. k + 1)) h
    by false None true h = ap (option_map (λ k. k + 1)) h ∙ ap Some (omega arith)
    by false None false h = ap (option_map (λ k. k + 1)) h

-- what is found is in the list
pub find-within : (q : List ℕ) (xs : Names) (k : ℕ) → find q xs ≡ Some k → k < length xs
find-within q [] k h = cc
find-within q (y ∷ ys) k h = by (is_named q y) (find q ys) (λ j e. find-within q ys j e) h
  where
    by : (b : Bool) (o : Option ℕ) → ((j : ℕ) → o ≡ Some j → j < length ys) → (if b then Some 0 else option_map (λ k. k + 1) o) ≡ Some k → k < length (y ∷ ys)
    by true o low h = let e : 0 ≡ k = cc in omega (arith, e)
    by false None low h = cc
    by false (Some j) low h = let e : j + 1 ≡ k = cc in let l = low j refl in omega (arith, e, l)

-- a name is in the front of a list where its first entry is
pub find-take : (q : List ℕ) (n : ℕ) (xs : Names) → is_some (find q (take n xs)) ≡ option_map_or (λ k. nat_lt k n) (find q xs) false
find-take q zero [] = refl
find-take q (suc n) [] = refl
find-take q zero (y ∷ ys) = by (find q (y ∷ ys))
  where
    by : (o : Option ℕ) → false ≡ option_map_or (λ k. nat_lt k 0) o false
    by None = refl
    by (Some k) = grind (arith, nat_tests)
find-take q (suc n) (y ∷ ys) = by (is_named q y) (find q (take n ys)) (find q ys) (find-take q n ys)
  where
    more : (k : ℕ) → nat_lt (k + 1) (suc n) ≡ nat_lt k n
    more k = grind (arith, nat_tests)

    by : (b : Bool) (t o : Option ℕ) → is_some t ≡ option_map_or (λ k. nat_lt k n) o false
        → is_some (if b then Some 0 else option_map (λ k. k + 1) t) ≡ option_map_or (λ k. nat_lt k (suc n)) (if b then Some 0 else option_map (λ k. k + 1) o) false
    by true t o h = grind (arith, nat_tests)
    by false None None h = refl
    by false (Some j) None h = h
    by false None (Some k) h = h ∙ sym (more k)
    by false (Some j) (Some k) h = h ∙ sym (more k)

pub joined-push : {A B : Type 0} (f : A → List B) (xs : List A) (x : A) → joined f (xs ++ x ∷ []) ≡ joined f xs ++ f x
joined-push f [] x = append-nil (f x)
joined-push f (y ∷ ys) x = ap (λ r. f y ++ r) (joined-push f ys x) ∙ sym (append_assoc (f y) (joined f ys) (f x))

-- The front of a list of renames has the front of their names.
given-take : (n : ℕ) (rs : List Rename) → given_names (take n rs) ≡ take n (given_names rs)
given-take zero [] = refl
given-take (suc n) [] = refl
given-take zero (r ∷ rs) = refl
given-take (suc n) (r ∷ rs) = ap (λ names. Some (given_name r) ∷ names) (given-take n rs)

-- one of the first renames gives a name where the first that gives it is among them
pub is_given-take : (n : ℕ) (rs : List Rename) (q : List ℕ) → is_given (take n rs) q ≡ option_map_or (λ k. nat_lt k n) (find q (given_names rs)) false
is_given-take n rs q = ap (λ names. is_some (find q names)) (given-take n rs) ∙ find-take q n (given_names rs)
