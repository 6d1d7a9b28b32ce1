-- The longest front of a list whose elements pass a test.
use Rattle.std.proofs.Common.{◌≡◌, ℕ, ◌+◌, Bool, true, false, cond, List, [], ◌∷◌, ◌++◌, length, take, refl, ◌∙◌, ap, subst, arith}
use Rattle.std.specs.List.{prefix_len, list_all}
use Rattle.std.proofs.lemmas.List.Sums.{take_while-cons}
use Rattle.std.specs.Cmp.{second_so}

abbrev pub kept : {A : Type 0} → (A → Bool) → List A → List A
kept p [] = []
kept p (x ∷ xs) = cond (p x) (x ∷ kept p xs) []

abbrev pub left : {A : Type 0} → (A → Bool) → List A → List A
left p [] = []
left p (x ∷ xs) = cond (p x) (left p xs) (x ∷ xs)

pub kept-is : {A : Type 0} (p : A → Bool) (xs : List A) → take (prefix_len p xs) xs ≡ kept p xs
kept-is p [] = refl
kept-is p (x ∷ xs) = take_while-cons p x xs ∙ ap (λ ys. cond (p x) (x ∷ ys) []) (kept-is p xs)

split_step : {A : Type 0} (b : Bool) (x : A) (xs ks ls : List A) → xs ≡ ks ++ ls → x ∷ xs ≡ cond b (x ∷ ks) [] ++ cond b ls (x ∷ xs)
split_step true x xs ks ls h = ap (λ ys. x ∷ ys) h
split_step false x xs ks ls h = refl

pub kept-left : {A : Type 0} (p : A → Bool) (xs : List A) → xs ≡ kept p xs ++ left p xs
kept-left p [] = refl
kept-left p (x ∷ xs) = split_step (p x) x xs (kept p xs) (left p xs) (kept-left p xs)

length_step : {A : Type 0} (b : Bool) (x : A) (ks : List A) (n : ℕ) → length ks ≡ n → length (cond b (x ∷ ks) []) ≡ cond b (1 + n) 0
length_step true x ks n h = omega arith
length_step false x ks n h = refl

pub length-kept : {A : Type 0} (p : A → Bool) (xs : List A) → length (kept p xs) ≡ prefix_len p xs
length-kept p [] = refl
length-kept p (x ∷ xs) = length_step (p x) x (kept p xs) (prefix_len p xs) (length-kept p xs)

all_step : {A : Type 0} (p : A → Bool) (b : Bool) (x : A) (ks : List A) → p x ≡ b → list_all p ks ≡ true → list_all p (cond b (x ∷ ks) []) ≡ true
all_step p true x ks e h = cc
all_step p false x ks e h = refl

pub kept-all : {A : Type 0} (p : A → Bool) (xs : List A) → list_all p (kept p xs) ≡ true
kept-all p [] = refl
kept-all p (x ∷ xs) = all_step p (p x) x (kept p xs) refl (kept-all p xs)

-- what is left begins with no element that passes
abbrev pub Fails : {A : Type 0} → (A → Bool) → List A → Type 0
Fails p [] = Unit {0}
Fails p (x ∷ xs) = p x ≡ false

fails_step : {A : Type 0} (p : A → Bool) (b : Bool) (x : A) (xs ls : List A) → p x ≡ b → Fails p ls → Fails p (cond b ls (x ∷ xs))
fails_step p true x xs ls e h = h
fails_step p false x xs ls e h = e

pub left-fails : {A : Type 0} (p : A → Bool) (xs : List A) → Fails p (left p xs)
left-fails p [] = tt
left-fails p (x ∷ xs) = fails_step p (p x) x xs (left p xs) refl (left-fails p xs)

-- no more of what is left passes
pub none-more : {A : Type 0} (p : A → Bool) (front rest more after : List A) → Fails p rest → rest ≡ more ++ after → list_all p (front ++ more) ≡ true → more ≡ []
none-more p front rest [] after h e all = refl
none-more p [] rest (x ∷ more) after h e all = let f : p x ≡ false = let P : List _ → Type 0 = λ ys. Fails p ys in subst P e h in cc
none-more p (y ∷ front) rest (x ∷ more) after h e all = none-more p front rest (x ∷ more) after h e (second_so (p y) (list_all p (front ++ x ∷ more)) all)
