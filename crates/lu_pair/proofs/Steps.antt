-- Steps of loops over lists.
use Rattle.std.proofs.Common.{◌≡◌, ◌≢◌, ◌∙◌, sym, ap, refl, ℕ, suc, ◌+◌, ◌<◌, Bool, true, false, ◌&&◌, List, [], ◌∷◌, ◌++◌, length, map, take, drop, get_or, Option, drop-cons, arith}
use Rattle.std.proofs.lemmas.List.{take_more}
use Rattle.lu_image.specs.declared.rename.Rename.{Rename}
use Rattle.lu_image.specs.Names.{Names, joined}
use Rattle.lu_image.specs.Pairing.{all_correspond}
use Rattle.lu_image.specs.RenameRefusal.{rename_refusal, or_else, first_refusal}
use Rattle.lu_spec.specs.Then.{then_option}
use Rattle.lu_pair.specs.Sites.{partners_from}
use Rattle.lu_pair.proofs.Finding.{joined-push}

module _ {A : Type 0} (xs : List A) (i : ℕ) (x : A) (here : x ≡ get_or xs i x) (low : i < length xs) where
  pub front-more : take (i + 1) xs ≡ take i xs ++ x ∷ []
  front-more = take_more xs i x low ∙ ap (λ y. take i xs ++ y ∷ []) (sym here)

  pub rest-more : drop i xs ≡ x ∷ drop (i + 1) xs
  rest-more = drop-cons xs i x low ∙ (ap (λ y. y ∷ drop (suc i) xs) (sym here) ∙ ap (λ k. x ∷ drop k xs) one)
    where
      one : suc i ≡ i + 1
      one = omega arith

map-push : {A B : Type 0} (f : A → B) (xs : List A) (x : A) → map f (xs ++ x ∷ []) ≡ map f xs ++ f x ∷ []
map-push f [] x = refl
map-push f (y ∷ ys) x = ap (λ r. f y ∷ r) (map-push f ys x)

module _ {A B : Type 0} (xs : List A) (i : ℕ) (x : A) (here : x ≡ get_or xs i x) (low : i < length xs) where
  -- a list of what f gives of each item, one item on
  pub map-more : (f : A → B) (old new : List B) → old ≡ map f (take i xs) → new ≡ old ++ f x ∷ [] → new ≡ map f (take (i + 1) xs)
  map-more f old new e h = h ∙ (ap (λ r. r ++ f x ∷ []) e ∙ (sym (map-push f (take i xs) x) ∙ ap (map f) (sym (front-more xs i x here low))))

  pub joined-more : (f : A → List B) (old new : List B) → old ≡ joined f (take i xs) → new ≡ old ++ f x → new ≡ joined f (take (i + 1) xs)
  joined-more f old new e h = h ∙ (ap (λ r. r ++ f x) e ∙ (sym (joined-push f (take i xs) x) ∙ ap (joined f) (sym (front-more xs i x here low))))

-- the first refusal of what is left, one rename on
pub refusal-more : (old new : Names) (rs : List Rename) (i : ℕ) (r : Rename) → r ≡ get_or rs i r → i < length rs
    → first_refusal old new (take i rs) (drop i rs) ≡ or_else (rename_refusal old new (take i rs) r) (first_refusal old new (take (i + 1) rs) (drop (i + 1) rs))
refusal-more old new rs i r here low =
    ap (first_refusal old new (take i rs)) (rest-more rs i r here low) ∙ ap (λ front. or_else (rename_refusal old new (take i rs) r) (first_refusal old new front (drop (i + 1) rs))) (sym (front-more rs i r here low))

-- lists of which one is longer don't correspond
pub lengths-differ : (same : ℕ → ℕ → Bool) (xs ys : List ℕ) → length xs ≢ length ys → all_correspond same xs ys ≡ false
lengths-differ same [] [] h = absurd (h refl)
lengths-differ same [] (y ∷ ys) h = refl
lengths-differ same (x ∷ xs) [] h = refl
lengths-differ same (x ∷ xs) (y ∷ ys) h = by (same x y) (lengths-differ same xs ys (λ e. h (ap suc e)))
  where
    by : (b : Bool) → all_correspond same xs ys ≡ false → b && all_correspond same xs ys ≡ false
    by true e = e
    by false e = refl

-- one pair on
pub correspond-more : (same : ℕ → ℕ → Bool) (xs ys : List ℕ) (i x y : ℕ) → x ≡ get_or xs i x → y ≡ get_or ys i y → i < length xs → i < length ys
    → all_correspond same (drop i xs) (drop i ys) ≡ same x y && all_correspond same (drop (i + 1) xs) (drop (i + 1) ys)
correspond-more same xs ys i x y ex ey lx ly =
    ap (λ r. all_correspond same r (drop i ys)) (rest-more xs i x ex lx) ∙ ap (λ r. all_correspond same (x ∷ drop (i + 1) xs) r) (rest-more ys i y ey ly)

-- the partners of what is left, one function on
pub partners-more : (partner : ℕ → ℕ → Option ℕ) (pairs : List (Option ℕ)) (i : ℕ) (pair : Option ℕ) → pair ≡ get_or pairs i pair → i < length pairs
    → partners_from partner i (drop i pairs) ≡ then_option pair (partner i) ∷ partners_from partner (i + 1) (drop (i + 1) pairs)
partners-more partner pairs i pair here low = ap (partners_from partner i) (rest-more pairs i pair here low)
