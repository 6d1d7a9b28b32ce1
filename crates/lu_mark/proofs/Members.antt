-- Which numbers are in lists of marks.
use Rattle.std.proofs.Common.{◌≡◌, ◌∙◌, ◌⊎◌, inl, inr, refl, ap, sym, ℕ, zero, suc, ◌+◌, ◌<◌, ◌≤◌, Bool, true, false, ◌&&◌, ◌||◌, nat_eq, List, [], ◌∷◌, ◌++◌, Some, slice_get, get_or, unwrap_or, subst, append_assoc, arith}
use Rattle.std.specs.Prelude.{cond, filter, All}
use Rattle.std.specs.List.{range_with_len, list_any}
use Rattle.std.proofs.lemmas.Bool.Decides.{nat_tests}
use Rattle.std.proofs.lemmas.List.Folds.{list_any-append, list_any_at}
use Rattle.std.proofs.lemmas.List.{append-nil}
use Rattle.std.proofs.lemmas.List.Elements.{filter-append}
use Rattle.std.proofs.lemmas.Map.Views.{any-filter_same}
use Rattle.lu_image_store.specs.Needed.{is_in}
use Rattle.lu_mark.specs.Marking.{with_mark, with_marks}

pub either : {A B C : Type 0} → A ⊎ B → (A → C) → (B → C) → C
either (inl a) f g = f a
either (inr b) f g = g b

pub or_cases : (a b : Bool) → a || b ≡ true → (a ≡ true) ⊎ (b ≡ true)
or_cases true b h = inl refl
or_cases false b h = inr h

pub or_right : (a b : Bool) → b ≡ true → a || b ≡ true
or_right true b h = refl
or_right false b h = h

pub or_left : (a b : Bool) → a ≡ true → a || b ≡ true
or_left a b h = cc

pub or_false : (b : Bool) → b || false ≡ b
or_false true = refl
or_false false = refl

or_assoc : (a b c : Bool) → (a || b) || c ≡ a || (b || c)
or_assoc true b c = refl
or_assoc false b c = refl

and_true : (b : Bool) → b && true ≡ b
and_true true = refl
and_true false = refl

pub same_of : (x y : ℕ) → nat_eq x y ≡ true → x ≡ y
same_of x y e = grind (arith, nat_tests)

pub same_as_self : (x : ℕ) → nat_eq x x ≡ true
same_as_self x = grind (arith, nat_tests)

eq_sym : (x y : ℕ) → nat_eq x y ≡ nat_eq y x
eq_sym x y = grind (arith, nat_tests)

-- the test the other way round
pub is_in-member : (xs : List ℕ) (x : ℕ) → list_any (nat_eq x) xs ≡ is_in xs x
is_in-member [] x = refl
is_in-member (y ∷ xs) x = ap (λ b. b || list_any (nat_eq x) xs) (eq_sym x y) ∙ ap (λ b. nat_eq y x || b) (is_in-member xs x)

marked_again : (marked : List ℕ) (x y : ℕ) → is_in marked x ≡ true → (b : Bool) → nat_eq x y ≡ b → is_in marked y ≡ is_in marked y || b
marked_again marked x y h true e = let same : x ≡ y = same_of x y e in let there : is_in marked y ≡ true = rw (← same) h in cc
marked_again marked x y h false e = sym (or_false (is_in marked y))

is_in-marked_if : (marked : List ℕ) (x y : ℕ) (b : Bool) → is_in marked x ≡ b → is_in (cond b marked (marked ++ x ∷ [])) y ≡ is_in marked y || nat_eq x y
is_in-marked_if marked x y true h = marked_again marked x y h (nat_eq x y) refl
is_in-marked_if marked x y false h =
    list_any-append (λ z. nat_eq z y) marked (x ∷ []) ∙ ap (λ b. is_in marked y || b) (or_false (nat_eq x y))

pub is_in-with_mark : (marked : List ℕ) (x y : ℕ) → is_in (with_mark marked x) y ≡ is_in marked y || nat_eq x y
is_in-with_mark marked x y = is_in-marked_if marked x y (is_in marked x) refl

pub is_in-with_marks : (marked xs : List ℕ) (y : ℕ) → is_in (with_marks marked xs) y ≡ is_in marked y || is_in xs y
is_in-with_marks marked [] y = sym (or_false (is_in marked y))
is_in-with_marks marked (x ∷ xs) y =
    is_in-with_marks (with_mark marked x) xs y ∙ (ap (λ b. b || is_in xs y) (is_in-with_mark marked x y) ∙ or_assoc (is_in marked y) (nat_eq x y) (is_in xs y))

-- marks come behind those that stand
with_mark-longer : (marked : List ℕ) (x : ℕ) (b : Bool) → (rest : List ℕ) × (cond b marked (marked ++ x ∷ []) ≡ marked ++ rest)
with_mark-longer marked x true = ([], sym (append-nil marked))
with_mark-longer marked x false = (x ∷ [], refl)

pub with_marks-longer : (marked xs : List ℕ) → (rest : List ℕ) × (with_marks marked xs ≡ marked ++ rest)
with_marks-longer marked [] = ([], sym (append-nil marked))
with_marks-longer marked (x ∷ xs) =
    let one = with_mark-longer marked x (is_in marked x) in
    let more = with_marks-longer (with_mark marked x) xs in
    (one.0 ++ more.0, more.1 ∙ (ap (λ zs. zs ++ more.0) one.1 ∙ append_assoc marked one.0 more.0))

-- what a filter and a range have
pub is_in-filter : (p : ℕ → Bool) (xs : List ℕ) (x : ℕ) → is_in (filter p xs) x ≡ p x && is_in xs x
is_in-filter p xs x = any-filter_same (λ y. nat_eq y x) p (p x) (λ y e. ap p (same_of y x e)) xs

in_later : (a n x : ℕ) → a ≤ x → (suc a ≤ x → is_in (range_with_len (a + 1) n) x ≡ true) → (b : Bool) → nat_eq a x ≡ b → is_in (range_with_len a (suc n)) x ≡ true
in_later a n x low later true e = or_left (nat_eq a x) (is_in (range_with_len (a + 1) n) x) e
in_later a n x low later false e =
    let next : suc a ≤ x = grind (arith, nat_tests, low, e) in or_right (nat_eq a x) (is_in (range_with_len (a + 1) n) x) (later next)

pub in_range : (n a x : ℕ) → a ≤ x → x < a + n → is_in (range_with_len a n) x ≡ true
in_range zero a x low high = absurd (omega (arith, low, high))
in_range (suc n) a x low high =
    in_later a n x low (λ next. in_range n (a + 1) x (omega (arith, next)) (omega (arith, high))) (nat_eq a x) refl

pub from_range : (n a x : ℕ) → is_in (range_with_len a n) x ≡ true → x < a + n
from_range zero a x h = absurd (cc)
from_range (suc n) a x h =
    either (or_cases (nat_eq a x) (is_in (range_with_len (a + 1) n) x) h) (λ e. let same : a ≡ x = same_of a x e in omega (arith, same)) (λ q. let r = from_range n (a + 1) x q in omega (arith, r))

-- what holds of each element holds of one that is in the list
pub All-is_in : (P : ℕ → Type 0) (xs : List ℕ) (x : ℕ) → All P xs → is_in xs x ≡ true → P x
All-is_in P [] x all h = absurd (cc)
All-is_in P (y ∷ xs) x all h =
    either (or_cases (nat_eq y x) (is_in xs x) h) (λ e. subst P (same_of y x e) (all 0 y (omega arith))) (λ q. All-is_in P xs x (λ k d lt. all (suc k) d (omega (arith, lt))) q)

pub All-from_is_in : (P : ℕ → Type 0) (xs : List ℕ) → ((x : ℕ) → is_in xs x ≡ true → P x) → All P xs
All-from_is_in P xs each k d lt =
    each (get_or xs k d) (list_any_at (λ y. nat_eq y (get_or xs k d)) xs k d lt (same_as_self (get_or xs k d)))

-- the number at a place
pub is_in-get : (xs : List ℕ) (i x : ℕ) → slice_get xs i ≡ Some x → is_in xs x ≡ true
is_in-get [] i x e = absurd (cc)
is_in-get (y ∷ xs) zero x e = or_left (nat_eq y x) (is_in xs x) (let q : y ≡ x = cc in rw q (same_as_self x))
is_in-get (y ∷ xs) (suc i) x e = or_right (nat_eq y x) (is_in xs x) (is_in-get xs i x e)

keep_same : (x : ℕ) (xs ys : List ℕ) (a b : Bool) → a ≡ b → xs ≡ ys → cond a (x ∷ xs) xs ≡ cond b (x ∷ ys) ys
keep_same x xs ys a b e q = cc

-- two tests that agree on a list keep the same of it
pub filter-agree : (p q : ℕ → Bool) (xs : List ℕ) → ((x : ℕ) → is_in xs x ≡ true → p x ≡ q x) → filter p xs ≡ filter q xs
filter-agree p q [] agree = refl
filter-agree p q (x ∷ xs) agree =
    keep_same x (filter p xs) (filter q xs) (p x) (q x) (agree x (or_left (nat_eq x x) (is_in xs x) (same_as_self x))) (filter-agree p q xs (λ y h. agree y (or_right (nat_eq x y) (is_in xs y) h)))

-- the flags below one more number
range-more : (n a : ℕ) → range_with_len a (suc n) ≡ range_with_len a n ++ (a + n) ∷ []
range-more zero a = let e : a ≡ a + 0 = omega arith in ap (λ k. k ∷ []) e
range-more (suc n) a =
    let e : (a + 1) + n ≡ a + suc n = omega arith in
    ap (λ ks. a ∷ ks) (range-more n (a + 1) ∙ ap (λ k. range_with_len (a + 1) n ++ k ∷ []) e)

range-one_more : (n : ℕ) → range_with_len 0 (n + 1) ≡ range_with_len 0 n ++ n ∷ []
range-one_more n =
    let e : n + 1 ≡ suc n = omega arith in
    let z : 0 + n ≡ n = omega arith in
    ap (range_with_len 0) e ∙ (range-more n 0 ∙ ap (λ k. range_with_len 0 n ++ k ∷ []) z)

pub filter-range_more : (p : ℕ → Bool) (n : ℕ) → filter p (range_with_len 0 (n + 1)) ≡ filter p (range_with_len 0 n) ++ cond (p n) (n ∷ []) []
filter-range_more p n = ap (filter p) (range-one_more n) ∙ filter-append p (range_with_len 0 n) (n ∷ [])

flag_at : (flags : List Bool) (n : ℕ) → unwrap_or (slice_get flags n) false ≡ get_or flags n false
flag_at [] n = refl
flag_at (b ∷ flags) zero = refl
flag_at (b ∷ flags) (suc n) = flag_at flags n

abbrev pub flagged_below : List Bool → ℕ → List ℕ
flagged_below flags n = filter (λ x. unwrap_or (slice_get flags x) false) (range_with_len 0 n)

pub flagged_below-more : (flags : List Bool) (n : ℕ) (b : Bool) → get_or flags n false ≡ b → flagged_below flags (n + 1) ≡ flagged_below flags n ++ cond b (n ∷ []) []
flagged_below-more flags n b e =
    filter-range_more (λ x. unwrap_or (slice_get flags x) false) n ∙ ap (λ d. flagged_below flags n ++ cond d (n ∷ []) []) (flag_at flags n ∙ e)
