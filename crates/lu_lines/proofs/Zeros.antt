-- Zeros at the end of a list.
use Rattle.std.proofs.Common.{◌≡◌, ◌<◌, ◌≤◌, ℕ, ◌+◌, ◌-◌, ◌==◌, Bool, true, false, cond, List, [], ◌∷◌, ◌++◌, length, take, get_or, codes, length-take-le, refl, sym, ◌∙◌, ap, arith}
use Rattle.std.proofs.lemmas.List.{take_more}
use Rattle.lu_lines.specs.Line.{shown, shown_before, digits_or_none, bytes_text}
use Rattle.hex.specs.Hex.{encode_lower}

-- a zero at the end isn't shown
drops_last : {A : Type 0} (p : A → Bool) (xs : List A) (x : A) → p x ≡ true → shown p (xs ++ x ∷ []) ≡ shown p xs
drops_last p [] x h = ap (λ t. cond t [] (x ∷ [])) h
drops_last p (y ∷ xs) x h = ap (shown_before p y) (drops_last p xs x h)

keeps_step : {A : Type 0} (p : A → Bool) (y x : A) (xs : List A) → shown_before p y (xs ++ x ∷ []) ≡ y ∷ (xs ++ x ∷ [])
keeps_step p y x [] = refl
keeps_step p y x (z ∷ xs) = refl

-- behind one that isn't zero all is shown
keeps_last : {A : Type 0} (p : A → Bool) (xs : List A) (x : A) → p x ≡ false → shown p (xs ++ x ∷ []) ≡ xs ++ x ∷ []
keeps_last p [] x h = ap (λ t. cond t [] (x ∷ [])) h
keeps_last p (y ∷ xs) x h = ap (shown_before p y) (keeps_last p xs x h) ∙ keeps_step p y x xs

abbrev is_zero : ℕ → Bool
is_zero b = b == 0

same_zero : (b : ℕ) → b ≡ 0 → is_zero b ≡ true
same_zero b h = grind arith

no_zero : (b : ℕ) → (b ≡ 0 → ⊥) → is_zero b ≡ false
no_zero b h = grind arith

one_more : (bytes : List ℕ) (count : ℕ) → 0 < count → count ≤ length bytes → take count bytes ≡ take (count - 1) bytes ++ get_or bytes (count - 1) 0 ∷ []
one_more bytes count some within =
    let below : count - 1 < length bytes = omega arith in
    let back : count ≡ count - 1 + 1 = omega arith in
    ap (λ n. take n bytes) back ∙ take_more bytes (count - 1) 0 below

-- a zero in front of those that were passed is passed too
pub zero_passed : (bytes : List ℕ) (count : ℕ) → (shown is_zero (take count bytes) ≡ shown is_zero bytes) × (count ≤ length bytes) → 0 < count → get_or bytes (count - 1) 0 ≡ 0
    → (shown is_zero (take (count - 1) bytes) ≡ shown is_zero bytes) × (count - 1 ≤ length bytes)
zero_passed bytes count so_far some h =
    let within : count ≤ length bytes = so_far.1 in (
      sym (drops_last is_zero (take (count - 1) bytes) (get_or bytes (count - 1) 0) (same_zero (get_or bytes (count - 1) 0) h))
          ∙ ap (shown is_zero) (sym (one_more bytes count some within)) ∙ so_far.0,
      omega arith,
    )

-- the bytes up to one that isn't zero are those that are shown
pub stops_there : (bytes : List ℕ) (count : ℕ) → (shown is_zero (take count bytes) ≡ shown is_zero bytes) × (count ≤ length bytes) → 0 < count → (get_or bytes (count - 1) 0 ≡ 0 → ⊥)
    → take count bytes ≡ shown is_zero bytes
stops_there bytes count so_far some h =
    let last : take count bytes ≡ take (count - 1) bytes ++ get_or bytes (count - 1) 0 ∷ [] = one_more bytes count some so_far.1 in
    last ∙ sym (keeps_last is_zero (take (count - 1) bytes) (get_or bytes (count - 1) 0) (no_zero (get_or bytes (count - 1) 0) h)) ∙ ap (shown is_zero) (sym last) ∙ so_far.0

-- no bytes are shown
pub none_shown : (bytes : List ℕ) (count : ℕ) → count ≡ 0 → take count bytes ≡ shown is_zero bytes → codes "-" ≡ bytes_text bytes
none_shown bytes count none front = ap (λ n. digits_or_none (take n bytes)) (sym none) ∙ ap digits_or_none front

digits_of-some : (xs : List ℕ) → 0 < length xs → encode_lower xs ≡ digits_or_none xs
digits_of-some [] h = absurd (omega arith)
digits_of-some (b ∷ bs) h = refl

-- some are
pub some_shown : (bytes : List ℕ) (count : ℕ) → (count ≡ 0 → ⊥) → count ≤ length bytes → take count bytes ≡ shown is_zero bytes → encode_lower (take count bytes) ≡ bytes_text bytes
some_shown bytes count some within front =
    let size : length (take count bytes) ≡ count = length-take-le count bytes within in
    let more : 0 < length (take count bytes) = positive count (length (take count bytes)) size some in
    digits_of-some (take count bytes) more ∙ ap digits_or_none front
  where
    positive : (n m : ℕ) → m ≡ n → (n ≡ 0 → ⊥) → 0 < m
    positive n m e h = grind arith
