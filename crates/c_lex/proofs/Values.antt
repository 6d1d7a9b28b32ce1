-- The value of digits does not fall as more of them are read.
use Rattle.std.proofs.Common.{◌≡◌, ◌≤◌, ◌<◌, ◌⊎◌, ℕ, ◌+◌, ◌*◌, [], ◌∷◌, ◌++◌, length, take, drop, get_or, Some, None, if◌then◌else◌, nat_lt, ◌∙◌, ap, subst, inl, inr, arith, take-append-drop, take_all, mul-le-mul_left}
use Rattle.std.specs.List.{fold}
use Rattle.std.proofs.lemmas.List.Sums.{fold-append, fold_more}
use Rattle.c_ast.specs.Lexeme.{Text, value_in, digit_of}

abbrev step : ℕ → ℕ → ℕ → ℕ
step base value b = value * base + digit_of b

step_grows : (base v d : ℕ) → 1 ≤ base → v ≤ v * base + d
step_grows base v d h = omega (arith, mul-le-mul_left v h)

grows : (base v : ℕ) (digits : Text) → 1 ≤ base → v ≤ fold (step base) v digits
grows base v [] h = omega arith
grows base v (b ∷ digits) h =
    let once : v ≤ step base v b = step_grows base v (digit_of b) h in
    let more : step base v b ≤ fold (step base) (step base v b) digits = grows base (step base v b) digits h in
    omega arith

front-below : (base i : ℕ) (digits : Text) → 1 ≤ base → value_in base (take i digits) ≤ value_in base digits
front-below base i digits h =
    let whole : value_in base (take i digits ++ drop i digits) ≡ fold (step base) (value_in base (take i digits)) (drop i digits) = fold-append (step base) 0 (take i digits) (drop i digits) in
    let joined : value_in base (take i digits ++ drop i digits) ≡ value_in base digits = ap (value_in base) (take-append-drop i digits) in
    let more : value_in base (take i digits) ≤ fold (step base) (value_in base (take i digits)) (drop i digits) = grows base (value_in base (take i digits)) (drop i digits) h in
    omega arith

positive : (base : ℕ) → (base ≡ 10) ⊎ (base ≡ 16) → 1 ≤ base
positive base (inl h) = omega arith
positive base (inr h) = omega arith

too_great : (bound n : ℕ) → bound ≤ n → None ≡ (if nat_lt n bound then Some n else None)
too_great bound n h = grind arith

pub overflows : (base i bound : ℕ) (digits : Text) → (base ≡ 10) ⊎ (base ≡ 16) → i < length digits
    → bound ≤ value_in base (take i digits) * base + digit_of (get_or digits i 0)
    → None ≡ (if nat_lt (value_in base digits) bound then Some (value_in base digits) else None)
overflows base i bound digits b within h =
    let next : value_in base (take (i + 1) digits) ≡ step base (value_in base (take i digits)) (get_or digits i 0) = fold_more (step base) 0 digits i 0 within in
    let below : value_in base (take (i + 1) digits) ≤ value_in base digits = front-below base (i + 1) digits (positive base b) in
    too_great bound (value_in base digits) (omega arith)

pub held : (base n bound i : ℕ) (digits : Text) → n < bound → length digits ≤ i → n ≡ value_in base (take i digits)
    → Some n ≡ (if nat_lt (value_in base digits) bound then Some (value_in base digits) else None)
held base n bound i digits h end e =
    let all : n ≡ value_in base digits = e ∙ ap (value_in base) (take_all i digits end) in
    subst (λ m. Some n ≡ (if nat_lt m bound then Some m else None)) all (fits n bound h)
  where
    fits : (n bound : ℕ) → n < bound → Some n ≡ (if nat_lt n bound then Some n else None)
    fits n bound h = grind arith
