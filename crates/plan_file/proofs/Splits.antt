-- What stands before a byte and behind it.
use Rattle.std.proofs.Common.{◌≡◌, ℕ, List, [], ◌∷◌, length, take, drop, Bool, true, false, nat_eq, if◌then◌else◌, refl, ◌∙◌, ap, arith}
use Rattle.plan_file.specs.Forms.{before_byte, after_byte}

before_step : (r : Bool) (stop b : ℕ) (bs : List ℕ) → take (length (before_byte stop bs)) bs ≡ before_byte stop bs
    → take (length (if r then [] else b ∷ before_byte stop bs)) (b ∷ bs) ≡ (if r then [] else b ∷ before_byte stop bs)
before_step true stop b bs ih = refl
before_step false stop b bs ih = ap (λ l. b ∷ l) ih

pub take-before : (stop : ℕ) (text : List ℕ) → take (length (before_byte stop text)) text ≡ before_byte stop text
take-before stop [] = refl
take-before stop (b ∷ bs) = before_step (nat_eq b stop) stop b bs (take-before stop bs)

after_step : (r : Bool) (stop b : ℕ) (bs : List ℕ) → drop 1 (drop (length (before_byte stop bs)) bs) ≡ after_byte stop bs
    → drop 1 (drop (length (if r then [] else b ∷ before_byte stop bs)) (b ∷ bs)) ≡ (if r then bs else after_byte stop bs)
after_step true stop b bs ih = refl
after_step false stop b bs ih = ih

pub drop-before : (stop : ℕ) (text : List ℕ) → drop 1 (drop (length (before_byte stop text)) text) ≡ after_byte stop text
drop-before stop [] = refl
drop-before stop (b ∷ bs) = after_step (nat_eq b stop) stop b bs (drop-before stop bs)

pub none_more : (xs : List ℕ) → length xs ≡ 0 → xs ≡ drop 1 xs
none_more [] e = refl
none_more (x ∷ xs) e = absurd (omega arith)

pub nothing_after : (stop : ℕ) (text : List ℕ) → length (drop (length (before_byte stop text)) text) ≡ 0 → drop (length (before_byte stop text)) text ≡ after_byte stop text
nothing_after stop text e = none_more (drop (length (before_byte stop text)) text) e ∙ drop-before stop text

pub ruleset splits = (take-before, drop-before, nothing_after)
