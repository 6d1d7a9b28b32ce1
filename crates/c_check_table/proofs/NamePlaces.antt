-- Where a name stands among names.
use Rattle.std.proofs.Common.{◌≡◌, sym, ap, refl, ℕ, suc, ◌+◌, Bool, true, false, cond, List, [], ◌∷◌, ◌++◌, ◌||◌, length, Some, None, nat_lt, arith}
use Rattle.std.specs.Prelude.{not, if◌then◌else◌}
use Rattle.std.specs.List.{list_any, position_or_len}
use Rattle.std.specs.Str.{bytes_eq}
use Rattle.c_check_scope.specs.Names.{Text, number_named, place_of, with_name}

some_is : (b : Bool) (m n : ℕ) → cond b (Some m) None ≡ Some n → m ≡ n
some_is true m n h = cc
some_is false m n h = absurd (cc)

-- the number of a name that is among them
pub place_of_found : (names : List Text) (x : Text) (n : ℕ) → number_named names x ≡ Some n → n ≡ place_of names x
unfolding number_named
place_of_found names x n h =
    sym (some_is (nat_lt (position_or_len (bytes_eq x) names) (length names)) (position_or_len (bytes_eq x) names) n h)

none_is : (b : Bool) (m : ℕ) → cond b (Some m) None ≡ None → b ≡ false
none_is true m h = absurd (cc)
none_is false m h = refl

later : (m n : ℕ) → nat_lt (1 + m) (suc n) ≡ false → nat_lt m n ≡ false
later m n h = grind (arith)

or_none : (b : Bool) (m n : ℕ) (rest : Bool) → (nat_lt m n ≡ false → rest ≡ false) → nat_lt (cond (not b) (1 + m) 0) (suc n) ≡ false → (b || rest) ≡ false
or_none true m n rest go h = grind (arith)
or_none false m n rest go h = go (later m n h)

none_passes : {A : Type 0} (p : A → Bool) (xs : List A) → nat_lt (position_or_len p xs) (length xs) ≡ false → list_any p xs ≡ false
none_passes p [] h = refl
none_passes p (x ∷ xs) h = or_none (p x) (position_or_len p xs) (length xs) (list_any p xs) (none_passes p xs) h

pub new_passes_none : (names : List Text) (x : Text) → number_named names x ≡ None → list_any (bytes_eq x) names ≡ false
unfolding number_named
new_passes_none names x h =
    none_passes (bytes_eq x) names (none_is (nat_lt (position_or_len (bytes_eq x) names) (length names)) (position_or_len (bytes_eq x) names) h)

-- a name that isn't among them comes last
pub with_name_new : (names : List Text) (x : Text) → number_named names x ≡ None → with_name names x ≡ names ++ (x ∷ [])
with_name_new names x h = ap (λ b. if b then names else names ++ (x ∷ [])) (new_passes_none names x h)
