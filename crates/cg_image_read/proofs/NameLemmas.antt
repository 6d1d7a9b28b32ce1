-- Names: bytes of a word, and names among others.
use Rattle.std.proofs.Common.{◌≡◌, ◌∙◌, ap, refl, ℕ, zero, suc, ◌+◌, ◌<◌, Bool, true, false, cond, List, [], ◌∷◌, ◌++◌, ◌||◌, ◌&&◌, Some, arith}
use Rattle.std.specs.Prelude.{position, is_some, not, bytes_eq, if◌then◌else◌}
use Rattle.std.specs.List.{list_any, list_all, position_from}
use Rattle.std.specs.Str.{IsAscii}
use Rattle.std.proofs.lemmas.Iterator.Adapters.{position_from-zero}
use Rattle.c_check_scope.specs.Names.{with_name}
use Rattle.src_meaning.specs.ValidNames.{is_letter, is_word_byte, is_word, is_identifier, is_keyword}

some_from : {A : Type 0} (p : A → Bool) (i : ℕ) (xs : List A) → is_some (position_from p i xs) ≡ list_any p xs
some_from p i [] = refl
some_from p i (x ∷ xs) = by (p x) (some_from p (i + 1) xs)
  where
    by : (b : Bool) → is_some (position_from p (i + 1) xs) ≡ list_any p xs → is_some (cond b (Some i) (position_from p (i + 1) xs)) ≡ (b || list_any p xs)
    by true h = refl
    by false h = h

-- a place is found where an element passes
pub some_position : {A : Type 0} (p : A → Bool) (xs : List A) → is_some (position p xs) ≡ list_any p xs
some_position p xs = ap is_some (position_from-zero p xs) ∙ some_from p 0 xs

both_0 : (a b : Bool) → (a && b) ≡ true → a ≡ true
both_0 true b h = refl
both_0 false b h = absurd cc

both_1 : (a b : Bool) → (a && b) ≡ true → b ≡ true
both_1 true b h = h
both_1 false b h = absurd cc

low_letter : (b : ℕ) → is_letter b ≡ true → b < 128
low_letter b h = grind arith

low_byte : (b : ℕ) → is_word_byte b ≡ true → b < 128
low_byte b h = grind arith

low_bytes : (bs : List ℕ) → list_all is_word_byte bs ≡ true → IsAscii bs
low_bytes [] h i = omega arith
low_bytes (b ∷ bs) h zero = low_byte b (both_0 (is_word_byte b) (list_all is_word_byte bs) h)
low_bytes (b ∷ bs) h (suc i) = low_bytes bs (both_1 (is_word_byte b) (list_all is_word_byte bs) h) i

low_word : (word : List ℕ) → is_word word ≡ true → IsAscii word
low_word [] h i = omega arith
low_word (b ∷ bs) h zero = low_letter b (both_0 (is_letter b) (list_all is_word_byte bs) h)
low_word (b ∷ bs) h (suc i) = low_bytes bs (both_1 (is_letter b) (list_all is_word_byte bs) h) i

-- an identifier is ASCII
pub low_identifier : (word : List ℕ) → is_identifier word ≡ true → IsAscii word
low_identifier word h = low_word word (both_0 (is_word word) (not (is_keyword word)) h)

-- a name that isn't among names is added
pub added : (names : List (List ℕ)) (x : List ℕ) → list_any (bytes_eq x) names ≡ false → with_name names x ≡ names ++ x ∷ []
added names x h = ap (λ b. if b then names else names ++ (x ∷ [])) h
