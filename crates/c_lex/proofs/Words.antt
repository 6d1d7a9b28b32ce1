-- Words and numbers are the longest lexemes at their places.
use Rattle.std.proofs.Common.{◌≡◌, ℕ, ◌<◌, Bool, true, false, [], ◌∷◌, ◌++◌, length, take, slice_index, IsSome, refl, sym, ◌∙◌, ap, subst, arith}
use Rattle.std.specs.Char.{is_ascii_digit}
use Rattle.std.specs.List.{prefix_len, list_all}
use Rattle.c_ast.specs.Lexeme.{Text, Meaning, one, is_word_byte, is_letter, is_blank, where_true, lexeme, word_token, number_of, number_meaning}
use Rattle.c_ast.specs.Lexical.{IsLongest, BeginsWith}
use Rattle.c_lex.specs.Front.{IsFront}
use Rattle.c_lex.proofs.Spans.{kept, left, kept-is, kept-left, length-kept, kept-all, left-fails, none-more}
use Rattle.c_lex.proofs.Classes.{letter-not_blank, letter-in_word, digit-not_blank, digit-not_letter, digit-in_word}

-- what begins with a byte like this is a lexeme where the bytes behind it are those of words, and means what m says of it
pub record IsWordlike (b : ℕ) (m : Text → Meaning) : Type 0 where
  pub member : is_word_byte b ≡ true
  pub is : (bs : Text) → lexeme (b ∷ bs) ≡ where_true (list_all is_word_byte bs) (m (b ∷ bs))

letter-wordlike : (b : ℕ) → is_letter b ≡ true → IsWordlike b (λ w. one (word_token w))
letter-wordlike b h = record { member = letter-in_word b h; is = λ bs. let e : is_blank b ≡ false = letter-not_blank b h in rw (e, h) }

digit-wordlike : (b : ℕ) → is_ascii_digit b ≡ true → IsWordlike b (λ w. number_meaning (number_of w))
digit-wordlike b h = record { member = digit-in_word b h; is = λ bs. let e : is_blank b ≡ false = digit-not_blank b h in let f : is_letter b ≡ false = digit-not_letter b h in rw (e, f, h) }

pub where_true-some : (t : Bool) (m : Meaning) → IsSome (where_true t m) → t ≡ true
where_true-some true m h = refl
where_true-some false m h = h

pub wordlike-longest : (b : ℕ) (m : Text → Meaning) (bs : Text) → IsWordlike b m → IsLongest (b ∷ kept is_word_byte bs) (left is_word_byte bs) (m (b ∷ kept is_word_byte bs))
wordlike-longest b m bs like = record {
  stands = like.is (kept is_word_byte bs) ∙ ap (λ t. where_true t (m (b ∷ kept is_word_byte bs))) (kept-all is_word_byte bs);
  longest = λ more after e some.
      none-more is_word_byte (kept is_word_byte bs) (left is_word_byte bs) more after (left-fails is_word_byte bs) e
      (where_true-some (list_all is_word_byte (kept is_word_byte bs ++ more)) (m (b ∷ (kept is_word_byte bs ++ more)))
      (subst IsSome (like.is (kept is_word_byte bs ++ more)) some));
}

kept-cons : (b : ℕ) (bs : Text) → is_word_byte b ≡ true → kept is_word_byte (b ∷ bs) ≡ b ∷ kept is_word_byte bs
kept-cons b bs h = rw h

left-cons : (b : ℕ) (bs : Text) → is_word_byte b ≡ true → left is_word_byte (b ∷ bs) ≡ left is_word_byte bs
left-cons b bs h = rw h

wordlike-front : (text : Text) (m : Text → Meaning) → 0 < length text → IsWordlike (slice_index text 0) m → IsFront text (prefix_len is_word_byte text) (m (kept is_word_byte text))
wordlike-front [] m some like = absurd (omega arith)
wordlike-front (b ∷ bs) m some like = record {
  front = kept is_word_byte (b ∷ bs);
  rest = left is_word_byte (b ∷ bs);
  split = kept-left is_word_byte (b ∷ bs);
  size = length-kept is_word_byte (b ∷ bs);
  some = let e : length (kept is_word_byte (b ∷ bs)) ≡ prefix_len is_word_byte (b ∷ bs) = length-kept is_word_byte (b ∷ bs) in
      let f : length (kept is_word_byte (b ∷ bs)) ≡ length (b ∷ kept is_word_byte bs) = ap length (kept-cons b bs like.member) in omega arith;
  longest = let P : Text → Text → Type 0 = λ front rest. IsLongest front rest (m front) in
      subst (λ rest. P (kept is_word_byte (b ∷ bs)) rest) (sym (left-cons b bs like.member))
      (subst (λ front. P front (left is_word_byte bs)) (sym (kept-cons b bs like.member)) (wordlike-longest b m bs like));
}

pub word-front : (text : Text) (len : ℕ) → 0 < length text → is_letter (slice_index text 0) ≡ true → len ≡ prefix_len is_word_byte text → IsFront text len (one (word_token (take len text)))
word-front text len some letter e =
    let front : IsFront text (prefix_len is_word_byte text) (one (word_token (kept is_word_byte text))) = wordlike-front text (λ w. one (word_token w)) some (letter-wordlike (slice_index text 0) letter) in
    let P : Text → ℕ → Type 0 = λ w n. IsFront text n (one (word_token w)) in
    subst (λ n. P (take n text) n) (sym e) (subst (λ w. P w (prefix_len is_word_byte text)) (sym (kept-is is_word_byte text)) front)

pub number-front : (text : Text) (len : ℕ) → 0 < length text → is_ascii_digit (slice_index text 0) ≡ true → len ≡ prefix_len is_word_byte text → IsFront text len (number_meaning (number_of (take len text)))
number-front text len some digit e =
    let front : IsFront text (prefix_len is_word_byte text) (number_meaning (number_of (kept is_word_byte text))) = wordlike-front text (λ w. number_meaning (number_of w)) some (digit-wordlike (slice_index text 0) digit) in
    let P : Text → ℕ → Type 0 = λ w n. IsFront text n (number_meaning (number_of w)) in
    subst (λ n. P (take n text) n) (sym e) (subst (λ w. P w (prefix_len is_word_byte text)) (sym (kept-is is_word_byte text)) front)

-- the front of a text that word_length measures is made of the bytes of words
pub word-all : (text : Text) (len : ℕ) → len ≡ prefix_len is_word_byte text → list_all is_word_byte (take len text) ≡ true
word-all text len e = subst (λ n. list_all is_word_byte (take n text) ≡ true) (sym e) (subst (λ w. list_all is_word_byte w ≡ true) (sym (kept-is is_word_byte text)) (kept-all is_word_byte text))

pub ruleset word_facts = (word-front, number-front, word-all)

-- the piece in front is what the text begins with
pub front-begins : (text : Text) (len : ℕ) {m : Meaning} → IsFront text len m → BeginsWith m text
front-begins text len f = record { front = f.front; rest = f.rest; split = f.split; longest = f.longest }
