-- Marks are the longest lexemes at their places, and so is a blank.
use Rattle.std.proofs.Common.{◌≡◌, ◌≢◌, ◌≤◌, ◌<◌, ℕ, zero, suc, ◌+◌, Bool, true, false, cond, ◌||◌, ◌==◌, nat_le, true≢false, List, [], ◌∷◌, ◌++◌, length, map, take, drop, slice_index, Option, Some, None, IsSome, option_map, refl, sym, ◌∙◌, ap, subst, inl, arith, length-append, append_assoc, take-append-drop, length-take-le, bytes_eq}
use Rattle.std.specs.Char.{is_ascii_digit}
use Rattle.std.specs.List.{list_all}
use Rattle.std.specs.Cmp.{first_so, second_so}
use Rattle.std.proofs.lemmas.Slice.Eq.{bytes_eq-Decides}
use Rattle.std.proofs.lemmas.Bool.{eqb-true}
use Rattle.c_ast.specs.declared.token.Mark.{Mark}
use Rattle.c_ast.specs.declared.token.Token.TheVariants as token
use Rattle.c_ast.specs.declared.spelling.TheConstants.{MARKS}
use Rattle.c_ast.specs.Lexeme.{Text, one, nothing, lexeme, look_up, mark_of, mark_meaning, after_slash, is_blank, is_letter, where_empty}
use Rattle.c_ast.specs.Lexical.{HasBadByte}
use Rattle.c_lex.specs.Front.{IsFront, BeginsMark, IsLastMark, is_other}
use Rattle.c_lex.proofs.Readings.{absurd-of, none_map}

-- ---- blanks

blank_more : (more : Text) → IsSome (where_empty more nothing) → more ≡ []
blank_more [] h = refl
blank_more (x ∷ more) h = absurd (true≢false (sym h))

blank-is : (b : ℕ) (bs : Text) → is_blank b ≡ true → lexeme (b ∷ bs) ≡ where_empty bs nothing
blank-is b bs h = rw h

pub blank-front : (text : Text) → 0 < length text → is_blank (slice_index text 0) ≡ true → IsFront text 1 nothing
blank-front [] some h = absurd (omega arith)
blank-front (b ∷ text) some h = record {
  front = b ∷ [];
  rest = text;
  split = refl;
  size = refl;
  some = omega arith;
  longest = record { stands = blank-is b [] h; longest = λ more after e present. blank_more more (subst IsSome (blank-is b more h) present) };
}

-- ---- marks are short

same_length : (row w : Text) → bytes_eq row w ≡ true → length row ≡ length w
same_length row w h = ap length ((bytes_eq-Decides row w).0 h)

short_step : {A : Type 0} (t : Bool) (row w : Text) (x y : A) (o : Option A) → bytes_eq row w ≡ t → nat_le (length row) 3 ≡ true → (o ≡ Some y → length w ≤ 3) → cond t (Some x) o ≡ Some y → length w ≤ 3
short_step true row w x y o e short ih h = let k : length row ≡ length w = same_length row w e in let l : length row ≤ 3 = grind arith in omega arith
short_step false row w x y o e short ih h = ih h

short : {A : Type 0} (rows : List (Text × A)) (w : Text) (y : A) → list_all (λ row. nat_le (length row.0) 3) rows ≡ true → look_up rows w ≡ Some y → length w ≤ 3
short [] w y all h = absurd (absurd-of h)
short (row ∷ rows) w y all h =
    short_step (bytes_eq row.0 w) row.0 w row.1 y (look_up rows w) refl (first_so (nat_le (length row.0) 3) (list_all (λ r. nat_le (length r.0) 3) rows) all)
    (λ k. short rows w y (second_so (nat_le (length row.0) 3) (list_all (λ r. nat_le (length r.0) 3) rows) all) k) h

mark-short : (w : Text) (m : Mark) → mark_of w ≡ Some m → length w ≤ 3
unfolding mark_of
mark-short w m h = short (map (λ row. (row.0.now, row.1)) MARKS) w m refl h

-- ---- what begins with no other lexeme is a mark

record Other (b : ℕ) : Type 0 where
  blank : is_blank b ≡ false
  letter : is_letter b ≡ false
  digit : is_ascii_digit b ≡ false
  single : (b == 39) ≡ false
  double : (b == 34) ≡ false

other_of : (p q r s t : Bool) → cond (p || q || r || s || t) false true ≡ true → (p ≡ false) × (q ≡ false) × (r ≡ false) × (s ≡ false) × (t ≡ false)
other_of false false false false false h = (refl, refl, refl, refl, refl)
other_of true q r s t h = absurd (true≢false (sym h))
other_of false true r s t h = absurd (true≢false (sym h))
other_of false false true s t h = absurd (true≢false (sym h))
other_of false false false true t h = absurd (true≢false (sym h))
other_of false false false false true h = absurd (true≢false (sym h))

other-is : (b : ℕ) → is_other b ≡ true → Other b
other-is b h = let u : (is_blank b ≡ false) × (is_letter b ≡ false) × (is_ascii_digit b ≡ false) × ((b == 39) ≡ false) × ((b == 34) ≡ false) =
    other_of (is_blank b) (is_letter b) (is_ascii_digit b) (b == 39) (b == 34) h in
    record { blank = u.0; letter = u.1; digit = u.2; single = u.3; double = u.4 }

other-lexeme : (b : ℕ) (bs : Text) → Other b → lexeme (b ∷ bs) ≡ cond (b == 47) (after_slash bs) (mark_meaning (b ∷ bs))
other-lexeme b bs o = let p : is_blank b ≡ false = o.blank in let q : is_letter b ≡ false = o.letter in let r : is_ascii_digit b ≡ false = o.digit in
    let s : (b == 39) ≡ false = o.single in let t : (b == 34) ≡ false = o.double in rw (p, q, r, s, t)

not_same : (x n : ℕ) → x ≢ n → (x == n) ≡ false
not_same x n h = grind arith

slash_mark : (x : ℕ) (bs : Text) → x ≢ 42 → x ≢ 47 → after_slash (x ∷ bs) ≡ mark_meaning (47 ∷ x ∷ bs)
slash_mark x bs h k = let p : (x == 42) ≡ false = not_same x 42 h in let q : (x == 47) ≡ false = not_same x 47 k in rw (p, q)

front_mark_step : (t : Bool) (b : ℕ) (ws after : Text) → (b == 47) ≡ t → (b ≡ 47 → (slice_index (ws ++ after) 0 ≢ 42) × (slice_index (ws ++ after) 0 ≢ 47))
    → cond t (after_slash ws) (mark_meaning (b ∷ ws)) ≡ mark_meaning (b ∷ ws)
front_mark_step false b ws after e h = refl
front_mark_step true b [] after e h = let k : b ≡ 47 = eqb-true b 47 e in ap (λ c. mark_meaning (c ∷ [])) (sym k)
front_mark_step true b (x ∷ ws) after e h = let k : b ≡ 47 = eqb-true b 47 e in
    slash_mark x ws (h k).0 (h k).1 ∙ ap (λ c. mark_meaning (c ∷ x ∷ ws)) (sym k)

-- a front of a text that begins with a mark is a lexeme only as a mark
front-mark : (text : Text) (b : ℕ) (ws after : Text) → BeginsMark text → text ≡ b ∷ ws ++ after → lexeme (b ∷ ws) ≡ mark_meaning (b ∷ ws)
front-mark text b ws after begins e =
    let other : is_other b ≡ true = subst (λ t. is_other (slice_index t 0) ≡ true) e begins.other in
    let second : b ≡ 47 → (slice_index (ws ++ after) 0 ≢ 42) × (slice_index (ws ++ after) 0 ≢ 47) =
    subst (λ t. slice_index t 0 ≡ 47 → (slice_index t 1 ≢ 42) × (slice_index t 1 ≢ 47)) e begins.no_comment in
    other-lexeme b ws (other-is b other) ∙ front_mark_step (b == 47) b ws after refl second

some_mark : (o : Option Mark) → IsSome (option_map (λ m. one (token.Mark m)) o) → (m : Mark) × (o ≡ Some m)
some_mark (Some m) h = (m, refl)
some_mark None h = absurd (true≢false (sym h))

take-front : (front rest : Text) → take (length front) (front ++ rest) ≡ front
take-front [] rest = refl
take-front (b ∷ front) rest = ap (λ bs. b ∷ bs) (take-front front rest)

no_longer : (text front more after : Text) → BeginsMark text → 0 < length front → text ≡ (front ++ more) ++ after → IsLastMark text (length front) → IsSome (lexeme (front ++ more)) → more ≡ []
no_longer text front [] after begins some e longest present = refl
no_longer text [] (x ∷ more) after begins some e longest present = absurd (omega arith)
no_longer text (b ∷ front) (x ∷ more) after begins some e longest present =
    let is_mark : lexeme (b ∷ (front ++ x ∷ more)) ≡ mark_meaning (b ∷ (front ++ x ∷ more)) = front-mark text b (front ++ x ∷ more) after begins e in
    let m : (m : Mark) × (mark_of (b ∷ (front ++ x ∷ more)) ≡ Some m) = some_mark (mark_of (b ∷ (front ++ x ∷ more))) (subst IsSome is_mark present) in
    let is_short : length (b ∷ (front ++ x ∷ more)) ≤ 3 = mark-short (b ∷ (front ++ x ∷ more)) m.0 m.1 in
    let sizes : length (front ++ x ∷ more) ≡ length front + length (x ∷ more) = length-append front (x ∷ more) in
    let whole : length text ≡ length ((b ∷ (front ++ x ∷ more)) ++ after) = ap length e in
    let whole_sizes : length ((b ∷ (front ++ x ∷ more)) ++ after) ≡ length (b ∷ (front ++ x ∷ more)) + length after = length-append (b ∷ (front ++ x ∷ more)) after in
    let none : mark_of (take (length (b ∷ (front ++ x ∷ more))) text) ≡ None = longest (length (b ∷ (front ++ x ∷ more))) (omega arith) is_short (omega arith) in
    let same : take (length (b ∷ (front ++ x ∷ more))) text ≡ b ∷ (front ++ x ∷ more) = ap (take (length (b ∷ (front ++ x ∷ more)))) e ∙ take-front (b ∷ (front ++ x ∷ more)) after in
    absurd (absurd-of (sym none ∙ ap mark_of same ∙ m.1))

mark-stands : (text front rest : Text) (m : Mark) → BeginsMark text → 0 < length front → text ≡ front ++ rest → mark_of front ≡ Some m → lexeme front ≡ Some (one (token.Mark m))
mark-stands text [] rest m begins some e h = absurd (omega arith)
mark-stands text (b ∷ ws) rest m begins some e h = front-mark text b ws rest begins e ∙ ap (option_map (λ k. one (token.Mark k))) h

pub mark-front : (text : Text) (len : ℕ) (m : Mark) → BeginsMark text → 0 < len → len ≤ length text → mark_of (take len text) ≡ Some m → IsLastMark text len → IsFront text len (one (token.Mark m))
mark-front text len m begins some within h longest =
    let size : length (take len text) ≡ len = length-take-le len text within in
    let split : text ≡ take len text ++ drop len text = sym (take-append-drop len text) in
    let some_front : 0 < length (take len text) = omega arith in
    record {
      front = take len text;
      rest = drop len text;
      split = split;
      size = size;
      some = some;
      longest = record {
        stands = mark-stands text (take len text) (drop len text) m begins some_front split h;
        longest = λ more after e present.
            no_longer text (take len text) more after begins some_front
            (split ∙ ap (λ r. take len text ++ r) e ∙ sym (append_assoc (take len text) more after))
            (subst (IsLastMark text) (sym size) longest) present;
      };
    }

no_mark : (text front rest : Text) (m : Mark) → text ≡ front ++ rest → IsLastMark text 0 → 0 < length front → mark_of front ≡ Some m → ⊥
no_mark text front rest m e last some h =
    let is_short : length front ≤ 3 = mark-short front m h in
    let sizes : length text ≡ length front + length rest = ap length e ∙ length-append front rest in
    let none : mark_of (take (length front) text) ≡ None = last (length front) some is_short (omega arith) in
    absurd-of (sym none ∙ ap mark_of (ap (take (length front)) e ∙ take-front front rest) ∙ h)

pub mark-none : (text : Text) → BeginsMark text → IsLastMark text 0 → HasBadByte text
mark-none text begins last = inl (none text begins last)
  where
    none : (text : Text) → BeginsMark text → IsLastMark text 0 → (front rest : Text) → text ≡ front ++ rest → lexeme front ≡ None
    none text begins last [] rest e = refl
    none text begins last (b ∷ ws) rest e = front-mark text b ws rest begins e
        ∙ none_map (λ m. one (token.Mark m)) (mark_of (b ∷ ws)) (λ m h. no_mark text (b ∷ ws) rest m e last (omega arith) h)

-- the fronts that are tried in turn
pub after-three : (text : Text) → IsLastMark text 3
after-three text k above below within = absurd (omega arith)

pub after-two : (text : Text) → (3 ≤ length text → mark_of (take 3 text) ≡ None) → IsLastMark text 2
after-two text three k above below within = let e : k ≡ 3 = omega arith in let w : 3 ≤ length text = omega arith in subst (λ n. mark_of (take n text) ≡ None) (sym e) (three w)

pub after-one : (text : Text) → (3 ≤ length text → mark_of (take 3 text) ≡ None) → (2 ≤ length text → mark_of (take 2 text) ≡ None) → IsLastMark text 1
after-one text three two zero above below within = absurd (omega arith)
after-one text three two (suc zero) above below within = absurd (omega arith)
after-one text three two (suc (suc zero)) above below within = two within
after-one text three two (suc (suc (suc k))) above below within = after-two text three (suc (suc (suc k))) (omega arith) below within

pub after-none : (text : Text) → (3 ≤ length text → mark_of (take 3 text) ≡ None) → (2 ≤ length text → mark_of (take 2 text) ≡ None) → (1 ≤ length text → mark_of (take 1 text) ≡ None) → IsLastMark text 0
after-none text three two single zero above below within = absurd (omega arith)
after-none text three two single (suc zero) above below within = single within
after-none text three two single (suc (suc k)) above below within = after-one text three two (suc (suc k)) (omega arith) below within

pub ruleset front_facts = (blank-front, mark-front, mark-none, after-three, after-two, after-one, after-none)
