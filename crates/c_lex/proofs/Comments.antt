-- Comments are the longest lexemes at their places.
use Rattle.std.proofs.Common.{◌≡◌, ◌<◌, ℕ, suc, ◌+◌, Bool, true, false, cond, ◌&&◌, ◌==◌, true≢false, [], ◌∷◌, ◌++◌, length, drop, slice_index, Option, Some, None, IsSome, option_map, refl, sym, ◌∙◌, ap, subst, inr, arith}
use Rattle.std.specs.List.{prefix_len, list_all}
use Rattle.std.specs.Cmp.{second_so}
use Rattle.c_ast.specs.Lexeme.{Text, nothing, unclosed, where_empty, where_true, block_comment}
use Rattle.c_ast.specs.Lexical.{HasBadByte}
use Rattle.c_lex.specs.Front.{IsFront, is_of_line, comment_end}
use Rattle.c_lex.proofs.Spans.{kept, left, kept-left, length-kept, kept-all, left-fails, none-more}
use Rattle.c_lex.proofs.Words.{where_true-some}
use Rattle.c_lex.proofs.Readings.{absurd-of}

-- the text up to its first closing of a comment, and the rest
record Closed (text : Text) (n : ℕ) : Type 0 where
  front : Text
  rest : Text
  split : text ≡ front ++ rest
  size : length front ≡ n
  stands : block_comment front ≡ Some nothing
  longest : (x : ℕ) (more : Text) → block_comment (front ++ x ∷ more) ≡ None

nothing-unclosed : Some unclosed ≡ Some nothing → ⊥
nothing-unclosed h = let e : true ≡ false = cc in absurd (true≢false e)

closed_cons : (b x : ℕ) (text front rest : Text) (m n : ℕ) → (b == 42 && x == 47) ≡ false → x ∷ text ≡ front ++ rest → length front ≡ m → suc m ≡ n → block_comment front ≡ Some nothing
    → ((y : ℕ) (more : Text) → block_comment (front ++ y ∷ more) ≡ None) → Closed (b ∷ x ∷ text) n
closed_cons b x text [] rest m n e split size longer stands none = absurd (nothing-unclosed stands)
closed_cons b x text (z ∷ front) rest m n e split size longer stands none =
    let head : x ≡ z = cc in
    let test : (b == 42 && z == 47) ≡ false = subst (λ c. (b == 42 && c == 47) ≡ false) head e in
    record {
      front = b ∷ z ∷ front;
      rest = rest;
      split = ap (λ bs. b ∷ bs) split;
      size = omega arith;
      stands = ap (λ t. cond t (where_empty front nothing) (block_comment (z ∷ front))) test ∙ stands;
      longest = λ y more. ap (λ t. cond t (where_empty (front ++ y ∷ more) nothing) (block_comment (z ∷ front ++ y ∷ more))) test ∙ none y more;
    }

suc_map : (o : Option ℕ) (n : ℕ) → option_map (λ len. suc len) o ≡ Some n → (m : ℕ) × (o ≡ Some m) × (suc m ≡ n)
suc_map (Some m) n h = (m, refl, cc)
suc_map None n h = absurd (absurd-of h)

no_suc_map : (o : Option ℕ) → option_map (λ len. suc len) o ≡ None → o ≡ None
no_suc_map None h = refl
no_suc_map (Some m) h = absurd (absurd-of (sym h))

closed_step : (t : Bool) (b : ℕ) (text : Text) (n : ℕ) → (b == 42 && slice_index text 0 == 47) ≡ t
    → ((m : ℕ) → comment_end text ≡ Some m → Closed text m)
    → cond t (Some 2) (option_map (λ len. suc len) (comment_end text)) ≡ Some n → Closed (b ∷ text) n
closed_step true b [] n e ih h = absurd (true≢false (sym (second_so (b == 42) false e)))
closed_step false b [] n e ih h = absurd (absurd-of h)
closed_step true b (x ∷ text) n e ih h = record {
  front = b ∷ x ∷ [];
  rest = text;
  split = refl;
  size = let k : 2 ≡ n = cc in k;
  stands = ap (λ t. cond t (where_empty [] nothing) (block_comment (x ∷ []))) e;
  longest = λ y more. ap (λ t. cond t (where_empty (y ∷ more) nothing) (block_comment (x ∷ y ∷ more))) e;
}
closed_step false b (x ∷ text) n e ih h =
    let u : (m : ℕ) × (comment_end (x ∷ text) ≡ Some m) × (suc m ≡ n) = suc_map (comment_end (x ∷ text)) n h in
    let s : Closed (x ∷ text) u.0 = ih u.0 u.1 in
    closed_cons b x text s.front s.rest u.0 n e s.split s.size u.2 s.stands s.longest

closed : (text : Text) (n : ℕ) → comment_end text ≡ Some n → Closed text n
closed [] n h = absurd (absurd-of h)
closed (b ∷ text) n h = closed_step (b == 42 && slice_index text 0 == 47) b text n refl (λ m k. closed text m k) h

open_step : (t : Bool) (text : Text) → (comment_end text ≡ None → block_comment text ≡ Some unclosed)
    → cond t (Some 2) (option_map (λ len. suc len) (comment_end text)) ≡ None → cond t (where_empty (drop 1 text) nothing) (block_comment text) ≡ Some unclosed
open_step true text ih h = absurd (absurd-of (sym h))
open_step false text ih h = ih (no_suc_map (comment_end text) h)

opened : (text : Text) → comment_end text ≡ None → block_comment text ≡ Some unclosed
opened [] h = refl
opened (b ∷ text) h = open_step (b == 42 && slice_index text 0 == 47) text (λ k. opened text k) h

no_more_closed : (front more : Text) → ((y : ℕ) (ys : Text) → block_comment (front ++ y ∷ ys) ≡ None) → IsSome (block_comment (front ++ more)) → more ≡ []
no_more_closed front [] none some = refl
no_more_closed front (y ∷ more) none some = absurd (true≢false (sym (subst IsSome (none y more) some)))

pub block-front : (text : Text) (n : ℕ) → 1 < length text → slice_index text 0 ≡ 47 → slice_index text 1 ≡ 42 → comment_end (drop 2 text) ≡ Some n → IsFront text (2 + n) nothing
block-front [] n long a b h = absurd (omega arith)
block-front (x ∷ []) n long a b h = absurd (omega arith)
block-front (x ∷ y ∷ text) n long a b h =
    let s : Closed text n = closed text n h in
    subst (λ c. IsFront (c ∷ y ∷ text) (2 + n) nothing) (sym a) (subst (λ d. IsFront (47 ∷ d ∷ text) (2 + n) nothing) (sym b) (record {
      front = 47 ∷ 42 ∷ s.front;
      rest = s.rest;
      split = ap (λ bs. 47 ∷ 42 ∷ bs) s.split;
      size = let e : length s.front ≡ n = s.size in omega arith;
      some = omega arith;
      longest = record { stands = s.stands; longest = λ more after e some. no_more_closed s.front more s.longest some };
    }))

nil_front : (more after : Text) → [] ≡ more ++ after → more ≡ []
nil_front [] after e = refl
nil_front (x ∷ more) after e = cc

append_nil : (text : Text) → text ≡ text ++ []
append_nil [] = refl
append_nil (b ∷ text) = ap (λ bs. b ∷ bs) (append_nil text)

pub block-none : (text : Text) → 1 < length text → slice_index text 0 ≡ 47 → slice_index text 1 ≡ 42 → comment_end (drop 2 text) ≡ None → HasBadByte text
block-none [] long a b h = absurd (omega arith)
block-none (x ∷ []) long a b h = absurd (omega arith)
block-none (x ∷ y ∷ text) long a b h =
    subst (λ c. HasBadByte (c ∷ y ∷ text)) (sym a) (subst (λ d. HasBadByte (47 ∷ d ∷ text)) (sym b) (inr (record {
      front = 47 ∷ 42 ∷ text;
      rest = [];
      split = append_nil (47 ∷ 42 ∷ text);
      longest = record { stands = opened text h; longest = λ more after e some. nil_front more after e };
    })))

pub line-front : (text : Text) (n : ℕ) → 1 < length text → slice_index text 0 ≡ 47 → slice_index text 1 ≡ 47 → n ≡ prefix_len is_of_line (drop 2 text) → IsFront text (2 + n) nothing
line-front [] n long a b h = absurd (omega arith)
line-front (x ∷ []) n long a b h = absurd (omega arith)
line-front (x ∷ y ∷ text) n long a b h =
    subst (λ c. IsFront (c ∷ y ∷ text) (2 + n) nothing) (sym a) (subst (λ d. IsFront (47 ∷ d ∷ text) (2 + n) nothing) (sym b) (record {
      front = 47 ∷ 47 ∷ kept is_of_line text;
      rest = left is_of_line text;
      split = ap (λ bs. 47 ∷ 47 ∷ bs) (kept-left is_of_line text);
      size = let e : length (kept is_of_line text) ≡ n = length-kept is_of_line text ∙ sym h in omega arith;
      some = omega arith;
      longest = record {
        stands = ap (λ t. where_true t nothing) (kept-all is_of_line text);
        longest = λ more after e some. none-more is_of_line (kept is_of_line text) (left is_of_line text) more after (left-fails is_of_line text) e
            (where_true-some (list_all is_of_line (kept is_of_line text ++ more)) nothing some);
      };
    }))
