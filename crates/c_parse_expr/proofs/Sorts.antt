-- Single tokens, and how the first token tells trees apart.
use Rattle.std.proofs.Common.{◌≡◌, ◌∙◌, refl, sym, ap, ℕ, ◌<◌, ◌≤◌, Bool, true, false, ◌⊎◌, inl, inr, List, [], ◌∷◌, Option, Some, None, cond, nat_eq, arith}
use Rattle.std.specs.Prelude.{◌||◌}
use Rattle.std.proofs.lemmas.Bool.Decides.{nat_tests}
use denote.Enum.Bare.{same_true, true_same}
use Rattle.c_ast.specs.declared.token.Token.{Token}
use Rattle.c_ast.specs.declared.token.Token.TheVariants as token
use Rattle.c_ast.specs.declared.token.Mark.{Mark}
use Rattle.c_ast.specs.declared.token.Mark.TheVariants as m
use Rattle.c_ast.specs.contracts.token.Mark as mark_enum
use Rattle.c_ast.specs.declared.token.Keyword.{Keyword}
use Rattle.c_ast.specs.contracts.token.Keyword as keyword_enum
use Rattle.c_ast.specs.declared.expr.BinaryOperator.{BinaryOperator}
use Rattle.c_ast.specs.declared.expr.BinaryOperator.TheVariants as binary
use Rattle.c_ast.specs.Trees.{Text}
use Rattle.c_ast.specs.Cells.{Cell}
use Rattle.c_ast.specs.Grammar.{level, binary_mark}
use Rattle.c_parse_expr.specs.Reading.{is_mark, same_mark, is_keyword, same_keyword, sees, sees_keyword, is_some, picked, pick_mark, pick_keyword, expect, expect_keyword, pick_name, name, operator_of, of_level, pick_access, more_steps, more_links}
use Rattle.c_parse_expr.proofs.Exact.{Kind, Exact, Opens, Heads, opens_heads, one_kind, one_exact}

-- ---- one token

pub mark_is : (m : Mark) (t : Token) → is_mark m t ≡ true → t ≡ token.Mark m
unfolding same_mark
mark_is m (token.Mark n) e = ap token.Mark (same_true mark_enum.the_type tt n m e)
mark_is m (token.Identifier x) e = cc
mark_is m (token.Keyword x) e = cc
mark_is m (token.Reserved x) e = cc
mark_is m (token.Number x) e = cc
mark_is m (token.Character x) e = cc
mark_is m (token.Text x) e = cc

pub mark_self : (m : Mark) → is_mark m (token.Mark m) ≡ true
unfolding same_mark
mark_self m = true_same mark_enum.the_type m m refl

pub keyword_is : (k : Keyword) (t : Token) → is_keyword k t ≡ true → t ≡ token.Keyword k
unfolding same_keyword
keyword_is k (token.Keyword n) e = ap token.Keyword (same_true keyword_enum.the_type tt n k e)
keyword_is k (token.Identifier x) e = cc
keyword_is k (token.Mark x) e = cc
keyword_is k (token.Reserved x) e = cc
keyword_is k (token.Number x) e = cc
keyword_is k (token.Character x) e = cc
keyword_is k (token.Text x) e = cc

pub keyword_self : (k : Keyword) → is_keyword k (token.Keyword k) ≡ true
unfolding same_keyword
keyword_self k = true_same keyword_enum.the_type k k refl

-- this token
abbrev pub token_kind : Token → Kind (Unit {0})
token_kind t = one_kind (λ a. Unit {0}) (λ a. t)

abbrev pub mark_kind : Mark → Kind (Unit {0})
mark_kind m = token_kind (token.Mark m)

abbrev pub keyword_kind : Keyword → Kind (Unit {0})
keyword_kind k = token_kind (token.Keyword k)

pub token_opens : (x : Token) (u : Unit {0}) (ts : List Token) → Opens ((token_kind x).cells u) ts → Heads x ts
token_opens x u ts o = opens_heads (x, false) [] ts o

picked_true : {a : Unit {0}} (b : Bool) → picked b ≡ Some a → b ≡ true
picked_true true e = refl
picked_true false e = cc

pub expect_exact : (m : Mark) (ts : List Token) → Exact (mark_kind m) ts (expect m ts)
unfolding expect
expect_exact m ts = one_exact (λ a. Unit {0}) (λ a. token.Mark m) (pick_mark m) (λ a w. ap picked (mark_self m)) (λ t a e. (tt, mark_is m t (picked_true (is_mark m t) e))) ts

pub expect_keyword_exact : (k : Keyword) (ts : List Token) → Exact (keyword_kind k) ts (expect_keyword k ts)
unfolding expect_keyword
expect_keyword_exact k ts = one_exact (λ a. Unit {0}) (λ a. token.Keyword k) (pick_keyword k) (λ a w. ap picked (keyword_self k)) (λ t a e. (tt, keyword_is k t (picked_true (is_keyword k t) e))) ts

abbrev pub name_kind : Kind Text
name_kind = one_kind (λ a. Unit {0}) token.Identifier

pub name_exact : (ts : List Token) → Exact name_kind ts (name ts)
unfolding name
name_exact ts = one_exact (λ a. Unit {0}) token.Identifier pick_name (λ a w. refl) from ts
  where
    from : (t : Token) (a : Text) → pick_name t ≡ Some a → Unit {0} × (t ≡ token.Identifier a)
    from (token.Identifier x) a e = (tt, cc)
    from (token.Keyword x) a e = cc
    from (token.Mark m) a e = cc
    from (token.Reserved x) a e = cc
    from (token.Number x) a e = cc
    from (token.Character x) a e = cc
    from (token.Text x) a e = cc

-- ---- what the first token says

pub at_head : {A : Type 0} (f : List Token → A) (x : Token) (ts : List Token) → Heads x ts → (v : A) → ((rest : List Token) → f (x ∷ rest) ≡ v) → f ts ≡ v
at_head f x [] h v k = absurd h
at_head f x (t ∷ ts) h v k = ap (λ y. f (y ∷ ts)) (sym h) ∙ k ts

pub opened : {A : Type 0} (f : List Token → A) (c : Cell) (cs : List Cell) (ts : List Token) → Opens (c ∷ cs) ts → (v : A) → ((rest : List Token) → f (c.0 ∷ rest) ≡ v) → f ts ≡ v
opened f c cs ts o v k = at_head f c.0 ts (opens_heads c cs ts o) v k

pub sees_heads : (m : Mark) (ts : List Token) → sees m ts ≡ true → Heads (token.Mark m) ts
sees_heads m [] e = cc
sees_heads m (t ∷ ts) e = sym (mark_is m t e)

pub sees_keyword_heads : (k : Keyword) (ts : List Token) → sees_keyword k ts ≡ true → Heads (token.Keyword k) ts
sees_keyword_heads k [] e = cc
sees_keyword_heads k (t ∷ ts) e = sym (keyword_is k t e)

pub is_some_is : {A : Type 0} (o : Option A) → is_some o ≡ true → (a : A) × (o ≡ Some a)
is_some_is None e = cc
is_some_is (Some a) e = (a, refl)

-- ---- how tight the next token binds to what stands before it

abbrev pub loose : Token → ℕ
loose (token.Mark m.LeftBracket) = 0
loose (token.Mark m.Dot) = 0
loose (token.Mark m.Arrow) = 0
loose (token.Mark m.Question) = 12
loose _ = 13

abbrev pub grip_by : Option BinaryOperator → ℕ → ℕ
grip_by None n = n
grip_by (Some op) n = level op

abbrev pub grip_of : Token → ℕ
grip_of t = grip_by (operator_of t) (loose t)

abbrev pub grip : List Token → ℕ
grip [] = 13
grip (t ∷ ts) = grip_of t

pub heads_grip : (x : Token) (ts : List Token) → Heads x ts → grip ts ≡ grip_of x
heads_grip x [] h = absurd h
heads_grip x (t ∷ ts) h = ap grip_of (sym h)

steps_mark : (x : Mark) → (same_mark x m.LeftBracket || is_some (pick_access (token.Mark x))) ≡ nat_eq (grip_of (token.Mark x)) 0
unfolding same_mark
steps_mark m.LeftBrace = refl
steps_mark _ = refl

pub more_steps_grip : (ts : List Token) → more_steps ts ≡ nat_eq (grip ts) 0
more_steps_grip [] = refl
more_steps_grip (token.Mark m ∷ ts) = steps_mark m
more_steps_grip (token.Identifier x ∷ ts) = refl
more_steps_grip (token.Keyword x ∷ ts) = refl
more_steps_grip (token.Reserved x ∷ ts) = refl
more_steps_grip (token.Number x ∷ ts) = refl
more_steps_grip (token.Character x ∷ ts) = refl
more_steps_grip (token.Text x ∷ ts) = refl

question_mark : (x : Mark) → same_mark x m.Question ≡ nat_eq (grip_of (token.Mark x)) 12
unfolding same_mark
question_mark m.LeftBrace = refl
question_mark _ = refl

pub question_grip : (ts : List Token) → sees m.Question ts ≡ nat_eq (grip ts) 12
question_grip [] = refl
question_grip (token.Mark m ∷ ts) = question_mark m
question_grip (token.Identifier x ∷ ts) = refl
question_grip (token.Keyword x ∷ ts) = refl
question_grip (token.Reserved x ∷ ts) = refl
question_grip (token.Number x ∷ ts) = refl
question_grip (token.Character x ∷ ts) = refl
question_grip (token.Text x ∷ ts) = refl

loose_mark : (m : Mark) → (loose (token.Mark m) ≡ 0) ⊎ ((loose (token.Mark m) ≡ 12) ⊎ (loose (token.Mark m) ≡ 13))
loose_mark m.LeftBracket = inl refl
loose_mark m.Dot = inl refl
loose_mark m.Arrow = inl refl
loose_mark m.Question = inr (inl refl)
loose_mark _ = inr (inr refl)

pub loose_is : (t : Token) → (loose t ≡ 0) ⊎ ((loose t ≡ 12) ⊎ (loose t ≡ 13))
loose_is (token.Mark m) = loose_mark m
loose_is (token.Identifier x) = inr (inr refl)
loose_is (token.Keyword x) = inr (inr refl)
loose_is (token.Reserved x) = inr (inr refl)
loose_is (token.Number x) = inr (inr refl)
loose_is (token.Character x) = inr (inr refl)
loose_is (token.Text x) = inr (inr refl)

apart : (a n : ℕ) → 2 ≤ n → n < 12 → (a ≡ 0) ⊎ ((a ≡ 12) ⊎ (a ≡ 13)) → nat_eq a n ≡ false
apart a n l h (inl e) = grind (arith, nat_tests)
apart a n l h (inr (inl e)) = grind (arith, nat_tests)
apart a n l h (inr (inr e)) = grind (arith, nat_tests)

pub links_grip : (n : ℕ) → 2 ≤ n → n < 12 → (ts : List Token) → more_links n ts ≡ nat_eq (grip ts) n
links_grip n l h [] = sym (apart 13 n l h (inr (inr refl)))
links_grip n l h (t ∷ ts) = go (operator_of t)
  where
    some : (op : BinaryOperator) (b : Bool) → is_some (cond b (Some op) None) ≡ b
    some op true = refl
    some op false = refl

    go : (o : Option BinaryOperator) → is_some (of_level n o) ≡ nat_eq (grip_by o (loose t)) n
    go None = sym (apart (loose t) n l h (loose_is t))
    go (Some op) = some op (nat_eq (level op) n)

pub before_mark : (n : ℕ) (m : Mark) → n < grip_of (token.Mark m) → (ts : List Token) → Heads (token.Mark m) ts → n < grip ts
before_mark n m h ts s = rw (heads_grip (token.Mark m) ts s) h

-- ---- operators

pub operator_of_mark : (op : BinaryOperator) → operator_of (token.Mark (binary_mark op)) ≡ Some op
operator_of_mark binary.Multiply = refl
operator_of_mark _ = refl

pub operator_grip : (op : BinaryOperator) → grip_of (token.Mark (binary_mark op)) ≡ level op
operator_grip binary.Multiply = refl
operator_grip _ = refl

pub level_small : (op : BinaryOperator) → level op < 12
level_small binary.Multiply = omega arith
level_small _ = omega arith

from_mark : (m : Mark) (op : BinaryOperator) → operator_of (token.Mark m) ≡ Some op → token.Mark m ≡ token.Mark (binary_mark op)
from_mark m.Star op e = let is : binary.Multiply ≡ op = cc in ap (λ op. token.Mark (binary_mark op)) is
from_mark m.Slash op e = let is : binary.Divide ≡ op = cc in ap (λ op. token.Mark (binary_mark op)) is
from_mark m.Percent op e = let is : binary.Remainder ≡ op = cc in ap (λ op. token.Mark (binary_mark op)) is
from_mark m.Plus op e = let is : binary.Add ≡ op = cc in ap (λ op. token.Mark (binary_mark op)) is
from_mark m.Minus op e = let is : binary.Subtract ≡ op = cc in ap (λ op. token.Mark (binary_mark op)) is
from_mark m.ShiftLeft op e = let is : binary.ShiftLeft ≡ op = cc in ap (λ op. token.Mark (binary_mark op)) is
from_mark m.ShiftRight op e = let is : binary.ShiftRight ≡ op = cc in ap (λ op. token.Mark (binary_mark op)) is
from_mark m.Less op e = let is : binary.Less ≡ op = cc in ap (λ op. token.Mark (binary_mark op)) is
from_mark m.LessEqual op e = let is : binary.LessEqual ≡ op = cc in ap (λ op. token.Mark (binary_mark op)) is
from_mark m.Greater op e = let is : binary.Greater ≡ op = cc in ap (λ op. token.Mark (binary_mark op)) is
from_mark m.GreaterEqual op e = let is : binary.GreaterEqual ≡ op = cc in ap (λ op. token.Mark (binary_mark op)) is
from_mark m.EqualEqual op e = let is : binary.Equal ≡ op = cc in ap (λ op. token.Mark (binary_mark op)) is
from_mark m.NotEqual op e = let is : binary.NotEqual ≡ op = cc in ap (λ op. token.Mark (binary_mark op)) is
from_mark m.Ampersand op e = let is : binary.BitAnd ≡ op = cc in ap (λ op. token.Mark (binary_mark op)) is
from_mark m.Caret op e = let is : binary.BitXor ≡ op = cc in ap (λ op. token.Mark (binary_mark op)) is
from_mark m.Pipe op e = let is : binary.BitOr ≡ op = cc in ap (λ op. token.Mark (binary_mark op)) is
from_mark m.LogicalAnd op e = let is : binary.And ≡ op = cc in ap (λ op. token.Mark (binary_mark op)) is
from_mark m.LogicalOr op e = let is : binary.Or ≡ op = cc in ap (λ op. token.Mark (binary_mark op)) is
from_mark _ op e = cc

pub operator_from : (t : Token) (op : BinaryOperator) → operator_of t ≡ Some op → t ≡ token.Mark (binary_mark op)
operator_from (token.Mark m) op e = from_mark m op e
operator_from (token.Identifier x) op e = cc
operator_from (token.Keyword x) op e = cc
operator_from (token.Reserved x) op e = cc
operator_from (token.Number x) op e = cc
operator_from (token.Character x) op e = cc
operator_from (token.Text x) op e = cc

pub eq_test : (a b : ℕ) → a ≡ b → nat_eq a b ≡ true
eq_test a b e = grind (arith, nat_tests)

pub of_level_some : (n : ℕ) (o : Option BinaryOperator) (op : BinaryOperator) → of_level n o ≡ Some op → (o ≡ Some op) × (level op ≡ n)
of_level_some n None op e = cc
of_level_some n (Some q) op e = go (nat_eq (level q) n) refl e
  where
    go : (b : Bool) → nat_eq (level q) n ≡ b → cond b (Some q) None ≡ Some op → (Some q ≡ Some op) × (level op ≡ n)
    go true h e = let is : q ≡ op = cc in let same : level q ≡ n = grind (arith, nat_tests) in (e, sym (ap level is) ∙ same)
    go false h e = cc
