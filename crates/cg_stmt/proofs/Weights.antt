-- The weights of trees at each constructor as code sees it, and of lists that grow.
use Rattle.std.proofs.Common.{◌≡◌, ◌∙◌, refl, ap, ℕ, zero, suc, ◌+◌, ◌<◌, List, [], ◌∷◌, take, length, Option, get_or, arith}
use Rattle.src_tree.specs.declared.expr.TypedExpr.{TypedExpr}
use Rattle.src_tree.specs.declared.expr.TypedPlace.{TypedPlace}
use Rattle.src_tree.specs.declared.expr.UnaryOperator.{UnaryOperator}
use Rattle.src_tree.specs.declared.expr.BinaryOperator.{BinaryOperator}
use Rattle.src_tree.specs.declared.expr.LogicalOperator.{LogicalOperator}
use Rattle.src_tree.specs.declared.expr.ExprKind.{Load, AddressOf, Decay, Cast, Convert, Unary, Binary, Logical, Conditional}
use Rattle.src_tree.specs.declared.expr.PlaceKind.{Deref, Arrow, Item, Element, Field, Member}
use Rattle.src_tree.specs.declared.expr.ExprKind.TheBlock as E
use Rattle.src_tree.specs.declared.stmt.TypedStmt.{TypedStmt, Block, If, While, For}
use Rattle.src_tree.specs.declared.stmt.TypedStmt.TheBlock as S
use Rattle.src_meaning.specs.Weight.{expr_weight, place_weight, exprs_weight, condition_weight, statement_weight, row_weight, body_weight}

pub weight-Load : (e : TypedPlace) → expr_weight (Load e) ≡ place_weight e.kind
unfolding E.shape-the_row-TypedExpr-1 E.hidden-the_row-TypedExpr-1 E.shape-the_row-TypedPlace-0 E.hidden-the_row-TypedPlace-0 denote.Hole.Carrier.hidden
weight-Load e = refl

pub weight-AddressOf : (e : TypedPlace) → expr_weight (AddressOf e) ≡ 1 + place_weight e.kind
unfolding E.shape-the_row-TypedExpr-1 E.hidden-the_row-TypedExpr-1 E.shape-the_row-TypedPlace-0 E.hidden-the_row-TypedPlace-0 denote.Hole.Carrier.hidden
weight-AddressOf e = refl

pub weight-Decay : (e : TypedPlace) → expr_weight (Decay e) ≡ place_weight e.kind
unfolding E.shape-the_row-TypedExpr-1 E.hidden-the_row-TypedExpr-1 E.shape-the_row-TypedPlace-0 E.hidden-the_row-TypedPlace-0 denote.Hole.Carrier.hidden
weight-Decay e = refl

pub weight-Cast : (e : TypedExpr) → expr_weight (Cast e) ≡ 1 + expr_weight e.kind
unfolding E.shape-the_row-TypedExpr-1 E.hidden-the_row-TypedExpr-1 E.shape-the_row-TypedPlace-0 E.hidden-the_row-TypedPlace-0 denote.Hole.Carrier.hidden
weight-Cast e = refl

pub weight-Convert : (e : TypedExpr) → expr_weight (Convert e) ≡ expr_weight e.kind
unfolding E.shape-the_row-TypedExpr-1 E.hidden-the_row-TypedExpr-1 E.shape-the_row-TypedPlace-0 E.hidden-the_row-TypedPlace-0 denote.Hole.Carrier.hidden
weight-Convert e = refl

pub weight-Unary : (op : UnaryOperator) (e : TypedExpr) → expr_weight (Unary op e) ≡ 1 + expr_weight e.kind
unfolding E.shape-the_row-TypedExpr-1 E.hidden-the_row-TypedExpr-1 E.shape-the_row-TypedPlace-0 E.hidden-the_row-TypedPlace-0 denote.Hole.Carrier.hidden
weight-Unary op e = refl

pub weight-Binary : (op : BinaryOperator) (a b : TypedExpr) → expr_weight (Binary op a b) ≡ 1 + expr_weight a.kind + expr_weight b.kind
unfolding E.shape-the_row-TypedExpr-1 E.hidden-the_row-TypedExpr-1 E.shape-the_row-TypedPlace-0 E.hidden-the_row-TypedPlace-0 denote.Hole.Carrier.hidden
weight-Binary op a b = refl

pub weight-Logical : (op : LogicalOperator) (a b : TypedExpr) → expr_weight (Logical op a b) ≡ 1 + expr_weight a.kind + expr_weight b.kind
unfolding E.shape-the_row-TypedExpr-1 E.hidden-the_row-TypedExpr-1 E.shape-the_row-TypedPlace-0 E.hidden-the_row-TypedPlace-0 denote.Hole.Carrier.hidden
weight-Logical op a b = refl

pub weight-Conditional : (c a b : TypedExpr) → expr_weight (Conditional c a b) ≡ 1 + expr_weight c.kind + expr_weight a.kind + expr_weight b.kind
unfolding E.shape-the_row-TypedExpr-1 E.hidden-the_row-TypedExpr-1 E.shape-the_row-TypedPlace-0 E.hidden-the_row-TypedPlace-0 denote.Hole.Carrier.hidden
weight-Conditional c a b = refl

pub weight-Deref : (e : TypedExpr) → place_weight (Deref e) ≡ 1 + expr_weight e.kind
unfolding E.shape-the_row-TypedExpr-1 E.hidden-the_row-TypedExpr-1 E.shape-the_row-TypedPlace-0 E.hidden-the_row-TypedPlace-0 denote.Hole.Carrier.hidden
weight-Deref e = refl

pub weight-Arrow : (e : TypedExpr) → place_weight (Arrow e) ≡ expr_weight e.kind
unfolding E.shape-the_row-TypedExpr-1 E.hidden-the_row-TypedExpr-1 E.shape-the_row-TypedPlace-0 E.hidden-the_row-TypedPlace-0 denote.Hole.Carrier.hidden
weight-Arrow e = refl

pub weight-Item : (a b : TypedExpr) → place_weight (Item a b) ≡ 1 + expr_weight a.kind + expr_weight b.kind
unfolding E.shape-the_row-TypedExpr-1 E.hidden-the_row-TypedExpr-1 E.shape-the_row-TypedPlace-0 E.hidden-the_row-TypedPlace-0 denote.Hole.Carrier.hidden
weight-Item a b = refl

pub weight-Element : (a : TypedPlace) (b : TypedExpr) → place_weight (Element a b) ≡ 1 + place_weight a.kind + expr_weight b.kind
unfolding E.shape-the_row-TypedExpr-1 E.hidden-the_row-TypedExpr-1 E.shape-the_row-TypedPlace-0 E.hidden-the_row-TypedPlace-0 denote.Hole.Carrier.hidden
weight-Element a b = refl

pub weight-Field : (e : TypedPlace) (k : ℕ) → place_weight (Field e k) ≡ 1 + place_weight e.kind
unfolding E.shape-the_row-TypedExpr-1 E.hidden-the_row-TypedExpr-1 E.shape-the_row-TypedPlace-0 E.hidden-the_row-TypedPlace-0 denote.Hole.Carrier.hidden
weight-Field e k = refl

pub weight-Member : (e : TypedPlace) (k : ℕ) → place_weight (Member e k) ≡ 1 + place_weight e.kind
unfolding E.shape-the_row-TypedExpr-1 E.hidden-the_row-TypedExpr-1 E.shape-the_row-TypedPlace-0 E.hidden-the_row-TypedPlace-0 denote.Hole.Carrier.hidden
weight-Member e k = refl

pub ruleset expression_facts = (weight-Load, weight-AddressOf, weight-Decay, weight-Cast, weight-Convert, weight-Unary, weight-Binary, weight-Logical, weight-Conditional, weight-Deref, weight-Arrow, weight-Item, weight-Element, weight-Field, weight-Member)

pub row-weight : (xs : List TypedStmt) → row_weight (S.hidden-the_row-TypedStmt-0 xs) ≡ body_weight xs
unfolding S.shape-the_row-TypedStmt-0 S.hidden-the_row-TypedStmt-0 S.shape-the_row-TypedStmt-1 S.hidden-the_row-TypedStmt-1 denote.Hole.Carrier.hidden
row-weight [] = refl
row-weight (x ∷ xs) = ap (λ n. statement_weight x + n) (row-weight xs)

pub row-one : (x : TypedStmt) → row_weight (S.hidden-the_row-TypedStmt-1 x) ≡ statement_weight x
unfolding S.shape-the_row-TypedStmt-0 S.hidden-the_row-TypedStmt-0 S.shape-the_row-TypedStmt-1 S.hidden-the_row-TypedStmt-1 denote.Hole.Carrier.hidden
row-one x = omega arith

pub weight-Block : (xs : List TypedStmt) → statement_weight (Block xs) ≡ 1 + body_weight xs
unfolding S.shape-the_row-TypedStmt-0 S.hidden-the_row-TypedStmt-0 S.shape-the_row-TypedStmt-1 S.hidden-the_row-TypedStmt-1 denote.Hole.Carrier.hidden
weight-Block xs = ap (λ n. 1 + n) (row-weight xs)

pub weight-If : (e : TypedExpr) (x : TypedStmt) (xs : List TypedStmt) → statement_weight (If e x xs) ≡ 1 + expr_weight e.kind + statement_weight x + body_weight xs
unfolding S.shape-the_row-TypedStmt-0 S.hidden-the_row-TypedStmt-0 S.shape-the_row-TypedStmt-1 S.hidden-the_row-TypedStmt-1 denote.Hole.Carrier.hidden
weight-If e x xs = let a = row-one x in let b = row-weight xs in cc

pub weight-While : (e : TypedExpr) (x : TypedStmt) → statement_weight (While e x) ≡ 1 + expr_weight e.kind + statement_weight x
unfolding S.shape-the_row-TypedStmt-0 S.hidden-the_row-TypedStmt-0 S.shape-the_row-TypedStmt-1 S.hidden-the_row-TypedStmt-1 denote.Hole.Carrier.hidden
weight-While e x = let a = row-one x in cc

pub weight-For : (first : List TypedStmt) (e : Option TypedExpr) (step : List TypedStmt) (x : TypedStmt) → statement_weight (For first e step x) ≡ 1 + body_weight first + condition_weight e + body_weight step + statement_weight x
unfolding S.shape-the_row-TypedStmt-0 S.hidden-the_row-TypedStmt-0 S.shape-the_row-TypedStmt-1 S.hidden-the_row-TypedStmt-1 denote.Hole.Carrier.hidden
weight-For first e step x = let a = row-weight first in let b = row-weight step in let c = row-one x in cc

-- one element more
pub more_weight : {A : Type 0} (w : A → ℕ) (ws : List A → ℕ) → ws [] ≡ 0 → ((x : A) (xs : List A) → ws (x ∷ xs) ≡ w x + ws xs) → (xs : List A) (i : ℕ) (d : A) → i < length xs → ws (take (i + 1) xs) ≡ ws (take i xs) + w (get_or xs i d)
more_weight w ws none one [] i d h = absurd (omega arith)
more_weight w ws none one (x ∷ xs) zero d h = omega (arith, one x [], none)
more_weight w ws none one (x ∷ xs) (suc i) d h =
    let n : suc i + 1 ≡ suc (i + 1) = omega arith in
    let e = more_weight w ws none one xs i d (omega (arith, h)) in
    ap (λ k. ws (take k (x ∷ xs))) n ∙ omega (arith, one x (take (i + 1) xs), one x (take i xs), e)

pub exprs-more : (xs : List TypedExpr) (i : ℕ) (d : TypedExpr) → i < length xs → exprs_weight (take (i + 1) xs) ≡ exprs_weight (take i xs) + expr_weight (get_or xs i d).kind
exprs-more = more_weight (λ (e : TypedExpr). expr_weight e.kind) exprs_weight refl (λ x xs. refl)

pub body-more : (xs : List TypedStmt) (i : ℕ) (d : TypedStmt) → i < length xs → body_weight (take (i + 1) xs) ≡ body_weight (take i xs) + statement_weight (get_or xs i d)
body-more = more_weight statement_weight body_weight refl (λ x xs. refl)

pub ruleset list_facts = exprs-more

pub ruleset statement_facts = (weight-Block, weight-If, weight-While, weight-For, body-more)
