-- The rules of statements at each constructor as code sees it.
use Rattle.std.proofs.Common.{◌≡◌, ◌∙◌, refl, ap, ℕ, ◌-◌, Bool, true, false, ◌&&◌, nat_lt, List, [], ◌∷◌, ◌++◌, Option}
use Rattle.std.specs.List.{list_all}
use Rattle.src_tree.specs.declared.expr.TypedExpr.{TypedExpr}
use Rattle.src_tree.specs.declared.stmt.TypedStmt.{TypedStmt, Block, If, While, For}
use Rattle.src_tree.specs.declared.stmt.TypedStmt.TheBlock as S
use Rattle.src_meaning.specs.ValidExpression.{Declarations}
use Rattle.src_meaning.specs.ValidStatement.{is_statement, are_row, are_statements, is_test, is_loop_condition, is_optional, is_optional_simple, are_optional, are_optional_simple}
use Rattle.src_meaning.specs.ValidNumbering.{Mark, marks, row_marks, body_marks}

and-true : (b : Bool) → (b && true) ≡ b
and-true true = refl
and-true false = refl

both : {a b c d : Bool} → a ≡ b → c ≡ d → (a && c) ≡ (b && d)
both {b = b} {c = c} e f = ap (λ x. x && c) e ∙ ap (λ x. b && x) f

joined : {a b c d : List Mark} → a ≡ b → c ≡ d → (a ++ c) ≡ (b ++ d)
joined {b = b} {c = c} e f = ap (λ x. x ++ c) e ∙ ap (λ x. b ++ x) f

append-nothing : (ms : List Mark) → ms ++ [] ≡ ms
append-nothing [] = refl
append-nothing (m ∷ ms) = ap (λ l. m ∷ l) (append-nothing ms)

row-optional : (xs : List TypedStmt) → is_optional (S.hidden-the_row-TypedStmt-0 xs) ≡ are_optional xs
unfolding S.shape-the_row-TypedStmt-0 S.hidden-the_row-TypedStmt-0 S.shape-the_row-TypedStmt-1 S.hidden-the_row-TypedStmt-1 denote.Hole.Carrier.hidden
row-optional [] = refl
row-optional (x ∷ []) = refl
row-optional (x ∷ y ∷ xs) = refl

row-optional_simple : (xs : List TypedStmt) → is_optional_simple (S.hidden-the_row-TypedStmt-0 xs) ≡ are_optional_simple xs
unfolding S.shape-the_row-TypedStmt-0 S.hidden-the_row-TypedStmt-0 S.shape-the_row-TypedStmt-1 S.hidden-the_row-TypedStmt-1 denote.Hole.Carrier.hidden
row-optional_simple [] = refl
row-optional_simple (x ∷ []) = refl
row-optional_simple (x ∷ y ∷ xs) = refl

module _ (at : Declarations) (ret : Option ℕ) where
  row-list : (in_loop : Bool) (room : ℕ) (xs : List TypedStmt) → are_row at ret in_loop room (S.hidden-the_row-TypedStmt-0 xs) ≡ are_statements at ret in_loop room xs
  unfolding S.shape-the_row-TypedStmt-0 S.hidden-the_row-TypedStmt-0 S.shape-the_row-TypedStmt-1 S.hidden-the_row-TypedStmt-1 denote.Hole.Carrier.hidden
  row-list in_loop room [] = refl
  row-list in_loop room (x ∷ xs) = ap (λ b. is_statement at ret in_loop room x && b) (row-list in_loop room xs)

  row-one : (in_loop : Bool) (room : ℕ) (x : TypedStmt) → are_row at ret in_loop room (S.hidden-the_row-TypedStmt-1 x) ≡ is_statement at ret in_loop room x
  unfolding S.shape-the_row-TypedStmt-0 S.hidden-the_row-TypedStmt-0 S.shape-the_row-TypedStmt-1 S.hidden-the_row-TypedStmt-1 denote.Hole.Carrier.hidden
  row-one in_loop room x = and-true (is_statement at ret in_loop room x)

  pub statement-Block : (in_loop : Bool) (room : ℕ) (xs : List TypedStmt) → is_statement at ret in_loop room (Block xs) ≡ nat_lt 1 room && are_statements at ret in_loop (room - 2) xs
  unfolding S.shape-the_row-TypedStmt-0 S.hidden-the_row-TypedStmt-0 S.shape-the_row-TypedStmt-1 S.hidden-the_row-TypedStmt-1 denote.Hole.Carrier.hidden
  statement-Block in_loop room xs = ap (λ b. nat_lt 1 room && b) (row-list in_loop (room - 2) xs)

  pub statement-If : (in_loop : Bool) (room : ℕ) (e : TypedExpr) (x : TypedStmt) (xs : List TypedStmt) → is_statement at ret in_loop room (If e x xs) ≡ is_test at room e && (is_statement at ret in_loop (room - 1) x && (are_optional xs && are_statements at ret in_loop (room - 1) xs))
  unfolding S.shape-the_row-TypedStmt-0 S.hidden-the_row-TypedStmt-0 S.shape-the_row-TypedStmt-1 S.hidden-the_row-TypedStmt-1 denote.Hole.Carrier.hidden
  statement-If in_loop room e x xs = both refl (both (row-one in_loop (room - 1) x) (both (row-optional xs) (row-list in_loop (room - 1) xs)))

  pub statement-While : (in_loop : Bool) (room : ℕ) (e : TypedExpr) (x : TypedStmt) → is_statement at ret in_loop room (While e x) ≡ is_test at room e && is_statement at ret true (room - 1) x
  unfolding S.shape-the_row-TypedStmt-0 S.hidden-the_row-TypedStmt-0 S.shape-the_row-TypedStmt-1 S.hidden-the_row-TypedStmt-1 denote.Hole.Carrier.hidden
  statement-While in_loop room e x = both refl (row-one true (room - 1) x)

  pub statement-For : (in_loop : Bool) (room : ℕ) (first : List TypedStmt) (e : Option TypedExpr) (step : List TypedStmt) (x : TypedStmt) → is_statement at ret in_loop room (For first e step x) ≡ are_optional_simple first && (are_statements at ret in_loop room first && (is_loop_condition at room e && (are_optional_simple step && (are_statements at ret in_loop room step && is_statement at ret true (room - 1) x))))
  unfolding S.shape-the_row-TypedStmt-0 S.hidden-the_row-TypedStmt-0 S.shape-the_row-TypedStmt-1 S.hidden-the_row-TypedStmt-1 denote.Hole.Carrier.hidden
  statement-For in_loop room first e step x = both (row-optional_simple first) (both (row-list in_loop room first) (both refl (both (row-optional_simple step) (both (row-list in_loop room step) (row-one true (room - 1) x)))))

row-marks : (xs : List TypedStmt) → row_marks (S.hidden-the_row-TypedStmt-0 xs) ≡ body_marks xs
unfolding S.shape-the_row-TypedStmt-0 S.hidden-the_row-TypedStmt-0 S.shape-the_row-TypedStmt-1 S.hidden-the_row-TypedStmt-1 denote.Hole.Carrier.hidden
row-marks [] = refl
row-marks (x ∷ xs) = ap (λ l. marks x ++ l) (row-marks xs)

row-mark : (x : TypedStmt) → row_marks (S.hidden-the_row-TypedStmt-1 x) ≡ marks x
unfolding S.shape-the_row-TypedStmt-0 S.hidden-the_row-TypedStmt-0 S.shape-the_row-TypedStmt-1 S.hidden-the_row-TypedStmt-1 denote.Hole.Carrier.hidden
row-mark x = append-nothing (marks x)

pub marks-Block : (xs : List TypedStmt) → marks (Block xs) ≡ body_marks xs
unfolding S.shape-the_row-TypedStmt-0 S.hidden-the_row-TypedStmt-0 S.shape-the_row-TypedStmt-1 S.hidden-the_row-TypedStmt-1 denote.Hole.Carrier.hidden
marks-Block xs = row-marks xs

pub marks-If : (e : TypedExpr) (x : TypedStmt) (xs : List TypedStmt) → marks (If e x xs) ≡ marks x ++ body_marks xs
unfolding S.shape-the_row-TypedStmt-0 S.hidden-the_row-TypedStmt-0 S.shape-the_row-TypedStmt-1 S.hidden-the_row-TypedStmt-1 denote.Hole.Carrier.hidden
marks-If e x xs = joined (row-mark x) (row-marks xs)

pub marks-While : (e : TypedExpr) (x : TypedStmt) → marks (While e x) ≡ marks x
unfolding S.shape-the_row-TypedStmt-0 S.hidden-the_row-TypedStmt-0 S.shape-the_row-TypedStmt-1 S.hidden-the_row-TypedStmt-1 denote.Hole.Carrier.hidden
marks-While e x = row-mark x

pub marks-For : (first : List TypedStmt) (e : Option TypedExpr) (step : List TypedStmt) (x : TypedStmt) → marks (For first e step x) ≡ body_marks first ++ (body_marks step ++ marks x)
unfolding S.shape-the_row-TypedStmt-0 S.hidden-the_row-TypedStmt-0 S.shape-the_row-TypedStmt-1 S.hidden-the_row-TypedStmt-1 denote.Hole.Carrier.hidden
marks-For first e step x = joined (row-marks first) (joined (row-marks step) (row-mark x))
