-- Sizes and code of statements at each constructor as code sees it.
use Rattle.std.proofs.Common.{◌≡◌, ◌∙◌, refl, ap, ℕ, ◌+◌, List, [], ◌∷◌, ◌++◌, append-nil, Option, arith}
use Rattle.src_tree.specs.declared.expr.TypedExpr.{TypedExpr}
use Rattle.src_tree.specs.declared.stmt.TypedStmt.{TypedStmt, Block, If, While, For}
use Rattle.src_tree.specs.declared.stmt.TypedStmt.TheBlock as S
use Rattle.cg_expr.specs.Sizes.{expression_size, choice_size}
use Rattle.cg_expr.specs.Code.{Target, choice, expression_code}
use Rattle.cg_stmt.specs.declared.statements.Exits.{Exits}
use Rattle.cg_stmt.specs.StatementSizes.{loop_size, condition_size, statement_size, row_size, body_size}
use Rattle.cg_stmt.specs.StatementCode.{loop_exits, loop_code, condition_code, statement_code, row_code, body_code}

size-row : (at : Target) (xs : List TypedStmt) → row_size at (S.hidden-the_row-TypedStmt-0 xs) ≡ body_size at xs
unfolding S.shape-the_row-TypedStmt-0 S.hidden-the_row-TypedStmt-0 S.shape-the_row-TypedStmt-1 S.hidden-the_row-TypedStmt-1 denote.Hole.Carrier.hidden
size-row at [] = refl
size-row at (x ∷ xs) = ap (λ n. statement_size at x + n) (size-row at xs)

size-one : (at : Target) (x : TypedStmt) → row_size at (S.hidden-the_row-TypedStmt-1 x) ≡ statement_size at x
unfolding S.shape-the_row-TypedStmt-0 S.hidden-the_row-TypedStmt-0 S.shape-the_row-TypedStmt-1 S.hidden-the_row-TypedStmt-1 denote.Hole.Carrier.hidden
size-one at x = omega arith

pub size-Block : (at : Target) (xs : List TypedStmt) → statement_size at (Block xs) ≡ body_size at xs
unfolding S.shape-the_row-TypedStmt-0 S.hidden-the_row-TypedStmt-0 S.shape-the_row-TypedStmt-1 S.hidden-the_row-TypedStmt-1 denote.Hole.Carrier.hidden
size-Block at xs = size-row at xs

pub size-If : (at : Target) (e : TypedExpr) (x : TypedStmt) (xs : List TypedStmt) → statement_size at (If e x xs) ≡ choice_size (expression_size at.types e.ty e.kind) (statement_size at x) (body_size at xs)
unfolding S.shape-the_row-TypedStmt-0 S.hidden-the_row-TypedStmt-0 S.shape-the_row-TypedStmt-1 S.hidden-the_row-TypedStmt-1 denote.Hole.Carrier.hidden
size-If at e x xs = let a = size-one at x in let b = size-row at xs in cc

pub size-While : (at : Target) (e : TypedExpr) (x : TypedStmt) → statement_size at (While e x) ≡ loop_size (expression_size at.types e.ty e.kind) (statement_size at x) 0
unfolding S.shape-the_row-TypedStmt-0 S.hidden-the_row-TypedStmt-0 S.shape-the_row-TypedStmt-1 S.hidden-the_row-TypedStmt-1 denote.Hole.Carrier.hidden
size-While at e x = let a = size-one at x in cc

pub size-For : (at : Target) (first : List TypedStmt) (e : Option TypedExpr) (step : List TypedStmt) (x : TypedStmt) → statement_size at (For first e step x) ≡ body_size at first + loop_size (condition_size at.types e) (statement_size at x) (body_size at step)
unfolding S.shape-the_row-TypedStmt-0 S.hidden-the_row-TypedStmt-0 S.shape-the_row-TypedStmt-1 S.hidden-the_row-TypedStmt-1 denote.Hole.Carrier.hidden
size-For at first e step x = let a = size-row at first in let b = size-row at step in let c = size-one at x in cc

pub size_is-Block : (at : Target) (s : TypedStmt) (xs got : List TypedStmt) → s ≡ Block xs → got ≡ xs → body_size at got ≡ statement_size at s
size_is-Block at s xs got is same = let base = size-Block at xs in cc

pub size_is-If : (at : Target) (s : TypedStmt) (e : TypedExpr) (x got_x : TypedStmt) (xs got : List TypedStmt) (n m k : ℕ) → s ≡ If e x xs → got_x ≡ x → got ≡ xs → n ≡ expression_size at.types e.ty e.kind → m ≡ statement_size at got_x → k ≡ body_size at got → choice_size n m k ≡ statement_size at s
size_is-If at s e x got_x xs got n m k is same_x same h0 h1 h2 = let base = size-If at e x xs in cc

pub size_is-While : (at : Target) (s : TypedStmt) (e : TypedExpr) (x got : TypedStmt) (n m : ℕ) → s ≡ While e x → got ≡ x → n ≡ expression_size at.types e.ty e.kind → m ≡ statement_size at got → loop_size n m 0 ≡ statement_size at s
size_is-While at s e x got n m is same h0 h1 = let base = size-While at e x in cc

pub size_is-For : (at : Target) (s : TypedStmt) (first got_first : List TypedStmt) (e : Option TypedExpr) (step got_step : List TypedStmt) (x got : TypedStmt) (l n k m w : ℕ) → s ≡ For first e step x → got_first ≡ first → got_step ≡ step → got ≡ x → l ≡ body_size at got_first → n ≡ condition_size at.types e → k ≡ body_size at got_step → m ≡ statement_size at got → w ≡ loop_size n m k → l + w ≡ statement_size at s
size_is-For at s first got_first e step got_step x got l n k m w is same1 same2 same3 h0 h1 h2 h3 h4 = let base = size-For at first e step x in cc

code-row : (at : Target) (xs : List TypedStmt) (to : Exits) (pc : ℕ) → row_code at (S.hidden-the_row-TypedStmt-0 xs) to pc ≡ body_code at xs to pc
unfolding S.shape-the_row-TypedStmt-0 S.hidden-the_row-TypedStmt-0 S.shape-the_row-TypedStmt-1 S.hidden-the_row-TypedStmt-1 denote.Hole.Carrier.hidden
code-row at [] to pc = refl
code-row at (x ∷ xs) to pc = ap (λ c. statement_code at x to pc ++ c) (code-row at xs to (pc + statement_size at x))

code-one : (at : Target) (x : TypedStmt) (to : Exits) (pc : ℕ) → row_code at (S.hidden-the_row-TypedStmt-1 x) to pc ≡ statement_code at x to pc
unfolding S.shape-the_row-TypedStmt-0 S.hidden-the_row-TypedStmt-0 S.shape-the_row-TypedStmt-1 S.hidden-the_row-TypedStmt-1 denote.Hole.Carrier.hidden
code-one at x to pc = append-nil (statement_code at x to pc)

pub code-Block : (at : Target) (xs : List TypedStmt) (to : Exits) (pc : ℕ) → statement_code at (Block xs) to pc ≡ body_code at xs to pc
unfolding S.shape-the_row-TypedStmt-0 S.hidden-the_row-TypedStmt-0 S.shape-the_row-TypedStmt-1 S.hidden-the_row-TypedStmt-1 denote.Hole.Carrier.hidden
code-Block at xs to pc = code-row at xs to pc

pub code-If : (at : Target) (e : TypedExpr) (x : TypedStmt) (xs : List TypedStmt) (to : Exits) (pc : ℕ) → statement_code at (If e x xs) to pc ≡ choice pc (expression_size at.types e.ty e.kind) (statement_size at x) (body_size at xs) (expression_code at e.ty e.kind pc) (statement_code at x to (pc + expression_size at.types e.ty e.kind + 1)) (body_code at xs to (pc + expression_size at.types e.ty e.kind + 1 + statement_size at x + 1))
unfolding S.shape-the_row-TypedStmt-0 S.hidden-the_row-TypedStmt-0 S.shape-the_row-TypedStmt-1 S.hidden-the_row-TypedStmt-1 denote.Hole.Carrier.hidden
code-If at e x xs to pc =
    let s = expression_size at.types e.ty e.kind in
    let one = S.hidden-the_row-TypedStmt-1 x in
    let row = S.hidden-the_row-TypedStmt-0 xs in
    let test = expression_code at e.ty e.kind pc in
    ap (λ n. choice pc s n (row_size at row) test (row_code at one to (pc + s + 1)) (row_code at row to (pc + s + 1 + n + 1))) (size-one at x)
    ∙ ap (λ m. choice pc s (statement_size at x) m test (row_code at one to (pc + s + 1)) (row_code at row to (pc + s + 1 + statement_size at x + 1))) (size-row at xs)
    ∙ ap (λ l. choice pc s (statement_size at x) (body_size at xs) test l (row_code at row to (pc + s + 1 + statement_size at x + 1))) (code-one at x to (pc + s + 1))
    ∙ ap (λ l. choice pc s (statement_size at x) (body_size at xs) test (statement_code at x to (pc + s + 1)) l) (code-row at xs to (pc + s + 1 + statement_size at x + 1))

pub code-While : (at : Target) (e : TypedExpr) (x : TypedStmt) (to : Exits) (pc : ℕ) → statement_code at (While e x) to pc ≡ loop_code pc (loop_exits pc (expression_size at.types e.ty e.kind) (statement_size at x) 0).leave (expression_code at e.ty e.kind pc) (statement_code at x (loop_exits pc (expression_size at.types e.ty e.kind) (statement_size at x) 0) (pc + expression_size at.types e.ty e.kind + 1)) []
unfolding S.shape-the_row-TypedStmt-0 S.hidden-the_row-TypedStmt-0 S.shape-the_row-TypedStmt-1 S.hidden-the_row-TypedStmt-1 denote.Hole.Carrier.hidden
code-While at e x to pc =
    let s = expression_size at.types e.ty e.kind in
    let one = S.hidden-the_row-TypedStmt-1 x in
    let test = expression_code at e.ty e.kind pc in
    ap (λ n. loop_code pc (loop_exits pc s n 0).leave test (row_code at one (loop_exits pc s n 0) (pc + s + 1)) []) (size-one at x)
    ∙ ap (λ l. loop_code pc (loop_exits pc s (statement_size at x) 0).leave test l []) (code-one at x (loop_exits pc s (statement_size at x) 0) (pc + s + 1))

pub code-For : (at : Target) (first : List TypedStmt) (e : Option TypedExpr) (step : List TypedStmt) (x : TypedStmt) (to : Exits) (pc : ℕ) → statement_code at (For first e step x) to pc ≡ body_code at first to pc ++ loop_code (pc + body_size at first) (loop_exits (pc + body_size at first) (condition_size at.types e) (statement_size at x) (body_size at step)).leave (condition_code at e (pc + body_size at first)) (statement_code at x (loop_exits (pc + body_size at first) (condition_size at.types e) (statement_size at x) (body_size at step)) (pc + body_size at first + condition_size at.types e + 1)) (body_code at step to (loop_exits (pc + body_size at first) (condition_size at.types e) (statement_size at x) (body_size at step)).turn)
unfolding S.shape-the_row-TypedStmt-0 S.hidden-the_row-TypedStmt-0 S.shape-the_row-TypedStmt-1 S.hidden-the_row-TypedStmt-1 denote.Hole.Carrier.hidden
code-For at first e step x to pc =
    let s = condition_size at.types e in
    let begin = S.hidden-the_row-TypedStmt-0 first in
    let one = S.hidden-the_row-TypedStmt-1 x in
    let row = S.hidden-the_row-TypedStmt-0 step in
    let n = statement_size at x in
    let m = body_size at step in
    let here = pc + body_size at first in
    let ends = loop_exits here s n m in
    ap (λ y. row_code at begin to pc ++ loop_code (pc + y) (loop_exits (pc + y) s (row_size at one) (row_size at row)).leave (condition_code at e (pc + y)) (row_code at one (loop_exits (pc + y) s (row_size at one) (row_size at row)) (pc + y + s + 1)) (row_code at row to (loop_exits (pc + y) s (row_size at one) (row_size at row)).turn)) (size-row at first)
    ∙ ap (λ y. row_code at begin to pc ++ loop_code here (loop_exits here s y (row_size at row)).leave (condition_code at e here) (row_code at one (loop_exits here s y (row_size at row)) (here + s + 1)) (row_code at row to (loop_exits here s y (row_size at row)).turn)) (size-one at x)
    ∙ ap (λ y. row_code at begin to pc ++ loop_code here (loop_exits here s n y).leave (condition_code at e here) (row_code at one (loop_exits here s n y) (here + s + 1)) (row_code at row to (loop_exits here s n y).turn)) (size-row at step)
    ∙ ap (λ l. l ++ loop_code here ends.leave (condition_code at e here) (row_code at one ends (here + s + 1)) (row_code at row to ends.turn)) (code-row at first to pc)
    ∙ ap (λ l. body_code at first to pc ++ loop_code here ends.leave (condition_code at e here) l (row_code at row to ends.turn)) (code-one at x ends (here + s + 1))
    ∙ ap (λ l. body_code at first to pc ++ loop_code here ends.leave (condition_code at e here) (statement_code at x ends (here + s + 1)) l) (code-row at step to ends.turn)
