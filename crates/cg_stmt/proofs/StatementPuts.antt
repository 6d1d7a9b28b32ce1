-- The code of statements as the emitter puts it.
use Rattle.std.proofs.Common.{◌≡◌, ◌∙◌, refl, sym, ap, ℕ, ◌+◌, true, List, [], ◌∷◌, ◌++◌, length, append-nil, Option, arith}
use Rattle.bm_isa.specs.declared.instr.Instr.{Instr}
use Rattle.bm_isa.specs.declared.instr.Instr.TheVariants as I
use Rattle.src_tree.specs.declared.expr.TypedExpr.{TypedExpr}
use Rattle.src_tree.specs.declared.expr.TypedPlace.{TypedPlace}
use Rattle.src_tree.specs.declared.stmt.Rhs.{Rhs}
use Rattle.src_tree.specs.declared.stmt.TypedStmt.{TypedStmt, Block, If, While, For}
use Rattle.cg_expr.specs.Sizes.{expression_size}
use Rattle.cg_expr.specs.Code.{Target, choice, expression_code, place_code}
use Rattle.cg_expr.proofs.Puts.{puts, puts_two, puts_three, ends_at, puts_choice}
use Rattle.cg_expr.proofs.Lengths.{length-expression}
use Rattle.cg_stmt.specs.declared.statements.Exits.{Exits}
use Rattle.cg_stmt.specs.StatementSizes.{right_side_size, condition_size, statement_size, body_size}
use Rattle.cg_stmt.specs.StatementCode.{store_last, right_side_code, condition_code, assignment_code, loop_exits, loop_code, statement_code, body_code}
use Rattle.cg_stmt.proofs.CodeLengths.{length-right_side, length-condition, length-statement, length-body}
use Rattle.cg_stmt.proofs.StatementTrees.{code-Block, code-If, code-While, code-For}

pub assignment_puts : (at : Target) (q : TypedPlace) (r : Rhs) (c c1 c2 c3 : List Instr) → c1 ≡ c ++ right_side_code at r (length c) → c2 ≡ c1 ++ place_code at true q.ty q.kind (length c1) → c3 ≡ c2 ++ store_last at.types q.ty → c3 ≡ c ++ assignment_code at q r (length c)
assignment_puts at q r c c1 c2 c3 h k l =
    let there = ends_at c c1 (right_side_code at r (length c)) (right_side_size at.types r) h (length-right_side at r (length c)) in
    puts c c3 _ _ (puts_three c c1 c2 c3 (right_side_code at r (length c)) (place_code at true q.ty q.kind (length c1)) (store_last at.types q.ty) h k l) (ap (λ n. right_side_code at r (length c) ++ (place_code at true q.ty q.kind n ++ store_last at.types q.ty)) there)

pub block_puts : (at : Target) (s : TypedStmt) (xs got : List TypedStmt) (to : Exits) (c c1 : List Instr) → s ≡ Block xs → got ≡ xs → c1 ≡ c ++ body_code at got to (length c) → c1 ≡ c ++ statement_code at s to (length c)
block_puts at s xs got to c c1 is same h =
    puts c c1 _ _ h (ap (λ l. body_code at l to (length c)) same ∙ sym (code-Block at xs to (length c)) ∙ ap (λ x. statement_code at x to (length c)) (sym is))

if_is : (at : Target) (e : TypedExpr) (x : TypedStmt) (xs : List TypedStmt) (to : Exits) (c c1 c2 c3 c4 c5 : List Instr) (other end : ℕ) → c1 ≡ c ++ expression_code at e.ty e.kind (length c) → c2 ≡ c1 ++ I.JumpIfZero other ∷ [] → c3 ≡ c2 ++ statement_code at x to (length c2) → c4 ≡ c3 ++ I.Jump end ∷ [] → c5 ≡ c4 ++ body_code at xs to (length c4) → other ≡ length c + expression_size at.types e.ty e.kind + 1 + statement_size at x + 1 → end ≡ other + body_size at xs → c5 ≡ c ++ statement_code at (If e x xs) to (length c)
if_is at e x xs to c c1 c2 c3 c4 c5 other end h1 h2 h3 h4 h5 o k =
    let s = expression_size at.types e.ty e.kind in
    let n = statement_size at x in
    let m = body_size at xs in
    let tested : length c1 ≡ length c + s = ends_at c c1 _ _ h1 (length-expression at e.ty e.kind (length c)) in
    let there : length c2 ≡ length c + s + 1 = ends_at c1 c2 _ _ h2 refl ∙ ap (λ y. y + 1) tested in
    let chosen : length c3 ≡ length c2 + n = ends_at c2 c3 _ _ h3 (length-statement at x to (length c2)) in
    let behind : length c4 ≡ length c + s + 1 + n + 1 = ends_at c3 c4 _ _ h4 refl ∙ ap (λ y. y + 1) (chosen ∙ ap (λ y. y + n) there) in
    let all = puts_choice c c1 c2 c3 c4 c5 _ _ _ s n m other end h1 h2 h3 h4 h5 o k in
    puts c c5 _ _ all (ap (λ y. choice (length c) s n m (expression_code at e.ty e.kind (length c)) (statement_code at x to y) (body_code at xs to (length c4))) there ∙ ap (λ y. choice (length c) s n m (expression_code at e.ty e.kind (length c)) (statement_code at x to (length c + s + 1)) (body_code at xs to y)) behind ∙ sym (code-If at e x xs to (length c)))

pub if_puts : (at : Target) (s : TypedStmt) (e : TypedExpr) (x seen_x got_x : TypedStmt) (xs seen_xs got_xs : List TypedStmt) (to : Exits) (here c c1 c2 c3 c4 c5 : List Instr) (other end : ℕ) → s ≡ If e x xs → here ≡ c → seen_x ≡ x → seen_xs ≡ xs → got_x ≡ x → got_xs ≡ xs → other ≡ length here + expression_size at.types e.ty e.kind + 1 + statement_size at seen_x + 1 → end ≡ other + body_size at seen_xs → c1 ≡ c ++ expression_code at e.ty e.kind (length c) → c2 ≡ c1 ++ I.JumpIfZero other ∷ [] → c3 ≡ c2 ++ statement_code at got_x to (length c2) → c4 ≡ c3 ++ I.Jump end ∷ [] → c5 ≡ c4 ++ body_code at got_xs to (length c4) → c5 ≡ c ++ statement_code at s to (length c)
if_puts at s e x seen_x got_x xs seen_xs got_xs to here c c1 c2 c3 c4 c5 other end is same s1 s2 s3 s4 o k h1 h2 h3 h4 h5 =
    let third : c3 ≡ c2 ++ statement_code at x to (length c2) = h3 ∙ ap (λ y. c2 ++ statement_code at y to (length c2)) s3 in
    let fifth : c5 ≡ c4 ++ body_code at xs to (length c4) = h5 ∙ ap (λ y. c4 ++ body_code at y to (length c4)) s4 in
    let there : other ≡ length c + expression_size at.types e.ty e.kind + 1 + statement_size at x + 1 = cc in
    let last : end ≡ other + body_size at xs = cc in
    puts c c5 _ _ (if_is at e x xs to c c1 c2 c3 c4 c5 other end h1 h2 third h4 fifth there last) (ap (λ y. statement_code at y to (length c)) (sym is))

puts_loop : (c c1 c2 c3 c4 c5 test body step : List Instr) (leave start : ℕ) → c1 ≡ c ++ test → c2 ≡ c1 ++ I.JumpIfZero leave ∷ [] → c3 ≡ c2 ++ body → c4 ≡ c3 ++ step → c5 ≡ c4 ++ I.Jump start ∷ [] → start ≡ length c → c5 ≡ c ++ loop_code (length c) leave test body step
puts_loop c c1 c2 c3 c4 c5 test body step leave start h1 h2 h3 h4 h5 o =
    let last : c5 ≡ c3 ++ (step ++ I.Jump start ∷ []) = puts_two c3 c4 c5 step (I.Jump start ∷ []) h4 h5 in
    let more : c5 ≡ c2 ++ (body ++ (step ++ I.Jump start ∷ [])) = puts_two c2 c3 c5 body (step ++ I.Jump start ∷ []) h3 last in
    let most : c5 ≡ c1 ++ (I.JumpIfZero leave ∷ (body ++ (step ++ I.Jump start ∷ []))) = puts_two c1 c2 c5 (I.JumpIfZero leave ∷ []) (body ++ (step ++ I.Jump start ∷ [])) h2 more in
    let all : c5 ≡ c ++ (test ++ (I.JumpIfZero leave ∷ (body ++ (step ++ I.Jump start ∷ [])))) = puts_two c c1 c5 test (I.JumpIfZero leave ∷ (body ++ (step ++ I.Jump start ∷ []))) h1 most in
    puts c c5 _ _ all (ap (λ n. test ++ (I.JumpIfZero leave ∷ (body ++ (step ++ I.Jump n ∷ [])))) o)

while_is : (at : Target) (e : TypedExpr) (x : TypedStmt) (to ends : Exits) (c c1 c2 c3 c4 : List Instr) (start : ℕ) → start ≡ length c → ends ≡ loop_exits (length c) (expression_size at.types e.ty e.kind) (statement_size at x) 0 → c1 ≡ c ++ expression_code at e.ty e.kind (length c) → c2 ≡ c1 ++ I.JumpIfZero ends.leave ∷ [] → c3 ≡ c2 ++ statement_code at x ends (length c2) → c4 ≡ c3 ++ I.Jump start ∷ [] → c4 ≡ c ++ statement_code at (While e x) to (length c)
while_is at e x to ends c c1 c2 c3 c4 start o k h1 h2 h3 h4 =
    let s = expression_size at.types e.ty e.kind in
    let test = expression_code at e.ty e.kind (length c) in
    let known = loop_exits (length c) s (statement_size at x) 0 in
    let tested : length c1 ≡ length c + s = ends_at c c1 _ _ h1 (length-expression at e.ty e.kind (length c)) in
    let there : length c2 ≡ length c + s + 1 = ends_at c1 c2 _ _ h2 refl ∙ ap (λ y. y + 1) tested in
    let all = puts_loop c c1 c2 c3 c3 c4 test (statement_code at x ends (length c2)) [] ends.leave start h1 h2 h3 (sym (append-nil c3)) h4 o in
    puts c c4 _ _ all (ap (λ (y : Exits). loop_code (length c) y.leave test (statement_code at x y (length c2)) []) k ∙ ap (λ y. loop_code (length c) known.leave test (statement_code at x known y) []) there ∙ sym (code-While at e x to (length c)))

pub while_puts : (at : Target) (s : TypedStmt) (e : TypedExpr) (x seen got : TypedStmt) (to ends : Exits) (first second c c1 c2 c3 c4 : List Instr) (start : ℕ) → s ≡ While e x → first ≡ c → second ≡ c → seen ≡ x → got ≡ x → start ≡ length first + 0 → ends ≡ loop_exits (length second) (expression_size at.types e.ty e.kind) (statement_size at seen) 0 → c1 ≡ c ++ expression_code at e.ty e.kind (length c) → c2 ≡ c1 ++ I.JumpIfZero ends.leave ∷ [] → c3 ≡ c2 ++ statement_code at got ends (length c2) → c4 ≡ c3 ++ I.Jump start ∷ [] → c4 ≡ c ++ statement_code at s to (length c)
while_puts at s e x seen got to ends first second c c1 c2 c3 c4 start is same1 same2 s1 s2 o k h1 h2 h3 h4 =
    let third : c3 ≡ c2 ++ statement_code at x ends (length c2) = h3 ∙ ap (λ y. c2 ++ statement_code at y ends (length c2)) s2 in
    let here : start ≡ length c = omega (arith, o, ap length same1) in
    let known : ends ≡ loop_exits (length c) (expression_size at.types e.ty e.kind) (statement_size at x) 0 =
    k ∙ ap (λ l. loop_exits (length l) (expression_size at.types e.ty e.kind) (statement_size at seen) 0) same2 ∙ ap (λ y. loop_exits (length c) (expression_size at.types e.ty e.kind) (statement_size at y) 0) s1 in
    puts c c4 _ _ (while_is at e x to ends c c1 c2 c3 c4 start here known h1 h2 third h4) (ap (λ y. statement_code at y to (length c)) (sym is))

-- a loop of a `for` behind its first statement
for_loop_is : (at : Target) (e : Option TypedExpr) (step : List TypedStmt) (x : TypedStmt) (to ends : Exits) (c c1 c2 c3 c4 c5 : List Instr) (start : ℕ) → start ≡ length c → ends ≡ loop_exits (length c) (condition_size at.types e) (statement_size at x) (body_size at step) → c1 ≡ c ++ condition_code at e (length c) → c2 ≡ c1 ++ I.JumpIfZero ends.leave ∷ [] → c3 ≡ c2 ++ statement_code at x ends (length c2) → c4 ≡ c3 ++ body_code at step to (length c3) → c5 ≡ c4 ++ I.Jump start ∷ [] → c5 ≡ c ++ loop_code (length c) (loop_exits (length c) (condition_size at.types e) (statement_size at x) (body_size at step)).leave (condition_code at e (length c)) (statement_code at x (loop_exits (length c) (condition_size at.types e) (statement_size at x) (body_size at step)) (length c + condition_size at.types e + 1)) (body_code at step to (loop_exits (length c) (condition_size at.types e) (statement_size at x) (body_size at step)).turn)
for_loop_is at e step x to ends c c1 c2 c3 c4 c5 start o k h1 h2 h3 h4 h5 =
    let s = condition_size at.types e in
    let n = statement_size at x in
    let test = condition_code at e (length c) in
    let known = loop_exits (length c) s n (body_size at step) in
    let tested : length c1 ≡ length c + s = ends_at c c1 _ _ h1 (length-condition at e (length c)) in
    let there : length c2 ≡ length c + s + 1 = ends_at c1 c2 _ _ h2 refl ∙ ap (λ y. y + 1) tested in
    let turned : length c3 ≡ length c + s + 1 + n = ends_at c2 c3 _ _ h3 (length-statement at x ends (length c2)) ∙ ap (λ y. y + n) there in
    let all = puts_loop c c1 c2 c3 c4 c5 test (statement_code at x ends (length c2)) (body_code at step to (length c3)) ends.leave start h1 h2 h3 h4 h5 o in
    puts c c5 _ _ all (ap (λ (y : Exits). loop_code (length c) y.leave test (statement_code at x y (length c2)) (body_code at step to (length c3))) k ∙ ap (λ y. loop_code (length c) known.leave test (statement_code at x known y) (body_code at step to (length c3))) there ∙ ap (λ y. loop_code (length c) known.leave test (statement_code at x known (length c + s + 1)) (body_code at step to y)) turned)

for_is : (at : Target) (first : List TypedStmt) (e : Option TypedExpr) (step : List TypedStmt) (x : TypedStmt) (to ends : Exits) (c0 c c1 c2 c3 c4 c5 : List Instr) (start : ℕ) → c ≡ c0 ++ body_code at first to (length c0) → start ≡ length c → ends ≡ loop_exits (length c) (condition_size at.types e) (statement_size at x) (body_size at step) → c1 ≡ c ++ condition_code at e (length c) → c2 ≡ c1 ++ I.JumpIfZero ends.leave ∷ [] → c3 ≡ c2 ++ statement_code at x ends (length c2) → c4 ≡ c3 ++ body_code at step to (length c3) → c5 ≡ c4 ++ I.Jump start ∷ [] → c5 ≡ c0 ++ statement_code at (For first e step x) to (length c0)
for_is at first e step x to ends c0 c c1 c2 c3 c4 c5 start h0 o k h1 h2 h3 h4 h5 =
    let s = condition_size at.types e in
    let n = statement_size at x in
    let m = body_size at step in
    let begun : length c ≡ length c0 + body_size at first = ends_at c0 c _ _ h0 (length-body at first to (length c0)) in
    let looped = for_loop_is at e step x to ends c c1 c2 c3 c4 c5 start o k h1 h2 h3 h4 h5 in
    let all = puts_two c0 c c5 (body_code at first to (length c0)) _ h0 looped in
    puts c0 c5 _ _ all (ap (λ y. body_code at first to (length c0) ++ loop_code y (loop_exits y s n m).leave (condition_code at e y) (statement_code at x (loop_exits y s n m) (y + s + 1)) (body_code at step to (loop_exits y s n m).turn)) begun ∙ sym (code-For at first e step x to (length c0)))

pub for_puts : (at : Target) (s : TypedStmt) (first got_first : List TypedStmt) (e : Option TypedExpr) (step seen_step got_step : List TypedStmt) (x seen got : TypedStmt) (to ends : Exits) (here again c0 c c1 c2 c3 c4 c5 : List Instr) (start : ℕ) → s ≡ For first e step x → got_first ≡ first → here ≡ c → again ≡ c → seen_step ≡ step → seen ≡ x → got ≡ x → got_step ≡ step → c ≡ c0 ++ body_code at got_first to (length c0) → start ≡ length here + 0 → ends ≡ loop_exits (length again) (condition_size at.types e) (statement_size at seen) (body_size at seen_step) → c1 ≡ c ++ condition_code at e (length c) → c2 ≡ c1 ++ I.JumpIfZero ends.leave ∷ [] → c3 ≡ c2 ++ statement_code at got ends (length c2) → c4 ≡ c3 ++ body_code at got_step to (length c3) → c5 ≡ c4 ++ I.Jump start ∷ [] → c5 ≡ c0 ++ statement_code at s to (length c0)
for_puts at s first got_first e step seen_step got_step x seen got to ends here again c0 c c1 c2 c3 c4 c5 start is same0 same1 same2 s1 s2 s3 s4 h0 o k h1 h2 h3 h4 h5 =
    let begun : c ≡ c0 ++ body_code at first to (length c0) = h0 ∙ ap (λ y. c0 ++ body_code at y to (length c0)) same0 in
    let third : c3 ≡ c2 ++ statement_code at x ends (length c2) = h3 ∙ ap (λ y. c2 ++ statement_code at y ends (length c2)) s3 in
    let fourth : c4 ≡ c3 ++ body_code at step to (length c3) = h4 ∙ ap (λ y. c3 ++ body_code at y to (length c3)) s4 in
    let there : start ≡ length c = omega (arith, o, ap length same1) in
    let known : ends ≡ loop_exits (length c) (condition_size at.types e) (statement_size at x) (body_size at step) =
    k ∙ ap (λ l. loop_exits (length l) (condition_size at.types e) (statement_size at seen) (body_size at seen_step)) same2 ∙ ap (λ y. loop_exits (length c) (condition_size at.types e) (statement_size at y) (body_size at seen_step)) s2 ∙ ap (λ y. loop_exits (length c) (condition_size at.types e) (statement_size at x) (body_size at y)) s1 in
    puts c0 c5 _ _ (for_is at first e step x to ends c0 c c1 c2 c3 c4 c5 start begun there known h1 h2 third fourth h5) (ap (λ y. statement_code at y to (length c0)) (sym is))
