-- The code of statements has the size that it is said to have.
use Rattle.std.proofs.Common.{◌≡◌, ◌∙◌, refl, ap, ℕ, ◌+◌, Bool, true, false, if◌then◌else◌, List, [], ◌∷◌, ◌++◌, length, Option, Some, None, length-append, arith}
use Rattle.bm_isa.specs.declared.instr.Instr.{Instr}
use Rattle.bm_isa.specs.declared.instr.Instr.TheVariants as I
use Rattle.src_tree.specs.declared.expr.TypedExpr.{TypedExpr}
use Rattle.src_tree.specs.declared.expr.TypedPlace.{TypedPlace}
use Rattle.src_tree.specs.declared.stmt.Callee.{Callee}
use Rattle.src_tree.specs.declared.stmt.Callee.TheVariants.{Function as Named, Pointer, Send, Malloc, Calloc, Free, Panic}
use Rattle.src_tree.specs.declared.stmt.Call as Text
use Rattle.src_tree.specs.declared.stmt.Rhs.{Rhs}
use Rattle.src_tree.specs.declared.stmt.Rhs.TheVariants.{Value as Plain, Call as Result_of}
use Rattle.src_tree.specs.declared.stmt.TypedStmt.{TypedStmt, Block', Empty, Declare, SetLocal, Assign, Call, If', While', For', Break, Continue, Return, Row_of-TypedStmt, end_of-TypedStmt, more_of-TypedStmt}
use Rattle.src_meaning.specs.ValidTypes.{ty, is_scalar}
use Rattle.cg_expr.specs.Pieces.{pointer_size, type_size, scalar_number, normal}
use Rattle.cg_expr.specs.Sizes.{expression_size, place_size}
use Rattle.cg_expr.specs.Code.{Target, expression_code, place_code}
use Rattle.cg_expr.proofs.Lengths.{two, three, length-choice, length-expression, length-place}
use Rattle.cg_stmt.specs.declared.statements.Exits.{Exits}
use Rattle.cg_stmt.specs.StatementSizes.{arguments_size, callee_size, call_size, right_side_size, has_result, dropped, loop_size, condition_size, start_size, return_size, statement_size, row_size, body_size}
use Rattle.cg_stmt.specs.StatementCode.{store_last, arguments_code, callee_code, call_last, call_code, right_side_code, condition_code, start_code, return_code, assignment_code, loop_exits, loop_code, statement_code, row_code, body_code}

pub length-callee : (at : Target) (x : Callee) (pc : ℕ) → length (callee_code at x pc) ≡ callee_size at.types x
length-callee at (Named f) pc = refl
length-callee at (Pointer e) pc = length-expression at e.ty e.kind pc
length-callee at Send pc = refl
length-callee at (Malloc site) pc = refl
length-callee at (Calloc site) pc = refl
length-callee at Free pc = refl
length-callee at Panic pc = refl

pub length-arguments : (at : Target) (es : List TypedExpr) (pc : ℕ) → length (arguments_code at es pc) ≡ arguments_size at.types es
length-arguments at [] pc = refl
length-arguments at (e ∷ es) pc =
    two (expression_code at e.ty e.kind pc) (arguments_code at es (pc + expression_size at.types e.ty e.kind)) _ _ (length-expression at e.ty e.kind pc) (length-arguments at es (pc + expression_size at.types e.ty e.kind))

pub length-call : (at : Target) (c : Text.Call) (pc : ℕ) → length (call_code at c pc) ≡ call_size at.types c
length-call at c pc =
    three (callee_code at c.callee pc) (arguments_code at c.args (pc + callee_size at.types c.callee)) (call_last c.callee (length c.args) ∷ []) _ _ (length-callee at c.callee pc) (length-arguments at c.args (pc + callee_size at.types c.callee))

pub length-right_side : (at : Target) (r : Rhs) (pc : ℕ) → length (right_side_code at r pc) ≡ right_side_size at.types r
length-right_side at (Plain e) pc = length-expression at e.ty e.kind pc
length-right_side at (Result_of c t) pc = two (call_code at c pc) (normal (ty at.types t)) _ _ (length-call at c pc) refl

pub length-condition : (at : Target) (e : Option TypedExpr) (pc : ℕ) → length (condition_code at e pc) ≡ condition_size at.types e
length-condition at None pc = refl
length-condition at (Some e) pc = length-expression at e.ty e.kind pc

pub length-start : (at : Target) (r : Option Rhs) (pc : ℕ) → length (start_code at r pc) ≡ start_size at.types r
length-start at None pc = refl
length-start at (Some r) pc = length-right_side at r pc

length-return : (at : Target) (r : Option Rhs) (pc : ℕ) → length (return_code at r pc) ≡ return_size at.types r
length-return at None pc = refl
length-return at (Some r) pc = two (right_side_code at r pc) (I.ReturnValue ∷ []) _ _ (length-right_side at r pc) refl

one_of : (b : Bool) (x y : Instr) → length (if b then x ∷ [] else y ∷ []) ≡ 1
one_of true x y = refl
one_of false x y = refl

length-assignment : (at : Target) (q : TypedPlace) (r : Rhs) (pc : ℕ) → length (assignment_code at q r pc) ≡ right_side_size at.types r + place_size at.types q.kind + 1
length-assignment at q r pc =
    let there = pc + right_side_size at.types r in
    let last : length (store_last at.types q.ty) ≡ 1 = one_of (is_scalar (ty at.types q.ty)) (I.Store (scalar_number (pointer_size at.types) (ty at.types q.ty))) (I.CopyBytes (type_size at.types q.ty)) in
    three (right_side_code at r pc) (place_code at true q.ty q.kind there) (store_last at.types q.ty) _ _ (length-right_side at r pc) (length-place at true q.ty q.kind there)
    ∙ ap (λ n. right_side_size at.types r + place_size at.types q.kind + n) last

length-loop : (pc leave s n k : ℕ) (test body step : List Instr) → length test ≡ s → length body ≡ n → length step ≡ k → length (loop_code pc leave test body step) ≡ loop_size s n k
length-loop pc leave s n k test body step e f g =
    omega (arith, length-append test (I.JumpIfZero leave ∷ (body ++ (step ++ I.Jump pc ∷ []))), length-append body (step ++ I.Jump pc ∷ []), length-append step (I.Jump pc ∷ []), e, f, g)

mutual
  pub length-statement : (at : Target) (x : TypedStmt) (to : Exits) (pc : ℕ) → length (statement_code at x to pc) ≡ statement_size at x
  length-statement at (Block' m body) to pc = length-row at body to pc
  length-statement at Empty to pc = refl
  length-statement at (Declare x r) to pc = two (start_code at r pc) (I.SetLocal x ∷ []) _ _ (length-start at r pc) refl
  length-statement at (SetLocal x r) to pc = two (right_side_code at r pc) (I.SetLocal x ∷ []) _ _ (length-right_side at r pc) refl
  length-statement at (Assign q r) to pc = length-assignment at q r pc
  length-statement at (Call c) to pc = two (call_code at c pc) (dropped (has_result at c.callee)) _ _ (length-call at c pc) refl
  length-statement at (If' e m a n b) to pc =
      let test = expression_size at.types e.ty e.kind in
      let yes = pc + test + 1 in
      let no = yes + row_size at a + 1 in
      length-choice pc test (row_size at a) (row_size at b) (expression_code at e.ty e.kind pc) (row_code at a to yes) (row_code at b to no) (length-expression at e.ty e.kind pc) (length-row at a to yes) (length-row at b to no)
  length-statement at (While' e m body) to pc =
      let test = expression_size at.types e.ty e.kind in
      let ends = loop_exits pc test (row_size at body) 0 in
      length-loop pc ends.leave test (row_size at body) 0 (expression_code at e.ty e.kind pc) (row_code at body ends (pc + test + 1)) [] (length-expression at e.ty e.kind pc) (length-row at body ends (pc + test + 1)) refl
  length-statement at (For' m first e n step k body) to pc =
      let here = pc + row_size at first in
      let test = condition_size at.types e in
      let ends = loop_exits here test (row_size at body) (row_size at step) in
      two (row_code at first to pc) (loop_code here ends.leave (condition_code at e here) (row_code at body ends (here + test + 1)) (row_code at step to ends.turn)) _ _ (length-row at first to pc) (length-loop here ends.leave test (row_size at body) (row_size at step) (condition_code at e here) (row_code at body ends (here + test + 1)) (row_code at step to ends.turn) (length-condition at e here) (length-row at body ends (here + test + 1)) (length-row at step to ends.turn))
  length-statement at Break to pc = refl
  length-statement at Continue to pc = refl
  length-statement at (Return r) to pc = length-return at r pc

  length-row : {m : _} (at : Target) (e : Row_of-TypedStmt m) (to : Exits) (pc : ℕ) → length (row_code at e to pc) ≡ row_size at e
  length-row at end_of-TypedStmt to pc = refl
  length-row at (more_of-TypedStmt x rest) to pc =
      two (statement_code at x to pc) (row_code at rest to (pc + statement_size at x)) _ _ (length-statement at x to pc) (length-row at rest to (pc + statement_size at x))

pub length-body : (at : Target) (xs : List TypedStmt) (to : Exits) (pc : ℕ) → length (body_code at xs to pc) ≡ body_size at xs
length-body at [] to pc = refl
length-body at (x ∷ xs) to pc =
    two (statement_code at x to pc) (body_code at xs to (pc + statement_size at x)) _ _ (length-statement at x to pc) (length-body at xs to (pc + statement_size at x))
