-- The code of statements, from the place in the function where it stands. The operand stack is as it was where it ends.
use Rattle.std.specs.Prelude.{ℕ, ◌+◌, true, if◌then◌else◌, List, [], ◌∷◌, ◌++◌, length, Option, Some, None}
use Rattle.c_types.specs.declared.parts.Parts.{Parts}
use Rattle.bm_isa.specs.declared.instr.Instr.{Instr}
use Rattle.bm_isa.specs.declared.instr.Instr.TheVariants as I
use Rattle.src_tree.specs.declared.expr.TypedExpr.{TypedExpr}
use Rattle.src_tree.specs.declared.expr.TypedPlace.{TypedPlace}
use Rattle.src_tree.specs.declared.stmt.Callee.{Callee}
use Rattle.src_tree.specs.declared.stmt.Callee.TheVariants.{Function as Named, Pointer, Send, Malloc, Calloc, Free, Panic as Panics}
use Rattle.src_tree.specs.declared.stmt.Call as Text
use Rattle.src_tree.specs.declared.stmt.Rhs.{Rhs}
use Rattle.src_tree.specs.declared.stmt.Rhs.TheVariants.{Value as Plain, Call as Result_of}
use Rattle.src_tree.specs.declared.stmt.TypedStmt.{TypedStmt, Block', Empty, Declare, SetLocal, Assign, Call, If', While', For', Break, Continue, Return, Row_of-TypedStmt, end_of-TypedStmt, more_of-TypedStmt}
use Rattle.src_meaning.specs.ValidTypes.{ty, is_scalar}
use Rattle.cg_expr.specs.Pieces.{pointer_size, type_size, scalar_number, normal}
use Rattle.cg_expr.specs.Sizes.{expression_size}
use Rattle.cg_expr.specs.Code.{Target, choice, expression_code, place_code}
use Rattle.cg_stmt.specs.declared.statements.Exits.{Exits}
use Rattle.cg_stmt.specs.StatementSizes.{callee_size, right_side_size, has_result, dropped, loop_size, condition_size, row_size, statement_size}

-- what stores the word, or the struct or union at the address, at the address on top
abbrev pub store_last : Parts → ℕ → List Instr
store_last p t =
    if is_scalar (ty p t) then I.Store (scalar_number (pointer_size p) (ty p t)) ∷ [] else I.CopyBytes (type_size p t) ∷ []

abbrev pub arguments_code : Target → List TypedExpr → ℕ → List Instr
arguments_code at [] pc = []
arguments_code at (e ∷ es) pc =
    expression_code at e.ty e.kind pc ++ arguments_code at es (pc + expression_size at.types e.ty e.kind)

abbrev pub callee_code : Target → Callee → ℕ → List Instr
callee_code at (Pointer e) pc = expression_code at e.ty e.kind pc
callee_code at (Malloc site) pc = I.Const 1 ∷ []
callee_code at _ pc = []

-- the instruction that calls with so many arguments
abbrev pub call_last : Callee → ℕ → Instr
call_last (Named f) count = I.Call f
call_last (Pointer e) count = I.CallIndirect count
call_last Send count = I.SendMessage
call_last (Malloc site) count = I.Allocate site
call_last (Calloc site) count = I.Allocate site
call_last Free count = I.Free
call_last Panics count = I.Panic

-- the callee comes before the arguments
abbrev pub call_code : Target → Text.Call → ℕ → List Instr
call_code at c pc =
    callee_code at c.callee pc
    ++ (arguments_code at c.args (pc + callee_size at.types c.callee) ++ call_last c.callee (length c.args) ∷ [])

abbrev pub right_side_code : Target → Rhs → ℕ → List Instr
right_side_code at (Plain e) pc = expression_code at e.ty e.kind pc
right_side_code at (Result_of c t) pc = call_code at c pc ++ normal (ty at.types t)

abbrev pub condition_code : Target → Option TypedExpr → ℕ → List Instr
condition_code at None pc = I.Const 1 ∷ []
condition_code at (Some e) pc = expression_code at e.ty e.kind pc

abbrev pub start_code : Target → Option Rhs → ℕ → List Instr
start_code at None pc = I.Const 0 ∷ []
start_code at (Some r) pc = right_side_code at r pc

abbrev pub return_code : Target → Option Rhs → ℕ → List Instr
return_code at None pc = I.Return ∷ []
return_code at (Some r) pc = right_side_code at r pc ++ I.ReturnValue ∷ []

-- an assignment to a place evaluates the right side first
abbrev pub assignment_code : Target → TypedPlace → Rhs → ℕ → List Instr
assignment_code at q r pc =
    right_side_code at r pc
    ++ (place_code at true q.ty q.kind (pc + right_side_size at.types r) ++ store_last at.types q.ty)

abbrev pub call_alone_code : Target → Text.Call → ℕ → List Instr
call_alone_code at c pc = call_code at c pc ++ dropped (has_result at c.callee)

-- where the innermost loop is left, and where its turn ends
abbrev pub exits : ℕ → ℕ → Exits
exits leave turn = record { leave = leave; turn = turn }

-- those of a loop from a place on, by the sizes of its test, its body and what follows each turn
abbrev pub loop_exits : ℕ → ℕ → ℕ → ℕ → Exits
loop_exits pc test body step = exits (pc + loop_size test body step) (pc + test + 1 + body)

-- A loop from a place on, which is left to another place: the test, the body, and what follows each turn. The jump back
-- takes the turn's tick.
abbrev pub loop_code : ℕ → ℕ → List Instr → List Instr → List Instr → List Instr
loop_code pc leave test body step = test ++ (I.JumpIfZero leave ∷ (body ++ (step ++ I.Jump pc ∷ [])))

abbrev mutual
  pub statement_code : Target → TypedStmt → Exits → ℕ → List Instr
  statement_code at (Block' m body) to pc = row_code at body to pc
  statement_code at Empty to pc = []
  statement_code at (Declare x r) to pc = start_code at r pc ++ I.SetLocal x ∷ []
  statement_code at (SetLocal x r) to pc = right_side_code at r pc ++ I.SetLocal x ∷ []
  statement_code at (Assign q r) to pc = assignment_code at q r pc
  statement_code at (Call c) to pc = call_alone_code at c pc
  statement_code at (If' e m a n b) to pc =
      let test = expression_size at.types e.ty e.kind in
      let yes = pc + test + 1 in
      let no = yes + row_size at a + 1 in
      choice pc test (row_size at a) (row_size at b) (expression_code at e.ty e.kind pc) (row_code at a to yes) (row_code at b to no)
  statement_code at (While' e m body) to pc =
      let test = expression_size at.types e.ty e.kind in
      let ends = loop_exits pc test (row_size at body) 0 in
      loop_code pc ends.leave (expression_code at e.ty e.kind pc) (row_code at body ends (pc + test + 1)) []
  statement_code at (For' m first e n step k body) to pc =
      let here = pc + row_size at first in
      let test = condition_size at.types e in
      let ends = loop_exits here test (row_size at body) (row_size at step) in
      row_code at first to pc
      ++ loop_code here ends.leave (condition_code at e here) (row_code at body ends (here + test + 1)) (row_code at step to ends.turn)
  statement_code at Break to pc = I.Jump to.leave ∷ []
  statement_code at Continue to pc = I.Jump to.turn ∷ []
  statement_code at (Return r) to pc = return_code at r pc

  pub row_code : {m : _} → Target → Row_of-TypedStmt m → Exits → ℕ → List Instr
  row_code at end_of-TypedStmt to pc = []
  row_code at (more_of-TypedStmt x rest) to pc =
      statement_code at x to pc ++ row_code at rest to (pc + statement_size at x)

-- statements one behind the other
abbrev pub body_code : Target → List TypedStmt → Exits → ℕ → List Instr
body_code at [] to pc = []
body_code at (x ∷ rest) to pc = statement_code at x to pc ++ body_code at rest to (pc + statement_size at x)
