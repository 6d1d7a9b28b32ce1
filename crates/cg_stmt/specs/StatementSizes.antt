-- How many instructions the code of a statement has.
use Rattle.std.specs.Prelude.{ℕ, ◌+◌, Bool, true, false, if◌then◌else◌, List, [], ◌∷◌, length, Option, Some, None, is_some, slice_get}
use Rattle.std.specs.Option.{option_map_or}
use Rattle.c_types.specs.declared.parts.Parts.{Parts}
use Rattle.c_types.specs.declared.parts.Ty.{Ty}
use Rattle.c_types.specs.declared.parts.Ty.TheVariants.{Function as Function_pointer}
use Rattle.bm_isa.specs.declared.instr.Instr.{Instr}
use Rattle.bm_isa.specs.declared.instr.Instr.TheVariants.{Pop}
use Rattle.src_tree.specs.declared.expr.TypedExpr.{TypedExpr}
use Rattle.src_tree.specs.declared.stmt.Callee.{Callee}
use Rattle.src_tree.specs.declared.stmt.Callee.TheVariants.{Function as Named, Pointer, Send, Malloc, Calloc, Free, Panic}
use Rattle.src_tree.specs.declared.stmt.Call as Text
use Rattle.src_tree.specs.declared.stmt.Rhs.{Rhs}
use Rattle.src_tree.specs.declared.stmt.Rhs.TheVariants.{Value as Plain, Call as Result_of}
use Rattle.src_tree.specs.declared.stmt.TypedStmt.{TypedStmt, Block', Empty, Declare, SetLocal, Assign, Call, If', While', For', Break, Continue, Return, Row_of-TypedStmt, end_of-TypedStmt, more_of-TypedStmt}
use Rattle.src_meaning.specs.ValidTypes.{ty}
use Rattle.cg_expr.specs.Pieces.{normal}
use Rattle.cg_expr.specs.Sizes.{expression_size, place_size, choice_size}
use Rattle.cg_expr.specs.Code.{Target}

abbrev pub arguments_size : Parts → List TypedExpr → ℕ
arguments_size p [] = 0
arguments_size p (e ∷ es) = expression_size p e.ty e.kind + arguments_size p es

-- the value of what is called, or an argument that the text doesn't write
abbrev pub callee_size : Parts → Callee → ℕ
callee_size p (Pointer e) = expression_size p e.ty e.kind
callee_size p (Malloc site) = 1
callee_size p _ = 0

abbrev pub call_size : Parts → Text.Call → ℕ
call_size p c = callee_size p c.callee + arguments_size p c.args + 1

-- of a right side
abbrev pub right_side_size : Parts → Rhs → ℕ
right_side_size p (Plain e) = expression_size p e.ty e.kind
right_side_size p (Result_of c t) = call_size p c + length (normal (ty p t))

-- whether functions to which pointers of a type point have a result
abbrev pub pointed_has_result : Parts → Option Ty → Bool
pointed_has_result p (Some (Function_pointer g)) =
    option_map_or (λ s. is_some s.result) (slice_get p.signatures g) false
pointed_has_result p _ = false

-- whether a call leaves a word
abbrev pub has_result : Target → Callee → Bool
has_result at (Named f) = option_map_or (λ d. is_some d.ret) (slice_get at.functions f) false
has_result at (Pointer e) = pointed_has_result at.types (ty at.types e.ty)
has_result at Send = true
has_result at (Malloc site) = true
has_result at (Calloc site) = true
has_result at Free = false
has_result at Panic = false

-- what drops a result that nobody wants
abbrev pub dropped : Bool → List Instr
dropped b = if b then Pop ∷ [] else []

-- of a loop: its test, its body, what follows each turn, and two jumps
abbrev pub loop_size : ℕ → ℕ → ℕ → ℕ
loop_size test body step = test + 1 + body + step + 1

-- of a loop's condition; one that isn't there is true
abbrev pub condition_size : Parts → Option TypedExpr → ℕ
condition_size p None = 1
condition_size p (Some e) = expression_size p e.ty e.kind

-- of a local's value at its declaration, which is 0 where the text gives none
abbrev pub start_size : Parts → Option Rhs → ℕ
start_size p None = 1
start_size p (Some r) = right_side_size p r

abbrev pub return_size : Parts → Option Rhs → ℕ
return_size p None = 1
return_size p (Some r) = right_side_size p r + 1

abbrev mutual
  pub statement_size : Target → TypedStmt → ℕ
  statement_size at (Block' m body) = row_size at body
  statement_size at Empty = 0
  statement_size at (Declare x r) = start_size at.types r + 1
  statement_size at (SetLocal x r) = right_side_size at.types r + 1
  statement_size at (Assign to r) = right_side_size at.types r + place_size at.types to.kind + 1
  statement_size at (Call c) = call_size at.types c + length (dropped (has_result at c.callee))
  statement_size at (If' e m a n b) =
      choice_size (expression_size at.types e.ty e.kind) (row_size at a) (row_size at b)
  statement_size at (While' e m body) = loop_size (expression_size at.types e.ty e.kind) (row_size at body) 0
  statement_size at (For' m first e n step k body) =
      row_size at first + loop_size (condition_size at.types e) (row_size at body) (row_size at step)
  statement_size at Break = 1
  statement_size at Continue = 1
  statement_size at (Return r) = return_size at.types r

  pub row_size : {m : _} → Target → Row_of-TypedStmt m → ℕ
  row_size at end_of-TypedStmt = 0
  row_size at (more_of-TypedStmt x rest) = statement_size at x + row_size at rest

-- of statements, one behind the other
abbrev pub body_size : Target → List TypedStmt → ℕ
body_size at [] = 0
body_size at (x ∷ rest) = statement_size at x + body_size at rest
