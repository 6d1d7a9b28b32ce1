-- Calls and statements as the rules ask for them, with their depth.
use Rattle.std.specs.Prelude.{ℕ, ◌+◌, ◌-◌, Bool, true, false, ◌&&◌, ◌||◌, not, nat_eq, nat_lt, List, [], ◌∷◌, length, Option, Some, None, slice_get}
use Rattle.std.specs.Option.{option_map_or}
use Rattle.std.specs.List.{list_all}
use Rattle.c_types.specs.declared.parts.Signature.{Signature}
use Rattle.c_types.specs.declared.parts.Ty.{Ty}
use Rattle.c_types.specs.declared.parts.Ty.TheVariants as T
use Rattle.c_types.specs.declared.parts.IntKind.TheVariants as K
use Rattle.c_types.specs.declared.parts.Parts.{Parts}
use Rattle.src_tree.specs.declared.expr.TypedExpr.{TypedExpr}
use Rattle.src_tree.specs.declared.expr.TypedPlace.{TypedPlace}
use Rattle.src_tree.specs.declared.stmt.Callee.{Callee}
use Rattle.src_tree.specs.declared.stmt.Callee.TheVariants.{Function as Named, Pointer, Send, Malloc, Calloc, Free, Panic}
use Rattle.src_tree.specs.declared.stmt.Call as Text
use Rattle.src_tree.specs.declared.stmt.Rhs.{Rhs}
use Rattle.src_tree.specs.declared.stmt.Rhs.TheVariants.{Value as Plain, Call as Result_of}
use Rattle.src_tree.specs.declared.stmt.TypedStmt.{TypedStmt, Block', Empty, Declare, SetLocal, Assign, Call, If', While', For', Break, Continue, Return, Row_of-TypedStmt, end_of-TypedStmt, more_of-TypedStmt}
use Rattle.src_tree.specs.declared.program.Function.{Function}
use Rattle.src_tree.specs.declared.program.Program.{Program}
use Rattle.src_meaning.specs.ValidTypes.{ty, is_int, is_long_long, is_void_pointer, is_scalar, converts, is_declared_scalar}
use Rattle.src_meaning.specs.ValidExpression.{Declarations, local_type, is_expr, is_target, is_assignable, is_condition}
use Rattle.src_meaning.specs.ValidDepth.{spot, has_room, keeps_bounds, place_keeps_bounds, postfix_rank, unary_rank, whole_rank}

-- a whole expression in a construct with this room
abbrev pub has_depth : ℕ → TypedExpr → Bool
has_depth room e = keeps_bounds (spot whole_rank (room - 1)) e.kind

-- an argument of exactly that type
abbrev pub is_argument : Declarations → ℕ → ℕ → TypedExpr → Bool
is_argument at room t e = is_expr at e.ty e.kind && (nat_eq e.ty t && (is_scalar (ty at.program.types t) && has_depth room e))

-- one argument for each type
abbrev pub are_arguments : Declarations → ℕ → List ℕ → List TypedExpr → Bool
are_arguments at room [] [] = true
are_arguments at room (t ∷ ts) (e ∷ es) = is_argument at room t e && are_arguments at room ts es
are_arguments at room _ _ = false

-- one argument, whose type passes the test
abbrev pub is_only_argument : Declarations → ℕ → (Option Ty → Bool) → List TypedExpr → Bool
is_only_argument at room test (e ∷ []) = is_expr at e.ty e.kind && (test (ty at.program.types e.ty) && has_depth room e)
is_only_argument at room test _ = false

abbrev pub is_empty : List TypedExpr → Bool
is_empty [] = true
is_empty _ = false

abbrev pub params_in : Parts → Option Ty → Option (List ℕ)
params_in p (Some (T.Function g)) = option_map_or (λ s. Some s.params) (slice_get p.signatures g) None
params_in p _ = None

-- the arguments of a call through a pointer of that type
abbrev pub are_pointer_arguments : Declarations → ℕ → Option Ty → List TypedExpr → Bool
are_pointer_arguments at room t es = option_map_or (λ ts. are_arguments at room ts es) (params_in at.program.types t) false

abbrev pub names_site : Program → ℕ → Bool
names_site p site = nat_lt site (length p.sites)

-- a callee that is a value, at a place with this room
abbrev pub is_callee : Declarations → ℕ → TypedExpr → Bool
is_callee at here e = is_expr at e.ty e.kind && keeps_bounds (spot postfix_rank here) e.kind

-- A call: `here` is the room at the callee, and `room` that of the arguments' parenthesis. An allocation's `sizeof` is
-- its last argument
abbrev pub is_call_of : Declarations → ℕ → ℕ → Callee → List TypedExpr → Bool
is_call_of at here room (Named f) es =
    nat_lt 1 here && option_map_or (λ d. are_arguments at room d.params es) (slice_get at.program.functions f) false
is_call_of at here room (Pointer e) es =
    is_callee at here e && are_pointer_arguments at room (ty at.program.types e.ty) es
is_call_of at here room Send es = nat_lt 1 here && is_only_argument at room is_int es
is_call_of at here room (Malloc site) es = nat_lt 2 room && (names_site at.program site && is_empty es)
is_call_of at here room (Calloc site) es =
    nat_lt 2 room && (names_site at.program site && is_only_argument at room is_long_long es)
is_call_of at here room Free es = nat_lt 1 here && is_only_argument at room is_void_pointer es
is_call_of at here room Panic es = nat_lt 1 here && is_only_argument at room is_int es

abbrev pub is_call : Declarations → ℕ → ℕ → Text.Call → Bool
is_call at here room c = is_call_of at here room c.callee c.args

abbrev pub type_in : Parts → Option ℕ → Option Ty
type_in p None = None
type_in p (Some t) = ty p t

abbrev pub pointer_result : Parts → Option Ty → Option Ty
pointer_result p (Some (T.Function g)) = option_map_or (λ s. type_in p s.result) (slice_get p.signatures g) None
pointer_result p _ = None

-- the type of what a call gives, if it gives anything
abbrev pub call_result : Program → Callee → Option Ty
call_result p (Named f) = option_map_or (λ d. type_in p.types d.ret) (slice_get p.functions f) None
call_result p (Pointer e) = pointer_result p.types (ty p.types e.ty)
call_result p Send = Some (T.Int K.Int)
call_result p (Malloc site) = Some T.VoidPointer
call_result p (Calloc site) = Some T.VoidPointer
call_result p Free = None
call_result p Panic = None

abbrev pub is_allocation : Callee → Bool
is_allocation (Malloc site) = true
is_allocation (Calloc site) = true
is_allocation _ = false

-- a right side for the type t in a statement with this room
abbrev pub is_right_side : Declarations → ℕ → ℕ → Rhs → Bool
is_right_side at room t (Plain e) = is_assignable at t e && has_depth room e
is_right_side at room t (Result_of c u) =
    is_call at (room - 1) room c && (nat_eq u t && converts (call_result at.program c.callee) (ty at.program.types t))

abbrev pub is_plain : Rhs → Bool
is_plain (Plain e) = true
is_plain (Result_of c u) = false

abbrev pub is_allocating : Rhs → Bool
is_allocating (Plain e) = false
is_allocating (Result_of c u) = is_allocation c.callee

abbrev pub is_local_start : Declarations → ℕ → ℕ → Option Rhs → Bool
is_local_start at room t None = true
is_local_start at room t (Some r) = is_right_side at room t r

-- the declaration of a local of type t
abbrev pub is_declaration : Declarations → ℕ → Option Rhs → ℕ → Bool
is_declaration at room r t = is_declared_scalar at.program.types room t && is_local_start at room t r

-- what a function with this result returns
abbrev pub is_returned : Declarations → ℕ → Option ℕ → Option Rhs → Bool
is_returned at room None None = nat_lt 0 room
is_returned at room (Some t) (Some r) = is_right_side at room t r && not (is_allocating r)
is_returned at room _ _ = false

-- an assignment of a value, as a `for` has it
abbrev pub is_simple : TypedStmt → Bool
is_simple (SetLocal x r) = is_plain r
is_simple (Assign to r) = is_plain r
is_simple _ = false

-- at most one statement
abbrev pub is_optional : {m : _} → Row_of-TypedStmt m → Bool
is_optional end_of-TypedStmt = true
is_optional (more_of-TypedStmt x end_of-TypedStmt) = true
is_optional _ = false

-- at most one statement, and that is simple
abbrev pub is_optional_simple : {m : _} → Row_of-TypedStmt m → Bool
is_optional_simple end_of-TypedStmt = true
is_optional_simple (more_of-TypedStmt x end_of-TypedStmt) = is_simple x
is_optional_simple _ = false

-- a condition in a statement with this room
abbrev pub is_test : Declarations → ℕ → TypedExpr → Bool
is_test at room e = is_condition at e && has_depth room e

abbrev pub is_loop_condition : Declarations → ℕ → Option TypedExpr → Bool
is_loop_condition at room None = true
is_loop_condition at room (Some e) = is_test at room e

abbrev mutual
  -- a statement with this room in a function with this result, inside a loop or not
  pub is_statement : Declarations → Option ℕ → Bool → ℕ → TypedStmt → Bool
  is_statement at ret in_loop room (Block' m body) = nat_lt 1 room && are_row at ret in_loop (room - 2) body
  is_statement at ret in_loop room Empty = nat_lt 0 room
  is_statement at ret in_loop room (Declare x r) = option_map_or (is_declaration at room r) (local_type at x) false
  is_statement at ret in_loop room (SetLocal x r) =
      nat_lt 1 room && option_map_or (λ t. is_right_side at room t r) (local_type at x) false
  is_statement at ret in_loop room (Assign to r) =
      is_target at to && (place_keeps_bounds (spot unary_rank room) to.kind && is_right_side at room to.ty r)
  is_statement at ret in_loop room (Call c) = is_call at room room c && not (is_allocation c.callee)
  is_statement at ret in_loop room (If' e m a n b) =
      is_test at room e && (are_row at ret in_loop (room - 1) a && (is_optional b && are_row at ret in_loop (room - 1) b))
  is_statement at ret in_loop room (While' e m body) =
      is_test at room e && are_row at ret true (room - 1) body
  is_statement at ret in_loop room (For' m first e n step k body) =
      is_optional_simple first && (are_row at ret in_loop room first && (is_loop_condition at room e && (is_optional_simple step && (are_row at ret in_loop room step && are_row at ret true (room - 1) body))))
  is_statement at ret in_loop room Break = in_loop && nat_lt 0 room
  is_statement at ret in_loop room Continue = in_loop && nat_lt 0 room
  is_statement at ret in_loop room (Return r) = is_returned at room ret r

  pub are_row : {m : _} → Declarations → Option ℕ → Bool → ℕ → Row_of-TypedStmt m → Bool
  are_row at ret in_loop room end_of-TypedStmt = true
  are_row at ret in_loop room (more_of-TypedStmt x rest) =
      is_statement at ret in_loop room x && are_row at ret in_loop room rest

abbrev pub are_statements : Declarations → Option ℕ → Bool → ℕ → List TypedStmt → Bool
are_statements at ret in_loop room = list_all (is_statement at ret in_loop room)

-- at most one statement, as a list
abbrev pub are_optional : List TypedStmt → Bool
are_optional [] = true
are_optional (x ∷ []) = true
are_optional _ = false

abbrev pub are_optional_simple : List TypedStmt → Bool
are_optional_simple [] = true
are_optional_simple (x ∷ []) = is_simple x
are_optional_simple _ = false
