-- Calls: what is called, arguments, and where the built-in functions stand.
use Rattle.std.specs.Prelude.{ℕ, nat_eq, false, List, [], ◌∷◌, ◌++◌, length, Option, Some, None, Ok, Err, slice_get, if◌then◌else◌}
use Rattle.lu_spec.specs.Then.{then_do}
use Rattle.c_types.specs.declared.parts.IntKind.TheVariants as K
use Rattle.c_types.specs.declared.parts.Ty.TheVariants as T
use Rattle.c_types.specs.declared.parts.Parts.{Parts}
use Rattle.c_types.specs.declared.parts.Signature.{Signature}
use Rattle.c_ast.specs.Trees.{Expression, Paren, Size}
use Rattle.src_tree.specs.declared.expr.TypedExpr.{TypedExpr}
use Rattle.src_tree.specs.declared.stmt.Callee.{Callee as Node}
use Rattle.src_tree.specs.declared.stmt.Callee.TheVariants as N
use Rattle.c_check_scope.specs.Kinds.{signature_of}
use Rattle.c_check_scope.specs.Operations.{int_type, long_type}
use Rattle.c_check_scope.specs.Conversions.{converts}
use Rattle.c_check_expr.specs.declared.denoted.Denoted.{Denoted}
use Rattle.c_check_expr.specs.declared.denoted.Denoted.TheVariants as D
use Rattle.c_check_expr.specs.declared.calls.Called.{Called}
use Rattle.c_check_expr.specs.declared.calls.Called.TheVariants as C
use Rattle.c_check_expr.specs.declared.calls.Position.{Position}
use Rattle.c_check_expr.specs.declared.calls.Position.TheVariants.{Statement, RightSide}
use Rattle.c_check_expr.specs.declared.calls.Invocation.{Invocation}
use Rattle.c_check_scope.specs.declared.scope.Scope.{Scope}
use Rattle.c_check_scope.specs.declared.scope.BuiltIn.{BuiltIn as Which}
use Rattle.c_check_scope.specs.declared.scope.BuiltIn.TheVariants.{Send, Malloc, Calloc, Free, Panic}
use Rattle.c_check_scope.specs.declared.rule.Rule.TheVariants.{Callee, BuiltIn, VoidResult, Conversion}
use Rattle.c_check_scope.specs.Rules.{Checked, both, broken, only}
use Rattle.c_check_expr.specs.Denoted.{type_at, number, valued}
use Rattle.c_check_expr.specs.Typing.{denoted, typed, named}
use Rattle.c_check_expr.specs.Uses.{right_side}

-- ---- what is called

abbrev pub callee_in : TypedExpr → Option ℕ → Checked Called
callee_in e None = Err (only Callee)
callee_in e (Some g) = Ok (C.Pointer e g)

unfoldable pub pointer_callee : Parts → TypedExpr → Checked Called
pointer_callee p e = callee_in e (signature_of (type_at p e.ty))

-- a function or built-in by its name, or what a function pointer points to
unfoldable pub callee_of : Parts → Checked Denoted → Checked Called
callee_of p (Ok (D.Function f g)) = Ok (C.Function f g)
callee_of p (Ok (D.BuiltIn which)) = Ok (C.BuiltIn which)
callee_of p d = then_do (valued p d) (pointer_callee p)

abbrev pub params_in : Option Signature → List ℕ
params_in None = []
params_in (Some g) = g.params

unfoldable pub signature_params : Parts → ℕ → List ℕ
signature_params p g = params_in (slice_get p.signatures g)

abbrev pub answer_in : Option Signature → Option ℕ
answer_in None = None
answer_in (Some g) = g.result

unfoldable pub signature_answer : Parts → ℕ → Option ℕ
signature_answer p g = answer_in (slice_get p.signatures g)

-- send(int), malloc(unsigned int), calloc(long long, unsigned int), free(void *), panic(int)
unfoldable pub built_in_params : Parts → Which → List ℕ
built_in_params p Send = number p int_type ∷ []
built_in_params p Malloc = number p (T.Int K.UInt) ∷ []
built_in_params p Calloc = number p long_type ∷ number p (T.Int K.UInt) ∷ []
built_in_params p Free = number p T.VoidPointer ∷ []
built_in_params p Panic = number p int_type ∷ []

unfoldable pub params_of : Parts → Called → List ℕ
params_of p (C.Function f g) = signature_params p g
params_of p (C.Pointer e g) = signature_params p g
params_of p (C.BuiltIn which) = built_in_params p which

abbrev pub built_in_answer : Parts → Which → Option ℕ
built_in_answer p Send = Some (number p int_type)
built_in_answer p Malloc = Some (number p T.VoidPointer)
built_in_answer p Calloc = Some (number p T.VoidPointer)
built_in_answer p _ = None

-- the type of the result; none for void
unfoldable pub answer_of : Parts → Called → Option ℕ
answer_of p (C.Function f g) = signature_answer p g
answer_of p (C.Pointer e g) = signature_answer p g
answer_of p (C.BuiltIn which) = built_in_answer p which

-- ---- arguments

-- an argument for its parameter; one without a parameter is typed as a value
unfoldable pub argument : Scope → Option ℕ → Expression → Checked TypedExpr
argument scope None e = typed scope e
argument scope (Some t) e = right_side scope t e

-- that of a place, if there is one
unfoldable pub argument_at : Scope → Option ℕ → Option Expression → Checked TypedExpr
argument_at scope t None = Err (only Callee)
argument_at scope t (Some e) = argument scope t e

unfoldable pub more : Checked (List TypedExpr) → Checked TypedExpr → Checked (List TypedExpr)
more es e = then_do (both es e) (λ x. Ok (x.0 ++ (x.1 ∷ [])))

abbrev pub first_of : List ℕ → Option ℕ
first_of [] = None
first_of (t ∷ ts) = Some t

abbrev pub rest_of : List ℕ → List ℕ
rest_of [] = []
rest_of (t ∷ ts) = ts

abbrev pub gathered_after : Scope → Checked (List TypedExpr) → List Expression → List ℕ → Checked (List TypedExpr)
gathered_after scope done [] ts = done
gathered_after scope done (e ∷ es) ts =
    gathered_after scope (more done (argument scope (first_of ts) e)) es (rest_of ts)

unfoldable pub gathered : Scope → List Expression → List ℕ → Checked (List TypedExpr)
gathered scope es ts = gathered_after scope (Ok []) es ts

-- as many arguments as parameters, each for its own
unfoldable pub arguments : Scope → List Expression → List ℕ → Checked (List TypedExpr)
arguments scope es ts =
    if nat_eq (length es) (length ts) then gathered scope es ts else Err (broken (only Callee) (gathered scope es ts))

-- ---- where calls stand

-- the type in a `sizeof` form
unfoldable pub size_form : Scope → Expression → Checked ℕ
size_form scope (Size name) = named scope name
size_form scope (Paren e) = size_form scope e
size_form scope _ = Err (only BuiltIn)

abbrev pub elem_of : Scope → Option Expression → Checked (Option ℕ)
elem_of scope None = Err (only BuiltIn)
elem_of scope (Some e) = then_do (size_form scope e) (λ t. Ok (Some t))

-- an allocation stands as a right side, and its size is a `sizeof` form
unfoldable pub elem_in : Scope → Position → List Expression → ℕ → Checked (Option ℕ)
elem_in scope RightSide es k = elem_of scope (slice_get es k)
elem_in scope _ es k = Err (only BuiltIn)

unfoldable pub as_statement : Position → Checked (Option ℕ)
as_statement Statement = Ok None
as_statement _ = Err (only BuiltIn)

-- a call whose result is void is a statement
unfoldable pub not_void : Position → Option ℕ → Checked (Option ℕ)
not_void Statement t = Ok None
not_void _ (Some t) = Ok None
not_void _ None = Err (only VoidResult)

-- whether a call may stand there, with the type of the elements that it allocates, if any
unfoldable pub stands : Scope → Position → Called → List Expression → Checked (Option ℕ)
stands scope at (C.BuiltIn Malloc) es = elem_in scope at es 0
stands scope at (C.BuiltIn Calloc) es = elem_in scope at es 1
stands scope at (C.BuiltIn Free) es = as_statement at
stands scope at (C.BuiltIn Panic) es = as_statement at
stands scope at c es = not_void at (answer_of scope.types c)

-- ---- calls

unfoldable pub callee_node : Called → ℕ → Node
callee_node (C.Function f g) site = N.Function f
callee_node (C.Pointer e g) site = N.Pointer e
callee_node (C.BuiltIn Send) site = N.Send
callee_node (C.BuiltIn Malloc) site = N.Malloc site
callee_node (C.BuiltIn Calloc) site = N.Calloc site
callee_node (C.BuiltIn Free) site = N.Free
callee_node (C.BuiltIn Panic) site = N.Panic

-- without the last
abbrev pub front : {A : Type 0} → List A → List A
front [] = []
front (x ∷ []) = []
front (x ∷ (y ∷ ys)) = x ∷ front (y ∷ ys)

-- the size isn't an argument of an allocation
unfoldable pub kept : Option ℕ → List TypedExpr → List TypedExpr
kept None es = es
kept (Some t) es = front es

unfoldable pub made_call : Parts → Called → ℕ → Option ℕ → List TypedExpr → Invocation
made_call p c site elem es =
    record { call = record { callee = callee_node c site; args = kept elem es }; answer = answer_of p c; elem = elem }

abbrev pub invoked : Scope → Position → ℕ → Checked Called → List Expression → Checked Invocation
invoked scope at site (Err r) es = Err (broken r (gathered scope es []))
invoked scope at site (Ok c) es =
    then_do (both (arguments scope es (params_of scope.types c)) (stands scope at c es)) (λ x. Ok (made_call scope.types c site x.1 x.0))

-- a call in a position, or the rules that it breaks
unfoldable pub call : Scope → Position → ℕ → Expression → List Expression → Checked Invocation
call scope at site callee es = invoked scope at site (callee_of scope.types (denoted scope callee)) es

abbrev pub given_call : Parts → ℕ → Invocation → Option ℕ → Checked Invocation
given_call p t made None = Err (only VoidResult)
given_call p t made (Some answer) =
    if converts (record { ty = type_at p answer; is_null = false }) (type_at p t) then Ok made else Err (only Conversion)

-- a call as a right side or return value, whose result converts to a type
unfoldable pub call_value : Parts → ℕ → Invocation → Checked Invocation
call_value p t made = given_call p t made made.answer
