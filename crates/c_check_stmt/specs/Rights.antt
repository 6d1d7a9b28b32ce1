-- Calls and right sides in the body of a function, with the sites at which they allocate.
use Rattle.std.specs.Prelude.{ℕ, ◌+◌, List, [], ◌∷◌, ◌++◌, length, Option, Some, None, Ok, Err}
use Rattle.lu_spec.specs.Then.{then_do}
use Rattle.c_types.specs.declared.parts.Parts.{Parts}
use Rattle.c_ast.specs.Trees.{Expression, Right, Invoke, Value}
use Rattle.src_tree.specs.declared.stmt.Rhs.{Rhs}
use Rattle.src_tree.specs.declared.stmt.Rhs.TheVariants as R
use Rattle.c_check_scope.specs.declared.scope.Scope.{Scope}
use Rattle.c_check_expr.specs.declared.calls.Position.{Position}
use Rattle.c_check_expr.specs.declared.calls.Invocation.{Invocation}
use Rattle.c_check_scope.specs.Rules.{Checked, broken}
use Rattle.c_check_expr.specs.Typing.{typed}
use Rattle.c_check_expr.specs.Uses.{right_side}
use Rattle.c_check_expr.specs.Calls.{call, call_value}
use Rattle.c_check_stmt.specs.declared.state.State.{State}
use Rattle.c_check_stmt.specs.declared.state.Frame.{Frame}

-- the number of the site of the next allocation
unfoldable pub next_site : Frame → State → ℕ
next_site f s = f.first_site + length s.sites

unfoldable pub invoked : Frame → State → Position → Expression → List Expression → Checked Invocation
invoked f s at callee es = call s.scope at (next_site f s) callee es

abbrev pub and_elem : List ℕ → Option ℕ → List ℕ
and_elem sites None = sites
and_elem sites (Some t) = sites ++ (t ∷ [])

-- an allocation is one more site; a call that breaks a rule is none
unfoldable pub and_site : List ℕ → Checked Invocation → List ℕ
and_site sites (Err r) = sites
and_site sites (Ok made) = and_elem sites made.elem

abbrev pub after_call : Frame → State → Position → Expression → List Expression → State
after_call f s at callee es = record s { sites = and_site s.sites (invoked f s at callee es) }

-- ---- right sides

-- a value for a type; where that type breaks a rule, the value is judged alone
unfoldable pub value_for : Scope → Checked ℕ → Expression → Checked Rhs
value_for scope (Ok t) e = then_do (right_side scope t e) (λ v. Ok (R.Value v))
value_for scope (Err r) e = Err (broken r (typed scope e))

-- the result of a call, likewise
unfoldable pub result_for : Parts → Checked ℕ → Checked Invocation → Checked Rhs
result_for p (Ok t) made = then_do (then_do made (call_value p t)) (λ m. Ok (R.Call m.call t))
result_for p (Err r) made = Err (broken r made)

-- a right side for a type
unfoldable pub right_for : Frame → State → Position → Checked ℕ → Right → Checked Rhs
right_for f s at ty (Value e) = value_for s.scope ty e
right_for f s at ty (Invoke callee es) = result_for s.scope.types ty (invoked f s at callee es)

unfoldable pub right_sites : Frame → State → Position → Right → List ℕ
right_sites f s at (Value e) = s.sites
right_sites f s at (Invoke callee es) = and_site s.sites (invoked f s at callee es)

abbrev pub after_right : Frame → State → Position → Right → State
after_right f s at r = record s { sites = right_sites f s at r }

-- a right side, if there is one
unfoldable pub right_if_any_for : Frame → State → Position → Checked ℕ → Option Right → Checked (Option Rhs)
right_if_any_for f s at ty None = then_do ty (λ t. Ok None)
right_if_any_for f s at ty (Some r) = then_do (right_for f s at ty r) (λ v. Ok (Some v))

unfoldable pub sites_if_any : Frame → State → Position → Option Right → List ℕ
sites_if_any f s at None = s.sites
sites_if_any f s at (Some r) = right_sites f s at r

abbrev pub after_if_any : Frame → State → Position → Option Right → State
after_if_any f s at r = record s { sites = sites_if_any f s at r }
