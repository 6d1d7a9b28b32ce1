-- Globals as they are declared: their types and initialisers, or the rules that they break.
use Rattle.std.specs.Prelude.{ℕ, ◌+◌, nat_eq, Bool, false, ◌&&◌, ◌||◌, not, List, [], ◌∷◌, ◌++◌, length, Option, Some, None, is_some, Ok, Err, slice_get, if◌then◌else◌}
use Rattle.lu_spec.specs.Then.{then_option, then_do}
use Rattle.c_types.specs.declared.parts.Ty.{Ty}
use Rattle.c_types.specs.declared.parts.Ty.TheVariants as T
use Rattle.c_types.specs.declared.parts.Parts.{Parts}
use Rattle.c_types.specs.Layout.{shape_of}
use Rattle.c_ast.specs.Trees.{Text, Expression, Num, Char, Var, Paren, Size, At, Part, Prefix, Convert, Op, Cond, Object, Initializer, Single, Bytes, Braces, Initializers, NoMore, Next}
use Rattle.src_tree.specs.declared.expr.TypedExpr.{TypedExpr}
use Rattle.src_tree.specs.declared.program.Init.{Init, Zero, One, Text as Text_init, List as Listed}
use Rattle.src_tree.specs.declared.program.Program.{Program}
use Rattle.src_meaning.specs.Constant.{is_address_constant, constant_value, if_ok}
use Rattle.src_meaning.specs.Initial.{initial_scope}
use Rattle.src_meaning.specs.ValidInitialiser.{takes_bytes, item_type}
use Rattle.c_check_scope.specs.declared.scope.Scope.{Scope}
use Rattle.c_check_scope.specs.declared.rule.Rule.TheVariants.{Undeclared, Initialiser}
use Rattle.c_check_scope.specs.Rules.{Rules, Checked, both, broken, only, union}
use Rattle.c_check_scope.specs.Names.{number_named, flat, meaning_of}
use Rattle.c_check_expr.specs.Denoted.{type_at}
use Rattle.c_check_expr.specs.Typing.{typed}
use Rattle.c_check_expr.specs.Uses.{right_side}
use Rattle.c_check_expr.specs.declared.objects.ObjectType.{ObjectType}
use Rattle.c_check_expr.specs.Declarators.{object_number}
use Rattle.c_check_decl.specs.Records.{object_size, small_type}
use Rattle.c_check_decl.specs.declared.globals.DeclaredGlobal.{DeclaredGlobal}

-- ---- constants

-- a program of these types alone, in which integer constants have their values
abbrev pub types_alone : Parts → Program
types_alone p = record { names = []; types = p; globals = []; functions = []; sites = [] }

-- `&` of a global, a global array as a pointer, a function's name, the literal 0 as a pointer, or an expression of
-- integers that doesn't trap
unfoldable pub is_start_value : Program → TypedExpr → Bool
is_start_value types e =
    is_address_constant e.kind || is_some (if_ok (constant_value (initial_scope types) e))

-- ---- functions that are declared only later

-- the signature of a function of the whole text, by the numbers of names
unfoldable pub signature_of : Scope → List (Option ℕ) → Text → Option ℕ
signature_of scope functions x = then_option (number_named scope.names x) (λ k. flat (slice_get functions k))

abbrev pub points_to : Ty → Option ℕ → Bool
points_to (T.Function g) (Some h) = nat_eq g h
points_to _ _ = false

unfoldable pub waits : Scope → List (Option ℕ) → Ty → Text → Bool
waits scope functions ty x = not (is_some (meaning_of scope x)) && points_to ty (signature_of scope functions x)

-- the name of a function of the type to which a pointer points, declared only later
unfoldable pub is_later : Scope → List (Option ℕ) → Ty → Expression → Bool
is_later scope functions ty (Var x) = waits scope functions ty x
is_later scope functions ty (Paren e) = is_later scope functions ty e
is_later scope functions ty (Num n) = false
is_later scope functions ty (Char c) = false
is_later scope functions ty (Size name) = false
is_later scope functions ty (At b i) = false
is_later scope functions ty (Part b a x) = false
is_later scope functions ty (Prefix op e) = false
is_later scope functions ty (Convert name e) = false
is_later scope functions ty (Op op a b) = false
is_later scope functions ty (Cond c a b) = false

-- ---- initialisers of scalars and of strings

unfoldable pub settled : Program → Checked TypedExpr → Checked Init
settled types (Ok e) = if is_start_value types e then Ok (One e) else Err (only Initialiser)
settled types (Err r) = Err (union (only Initialiser) r)

-- an expression, as a right side for the type; what names a function too early fits, but isn't declared
unfoldable pub single : Scope → List (Option ℕ) → ℕ → Expression → Checked Init
single scope functions t e =
    if is_later scope functions (type_at scope.types t) e then Err (only Undeclared) else settled (types_alone scope.types) (right_side scope t e)

-- a string, for an array of chars that is long enough
unfoldable pub text : Parts → ℕ → Text → Checked Init
text p t b = if takes_bytes p (slice_get p.types t) (length b) then Ok (Text_init b) else Err (only Initialiser)

-- ---- initialisers

abbrev mutual
  -- broken rules with those that the expressions of an initialiser break by themselves
  pub unfit : Scope → Rules → Initializer → Rules
  unfit scope r (Single e) = broken r (typed scope e)
  unfit scope r (Bytes b) = r
  unfit scope r (Braces is comma) = unfit_all scope r is

  pub unfit_all : Scope → Rules → Initializers → Rules
  unfit_all scope r NoMore = r
  unfit_all scope r (Next i is) = unfit_all scope (unfit scope r i) is

unfoldable pub one_more : Checked (List Init) → Checked Init → Checked (List Init)
one_more done i = then_do (both done i) (λ x. Ok (x.0 ++ (x.1 ∷ [])))

-- between braces stands at least one item
unfoldable pub braced : Checked (List Init) → Checked Init
braced (Ok []) = Err (only Initialiser)
braced (Ok (i ∷ is)) = Ok (Listed (i ∷ is))
braced (Err r) = Err r

abbrev mutual
  -- an initialiser of a type; where there is none, nothing fits
  pub start : Scope → List (Option ℕ) → Option ℕ → Initializer → Checked Init
  start scope functions None i = Err (unfit scope (only Initialiser) i)
  start scope functions (Some t) (Single e) = single scope functions t e
  start scope functions (Some t) (Bytes b) = text scope.types t b
  start scope functions (Some t) (Braces is comma) = braced (starts scope functions t 0 (Ok []) is)

  -- those of the elements of an array or the fields of a struct from number k on, behind others
  pub starts : Scope → List (Option ℕ) → ℕ → ℕ → Checked (List Init) → Initializers → Checked (List Init)
  starts scope functions t k done NoMore = done
  starts scope functions t k done (Next i is) =
      starts scope functions t (k + 1) (one_more done (start scope functions (item_type scope.types t k) i)) is

-- ---- globals

-- zero where there is no initialiser
abbrev pub started : Scope → List (Option ℕ) → ℕ → Option Initializer → Checked Init
started scope functions t None = Ok Zero
started scope functions t (Some i) = start scope functions (Some t) i

abbrev pub unfit_if_any : Scope → Rules → Option Initializer → Rules
unfit_if_any scope r None = r
unfit_if_any scope r (Some i) = unfit scope r i

unfoldable pub declared_global : Parts → ObjectType → Init → DeclaredGlobal
declared_global p ty init = record { ty = object_number p ty; size = object_size (shape_of p) ty; init = init }

unfoldable pub typed_global : Scope → List (Option ℕ) → Checked ObjectType → Option Initializer → Checked DeclaredGlobal
typed_global scope functions (Err r) i = Err (unfit_if_any scope r i)
typed_global scope functions (Ok ty) i =
    then_do (started scope functions (object_number scope.types ty) i) (λ init. Ok (declared_global scope.types ty init))

-- a global with its type, size and initialiser, or the rules that it breaks; `functions` has the signatures of
-- all functions of the text, by the numbers of their names
unfoldable pub global : Scope → List (Option ℕ) → Object → Option Initializer → Checked DeclaredGlobal
global scope functions o i = typed_global scope functions (small_type scope o) i
