-- Reading parameters from left to right: what each function of src/ gives.
use Rattle.std.specs.Prelude.{ℕ, zero, suc, Bool, true, false, ◌&&◌, nat_eq, List, Option, Some, None}
use Rattle.c_ast.specs.declared.token.Token.{Token}
use Rattle.c_ast.specs.declared.token.Mark.TheVariants as m
use Rattle.c_ast.specs.declared.types.BaseType.{BaseType}
use Rattle.c_ast.specs.declared.types.BaseType.TheVariants as base
use Rattle.c_ast.specs.declared.types.TypeName.{TypeName}
use Rattle.c_ast.specs.Trees.{Text, Parameter, Plain, Function, Parameters, parameters_of}
use Rattle.c_parse_expr.specs.Reads.{Reader, build, ◌⊳◌, then_by, choose, unless, at_limit, some_of, list_if_any}
use Rattle.c_parse_expr.specs.Reading.{sees, expect, name, type_name, begins_type}

-- a name, and parameters where it names a pointer to a function
abbrev pub Declarator : Type 0
Declarator = Text × Option Parameters

unfoldable pub plain_declarator : Reader Declarator
plain_declarator = build (λ x. (x, None)) name

unfoldable pub function_declarator : Reader Parameters → Reader Declarator
function_declarator params = build (λ p. (p.1.1.0, Some p.1.1.1.1.1.0)) (expect m.LeftParen ⊳ (expect m.Star ⊳ (name ⊳ (expect m.RightParen ⊳ (expect m.LeftParen ⊳ (params ⊳ expect m.RightParen))))))

unfoldable pub declarator : Reader Parameters → Reader Declarator
declarator params = choose (sees m.LeftParen) (function_declarator params) plain_declarator

abbrev pub parameter_by : TypeName → Declarator → Parameter
parameter_by t (x, None) = Plain t x
parameter_by t (x, Some ps) = Function t x ps

unfoldable pub param : Reader Parameters → Reader Parameter
param params = build (λ p. parameter_by p.0 p.1) (type_name ⊳ declarator params)

unfoldable pub next_param : Reader Parameters → Reader Parameter
next_param params = build (λ p. p.1) (expect m.Comma ⊳ param params)

abbrev pub is_void_base : BaseType → Bool
is_void_base base.Void = true
is_void_base _ = false

abbrev pub is_void : TypeName → Bool
is_void t = is_void_base t.base && nat_eq t.stars 0

-- `void` as the whole of a list of parameters
abbrev pub alone : TypeName → List Token → Bool
alone t ts = is_void t && sees m.RightParen ts

-- the first parameter, whose type was read
unfoldable pub first_param : Reader Parameters → TypeName → Reader Parameter
first_param params t = build (parameter_by t) (declarator params)

unfoldable pub some_params : Reader Parameters → TypeName → Reader (List Parameter)
some_params params t = some_of (first_param params t) (sees m.Comma) (next_param params)

unfoldable pub params_after : Reader Parameters → TypeName → Reader (List Parameter)
params_after params t = build list_if_any (unless (alone t) (some_params params t))

unfoldable pub params_by : Reader Parameters → Reader Parameters
params_by params = build (λ p. parameters_of p.1) (then_by type_name (params_after params))

unfoldable pub params : ℕ → Reader Parameters
params zero ts = at_limit begins_type ts
params (suc room) ts = params_by (params room) ts
