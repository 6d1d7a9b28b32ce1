-- What declarators denote in a scope: the number of a type, or the rules that they break.
use Rattle.std.specs.Prelude.{ℕ, zero, nat_lt, Bool, ◌&&◌, List, [], ◌∷◌, ◌++◌, length, Option, Some, None, Ok, Err, position, if◌then◌else◌}
use Rattle.std.specs.Option.{option_map_or}
use Rattle.lu_spec.specs.Then.{then_do}
use Rattle.c_types.specs.declared.parts.Ty.TheVariants as T
use Rattle.c_types.specs.declared.parts.Parts.{Parts}
use Rattle.c_types.specs.declared.parts.Signature.{Signature}
use Rattle.c_ast.specs.declared.token.Number.{Number}
use Rattle.c_ast.specs.declared.types.BaseType.{BaseType}
use Rattle.c_ast.specs.declared.types.BaseType.TheVariants as B
use Rattle.c_ast.specs.declared.types.TypeName.{TypeName}
use Rattle.c_ast.specs.Trees.{Parameter, Plain, Function, Parameters, NoParameter, Also, Object, Data, Pointer}
use Rattle.src_tree.specs.Signatures.{same_result, same_numbers}
use Rattle.c_check_scope.specs.Kinds.{is_scalar}
use Rattle.c_check_scope.specs.declared.scope.Scope.{Scope}
use Rattle.c_check_scope.specs.declared.rule.Rule.TheVariants.{ArrayLength, NotScalar, TooManyLocals}
use Rattle.c_check_scope.specs.Rules.{Checked, both, only}
use Rattle.c_check_expr.specs.Denoted.{type_at, number}
use Rattle.c_check_expr.specs.Typing.{named}
use Rattle.c_check_expr.specs.declared.objects.ObjectType.{ObjectType}

-- ---- function pointers

abbrev pub same_signature : Signature → Signature → Bool
same_signature a b = same_result a.result b.result && same_numbers a.params b.params

-- the place of a signature in the table; 0 where the table doesn't have it
unfoldable pub signature_number : Parts → Signature → ℕ
signature_number p g = option_map_or (λ k. k) (position (same_signature g) p.signatures) 0

unfoldable pub pointer_type : Parts → Checked Signature → Checked ℕ
pointer_type p g = then_do g (λ s. Ok (number p (T.Function (signature_number p s))))

-- ---- results, parameters and locals

-- only a scalar may stand there
unfoldable pub scalar_type : Parts → Checked ℕ → Checked ℕ
scalar_type p ty = then_do ty (λ t. if is_scalar (type_at p t) then Ok t else Err (only NotScalar))

-- `void` without a star is no type of a value
abbrev pub result_of : Scope → TypeName → BaseType → ℕ → Checked (Option ℕ)
result_of scope name B.Void zero = Ok None
result_of scope name _ _ = then_do (scalar_type scope.types (named scope name)) (λ t. Ok (Some t))

-- the type of a result; none for void
unfoldable pub result_type : Scope → TypeName → Checked (Option ℕ)
result_type scope name = result_of scope name name.base name.stars

unfoldable pub one_more : Checked (List ℕ) → Checked ℕ → Checked (List ℕ)
one_more ts t = then_do (both ts t) (λ x. Ok (x.0 ++ (x.1 ∷ [])))

-- at most 64 parameters
unfoldable pub few : Checked (List ℕ) → Checked (List ℕ)
few ts = then_do ts (λ l. if nat_lt 64 (length l) then Err (only TooManyLocals) else Ok l)

unfoldable pub made_signature : Checked (Option ℕ) → Checked (List ℕ) → Checked Signature
made_signature answer ts =
    then_do (both answer (few ts)) (λ x. Ok (record { result = x.0; params = x.1 }))

abbrev mutual
  -- the type of a parameter or local
  pub param_type : Scope → Parameter → Checked ℕ
  param_type scope (Plain t x) = scalar_type scope.types (named scope t)
  param_type scope (Function t x ps) =
      pointer_type scope.types (made_signature (result_type scope t) (param_types scope (Ok []) ps))

  -- those of parameters, behind others
  pub param_types : Scope → Checked (List ℕ) → Parameters → Checked (List ℕ)
  param_types scope done NoParameter = done
  param_types scope done (Also p ps) = param_types scope (one_more done (param_type scope p)) ps

-- the types of a result and of parameters
abbrev pub signature : Scope → TypeName → Parameters → Checked Signature
signature scope t ps = made_signature (result_type scope t) (param_types scope (Ok []) ps)

-- ---- fields and globals

-- 1 to 1,048,576 elements
unfoldable pub array_length : Number → Checked ℕ
array_length n = if nat_lt 0 n.value && nat_lt n.value 1048577 then Ok n.value else Err (only ArrayLength)

-- an array where a length stands there
unfoldable pub with_length : Checked ℕ → Option Number → Checked ObjectType
with_length ty None = then_do ty (λ t. Ok (record { element = t; count = None }))
with_length ty (Some n) =
    then_do (both ty (array_length n)) (λ x. Ok (record { element = x.0; count = Some x.1 }))

-- the type of a field or global
unfoldable pub object_type : Scope → Object → Checked ObjectType
object_type scope (Data t x n) = with_length (named scope t) n
object_type scope (Pointer t x n ps) = with_length (pointer_type scope.types (signature scope t ps)) n

abbrev pub counted : Parts → ℕ → Option ℕ → ℕ
counted p t None = t
counted p t (Some n) = number p (T.Array t n)

-- its number in the table
unfoldable pub object_number : Parts → ObjectType → ℕ
object_number p ty = counted p ty.element ty.count
