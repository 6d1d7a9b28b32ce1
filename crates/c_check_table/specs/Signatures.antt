-- The signatures that a text writes, each once, along the text, with the types of pointers to their functions.
use Rattle.std.specs.Prelude.{ℕ, List, [], ◌∷◌, ◌++◌, length, position, Option, Some, None, Ok, Err}
use Rattle.c_types.specs.declared.parts.Ty.TheVariants as T
use Rattle.c_types.specs.declared.parts.Signature.{Signature}
use Rattle.c_ast.specs.declared.types.TypeName.{TypeName}
use Rattle.c_ast.specs.Trees.{Parameter, Plain, Function, Parameters, NoParameter, Also, Statement, Block, Empty, Local, Assign, Call, If, IfElse, While, For, Break, Continue, Return, Statements, Done, Then, Object, Data, Pointer, Declaration, Record, Global, Prototype, Definition}
use Rattle.c_check_scope.specs.declared.scope.Scope.{Scope}
use Rattle.c_check_scope.specs.Rules.{Checked}
use Rattle.c_check_expr.specs.Declarators.{same_signature, result_type, param_type, one_more, made_signature}
use Rattle.c_check_table.specs.declared.draft.Draft.{Draft}
use Rattle.c_check_table.specs.Drafts.{place_of, pointer_shape, with_stars}

-- ---- one signature: what it adds, and the number of the type of pointers to its functions

abbrev pub next_signature : Draft → Signature → ℕ → Draft × ℕ
next_signature d g n =
    (with_stars (record d { signatures = d.signatures ++ (g ∷ []) }) 9 (T.Function n) (pointer_shape d), place_of d.types (T.Function n))

abbrev pub signed_at : Draft → Signature → Option ℕ → Draft × ℕ
signed_at d g (Some n) = (d, place_of d.types (T.Function n))
signed_at d g None = next_signature d g (length d.signatures)

unfoldable pub signed : Draft → Signature → Draft × ℕ
signed d g = signed_at d g (position (same_signature g) d.signatures)

-- one that breaks a rule adds nothing
unfoldable pub pointer_in : Draft → Checked Signature → Draft × Checked ℕ
pointer_in d (Err r) = (d, Err r)
pointer_in d (Ok g) = ((signed d g).0, Ok (signed d g).1)

-- ---- parameters, locals and headings: what they add, and what they denote

abbrev pub heading_of : Scope → TypeName → Draft × Checked (List ℕ) → Draft × Checked ℕ
heading_of scope t r = pointer_in r.0 (made_signature (result_type scope t) r.1)

abbrev mutual
  pub parameter_in : Scope → Draft → Parameter → Draft × Checked ℕ
  parameter_in scope d (Plain t x) = (d, param_type scope (Plain t x))
  parameter_in scope d (Function t x ps) = heading_of scope t (parameters_in scope d (Ok []) ps)

  -- behind others
  pub parameters_in : Scope → Draft → Checked (List ℕ) → Parameters → Draft × Checked (List ℕ)
  parameters_in scope d done NoParameter = (d, done)
  parameters_in scope d done (Also p ps) =
      parameters_in scope (parameter_in scope d p).0 (one_more done (parameter_in scope d p).1) ps

abbrev pub heading_in : Scope → Draft → TypeName → Parameters → Draft × Checked ℕ
heading_in scope d t ps = heading_of scope t (parameters_in scope d (Ok []) ps)

-- ---- along a text: what it adds

abbrev mutual
  pub in_statement : Scope → Draft → Statement → Draft
  in_statement scope d (Block ss) = in_statements scope d ss
  in_statement scope d Empty = d
  in_statement scope d (Local p r) = (parameter_in scope d p).0
  in_statement scope d (Assign e r) = d
  in_statement scope d (Call f es) = d
  in_statement scope d (If c a) = in_statement scope d a
  in_statement scope d (IfElse c a b) = in_statement scope (in_statement scope d a) b
  in_statement scope d (While c a) = in_statement scope d a
  in_statement scope d (For i c n a) = in_statement scope d a
  in_statement scope d Break = d
  in_statement scope d Continue = d
  in_statement scope d (Return r) = d

  pub in_statements : Scope → Draft → Statements → Draft
  in_statements scope d Done = d
  in_statements scope d (Then s ss) = in_statements scope (in_statement scope d s) ss

abbrev pub in_object : Scope → Draft → Object → Draft
in_object scope d (Data t x n) = d
in_object scope d (Pointer t x n ps) = (heading_in scope d t ps).0

abbrev pub in_objects : Scope → Draft → List Object → Draft
in_objects scope d [] = d
in_objects scope d (o ∷ os) = in_objects scope (in_object scope d o) os

unfoldable pub in_declaration : Scope → Draft → Declaration → Draft
in_declaration scope d (Record kind x os) = in_objects scope d os
in_declaration scope d (Global o i) = in_object scope d o
in_declaration scope d (Prototype t x ps) = (heading_in scope d t ps).0
in_declaration scope d (Definition t x ps ss) = in_statements scope (heading_in scope d t ps).0 ss

-- all signatures of a text
abbrev pub in_text : Scope → Draft → List Declaration → Draft
in_text scope d [] = d
in_text scope d (x ∷ xs) = in_text scope (in_declaration scope d x) xs
