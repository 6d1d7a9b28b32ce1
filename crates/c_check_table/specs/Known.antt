-- Whether a table of types has the signatures that a text writes.
use Rattle.std.specs.Prelude.{Bool, true, ◌&&◌, List, [], ◌∷◌, Ok, Err}
use Rattle.std.specs.List.{list_any}
use Rattle.c_types.specs.declared.parts.Parts.{Parts}
use Rattle.c_types.specs.declared.parts.Signature.{Signature}
use Rattle.c_ast.specs.declared.types.TypeName.{TypeName}
use Rattle.c_ast.specs.Trees.{Parameter, Plain, Function, Parameters, NoParameter, Also, Statement, Block, Empty, Local, Assign, Call, If, IfElse, While, For, Break, Continue, Return, Statements, Done, Then, Object, Data, Pointer, Declaration, Record, Global, Prototype, Definition}
use Rattle.c_check_scope.specs.declared.scope.Scope.{Scope}
use Rattle.c_check_scope.specs.Rules.{Checked}
use Rattle.c_check_expr.specs.Declarators.{same_signature, signature}

-- one that breaks a rule isn't asked for
unfoldable pub has_signature : Parts → Checked Signature → Bool
has_signature p (Err r) = true
has_signature p (Ok g) = list_any (same_signature g) p.signatures

abbrev mutual
  -- the signatures in the type of a parameter or local
  pub knows_parameter : Scope → Parameter → Bool
  knows_parameter scope (Plain t x) = true
  knows_parameter scope (Function t x ps) = has_signature scope.types (signature scope t ps) && knows_parameters scope ps

  pub knows_parameters : Scope → Parameters → Bool
  knows_parameters scope NoParameter = true
  knows_parameters scope (Also p ps) = knows_parameter scope p && knows_parameters scope ps

-- the signature of a function, and those in its parameters
abbrev pub knows_heading : Scope → TypeName → Parameters → Bool
knows_heading scope t ps = has_signature scope.types (signature scope t ps) && knows_parameters scope ps

abbrev mutual
  -- those of the locals that a statement declares
  pub knows_statement : Scope → Statement → Bool
  knows_statement scope (Block ss) = knows_statements scope ss
  knows_statement scope Empty = true
  knows_statement scope (Local p r) = knows_parameter scope p
  knows_statement scope (Assign e r) = true
  knows_statement scope (Call f es) = true
  knows_statement scope (If c a) = knows_statement scope a
  knows_statement scope (IfElse c a b) = knows_statement scope a && knows_statement scope b
  knows_statement scope (While c a) = knows_statement scope a
  knows_statement scope (For i c n a) = knows_statement scope a
  knows_statement scope Break = true
  knows_statement scope Continue = true
  knows_statement scope (Return r) = true

  pub knows_statements : Scope → Statements → Bool
  knows_statements scope Done = true
  knows_statements scope (Then s ss) = knows_statement scope s && knows_statements scope ss

-- those of a field or global
unfoldable pub knows_object : Scope → Object → Bool
knows_object scope (Data t x n) = true
knows_object scope (Pointer t x n ps) = knows_heading scope t ps

abbrev pub knows_objects : Scope → List Object → Bool
knows_objects scope [] = true
knows_objects scope (o ∷ os) = knows_object scope o && knows_objects scope os

unfoldable pub knows_declaration : Scope → Declaration → Bool
knows_declaration scope (Record kind x os) = knows_objects scope os
knows_declaration scope (Global o i) = knows_object scope o
knows_declaration scope (Prototype t x ps) = knows_heading scope t ps
knows_declaration scope (Definition t x ps ss) = knows_heading scope t ps && knows_statements scope ss

-- all signatures that a text writes
abbrev pub knows_declarations : Scope → List Declaration → Bool
knows_declarations scope [] = true
knows_declarations scope (d ∷ ds) = knows_declaration scope d && knows_declarations scope ds
