-- A prototype or definition of a text: what stands after it, or the rules that it breaks.
use Rattle.std.specs.Prelude.{ℕ, ◌+◌, nat_lt, Bool, true, false, List, length, Option, Some, None, Ok, Err, slice_get, if◌then◌else◌}
use Rattle.lu_spec.specs.Then.{then_do}
use Rattle.c_types.specs.declared.parts.Signature.{Signature}
use Rattle.c_ast.specs.declared.types.TypeName.{TypeName}
use Rattle.c_ast.specs.Trees.{Text, Parameters, Statements, Done, Declaration}
use Rattle.c_check_scope.specs.declared.scope.Scope.{Scope}
use Rattle.c_check_scope.specs.declared.scope.Meaning.{Meaning}
use Rattle.c_check_scope.specs.declared.scope.Meaning.TheVariants as M
use Rattle.c_check_scope.specs.declared.rule.Rule.TheVariants.{NameTaken, TooMany}
use Rattle.c_check_scope.specs.Rules.{Checked, both, only}
use Rattle.c_check_scope.specs.Names.{global_of}
use Rattle.c_check_expr.specs.Declarators.{signature, signature_number}
use Rattle.c_check_decl.specs.Records.{name_number}
use Rattle.c_check_stmt.specs.declared.bodies.Body.{Body}
use Rattle.c_check_stmt.specs.Variables.{bare}
use Rattle.c_check_stmt.specs.Bodies.{body}
use Rattle.c_check.specs.declared.standing.Standing.{Standing}
use Rattle.c_check.specs.declared.standing.Functions.{Functions}
use Rattle.c_check.specs.declared.definitions.Entry.{Entry}
use Rattle.c_check.specs.Headings.{free_name, next_of, greatest_count, is_defined, result_if_any}
use Rattle.c_check.specs.Standings.{meaning_in, with_prototype, with_body}

-- the scope in function f, whose name has that number: it is declared in its own body, unless its heading breaks a rule
abbrev pub inside_of : Scope → ℕ → ℕ → Checked Signature → Scope
inside_of scope name f (Ok g) = meaning_in scope name (M.Function f (signature_number scope.types g))
inside_of scope name f (Err r) = scope

-- behind a function it stays declared, and its parameters and locals don't
abbrev pub entered_at : Standing → ℕ → ℕ → Checked Signature → Standing
entered_at s name f g = record s { scope = bare (inside_of s.scope name f g) }

abbrev pub entry_of : Standing → TypeName → Text → ℕ → ℕ → Entry
entry_of s t x f first =
    record { name = name_number s.scope x; function = f; answer = result_if_any s.scope t; first_site = first }

-- what the entry to a function shows of its body
abbrev pub body_at : Standing → Entry → Checked Signature → Parameters → Statements → Checked Body
body_at s e g ps ss = body (inside_of s.scope e.name e.function g) e.answer e.first_site ps ss

-- The rules on a prototype's parameters are those on a function's without statements
abbrev pub prototype_made : Standing → Checked ((ℕ × ℕ) × (Signature × (Bool × Body))) → Checked Standing
prototype_made s judged = then_do judged (λ v. Ok (with_prototype s v.0.0 v.1.0))

unfoldable pub judged_prototype : Checked (ℕ × ℕ) → Checked Signature → Checked Bool → Checked Body → Checked ((ℕ × ℕ) × (Signature × (Bool × Body)))
judged_prototype free g defined params = both free (both g (both defined params))

abbrev pub prototype_behind : Standing → Checked (ℕ × ℕ) → Checked Signature → Checked Bool → Checked Body → Checked Standing
prototype_behind s free g defined params = prototype_made s (judged_prototype free g defined params)

-- a prototype with this entry and heading
abbrev pub prototype_in : Standing → Checked (ℕ × ℕ) → Checked Bool → Entry → Checked Signature → Parameters → Checked Standing
prototype_in s free defined e g ps =
    prototype_behind (entered_at s e.name e.function g) free g defined (body_at s e g ps Done)

-- a prototype with this heading
abbrev pub prototype_headed : List Declaration → Functions → Standing → TypeName → Text → Checked Signature → Parameters → Checked Standing
prototype_headed text functions s t x g ps =
    prototype_in s (both (free_name s.scope x) (next_of (length s.functions))) (is_defined s.scope text functions.definitions x g) (entry_of s t x (length s.functions) 0) g ps

abbrev pub declared_prototype : List Declaration → Functions → Standing → TypeName → Text → Parameters → Checked Standing
declared_prototype text functions s t x ps = prototype_headed text functions s t x (signature s.scope t ps) ps

abbrev pub undefined_as : Bool → ℕ → Checked ℕ
undefined_as true f = Err (only NameTaken)
undefined_as false f = Ok f

abbrev pub defined_at : Standing → ℕ → Option Bool → Checked ℕ
defined_at s f None = Err (only NameTaken)
defined_at s f (Some defined) = undefined_as defined f

abbrev pub definable_as : Standing → Option Meaning → Checked ℕ
definable_as s None = next_of (length s.functions)
definable_as s (Some (M.Function f g)) = defined_at s f (slice_get s.defined f)
definable_as s (Some _) = Err (only NameTaken)

-- the number of a function that may be defined: one more, or one that has a prototype so far
unfoldable pub definable : Standing → Text → Checked ℕ
definable s x = definable_as s (global_of s.scope x)

-- the number that a function has in its body, whether or not it may be defined
abbrev pub number_in : Standing → Option Meaning → ℕ
number_in s (Some (M.Function f g)) = f
number_in s _ = length s.functions

unfoldable pub own_number : Standing → Text → ℕ
own_number s x = number_in s (global_of s.scope x)

-- at most 4,096 sites with those of one more function
unfoldable pub few_sites : ℕ → Checked Body → Checked Body
few_sites n b = then_do b (λ b. if nat_lt greatest_count (n + length b.sites) then Err (only TooMany) else Ok b)

abbrev pub is_numbered : Standing → ℕ → Bool
is_numbered s f = nat_lt f (length s.functions)

abbrev pub numbered_if : Bool → Standing → ℕ → Signature → Standing
numbered_if true s name g = s
numbered_if false s name g = with_prototype s name g

-- a function is numbered at its first declaration
abbrev pub numbered : Standing → ℕ → ℕ → Signature → Standing
numbered s f name g = numbered_if (is_numbered s f) s name g

abbrev pub definition : Standing → ℕ → ℕ → Signature → Body → Standing
definition s f name g b = with_body (numbered s f name g) f name g b

abbrev pub definition_made : Standing → ℕ → Checked (ℕ × (Signature × Body)) → Checked Standing
definition_made s name judged = then_do judged (λ v. Ok (definition s v.0 name v.1.0 v.1.1))

abbrev pub definition_behind : Standing → ℕ → Checked ℕ → Checked Signature → Checked Body → Checked Standing
definition_behind s name f g b = definition_made s name (both f (both g b))

-- a definition with this entry and heading, of a function that may be defined
abbrev pub definition_in : Standing → Checked ℕ → Entry → Checked Signature → Parameters → Statements → Checked Standing
definition_in s f e g ps ss =
    definition_behind (entered_at s e.name e.function g) e.name f g (few_sites e.first_site (body_at s e g ps ss))

-- a definition with this heading
abbrev pub definition_headed : Standing → TypeName → Text → Checked Signature → Parameters → Statements → Checked Standing
definition_headed s t x g ps ss =
    definition_in s (definable s x) (entry_of s t x (own_number s x) (length s.sites)) g ps ss

abbrev pub declared_definition : Standing → TypeName → Text → Parameters → Statements → Checked Standing
declared_definition s t x ps ss = definition_headed s t x (signature s.scope t ps) ps ss
