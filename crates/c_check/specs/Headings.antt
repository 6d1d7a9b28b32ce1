-- Names and headings of functions, as declarations ask for them.
use Rattle.std.specs.Prelude.{ℕ, nat_lt, Bool, true, false, List, map, Option, Some, None, Ok, Err, slice_get, if◌then◌else◌}
use Rattle.lu_spec.specs.Then.{then_option}
use Rattle.c_types.specs.declared.parts.Parts.{Parts}
use Rattle.c_types.specs.declared.parts.Signature.{Signature}
use Rattle.c_ast.specs.declared.types.TypeName.{TypeName}
use Rattle.c_ast.specs.Trees.{Text, Declaration, Prototype, Definition}
use Rattle.c_check_scope.specs.declared.scope.Scope.{Scope}
use Rattle.c_check_scope.specs.declared.scope.Meaning.{Meaning}
use Rattle.c_check_scope.specs.declared.rule.Rule.TheVariants.{NameTaken, Undefined, TooMany}
use Rattle.c_check_scope.specs.Rules.{Checked, only}
use Rattle.c_check_scope.specs.Names.{flat, number_named, global_of}
use Rattle.c_check_expr.specs.Declarators.{same_signature, signature, signature_number, result_type}
use Rattle.c_check_decl.specs.Records.{name_number}

-- ---- names

-- the number of a name that no global, function or built-in has so far
abbrev pub free_as : ℕ → Option Meaning → Checked ℕ
free_as k None = Ok k
free_as k (Some meaning) = Err (only NameTaken)

unfoldable pub free_name : Scope → Text → Checked ℕ
free_name scope x = free_as (name_number scope x) (global_of scope x)

-- what is numbered from 0 has at most 4,096 entries: the next number
abbrev pub greatest_count : ℕ
greatest_count = 4096

unfoldable pub next_of : ℕ → Checked ℕ
next_of n = if nat_lt n greatest_count then Ok n else Err (only TooMany)

-- ---- headings

-- the result and parameters of a declaration of a function
abbrev pub heading_in : Scope → Option Declaration → Option (Checked Signature)
heading_in scope (Some (Prototype t x ps)) = Some (signature scope t ps)
heading_in scope (Some (Definition t x ps body)) = Some (signature scope t ps)
heading_in scope _ = None

-- what a list by the numbers of names has for a name
abbrev pub entry_of : Scope → List (Option ℕ) → Text → Option ℕ
entry_of scope entries x = then_option (number_named scope.names x) (λ k. flat (slice_get entries k))

-- the heading that stands at the place that a list has for a name
abbrev pub heading_of : Scope → List Declaration → List (Option ℕ) → Text → Option (Checked Signature)
heading_of scope text places x = then_option (entry_of scope places x) (λ n. heading_in scope (slice_get text n))

-- two headings of one type; one that breaks a rule isn't compared
abbrev pub agree : Checked Signature → Checked Signature → Bool
agree (Ok g) (Ok h) = same_signature g h
agree (Ok g) (Err r) = false
agree (Err r) _ = true

abbrev pub defined_as : Checked Signature → Option (Checked Signature) → Checked Bool
defined_as g None = Err (only Undefined)
defined_as g (Some h) = if agree g h then Ok true else Err (only Undefined)

-- a prototype has a definition in the text, of the same type
unfoldable pub is_defined : Scope → List Declaration → List (Option ℕ) → Text → Checked Signature → Checked Bool
is_defined scope text definitions x g = defined_as g (heading_of scope text definitions x)

-- the type of a function's result; none for void, or where it breaks a rule
abbrev pub result_in : Checked (Option ℕ) → Option ℕ
result_in (Ok t) = t
result_in (Err r) = None

unfoldable pub result_if_any : Scope → TypeName → Option ℕ
result_if_any scope t = result_in (result_type scope t)

-- ---- functions that are declared anywhere in the text

abbrev pub number_of_heading : Parts → Option (Checked Signature) → Option ℕ
number_of_heading p (Some (Ok g)) = Some (signature_number p g)
number_of_heading p _ = None

-- the number of the signature of the heading at a place
abbrev pub signature_at : Scope → List Declaration → Option ℕ → Option ℕ
signature_at scope text None = None
signature_at scope text (Some n) = number_of_heading scope.types (heading_in scope (slice_get text n))

-- by the numbers of names, the signature of the first declaration of a function of that name
abbrev pub signatures : Scope → List Declaration → List (Option ℕ) → List (Option ℕ)
signatures scope text places = map (signature_at scope text) places
