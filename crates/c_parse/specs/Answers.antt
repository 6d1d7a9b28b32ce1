-- What an answer says of a text that is to be a program.
use Rattle.std.specs.Prelude.{◌≡◌, ℕ, List, Result, Ok, Err}
use Rattle.c_ast.specs.declared.token.Token.{Token}
use Rattle.c_ast.specs.declared.fault.Fault.{Fault}
use Rattle.c_ast.specs.declared.fault.Fault.TheVariants.{Syntax, TooDeep}
use Rattle.c_ast.specs.declared.decl.Decl.{Decl}
use Rattle.c_ast.specs.Trees.{Declaration, declarations}
use Rattle.c_ast.specs.Program.{IsRefusedAt}
use Rattle.c_parse_expr.specs.declared.error.ParseError.{ParseError}
use Rattle.c_parse_expr.specs.declared.error.ParseError.TheVariants as error

-- the text is refused rightly, or memory is wanted
abbrev pub Refuses : List Token → Result (List Decl) ParseError → Type 0
Refuses text (Ok p) = Unit {0}
Refuses text (Err error.Memory) = Unit {0}
Refuses text (Err (error.Syntax k)) = IsRefusedAt text Syntax k
Refuses text (Err (error.TooDeep k)) = IsRefusedAt text TooDeep k

-- it is this program, unless memory is wanted
abbrev pub Only : List Declaration → Result (List Decl) ParseError → Type 0
Only ds (Ok p) = declarations p ≡ ds
Only ds (Err error.Memory) = Unit {0}
Only ds (Err _) = ⊥

-- it is this refusal, unless memory is wanted
abbrev pub OnlyRefused : Fault → ℕ → Result (List Decl) ParseError → Type 0
OnlyRefused f k (Ok p) = ⊥
OnlyRefused f k (Err error.Memory) = Unit {0}
OnlyRefused f k (Err (error.Syntax j)) = (Syntax ≡ f) × (j ≡ k)
OnlyRefused f k (Err (error.TooDeep j)) = (TooDeep ≡ f) × (j ≡ k)
