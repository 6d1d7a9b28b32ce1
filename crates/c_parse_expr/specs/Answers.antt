-- What an answer says of a text that is to be an expression.
use Rattle.std.specs.Prelude.{◌≡◌, ℕ, List, Result, Ok, Err}
use Rattle.c_ast.specs.declared.token.Token.{Token}
use Rattle.c_ast.specs.declared.fault.Fault.{Fault}
use Rattle.c_ast.specs.declared.fault.Fault.TheVariants.{Syntax, TooDeep}
use Rattle.c_ast.specs.declared.expr.Expr.{Expr}
use Rattle.c_ast.specs.Trees.{Expression, expression}
use Rattle.c_ast.specs.Program.{IsRefusedExpression}
use Rattle.c_parse_expr.specs.declared.error.ReadError.{ReadError}
use Rattle.c_parse_expr.specs.declared.error.ReadError.TheVariants as read
use Rattle.c_parse_expr.specs.declared.error.ParseError.{ParseError}
use Rattle.c_parse_expr.specs.declared.error.ParseError.TheVariants as error

-- a fault at the declaration of this number
abbrev pub located : ℕ → Fault → ParseError
located k Syntax = error.Syntax k
located k TooDeep = error.TooDeep k

abbrev pub located_error : ℕ → ReadError → ParseError
located_error k read.Memory = error.Memory
located_error k (read.Refused f) = located k f

-- the text is refused rightly, or memory is wanted
abbrev pub RefusesExpression : List Token → Result Expr ParseError → Type 0
RefusesExpression text (Ok e) = Unit {0}
RefusesExpression text (Err error.Memory) = Unit {0}
RefusesExpression text (Err (error.Syntax k)) = (k ≡ 1) × IsRefusedExpression text Syntax
RefusesExpression text (Err (error.TooDeep k)) = (k ≡ 1) × IsRefusedExpression text TooDeep

-- it is this expression, unless memory is wanted
abbrev pub OnlyExpression : Expression → Result Expr ParseError → Type 0
OnlyExpression x (Ok e) = expression e ≡ x
OnlyExpression x (Err error.Memory) = Unit {0}
OnlyExpression x (Err _) = ⊥

-- it is this refusal, unless memory is wanted
abbrev pub OnlyRefusedExpression : Fault → Result Expr ParseError → Type 0
OnlyRefusedExpression f (Ok e) = ⊥
OnlyRefusedExpression f (Err error.Memory) = Unit {0}
OnlyRefusedExpression f (Err (error.Syntax k)) = f ≡ Syntax
OnlyRefusedExpression f (Err (error.TooDeep k)) = f ≡ TooDeep
