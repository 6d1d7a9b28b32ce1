-- What the text of a filter denotes in a program, and why it denotes nothing.
use Rattle.std.specs.Prelude.{◌≡◌, ⊤, ℕ, true, false, List, slice_get, Ok}
use Rattle.c_ast.specs.declared.token.Token.{Token}
use Rattle.c_ast.specs.declared.fault.Fault.{Fault}
use Rattle.c_ast.specs.declared.fault.Fault.TheVariants as fault
use Rattle.c_ast.specs.Lexeme.{Text}
use Rattle.c_ast.specs.Lexical.{IsTokenized}
use Rattle.c_ast.specs.Trees.{Expression}
use Rattle.c_ast.specs.Program.{IsSpelledExpression, IsRefusedExpression}
use Rattle.c_lex.specs.declared.error.LexError.TheVariants as lex
use Rattle.c_lex.specs.Refusal.{IsRefused}
use Rattle.src_tree.specs.declared.program.Program.{Program}
use Rattle.src_tree.specs.declared.expr.TypedExpr.{TypedExpr}
use Rattle.src_meaning.specs.ValidTypes.{is_integer}
use Rattle.src_meaning.specs.Valid.{IsValidExpression}
use Rattle.c_check_scope.specs.Rules.{IsLeast}
use Rattle.c_check_expr.specs.Typing.{typed}
use Rattle.c_check.specs.ProgramScope.{scope_of}
use Rattle.c_check.specs.Refusals.{breaks_rule}
use Rattle.lu_filter.specs.declared.error.FilterError.{FilterError}
use Rattle.lu_filter.specs.declared.error.FilterError.TheVariants.{BadByte, BadNumber, Syntax, TooDeep, Rule, NotInt, Memory}

-- the text has tokens, and they spell the expression
pub record Spells (text : Text) (e : Expression) : Type 0 where
  pub tokens : List Token
  pub lexed : IsTokenized text tokens
  pub spelled : IsSpelledExpression tokens e

-- the text spells an expression with that type and meaning in the scope of all that the program declares
pub record Denotes (program : Program) (text : Text) (filter : TypedExpr) : Type 0 where
  pub expression : Expression
  pub read : Spells text expression
  pub typed_so : typed (scope_of program) expression ≡ Ok filter

abbrev pub HasIntegerType : Program → TypedExpr → Type 0
HasIntegerType program e = is_integer (slice_get program.types.types e.ty) ≡ true

-- a filter is a valid expression of an integer type
pub record IsFilter (program : Program) (text : Text) (filter : TypedExpr) : Type 0 where
  pub denoted : Denotes program text filter
  pub valid : IsValidExpression program filter
  pub integer : HasIntegerType program filter

-- the text has tokens that are refused so
pub record IsMisread (text : Text) (cause : Fault) : Type 0 where
  pub tokens : List Token
  pub lexed : IsTokenized text tokens
  pub misread : IsRefusedExpression tokens cause

-- the least code of the rules that the expression breaks
pub record BreaksFirst (program : Program) (text : Text) (code : ℕ) : Type 0 where
  pub expression : Expression
  pub read : Spells text expression
  pub least : IsLeast (breaks_rule program expression) code

-- an expression of another type
pub record IsNoInteger (program : Program) (text : Text) : Type 0 where
  pub filter : TypedExpr
  pub denoted : Denotes program text filter
  pub other : is_integer (slice_get program.types.types filter.ty) ≡ false

-- Why the text is no filter; want of memory says nothing.
abbrev pub Refuses : Program → Text → FilterError → Type 0
Refuses program text (BadByte column) = (line : ℕ) × IsRefused text (lex.BadByte line column)
Refuses program text (BadNumber column) = (line : ℕ) × IsRefused text (lex.BadNumber line column)
Refuses program text Syntax = IsMisread text fault.Syntax
Refuses program text TooDeep = IsMisread text fault.TooDeep
Refuses program text (Rule code) = BreaksFirst program text code
Refuses program text NotInt = IsNoInteger program text
Refuses program text Memory = ⊤
