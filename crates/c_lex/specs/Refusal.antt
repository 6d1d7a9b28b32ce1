-- Where and why a text has no tokens.
use Rattle.std.specs.Prelude.{◌≡◌, ℕ}
use Rattle.c_ast.specs.Lexeme.{Text}
use Rattle.c_ast.specs.Lexical.{IsStuck, HasBadByte, HasBadNumber, line_behind, column_behind}
use Rattle.c_lex.specs.declared.error.LexError.{LexError}
use Rattle.c_lex.specs.declared.error.LexError.TheVariants.{BadByte, BadNumber, Memory}

-- the reading is stuck at this line and column
pub record IsStuckAt (text : Text) (Fails : Text → Type 0) (line column : ℕ) : Type 0 where
  pub before : Text
  pub stuck : IsStuck text before Fails
  pub line_is : line ≡ line_behind before
  pub column_is : column ≡ column_behind before

abbrev pub IsRefused : Text → LexError → Type 0
IsRefused text (BadByte line column) = IsStuckAt text HasBadByte line column
IsRefused text (BadNumber line column) = IsStuckAt text HasBadNumber line column
IsRefused text Memory = ⊥
