-- What the text of a source denotes, and why it denotes nothing.
use Rattle.std.specs.Prelude.{◌≡◌, ⊤, ℕ, ◌<◌, ◌≤◌, List, length, Option, None, Some, Result, Ok, Err, IsSomeAnd}
use Rattle.lu_base.specs.declared.limits.TheConstants.{TEXT_BYTES}
use Rattle.c_ast.specs.declared.token.Token.{Token}
use Rattle.c_ast.specs.declared.fault.Fault.{Fault}
use Rattle.c_ast.specs.declared.fault.Fault.TheVariants as fault
use Rattle.c_ast.specs.Lexeme.{Text}
use Rattle.c_ast.specs.Lexical.{IsTokenized}
use Rattle.c_ast.specs.Trees.{Declaration}
use Rattle.c_ast.specs.Program.{IsProgram, IsRefusedAt}
use Rattle.c_lex.specs.declared.error.LexError.TheVariants as lex
use Rattle.c_lex.specs.Refusal.{IsRefused}
use Rattle.src_tree.specs.declared.program.Program.{Program}
use Rattle.c_check_scope.specs.Rules.{IsLeast}
use Rattle.c_check.specs.Denotation as check
use Rattle.lu_load_lines.specs.declared.refusal.SourceRefusal.{SourceRefusal}
use Rattle.lu_load_lines.specs.declared.refusal.SourceRefusal.TheVariants.{Absent, TooLarge, BadByte, BadNumber, Syntax, TooDeep, Rule}
use Rattle.lu_source.specs.declared.error.SourceError.{SourceError}
use Rattle.lu_source.specs.declared.error.SourceError.TheVariants.{Refused, ReadFault, Memory}

-- ---- a text

-- the text has tokens, and they spell the declarations
pub record Spells (text : Text) (ds : List Declaration) : Type 0 where
  pub tokens : List Token
  pub lexed : IsTokenized text tokens
  pub spelled : IsProgram tokens ds

-- the text spells declarations that break no rule, and denote this program with pointers of so many bytes
pub record Denotes (pointer : ℕ) (text : Text) (program : Program) : Type 0 where
  pub declarations : List Declaration
  pub read : Spells text declarations
  pub denoted : check.Denotes pointer declarations program

-- the text has tokens, and declaration k is the first that they don't spell
pub record IsMisreadAt (text : Text) (cause : Fault) (k : ℕ) : Type 0 where
  pub tokens : List Token
  pub lexed : IsTokenized text tokens
  pub misread : IsRefusedAt tokens cause k

-- declaration k of the text is the first that breaks a rule, with the least code of those that it breaks
pub record BreaksFirst (pointer : ℕ) (text : Text) (k code : ℕ) : Type 0 where
  pub declarations : List Declaration
  pub read : Spells text declarations
  pub least : IsLeast (check.breaks_rule pointer declarations k) code

-- why the text denotes no program
abbrev pub RefusesText : ℕ → Text → SourceRefusal → Type 0
RefusesText pointer text Absent = ⊥
RefusesText pointer text TooLarge = ⊥
RefusesText pointer text (BadByte line col) = IsRefused text (lex.BadByte line col)
RefusesText pointer text (BadNumber line col) = IsRefused text (lex.BadNumber line col)
RefusesText pointer text (Syntax k) = IsMisreadAt text fault.Syntax k
RefusesText pointer text (TooDeep k) = IsMisreadAt text fault.TooDeep k
RefusesText pointer text (Rule k code) = BreaksFirst pointer text k code

-- what an error says of a text: want of memory says nothing, and a failed read is none of a text
abbrev pub Refuses : ℕ → Text → SourceError → Type 0
Refuses pointer text (Refused cause) = RefusesText pointer text cause
Refuses pointer text ReadFault = ⊥
Refuses pointer text Memory = ⊤

-- ---- a file

-- the file is there with this text, which is within the limit
abbrev pub HasText : Option Text → Text → Type 0
HasText file text = (file ≡ Some text) × (length text ≤ TEXT_BYTES)

-- why the file is no source: it isn't there, is above the limit, or its text denotes no program
abbrev pub RefusesFile : ℕ → Option Text → SourceRefusal → Type 0
RefusesFile pointer file Absent = file ≡ None
RefusesFile pointer file TooLarge = IsSomeAnd file (λ text. TEXT_BYTES < length text)
RefusesFile pointer file cause = (text : Text) × HasText file text × RefusesText pointer text cause

-- the file's text denotes this program
abbrev pub IsSource : ℕ → Option Text → Program → Type 0
IsSource pointer file program = (text : Text) × HasText file text × Denotes pointer text program

-- What an answer says of a file: a failed read, and want of memory, say nothing.
abbrev pub FileAnswers : Option Text → Result Text SourceError → Type 0
FileAnswers file (Ok text) = HasText file text
FileAnswers file (Err (Refused Absent)) = file ≡ None
FileAnswers file (Err (Refused TooLarge)) = IsSomeAnd file (λ text. TEXT_BYTES < length text)
FileAnswers file (Err (Refused cause)) = ⊥
FileAnswers file (Err ReadFault) = ⊤
FileAnswers file (Err Memory) = ⊤

abbrev pub SourceAnswers : ℕ → Option Text → Result Program SourceError → Type 0
SourceAnswers pointer file (Ok program) = IsSource pointer file program
SourceAnswers pointer file (Err (Refused cause)) = RefusesFile pointer file cause
SourceAnswers pointer file (Err ReadFault) = ⊤
SourceAnswers pointer file (Err Memory) = ⊤
