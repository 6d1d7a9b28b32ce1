-- The tokens of a text: from front to back it is blanks, comments and the spellings of the tokens, each the longest at its place.
use Rattle.std.specs.Prelude.{◌≡◌, ◌≢◌, ◌⊎◌, ℕ, ◌+◌, ◌==◌, List, [], ◌∷◌, ◌++◌, count_by, fold, if◌then◌else◌, Option, Some, None, IsSome}
use Rattle.std.specs.List.{filter_map}
use Rattle.c_ast.specs.declared.token.Token.{Token}
use Rattle.c_ast.specs.Lexeme.{Text, Meaning, nothing, one, no_number, unclosed, lexeme}

-- these bytes stand for m, and with more of the rest behind them they are no lexeme
pub record IsLongest (front rest : Text) (m : Meaning) : Type 0 where
  pub stands : lexeme front ≡ Some m
  pub longest : (more after : Text) → rest ≡ more ++ after → IsSome (lexeme (front ++ more)) → more ≡ []

-- some bytes of a text, and the token that they spell, if they aren't a blank or a comment
abbrev pub Piece : Type 0
Piece = Text × Option Token

abbrev pub meaning_of : Option Token → Meaning
meaning_of (Some t) = one t
meaning_of None = nothing

-- the text is these pieces, and then the rest
abbrev pub Reads : List Piece → Text → Text → Type 0
Reads [] text rest = text ≡ rest
Reads (p ∷ ps) text rest = (after : Text) × (text ≡ p.0 ++ after) × IsLongest p.0 after (meaning_of p.1) × Reads ps after rest

abbrev pub tokens_of : List Piece → List Token
tokens_of = filter_map (λ p. p.1)

-- the text has these tokens
pub record IsTokenized (text : Text) (tokens : List Token) : Type 0 where
  pub pieces : List Piece
  pub read : Reads pieces text []
  pub are : tokens_of pieces ≡ tokens

abbrev pub bytes_of : List Piece → Text
bytes_of [] = []
bytes_of (p ∷ ps) = p.0 ++ bytes_of ps

-- the text begins with bytes that stand for m
pub record BeginsWith (m : Meaning) (text : Text) : Type 0 where
  pub front : Text
  pub rest : Text
  pub split : text ≡ front ++ rest
  pub longest : IsLongest front rest m

-- no bytes at the front of the text are a lexeme
abbrev pub BeginsWithNone : Text → Type 0
BeginsWithNone text = (front rest : Text) → text ≡ front ++ rest → lexeme front ≡ None

-- a byte that begins no token, or that begins a comment without end
abbrev pub HasBadByte : Text → Type 0
HasBadByte text = BeginsWithNone text ⊎ BeginsWith unclosed text

abbrev pub HasBadNumber : Text → Type 0
HasBadNumber text = BeginsWith no_number text

-- No token is read behind these bytes of the text, though some remain, which fail so.
pub record IsStuck (text before : Text) (Fails : Text → Type 0) : Type 0 where
  pub pieces : List Piece
  pub rest : Text
  pub read : Reads pieces text rest
  pub behind : bytes_of pieces ≡ before
  pub remain : rest ≢ []
  pub fails : Fails rest

-- the line and the column behind these bytes, counted from 1
abbrev pub line_behind : Text → ℕ
line_behind before = count_by (λ b. b == 10) before + 1

abbrev pub column_behind : Text → ℕ
column_behind before = fold (λ column b. if b == 10 then 1 else column + 1) 1 before
