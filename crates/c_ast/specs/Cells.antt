-- Spellings whose tokens tell where a limit is passed.
use Rattle.std.specs.Prelude.{◌≡◌, ℕ, zero, suc, ◌⊎◌, Bool, true, false, List, [], ◌∷◌}
use Rattle.c_ast.specs.declared.token.Token.{Token}
use Rattle.c_ast.specs.declared.token.Token.TheVariants as token
use Rattle.c_ast.specs.declared.token.Mark.{Mark}
use Rattle.c_ast.specs.declared.token.Keyword.{Keyword}
use Rattle.c_ast.specs.Trees.{Text}

-- a token, and whether a limit is passed at it
abbrev pub Cell : Type 0
Cell = Token × Bool

abbrev pub tokens : List Cell → List Token
tokens [] = []
tokens (c ∷ cs) = c.0 ∷ tokens cs

-- the text and the spelling have the same tokens up to one where a limit is passed, that one too
abbrev pub PassesLimit : List Cell → List Token → Type 0
PassesLimit [] ts = ⊥
PassesLimit (c ∷ cs) [] = ⊥
PassesLimit (c ∷ cs) (t ∷ ts) = (c.0 ≡ t) × ((c.1 ≡ true) ⊎ PassesLimit cs ts)

-- no limit is passed
abbrev pub KeepsLimits : List Cell → Type 0
KeepsLimits [] = Unit {0}
KeepsLimits (c ∷ cs) = (c.1 ≡ false) × KeepsLimits cs

-- Room is how many more constructs may be open and then one: 65 less the depth. Without room a limit is passed.
abbrev pub none : ℕ → Bool
none zero = true
none (suc n) = false

abbrev pub less : ℕ → ℕ
less zero = zero
less (suc n) = n

-- a token where so much room is left
abbrev pub at : Token → ℕ → Cell
at t room = (t, none room)

abbrev pub mark : Mark → ℕ → Cell
mark m room = (token.Mark m, none room)

abbrev pub keyword : Keyword → ℕ → Cell
keyword k room = (token.Keyword k, none room)

abbrev pub identifier : Text → ℕ → Cell
identifier x room = (token.Identifier x, none room)

-- an operator, step or star of which so many are still allowed in its chain
abbrev pub link : Mark → ℕ → ℕ → Cell
link m zero room = (token.Mark m, true)
link m (suc links) room = (token.Mark m, none room)
