-- A program, and where and why a text is none.
use Rattle.std.specs.Prelude.{◌≡◌, ◌≢◌, ◌↔◌, ℕ, suc, List, [], ◌∷◌, ◌++◌, length}
use Rattle.c_ast.specs.declared.token.Token.{Token}
use Rattle.c_ast.specs.declared.fault.Fault.{Fault}
use Rattle.c_ast.specs.declared.fault.Fault.TheVariants.{TooDeep}
use Rattle.c_ast.specs.Cells.{tokens, PassesLimit, KeepsLimits}
use Rattle.c_ast.specs.Trees.{Expression, Declaration}
use Rattle.c_ast.specs.Grammar.{limit, top, IsExpression, cells, IsDeclaration, declaration_cells}

-- ---- whole expressions

abbrev pub expression_spelling : Expression → List Token
expression_spelling e = tokens (cells e limit)

-- an expression of the grammar in which no limit is passed
abbrev pub IsExpressionWithinBounds : Expression → Type 0
IsExpressionWithinBounds e = IsExpression e × KeepsLimits (cells e limit)

-- the text is this expression
abbrev pub IsSpelledExpression : List Token → Expression → Type 0
IsSpelledExpression text e = IsExpressionWithinBounds e × (text ≡ expression_spelling e)

-- an expression of any depth passes a limit within what the text has of it
abbrev pub IsDeepExpression : List Token → Type 0
IsDeepExpression text = (e : Expression) × IsExpression e × PassesLimit (cells e limit) text

-- the text is no expression
pub record IsRefusedExpression (text : List Token) (fault : Fault) : Type 0 where
  pub none : (e : Expression) → IsSpelledExpression text e → ⊥
  pub deep : (fault ≡ TooDeep) ↔ IsDeepExpression text

-- ---- declarations and programs

abbrev pub declaration_spelling : Declaration → List Token
declaration_spelling d = tokens (declaration_cells d top)

-- a declaration of the grammar in which no limit is passed
abbrev pub IsDeclarationWithinBounds : Declaration → Type 0
IsDeclarationWithinBounds d = IsDeclaration d × KeepsLimits (declaration_cells d top)

abbrev pub AreWithinBounds : List Declaration → Type 0
AreWithinBounds [] = Unit {0}
AreWithinBounds (d ∷ ds) = IsDeclarationWithinBounds d × AreWithinBounds ds

abbrev pub spelling : List Declaration → List Token
spelling [] = []
spelling (d ∷ ds) = declaration_spelling d ++ spelling ds

-- the text is these declarations
pub record IsProgram (text : List Token) (ds : List Declaration) : Type 0 where
  pub bounds : AreWithinBounds ds
  pub spelled : text ≡ spelling ds

-- a declaration of any depth passes a limit within what the text has of it
abbrev pub IsDeep : List Token → Type 0
IsDeep text = (d : Declaration) × IsDeclaration d × PassesLimit (declaration_cells d top) text

-- The declarations before the k-th can be read, tokens remain, and the k-th can't be read.
pub record IsRefusedAt (text : List Token) (fault : Fault) (k : ℕ) : Type 0 where
  pub before : List Declaration
  pub rest : List Token
  pub bounds : AreWithinBounds before
  pub spelled : text ≡ spelling before ++ rest
  pub count : k ≡ suc (length before)
  pub remain : rest ≢ []
  pub none : (d : Declaration) (more : List Token) → IsDeclarationWithinBounds d → rest ≡ declaration_spelling d ++ more → ⊥
  pub deep : (fault ≡ TooDeep) ↔ IsDeep rest
