-- Some spellings, by computation: the definitions say what they should.
use Rattle.std.proofs.Common.{◌≡◌, refl, ℕ, zero, suc, true, false, List, [], ◌∷◌, Some, None, arith}
use Rattle.std.specs.Prelude.{Bool, ◌||◌}
use Rattle.c_ast.specs.declared.token.Number.{Number}
use Rattle.c_ast.specs.declared.token.NumberKind.TheVariants.{Int as int_kind}
use Rattle.c_ast.specs.declared.token.Token.TheVariants.{Identifier, Number as number, Mark as mark, Keyword as keyword}
use Rattle.c_ast.specs.declared.token.Mark.TheVariants as m
use Rattle.c_ast.specs.declared.token.Keyword.TheVariants as k
use Rattle.c_ast.specs.declared.types.TagKind.TheVariants.{Struct}
use Rattle.c_ast.specs.declared.types.BaseType.TheVariants as base
use Rattle.c_ast.specs.declared.types.UnsignedType.TheVariants as u
use Rattle.c_ast.specs.declared.types.TypeName.{TypeName}
use Rattle.c_ast.specs.declared.expr.Access.TheVariants.{Dot}
use Rattle.c_ast.specs.declared.expr.BinaryOperator.TheVariants.{Add, Multiply}
use Rattle.c_ast.specs.declared.expr.UnaryOperator.TheVariants.{Complement, Dereference}
use Rattle.c_ast.specs.Cells.{Cell}
use Rattle.c_ast.specs.Trees.{Text, Expression, Num, Var, Paren, At, Part, Prefix, Op, Plain, NoParameter, Also, Invoke, Value, Empty, Local, Assign, Call, If, IfElse, For, Return, Done, Then, Data, Pointer, Single, Braces, NoMore, Next, Declaration, Record, Global, Definition}
use Rattle.c_ast.specs.Grammar.{top, IsDeclaration, declaration_cells}
use Rattle.c_ast.specs.Program.{IsDeclarationWithinBounds, declaration_spelling}

abbrev int_of : ℕ → Number
int_of n = record { value = n; kind = int_kind }

abbrev int_type : TypeName
int_type = record { base = base.Int; stars = 0 }

abbrev x : Text
x = 120 ∷ []

abbrev y : Text
y = 121 ∷ []

-- int x = 1 + 2 * 3;
abbrev sum : Declaration
sum = Global (Data int_type x None) (Some (Single (Op Add (Num (int_of 1)) (Op Multiply (Num (int_of 2)) (Num (int_of 3))))))

sum_text : declaration_spelling sum
    ≡ keyword k.Int ∷ Identifier x ∷ mark m.Assign ∷ number (int_of 1) ∷ mark m.Plus ∷ number (int_of 2) ∷ mark m.Star ∷ number (int_of 3) ∷ mark m.Semicolon ∷ []
sum_text = refl

sum_is : IsDeclarationWithinBounds sum
sum_is = ((omega arith, omega arith, tt, (omega arith, omega arith, tt, tt)), (refl, (refl, (refl, (refl, (refl, (refl, (refl, (refl, (refl, tt))))))))))

-- int x = (1 + 2) + 3; without its parentheses, and 1 + (2 + 3) without them is no tree
left_is : IsDeclaration (Global (Data int_type x None) (Some (Single (Op Add (Op Add (Num (int_of 1)) (Num (int_of 2))) (Num (int_of 3))))))
left_is = (omega arith, omega arith, (omega arith, omega arith, tt, tt), tt)

right_is_not : IsDeclaration (Global (Data int_type x None) (Some (Single (Op Add (Num (int_of 1)) (Op Add (Num (int_of 2)) (Num (int_of 3))))))) → ⊥
right_is_not h = let r = h.1 in omega arith

-- struct x { unsigned int *x; int (*y[2])(void); };
abbrev fields : Declaration
fields = Record Struct x (Data (record { base = base.Unsigned u.Int; stars = 1 }) x None ∷ Pointer int_type y (Some (int_of 2)) NoParameter ∷ [])

fields_text : declaration_spelling fields
    ≡ keyword k.Struct ∷ Identifier x ∷ mark m.LeftBrace ∷ keyword k.Unsigned ∷ keyword k.Int ∷ mark m.Star ∷ Identifier x ∷ mark m.Semicolon
    ∷ keyword k.Int ∷ mark m.LeftParen ∷ mark m.Star ∷ Identifier y ∷ mark m.LeftBracket ∷ number (int_of 2) ∷ mark m.RightBracket ∷ mark m.RightParen ∷ mark m.LeftParen ∷ keyword k.Void ∷ mark m.RightParen ∷ mark m.Semicolon
    ∷ mark m.RightBrace ∷ mark m.Semicolon ∷ []
fields_text = refl

-- int x[2] = { 1, { 2 }, };
abbrev braces : Declaration
braces = Global (Data int_type x (Some (int_of 2))) (Some (Braces (Next (Single (Num (int_of 1))) (Next (Braces (Next (Single (Num (int_of 2))) NoMore) false) NoMore)) true))

braces_text : declaration_spelling braces
    ≡ keyword k.Int ∷ Identifier x ∷ mark m.LeftBracket ∷ number (int_of 2) ∷ mark m.RightBracket ∷ mark m.Assign ∷ mark m.LeftBrace ∷ number (int_of 1) ∷ mark m.Comma ∷ mark m.LeftBrace ∷ number (int_of 2) ∷ mark m.RightBrace
    ∷ mark m.Comma ∷ mark m.RightBrace ∷ mark m.Semicolon ∷ []
braces_text = refl

-- int x(int y) { int x = y; if (x) y(1, x); else *x[0] = y(); for (; x; x = 1) ; return x; }
abbrev body : Declaration
body = Definition int_type x (Also (Plain int_type y) NoParameter)
    (Then (Local (Plain int_type x) (Some (Value (Var y))))
    (Then (IfElse (Var x) (Call (Var y) (Num (int_of 1) ∷ Var x ∷ [])) (Assign (Prefix Dereference (At (Var x) (Num (int_of 0)))) (Invoke (Var y) [])))
    (Then (For None (Some (Var x)) (Some (record { place = Var x; value = Num (int_of 1) })) Empty)
    (Then (Return (Some (Value (Var x)))) Done))))

body_text : declaration_spelling body
    ≡ keyword k.Int ∷ Identifier x ∷ mark m.LeftParen ∷ keyword k.Int ∷ Identifier y ∷ mark m.RightParen ∷ mark m.LeftBrace ∷ keyword k.Int ∷ Identifier x ∷ mark m.Assign ∷ Identifier y ∷ mark m.Semicolon
    ∷ keyword k.If ∷ mark m.LeftParen ∷ Identifier x ∷ mark m.RightParen ∷ Identifier y ∷ mark m.LeftParen ∷ number (int_of 1) ∷ mark m.Comma ∷ Identifier x ∷ mark m.RightParen ∷ mark m.Semicolon
    ∷ keyword k.Else ∷ mark m.Star ∷ Identifier x ∷ mark m.LeftBracket ∷ number (int_of 0) ∷ mark m.RightBracket ∷ mark m.Assign ∷ Identifier y ∷ mark m.LeftParen ∷ mark m.RightParen ∷ mark m.Semicolon
    ∷ keyword k.For ∷ mark m.LeftParen ∷ mark m.Semicolon ∷ Identifier x ∷ mark m.Semicolon ∷ Identifier x ∷ mark m.Assign ∷ number (int_of 1) ∷ mark m.RightParen ∷ mark m.Semicolon
    ∷ keyword k.Return ∷ Identifier x ∷ mark m.Semicolon ∷ mark m.RightBrace ∷ []
body_text = refl

-- an `else` behind an `if` without one belongs to that
outer_is_not : IsDeclaration (Definition int_type x NoParameter (Then (IfElse (Var x) (If (Var y) Empty) Empty) Done)) → ⊥
outer_is_not h = let r = h.0.2 in cc

inner_is : IsDeclaration (Definition int_type x NoParameter (Then (If (Var x) (IfElse (Var y) Empty Empty)) Done))
inner_is = ((tt, (tt, tt, refl, tt)), tt)

-- ---- limits

abbrev is_hot : List Cell → Bool
is_hot [] = false
is_hot (c ∷ cs) = c.1 || is_hot cs

abbrev in_global : Expression → Bool
in_global e = is_hot (declaration_cells (Global (Data int_type x None) (Some (Single e))) top)

abbrev pairs : ℕ → Expression
pairs zero = Num (int_of 1)
pairs (suc n) = Paren (pairs n)

abbrev prefixes : ℕ → Expression
prefixes zero = Num (int_of 1)
prefixes (suc n) = Prefix Complement (prefixes n)

abbrev chain : ℕ → Expression
chain zero = Num (int_of 1)
chain (suc n) = Op Add (chain n) (Num (int_of 1))

abbrev place : ℕ → Expression
place zero = Var x
place (suc n) = Part (place n) Dot y

-- In 31 pairs the number stands in one initialiser, 32 expressions and 32 unaries, at depth 65.
thirty_pairs : in_global (pairs 30) ≡ false
thirty_pairs = refl

thirty_one_pairs : in_global (pairs 31) ≡ true
thirty_one_pairs = refl

few_prefixes : in_global (prefixes 61) ≡ false
few_prefixes = refl

many_prefixes : in_global (prefixes 62) ≡ true
many_prefixes = refl

few_operators : in_global (chain 64) ≡ false
few_operators = refl

many_operators : in_global (chain 65) ≡ true
many_operators = refl

few_steps : in_global (place 64) ≡ false
few_steps = refl

many_steps : in_global (place 65) ≡ true
many_steps = refl

abbrev with_stars : ℕ → Bool
with_stars n = is_hot (declaration_cells (Global (Data (record { base = base.Int; stars = n }) x None) None) top)

few_stars : with_stars 8 ≡ false
few_stars = refl

many_stars : with_stars 9 ≡ true
many_stars = refl
