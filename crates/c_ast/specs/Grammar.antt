-- The grammar: what each tree's spelling is, and which trees it has.
use Rattle.std.specs.Prelude.{◌≡◌, ◌≢◌, ◌<◌, ℕ, zero, suc, ◌-◌, Bool, true, false, cond, nat_eq, List, [], ◌∷◌, ◌++◌, Option, Some, None}
use Rattle.c_ast.specs.declared.token.Token.TheVariants as token
use Rattle.c_ast.specs.declared.token.Mark.{Mark}
use Rattle.c_ast.specs.declared.token.Mark.TheVariants as m
use Rattle.c_ast.specs.declared.token.Keyword.{Keyword}
use Rattle.c_ast.specs.declared.token.Keyword.TheVariants as k
use Rattle.c_ast.specs.declared.token.Number.{Number}
use Rattle.c_ast.specs.declared.types.UnsignedType.{UnsignedType}
use Rattle.c_ast.specs.declared.types.UnsignedType.TheVariants as u
use Rattle.c_ast.specs.declared.types.TagKind.{TagKind}
use Rattle.c_ast.specs.declared.types.TagKind.TheVariants as tag
use Rattle.c_ast.specs.declared.types.BaseType.{BaseType}
use Rattle.c_ast.specs.declared.types.BaseType.TheVariants as base
use Rattle.c_ast.specs.declared.types.TypeName.{TypeName}
use Rattle.c_ast.specs.declared.expr.Access.{Access}
use Rattle.c_ast.specs.declared.expr.Access.TheVariants.{Dot, Arrow}
use Rattle.c_ast.specs.declared.expr.UnaryOperator.{UnaryOperator}
use Rattle.c_ast.specs.declared.expr.UnaryOperator.TheVariants as unary
use Rattle.c_ast.specs.declared.expr.BinaryOperator.{BinaryOperator}
use Rattle.c_ast.specs.declared.expr.BinaryOperator.TheVariants as binary
use Rattle.c_ast.specs.Trees.{Text, Expression, Num, Char, Var, Paren, Size, At, Part, Prefix, Convert, Op, Cond, Parameter, Plain, Function, Parameters, NoParameter, Also, Right, Invoke, Value, Setting, Statement, Block, Empty, Local, Assign, Call, If, IfElse, While, For, Break, Continue, Return, Statements, Done, Then, Object, Data, Pointer, Initializer, Single, Bytes, Braces, Initializers, NoMore, Next, Declaration, Record, Global, Prototype, Definition}
use Rattle.c_ast.specs.Cells.{Cell, less, at, mark, keyword, identifier, link}

-- how many constructs may be open, operators a chain may have, and steps a postfix
abbrev pub limit : ℕ
limit = 64

abbrev pub star_limit : ℕ
star_limit = 8

-- room where no construct is open
abbrev pub top : ℕ
top = 65

-- ---- types

abbrev pub unsigned_cells : UnsignedType → ℕ → List Cell
unsigned_cells u.Plain room = []
unsigned_cells u.Char room = keyword k.Char room ∷ []
unsigned_cells u.Short room = keyword k.Short room ∷ []
unsigned_cells u.Int room = keyword k.Int room ∷ []
unsigned_cells u.LongLong room = keyword k.Long room ∷ keyword k.Long room ∷ []

abbrev pub tag_keyword : TagKind → Keyword
tag_keyword tag.Struct = k.Struct
tag_keyword tag.Union = k.Union

abbrev pub base_cells : BaseType → ℕ → List Cell
base_cells base.Void room = keyword k.Void room ∷ []
base_cells base.Char room = keyword k.Char room ∷ []
base_cells base.Short room = keyword k.Short room ∷ []
base_cells base.Int room = keyword k.Int room ∷ []
base_cells base.LongLong room = keyword k.Long room ∷ keyword k.Long room ∷ []
base_cells (base.Unsigned u) room = keyword k.Unsigned room ∷ unsigned_cells u room
base_cells (base.Tagged t x) room = keyword (tag_keyword t) room ∷ identifier x room ∷ []

-- so many stars, of which so many are still allowed
abbrev pub star_cells : ℕ → ℕ → ℕ → List Cell
star_cells zero left room = []
star_cells (suc n) left room = link m.Star left room ∷ star_cells n (less left) room

abbrev pub type_cells : TypeName → ℕ → List Cell
type_cells t room = base_cells t.base room ++ star_cells t.stars star_limit room

-- ---- expressions

abbrev pub access_mark : Access → Mark
access_mark Dot = m.Dot
access_mark Arrow = m.Arrow

abbrev pub unary_mark : UnaryOperator → Mark
unary_mark unary.Negate = m.Minus
unary_mark unary.Complement = m.Tilde
unary_mark unary.Not = m.Not
unary_mark unary.Dereference = m.Star
unary_mark unary.AddressOf = m.Ampersand

abbrev pub binary_mark : BinaryOperator → Mark
binary_mark binary.Multiply = m.Star
binary_mark binary.Divide = m.Slash
binary_mark binary.Remainder = m.Percent
binary_mark binary.Add = m.Plus
binary_mark binary.Subtract = m.Minus
binary_mark binary.ShiftLeft = m.ShiftLeft
binary_mark binary.ShiftRight = m.ShiftRight
binary_mark binary.Less = m.Less
binary_mark binary.LessEqual = m.LessEqual
binary_mark binary.Greater = m.Greater
binary_mark binary.GreaterEqual = m.GreaterEqual
binary_mark binary.Equal = m.EqualEqual
binary_mark binary.NotEqual = m.NotEqual
binary_mark binary.BitAnd = m.Ampersand
binary_mark binary.BitXor = m.Caret
binary_mark binary.BitOr = m.Pipe
binary_mark binary.And = m.LogicalAnd
binary_mark binary.Or = m.LogicalOr

-- C's levels, the tightest first
abbrev pub tier : BinaryOperator → ℕ
tier binary.Multiply = 0
tier binary.Divide = 0
tier binary.Remainder = 0
tier binary.Add = 1
tier binary.Subtract = 1
tier binary.ShiftLeft = 2
tier binary.ShiftRight = 2
tier binary.Less = 3
tier binary.LessEqual = 3
tier binary.Greater = 3
tier binary.GreaterEqual = 3
tier binary.Equal = 4
tier binary.NotEqual = 4
tier binary.BitAnd = 5
tier binary.BitXor = 6
tier binary.BitOr = 7
tier binary.And = 8
tier binary.Or = 9

abbrev pub level : BinaryOperator → ℕ
level op = suc (suc (tier op))

-- 0 for a postfix, 1 for a unary, 2 to 11 for the chains, 12 for the rest
abbrev pub rank : Expression → ℕ
rank (Num n) = 0
rank (Char c) = 0
rank (Var x) = 0
rank (Paren e) = 0
rank (Size t) = 0
rank (At b i) = 0
rank (Part b a x) = 0
rank (Prefix s e) = 1
rank (Convert t e) = 1
rank (Op op a b) = level op
rank (Cond c a b) = 12

-- each operand is no looser than its place in the grammar; chains go from left to right
abbrev pub IsExpression : Expression → Type 0
IsExpression (Num n) = Unit {0}
IsExpression (Char c) = Unit {0}
IsExpression (Var x) = Unit {0}
IsExpression (Paren e) = IsExpression e
IsExpression (Size t) = Unit {0}
IsExpression (At b i) = (rank b < 1) × IsExpression b × IsExpression i
IsExpression (Part b a x) = (rank b < 1) × IsExpression b
IsExpression (Prefix s e) = (rank e < 2) × IsExpression e
IsExpression (Convert t e) = (rank e < 2) × IsExpression e
IsExpression (Op op a b) = (rank a < suc (level op)) × (rank b < level op) × IsExpression a × IsExpression b
IsExpression (Cond c a b) = (rank c < 12) × IsExpression c × IsExpression a × IsExpression b

-- the steps of a postfix
abbrev pub steps : Expression → ℕ
steps (At b i) = suc (steps b)
steps (Part b a x) = suc (steps b)
steps _ = 0

-- the operators of a chain of this level
abbrev pub links : ℕ → Expression → ℕ
links n (Op op a b) = cond (nat_eq n (level op)) (suc (links n a)) 0
links n _ = 0

-- An expression with this room. What is unary stands in one more construct.
abbrev pub cells : Expression → ℕ → List Cell
cells (Num n) room = at (token.Number n) (less room) ∷ []
cells (Char c) room = at (token.Character c) (less room) ∷ []
cells (Var x) room = identifier x (less room) ∷ []
cells (Paren e) room = mark m.LeftParen (less room) ∷ cells e (less (less room)) ++ (mark m.RightParen (less room) ∷ [])
cells (Size t) room = keyword k.Sizeof (less room) ∷ mark m.LeftParen (less room) ∷ type_cells t (less room) ++ (mark m.RightParen (less room) ∷ [])
cells (At b i) room = cells b room ++ (link m.LeftBracket (limit - steps b) (less room) ∷ cells i (less (less room)) ++ (mark m.RightBracket (less room) ∷ []))
cells (Part b a x) room = cells b room ++ (link (access_mark a) (limit - steps b) (less room) ∷ identifier x (less room) ∷ [])
cells (Prefix s e) room = mark (unary_mark s) (less room) ∷ cells e (less room)
cells (Convert t e) room = mark m.LeftParen (less room) ∷ type_cells t (less room) ++ (mark m.RightParen (less room) ∷ cells e (less room))
cells (Op op a b) room = cells a room ++ (link (binary_mark op) (limit - links (level op) a) room ∷ cells b room)
cells (Cond c a b) room = cells c room ++ (mark m.Question room ∷ cells a (less room) ++ (mark m.Colon room ∷ cells b (less room)))

abbrev pub AreExpressions : List Expression → Type 0
AreExpressions [] = Unit {0}
AreExpressions (e ∷ es) = IsExpression e × AreExpressions es

abbrev pub IsExpressionIfAny : Option Expression → Type 0
IsExpressionIfAny None = Unit {0}
IsExpressionIfAny (Some e) = IsExpression e

-- ---- parameters

-- a list of parameters with this room, `void` if there is none
abbrev mutual
  pub parameter_cells : Parameter → ℕ → List Cell
  parameter_cells (Plain t x) room = type_cells t room ++ (identifier x room ∷ [])
  parameter_cells (Function t x ps) room =
      type_cells t room
      ++ (mark m.LeftParen room ∷ mark m.Star room ∷ identifier x room ∷ mark m.RightParen room ∷ mark m.LeftParen room ∷ parameters_cells ps (less room) ++ (mark m.RightParen room ∷ []))

  pub parameters_cells : Parameters → ℕ → List Cell
  parameters_cells NoParameter room = keyword k.Void room ∷ []
  parameters_cells (Also p ps) room = parameter_cells p room ++ more_parameters ps room

  pub more_parameters : Parameters → ℕ → List Cell
  more_parameters NoParameter room = []
  more_parameters (Also p ps) room = mark m.Comma room ∷ parameter_cells p room ++ more_parameters ps room

-- ---- statements

abbrev pub more_arguments : List Expression → ℕ → List Cell
more_arguments [] room = []
more_arguments (e ∷ es) room = mark m.Comma room ∷ cells e (less room) ++ more_arguments es room

abbrev pub argument_cells : List Expression → ℕ → List Cell
argument_cells [] room = []
argument_cells (e ∷ es) room = cells e (less room) ++ more_arguments es room

abbrev pub call_cells : List Expression → ℕ → List Cell
call_cells es room = mark m.LeftParen room ∷ argument_cells es room ++ (mark m.RightParen room ∷ [])

abbrev pub IsRight : Right → Type 0
IsRight (Value e) = IsExpression e
IsRight (Invoke f es) = (rank f < 1) × IsExpression f × AreExpressions es

-- a callee stands in an expression, as it does before its parenthesis is seen
abbrev pub right_cells : Right → ℕ → List Cell
right_cells (Value e) room = cells e (less room)
right_cells (Invoke f es) room = cells f (less room) ++ call_cells es room

abbrev pub IsRightIfAny : Option Right → Type 0
IsRightIfAny None = Unit {0}
IsRightIfAny (Some r) = IsRight r

abbrev pub right_cells_if_any : Option Right → ℕ → List Cell
right_cells_if_any None room = []
right_cells_if_any (Some r) room = right_cells r room

abbrev pub start_cells : Option Right → ℕ → List Cell
start_cells None room = []
start_cells (Some r) room = mark m.Assign room ∷ right_cells r room

abbrev pub IsSetting : Setting → Type 0
IsSetting s = (rank s.place < 2) × IsExpression s.place × IsExpression s.value

abbrev pub setting_cells : Setting → ℕ → List Cell
setting_cells s room = cells s.place room ++ (mark m.Assign room ∷ cells s.value (less room))

abbrev pub IsSettingIfAny : Option Setting → Type 0
IsSettingIfAny None = Unit {0}
IsSettingIfAny (Some s) = IsSetting s

abbrev pub setting_cells_if_any : Option Setting → ℕ → List Cell
setting_cells_if_any None room = []
setting_cells_if_any (Some s) room = setting_cells s room

abbrev pub cells_if_any : Option Expression → ℕ → List Cell
cells_if_any None room = []
cells_if_any (Some e) room = cells e (less room)

-- an `else` that follows would belong to it
abbrev pub is_open : Statement → Bool
is_open (If c a) = true
is_open (IfElse c a b) = is_open b
is_open (While c a) = is_open a
is_open (For i c n a) = is_open a
is_open _ = false

abbrev mutual
  pub IsStatement : Statement → Type 0
  IsStatement (Block ss) = AreStatements ss
  IsStatement Empty = Unit {0}
  IsStatement (Local p r) = IsRightIfAny r
  IsStatement (Assign e r) = (rank e < 2) × IsExpression e × IsRight r
  IsStatement (Call f es) = (rank f < 1) × IsExpression f × AreExpressions es
  IsStatement (If c a) = IsExpression c × IsStatement a
  IsStatement (IfElse c a b) = IsExpression c × IsStatement a × (is_open a ≡ false) × IsStatement b
  IsStatement (While c a) = IsExpression c × IsStatement a
  IsStatement (For i c n a) = IsSettingIfAny i × IsExpressionIfAny c × IsSettingIfAny n × IsStatement a
  IsStatement Break = Unit {0}
  IsStatement Continue = Unit {0}
  IsStatement (Return r) = IsRightIfAny r

  pub AreStatements : Statements → Type 0
  AreStatements Done = Unit {0}
  AreStatements (Then s ss) = IsStatement s × AreStatements ss

-- A statement with this room. What stands before `=` or a call's parenthesis is in one more construct, as is a block.
abbrev mutual
  pub statement_cells : Statement → ℕ → List Cell
  statement_cells (Block ss) room = mark m.LeftBrace (less room) ∷ statements_cells ss (less (less room)) ++ (mark m.RightBrace (less room) ∷ [])
  statement_cells Empty room = mark m.Semicolon room ∷ []
  statement_cells (Local p r) room = parameter_cells p room ++ (start_cells r room ++ (mark m.Semicolon room ∷ []))
  statement_cells (Assign e r) room = cells e room ++ (mark m.Assign room ∷ right_cells r room ++ (mark m.Semicolon room ∷ []))
  statement_cells (Call f es) room = cells f room ++ (call_cells es room ++ (mark m.Semicolon room ∷ []))
  statement_cells (If c a) room = keyword k.If room ∷ mark m.LeftParen room ∷ cells c (less room) ++ (mark m.RightParen room ∷ statement_cells a (less room))
  statement_cells (IfElse c a b) room =
      keyword k.If room ∷ mark m.LeftParen room ∷ cells c (less room) ++ (mark m.RightParen room ∷ statement_cells a (less room) ++ (keyword k.Else room ∷ statement_cells b (less room)))
  statement_cells (While c a) room = keyword k.While room ∷ mark m.LeftParen room ∷ cells c (less room) ++ (mark m.RightParen room ∷ statement_cells a (less room))
  statement_cells (For i c n a) room =
      keyword k.For room ∷ mark m.LeftParen room ∷ setting_cells_if_any i room
      ++ (mark m.Semicolon room ∷ cells_if_any c room ++ (mark m.Semicolon room ∷ setting_cells_if_any n room ++ (mark m.RightParen room ∷ statement_cells a (less room))))
  statement_cells Break room = keyword k.Break room ∷ mark m.Semicolon room ∷ []
  statement_cells Continue room = keyword k.Continue room ∷ mark m.Semicolon room ∷ []
  statement_cells (Return r) room = keyword k.Return room ∷ right_cells_if_any r room ++ (mark m.Semicolon room ∷ [])

  pub statements_cells : Statements → ℕ → List Cell
  statements_cells Done room = []
  statements_cells (Then s ss) room = statement_cells s room ++ statements_cells ss room

abbrev pub block_cells : Statements → ℕ → List Cell
block_cells ss room = mark m.LeftBrace room ∷ statements_cells ss (less room) ++ (mark m.RightBrace room ∷ [])

-- ---- declarations

abbrev pub length_cells : Option Number → ℕ → List Cell
length_cells None room = []
length_cells (Some n) room = mark m.LeftBracket room ∷ at (token.Number n) room ∷ mark m.RightBracket room ∷ []

abbrev pub object_cells : Object → ℕ → List Cell
object_cells (Data t x n) room = type_cells t room ++ (identifier x room ∷ length_cells n room)
object_cells (Pointer t x n ps) room =
    type_cells t room
    ++ (mark m.LeftParen room ∷ mark m.Star room ∷ identifier x room ∷ length_cells n room
    ++ (mark m.RightParen room ∷ mark m.LeftParen room ∷ parameters_cells ps (less room) ++ (mark m.RightParen room ∷ [])))

abbrev pub objects_cells : List Object → ℕ → List Cell
objects_cells [] room = []
objects_cells (o ∷ os) room = object_cells o room ++ (mark m.Semicolon room ∷ objects_cells os room)

abbrev pub comma_cells : Bool → ℕ → List Cell
comma_cells false room = []
comma_cells true room = mark m.Comma room ∷ []

abbrev mutual
  pub IsInitializer : Initializer → Type 0
  IsInitializer (Single e) = IsExpression e
  IsInitializer (Bytes b) = Unit {0}
  IsInitializer (Braces is comma) = (is ≢ NoMore) × AreInitializers is

  pub AreInitializers : Initializers → Type 0
  AreInitializers NoMore = Unit {0}
  AreInitializers (Next i is) = IsInitializer i × AreInitializers is

abbrev mutual
  pub initializer_cells : Initializer → ℕ → List Cell
  initializer_cells (Single e) room = cells e (less room)
  initializer_cells (Bytes b) room = at (token.Text b) room ∷ []
  initializer_cells (Braces is comma) room = mark m.LeftBrace room ∷ initializers_cells is room ++ (comma_cells comma room ++ (mark m.RightBrace room ∷ []))

  pub initializers_cells : Initializers → ℕ → List Cell
  initializers_cells NoMore room = []
  initializers_cells (Next i is) room = initializer_cells i (less room) ++ more_initializers is room

  pub more_initializers : Initializers → ℕ → List Cell
  more_initializers NoMore room = []
  more_initializers (Next i is) room = mark m.Comma room ∷ initializer_cells i (less room) ++ more_initializers is room

abbrev pub IsInitializerIfAny : Option Initializer → Type 0
IsInitializerIfAny None = Unit {0}
IsInitializerIfAny (Some i) = IsInitializer i

abbrev pub initial_cells : Option Initializer → ℕ → List Cell
initial_cells None room = []
initial_cells (Some i) room = mark m.Assign room ∷ initializer_cells i (less room)

abbrev pub IsDeclaration : Declaration → Type 0
IsDeclaration (Record t x fs) = Unit {0}
IsDeclaration (Global o i) = IsInitializerIfAny i
IsDeclaration (Prototype t x ps) = Unit {0}
IsDeclaration (Definition t x ps body) = AreStatements body

abbrev pub head_cells : TypeName → Text → Parameters → ℕ → List Cell
head_cells t x ps room = type_cells t room ++ (identifier x room ∷ mark m.LeftParen room ∷ parameters_cells ps (less room) ++ (mark m.RightParen room ∷ []))

abbrev pub declaration_cells : Declaration → ℕ → List Cell
declaration_cells (Record t x fs) room =
    keyword (tag_keyword t) room ∷ identifier x room ∷ mark m.LeftBrace room ∷ objects_cells fs room ++ (mark m.RightBrace room ∷ mark m.Semicolon room ∷ [])
declaration_cells (Global o i) room = object_cells o room ++ (initial_cells i room ++ (mark m.Semicolon room ∷ []))
declaration_cells (Prototype t x ps) room = head_cells t x ps room ++ (mark m.Semicolon room ∷ [])
declaration_cells (Definition t x ps body) room = head_cells t x ps room ++ block_cells body (less room)
