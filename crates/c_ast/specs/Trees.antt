-- The trees of src/ as plain data: what a contract sees of them.
use Rattle.std.specs.Prelude.{ℕ, Bool, List, [], ◌∷◌, Option, Some, None}
use Rattle.c_ast.specs.declared.token.Number.{Number}
use Rattle.c_ast.specs.declared.types.TagKind.{TagKind}
use Rattle.c_ast.specs.declared.types.TypeName.{TypeName}
use Rattle.c_ast.specs.declared.expr.Access.{Access}
use Rattle.c_ast.specs.declared.expr.UnaryOperator.{UnaryOperator}
use Rattle.c_ast.specs.declared.expr.BinaryOperator.{BinaryOperator}
use Rattle.c_ast.specs.declared.expr.Expr.{Expr, fold-Expr}
use Rattle.c_ast.specs.declared.expr.Expr.TheOpen as E
use Rattle.c_ast.specs.declared.stmt.Param.{Param, fold-Param}
use Rattle.c_ast.specs.declared.stmt.Param.TheOpen as P
use Rattle.c_ast.specs.declared.stmt.RightSide.{RightSide}
use Rattle.c_ast.specs.declared.stmt.RightSide.TheVariants as R
use Rattle.c_ast.specs.declared.stmt.Simple.{Simple}
use Rattle.c_ast.specs.declared.stmt.Stmt.{Stmt, fold-Stmt}
use Rattle.c_ast.specs.declared.stmt.Stmt.TheOpen as S
use Rattle.c_ast.specs.declared.decl.Named.{Named}
use Rattle.c_ast.specs.declared.decl.Named.TheVariants as N
use Rattle.c_ast.specs.declared.decl.Init.{Init, fold-Init}
use Rattle.c_ast.specs.declared.decl.Init.TheOpen as I
use Rattle.c_ast.specs.declared.decl.Decl.{Decl}
use Rattle.c_ast.specs.declared.decl.Decl.TheVariants as D

-- a name is its bytes
abbrev pub Text : Type 0
Text = List ℕ

-- ---- expressions

pub data Expression : Type 0 where
  Num : Number → Expression
  Char : ℕ → Expression
  Var : Text → Expression
  Paren : Expression → Expression
  Size : TypeName → Expression
  At : Expression → Expression → Expression
  Part : Expression → Access → Text → Expression
  Prefix : UnaryOperator → Expression → Expression
  Convert : TypeName → Expression → Expression
  Op : BinaryOperator → Expression → Expression → Expression
  Cond : Expression → Expression → Expression → Expression

abbrev pub expression_step : E.Expr-F Expression → Expression
expression_step (E.Number n) = Num n
expression_step (E.Character c) = Char c
expression_step (E.Name x) = Var x
expression_step (E.Group e) = Paren e
expression_step (E.SizeOf t) = Size t
expression_step (E.Index b i) = At b i
expression_step (E.Member b a x) = Part b a x
expression_step (E.Unary s e) = Prefix s e
expression_step (E.Cast t e) = Convert t e
expression_step (E.Binary op a b) = Op op a b
expression_step (E.Conditional c a b) = Cond c a b

unfoldable pub expression : Expr → Expression
expression = fold-Expr Expression expression_step

abbrev pub expressions : List Expr → List Expression
expressions [] = []
expressions (e ∷ es) = expression e ∷ expressions es

abbrev pub expression_if_any : Option Expr → Option Expression
expression_if_any None = None
expression_if_any (Some e) = Some (expression e)

-- ---- parameters

mutual
  pub data Parameter : Type 0 where
    Plain : TypeName → Text → Parameter
    Function : TypeName → Text → Parameters → Parameter

  -- none is written `void`
  pub data Parameters : Type 0 where
    NoParameter : Parameters
    Also : Parameter → Parameters → Parameters

abbrev pub parameters_of : List Parameter → Parameters
parameters_of [] = NoParameter
parameters_of (p ∷ ps) = Also p (parameters_of ps)

abbrev pub parameter_step : P.Param-F Parameter → Parameter
parameter_step (P.Object t x) = Plain t x
parameter_step (P.Function t x ps) = Function t x (parameters_of ps)

unfoldable pub parameter : Param → Parameter
parameter = fold-Param Parameter parameter_step

abbrev pub parameter_list : List Param → List Parameter
parameter_list [] = []
parameter_list (p ∷ ps) = parameter p ∷ parameter_list ps

abbrev pub parameters : List Param → Parameters
parameters [] = NoParameter
parameters (p ∷ ps) = Also (parameter p) (parameters ps)

-- ---- statements

pub data Right : Type 0 where
  Invoke : Expression → List Expression → Right
  Value : Expression → Right

abbrev pub right : RightSide → Right
right (R.Call f es) = Invoke (expression f) (expressions es)
right (R.Value e) = Value (expression e)

abbrev pub right_if_any : Option RightSide → Option Right
right_if_any None = None
right_if_any (Some r) = Some (right r)

-- a place and the value that it is given
pub record Setting : Type 0 where
  pub place : Expression
  pub value : Expression

abbrev pub setting : Simple → Setting
setting s = record { place = expression s.place; value = expression s.value }

abbrev pub setting_if_any : Option Simple → Option Setting
setting_if_any None = None
setting_if_any (Some s) = Some (setting s)

mutual
  pub data Statement : Type 0 where
    Block : Statements → Statement
    Empty : Statement
    Local : Parameter → Option Right → Statement
    Assign : Expression → Right → Statement
    Call : Expression → List Expression → Statement
    If : Expression → Statement → Statement
    IfElse : Expression → Statement → Statement → Statement
    While : Expression → Statement → Statement
    For : Option Setting → Option Expression → Option Setting → Statement → Statement
    Break : Statement
    Continue : Statement
    Return : Option Right → Statement

  pub data Statements : Type 0 where
    Done : Statements
    Then : Statement → Statements → Statements

abbrev pub statements_of : List Statement → Statements
statements_of [] = Done
statements_of (s ∷ ss) = Then s (statements_of ss)

abbrev pub statement_step : S.Stmt-F Statement → Statement
statement_step (S.Block ss) = Block (statements_of ss)
statement_step S.Empty = Empty
statement_step (S.Local p r) = Local (parameter p) (right_if_any r)
statement_step (S.Assign e r) = Assign (expression e) (right r)
statement_step (S.Call f es) = Call (expression f) (expressions es)
statement_step (S.If c a) = If (expression c) a
statement_step (S.IfElse c a b) = IfElse (expression c) a b
statement_step (S.While c a) = While (expression c) a
statement_step (S.For i c n a) = For (setting_if_any i) (expression_if_any c) (setting_if_any n) a
statement_step S.Break = Break
statement_step S.Continue = Continue
statement_step (S.Return r) = Return (right_if_any r)

unfoldable pub statement : Stmt → Statement
statement = fold-Stmt Statement statement_step

abbrev pub statement_list : List Stmt → List Statement
statement_list [] = []
statement_list (s ∷ ss) = statement s ∷ statement_list ss

abbrev pub statements : List Stmt → Statements
statements [] = Done
statements (s ∷ ss) = Then (statement s) (statements ss)

abbrev pub statement_if_any : Option Stmt → Option Statement
statement_if_any None = None
statement_if_any (Some s) = Some (statement s)

-- ---- declarations

-- a type, a name and perhaps a length; for a function pointer its parameters too
pub data Object : Type 0 where
  Data : TypeName → Text → Option Number → Object
  Pointer : TypeName → Text → Option Number → Parameters → Object

abbrev pub object : Named → Object
object (N.Object t x n) = Data t x n
object (N.Function t x n ps) = Pointer t x n (parameters ps)

abbrev pub objects : List Named → List Object
objects [] = []
objects (n ∷ ns) = object n ∷ objects ns

mutual
  pub data Initializer : Type 0 where
    Single : Expression → Initializer
    Bytes : Text → Initializer
    Braces : Initializers → Bool → Initializer

  pub data Initializers : Type 0 where
    NoMore : Initializers
    Next : Initializer → Initializers → Initializers

abbrev pub initializers_of : List Initializer → Initializers
initializers_of [] = NoMore
initializers_of (i ∷ is) = Next i (initializers_of is)

abbrev pub initializer_step : I.Init-F Initializer → Initializer
initializer_step (I.Value e) = Single (expression e)
initializer_step (I.Text b) = Bytes b
initializer_step (I.List is comma) = Braces (initializers_of is) comma

unfoldable pub initializer : Init → Initializer
initializer = fold-Init Initializer initializer_step

abbrev pub initializer_list : List Init → List Initializer
initializer_list [] = []
initializer_list (i ∷ is) = initializer i ∷ initializer_list is

abbrev pub initializers : List Init → Initializers
initializers [] = NoMore
initializers (i ∷ is) = Next (initializer i) (initializers is)

abbrev pub initializer_if_any : Option Init → Option Initializer
initializer_if_any None = None
initializer_if_any (Some i) = Some (initializer i)

pub data Declaration : Type 0 where
  Record : TagKind → Text → List Object → Declaration
  Global : Object → Option Initializer → Declaration
  Prototype : TypeName → Text → Parameters → Declaration
  Definition : TypeName → Text → Parameters → Statements → Declaration

abbrev pub declaration : Decl → Declaration
declaration (D.Record k x fs) = Record k x (objects fs)
declaration (D.Global n i) = Global (object n) (initializer_if_any i)
declaration (D.Prototype t x ps) = Prototype t x (parameters ps)
declaration (D.Function t x ps body) = Definition t x (parameters ps) (statements body)

abbrev pub declarations : List Decl → List Declaration
declarations [] = []
declarations (d ∷ ds) = declaration d ∷ declarations ds
