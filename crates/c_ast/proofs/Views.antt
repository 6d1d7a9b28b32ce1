-- What a contract sees of each tree that code makes.
use Rattle.std.proofs.Common.{◌≡◌, ◌∙◌, refl, sym, ap, ℕ, Bool, List, [], ◌∷◌, ◌++◌, Option}
use Rattle.c_ast.specs.declared.token.Number.{Number}
use Rattle.c_ast.specs.declared.types.TypeName.{TypeName}
use Rattle.c_ast.specs.declared.expr.Access.{Access}
use Rattle.c_ast.specs.declared.expr.UnaryOperator.{UnaryOperator}
use Rattle.c_ast.specs.declared.expr.BinaryOperator.{BinaryOperator}
use Rattle.c_ast.specs.declared.expr.Expr.{Expr, fold-Expr, fold-roll-Expr}
use Rattle.c_ast.specs.declared.expr.Expr.TheOpen as E
use Rattle.c_ast.specs.declared.expr.Expr.TheVariants as Ev
use Rattle.c_ast.specs.declared.stmt.RightSide.{RightSide}
use Rattle.c_ast.specs.declared.stmt.Simple.{Simple}
use Rattle.c_ast.specs.declared.stmt.Param.{Param, fold-Param, fold-roll-Param}
use Rattle.c_ast.specs.declared.stmt.Param.TheOpen as P
use Rattle.c_ast.specs.declared.stmt.Param.TheVariants as Pv
use Rattle.c_ast.specs.declared.stmt.Stmt.{Stmt, fold-Stmt, fold-roll-Stmt}
use Rattle.c_ast.specs.declared.stmt.Stmt.TheOpen as S
use Rattle.c_ast.specs.declared.stmt.Stmt.TheVariants as Sv
use Rattle.c_ast.specs.declared.decl.Init.{Init, fold-Init, fold-roll-Init}
use Rattle.c_ast.specs.declared.decl.Init.TheOpen as I
use Rattle.c_ast.specs.declared.decl.Init.TheVariants as Iv
use Rattle.c_ast.specs.Trees as T
use Rattle.c_ast.specs.Trees.{Text, Expression, Num, Char, Var, Paren, Size, At, Part, Prefix, Convert, Op, Cond, expression, expression_step, expressions, expression_if_any, Parameter, Plain, Function, Also, parameter, parameter_step, parameters_of, parameter_list, parameters, right, right_if_any, setting_if_any, Statement, Then, statement, statement_step, statements_of, statement_list, statements, Initializer, Single, Bytes, Braces, Next, initializer, initializer_step, initializers_of, initializer_list, initializers}

-- ---- expressions

pub expression-Number : (n : Number) → expression (Ev.Number n) ≡ Num n
unfolding expression
expression-Number n = ap (fold-Expr Expression expression_step) (sym (Ev.rolls-Number n)) ∙ fold-roll-Expr Expression expression_step (E.Number n)

pub expression-Character : (c : ℕ) → expression (Ev.Character c) ≡ Char c
unfolding expression
expression-Character c = ap (fold-Expr Expression expression_step) (sym (Ev.rolls-Character c)) ∙ fold-roll-Expr Expression expression_step (E.Character c)

pub expression-Name : (x : Text) → expression (Ev.Name x) ≡ Var x
unfolding expression
expression-Name x = ap (fold-Expr Expression expression_step) (sym (Ev.rolls-Name x)) ∙ fold-roll-Expr Expression expression_step (E.Name x)

pub expression-Group : (e : Expr) → expression (Ev.Group e) ≡ Paren (expression e)
unfolding expression
expression-Group e = ap (fold-Expr Expression expression_step) (sym (Ev.rolls-Group e)) ∙ fold-roll-Expr Expression expression_step (E.Group e)

pub expression-SizeOf : (t : TypeName) → expression (Ev.SizeOf t) ≡ Size t
unfolding expression
expression-SizeOf t = ap (fold-Expr Expression expression_step) (sym (Ev.rolls-SizeOf t)) ∙ fold-roll-Expr Expression expression_step (E.SizeOf t)

pub expression-Index : (b i : Expr) → expression (Ev.Index b i) ≡ At (expression b) (expression i)
unfolding expression
expression-Index b i = ap (fold-Expr Expression expression_step) (sym (Ev.rolls-Index b i)) ∙ fold-roll-Expr Expression expression_step (E.Index b i)

pub expression-Member : (b : Expr) (a : Access) (x : Text) → expression (Ev.Member b a x) ≡ Part (expression b) a x
unfolding expression
expression-Member b a x = ap (fold-Expr Expression expression_step) (sym (Ev.rolls-Member b a x)) ∙ fold-roll-Expr Expression expression_step (E.Member b a x)

pub expression-Unary : (s : UnaryOperator) (e : Expr) → expression (Ev.Unary s e) ≡ Prefix s (expression e)
unfolding expression
expression-Unary s e = ap (fold-Expr Expression expression_step) (sym (Ev.rolls-Unary s e)) ∙ fold-roll-Expr Expression expression_step (E.Unary s e)

pub expression-Cast : (t : TypeName) (e : Expr) → expression (Ev.Cast t e) ≡ Convert t (expression e)
unfolding expression
expression-Cast t e = ap (fold-Expr Expression expression_step) (sym (Ev.rolls-Cast t e)) ∙ fold-roll-Expr Expression expression_step (E.Cast t e)

pub expression-Binary : (op : BinaryOperator) (a b : Expr) → expression (Ev.Binary op a b) ≡ Op op (expression a) (expression b)
unfolding expression
expression-Binary op a b = ap (fold-Expr Expression expression_step) (sym (Ev.rolls-Binary op a b)) ∙ fold-roll-Expr Expression expression_step (E.Binary op a b)

pub expression-Conditional : (c a b : Expr) → expression (Ev.Conditional c a b) ≡ Cond (expression c) (expression a) (expression b)
unfolding expression
expression-Conditional c a b = ap (fold-Expr Expression expression_step) (sym (Ev.rolls-Conditional c a b)) ∙ fold-roll-Expr Expression expression_step (E.Conditional c a b)

pub expressions-last : (es : List Expr) (e : Expr) → expressions (es ++ (e ∷ [])) ≡ expressions es ++ (expression e ∷ [])
expressions-last [] e = refl
expressions-last (x ∷ es) e = ap (λ l. expression x ∷ l) (expressions-last es e)

-- ---- parameters

as_parameters : (ps : List Param) → parameters_of (mathlib.Core.List.map (fold-Param Parameter parameter_step) ps) ≡ parameters ps
unfolding parameter
as_parameters [] = refl
as_parameters (p ∷ ps) = ap (Also (fold-Param Parameter parameter_step p)) (as_parameters ps)

pub parameter-Object : (t : TypeName) (x : Text) → parameter (Pv.Object t x) ≡ Plain t x
unfolding parameter
parameter-Object t x = ap (fold-Param Parameter parameter_step) (sym (Pv.rolls-Object t x)) ∙ fold-roll-Param Parameter parameter_step (P.Object t x)

pub parameter-Function : (t : TypeName) (x : Text) (ps : List Param) → parameter (Pv.Function t x ps) ≡ Function t x (parameters ps)
unfolding parameter
parameter-Function t x ps = ap (fold-Param Parameter parameter_step) (sym (Pv.rolls-Function t x ps)) ∙ fold-roll-Param Parameter parameter_step (P.Function t x ps) ∙ ap (Function t x) (as_parameters ps)

pub parameters_listed : (ps : List Param) → parameters_of (parameter_list ps) ≡ parameters ps
parameters_listed [] = refl
parameters_listed (p ∷ ps) = ap (Also (parameter p)) (parameters_listed ps)

pub parameter_list-last : (ps : List Param) (p : Param) → parameter_list (ps ++ (p ∷ [])) ≡ parameter_list ps ++ (parameter p ∷ [])
parameter_list-last [] p = refl
parameter_list-last (q ∷ ps) p = ap (λ l. parameter q ∷ l) (parameter_list-last ps p)

-- ---- statements

as_statements : (ss : List Stmt) → statements_of (mathlib.Core.List.map (fold-Stmt Statement statement_step) ss) ≡ statements ss
unfolding statement
as_statements [] = refl
as_statements (s ∷ ss) = ap (Then (fold-Stmt Statement statement_step s)) (as_statements ss)

pub statement-Block : (ss : List Stmt) → statement (Sv.Block ss) ≡ T.Block (statements ss)
unfolding statement
statement-Block ss = ap (fold-Stmt Statement statement_step) (sym (Sv.rolls-Block ss)) ∙ fold-roll-Stmt Statement statement_step (S.Block ss) ∙ ap (T.Block) (as_statements ss)

pub statement-Empty : statement Sv.Empty ≡ T.Empty
unfolding statement
statement-Empty = ap (fold-Stmt Statement statement_step) (sym Sv.rolls-Empty) ∙ fold-roll-Stmt Statement statement_step S.Empty

pub statement-Local : (p : Param) (r : Option RightSide) → statement (Sv.Local p r) ≡ T.Local (parameter p) (right_if_any r)
unfolding statement
statement-Local p r = ap (fold-Stmt Statement statement_step) (sym (Sv.rolls-Local p r)) ∙ fold-roll-Stmt Statement statement_step (S.Local p r)

pub statement-Assign : (e : Expr) (r : RightSide) → statement (Sv.Assign e r) ≡ T.Assign (expression e) (right r)
unfolding statement
statement-Assign e r = ap (fold-Stmt Statement statement_step) (sym (Sv.rolls-Assign e r)) ∙ fold-roll-Stmt Statement statement_step (S.Assign e r)

pub statement-Call : (f : Expr) (es : List Expr) → statement (Sv.Call f es) ≡ T.Call (expression f) (expressions es)
unfolding statement
statement-Call f es = ap (fold-Stmt Statement statement_step) (sym (Sv.rolls-Call f es)) ∙ fold-roll-Stmt Statement statement_step (S.Call f es)

pub statement-If : (c : Expr) (a : Stmt) → statement (Sv.If c a) ≡ T.If (expression c) (statement a)
unfolding statement
statement-If c a = ap (fold-Stmt Statement statement_step) (sym (Sv.rolls-If c a)) ∙ fold-roll-Stmt Statement statement_step (S.If c a)

pub statement-IfElse : (c : Expr) (a b : Stmt) → statement (Sv.IfElse c a b) ≡ T.IfElse (expression c) (statement a) (statement b)
unfolding statement
statement-IfElse c a b = ap (fold-Stmt Statement statement_step) (sym (Sv.rolls-IfElse c a b)) ∙ fold-roll-Stmt Statement statement_step (S.IfElse c a b)

pub statement-While : (c : Expr) (a : Stmt) → statement (Sv.While c a) ≡ T.While (expression c) (statement a)
unfolding statement
statement-While c a = ap (fold-Stmt Statement statement_step) (sym (Sv.rolls-While c a)) ∙ fold-roll-Stmt Statement statement_step (S.While c a)

pub statement-For : (i : Option Simple) (c : Option Expr) (n : Option Simple) (a : Stmt) → statement (Sv.For i c n a) ≡ T.For (setting_if_any i) (expression_if_any c) (setting_if_any n) (statement a)
unfolding statement
statement-For i c n a = ap (fold-Stmt Statement statement_step) (sym (Sv.rolls-For i c n a)) ∙ fold-roll-Stmt Statement statement_step (S.For i c n a)

pub statement-Break : statement Sv.Break ≡ T.Break
unfolding statement
statement-Break = ap (fold-Stmt Statement statement_step) (sym Sv.rolls-Break) ∙ fold-roll-Stmt Statement statement_step S.Break

pub statement-Continue : statement Sv.Continue ≡ T.Continue
unfolding statement
statement-Continue = ap (fold-Stmt Statement statement_step) (sym Sv.rolls-Continue) ∙ fold-roll-Stmt Statement statement_step S.Continue

pub statement-Return : (r : Option RightSide) → statement (Sv.Return r) ≡ T.Return (right_if_any r)
unfolding statement
statement-Return r = ap (fold-Stmt Statement statement_step) (sym (Sv.rolls-Return r)) ∙ fold-roll-Stmt Statement statement_step (S.Return r)

pub statements_listed : (ss : List Stmt) → statements_of (statement_list ss) ≡ statements ss
statements_listed [] = refl
statements_listed (s ∷ ss) = ap (Then (statement s)) (statements_listed ss)

pub statement_list-last : (ss : List Stmt) (s : Stmt) → statement_list (ss ++ (s ∷ [])) ≡ statement_list ss ++ (statement s ∷ [])
statement_list-last [] s = refl
statement_list-last (r ∷ ss) s = ap (λ l. statement r ∷ l) (statement_list-last ss s)

-- ---- initialisers

as_initializers : (is : List Init) → initializers_of (mathlib.Core.List.map (fold-Init Initializer initializer_step) is) ≡ initializers is
unfolding initializer
as_initializers [] = refl
as_initializers (i ∷ is) = ap (Next (fold-Init Initializer initializer_step i)) (as_initializers is)

pub initializer-Value : (e : Expr) → initializer (Iv.Value e) ≡ Single (expression e)
unfolding initializer
initializer-Value e = ap (fold-Init Initializer initializer_step) (sym (Iv.rolls-Value e)) ∙ fold-roll-Init Initializer initializer_step (I.Value e)

pub initializer-Text : (b : Text) → initializer (Iv.Text b) ≡ Bytes b
unfolding initializer
initializer-Text b = ap (fold-Init Initializer initializer_step) (sym (Iv.rolls-Text b)) ∙ fold-roll-Init Initializer initializer_step (I.Text b)

pub initializer-List : (is : List Init) (comma : Bool) → initializer (Iv.List is comma) ≡ Braces (initializers is) comma
unfolding initializer
initializer-List is comma = ap (fold-Init Initializer initializer_step) (sym (Iv.rolls-List is comma)) ∙ fold-roll-Init Initializer initializer_step (I.List is comma) ∙ ap (λ l. Braces l comma) (as_initializers is)

pub initializers_listed : (is : List Init) → initializers_of (initializer_list is) ≡ initializers is
initializers_listed [] = refl
initializers_listed (i ∷ is) = ap (Next (initializer i)) (initializers_listed is)

pub initializer_list-last : (is : List Init) (i : Init) → initializer_list (is ++ (i ∷ [])) ≡ initializer_list is ++ (initializer i ∷ [])
initializer_list-last [] i = refl
initializer_list-last (j ∷ is) i = ap (λ l. initializer j ∷ l) (initializer_list-last is i)

pub ruleset views = (expression-Number, expression-Character, expression-Name, expression-Group, expression-SizeOf, expression-Index, expression-Member, expression-Unary, expression-Cast, expression-Binary, expression-Conditional, parameter-Object, parameter-Function, statement-Block, statement-Empty, statement-Local, statement-Assign, statement-Call, statement-If, statement-IfElse, statement-While, statement-For, statement-Break, statement-Continue, statement-Return, initializer-Value, initializer-Text, initializer-List)
