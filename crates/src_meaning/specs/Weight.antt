-- The weight of a function: one for each statement in its body, the assignments of a `for` too; one for each variable,
-- number, `sizeof` and operator of its expressions and places, one for each function's name that stands as a value,
-- and one for each call. The body's own block and conversions that the text doesn't write add nothing.
use Rattle.std.specs.Prelude.{ℕ, ◌+◌, List, [], ◌∷◌, Option}
use Rattle.std.specs.Option.{option_map_or}
use Rattle.src_tree.specs.declared.expr.TypedExpr.{TypedExpr}
use Rattle.src_tree.specs.declared.expr.ExprKind.{ExprKind, Number, SizeOf, Local, Function as Function_name, Load', AddressOf', Decay', Cast', Convert', Unary', Binary', Logical', Conditional', Row_of-TypedExpr, end_of-TypedExpr, more_of-TypedExpr}
use Rattle.src_tree.specs.declared.expr.PlaceKind.{PlaceKind, Global, Deref', Arrow', Item', Element', Field', Member', Row_of-TypedPlace, end_of-TypedPlace, more_of-TypedPlace}
use Rattle.src_tree.specs.declared.stmt.Callee.{Callee}
use Rattle.src_tree.specs.declared.stmt.Callee.TheVariants.{Pointer, Malloc, Calloc}
use Rattle.src_tree.specs.declared.stmt.Call as Text
use Rattle.src_tree.specs.declared.stmt.Rhs.{Rhs}
use Rattle.src_tree.specs.declared.stmt.Rhs.TheVariants.{Value as Plain, Call as Result_of}
use Rattle.src_tree.specs.declared.stmt.TypedStmt.{TypedStmt, Block', Empty, Declare, SetLocal, Assign, Call, If', While', For', Break, Continue, Return, Row_of-TypedStmt, end_of-TypedStmt, more_of-TypedStmt}
use Rattle.src_tree.specs.declared.program.Function.{Function}

abbrev mutual
  pub expr_weight : ExprKind → ℕ
  expr_weight (Number z) = 1
  expr_weight (SizeOf t) = 1
  expr_weight (Local x) = 1
  expr_weight (Function_name f) = 1
  expr_weight (Load' m e) = place_row_weight e
  expr_weight (AddressOf' m e) = 1 + place_row_weight e
  expr_weight (Decay' m e) = place_row_weight e
  expr_weight (Cast' m e) = 1 + expr_row_weight e
  expr_weight (Convert' m e) = expr_row_weight e
  expr_weight (Unary' op m e) = 1 + expr_row_weight e
  expr_weight (Binary' op m a n b) = 1 + expr_row_weight a + expr_row_weight b
  expr_weight (Logical' op m a n b) = 1 + expr_row_weight a + expr_row_weight b
  expr_weight (Conditional' m c n a k b) = 1 + expr_row_weight c + expr_row_weight a + expr_row_weight b

  pub expr_row_weight : {m : _} → Row_of-TypedExpr m → ℕ
  expr_row_weight end_of-TypedExpr = 0
  expr_row_weight (more_of-TypedExpr ty kind rest) = expr_weight kind

  pub place_weight : PlaceKind → ℕ
  place_weight (Global g) = 1
  place_weight (Deref' m e) = 1 + expr_row_weight e
  place_weight (Arrow' m e) = expr_row_weight e
  place_weight (Item' m p n i) = 1 + expr_row_weight p + expr_row_weight i
  place_weight (Element' m a n i) = 1 + place_row_weight a + expr_row_weight i
  place_weight (Field' m e k) = 1 + place_row_weight e
  place_weight (Member' m e k) = 1 + place_row_weight e

  pub place_row_weight : {m : _} → Row_of-TypedPlace m → ℕ
  place_row_weight end_of-TypedPlace = 0
  place_row_weight (more_of-TypedPlace ty kind rest) = place_weight kind

abbrev pub exprs_weight : List TypedExpr → ℕ
exprs_weight [] = 0
exprs_weight (e ∷ es) = expr_weight e.kind + exprs_weight es

-- the callee, where it is a value, and the `sizeof` of an allocation
abbrev pub callee_weight : Callee → ℕ
callee_weight (Pointer e) = expr_weight e.kind
callee_weight (Malloc site) = 1
callee_weight (Calloc site) = 1
callee_weight _ = 0

abbrev pub call_weight : Text.Call → ℕ
call_weight c = 1 + callee_weight c.callee + exprs_weight c.args

abbrev pub rhs_weight : Rhs → ℕ
rhs_weight (Plain e) = expr_weight e.kind
rhs_weight (Result_of c t) = call_weight c

abbrev pub condition_weight : Option TypedExpr → ℕ
condition_weight e = option_map_or (λ e. expr_weight e.kind) e 0

abbrev mutual
  pub statement_weight : TypedStmt → ℕ
  statement_weight (Block' m body) = 1 + row_weight body
  statement_weight Empty = 1
  statement_weight (Declare x r) = 1 + option_map_or rhs_weight r 0
  statement_weight (SetLocal x r) = 2 + rhs_weight r
  statement_weight (Assign to r) = 1 + place_weight to.kind + rhs_weight r
  statement_weight (Call c) = 1 + call_weight c
  statement_weight (If' e m a n b) = 1 + expr_weight e.kind + row_weight a + row_weight b
  statement_weight (While' e m body) = 1 + expr_weight e.kind + row_weight body
  statement_weight (For' m first e n step k body) =
      1 + row_weight first + condition_weight e + row_weight step + row_weight body
  statement_weight Break = 1
  statement_weight Continue = 1
  statement_weight (Return r) = 1 + option_map_or rhs_weight r 0

  pub row_weight : {m : _} → Row_of-TypedStmt m → ℕ
  row_weight end_of-TypedStmt = 0
  row_weight (more_of-TypedStmt x rest) = statement_weight x + row_weight rest

abbrev pub body_weight : List TypedStmt → ℕ
body_weight [] = 0
body_weight (x ∷ rest) = statement_weight x + body_weight rest

-- the weight of a function
abbrev pub weight : Function → ℕ
weight f = body_weight f.body
