-- Statements in order: what each is, and what is known after it.
use Rattle.std.specs.Prelude.{Bool, true, List, [], ◌∷◌, ◌++◌, Option, Ok}
use Rattle.lu_spec.specs.Then.{then_do}
use Rattle.c_ast.specs.Trees.{Statement, Statements, Block, Empty, Local, Assign, Call, If, IfElse, While, For, Break, Continue, Return, Done, Then}
use Rattle.src_tree.specs.declared.expr.TypedExpr.{TypedExpr}
use Rattle.src_tree.specs.declared.stmt.TypedStmt.{TypedStmt}
use Rattle.src_tree.specs.declared.stmt.TypedStmt as T
use Rattle.c_check_expr.specs.declared.calls.Position.TheVariants as P
use Rattle.c_check_scope.specs.Rules.{Checked, both}
use Rattle.c_check_expr.specs.Uses.{condition}
use Rattle.c_check_stmt.specs.declared.state.State.{State}
use Rattle.c_check_stmt.specs.declared.state.Frame.{Frame}
use Rattle.c_check_stmt.specs.declared.making.Head.{Head}
use Rattle.c_check_stmt.specs.Rights.{after_call, after_right, after_if_any}
use Rattle.c_check_stmt.specs.Simple.{local, after_local, assignment, called, jump, returned, setting_list, condition_if_any}

-- ---- statements made of typed parts

unfoldable pub made_block : Checked (List TypedStmt) → Checked TypedStmt
made_block body = then_do body (λ list. Ok (T.Block list))

unfoldable pub made_if : Checked TypedExpr → Checked TypedStmt → Checked TypedStmt
made_if e a = then_do (both e a) (λ v. Ok (T.If v.0 v.1 []))

-- a condition and a statement with the statement of the `else`
unfoldable pub with_else : Checked (TypedExpr × TypedStmt) → Checked TypedStmt → Checked TypedStmt
with_else front b = then_do (both front b) (λ v. Ok (T.If v.0.0 v.0.1 (v.1 ∷ [])))

abbrev pub made_if_else : Checked TypedExpr → Checked TypedStmt → Checked TypedStmt → Checked TypedStmt
made_if_else e a b = with_else (both e a) b

unfoldable pub made_while : Checked TypedExpr → Checked TypedStmt → Checked TypedStmt
made_while e body = then_do (both e body) (λ v. Ok (T.While v.0 v.1))

-- what stands first in a `for` and its condition, with what is done after each turn
unfoldable pub with_step : Checked (List TypedStmt × Option TypedExpr) → Checked (List TypedStmt) → Checked Head
with_step front step = then_do (both front step) (λ v. Ok (record { first = v.0.0; test = v.0.1; step = v.1 }))

abbrev pub made_head : Checked (List TypedStmt) → Checked (Option TypedExpr) → Checked (List TypedStmt) → Checked Head
made_head first e step = with_step (both first e) step

unfoldable pub made_for : Checked Head → Checked TypedStmt → Checked TypedStmt
made_for head body = then_do (both head body) (λ v. Ok (T.For v.0.first v.0.test v.0.step v.1))

unfoldable pub one_more : Checked (List TypedStmt) → Checked TypedStmt → Checked (List TypedStmt)
one_more done next = then_do (both done next) (λ v. Ok (v.0 ++ (v.1 ∷ [])))

-- ---- what is known after a statement

abbrev mutual
  -- a block is no scope of its own: a local is declared to the end of the function
  pub after : Frame → State → Statement → State
  after f s (Block list) = after_all f s list
  after f s Empty = s
  after f s (Local p r) = after_local f s p r
  after f s (Assign e r) = after_right f s P.RightSide r
  after f s (Call callee es) = after_call f s P.Statement callee es
  after f s (If e a) = after f s a
  after f s (IfElse e a b) = after f (after f s a) b
  after f s (While e body) = after f s body
  after f s (For first e step body) = after f s body
  after f s Break = s
  after f s Continue = s
  after f s (Return r) = after_if_any f s P.Return r

  pub after_all : Frame → State → Statements → State
  after_all f s Done = s
  after_all f s (Then a rest) = after_all f (after f s a) rest

-- ---- statements

abbrev mutual
  -- a statement, inside a loop or not
  pub typed_statement : Frame → Bool → State → Statement → Checked TypedStmt
  typed_statement f inside s (Block list) = made_block (typed_statements f inside s (Ok []) list)
  typed_statement f inside s Empty = Ok T.Empty
  typed_statement f inside s (Local p r) = local f s p r
  typed_statement f inside s (Assign e r) = assignment f s e r
  typed_statement f inside s (Call callee es) = called f s callee es
  typed_statement f inside s (If e a) = made_if (condition s.scope e) (typed_statement f inside s a)
  typed_statement f inside s (IfElse e a b) =
      made_if_else (condition s.scope e) (typed_statement f inside s a) (typed_statement f inside (after f s a) b)
  typed_statement f inside s (While e body) = made_while (condition s.scope e) (typed_statement f true s body)
  typed_statement f inside s (For first e step body) =
      made_for (made_head (setting_list s.scope first) (condition_if_any s.scope e) (setting_list s.scope step)) (typed_statement f true s body)
  typed_statement f inside s Break = jump inside T.Break
  typed_statement f inside s Continue = jump inside T.Continue
  typed_statement f inside s (Return r) = returned f s r

  -- statements in order, behind others
  pub typed_statements : Frame → Bool → State → Checked (List TypedStmt) → Statements → Checked (List TypedStmt)
  typed_statements f inside s done Done = done
  typed_statements f inside s done (Then a rest) =
      typed_statements f inside (after f s a) (one_more done (typed_statement f inside s a)) rest
