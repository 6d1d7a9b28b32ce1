-- Statements leave what is declared outside their function as it was.
use Rattle.std.proofs.Common.{◌≡◌, ◌∙◌, refl, ℕ, Option, Some, None}
use Rattle.c_ast.specs.Trees.{Text, Parameters, NoParameter, Also, Statement, Statements, Block, Empty, Local, Assign, Call, If, IfElse, While, For, Break, Continue, Return, Done, Then}
use Rattle.c_check_scope.specs.declared.scope.Scope.{Scope}
use Rattle.c_check_scope.specs.declared.scope.Meaning.{Meaning}
use Rattle.c_check_scope.specs.Names.{meaning_of}
use Rattle.c_check_stmt.specs.declared.state.State.{State}
use Rattle.c_check_stmt.specs.declared.state.Frame.{Frame}
use Rattle.c_check_stmt.specs.Variables.{bare, with_variable, with_variable_in, with_parameter, with_parameters}
use Rattle.c_check_stmt.specs.Simple.{after_local}
use Rattle.c_check_stmt.specs.Statements.{after, after_all}
use Rattle.c_check_stmt.specs.Bodies.{start}

with_variable_in-bare : (scope : Scope) (x : Text) (t : ℕ) (m : Option Meaning) → bare (with_variable_in scope x t m) ≡ bare scope
with_variable_in-bare scope x t None = refl
with_variable_in-bare scope x t (Some m) = refl

with_variable-bare : (scope : Scope) (x : Text) (t : ℕ) → bare (with_variable scope x t) ≡ bare scope
unfolding with_variable
with_variable-bare scope x t = with_variable_in-bare scope x t (meaning_of scope x)

with_parameters-bare : (scope : Scope) (ps : Parameters) → bare (with_parameters scope ps) ≡ bare scope
with_parameters-bare scope NoParameter = refl
with_parameters-bare scope (Also p ps) =
    with_parameters-bare (with_parameter scope p) ps ∙ with_variable-bare scope _ _

mutual
  unfolding after_local

  after-bare : (f : Frame) (s : State) (a : Statement) → bare (after f s a).scope ≡ bare s.scope
  after-bare f s (Block list) = after_all-bare f s list
  after-bare f s Empty = refl
  after-bare f s (Local p r) = with_variable-bare s.scope _ _
  after-bare f s (Assign e r) = refl
  after-bare f s (Call callee es) = refl
  after-bare f s (If e a) = after-bare f s a
  after-bare f s (IfElse e a b) = after-bare f (after f s a) b ∙ after-bare f s a
  after-bare f s (While e body) = after-bare f s body
  after-bare f s (For first e step body) = after-bare f s body
  after-bare f s Break = refl
  after-bare f s Continue = refl
  after-bare f s (Return r) = refl

  after_all-bare : (f : Frame) (s : State) (list : Statements) → bare (after_all f s list).scope ≡ bare s.scope
  after_all-bare f s Done = refl
  after_all-bare f s (Then a rest) = after_all-bare f (after f s a) rest ∙ after-bare f s a

-- the scope behind a body
pub body_bare : (f : Frame) (scope : Scope) (ps : Parameters) (list : Statements) → bare (after_all f (start scope ps) list).scope ≡ bare scope
body_bare f scope ps list = after_all-bare f (start scope ps) list ∙ with_parameters-bare scope ps
