-- Reading statements from left to right: what each function of src/ gives.
use Rattle.std.specs.Prelude.{ℕ, zero, suc, Bool, false, not, cond, ◌||◌, ◌&&◌, nat_eq, List, [], ◌∷◌, length, Option, Some, None, Err}
use Rattle.c_ast.specs.declared.token.Token.{Token}
use Rattle.c_ast.specs.declared.token.Mark.TheVariants as m
use Rattle.c_ast.specs.declared.token.Keyword.TheVariants as k
use Rattle.c_ast.specs.declared.fault.Fault.TheVariants.{Syntax}
use Rattle.c_ast.specs.Trees.{Expression, Parameters, Right, Invoke, Value, Setting, Statement, Block, Empty, Local, Assign, Call, If, IfElse, While, For, Break, Continue, Return, Statements, statements_of}
use Rattle.c_ast.specs.Grammar.{rank}
use Rattle.c_parse_expr.specs.Reads.{Reader, build, ◌⊳◌, then_by, choose, optional, unless, at_limit, climb, snoc, some_of, list_if_any}
use Rattle.c_parse_expr.specs.Reading.{is_mark, sees, sees_keyword, expect, expect_keyword, begins, begins_type, unary, expr}
use Rattle.c_parse.specs.Parameters.{param, params}

-- ---- calls and right sides

unfoldable pub next_argument : Reader Expression → Reader Expression
next_argument inner = build (λ p. p.1) (expect m.Comma ⊳ inner)

unfoldable pub some_arguments : Reader Expression → Reader (List Expression)
some_arguments inner = some_of inner (sees m.Comma) (next_argument inner)

unfoldable pub arguments : Reader Expression → Reader (List Expression)
arguments inner = build list_if_any (unless (sees m.RightParen) (some_arguments inner))

unfoldable pub call : Reader Expression → Reader (List Expression)
call inner = build (λ p. p.1.0) (expect m.LeftParen ⊳ (arguments inner ⊳ expect m.RightParen))

abbrev pub is_postfix : Expression → Bool
is_postfix e = nat_eq (rank e) 0

-- the expression is a callee
abbrev pub calls : Expression → List Token → Bool
calls e ts = is_postfix e && sees m.LeftParen ts

abbrev pub right_by : Expression → Option (List Expression) → Right
right_by e None = Value e
right_by e (Some es) = Invoke e es

unfoldable pub call_if_any : Reader Expression → Expression → Reader (Option (List Expression))
call_if_any inner e = optional (calls e) (call inner)

unfoldable pub right : Reader Expression → Reader Right
right inner = build (λ p. right_by p.0 p.1) (then_by inner (call_if_any inner))

-- ---- statements without a statement in them

unfoldable pub start_value : Reader Expression → Reader Right
start_value inner = build (λ p. p.1) (expect m.Assign ⊳ right inner)

unfoldable pub start : Reader Expression → Reader (Option Right)
start inner = optional (sees m.Assign) (start_value inner)

unfoldable pub local : Reader Parameters → Reader Expression → Reader Statement
local params inner = build (λ p. Local p.0 p.1.0) (param params ⊳ (start inner ⊳ expect m.Semicolon))

unfoldable pub setting : Reader Expression → Reader Expression → Reader Setting
setting operand inner = build (λ p. record { place = p.0; value = p.1.1 }) (operand ⊳ (expect m.Assign ⊳ inner))

-- what follows a place or a callee
pub data Tail : Type 0 where
  Assigned : Right → Tail
  Called : List Expression → Tail

unfoldable pub assigned : Reader Expression → Reader Tail
assigned inner = build (λ p. Assigned p.1.0) (expect m.Assign ⊳ (right inner ⊳ expect m.Semicolon))

unfoldable pub called : Reader Expression → Reader Tail
called inner = build (λ p. Called p.0) (call inner ⊳ expect m.Semicolon)

abbrev pub only_after : Bool → Reader Tail → Reader Tail
only_after b r ts = cond b (r ts) (Err Syntax)

unfoldable pub tail : Reader Expression → Expression → Reader Tail
tail inner e = choose (sees m.Assign) (assigned inner) (only_after (is_postfix e) (called inner))

abbrev pub statement_by : Expression → Tail → Statement
statement_by e (Assigned r) = Assign e r
statement_by e (Called es) = Call e es

unfoldable pub simple : Reader Expression → Reader Expression → Reader Statement
simple operand inner = build (λ p. statement_by p.0 p.1) (then_by operand (tail inner))

unfoldable pub leave : Reader Expression → Reader Statement
leave inner = build (λ p. Return p.1.0) (expect_keyword k.Return ⊳ (unless (sees m.Semicolon) (right inner) ⊳ expect m.Semicolon))

unfoldable pub break_off : Reader Statement
break_off = build (λ p. Break) (expect_keyword k.Break ⊳ expect m.Semicolon)

unfoldable pub go_on : Reader Statement
go_on = build (λ p. Continue) (expect_keyword k.Continue ⊳ expect m.Semicolon)

unfoldable pub empty : Reader Statement
empty = build (λ u. Empty) (expect m.Semicolon)

-- ---- statements with statements in them

unfoldable pub condition : Reader Expression → Reader Expression
condition inner = build (λ p. p.1.0) (expect m.LeftParen ⊳ (inner ⊳ expect m.RightParen))

unfoldable pub otherwise : Reader Statement → Reader Statement
otherwise stmt = build (λ p. p.1) (expect_keyword k.Else ⊳ stmt)

unfoldable pub otherwise_if_any : Reader Statement → Reader (Option Statement)
otherwise_if_any stmt = optional (sees_keyword k.Else) (otherwise stmt)

abbrev pub if_by : Expression → Statement → Option Statement → Statement
if_by c a None = If c a
if_by c a (Some b) = IfElse c a b

unfoldable pub branch : Reader Expression → Reader Statement → Reader Statement
branch inner stmt = build (λ p. if_by p.1.0 p.1.1.0 p.1.1.1) (expect_keyword k.If ⊳ (condition inner ⊳ (stmt ⊳ otherwise_if_any stmt)))

unfoldable pub repeat : Reader Expression → Reader Statement → Reader Statement
repeat inner stmt = build (λ p. While p.1.0 p.1.1) (expect_keyword k.While ⊳ (condition inner ⊳ stmt))

-- what stands between the parentheses of a `for`
abbrev pub Head : Type 0
Head = Option Setting × (Option Expression × Option Setting)

unfoldable pub head : Reader Expression → Reader Expression → Reader Head
head operand inner = build (λ p. (p.1.0, (p.1.1.1.0, p.1.1.1.1.1.0)))
    (expect m.LeftParen ⊳ (unless (sees m.Semicolon) (setting operand inner) ⊳ (expect m.Semicolon ⊳ (unless (sees m.Semicolon) inner ⊳ (expect m.Semicolon ⊳ (unless (sees m.RightParen) (setting operand inner) ⊳ expect m.RightParen))))))

unfoldable pub counted : Reader Expression → Reader Expression → Reader Statement → Reader Statement
counted operand inner stmt = build (λ p. For p.1.0.0 p.1.0.1.0 p.1.0.1.1 p.1.1) (expect_keyword k.For ⊳ (head operand inner ⊳ stmt))

-- a statement or the end of the block is to come
abbrev pub more_items : List Token → Bool
more_items [] = false
more_items (t ∷ ts) = not (is_mark m.RightBrace t)

unfoldable pub body : Reader Statement → Reader (List Statement)
body stmt ts = climb more_items stmt snoc (length ts) [] ts

unfoldable pub braces : Reader Statement → Reader Statements
braces stmt = build (λ p. statements_of p.1.0) (expect m.LeftBrace ⊳ (body stmt ⊳ expect m.RightBrace))

-- ---- by the first token

abbrev pub begins_keyword : List Token → Bool
begins_keyword ts = sees_keyword k.If ts || sees_keyword k.While ts || sees_keyword k.For ts || sees_keyword k.Break ts || sees_keyword k.Continue ts || sees_keyword k.Return ts

unfoldable pub by_keyword : Reader Expression → Reader Expression → Reader Statement → Reader Statement
by_keyword operand inner stmt =
    choose (sees_keyword k.If) (branch inner stmt)
    (choose (sees_keyword k.While) (repeat inner stmt)
    (choose (sees_keyword k.For) (counted operand inner stmt)
    (choose (sees_keyword k.Break) break_off
    (choose (sees_keyword k.Continue) go_on (leave inner)))))

abbrev pub begins_statement : List Token → Bool
begins_statement ts = sees m.LeftBrace ts || sees m.Semicolon ts || begins_type ts || begins_keyword ts || begins ts

unfoldable pub by_first : Reader Parameters → Reader Expression → Reader Expression → Reader Statements → Reader Statement → Reader Statement
by_first params operand inner block stmt =
    choose (sees m.LeftBrace) (build Block block)
    (choose (sees m.Semicolon) empty
    (choose begins_type (local params inner)
    (choose begins_keyword (by_keyword operand inner stmt) (simple operand inner))))

unfoldable mutual
  pub block : ℕ → Reader Statements
  block zero ts = at_limit (sees m.LeftBrace) ts
  block (suc room) ts = braces (stmt room) ts

  pub stmt : ℕ → Reader Statement
  stmt zero ts = at_limit begins_statement ts
  stmt (suc room) ts = by_first (params room) (unary room) (expr room) (block room) (stmt room) ts
