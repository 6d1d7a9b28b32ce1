-- The equations of reading, by how much room is left.
use Rattle.std.proofs.Common.{◌≡◌, refl, ℕ, zero, suc, ◌-◌, ◌<◌, true, List, [], ◌∷◌, length, arith}
use Rattle.c_ast.specs.declared.token.Token.{Token}
use Rattle.c_ast.specs.declared.token.Mark.{Mark}
use Rattle.c_ast.specs.declared.token.Mark.TheVariants.{LeftBrace}
use Rattle.c_parse_expr.specs.Reads.{at_limit}
use Rattle.c_parse_expr.specs.Reading.{sees, begins_type, unary, expr}
use Rattle.c_parse.specs.Parameters.{params, params_by}
use Rattle.c_parse.specs.Statements.{begins_statement, more_items, block, stmt, braces, by_first}
use Rattle.c_parse.specs.Declarations.{init, init_by, begins_init, sees_next}

pub params_none : (room : ℕ) (ts : List Token) → room ≡ 0 → params room ts ≡ at_limit begins_type ts
unfolding params
params_none zero ts e = refl
params_none (suc room) ts e = absurd (omega arith)

pub params_some : (room : ℕ) (ts : List Token) → ¬ (room ≡ 0) → params room ts ≡ params_by (params (room - 1)) ts
unfolding params
params_some zero ts n = absurd (n refl)
params_some (suc room) ts n = let one : room ≡ suc room - 1 = omega arith in λ i. params_by (params (one i)) ts

pub init_none : (room : ℕ) (ts : List Token) → room ≡ 0 → init room ts ≡ at_limit begins_init ts
unfolding init
init_none zero ts e = refl
init_none (suc room) ts e = absurd (omega arith)

pub init_some : (room : ℕ) (ts : List Token) → ¬ (room ≡ 0) → init room ts ≡ init_by (expr (room - 1)) (init (room - 1)) ts
unfolding init
init_some zero ts n = absurd (n refl)
init_some (suc room) ts n = let one : room ≡ suc room - 1 = omega arith in λ i. init_by (expr (one i)) (init (one i)) ts

pub block_none : (room : ℕ) (ts : List Token) → room ≡ 0 → block room ts ≡ at_limit (sees LeftBrace) ts
unfolding block
block_none zero ts e = refl
block_none (suc room) ts e = absurd (omega arith)

pub block_some : (room : ℕ) (ts : List Token) → ¬ (room ≡ 0) → block room ts ≡ braces (stmt (room - 1)) ts
unfolding block
block_some zero ts n = absurd (n refl)
block_some (suc room) ts n = let one : room ≡ suc room - 1 = omega arith in λ i. braces (stmt (one i)) ts

pub stmt_none : (room : ℕ) (ts : List Token) → room ≡ 0 → stmt room ts ≡ at_limit begins_statement ts
unfolding stmt
stmt_none zero ts e = refl
stmt_none (suc room) ts e = absurd (omega arith)

pub stmt_some : (room : ℕ) (ts : List Token) → ¬ (room ≡ 0) → stmt room ts ≡ by_first (params (room - 1)) (unary (room - 1)) (expr (room - 1)) (block (room - 1)) (stmt (room - 1)) ts
unfolding stmt
stmt_some zero ts n = absurd (n refl)
stmt_some (suc room) ts n = let one : room ≡ suc room - 1 = omega arith in λ i. by_first (params (one i)) (unary (one i)) (expr (one i)) (block (one i)) (stmt (one i)) ts

-- ---- a test that says yes has a token

pub some_left : (m : Mark) (ts : List Token) → sees m ts ≡ true → 0 < length ts
some_left m [] e = cc
some_left m (t ∷ ts) e = omega arith

pub items_left : (ts : List Token) → more_items ts ≡ true → 0 < length ts
items_left [] e = cc
items_left (t ∷ ts) e = omega arith

pub next_left : (ts : List Token) → sees_next ts ≡ true → 0 < length ts
next_left [] e = cc
next_left (t ∷ ts) e = omega arith
