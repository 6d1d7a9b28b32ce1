-- The equations of reading, by how much room is left.
use Rattle.std.proofs.Common.{◌≡◌, ◌∙◌, refl, ap, ℕ, zero, suc, ◌-◌, List, Ok, Err, arith}
use Rattle.c_ast.specs.declared.token.Token.{Token}
use Rattle.c_ast.specs.Trees.{Expression}
use Rattle.c_ast.specs.declared.fault.Fault.{Fault}
use Rattle.c_ast.specs.declared.expr.BinaryOperator.{BinaryOperator}
use Rattle.c_parse_expr.specs.Reads.{Reader, at_limit, one, pair_of}
use Rattle.c_parse_expr.specs.Reading.{begins, unary, unary_by, expr, whole, levels, chain, link, pick_operator}

pub unary_none : (room : ℕ) (ts : List Token) → room ≡ 0 → unary room ts ≡ at_limit begins ts
unfolding unary
unary_none zero ts e = refl
unary_none (suc room) ts e = absurd (omega arith)

pub unary_some : (room : ℕ) (ts : List Token) → ¬ (room ≡ 0) → unary room ts ≡ unary_by (unary (room - 1)) (expr (room - 1)) ts
unfolding unary
unary_some zero ts n = absurd (n refl)
unary_some (suc room) ts n = let one : room ≡ suc room - 1 = omega arith in λ i. unary_by (unary (one i)) (expr (one i)) ts

pub expr_none : (room : ℕ) (ts : List Token) → room ≡ 0 → expr room ts ≡ at_limit begins ts
unfolding expr
expr_none zero ts e = refl
expr_none (suc room) ts e = absurd (omega arith)

pub expr_some : (room : ℕ) (ts : List Token) → ¬ (room ≡ 0) → expr room ts ≡ whole (expr (room - 1)) (levels 10 (unary (room - 1))) ts
unfolding expr
expr_some zero ts n = absurd (n refl)
expr_some (suc room) ts n = let one : room ≡ suc room - 1 = omega arith in λ i. whole (expr (one i)) (levels 10 (unary (one i))) ts

pub levels_none : (n : ℕ) (operand : Reader Expression) (ts : List Token) → n ≡ 0 → levels n operand ts ≡ operand ts
unfolding levels
levels_none zero operand ts e = refl
levels_none (suc n) operand ts e = absurd (omega arith)

pub levels_some : (n : ℕ) (operand : Reader Expression) (ts : List Token) → ¬ (n ≡ 0) → levels n operand ts ≡ chain (suc (suc (n - 1))) (levels (n - 1) operand) ts
unfolding levels
levels_some zero operand ts e = absurd (e refl)
levels_some (suc n) operand ts e = let one : n ≡ suc n - 1 = omega arith in λ i. chain (suc (suc (one i))) (levels (one i) operand) ts

-- ---- an operator and its operand, where the level is written in two ways

module _ (n k : ℕ) (two : suc (suc n) ≡ k) (operand : Reader Expression) (ts : List Token) (op : BinaryOperator) (mid : List Token) (first : one (pick_operator k) ts ≡ Ok (op, mid)) where
  link_goes : link (suc (suc n)) operand ts ≡ pair_of (Ok (op, mid)) (λ p. operand p.1)
  unfolding link
  link_goes = ap (λ j. pair_of (one (pick_operator j) ts) (λ p. operand p.1)) two ∙ ap (λ r. pair_of r (λ p. operand p.1)) first

  pub link_ok : (e : Expression) (rest : List Token) → operand mid ≡ Ok (e, rest) → link (suc (suc n)) operand ts ≡ Ok ((op, e), rest)
  link_ok e rest h = rw (link_goes, h) refl

  pub link_fails : (f : Fault) → operand mid ≡ Err f → link (suc (suc n)) operand ts ≡ Err f
  link_fails f h = rw (link_goes, h) refl
