-- Lists of arguments and parameters, from a place on.
use Rattle.std.proofs.Common.{◌≡◌, ◌∙◌, sym, ap, refl, ℕ, zero, suc, ◌+◌, ◌<◌, ◌≤◌, List, [], ◌∷◌, ◌++◌, length, drop, Option, Some, None, slice_get, arith, Bor}
use Rattle.std.specs.Prelude.{MatchOption}
use Rattle.std.specs.Option.{option_map, option_copied}
use Rattle.c_ast.specs.declared.expr.Expr.{Expr}
use Rattle.c_ast.specs.Trees.{Expression, expression, expressions}
use Rattle.src_tree.specs.declared.expr.TypedExpr.{TypedExpr}
use Rattle.c_check_scope.specs.declared.scope.Scope.{Scope}
use Rattle.c_check_scope.specs.Rules.{Checked}
use Rattle.c_check_expr.specs.Calls.{argument_at, more, gathered_after, front}

pub expressions_length : (es : List Expr) → length (expressions es) ≡ length es
expressions_length [] = refl
expressions_length (e ∷ es) = ap suc (expressions_length es)

pub expressions_get : (es : List Expr) (k : ℕ) → slice_get (expressions es) k ≡ option_map expression (slice_get es k)
expressions_get [] k = refl
expressions_get (e ∷ es) zero = refl
expressions_get (e ∷ es) (suc k) = expressions_get es k

drop_none : {A : Type 0} (n : ℕ) → drop {A = A} n [] ≡ []
drop_none zero = refl
drop_none (suc n) = refl

drop_past : {A : Type 0} (xs : List A) (n : ℕ) → length xs ≤ n → drop n xs ≡ []
drop_past [] n h = drop_none n
drop_past (x ∷ xs) zero h = absurd (omega arith)
drop_past (x ∷ xs) (suc n) h = drop_past xs n (omega arith)

-- one more argument is gathered
pub gathered_step : (scope : Scope) (l : Checked (List TypedExpr)) (es : List Expression) (ts : List ℕ) (i : ℕ) → i < length es → gathered_after scope l (drop i es) (drop i ts) ≡ gathered_after scope (more l (argument_at scope (slice_get ts i) (slice_get es i))) (drop (suc i) es) (drop (suc i) ts)
unfolding argument_at
gathered_step scope l [] ts i h = absurd (omega arith)
gathered_step scope l (e ∷ es) [] zero h = refl
gathered_step scope l (e ∷ es) (t ∷ ts) zero h = refl
gathered_step scope l (e ∷ es) [] (suc i) h =
    ap (λ ts. gathered_after scope l (drop i es) ts) (sym (drop_none i)) ∙ gathered_step scope l es [] i (omega arith)
gathered_step scope l (e ∷ es) (t ∷ ts) (suc i) h = gathered_step scope l es ts i (omega arith)

-- none is left
pub gathered_end : (scope : Scope) (l : Checked (List TypedExpr)) (es : List Expression) (ts : List ℕ) (i : ℕ) → length es ≤ i → gathered_after scope l (drop i es) ts ≡ l
gathered_end scope l es ts i h = ap (λ xs. gathered_after scope l xs ts) (drop_past es i h)

pub front_snoc : {A : Type 0} (xs : List A) (x : A) → front (xs ++ (x ∷ [])) ≡ xs
front_snoc [] x = refl
front_snoc (y ∷ []) x = refl
front_snoc (y ∷ (z ∷ zs)) x = ap (λ l. y ∷ l) (front_snoc (z ∷ zs) x)

-- what `pop` leaves
pub front_pop : {A : Type 0} (o : Option A) (old new : List A) → MatchOption o ((old ≡ []) × (new ≡ [])) (λ last. old ≡ new ++ (last ∷ [])) → new ≡ front old
front_pop None old new h = h.1 ∙ sym (ap front h.0)
front_pop (Some x) old new h = sym (ap front h ∙ front_snoc new x)

pub seen : (o : Option (Bor Expr)) → option_map expression (option_copied o) ≡ option_map (λ (e : Bor Expr). expression e.now) o
seen None = refl
seen (Some e) = refl
