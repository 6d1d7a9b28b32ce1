-- Code of lists that is put behind code, one entry after the other.
use Rattle.std.proofs.Common.{◌≡◌, ◌∙◌, refl, sym, ap, ℕ, ◌+◌, ◌<◌, List, ◌∷◌, ◌++◌, length, drop, get_or, append_assoc}
use Rattle.std.proofs.lemmas.List.{drop_more}
use Rattle.bm_isa.specs.declared.instr.Instr.{Instr}
use Rattle.src_tree.specs.declared.expr.TypedExpr.{TypedExpr}
use Rattle.src_tree.specs.declared.stmt.TypedStmt.{TypedStmt}
use Rattle.cg_expr.specs.Sizes.{expression_size}
use Rattle.cg_expr.specs.Code.{Target, expression_code}
use Rattle.cg_expr.proofs.Puts.{ends_at}
use Rattle.cg_expr.proofs.Lengths.{length-expression}
use Rattle.cg_stmt.specs.declared.statements.Exits.{Exits}
use Rattle.cg_stmt.specs.StatementSizes.{statement_size}
use Rattle.cg_stmt.specs.StatementCode.{arguments_code, statement_code, body_code}
use Rattle.cg_stmt.proofs.CodeLengths.{length-statement}

-- what is to be put stays the same when the first entry's code was put
pub next_put : {A : Type 0} (code : A → ℕ → List Instr) (size : A → ℕ) (codes : List A → ℕ → List Instr) → ((x : A) (xs : List A) (pc : ℕ) → codes (x ∷ xs) pc ≡ code x pc ++ codes xs (pc + size x)) → ((x : A) (pc : ℕ) → length (code x pc) ≡ size x) → (xs : List A) (i : ℕ) (x : A) (whole c c' : List Instr) → i < length xs → x ≡ get_or xs i x → whole ≡ c ++ codes (drop i xs) (length c) → c' ≡ c ++ code x (length c) → whole ≡ c' ++ codes (drop (i + 1) xs) (length c')
next_put code size codes one long xs i x whole c c' h is w k =
    let rest = drop (i + 1) xs in
    let list : drop i xs ≡ x ∷ rest = drop_more xs i x h ∙ ap (λ y. y ∷ rest) (sym is) in
    let there : length c' ≡ length c + size x = ends_at c c' (code x (length c)) (size x) k (long x (length c)) in
    w ∙ ap (λ l. c ++ codes l (length c)) list ∙ ap (λ l. c ++ l) (one x rest (length c)) ∙ sym (append_assoc c (code x (length c)) (codes rest (length c + size x))) ∙ ap (λ l. l ++ codes rest (length c + size x)) (sym k) ∙ ap (λ n. c' ++ codes rest n) (sym there)

pub next_argument : (at : Target) (xs : List TypedExpr) (i : ℕ) (x : TypedExpr) (whole c c' : List Instr) → i < length xs → x ≡ get_or xs i x → whole ≡ c ++ arguments_code at (drop i xs) (length c) → c' ≡ c ++ expression_code at x.ty x.kind (length c) → whole ≡ c' ++ arguments_code at (drop (i + 1) xs) (length c')
next_argument at =
    next_put (λ (e : TypedExpr) (pc : ℕ). expression_code at e.ty e.kind pc) (λ (e : TypedExpr). expression_size at.types e.ty e.kind) (arguments_code at) (λ x xs pc. refl) (λ x pc. length-expression at x.ty x.kind pc)

pub next_statement : (at : Target) (to : Exits) (xs : List TypedStmt) (i : ℕ) (x : TypedStmt) (whole c c' : List Instr) → i < length xs → x ≡ get_or xs i x → whole ≡ c ++ body_code at (drop i xs) to (length c) → c' ≡ c ++ statement_code at x to (length c) → whole ≡ c' ++ body_code at (drop (i + 1) xs) to (length c')
next_statement at to =
    next_put (λ x pc. statement_code at x to pc) (statement_size at) (λ xs pc. body_code at xs to pc) (λ x xs pc. refl) (λ x pc. length-statement at x to pc)
