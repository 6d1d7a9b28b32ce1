-- The code of calls as the emitter puts it.
use Rattle.std.proofs.Common.{◌≡◌, ◌∙◌, ap, ℕ, ◌+◌, List, [], ◌∷◌, ◌++◌, length}
use Rattle.bm_isa.specs.declared.instr.Instr.{Instr}
use Rattle.src_tree.specs.declared.expr.TypedExpr.{TypedExpr}
use Rattle.src_tree.specs.declared.stmt.Call as Text
use Rattle.cg_expr.specs.Code.{Target}
use Rattle.cg_expr.proofs.Puts.{puts, puts_three, ends_at}
use Rattle.cg_stmt.specs.StatementSizes.{callee_size}
use Rattle.cg_stmt.specs.StatementCode.{arguments_code, callee_code, call_last, call_code}
use Rattle.cg_stmt.proofs.CodeLengths.{length-callee}

pub call_puts : (at : Target) (call : Text.Call) (args : List TypedExpr) (n : ℕ) (last : Instr) (c c1 c2 c3 : List Instr) → args ≡ call.args → n ≡ length call.args → last ≡ call_last call.callee n → c1 ≡ c ++ callee_code at call.callee (length c) → c2 ≡ c1 ++ arguments_code at args (length c1) → c3 ≡ c2 ++ last ∷ [] → c3 ≡ c ++ call_code at call (length c)
call_puts at call args n last c c1 c2 c3 same count is h k l =
    let there = ends_at c c1 (callee_code at call.callee (length c)) (callee_size at.types call.callee) h (length-callee at call.callee (length c)) in
    let arguments : arguments_code at args (length c1) ≡ arguments_code at call.args (length c + callee_size at.types call.callee) = ap (λ es. arguments_code at es (length c1)) same ∙ ap (arguments_code at call.args) there in
    let instr : last ∷ [] ≡ call_last call.callee (length call.args) ∷ [] = ap (λ i. i ∷ []) (is ∙ ap (call_last call.callee) count) in
    puts c c3 _ _ (puts_three c c1 c2 c3 (callee_code at call.callee (length c)) (arguments_code at args (length c1)) (last ∷ []) h k l) (ap (λ x. callee_code at call.callee (length c) ++ (x ++ last ∷ [])) arguments ∙ ap (λ x. callee_code at call.callee (length c) ++ (arguments_code at call.args (length c + callee_size at.types call.callee) ++ x)) instr)
