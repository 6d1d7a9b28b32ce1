use Rattle.std.proofs.Common.{◌≡◌, ◌++◌, [], ◌∷◌, codes, OnOk, string_bytes, sym, subst}
use Rattle.lu_lines.specs.Line.{spaced, reason_words}
use Rattle.lu_lines.proofs.reason_text.push_reason.Goals as goal

pub returns-in-HandledInUnion : goal.returns-in-HandledInUnion
returns-in-HandledInUnion c =
    subst (λ r. OnOk c.push_two-in-HandledInUnion.result (string_bytes c.push_two-in-HandledInUnion.new.line ≡ string_bytes c.args.line.now ++ spaced (reason_words r))) (sym c.in-HandledInUnion.is)
    (subst (λ p. OnOk c.push_two-in-HandledInUnion.result (string_bytes c.push_two-in-HandledInUnion.new.line ≡ string_bytes c.args.line.now ++ spaced (codes "HandledInUnion" ∷ p ∷ []))) c.as_str-in-HandledInUnion.ensures
    c.push_two-in-HandledInUnion.ensures)

pub returns-in-LostFunction : goal.returns-in-LostFunction
returns-in-LostFunction c =
    subst (λ r. OnOk c.push_three-in-LostFunction.result (string_bytes c.push_three-in-LostFunction.new.line ≡ string_bytes c.args.line.now ++ spaced (reason_words r))) (sym c.in-LostFunction.is)
    (subst (λ p. OnOk c.push_three-in-LostFunction.result (string_bytes c.push_three-in-LostFunction.new.line ≡ string_bytes c.args.line.now ++ spaced (codes "LostFunction" ∷ p ∷ c.in-LostFunction.function ∷ []))) c.as_str-in-LostFunction.ensures
    (subst (λ f. OnOk c.push_three-in-LostFunction.result (string_bytes c.push_three-in-LostFunction.new.line ≡ string_bytes c.args.line.now ++ spaced (codes "LostFunction" ∷ c.as_str-in-LostFunction.result.now ∷ f ∷ []))) c.as_str-in-LostFunction-2.ensures
    c.push_three-in-LostFunction.ensures))
