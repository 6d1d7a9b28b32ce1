use Rattle.std.proofs.Common.{◌≢◌, ◌∙◌, ap, sym, ◌++◌, []}
use Rattle.std.proofs.lemmas.List.{append-nil}
use Rattle.bm_isa.specs.Encoding.{code_bytes}
use Rattle.bm_isa.proofs.CodeLemmas.{same_code, no_code, some_byte, empty_if, not_empty_if}
use Rattle.bm_isa.proofs.decoder.decode.Goals as goal

pub returns-in_default-clause-decoded : goal.returns-in_default-clause-decoded
returns-in_default-clause-decoded c = λ code fits e.
    let more : c.loop-rest.rest.now ≢ [] = not_empty_if c.loop-rest.rest.now c.loop-rest-test.ensures in
    absurd (no_code c.loop-rest.code.items code c.loop-rest.rest.now c.loop-rest.invariant.1 fits (e ∙ c.loop-rest.invariant.0) more c.in_default.ensures.none)

pub loop-rest-smaller : goal.loop-rest-smaller
loop-rest-smaller c = some_byte c.in-Some.instr c.in-Some.behind.now c.loop-rest.rest.now c.in-Some.ensures.front

pub returns-clause-decoded : goal.returns-clause-decoded
returns-clause-decoded c = λ code fits e.
    let empty = empty_if c.loop-rest.rest.now c.loop-rest-test.ensures in
    same_code c.loop-rest.code.items code c.loop-rest.invariant.1 fits
    (sym (append-nil (code_bytes c.loop-rest.code.items)) ∙ (ap (λ l. code_bytes c.loop-rest.code.items ++ l) (sym empty) ∙ (sym c.loop-rest.invariant.0 ∙ sym e)))
