use Rattle.std.proofs.Common.{◌∙◌, sym, subst}
use Rattle.bm_isa.specs.Encoding.{BeginsWithNone}
use Rattle.bm_isa.proofs.ReadingLemmas.{MatchOption-weaker, none_begins, none_in_empty, front_from_read, plain_read}
use Rattle.bm_isa.proofs.decoder.split_instruction.Goals as goal

pub returns-in_err-number-clause-none : goal.returns-in_err-number-clause-none
returns-in_err-number-clause-none c =
    rw c.from_residual.ensures (none_in_empty c.args.bytes.now c.in_err-number.ensures.cases)

pub returns-in-Some-clause-front : goal.returns-in-Some-clause-front
returns-in-Some-clause-front c =
    let h = c.in_ok-number.ensures.cases in
    h.0 ∙ front_from_read c.in_ok-number.number.now c.in_ok-number.rest.now c.in-Some.instr c.in_ok-number.rest.now (plain_read c.in_ok-number.number.now c.in-Some.instr c.in_ok-number.rest.now c.in-Some.ensures)

pub returns-in-Some-clause-fits : goal.returns-in-Some-clause-fits
returns-in-Some-clause-fits c = (plain_read c.in_ok-number.number.now c.in-Some.instr c.in_ok-number.rest.now c.in-Some.ensures).fits

pub returns-in-Some-split_word_operand-clause-front : goal.returns-in-Some-split_word_operand-clause-front
returns-in-Some-split_word_operand-clause-front c =
    let h = c.in_ok-number.ensures.cases in
    h.0 ∙ front_from_read c.in_ok-number.number.now c.in_ok-number.rest.now c.in-Some-split_word_operand.instr c.in-Some-split_word_operand.rest.now c.in-Some-split_word_operand.ensures

pub returns-clause-none : goal.returns-clause-none
returns-clause-none c =
    let number = c.in_ok-number.number.now in
    let rest = c.in_ok-number.rest.now in
    let h = c.in_ok-number.ensures.cases in
    MatchOption-weaker c.split_operands.result c.split_operands.ensures (λ numbers. subst BeginsWithNone (sym h.0) (none_begins number rest c.in_default.ensures c.in_default-split_word_operand.ensures numbers)) (λ x r. tt)

pub returns-clause-front : goal.returns-clause-front
returns-clause-front c =
    let number = c.in_ok-number.number.now in
    let rest = c.in_ok-number.rest.now in
    let h = c.in_ok-number.ensures.cases in
    MatchOption-weaker c.split_operands.result c.split_operands.ensures (λ n. tt) (λ x r. h.0 ∙ front_from_read number rest x.0 x.1.now r)
