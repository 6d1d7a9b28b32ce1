use Rattle.bm_isa.proofs.ReadingLemmas.{read_from_parts, no_word_in_short, no_word}
use Rattle.bm_isa.specs.declared.instr.Operands.TheVariants.{Word}
use Rattle.bm_isa.proofs.decoder.split_word_operand.Goals as goal

pub returns-in_err-word : goal.returns-in_err-word
returns-in_err-word c = rw c.from_residual.ensures (no_word_in_short c.args.number c.args.bytes.now c.in_err-word.ensures)

pub returns-in_err-with_word : goal.returns-in_err-with_word
returns-in_err-with_word c =
    let h = c.in_ok-word.ensures in
    rw c.from_residual-in_err-with_word.ensures (no_word c.args.number c.args.bytes.now c.in_ok-word.rest.now c.in_ok-word.word h.0 h.1 c.in_err-with_word.ensures)

pub returns : goal.returns
returns c =
    let h = c.in_ok-word.ensures in
    read_from_parts c.args.number (Word c.in_ok-word.word) c.in_ok-with_word.field-0 c.args.bytes.now c.in_ok-word.rest.now c.in_ok-with_word.ensures h.1 h.0
