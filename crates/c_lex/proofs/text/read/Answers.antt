use Rattle.std.proofs.Common.{Err, ap, inr}
use Rattle.c_ast.specs.Lexical.{HasBadByte, HasBadNumber}
use Rattle.c_lex.proofs.Pieces.{read-on, stuck-at}
use Rattle.c_lex.proofs.text.read.Goals as goal

pub loop-at-preserved : goal.loop-at-preserved
loop-at-preserved c = read-on c.args.text.now c.loop-at.at c.in-Ok.piece.len c.loop-at.tokens.items c.keep.new.tokens.items c.in-Ok.piece.token c.loop-at.invariant c.in-Ok.ensures.piece c.in_ok-keep-in-Ok.ensures

pub returns-in-Err-BadByte-clause-refused : goal.returns-in-Err-BadByte-clause-refused
returns-in-Err-BadByte-clause-refused c = inr (stuck-at c.args.text.now c.loop-at.at c.loop-at.tokens.items HasBadByte c.line_behind.result c.column_behind.result
    c.loop-at.invariant c.loop-at-test.true (c.in-Err-BadByte.ensures.byte (ap (λ e. Err e) c.in-Err-BadByte.field-0-is)) c.line_behind.ensures c.column_behind.ensures)

pub returns-in-Err-BadNumber-clause-refused : goal.returns-in-Err-BadNumber-clause-refused
returns-in-Err-BadNumber-clause-refused c = inr (stuck-at c.args.text.now c.loop-at.at c.loop-at.tokens.items HasBadNumber c.line_behind-in-Err-BadNumber.result c.column_behind-in-Err-BadNumber.result
    c.loop-at.invariant c.loop-at-test.true (c.in-Err-BadNumber.ensures.number (ap (λ e. Err e) c.in-Err-BadNumber.field-0-is)) c.line_behind-in-Err-BadNumber.ensures c.column_behind-in-Err-BadNumber.ensures)
