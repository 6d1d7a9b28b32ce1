use Rattle.std.proofs.Common.{sym, subst}
use Rattle.c_ast.specs.Lexeme.{number_meaning}
use Rattle.c_lex.specs.Front.{IsFront}
use Rattle.c_lex.proofs.Words.{number-front, front-begins}
use Rattle.c_lex.proofs.number.number_piece.Goals as goal

pub returns-in-Some-clause-piece : goal.returns-in-Some-clause-piece
returns-in-Some-clause-piece c =
    subst (λ m. IsFront c.args.text.now c.word_length-len.result (number_meaning m)) (sym (c.in-Some.ensures))
    (number-front c.args.text.now c.word_length-len.result c.requires.first c.requires.digit c.word_length-len.ensures)

pub returns-in-None-clause-number : goal.returns-in-None-clause-number
returns-in-None-clause-number c = λ _.
    front-begins c.args.text.now c.word_length-len.result
    (subst (λ m. IsFront c.args.text.now c.word_length-len.result (number_meaning m)) (sym (c.in-None.ensures))
    (number-front c.args.text.now c.word_length-len.result c.requires.first c.requires.digit c.word_length-len.ensures))
