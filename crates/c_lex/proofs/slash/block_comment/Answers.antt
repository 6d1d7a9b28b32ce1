use Rattle.std.proofs.Common.{sym, ◌∙◌, ap, subst}
use Rattle.std.proofs.lemmas.List.{take_rest}
use Rattle.c_ast.specs.Lexical.{meaning_of}
use Rattle.c_lex.specs.Front.{IsFront, comment_end}
use Rattle.c_lex.proofs.Comments.{block-front, block-none}
use Rattle.c_lex.proofs.slash.block_comment.Goals as goal

pub returns-in-Some-clause-piece : goal.returns-in-Some-clause-piece
returns-in-Some-clause-piece c = subst (λ p. IsFront c.args.text.now p.len (meaning_of p.token)) (sym c.comment.ensures)
    (block-front c.args.text.now c.in-Some.end c.requires.long c.requires.slash c.requires.star
    (sym (ap comment_end (take_rest c.args.text.now 2)) ∙ sym c.in-Some.ensures.value))

pub returns-in-None-clause-byte : goal.returns-in-None-clause-byte
returns-in-None-clause-byte c = λ _. block-none c.args.text.now c.requires.long c.requires.slash c.requires.star
    (sym (ap comment_end (take_rest c.args.text.now 2)) ∙ sym c.in-None.ensures.value)
