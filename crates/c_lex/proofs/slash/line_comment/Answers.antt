use Rattle.std.proofs.Common.{sym, ◌∙◌, ap, subst}
use Rattle.std.proofs.lemmas.List.{take_rest}
use Rattle.std.specs.List.{prefix_len}
use Rattle.c_ast.specs.Lexical.{meaning_of}
use Rattle.c_lex.specs.Front.{IsFront, is_of_line}
use Rattle.c_lex.proofs.Comments.{line-front}
use Rattle.c_lex.proofs.slash.line_comment.Goals as goal

pub returns-clause-piece : goal.returns-clause-piece
returns-clause-piece c = subst (λ p. IsFront c.args.text.now p.len (meaning_of p.token)) (sym c.comment.ensures)
    (line-front c.args.text.now c.line_length.result c.requires.long c.requires.slash c.requires.again
    (c.line_length.ensures.value ∙ ap (prefix_len is_of_line) (take_rest c.args.text.now 2)))
