use Rattle.std.proofs.Common.{sym, ◌∙◌, ap}
use Rattle.std.proofs.lemmas.List.{take_rest}
use Rattle.c_lex.specs.Front.{character_end}
use Rattle.c_lex.proofs.Readings.{character-front, character-none}
use Rattle.c_lex.proofs.quoted.character_piece.Goals as goal

pub returns-in-Some-clause-piece : goal.returns-in-Some-clause-piece
returns-in-Some-clause-piece c = character-front c.args.text.now c.in-Some.c c.in-Some.len c.requires.some c.requires.quote
    (sym (ap character_end (take_rest c.args.text.now 1)) ∙ sym (c.in-Some.ensures))

pub returns-in-None-clause-byte : goal.returns-in-None-clause-byte
returns-in-None-clause-byte c = λ _. character-none c.args.text.now c.requires.some c.requires.quote
    (sym (ap character_end (take_rest c.args.text.now 1)) ∙ sym (c.in-None.ensures))
