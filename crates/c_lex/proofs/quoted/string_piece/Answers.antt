use Rattle.std.proofs.Common.{ℕ, ◌+◌, option_map, sym, ◌∙◌, ap, subst}
use Rattle.std.proofs.lemmas.List.{take_rest}
use Rattle.c_ast.specs.Lexeme.{Text, one}
use Rattle.c_ast.specs.declared.token.Token.TheVariants as token
use Rattle.c_lex.specs.declared.quoted.Quoted.{Quoted}
use Rattle.c_lex.specs.Front.{IsFront, string_end}
use Rattle.c_lex.proofs.Readings.{string-front, string-none}
use Rattle.c_lex.proofs.quoted.string_piece.Goals as goal

abbrev read_of : Quoted → Text × ℕ
read_of q = (q.bytes.items, q.len)

pub returns-in-Some-clause-piece : goal.returns-in-Some-clause-piece
returns-in-Some-clause-piece c = subst (λ bytes. IsFront c.args.text.now (1 + c.in-Some.string.len) (one (token.Text bytes))) (sym c.new.ensures)
    (string-front c.args.text.now c.in-Some.string.bytes.items c.in-Some.string.len c.requires.some c.requires.quote
    (sym (ap string_end (take_rest c.args.text.now 1)) ∙ sym c.in_ok-string.ensures.value ∙ ap (option_map read_of) c.in-Some.is))

pub returns-in-None-clause-byte : goal.returns-in-None-clause-byte
returns-in-None-clause-byte c = λ _. string-none c.args.text.now c.requires.some c.requires.quote
    (sym (ap string_end (take_rest c.args.text.now 1)) ∙ sym c.in_ok-string.ensures.value ∙ ap (option_map read_of) c.in-None.is)
