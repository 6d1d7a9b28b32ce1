use Rattle.std.proofs.Common.{sym, ◌∙◌, ap, not, take, drop, ◌≡◌, ℕ}
use Rattle.std.proofs.lemmas.List.{take_rest}
use Rattle.std.proofs.lemmas.List.Folds.{length-prefix_len}
use Rattle.std.specs.List.{prefix_len}
use Rattle.c_ast.specs.Lexeme.{Text, number_with, number_of, is_suffix_letter}
use Rattle.c_lex.proofs.number.number.Goals as goal

split_number : (word : Text) (len : ℕ) → len ≡ prefix_len (λ b. not (is_suffix_letter b)) word → number_with (take len word) (drop len word) ≡ number_of word
unfolding number_of
split_number word len e =
    ap (λ n. number_with (take n word) (drop n word)) e
    ∙ ap (λ n. number_with (take (prefix_len (λ b. not (is_suffix_letter b)) word) word) (drop n word)) (sym (length-prefix_len (λ b. not (is_suffix_letter b)) word))

pub returns : goal.returns
returns c = c.number_with.ensures
    ∙ ap (λ suffix. number_with (take c.digits_length-len.result c.args.word.now) suffix) (take_rest c.args.word.now c.digits_length-len.result)
    ∙ split_number c.args.word.now c.digits_length-len.result c.digits_length-len.ensures.value
