use Rattle.std.proofs.Common.{sym, ◌∙◌, ap}
use Rattle.std.proofs.lemmas.List.{take_rest}
use Rattle.c_lex.specs.Front.{element}
use Rattle.c_lex.proofs.Strings.{string-next, string-stops}
use Rattle.c_lex.proofs.quoted.string_end.Goals as goal

pub loop-at-preserved : goal.loop-at-preserved
loop-at-preserved c = string-next c.args.text.now c.loop-at.bytes.items c.push.new.self.items c.loop-at.at c.in-Some.b c.in-Some.len c.loop-at.invariant c.if-text-at-eq34.false
    (sym (ap (element 34) (take_rest c.args.text.now c.loop-at.at)) ∙ sym c.in-Some.ensures) c.in_ok-push-in-Some.ensures.items

pub returns-in-None-clause-value : goal.returns-in-None-clause-value
returns-in-None-clause-value c = sym (string-stops c.args.text.now c.loop-at.bytes.items c.loop-at.at c.loop-at.invariant.0 c.if-text-at-eq34.false
    (sym (ap (element 34) (take_rest c.args.text.now c.loop-at.at)) ∙ sym c.in-None.ensures))
