use Rattle.std.proofs.Common.{◌≡◌, ◌≤◌, ◌∙◌, ◌-◌, ap, sym, subst, length, drop, Some, arith, reverse}
use Rattle.std.proofs.lemmas.List.{length-drop, length-reverse}
use Rattle.bm_frame.proofs.Words.{last_words, take_all}
use Rattle.bm_frame.proofs.stack.Stack.last.Goals as goal

pub returns-clause-words : goal.returns-clause-words
returns-clause-words c =
    let s = c.args.self.now in
    let n = c.args.count in
    let xs = c.deref.result.now in
    let turned : reverse xs ≡ s = ap reverse c.deref.ensures.value ∙ c.self.view_is in
    let count : c.len.result - n ≡ length xs - n = omega (arith, c.len.ensures, c.deref.ensures.len) in
    let le : n ≤ length xs = subst (λ k. n ≤ k) (ap length (sym turned) ∙ length-reverse xs) c.requires in
    last_words n xs s turned le ∙ ap (λ l. Some (l, drop n s)) (ap (λ k. drop k xs) (sym count) ∙ sym (take_all (drop (c.len.result - n) xs) (length xs - (c.len.result - n)) (sym (length-drop (c.len.result - n) xs))))
