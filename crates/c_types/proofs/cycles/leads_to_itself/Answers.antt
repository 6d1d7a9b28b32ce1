use Rattle.std.proofs.Common.{◌≡◌, ◌∙◌, sym, ap, suc, ◌+◌, ◌-◌, false, nat_eq, length, arith}
use Rattle.std.proofs.lemmas.Bool.Decides.{nat_tests}
use Rattle.c_types.specs.Chain.{pointed_by}
use Rattle.c_types.specs.Rounds.{reaches}
use Rattle.c_types.proofs.MarkLemmas.{reaches-one}
use Rattle.c_types.proofs.cycles.leads_to_itself.Goals as goal

pub loop-preserved : goal.loop-preserved
loop-preserved c =
    let p = c.args.parts.now in
    let t = c.args.number in
    let m = length p.types - (c.loop.counter + 1) in
    let one : suc m ≡ length p.types - c.loop.counter = omega (arith, ap length c.as_slice-end.ensures) in
    let other : nat_eq c.in-Some.next t ≡ false = let h = c.if-next-number.false in grind (arith, nat_tests) in
    sym (reaches-one (pointed_by p) t m c.loop.at c.in-Some.next (sym c.in-Some.ensures) other)
    ∙ (ap (λ k. reaches (pointed_by p) (λ v. nat_eq v t) false k c.loop.at) one ∙ c.loop.invariant)
