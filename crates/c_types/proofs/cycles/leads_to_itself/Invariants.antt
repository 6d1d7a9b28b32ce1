use Rattle.std.proofs.Common.{◌≡◌, ◌-◌, false, nat_eq, length}
use Rattle.c_types.specs.Chain.{pointed_by}
use Rattle.c_types.specs.Rounds.{reaches}
use Rattle.c_types.proofs.cycles.leads_to_itself.Given as goal

abbrev pub invariant-loop : goal.invariant-loop
invariant-loop l =
    reaches (pointed_by l.parts) (λ v. nat_eq v l.number) false (length l.parts.types - l.counter) l.at ≡ reaches (pointed_by l.parts) (λ v. nat_eq v l.number) false (length l.parts.types) l.number
