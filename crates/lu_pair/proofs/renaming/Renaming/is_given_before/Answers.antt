use Rattle.std.proofs.Common.{arith}
use Rattle.lu_pair.proofs.Finding.{is_given-take}
use Rattle.lu_pair.proofs.renaming.Renaming.is_given_before.Goals as goal

pub returns-in-None : goal.returns-in-None
returns-in-None c = let law = is_given-take c.args.count c.args.self.now c.args.name.now in grind (arith, law, c.self.invariant.given)

pub returns-in-Some : goal.returns-in-Some
returns-in-Some c = let law = is_given-take c.args.count c.args.self.now c.args.name.now in grind (arith, law, c.self.invariant.given)
