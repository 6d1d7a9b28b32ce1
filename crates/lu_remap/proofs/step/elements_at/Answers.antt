use Rattle.std.proofs.Common.{rules}
use Rattle.lu_remap.specs.Descent.{versions}
use Rattle.lu_remap.proofs.Fitting.{array_fits}
use Rattle.lu_remap.proofs.step.elements_at.Goals as goal

pub returns-in-Some-Array-clause-fits : goal.returns-in-Some-Array-clause-fits
returns-in-Some-Array-clause-fits c =
    array_fits (versions c.args.pairing.now) (search rules) c.in_ok-to.to (search rules) c.in-Some-Array.ty c.in-Some-Array.count (search rules)
