use Rattle.lu_load.specs.Updates.{AreUpdates}
use Rattle.lu_load.proofs.update.load_updates.Given as goal

abbrev pub invariant-loop-number : goal.invariant-loop-number
invariant-loop-number l = AreUpdates l.plan l.codes l.number l.updates
