use Rattle.std.proofs.Common.{sym, subst, ◌+◌, List}
use Rattle.lu_load.specs.declared.update.UpdateSetup.{UpdateSetup}
use Rattle.lu_load.specs.Updates.{AreUpdates}
use Rattle.lu_load.proofs.Updating.{updates-refused, updates-more}
use Rattle.lu_load.proofs.update.load_updates.Goals as goal

pub returns-in_err-update : goal.returns-in_err-update
returns-in_err-update c =
    updates-refused c.args.plan.now c.args.codes.now c.loop-number.number c.loop-number.updates c.in_err-update.field-0.0 c.from_residual.result
    c.loop-number.invariant c.in_err-update.ensures c.from_residual.ensures.0 c.from_residual.ensures.1

pub loop-number-preserved : goal.loop-number-preserved
loop-number-preserved c =
    let P : List UpdateSetup → Type 0 = λ us. AreUpdates c.args.plan.now c.args.codes.now (c.loop-number.number + 1) us in
    subst P (sym c.in_ok-push.ensures.ok)
    (updates-more c.args.plan.now c.args.codes.now c.loop-number.number c.loop-number.updates c.in_ok-update.update c.loop-number.invariant c.in_ok-update.ensures)
