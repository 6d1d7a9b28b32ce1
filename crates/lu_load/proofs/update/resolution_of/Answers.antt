use Rattle.lu_load.proofs.Updating.{pairing-refused}
use Rattle.lu_load.proofs.update.resolution_of.Goals as goal

pub returns-in_err-pairing : goal.returns-in_err-pairing
returns-in_err-pairing c =
    pairing-refused c.args.old.now c.args.new.now c.args.update.now c.in_ok-filter.filter c.in_err-pairing.field-0.0 c.from_residual-in_err-pairing.result
    c.in_ok-filter.ensures c.in_err-pairing.ensures c.from_residual-in_err-pairing.ensures.0 c.from_residual-in_err-pairing.ensures.1
