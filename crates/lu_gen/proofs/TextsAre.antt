-- The texts of the code are those of the definition.
use Rattle.std.proofs.Common.{◌≡◌, refl}
use Rattle.lu_gen.specs.declared.texts.TheConstants.{PLAN, OLD_CELL, NEW_CELL, PROGRAM}
use Rattle.lu_gen.specs.Texts.{plan_text, old_cell, new_cell, program}

pub plan-is : PLAN.now ≡ plan_text
unfolding plan_text
plan-is = refl

pub old-is : OLD_CELL.now ≡ old_cell
unfolding old_cell
old-is = refl

pub new-is : NEW_CELL.now ≡ new_cell
unfolding new_cell
new-is = refl

pub program-is : PROGRAM.now ≡ program
unfolding program
program-is = refl

pub ruleset texts = (plan-is, old-is, new-is, program-is)
