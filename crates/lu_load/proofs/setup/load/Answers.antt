use Rattle.std.proofs.Common.{rules, subst, List, length}
use Rattle.cg_program.specs.Compiled.{Source}
use Rattle.lu_load.specs.Updates.{AreUpdates}
use Rattle.lu_load.proofs.Loaded.{codes-count}
use Rattle.lu_load.proofs.setup.load.Goals as goal

pub returns-clause-setup : goal.returns-clause-setup
returns-clause-setup g c = record {
  plan = c.in_ok-plan.ensures.forms;
  numbers = c.in_ok-numbers.ensures;
  codes = codes-count c.in_ok-codes.codes c.in_ok-sources.sources c.in_ok-plan.plan (search rules) (search rules);
  updates =
      let P : List Source → Type 0 = λ codes. AreUpdates c.in_ok-plan.plan codes (length c.in_ok-plan.plan.update) c.in_ok-updates.updates in
      subst P c.as_slice-2.ensures c.in_ok-updates.ensures;
  events = c.in_ok-events.ensures.basic;
}
