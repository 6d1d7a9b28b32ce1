use Rattle.std.proofs.Common.{sym}
use Rattle.lu_pair.specs.Sites.{same_types}
use Rattle.lu_pair.proofs.Steps.{lengths-differ}
use Rattle.lu_pair.proofs.sites.all_correspond.Goals as goal

pub returns-then-old-new : goal.returns-then-old-new
returns-then-old-new c = sym (lengths-differ (same_types c.args.types.now) c.args.old.now c.args.new.now c.if-old-new.true)
