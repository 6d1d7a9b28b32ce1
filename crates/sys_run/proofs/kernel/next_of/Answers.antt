use Rattle.std.proofs.Common.{◌<◌, false, List, length, subst}
use Rattle.std.specs.Prelude.{IfSome}
use Rattle.lu_base.specs.declared.message.Message.{Message}
use Rattle.sys_run.proofs.Given.{next-within}
use Rattle.sys_run.proofs.kernel.next_of.Goals as goal

pub returns-clause-within : goal.returns-clause-within
returns-clause-within c =
    let Within : List Message → Type 0 = λ ms. IfSome c.next.result (λ place. place < length ms) in
    subst Within c.inbox.ensures (next-within (record { active = false; kinds = c.from_vec.result }) c.inbox.result.now c.next.result c.next.ensures)
