use Rattle.std.proofs.Common.{sym, subst}
use Rattle.bm_code.specs.Mapped.{AreKnown}
use Rattle.cg_server.proofs.server.Server.adopt.Goals as goal

pub adopt-requires-clause-known : goal.adopt-requires-clause-known
adopt-requires-clause-known g c =
    subst (λ code. AreKnown code.types c.args.rows) (sym c.machine.ensures.value) c.requires.known
