use Rattle.std.proofs.Common.{◌≡◌, [], drop}
use Rattle.lu_resolve.specs.Handlers.{handlers_onto}
use Rattle.lu_resolve.proofs.handler.handlers_of.Given as goal

abbrev pub invariant-loop-handler : goal.invariant-loop-handler
invariant-loop-handler l =
    handlers_onto l.old l.new l.pairs [] l.planned ≡ handlers_onto l.old l.new l.pairs l.handlers (drop l.handler-index l.planned)
