use Rattle.std.proofs.Common.{◌≡◌, drop}
use Rattle.cg_image_read.specs.Types.{knows, first_refused}
use Rattle.cg_image_read.proofs.tables.first_unknown.Given as goal

abbrev pub invariant-loop-ty : goal.invariant-loop-ty
invariant-loop-ty l =
    first_refused (knows l.list l.count) l.end l.rest (drop l.ty-index l.types) ≡ first_refused (knows l.list l.count) l.end l.bytes l.types
