use Rattle.std.proofs.Common.{◌≡◌, nat_eq, length}
use Rattle.std.specs.Prelude.{find}
use Rattle.lu_image_store.specs.Forms.{handler_of}
use Rattle.lu_scan.specs.Given.{versions}
use Rattle.lu_scan.proofs.versions.PairedPrograms.handler_of.Given as goal

abbrev pub invariant-loop-rest : goal.invariant-loop-rest
invariant-loop-rest l = handler_of (versions l.self) l.structure ≡ find (λ h. nat_eq h.structure l.structure) l.rest

abbrev pub decreases-loop-rest : goal.decreases-loop-rest
decreases-loop-rest l = length l.rest
