use Rattle.std.proofs.Common.{◌≡◌, slice_get, length}
use Rattle.std.specs.Prelude.{find}
use Rattle.lu_image.specs.Names.{is_named}
use Rattle.lu_scan.proofs.versions.field_named.Given as goal

abbrev pub invariant-loop-rest : goal.invariant-loop-rest
invariant-loop-rest l =
    find (λ f. is_named l.name (slice_get l.names f.name)) l.fields ≡ find (λ f. is_named l.name (slice_get l.names f.name)) l.rest

abbrev pub decreases-loop-rest : goal.decreases-loop-rest
decreases-loop-rest l = length l.rest
