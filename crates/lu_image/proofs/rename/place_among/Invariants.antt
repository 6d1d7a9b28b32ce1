use Rattle.std.proofs.Common.{◌≡◌, ◌+◌, length}
use Rattle.lu_image.specs.Renaming.{place_among}
use Rattle.lu_image.proofs.rename.place_among.Given as goal

abbrev pub invariant-loop-rest : goal.invariant-loop-rest
invariant-loop-rest l = record {
  whole : l.place + place_among l.rename l.rest ≡ place_among l.rename l.renames;
  far : l.place + length l.rest ≡ length l.renames;
}

abbrev pub decreases-loop-rest : goal.decreases-loop-rest
decreases-loop-rest l = length l.rest
