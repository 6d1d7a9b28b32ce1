use Rattle.std.proofs.Common.{◌≡◌, take, ℕ, List}
use Rattle.lu_image.specs.Names.{find}
use Rattle.indexmap.specs.IndexMap.{get_by_text}
use Rattle.lu_pair.proofs.names.places_of.Given as goal

abbrev pub invariant-loop-place : goal.invariant-loop-place
invariant-loop-place l = (q : List ℕ) → get_by_text l.places q ≡ find q (take l.place l.names)
