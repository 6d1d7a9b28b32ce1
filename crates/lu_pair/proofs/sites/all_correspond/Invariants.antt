use Rattle.std.proofs.Common.{◌≡◌, drop}
use Rattle.lu_image.specs.Pairing.{all_correspond}
use Rattle.lu_pair.specs.Sites.{same_types}
use Rattle.lu_pair.proofs.sites.all_correspond.Given as goal

-- what is left corresponds just where all does
abbrev pub invariant-loop-place : goal.invariant-loop-place
invariant-loop-place l =
    all_correspond (same_types l.types) (drop l.place l.old) (drop l.place l.new) ≡ all_correspond (same_types l.types) l.old l.new
