use Rattle.std.proofs.Common.{◌≡◌, take, drop, []}
use Rattle.lu_image.specs.RenameRefusal.{first_refusal}
use Rattle.lu_pair.proofs.renaming.Renaming.check.Given as goal

-- the refusal of what is left is that of the whole
abbrev pub invariant-loop-place : goal.invariant-loop-place
invariant-loop-place l =
    first_refusal l.old l.new (take l.place l.self) (drop l.place l.self) ≡ first_refusal l.old l.new [] l.self
