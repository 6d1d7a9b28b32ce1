use Rattle.std.proofs.Common.{◌≡◌, ◌-◌, length}
use Rattle.std.specs.Prelude.{is_some}
use Rattle.c_types.specs.Descent.{descend, find_place}
use Rattle.c_types.proofs.places.has_place.Given as goal

abbrev pub invariant-loop : goal.invariant-loop
invariant-loop l =
    is_some (descend l.parts (length l.parts.types - l.counter) l.at.ty l.at.rest l.want) ≡ is_some (find_place l.parts l.elem l.count l.offset l.want)
