use Rattle.std.proofs.Common.{◌≡◌, ◌-◌, ◌++◌, length}
use Rattle.std.specs.Option.{option_map}
use Rattle.c_types.specs.Descent.{descend, find_place}
use Rattle.c_types.proofs.places.find_place.Given as goal

abbrev pub invariant-loop : goal.invariant-loop
invariant-loop l =
    option_map (λ rest. l.steps.items ++ rest) (descend l.parts (length l.parts.types - l.counter) l.at.ty l.at.rest l.want) ≡ find_place l.parts l.elem l.count l.offset l.want
