use Rattle.std.proofs.Common.{◌≡◌, ◌≤◌, ◌+◌, drop}
use Rattle.lu_spec.specs.Then.{then_option}
use Rattle.c_types.specs.Layout.{greatest, size_of}
use Rattle.c_types.specs.Place.{shifted, path_place}
use Rattle.c_types.proofs.descent.path_place.Given as goal

abbrev pub invariant-loop-step : goal.invariant-loop-step
invariant-loop-step l = record {
  value : then_option (path_place l.parts l.at.ty (drop l.step-index l.path)) (shifted l.at.offset) ≡ path_place l.parts l.number l.path;
  inside : l.at.offset + size_of l.parts l.at.ty ≤ greatest;
}
