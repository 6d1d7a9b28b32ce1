use Rattle.std.proofs.Common.{◌≡◌, map, take}
use Rattle.lu_remap.specs.Shapes.{global_shape}
use Rattle.lu_remap.proofs.shapes.global_shapes.Given as goal

abbrev pub invariant-loop-ty : goal.invariant-loop-ty
invariant-loop-ty l = l.rows.items ≡ map (global_shape l.new.types) (take l.ty-index l.new.globals)
