use Rattle.std.proofs.Common.{arith, lit≤}
use Rattle.c_types.specs.Rounds.{shape_at}
use Rattle.c_types.proofs.Shapes.{greatest_align-low}
use Rattle.c_types.proofs.shape.greatest_align.Goals as goal

pub loop-field-init : goal.loop-field-init
loop-field-init c =
    let low = greatest_align-low (shape_at c.args.shapes.now) c.args.fields.now in
    record { value = omega (arith, low); low = lit≤ tt; high = lit≤ tt }
