use Rattle.std.proofs.Common.{arith, lit≤}
use Rattle.c_types.specs.Layout.{shape_of}
use Rattle.c_types.proofs.Shapes.{greatest_align-low}
use Rattle.cg_program.proofs.bytes.greatest_align.Goals as goal

pub loop-member-init : goal.loop-member-init
loop-member-init c =
    let low = greatest_align-low (shape_of c.args.types.now) c.args.members.now in
    record { value = omega (arith, low); low = lit≤ tt }
