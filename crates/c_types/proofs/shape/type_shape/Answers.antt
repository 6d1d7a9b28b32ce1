use Rattle.std.proofs.Common.{arith}
use Rattle.c_types.proofs.Numbered.{fields_few}
use Rattle.c_types.proofs.shape.type_shape.Goals as goal

pub struct_shape-requires-clause-count : goal.struct_shape-requires-clause-count
struct_shape-requires-clause-count c =
    let few = fields_few c.args.parts.now c.requires.numbered c.in-Struct.number in
    rw c.fields_of.ensures (omega (arith, few))
