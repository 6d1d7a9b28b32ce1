use Rattle.std.proofs.Common.{ap, length, arith}
use Rattle.c_types.proofs.Numbered.{fields_few, members_few}
use Rattle.c_check_scope.proofs.members.part_of.Goals as goal

pub part_named-requires : goal.part_named-requires
part_named-requires c =
    omega (arith, fields_few c.args.parts.now c.requires.numbered c.in-Struct.number, ap length c.fields_of.ensures)

pub part_named-requires-in-Union : goal.part_named-requires-in-Union
part_named-requires-in-Union c =
    omega (arith, members_few c.args.parts.now c.requires.numbered c.in-Union.number, ap length c.members_of.ensures)
