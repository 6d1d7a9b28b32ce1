use Rattle.std.proofs.Common.{rules}
use Rattle.c_types.proofs.Numbered.{element_known}
use Rattle.lu_remap.proofs.descent.held_by.Goals as goal

pub returns-in-Some-Array-clause-known : goal.returns-in-Some-Array-clause-known
returns-in-Some-Array-clause-known c =
    element_known c.args.types.now c.parts.ensures.built.numbered c.args.number c.in-Some-Array.ty c.in-Some-Array.count (search rules)
