use Rattle.std.proofs.Common.{rules, arith, Some}
use Rattle.c_types.specs.declared.parts.Ty.TheVariants.{Struct}
use Rattle.c_types.specs.declared.path.Step.TheVariants.{Field}
use Rattle.lu_remap.specs.Descent.{versions}
use Rattle.lu_remap.proofs.Fitting.{part_fits}
use Rattle.lu_remap.proofs.step.next_field.Goals as goal

pub overflow_add-result : goal.overflow_add-result
overflow_add-result c =
    let fits = part_fits (versions c.args.pairing.now) (search rules) c.in_ok-to.to (search rules) (Some (Struct c.args.tag)) (Field c.args.k) c.in_ok-part.part (search rules) in
    omega (arith, fits)

pub returns-clause-fits : goal.returns-clause-fits
returns-clause-fits c =
    part_fits (versions c.args.pairing.now) (search rules) c.in_ok-to.to (search rules) (Some (Struct c.args.tag)) (Field c.args.k) c.in_ok-part.part (search rules)
