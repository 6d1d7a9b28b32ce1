use Rattle.std.proofs.Common.{rules, FitsSigned}
use Rattle.std.specs.Int.{w128}
use Rattle.std.proofs.lemmas.Int.{to_z-of_z}
use Rattle.src_model.proofs.constant.on_two.Goals as goal

pub returns-in-Ok-Ok : goal.returns-in-Ok-Ok
returns-in-Ok-Ok c =
    let a : FitsSigned w128 c.in-Ok-Ok.a = search rules in
    let b : FitsSigned w128 c.in-Ok-Ok.b = search rules in
    λ takes p store t s known. let is = rw (to_z-of_z w128 c.in-Ok-Ok.a a, to_z-of_z w128 c.in-Ok-Ok.b b) at c.binary.ensures takes p store t s known in
    rw (c.in-Ok-Ok.is-0, c.in-Ok-Ok.is-1) is
