use Rattle.std.proofs.Common.{below_more, arith}
use Rattle.c_types.specs.Refusal.{HasNameBefore}
use Rattle.c_types.proofs.Lists.{within-one_name}
use Rattle.c_types.proofs.duplicates.names_twice.Goals as goal

pub loop-k-preserved : goal.loop-k-preserved
loop-k-preserved c =
    below_more (λ m. HasNameBefore c.args.fields.now m → ⊥) _ c.loop-k.invariant c.if-name_before.ensures

pub returns : goal.returns
returns c h =
    let within = within-one_name c.args.fields.now h.1.0 h.0 h.1.2 in
    c.loop-k.invariant h.0 (omega (arith, within)) h.1
