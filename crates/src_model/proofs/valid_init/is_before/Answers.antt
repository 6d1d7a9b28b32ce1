use Rattle.std.proofs.Common.{rules, ◌≡◌, ◌∙◌, ap}
use Rattle.src_meaning.specs.ValidInitialiser as spec
use Rattle.src_meaning.proofs.ValidTrees.{before-AddressOf, before-Decay}
use Rattle.src_model.proofs.valid_init.is_before.Goals as goal

pub returns-in-AddressOf : goal.returns-in-AddressOf
returns-in-AddressOf c = let e = ap (spec.is_before c.args.global) c.in-AddressOf.is ∙ before-AddressOf c.args.global c.in-AddressOf.place in search rules

pub returns-in-Decay : goal.returns-in-Decay
returns-in-Decay c = let e = ap (spec.is_before c.args.global) c.in-Decay.is ∙ before-Decay c.args.global c.in-Decay.place in search rules
