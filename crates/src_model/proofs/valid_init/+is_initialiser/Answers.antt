use Rattle.std.proofs.Common.{rules, ◌≡◌, ◌∙◌, ap}
use Rattle.src_meaning.specs.ValidInitialiser as spec
use Rattle.src_meaning.proofs.ValidItems.{initialiser-List}
use Rattle.src_model.proofs.valid_init.+is_initialiser.Goals as goal

pub is_initialiser-returns-then-is_filled : goal.is_initialiser-returns-then-is_filled
is_initialiser-returns-then-is_filled t c = let e = ap (spec.is_initialiser c.args.p.now c.args.global c.args.room c.args.ty) c.in-List.is ∙ initialiser-List c.args.p.now c.args.global c.args.room c.args.ty c.in-List.inits in search rules

pub is_initialiser-returns-else-is_filled : goal.is_initialiser-returns-else-is_filled
is_initialiser-returns-else-is_filled t c = let e = ap (spec.is_initialiser c.args.p.now c.args.global c.args.room c.args.ty) c.in-List.is ∙ initialiser-List c.args.p.now c.args.global c.args.room c.args.ty c.in-List.inits in search rules
