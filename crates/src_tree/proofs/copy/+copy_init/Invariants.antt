use Rattle.std.proofs.Common.{◌≡◌, take}
use Rattle.src_tree.proofs.copy.+copy_init.Given as goal

abbrev pub invariant-copy_inits-loop-init : goal.invariant-copy_inits-loop-init
invariant-copy_inits-loop-init l = l.copies ≡ take l.init-index l.inits
