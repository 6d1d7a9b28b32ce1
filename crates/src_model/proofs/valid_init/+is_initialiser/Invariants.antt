use Rattle.std.proofs.Common.{◌≡◌, take}
use Rattle.src_meaning.specs.ValidInitialiser as spec
use Rattle.src_model.proofs.valid_init.+is_initialiser.Given as goal

abbrev pub invariant-are_items-loop-init : goal.invariant-are_items-loop-init
invariant-are_items-loop-init l = (l.number ≡ l.init-index) × (l.fits ≡ spec.are_listed l.p l.global l.room l.ty 0 (take l.init-index l.inits))
