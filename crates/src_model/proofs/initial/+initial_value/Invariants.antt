use Rattle.std.proofs.Common.{◌≡◌, take}
use Rattle.src_meaning.specs.Initial.{item_types, initial_scope, initial_value}
use Rattle.src_meaning.proofs.InitialLemmas.{paired}
use Rattle.src_model.proofs.initial.+initial_value.Given as goal

abbrev pub invariant-initial_items-loop-init : goal.invariant-initial_items-loop-init
invariant-initial_items-loop-init l =
    l.items ≡ paired (initial_value (initial_scope l.p)) (item_types l.p.types l.number) (take l.init-index l.inits)
