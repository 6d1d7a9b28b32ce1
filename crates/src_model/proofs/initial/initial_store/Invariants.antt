use Rattle.std.proofs.Common.{◌≡◌, take}
use Rattle.std.specs.Prelude.{map}
use Rattle.src_meaning.specs.Initial.{initial_object}
use Rattle.src_model.proofs.initial.initial_store.Given as goal

abbrev pub invariant-loop-global : goal.invariant-loop-global
invariant-loop-global l = l.objects ≡ map (initial_object l.p) (take l.global-index l.p.globals)
