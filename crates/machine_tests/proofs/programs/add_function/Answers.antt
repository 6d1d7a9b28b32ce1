use Rattle.std.proofs.Common.{◌≡◌, sym, subst, ℕ, Some}
use Rattle.std.specs.Prelude.{slice_get}
use Rattle.bm_code.specs.declared.code.MachineFunction.{MachineFunction}
use Rattle.bm_code.specs.Accepted.{IsAcceptedFunction}
use Rattle.machine_tests.proofs.TestLemmas.{in_more}
use Rattle.machine_tests.proofs.programs.add_function.Goals as goal

pub returns-clause-each : goal.returns-clause-each
returns-clause-each c =
    λ code same. subst (λ l. (k : ℕ) (d : MachineFunction) → slice_get l k ≡ Some d → IsAcceptedFunction code d) (sym c.in_ok-push.ensures.items) (in_more (IsAcceptedFunction code) c.args.all.now.items c.in_ok-next.next (c.requires code same) (c.in_ok-next.ensures code same))
