use Rattle.std.proofs.Common.{◌∙◌}
use Rattle.std.proofs.lemmas.Result.{on_ok_weaker}
use Rattle.cg_stmt.proofs.CallPuts.{call_puts}
use Rattle.cg_stmt.proofs.calls.put_call.Goals as goal

pub returns-in-Ok : goal.returns-in-Ok
returns-in-Ok c =
    on_ok_weaker c.put.result (λ h. call_puts _ _ _ _ _ _ _ _ _ c.as_slice.ensures (c.in-Ok.ensures.1 ∙ c.len.ensures) c.call_last.ensures c.in_ok-put_callee.ensures c.in_ok-put_arguments.ensures h) c.put.ensures
