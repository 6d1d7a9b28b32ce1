-- What is done to a process from outside: a call that begins, a last trap that is forgotten, other bytes, an outbox that
-- is emptied.
use Rattle.std.specs.Prelude.{ℕ, Bool, true, false, List, [], None}
use Rattle.lu_base.specs.declared.limits.TheConstants.{CALL_TICKS}
use Rattle.bm_mem.specs.Content.{Content}
use Rattle.bm_code.specs.Process.{Activity, Idle, Starting, Running, Process}
use Rattle.bm_code.specs.Transfers.{idle}

-- whether a call runs
abbrev pub is_running : Activity → Bool
is_running (Idle last) = false
is_running (Starting function args) = true
is_running (Running frame callers) = true

-- with other bytes
abbrev pub with_content : Process → Content → Process
with_content p m = record p { content = m }

-- a call begins, with an empty outbox and all its ticks
abbrev pub started : Process → ℕ → List ℕ → Process
started p function args = record p { outbox = []; activity = Starting function args; spare = CALL_TICKS }

-- no call runs, and that the last one trapped is forgotten
abbrev pub settled : Process → Process
settled p = idle None p

-- nothing waits to leave
abbrev pub without_sends : Process → Process
without_sends p = record p { outbox = [] }
