-- The process that the parts of one in memory stand for.
use Rattle.std.specs.Prelude.{ℕ, List, map}
use Rattle.lu_base.specs.Sending.{Sent}
use Rattle.bm_mem.specs.Content.{Content}
use Rattle.bm_objects.specs.declared.row.Row.{Row}
use Rattle.bm_code.specs.Process.{Frame, Activity, Idle, Starting, Running, Process}
use Rattle.bm_frame.specs.View.{frame_of}
use Rattle.bm_run.specs.declared.calls.Mode.{Mode}
use Rattle.bm_run.specs.declared.calls.Mode.TheVariants as M
use Rattle.bm_run.specs.declared.calls.Calls.{Calls}

abbrev pub activity_in : Mode → Frame → List Frame → Activity
activity_in (M.Idle last) f callers = Idle last
activity_in M.Starting f callers = Starting f.function f.locals
activity_in M.Running f callers = Running f callers

abbrev pub activity_of : Calls → Activity
activity_of c = activity_in c.mode (frame_of c.frame) (map frame_of c.callers)

abbrev pub process_in : Content → List Row → ℕ → List Sent → Calls → Process
process_in m rows next outbox c = record {
  content = m;
  rows = rows;
  next = next;
  outbox = outbox;
  activity = activity_of c;
  spare = c.spare;
}
