-- Which events a schedule may have for a plan.
use Rattle.std.specs.Prelude.{ℕ, ◌≤◌, ℤ, pos, negsuc, List, length, Bool, false, ◌&&◌, nat_le, nat_lt, IsTrue}
use Rattle.std.specs.List.{list_all}
use Rattle.std.specs.Ordering.{int_eq}
use Rattle.plan_file.specs.declared.plan.Plan.{Plan}
use Rattle.sched_file.specs.declared.event.Event.{Event}
use Rattle.sched_file.specs.declared.event.Event.TheVariants as event

abbrev pub is_between : ℕ → ℕ → ℕ → Bool
is_between low high n = nat_le low n && nat_le n high

-- a client's number: 100..999
abbrev pub is_client : ℤ → Bool
is_client (pos n) = is_between 100 999 n
is_client (negsuc n) = false

abbrev pub has_server : Plan → ℕ → Bool
has_server plan server = nat_lt server (length plan.server)

abbrev pub has_update : Plan → ℕ → Bool
has_update plan update = nat_lt update (length plan.update)

-- A basic event of a plan: its server or update is there, its client is one and sends for itself, and its ticks or units
-- are 1..1,000,000. Boot and Finish are no basic events.
abbrev pub is_basic : Plan → Event → Bool
is_basic plan event.Boot = false
is_basic plan (event.Send client server message) = is_client client && int_eq message.source client && has_server plan server
is_basic plan (event.Run server ticks) = has_server plan server && is_between 1 1000000 ticks
is_basic plan (event.Update update) = has_update plan update
is_basic plan (event.Work update units) = has_update plan update && is_between 1 1000000 units
is_basic plan (event.Commit update) = has_update plan update
is_basic plan (event.Abort update) = has_update plan update
is_basic plan (event.Dump server) = has_server plan server
is_basic plan event.Finish = false

-- at most 100,000 basic events of a plan
pub record AreBasic (plan : Plan) (events : List Event) : Type 0 where
  pub few : length events ≤ 100000
  pub each : IsTrue (list_all (is_basic plan) events)
