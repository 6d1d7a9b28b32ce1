-- What an event makes of one server's state and active attempt, and what it tells.
use Rattle.std.specs.Prelude.{ℕ, ◌+◌, nat_eq, Bool, true, false, List, [], ◌∷◌, ◌++◌, Option, Some, None, if◌then◌else◌}
use Rattle.lu_base.specs.declared.trap.Trap.{Trap}
use Rattle.src_tree.specs.declared.value.Store.{Store}
use Rattle.lu_lines.specs.declared.note.Note.{Note}
use Rattle.lu_lines.specs.declared.note.Note.TheVariants as note
use Rattle.lu_lines.specs.declared.reason.Reason.TheVariants as reason
use Rattle.sys_world.specs.declared.outcome.Outcome.{Outcome}
use Rattle.sys_world.specs.declared.outcome.Outcome.TheVariants as outcome
use Rattle.sys_world.specs.Setup.{UpdateSetup}
use Rattle.sys_world.specs.World.{State, Idle, Busy, Dead, Life, Host}
use Rattle.sys_world.specs.Attempt.{filter_holds, tried, Progress, work_from, work_notes, is_short, new_store}

pub record Turn : Type 0 where
  pub host : Host
  pub notes : List Note

abbrev pub still : Host → Turn
still h = record { host = h; notes = [] }

abbrev pub says : Note → Host → Turn
says n h = record { host = h; notes = n ∷ [] }

-- notes before a turn's own
abbrev pub after_notes : List Note → Turn → Turn
after_notes ns t = record { host = t.host; notes = ns ++ t.notes }

abbrev pub with_life : Option Life → Host → Host
with_life life h = record h { life = life }

-- a try of the filter leaves an attempt that goes on, or one that is refused
abbrev pub settled : Outcome → Life → Host → Turn
settled outcome.Moving l h = says (note.Held l.update.name) (with_life (Some l) h)
settled (outcome.Refused r) l h = says (note.Refused l.update.name r) (with_life None h)
settled outcome.Waiting l h = still (with_life (Some l) h)
settled outcome.Ready l h = still (with_life (Some l) h)
settled outcome.Committed l h = still (with_life (Some l) h)

abbrev pub tried_life : Bool → Store → ℕ → Life → Host → Turn
tried_life ended store deliveries l h =
    let o = tried (filter_holds l.update store) ended l.update.tries deliveries in
    settled o (record l { outcome = o; deliveries = deliveries }) h

abbrev pub ended_deliveries : Bool → ℕ → ℕ
ended_deliveries ended d = if ended then d + 1 else d

abbrev pub try_life : Bool → Store → Outcome → Life → Host → Turn
try_life ended store outcome.Waiting l h = tried_life ended store (ended_deliveries ended l.deliveries) l h
try_life ended store outcome.Moving l h = still h
try_life ended store outcome.Ready l h = still h
try_life ended store outcome.Committed l h = still h
try_life ended store (outcome.Refused r) l h = still h

-- a waiting update of an idle server tries its filter; at the end of a delivery one more has ended
abbrev pub try_by : Bool → State → Option Life → Host → Turn
try_by ended (Idle store) (Some l) h = try_life ended store l.outcome l h
try_by ended (Idle store) None h = still h
try_by ended (Busy store m given) life h = still h
try_by ended (Dead trap) life h = still h

abbrev pub try_turn : Bool → Host → Turn
try_turn ended h = try_by ended h.state h.life h

-- the server has died: a waiting update is refused
abbrev pub lose_life : Trap → Outcome → Life → Host → Turn
lose_life trap outcome.Waiting l h = says (note.Refused l.update.name (reason.Dead trap)) (with_life None h)
lose_life trap outcome.Moving l h = still h
lose_life trap outcome.Ready l h = still h
lose_life trap outcome.Committed l h = still h
lose_life trap (outcome.Refused r) l h = still h

abbrev pub lose_by : Trap → Option Life → Host → Turn
lose_by trap None h = still h
lose_by trap (Some l) h = lose_life trap l.outcome l h

abbrev pub lose_turn : Trap → Host → Turn
lose_turn trap h = lose_by trap h.life h

-- the attempt that a request begins
abbrev pub begun : ℕ → UpdateSetup → Life
begun number u = record {
  number = number;
  update = u;
  outcome = outcome.Waiting;
  deliveries = 0;
  done = 0;
}

abbrev pub begin_by : Bool → ℕ → UpdateSetup → Host → Turn
begin_by true number u h = says (note.Refused u.name (reason.NoMemory 0)) h
begin_by false number u h =
    after_notes (note.Waiting u.name ∷ []) (try_turn false (with_life (Some (begun number u)) h))

abbrev pub request_at : Option ℕ → ℕ → UpdateSetup → ℕ → Host → Turn
request_at k number u version h =
    if nat_eq version u.from then begin_by (is_short k 0) number u h else says (note.Refused u.name (reason.Version version)) h

-- A request of the update at a version: it is refused where the server is dead, has an active update or runs another
-- version, in this order, and else begins an attempt.
abbrev pub request_by : Option ℕ → ℕ → UpdateSetup → ℕ → State → Option Life → Host → Turn
request_by k number u version (Dead trap) life h = says (note.Refused u.name (reason.Dead trap)) h
request_by k number u version (Idle store) (Some l) h = says (note.Refused u.name reason.Busy) h
request_by k number u version (Idle store) None h = request_at k number u version h
request_by k number u version (Busy store m given) (Some l) h = says (note.Refused u.name reason.Busy) h
request_by k number u version (Busy store m given) None h = request_at k number u version h

abbrev pub request_turn : Option ℕ → ℕ → UpdateSetup → ℕ → Host → Turn
request_turn k number u version h = request_by k number u version h.state h.life h

-- what work leaves of the attempt
abbrev pub left_by : Outcome → Life → Host → Host
left_by (outcome.Refused r) l h = with_life None h
left_by outcome.Waiting l h = with_life (Some l) h
left_by outcome.Moving l h = with_life (Some l) h
left_by outcome.Ready l h = with_life (Some l) h
left_by outcome.Committed l h = with_life (Some l) h

abbrev pub worked : Store → Life → Progress → Host → Turn
worked store l p h = record {
  host = left_by p.outcome (record l { outcome = p.outcome; done = p.done }) h;
  notes = work_notes l.update store l.done p;
}

-- work is done where the server is held and the attempt isn't ready
abbrev pub work_life : Option ℕ → ℕ → State → Outcome → Life → Host → Turn
work_life k units (Idle store) outcome.Moving l h = worked store l (work_from l.update store k units l.done) h
work_life k units s o l h = still h

-- what is done where the update of that number is the active one, and what is told where it isn't
abbrev pub on_active : (Life → Host → Turn) → Note → ℕ → Option Life → Host → Turn
on_active f n number None h = says n h
on_active f n number (Some l) h = if nat_eq l.number number then f l h else says n h

abbrev pub work_turn : Option ℕ → ℕ → ℕ → UpdateSetup → Host → Turn
work_turn k units number u h =
    on_active (λ l h. work_life k units h.state l.outcome l h) (note.NotActive u.name) number h.life h

abbrev pub abort_turn : ℕ → UpdateSetup → Host → Turn
abort_turn number u h =
    on_active (λ l h. says (note.Refused u.name (reason.Aborted l.done)) (with_life None h)) (note.NotActive u.name) number h.life h

-- the update of that number is ready to be committed
abbrev pub ready_by : ℕ → State → Outcome → ℕ → Bool
ready_by number (Idle store) outcome.Ready active = nat_eq active number
ready_by number s o active = false

abbrev pub ready_of : ℕ → State → Option Life → Bool
ready_of number s None = false
ready_of number s (Some l) = ready_by number s l.outcome l.number

abbrev pub is_ready : ℕ → Host → Bool
is_ready number h = ready_of number h.state h.life

abbrev pub commit_by : UpdateSetup → State → Host → Host
commit_by u (Idle store) h = record {
  world = h.world;
  program = u.new_program;
  state = Idle (new_store u store);
  life = None;
}
commit_by u (Busy store m given) h = h
commit_by u (Dead trap) h = h

-- the new version runs
abbrev pub commit_turn : UpdateSetup → Host → Turn
commit_turn u h = says (note.Committed u.name) (commit_by u h.state h)
