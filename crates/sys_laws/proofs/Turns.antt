-- A turn of a server, other than a commit, changes of its host only the active attempt.
use Rattle.std.proofs.Common.{◌≡◌, refl, ℕ, Bool, true, false, nat_eq, Option, Some, None, if◌then◌else◌}
use Rattle.lu_base.specs.declared.trap.Trap.{Trap}
use Rattle.src_tree.specs.declared.value.Store.{Store}
use Rattle.lu_lines.specs.declared.note.Note.{Note}
use Rattle.sys_world.specs.declared.outcome.Outcome.{Outcome}
use Rattle.sys_world.specs.declared.outcome.Outcome.TheVariants as outcome
use Rattle.sys_world.specs.Setup.{UpdateSetup}
use Rattle.sys_world.specs.World.{State, Idle, Busy, Dead, Life, Host}
use Rattle.sys_world.specs.Attempt.{filter_holds, tried, is_short, work_from}
use Rattle.sys_world.specs.Turn.{Turn, says, with_life, settled, ended_deliveries, try_life, try_by, try_turn, lose_life, lose_by, lose_turn, begun, begin_by, request_by, request_turn, left_by, work_life, on_active, work_turn, abort_turn}

-- a host, and it with another attempt
pub record ChangesLife (h k : Host) : Type 0 where
  pub life : Option Life
  pub is : k ≡ with_life life h

other_life : (h : Host) (life : Option Life) → ChangesLife h (with_life life h)
other_life h life = record { life = life; is = refl }

as_was : (h : Host) → ChangesLife h h
as_was h = record { life = h.life; is = refl }

settled-life : (o : Outcome) (l : Life) (h : Host) → ChangesLife h (settled o l h).host
settled-life outcome.Moving l h = other_life h (Some l)
settled-life (outcome.Refused r) l h = other_life h None
settled-life outcome.Waiting l h = other_life h (Some l)
settled-life outcome.Ready l h = other_life h (Some l)
settled-life outcome.Committed l h = other_life h (Some l)

try_life-life : (ended : Bool) (store : Store) (o : Outcome) (l : Life) (h : Host) → ChangesLife h (try_life ended store o l h).host
try_life-life ended store outcome.Waiting l h =
    let d = ended_deliveries ended l.deliveries in
    let o = tried (filter_holds l.update store) ended l.update.tries d in
    settled-life o (record l { outcome = o; deliveries = d }) h
try_life-life ended store outcome.Moving l h = as_was h
try_life-life ended store outcome.Ready l h = as_was h
try_life-life ended store outcome.Committed l h = as_was h
try_life-life ended store (outcome.Refused r) l h = as_was h

try_by-life : (ended : Bool) (s : State) (life : Option Life) (h : Host) → ChangesLife h (try_by ended s life h).host
try_by-life ended (Idle store) (Some l) h = try_life-life ended store l.outcome l h
try_by-life ended (Idle store) None h = as_was h
try_by-life ended (Busy store m given) life h = as_was h
try_by-life ended (Dead trap) life h = as_was h

pub try-life : (ended : Bool) (h : Host) → ChangesLife h (try_turn ended h).host
try-life ended h = try_by-life ended h.state h.life h

lose_life-life : (trap : Trap) (o : Outcome) (l : Life) (h : Host) → ChangesLife h (lose_life trap o l h).host
lose_life-life trap outcome.Waiting l h = other_life h None
lose_life-life trap outcome.Moving l h = as_was h
lose_life-life trap outcome.Ready l h = as_was h
lose_life-life trap outcome.Committed l h = as_was h
lose_life-life trap (outcome.Refused r) l h = as_was h

lose_by-life : (trap : Trap) (life : Option Life) (h : Host) → ChangesLife h (lose_by trap life h).host
lose_by-life trap None h = as_was h
lose_by-life trap (Some l) h = lose_life-life trap l.outcome l h

pub lose-life : (trap : Trap) (h : Host) → ChangesLife h (lose_turn trap h).host
lose-life trap h = lose_by-life trap h.life h

begin_by-life : (short : Bool) (number : ℕ) (u : UpdateSetup) (h : Host) → ChangesLife h (begin_by short number u h).host
begin_by-life true number u h = as_was h
begin_by-life false number u h =
    let t = try-life false (with_life (Some (begun number u)) h) in record { life = t.life; is = t.is }

request_at-life : (same : Bool) (k : Option ℕ) (number : ℕ) (u : UpdateSetup) (n : Note) (h : Host)
    → ChangesLife h (if same then begin_by (is_short k 0) number u h else says n h).host
request_at-life true k number u n h = begin_by-life (is_short k 0) number u h
request_at-life false k number u n h = as_was h

request_by-life : (k : Option ℕ) (number : ℕ) (u : UpdateSetup) (version : ℕ) (s : State) (life : Option Life) (h : Host)
    → ChangesLife h (request_by k number u version s life h).host
request_by-life k number u version (Dead trap) life h = as_was h
request_by-life k number u version (Idle store) (Some l) h = as_was h
request_by-life k number u version (Idle store) None h = request_at-life (nat_eq version u.from) k number u _ h
request_by-life k number u version (Busy store m given) (Some l) h = as_was h
request_by-life k number u version (Busy store m given) None h = request_at-life (nat_eq version u.from) k number u _ h

pub request-life : (k : Option ℕ) (number : ℕ) (u : UpdateSetup) (version : ℕ) (h : Host) → ChangesLife h (request_turn k number u version h).host
request-life k number u version h = request_by-life k number u version h.state h.life h

left_by-life : (o : Outcome) (l : Life) (h : Host) → ChangesLife h (left_by o l h)
left_by-life (outcome.Refused r) l h = other_life h None
left_by-life outcome.Waiting l h = other_life h (Some l)
left_by-life outcome.Moving l h = other_life h (Some l)
left_by-life outcome.Ready l h = other_life h (Some l)
left_by-life outcome.Committed l h = other_life h (Some l)

work_life-life : (k : Option ℕ) (units : ℕ) (s : State) (o : Outcome) (l : Life) (h : Host) → ChangesLife h (work_life k units s o l h).host
work_life-life k units (Idle store) outcome.Moving l h =
    let p = work_from l.update store k units l.done in
    left_by-life p.outcome (record l { outcome = p.outcome; done = p.done }) h
work_life-life k units (Idle store) outcome.Waiting l h = as_was h
work_life-life k units (Idle store) outcome.Ready l h = as_was h
work_life-life k units (Idle store) outcome.Committed l h = as_was h
work_life-life k units (Idle store) (outcome.Refused r) l h = as_was h
work_life-life k units (Busy store m given) o l h = as_was h
work_life-life k units (Dead trap) o l h = as_was h

active-life : (f : Life → Host → Turn) (n : Note) (number : ℕ) (life : Option Life) (h : Host) → ((l : Life) → ChangesLife h (f l h).host)
    → ChangesLife h (on_active f n number life h).host
active-life f n number None h each = as_was h
active-life f n number (Some l) h each = by_number (nat_eq l.number number)
  where
    by_number : (b : Bool) → ChangesLife h (if b then f l h else says n h).host
    by_number true = each l
    by_number false = as_was h

pub work-life : (k : Option ℕ) (units number : ℕ) (u : UpdateSetup) (h : Host) → ChangesLife h (work_turn k units number u h).host
work-life k units number u h = active-life _ _ number h.life h (λ l. work_life-life k units h.state l.outcome l h)

pub abort-life : (number : ℕ) (u : UpdateSetup) (h : Host) → ChangesLife h (abort_turn number u h).host
abort-life number u h = active-life _ _ number h.life h (λ l. other_life h None)
