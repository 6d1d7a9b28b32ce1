-- What each event keeps, where the edits that it is made of keep it.
use Rattle.std.proofs.Common.{◌≡◌, refl, sym, subst, ℕ, ◌+◌, Bool, true, false, nat_lt, List, Option, Some, None, if◌then◌else◌}
use Rattle.std.specs.Prelude.{slice_get}
use Rattle.lu_base.specs.declared.message.Message.{Message}
use Rattle.lu_base.specs.declared.trap.Trap.{Trap}
use Rattle.lu_base.specs.Sending.{Sent}
use Rattle.src_tree.specs.declared.value.Store.{Store}
use Rattle.src_meaning.specs.Delivery.{Delivered, Ends, Dies, deliver}
use Rattle.mk_queue.specs.declared.hold.Hold.{Hold}
use Rattle.mk_queue.specs.Held.{next_message}
use Rattle.sched_file.specs.declared.event.Event.{Event}
use Rattle.sched_file.specs.declared.event.Event.TheVariants as event
use Rattle.sys_world.specs.declared.happened.Happened.TheVariants as happened
use Rattle.sys_world.specs.declared.outcome.Outcome.{Outcome}
use Rattle.sys_world.specs.Setup.{ServerSetup, UpdateSetup, SystemSetup}
use Rattle.sys_world.specs.World.{State, Idle, Busy, Dead, Life, Host, CellValue, SystemWorld, change}
use Rattle.sys_world.specs.Mail.{Mail, with_sent, with_history, with_trap, with_commit, without, put, returned_mail, trapped_mail}
use Rattle.sys_world.specs.Turn.{Turn, with_life, try_turn, lose_turn, request_turn, work_turn, abort_turn, ready_of, ready_by, commit_by}
use Rattle.sys_world.specs.Steps.{with_mail, with_state, with_turn, on_host, at_host, is_held, used_of, finished, given_ticks, give_by, give_ticks, hold_of, inbox_of, take_message, take_at, take_by, take_next, version_of, request, ready_at, commits, commit_ready, work, commit, abort, on_update, at_update, happen}
use Rattle.sys_laws.specs.Reached.{is_boot}
use Rattle.sys_laws.proofs.Growth.{CellsGrow, put-grows}
use Rattle.sys_laws.proofs.Changes.{change-same}
use Rattle.sys_laws.proofs.OwnMail.{returned-grows, trapped-grows}
use Rattle.sys_laws.proofs.Each.{Each, found, KeptByMail, each-grown, each-changed}
use Rattle.sys_laws.proofs.Turns.{ChangesLife, try-life, lose-life, request-life, work-life, abort-life}

abbrev pub in_state : State → Host → Host
in_state s h = record h { state = s }

-- a statement of a server that the edits of events other than Boot keep
pub record IsKept (setup : SystemSetup) (P : ServerSetup → Host → CellValue → Type 0) : Type 0 where
  pub arrives : KeptByMail P
  pub lives : (s : ServerSetup) (h : Host) (c : CellValue) (life : Option Life) → P s h c → P s (with_life life h) c
  pub takes : (s : ServerSetup) (h : Host) (c : CellValue) (store : Store) (hold : Hold) (place : ℕ) (m : Message) → h.state ≡ Idle store
      → next_message hold c.inbox ≡ Some place → slice_get c.inbox place ≡ Some m → P s h c → P s (in_state (Busy store m 0) h) (without place c)
  pub waits : (s : ServerSetup) (h : Host) (c : CellValue) (store : Store) (m : Message) (before given : ℕ) → h.state ≡ Busy store m before
      → P s h c → P s (in_state (Busy store m given) h) c
  pub returns : (s : ServerSetup) (h : Host) (c : CellValue) (store next : Store) (m : Message) (given : ℕ) (sends : List Sent) (used : ℕ) → h.state ≡ Busy store m given
      → deliver h.program h.world store m ≡ Ends next sends used → P s h c → P s (in_state (Idle next) h) (with_sent sends (with_history (happened.Delivered m) c))
  pub dies : (s : ServerSetup) (h : Host) (c : CellValue) (store : Store) (m : Message) (given : ℕ) (trap : Trap) (used : ℕ) → h.state ≡ Busy store m given
      → deliver h.program h.world store m ≡ Dies trap used → P s h c → P s (in_state (Dead trap) h) (with_trap trap (with_history (happened.Delivered m) c))
  pub commits : (s : ServerSetup) (h : Host) (c : CellValue) (store : Store) (number : ℕ) (u : UpdateSetup) → h.state ≡ Idle store
      → slice_get setup.updates number ≡ Some u → P s h c → P s (commit_by u (Idle store) h) (with_commit number u.to c)

module _ (setup : SystemSetup) (P : ServerSetup → Host → CellValue → Type 0) (kept : IsKept setup P) where
  abbrev pub Holds : SystemWorld → Type 0
  Holds w = Each (λ j. P) setup.servers w.hosts w.cells

  -- an edit of the server at a place, its host's or its cell's
  changed : (i : ℕ) (f : Host → Host) (g : CellValue → CellValue) (hosts : List Host) (cells : List CellValue) → Each (λ j. P) setup.servers hosts cells
      → ((s : ServerSetup) (h : Host) (c : CellValue) → slice_get hosts i ≡ Some h → slice_get cells i ≡ Some c → P s h c → P s (f h) (g c))
      → Each (λ j. P) setup.servers (change f i hosts) (change g i cells)
  changed i f g hosts cells each here = each-changed (λ j. P) (λ j. P) i f g setup.servers hosts cells each here (λ j s h c isnt p. p)

  host-changed : (i : ℕ) (f : Host → Host) (hosts : List Host) (cells : List CellValue) → Each (λ j. P) setup.servers hosts cells
      → ((s : ServerSetup) (h : Host) (c : CellValue) → slice_get hosts i ≡ Some h → P s h c → P s (f h) c)
      → Each (λ j. P) setup.servers (change f i hosts) cells
  host-changed i f hosts cells each here =
      subst (λ xs. Each (λ j. P) setup.servers (change f i hosts) xs) (change-same i cells) (changed i f (λ c. c) hosts cells each (λ s h c at _ p. here s h c at p))

  grown : (hosts : List Host) (cells more : List CellValue) → CellsGrow cells more → Each (λ j. P) setup.servers hosts cells → Each (λ j. P) setup.servers hosts more
  grown hosts cells more grows each = each-grown (λ j. P) (λ j. kept.arrives) setup.servers hosts cells more grows each

  at_host-holds : (f : Host → SystemWorld → SystemWorld) (i : ℕ) (w : SystemWorld) → Holds w
      → ((h : Host) → slice_get w.hosts i ≡ Some h → Holds (f h w)) → Holds (at_host f i w)
  at_host-holds f i w each to = by_host (slice_get w.hosts i) refl
    where
      by_host : (o : Option Host) → slice_get w.hosts i ≡ o → Holds (on_host f o w)
      by_host None e = each
      by_host (Some h) e = to h e

  turn-holds : (f : Host → Turn) (i : ℕ) (w : SystemWorld) → ((h : Host) → ChangesLife h (f h).host) → Holds w → Holds (with_turn f i w)
  turn-holds f i w changes each =
      host-changed i (λ h. (f h).host) w.hosts w.cells each (λ s h c at p. let l = changes h in subst (λ k. P s k c) (sym l.is) (kept.lives s h c l.life p))

  finished-holds : (i : ℕ) (h : Host) (store : Store) (m : Message) (given : ℕ) (d : Delivered) (w : SystemWorld) → slice_get w.hosts i ≡ Some h → h.state ≡ Busy store m given
      → deliver h.program h.world store m ≡ d → Holds w → Holds (finished i m d w)
  finished-holds i h store m given (Ends next sends used) w at busy ends each =
      let there = found P h (each i) at in
      let mail : Mail = record { cells = w.cells; told = w.told } in
      let g : CellValue → CellValue = λ c. with_sent sends (with_history (happened.Delivered m) c) in
      let hosts = change (in_state (Idle next)) i w.hosts in
      let edited = changed i (in_state (Idle next)) g w.hosts w.cells each (λ s k c at' _ p.
      let is : h ≡ k = cc in
      kept.returns s k c store next m given sends used (subst (λ k. k.state ≡ Busy store m given) is busy) (subst (λ k. deliver k.program k.world store m ≡ Ends next sends used) is ends) p) in
      turn-holds (try_turn true) i (with_mail (returned_mail i m sends) (with_state (Idle next) i w)) (try-life true)
      (grown hosts (change g i w.cells) (returned_mail i m sends mail).cells (returned-grows i m sends mail there.cell there.is_cell) edited)
  finished-holds i h store m given (Dies trap used) w at busy dies each =
      let there = found P h (each i) at in
      let mail : Mail = record { cells = w.cells; told = w.told } in
      let g : CellValue → CellValue = λ c. with_trap trap (with_history (happened.Delivered m) c) in
      let hosts = change (in_state (Dead trap)) i w.hosts in
      let edited = changed i (in_state (Dead trap)) g w.hosts w.cells each (λ s k c at' _ p.
      let is : h ≡ k = cc in
      kept.dies s k c store m given trap used (subst (λ k. k.state ≡ Busy store m given) is busy) (subst (λ k. deliver k.program k.world store m ≡ Dies trap used) is dies) p) in
      turn-holds (lose_turn trap) i (with_mail (trapped_mail i m trap) (with_state (Dead trap) i w)) (lose-life trap)
      (grown hosts (change g i w.cells) (trapped_mail i m trap mail).cells (trapped-grows i m trap mail there.cell there.is_cell) edited)

  given-holds : (b : Bool) (i : ℕ) (h : Host) (store : Store) (m : Message) (before given : ℕ) (w : SystemWorld) → slice_get w.hosts i ≡ Some h → h.state ≡ Busy store m before
      → Holds w → Holds (given_ticks b (deliver h.program h.world store m) i store m given w)
  given-holds true i h store m before given w at busy each =
      host-changed i (in_state (Busy store m given)) w.hosts w.cells each (λ s k c at' p.
      let is : h ≡ k = cc in kept.waits s k c store m before given (subst (λ k. k.state ≡ Busy store m before) is busy) p)
  given-holds false i h store m before given w at busy each = finished-holds i h store m before (deliver h.program h.world store m) w at busy refl each

  give_by-holds : (held : Bool) (h : Host) (i ticks : ℕ) (s : State) (w : SystemWorld) → slice_get w.hosts i ≡ Some h → h.state ≡ s → Holds w → Holds (give_by held h i ticks s w)
  give_by-holds true h i ticks s w at is each = each
  give_by-holds false h i ticks (Busy store m given) w at is each =
      given-holds (nat_lt (given + ticks) (used_of (deliver h.program h.world store m))) i h store m given (given + ticks) w at is each
  give_by-holds false h i ticks (Idle store) w at is each = each
  give_by-holds false h i ticks (Dead trap) w at is each = each

  give-holds : (i ticks : ℕ) (w : SystemWorld) → Holds w → Holds (give_ticks i ticks w)
  give-holds i ticks w each =
      at_host-holds (λ h w. give_by (is_held h.life) h i ticks h.state w) i w each (λ h at. give_by-holds (is_held h.life) h i ticks h.state w at refl each)

  taken-holds : (i : ℕ) (h : Host) (c : CellValue) (store : Store) (hold : Hold) (place : ℕ) (o : Option Message) (w : SystemWorld) → slice_get w.hosts i ≡ Some h
      → slice_get w.cells i ≡ Some c → h.state ≡ Idle store → next_message hold c.inbox ≡ Some place → slice_get c.inbox place ≡ o → Holds w → Holds (take_message i store place o w)
  taken-holds i h c store hold place None w at cell idle next there each = each
  taken-holds i h c store hold place (Some m) w at cell idle next there each =
      changed i (in_state (Busy store m 0)) (without place) w.hosts w.cells each (λ s k d at' cell' p.
      let is : h ≡ k = cc in let same : c ≡ d = cc in
      kept.takes s k d store hold place m (subst (λ k. k.state ≡ Idle store) is idle) (subst (λ c. next_message hold c.inbox ≡ Some place) same next) (subst (λ c. slice_get c.inbox place ≡ Some m) same there) p)

  take_at-holds : (i : ℕ) (h : Host) (c : CellValue) (store : Store) (hold : Hold) (o : Option ℕ) (w : SystemWorld) → slice_get w.hosts i ≡ Some h
      → slice_get w.cells i ≡ Some c → h.state ≡ Idle store → next_message hold c.inbox ≡ o → Holds w → Holds (take_at i store o c.inbox w)
  take_at-holds i h c store hold None w at cell idle next each = each
  take_at-holds i h c store hold (Some place) w at cell idle next each = taken-holds i h c store hold place (slice_get c.inbox place) w at cell idle next refl each

  take_by-holds : (held : Bool) (hold : Hold) (i : ℕ) (h : Host) (c : CellValue) (s : State) (w : SystemWorld) → slice_get w.hosts i ≡ Some h
      → slice_get w.cells i ≡ Some c → h.state ≡ s → Holds w → Holds (take_by held hold i s c.inbox w)
  take_by-holds true hold i h c s w at cell is each = each
  take_by-holds false hold i h c (Idle store) w at cell is each = take_at-holds i h c store hold (next_message hold c.inbox) w at cell is refl each
  take_by-holds false hold i h c (Busy store m given) w at cell is each = each
  take_by-holds false hold i h c (Dead trap) w at cell is each = each

  take-holds : (i : ℕ) (w : SystemWorld) → Holds w → Holds (take_next i w)
  take-holds i w each =
      at_host-holds (λ h w. take_by (is_held h.life) (hold_of h.life) i h.state (inbox_of (slice_get w.cells i)) w) i w each (λ h at.
      let there = found P h (each i) at in
      subst (λ o. Holds (take_by (is_held h.life) (hold_of h.life) i h.state (inbox_of o) w)) (sym there.is_cell)
      (take_by-holds (is_held h.life) (hold_of h.life) i h there.cell h.state w at there.is_cell refl each))

  -- commits
  idle-commits : (number : ℕ) (u : UpdateSetup) (h : Host) (store : Store) (w : SystemWorld) → slice_get setup.updates number ≡ Some u → slice_get w.hosts u.server ≡ Some h
      → h.state ≡ Idle store → Holds w → Holds (commits number u w)
  idle-commits number u h store w known at idle each =
      changed u.server (λ h. commit_by u h.state h) (with_commit number u.to) w.hosts w.cells each (λ s k c at' _ p.
      let is : h ≡ k = cc in
      let so : k.state ≡ Idle store = subst (λ k. k.state ≡ Idle store) is idle in
      subst (λ t. P s (commit_by u t k) (with_commit number u.to c)) (sym so) (kept.commits s k c store number u so known p))

  ready_by-commits : (number : ℕ) (u : UpdateSetup) (h : Host) (t : State) (o : Outcome) (active : ℕ) (w : SystemWorld) → slice_get setup.updates number ≡ Some u → slice_get w.hosts u.server ≡ Some h
      → h.state ≡ t → Holds w → ready_by number t o active ≡ true → Holds (commits number u w)
  ready_by-commits number u h (Idle store) o active w known at is each ready = idle-commits number u h store w known at is each
  ready_by-commits number u h (Busy store m given) o active w known at is each ready = absurd (cc)
  ready_by-commits number u h (Dead trap) o active w known at is each ready = absurd (cc)

  ready_of-commits : (number : ℕ) (u : UpdateSetup) (h : Host) (life : Option Life) (w : SystemWorld) → slice_get setup.updates number ≡ Some u → slice_get w.hosts u.server ≡ Some h
      → Holds w → ready_of number h.state life ≡ true → Holds (commits number u w)
  ready_of-commits number u h None w known at each ready = absurd (cc)
  ready_of-commits number u h (Some l) w known at each ready = ready_by-commits number u h h.state l.outcome l.number w known at refl each ready

  ready-commits : (number : ℕ) (u : UpdateSetup) (o : Option Host) (w : SystemWorld) → slice_get setup.updates number ≡ Some u → slice_get w.hosts u.server ≡ o
      → Holds w → ready_at number o ≡ true → Holds (commits number u w)
  ready-commits number u None w known at each ready = absurd (cc)
  ready-commits number u (Some h) w known at each ready = ready_of-commits number u h h.life w known at each ready

  if_ready-holds : (b : Bool) (number : ℕ) (u : UpdateSetup) (w other : SystemWorld) → slice_get setup.updates number ≡ Some u → ready_at number (slice_get w.hosts u.server) ≡ b
      → Holds w → Holds other → Holds (if b then commits number u w else other)
  if_ready-holds true number u w other known ready each rest = ready-commits number u (slice_get w.hosts u.server) w known refl each ready
  if_ready-holds false number u w other known ready each rest = rest

  ungated-holds : (b : Bool) (number : ℕ) (u : UpdateSetup) (w : SystemWorld) → slice_get setup.updates number ≡ Some u → Holds w → Holds (if b then w else commit_ready number u w)
  ungated-holds true number u w known each = each
  ungated-holds false number u w known each = if_ready-holds (ready_at number (slice_get w.hosts u.server)) number u w w known refl each each

  -- an event of an update
  update-holds : (f : UpdateSetup → SystemWorld → SystemWorld) (number : ℕ) (w : SystemWorld) → Holds w
      → ((u : UpdateSetup) → slice_get setup.updates number ≡ Some u → Holds (f u w)) → Holds (at_update setup f number w)
  update-holds f number w each to = by_update (slice_get setup.updates number) refl
    where
      by_update : (o : Option UpdateSetup) → slice_get setup.updates number ≡ o → Holds (on_update f o w)
      by_update None e = each
      by_update (Some u) e = at_host-holds (λ h w. f u w) u.server w each (λ h at. to u e)

  -- every event keeps it, where Boot does
  pub event-holds : (k : Option ℕ) (e : Event) (w : SystemWorld) → Holds w
      → (is_boot e ≡ true → Holds (happen setup k event.Boot w)) → Holds (happen setup k e w)
  event-holds k event.Boot w each boots = boots refl
  event-holds k (event.Send client server m) w each boots =
      let mail : Mail = record { cells = w.cells; told = w.told } in
      let sent : Message = record m { source = client } in
      grown w.hosts w.cells (put server sent mail).cells (put-grows server sent mail) each
  event-holds k (event.Run server ticks) w each boots = give-holds server ticks (take_next server w) (take-holds server w each)
  event-holds k (event.Update number) w each boots =
      update-holds (request k number) number w each (λ u known.
      turn-holds (request_turn k number u (version_of (slice_get w.cells u.server))) u.server w (request-life k number u (version_of (slice_get w.cells u.server))) each)
  event-holds k (event.Work number units) w each boots =
      update-holds (work k units number) number w each (λ u known.
      ungated-holds u.gated number u (with_turn (work_turn k units number u) u.server w) known (turn-holds (work_turn k units number u) u.server w (work-life k units number u) each))
  event-holds k (event.Commit number) w each boots =
      update-holds (commit number) number w each (λ u known. if_ready-holds (ready_at number (slice_get w.hosts u.server)) number u w _ known refl each each)
  event-holds k (event.Abort number) w each boots =
      update-holds (abort number) number w each (λ u known. turn-holds (abort_turn number u) u.server w (abort-life number u) each)
  event-holds k (event.Dump server) w each boots = at_host-holds _ server w each (λ h at. each)
  event-holds k event.Finish w each boots = each
