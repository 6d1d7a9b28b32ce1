-- A server that takes its next message.
use Rattle.std.proofs.Common.{◌≡◌, ◌∙◌, refl, sym, ap, subst, ℕ, Bool, true, false, ◌&&◌, not, is_none, if◌then◌else◌, List, Option, Some, None}
use Rattle.std.specs.Prelude.{slice_get}
use Rattle.lu_base.specs.declared.message.Message.{Message}
use Rattle.lu_base.specs.declared.trap.Trap.{Trap}
use Rattle.src_tree.specs.declared.value.Store.{Store}
use Rattle.mk_queue.specs.Held.{next_message}
use Rattle.bm_code.specs.Calls.{is_running}
use Rattle.bm_code.specs.Process.{Activity, Idle as Rests_idle, Starting, Running}
use Rattle.cg_state.specs.Represents.{IsIdle}
use Rattle.cg_sim_store.specs.Messages.{IsMessage}
use Rattle.cg_meaning.proofs.Deliveries.{deliveries_begin}
use Rattle.cg_meaning.specs.Runs.{IsBusy}
use Rattle.cg_meaning.specs.Servers.{IsServerOf}
use Rattle.src_meaning.specs.Delivery.{deliver}
use Rattle.cg_server.specs.Deliveries.{begun_delivery}
use Rattle.cg_server.specs.State.{with_process}
use Rattle.sys_world.specs.Setup.{SystemSetup}
use Rattle.sys_world.specs.World.{State, Idle, Busy, Dead, Host, CellValue, SystemWorld, change}
use Rattle.sys_world.specs.Mail.{Mail, without}
use Rattle.sys_world.specs.Steps as world
use Rattle.sys_run.specs.declared.runner.Runner.{Runner}
use Rattle.sys_run.specs.Runs.{Machines, is_idle, runner_in_delivery}
use Rattle.sys_run.specs.Events.{no_hold, take_message, take_at, take_by, take_next}
use Rattle.sys_exact.specs.StandsFor.{IsAt, IsHost, StandsFor}
use Rattle.sys_exact.specs.Laws.{MessagesAreInts}
use Rattle.sys_exact.proofs.Each.{Here, Nowhere, Seen, here, nowhere, see, each-changed, set-length}

-- no call runs in a server at rest
pub at_rest : (a : Activity) → IsIdle a → is_running a ≡ false
at_rest (Rests_idle last) h = refl
at_rest (Starting f args) h = absurd h
at_rest (Running frame callers) h = absurd h

-- whether a server is idle, by its state
abbrev pub is_free : State → Bool
is_free (Idle store) = true
is_free (Busy store m given) = false
is_free (Dead trap) = false

abbrev pub free : Bool → Option Trap → Bool
free busy trap = not busy && is_none trap

pub idle-by : (r : Runner) (h : Host) (c : CellValue) (s : State) → IsAt r c.trap h s → is_idle r c ≡ is_free s
idle-by r h c (Idle store) at = ap (λ b. free b c.trap) (at_rest r.server.process.activity at.server.process.idle) ∙ ap (free false) at.alive
idle-by r h c (Busy store m given) at = ap (λ b. free b c.trap) at.under_way
idle-by r h c (Dead by) at = ap (λ b. free b c.trap) at.over ∙ ap (free false) at.dead

pub some-same : {A : Type 0} {x y : A} → Some x ≡ Some y → x ≡ y
some-same e = cc

pub none-some : {A : Type 0} {x : A} → None ≡ Some x → ⊥
none-some e = absurd (cc)

module _ (setup : SystemSetup) (i : ℕ) (old : Machines) (w : SystemWorld) (stands : StandsFor setup old w) where
  cells_same : old.mail.cells ≡ w.cells
  cells_same = ap (λ (m : Mail). m.cells) stands.mail

  none-taken : Nowhere (slice_get old.runners i) (slice_get w.hosts i) (slice_get w.cells i) → StandsFor setup (take_next i old) (world.take_next i w)
  none-taken absent =
      let cell = ap (λ (cs : List CellValue). slice_get cs i) cells_same ∙ absent.no_c in
      let machine : take_next i old ≡ old = ap (λ o. take_by i o (slice_get old.mail.cells i) old) absent.no_r ∙ ap (λ o. take_by i None o old) cell in
      let text : world.take_next i w ≡ w = ap (λ o. world.on_host (λ h w. world.take_by (world.is_held h.life) (world.hold_of h.life) i h.state (world.inbox_of (slice_get w.cells i)) w) o w) absent.no_h in
      subst (λ x. StandsFor setup x (world.take_next i w)) (sym machine) (subst (λ v. StandsFor setup old v) (sym text) stands)

  module _ (ints : MessagesAreInts old) (is : Here (slice_get old.runners i) (slice_get w.hosts i) (slice_get w.cells i)) where
    abbrev r : Runner
    r = is.r

    abbrev h : Host
    h = is.h

    abbrev c : CellValue
    c = is.c

    cell_at : slice_get old.mail.cells i ≡ Some c
    cell_at = ap (λ (cs : List CellValue). slice_get cs i) cells_same ∙ is.is_c

    abbrev machine_takes : Bool → Machines
    machine_takes b = if b then take_at i r c.inbox (next_message no_hold c.inbox) old else old

    machine : take_next i old ≡ machine_takes (is_idle r c)
    machine = ap (λ o. take_by i o (slice_get old.mail.cells i) old) is.is_r ∙ ap (λ o. take_by i (Some r) o old) cell_at

    abbrev text_takes : State → SystemWorld
    text_takes s = world.take_by false no_hold i s c.inbox w

    text : world.take_next i w ≡ text_takes h.state
    text =
        ap (λ o. world.on_host (λ h w. world.take_by (world.is_held h.life) (world.hold_of h.life) i h.state (world.inbox_of (slice_get w.cells i)) w) o w) is.is_h
        ∙ (ap (λ l. world.take_by (world.is_held l) (world.hold_of l) i h.state (world.inbox_of (slice_get w.cells i)) w) is.host.life
        ∙ ap (λ o. world.take_by false no_hold i h.state (world.inbox_of o) w) is.is_c)

    begins : (store : Store) (at : ℕ) (m : Message) → h.state ≡ Idle store → IsServerOf r.server store → c.trap ≡ None → IsMessage m → IsHost (runner_in_delivery r m) (record h { state = Busy store m 0 }) (without at c)
    begins store at m e server alive good =
        let busy = deliveries_begin r.server store server m good in
        let place : IsBusy (with_process r.server (begun_delivery r.server.source r.server.process m)) (deliver h.program h.world store m) 0 =
        subst (λ p. IsBusy (with_process r.server (begun_delivery r.server.source r.server.process m)) (deliver p h.world store m) 0) (sym is.host.program)
        (subst (λ x. IsBusy (with_process r.server (begun_delivery r.server.source r.server.process m)) (deliver r.server.source.program x store m) 0) (sym is.host.world) busy) in
        record {
          program = is.host.program;
          world = is.host.world;
          life = is.host.life;
          is_at = record { alive = alive; message = refl; under_way = refl; busy = place };
        }

    taken : (store : Store) → h.state ≡ Idle store → IsServerOf r.server store → c.trap ≡ None → StandsFor setup (take_at i r c.inbox (next_message no_hold c.inbox) old) (world.take_at i store (next_message no_hold c.inbox) c.inbox w)
    taken store e server alive = by_next (next_message no_hold c.inbox)
      where
        by_message : (at : ℕ) (o : Option Message) → slice_get c.inbox at ≡ o → StandsFor setup (take_message i r at o old) (world.take_message i store at o w)
        by_message at None e_m = stands
        by_message at (Some m) e_m = record {
          count = stands.count ∙ sym (set-length old.runners i (runner_in_delivery r m));
          servers = each-changed i (runner_in_delivery r m) (λ h. record h { state = Busy store m 0 }) (without at) old.runners w.hosts w.cells stands.servers (λ r' h' c' at_r at_h at_c p.
              let is_h : h ≡ h' = some-same (sym is.is_h ∙ at_h) in
              let is_c : c ≡ c' = some-same (sym is.is_c ∙ at_c) in
              subst (λ h'. IsHost (runner_in_delivery r m) (record h' { state = Busy store m 0 }) (without at c')) is_h (subst (λ c'. IsHost (runner_in_delivery r m) (record h { state = Busy store m 0 }) (without at c')) is_c (begins store at m e server alive (ints i at c m cell_at e_m))));
          mail = ap (λ (mail : Mail). let is : Mail = record { cells = change (without at) i mail.cells; told = mail.told } in is) stands.mail;
        }

        by_next : (o : Option ℕ) → StandsFor setup (take_at i r c.inbox o old) (world.take_at i store o c.inbox w)
        by_next None = stands
        by_next (Some at) = by_message at (slice_get c.inbox at) refl

    by_state : (s : State) → h.state ≡ s → IsAt r c.trap h s → StandsFor setup (machine_takes (is_idle r c)) (text_takes s)
    by_state (Idle store) e at = subst (λ b. StandsFor setup (machine_takes b) (text_takes (Idle store))) (sym (idle-by r h c (Idle store) at)) (taken store e at.server at.alive)
    by_state (Busy store m given) e at = subst (λ b. StandsFor setup (machine_takes b) (text_takes (Busy store m given))) (sym (idle-by r h c (Busy store m given) at)) stands
    by_state (Dead trap) e at = subst (λ b. StandsFor setup (machine_takes b) (text_takes (Dead trap))) (sym (idle-by r h c (Dead trap) at)) stands

    here-taken : StandsFor setup (take_next i old) (world.take_next i w)
    here-taken = subst (λ x. StandsFor setup x (world.take_next i w)) (sym machine) (subst (λ v. StandsFor setup (machine_takes (is_idle r c)) v) (sym text) (by_state h.state refl is.host.is_at))

  pub taken-stands : MessagesAreInts old → StandsFor setup (take_next i old) (world.take_next i w)
  taken-stands ints = by (see (stands.servers i))
    where
      by : Seen (slice_get old.runners i) (slice_get w.hosts i) (slice_get w.cells i) → StandsFor setup (take_next i old) (world.take_next i w)
      by (here is) = here-taken ints is
      by (nowhere absent) = none-taken absent
