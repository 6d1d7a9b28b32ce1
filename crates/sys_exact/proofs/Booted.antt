-- Servers that boot in order.
use Rattle.std.proofs.Common.{◌≡◌, ◌∙◌, refl, sym, ap, subst, arith, ℕ, zero, suc, ◌+◌, ◌-◌, ◌≤◌, List, [], ◌∷◌, length, Option, Some, None, Ok, Err, codes}
use Rattle.std.specs.Prelude.{slice_get, slice_set}
use Rattle.lu_base.specs.declared.limits.TheConstants.{CALL_TICKS}
use Rattle.lu_base.specs.declared.world.World.{World}
use Rattle.src_tree.specs.declared.value.Store.{Store}
use Rattle.src_tree.specs.declared.program.Program.{Program}
use Rattle.src_meaning.specs.Objects.{Gives}
use Rattle.src_meaning.specs.Call.{Ending, Returned, Trapped, Starved, call}
use Rattle.src_meaning.specs.Initial.{initial_store}
use Rattle.src_meaning.specs.Delivery.{Delivered, Ends, Dies, ended, delivered, run_named, function_named, with_message, with_no_messages, boot}
use Rattle.src_meaning.specs.Sending.{zero_message}
use Rattle.bm_code.specs.declared.stop.Stop.{Stop}
use Rattle.bm_code.specs.declared.stop.Stop.TheVariants as stop
use Rattle.cg_server.specs.State.{ServerState}
use Rattle.cg_meaning.proofs.Deliveries.{boots_begin, runs_of_deliveries}
use Rattle.cg_meaning.specs.Runs.{IsBusy, IsRunOfDelivery, ticks_of}
use Rattle.cg_meaning.specs.Servers.{IsServerOf}
use Rattle.sys_world.specs.Setup.{ServerSetup, SystemSetup}
use Rattle.sys_world.specs.World.{State, Idle, Busy, Dead, Life, Host, CellValue, SystemWorld}
use Rattle.sys_world.specs.Mail.{Mail, with_sent, with_trap, boot_mail, die_mail}
use Rattle.sys_world.specs.Steps as world
use Rattle.sys_laws.proofs.Changes.{change-other}
use Rattle.sys_laws.proofs.OwnMail.{boot-grows, die-grows}
use Rattle.sys_run.specs.declared.runner.Runner.{Runner}
use Rattle.sys_run.specs.Runs.{Machines, is_idle, Lasts, server_in_init, runner_at_rest, runner_after, init_mail}
use Rattle.sys_run.specs.Events.{RunsInit, BootsIf, BootsBy, IsBooted, AreBooted}
use Rattle.sys_exact.specs.StandsFor.{IsAt, IsHost, StandsFor, mail_in}
use Rattle.sys_exact.specs.Laws.{AreAtStart}
use Rattle.sys_exact.proofs.Each.{Here, Nowhere, Seen, here, nowhere, see}
use Rattle.sys_exact.proofs.Taken.{is_free, idle-by}
use Rattle.sys_exact.proofs.Given.{emptied, at_state, edited}

-- a boot uses no more ticks than a call has
few-ticks : (e : Ending) → ticks_of (delivered e) ≤ CALL_TICKS
few-ticks (Returned result store sends left) = by (with_no_messages store)
  where
    by : (r : Gives Store) → ticks_of (ended (CALL_TICKS - left) sends r) ≤ CALL_TICKS
    by (Ok next) = omega arith
    by (Err trap) = omega arith
few-ticks (Trapped trap left) = omega arith
few-ticks Starved = omega arith

few-named : (p : Program) (w : World) (name : List ℕ) (o : Gives Store) (f : Option ℕ) → ticks_of (run_named p w name o f) ≤ CALL_TICKS
few-named p w name (Ok store) (Some f) = few-ticks (call p w store f [] CALL_TICKS)
few-named p w name (Ok store) None = omega arith
few-named p w name (Err trap) f = omega arith

module _ (setup : SystemSetup) (i : ℕ) (old new : Machines) (w : SystemWorld) (stands : StandsFor setup old w) where
  none-booted : Nowhere (slice_get old.runners i) (slice_get w.hosts i) (slice_get w.cells i) → IsBooted i old new → StandsFor setup new (world.boot_host i w)
  none-booted absent boots =
      let cell = ap (λ (m : Mail). slice_get m.cells i) stands.mail ∙ absent.no_c in
      let machine : new ≡ old = subst (λ o. BootsBy i None o old new) cell (subst (λ o. BootsBy i o (slice_get old.mail.cells i) old new) absent.no_r boots) in
      let text : world.boot_host i w ≡ w = ap (λ o. world.on_host (λ h w. world.boot_by i h h.state h.life w) o w) absent.no_h in
      subst (λ x. StandsFor setup x (world.boot_host i w)) (sym machine) (subst (λ v. StandsFor setup old v) (sym text) stands)

  module _ (is : Here (slice_get old.runners i) (slice_get w.hosts i) (slice_get w.cells i)) where
    abbrev r : Runner
    r = is.r

    abbrev h : Host
    h = is.h

    abbrev c : CellValue
    c = is.c

    text : world.boot_host i w ≡ world.boot_by i h h.state None w
    text =
        ap (λ o. world.on_host (λ h w. world.boot_by i h h.state h.life w) o w) is.is_h
        ∙ ap (λ l. world.boot_by i h h.state l w) is.host.life

    abbrev outcome : Delivered
    outcome = boot h.program h.world

    module _ (alive : c.trap ≡ None) (server : IsServerOf r.server (initial_store h.program)) (d : RunsInit i r old new) where
      source : d.after.source ≡ r.server.source
      source = ap (λ (s : ServerState). s.source) d.run.kept

      numbers : d.after.world ≡ r.server.world
      numbers = ap (λ (s : ServerState). s.world) d.run.kept

      busy : IsBusy (server_in_init r.server) outcome 0
      busy =
          let begun = boots_begin r.server (subst (λ p. IsServerOf r.server (initial_store p)) is.host.program server) in
          subst (λ p. IsBusy (server_in_init r.server) (boot p h.world) 0) (sym is.host.program) (subst (λ x. IsBusy (server_in_init r.server) (boot r.server.source.program x) 0) (sym is.host.world) begun)

      abbrev Answered : Stop → Type 0
      Answered answer = IsRunOfDelivery outcome 0 CALL_TICKS answer d.after

      ran : Answered d.answer
      ran = subst (IsRunOfDelivery outcome 0 CALL_TICKS d.answer) (sym d.run.kept) (runs_of_deliveries (server_in_init r.server) outcome 0 busy CALL_TICKS d.answer d.after.process d.run.run)

      by_answer : (answer : Stop) → Answered answer → Lasts answer → new.runners ≡ slice_set old.runners i (runner_after answer d.after r.message) → new.mail ≡ init_mail i d.after.process.outbox answer old.mail
          → StandsFor setup new (world.booted i outcome w)
      by_answer (stop.Returned word) e lasts rs mails =
          let mail : new.mail ≡ boot_mail i e.sends (mail_in w) = mails ∙ (ap (λ o. boot_mail i o old.mail) e.outbox ∙ ap (boot_mail i e.sends) stands.mail) in
          let host : IsHost (runner_at_rest d.after) (at_state (Idle e.store) h) (with_sent e.sends c) = record {
            program = is.host.program ∙ ap (λ s. s.program) (sym source);
            world = is.host.world ∙ sym numbers;
            life = is.host.life;
            is_at = record { alive = alive; server = emptied d.after e.store e.server };
          } in
          subst (λ o. StandsFor setup new (world.booted i o w)) (sym e.is)
          (edited setup i (runner_at_rest d.after) (Idle e.store) (with_sent e.sends) old new w (boot_mail i e.sends (mail_in w)) stands is host rs mail (boot-grows i e.sends (mail_in w) c is.is_c))
      by_answer (stop.Trapped trap) e lasts rs mails =
          let mail : new.mail ≡ die_mail i trap (mail_in w) = mails ∙ ap (die_mail i trap) stands.mail in
          let host : IsHost (runner_at_rest d.after) (at_state (Dead trap) h) (with_trap trap c) = record {
            program = is.host.program ∙ ap (λ s. s.program) (sym source);
            world = is.host.world ∙ sym numbers;
            life = is.host.life;
            is_at = record { dead = refl; over = e.over };
          } in
          subst (λ o. StandsFor setup new (world.booted i o w)) (sym e.is)
          (edited setup i (runner_at_rest d.after) (Dead trap) (with_trap trap) old new w (die_mail i trap (mail_in w)) stands is host rs mail (die-grows i trap (mail_in w) c is.is_c))
      by_answer stop.Paused e lasts rs mails =
          let few : ticks_of outcome ≤ CALL_TICKS = few-boot h.program h.world in
          let more = e.0 in
          absurd (omega (arith, few, more))
        where
          few-boot : (p : Program) (x : World) → ticks_of (boot p x) ≤ CALL_TICKS
          few-boot p x = few-named p x (codes "init") (with_message (initial_store p) zero_message) (function_named p (codes "init"))
      by_answer stop.Memory e lasts rs mails = absurd lasts

      init-stands : StandsFor setup new (world.booted i outcome w)
      init-stands = by_answer d.answer ran d.lasts d.runners d.mail

    by_state : (s : State) → ((store : Store) → s ≡ Idle store → store ≡ initial_store h.program) → IsAt r c.trap h s → BootsIf (is_free s) i r old new → StandsFor setup new (world.boot_by i h s None w)
    by_state (Idle store) start at boots = init-stands at.alive (subst (IsServerOf r.server) (start store refl) at.server) boots
    by_state (Busy store m given) start at boots = subst (λ x. StandsFor setup x w) (sym boots) stands
    by_state (Dead trap) start at boots = subst (λ x. StandsFor setup x w) (sym boots) stands

    here-booted : ((store : Store) → h.state ≡ Idle store → store ≡ initial_store h.program) → IsBooted i old new → StandsFor setup new (world.boot_host i w)
    here-booted start boots =
        let cell : slice_get old.mail.cells i ≡ Some c = ap (λ (m : Mail). slice_get m.cells i) stands.mail ∙ is.is_c in
        let gives : BootsIf (is_idle r c) i r old new = subst (λ o. BootsBy i (Some r) o old new) cell (subst (λ o. BootsBy i o (slice_get old.mail.cells i) old new) is.is_r boots) in
        subst (StandsFor setup new) (sym text) (by_state h.state start is.host.is_at (subst (λ b. BootsIf b i r old new) (idle-by r h c h.state is.host.is_at) gives))

  one-booted : ((h : Host) (store : Store) → slice_get w.hosts i ≡ Some h → h.state ≡ Idle store → store ≡ initial_store h.program) → IsBooted i old new → StandsFor setup new (world.boot_host i w)
  one-booted start boots = by (see (stands.servers i))
    where
      by : Seen (slice_get old.runners i) (slice_get w.hosts i) (slice_get w.cells i) → StandsFor setup new (world.boot_host i w)
      by (here is) = here-booted is (λ store e. start is.h store is.is_h e) boots
      by (nowhere absent) = none-booted absent boots

-- the boot of a server leaves the other hosts
other-hosts : (i j : ℕ) (w : SystemWorld) → (i ≡ j → ⊥) → slice_get (world.boot_host i w).hosts j ≡ slice_get w.hosts j
other-hosts i j w isnt = by_host (slice_get w.hosts i)
  where
    by_outcome : (d : Delivered) → slice_get (world.booted i d w).hosts j ≡ slice_get w.hosts j
    by_outcome (Ends store sends used) = change-other (at_state (Idle store)) i j w.hosts isnt
    by_outcome (Dies trap used) = change-other (at_state (Dead trap)) i j w.hosts isnt

    by_state : (h : Host) (s : State) (life : Option Life) → slice_get (world.boot_by i h s life w).hosts j ≡ slice_get w.hosts j
    by_state h (Idle store) None = by_outcome (boot h.program h.world)
    by_state h (Idle store) (Some l) = refl
    by_state h (Busy store m given) life = refl
    by_state h (Dead trap) life = refl

    by_host : (o : Option Host) → slice_get (world.on_host (λ h w. world.boot_by i h h.state h.life w) o w).hosts j ≡ slice_get w.hosts j
    by_host None = refl
    by_host (Some h) = by_state h h.state h.life

-- the first servers, so many, boot
abbrev pub boots : ℕ → SystemWorld → SystemWorld
boots zero w = w
boots (suc n) w = world.boot_host n (boots n w)

boot-from : (i : ℕ) (ss : List ServerSetup) (w : SystemWorld) → world.boot_from i ss (boots i w) ≡ boots (i + length ss) w
boot-from i [] w = let same : i ≡ i + 0 = omega arith in ap (λ n. boots n w) same
boot-from i (s ∷ ss) w =
    let next : suc i ≡ i + 1 = omega arith in
    let sum : i + 1 + length ss ≡ i + suc (length ss) = omega arith in
    ap (λ n. world.boot_from (i + 1) ss (boots n w)) next ∙ (boot-from (i + 1) ss w ∙ ap (λ n. boots n w) sum)

record Booted (setup : SystemSetup) (n : ℕ) (w : SystemWorld) (new : Machines) : Type 0 where
  stand : StandsFor setup new (boots n w)
  later : (j : ℕ) → n ≤ j → slice_get (boots n w).hosts j ≡ slice_get w.hosts j

booted-all : (setup : SystemSetup) (n : ℕ) (old new : Machines) (w : SystemWorld) → StandsFor setup old w → AreAtStart w → AreBooted n old new → Booted setup n w new
booted-all setup zero old new w stands start is = record {
  stand = subst (λ x. StandsFor setup x w) (sym is) stands;
  later = λ j low. refl;
}
booted-all setup (suc n) old new w stands start is =
    let before = booted-all setup n old is.0 w stands start is.1 in
    record {
      stand = one-booted setup n is.0 new (boots n w) before.stand (λ h store at idle. start n h store (sym (before.later n (omega arith)) ∙ at) idle) is.2;
      later = λ j low. other-hosts n j (boots n w) (λ e. omega (arith, e, low)) ∙ before.later j (omega (arith, low));
    }

pub booted-stands : (setup : SystemSetup) (old new : Machines) (w : SystemWorld) → StandsFor setup old w → AreAtStart w → AreBooted (length old.runners) old new → StandsFor setup new (world.boot_from 0 setup.servers w)
booted-stands setup old new w stands start is =
    let all = booted-all setup (length old.runners) old new w stands start is in
    let count : length old.runners ≡ 0 + length setup.servers = sym stands.count ∙ omega arith in
    subst (StandsFor setup new) (ap (λ n. boots n w) count ∙ sym (boot-from 0 setup.servers w)) all.stand
