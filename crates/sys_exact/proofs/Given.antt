-- A server that runs the delivery in its hand.
use Rattle.std.proofs.Common.{◌≡◌, ◌∙◌, refl, sym, ap, subst, arith, ℕ, ◌+◌, ◌<◌, ◌≤◌, true, false, nat_lt, if◌then◌else◌, length, Some, None}
use Rattle.std.proofs.lemmas.Bool.Decides.{nat_tests}
use Rattle.std.specs.Prelude.{slice_get, slice_set}
use Rattle.std.specs.Option.{option_map}
use Rattle.lu_base.specs.declared.message.Message.{Message}
use Rattle.lu_base.specs.declared.trap.Trap.{Trap}
use Rattle.src_tree.specs.declared.value.Store.{Store}
use Rattle.src_meaning.specs.Delivery.{Delivered, Ends, Dies, deliver}
use Rattle.bm_code.specs.Calls.{is_running, without_sends}
use Rattle.bm_code.specs.declared.stop.Stop.{Stop}
use Rattle.bm_code.specs.declared.stop.Stop.TheVariants as stop
use Rattle.cg_program.specs.Compiled.{machine_code}
use Rattle.cg_server.specs.Deliveries.{IsServed}
use Rattle.cg_server.specs.State.{ServerState, with_process}
use Rattle.cg_meaning.proofs.Deliveries.{runs_of_deliveries}
use Rattle.cg_meaning.specs.Runs.{IsBusy, IsRunOfDelivery, DeliveryEnds, DeliveryDies, ticks_of}
use Rattle.cg_meaning.specs.Servers.{IsServerOf}
use Rattle.sys_world.specs.declared.happened.Happened.TheVariants as happened
use Rattle.sys_world.specs.Setup.{SystemSetup}
use Rattle.sys_world.specs.World.{State, Idle, Busy, Dead, Host, CellValue, SystemWorld, change}
use Rattle.sys_world.specs.Mail.{Mail, with_sent, with_history, with_trap, returned_mail, trapped_mail}
use Rattle.sys_world.specs.Turn.{try_turn, lose_turn}
use Rattle.sys_world.specs.Steps as world
use Rattle.sys_laws.proofs.Changes.{change-here, change-same}
use Rattle.sys_laws.proofs.Growth.{CellsGrow, still-grows}
use Rattle.sys_laws.proofs.OwnMail.{returned-grows, trapped-grows}
use Rattle.sys_run.specs.declared.runner.Runner.{Runner}
use Rattle.sys_run.specs.Runs.{Machines, runs, in_hand, Lasts, runner_at_rest, runner_after, delivery_mail}
use Rattle.sys_run.specs.Events.{IsDelivered, GivesHand, GivesRunner, GivesTicks}
use Rattle.sys_exact.specs.StandsFor.{IsAt, IsHost, StandsFor, mail_in}
use Rattle.sys_exact.proofs.Each.{Each, Here, Nowhere, Seen, here, nowhere, see, each-changed, each-grown, set-length}
use Rattle.sys_exact.proofs.Turns.{no_try, no_loss, no_turn}
use Rattle.sys_exact.proofs.Paused.{paused-runs}
use Rattle.sys_exact.proofs.Taken.{at_rest, some-same}

pub used-ticks : (d : Delivered) → world.used_of d ≡ ticks_of d
used-ticks (Ends store sends used) = refl
used-ticks (Dies trap used) = refl

-- an empty outbox changes nothing of what a server stands for
pub emptied : (s : ServerState) (store : Store) → IsServerOf s store → IsServerOf (with_process s (without_sends s.process)) store
emptied s store is = record {
  source = is.source;
  is_store = is.is_store;
  process = record { idle = is.process.idle; is = ap without_sends is.process.is };
}

abbrev pub at_state : State → Host → Host
at_state s h = record h { state = s }

-- one server edited, and mail behind it
pub edited : (setup : SystemSetup) (i : ℕ) (y : Runner) (s : State) (g : CellValue → CellValue) (old new : Machines) (w : SystemWorld) (mail : Mail) → StandsFor setup old w
    → (is : Here (slice_get old.runners i) (slice_get w.hosts i) (slice_get w.cells i)) → IsHost y (at_state s is.h) (g is.c)
    → new.runners ≡ slice_set old.runners i y → new.mail ≡ mail → CellsGrow (change g i w.cells) mail.cells
    → StandsFor setup new (record { hosts = change (at_state s) i w.hosts; cells = mail.cells; told = mail.told })
edited setup i y s g old new w mail stands is host rs mails grows =
    let changed : Each (slice_set old.runners i y) (change (at_state s) i w.hosts) (change g i w.cells) =
    each-changed i y (at_state s) g old.runners w.hosts w.cells stands.servers (λ r h c at_r at_h at_c p.
    let is_h : is.h ≡ h = some-same (sym is.is_h ∙ at_h) in
    let is_c : is.c ≡ c = some-same (sym is.is_c ∙ at_c) in
    subst (λ h. IsHost y (at_state s h) (g c)) is_h (subst (λ c. IsHost y (at_state s is.h) (g c)) is_c host)) in
    record {
      count = stands.count ∙ (sym (set-length old.runners i y) ∙ ap length (sym rs));
      servers = subst (λ rs. Each rs (change (at_state s) i w.hosts) mail.cells) (sym rs) (each-grown (slice_set old.runners i y) (change (at_state s) i w.hosts) (change g i w.cells) mail.cells grows changed);
      mail = mails;
    }

module _ (setup : SystemSetup) (i ticks : ℕ) (old new : Machines) (w : SystemWorld) (stands : StandsFor setup old w) where
  none-given : Nowhere (slice_get old.runners i) (slice_get w.hosts i) (slice_get w.cells i) → GivesTicks i ticks old new → StandsFor setup new (world.give_ticks i ticks w)
  none-given absent gives =
      let machine : new ≡ old = subst (λ o. GivesRunner i ticks o old new) absent.no_r gives in
      let text : world.give_ticks i ticks w ≡ w = ap (λ o. world.on_host (λ h w. world.give_by (world.is_held h.life) h i ticks h.state w) o w) absent.no_h in
      subst (λ x. StandsFor setup x (world.give_ticks i ticks w)) (sym machine) (subst (λ v. StandsFor setup old v) (sym text) stands)

  module _ (is : Here (slice_get old.runners i) (slice_get w.hosts i) (slice_get w.cells i)) where
    abbrev r : Runner
    r = is.r

    abbrev h : Host
    h = is.h

    abbrev c : CellValue
    c = is.c

    text : world.give_ticks i ticks w ≡ world.give_by false h i ticks h.state w
    text =
        ap (λ o. world.on_host (λ h w. world.give_by (world.is_held h.life) h i ticks h.state w) o w) is.is_h
        ∙ ap (λ l. world.give_by (world.is_held l) h i ticks h.state w) is.host.life

    host_at : (s : State) → slice_get (change (at_state s) i w.hosts) i ≡ Some (at_state s h)
    host_at s = change-here (at_state s) i w.hosts ∙ ap (option_map (at_state s)) is.is_h

    -- no call runs, so nothing is done
    still-given : runs r ≡ false → GivesHand i ticks r (in_hand r) old new → new ≡ old
    still-given over gives = subst (λ b. GivesHand i ticks r (if b then r.message else None) old new) over gives

    module _ (store : Store) (m : Message) (given : ℕ) where
      abbrev outcome : Delivered
      outcome = deliver h.program h.world store m

      returned-stands : (after : ServerState) → c.trap ≡ None → after.source ≡ r.server.source → after.world ≡ r.server.world
          → new.runners ≡ slice_set old.runners i (runner_at_rest after) → new.mail ≡ returned_mail i m after.process.outbox old.mail
          → (e : DeliveryEnds outcome (given + ticks) after) → StandsFor setup new (world.finished i m (Ends e.store e.sends e.used) w)
      returned-stands after alive source numbers rs mails e =
          let mail : new.mail ≡ returned_mail i m e.sends (mail_in w) = mails ∙ (ap (λ o. returned_mail i m o old.mail) e.outbox ∙ ap (returned_mail i m e.sends) stands.mail) in
          let host : IsHost (runner_at_rest after) (at_state (Idle e.store) h) (with_sent e.sends (with_history (happened.Delivered m) c)) = record {
            program = is.host.program ∙ ap (λ s. s.program) (sym source);
            world = is.host.world ∙ sym numbers;
            life = is.host.life;
            is_at = record { alive = alive; server = emptied after e.store e.server };
          } in
          let edit = edited setup i (runner_at_rest after) (Idle e.store) (λ c. with_sent e.sends (with_history (happened.Delivered m) c)) old new w (returned_mail i m e.sends (mail_in w)) stands is host rs mail (returned-grows i m e.sends (mail_in w) c is.is_c) in
          subst (StandsFor setup new) (sym (no_turn (try_turn true) i (world.with_mail (returned_mail i m e.sends) (world.with_state (Idle e.store) i w)) (at_state (Idle e.store) h) (host_at (Idle e.store)) (no_try (at_state (Idle e.store) h) is.host.life))) edit

      trapped-stands : (after : ServerState) (trap : Trap) (e : DeliveryDies outcome (given + ticks) trap after) → after.source ≡ r.server.source → after.world ≡ r.server.world
          → new.runners ≡ slice_set old.runners i (runner_at_rest after) → new.mail ≡ trapped_mail i m trap old.mail
          → StandsFor setup new (world.finished i m (Dies trap e.used) w)
      trapped-stands after trap e source numbers rs mails =
          let mail : new.mail ≡ trapped_mail i m trap (mail_in w) = mails ∙ ap (trapped_mail i m trap) stands.mail in
          let host : IsHost (runner_at_rest after) (at_state (Dead trap) h) (with_trap trap (with_history (happened.Delivered m) c)) = record {
            program = is.host.program ∙ ap (λ s. s.program) (sym source);
            world = is.host.world ∙ sym numbers;
            life = is.host.life;
            is_at = record { dead = refl; over = e.over };
          } in
          let edit = edited setup i (runner_at_rest after) (Dead trap) (λ c. with_trap trap (with_history (happened.Delivered m) c)) old new w (trapped_mail i m trap (mail_in w)) stands is host rs mail (trapped-grows i m trap (mail_in w) c is.is_c) in
          subst (StandsFor setup new) (sym (no_turn (lose_turn trap) i (world.with_mail (trapped_mail i m trap) (world.with_state (Dead trap) i w)) (at_state (Dead trap) h) (host_at (Dead trap)) (no_loss trap (at_state (Dead trap) h) is.host.life))) edit

      paused-stands : (after : ServerState) → IsBusy after outcome (given + ticks) → c.trap ≡ None → runs r ≡ true → r.message ≡ Some m → is_running after.process.activity ≡ true → after.source ≡ r.server.source → after.world ≡ r.server.world
          → new.runners ≡ slice_set old.runners i (record { server = after; message = r.message }) → new.mail ≡ old.mail
          → StandsFor setup new (world.with_state (Busy store m (given + ticks)) i w)
      paused-stands after busy alive ran hand goes source numbers rs mails =
          let y : Runner = record { server = after; message = r.message } in
          let host : IsHost y (at_state (Busy store m (given + ticks)) h) c = record {
            program = is.host.program ∙ ap (λ s. s.program) (sym source);
            world = is.host.world ∙ sym numbers;
            life = is.host.life;
            is_at = record { alive = alive; message = hand; under_way = goes; busy = busy };
          } in
          edited setup i y (Busy store m (given + ticks)) (λ c. c) old new w (mail_in w) stands is host rs (mails ∙ stands.mail)
          (subst (λ xs. CellsGrow xs w.cells) (sym (change-same i w.cells)) (still-grows w.cells))

      -- the text ends the delivery where the ticks reach those that it uses
      enough-given : (d : Delivered) → outcome ≡ d → ticks_of d ≤ given + ticks → world.give_to outcome i store m (given + ticks) w ≡ world.finished i m d w
      enough-given d known low =
          let used = used-ticks d in
          let reached : nat_lt (given + ticks) (world.used_of d) ≡ false = grind (arith, nat_tests, used, low) in
          ap (λ d. world.give_to d i store m (given + ticks) w) known ∙ ap (λ b. world.given_ticks b d i store m (given + ticks) w) reached

      few-given : given + ticks < ticks_of outcome → world.give_to outcome i store m (given + ticks) w ≡ world.with_state (Busy store m (given + ticks)) i w
      few-given low =
          let used = used-ticks outcome in
          let short : nat_lt (given + ticks) (world.used_of outcome) ≡ true = grind (arith, nat_tests, used, low) in
          ap (λ b. world.given_ticks b outcome i store m (given + ticks) w) short

      module _ (at : IsAt r c.trap h (Busy store m given)) (d : IsDelivered i ticks r m old new) where
        abbrev kept : ServerState
        kept = with_process r.server d.after.process

        source : d.after.source ≡ r.server.source
        source = ap (λ (s : ServerState). s.source) d.run.kept

        numbers : d.after.world ≡ r.server.world
        numbers = ap (λ (s : ServerState). s.world) d.run.kept

        abbrev Answered : Stop → Type 0
        Answered answer = IsRunOfDelivery outcome given ticks answer d.after

        ran : Answered d.answer
        ran = subst (IsRunOfDelivery outcome given ticks d.answer) (sym d.run.kept) (runs_of_deliveries r.server outcome given at.busy ticks d.answer d.after.process d.run.run)

        by_answer : (answer : Stop) → d.answer ≡ answer → Answered answer → Lasts answer → new.runners ≡ slice_set old.runners i (runner_after answer d.after r.message) → new.mail ≡ delivery_mail i m d.after.process.outbox answer old.mail
            → StandsFor setup new (world.give_to outcome i store m (given + ticks) w)
        by_answer (stop.Returned word) e a lasts rs mails =
            subst (StandsFor setup new) (sym (enough-given (Ends a.store a.sends a.used) a.is a.enough)) (returned-stands d.after at.alive source numbers rs mails a)
        by_answer (stop.Trapped trap) e a lasts rs mails =
            subst (StandsFor setup new) (sym (enough-given (Dies trap a.used) a.is a.enough)) (trapped-stands d.after trap a source numbers rs mails)
        by_answer stop.Paused e a lasts rs mails =
            let run = subst (λ answer. IsServed r.server.source r.server.world ticks r.server.process answer d.after.process) e d.run.run in
            let goes : is_running d.after.process.activity ≡ true = paused-after run in
            subst (StandsFor setup new) (sym (few-given a.0)) (paused-stands d.after a.1 at.alive at.under_way at.message goes source numbers rs mails)
          where
            paused-after : IsServed r.server.source r.server.world ticks r.server.process stop.Paused d.after.process → is_running d.after.process.activity ≡ true
            paused-after run = subst (λ q. is_running q.activity ≡ true) (sym run.is) (paused-runs (machine_code r.server.source) r.server.world ticks r.server.process run.ran run.run)
        by_answer stop.Memory e a lasts rs mails = absurd lasts

        delivered-stands : StandsFor setup new (world.give_to outcome i store m (given + ticks) w)
        delivered-stands = by_answer d.answer refl ran d.lasts d.runners d.mail

    by_state : (s : State) → IsAt r c.trap h s → GivesHand i ticks r (in_hand r) old new → StandsFor setup new (world.give_by false h i ticks s w)
    by_state (Idle store) at gives = subst (λ x. StandsFor setup x w) (sym (still-given (at_rest r.server.process.activity at.server.process.idle) gives)) stands
    by_state (Busy store m given) at gives =
        let hand : in_hand r ≡ Some m = ap (λ b. if b then r.message else None) at.under_way ∙ at.message in
        delivered-stands store m given at (subst (λ o. GivesHand i ticks r o old new) hand gives)
    by_state (Dead trap) at gives = subst (λ x. StandsFor setup x w) (sym (still-given at.over gives)) stands

    here-given : GivesTicks i ticks old new → StandsFor setup new (world.give_ticks i ticks w)
    here-given gives = subst (StandsFor setup new) (sym text) (by_state h.state is.host.is_at (subst (λ o. GivesRunner i ticks o old new) is.is_r gives))

  pub given-stands : GivesTicks i ticks old new → StandsFor setup new (world.give_ticks i ticks w)
  given-stands gives = by (see (stands.servers i))
    where
      by : Seen (slice_get old.runners i) (slice_get w.hosts i) (slice_get w.cells i) → StandsFor setup new (world.give_ticks i ticks w)
      by (here is) = here-given is gives
      by (nowhere absent) = none-given absent gives
