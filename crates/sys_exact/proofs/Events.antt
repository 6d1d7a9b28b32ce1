-- Each event.
use Rattle.std.proofs.Common.{◌≡◌, ◌∙◌, sym, ap, subst, ℕ, if◌then◌else◌, List, [], ◌∷◌, ◌++◌, Some, None}
use Rattle.std.specs.Prelude.{slice_get}
use Rattle.lu_base.specs.declared.message.Message.{Message}
use Rattle.lu_lines.specs.declared.note.Note.{Note}
use Rattle.lu_lines.specs.declared.note.Note.TheVariants as note
use Rattle.sched_file.specs.declared.event.Event.TheVariants as event
use Rattle.cg_server.specs.Dump as process
use Rattle.sys_dump.proofs.Dumped.{dumps_tell}
use Rattle.sys_world.specs.Setup.{SystemSetup}
use Rattle.sys_world.specs.World.{State, Idle, Busy, Dead, Host, SystemWorld}
use Rattle.sys_world.specs.Mail.{Mail, put, tells}
use Rattle.sys_world.specs.Dump.{dump_notes}
use Rattle.sys_world.specs.Steps as world
use Rattle.sys_laws.proofs.Growth.{put-grows}
use Rattle.sys_run.specs.Runs.{Machines}
use Rattle.sys_run.specs.Events.{with_mail, take_next, dump_of, dump_at, dump_event}
use Rattle.sys_exact.specs.StandsFor.{IsAt, StandsFor, mail_in}
use Rattle.sys_exact.specs.Laws.{EventsAreExact}
use Rattle.sys_exact.proofs.Each.{Here, Seen, here, nowhere, see, each-grown}
use Rattle.sys_exact.proofs.Turns.{append-none, no_end}
use Rattle.sys_exact.proofs.Taken.{at_rest, some-same, none-some, taken-stands}
use Rattle.sys_exact.proofs.Given.{given-stands}
use Rattle.sys_exact.proofs.Booted.{booted-stands}

module _ (setup : SystemSetup) (old : Machines) (w : SystemWorld) (stands : StandsFor setup old w) where
  -- other notes
  told-stands : (new : Machines) (more : List Note) → new ≡ with_mail (λ m. record { cells = m.cells; told = m.told ++ more }) old → StandsFor setup new (world.tell more w)
  told-stands new more is = subst (λ x. StandsFor setup x (world.tell more w)) (sym is) (record {
    count = stands.count;
    servers = stands.servers;
    mail = ap (λ (m : Mail). let is : Mail = record { cells = m.cells; told = m.told ++ more } in is) stands.mail;
  })

  sent-stands : (place : ℕ) (m : Message) (new : Machines) → new ≡ with_mail (put place m) old → StandsFor setup new (world.with_mail (put place m) w)
  sent-stands place m new is = subst (λ x. StandsFor setup x (world.with_mail (put place m) w)) (sym is) (record {
    count = stands.count;
    servers = each-grown old.runners w.hosts w.cells (put place m (mail_in w)).cells (put-grows place m (mail_in w)) stands.servers;
    mail = ap (put place m) stands.mail;
  })

  no_lives : (j : ℕ) (h : Host) → slice_get w.hosts j ≡ Some h → h.life ≡ None
  no_lives j h at = by (see (stands.servers j))
    where
      by : Seen (slice_get old.runners j) (slice_get w.hosts j) (slice_get w.cells j) → h.life ≡ None
      by (here is) = let same : is.h ≡ h = some-same (sym is.is_h ∙ at) in subst (λ h. h.life ≡ None) same is.host.life
      by (nowhere absent) = absurd (none-some (sym absent.no_h ∙ at))

  finished-stands : (new : Machines) → new ≡ with_mail (tells note.End) old → StandsFor setup new (world.finish_event w)
  finished-stands new is =
      subst (λ notes. StandsFor setup new (world.tell (notes ++ note.End ∷ []) w)) (sym (no_end w.hosts no_lives)) (told-stands new (note.End ∷ []) is)

  -- what a dump tells
  module _ (i : ℕ) (is : Here (slice_get old.runners i) (slice_get w.hosts i) (slice_get w.cells i)) where
    dump-by : (s : State) → IsAt is.r is.c.trap is.h s → dump_of is.r is.c.name is.c.trap ≡ dump_notes is.c.name is.h.program s
    dump-by (Idle store) at =
        ap (dump_of is.r is.c.name) at.alive
        ∙ (ap (λ b. if b then note.DumpBusy is.c.name ∷ [] else process.dump_notes is.c.name is.r.server.source.program is.r.server.process) (at_rest is.r.server.process.activity at.server.process.idle)
        ∙ (dumps_tell is.r.server store at.server is.c.name ∙ ap (λ p. dump_notes is.c.name p (Idle store)) (sym is.host.program)))
    dump-by (Busy store m given) at =
        ap (dump_of is.r is.c.name) at.alive
        ∙ ap (λ b. if b then note.DumpBusy is.c.name ∷ [] else process.dump_notes is.c.name is.r.server.source.program is.r.server.process) at.under_way
    dump-by (Dead trap) at = ap (dump_of is.r is.c.name) at.dead

    here-dumped : (new : Machines) → new ≡ dump_event i old → StandsFor setup new (world.dump_event i w)
    here-dumped new gives =
        let cell : slice_get old.mail.cells i ≡ Some is.c = ap (λ (m : Mail). slice_get m.cells i) stands.mail ∙ is.is_c in
        let notes : dump_at (slice_get old.runners i) (slice_get old.mail.cells i) ≡ dump_notes is.c.name is.h.program is.h.state =
        ap (λ o. dump_at o (slice_get old.mail.cells i)) is.is_r ∙ (ap (dump_at (Some is.r)) cell ∙ dump-by is.h.state is.host.is_at) in
        let machine = gives ∙ ap (λ notes. with_mail (λ m. record { cells = m.cells; told = m.told ++ notes }) old) notes in
        let text : world.dump_event i w ≡ world.tell (dump_notes is.c.name is.h.program is.h.state) w =
        ap (λ o. world.on_host (λ h w. world.tell (dump_notes (world.name_of (slice_get w.cells i)) h.program h.state) w) o w) is.is_h
        ∙ ap (λ o. world.tell (dump_notes (world.name_of o) is.h.program is.h.state) w) is.is_c in
        subst (StandsFor setup new) (sym text) (told-stands new (dump_notes is.c.name is.h.program is.h.state) machine)

  dumped-stands : (i : ℕ) (new : Machines) → new ≡ dump_event i old → StandsFor setup new (world.dump_event i w)
  dumped-stands i new gives = by (see (stands.servers i))
    where
      by : Seen (slice_get old.runners i) (slice_get w.hosts i) (slice_get w.cells i) → StandsFor setup new (world.dump_event i w)
      by (here is) = here-dumped i is new gives
      by (nowhere absent) =
          let cell = ap (λ (m : Mail). slice_get m.cells i) stands.mail ∙ absent.no_c in
          let notes : dump_at (slice_get old.runners i) (slice_get old.mail.cells i) ≡ [] =
          ap (λ o. dump_at o (slice_get old.mail.cells i)) absent.no_r ∙ ap (dump_at None) cell in
          let none : old.mail.told ++ dump_at (slice_get old.runners i) (slice_get old.mail.cells i) ≡ old.mail.told = ap (λ ns. old.mail.told ++ ns) notes ∙ append-none old.mail.told in
          let machine : new ≡ old = gives ∙ ap (λ told. let is : Machines = record { runners = old.runners; mail = record { cells = old.mail.cells; told = told } } in is) none in
          let text : world.dump_event i w ≡ w = ap (λ o. world.on_host (λ h w. world.tell (dump_notes (world.name_of (slice_get w.cells i)) h.program h.state) w) o w) absent.no_h in
          subst (λ x. StandsFor setup x (world.dump_event i w)) (sym machine) (subst (λ v. StandsFor setup old v) (sym text) stands)

pub events_exact : EventsAreExact
events_exact setup event.Boot w old new stands ints start step = booted-stands setup old new w stands start step
events_exact setup (event.Send client server m) w old new stands ints plain step = sent-stands setup old w stands server (record m { source = client }) new step
events_exact setup (event.Run server ticks) w old new stands ints plain step =
    given-stands setup server ticks (take_next server old) new (world.take_next server w) (taken-stands setup server old w stands ints) step
events_exact setup event.Finish w old new stands ints plain step = finished-stands setup old w stands new step
events_exact setup (event.Dump server) w old new stands ints plain step = dumped-stands setup old w stands server new step
events_exact setup (event.Update u) w old new stands ints plain step = absurd step
events_exact setup (event.Work u units) w old new stands ints plain step = absurd step
events_exact setup (event.Commit u) w old new stands ints plain step = absurd step
events_exact setup (event.Abort u) w old new stands ints plain step = absurd step
