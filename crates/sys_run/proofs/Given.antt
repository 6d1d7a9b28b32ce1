-- What the parts of an event make, put together.
use Rattle.std.proofs.Common.{◌≡◌, refl, sym, ◌∙◌, ap, subst, arith, ℕ, suc, ◌<◌, ◌+◌, Bool, true, false, if◌then◌else◌, List, length, Option, Some, None, ◌++◌}
use Rattle.std.specs.Prelude.{slice_get, slice_set, IfSome}
use Rattle.lu_base.specs.declared.limits.TheConstants.{CALL_TICKS}
use Rattle.lu_base.specs.declared.message.Message.{Message}
use Rattle.lu_base.specs.declared.trap.Trap.{Trap}
use Rattle.lu_base.specs.Sending.{Sent}
use Rattle.lu_lines.specs.Line.{Text}
use Rattle.lu_lines.specs.declared.note.Note.{Note}
use Rattle.mk_queue.specs.declared.hold.Hold.{Hold}
use Rattle.mk_queue.specs.Held.{next_message}
use Rattle.mk_queue.proofs.NextMessage.{next_message-some}
use Rattle.bm_code.specs.declared.stop.Stop.{Stop}
use Rattle.sys_world.specs.World.{CellValue, change}
use Rattle.sys_world.specs.Mail.{without}
use Rattle.sys_run.specs.declared.runner.Runner.{Runner}
use Rattle.sys_run.specs.Runs.{Machines, in_hand, is_idle, runner_in_delivery, IsRunBy, Lasts, server_in_init, runner_after, delivery_mail, init_mail}
use Rattle.sys_run.specs.Events.{no_hold, take_message, take_at, take_by, take_next, GivesHand, GivesRunner, GivesTicks, BootsIf, BootsBy, IsBooted, AreBooted, dump_of, dump_at, dump_event}

-- the next message stands in the inbox
pub next-within : (hold : Hold) (messages : List Message) (o : Option ℕ) → o ≡ next_message hold messages → IfSome o (λ place. place < length messages)
next-within hold messages None e = tt
next-within hold messages (Some place) e = (next_message-some hold messages place (sym e)).within

-- a server took its next message
pub take-is : (place : ℕ) (w : Machines) (r : Runner) (c : CellValue) (at : ℕ) (m : Message) (runners : List Runner) (cells : List CellValue)
    → slice_get w.runners place ≡ Some r → slice_get w.mail.cells place ≡ Some c → is_idle r c ≡ true → next_message no_hold c.inbox ≡ Some at → slice_get c.inbox at ≡ Some m
    → runners ≡ slice_set w.runners place (runner_in_delivery r m) → cells ≡ change (without at) place w.mail.cells
    → let is : Machines = record { runners = runners; mail = record { cells = cells; told = w.mail.told } } in is ≡ take_next place w
take-is place w r c at m runners cells at_r at_c idle next waits rs cs =
    let one : List Runner → List CellValue → Machines = λ rs cs. record { runners = rs; mail = record { cells = cs; told = w.mail.told } } in
    ap (λ rs. one rs cells) rs
    ∙ (ap (λ cs. one (slice_set w.runners place (runner_in_delivery r m)) cs) cs
    ∙ (ap (λ o. take_message place r at o w) (sym waits)
    ∙ (ap (λ o. take_at place r c.inbox o w) (sym next)
    ∙ (ap (λ b. if b then take_at place r c.inbox (next_message no_hold c.inbox) w else w) (sym idle)
    ∙ (ap (λ o. take_by place (Some r) o w) (sym at_c) ∙ ap (λ o. take_by place o (slice_get w.mail.cells place) w) (sym at_r))))))

-- a server that can't take a message stays as it is
pub take-not : (place : ℕ) (w : Machines) (r : Runner) (c : CellValue) → slice_get w.runners place ≡ Some r → slice_get w.mail.cells place ≡ Some c → is_idle r c ≡ false → w ≡ take_next place w
take-not place w r c at_r at_c busy =
    ap (λ b. if b then take_at place r c.inbox (next_message no_hold c.inbox) w else w) (sym busy)
    ∙ (ap (λ o. take_by place (Some r) o w) (sym at_c) ∙ ap (λ o. take_by place o (slice_get w.mail.cells place) w) (sym at_r))

if-same : (b : Bool) (w : Machines) → w ≡ (if b then w else w)
if-same true w = refl
if-same false w = refl

-- a server without a next message stays as it is
pub take-none : (place : ℕ) (w : Machines) (r : Runner) (c : CellValue) → slice_get w.runners place ≡ Some r → slice_get w.mail.cells place ≡ Some c → next_message no_hold c.inbox ≡ None
    → w ≡ take_next place w
take-none place w r c at_r at_c next =
    if-same (is_idle r c) w
    ∙ (ap (λ o. if is_idle r c then take_at place r c.inbox o w else w) (sym next)
    ∙ (ap (λ o. take_by place (Some r) o w) (sym at_c) ∙ ap (λ o. take_by place o (slice_get w.mail.cells place) w) (sym at_r)))

-- the delivery of a message ran
pub given-is : (place ticks : ℕ) (old new : Machines) (r ran final : Runner) (m : Message) (answer : Stop) (sends : List Sent)
    → slice_get old.runners place ≡ Some r → in_hand r ≡ Some m → IsRunBy ticks r.server answer ran.server → Lasts answer → ran.message ≡ r.message → sends ≡ ran.server.process.outbox
    → final ≡ runner_after answer ran.server ran.message → new.runners ≡ slice_set old.runners place final → new.mail ≡ delivery_mail place m sends answer old.mail
    → GivesTicks place ticks old new
given-is place ticks old new r ran final m answer sends at hand run lasts kept sent is runners mail =
    let Hand : Option Message → Type 0 = λ h. GivesHand place ticks r h old new in
    let Ran : Option Runner → Type 0 = λ o. GivesRunner place ticks o old new in
    subst Ran (sym at) (subst Hand (sym hand) (record {
      answer = answer;
      after = ran.server;
      run = run;
      lasts = lasts;
      runners = runners ∙ (ap (slice_set old.runners place) is ∙ ap (λ m. slice_set old.runners place (runner_after answer ran.server m)) kept);
      mail = mail ∙ ap (λ sends. delivery_mail place m sends answer old.mail) sent;
    }))

-- no delivery runs
pub given-none : (place ticks : ℕ) (w : Machines) (r : Runner) → slice_get w.runners place ≡ Some r → in_hand r ≡ None → GivesTicks place ticks w w
given-none place ticks w r at hand =
    let Hand : Option Message → Type 0 = λ h. GivesHand place ticks r h w w in
    let Ran : Option Runner → Type 0 = λ o. GivesRunner place ticks o w w in
    subst Ran (sym at) (subst Hand (sym hand) refl)

-- a server ran `init`
pub booted-is : (place : ℕ) (old new : Machines) (r ran final : Runner) (c : CellValue) (answer : Stop) (sends : List Sent)
    → slice_get old.runners place ≡ Some r → slice_get old.mail.cells place ≡ Some c → is_idle r c ≡ true
    → IsRunBy CALL_TICKS (server_in_init r.server) answer ran.server → Lasts answer → ran.message ≡ r.message → sends ≡ ran.server.process.outbox
    → final ≡ runner_after answer ran.server ran.message → new.runners ≡ slice_set old.runners place final → new.mail ≡ init_mail place sends answer old.mail
    → IsBooted place old new
booted-is place old new r ran final c answer sends at_r at_c idle run lasts kept sent is runners mail =
    let If : Bool → Type 0 = λ b. BootsIf b place r old new in
    let Cell : Option CellValue → Type 0 = λ o. BootsBy place (Some r) o old new in
    let Ran : Option Runner → Type 0 = λ o. BootsBy place o (slice_get old.mail.cells place) old new in
    subst Ran (sym at_r) (subst Cell (sym at_c) (subst If (sym idle) (record {
      answer = answer;
      after = ran.server;
      run = run;
      lasts = lasts;
      runners = runners ∙ (ap (slice_set old.runners place) is ∙ ap (λ m. slice_set old.runners place (runner_after answer ran.server m)) kept);
      mail = mail ∙ ap (λ sends. init_mail place sends answer old.mail) sent;
    })))

-- a server that can't boot stays as it is
pub booted-not : (place : ℕ) (w : Machines) (r : Runner) (c : CellValue) → slice_get w.runners place ≡ Some r → slice_get w.mail.cells place ≡ Some c → is_idle r c ≡ false → IsBooted place w w
booted-not place w r c at_r at_c busy =
    let If : Bool → Type 0 = λ b. BootsIf b place r w w in
    let Cell : Option CellValue → Type 0 = λ o. BootsBy place (Some r) o w w in
    let Ran : Option Runner → Type 0 = λ o. BootsBy place o (slice_get w.mail.cells place) w w in
    subst Ran (sym at_r) (subst Cell (sym at_c) (subst If (sym busy) refl))

-- one server more booted
pub booted-more : (count : ℕ) (old mid new : Machines) → AreBooted count old mid → IsBooted count mid new → AreBooted (count + 1) old new
booted-more count old mid new before one =
    let n : suc count ≡ count + 1 = omega arith in
    let All : ℕ → Type 0 = λ n. AreBooted n old new in
    subst All n (mid, before, one)

-- a server was told
pub dump-is : (place : ℕ) (w : Machines) (r : Runner) (c : CellValue) (trap : Option Trap) (name : Text) (told : List Note)
    → slice_get w.runners place ≡ Some r → slice_get w.mail.cells place ≡ Some c → trap ≡ c.trap → name ≡ c.name → told ≡ w.mail.told ++ dump_of r name trap
    → let is : Machines = record { runners = w.runners; mail = record { cells = w.mail.cells; told = told } } in is ≡ dump_event place w
dump-is place w r c trap name told at_r at_c dead named is =
    let with_told : List Note → Machines = λ told. record { runners = w.runners; mail = record { cells = w.mail.cells; told = told } } in
    let with_notes : List Note → Machines = λ notes. with_told (w.mail.told ++ notes) in
    ap with_told is
    ∙ (ap (λ trap. with_notes (dump_of r name trap)) dead
    ∙ (ap (λ name. with_notes (dump_of r name c.trap)) named
    ∙ (ap (λ o. with_notes (dump_at (Some r) o)) (sym at_c) ∙ ap (λ o. with_notes (dump_at o (slice_get w.mail.cells place))) (sym at_r))))
