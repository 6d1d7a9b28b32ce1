-- The mail of one server's event: its own cell is edited, and then others only grow.
use Rattle.std.proofs.Common.{◌≡◌, sym, ◌∙◌, ap, subst, ℕ, List, Option, Some}
use Rattle.std.specs.Prelude.{slice_get}
use Rattle.std.specs.Option.{option_map}
use Rattle.lu_base.specs.declared.message.Message.{Message}
use Rattle.lu_base.specs.declared.trap.Trap.{Trap}
use Rattle.lu_base.specs.Sending.{Sent}
use Rattle.lu_lines.specs.declared.note.Note.TheVariants as note
use Rattle.sys_world.specs.declared.happened.Happened.TheVariants as happened
use Rattle.sys_world.specs.World.{CellValue, change}
use Rattle.sys_world.specs.Mail.{Mail, with_sent, with_history, with_trap, with_cell_at, on_cell, post_all, answer_all, boot_mail, die_mail, send_mail, returned_mail, trapped_mail, tells}
use Rattle.sys_laws.proofs.Changes.{change-here, change-twice}
use Rattle.sys_laws.proofs.Growth.{CellsGrow, post_all-grows, answer_all-grows}

on-known : (f : CellValue → Mail → Mail) (mail : Mail) (xs : List CellValue) (c : CellValue) (o : Option CellValue) → o ≡ Some c
    → CellsGrow xs (f c mail).cells → CellsGrow xs (on_cell f o mail).cells
on-known f mail xs c o e grows = subst (λ o. CellsGrow xs (on_cell f o mail).cells) (sym e) grows

pub send-grows : (i : ℕ) (sends : List Sent) (mail : Mail) (c : CellValue) → slice_get mail.cells i ≡ Some c
    → CellsGrow (change (with_sent sends) i mail.cells) (send_mail i sends mail).cells
send-grows i sends mail c e =
    on-known (λ c mail. post_all c.name sends (with_cell_at (with_sent sends) i mail)) mail (change (with_sent sends) i mail.cells) c (slice_get mail.cells i) e
    (post_all-grows c.name sends (with_cell_at (with_sent sends) i mail))

pub boot-grows : (i : ℕ) (sends : List Sent) (mail : Mail) (c : CellValue) → slice_get mail.cells i ≡ Some c
    → CellsGrow (change (with_sent sends) i mail.cells) (boot_mail i sends mail).cells
boot-grows i sends mail c e =
    subst (λ o. CellsGrow (change (with_sent sends) i mail.cells) (send_mail i sends (on_cell (λ c mail. tells (note.Boot c.name) mail) o mail)).cells) (sym e)
    (send-grows i sends (tells (note.Boot c.name) mail) c e)

pub die-grows : (i : ℕ) (trap : Trap) (mail : Mail) (c : CellValue) → slice_get mail.cells i ≡ Some c
    → CellsGrow (change (with_trap trap) i mail.cells) (die_mail i trap mail).cells
die-grows i trap mail c e =
    on-known (λ c mail. answer_all c c.inbox (with_cell_at (with_trap trap) i (tells (note.Trap c.name trap) mail))) mail (change (with_trap trap) i mail.cells) c (slice_get mail.cells i) e
    (answer_all-grows c c.inbox (with_cell_at (with_trap trap) i (tells (note.Trap c.name trap) mail)))

pub returned-grows : (i : ℕ) (m : Message) (sends : List Sent) (mail : Mail) (c : CellValue) → slice_get mail.cells i ≡ Some c
    → CellsGrow (change (λ c. with_sent sends (with_history (happened.Delivered m) c)) i mail.cells) (returned_mail i m sends mail).cells
returned-grows i m sends mail c e =
    let f = with_history (happened.Delivered m) in
    subst (λ xs. CellsGrow xs (returned_mail i m sends mail).cells) (change-twice (with_sent sends) f i mail.cells)
    (send-grows i sends (with_cell_at f i mail) (f c) (change-here f i mail.cells ∙ ap (option_map f) e))

pub trapped-grows : (i : ℕ) (m : Message) (trap : Trap) (mail : Mail) (c : CellValue) → slice_get mail.cells i ≡ Some c
    → CellsGrow (change (λ c. with_trap trap (with_history (happened.Delivered m) c)) i mail.cells) (trapped_mail i m trap mail).cells
trapped-grows i m trap mail c e =
    let f = with_history (happened.Delivered m) in
    subst (λ xs. CellsGrow xs (trapped_mail i m trap mail).cells) (change-twice (with_trap trap) f i mail.cells)
    (die-grows i trap (with_cell_at f i mail) (f c) (change-here f i mail.cells ∙ ap (option_map f) e))
