use Rattle.std.proofs.Common.{◌≡◌, take}
use Rattle.sys_world.specs.World.{CellValue}
use Rattle.sys_world.specs.Mail.{answer_all}
use Rattle.sys_mail.specs.Room.{mail_of}
use Rattle.sys_mail.proofs.mail.answer_each.Given as goal

abbrev pub invariant-loop-message : goal.invariant-loop-message
invariant-loop-message l =
    (dead : CellValue) → dead.name ≡ l.name → dead.number ≡ l.number
    → mail_of l.cells l.notes ≡ answer_all dead (take l.message-index l.messages) (mail_of l.initial.cells l.initial.notes)
