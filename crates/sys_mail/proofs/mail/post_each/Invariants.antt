use Rattle.std.proofs.Common.{◌≡◌, take}
use Rattle.sys_world.specs.Mail.{post_all}
use Rattle.sys_mail.specs.Room.{mail_of}
use Rattle.sys_mail.proofs.mail.post_each.Given as goal

abbrev pub invariant-loop-to : goal.invariant-loop-to
invariant-loop-to l = mail_of l.cells l.notes ≡ post_all l.name (take l.to-index l.sends) (mail_of l.initial.cells l.initial.notes)
