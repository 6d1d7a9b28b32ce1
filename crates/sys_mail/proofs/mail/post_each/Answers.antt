use Rattle.std.proofs.Common.{rules, arith, ◌≡◌, [], get_or, to_z, of_z, w32}
use Rattle.std.proofs.lemmas.List.{take_more}
use Rattle.std.specs.Prelude.{pos}
use Rattle.lu_base.specs.Sending.{Sent}
use Rattle.sys_mail.specs.Room.{mail_of}
use Rattle.sys_mail.proofs.CellLists.{posted-one}
use Rattle.sys_mail.proofs.mail.post_each.Goals as goal

pub loop-to-preserved : goal.loop-to-preserved
loop-to-preserved c =
    let default : Sent = (pos 0, record { source = pos 0; kind = pos 0; arg = [] }) in
    let s : Sent = get_or c.args.sends.now c.loop-to.to-index default in
    let is : to_z w32 (of_z w32 s.0) ≡ s.0 = search rules in
    posted-one c.args.name.now c.args.sends.now c.loop-to.to-index s (mail_of c.args.cells.now c.args.notes.now) (mail_of c.loop-to.cells c.loop-to.notes)
    (mail_of c.post_one.new.cells c.post_one.new.notes) (to_z w32 (of_z w32 s.0)) is (take_more c.args.sends.now c.loop-to.to-index default (omega arith)) c.loop-to.invariant c.in_ok-post_one.ensures
