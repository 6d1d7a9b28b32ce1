use Rattle.std.proofs.Common.{rules, arith, ◌≡◌, [], get_or, to_z, of_z, w32}
use Rattle.std.proofs.lemmas.List.{take_more}
use Rattle.std.specs.Prelude.{pos}
use Rattle.lu_base.specs.declared.message.Message.{Message}
use Rattle.sys_mail.specs.Room.{mail_of}
use Rattle.sys_mail.proofs.CellLists.{answered-one}
use Rattle.sys_mail.proofs.mail.answer_each.Goals as goal

pub loop-message-preserved : goal.loop-message-preserved
loop-message-preserved c = λ dead named numbered.
    let m : Message = get_or c.args.messages.now c.loop-message.message-index (record { source = pos 0; kind = pos 0; arg = [] }) in
    let source : to_z w32 (of_z w32 m.source) ≡ m.source = search rules in
    answered-one dead c.args.messages.now c.loop-message.message-index m (mail_of c.args.cells.now c.args.notes.now) (mail_of c.loop-message.cells c.loop-message.notes)
    (mail_of c.answer_to.new.cells c.answer_to.new.notes) c.args.name.now (to_z w32 (of_z w32 c.args.number)) (to_z w32 (of_z w32 m.source)) named numbered source
    (take_more c.args.messages.now c.loop-message.message-index (record { source = pos 0; kind = pos 0; arg = [] }) (omega arith))
    (c.loop-message.invariant dead named numbered) c.in_ok-answer_to.ensures
