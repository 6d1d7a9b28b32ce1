use Rattle.std.proofs.Common.{string_bytes}
use Rattle.lu_gen.proofs.Turns.{none_yet, one_more}
use Rattle.lu_gen.proofs.schedule.push_pairs.Goals as goal

pub loop-i-init : goal.loop-i-init
loop-i-init c = none_yet (string_bytes c.args.text.now) c.args.after c.args.number

pub loop-i-preserved : goal.loop-i-preserved
loop-i-preserved c = one_more (string_bytes c.args.text.now) (string_bytes c.loop-i.text) (string_bytes c.push_pair.new.text) c.args.after c.loop-i.i c.next-x.result c.loop-i.x c.args.number
    c.loop-i.invariant c.next-x.ensures c.in_ok-push_pair.ensures
