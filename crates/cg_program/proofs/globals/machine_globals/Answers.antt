use Rattle.cg_program.proofs.CodeLemmas.{global_next}
use Rattle.cg_program.proofs.globals.machine_globals.Goals as goal

pub loop-index-preserved : goal.loop-index-preserved
loop-index-preserved c =
    global_next c.args.p.now c.loop-index.index c.global-item.result c.index-as_slice-index.result c.args.store.now c.args.starts.now c.in_ok-object_bytes.field-0 c.as_slice-global-items.result.now c.as_slice.result.now c.loop-index.globals c.push.new.self c.as_slice-global-items.ensures c.as_slice.ensures c.requires.store c.requires.starts c.loop-index-test.true c.global-item.is c.index-as_slice-index.is c.in_ok-object_bytes.ensures c.loop-index.invariant c.in_ok-push.ensures.ok
