use Rattle.std.proofs.Common.{◌∙◌, ap}
use Rattle.bm_code.specs.Pointers.{written}
use Rattle.bm_frame.specs.View.{frame_of}
use Rattle.bm_frame.proofs.Written.{store_traps}
use Rattle.bm_frame.proofs.writing.step_write.Goals as goal

pub returns-in-Err-clause-is : goal.returns-in-Err-clause-is
returns-in-Err-clause-is g c =
    let m = g.B.Bytes.content c.args.memory.now in
    ap (λ o. written o m c.args.objects.now (frame_of c.args.frame.now)) c.in-Store.is
    ∙ store_traps c.in-Store.kind m c.args.objects.now (frame_of c.args.frame.now) c.in-Some.top c.in-Some-pop.word c.pop.new.self c.pop-in-Store.new.self c.in-Err.trap c.in-Some.ensures.words c.in-Some-pop.ensures.words c.in-Err.ensures.is
