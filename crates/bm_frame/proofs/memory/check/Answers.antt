use Rattle.std.proofs.Common.{sym}
use Rattle.bm_objects.specs.Table.{reaches}
use Rattle.bm_objects.proofs.TableLemmas.{found}
use Rattle.bm_frame.proofs.memory.check.Goals as goal

pub fits-requires : goal.fits-requires
fits-requires c =
    let f = found (reaches c.args.address) c.args.objects.now c.in-Some.row (sym c.in-Some.ensures.is) in
    c.requires f.0 c.in-Some.row f.1
