use Rattle.bm_frame.proofs.Places.{decided}
use Rattle.bm_frame.proofs.memory.fits.Goals as goal

pub returns : goal.returns
returns c =
    decided c.args.types.now c.parts-parts.ensures.built c.args.row.elem c.args.row.count c.args.offset c.args.want c.requires c.fits.result c.fits.ensures
