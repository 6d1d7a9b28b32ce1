use Rattle.std.proofs.Common.{rules}
use Rattle.lu_remap.specs.Descent.{extent_of}
use Rattle.lu_remap.proofs.rows.row_image.Goals as goal

pub moved-requires-clause-fits : goal.moved-requires-clause-fits
moved-requires-clause-fits c = c.requires.fits (extent_of c.in-Some-new_extent.to) (search rules)
