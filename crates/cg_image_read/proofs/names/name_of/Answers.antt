use Rattle.cg_image_read.proofs.NameLemmas.{low_identifier}
use Rattle.cg_image_read.proofs.names.name_of.Goals as goal

pub from_ascii-requires : goal.from_ascii-requires
from_ascii-requires c = low_identifier c.args.word.now c.requires
