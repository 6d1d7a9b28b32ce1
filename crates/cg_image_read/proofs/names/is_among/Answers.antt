use Rattle.std.proofs.Common.{◌∙◌, ap}
use Rattle.std.specs.Prelude.{is_some, bytes_eq}
use Rattle.c_check_scope.specs.Names.{number_named}
use Rattle.cg_image_read.proofs.NameLemmas.{some_position}
use Rattle.cg_image_read.proofs.names.is_among.Goals as goal

pub returns : goal.returns
unfolding number_named
returns c = c.is_some.ensures ∙ ap is_some c.number_of.ensures ∙ some_position (bytes_eq c.args.name.now) c.args.names.now
