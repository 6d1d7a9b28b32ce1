use Rattle.std.proofs.Common.{◌≡◌, ◌∙◌, sym, ap, map, length}
use Rattle.std.specs.Prelude.{string_bytes}
use Rattle.c_check_scope.proofs.NameLemmas.{length-map}
use Rattle.c_check_scope.proofs.names.Names.len.Goals as goal

pub returns : goal.returns
returns c =
    let keys = c.self.inside.set.keys in
    let view : map string_bytes keys ≡ c.args.self.now = cc in
    c.len.ensures.len ∙ sym (length-map string_bytes keys) ∙ ap length view
