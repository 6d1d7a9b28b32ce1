use Rattle.std.proofs.Common.{◌≡◌, ◌∙◌, sym, ap, map}
use Rattle.std.specs.Prelude.{position, string_bytes}
use Rattle.std.specs.Str.{bytes_eq}
use Rattle.c_check_scope.specs.Names.{number_named}
use Rattle.c_check_scope.proofs.NameLemmas.{position-map}
use Rattle.c_check_scope.proofs.names.Names.number_of.Goals as goal

pub returns : goal.returns
unfolding number_named
returns c =
    let keys = c.self.inside.set.keys in
    let view : map string_bytes keys ≡ c.args.self.now = cc in
    c.get_index_of.ensures.index
    ∙ sym (position-map string_bytes (bytes_eq c.as_str.result.now) keys)
    ∙ ap (λ s. position (bytes_eq s) (map string_bytes keys)) c.as_str.ensures
    ∙ ap (λ l. position (bytes_eq c.args.name.now) l) view
