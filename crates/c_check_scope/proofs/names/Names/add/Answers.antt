use Rattle.std.proofs.Common.{◌≡◌, ◌∙◌, sym, ap, map}
use Rattle.std.specs.Prelude.{string_bytes}
use Rattle.std.specs.Str.{bytes_eq}
use Rattle.c_check_scope.specs.Names.{with_name, place_of}
use Rattle.c_check_scope.proofs.NameLemmas.{position_or_len-map, inserted}
use Rattle.c_check_scope.proofs.names.Names.add.Goals as goal

pub returns-clause-names : goal.returns-clause-names
returns-clause-names c =
    let keys = c.self.inside.set.keys in
    let text = c.in_ok-text.text in
    let view : map string_bytes keys ≡ c.args.self.now = cc in
    let same : string_bytes text ≡ c.args.name.now = c.in_ok-text.ensures.ok ∙ c.as_str.ensures in
    ap (map string_bytes) c.in_ok-number.ensures.keys
    ∙ inserted string_bytes keys text
    ∙ ap (λ l. with_name l (string_bytes text)) view
    ∙ ap (with_name c.args.self.now) same

pub returns-clause-number : goal.returns-clause-number
returns-clause-number c =
    let keys = c.self.inside.set.keys in
    let text = c.in_ok-text.text in
    let view : map string_bytes keys ≡ c.args.self.now = cc in
    let same : string_bytes text ≡ c.args.name.now = c.in_ok-text.ensures.ok ∙ c.as_str.ensures in
    c.in_ok-number.ensures.index
    ∙ sym (position_or_len-map string_bytes (bytes_eq (string_bytes text)) keys)
    ∙ ap (λ l. place_of l (string_bytes text)) view
    ∙ ap (place_of c.args.self.now) same
