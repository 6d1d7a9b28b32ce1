use Rattle.std.proofs.Common.{rules}
use Rattle.std.proofs.lemmas.Str.{IsUtf8-from_ascii}
use Rattle.lu_base.proofs.name.Name.from_ascii.Goals as goal

-- ASCII bytes are UTF-8, so the text can't be refused.
pub unreachable-requires : goal.unreachable-requires
unreachable-requires c = let utf8 = IsUtf8-from_ascii c.args.bytes.now c.requires in search (rules, utf8)
