-- The document of some bytes.
use Rattle.std.proofs.Common.{◌≡◌, ℕ, List, None, Bool, true, false, if◌then◌else◌, refl, ap}
use Rattle.std.proofs.lemmas.Str.{IsUtf8-from_is_utf8, is_utf8-from_IsUtf8}
use Rattle.std.specs.Str.{IsUtf8, is_utf8}
use Rattle.toml.specs.Parse.{parse_document}
use Rattle.plan_file.specs.Plans.{document_of}

pub document_of-utf8 : (bytes : List ℕ) → IsUtf8 bytes → document_of bytes ≡ parse_document bytes
unfolding document_of
document_of-utf8 bytes good = ap (λ r. if r then parse_document bytes else None) (is_utf8-from_IsUtf8 bytes good)

none_step : (r : Bool) (bytes : List ℕ) → is_utf8 bytes ≡ r → ¬ (IsUtf8 bytes) → (if r then parse_document bytes else None) ≡ None
none_step true bytes e bad = absurd (bad (IsUtf8-from_is_utf8 bytes e))
none_step false bytes e bad = refl

pub document_of-none : (bytes : List ℕ) → ¬ (IsUtf8 bytes) → document_of bytes ≡ None
unfolding document_of
document_of-none bytes bad = none_step (is_utf8 bytes) bytes refl bad

pub ruleset documents = (document_of-utf8, document_of-none)
