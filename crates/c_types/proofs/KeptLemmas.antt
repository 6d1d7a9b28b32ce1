-- Where no type is too big, capped shapes are the shapes.
use Rattle.std.proofs.Common.{◌≡◌, ◌∙◌, ap, refl, ℕ, ◌≤◌, ◌+◌, min, Bool, true, false, ◌||◌, nat_lt, List, slice_get, arith}
use Rattle.std.proofs.lemmas.Bool.Decides.{nat_tests}
use Rattle.c_types.specs.declared.parts.Parts.{Parts}
use Rattle.c_types.specs.declared.shape.Shape.{Shape}
use Rattle.c_types.specs.Layout.{greatest, shape, size_of, align_of, shape_of}
use Rattle.c_types.specs.Rounds.{shape_at}
use Rattle.c_types.specs.Refusal.{has_bad_length, IsTooBig}
use Rattle.c_types.specs.Words.{NoneIs}
use Rattle.c_types.specs.Kept.{AreCapped}

pub size-small : (p : Parts) → NoneIs (IsTooBig p) → (t : ℕ) → size_of p t ≤ greatest
size-small p small t = by_test (nat_lt greatest (size_of p t)) refl (small t)
  where
    by_test : (b : Bool) → nat_lt greatest (size_of p t) ≡ b → (b || has_bad_length (slice_get p.types t) ≡ true → ⊥) → size_of p t ≤ greatest
    by_test true e h = absurd (h refl)
    by_test false e h = grind (arith, nat_tests)

pub shapes-exact : (p : Parts) (shapes : List Shape) → NoneIs (IsTooBig p) → AreCapped p shapes → (t : ℕ) → shape_at shapes t ≡ shape_of p t
shapes-exact p shapes small each t =
    let le = size-small p small t in
    let same : min (size_of p t) (greatest + 1) ≡ size_of p t = omega arith in
    each t ∙ ap (λ s. shape s (align_of p t)) same
