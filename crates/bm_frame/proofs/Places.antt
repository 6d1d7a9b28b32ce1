-- Whether a place fits, as a test.
use Rattle.std.proofs.Common.{◌≡◌, refl, ap, sym, Bool, true, false, ℕ, ◌<◌, List, length, Option, Some, None}
use Rattle.std.specs.Prelude.{is_some, MatchBool}
use Rattle.c_types.specs.declared.parts.Parts.{Parts}
use Rattle.c_types.specs.declared.path.Step.{Step}
use Rattle.c_types.specs.Refusal.{IsBuilt}
use Rattle.c_types.specs.Place.{HasPlaceAt, HasNoPlaceAt}
use Rattle.c_types.specs.Descent.{find_place}
use Rattle.c_types.proofs.ObjectLaws.{find_place-path, find_place-sound}

module _ (p : Parts) (built : IsBuilt p) (elem count offset want : ℕ) (known : elem < length p.types) where
  pub decided : (b : Bool) → MatchBool b (HasPlaceAt p elem count offset want) (HasNoPlaceAt p elem count offset want) → b ≡ is_some (find_place p elem count offset want)
  decided true h = sym (ap is_some (find_place-path p built elem count offset want h.0 known h.1))
  decided false h = by_found (find_place p elem count offset want) refl
    where
      by_found : (o : Option (List Step)) → find_place p elem count offset want ≡ o → false ≡ is_some o
      by_found None e = refl
      by_found (Some path) e = absurd (h path (find_place-sound p built elem count offset want path known e))
