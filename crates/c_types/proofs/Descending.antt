-- One step of a descent.
use Rattle.std.proofs.Common.{◌≡◌, ◌∙◌, sym, ap, refl, ℕ, suc, ◌<◌, ◌+◌, ◌-◌, true, false, if◌then◌else◌, List, [], ◌∷◌, ◌++◌, Option, Some, None, slice_get, append_assoc, arith}
use Rattle.std.proofs.lemmas.List.{append-nil}
use Rattle.std.specs.Prelude.{is_some}
use Rattle.std.specs.Option.{option_map}
use Rattle.lu_spec.specs.Then.{then_option}
use Rattle.c_types.specs.declared.parts.Parts.{Parts}
use Rattle.c_types.specs.declared.path.Step.{Step}
use Rattle.c_types.specs.declared.descent.Part.{Part}
use Rattle.c_types.specs.Descent.{part_at, is_here, descend}

module _ (p : Parts) (n k t offset want : ℕ) (lt : k < n) where
  fuel : n - k ≡ suc (n - (k + 1))
  fuel = omega arith

  pub descend-here : is_here t offset want ≡ true → descend p (n - k) t offset want ≡ Some []
  descend-here e = ap (λ m. descend p m t offset want) fuel ∙ ap (λ b. if b then Some [] else then_option (part_at p offset (slice_get p.types t)) (λ q. option_map (λ path. q.step ∷ path) (descend p (n - (k + 1)) q.ty q.rest want))) e

  pub descend-on : (o : Option Part) → is_here t offset want ≡ false → o ≡ part_at p offset (slice_get p.types t) → descend p (n - k) t offset want ≡ then_option o (λ q. option_map (λ path. q.step ∷ path) (descend p (n - (k + 1)) q.ty q.rest want))
  descend-on o e f =
      ap (λ m. descend p m t offset want) fuel
      ∙ (ap (λ b. if b then Some [] else then_option (part_at p offset (slice_get p.types t)) (λ q. option_map (λ path. q.step ∷ path) (descend p (n - (k + 1)) q.ty q.rest want))) e
      ∙ ap (λ o. then_option o (λ q. option_map (λ path. q.step ∷ path) (descend p (n - (k + 1)) q.ty q.rest want))) (sym f))

pub map-append : (steps : List Step) (s : Step) (o : Option (List Step)) → option_map (λ rest. (steps ++ s ∷ []) ++ rest) o ≡ option_map (λ rest. steps ++ rest) (option_map (λ rest. s ∷ rest) o)
map-append steps s None = refl
map-append steps s (Some rest) = ap Some (append_assoc steps (s ∷ []) rest)

pub some-map : (s : Step) (o : Option (List Step)) → is_some (option_map (λ rest. s ∷ rest) o) ≡ is_some o
some-map s None = refl
some-map s (Some rest) = refl

pub some-nil : (steps : List Step) → Some steps ≡ option_map (λ rest. steps ++ rest) (Some [])
some-nil steps = ap Some (sym (append-nil steps))
