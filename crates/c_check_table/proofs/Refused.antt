-- Parts that are refused are no table.
use Rattle.std.proofs.Common.{◌≡◌, refl, ℕ, false}
use Rattle.c_types.specs.declared.parts.Parts.{Parts}
use Rattle.c_types.specs.declared.errors.BuildError.{BuildError}
use Rattle.c_types.specs.declared.errors.BuildError.TheVariants.{Duplicate, Empty, Cycle, TooBig, Memory}
use Rattle.c_types.specs.Numbering.{is_well_numbered}
use Rattle.c_types.specs.Refusal.{IsBuilt, Refuses}

pub ill_numbered : (p : Parts) → is_well_numbered p ≡ false → IsBuilt p → ⊥
ill_numbered p h b = let n = b.numbered in absurd (cc)

pub refused : (p : Parts) (e : BuildError) → Refuses p e → IsBuilt p → e ≡ Memory
refused p (Duplicate n) r b = absurd (b.distinct n r.here)
refused p (Empty n) r b = absurd (b.full n r.1.here)
refused p (Cycle t) r b = absurd (b.acyclic t r.2.here)
refused p (TooBig t) r b = absurd (b.small t r.3.here)
refused p Memory r b = refl
