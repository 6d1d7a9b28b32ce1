-- A space without objects.
use Rattle.std.proofs.Common.{◌≡◌, ◌∙◌, ap, sym, subst, ℕ, List, [], Some, None, refl, arith}
use Rattle.std.specs.FinMap.{get, empty, get-empty}
use Rattle.std.specs.Ordering.{nat_cmp}
use Rattle.lu_base.specs.declared.limits.TheConstants.{FIRST_ADDRESS}
use Rattle.c_types.specs.declared.parts.Parts.{Parts}
use Rattle.bm_mem.specs.Content.{Content}
use Rattle.bm_objects.specs.declared.row.Row.{Row}
use Rattle.bm_serve.specs.Space.{IsSpace}

pub space_fresh : (types : Parts) (m : Content) (rows : List Row) → m ≡ empty → rows ≡ [] → IsSpace types m rows FIRST_ADDRESS 0
space_fresh types m rows e f = subst (λ rows. IsSpace types m rows FIRST_ADDRESS 0) (sym f) whole
  where
    none : (start : ℕ) (bytes : List ℕ) → get m start ≡ Some bytes → ⊥
    none start bytes at = let no : get m start ≡ None = ap (λ c. get c start) e ∙ get-empty nat_cmp start in absurd (cc (no, at))

    whole : IsSpace types m [] FIRST_ADDRESS 0
    whole = record {
      mapped = record { live = λ k r at live. absurd (cc); only = λ start bytes at. absurd (none start bytes at) };
      known = λ k r at. absurd (cc);
      above = λ k d lt. absurd (omega arith);
      used_is = refl;
      used_low = omega arith;
      next_low = omega arith;
    }
