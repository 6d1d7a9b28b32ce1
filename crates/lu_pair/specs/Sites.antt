-- Words of contracts on sites.
use Rattle.std.specs.Prelude.{◌≡◌, ℕ, ◌+◌, Bool, List, [], ◌∷◌, nat_eq, Option, Vec}
use Rattle.std.specs.Option.{option_map_or}
use Rattle.std.specs.HashMap.{HashMap, get}
use Rattle.lu_spec.specs.Then.{then_option}
use Rattle.src_tree.specs.declared.program.Site.{Site}
use Rattle.lu_image.specs.declared.rename.Rename.{Rename}
use Rattle.lu_image.specs.Names.{Names, entry_at, site_name}
use Rattle.lu_image.specs.Correspondence.{corresponds}
use Rattle.lu_image.specs.Pairing.{site_elements, pair_by}
use Rattle.lu_pair.specs.declared.sites.TwoTypes.{TwoTypes}
use Rattle.lu_pair.specs.declared.sites.SitePairer.{SitePairer}

abbrev pub elements_in : {A S : Type 0} → HashMap ℕ (Vec ℕ A) S → ℕ → List ℕ
elements_in elements f = option_map_or (λ list. list.items) (get nat_eq elements f) []

-- the types that the sites of each function allocate
abbrev pub AreElements : {A S : Type 0} → HashMap ℕ (Vec ℕ A) S → List Site → Type 0
AreElements elements sites = (f : ℕ) → elements_in elements f ≡ site_elements sites f

abbrev pub same_types : TwoTypes → ℕ → ℕ → Bool
same_types types = corresponds types.old.now types.new.now types.structs.now types.unions.now

-- the partners of functions from number f on, by their pairs
abbrev pub partners_from : (ℕ → ℕ → Option ℕ) → ℕ → List (Option ℕ) → List (Option ℕ)
partners_from partner f [] = []
partners_from partner f (pair ∷ pairs) = then_option pair (partner f) ∷ partners_from partner (f + 1) pairs

-- the pair of a site: the renames of sites, the names of the old functions, their partners, and the names of the new
-- functions and of the new sites
abbrev pub site_pair_by : List Rename → Names → List (Option ℕ) → Names → Names → Site → Option ℕ
site_pair_by renames old partners new names s =
    pair_by renames names (site_name (entry_at old s.function) s.ordinal) (then_option (entry_at partners s.function) (λ g. site_name (entry_at new g) s.ordinal))

abbrev pub site_pair : SitePairer → Site → Option ℕ
site_pair p = site_pair_by p.renaming.now p.old_functions.now p.partners.now p.new_functions.now p.new.now
