-- The pairs of sites by the partners of functions are those of the definition.
use Rattle.std.proofs.Common.{◌≡◌, ◌∙◌, sym, ap, subst, refl, ℕ, zero, suc, ◌+◌, ◌<◌, ◌^◌, List, [], ◌∷◌, length, map, Option, slice_get, arith}
use Rattle.std.proofs.lemmas.List.{length-map}
use Rattle.lu_spec.specs.Then.{then_option}
use Rattle.src_tree.specs.declared.program.Program.{Program}
use Rattle.src_tree.specs.declared.program.Site.{Site}
use Rattle.lu_image.specs.declared.rename.Rename.{Rename}
use Rattle.lu_image.specs.declared.rename.Table.TheVariants as T
use Rattle.lu_image.specs.Names.{entry_at, function_names, site_name, site_names}
use Rattle.lu_image.specs.Pairing.{of_table, pair_by, function_pairs, types_correspond, site_elements, partner_if, site_partner, pair_site, site_pairs}
use Rattle.lu_image.specs.RenameRefusal.{first_refusal, site_refusal}
use Rattle.lu_pair.specs.declared.paired.SiteNames.{SiteNames}
use Rattle.lu_pair.specs.Sites.{partners_from, site_pair_by}
use Rattle.lu_pair.specs.Tags.{HaveSiteNames}

pub entry-partners : (partner : ℕ → ℕ → Option ℕ) (k f : ℕ) (ps : List (Option ℕ)) → entry_at (partners_from partner k ps) f ≡ then_option (entry_at ps f) (partner (k + f))
entry-partners partner k f [] = refl
entry-partners partner k zero (p ∷ ps) = ap (λ n. then_option p (partner n)) here
  where
    here : k ≡ k + 0
    here = omega arith
entry-partners partner k (suc f) (p ∷ ps) = entry-partners partner (k + 1) f ps ∙ ap (λ n. then_option (entry_at ps f) (partner n)) later
  where
    later : k + 1 + f ≡ k + suc f
    later = omega arith

map-same : {A B : Type 0} (f g : A → B) → ((x : A) → f x ≡ g x) → (xs : List A) → map f xs ≡ map g xs
map-same f g same [] = refl
map-same f g same (x ∷ xs) = λ i. same x i ∷ map-same f g same xs i

module _ (old new : Program) (renames : List Rename) where
  abbrev pub partners : List (Option ℕ)
  partners =
      partners_from (partner_if (types_correspond old new renames) (site_elements old.sites) (site_elements new.sites)) 0 (function_pairs old new renames)

  partner-is : (f : ℕ) → entry_at partners f ≡ site_partner old new renames f
  partner-is f = entry-partners (partner_if (types_correspond old new renames) (site_elements old.sites) (site_elements new.sites)) 0 f (function_pairs old new renames) ∙ ap (λ n. then_option (entry_at (function_pairs old new renames) f) (partner_if (types_correspond old new renames) (site_elements old.sites) (site_elements new.sites) n)) from_zero
    where
      from_zero : 0 + f ≡ f
      from_zero = omega arith

  site-is : (s : Site) → site_pair_by (of_table T.Site renames) (function_names old) partners (function_names new) (site_names new) s ≡ pair_site old new renames s
  site-is s = ap (λ o. pair_by (of_table T.Site renames) (site_names new) (site_name (entry_at (function_names old) s.function) s.ordinal) (then_option o (λ g. site_name (entry_at (function_names new) g) s.ordinal))) (partner-is s.function)

  pub sites-are : map (site_pair_by (of_table T.Site renames) (function_names old) partners (function_names new) (site_names new)) old.sites ≡ site_pairs old new renames
  sites-are = map-same (site_pair_by (of_table T.Site renames) (function_names old) partners (function_names new) (site_names new)) (pair_site old new renames) site-is old.sites

  pub function-pairs-few : length old.functions < 2 ^ 32 → length (function_pairs old new renames) < 2 ^ 32
  function-pairs-few few = subst (λ n. n < 2 ^ 32) (sym (length-map (function_names old) (λ name. pair_by (of_table T.Function renames) (function_names new) name name) ∙ length-map old.functions (λ f. slice_get old.names f.name))) few

  pub site-refusal-is : (names : SiteNames) → HaveSiteNames old new names → (rs : List Rename) → rs ≡ of_table T.Site renames → first_refusal names.old names.new [] rs ≡ site_refusal old new renames
  site-refusal-is names h rs e = λ i. first_refusal (h.old_sites i) (h.new_sites i) [] (e i)

pub site-names-few : (p : Program) → length p.sites < 2 ^ 32 → length (site_names p) < 2 ^ 32
site-names-few p few = subst (λ n. n < 2 ^ 32) (sym (length-map p.sites (λ s. site_name (entry_at (function_names p) s.function) s.ordinal))) few
