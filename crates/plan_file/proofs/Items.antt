-- The items of a list, one by one.
use Rattle.std.proofs.Common.{◌≡◌, ◌<◌, List, [], ◌∷◌, ◌++◌, length, get_or, drop, true, Result, Ok, refl, sym, ◌∙◌, ap, arith}
use Rattle.lu_spec.specs.Then.{then_do}
use Rattle.toml.specs.Data.{Data, item, no_items}
use Rattle.toml.specs.View.{view, items_view}
use Rattle.toml.specs.declared.value.Value.{Value}
use Rattle.plan_file.specs.declared.error.PlanError.{PlanError}
use Rattle.plan_file.specs.Forms.{count_of}
use Rattle.plan_file.specs.Lookup.{each_onto, IsRefusal, are_tables}

pub items_view-first : (vs : List Value) (d : Value) → 0 < length vs → items_view vs ≡ item (view (get_or vs 0 d)) (items_view (drop 1 vs))
items_view-first [] d some = absurd (omega arith)
items_view-first (v ∷ vs) d some = refl

pub items_view-none : (vs : List Value) → length vs ≡ 0 → items_view vs ≡ no_items
items_view-none [] e = refl
items_view-none (v ∷ vs) e = absurd (omega arith)

pub count_of-items_view : (vs : List Value) → count_of (items_view vs) ≡ length vs
count_of-items_view [] = refl
count_of-items_view (v ∷ vs) = let more = count_of-items_view vs in omega arith

pub are_tables-none : (vs : List Value) → length vs ≡ 0 → are_tables (items_view vs) ≡ true
are_tables-none vs e = ap are_tables (items_view-none vs e)

module _ {T : Type 0} (read : List T → Data → Result T PlanError) where
  pub each_onto-next : (done : List T) (t : T) (more : List T) (vs : List Value) (d : Value) → 0 < length vs → read done (view (get_or vs 0 d)) ≡ Ok t
      → more ≡ done ++ t ∷ [] → each_onto read more (items_view (drop 1 vs)) ≡ each_onto read done (items_view vs)
  each_onto-next done t more vs d some e same =
      ap (λ m. each_onto read m (items_view (drop 1 vs))) same
      ∙ sym (ap (λ ds. each_onto read done ds) (items_view-first vs d some) ∙ ap (λ r. then_do r (λ u. each_onto read (done ++ u ∷ []) (items_view (drop 1 vs)))) e)

  pub each_onto-refused : (done : List T) (vs : List Value) (d : Value) (e : PlanError) → 0 < length vs → IsRefusal (read done (view (get_or vs 0 d))) e
      → IsRefusal (each_onto read done (items_view vs)) e
  each_onto-refused done vs d e some why not_memory =
      ap (λ ds. each_onto read done ds) (items_view-first vs d some)
      ∙ ap (λ r. then_do r (λ u. each_onto read (done ++ u ∷ []) (items_view (drop 1 vs)))) (why not_memory)

  pub each_onto-end : (done : List T) (vs : List Value) → length vs ≡ 0 → each_onto read done (items_view vs) ≡ Ok done
  each_onto-end done vs none = ap (λ ds. each_onto read done ds) (items_view-none vs none)

pub ruleset items = (items_view-first, count_of-items_view, are_tables-none)
