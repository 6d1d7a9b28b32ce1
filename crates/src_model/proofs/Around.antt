-- A search that begins within a list, and a list cut in two.
use Rattle.std.proofs.Common.{◌≡◌, ◌∙◌, refl, sym, ap, ℕ, Bool, true, false, ◌||◌, List, ◌++◌, take, drop}
use Rattle.std.specs.List.{list_any}
use Rattle.std.proofs.lemmas.List.{take-append-drop}
use Rattle.std.proofs.lemmas.List.Folds.{list_any-append}
use Rattle.c_types.specs.declared.parts.Ty.{Ty}

or-turned : (a b : Bool) → (a || b) ≡ (b || a)
or-turned true true = refl
or-turned true false = refl
or-turned false true = refl
or-turned false false = refl

-- what stands behind is searched first
pub any_around : (f : Ty → Bool) (xs before behind : List Ty) → before ++ behind ≡ xs → (list_any f behind || list_any f before) ≡ list_any f xs
any_around f xs before behind e =
    or-turned (list_any f behind) (list_any f before) ∙ sym (list_any-append f before behind) ∙ ap (list_any f) e

pub joined_again : (n : ℕ) (xs : List Ty) → take n xs ++ drop n xs ≡ xs
joined_again n xs = take-append-drop n xs

pub ruleset around_facts = (any_around, joined_again)
