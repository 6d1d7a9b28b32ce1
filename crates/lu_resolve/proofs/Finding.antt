-- Names and the places where they are found.
use Rattle.std.proofs.Common.{◌≡◌, ◌∙◌, ap, sym, refl, ℕ, suc, ◌+◌, Bool, true, false, not, cond, nat_lt, if◌then◌else◌, List, [], ◌∷◌, length, Option, Some, None, arith}
use Rattle.std.specs.Prelude.{map, position}
use Rattle.std.specs.List.{position_or_len}
use Rattle.std.specs.Option.{option_map}
use Rattle.std.proofs.lemmas.Bool.Decides.{nat_tests}
use Rattle.lu_image.specs.Names.{find, is_named}

-- the first entry of a name is the first that the test on names finds
pub find-position : {A : Type 0} (q : List ℕ) (f : A → Option (List ℕ)) (xs : List A) → find q (map f xs) ≡ position (λ x. is_named q (f x)) xs
find-position q f [] = refl
find-position q f (x ∷ xs) = by (is_named q (f x)) (position_or_len (λ y. is_named q (f y)) xs) (length xs) (find q (map f xs)) (find-position q f xs)
  where
    later : (t : Bool) (n : ℕ) (o : Option ℕ) → o ≡ cond t (Some n) None → option_map (λ k. k + 1) o ≡ cond t (Some (1 + n)) None
    later true n o is = ap (option_map (λ k. k + 1)) is ∙ ap Some (omega arith)
    later false n o is = ap (option_map (λ k. k + 1)) is

    by : (b : Bool) (n m : ℕ) (o : Option ℕ) → o ≡ cond (nat_lt n m) (Some n) None
        → (if b then Some 0 else option_map (λ k. k + 1) o) ≡ cond (nat_lt (cond (not b) (1 + n) 0) (suc m)) (Some (cond (not b) (1 + n) 0)) None
    by true n m o is = let low : nat_lt 0 (suc m) ≡ true = grind (arith, nat_tests) in ap (λ t. cond t (Some 0) None) (sym low)
    by false n m o is =
        let same : nat_lt (1 + n) (suc m) ≡ nat_lt n m = grind (arith, nat_tests) in
        later (nat_lt n m) n o is ∙ ap (λ t. cond t (Some (1 + n)) None) (sym same)
