-- Numbers that are capped on the way.
use Rattle.std.proofs.Common.{◌≡◌, ℕ, ◌+◌, ◌-◌, ◌*◌, min, List, [], ◌∷◌, Bool, true, false, ◌&&◌, if◌then◌else◌, Option, Some, None, refl, ◌∙◌, ap, arith}
use Rattle.std.specs.Char.{is_ascii_digit}
use Rattle.std.specs.Str.{all_ascii_digits}
use Rattle.std.specs.Option.{option_map}
use Rattle.sched_file.specs.Number.{value_on, number_of, capped_on}

step_capped : (n d : ℕ) → min (10 * min n 10000000000 + d) 10000000000 ≡ min (10 * n + d) 10000000000
step_capped n d = omega arith

capped_step : (r s : Bool) (o p : Option ℕ) (v : ℕ) → o ≡ (if s then Some v else None) → p ≡ o
    → (if r then p else None) ≡ (if r && s then Some v else None)
capped_step true s o p v e same = same ∙ e
capped_step false s o p v e same = refl

pub capped_on-is : (n : ℕ) (ds : List ℕ) →
    capped_on (min n 10000000000) ds ≡ (if all_ascii_digits ds then Some (min (value_on n ds) 10000000000) else None)
capped_on-is n [] = refl
capped_on-is n (d ∷ ds) =
    capped_step (is_ascii_digit d) (all_ascii_digits ds) (capped_on (min (10 * n + (d - 48)) 10000000000) ds)
    (capped_on (min (10 * min n 10000000000 + (d - 48)) 10000000000) ds) (min (value_on (10 * n + (d - 48)) ds) 10000000000)
    (capped_on-is (10 * n + (d - 48)) ds) (ap (λ m. capped_on m ds) (step_capped n (d - 48)))

capped_choice : (r : Bool) (v : ℕ) → (if r then Some (min v 10000000000) else None) ≡ option_map (λ n. min n 10000000000) (if r then Some v else None)
capped_choice true v = refl
capped_choice false v = refl

pub capped_on-number_of : (d : ℕ) (ds : List ℕ) → capped_on 0 (d ∷ ds) ≡ option_map (λ n. min n 10000000000) (number_of (d ∷ ds))
capped_on-number_of d ds = capped_on-is 0 (d ∷ ds) ∙ capped_choice (all_ascii_digits (d ∷ ds)) (value_on 0 (d ∷ ds))

pub ruleset capped_numbers = capped_on-number_of
