-- One more pair.
use Rattle.std.proofs.Common.{◌≡◌, ℕ, suc, ◌+◌, List, [], ◌∷◌, ◌++◌, refl, sym, ◌∙◌, ap, arith, append_assoc}
use Rattle.lu_gen.specs.Generator.{next, steps, pair, pairs}

steps-suc : (count x : ℕ) → steps (suc count) x ≡ next (steps count x)
unfolding steps
steps-suc count x = refl

pairs-suc : (after count x : ℕ) → pairs after (suc count) x ≡ pairs after count x ++ pair (after + suc count) (steps (suc count) x)
unfolding pairs
pairs-suc after count x = refl

pub none_yet : (text : List ℕ) (after x : ℕ) → (text ≡ text ++ pairs after 0 x) × (x ≡ steps 0 x)
unfolding pairs steps
none_yet text after x = (sym (nil text), refl)
  where
    nil : (text : List ℕ) → text ++ [] ≡ text
    nil [] = refl
    nil (b ∷ bs) = ap (λ r. b ∷ r) (nil bs)

-- behind i pairs, the pair of the next number
pub one_more : (old text new : List ℕ) (after i y x number : ℕ) → (text ≡ old ++ pairs after i number) × (x ≡ steps i number) → y ≡ next x
    → new ≡ text ++ pair (after + i + 1) y → (new ≡ old ++ pairs after (i + 1) number) × (y ≡ steps (i + 1) number)
one_more old text new after i y x number so_far e more =
    let n : i + 1 ≡ suc i = omega arith in
    let m : after + i + 1 ≡ after + suc i = omega arith in
    let k : y ≡ steps (suc i) number = e ∙ ap next so_far.1 ∙ sym (steps-suc i number) in (
      more ∙ ap (λ t. t ++ pair (after + i + 1) y) so_far.0 ∙ append_assoc old (pairs after i number) (pair (after + i + 1) y)
          ∙ ap (λ j. old ++ (pairs after i number ++ pair j y)) m
          ∙ ap (λ z. old ++ (pairs after i number ++ pair (after + suc i) z)) k
          ∙ ap (λ p. old ++ p) (sym (pairs-suc after i number))
          ∙ ap (λ j. old ++ pairs after j number) (sym n),
      k ∙ ap (λ j. steps j number) (sym n),
    )
