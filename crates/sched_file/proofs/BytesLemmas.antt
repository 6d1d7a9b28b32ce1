-- What stands before the first of some byte.
use Rattle.std.proofs.Common.{◌≡◌, ℕ, zero, suc, ◌<◌, ◌≤◌, List, [], ◌∷◌, length, take, drop, Bool, true, false, nat_eq, if◌then◌else◌, Option, Some, None, refl, ap, arith}
use Rattle.lu_spec.specs.Then.{then_option}
use Rattle.sched_file.specs.Bytes.{up_to, length_before}

found_step : (r : Bool) (stop b : ℕ) (bs : List ℕ)
    → (length_before stop bs < length bs → up_to stop bs ≡ Some (take (length_before stop bs) bs, drop 1 (drop (length_before stop bs) bs)))
    → (if r then zero else suc (length_before stop bs)) < suc (length bs)
    → if◌then◌else◌ {A = Option (List ℕ × List ℕ)} r (Some ([], bs)) (then_option (up_to stop bs) (λ p. Some (b ∷ p.0, p.1)))
    ≡ Some (take (if r then zero else suc (length_before stop bs)) (b ∷ bs), drop 1 (drop (if r then zero else suc (length_before stop bs)) (b ∷ bs)))
found_step true stop b bs ih h = refl
found_step false stop b bs ih h = ap (λ o. then_option o (λ p. Some (b ∷ p.0, p.1))) (ih (omega arith))

pub up_to-found : (stop : ℕ) (text : List ℕ) → length_before stop text < length text →
    up_to stop text ≡ Some (take (length_before stop text) text, drop 1 (drop (length_before stop text) text))
up_to-found stop [] h = absurd (omega arith)
up_to-found stop (b ∷ bs) h = found_step (nat_eq b stop) stop b bs (up_to-found stop bs) h

none_step : (r : Bool) (stop b : ℕ) (bs : List ℕ)
    → (length bs ≤ length_before stop bs → up_to stop bs ≡ None)
    → suc (length bs) ≤ (if r then zero else suc (length_before stop bs))
    → if◌then◌else◌ {A = Option (List ℕ × List ℕ)} r (Some ([], bs)) (then_option (up_to stop bs) (λ p. Some (b ∷ p.0, p.1))) ≡ None
none_step true stop b bs ih h = absurd (omega arith)
none_step false stop b bs ih h = ap (λ o. then_option o (λ p. Some (b ∷ p.0, p.1))) (ih (omega arith))

pub up_to-none : (stop : ℕ) (text : List ℕ) → length text ≤ length_before stop text → up_to stop text ≡ None
up_to-none stop [] h = refl
up_to-none stop (b ∷ bs) h = none_step (nat_eq b stop) stop b bs (up_to-none stop bs) h
