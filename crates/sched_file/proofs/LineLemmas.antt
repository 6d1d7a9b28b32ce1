-- Lines of schedules.
use Rattle.std.proofs.Common.{◌≡◌, ℕ, zero, suc, ◌<◌, ◌+◌, Bool, true, false, nat_eq, if◌then◌else◌, List, [], ◌∷◌, length, take, get_or, Option, Some, None, refl, ap, ◌∙◌, arith}
use Rattle.lu_spec.specs.Then.{then_option}
use Rattle.lu_spec.proofs.ThenLemmas.{then_some}
use Rattle.sched_file.specs.Bytes.{up_to}
use Rattle.sched_file.specs.Commands.{without_return}
use Rattle.sched_file.specs.Schedule.{lines_of}
use Rattle.sched_file.specs.Words.{onto_first}

pub return-dropped : (text : List ℕ) (n : ℕ) → n + 1 ≡ length text → nat_eq (get_or text n 0) 13 ≡ true → without_return text ≡ take n text
return-dropped [] n e h = absurd (omega arith)
return-dropped (b ∷ []) zero e h = ap (λ r. if r then [] else b ∷ []) h
return-dropped (b ∷ []) (suc n) e h = absurd (omega arith)
return-dropped (b ∷ c ∷ cs) zero e h = absurd (omega arith)
return-dropped (b ∷ c ∷ cs) (suc n) e h = ap (λ l. b ∷ l) (return-dropped (c ∷ cs) n (omega arith) h)

pub return-kept : (text : List ℕ) (n : ℕ) → n + 1 ≡ length text → nat_eq (get_or text n 0) 13 ≡ false → without_return text ≡ text
return-kept [] n e h = refl
return-kept (b ∷ []) zero e h = ap (λ r. if r then [] else b ∷ []) h
return-kept (b ∷ []) (suc n) e h = absurd (omega arith)
return-kept (b ∷ c ∷ cs) zero e h = absurd (omega arith)
return-kept (b ∷ c ∷ cs) (suc n) e h = ap (λ l. b ∷ l) (return-kept (c ∷ cs) n (omega arith) h)

abbrev found_in : Bool → ℕ → List ℕ → Option (List ℕ × List ℕ)
found_in r b bs = if r then Some ([], bs) else then_option (up_to 10 bs) (λ p. Some (b ∷ p.0, p.1))

some-same : {A : Type 0} (x y : A) → Some x ≡ Some y → x ≡ y
some-same x y e = cc

then_none : {A B : Type 0} (o : Option A) (f : A → B) → then_option o (λ a. Some (f a)) ≡ None → o ≡ None
then_none None f e = refl
then_none (Some a) f e = absurd (cc)

-- the first line, where a line feed is found, and the one line where there is none
lines_step : (r : Bool) (b : ℕ) (bs l rest : List ℕ) → ((l rest : List ℕ) → up_to 10 bs ≡ Some (l, rest) → lines_of bs ≡ l ∷ lines_of rest)
    → found_in r b bs ≡ Some (l, rest) → (if r then [] ∷ lines_of bs else onto_first b (lines_of bs)) ≡ l ∷ lines_of rest
lines_step true b bs l rest ih e = ap (λ (p : List ℕ × List ℕ). p.0 ∷ lines_of p.1) (some-same ([], bs) (l, rest) e)
lines_step false b bs l rest ih e =
    let part = then_some (up_to 10 bs) (λ p. Some (b ∷ p.0, p.1)) (l, rest) e in
    ap (λ ls. onto_first b ls) (ih part.0.0 part.0.1 part.1) ∙ ap (λ (p : List ℕ × List ℕ). p.0 ∷ lines_of p.1) (some-same (b ∷ part.0.0, part.0.1) (l, rest) part.2)

pub lines-found : (text l rest : List ℕ) → up_to 10 text ≡ Some (l, rest) → lines_of text ≡ l ∷ lines_of rest
lines-found [] l rest e = absurd (cc)
lines-found (b ∷ bs) l rest e = lines_step (nat_eq b 10) b bs l rest (lines-found bs) e

single_step : (r : Bool) (b : ℕ) (bs : List ℕ) → (up_to 10 bs ≡ None → lines_of bs ≡ bs ∷ [])
    → found_in r b bs ≡ None → (if r then [] ∷ lines_of bs else onto_first b (lines_of bs)) ≡ (b ∷ bs) ∷ []
single_step true b bs ih e = absurd (cc)
single_step false b bs ih e = ap (λ ls. onto_first b ls) (ih (then_none (up_to 10 bs) (λ p. (b ∷ p.0, p.1)) e))

pub lines-single : (text : List ℕ) → up_to 10 text ≡ None → lines_of text ≡ text ∷ []
lines-single [] e = refl
lines-single (b ∷ bs) e = single_step (nat_eq b 10) b bs (lines-single bs) e

shorter_step : (r : Bool) (b : ℕ) (bs l rest : List ℕ) → ((l rest : List ℕ) → up_to 10 bs ≡ Some (l, rest) → length rest < length bs)
    → found_in r b bs ≡ Some (l, rest) → length rest < suc (length bs)
shorter_step true b bs l rest ih e = let same = ap (λ (p : List ℕ × List ℕ). length p.1) (some-same ([], bs) (l, rest) e) in omega arith
shorter_step false b bs l rest ih e =
    let part = then_some (up_to 10 bs) (λ p. Some (b ∷ p.0, p.1)) (l, rest) e in
    let same = ap (λ (p : List ℕ × List ℕ). length p.1) (some-same (b ∷ part.0.0, part.0.1) (l, rest) part.2) in
    let less = ih part.0.0 part.0.1 part.1 in omega arith

pub rest-shorter : (text l rest : List ℕ) → up_to 10 text ≡ Some (l, rest) → length rest < length text
rest-shorter [] l rest e = absurd (cc)
rest-shorter (b ∷ bs) l rest e = shorter_step (nat_eq b 10) b bs l rest (rest-shorter bs) e
