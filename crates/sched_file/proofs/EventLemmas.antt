-- Events with those of the next line behind them.
use Rattle.std.proofs.Common.{◌≡◌, ℕ, zero, suc, ◌<◌, ◌≤◌, ◌+◌, Bool, true, false, nat_le, if◌then◌else◌, List, [], ◌∷◌, ◌++◌, length, Option, Some, None, Ok, Err, refl, sym, ap, ◌∙◌, arith, length-append}
use Rattle.std.proofs.lemmas.Bool.Decides.{nat_tests}
use Rattle.lu_spec.specs.Then.{then_do}
use Rattle.plan_file.specs.declared.plan.Plan.{Plan}
use Rattle.sched_file.specs.declared.error.SchedError.{SchedError}
use Rattle.sched_file.specs.declared.error.SchedError.TheVariants as error
use Rattle.sched_file.specs.declared.event.Event.{Event}
use Rattle.sched_file.specs.declared.event.Event.TheVariants as event
use Rattle.sched_file.specs.declared.line.Line.{Line}
use Rattle.sched_file.specs.Commands.{line_of}
use Rattle.sched_file.specs.Schedule.{lines_of, limited, round_of, rounds_of, line_events, with_line, events_from, schedule_of, IsRefusal}

-- a list that is short enough, and one that is too long
pub limited-short : (es : List Event) → length es ≤ 100000 → limited es ≡ Ok es
limited-short es few = let test : nat_le (length es) 100000 ≡ true = grind (arith, nat_tests) in ap (λ r. if r then Ok es else Err error.Limit) test

pub limited-long : (es : List Event) → 100000 < length es → limited es ≡ Err error.Limit
limited-long es many = let test : nat_le (length es) 100000 ≡ false = grind (arith, nat_tests) in ap (λ r. if r then Ok es else Err error.Limit) test

pub limited-is : (es new : List Event) → limited es ≡ Ok new → (es ≡ new) × (length es ≤ 100000)
limited-is es new e = limited_cases (nat_le (length es) 100000) es new refl e
  where
    limited_cases : (r : Bool) (es new : List Event) → nat_le (length es) 100000 ≡ r → (if r then Ok es else Err error.Limit) ≡ Ok new → (es ≡ new) × (length es ≤ 100000)
    limited_cases true es new test e = (cc, grind (arith, nat_tests))
    limited_cases false es new test e = absurd (cc)

pub limited-few : (es new : List Event) → limited es ≡ Ok new → length new ≤ 100000
limited-few es new e = let is = limited-is es new e in let same = ap length is.0 in omega arith

-- a refusal says that the list is too long
pub refused-long : (es : List Event) (e : SchedError) → limited es ≡ Err e → 100000 < length es
refused-long es e h = refused_cases (nat_le (length es) 100000) es e refl h
  where
    refused_cases : (r : Bool) (es : List Event) (e : SchedError) → nat_le (length es) 100000 ≡ r → (if r then Ok es else Err error.Limit) ≡ Err e → 100000 < length es
    refused_cases true es e test h = absurd (cc)
    refused_cases false es e test h = grind (arith, nat_tests)

refused_is : (es : List Event) (e : SchedError) → limited es ≡ Err e → e ≡ error.Limit
refused_is es e h = is_cases (nat_le (length es) 100000) es e h
  where
    is_cases : (r : Bool) (es : List Event) (e : SchedError) → (if r then Ok es else Err error.Limit) ≡ Err e → e ≡ error.Limit
    is_cases true es e h = absurd (cc)
    is_cases false es e h = cc

-- what refuses a front of a list refuses the list
pub limited-longer : (front whole : List Event) (e : SchedError) → length front ≤ length whole → IsRefusal (limited front) e → IsRefusal (limited whole) e
limited-longer front whole e within why not_memory =
    let h = why not_memory in
    let long = refused-long front e h in
    limited-long whole (omega arith) ∙ ap (λ x. Err x) (sym (refused_is front e h))

-- rounds one after another
pub rounds-fewer : (k n servers : ℕ) → k ≤ n → length (rounds_of k servers) ≤ length (rounds_of n servers)
rounds-fewer k zero servers h = let none : k ≡ zero = omega arith in let same = ap (λ m. length (rounds_of m servers)) none in omega arith
rounds-fewer k (suc n) servers h = rounds_step (nat_le k n) k n servers refl h (rounds-fewer k n servers)
  where
    rounds_step : (r : Bool) (k n servers : ℕ) → nat_le k n ≡ r → k ≤ suc n → (k ≤ n → length (rounds_of k servers) ≤ length (rounds_of n servers))
        → length (rounds_of k servers) ≤ length (rounds_of (suc n) servers)
    rounds_step true k n servers test h ih =
        let below : k ≤ n = grind (arith, nat_tests) in
        let less = ih below in
        omega (arith, length-append (rounds_of n servers) (round_of servers))
    rounds_step false k n servers test h ih =
        let above : n < k = grind (arith, nat_tests) in
        let same : k ≡ suc n = omega arith in
        let lengths = ap (λ m. length (rounds_of m servers)) same in omega arith

pub round-fewer : (k n : ℕ) → k ≤ n → length (round_of k) ≤ length (round_of n)
round-fewer k zero h = let none : k ≡ zero = omega arith in let same = ap (λ m. length (round_of m)) none in omega arith
round-fewer k (suc n) h = round_step (nat_le k n) k n refl h (round-fewer k n)
  where
    round_step : (r : Bool) (k n : ℕ) → nat_le k n ≡ r → k ≤ suc n → (k ≤ n → length (round_of k) ≤ length (round_of n)) → length (round_of k) ≤ length (round_of (suc n))
    round_step true k n test h ih =
        let below : k ≤ n = grind (arith, nat_tests) in
        let less = ih below in
        omega (arith, length-append (round_of n) (event.Run n 1000000 ∷ []))
    round_step false k n test h ih =
        let above : n < k = grind (arith, nat_tests) in
        let same : k ≡ suc n = omega arith in
        let lengths = ap (λ m. length (round_of m)) same in omega arith

-- what refuses a run of a round refuses the round, and likewise for a round among several
pub round-refused : (old events : List Event) (k n : ℕ) (e : SchedError) → events ≡ old ++ round_of k → k < n
    → IsRefusal (limited (events ++ event.Run k 1000000 ∷ [])) e → IsRefusal (limited (old ++ round_of n)) e
round-refused old events k n e same below =
    let lengths = ap length same in
    limited-longer (events ++ event.Run k 1000000 ∷ []) (old ++ round_of n) e
    (omega (
      arith,
      lengths,
      length-append old (round_of k),
      length-append events (event.Run k 1000000 ∷ []),
      length-append old (round_of n),
      length-append (round_of k) (event.Run k 1000000 ∷ []),
      round-fewer (suc k) n (omega arith),
    ))

pub rounds-refused : (old events : List Event) (k n servers : ℕ) (e : SchedError) → events ≡ old ++ rounds_of k servers → k < n
    → IsRefusal (limited (events ++ round_of servers)) e → IsRefusal (limited (old ++ rounds_of n servers)) e
rounds-refused old events k n servers e same below =
    let lengths = ap length same in
    limited-longer (events ++ round_of servers) (old ++ rounds_of n servers) e
    (omega (
      arith,
      lengths,
      length-append old (rounds_of k servers),
      length-append events (round_of servers),
      length-append old (rounds_of n servers),
      length-append (rounds_of k servers) (round_of servers),
      rounds-fewer (suc k) n servers (omega arith),
    ))

-- the next line of a schedule
pub events_from-next : (plan : Plan) (number : ℕ) (done more : List Event) (l : List ℕ) (ls : List (List ℕ))
    → with_line (length plan.server) number done (line_of plan l) ≡ Ok more → events_from plan (number + 1) more ls ≡ events_from plan number done (l ∷ ls)
unfolding events_from
events_from-next plan number done more l ls e = sym (ap (λ r. then_do r (λ m. events_from plan (number + 1) m ls)) e)

pub events_from-refused : (plan : Plan) (number : ℕ) (done : List Event) (l : List ℕ) (ls : List (List ℕ)) (e : SchedError)
    → IsRefusal (with_line (length plan.server) number done (line_of plan l)) e → IsRefusal (events_from plan number done (l ∷ ls)) e
unfolding events_from
events_from-refused plan number done l ls e why not_memory = ap (λ r. then_do r (λ m. events_from plan (number + 1) m ls)) (why not_memory)

pub events_from-end : (plan : Plan) (number : ℕ) (done : List Event) → events_from plan number done [] ≡ Ok done
unfolding events_from
events_from-end plan number done = refl

pub schedule_of-start : (plan : Plan) (text : List ℕ) → events_from plan 1 [] (lines_of text) ≡ schedule_of plan text
unfolding schedule_of
schedule_of-start plan text = refl

pub with_line-few : (servers number : ℕ) (done new : List Event) (said : Option Line) → with_line servers number done said ≡ Ok new → length new ≤ 100000
with_line-few servers number done new None e = absurd (cc)
with_line-few servers number done new (Some said) e = limited-few (done ++ line_events servers said) new e
