-- The events of a schedule.
use Rattle.std.specs.Prelude.{◌≡◌, ℕ, zero, suc, ◌+◌, List, [], ◌∷◌, ◌++◌, length, nat_eq, nat_le, Option, Some, None, Result, Ok, Err, if◌then◌else◌}
use Rattle.lu_spec.specs.Then.{then_do}
use Rattle.plan_file.specs.declared.plan.Plan.{Plan}
use Rattle.sched_file.specs.declared.error.SchedError.{SchedError}
use Rattle.sched_file.specs.declared.error.SchedError.TheVariants as error
use Rattle.sched_file.specs.declared.event.Event.{Event}
use Rattle.sched_file.specs.declared.event.Event.TheVariants as event
use Rattle.sched_file.specs.declared.line.Line.{Line}
use Rattle.sched_file.specs.declared.line.Line.TheVariants as line
use Rattle.sched_file.specs.Commands.{line_of}
use Rattle.sched_file.specs.Words.{onto_first}

-- the text between the line feeds; there is one line more than line feeds
abbrev pub lines_of : List ℕ → List (List ℕ)
lines_of [] = [] ∷ []
lines_of (b ∷ bs) = if nat_eq b 10 then [] ∷ lines_of bs else onto_first b (lines_of bs)

-- a run of each of the first so many servers, in their order
abbrev pub round_of : ℕ → List Event
round_of zero = []
round_of (suc n) = round_of n ++ event.Run n 1000000 ∷ []

-- so many rounds of so many servers
abbrev pub rounds_of : ℕ → ℕ → List Event
rounds_of zero servers = []
rounds_of (suc k) servers = rounds_of k servers ++ round_of servers

-- the basic events of a line, in a plan of so many servers
abbrev pub line_events : ℕ → Line → List Event
line_events servers line.Empty = []
line_events servers (line.Basic e) = e ∷ []
line_events servers (line.Drain rounds) = rounds_of rounds servers

-- at most 100,000 basic events
abbrev pub limited : List Event → Result (List Event) SchedError
limited es = if nat_le (length es) 100000 then Ok es else Err error.Limit

-- the events so far and those of a line, or the refusal of the line of that number
abbrev pub with_line : ℕ → ℕ → List Event → Option Line → Result (List Event) SchedError
with_line servers number done None = Err (error.Line number)
with_line servers number done (Some said) = limited (done ++ line_events servers said)

-- the events so far and those of the lines in turn, the first of which has that number, or the first refusal
unfoldable pub events_from : Plan → ℕ → List Event → List (List ℕ) → Result (List Event) SchedError
events_from plan number done [] = Ok done
events_from plan number done (l ∷ ls) =
    then_do (with_line (length plan.server) number done (line_of plan l)) (λ more. events_from plan (number + 1) more ls)

-- the basic events of a schedule for a plan, or its first refusal
unfoldable pub schedule_of : Plan → List ℕ → Result (List Event) SchedError
schedule_of plan text = events_from plan 1 [] (lines_of text)

-- why nothing was read: what the definition refuses, or there is no memory
abbrev pub IsRefusal : {A : Type 0} → Result A SchedError → SchedError → Type 0
IsRefusal given e = ¬ (e ≡ error.Memory) → given ≡ Err e
