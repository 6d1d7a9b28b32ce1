-- What a line of a schedule says.
use Rattle.std.specs.Prelude.{ℕ, zero, suc, ◌+◌, ℤ, pos, List, [], ◌∷◌, nat_eq, Option, Some, None, if◌then◌else◌, codes}
use Rattle.std.specs.Option.{option_map}
use Rattle.std.specs.Str.{bytes_eq}
use Rattle.lu_spec.specs.Then.{then_option}
use Rattle.plan_file.specs.declared.plan.Plan.{Plan}
use Rattle.plan_file.specs.declared.plan.Server.{Server}
use Rattle.plan_file.specs.declared.plan.Update.{Update}
use Rattle.sched_file.specs.declared.event.Event.{Event}
use Rattle.sched_file.specs.declared.event.Event.TheVariants as event
use Rattle.sched_file.specs.declared.line.Line.{Line}
use Rattle.sched_file.specs.declared.line.Line.TheVariants as line
use Rattle.sched_file.specs.Number.{number_between, int_of}
use Rattle.sched_file.specs.Words.{words_of, begins, one_of, two_of}

-- the place of the server of a name, where the first of the list has that place
abbrev pub server_from : ℕ → List Server → List ℕ → Option ℕ
server_from place [] name = None
server_from place (s ∷ ss) name = if bytes_eq s.name name then Some place else server_from (place + 1) ss name

abbrev pub server_of : Plan → List ℕ → Option ℕ
server_of plan name = server_from 0 plan.server name

-- the place of the update of a name, likewise
abbrev pub update_from : ℕ → List Update → List ℕ → Option ℕ
update_from place [] name = None
update_from place (u ∷ us) name = if bytes_eq u.name name then Some place else update_from (place + 1) us name

abbrev pub update_of : Plan → List ℕ → Option ℕ
update_of plan name = update_from 0 plan.update name

-- an int, or 0 where the words are at their end; and the further words
abbrev pub argument_of : List (List ℕ) → Option (ℤ × List (List ℕ))
argument_of [] = Some (pos 0, [])
argument_of (w ∷ ws) = then_option (int_of w) (λ x. Some (x, ws))

-- so many arguments, and no word more
abbrev pub arguments_of : ℕ → List (List ℕ) → Option (List ℤ)
arguments_of zero [] = Some []
arguments_of zero (w ∷ ws) = None
arguments_of (suc n) ws = then_option (argument_of ws) (λ a. then_option (arguments_of n a.1) (λ xs. Some (a.0 ∷ xs)))

-- `C S T A0 .. A5` behind `send`: client C, 100..999, sends type T and up to six arguments to server S
abbrev pub send_of : Plan → List (List ℕ) → Option Event
send_of plan (c ∷ s ∷ t ∷ args) =
    then_option (number_between 100 999 c) (λ client.
    then_option (server_of plan s) (λ server.
    then_option (int_of t) (λ kind.
    then_option (arguments_of 6 args) (λ arg.
    Some (event.Send (pos client) server (record { source = pos client; kind = kind; arg = arg }))))))
send_of plan _ = None

-- `S K` behind `run`: K ticks, 1..1,000,000, for server S
abbrev pub run_of : Plan → List (List ℕ) → Option Event
run_of plan ws =
    then_option (two_of ws) (λ w.
    then_option (server_of plan w.0) (λ server.
    then_option (number_between 1 1000000 w.1) (λ ticks.
    Some (event.Run server ticks))))

-- `U K` behind `work`: K units, 1..1,000,000, of update U
abbrev pub work_of : Plan → List (List ℕ) → Option Event
work_of plan ws =
    then_option (two_of ws) (λ w.
    then_option (update_of plan w.0) (λ update.
    then_option (number_between 1 1000000 w.1) (λ units.
    Some (event.Work update units))))

-- `U` alone: the update
abbrev pub only_update : Plan → List (List ℕ) → Option ℕ
only_update plan ws = then_option (one_of ws) (update_of plan)

-- `S` alone: the server
abbrev pub only_server : Plan → List (List ℕ) → Option ℕ
only_server plan ws = then_option (one_of ws) (server_of plan)

-- `K` behind `drain`: so many rounds, 1..10,000
abbrev pub drain_of : List (List ℕ) → Option ℕ
drain_of ws = then_option (one_of ws) (number_between 1 10000)

-- what the words behind the first one say, where that is no `drain`
abbrev pub event_of : Plan → List ℕ → List (List ℕ) → Option Event
event_of plan first ws =
    if bytes_eq first (codes "send") then send_of plan ws
    else (if bytes_eq first (codes "run") then run_of plan ws
    else (if bytes_eq first (codes "update") then option_map event.Update (only_update plan ws)
    else (if bytes_eq first (codes "work") then work_of plan ws
    else (if bytes_eq first (codes "commit") then option_map event.Commit (only_update plan ws)
    else (if bytes_eq first (codes "abort") then option_map event.Abort (only_update plan ws)
    else (if bytes_eq first (codes "dump") then option_map event.Dump (only_server plan ws)
    else None))))))

-- what the words of a line say
abbrev pub command_of : Plan → List (List ℕ) → Option Line
command_of plan [] = Some line.Empty
command_of plan (w ∷ ws) =
    if bytes_eq w (codes "drain") then option_map line.Drain (drain_of ws) else option_map line.Basic (event_of plan w ws)

-- the line without its last byte, where that is CR
abbrev pub without_return : List ℕ → List ℕ
without_return [] = []
without_return (b ∷ []) = if nat_eq b 13 then [] else b ∷ []
without_return (b ∷ c ∷ cs) = b ∷ without_return (c ∷ cs)

-- what a line says: nothing, where it begins with `#`
unfoldable pub line_of : Plan → List ℕ → Option Line
line_of plan text =
    if begins (λ b. nat_eq b 35) (without_return text) then Some line.Empty else command_of plan (words_of (without_return text))
