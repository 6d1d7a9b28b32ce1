-- The events of a schedule are basic events of its plan.
use Rattle.std.proofs.Common.{◌≡◌, ℕ, zero, suc, ◌+◌, ◌<◌, ◌≤◌, ℤ, pos, Bool, true, false, ◌&&◌, nat_eq, nat_le, nat_lt, if◌then◌else◌, IsTrue, List, [], ◌∷◌, ◌++◌, length, Option, Some, None, Result, Ok, Err, refl, sym, subst, ap, ◌∙◌, arith, codes}
use Rattle.std.specs.List.{list_all}
use Rattle.std.specs.Option.{option_map}
use Rattle.std.specs.Ordering.{int_eq}
use Rattle.std.specs.Str.{bytes_eq}
use Rattle.std.specs.Cmp.Derive.{both_true}
use Rattle.std.proofs.lemmas.Bool.Decides.{nat_tests, Decides-int_eq}
use Rattle.std.proofs.lemmas.List.Folds.{list_all-append}
use Rattle.lu_spec.specs.Then.{then_option, then_do}
use Rattle.plan_file.specs.declared.plan.Plan.{Plan}
use Rattle.plan_file.specs.declared.plan.Server.{Server}
use Rattle.plan_file.specs.declared.plan.Update.{Update}
use Rattle.sched_file.specs.declared.error.SchedError.{SchedError}
use Rattle.sched_file.specs.declared.error.SchedError.TheVariants as error
use Rattle.sched_file.specs.declared.event.Event.{Event}
use Rattle.sched_file.specs.declared.event.Event.TheVariants as event
use Rattle.sched_file.specs.declared.line.Line.{Line}
use Rattle.sched_file.specs.declared.line.Line.TheVariants as line
use Rattle.sched_file.specs.Number.{number_of, number_between, int_of}
use Rattle.sched_file.specs.Words.{words_of, begins, one_of, two_of}
use Rattle.sched_file.specs.Commands.{server_from, server_of, update_from, update_of, arguments_of, send_of, run_of, work_of, only_update, only_server, drain_of, event_of, command_of, without_return, line_of}
use Rattle.sched_file.specs.Schedule.{lines_of, limited, round_of, rounds_of, line_events, with_line, events_from, schedule_of}
use Rattle.sched_file.specs.Events.{is_between, is_client, has_server, has_update, is_basic, AreBasic}
use Rattle.sched_file.proofs.EventLemmas.{limited-is}

-- what follows from a step that gave a value, and from a choice
after_step : {A B : Type 0} {Q : Type 0} (o : Option A) (f : A → Option B) (b : B) → then_option o f ≡ Some b → ((a : A) → o ≡ Some a → f a ≡ Some b → Q) → Q
after_step (Some a) f b e next = next a refl e
after_step None f b e next = absurd (cc)

after_map : {A B : Type 0} {Q : Type 0} (f : A → B) (o : Option A) (b : B) → option_map f o ≡ Some b → ((a : A) → o ≡ Some a → f a ≡ b → Q) → Q
after_map f (Some a) b e next = next a refl (let same : f a ≡ b = cc in same)
after_map f None b e next = absurd (cc)

after_choice : {A : Type 0} {Q : Type 0} (t : Bool) (o p : Option A) (a : A) → (if t then o else p) ≡ Some a → (o ≡ Some a → Q) → (p ≡ Some a → Q) → Q
after_choice true o p a e left right = left e
after_choice false o p a e left right = right e

number_step : (t : Bool) (low high n m : ℕ) → is_between low high n ≡ t → (if t then Some n else None) ≡ Some m → is_between low high m ≡ true
number_step true low high n m e out = let same : n ≡ m = cc in ap (is_between low high) (sym same) ∙ e
number_step false low high n m e out = absurd (cc)

number-between : (low high : ℕ) (word : List ℕ) (n : ℕ) → number_between low high word ≡ Some n → is_between low high n ≡ true
number-between low high word n e =
    after_step (number_of word) (λ n. if nat_le low n && nat_le n high then Some n else None) n e (λ m _ out.
    number_step (is_between low high m) low high m n refl out)

-- a place that is found is below the end
place_step : (t : Bool) (place found length_of_rest : ℕ) (rest : Option ℕ) → (rest ≡ Some found → found < place + 1 + length_of_rest)
    → (if t then Some place else rest) ≡ Some found → found < place + suc length_of_rest
place_step true place found n rest ih e = let same : place ≡ found = cc in omega arith
place_step false place found n rest ih e = let below = ih e in omega arith

server-below : (place : ℕ) (servers : List Server) (name : List ℕ) (found : ℕ) → server_from place servers name ≡ Some found → found < place + length servers
server-below place [] name found e = absurd (cc)
server-below place (s ∷ ss) name found e =
    place_step (bytes_eq s.name name) place found (length ss) (server_from (place + 1) ss name) (server-below (place + 1) ss name found) e

update-below : (place : ℕ) (updates : List Update) (name : List ℕ) (found : ℕ) → update_from place updates name ≡ Some found → found < place + length updates
update-below place [] name found e = absurd (cc)
update-below place (u ∷ us) name found e =
    place_step (bytes_eq u.name name) place found (length us) (update_from (place + 1) us name) (update-below (place + 1) us name found) e

below-true : (n m : ℕ) → n < 0 + m → nat_lt n m ≡ true
below-true n m less = grind (arith, nat_tests)

server-there : (plan : Plan) (name : List ℕ) (server : ℕ) → server_of plan name ≡ Some server → has_server plan server ≡ true
server-there plan name server e = below-true server (length plan.server) (server-below 0 plan.server name server e)

update-there : (plan : Plan) (name : List ℕ) (update : ℕ) → update_of plan name ≡ Some update → has_update plan update ≡ true
update-there plan name update e = below-true update (length plan.update) (update-below 0 plan.update name update e)

at-end : (plan : Plan) (made e : Event) → Some made ≡ Some e → is_basic plan made ≡ true → is_basic plan e ≡ true
at-end plan made e same basic = let is : made ≡ e = cc in ap (is_basic plan) (sym is) ∙ basic

send-basic : (plan : Plan) (ws : List (List ℕ)) (e : Event) → send_of plan ws ≡ Some e → is_basic plan e ≡ true
send-basic plan [] e is = absurd (cc)
send-basic plan (c ∷ []) e is = absurd (cc)
send-basic plan (c ∷ s ∷ []) e is = absurd (cc)
send-basic plan (c ∷ s ∷ t ∷ args) e is =
    after_step (number_between 100 999 c) _ e is (λ client number is.
    after_step (server_of plan s) _ e is (λ server there is.
    after_step (int_of t) _ e is (λ kind _ is.
    after_step (arguments_of 6 args) _ e is (λ arg _ is.
    at-end plan _ e is
    (both_true (both_true (number-between 100 999 c client number) ((Decides-int_eq (pos client) (pos client)).1 refl)) (server-there plan s server there))))))

run-basic : (plan : Plan) (ws : List (List ℕ)) (e : Event) → run_of plan ws ≡ Some e → is_basic plan e ≡ true
run-basic plan ws e is =
    after_step (two_of ws) _ e is (λ w _ is.
    after_step (server_of plan w.0) _ e is (λ server there is.
    after_step (number_between 1 1000000 w.1) _ e is (λ ticks number is.
    at-end plan _ e is (both_true (server-there plan w.0 server there) (number-between 1 1000000 w.1 ticks number)))))

work-basic : (plan : Plan) (ws : List (List ℕ)) (e : Event) → work_of plan ws ≡ Some e → is_basic plan e ≡ true
work-basic plan ws e is =
    after_step (two_of ws) _ e is (λ w _ is.
    after_step (update_of plan w.0) _ e is (λ update there is.
    after_step (number_between 1 1000000 w.1) _ e is (λ units number is.
    at-end plan _ e is (both_true (update-there plan w.0 update there) (number-between 1 1000000 w.1 units number)))))

update-basic : (plan : Plan) (make : ℕ → Event) → ((u : ℕ) → is_basic plan (make u) ≡ has_update plan u) → (ws : List (List ℕ)) (e : Event)
    → option_map make (only_update plan ws) ≡ Some e → is_basic plan e ≡ true
update-basic plan make basic ws e is =
    after_map make (only_update plan ws) e is (λ update only made.
    after_step (one_of ws) (update_of plan) update only (λ w _ there.
    ap (is_basic plan) (sym made) ∙ basic update ∙ update-there plan w update there))

dump-basic : (plan : Plan) (ws : List (List ℕ)) (e : Event) → option_map event.Dump (only_server plan ws) ≡ Some e → is_basic plan e ≡ true
dump-basic plan ws e is =
    after_map event.Dump (only_server plan ws) e is (λ server only made.
    after_step (one_of ws) (server_of plan) server only (λ w _ there.
    ap (is_basic plan) (sym made) ∙ server-there plan w server there))

event-basic : (plan : Plan) (first : List ℕ) (ws : List (List ℕ)) (e : Event) → event_of plan first ws ≡ Some e → is_basic plan e ≡ true
event-basic plan first ws e is =
    after_choice (bytes_eq first (codes "send")) _ _ e is (send-basic plan ws e) (λ is.
    after_choice (bytes_eq first (codes "run")) _ _ e is (run-basic plan ws e) (λ is.
    after_choice (bytes_eq first (codes "update")) _ _ e is (update-basic plan event.Update (λ u. refl) ws e) (λ is.
    after_choice (bytes_eq first (codes "work")) _ _ e is (work-basic plan ws e) (λ is.
    after_choice (bytes_eq first (codes "commit")) _ _ e is (update-basic plan event.Commit (λ u. refl) ws e) (λ is.
    after_choice (bytes_eq first (codes "abort")) _ _ e is (update-basic plan event.Abort (λ u. refl) ws e) (λ is.
    after_choice (bytes_eq first (codes "dump")) _ _ e is (dump-basic plan ws e) (λ is. absurd (cc))))))))

-- runs of all servers
round-basic : (plan : Plan) (n : ℕ) → n ≤ length plan.server → list_all (is_basic plan) (round_of n) ≡ true
round-basic plan zero within = refl
round-basic plan (suc n) within =
    list_all-append (is_basic plan) (round_of n) (event.Run n 1000000 ∷ [])
    ∙ both_true (round-basic plan n (omega arith)) (both_true (both_true (below-true n (length plan.server) (omega arith)) refl) refl)

rounds-basic : (plan : Plan) (k : ℕ) → list_all (is_basic plan) (rounds_of k (length plan.server)) ≡ true
rounds-basic plan zero = refl
rounds-basic plan (suc k) =
    list_all-append (is_basic plan) (rounds_of k (length plan.server)) (round_of (length plan.server))
    ∙ both_true (rounds-basic plan k) (round-basic plan (length plan.server) (omega arith))

-- what a line says of a plan is basic
abbrev IsBasicLine : Plan → Line → Type 0
IsBasicLine plan said = list_all (is_basic plan) (line_events (length plan.server) said) ≡ true

command-basic : (plan : Plan) (ws : List (List ℕ)) (said : Line) → command_of plan ws ≡ Some said → IsBasicLine plan said
command-basic plan [] said is = let same : line.Empty ≡ said = cc in ap (λ s. list_all (is_basic plan) (line_events (length plan.server) s)) (sym same)
command-basic plan (w ∷ ws) said is =
    after_choice (bytes_eq w (codes "drain")) (option_map line.Drain (drain_of ws)) (option_map line.Basic (event_of plan w ws)) said is
    (λ is. after_map line.Drain (drain_of ws) said is (λ rounds _ made.
    ap (λ s. list_all (is_basic plan) (line_events (length plan.server) s)) (sym made) ∙ rounds-basic plan rounds))
    (λ is. after_map line.Basic (event_of plan w ws) said is (λ e basic made.
    ap (λ s. list_all (is_basic plan) (line_events (length plan.server) s)) (sym made) ∙ both_true (event-basic plan w ws e basic) refl))

line-basic : (plan : Plan) (text : List ℕ) (said : Line) → line_of plan text ≡ Some said → IsBasicLine plan said
unfolding line_of
line-basic plan text said is =
    after_choice (begins (λ b. nat_eq b 35) (without_return text)) (Some line.Empty) (command_of plan (words_of (without_return text))) said is
    (λ is. command-basic plan [] said is)
    (command-basic plan (words_of (without_return text)) said)

with-line-basic : (plan : Plan) (number : ℕ) (done new : List Event) (text : List ℕ) (o : Option Line) → line_of plan text ≡ o → AreBasic plan done
    → with_line (length plan.server) number done o ≡ Ok new → AreBasic plan new
with-line-basic plan number done new text None is basic e = absurd (cc)
with-line-basic plan number done new text (Some said) is basic e =
    let limit = limited-is (done ++ line_events (length plan.server) said) new e in
    let lengths = ap length limit.0 in
    record {
      few = (let few = limit.1 in omega arith);
      each = ap (list_all (is_basic plan)) (sym limit.0) ∙ list_all-append (is_basic plan) done (line_events (length plan.server) said)
          ∙ both_true basic.each (line-basic plan text said is);
    }

after_result : {A B : Type 0} {Q : Type 0} (r : Result A SchedError) (f : A → Result B SchedError) (b : B) → then_do r f ≡ Ok b → ((a : A) → r ≡ Ok a → f a ≡ Ok b → Q) → Q
after_result (Ok a) f b e next = next a refl e
after_result (Err x) f b e next = absurd (cc)

events-basic : (plan : Plan) (number : ℕ) (done new : List Event) (lines : List (List ℕ)) → AreBasic plan done → events_from plan number done lines ≡ Ok new → AreBasic plan new
unfolding events_from
events-basic plan number done new [] basic e = let same : done ≡ new = cc in subst (AreBasic plan) same basic
events-basic plan number done new (l ∷ ls) basic e =
    after_result (with_line (length plan.server) number done (line_of plan l)) (λ more. events_from plan (number + 1) more ls) new e (λ more is e.
    events-basic plan (number + 1) more new ls (with-line-basic plan number done more l (line_of plan l) refl basic is) e)

pub schedule-basic : (plan : Plan) (text : List ℕ) (events : List Event) → schedule_of plan text ≡ Ok events → AreBasic plan events
unfolding schedule_of
schedule-basic plan text events e = events-basic plan 1 [] events (lines_of text) (record { few = omega arith; each = refl }) e
