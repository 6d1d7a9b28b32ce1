-- Which events a run without updates has.
use Rattle.std.proofs.Common.{◌≡◌, ◌<◌, ℕ, zero, suc, ◌+◌, Bool, true, false, ◌&&◌, nat_lt, List, [], ◌∷◌, length, Option, Some, None, refl, sym, ◌∙◌, ap, subst, arith, slice_get, IsTrue}
use Rattle.std.specs.List.{list_all}
use Rattle.std.specs.Ordering.{int_eq}
use Rattle.std.proofs.lemmas.Bool.Decides.{nat_tests}
use Rattle.plan_file.specs.declared.plan.Plan.{Plan}
use Rattle.plan_file.specs.declared.plan.Update.{Update}
use Rattle.sched_file.specs.declared.event.Event.{Event}
use Rattle.sched_file.specs.declared.event.Event.TheVariants as event
use Rattle.sched_file.specs.Events.{is_basic, is_client, is_between, has_server, has_update}
use Rattle.sys_run.specs.Events.{IsWithin}
use Rattle.lu_load.specs.declared.setup.Setup.{Setup}
use Rattle.lu_load.specs.Setups.{KeepsSetup}
use Rattle.lu_cli.specs.Told.{event_at, or_finish}

and_left : (a b : Bool) → (a && b) ≡ true → a ≡ true
and_left true b e = refl
and_left false b e = cc

and_right : (a b : Bool) → (a && b) ≡ true → b ≡ true
and_right true b e = e
and_right false b e = absurd (cc)

below : (a b : ℕ) → nat_lt a b ≡ true → a < b
below a b e = grind (arith, nat_tests)

no_update : (updates : List Update) (u : ℕ) → updates ≡ [] → nat_lt u (length updates) ≡ true → ⊥
no_update updates u none e =
    let less : u < length updates = below u (length updates) e in let zero_length : length updates ≡ 0 = ap length none in omega (arith, less, zero_length)

basic_within : (plan : Plan) (e : Event) → plan.update ≡ [] → is_basic plan e ≡ true → IsWithin (length plan.server) e
basic_within plan event.Boot none e = tt
basic_within plan (event.Send client server message) none e =
    below server (length plan.server) (and_right (is_client client && int_eq message.source client) (has_server plan server) e)
basic_within plan (event.Run server ticks) none e = below server (length plan.server) (and_left (has_server plan server) (is_between 1 1000000 ticks) e)
basic_within plan (event.Update update) none e = absurd (no_update plan.update update none e)
basic_within plan (event.Work update units) none e =
    absurd (no_update plan.update update none (and_left (has_update plan update) (is_between 1 1000000 units) e))
basic_within plan (event.Commit update) none e = absurd (no_update plan.update update none e)
basic_within plan (event.Abort update) none e = absurd (no_update plan.update update none e)
basic_within plan (event.Dump server) none e = below server (length plan.server) e
basic_within plan event.Finish none e = tt

all_at : (plan : Plan) (events : List Event) (n : ℕ) → plan.update ≡ [] → list_all (is_basic plan) events ≡ true
    → IsWithin (length plan.server) (or_finish (slice_get events n))
all_at plan [] n none all = tt
all_at plan (e ∷ es) zero none all = basic_within plan e none (and_left (is_basic plan e) (list_all (is_basic plan) es) all)
all_at plan (e ∷ es) (suc n) none all = all_at plan es n none (and_right (is_basic plan e) (list_all (is_basic plan) es) all)

event_within : (setup : Setup) (n : ℕ) → KeepsSetup setup → setup.plan.update ≡ [] → IsWithin (length setup.plan.server) (event_at setup.events n)
event_within setup zero keeps none = tt
event_within setup (suc n) keeps none = all_at setup.plan setup.events n none keeps.events.each

pub step-within : (setup : Setup) (n count : ℕ) (e : Event) (events : List Event) → KeepsSetup setup → setup.plan.update ≡ [] → count ≡ length setup.plan.server
    → e ≡ event_at events n → events ≡ setup.events → IsWithin count e
step-within setup n count e events keeps none many is same =
    subst (λ k. IsWithin k e) (sym many)
    (subst (IsWithin (length setup.plan.server)) (sym (is ∙ ap (λ es. event_at es n) same)) (event_within setup n keeps none))
