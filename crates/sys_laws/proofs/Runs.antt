-- What holds of each server of every world that events reach.
use Rattle.std.proofs.Common.{◌≡◌, refl, subst, ℕ, zero, suc, Bool, true, false, ◌||◌, List, [], ◌∷◌, map, Option, Some}
use Rattle.std.specs.Prelude.{slice_get}
use Rattle.std.specs.List.{list_any}
use Rattle.sched_file.specs.declared.event.Event.{Event}
use Rattle.sched_file.specs.declared.event.Event.TheVariants as event
use Rattle.sys_world.specs.Setup.{ServerSetup, SystemSetup}
use Rattle.sys_world.specs.World.{Host, CellValue, SystemWorld, start_host, start_cell, start}
use Rattle.sys_world.specs.Steps.{world_step}
use Rattle.sys_world.specs.Transcript.{Met, first_met, later_met}
use Rattle.sys_laws.specs.Reached.{world_after, reached, is_boot}
use Rattle.sys_laws.specs.Laws.{IsServer}
use Rattle.sys_laws.proofs.Each.{At, nobody, somebody, found, holds_of}
use Rattle.sys_laws.proofs.Events.{IsKept, Holds, event-holds}
use Rattle.sys_laws.proofs.Boots.{IsBooted, boot-holds}

start-each : (P : ServerSetup → Host → CellValue → Type 0) → ((s : ServerSetup) → P s (start_host s) (start_cell s)) → (ss : List ServerSetup) (j : ℕ)
    → At P (slice_get ss j) (slice_get (map start_host ss) j) (slice_get (map start_cell ss) j)
start-each P each [] j = nobody
start-each P each (s ∷ ss) zero = somebody s (start_host s) (start_cell s) (each s)
start-each P each (s ∷ ss) (suc j) = start-each P each ss j

or_left : (a b : Bool) → (a || b) ≡ false → a ≡ false
or_left true b e = e
or_left false b e = refl

or_right : (a b : Bool) → (a || b) ≡ false → b ≡ false
or_right true b e = absurd (cc)
or_right false b e = e

module _ (setup : SystemSetup) (P : ServerSetup → Host → CellValue → Type 0) (kept : IsKept setup P) where
  -- events, each of which may be Boot
  after-holds : IsBooted P P → (events : List Event) (ks : Met) (w : SystemWorld) → Holds setup P kept w → Holds setup P kept (world_after setup ks events w)
  after-holds by [] ks w each = each
  after-holds by (e ∷ es) ks w each =
      let cleared : SystemWorld = record w { told = [] } in
      after-holds by es (later_met ks) (world_step setup w e (first_met ks))
      (event-holds setup P kept (first_met ks) e cleared each (λ _. boot-holds setup.servers P P by cleared each))

  -- events none of which is Boot
  bootless-holds : (events : List Event) (ks : Met) (w : SystemWorld) → list_any is_boot events ≡ false → Holds setup P kept w → Holds setup P kept (world_after setup ks events w)
  bootless-holds [] ks w none each = each
  bootless-holds (e ∷ es) ks w none each =
      let cleared : SystemWorld = record w { told = [] } in
      let isnt : is_boot e ≡ false = or_left (is_boot e) (list_any is_boot es) none in
      bootless-holds es (later_met ks) (world_step setup w e (first_met ks)) (or_right (is_boot e) (list_any is_boot es) none)
      (event-holds setup P kept (first_met ks) e cleared each (λ is. absurd (cc)))

  -- of a server of a world that any events reach
  pub in-reached : IsBooted P P → ((s : ServerSetup) → P s (start_host s) (start_cell s)) → (ks : Met) (events : List Event) (place : ℕ) (h : Host) (c : CellValue)
      → IsServer (reached setup ks events) place h c → (s : ServerSetup) × P s h c
  in-reached by begins ks events place h c is =
      let each = after-holds by events ks (start setup) (start-each P begins setup.servers) in
      let there = found P h (each place) is.host in
      (there.server, holds_of P there.server h c (each place) there.is_server is.host is.cell)

  -- of the server that the setup has at a place
  pub at-place : IsBooted P P → ((s : ServerSetup) → P s (start_host s) (start_cell s)) → (ks : Met) (events : List Event) (place : ℕ) (s : ServerSetup)
      → slice_get setup.servers place ≡ Some s → (h : Host) × (c : CellValue) × IsServer (reached setup ks events) place h c × P s h c
  at-place by begins ks events place s at =
      let w = reached setup ks events in
      let each = after-holds by events ks (start setup) (start-each P begins setup.servers) in
      there (each place) at refl refl
    where
      there : {os : Option ServerSetup} {oh : Option Host} {oc : Option CellValue} → At P os oh oc → os ≡ Some s
          → slice_get (reached setup ks events).hosts place ≡ oh → slice_get (reached setup ks events).cells place ≡ oc
          → (h : Host) × (c : CellValue) × IsServer (reached setup ks events) place h c × P s h c
      there nobody e eh ec = absurd (cc)
      there (somebody t h c p) e eh ec = let is : t ≡ s = cc in (h, c, record { host = eh; cell = ec }, subst (λ s. P s h c) is p)

  -- of the server of a world that one Boot and further events reach
  pub in-booted : (Q : ServerSetup → Host → CellValue → Type 0) → IsBooted Q P → ((s : ServerSetup) → Q s (start_host s) (start_cell s)) → (ks : Met) (events : List Event)
      → list_any is_boot events ≡ false → (place : ℕ) (s : ServerSetup) (h : Host) (c : CellValue) → slice_get setup.servers place ≡ Some s
      → IsServer (reached setup ks (event.Boot ∷ events)) place h c → P s h c
  in-booted Q by begins ks events none place s h c at is =
      let first = boot-holds setup.servers Q P by (start setup) (start-each Q begins setup.servers) in
      let each = bootless-holds events (later_met ks) (world_step setup (start setup) event.Boot (first_met ks)) none first in
      holds_of P s h c (each place) at is.host is.cell
