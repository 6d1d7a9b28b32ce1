-- The worlds that events reach.
use Rattle.std.specs.Prelude.{Bool, true, false, List, [], ◌∷◌}
use Rattle.sched_file.specs.declared.event.Event.{Event}
use Rattle.sched_file.specs.declared.event.Event.TheVariants as event
use Rattle.sys_world.specs.Setup.{SystemSetup}
use Rattle.sys_world.specs.World.{SystemWorld, start}
use Rattle.sys_world.specs.Steps.{world_step}
use Rattle.sys_world.specs.Transcript.{Met, first_met, later_met}

-- the world after events, where memory was refused in those units
abbrev pub world_after : SystemSetup → Met → List Event → SystemWorld → SystemWorld
world_after setup ks [] w = w
world_after setup ks (e ∷ es) w = world_after setup (later_met ks) es (world_step setup w e (first_met ks))

-- the world that events reach from the start
abbrev pub reached : SystemSetup → Met → List Event → SystemWorld
reached setup ks events = world_after setup ks events (start setup)

abbrev pub is_boot : Event → Bool
is_boot event.Boot = true
is_boot (event.Send client server m) = false
is_boot (event.Run server ticks) = false
is_boot (event.Update u) = false
is_boot (event.Work u units) = false
is_boot (event.Commit u) = false
is_boot (event.Abort u) = false
is_boot (event.Dump server) = false
is_boot event.Finish = false
