-- A server's history, replayed from the boot of its first program.
use Rattle.std.specs.Prelude.{◌≡◌, List, [], ◌∷◌, ◌++◌, Option, Some, None, slice_get}
use Rattle.lu_base.specs.declared.trap.Trap.{Trap}
use Rattle.lu_base.specs.declared.world.World.{World}
use Rattle.lu_base.specs.Sending.{Sent}
use Rattle.src_tree.specs.declared.program.Program.{Program}
use Rattle.src_tree.specs.declared.value.Store.{Store}
use Rattle.src_meaning.specs.Delivery.{Delivered, Ends, Dies, deliver, boot}
use Rattle.sys_world.specs.declared.happened.Happened.{Happened}
use Rattle.sys_world.specs.declared.happened.Happened.TheVariants as happened
use Rattle.sys_world.specs.Setup.{ServerSetup, UpdateSetup, SystemSetup}
use Rattle.sys_world.specs.World.{State, Idle, Busy, Dead, Host, CellValue}
use Rattle.sys_world.specs.Attempt.{new_store}

-- a program with its store, or death
pub data Fate : Type 0 where
  Lives : (program : Program) (store : Store) → Fate
  Died : (trap : Trap) → Fate

-- what a history leaves, and what was sent
pub record Replayed : Type 0 where
  pub fate : Fate
  pub sent : List Sent

abbrev pub after_delivery : Program → List Sent → Delivered → Replayed
after_delivery p sent (Ends store sends used) = record { fate = Lives p store; sent = sent ++ sends }
after_delivery p sent (Dies trap used) = record { fate = Died trap; sent = sent }

abbrev pub after_commit : Store → Option UpdateSetup → Replayed → Replayed
after_commit store None r = r
after_commit store (Some u) r = record { fate = Lives u.new_program (new_store u store); sent = r.sent }

abbrev pub after_happened : SystemSetup → World → Happened → Fate → Replayed → Replayed
after_happened setup world (happened.Delivered m) (Lives p store) r = after_delivery p r.sent (deliver p world store m)
after_happened setup world (happened.Committed u) (Lives p store) r = after_commit store (slice_get setup.updates u) r
after_happened setup world h (Died trap) r = r

abbrev pub replay_from : SystemSetup → World → List Happened → Replayed → Replayed
replay_from setup world [] r = r
replay_from setup world (h ∷ hs) r = replay_from setup world hs (after_happened setup world h r.fate r)

abbrev pub replay : SystemSetup → ServerSetup → List Happened → Replayed
replay setup s history = replay_from setup s.world history (after_delivery s.program [] (boot s.program s.world))

-- a server is where that leads: idle with the store, busy from it, or dead
abbrev pub IsAt : Fate → Program → State → Type 0
IsAt (Lives p store) q (Idle at) = (q ≡ p) × (at ≡ store)
IsAt (Lives p store) q (Busy before m given) = (q ≡ p) × (before ≡ store)
IsAt (Died trap) q (Dead by) = by ≡ trap
IsAt (Lives p store) q (Dead by) = ⊥
IsAt (Died trap) q (Idle at) = ⊥
IsAt (Died trap) q (Busy before m given) = ⊥

pub record IsReplayed (setup : SystemSetup) (s : ServerSetup) (h : Host) (c : CellValue) : Type 0 where
  pub world : h.world ≡ s.world
  pub at : IsAt (replay setup s c.history).fate h.program h.state
  pub sent : c.sent ≡ (replay setup s c.history).sent
