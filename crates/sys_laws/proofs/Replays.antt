-- A server is where its history leads.
use Rattle.std.proofs.Common.{◌≡◌, refl, sym, ◌∙◌, ap, subst, ℕ, List, [], ◌∷◌, ◌++◌, Some, None}
use Rattle.std.specs.Prelude.{slice_get}
use Rattle.lu_base.specs.declared.message.Message.{Message}
use Rattle.lu_base.specs.declared.trap.Trap.{Trap}
use Rattle.lu_base.specs.declared.world.World.{World}
use Rattle.lu_base.specs.Sending.{Sent}
use Rattle.src_tree.specs.declared.program.Program.{Program}
use Rattle.src_tree.specs.declared.value.Store.{Store}
use Rattle.src_meaning.specs.Initial.{initial_store}
use Rattle.src_meaning.specs.Delivery.{Delivered, Ends, Dies, deliver, boot}
use Rattle.sys_world.specs.declared.happened.Happened.{Happened}
use Rattle.sys_world.specs.declared.happened.Happened.TheVariants as happened
use Rattle.sys_world.specs.Setup.{ServerSetup, UpdateSetup, SystemSetup}
use Rattle.sys_world.specs.World.{State, Idle, Busy, Dead, Host, CellValue, start_host, start_cell}
use Rattle.sys_world.specs.Mail.{with_sent, with_history, with_trap, with_commit, without}
use Rattle.sys_world.specs.Attempt.{new_store}
use Rattle.sys_world.specs.Turn.{commit_by}
use Rattle.sys_world.specs.Replay.{Fate, Lives, Died, Replayed, after_delivery, after_commit, after_happened, replay_from, replay, IsAt, IsReplayed}
use Rattle.sys_laws.proofs.Events.{IsKept, in_state}
use Rattle.sys_laws.proofs.Boots.{IsBooted}

-- before Boot
pub record IsFresh (s : ServerSetup) (h : Host) (c : CellValue) : Type 0 where
  pub world : h.world ≡ s.world
  pub program : h.program ≡ s.program
  pub idle : h.state ≡ Idle (initial_store s.program)
  pub life : h.life ≡ None
  pub sent : c.sent ≡ []
  pub history : c.history ≡ []

-- the replay of a longer history
replay_from-more : (setup : SystemSetup) (world : World) (hs : List Happened) (x : Happened) (r : Replayed)
    → replay_from setup world (hs ++ x ∷ []) r ≡ after_happened setup world x (replay_from setup world hs r).fate (replay_from setup world hs r)
replay_from-more setup world [] x r = refl
replay_from-more setup world (h ∷ hs) x r = replay_from-more setup world hs x (after_happened setup world h r.fate r)

-- the fate of a server that lives
idle-at : (f : Fate) (q : Program) (k : State) (store : Store) → k ≡ Idle store → IsAt f q k → f ≡ Lives q store
idle-at (Lives p st) q (Idle at) store e is = let same : at ≡ store = cc in ap (λ p. Lives p st) (sym is.0) ∙ ap (Lives q) (sym is.1 ∙ same)
idle-at (Lives p st) q (Busy before m given) store e is = absurd (cc)
idle-at (Lives p st) q (Dead by) store e is = absurd (cc)
idle-at (Died trap) q k store e is = absurd (subst (λ k. IsAt (Died trap) q k) e is)

busy-at : (f : Fate) (q : Program) (k : State) (store : Store) (m : Message) (given : ℕ) → k ≡ Busy store m given → IsAt f q k → f ≡ Lives q store
busy-at (Lives p st) q (Busy before n g) store m given e is = let same : before ≡ store = cc in ap (λ p. Lives p st) (sym is.0) ∙ ap (Lives q) (sym is.1 ∙ same)
busy-at (Lives p st) q (Idle at) store m given e is = absurd (cc)
busy-at (Lives p st) q (Dead by) store m given e is = absurd (cc)
busy-at (Died trap) q k store m given e is = absurd (subst (λ k. IsAt (Died trap) q k) e is)

module _ (setup : SystemSetup) (s : ServerSetup) (h : Host) (c : CellValue) (p : IsReplayed setup s h c) where
  abbrev so_far : Replayed
  so_far = replay setup s c.history

  -- one thing more in the history
  happens : (x : Happened) (f : Fate) (r : Replayed) → so_far.fate ≡ f → after_happened setup s.world x f so_far ≡ r → replay setup s (c.history ++ x ∷ []) ≡ r
  happens x f r is after =
      replay_from-more setup s.world c.history x (after_delivery s.program [] (boot s.program s.world)) ∙ (ap (λ f. after_happened setup s.world x f so_far) is ∙ after)

  -- where a history leads from another
  leads : (k : Host) (d : CellValue) (r : Replayed) → replay setup s d.history ≡ r → k.world ≡ s.world → IsAt r.fate k.program k.state → d.sent ≡ r.sent → IsReplayed setup s k d
  leads k d r is world at sent = record {
    world = world;
    at = subst (λ r. IsAt r.fate k.program k.state) (sym is) at;
    sent = sent ∙ ap (λ (r : Replayed). r.sent) (sym is);
  }

  delivers : (store : Store) (m : Message) (given : ℕ) (d : Delivered) → h.state ≡ Busy store m given → deliver h.program h.world store m ≡ d
      → replay setup s (c.history ++ happened.Delivered m ∷ []) ≡ after_delivery h.program so_far.sent d
  delivers store m given d busy is =
      happens (happened.Delivered m) (Lives h.program store) (after_delivery h.program so_far.sent d) (busy-at so_far.fate h.program h.state store m given busy p.at)
      (ap (after_delivery h.program so_far.sent) (ap (λ w. deliver h.program w store m) (sym p.world) ∙ is))

  replayed-returns : (store next : Store) (m : Message) (given : ℕ) (sends : List Sent) (used : ℕ) → h.state ≡ Busy store m given
      → deliver h.program h.world store m ≡ Ends next sends used → IsReplayed setup s (in_state (Idle next) h) (with_sent sends (with_history (happened.Delivered m) c))
  replayed-returns store next m given sends used busy ends =
      leads (in_state (Idle next) h) (with_sent sends (with_history (happened.Delivered m) c)) (after_delivery h.program so_far.sent (Ends next sends used))
      (delivers store m given (Ends next sends used) busy ends) p.world (refl, refl) (ap (λ x. x ++ sends) p.sent)

  replayed-dies : (store : Store) (m : Message) (given : ℕ) (trap : Trap) (used : ℕ) → h.state ≡ Busy store m given
      → deliver h.program h.world store m ≡ Dies trap used → IsReplayed setup s (in_state (Dead trap) h) (with_trap trap (with_history (happened.Delivered m) c))
  replayed-dies store m given trap used busy dies =
      leads (in_state (Dead trap) h) (with_trap trap (with_history (happened.Delivered m) c)) (after_delivery h.program so_far.sent (Dies trap used))
      (delivers store m given (Dies trap used) busy dies) p.world refl p.sent

  replayed-commits : (store : Store) (number : ℕ) (u : UpdateSetup) → h.state ≡ Idle store → slice_get setup.updates number ≡ Some u
      → IsReplayed setup s (commit_by u (Idle store) h) (with_commit number u.to c)
  replayed-commits store number u idle known =
      let r : Replayed = record { fate = Lives u.new_program (new_store u store); sent = so_far.sent } in
      leads (commit_by u (Idle store) h) (with_commit number u.to c) r
      (happens (happened.Committed number) (Lives h.program store) r (idle-at so_far.fate h.program h.state store idle p.at) (ap (λ o. after_commit store o so_far) known))
      p.world (refl, refl) p.sent

  replayed-takes : (store : Store) (place : ℕ) (m : Message) → h.state ≡ Idle store → IsReplayed setup s (in_state (Busy store m 0) h) (without place c)
  replayed-takes store place m idle = record {
    world = p.world;
    at = subst (λ f. IsAt f h.program (Busy store m 0)) (sym (idle-at so_far.fate h.program h.state store idle p.at)) (refl, refl);
    sent = p.sent;
  }

  replayed-waits : (store : Store) (m : Message) (before given : ℕ) → h.state ≡ Busy store m before → IsReplayed setup s (in_state (Busy store m given) h) c
  replayed-waits store m before given busy = record {
    world = p.world;
    at = subst (λ f. IsAt f h.program (Busy store m given)) (sym (busy-at so_far.fate h.program h.state store m before busy p.at)) (refl, refl);
    sent = p.sent;
  }

pub replayed-kept : (setup : SystemSetup) → IsKept setup (IsReplayed setup)
replayed-kept setup = record {
  arrives = λ s h d m live p. record { world = p.world; at = p.at; sent = p.sent };
  lives = λ s h c life p. record { world = p.world; at = p.at; sent = p.sent };
  takes = λ s h c store hold place m idle next at p. replayed-takes setup s h c p store place m idle;
  waits = λ s h c store m before given busy p. replayed-waits setup s h c p store m before given busy;
  returns = λ s h c store next m given sends used busy ends p. replayed-returns setup s h c p store next m given sends used busy ends;
  dies = λ s h c store m given trap used busy dies p. replayed-dies setup s h c p store m given trap used busy dies;
  commits = λ s h c store number u idle known p. replayed-commits setup s h c p store number u idle known;
}

-- the boot of a fresh server
module _ (setup : SystemSetup) (s : ServerSetup) (h : Host) (c : CellValue) (p : IsFresh s h c) where
  first-replay : (d : Delivered) → boot h.program h.world ≡ d → replay setup s c.history ≡ after_delivery h.program [] d
  first-replay d is =
      ap (replay setup s) p.history
      ∙ (ap (λ q. after_delivery q [] (boot q s.world)) (sym p.program) ∙ ap (after_delivery h.program []) (ap (boot h.program) (sym p.world) ∙ is))

  fresh-boots : (next : Store) (sends : List Sent) (used : ℕ) → boot h.program h.world ≡ Ends next sends used → IsReplayed setup s (in_state (Idle next) h) (with_sent sends c)
  fresh-boots next sends used ends =
      let r = after_delivery h.program [] (Ends next sends used) in
      let is = first-replay (Ends next sends used) ends in record {
        world = p.world;
        at = subst (λ r. IsAt r.fate h.program (Idle next)) (sym is) (refl, refl);
        sent = ap (λ x. x ++ sends) p.sent ∙ ap (λ (r : Replayed). r.sent) (sym is);
      }

  fresh-dies : (trap : Trap) (used : ℕ) → boot h.program h.world ≡ Dies trap used → IsReplayed setup s (in_state (Dead trap) h) (with_trap trap c)
  fresh-dies trap used dies =
      let is = first-replay (Dies trap used) dies in record {
        world = p.world;
        at = subst (λ r. IsAt r.fate h.program (Dead trap)) (sym is) refl;
        sent = p.sent ∙ ap (λ (r : Replayed). r.sent) (sym is);
      }

pub fresh-booted : (setup : SystemSetup) → IsBooted IsFresh (IsReplayed setup)
fresh-booted setup = record {
  before = λ s h d m live p. record { world = p.world; program = p.program; idle = p.idle; life = p.life; sent = p.sent; history = p.history };
  after = λ s h d m live p. record { world = p.world; at = p.at; sent = p.sent };
  boots = λ s h c store next sends used idle none ends p. fresh-boots setup s h c p next sends used ends;
  dies = λ s h c store trap used idle none dies p. fresh-dies setup s h c p trap used dies;
  stays = λ s h c isnt p. absurd (isnt (initial_store s.program) p.idle p.life);
}

pub starts-fresh : (s : ServerSetup) → IsFresh s (start_host s) (start_cell s)
starts-fresh s = record { world = refl; program = refl; idle = refl; life = refl; sent = refl; history = refl }
