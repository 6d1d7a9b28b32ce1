-- The messages of a source keep their order, and a dead server's inbox is empty.
use Rattle.std.proofs.Common.{◌≡◌, refl, sym, ◌∙◌, ap, subst, ℕ, zero, suc, ◌<◌, arith, Bool, true, false, cond, ℤ, List, [], ◌∷◌, ◌++◌, Option, Some, None, append_assoc, append-nil}
use Rattle.std.specs.Prelude.{slice_get, remove}
use Rattle.std.specs.List.{filter}
use Rattle.std.specs.Ordering.{int_eq}
use Rattle.std.proofs.lemmas.Bool.Decides.{Decides-int_eq}
use Rattle.std.proofs.lemmas.List.Elements.{filter-append}
use Rattle.lu_base.specs.declared.message.Message.{Message}
use Rattle.lu_base.specs.declared.trap.Trap.{Trap}
use Rattle.lu_base.specs.Sending.{Sent}
use Rattle.src_tree.specs.declared.value.Store.{Store}
use Rattle.mk_queue.specs.declared.hold.Hold.{Hold}
use Rattle.mk_queue.specs.Held.{next_message, IsNext, by_source}
use Rattle.mk_queue.proofs.NextMessage.{next_message-some}
use Rattle.sys_world.specs.declared.happened.Happened.{Happened}
use Rattle.sys_world.specs.declared.happened.Happened.TheVariants as happened
use Rattle.sys_world.specs.Setup.{ServerSetup, UpdateSetup, SystemSetup}
use Rattle.sys_world.specs.World.{State, Idle, Busy, Dead, Host, CellValue, start_host, start_cell}
use Rattle.sys_world.specs.Mail.{with_arrival, with_sent, with_history, with_trap, with_commit, without}
use Rattle.sys_world.specs.Attempt.{new_store}
use Rattle.sys_world.specs.Turn.{commit_by}
use Rattle.sys_laws.specs.Servers.{of_source, delivered, in_hand, IsOrdered, IsDeliveredInOrder, IsDeadOf}
use Rattle.sys_laws.proofs.Events.{IsKept, in_state}
use Rattle.sys_laws.proofs.Boots.{IsBooted}

pub record IsOrderly (s : ServerSetup) (h : Host) (c : CellValue) : Type 0 where
  pub dead : IsDeadOf c.trap h.state c.inbox
  pub answered : c.trap ≡ None → c.answered ≡ []
  pub ordered : IsOrdered h c

-- the deliveries of a longer history
delivered-more : (hs : List Happened) (m : Message) → delivered (hs ++ happened.Delivered m ∷ []) ≡ delivered hs ++ m ∷ []
delivered-more [] m = refl
delivered-more (happened.Delivered x ∷ hs) m = ap (λ ms. x ∷ ms) (delivered-more hs m)
delivered-more (happened.Committed u ∷ hs) m = delivered-more hs m

delivered-same : (hs : List Happened) (u : ℕ) → delivered (hs ++ happened.Committed u ∷ []) ≡ delivered hs
delivered-same [] u = refl
delivered-same (happened.Delivered x ∷ hs) u = ap (λ ms. x ∷ ms) (delivered-same hs u)
delivered-same (happened.Committed v ∷ hs) u = delivered-same hs u

-- a server that isn't dead has no trap in its cell
idle-lives : (t : Option Trap) (k : State) (inbox : List Message) (store : Store) → k ≡ Idle store → IsDeadOf t k inbox → t ≡ None
idle-lives None k inbox store e d = refl
idle-lives (Some trap) k inbox store e d = absurd (subst (λ k. IsDeadOf (Some trap) k inbox) e d)

busy-lives : (t : Option Trap) (k : State) (inbox : List Message) (store : Store) (m : Message) (given : ℕ) → k ≡ Busy store m given → IsDeadOf t k inbox → t ≡ None
busy-lives None k inbox store m given e d = refl
busy-lives (Some trap) k inbox store m given e d = absurd (subst (λ k. IsDeadOf (Some trap) k inbox) e d)

-- messages that arrive at a live server
arrived-dead : (t : Option Trap) (k : State) (inbox more : List Message) → t ≡ None → IsDeadOf t k inbox → IsDeadOf t k more
arrived-dead None (Idle store) inbox more e d = tt
arrived-dead None (Busy store m given) inbox more e d = tt
arrived-dead None (Dead trap) inbox more e d = d
arrived-dead (Some trap) k inbox more e d = absurd (cc)

-- the first message of its source in an inbox
same-source : (a b source : ℤ) → int_eq a source ≡ true → int_eq b source ≡ true → a ≡ b
same-source a b source ea eb = (Decides-int_eq a source).0 ea ∙ sym ((Decides-int_eq b source).0 eb)

swapped-tests : (a b : Bool) (x m : Message) (rest : List Message) → (a ≡ true → b ≡ true → ⊥)
    → cond a (x ∷ cond b (m ∷ rest) rest) (cond b (m ∷ rest) rest) ≡ cond b (m ∷ cond a (x ∷ rest) rest) (cond a (x ∷ rest) rest)
swapped-tests true true x m rest differ = absurd (differ refl refl)
swapped-tests true false x m rest differ = refl
swapped-tests false true x m rest differ = refl
swapped-tests false false x m rest differ = refl

module _ (source : ℤ) (m : Message) where
  swapped : (x : Message) (rest : List Message) → (x.source ≡ m.source → ⊥) → of_source source (x ∷ m ∷ rest) ≡ of_source source (m ∷ x ∷ rest)
  swapped x rest differ =
      swapped-tests (int_eq x.source source) (int_eq m.source source) x m (of_source source rest) (λ ea eb. differ (same-source x.source m.source source ea eb))

  pub taken-first : (inbox : List Message) (place : ℕ) → slice_get inbox place ≡ Some m
      → ((j : ℕ) (e : Message) → j < place → slice_get inbox j ≡ Some e → e.source ≡ m.source → ⊥) → of_source source inbox ≡ of_source source (m ∷ remove inbox place)
  taken-first [] place at first = absurd (cc)
  taken-first (x ∷ xs) zero at first = let is : x ≡ m = cc in ap (λ y. of_source source (y ∷ xs)) is
  taken-first (x ∷ xs) (suc place) at first =
      let later = taken-first xs place at (λ j e below get. first (suc j) e (omega arith) get) in
      ap (λ ms. cond (int_eq x.source source) (x ∷ ms) ms) later ∙ swapped x (remove xs place) (first 0 x (omega arith) refl)

-- the next message is the first of its source
next-first : (hold : Hold) (inbox : List Message) (place : ℕ) (m : Message) → next_message hold inbox ≡ Some place → slice_get inbox place ≡ Some m
    → (j : ℕ) (e : Message) → j < place → slice_get inbox j ≡ Some e → e.source ≡ m.source → ⊥
next-first hold inbox place m next at j e below get source =
    let is : IsNext hold inbox place = next_message-some hold inbox place next in
    is.free (by_source place j m e at below get source (is.before j below))

-- lists of all messages
module _ (source : ℤ) where
  shown : (xs ys : List Message) → xs ≡ ys → of_source source xs ≡ of_source source ys
  shown xs ys e = ap (of_source source) e

  arrived-order : (d h i a r : List Message) (m : Message) → a ≡ [] → of_source source (d ++ (h ++ (i ++ a))) ≡ of_source source r
      → of_source source (d ++ (h ++ ((i ++ m ∷ []) ++ a))) ≡ of_source source (r ++ m ∷ [])
  arrived-order d h i a r m none e =
      let p = λ (x : Message). int_eq x.source source in
      let lists : d ++ (h ++ ((i ++ m ∷ []) ++ a)) ≡ (d ++ (h ++ (i ++ a))) ++ m ∷ [] = rw none (simp (append-nil, append_assoc)) in
      shown (d ++ (h ++ ((i ++ m ∷ []) ++ a))) ((d ++ (h ++ (i ++ a))) ++ m ∷ []) lists
      ∙ (filter-append p (d ++ (h ++ (i ++ a))) (m ∷ []) ∙ (ap (λ ms. ms ++ filter p (m ∷ [])) e ∙ sym (filter-append p r (m ∷ []))))

  taken-order : (d i j a : List Message) (m : Message) → of_source source i ≡ of_source source (m ∷ j)
      → of_source source (d ++ ([] ++ (i ++ a))) ≡ of_source source (d ++ (m ∷ [] ++ (j ++ a)))
  taken-order d i j a m e =
      let p = λ (x : Message). int_eq x.source source in
      filter-append p d (i ++ a) ∙ (ap (λ ms. filter p d ++ ms) (filter-append p i a ∙ (ap (λ ms. ms ++ filter p a) e ∙ sym (filter-append p (m ∷ j) a)))
      ∙ sym (filter-append p d (m ∷ (j ++ a))))

-- what the edits of a server keep
module _ (s : ServerSetup) (h : Host) (c : CellValue) (p : IsOrderly s h c) where
  orderly-arrives : (m : Message) → c.trap ≡ None → IsOrderly s h (with_arrival m c)
  orderly-arrives m live = record {
    dead = arrived-dead c.trap h.state c.inbox (c.inbox ++ m ∷ []) live p.dead;
    answered = p.answered;
    ordered = λ source. arrived-order source (delivered c.history) (in_hand h.state) c.inbox c.answered c.arrived m (p.answered live) (p.ordered source);
  }

  -- the state known
  orderly-state : (k : State) → h.state ≡ k → (source : ℤ) → of_source source (delivered c.history ++ (in_hand k ++ (c.inbox ++ c.answered))) ≡ of_source source c.arrived
  orderly-state k e source = subst (λ k. of_source source (delivered c.history ++ (in_hand k ++ (c.inbox ++ c.answered))) ≡ of_source source c.arrived) e (p.ordered source)

  -- a dead inbox where the server lives
  living : (t : Option Trap) (k : State) (inbox more : List Message) → t ≡ None → IsDeadOf t h.state inbox → IsDeadOf None k more → IsDeadOf t k more
  living t k inbox more live d to = subst (λ t. IsDeadOf t k more) (sym live) to

  orderly-takes : (store : Store) (hold : Hold) (place : ℕ) (m : Message) → h.state ≡ Idle store → next_message hold c.inbox ≡ Some place → slice_get c.inbox place ≡ Some m
      → IsOrderly s (in_state (Busy store m 0) h) (without place c)
  orderly-takes store hold place m idle next at =
      let live = idle-lives c.trap h.state c.inbox store idle p.dead in record {
        dead = living c.trap (Busy store m 0) c.inbox (remove c.inbox place) live p.dead tt;
        answered = p.answered;
        ordered = λ source. sym (taken-order source (delivered c.history) c.inbox (remove c.inbox place) c.answered m (taken-first source m c.inbox place at (next-first hold c.inbox place m next at)))
            ∙ orderly-state (Idle store) idle source;
      }

  orderly-waits : (store : Store) (m : Message) (before given : ℕ) → h.state ≡ Busy store m before → IsOrderly s (in_state (Busy store m given) h) c
  orderly-waits store m before given busy =
      let live = busy-lives c.trap h.state c.inbox store m before busy p.dead in record {
        dead = living c.trap (Busy store m given) c.inbox c.inbox live p.dead tt;
        answered = p.answered;
        ordered = λ source. orderly-state (Busy store m before) busy source;
      }

  orderly-returns : (store next : Store) (m : Message) (given : ℕ) (sends : List Sent) → h.state ≡ Busy store m given
      → IsOrderly s (in_state (Idle next) h) (with_sent sends (with_history (happened.Delivered m) c))
  orderly-returns store next m given sends busy =
      let live = busy-lives c.trap h.state c.inbox store m given busy p.dead in
      let d = delivered c.history in
      let lists : delivered (c.history ++ happened.Delivered m ∷ []) ++ ([] ++ (c.inbox ++ c.answered)) ≡ d ++ (m ∷ [] ++ (c.inbox ++ c.answered)) =
      ap (λ ms. ms ++ (c.inbox ++ c.answered)) (delivered-more c.history m) ∙ append_assoc d (m ∷ []) (c.inbox ++ c.answered) in record {
        dead = living c.trap (Idle next) c.inbox c.inbox live p.dead tt;
        answered = p.answered;
        ordered = λ source. ap (of_source source) lists ∙ orderly-state (Busy store m given) busy source;
      }

  orderly-dies : (store : Store) (m : Message) (given : ℕ) (trap : Trap) → h.state ≡ Busy store m given
      → IsOrderly s (in_state (Dead trap) h) (with_trap trap (with_history (happened.Delivered m) c))
  orderly-dies store m given trap busy =
      let live = busy-lives c.trap h.state c.inbox store m given busy p.dead in
      let d = delivered c.history in
      let lists : delivered (c.history ++ happened.Delivered m ∷ []) ++ ([] ++ ([] ++ c.inbox)) ≡ d ++ (m ∷ [] ++ (c.inbox ++ c.answered)) =
      ap (λ ms. ms ++ c.inbox) (delivered-more c.history m) ∙ (append_assoc d (m ∷ []) c.inbox ∙ rw (p.answered live) (simp append-nil)) in record {
        dead = (refl, refl);
        answered = λ none. absurd (cc);
        ordered = λ source. ap (of_source source) lists ∙ orderly-state (Busy store m given) busy source;
      }

  orderly-commits : (store : Store) (number : ℕ) (u : UpdateSetup) → h.state ≡ Idle store → IsOrderly s (commit_by u (Idle store) h) (with_commit number u.to c)
  orderly-commits store number u idle =
      let live = idle-lives c.trap h.state c.inbox store idle p.dead in record {
        dead = living c.trap (Idle (new_store u store)) c.inbox c.inbox live p.dead tt;
        answered = p.answered;
        ordered = λ source. ap (λ ms. of_source source (ms ++ (c.inbox ++ c.answered))) (delivered-same c.history number) ∙ orderly-state (Idle store) idle source;
      }

  orderly-boots : (store next : Store) (sends : List Sent) → h.state ≡ Idle store → IsOrderly s (in_state (Idle next) h) (with_sent sends c)
  orderly-boots store next sends idle =
      let live = idle-lives c.trap h.state c.inbox store idle p.dead in record {
        dead = living c.trap (Idle next) c.inbox c.inbox live p.dead tt;
        answered = p.answered;
        ordered = λ source. orderly-state (Idle store) idle source;
      }

  orderly-dies-at-boot : (store : Store) (trap : Trap) → h.state ≡ Idle store → IsOrderly s (in_state (Dead trap) h) (with_trap trap c)
  orderly-dies-at-boot store trap idle =
      let live = idle-lives c.trap h.state c.inbox store idle p.dead in
      let d = delivered c.history in
      let lists : d ++ ([] ++ ([] ++ c.inbox)) ≡ d ++ ([] ++ (c.inbox ++ c.answered)) = rw (p.answered live) (simp append-nil) in record {
        dead = (refl, refl);
        answered = λ none. absurd (cc);
        ordered = λ source. ap (of_source source) lists ∙ orderly-state (Idle store) idle source;
      }

pub orderly-kept : (setup : SystemSetup) → IsKept setup IsOrderly
orderly-kept setup = record {
  arrives = λ s h d m live p. orderly-arrives s h d p m live;
  lives = λ s h c life p. record { dead = p.dead; answered = p.answered; ordered = p.ordered };
  takes = λ s h c store hold place m idle next at p. orderly-takes s h c p store hold place m idle next at;
  waits = λ s h c store m before given busy p. orderly-waits s h c p store m before given busy;
  returns = λ s h c store next m given sends used busy ends p. orderly-returns s h c p store next m given sends busy;
  dies = λ s h c store m given trap used busy dies p. orderly-dies s h c p store m given trap busy;
  commits = λ s h c store number u idle known p. orderly-commits s h c p store number u idle;
}

pub orderly-booted : IsBooted IsOrderly IsOrderly
orderly-booted = record {
  before = λ s h d m live p. orderly-arrives s h d p m live;
  after = λ s h d m live p. orderly-arrives s h d p m live;
  boots = λ s h c store next sends used idle none ends p. orderly-boots s h c p store next sends idle;
  dies = λ s h c store trap used idle none dies p. orderly-dies-at-boot s h c p store trap idle;
  stays = λ s h c isnt p. p;
}

pub orderly-starts : (s : ServerSetup) → IsOrderly s (start_host s) (start_cell s)
orderly-starts s = record { dead = tt; answered = λ none. refl; ordered = λ source. refl }

pub first-delivered : (h : Host) (c : CellValue) → IsOrdered h c → IsDeliveredInOrder c
first-delivered h c ordered source =
    let rest = in_hand h.state ++ (c.inbox ++ c.answered) in
    (of_source source rest, sym (ordered source) ∙ filter-append (λ m. int_eq m.source source) (delivered c.history) rest)
