-- From what an instruction does to what its step answers.
use Rattle.std.proofs.Common.{◌≡◌, ◌∙◌, refl, ap, sym, subst, true, false, cond, ℕ, zero, suc, ◌+◌, ◌-◌, ◌<◌, ◌≤◌, List, [], ◌∷◌, length, map, drop, Option, Some, None, arith, nat_lt}
use Rattle.std.proofs.lemmas.Bool.Decides.{nat_tests}
use Rattle.std.proofs.lemmas.List.{length-map, length-drop}
use Rattle.lu_base.specs.declared.limits.TheConstants.{FRAMES}
use Rattle.lu_base.specs.Sending.{Sent}
use Rattle.lu_base.specs.declared.trap.Trap.{Trap}
use Rattle.lu_base.specs.declared.trap.Trap.TheVariants.{BadCode, Depth}
use Rattle.c_types.specs.declared.parts.Signature.{Signature}
use Rattle.bm_mem.specs.Content.{Content}
use Rattle.bm_objects.specs.declared.row.Row.{Row}
use Rattle.bm_code.specs.declared.code.MachineFunction.{MachineFunction}
use Rattle.bm_code.specs.Process.{Running, Process}
use Rattle.bm_code.specs.Frames.{moved}
use Rattle.bm_code.specs.Transfers.{Effect, Next, Spends, trap, running, pop_words, entered, has_room, enter}
use Rattle.bm_frame.specs.declared.frame.Frame.{Frame as FrameParts}
use Rattle.bm_frame.specs.View.{frame_of}
use Rattle.bm_run.specs.declared.calls.Mode.TheVariants as M
use Rattle.bm_run.specs.declared.calls.Calls.{Calls}
use Rattle.bm_code.specs.declared.stop.Stop.{Stop}
use Rattle.bm_code.specs.declared.stop.Stop.TheVariants as S
use Rattle.bm_run.specs.View.{activity_in, process_in}
use Rattle.bm_run.specs.Spent.{IsSpent, ended}
use Rattle.bm_run.specs.Opened.{IsEntered}
use Rattle.bm_run.specs.Came.{Came}

some_in : {A : Type 0} (a b : A) → Some a ≡ Some b → a ≡ b
some_in a b h = cc

pub pop_length : (n : ℕ) (stack words args rest : List ℕ) → pop_words n stack words ≡ Some (args, rest) → length rest + n ≡ length stack
pop_length zero stack words args rest e =
    let same : stack ≡ rest = ap (λ q. q.1) (some_in (words, stack) (args, rest) e) in omega (arith, ap length same)
pop_length (suc n) [] words args rest e = absurd (cc)
pop_length (suc n) (v ∷ stack) words args rest e = omega (arith, pop_length n stack (v ∷ words) args rest e)

pub pop_none : (n : ℕ) (stack words : List ℕ) → length stack < n → pop_words n stack words ≡ None
pop_none zero stack words lt = absurd (omega arith)
pop_none (suc n) [] words lt = refl
pop_none (suc n) (v ∷ stack) words lt = pop_none n stack (v ∷ words) (omega (arith, lt))

pub record Popped (n : ℕ) (stack words : List ℕ) : Type 0 where
  pub args : List ℕ
  pub rest : List ℕ
  pub is : pop_words n stack words ≡ Some (args, rest)

pub pop_some : (n : ℕ) (stack words : List ℕ) → n ≤ length stack → Popped n stack words
pop_some zero stack words le = record { args = words; rest = stack; is = refl }
pop_some (suc n) [] words le = absurd (omega (arith, le))
pop_some (suc n) (v ∷ stack) words le =
    let s = pop_some n stack (v ∷ words) (omega (arith, le)) in record { args = s.args; rest = s.rest; is = s.is }

lt_true : (a b : ℕ) → a < b → nat_lt a b ≡ true
lt_true a b h = grind (arith, nat_tests)

lt_false : (a b : ℕ) → b ≤ a → nat_lt a b ≡ false
lt_false a b h = grind (arith, nat_tests)

module _ (m : Content) (rows : List Row) (next : ℕ) (outbox : List Sent) where
  abbrev pub P : Calls → Process
  P c = process_in m rows next outbox c

  pub came_trapped : (c d : Calls) (e : Effect) (t : Trap) (r : Option Stop) (left : ℕ) → e ≡ trap t (P c) → r ≡ Some (S.Trapped t) → d ≡ ended (Some t) c → Came e (P c) left r left (P d)
  came_trapped c d e t r left is result same =
      subst (λ e. Came e (P c) left r left (P d)) (sym is) (subst (λ r. Came (trap t (P c)) (P c) left r left (P d)) (sym result) (refl, ap P same))

  pub came_stopped : (c d : Calls) (e : Effect) (x : Process) (s : Stop) (left left' : ℕ) → e ≡ Spends x → IsSpent c left (Some s) d left' → Came e (P c) left (Some s) left' (P d)
  came_stopped c d e x s left left' is h = subst (λ e. Came e (P c) left (Some s) left' (P d)) (sym is) (by_stop s h)
    where
      by_stop : (s : Stop) → IsSpent c left (Some s) d left' → Came (Spends x) (P c) left (Some s) left' (P d)
      by_stop (S.Returned v) h = absurd h
      by_stop (S.Trapped t) h = (h.0, h.1, ap P h.2)
      by_stop S.Paused h = (h.0, h.1, ap P h.2)
      by_stop S.Memory h = absurd h

  pub came_next : (p : Process) (e : Effect) (x q : Process) (left : ℕ) → e ≡ Next x → q ≡ x → Came e p left None left q
  came_next p e x q left is same = subst (λ e. Came e p left None left q) (sym is) (refl, same)

  pub came_spent : (c b : Calls) (e : Effect) (x : Process) (left left' : ℕ) (q : Process) → e ≡ Spends x → IsSpent c left None b left' → q ≡ record x { spare = b.spare } → Came e (P c) left None left' q
  came_spent c b e x left left' q is h same =
      let spare : q.spare ≡ b.spare = ap (λ p. p.spare) same in
      subst (λ e. Came e (P c) left None left' q) (sym is) (record { spare = h.0 ∙ ap suc (sym spare); ticks = h.1; process = same ∙ ap (λ n. record x { spare = n }) (sym spare) })

  -- a function that is entered
  module _ (f : MachineFunction) (c : Calls) (g : ℕ) (d : MachineFunction) (s : Signature) (count below : ℕ) (runs : c.mode ≡ M.Running) (args rest : List ℕ) (popped : pop_words count c.frame.stack [] ≡ Some (args, rest)) where
    abbrev left_words : List ℕ
    left_words = drop below rest

    abbrev entry : Process
    entry = running (P c) (entered d g args) (moved (frame_of c.frame) (c.frame.place + 1) left_words ∷ map frame_of c.callers)

    abbrev effect : Effect
    effect = enter f (P c) (frame_of c.frame) (map frame_of c.callers) g d s (args, left_words)

    pub left_long : count + below ≤ length c.frame.stack → length left_words ≡ length c.frame.stack - count - below
    left_long le = omega (arith, length-drop below rest, pop_length count c.frame.stack [] args rest popped)

    pub no_room : false ≡ has_room f s.result left_words → effect ≡ trap BadCode (P c)
    no_room e = ap (λ b. cond b (cond (nat_lt (length (map frame_of c.callers) + 1) FRAMES) (Spends entry) (trap Depth (P c))) (trap BadCode (P c))) (sym e)

    with_room : true ≡ has_room f s.result left_words → effect ≡ cond (nat_lt (length (map frame_of c.callers) + 1) FRAMES) (Spends entry) (trap Depth (P c))
    with_room e = ap (λ b. cond b (cond (nat_lt (length (map frame_of c.callers) + 1) FRAMES) (Spends entry) (trap Depth (P c))) (trap BadCode (P c))) (sym e)

    pub too_deep : true ≡ has_room f s.result left_words → FRAMES ≤ length c.callers + 1 → effect ≡ trap Depth (P c)
    too_deep e le = with_room e ∙ ap (λ b. cond b (Spends entry) (trap Depth (P c))) (lt_false (length (map frame_of c.callers) + 1) FRAMES (omega (arith, le, length-map c.callers frame_of)))

    pub enters : true ≡ has_room f s.result left_words → length c.callers + 1 < FRAMES → effect ≡ Spends entry
    enters e lt = with_room e ∙ ap (λ b. cond b (Spends entry) (trap Depth (P c))) (lt_true (length (map frame_of c.callers) + 1) FRAMES (omega (arith, lt, length-map c.callers frame_of)))

    pub entered_process : (b : Calls) (left left' : ℕ) → IsSpent c left None b left' → (frame : FrameParts) (callers : List FrameParts) → IsEntered b.frame frame b.callers callers g d.locals count below → process_in m rows next outbox (record { mode = b.mode; frame = frame; callers = callers; spare = b.spare }) ≡ record entry { spare = b.spare }
    entered_process b left left' h frame callers e =
        let o = e.opened in
        let same_frame : b.frame ≡ c.frame = ap (λ x. x.frame) h.2 in
        let same_callers : b.callers ≡ c.callers = ap (λ x. x.callers) h.2 in
        let mode : b.mode ≡ M.Running = ap (λ x. x.mode) h.2 ∙ runs in
        let one : (o.args, o.rest) ≡ (args, rest) = some_in (o.args, o.rest) (args, rest) (sym o.taken ∙ (ap (λ f. pop_words count f.stack []) same_frame ∙ popped)) in
        let new : frame_of frame ≡ entered d g args = o.entry ∙ ap (λ q. entered d g q.0) one in
        let waits : frame_of e.caller ≡ moved (frame_of c.frame) (c.frame.place + 1) left_words = o.left ∙ (ap (λ q. moved (frame_of b.frame) (b.frame.place + 1) (drop below q.1)) one ∙ ap (λ f. moved (frame_of f) (f.place + 1) left_words) same_frame) in
        let below_is : map frame_of callers ≡ moved (frame_of c.frame) (c.frame.place + 1) left_words ∷ map frame_of c.callers = ap (map frame_of) e.waits ∙ (ap (λ f. f ∷ map frame_of b.callers) waits ∙ ap (λ l. moved (frame_of c.frame) (c.frame.place + 1) left_words ∷ map frame_of l) same_callers) in
        ap (λ k. record { content = m; rows = rows; next = next; outbox = outbox; activity = activity_in k (frame_of frame) (map frame_of callers); spare = b.spare }) mode
        ∙ (ap (λ f. record { content = m; rows = rows; next = next; outbox = outbox; activity = Running f (map frame_of callers); spare = b.spare }) new
        ∙ ap (λ l. record { content = m; rows = rows; next = next; outbox = outbox; activity = Running (entered d g args) l; spare = b.spare }) below_is)
