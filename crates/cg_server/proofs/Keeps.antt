-- What each instruction keeps: the ticks that it doesn't spend, and the rows of the two messages. No call runs after its end.
use Rattle.std.proofs.Common.{◌≡◌, ◌∙◌, refl, ap, sym, Bool, true, false, ◌&&◌, cond, ℕ, zero, suc, ◌+◌, List, [], ◌∷◌, ◌++◌, length, Option, Some, None, Result, Ok, Err, arith, nat_lt, nat_le, nat_eq}
use Rattle.std.specs.Prelude.{slice_get, ℤ, not, is_some, find, ◌%◌, ◌^◌, if◌then◌else◌}
use Rattle.std.specs.Int.{w32, cast_signed}
use Rattle.std.specs.Option.{option_map_or}
use Rattle.std.proofs.lemmas.Bool.Decides.{nat_tests}
use Rattle.lu_base.specs.declared.limits.TheConstants.{FRAMES, MESSAGE_BYTES}
use Rattle.lu_base.specs.declared.trap.Trap.{Trap}
use Rattle.lu_base.specs.declared.trap.Trap.TheVariants.{BadCode, BadFree, Depth, Panic as Panics}
use Rattle.lu_base.specs.declared.world.World.{World}
use Rattle.c_types.specs.declared.parts.Signature.{Signature}
use Rattle.src_meaning.proofs.LayoutLengths.{and_left, and_right}
use Rattle.bm_mem.specs.Content.{Content}
use Rattle.bm_objects.specs.declared.row.Row.{Row}
use Rattle.bm_objects.specs.Table.{reaches, killed_at, killed}
use Rattle.bm_alu.specs.Words.{combined, transformed, signed}
use Rattle.bm_code.specs.declared.code.MachineCode.{MachineCode}
use Rattle.bm_code.specs.declared.code.MachineFunction.{MachineFunction}
use Rattle.bm_code.specs.declared.operation.Operation.{Operation}
use Rattle.bm_code.specs.declared.operation.Operation.TheVariants as O
use Rattle.bm_code.specs.declared.operation.Transfer.{Transfer}
use Rattle.bm_code.specs.declared.operation.Transfer.TheVariants as T
use Rattle.bm_code.specs.declared.operation.Service.{Service}
use Rattle.bm_code.specs.declared.operation.Service.TheVariants as V
use Rattle.bm_code.specs.Kinds.{operation_of}
use Rattle.bm_code.specs.Process.{Frame, Activity, Idle, Starting, Running, Process}
use Rattle.bm_code.specs.Calls.{is_running}
use Rattle.bm_code.specs.Frames.{some_or, on_top, moved, advanced, stacked, on_word, on_words}
use Rattle.bm_code.specs.Pointers.{pointed, read, written}
use Rattle.bm_code.specs.Transfers.{Effect, Next, Spends, Returns, Traps, trap, running, jump, is_place_of, pop_words, entered, has_room, enter, call, call_word, give_back, on_result, transferred}
use Rattle.bm_code.specs.Services.{is_live_heap, is_heap_start, new_row, can_allocate, with_object, allocate, is_heap_object, without_object, free, message_bytes, send, served}
use Rattle.bm_code.specs.Step.{on_frame, on_memory, act, fetched, step_in, step_instruction}
use Rattle.cg_server.specs.Messages.{is_message_row, has_messages}

abbrev pub KeepsMessages : List Row → List Row → Type 0
KeepsMessages before after = has_messages before ≡ true → has_messages after ≡ true

-- one more object
pub added : (rows : List Row) (r : Row) → KeepsMessages rows (rows ++ r ∷ [])
added [] r h = absurd (cc)
added (a ∷ []) r h = absurd (cc)
added (a ∷ b ∷ rows) r h = h

same_place : (a b : ℕ) → nat_eq a b ≡ true → a ≡ b
same_place a b h = grind (arith, nat_tests, h)

-- an object reaches its own address
reaches_start : (r : Row) (a : ℕ) → nat_eq r.addr a ≡ true → reaches a r ≡ true
reaches_start r a h = let e = same_place r.addr a h in grind (arith, nat_tests, e)

no_heap : (r : Row) → is_message_row r ≡ true → is_live_heap r ≡ false
no_heap r h = by r.live (is_some r.site) h
  where
    by : (live heap : Bool) → live && (not heap && nat_eq r.size MESSAGE_BYTES) ≡ true → live && heap ≡ false
    by true true h = absurd (cc)
    by true false h = refl
    by false heap h = refl

-- an object that isn't one of the live heap doesn't begin there, where the search finds it
no_start : (r : Row) (a : ℕ) → is_message_row r ≡ true → is_heap_start a r ≡ false
no_start r a h = ap (λ b. nat_eq r.addr a && b) (no_heap r h) ∙ by (nat_eq r.addr a)
  where
    by : (b : Bool) → b && false ≡ false
    by true = refl
    by false = refl

kept_else : (r : Row) (a : ℕ) → nat_eq r.addr a ≡ false → killed_at a r ≡ r
kept_else r a h = ap (λ b. cond b (record r { live = false }) r) h

falsely : {A : Type 0} → true ≡ false → A
falsely h = absurd (cc)

-- the first rows aren't freed
pub freed : (rows : List Row) (a : ℕ) → is_heap_object rows a ≡ true → KeepsMessages rows (killed rows a)
freed [] a is h = h
freed (x ∷ []) a is h = absurd (cc)
freed (x ∷ y ∷ rows) a is h =
    let hx = and_left (is_message_row x) (is_message_row y) h in
    let hy = and_right (is_message_row x) (is_message_row y) h in
    let far_x = first (reaches a x) refl hx hy in
    let same_x = kept_else x a far_x.0 in
    let same_y = kept_else y a far_x.1 in
    ap (λ z. is_message_row z && is_message_row (killed_at a y)) same_x
    ∙ ap (λ z. is_message_row x && is_message_row z) same_y ∙ h
  where
    unfound : (z : Row) → is_message_row z ≡ true → option_map_or (is_heap_start a) (Some z) false ≡ true → ⊥
    unfound z hz found = falsely (sym found ∙ no_start z a hz)

    apart : (z : Row) → reaches a z ≡ false → nat_eq z.addr a ≡ false
    apart z far = by (nat_eq z.addr a) refl
      where
        by : (b : Bool) → nat_eq z.addr a ≡ b → b ≡ false
        by true e = sym (reaches_start z a e) ∙ far
        by false e = refl

    second : (b : Bool) → reaches a x ≡ false → reaches a y ≡ b → is_message_row y ≡ true → nat_eq y.addr a ≡ false
    second true far e hy =
        absurd (unfound y hy (sym (ap (λ c. option_map_or (is_heap_start a) (cond c (Some x) (find (reaches a) (y ∷ rows))) false) far ∙ ap (λ c. option_map_or (is_heap_start a) (cond c (Some y) (find (reaches a) rows)) false) e) ∙ is))
    second false far e hy = apart y e

    first : (b : Bool) → reaches a x ≡ b → is_message_row x ≡ true → is_message_row y ≡ true → (nat_eq x.addr a ≡ false) × (nat_eq y.addr a ≡ false)
    first true e hx hy =
        absurd (unfound x hx (sym (ap (λ c. option_map_or (is_heap_start a) (cond c (Some x) (find (reaches a) (y ∷ rows))) false) e) ∙ is))
    first false e hx hy = (apart x e, second (reaches a y) e refl hy)

module _ (code : MachineCode) (world : World) where
  abbrev pub KeepsGoing : Process → Process → Type 0
  KeepsGoing p q = (q.spare ≡ p.spare) × KeepsMessages p.rows q.rows

  abbrev pub KeepsEnded : Process → Process → Type 0
  KeepsEnded p q = (is_running q.activity ≡ false) × KeepsMessages p.rows q.rows

  abbrev pub Keeps : Process → Effect → Type 0
  Keeps p (Next q) = KeepsGoing p q
  Keeps p (Spends q) = KeepsGoing p q
  Keeps p (Returns v q) = KeepsEnded p q
  Keeps p (Traps t q) = KeepsEnded p q

  module _ (p : Process) where
    going : (f : Frame) (callers : List Frame) → KeepsGoing p (running p f callers)
    going f callers = (refl, λ h. h)

    traps : (t : Trap) → Keeps p (trap t p)
    traps t = (refl, λ h. h)

    keeps_or : {A : Type 0} (t : Trap) (F : A → Effect) (o : Option A) → ((x : A) → Keeps p (F x)) → Keeps p (some_or o (trap t p) F)
    keeps_or t F None h = traps t
    keeps_or t F (Some x) h = h x

    keeps_top : (t : Trap) (F : ℕ → List ℕ → Effect) (s : List ℕ) → ((x : ℕ) (rest : List ℕ) → Keeps p (F x rest)) → Keeps p (on_top s (trap t p) F)
    keeps_top t F [] h = traps t
    keeps_top t F (x ∷ rest) h = h x rest

    keeps_if : (b : Bool) (x y : Effect) → Keeps p x → Keeps p y → Keeps p (cond b x y)
    keeps_if true x y h k = h
    keeps_if false x y h k = k

    module _ (f : Frame) (callers : List Frame) (m : MachineFunction) where
      frame_keeps : (r : Result Frame Trap) → Keeps p (on_frame r p callers)
      frame_keeps (Ok g) = going g callers
      frame_keeps (Err t) = traps t

      memory_keeps : (r : Result (Frame × Content) Trap) → Keeps p (on_memory r p callers)
      memory_keeps (Ok q) = (refl, λ h. h)
      memory_keeps (Err t) = traps t

      jump_keeps : (to : ℕ) (stack : List ℕ) → Keeps p (jump m p f callers to stack)
      jump_keeps to stack =
          keeps_if (nat_le to f.place) (Spends (running p (moved f to stack) callers)) (Next (running p (moved f to stack) callers)) (going (moved f to stack) callers) (going (moved f to stack) callers)

      enter_keeps : (g : ℕ) (d : MachineFunction) (s : Signature) (split : List ℕ × List ℕ) → Keeps p (enter m p f callers g d s split)
      enter_keeps g d s split =
          keeps_if (has_room m s.result split.1) _ (trap BadCode p) (keeps_if (nat_lt (length callers + 1) FRAMES) (Spends (running p (entered d g split.0) (moved f (f.place + 1) split.1 ∷ callers))) (trap Depth p) (going (entered d g split.0) (moved f (f.place + 1) split.1 ∷ callers)) (traps Depth)) (traps BadCode)

      call_keeps : (g : ℕ) (arguments : Signature → Option (List ℕ × List ℕ)) → Keeps p (call code m p f callers g arguments)
      call_keeps g arguments =
          keeps_or BadCode (λ d. some_or (slice_get code.types.signatures d.signature) (trap BadCode p) (λ s. some_or (arguments s) (trap BadCode p) (enter m p f callers g d s))) (slice_get code.functions g) (λ d. keeps_or BadCode (λ s. some_or (arguments s) (trap BadCode p) (enter m p f callers g d s)) (slice_get code.types.signatures d.signature) (λ s. keeps_or BadCode (enter m p f callers g d s) (arguments s) (enter_keeps g d s)))

      word_keeps : (args : List ℕ) (w : ℕ) (rest : List ℕ) → Keeps p (call_word code m p f callers args w rest)
      word_keeps args zero rest = (refl, λ h. h)
      word_keeps args (suc g) rest = call_keeps g (λ s. if nat_eq (length s.params) (length args) then Some (args, rest) else None)

      back_keeps : (v : Option ℕ) (cs : List Frame) → Keeps p (give_back v p cs)
      back_keeps v [] = (refl, λ h. h)
      back_keeps v (c ∷ cs) = (refl, λ h. h)

      result_keeps : (valued void : Effect) → Keeps p valued → Keeps p void → Keeps p (on_result code m (trap BadCode p) valued void)
      result_keeps valued void h k = keeps_or BadCode (λ s. some_or s.result void (λ t. valued)) (slice_get code.types.signatures m.signature) (λ s. by_result s.result)
        where
          by_result : (o : Option ℕ) → Keeps p (some_or o void (λ t. valued))
          by_result None = k
          by_result (Some t) = h

      transfer_keeps : (o : Transfer) → Keeps p (transferred o code m p f callers)
      transfer_keeps (T.Jump to) = keeps_if (is_place_of m to) (jump m p f callers to f.stack) (trap BadCode p) (jump_keeps to f.stack) (traps BadCode)
      transfer_keeps (T.JumpIfZero to) =
          keeps_if (is_place_of m to) _ (trap BadCode p) (keeps_top BadCode (λ v rest. cond (nat_eq v 0) (jump m p f callers to rest) (Next (running p (moved f (f.place + 1) rest) callers))) f.stack (λ v rest. keeps_if (nat_eq v 0) (jump m p f callers to rest) (Next (running p (moved f (f.place + 1) rest) callers)) (jump_keeps to rest) (going (moved f (f.place + 1) rest) callers))) (traps BadCode)
      transfer_keeps (T.Call g) = call_keeps g (λ s. pop_words (length s.params) f.stack [])
      transfer_keeps (T.CallIndirect n) =
          keeps_or BadCode (λ split. on_top split.1 (trap BadCode p) (call_word code m p f callers split.0)) (pop_words n f.stack []) (λ split. keeps_top BadCode (call_word code m p f callers split.0) split.1 (word_keeps split.0))
      transfer_keeps T.Return = result_keeps (trap BadCode p) (give_back None p callers) (traps BadCode) (back_keeps None callers)
      transfer_keeps T.ReturnValue =
          result_keeps (on_top f.stack (trap BadCode p) (λ v rest. give_back (Some v) p callers)) (trap BadCode p) (keeps_top BadCode (λ v rest. give_back (Some v) p callers) f.stack (λ v rest. back_keeps (Some v) callers)) (traps BadCode)

      free_keeps : (w : ℕ) (rest : List ℕ) → Keeps p (free p f callers w rest)
      free_keeps zero rest = going (advanced f rest) callers
      free_keeps (suc a) rest = by_test (is_heap_object p.rows (suc a)) refl
        where
          by_test : (b : Bool) → is_heap_object p.rows (suc a) ≡ b → Keeps p (cond b (Next (running (without_object p (suc a)) (advanced f rest) callers)) (trap BadFree p))
          by_test true e = (refl, freed p.rows (suc a) e)
          by_test false e = traps BadFree

      allocate_keeps : (rest : List ℕ) (r : Row) → Keeps p (allocate p f callers rest r)
      allocate_keeps rest r =
          keeps_if (can_allocate p.rows r) (Next (running (with_object p r) (advanced f (r.addr ∷ rest)) callers)) (Next (running p (advanced f (0 ∷ rest)) callers)) (refl, added p.rows r) (going (advanced f (0 ∷ rest)) callers)

      send_keeps : (rest : List ℕ) (to : ℤ) (bytes : List ℕ) → Keeps p (send world p f callers rest to bytes)
      send_keeps rest to bytes = (refl, λ h. h)

      served_keeps : (o : Service) → Keeps p (served o code world p f callers)
      served_keeps (V.Allocate site) =
          keeps_or BadCode (λ s. on_top f.stack (trap BadCode p) (λ n rest. allocate p f callers rest (new_row code p.next site s.elem n))) (slice_get code.sites site) (λ s. keeps_top BadCode (λ n rest. allocate p f callers rest (new_row code p.next site s.elem n)) f.stack (λ n rest. allocate_keeps rest (new_row code p.next site s.elem n)))
      served_keeps V.Free = keeps_top BadCode (free p f callers) f.stack free_keeps
      served_keeps V.Send =
          keeps_top BadCode (λ d rest. some_or (message_bytes code p) (trap BadCode p) (send world p f callers rest (signed d))) f.stack (λ d rest. keeps_or BadCode (send world p f callers rest (signed d)) (message_bytes code p) (send_keeps rest (signed d)))
      served_keeps V.Panic = keeps_top BadCode (λ n rest. trap (Panics (cast_signed w32 (n % 2 ^ 32))) p) f.stack (λ n rest. (refl, λ h. h))

      act_keeps : (o : Operation) → Keeps p (act o code world m p f callers)
      act_keeps (O.OnStack o) = frame_keeps (stacked o m.height f)
      act_keeps (O.OnWord o) = frame_keeps (on_word (transformed o) f)
      act_keeps (O.OnWords o) = frame_keeps (on_words (combined o) f)
      act_keeps (O.OnPointers o) = frame_keeps (on_words (pointed o p.rows) f)
      act_keeps (O.Reads o) = frame_keeps (on_word (read o code.types p.content p.rows) f)
      act_keeps (O.Writes o) = memory_keeps (written o p.content p.rows f)
      act_keeps (O.Transfers o) = transfer_keeps o
      act_keeps (O.Serves o) = served_keeps o

    keeps_in : (a : Activity) → p.activity ≡ a → Keeps p (step_in code world p a)
    keeps_in (Idle None) e = (ap is_running e, λ h. h)
    keeps_in (Idle (Some t)) e = (ap is_running e, λ h. h)
    keeps_in (Starting g args) e = keeps_or BadCode (λ d. Spends (running p (entered d g args) [])) (slice_get code.functions g) (λ d. (refl, λ h. h))
    keeps_in (Running f callers) e =
        keeps_or BadCode (fetched code world p f callers) (slice_get code.functions f.function) (λ m. keeps_or BadCode (λ i. act (operation_of i) code world m p f callers) (slice_get m.code f.place) (λ i. act_keeps f callers m (operation_of i)))

    pub step_keeps : Keeps p (step_instruction code world p)
    step_keeps = keeps_in p.activity refl
