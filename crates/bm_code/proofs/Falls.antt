-- Each instruction leaves less to do, or spends a tick.
use Rattle.std.proofs.Common.{◌≡◌, ◌∙◌, refl, ap, Bool, true, false, cond, ℕ, zero, suc, ◌+◌, ◌-◌, ◌<◌, ◌≤◌, max, List, [], ◌∷◌, ◌++◌, length, Option, Some, None, Result, Ok, Err, arith, nat_lt, nat_le, nat_eq}
use Rattle.std.specs.Prelude.{slice_get, slice_set, option_to_list, ℤ, if◌then◌else◌, ◌%◌, ◌^◌}
use Rattle.std.specs.Int.{w32, cast_signed}
use Rattle.std.proofs.lemmas.Option.{slice_get_within}
use Rattle.std.proofs.lemmas.Bool.Decides.{nat_tests}
use Rattle.lu_spec.specs.Then.{then_do}
use Rattle.lu_spec.specs.LittleEndian.{little_endian}
use Rattle.lu_base.specs.declared.limits.TheConstants.{FRAMES}
use Rattle.lu_base.specs.Sending.{sent}
use Rattle.lu_base.specs.declared.trap.Trap.{Trap}
use Rattle.lu_base.specs.declared.trap.Trap.TheVariants.{BadCode, BadFree, Depth, Panic as Panics}
use Rattle.c_types.specs.declared.parts.Signature.{Signature}
use Rattle.bm_mem.specs.Content.{Content}
use Rattle.bm_objects.specs.declared.row.Row.{Row}
use Rattle.bm_alu.specs.Words.{combined, transformed, signed, of_signed}
use Rattle.bm_code.specs.declared.code.MachineCode.{MachineCode}
use Rattle.bm_code.specs.declared.code.MachineFunction.{MachineFunction}
use Rattle.lu_base.specs.declared.world.World.{World}
use Rattle.bm_code.specs.declared.operation.Operation.{Operation}
use Rattle.bm_code.specs.declared.operation.Operation.TheVariants as O
use Rattle.bm_code.specs.declared.operation.Stacking.{Stacking}
use Rattle.bm_code.specs.declared.operation.Stacking.TheVariants as S
use Rattle.bm_code.specs.declared.operation.Writing.{Writing}
use Rattle.bm_code.specs.declared.operation.Writing.TheVariants as W
use Rattle.bm_code.specs.declared.operation.Transfer.{Transfer}
use Rattle.bm_code.specs.declared.operation.Transfer.TheVariants as T
use Rattle.bm_code.specs.declared.operation.Service.{Service}
use Rattle.bm_code.specs.declared.operation.Service.TheVariants as V
use Rattle.bm_code.specs.Kinds.{operation_of}
use Rattle.bm_code.specs.Process.{Frame, Activity, Idle, Starting, Running, Process}
use Rattle.bm_code.specs.Access.{live_at, read_at, written_at, scalars, scalar_size}
use Rattle.bm_code.specs.Frames.{some_or, on_top, on_two, moved, advanced, bad, pushed, with_local, stacked, on_word, on_words}
use Rattle.bm_code.specs.Pointers.{pointed, read, with_active, wrote, written}
use Rattle.bm_code.specs.Transfers.{Effect, Next, Spends, Returns, Traps, trap, running, jump, is_place_of, pop_words, entered, has_room, enter, call, call_word, give_back, on_result, transferred}
use Rattle.bm_code.specs.Services.{new_row, can_allocate, with_object, allocate, is_heap_object, without_object, free, message_bytes, message_of, send, served}
use Rattle.bm_code.specs.Step.{on_frame, on_memory, act, fetched, step_in}
use Rattle.bm_code.specs.Measure.{ahead_in, ahead_of, ahead, longest}

-- at the next instruction of the same function
abbrev pub IsOn : Frame → Frame → Type 0
IsOn f g = (g.function ≡ f.function) × (g.place ≡ f.place + 1)

abbrev IsOnOk : Frame → Result Frame Trap → Type 0
IsOnOk f (Ok g) = IsOn f g
IsOnOk f (Err t) = Unit {0}

abbrev IsOnBoth : Frame → Result (Frame × Content) Trap → Type 0
IsOnBoth f (Ok q) = IsOn f q.0
IsOnBoth f (Err t) = Unit {0}

here : (f : Frame) (stack : List ℕ) → IsOn f (advanced f stack)
here f stack = (refl, refl)

pushed_on : (h : ℕ) (f : Frame) (v : ℕ) → IsOnOk f (pushed h f v)
pushed_on h f v = by_test (nat_lt (length f.stack) h)
  where
    by_test : (b : Bool) → IsOnOk f (cond b (Ok (advanced f (v ∷ f.stack))) bad)
    by_test true = here f (v ∷ f.stack)
    by_test false = tt

top_on : (f : Frame) (F : ℕ → List ℕ → Result Frame Trap) (s : List ℕ) → ((a : ℕ) (rest : List ℕ) → IsOnOk f (F a rest)) → IsOnOk f (on_top s bad F)
top_on f F [] h = tt
top_on f F (a ∷ rest) h = h a rest

two_on : (f : Frame) (F : ℕ → ℕ → List ℕ → Result Frame Trap) (s : List ℕ) → ((a b : ℕ) (rest : List ℕ) → IsOnOk f (F a b rest)) → IsOnOk f (on_two s bad F)
two_on f F [] h = tt
two_on f F (b ∷ []) h = tt
two_on f F (b ∷ a ∷ rest) h = h a b rest

local_on : (f : Frame) (x v : ℕ) (rest : List ℕ) → IsOnOk f (with_local f x v rest)
local_on f x v rest = by_test (nat_lt x (length f.locals))
  where
    by_test : (b : Bool) → IsOnOk f (cond b (Ok (record { function = f.function; place = f.place + 1; locals = slice_set f.locals x v; stack = rest })) bad)
    by_test true = (refl, refl)
    by_test false = tt

found_on : (f : Frame) (F : ℕ → Result Frame Trap) (o : Option ℕ) → ((a : ℕ) → IsOnOk f (F a)) → IsOnOk f (some_or o bad F)
found_on f F None h = tt
found_on f F (Some a) h = h a

stacked_on : (o : Stacking) (h : ℕ) (f : Frame) → IsOnOk f (stacked o h f)
stacked_on (S.Constant k) h f = pushed_on h f k
stacked_on (S.GetLocal x) h f = found_on f (pushed h f) (slice_get f.locals x) (pushed_on h f)
stacked_on (S.SetLocal x) h f = top_on f (with_local f x) f.stack (local_on f x)
stacked_on S.Pop h f = top_on f (λ a rest. Ok (advanced f rest)) f.stack (λ a rest. here f rest)
stacked_on S.Duplicate h f = top_on f (λ a rest. pushed h f a) f.stack (λ a rest. pushed_on h f a)
stacked_on S.Swap h f = two_on f (λ a b rest. Ok (advanced f (a ∷ b ∷ rest))) f.stack (λ a b rest. here f (a ∷ b ∷ rest))

then_on : (f : Frame) (rest : List ℕ) (r : Result ℕ Trap) → IsOnOk f (then_do r (λ v. Ok (advanced f (v ∷ rest))))
then_on f rest (Ok v) = here f (v ∷ rest)
then_on f rest (Err t) = tt

word_on : (op : ℕ → Result ℕ Trap) (f : Frame) → IsOnOk f (on_word op f)
word_on op f = top_on f (λ a rest. then_do (op a) (λ v. Ok (advanced f (v ∷ rest)))) f.stack (λ a rest. then_on f rest (op a))

words_on : (op : ℕ → ℕ → Result ℕ Trap) (f : Frame) → IsOnOk f (on_words op f)
words_on op f = two_on f (λ a b rest. then_do (op a b) (λ v. Ok (advanced f (v ∷ rest)))) f.stack (λ a b rest. then_on f rest (op a b))

wrote_on : (f : Frame) (rest : List ℕ) (o : Option Content) → IsOnBoth f (wrote f rest o)
wrote_on f rest None = tt
wrote_on f rest (Some m) = here f rest

or_on : {A : Type 0} (f : Frame) (F : A → Result (Frame × Content) Trap) (o : Option A) → ((a : A) → IsOnBoth f (F a)) → IsOnBoth f (some_or o bad F)
or_on f F None h = tt
or_on f F (Some a) h = h a

written_on : (o : Writing) (m : Content) (rows : List Row) (f : Frame) → IsOnBoth f (written o m rows f)
written_on (W.Store k) m rows f = by_stack f.stack
  where
    by_stack : (s : List ℕ) → IsOnBoth f (on_two s bad (λ v a rest. some_or (slice_get scalars k) bad (λ s. wrote f rest (written_at m rows a (little_endian (scalar_size s) v)))))
    by_stack [] = tt
    by_stack (b ∷ []) = tt
    by_stack (a ∷ v ∷ rest) = or_on f (λ s. wrote f rest (written_at m rows a (little_endian (scalar_size s) v))) (slice_get scalars k) (λ s. wrote_on f rest (written_at m rows a (little_endian (scalar_size s) v)))
written_on (W.Copy size) m rows f = by_stack f.stack
  where
    by_stack : (s : List ℕ) → IsOnBoth f (on_two s bad (λ a b rest. some_or (read_at m rows a size) bad (λ piece. wrote f rest (written_at m rows b piece))))
    by_stack [] = tt
    by_stack (b ∷ []) = tt
    by_stack (b ∷ a ∷ rest) = or_on f (λ piece. wrote f rest (written_at m rows b piece)) (read_at m rows a size) (λ piece. wrote_on f rest (written_at m rows b piece))
written_on (W.Union member offset size) m rows f = by_stack f.stack
  where
    by_stack : (s : List ℕ) → IsOnBoth f (on_top s bad (λ a rest. some_or (live_at rows a (max 4 (offset + size))) bad (λ r. wrote f (a ∷ rest) (with_active m rows a member offset size r))))
    by_stack [] = tt
    by_stack (a ∷ rest) = or_on f (λ r. wrote f (a ∷ rest) (with_active m rows a member offset size r)) (live_at rows a (max 4 (offset + size))) (λ r. wrote_on f (a ∷ rest) (with_active m rows a member offset size r))

le_false : (a b : ℕ) → nat_le a b ≡ false → b < a
le_false a b h = grind (arith, nat_tests)

module _ (code : MachineCode) (world : World) where
  abbrev ms : List MachineFunction
  ms = code.functions

  -- what an effect does to what lies ahead
  abbrev pub Falls : Activity → Effect → Type 0
  Falls a (Next q) = ahead ms q.activity < ahead ms a
  Falls a (Spends q) = ahead ms q.activity ≤ ahead ms a + longest ms
  Falls a (Returns v q) = Unit {0}
  Falls a (Traps t q) = Unit {0}

  pub longest_at : (ns : List MachineFunction) (i : ℕ) (n : MachineFunction) → slice_get ns i ≡ Some n → length n.code ≤ longest ns
  longest_at [] i n e = absurd (cc)
  longest_at (x ∷ ns) zero n e = let same : x ≡ n = cc in let l = ap (λ x. length x.code) same in omega arith
  longest_at (x ∷ ns) (suc i) n e = omega (arith, longest_at ns i n e)

  falls_or : {A : Type 0} (a : Activity) (p : Process) (t : Trap) (F : A → Effect) (o : Option A) → ((x : A) → o ≡ Some x → Falls a (F x)) → Falls a (some_or o (trap t p) F)
  falls_or a p t F None h = tt
  falls_or a p t F (Some x) h = h x refl

  falls_top : (a : Activity) (p : Process) (t : Trap) (F : ℕ → List ℕ → Effect) (s : List ℕ) → ((x : ℕ) (rest : List ℕ) → Falls a (F x rest)) → Falls a (on_top s (trap t p) F)
  falls_top a p t F [] h = tt
  falls_top a p t F (x ∷ rest) h = h x rest

  falls_if : (a : Activity) (b : Bool) (x y : Effect) → Falls a x → Falls a y → Falls a (cond b x y)
  falls_if a true x y h k = h
  falls_if a false x y h k = k

  -- a frame of the function m, at an instruction of it
  module _ (p : Process) (f : Frame) (callers : List Frame) (m : MachineFunction) (at : slice_get ms f.function ≡ Some m) (inside : f.place < length m.code) where
    abbrev now : Activity
    now = Running f callers

    size : ahead_of ms f ≡ length m.code - f.place
    size = ap (ahead_in f) at

    size_of : (g : Frame) → g.function ≡ f.function → ahead_of ms g ≡ length m.code - g.place
    size_of g e = ap (λ n. ahead_in g (slice_get ms n)) e ∙ ap (ahead_in g) at

    on_next : (q : Process) (g : Frame) → IsOn f g → ahead ms (Running g callers) < ahead ms now
    on_next q g on = let a = size in let b = size_of g on.0 in omega (arith, a, b, on.1, inside)

    frame_falls : (r : Result Frame Trap) → IsOnOk f r → Falls now (on_frame r p callers)
    frame_falls (Ok g) on = on_next p g on
    frame_falls (Err t) on = tt

    memory_falls : (r : Result (Frame × Content) Trap) → IsOnBoth f r → Falls now (on_memory r p callers)
    memory_falls (Ok q) on = on_next p q.0 on
    memory_falls (Err t) on = tt

    jump_falls : (to : ℕ) (stack : List ℕ) → Falls now (jump m p f callers to stack)
    jump_falls to stack = by_test (nat_le to f.place) refl
      where
        by_test : (b : Bool) → nat_le to f.place ≡ b → Falls now (cond b (Spends (running p (moved f to stack) callers)) (Next (running p (moved f to stack) callers)))
        by_test true e =
            let a = size in
            let b = size_of (moved f to stack) refl in
            let l = longest_at ms f.function m at in
            omega (arith, a, b, l)
        by_test false e =
            let a = size in
            let b = size_of (moved f to stack) refl in
            let lt : f.place < to = le_false to f.place e in
            omega (arith, a, b, lt, inside)

    enter_falls : (g : ℕ) (d : MachineFunction) (s : Signature) (split : List ℕ × List ℕ) → slice_get ms g ≡ Some d → Falls now (enter m p f callers g d s split)
    enter_falls g d s split d_at =
        falls_if now (has_room m s.result split.1) _ (trap BadCode p) (falls_if now (nat_lt (length callers + 1) FRAMES) (Spends (running p (entered d g split.0) (moved f (f.place + 1) split.1 ∷ callers))) (trap Depth p) inner tt) tt
      where
        inner : ahead ms (Running (entered d g split.0) (moved f (f.place + 1) split.1 ∷ callers)) ≤ ahead ms now + longest ms
        inner =
            let a = size in
            let b = size_of (moved f (f.place + 1) split.1) refl in
            let n : ahead_of ms (entered d g split.0) ≡ length d.code - 0 = ap (ahead_in (entered d g split.0)) d_at in
            let l = longest_at ms g d d_at in
            omega (arith, a, b, n, l)

    call_falls : (g : ℕ) (arguments : Signature → Option (List ℕ × List ℕ)) → Falls now (call code m p f callers g arguments)
    call_falls g arguments =
        falls_or now p BadCode (λ d. some_or (slice_get code.types.signatures d.signature) (trap BadCode p) (λ s. some_or (arguments s) (trap BadCode p) (enter m p f callers g d s))) (slice_get ms g) (λ d d_at. falls_or now p BadCode (λ s. some_or (arguments s) (trap BadCode p) (enter m p f callers g d s)) (slice_get code.types.signatures d.signature) (λ s s_at. falls_or now p BadCode (enter m p f callers g d s) (arguments s) (λ split is. enter_falls g d s split d_at)))

    word_falls : (args : List ℕ) (w : ℕ) (rest : List ℕ) → Falls now (call_word code m p f callers args w rest)
    word_falls args zero rest = tt
    word_falls args (suc g) rest = call_falls g (λ s. if nat_eq (length s.params) (length args) then Some (args, rest) else None)

    back_falls : (v : Option ℕ) → Falls now (give_back v p callers)
    back_falls v = by_callers callers refl
      where
        same : (c g : Frame) (o : Option MachineFunction) → g.place ≡ c.place → ahead_in g o ≡ ahead_in c o
        same c g None e = refl
        same c g (Some n) e = ap (λ k. length n.code - k) e

        by_callers : (cs : List Frame) → callers ≡ cs → Falls (Running f cs) (give_back v p cs)
        by_callers [] e = tt
        by_callers (c ∷ cs) e =
            let a = size in
            let b = same c (moved c c.place (option_to_list v ++ c.stack)) (slice_get ms c.function) refl in
            omega (arith, a, b, inside)

    result_falls : (valued void : Effect) → Falls now valued → Falls now void → Falls now (on_result code m (trap BadCode p) valued void)
    result_falls valued void h k = falls_or now p BadCode (λ s. some_or s.result void (λ t. valued)) (slice_get code.types.signatures m.signature) (λ s e. by_result s.result)
      where
        by_result : (o : Option ℕ) → Falls now (some_or o void (λ t. valued))
        by_result None = k
        by_result (Some t) = h

    transfer_falls : (o : Transfer) → Falls now (transferred o code m p f callers)
    transfer_falls (T.Jump to) = falls_if now (is_place_of m to) (jump m p f callers to f.stack) (trap BadCode p) (jump_falls to f.stack) tt
    transfer_falls (T.JumpIfZero to) =
        falls_if now (is_place_of m to) _ (trap BadCode p) (falls_top now p BadCode (λ v rest. cond (nat_eq v 0) (jump m p f callers to rest) (Next (running p (moved f (f.place + 1) rest) callers))) f.stack (λ v rest. falls_if now (nat_eq v 0) _ _ (jump_falls to rest) (on_next p (advanced f rest) (refl, refl)))) tt
    transfer_falls (T.Call g) = call_falls g (λ s. pop_words (length s.params) f.stack [])
    transfer_falls (T.CallIndirect n) =
        falls_or now p BadCode (λ split. on_top split.1 (trap BadCode p) (call_word code m p f callers split.0)) (pop_words n f.stack []) (λ split e. falls_top now p BadCode (call_word code m p f callers split.0) split.1 (word_falls split.0))
    transfer_falls T.Return = result_falls (trap BadCode p) (give_back None p callers) tt (back_falls None)
    transfer_falls T.ReturnValue =
        result_falls (on_top f.stack (trap BadCode p) (λ v rest. give_back (Some v) p callers)) (trap BadCode p) (falls_top now p BadCode (λ v rest. give_back (Some v) p callers) f.stack (λ v rest. back_falls (Some v))) tt

    on_here : (rest : List ℕ) → ahead ms (Running (advanced f rest) callers) < ahead ms now
    on_here rest = on_next p (advanced f rest) (refl, refl)

    send_falls : (rest : List ℕ) (to : ℤ) (bytes : List ℕ) → Falls now (send world p f callers rest to bytes)
    send_falls rest to bytes = on_here (of_signed (sent world p.outbox to (message_of bytes)).0 ∷ rest)

    free_falls : (w : ℕ) (rest : List ℕ) → Falls now (free p f callers w rest)
    free_falls zero rest = on_here rest
    free_falls (suc a) rest = by_test (is_heap_object p.rows (suc a))
      where
        by_test : (b : Bool) → Falls now (cond b (Next (running (without_object p (suc a)) (advanced f rest) callers)) (trap BadFree p))
        by_test true = on_here rest
        by_test false = tt

    allocate_falls : (rest : List ℕ) (r : Row) → Falls now (allocate p f callers rest r)
    allocate_falls rest r = by_test (can_allocate p.rows r)
      where
        by_test : (b : Bool) → Falls now (cond b (Next (running (with_object p r) (advanced f (r.addr ∷ rest)) callers)) (Next (running p (advanced f (0 ∷ rest)) callers)))
        by_test true = on_here (r.addr ∷ rest)
        by_test false = on_here (0 ∷ rest)

    served_falls : (o : Service) → Falls now (served o code world p f callers)
    served_falls (V.Allocate site) =
        falls_or now p BadCode (λ s. on_top f.stack (trap BadCode p) (λ n rest. allocate p f callers rest (new_row code p.next site s.elem n))) (slice_get code.sites site) (λ s e. falls_top now p BadCode (λ n rest. allocate p f callers rest (new_row code p.next site s.elem n)) f.stack (λ n rest. allocate_falls rest (new_row code p.next site s.elem n)))
    served_falls V.Free = falls_top now p BadCode (free p f callers) f.stack free_falls
    served_falls V.Send =
        falls_top now p BadCode (λ d rest. some_or (message_bytes code p) (trap BadCode p) (send world p f callers rest (signed d))) f.stack (λ d rest. falls_or now p BadCode (send world p f callers rest (signed d)) (message_bytes code p) (λ bytes e. send_falls rest (signed d) bytes))
    served_falls V.Panic = falls_top now p BadCode (λ n rest. trap (Panics (cast_signed w32 (n % 2 ^ 32))) p) f.stack (λ n rest. tt)

    act_falls : (o : Operation) → Falls now (act o code world m p f callers)
    act_falls (O.OnStack o) = frame_falls (stacked o m.height f) (stacked_on o m.height f)
    act_falls (O.OnWord o) = frame_falls (on_word (transformed o) f) (word_on (transformed o) f)
    act_falls (O.OnWords o) = frame_falls (on_words (combined o) f) (words_on (combined o) f)
    act_falls (O.OnPointers o) = frame_falls (on_words (pointed o p.rows) f) (words_on (pointed o p.rows) f)
    act_falls (O.Reads o) = frame_falls (on_word (read o code.types p.content p.rows) f) (word_on (read o code.types p.content p.rows) f)
    act_falls (O.Writes o) = memory_falls (written o p.content p.rows f) (written_on o p.content p.rows f)
    act_falls (O.Transfers o) = transfer_falls o
    act_falls (O.Serves o) = served_falls o

  pub step_falls : (p : Process) (a : Activity) → Falls a (step_in code world p a)
  step_falls p (Idle None) = tt
  step_falls p (Idle (Some t)) = tt
  step_falls p (Starting g args) =
      falls_or (Starting g args) p BadCode (λ d. Spends (running p (entered d g args) [])) (slice_get ms g) (λ d e. entry d e)
    where
      entry : (d : MachineFunction) → slice_get ms g ≡ Some d → ahead ms (Running (entered d g args) []) ≤ 0 + longest ms
      entry d e =
          let n : ahead_of ms (entered d g args) ≡ length d.code - 0 = ap (ahead_in (entered d g args)) e in
          let l = longest_at ms g d e in
          omega (arith, n, l)
  step_falls p (Running f callers) =
      falls_or (Running f callers) p BadCode (fetched code world p f callers) (slice_get ms f.function) (λ m at. falls_or (Running f callers) p BadCode (λ i. act (operation_of i) code world m p f callers) (slice_get m.code f.place) (λ i i_at. act_falls p f callers m at (slice_get_within m.code f.place i i_at) (operation_of i)))
