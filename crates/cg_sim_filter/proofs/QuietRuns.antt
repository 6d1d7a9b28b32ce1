-- Runs of a function whose code changes nothing but the frame.
use Rattle.std.proofs.Common.{◌≡◌, ◌∙◌, refl, ap, sym, subst, Bool, true, false, cond, ℕ, zero, suc, ◌+◌, ◌%◌, ◌^◌, List, [], ◌∷◌, length, Option, Some, None, Result, Ok, Err, arith, nat_eq, nat_lt, nat_le}
use Rattle.std.specs.Prelude.{slice_get, slice_set}
use Rattle.std.specs.Int.{w32, cast_signed}
use Rattle.std.specs.Option.{option_map}
use Rattle.lu_spec.specs.Then.{then_do, then_option}
use Rattle.lu_base.specs.declared.trap.Trap.{Trap}
use Rattle.lu_base.specs.declared.trap.Trap.TheVariants.{BadCode, Budget, Panic}
use Rattle.lu_base.specs.declared.world.World.{World}
use Rattle.bm_isa.specs.declared.instr.Instr.{Instr}
use Rattle.bm_code.specs.declared.code.MachineCode.{MachineCode}
use Rattle.bm_code.specs.declared.code.MachineFunction.{MachineFunction}
use Rattle.bm_code.specs.declared.operation.Operation.{Operation}
use Rattle.bm_code.specs.declared.operation.Operation.TheVariants.{OnStack, OnWord, OnWords, OnPointers, Reads, Writes, Transfers, Serves}
use Rattle.bm_code.specs.declared.operation.Stacking.{Stacking}
use Rattle.bm_code.specs.declared.operation.Stacking.TheVariants.{Constant, GetLocal, SetLocal, Pop, Duplicate, Swap}
use Rattle.bm_code.specs.declared.operation.Service.TheVariants as S
use Rattle.bm_code.specs.declared.operation.Transfer.TheVariants as J
use Rattle.bm_code.specs.Frames.{some_or, on_top, on_two, advanced, moved, pushed, with_local, stacked, on_word, on_words}
use Rattle.bm_code.specs.Kinds.{operation_of}
use Rattle.bm_code.specs.Process.{Frame, Running, Process}
use Rattle.bm_code.specs.Ran.{AddsObject}
use Rattle.bm_code.specs.Run as Run
use Rattle.bm_code.specs.Run.{Final, final, spend, onward, run_machine}
use Rattle.bm_code.specs.Step.{on_frame, act, fetched, step_instruction}
use Rattle.bm_code.specs.Steps.{Progress, progress, ticked, progress_by, after_ticks, advance, Steps}
use Rattle.bm_code.specs.Transfers.{Effect, Next, Spends, Returns, Traps, idle, trap, running, jump, is_place_of}
use Rattle.cg_state.proofs.Places.{all_get}
use Rattle.cg_sim_filter.proofs.QuietCode.{is_quiet_operation, is_quiet, IsQuiet}

module _ (code : MachineCode) (world : World) (base : Process) (function : ℕ) (m : MachineFunction) (is : slice_get code.functions function ≡ Some m) (quiet : IsQuiet m.code) where
  -- the process with a frame of the function under way
  abbrev pub under_way : Frame → ℕ → Process
  under_way f t = record base { activity = Running f []; spare = t }

  -- with all but what runs as it was
  pub record Stays (x : Process) : Type 0 where
    pub content : x.content ≡ base.content
    pub rows : x.rows ≡ base.rows
    pub last : x.next ≡ base.next
    pub outbox : x.outbox ≡ base.outbox

  pub record Goes (x : Process) : Type 0 where
    pub frame : Frame
    pub ticks : ℕ
    pub same : frame.function ≡ function
    pub process : x ≡ under_way frame ticks

  abbrev Calm : Effect → Type 0
  Calm (Next x) = Goes x
  Calm (Spends x) = Goes x
  Calm (Returns v x) = ⊥
  Calm (Traps t x) = Stays x

  abbrev Same : Result Frame Trap → Type 0
  Same (Ok g) = g.function ≡ function
  Same (Err t) = Unit {0}

  module _ (f : Frame) (t : ℕ) (own : f.function ≡ function) where
    abbrev p : Process
    p = under_way f t

    trapped : (trap_of : Trap) → Stays (idle (Some trap_of) p)
    trapped trap_of = record { content = refl; rows = refl; last = refl; outbox = refl }

    there : (g : Frame) → g.function ≡ function → Goes (running p g [])
    there g e = record { frame = g; ticks = t; same = e; process = refl }

    on_frame_calm : (r : Result Frame Trap) → Same r → Calm (on_frame r p [])
    on_frame_calm (Ok g) e = there g e
    on_frame_calm (Err u) e = trapped u

    pushed_same : (height : ℕ) (v : ℕ) → Same (pushed height f v)
    pushed_same height v = by (nat_lt (length f.stack) height)
      where
        by : (b : Bool) → Same (cond b (Ok (advanced f (v ∷ f.stack))) (Err BadCode))
        by true = own
        by false = tt

    stacked_same : (o : Stacking) (height : ℕ) → Same (stacked o height f)
    stacked_same (Constant k) height = pushed_same height k
    stacked_same (GetLocal x) height = by (slice_get f.locals x)
      where
        by : (o : Option ℕ) → Same (some_or o (Err BadCode) (pushed height f))
        by None = tt
        by (Some v) = pushed_same height v
    stacked_same (SetLocal x) height = by f.stack
      where
        inner : (b : Bool) (v : ℕ) (rest : List ℕ) → Same (cond b (Ok (record { function = f.function; place = f.place + 1; locals = slice_set f.locals x v; stack = rest })) (Err BadCode))
        inner true v rest = own
        inner false v rest = tt

        by : (l : List ℕ) → Same (on_top l (Err BadCode) (with_local f x))
        by [] = tt
        by (v ∷ rest) = inner (nat_lt x (length f.locals)) v rest
    stacked_same Pop height = by f.stack
      where
        by : (l : List ℕ) → Same (on_top l (Err BadCode) (λ a rest. Ok (advanced f rest)))
        by [] = tt
        by (v ∷ rest) = own
    stacked_same Duplicate height = by f.stack
      where
        by : (l : List ℕ) → Same (on_top l (Err BadCode) (λ a rest. pushed height f a))
        by [] = tt
        by (v ∷ rest) = pushed_same height v
    stacked_same Swap height = by f.stack
      where
        by : (l : List ℕ) → Same (on_two l (Err BadCode) (λ a b rest. Ok (advanced f (a ∷ b ∷ rest))))
        by [] = tt
        by (b ∷ []) = tt
        by (b ∷ a ∷ rest) = own

    word_same : (operation : ℕ → Result ℕ Trap) → Same (on_word operation f)
    word_same operation = by f.stack
      where
        inner : (r : Result ℕ Trap) (rest : List ℕ) → Same (then_do r (λ v. Ok (advanced f (v ∷ rest))))
        inner (Ok v) rest = own
        inner (Err u) rest = tt

        by : (l : List ℕ) → Same (on_top l (Err BadCode) (λ a rest. then_do (operation a) (λ v. Ok (advanced f (v ∷ rest)))))
        by [] = tt
        by (v ∷ rest) = inner (operation v) rest

    words_same : (operation : ℕ → ℕ → Result ℕ Trap) → Same (on_words operation f)
    words_same operation = by f.stack
      where
        inner : (r : Result ℕ Trap) (rest : List ℕ) → Same (then_do r (λ v. Ok (advanced f (v ∷ rest))))
        inner (Ok v) rest = own
        inner (Err u) rest = tt

        by : (l : List ℕ) → Same (on_two l (Err BadCode) (λ a b rest. then_do (operation a b) (λ v. Ok (advanced f (v ∷ rest)))))
        by [] = tt
        by (b ∷ []) = tt
        by (b ∷ a ∷ rest) = inner (operation a b) rest

    jump_calm : (to : ℕ) (stack : List ℕ) → Calm (jump m p f [] to stack)
    jump_calm to stack = by (nat_le to f.place)
      where
        by : (b : Bool) → Calm (cond b (Spends (running p (moved f to stack) [])) (Next (running p (moved f to stack) [])))
        by true = there (moved f to stack) own
        by false = there (moved f to stack) own

    act_calm : (o : Operation) → is_quiet_operation o ≡ true → Calm (act o code world m p f [])
    act_calm (OnStack o) h = on_frame_calm (stacked o m.height f) (stacked_same o m.height)
    act_calm (OnWord o) h = on_frame_calm _ (word_same _)
    act_calm (OnWords o) h = on_frame_calm _ (words_same _)
    act_calm (OnPointers o) h = on_frame_calm _ (words_same _)
    act_calm (Reads o) h = on_frame_calm _ (word_same _)
    act_calm (Writes o) h = absurd (cc)
    act_calm (Transfers (J.Jump to)) h = by (is_place_of m to)
      where
        by : (b : Bool) → Calm (cond b (jump m p f [] to f.stack) (trap BadCode p))
        by true = jump_calm to f.stack
        by false = trapped BadCode
    act_calm (Transfers (J.JumpIfZero to)) h = by (is_place_of m to)
      where
        test : (b : Bool) (rest : List ℕ) → Calm (cond b (jump m p f [] to rest) (Next (running p (moved f (f.place + 1) rest) [])))
        test true rest = jump_calm to rest
        test false rest = there (moved f (f.place + 1) rest) own

        inner : (l : List ℕ) → Calm (on_top l (trap BadCode p) (λ v rest. cond (nat_eq v 0) (jump m p f [] to rest) (Next (running p (moved f (f.place + 1) rest) []))))
        inner [] = trapped BadCode
        inner (v ∷ rest) = test (nat_eq v 0) rest

        by : (b : Bool) → Calm (cond b (on_top f.stack (trap BadCode p) (λ v rest. cond (nat_eq v 0) (jump m p f [] to rest) (Next (running p (moved f (f.place + 1) rest) [])))) (trap BadCode p))
        by true = inner f.stack
        by false = trapped BadCode
    act_calm (Transfers (J.Call g)) h = absurd (cc)
    act_calm (Transfers (J.CallIndirect n)) h = absurd (cc)
    act_calm (Transfers J.Return) h = absurd (cc)
    act_calm (Transfers J.ReturnValue) h = absurd (cc)
    act_calm (Serves (S.Allocate site)) h = absurd (cc)
    act_calm (Serves S.Free) h = absurd (cc)
    act_calm (Serves S.Send) h = absurd (cc)
    act_calm (Serves S.Panic) h = by f.stack
      where
        by : (l : List ℕ) → Calm (on_top l (trap BadCode p) (λ n rest. trap (Panic (cast_signed w32 (n % 2 ^ 32))) p))
        by [] = trapped BadCode
        by (n ∷ rest) = trapped _

    step_calm : Calm (step_instruction code world p)
    step_calm =
        subst (λ o. Calm (some_or o (trap BadCode p) (fetched code world p f []))) (sym (ap (slice_get code.functions) own ∙ is)) (by (slice_get m.code f.place) refl)
      where
        by : (o : Option Instr) → slice_get m.code f.place ≡ o → Calm (some_or o (trap BadCode p) (λ i. act (operation_of i) code world m p f []))
        by None e = trapped BadCode
        by (Some i) e = act_calm (operation_of i) (all_get is_quiet m.code f.place i quiet e)

  -- a run ends with all but what runs as it was
  pub run_stays : (n left : ℕ) (f : Frame) (t : ℕ) → f.function ≡ function → (r : Final) → run_machine code world n left (under_way f t) ≡ Some r → Stays r.process
  run_stays zero left f t own r e = absurd (none r e)
    where
      none : (r : Final) → None ≡ Some r → ⊥
      none r e = cc
  run_stays (suc n) left f t own r e =
      by (step_instruction code world (under_way f t)) (step_calm f t own) e (λ left f t own e. run_stays n left f t own r e)
    where
      stays_here : (q : Process) (u : Run.Ending) → Stays q → Some (final u q) ≡ Some r → Stays r.process
      stays_here q u h e = let same : final u q ≡ r = cc in subst (λ (r : Final). Stays r.process) same h

      -- what stays where no call runs then
      at_idle : (u : Option Trap) → Stays (idle u (under_way f t))
      at_idle u = record { content = refl; rows = refl; last = refl; outbox = refl }

      at_pause : Stays (under_way f t)
      at_pause = record { content = refl; rows = refl; last = refl; outbox = refl }

      spent : (t' left : ℕ) (x : Process) → Goes x → spend t' left (run_machine code world n) (under_way f t) x ≡ Some r → ((left : ℕ) (f : Frame) (t : ℕ) → f.function ≡ function → run_machine code world n left (under_way f t) ≡ Some r → Stays r.process) → Stays r.process
      spent zero left x g e later = stays_here (idle (Some Budget) (under_way f t)) (Run.Trapped Budget) (at_idle (Some Budget)) e
      spent (suc t') zero x g e later = stays_here (under_way f t) Run.Paused at_pause e
      spent (suc t') (suc left) x g e later =
          later left g.frame t' g.same (sym (ap (λ (x : Process). run_machine code world n left (record x { spare = t' })) g.process) ∙ e)

      by : (k : Effect) → Calm k → onward k (run_machine code world n) left (under_way f t) ≡ Some r → ((left : ℕ) (f : Frame) (t : ℕ) → f.function ≡ function → run_machine code world n left (under_way f t) ≡ Some r → Stays r.process) → Stays r.process
      by (Next x) g e later = later left g.frame g.ticks g.same (sym (ap (run_machine code world n left) g.process) ∙ e)
      by (Spends x) g e later = spent t left x g e later
      by (Returns v x) g e later = absurd g
      by (Traps u x) h e later = stays_here x (Run.Trapped u) h e

  -- and so do instructions that go on
  pub steps_stay : (n spent : ℕ) (f : Frame) (t : ℕ) → f.function ≡ function → (q : Process) → Steps code world n spent (under_way f t) q → Goes q
  steps_stay zero spent f t own q e = let same : progress (under_way f t) 0 ≡ progress q spent = cc in record { frame = f; ticks = t; same = own; process = sym (ap (λ (x : Progress). x.process) same) }
  steps_stay (suc n) spent f t own q e =
      by (step_instruction code world (under_way f t)) (step_calm f t own) e (λ spent f t own e. steps_stay n spent f t own q e)
    where
      rest : (k : ℕ) (o : Option Progress) → option_map (after_ticks k) o ≡ Some (progress q spent) → (j : ℕ) × (o ≡ Some (progress q j))
      rest k None e = absurd (cc)
      rest k (Some a) e =
          let same : after_ticks k a ≡ progress q spent = cc in
          let there : a.process ≡ q = ap (λ (x : Progress). x.process) same in
          (a.spent, ap (λ (x : Process). Some (progress x a.spent)) there)

      on : (x : Process) (k : ℕ) → Goes x → option_map (after_ticks k) (advance code world n x) ≡ Some (progress q spent) → ((spent : ℕ) (f : Frame) (t : ℕ) → f.function ≡ function → Steps code world n spent (under_way f t) q → Goes q) → Goes q
      on x k g e later =
          let r = rest k (advance code world n x) e in
          later r.0 g.frame g.ticks g.same (sym (ap (advance code world n) g.process) ∙ r.1)

      ticks : (t' : ℕ) (x : Process) → Goes x → then_option (ticked t' x) (λ a. option_map (after_ticks a.spent) (advance code world n a.process)) ≡ Some (progress q spent) → ((spent : ℕ) (f : Frame) (t : ℕ) → f.function ≡ function → Steps code world n spent (under_way f t) q → Goes q) → Goes q
      ticks zero x g e later = absurd (cc)
      ticks (suc t') x g e later =
          on (record x { spare = t' }) 1 (record { frame = g.frame; ticks = t'; same = g.same; process = ap (λ (x : Process). record x { spare = t' }) g.process }) e later

      by : (k : Effect) → Calm k → then_option (progress_by k (under_way f t)) (λ a. option_map (after_ticks a.spent) (advance code world n a.process)) ≡ Some (progress q spent) → ((spent : ℕ) (f : Frame) (t : ℕ) → f.function ≡ function → Steps code world n spent (under_way f t) q → Goes q) → Goes q
      by (Next x) g e later = on x 0 g e later
      by (Spends x) g e later = ticks t x g e later
      by (Returns v x) g e later = absurd (cc)
      by (Traps u x) h e later = absurd (cc)

  -- none of them adds an object
  pub adds_none : (q : Process) → Goes q → AddsObject q (step_instruction code world q) → ⊥
  adds_none q g h =
      by (step_instruction code world (under_way g.frame g.ticks)) (step_calm g.frame g.ticks g.same) (subst (λ q. AddsObject q (step_instruction code world q)) g.process h)
    where
      by : (k : Effect) → Calm k → AddsObject (under_way g.frame g.ticks) k → ⊥
      by (Next x) c h = let same = ap (λ (x : Process). length x.rows) c.process in omega (arith, same, h)
      by (Spends x) c h = h
      by (Returns v x) c h = h
      by (Traps u x) c h = h
