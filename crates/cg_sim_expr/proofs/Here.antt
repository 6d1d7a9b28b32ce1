-- What instructions do at a place of a function, in a process that stands for a store.
use Rattle.std.proofs.Common.{◌≡◌, ◌∙◌, refl, ap, subst, true, false, cond, ℕ, ◌+◌, ◌<◌, ◌≤◌, List, ◌∷◌, length, Some, Result, Ok, Err, arith, nat_lt, nat_le, nat_eq}
use Rattle.std.specs.Prelude.{slice_get}
use Rattle.std.proofs.lemmas.Bool.Decides.{nat_tests}
use Rattle.lu_spec.specs.Then.{then_do}
use Rattle.lu_base.specs.declared.trap.Trap.{Trap}
use Rattle.lu_base.specs.declared.trap.Trap.TheVariants.{BadCode}
use Rattle.src_tree.specs.declared.program.Program.{Program}
use Rattle.src_tree.specs.declared.value.Store.{Store}
use Rattle.lu_base.specs.Sending.{Sent}
use Rattle.bm_isa.specs.declared.instr.Instr.{Instr}
use Rattle.bm_isa.specs.declared.instr.Instr.TheVariants as I
use Rattle.bm_code.specs.declared.code.MachineCode.{MachineCode}
use Rattle.bm_code.specs.declared.code.MachineFunction.{MachineFunction}
use Rattle.lu_base.specs.declared.world.World.{World}
use Rattle.bm_code.specs.Process.{Frame, Running, Process}
use Rattle.bm_code.specs.Frames.{some_or, on_word, on_words, advanced, moved, pushed}
use Rattle.bm_code.specs.Kinds.{operation_of}
use Rattle.bm_code.specs.Transfers.{Next, Spends, trap, running, jump}
use Rattle.bm_code.specs.Step.{step_instruction, act, fetched, on_frame}
use Rattle.cg_state.specs.Represents.{process_of}
use Rattle.cg_state.specs.Runs.{Leads, Point, TrapsAs, point}
use Rattle.cg_state.proofs.Tests.{lt_true, le_true, le_false, eq_false}
use Rattle.cg_state.proofs.Leads.{then_leads, leads_traps, next_leads, traps_here}

module _ (program : Program) (code : MachineCode) (world : World) where
  -- the run from a point comes to where a word is on the stack, or traps
  abbrev pub Does : Point → (ℕ → Point) → Result ℕ Trap → Type 0
  Does p to (Ok w) = Leads program code world p (to w)
  Does p to (Err t) = TrapsAs program code world p t p.ticks

  pub leads_does : (p q : Point) (to : ℕ → Point) (r : Result ℕ Trap) → q.ticks ≡ p.ticks → Leads program code world p q → Does q to r → Does p to r
  leads_does p q to (Ok w) e l d = then_leads program code world l d
  leads_does p q to (Err t) e l d = subst (λ n. TrapsAs program code world p t n) e (leads_traps program code world l d)

  pub then_does : (p : Point) (mid to : ℕ → Point) (r : Result ℕ Trap) (g : ℕ → Result ℕ Trap) → ((w : ℕ) → (mid w).ticks ≡ p.ticks) → Does p mid r → ((w : ℕ) → Does (mid w) to (g w)) → Does p to (then_do r g)
  then_does p mid to (Ok w) g e d k = leads_does p (mid w) to (g w) (e w) d (k w)
  then_does p mid to (Err t) g e d k = d

  module _ (f : ℕ) (m : MachineFunction) (is : slice_get code.functions f ≡ Some m) (callers : List Frame) where
    -- at a place of the function, with the words of the locals and the operands
    abbrev pub frame : List ℕ → ℕ → List ℕ → Frame
    frame words pc stack = record { function = f; place = pc; locals = words; stack = stack }

    abbrev pub process_here : Store → List Sent → List ℕ → ℕ → ℕ → List ℕ → Process
    process_here s o words t pc stack = process_of program s o (Running (frame words pc stack) callers) t

    abbrev pub here : Store → List Sent → List ℕ → ℕ → ℕ → List ℕ → Point
    here s o words t pc stack = point s o (Running (frame words pc stack) callers) t

    pub acts : (s : Store) (o : List Sent) (words : List ℕ) (t pc : ℕ) (stack : List ℕ) (i : Instr) → slice_get m.code pc ≡ Some i → step_instruction code world (process_here s o words t pc stack) ≡ act (operation_of i) code world m (process_here s o words t pc stack) (frame words pc stack) callers
    acts s o words t pc stack i at =
        let p = process_here s o words t pc stack in
        let fr = frame words pc stack in
        ap (λ q. some_or q (trap BadCode p) (fetched code world p fr callers)) is ∙ ap (λ q. some_or q (trap BadCode p) (λ i. act (operation_of i) code world m p fr callers)) at

    -- one instruction that goes on to another frame of the function, in a store and with sends
    pub goes : (s s' : Store) (o o' : List Sent) (words words' : List ℕ) (t pc pc' : ℕ) (stack stack' : List ℕ) (i : Instr) → slice_get m.code pc ≡ Some i → act (operation_of i) code world m (process_here s o words t pc stack) (frame words pc stack) callers ≡ Next (process_here s' o' words' t pc' stack') → Leads program code world (here s o words t pc stack) (here s' o' words' t pc' stack')
    goes s s' o o' words words' t pc pc' stack stack' i at e = next_leads program code world s s' o o' _ _ t (acts s o words t pc stack i at ∙ e)

    pub fails : (s : Store) (o : List Sent) (words : List ℕ) (t pc : ℕ) (stack : List ℕ) (i : Instr) (tr : Trap) → slice_get m.code pc ≡ Some i → act (operation_of i) code world m (process_here s o words t pc stack) (frame words pc stack) callers ≡ trap tr (process_here s o words t pc stack) → TrapsAs program code world (here s o words t pc stack) tr t
    fails s o words t pc stack i tr at e = traps_here program code world s o _ t tr (acts s o words t pc stack i at ∙ e)

    module _ (s : Store) (o : List Sent) (words : List ℕ) (t : ℕ) where
      abbrev pub on : ℕ → List ℕ → Point
      on pc stack = here s o words t pc stack

      -- a word goes onto the stack
      push_leads : (pc : ℕ) (stack : List ℕ) (w : ℕ) (i : Instr) → length stack < m.height → slice_get m.code pc ≡ Some i → act (operation_of i) code world m (process_here s o words t pc stack) (frame words pc stack) callers ≡ on_frame (pushed m.height (frame words pc stack) w) (process_here s o words t pc stack) callers → Leads program code world (on pc stack) (on (pc + 1) (w ∷ stack))
      push_leads pc stack w i room at e =
          goes s s o o words words t pc (pc + 1) stack (w ∷ stack) i at (e ∙ ap (λ b. on_frame (cond b (Ok (advanced (frame words pc stack) (w ∷ stack))) (Err BadCode)) (process_here s o words t pc stack) callers) (lt_true (length stack) m.height room))

      pub const_leads : (pc : ℕ) (stack : List ℕ) (w : ℕ) → length stack < m.height → slice_get m.code pc ≡ Some (I.Const w) → Leads program code world (on pc stack) (on (pc + 1) (w ∷ stack))
      const_leads pc stack w room at = push_leads pc stack w (I.Const w) room at refl

      pub get_leads : (pc : ℕ) (stack : List ℕ) (x w : ℕ) → slice_get words x ≡ Some w → length stack < m.height → slice_get m.code pc ≡ Some (I.GetLocal x) → Leads program code world (on pc stack) (on (pc + 1) (w ∷ stack))
      get_leads pc stack x w e room at =
          push_leads pc stack w (I.GetLocal x) room at (ap (λ q. on_frame (some_or q (Err BadCode) (pushed m.height (frame words pc stack))) (process_here s o words t pc stack) callers) e)

      pub swap_leads : (pc : ℕ) (stack : List ℕ) (a b : ℕ) → slice_get m.code pc ≡ Some I.Swap → Leads program code world (on pc (b ∷ a ∷ stack)) (on (pc + 1) (a ∷ b ∷ stack))
      swap_leads pc stack a b at = goes s s o o words words t pc (pc + 1) (b ∷ a ∷ stack) (a ∷ b ∷ stack) I.Swap at refl

      -- an instruction on the topmost word
      pub one_does : (pc : ℕ) (stack : List ℕ) (a : ℕ) (i : Instr) (g : ℕ → Result ℕ Trap) → slice_get m.code pc ≡ Some i → act (operation_of i) code world m (process_here s o words t pc (a ∷ stack)) (frame words pc (a ∷ stack)) callers ≡ on_frame (on_word g (frame words pc (a ∷ stack))) (process_here s o words t pc (a ∷ stack)) callers → Does (on pc (a ∷ stack)) (λ w. on (pc + 1) (w ∷ stack)) (g a)
      one_does pc stack a i g at e = by (g a) refl
        where
          by : (r : Result ℕ Trap) → g a ≡ r → Does (on pc (a ∷ stack)) (λ w. on (pc + 1) (w ∷ stack)) r
          by (Ok w) q = goes s s o o words words t pc (pc + 1) (a ∷ stack) (w ∷ stack) i at (e ∙ ap (λ r. on_frame (then_do r (λ v. Ok (advanced (frame words pc (a ∷ stack)) (v ∷ stack)))) (process_here s o words t pc (a ∷ stack)) callers) q)
          by (Err tr) q = fails s o words t pc (a ∷ stack) i tr at (e ∙ ap (λ r. on_frame (then_do r (λ v. Ok (advanced (frame words pc (a ∷ stack)) (v ∷ stack)))) (process_here s o words t pc (a ∷ stack)) callers) q)

      -- an instruction on the two topmost words
      pub two_do : (pc : ℕ) (stack : List ℕ) (a b : ℕ) (i : Instr) (g : ℕ → ℕ → Result ℕ Trap) → slice_get m.code pc ≡ Some i → act (operation_of i) code world m (process_here s o words t pc (b ∷ a ∷ stack)) (frame words pc (b ∷ a ∷ stack)) callers ≡ on_frame (on_words g (frame words pc (b ∷ a ∷ stack))) (process_here s o words t pc (b ∷ a ∷ stack)) callers → Does (on pc (b ∷ a ∷ stack)) (λ w. on (pc + 1) (w ∷ stack)) (g a b)
      two_do pc stack a b i g at e = by (g a b) refl
        where
          by : (r : Result ℕ Trap) → g a b ≡ r → Does (on pc (b ∷ a ∷ stack)) (λ w. on (pc + 1) (w ∷ stack)) r
          by (Ok w) q = goes s s o o words words t pc (pc + 1) (b ∷ a ∷ stack) (w ∷ stack) i at (e ∙ ap (λ r. on_frame (then_do r (λ v. Ok (advanced (frame words pc (b ∷ a ∷ stack)) (v ∷ stack)))) (process_here s o words t pc (b ∷ a ∷ stack)) callers) q)
          by (Err tr) q = fails s o words t pc (b ∷ a ∷ stack) i tr at (e ∙ ap (λ r. on_frame (then_do r (λ v. Ok (advanced (frame words pc (b ∷ a ∷ stack)) (v ∷ stack)))) (process_here s o words t pc (b ∷ a ∷ stack)) callers) q)

      -- jumps forward
      pub jump_leads : (pc to : ℕ) (stack : List ℕ) → pc < to → to < length m.code → slice_get m.code pc ≡ Some (I.Jump to) → Leads program code world (on pc stack) (on to stack)
      jump_leads pc to stack lt within at =
          let p = process_here s o words t pc stack in
          let there = running p (frame words to stack) callers in
          goes s s o o words words t pc to stack stack (I.Jump to) at (ap (λ b. cond b (jump m p (frame words pc stack) callers to stack) (trap BadCode p)) (lt_true to (length m.code) within) ∙ ap (λ b. cond b (Spends there) (Next there)) (le_false to pc lt))

      pub zero_leads : (pc to : ℕ) (stack : List ℕ) → pc < to → to < length m.code → slice_get m.code pc ≡ Some (I.JumpIfZero to) → Leads program code world (on pc (0 ∷ stack)) (on to stack)
      zero_leads pc to stack lt within at =
          let p = process_here s o words t pc (0 ∷ stack) in
          let there = running p (frame words to stack) callers in
          goes s s o o words words t pc to (0 ∷ stack) stack (I.JumpIfZero to) at (ap (λ b. cond b (jump m p (frame words pc (0 ∷ stack)) callers to stack) (trap BadCode p)) (lt_true to (length m.code) within) ∙ ap (λ b. cond b (Spends there) (Next there)) (le_false to pc lt))

      pub other_leads : (pc to w : ℕ) (stack : List ℕ) → (w ≡ 0 → ⊥) → to < length m.code → slice_get m.code pc ≡ Some (I.JumpIfZero to) → Leads program code world (on pc (w ∷ stack)) (on (pc + 1) stack)
      other_leads pc to w stack some within at =
          let p = process_here s o words t pc (w ∷ stack) in
          let fr = frame words pc (w ∷ stack) in
          let next = Next (running p (moved fr (pc + 1) stack) callers) in
          goes s s o o words words t pc (pc + 1) (w ∷ stack) stack (I.JumpIfZero to) at (ap (λ b. cond b (cond (nat_eq w 0) (jump m p fr callers to stack) next) (trap BadCode p)) (lt_true to (length m.code) within) ∙ ap (λ b. cond b (jump m p fr callers to stack) next) (eq_false w some))
