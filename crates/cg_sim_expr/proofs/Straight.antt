-- Pieces of code that work on the operand stack alone and don't raise it.
use Rattle.std.proofs.Common.{◌≡◌, ◌∙◌, refl, ap, subst, ℕ, ◌+◌, List, [], ◌∷◌, length, Some, Result, Ok, Err, arith}
use Rattle.std.specs.Prelude.{slice_get}
use Rattle.lu_spec.specs.Then.{then_do}
use Rattle.lu_base.specs.declared.trap.Trap.{Trap}
use Rattle.lu_base.specs.declared.trap.Trap.TheVariants.{BadCode}
use Rattle.c_types.specs.declared.parts.Parts.{Parts}
use Rattle.src_tree.specs.declared.program.Program.{Program}
use Rattle.src_tree.specs.declared.value.Store.{Store}
use Rattle.lu_base.specs.Sending.{Sent}
use Rattle.bm_isa.specs.declared.instr.Instr.{Instr}
use Rattle.bm_mem.specs.Content.{Content}
use Rattle.bm_objects.specs.declared.row.Row.{Row}
use Rattle.bm_alu.specs.Words.{combined, transformed}
use Rattle.bm_code.specs.declared.code.MachineCode.{MachineCode}
use Rattle.bm_code.specs.declared.code.MachineFunction.{MachineFunction}
use Rattle.lu_base.specs.declared.world.World.{World}
use Rattle.bm_code.specs.declared.operation.Operation.{Operation}
use Rattle.bm_code.specs.declared.operation.Operation.TheVariants.{OnStack, OnWord, OnWords, OnPointers, Reads, Writes, Transfers, Serves}
use Rattle.bm_code.specs.declared.operation.Stacking.TheVariants.{Constant, GetLocal, SetLocal, Pop, Duplicate, Swap}
use Rattle.bm_code.specs.Kinds.{operation_of}
use Rattle.bm_code.specs.Process.{Frame, Process}
use Rattle.bm_code.specs.Frames.{advanced}
use Rattle.bm_code.specs.Pointers.{pointed, read}
use Rattle.bm_code.specs.Transfers.{Effect, Next, trap}
use Rattle.bm_code.specs.Step.{act, on_frame}
use Rattle.cg_state.specs.Represents.{content_of, rows_of}
use Rattle.cg_state.specs.Runs.{HasAt, IsPlain, Leads, Point, TrapsAs}
use Rattle.cg_state.proofs.Leads.{then_leads, stays, leads_traps}
use Rattle.cg_sim_expr.proofs.Here.{frame, process_here, on, goes, fails}

abbrev pub one_word : List ℕ → Result ℕ Trap → Result (List ℕ) Trap
one_word rest r = then_do r (λ v. Ok (v ∷ rest))

-- what an operation makes of the stack
abbrev pub word_effect : Parts → Content → List Row → Operation → List ℕ → Result (List ℕ) Trap
word_effect types content rows (OnStack Swap) (b ∷ a ∷ rest) = Ok (a ∷ b ∷ rest)
word_effect types content rows (OnWord u) (a ∷ rest) = one_word rest (transformed u a)
word_effect types content rows (OnWords u) (b ∷ a ∷ rest) = one_word rest (combined u a b)
word_effect types content rows (OnPointers u) (b ∷ a ∷ rest) = one_word rest (pointed u rows a b)
word_effect types content rows (Reads u) (a ∷ rest) = one_word rest (read u types content rows a)
word_effect types content rows _ _ = Err BadCode

abbrev pub straight : Parts → Content → List Row → List Instr → List ℕ → Result (List ℕ) Trap
straight types content rows [] stack = Ok stack
straight types content rows (i ∷ is) stack =
    then_do (word_effect types content rows (operation_of i) stack) (straight types content rows is)

-- a result that is not the trap of ill-formed code
abbrev pub IsFine : {A : Type 0} → Result A Trap → Type 0
IsFine (Ok a) = Unit {0}
IsFine (Err t) = IsPlain t

fine_first : {A B : Type 0} (r : Result A Trap) (f : A → Result B Trap) → IsFine (then_do r f) → IsFine r
fine_first (Ok a) f h = tt
fine_first (Err t) f h = h

module _ (program : Program) (code : MachineCode) (same : code.types ≡ program.types) (world : World) where
  -- the run comes to where a stack is, or traps
  abbrev pub DoesTo : Point → (List ℕ → Point) → Result (List ℕ) Trap → Type 0
  DoesTo p to (Ok stack) = Leads program code world p (to stack)
  DoesTo p to (Err t) = TrapsAs program code world p t p.ticks

  then_does_to : (p : Point) (mid to : List ℕ → Point) (r : Result (List ℕ) Trap) (g : List ℕ → Result (List ℕ) Trap) → ((w : List ℕ) → (mid w).ticks ≡ p.ticks) → DoesTo p mid r → ((w : List ℕ) → r ≡ Ok w → DoesTo (mid w) to (g w)) → DoesTo p to (then_do r g)
  then_does_to p mid to (Ok w) g e d k = leads_on (g w) (k w refl)
    where
      leads_on : (r : Result (List ℕ) Trap) → DoesTo (mid w) to r → DoesTo p to r
      leads_on (Ok v) h = then_leads program code world d h
      leads_on (Err t) h = subst (λ n. TrapsAs program code world p t n) (e w) (leads_traps program code world d h)
  then_does_to p mid to (Err t) g e d k = d

  module _ (f : ℕ) (m : MachineFunction) (is : slice_get code.functions f ≡ Some m) (callers : List Frame) (s : Store) (o : List Sent) (words : List ℕ) (t : ℕ) where
    abbrev at : ℕ → List ℕ → Point
    at pc stack = on program code world f m is callers s o words t pc stack

    abbrev p_at : ℕ → List ℕ → Process
    p_at pc stack = process_here program code world f m is callers s o words t pc stack

    abbrev f_at : ℕ → List ℕ → Frame
    f_at pc stack = frame program code world f m is callers words pc stack

    abbrev outcome : ℕ → List ℕ → Result (List ℕ) Trap → Effect
    outcome pc stack (Ok next) = Next (p_at (pc + 1) next)
    outcome pc stack (Err tr) = trap tr (p_at pc stack)

    frame_is : (pc : ℕ) (stack rest : List ℕ) (q : Result ℕ Trap) → on_frame (then_do q (λ v. Ok (advanced (f_at pc stack) (v ∷ rest)))) (p_at pc stack) callers ≡ outcome pc stack (one_word rest q)
    frame_is pc stack rest (Ok v) = refl
    frame_is pc stack rest (Err tr) = refl

    abbrev effect_of : Operation → List ℕ → Result (List ℕ) Trap
    effect_of u stack = word_effect program.types (content_of program.types s) (rows_of program s) u stack

    act_is : (pc : ℕ) (u : Operation) (stack : List ℕ) → IsFine (effect_of u stack) → act u code world m (p_at pc stack) (f_at pc stack) callers ≡ outcome pc stack (effect_of u stack)
    act_is pc (OnStack Swap) (b ∷ a ∷ rest) h = refl
    act_is pc (OnWord u) (a ∷ rest) h = frame_is pc (a ∷ rest) rest (transformed u a)
    act_is pc (OnWords u) (b ∷ a ∷ rest) h = frame_is pc (b ∷ a ∷ rest) rest (combined u a b)
    act_is pc (OnPointers u) (b ∷ a ∷ rest) h = frame_is pc (b ∷ a ∷ rest) rest (pointed u (rows_of program s) a b)
    act_is pc (Reads u) (a ∷ rest) h =
        ap (λ ts. on_frame (then_do (read u ts (content_of program.types s) (rows_of program s) a) (λ v. Ok (advanced (f_at pc (a ∷ rest)) (v ∷ rest)))) (p_at pc (a ∷ rest)) callers) same
        ∙ frame_is pc (a ∷ rest) rest (read u program.types (content_of program.types s) (rows_of program s) a)
    act_is pc (OnStack (Constant k)) stack h = absurd h
    act_is pc (OnStack (GetLocal x)) stack h = absurd h
    act_is pc (OnStack (SetLocal x)) stack h = absurd h
    act_is pc (OnStack Pop) stack h = absurd h
    act_is pc (OnStack Duplicate) stack h = absurd h
    act_is pc (OnStack Swap) [] h = absurd h
    act_is pc (OnStack Swap) (b ∷ []) h = absurd h
    act_is pc (OnWord u) [] h = absurd h
    act_is pc (OnWords u) [] h = absurd h
    act_is pc (OnWords u) (b ∷ []) h = absurd h
    act_is pc (OnPointers u) [] h = absurd h
    act_is pc (OnPointers u) (b ∷ []) h = absurd h
    act_is pc (Reads u) [] h = absurd h
    act_is pc (Writes u) stack h = absurd h
    act_is pc (Transfers u) stack h = absurd h
    act_is pc (Serves u) stack h = absurd h

    step_does : (pc : ℕ) (i : Instr) (stack : List ℕ) → slice_get m.code pc ≡ Some i → IsFine (effect_of (operation_of i) stack) → DoesTo (at pc stack) (λ next. at (pc + 1) next) (effect_of (operation_of i) stack)
    step_does pc i stack e h = by (effect_of (operation_of i) stack) (act_is pc (operation_of i) stack h)
      where
        by : (r : Result (List ℕ) Trap) → act (operation_of i) code world m (p_at pc stack) (f_at pc stack) callers ≡ outcome pc stack r → DoesTo (at pc stack) (λ next. at (pc + 1) next) r
        by (Ok next) q = goes program code world f m is callers s s o o words words t pc (pc + 1) stack next i e q
        by (Err tr) q = fails program code world f m is callers s o words t pc stack i tr e q

    -- such a piece of code does to the stack what it says
    pub straight_does : (is : List Instr) (pc : ℕ) (stack : List ℕ) → HasAt m.code pc is → IsFine (straight program.types (content_of program.types s) (rows_of program s) is stack) → DoesTo (at pc stack) (λ next. at (pc + length is) next) (straight program.types (content_of program.types s) (rows_of program s) is stack)
    straight_does [] pc stack has h =
        let n : pc ≡ pc + 0 = omega arith in
        subst (λ n. Leads program code world (at pc stack) (at n stack)) n (stays program code world (at pc stack))
    straight_does (i ∷ is) pc stack has h =
        let n : pc + 1 + length is ≡ pc + length (i ∷ is) = omega arith in
        subst (λ n. DoesTo (at pc stack) (λ next. at n next) (straight program.types (content_of program.types s) (rows_of program s) (i ∷ is) stack)) n (then_does_to (at pc stack) (λ next. at (pc + 1) next) (λ next. at (pc + 1 + length is) next) (effect_of (operation_of i) stack) (straight program.types (content_of program.types s) (rows_of program s) is) (λ w. refl) (step_does pc i stack has.0 (fine_first (effect_of (operation_of i) stack) (straight program.types (content_of program.types s) (rows_of program s) is) h)) (λ w e.
        straight_does is (pc + 1) w has.1 (subst (λ r. IsFine (then_do r (straight program.types (content_of program.types s) (rows_of program s) is))) e h)))
