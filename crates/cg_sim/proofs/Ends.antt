-- How a statement and a call end, on both sides.
use Rattle.std.proofs.Common.{◌≡◌, subst, true, ℕ, ◌<◌, List, [], ◌∷◌, ◌++◌, Option, Some, None, Ok, Err}
use Rattle.std.specs.Prelude.{slice_get, unwrap_or, option_to_list}
use Rattle.std.specs.Option.{option_map}
use Rattle.src_tree.specs.declared.value.Value.{Value}
use Rattle.src_tree.specs.declared.value.Store.{Store}
use Rattle.src_tree.specs.declared.program.Program.{Program}
use Rattle.src_meaning.specs.Objects.{Gives}
use Rattle.lu_base.specs.Sending.{Sent}
use Rattle.src_meaning.specs.Store.{IsStore}
use Rattle.src_meaning.specs.Call.{State, Ending, Returned, Trapped, Starved, Outcome, Goes_on, Breaks, Continues, Leaves, with_gives, go_on}
use Rattle.src_meaning.specs.ValidTypes.{is_scalar}
use Rattle.bm_code.specs.declared.code.MachineCode.{MachineCode}
use Rattle.lu_base.specs.declared.world.World.{World}
use Rattle.bm_code.specs.Process.{Frame, Running, Activity}
use Rattle.bm_code.specs.Frames.{moved}
use Rattle.bm_code.specs.Transfers.{give_back}
use Rattle.bm_code.specs.Step.{step_instruction}
use Rattle.cg_state.specs.Represents.{process_of}
use Rattle.cg_stmt.specs.declared.statements.Exits.{Exits}
use Rattle.cg_state.specs.Runs.{Point, point, IsPlain, Leads, TrapsAs, Yields}
use Rattle.cg_state.proofs.Leads.{then_leads, stays, next_leads, leads_traps}
use Rattle.cg_sim.specs.CallEnds.{ReturnsAs}
use Rattle.c_types.specs.Refusal.{IsBuilt}
use Rattle.cg_state.proofs.Typed.{Typed}
use Rattle.cg_sim_expr.proofs.Matching.{word}
use Rattle.src_laws.proofs.Extended.{Extends}
use Rattle.cg_sim.proofs.Kept.{AllTyped}

module _ (p : Program) (built : IsBuilt p.types) (code : MachineCode) (world : World) where
  -- the run from there gives a word, or none, back to the caller, or ends
  abbrev pub GivesBack : Point → List Frame → Option ℕ → Store → List Sent → ℕ → Type 0
  GivesBack q [] w s o t = ReturnsAs p code world q (unwrap_or w 0) s o t
  GivesBack q (c ∷ callers) w s o t =
      Leads p code world q (point s o (Running (moved c c.place (option_to_list w ++ c.stack)) callers) t)

  pub given_back : (s : Store) (o : List Sent) (a : Activity) (t : ℕ) (w : Option ℕ) (cs : List Frame) → step_instruction code world (process_of p s o a t) ≡ give_back w (process_of p s o a t) cs → GivesBack (point s o a t) cs w s o t
  given_back s o a t w [] e = record { activity = a; leads = stays p code world (point s o a t); returns = e }
  given_back s o a t w (c ∷ cs) e = next_leads p code world s s o o a _ t e

  leads_back : (q r : Point) (cs : List Frame) (w : Option ℕ) (s : Store) (o : List Sent) (t : ℕ) → Leads p code world q r → GivesBack r cs w s o t → GivesBack q cs w s o t
  leads_back q r [] w s o t l h = record { activity = h.activity; leads = then_leads p code world l h.leads; returns = h.returns }
  leads_back q r (c ∷ cs) w s o t l h = then_leads p code world l h

  -- a result of a function with such a type
  abbrev pub GoodResult : Store → Option ℕ → Option Value → Type 0
  GoodResult s None None = Unit {0}
  GoodResult s (Some u) (Some v) = (is_scalar (slice_get p.types.types u) ≡ true) × Typed p built s u v
  GoodResult s _ _ = ⊥

  -- the run from there ends the call as the source's call ends; `base` is a store that later ones extend
  abbrev pub Finishes : Store → Point → List Frame → Option ℕ → Ending → Type 0
  Finishes base q callers ret (Returned v s o t) =
      GoodResult s ret v × IsStore p s × Extends base.objects s.objects × GivesBack q callers (option_map (word p built s) v) s o t
  Finishes base q callers ret (Trapped tr t) = IsPlain tr × TrapsAs p code world q tr t
  Finishes base q callers ret Starved = Unit {0}

  pub leads_finishes : (base : Store) (q r : Point) (callers : List Frame) (ret : Option ℕ) (e : Ending) → Leads p code world q r → Finishes base r callers ret e → Finishes base q callers ret e
  leads_finishes base q r callers ret (Returned v s o t) l h = (h.0, h.1, h.2, leads_back q r callers (option_map (word p built s) v) s o t l h.3)
  leads_finishes base q r callers ret (Trapped tr t) l h = (h.0, leads_traps p code world l h.1)
  leads_finishes base q r callers ret Starved l h = tt

  -- what holds of a state of a function whose parameters and locals have these types
  pub record Good (base : Store) (us : List ℕ) (st : State) : Type 0 where
    pub store : IsStore p st.store
    pub kept : Extends base.objects st.store.objects
    pub locals : AllTyped p built st.store us st.locals

  module _ (base : Store) (callers : List Frame) (us : List ℕ) (ret : Option ℕ) (to : State → ℕ → Point) (exits : Exits) where
    -- The run from there comes to where a statement ends, or ends the call; `to` is where a place of the function is.
    -- No statement breaks where there is no loop, whose turn ends before it is left
    abbrev pub Follows : Point → ℕ → Outcome → Type 0
    Follows q pc (Goes_on st) = Good base us st × Leads p code world q (to st pc)
    Follows q pc (Breaks st) = (exits.turn < exits.leave) × Good base us st × Leads p code world q (to st exits.leave)
    Follows q pc (Continues st) = (exits.turn < exits.leave) × Good base us st × Leads p code world q (to st exits.turn)
    Follows q pc (Leaves e) = Finishes base q callers ret e

    pub leads_follows : (q r : Point) (pc : ℕ) (o : Outcome) → Leads p code world q r → Follows r pc o → Follows q pc o
    leads_follows q r pc (Goes_on st) l h = (h.0, then_leads p code world l h.1)
    leads_follows q r pc (Breaks st) l h = (h.0, h.1, then_leads p code world l h.2)
    leads_follows q r pc (Continues st) l h = (h.0, h.1, then_leads p code world l h.2)
    leads_follows q r pc (Leaves e) l h = leads_finishes base q r callers ret e l h

    pub follows_at : (q : Point) (pc pc' : ℕ) (o : Outcome) → pc ≡ pc' → Follows q pc o → Follows q pc' o
    follows_at q pc pc' o e h = subst (λ n. Follows q n o) e h

    pub with_follows : {A : Type 0} (q : Point) (pc : ℕ) (good : A → Type 0) (mid : A → Point) (r : Gives A) (st : State) (f : A → Outcome) → q.ticks ≡ st.ticks → Yields p code world q good mid r → ((a : A) → good a → Follows (mid a) pc (f a)) → Follows q pc (with_gives r st f)
    with_follows q pc good mid (Ok a) st f e y g = leads_follows q (mid a) pc (f a) y.1 (g a y.0)
    with_follows q pc good mid (Err tr) st f e y g = (y.0, subst (λ n. TrapsAs p code world q tr n) e y.1)

    pub then_follows : (q : Point) (mid pc : ℕ) (o : Outcome) (g : State → Outcome) → Follows q mid o → ((st : State) → Good base us st → Follows (to st mid) pc (g st)) → Follows q pc (go_on o g)
    then_follows q mid pc (Goes_on st) g h f = leads_follows q (to st mid) pc (g st) h.1 (f st h.0)
    then_follows q mid pc (Breaks st) g h f = h
    then_follows q mid pc (Continues st) g h f = h
    then_follows q mid pc (Leaves e) g h f = h
