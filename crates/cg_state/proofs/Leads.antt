-- How instructions lead from a process that stands for a store to another, or to a trap.
use Rattle.std.proofs.Common.{◌≡◌, refl, sym, subst, ℕ, suc, ◌+◌, List, Some, Ok, Err, arith}
use Rattle.lu_spec.specs.Then.{then_do}
use Rattle.lu_base.specs.declared.trap.Trap.{Trap}
use Rattle.lu_base.specs.declared.trap.Trap.TheVariants.{Budget}
use Rattle.src_tree.specs.declared.program.Program.{Program}
use Rattle.src_tree.specs.declared.value.Store.{Store}
use Rattle.src_meaning.specs.Objects.{Gives}
use Rattle.lu_base.specs.Sending.{Sent}
use Rattle.bm_code.specs.declared.code.MachineCode.{MachineCode}
use Rattle.lu_base.specs.declared.world.World.{World}
use Rattle.bm_code.specs.Process.{Activity, Process}
use Rattle.bm_code.specs.Transfers.{Effect, Next, Spends, Traps, idle}
use Rattle.bm_code.specs.Step.{step_instruction}
use Rattle.bm_code.proofs.Steps.{once_next, once_tick, steps_compose}
use Rattle.cg_state.specs.Represents.{process_of}
use Rattle.cg_state.specs.Runs as runs
use Rattle.cg_state.specs.Runs.{IsPlain, Point, point, TrapsBy, process_at}

module _ (program : Program) (code : MachineCode) (world : World) where
  abbrev Leads : Point → Point → Type 0
  Leads p q = runs.Leads program code world p q

  abbrev TrapsAs : Point → Trap → ℕ → Type 0
  TrapsAs p t ticks = runs.TrapsAs program code world p t ticks

  abbrev Yields : {A : Type 0} → Point → (A → Type 0) → (A → Point) → Gives A → Type 0
  Yields p good to r = runs.Yields program code world p good to r

  pub stays : (p : Point) → Leads p p
  stays p = record { count = 0; spent = 0; counted = omega arith; steps = refl }

  pub then_leads : {p q s : Point} → Leads p q → Leads q s → Leads p s
  then_leads {p = p} {q = q} {s = s} l m = record {
    count = l.count + m.count;
    spent = l.spent + m.spent;
    counted = omega (arith, l.counted, m.counted);
    steps = steps_compose code world l.count m.count l.spent m.spent (process_at program code world p) (process_at program code world q) (process_at program code world s) l.steps m.steps;
  }

  -- one instruction
  pub next_leads : (s1 s2 : Store) (o1 o2 : List Sent) (a1 a2 : Activity) (t : ℕ) → step_instruction code world (process_of program s1 o1 a1 t) ≡ Next (process_of program s2 o2 a2 t) → Leads (point s1 o1 a1 t) (point s2 o2 a2 t)
  next_leads s1 s2 o1 o2 a1 a2 t e = record {
    count = 1;
    spent = 0;
    counted = omega arith;
    steps = once_next code world (process_of program s1 o1 a1 t) (process_of program s2 o2 a2 t) e;
  }

  -- one instruction that takes a tick
  pub tick_leads : (s1 s2 : Store) (o1 o2 : List Sent) (a1 a2 : Activity) (t : ℕ) → step_instruction code world (process_of program s1 o1 a1 (suc t)) ≡ Spends (process_of program s2 o2 a2 (suc t)) → Leads (point s1 o1 a1 (suc t)) (point s2 o2 a2 t)
  tick_leads s1 s2 o1 o2 a1 a2 t e = record {
    count = 1;
    spent = 1;
    counted = omega arith;
    steps = once_tick code world t (process_of program s1 o1 a1 (suc t)) (process_of program s2 o2 a2 (suc t)) e refl;
  }

  -- the next instruction traps
  traps_at_once : (p : Point) (t : Trap) (e : Effect) → step_instruction code world (process_at program code world p) ≡ e → TrapsBy t (process_at program code world p) e → TrapsAs p t p.ticks
  traps_at_once p t e is h = record {
    count = 0;
    spent = 0;
    counted = omega arith;
    process = process_at program code world p;
    spare = refl;
    steps = refl;
    traps = subst (TrapsBy t (process_at program code world p)) (sym is) h;
  }

  pub traps_here : (s : Store) (o : List Sent) (a : Activity) (t : ℕ) (trap : Trap) → step_instruction code world (process_of program s o a t) ≡ Traps trap (idle (Some trap) (process_of program s o a t)) → TrapsAs (point s o a t) trap t
  traps_here s o a t trap e = traps_at_once (point s o a t) trap _ e (refl, refl)

  pub no_tick : (s : Store) (o : List Sent) (a : Activity) (q : Process) → step_instruction code world (process_of program s o a 0) ≡ Spends q → TrapsAs (point s o a 0) Budget 0
  no_tick s o a q e = traps_at_once (point s o a 0) Budget _ e (refl, refl)

  pub leads_traps : {p q : Point} {t : Trap} {n : ℕ} → Leads p q → TrapsAs q t n → TrapsAs p t n
  leads_traps {p = p} {q = q} l c = record {
    count = l.count + c.count;
    spent = l.spent + c.spent;
    counted = omega (arith, l.counted, c.counted);
    process = c.process;
    spare = c.spare;
    steps = steps_compose code world l.count c.count l.spent c.spent (process_at program code world p) (process_at program code world q) c.process l.steps c.steps;
    traps = c.traps;
  }

  pub leads_yields : {A : Type 0} (p q : Point) (good : A → Type 0) (to : A → Point) (r : Gives A) → q.ticks ≡ p.ticks → Leads p q → Yields q good to r → Yields p good to r
  leads_yields p q good to (Ok a) e l y = (y.0, then_leads l y.1)
  leads_yields p q good to (Err t) e l y = (y.0, subst (λ n. TrapsAs p t n) e (leads_traps l y.1))

  pub then_yields : {A B : Type 0} (p : Point) (good : A → Type 0) (mid : A → Point) (good' : B → Type 0) (to : B → Point) (r : Gives A) (f : A → Gives B) → ((a : A) → (mid a).ticks ≡ p.ticks) → Yields p good mid r → ((a : A) → good a → Yields (mid a) good' to (f a)) → Yields p good' to (then_do r f)
  then_yields p good mid good' to (Ok a) f e y k = leads_yields p (mid a) good' to (f a) (e a) y.1 (k a y.0)
  then_yields p good mid good' to (Err t) f e y k = y
