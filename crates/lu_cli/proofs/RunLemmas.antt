-- A run, event by event.
use Rattle.std.proofs.Common.{◌≡◌, ◌≤◌, ◌<◌, ◌⊎◌, inl, inr, ℕ, suc, ◌+◌, List, [], ◌∷◌, ◌++◌, length, map, Option, Some, None, Result, Ok, Err, IfSome, refl, sym, ◌∙◌, ap, subst, append_assoc, arith}
use Rattle.std.proofs.lemmas.List.{append-nil}
use Rattle.sched_file.specs.declared.event.Event.{Event}
use Rattle.sys_mail.specs.Room.{CellRoom, cell_values}
use Rattle.sys_world.specs.World.{CellValue}
use Rattle.sys_run.specs.declared.runner.Runner.{Runner}
use Rattle.sys_run.specs.declared.system.ServerCode.{ServerCode}
use Rattle.sys_run.specs.Runs.{SystemValue, Machines}
use Rattle.sys_run.specs.Start.{start_runner, start_cell}
use Rattle.sys_run.specs.Events.{IsStep}
use Rattle.lu_load.specs.declared.setup.Setup.{Setup}
use Rattle.lu_cli.specs.Told.{AreServersOf, AreTold, TellsFirst, Tells, start, silent, event_at, lines_bytes}
use Rattle.lu_cli.specs.Ran.{machines, StepWrote, WroteFrontOf, IsRunFront, RunFront, RunWrote}

-- the first events have happened, and the lines of what they tell were written
pub record Reached (setup : Setup) (servers : List ServerCode) (n : ℕ) (system : SystemValue) (before : List ℕ) (after : Option (List ℕ)) : Type 0 where
  pub text : List ℕ
  pub now : Machines
  pub told : AreTold setup.events (start servers) n now text
  pub same : machines system [] ≡ silent now
  pub wrote : after ≡ Some (before ++ text)

same_machines : (runners other : List Runner) (cells others : List CellValue) → runners ≡ other → cells ≡ others
    → ◌≡◌ {A = Machines} (record { runners = runners; mail = record { cells = cells; told = [] } }) (record { runners = other; mail = record { cells = others; told = [] } })
same_machines runners other cells others a b =
    ap (λ rs. record { runners = rs; mail = record { cells = cells; told = [] } }) a ∙ ap (λ cs. record { runners = other; mail = record { cells = cs; told = [] } }) b

pub begins : (setup : Setup) (servers : List ServerCode) (system : SystemValue) (held : Option (List ℕ)) → system.runners ≡ map (start_runner servers) servers
    → cell_values system.cells ≡ map start_cell servers → IfSome held (λ before. Reached setup servers 0 system before held)
begins setup servers system None a b = tt
begins setup servers system (Some before) a b = record {
  text = [];
  now = start servers;
  told = (refl, refl);
  same = same_machines system.runners (map (start_runner servers) servers) (cell_values system.cells) (map start_cell servers) a b;
  wrote = ap (λ l. Some l) (sym (append-nil before));
}

some_same : (a b : List ℕ) → ◌≡◌ {A = Option (List ℕ)} (Some a) (Some b) → a ≡ b
some_same a b e = cc

-- one more event was told
told_more : (setup : Setup) (servers : List ServerCode) (n : ℕ) (old now new : Machines) (text : List ℕ) → old ≡ silent now
    → AreTold setup.events (start servers) n now text → IsStep (event_at setup.events n) old new
    → AreTold setup.events (start servers) (suc n) new (text ++ lines_bytes new.mail.told)
told_more setup servers n old now new text same told step =
    (now, text, told, subst (λ w. IsStep (event_at setup.events n) w new) same step, refl)

pub goes_on : (setup : Setup) (servers : List ServerCode) (n : ℕ) (old new : SystemValue) (held mid after : Option (List ℕ))
    → IfSome held (λ before. Reached setup servers n old before mid)
    → IfSome mid (λ b. StepWrote {E = Unit {0}} (event_at setup.events n) old new b after (Ok tt))
    → IfSome held (λ before. Reached setup servers (n + 1) new before after)
goes_on setup servers n old new None mid after r s = tt
goes_on setup servers n old new (Some before) mid after r s =
    let w = subst (λ o. IfSome o (λ b. StepWrote {E = Unit {0}} (event_at setup.events n) old new b after (Ok tt))) r.wrote s in record {
      text = r.text ++ lines_bytes w.0;
      now = machines new w.0;
      told = (let next : suc n ≡ n + 1 = omega (arith) in subst (λ k. AreTold setup.events (start servers) k (machines new w.0) (r.text ++ lines_bytes w.0)) next
          (told_more setup servers n (machines old []) r.now (machines new w.0) r.text r.same r.told w.1));
      same = refl;
      wrote = w.2 ∙ ap (λ l. Some l) (append_assoc before r.text (lines_bytes w.0));
    }

stopped : (setup : Setup) (servers : List ServerCode) (n : ℕ) (old : SystemValue) (before b : List ℕ) (after : Option (List ℕ)) (text : List ℕ) (now : Machines)
    → AreServersOf setup servers → n < length setup.events + 2 → AreTold setup.events (start servers) n now text → machines old [] ≡ silent now → b ≡ before ++ text
    → WroteFrontOf (event_at setup.events n) old b after ⊎ (after ≡ Some b)
    → (front : List ℕ) × RunFront setup front × (after ≡ Some (before ++ front))
stopped setup servers n old before b after text now are within told same e (inl w) = (
  text ++ w.front,
  inr (record {
    count = suc n;
    within = within;
    text = text ++ lines_bytes w.told;
    tells = record { servers = servers; are = are; now = machines w.new w.told; told = told_more setup servers n (machines old []) now (machines w.new w.told) text same told w.step };
    is = (w.is.0, ap (λ l. text ++ l) w.is.1 ∙ sym (append_assoc text w.front w.is.0));
  }),
  w.wrote ∙ ap (λ l. Some (l ++ w.front)) e ∙ ap (λ l. Some l) (append_assoc before text w.front),
)
stopped setup servers n old before b after text now are within told same e (inr w) = (
  text,
  inr (record {
    count = n;
    within = omega (arith, within);
    text = text;
    tells = record { servers = servers; are = are; now = now; told = told };
    is = ([], sym (append-nil text));
  }),
  w ∙ ap (λ l. Some l) e,
)

pub stops : {E F : Type 0} (setup : Setup) (servers : List ServerCode) (n : ℕ) (old new : SystemValue) (held mid after : Option (List ℕ)) (e : E) (f : F)
    → AreServersOf setup servers → n < length setup.events + 2 → IfSome held (λ before. Reached setup servers n old before mid)
    → IfSome mid (λ b. StepWrote (event_at setup.events n) old new b after (Err e))
    → IfSome held (λ before. RunWrote setup before after (Err f))
stops setup servers n old new None mid after e f are within r s = tt
stops {E} {F} setup servers n old new (Some before) mid after e f are within r s =
    let w = subst (λ o. IfSome o (λ b. StepWrote {E = E} (event_at setup.events n) old new b after (Err e))) r.wrote s in
    stopped setup servers n old before (before ++ r.text) after r.text r.now are within r.told r.same refl w

pub ends : (F : Type 0) (setup : Setup) (servers : List ServerCode) (n : ℕ) (system : SystemValue) (held after : Option (List ℕ)) (f : Unit {0})
    → AreServersOf setup servers → n ≡ length setup.events + 2 → IfSome held (λ before. Reached setup servers n system before after)
    → IfSome held (λ before. RunWrote {E = F} setup before after (Ok f))
ends F setup servers n system None after f are e r = tt
ends F setup servers n system (Some before) after f are e r =
    (r.text, record { servers = servers; are = are; now = r.now; told = subst (λ k. AreTold setup.events (start servers) k r.now r.text) e r.told }, r.wrote)

pub nothing-ran : {F : Type 0} (setup : Setup) (held : Option (List ℕ)) (f : F) → IfSome held (λ before. RunWrote setup before held (Err f))
nothing-ran setup None f = tt
nothing-ran setup (Some before) f = ([], inl refl, ap (λ l. Some l) (sym (append-nil before)))
