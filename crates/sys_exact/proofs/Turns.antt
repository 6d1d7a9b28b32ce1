-- Servers without an update take no turn.
use Rattle.std.proofs.Common.{◌≡◌, ◌∙◌, refl, ap, ℕ, suc, true, List, [], ◌∷◌, ◌++◌, Some, None}
use Rattle.std.specs.Prelude.{slice_get}
use Rattle.std.specs.Option.{option_map_or}
use Rattle.lu_base.specs.declared.trap.Trap.{Trap}
use Rattle.lu_lines.specs.declared.note.Note.{Note}
use Rattle.sys_world.specs.World.{State, Idle, Busy, Dead, Host, SystemWorld, change}
use Rattle.sys_world.specs.Turn.{Turn, still, try_by, try_turn, lose_by, lose_turn}
use Rattle.sys_world.specs.Steps.{with_turn, turn_notes, end_note, end_notes}
use Rattle.sys_exact.proofs.Each.{change-stays}

pub append-none : {A : Type 0} (xs : List A) → xs ++ [] ≡ xs
append-none [] = refl
append-none (x ∷ xs) = ap (λ ys. x ∷ ys) (append-none xs)

pub no_try : (h : Host) → h.life ≡ None → try_turn true h ≡ still h
no_try h none = ap (λ l. try_by true h.state l h) none ∙ by h.state
  where
    by : (s : State) → try_by true s None h ≡ still h
    by (Idle store) = refl
    by (Busy store m given) = refl
    by (Dead trap) = refl

pub no_loss : (trap : Trap) (h : Host) → h.life ≡ None → lose_turn trap h ≡ still h
no_loss trap h none = ap (λ l. lose_by trap l h) none

-- a turn in which nothing happens
pub no_turn : (f : Host → Turn) (i : ℕ) (w : SystemWorld) (h : Host) → slice_get w.hosts i ≡ Some h → f h ≡ still h → with_turn f i w ≡ w
no_turn f i w h at is =
    let hosts : change (λ h. (f h).host) i w.hosts ≡ w.hosts = change-stays (λ h. (f h).host) i w.hosts h at (ap (λ t. t.host) is) in
    let quiet : turn_notes f (slice_get w.hosts i) ≡ [] = ap (turn_notes f) at ∙ ap (λ t. t.notes) is in
    let told : w.told ++ turn_notes f (slice_get w.hosts i) ≡ w.told = ap (λ ns. w.told ++ ns) quiet ∙ append-none w.told in
    let one : List Host → List Note → SystemWorld = λ hosts told. record { hosts = hosts; cells = w.cells; told = told } in
    ap (λ hosts. one hosts (w.told ++ turn_notes f (slice_get w.hosts i))) hosts ∙ ap (one w.hosts) told

-- no update is told at the end
pub no_end : (hosts : List Host) → ((j : ℕ) (h : Host) → slice_get hosts j ≡ Some h → h.life ≡ None) → end_notes hosts ≡ []
no_end [] none = refl
no_end (h ∷ hosts) none =
    let rest = no_end hosts (λ j k at. none (suc j) k at) in
    let first = none 0 h refl in
    ap (λ l. option_map_or (λ l. end_note l.outcome l.update.name) l [] ++ end_notes hosts) first ∙ rest
