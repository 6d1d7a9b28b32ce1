-- What an allocation comes to.
use Rattle.std.proofs.Common.{◌≡◌, ◌∙◌, refl, ap, sym, Bool, true, false, cond, ℕ, List, [], ◌∷◌, ◌++◌, replicate, drop, Some, arith}
use Rattle.std.specs.Prelude.{slice_get, MatchBool}
use Rattle.std.specs.FinMap.{insert}
use Rattle.std.proofs.lemmas.List.{length-append}
use Rattle.lu_base.specs.Addresses.{address_after}
use Rattle.lu_base.specs.Sending.{Sent}
use Rattle.lu_base.specs.declared.trap.Trap.TheVariants.{BadCode}
use Rattle.bm_mem.specs.Content.{Content}
use Rattle.bm_objects.specs.declared.row.Row.{Row}
use Rattle.bm_code.specs.declared.code.MachineCode.{MachineCode}
use Rattle.bm_code.specs.declared.code.MachineSite.{MachineSite}
use Rattle.bm_code.specs.declared.operation.Service.TheVariants.{Allocate}
use Rattle.lu_base.specs.declared.world.World.{World}
use Rattle.bm_code.specs.Process.{Frame, Activity, Process}
use Rattle.bm_code.specs.Frames.{some_or, on_top, advanced}
use Rattle.bm_code.specs.Transfers.{Effect, Next, trap, running}
use Rattle.bm_code.specs.Services.{new_row, can_allocate, with_object, allocate, served}
use Rattle.bm_serve.specs.Space.{IsAllocated, IsRefused}
use Rattle.bm_serve.specs.Held.{held, process_of}
use Rattle.bm_serve.specs.Served.{WouldAdd}
use Rattle.bm_serve.proofs.Tops.{top_some}

module _ (code : MachineCode) (world : World) (m : Content) (rows : List Row) (next : ℕ) (outbox : List Sent) (activity : Activity) (spare : ℕ) (callers : List Frame) (f : Frame) (site : ℕ) (s : MachineSite) (n : ℕ) (at : Some s ≡ slice_get code.sites site) (top : Some n ≡ slice_get f.stack 0) where
  abbrev p : Process
  p = process_of (held m rows next outbox) activity spare

  abbrev row : Row
  row = new_row code next site s.elem n

  abbrev rest : List ℕ
  rest = drop 1 f.stack

  abbrev effect : Effect
  effect = served (Allocate site) code world p f callers

  comes : effect ≡ allocate p f callers rest row
  comes =
      ap (λ o. some_or o (trap BadCode p) (λ s. on_top f.stack (trap BadCode p) (λ n rest. allocate p f callers rest (new_row code next site s.elem n)))) (sym at)
      ∙ top_some f.stack n (trap BadCode p) (λ n rest. allocate p f callers rest (new_row code next site s.elem n)) top

  abbrev added : Process
  added = running (with_object p row) (advanced f (row.addr ∷ rest)) callers

  abbrev null : Process
  null = running p (advanced f (0 ∷ rest)) callers

  can : can_allocate rows row ≡ true → effect ≡ Next added
  can e = comes ∙ ap (λ b. cond b (Next added) (Next null)) e

  cannot : can_allocate rows row ≡ false → effect ≡ Next null
  cannot e = comes ∙ ap (λ b. cond b (Next added) (Next null)) e

  pub refused : (m' : Content) (rows' : List Row) (next' : ℕ) → IsRefused row m rows next m' rows' next' → WouldAdd effect p
  refused m' rows' next' r = record { process = added; is = can r.0; more = omega (arith, length-append rows (row ∷ [])) }

  pub allocated : (a : ℕ) (m' : Content) (rows' : List Row) (next' : ℕ) (g : Frame) → IsAllocated row m rows next a m' rows' next' → g ≡ advanced f (a ∷ rest) → effect ≡ Next (running (process_of (held m' rows' next' outbox) activity spare) g callers)
  allocated a m' rows' next' g h gone = by_test (can_allocate rows row) refl h
    where
      answer : (x : Content) (xs : List Row) (y b : ℕ) → a ≡ b → m' ≡ x → rows' ≡ xs → next' ≡ y → Next (running (process_of (held x xs y outbox) activity spare) (advanced f (b ∷ rest)) callers) ≡ Next (running (process_of (held m' rows' next' outbox) activity spare) g callers)
      answer x xs y b ab mx rx nx =
          sym (ap (λ g. Next (running (process_of (held m' rows' next' outbox) activity spare) g callers)) (gone ∙ ap (λ a. advanced f (a ∷ rest)) ab)
          ∙ (ap (λ m. Next (running (process_of (held m rows' next' outbox) activity spare) (advanced f (b ∷ rest)) callers)) mx
          ∙ (ap (λ r. Next (running (process_of (held x r next' outbox) activity spare) (advanced f (b ∷ rest)) callers)) rx
          ∙ ap (λ n. Next (running (process_of (held x xs n outbox) activity spare) (advanced f (b ∷ rest)) callers)) nx)))

      by_test : (b : Bool) → can_allocate rows row ≡ b → MatchBool b ((a ≡ row.addr) × (m' ≡ insert m row.addr (replicate row.size 0)) × (rows' ≡ rows ++ row ∷ []) × (next' ≡ address_after row.addr row.size)) ((a ≡ 0) × (m' ≡ m) × (rows' ≡ rows) × (next' ≡ next)) → effect ≡ Next (running (process_of (held m' rows' next' outbox) activity spare) g callers)
      by_test true e h = can e ∙ answer (insert m row.addr (replicate row.size 0)) (rows ++ row ∷ []) (address_after row.addr row.size) row.addr h.0 h.1 h.2 h.3
      by_test false e h = cannot e ∙ answer m rows next 0 h.0 h.1 h.2 h.3
