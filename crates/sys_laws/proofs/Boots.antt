-- Boot takes a statement of servers that haven't booted to one of servers that have.
use Rattle.std.proofs.Common.{◌≡◌, refl, sym, subst, ℕ, ◌+◌, ◌<◌, arith, Bool, true, false, nat_eq, nat_lt, List, [], ◌∷◌, length, Option, Some, None}
use Rattle.std.proofs.lemmas.Bool.Decides.{nat_tests}
use Rattle.std.proofs.lemmas.Option.{slice_get_within}
use Rattle.std.specs.Prelude.{slice_get}
use Rattle.lu_base.specs.declared.trap.Trap.{Trap}
use Rattle.lu_base.specs.Sending.{Sent}
use Rattle.src_tree.specs.declared.value.Store.{Store}
use Rattle.src_meaning.specs.Delivery.{Delivered, Ends, Dies, boot}
use Rattle.sys_world.specs.Setup.{ServerSetup}
use Rattle.sys_world.specs.World.{State, Idle, Busy, Dead, Life, Host, CellValue, SystemWorld, change}
use Rattle.sys_world.specs.Mail.{Mail, with_sent, with_trap, boot_mail, die_mail}
use Rattle.sys_world.specs.Steps.{on_host, booted, boot_by, boot_host, boot_from}
use Rattle.sys_laws.proofs.OwnMail.{boot-grows, die-grows}
use Rattle.sys_laws.proofs.Each.{Each, found, KeptByMail, each-grown, each-kept, each-changed}
use Rattle.sys_laws.proofs.Events.{in_state}

-- a statement before the boot of a server and one after it
pub record IsBooted (P Q : ServerSetup → Host → CellValue → Type 0) : Type 0 where
  pub before : KeptByMail P
  pub after : KeptByMail Q
  pub boots : (s : ServerSetup) (h : Host) (c : CellValue) (store next : Store) (sends : List Sent) (used : ℕ) → h.state ≡ Idle store → h.life ≡ None
      → boot h.program h.world ≡ Ends next sends used → P s h c → Q s (in_state (Idle next) h) (with_sent sends c)
  pub dies : (s : ServerSetup) (h : Host) (c : CellValue) (store : Store) (trap : Trap) (used : ℕ) → h.state ≡ Idle store → h.life ≡ None
      → boot h.program h.world ≡ Dies trap used → P s h c → Q s (in_state (Dead trap) h) (with_trap trap c)
  pub stays : (s : ServerSetup) (h : Host) (c : CellValue) → ((store : Store) → h.state ≡ Idle store → h.life ≡ None → ⊥) → P s h c → Q s h c

module _ (servers : List ServerSetup) (P Q : ServerSetup → Host → CellValue → Type 0) (by : IsBooted P Q) where
  abbrev Either : Bool → ServerSetup → Host → CellValue → Type 0
  Either true s h c = Q s h c
  Either false s h c = P s h c

  -- the servers below a place have booted
  abbrev Below : ℕ → ℕ → ServerSetup → Host → CellValue → Type 0
  Below n j s h c = Either (nat_lt j n) s h c

  either-kept : (b : Bool) → KeptByMail (Either b)
  either-kept true = by.after
  either-kept false = by.before

  not-yet : (i : ℕ) → nat_lt i i ≡ false
  not-yet i = grind (arith, nat_tests)

  by-now : (i : ℕ) → nat_lt i (i + 1) ≡ true
  by-now i = grind (arith, nat_tests)

  as-before : (i j : ℕ) → (i ≡ j → ⊥) → nat_lt j i ≡ nat_lt j (i + 1)
  as-before i j isnt = by_test (nat_lt j i) (nat_lt j (i + 1)) refl refl
    where
      by_test : (a b : Bool) → nat_lt j i ≡ a → nat_lt j (i + 1) ≡ b → a ≡ b
      by_test true true d e = refl
      by_test true false d e = grind (arith, nat_tests)
      by_test false true d e = absurd (isnt (grind (arith, nat_tests)))
      by_test false false d e = refl

  others : (i j : ℕ) (s : ServerSetup) (h : Host) (c : CellValue) → (i ≡ j → ⊥) → Below i j s h c → Below (i + 1) j s h c
  others i j s h c isnt p = subst (λ b. Either b s h c) (as-before i j isnt) p

  was : (i : ℕ) (s : ServerSetup) (h : Host) (c : CellValue) → Below i i s h c → P s h c
  was i s h c p = subst (λ b. Either b s h c) (not-yet i) p

  is-now : (i : ℕ) (s : ServerSetup) (h : Host) (c : CellValue) → Q s h c → Below (i + 1) i s h c
  is-now i s h c q = subst (λ b. Either b s h c) (sym (by-now i)) q

  abbrev Holds : ℕ → SystemWorld → Type 0
  Holds n w = Each (Below n) servers w.hosts w.cells

  -- where nothing happens at the place
  passed : (i : ℕ) (w : SystemWorld) → Holds i w → ((s : ServerSetup) (h : Host) (c : CellValue) → slice_get w.hosts i ≡ Some h → P s h c → Q s h c) → Holds (i + 1) w
  passed i w each here = each-kept (Below i) (Below (i + 1)) servers w.hosts w.cells each (λ j s h c _ at p. by_place j s h c at p (nat_eq i j) refl)
    where
      by_place : (j : ℕ) (s : ServerSetup) (h : Host) (c : CellValue) → slice_get w.hosts j ≡ Some h → Below i j s h c → (b : Bool) → nat_eq i j ≡ b → Below (i + 1) j s h c
      by_place j s h c at p true e =
          let is : i ≡ j = grind (arith, nat_tests) in
          let q : Q s h c = here s h c (subst (λ j. slice_get w.hosts j ≡ Some h) (sym is) at) (was i s h c (subst (λ j. Below i j s h c) (sym is) p)) in
          subst (λ j. Below (i + 1) j s h c) is (is-now i s h c q)
      by_place j s h c at p false e = others i j s h c (λ is. grind (arith, nat_tests)) p

  booted-holds : (i : ℕ) (h : Host) (store : Store) (d : Delivered) (w : SystemWorld) → slice_get w.hosts i ≡ Some h → h.state ≡ Idle store → h.life ≡ None
      → boot h.program h.world ≡ d → Holds i w → Holds (i + 1) (booted i d w)
  booted-holds i h store (Ends next sends used) w at idle none ends each =
      let there = found (Below i i) h (each i) at in
      let mail : Mail = record { cells = w.cells; told = w.told } in
      let hosts = change (in_state (Idle next)) i w.hosts in
      let edited = each-changed (Below i) (Below (i + 1)) i (in_state (Idle next)) (with_sent sends) servers w.hosts w.cells each (λ s k c at' _ p.
      let is : h ≡ k = cc in
      is-now i s (in_state (Idle next) k) (with_sent sends c)
      (by.boots s k c store next sends used (subst (λ k. k.state ≡ Idle store) is idle) (subst (λ k. k.life ≡ None) is none) (subst (λ k. boot k.program k.world ≡ Ends next sends used) is ends) (was i s k c p)))
      (others i) in
      each-grown (Below (i + 1)) (λ j. either-kept (nat_lt j (i + 1))) servers hosts (change (with_sent sends) i w.cells) (boot_mail i sends mail).cells
      (boot-grows i sends mail there.cell there.is_cell) edited
  booted-holds i h store (Dies trap used) w at idle none dies each =
      let there = found (Below i i) h (each i) at in
      let mail : Mail = record { cells = w.cells; told = w.told } in
      let hosts = change (in_state (Dead trap)) i w.hosts in
      let edited = each-changed (Below i) (Below (i + 1)) i (in_state (Dead trap)) (with_trap trap) servers w.hosts w.cells each (λ s k c at' _ p.
      let is : h ≡ k = cc in
      is-now i s (in_state (Dead trap) k) (with_trap trap c)
      (by.dies s k c store trap used (subst (λ k. k.state ≡ Idle store) is idle) (subst (λ k. k.life ≡ None) is none) (subst (λ k. boot k.program k.world ≡ Dies trap used) is dies) (was i s k c p)))
      (others i) in
      each-grown (Below (i + 1)) (λ j. either-kept (nat_lt j (i + 1))) servers hosts (change (with_trap trap) i w.cells) (die_mail i trap mail).cells
      (die-grows i trap mail there.cell there.is_cell) edited

  stayed : (i : ℕ) (h : Host) (w : SystemWorld) → slice_get w.hosts i ≡ Some h → ((store : Store) → h.state ≡ Idle store → h.life ≡ None → ⊥) → Holds i w → Holds (i + 1) w
  stayed i h w at isnt each = passed i w each (λ s k c at' p. let is : h ≡ k = cc in by.stays s k c (subst (λ k. (store : Store) → k.state ≡ Idle store → k.life ≡ None → ⊥) is isnt) p)

  boot_by-holds : (i : ℕ) (h : Host) (t : State) (life : Option Life) (w : SystemWorld) → slice_get w.hosts i ≡ Some h → h.state ≡ t → h.life ≡ life
      → Holds i w → Holds (i + 1) (boot_by i h t life w)
  boot_by-holds i h (Idle store) None w at is none each = booted-holds i h store (boot h.program h.world) w at is none refl each
  boot_by-holds i h (Idle store) (Some l) w at is some each = stayed i h w at (λ store _ none. absurd (cc)) each
  boot_by-holds i h (Busy store m given) life w at is known each = stayed i h w at (λ store idle _. absurd (cc)) each
  boot_by-holds i h (Dead trap) life w at is known each = stayed i h w at (λ store idle _. absurd (cc)) each

  host-holds : (i : ℕ) (w : SystemWorld) → Holds i w → Holds (i + 1) (boot_host i w)
  host-holds i w each = by_host (slice_get w.hosts i) refl
    where
      by_host : (o : Option Host) → slice_get w.hosts i ≡ o → Holds (i + 1) (on_host (λ h w. boot_by i h h.state h.life w) o w)
      by_host None e = passed i w each (λ s h c at p. absurd (cc))
      by_host (Some h) e = boot_by-holds i h h.state h.life w e refl refl each

  from-holds : (ss : List ServerSetup) (i : ℕ) (w : SystemWorld) → Holds i w → Holds (i + length ss) (boot_from i ss w)
  from-holds [] i w each = subst (λ n. Holds n w) (omega arith) each
  from-holds (s ∷ ss) i w each =
      subst (λ n. Holds n (boot_from (i + 1) ss (boot_host i w))) (omega arith) (from-holds ss (i + 1) (boot_host i w) (host-holds i w each))

  -- all servers have booted
  pub boot-holds : (w : SystemWorld) → Each (λ j. P) servers w.hosts w.cells → let v = boot_from 0 servers w in Each (λ j. Q) servers v.hosts v.cells
  boot-holds w each =
      let none : (j : ℕ) → false ≡ nat_lt j 0 = λ j. grind (arith, nat_tests) in
      let first : Holds 0 w = each-kept (λ j. P) (Below 0) servers w.hosts w.cells each (λ j s h c _ _ p. subst (λ b. Either b s h c) (none j) p) in
      let v = boot_from 0 servers w in
      each-kept (Below (0 + length servers)) (λ j. Q) servers v.hosts v.cells (from-holds servers 0 w first)
      (λ j s h c at _ p. subst (λ b. Either b s h c) (all j (slice_get_within servers j s at)) p)
    where
      all : (j : ℕ) → j < length servers → nat_lt j (0 + length servers) ≡ true
      all j below = grind (arith, nat_tests)
