-- What holds of each server of a world: kept by mail, and by an edit of one server where the edit keeps it.
use Rattle.std.proofs.Common.{◌≡◌, refl, sym, subst, ℕ, Bool, true, false, nat_eq, arith, List, Option, Some, None}
use Rattle.std.proofs.lemmas.Bool.Decides.{nat_tests}
use Rattle.std.specs.Prelude.{slice_get}
use Rattle.std.specs.Option.{option_map}
use Rattle.lu_base.specs.declared.message.Message.{Message}
use Rattle.sys_world.specs.Setup.{ServerSetup}
use Rattle.sys_world.specs.World.{Host, CellValue, change}
use Rattle.sys_world.specs.Mail.{with_arrival}
use Rattle.sys_laws.proofs.Changes.{change-here, change-other}
use Rattle.sys_laws.proofs.Growth.{Grows, same, more, CellsGrow}

-- a server with its host and its cell, or none of them
pub data At (P : ServerSetup → Host → CellValue → Type 0) : Option ServerSetup → Option Host → Option CellValue → Type 0 where
  nobody : At P None None None
  somebody : (s : ServerSetup) (h : Host) (c : CellValue) → P s h c → At P (Some s) (Some h) (Some c)

abbrev pub Each : (ℕ → ServerSetup → Host → CellValue → Type 0) → List ServerSetup → List Host → List CellValue → Type 0
Each P servers hosts cells = (j : ℕ) → At (P j) (slice_get servers j) (slice_get hosts j) (slice_get cells j)

-- the server whose host is known
pub record Found (P : ServerSetup → Host → CellValue → Type 0) (os : Option ServerSetup) (h : Host) (oc : Option CellValue) : Type 0 where
  pub server : ServerSetup
  pub cell : CellValue
  pub is_server : os ≡ Some server
  pub is_cell : oc ≡ Some cell
  pub holds : P server h cell

pub found : (P : ServerSetup → Host → CellValue → Type 0) {os : Option ServerSetup} {oh : Option Host} {oc : Option CellValue} (h : Host)
    → At P os oh oc → oh ≡ Some h → Found P os h oc
found P h nobody e = absurd (cc)
found P h (somebody s k c p) e =
    let is : k ≡ h = cc in record { server = s; cell = c; is_server = refl; is_cell = refl; holds = subst (λ k. P s k c) is p }

pub holds_of : (P : ServerSetup → Host → CellValue → Type 0) {os : Option ServerSetup} {oh : Option Host} {oc : Option CellValue} (s : ServerSetup) (h : Host) (c : CellValue)
    → At P os oh oc → os ≡ Some s → oh ≡ Some h → oc ≡ Some c → P s h c
holds_of P s h c nobody es eh ec = absurd (cc)
holds_of P s h c (somebody t k d p) es eh ec =
    let is_s : t ≡ s = cc in let is_h : k ≡ h = cc in let is_c : d ≡ c = cc in
    subst (λ c. P s h c) is_c (subst (λ h. P s h d) is_h (subst (λ s. P s k d) is_s p))

-- arrivals at a live server keep it
abbrev pub KeptByMail : (ServerSetup → Host → CellValue → Type 0) → Type 0
KeptByMail P = (s : ServerSetup) (h : Host) (d : CellValue) (m : Message) → d.trap ≡ None → P s h d → P s h (with_arrival m d)

at-grown : (P : ServerSetup → Host → CellValue → Type 0) → KeptByMail P → {os : Option ServerSetup} {oh : Option Host} {a b : Option CellValue}
    → Grows a b → At P os oh a → At P os oh b
at-grown P kept same at = at
at-grown P kept (more d m live g) at = one (at-grown P kept g at) refl
  where
    one : {os : Option ServerSetup} {oh : Option Host} {oc : Option CellValue} → At P os oh oc → oc ≡ Some d → At P os oh (Some (with_arrival m d))
    one nobody e = absurd (cc)
    one (somebody s h c p) e = let is : c ≡ d = cc in somebody s h (with_arrival m d) (kept s h d m live (subst (λ c. P s h c) is p))

pub each-grown : (P : ℕ → ServerSetup → Host → CellValue → Type 0) → ((j : ℕ) → KeptByMail (P j)) → (servers : List ServerSetup) (hosts : List Host) (cells grown : List CellValue)
    → CellsGrow cells grown → Each P servers hosts cells → Each P servers hosts grown
each-grown P kept servers hosts cells grown grows each = λ j. at-grown (P j) (kept j) (grows j) (each j)

at-mapped : (P Q : ServerSetup → Host → CellValue → Type 0) (f : Host → Host) (g : CellValue → CellValue) {os : Option ServerSetup} {oh : Option Host} {oc : Option CellValue}
    → At P os oh oc → ((s : ServerSetup) (h : Host) (c : CellValue) → oh ≡ Some h → oc ≡ Some c → P s h c → Q s (f h) (g c)) → At Q os (option_map f oh) (option_map g oc)
at-mapped P Q f g nobody to = nobody
at-mapped P Q f g (somebody s h c p) to = somebody s (f h) (g c) (to s h c refl refl p)

at-kept : (P Q : ServerSetup → Host → CellValue → Type 0) {os : Option ServerSetup} {oh : Option Host} {oc : Option CellValue} → At P os oh oc
    → ((s : ServerSetup) (h : Host) (c : CellValue) → os ≡ Some s → oh ≡ Some h → P s h c → Q s h c) → At Q os oh oc
at-kept P Q nobody to = nobody
at-kept P Q (somebody s h c p) to = somebody s h c (to s h c refl refl p)

-- one statement for another
pub each-kept : (P Q : ℕ → ServerSetup → Host → CellValue → Type 0) (servers : List ServerSetup) (hosts : List Host) (cells : List CellValue) → Each P servers hosts cells
    → ((j : ℕ) (s : ServerSetup) (h : Host) (c : CellValue) → slice_get servers j ≡ Some s → slice_get hosts j ≡ Some h → P j s h c → Q j s h c)
    → Each Q servers hosts cells
each-kept P Q servers hosts cells each to = λ j. at-kept (P j) (Q j) (each j) (to j)

-- an edit of the server at a place
pub each-changed : (P Q : ℕ → ServerSetup → Host → CellValue → Type 0) (i : ℕ) (f : Host → Host) (g : CellValue → CellValue)
    (servers : List ServerSetup) (hosts : List Host) (cells : List CellValue) → Each P servers hosts cells
    → ((s : ServerSetup) (h : Host) (c : CellValue) → slice_get hosts i ≡ Some h → slice_get cells i ≡ Some c → P i s h c → Q i s (f h) (g c))
    → ((j : ℕ) (s : ServerSetup) (h : Host) (c : CellValue) → (i ≡ j → ⊥) → P j s h c → Q j s h c)
    → Each Q servers (change f i hosts) (change g i cells)
each-changed P Q i f g servers hosts cells each here there = λ j. by_place j (nat_eq i j) refl
  where
    by_place : (j : ℕ) (b : Bool) → nat_eq i j ≡ b → At (Q j) (slice_get servers j) (slice_get (change f i hosts) j) (slice_get (change g i cells) j)
    by_place j true e =
        let is : i ≡ j = grind (arith, nat_tests) in
        let at : At (Q i) (slice_get servers i) (slice_get (change f i hosts) i) (slice_get (change g i cells) i) =
        subst (λ o. At (Q i) (slice_get servers i) o (slice_get (change g i cells) i)) (sym (change-here f i hosts))
        (subst (λ o. At (Q i) (slice_get servers i) (option_map f (slice_get hosts i)) o) (sym (change-here g i cells)) (at-mapped (P i) (Q i) f g (each i) here)) in
        subst (λ j. At (Q j) (slice_get servers j) (slice_get (change f i hosts) j) (slice_get (change g i cells) j)) is at
    by_place j false e =
        let isnt : i ≡ j → ⊥ = λ is. grind (arith, nat_tests) in
        subst (λ o. At (Q j) (slice_get servers j) o (slice_get (change g i cells) j)) (sym (change-other f i j hosts isnt))
        (subst (λ o. At (Q j) (slice_get servers j) (slice_get hosts j) o) (sym (change-other g i j cells isnt)) (at-kept (P j) (Q j) (each j) (λ s h c _ _ p. there j s h c isnt p)))
