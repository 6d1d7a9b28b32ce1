-- Servers with their processes, hosts and cells, kept by mail and by an edit of one server.
use Rattle.std.proofs.Common.{◌≡◌, refl, sym, ap, subst, ℕ, zero, suc, Bool, true, false, nat_eq, arith, List, [], ◌∷◌, length, Option, Some, None}
use Rattle.std.proofs.lemmas.Bool.Decides.{nat_tests}
use Rattle.std.specs.Prelude.{slice_get, slice_set}
use Rattle.std.specs.Option.{option_map}
use Rattle.sys_world.specs.World.{Host, CellValue, change}
use Rattle.sys_world.specs.Mail.{with_arrival}
use Rattle.sys_laws.proofs.Changes.{change-here, change-other}
use Rattle.sys_laws.proofs.Growth.{Grows, same, more, CellsGrow}
use Rattle.sys_run.specs.declared.runner.Runner.{Runner}
use Rattle.sys_exact.specs.StandsFor.{IsHost, At, nobody, somebody}

abbrev pub Each : List Runner → List Host → List CellValue → Type 0
Each rs hosts cells = (j : ℕ) → At (slice_get rs j) (slice_get hosts j) (slice_get cells j)

-- a server that is there
pub record Here (or : Option Runner) (oh : Option Host) (oc : Option CellValue) : Type 0 where
  pub r : Runner
  pub h : Host
  pub c : CellValue
  pub is_r : or ≡ Some r
  pub is_h : oh ≡ Some h
  pub is_c : oc ≡ Some c
  pub host : IsHost r h c

-- none
pub record Nowhere (or : Option Runner) (oh : Option Host) (oc : Option CellValue) : Type 0 where
  pub no_r : or ≡ None
  pub no_h : oh ≡ None
  pub no_c : oc ≡ None

pub data Seen (or : Option Runner) (oh : Option Host) (oc : Option CellValue) : Type 0 where
  here : Here or oh oc → Seen or oh oc
  nowhere : Nowhere or oh oc → Seen or oh oc

pub see : {or : Option Runner} {oh : Option Host} {oc : Option CellValue} → At or oh oc → Seen or oh oc
see nobody = nowhere (record { no_r = refl; no_h = refl; no_c = refl })
see (somebody r h c p) = here (record { r = r; h = h; c = c; is_r = refl; is_h = refl; is_c = refl; host = p })

pub set-here : {A : Type 0} (xs : List A) (i : ℕ) (y : A) → slice_get (slice_set xs i y) i ≡ option_map (λ x. y) (slice_get xs i)
set-here [] i y = refl
set-here (x ∷ xs) zero y = refl
set-here (x ∷ xs) (suc i) y = set-here xs i y

pub set-other : {A : Type 0} (xs : List A) (i j : ℕ) (y : A) → (i ≡ j → ⊥) → slice_get (slice_set xs i y) j ≡ slice_get xs j
set-other [] i j y other = refl
set-other (x ∷ xs) zero zero y other = absurd (other refl)
set-other (x ∷ xs) zero (suc j) y other = refl
set-other (x ∷ xs) (suc i) zero y other = refl
set-other (x ∷ xs) (suc i) (suc j) y other = set-other xs i j y (λ e. other (ap suc e))

pub set-length : {A : Type 0} (xs : List A) (i : ℕ) (y : A) → length (slice_set xs i y) ≡ length xs
set-length [] i y = refl
set-length (x ∷ xs) zero y = refl
set-length (x ∷ xs) (suc i) y = ap suc (set-length xs i y)

-- an edit that leaves the element at a place
pub change-stays : {A : Type 0} (f : A → A) (i : ℕ) (xs : List A) (x : A) → slice_get xs i ≡ Some x → f x ≡ x → change f i xs ≡ xs
change-stays f i [] x at is = refl
change-stays f zero (y ∷ ys) x at is = let e : y ≡ x = cc in ap (λ z. z ∷ ys) (subst (λ z. f z ≡ z) (sym e) is)
change-stays f (suc i) (y ∷ ys) x at is = ap (λ zs. y ∷ zs) (change-stays f i ys x at is)

at-grown : {or : Option Runner} {oh : Option Host} {a b : Option CellValue} → Grows a b → At or oh a → At or oh b
at-grown same at = at
at-grown (more d m live g) at = one (at-grown g at) refl
  where
    one : {or : Option Runner} {oh : Option Host} {oc : Option CellValue} → At or oh oc → oc ≡ Some d → At or oh (Some (with_arrival m d))
    one nobody e = absurd (cc)
    one (somebody r h c p) e =
        let is : c ≡ d = cc in
        let q = subst (λ c. IsHost r h c) is p in
        somebody r h (with_arrival m d) (record { program = q.program; world = q.world; life = q.life; is_at = q.is_at })

pub each-grown : (rs : List Runner) (hosts : List Host) (cells grown : List CellValue) → CellsGrow cells grown → Each rs hosts cells → Each rs hosts grown
each-grown rs hosts cells grown grows each = λ j. at-grown (grows j) (each j)

at-mapped : (y : Runner) (f : Host → Host) (g : CellValue → CellValue) {or : Option Runner} {oh : Option Host} {oc : Option CellValue} → At or oh oc
    → ((r : Runner) (h : Host) (c : CellValue) → or ≡ Some r → oh ≡ Some h → oc ≡ Some c → IsHost r h c → IsHost y (f h) (g c))
    → At (option_map (λ x. y) or) (option_map f oh) (option_map g oc)
at-mapped y f g nobody to = nobody
at-mapped y f g (somebody r h c p) to = somebody y (f h) (g c) (to r h c refl refl refl p)

-- an edit of the server at a place
pub each-changed : (i : ℕ) (y : Runner) (f : Host → Host) (g : CellValue → CellValue) (rs : List Runner) (hosts : List Host) (cells : List CellValue) → Each rs hosts cells
    → ((r : Runner) (h : Host) (c : CellValue) → slice_get rs i ≡ Some r → slice_get hosts i ≡ Some h → slice_get cells i ≡ Some c → IsHost r h c → IsHost y (f h) (g c))
    → Each (slice_set rs i y) (change f i hosts) (change g i cells)
each-changed i y f g rs hosts cells each edits = λ j. by_place j (nat_eq i j) refl
  where
    by_place : (j : ℕ) (b : Bool) → nat_eq i j ≡ b → At (slice_get (slice_set rs i y) j) (slice_get (change f i hosts) j) (slice_get (change g i cells) j)
    by_place j true e =
        let is : i ≡ j = grind (arith, nat_tests) in
        let at : At (slice_get (slice_set rs i y) i) (slice_get (change f i hosts) i) (slice_get (change g i cells) i) =
        subst (λ o. At o (slice_get (change f i hosts) i) (slice_get (change g i cells) i)) (sym (set-here rs i y))
        (subst (λ o. At (option_map (λ x. y) (slice_get rs i)) o (slice_get (change g i cells) i)) (sym (change-here f i hosts))
        (subst (λ o. At (option_map (λ x. y) (slice_get rs i)) (option_map f (slice_get hosts i)) o) (sym (change-here g i cells)) (at-mapped y f g (each i) edits))) in
        subst (λ j. At (slice_get (slice_set rs i y) j) (slice_get (change f i hosts) j) (slice_get (change g i cells) j)) is at
    by_place j false e =
        let isnt : i ≡ j → ⊥ = λ is. grind (arith, nat_tests) in
        subst (λ o. At o (slice_get (change f i hosts) j) (slice_get (change g i cells) j)) (sym (set-other rs i j y isnt))
        (subst (λ o. At (slice_get rs j) o (slice_get (change g i cells) j)) (sym (change-other f i j hosts isnt))
        (subst (λ o. At (slice_get rs j) (slice_get hosts j) o) (sym (change-other g i j cells isnt)) (each j)))
