-- In a built table correspondence is its own equation: how far the recursion may go is no matter.
use Rattle.std.proofs.Common.{◌≡◌, ◌∙◌, inr, sym, ap, subst, refl, ℕ, zero, suc, ◌<◌, Bool, true, false, not, List, [], ◌∷◌, length, Option, Some, None, slice_get, arith}
use Rattle.std.proofs.lemmas.Option.{slice_get_within}
use Rattle.std.specs.Prelude.{Contains}
use Rattle.c_types.specs.declared.parts.Ty.{Ty}
use Rattle.c_types.specs.declared.parts.Ty.TheVariants.{Int, Pointer, VoidPointer, Function, Struct, Union, Array}
use Rattle.c_types.specs.declared.parts.Parts.{Parts}
use Rattle.c_types.specs.Chain.{Edges, Chain, one, more, is_settled, pointed_by, pointed_in, IsPointer}
use Rattle.c_types.specs.Recursion.{at_type, by_fuel}
use Rattle.c_types.specs.Refusal.{IsBuilt}
use Rattle.c_types.specs.Numbering.{is_array, names_entry}
use Rattle.c_types.proofs.Lists.{and_right}
use Rattle.c_types.proofs.Numbered.{type_numbered, pointee_known, element_known}
use Rattle.c_types.proofs.Settled.{settled_all, settled-edge, settled-more}
use Rattle.lu_image.specs.Correspondence.{correspond_here, correspond_step, nothing_corresponds, corresponds}

module _ (p q : Parts) (structs unions : List (Option ℕ)) where
  abbrev pub within : ℕ → ℕ → ℕ → Bool
  within n = by_fuel p (correspond_step q structs unions) nothing_corresponds n

  -- what a type corresponds to depends on the types to which it leads alone
  here_same : (f g : ℕ → ℕ → Bool) (ty : Ty) (b : Option Ty) → ((t : ℕ) → Contains (pointed_in (Some ty)) t → (u : ℕ) → f t u ≡ g t u)
      → correspond_here structs unions f ty b ≡ correspond_here structs unions g ty b
  here_same f g (Int x0) None same = refl
  here_same f g (Int x0) (Some (Int y0)) same = refl
  here_same f g (Int x0) (Some (Pointer y0)) same = refl
  here_same f g (Int x0) (Some VoidPointer) same = refl
  here_same f g (Int x0) (Some (Function y0)) same = refl
  here_same f g (Int x0) (Some (Struct y0)) same = refl
  here_same f g (Int x0) (Some (Union y0)) same = refl
  here_same f g (Int x0) (Some (Array y0 y1)) same = refl
  here_same f g (Pointer x0) None same = refl
  here_same f g (Pointer x0) (Some (Int y0)) same = refl
  here_same f g (Pointer x0) (Some (Pointer y0)) same = same x0 (0, omega arith, refl) y0
  here_same f g (Pointer x0) (Some VoidPointer) same = refl
  here_same f g (Pointer x0) (Some (Function y0)) same = refl
  here_same f g (Pointer x0) (Some (Struct y0)) same = refl
  here_same f g (Pointer x0) (Some (Union y0)) same = refl
  here_same f g (Pointer x0) (Some (Array y0 y1)) same = refl
  here_same f g VoidPointer None same = refl
  here_same f g VoidPointer (Some (Int y0)) same = refl
  here_same f g VoidPointer (Some (Pointer y0)) same = refl
  here_same f g VoidPointer (Some VoidPointer) same = refl
  here_same f g VoidPointer (Some (Function y0)) same = refl
  here_same f g VoidPointer (Some (Struct y0)) same = refl
  here_same f g VoidPointer (Some (Union y0)) same = refl
  here_same f g VoidPointer (Some (Array y0 y1)) same = refl
  here_same f g (Function x0) None same = refl
  here_same f g (Function x0) (Some (Int y0)) same = refl
  here_same f g (Function x0) (Some (Pointer y0)) same = refl
  here_same f g (Function x0) (Some VoidPointer) same = refl
  here_same f g (Function x0) (Some (Function y0)) same = refl
  here_same f g (Function x0) (Some (Struct y0)) same = refl
  here_same f g (Function x0) (Some (Union y0)) same = refl
  here_same f g (Function x0) (Some (Array y0 y1)) same = refl
  here_same f g (Struct x0) None same = refl
  here_same f g (Struct x0) (Some (Int y0)) same = refl
  here_same f g (Struct x0) (Some (Pointer y0)) same = refl
  here_same f g (Struct x0) (Some VoidPointer) same = refl
  here_same f g (Struct x0) (Some (Function y0)) same = refl
  here_same f g (Struct x0) (Some (Struct y0)) same = refl
  here_same f g (Struct x0) (Some (Union y0)) same = refl
  here_same f g (Struct x0) (Some (Array y0 y1)) same = refl
  here_same f g (Union x0) None same = refl
  here_same f g (Union x0) (Some (Int y0)) same = refl
  here_same f g (Union x0) (Some (Pointer y0)) same = refl
  here_same f g (Union x0) (Some VoidPointer) same = refl
  here_same f g (Union x0) (Some (Function y0)) same = refl
  here_same f g (Union x0) (Some (Struct y0)) same = refl
  here_same f g (Union x0) (Some (Union y0)) same = refl
  here_same f g (Union x0) (Some (Array y0 y1)) same = refl
  here_same f g (Array x0 x1) None same = refl
  here_same f g (Array x0 x1) (Some (Int y0)) same = refl
  here_same f g (Array x0 x1) (Some (Pointer y0)) same = refl
  here_same f g (Array x0 x1) (Some VoidPointer) same = refl
  here_same f g (Array x0 x1) (Some (Function y0)) same = refl
  here_same f g (Array x0 x1) (Some (Struct y0)) same = refl
  here_same f g (Array x0 x1) (Some (Union y0)) same = refl
  here_same f g (Array x0 x1) (Some (Array y0 y1)) same = same x0 (0, omega arith, refl) y0

  at_same : (f g : ℕ → ℕ → Bool) (a : Option Ty) (u : ℕ) → ((t : ℕ) → Contains (pointed_in a) t → (v : ℕ) → f t v ≡ g t v)
      → at_type (correspond_step q structs unions f) nothing_corresponds a u ≡ at_type (correspond_step q structs unions g) nothing_corresponds a u
  at_same f g None u same = refl
  at_same f g (Some ty) u same = here_same f g ty (slice_get q.types u) same

  enough : (n m t u : ℕ) → is_settled (pointed_by p) n t ≡ true → is_settled (pointed_by p) m t ≡ true → within n t u ≡ within m t u
  enough zero m t u h k = cc
  enough (suc n) zero t u h k = cc
  enough (suc n) (suc m) t u h k =
      at_same (within n) (within m) (slice_get p.types t) u (λ s c v. enough n m s v (settled-edge (pointed_by p) n t s h c) (settled-edge (pointed_by p) m t s k c))

  -- the equation of correspondence, where the old type is settled
  pub settled-is : (t u : ℕ) → is_settled (pointed_by p) (length p.types) t ≡ true
      → corresponds p q structs unions t u ≡ at_type (correspond_step q structs unions (corresponds p q structs unions)) nothing_corresponds (slice_get p.types t) u
  settled-is t u h = enough (length p.types) (suc (length p.types)) t u h (settled-more (pointed_by p) (length p.types) t h)

module _ (edges : Edges) where
  first_edge : {t u : ℕ} → Chain edges t u → (v : ℕ) × Contains (edges t) v
  first_edge (one {u = u} c) = (u, c)
  first_edge (more {u = u} c rest) = (u, c)

  and_edge : {t u v : ℕ} → Chain edges t u → Contains (edges u) v → Chain edges t v
  and_edge (one c) d = more c (one d)
  and_edge (more c rest) d = more c (and_edge rest d)

only : (u v : ℕ) → Contains (u ∷ []) v → v ≡ u
only u v (zero, w, c) = sym c
only u v (suc k, w, c) = absurd (omega (arith, w))

module _ (p : Parts) (built : IsBuilt p) where
  edge_at : (x v : ℕ) (o : Option Ty) → slice_get p.types x ≡ o → Contains (pointed_by p x) v → Contains (pointed_in o) v
  edge_at x v o e c = subst (λ o. Contains (pointed_in o) v) e c

  no_edge : (x : ℕ) → pointed_by p x ≡ [] → Chain (pointed_by p) x x → ⊥
  no_edge x e c = let d = first_edge (pointed_by p) c in let h = subst (λ xs. Contains xs d.0) e d.1 in omega (arith, h.1)

  -- a type that is no array leads to no loop
  no_array : (x : ℕ) (o : Option Ty) → slice_get p.types x ≡ o → is_array o ≡ false → Chain (pointed_by p) x x → ⊥
  no_array x None e n c = no_edge x (ap pointed_in e) c
  no_array x (Some (Int k)) e n c = no_edge x (ap pointed_in e) c
  no_array x (Some (Pointer t)) e n c = built.acyclic x (inr (subst IsPointer (sym e) tt, c))
  no_array x (Some VoidPointer) e n c = no_edge x (ap pointed_in e) c
  no_array x (Some (Function k)) e n c = no_edge x (ap pointed_in e) c
  no_array x (Some (Struct k)) e n c = no_edge x (ap pointed_in e) c
  no_array x (Some (Union k)) e n c = no_edge x (ap pointed_in e) c
  no_array x (Some (Array t k)) e n c = cc

  element_free : (x u n : ℕ) → slice_get p.types x ≡ Some (Array u n) → is_array (slice_get p.types u) ≡ false
  element_free x u n e =
      let h = and_right (names_entry p.types u) (not (is_array (slice_get p.types u))) (type_numbered p built.numbered x (Array u n) e) in
      by (is_array (slice_get p.types u)) h
    where
      by : (b : Bool) → not b ≡ true → b ≡ false
      by true h = sym h
      by false h = refl

  an_array : (x u n : ℕ) → slice_get p.types x ≡ Some (Array u n) → Chain (pointed_by p) x x → ⊥
  an_array x u n e (one c) =
      let same = only u x (edge_at x x (Some (Array u n)) e c) in
      let free : is_array (slice_get p.types x) ≡ false = subst (λ v. is_array (slice_get p.types v) ≡ false) (sym same) (element_free x u n e) in
      let at : is_array (slice_get p.types x) ≡ true = ap is_array e in
      let wrong : true ≡ false = sym at ∙ free in cc
  an_array x u n e (more {u = v} c rest) =
      let same = only u v (edge_at x v (Some (Array u n)) e c) in
      let loop : Chain (pointed_by p) v v = and_edge (pointed_by p) rest c in
      no_array u (slice_get p.types u) refl (element_free x u n e) (subst (λ k. Chain (pointed_by p) k k) same loop)

  -- no type of a built table leads to itself through pointers and arrays
  pub no_loop : (x : ℕ) → Chain (pointed_by p) x x → ⊥
  no_loop x c = by (slice_get p.types x) refl c
    where
      by : (o : Option Ty) → slice_get p.types x ≡ o → Chain (pointed_by p) x x → ⊥
      by (Some (Array u n)) e c = an_array x u n e c
      by None e c = no_array x None e refl c
      by (Some (Int k)) e c = no_array x (Some (Int k)) e refl c
      by (Some (Pointer k)) e c = no_array x (Some (Pointer k)) e refl c
      by (Some VoidPointer) e c = no_array x (Some VoidPointer) e refl c
      by (Some (Function k)) e c = no_array x (Some (Function k)) e refl c
      by (Some (Struct k)) e c = no_array x (Some (Struct k)) e refl c
      by (Some (Union k)) e c = no_array x (Some (Union k)) e refl c

  pointed_known : (x y : ℕ) → Contains (pointed_by p x) y → y < length p.types
  pointed_known x y c = by (slice_get p.types x) refl (edge_at x y (slice_get p.types x) refl c)
    where
      by : (o : Option Ty) → slice_get p.types x ≡ o → Contains (pointed_in o) y → y < length p.types
      by (Some (Pointer t)) e c = subst (λ k. k < length p.types) (sym (only t y c)) (pointee_known p built.numbered x t e)
      by (Some (Array t n)) e c = subst (λ k. k < length p.types) (sym (only t y c)) (element_known p built.numbered x t n e)
      by None e c = absurd (omega (arith, c.1))
      by (Some (Int k)) e c = absurd (omega (arith, c.1))
      by (Some VoidPointer) e c = absurd (omega (arith, c.1))
      by (Some (Function k)) e c = absurd (omega (arith, c.1))
      by (Some (Struct k)) e c = absurd (omega (arith, c.1))
      by (Some (Union k)) e c = absurd (omega (arith, c.1))

  -- Types of a built table correspond as the types to which they lead do.
  pub corresponds-is : (q : Parts) (structs unions : List (Option ℕ)) (t u : ℕ)
      → corresponds p q structs unions t u ≡ at_type (correspond_step q structs unions (corresponds p q structs unions)) nothing_corresponds (slice_get p.types t) u
  corresponds-is q structs unions t u = by (slice_get p.types t) refl
    where
      none : (n : ℕ) → slice_get p.types t ≡ None → by_fuel p (correspond_step q structs unions) nothing_corresponds n t u ≡ false
      none zero e = refl
      none (suc n) e = ap (λ o. at_type (correspond_step q structs unions (by_fuel p (correspond_step q structs unions) nothing_corresponds n)) nothing_corresponds o u) e

      by : (o : Option Ty) → slice_get p.types t ≡ o
          → corresponds p q structs unions t u ≡ at_type (correspond_step q structs unions (corresponds p q structs unions)) nothing_corresponds (slice_get p.types t) u
      by None e = none (length p.types) e ∙ sym (ap (λ o. at_type (correspond_step q structs unions (corresponds p q structs unions)) nothing_corresponds o u) e)
      by (Some ty) e =
          settled-is p q structs unions t u (settled_all (pointed_by p) (length p.types) pointed_known no_loop t (slice_get_within p.types t ty e))
