-- Correspondence step by step is correspondence.
use Rattle.std.proofs.Common.{◌≡◌, ◌∙◌, refl, ℕ, suc, Bool, false, List, Option, Some, None, slice_get}
use Rattle.c_types.specs.declared.parts.Ty.{Ty}
use Rattle.c_types.specs.declared.parts.Ty.TheVariants.{Int, Pointer, VoidPointer, Function, Struct, Union, Array}
use Rattle.c_types.specs.declared.parts.Parts.{Parts}
use Rattle.c_types.specs.Recursion.{at_type, by_fuel}
use Rattle.lu_image.specs.Correspondence.{correspond_here, correspond_step, nothing_corresponds}
use Rattle.lu_image.specs.Descent.{both_lead, leaf_corresponds}

module _ (p q : Parts) (structs unions : List (Option ℕ)) where
  abbrev at_both : (ℕ → ℕ → Bool) → Option Ty → Option Ty → Bool
  at_both known a b = at_type (λ ty. correspond_here structs unions known ty b) false a

  same_at : (known : ℕ → ℕ → Bool) (a : Option Ty) (u : ℕ) → at_type (correspond_step q structs unions known) nothing_corresponds a u ≡ at_both known a (slice_get q.types u)
  same_at known None u = refl
  same_at known (Some ty) u = refl

  some_same : (known : ℕ → ℕ → Bool) (t u : ℕ) (to : ℕ × ℕ) → Some (t, u) ≡ Some to → known t u ≡ known to.0 to.1
  some_same known t u to h = cc

  leads : (known : ℕ → ℕ → Bool) (a b : Option Ty) (to : ℕ × ℕ) → both_lead a b ≡ Some to → at_both known a b ≡ known to.0 to.1
  leads known None None to h = cc
  leads known None (Some (Int y0)) to h = cc
  leads known None (Some (Pointer y0)) to h = cc
  leads known None (Some VoidPointer) to h = cc
  leads known None (Some (Function y0)) to h = cc
  leads known None (Some (Struct y0)) to h = cc
  leads known None (Some (Union y0)) to h = cc
  leads known None (Some (Array y0 y1)) to h = cc
  leads known (Some (Int x0)) None to h = cc
  leads known (Some (Int x0)) (Some (Int y0)) to h = cc
  leads known (Some (Int x0)) (Some (Pointer y0)) to h = cc
  leads known (Some (Int x0)) (Some VoidPointer) to h = cc
  leads known (Some (Int x0)) (Some (Function y0)) to h = cc
  leads known (Some (Int x0)) (Some (Struct y0)) to h = cc
  leads known (Some (Int x0)) (Some (Union y0)) to h = cc
  leads known (Some (Int x0)) (Some (Array y0 y1)) to h = cc
  leads known (Some (Pointer x0)) None to h = cc
  leads known (Some (Pointer x0)) (Some (Int y0)) to h = cc
  leads known (Some (Pointer x0)) (Some (Pointer y0)) to h = some_same known _ _ to h
  leads known (Some (Pointer x0)) (Some VoidPointer) to h = cc
  leads known (Some (Pointer x0)) (Some (Function y0)) to h = cc
  leads known (Some (Pointer x0)) (Some (Struct y0)) to h = cc
  leads known (Some (Pointer x0)) (Some (Union y0)) to h = cc
  leads known (Some (Pointer x0)) (Some (Array y0 y1)) to h = cc
  leads known (Some VoidPointer) None to h = cc
  leads known (Some VoidPointer) (Some (Int y0)) to h = cc
  leads known (Some VoidPointer) (Some (Pointer y0)) to h = cc
  leads known (Some VoidPointer) (Some VoidPointer) to h = cc
  leads known (Some VoidPointer) (Some (Function y0)) to h = cc
  leads known (Some VoidPointer) (Some (Struct y0)) to h = cc
  leads known (Some VoidPointer) (Some (Union y0)) to h = cc
  leads known (Some VoidPointer) (Some (Array y0 y1)) to h = cc
  leads known (Some (Function x0)) None to h = cc
  leads known (Some (Function x0)) (Some (Int y0)) to h = cc
  leads known (Some (Function x0)) (Some (Pointer y0)) to h = cc
  leads known (Some (Function x0)) (Some VoidPointer) to h = cc
  leads known (Some (Function x0)) (Some (Function y0)) to h = cc
  leads known (Some (Function x0)) (Some (Struct y0)) to h = cc
  leads known (Some (Function x0)) (Some (Union y0)) to h = cc
  leads known (Some (Function x0)) (Some (Array y0 y1)) to h = cc
  leads known (Some (Struct x0)) None to h = cc
  leads known (Some (Struct x0)) (Some (Int y0)) to h = cc
  leads known (Some (Struct x0)) (Some (Pointer y0)) to h = cc
  leads known (Some (Struct x0)) (Some VoidPointer) to h = cc
  leads known (Some (Struct x0)) (Some (Function y0)) to h = cc
  leads known (Some (Struct x0)) (Some (Struct y0)) to h = cc
  leads known (Some (Struct x0)) (Some (Union y0)) to h = cc
  leads known (Some (Struct x0)) (Some (Array y0 y1)) to h = cc
  leads known (Some (Union x0)) None to h = cc
  leads known (Some (Union x0)) (Some (Int y0)) to h = cc
  leads known (Some (Union x0)) (Some (Pointer y0)) to h = cc
  leads known (Some (Union x0)) (Some VoidPointer) to h = cc
  leads known (Some (Union x0)) (Some (Function y0)) to h = cc
  leads known (Some (Union x0)) (Some (Struct y0)) to h = cc
  leads known (Some (Union x0)) (Some (Union y0)) to h = cc
  leads known (Some (Union x0)) (Some (Array y0 y1)) to h = cc
  leads known (Some (Array x0 x1)) None to h = cc
  leads known (Some (Array x0 x1)) (Some (Int y0)) to h = cc
  leads known (Some (Array x0 x1)) (Some (Pointer y0)) to h = cc
  leads known (Some (Array x0 x1)) (Some VoidPointer) to h = cc
  leads known (Some (Array x0 x1)) (Some (Function y0)) to h = cc
  leads known (Some (Array x0 x1)) (Some (Struct y0)) to h = cc
  leads known (Some (Array x0 x1)) (Some (Union y0)) to h = cc
  leads known (Some (Array x0 x1)) (Some (Array y0 y1)) to h = some_same known _ _ to h

  leaf : (known : ℕ → ℕ → Bool) (a b : Option Ty) → both_lead a b ≡ None → at_both known a b ≡ leaf_corresponds structs unions a b
  leaf known None None h = refl
  leaf known None (Some (Int y0)) h = refl
  leaf known None (Some (Pointer y0)) h = refl
  leaf known None (Some VoidPointer) h = refl
  leaf known None (Some (Function y0)) h = refl
  leaf known None (Some (Struct y0)) h = refl
  leaf known None (Some (Union y0)) h = refl
  leaf known None (Some (Array y0 y1)) h = refl
  leaf known (Some (Int x0)) None h = refl
  leaf known (Some (Int x0)) (Some (Int y0)) h = refl
  leaf known (Some (Int x0)) (Some (Pointer y0)) h = refl
  leaf known (Some (Int x0)) (Some VoidPointer) h = refl
  leaf known (Some (Int x0)) (Some (Function y0)) h = refl
  leaf known (Some (Int x0)) (Some (Struct y0)) h = refl
  leaf known (Some (Int x0)) (Some (Union y0)) h = refl
  leaf known (Some (Int x0)) (Some (Array y0 y1)) h = refl
  leaf known (Some (Pointer x0)) None h = refl
  leaf known (Some (Pointer x0)) (Some (Int y0)) h = refl
  leaf known (Some (Pointer x0)) (Some (Pointer y0)) h = cc
  leaf known (Some (Pointer x0)) (Some VoidPointer) h = refl
  leaf known (Some (Pointer x0)) (Some (Function y0)) h = refl
  leaf known (Some (Pointer x0)) (Some (Struct y0)) h = refl
  leaf known (Some (Pointer x0)) (Some (Union y0)) h = refl
  leaf known (Some (Pointer x0)) (Some (Array y0 y1)) h = refl
  leaf known (Some VoidPointer) None h = refl
  leaf known (Some VoidPointer) (Some (Int y0)) h = refl
  leaf known (Some VoidPointer) (Some (Pointer y0)) h = refl
  leaf known (Some VoidPointer) (Some VoidPointer) h = refl
  leaf known (Some VoidPointer) (Some (Function y0)) h = refl
  leaf known (Some VoidPointer) (Some (Struct y0)) h = refl
  leaf known (Some VoidPointer) (Some (Union y0)) h = refl
  leaf known (Some VoidPointer) (Some (Array y0 y1)) h = refl
  leaf known (Some (Function x0)) None h = refl
  leaf known (Some (Function x0)) (Some (Int y0)) h = refl
  leaf known (Some (Function x0)) (Some (Pointer y0)) h = refl
  leaf known (Some (Function x0)) (Some VoidPointer) h = refl
  leaf known (Some (Function x0)) (Some (Function y0)) h = refl
  leaf known (Some (Function x0)) (Some (Struct y0)) h = refl
  leaf known (Some (Function x0)) (Some (Union y0)) h = refl
  leaf known (Some (Function x0)) (Some (Array y0 y1)) h = refl
  leaf known (Some (Struct x0)) None h = refl
  leaf known (Some (Struct x0)) (Some (Int y0)) h = refl
  leaf known (Some (Struct x0)) (Some (Pointer y0)) h = refl
  leaf known (Some (Struct x0)) (Some VoidPointer) h = refl
  leaf known (Some (Struct x0)) (Some (Function y0)) h = refl
  leaf known (Some (Struct x0)) (Some (Struct y0)) h = refl
  leaf known (Some (Struct x0)) (Some (Union y0)) h = refl
  leaf known (Some (Struct x0)) (Some (Array y0 y1)) h = refl
  leaf known (Some (Union x0)) None h = refl
  leaf known (Some (Union x0)) (Some (Int y0)) h = refl
  leaf known (Some (Union x0)) (Some (Pointer y0)) h = refl
  leaf known (Some (Union x0)) (Some VoidPointer) h = refl
  leaf known (Some (Union x0)) (Some (Function y0)) h = refl
  leaf known (Some (Union x0)) (Some (Struct y0)) h = refl
  leaf known (Some (Union x0)) (Some (Union y0)) h = refl
  leaf known (Some (Union x0)) (Some (Array y0 y1)) h = refl
  leaf known (Some (Array x0 x1)) None h = refl
  leaf known (Some (Array x0 x1)) (Some (Int y0)) h = refl
  leaf known (Some (Array x0 x1)) (Some (Pointer y0)) h = refl
  leaf known (Some (Array x0 x1)) (Some VoidPointer) h = refl
  leaf known (Some (Array x0 x1)) (Some (Function y0)) h = refl
  leaf known (Some (Array x0 x1)) (Some (Struct y0)) h = refl
  leaf known (Some (Array x0 x1)) (Some (Union y0)) h = refl
  leaf known (Some (Array x0 x1)) (Some (Array y0 y1)) h = cc

  -- two pointers or two arrays correspond where that to which they lead does
  pub fuel-leads : (n t u : ℕ) (to : ℕ × ℕ) → both_lead (slice_get p.types t) (slice_get q.types u) ≡ Some to
      → by_fuel p (correspond_step q structs unions) nothing_corresponds (suc n) t u ≡ by_fuel p (correspond_step q structs unions) nothing_corresponds n to.0 to.1
  fuel-leads n t u to h =
      same_at (by_fuel p (correspond_step q structs unions) nothing_corresponds n) (slice_get p.types t) u ∙ leads (by_fuel p (correspond_step q structs unions) nothing_corresponds n) (slice_get p.types t) (slice_get q.types u) to h

  -- any other types by themselves
  pub fuel-leaf : (n t u : ℕ) → both_lead (slice_get p.types t) (slice_get q.types u) ≡ None
      → by_fuel p (correspond_step q structs unions) nothing_corresponds (suc n) t u ≡ leaf_corresponds structs unions (slice_get p.types t) (slice_get q.types u)
  fuel-leaf n t u h =
      same_at (by_fuel p (correspond_step q structs unions) nothing_corresponds n) (slice_get p.types t) u ∙ leaf (by_fuel p (correspond_step q structs unions) nothing_corresponds n) (slice_get p.types t) (slice_get q.types u) h
