-- The zero of a scalar type, which is its word too.
use Rattle.std.proofs.Common.{◌≡◌, ◌∙◌, refl, ap, sym, subst, true, ℕ, suc, List, [], ◌∷◌, length, Option, Some, None}
use Rattle.std.specs.Prelude.{slice_get}
use Rattle.c_types.specs.declared.parts.Ty.{Ty}
use Rattle.c_types.specs.declared.parts.Ty.TheVariants as T
use Rattle.c_types.specs.declared.parts.IntKind.TheVariants as K
use Rattle.c_types.specs.Recursion.{by_fuel, at_type}
use Rattle.src_tree.specs.declared.value.Value.{Null}
use Rattle.src_tree.specs.declared.value.Store.{Store}
use Rattle.src_tree.specs.declared.program.Program.{Program}
use Rattle.src_meaning.specs.Paths.{zero_of, zero_step}
use Rattle.src_meaning.specs.Integers.{is_held}
use Rattle.src_meaning.specs.ValidTypes.{is_scalar}
use Rattle.c_types.specs.Refusal.{IsBuilt}
use Rattle.cg_state.proofs.Typed.{Typed, typed_int, typed_pointer, typed_void, typed_function, null, no_function}
use Rattle.cg_sim_expr.proofs.Matching.{word}

module _ (p : Program) (built : IsBuilt p.types) (s : Store) where
  zero_by : (n u : ℕ) → slice_get p.types.types u ≡ None → by_fuel p.types (zero_step p.types) Null (suc n) u ≡ Null
  zero_by n u e = ap (at_type (zero_step p.types (by_fuel p.types (zero_step p.types) Null n)) Null) e

  pub record ZeroScalar (u : ℕ) : Type 0 where
    pub is_typed : Typed p built s u (zero_of p.types u)
    pub is_zero : word p built s (zero_of p.types u) ≡ 0

  some_types : (types : List Ty) (u : ℕ) (ty : Ty) → slice_get types u ≡ Some ty → (n : ℕ) × (length types ≡ suc n)
  some_types [] u ty e = absurd (cc)
  some_types (t ∷ ts) u ty e = (length ts, refl)

  zero_is : (u : ℕ) (ty : Ty) → slice_get p.types.types u ≡ Some ty → (n : ℕ) × (zero_of p.types u ≡ zero_step p.types (by_fuel p.types (zero_step p.types) Null n) ty)
  zero_is u ty e =
      let n = some_types p.types.types u ty e in
      (n.0, ap (λ k. by_fuel p.types (zero_step p.types) Null k u) n.1 ∙ ap (at_type (zero_step p.types (by_fuel p.types (zero_step p.types) Null n.0)) Null) e)

  pub zero_scalar : (u : ℕ) → is_scalar (slice_get p.types.types u) ≡ true → ZeroScalar u
  zero_scalar u h = by (slice_get p.types.types u) refl h
    where
      null_zero : zero_of p.types u ≡ Null → Typed p built s u Null → ZeroScalar u
      null_zero e t = record { is_typed = subst (Typed p built s u) (sym e) t; is_zero = ap (word p built s) e }

      by : (o : Option Ty) → slice_get p.types.types u ≡ o → is_scalar o ≡ true → ZeroScalar u
      by (Some (T.Int kind)) e h =
          let z = zero_is u (T.Int kind) e in
          record { is_typed = subst (Typed p built s u) (sym z.1) (typed_int p built s u kind (Rattle.std.specs.Prelude.pos 0) e (zero_held kind)); is_zero = ap (word p built s) z.1 }
        where
          zero_held : (kind : _) → is_held kind (Rattle.std.specs.Prelude.pos 0) ≡ true
          zero_held K.Char = refl
          zero_held K.UChar = refl
          zero_held K.Short = refl
          zero_held K.UShort = refl
          zero_held K.Int = refl
          zero_held K.UInt = refl
          zero_held K.LongLong = refl
          zero_held K.ULongLong = refl
      by (Some (T.Pointer w)) e h = null_zero (zero_is u (T.Pointer w) e).1 (typed_pointer p built s u w Null e null)
      by (Some T.VoidPointer) e h = null_zero (zero_is u T.VoidPointer e).1 (typed_void p built s u Null e null)
      by (Some (T.Function g)) e h = null_zero (zero_is u (T.Function g) e).1 (typed_function p built s u g Null e no_function)
      by (Some (T.Struct k)) e h = absurd (cc)
      by (Some (T.Union k)) e h = absurd (cc)
      by (Some (T.Array w n)) e h = absurd (cc)
      by None e h = absurd (cc)
