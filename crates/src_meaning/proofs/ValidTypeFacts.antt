-- A function pointer's type where there is room.
use Rattle.std.proofs.Common.{◌≡◌, refl, ℕ, zero, suc, ◌-◌, ◌&&◌, nat_lt, Some, slice_get}
use native.Mathlib.Omega.{arith}
use Rattle.c_types.specs.declared.parts.Parts.{Parts}
use Rattle.c_types.specs.declared.parts.Ty.TheVariants as T
use Rattle.src_meaning.specs.ValidTypes.{is_declared, is_declared_scalar, signature_is_declared}

pub room-suc : (n : ℕ) → (n ≡ 0 → ⊥) → suc (n - 1) ≡ n
room-suc zero h = elim (h refl) [ ]
room-suc (suc n) h = omega arith

pub declared-Function : (p : Parts) (room g : ℕ) → is_declared p (suc room) (Some (T.Function g)) ≡ (nat_lt 0 room && signature_is_declared (is_declared_scalar p room) p (slice_get p.signatures g))
declared-Function p room g = refl
