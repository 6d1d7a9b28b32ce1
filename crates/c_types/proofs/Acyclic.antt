-- Tables in which no type holds itself.
use Rattle.std.proofs.Common.{◌≡◌, ℕ, ◌<◌, ◌⊎◌, inl, inr, length, Option, Some, None, slice_get, arith, refl}
use Rattle.std.proofs.lemmas.Option.{slice_get_within}
use Rattle.std.specs.Prelude.{Contains}
use Rattle.c_types.specs.declared.parts.Ty.{Ty}
use Rattle.c_types.specs.declared.parts.Parts.{Parts}
use Rattle.c_types.specs.Chain.{Edges, Chain, one, more, held_in, held_by, pointed_in, pointed_by, IsCyclic}

first_edge : (edges : Edges) {t u : ℕ} → Chain edges t u → (v : ℕ) × Contains (edges t) v
first_edge edges (one {u = u} c) = (u, c)
first_edge edges (more {u = u} c rest) = (u, c)

-- a type with an edge is of the table
pub edge-within : (p : Parts) (t u : ℕ) → Contains (held_by p t) u ⊎ Contains (pointed_by p t) u → t < length p.types
edge-within p t u c = by_type (slice_get p.types t) refl c
  where
    by_type : (o : Option Ty) → slice_get p.types t ≡ o → Contains (held_in p o) u ⊎ Contains (pointed_in o) u → t < length p.types
    by_type None e (inl c) = absurd (omega (arith, c.1))
    by_type None e (inr c) = absurd (omega (arith, c.1))
    by_type (Some ty) e c = slice_get_within p.types t ty e

pub IsCyclic-within : (p : Parts) (t : ℕ) → IsCyclic p t → t < length p.types
IsCyclic-within p t (inl c) = let e = first_edge (held_by p) c in edge-within p t e.0 (inl e.1)
IsCyclic-within p t (inr c) = let e = first_edge (pointed_by p) c.1 in edge-within p t e.0 (inr e.1)
