-- The new objects have room below the last address.
use Rattle.std.proofs.Common.{◌≡◌, refl, subst, ℕ, ◌+◌, ◌*◌, ◌<◌, ◌≤◌, ◌^◌, Bool, true, false, nat_lt, if◌then◌else◌, List, [], ◌∷◌, ◌++◌, map, length, Option, Some, None, slice_get, arith}
use Rattle.std.specs.Prelude.{sum_by}
use Rattle.std.specs.Option.{option_map}
use Rattle.std.proofs.Math.Nat.{mul-le-mul_left}
use Rattle.std.proofs.lemmas.Bool.Decides.{nat_tests}
use Rattle.std.proofs.lemmas.List.Sums.{sum_by-cons, sum_by-append}
use Rattle.lu_spec.proofs.ThenLemmas.{then_some}
use Rattle.c_types.specs.declared.parts.Parts.{Parts}
use Rattle.c_types.specs.Layout.{size_of}
use Rattle.c_types.specs.Refusal.{IsBuilt}
use Rattle.c_types.proofs.PlaceLaws.{size-low}
use Rattle.bm_objects.specs.declared.row.Row.{Row}
use Rattle.lu_image.specs.declared.pairing.Pairing.{Pairing}
use Rattle.lu_image.specs.Correspondence.{pair_in}
use Rattle.lu_remap.specs.declared.shapes.SitePair.{SitePair}
use Rattle.lu_remap.specs.Shapes.{global_shape, global_shapes, site_pair, pair_of, heap_shape, shape_of_row, shape_at, bytes_of, as_list, heap_shapes, over_limit, room}
use Rattle.lu_remap.specs.Sound.{IsSound, AreCounted}
use Rattle.lu_remap.proofs.Sizes.{size_global}

globals_room : (p : Parts) → IsBuilt p → (gs : List ℕ) → sum_by room (map (global_shape p) gs) ≤ sum_by (size_of p) gs + 31 * length gs
globals_room p built [] = omega arith
globals_room p built (t ∷ gs) =
    let size = size_global p built t in
    let rest = globals_room p built gs in
    let rooms = sum_by-cons room (global_shape p t) (map (global_shape p) gs) in
    let sizes = sum_by-cons (size_of p) t gs in
    omega (arith, size, rest, rooms, sizes)

module _ (p : Pairing) (built : IsBuilt p.new.types) (sound : IsSound p) (rows : List Row) (counted : AreCounted rows) where
  -- a new heap object has a byte
  pair_known : (site : Option ℕ) (pair : SitePair) → pair_of p site ≡ Some pair → pair.elem < length p.new.types.types
  pair_known None pair e = absurd (cc)
  pair_known (Some site) pair e =
      let j = then_some (pair_in p.sites site) (λ j. option_map (site_pair j) (slice_get p.new.sites j)) pair e in
      by j.0 (slice_get p.new.sites j.0) refl j.2
    where
      by : (j : ℕ) (o : Option ℕ) → slice_get p.new.sites j ≡ o → option_map (site_pair j) o ≡ Some pair → pair.elem < length p.new.types.types
      by j None at h = absurd (cc)
      by j (Some u) at h =
          let same : site_pair j u ≡ pair = cc in
          subst (λ (pair : SitePair). pair.elem < length p.new.types.types) same (sound.sites j u at)

  shape_some : (k : ℕ) (s : Row) → shape_at p rows k ≡ Some s → 1 ≤ s.size
  shape_some k s e =
      let r = then_some (slice_get rows k) (shape_of_row p) s e in
      by r.0 (counted k r.0 r.1) (pair_of p r.0.site) refl r.2
    where
      by : (r : Row) → 1 ≤ r.count → (o : Option SitePair) → pair_of p r.site ≡ o → option_map (heap_shape p r.count) o ≡ Some s → 1 ≤ s.size
      by r some None pair h = absurd (cc)
      by r some (Some pair) is h =
          let same : heap_shape p r.count pair ≡ s = cc in
          let one = size-low p.new.types built pair.elem (pair_known r.site pair is) in
          let more = mul-le-mul_left {m = 1} {n = r.count} (size_of p.new.types pair.elem) some in
          let low : 1 ≤ r.count * size_of p.new.types pair.elem = omega (arith, one, more) in
          subst (λ (s : Row). 1 ≤ s.size) same low

  heap_room : (ks : List ℕ) (total : ℕ) → total ≤ 4194304 → over_limit p rows total ks ≡ None → 32 * total + sum_by room (heap_shapes p rows ks) ≤ 134217728
  heap_room [] total low h = omega (arith, low)
  heap_room (k ∷ ks) total low h = by (shape_at p rows k) refl h (heap_room ks)
    where
      by_test : (b : Bool) (n : ℕ) → nat_lt 4194304 n ≡ b → (if b then Some k else over_limit p rows n ks) ≡ None → (n ≤ 4194304) × (over_limit p rows n ks ≡ None)
      by_test true n e h = absurd (cc)
      by_test false n e h = (grind (arith, nat_tests, e), h)

      by : (o : Option Row) → shape_at p rows k ≡ o → (if nat_lt 4194304 (total + bytes_of o) then Some k else over_limit p rows (total + bytes_of o) ks) ≡ None → ((n : ℕ) → n ≤ 4194304 → over_limit p rows n ks ≡ None → 32 * n + sum_by room (heap_shapes p rows ks) ≤ 134217728) → 32 * total + sum_by room (as_list o ++ heap_shapes p rows ks) ≤ 134217728
      by None is h below =
          let t = by_test (nat_lt 4194304 (total + 0)) (total + 0) refl h in
          let rest = below (total + 0) t.0 t.1 in
          omega (arith, rest)
      by (Some s) is h below =
          let t = by_test (nat_lt 4194304 (total + s.size)) (total + s.size) refl h in
          let rest = below (total + s.size) t.0 t.1 in
          let some = shape_some k s is in
          let sum = sum_by-cons room s (heap_shapes p rows ks) in
          omega (arith, rest, some, sum)

  pub has_room : (needed : List ℕ) → over_limit p rows 0 needed ≡ None → 4096 + sum_by room (global_shapes p.new ++ heap_shapes p rows needed) < 2 ^ 31
  has_room needed none =
      let sum = sum_by-append room (global_shapes p.new) (heap_shapes p rows needed) in
      let globals = globals_room p.new.types built p.new.globals in
      let heap = heap_room needed 0 (omega arith) none in
      let few = sound.few in
      let small = sound.small in
      omega (arith, sum, globals, heap, few, small)
