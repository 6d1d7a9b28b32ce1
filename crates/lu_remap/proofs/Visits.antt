-- Steps of the descent, as the code makes them.
use Rattle.std.proofs.Common.{◌≡◌, ◌≢◌, ◌∙◌, refl, sym, ap, ℕ, zero, suc, ◌+◌, ◌-◌, ◌^◌, ◌≤◌, true, nat_eq, if◌then◌else◌, Option, Some, None, arith}
use Rattle.std.proofs.Math.Nat.{div-mul-le_self}
use Rattle.std.proofs.lemmas.Bool.Decides.{nat_tests}
use Rattle.c_types.specs.declared.parts.Parts.{Parts}
use Rattle.c_types.specs.declared.parts.Ty.{Ty}
use Rattle.c_types.specs.declared.parts.Ty.TheVariants as T
use Rattle.c_types.specs.declared.path.Place.{Place}
use Rattle.c_types.specs.Layout.{size_of, align_of, next_multiple}
use Rattle.c_types.specs.Recursion.{at_type}
use Rattle.c_types.specs.Refusal.{IsBuilt}
use Rattle.c_types.proofs.Alignment.{IsAlignment-high}
use Rattle.c_types.proofs.KeptLemmas.{size-small}
use Rattle.c_types.proofs.Numbered.{pointer_aligned}
use Rattle.c_types.proofs.PlaceLaws.{low}
use Rattle.c_types.proofs.ShapeLaws.{shape-sound}
use Rattle.lu_image_store.specs.Versions.{Versions, old_type}
use Rattle.lu_image_store.specs.Pointers.{Aim}
use Rattle.lu_remap.specs.declared.descent.Held.{Held}
use Rattle.lu_remap.specs.declared.descent.Held.TheVariants.{Fields, Elements, Nothing}
use Rattle.lu_remap.specs.declared.elements.Elements as Run
use Rattle.lu_remap.specs.declared.spot.Spot.{Spot}
use Rattle.lu_remap.specs.Descent.{Visit, elements_at, with_place, struct_spot, visit_elements, visit_element, visit_last, visit_step, nothing_inside, visit_inside, visit}
use Rattle.lu_remap.specs.Held.{held_of}

module _ (m : Versions) (aim : Aim) where
  abbrev by_held : ℕ → Held → Visit
  by_held n (Fields s) to offset spot = struct_spot m (visit m aim n) s to offset spot
  by_held n (Elements t k) to offset spot =
      visit_elements m aim (visit m aim n) t k (elements_at m to) offset spot
  by_held n Nothing to offset spot = spot

  step-is : (n : ℕ) (o : Option Ty) (to : Option Place) (offset : ℕ) (spot : Spot) → at_type (visit_step m aim (visit_inside m aim n)) nothing_inside o to offset spot ≡ by_held n (held_of o) to offset spot
  step-is n None to offset spot = refl
  step-is n (Some (T.Int x)) to offset spot = refl
  step-is n (Some (T.Pointer x)) to offset spot = refl
  step-is n (Some T.VoidPointer) to offset spot = refl
  step-is n (Some (T.Function x)) to offset spot = refl
  step-is n (Some (T.Union x)) to offset spot = refl
  step-is n (Some (T.Struct s)) to offset spot = refl
  step-is n (Some (T.Array u k)) to offset spot = refl

  -- a visit with a step to spare
  pub visit-at : (n t : ℕ) (to : Option Place) (offset : ℕ) (spot : Spot) (h : Held) → n ≢ 0 → h ≡ held_of (old_type m t) → by_held (n - 1) h to offset (with_place m aim t to offset spot) ≡ visit m aim n t to offset spot
  visit-at zero t to offset spot h some e = absurd (some refl)
  visit-at (suc n) t to offset spot h some e =
      let less : suc n - 1 ≡ n = omega arith in
      ap (λ k. by_held k h to offset (with_place m aim t to offset spot)) less
      ∙ (ap (λ h. by_held n h to offset (with_place m aim t to offset spot)) e ∙ sym (step-is n (old_type m t) to offset (with_place m aim t to offset spot)))

-- the element before the offset
pub before-is : (m : Versions) (part : Visit) (run : Option Run.Elements) (size n r q i : ℕ) (spot : Spot) → r ≡ 0 → 1 ≤ q → i ≡ q - 1 → visit_element m part run n i size spot ≡ (if nat_eq r 0 then visit_last m part run size n q spot else spot)
before-is m part run size n r zero i spot none some e = absurd (omega (arith, some))
before-is m part run size n r (suc q) i spot none some e =
    let same : i ≡ q = omega (arith, e) in
    let test : nat_eq r 0 ≡ true = grind (arith, nat_tests, none) in
    ap (λ i. visit_element m part run n i size spot) same ∙ sym (ap (λ b. if b then visit_element m part run n q size spot else spot) test)

module _ (p : Parts) (built : IsBuilt p) where
  pub align-low : (t : ℕ) → 1 ≤ align_of p t
  align-low t = low p built t

  -- a field and what stands before it take at most 2 MiB
  pub end-bound : (end t : ℕ) → next_multiple end (align_of p t) + size_of p t ≤ end + 2 ^ 21
  end-bound end t =
      let a = low p built t in
      let b = IsAlignment-high (shape-sound p (pointer_aligned p built.numbered) t).aligned in
      let c = size-small p built.small t in
      let d = rounds end (align_of p t) a in
      omega (arith, a, b, c, d)
    where
      rounds : (n a : ℕ) → 1 ≤ a → next_multiple n a ≤ n + (a - 1)
      rounds n a h = div-mul-le_self (n + (a - 1)) a
