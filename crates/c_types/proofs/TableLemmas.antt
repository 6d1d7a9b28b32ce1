-- What a table keeps.
use Rattle.std.proofs.Common.{◌≡◌, ◌∙◌, sym, ap, subst, refl, ℕ, zero, suc, ◌≤◌, ◌+◌, List, [], ◌∷◌, take, Option, Some, None, slice_get, add_assoc, arith}
use mathlib.Core.Path.{fun_ext}
use Rattle.c_types.specs.declared.parts.FieldDef.{FieldDef}
use Rattle.c_types.specs.declared.parts.Parts.{Parts}
use Rattle.c_types.specs.declared.path.Place.{Place}
use Rattle.c_types.specs.declared.path.Step.{Step}
use Rattle.c_types.specs.declared.shape.Shape.{Shape}
use Rattle.c_types.specs.Layout.{greatest, Shapes, field_start, field_end, fields_end, nth_start, shape_of, size_of}
use Rattle.c_types.specs.Rounds.{shape_at, IsSmall, AreSmall}
use Rattle.lu_spec.specs.Then.{then_option}
use Rattle.c_types.specs.Place.{place, shifted, step_place, path_place}
use Rattle.c_types.specs.Kept.{IsKept}
use Rattle.c_types.proofs.Alignment.{IsAlignment-low, IsAlignment-high}
use Rattle.c_types.proofs.KeptLemmas.{size-small}
use Rattle.c_types.proofs.Numbered.{pointer_aligned}
use Rattle.c_types.proofs.PlaceLaws.{step-within}
use Rattle.c_types.proofs.ShapeLaws.{shape-sound}

pub nth_start-take : (known : Shapes) (fields : List FieldDef) (end k : ℕ) (f : FieldDef) → slice_get fields k ≡ Some f → nth_start known end fields k ≡ field_start known (fields_end known end (take k fields)) f
nth_start-take known [] end k f e = cc
nth_start-take known (d ∷ fs) end zero f e = let q : d ≡ f = cc in ap (field_start known end) q
nth_start-take known (d ∷ fs) end (suc k) f e = nth_start-take known fs (field_end known end d) k f e

module _ (p : Parts) (shapes : List Shape) (kept : IsKept p shapes) where
  pub same-shapes : shape_at shapes ≡ shape_of p
  same-shapes = fun_ext kept.each

  small_of : (t : ℕ) → IsSmall (shape_of p t)
  small_of t =
      let le = size-small p kept.built.small t in
      let aligned = (shape-sound p (pointer_aligned p kept.built.numbered) t).aligned in
      record { size = omega (arith, le); low = IsAlignment-low aligned; high = IsAlignment-high aligned }

  pub AreSmall-kept : AreSmall (shape_at shapes)
  AreSmall-kept t = subst IsSmall (sym (kept.each t)) (small_of t)

  -- where a step leads ends within the greatest size
  pub step-small : (t : ℕ) (s : Step) (to : Place) → step_place p (slice_get p.types t) s ≡ Some to → to.offset + size_of p to.ty ≤ greatest
  step-small t s to e =
      let inside = step-within p kept.built t (slice_get p.types t) s to refl e in
      let le = size-small p kept.built.small t in omega (arith, inside, le)

-- one step on along a path
pub path-turn : (p : Parts) (at next : Place) (step : Step) (rest : List Step) → Some next ≡ then_option (step_place p (slice_get p.types at.ty) step) (shifted at.offset) → then_option (path_place p next.ty rest) (shifted next.offset) ≡ then_option (path_place p at.ty (step ∷ rest)) (shifted at.offset)
path-turn p at next step rest e = by_step (step_place p (slice_get p.types at.ty) step) e
  where
    by_rest : (q : Place) (o : Option Place) → then_option o (shifted (at.offset + q.offset)) ≡ then_option (then_option o (shifted q.offset)) (shifted at.offset)
    by_rest q None = refl
    by_rest q (Some r) = ap (λ x. Some (place r.ty x)) (add_assoc at.offset q.offset r.offset)

    by_step : (o : Option Place) → Some next ≡ then_option o (shifted at.offset) → then_option (path_place p next.ty rest) (shifted next.offset) ≡ then_option (then_option o (λ to. then_option (path_place p to.ty rest) (shifted to.offset))) (shifted at.offset)
    by_step None e = cc
    by_step (Some q) e =
        let same : next ≡ place q.ty (at.offset + q.offset) = cc in
        ap (λ (n : Place). then_option (path_place p n.ty rest) (shifted n.offset)) same ∙ by_rest q (path_place p q.ty rest)
