-- A path that goes on: its offset is the sum, and its type that of the rest.
use Rattle.std.proofs.Common.{◌≡◌, ◌∙◌, sym, ap, refl, ℕ, ◌+◌, ◌*◌, Bool, true, false, ◌||◌, nat_lt, if◌then◌else◌, List, [], ◌∷◌, ◌++◌, Option, Some, None, slice_get, add_assoc, arith}
use Rattle.std.specs.List.{list_any}
use Rattle.lu_spec.specs.Then.{then_option}
use Rattle.c_types.specs.declared.parts.Parts.{Parts}
use Rattle.c_types.specs.declared.path.Place.{Place}
use Rattle.c_types.specs.declared.path.Step.{Step}
use Rattle.c_types.specs.declared.path.Step.TheVariants.{Index, Field, Member}
use Rattle.c_types.specs.Layout.{size_of}
use Rattle.c_types.specs.Place.{place, shifted, step_place, path_place, object_place, is_member, IsPlaceAt}

-- where the rest of a path leads from a place
abbrev pub on_from : Parts → List Step → Place → Option Place
on_from p rest to = then_option (path_place p to.ty rest) (shifted to.offset)

shifted-none : (o : Option Place) → o ≡ then_option o (shifted 0)
shifted-none None = refl
shifted-none (Some q) = ap (λ x. Some (place q.ty x)) (from-none q.offset)
  where
    from-none : (n : ℕ) → n ≡ 0 + n
    from-none n = omega arith

shifted-twice : (a b : ℕ) (o : Option Place) → then_option (then_option o (shifted b)) (shifted a) ≡ then_option o (shifted (a + b))
shifted-twice a b None = refl
shifted-twice a b (Some q) = ap (λ x. Some (place q.ty x)) (sym (add_assoc a b q.offset))

shifted-on : (p : Parts) (rest : List Step) (a : ℕ) (o : Option Place) → then_option (then_option o (on_from p rest)) (shifted a) ≡ then_option (then_option o (shifted a)) (on_from p rest)
shifted-on p rest a None = refl
shifted-on p rest a (Some r) = shifted-twice a r.offset (path_place p r.ty rest)

pub path-append : (p : Parts) (t : ℕ) (path rest : List Step) → path_place p t (path ++ rest) ≡ then_option (path_place p t path) (on_from p rest)
path-append p t [] rest = shifted-none (path_place p t rest)
path-append p t (s ∷ path) rest = by_step (step_place p (slice_get p.types t) s) (λ q. path-append p q.ty path rest)
  where
    by_step : (o : Option Place) → ((q : Place) → path_place p q.ty (path ++ rest) ≡ then_option (path_place p q.ty path) (on_from p rest)) → then_option o (λ q. then_option (path_place p q.ty (path ++ rest)) (shifted q.offset)) ≡ then_option (then_option o (λ q. then_option (path_place p q.ty path) (shifted q.offset))) (on_from p rest)
    by_step None below = refl
    by_step (Some q) below = ap (λ o. then_option o (shifted q.offset)) (below q) ∙ shifted-on p rest q.offset (path_place p q.ty path)

pub object-append : (p : Parts) (elem count : ℕ) (s : Step) (path rest : List Step) → object_place p elem count (s ∷ (path ++ rest)) ≡ then_option (object_place p elem count (s ∷ path)) (on_from p rest)
object-append p elem count (Index i) path rest = by_test (nat_lt i count)
  where
    by_test : (b : Bool) → (if b then then_option (path_place p elem (path ++ rest)) (shifted (i * size_of p elem)) else None) ≡ then_option (if b then then_option (path_place p elem path) (shifted (i * size_of p elem)) else None) (on_from p rest)
    by_test true = ap (λ o. then_option o (shifted (i * size_of p elem))) (path-append p elem path rest) ∙ shifted-on p rest (i * size_of p elem) (path_place p elem path)
    by_test false = refl
object-append p elem count (Field k) path rest = refl
object-append p elem count (Member k) path rest = refl

-- one step alone
step-alone : (p : Parts) (s : Step) (to part : Place) → step_place p (slice_get p.types to.ty) s ≡ Some part → on_from p (s ∷ []) to ≡ Some (place part.ty (to.offset + part.offset))
step-alone p s to part e =
    ap (λ o. then_option (then_option o (λ q. then_option (path_place p q.ty []) (shifted q.offset))) (shifted to.offset)) e ∙ ap (λ x. Some (place part.ty (to.offset + x))) (add-none part.offset)
  where
    add-none : (n : ℕ) → n + 0 ≡ n
    add-none n = omega arith

-- a path and one more step: the sum of the offsets, and the step's type
pub path-more : (p : Parts) (t : ℕ) (path : List Step) (s : Step) (to part : Place) → path_place p t path ≡ Some to → step_place p (slice_get p.types to.ty) s ≡ Some part → path_place p t (path ++ (s ∷ [])) ≡ Some (place part.ty (to.offset + part.offset))
path-more p t path s to part e f = path-append p t path (s ∷ []) ∙ (ap (λ o. then_option o (on_from p (s ∷ []))) e ∙ step-alone p s to part f)

pub object-more : (p : Parts) (elem count : ℕ) (path : List Step) (s : Step) (to part : Place) → object_place p elem count path ≡ Some to → step_place p (slice_get p.types to.ty) s ≡ Some part → object_place p elem count (path ++ (s ∷ [])) ≡ Some (place part.ty (to.offset + part.offset))
object-more p elem count [] s to part e f = cc
object-more p elem count (r ∷ path) s to part e f =
    object-append p elem count r path (s ∷ []) ∙ (ap (λ o. then_option o (on_from p (s ∷ []))) e ∙ step-alone p s to part f)

outside-more : (path : List Step) (s : Step) → list_any is_member path ≡ false → is_member s ≡ false → list_any is_member (path ++ (s ∷ [])) ≡ false
outside-more [] s h g = ap (λ b. b || false) g
outside-more (r ∷ path) s h g = by_head (is_member r) h (λ rest. outside-more path s rest g)
  where
    by_head : (b : Bool) → b || list_any is_member path ≡ false → (list_any is_member path ≡ false → list_any is_member (path ++ (s ∷ [])) ≡ false) → b || list_any is_member (path ++ (s ∷ [])) ≡ false
    by_head true h below = cc
    by_head false h below = below h

-- the same for a place of an object outside unions
pub IsPlaceAt-more : (p : Parts) (elem count offset t : ℕ) (path : List Step) (s : Step) (part : Place) → IsPlaceAt p elem count offset t path → step_place p (slice_get p.types t) s ≡ Some part → is_member s ≡ false → IsPlaceAt p elem count (offset + part.offset) part.ty (path ++ (s ∷ []))
IsPlaceAt-more p elem count offset t path s part at f g = record {
  leads = object-more p elem count path s (place t offset) part at.leads f;
  outside = outside-more path s at.outside g;
}
