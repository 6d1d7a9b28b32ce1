-- One image of an offset, at the same part.
use Rattle.std.proofs.Common.{◌≡◌, ◌∙◌, refl, sym, ap, subst, ℕ, ◌+◌, ◌*◌, ◌<◌, Bool, true, false, ◌&&◌, nat_eq, if◌then◌else◌, List, length, Option, Some, None, Ok, Err, arith}
use Rattle.std.specs.Prelude.{Result}
use Rattle.std.proofs.lemmas.Bool.Decides.{nat_tests}
use Rattle.lu_spec.specs.Then.{then_option}
use Rattle.lu_spec.proofs.ThenLemmas.{then_some}
use Rattle.c_types.specs.declared.parts.Ty.{Ty}
use Rattle.c_types.specs.declared.parts.Ty.TheVariants as T
use Rattle.c_types.specs.declared.path.Place.{Place}
use Rattle.c_types.specs.declared.path.Step.{Step}
use Rattle.c_types.specs.Place.{place, IsPlaceAt}
use Rattle.c_types.specs.Refusal.{IsBuilt}
use Rattle.c_types.proofs.Lists.{and_left, and_right}
use Rattle.c_types.proofs.ObjectLaws.{one-place}
use Rattle.c_types.specs.declared.parts.Parts.{Parts}
use Rattle.lu_image.specs.declared.refusal.Why.{Why}
use Rattle.lu_image.specs.declared.refusal.Why.TheVariants as W
use Rattle.lu_image_store.specs.Versions.{Versions, Extent, old_types, old_type, new_type, new_size}
use Rattle.lu_image_store.specs.Paths.{share_paths, place_image}
use Rattle.lu_image_store.specs.Candidates.{Candidate, at_place, at_end, at_whole, IsCandidate}
use Rattle.lu_image_store.specs.Pointers.{Aim, wanted, suits, place_offset, end_offset, candidate_image, IsAgreed, IsOffsetImage, offset_image}
use Rattle.lu_image_store.proofs.Agreed.{offset_image-is}
use Rattle.lu_image_laws.specs.SamePart.{BeginsThere, EndsThere, WholeEndsThere, IsSamePart}

module _ (P : Candidate → Type 0) (image : Candidate → Option ℕ) where
  -- the four answers
  data Verdict : Result ℕ Why → Type 0 where
    goes : {offset : ℕ} → ((c : Candidate) × P c) → ((c : Candidate) → P c → image c ≡ Some offset) → Verdict (Ok offset)
    nowhere : ((c : Candidate) → P c → ⊥) → Verdict (Err W.NoPlace)
    lost : ((c : Candidate) × P c) → ((c : Candidate) → P c → image c ≡ None) → Verdict (Err W.LostTarget)
    unclear : (a b : Candidate) → P a → P b → (image a ≡ image b → ⊥) → Verdict (Err W.Ambiguous)

  verdict : (answer : Result ℕ Why) → IsAgreed P image answer → Verdict answer
  verdict (Ok offset) h = goes h.0 h.1
  verdict (Err W.NoPlace) h = nowhere h
  verdict (Err W.LostTarget) h = lost h.0 h.1
  verdict (Err W.Ambiguous) h = unclear h.0 h.1 h.2 h.3 h.4
  verdict (Err W.Shape) h = absurd h
  verdict (Err W.HandledInUnion) h = absurd h
  verdict (Err W.ArrayCut) h = absurd h
  verdict (Err W.HeapLimit) h = absurd h
  verdict (Err W.Narrow) h = absurd h
  verdict (Err W.MemberGone) h = absurd h
  verdict (Err W.LostFunction) h = absurd h
  verdict (Err W.UnpairedSite) h = absurd h
  verdict (Err W.Dangling) h = absurd h

  some_one : (c : Candidate) (x y : ℕ) → image c ≡ Some x → image c ≡ Some y → x ≡ y
  some_one c x y e f = let q : Some x ≡ Some y = sym e ∙ f in cc

  same_verdict : {a b : Result ℕ Why} → Verdict a → Verdict b → a ≡ b
  same_verdict (goes {offset = x} c all) (goes {offset = y} d every) = ap Ok (some_one c.0 x y (all c.0 c.1) (every c.0 c.1))
  same_verdict (goes {offset = x} c all) (nowhere none) = absurd (none c.0 c.1)
  same_verdict (goes {offset = x} c all) (lost d every) = absurd (let q : Some x ≡ None = sym (all c.0 c.1) ∙ every c.0 c.1 in cc)
  same_verdict (goes {offset = x} c all) (unclear p q hp hq other) = absurd (other (all p hp ∙ sym (all q hq)))
  same_verdict (nowhere none) (goes d every) = absurd (none d.0 d.1)
  same_verdict (nowhere none) (nowhere never) = refl
  same_verdict (nowhere none) (lost d every) = absurd (none d.0 d.1)
  same_verdict (nowhere none) (unclear p q hp hq other) = absurd (none p hp)
  same_verdict (lost c all) (goes {offset = y} d every) = absurd (let q : Some y ≡ None = sym (every c.0 c.1) ∙ all c.0 c.1 in cc)
  same_verdict (lost c all) (nowhere none) = absurd (none c.0 c.1)
  same_verdict (lost c all) (lost d every) = refl
  same_verdict (lost c all) (unclear p q hp hq other) = absurd (other (all p hp ∙ sym (all q hq)))
  same_verdict (unclear p q hp hq other) (goes d every) = absurd (other (every p hp ∙ sym (every q hq)))
  same_verdict (unclear p q hp hq other) (nowhere none) = absurd (none p hp)
  same_verdict (unclear p q hp hq other) (lost d every) = absurd (other (every p hp ∙ sym (every q hq)))
  same_verdict (unclear p q hp hq other) (unclear r s hr hs another) = refl

  pub agreed_one : (a b : Result ℕ Why) → IsAgreed P image a → IsAgreed P image b → a ≡ b
  agreed_one a b h g = same_verdict (verdict a h) (verdict b g)

pub images_one : (m : Versions) (aim : Aim) (e d : Extent) (offset : ℕ) (a b : Result ℕ Why) → IsOffsetImage m aim e d offset a → IsOffsetImage m aim e d offset b → a ≡ b
images_one m aim e d offset a b h g =
    agreed_one (IsCandidate (old_types m) e.elem e.count (wanted aim) offset) (candidate_image m aim e d) a b h g

pub places_one : (p : Parts) (elem count offset t : ℕ) (a b : List Step) → IsBuilt p → elem < length p.types → IsPlaceAt p elem count offset t a → IsPlaceAt p elem count offset t b → a ≡ b
places_one p elem count offset t a b built known h g = one-place p built elem count offset t a b known h g

module _ (m : Versions) (aim : Aim) (e d : Extent) (old new : ℕ) where
  begins : (path : List Step) (t : ℕ) → IsPlaceAt (old_types m) e.elem e.count old t path → candidate_image m aim e d (at_place path) ≡ Some new → BeginsThere m aim e d path t new
  begins path t at h =
      let from : then_option (place_image m e d path) (place_offset m aim (place t old)) ≡ Some new = sym (ap (λ o. then_option o (λ from. then_option (place_image m e d path) (place_offset m aim from))) at.leads) ∙ h in
      let to = then_some (place_image m e d path) (place_offset m aim (place t old)) new from in
      by to.0 to.1 (suits m aim t to.0.ty) refl to.2
    where
      by : (to : Place) → place_image m e d path ≡ Some to → (b : Bool) → suits m aim t to.ty ≡ b → (if b then Some to.offset else None) ≡ Some new → BeginsThere m aim e d path t new
      by to is false q h = absurd (cc)
      by to is true q h =
          let same : to.offset ≡ new = cc in
          record { ty = to.ty; is = is ∙ ap (λ x. Some (place to.ty x)) same; may = q }

  ends : (path : List Step) (a t n start : ℕ) → IsPlaceAt (old_types m) e.elem e.count start a path → old_type m a ≡ Some (T.Array t n) → candidate_image m aim e d (at_end path) ≡ Some new → EndsThere m aim e d path t n new
  ends path a t n start at is_array h =
      let step : Place → Place → Option ℕ = λ from to. end_offset m aim (old_type m from.ty) (new_type m to.ty) to.offset in
      let from : then_option (place_image m e d path) (step (place a start)) ≡ Some new = sym (ap (λ o. then_option o (λ from. then_option (place_image m e d path) (step from))) at.leads) ∙ h in
      let to = then_some (place_image m e d path) (step (place a start)) new from in
      by to.0 to.1 (new_type m to.0.ty) refl (ap (λ o. end_offset m aim o (new_type m to.0.ty) to.0.offset) (sym is_array) ∙ to.2)
    where
      tests : (to : Place) (u l : ℕ) → place_image m e d path ≡ Some to → new_type m to.ty ≡ Some (T.Array u l) → (b : Bool) → (nat_eq n l && suits m aim t u) ≡ b → (if b then Some (to.offset + l * new_size m u) else None) ≡ Some new → EndsThere m aim e d path t n new
      tests to u l is array false q h = absurd (cc)
      tests to u l is array true q h =
          let long = and_left (nat_eq n l) (suits m aim t u) q in
          let same : l ≡ n = grind (arith, nat_tests, long) in
          let ends : to.offset + l * new_size m u ≡ new = cc in
          record {
            ty = to.ty;
            start = to.offset;
            elem = u;
            is = is;
            array = array ∙ ap (λ l. Some (T.Array u l)) same;
            end = ap (λ l. to.offset + l * new_size m u) (sym same) ∙ ends;
            may = and_right (nat_eq n l) (suits m aim t u) q;
          }

      by : (to : Place) → place_image m e d path ≡ Some to → (o : Option Ty) → new_type m to.ty ≡ o → end_offset m aim (Some (T.Array t n)) o to.offset ≡ Some new → EndsThere m aim e d path t n new
      by to is (Some (T.Array u l)) q h = tests to u l is q (nat_eq n l && suits m aim t u) refl h
      by to is None q h = absurd (cc)
      by to is (Some (T.Int k)) q h = absurd (cc)
      by to is (Some (T.Pointer u)) q h = absurd (cc)
      by to is (Some T.VoidPointer) q h = absurd (cc)
      by to is (Some (T.Function g)) q h = absurd (cc)
      by to is (Some (T.Struct s)) q h = absurd (cc)
      by to is (Some (T.Union s)) q h = absurd (cc)

  whole_ends : candidate_image m aim e d at_whole ≡ Some new → WholeEndsThere m aim e d new
  whole_ends h = by (share_paths e d) (nat_eq e.count d.count) (suits m aim e.elem d.elem) refl refl refl h
    where
      by : (a b c : Bool) → share_paths e d ≡ a → nat_eq e.count d.count ≡ b → suits m aim e.elem d.elem ≡ c → (if a && (b && c) then Some (d.count * new_size m d.elem) else None) ≡ Some new → WholeEndsThere m aim e d new
      by false b c p q r h = absurd (cc)
      by true false c p q r h = absurd (cc)
      by true true false p q r h = absurd (cc)
      by true true true p q r h =
          record { shared = p; count = grind (arith, nat_tests, q); end = cc; may = r }

  pub same_part : IsBuilt (old_types m) → e.elem < length (old_types m).types → offset_image m aim e d old ≡ Ok new → IsSamePart m aim e d old new
  same_part built known is =
      let agreed : IsOffsetImage m aim e d old (Ok new) = subst (IsOffsetImage m aim e d old) is (offset_image-is m aim e d old built known) in
      record {
        some = agreed.0;
        places = λ path t h. begins path t h.at (agreed.1 (at_place path) (t, h.at.leads, h.at.outside, h.may));
        ends = λ path t n h. ends path h.ty t n h.start h.at h.array (agreed.1 (at_end path) (h.ty, t, n, h.start, h.at.leads, h.at.outside, h.array, h.end, h.may));
        whole = λ h. whole_ends (agreed.1 at_whole (h.end, h.may));
      }
