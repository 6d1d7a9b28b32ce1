-- The image of an offset is what the candidates make of it.
use Rattle.std.proofs.Common.{◌≡◌, inl, inr, sym, ap, subst, refl, ℕ, ◌<◌, Bool, true, false, ◌&&◌, if◌then◌else◌, List, [], ◌∷◌, map, length, Option, Some, None, Err, arith}
use Rattle.std.specs.List.{list_all, AllByRecursion}
use Rattle.std.proofs.lemmas.Bool.Decides.{nat_tests}
use Rattle.c_types.specs.Refusal.{IsBuilt}
use Rattle.c_types.proofs.Lists.{and_left, and_right}
use Rattle.lu_image.specs.declared.refusal.Why.TheVariants as W
use Rattle.lu_image_store.specs.Versions.{Versions, Extent, old_types}
use Rattle.lu_image_store.specs.Candidates.{Candidate, candidates}
use Rattle.lu_image_store.specs.Pointers.{Aim, wanted, candidate_image, same_image, or_lost, agreed, offset_image, IsAgreed, IsOffsetImage}
use Rattle.lu_image_store.proofs.Inside.{candidates-sound}
use Rattle.lu_image_store.proofs.Found.{Has, candidates-whole}

same_image-is : (a b : Option ℕ) → same_image a b ≡ true → a ≡ b
same_image-is None None e = refl
same_image-is None (Some b) e = absurd (cc)
same_image-is (Some a) None e = absurd (cc)
same_image-is (Some a) (Some b) e = let q : a ≡ b = grind (arith, nat_tests, e) in ap Some q

same_image-self : (a : Option ℕ) → same_image a a ≡ true
same_image-self None = refl
same_image-self (Some a) = grind (arith, nat_tests)

module _ (P : Candidate → Type 0) (image : Candidate → Option ℕ) where
  -- all have the image of the first
  all-same : (first : Option ℕ) (xs : List Candidate) → list_all (same_image first) (map image xs) ≡ true → (c : Candidate) → Has c xs → image c ≡ first
  all-same first [] e c h = absurd h
  all-same first (x ∷ xs) e c (inl q) =
      let here = same_image-is first (image x) (and_left (same_image first (image x)) (list_all (same_image first) (map image xs)) e) in
      let P : Candidate → Type 0 = λ c. image c ≡ first in subst P q (sym here)
  all-same first (x ∷ xs) e c (inr h) = all-same first xs (and_right (same_image first (image x)) (list_all (same_image first) (map image xs)) e) c h

  -- or one has another
  other : (first : Option ℕ) (xs : List Candidate) → AllByRecursion P xs → list_all (same_image first) (map image xs) ≡ false → (c : Candidate) × P c × (first ≡ image c → ⊥)
  other first [] all e = absurd (cc)
  other first (x ∷ xs) all e = by_test (same_image first (image x)) refl e (other first xs all.1)
    where
      by_test : (b : Bool) → same_image first (image x) ≡ b → b && list_all (same_image first) (map image xs) ≡ false → (list_all (same_image first) (map image xs) ≡ false → (c : Candidate) × P c × (first ≡ image c → ⊥)) → (c : Candidate) × P c × (first ≡ image c → ⊥)
      by_test true d e later = later e
      by_test false d e later = (x, all.0, λ q. let Q : Option ℕ → Type 0 = λ o. same_image first o ≡ true in let yes : same_image first (image x) ≡ true = subst Q q (same_image-self first) in absurd (cc))

  of_one : (x : Candidate) → P x → (o : Option ℕ) → ((c : Candidate) → P c → image c ≡ o) → IsAgreed P image (or_lost o)
  of_one x here None all = ((x, here), all)
  of_one x here (Some offset) all = ((x, here), all)

  agreed-is : (xs : List Candidate) → AllByRecursion P xs → ((c : Candidate) → P c → Has c xs) → IsAgreed P image (agreed (map image xs))
  agreed-is [] all whole = whole
  agreed-is (x ∷ xs) all whole = by_test (list_all (same_image (image x)) (map image xs)) refl
    where
      by_case : list_all (same_image (image x)) (map image xs) ≡ true → (c : Candidate) → Has c (x ∷ xs) → image c ≡ image x
      by_case e c (inl q) = ap image (sym q)
      by_case e c (inr h) = all-same (image x) xs e c h

      by_test : (b : Bool) → list_all (same_image (image x)) (map image xs) ≡ b → IsAgreed P image (if b then or_lost (image x) else Err W.Ambiguous)
      by_test true e = of_one x all.0 (image x) (λ c h. by_case e c (whole c h))
      by_test false e = let y = other (image x) xs all.1 e in (x, y.0, all.0, y.1, y.2)

-- in an object of a type of the table
pub offset_image-is : (m : Versions) (aim : Aim) (e d : Extent) (offset : ℕ) → IsBuilt (old_types m) → e.elem < length (old_types m).types → IsOffsetImage m aim e d offset (offset_image m aim e d offset)
offset_image-is m aim e d offset built known =
    agreed-is _ (candidate_image m aim e d) (candidates (old_types m) e.elem e.count (wanted aim) offset) (candidates-sound (old_types m) (wanted aim) e.elem e.count offset) (candidates-whole (old_types m) built (wanted aim) e.elem e.count offset known)
