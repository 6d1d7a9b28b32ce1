-- Fields that pair by their names.
use Rattle.std.proofs.Common.{◌≡◌, ◌∙◌, refl, ap, Bool, true, false, ℕ, zero, suc, ◌+◌, List, [], ◌∷◌, Option, Some, None, slice_get, arith}
use Rattle.std.specs.Prelude.{cond, find}
use Rattle.std.specs.Option.{option_map}
use Rattle.lu_spec.specs.Then.{then_option}
use Rattle.c_types.specs.declared.parts.FieldDef.{FieldDef}
use Rattle.lu_image.specs.Names as N
use Rattle.lu_image.specs.Names.{Names, is_named, entry_at, flat}
use Rattle.lu_image.specs.Pairing.{pair_by, pair_names}
use Rattle.lu_image_store.specs.Versions.{Versions}
use Rattle.lu_image_store.specs.Forms.{names_of}
use Rattle.lu_scan.specs.declared.versions.FieldPairs.TheVariants.{ByName}
use Rattle.lu_scan.specs.Given.{pairs_between, same_named}

one_further : (f : FieldDef) (fs : List FieldDef) (o : Option ℕ) → then_option (option_map (λ k. k + 1) o) (slice_get (f ∷ fs)) ≡ then_option o (slice_get fs)
one_further f fs None = refl
one_further f fs (Some k) = let e : k + 1 ≡ suc k = omega arith in ap (slice_get (f ∷ fs)) e

found_if : (f : FieldDef) (fs : List FieldDef) (b : Bool) (o : Option ℕ) (q : Option FieldDef) → then_option o (slice_get fs) ≡ q → then_option (cond b (Some 0) (option_map (λ k. k + 1) o)) (slice_get (f ∷ fs)) ≡ cond b (Some f) q
found_if f fs true o q e = refl
found_if f fs false o q e = one_further f fs o ∙ e

-- the field at the first place of a name is the first field of that name
found-named : (texts : List (List ℕ)) (name : List ℕ) (fs : List FieldDef) → then_option (N.find name (names_of texts fs)) (slice_get fs) ≡ find (λ g. is_named name (slice_get texts g.name)) fs
found-named texts name [] = refl
found-named texts name (f ∷ fs) =
    found_if f fs (is_named name (slice_get texts f.name)) (N.find name (names_of texts fs)) (find (λ g. is_named name (slice_get texts g.name)) fs) (found-named texts name fs)

by_own : (new : Names) (o : Option (List ℕ)) → pair_by [] new o o ≡ then_option o (λ name. N.find name new)
by_own new None = refl
by_own new (Some name) = refl

named_at : (texts : List (List ℕ)) (new : Names) (fs : List FieldDef) (k : ℕ) → entry_at (pair_names [] (names_of texts fs) new) k ≡ then_option (slice_get fs k) (λ f. then_option (slice_get texts f.name) (λ name. N.find name new))
named_at texts new [] k = refl
named_at texts new (f ∷ fs) zero = by_own new (slice_get texts f.name)
named_at texts new (f ∷ fs) (suc k) = named_at texts new fs k

then_then : {A B D : Type 0} (o : Option A) (f : A → Option B) (g : B → Option D) → then_option (then_option o f) g ≡ then_option o (λ x. then_option (f x) g)
then_then None f g = refl
then_then (Some x) f g = refl

then_same : {A B : Type 0} (o : Option A) (f g : A → Option B) → ((x : A) → f x ≡ g x) → then_option o f ≡ then_option o g
then_same None f g same = refl
then_same (Some x) f g same = same x

pub by_name-at : (m : Versions) (old new : List FieldDef) (k : ℕ) → then_option (entry_at (pairs_between m old new ByName) k) (slice_get new) ≡ then_option (slice_get old k) (same_named m new)
by_name-at m old new k =
    ap (λ o. then_option o (slice_get new)) (named_at m.old_names (names_of m.new_names new) old k)
    ∙ (then_then (slice_get old k) (λ f. then_option (slice_get m.old_names f.name) (λ name. N.find name (names_of m.new_names new))) (slice_get new)
    ∙ then_same (slice_get old k) (λ f. then_option (then_option (slice_get m.old_names f.name) (λ name. N.find name (names_of m.new_names new))) (slice_get new)) (same_named m new) (λ f. then_then (slice_get m.old_names f.name) (λ name. N.find name (names_of m.new_names new)) (slice_get new) ∙ then_same (slice_get m.old_names f.name) (λ name. then_option (N.find name (names_of m.new_names new)) (slice_get new)) (λ name. find (λ g. is_named name (slice_get m.new_names g.name)) new) (λ name. found-named m.new_names name new)))
