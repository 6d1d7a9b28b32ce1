-- The image of a pointer into the new store: an address of an object that lies where its number says.
use Rattle.std.proofs.Common.{◌≡◌, ◌∙◌, ◌⊎◌, inl, inr, refl, sym, ap, ℕ, ◌+◌, ◌*◌, ◌≤◌, Bool, true, false, ◌&&◌, nat_eq, nat_le, if◌then◌else◌, List, [], ◌∷◌, map, Option, Some, None, Ok, Err, slice_get, arith}
use Rattle.std.specs.Prelude.{Result}
use Rattle.std.specs.List.{list_all}
use Rattle.std.specs.Option.{option_map_or}
use Rattle.std.proofs.lemmas.Bool.Decides.{nat_tests}
use Rattle.lu_spec.specs.Then.{then_option}
use Rattle.lu_spec.proofs.ThenLemmas.{then_some}
use Rattle.c_types.specs.declared.parts.Parts.{Parts}
use Rattle.c_types.specs.declared.parts.Ty.{Ty}
use Rattle.c_types.specs.declared.parts.Ty.TheVariants as T
use Rattle.c_types.specs.declared.path.Place.{Place}
use Rattle.c_types.specs.declared.path.Step.{Step}
use Rattle.c_types.specs.Layout.{size_of}
use Rattle.c_types.specs.Refusal.{IsBuilt}
use Rattle.c_types.proofs.ObjectLaws.{object-within}
use Rattle.src_laws.proofs.Sizes.{size-array}
use Rattle.src_tree.specs.declared.value.Value.{Value, Null, Pointer}
use Rattle.src_tree.specs.declared.value.Value.TheOpen as V
use Rattle.src_tree.specs.declared.value.Object.{Object}
use Rattle.src_tree.specs.declared.value.Store.{Store}
use Rattle.src_tree.specs.declared.program.Program.{Program}
use Rattle.src_meaning.specs.Objects.{is_live, object_size}
use Rattle.src_meaning.specs.Store.{is_address}
use Rattle.src_laws.proofs.Extended.{points_to}
use Rattle.lu_image.specs.declared.pairing.Dangling.{Dangling}
use Rattle.lu_image.specs.declared.pairing.Dangling.TheVariants.{Refuse, Null as Becomes_null}
use Rattle.lu_image.specs.declared.refusal.Why.{Why}
use Rattle.lu_image.specs.declared.refusal.Kept.{Kept}
use Rattle.lu_image_store.specs.Versions.{Versions, Extent, new_types, old_types, old_type, new_type, new_size, old_extent, new_extent}
use Rattle.lu_image_store.specs.Paths.{share_paths, object_path_image, old_place, new_place, place_image}
use Rattle.lu_image_store.specs.Candidates.{Candidate, at_place, at_end, at_whole, candidates}
use Rattle.lu_image_store.specs.Faults.{Gives}
use Rattle.lu_image_store.specs.Pointers.{Aim, wanted, suits, place_offset, end_offset, candidate_image, same_image, or_lost, agreed, offset_image, Context, dead_image, unpaired_image, at_offset, moved_pointer, object_pointer, target, pointer_image}

module _ (m : Versions) (aim : Aim) (e d : Extent) where
  -- an image is that of a candidate
  agreed_some : (xs : List Candidate) (k : ℕ) → agreed (map (candidate_image m aim e d) xs) ≡ Ok k → (c : Candidate) × (candidate_image m aim e d c ≡ Some k)
  agreed_some [] k h = absurd (cc)
  agreed_some (x ∷ xs) k h = (x, by (list_all (same_image (candidate_image m aim e d x)) (map (candidate_image m aim e d) xs)) (candidate_image m aim e d x) h)
    where
      by : (b : Bool) (o : Option ℕ) → (if b then or_lost o else Err Rattle.lu_image.specs.declared.refusal.Why.TheVariants.Ambiguous) ≡ Ok k → o ≡ Some k
      by false o h = absurd (cc)
      by true None h = absurd (cc)
      by true (Some j) h = let same : j ≡ k = cc in ap Some same

  module _ (built : IsBuilt (new_types m)) where
    new_within : (path : List Step) (to : Place) → place_image m e d path ≡ Some to → to.offset + new_size m to.ty ≤ d.count * new_size m d.elem
    new_within path to h =
        let next = then_some (object_path_image m e d path) (new_place m d) to h in
        object-within (new_types m) built d.elem d.count next.0 to next.2

    -- it lies in the new object, its end included
    candidate_within : (c : Candidate) (k : ℕ) → candidate_image m aim e d c ≡ Some k → k ≤ d.count * new_size m d.elem
    candidate_within (at_place path) k h =
        let from = then_some (old_place m e path) (λ from. then_option (place_image m e d path) (place_offset m aim from)) k h in
        let to = then_some (place_image m e d path) (place_offset m aim from.0) k from.2 in
        by from.0 to.0 (suits m aim from.0.ty to.0.ty) to.2 (new_within path to.0 to.1)
      where
        by : (from to : Place) (b : Bool) → (if b then Some to.offset else None) ≡ Some k → to.offset + new_size m to.ty ≤ d.count * new_size m d.elem → k ≤ d.count * new_size m d.elem
        by from to false h low = absurd (cc)
        by from to true h low = let same : to.offset ≡ k = cc in omega (arith, same, low)
    candidate_within (at_end path) k h =
        let step : Place → Place → Option ℕ = λ from to. end_offset m aim (old_type m from.ty) (new_type m to.ty) to.offset in
        let from = then_some (old_place m e path) (λ from. then_option (place_image m e d path) (step from)) k h in
        let to = then_some (place_image m e d path) (step from.0) k from.2 in
        by (old_type m from.0.ty) to.0 (new_type m to.0.ty) refl to.2 (new_within path to.0 to.1)
      where
        tests : (to : Place) (u l : ℕ) → new_type m to.ty ≡ Some (T.Array u l) → (b : Bool) → (if b then Some (to.offset + l * new_size m u) else None) ≡ Some k → to.offset + new_size m to.ty ≤ d.count * new_size m d.elem → k ≤ d.count * new_size m d.elem
        tests to u l array false h low = absurd (cc)
        tests to u l array true h low =
            let same : to.offset + l * new_size m u ≡ k = cc in
            let size = size-array (new_types m) built to.ty u l array in
            let turned : l * new_size m u ≡ new_size m u * l = grind arith in
            omega (arith, same, size, turned, low)

        by : (a : Option Ty) (to : Place) (o : Option Ty) → new_type m to.ty ≡ o → end_offset m aim a o to.offset ≡ Some k → to.offset + new_size m to.ty ≤ d.count * new_size m d.elem → k ≤ d.count * new_size m d.elem
        by (Some (T.Array t n)) to (Some (T.Array u l)) q h low = tests to u l q (nat_eq n l && suits m aim t u) h low
        by _ to _ q h low = absurd (cc)
    candidate_within at_whole k h = by (share_paths e d && (nat_eq e.count d.count && suits m aim e.elem d.elem)) h
      where
        by : (b : Bool) → (if b then Some (d.count * new_size m d.elem) else None) ≡ Some k → k ≤ d.count * new_size m d.elem
        by false h = absurd (cc)
        by true h = let same : d.count * new_size m d.elem ≡ k = cc in omega (arith, same)

    pub image_within : (offset k : ℕ) → offset_image m aim e d offset ≡ Ok k → k ≤ d.count * new_size m d.elem
    image_within offset k h =
        let c = agreed_some (candidates (old_types m) e.elem e.count (wanted aim) offset) k h in candidate_within c.0 k c.1

-- the old object's image is in the store, at its number and of its shape
abbrev pub Lands : Versions → Store → Store → (ℕ → ℕ) → ℕ → Type 0
Lands m s next number o =
    (x : Object) (d : Extent) → slice_get s.objects o ≡ Some x → is_live x ≡ true → new_extent m o x ≡ Some d → (y : Object) × (slice_get next.objects (number o) ≡ Some y) × (y.elem ≡ d.elem) × (y.count ≡ d.count)

-- null, or an address
abbrev pub IsPointer : Program → Store → Value → Type 0
IsPointer p s w = (w ≡ Null) ⊎ ((o : ℕ) × (k : ℕ) × (w ≡ Pointer o k) × (is_address p s o k ≡ true))

module _ (old new : Program) (m : Versions) (same : new_types m ≡ new.types) (built : IsBuilt (new_types m)) (s next : Store) (number : ℕ → ℕ) where
  abbrev c : Context
  c = record { versions = m; store = s; number = number }

  offset_lands : (aim : Aim) (o k : ℕ) (e d : Extent) (to : Kept) (w : Value) (y : Object) → slice_get next.objects (number o) ≡ Some y → y.elem ≡ d.elem → y.count ≡ d.count → (r : Result ℕ Why) → offset_image m aim e d k ≡ r → at_offset (number o) to r ≡ Ok w → IsPointer new next w
  offset_lands aim o k e d to w y at elem count (Err why) is h = absurd (cc)
  offset_lands aim o k e d to w y at elem count (Ok j) is h =
      let low = image_within m aim e d built k j is in
      let size : object_size new.types y ≡ d.count * new_size m d.elem = ap (λ n. n * size_of new.types y.elem) count ∙ (ap (λ t. d.count * size_of new.types t) elem ∙ ap (λ (p : Parts). d.count * size_of p d.elem) (sym same)) in
      let within : j ≤ object_size new.types y = omega (arith, size, low) in
      let test : nat_le j (object_size new.types y) ≡ true = grind (arith, nat_tests, within) in
      inr (number o, j, (let e : Pointer (number o) j ≡ w = cc in sym e), ap (λ q. option_map_or (λ x. nat_le j (object_size new.types x)) q false) at ∙ test)

  pub pointer_lands : (aim : Aim) (o k : ℕ) (w : Value) → is_address old s o k ≡ true → Lands m s next number o → pointer_image c aim (V.Pointer o k) ≡ Ok w → IsPointer new next w
  pointer_lands aim o k w there lands h =
      let x = points_to old s o k there in
      by_life x.object (is_live x.object) refl (λ d live e. lands x.object d x.is live e) (sym (ap (λ q. option_map_or (λ x. object_pointer c aim o k x (target o k)) q (Rattle.lu_image_store.specs.Faults.refused Rattle.lu_image.specs.declared.refusal.Why.TheVariants.NoPlace (target o k))) x.is) ∙ h)
    where
      unpaired : (x : Object) (kind : Rattle.src_tree.specs.declared.value.ObjectKind.ObjectKind) → unpaired_image m kind (target o k) ≡ Ok w → IsPointer new next w
      unpaired x Rattle.src_tree.specs.declared.value.ObjectKind.TheVariants.Global h = absurd (cc)
      unpaired x (Rattle.src_tree.specs.declared.value.ObjectKind.TheVariants.Heap site) h = absurd (cc)
      unpaired x Rattle.src_tree.specs.declared.value.ObjectKind.TheVariants.Temporary h = absurd (cc)

      moved : (x : Object) (a b : Option Extent) → ((d : Extent) → b ≡ Some d → (y : Object) × (slice_get next.objects (number o) ≡ Some y) × (y.elem ≡ d.elem) × (y.count ≡ d.count)) → moved_pointer c aim o k x a b (target o k) ≡ Ok w → IsPointer new next w
      moved x (Some e) (Some d) there h = let y = there d refl in offset_lands aim o k e d (target o k) w y.0 y.1 y.2 y.3 (offset_image m aim e d k) refl h
      moved x None None there h = unpaired x x.kind h
      moved x None (Some d) there h = unpaired x x.kind h
      moved x (Some e) None there h = unpaired x x.kind h

      dead : (rule : Dangling) → dead_image rule (target o k) ≡ Ok w → IsPointer new next w
      dead Refuse h = absurd (cc)
      dead Becomes_null h = inl (let e : Null ≡ w = cc in sym e)

      by_life : (x : Object) (b : Bool) → is_live x ≡ b → ((d : Extent) → is_live x ≡ true → new_extent m o x ≡ Some d → (y : Object) × (slice_get next.objects (number o) ≡ Some y) × (y.elem ≡ d.elem) × (y.count ≡ d.count)) → (if b then moved_pointer c aim o k x (old_extent m o x) (new_extent m o x) (target o k) else dead_image m.pairing.dangling (target o k)) ≡ Ok w → IsPointer new next w
      by_life x false live there h = dead m.pairing.dangling h
      by_life x true live there h = moved x (old_extent m o x) (new_extent m o x) (λ d e. there d live e) h
