-- The descent says what all candidates say.
use Rattle.std.proofs.Common.{◌≡◌, ◌∙◌, refl, sym, ap, ℕ, zero, suc, ◌+◌, ◌-◌, ◌*◌, ◌/◌, ◌%◌, Bool, true, false, ◌&&◌, nat_eq, nat_lt, nat_le, if◌then◌else◌, List, [], ◌∷◌, ◌++◌, map, length, Option, Some, None, Err, slice_get, arith}
use Rattle.std.specs.List.{list_all}
use Rattle.std.specs.Option.{option_map}
use Rattle.lu_spec.specs.Then.{then_option}
use Rattle.c_types.specs.declared.parts.FieldDef.{FieldDef}
use Rattle.c_types.specs.declared.parts.Ty.{Ty}
use Rattle.c_types.specs.declared.parts.Ty.TheVariants.{Int, Pointer, VoidPointer, Function, Struct, Union, Array}
use Rattle.c_types.specs.declared.path.Place.{Place}
use Rattle.c_types.specs.declared.path.Step.{Step}
use Rattle.c_types.specs.declared.path.Step.TheVariants.{Index, Field}
use Rattle.c_types.specs.Tables.{fields_of}
use Rattle.c_types.specs.Recursion.{at_type, by_fuel}
use Rattle.c_types.specs.Layout.{Shapes, shape_of, field_start, field_end, field_offset}
use Rattle.c_types.specs.Place.{place, shifted, step_place, path_place}
use Rattle.lu_image.specs.declared.refusal.Why.TheVariants as W
use Rattle.lu_image_store.specs.Versions.{Versions, Extent, old_types, new_types, old_type, new_type, old_size, new_size}
use Rattle.lu_image_store.specs.Paths.{share_paths, old_place}
use Rattle.lu_image_store.specs.Paths as Paths
use Rattle.lu_image_store.specs.Candidates.{Candidate, at_place, at_end, at_whole, is_wanted, under, one_if, in_part, in_field, in_fields, in_element, in_last, in_elements, inside_step, candidates}
use Rattle.lu_image_store.specs.Pointers.{Aim, wanted, suits, place_offset, end_offset, candidate_image, same_image, or_lost, agreed, offset_image}
use Rattle.lu_remap.specs.declared.elements.Elements.{Elements}
use Rattle.lu_remap.specs.declared.spot.Spot.{Spot}
use Rattle.lu_remap.specs.declared.spot.Spot.TheVariants.{Nowhere, Lost, Goes, Unclear}
use Rattle.lu_remap.specs.Descent.{add, add_if, answer_of, next_place, place_image, elements, array_elements, elements_at, element_at, end_image, visit_field, visit_fields, visit_element, visit_last, visit_before, visit_elements, visit_step, nothing_inside, visit_inside, visit, object_elements, object_spot}
use Rattle.lu_remap.proofs.Along.{along, object-along}

-- what candidates say, from their images
abbrev pub told : (Candidate → Option ℕ) → List Candidate → Spot → Spot
told f [] spot = spot
told f (c ∷ cs) spot = told f cs (add spot (f c))

told-append : (f : Candidate → Option ℕ) (xs ys : List Candidate) (spot : Spot) → told f (xs ++ ys) spot ≡ told f ys (told f xs spot)
told-append f [] ys spot = refl
told-append f (x ∷ xs) ys spot = told-append f xs ys (add spot (f x))

told-under : (s : Step) (f g : Candidate → Option ℕ) → ((c : Candidate) → f (under s c) ≡ g c) → (cs : List Candidate) (spot : Spot) → told f (map (under s) cs) spot ≡ told g cs spot
told-under s f g h [] spot = refl
told-under s f g h (c ∷ cs) spot = ap (λ i. told f (map (under s) cs) (add spot i)) (h c) ∙ told-under s f g h cs (add spot (g c))

told-one : (f : Candidate → Option ℕ) (b : Bool) (c : Candidate) (spot : Spot) → told f (one_if b c) spot ≡ add_if b (f c) spot
told-one f true c spot = refl
told-one f false c spot = refl

-- the answer is that on which all images agree
abbrev spot_at : Option ℕ → Spot
spot_at None = Lost
spot_at (Some x) = Goes x

add-first : (a : Option ℕ) → add Nowhere a ≡ spot_at a
add-first None = refl
add-first (Some x) = refl

add-next : (a b : Option ℕ) → add (spot_at a) b ≡ (if same_image a b then spot_at a else Unclear)
add-next None None = refl
add-next None (Some y) = refl
add-next (Some x) None = refl
add-next (Some x) (Some y) = refl

answer-first : (a : Option ℕ) → answer_of (spot_at a) ≡ or_lost a
answer-first None = refl
answer-first (Some x) = refl

told-unclear : (f : Candidate → Option ℕ) (cs : List Candidate) → told f cs Unclear ≡ Unclear
told-unclear f [] = refl
told-unclear f (c ∷ cs) = told-unclear f cs

told-agreed : (f : Candidate → Option ℕ) (a : Option ℕ) (cs : List Candidate) → answer_of (told f cs (spot_at a)) ≡ (if list_all (same_image a) (map f cs) then or_lost a else Err W.Ambiguous)
told-agreed f a [] = answer-first a
told-agreed f a (c ∷ cs) =
    ap (λ s. answer_of (told f cs s)) (add-next a (f c)) ∙ by (same_image a (f c)) (told-agreed f a cs)
  where
    by : (b : Bool) → answer_of (told f cs (spot_at a)) ≡ (if list_all (same_image a) (map f cs) then or_lost a else Err W.Ambiguous) → answer_of (told f cs (if b then spot_at a else Unclear)) ≡ (if b && list_all (same_image a) (map f cs) then or_lost a else Err W.Ambiguous)
    by true below = below
    by false below = ap answer_of (told-unclear f cs)

answer-is : (f : Candidate → Option ℕ) (cs : List Candidate) → answer_of (told f cs Nowhere) ≡ agreed (map f cs)
answer-is f [] = refl
answer-is f (c ∷ cs) = ap (λ s. answer_of (told f cs s)) (add-first (f c)) ∙ told-agreed f (f c) cs

-- where only the type of a place matters
then-ty : (g : ℕ → Option ℕ) (k : ℕ) (o : Option Place) → then_option (then_option o (shifted k)) (λ x. g x.ty) ≡ then_option o (λ x. g x.ty)
then-ty g k None = refl
then-ty g k (Some x) = refl

module _ (m : Versions) (aim : Aim) (whole : Option ℕ) where
  -- the image of a candidate inside a part of type t, from the new place of the part; the whole object is in no part
  abbrev image_from : ℕ → Option Place → Candidate → Option ℕ
  image_from t to (at_place path) =
      then_option (path_place (old_types m) t path) (λ from. then_option (along m t path to) (place_offset m aim from))
  image_from t to (at_end path) =
      then_option (path_place (old_types m) t path) (λ from. then_option (along m t path to) (λ q. end_offset m aim (old_type m from.ty) (new_type m q.ty) q.offset))
  image_from t to at_whole = whole

  -- a candidate inside a part is one inside the whole
  under-is : (t : ℕ) (to : Option Place) (s : Step) (from : Place) (c : Candidate) → step_place (old_types m) (old_type m t) s ≡ Some from → image_from t to (under s c) ≡ image_from from.ty (next_place m (old_type m t) s to) c
  under-is t to s from (at_place path) e =
      ap (λ o. then_option (then_option o (λ p. then_option (path_place (old_types m) p.ty path) (shifted p.offset))) (λ x. then_option (then_option o (λ p. along m p.ty path (next_place m (old_type m t) s to))) (place_offset m aim x))) e
      ∙ then-ty (λ ty. then_option (along m from.ty path (next_place m (old_type m t) s to)) (λ q. if suits m aim ty q.ty then Some q.offset else None)) from.offset (path_place (old_types m) from.ty path)
  under-is t to s from (at_end path) e =
      ap (λ o. then_option (then_option o (λ p. then_option (path_place (old_types m) p.ty path) (shifted p.offset))) (λ x. then_option (then_option o (λ p. along m p.ty path (next_place m (old_type m t) s to))) (λ q. end_offset m aim (old_type m x.ty) (new_type m q.ty) q.offset))) e
      ∙ then-ty (λ ty. then_option (along m from.ty path (next_place m (old_type m t) s to)) (λ q. end_offset m aim (old_type m ty) (new_type m q.ty) q.offset)) from.offset (path_place (old_types m) from.ty path)
  under-is t to s from at_whole e = refl

  -- elements and their end in an array
  element-next : (u k i : ℕ) (to : Option Place) → next_place m (Some (Array u k)) (Index i) to ≡ element_at m (elements_at m to) i
  element-next u k i None = refl
  element-next u k i (Some q) = by (new_type m q.ty)
    where
      by_test : (v l : ℕ) (b : Bool) → then_option (if b then Some (place v (i * new_size m v)) else None) (shifted q.offset) ≡ (if b then Some (place v (q.offset + i * new_size m v)) else None)
      by_test v l true = refl
      by_test v l false = refl

      by : (o : Option Ty) → then_option (then_option (Paths.step_image m (Some (Array u k)) o (Index i)) (step_place (new_types m) o)) (shifted q.offset) ≡ then_option (array_elements q.offset o) (λ r. if nat_lt i r.count then Some (place r.ty (r.offset + i * new_size m r.ty)) else None)
      by None = refl
      by (Some (Int x)) = refl
      by (Some (Pointer x)) = refl
      by (Some VoidPointer) = refl
      by (Some (Function x)) = refl
      by (Some (Struct x)) = refl
      by (Some (Union x)) = refl
      by (Some (Array v l)) = by_test v l (nat_lt i l)

  array-end : (u k : ℕ) (to : Option Place) → then_option to (λ q. end_offset m aim (Some (Array u k)) (new_type m q.ty) q.offset) ≡ end_image m aim u k (elements_at m to)
  array-end u k None = refl
  array-end u k (Some q) = by (new_type m q.ty)
    where
      by : (o : Option Ty) → end_offset m aim (Some (Array u k)) o q.offset ≡ then_option (array_elements q.offset o) (λ r. if nat_eq k r.count && suits m aim u r.ty then Some (r.offset + r.count * new_size m r.ty) else None)
      by None = refl
      by (Some (Int x)) = refl
      by (Some (Pointer x)) = refl
      by (Some VoidPointer) = refl
      by (Some (Function x)) = refl
      by (Some (Struct x)) = refl
      by (Some (Union x)) = refl
      by (Some (Array v l)) = refl

  abbrev inside : ℕ → ℕ → ℕ → List Candidate
  inside n = by_fuel (old_types m) (inside_step (old_types m) (wanted aim)) (λ offset. []) n

  abbrev part_of : ℕ → ℕ → ℕ → List Candidate
  part_of n = in_part (wanted aim) (inside n)

  -- at so many steps, the descent says what the candidates in a part say
  abbrev IsTold : ℕ → Type 0
  IsTold n = (t : ℕ) (to : Option Place) (offset : ℕ) (spot : Spot) → visit m aim n t to offset spot ≡ told (image_from t to) (part_of n t offset) spot

  module _ (n : ℕ) (below : IsTold n) where
    -- elements, where f gives the images of the candidates in them and of their end
    module _ (f : Candidate → Option ℕ) (u k : ℕ) (run : Option Elements) (each : (i : ℕ) (c : Candidate) → nat_lt i k ≡ true → f (under (Index i) c) ≡ image_from u (element_at m run i) c) where
      element-told : (i offset : ℕ) (spot : Spot) → visit_element m (visit m aim n u) run k i offset spot ≡ told f (in_element (part_of n u) k i offset) spot
      element-told i offset spot = by (nat_lt i k) refl
        where
          by : (b : Bool) → nat_lt i k ≡ b → (if b then visit m aim n u (element_at m run i) offset spot else spot) ≡ told f (if b then map (under (Index i)) (part_of n u offset) else []) spot
          by false e = refl
          by true e =
              below u (element_at m run i) offset spot ∙ sym (told-under (Index i) f (image_from u (element_at m run i)) (λ c. each i c e) (part_of n u offset) spot)

      last-told : (i : ℕ) (spot : Spot) → visit_last m (visit m aim n u) run (old_size m u) k i spot ≡ told f (in_last (part_of n u) (old_size m u) k i) spot
      last-told zero spot = refl
      last-told (suc i) spot = element-told i (old_size m u) spot

      before-told : (offset : ℕ) (spot : Spot) → visit_before m (visit m aim n u) run (old_size m u) k offset spot ≡ told f (if nat_eq (offset % old_size m u) 0 then in_last (part_of n u) (old_size m u) k (offset / old_size m u) else []) spot
      before-told offset spot = by (nat_eq (offset % old_size m u) 0)
        where
          by : (b : Bool) → (if b then visit_last m (visit m aim n u) run (old_size m u) k (offset / old_size m u) spot else spot) ≡ told f (if b then in_last (part_of n u) (old_size m u) k (offset / old_size m u) else []) spot
          by true = last-told (offset / old_size m u) spot
          by false = refl

      pub elements-told : (end : Candidate) → f end ≡ end_image m aim u k run → (offset : ℕ) (spot : Spot) → visit_elements m aim (visit m aim n) u k run offset spot ≡ told f (one_if (is_wanted (wanted aim) u && nat_eq (k * old_size m u) offset) end ++ in_elements (part_of n u) (old_size m u) k offset) spot
      elements-told end ends offset spot =
          let ended = is_wanted (wanted aim) u && nat_eq (k * old_size m u) offset in
          let first = add_if ended (end_image m aim u k run) spot in
          let front = if nat_eq (offset % old_size m u) 0 then in_last (part_of n u) (old_size m u) k (offset / old_size m u) else [] in
          let back = in_element (part_of n u) k (offset / old_size m u) (offset % old_size m u) in
          let whole : told f (one_if ended end) spot ≡ first = told-one f ended end spot ∙ ap (λ i. add_if ended i spot) ends in
          sym (told-append f (one_if ended end) (front ++ back) spot
          ∙ (ap (told f (front ++ back)) whole
          ∙ (told-append f front back first
          ∙ (ap (told f back) (sym (before-told offset first))
          ∙ sym (element-told (offset / old_size m u) (offset % old_size m u) (visit_before m (visit m aim n u) run (old_size m u) k offset first))))))

    -- the fields of a struct
    module _ (t s : ℕ) (here : old_type m t ≡ Some (Struct s)) (to : Option Place) where
      field-image : (j : ℕ) (d : FieldDef) → slice_get (fields_of (old_types m) s) j ≡ Some d → (c : Candidate) → image_from t to (under (Field j) c) ≡ image_from d.ty (next_place m (Some (Struct s)) (Field j) to) c
      field-image j d at c =
          let leads : step_place (old_types m) (old_type m t) (Field j) ≡ Some (place d.ty (field_offset (old_types m) s j)) = ap (λ o. step_place (old_types m) o (Field j)) here ∙ ap (option_map (λ f. place f.ty (field_offset (old_types m) s j))) at in
          under-is t to (Field j) (place d.ty (field_offset (old_types m) s j)) c leads ∙ ap (λ o. image_from d.ty (next_place m o (Field j) to) c) here

      field-told : (j : ℕ) (d : FieldDef) (start end offset : ℕ) (spot : Spot) → slice_get (fields_of (old_types m) s) j ≡ Some d → visit_field m (visit m aim n) (Some (Struct s)) d.ty j start end to offset spot ≡ told (image_from t to) (in_field (part_of n) j d start end offset) spot
      field-told j d start end offset spot at = by (nat_le start offset && nat_le offset end)
        where
          by : (b : Bool) → (if b then visit m aim n d.ty (next_place m (Some (Struct s)) (Field j) to) (offset - start) spot else spot) ≡ told (image_from t to) (if b then map (under (Field j)) (part_of n d.ty (offset - start)) else []) spot
          by false = refl
          by true =
              below d.ty (next_place m (Some (Struct s)) (Field j) to) (offset - start) spot ∙ sym (told-under (Field j) (image_from t to) (image_from d.ty (next_place m (Some (Struct s)) (Field j) to)) (field-image j d at) (part_of n d.ty (offset - start)) spot)

      fields-told : (known : Shapes) (fs : List FieldDef) (end j offset : ℕ) (spot : Spot) → ((k : ℕ) (d : FieldDef) → slice_get fs k ≡ Some d → slice_get (fields_of (old_types m) s) (j + k) ≡ Some d) → visit_fields m (visit m aim n) (Some (Struct s)) known end fs j to offset spot ≡ told (image_from t to) (in_fields known (part_of n) end fs j offset) spot
      fields-told known [] end j offset spot sub = refl
      fields-told known (d ∷ fs) end j offset spot sub =
          let z : j + 0 ≡ j = omega arith in
          let at : slice_get (fields_of (old_types m) s) j ≡ Some d = ap (slice_get (fields_of (old_types m) s)) (sym z) ∙ sub 0 d refl in
          let one = field-told j d (field_start known end d) (field_end known end d) offset spot at in
          let next = visit_field m (visit m aim n) (Some (Struct s)) d.ty j (field_start known end d) (field_end known end d) to offset spot in
          let rest = in_fields known (part_of n) (field_end known end d) fs (j + 1) offset in
          fields-told known fs (field_end known end d) (j + 1) offset next (λ k e at. let y : (j + 1) + k ≡ j + suc k = omega arith in ap (slice_get (fields_of (old_types m) s)) y ∙ sub (suc k) e at)
          ∙ (ap (told (image_from t to) rest) one ∙ sym (told-append (image_from t to) (in_field (part_of n) j d (field_start known end d) (field_end known end d) offset) rest spot))

    array-told : (t u k : ℕ) → old_type m t ≡ Some (Array u k) → (to : Option Place) (offset : ℕ) (spot : Spot) → visit_step m aim (visit_inside m aim n) (Array u k) to offset spot ≡ told (image_from t to) (inside_step (old_types m) (wanted aim) (inside n) (Array u k) offset) spot
    array-told t u k here to offset spot =
        elements-told (image_from t to) u k (elements_at m to) (λ i c lt. let leads : step_place (old_types m) (old_type m t) (Index i) ≡ Some (place u (i * old_size m u)) = ap (λ o. step_place (old_types m) o (Index i)) here ∙ ap (λ b. if b then Some (place u (i * old_size m u)) else None) lt in under-is t to (Index i) (place u (i * old_size m u)) c leads ∙ (ap (λ o. image_from u (next_place m o (Index i) to) c) here ∙ ap (λ q. image_from u q c) (element-next u k i to))) (at_end []) (ap (λ o. then_option to (λ q. end_offset m aim o (new_type m q.ty) q.offset)) here ∙ array-end u k to) offset spot

    entry-told : (t : ℕ) (o : Option Ty) → old_type m t ≡ o → (to : Option Place) (offset : ℕ) (spot : Spot) → at_type (visit_step m aim (visit_inside m aim n)) nothing_inside o to offset spot ≡ told (image_from t to) (at_type (inside_step (old_types m) (wanted aim) (inside n)) (λ offset. []) o offset) spot
    entry-told t None here to offset spot = refl
    entry-told t (Some (Int x)) here to offset spot = refl
    entry-told t (Some (Pointer x)) here to offset spot = refl
    entry-told t (Some VoidPointer) here to offset spot = refl
    entry-told t (Some (Function x)) here to offset spot = refl
    entry-told t (Some (Union x)) here to offset spot = refl
    entry-told t (Some (Struct s)) here to offset spot =
        fields-told t s here to (shape_of (old_types m)) (fields_of (old_types m) s) 0 0 offset spot (λ k d at. let z : k ≡ 0 + k = omega arith in ap (slice_get (fields_of (old_types m) s)) (sym z) ∙ at)
    entry-told t (Some (Array u k)) here to offset spot = array-told t u k here to offset spot

  with-place : (n : ℕ) → ((t : ℕ) (to : Option Place) (offset : ℕ) (spot : Spot) → visit_inside m aim n t to offset spot ≡ told (image_from t to) (inside n t offset) spot) → IsTold n
  with-place n within t to offset spot =
      let begins = is_wanted (wanted aim) t && nat_eq offset 0 in
      within t to offset (add_if begins (place_image m aim t to) spot)
      ∙ (ap (told (image_from t to) (inside n t offset)) (sym (told-one (image_from t to) begins (at_place []) spot)) ∙ sym (told-append (image_from t to) (one_if begins (at_place [])) (inside n t offset) spot))

  inside-told : (n t : ℕ) (to : Option Place) (offset : ℕ) (spot : Spot) → visit_inside m aim n t to offset spot ≡ told (image_from t to) (inside n t offset) spot
  inside-told zero t to offset spot = refl
  inside-told (suc n) t to offset spot =
      entry-told n (with-place n (inside-told n)) t (old_type m t) refl to offset spot

  part-told : (n : ℕ) → IsTold n
  part-told n = with-place n (inside-told n)

module _ (m : Versions) (aim : Aim) (e d : Extent) where
  abbrev end : Option ℕ
  end = candidate_image m aim e d at_whole

  object-path : (g : ℕ → Place → Option ℕ) (i : ℕ) (path : List Step) → nat_lt i e.count ≡ true → then_option (old_place m e (Index i ∷ path)) (λ from. then_option (Paths.place_image m e d (Index i ∷ path)) (g from.ty)) ≡ then_option (path_place (old_types m) e.elem path) (λ from. then_option (along m e.elem path (element_at m (object_elements e d) i)) (g from.ty))
  object-path g i path lt =
      ap (λ b. then_option (if b then then_option (path_place (old_types m) e.elem path) (shifted (i * old_size m e.elem)) else None) (λ from. then_option (Paths.place_image m e d (Index i ∷ path)) (g from.ty))) lt
      ∙ (then-ty (λ ty. then_option (Paths.place_image m e d (Index i ∷ path)) (g ty)) (i * old_size m e.elem) (path_place (old_types m) e.elem path)
      ∙ by (path_place (old_types m) e.elem path) refl)
    where
      by : (o : Option Place) → path_place (old_types m) e.elem path ≡ o → then_option o (λ from. then_option (Paths.place_image m e d (Index i ∷ path)) (g from.ty)) ≡ then_option o (λ from. then_option (along m e.elem path (element_at m (object_elements e d) i)) (g from.ty))
      by None v = refl
      by (Some x) v = ap (λ q. then_option q (g x.ty)) (object-along m e d i path x lt v)

  object-element : (i : ℕ) (c : Candidate) → nat_lt i e.count ≡ true → candidate_image m aim e d (under (Index i) c) ≡ image_from m aim end e.elem (element_at m (object_elements e d) i) c
  object-element i (at_place path) lt =
      object-path (λ ty q. if suits m aim ty q.ty then Some q.offset else None) i path lt
  object-element i (at_end path) lt =
      object-path (λ ty q. end_offset m aim (old_type m ty) (new_type m q.ty) q.offset) i path lt
  object-element i at_whole lt = refl

  object-end : end ≡ end_image m aim e.elem e.count (object_elements e d)
  object-end = by (share_paths e d)
    where
      by_test : (b : Bool) → (if b then Some (d.count * new_size m d.elem) else None) ≡ (if b then Some (0 + d.count * new_size m d.elem) else None)
      by_test b =
          let z : d.count * new_size m d.elem ≡ 0 + d.count * new_size m d.elem = omega arith in
          ap (λ n. if b then Some n else None) z

      by : (b : Bool) → (if b && (nat_eq e.count d.count && suits m aim e.elem d.elem) then Some (d.count * new_size m d.elem) else None) ≡ then_option (if b then Some (elements d.elem 0 d.count) else None) (λ r. if nat_eq e.count r.count && suits m aim e.elem r.ty then Some (r.offset + r.count * new_size m r.ty) else None)
      by false = refl
      by true = by_test (nat_eq e.count d.count && suits m aim e.elem d.elem)

  -- the descent from an object gives the image of an offset
  pub object-image : (offset : ℕ) → answer_of (object_spot m aim e d offset) ≡ offset_image m aim e d offset
  object-image offset =
      let n = length (old_types m).types in
      ap answer_of (elements-told m aim end n (part-told m aim end n) (candidate_image m aim e d) e.elem e.count (object_elements e d) object-element at_whole object-end offset Nowhere)
      ∙ answer-is (candidate_image m aim e d) (candidates (old_types m) e.elem e.count (wanted aim) offset)
