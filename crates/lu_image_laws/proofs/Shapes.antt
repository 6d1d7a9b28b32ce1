-- Where moved objects lie in the new store: globals in their pairs' places, and heap objects behind them in order.
use Rattle.std.proofs.Common.{◌≡◌, ◌∙◌, refl, sym, ap, subst, ℕ, zero, suc, ◌+◌, Bool, true, false, ◌||◌, not, cond, nat_eq, nat_lt, List, [], ◌∷◌, ◌++◌, length, Option, Some, None, Ok, slice_get, arith}
use Rattle.std.specs.Prelude.{position, unwrap_or}
use Rattle.std.specs.List.{position_or_len}
use Rattle.std.specs.Option.{option_map, option_map_or}
use Rattle.std.proofs.lemmas.Bool.Decides.{nat_tests}
use Rattle.lu_spec.proofs.ThenLemmas.{then_ok}
use Rattle.src_tree.specs.declared.value.Value.{Value}
use Rattle.src_tree.specs.declared.value.ObjectKind.{ObjectKind}
use Rattle.src_tree.specs.declared.value.ObjectKind.TheVariants.{Global, Heap, Temporary}
use Rattle.src_tree.specs.declared.value.Object.{Object}
use Rattle.src_tree.specs.declared.value.Store.{Store}
use Rattle.src_meaning.specs.Objects.{is_global, with_object, with_elements}
use Rattle.src_laws.proofs.Extended.{Extends, extends_same, extends_set, extends_more, extends_further, same_shape}
use Rattle.src_laws.proofs.StoreParts.{length_set}
use Rattle.lu_image.specs.declared.refusal.Kept.{Kept}
use Rattle.lu_image.specs.declared.refusal.Kept.TheVariants as K
use Rattle.lu_image.specs.Correspondence.{pair_in}
use Rattle.lu_image_store.specs.Versions.{Versions, Extent, extent, paired_site, new_extent, new_extent_in}
use Rattle.lu_image_store.specs.Faults.{Gives}
use Rattle.lu_image_store.specs.Objects.{global_image, heap_image}
use Rattle.lu_image_store.specs.Pointers.{Context}
use Rattle.lu_image_store.specs.Needed.{is_in}
use Rattle.lu_image_store.specs.Stores.{is_heap_number, heap_of, with_values, elements_of, declared_pair, put_global, move_global, heap_object, put_heap, move_heap, move_in, move_object, move_objects}
use Rattle.lu_image_laws.specs.Sharing.{Stands}
use Rattle.lu_image_laws.proofs.Stores.{get_last, length_more}

-- what a put leaves
pub put_global_of : (k g : ℕ) (cur after : Store) (r : Gives (List Value)) → put_global k g cur r ≡ Ok after → (ws : List Value) × (r ≡ Ok ws) × (with_values cur g ws ≡ after)
put_global_of k g cur after (Ok ws) h = (ws, refl, cc)
put_global_of k g cur after _ h = absurd (cc)

pub put_heap_of : (k site u : ℕ) (x : Object) (cur after : Store) (r : Gives (List Value)) → put_heap k site u x cur r ≡ Ok after → (ws : List Value) × (r ≡ Ok ws) × (record { objects = cur.objects ++ heap_object site u x.count ws ∷ [] } ≡ after)
put_heap_of k site u x cur after (Ok ws) h = (ws, refl, cc)
put_heap_of k site u x cur after _ h = absurd (cc)

-- the place of a number in a list that has it
passes : (xs : List ℕ) (o : ℕ) → is_in xs o ≡ true → (nat_lt (position_or_len (nat_eq o) xs) (length xs) ≡ true) × (slice_get xs (position_or_len (nat_eq o) xs) ≡ Some o)
passes [] o h = absurd (cc)
passes (x ∷ xs) o h = by (nat_eq o x) refl (λ g. passes xs o g)
  where
    first : (n : ℕ) → nat_lt 0 (suc n) ≡ true
    first n = grind (arith, nat_tests)

    later : (k n : ℕ) → nat_lt k n ≡ true → nat_lt (1 + k) (suc n) ≡ true
    later k n low = grind (arith, nat_tests, low)

    one_more : (n : ℕ) → 1 + n ≡ suc n
    one_more n = omega arith

    by : (b : Bool) → nat_eq o x ≡ b → (is_in xs o ≡ true → (nat_lt (position_or_len (nat_eq o) xs) (length xs) ≡ true) × (slice_get xs (position_or_len (nat_eq o) xs) ≡ Some o)) → (nat_lt (cond (not b) (1 + position_or_len (nat_eq o) xs) 0) (suc (length xs)) ≡ true) × (slice_get (x ∷ xs) (cond (not b) (1 + position_or_len (nat_eq o) xs) 0) ≡ Some o)
    by true e below = let same : o ≡ x = grind (arith, nat_tests, e) in (first (length xs), ap Some (sym same))
    by false e below =
        let other : nat_eq x o ≡ false = grind (arith, nat_tests, e) in
        let rest = below (sym (ap (λ b. b || is_in xs o) other) ∙ h) in
        (later (position_or_len (nat_eq o) xs) (length xs) rest.0, ap (slice_get (x ∷ xs)) (one_more (position_or_len (nat_eq o) xs)) ∙ rest.1)

pub position_in : (xs : List ℕ) (o : ℕ) → is_in xs o ≡ true → slice_get xs (unwrap_or (position (nat_eq o) xs) 0) ≡ Some o
position_in xs o h =
    let at = passes xs o h in
    ap (λ b. slice_get xs (unwrap_or (cond b (Some (position_or_len (nat_eq o) xs)) None) 0)) at.0 ∙ at.1

pub with_values_more : (cur : Store) (g : ℕ) (ws : List Value) → Extends cur.objects (with_values cur g ws).objects × (length (with_values cur g ws).objects ≡ length cur.objects)
with_values_more cur g ws = by (slice_get cur.objects g) refl
  where
    by : (o : Option Object) → slice_get cur.objects g ≡ o → Extends cur.objects (option_map_or (λ x. with_object cur g (with_elements x (Some ws))) o cur).objects × (length (option_map_or (λ x. with_object cur g (with_elements x (Some ws))) o cur).objects ≡ length cur.objects)
    by None e = (extends_same cur.objects, refl)
    by (Some x) e = (extends_set cur.objects g x (Some ws) e, length_set cur.objects g (with_elements x (Some ws)))

module _ (c : Context) where
  abbrev m : Versions
  m = c.versions

  abbrev is_later : ℕ → Bool
  is_later k = is_heap_number c.store k

  -- what a move of an object does to the shapes of a store
  pub record Shape (k : ℕ) (cur after : Store) : Type 0 where
    pub more : Extends cur.objects after.objects
    pub longer : is_later k ≡ true → length after.objects ≡ suc (length cur.objects)
    pub stays : is_later k ≡ false → length after.objects ≡ length cur.objects
    pub stands : is_later k ≡ true → (x : Object) (d : Extent) → slice_get c.store.objects k ≡ Some x → new_extent m k x ≡ Some d → Stands after (length cur.objects) d

  unmoved : (k : ℕ) (cur after : Store) → is_later k ≡ false → cur ≡ after → Shape k cur after
  unmoved k cur after global same = subst (Shape k cur) same (record {
    more = extends_same cur.objects;
    longer = λ h. absurd (cc);
    stays = λ h. refl;
    stands = λ h x d e f. absurd (cc);
  })

  of_global : (k g : ℕ) (x : Object) (cur after : Store) → is_later k ≡ false → (o : Option (ℕ × ℕ)) → option_map_or (λ types. put_global k g cur (global_image c types.0 types.1 (unwrap_or x.elements []) (elements_of cur g))) o (Ok cur) ≡ Ok after → Shape k cur after
  of_global k g x cur after global None h = unmoved k cur after global (let same : cur ≡ after = cc in same)
  of_global k g x cur after global (Some types) h =
      let put = put_global_of k g cur after (global_image c types.0 types.1 (unwrap_or x.elements []) (elements_of cur g)) h in
      let more = with_values_more cur g put.0 in
      subst (Shape k cur) put.2 (record {
        more = more.0;
        longer = λ h. absurd (cc);
        stays = λ h. more.1;
        stands = λ h x d e f. absurd (cc);
      })

  of_pair : (k : ℕ) (x : Object) (cur after : Store) → is_later k ≡ false → (o : Option ℕ) → move_global c k x cur o ≡ Ok after → Shape k cur after
  of_pair k x cur after global None h = unmoved k cur after global (let same : cur ≡ after = cc in same)
  of_pair k x cur after global (Some g) h = of_global k g x cur after global (declared_pair m k g) h

  of_heap : (k : ℕ) (x : Object) (cur after : Store) → is_later k ≡ true → slice_get c.store.objects k ≡ Some x → (kept : Kept) (site u : Option ℕ) → new_extent m k x ≡ option_map (λ u. extent u x.count true) u → move_heap c k x cur kept site u ≡ Ok after → Shape k cur after
  of_heap k x cur after later at kept (Some site) (Some u) is h =
      let put = put_heap_of k site u x cur after (heap_image c x.elem u x.count (unwrap_or x.elements [])) h in
      let y = heap_object site u x.count put.0 in
      subst (Shape k cur) put.2 (record {
        more = extends_more cur.objects (y ∷ []);
        longer = λ h. length_more cur.objects y;
        stays = λ h. absurd (cc);
        stands = λ h z d e f.
            let same_x : x ≡ z = let q : Some x ≡ Some z = sym at ∙ e in cc in
            let q : Some (extent u x.count true) ≡ Some d = sym is ∙ (ap (new_extent m k) same_x ∙ f) in
            let same : extent u x.count true ≡ d = cc in
            (y, get_last cur.objects y, ap (λ (d : Extent). d.elem) same, ap (λ (d : Extent). d.count) same);
      })
  of_heap k x cur after later at kept (Some site) None is h = absurd (cc)
  of_heap k x cur after later at kept None u is h = absurd (cc)

  later_is : (k : ℕ) (x : Object) → slice_get c.store.objects k ≡ Some x → is_later k ≡ not (is_global x.kind)
  later_is k x at = ap (λ o. option_map_or (λ (x : Object). not (is_global x.kind)) o false) at

  of_kind : (k : ℕ) (x : Object) (cur after : Store) → slice_get c.store.objects k ≡ Some x → (kind : ObjectKind) → x.kind ≡ kind → move_in c k x cur kind ≡ Ok after → Shape k cur after
  of_kind k x cur after at Global is h =
      of_pair k x cur after (later_is k x at ∙ ap (λ kind. not (is_global kind)) is) (pair_in m.pairing.globals k) h
  of_kind k x cur after at (Heap site) is h =
      of_heap k x cur after (later_is k x at ∙ ap (λ kind. not (is_global kind)) is) at (K.Site site) (pair_in m.pairing.sites site) (paired_site m site) (ap (new_extent_in m k x) is) h
  of_kind k x cur after at Temporary is h = absurd (cc)

  pub shape_of : (k : ℕ) (cur after : Store) → move_object c k cur ≡ Ok after → Shape k cur after
  shape_of k cur after h = by (slice_get c.store.objects k) refl h
    where
      by : (o : Option Object) → slice_get c.store.objects k ≡ o → option_map_or (λ x. move_in c k x cur x.kind) o (Ok cur) ≡ Ok after → Shape k cur after
      by None at h =
          unmoved k cur after (ap (λ o. option_map_or (λ (x : Object). not (is_global x.kind)) o false) at) (let same : cur ≡ after = cc in same)
      by (Some x) at h = of_kind k x cur after at x.kind refl h

  -- after all moves
  pub record Shapes (ks : List ℕ) (cur next : Store) : Type 0 where
    pub more : Extends cur.objects next.objects
    pub long : length next.objects ≡ length cur.objects + length (heap_of c.store ks)
    pub stands : (i k : ℕ) → slice_get (heap_of c.store ks) i ≡ Some k → (x : Object) (d : Extent) → slice_get c.store.objects k ≡ Some x → new_extent m k x ≡ Some d → Stands next (length cur.objects + i) d

  stands_on : (after next : Store) (n : ℕ) (d : Extent) → Extends after.objects next.objects → Stands after n d → Stands next n d
  stands_on after next n d more at =
      let y = same_shape after.objects next.objects n at.0 more at.1 in (y.object, y.is, y.elem ∙ at.2, y.count ∙ at.3)

  pub shapes_of : (ks : List ℕ) (cur next : Store) → move_objects c ks cur ≡ Ok next → Shapes ks cur next
  shapes_of [] cur next h =
      let same : cur ≡ next = cc in
      subst (Shapes [] cur) same (record { more = extends_same cur.objects; long = omega arith; stands = λ i k e x d at is. absurd (cc) })
  shapes_of (k ∷ ks) cur next h =
      let one = then_ok (move_object c k cur) (move_objects c ks) next h in
      let shape = shape_of k cur one.0 one.1 in
      let rest = shapes_of ks one.0 next one.2 in
      record {
        more = extends_further cur.objects one.0.objects next.objects shape.more rest.more;
        long = lengths one.0 shape rest (is_later k) refl;
        stands = λ i j e x d at is. by one.0 shape rest (is_later k) refl i j e x d at is;
      }
    where
      lengths : (after : Store) → Shape k cur after → Shapes ks after next → (b : Bool) → is_later k ≡ b → length next.objects ≡ length cur.objects + length (cond b (k ∷ heap_of c.store ks) (heap_of c.store ks))
      lengths after shape rest false q = let stays = shape.stays q in let long = rest.long in omega (arith, stays, long)
      lengths after shape rest true q = let longer = shape.longer q in let long = rest.long in omega (arith, longer, long)

      by : (after : Store) → Shape k cur after → Shapes ks after next → (b : Bool) → is_later k ≡ b → (i j : ℕ) → slice_get (cond b (k ∷ heap_of c.store ks) (heap_of c.store ks)) i ≡ Some j → (x : Object) (d : Extent) → slice_get c.store.objects j ≡ Some x → new_extent m j x ≡ Some d → Stands next (length cur.objects + i) d
      by after shape rest false q i j e x d at is =
          subst (λ n. Stands next (n + i) d) (shape.stays q) (rest.stands i j e x d at is)
      by after shape rest true q zero j e x d at is =
          let same : k ≡ j = cc in
          let here = shape.stands q x d (ap (slice_get c.store.objects) same ∙ at) (ap (λ k. new_extent m k x) same ∙ is) in
          let none : length cur.objects ≡ length cur.objects + 0 = omega arith in
          subst (λ n. Stands next n d) none (stands_on after next (length cur.objects) d rest.more here)
      by after shape rest true q (suc i) j e x d at is =
          let long = shape.longer q in
          let sum : length after.objects + i ≡ length cur.objects + suc i = omega (arith, long) in
          subst (λ n. Stands next n d) sum (rest.stands i j e x d at is)
