-- Each move of an object keeps a store of the new program.
use Rattle.std.proofs.Common.{◌≡◌, ◌∙◌, refl, sym, ap, subst, ℕ, zero, suc, ◌+◌, ◌*◌, ◌<◌, ◌≤◌, true, false, ◌&&◌, ◌||◌, nat_eq, nat_lt, nat_le, List, [], ◌∷◌, map, take, length, Option, Some, None, Ok, slice_get, arith}
use Rattle.std.specs.Prelude.{flat_map, unwrap_or}
use Rattle.std.specs.List.{list_all}
use Rattle.std.specs.Option.{option_map, option_map_or}
use Rattle.std.proofs.lemmas.Bool.Decides.{nat_tests}
use Rattle.lu_spec.specs.Then.{then_option}
use Rattle.lu_spec.proofs.ThenLemmas.{then_some, then_ok}
use Rattle.lu_base.specs.Addresses as by_size
use Rattle.c_types.specs.Layout.{size_of}
use Rattle.c_types.specs.Refusal.{IsBuilt}
use Rattle.src_tree.specs.declared.value.Value.{Value}
use Rattle.src_tree.specs.declared.value.ObjectKind.{ObjectKind}
use Rattle.src_tree.specs.declared.value.ObjectKind.TheVariants.{Global, Heap, Temporary}
use Rattle.src_tree.specs.declared.value.Object.{Object}
use Rattle.src_tree.specs.declared.value.Store.{Store}
use Rattle.src_tree.specs.declared.program.Global as Text
use Rattle.src_tree.specs.declared.program.Site.{Site}
use Rattle.src_tree.specs.declared.program.Program.{Program}
use Rattle.src_meaning.specs.Initial.{global_elem, global_count}
use Rattle.src_meaning.specs.Objects.{is_global, object_size, heap_bytes, next_address, with_object, with_elements}
use Rattle.src_meaning.specs.Store.{IsStore, has_type, is_well_typed, is_of_kind, is_heap_object, are_objects}
use Rattle.src_meaning.proofs.LayoutLengths.{and_left, and_right}
use Rattle.src_laws.proofs.Extended.{extends_same, all_typed_set}
use Rattle.src_laws.proofs.Sizes.{size-between}
use Rattle.src_laws.proofs.StoreLaws.{objects_set}
use Rattle.src_laws.proofs.StoreParts.{all_get}
use Rattle.lu_image.specs.declared.pairing.Pairing.{Pairing}
use Rattle.lu_image.specs.declared.refusal.Kept.TheVariants as K
use Rattle.lu_image.specs.Correspondence.{pair_in}
use Rattle.lu_image_store.specs.Versions.{Versions, extent, new_type, global_extent, old_extent, old_extent_in, new_extent, new_extent_in, paired_site}
use Rattle.lu_image_store.specs.Needed.{is_in}
use Rattle.lu_image_store.specs.Pointers.{Context}
use Rattle.lu_image_store.specs.Carried
use Rattle.lu_image_store.specs.Objects.{global_image, heap_image}
use Rattle.lu_image_store.specs.Stores.{size_in, heap_size, elements_of, declared_pair, put_global, move_global, heap_object, move_heap, move_in, move_object, move_objects}
use Rattle.lu_image_laws.specs.Between.{between}
use Rattle.lu_image_laws.proofs.Members.{Each, mapped, get_map, and_in, in_right}
use Rattle.lu_image_laws.proofs.Pointed.{Lands}
use Rattle.lu_image_laws.proofs.Elements.{heap_keeps, global_keeps}
use Rattle.lu_image_laws.proofs.Shapes.{put_global_of, put_heap_of}
use Rattle.lu_image_laws.proofs.Stores.{IsGlobalObject, object_of, later_object, elements_of_typed, live_has, heap_kept, global_kept, sizes_set, heap_set, heap_more, next_more, objects_more, all_more}

test_equal : (a b : ℕ) → a ≡ b → nat_eq a b ≡ true
test_equal a b h = grind (arith, nat_tests, h)

-- a count of at least one, of a size of at least one
at_least : (n size : ℕ) → nat_lt 0 n ≡ true → 0 < size → 1 ≤ n * size
at_least zero size h g = absurd (grind (arith, nat_tests, h))
at_least (suc n) size h g = let sum : suc n * size ≡ size + n * size = grind arith in omega (arith, sum, g)

module _ (old new : Program) (old_built : IsBuilt old.types) (new_built : IsBuilt new.types) (sited : (k u : ℕ) → slice_get (map (λ (d : Site). d.elem) new.sites) k ≡ Some u → u < length new.types.types) (q : Pairing) (s next : Store) (ok : IsStore old s) (number : ℕ → ℕ) (first : ℕ) where
  abbrev m : Versions
  m = between old new q

  abbrev c : Context
  c = record { versions = m; store = s; number = number }

  abbrev Good : ℕ → Type 0
  Good = Lands m s next number

  -- so far, with so many bytes to come: objects of the new program, with values that will be well typed
  pub record Fits (cur : Store) (rest : ℕ) : Type 0 where
    pub objects : are_objects new new.globals cur.objects ≡ true
    pub typed : list_all (is_well_typed new next) cur.objects ≡ true
    pub heap : heap_bytes new.types cur + rest ≤ 4194304
    pub last : next_address new.types cur ≤ first + 32 * heap_bytes new.types cur

  record GlobalPair (k g t u : ℕ) : Type 0 where
    here : Text.Global
    is_here : slice_get old.globals k ≡ Some here
    here_type : here.ty ≡ t
    there : Text.Global
    is_there : slice_get new.globals g ≡ Some there
    there_type : there.ty ≡ u

  global_pair : (k g t u : ℕ) → declared_pair m k g ≡ Some (t, u) → GlobalPair k g t u
  global_pair k g t u h =
      let a = then_some (slice_get (map (λ (d : Text.Global). d.ty) old.globals) k) (λ t. then_option (slice_get m.pairing.new.globals g) (λ u. Some (t, u))) (t, u) h in
      let b = then_some (slice_get (map (λ (d : Text.Global). d.ty) new.globals) g) (λ u. Some (a.0, u)) (t, u) a.2 in
      let same : (a.0, b.0) ≡ (t, u) = let e : Some (a.0, b.0) ≡ Some (t, u) = b.2 in cc in
      let x = mapped (λ (d : Text.Global). d.ty) (slice_get old.globals k) a.0 (sym (get_map (λ (d : Text.Global). d.ty) old.globals k) ∙ a.1) in
      let y = mapped (λ (d : Text.Global). d.ty) (slice_get new.globals g) b.0 (sym (get_map (λ (d : Text.Global). d.ty) new.globals g) ∙ b.1) in
      record {
        here = x.0;
        is_here = x.1;
        here_type = x.2 ∙ ap (λ (p : ℕ × ℕ). p.0) same;
        there = y.0;
        is_there = y.1;
        there_type = y.2 ∙ ap (λ (p : ℕ × ℕ). p.1) same;
      }

  -- what an object carries, by its elements and extents
  carried_is : (k : ℕ) (x : Object) (vs : List Value) → slice_get s.objects k ≡ Some x → x.elements ≡ Some vs → Carried.carried m s k ≡ Carried.in_elements m x vs (old_extent m k x) (new_extent m k x)
  carried_is k x vs at live =
      ap (λ o. option_map_or (Carried.carried_by m k) o []) at ∙ ap (λ o. option_map_or (λ vs. Carried.in_elements m x vs (old_extent m k x) (new_extent m k x)) o []) live

  -- a global takes its image
  global_moves : (k g t u : ℕ) (x : Object) (cur after : Store) (rest : ℕ) → slice_get s.objects k ≡ Some x → x.kind ≡ Global → pair_in m.pairing.globals k ≡ Some g → GlobalPair k g t u → Fits cur rest → Each Good (Carried.carried m s k) → put_global k g cur (global_image c t u (unwrap_or x.elements []) (elements_of cur g)) ≡ Ok after → Fits after rest
  global_moves k g t u x cur after rest at kind paired pair fits leads h =
      let put = put_global_of k g cur after (global_image c t u (unwrap_or x.elements []) (elements_of cur g)) h in
      let a = object_of old old.globals s.objects k pair.here ok.objects pair.is_here in
      let b = object_of new new.globals cur.objects g pair.there fits.objects pair.is_there in
      let same : a.0 ≡ x = let e : Some a.0 ≡ Some x = sym a.1 ∙ at in cc in
      let is_x : IsGlobalObject old pair.here x = subst (IsGlobalObject old pair.here) same a.2 in
      let y = b.0 in
      let ws = put.0 in
      let vs = live_has x is_x.live in
      let bs = live_has y b.2.live in
      let elem_x : x.elem ≡ global_elem old.types t = is_x.elem ∙ ap (global_elem old.types) pair.here_type in
      let elem_y : y.elem ≡ global_elem new.types u = b.2.elem ∙ ap (global_elem new.types) pair.there_type in
      let count_x : x.count ≡ global_count old.types t = is_x.count ∙ ap (global_count old.types) pair.here_type in
      let count_y : y.count ≡ global_count new.types u = b.2.count ∙ ap (global_count new.types) pair.there_type in
      let typed_x = elements_of_typed old s x vs.0 (all_get (is_well_typed old s) s.objects k x ok.typed at) vs.1 in
      let typed_y = elements_of_typed new next y bs.0 (all_get (is_well_typed new next) cur.objects g y fits.typed b.1) bs.1 in
      let is_old : old_extent m k x ≡ Some (global_extent old.types t) = ap (old_extent_in m k x) kind ∙ ap (λ o. option_map (global_extent old.types) o) (get_map (λ (d : Text.Global). d.ty) old.globals k ∙ (ap (option_map (λ (d : Text.Global). d.ty)) pair.is_here ∙ ap Some pair.here_type)) in
      let is_new : new_extent m k x ≡ Some (global_extent new.types u) = ap (new_extent_in m k x) kind ∙ (ap (λ o. option_map (global_extent new.types) (then_option o (slice_get m.pairing.new.globals))) paired ∙ ap (λ o. option_map (global_extent new.types) o) (get_map (λ (d : Text.Global). d.ty) new.globals g ∙ (ap (option_map (λ (d : Text.Global). d.ty)) pair.is_there ∙ ap Some pair.there_type))) in
      let carries = carried_is k x vs.0 at vs.1 ∙ (ap (λ e. Carried.in_elements m x vs.0 e (new_extent m k x)) is_old ∙ ap (Carried.in_elements m x vs.0 (Some (global_extent old.types t))) is_new) in
      let image = sym (ap (λ o. global_image c t u (unwrap_or o []) (elements_of cur g)) vs.1) ∙ put.1 in
      let based : elements_of cur g ≡ bs.0 = ap (λ o. unwrap_or (then_option o (λ (y : Object). y.elements)) []) b.1 ∙ ap (λ o. unwrap_or o []) bs.1 in
      let image_of_both = sym (ap (global_image c t u vs.0) based) ∙ image in
      let kept = global_keeps old new old_built new_built q s next number t u vs.0 bs.0 ws (typed_x.0 ∙ count_x) (subst (λ t. list_all (has_type old s t) vs.0 ≡ true) elem_x typed_x.1) (typed_y.0 ∙ count_y) (subst (λ t. list_all (has_type new next t) bs.0 ≡ true) elem_y typed_y.1) (subst (Each Good) carries leads) image_of_both in
      let z = with_elements y (Some ws) in
      let test = test_equal (length ws) y.count (kept.0 ∙ sym count_y) in
      let global : is_global y.kind ≡ true = ap is_global b.2.kind in
      let same_heap = heap_set new.types y (Some ws) global cur.objects g b.1 in
      let same_last = ap by_size.next_address (sizes_set new.types y (Some ws) cur.objects g b.1) in
      let room = fits.heap in
      let last = fits.last in
      let puts : with_object cur g z ≡ after = sym (ap (λ o. option_map_or (λ x. with_object cur g (with_elements x (Some ws))) o cur) b.1) ∙ put.2 in
      subst (λ after. Fits after rest) puts (record {
        objects = objects_set new y z (heap_kept new y (Some ws)) (λ g e. global_kept new g y ws e) new.globals cur.objects g fits.objects b.1;
        typed = all_typed_set new next next (extends_same next.objects) cur.objects g z fits.typed (and_in (nat_eq (length ws) y.count) (list_all (has_type new next y.elem) ws) test (subst (λ t. list_all (has_type new next t) ws ≡ true) (sym elem_y) kept.1));
        heap = omega (arith, same_heap, room);
        last = omega (arith, same_heap, same_last, last);
      })

  of_declared : (k g : ℕ) (x : Object) (cur after : Store) (rest : ℕ) → slice_get s.objects k ≡ Some x → x.kind ≡ Global → pair_in m.pairing.globals k ≡ Some g → Fits cur rest → Each Good (Carried.carried m s k) → (o : Option (ℕ × ℕ)) → declared_pair m k g ≡ o → option_map_or (λ types. put_global k g cur (global_image c types.0 types.1 (unwrap_or x.elements []) (elements_of cur g))) o (Ok cur) ≡ Ok after → Fits after rest
  of_declared k g x cur after rest at kind paired fits leads None e h = subst (λ after. Fits after rest) (let same : cur ≡ after = cc in same) fits
  of_declared k g x cur after rest at kind paired fits leads (Some types) e h =
      global_moves k g types.0 types.1 x cur after rest at kind paired (global_pair k g types.0 types.1 e) fits leads h

  of_pair : (k : ℕ) (x : Object) (cur after : Store) (rest : ℕ) → slice_get s.objects k ≡ Some x → x.kind ≡ Global → Fits cur rest → Each Good (Carried.carried m s k) → (o : Option ℕ) → pair_in m.pairing.globals k ≡ o → move_global c k x cur o ≡ Ok after → Fits after rest
  of_pair k x cur after rest at kind fits leads None paired h = subst (λ after. Fits after rest) (let same : cur ≡ after = cc in same) fits
  of_pair k x cur after rest at kind fits leads (Some g) paired h =
      of_declared k g x cur after rest at kind paired fits leads (declared_pair m k g) refl h

  each_none : (n : ℕ) (f : Value → List ℕ) → Each Good (flat_map f (take n []))
  each_none zero f o h = absurd (cc)
  each_none (suc n) f o h = absurd (cc)

  none_more : (cur : Store) (rest : ℕ) → Fits cur (0 + rest) → Fits cur rest
  none_more cur rest fits = let same : 0 + rest ≡ rest = omega arith in subst (Fits cur) same fits

  -- a heap object comes last
  of_heap : (k site : ℕ) (x : Object) (cur after : Store) (rest : ℕ) → slice_get s.objects k ≡ Some x → x.kind ≡ Heap site → (to u : Option ℕ) → pair_in m.pairing.sites site ≡ to → paired_site m site ≡ u → Fits cur (option_map_or (λ u. x.count * size_of new.types u) u 0 + rest) → Each Good (Carried.carried m s k) → move_heap c k x cur (K.Site site) to u ≡ Ok after → Fits after rest
  of_heap k site x cur after rest at kind (Some to) (Some u) paired is fits leads h =
      let put = put_heap_of k to u x cur after (heap_image c x.elem u x.count (unwrap_or x.elements [])) h in
      let ws = put.0 in
      let y = heap_object to u x.count ws in
      let elem : slice_get (map (λ (d : Site). d.elem) new.sites) to ≡ Some u = sym (ap (λ o. then_option o (slice_get m.pairing.new.sites)) paired) ∙ is in
      let known = sited to u elem in
      let d = mapped (λ (d : Site). d.elem) (slice_get new.sites to) u (sym (get_map (λ (d : Site). d.elem) new.sites to) ∙ elem) in
      let heap = later_object old old.globals s.objects k x ok.objects at (ap is_global kind) in
      let some = and_left (nat_lt 0 x.count) (nat_le (object_size old.types x) 4194304) (and_right (is_of_kind old x x.kind) (nat_lt 0 x.count && nat_le (object_size old.types x) 4194304) heap) in
      let size = x.count * size_of new.types u in
      let low : 1 ≤ size = at_least x.count (size_of new.types u) some (size-between new.types new_built u known).0 in
      let room = fits.heap in
      let last = fits.last in
      let fit : nat_le size 4194304 ≡ true = small (heap_bytes new.types cur) size rest room in
      let is_kind : is_of_kind new y (Heap to) ≡ true = ap (λ o. option_map_or (λ (d : Site). nat_eq d.elem u) o false) d.1 ∙ test_equal d.0.elem u d.2 in
      let is_y : is_heap_object new y ≡ true = and_in (is_of_kind new y (Heap to)) _ is_kind (and_in (nat_lt 0 x.count) (nat_le size 4194304) some fit) in
      let kept = typed_elements x.elements refl u ws known put.1 is in
      let more = heap_more new.types cur.objects y in
      let next_low = next_more new.types cur.objects y in
      let test = test_equal (length ws) x.count kept.0 in
      subst (λ after. Fits after rest) put.2 (record {
        objects = objects_more new y is_y new.globals cur.objects fits.objects;
        typed = all_more (is_well_typed new next) cur.objects y fits.typed (and_in (nat_eq (length ws) x.count) (list_all (has_type new next u) ws) test kept.1);
        heap = omega (arith, more, room);
        last = omega (arith, more, next_low, low, last);
      })
    where
      small : (a size rest : ℕ) → a + (size + rest) ≤ 4194304 → nat_le size 4194304 ≡ true
      small a size rest h = let low : size ≤ 4194304 = omega (arith, h) in grind (arith, nat_tests, low)

      typed_elements : (l : Option (List Value)) → x.elements ≡ l → (u : ℕ) (ws : List Value) → u < length new.types.types → heap_image c x.elem u x.count (unwrap_or l []) ≡ Ok ws → paired_site m site ≡ Some u → (length ws ≡ x.count) × (list_all (has_type new next u) ws ≡ true)
      typed_elements None live u ws known image is = heap_keeps old new old_built new_built q s next number x.elem u x.count known [] ws refl (each_none x.count (Carried.carried_in m x.elem true (new_type m u))) image
      typed_elements (Some vs) live u ws known image is =
          let typed = elements_of_typed old s x vs (all_get (is_well_typed old s) s.objects k x ok.typed at) live in
          let is_old : old_extent m k x ≡ Some (extent x.elem x.count true) = ap (old_extent_in m k x) kind in
          let is_new : new_extent m k x ≡ Some (extent u x.count true) = ap (new_extent_in m k x) kind ∙ ap (option_map (λ u. extent u x.count true)) is in
          let carries = carried_is k x vs at live ∙ (ap (λ e. Carried.in_elements m x vs e (new_extent m k x)) is_old ∙ ap (Carried.in_elements m x vs (Some (extent x.elem x.count true))) is_new) in
          heap_keeps old new old_built new_built q s next number x.elem u x.count known vs ws typed.1 (subst (Each Good) carries leads) image
  of_heap k site x cur after rest at kind (Some to) None paired is fits leads h = absurd (cc)
  of_heap k site x cur after rest at kind None u paired is fits leads h = absurd (cc)

  of_kind : (k : ℕ) (x : Object) (cur after : Store) (rest : ℕ) → slice_get s.objects k ≡ Some x → (kind : ObjectKind) → x.kind ≡ kind → Fits cur (size_in m x kind + rest) → Each Good (Carried.carried m s k) → move_in c k x cur kind ≡ Ok after → Fits after rest
  of_kind k x cur after rest at Global is fits leads h = of_pair k x cur after rest at is (none_more cur rest fits) leads (pair_in m.pairing.globals k) refl h
  of_kind k x cur after rest at (Heap site) is fits leads h =
      of_heap k site x cur after rest at is (pair_in m.pairing.sites site) (paired_site m site) refl refl fits leads h
  of_kind k x cur after rest at Temporary is fits leads h = absurd (cc)

  pub moves : (k : ℕ) (cur after : Store) (rest : ℕ) → Fits cur (heap_size m s k + rest) → Each Good (Carried.carried m s k) → move_object c k cur ≡ Ok after → Fits after rest
  moves k cur after rest fits leads h = by (slice_get s.objects k) refl fits h
    where
      by : (o : Option Object) → slice_get s.objects k ≡ o → Fits cur (option_map_or (λ x. size_in m x x.kind) o 0 + rest) → option_map_or (λ x. move_in c k x cur x.kind) o (Ok cur) ≡ Ok after → Fits after rest
      by None at fits h = subst (λ after. Fits after rest) (let same : cur ≡ after = cc in same) (none_more cur rest fits)
      by (Some x) at fits h = of_kind k x cur after rest at x.kind refl fits leads h

  -- the bytes of the objects that are to come
  abbrev pub sizes_of : List ℕ → ℕ
  sizes_of [] = 0
  sizes_of (k ∷ ks) = heap_size m s k + sizes_of ks

  pub all_move : (ks : List ℕ) (cur after : Store) → Fits cur (sizes_of ks) → ((k : ℕ) → is_in ks k ≡ true → Each Good (Carried.carried m s k)) → move_objects c ks cur ≡ Ok after → Fits after 0
  all_move [] cur after fits leads h = subst (λ after. Fits after 0) (let same : cur ≡ after = cc in same) fits
  all_move (k ∷ ks) cur after fits leads h =
      let one = then_ok (move_object c k cur) (move_objects c ks) after h in
      let moved = moves k cur one.0 (sizes_of ks) fits (leads k (head k ks)) one.1 in
      all_move ks one.0 after moved (λ j i. leads j (in_right (k ∷ []) ks j i)) one.2
    where
      head : (k : ℕ) (ks : List ℕ) → is_in (k ∷ ks) k ≡ true
      head k ks = let e : nat_eq k k ≡ true = grind (arith, nat_tests) in ap (λ b. b || is_in ks k) e
