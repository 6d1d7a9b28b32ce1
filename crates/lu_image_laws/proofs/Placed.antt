-- Where an old object's image stands, that two old objects have two images, and where pointers go.
use Rattle.std.proofs.Common.{◌≡◌, ◌∙◌, ◌⊎◌, inl, inr, refl, sym, ap, subst, ℕ, suc, ◌+◌, ◌<◌, Bool, true, false, ◌&&◌, ◌||◌, not, cond, nat_eq, if◌then◌else◌, List, [], ◌∷◌, map, length, Option, Some, None, Ok, slice_get, arith}
use Rattle.std.specs.Prelude.{filter, is_some, position, unwrap_or, Result}
use Rattle.std.specs.Option.{option_map, option_map_or}
use Rattle.std.proofs.lemmas.Bool.Decides.{nat_tests}
use Rattle.std.proofs.lemmas.List.{length-map}
use Rattle.std.proofs.lemmas.Option.{slice_get_within}
use Rattle.lu_spec.proofs.ThenLemmas.{then_some}
use Rattle.src_tree.specs.declared.value.Value.{Value, Null, Pointer}
use Rattle.src_tree.specs.declared.value.Value.TheOpen as V
use Rattle.src_tree.specs.declared.value.ObjectKind.{ObjectKind}
use Rattle.src_tree.specs.declared.value.ObjectKind.TheVariants.{Global, Heap, Temporary}
use Rattle.src_tree.specs.declared.value.Object.{Object}
use Rattle.src_tree.specs.declared.value.Store.{Store}
use Rattle.src_tree.specs.declared.program.Global as Text
use Rattle.src_tree.specs.declared.program.Program.{Program}
use Rattle.src_meaning.specs.Initial.{global_elem, global_count, initial_object, initial_store}
use Rattle.src_meaning.specs.Objects.{is_global, is_live, is_live_heap}
use Rattle.src_meaning.proofs.LayoutLengths.{and_right}
use Rattle.src_laws.proofs.Extended.{same_shape}
use Rattle.lu_image.specs.declared.pairing.Dangling.{Dangling}
use Rattle.lu_image.specs.declared.pairing.Dangling.TheVariants as D
use Rattle.lu_image.specs.declared.pairing.Pairing.{Pairing}
use Rattle.lu_image.specs.declared.refusal.Kept.{Kept}
use Rattle.lu_image.specs.declared.refusal.Why.{Why}
use Rattle.lu_image.specs.Correspondence.{pair_in}
use Rattle.lu_image_store.specs.Versions.{Versions, Extent, global_extent, old_extent, new_extent, new_extent_in, paired_global}
use Rattle.lu_image_store.specs.Faults.{refused}
use Rattle.lu_image_store.specs.Pointers.{Aim, Context, dead_image, unpaired_image, at_offset, moved_pointer, object_pointer, offset_image, target, pointer_image}
use Rattle.lu_image_store.specs.Needed.{is_in, graph_of, EndsChain, root, step, needed_objects}
use Rattle.lu_image_store.specs.Stores.{Makes, is_heap_number, heap_of, context_of, heap_size, first_over, unless_over, move_objects, store_image}
use Rattle.lu_image_store.proofs.Closure.{needed_objects-are}
use Rattle.lu_image_laws.specs.Between.{between}
use Rattle.lu_image_laws.specs.Sharing.{IsNeededIn, IsOneToOne, Stands, BecomesNull, GoesTo, image_number}
use Rattle.lu_image_laws.proofs.Members.{get_map, mapped}
use Rattle.lu_image_laws.proofs.Shapes.{shapes_of, position_in}

pub in_filter : (test : ℕ → Bool) (xs : List ℕ) (o : ℕ) → is_in xs o ≡ true → test o ≡ true → is_in (filter test xs) o ≡ true
in_filter test [] o h g = absurd (cc)
in_filter test (x ∷ xs) o h g = by (nat_eq x o) (test x) refl refl h (λ h. in_filter test xs o h g)
  where
    by : (a b : Bool) → nat_eq x o ≡ a → test x ≡ b → a || is_in xs o ≡ true → (is_in xs o ≡ true → is_in (filter test xs) o ≡ true) → is_in (cond b (x ∷ filter test xs) (filter test xs)) o ≡ true
    by true true e f h below = ap (λ b. b || is_in (filter test xs) o) e
    by true false e f h below = let same : x ≡ o = grind (arith, nat_tests, e) in absurd (let q : test o ≡ false = ap test (sym same) ∙ f in cc)
    by false true e f h below = ap (λ b. b || is_in (filter test xs) o) e ∙ below h
    by false false e f h below = below h

pub same_length : {A B C : Type 0} (f : A → B) (g : A → C) (xs : List A) → length (map f xs) ≡ length (map g xs)
same_length f g [] = refl
same_length f g (x ∷ xs) = ap suc (same_length f g xs)

pub made_within : (r : Makes) (o : Option ℕ) (next : Store) → unless_over r o ≡ Ok next → (o ≡ None) × (r ≡ Ok next)
made_within r None next h = (refl, h)
made_within r (Some k) next h = absurd (cc)

-- the new number, by the kind of the old object
module _ (m : Versions) (s : Store) where
  abbrev needed : List ℕ
  needed = needed_objects m s

  abbrev heap : List ℕ
  heap = heap_of s needed

  abbrev by_kind : Bool → ℕ → ℕ
  by_kind b k =
      if b then length m.pairing.new.globals + unwrap_or (position (nat_eq k) heap) 0 else unwrap_or (pair_in m.pairing.globals k) 0

  later_number : (k : ℕ) → is_heap_number s k ≡ true → image_number m s k ≡ length m.pairing.new.globals + unwrap_or (position (nat_eq k) heap) 0
  later_number k later = ap (λ b. by_kind b k) later

  global_number : (k g : ℕ) → is_heap_number s k ≡ false → pair_in m.pairing.globals k ≡ Some g → image_number m s k ≡ g
  global_number k g global pair = ap (λ b. by_kind b k) global ∙ ap (λ p. unwrap_or p 0) pair

  place_of : (k : ℕ) → IsNeededIn m s k → is_heap_number s k ≡ true → slice_get heap (unwrap_or (position (nat_eq k) heap) 0) ≡ Some k
  place_of k here later = position_in heap k (in_filter (is_heap_number s) needed k here later)

  -- a needed global has a pair
  record HasPair (k : ℕ) : Type 0 where
    pair : ℕ
    is : pair_in m.pairing.globals k ≡ Some pair
    within : pair < length m.pairing.new.globals

  paired : (k : ℕ) → is_some (paired_global m k) ≡ true → HasPair k
  paired k h = by (paired_global m k) refl h
    where
      by : (o : Option ℕ) → paired_global m k ≡ o → is_some o ≡ true → HasPair k
      by None e h = absurd (cc)
      by (Some u) e h =
          let g = then_some (pair_in m.pairing.globals k) (slice_get m.pairing.new.globals) u e in
          record { pair = g.0; is = g.1; within = slice_get_within m.pairing.new.globals g.0 u g.2 }

  root_paired : (k : ℕ) (o : Option Object) → option_map_or (λ (x : Object). is_global x.kind && is_some (paired_global m k)) o false ≡ true → HasPair k
  root_paired k None h = absurd (cc)
  root_paired k (Some x) h = paired k (and_right (is_global x.kind) (is_some (paired_global m k)) h)

  not_later : (o : Option Object) → option_map_or is_live_heap o false ≡ true → option_map_or (λ (x : Object). not (is_global x.kind)) o false ≡ false → ⊥
  not_later None h g = absurd (cc)
  not_later (Some x) h g = let e = and_right (is_live x) (not (is_global x.kind)) h in cc

  chain_paired : (n k : ℕ) → EndsChain (graph_of m s) n k → is_heap_number s k ≡ false → HasPair k
  chain_paired n k (root low is) global = root_paired k (slice_get s.objects k) is
  chain_paired n k (step chain has low follows) global = absurd (not_later (slice_get s.objects k) follows global)

  has_pair : (k : ℕ) → IsNeededIn m s k → is_heap_number s k ≡ false → HasPair k
  has_pair k here global =
      let chain = (needed_objects-are m s).sound k here in chain_paired chain.0 k chain.1 global

  -- two old objects have two new ones
  pub stay_two : IsOneToOne m.pairing.globals → (j k : ℕ) → IsNeededIn m s j → IsNeededIn m s k → image_number m s j ≡ image_number m s k → j ≡ k
  stay_two one j k here there same = by (is_heap_number s j) (is_heap_number s k) refl refl
    where
      by : (a b : Bool) → is_heap_number s j ≡ a → is_heap_number s k ≡ b → j ≡ k
      by true true e f =
          let p = unwrap_or (position (nat_eq j) heap) 0 in
          let q = unwrap_or (position (nat_eq k) heap) 0 in
          let sums : length m.pairing.new.globals + p ≡ length m.pairing.new.globals + q = sym (later_number j e) ∙ (same ∙ later_number k f) in
          let places : p ≡ q = omega (arith, sums) in
          let both : Some j ≡ Some k = sym (place_of j here e) ∙ (ap (slice_get heap) places ∙ place_of k there f) in
          cc
      by false false e f =
          let g = has_pair j here e in
          let h = has_pair k there f in
          let pairs : g.pair ≡ h.pair = sym (global_number j g.pair e g.is) ∙ (same ∙ global_number k h.pair f h.is) in
          one j k h.pair (g.is ∙ ap Some pairs) h.is
      by true false e f =
          let h = has_pair k there f in
          let sums : length m.pairing.new.globals + unwrap_or (position (nat_eq j) heap) 0 ≡ h.pair = sym (later_number j e) ∙ (same ∙ global_number k h.pair f h.is) in
          let low = h.within in
          absurd (omega (arith, sums, low))
      by false true e f =
          let g = has_pair j here e in
          let sums : g.pair ≡ length m.pairing.new.globals + unwrap_or (position (nat_eq k) heap) 0 = sym (global_number j g.pair e g.is) ∙ (same ∙ later_number k f) in
          let low = g.within in
          absurd (omega (arith, sums, low))

-- each object stands at its new number
module _ (old new : Program) (q : Pairing) (s next : Store) where
  abbrev v : Versions
  v = between old new q

  abbrev initial : Store
  initial = initial_store new

  module _ (moved : move_objects (context_of v s (heap_of s (needed_objects v s))) (needed_objects v s) initial ≡ Ok next) where
    pub stands : (k : ℕ) (x : Object) (d : Extent) → slice_get s.objects k ≡ Some x → new_extent v k x ≡ Some d → (is_heap_number s k ≡ true → IsNeededIn v s k) → Stands next (image_number v s k) d
    stands k x d at is here = by x.kind refl
      where
        shapes : Rattle.lu_image_laws.proofs.Shapes.Shapes (context_of v s (heap_of s (needed_objects v s))) (needed_objects v s) initial next
        shapes = shapes_of (context_of v s (heap_of s (needed_objects v s))) (needed_objects v s) initial next moved

        later_is : is_heap_number s k ≡ not (is_global x.kind)
        later_is = ap (λ o. option_map_or (λ (x : Object). not (is_global x.kind)) o false) at

        by : (kind : ObjectKind) → x.kind ≡ kind → Stands next (image_number v s k) d
        by Temporary kind = absurd (let none : Some d ≡ None = sym is ∙ ap (new_extent_in v k x) kind in cc)
        by Global kind =
            let q : option_map (global_extent new.types) (paired_global v k) ≡ Some d = sym (ap (new_extent_in v k x) kind) ∙ is in
            let u = mapped (global_extent new.types) (paired_global v k) d q in
            let g = then_some (pair_in v.pairing.globals k) (slice_get (map (λ (d : Text.Global). d.ty) new.globals)) u.0 u.1 in
            let there = mapped (λ (d : Text.Global). d.ty) (slice_get new.globals g.0) u.0 (sym (get_map (λ (d : Text.Global). d.ty) new.globals g.0) ∙ g.2) in
            let start : slice_get initial.objects g.0 ≡ Some (initial_object new there.0) = get_map (initial_object new) new.globals g.0 ∙ ap (option_map (initial_object new)) there.1 in
            let y = same_shape initial.objects next.objects g.0 (initial_object new there.0) shapes.more start in
            let elem : y.object.elem ≡ d.elem = y.elem ∙ (ap (global_elem new.types) there.2 ∙ ap (λ (d : Extent). d.elem) u.2) in
            let count : y.object.count ≡ d.count = y.count ∙ (ap (global_count new.types) there.2 ∙ ap (λ (d : Extent). d.count) u.2) in
            let number = global_number v s k g.0 (later_is ∙ ap (λ kind. not (is_global kind)) kind) g.1 in
            subst (λ n. Stands next n d) (sym number) (y.object, y.is, elem, count)
        by (Heap site) kind =
            let later : is_heap_number s k ≡ true = later_is ∙ ap (λ kind. not (is_global kind)) kind in
            let place = place_of v s k (here later) later in
            let i = unwrap_or (position (nat_eq k) (heap_of s (needed_objects v s))) 0 in
            let globals : length initial.objects ≡ length v.pairing.new.globals = same_length (initial_object new) (λ (d : Text.Global). d.ty) new.globals in
            let both : length initial.objects + i ≡ image_number v s k = ap (λ n. n + i) globals ∙ sym (later_number v s k later) in
            subst (λ n. Stands next n d) both (shapes.stands i k place x d at is)

  -- and there is no other
  pub no_other : store_image v s initial ≡ Ok next → length next.objects ≡ length new.globals + length (heap_of s (needed_objects v s))
  no_other h =
      let c = context_of v s (heap_of s (needed_objects v s)) in
      let made = made_within (move_objects c (needed_objects v s) initial) (first_over (heap_size v s) 0 (needed_objects v s)) next h in
      let shapes = shapes_of c (needed_objects v s) initial next made.1 in
      let globals : length initial.objects ≡ length new.globals = length-map new.globals (initial_object new) in
      shapes.long ∙ ap (λ n. n + length (heap_of s (needed_objects v s))) globals

  pub each_stands : store_image v s initial ≡ Ok next → (k : ℕ) (x : Object) (d : Extent) → IsNeededIn v s k → slice_get s.objects k ≡ Some x → new_extent v k x ≡ Some d → Stands next (image_number v s k) d
  each_stands h k x d here at is =
      let made = made_within (move_objects (context_of v s (heap_of s (needed_objects v s))) (needed_objects v s) initial) (first_over (heap_size v s) 0 (needed_objects v s)) next h in
      stands made.1 k x d at is (λ later. here)

-- a pointer goes to its object's image
module _ (c : Context) (aim : Aim) (o offset : ℕ) (w : Value) where
  found : (to : Kept) (r : Result ℕ Why) → at_offset (c.number o) to r ≡ Ok w → GoesTo (c.number o) w
  found to (Ok k) h = record { offset = k; is = let e : Pointer (c.number o) k ≡ w = cc in sym e }
  found to _ h = absurd (cc)

  nowhere : (kind : ObjectKind) (to : Kept) → unpaired_image c.versions kind to ≡ Ok w → ⊥
  nowhere Global to h = absurd (cc)
  nowhere (Heap site) to h = absurd (cc)
  nowhere Temporary to h = absurd (cc)

  moved : (x : Object) (a b : Option Extent) (to : Kept) → moved_pointer c aim o offset x a b to ≡ Ok w → GoesTo (c.number o) w
  moved x (Some e) (Some d) to h = found to (offset_image c.versions aim e d offset) h
  moved x None (Some d) to h = absurd (nowhere x.kind to h)
  moved x None None to h = absurd (nowhere x.kind to h)
  moved x (Some e) None to h = absurd (nowhere x.kind to h)

  pub goes : pointer_image c aim (V.Pointer o offset) ≡ Ok w → BecomesNull c o w ⊎ GoesTo (c.number o) w
  goes h = by (slice_get c.store.objects o) refl h
    where
      dead : (x : Object) → slice_get c.store.objects o ≡ Some x → is_live x ≡ false → (rule : Dangling) → c.versions.pairing.dangling ≡ rule → dead_image rule (target o offset) ≡ Ok w → BecomesNull c o w ⊎ GoesTo (c.number o) w
      dead x at died D.Refuse e h = absurd (cc)
      dead x at died D.Null e h =
          inl (record { object = x; is = at; dead = died; rule = e; null = let e : Null ≡ w = cc in sym e })

      living : (x : Object) → slice_get c.store.objects o ≡ Some x → (b : Bool) → is_live x ≡ b → (if b then moved_pointer c aim o offset x (old_extent c.versions o x) (new_extent c.versions o x) (target o offset) else dead_image c.versions.pairing.dangling (target o offset)) ≡ Ok w → BecomesNull c o w ⊎ GoesTo (c.number o) w
      living x at true e h = inr (moved x (old_extent c.versions o x) (new_extent c.versions o x) (target o offset) h)
      living x at false e h = dead x at e c.versions.pairing.dangling refl h

      by : (p : Option Object) → slice_get c.store.objects o ≡ p → option_map_or (λ x. object_pointer c aim o offset x (target o offset)) p (refused Rattle.lu_image.specs.declared.refusal.Why.TheVariants.NoPlace (target o offset)) ≡ Ok w → BecomesNull c o w ⊎ GoesTo (c.number o) w
      by None at h = absurd (cc)
      by (Some x) at h = living x at (is_live x) refl h
