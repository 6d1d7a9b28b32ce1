-- A place that the text writes outside unions has a path outside unions, and keeps its address while stores grow.
use Rattle.std.proofs.Common.{◌≡◌, ◌∙◌, refl, ap, sym, subst, Bool, true, false, ◌||◌, cond, ℕ, List, [], ◌∷◌, length, Option, Some, None, Ok, Err, arith}
use Rattle.std.specs.Prelude.{slice_get}
use Rattle.std.specs.List.{list_any}
use Rattle.std.specs.Option.{option_map, option_map_or}
use Rattle.std.proofs.lemmas.List.Folds.{list_any-append}
use Rattle.std.proofs.lemmas.Option.{slice_get_within}
use Rattle.lu_spec.specs.Then.{then_do, then_option}
use Rattle.lu_base.specs.declared.trap.Trap.TheVariants.{BadPointer}
use Rattle.c_types.specs.declared.path.Place as T_place
use Rattle.c_types.specs.declared.path.Step.{Step}
use Rattle.c_types.specs.declared.path.Step.TheVariants.{Index, Field}
use Rattle.c_types.specs.Descent.{find_place}
use Rattle.c_types.specs.Numbering.{is_array}
use Rattle.c_types.specs.Place.{is_member, object_place}
use Rattle.c_types.proofs.ObjectLaws.{find_place-sound}
use Rattle.src_tree.specs.declared.value.Value.{Value, Int, Null, Pointer, Function, Struct', Array', Union'}
use Rattle.src_tree.specs.declared.value.Object.{Object}
use Rattle.src_tree.specs.declared.value.Store.{Store}
use Rattle.src_tree.specs.declared.program.Program.{Program}
use Rattle.src_tree.specs.declared.expr.PlaceKind.{PlaceKind, Global, Deref', Arrow', Item', Element', Field', Member', more_of-TypedPlace}
use Rattle.src_meaning.specs.Objects.{Gives, Place, or_trap, inside, target, target_in, offset_in}
use Rattle.src_meaning.specs.Objects as objects
use Rattle.src_meaning.specs.Expression.{Scope, place_of, value_at_row, pointer_plus, expr_type, index_below, length_of}
use Rattle.src_meaning.specs.Store.{IsStore}
use Rattle.src_meaning.specs.ValidExpression.{is_outside}
use Rattle.src_meaning.proofs.LayoutLengths.{typed_within}
use Rattle.c_types.specs.Refusal.{IsBuilt}
use Rattle.cg_state.proofs.Places.{IsPart, place_word, elements_typed, item_part}
use Rattle.cg_sim_expr.proofs.Loads.{some_count}
use Rattle.cg_sim_expr.proofs.Limits.{part_addressed}
use Rattle.src_laws.proofs.Extended.{Extends, same_shape}
use Rattle.cg_sim.proofs.Kept.{kept_word_of}

record Stepped {A B : Type 0} (r : Gives A) (f : A → Gives B) (b : B) : Type 0 where
  first : A
  is : r ≡ Ok first
  then_is : f first ≡ Ok b

then_ok : {A B : Type 0} (r : Gives A) (f : A → Gives B) (b : B) → then_do r f ≡ Ok b → Stepped r f b
then_ok (Ok a) f b e = record { first = a; is = refl; then_is = e }
then_ok (Err t) f b e = absurd (cc)

ok_is : {a b : Place} → ◌≡◌ {A = Gives Place} (Ok a) (Ok b) → a ≡ b
ok_is e = cc

abbrev pub IsOut : Place → Type 0
IsOut q = list_any is_member q.path ≡ false

out_more : (q : Place) (st : Step) → is_member st ≡ false → IsOut q → IsOut (inside q st)
out_more q st h out = list_any-append is_member q.path (st ∷ []) ∙ (ap (λ b. b || (is_member st || false)) out ∙ ap (λ b. b || false) h)

module _ (p : Program) (built : IsBuilt p.types) (s : Store) (ok : IsStore p s) where
  target_outside : (u : ℕ) (v : Value) (q : Place) → target p.types s u v ≡ Ok q → IsOut q
  target_outside u (Pointer o k) q e = by (slice_get s.objects o) refl e
    where
      found : (x : Object) (vs : List Value) → slice_get s.objects o ≡ Some x → x.elements ≡ Some vs → (f : Option (List Step)) → find_place p.types x.elem x.count k u ≡ f → or_trap BadPointer (option_map (objects.place o) f) ≡ Ok q → IsOut q
      found x vs at live None g e = absurd (cc)
      found x vs at live (Some path) g e =
          let all = elements_typed p built s ok o x vs at live in
          let count = some_count p.types x.elem x.count k u path g in
          let first = item_part p built s ok x.elem vs 0 all.1 (omega (arith, all.0, count)) in
          let elem = typed_within p s (length p.types.types) x.elem first.0 first.2 in
          let sound = find_place-sound p.types built x.elem x.count k u path (slice_get_within p.types.types x.elem elem.0 elem.1) g in
          let same : objects.place o path ≡ q = ok_is e in
          subst IsOut same sound.outside

      live_in : (x : Object) → slice_get s.objects o ≡ Some x → (l : Option (List Value)) → x.elements ≡ l → or_trap BadPointer (cond (elim l as (λ _. Bool) [ None ↦ false | Some elements ↦ true ]) (option_map (objects.place o) (find_place p.types x.elem x.count k u)) None) ≡ Ok q → IsOut q
      live_in x at None live e = absurd (cc)
      live_in x at (Some vs) live e = found x vs at live (find_place p.types x.elem x.count k u) refl e

      by : (o' : Option Object) → slice_get s.objects o ≡ o' → or_trap BadPointer (then_option o' (target_in p.types u o k)) ≡ Ok q → IsOut q
      by None at e = absurd (cc)
      by (Some x) at e = live_in x at x.elements refl e
  target_outside u (Int z) q e = absurd (cc)
  target_outside u Null q e = absurd (cc)
  target_outside u (Function f) q e = absurd (cc)
  target_outside u (Struct' m vs) q e = absurd (cc)
  target_outside u (Array' m vs) q e = absurd (cc)
  target_outside u (Union' k m body) q e = absurd (cc)

  module _ (ls : List Value) where
    abbrev scope : Scope
    scope = record { types = p.types; store = s; locals = ls }

    pub place_outside : (kind : PlaceKind) (u : ℕ) (q : Place) → is_outside kind ≡ true → place_of scope u kind ≡ Ok q → IsOut q
    place_outside (Global g) u q out e = subst IsOut (ok_is e) (by (is_array (slice_get p.types.types u)))
      where
        by : (b : Bool) → IsOut (cond b (objects.place g []) (objects.place g (Index 0 ∷ [])))
        by true = refl
        by false = refl
    place_outside (Deref' m e) u q out g =
        let v = then_ok (value_at_row scope e) (target p.types s u) q g in target_outside u v.first q v.then_is
    place_outside (Arrow' m e) u q out g =
        let v = then_ok (value_at_row scope e) (target p.types s u) q g in target_outside u v.first q v.then_is
    place_outside (Item' m a n i) u q out g =
        let v = then_ok (pointer_plus scope (expr_type a) (value_at_row scope a) (value_at_row scope i)) (target p.types s u) q g in
        target_outside u v.first q v.then_is
    place_outside (Element' m (more_of-TypedPlace t kind rest) n i) u q out g =
        let a = then_ok (place_of scope t kind) (λ q. then_do (value_at_row scope i) (λ v. then_do (index_below (length_of p.types t) v) (λ k. Ok (inside q (Index k))))) q g in
        let v = then_ok (value_at_row scope i) (λ v. then_do (index_below (length_of p.types t) v) (λ k. Ok (inside a.first (Index k)))) q a.then_is in
        let k = then_ok (index_below (length_of p.types t) v.first) (λ k. Ok (inside a.first (Index k))) q v.then_is in
        subst IsOut (ok_is k.then_is) (out_more a.first (Index k.first) refl (place_outside kind t a.first out a.is))
    place_outside (Field' m (more_of-TypedPlace t kind rest) k) u q out g =
        let a = then_ok (place_of scope t kind) (λ q. Ok (inside q (Field k))) q g in
        subst IsOut (ok_is a.then_is) (out_more a.first (Field k) refl (place_outside kind t a.first out a.is))
    place_outside (Member' m e k) u q out g = absurd (cc)

  -- a part's address stays while the store grows
  pub word_stays : (s' : Store) (ok' : IsStore p s') → Extends s.objects s'.objects → (u : ℕ) (a : Place) → IsPart p built s ok u a → place_word p built s' ok' a ≡ place_word p built s ok a
  word_stays s' ok' ext u a h =
      let y = same_shape s.objects s'.objects a.object h.object ext h.at in
      let ad = part_addressed p built s ok u a h in
      let base = kept_word_of p built s s' ext a.object ad.offset ad.address in
      let offset : option_map_or (λ (x : Object). option_map_or (λ k. k) (offset_in p.types x a.path) 0) (slice_get s'.objects a.object) 0 ≡ option_map_or (λ (x : Object). option_map_or (λ k. k) (offset_in p.types x a.path) 0) (slice_get s.objects a.object) 0 = ap (λ o. option_map_or (λ (x : Object). option_map_or (λ k. k) (offset_in p.types x a.path) 0) o 0) y.is ∙ (ap (λ o. option_map_or (λ k. k) o 0) (same_offset a.path y.object h.object y.elem y.count) ∙ sym (ap (λ o. option_map_or (λ (x : Object). option_map_or (λ k. k) (offset_in p.types x a.path) 0) o 0) h.at)) in
      omega (arith, base, offset)
    where
      same_offset : (path : List Step) (x y : Object) → x.elem ≡ y.elem → x.count ≡ y.count → offset_in p.types x path ≡ offset_in p.types y path
      same_offset [] x y e g = refl
      same_offset (st ∷ path) x y e g =
          ap (λ t. option_map (λ (to : T_place.Place). to.offset) (object_place p.types t x.count (st ∷ path))) e ∙ ap (λ n. option_map (λ (to : T_place.Place). to.offset) (object_place p.types y.elem n (st ∷ path))) g
