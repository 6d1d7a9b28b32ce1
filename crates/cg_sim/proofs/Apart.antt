-- A write to a union leaves each part outside unions that is smaller than the union.
use Rattle.std.proofs.Common.{◌≡◌, ◌∙◌, refl, ap, sym, subst, Bool, true, false, ℕ, zero, suc, ◌<◌, ◌≤◌, List, [], ◌∷◌, Option, Some, arith, nat_eq}
use Rattle.std.specs.Prelude.{slice_get, slice_set}
use Rattle.std.specs.List.{list_any}
use Rattle.std.proofs.lemmas.Bool.Decides.{nat_tests}
use Rattle.lu_spec.specs.Then.{then_option}
use Rattle.lu_spec.proofs.ThenLemmas.{then_some}
use Rattle.c_types.specs.declared.parts.Ty.TheVariants as T
use Rattle.c_types.specs.declared.path.Place as T_place
use Rattle.c_types.specs.declared.path.Step.{Step}
use Rattle.c_types.specs.declared.path.Step.TheVariants.{Index, Field, Member}
use Rattle.c_types.specs.Layout.{size_of}
use Rattle.c_types.specs.Place.{place, step_place, path_place, is_member, object_place}
use Rattle.c_types.proofs.ObjectLaws.{element-of}
use Rattle.c_types.proofs.PathLaws.{or_false, path-within}
use Rattle.c_types.proofs.PlaceLaws.{same-place, first-of}
use Rattle.src_tree.specs.declared.value.Value.{Value, out-Value}
use Rattle.src_tree.specs.declared.value.Value.TheVariants.{outs-Struct, outs-Array}
use Rattle.src_tree.specs.declared.value.Value.TheOpen as V
use Rattle.src_tree.specs.declared.value.Object.{Object}
use Rattle.src_tree.specs.declared.value.Store.{Store}
use Rattle.src_tree.specs.declared.program.Program.{Program}
use Rattle.src_meaning.specs.Paths.{Layer, part_in, with_part_in, part_at, with_part, element_part, with_element_part}
use Rattle.src_meaning.specs.Objects.{Place, with_elements}
use Rattle.src_meaning.specs.Store.{IsStore}
use Rattle.c_types.specs.Refusal.{IsBuilt}
use Rattle.cg_state.proofs.Typed.{Typed}
use Rattle.cg_state.proofs.Places.{IsPart}
use Rattle.cg_state.proofs.Stores.{replaced, store_after}
use Rattle.src_laws.proofs.Extended.{type_kept}
use Rattle.cg_state.proofs.AfterWrite.{set_get, layer_put, after_extends}

abbrev step_eq : Step → Step → Bool
step_eq (Index i) (Index j) = nat_eq i j
step_eq (Field i) (Field j) = nat_eq i j
step_eq (Member i) (Member j) = nat_eq i j
step_eq _ _ = false

step_same : (a b : Step) → step_eq a b ≡ true → a ≡ b
step_same (Index i) (Index j) h = let e : i ≡ j = grind (arith, nat_tests, h) in ap Index e
step_same (Field i) (Field j) h = let e : i ≡ j = grind (arith, nat_tests, h) in ap Field e
step_same (Member i) (Member j) h = let e : i ≡ j = grind (arith, nat_tests, h) in ap Member e
step_same (Index i) (Field j) h = absurd (cc)
step_same (Index i) (Member j) h = absurd (cc)
step_same (Field i) (Index j) h = absurd (cc)
step_same (Field i) (Member j) h = absurd (cc)
step_same (Member i) (Index j) h = absurd (cc)
step_same (Member i) (Field j) h = absurd (cc)

pub set_other : {A : Type 0} (xs : List A) (i j : ℕ) (x : A) → nat_eq i j ≡ false → slice_get (slice_set xs j x) i ≡ slice_get xs i
set_other [] i j x h = refl
set_other (y ∷ xs) zero zero x h = absurd (let t : nat_eq 0 0 ≡ true = refl in cc)
set_other (y ∷ xs) zero (suc j) x h = refl
set_other (y ∷ xs) (suc i) zero x h = refl
set_other (y ∷ xs) (suc i) (suc j) x h = set_other xs i j x (less i j h)
  where
    less : (i j : ℕ) → nat_eq (suc i) (suc j) ≡ false → nat_eq i j ≡ false
    less i j h = grind (arith, nat_tests, h)

some_is : {a b : Value} → Some a ≡ Some b → a ≡ b
some_is h = cc

-- another part stays
layer_other : (l : Layer) (a b : Step) (pa pb new x : Value) → step_eq a b ≡ false → is_member a ≡ false → part_in l a ≡ Some pa → part_in l b ≡ Some pb → with_part_in l b new ≡ Some x → part_in (out-Value x) a ≡ Some pa
layer_other (V.Struct vs) (Field i) (Field j) pa pb new x h out e g made =
    ap (λ l. part_in l (Field i)) (sym (ap out-Value (some_is made)) ∙ outs-Struct (slice_set vs j new)) ∙ (set_other vs i j new h ∙ e)
layer_other (V.Array vs) (Index i) (Index j) pa pb new x h out e g made =
    ap (λ l. part_in l (Index i)) (sym (ap out-Value (some_is made)) ∙ outs-Array (slice_set vs j new)) ∙ (set_other vs i j new h ∙ e)
layer_other (V.Struct vs) (Field i) (Index j) pa pb new x h out e g made = absurd (cc)
layer_other (V.Struct vs) (Field i) (Member j) pa pb new x h out e g made = absurd (cc)
layer_other (V.Struct vs) (Index i) b pa pb new x h out e g made = absurd (cc)
layer_other (V.Struct vs) (Member i) b pa pb new x h out e g made = absurd (cc)
layer_other (V.Array vs) (Index i) (Field j) pa pb new x h out e g made = absurd (cc)
layer_other (V.Array vs) (Index i) (Member j) pa pb new x h out e g made = absurd (cc)
layer_other (V.Array vs) (Field i) b pa pb new x h out e g made = absurd (cc)
layer_other (V.Array vs) (Member i) b pa pb new x h out e g made = absurd (cc)
layer_other (V.Union k body) (Member i) b pa pb new x h out e g made = absurd (cc)
layer_other (V.Union k body) (Index i) b pa pb new x h out e g made = absurd (cc)
layer_other (V.Union k body) (Field i) b pa pb new x h out e g made = absurd (cc)
layer_other (V.Int z) a b pa pb new x h out e g made = absurd (cc)
layer_other V.Null a b pa pb new x h out e g made = absurd (cc)
layer_other (V.Pointer o k) a b pa pb new x h out e g made = absurd (cc)
layer_other (V.Function f) a b pa pb new x h out e g made = absurd (cc)

module _ (p : Program) (built : IsBuilt p.types) where
  abbrev size : ℕ → ℕ
  size t = size_of p.types t

  -- of a union only a member is a part
  no_member : (n : ℕ) (st : Step) (to : T_place.Place) → step_place p.types (Some (T.Union n)) st ≡ Some to → is_member st ≡ false → ⊥
  no_member n (Member k) to e h = absurd (cc)
  no_member n (Index k) to e h = absurd (cc)
  no_member n (Field k) to e h = absurd (cc)

  path_kept : (ps qs : List Step) (t n : ℕ) (v new x y : Value) (one two : T_place.Place) → path_place p.types t ps ≡ Some one → path_place p.types t qs ≡ Some two → list_any is_member ps ≡ false → slice_get p.types.types two.ty ≡ Some (T.Union n) → size one.ty < size two.ty → with_part v qs new ≡ Some x → part_at v ps ≡ Some y → part_at x ps ≡ Some y
  path_kept [] qs t n v new x y one two e g out is_union less made at =
      let here = same-place t 0 one.ty one.offset e in
      let within = path-within p.types built t qs two g in
      let same_size = ap size here.0 in
      absurd (omega (arith, within, less, same_size))
  path_kept (a ∷ ps) [] t n v new x y one two e g out is_union less made at =
      let here = same-place t 0 two.ty two.offset g in
      let f = first-of p.types t a ps one e in
      let step = subst (λ o. step_place p.types o a ≡ Some f.part) (ap (slice_get p.types.types) here.0 ∙ is_union) f.step in
      absurd (no_member n a f.part step (or_false (is_member a) (list_any is_member ps) out).0)
  path_kept (a ∷ ps) (b ∷ qs) t n v new x y one two e g out is_union less made at =
      let fa = first-of p.types t a ps one e in
      let fb = first-of p.types t b qs two g in
      let outs = or_false (is_member a) (list_any is_member ps) out in
      let pa = then_some (part_in (out-Value v) a) (λ q. part_at q ps) y at in
      let pb = then_some (part_in (out-Value v) b) (λ q. then_option (with_part q qs new) (with_part_in (out-Value v) b)) x made in
      let inner = then_some (with_part pb.0 qs new) (with_part_in (out-Value v) b) x pb.2 in
      by pa.0 pb.0 inner.0 (λ same. path_kept ps qs fa.part.ty n pa.0 new inner.0 y fa.last fb.last fa.rest (subst (λ t. path_place p.types t qs ≡ Some fb.last) (sym (same_part a b fa.part fb.part same fa.step fb.step)) fb.rest) outs.1 (ap (slice_get p.types.types) fb.ty ∙ is_union) (sizes fa.last.ty one.ty fb.last.ty two.ty fa.ty fb.ty less) (subst (λ v. with_part v qs new ≡ Some inner.0) (some_is (sym pb.1 ∙ (ap (part_in (out-Value v)) (sym same) ∙ pa.1))) inner.1) pa.2) pa.1 pa.2 pb.1 inner.2 outs.0 (step_eq a b) refl
    where
      same_part : (a b : Step) (q r : T_place.Place) → a ≡ b → step_place p.types (slice_get p.types.types t) a ≡ Some q → step_place p.types (slice_get p.types.types t) b ≡ Some r → q.ty ≡ r.ty
      same_part a b q r s e g =
          let both : ◌≡◌ {A = Option T_place.Place} (Some q) (Some r) = sym e ∙ (ap (step_place p.types (slice_get p.types.types t)) s ∙ g) in
          let one : q ≡ r = cc in
          ap (λ (q : T_place.Place). q.ty) one

      sizes : (a b c d : ℕ) → a ≡ b → c ≡ d → size b < size d → size a < size c
      sizes a b c d e g h = let x = ap size e in let y = ap size g in omega (arith, x, y, h)

      by : (pa pb changed : Value) → (a ≡ b → part_at changed ps ≡ Some y) → part_in (out-Value v) a ≡ Some pa → part_at pa ps ≡ Some y → part_in (out-Value v) b ≡ Some pb → with_part_in (out-Value v) b changed ≡ Some x → is_member a ≡ false → (c : Bool) → step_eq a b ≡ c → part_at x (a ∷ ps) ≡ Some y
      by pa pb changed later ea at eb put out true test =
          let same = step_same a b test in
          ap (λ st. then_option (part_in (out-Value x) st) (λ q. part_at q ps)) same ∙ (ap (λ o. then_option o (λ q. part_at q ps)) (layer_put (out-Value v) b pb changed x eb put) ∙ later same)
      by pa pb changed later ea at eb put out false test =
          ap (λ o. then_option o (λ q. part_at q ps)) (layer_other (out-Value v) a b pa pb changed x test out ea eb put) ∙ at

  element_kept : (elem n : ℕ) (es new : List Value) (i j : ℕ) (ps qs : List Step) (v y : Value) (one two : T_place.Place) → path_place p.types elem ps ≡ Some one → path_place p.types elem qs ≡ Some two → list_any is_member ps ≡ false → slice_get p.types.types two.ty ≡ Some (T.Union n) → size one.ty < size two.ty → with_element_part es (Index j ∷ qs) v ≡ Some new → element_part es (Index i ∷ ps) ≡ Some y → element_part new (Index i ∷ ps) ≡ Some y
  element_kept elem n es new i j ps qs v y one two e g out is_union less made at =
      let first = then_some (slice_get es j) (λ x. then_option (with_part x qs v) (λ changed. Some (slice_set es j changed))) new made in
      let inner = then_some (with_part first.0 qs v) (λ changed. Some (slice_set es j changed)) new first.2 in
      let is : slice_set es j inner.0 ≡ new = let g = inner.2 in cc in
      let a = then_some (slice_get es i) (λ x. part_at x ps) y at in
      ap (λ l. element_part l (Index i ∷ ps)) (sym is) ∙ by first.0 inner.0 a.0 first.1 inner.1 a.1 a.2 (nat_eq i j) refl
    where
      by : (x changed z : Value) → slice_get es j ≡ Some x → with_part x qs v ≡ Some changed → slice_get es i ≡ Some z → part_at z ps ≡ Some y → (c : Bool) → nat_eq i j ≡ c → element_part (slice_set es j changed) (Index i ∷ ps) ≡ Some y
      by x changed z ex w ez at true test =
          let same : i ≡ j = grind (arith, nat_tests, test) in
          let one_value : z ≡ x = some_is (sym ez ∙ (ap (slice_get es) same ∙ ex)) in
          ap (λ i. then_option (slice_get (slice_set es j changed) i) (λ x. part_at x ps)) same ∙ (ap (λ o. then_option o (λ x. part_at x ps)) (set_get es j changed x ex) ∙ path_kept ps qs elem n x v changed y one two e g out is_union less w (ap (λ z. part_at z ps) (sym one_value) ∙ at))
      by x changed z ex w ez at false test =
          ap (λ o. then_option o (λ x. part_at x ps)) (set_other es i j changed test ∙ ez) ∙ at

  -- a part that is still there, with its value
  pub record KeptPart (s : Store) (ok : IsStore p s) (u : ℕ) (a : Place) (v : Value) : Type 0 where
    pub part : IsPart p built s ok u a
    pub value : part.value ≡ v

  -- what is outside unions and no greater than so much stays from one store to another
  abbrev pub KeepsParts : Store → Store → ℕ → Type 0
  KeepsParts s t z =
      (ok : IsStore p s) (ok' : IsStore p t) (u : ℕ) (a : Place) (h : IsPart p built s ok u a) → list_any is_member a.path ≡ false → size u ≤ z → KeptPart t ok' u a h.value

  pub parts_stay : (s : Store) (z : ℕ) → KeepsParts s s z
  parts_stay s z ok ok' u a h out le =
      record { part = record { object = h.object; elements = h.elements; at = h.at; live = h.live; offset = h.offset; leads = h.leads; value = h.value; is = h.is; is_typed = h.is_typed }; value = refl }

  module _ (s : Store) (ok : IsStore p s) (t n : ℕ) (q : Place) (h : IsPart p built s ok t q) (is_union : slice_get p.types.types t ≡ Some (T.Union n)) (v : Value) (hv : Typed p built s t v) where
    abbrev after : Store
    after = store_after p built s ok t q h v hv

    abbrev new : List Value
    new = (replaced p built s ok t q h).put v

    -- a write at a union keeps what is smaller
    pub union_keeps : (z : ℕ) → z < size t → KeepsParts s after z
    union_keeps z less ok0 ok' u a ha out le = by (nat_eq a.object q.object) refl
      where
        typed_after : Typed p built after u ha.value
        typed_after = type_kept p s after (after_extends p built s ok t q h v hv) u ha.value ha.is_typed

        object_is : {a b : Object} → Some a ≡ Some b → a ≡ b
        object_is h = cc

        list_is : {a b : List Value} → Some a ≡ Some b → a ≡ b
        list_is h = cc

        by : (c : Bool) → nat_eq a.object q.object ≡ c → KeptPart after ok' u a ha.value
        by false test =
            record { part = record { object = ha.object; elements = ha.elements; at = set_other s.objects a.object q.object (with_elements h.object (Some new)) test ∙ ha.at; live = ha.live; offset = ha.offset; leads = ha.leads; value = ha.value; is = ha.is; is_typed = typed_after }; value = refl }
        by true test =
            let one : a.object ≡ q.object = grind (arith, nat_tests, test) in
            let object : ha.object ≡ h.object = object_is (sym ha.at ∙ (ap (slice_get s.objects) one ∙ h.at)) in
            let elements : ha.elements ≡ h.elements = list_is (sym ha.live ∙ (ap (λ (x : Object). x.elements) object ∙ h.live)) in
            let leads = ap (λ (x : Object). object_place p.types x.elem x.count a.path) (sym object) ∙ ha.leads in
            let ea = element-of p.types h.object.elem h.object.count a.path (place u ha.offset) leads in
            let eq = element-of p.types h.object.elem h.object.count q.path (place t h.offset) h.leads in
            let puts = subst (λ path. with_element_part h.elements path v ≡ Some new) eq.path_is ((replaced p built s ok t q h).puts v) in
            let outs : list_any is_member ea.steps ≡ false = sym (ap (list_any is_member) ea.path_is) ∙ out in
            let there : element_part h.elements (Index ea.number ∷ ea.steps) ≡ Some ha.value = ap (λ l. element_part l (Index ea.number ∷ ea.steps)) (sym elements) ∙ (sym (ap (element_part ha.elements) ea.path_is) ∙ ha.is) in
            let sa = ap size ea.ty in
            let sq = ap size eq.ty in
            let kept = element_kept h.object.elem n h.elements new ea.number eq.number ea.steps eq.steps v ha.value ea.last eq.last ea.rest eq.rest outs (ap (slice_get p.types.types) eq.ty ∙ is_union) (omega (arith, sa, sq, le, less)) puts there in
            record { part = record { object = with_elements h.object (Some new); elements = new; at = ap (slice_get after.objects) one ∙ set_get s.objects q.object (with_elements h.object (Some new)) h.object h.at; live = refl; offset = ha.offset; leads = leads; value = ha.value; is = ap (element_part new) ea.path_is ∙ kept; is_typed = typed_after }; value = refl }
