-- After a write the place holds what was written, at the same address.
use Rattle.c_types.specs.Refusal.{IsBuilt}
use Rattle.std.proofs.Common.{length, ◌≡◌, ◌∙◌, refl, ap, sym, subst, true, cond, ℕ, zero, suc, List, [], ◌∷◌, Some, None, arith, nat_eq}
use Rattle.std.specs.Prelude.{slice_get, slice_set}
use Rattle.std.proofs.lemmas.Bool.Decides.{nat_tests}
use Rattle.lu_spec.specs.Then.{then_option}
use Rattle.lu_spec.proofs.ThenLemmas.{then_some}
use Rattle.c_types.specs.declared.path.Step.{Step}
use Rattle.c_types.specs.declared.path.Step.TheVariants.{Index, Field, Member}
use Rattle.c_types.specs.Place.{place}
use Rattle.c_types.proofs.ObjectLaws.{element-of}
use Rattle.src_tree.specs.declared.value.Value.{Value, out-Value}
use Rattle.src_tree.specs.declared.value.Value.TheVariants.{outs-Struct, outs-Array, outs-Union}
use Rattle.src_tree.specs.declared.value.Value.TheOpen as V
use Rattle.src_tree.specs.declared.value.Store.{Store}
use Rattle.src_tree.specs.declared.program.Program.{Program}
use Rattle.src_meaning.specs.Paths.{Layer, part_in, with_part_in, part_at, with_part, element_part, with_element_part}
use Rattle.lu_base.specs.declared.limits.TheConstants.{FIRST_ADDRESS}
use Rattle.src_meaning.specs.Objects.{Place, with_elements}
use Rattle.src_meaning.specs.Store.{IsStore}
use Rattle.cg_state.specs.Represents.{address_in}
use Rattle.cg_state.proofs.Typed.{Typed}
use Rattle.cg_state.proofs.Memory.{address_is}
use Rattle.cg_state.proofs.Places.{IsPart, place_word, place_word_is}
use Rattle.cg_state.proofs.Stores.{replaced, store_after, addresses_same}
use Rattle.src_laws.proofs.Extended.{Extends, extends_set}
use Rattle.src_laws.proofs.Extended.{type_kept}

pub set_get : {A : Type 0} (xs : List A) (k : ℕ) (x y : A) → slice_get xs k ≡ Some y → slice_get (slice_set xs k x) k ≡ Some x
set_get [] k x y e = absurd (cc)
set_get (z ∷ xs) zero x y e = refl
set_get (z ∷ xs) (suc k) x y e = set_get xs k x y e

itself : (n : ℕ) → nat_eq n n ≡ true
itself n = grind (arith, nat_tests)

-- the part that was put is there
pub layer_put : (l : Layer) (st : Step) (part new x : Value) → part_in l st ≡ Some part → with_part_in l st new ≡ Some x → part_in (out-Value x) st ≡ Some new
layer_put (V.Struct vs) (Field k) part new x e g =
    let is = ap out-Value (some_is g) in
    ap (λ l. part_in l (Field k)) (sym is ∙ outs-Struct (slice_set vs k new)) ∙ set_get vs k new part e
  where
    some_is : {a b : Value} → Some a ≡ Some b → a ≡ b
    some_is h = cc
layer_put (V.Array vs) (Index k) part new x e g =
    let is = ap out-Value (some_is g) in
    ap (λ l. part_in l (Index k)) (sym is ∙ outs-Array (slice_set vs k new)) ∙ set_get vs k new part e
  where
    some_is : {a b : Value} → Some a ≡ Some b → a ≡ b
    some_is h = cc
layer_put (V.Union active body) (Member k) part new x e g =
    let is = ap out-Value (some_is g) in
    ap (λ l. part_in l (Member k)) (sym is ∙ outs-Union k new) ∙ ap (λ b. cond b (Some new) None) (itself k)
  where
    some_is : {a b : Value} → Some a ≡ Some b → a ≡ b
    some_is h = cc
layer_put (V.Struct vs) (Index k) part new x e g = absurd (cc)
layer_put (V.Struct vs) (Member k) part new x e g = absurd (cc)
layer_put (V.Array vs) (Field k) part new x e g = absurd (cc)
layer_put (V.Array vs) (Member k) part new x e g = absurd (cc)
layer_put (V.Union active body) (Field k) part new x e g = absurd (cc)
layer_put (V.Union active body) (Index k) part new x e g = absurd (cc)
layer_put (V.Int z) st part new x e g = absurd (cc)
layer_put V.Null st part new x e g = absurd (cc)
layer_put (V.Pointer o j) st part new x e g = absurd (cc)
layer_put (V.Function f) st part new x e g = absurd (cc)

path_put : (path : List Step) (v new x : Value) → with_part v path new ≡ Some x → part_at x path ≡ Some new
path_put [] v new x e = sym e
path_put (st ∷ path) v new x e =
    let first = then_some (part_in (out-Value v) st) (λ part. then_option (with_part part path new) (with_part_in (out-Value v) st)) x e in
    let inner = then_some (with_part first.0 path new) (with_part_in (out-Value v) st) x first.2 in
    ap (λ o. then_option o (λ q. part_at q path)) (layer_put (out-Value v) st first.0 inner.0 x first.1 inner.2) ∙ path_put path first.0 new inner.0 inner.1

element_put : (es new : List Value) (k : ℕ) (path : List Step) (v : Value) → with_element_part es (Index k ∷ path) v ≡ Some new → element_part new (Index k ∷ path) ≡ Some v
element_put es new k path v e =
    let first = then_some (slice_get es k) (λ x. then_option (with_part x path v) (λ changed. Some (slice_set es k changed))) new e in
    let inner = then_some (with_part first.0 path v) (λ changed. Some (slice_set es k changed)) new first.2 in
    let is : slice_set es k inner.0 ≡ new = let g = inner.2 in cc in
    ap (λ l. then_option (slice_get l k) (λ x. part_at x path)) (sym is) ∙ (ap (λ o. then_option o (λ x. part_at x path)) (set_get es k inner.0 first.0 first.1) ∙ path_put path first.0 v inner.0 inner.1)

module _ (p : Program) (built : IsBuilt p.types) (s : Store) (ok : IsStore p s) (u : ℕ) (q : Place) (h : IsPart p built s ok u q) (v : Value) (hv : Typed p built s u v) where
  abbrev after : Store
  after = store_after p built s ok u q h v hv

  abbrev new : List Value
  new = (replaced p built s ok u q h).put v

  pub after_extends : Extends s.objects after.objects
  after_extends = extends_set s.objects q.object h.object (Some new) h.at

  pub part_after : (ok' : IsStore p after) → IsPart p built after ok' u q
  part_after ok' =
      let el = element-of p.types h.object.elem h.object.count q.path (place u h.offset) h.leads in
      let puts = subst (λ path. with_element_part h.elements path v ≡ Some new) el.path_is ((replaced p built s ok u q h).puts v) in
      record {
        object = with_elements h.object (Some new);
        elements = new;
        at = set_get s.objects q.object (with_elements h.object (Some new)) h.object h.at;
        live = refl;
        offset = h.offset;
        leads = h.leads;
        value = v;
        is = ap (element_part new) el.path_is ∙ element_put h.elements new el.number el.steps v puts;
        is_typed = type_kept p s after after_extends u v hv;
      }

  pub value_after : (ok' : IsStore p after) → (part_after ok').value ≡ v
  unfolding part_after
  value_after ok' = refl

  pub word_after : (ok' : IsStore p after) → place_word p built after ok' q ≡ place_word p built s ok q
  unfolding part_after
  word_after ok' =
      let h' = part_after ok' in
      let one = place_word_is p built s ok u q h in
      let two = place_word_is p built after ok' u q h' in
      let a = address_is (length p.sites) p.types s q.object h.object h.at in
      let b = address_is (length p.sites) p.types after q.object h'.object h'.at in
      let same = ap (λ l. address_in l q.object) (addresses_same (length p.sites) p.types h.object h.elements new h.live FIRST_ADDRESS s.objects q.object h.at) in
      omega (arith, one, two, a, b, same)
