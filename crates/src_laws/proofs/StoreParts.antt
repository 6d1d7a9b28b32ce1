-- A value keeps its type when a part is replaced by a value of the part's type.
use Rattle.std.proofs.Common.{◌≡◌, ◌∙◌, refl, ap, sym, subst, Bool, true, false, cond, ℕ, zero, suc, ◌*◌, List, [], ◌∷◌, length, Some, None, arith, nat_eq, nat_lt}
use Rattle.std.specs.Prelude.{slice_get, slice_set}
use Rattle.std.specs.List.{list_all}
use Rattle.std.proofs.lemmas.Bool.Decides.{nat_tests}
use Rattle.lu_spec.specs.Then.{then_option}
use Rattle.lu_spec.proofs.ThenLemmas.{then_some}
use Rattle.c_types.specs.declared.parts.FieldDef.{FieldDef}
use Rattle.c_types.specs.declared.parts.Ty.{Ty}
use Rattle.c_types.specs.declared.parts.Ty.TheVariants.{Int, Pointer, VoidPointer, Function, Struct, Union, Array}
use Rattle.c_types.specs.Refusal.{IsBuilt}
use Rattle.c_types.specs.declared.path.Place as T_place
use Rattle.c_types.specs.declared.path.Step.{Step}
use Rattle.c_types.specs.declared.path.Step.TheVariants.{Index, Field, Member}
use Rattle.c_types.specs.Tables.{fields_of, members_of}
use Rattle.c_types.specs.Layout.{size_of, field_offset, member_offset}
use Rattle.c_types.specs.Place.{place, step_place, path_place}
use Rattle.c_types.proofs.PlaceLaws.{same-place, index-step, field-step, first-of}
use Rattle.src_tree.specs.declared.value.Value.{Value, out-Value, Struct as Struct_value, Array as Array_value, Union as Union_value}
use Rattle.src_tree.specs.declared.value.Value.TheVariants.{outs-Struct, outs-Array, outs-Union}
use Rattle.src_tree.specs.declared.value.Value.TheOpen as V
use Rattle.src_tree.specs.declared.value.Store.{Store}
use Rattle.src_tree.specs.declared.program.Program.{Program}
use Rattle.src_meaning.specs.Paths.{Layer, part_in, with_part_in, part_at, with_part, with_element_part}
use Rattle.src_meaning.specs.Store.{has_type, layer_has_type, fields_have_types, member_has_type}
use Rattle.src_laws.proofs.Extended.{and_in}
use Rattle.src_meaning.proofs.LayoutLengths.{and_left, and_right, typed_within, member_known, has_type-is}

fields_set : (has : ℕ → Value → Bool) (fs : List FieldDef) (vs : List Value) (k : ℕ) (d : FieldDef) (new : Value) → fields_have_types has fs vs ≡ true → slice_get fs k ≡ Some d → has d.ty new ≡ true → fields_have_types has fs (slice_set vs k new) ≡ true
fields_set has [] vs k d new h e g = absurd (cc)
fields_set has (f ∷ fs) [] k d new h e g = absurd (cc)
fields_set has (f ∷ fs) (v ∷ vs) zero d new h e g =
    let is_f : f ≡ d = cc in
    and_in (has f.ty new) (fields_have_types has fs vs) (ap (λ (f : FieldDef). has f.ty new) is_f ∙ g) (and_right (has f.ty v) (fields_have_types has fs vs) h)
fields_set has (f ∷ fs) (v ∷ vs) (suc k) d new h e g =
    and_in (has f.ty v) (fields_have_types has fs (slice_set vs k new)) (and_left (has f.ty v) (fields_have_types has fs vs) h) (fields_set has fs vs k d new (and_right (has f.ty v) (fields_have_types has fs vs) h) e g)

typed_field : (has : ℕ → Value → Bool) (fs : List FieldDef) (vs : List Value) (k : ℕ) (d : FieldDef) (part : Value) → fields_have_types has fs vs ≡ true → slice_get fs k ≡ Some d → slice_get vs k ≡ Some part → has d.ty part ≡ true
typed_field has [] vs k d part h e is = absurd (cc)
typed_field has (f ∷ fs) [] k d part h e is = absurd (cc)
typed_field has (f ∷ fs) (v ∷ vs) zero d part h e is =
    let is_f : f ≡ d = cc in
    let is_v : v ≡ part = cc in
    ap (λ (d : FieldDef). has d.ty part) (sym is_f) ∙ (ap (has f.ty) (sym is_v) ∙ and_left (has f.ty v) (fields_have_types has fs vs) h)
typed_field has (f ∷ fs) (v ∷ vs) (suc k) d part h e is = typed_field has fs vs k d part (and_right (has f.ty v) (fields_have_types has fs vs) h) e is

items_set : (has : Value → Bool) (vs : List Value) (k : ℕ) (new : Value) → list_all has vs ≡ true → has new ≡ true → list_all has (slice_set vs k new) ≡ true
items_set has [] k new h g = refl
items_set has (v ∷ vs) zero new h g = and_in (has new) (list_all has vs) g (and_right (has v) (list_all has vs) h)
items_set has (v ∷ vs) (suc k) new h g = and_in (has v) (list_all has (slice_set vs k new)) (and_left (has v) (list_all has vs) h) (items_set has vs k new (and_right (has v) (list_all has vs) h) g)

pub all_get : {A : Type 0} (has : A → Bool) (vs : List A) (k : ℕ) (v : A) → list_all has vs ≡ true → slice_get vs k ≡ Some v → has v ≡ true
all_get has [] k v h e = absurd (cc)
all_get has (x ∷ vs) zero v h e = let same : x ≡ v = cc in ap has (sym same) ∙ and_left (has x) (list_all has vs) h
all_get has (x ∷ vs) (suc k) v h e = all_get has vs k v (and_right (has x) (list_all has vs) h) e

pub length_set : {A : Type 0} (xs : List A) (k : ℕ) (x : A) → length (slice_set xs k x) ≡ length xs
length_set [] k x = refl
length_set (y ∷ xs) zero x = refl
length_set (y ∷ xs) (suc k) x = ap suc (length_set xs k x)

module _ (p : Program) (built : IsBuilt p.types) (store : Store) where
  abbrev has : ℕ → Value → Bool
  has = has_type p store

  -- the part of a step has its type, and the whole keeps its own with another part of that type
  abbrev StepKeeps : ℕ → Layer → Step → Value → T_place.Place → Type 0
  StepKeeps t l s part to =
      (has to.ty part ≡ true) × ((new x : Value) → has to.ty new ≡ true → with_part_in l s new ≡ Some x → has t x ≡ true)

  whole : (t : ℕ) (ty : Ty) (x : Value) (l : Layer) → slice_get p.types.types t ≡ Some ty → out-Value x ≡ l → layer_has_type p store has ty l ≡ true → has t x ≡ true
  whole t ty x l e out h = has_type-is p store built [] t ty e x ∙ (ap (layer_has_type p store has ty) out ∙ h)

  keeps_at : (t : ℕ) (l : Layer) (s : Step) (part : Value) (q to : T_place.Place) → q ≡ to → StepKeeps t l s part q → StepKeeps t l s part to
  keeps_at t l s part q to e f = subst (StepKeeps t l s part) e f

  step_keeps : (t : ℕ) (s : Step) (part : Value) (to : T_place.Place) (ty : Ty) (l : Layer) → slice_get p.types.types t ≡ Some ty → layer_has_type p store has ty l ≡ true → step_place p.types (Some ty) s ≡ Some to → part_in l s ≡ Some part → StepKeeps t l s part to
  step_keeps t (Field k) part to (Struct s) (V.Struct vs) e h at is =
      let f = field-step (slice_get (fields_of p.types s) k) (field_offset p.types s k) to at in
      keeps_at t (V.Struct vs) (Field k) part (place f.0.ty (field_offset p.types s k)) to f.2 (
        typed_field has (fields_of p.types s) vs k f.0 part h f.1 is,
        λ new x g made.
            let is_x : Struct_value (slice_set vs k new) ≡ x = cc in
            subst (λ x. has t x ≡ true) is_x (whole t (Struct s) (Struct_value (slice_set vs k new)) (V.Struct (slice_set vs k new)) e (outs-Struct (slice_set vs k new)) (fields_set has (fields_of p.types s) vs k f.0 new h f.1 g)),
      )
  step_keeps t (Index k) part to (Array u n) (V.Array vs) e h at is =
      let i = index-step (nat_lt k n) (place u (k * size_of p.types u)) to at in
      let count = and_left (nat_eq (length vs) n) (list_all (has u) vs) h in
      let items = and_right (nat_eq (length vs) n) (list_all (has u) vs) h in
      keeps_at t (V.Array vs) (Index k) part (place u (k * size_of p.types u)) to i.1 (
        all_get (has u) vs k part items is,
        λ new x g made.
            let is_x : Array_value (slice_set vs k new) ≡ x = cc in
            subst (λ x. has t x ≡ true) is_x (whole t (Array u n) (Array_value (slice_set vs k new)) (V.Array (slice_set vs k new)) e (outs-Array (slice_set vs k new)) (and_in (nat_eq (length (slice_set vs k new)) n) (list_all (has u) (slice_set vs k new)) (ap (λ j. nat_eq j n) (length_set vs k new) ∙ count) (items_set (has u) vs k new items g))),
      )
  step_keeps t (Member k) part to (Union u) (V.Union active body) e h at is = by_active (nat_eq k active) refl is
    where
      by_active : (b : Bool) → nat_eq k active ≡ b → cond b (Some body) None ≡ Some part → StepKeeps t (V.Union active body) (Member k) part to
      by_active false q is = absurd (cc)
      by_active true q is =
          let same : active ≡ k = grind (arith, nat_tests, q) in
          let is_part : body ≡ part = cc in
          let f = field-step (slice_get (members_of p.types u) k) (member_offset p.types u) to at in
          let m = member_known p store has (slice_get (members_of p.types u) active) body h in
          let one : Some m.0 ≡ Some f.0 = sym m.1 ∙ (ap (slice_get (members_of p.types u)) same ∙ f.1) in
          let is_d : m.0 ≡ f.0 = cc in
          let typed_part : has f.0.ty body ≡ true = ap (λ (d : FieldDef). has d.ty body) (sym is_d) ∙ m.2 in
          keeps_at t (V.Union active body) (Member k) part (place f.0.ty (member_offset p.types u)) to f.2 (
            ap (has f.0.ty) (sym is_part) ∙ typed_part,
            λ new x g made.
                let is_x : Union_value k new ≡ x = cc in
                subst (λ x. has t x ≡ true) is_x (whole t (Union u) (Union_value k new) (V.Union k new) e (outs-Union k new) (ap (λ o. member_has_type has o new) f.1 ∙ g)),
          )
  step_keeps t (Field k) part to (Struct s) (V.Int z) e typed at is = absurd (cc)
  step_keeps t (Field k) part to (Struct s) V.Null e typed at is = absurd (cc)
  step_keeps t (Field k) part to (Struct s) (V.Pointer o j) e typed at is = absurd (cc)
  step_keeps t (Field k) part to (Struct s) (V.Function f) e typed at is = absurd (cc)
  step_keeps t (Field k) part to (Struct s) (V.Array vs) e typed at is = absurd (cc)
  step_keeps t (Field k) part to (Struct s) (V.Union j body) e typed at is = absurd (cc)
  step_keeps t (Index k) part to (Array u n) (V.Int z) e typed at is = absurd (cc)
  step_keeps t (Index k) part to (Array u n) V.Null e typed at is = absurd (cc)
  step_keeps t (Index k) part to (Array u n) (V.Pointer o j) e typed at is = absurd (cc)
  step_keeps t (Index k) part to (Array u n) (V.Function f) e typed at is = absurd (cc)
  step_keeps t (Index k) part to (Array u n) (V.Struct vs) e typed at is = absurd (cc)
  step_keeps t (Index k) part to (Array u n) (V.Union j body) e typed at is = absurd (cc)
  step_keeps t (Member k) part to (Union u) (V.Int z) e typed at is = absurd (cc)
  step_keeps t (Member k) part to (Union u) V.Null e typed at is = absurd (cc)
  step_keeps t (Member k) part to (Union u) (V.Pointer o j) e typed at is = absurd (cc)
  step_keeps t (Member k) part to (Union u) (V.Function f) e typed at is = absurd (cc)
  step_keeps t (Member k) part to (Union u) (V.Struct vs) e typed at is = absurd (cc)
  step_keeps t (Member k) part to (Union u) (V.Array vs) e typed at is = absurd (cc)
  step_keeps t s part to (Int k) l e typed at is = absurd (cc)
  step_keeps t s part to (Pointer u) l e typed at is = absurd (cc)
  step_keeps t s part to VoidPointer l e typed at is = absurd (cc)
  step_keeps t s part to (Function f) l e typed at is = absurd (cc)
  step_keeps t (Index k) part to (Struct s) l e typed at is = absurd (cc)
  step_keeps t (Member k) part to (Struct s) l e typed at is = absurd (cc)
  step_keeps t (Index k) part to (Union s) l e typed at is = absurd (cc)
  step_keeps t (Field k) part to (Union s) l e typed at is = absurd (cc)
  step_keeps t (Field k) part to (Array u n) l e typed at is = absurd (cc)
  step_keeps t (Member k) part to (Array u n) l e typed at is = absurd (cc)

  -- the whole keeps its type
  pub path_keeps : (path : List Step) (t : ℕ) (v part : Value) (to : T_place.Place) → has t v ≡ true → path_place p.types t path ≡ Some to → part_at v path ≡ Some part → (new x : Value) → has to.ty new ≡ true → with_part v path new ≡ Some x → has t x ≡ true
  path_keeps [] t v part to h at is new x g made =
      let q = same-place t 0 to.ty to.offset at in
      let is_x : new ≡ x = cc in
      ap (λ t. has t x) q.0 ∙ (ap (has to.ty) (sym is_x) ∙ g)
  path_keeps (s ∷ path) t v part to h at is new x g made =
      let ty = typed_within p store (length p.types.types) t v h in
      let first = then_some (part_in (out-Value v) s) (λ part. part_at part path) part is in
      let f = first-of p.types t s path to at in
      let step = step_keeps t s first.0 f.part ty.0 (out-Value v) ty.1 (sym (has_type-is p store built [] t ty.0 ty.1 v) ∙ h) (subst (λ o. step_place p.types o s ≡ Some f.part) ty.1 f.step) first.1 in
      let made_in : then_option (with_part first.0 path new) (with_part_in (out-Value v) s) ≡ Some x = sym (ap (λ o. then_option o (λ q. then_option (with_part q path new) (with_part_in (out-Value v) s))) first.1) ∙ made in
      let inner = then_some (with_part first.0 path new) (with_part_in (out-Value v) s) x made_in in
      step.1 inner.0 x (path_keeps path f.part.ty first.0 part f.last step.0 f.rest first.2 new inner.0 (subst (λ t. has t new ≡ true) (sym f.ty) g) inner.1) inner.2

  pub elements_keep : (elem : ℕ) (vs : List Value) (k : ℕ) (path : List Step) (part : Value) (to : T_place.Place) → list_all (has elem) vs ≡ true → path_place p.types elem path ≡ Some to → then_option (slice_get vs k) (λ v. part_at v path) ≡ Some part → (new : Value) (ws : List Value) → has to.ty new ≡ true → with_element_part vs (Index k ∷ path) new ≡ Some ws → (length ws ≡ length vs) × (list_all (has elem) ws ≡ true)
  elements_keep elem vs k path part to h at is new ws g made =
      let first = then_some (slice_get vs k) (λ v. part_at v path) part is in
      let made_in : then_option (with_part first.0 path new) (λ changed. Some (slice_set vs k changed)) ≡ Some ws = sym (ap (λ o. then_option o (λ v. then_option (with_part v path new) (λ changed. Some (slice_set vs k changed)))) first.1) ∙ made in
      let inner = then_some (with_part first.0 path new) (λ changed. Some (slice_set vs k changed)) ws made_in in
      let is_ws : slice_set vs k inner.0 ≡ ws = let e = inner.2 in cc in
      let one = path_keeps path elem first.0 part to (all_get (has elem) vs k first.0 h first.1) at first.2 new inner.0 g inner.1 in
      (ap length (sym is_ws) ∙ length_set vs k inner.0, ap (list_all (has elem)) (sym is_ws) ∙ items_set (has elem) vs k inner.0 h one)

-- where a part is replaced, there was one
pub part_there : (path : List Step) (v new x : Value) → with_part v path new ≡ Some x → (part : Value) × (part_at v path ≡ Some part)
part_there [] v new x made = (v, refl)
part_there (s ∷ path) v new x made =
    let first = then_some (part_in (out-Value v) s) (λ part. then_option (with_part part path new) (with_part_in (out-Value v) s)) x made in
    let inner = then_some (with_part first.0 path new) (with_part_in (out-Value v) s) x first.2 in
    let rest = part_there path first.0 new inner.0 inner.1 in
    (rest.0, ap (λ o. then_option o (λ part. part_at part path)) first.1 ∙ rest.1)

pub element_there : (vs : List Value) (k : ℕ) (path : List Step) (new : Value) (ws : List Value) → with_element_part vs (Index k ∷ path) new ≡ Some ws → (part : Value) × (then_option (slice_get vs k) (λ v. part_at v path) ≡ Some part)
element_there vs k path new ws made =
    let first = then_some (slice_get vs k) (λ v. then_option (with_part v path new) (λ changed. Some (slice_set vs k changed))) ws made in
    let inner = then_some (with_part first.0 path new) (λ changed. Some (slice_set vs k changed)) ws first.2 in
    let rest = part_there path first.0 new inner.0 inner.1 in
    (rest.0, ap (λ o. then_option o (λ v. part_at v path)) first.1 ∙ rest.1)
