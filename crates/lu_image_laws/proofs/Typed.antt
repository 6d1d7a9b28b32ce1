-- The image of a value of an old type over a base of a new type is of the new type.
use Rattle.std.proofs.Common.{◌≡◌, ◌∙◌, ◌⊎◌, inl, inr, refl, sym, ap, subst, ℕ, zero, suc, ◌+◌, ◌<◌, Bool, true, false, nat_eq, if◌then◌else◌, List, [], ◌∷◌, take, length, Option, Some, None, Ok, Err, slice_get, ℤ, arith}
use Rattle.std.specs.Prelude.{Contains, slice_set, flat_map}
use Rattle.std.specs.List.{list_all}
use Rattle.std.specs.Option.{option_map, option_map_or}
use Rattle.std.proofs.lemmas.Option.{slice_get_within}
use Rattle.std.proofs.lemmas.Bool.Decides.{nat_tests}
use Rattle.lu_spec.specs.Then.{then_option}
use Rattle.lu_spec.proofs.ThenLemmas.{then_ok}
use Rattle.c_types.specs.declared.parts.FieldDef.{FieldDef}
use Rattle.c_types.specs.declared.parts.Signature.{Signature}
use Rattle.c_types.specs.declared.parts.Ty.{Ty}
use Rattle.c_types.specs.declared.parts.Ty.TheVariants as T
use Rattle.c_types.specs.declared.path.Step.{Step}
use Rattle.c_types.specs.declared.path.Step.TheVariants.{Index, Field, Member}
use Rattle.c_types.specs.Chain.{field_types, held_in}
use Rattle.c_types.specs.Recursion.{at_type}
use Rattle.c_types.specs.Refusal.{IsBuilt}
use Rattle.c_types.specs.Tables.{members_of}
use Rattle.c_types.proofs.MarkLemmas.{held_known}
use Rattle.c_types.proofs.ShapeLaws.{settled}
use Rattle.src_tree.specs.declared.value.Value.{Value, Int, Null, Pointer, Function, Struct, Array, Union, out-Value}
use Rattle.src_tree.specs.declared.value.Value.TheVariants.{outs-Struct, outs-Array, outs-Union}
use Rattle.src_tree.specs.declared.value.Value.TheOpen as V
use Rattle.src_tree.specs.declared.value.Store.{Store}
use Rattle.src_tree.specs.declared.program.Function as Text
use Rattle.src_tree.specs.declared.program.Program.{Program}
use Rattle.src_tree.specs.Signatures.{same_numbers, same_result}
use Rattle.src_meaning.specs.Integers.{is_held}
use Rattle.src_meaning.specs.Paths.{Layer, zero_of}
use Rattle.src_meaning.specs.Store.{has_type, layer_has_type, fields_have_types, member_has_type, is_function}
use Rattle.src_meaning.proofs.LayoutLengths.{and_left, and_right, head_in, tail_in, field_in, has_type-is}
use Rattle.src_laws.proofs.Induction.{type-induction}
use Rattle.src_laws.proofs.ZeroValues.{zero_typed}
use Rattle.lu_image.specs.declared.handler.Handler.{Handler}
use Rattle.lu_image.specs.declared.pairing.Pairing.{Pairing}
use Rattle.lu_image.specs.declared.refusal.Why.TheVariants as W
use Rattle.lu_image.specs.declared.refusal.Kept.TheVariants as K
use Rattle.lu_image.specs.Correspondence.{pair_in}
use Rattle.lu_image_store.specs.Versions.{Versions, old_types, new_types, new_type, old_type, field_pairs, member_pairs}
use Rattle.lu_image_store.specs.Faults.{Gives, refused, within, made}
use Rattle.lu_image_store.specs.Forms.{handler_of, old_fields, new_fields}
use Rattle.lu_image_store.specs.Pointers.{Context, exactly, anything}
use Rattle.lu_image_store.specs.Values
use Rattle.lu_image_store.specs.Carried
use Rattle.lu_image_store.proofs.Local.{image_of-is, carried_in-is}
use Rattle.lu_image_laws.specs.Between.{between}
use Rattle.lu_image_laws.proofs.Members.{Each, each_left, each_right, each_alone, get_map, and_in}
use Rattle.lu_image_laws.proofs.Pointed.{Lands, IsPointer, pointer_lands}

pub made_of : {A B : Type 0} (f : A → B) (r : Gives A) (b : B) → made f r ≡ Ok b → (a : A) × (r ≡ Ok a) × (f a ≡ b)
made_of f (Ok a) b e = (a, refl, cc)
made_of f (Err x) b e = absurd (cc)

pub within_of : {A : Type 0} (s : Step) (r : Gives A) (a : A) → within s r ≡ Ok a → r ≡ Ok a
within_of s (Ok x) a e = e
within_of s (Err x) a e = absurd (cc)

out_int : (z : ℤ) → out-Value (Int z) ≡ V.Int z
unfolding out-Value denote.Hole.Carrier.out
out_int z = refl

out_null : out-Value Null ≡ V.Null
unfolding out-Value denote.Hole.Carrier.out
out_null = refl

out_pointer : (o k : ℕ) → out-Value (Pointer o k) ≡ V.Pointer o k
unfolding out-Value denote.Hole.Carrier.out
out_pointer o k = refl

out_function : (f : ℕ) → out-Value (Function f) ≡ V.Function f
unfolding out-Value denote.Hole.Carrier.out
out_function f = refl

-- fields with another of its type, and a field by its number
fields_with : (has : ℕ → Value → Bool) (fs : List FieldDef) (vs : List Value) (k : ℕ) (d : FieldDef) (w : Value) → fields_have_types has fs vs ≡ true → slice_get fs k ≡ Some d → has d.ty w ≡ true → fields_have_types has fs (slice_set vs k w) ≡ true
fields_with has [] vs k d w h e g = absurd (cc)
fields_with has (f ∷ fs) [] k d w h e g = absurd (cc)
fields_with has (f ∷ fs) (v ∷ vs) zero d w h e g =
    let is_f : f ≡ d = cc in
    and_in (has f.ty w) (fields_have_types has fs vs) (ap (λ (f : FieldDef). has f.ty w) is_f ∙ g) (and_right (has f.ty v) (fields_have_types has fs vs) h)
fields_with has (f ∷ fs) (v ∷ vs) (suc k) d w h e g =
    and_in (has f.ty v) (fields_have_types has fs (slice_set vs k w)) (and_left (has f.ty v) (fields_have_types has fs vs) h) (fields_with has fs vs k d w (and_right (has f.ty v) (fields_have_types has fs vs) h) e g)

field_typed : (has : ℕ → Value → Bool) (fs : List FieldDef) (vs : List Value) (k : ℕ) (d : FieldDef) (b : Value) → fields_have_types has fs vs ≡ true → slice_get fs k ≡ Some d → slice_get vs k ≡ Some b → has d.ty b ≡ true
field_typed has [] vs k d b h e is = absurd (cc)
field_typed has (f ∷ fs) [] k d b h e is = absurd (cc)
field_typed has (f ∷ fs) (v ∷ vs) zero d b h e is =
    let is_f : f ≡ d = cc in
    let is_v : v ≡ b = cc in
    ap (λ (d : FieldDef). has d.ty b) (sym is_f) ∙ (ap (has f.ty) (sym is_v) ∙ and_left (has f.ty v) (fields_have_types has fs vs) h)
field_typed has (f ∷ fs) (v ∷ vs) (suc k) d b h e is = field_typed has fs vs k d b (and_right (has f.ty v) (fields_have_types has fs vs) h) e is

module _ (old new : Program) (old_built : IsBuilt old.types) (new_built : IsBuilt new.types) (q : Pairing) (s next : Store) (number : ℕ → ℕ) where
  abbrev m : Versions
  m = between old new q

  abbrev c : Context
  c = record { versions = m; store = s; number = number }

  abbrev has : ℕ → Value → Bool
  has = has_type old s

  abbrev will_have : ℕ → Value → Bool
  will_have = has_type new next

  abbrev Good : ℕ → Type 0
  Good = Lands m s next number

  -- whether handlers count
  abbrev flag : Values.Setting → Bool
  flag Values.in_place = true
  flag Values.in_union = true
  flag Values.in_form = false

  abbrev Keeps : ℕ → Type 0
  Keeps t = (at : Values.Setting) (u : ℕ) (v base w : Value) → has t v ≡ true → will_have u base ≡ true → Each Good (Carried.carried_in m t (flag at) (new_type m u) v) → Values.image_of c t at u v base ≡ Ok w → will_have u w ≡ true

  whole : (u : ℕ) (ty : Ty) (x : Value) (l : Layer) → new_type m u ≡ Some ty → out-Value x ≡ l → layer_has_type new next will_have ty l ≡ true → will_have u x ≡ true
  whole u ty x l e out h = has_type-is new next new_built [] u ty e x ∙ (ap (layer_has_type new next will_have ty) out ∙ h)

  layer_of : (u : ℕ) (ty : Ty) (x : Value) → new_type m u ≡ Some ty → will_have u x ≡ true → layer_has_type new next will_have ty (out-Value x) ≡ true
  layer_of u ty x e h = sym (has_type-is new next new_built [] u ty e x) ∙ h

  -- integers
  int_keeps : (u : ℕ) (to : Option Ty) (l : Layer) (w : Value) → new_type m u ≡ to → Values.int_image to l ≡ Ok w → will_have u w ≡ true
  int_keeps u (Some (T.Int kind)) (V.Int z) w e h = by (is_held kind z) refl h
    where
      by : (b : Bool) → is_held kind z ≡ b → (if b then Ok (Int z) else refused W.Narrow (K.Int z)) ≡ Ok w → will_have u w ≡ true
      by false held h = absurd (cc)
      by true held h =
          let same : Int z ≡ w = cc in
          subst (λ w. will_have u w ≡ true) same (whole u (T.Int kind) (Int z) (V.Int z) e (out_int z) held)
  int_keeps u _ _ w e h = absurd (cc)

  -- pointers
  null_typed : (u t : ℕ) → (new_type m u ≡ Some (T.Pointer t)) ⊎ (new_type m u ≡ Some T.VoidPointer) → will_have u Null ≡ true
  null_typed u t (inl e) = whole u (T.Pointer t) Null V.Null e out_null refl
  null_typed u t (inr e) = whole u T.VoidPointer Null V.Null e out_null refl

  pointer_typed : (u t : ℕ) (w : Value) → (new_type m u ≡ Some (T.Pointer t)) ⊎ (new_type m u ≡ Some T.VoidPointer) → IsPointer new next w → will_have u w ≡ true
  pointer_typed u t w e (inl null) = subst (λ w. will_have u w ≡ true) (sym null) (null_typed u t e)
  pointer_typed u t w (inl e) (inr h) = subst (λ w. will_have u w ≡ true) (sym h.2) (whole u (T.Pointer t) (Pointer h.0 h.1) (V.Pointer h.0 h.1) e (out_pointer h.0 h.1) h.3)
  pointer_typed u t w (inr e) (inr h) = subst (λ w. will_have u w ≡ true) (sym h.2) (whole u T.VoidPointer (Pointer h.0 h.1) (V.Pointer h.0 h.1) e (out_pointer h.0 h.1) h.3)

  pointer_keeps : (u t : ℕ) (to : Option Ty) (l : Layer) (w : Value) → new_type m u ≡ to → layer_has_type old s has (T.Pointer t) l ≡ true → Each Good (Carried.in_pointer to l) → Values.typed_pointer_image c t to l ≡ Ok w → will_have u w ≡ true
  pointer_keeps u t (Some (T.Pointer to)) V.Null w e typed all h = let same : Null ≡ w = cc in subst (λ w. will_have u w ≡ true) same (null_typed u to (inl e))
  pointer_keeps u t (Some (T.Pointer to)) (V.Pointer o k) w e typed all h =
      pointer_typed u to w (inl e) (pointer_lands old new m refl new_built s next number (exactly t to) o k w typed (each_alone Good o all) h)
  pointer_keeps u t _ _ w e typed all h = absurd (cc)

  void_pointer_keeps : (u : ℕ) (to : Option Ty) (l : Layer) (w : Value) → new_type m u ≡ to → layer_has_type old s has T.VoidPointer l ≡ true → Each Good (Carried.in_pointer to l) → Values.void_pointer_image c to l ≡ Ok w → will_have u w ≡ true
  void_pointer_keeps u (Some T.VoidPointer) V.Null w e typed all h = let same : Null ≡ w = cc in subst (λ w. will_have u w ≡ true) same (null_typed u 0 (inr e))
  void_pointer_keeps u (Some T.VoidPointer) (V.Pointer o k) w e typed all h =
      pointer_typed u 0 w (inr e) (pointer_lands old new m refl new_built s next number anything o k w typed (each_alone Good o all) h)
  void_pointer_keeps u _ _ w e typed all h = absurd (cc)

  -- functions
  signed : (o : Option Text.Function) (g : Option Signature) → option_map_or (λ f. option_map_or (Values.same_signature f) g false) (option_map (λ (f : Text.Function). record { result = f.ret; params = f.params }) o) false ≡ true → option_map_or (λ d. option_map_or (Rattle.src_tree.specs.Signatures.has_signature d) g false) o false ≡ true
  signed None g h = absurd (cc)
  signed (Some f) None h = absurd (cc)
  signed (Some f) (Some g) h = h

  function_keeps : (u : ℕ) (to : Option Ty) (l : Layer) (w : Value) → new_type m u ≡ to → Values.function_image m to l ≡ Ok w → will_have u w ≡ true
  function_keeps u (Some (T.Function g)) l w e h = by_layer l h
    where
      null : Null ≡ w → will_have u w ≡ true
      null same = subst (λ w. will_have u w ≡ true) same (whole u (T.Function g) Null V.Null e out_null refl)

      by_test : (f j : ℕ) (b : Bool) → Values.has_signature m g j ≡ b → (if b then Ok (Function j) else refused W.LostFunction (K.Function f)) ≡ Ok w → will_have u w ≡ true
      by_test f j false is h = absurd (cc)
      by_test f j true is h =
          let same : Function j ≡ w = cc in
          let known : is_function new g j ≡ true = signed (slice_get new.functions j) (slice_get new.types.signatures g) (sym (ap (λ o. option_map_or (λ f. option_map_or (Values.same_signature f) (slice_get new.types.signatures g) false) o false) (get_map (λ (f : Text.Function). record { result = f.ret; params = f.params }) new.functions j)) ∙ is) in
          subst (λ w. will_have u w ≡ true) same (whole u (T.Function g) (Function j) (V.Function j) e (out_function j) known)

      by_pair : (f : ℕ) (o : Option ℕ) → Values.paired_function m g f o ≡ Ok w → will_have u w ≡ true
      by_pair f None h = absurd (cc)
      by_pair f (Some j) h = by_test f j (Values.has_signature m g j) refl h

      by_layer : (l : Layer) → Values.function_image m (Some (T.Function g)) l ≡ Ok w → will_have u w ≡ true
      by_layer (V.Function f) h = by_pair f (pair_in m.pairing.functions f) h
      by_layer (V.Int z) h = null cc
      by_layer V.Null h = null cc
      by_layer (V.Pointer o k) h = null cc
      by_layer (V.Struct vs) h = null cc
      by_layer (V.Array vs) h = null cc
      by_layer (V.Union k body) h = null cc
  function_keeps u _ l w e h = absurd (cc)

  -- fields
  field_keeps : (at : Values.Setting) (to : List FieldDef) (k : ℕ) (d : FieldDef) → Keeps d.ty → (j : Option ℕ) (v : Value) (done res : List Value) → has d.ty v ≡ true → fields_have_types will_have to done ≡ true → Each Good (Carried.in_pair m (Carried.carried_in m d.ty (flag at)) v (then_option j (slice_get to))) → Values.field_image (Values.image_of c d.ty at) to k j v done ≡ Ok res → fields_have_types will_have to res ≡ true
  field_keeps at to k d keeps None v done res typed based all h = let same : done ≡ res = cc in subst (λ done. fields_have_types will_have to done ≡ true) same based
  field_keeps at to k d keeps (Some j) v done res typed based all h = by (slice_get to j) (slice_get done j) refl refl all h
    where
      same_done : done ≡ res → fields_have_types will_have to res ≡ true
      same_done same = subst (λ done. fields_have_types will_have to done ≡ true) same based

      by : (g : Option FieldDef) (b : Option Value) → slice_get to j ≡ g → slice_get done j ≡ b → Each Good (Carried.in_pair m (Carried.carried_in m d.ty (flag at)) v g) → Values.put_field (Values.image_of c d.ty at) k j v g b done ≡ Ok res → fields_have_types will_have to res ≡ true
      by None b there base all h = same_done cc
      by (Some g) None there base all h = same_done cc
      by (Some g) (Some b) there base all h =
          let w = made_of (λ w. slice_set done j w) (within (Field k) (Values.image_of c d.ty at g.ty v b)) res h in
          let image = within_of (Field k) (Values.image_of c d.ty at g.ty v b) w.0 w.1 in
          let kept = keeps at g.ty v b w.0 typed (field_typed will_have to done j g b based there base) all image in
          subst (λ done. fields_have_types will_have to done ≡ true) w.2 (fields_with will_have to done j g w.0 based there kept)

  pub fields_keep : (at : Values.Setting) (to : List FieldDef) (k : ℕ) (fs : List FieldDef) → ((t : ℕ) → Contains (field_types fs) t → Keeps t) → (js : List (Option ℕ)) (vs done res : List Value) → fields_have_types has fs vs ≡ true → fields_have_types will_have to done ≡ true → Each Good (Carried.in_fields m (λ t. Carried.carried_in m t (flag at)) to fs js vs) → Values.fields_image (λ t. Values.image_of c t at) to k fs js vs done ≡ Ok res → fields_have_types will_have to res ≡ true
  fields_keep at to k [] below js vs done res typed based all h = let same : done ≡ res = cc in subst (λ done. fields_have_types will_have to done ≡ true) same based
  fields_keep at to k (d ∷ fs) below [] vs done res typed based all h = let same : done ≡ res = cc in subst (λ done. fields_have_types will_have to done ≡ true) same based
  fields_keep at to k (d ∷ fs) below (j ∷ js) [] done res typed based all h = absurd (cc)
  fields_keep at to k (d ∷ fs) below (j ∷ js) (v ∷ vs) done res typed based all h =
      let first = Carried.in_pair m (Carried.carried_in m d.ty (flag at)) v (then_option j (slice_get to)) in
      let rest = Carried.in_fields m (λ t. Carried.carried_in m t (flag at)) to fs js vs in
      let a = then_ok (Values.field_image (Values.image_of c d.ty at) to k j v done) (Values.fields_image (λ t. Values.image_of c t at) to (k + 1) fs js vs) res h in
      let one = field_keeps at to k d (below d.ty (head_in d fs)) j v done a.0 (and_left (has d.ty v) (fields_have_types has fs vs) typed) based (each_left Good first rest all) a.1 in
      fields_keep at to (k + 1) fs (λ t i. below t (tail_in d fs t i)) js vs a.0 res (and_right (has d.ty v) (fields_have_types has fs vs) typed) one (each_right Good first rest all) a.2

  -- structs
  fields_typed : (r : ℕ) (l : Layer) → layer_has_type new next will_have (T.Struct r) l ≡ true → fields_have_types will_have (new_fields m r) (Values.fields_in l) ≡ true
  fields_typed r (V.Struct vs) h = h
  fields_typed r _ h = absurd (cc)

  module _ (n : ℕ) (below : (t : ℕ) → Contains (field_types (old_fields m n)) t → Keeps t) where
    plain_keeps : (at : Values.Setting) (u r : ℕ) (vs : List Value) (base w : Value) → new_type m u ≡ Some (T.Struct r) → fields_have_types has (old_fields m n) vs ≡ true → will_have u base ≡ true → Each Good (Carried.in_fields m (λ t. Carried.carried_in m t (flag at)) (new_fields m r) (old_fields m n) (field_pairs m n) vs) → Values.plain_struct m (λ t. Values.image_of c t at) n r vs base ≡ Ok w → will_have u w ≡ true
    plain_keeps at u r vs base w e typed based all h =
        let parts = Values.fields_in (out-Value base) in
        let ws = made_of Struct (Values.fields_image (λ t. Values.image_of c t at) (new_fields m r) 0 (old_fields m n) (field_pairs m n) vs parts) w h in
        let under = fields_typed r (out-Value base) (layer_of u (T.Struct r) base e based) in
        let kept = fields_keep at (new_fields m r) 0 (old_fields m n) below (field_pairs m n) vs parts ws.0 typed under all ws.1 in
        subst (λ w. will_have u w ≡ true) ws.2 (whole u (T.Struct r) (Struct ws.0) (V.Struct ws.0) e (outs-Struct ws.0) kept)

    handled_keeps : (at : Values.Setting) (o : Option Handler) (u r : ℕ) (vs : List Value) (base w : Value) → new_type m u ≡ Some (T.Struct r) → fields_have_types has (old_fields m n) vs ≡ true → will_have u base ≡ true → Each Good (Carried.in_struct m (Carried.carried_in m) (flag at) o n r vs) → Values.handled_struct m (λ at t. Values.image_of c t at) at o n r vs base ≡ Ok w → will_have u w ≡ true
    handled_keeps Values.in_place None u r vs base w e typed based all h = plain_keeps Values.in_place u r vs base w e typed based all h
    handled_keeps Values.in_place (Some d) u r vs base w e typed based all h =
        let same = made_of (λ form. base) (Values.form_image m (λ t. Values.image_of c t Values.in_form) n d.form vs) w h in
        subst (λ w. will_have u w ≡ true) same.2 based
    handled_keeps Values.in_union None u r vs base w e typed based all h = plain_keeps Values.in_union u r vs base w e typed based all h
    handled_keeps Values.in_union (Some d) u r vs base w e typed based all h = absurd (cc)
    handled_keeps Values.in_form None u r vs base w e typed based all h = plain_keeps Values.in_form u r vs base w e typed based all h
    handled_keeps Values.in_form (Some d) u r vs base w e typed based all h = plain_keeps Values.in_form u r vs base w e typed based all h

    struct_keeps : (at : Values.Setting) (u : ℕ) (to : Option Ty) (l : Layer) (base w : Value) → new_type m u ≡ to → Values.corresponds_here m (T.Struct n) to ≡ true → layer_has_type old s has (T.Struct n) l ≡ true → will_have u base ≡ true → Each Good (Carried.in_struct_type m (Carried.carried_in m) (flag at) n to l) → Values.struct_image m (λ at t. Values.image_of c t at) at n to l base ≡ Ok w → will_have u w ≡ true
    struct_keeps at u (Some (T.Struct r)) (V.Struct vs) base w e paired typed based all h =
        handled_keeps at (handler_of m n) u r vs base w e typed based (subst (λ b. Each Good (if b then Carried.in_struct m (Carried.carried_in m) (flag at) (handler_of m n) n r vs else [])) paired all) h
    struct_keeps at u _ _ base w e paired typed based all h = absurd (cc)

  -- unions
  flag_inside : (at : Values.Setting) → flag (Values.inside_union at) ≡ flag at
  flag_inside Values.in_place = refl
  flag_inside Values.in_union = refl
  flag_inside Values.in_form = refl

  module _ (n : ℕ) (below : (t : ℕ) → Contains (field_types (members_of old.types n)) t → Keeps t) where
    member_keeps : (at : Values.Setting) (u r k : ℕ) (body w : Value) (f : Option FieldDef) → slice_get (members_of old.types n) k ≡ f → new_type m u ≡ Some (T.Union r) → member_has_type has f body ≡ true → Each Good (option_map_or (λ f. Carried.in_pair m (Carried.carried_in m f.ty (flag at)) body (then_option (pair_in (member_pairs m n) k) (slice_get (members_of (new_types m) r)))) f []) → Values.active_member m (λ t. Values.image_of c t (Values.inside_union at)) n r k body f ≡ Ok w → will_have u w ≡ true
    member_keeps at u r k body w None q e typed all h = absurd (cc)
    member_keeps at u r k body w (Some f) q e typed all h = by (pair_in (member_pairs m n) k) all h
      where
        into : (j : ℕ) (g : Option FieldDef) → slice_get (members_of new.types r) j ≡ g → Each Good (Carried.in_pair m (Carried.carried_in m f.ty (flag at)) body g) → Values.put_member m (Values.image_of c f.ty (Values.inside_union at)) k j body g ≡ Ok w → will_have u w ≡ true
        into j None there all h = absurd (cc)
        into j (Some g) there all h =
            let b = made_of (Union j) (within (Member k) (Values.image_of c f.ty (Values.inside_union at) g.ty body (zero_of new.types g.ty))) w h in
            let image = within_of (Member k) (Values.image_of c f.ty (Values.inside_union at) g.ty body (zero_of new.types g.ty)) b.0 b.1 in
            let held : Contains (held_in new.types (slice_get new.types.types u)) g.ty = subst (λ o. Contains (held_in new.types o) g.ty) (sym e) (field_in (members_of new.types r) j g there) in
            let known = held_known new.types new_built.numbered u g.ty held in
            let all_inside = subst (λ b. Each Good (Carried.carried_in m f.ty b (new_type m g.ty) body)) (sym (flag_inside at)) all in
            let kept = below f.ty (field_in (members_of old.types n) k f q) (Values.inside_union at) g.ty body (zero_of new.types g.ty) b.0 typed (zero_typed new new_built next g.ty known) all_inside image in
            let typed_there : member_has_type will_have (slice_get (members_of new.types r) j) b.0 ≡ true = ap (λ g. member_has_type will_have g b.0) there ∙ kept in
            subst (λ w. will_have u w ≡ true) b.2 (whole u (T.Union r) (Union j b.0) (V.Union j b.0) e (outs-Union j b.0) typed_there)

        by : (j : Option ℕ) → Each Good (Carried.in_pair m (Carried.carried_in m f.ty (flag at)) body (then_option j (slice_get (members_of (new_types m) r)))) → Values.member_image m (Values.image_of c f.ty (Values.inside_union at)) r k body j ≡ Ok w → will_have u w ≡ true
        by None all h = absurd (cc)
        by (Some j) all h = into j (slice_get (members_of new.types r) j) refl all h

    union_keeps : (at : Values.Setting) (u : ℕ) (to : Option Ty) (l : Layer) (w : Value) → new_type m u ≡ to → Values.corresponds_here m (T.Union n) to ≡ true → layer_has_type old s has (T.Union n) l ≡ true → Each Good (Carried.in_union_type m (λ t. Carried.carried_in m t (flag at)) n to l) → Values.union_image m (λ t. Values.image_of c t (Values.inside_union at)) n to l ≡ Ok w → will_have u w ≡ true
    union_keeps at u (Some (T.Union r)) (V.Union k body) w e paired typed all h =
        member_keeps at u r k body w (slice_get (members_of old.types n) k) refl e typed (subst (λ b. Each Good (if b then Carried.in_union m (λ t. Carried.carried_in m t (flag at)) n r k body else [])) paired all) h
    union_keeps at u _ _ w e paired typed all h = absurd (cc)

  -- elements
  cut_ends : (item : Value → Value → Gives Value) (zeroed : Value → Bool) (i : ℕ) (vs ws : List Value) → Values.items_image item zeroed i vs [] ≡ Ok ws → ws ≡ []
  cut_ends item zeroed i [] ws h = let same : Ok [] ≡ Ok ws = h in cc
  cut_ends item zeroed i (v ∷ vs) ws h = by (zeroed v) h (λ rest. cut_ends item zeroed (i + 1) vs ws rest)
    where
      by : (b : Bool) → (if b then Values.items_image item zeroed (i + 1) vs [] else within (Index i) (refused W.ArrayCut K.Nothing)) ≡ Ok ws → (Values.items_image item zeroed (i + 1) vs [] ≡ Ok ws → ws ≡ []) → ws ≡ []
      by true h below = below h
      by false h below = absurd (cc)

  abbrev pub AreOf : ℕ → List Value → List Value → Type 0
  AreOf x bs ws = (length ws ≡ length bs) × (list_all (will_have x) ws ≡ true)

  pub items_keep : (at : Values.Setting) (t x : ℕ) → Keeps t → (zeroed : Value → Bool) (i : ℕ) (vs bs ws : List Value) → list_all (has t) vs ≡ true → list_all (will_have x) bs ≡ true → Each Good (flat_map (Carried.carried_in m t (flag at) (new_type m x)) (take (length bs) vs)) → Values.items_image (Values.image_of c t at x) zeroed i vs bs ≡ Ok ws → AreOf x bs ws
  items_keep at t x keeps zeroed i [] bs ws typed based all h =
      let same : bs ≡ ws = cc in (ap length (sym same), subst (λ ws. list_all (will_have x) ws ≡ true) same based)
  items_keep at t x keeps zeroed i (v ∷ vs) [] ws typed based all h =
      let none = cut_ends (Values.image_of c t at x) zeroed i (v ∷ vs) ws h in
      (ap length none, ap (list_all (will_have x)) none)
  items_keep at t x keeps zeroed i (v ∷ vs) (b ∷ bs) ws typed based all h =
      let rest = Values.items_image (Values.image_of c t at x) zeroed (i + 1) vs bs in
      let one = then_ok (within (Index i) (Values.image_of c t at x v b)) (λ w. made (λ ws. w ∷ ws) rest) ws h in
      let image = within_of (Index i) (Values.image_of c t at x v b) one.0 one.1 in
      let more = made_of (λ ws. one.0 ∷ ws) rest ws one.2 in
      let first = Carried.carried_in m t (flag at) (new_type m x) v in
      let others = flat_map (Carried.carried_in m t (flag at) (new_type m x)) (take (length bs) vs) in
      let kept = keeps at x v b one.0 (and_left (has t v) (list_all (has t) vs) typed) (and_left (will_have x b) (list_all (will_have x) bs) based) (each_left Good first others all) image in
      let below = items_keep at t x keeps zeroed (i + 1) vs bs more.0 (and_right (has t v) (list_all (has t) vs) typed) (and_right (will_have x b) (list_all (will_have x) bs) based) (each_right Good first others all) more.1 in
      (ap length (sym more.2) ∙ ap suc below.0, subst (λ ws. list_all (will_have x) ws ≡ true) more.2 (and_in (will_have x one.0) (list_all (will_have x) more.0) kept below.1))

  items_typed : (x l : ℕ) (b : Layer) → layer_has_type new next will_have (T.Array x l) b ≡ true → (length (Values.items_in b) ≡ l) × (list_all (will_have x) (Values.items_in b) ≡ true)
  items_typed x l (V.Array bs) h =
      let count = and_left (nat_eq (length bs) l) (list_all (will_have x) bs) h in
      (grind (arith, nat_tests, count), and_right (nat_eq (length bs) l) (list_all (will_have x) bs) h)
  items_typed x l _ h = absurd (cc)

  array_keeps : (t n : ℕ) → Keeps t → (at : Values.Setting) (u : ℕ) (to : Option Ty) (l : Layer) (base w : Value) → new_type m u ≡ to → layer_has_type old s has (T.Array t n) l ≡ true → will_have u base ≡ true → Each Good (Carried.in_array_type m (Carried.carried_in m t (flag at)) to l) → Values.array_image m (Values.image_of c t at) t to l base ≡ Ok w → will_have u w ≡ true
  array_keeps t n keeps at u (Some (T.Array x l)) (V.Array vs) base w e typed based all h =
      let bs = Values.items_in (out-Value base) in
      let under = items_typed x l (out-Value base) (layer_of u (T.Array x l) base e based) in
      let ws = made_of Array (Values.elements_image m (Values.image_of c t at) t x vs bs) w h in
      let all_below = subst (λ l. Each Good (flat_map (Carried.carried_in m t (flag at) (new_type m x)) (take l vs))) (sym under.0) all in
      let kept = items_keep at t x keeps (Values.is_zero_value (old_types m) t) 0 vs bs ws.0 (and_right (nat_eq (length vs) n) (list_all (has t) vs) typed) under.1 all_below ws.1 in
      let long : length ws.0 ≡ l = kept.0 ∙ under.0 in
      let test : nat_eq (length ws.0) l ≡ true = grind (arith, nat_tests, long) in
      subst (λ w. will_have u w ≡ true) ws.2 (whole u (T.Array x l) (Array ws.0) (V.Array ws.0) e (outs-Array ws.0) (and_in (nat_eq (length ws.0) l) (list_all (will_have x) ws.0) test kept.1))
  array_keeps t n keeps at u _ _ base w e typed based all h = absurd (cc)

  -- each kind of type
  layer_keeps : (ty : Ty) → ((t : ℕ) → Contains (held_in old.types (Some ty)) t → Keeps t) → (at : Values.Setting) (u : ℕ) (to : Option Ty) (l : Layer) (base w : Value) → new_type m u ≡ to → Values.corresponds_here m ty to ≡ true → layer_has_type old s has ty l ≡ true → will_have u base ≡ true → Each Good (Carried.carried_step m (Carried.carried_in m) ty (flag at) to l) → Values.layer_image c (Values.image_of c) ty at to l base ≡ Ok w → will_have u w ≡ true
  layer_keeps (T.Int kind) below at u to l base w e paired typed based all h = int_keeps u to l w e h
  layer_keeps (T.Pointer t) below at u to l base w e paired typed based all h = pointer_keeps u t to l w e typed all h
  layer_keeps T.VoidPointer below at u to l base w e paired typed based all h = void_pointer_keeps u to l w e typed all h
  layer_keeps (T.Function g) below at u to l base w e paired typed based all h = function_keeps u to l w e h
  layer_keeps (T.Struct n) below at u to l base w e paired typed based all h = struct_keeps n below at u to l base w e paired typed based all h
  layer_keeps (T.Union n) below at u to l base w e paired typed based all h = union_keeps n below at u to l w e paired typed all h
  layer_keeps (T.Array t n) below at u to l base w e paired typed based all h = array_keeps t n (below t (0, omega arith, refl)) at u to l base w e typed based all h

  -- an image is that of its type's kind
  pub image_at : (t : ℕ) (ty : Ty) → old_type m t ≡ Some ty → (at : Values.Setting) (u : ℕ) (v base w : Value) → Values.image_of c t at u v base ≡ Ok w → (Values.corresponds_here m ty (new_type m u) ≡ true) × (Values.layer_image c (Values.image_of c) ty at (new_type m u) (out-Value v) base ≡ Ok w)
  image_at t ty e at u v base w h =
      let known : t < length old.types.types = slice_get_within old.types.types t ty e in
      let is = image_of-is c t (settled old.types old_built t known) ∙ ap (at_type (Values.image_step c (Values.image_of c)) Values.no_image) e in
      by (Values.corresponds_here m ty (new_type m u)) refl (sym (ap (λ (f : Values.Image). f at u v base) is) ∙ h)
    where
      by : (b : Bool) → Values.corresponds_here m ty (new_type m u) ≡ b → (if b then Values.layer_image c (Values.image_of c) ty at (new_type m u) (out-Value v) base else refused W.Shape K.Nothing) ≡ Ok w → (Values.corresponds_here m ty (new_type m u) ≡ true) × (Values.layer_image c (Values.image_of c) ty at (new_type m u) (out-Value v) base ≡ Ok w)
      by true q h = (q, h)
      by false q h = absurd (cc)

  pub carried_at : (t : ℕ) (ty : Ty) → old_type m t ≡ Some ty → (handled : Bool) (to : Option Ty) (v : Value) → Carried.carried_in m t handled to v ≡ Carried.carried_step m (Carried.carried_in m) ty handled to (out-Value v)
  carried_at t ty e handled to v =
      let known : t < length old.types.types = slice_get_within old.types.types t ty e in
      ap (λ (f : Carried.Carried). f handled to v) (carried_in-is m t (settled old.types old_built t known)) ∙ ap (λ o. at_type {A = Carried.Carried} (λ ty handled to v. Carried.carried_step m (Carried.carried_in m) ty handled to (out-Value v)) (λ handled to v. []) o handled to v) e

  -- a value's image is of the new type
  pub keeps : (t : ℕ) → t < length old.types.types → Keeps t
  keeps = type-induction old.types old_built Keeps (λ t ty e below at u v base w typed based all h.
      let image = image_at t ty e at u v base w h in
      layer_keeps ty below at u (new_type m u) (out-Value v) base w refl image.0 (sym (has_type-is old s old_built [] t ty e v) ∙ typed) based (subst (Each Good) (carried_at t ty e (flag at) (new_type m u) v) all) image.1)
