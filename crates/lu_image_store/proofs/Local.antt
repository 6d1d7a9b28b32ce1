-- The image of a value, what it carries and its handled places ask only of the types that a type holds by value. So each is
-- its recursion on the types of a table in which none holds itself.
use Rattle.std.proofs.Common.{◌≡◌, refl, ap, ℕ, zero, suc, ◌+◌, Bool, true, false, if◌then◌else◌, List, [], ◌∷◌, ◌++◌, length, Option, Some, None, slice_get, arith}
use Rattle.std.specs.Prelude.{Contains}
use Rattle.std.specs.Option.{option_map_or}
use Rattle.lu_spec.specs.Then.{then_option, then_do}
use Rattle.c_types.specs.declared.parts.FieldDef.{FieldDef}
use Rattle.c_types.specs.declared.parts.Ty.{Ty}
use Rattle.c_types.specs.declared.parts.Ty.TheVariants as T
use Rattle.c_types.specs.declared.path.Step.{Step}
use Rattle.c_types.specs.declared.path.Step.TheVariants.{Field, Member}
use Rattle.c_types.specs.Chain.{field_types, held_in, held_by, is_settled}
use Rattle.c_types.specs.Tables.{members_of}
use Rattle.c_types.specs.Recursion.{at_type, IsLocal}
use Rattle.c_types.proofs.Settled.{by_type-is}
use Rattle.src_tree.specs.declared.value.Value.{Value, Struct, out-Value}
use Rattle.src_tree.specs.declared.value.Value.TheOpen as V
use Rattle.src_meaning.specs.Paths.{Layer}
use Rattle.lu_image.specs.declared.handler.Handler.{Handler}
use Rattle.lu_image.specs.declared.refusal.Why.TheVariants as W
use Rattle.lu_image.specs.declared.refusal.Kept.TheVariants as K
use Rattle.lu_image.specs.Correspondence.{pair_in}
use Rattle.lu_image_store.specs.Versions.{Versions, old_types, new_types, old_type, new_type, structs_pair, unions_pair, field_pairs, member_pairs}
use Rattle.lu_image_store.specs.Faults.{made, refused}
use Rattle.lu_image_store.specs.Forms.{handler_of, old_fields, new_fields, form_pairs, zero_fields}
use Rattle.lu_image_store.specs.Pointers.{Context}
use Rattle.lu_image_store.specs.Values
use Rattle.lu_image_store.specs.Carried
use Rattle.lu_image_store.specs.Places

pub head_in : (d : FieldDef) (fs : List FieldDef) → Contains (field_types (d ∷ fs)) d.ty
head_in d fs = (0, omega arith, refl)

pub tail_in : (d : FieldDef) (fs : List FieldDef) (u : ℕ) → Contains (field_types fs) u → Contains (field_types (d ∷ fs)) u
tail_in d fs u c = (suc c.0, omega (arith, c.1), c.2)

pub field_in : (fields : List FieldDef) (k : ℕ) (f : FieldDef) → slice_get fields k ≡ Some f → Contains (field_types fields) f.ty
field_in [] k f e = cc
field_in (d ∷ fs) zero f e = let q : d ≡ f = cc in (0, omega arith, ap (λ d. d.ty) q)
field_in (d ∷ fs) (suc k) f e = let i = field_in fs k f e in (suc i.0, omega (arith, i.1), i.2)

-- two recursions that agree on the types that are held
module _ (f g : ℕ → Values.Image) where
  fields_image-local : (at : Values.Setting) (to : List FieldDef) (k : ℕ) (fs : List FieldDef) → ((u : ℕ) → Contains (field_types fs) u → f u ≡ g u) → (js : List (Option ℕ)) (vs done : List Value) → Values.fields_image (λ t. f t at) to k fs js vs done ≡ Values.fields_image (λ t. g t at) to k fs js vs done
  fields_image-local at to k [] same js vs done = refl
  fields_image-local at to k (d ∷ fs) same [] vs done = refl
  fields_image-local at to k (d ∷ fs) same (j ∷ js) [] done = refl
  fields_image-local at to k (d ∷ fs) same (j ∷ js) (v ∷ vs) done =
      let head : f d.ty ≡ g d.ty = same d.ty (head_in d fs) in
      λ i. then_do (Values.field_image (head i at) to k j v done) (λ next. fields_image-local at to (k + 1) fs (λ u c. same u (tail_in d fs u c)) js vs next i)

  module _ (m : Versions) (s : ℕ) (same : (u : ℕ) → Contains (field_types (old_fields m s)) u → f u ≡ g u) where
    form_image-local : (at : Values.Setting) (form : ℕ) (vs : List Value) → Values.form_image m (λ t. f t at) s form vs ≡ Values.form_image m (λ t. g t at) s form vs
    form_image-local at form vs = fields_image-local at (new_fields m form) 0 (old_fields m s) same (form_pairs m s form) vs (zero_fields m form)

    plain_struct-local : (at : Values.Setting) (r : ℕ) (vs : List Value) (base : Value) → Values.plain_struct m (λ t. f t at) s r vs base ≡ Values.plain_struct m (λ t. g t at) s r vs base
    plain_struct-local at r vs base = ap (made Struct) (fields_image-local at (new_fields m r) 0 (old_fields m s) same (field_pairs m s) vs (Values.fields_in (out-Value base)))

    handled_struct-local : (at : Values.Setting) (h : Option Handler) (r : ℕ) (vs : List Value) (base : Value) → Values.handled_struct m (λ at t. f t at) at h s r vs base ≡ Values.handled_struct m (λ at t. g t at) at h s r vs base
    handled_struct-local Values.in_place None r vs base = plain_struct-local Values.in_place r vs base
    handled_struct-local Values.in_place (Some h) r vs base = ap (made (λ form. base)) (form_image-local Values.in_form h.form vs)
    handled_struct-local Values.in_union None r vs base = plain_struct-local Values.in_union r vs base
    handled_struct-local Values.in_union (Some h) r vs base = refl
    handled_struct-local Values.in_form None r vs base = plain_struct-local Values.in_form r vs base
    handled_struct-local Values.in_form (Some h) r vs base = plain_struct-local Values.in_form r vs base

    struct_image-local : (at : Values.Setting) (new : Option Ty) (l : Layer) (base : Value) → Values.struct_image m (λ at t. f t at) at s new l base ≡ Values.struct_image m (λ at t. g t at) at s new l base
    struct_image-local at None l base = refl
    struct_image-local at (Some (T.Struct r)) (V.Struct vs) base = handled_struct-local at (handler_of m s) r vs base
    struct_image-local at (Some (T.Struct r)) (V.Int z) base = refl
    struct_image-local at (Some (T.Struct r)) V.Null base = refl
    struct_image-local at (Some (T.Struct r)) (V.Pointer o k) base = refl
    struct_image-local at (Some (T.Struct r)) (V.Function h) base = refl
    struct_image-local at (Some (T.Struct r)) (V.Array vs) base = refl
    struct_image-local at (Some (T.Struct r)) (V.Union k body) base = refl
    struct_image-local at (Some (T.Int kind)) l base = refl
    struct_image-local at (Some (T.Pointer t)) l base = refl
    struct_image-local at (Some T.VoidPointer) l base = refl
    struct_image-local at (Some (T.Function h)) l base = refl
    struct_image-local at (Some (T.Union u)) l base = refl
    struct_image-local at (Some (T.Array t n)) l base = refl

  module _ (m : Versions) (s : ℕ) (same : (u : ℕ) → Contains (field_types (members_of (old_types m) s)) u → f u ≡ g u) where
    active_member-local : (at : Values.Setting) (r k : ℕ) (body : Value) (o : Option FieldDef) → slice_get (members_of (old_types m) s) k ≡ o → Values.active_member m (λ t. f t at) s r k body o ≡ Values.active_member m (λ t. g t at) s r k body o
    active_member-local at r k body None e = refl
    active_member-local at r k body (Some d) e =
        ap (λ h. Values.member_image m (h at) r k body (pair_in (member_pairs m s) k)) (same d.ty (field_in (members_of (old_types m) s) k d e))

    union_image-local : (at : Values.Setting) (new : Option Ty) (l : Layer) → Values.union_image m (λ t. f t at) s new l ≡ Values.union_image m (λ t. g t at) s new l
    union_image-local at None l = refl
    union_image-local at (Some (T.Union r)) (V.Union k body) = active_member-local at r k body (slice_get (members_of (old_types m) s) k) refl
    union_image-local at (Some (T.Union r)) (V.Int z) = refl
    union_image-local at (Some (T.Union r)) V.Null = refl
    union_image-local at (Some (T.Union r)) (V.Pointer o k) = refl
    union_image-local at (Some (T.Union r)) (V.Function h) = refl
    union_image-local at (Some (T.Union r)) (V.Array vs) = refl
    union_image-local at (Some (T.Union r)) (V.Struct vs) = refl
    union_image-local at (Some (T.Int kind)) l = refl
    union_image-local at (Some (T.Pointer t)) l = refl
    union_image-local at (Some T.VoidPointer) l = refl
    union_image-local at (Some (T.Function h)) l = refl
    union_image-local at (Some (T.Struct u)) l = refl
    union_image-local at (Some (T.Array t n)) l = refl

module _ (c : Context) where
  layer_image-local : (f g : ℕ → Values.Image) (ty : Ty) → ((u : ℕ) → Contains (held_in (old_types c.versions) (Some ty)) u → f u ≡ g u) → (at : Values.Setting) (new : Option Ty) (l : Layer) (base : Value) → Values.layer_image c f ty at new l base ≡ Values.layer_image c g ty at new l base
  layer_image-local f g (T.Int kind) same at new l base = refl
  layer_image-local f g (T.Pointer t) same at new l base = refl
  layer_image-local f g T.VoidPointer same at new l base = refl
  layer_image-local f g (T.Function h) same at new l base = refl
  layer_image-local f g (T.Struct s) same at new l base = struct_image-local f g c.versions s same at new l base
  layer_image-local f g (T.Union s) same at new l base = union_image-local f g c.versions s same (Values.inside_union at) new l
  layer_image-local f g (T.Array t n) same at new l base =
      ap (λ h. Values.array_image c.versions (h at) t new l base) (same t (0, omega arith, refl))

  image_step-local : IsLocal (old_types c.versions) (Values.image_step c)
  image_step-local f g ty same = λ i at u v base. if Values.corresponds_here c.versions ty (new_type c.versions u) then layer_image-local f g ty same at (new_type c.versions u) (out-Value v) base i else refused W.Shape K.Nothing

  -- the equation of an image
  pub image_of-is : (t : ℕ) → is_settled (held_by (old_types c.versions)) (length (old_types c.versions).types) t ≡ true → Values.image_of c t ≡ at_type (Values.image_step c (Values.image_of c)) Values.no_image (old_type c.versions t)
  image_of-is t h = by_type-is (old_types c.versions) (Values.image_step c) Values.no_image image_step-local t h

-- what is carried
module _ (m : Versions) (f g : ℕ → Carried.Carried) where
  carried_fields-local : (handled : Bool) (to fs : List FieldDef) → ((u : ℕ) → Contains (field_types fs) u → f u ≡ g u) → (js : List (Option ℕ)) (vs : List Value) → Carried.in_fields m (λ t. f t handled) to fs js vs ≡ Carried.in_fields m (λ t. g t handled) to fs js vs
  carried_fields-local handled to [] same js vs = refl
  carried_fields-local handled to (d ∷ fs) same [] vs = refl
  carried_fields-local handled to (d ∷ fs) same (j ∷ js) [] = refl
  carried_fields-local handled to (d ∷ fs) same (j ∷ js) (v ∷ vs) =
      let head : f d.ty ≡ g d.ty = same d.ty (head_in d fs) in
      λ i. Carried.in_pair m (head i handled) v (then_option j (slice_get to)) ++ carried_fields-local handled to fs (λ u c. same u (tail_in d fs u c)) js vs i

  module _ (s : ℕ) (same : (u : ℕ) → Contains (field_types (old_fields m s)) u → f u ≡ g u) where
    carried_struct-local : (handled : Bool) (h : Option Handler) (r : ℕ) (vs : List Value) → Carried.in_struct m f handled h s r vs ≡ Carried.in_struct m g handled h s r vs
    carried_struct-local true (Some h) r vs = carried_fields-local false (new_fields m h.form) (old_fields m s) same (form_pairs m s h.form) vs
    carried_struct-local true None r vs = carried_fields-local true (new_fields m r) (old_fields m s) same (field_pairs m s) vs
    carried_struct-local false (Some h) r vs = carried_fields-local false (new_fields m r) (old_fields m s) same (field_pairs m s) vs
    carried_struct-local false None r vs = carried_fields-local false (new_fields m r) (old_fields m s) same (field_pairs m s) vs

    carried_struct_type-local : (handled : Bool) (new : Option Ty) (l : Layer) → Carried.in_struct_type m f handled s new l ≡ Carried.in_struct_type m g handled s new l
    carried_struct_type-local handled None l = refl
    carried_struct_type-local handled (Some (T.Struct r)) (V.Struct vs) =
        ap (λ found. if structs_pair m s r then found else []) (carried_struct-local handled (handler_of m s) r vs)
    carried_struct_type-local handled (Some (T.Struct r)) (V.Int z) = refl
    carried_struct_type-local handled (Some (T.Struct r)) V.Null = refl
    carried_struct_type-local handled (Some (T.Struct r)) (V.Pointer o k) = refl
    carried_struct_type-local handled (Some (T.Struct r)) (V.Function h) = refl
    carried_struct_type-local handled (Some (T.Struct r)) (V.Array vs) = refl
    carried_struct_type-local handled (Some (T.Struct r)) (V.Union k body) = refl
    carried_struct_type-local handled (Some (T.Int kind)) l = refl
    carried_struct_type-local handled (Some (T.Pointer t)) l = refl
    carried_struct_type-local handled (Some T.VoidPointer) l = refl
    carried_struct_type-local handled (Some (T.Function h)) l = refl
    carried_struct_type-local handled (Some (T.Union u)) l = refl
    carried_struct_type-local handled (Some (T.Array t n)) l = refl

  module _ (s : ℕ) (same : (u : ℕ) → Contains (field_types (members_of (old_types m) s)) u → f u ≡ g u) where
    carried_member-local : (handled : Bool) (j : Option FieldDef) (body : Value) (o : Option FieldDef) → (k : ℕ) → slice_get (members_of (old_types m) s) k ≡ o → option_map_or (λ d. Carried.in_pair m (f d.ty handled) body j) o [] ≡ option_map_or (λ d. Carried.in_pair m (g d.ty handled) body j) o []
    carried_member-local handled j body None k e = refl
    carried_member-local handled j body (Some d) k e = ap (λ h. Carried.in_pair m (h handled) body j) (same d.ty (field_in (members_of (old_types m) s) k d e))

    carried_union_type-local : (handled : Bool) (new : Option Ty) (l : Layer) → Carried.in_union_type m (λ t. f t handled) s new l ≡ Carried.in_union_type m (λ t. g t handled) s new l
    carried_union_type-local handled None l = refl
    carried_union_type-local handled (Some (T.Union r)) (V.Union k body) =
        ap (λ found. if unions_pair m s r then found else []) (carried_member-local handled (then_option (pair_in (member_pairs m s) k) (slice_get (members_of (new_types m) r))) body (slice_get (members_of (old_types m) s) k) k refl)
    carried_union_type-local handled (Some (T.Union r)) (V.Int z) = refl
    carried_union_type-local handled (Some (T.Union r)) V.Null = refl
    carried_union_type-local handled (Some (T.Union r)) (V.Pointer o k) = refl
    carried_union_type-local handled (Some (T.Union r)) (V.Function h) = refl
    carried_union_type-local handled (Some (T.Union r)) (V.Array vs) = refl
    carried_union_type-local handled (Some (T.Union r)) (V.Struct vs) = refl
    carried_union_type-local handled (Some (T.Int kind)) l = refl
    carried_union_type-local handled (Some (T.Pointer t)) l = refl
    carried_union_type-local handled (Some T.VoidPointer) l = refl
    carried_union_type-local handled (Some (T.Function h)) l = refl
    carried_union_type-local handled (Some (T.Struct u)) l = refl
    carried_union_type-local handled (Some (T.Array t n)) l = refl

  carried_step-local : (ty : Ty) → ((u : ℕ) → Contains (held_in (old_types m) (Some ty)) u → f u ≡ g u) → (handled : Bool) (new : Option Ty) (l : Layer) → Carried.carried_step m f ty handled new l ≡ Carried.carried_step m g ty handled new l
  carried_step-local (T.Int kind) same handled new l = refl
  carried_step-local (T.Pointer t) same handled new l = refl
  carried_step-local T.VoidPointer same handled new l = refl
  carried_step-local (T.Function h) same handled new l = refl
  carried_step-local (T.Struct s) same handled new l = carried_struct_type-local s same handled new l
  carried_step-local (T.Union s) same handled new l = carried_union_type-local s same handled new l
  carried_step-local (T.Array t n) same handled new l = ap (λ h. Carried.in_array_type m (h handled) new l) (same t (0, omega arith, refl))

module _ (m : Versions) where
  abbrev carried_layer : (ℕ → Carried.Carried) → Ty → Carried.Carried
  carried_layer rec ty handled new v = Carried.carried_step m rec ty handled new (out-Value v)

  abbrev none_carried : Carried.Carried
  none_carried handled new v = []

  carried_layer-local : IsLocal (old_types m) carried_layer
  carried_layer-local f g ty same = λ i handled new v. carried_step-local m f g ty same handled new (out-Value v) i

  -- the equation of what is carried
  pub carried_in-is : (t : ℕ) → is_settled (held_by (old_types m)) (length (old_types m).types) t ≡ true → Carried.carried_in m t ≡ at_type (carried_layer (Carried.carried_in m)) none_carried (old_type m t)
  carried_in-is t h = by_type-is (old_types m) carried_layer none_carried carried_layer-local t h

-- handled places
module _ (m : Versions) (f g : ℕ → Places.Handled) where
  places_fields-local : (to : List FieldDef) (k : ℕ) (fs : List FieldDef) → ((u : ℕ) → Contains (field_types fs) u → f u ≡ g u) → (js : List (Option ℕ)) (vs : List Value) → Places.in_fields m f to k fs js vs ≡ Places.in_fields m g to k fs js vs
  places_fields-local to k [] same js vs = refl
  places_fields-local to k (d ∷ fs) same [] vs = refl
  places_fields-local to k (d ∷ fs) same (j ∷ js) [] = refl
  places_fields-local to k (d ∷ fs) same (j ∷ js) (v ∷ vs) =
      let head : f d.ty ≡ g d.ty = same d.ty (head_in d fs) in
      λ i. Places.below (Field k) (Places.in_pair m (head i) v (then_option j (slice_get to))) ++ places_fields-local to (k + 1) fs (λ u c. same u (tail_in d fs u c)) js vs i

  module _ (s : ℕ) (same : (u : ℕ) → Contains (field_types (old_fields m s)) u → f u ≡ g u) where
    places_struct-local : (h : Option Handler) (r : ℕ) (vs : List Value) → Places.in_struct m f h s r vs ≡ Places.in_struct m g h s r vs
    places_struct-local (Some h) r vs = refl
    places_struct-local None r vs = places_fields-local (new_fields m r) 0 (old_fields m s) same (field_pairs m s) vs

    places_struct_type-local : (new : Option Ty) (l : Layer) → Places.in_struct_type m f s new l ≡ Places.in_struct_type m g s new l
    places_struct_type-local None l = refl
    places_struct_type-local (Some (T.Struct r)) (V.Struct vs) =
        ap (λ found. if structs_pair m s r then found else []) (places_struct-local (handler_of m s) r vs)
    places_struct_type-local (Some (T.Struct r)) (V.Int z) = refl
    places_struct_type-local (Some (T.Struct r)) V.Null = refl
    places_struct_type-local (Some (T.Struct r)) (V.Pointer o k) = refl
    places_struct_type-local (Some (T.Struct r)) (V.Function h) = refl
    places_struct_type-local (Some (T.Struct r)) (V.Array vs) = refl
    places_struct_type-local (Some (T.Struct r)) (V.Union k body) = refl
    places_struct_type-local (Some (T.Int kind)) l = refl
    places_struct_type-local (Some (T.Pointer t)) l = refl
    places_struct_type-local (Some T.VoidPointer) l = refl
    places_struct_type-local (Some (T.Function h)) l = refl
    places_struct_type-local (Some (T.Union u)) l = refl
    places_struct_type-local (Some (T.Array t n)) l = refl

  module _ (s : ℕ) (same : (u : ℕ) → Contains (field_types (members_of (old_types m) s)) u → f u ≡ g u) where
    places_member-local : (step : Step) (j : Option FieldDef) (body : Value) (o : Option FieldDef) (k : ℕ) → slice_get (members_of (old_types m) s) k ≡ o → option_map_or (λ d. Places.below step (Places.in_pair m (f d.ty) body j)) o [] ≡ option_map_or (λ d. Places.below step (Places.in_pair m (g d.ty) body j)) o []
    places_member-local step j body None k e = refl
    places_member-local step j body (Some d) k e = ap (λ h. Places.below step (Places.in_pair m h body j)) (same d.ty (field_in (members_of (old_types m) s) k d e))

    places_union_type-local : (new : Option Ty) (l : Layer) → Places.in_union_type m f s new l ≡ Places.in_union_type m g s new l
    places_union_type-local None l = refl
    places_union_type-local (Some (T.Union r)) (V.Union k body) =
        ap (λ found. if unions_pair m s r then found else []) (places_member-local (Member k) (then_option (pair_in (member_pairs m s) k) (slice_get (members_of (new_types m) r))) body (slice_get (members_of (old_types m) s) k) k refl)
    places_union_type-local (Some (T.Union r)) (V.Int z) = refl
    places_union_type-local (Some (T.Union r)) V.Null = refl
    places_union_type-local (Some (T.Union r)) (V.Pointer o k) = refl
    places_union_type-local (Some (T.Union r)) (V.Function h) = refl
    places_union_type-local (Some (T.Union r)) (V.Array vs) = refl
    places_union_type-local (Some (T.Union r)) (V.Struct vs) = refl
    places_union_type-local (Some (T.Int kind)) l = refl
    places_union_type-local (Some (T.Pointer t)) l = refl
    places_union_type-local (Some T.VoidPointer) l = refl
    places_union_type-local (Some (T.Function h)) l = refl
    places_union_type-local (Some (T.Struct u)) l = refl
    places_union_type-local (Some (T.Array t n)) l = refl

  handled_step-local : (ty : Ty) → ((u : ℕ) → Contains (held_in (old_types m) (Some ty)) u → f u ≡ g u) → (new : Option Ty) (l : Layer) → Places.handled_step m f ty new l ≡ Places.handled_step m g ty new l
  handled_step-local (T.Int kind) same new l = refl
  handled_step-local (T.Pointer t) same new l = refl
  handled_step-local T.VoidPointer same new l = refl
  handled_step-local (T.Function h) same new l = refl
  handled_step-local (T.Struct s) same new l = places_struct_type-local s same new l
  handled_step-local (T.Union s) same new l = places_union_type-local s same new l
  handled_step-local (T.Array t n) same new l = ap (λ h. Places.in_array_type m h new l) (same t (0, omega arith, refl))

module _ (m : Versions) where
  abbrev handled_layer : (ℕ → Places.Handled) → Ty → Places.Handled
  handled_layer rec ty new v = Places.handled_step m rec ty new (out-Value v)

  abbrev none_handled : Places.Handled
  none_handled new v = []

  handled_layer-local : IsLocal (old_types m) handled_layer
  handled_layer-local f g ty same = λ i new v. handled_step-local m f g ty same new (out-Value v) i

  -- the equation of the handled places
  pub handled_in-is : (t : ℕ) → is_settled (held_by (old_types m)) (length (old_types m).types) t ≡ true → Places.handled_in m t ≡ at_type (handled_layer (Places.handled_in m)) none_handled (old_type m t)
  handled_in-is t h = by_type-is (old_types m) handled_layer none_handled handled_layer-local t h
