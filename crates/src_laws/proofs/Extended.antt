-- Stores that have the objects of another, at the same places, and perhaps more: addresses and sizes stay, and values keep
-- their types.
use Rattle.std.proofs.Common.{◌≡◌, ◌∙◌, refl, ap, Bool, true, false, ◌&&◌, ℕ, zero, suc, ◌*◌, ◌≤◌, List, [], ◌∷◌, ◌++◌, map, Option, Some, None, arith, nat_eq, nat_le, length}
use Rattle.std.specs.Prelude.{slice_set, slice_get}
use Rattle.std.specs.List.{list_all}
use Rattle.std.specs.Option.{option_map_or}
use Rattle.std.proofs.lemmas.Bool.Decides.{nat_tests}
use Rattle.lu_base.specs.Addresses.{address_after, addresses_from}
use Rattle.c_types.specs.declared.parts.FieldDef.{FieldDef}
use Rattle.c_types.specs.declared.parts.Parts.{Parts}
use Rattle.c_types.specs.declared.parts.Ty.{Ty}
use Rattle.c_types.specs.declared.parts.Ty.TheVariants as T
use Rattle.c_types.specs.Layout.{size_of}
use Rattle.c_types.specs.Tables.{fields_of, members_of}
use Rattle.c_types.specs.Recursion.{by_fuel, at_type}
use Rattle.src_tree.specs.declared.value.Value.{Value, out-Value}
use Rattle.src_tree.specs.declared.value.Value.TheOpen as V
use Rattle.src_tree.specs.declared.value.Object.{Object}
use Rattle.src_tree.specs.declared.value.Store.{Store}
use Rattle.src_tree.specs.declared.program.Program.{Program}
use Rattle.src_meaning.specs.Paths.{Layer}
use Rattle.src_meaning.specs.Objects.{with_elements, object_size}
use Rattle.src_meaning.specs.Store.{has_type, type_step, layer_has_type, fields_have_types, member_has_type, is_address, is_well_typed, are_elements}
use Rattle.src_meaning.proofs.LayoutLengths.{and_left, and_right}

pub and_in : (a b : Bool) → a ≡ true → b ≡ true → (a && b) ≡ true
and_in a b h g = cc

-- each object has one of its shape at its place
abbrev pub Extends : List Object → List Object → Type 0
Extends [] ys = Unit {0}
Extends (x ∷ xs) (y ∷ ys) = (y.elem ≡ x.elem) × (y.count ≡ x.count) × Extends xs ys
Extends (x ∷ xs) [] = ⊥

pub extends_same : (xs : List Object) → Extends xs xs
extends_same [] = tt
extends_same (x ∷ xs) = (refl, refl, extends_same xs)

-- with other elements of an object
pub extends_set : (os : List Object) (o : ℕ) (x : Object) (l : Option (List Value)) → slice_get os o ≡ Some x → Extends os (slice_set os o (with_elements x l))
extends_set [] o x l e = absurd (cc)
extends_set (y ∷ os) zero x l e = let is_x : x ≡ y = cc in (ap (λ (z : Object). z.elem) is_x, ap (λ (z : Object). z.count) is_x, extends_same os)
extends_set (y ∷ os) (suc o) x l e = (refl, refl, extends_set os o x l e)

-- with more objects
pub extends_more : (os more : List Object) → Extends os (os ++ more)
extends_more [] more = tt
extends_more (x ∷ os) more = (refl, refl, extends_more os more)

pub extends_further : (xs ys zs : List Object) → Extends xs ys → Extends ys zs → Extends xs zs
extends_further [] ys zs h k = tt
extends_further (x ∷ xs) [] zs h k = absurd h
extends_further (x ∷ xs) (y ∷ ys) [] h k = absurd k
extends_further (x ∷ xs) (y ∷ ys) (z ∷ zs) h k = (k.0 ∙ h.0, k.1 ∙ h.1, extends_further xs ys zs h.2 k.2)

pub same_size : (p : Parts) (x y : Object) → y.elem ≡ x.elem → y.count ≡ x.count → object_size p y ≡ object_size p x
same_size p x y e f = ap (λ n. n * size_of p y.elem) f ∙ ap (λ t. x.count * size_of p t) e

-- the addresses stay
pub address_stays : (p : Parts) (a : ℕ) (xs ys : List Object) (o n : ℕ) → Extends xs ys → slice_get (addresses_from a (map (object_size p) xs)) o ≡ Some n → slice_get (addresses_from a (map (object_size p) ys)) o ≡ Some n
address_stays p a [] ys o n h e = absurd (cc)
address_stays p a (x ∷ xs) [] o n h e = absurd h
address_stays p a (x ∷ xs) (y ∷ ys) zero n h e = e
address_stays p a (x ∷ xs) (y ∷ ys) (suc o) n h e =
    let next : address_after a (object_size p y) ≡ address_after a (object_size p x) = ap (address_after a) (same_size p x y h.0 h.1) in
    ap (λ b. slice_get (addresses_from b (map (object_size p) ys)) o) next ∙ address_stays p (address_after a (object_size p x)) xs ys o n h.2 e

pub record SameShape (x : Object) (ys : List Object) (o : ℕ) : Type 0 where
  pub object : Object
  pub is : slice_get ys o ≡ Some object
  pub elem : object.elem ≡ x.elem
  pub count : object.count ≡ x.count

pub same_shape : (xs ys : List Object) (o : ℕ) (x : Object) → Extends xs ys → slice_get xs o ≡ Some x → SameShape x ys o
same_shape [] ys o x h e = absurd (cc)
same_shape (z ∷ xs) [] o x h e = absurd h
same_shape (z ∷ xs) (y ∷ ys) zero x h e =
    let same : z ≡ x = cc in record { object = y; is = refl; elem = h.0 ∙ ap (λ (o : Object). o.elem) same; count = h.1 ∙ ap (λ (o : Object). o.count) same }
same_shape (z ∷ xs) (y ∷ ys) (suc o) x h e = let r = same_shape xs ys o x h.2 e in record { object = r.object; is = r.is; elem = r.elem; count = r.count }

-- the object of a pointer
pub record PointsTo (p : Program) (s : Store) (o k : ℕ) : Type 0 where
  pub object : Object
  pub is : slice_get s.objects o ≡ Some object
  pub within : k ≤ object_size p.types object

pub points_to : (p : Program) (s : Store) (o k : ℕ) → is_address p s o k ≡ true → PointsTo p s o k
points_to p s o k h = by (slice_get s.objects o) refl h
  where
    by : (q : Option Object) → slice_get s.objects o ≡ q → option_map_or (λ x. nat_le k (object_size p.types x)) q false ≡ true → PointsTo p s o k
    by None e h = absurd (cc)
    by (Some x) e h = record { object = x; is = e; within = grind (arith, nat_tests, h) }

module _ (p : Program) (s s' : Store) (more : Extends s.objects s'.objects) where
  pub address_kept : (o k : ℕ) → is_address p s o k ≡ true → is_address p s' o k ≡ true
  address_kept o k h =
      let x = points_to p s o k h in
      let y = same_shape s.objects s'.objects o x.object more x.is in
      let size = same_size p.types x.object y.object y.elem y.count in
      let within : k ≤ object_size p.types y.object = omega (arith, size, x.within) in
      let test : nat_le k (object_size p.types y.object) ≡ true = grind (arith, nat_tests, within) in
      ap (λ q. option_map_or (λ x. nat_le k (object_size p.types x)) q false) y.is ∙ test

  module _ (has has' : ℕ → Value → Bool) (all : (t : ℕ) (v : Value) → has t v ≡ true → has' t v ≡ true) where
    fields_kept : (fs : List FieldDef) (vs : List Value) → fields_have_types has fs vs ≡ true → fields_have_types has' fs vs ≡ true
    fields_kept [] [] h = refl
    fields_kept [] (v ∷ vs) h = absurd (cc)
    fields_kept (f ∷ fs) [] h = absurd (cc)
    fields_kept (f ∷ fs) (v ∷ vs) h =
        and_in (has' f.ty v) (fields_have_types has' fs vs) (all f.ty v (and_left (has f.ty v) (fields_have_types has fs vs) h)) (fields_kept fs vs (and_right (has f.ty v) (fields_have_types has fs vs) h))

    member_kept : (f : Option FieldDef) (v : Value) → member_has_type has f v ≡ true → member_has_type has' f v ≡ true
    member_kept None v h = absurd (cc)
    member_kept (Some f) v h = all f.ty v h

    pub items_kept : (t : ℕ) (vs : List Value) → list_all (has t) vs ≡ true → list_all (has' t) vs ≡ true
    items_kept t [] h = refl
    items_kept t (v ∷ vs) h =
        and_in (has' t v) (list_all (has' t) vs) (all t v (and_left (has t v) (list_all (has t) vs) h)) (items_kept t vs (and_right (has t v) (list_all (has t) vs) h))

    layer_kept : (ty : Ty) (l : Layer) → layer_has_type p s has ty l ≡ true → layer_has_type p s' has' ty l ≡ true
    layer_kept (T.Int kind) (V.Int z) h = h
    layer_kept (T.Pointer t) V.Null h = refl
    layer_kept (T.Pointer t) (V.Pointer o k) h = address_kept o k h
    layer_kept T.VoidPointer V.Null h = refl
    layer_kept T.VoidPointer (V.Pointer o k) h = address_kept o k h
    layer_kept (T.Function g) V.Null h = refl
    layer_kept (T.Function g) (V.Function f) h = h
    layer_kept (T.Struct n) (V.Struct fields) h = fields_kept (fields_of p.types n) fields h
    layer_kept (T.Union n) (V.Union k body) h = member_kept (slice_get (members_of p.types n) k) body h
    layer_kept (T.Array t n) (V.Array items) h =
        and_in (nat_eq (length items) n) (list_all (has' t) items) (and_left (nat_eq (length items) n) (list_all (has t) items) h) (items_kept t items (and_right (nat_eq (length items) n) (list_all (has t) items) h))
    layer_kept _ _ h = absurd (cc)

  fuel_kept : (n t : ℕ) (v : Value) → by_fuel p.types (type_step p s) (λ v. false) n t v ≡ true → by_fuel p.types (type_step p s') (λ v. false) n t v ≡ true
  fuel_kept zero t v h = absurd (cc)
  fuel_kept (suc n) t v h = by (λ t v h. fuel_kept n t v h) (slice_get p.types.types t) h
    where
      by : ((t : ℕ) (v : Value) → by_fuel p.types (type_step p s) (λ v. false) n t v ≡ true → by_fuel p.types (type_step p s') (λ v. false) n t v ≡ true) → (o : Option Ty) → at_type (type_step p s (by_fuel p.types (type_step p s) (λ v. false) n)) (λ v. false) o v ≡ true → at_type (type_step p s' (by_fuel p.types (type_step p s') (λ v. false) n)) (λ v. false) o v ≡ true
      by all None h = absurd (cc)
      by all (Some ty) h = layer_kept (by_fuel p.types (type_step p s) (λ v. false) n) (by_fuel p.types (type_step p s') (λ v. false) n) all ty (out-Value v) h

  -- a value keeps its type
  pub type_kept : (t : ℕ) (v : Value) → has_type p s t v ≡ true → has_type p s' t v ≡ true
  type_kept t v h = fuel_kept (length p.types.types) t v h

  pub values_kept : (t : ℕ) (vs : List Value) → list_all (has_type p s t) vs ≡ true → list_all (has_type p s' t) vs ≡ true
  values_kept t vs h = items_kept (has_type p s) (has_type p s') type_kept t vs h

  pub well_typed_kept : (x : Object) → is_well_typed p s x ≡ true → is_well_typed p s' x ≡ true
  well_typed_kept x h = by x.elements h
    where
      by : (l : Option (List Value)) → are_elements p s x l ≡ true → are_elements p s' x l ≡ true
      by None h = refl
      by (Some vs) h =
          and_in (nat_eq (length vs) x.count) (list_all (has_type p s' x.elem) vs) (and_left (nat_eq (length vs) x.count) (list_all (has_type p s x.elem) vs) h) (values_kept x.elem vs (and_right (nat_eq (length vs) x.count) (list_all (has_type p s x.elem) vs) h))

  pub objects_kept : (os : List Object) → list_all (is_well_typed p s) os ≡ true → list_all (is_well_typed p s') os ≡ true
  objects_kept [] h = refl
  objects_kept (y ∷ os) h = and_in (is_well_typed p s' y) (list_all (is_well_typed p s') os) (well_typed_kept y (and_left (is_well_typed p s y) (list_all (is_well_typed p s) os) h)) (objects_kept os (and_right (is_well_typed p s y) (list_all (is_well_typed p s) os) h))

  -- with another object at a place
  pub all_typed_set : (os : List Object) (o : ℕ) (x : Object) → list_all (is_well_typed p s) os ≡ true → is_well_typed p s' x ≡ true → list_all (is_well_typed p s') (slice_set os o x) ≡ true
  all_typed_set [] o x h g = refl
  all_typed_set (y ∷ os) zero x h g = and_in (is_well_typed p s' x) (list_all (is_well_typed p s') os) g (objects_kept os (and_right (is_well_typed p s y) (list_all (is_well_typed p s) os) h))
  all_typed_set (y ∷ os) (suc o) x h g =
      and_in (is_well_typed p s' y) (list_all (is_well_typed p s') (slice_set os o x)) (well_typed_kept y (and_left (is_well_typed p s y) (list_all (is_well_typed p s) os) h)) (all_typed_set os o x (and_right (is_well_typed p s y) (list_all (is_well_typed p s) os) h) g)
