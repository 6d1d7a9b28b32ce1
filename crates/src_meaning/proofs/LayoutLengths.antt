-- The equations of the bytes and the type of a value, and the length of its bytes.
use Rattle.std.proofs.Common.{◌≡◌, ◌∙◌, refl, ap, sym, Bool, true, false, ◌&&◌, ℕ, zero, suc, ◌≤◌, ◌+◌, ◌-◌, ◌*◌, List, [], ◌∷◌, ◌++◌, length, Option, Some, None, slice_get, arith, nat_eq}
use Rattle.std.proofs.lemmas.Option.{slice_get_within}
use Rattle.std.proofs.lemmas.List.{length-replicate, length-append}
use Rattle.std.proofs.lemmas.Bool.Decides.{nat_tests}
use Rattle.std.specs.Prelude.{Contains}
use Rattle.std.specs.List.{list_all}
use Rattle.lu_spec.specs.LittleEndian.{little_endian}
use Rattle.lu_spec.proofs.LittleEndianLemmas.{length-little_endian}
use Rattle.c_types.specs.declared.parts.Parts.{Parts}
use Rattle.c_types.specs.declared.parts.FieldDef.{FieldDef}
use Rattle.c_types.specs.declared.parts.Ty.{Ty}
use Rattle.c_types.specs.declared.parts.Ty.TheVariants.{Int, Pointer, VoidPointer, Function, Struct, Union, Array}
use Rattle.c_types.specs.declared.shape.Shape.{Shape}
use Rattle.c_types.specs.Tables.{fields_of, members_of}
use Rattle.c_types.specs.Chain.{field_types, held_by, held_in, is_settled}
use Rattle.c_types.specs.Recursion.{by_fuel, at_type, IsLocal}
use Rattle.c_types.specs.Refusal.{IsBuilt}
use Rattle.c_types.specs.Layout.{Shapes, int_size, shape_of, size_of, shape_step, field_end, fields_end, greatest_align, greatest_size, members_start, union_align, union_shape, struct_shape}
use Rattle.c_types.proofs.Capped.{next_multiple-above}
use Rattle.c_types.proofs.Shapes.{greatest_align-low}
use Rattle.c_types.proofs.FieldLaws.{size-greatest}
use Rattle.c_types.proofs.Settled.{by_type-is, settled-edge}
use Rattle.c_types.proofs.ShapeLaws.{settled, shape_of-is}
use Rattle.c_types.proofs.PlaceLaws.{low}
use Rattle.src_tree.specs.declared.value.Value.{Value, out-Value}
use Rattle.src_tree.specs.declared.value.Value.TheOpen as V
use Rattle.src_tree.specs.declared.value.Store.{Store}
use Rattle.src_tree.specs.declared.program.Program.{Program}
use Rattle.src_meaning.specs.Paths.{Layer}
use Rattle.src_meaning.specs.Store.{has_type, type_step, layer_has_type, fields_have_types, member_has_type}
use Rattle.src_meaning.specs.ValueBytes.{Addresses, Bytes, zeros, int_in, pointer_in, parts_in, fields_bytes, items_bytes, body_bytes, union_bytes, bytes_step, bytes_of}

pub and_left : (a b : Bool) → a && b ≡ true → a ≡ true
and_left true b h = refl
and_left false b h = h

pub and_right : (a b : Bool) → a && b ≡ true → b ≡ true
and_right true b h = h
and_right false b h = cc

pub head_in : (d : FieldDef) (fs : List FieldDef) → Contains (field_types (d ∷ fs)) d.ty
head_in d fs = (0, omega arith, refl)

pub tail_in : (d : FieldDef) (fs : List FieldDef) (u : ℕ) → Contains (field_types fs) u → Contains (field_types (d ∷ fs)) u
tail_in d fs u c = (suc c.0, omega (arith, c.1), c.2)

pub field_in : (fields : List FieldDef) (k : ℕ) (f : FieldDef) → slice_get fields k ≡ Some f → Contains (field_types fields) f.ty
field_in [] k f e = cc
field_in (d ∷ fs) zero f e = let q : d ≡ f = cc in (0, omega arith, ap (λ d. d.ty) q)
field_in (d ∷ fs) (suc k) f e = let i = field_in fs k f e in (suc i.0, omega (arith, i.1), i.2)

-- the bytes of a value ask only for those of the types that its type holds
fields_local : (known : Shapes) (f g : Bytes) (size : ℕ) (fs : List FieldDef) → ((u : ℕ) → Contains (field_types fs) u → f u ≡ g u) → (vs : List Value) (end : ℕ) → fields_bytes known f size fs vs end ≡ fields_bytes known g size fs vs end
fields_local known f g size [] same vs end = refl
fields_local known f g size (d ∷ fs) same [] end = refl
fields_local known f g size (d ∷ fs) same (v ∷ vs) end =
    let head : f d.ty v ≡ g d.ty v = ap (λ h. h v) (same d.ty (head_in d fs)) in
    let tail = fields_local known f g size fs (λ u c. same u (tail_in d fs u c)) vs (field_end known end d) in cc

union_local : (known : Shapes) (f g : Bytes) (ms : List FieldDef) → ((u : ℕ) → Contains (field_types ms) u → f u ≡ g u) → (l : Layer) → union_bytes known f ms l ≡ union_bytes known g ms l
union_local known f g ms same (V.Int z) = refl
union_local known f g ms same V.Null = refl
union_local known f g ms same (V.Pointer o k) = refl
union_local known f g ms same (V.Function h) = refl
union_local known f g ms same (V.Struct vs) = refl
union_local known f g ms same (V.Array vs) = refl
union_local known f g ms same (V.Union k body) = ap (λ b. little_endian 4 k ++ (zeros (members_start known ms - 4) ++ b)) (by_member (slice_get ms k) refl)
  where
    by_member : (o : Option FieldDef) → slice_get ms k ≡ o → body_bytes known f ms o body ≡ body_bytes known g ms o body
    by_member None e = refl
    by_member (Some d) e = ap (λ h. h body ++ zeros ((union_shape known ms).size - (members_start known ms + (known d.ty).size))) (same d.ty (field_in ms k d e))

bytes_step-local : (p : Parts) (a : Addresses) → IsLocal p (bytes_step p a)
bytes_step-local p a f g (Int k) same = refl
bytes_step-local p a f g (Pointer t) same = refl
bytes_step-local p a f g VoidPointer same = refl
bytes_step-local p a f g (Function h) same = refl
bytes_step-local p a f g (Struct s) same = λ i v. fields_local (shape_of p) f g (struct_shape (shape_of p) (fields_of p s)).size (fields_of p s) same (parts_in (out-Value v)) 0 i
bytes_step-local p a f g (Union u) same = λ i v. union_local (shape_of p) f g (members_of p u) same (out-Value v) i
bytes_step-local p a f g (Array t n) same = λ i v. items_bytes (same t (0, omega arith, refl) i) (parts_in (out-Value v))

-- and so does the test of its type
fields_types_local : (f g : ℕ → Value → Bool) (fs : List FieldDef) → ((u : ℕ) → Contains (field_types fs) u → f u ≡ g u) → (vs : List Value) → fields_have_types f fs vs ≡ fields_have_types g fs vs
fields_types_local f g [] same [] = refl
fields_types_local f g [] same (v ∷ vs) = refl
fields_types_local f g (d ∷ fs) same [] = refl
fields_types_local f g (d ∷ fs) same (v ∷ vs) =
    let head : f d.ty v ≡ g d.ty v = ap (λ h. h v) (same d.ty (head_in d fs)) in
    let tail = fields_types_local f g fs (λ u c. same u (tail_in d fs u c)) vs in cc

module _ (p : Program) (store : Store) (f g : ℕ → Value → Bool) where
  struct_local : (s : ℕ) → ((u : ℕ) → Contains (field_types (fields_of p.types s)) u → f u ≡ g u) → (l : Layer) → layer_has_type p store f (Struct s) l ≡ layer_has_type p store g (Struct s) l
  struct_local s same (V.Struct vs) = fields_types_local f g (fields_of p.types s) same vs
  struct_local s same (V.Int z) = refl
  struct_local s same V.Null = refl
  struct_local s same (V.Pointer o k) = refl
  struct_local s same (V.Function h) = refl
  struct_local s same (V.Array vs) = refl
  struct_local s same (V.Union k body) = refl

  member_local : (u : ℕ) → ((v : ℕ) → Contains (field_types (members_of p.types u)) v → f v ≡ g v) → (l : Layer) → layer_has_type p store f (Union u) l ≡ layer_has_type p store g (Union u) l
  member_local u same (V.Union k body) = by_member (slice_get (members_of p.types u) k) refl
    where
      by_member : (o : Option FieldDef) → slice_get (members_of p.types u) k ≡ o → member_has_type f o body ≡ member_has_type g o body
      by_member None e = refl
      by_member (Some d) e = ap (λ h. h body) (same d.ty (field_in (members_of p.types u) k d e))
  member_local u same (V.Int z) = refl
  member_local u same V.Null = refl
  member_local u same (V.Pointer o k) = refl
  member_local u same (V.Function h) = refl
  member_local u same (V.Struct vs) = refl
  member_local u same (V.Array vs) = refl

  array_local : (t n : ℕ) → f t ≡ g t → (l : Layer) → layer_has_type p store f (Array t n) l ≡ layer_has_type p store g (Array t n) l
  array_local t n same (V.Array vs) = ap (λ h. nat_eq (length vs) n && list_all h vs) same
  array_local t n same (V.Int z) = refl
  array_local t n same V.Null = refl
  array_local t n same (V.Pointer o k) = refl
  array_local t n same (V.Function h) = refl
  array_local t n same (V.Struct vs) = refl
  array_local t n same (V.Union k body) = refl

  scalar_local : (ty : Ty) → held_in p.types (Some ty) ≡ [] → ((l : Layer) → layer_has_type p store f ty l ≡ layer_has_type p store g ty l) → (v : Value) → type_step p store f ty v ≡ type_step p store g ty v
  scalar_local ty none same v = same (out-Value v)

type_step-local : (p : Program) (store : Store) → IsLocal p.types (type_step p store)
type_step-local p store f g (Struct s) same = λ i v. struct_local p store f g s same (out-Value v) i
type_step-local p store f g (Union u) same = λ i v. member_local p store f g u same (out-Value v) i
type_step-local p store f g (Array t n) same = λ i v. array_local p store f g t n (same t (0, omega arith, refl)) (out-Value v) i
type_step-local p store f g (Int k) same = λ i v. by_layer (out-Value v) i
  where
    by_layer : (l : Layer) → layer_has_type p store f (Int k) l ≡ layer_has_type p store g (Int k) l
    by_layer (V.Int z) = refl
    by_layer V.Null = refl
    by_layer (V.Pointer o k) = refl
    by_layer (V.Function h) = refl
    by_layer (V.Struct vs) = refl
    by_layer (V.Array vs) = refl
    by_layer (V.Union k body) = refl
type_step-local p store f g (Pointer t) same = λ i v. by_layer (out-Value v) i
  where
    by_layer : (l : Layer) → layer_has_type p store f (Pointer t) l ≡ layer_has_type p store g (Pointer t) l
    by_layer (V.Int z) = refl
    by_layer V.Null = refl
    by_layer (V.Pointer o k) = refl
    by_layer (V.Function h) = refl
    by_layer (V.Struct vs) = refl
    by_layer (V.Array vs) = refl
    by_layer (V.Union k body) = refl
type_step-local p store f g VoidPointer same = λ i v. by_layer (out-Value v) i
  where
    by_layer : (l : Layer) → layer_has_type p store f VoidPointer l ≡ layer_has_type p store g VoidPointer l
    by_layer (V.Int z) = refl
    by_layer V.Null = refl
    by_layer (V.Pointer o k) = refl
    by_layer (V.Function h) = refl
    by_layer (V.Struct vs) = refl
    by_layer (V.Array vs) = refl
    by_layer (V.Union k body) = refl
type_step-local p store f g (Function h) same = λ i v. by_layer (out-Value v) i
  where
    by_layer : (l : Layer) → layer_has_type p store f (Function h) l ≡ layer_has_type p store g (Function h) l
    by_layer (V.Int z) = refl
    by_layer V.Null = refl
    by_layer (V.Pointer o k) = refl
    by_layer (V.Function q) = refl
    by_layer (V.Struct vs) = refl
    by_layer (V.Array vs) = refl
    by_layer (V.Union k body) = refl

-- a type of which there is a value is a type of the table
pub typed_within : (p : Program) (store : Store) (n t : ℕ) (v : Value) → by_fuel p.types (type_step p store) (λ v. false) n t v ≡ true → (ty : Ty) × (slice_get p.types.types t ≡ Some ty)
typed_within p store zero t v h = cc
typed_within p store (suc n) t v h = at_some (slice_get p.types.types t) h
  where
    at_some : (o : Option Ty) → at_type (type_step p store (by_fuel p.types (type_step p store) (λ v. false) n)) (λ v. false) o v ≡ true → (ty : Ty) × (o ≡ Some ty)
    at_some None h = cc
    at_some (Some ty) h = (ty, refl)

-- what a value of a struct, a union or an array is
module _ (p : Program) (store : Store) (has : ℕ → Value → Bool) where
  pub struct_layer : (s : ℕ) (l : Layer) → layer_has_type p store has (Struct s) l ≡ true → fields_have_types has (fields_of p.types s) (parts_in l) ≡ true
  struct_layer s (V.Struct vs) h = h
  struct_layer s (V.Int z) h = cc
  struct_layer s V.Null h = cc
  struct_layer s (V.Pointer o k) h = cc
  struct_layer s (V.Function f) h = cc
  struct_layer s (V.Array vs) h = cc
  struct_layer s (V.Union k body) h = cc

  pub array_layer : (t n : ℕ) (l : Layer) → layer_has_type p store has (Array t n) l ≡ true → (length (parts_in l) ≡ n) × (list_all (has t) (parts_in l) ≡ true)
  array_layer t n (V.Array vs) h =
      let count = and_left (nat_eq (length vs) n) (list_all (has t) vs) h in
      (grind (arith, nat_tests, count), and_right (nat_eq (length vs) n) (list_all (has t) vs) h)
  array_layer t n (V.Int z) h = cc
  array_layer t n V.Null h = cc
  array_layer t n (V.Pointer o k) h = cc
  array_layer t n (V.Function f) h = cc
  array_layer t n (V.Struct vs) h = cc
  array_layer t n (V.Union k body) h = cc

  pub member_known : (o : Option FieldDef) (body : Value) → member_has_type has o body ≡ true → (d : FieldDef) × (o ≡ Some d) × (has d.ty body ≡ true)
  member_known None body h = cc
  member_known (Some d) body h = (d, refl, h)

-- lengths of bytes, where those of parts are their sizes
module _ (known : Shapes) (low : (t : ℕ) → 1 ≤ (known t).align) (rec : Bytes) where
  length-fields :
      (typed : ℕ → Value → Bool) (size : ℕ) (fs : List FieldDef) (vs : List Value) (end : ℕ) →
      ((u : ℕ) (v : Value) → Contains (field_types fs) u → typed u v ≡ true → length (rec u v) ≡ (known u).size) →
      fields_end known end fs ≤ size → fields_have_types typed fs vs ≡ true → length (fields_bytes known rec size fs vs end) + end ≡ size
  length-fields typed size [] [] end lengths le h = omega (arith, length-replicate {A = ℕ} (size - end) 0)
  length-fields typed size [] (v ∷ vs) end lengths le h = cc
  length-fields typed size (d ∷ fs) [] end lengths le h = cc
  length-fields typed size (d ∷ fs) (v ∷ vs) end lengths le h =
      let here = lengths d.ty v (head_in d fs) (and_left (typed d.ty v) (fields_have_types typed fs vs) h) in
      let rest = length-fields typed size fs vs (field_end known end d) (λ u x c. lengths u x (tail_in d fs u c)) le (and_right (typed d.ty v) (fields_have_types typed fs vs) h) in
      let above = next_multiple-above end (known d.ty).align (low d.ty) in
      simp (length-append, length-replicate) (omega (arith, here, rest, above))

  pub member-within : (ms : List FieldDef) (k : ℕ) (d : FieldDef) → slice_get ms k ≡ Some d → (4 ≤ members_start known ms) × (members_start known ms + (known d.ty).size ≤ (union_shape known ms).size)
  member-within ms k d e =
      let start = next_multiple-above 4 (greatest_align known ms) (greatest_align-low known ms) in
      let body = size-greatest known ms k d e in
      let whole = next_multiple-above (members_start known ms + greatest_size known ms) (union_align known ms) (omega arith) in
      (start, omega (arith, body, whole))

  length-union : (ms : List FieldDef) (k : ℕ) (body : Value) (d : FieldDef) → slice_get ms k ≡ Some d → length (rec d.ty body) ≡ (known d.ty).size → length (union_bytes known rec ms (V.Union k body)) ≡ (union_shape known ms).size
  length-union ms k body d e here =
      let within = member-within ms k d e in
      rw e (simp (length-append, length-replicate, length-little_endian) (omega (arith, here, within.0, within.1)))

length-items : (rec : Value → List ℕ) (typed : Value → Bool) (size : ℕ) → ((v : Value) → typed v ≡ true → length (rec v) ≡ size) → (vs : List Value) → list_all typed vs ≡ true → length (items_bytes rec vs) ≡ size * length vs
length-items rec typed size lengths [] h = omega arith
length-items rec typed size lengths (v ∷ vs) h =
    let here = lengths v (and_left (typed v) (list_all typed vs) h) in
    let rest = length-items rec typed size lengths vs (and_right (typed v) (list_all typed vs) h) in
    omega (arith, here, rest, length-append (rec v) (items_bytes rec vs))

module _ (p : Program) (store : Store) (built : IsBuilt p.types) (a : Addresses) where
  settled_at : (t : ℕ) (ty : Ty) → slice_get p.types.types t ≡ Some ty → is_settled (held_by p.types) (length p.types.types) t ≡ true
  settled_at t ty e = settled p.types built t (slice_get_within p.types.types t ty e)

  -- the bytes of a value by its type
  pub bytes_of-is : (t : ℕ) (ty : Ty) → slice_get p.types.types t ≡ Some ty → (v : Value) → bytes_of p.types a t v ≡ bytes_step p.types a (bytes_of p.types a) ty v
  bytes_of-is t ty e v =
      ap (λ h. h v) (by_type-is p.types (bytes_step p.types a) (λ v. []) (bytes_step-local p.types a) t (settled_at t ty e) ∙ ap (at_type (bytes_step p.types a (bytes_of p.types a)) (λ v. [])) e)

  pub has_type-is : (t : ℕ) (ty : Ty) → slice_get p.types.types t ≡ Some ty → (v : Value) → has_type p store t v ≡ type_step p store (has_type p store) ty v
  has_type-is t ty e v =
      ap (λ h. h v) (by_type-is p.types (type_step p store) (λ v. false) (type_step-local p store) t (settled_at t ty e) ∙ ap (at_type (type_step p store (has_type p store)) (λ v. false)) e)

  length_by : (n : ℕ) → ((t : ℕ) (v : Value) → is_settled (held_by p.types) n t ≡ true → has_type p store t v ≡ true → length (bytes_of p.types a t v) ≡ size_of p.types t) → (t : ℕ) (v : Value) → is_settled (held_by p.types) (suc n) t ≡ true → (ty : Ty) → slice_get p.types.types t ≡ Some ty → (l : Layer) → out-Value v ≡ l → layer_has_type p store (has_type p store) ty l ≡ true → length (bytes_step p.types a (bytes_of p.types a) ty v) ≡ (shape_step p.types (shape_of p.types) ty).size
  length_by n below t v h (Int k) e l out typed = length-little_endian (int_size k) (int_in k (out-Value v))
  length_by n below t v h (Pointer u) e l out typed = length-little_endian p.types.pointer (pointer_in a (out-Value v))
  length_by n below t v h VoidPointer e l out typed = length-little_endian p.types.pointer (pointer_in a (out-Value v))
  length_by n below t v h (Function f) e l out typed = length-little_endian p.types.pointer (pointer_in a (out-Value v))
  length_by n below t v h (Struct s) e l out typed =
      let fields = fields_of p.types s in
      let held : (u : ℕ) → Contains (field_types fields) u → is_settled (held_by p.types) n u ≡ true = λ u c. settled-edge (held_by p.types) n t u h (rw e c) in
      let above = next_multiple-above (fields_end (shape_of p.types) 0 fields) (greatest_align (shape_of p.types) fields) (greatest_align-low (shape_of p.types) fields) in
      let all = length-fields (shape_of p.types) (low p.types built) (bytes_of p.types a) (has_type p store) (struct_shape (shape_of p.types) fields).size fields (parts_in l) 0 (λ u x c k. below u x (held u c) k) above (struct_layer p store (has_type p store) s l typed) in
      rw out (omega (arith, all))
  length_by n below t v h (Array u m) e l out typed =
      let held : is_settled (held_by p.types) n u ≡ true = settled-edge (held_by p.types) n t u h (rw e (0, omega arith, refl)) in
      let parts = array_layer p store (has_type p store) u m l typed in
      let all = length-items (bytes_of p.types a u) (has_type p store u) (size_of p.types u) (λ x k. below u x held k) (parts_in l) parts.1 in
      rw out (all ∙ ap (λ m. size_of p.types u * m) parts.0)
  length_by n below t v h (Union u) e (V.Union k body) out typed =
      let ms = members_of p.types u in
      let found = member_known p store (has_type p store) (slice_get ms k) body typed in
      let held = settled-edge (held_by p.types) n t found.0.ty h (rw e (field_in ms k found.0 found.1)) in
      rw out (length-union (shape_of p.types) (low p.types built) (bytes_of p.types a) ms k body found.0 found.1 (below found.0.ty body held found.2))
  length_by n below t v h (Union u) e (V.Int z) out typed = cc
  length_by n below t v h (Union u) e V.Null out typed = cc
  length_by n below t v h (Union u) e (V.Pointer o k) out typed = cc
  length_by n below t v h (Union u) e (V.Function f) out typed = cc
  length_by n below t v h (Union u) e (V.Struct vs) out typed = cc
  length_by n below t v h (Union u) e (V.Array vs) out typed = cc

  length-settled : (n t : ℕ) (v : Value) → is_settled (held_by p.types) n t ≡ true → has_type p store t v ≡ true → length (bytes_of p.types a t v) ≡ size_of p.types t
  length-settled zero t v h typed = cc
  length-settled (suc n) t v h typed =
      let ty = typed_within p store (length p.types.types) t v typed in
      let one = length_by n (length-settled n) t v h ty.0 ty.1 (out-Value v) refl (sym (has_type-is t ty.0 ty.1 v) ∙ typed) in
      ap length (bytes_of-is t ty.0 ty.1 v) ∙ (one ∙ sym (ap (λ (s : Shape). s.size) (shape_of-is p.types built t ty.0 ty.1)))

  -- a value of a type takes as many bytes as the type
  pub length-bytes_of : (t : ℕ) (v : Value) → has_type p store t v ≡ true → length (bytes_of p.types a t v) ≡ size_of p.types t
  length-bytes_of t v typed =
      let ty = typed_within p store (length p.types.types) t v typed in
      length-settled (length p.types.types) t v (settled_at t ty.0 ty.1) typed
