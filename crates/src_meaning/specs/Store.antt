-- Which stores are stores of a program.
use Rattle.std.specs.Prelude.{ℕ, ◌≤◌, Bool, true, false, ◌&&◌, nat_eq, nat_lt, nat_le, IsTrue, List, [], ◌∷◌, length, Option, Some, None, slice_get}
use Rattle.std.specs.List.{list_all}
use Rattle.std.specs.Option.{option_map_or}
use Rattle.c_types.specs.declared.parts.FieldDef.{FieldDef}
use Rattle.c_types.specs.declared.parts.Signature.{Signature}
use Rattle.c_types.specs.declared.parts.Ty.{Ty}
use Rattle.c_types.specs.declared.parts.Ty.TheVariants as T
use Rattle.c_types.specs.Tables.{fields_of, members_of}
use Rattle.c_types.specs.Recursion.{by_type}
use Rattle.src_tree.specs.declared.value.Value.{Value, out-Value}
use Rattle.src_tree.specs.declared.value.Value.TheOpen as V
use Rattle.src_tree.specs.declared.value.ObjectKind.{ObjectKind}
use Rattle.src_tree.specs.declared.value.ObjectKind.TheVariants.{Global, Heap, Temporary}
use Rattle.src_tree.specs.declared.value.Object.{Object}
use Rattle.src_tree.specs.declared.value.Store.{Store}
use Rattle.src_tree.specs.declared.program.Function.{Function}
use Rattle.src_tree.specs.declared.program.Global as Text
use Rattle.src_tree.specs.declared.program.Program.{Program}
use Rattle.src_tree.specs.Signatures.{has_signature}
use Rattle.lu_base.specs.declared.limits.TheConstants.{HEAP_BYTES, ADDRESS_LIMIT}
use Rattle.src_meaning.specs.Integers.{is_held}
use Rattle.src_meaning.specs.Paths.{Layer}
use Rattle.src_meaning.specs.Objects.{is_live, object_size, heap_bytes, next_address}
use Rattle.src_meaning.specs.Initial.{global_elem, global_count}

-- the function has exactly that signature
abbrev pub is_function : Program → ℕ → ℕ → Bool
is_function p g f =
    option_map_or (λ d. option_map_or (has_signature d) (slice_get p.types.signatures g) false) (slice_get p.functions f) false

-- the offset is within 0 to the size of an object of the store, live or dead
abbrev pub is_address : Program → Store → ℕ → ℕ → Bool
is_address p store o k = option_map_or (λ x. nat_le k (object_size p.types x)) (slice_get store.objects o) false

abbrev pub fields_have_types : (ℕ → Value → Bool) → List FieldDef → List Value → Bool
fields_have_types has [] [] = true
fields_have_types has (f ∷ fs) (v ∷ vs) = has f.ty v && fields_have_types has fs vs
fields_have_types has _ _ = false

abbrev pub member_has_type : (ℕ → Value → Bool) → Option FieldDef → Value → Bool
member_has_type has None body = false
member_has_type has (Some f) body = has f.ty body

abbrev pub layer_has_type : Program → Store → (ℕ → Value → Bool) → Ty → Layer → Bool
layer_has_type p store has (T.Int kind) (V.Int z) = is_held kind z
layer_has_type p store has (T.Pointer t) V.Null = true
layer_has_type p store has (T.Pointer t) (V.Pointer o k) = is_address p store o k
layer_has_type p store has T.VoidPointer V.Null = true
layer_has_type p store has T.VoidPointer (V.Pointer o k) = is_address p store o k
layer_has_type p store has (T.Function g) V.Null = true
layer_has_type p store has (T.Function g) (V.Function f) = is_function p g f
layer_has_type p store has (T.Struct s) (V.Struct fields) = fields_have_types has (fields_of p.types s) fields
layer_has_type p store has (T.Union u) (V.Union k body) = member_has_type has (slice_get (members_of p.types u) k) body
layer_has_type p store has (T.Array t n) (V.Array items) = nat_eq (length items) n && list_all (has t) items
layer_has_type p store has _ _ = false

abbrev pub type_step : Program → Store → (ℕ → Value → Bool) → Ty → Value → Bool
type_step p store has ty v = layer_has_type p store has ty (out-Value v)

-- the value is of type t in that store
abbrev pub has_type : Program → Store → ℕ → Value → Bool
has_type p store t = by_type p.types (type_step p store) (λ v. false) t

abbrev pub are_elements : Program → Store → Object → Option (List Value) → Bool
are_elements p store x None = true
are_elements p store x (Some vs) = nat_eq (length vs) x.count && list_all (has_type p store x.elem) vs

-- the elements of an object are of its type and count, while it is live
abbrev pub is_well_typed : Program → Store → Object → Bool
is_well_typed p store x = are_elements p store x x.elements

abbrev pub is_struct : Option Ty → Bool
is_struct (Some (T.Struct s)) = true
is_struct _ = false

-- a later object: its site has its element type, or it is a temporary of a struct type
abbrev pub is_of_kind : Program → Object → ObjectKind → Bool
is_of_kind p x Global = false
is_of_kind p x (Heap site) = option_map_or (λ d. nat_eq d.elem x.elem) (slice_get p.sites site) false
is_of_kind p x Temporary = is_struct (slice_get p.types.types x.elem) && nat_eq x.count 1

abbrev pub is_heap_object : Program → Object → Bool
is_heap_object p x =
    is_of_kind p x x.kind && (nat_lt 0 x.count && nat_le (object_size p.types x) HEAP_BYTES)

-- the object of a global: live, with the global's element type and count
abbrev pub is_global_object : Program → Text.Global → Object → Bool
is_global_object p g x =
    is_global_kind x.kind && (is_live x && (nat_eq x.elem (global_elem p.types g.ty) && nat_eq x.count (global_count p.types g.ty)))
  where
    is_global_kind : ObjectKind → Bool
    is_global_kind Global = true
    is_global_kind _ = false

-- the globals first, in order, and then heap objects
abbrev pub are_objects : Program → List Text.Global → List Object → Bool
are_objects p [] xs = list_all (is_heap_object p) xs
are_objects p (g ∷ gs) [] = false
are_objects p (g ∷ gs) (x ∷ xs) = is_global_object p g x && are_objects p gs xs

pub record IsStore (p : Program) (store : Store) : Type 0 where
  pub objects : IsTrue (are_objects p p.globals store.objects)
  pub typed : IsTrue (list_all (is_well_typed p store) store.objects)
  pub heap : heap_bytes p.types store ≤ HEAP_BYTES
  pub last : next_address p.types store ≤ ADDRESS_LIMIT
