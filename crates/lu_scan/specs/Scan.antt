-- The words of the carried pointers in the bytes of a value, in order: what `Carried` tells of a value, read from its bytes.
use Rattle.std.specs.Prelude.{ℕ, zero, suc, Bool, true, false, nat_eq, min, if◌then◌else◌, List, [], ◌∷◌, ◌++◌, drop, Option, Some, None, slice_get}
use Rattle.std.specs.Option.{option_map_or}
use Rattle.std.specs.Int.{from_le_bytes, w32}
use Rattle.lu_spec.specs.Then.{then_option}
use Rattle.c_types.specs.declared.parts.FieldDef.{FieldDef}
use Rattle.c_types.specs.declared.parts.Ty.{Ty}
use Rattle.c_types.specs.declared.parts.Ty.TheVariants as T
use Rattle.c_types.specs.Tables.{members_of}
use Rattle.c_types.specs.Layout.{shape_of, field_start, field_end, member_offset}
use Rattle.c_types.specs.Recursion.{by_fuel}
use Rattle.lu_image.specs.declared.handler.Handler.{Handler}
use Rattle.lu_image.specs.Correspondence.{pair_in}
use Rattle.lu_image_store.specs.Versions.{Versions, old_types, new_types, new_type, old_size, structs_pair, unions_pair, field_pairs, member_pairs}
use Rattle.lu_scan.specs.declared.types.ArrayType.{ArrayType}
use Rattle.lu_image_store.specs.Forms.{handler_of, old_fields, new_fields, form_pairs}

-- the number in the first 4 bytes, the lowest first; an address takes no more, also where a pointer has 8
abbrev pub word_at : List ℕ → ℕ
word_at (a ∷ b ∷ c ∷ d ∷ bytes) = from_le_bytes w32 (a ∷ b ∷ c ∷ d ∷ [])
word_at _ = 0

-- a word that is not null
abbrev pub word_list : ℕ → List ℕ
word_list w = if nat_eq w 0 then [] else w ∷ []

-- from whether handlers count, the new type, and the bytes
abbrev pub Scan : Type 0
Scan = Bool → Option Ty → List ℕ → List ℕ

abbrev pub pointer_words : Option Ty → List ℕ → List ℕ
pointer_words (Some u) bytes = word_list (word_at bytes)
pointer_words None bytes = []

-- a part whose new type comes from its pair, if it has one
abbrev pub pair_words : Versions → (Option Ty → List ℕ → List ℕ) → List ℕ → Option FieldDef → List ℕ
pair_words m part bytes None = []
pair_words m part bytes (Some g) = part (new_type m g.ty) bytes

-- in fields that come after `end`
abbrev pub fields_words : Versions → (ℕ → Option Ty → List ℕ → List ℕ) → List FieldDef → List ℕ → List FieldDef → List (Option ℕ) → ℕ → List ℕ
fields_words m part to bytes (f ∷ fs) (j ∷ js) end =
    pair_words m (part f.ty) (drop (field_start (shape_of (old_types m)) end f) bytes) (then_option j (slice_get to)) ++ fields_words m part to bytes fs js (field_end (shape_of (old_types m)) end f)
fields_words m part to bytes _ _ end = []

-- in a handled place by the fields that the old form has by equal names, and below them with no handler
abbrev pub struct_words : Versions → (ℕ → Scan) → Bool → Option Handler → ℕ → ℕ → List ℕ → List ℕ
struct_words m rec true (Some h) s r bytes =
    fields_words m (λ t. rec t false) (new_fields m h.form) bytes (old_fields m s) (form_pairs m s h.form) 0
struct_words m rec handled _ s r bytes =
    fields_words m (λ t. rec t handled) (new_fields m r) bytes (old_fields m s) (field_pairs m s) 0

-- the member of that number counts by its pair
abbrev pub member_words : Versions → (ℕ → Option Ty → List ℕ → List ℕ) → ℕ → ℕ → ℕ → List ℕ → List ℕ
member_words m part s r k body =
    option_map_or (λ f. pair_words m (part f.ty) body (then_option (pair_in (member_pairs m s) k) (slice_get (members_of (new_types m) r)))) (slice_get (members_of (old_types m) s) k) []

-- so many items of a size, one behind the other
abbrev pub items_words : (List ℕ → List ℕ) → ℕ → ℕ → List ℕ → List ℕ
items_words item size zero bytes = []
items_words item size (suc n) bytes = item bytes ++ items_words item size n (drop size bytes)

-- in a struct that pairs with the new one
abbrev pub struct_pair_words : Versions → (ℕ → Scan) → Bool → ℕ → List ℕ → ℕ → List ℕ
struct_pair_words m rec handled s bytes r =
    if structs_pair m s r then struct_words m rec handled (handler_of m s) s r bytes else []

-- in a union that pairs with the new one: the number of its active member stands first
abbrev pub union_pair_words : Versions → (ℕ → Option Ty → List ℕ → List ℕ) → ℕ → List ℕ → ℕ → List ℕ
union_pair_words m part s bytes r =
    if unions_pair m s r then member_words m part s r (word_at bytes) (drop (member_offset (old_types m) s) bytes) else []

-- in the items that both arrays have
abbrev pub array_words : Versions → (Option Ty → List ℕ → List ℕ) → ℕ → ℕ → List ℕ → ArrayType → List ℕ
array_words m part t n bytes new = items_words (part (new_type m new.elem)) (old_size m t) (min new.count n) bytes

-- a new type as a struct, a union or an array
abbrev pub struct_in : Option Ty → Option ℕ
struct_in (Some (T.Struct r)) = Some r
struct_in _ = None

abbrev pub union_in : Option Ty → Option ℕ
union_in (Some (T.Union r)) = Some r
union_in _ = None

abbrev pub array_in : Option Ty → Option ArrayType
array_in (Some (T.Array u l)) = Some (record { elem = u; count = l })
array_in _ = None

-- by the old type
abbrev pub scan_step : Versions → (ℕ → Scan) → Ty → Scan
scan_step m rec (T.Int kind) handled new bytes = []
scan_step m rec (T.Pointer t) handled new bytes = pointer_words new bytes
scan_step m rec T.VoidPointer handled new bytes = pointer_words new bytes
scan_step m rec (T.Function g) handled new bytes = []
scan_step m rec (T.Struct s) handled new bytes = option_map_or (struct_pair_words m rec handled s bytes) (struct_in new) []
scan_step m rec (T.Union s) handled new bytes = option_map_or (union_pair_words m (λ t. rec t handled) s bytes) (union_in new) []
scan_step m rec (T.Array t n) handled new bytes = option_map_or (array_words m (rec t handled) t n bytes) (array_in new) []

abbrev pub no_words : Scan
no_words handled new bytes = []

-- in a value of type t, through so many types that hold one another
abbrev pub words_in : Versions → ℕ → ℕ → Scan
words_in m depth t = by_fuel (old_types m) (scan_step m) no_words depth t
