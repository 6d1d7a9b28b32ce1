-- The initial value of a global has as many bytes as its type.
use Rattle.std.proofs.Common.{◌≡◌, ◌∙◌, refl, sym, ap, subst, ℕ, zero, suc, ◌+◌, ◌-◌, ◌*◌, ◌≤◌, Bool, true, false, nat_lt, nat_le, cond, List, [], ◌∷◌, length, map, replicate, Option, Some, None, slice_get, length-append, arith}
use Rattle.std.specs.Option.{option_map_or}
use Rattle.std.proofs.lemmas.List.{length-replicate}
use Rattle.std.proofs.lemmas.Option.{slice_get-map, slice_get_within}
use Rattle.std.proofs.lemmas.Bool.Decides.{nat_tests}
use Rattle.lu_spec.proofs.LittleEndianLemmas.{length-little_endian}
use Rattle.c_types.specs.declared.parts.FieldDef.{FieldDef}
use Rattle.c_types.specs.declared.parts.IntKind.{IntKind}
use Rattle.c_types.specs.declared.parts.Ty.{Ty}
use Rattle.c_types.specs.declared.parts.Ty.TheVariants as T
use Rattle.c_types.specs.declared.shape.Shape.{Shape}
use Rattle.c_types.specs.Tables.{fields_of}
use Rattle.c_types.specs.Recursion.{at_type, by_fuel}
use Rattle.c_types.specs.Refusal.{IsBuilt}
use Rattle.c_types.specs.Layout.{shape, shape_step, shape_of, size_of, align_of, field_end, fields_end, greatest_align, struct_shape}
use Rattle.c_types.proofs.Capped.{next_multiple-above}
use Rattle.c_types.proofs.PlaceLaws.{low}
use Rattle.c_types.proofs.Shapes.{greatest_align-low}
use Rattle.c_types.proofs.ShapeLaws.{shape_of-is}
use Rattle.src_tree.specs.declared.value.Value.{Value, Struct, Array, out-Value}
use Rattle.src_tree.specs.declared.value.Value.TheVariants.{outs-Struct, outs-Array}
use Rattle.src_tree.specs.declared.value.Store.{Store}
use Rattle.src_tree.specs.declared.program.Init.{Init, Zero, One, Text as Bytes_text, List', Row_of-Init, end_of-Init, more_of-Init}
use Rattle.src_tree.specs.declared.program.Global as Text
use Rattle.src_tree.specs.declared.program.Program.{Program}
use Rattle.src_meaning.specs.Paths.{zero_of}
use Rattle.src_meaning.specs.Objects.{addresses}
use Rattle.src_meaning.specs.ValidTypes.{is_scalar}
use Rattle.src_meaning.specs.ValidInitialiser.{is_character, takes_bytes, item_type_in, item_type, is_constant_of, is_initialiser, are_items, is_start, initial_room, is_typed}
use Rattle.src_meaning.specs.Initial.{item_types_in, item_types, composed_in, composed, text_items, initial_scope, initial_value, initial_items, elem_in, elements_in, items_in, initial_store}
use Rattle.src_meaning.specs.ValueBytes as spec
use Rattle.src_meaning.proofs.InitialLemmas.{zero_of-is}
use Rattle.src_meaning.proofs.LayoutLengths.{and_left, and_right, length-bytes_of}
use Rattle.src_laws.proofs.ZeroValues.{zero_typed}
use Rattle.cg_program.specs.Compiled.{machine_global}
use Rattle.cg_program.proofs.ByteLemmas.{value_is, value_none}

module _ (p : Program) (built : IsBuilt p.types) (a : spec.Addresses) where
  -- a value with as many bytes as the type
  abbrev Fills : ℕ → Value → Type 0
  Fills t v = length (spec.bytes_of p.types a t v) ≡ size_of p.types t

  abbrev Fill : List ℕ → List Value → Type 0
  Fill [] [] = Unit {0}
  Fill (t ∷ ts) (v ∷ vs) = Fills t v × Fill ts vs
  Fill _ _ = ⊥

  size_by : (t : ℕ) (ty : Ty) → slice_get p.types.types t ≡ Some ty → size_of p.types t ≡ (shape_step p.types (shape_of p.types) ty).size
  size_by t ty e = ap (λ (s : Shape). s.size) (shape_of-is p.types built t ty e)

  bytes_by : (t : ℕ) (ty : Ty) → slice_get p.types.types t ≡ Some ty → (v : Value) → length (spec.bytes_of p.types a t v) ≡ length (spec.bytes_step p.types a (spec.bytes_of p.types a) ty v)
  bytes_by t ty e v = ap length (value_is p.types built a t ty e v)

  -- a scalar's bytes are as many, whatever the value is
  int_fills : (t : ℕ) (kind : IntKind) → slice_get p.types.types t ≡ Some (T.Int kind) → (v : Value) → Fills t v
  int_fills t kind e v = bytes_by t (T.Int kind) e v ∙ length-little_endian _ _ ∙ sym (size_by t (T.Int kind) e)

  scalar_fills : (t : ℕ) (o : Option Ty) → slice_get p.types.types t ≡ o → is_scalar o ≡ true → (v : Value) → Fills t v
  scalar_fills t None e h v = cc
  scalar_fills t (Some (T.Int kind)) e h v = int_fills t kind e v
  scalar_fills t (Some (T.Pointer u)) e h v = bytes_by t (T.Pointer u) e v ∙ length-little_endian _ _ ∙ sym (size_by t (T.Pointer u) e)
  scalar_fills t (Some T.VoidPointer) e h v = bytes_by t T.VoidPointer e v ∙ length-little_endian _ _ ∙ sym (size_by t T.VoidPointer e)
  scalar_fills t (Some (T.Function g)) e h v = bytes_by t (T.Function g) e v ∙ length-little_endian _ _ ∙ sym (size_by t (T.Function g) e)
  scalar_fills t (Some (T.Struct s)) e h v = cc
  scalar_fills t (Some (T.Union u)) e h v = cc
  scalar_fills t (Some (T.Array u n)) e h v = cc

  no_size : (t : ℕ) → slice_get p.types.types t ≡ None → 0 ≡ size_of p.types t
  no_size t e = by_length (length p.types.types)
    where
      by_length : (n : ℕ) → 0 ≡ (by_fuel p.types (shape_step p.types) (shape 0 1) n t).size
      by_length zero = refl
      by_length (suc n) = ap (λ o. (at_type (shape_step p.types (by_fuel p.types (shape_step p.types) (shape 0 1) n)) (shape 0 1) o).size) (sym e)

  zero_fills : (t : ℕ) → Fills t (zero_of p.types t)
  zero_fills t = by (slice_get p.types.types t) refl
    where
      by : (o : Option Ty) → slice_get p.types.types t ≡ o → Fills t (zero_of p.types t)
      by None e = sym (ap length (value_none p.types built a t e (zero_of p.types t))) ∙ no_size t e
      by (Some ty) e =
          let none : Store = record { objects = [] } in
          length-bytes_of p none built a t (zero_of p.types t) (zero_typed p built none t (slice_get_within p.types.types t ty e))

  zeros_fill : (ts : List ℕ) → Fill ts (map (zero_of p.types) ts)
  zeros_fill [] = tt
  zeros_fill (t ∷ ts) = (zero_fills t, zeros_fill ts)

  -- arrays and structs of values that fill their types
  items_fill : (u n : ℕ) (vs : List Value) → Fill (replicate n u) vs → length (spec.items_bytes (spec.bytes_of p.types a u) vs) ≡ size_of p.types u * n
  items_fill u zero [] h = omega arith
  items_fill u zero (v ∷ vs) h = absurd h
  items_fill u (suc n) [] h = absurd h
  items_fill u (suc n) (v ∷ vs) h =
      let here = h.0 in
      let rest = items_fill u n vs h.1 in
      omega (arith, here, rest, length-append (spec.bytes_of p.types a u v) (spec.items_bytes (spec.bytes_of p.types a u) vs))

  fields_fill : (size : ℕ) (fs : List FieldDef) (vs : List Value) (end : ℕ) → Fill (map (λ (f : FieldDef). f.ty) fs) vs → fields_end (shape_of p.types) end fs ≤ size → length (spec.fields_bytes (shape_of p.types) (spec.bytes_of p.types a) size fs vs end) + end ≡ size
  fields_fill size [] [] end h le = omega (arith, length-replicate {A = ℕ} (size - end) 0)
  fields_fill size [] (v ∷ vs) end h le = absurd h
  fields_fill size (f ∷ fs) [] end h le = absurd h
  fields_fill size (f ∷ fs) (v ∷ vs) end h le =
      let here = h.0 in
      let rest = fields_fill size fs vs (field_end (shape_of p.types) end f) h.1 le in
      let above = next_multiple-above end (align_of p.types f.ty) (low p.types built f.ty) in
      simp (length-append, length-replicate) (omega (arith, here, rest, above))

  composed_fills : (t : ℕ) (o : Option Ty) → slice_get p.types.types t ≡ o → (vs : List Value) → Fill (item_types_in p.types o) vs → Fills t (composed_in (zero_of p.types t) o vs)
  composed_fills t (Some (T.Array u n)) e vs h =
      bytes_by t (T.Array u n) e (Array vs) ∙ ap (λ l. length (spec.items_bytes (spec.bytes_of p.types a u) (spec.parts_in l))) (outs-Array vs) ∙ items_fill u n vs h ∙ sym (size_by t (T.Array u n) e)
  composed_fills t (Some (T.Struct s)) e vs h =
      let fs = fields_of p.types s in
      let S = shape_of p.types in
      let above = next_multiple-above (fields_end S 0 fs) (greatest_align S fs) (greatest_align-low S fs) in
      let all = fields_fill (struct_shape S fs).size fs vs 0 h above in
      bytes_by t (T.Struct s) e (Struct vs) ∙ ap (λ l. length (spec.struct_bytes S (spec.bytes_of p.types a) fs (spec.parts_in l))) (outs-Struct vs) ∙ omega (arith, all) ∙ sym (size_by t (T.Struct s) e)
  composed_fills t None e vs h = zero_fills t
  composed_fills t (Some (T.Int k)) e vs h = zero_fills t
  composed_fills t (Some (T.Pointer u)) e vs h = zero_fills t
  composed_fills t (Some T.VoidPointer) e vs h = zero_fills t
  composed_fills t (Some (T.Function g)) e vs h = zero_fills t
  composed_fills t (Some (T.Union u)) e vs h = zero_fills t

  text_fills : (u : ℕ) (kind : IntKind) → slice_get p.types.types u ≡ Some (T.Int kind) → (n : ℕ) (bytes : List ℕ) → length bytes ≤ n → Fill (replicate n u) (text_items p.types (replicate n u) bytes)
  text_fills u kind e zero [] h = tt
  text_fills u kind e zero (b ∷ bs) h = absurd (omega arith)
  text_fills u kind e (suc n) [] h = zeros_fill (replicate (suc n) u)
  text_fills u kind e (suc n) (b ∷ bs) h = (int_fills u kind e _, text_fills u kind e n bs (omega (arith, h)))

  -- element or field k of a type by its number
  item_at : (o : Option Ty) (k : ℕ) → slice_get (item_types_in p.types o) k ≡ item_type_in p.types o k
  item_at None k = refl
  item_at (Some (T.Array u n)) k = in_array n k
    where
      in_array : (n k : ℕ) → slice_get (replicate n u) k ≡ cond (nat_lt k n) (Some u) None
      in_array zero k = let no : nat_lt k 0 ≡ false = grind (arith, nat_tests) in ap (λ b. cond b (Some u) None) (sym no)
      in_array (suc n) zero = let yes_it : nat_lt 0 (suc n) ≡ true = grind (arith, nat_tests) in ap (λ b. cond b (Some u) None) (sym yes_it)
      in_array (suc n) (suc k) = in_array n k ∙ ap (λ b. cond b (Some u) None) (same (nat_lt k n) refl)
        where
          same : (b : Bool) → nat_lt k n ≡ b → nat_lt k n ≡ nat_lt (suc k) (suc n)
          same true h = grind (arith, nat_tests)
          same false h = grind (arith, nat_tests)
  item_at (Some (T.Struct s)) k = slice_get-map (λ (f : FieldDef). f.ty) (fields_of p.types s) k
  item_at (Some (T.Int kind)) k = refl
  item_at (Some (T.Pointer u)) k = refl
  item_at (Some T.VoidPointer) k = refl
  item_at (Some (T.Function g)) k = refl
  item_at (Some (T.Union u)) k = refl

  text_fits : (t : ℕ) (o : Option Ty) → slice_get p.types.types t ≡ o → (bytes : List ℕ) → takes_bytes p.types o (length bytes) ≡ true → Fill (item_types_in p.types o) (text_items p.types (item_types_in p.types o) bytes)
  text_fits t (Some (T.Array u n)) e bytes h =
      character (slice_get p.types.types u) refl (and_left (is_character (slice_get p.types.types u)) (nat_le (length bytes) n) h)
    where
      few : length bytes ≤ n
      few = let l = and_right (is_character (slice_get p.types.types u)) (nat_le (length bytes) n) h in grind (arith, nat_tests, l)

      character : (o : Option Ty) → slice_get p.types.types u ≡ o → is_character o ≡ true → Fill (replicate n u) (text_items p.types (replicate n u) bytes)
      character (Some (T.Int kind)) q c = text_fills u kind q n bytes few
      character None q c = cc
      character (Some (T.Pointer v)) q c = cc
      character (Some T.VoidPointer) q c = cc
      character (Some (T.Function g)) q c = cc
      character (Some (T.Struct s)) q c = cc
      character (Some (T.Union v)) q c = cc
      character (Some (T.Array v m)) q c = cc
  text_fits t None e bytes h = cc
  text_fits t (Some (T.Int k)) e bytes h = cc
  text_fits t (Some (T.Pointer u)) e bytes h = cc
  text_fits t (Some T.VoidPointer) e bytes h = cc
  text_fits t (Some (T.Function g)) e bytes h = cc
  text_fits t (Some (T.Struct s)) e bytes h = cc
  text_fits t (Some (T.Union u)) e bytes h = cc

  mutual
    -- a valid initialiser's value fills its type
    init_fills : (g room t : ℕ) (init : Init) → is_initialiser p g room t init ≡ true → Fills t (initial_value (initial_scope p) t init)
    init_fills g room t Zero h = cc
    init_fills g room t (One e) h =
        let constant = and_left (is_constant_of p g t e) _ h in
        let scalar = and_left (is_scalar (slice_get p.types.types t)) _ (and_right _ _ (and_right (is_typed p e) _ constant)) in
        scalar_fills t (slice_get p.types.types t) refl scalar _
    init_fills g room t (Bytes_text bytes) h =
        composed_fills t (slice_get p.types.types t) refl _ (text_fits t (slice_get p.types.types t) refl bytes (and_right (nat_lt 0 room) _ h))
    init_fills g room t (List' m inits) h =
        composed_fills t (slice_get p.types.types t) refl _ (row_fills g (room - 1) t 0 inits (item_types p.types t) (λ j. (let same : j ≡ 0 + j = omega arith in item_at (slice_get p.types.types t) j ∙ ap (item_type p.types t) same)) (and_right _ (are_items p g (room - 1) t 0 inits) (and_right (nat_lt 0 room) _ h)))

    row_fills : {m : _} (g room t k : ℕ) (row : Row_of-Init m) (ts : List ℕ) → ((j : ℕ) → slice_get ts j ≡ item_type p.types t (k + j)) → are_items p g room t k row ≡ true → Fill ts (initial_items (initial_scope p) ts row)
    row_fills g room t k end_of-Init ts at h = zeros_fill ts
    row_fills g room t k (more_of-Init x rest) [] at h = tt
    row_fills g room t k (more_of-Init x rest) (u ∷ ts) at h =
        let here : k ≡ k + 0 = omega arith in
        let found : item_type p.types t k ≡ Some u = ap (item_type p.types t) here ∙ sym (at 0) in
        let one : option_map_or (λ u. is_initialiser p g room u x) (item_type p.types t k) false ≡ true = and_left _ (are_items p g room t (k + 1) rest) h in
        let head : is_initialiser p g room u x ≡ true = ap (λ o. option_map_or (λ u. is_initialiser p g room u x) o false) (sym found) ∙ one in
        let next : (j : ℕ) → slice_get ts j ≡ item_type p.types t (k + 1 + j) = λ j. (let more : k + suc j ≡ k + 1 + j = omega arith in at (suc j) ∙ ap (item_type p.types t) more) in
        (init_fills g room u x head, row_fills g room t (k + 1) rest ts next (and_right (option_map_or (λ u. is_initialiser p g room u x) (item_type p.types t k) false) (are_items p g room t (k + 1) rest) h))

  start_fills : (g t : ℕ) (init : Init) → is_start p g t init ≡ true → Fills t (initial_value (initial_scope p) t init)
  start_fills g t Zero h = zero_fills t
  start_fills g t (One e) h = init_fills g initial_room t (One e) h
  start_fills g t (Bytes_text bytes) h = init_fills g initial_room t (Bytes_text bytes) h
  start_fills g t (List' m inits) h = init_fills g initial_room t (List' m inits) h

  -- the value of an array is an array
  module _ (t u n : ℕ) (e : slice_get p.types.types t ≡ Some (T.Array u n)) where
    IsArray : Value → Type 0
    IsArray v = items_in (out-Value v) ≡ spec.parts_in (out-Value v)

    array_is : (vs : List Value) → IsArray (Array vs)
    unfolding IsArray
    array_is vs = ap items_in (outs-Array vs) ∙ sym (ap spec.parts_in (outs-Array vs))

    composed_array : (vs : List Value) → IsArray (composed p.types t vs)
    composed_array vs = subst (λ o. IsArray (composed_in (zero_of p.types t) o vs)) (sym e) (array_is vs)

    start_array : (g : ℕ) (init : Init) → is_start p g t init ≡ true → IsArray (initial_value (initial_scope p) t init)
    start_array g Zero h = subst IsArray (sym (zero_of-is p.types built t (T.Array u n) e)) (array_is (replicate n (zero_of p.types u)))
    start_array g (One c) h =
        let constant = and_left (is_constant_of p g t c) _ h in
        let scalar = and_left (is_scalar (slice_get p.types.types t)) _ (and_right _ _ (and_right (is_typed p c) _ constant)) in
        absurd (never (ap is_scalar (sym e) ∙ scalar))
      where
        never : is_scalar (Some (T.Array u n)) ≡ true → ⊥
        never h = cc
    start_array g (Bytes_text bytes) h = composed_array _
    start_array g (List' m inits) h = composed_array _

    object_array : (v : Value) → Fills t v → IsArray v → length (spec.elements_bytes p.types a u (items_in (out-Value v))) ≡ size_of p.types t
    unfolding IsArray
    object_array v h same =
        ap (λ vs. length (spec.items_bytes (spec.bytes_of p.types a u) vs)) same ∙ sym (bytes_by t (T.Array u n) e v) ∙ h

  object_fills : (g t : ℕ) (init : Init) → is_start p g t init ≡ true → (o : Option Ty) → slice_get p.types.types t ≡ o → length (spec.elements_bytes p.types a (elem_in t o) (elements_in o (initial_value (initial_scope p) t init))) ≡ size_of p.types t
  object_fills g t init h o e = by o e
    where
      alone : length (spec.elements_bytes p.types a t (initial_value (initial_scope p) t init ∷ [])) ≡ size_of p.types t
      alone =
          let fills = start_fills g t init h in
          omega (arith, fills, length-append (spec.bytes_of p.types a t (initial_value (initial_scope p) t init)) [])

      by : (o : Option Ty) → slice_get p.types.types t ≡ o → length (spec.elements_bytes p.types a (elem_in t o) (elements_in o (initial_value (initial_scope p) t init))) ≡ size_of p.types t
      by None e = alone
      by (Some (T.Int k)) e = alone
      by (Some (T.Pointer u)) e = alone
      by (Some T.VoidPointer) e = alone
      by (Some (T.Function g)) e = alone
      by (Some (T.Struct s)) e = alone
      by (Some (T.Union u)) e = alone
      by (Some (T.Array u n)) e = object_array t u n e (initial_value (initial_scope p) t init) (start_fills g t init h) (start_array t u n e g init h)

-- a global's bytes are as many as its type has
pub global_whole : (p : Program) → IsBuilt p.types → (g : ℕ) (d : Text.Global) → is_start p g d.ty d.init ≡ true → length (machine_global p d).bytes ≡ size_of p.types d.ty
global_whole p built g d h = object_fills p built (addresses p.types (initial_store p)) g d.ty d.init h (slice_get p.types.types d.ty) refl
