-- The bytes of a value stay where the addresses of the objects that it names stay.
use Rattle.std.proofs.Common.{◌≡◌, ◌∙◌, refl, ap, sym, Bool, true, ℕ, ◌+◌, ◌-◌, ◌<◌, List, [], ◌∷◌, ◌++◌, length, Option, Some, None, arith}
use Rattle.std.specs.Prelude.{slice_get, Contains}
use Rattle.std.specs.List.{list_all}
use Rattle.std.proofs.lemmas.Option.{slice_get_within}
use Rattle.lu_spec.specs.LittleEndian.{little_endian}
use Rattle.c_types.specs.declared.parts.FieldDef.{FieldDef}
use Rattle.c_types.specs.declared.parts.Ty.{Ty}
use Rattle.c_types.specs.declared.parts.Ty.TheVariants as T
use Rattle.c_types.specs.Chain.{field_types, held_in}
use Rattle.c_types.specs.Tables.{fields_of, members_of}
use Rattle.c_types.specs.Layout.{Shapes, shape_of, field_start, field_end, struct_shape, members_start, union_shape}
use Rattle.src_tree.specs.declared.value.Value.{Value, out-Value}
use Rattle.src_tree.specs.declared.value.Value.TheOpen as V
use Rattle.src_tree.specs.declared.value.Store.{Store}
use Rattle.src_tree.specs.declared.program.Program.{Program}
use Rattle.src_meaning.specs.Paths.{Layer}
use Rattle.src_meaning.specs.Store.{has_type, layer_has_type, fields_have_types, member_has_type, is_address}
use Rattle.src_meaning.specs.ValueBytes.{Addresses, Bytes, zeros, pointer_in, parts_in, fields_bytes, items_bytes, body_bytes, union_bytes, bytes_step, bytes_of, elements_bytes}
use Rattle.src_meaning.proofs.LayoutLengths.{and_left, and_right, has_type-is, bytes_of-is, head_in, tail_in, field_in, struct_layer, array_layer, typed_within}
use Rattle.cg_state.specs.Represents.{address_in}
use Rattle.src_laws.proofs.Induction.{type-induction}
use Rattle.c_types.specs.Refusal.{IsBuilt}

module _ (p : Program) (built : IsBuilt p.types) (s : Store) (a b : Addresses) (same : (o k : ℕ) → is_address p s o k ≡ true → address_in b o ≡ address_in a o) where
  abbrev one : Bytes
  one = bytes_of p.types a

  abbrev two : Bytes
  two = bytes_of p.types b

  abbrev known : Shapes
  known = shape_of p.types

  abbrev has : ℕ → Value → Bool
  has = has_type p s

  abbrev Keeps : ℕ → Type 0
  Keeps t = (v : Value) → has t v ≡ true → one t v ≡ two t v

  pointers_keep : (u : ℕ) (l : Layer) → layer_has_type p s has (T.Pointer u) l ≡ true → pointer_in a l ≡ pointer_in b l
  pointers_keep u (V.Pointer o k) h = ap (λ n. n + k) (sym (same o k h))
  pointers_keep u V.Null h = refl
  pointers_keep u (V.Int z) h = absurd (cc)
  pointers_keep u (V.Function f) h = absurd (cc)
  pointers_keep u (V.Struct vs) h = absurd (cc)
  pointers_keep u (V.Array vs) h = absurd (cc)
  pointers_keep u (V.Union k body) h = absurd (cc)

  names_keep : (g : ℕ) (l : Layer) → layer_has_type p s has (T.Function g) l ≡ true → pointer_in a l ≡ pointer_in b l
  names_keep g (V.Function f) h = refl
  names_keep g V.Null h = refl
  names_keep g (V.Int z) h = absurd (cc)
  names_keep g (V.Pointer o k) h = absurd (cc)
  names_keep g (V.Struct vs) h = absurd (cc)
  names_keep g (V.Array vs) h = absurd (cc)
  names_keep g (V.Union k body) h = absurd (cc)

  fields_keep : (size : ℕ) (fs : List FieldDef) (vs : List Value) (end : ℕ) → ((u : ℕ) → Contains (field_types fs) u → Keeps u) → fields_have_types has fs vs ≡ true → fields_bytes known one size fs vs end ≡ fields_bytes known two size fs vs end
  fields_keep size [] [] end below h = refl
  fields_keep size [] (v ∷ vs) end below h = absurd (cc)
  fields_keep size (d ∷ fs) [] end below h = absurd (cc)
  fields_keep size (d ∷ fs) (v ∷ vs) end below h =
      ap (λ l. zeros (field_start known end d - end) ++ (l ++ fields_bytes known one size fs vs (field_end known end d))) (below d.ty (head_in d fs) v (and_left (has d.ty v) (fields_have_types has fs vs) h))
      ∙ ap (λ l. zeros (field_start known end d - end) ++ (two d.ty v ++ l)) (fields_keep size fs vs (field_end known end d) (λ u c. below u (tail_in d fs u c)) (and_right (has d.ty v) (fields_have_types has fs vs) h))

  items_keep : (u : ℕ) (vs : List Value) → Keeps u → list_all (has u) vs ≡ true → items_bytes (one u) vs ≡ items_bytes (two u) vs
  items_keep u [] keeps h = refl
  items_keep u (v ∷ vs) keeps h =
      ap (λ l. l ++ items_bytes (one u) vs) (keeps v (and_left (has u v) (list_all (has u) vs) h))
      ∙ ap (λ l. two u v ++ l) (items_keep u vs keeps (and_right (has u v) (list_all (has u) vs) h))

  union_keeps : (ms : List FieldDef) (n : ℕ) (l : Layer) → members_of p.types n ≡ ms → ((u : ℕ) → Contains (field_types ms) u → Keeps u) → layer_has_type p s has (T.Union n) l ≡ true → union_bytes known one ms l ≡ union_bytes known two ms l
  union_keeps ms n (V.Union k body) q below h = by (slice_get ms k) refl (ap (λ ms. member_has_type has (slice_get ms k) body) (sym q) ∙ h)
    where
      by : (o : Option FieldDef) → slice_get ms k ≡ o → member_has_type has o body ≡ true → little_endian 4 k ++ (zeros (members_start known ms - 4) ++ body_bytes known one ms o body) ≡ little_endian 4 k ++ (zeros (members_start known ms - 4) ++ body_bytes known two ms o body)
      by None e h = absurd (cc)
      by (Some d) e h =
          ap (λ l. little_endian 4 k ++ (zeros (members_start known ms - 4) ++ (l ++ zeros ((union_shape known ms).size - (members_start known ms + (known d.ty).size))))) (below d.ty (field_in ms k d e) body h)
  union_keeps ms n (V.Int z) q below h = absurd (cc)
  union_keeps ms n V.Null q below h = absurd (cc)
  union_keeps ms n (V.Pointer o k) q below h = absurd (cc)
  union_keeps ms n (V.Function f) q below h = absurd (cc)
  union_keeps ms n (V.Struct vs) q below h = absurd (cc)
  union_keeps ms n (V.Array vs) q below h = absurd (cc)

  step_keeps : (t : ℕ) (ty : Ty) → slice_get p.types.types t ≡ Some ty → ((u : ℕ) → Contains (held_in p.types (Some ty)) u → Keeps u) → (v : Value) → layer_has_type p s has ty (out-Value v) ≡ true → bytes_step p.types a one ty v ≡ bytes_step p.types b two ty v
  step_keeps t (T.Int kind) e below v h = refl
  step_keeps t (T.Pointer u) e below v h = ap (little_endian p.types.pointer) (pointers_keep u (out-Value v) h)
  step_keeps t T.VoidPointer e below v h = ap (little_endian p.types.pointer) (pointers_keep 0 (out-Value v) (as_pointer (out-Value v) h))
    where
      as_pointer : (l : Layer) → layer_has_type p s has T.VoidPointer l ≡ true → layer_has_type p s has (T.Pointer 0) l ≡ true
      as_pointer (V.Pointer o k) h = h
      as_pointer V.Null h = refl
      as_pointer (V.Int z) h = absurd (cc)
      as_pointer (V.Function f) h = absurd (cc)
      as_pointer (V.Struct vs) h = absurd (cc)
      as_pointer (V.Array vs) h = absurd (cc)
      as_pointer (V.Union k body) h = absurd (cc)
  step_keeps t (T.Function g) e below v h = ap (little_endian p.types.pointer) (names_keep g (out-Value v) h)
  step_keeps t (T.Struct n) e below v h =
      fields_keep (struct_shape known (fields_of p.types n)).size (fields_of p.types n) (parts_in (out-Value v)) 0 below (struct_layer p s has n (out-Value v) h)
  step_keeps t (T.Union n) e below v h = union_keeps (members_of p.types n) n (out-Value v) refl below h
  step_keeps t (T.Array u n) e below v h = items_keep u (parts_in (out-Value v)) (below u (0, omega arith, refl)) (array_layer p s has u n (out-Value v) h).1

  pub bytes_keep : (t : ℕ) → t < length p.types.types → Keeps t
  bytes_keep = type-induction p.types built Keeps (λ t ty e below v h.
      bytes_of-is p s built a t ty e v
      ∙ (step_keeps t ty e below v (sym (has_type-is p s built [] t ty e v) ∙ h) ∙ sym (bytes_of-is p s built b t ty e v)))

  pub elements_keep : (t : ℕ) (vs : List Value) → list_all (has t) vs ≡ true → elements_bytes p.types a t vs ≡ elements_bytes p.types b t vs
  elements_keep t [] h = refl
  elements_keep t (v ∷ vs) h =
      let ty = typed_within p s (length p.types.types) t v (and_left (has t v) (list_all (has t) vs) h) in
      items_keep t (v ∷ vs) (bytes_keep t (slice_get_within p.types.types t ty.0 ty.1)) h
