-- Places of a store: what stands there, and where its bytes are.
use Rattle.std.proofs.Common.{◌≡◌, ◌∙◌, refl, ap, sym, subst, Bool, true, false, ◌&&◌, cond, ℕ, zero, suc, ◌+◌, ◌-◌, ◌*◌, ◌<◌, List, [], ◌∷◌, ◌++◌, length, take, drop, Some, None, Ok, arith, append_assoc, length-append, nat_lt, nat_le, nat_eq}
use Rattle.std.specs.Prelude.{slice_get}
use Rattle.std.specs.List.{list_all, list_any}
use Rattle.std.specs.Option.{option_map, option_map_or}
use Rattle.std.proofs.Math.Seq.{drop-append_seam, take-append_seam}
use Rattle.std.proofs.lemmas.Bool.Decides.{nat_tests}
use Rattle.std.specs.FinMap as map
use Rattle.lu_spec.specs.Then.{then_option}
use Rattle.lu_spec.specs.Splice.{piece_at}
use Rattle.lu_spec.proofs.ThenLemmas.{then_some}
use Rattle.lu_base.specs.declared.trap.Trap.TheVariants.{BadCode}
use Rattle.c_types.specs.Refusal.{IsBuilt}
use Rattle.c_types.specs.declared.parts.FieldDef.{FieldDef}
use Rattle.c_types.specs.declared.parts.Ty.{Ty}
use Rattle.c_types.specs.declared.parts.Ty.TheVariants.{Int as Int_type, Pointer as Pointer_type, VoidPointer, Function as Function_type, Struct, Union, Array}
use Rattle.c_types.specs.declared.path.Place as T_place
use Rattle.c_types.specs.declared.path.Step.{Step}
use Rattle.c_types.specs.declared.path.Step.TheVariants.{Index, Field, Member}
use Rattle.c_types.specs.Tables.{fields_of}
use Rattle.c_types.specs.Layout.{size_of, field_offset}
use Rattle.c_types.specs.Place.{place, step_place, path_place, object_place, is_member}
use Rattle.c_types.proofs.PlaceLaws.{same-place, index-step, field-step, first-of}
use Rattle.c_types.proofs.ObjectLaws.{element-of, object-within}
use Rattle.c_types.proofs.PathLaws.{or_false}
use Rattle.src_tree.specs.declared.value.Value.{Value, out-Value}
use Rattle.src_tree.specs.declared.value.Value.TheOpen as V
use Rattle.src_tree.specs.declared.value.Object.{Object}
use Rattle.src_tree.specs.declared.value.Store.{Store}
use Rattle.src_tree.specs.declared.program.Program.{Program}
use Rattle.src_meaning.specs.Paths.{Layer, part_in, part_at, element_part}
use Rattle.lu_base.specs.declared.limits.TheConstants.{FIRST_ADDRESS}
use Rattle.src_meaning.specs.Objects.{or_trap, Place, value_at, is_live, addresses, offset_in}
use Rattle.src_meaning.specs.Store.{IsStore, has_type, layer_has_type, fields_have_types, is_well_typed}
use Rattle.src_meaning.specs.ValueBytes.{items_bytes, bytes_of, elements_bytes}
use Rattle.src_meaning.proofs.LayoutLengths.{and_left, and_right, typed_within, has_type-is, length-bytes_of}
use Rattle.src_meaning.proofs.PartBytes.{bytes_at}
use Rattle.bm_objects.specs.Table.{end_of}
use Rattle.bm_code.specs.Access.{read_at}
use Rattle.cg_state.specs.Represents.{address_in, row_of, rows_of, content_of}
use Rattle.cg_state.proofs.Tests.{le_true}
use Rattle.cg_state.proofs.Typed.{Typed}
use Rattle.cg_state.proofs.Memory.{stands, find_row, get_content, address_is}

pub all_get : {A : Type 0} (g : A → Bool) (xs : List A) (k : ℕ) (x : A) → list_all g xs ≡ true → slice_get xs k ≡ Some x → g x ≡ true
all_get g [] k x h e = absurd (cc)
all_get g (y ∷ xs) zero x h e = let same : y ≡ x = cc in ap g (sym same) ∙ and_left (g y) (list_all g xs) h
all_get g (y ∷ xs) (suc k) x h e = all_get g xs k x (and_right (g y) (list_all g xs) h) e

module _ (p : Program) (built : IsBuilt p.types) (s : Store) (ok : IsStore p s) where
  -- the elements of a live object
  pub elements_typed : (o : ℕ) (x : Object) (vs : List Value) → slice_get s.objects o ≡ Some x → x.elements ≡ Some vs → (length vs ≡ x.count) × (list_all (has_type p s x.elem) vs ≡ true)
  elements_typed o x vs e live =
      let one : is_well_typed p s x ≡ true = all_get (is_well_typed p s) s.objects o x ok.typed e in
      let two : (nat_eq (length vs) x.count && list_all (has_type p s x.elem) vs) ≡ true = subst (λ l. Rattle.src_meaning.specs.Store.are_elements p s x l ≡ true) live one in
      (grind (arith, nat_tests, and_left (nat_eq (length vs) x.count) (list_all (has_type p s x.elem) vs) two), and_right (nat_eq (length vs) x.count) (list_all (has_type p s x.elem) vs) two)

  -- a part of a value, with its type
  pub record PartOf (l : Layer) (st : Step) (u : ℕ) : Type 0 where
    pub value : Value
    pub is : part_in l st ≡ Some value
    pub typed_part : Typed p built s u value

  field_part : (fs : List FieldDef) (vs : List Value) (k : ℕ) (d : FieldDef) → fields_have_types (has_type p s) fs vs ≡ true → slice_get fs k ≡ Some d → (v : Value) × (slice_get vs k ≡ Some v) × Typed p built s d.ty v
  field_part [] vs k d h e = absurd (cc)
  field_part (f ∷ fs) [] k d h e = absurd (cc)
  field_part (f ∷ fs) (v ∷ vs) zero d h e =
      let same : f ≡ d = cc in (v, refl, subst (λ (d : FieldDef). Typed p built s d.ty v) same (and_left (has_type p s f.ty v) (fields_have_types (has_type p s) fs vs) h))
  field_part (f ∷ fs) (v ∷ vs) (suc k) d h e = field_part fs vs k d (and_right (has_type p s f.ty v) (fields_have_types (has_type p s) fs vs) h) e

  pub item_part : (u : ℕ) (vs : List Value) (k : ℕ) → list_all (has_type p s u) vs ≡ true → k < length vs → (v : Value) × (slice_get vs k ≡ Some v) × Typed p built s u v
  item_part u [] k h lt = absurd (omega arith)
  item_part u (v ∷ vs) zero h lt = (v, refl, and_left (has_type p s u v) (list_all (has_type p s u) vs) h)
  item_part u (v ∷ vs) (suc k) h lt = item_part u vs k (and_right (has_type p s u v) (list_all (has_type p s u) vs) h) (omega arith)

  -- a step outside unions leads to a part
  pub step_part : (st : Step) (ty : Ty) (l : Layer) (to : T_place.Place) → layer_has_type p s (has_type p s) ty l ≡ true → step_place p.types (Some ty) st ≡ Some to → is_member st ≡ false → PartOf l st to.ty
  step_part (Field k) (Struct n) (V.Struct vs) to h e out =
      let f = field-step (slice_get (fields_of p.types n) k) (field_offset p.types n k) to e in
      let part = field_part (fields_of p.types n) vs k f.0 h f.1 in
      record { value = part.0; is = part.1; typed_part = subst (λ (q : T_place.Place). Typed p built s q.ty part.0) f.2 part.2 }
  step_part (Index k) (Array u n) (V.Array vs) to h e out =
      let i = index-step (nat_lt k n) (place u (k * size_of p.types u)) to e in
      let count : length vs ≡ n = grind (arith, nat_tests, and_left (nat_eq (length vs) n) (list_all (has_type p s u) vs) h) in
      let lt : k < length vs = grind (arith, nat_tests, i.0, count) in
      let part = item_part u vs k (and_right (nat_eq (length vs) n) (list_all (has_type p s u) vs) h) lt in
      record { value = part.0; is = part.1; typed_part = subst (λ (q : T_place.Place). Typed p built s q.ty part.0) i.1 part.2 }
  step_part (Member k) ty l to h e out = absurd (cc)
  step_part (Field k) (Struct n) (V.Int z) to h e out = absurd (cc)
  step_part (Field k) (Struct n) V.Null to h e out = absurd (cc)
  step_part (Field k) (Struct n) (V.Pointer o j) to h e out = absurd (cc)
  step_part (Field k) (Struct n) (V.Function f) to h e out = absurd (cc)
  step_part (Field k) (Struct n) (V.Array vs) to h e out = absurd (cc)
  step_part (Field k) (Struct n) (V.Union j body) to h e out = absurd (cc)
  step_part (Index k) (Array u n) (V.Int z) to h e out = absurd (cc)
  step_part (Index k) (Array u n) V.Null to h e out = absurd (cc)
  step_part (Index k) (Array u n) (V.Pointer o j) to h e out = absurd (cc)
  step_part (Index k) (Array u n) (V.Function f) to h e out = absurd (cc)
  step_part (Index k) (Array u n) (V.Struct vs) to h e out = absurd (cc)
  step_part (Index k) (Array u n) (V.Union j body) to h e out = absurd (cc)
  step_part (Field k) (Int_type kind) l to h e out = absurd (cc)
  step_part (Field k) (Pointer_type u) l to h e out = absurd (cc)
  step_part (Field k) VoidPointer l to h e out = absurd (cc)
  step_part (Field k) (Function_type g) l to h e out = absurd (cc)
  step_part (Field k) (Union n) l to h e out = absurd (cc)
  step_part (Field k) (Array u n) l to h e out = absurd (cc)
  step_part (Index k) (Int_type kind) l to h e out = absurd (cc)
  step_part (Index k) (Pointer_type u) l to h e out = absurd (cc)
  step_part (Index k) VoidPointer l to h e out = absurd (cc)
  step_part (Index k) (Function_type g) l to h e out = absurd (cc)
  step_part (Index k) (Struct n) l to h e out = absurd (cc)
  step_part (Index k) (Union n) l to h e out = absurd (cc)

  -- a path outside unions leads to a part
  pub path_part : (path : List Step) (t : ℕ) (v : Value) (to : T_place.Place) → Typed p built s t v → path_place p.types t path ≡ Some to → list_any is_member path ≡ false → (q : Value) × (part_at v path ≡ Some q) × Typed p built s to.ty q
  path_part [] t v to h e out =
      let q = same-place t 0 to.ty to.offset e in (v, refl, subst (λ t. Typed p built s t v) q.0 h)
  path_part (st ∷ path) t v to h e out =
      let ty = typed_within p s (length p.types.types) t v h in
      let f = first-of p.types t st path to e in
      let outs = or_false (is_member st) (list_any is_member path) out in
      let one = step_part st ty.0 (out-Value v) f.part (sym (has_type-is p s built [] t ty.0 ty.1 v) ∙ h) (subst (λ o. step_place p.types o st ≡ Some f.part) ty.1 f.step) outs.0 in
      let rest = path_part path f.part.ty one.value f.last one.typed_part f.rest outs.1 in
      (rest.0, ap (λ o. then_option o (λ q. part_at q path)) one.is ∙ rest.1, subst (λ t. Typed p built s t rest.0) f.ty rest.2)

  -- a part of a live object, by its path
  pub record IsPart (u : ℕ) (q : Place) : Type 0 where
    pub object : Object
    pub elements : List Value
    pub at : slice_get s.objects q.object ≡ Some object
    pub live : object.elements ≡ Some elements
    pub offset : ℕ
    pub leads : object_place p.types object.elem object.count q.path ≡ Some (place u offset)
    pub value : Value
    pub is : element_part elements q.path ≡ Some value
    pub is_typed : Typed p built s u value

  -- the word of a place
  abbrev pub place_word : Place → ℕ
  place_word q =
      address_in (addresses p.types s) q.object + option_map_or (λ x. option_map_or (λ k. k) (offset_in p.types x q.path) 0) (slice_get s.objects q.object) 0

  pub offset_is : (x : Object) (path : List Step) (u k : ℕ) → object_place p.types x.elem x.count path ≡ Some (place u k) → offset_in p.types x path ≡ Some k
  offset_is x [] u k e = absurd (cc)
  offset_is x (st ∷ path) u k e = ap (option_map (λ (to : T_place.Place). to.offset)) e

  pub place_word_is : (u : ℕ) (q : Place) (h : IsPart u q) → place_word q ≡ (stands (length p.sites) p.types FIRST_ADDRESS s.objects q.object h.object h.at).address + h.offset
  place_word_is u q h =
      let a = address_is (length p.sites) p.types s q.object h.object h.at in
      let k : option_map_or (λ x. option_map_or (λ k. k) (offset_in p.types x q.path) 0) (slice_get s.objects q.object) 0 ≡ h.offset = ap (λ o. option_map_or (λ x. option_map_or (λ k. k) (offset_in p.types x q.path) 0) o 0) h.at ∙ ap (λ o. option_map_or (λ k. k) o 0) (offset_is h.object q.path u h.offset h.leads) in
      omega (arith, a, k)

  pub value_is : (u : ℕ) (q : Place) (h : IsPart u q) → value_at s q ≡ Ok h.value
  value_is u q h =
      ap (λ o. or_trap BadCode (then_option (then_option o (λ x. x.elements)) (λ es. element_part es q.path))) h.at
      ∙ (ap (λ o. or_trap BadCode (then_option o (λ es. element_part es q.path))) h.live ∙ ap (or_trap BadCode) h.is)

  -- the bytes of the elements around one of them
  items_around : (rec : Value → List ℕ) (u size : ℕ) → ((v : Value) → has_type p s u v ≡ true → length (rec v) ≡ size) → (vs : List Value) (k : ℕ) (v : Value) → list_all (has_type p s u) vs ≡ true → slice_get vs k ≡ Some v → (before after : List ℕ) × (length before ≡ k * size) × (items_bytes rec vs ≡ before ++ (rec v ++ after))
  items_around rec u size lengths [] k v h e = absurd (cc)
  items_around rec u size lengths (x ∷ vs) zero v h e =
      let same : x ≡ v = cc in ([], items_bytes rec vs, omega arith, ap (λ x. rec x ++ items_bytes rec vs) same)
  items_around rec u size lengths (x ∷ vs) (suc k) v h e =
      let here = lengths x (and_left (has_type p s u x) (list_all (has_type p s u) vs) h) in
      let rest = items_around rec u size lengths vs k v (and_right (has_type p s u x) (list_all (has_type p s u) vs) h) e in
      (rec x ++ rest.0, rest.1, omega (arith, length-append (rec x) rest.0, here, rest.2), ap (λ l. rec x ++ l) rest.3 ∙ sym (append_assoc (rec x) rest.0 (rec v ++ rest.1)))

  -- where the bytes of a part stand in its object
  pub part_bytes : (u : ℕ) (q : Place) (h : IsPart u q) → (before after : List ℕ) × (length before ≡ h.offset) × (elements_bytes p.types (addresses p.types s) h.object.elem h.elements ≡ before ++ (bytes_of p.types (addresses p.types s) u h.value ++ after))
  part_bytes u q h =
      let a = addresses p.types s in
      let rec = bytes_of p.types a in
      let el = element-of p.types h.object.elem h.object.count q.path (place u h.offset) h.leads in
      let is : element_part h.elements (Index el.number ∷ el.steps) ≡ Some h.value = subst (λ path. element_part h.elements path ≡ Some h.value) el.path_is h.is in
      let first = then_some (slice_get h.elements el.number) (λ v. part_at v el.steps) h.value is in
      let all = elements_typed q.object h.object h.elements h.at h.live in
      let lengths = λ (v : Value) (t : has_type p s h.object.elem v ≡ true). length-bytes_of p s built a h.object.elem v t in
      let one = items_around (rec h.object.elem) h.object.elem (size_of p.types h.object.elem) lengths h.elements el.number first.0 all.1 first.1 in
      let two = bytes_at p s built a el.steps h.object.elem first.0 h.value el.last (all_get (has_type p s h.object.elem) h.elements el.number first.0 all.1 first.1) el.rest first.2 in (
        one.0 ++ two.0,
        two.1 ++ one.1,
        omega (arith, length-append one.0 two.0, one.2, two.2, el.sum),
        one.3 ∙ (ap (λ m. one.0 ++ (m ++ one.1)) (two.3 ∙ ap (λ t. two.0 ++ (rec t h.value ++ two.1)) el.ty) ∙ around one.0 two.0 (rec u h.value) two.1 one.1),
      )
    where
      around : (a b m c d : List ℕ) → a ++ ((b ++ (m ++ c)) ++ d) ≡ (a ++ b) ++ (m ++ (c ++ d))
      around a b m c d = simp append_assoc

  pub piece_is : (b m c : List ℕ) (k n : ℕ) → length b ≡ k → length m ≡ n → piece_at (b ++ (m ++ c)) k n ≡ m
  piece_is b m c k n h g =
      ap (take n) (subst (λ k. drop k (b ++ (m ++ c)) ≡ m ++ c) h (drop-append_seam b (m ++ c))) ∙ subst (λ n. take n (m ++ c) ≡ m) g (take-append_seam m c)

  pub live_true : (x : Object) (vs : List Value) → x.elements ≡ Some vs → is_live x ≡ true
  live_true x vs e = ap (λ l. elim l as (λ _. Bool) [ None ↦ false | Some elements ↦ true ]) e

  -- what the machine reads at a part
  pub read_part : (u : ℕ) (q : Place) (h : IsPart u q) → read_at (content_of p.types s) (rows_of p s) (place_word q) (size_of p.types u) ≡ Some (bytes_of p.types (addresses p.types s) u h.value)
  read_part u q h =
      let st = stands (length p.sites) p.types FIRST_ADDRESS s.objects q.object h.object h.at in
      let n = size_of p.types u in
      let r = row_of (length p.sites) p.types st.address h.object in
      let m = content_of p.types s in
      let rows = rows_of p s in
      let within = object-within p.types built h.object.elem h.object.count q.path (place u h.offset) h.leads in
      let word = place_word_is u q h in
      let found = find_row (length p.sites) p.types FIRST_ADDRESS s.objects q.object h.offset h.object h.at (omega (arith, within)) in
      let parts = part_bytes u q h in
      let back : st.address + h.offset - st.address ≡ h.offset = omega arith in
      let below : nat_le (st.address + h.offset + n) (end_of r) ≡ true = le_true (st.address + h.offset + n) (end_of r) (omega (arith, within)) in
      ap (λ a. read_at m rows a n) word
      ∙ (ap (λ o. then_option (then_option o (λ r. cond (r.live && nat_le (st.address + h.offset + n) (end_of r)) (Some r) None)) (λ r. option_map (λ bytes. piece_at bytes (st.address + h.offset - r.addr) n) (map.get m r.addr))) found
      ∙ (ap (λ b. then_option (cond (b && nat_le (st.address + h.offset + n) (end_of r)) (Some r) None) (λ r. option_map (λ bytes. piece_at bytes (st.address + h.offset - r.addr) n) (map.get m r.addr))) (live_true h.object h.elements h.live)
      ∙ (ap (λ b. then_option (cond b (Some r) None) (λ r. option_map (λ bytes. piece_at bytes (st.address + h.offset - r.addr) n) (map.get m r.addr))) below
      ∙ (ap (option_map (λ bytes. piece_at bytes (st.address + h.offset - st.address) n)) (get_content (length p.sites) p.types s q.object h.object h.elements h.at h.live)
      ∙ ap Some (ap (λ k. piece_at (elements_bytes p.types (addresses p.types s) h.object.elem h.elements) k n) back ∙ (ap (λ l. piece_at l h.offset n) parts.3 ∙ piece_is parts.0 (bytes_of p.types (addresses p.types s) u h.value) parts.1 h.offset n parts.2 (length-bytes_of p s built (addresses p.types s) u h.value h.is_typed)))))))
