-- The law on parts: the bytes at a place's offset are those of the part there, and another part changes just those.
use Rattle.std.proofs.Common.{◌≡◌, ◌∙◌, refl, ap, sym, subst, Bool, true, false, ℕ, zero, suc, ◌<◌, ◌≤◌, ◌+◌, ◌-◌, ◌*◌, List, [], ◌∷◌, ◌++◌, length, Option, Some, None, slice_get, slice_set, arith, nat_lt, nat_eq, append_assoc, if◌then◌else◌}
use Rattle.std.proofs.lemmas.List.{length-replicate, length-append, append-nil}
use Rattle.std.proofs.lemmas.Bool.Decides.{nat_tests}
use Rattle.std.specs.List.{list_all}
use Rattle.lu_spec.specs.Then.{then_option}
use Rattle.lu_spec.specs.LittleEndian.{little_endian}
use Rattle.lu_spec.proofs.ThenLemmas.{then_some}
use Rattle.lu_spec.proofs.LittleEndianLemmas.{length-little_endian}
use Rattle.c_types.specs.declared.parts.FieldDef.{FieldDef}
use Rattle.c_types.specs.declared.parts.Ty.{Ty}
use Rattle.c_types.specs.declared.parts.Ty.TheVariants.{Int, Pointer, VoidPointer, Function, Struct, Union, Array}
use Rattle.c_types.specs.declared.path.Place.{Place}
use Rattle.c_types.specs.declared.path.Step.{Step}
use Rattle.c_types.specs.declared.path.Step.TheVariants.{Index, Field, Member}
use Rattle.c_types.specs.Tables.{fields_of, members_of}
use Rattle.c_types.specs.Refusal.{IsBuilt}
use Rattle.c_types.specs.Layout.{Shapes, shape_of, size_of, field_start, field_end, nth_start, field_offset, member_offset, members_start, struct_shape, union_shape}
use Rattle.c_types.specs.Place.{place, step_place, path_place}
use Rattle.c_types.proofs.Capped.{next_multiple-above}
use Rattle.c_types.proofs.PlaceLaws.{low, same-place, index-step, field-step, first-of}
use Rattle.src_tree.specs.declared.value.Value.{Value, out-Value, roll-Value, roll-out-Value, Struct as Struct_value, Array as Array_value, Union as Union_value}
use Rattle.src_tree.specs.declared.value.Value.TheVariants.{outs-Struct, outs-Array, outs-Union, rolls-Struct, rolls-Array, rolls-Union}
use Rattle.src_tree.specs.declared.value.Value.TheOpen as V
use Rattle.src_tree.specs.declared.value.Store.{Store}
use Rattle.src_tree.specs.declared.program.Program.{Program}
use Rattle.src_meaning.specs.Paths.{Layer, part_in, with_part_in, part_at, with_part}
use Rattle.src_meaning.specs.Store.{has_type, layer_has_type, fields_have_types}
use Rattle.src_meaning.specs.ValueBytes.{Addresses, Bytes, zeros, fields_bytes, struct_bytes, items_bytes, body_bytes, union_bytes, bytes_of, IsFramed}
use Rattle.src_meaning.proofs.LayoutLengths.{and_left, and_right, typed_within, array_layer, member_known, member-within, bytes_of-is, has_type-is, length-bytes_of}

-- a part among others, with its offset counted from what lies before
record Slot (whole part : Value → List ℕ) (from to : ℕ) : Type 0 where
  before : List ℕ
  after : List ℕ
  place : length before + from ≡ to
  same : (w : Value) → whole w ≡ before ++ (part w ++ after)

module _ (known : Shapes) (low : (t : ℕ) → 1 ≤ (known t).align) (rec : Bytes) (typed : ℕ → Value → Bool) (lengths : (u : ℕ) (v : Value) → typed u v ≡ true → length (rec u v) ≡ (known u).size) where
  slot-field : (size : ℕ) (fs : List FieldDef) (vs : List Value) (end k : ℕ) (d : FieldDef) → fields_have_types typed fs vs ≡ true → slice_get fs k ≡ Some d → Slot (λ w. fields_bytes known rec size fs (slice_set vs k w) end) (rec d.ty) end (nth_start known end fs k)
  slot-field size [] vs end k d h at = cc
  slot-field size (f ∷ fs) [] end k d h at = cc
  slot-field size (f ∷ fs) (v ∷ vs) end zero d h at =
      let above = next_multiple-above end (known f.ty).align (low f.ty) in
      let is_f : f ≡ d = cc in
      record {
        before = zeros (field_start known end f - end);
        after = fields_bytes known rec size fs vs (field_end known end f);
        place = simp length-replicate (omega (arith, above));
        same = λ w. ap (λ g. zeros (field_start known end f - end) ++ (rec g.ty w ++ fields_bytes known rec size fs vs (field_end known end f))) is_f;
      }
  slot-field size (f ∷ fs) (v ∷ vs) end (suc k) d h at =
      let above = next_multiple-above end (known f.ty).align (low f.ty) in
      let here = lengths f.ty v (and_left (typed f.ty v) (fields_have_types typed fs vs) h) in
      let inner = slot-field size fs vs (field_end known end f) k d (and_right (typed f.ty v) (fields_have_types typed fs vs) h) at in
      let gap = zeros (field_start known end f - end) in
      record {
        before = gap ++ (rec f.ty v ++ inner.before);
        after = inner.after;
        place = simp (length-append, length-replicate) (omega (arith, above, here, inner.place));
        same = λ w. ap (λ r. gap ++ (rec f.ty v ++ r)) (inner.same w) ∙ simp append_assoc;
      }

slot-item : (rec : Value → List ℕ) (typed : Value → Bool) (size : ℕ) → ((v : Value) → typed v ≡ true → length (rec v) ≡ size) → (vs : List Value) (k : ℕ) → list_all typed vs ≡ true → k < length vs → Slot (λ w. items_bytes rec (slice_set vs k w)) rec 0 (k * size)
slot-item rec typed size lengths [] k h lt = absurd (omega arith)
slot-item rec typed size lengths (v ∷ vs) zero h lt = record {
  before = [];
  after = items_bytes rec vs;
  place = omega arith;
  same = λ w. refl;
}
slot-item rec typed size lengths (v ∷ vs) (suc k) h lt =
    let here = lengths v (and_left (typed v) (list_all typed vs) h) in
    let inner = slot-item rec typed size lengths vs k (and_right (typed v) (list_all typed vs) h) (omega arith) in
    record {
      before = rec v ++ inner.before;
      after = inner.after;
      place = simp length-append (omega (arith, here, inner.place));
      same = λ w. ap (λ r. rec v ++ r) (inner.same w) ∙ simp append_assoc;
    }

typed_field : (typed : ℕ → Value → Bool) (fs : List FieldDef) (vs : List Value) (k : ℕ) (d : FieldDef) (part : Value) → fields_have_types typed fs vs ≡ true → slice_get fs k ≡ Some d → slice_get vs k ≡ Some part → typed d.ty part ≡ true
typed_field typed [] vs k d part h at is = cc
typed_field typed (f ∷ fs) [] k d part h at is = cc
typed_field typed (f ∷ fs) (v ∷ vs) zero d part h at is =
    let is_f : f ≡ d = cc in
    let is_v : v ≡ part = cc in
    rw (← is_f, ← is_v) (and_left (typed f.ty v) (fields_have_types typed fs vs) h)
typed_field typed (f ∷ fs) (v ∷ vs) (suc k) d part h at is = typed_field typed fs vs k d part (and_right (typed f.ty v) (fields_have_types typed fs vs) h) at is

typed_item : (typed : Value → Bool) (vs : List Value) (k : ℕ) (part : Value) → list_all typed vs ≡ true → slice_get vs k ≡ Some part → typed part ≡ true
typed_item typed [] k part h is = cc
typed_item typed (v ∷ vs) zero part h is =
    let is_v : v ≡ part = cc in rw (← is_v) (and_left (typed v) (list_all typed vs) h)
typed_item typed (v ∷ vs) (suc k) part h is = typed_item typed vs k part (and_right (typed v) (list_all typed vs) h) is

module _ (p : Program) (store : Store) (built : IsBuilt p.types) (a : Addresses) where
  -- a step's frame, and the type of the part there
  abbrev StepFrame : ℕ → Layer → Step → Value → Place → Type 0
  StepFrame t l s part to =
      IsFramed p.types a t to.ty to.offset (with_part_in l s) × (has_type p store to.ty part ≡ true)

  lengths : (u : ℕ) (v : Value) → has_type p store u v ≡ true → length (bytes_of p.types a u v) ≡ size_of p.types u
  lengths u v typed = length-bytes_of p store built a u v typed

  frame-field : (t s k : ℕ) (vs : List Value) (part : Value) (d : FieldDef) → slice_get p.types.types t ≡ Some (Struct s) → fields_have_types (has_type p store) (fields_of p.types s) vs ≡ true → slice_get (fields_of p.types s) k ≡ Some d → slice_get vs k ≡ Some part → StepFrame t (V.Struct vs) (Field k) part (place d.ty (field_offset p.types s k))
  frame-field t s k vs part d e typed at is =
      let fields = fields_of p.types s in
      let rec : Bytes = bytes_of p.types a in
      let size = (struct_shape (shape_of p.types) fields).size in
      let slot = slot-field (shape_of p.types) (low p.types built) rec (has_type p store) lengths size fields vs 0 k d typed at in (
        record {
          put = λ x. Struct_value (slice_set vs k x);
          puts = λ x. refl;
          before = slot.before;
          after = slot.after;
          place = omega (arith, slot.place);
          bytes = λ x. bytes_of-is p store built a t (Struct s) e (Struct_value (slice_set vs k x))
              ∙ (ap (λ l. struct_bytes (shape_of p.types) rec fields (Rattle.src_meaning.specs.ValueBytes.parts_in l)) (outs-Struct (slice_set vs k x)) ∙ slot.same x);
        },
        typed_field (has_type p store) fields vs k d part typed at is,
      )

  frame-item : (t u n k : ℕ) (vs : List Value) (part : Value) → slice_get p.types.types t ≡ Some (Array u n) → (length vs ≡ n) × (list_all (has_type p store u) vs ≡ true) → k < n → slice_get vs k ≡ Some part → StepFrame t (V.Array vs) (Index k) part (place u (k * size_of p.types u))
  frame-item t u n k vs part e typed lt is =
      let rec : Bytes = bytes_of p.types a in
      let slot = slot-item (rec u) (has_type p store u) (size_of p.types u) (lengths u) vs k typed.1 (omega (arith, lt, typed.0)) in (
        record {
          put = λ x. Array_value (slice_set vs k x);
          puts = λ x. refl;
          before = slot.before;
          after = slot.after;
          place = omega (arith, slot.place);
          bytes = λ x. bytes_of-is p store built a t (Array u n) e (Array_value (slice_set vs k x))
              ∙ (ap (λ l. items_bytes (rec u) (Rattle.src_meaning.specs.ValueBytes.parts_in l)) (outs-Array (slice_set vs k x)) ∙ slot.same x);
        },
        typed_item (has_type p store u) vs k part typed.1 is,
      )

  frame-member : (t u k : ℕ) (body : Value) (d : FieldDef) → slice_get p.types.types t ≡ Some (Union u) → slice_get (members_of p.types u) k ≡ Some d → has_type p store d.ty body ≡ true → StepFrame t (V.Union k body) (Member k) body (place d.ty (member_offset p.types u))
  frame-member t u k body d e at typed =
      let ms = members_of p.types u in
      let known = shape_of p.types in
      let rec : Bytes = bytes_of p.types a in
      let within = member-within known (low p.types built) rec ms k d at in
      let rest = zeros ((union_shape known ms).size - (members_start known ms + (known d.ty).size)) in (
        record {
          put = λ x. Union_value k x;
          puts = λ x. refl;
          before = little_endian 4 k ++ zeros (members_start known ms - 4);
          after = rest;
          place = simp (length-append, length-replicate, length-little_endian) (omega (arith, within.0));
          bytes = λ x. bytes_of-is p store built a t (Union u) e (Union_value k x)
              ∙ (ap (union_bytes known rec ms) (outs-Union k x)
              ∙ (ap (λ o. little_endian 4 k ++ (zeros (members_start known ms - 4) ++ body_bytes known rec ms o x)) at ∙ simp append_assoc));
        },
        typed,
      )

  module _ (t : ℕ) (s : Step) (part : Value) (to : Place) where
    by_place : (l : Layer) (q : Place) → q ≡ to → StepFrame t l s part q → StepFrame t l s part to
    by_place l q e f = subst (StepFrame t l s part) e f

  frame-step : (t : ℕ) (s : Step) (part : Value) (to : Place) (ty : Ty) (l : Layer) → slice_get p.types.types t ≡ Some ty → layer_has_type p store (has_type p store) ty l ≡ true → step_place p.types (Some ty) s ≡ Some to → part_in l s ≡ Some part → StepFrame t l s part to
  frame-step t (Field k) part to (Struct s) (V.Struct vs) e typed at is =
      let f = field-step (slice_get (fields_of p.types s) k) (field_offset p.types s k) to at in
      by_place t (Field k) part to (V.Struct vs) (place f.0.ty (field_offset p.types s k)) f.2 (frame-field t s k vs part f.0 e typed f.1 is)
  frame-step t (Index k) part to (Array u n) (V.Array vs) e typed at is =
      let i = index-step (nat_lt k n) (place u (k * size_of p.types u)) to at in
      let lt : k < n = grind (arith, nat_tests, i.0) in
      by_place t (Index k) part to (V.Array vs) (place u (k * size_of p.types u)) i.1 (frame-item t u n k vs part e (array_layer p store (has_type p store) u n (V.Array vs) typed) lt is)
  frame-step t (Member k) part to (Union u) (V.Union active body) e typed at is = by_active (nat_eq k active) refl is
    where
      by_active : (b : Bool) → nat_eq k active ≡ b → (if b then Some body else None) ≡ Some part → StepFrame t (V.Union active body) (Member k) part to
      by_active false h is = cc
      by_active true h is =
          let same : active ≡ k = grind (arith, nat_tests, h) in
          let is_part : body ≡ part = cc in
          let f = field-step (slice_get (members_of p.types u) k) (member_offset p.types u) to at in
          let m = member_known p store (has_type p store) (slice_get (members_of p.types u) active) body typed in
          let one : Some m.0 ≡ Some f.0 = sym m.1 ∙ (ap (slice_get (members_of p.types u)) same ∙ f.1) in
          let is_d : m.0 ≡ f.0 = cc in
          let typed_part : has_type p store f.0.ty body ≡ true = ap (λ (d : FieldDef). has_type p store d.ty body) (sym is_d) ∙ m.2 in
          let here = frame-member t u k body f.0 e f.1 typed_part in
          let Q : ℕ → Value → Place → Type 0 = λ z x q. StepFrame t (V.Union z body) (Member k) x q in
          subst (λ z. Q z part to) (sym same) (subst (λ x. Q k x to) is_part (subst (λ q. Q k body q) f.2 here))
  frame-step t (Field k) part to (Struct s) (V.Int z) e typed at is = absurd (cc)
  frame-step t (Field k) part to (Struct s) V.Null e typed at is = absurd (cc)
  frame-step t (Field k) part to (Struct s) (V.Pointer o j) e typed at is = absurd (cc)
  frame-step t (Field k) part to (Struct s) (V.Function f) e typed at is = absurd (cc)
  frame-step t (Field k) part to (Struct s) (V.Array vs) e typed at is = absurd (cc)
  frame-step t (Field k) part to (Struct s) (V.Union j body) e typed at is = absurd (cc)
  frame-step t (Index k) part to (Array u n) (V.Int z) e typed at is = absurd (cc)
  frame-step t (Index k) part to (Array u n) V.Null e typed at is = absurd (cc)
  frame-step t (Index k) part to (Array u n) (V.Pointer o j) e typed at is = absurd (cc)
  frame-step t (Index k) part to (Array u n) (V.Function f) e typed at is = absurd (cc)
  frame-step t (Index k) part to (Array u n) (V.Struct vs) e typed at is = absurd (cc)
  frame-step t (Index k) part to (Array u n) (V.Union j body) e typed at is = absurd (cc)
  frame-step t (Member k) part to (Union u) (V.Int z) e typed at is = absurd (cc)
  frame-step t (Member k) part to (Union u) V.Null e typed at is = absurd (cc)
  frame-step t (Member k) part to (Union u) (V.Pointer o j) e typed at is = absurd (cc)
  frame-step t (Member k) part to (Union u) (V.Function f) e typed at is = absurd (cc)
  frame-step t (Member k) part to (Union u) (V.Struct vs) e typed at is = absurd (cc)
  frame-step t (Member k) part to (Union u) (V.Array vs) e typed at is = absurd (cc)
  frame-step t s part to (Int k) l e typed at is = absurd (cc)
  frame-step t s part to (Pointer u) l e typed at is = absurd (cc)
  frame-step t s part to VoidPointer l e typed at is = absurd (cc)
  frame-step t s part to (Function f) l e typed at is = absurd (cc)
  frame-step t (Index k) part to (Struct s) l e typed at is = absurd (cc)
  frame-step t (Member k) part to (Struct s) l e typed at is = absurd (cc)
  frame-step t (Index k) part to (Union s) l e typed at is = absurd (cc)
  frame-step t (Field k) part to (Union s) l e typed at is = absurd (cc)
  frame-step t (Field k) part to (Array u n) l e typed at is = absurd (cc)
  frame-step t (Member k) part to (Array u n) l e typed at is = absurd (cc)

  -- a frame in a frame
  compose : (t m u one two : ℕ) (c d both : Value → Option Value) → IsFramed p.types a t m one c → IsFramed p.types a m u two d → ((part x : Value) → d part ≡ Some x → both part ≡ c x) → IsFramed p.types a t u (one + two) both
  compose t m u one two c d both outer inner same = record {
    put = λ x. outer.put (inner.put x);
    puts = λ x. same x (inner.put x) (inner.puts x) ∙ outer.puts (inner.put x);
    before = outer.before ++ inner.before;
    after = inner.after ++ outer.after;
    place = simp length-append (omega (arith, outer.place, inner.place));
    bytes = λ x. outer.bytes (inner.put x) ∙ (ap (λ m. outer.before ++ (m ++ outer.after)) (inner.bytes x) ∙ simp append_assoc);
  }

  -- a part of a value changes just its own bytes
  pub frame : (path : List Step) (t : ℕ) (v part : Value) (to : Place) → has_type p store t v ≡ true → path_place p.types t path ≡ Some to → part_at v path ≡ Some part → IsFramed p.types a t to.ty to.offset (with_part v path)
  frame [] t v part to typed at is =
      let q = same-place t 0 to.ty to.offset at in
      record {
        put = λ x. x;
        puts = λ x. refl;
        before = [];
        after = [];
        place = q.1;
        bytes = λ x. ap (λ z. bytes_of p.types a z x) q.0 ∙ sym (append-nil (bytes_of p.types a to.ty x));
      }
  frame (s ∷ path) t v part to typed at is =
      let ty = typed_within p store (length p.types.types) t v typed in
      let first = then_some (part_in (out-Value v) s) (λ part. part_at part path) part is in
      let f = first-of p.types t s path to at in
      let step = frame-step t s first.0 f.part ty.0 (out-Value v) ty.1 (sym (has_type-is p store built a t ty.0 ty.1 v) ∙ typed) (rw (← ty.1) f.step) first.1 in
      let inner = frame path f.part.ty first.0 part f.last step.1 f.rest first.2 in
      let whole = compose t f.part.ty f.last.ty f.part.offset f.last.offset (with_part_in (out-Value v) s) (with_part first.0 path) (with_part v (s ∷ path)) step.0 inner (λ x y e. ap (λ o. then_option o (λ q. then_option (with_part q path x) (with_part_in (out-Value v) s))) first.1 ∙ ap (λ o. then_option o (with_part_in (out-Value v) s)) e) in
      subst (λ o. IsFramed p.types a t to.ty o (with_part v (s ∷ path))) f.sum (subst (λ z. IsFramed p.types a t z (f.part.offset + f.last.offset) (with_part v (s ∷ path))) f.ty whole)

set_same : {A : Type 0} (xs : List A) (k : ℕ) (x : A) → slice_get xs k ≡ Some x → slice_set xs k x ≡ xs
set_same [] k x e = cc
set_same (y ∷ ys) zero x e = let q : y ≡ x = cc in ap (λ z. z ∷ ys) (sym q)
set_same (y ∷ ys) (suc k) x e = ap (λ zs. y ∷ zs) (set_same ys k x e)

with_same_in : (l : Layer) (s : Step) (part v : Value) → out-Value v ≡ l → part_in l s ≡ Some part → with_part_in l s part ≡ Some v
with_same_in (V.Struct fields) (Field k) part v out is =
    ap Some (ap Struct_value (set_same fields k part is) ∙ (sym (rolls-Struct fields) ∙ (ap roll-Value (sym out) ∙ roll-out-Value v)))
with_same_in (V.Array items) (Index k) part v out is =
    ap Some (ap Array_value (set_same items k part is) ∙ (sym (rolls-Array items) ∙ (ap roll-Value (sym out) ∙ roll-out-Value v)))
with_same_in (V.Union active body) (Member k) part v out is = active_one (nat_eq k active) refl is
  where
    active_one : (b : Bool) → nat_eq k active ≡ b → (if b then Some body else None) ≡ Some part → Some (Union_value k part) ≡ Some v
    active_one true e is =
        let same : k ≡ active = grind (arith, nat_tests, e) in
        let q : body ≡ part = cc in
        rw (same, ← q) (ap Some (sym (rolls-Union active body) ∙ (ap roll-Value (sym out) ∙ roll-out-Value v)))
    active_one false e is = cc
with_same_in _ _ part v out is = cc

-- a part put back where it was changes nothing
pub with_same : (path : List Step) (v part : Value) → part_at v path ≡ Some part → with_part v path part ≡ Some v
with_same [] v part is = sym is
with_same (s ∷ path) v part is =
    let first = then_some (part_in (out-Value v) s) (λ q. part_at q path) part is in
    ap (λ o. then_option o (λ q. then_option (with_part q path part) (with_part_in (out-Value v) s))) first.1
    ∙ (ap (λ o. then_option o (with_part_in (out-Value v) s)) (with_same path first.0 part first.2) ∙ with_same_in (out-Value v) s first.0 v refl first.1)

-- the bytes at the offset of a place are those of the part there
pub bytes_at : (p : Program) (store : Store) → IsBuilt p.types → (a : Addresses) (path : List Step) (t : ℕ) (v part : Value) (to : Place) → has_type p store t v ≡ true → path_place p.types t path ≡ Some to → part_at v path ≡ Some part → (before after : List ℕ) × (length before ≡ to.offset) × (bytes_of p.types a t v ≡ before ++ (bytes_of p.types a to.ty part ++ after))
bytes_at p store built a path t v part to typed at is =
    let f = frame p store built a path t v part to typed at is in
    let same : f.put part ≡ v = cc (f.puts part, with_same path v part is) in
    (f.before, f.after, f.place, ap (bytes_of p.types a t) (sym same) ∙ f.bytes part)
