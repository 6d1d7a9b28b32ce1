-- A scalar that is assigned to a place outside unions.
use Rattle.std.proofs.Common.{◌≡◌, ◌∙◌, refl, ap, sym, true, false, ℕ, ◌+◌, ◌/◌, ◌%◌, List, [], ◌∷◌, ◌++◌, length, map, Option, Some, None, Ok, Err, arith}
use Rattle.std.specs.Prelude.{slice_get, ℤ, pos, negsuc}
use Rattle.std.proofs.lemmas.Int.{ints}
use Rattle.std.proofs.Math.Nat.{mod-eq_of_lt}
use Rattle.lu_spec.specs.Then.{then_do}
use Rattle.lu_spec.specs.LittleEndian.{little_endian}
use Rattle.c_types.specs.declared.parts.IntKind.{IntKind}
use Rattle.c_types.specs.declared.parts.IntKind.TheVariants as K
use Rattle.c_types.specs.declared.parts.Ty.{Ty}
use Rattle.c_types.specs.declared.parts.Ty.TheVariants as T
use Rattle.c_types.specs.Layout.{int_size}
use Rattle.src_tree.specs.declared.value.Value.{Value, out-Value}
use Rattle.src_tree.specs.declared.value.Store.{Store}
use Rattle.src_tree.specs.declared.program.Program.{Program}
use Rattle.src_tree.specs.declared.expr.PlaceKind.{PlaceKind, Global, Deref', Arrow', Item', Element', Field', Member', Row_of-TypedPlace, end_of-TypedPlace, more_of-TypedPlace}
use Rattle.src_meaning.specs.Integers.{residue, is_held}
use Rattle.src_meaning.specs.Objects.{Gives, Place, inside, addresses, next_address, target}
use Rattle.lu_base.specs.declared.limits.TheConstants.{FIRST_ADDRESS}
use Rattle.src_meaning.specs.Expression.{Scope, place_of, place_at, index_below, length_of, place_type, value_at_row, expr_type, pointer_plus, with_store}
use Rattle.src_meaning.specs.Assignment.{assignee, assigned_place, assigned_row, further, pointed}
use Rattle.lu_base.specs.Sending.{Sent}
use Rattle.src_meaning.specs.Store.{IsStore}
use Rattle.src_meaning.specs.ValidTypes.{is_scalar, ty}
use Rattle.src_meaning.specs.ValidExpression.{is_outside, is_outside_row}
use Rattle.src_meaning.specs.ValueBytes.{bytes_of, bytes_step, int_in, pointer_in}
use Rattle.src_meaning.proofs.LayoutLengths.{bytes_of-is}
use Rattle.bm_isa.specs.declared.instr.Instr.TheVariants as I
use Rattle.bm_alu.specs.Words.{of_signed}
use Rattle.bm_code.specs.Access.{Scalar, scalars, scalar_size, written_at}
use Rattle.bm_code.specs.Access as access
use Rattle.bm_code.specs.declared.code.MachineCode.{MachineCode}
use Rattle.bm_code.specs.declared.code.MachineFunction.{MachineFunction}
use Rattle.lu_base.specs.declared.world.World.{World}
use Rattle.bm_code.specs.Process.{Frame, Running}
use Rattle.bm_code.specs.Frames.{some_or, bad}
use Rattle.bm_code.specs.Pointers.{wrote}
use Rattle.bm_code.specs.Transfers.{Next}
use Rattle.bm_code.specs.Step.{on_memory}
use Rattle.cg_state.specs.Represents.{content_of, rows_of, value_word}
use Rattle.cg_expr.specs.Pieces.{int_number, scalar_number, pointer_size, pointer_number, function_number, element_last, field_last}
use Rattle.cg_expr.specs.Code.{Target, place_code, row_place_code, row_code}
use Rattle.cg_state.specs.Runs.{Leads}
use Rattle.cg_sim_expr.proofs.Here.{frame, process_here, here, goes}
use Rattle.c_types.specs.Refusal.{IsBuilt}
use Rattle.c_types.specs.Layout.{IsPointerSize}
use Rattle.src_laws.proofs.Sizes.{pointer-is}
use Rattle.cg_sim_expr.proofs.Loads.{IsPlainKind, pointer_kind, function_kind}
use Rattle.cg_state.proofs.Typed.{Typed, an_int, APointer, null, to, a_pointer, a_void_pointer, AFunction, no_function, to_function, a_function}
use Rattle.cg_state.proofs.Words.{held_pos, held_neg}
use Rattle.cg_sim_expr.proofs.Matching.{word}
use Rattle.cg_state.proofs.Places.{IsPart, place_word}
use Rattle.cg_state.proofs.Stores.{replaced, store_after, written_is, addresses_same, rows_same, end_same}
use Rattle.c_types.specs.declared.path.Step.TheVariants.{Field, Index}
use Rattle.cg_expr.specs.Sizes.{row_place_size}

-- a place outside unions is assigned where it is read, by the same code
mutual
  pub same_place : (at : Scope) (t : ℕ) (kind : PlaceKind) → is_outside kind ≡ true → assigned_place at t kind ≡ then_do (place_of at t kind) (λ q. Ok (assignee at.store q))
  same_place at t (Global g) h = refl
  same_place at t (Deref' m e) h = reads (value_at_row at e) t
    where
      reads : (r : Gives Value) (t : ℕ) → pointed at t r ≡ then_do (then_do r (target at.types at.store t)) (λ q. Ok (assignee at.store q))
      reads (Ok v) t = refl
      reads (Err x) t = refl
  same_place at t (Arrow' m e) h = reads (value_at_row at e) t
    where
      reads : (r : Gives Value) (t : ℕ) → pointed at t r ≡ then_do (then_do r (target at.types at.store t)) (λ q. Ok (assignee at.store q))
      reads (Ok v) t = refl
      reads (Err x) t = refl
  same_place at t (Item' m a n i) h = reads (pointer_plus at (expr_type a) (value_at_row at a) (value_at_row at i)) t
    where
      reads : (r : Gives Value) (t : ℕ) → pointed at t r ≡ then_do (then_do r (target at.types at.store t)) (λ q. Ok (assignee at.store q))
      reads (Ok v) t = refl
      reads (Err x) t = refl
  same_place at t (Element' m a n i) h =
      ap (λ r. then_do r (λ q. then_do (value_at_row (with_store at q.store) i) (λ v. then_do (index_below (length_of at.types (place_type a)) v) (λ k. Ok (further q (inside q.at (Index k))))))) (same_row at a h) ∙ elements (place_at at a)
    where
      last : (q : Place) (r : Gives ℕ) → then_do r (λ k. Ok (further (assignee at.store q) (inside q (Index k)))) ≡ then_do (then_do r (λ k. Ok (inside q (Index k)))) (λ q. Ok (assignee at.store q))
      last q (Ok k) = refl
      last q (Err x) = refl

      indexed : (q : Place) (w : Gives Value) → then_do w (λ v. then_do (index_below (length_of at.types (place_type a)) v) (λ k. Ok (further (assignee at.store q) (inside q (Index k))))) ≡ then_do (then_do w (λ v. then_do (index_below (length_of at.types (place_type a)) v) (λ k. Ok (inside q (Index k))))) (λ q. Ok (assignee at.store q))
      indexed q (Err x) = refl
      indexed q (Ok v) = last q (index_below (length_of at.types (place_type a)) v)

      elements : (r : Gives Place) → then_do (then_do r (λ q. Ok (assignee at.store q))) (λ q. then_do (value_at_row (with_store at q.store) i) (λ v. then_do (index_below (length_of at.types (place_type a)) v) (λ k. Ok (further q (inside q.at (Index k)))))) ≡ then_do (then_do r (λ q. then_do (value_at_row at i) (λ v. then_do (index_below (length_of at.types (place_type a)) v) (λ k. Ok (inside q (Index k)))))) (λ q. Ok (assignee at.store q))
      elements (Err x) = refl
      elements (Ok q) = indexed q (value_at_row at i)
  same_place at t (Field' m e k) h =
      ap (λ r. then_do r (λ q. Ok (further q (inside q.at (Field k))))) (same_row at e h) ∙ fields (place_at at e)
    where
      fields : (r : Gives Place) → then_do (then_do r (λ q. Ok (assignee at.store q))) (λ q. Ok (further q (inside q.at (Field k)))) ≡ then_do (then_do r (λ q. Ok (inside q (Field k)))) (λ q. Ok (assignee at.store q))
      fields (Ok q) = refl
      fields (Err x) = refl
  same_place at t (Member' m e k) h = absurd (cc)

  same_row : {m : _} (at : Scope) (e : Row_of-TypedPlace m) → is_outside_row e ≡ true → assigned_row at e ≡ then_do (place_at at e) (λ q. Ok (assignee at.store q))
  same_row at end_of-TypedPlace h = refl
  same_row at (more_of-TypedPlace u kind rest) h = same_place at u kind h

mutual
  pub same_code : (at : Target) (t : ℕ) (kind : PlaceKind) (pc : ℕ) → is_outside kind ≡ true → place_code at true t kind pc ≡ place_code at false t kind pc
  same_code at t (Global g) pc h = refl
  same_code at t (Deref' m e) pc h = refl
  same_code at t (Arrow' m e) pc h = refl
  same_code at t (Item' m a n i) pc h = refl
  same_code at t (Element' m a n i) pc h = ap (λ c. c ++ (row_code at i (pc + row_place_size at.types a) ++ element_last at.types (place_type a) t)) (same_row_code at a pc h)
  same_code at t (Field' m e k) pc h = ap (λ c. c ++ field_last at.types (place_type e) k) (same_row_code at e pc h)
  same_code at t (Member' m e k) pc h = absurd (cc)

  same_row_code : {m : _} (at : Target) (e : Row_of-TypedPlace m) (pc : ℕ) → is_outside_row e ≡ true → row_place_code at true e pc ≡ row_place_code at false e pc
  same_row_code at end_of-TypedPlace pc h = refl
  same_row_code at (more_of-TypedPlace u kind rest) pc h = same_code at u kind pc h

-- the bytes of a number that is cut
little_same : (kind : IntKind) (z : ℤ) → is_held kind z ≡ true → little_endian (int_size kind) (of_signed z) ≡ little_endian (int_size kind) (residue kind z)
unfolding little_endian
little_same kind (pos n) h = ap (little_endian (int_size kind)) (sym (mod-eq_of_lt (held_pos kind n h)))
little_same K.LongLong (negsuc n) h = ap (little_endian 8) (let b = held_neg K.LongLong n h in omega (arith, ints, b))
little_same K.Char (negsuc n) h = let b = held_neg K.Char n h in ap (λ x. x ∷ []) (omega (arith, ints, b))
little_same K.Short (negsuc n) h =
    let b = held_neg K.Short n h in
    let x : of_signed (negsuc n) % 256 ≡ residue K.Short (negsuc n) % 256 = omega (arith, ints, b) in
    let y : of_signed (negsuc n) / 256 % 256 ≡ residue K.Short (negsuc n) / 256 % 256 = omega (arith, ints, b) in
    cc
little_same K.Int (negsuc n) h =
    let b = held_neg K.Int n h in
    let x : of_signed (negsuc n) % 256 ≡ residue K.Int (negsuc n) % 256 = omega (arith, ints, b) in
    let y : of_signed (negsuc n) / 256 % 256 ≡ residue K.Int (negsuc n) / 256 % 256 = omega (arith, ints, b) in
    let z : of_signed (negsuc n) / 65536 % 256 ≡ residue K.Int (negsuc n) / 65536 % 256 = omega (arith, ints, b) in
    let w : of_signed (negsuc n) / 16777216 % 256 ≡ residue K.Int (negsuc n) / 16777216 % 256 = omega (arith, ints, b) in
    cc
little_same K.UChar (negsuc n) h = absurd (cc)
little_same K.UShort (negsuc n) h = absurd (cc)
little_same K.UInt (negsuc n) h = absurd (cc)
little_same K.ULongLong (negsuc n) h = absurd (cc)

module _ (p : Program) (built : IsBuilt p.types) (s : Store) (ok : IsStore p s) where
  -- the scalar that a type's load and store move, and the bytes of a value
  pub record Moved (u : ℕ) (v : Value) : Type 0 where
    pub scalar : Scalar
    pub is : slice_get scalars (scalar_number (pointer_size p.types) (ty p.types u)) ≡ Some scalar
    pub bytes : little_endian (scalar_size scalar) (word p built s v) ≡ bytes_of p.types (addresses p.types s) u v

  scalar_of : (kind : IntKind) → slice_get scalars (int_number kind) ≡ Some (access.Integer kind)
  scalar_of K.Char = refl
  scalar_of K.UChar = refl
  scalar_of K.Short = refl
  scalar_of K.UShort = refl
  scalar_of K.Int = refl
  scalar_of K.UInt = refl
  scalar_of K.LongLong = refl
  scalar_of K.ULongLong = refl

  pub moved : (u : ℕ) (v : Value) → is_scalar (slice_get p.types.types u) ≡ true → Typed p built s u v → Moved u v
  unfolding out-Value denote.Hole.Carrier.out
  moved u v sc h = by (slice_get p.types.types u) refl sc
    where
      whole : (t : Ty) → slice_get p.types.types u ≡ Some t → bytes_step p.types (addresses p.types s) (bytes_of p.types (addresses p.types s)) t v ≡ bytes_of p.types (addresses p.types s) u v
      whole t e = sym (bytes_of-is p s built (addresses p.types s) u t e v)

      pointer_bytes : (v : Value) → APointer p built s v → word p built s v ≡ pointer_in (addresses p.types s) (out-Value v)
      pointer_bytes v null = refl
      pointer_bytes v (to o k g) = refl

      function_bytes : (g : ℕ) (v : Value) → AFunction p built s g v → word p built s v ≡ pointer_in (addresses p.types s) (out-Value v)
      function_bytes g v no_function = refl
      function_bytes g v (to_function f i) = refl

      w : ℕ
      w = p.types.pointer

      wide : IsPointerSize w
      wide = pointer-is p.types built

      -- a pointer or a function
      plain : (k : ℕ) (t : Ty) → slice_get p.types.types u ≡ Some t → IsPlainKind k w → scalar_number w (Some t) ≡ k → word p built s v ≡ pointer_in (addresses p.types s) (out-Value v) → bytes_step p.types (addresses p.types s) (bytes_of p.types (addresses p.types s)) t v ≡ little_endian w (pointer_in (addresses p.types s) (out-Value v)) → Moved u v
      plain k t e kind number same bytes = record {
        scalar = kind.scalar;
        is = ap (λ o. slice_get scalars (scalar_number w o)) e ∙ (ap (slice_get scalars) number ∙ kind.at);
        bytes = ap (λ n. little_endian n (word p built s v)) kind.size ∙ (ap (little_endian w) same ∙ (sym bytes ∙ whole t e));
      }

      by : (o : Option Ty) → slice_get p.types.types u ≡ o → is_scalar o ≡ true → Moved u v
      by (Some (T.Int kind)) e sc =
          let i = an_int p built s u kind v e h in
          record { scalar = access.Integer kind; is = ap (λ o. slice_get scalars (scalar_number w o)) e ∙ scalar_of kind; bytes = ap (λ v. little_endian (int_size kind) (word p built s v)) i.is ∙ (little_same kind i.number i.held ∙ (ap (λ v. little_endian (int_size kind) (int_in kind (out-Value v))) (sym i.is) ∙ whole (T.Int kind) e)) }
      by (Some (T.Pointer t)) e sc = plain (pointer_number w) (T.Pointer t) e (pointer_kind w wide) refl (pointer_bytes v (a_pointer p built s u t v e h)) refl
      by (Some T.VoidPointer) e sc = plain (pointer_number w) T.VoidPointer e (pointer_kind w wide) refl (pointer_bytes v (a_void_pointer p built s u v e h)) refl
      by (Some (T.Function g)) e sc = plain (function_number w) (T.Function g) e (function_kind w wide) refl (function_bytes g v (a_function p built s u g v e h)) refl
      by (Some (T.Struct k)) e sc = absurd (cc)
      by (Some (T.Union k)) e sc = absurd (cc)
      by (Some (T.Array w n)) e sc = absurd (cc)
      by None e sc = absurd (cc)

  module _ (u : ℕ) (q : Place) (h : IsPart p built s ok u q) (v : Value) (hv : Typed p built s u v) (sc : is_scalar (slice_get p.types.types u) ≡ true) where
    abbrev after : Store
    after = store_after p built s ok u q h v hv

    pub words_same : (ls : List Value) → map (word p built after) ls ≡ map (word p built s) ls
    words_same ls =
        ap (λ a. map (value_word a) ls) (addresses_same (length p.sites) p.types h.object h.elements ((replaced p built s ok u q h).put v) h.live FIRST_ADDRESS s.objects q.object h.at)

    -- STORE gives the process of the store with the value
    pub store_leads : (code : MachineCode) (world : World) (f : ℕ) (m : MachineFunction) (is : slice_get code.functions f ≡ Some m) (callers : List Frame) (sends : List Sent) (words : List ℕ) (t pc : ℕ) (rest : List ℕ) → slice_get m.code pc ≡ Some (I.Store (scalar_number (pointer_size p.types) (ty p.types u))) → Leads p code world (here p code world f m is callers s sends words t pc (place_word p built s ok q ∷ word p built s v ∷ rest)) (here p code world f m is callers after sends words t (pc + 1) rest)
    store_leads code world f m is callers sends words t pc rest has =
        let mv = moved u v sc hv in
        let stack = place_word p built s ok q ∷ word p built s v ∷ rest in
        let start = process_here p code world f m is callers s sends words t pc stack in
        let fr = frame p code world f m is callers words pc stack in
        let m_ = content_of p.types s in
        let rows = rows_of p s in
        let next = (replaced p built s ok u q h).put v in
        let written = ap (λ l. written_at m_ rows (place_word p built s ok q) l) mv.bytes ∙ written_is p built s ok u q h v hv in
        let same_rows = rows_same (length p.sites) p.types h.object h.elements next h.live FIRST_ADDRESS s.objects q.object h.at in
        let same_end = end_same (length p.sites) p.types h.object h.elements next h.live FIRST_ADDRESS s.objects q.object h.at in
        goes p code world f m is callers s after sends sends words words t pc (pc + 1) stack rest (I.Store (scalar_number (pointer_size p.types) (ty p.types u))) has
        (ap (λ o. on_memory (some_or o bad (λ sc. wrote fr rest (written_at m_ rows (place_word p built s ok q) (little_endian (scalar_size sc) (word p built s v))))) start callers) mv.is
        ∙ (ap (λ o. on_memory (wrote fr rest o) start callers) written
        ∙ (ap (λ rows. Next (record { content = content_of p.types after; rows = rows; next = next_address p.types s; outbox = sends; activity = Running (frame p code world f m is callers words (pc + 1) rest) callers; spare = t })) (sym same_rows)
        ∙ ap (λ n. Next (record { content = content_of p.types after; rows = rows_of p after; next = n; outbox = sends; activity = Running (frame p code world f m is callers words (pc + 1) rest) callers; spare = t })) (sym same_end))))
