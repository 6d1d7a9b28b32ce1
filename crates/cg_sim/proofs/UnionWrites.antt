-- WRITEUNION makes a member active, with zero bytes, where it isn't.
use Rattle.std.proofs.Common.{◌≡◌, ◌∙◌, refl, ap, sym, subst, true, false, ◌&&◌, cond, max, ℕ, ◌+◌, ◌-◌, ◌<◌, ◌≤◌, List, [], ◌∷◌, ◌++◌, length, Some, None, arith, nat_eq, nat_le, append_assoc, length-append}
use Rattle.std.specs.Prelude.{slice_get, Contains}
use Rattle.std.specs.FinMap as map
use Rattle.std.specs.Option.{option_map}
use Rattle.std.proofs.lemmas.List.{length-replicate}
use Rattle.lu_spec.specs.Then.{then_option}
use Rattle.lu_spec.specs.LittleEndian.{little_endian}
use Rattle.lu_spec.specs.Splice.{spliced}
use Rattle.lu_spec.proofs.LittleEndianLemmas.{length-little_endian}
use Rattle.c_types.specs.declared.parts.FieldDef.{FieldDef}
use Rattle.c_types.specs.declared.parts.Ty.TheVariants as T
use Rattle.c_types.specs.Chain.{held_by, held_in}
use Rattle.c_types.specs.Tables.{members_of}
use Rattle.c_types.specs.Layout.{Shapes, shape_of, size_of, member_offset, members_start, union_shape}
use Rattle.c_types.specs.Place.{place}
use Rattle.c_types.proofs.MarkLemmas.{held_known}
use Rattle.c_types.proofs.ObjectLaws.{object-within}
use Rattle.c_types.proofs.PlaceLaws.{low}
use Rattle.src_tree.specs.declared.value.Value.{Value, Union, out-Value}
use Rattle.src_tree.specs.declared.value.Value.TheVariants.{outs-Union}
use Rattle.src_tree.specs.declared.value.Store.{Store}
use Rattle.src_tree.specs.declared.program.Program.{Program}
use Rattle.src_meaning.specs.Paths.{zero_of}
use Rattle.src_meaning.specs.Objects.{Place, addresses, next_address}
use Rattle.lu_base.specs.declared.limits.TheConstants.{FIRST_ADDRESS}
use Rattle.lu_base.specs.Sending.{Sent}
use Rattle.src_meaning.specs.Store.{IsStore, has_type, layer_has_type, member_has_type}
use Rattle.src_meaning.specs.ValueBytes.{Bytes, zeros, union_bytes, body_bytes, bytes_of, elements_bytes}
use Rattle.src_meaning.proofs.LayoutLengths.{has_type-is, bytes_of-is, length-bytes_of, member-within, field_in}
use Rattle.bm_isa.specs.declared.instr.Instr.TheVariants as I
use Rattle.bm_objects.specs.declared.row.Row.{Row}
use Rattle.bm_objects.specs.Table.{end_of}
use Rattle.bm_code.specs.declared.code.MachineCode.{MachineCode}
use Rattle.bm_code.specs.declared.code.MachineFunction.{MachineFunction}
use Rattle.lu_base.specs.declared.world.World.{World}
use Rattle.bm_code.specs.Access.{live_at, number_of, changed}
use Rattle.bm_code.specs.Frames.{some_or, bad}
use Rattle.bm_code.specs.Pointers.{with_member, with_active, wrote}
use Rattle.bm_code.specs.Process.{Frame, Running}
use Rattle.bm_code.specs.Step.{on_memory}
use Rattle.bm_code.specs.Transfers.{Next}
use Rattle.cg_state.specs.Represents.{row_of, rows_of, content_of}
use Rattle.cg_state.proofs.Tests.{le_true}
use Rattle.cg_sim_expr.proofs.Here.{frame, process_here, here, goes}
use Rattle.cg_state.specs.Runs.{Leads}
use Rattle.cg_sim_expr.proofs.Loads.{size_is}
use Rattle.cg_sim_expr.proofs.Members.{AUnion, read_active}
use Rattle.cg_state.proofs.Memory.{stands, find_row, get_content}
use Rattle.cg_state.proofs.Places.{IsPart, place_word, place_word_is, live_true}
use Rattle.cg_state.proofs.Stores.{replaced, store_after, splice_is, insert_content, rows_same, end_same}
use Rattle.c_types.specs.Refusal.{IsBuilt}
use Rattle.cg_state.proofs.Typed.{Typed}
use Rattle.src_laws.proofs.ZeroValues.{zeros_are, zero_typed, zero_bytes, zeros_zero, both_zero}

eight_or : (a b : ℕ) → 4 ≤ a → a ≤ b → max 4 (a + (b - a)) ≡ b
eight_or a b h g = omega (arith, h, g)

module _ (p : Program) (built : IsBuilt p.types) (s : Store) (ok : IsStore p s) (u n : ℕ) (q : Place) (h : IsPart p built s ok u q) (e : slice_get p.types.types u ≡ Some (T.Union n)) (v : AUnion p built s ok n (out-Value h.value)) (k : ℕ) (d : FieldDef) (is_d : slice_get (members_of p.types n) k ≡ Some d) where
  abbrev fresh : Value
  fresh = Union k (zero_of p.types d.ty)

  abbrev start : ℕ
  start = member_offset p.types n

  abbrev size : ℕ
  size = size_of p.types u

  abbrev rec : Bytes
  rec = bytes_of p.types (addresses p.types s)

  abbrev known : Shapes
  known = shape_of p.types

  member_known : d.ty < length p.types.types
  member_known =
      let held : Contains (held_by p.types u) d.ty = subst (λ o. Contains (held_in p.types o) d.ty) (sym e) (field_in (members_of p.types n) k d is_d) in
      held_known p.types built.numbered u d.ty held

  pub fresh_typed : Typed p built s u fresh
  fresh_typed =
      has_type-is p s built [] u (T.Union n) e fresh
      ∙ (ap (λ l. layer_has_type p s (has_type p s) (T.Union n) l) (outs-Union k (zero_of p.types d.ty))
      ∙ (ap (λ o. member_has_type (has_type p s) o (zero_of p.types d.ty)) is_d ∙ zero_typed p built s d.ty member_known))

  union_size : size ≡ (union_shape known (members_of p.types n)).size
  union_size = size_is p built s ok u (T.Union n) (union_shape known (members_of p.types n)).size e refl

  starts_low : (4 ≤ start) × (start ≤ size)
  starts_low =
      let w = member-within known (low p.types built) rec (members_of p.types n) k d is_d in
      let sz = union_size in
      let a = w.0 in
      let b = w.1 in
      (a, omega (arith, b, sz))

  -- a union's bytes: its number, zeros, and so many bytes of a body
  record Bytes_of (x : Value) (active : ℕ) : Type 0 where
    body : List ℕ
    is : rec u x ≡ little_endian 4 active ++ (zeros (start - 4) ++ body)
    long : length body ≡ size - start

  old_bytes : Bytes_of h.value v.active
  old_bytes =
      let body = body_bytes known rec (members_of p.types n) (slice_get (members_of p.types n) v.active) v.body in
      let is : rec u h.value ≡ little_endian 4 v.active ++ (zeros (start - 4) ++ body) = bytes_of-is p s built (addresses p.types s) u (T.Union n) e h.value ∙ ap (union_bytes known rec (members_of p.types n)) v.out in
      let whole = length-bytes_of p s built (addresses p.types s) u h.value h.is_typed in
      let four = length-little_endian 4 v.active in
      let gap = length-replicate {A = ℕ} (start - 4) 0 in
      let st = starts_low in
      let one = length-append (little_endian 4 v.active) (zeros (start - 4) ++ body) in
      let two = length-append (zeros (start - 4)) body in
      let all = ap length is in
      record { body = body; is = is; long = omega (arith, whole, four, gap, one, two, all, st.0, st.1) }

  fresh_bytes : rec u fresh ≡ little_endian 4 k ++ (zeros (start - 4) ++ zeros (size - start))
  fresh_bytes =
      let ms = members_of p.types n in
      let tail = zeros ((union_shape known ms).size - (members_start known ms + (known d.ty).size)) in
      let body = rec d.ty (zero_of p.types d.ty) ++ tail in
      let is : rec u fresh ≡ little_endian 4 k ++ (zeros (start - 4) ++ body) = bytes_of-is p s built (addresses p.types s) u (T.Union n) e fresh ∙ (ap (union_bytes known rec ms) (outs-Union k (zero_of p.types d.ty)) ∙ ap (λ o. little_endian 4 k ++ (zeros (start - 4) ++ body_bytes known rec ms o (zero_of p.types d.ty))) is_d) in
      let whole = length-bytes_of p s built (addresses p.types s) u fresh fresh_typed in
      let four = length-little_endian 4 k in
      let gap = length-replicate {A = ℕ} (start - 4) 0 in
      let st = starts_low in
      let one = length-append (little_endian 4 k) (zeros (start - 4) ++ body) in
      let two = length-append (zeros (start - 4)) body in
      let all = ap length is in
      let long : length body ≡ size - start = omega (arith, whole, four, gap, one, two, all, st.0, st.1) in
      let zero_body = zeros_are body (both_zero (rec d.ty (zero_of p.types d.ty)) tail (zero_bytes p built s (addresses p.types s) d.ty member_known) (zeros_zero ((union_shape known ms).size - (members_start known ms + (known d.ty).size)))) in
      is ∙ ap (λ l. little_endian 4 k ++ (zeros (start - 4) ++ l)) (zero_body ∙ ap zeros long)

  abbrev all : List ℕ
  all = elements_bytes p.types (addresses p.types s) h.object.elem h.elements

  -- what WRITEUNION makes of the object's bytes
  member_bytes : with_member h.offset k start (size - start) all ≡ elements_bytes p.types (addresses p.types s) h.object.elem ((replaced p built s ok u q h).put fresh)
  member_bytes =
      let r = replaced p built s ok u q h in
      let old = old_bytes in
      let st = starts_low in
      let la = little_endian 4 v.active in
      let lk = little_endian 4 k in
      let gap = zeros (start - 4) in
      let none = zeros (size - start) in
      let four = length-little_endian 4 v.active in
      let four_k = length-little_endian 4 k in
      let gap_long = length-replicate {A = ℕ} (start - 4) 0 in
      let none_long = length-replicate {A = ℕ} (size - start) 0 in
      let before = length-append r.before (la ++ gap) in
      let both = length-append la gap in
      let at = r.place_is in
      let body_long = old.long in
      let is : all ≡ (r.before ++ (la ++ gap)) ++ (old.body ++ r.after) = ap (elements_bytes p.types (addresses p.types s) h.object.elem) (sym r.same) ∙ (r.bytes h.value ∙ (ap (λ l. r.before ++ (l ++ r.after)) old.is ∙ first r.before la gap old.body r.after)) in
      let one : spliced all (h.offset + start) none ≡ (r.before ++ (la ++ gap)) ++ (none ++ r.after) = ap (λ l. spliced l (h.offset + start) none) is ∙ splice_is (r.before ++ (la ++ gap)) old.body none r.after (h.offset + start) (omega (arith, before, both, four, gap_long, at, st.0)) (omega (arith, body_long, none_long)) in
      let two : spliced ((r.before ++ (la ++ gap)) ++ (none ++ r.after)) h.offset lk ≡ r.before ++ (lk ++ (gap ++ (none ++ r.after))) = ap (λ l. spliced l h.offset lk) (second r.before la gap (none ++ r.after)) ∙ splice_is r.before la lk (gap ++ (none ++ r.after)) h.offset r.place_is (omega (arith, four, four_k)) in
      ap (λ l. spliced l h.offset lk) one ∙ (two ∙ (third r.before lk gap none r.after ∙ (ap (λ l. r.before ++ (l ++ r.after)) (sym fresh_bytes) ∙ sym (r.bytes fresh))))
    where
      first : (b l g body c : List ℕ) → b ++ ((l ++ (g ++ body)) ++ c) ≡ (b ++ (l ++ g)) ++ (body ++ c)
      first b l g body c = simp append_assoc

      second : (b l g c : List ℕ) → (b ++ (l ++ g)) ++ c ≡ b ++ (l ++ (g ++ c))
      second b l g c = simp append_assoc

      third : (b l g m c : List ℕ) → b ++ (l ++ (g ++ (m ++ c))) ≡ b ++ ((l ++ (g ++ m)) ++ c)
      third b l g m c = simp append_assoc

  abbrev after : Store
  after = store_after p built s ok u q h fresh fresh_typed

  abbrev address : ℕ
  address = (stands (length p.sites) p.types FIRST_ADDRESS s.objects q.object h.object h.at).address

  abbrev row : Row
  row = row_of (length p.sites) p.types address h.object

  row_live : live_at (rows_of p s) (place_word p built s ok q) (max 4 (start + (size - start))) ≡ Some row
  row_live =
      let st = starts_low in
      let within = object-within p.types built h.object.elem h.object.count q.path (place u h.offset) h.leads in
      let found = find_row (length p.sites) p.types FIRST_ADDRESS s.objects q.object h.offset h.object h.at (omega (arith, within)) in
      let below : nat_le (address + h.offset + size) (end_of row) ≡ true = le_true (address + h.offset + size) (end_of row) (omega (arith, within)) in
      ap (λ n. live_at (rows_of p s) (place_word p built s ok q) n) (eight_or start size st.0 st.1)
      ∙ (ap (λ a. live_at (rows_of p s) a size) (place_word_is p built s ok u q h)
      ∙ (ap (λ o. then_option o (λ (r : Row). cond (r.live && nat_le (address + h.offset + size) (end_of r)) (Some r) None)) found
      ∙ (ap (λ b. cond (b && nat_le (address + h.offset + size) (end_of row)) (Some row) None) (live_true p built s ok h.object h.elements h.live) ∙ ap (λ b. cond b (Some row) None) below)))

  changes : changed (content_of p.types s) row (with_member (place_word p built s ok q - address) k start (size - start)) ≡ Some (content_of p.types after)
  changes =
      let w = place_word_is p built s ok u q h in
      let back : place_word p built s ok q - address ≡ h.offset = omega (arith, w) in
      ap (option_map (λ bytes. map.insert (content_of p.types s) address (with_member (place_word p built s ok q - address) k start (size - start) bytes))) (get_content (length p.sites) p.types s q.object h.object h.elements h.at h.live)
      ∙ (ap (λ n. Some (map.insert (content_of p.types s) address (with_member n k start (size - start) all))) back
      ∙ (ap (λ l. Some (map.insert (content_of p.types s) address l)) member_bytes
      ∙ ap Some (insert_content (length p.sites) p.types h.object h.elements ((replaced p built s ok u q h).put fresh) h.live s q.object h.at)))

  -- what is written
  active_is : with_active (content_of p.types s) (rows_of p s) (place_word p built s ok q) k start (size - start) row ≡ cond (nat_eq v.active k) (Some (content_of p.types s)) (Some (content_of p.types after))
  active_is =
      let r = read_active p built s ok u n q h e v in
      ap (λ o. some_or o None (λ bytes. cond (nat_eq (number_of bytes) k) (Some (content_of p.types s)) (changed (content_of p.types s) row (with_member (place_word p built s ok q - address) k start (size - start))))) r.1
      ∙ (ap (λ m. cond (nat_eq m k) (Some (content_of p.types s)) (changed (content_of p.types s) row (with_member (place_word p built s ok q - address) k start (size - start)))) r.2
      ∙ ap (λ o. cond (nat_eq v.active k) (Some (content_of p.types s)) o) changes)

  module _ (code : MachineCode) (world : World) (f : ℕ) (m : MachineFunction) (is : slice_get code.functions f ≡ Some m) (callers : List Frame) (sends : List Sent) (words : List ℕ) (t pc : ℕ) (rest : List ℕ) (has : slice_get m.code pc ≡ Some (I.WriteUnion k start (size - start))) where
    abbrev word_here : ℕ
    word_here = place_word p built s ok q

    abbrev fr : Frame
    fr = frame p code world f m is callers words pc (word_here ∷ rest)

    -- a member that is active already
    pub stays_leads : nat_eq v.active k ≡ true → Leads p code world (here p code world f m is callers s sends words t pc (word_here ∷ rest)) (here p code world f m is callers s sends words t (pc + 1) (word_here ∷ rest))
    stays_leads test =
        goes p code world f m is callers s s sends sends words words t pc (pc + 1) (word_here ∷ rest) (word_here ∷ rest) (I.WriteUnion k start (size - start)) has
        (ap (λ o. on_memory (some_or o bad (λ r. wrote fr (word_here ∷ rest) (with_active (content_of p.types s) (rows_of p s) word_here k start (size - start) r))) (process_here p code world f m is callers s sends words t pc (word_here ∷ rest)) callers) row_live
        ∙ ap (λ o. on_memory (wrote fr (word_here ∷ rest) o) (process_here p code world f m is callers s sends words t pc (word_here ∷ rest)) callers) (active_is ∙ ap (λ b. cond b (Some (content_of p.types s)) (Some (content_of p.types after))) test))

    -- one that becomes active
    pub becomes_leads : nat_eq v.active k ≡ false → Leads p code world (here p code world f m is callers s sends words t pc (word_here ∷ rest)) (here p code world f m is callers after sends words t (pc + 1) (word_here ∷ rest))
    becomes_leads test =
        let next = (replaced p built s ok u q h).put fresh in
        let same_rows = rows_same (length p.sites) p.types h.object h.elements next h.live FIRST_ADDRESS s.objects q.object h.at in
        let same_end = end_same (length p.sites) p.types h.object h.elements next h.live FIRST_ADDRESS s.objects q.object h.at in
        goes p code world f m is callers s after sends sends words words t pc (pc + 1) (word_here ∷ rest) (word_here ∷ rest) (I.WriteUnion k start (size - start)) has
        (ap (λ o. on_memory (some_or o bad (λ r. wrote fr (word_here ∷ rest) (with_active (content_of p.types s) (rows_of p s) word_here k start (size - start) r))) (process_here p code world f m is callers s sends words t pc (word_here ∷ rest)) callers) row_live
        ∙ (ap (λ o. on_memory (wrote fr (word_here ∷ rest) o) (process_here p code world f m is callers s sends words t pc (word_here ∷ rest)) callers) (active_is ∙ ap (λ b. cond b (Some (content_of p.types s)) (Some (content_of p.types after))) test)
        ∙ (ap (λ rows. Next (record { content = content_of p.types after; rows = rows; next = next_address p.types s; outbox = sends; activity = Running (frame p code world f m is callers words (pc + 1) (word_here ∷ rest)) callers; spare = t })) (sym same_rows)
        ∙ ap (λ n. Next (record { content = content_of p.types after; rows = rows_of p after; next = n; outbox = sends; activity = Running (frame p code world f m is callers words (pc + 1) (word_here ∷ rest)) callers; spare = t })) (sym same_end))))
