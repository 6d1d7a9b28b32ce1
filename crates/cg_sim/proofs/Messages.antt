-- The message that the second global holds, on both sides.
use Rattle.std.proofs.Common.{◌≡◌, ◌∙◌, refl, ap, sym, subst, Bool, true, false, ◌&&◌, inl, inr, cond, ℕ, ◌+◌, ◌*◌, ◌≤◌, List, [], ◌∷◌, ◌++◌, length, drop, Some, None, Ok, arith, nat_lt, nat_eq, length-append, append_assoc}
use Rattle.std.specs.Prelude.{slice_get, codes}
use Rattle.std.specs.Option.{option_map_or}
use Rattle.std.proofs.Math.Seq.{drop-append_seam}
use Rattle.std.proofs.lemmas.List.{append-nil}
use Rattle.std.proofs.lemmas.Bool.Decides.{nat_tests}
use Rattle.lu_spec.specs.Then.{then_do, then_option}
use Rattle.lu_spec.specs.LittleEndian.{little_endian}
use Rattle.lu_spec.proofs.LittleEndianLemmas.{length-little_endian}
use Rattle.lu_base.specs.declared.message.Message.{Message}
use Rattle.lu_base.specs.Sending.{Sent}
use Rattle.lu_base.specs.declared.trap.Trap.TheVariants.{BadCode}
use Rattle.c_types.specs.declared.parts.IntKind.TheVariants as K
use Rattle.c_types.specs.Layout.{size_of}
use Rattle.c_types.specs.Numbering.{is_array}
use Rattle.c_types.specs.Place.{place}
use Rattle.c_types.proofs.PlaceLaws.{same-place}
use Rattle.src_tree.specs.declared.value.Store.{Store}
use Rattle.src_tree.specs.declared.program.Global.{Global}
use Rattle.src_tree.specs.declared.program.Program.{Program}
use Rattle.src_meaning.specs.Integers.{residue}
use Rattle.src_meaning.specs.Objects.{or_trap, value_at, addresses}
use Rattle.lu_base.specs.declared.limits.TheConstants.{FIRST_ADDRESS}
use Rattle.src_meaning.specs.Expression.{global_place}
use Rattle.src_meaning.specs.Sending as Source
use Rattle.src_meaning.specs.Store.{IsStore}
use Rattle.src_meaning.specs.Valid.{has_messages, is_message, is_message_global, is_zero_start}
use Rattle.src_meaning.specs.ValidNames.{is_called}
use Rattle.src_meaning.proofs.LayoutLengths.{and_left, and_right, length-bytes_of}
use Rattle.bm_code.specs.declared.code.MachineCode.{MachineCode}
use Rattle.bm_code.specs.Access.{read_at}
use Rattle.bm_code.specs.Process.{Activity}
use Rattle.bm_code.specs.Services.{int_of, ints_of, message_bytes, message_of}
use Rattle.cg_state.specs.Represents.{process_of, rows_of, content_of}
use Rattle.cg_sim.specs.Compiled.{IsCompiled}
use Rattle.cg_sim_expr.proofs.Globals.{global_placed}
use Rattle.cg_sim_expr.proofs.Members.{read_front}
use Rattle.cg_state.proofs.Memory.{stands}
use Rattle.cg_sim.proofs.MessageValue.{MessageType, message_type, message_value, message_in_value, message_bytes_are, int_bytes, int_bytes_long, int_read, ints_read}
use Rattle.cg_state.proofs.Places.{IsPart, place_word, place_word_is, value_is}
use Rattle.cg_sim_expr.proofs.Steps.{IsPlaced}
use Rattle.c_types.specs.Refusal.{IsBuilt}

-- the second global is one for messages
pub record SecondGlobal (p : Program) : Type 0 where
  pub first : Global
  pub global : Global
  pub rest : List Global
  pub is : p.globals ≡ first ∷ global ∷ rest
  pub message : is_message p (slice_get p.types.types global.ty) ≡ true

pub second_global : (p : Program) → has_messages p p.globals ≡ true → SecondGlobal p
second_global p h = by p.globals refl h
  where
    by : (gs : List Global) → p.globals ≡ gs → has_messages p gs ≡ true → SecondGlobal p
    by (a ∷ b ∷ rest) e h =
        let second = and_right (is_message_global p (codes "m_in") a) (is_message_global p (codes "m_out") b) h in
        record { first = a; global = b; rest = rest; is = e; message = and_left (is_message p (slice_get p.types.types b.ty)) (is_zero_start b.init) (and_right (is_called p.names b.name (codes "m_out")) (is_message p (slice_get p.types.types b.ty) && is_zero_start b.init) second) }
    by [] e h = absurd (cc)
    by (a ∷ []) e h = absurd (cc)

module _ (p : Program) (built : IsBuilt p.types) (code : MachineCode) (compiled : IsCompiled p code) (second : SecondGlobal p) (s : Store) (ok : IsStore p s) where
  abbrev u : ℕ
  u = second.global.ty

  types : MessageType p u
  types = message_type p u second.message

  at_one : slice_get p.globals 1 ≡ Some second.global
  at_one = ap (λ gs. slice_get gs 1) second.is

  out_part : IsPart p built s ok u Source.m_out
  out_part =
      let named : option_map_or (λ (d : Global). nat_eq d.ty u) (slice_get p.globals 1) false ≡ true = ap (λ o. option_map_or (λ (d : Global). nat_eq d.ty u) o false) at_one ∙ itself u in
      let single : global_place p.types u 1 ≡ Source.m_out = ap (λ o. cond (is_array o) (Rattle.src_meaning.specs.Objects.place 1 []) Source.m_out) types.is_struct in
      part (subst (IsPlaced p built s ok u) single (global_placed p built s ok 1 u named).0)
    where
      itself : (n : ℕ) → nat_eq n n ≡ true
      itself n = grind (arith, nat_tests)

      no_array : (b : Bool) → b ≡ false → b ≡ true → ⊥
      no_array b h g = absurd (cc)

      part : IsPlaced p built s ok u Source.m_out → IsPart p built s ok u Source.m_out
      part (inl h) = h
      part (inr h) = absurd (no_array (is_array (slice_get p.types.types u)) (ap is_array types.is_struct) (ap is_array h.array))

  -- the place begins where the object does
  no_offset : (h : IsPart p built s ok u Source.m_out) → h.offset ≡ 0
  no_offset h = by (nat_lt 0 h.object.count) refl h.leads
    where
      by : (b : Bool) → nat_lt 0 h.object.count ≡ b → cond b (Some (place h.object.elem (0 * size_of p.types h.object.elem + 0))) None ≡ Some (place u h.offset) → h.offset ≡ 0
      by true t e =
          let n = same-place h.object.elem (0 * size_of p.types h.object.elem + 0) u h.offset e in
          let m = n.1 in
          let none : 0 * size_of p.types h.object.elem + 0 ≡ 0 = omega arith in
          sym m ∙ none
      by false t e = absurd (cc)

  pub message_is : (o : List Sent) (a : Activity) (t : ℕ) → (x : Message) × (bytes : List ℕ) × (then_do (value_at s Source.m_out) Source.message_of ≡ Ok x) × (message_bytes code (process_of p s o a t) ≡ Some bytes) × (message_of bytes ≡ x)
  message_is o a t =
      let h = out_part in
      let v = message_value p built s u types h.value h.is_typed in
      let x : Message = record { source = v.source; kind = v.kind; arg = v.args } in
      let sa = little_endian 4 (residue K.Int v.source) in
      let sk = little_endian 4 (residue K.Int v.kind) in
      let front = sa ++ (sk ++ int_bytes v.args) in
      let b = message_bytes_are p built s u types (addresses p.types s) h.value v in
      let la = length-little_endian 4 (residue K.Int v.source) in
      let lk = length-little_endian 4 (residue K.Int v.kind) in
      let li = int_bytes_long v.args in
      let six = v.six in
      let long : length front ≡ 32 = omega (arith, la, lk, li, six, length-append sa (sk ++ int_bytes v.args), length-append sk (int_bytes v.args)) in
      let st = stands (length p.sites) p.types FIRST_ADDRESS s.objects 1 h.object h.at in
      let offset = no_offset h in
      let word : place_word p built s ok Source.m_out ≡ st.address = let w = place_word_is p built s ok u Source.m_out h in omega (arith, w, offset) in
      let read = read_front p built s ok u Source.m_out h front b.0 b.1 in
      let read_32 : read_at (content_of p.types s) (rows_of p s) st.address 32 ≡ Some front = subst (λ n. read_at (content_of p.types s) (rows_of p s) st.address n ≡ Some front) long (subst (λ a. read_at (content_of p.types s) (rows_of p s) a (length front) ≡ Some front) word read) in
      let whole = length-bytes_of p s built (addresses p.types s) u h.value h.is_typed in
      let parts = length-append front b.0 in
      let joined = ap length b.1 in
      let g = compiled.globals 1 second.global at_one in
      let bytes_long = g.long in
      let enough : nat_lt (length g.global.bytes) 32 ≡ false = not_below (length g.global.bytes) 32 (omega (arith, bytes_long, whole, parts, joined, long)) in
      let machine : message_bytes code (process_of p s o a t) ≡ Some front = ap (λ q. then_option q (λ g. cond (nat_lt (length g.bytes) 32) None (then_option (slice_get (rows_of p s) 1) (λ r. read_at (content_of p.types s) (rows_of p s) r.addr 32)))) g.is
      ∙ (ap (λ b. cond b None (then_option (slice_get (rows_of p s) 1) (λ r. read_at (content_of p.types s) (rows_of p s) r.addr 32))) enough
      ∙ (ap (λ q. then_option q (λ r. read_at (content_of p.types s) (rows_of p s) r.addr 32)) st.row ∙ read_32)) in
      let source : then_do (value_at s Source.m_out) Source.message_of ≡ Ok x = ap (λ r. then_do r Source.message_of) (value_is p built s ok u Source.m_out h) ∙ ap (or_trap BadCode) (message_in_value p built s u types h.value v) in
      let kind_at = int_read v.kind (int_bytes v.args) v.held_kind in
      let past : drop 4 front ≡ sk ++ int_bytes v.args = subst (λ n. drop n front ≡ sk ++ int_bytes v.args) la (drop-append_seam sa (sk ++ int_bytes v.args)) in
      let past_8 : drop 8 front ≡ int_bytes v.args = eight (sa ++ sk) (int_bytes v.args) front (sym (append_assoc sa sk (int_bytes v.args))) (omega (arith, la, lk, length-append sa sk)) in
      let kind_is : int_of (drop 4 front) ≡ v.kind = ap int_of past ∙ kind_at.0 in
      let args_are : ints_of 6 (drop 8 front) ≡ v.args = ap (ints_of 6) (past_8 ∙ sym (append-nil (int_bytes v.args))) ∙ (ap (λ n. ints_of n (int_bytes v.args ++ [])) (sym six) ∙ ints_read v.args [] v.held) in
      let source_is : int_of front ≡ v.source = (int_read v.source (sk ++ int_bytes v.args) v.held_source).0 in
      (x, front, source, machine, ap (λ z. record { source = z; kind = int_of (drop 4 front); arg = ints_of 6 (drop 8 front) }) source_is ∙ (ap (λ z. record { source = v.source; kind = z; arg = ints_of 6 (drop 8 front) }) kind_is ∙ ap (λ zs. record { source = v.source; kind = v.kind; arg = zs }) args_are))
    where
      not_below : (a b : ℕ) → b ≤ a → nat_lt a b ≡ false
      not_below a b h = grind (arith, nat_tests, h)

      eight : (a b l : List ℕ) → l ≡ a ++ b → length a ≡ 8 → drop 8 l ≡ b
      eight a b l e n = ap (drop 8) e ∙ subst (λ n. drop n (a ++ b) ≡ b) n (drop-append_seam a b)
