-- The member of a union that is read: its number stands in the union's first four bytes.
use Rattle.std.proofs.Common.{◌≡◌, ◌∙◌, refl, ap, sym, subst, Bool, true, false, ◌&&◌, cond, ℕ, zero, suc, ◌+◌, ◌-◌, ◌^◌, ◌<◌, List, [], ◌∷◌, ◌++◌, length, Option, Some, None, Ok, Err, arith, append_assoc, length-append, nat_le, nat_eq, nat_lt}
use Rattle.std.specs.Prelude.{slice_get}
use Rattle.std.specs.List.{list_all}
use Rattle.std.specs.FinMap as map
use Rattle.std.specs.Option.{option_map, option_map_or}
use Rattle.std.proofs.Math.Nat.{mod-eq_of_lt}
use Rattle.std.proofs.lemmas.Bool.Decides.{nat_tests}
use Rattle.lu_spec.specs.Then.{then_option, then_do}
use Rattle.lu_spec.specs.LittleEndian.{little_endian}
use Rattle.lu_spec.specs.Splice.{piece_at}
use Rattle.lu_spec.proofs.LittleEndianLemmas.{length-little_endian}
use Rattle.lu_base.specs.declared.trap.Trap.TheVariants.{UnionMember}
use Rattle.c_types.specs.Refusal.{IsBuilt}
use Rattle.c_types.specs.declared.parts.FieldDef.{FieldDef}
use Rattle.c_types.specs.declared.parts.TagDef.{TagDef}
use Rattle.c_types.specs.declared.parts.Ty.{Ty}
use Rattle.c_types.specs.declared.parts.Ty.TheVariants as T
use Rattle.c_types.specs.declared.path.Step.TheVariants.{Member}
use Rattle.c_types.specs.Tables.{fields_in, members_of}
use Rattle.c_types.specs.Layout.{size_of, member_offset}
use Rattle.c_types.specs.declared.path.Place as T_place
use Rattle.c_types.specs.Place.{place, step_place}
use Rattle.c_types.specs.Numbering.{tag_is_numbered, is_countable, are_countable, type_is_numbered}
use Rattle.c_types.proofs.ObjectLaws.{object-within}
use Rattle.src_tree.specs.declared.value.Value.{Value, out-Value}
use Rattle.src_tree.specs.declared.value.Value.TheOpen as V
use Rattle.src_tree.specs.declared.value.Store.{Store}
use Rattle.src_tree.specs.declared.program.Program.{Program}
use Rattle.src_meaning.specs.Paths.{Layer, part_in}
use Rattle.lu_base.specs.declared.limits.TheConstants.{FIRST_ADDRESS}
use Rattle.src_meaning.specs.Objects.{Place, inside, addresses}
use Rattle.src_meaning.specs.Expression.{is_active, active_member}
use Rattle.src_meaning.specs.Store.{IsStore, has_type, layer_has_type, member_has_type}
use Rattle.src_meaning.specs.ValidTypes.{is_member_of, ty}
use Rattle.src_meaning.specs.ValueBytes.{bytes_of, union_bytes, elements_bytes}
use Rattle.src_meaning.proofs.LayoutLengths.{and_left, and_right, has_type-is, bytes_of-is, length-bytes_of}
use Rattle.bm_isa.specs.declared.instr.Instr.TheVariants as I
use Rattle.bm_objects.specs.Table.{end_of}
use Rattle.bm_code.specs.Access.{read_at, number_of}
use Rattle.bm_code.specs.Frames.{some_or, bad}
use Rattle.cg_state.specs.Represents.{row_of, rows_of, content_of}
use Rattle.cg_expr.specs.Pieces.{step_offset, member_last}
use Rattle.cg_state.proofs.Tests.{le_true}
use Rattle.cg_state.proofs.Typed.{Typed}
use Rattle.cg_sim_expr.proofs.Matching.{run}
use Rattle.cg_state.proofs.Memory.{stands, find_row, get_content}
use Rattle.cg_state.proofs.Places.{IsPart, place_word, place_word_is, value_is, part_bytes, piece_is, live_true, all_get}
use Rattle.cg_sim_expr.proofs.Loads.{Places, number_4}
use Rattle.cg_sim_expr.proofs.Steps.{Stepped, step_to}
use Rattle.cg_sim_expr.proofs.Limits.{place_below}

module _ (p : Program) (built : IsBuilt p.types) where
  -- a union has fewer than 2 ^ 32 members
  pub few_members : (n : ℕ) → length (members_of p.types n) < 2 ^ 32
  few_members n = by (slice_get p.types.unions n) refl
    where
      numbered : list_all (tag_is_numbered p.types) p.types.unions ≡ true
      numbered = and_left (list_all (tag_is_numbered p.types) p.types.unions) _ (and_right (list_all (tag_is_numbered p.types) p.types.structs) _ (and_right (list_all (type_is_numbered p.types) p.types.types) _ (and_right (are_countable p.types) _ built.numbered)))

      by : (o : Option TagDef) → slice_get p.types.unions n ≡ o → length (fields_in o) < 2 ^ 32
      by None e = omega arith
      by (Some d) e =
          let t = and_left (is_countable d.fields) _ (all_get (tag_is_numbered p.types) p.types.unions n d numbered e) in
          let lt : length d.fields < 2 ^ 32 - 1 = below (length d.fields) (2 ^ 32 - 1) t in
          omega (arith, lt)
        where
          below : (a b : ℕ) → nat_lt a b ≡ true → a < b
          below a b h = grind (arith, nat_tests, h)

module _ (p : Program) (built : IsBuilt p.types) (s : Store) (ok : IsStore p s) where
  -- the first bytes of a part, as the machine reads them
  pub read_front : (u : ℕ) (q : Place) (h : IsPart p built s ok u q) (front back : List ℕ) → bytes_of p.types (addresses p.types s) u h.value ≡ front ++ back → read_at (content_of p.types s) (rows_of p s) (place_word p built s ok q) (length front) ≡ Some front
  read_front u q h front back is =
      let st = stands (length p.sites) p.types FIRST_ADDRESS s.objects q.object h.object h.at in
      let n = length front in
      let size = size_of p.types u in
      let r = row_of (length p.sites) p.types st.address h.object in
      let m = content_of p.types s in
      let rows = rows_of p s in
      let within = object-within p.types built h.object.elem h.object.count q.path (place u h.offset) h.leads in
      let whole = length-bytes_of p s built (addresses p.types s) u h.value h.is_typed in
      let parts_length : size ≡ length front + length back = sym whole ∙ (ap length is ∙ length-append front back) in
      let word = place_word_is p built s ok u q h in
      let found = find_row (length p.sites) p.types FIRST_ADDRESS s.objects q.object h.offset h.object h.at (omega (arith, within)) in
      let parts = part_bytes p built s ok u q h in
      let around : elements_bytes p.types (addresses p.types s) h.object.elem h.elements ≡ parts.0 ++ (front ++ (back ++ parts.1)) = parts.3 ∙ (ap (λ l. parts.0 ++ (l ++ parts.1)) is ∙ ap (λ l. parts.0 ++ l) (append_assoc front back parts.1)) in
      let back_ : st.address + h.offset - st.address ≡ h.offset = omega arith in
      let below : nat_le (st.address + h.offset + n) (end_of r) ≡ true = le_true (st.address + h.offset + n) (end_of r) (omega (arith, within, parts_length)) in
      ap (λ a. read_at m rows a n) word
      ∙ (ap (λ o. then_option (then_option o (λ r. cond (r.live && nat_le (st.address + h.offset + n) (end_of r)) (Some r) None)) (λ r. option_map (λ bytes. piece_at bytes (st.address + h.offset - r.addr) n) (map.get m r.addr))) found
      ∙ (ap (λ b. then_option (cond (b && nat_le (st.address + h.offset + n) (end_of r)) (Some r) None) (λ r. option_map (λ bytes. piece_at bytes (st.address + h.offset - r.addr) n) (map.get m r.addr))) (live_true p built s ok h.object h.elements h.live)
      ∙ (ap (λ b. then_option (cond b (Some r) None) (λ r. option_map (λ bytes. piece_at bytes (st.address + h.offset - r.addr) n) (map.get m r.addr))) below
      ∙ (ap (option_map (λ bytes. piece_at bytes (st.address + h.offset - st.address) n)) (get_content (length p.sites) p.types s q.object h.object h.elements h.at h.live)
      ∙ ap Some (ap (λ k. piece_at (elements_bytes p.types (addresses p.types s) h.object.elem h.elements) k n) back_ ∙ (ap (λ l. piece_at l h.offset n) around ∙ piece_is p built s ok parts.0 front (back ++ parts.1) h.offset n parts.2 refl))))))

  -- a union's value
  pub record AUnion (n : ℕ) (l : Layer) : Type 0 where
    pub active : ℕ
    pub body : Value
    pub out : l ≡ V.Union active body
    pub member : FieldDef
    pub is_member : slice_get (members_of p.types n) active ≡ Some member
    pub typed_body : Typed p built s member.ty body

  union_in : (n : ℕ) (l : Layer) → layer_has_type p s (has_type p s) (T.Union n) l ≡ true → AUnion n l
  union_in n (V.Union k body) h = by (slice_get (members_of p.types n) k) refl h
    where
      by : (o : Option FieldDef) → slice_get (members_of p.types n) k ≡ o → member_has_type (has_type p s) o body ≡ true → AUnion n (V.Union k body)
      by None e h = absurd (cc)
      by (Some f) e h = record { active = k; body = body; out = refl; member = f; is_member = e; typed_body = h }
  union_in n (V.Int z) h = absurd (cc)
  union_in n V.Null h = absurd (cc)
  union_in n (V.Pointer o j) h = absurd (cc)
  union_in n (V.Function f) h = absurd (cc)
  union_in n (V.Struct vs) h = absurd (cc)
  union_in n (V.Array vs) h = absurd (cc)

  pub a_union : (u n : ℕ) (v : Value) → slice_get p.types.types u ≡ Some (T.Union n) → Typed p built s u v → AUnion n (out-Value v)
  a_union u n v e h = union_in n (out-Value v) (sym (has_type-is p s built [] u (T.Union n) e v) ∙ h)

  within_list : {A : Type 0} (xs : List A) (n : ℕ) (x : A) → slice_get xs n ≡ Some x → n < length xs
  within_list [] n x e = absurd (cc)
  within_list (y ∷ xs) zero x e = omega arith
  within_list (y ∷ xs) (suc n) x e = omega (arith, within_list xs n x e)

  -- the number of a union's active member, as the machine reads it
  pub read_active : (u n : ℕ) (q : Place) (h : IsPart p built s ok u q) → slice_get p.types.types u ≡ Some (T.Union n) → (v : AUnion n (out-Value h.value)) → (bytes : List ℕ) × (read_at (content_of p.types s) (rows_of p s) (place_word p built s ok q) 4 ≡ Some bytes) × (number_of bytes ≡ v.active)
  read_active u n q h e v =
      let rec = bytes_of p.types (addresses p.types s) in
      let is : bytes_of p.types (addresses p.types s) u h.value ≡ little_endian 4 v.active ++ _ = bytes_of-is p s built (addresses p.types s) u (T.Union n) e h.value ∙ ap (union_bytes (Rattle.c_types.specs.Layout.shape_of p.types) rec (members_of p.types n)) v.out in
      let four : length (little_endian 4 v.active) ≡ 4 = length-little_endian 4 v.active in
      let few = few_members p built n in
      let lt = within_list (members_of p.types n) v.active v.member v.is_member in
      (little_endian 4 v.active, subst (λ n. read_at (content_of p.types s) (rows_of p s) (place_word p built s ok q) n ≡ Some (little_endian 4 v.active)) four (read_front u q h (little_endian 4 v.active) _ is), number_4 v.active (omega (arith, few, lt)))

  -- the step into the active member
  pub member_from : (u n : ℕ) (q : Place) (h : IsPart p built s ok u q) → slice_get p.types.types u ≡ Some (T.Union n) → (v : AUnion n (out-Value h.value)) → Stepped p built s ok u v.member.ty q (Member v.active) (member_offset p.types n)
  member_from u n q h e v =
      let step : step_place p.types (slice_get p.types.types u) (Member v.active) ≡ Some (place v.member.ty (member_offset p.types n)) = ap (λ o. step_place p.types o (Member v.active)) e ∙ ap (option_map (λ (f : FieldDef). place f.ty (member_offset p.types n))) v.is_member in
      let here : part_in (out-Value h.value) (Member v.active) ≡ Some v.body = ap (λ l. part_in l (Member v.active)) v.out ∙ ap (λ b. cond b (Some v.body) None) (itself v.active) in
      step_to p built s ok u q (Member v.active) (place v.member.ty (member_offset p.types n)) h step (record { value = v.body; is = here; typed_part = v.typed_body })
    where
      itself : (n : ℕ) → nat_eq n n ≡ true
      itself n = grind (arith, nat_tests)

  member_offset_is : (n k t : ℕ) → is_member_of p.types (Some (T.Union n)) k t ≡ true → step_offset p.types (Some (T.Union n)) (Member k) ≡ member_offset p.types n
  member_offset_is n k t h = by (slice_get (members_of p.types n) k) h
    where
      by : (o : Option FieldDef) → option_map_or (λ (f : FieldDef). nat_eq f.ty t) o false ≡ true → option_map_or (λ (to : T_place.Place). to.offset) (option_map (λ (f : FieldDef). place f.ty (member_offset p.types n)) o) 0 ≡ member_offset p.types n
      by None h = absurd (cc)
      by (Some d) h = refl

  -- reading member k of the union at a place
  pub member_places : (u t k : ℕ) (q : Place) (rest : List ℕ) → IsPart p built s ok u q → is_member_of p.types (slice_get p.types.types u) k t ≡ true → Places p built s ok t rest (active_member s q k) (run p built s (member_last p.types u k) (place_word p built s ok q ∷ rest))
  member_places u t k q rest h is = by (slice_get p.types.types u) refl is
    where
      a : ℕ
      a = place_word p built s ok q

      by : (o : Option Ty) → slice_get p.types.types u ≡ o → is_member_of p.types o k t ≡ true → Places p built s ok t rest (active_member s q k) (run p built s (I.ReadUnion k ∷ I.Field (step_offset p.types o (Member k)) ∷ []) (place_word p built s ok q ∷ rest))
      by (Some (T.Union n)) e is =
          let v = a_union u n h.value e h.is_typed in
          let r = read_active u n q h e v in
          let offset = member_offset p.types n in
          let source : active_member s q k ≡ cond (nat_eq k v.active) (Ok (inside q (Member k))) (Err UnionMember) = ap (λ r. then_do r (λ v. cond (is_active k (out-Value v)) (Ok (inside q (Member k))) (Err UnionMember))) (value_is p built s ok u q h) ∙ ap (λ l. cond (is_active k l) (Ok (inside q (Member k))) (Err UnionMember)) v.out in
          let machine : run p built s (I.ReadUnion k ∷ I.Field offset ∷ []) (place_word p built s ok q ∷ rest) ≡ then_do (then_do (cond (nat_eq v.active k) (Ok (place_word p built s ok q)) (Err UnionMember)) (λ v. Ok (v ∷ rest))) (run p built s (I.Field offset ∷ [])) = ap (λ o. then_do (then_do (some_or o bad (λ bytes. cond (nat_eq (number_of bytes) k) (Ok (place_word p built s ok q)) (Err UnionMember))) (λ v. Ok (v ∷ rest))) (run p built s (I.Field offset ∷ []))) r.1 ∙ ap (λ n. then_do (then_do (cond (nat_eq n k) (Ok (place_word p built s ok q)) (Err UnionMember)) (λ v. Ok (v ∷ rest))) (run p built s (I.Field offset ∷ []))) r.2 in
          subst (λ l. Places p built s ok t rest (active_member s q k) (run p built s (I.ReadUnion k ∷ I.Field l ∷ []) (place_word p built s ok q ∷ rest))) (sym (member_offset_is n k t is)) (subst (λ x. Places p built s ok t rest x (run p built s (I.ReadUnion k ∷ I.Field offset ∷ []) (place_word p built s ok q ∷ rest))) (sym source) (subst (Places p built s ok t rest (cond (nat_eq k v.active) (Ok (inside q (Member k))) (Err UnionMember))) (sym machine) (at (nat_eq k v.active) refl (same k v.active))))
        where
          same : (a b : ℕ) → nat_eq b a ≡ nat_eq a b
          same a b = turn (nat_eq a b) refl
            where
              turn : (c : Bool) → nat_eq a b ≡ c → nat_eq b a ≡ c
              turn true q = grind (arith, nat_tests, q)
              turn false q = grind (arith, nat_tests, q)

          member_type : (k : ℕ) (d : FieldDef) → is_member_of p.types (Some (T.Union n)) k t ≡ true → slice_get (members_of p.types n) k ≡ Some d → d.ty ≡ t
          member_type k d h e = let f : nat_eq d.ty t ≡ true = ap (λ o. option_map_or (λ (f : FieldDef). nat_eq f.ty t) o false) (sym e) ∙ h in grind (arith, nat_tests, f)

          at : (b : Bool) → nat_eq k (a_union u n h.value e h.is_typed).active ≡ b → nat_eq (a_union u n h.value e h.is_typed).active k ≡ nat_eq k (a_union u n h.value e h.is_typed).active → Places p built s ok t rest (cond b (Ok (inside q (Member k))) (Err UnionMember)) (then_do (then_do (cond (nat_eq (a_union u n h.value e h.is_typed).active k) (Ok (place_word p built s ok q)) (Err UnionMember)) (λ v. Ok (v ∷ rest))) (run p built s (I.Field (member_offset p.types n) ∷ [])))
          at true test turned =
              let v = a_union u n h.value e h.is_typed in
              let one : v.active ≡ k = grind (arith, nat_tests, test) in
              let st = member_from u n q h e v in
              let types : v.member.ty ≡ t = member_type k v.member is (ap (slice_get (members_of p.types n)) (sym one) ∙ v.is_member) in
              let part : IsPart p built s ok t (inside q (Member k)) = subst (λ t. IsPart p built s ok t (inside q (Member k))) types (subst (λ k. IsPart p built s ok v.member.ty (inside q (Member k))) one st.part) in
              let there : place_word p built s ok (inside q (Member k)) ≡ place_word p built s ok q + member_offset p.types n = subst (λ k. place_word p built s ok (inside q (Member k)) ≡ place_word p built s ok q + member_offset p.types n) one st.there in
              let low = place_below p built s ok t (inside q (Member k)) part in
              let fits : place_word p built s ok q + member_offset p.types n < 2 ^ 64 = omega (arith, low, there) in
              subst (λ b. Places p built s ok t rest (Ok (inside q (Member k))) (then_do (then_do (cond b (Ok (place_word p built s ok q)) (Err UnionMember)) (λ v. Ok (v ∷ rest))) (run p built s (I.Field (member_offset p.types n) ∷ [])))) (sym (turned ∙ test)) (part, ap (λ w. w ∷ rest) (mod-eq_of_lt fits ∙ sym there))
          at false test turned = subst (λ b. Places p built s ok t rest (Err UnionMember) (then_do (then_do (cond b (Ok (place_word p built s ok q)) (Err UnionMember)) (λ v. Ok (v ∷ rest))) (run p built s (I.Field (member_offset p.types n) ∷ [])))) (sym (turned ∙ test)) (tt, refl)
      by _ e is = absurd (cc)
