-- The code of a place that is assigned makes the members on its way active, and gives its address.
use Rattle.std.proofs.Common.{◌≡◌, ◌∙◌, refl, ap, sym, subst, Bool, true, false, ◌&&◌, inl, cond, ℕ, ◌+◌, ◌-◌, ◌<◌, ◌≤◌, List, [], ◌∷◌, ◌++◌, length, map, Option, Some, None, Ok, Err, arith, nat_eq, nat_lt, ◌*◌}
use Rattle.std.specs.Prelude.{slice_get}
use Rattle.std.specs.Option.{option_map, option_map_or}
use Rattle.std.proofs.lemmas.Bool.Decides.{nat_tests}
use Rattle.lu_spec.specs.Then.{then_do}
use Rattle.lu_base.specs.declared.trap.Trap.TheVariants.{BadCode}
use Rattle.c_types.specs.declared.parts.FieldDef.{FieldDef}
use Rattle.c_types.specs.declared.parts.Ty.{Ty}
use Rattle.c_types.specs.declared.parts.Ty.TheVariants as T
use Rattle.c_types.specs.declared.parts.IntKind.TheVariants as K
use Rattle.c_types.specs.declared.path.Step.TheVariants.{Index, Field, Member}
use Rattle.c_types.specs.Layout.{size_of, member_offset, field_offset, greatest_align, shape_of}
use Rattle.c_types.specs.declared.path.Place as T_place
use Rattle.c_types.specs.Place.{place}
use Rattle.c_types.proofs.Capped.{next_multiple-above}
use Rattle.c_types.proofs.PlaceLaws.{step-within}
use Rattle.c_types.proofs.Shapes.{greatest_align-low}
use Rattle.c_types.proofs.ShapeLaws.{length-low}
use Rattle.c_types.specs.Tables.{members_of, fields_of}
use Rattle.src_tree.specs.declared.value.Value.{Value, Int, Union, out-Value}
use Rattle.src_tree.specs.declared.value.Value.TheVariants.{outs-Union}
use Rattle.src_tree.specs.declared.value.Value.TheOpen as V
use Rattle.src_tree.specs.declared.value.Store.{Store}
use Rattle.src_tree.specs.declared.program.Function.{Function}
use Rattle.src_tree.specs.declared.program.Program.{Program}
use Rattle.src_tree.specs.declared.expr.ExprKind.{Row_of-TypedExpr}
use Rattle.src_tree.specs.declared.expr.PlaceKind.{PlaceKind, Global, Deref', Arrow', Item', Element', Field', Member', more_of-TypedPlace}
use Rattle.src_tree.specs.declared.expr.TypedPlace.{TypedPlace}
use Rattle.src_meaning.specs.ValidDepth.{spot, unary_rank, place_keeps_bounds}
use Rattle.src_meaning.specs.Objects.{Gives, Place, or_trap, inside, store_with}
use Rattle.src_meaning.specs.Paths.{zero_of, Layer}
use Rattle.src_meaning.specs.Expression.{is_active, place_of, value_at_row, index_below, length_of, expr_type}
use Rattle.src_meaning.specs.Assignment.{Assignee, assignee, further, member_type_in, member_type, entered, assigned_place}
use Rattle.src_meaning.specs.Store.{IsStore}
use Rattle.src_meaning.specs.ValidTypes.{is_scalar, is_field_of, is_member_of, is_array_of, is_long_long, ty}
use Rattle.src_meaning.specs.ValidExpression.{Declarations, is_expr_row, is_place, is_outside, element_fits}
use Rattle.src_meaning.specs.Call.{State, Context, Callee, with_store, scope_of}
use Rattle.src_meaning.proofs.LayoutLengths.{and_left, and_right}
use Rattle.bm_isa.specs.declared.instr.Instr.TheVariants as I
use Rattle.bm_alu.specs.Words.{of_signed}
use Rattle.bm_code.specs.declared.code.MachineCode.{MachineCode}
use Rattle.bm_code.specs.declared.code.MachineFunction.{MachineFunction}
use Rattle.lu_base.specs.declared.world.World.{World}
use Rattle.bm_code.specs.Process.{Frame}
use Rattle.cg_expr.specs.Pieces.{step_offset, field_last, enter_last, element_last}
use Rattle.cg_expr.specs.Sizes.{row_size, place_size}
use Rattle.cg_expr.specs.Code.{Target, row_code, place_code}
use Rattle.cg_state.specs.Runs.{HasAt, Point, Leads, Yields}
use Rattle.cg_state.proofs.HasCode.{has_front, has_rest}
use Rattle.cg_state.proofs.Leads.{leads_yields, then_yields}
use Rattle.cg_sim_expr.proofs.Here.{on}
use Rattle.c_types.specs.Refusal.{IsBuilt}
use Rattle.lu_base.specs.declared.limits.TheConstants.{STACK_HEIGHT}
use Rattle.cg_state.proofs.Typed.{Typed, an_int}
use Rattle.cg_state.proofs.Words.{held_word}
use Rattle.cg_sim_expr.proofs.Matching.{word, run}
use Rattle.cg_sim_expr.proofs.Straight.{straight_does}
use Rattle.cg_state.proofs.Places.{IsPart, place_word, value_is}
use Rattle.cg_sim_expr.proofs.Steps.{IsPlaced, field_from, element_from, index_matches}
use Rattle.cg_state.proofs.Stores.{store_after, store_is}
use Rattle.src_laws.proofs.Extended.{Extends, extends_same, extends_further}
use Rattle.cg_sim.proofs.Kept.{kept_all}
use Rattle.cg_sim.proofs.Parts.{stores_keep}
use Rattle.cg_sim_expr.proofs.Limits.{place_below}
use Rattle.cg_sim_expr.proofs.Tables.{length_small}
use Rattle.cg_expr.proofs.Lengths.{length-row, length-row_place}
use Rattle.cg_sim_expr.proofs.Need.{row_need, place_need}
use Rattle.cg_sim_expr.proofs.Members.{AUnion, a_union, member_from}
use Rattle.cg_sim.proofs.UnionWrites.{fresh_typed, stays_leads, becomes_leads}
use Rattle.cg_sim.proofs.Apart.{KeepsParts, parts_stay, union_keeps}
use Rattle.cg_state.proofs.AfterWrite.{after_extends, part_after, value_after, word_after}
use Rattle.cg_sim.proofs.Assign.{same_place, same_code}
use Rattle.cg_sim_expr.proofs.Exprs.{place_runs, row_runs, field_leads, index_does, index_fine, field_part_of, member_part_of, array_of, long_long, index_lt}
use Rattle.cg_sim_expr.proofs.Bounds.{place_bound}
use Rattle.cg_sim.proofs.Layer.{FactsOf, held}
use Rattle.cg_sim.proofs.UnderWay.{target, decls, us, c, here, Well, GoodPlace, entered_at}

module _ (p : Program) (built : IsBuilt p.types) (starts : List ℕ) (code : MachineCode) (same : code.types ≡ p.types) (world : World) (f : ℕ) (m : MachineFunction) (is : slice_get code.functions f ≡ Some m) (callers : List Frame) (fd : Function) (call : Callee) (fuel : ℕ) (base : Store) where
  abbrev WellAt : State → Type 0
  WellAt st = Well p built starts code same world f m is callers fd call fuel base st

  abbrev from : State → ℕ → List ℕ → Point
  from st pc stack = here p built starts code same world f m is callers fd call fuel base st pc stack

  abbrev ctx : Context
  ctx = c p built starts code same world f m is callers fd call fuel base

  abbrev tgt : Target
  tgt = target p built starts code same world f m is callers fd call fuel base

  abbrev dcl : Declarations
  dcl = decls p built starts code same world f m is callers fd call fuel base

  abbrev Good : State → ℕ → Assignee → Type 0
  Good st u a = GoodPlace p built starts code same world f m is callers fd call fuel base st u a

  abbrev to_place : State → ℕ → List ℕ → Assignee → Point
  to_place st pc stack a = entered_at p built starts code same world f m is callers fd call fuel base st pc stack a

  -- from there the address of a place that is entered comes to the top of the stack
  abbrev Enters : State → Point → ℕ → ℕ → List ℕ → Gives Assignee → Type 0
  Enters st q u pc stack r = Yields p code world q (Good st u) (λ a. to_place st pc stack a) r

  -- a place that is found in the store as it is
  placed_enters : (st : State) (well : WellAt st) (q : Point) (u pc : ℕ) (stack : List ℕ) (r : Gives Place) → Yields p code world q (IsPlaced p built st.store well.store u) (λ a. from st pc (place_word p built st.store well.store a ∷ stack)) r → Enters st q u pc stack (then_do r (λ a. Ok (assignee st.store a)))
  placed_enters st well q u pc stack (Ok a) y = (record { well = well; placed = y.0; extends = extends_same st.store.objects; keeps = parts_stay p built st.store (size_of p.types u) }, y.1)
  placed_enters st well q u pc stack (Err t) y = y

  abbrev size : ℕ → ℕ
  size t = size_of p.types t

  -- what is entered from a store further on
  later_enters : (st : State) (s' : Store) (ok' : IsStore p s') → Extends st.store.objects s'.objects → (q : Point) (u pc : ℕ) (stack : List ℕ) (r : Gives Assignee) → KeepsParts p built st.store s' (size u) → Enters (with_store s' st) q u pc stack r → Enters st q u pc stack r
  later_enters st s' ok' ext q u pc stack (Ok b) keeps y =
      (record { well = y.0.well; placed = y.0.placed; extends = extends_further st.store.objects s'.objects b.store.objects ext y.0.extends; keeps = λ ok0 ok2 us a ha out le. let one = keeps ok0 ok' us a ha out le in let two = y.0.keeps ok' ok2 us a one.part out le in record { part = two.part; value = two.value ∙ one.value } }, y.1)
  later_enters st s' ok' ext q u pc stack (Err t) keeps y = y

  -- parts of a smaller size
  less_keeps : (s s' : Store) (y z : ℕ) → y ≤ z → KeepsParts p built s s' z → KeepsParts p built s s' y
  less_keeps s s' y z le keeps ok ok' us a ha out small = keeps ok ok' us a ha out (omega (arith, le, small))

  field_size : (t u j : ℕ) → is_field_of p.types (slice_get p.types.types t) j u ≡ true → size u ≤ size t
  field_size t u j h = by (slice_get p.types.types t) refl h
    where
      by : (o : Option Ty) → slice_get p.types.types t ≡ o → is_field_of p.types o j u ≡ true → size u ≤ size t
      by (Some (T.Struct n)) e h = at (slice_get (fields_of p.types n) j) refl h
        where
          at : (o : Option FieldDef) → slice_get (fields_of p.types n) j ≡ o → option_map_or (λ (f : FieldDef). nat_eq f.ty u) o false ≡ true → size u ≤ size t
          at None g h = absurd (cc)
          at (Some d) g h =
              let same_type : d.ty ≡ u = grind (arith, nat_tests, h) in
              let sizes = ap size same_type in
              let within = step-within p.types built t (Some (T.Struct n)) (Field j) (place d.ty (field_offset p.types n j)) e (ap (option_map (λ (f : FieldDef). place f.ty (field_offset p.types n j))) g) in
              omega (arith, within, sizes)
      by _ e h = absurd (cc)

  array_size : (t u : ℕ) → is_array_of (slice_get p.types.types t) u ≡ true → size u ≤ size t
  array_size t u h = by (slice_get p.types.types t) refl h
    where
      by : (o : Option Ty) → slice_get p.types.types t ≡ o → is_array_of o u ≡ true → size u ≤ size t
      by (Some (T.Array v n)) e h =
          let same_type : v ≡ u = grind (arith, nat_tests, h) in
          let sizes = ap size same_type in
          let some = length-low p.types built t v n e in
          let test : nat_lt 0 n ≡ true = positive n some in
          let within = step-within p.types built t (Some (T.Array v n)) (Index 0) (place v (0 * size v)) e (ap (λ b. cond b (Some (place v (0 * size v))) None) test) in
          omega (arith, within, sizes)
        where
          positive : (n : ℕ) → 1 ≤ n → nat_lt 0 n ≡ true
          positive n h = grind (arith, nat_tests, h)
      by _ e h = absurd (cc)

  member_size : (t n u k : ℕ) (d : FieldDef) → slice_get p.types.types t ≡ Some (T.Union n) → slice_get (members_of p.types n) k ≡ Some d → d.ty ≡ u → size u < size t
  member_size t n u k d e g same_type =
      let sizes = ap size same_type in
      let within = step-within p.types built t (Some (T.Union n)) (Member k) (place d.ty (member_offset p.types n)) e (ap (option_map (λ (f : FieldDef). place f.ty (member_offset p.types n))) g) in
      let start = next_multiple-above 4 (greatest_align (shape_of p.types) (members_of p.types n)) (greatest_align-low (shape_of p.types) (members_of p.types n)) in
      omega (arith, within, sizes, start)

  member_smaller : (t u j : ℕ) → is_member_of p.types (slice_get p.types.types t) j u ≡ true → size u ≤ size t
  member_smaller t u j h = by (slice_get p.types.types t) refl h
    where
      by : (o : Option Ty) → slice_get p.types.types t ≡ o → is_member_of p.types o j u ≡ true → size u ≤ size t
      by (Some (T.Union n)) e h = at (slice_get (members_of p.types n) j) refl h
        where
          at : (o : Option FieldDef) → slice_get (members_of p.types n) j ≡ o → option_map_or (λ (f : FieldDef). nat_eq f.ty u) o false ≡ true → size u ≤ size t
          at None g h = absurd (cc)
          at (Some d) g h = let lt = member_size t n u j d e g (grind (arith, nat_tests, h)) in omega (arith, lt)
      by _ e h = absurd (cc)

  -- a field
  field_enters : (st : State) (well : WellAt st) (t u k : ℕ) (q : Place) (pc : ℕ) (stack : List ℕ) → IsPlaced p built st.store well.store t q → is_field_of p.types (slice_get p.types.types t) k u ≡ true → HasAt m.code pc (field_last p.types t k) → Enters st (from st pc (place_word p built st.store well.store q ∷ stack)) u (pc + 1) stack (Ok (assignee st.store (inside q (Field k))))
  field_enters st well t u k q pc stack hq field has =
      let s = st.store in
      let ok = well.store in
      let step = field_from p built s ok t u k q (field_part_of p built s ok starts code same world f m is callers fd.params fd.locals st.sends st.locals (held p built starts code same world f m is callers fd call fuel base st well) st.ticks t u k q field hq) field in
      let low = place_below p built s ok u (inside q (Field k)) step.part in
      let there = step.there in
      placed_enters st well (from st pc (place_word p built s ok q ∷ stack)) u (pc + 1) stack (Ok (inside q (Field k))) (inl step.part, subst (λ x. Leads p code world (from st pc (place_word p built s ok q ∷ stack)) (from st (pc + 1) (x ∷ stack))) (sym there) (field_leads p built s ok starts code same world f m is callers fd.params fd.locals st.sends st.locals (held p built starts code same world f m is callers fd call fuel base st well) st.ticks pc (place_word p built s ok q) (step_offset p.types (slice_get p.types.types t) (Field k)) stack (omega (arith, low, there)) has.0))

  -- the union's member, once it is active, and its address
  module _ (st : State) (well : WellAt st) (t n u k : ℕ) (q : Place) (h : IsPart p built st.store well.store t q) (e : slice_get p.types.types t ≡ Some (T.Union n)) (d : FieldDef) (is_d : slice_get (members_of p.types n) k ≡ Some d) (ty_d : d.ty ≡ u) (pc : ℕ) (stack : List ℕ) where
    abbrev start : ℕ
    start = member_offset p.types n

    abbrev q_word : ℕ
    q_word = place_word p built st.store well.store q

    some_same : {a b : FieldDef} → ◌≡◌ {A = Option FieldDef} (Some a) (Some b) → a ≡ b
    some_same h = cc

    -- the active member
    inside_enters : (v : AUnion p built st.store well.store n (out-Value h.value)) → v.active ≡ k → slice_get m.code pc ≡ Some (I.Field start) → Enters st (from st pc (q_word ∷ stack)) u (pc + 1) stack (Ok (assignee st.store (inside q (Member k))))
    inside_enters v active has =
        let s = st.store in
        let ok = well.store in
        let step = member_from p built s ok t n q h e v in
        let same_member : v.member ≡ d = some_same (sym v.is_member ∙ (ap (slice_get (members_of p.types n)) active ∙ is_d)) in
        let is_u : v.member.ty ≡ u = ap (λ (d : FieldDef). d.ty) same_member ∙ ty_d in
        let part : IsPart p built s ok u (inside q (Member k)) = subst (λ t. IsPart p built s ok t (inside q (Member k))) is_u (subst (λ k. IsPart p built s ok v.member.ty (inside q (Member k))) active step.part) in
        let there : place_word p built s ok (inside q (Member k)) ≡ q_word + start = subst (λ k. place_word p built s ok (inside q (Member k)) ≡ q_word + start) active step.there in
        let low = place_below p built s ok u (inside q (Member k)) part in
        placed_enters st well (from st pc (q_word ∷ stack)) u (pc + 1) stack (Ok (inside q (Member k))) (inl part, subst (λ x. Leads p code world (from st pc (q_word ∷ stack)) (from st (pc + 1) (x ∷ stack))) (sym there) (field_leads p built s ok starts code same world f m is callers fd.params fd.locals st.sends st.locals (held p built starts code same world f m is callers fd call fuel base st well) st.ticks pc q_word start stack (omega (arith, low, there)) has))

  -- the value of a union after its member became active
  fresh_union : (s : Store) (ok : IsStore p s) (t n k : ℕ) (q : Place) (h : IsPart p built s ok t q) (e : slice_get p.types.types t ≡ Some (T.Union n)) (x : Value) → h.value ≡ Union k x → (v : AUnion p built s ok n (out-Value h.value)) → v.active ≡ k
  fresh_union s ok t n k q h e x is_x v =
      let both : ◌≡◌ {A = Layer} (V.Union v.active v.body) (V.Union k x) = sym v.out ∙ (ap out-Value is_x ∙ outs-Union k x) in
      ap number both
    where
      number : Layer → ℕ
      number (V.Union k x) = k
      number _ = 0

  -- a member of a union
  member_enters : (st : State) (well : WellAt st) (t u k : ℕ) (q : Place) (pc : ℕ) (stack : List ℕ) → IsPlaced p built st.store well.store t q → is_member_of p.types (slice_get p.types.types t) k u ≡ true → HasAt m.code pc (enter_last p.types t k) → Enters st (from st pc (place_word p built st.store well.store q ∷ stack)) u (pc + 2) stack (entered p.types t k (assignee st.store q))
  member_enters st well t u k q pc stack hq member has = by (slice_get p.types.types t) refl member
    where
      h : IsPart p built st.store well.store t q
      h = member_part_of p built st.store well.store starts code same world f m is callers fd.params fd.locals st.sends st.locals (held p built starts code same world f m is callers fd call fuel base st well) st.ticks t u k q member hq

      two : pc + 1 + 1 ≡ pc + 2
      two = omega arith

      same_test : (a b : ℕ) → nat_eq a b ≡ nat_eq b a
      same_test a b = turn (nat_eq b a) refl
        where
          turn : (c : Bool) → nat_eq b a ≡ c → nat_eq a b ≡ c
          turn true q = grind (arith, nat_tests, q)
          turn false q = grind (arith, nat_tests, q)

      at : (n : ℕ) (e : slice_get p.types.types t ≡ Some (T.Union n)) (d : FieldDef) (is_d : slice_get (members_of p.types n) k ≡ Some d) → d.ty ≡ u → (v : AUnion p built st.store well.store n (out-Value h.value)) → slice_get m.code pc ≡ Some (I.WriteUnion k (member_offset p.types n) (size_of p.types t - member_offset p.types n)) → slice_get m.code (pc + 1) ≡ Some (I.Field (member_offset p.types n)) → (b : Bool) → nat_eq k v.active ≡ b → Enters st (from st pc (place_word p built st.store well.store q ∷ stack)) u (pc + 2) stack (cond b (Ok (assignee st.store (inside q (Member k)))) (then_do (member_type p.types t k) (λ u. then_do (store_with st.store q (Union k (zero_of p.types u))) (λ store. Ok (assignee store (inside q (Member k)))))))
      at n e d is_d ty_d v writes fields true test =
          let active : v.active ≡ k = grind (arith, nat_tests, test) in
          subst (λ x. Enters st (from st pc (place_word p built st.store well.store q ∷ stack)) u x stack (Ok (assignee st.store (inside q (Member k))))) two (leads_yields p code world (from st pc (place_word p built st.store well.store q ∷ stack)) (from st (pc + 1) (place_word p built st.store well.store q ∷ stack)) (Good st u) (λ a. to_place st (pc + 1 + 1) stack a) (Ok (assignee st.store (inside q (Member k)))) refl (stays_leads p built st.store well.store t n q h e v k d is_d code world f m is callers st.sends (map (word p built st.store) st.locals) st.ticks pc stack writes (same_test v.active k ∙ test)) (inside_enters st well t n u k q h e d is_d ty_d (pc + 1) stack v active fields))
      at n e d is_d ty_d v writes fields false test =
          let s = st.store in
          let ok = well.store in
          let fresh = Union k (zero_of p.types d.ty) in
          let hv = fresh_typed p built s ok t n q h e v k d is_d in
          let s' = store_after p built s ok t q h fresh hv in
          let ok' = stores_keep p built s ok t q h fresh hv in
          let ext = after_extends p built s ok t q h fresh hv in
          let all = kept_all p built s s' ext (us p built starts code same world f m is callers fd call fuel base) st.locals well.locals in
          let next = with_store s' st in
          let well' : WellAt next = record { store = ok'; kept = extends_further base.objects s.objects s'.objects well.kept ext; locals = all.0 } in
          let part = part_after p built s ok t q h fresh hv ok' in
          let same_word = word_after p built s ok t q h fresh hv ok' in
          let type_is : member_type p.types t k ≡ Ok d.ty = ap (λ o. or_trap BadCode (member_type_in p.types k o)) e ∙ ap (λ o. or_trap BadCode (option_map (λ (f : FieldDef). f.ty) o)) is_d in
          let source : then_do (member_type p.types t k) (λ u. then_do (store_with s q (Union k (zero_of p.types u))) (λ store. Ok (assignee store (inside q (Member k))))) ≡ Ok (assignee s' (inside q (Member k))) = ap (λ r. then_do r (λ u. then_do (store_with s q (Union k (zero_of p.types u))) (λ store. Ok (assignee store (inside q (Member k)))))) type_is ∙ ap (λ r. then_do r (λ store. Ok (assignee store (inside q (Member k))))) (store_is p built s ok t q h fresh hv) in
          let union = a_union p built s' ok' t n part.value e part.is_typed in
          let active = fresh_union s' ok' t n k q part e (zero_of p.types d.ty) (value_after p built s ok t q h fresh hv ok') union in
          let first : Leads p code world (from st pc (place_word p built s ok q ∷ stack)) (from next (pc + 1) (place_word p built s ok q ∷ stack)) = subst (λ ws. Leads p code world (from st pc (place_word p built s ok q ∷ stack)) (on p code world f m is callers s' st.sends ws st.ticks (pc + 1) (place_word p built s ok q ∷ stack))) (sym all.1) (becomes_leads p built s ok t n q h e v k d is_d code world f m is callers st.sends (map (word p built s) st.locals) st.ticks pc stack writes (same_test v.active k ∙ test)) in
          let first_ = subst (λ x. Leads p code world (from st pc (place_word p built s ok q ∷ stack)) (from next (pc + 1) (x ∷ stack))) (sym same_word) first in
          let lt = member_size t n u k d e is_d ty_d in
          let rest = inside_enters next well' t n u k q part e d is_d ty_d (pc + 1) stack union active fields in
          let whole = leads_yields p code world (from st pc (place_word p built s ok q ∷ stack)) (from next (pc + 1) (place_word p built s' ok' q ∷ stack)) (Good st u) (λ a. to_place st (pc + 1 + 1) stack a) (Ok (assignee s' (inside q (Member k)))) refl first_ (later_enters st s' ok' ext (from next (pc + 1) (place_word p built s' ok' q ∷ stack)) u (pc + 1 + 1) stack (Ok (assignee s' (inside q (Member k)))) (union_keeps p built s ok t n q h e fresh hv (size u) lt) rest) in
          subst (Enters st (from st pc (place_word p built s ok q ∷ stack)) u (pc + 2) stack) (sym source) (subst (λ x. Enters st (from st pc (place_word p built s ok q ∷ stack)) u x stack (Ok (assignee s' (inside q (Member k))))) two whole)

      by : (o : Option Ty) → slice_get p.types.types t ≡ o → is_member_of p.types o k u ≡ true → Enters st (from st pc (place_word p built st.store well.store q ∷ stack)) u (pc + 2) stack (entered p.types t k (assignee st.store q))
      by (Some (T.Union n)) e is_m = of_member (slice_get (members_of p.types n) k) refl is_m
        where
          of_member : (o : Option FieldDef) → slice_get (members_of p.types n) k ≡ o → option_map_or (λ (f : FieldDef). nat_eq f.ty u) o false ≡ true → Enters st (from st pc (place_word p built st.store well.store q ∷ stack)) u (pc + 2) stack (entered p.types t k (assignee st.store q))
          of_member None g is_m = absurd (cc)
          of_member (Some d) g is_m =
              let ty_d : d.ty ≡ u = grind (arith, nat_tests, is_m) in
              let v = a_union p built st.store well.store t n h.value e h.is_typed in
              let source : entered p.types t k (assignee st.store q) ≡ cond (nat_eq k v.active) (Ok (assignee st.store (inside q (Member k)))) (then_do (member_type p.types t k) (λ u. then_do (store_with st.store q (Union k (zero_of p.types u))) (λ store. Ok (assignee store (inside q (Member k)))))) = ap (λ r. then_do r (λ v. cond (is_active k (out-Value v)) (Ok (assignee st.store (inside q (Member k)))) (then_do (member_type p.types t k) (λ u. then_do (store_with st.store q (Union k (zero_of p.types u))) (λ store. Ok (assignee store (inside q (Member k)))))))) (value_is p built st.store well.store t q h) ∙ ap (λ l. cond (is_active k l) (Ok (assignee st.store (inside q (Member k)))) (then_do (member_type p.types t k) (λ u. then_do (store_with st.store q (Union k (zero_of p.types u))) (λ store. Ok (assignee store (inside q (Member k))))))) v.out in
              let offset_is : step_offset p.types (Some (T.Union n)) (Member k) ≡ member_offset p.types n = ap (λ o. option_map_or (λ (to : T_place.Place). to.offset) (option_map (λ (f : FieldDef). place f.ty (member_offset p.types n)) o) 0) g in
              let code_at = subst (λ o. HasAt m.code pc (I.WriteUnion k (step_offset p.types o (Member k)) (size_of p.types t - step_offset p.types o (Member k)) ∷ I.Field (step_offset p.types o (Member k)) ∷ [])) e has in
              let code_is = subst (λ x. HasAt m.code pc (I.WriteUnion k x (size_of p.types t - x) ∷ I.Field x ∷ [])) offset_is code_at in
              subst (Enters st (from st pc (place_word p built st.store well.store q ∷ stack)) u (pc + 2) stack) (sym source) (at n e d g ty_d v code_is.0 code_is.1.0 (nat_eq k v.active) refl)
      by _ e is_m = absurd (cc)

  module _ (facts : FactsOf p built starts code same world f m is callers fd call fuel base) where
    -- an element
    element_enters : {n : _} (st : State) (well : WellAt st) (t u : ℕ) (i : Row_of-TypedExpr n) (q : Place) (pc : ℕ) (stack : List ℕ) → IsPlaced p built st.store well.store t q → is_expr_row dcl i && element_fits p.types u t (expr_type i) ≡ true → HasAt m.code pc (row_code tgt i pc ++ element_last p.types t u) → pc + row_size p.types i + 1 < length m.code → length stack + (1 + row_need i) ≤ m.height → Enters st (from st pc (place_word p built st.store well.store q ∷ stack)) u (pc + row_size p.types i + 1) stack (then_do (value_at_row (scope_of ctx st) i) (λ v. then_do (index_below (length_of p.types t) v) (λ k. Ok (assignee st.store (inside q (Index k))))))
    element_enters st well t u i q pc stack hq ok_i has end room =
        let s = st.store in
        let ok = well.store in
        let hold = held p built starts code same world f m is callers fd call fuel base st well in
        let si = and_left (is_expr_row dcl i) (element_fits p.types u t (expr_type i)) ok_i in
        let element = and_right (is_expr_row dcl i) (element_fits p.types u t (expr_type i)) ok_i in
        let arr = array_of p built st.store well.store starts code same world f m is callers fd.params fd.locals st.sends st.locals hold st.ticks t u (and_left (is_array_of (ty p.types t) u) (is_long_long (ty p.types (expr_type i))) element) in
        let long = long_long p built st.store well.store starts code same world f m is callers fd.params fd.locals st.sends st.locals hold st.ticks (expr_type i) (and_right (is_array_of (ty p.types t) u) (is_long_long (ty p.types (expr_type i))) element) in
        let sci : is_scalar (slice_get p.types.types (expr_type i)) ≡ true = ap is_scalar long.is_long in
        let ni = row_size p.types i in
        let ci = row_code tgt i pc in
        let cl = element_last p.types t u in
        let last = has_rest m.code pc ni ci cl (length-row tgt i pc) has in
        subst (Enters st (from st pc (place_word p built s ok q ∷ stack)) u (pc + ni + 1) stack) (sym (twice (value_at_row (scope_of ctx st) i))) (placed_enters st well (from st pc (place_word p built s ok q ∷ stack)) u (pc + ni + 1) stack (then_do (value_at_row (scope_of ctx st) i) (λ v. then_do (index_below (length_of p.types t) v) (λ k. Ok (inside q (Index k))))) (then_yields p code world (from st pc (place_word p built s ok q ∷ stack)) (Typed p built s (expr_type i)) (λ v. from st (pc + ni) (word p built s v ∷ place_word p built s ok q ∷ stack)) (IsPlaced p built s ok u) (λ q. from st (pc + ni + 1) (place_word p built s ok q ∷ stack)) (value_at_row (scope_of ctx st) i) (λ v. then_do (index_below (length_of p.types t) v) (λ k. Ok (inside q (Index k)))) (λ v. refl) (row_runs p built s ok starts code same world f m is callers fd.params fd.locals st.sends st.locals hold st.ticks (facts st well) i pc (place_word p built s ok q ∷ stack) si sci (has_front m.code pc ci cl has) (omega (arith, end)) (omega (arith, room))) (λ v hv.
        let z = an_int p built s (expr_type i) K.LongLong v long.is_long hv in
        let start = place_word p built s ok q ∷ stack in
        let parts = λ (j : ℕ) (lt : j < arr.count). element_from p built s ok t u arr.count j q hq arr.is_array lt in
        let m_is = index_matches p built s ok t u (place_word p built s ok q) z.number stack arr.count arr.is_array (length_small p built t u arr.count arr.is_array) (held_word K.LongLong z.number z.held) (λ j lt. let sp = parts j lt in let w = place_below p built s ok u (inside q (Index j)) sp.part in omega (arith, w, sp.there)) in
        subst (λ v. Yields p code world (from st (pc + ni) (word p built s v ∷ start)) (IsPlaced p built s ok u) (λ q. from st (pc + ni + 1) (place_word p built s ok q ∷ stack)) (then_do (index_below (length_of p.types t) v) (λ k. Ok (inside q (Index k))))) (sym z.is) (index_does p built s ok starts code same world f m is callers fd.params fd.locals st.sends st.locals hold st.ticks t u (pc + ni) q stack (index_below (length_of p.types t) (Int z.number)) (run p built s cl (of_signed z.number ∷ start)) (of_signed z.number ∷ start) m_is (λ j e. let lt = index_lt p built s ok starts code same world f m is callers fd.params fd.locals st.sends st.locals hold st.ticks t u arr.count z.number j arr.is_array e in let sp = parts j lt in (sp.part, sp.there)) (straight_does p code same world f m is callers s st.sends (map (word p built s) st.locals) st.ticks cl (pc + ni) (of_signed z.number ∷ start) last (index_fine p built s ok starts code same world f m is callers fd.params fd.locals st.sends st.locals hold st.ticks stack (place_word p built s ok q) (size_of p.types u) (index_below (length_of p.types t) (Int z.number)) (run p built s cl (of_signed z.number ∷ start)) m_is))))))
      where
        each : (r : Gives ℕ) → then_do r (λ k. Ok (assignee st.store (inside q (Index k)))) ≡ then_do (then_do r (λ k. Ok (inside q (Index k)))) (λ q. Ok (assignee st.store q))
        each (Ok k) = refl
        each (Err tr) = refl

        twice : (r : Gives Value) → then_do r (λ v. then_do (index_below (length_of p.types t) v) (λ k. Ok (assignee st.store (inside q (Index k))))) ≡ then_do (then_do r (λ v. then_do (index_below (length_of p.types t) v) (λ k. Ok (inside q (Index k))))) (λ q. Ok (assignee st.store q))
        twice (Ok v) = each (index_below (length_of p.types t) v)
        twice (Err tr) = refl

    -- a place outside unions
    outside_enters : (st : State) (well : WellAt st) (kind : PlaceKind) (u pc : ℕ) (stack : List ℕ) → is_outside kind ≡ true → is_place dcl u kind ≡ true → HasAt m.code pc (place_code tgt true u kind pc) → pc + place_size p.types kind < length m.code → length stack + place_need kind ≤ m.height → Enters st (from st pc stack) u (pc + place_size p.types kind) stack (assigned_place (scope_of ctx st) u kind)
    outside_enters st well kind u pc stack out ok_q has end room =
        subst (Enters st (from st pc stack) u (pc + place_size p.types kind) stack) (sym (same_place (scope_of ctx st) u kind out)) (placed_enters st well (from st pc stack) u (pc + place_size p.types kind) stack (place_of (scope_of ctx st) u kind) (place_runs p built st.store well.store starts code same world f m is callers fd.params fd.locals st.sends st.locals (held p built starts code same world f m is callers fd call fuel base st well) st.ticks (facts st well) kind u pc stack ok_q (subst (HasAt m.code pc) (same_code tgt u kind pc out) has) end room))

    -- each place that is assigned
    place_enters : (kind : PlaceKind) (st : State) (well : WellAt st) (u pc : ℕ) (stack : List ℕ) → is_place dcl u kind ≡ true → HasAt m.code pc (place_code tgt true u kind pc) → pc + place_size p.types kind < length m.code → length stack + place_need kind ≤ m.height → Enters st (from st pc stack) u (pc + place_size p.types kind) stack (assigned_place (scope_of ctx st) u kind)
    place_enters (Global g) st well u pc stack ok_q has end room = outside_enters st well (Global g) u pc stack refl ok_q has end room
    place_enters (Deref' k e) st well u pc stack ok_q has end room = outside_enters st well (Deref' k e) u pc stack refl ok_q has end room
    place_enters (Arrow' k e) st well u pc stack ok_q has end room = outside_enters st well (Arrow' k e) u pc stack refl ok_q has end room
    place_enters (Item' k a j i) st well u pc stack ok_q has end room = outside_enters st well (Item' k a j i) u pc stack refl ok_q has end room
    place_enters (Field' k (more_of-TypedPlace t kind rest) j) st well u pc stack ok_q has end room =
        let se = and_left (is_place dcl t kind) (is_field_of p.types (slice_get p.types.types t) j u) ok_q in
        let field = and_right (is_place dcl t kind) (is_field_of p.types (slice_get p.types.types t) j u) ok_q in
        let ne = place_size p.types kind in
        let ce = place_code tgt true t kind pc in
        let cl = field_last p.types t j in
        let last = has_rest m.code pc ne ce cl (length-row_place tgt true (more_of-TypedPlace t kind rest) pc) has in
        let sum : pc + ne + 1 ≡ pc + (ne + 1) = omega arith in
        subst (λ x. Enters st (from st pc stack) u x stack (assigned_place (scope_of ctx st) u (Field' k (more_of-TypedPlace t kind rest) j))) sum (then_yields p code world (from st pc stack) (Good st t) (λ a. to_place st (pc + ne) stack a) (Good st u) (λ a. to_place st (pc + ne + 1) stack a) (assigned_place (scope_of ctx st) t kind) (λ a. Ok (further a (inside a.at (Field j)))) (λ a. refl) (place_enters kind st well t pc stack se (has_front m.code pc ce cl has) (omega (arith, end)) room) (λ a good.
        later_enters st a.store good.well.store good.extends (to_place st (pc + ne) stack a) u (pc + ne + 1) stack (Ok (further a (inside a.at (Field j)))) (less_keeps st.store a.store (size u) (size t) (field_size t u j field) good.keeps) (field_enters (with_store a.store st) good.well t u j a.at (pc + ne) stack good.placed field last)))
    place_enters (Member' k (more_of-TypedPlace t kind rest) j) st well u pc stack ok_q has end room =
        let se = and_left (is_place dcl t kind) (is_member_of p.types (slice_get p.types.types t) j u) ok_q in
        let member = and_right (is_place dcl t kind) (is_member_of p.types (slice_get p.types.types t) j u) ok_q in
        let ne = place_size p.types kind in
        let ce = place_code tgt true t kind pc in
        let cl = enter_last p.types t j in
        let last = has_rest m.code pc ne ce cl (length-row_place tgt true (more_of-TypedPlace t kind rest) pc) has in
        let sum : pc + ne + 2 ≡ pc + (ne + 2) = omega arith in
        subst (λ x. Enters st (from st pc stack) u x stack (assigned_place (scope_of ctx st) u (Member' k (more_of-TypedPlace t kind rest) j))) sum (then_yields p code world (from st pc stack) (Good st t) (λ a. to_place st (pc + ne) stack a) (Good st u) (λ a. to_place st (pc + ne + 2) stack a) (assigned_place (scope_of ctx st) t kind) (entered p.types t j) (λ a. refl) (place_enters kind st well t pc stack se (has_front m.code pc ce cl has) (omega (arith, end)) room) (λ a good.
        later_enters st a.store good.well.store good.extends (to_place st (pc + ne) stack a) u (pc + ne + 2) stack (entered p.types t j a) (less_keeps st.store a.store (size u) (size t) (member_smaller t u j member) good.keeps) (member_enters (with_store a.store st) good.well t u j a.at (pc + ne) stack good.placed member last)))
    place_enters (Element' k (more_of-TypedPlace t kind rest) j i) st well u pc stack ok_q has end room =
        let sa = and_left (is_place dcl t kind) (is_expr_row dcl i && element_fits p.types u t (expr_type i)) ok_q in
        let index = and_right (is_place dcl t kind) (is_expr_row dcl i && element_fits p.types u t (expr_type i)) ok_q in
        let na = place_size p.types kind in
        let ni = row_size p.types i in
        let ca = place_code tgt true t kind pc in
        let cl = row_code tgt i (pc + na) ++ element_last p.types t u in
        let last = has_rest m.code pc na ca cl (length-row_place tgt true (more_of-TypedPlace t kind rest) pc) has in
        let sum : pc + na + ni + 1 ≡ pc + (na + ni + 1) = omega arith in
        subst (λ x. Enters st (from st pc stack) u x stack (assigned_place (scope_of ctx st) u (Element' k (more_of-TypedPlace t kind rest) j i))) sum (then_yields p code world (from st pc stack) (Good st t) (λ a. to_place st (pc + na) stack a) (Good st u) (λ a. to_place st (pc + na + ni + 1) stack a) (assigned_place (scope_of ctx st) t kind) (λ a. then_do (value_at_row (scope_of ctx (with_store a.store st)) i) (λ v. then_do (index_below (length_of p.types t) v) (λ k. Ok (further a (inside a.at (Index k)))))) (λ a. refl) (place_enters kind st well t pc stack sa (has_front m.code pc ca cl has) (omega (arith, end)) (omega (arith, room))) (λ a good.
        later_enters st a.store good.well.store good.extends (to_place st (pc + na) stack a) u (pc + na + ni + 1) stack (then_do (value_at_row (scope_of ctx (with_store a.store st)) i) (λ v. then_do (index_below (length_of p.types t) v) (λ k. Ok (further a (inside a.at (Index k)))))) (less_keeps st.store a.store (size u) (size t) (array_size t u (and_left (is_array_of (slice_get p.types.types t) u) _ (and_right (is_expr_row dcl i) (element_fits p.types u t (expr_type i)) index))) good.keeps) (element_enters (with_store a.store st) good.well t u i a.at (pc + na) stack good.placed index last (omega (arith, end)) (omega (arith, room)))))

    -- as statements take it: the height is enough
    pub enters : m.height ≡ STACK_HEIGHT → (st : State) → WellAt st → (q : TypedPlace) (pc n : ℕ) (stack : List ℕ) → n ≤ 64 → is_place dcl q.ty q.kind ≡ true → place_keeps_bounds (spot unary_rank n) q.kind ≡ true → length stack ≤ 64 → HasAt m.code pc (place_code tgt true q.ty q.kind pc) → pc + place_size p.types q.kind < length m.code → Enters st (from st pc stack) q.ty (pc + place_size p.types q.kind) stack (assigned_place (scope_of ctx st) q.ty q.kind)
    enters high st well q pc n stack low is_q depth few has within =
        let b = (place_bound dcl q.ty q.kind (spot unary_rank n) is_q depth).words in
        place_enters q.kind st well q.ty pc stack is_q has within (omega (arith, b, low, few, high))
