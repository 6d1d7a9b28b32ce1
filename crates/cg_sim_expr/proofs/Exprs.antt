-- The code of an expression gives its value, or traps as it does.
use Rattle.std.proofs.Common.{◌≡◌, ◌∙◌, refl, ap, sym, subst, Bool, true, false, ◌&&◌, ◌⊎◌, inl, inr, cond, ℕ, ◌+◌, ◌*◌, ◌^◌, ◌<◌, ◌≤◌, List, [], ◌∷◌, ◌++◌, length, map, Option, Some, None, Result, Ok, Err, arith}
use Rattle.std.specs.Prelude.{slice_get, ℤ, pos}
use Rattle.std.specs.Option.{option_map}
use Rattle.std.proofs.lemmas.Option.{slice_get-map}
use Rattle.lu_spec.specs.Then.{then_do}
use Rattle.lu_base.specs.declared.trap.Trap.{Trap}
use Rattle.lu_base.specs.declared.trap.Trap.TheVariants.{BadCode}
use Rattle.c_types.specs.Refusal.{IsBuilt}
use Rattle.c_types.specs.declared.parts.Ty.{Ty}
use Rattle.c_types.specs.declared.parts.Ty.TheVariants as T
use Rattle.c_types.specs.Layout.{size_of}
use Rattle.src_tree.specs.declared.value.Value.{Value, Int, Pointer}
use Rattle.src_tree.specs.declared.value.Store.{Store}
use Rattle.src_tree.specs.declared.program.Program.{Program}
use Rattle.src_tree.specs.declared.expr.ExprKind.{ExprKind, Number, SizeOf, Local, Function as Function_name, Load', AddressOf', Decay', Cast', Convert', Unary', Binary', Logical', Conditional', Row_of-TypedExpr, end_of-TypedExpr, more_of-TypedExpr}
use Rattle.src_tree.specs.declared.expr.PlaceKind.{PlaceKind, Global, Deref', Arrow', Item', Element', Field', Member', Row_of-TypedPlace, end_of-TypedPlace, more_of-TypedPlace}
use Rattle.src_tree.specs.declared.expr.UnaryOperator.{UnaryOperator}
use Rattle.src_tree.specs.declared.expr.UnaryOperator.TheVariants.{Minus, Complement, Not}
use Rattle.src_tree.specs.declared.expr.BinaryOperator.TheVariants.{PointerAdd}
use Rattle.src_meaning.specs.Objects.{Gives, or_trap}
use Rattle.src_meaning.specs.Operators.{is_true, converted, flagged, unary, binary}
use Rattle.lu_base.specs.Sending.{Sent}
use Rattle.src_meaning.specs.Expression.{Scope, value_of, value_at_row, chosen, logical, expr_type, place_type}
use Rattle.src_meaning.specs.ValidTypes.{is_scalar, is_pointer, is_int, converts, ty, is_decayed, is_unsigned_int, points_to, is_field_of, is_member_of, is_array_of, is_long_long, is_object_pointer}
use Rattle.src_meaning.specs.Constant.{is_zero_literal, is_zero_row}
use Rattle.src_meaning.specs.ValidExpression.{Declarations, local_type, is_expr, is_expr_row, unary_fits, binary_fits, cast_fits, convert_fits, conditional_fits, logical_fits}
use Rattle.src_meaning.proofs.LayoutLengths.{and_left, and_right}
use Rattle.bm_isa.specs.declared.instr.Instr.{Instr}
use Rattle.bm_isa.specs.declared.instr.Instr.TheVariants as I
use Rattle.bm_code.specs.declared.code.MachineCode.{MachineCode}
use Rattle.bm_code.specs.declared.code.MachineFunction.{MachineFunction}
use Rattle.lu_base.specs.declared.world.World.{World}
use Rattle.bm_code.specs.Process.{Frame}
use Rattle.bm_alu.specs.Words.{of_signed}
use Rattle.cg_expr.specs.Pieces.{normal, unary_first, unary_last, binary_last, logical_first, decided_value}
use Rattle.src_meaning.specs.ValidTypes as valid_types
use Rattle.cg_expr.specs.Pieces as piece
use Rattle.cg_expr.specs.Sizes.{expression_size, row_size}
use Rattle.cg_expr.specs.Code.{Target, expression_code, row_code}
use Rattle.cg_state.specs.Runs.{HasAt, IsPlain, Leads, Point, Yields}
use Rattle.cg_state.proofs.HasCode.{has_front, has_back, has_rest}
use Rattle.cg_state.proofs.Leads.{then_leads, stays, leads_yields, then_yields}
use Rattle.cg_sim_expr.proofs.Here.{on, const_leads, get_leads, jump_leads, zero_leads, other_leads}
use Rattle.cg_state.proofs.Typed.{Typed}
use Rattle.cg_sim_expr.proofs.Straight.{DoesTo, IsFine, straight_does}
use Rattle.cg_sim_expr.proofs.Matching.{number_word, word, run, Matches, matches_fine, Truth, a_scalar, truth_of, number_typed, name_typed, cast_scalar, cast_matches, convert_matches, zero_matches, zero_or_converts, converts_or_zero_scalar, zero_value, below, unary_matches, unary_scalar, turned, turned_truth, first_matches, logical_is, decided_is, flagged_is, flagged_matches, decided_typed, binary_scalars, conditional_parts, chosen_is, local_known}
use Rattle.cg_expr.proofs.Lengths.{two, length-expression, length-row}
use Rattle.src_tree.specs.declared.expr.LogicalOperator.{LogicalOperator}
use Rattle.src_tree.specs.declared.expr.LogicalOperator.TheVariants.{And, Or}
use Rattle.cg_sim_expr.proofs.Need.{need, row_need, place_need, row_place_need}
use Rattle.std.specs.Prelude.{nat_eq, nat_lt, negsuc, if◌then◌else◌}
use Rattle.std.proofs.Math.Nat.{mod-eq_of_lt}
use Rattle.std.proofs.lemmas.Bool.Decides.{nat_tests}
use Rattle.lu_base.specs.declared.trap.Trap.TheVariants.{BadIndex}
use Rattle.c_types.specs.declared.parts.IntKind.TheVariants as K
use Rattle.c_types.specs.declared.path.Step.TheVariants.{Index, Field}
use Rattle.src_meaning.specs.Objects.{Place, inside, value_at, address_at}
use Rattle.src_meaning.specs.Expression.{place_of, place_at, address_of, global_place, index_below, index_within, length_of, pointer_plus, active_member}
use Rattle.src_meaning.specs.Store.{IsStore}
use Rattle.src_meaning.specs.ValidExpression.{is_place, is_place_row, is_outside_row, load_fits, decay_fits, address_fits, element_fits, item_fits, move_fits}
use Rattle.cg_state.specs.Represents.{address_in}
use Rattle.cg_expr.specs.Pieces.{deref_last, element_last, field_last}
use Rattle.cg_expr.specs.Sizes.{load_last, place_size, row_place_size, row_address_size}
use Rattle.cg_expr.specs.Code.{place_code, row_place_code, row_address_code}
use Rattle.cg_expr.proofs.Lengths.{length-row_place}
use Rattle.cg_state.proofs.Typed.{an_int, a_pointer, typed_pointer, to as at_object}
use Rattle.cg_sim_expr.proofs.Operators.{operator_matches}
use Rattle.cg_sim_expr.proofs.Tables.{size_typed, length_small, pointed_known}
use Rattle.cg_sim_expr.proofs.Elements.{end_case, end_index, ElementAt, element_at}
use Rattle.cg_sim_expr.proofs.Limits.{address_below, pointer_below, name_below, place_below, place_addressed}
use Rattle.cg_state.proofs.Words.{held_word}
use Rattle.cg_state.proofs.Places.{IsPart, place_word}
use Rattle.cg_sim_expr.proofs.Members.{member_places}
use Rattle.cg_sim_expr.proofs.Loads.{SmallWords, load_matches, Places, deref_places}
use Rattle.cg_sim_expr.proofs.Steps.{IsPlaced, field_from, element_from, Indexes, index_matches}

-- a local has its value, of its type
abbrev pub HoldLocals : (p : Program) → IsBuilt p.types → Declarations → Store → List Value → Type 0
HoldLocals p built d s ls =
    (x u : ℕ) → local_type d x ≡ Some u → (v : Value) × (slice_get ls x ≡ Some v) × Typed p built s u v

module _ (p : Program) (built : IsBuilt p.types) (s : Store) (ok : IsStore p s) (starts : List ℕ) (code : MachineCode) (same : code.types ≡ p.types) (world : World) (f : ℕ) (m : MachineFunction) (is : slice_get code.functions f ≡ Some m) (callers : List Frame) (params locals : List ℕ) (sends : List Sent) (ls : List Value) (held : HoldLocals p built (record { program = p; params = params; locals = locals }) s ls) (t : ℕ) where
  abbrev pub target : Target
  target = record { types = p.types; starts = starts; functions = p.functions }

  abbrev pub decls : Declarations
  decls = record { program = p; params = params; locals = locals }

  abbrev pub scope : Scope
  scope = record { types = p.types; store = s; locals = ls }

  abbrev pub here : ℕ → List ℕ → Point
  here pc stack = on p code world f m is callers s sends (map (word p built s) ls) t pc stack

  -- from there a value of the type comes to the top of the stack
  abbrev pub Gets : Point → ℕ → ℕ → List ℕ → Gives Value → Type 0
  Gets q u pc stack r = Yields p code world q (Typed p built s u) (λ v. here pc (word p built s v ∷ stack)) r

  does_get : (u pc n : ℕ) (stack rest : List ℕ) (r : Gives Value) (w : Result (List ℕ) Trap) → Matches p built s u rest r w → DoesTo p code same world (here pc stack) (λ next. here n next) w → Gets (here pc stack) u n rest r
  does_get u pc n stack rest (Ok v) (Ok next) h d = (h.0, subst (λ l. Leads p code world (here pc stack) (here n l)) h.1 d)
  does_get u pc n stack rest (Ok v) (Err w) h d = absurd h
  does_get u pc n stack rest (Err tr) (Ok next) h d = absurd h
  does_get u pc n stack rest (Err tr) (Err w) h d = (h.0, subst (λ x. Rattle.cg_state.specs.Runs.TrapsAs p code world (here pc stack) x t) h.1 d)

  -- a piece of code that gives a value
  pub piece_gets : (u pc : ℕ) (stack rest : List ℕ) (r : Gives Value) (is : List Instr) → HasAt m.code pc is → Matches p built s u rest r (run p built s is stack) → Gets (here pc stack) u (pc + length is) rest r
  piece_gets u pc stack rest r piece has h =
      does_get u pc (pc + length piece) stack rest r (run p built s piece stack) h (straight_does p code same world f m is callers s sends (map (word p built s) ls) t piece pc stack has (matches_fine p built s u rest r (run p built s piece stack) h))

  gets_at : (q : Point) (u u' pc pc' : ℕ) (stack : List ℕ) (r : Gives Value) → u ≡ u' → pc ≡ pc' → Gets q u pc stack r → Gets q u' pc' stack r
  gets_at q u u' pc pc' stack r e n y = subst (λ u. Gets q u pc' stack r) e (subst (λ n. Gets q u n stack r) n y)

  -- a choice by a value's truth
  choice_gets : (u pc sz ysz nsz : ℕ) (stack : List ℕ) (v : Value) (truth : Truth p built s v) (one alt : List Instr) (a b : Gives Value) → length one ≡ ysz → length alt ≡ nsz → pc + sz + 1 + ysz + 1 + nsz < length m.code → HasAt m.code (pc + sz) (I.JumpIfZero (pc + sz + 1 + ysz + 1) ∷ (one ++ (I.Jump (pc + sz + 1 + ysz + 1 + nsz) ∷ alt))) → (HasAt m.code (pc + sz + 1) one → Gets (here (pc + sz + 1) stack) u (pc + sz + 1 + ysz) stack a) → (HasAt m.code (pc + sz + 1 + ysz + 1) alt → Gets (here (pc + sz + 1 + ysz + 1) stack) u (pc + sz + 1 + ysz + 1 + nsz) stack b) → Gets (here (pc + sz) (word p built s v ∷ stack)) u (pc + sz + 1 + ysz + 1 + nsz) stack (cond truth.holds a b)
  choice_gets u pc sz ysz nsz stack v truth one alt a b ey en within has ga gb = by truth.holds truth.one truth.alt
    where
      other : ℕ
      other = pc + sz + 1 + ysz + 1

      end : ℕ
      end = pc + sz + 1 + ysz + 1 + nsz

      after : HasAt m.code (pc + sz + 1 + ysz) (I.Jump end ∷ alt)
      after = has_rest m.code (pc + sz + 1) ysz one (I.Jump end ∷ alt) ey has.1

      past : (r : Gives Value) → Gets (here (pc + sz + 1) stack) u (pc + sz + 1 + ysz) stack r → Gets (here (pc + sz + 1) stack) u end stack r
      past (Ok x) h = (h.0, then_leads p code world h.1 (jump_leads p code world f m is callers s sends (map (word p built s) ls) t (pc + sz + 1 + ysz) end (word p built s x ∷ stack) (omega arith) within after.0))
      past (Err tr) h = h

      by : (c : Bool) → (c ≡ true → word p built s v ≡ 0 → ⊥) → (c ≡ false → word p built s v ≡ 0) → Gets (here (pc + sz) (word p built s v ∷ stack)) u end stack (cond c a b)
      by true y n = leads_yields p code world (here (pc + sz) (word p built s v ∷ stack)) (here (pc + sz + 1) stack) _ _ a refl (other_leads p code world f m is callers s sends (map (word p built s) ls) t (pc + sz) other (word p built s v) stack (y refl) (omega arith) has.0) (past a (ga (has_front m.code (pc + sz + 1) one (I.Jump end ∷ alt) has.1)))
      by false y n =
          let zero_word = n refl in
          leads_yields p code world (here (pc + sz) (word p built s v ∷ stack)) (here other stack) _ _ b refl (subst (λ w. Leads p code world (here (pc + sz) (w ∷ stack)) (here other stack)) (sym zero_word) (zero_leads p code world f m is callers s sends (map (word p built s) ls) t (pc + sz) other stack (omega arith) (omega arith) has.0)) (gb after.1)

  -- the code of what stands in a row before more code
  first_part : (pc n : ℕ) (a b : List Instr) → length a ≡ n → HasAt m.code pc (a ++ b) → HasAt m.code (pc + n) b
  first_part pc n a b e h = has_rest m.code pc n a b e h

  abbrev Room : ℕ → List ℕ → Type 0
  Room n stack = length stack + n ≤ m.height

  -- from there the address of a place of the type comes to the top of the stack
  abbrev pub PlaceGets : Point → ℕ → ℕ → List ℕ → Gives Place → Type 0
  PlaceGets q u pc stack r = Yields p code world q (IsPlaced p built s ok u) (λ q. here pc (place_word p built s ok q ∷ stack)) r

  place_piece : (u pc : ℕ) (stack rest : List ℕ) (r : Gives Place) (is : List Instr) → HasAt m.code pc is → Places p built s ok u rest r (run p built s is stack) → PlaceGets (here pc stack) u (pc + length is) rest r
  place_piece u pc stack rest r piece has h = by r (run p built s piece stack) h (straight_does p code same world f m is callers s sends (map (word p built s) ls) t piece pc stack has (places_fine r (run p built s piece stack) h))
    where
      places_fine : (r : Gives Place) (w : Result (List ℕ) Trap) → Places p built s ok u rest r w → IsFine w
      places_fine (Ok q) (Ok next) h = tt
      places_fine (Ok q) (Err w) h = absurd h
      places_fine (Err tr) (Ok next) h = absurd h
      places_fine (Err tr) (Err w) h = subst IsPlain (sym h.1) h.0

      by : (r : Gives Place) (w : Result (List ℕ) Trap) → Places p built s ok u rest r w → DoesTo p code same world (here pc stack) (λ next. here (pc + length piece) next) w → PlaceGets (here pc stack) u (pc + length piece) rest r
      by (Ok q) (Ok next) h d = (inl h.0, subst (λ l. Leads p code world (here pc stack) (here (pc + length piece) l)) h.1 d)
      by (Ok q) (Err w) h d = absurd h
      by (Err tr) (Ok next) h d = absurd h
      by (Err tr) (Err w) h d = (h.0, subst (λ x. Rattle.cg_state.specs.Runs.TrapsAs p code world (here pc stack) x t) h.1 d)

  pub field_leads : (pc a k : ℕ) (stack : List ℕ) → a + k < 2 ^ 64 → slice_get m.code pc ≡ Some (I.Field k) → Leads p code world (here pc (a ∷ stack)) (here (pc + 1) ((a + k) ∷ stack))
  field_leads pc a k stack fits has =
      subst (λ w. Leads p code world (here pc (a ∷ stack)) (here (pc + 1) (w ∷ stack))) (mod-eq_of_lt fits) (straight_does p code same world f m is callers s sends (map (word p built s) ls) t (I.Field k ∷ []) pc (a ∷ stack) (has, tt) tt)

  pub index_does : (u u' pc : ℕ) (q : Place) (stack : List ℕ) (r : Gives ℕ) (w : Result (List ℕ) Trap) (start : List ℕ) → Indexes p built s ok stack (place_word p built s ok q) (size_of p.types u') r w → ((i : ℕ) → r ≡ Ok i → IsPart p built s ok u' (inside q (Index i)) × (place_word p built s ok (inside q (Index i)) ≡ place_word p built s ok q + i * size_of p.types u')) → DoesTo p code same world (here pc start) (λ next. here (pc + 1) next) w → PlaceGets (here pc start) u' (pc + 1) stack (then_do r (λ i. Ok (inside q (Index i))))
  index_does u u' pc q stack (Ok i) (Ok next) start h part d =
      let a = part i refl in
      (inl a.0, subst (λ l. Leads p code world (here pc start) (here (pc + 1) l)) (h ∙ ap (λ w. w ∷ stack) (sym a.1)) d)
  index_does u u' pc q stack (Ok i) (Err w) start h part d = absurd h
  index_does u u' pc q stack (Err tr) (Ok next) start h part d = absurd h
  index_does u u' pc q stack (Err tr) (Err w) start h part d = (h.0, subst (λ x. Rattle.cg_state.specs.Runs.TrapsAs p code world (here pc start) x t) h.1 d)

  pub index_fine : (rest : List ℕ) (a size : ℕ) (r : Gives ℕ) (w : Result (List ℕ) Trap) → Indexes p built s ok rest a size r w → IsFine w
  index_fine rest a size (Ok i) (Ok next) h = tt
  index_fine rest a size (Ok i) (Err w) h = absurd h
  index_fine rest a size (Err tr) (Ok next) h = absurd h
  index_fine rest a size (Err tr) (Err w) h = subst IsPlain (sym h.1) h.0

  pointer_scalar : (a u : ℕ) → points_to (slice_get p.types.types a) u ≡ true → is_scalar (slice_get p.types.types a) ≡ true
  pointer_scalar a u h = by (slice_get p.types.types a) h
    where
      by : (o : Option Ty) → points_to o u ≡ true → is_scalar o ≡ true
      by (Some (T.Pointer w)) h = refl
      by _ h = absurd (cc)

  -- a place of a scalar is a part
  scalar_part : (u : ℕ) (q : Place) → is_scalar (slice_get p.types.types u) ≡ true → IsPlaced p built s ok u q → IsPart p built s ok u q
  scalar_part u q sc (inl h) = h
  scalar_part u q sc (inr h) = absurd (no_array (ap is_scalar h.array) sc)
    where
      no_array : {b : Bool} → b ≡ false → b ≡ true → ⊥
      no_array h g = absurd (cc)

  pub field_part_of : (u u' k : ℕ) (q : Place) → is_field_of p.types (slice_get p.types.types u) k u' ≡ true → IsPlaced p built s ok u q → IsPart p built s ok u q
  field_part_of u u' k q h (inl part) = part
  field_part_of u u' k q h (inr whole) = absurd (no_array (ap (λ o. is_field_of p.types o k u') whole.array) h)
    where
      no_array : {b : Bool} → b ≡ false → b ≡ true → ⊥
      no_array h g = absurd (cc)

  pub member_part_of : (u u' k : ℕ) (q : Place) → is_member_of p.types (slice_get p.types.types u) k u' ≡ true → IsPlaced p built s ok u q → IsPart p built s ok u q
  member_part_of u u' k q h (inl part) = part
  member_part_of u u' k q h (inr whole) = absurd (no_array (ap (λ o. is_member_of p.types o k u') whole.array) h)
    where
      no_array : {b : Bool} → b ≡ false → b ≡ true → ⊥
      no_array h g = absurd (cc)

  -- an array's element type and length
  pub record ArrayOf (u u' : ℕ) : Type 0 where
    pub count : ℕ
    pub is_array : slice_get p.types.types u ≡ Some (T.Array u' count)

  pub array_of : (u u' : ℕ) → is_array_of (slice_get p.types.types u) u' ≡ true → ArrayOf u u'
  array_of u u' h = by (slice_get p.types.types u) refl h
    where
      by : (o : Option Ty) → slice_get p.types.types u ≡ o → is_array_of o u' ≡ true → ArrayOf u u'
      by (Some (T.Array w n)) e h = let same_type : w ≡ u' = grind (arith, nat_tests, h) in record { count = n; is_array = e ∙ ap (λ w. Some (T.Array w n)) same_type }
      by _ e h = absurd (cc)

  pub record LongLong (u : ℕ) : Type 0 where
    pub is_long : slice_get p.types.types u ≡ Some (T.Int K.LongLong)

  pub long_long : (u : ℕ) → is_long_long (slice_get p.types.types u) ≡ true → LongLong u
  long_long u h = by (slice_get p.types.types u) refl h
    where
      by : (o : Option Ty) → slice_get p.types.types u ≡ o → is_long_long o ≡ true → LongLong u
      by (Some (T.Int K.LongLong)) e h = record { is_long = e }
      by _ e h = absurd (cc)

  -- what is known of a program and a store of it
  pub record Facts : Type 0 where
    pub few_functions : length p.functions < 2 ^ 31
    pub globals : (g u : ℕ) → is_place decls u (Global g) ≡ true → IsPlaced p built s ok u (global_place p.types u g) × (address_in starts g ≡ place_word p built s ok (global_place p.types u g))

  first_runs : (op : UnaryOperator) (pc : ℕ) (stack : List ℕ) → HasAt m.code pc (unary_first op) → length stack < m.height → Leads p code world (here pc stack) (here (pc + length (unary_first op)) (below p built s op stack))
  first_runs Minus pc stack has room = const_leads p code world f m is callers s sends (map (word p built s) ls) t pc stack 0 room has.0
  first_runs Complement pc stack has room = const_leads p code world f m is callers s sends (map (word p built s) ls) t pc stack 18446744073709551615 room has.0
  first_runs Not pc stack has room =
      let n : pc ≡ pc + 0 = omega arith in
      subst (λ n. Leads p code world (here pc stack) (here n stack)) n (stays p code world (here pc stack))

  below_room : (op : UnaryOperator) (stack : List ℕ) (n : ℕ) → Room (1 + n) stack → Room n (below p built s op stack)
  below_room Minus stack n h = omega (arith, h)
  below_room Complement stack n h = omega (arith, h)
  below_room Not stack n h = omega (arith, h)

  turns_leads : (op : LogicalOperator) (pc n : ℕ) (stack : List ℕ) (v : Value) (q : Truth p built s v) → pc + length (logical_first op) ≡ n → HasAt m.code pc (logical_first op) → Leads p code world (here pc (word p built s v ∷ stack)) (here n (word p built s (turned p built s op v q) ∷ stack))
  turns_leads op pc n stack v q e has =
      let is_first = first_matches p built s op v q stack in
      subst (λ n. Leads p code world (here pc (word p built s v ∷ stack)) (here n (word p built s (turned p built s op v q) ∷ stack))) e (subst (DoesTo p code same world (here pc (word p built s v ∷ stack)) (λ next. here (pc + length (logical_first op)) next)) is_first (straight_does p code same world f m is callers s sends (map (word p built s) ls) t (logical_first op) pc (word p built s v ∷ stack) has (subst IsFine (sym is_first) tt)))

  const_at : (op : LogicalOperator) (pc : ℕ) → HasAt m.code pc (I.Const (decided_value op) ∷ []) → slice_get m.code pc ≡ Some (I.Const (of_signed (pos (decided_value op))))
  const_at And pc h = h.0
  const_at Or pc h = h.0

  eq_of : (a b : ℕ) → nat_eq a b ≡ true → a ≡ b
  eq_of a b h = grind (arith, nat_tests, h)

  pub index_lt : (u u' n : ℕ) (z : ℤ) (i : ℕ) → slice_get p.types.types u ≡ Some (T.Array u' n) → index_below (length_of p.types u) (Int z) ≡ Ok i → i < n
  index_lt u u' n z i e h = by z (ap (λ o. index_within (Rattle.src_meaning.specs.Expression.length_in o) z) (sym e) ∙ h)
    where
      by : (z : ℤ) → index_within n z ≡ Ok i → i < n
      by (pos j) h = at (nat_lt j n) refl h
        where
          at : (b : Bool) → nat_lt j n ≡ b → (if b then Ok j else Err BadIndex) ≡ Ok i → i < n
          at true q h = let same_index : j ≡ i = cc in grind (arith, nat_tests, q, same_index)
          at false q h = absurd (cc)
      by (negsuc j) h = absurd (cc)

  -- a pointer type that an array decays to
  record Decays (a u : ℕ) : Type 0 where
    element_size : ℕ
    is_pointer_to : slice_get p.types.types u ≡ Some (T.Pointer element_size)

  decays_to : (a u : ℕ) → decay_fits p.types u a ≡ true → Decays a u
  decays_to a u h = by (slice_get p.types.types a) (slice_get p.types.types u) refl h
    where
      by : (oa ou : Option Ty) → slice_get p.types.types u ≡ ou → is_decayed oa ou ≡ true → Decays a u
      by (Some (T.Array w n)) (Some (T.Pointer x)) e h = record { element_size = x; is_pointer_to = e }
      by (Some (T.Array w n)) (Some (T.Int kind)) e h = absurd (cc)
      by (Some (T.Array w n)) (Some T.VoidPointer) e h = absurd (cc)
      by (Some (T.Array w n)) (Some (T.Function g)) e h = absurd (cc)
      by (Some (T.Array w n)) (Some (T.Struct k)) e h = absurd (cc)
      by (Some (T.Array w n)) (Some (T.Union k)) e h = absurd (cc)
      by (Some (T.Array w n)) (Some (T.Array x k)) e h = absurd (cc)
      by (Some (T.Array w n)) None e h = absurd (cc)
      by _ ou e h = absurd (cc)

  -- the address of a place as a value
  addressed_gets : (u x pc : ℕ) (stack : List ℕ) (t : ℕ) (q : Place) → slice_get p.types.types u ≡ Some (T.Pointer x) → IsPlaced p built s ok t q → Gets (here pc (place_word p built s ok q ∷ stack)) u pc stack (address_at p.types s q 0)
  addressed_gets u x pc stack t q e h =
      let a = place_addressed p built s ok t q h in
      subst (λ r. Gets (here pc (place_word p built s ok q ∷ stack)) u pc stack r) (sym a.is) (typed_pointer p built s u x (Pointer q.object a.offset) e (at_object q.object a.offset a.address), subst (λ w. Leads p code world (here pc (place_word p built s ok q ∷ stack)) (here pc (w ∷ stack))) a.word_is (stays p code world (here pc (place_word p built s ok q ∷ stack))))

  pointer_type : (u t : ℕ) → points_to (slice_get p.types.types u) t ≡ true → slice_get p.types.types u ≡ Some (T.Pointer t)
  pointer_type u t h = by (slice_get p.types.types u) h
    where
      by : (o : Option Ty) → points_to o t ≡ true → o ≡ Some (T.Pointer t)
      by (Some (T.Pointer w)) h = let same_type : w ≡ t = grind (arith, nat_tests, h) in ap (λ w. Some (T.Pointer w)) same_type
      by _ h = absurd (cc)

  -- the pointer to an element, or to the end of an array
  end_does : (u x pc size : ℕ) (q : Place) (stack : List ℕ) (r : Gives ℕ) (w : Result (List ℕ) Trap) (start : List ℕ) → slice_get p.types.types u ≡ Some (T.Pointer x) → Indexes p built s ok stack (place_word p built s ok q) size r w → ((i : ℕ) → r ≡ Ok i → ElementAt p built s ok q (i * size)) → DoesTo p code same world (here pc start) (λ next. here (pc + 1) next) w → Gets (here pc start) u (pc + 1) stack (then_do r (λ i. address_at p.types s q (i * size)))
  end_does u x pc size q stack (Ok i) (Ok next) start e h part d =
      let a = part i refl in
      subst (λ r. Gets (here pc start) u (pc + 1) stack r) (sym a.is) (typed_pointer p built s u x (Pointer q.object a.offset) e (at_object q.object a.offset a.address), subst (λ l. Leads p code world (here pc start) (here (pc + 1) l)) (h ∙ ap (λ w. w ∷ stack) a.word_is) d)
  end_does u x pc size q stack (Ok i) (Err w) start e h part d = absurd h
  end_does u x pc size q stack (Err tr) (Ok next) start e h part d = absurd h
  end_does u x pc size q stack (Err tr) (Err w) start e h part d = (h.0, subst (λ x. Rattle.cg_state.specs.Runs.TrapsAs p code world (here pc start) x t) h.1 d)

  -- a pointer has each type of pointers to the same
  pointer_retyped : (q : Point) (u u' t n : ℕ) (stack : List ℕ) (r : Gives Value) → slice_get p.types.types u ≡ Some (T.Pointer t) → slice_get p.types.types u' ≡ Some (T.Pointer t) → Gets q u n stack r → Gets q u' n stack r
  pointer_retyped q u u' t n stack (Ok v) e e' y = (typed_pointer p built s u' t v e' (a_pointer p built s u t v e y.0), y.1)
  pointer_retyped q u u' t n stack (Err tr) e e' y = y

  module _ (facts : Facts) where
    -- `p + i`
    item_gets : (ta ti pc na ni : ℕ) (stack : List ℕ) (ra ri : Gives Value) → Gets (here pc stack) ta (pc + na) stack ra → ((v : Value) → Typed p built s ta v → Gets (here (pc + na) (word p built s v ∷ stack)) ti (pc + na + ni) (word p built s v ∷ stack) ri) → HasAt m.code (pc + na + ni) (I.AddPointer (piece.element_size p.types ta) ∷ []) → move_fits p.types ta ta ti ≡ true → Gets (here pc stack) ta (pc + na + ni + 1) stack (pointer_plus scope ta ra ri)
    item_gets ta ti pc na ni stack ra ri ga gi has fits =
        then_yields p code world (here pc stack) (Typed p built s ta) (λ v. here (pc + na) (word p built s v ∷ stack)) (Typed p built s ta) (λ v. here (pc + na + ni + 1) (word p built s v ∷ stack)) ra (λ v. then_do ri (λ w. binary p.types s ta ta PointerAdd v w)) (λ v. refl) ga (λ v hv.
        then_yields p code world (here (pc + na) (word p built s v ∷ stack)) (Typed p built s ti) (λ w. here (pc + na + ni) (word p built s w ∷ word p built s v ∷ stack)) (Typed p built s ta) (λ v. here (pc + na + ni + 1) (word p built s v ∷ stack)) ri (λ w. binary p.types s ta ta PointerAdd v w) (λ w. refl) (gi v hv) (λ w hw.
        piece_gets ta (pc + na + ni) (word p built s w ∷ word p built s v ∷ stack) stack (binary p.types s ta ta PointerAdd v w) (I.AddPointer (piece.element_size p.types ta) ∷ []) has (operator_matches p built s ok ta ta ti PointerAdd v w stack hv hw fits)))

    -- what is known of the parts of `p[i]`
    record IsItem (x a i : ℕ) : Type 0 where
      points : points_to (slice_get p.types.types a) x ≡ true
      moves : move_fits p.types a a i ≡ true
      index : is_scalar (slice_get p.types.types i) ≡ true

    item_parts : (x a i : ℕ) → item_fits p.types x a i ≡ true → IsItem x a i
    item_parts x a i h =
        let points = and_left (points_to (slice_get p.types.types a) x) (is_long_long (slice_get p.types.types i)) h in
        let long = and_right (points_to (slice_get p.types.types a) x) (is_long_long (slice_get p.types.types i)) h in
        record { points = points; moves = ap (λ o. is_object_pointer o && (nat_eq a a && is_long_long (slice_get p.types.types i))) (pointer_type a x points) ∙ (ap (λ b. b && is_long_long (slice_get p.types.types i)) (itself a) ∙ long); index = ap is_scalar (long_long i long).is_long }
      where
        itself : (a : ℕ) → nat_eq a a ≡ true
        itself a = grind (arith, nat_tests)

    small_words : SmallWords p built s ok
    small_words = record { pointers = pointer_below p built s ok; functions = name_below p built s ok facts.few_functions }

    -- what is known of a value that is converted
    converting : (a : ℕ) (kind : ExprKind) (u pc : ℕ) (stack : List ℕ) → (is_pointer (valid_types.ty p.types u) && is_zero_literal p.types a kind ≡ true) ⊎ (converts (valid_types.ty p.types a) (valid_types.ty p.types u) ≡ true) → (r : Gives Value) → value_of scope a kind ≡ r → Gets (here pc stack) a (pc + expression_size p.types a kind) stack r → Yields p code world (here pc stack) (λ v. Matches p built s u stack (converted p.types u v) (run p built s (normal (valid_types.ty p.types u)) (word p built s v ∷ stack))) (λ v. here (pc + expression_size p.types a kind) (word p built s v ∷ stack)) r
    converting a kind u pc stack (inr c) (Ok v) e y = (convert_matches p built s u a v stack y.0 c, y.1)
    converting a kind u pc stack (inl z) (Ok v) e y =
        (subst (λ v. Matches p built s u stack (converted p.types u v) (run p built s (normal (valid_types.ty p.types u)) (word p built s v ∷ stack))) (zero_value p built s scope refl a kind (and_right (is_pointer (valid_types.ty p.types u)) (is_zero_literal p.types a kind) z) v e) (zero_matches p built s u stack (and_left (is_pointer (valid_types.ty p.types u)) (is_zero_literal p.types a kind) z)), y.1)
    converting a kind u pc stack q (Err tr) e y = y

    mutual
      pub expression_runs : (kind : ExprKind) (u pc : ℕ) (stack : List ℕ) → is_expr decls u kind ≡ true → is_scalar (slice_get p.types.types u) ≡ true → HasAt m.code pc (expression_code target u kind pc) → pc + expression_size p.types u kind < length m.code → Room (need kind) stack → Gets (here pc stack) u (pc + expression_size p.types u kind) stack (value_of scope u kind)
      expression_runs (Number z) u pc stack ty sc has end room =
          (number_typed p built s u z ty, subst (λ w. Leads p code world (here pc stack) (here (pc + 1) (w ∷ stack))) (number_word p built s u z ty) (const_leads p code world f m is callers s sends (map (word p built s) ls) t pc stack (piece.word_of z) (omega (arith, room)) has.0))
      expression_runs (SizeOf w) u pc stack ty sc has end room =
          (size_typed p built s u w (and_left (is_unsigned_int (slice_get p.types.types u)) _ ty), const_leads p code world f m is callers s sends (map (word p built s) ls) t pc stack (size_of p.types w) (omega (arith, room)) has.0)
      expression_runs (Local x) u pc stack ty sc has end room =
          let known = local_known p built s decls x u ty in
          let v = held x u known in
          subst (λ r. Gets (here pc stack) u (pc + 1) stack r) (sym (ap (or_trap BadCode) v.1)) (v.2, get_leads p code world f m is callers s sends (map (word p built s) ls) t pc stack x (word p built s v.0) (slice_get-map (word p built s) ls x ∙ ap (option_map (word p built s)) v.1) (omega (arith, room)) has.0)
      expression_runs (Function_name g) u pc stack ty sc has end room =
          (name_typed p built s u g ty, const_leads p code world f m is callers s sends (map (word p built s) ls) t pc stack (g + 1) (omega (arith, room)) has.0)
      expression_runs (Load' n e) u pc stack ty sc has end room =
          let sub = and_left (is_place_row decls e) (load_fits p.types u (place_type e)) ty in
          let fits = and_right (is_place_row decls e) (load_fits p.types u (place_type e)) ty in
          let same_type = eq_of (place_type e) u (and_left (nat_eq (place_type e) u) _ fits) in
          let ne = row_place_size p.types e in
          let ce = row_place_code target false e pc in
          let cl = load_last (piece.pointer_size p.types) (valid_types.ty p.types u) in
          let sum : pc + ne + length cl ≡ pc + (ne + length cl) = omega arith in
          gets_at (here pc stack) u u _ _ stack _ refl sum (then_yields p code world (here pc stack) (IsPlaced p built s ok (place_type e)) (λ q. here (pc + ne) (place_word p built s ok q ∷ stack)) (Typed p built s u) (λ v. here (pc + ne + length cl) (word p built s v ∷ stack)) (place_at scope e) (value_at s) (λ q. refl) (row_place_runs e pc stack sub (has_front m.code pc ce cl has) (omega (arith, end)) room) (λ q hq.
          piece_gets u (pc + ne) (place_word p built s ok q ∷ stack) stack (value_at s q) cl (has_rest m.code pc ne ce cl (length-row_place target false e pc) has) (load_matches p built s ok small_words u q (scalar_part u q sc (subst (λ t. IsPlaced p built s ok t q) same_type hq)) stack sc)))
      expression_runs (AddressOf' n e) u pc stack ty sc has end room = address_runs e u pc stack ty has end room
      expression_runs (Decay' n e) u pc stack ty sc has end room =
          let sub = and_left (is_place_row decls e) (is_outside_row e && decay_fits p.types u (place_type e)) ty in
          let fits = and_right (is_outside_row e) (decay_fits p.types u (place_type e)) (and_right (is_place_row decls e) (is_outside_row e && decay_fits p.types u (place_type e)) ty) in
          let d = decays_to (place_type e) u fits in
          then_yields p code world (here pc stack) (IsPlaced p built s ok (place_type e)) (λ q. here (pc + row_place_size p.types e) (place_word p built s ok q ∷ stack)) (Typed p built s u) (λ v. here (pc + row_place_size p.types e) (word p built s v ∷ stack)) (place_at scope e) (λ q. address_at p.types s q 0) (λ q. refl) (row_place_runs e pc stack sub has end room) (λ q hq. addressed_gets u d.element_size (pc + row_place_size p.types e) stack (place_type e) q d.is_pointer_to hq)
      expression_runs (Cast' n e) u pc stack ty sc has end room =
          let fits = and_right (is_expr_row decls e) (cast_fits p.types u (expr_type e)) ty in
          let sub = and_left (is_expr_row decls e) (cast_fits p.types u (expr_type e)) ty in
          let ce = row_code target e pc in
          let le = length-row target e pc in
          let cn = normal (valid_types.ty p.types u) in
          let sum : pc + row_size p.types e + length cn ≡ pc + (row_size p.types e + length cn) = omega arith in
          gets_at (here pc stack) u u _ _ stack _ refl sum (then_yields p code world (here pc stack) (Typed p built s (expr_type e)) (λ v. here (pc + row_size p.types e) (word p built s v ∷ stack)) (Typed p built s u) (λ v. here (pc + row_size p.types e + length cn) (word p built s v ∷ stack)) (value_at_row scope e) (converted p.types u) (λ v. refl) (row_runs e pc stack sub (cast_scalar p built s u (expr_type e) fits) (has_front m.code pc ce cn has) (omega (arith, end)) room) (λ v hv.
          piece_gets u (pc + row_size p.types e) (word p built s v ∷ stack) stack (converted p.types u v) cn (has_rest m.code pc (row_size p.types e) ce cn le has) (cast_matches p built s u (expr_type e) v stack hv fits)))
      expression_runs (Convert' n e) u pc stack ty sc has end room = convert_runs e u pc stack ty has end room
      expression_runs (Unary' op n e) u pc stack ty sc has end room =
          let sub = and_left (is_expr_row decls e) (unary_fits p.types u op (expr_type e)) ty in
          let fits = and_right (is_expr_row decls e) (unary_fits p.types u op (expr_type e)) ty in
          let nf = length (unary_first op) in
          let ne = row_size p.types e in
          let ce = row_code target e (pc + nf) in
          let cl = unary_last (valid_types.ty p.types u) op in
          let first = first_runs op pc stack (has_front m.code pc (unary_first op) (ce ++ cl) has) (omega (arith, room)) in
          let after = has_back m.code pc (unary_first op) (ce ++ cl) has in
          let sum : pc + nf + ne + length cl ≡ pc + (nf + ne + length cl) = omega arith in
          gets_at (here pc stack) u u _ _ stack _ refl sum (leads_yields p code world (here pc stack) (here (pc + nf) (below p built s op stack)) _ _ _ refl first (then_yields p code world (here (pc + nf) (below p built s op stack)) (Typed p built s (expr_type e)) (λ v. here (pc + nf + ne) (word p built s v ∷ below p built s op stack)) (Typed p built s u) (λ v. here (pc + nf + ne + length cl) (word p built s v ∷ stack)) (value_at_row scope e) (unary p.types u op) (λ v. refl) (row_runs e (pc + nf) (below p built s op stack) sub (unary_scalar p built s u (expr_type e) op fits) (has_front m.code (pc + nf) ce cl after) (omega (arith, end)) (below_room op stack (row_need e) room)) (λ v hv.
          piece_gets u (pc + nf + ne) (word p built s v ∷ below p built s op stack) stack (unary p.types u op v) cl (has_rest m.code (pc + nf) ne ce cl (length-row target e (pc + nf)) after) (unary_matches p built s u (expr_type e) op v stack hv fits))))
      expression_runs (Binary' op n a k b) u pc stack ty sc has end room =
          let sa = and_left (is_expr_row decls a) (is_expr_row decls b && binary_fits p.types u op (expr_type a) (expr_type b)) ty in
          let rest = and_right (is_expr_row decls a) (is_expr_row decls b && binary_fits p.types u op (expr_type a) (expr_type b)) ty in
          let sb = and_left (is_expr_row decls b) (binary_fits p.types u op (expr_type a) (expr_type b)) rest in
          let fits = and_right (is_expr_row decls b) (binary_fits p.types u op (expr_type a) (expr_type b)) rest in
          let scalars = binary_scalars p built s u (expr_type a) (expr_type b) op fits in
          let na = row_size p.types a in
          let nb = row_size p.types b in
          let ca = row_code target a pc in
          let cb = row_code target b (pc + na) in
          let co = binary_last p.types u (expr_type a) op in
          let after = has_rest m.code pc na ca (cb ++ co) (length-row target a pc) has in
          let last = has_rest m.code (pc + na) nb cb co (length-row target b (pc + na)) after in
          let sum : pc + na + nb + length co ≡ pc + (na + nb + length co) = omega arith in
          gets_at (here pc stack) u u _ _ stack _ refl sum (then_yields p code world (here pc stack) (Typed p built s (expr_type a)) (λ v. here (pc + na) (word p built s v ∷ stack)) (Typed p built s u) (λ v. here (pc + na + nb + length co) (word p built s v ∷ stack)) (value_at_row scope a) (λ v. then_do (value_at_row scope b) (λ w. binary p.types s u (expr_type a) op v w)) (λ v. refl) (row_runs a pc stack sa scalars.0 (has_front m.code pc ca (cb ++ co) has) (omega (arith, end)) (omega (arith, room))) (λ v hv.
          then_yields p code world (here (pc + na) (word p built s v ∷ stack)) (Typed p built s (expr_type b)) (λ w. here (pc + na + nb) (word p built s w ∷ word p built s v ∷ stack)) (Typed p built s u) (λ v. here (pc + na + nb + length co) (word p built s v ∷ stack)) (value_at_row scope b) (λ w. binary p.types s u (expr_type a) op v w) (λ w. refl) (row_runs b (pc + na) (word p built s v ∷ stack) sb scalars.1 (has_front m.code (pc + na) cb co after) (omega (arith, end)) (omega (arith, room))) (λ w hw.
          piece_gets u (pc + na + nb) (word p built s w ∷ word p built s v ∷ stack) stack (binary p.types s u (expr_type a) op v w) co last (operator_matches p built s ok u (expr_type a) (expr_type b) op v w stack hv hw fits))))
      expression_runs (Logical' op n a k b) u pc stack ty sc has end room =
          let sa = and_left (is_expr_row decls a) (is_expr_row decls b && logical_fits p.types u (expr_type a) (expr_type b)) ty in
          let more = and_right (is_expr_row decls a) (is_expr_row decls b && logical_fits p.types u (expr_type a) (expr_type b)) ty in
          let sb = and_left (is_expr_row decls b) (logical_fits p.types u (expr_type a) (expr_type b)) more in
          let fits = and_right (is_expr_row decls b) (logical_fits p.types u (expr_type a) (expr_type b)) more in
          let an_int_node = and_left (is_int (valid_types.ty p.types u)) (is_scalar (valid_types.ty p.types (expr_type a)) && is_scalar (valid_types.ty p.types (expr_type b))) fits in
          let scalars = and_right (is_int (valid_types.ty p.types u)) (is_scalar (valid_types.ty p.types (expr_type a)) && is_scalar (valid_types.ty p.types (expr_type b))) fits in
          let sca = and_left (is_scalar (valid_types.ty p.types (expr_type a))) (is_scalar (valid_types.ty p.types (expr_type b))) scalars in
          let scb = and_right (is_scalar (valid_types.ty p.types (expr_type a))) (is_scalar (valid_types.ty p.types (expr_type b))) scalars in
          let na = row_size p.types a in
          let nf = length (logical_first op) in
          let nb = row_size p.types b in
          let ca = row_code target a pc in
          let cf = logical_first op in
          let cb = row_code target b (pc + (na + nf) + 1) in
          let right_code = cb ++ piece.as_flag in
          let last = I.Const (decided_value op) ∷ [] in
          let tail = I.JumpIfZero (pc + (na + nf) + 1 + (nb + 2) + 1) ∷ (right_code ++ (I.Jump (pc + (na + nf) + 1 + (nb + 2) + 1 + 1) ∷ last)) in
          let test = has_front m.code pc (ca ++ cf) tail has in
          let first = has_rest m.code pc na ca cf (length-row target a pc) test in
          let after = has_rest m.code pc (na + nf) (ca ++ cf) tail (two ca cf na nf (length-row target a pc) refl) has in
          let b_truth = then_do (value_at_row scope b) is_true in
          let sum : pc + (na + nf) + 1 + (nb + 2) + 1 + 1 ≡ pc + (na + nf + 1 + (nb + 2) + 1 + 1) = omega arith in
          let there : pc + na + nf ≡ pc + (na + nf) = omega arith in
          let end_right : pc + (na + nf) + 1 + nb + 2 ≡ pc + (na + nf) + 1 + (nb + 2) = omega arith in
          gets_at (here pc stack) u u _ _ stack _ refl sum (subst (Gets (here pc stack) u (pc + (na + nf) + 1 + (nb + 2) + 1 + 1) stack) (sym (logical_is p built s op (value_at_row scope a) b_truth)) (then_yields p code world (here pc stack) (Typed p built s (expr_type a)) (λ v. here (pc + na) (word p built s v ∷ stack)) (Typed p built s u) (λ v. here (pc + (na + nf) + 1 + (nb + 2) + 1 + 1) (word p built s v ∷ stack)) (value_at_row scope a) (λ v. flagged (logical op (is_true v) b_truth)) (λ v. refl) (row_runs a pc stack sa sca (has_front m.code pc ca cf test) (omega (arith, end)) (omega (arith, room))) (λ v hv.
          let t0 = truth_of p built s (expr_type a) v (a_scalar p built s (expr_type a) v sca hv) in
          let q = turned_truth p built s op v t0 in
          let chosen_right = choice_gets u pc (na + nf) (nb + 2) 1 stack (turned p built s op v t0) q.0 right_code last (flagged b_truth) (Ok (Int (pos (decided_value op)))) (two cb piece.as_flag nb 2 (length-row target b (pc + (na + nf) + 1)) refl) refl (omega (arith, end)) after (λ h. subst (Gets (here (pc + (na + nf) + 1) stack) u (pc + (na + nf) + 1 + (nb + 2)) stack) (sym (flagged_is p built s (value_at_row scope b))) (gets_at (here (pc + (na + nf) + 1) stack) u u _ _ stack _ refl end_right (then_yields p code world (here (pc + (na + nf) + 1) stack) (Typed p built s (expr_type b)) (λ w. here (pc + (na + nf) + 1 + nb) (word p built s w ∷ stack)) (Typed p built s u) (λ v. here (pc + (na + nf) + 1 + nb + 2) (word p built s v ∷ stack)) (value_at_row scope b) (λ w. flagged (is_true w)) (λ w. refl) (row_runs b (pc + (na + nf) + 1) stack sb scb (has_front m.code (pc + (na + nf) + 1) cb piece.as_flag h) (omega (arith, end)) (omega (arith, room))) (λ w hw.
          piece_gets u (pc + (na + nf) + 1 + nb) (word p built s w ∷ stack) stack (flagged (is_true w)) piece.as_flag (has_rest m.code (pc + (na + nf) + 1) nb cb piece.as_flag (length-row target b (pc + (na + nf) + 1)) h) (flagged_matches p built s u w (truth_of p built s (expr_type b) w (a_scalar p built s (expr_type b) w scb hw)) stack an_int_node))))) (λ h.
          (decided_typed p built s u op an_int_node, const_leads p code world f m is callers s sends (map (word p built s) ls) t (pc + (na + nf) + 1 + (nb + 2) + 1) stack (of_signed (pos (decided_value op))) (omega (arith, room)) (const_at op (pc + (na + nf) + 1 + (nb + 2) + 1) h))) in
          subst (λ r. Gets (here (pc + na) (word p built s v ∷ stack)) u (pc + (na + nf) + 1 + (nb + 2) + 1 + 1) stack (flagged (logical op r b_truth))) (sym t0.is) (subst (Gets (here (pc + na) (word p built s v ∷ stack)) u (pc + (na + nf) + 1 + (nb + 2) + 1 + 1) stack) (ap (λ x. cond x (flagged b_truth) (Ok (Int (pos (decided_value op))))) q.1 ∙ decided_is p built s op t0.holds b_truth) (leads_yields p code world (here (pc + na) (word p built s v ∷ stack)) (here (pc + (na + nf)) (word p built s (turned p built s op v t0) ∷ stack)) _ _ _ refl (turns_leads op (pc + na) (pc + (na + nf)) stack v t0 there first) chosen_right)))))
      expression_runs (Conditional' n c k a j b) u pc stack ty sc has end room =
          let rest = and_right (is_expr_row decls c) (is_expr_row decls a && (is_expr_row decls b && conditional_fits p.types u (expr_type c) (expr_type a) (expr_type b))) ty in
          let test = and_left (is_expr_row decls c) (is_expr_row decls a && (is_expr_row decls b && conditional_fits p.types u (expr_type c) (expr_type a) (expr_type b))) ty in
          let sa = and_left (is_expr_row decls a) (is_expr_row decls b && conditional_fits p.types u (expr_type c) (expr_type a) (expr_type b)) rest in
          let more = and_right (is_expr_row decls a) (is_expr_row decls b && conditional_fits p.types u (expr_type c) (expr_type a) (expr_type b)) rest in
          let sb = and_left (is_expr_row decls b) (conditional_fits p.types u (expr_type c) (expr_type a) (expr_type b)) more in
          let fits = conditional_parts p built s u (expr_type c) (expr_type a) (expr_type b) (and_right (is_expr_row decls b) (conditional_fits p.types u (expr_type c) (expr_type a) (expr_type b)) more) in
          let nc = row_size p.types c in
          let na = row_size p.types a in
          let nb = row_size p.types b in
          let cc_ = row_code target c pc in
          let ca = row_code target a (pc + nc + 1) in
          let cb = row_code target b (pc + nc + 1 + na + 1) in
          let tail = I.JumpIfZero (pc + nc + 1 + na + 1) ∷ (ca ++ (I.Jump (pc + nc + 1 + na + 1 + nb) ∷ cb)) in
          let after = has_rest m.code pc nc cc_ tail (length-row target c pc) has in
          let sum : pc + nc + 1 + na + 1 + nb ≡ pc + (nc + 1 + na + 1 + nb) = omega arith in
          gets_at (here pc stack) u u _ _ stack _ refl sum (subst (λ r. Gets (here pc stack) u (pc + nc + 1 + na + 1 + nb) stack r) (chosen_is p built s (value_at_row scope c) (value_at_row scope a) (value_at_row scope b)) (then_yields p code world (here pc stack) (Typed p built s (expr_type c)) (λ v. here (pc + nc) (word p built s v ∷ stack)) (Typed p built s u) (λ v. here (pc + nc + 1 + na + 1 + nb) (word p built s v ∷ stack)) (value_at_row scope c) (λ v. chosen (is_true v) (value_at_row scope a) (value_at_row scope b)) (λ v. refl) (row_runs c pc stack test fits.test (has_front m.code pc cc_ tail has) (omega (arith, end)) (omega (arith, room))) (λ v hv.
          let truth = truth_of p built s (expr_type c) v (a_scalar p built s (expr_type c) v fits.test hv) in
          subst (λ r. Gets (here (pc + nc) (word p built s v ∷ stack)) u (pc + nc + 1 + na + 1 + nb) stack r) (sym (ap (λ g. chosen g (value_at_row scope a) (value_at_row scope b)) truth.is)) (choice_gets u pc nc na nb stack v truth ca cb (value_at_row scope a) (value_at_row scope b) (length-row target a (pc + nc + 1)) (length-row target b (pc + nc + 1 + na + 1)) (omega (arith, end)) after (λ h. gets_at (here (pc + nc + 1) stack) (expr_type a) u _ _ stack _ fits.one refl (row_runs a (pc + nc + 1) stack sa (subst (λ w. is_scalar (slice_get p.types.types w) ≡ true) (sym fits.one) sc) h (omega (arith, end)) (omega (arith, room)))) (λ h. gets_at (here (pc + nc + 1 + na + 1) stack) (expr_type b) u _ _ stack _ fits.other refl (row_runs b (pc + nc + 1 + na + 1) stack sb (subst (λ w. is_scalar (slice_get p.types.types w) ≡ true) (sym fits.other) sc) h (omega (arith, end)) (omega (arith, room))))))))

      convert_runs : {n : _} (e : Row_of-TypedExpr n) (u pc : ℕ) (stack : List ℕ) → is_expr_row decls e && convert_fits p.types u (expr_type e) (is_zero_row p.types e) ≡ true → HasAt m.code pc (row_code target e pc ++ normal (valid_types.ty p.types u)) → pc + (row_size p.types e + length (normal (valid_types.ty p.types u))) < length m.code → Room (row_need e) stack → Gets (here pc stack) u (pc + (row_size p.types e + length (normal (valid_types.ty p.types u)))) stack (then_do (value_at_row scope e) (converted p.types u))
      convert_runs end_of-TypedExpr u pc stack ty has end room = absurd (cc)
      convert_runs (more_of-TypedExpr a kind rest) u pc stack ty has end room =
          let sub = and_left (is_expr decls a kind) (convert_fits p.types u a (is_zero_literal p.types a kind)) ty in
          let fits = and_right (is_expr decls a kind) (convert_fits p.types u a (is_zero_literal p.types a kind)) ty in
          let ce = expression_code target a kind pc in
          let le = length-expression target a kind pc in
          let cn = normal (valid_types.ty p.types u) in
          let na = expression_size p.types a kind in
          let sum : pc + na + length cn ≡ pc + (na + length cn) = omega arith in
          let q = zero_or_converts p built s u a (is_zero_literal p.types a kind) fits in
          gets_at (here pc stack) u u _ _ stack _ refl sum (then_yields p code world (here pc stack) (λ v. Matches p built s u stack (converted p.types u v) (run p built s cn (word p built s v ∷ stack))) (λ v. here (pc + na) (word p built s v ∷ stack)) (Typed p built s u) (λ v. here (pc + na + length cn) (word p built s v ∷ stack)) (value_of scope a kind) (converted p.types u) (λ v. refl) (converting a kind u pc stack q (value_of scope a kind) refl (expression_runs kind a pc stack sub (converts_or_zero_scalar p built s u a kind q) (has_front m.code pc ce cn has) (omega (arith, end)) room)) (λ v hv.
          piece_gets u (pc + na) (word p built s v ∷ stack) stack (converted p.types u v) cn (has_rest m.code pc na ce cn le has) hv))

      pub row_runs : {n : _} (e : Row_of-TypedExpr n) (pc : ℕ) (stack : List ℕ) → is_expr_row decls e ≡ true → is_scalar (slice_get p.types.types (expr_type e)) ≡ true → HasAt m.code pc (row_code target e pc) → pc + row_size p.types e < length m.code → Room (row_need e) stack → Gets (here pc stack) (expr_type e) (pc + row_size p.types e) stack (value_at_row scope e)
      row_runs end_of-TypedExpr pc stack ty sc has end room = absurd (cc)
      row_runs (more_of-TypedExpr u kind rest) pc stack ty sc has end room = expression_runs kind u pc stack ty sc has end room

      -- the code of a place that is read gives its address
      pub place_runs : (kind : PlaceKind) (u pc : ℕ) (stack : List ℕ) → is_place decls u kind ≡ true → HasAt m.code pc (place_code target false u kind pc) → pc + place_size p.types kind < length m.code → Room (place_need kind) stack → PlaceGets (here pc stack) u (pc + place_size p.types kind) stack (place_of scope u kind)
      place_runs (Global g) u pc stack ty has end room =
          let g_ = facts.globals g u ty in
          (g_.0, subst (λ w. Leads p code world (here pc stack) (here (pc + 1) (w ∷ stack))) g_.1 (const_leads p code world f m is callers s sends (map (word p built s) ls) t pc stack (address_in starts g) (omega (arith, room)) has.0))
      place_runs (Deref' n e) u pc stack ty has end room = points_runs e u pc stack ty has end room
      place_runs (Arrow' n e) u pc stack ty has end room = points_runs e u pc stack ty has end room
      place_runs (Item' n a k i) u pc stack ty has end room =
          let sa = and_left (is_expr_row decls a) (is_expr_row decls i && item_fits p.types u (expr_type a) (expr_type i)) ty in
          let more = and_right (is_expr_row decls a) (is_expr_row decls i && item_fits p.types u (expr_type a) (expr_type i)) ty in
          let si = and_left (is_expr_row decls i) (item_fits p.types u (expr_type a) (expr_type i)) more in
          let item = item_parts u (expr_type a) (expr_type i) (and_right (is_expr_row decls i) (item_fits p.types u (expr_type a) (expr_type i)) more) in
          let na = row_size p.types a in
          let ni = row_size p.types i in
          let ca = row_code target a pc in
          let ci = row_code target i (pc + na) in
          let cl = piece.item_last p.types (expr_type a) u in
          let after = has_rest m.code pc na ca (ci ++ cl) (length-row target a pc) has in
          let last = has_rest m.code (pc + na) ni ci cl (length-row target i (pc + na)) after in
          let sum : pc + na + ni + 1 + 1 ≡ pc + (na + ni + 2) = omega arith in
          subst (λ x. PlaceGets (here pc stack) u x stack (place_of scope u (Item' n a k i))) sum (then_yields p code world (here pc stack) (Typed p built s (expr_type a)) (λ v. here (pc + na + ni + 1) (word p built s v ∷ stack)) (IsPlaced p built s ok u) (λ q. here (pc + na + ni + 1 + 1) (place_word p built s ok q ∷ stack)) (pointer_plus scope (expr_type a) (value_at_row scope a) (value_at_row scope i)) (Rattle.src_meaning.specs.Objects.target p.types s u) (λ v. refl) (item_gets (expr_type a) (expr_type i) pc na ni stack (value_at_row scope a) (value_at_row scope i) (row_runs a pc stack sa (pointer_scalar (expr_type a) u item.points) (has_front m.code pc ca (ci ++ cl) has) (omega (arith, end)) (omega (arith, room))) (λ v hv. row_runs i (pc + na) (word p built s v ∷ stack) si item.index (has_front m.code (pc + na) ci cl after) (omega (arith, end)) (omega (arith, room))) (last.0, tt) item.moves) (λ v hv.
          place_piece u (pc + na + ni + 1) (word p built s v ∷ stack) stack (Rattle.src_meaning.specs.Objects.target p.types s u v) (deref_last u) last.1 (deref_places p built s ok u (expr_type a) v stack (pointed_known p built (expr_type a) u item.points) item.points hv)))
      place_runs (Element' n a k i) u pc stack ty has end room =
          let sa = and_left (is_place_row decls a) (is_expr_row decls i && element_fits p.types u (place_type a) (expr_type i)) ty in
          let more = and_right (is_place_row decls a) (is_expr_row decls i && element_fits p.types u (place_type a) (expr_type i)) ty in
          let si = and_left (is_expr_row decls i) (element_fits p.types u (place_type a) (expr_type i)) more in
          let fits = and_right (is_expr_row decls i) (element_fits p.types u (place_type a) (expr_type i)) more in
          let arr = array_of (place_type a) u (and_left (is_array_of (valid_types.ty p.types (place_type a)) u) _ fits) in
          let long = long_long (expr_type i) (and_right (is_array_of (valid_types.ty p.types (place_type a)) u) _ fits) in
          let sci : is_scalar (slice_get p.types.types (expr_type i)) ≡ true = ap is_scalar long.is_long in
          let na = row_place_size p.types a in
          let ni = row_size p.types i in
          let ca = row_place_code target false a pc in
          let ci = row_code target i (pc + na) in
          let cl = element_last p.types (place_type a) u in
          let after = has_rest m.code pc na ca (ci ++ cl) (length-row_place target false a pc) has in
          let last = has_rest m.code (pc + na) ni ci cl (length-row target i (pc + na)) after in
          let sum : pc + na + ni + 1 ≡ pc + (na + ni + 1) = omega arith in
          subst (λ x. PlaceGets (here pc stack) u x stack (place_of scope u (Element' n a k i))) sum (then_yields p code world (here pc stack) (IsPlaced p built s ok (place_type a)) (λ q. here (pc + na) (place_word p built s ok q ∷ stack)) (IsPlaced p built s ok u) (λ q. here (pc + na + ni + 1) (place_word p built s ok q ∷ stack)) (place_at scope a) (λ q. then_do (value_at_row scope i) (λ v. then_do (index_below (length_of p.types (place_type a)) v) (λ k. Ok (inside q (Index k))))) (λ q. refl) (row_place_runs a pc stack sa (has_front m.code pc ca (ci ++ cl) has) (omega (arith, end)) (omega (arith, room))) (λ q hq.
          then_yields p code world (here (pc + na) (place_word p built s ok q ∷ stack)) (Typed p built s (expr_type i)) (λ v. here (pc + na + ni) (word p built s v ∷ place_word p built s ok q ∷ stack)) (IsPlaced p built s ok u) (λ q. here (pc + na + ni + 1) (place_word p built s ok q ∷ stack)) (value_at_row scope i) (λ v. then_do (index_below (length_of p.types (place_type a)) v) (λ k. Ok (inside q (Index k)))) (λ v. refl) (row_runs i (pc + na) (place_word p built s ok q ∷ stack) si sci (has_front m.code (pc + na) ci cl after) (omega (arith, end)) (omega (arith, room))) (λ v hv.
          let z = an_int p built s (expr_type i) K.LongLong v long.is_long hv in
          let start = place_word p built s ok q ∷ stack in
          let parts = λ (j : ℕ) (lt : j < arr.count). element_from p built s ok (place_type a) u arr.count j q hq arr.is_array lt in
          let m_is = index_matches p built s ok (place_type a) u (place_word p built s ok q) z.number stack arr.count arr.is_array (length_small p built (place_type a) u arr.count arr.is_array) (held_word K.LongLong z.number z.held) (λ j lt. let st = parts j lt in let w = place_below p built s ok u (inside q (Index j)) st.part in omega (arith, w, st.there)) in
          subst (λ v. PlaceGets (here (pc + na + ni) (word p built s v ∷ start)) u (pc + na + ni + 1) stack (then_do (index_below (length_of p.types (place_type a)) v) (λ k. Ok (inside q (Index k))))) (sym z.is) (index_does (place_type a) u (pc + na + ni) q stack (index_below (length_of p.types (place_type a)) (Int z.number)) (run p built s cl (of_signed z.number ∷ start)) (of_signed z.number ∷ start) m_is (λ j e. let lt = index_lt (place_type a) u arr.count z.number j arr.is_array e in let st = parts j lt in (st.part, st.there)) (straight_does p code same world f m is callers s sends (map (word p built s) ls) t cl (pc + na + ni) (of_signed z.number ∷ start) last (index_fine stack (place_word p built s ok q) (size_of p.types u) (index_below (length_of p.types (place_type a)) (Int z.number)) (run p built s cl (of_signed z.number ∷ start)) m_is))))))
      place_runs (Field' n e k) u pc stack ty has end room =
          let se = and_left (is_place_row decls e) (is_field_of p.types (valid_types.ty p.types (place_type e)) k u) ty in
          let field = and_right (is_place_row decls e) (is_field_of p.types (valid_types.ty p.types (place_type e)) k u) ty in
          let ne = row_place_size p.types e in
          let ce = row_place_code target false e pc in
          let cl = field_last p.types (place_type e) k in
          let last = has_rest m.code pc ne ce cl (length-row_place target false e pc) has in
          let sum : pc + ne + 1 ≡ pc + (ne + 1) = omega arith in
          subst (λ x. PlaceGets (here pc stack) u x stack (place_of scope u (Field' n e k))) sum (then_yields p code world (here pc stack) (IsPlaced p built s ok (place_type e)) (λ q. here (pc + ne) (place_word p built s ok q ∷ stack)) (IsPlaced p built s ok u) (λ q. here (pc + ne + 1) (place_word p built s ok q ∷ stack)) (place_at scope e) (λ q. Ok (inside q (Field k))) (λ q. refl) (row_place_runs e pc stack se (has_front m.code pc ce cl has) (omega (arith, end)) room) (λ q hq.
          let st = field_from p built s ok (place_type e) u k q (field_part_of (place_type e) u k q field hq) field in
          let w = place_below p built s ok u (inside q (Field k)) st.part in
          (inl st.part, subst (λ w. Leads p code world (here (pc + ne) (place_word p built s ok q ∷ stack)) (here (pc + ne + 1) (w ∷ stack))) (sym st.there) (field_leads (pc + ne) (place_word p built s ok q) (piece.step_offset p.types (valid_types.ty p.types (place_type e)) (Field k)) stack (omega (arith, w, st.there)) last.0))))
      place_runs (Member' n e k) u pc stack ty has end room =
          let se = and_left (is_place_row decls e) (is_member_of p.types (valid_types.ty p.types (place_type e)) k u) ty in
          let member = and_right (is_place_row decls e) (is_member_of p.types (valid_types.ty p.types (place_type e)) k u) ty in
          let ne = row_place_size p.types e in
          let ce = row_place_code target false e pc in
          let cl = piece.member_last p.types (place_type e) k in
          let last = has_rest m.code pc ne ce cl (length-row_place target false e pc) has in
          let sum : pc + ne + 2 ≡ pc + (ne + 2) = omega arith in
          subst (λ x. PlaceGets (here pc stack) u x stack (place_of scope u (Member' n e k))) sum (then_yields p code world (here pc stack) (IsPlaced p built s ok (place_type e)) (λ q. here (pc + ne) (place_word p built s ok q ∷ stack)) (IsPlaced p built s ok u) (λ q. here (pc + ne + 2) (place_word p built s ok q ∷ stack)) (place_at scope e) (λ q. active_member s q k) (λ q. refl) (row_place_runs e pc stack se (has_front m.code pc ce cl has) (omega (arith, end)) room) (λ q hq.
          place_piece u (pc + ne) (place_word p built s ok q ∷ stack) stack (active_member s q k) cl last (member_places p built s ok (place_type e) u k q stack (member_part_of (place_type e) u k q member hq) member)))

      points_runs : {n : _} (e : Row_of-TypedExpr n) (u pc : ℕ) (stack : List ℕ) → is_expr_row decls e && points_to (slice_get p.types.types (expr_type e)) u ≡ true → HasAt m.code pc (row_code target e pc ++ deref_last u) → pc + (row_size p.types e + 1) < length m.code → Room (row_need e) stack → PlaceGets (here pc stack) u (pc + (row_size p.types e + 1)) stack (then_do (value_at_row scope e) (Rattle.src_meaning.specs.Objects.target p.types s u))
      points_runs end_of-TypedExpr u pc stack ty has end room = absurd (cc)
      points_runs (more_of-TypedExpr a kind rest) u pc stack ty has end room =
          let se = and_left (is_expr decls a kind) (points_to (slice_get p.types.types a) u) ty in
          let points = and_right (is_expr decls a kind) (points_to (slice_get p.types.types a) u) ty in
          let ne = expression_size p.types a kind in
          let ce = expression_code target a kind pc in
          let last = has_rest m.code pc ne ce (deref_last u) (length-expression target a kind pc) has in
          let sum : pc + ne + 1 ≡ pc + (ne + 1) = omega arith in
          subst (λ n. PlaceGets (here pc stack) u n stack (then_do (value_of scope a kind) (Rattle.src_meaning.specs.Objects.target p.types s u))) sum (then_yields p code world (here pc stack) (Typed p built s a) (λ v. here (pc + ne) (word p built s v ∷ stack)) (IsPlaced p built s ok u) (λ q. here (pc + ne + 1) (place_word p built s ok q ∷ stack)) (value_of scope a kind) (Rattle.src_meaning.specs.Objects.target p.types s u) (λ v. refl) (expression_runs kind a pc stack se (pointer_scalar a u points) (has_front m.code pc ce (deref_last u) has) (omega (arith, end)) room) (λ v hv.
          place_piece u (pc + ne) (word p built s v ∷ stack) stack (Rattle.src_meaning.specs.Objects.target p.types s u v) (deref_last u) last (deref_places p built s ok u a v stack (pointed_known p built a u points) points hv)))

      -- the code of `&`
      address_runs : {n : _} (e : Row_of-TypedPlace n) (u pc : ℕ) (stack : List ℕ) → is_place_row decls e && (is_outside_row e && address_fits p.types u (place_type e)) ≡ true → HasAt m.code pc (row_address_code target e pc) → pc + row_address_size p.types e < length m.code → Room (row_place_need e) stack → Gets (here pc stack) u (pc + row_address_size p.types e) stack (address_of scope e)
      address_runs end_of-TypedPlace u pc stack ty has end room = absurd (cc)
      address_runs (more_of-TypedPlace pt (Global g) rest) u pc stack ty has end room =
          let fits = pointer_type u pt (and_left (points_to (slice_get p.types.types u) pt) _ (and_right (is_place decls pt (Global g)) _ ty)) in
          let g_ = facts.globals g pt (and_left (is_place decls pt (Global g)) _ ty) in
          let q = global_place p.types pt g in
          leads_yields p code world (here pc stack) (here (pc + 1) (place_word p built s ok q ∷ stack)) (Typed p built s u) (λ v. here (pc + 1) (word p built s v ∷ stack)) (address_at p.types s q 0) refl (subst (λ w. Leads p code world (here pc stack) (here (pc + 1) (w ∷ stack))) g_.1 (const_leads p code world f m is callers s sends (map (word p built s) ls) t pc stack (address_in starts g) (omega (arith, room)) has.0)) (addressed_gets u pt (pc + 1) stack pt q fits g_.0)
      address_runs (more_of-TypedPlace pt (Deref' n e) rest) u pc stack ty has end room =
          let place_ok = and_left (is_place decls pt (Deref' n e)) _ ty in
          let points = and_right (is_expr_row decls e) (points_to (slice_get p.types.types (expr_type e)) pt) place_ok in
          let fits = pointer_type u pt (and_left (points_to (slice_get p.types.types u) pt) _ (and_right (is_place decls pt (Deref' n e)) _ ty)) in
          pointer_retyped (here pc stack) (expr_type e) u pt (pc + row_size p.types e) stack (value_at_row scope e) (pointer_type (expr_type e) pt points) fits (row_runs e pc stack (and_left (is_expr_row decls e) _ place_ok) (pointer_scalar (expr_type e) pt points) has end room)
      address_runs (more_of-TypedPlace pt (Arrow' n e) rest) u pc stack ty has end room =
          let place_ok = and_left (is_place decls pt (Arrow' n e)) _ ty in
          let fits = pointer_type u pt (and_left (points_to (slice_get p.types.types u) pt) _ (and_right (is_place decls pt (Arrow' n e)) _ ty)) in
          then_yields p code world (here pc stack) (IsPlaced p built s ok pt) (λ q. here (pc + (row_size p.types e + 1)) (place_word p built s ok q ∷ stack)) (Typed p built s u) (λ v. here (pc + (row_size p.types e + 1)) (word p built s v ∷ stack)) (then_do (value_at_row scope e) (Rattle.src_meaning.specs.Objects.target p.types s pt)) (λ q. address_at p.types s q 0) (λ q. refl) (points_runs e pt pc stack place_ok has end room) (λ q hq. addressed_gets u pt (pc + (row_size p.types e + 1)) stack pt q fits hq)
      address_runs (more_of-TypedPlace pt (Field' n e k) rest) u pc stack ty has end room =
          let place_ok = and_left (is_place decls pt (Field' n e k)) _ ty in
          let fits = pointer_type u pt (and_left (points_to (slice_get p.types.types u) pt) _ (and_right (is_outside_row e) _ (and_right (is_place decls pt (Field' n e k)) _ ty))) in
          subst (λ r. Gets (here pc stack) u (pc + (row_place_size p.types e + 1)) stack r) (further (place_at scope e)) (then_yields p code world (here pc stack) (IsPlaced p built s ok pt) (λ q. here (pc + (row_place_size p.types e + 1)) (place_word p built s ok q ∷ stack)) (Typed p built s u) (λ v. here (pc + (row_place_size p.types e + 1)) (word p built s v ∷ stack)) (place_of scope pt (Field' n e k)) (λ q. address_at p.types s q 0) (λ q. refl) (place_runs (Field' n e k) pt pc stack place_ok has end room) (λ q hq. addressed_gets u pt (pc + (row_place_size p.types e + 1)) stack pt q fits hq))
        where
          further : (r : Gives Place) → then_do (then_do r (λ q. Ok (inside q (Field k)))) (λ q. address_at p.types s q 0) ≡ then_do r (λ q. address_at p.types s (inside q (Field k)) 0)
          further (Ok q) = refl
          further (Err tr) = refl
      address_runs (more_of-TypedPlace pt (Item' n a k i) rest) u pc stack ty has end room =
          let place_ok = and_left (is_place decls pt (Item' n a k i)) _ ty in
          let fits = pointer_type u pt (and_left (points_to (slice_get p.types.types u) pt) _ (and_right (is_place decls pt (Item' n a k i)) _ ty)) in
          let sa = and_left (is_expr_row decls a) (is_expr_row decls i && item_fits p.types pt (expr_type a) (expr_type i)) place_ok in
          let more = and_right (is_expr_row decls a) (is_expr_row decls i && item_fits p.types pt (expr_type a) (expr_type i)) place_ok in
          let si = and_left (is_expr_row decls i) (item_fits p.types pt (expr_type a) (expr_type i)) more in
          let item = item_parts pt (expr_type a) (expr_type i) (and_right (is_expr_row decls i) (item_fits p.types pt (expr_type a) (expr_type i)) more) in
          let na = row_size p.types a in
          let ni = row_size p.types i in
          let ca = row_code target a pc in
          let ci = row_code target i (pc + na) in
          let cl = I.AddPointer (piece.element_size p.types (expr_type a)) ∷ [] in
          let after = has_rest m.code pc na ca (ci ++ cl) (length-row target a pc) has in
          let last = has_rest m.code (pc + na) ni ci cl (length-row target i (pc + na)) after in
          let sum : pc + na + ni + 1 ≡ pc + (na + ni + 1) = omega arith in
          subst (λ x. Gets (here pc stack) u x stack (pointer_plus scope (expr_type a) (value_at_row scope a) (value_at_row scope i))) sum (pointer_retyped (here pc stack) (expr_type a) u pt (pc + na + ni + 1) stack (pointer_plus scope (expr_type a) (value_at_row scope a) (value_at_row scope i)) (pointer_type (expr_type a) pt item.points) fits (item_gets (expr_type a) (expr_type i) pc na ni stack (value_at_row scope a) (value_at_row scope i) (row_runs a pc stack sa (pointer_scalar (expr_type a) pt item.points) (has_front m.code pc ca (ci ++ cl) has) (omega (arith, end)) (omega (arith, room))) (λ v hv. row_runs i (pc + na) (word p built s v ∷ stack) si item.index (has_front m.code (pc + na) ci cl after) (omega (arith, end)) (omega (arith, room))) last item.moves))
      address_runs (more_of-TypedPlace pt (Element' n a k i) rest) u pc stack ty has end room =
          let place_ok = and_left (is_place decls pt (Element' n a k i)) _ ty in
          let fits = pointer_type u pt (and_left (points_to (slice_get p.types.types u) pt) _ (and_right (is_outside_row a) _ (and_right (is_place decls pt (Element' n a k i)) _ ty))) in
          let sa = and_left (is_place_row decls a) _ place_ok in
          let more = and_right (is_place_row decls a) (is_expr_row decls i && element_fits p.types pt (place_type a) (expr_type i)) place_ok in
          let si = and_left (is_expr_row decls i) (element_fits p.types pt (place_type a) (expr_type i)) more in
          let element = and_right (is_expr_row decls i) (element_fits p.types pt (place_type a) (expr_type i)) more in
          let arr = array_of (place_type a) pt (and_left (is_array_of (valid_types.ty p.types (place_type a)) pt) _ element) in
          let long = long_long (expr_type i) (and_right (is_array_of (valid_types.ty p.types (place_type a)) pt) _ element) in
          let sci : is_scalar (slice_get p.types.types (expr_type i)) ≡ true = ap is_scalar long.is_long in
          let na = row_place_size p.types a in
          let ni = row_size p.types i in
          let ca = row_place_code target false a pc in
          let ci = row_code target i (pc + na) in
          let count = length_of p.types (place_type a) in
          let size = size_of p.types pt in
          let cl = I.IndexEnd count size ∷ [] in
          let after = has_rest m.code pc na ca (ci ++ cl) (length-row_place target false a pc) has in
          let last = has_rest m.code (pc + na) ni ci cl (length-row target i (pc + na)) after in
          let sum : pc + na + ni + 1 ≡ pc + (na + ni + 1) = omega arith in
          let is_count : count ≡ arr.count = ap Rattle.src_meaning.specs.Expression.length_in arr.is_array in
          let small : count < 2 ^ 32 = let n = length_small p built (place_type a) pt arr.count arr.is_array in omega (arith, n, is_count) in
          subst (λ x. Gets (here pc stack) u x stack (address_of scope (more_of-TypedPlace pt (Element' n a k i) rest))) sum (then_yields p code world (here pc stack) (IsPlaced p built s ok (place_type a)) (λ q. here (pc + na) (place_word p built s ok q ∷ stack)) (Typed p built s u) (λ v. here (pc + na + ni + 1) (word p built s v ∷ stack)) (place_at scope a) (λ q. then_do (value_at_row scope i) (λ v. then_do (index_below (count + 1) v) (λ k. address_at p.types s q (k * size)))) (λ q. refl) (row_place_runs a pc stack sa (has_front m.code pc ca (ci ++ cl) has) (omega (arith, end)) (omega (arith, room))) (λ q hq.
          then_yields p code world (here (pc + na) (place_word p built s ok q ∷ stack)) (Typed p built s (expr_type i)) (λ v. here (pc + na + ni) (word p built s v ∷ place_word p built s ok q ∷ stack)) (Typed p built s u) (λ v. here (pc + na + ni + 1) (word p built s v ∷ stack)) (value_at_row scope i) (λ v. then_do (index_below (count + 1) v) (λ k. address_at p.types s q (k * size))) (λ v. refl) (row_runs i (pc + na) (place_word p built s ok q ∷ stack) si sci (has_front m.code (pc + na) ci cl after) (omega (arith, end)) (omega (arith, room))) (λ v hv.
          let z = an_int p built s (expr_type i) K.LongLong v long.is_long hv in
          let start = place_word p built s ok q ∷ stack in
          let at_each = λ (j : ℕ) (le : j ≤ count). element_at p built s ok (place_type a) pt arr.count j q hq arr.is_array (omega (arith, le, is_count)) in
          let m_is = end_case p built s ok (place_word p built s ok q) count size z.number stack small (held_word K.LongLong z.number z.held) (λ j le. let el = at_each j le in let w = address_below p built s ok q.object el.offset el.address in let same_word = el.word_is in omega (arith, w, same_word)) in
          subst (λ v. Gets (here (pc + na + ni) (word p built s v ∷ start)) u (pc + na + ni + 1) stack (then_do (index_below (count + 1) v) (λ k. address_at p.types s q (k * size)))) (sym z.is) (end_does u pt (pc + na + ni) size q stack (index_below (count + 1) (Int z.number)) (run p built s cl (of_signed z.number ∷ start)) (of_signed z.number ∷ start) fits m_is (λ j e. at_each j (end_index p built s ok count z.number j e)) (straight_does p code same world f m is callers s sends (map (word p built s) ls) t cl (pc + na + ni) (of_signed z.number ∷ start) last (index_fine stack (place_word p built s ok q) size (index_below (count + 1) (Int z.number)) (run p built s cl (of_signed z.number ∷ start)) m_is))))))
      address_runs (more_of-TypedPlace pt (Member' n e k) rest) u pc stack ty has end room = absurd (no_outside (and_right (is_place decls pt (Member' n e k)) false ty))
        where
          no_outside : false ≡ true → ⊥
          no_outside h = absurd (cc)

      pub row_place_runs : {n : _} (e : Row_of-TypedPlace n) (pc : ℕ) (stack : List ℕ) → is_place_row decls e ≡ true → HasAt m.code pc (row_place_code target false e pc) → pc + row_place_size p.types e < length m.code → Room (row_place_need e) stack → PlaceGets (here pc stack) (place_type e) (pc + row_place_size p.types e) stack (place_at scope e)
      row_place_runs end_of-TypedPlace pc stack ty has end room = absurd (cc)
      row_place_runs (more_of-TypedPlace u kind rest) pc stack ty has end room = place_runs kind u pc stack ty has end room
