-- A struct or a union that is assigned: COPYBYTES.
use Rattle.std.proofs.Common.{◌≡◌, ◌∙◌, refl, ap, sym, subst, Bool, true, false, not, ◌&&◌, ◌||◌, inl, inr, cond, ℕ, ◌+◌, ◌-◌, ◌<◌, ◌≤◌, List, [], ◌∷◌, ◌++◌, length, map, Option, Some, Ok, Err, arith, nat_eq}
use Rattle.std.specs.Prelude.{slice_get}
use Rattle.std.proofs.lemmas.Bool.Decides.{nat_tests}
use Rattle.lu_spec.specs.Then.{then_do}
use Rattle.c_types.specs.declared.parts.Ty.{Ty}
use Rattle.c_types.specs.declared.parts.Ty.TheVariants as T
use Rattle.c_types.specs.Layout.{size_of}
use Rattle.c_types.specs.Numbering.{is_array}
use Rattle.src_tree.specs.declared.value.Value.{Value}
use Rattle.src_tree.specs.declared.value.Store.{Store}
use Rattle.src_tree.specs.declared.expr.ExprKind.{ExprKind, Load'}
use Rattle.src_tree.specs.declared.expr.PlaceKind.{more_of-TypedPlace}
use Rattle.src_tree.specs.declared.expr.TypedPlace.{TypedPlace}
use Rattle.src_tree.specs.declared.stmt.Rhs.{Rhs}
use Rattle.src_tree.specs.declared.stmt.Rhs.TheVariants.{Value as Plain, Call as Result_of}
use Rattle.src_tree.specs.declared.stmt.TypedStmt.{Assign}
use Rattle.src_tree.specs.declared.program.Function.{Function}
use Rattle.src_tree.specs.declared.program.Program.{Program}
use Rattle.src_meaning.specs.Objects.{Gives, Place, value_at, store_with, next_address}
use Rattle.lu_base.specs.declared.limits.TheConstants.{FIRST_ADDRESS}
use Rattle.src_meaning.specs.Expression.{value_of, place_of}
use Rattle.src_meaning.specs.Assignment.{Assignee, assigned_place, assigned}
use Rattle.src_meaning.specs.Store.{IsStore}
use Rattle.src_meaning.specs.ValidTypes.{is_scalar, converts, ty}
use Rattle.src_meaning.specs.ValidExpression.{Declarations, is_expr, is_place, is_target, is_assignable, is_read_outside, load_fits}
use Rattle.src_meaning.specs.ValidDepth.{spot, unary_rank, keeps_bounds, place_keeps_bounds}
use Rattle.src_meaning.specs.ValidStatement.{has_depth, is_call, call_result, is_right_side, is_statement}
use Rattle.src_meaning.specs.Call.{State, Context, Callee, Outcome, Goes_on, with_gives, with_store, scope_of, run_statement}
use Rattle.src_meaning.proofs.LayoutLengths.{and_left, and_right}
use Rattle.bm_isa.specs.declared.instr.Instr.TheVariants as I
use Rattle.bm_code.specs.declared.code.MachineCode.{MachineCode}
use Rattle.bm_code.specs.declared.code.MachineFunction.{MachineFunction}
use Rattle.lu_base.specs.declared.world.World.{World}
use Rattle.lu_base.specs.Sending.{Sent}
use Rattle.bm_code.specs.Process.{Frame, Running}
use Rattle.bm_code.specs.Frames.{some_or, bad}
use Rattle.bm_code.specs.Access.{written_at}
use Rattle.bm_code.specs.Pointers.{wrote}
use Rattle.bm_code.specs.Transfers.{Next}
use Rattle.bm_code.specs.Step.{on_memory}
use Rattle.cg_state.specs.Represents.{content_of, rows_of}
use Rattle.cg_expr.specs.Pieces.{scalar_number, pointer_size}
use Rattle.cg_expr.specs.Sizes.{load_last, expression_size, place_size}
use Rattle.cg_expr.specs.Code.{Target, expression_code, place_code}
use Rattle.cg_stmt.specs.declared.statements.Exits.{Exits}
use Rattle.cg_stmt.specs.StatementCode.{store_last, statement_code}
use Rattle.cg_stmt.specs.StatementSizes.{statement_size}
use Rattle.cg_state.specs.Runs.{HasAt, Point, Leads, Yields}
use Rattle.cg_state.proofs.HasCode.{has_front, has_rest}
use Rattle.cg_sim_expr.proofs.Here.{frame, process_here, on, goes}
use Rattle.cg_sim_expr.proofs.Here as at_here
use Rattle.cg_expr.proofs.Lengths.{length-expression, length-place}
use Rattle.c_types.specs.Refusal.{IsBuilt}
use Rattle.cg_sim_expr.proofs.Matching.{word}
use Rattle.cg_state.proofs.Places.{IsPart, place_word, value_is, read_part}
use Rattle.cg_state.proofs.Stores.{replaced, store_after, store_is, written_is, rows_same, end_same}
use Rattle.cg_sim_expr.proofs.Steps.{IsPlaced}
use Rattle.src_laws.proofs.Extended.{extends_set, Extends, extends_further}
use Rattle.cg_sim.proofs.Kept.{kept_all}
use Rattle.cg_sim.proofs.Parts.{stores_keep}
use Rattle.cg_sim.proofs.Outside.{IsOut, place_outside, word_stays}
use Rattle.cg_sim.proofs.Ends.{with_follows}
use Rattle.cg_sim.proofs.UnderWay.{target, decls, us, c, here, at, Well, Does, GoodPlace, entered_at}

-- COPYBYTES gives the process of the store with the value of the one place at the other
module _ (p : Program) (built : IsBuilt p.types) (s : Store) (ok : IsStore p s) (u : ℕ) (a b : Place) (ha : IsPart p built s ok u a) (hb : IsPart p built s ok u b) where
  abbrev after : Store
  after = store_after p built s ok u b hb ha.value ha.is_typed

  copy_leads : (code : MachineCode) (world : World) (f : ℕ) (m : MachineFunction) (is : slice_get code.functions f ≡ Some m) (callers : List Frame) (sends : List Sent) (words : List ℕ) (t pc : ℕ) (rest : List ℕ) → slice_get m.code pc ≡ Some (I.CopyBytes (size_of p.types u)) → Leads p code world (at_here.here p code world f m is callers s sends words t pc (place_word p built s ok b ∷ place_word p built s ok a ∷ rest)) (at_here.here p code world f m is callers after sends words t (pc + 1) rest)
  copy_leads code world f m is callers sends words t pc rest has =
      let stack = place_word p built s ok b ∷ place_word p built s ok a ∷ rest in
      let start = process_here p code world f m is callers s sends words t pc stack in
      let fr = frame p code world f m is callers words pc stack in
      let m_ = content_of p.types s in
      let rows = rows_of p s in
      let next = (replaced p built s ok u b hb).put ha.value in
      let same_rows = rows_same (length p.sites) p.types hb.object hb.elements next hb.live FIRST_ADDRESS s.objects b.object hb.at in
      let same_end = end_same (length p.sites) p.types hb.object hb.elements next hb.live FIRST_ADDRESS s.objects b.object hb.at in
      goes p code world f m is callers s after sends sends words words t pc (pc + 1) stack rest (I.CopyBytes (size_of p.types u)) has
      (ap (λ o. on_memory (some_or o bad (λ piece. wrote fr rest (written_at m_ rows (place_word p built s ok b) piece))) start callers) (read_part p built s ok u a ha)
      ∙ (ap (λ o. on_memory (wrote fr rest o) start callers) (written_is p built s ok u b hb ha.value ha.is_typed)
      ∙ (ap (λ rows. Next (record { content = content_of p.types after; rows = rows; next = next_address p.types s; outbox = sends; activity = Running (frame p code world f m is callers words (pc + 1) rest) callers; spare = t })) (sym same_rows)
      ∙ ap (λ n. Next (record { content = content_of p.types after; rows = rows_of p after; next = n; outbox = sends; activity = Running (frame p code world f m is callers words (pc + 1) rest) callers; spare = t })) (sym same_end))))

converts_to_scalar : (a b : Option Ty) → converts a b ≡ true → is_scalar b ≡ true
converts_to_scalar (Some (T.Int j)) (Some (T.Int k)) h = refl
converts_to_scalar (Some (T.Pointer w)) (Some (T.Pointer x)) h = refl
converts_to_scalar (Some (T.Pointer w)) (Some T.VoidPointer) h = refl
converts_to_scalar (Some T.VoidPointer) (Some (T.Pointer w)) h = refl
converts_to_scalar (Some T.VoidPointer) (Some T.VoidPointer) h = refl
converts_to_scalar (Some (T.Function g)) (Some (T.Function k)) h = refl
converts_to_scalar _ _ h = absurd (cc)

no_both : (b : Bool) → b ≡ true → b ≡ false → ⊥
no_both b h g = absurd (cc)

not_true : (b : Bool) → not b ≡ true → b ≡ false
not_true true h = absurd (cc)
not_true false h = refl

or_other : (a b : Bool) → (a || b) ≡ true → a ≡ false → b ≡ true
or_other true b h g = absurd (cc)
or_other false b h g = h

eq_of : (a b : ℕ) → nat_eq a b ≡ true → a ≡ b
eq_of a b h = grind (arith, nat_tests, h)

module _ (p : Program) (built : IsBuilt p.types) (starts : List ℕ) (code : MachineCode) (same : code.types ≡ p.types) (world : World) (f : ℕ) (m : MachineFunction) (is : slice_get code.functions f ≡ Some m) (callers : List Frame) (fd : Function) (call : Callee) (fuel : ℕ) (base : Store) where
  abbrev WellAt : State → Type 0
  WellAt st = Well p built starts code same world f m is callers fd call fuel base st

  abbrev from : State → ℕ → List ℕ → Point
  from st pc stack = here p built starts code same world f m is callers fd call fuel base st pc stack

  abbrev Runs : Exits → Point → ℕ → Outcome → Type 0
  Runs to q pc o = Does p built starts code same world f m is callers fd call fuel base to q pc o

  abbrev ctx : Context
  ctx = c p built starts code same world f m is callers fd call fuel base

  abbrev tgt : Target
  tgt = target p built starts code same world f m is callers fd call fuel base

  abbrev dcl : Declarations
  dcl = decls p built starts code same world f m is callers fd call fuel base

  abbrev types_us : List ℕ
  types_us = us p built starts code same world f m is callers fd call fuel base

  abbrev start_at : State → ℕ → Point
  start_at = at p built starts code same world f m is callers fd call fuel base

  -- what the code of a place gives
  abbrev pub PlacesRun : Type 0
  PlacesRun = (st : State) (well : WellAt st) (q : TypedPlace) (pc rank n : ℕ) (stack : List ℕ) → rank ≤ 12 → n ≤ 64 → is_place dcl q.ty q.kind ≡ true → place_keeps_bounds (spot rank n) q.kind ≡ true → length stack ≤ 64 → HasAt m.code pc (place_code tgt false q.ty q.kind pc) → pc + place_size p.types q.kind < length m.code → Yields p code world (from st pc stack) (IsPlaced p built st.store well.store q.ty) (λ a. from st (pc + place_size p.types q.kind) (place_word p built st.store well.store a ∷ stack)) (place_of (scope_of ctx st) q.ty q.kind)

  abbrev Good : State → ℕ → Assignee → Type 0
  Good st u a = GoodPlace p built starts code same world f m is callers fd call fuel base st u a

  abbrev to_place : State → ℕ → List ℕ → Assignee → Point
  to_place st pc stack a = entered_at p built starts code same world f m is callers fd call fuel base st pc stack a

  -- what the code of a place that is assigned gives
  abbrev pub EntersRun : Type 0
  EntersRun = (st : State) → WellAt st → (q : TypedPlace) (pc n : ℕ) (stack : List ℕ) → n ≤ 64 → is_place dcl q.ty q.kind ≡ true → place_keeps_bounds (spot unary_rank n) q.kind ≡ true → length stack ≤ 64 → HasAt m.code pc (place_code tgt true q.ty q.kind pc) → pc + place_size p.types q.kind < length m.code → Yields p code world (from st pc stack) (Good st q.ty) (λ a. to_place st (pc + place_size p.types q.kind) stack a) (assigned_place (scope_of ctx st) q.ty q.kind)

  yields_more : {A : Type 0} (q : Point) (good more : A → Type 0) (mid : A → Point) (r : Gives A) → ((a : A) → r ≡ Ok a → more a) → Yields p code world q good mid r → Yields p code world q (λ a. good a × more a) mid r
  yields_more q good more mid (Ok a) h y = ((y.0, h a refl), y.1)
  yields_more q good more mid (Err t) h y = y

  -- a place that is no array is a part
  part_of : (s : Store) (ok : IsStore p s) (u : ℕ) (a : Place) → is_array (slice_get p.types.types u) ≡ false → IsPlaced p built s ok u a → IsPart p built s ok u a
  part_of s ok u a h (inl part) = part
  part_of s ok u a h (inr whole) = absurd (no_both (is_array (slice_get p.types.types u)) (ap is_array whole.array) h)

  copied_does : (to : Exits) (st : State) (ok : WellAt st) (u : ℕ) (a b : Place) (pc end : ℕ) (ha : IsPart p built st.store ok.store u a) → IsPart p built st.store ok.store u b → slice_get m.code pc ≡ Some (I.CopyBytes (size_of p.types u)) → pc + 1 ≡ end → Runs to (from st pc (place_word p built st.store ok.store b ∷ place_word p built st.store ok.store a ∷ [])) end (with_gives (store_with st.store b ha.value) st (λ store. Goes_on (with_store store st)))
  copied_does to st ok u a b pc end ha hb has e =
      let next = store_after p built st.store ok.store u b hb ha.value ha.is_typed in
      let start = from st pc (place_word p built st.store ok.store b ∷ place_word p built st.store ok.store a ∷ []) in
      let ext : Extends st.store.objects next.objects = extends_set st.store.objects b.object hb.object (Some ((replaced p built st.store ok.store u b hb).put ha.value)) hb.at in
      let all = kept_all p built st.store next ext types_us st.locals ok.locals in
      let first = copy_leads p built st.store ok.store u a b ha hb code world f m is callers st.sends (map (word p built st.store) st.locals) st.ticks pc [] has in
      let second : Leads p code world start (start_at (with_store next st) (pc + 1)) = subst (λ ws. Leads p code world start (on p code world f m is callers next st.sends ws st.ticks (pc + 1) [])) (sym all.1) first in
      subst (λ g. Runs to start end (with_gives g st (λ store. Goes_on (with_store store st)))) (sym (store_is p built st.store ok.store u b hb ha.value ha.is_typed)) (record { store = stores_keep p built st.store ok.store u b hb ha.value ha.is_typed; kept = extends_further base.objects st.store.objects next.objects ok.kept ext; locals = all.0 }, subst (λ n. Leads p code world start (start_at (with_store next st) n)) e second)

  gives_twice : (st : State) (r : Gives Place) (k : Value → Outcome) → with_gives (then_do r (value_at st.store)) st k ≡ with_gives r st (λ a. with_gives (value_at st.store a) st k)
  gives_twice st (Ok a) k = refl
  gives_twice st (Err t) k = refl

  gives_assigned : (st : State) (r : Gives Assignee) (v : Value) (k : Store → Outcome) → with_gives (then_do r (λ a. store_with a.store a.at v)) st k ≡ with_gives r st (λ a. with_gives (store_with a.store a.at v) st k)
  gives_assigned st (Ok a) v k = refl
  gives_assigned st (Err t) v k = refl

  gives_later : (st : State) (t : Store) (r : Gives Store) → with_gives r (with_store t st) (λ store. Goes_on (with_store store (with_store t st))) ≡ with_gives r st (λ store. Goes_on (with_store store st))
  gives_later st t (Ok store) = refl
  gives_later st t (Err tr) = refl

  -- a copy to a place that was entered
  entered_copied : (to : Exits) (st : State) (ok : WellAt st) (u : ℕ) (a : Place) (b : Assignee) (pc end : ℕ) (ha : IsPart p built st.store ok.store u a) → IsOut a → is_array (slice_get p.types.types u) ≡ false → Good st u b → slice_get m.code pc ≡ Some (I.CopyBytes (size_of p.types u)) → pc + 1 ≡ end → Runs to (to_place st pc (place_word p built st.store ok.store a ∷ []) b) end (with_gives (store_with b.store b.at ha.value) st (λ store. Goes_on (with_store store st)))
  entered_copied to st ok u a b pc end ha out no_array good has e =
      let kept = good.keeps ok.store good.well.store u a ha out (omega arith) in
      let same_word = word_stays p built st.store ok.store b.store good.well.store good.extends u a ha in
      let copied = copied_does to (with_store b.store st) good.well u a b.at pc end kept.part (part_of b.store good.well.store u b.at no_array good.placed) has e in
      subst (λ x. Runs to (from (with_store b.store st) pc (place_word p built b.store good.well.store b.at ∷ x ∷ [])) end (with_gives (store_with b.store b.at ha.value) st (λ store. Goes_on (with_store store st)))) same_word (subst (λ v. Runs to (from (with_store b.store st) pc (place_word p built b.store good.well.store b.at ∷ place_word p built b.store good.well.store a ∷ [])) end (with_gives (store_with b.store b.at v) st (λ store. Goes_on (with_store store st)))) kept.value (subst (Runs to (from (with_store b.store st) pc (place_word p built b.store good.well.store b.at ∷ place_word p built b.store good.well.store a ∷ [])) end) (gives_later st b.store (store_with b.store b.at kept.part.value)) copied))

  module _ (places : PlacesRun) (enters : EntersRun) (to : Exits) (st : State) (well : WellAt st) (q : TypedPlace) (n : ℕ) (low : n ≤ 64) (plain : is_scalar (slice_get p.types.types q.ty) ≡ false) (is_q : is_place dcl q.ty q.kind ≡ true) (no_array : is_array (slice_get p.types.types q.ty) ≡ false) (depth_q : place_keeps_bounds (spot unary_rank n) q.kind ≡ true) where
    -- the place that is copied to, its address below the other's
    target_does : (a : Place) (ha : IsPart p built st.store well.store q.ty a) → IsOut a → (pc end : ℕ) → HasAt m.code pc (place_code tgt true q.ty q.kind pc ++ store_last p.types q.ty) → pc + place_size p.types q.kind + 1 ≡ end → end < length m.code → Runs to (from st pc (place_word p built st.store well.store a ∷ [])) end (with_gives (assigned (scope_of ctx st) q ha.value) st (λ store. Goes_on (with_store store st)))
    target_does a ha out pc end has sum within =
        let np = place_size p.types q.kind in
        let cq = place_code tgt true q.ty q.kind pc in
        let cs = store_last p.types q.ty in
        let start = from st pc (place_word p built st.store well.store a ∷ []) in
        let at_store = has_rest m.code pc np cq cs (length-place tgt true q.ty q.kind pc) has in
        let has_store = subst (λ b. HasAt m.code (pc + np) (cond b (I.Store (scalar_number (pointer_size p.types) (ty p.types q.ty)) ∷ []) (I.CopyBytes (size_of p.types q.ty) ∷ []))) plain at_store in
        let found = assigned_place (scope_of ctx st) q.ty q.kind in
        subst (Runs to start end) (sym (gives_assigned st found ha.value (λ store. Goes_on (with_store store st)))) (with_follows p built code world base callers types_us fd.ret start_at to start end (Good st q.ty) (λ b. to_place st (pc + np) (place_word p built st.store well.store a ∷ []) b) found st (λ b. with_gives (store_with b.store b.at ha.value) st (λ store. Goes_on (with_store store st))) refl (enters st well q pc n (place_word p built st.store well.store a ∷ []) low is_q depth_q (omega arith) (has_front m.code pc cq cs has) (omega (arith, within, sum))) (λ b good.
        entered_copied to st well q.ty a b (pc + np) end ha out no_array good has_store.0 sum))

    -- what is copied is read at a place outside unions
    source_does : (u : ℕ) (kind : ExprKind) (pc end : ℕ) → u ≡ q.ty → is_expr dcl u kind ≡ true → is_read_outside kind ≡ true → keeps_bounds (spot 12 (n - 1)) kind ≡ true → HasAt m.code pc (expression_code tgt u kind pc ++ (place_code tgt true q.ty q.kind (pc + expression_size p.types u kind) ++ store_last p.types q.ty)) → pc + expression_size p.types u kind + place_size p.types q.kind + 1 ≡ end → end < length m.code → Runs to (start_at st pc) end (with_gives (value_of (scope_of ctx st) u kind) st (λ v. with_gives (assigned (scope_of ctx st) q v) st (λ store. Goes_on (with_store store st))))
    source_does u (Load' k (more_of-TypedPlace pt kind rest)) pc end is_u ex outside depth has sum within =
        let fits = and_right (is_place dcl pt kind) (load_fits p.types u pt) ex in
        let same_type : pt ≡ q.ty = eq_of pt u (and_left (nat_eq pt u) (not (is_array (slice_get p.types.types u))) fits) ∙ is_u in
        let ns = place_size p.types kind in
        let ce = place_code tgt false pt kind pc in
        let cl = load_last (pointer_size p.types) (ty p.types u) in
        let empty : length cl ≡ 0 = ap (λ t. length (load_last (pointer_size p.types) (ty p.types t))) is_u ∙ ap (λ b. length (cond b (I.Load (scalar_number (pointer_size p.types) (ty p.types q.ty)) ∷ []) [])) plain in
        let past : pc + (ns + length cl) ≡ pc + ns = omega (arith, empty) in
        let rest_code = place_code tgt true q.ty q.kind (pc + (ns + length cl)) ++ store_last p.types q.ty in
        let after = has_rest m.code pc (ns + length cl) (ce ++ cl) rest_code (length-expression tgt u (Load' k (more_of-TypedPlace pt kind rest)) pc) has in
        let after_ = subst (λ n. HasAt m.code n (place_code tgt true q.ty q.kind n ++ store_last p.types q.ty)) past after in
        let found = place_of (scope_of ctx st) pt kind in
        let kk = λ (v : Value). with_gives (assigned (scope_of ctx st) q v) st (λ store. Goes_on (with_store store st)) in
        subst (Runs to (start_at st pc) end) (sym (gives_twice st found kk)) (with_follows p built code world base callers types_us fd.ret start_at to (start_at st pc) end (λ a. IsPlaced p built st.store well.store pt a × IsOut a) (λ a. from st (pc + ns) (place_word p built st.store well.store a ∷ [])) found st (λ a. with_gives (value_at st.store a) st kk) refl (yields_more (start_at st pc) (IsPlaced p built st.store well.store pt) IsOut (λ a. from st (pc + ns) (place_word p built st.store well.store a ∷ [])) found (λ a g. place_outside p built st.store well.store st.locals kind pt a outside g) (places st well (record { ty = pt; kind = kind }) pc 12 (n - 1) [] (omega arith) (omega (arith, low)) (and_left (is_place dcl pt kind) (load_fits p.types u pt) ex) depth (omega arith) (has_front m.code pc ce cl (has_front m.code pc (ce ++ cl) rest_code has)) (omega (arith, within, sum, empty)))) (λ a placed.
        let part = part_of st.store well.store q.ty a no_array (subst (λ t. IsPlaced p built st.store well.store t a) same_type placed.0) in
        subst (λ r. Runs to (from st (pc + ns) (place_word p built st.store well.store a ∷ [])) end (with_gives r st kk)) (sym (value_is p built st.store well.store q.ty a part)) (target_does a part placed.1 (pc + ns) end after_ (omega (arith, sum, empty)) within)))
    source_does u _ pc end is_u ex outside depth has sum within = absurd (cc)

  -- the assignment of a struct or a union
  pub copy_does : PlacesRun → EntersRun → (to : Exits) (st : State) → WellAt st → (q : TypedPlace) (r : Rhs) (pc : ℕ) (in_loop : Bool) (n : ℕ) → is_scalar (slice_get p.types.types q.ty) ≡ false → n ≤ 64 → is_statement dcl fd.ret in_loop n (Assign q r) ≡ true → HasAt m.code pc (statement_code tgt (Assign q r) to pc) → pc + statement_size tgt (Assign q r) < length m.code → Runs to (start_at st pc) (pc + statement_size tgt (Assign q r)) (run_statement (Assign q r) ctx st)
  copy_does places enters to st well q (Plain e) pc in_loop n plain low ty has within =
      let to_q = and_left (is_target dcl q) (place_keeps_bounds (spot unary_rank n) q.kind && is_right_side dcl n q.ty (Plain e)) ty in
      let more = and_right (is_target dcl q) (place_keeps_bounds (spot unary_rank n) q.kind && is_right_side dcl n q.ty (Plain e)) ty in
      let side = and_right (place_keeps_bounds (spot unary_rank n) q.kind) (is_right_side dcl n q.ty (Plain e)) more in
      let fits = and_left (is_assignable dcl q.ty e) (has_depth n e) side in
      let typing = and_right (is_expr dcl e.ty e.kind) (nat_eq e.ty q.ty && (is_scalar (slice_get p.types.types q.ty) || is_read_outside e.kind)) fits in
      let outside = or_other (is_scalar (slice_get p.types.types q.ty)) (is_read_outside e.kind) (and_right (nat_eq e.ty q.ty) (is_scalar (slice_get p.types.types q.ty) || is_read_outside e.kind) typing) plain in
      source_does places enters to st well q n low plain (and_left (is_place dcl q.ty q.kind) (not (is_array (slice_get p.types.types q.ty))) to_q) (not_true (is_array (slice_get p.types.types q.ty)) (and_right (is_place dcl q.ty q.kind) (not (is_array (slice_get p.types.types q.ty))) to_q)) (and_left (place_keeps_bounds (spot unary_rank n) q.kind) (is_right_side dcl n q.ty (Plain e)) more) e.ty e.kind pc (pc + statement_size tgt (Assign q (Plain e))) (eq_of e.ty q.ty (and_left (nat_eq e.ty q.ty) (is_scalar (slice_get p.types.types q.ty) || is_read_outside e.kind) typing)) (and_left (is_expr dcl e.ty e.kind) (nat_eq e.ty q.ty && (is_scalar (slice_get p.types.types q.ty) || is_read_outside e.kind)) fits) outside (and_right (is_assignable dcl q.ty e) (has_depth n e) side) has (omega arith) within
  copy_does places enters to st well q (Result_of d t) pc in_loop n plain low ty has within =
      let more = and_right (is_target dcl q) (place_keeps_bounds (spot unary_rank n) q.kind && is_right_side dcl n q.ty (Result_of d t)) ty in
      let side = and_right (place_keeps_bounds (spot unary_rank n) q.kind) (is_right_side dcl n q.ty (Result_of d t)) more in
      let fits = and_right (is_call dcl (n - 1) n d) (nat_eq t q.ty && converts (call_result p d.callee) (slice_get p.types.types q.ty)) side in
      absurd (no_both (is_scalar (slice_get p.types.types q.ty)) (converts_to_scalar (call_result p d.callee) (slice_get p.types.types q.ty) (and_right (nat_eq t q.ty) (converts (call_result p d.callee) (slice_get p.types.types q.ty)) fits)) plain)
