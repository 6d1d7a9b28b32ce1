-- From a place to a part of it, and what the machine makes of its address.
use Rattle.std.proofs.Common.{◌≡◌, ◌∙◌, refl, ap, sym, subst, Bool, true, false, ◌⊎◌, inl, inr, ℕ, ◌+◌, ◌*◌, ◌^◌, ◌<◌, ◌≤◌, List, [], ◌∷◌, ◌++◌, length, Option, Some, None, Result, Ok, Err, arith, nat_lt, nat_eq, if◌then◌else◌}
use Rattle.std.specs.Prelude.{slice_get, ℤ, pos, negsuc}
use Rattle.std.specs.Option.{option_map, option_map_or}
use Rattle.std.proofs.Math.Nat.{mod-eq_of_lt}
use Rattle.std.proofs.lemmas.Bool.Decides.{nat_tests}
use Rattle.std.proofs.lemmas.Int.{ints}
use Rattle.lu_spec.specs.Then.{then_option, then_do}
use Rattle.lu_spec.proofs.ThenLemmas.{then_some}
use Rattle.lu_base.specs.declared.trap.Trap.{Trap}
use Rattle.lu_base.specs.declared.trap.Trap.TheVariants.{BadIndex}
use Rattle.c_types.specs.Refusal.{IsBuilt}
use Rattle.c_types.specs.declared.parts.FieldDef.{FieldDef}
use Rattle.c_types.specs.declared.parts.Parts.{Parts}
use Rattle.c_types.specs.declared.parts.Ty.{Ty}
use Rattle.c_types.specs.declared.parts.Ty.TheVariants as T
use Rattle.c_types.specs.declared.path.Place as T_place
use Rattle.c_types.specs.declared.path.Step.{Step}
use Rattle.c_types.specs.declared.path.Step.TheVariants.{Index, Field, Member}
use Rattle.c_types.specs.Tables.{fields_of}
use Rattle.c_types.specs.Layout.{size_of, field_offset}
use Rattle.c_types.specs.Place.{place, shifted, step_place, path_place, object_place, is_member}
use Rattle.c_types.proofs.PlaceLaws.{same-place, first-of}
use Rattle.c_types.proofs.ObjectLaws.{element-of}
use Rattle.src_tree.specs.declared.value.Value.{Value, Int, out-Value}
use Rattle.src_tree.specs.declared.value.Object.{Object}
use Rattle.src_tree.specs.declared.value.Store.{Store}
use Rattle.src_tree.specs.declared.program.Program.{Program}
use Rattle.src_meaning.specs.Paths.{part_in, part_at, element_part}
use Rattle.src_meaning.specs.Objects.{Gives, Place, inside, offset_in}
use Rattle.src_meaning.specs.Expression.{index_below, index_within, length_of}
use Rattle.src_meaning.specs.Store.{IsStore}
use Rattle.src_meaning.specs.ValidTypes.{is_field_of}
use Rattle.src_meaning.proofs.LayoutLengths.{typed_within, has_type-is}
use Rattle.bm_isa.specs.declared.instr.Instr.{Instr}
use Rattle.cg_expr.specs.Pieces.{step_offset, element_last}
use Rattle.cg_state.specs.Runs.{IsPlain}
use Rattle.cg_state.proofs.Typed.{Typed}
use Rattle.cg_sim_expr.proofs.Matching.{run}
use Rattle.cg_state.proofs.Memory.{address_is}
use Rattle.cg_state.proofs.Places.{PartOf, step_part, IsPart, place_word, place_word_is, elements_typed, item_part}

path_append : (p : Parts) (path : List Step) (t : ℕ) (st : Step) (one two : T_place.Place) → path_place p t path ≡ Some one → step_place p (slice_get p.types one.ty) st ≡ Some two → path_place p t (path ++ st ∷ []) ≡ Some (place two.ty (one.offset + two.offset))
path_append p [] t st one two e g =
    let q = same-place t 0 one.ty one.offset e in
    let step : step_place p (slice_get p.types t) st ≡ Some two = subst (λ t. step_place p (slice_get p.types t) st ≡ Some two) (sym q.0) g in
    let n : two.offset + 0 ≡ one.offset + two.offset = omega (arith, q.1) in
    ap (λ o. then_option o (λ to. then_option (Some (place to.ty 0)) (shifted to.offset))) step ∙ ap (λ n. Some (place two.ty n)) n
path_append p (s ∷ path) t st one two e g =
    let f = first-of p t s path one e in
    let rest = path_append p path f.part.ty st f.last two f.rest (subst (λ t. step_place p (slice_get p.types t) st ≡ Some two) (sym f.ty) g) in
    let n : f.part.offset + (f.last.offset + two.offset) ≡ one.offset + two.offset = omega (arith, f.sum) in
    ap (λ o. then_option o (λ to. then_option (path_place p to.ty (path ++ st ∷ [])) (shifted to.offset))) f.step
    ∙ (ap (λ o. then_option o (shifted f.part.offset)) rest ∙ ap (λ n. Some (place two.ty n)) n)

object_append : (p : Parts) (elem count : ℕ) (path : List Step) (st : Step) (one two : T_place.Place) → object_place p elem count path ≡ Some one → step_place p (slice_get p.types one.ty) st ≡ Some two → object_place p elem count (path ++ st ∷ []) ≡ Some (place two.ty (one.offset + two.offset))
object_append p elem count path st one two e g =
    let el = element-of p elem count path one e in
    let rest = path_append p el.steps elem st el.last two el.rest (subst (λ t. step_place p (slice_get p.types t) st ≡ Some two) (sym el.ty) g) in
    let n : el.number * size_of p elem + (el.last.offset + two.offset) ≡ one.offset + two.offset = omega (arith, el.sum) in
    ap (λ l. object_place p elem count (l ++ st ∷ [])) el.path_is
    ∙ (ap (λ b. if b then then_option (path_place p elem (el.steps ++ st ∷ [])) (shifted (el.number * size_of p elem)) else None) el.within
    ∙ (ap (λ o. then_option o (shifted (el.number * size_of p elem))) rest ∙ ap (λ n. Some (place two.ty n)) n))

part_append : (path : List Step) (v x y : Value) (st : Step) → part_at v path ≡ Some x → part_in (out-Value x) st ≡ Some y → part_at v (path ++ st ∷ []) ≡ Some y
part_append [] v x y st e g = let same : v ≡ x = cc in ap (λ v. then_option (part_in (out-Value v) st) (λ part. Some part)) same ∙ ap (λ o. then_option o (λ part. Some part)) g
part_append (s ∷ path) v x y st e g =
    let first = then_some (part_in (out-Value v) s) (λ part. part_at part path) x e in
    ap (λ o. then_option o (λ part. part_at part (path ++ st ∷ []))) first.1 ∙ part_append path first.0 x y st first.2 g

element_append : (vs : List Value) (path : List Step) (x y : Value) (st : Step) → element_part vs path ≡ Some x → part_in (out-Value x) st ≡ Some y → element_part vs (path ++ st ∷ []) ≡ Some y
element_append vs [] x y st e g = absurd (cc)
element_append vs (Index k ∷ path) x y st e g =
    let first = then_some (slice_get vs k) (λ v. part_at v path) x e in
    ap (λ o. then_option o (λ v. part_at v (path ++ st ∷ []))) first.1 ∙ part_append path first.0 x y st first.2 g
element_append vs (Field k ∷ path) x y st e g = absurd (cc)
element_append vs (Member k ∷ path) x y st e g = absurd (cc)

module _ (p : Program) (built : IsBuilt p.types) (s : Store) (ok : IsStore p s) where
  -- a global that is an array, as a whole
  pub record IsWhole (u : ℕ) (q : Place) : Type 0 where
    pub object : Object
    pub elements : List Value
    pub at : slice_get s.objects q.object ≡ Some object
    pub live : object.elements ≡ Some elements
    pub no_step : q.path ≡ []
    pub array : slice_get p.types.types u ≡ Some (T.Array object.elem object.count)

  abbrev pub IsPlaced : ℕ → Place → Type 0
  IsPlaced u q = IsPart p built s ok u q ⊎ IsWhole u q

  -- a step outside unions from a part
  pub record Stepped (u u' : ℕ) (q : Place) (st : Step) (k : ℕ) : Type 0 where
    pub part : IsPart p built s ok u' (inside q st)
    pub there : place_word p built s ok (inside q st) ≡ place_word p built s ok q + k

  -- a step to a part of the value there
  pub step_to : (u : ℕ) (q : Place) (st : Step) (two : T_place.Place) (h : IsPart p built s ok u q) → step_place p.types (slice_get p.types.types u) st ≡ Some two → PartOf p built s ok (out-Value h.value) st two.ty → Stepped u two.ty q st two.offset
  step_to u q st two h e part =
      let next : IsPart p built s ok two.ty (inside q st) = record {
        object = h.object;
        elements = h.elements;
        at = h.at;
        live = h.live;
        offset = h.offset + two.offset;
        leads = object_append p.types h.object.elem h.object.count q.path st (place u h.offset) two h.leads e;
        value = part.value;
        is = element_append h.elements q.path h.value part.value st h.is part.is;
        is_typed = part.typed_part;
      } in
      let one = place_word_is p built s ok u q h in
      let other = place_word_is p built s ok two.ty (inside q st) next in
      record { part = next; there = omega (arith, one, other) }

  pub step_from : (u : ℕ) (q : Place) (st : Step) (two : T_place.Place) → IsPart p built s ok u q → step_place p.types (slice_get p.types.types u) st ≡ Some two → is_member st ≡ false → Stepped u two.ty q st two.offset
  step_from u q st two h e out =
      let t = typed_within p s (length p.types.types) u h.value h.is_typed in
      step_to u q st two h e (step_part p built s ok st t.0 (out-Value h.value) two (sym (has_type-is p s built [] u t.0 t.1 h.value) ∙ h.is_typed) (subst (λ o. step_place p.types o st ≡ Some two) t.1 e) out)

  -- a field of a struct
  pub field_from : (u u' k : ℕ) (q : Place) → IsPart p built s ok u q → is_field_of p.types (slice_get p.types.types u) k u' ≡ true → Stepped u u' q (Field k) (step_offset p.types (slice_get p.types.types u) (Field k))
  field_from u u' k q h f = by (slice_get p.types.types u) refl f
    where
      by : (o : Option Ty) → slice_get p.types.types u ≡ o → is_field_of p.types o k u' ≡ true → Stepped u u' q (Field k) (step_offset p.types o (Field k))
      by (Some (T.Struct n)) e f = at (slice_get (fields_of p.types n) k) refl f
        where
          at : (d : Option FieldDef) → slice_get (fields_of p.types n) k ≡ d → option_map_or (λ d. nat_eq d.ty u') d false ≡ true → Stepped u u' q (Field k) (option_map_or (λ to. to.offset) (option_map (λ (f : FieldDef). place f.ty (field_offset p.types n k)) d) 0)
          at None g f = absurd (cc)
          at (Some d) g f =
              let same : d.ty ≡ u' = grind (arith, nat_tests, f) in
              let step : step_place p.types (slice_get p.types.types u) (Field k) ≡ Some (place d.ty (field_offset p.types n k)) = ap (λ o. step_place p.types o (Field k)) e ∙ ap (option_map (λ (f : FieldDef). place f.ty (field_offset p.types n k))) g in
              subst (λ t. Stepped u t q (Field k) (field_offset p.types n k)) same (step_from u q (Field k) (place d.ty (field_offset p.types n k)) h step refl)
      by _ e f = absurd (cc)

  -- an element of an array
  pub element_from : (u u' n i : ℕ) (q : Place) → IsPlaced u q → slice_get p.types.types u ≡ Some (T.Array u' n) → i < n → Stepped u u' q (Index i) (i * size_of p.types u')
  element_from u u' n i q (inl h) e lt =
      let test : nat_lt i n ≡ true = grind (arith, nat_tests, lt) in
      step_from u q (Index i) (place u' (i * size_of p.types u')) h (ap (λ o. step_place p.types o (Index i)) e ∙ ap (λ b. if b then Some (place u' (i * size_of p.types u')) else None) test) refl
  element_from u u' n i q (inr h) e lt =
      let both : ◌≡◌ {A = Option Ty} (Some (T.Array h.object.elem h.object.count)) (Some (T.Array u' n)) = sym h.array ∙ e in
      let elem : h.object.elem ≡ u' = cc in
      let count : h.object.count ≡ n = cc in
      let all = elements_typed p built s ok q.object h.object h.elements h.at h.live in
      let item = item_part p built s ok h.object.elem h.elements i all.1 (omega (arith, all.0, count, lt)) in
      let test : nat_lt i h.object.count ≡ true = grind (arith, nat_tests, lt, count) in
      let size : i * size_of p.types h.object.elem ≡ i * size_of p.types u' = ap (λ t. i * size_of p.types t) elem in
      let zero_more : i * size_of p.types h.object.elem + 0 ≡ i * size_of p.types u' = omega (arith, size) in
      let path : q.path ++ Index i ∷ [] ≡ Index i ∷ [] = ap (λ l. l ++ Index i ∷ []) h.no_step in
      let next : IsPart p built s ok u' (inside q (Index i)) = record {
        object = h.object;
        elements = h.elements;
        at = h.at;
        live = h.live;
        offset = i * size_of p.types u';
        leads = ap (object_place p.types h.object.elem h.object.count) path ∙ (ap (λ b. if b then Some (place h.object.elem (i * size_of p.types h.object.elem + 0)) else None) test ∙ (ap (λ t. Some (place t (i * size_of p.types h.object.elem + 0))) elem ∙ ap (λ n. Some (place u' n)) zero_more));
        value = item.0;
        is = ap (element_part h.elements) path ∙ ap (λ o. then_option o (λ v. Some v)) item.1;
        is_typed = subst (λ t. Typed p built s t item.0) elem item.2;
      } in
      let other = place_word_is p built s ok u' (inside q (Index i)) next in
      let a = address_is (length p.sites) p.types s q.object h.object h.at in
      let none : option_map_or (λ x. option_map_or (λ k. k) (offset_in p.types x q.path) 0) (slice_get s.objects q.object) 0 ≡ 0 = ap (λ o. option_map_or (λ x. option_map_or (λ k. k) (offset_in p.types x q.path) 0) o 0) h.at ∙ ap (λ l. option_map_or (λ k. k) (offset_in p.types h.object l) 0) h.no_step in
      record { part = next; there = omega (arith, a, none, other) }

  -- an index against its bound, on both sides
  abbrev pub Indexes : List ℕ → ℕ → ℕ → Gives ℕ → Result (List ℕ) Trap → Type 0
  Indexes rest a size (Ok i) (Ok stack) = stack ≡ (a + i * size) ∷ rest
  Indexes rest a size (Err t) (Err w) = IsPlain t × (w ≡ t)
  Indexes rest a size _ _ = ⊥

  outside : (i n : ℕ) → i < 2 ^ 63 → n < 2 ^ 32 → nat_lt (Rattle.bm_alu.specs.Words.of_signed (negsuc i)) n ≡ false
  outside i n h small = let big : 2 ^ 63 ≤ Rattle.bm_alu.specs.Words.of_signed (negsuc i) = omega (arith, ints) in grind (arith, nat_tests, big, small)

  index_case : (a n size : ℕ) (z : ℤ) (rest : List ℕ) → n < 2 ^ 32 → Rattle.cg_state.proofs.Words.IsWord z → ((i : ℕ) → i < n → a + i * size < 2 ^ 64) → Indexes rest a size (index_within n z) (run p built s (Rattle.bm_isa.specs.declared.instr.Instr.TheVariants.Index n size ∷ []) (Rattle.bm_alu.specs.Words.of_signed z ∷ a ∷ rest))
  index_case a n size (pos i) rest small wz fits = at (nat_lt i n) refl
    where
      at : (b : Bool) → nat_lt i n ≡ b → Indexes rest a size (if b then Ok i else Err BadIndex) (then_do (then_do (Rattle.bm_alu.specs.Words.if_in_range b (Rattle.bm_alu.specs.Words.word (a + i * size))) (λ v. Ok (v ∷ rest))) (run p built s []))
      at true q = let lt : i < n = grind (arith, nat_tests, q) in ap (λ w. w ∷ rest) (mod-eq_of_lt (fits i lt))
      at false q = (tt, refl)
  index_case a n size (negsuc i) rest small wz fits =
      let w = Rattle.bm_alu.specs.Words.of_signed (negsuc i) in
      let is : run p built s (Rattle.bm_isa.specs.declared.instr.Instr.TheVariants.Index n size ∷ []) (w ∷ a ∷ rest) ≡ Err BadIndex = ap (λ b. then_do (then_do (Rattle.bm_alu.specs.Words.if_in_range b (Rattle.bm_alu.specs.Words.word (a + w * size))) (λ v. Ok (v ∷ rest))) (run p built s [])) (outside i n wz small) in
      subst (Indexes rest a size (Err BadIndex)) (sym is) (tt, refl)

  pub index_matches : (u u' a : ℕ) (z : ℤ) (rest : List ℕ) (n : ℕ) → slice_get p.types.types u ≡ Some (T.Array u' n) → n < 2 ^ 32 → Rattle.cg_state.proofs.Words.IsWord z → ((i : ℕ) → i < n → a + i * size_of p.types u' < 2 ^ 64) → Indexes rest a (size_of p.types u') (index_below (length_of p.types u) (Int z)) (run p built s (element_last p.types u u') (Rattle.bm_alu.specs.Words.of_signed z ∷ a ∷ rest))
  index_matches u u' a z rest n e small wz fits =
      subst (λ o. Indexes rest a (size_of p.types u') (index_within (Rattle.src_meaning.specs.Expression.length_in o) z) (run p built s (Rattle.bm_isa.specs.declared.instr.Instr.TheVariants.Index (Rattle.src_meaning.specs.Expression.length_in o) (size_of p.types u') ∷ []) (Rattle.bm_alu.specs.Words.of_signed z ∷ a ∷ rest))) (sym e) (index_case a n (size_of p.types u') z rest small wz fits)
