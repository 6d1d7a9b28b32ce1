-- The addresses of an array's elements, and of its end.
use Rattle.std.proofs.Common.{length, ◌≡◌, ◌∙◌, refl, ap, sym, subst, Bool, true, false, inl, inr, cond, ℕ, ◌+◌, ◌*◌, ◌^◌, ◌<◌, ◌≤◌, List, [], ◌∷◌, Option, Some, Ok, Err, arith, nat_lt, nat_le}
use Rattle.std.specs.Prelude.{slice_get, ℤ, pos, negsuc}
use Rattle.std.specs.Option.{option_map, option_map_or}
use Rattle.std.proofs.lemmas.Int.{ints}
use Rattle.std.proofs.lemmas.Bool.Decides.{nat_tests}
use Rattle.std.proofs.Math.Nat.{mod-eq_of_lt}
use Rattle.lu_spec.specs.Then.{then_option, then_do}
use Rattle.lu_base.specs.declared.trap.Trap.TheVariants.{BadCode, BadIndex}
use Rattle.c_types.specs.Refusal.{IsBuilt}
use Rattle.c_types.specs.declared.parts.Ty.{Ty}
use Rattle.c_types.specs.declared.parts.Ty.TheVariants as T
use Rattle.c_types.specs.Layout.{size_of}
use Rattle.c_types.specs.Place.{place}
use Rattle.c_types.proofs.ObjectLaws.{object-within}
use Rattle.src_tree.specs.declared.value.Value.{Pointer}
use Rattle.src_tree.specs.declared.value.Store.{Store}
use Rattle.src_tree.specs.declared.program.Program.{Program}
use Rattle.src_meaning.specs.Objects.{Place, or_trap, object_size, addresses, offset_in, address_at}
use Rattle.src_meaning.specs.Expression.{index_within}
use Rattle.src_meaning.specs.Store.{IsStore, is_address}
use Rattle.bm_isa.specs.declared.instr.Instr.TheVariants as I
use Rattle.bm_alu.specs.Words as alu
use Rattle.bm_alu.specs.Words.{of_signed, if_in_range}
use Rattle.cg_state.specs.Represents.{address_in}
use Rattle.cg_state.proofs.Words.{IsWord}
use Rattle.cg_sim_expr.proofs.Matching.{run}
use Rattle.cg_state.proofs.Memory.{address_is}
use Rattle.cg_state.proofs.Places.{place_word, place_word_is, offset_is}
use Rattle.cg_sim_expr.proofs.Loads.{size_is}
use Rattle.cg_sim_expr.proofs.Steps.{IsPlaced, Indexes}

module _ (p : Program) (built : IsBuilt p.types) (s : Store) (ok : IsStore p s) where
  -- an index up to the length, on both sides
  same_test : (i n : ℕ) → nat_lt i (n + 1) ≡ nat_le i n
  same_test i n = by (nat_le i n) refl
    where
      by : (b : Bool) → nat_le i n ≡ b → nat_lt i (n + 1) ≡ b
      by true e = grind (arith, nat_tests, e)
      by false e = grind (arith, nat_tests, e)

  outside : (i n : ℕ) → i < 2 ^ 63 → n < 2 ^ 32 → nat_le (of_signed (negsuc i)) n ≡ false
  outside i n h small = let big : 2 ^ 63 ≤ of_signed (negsuc i) = omega (arith, ints) in grind (arith, nat_tests, big, small)

  pub end_case : (a n size : ℕ) (z : ℤ) (rest : List ℕ) → n < 2 ^ 32 → IsWord z → ((i : ℕ) → i ≤ n → a + i * size < 2 ^ 64) → Indexes p built s ok rest a size (index_within (n + 1) z) (run p built s (I.IndexEnd n size ∷ []) (of_signed z ∷ a ∷ rest))
  end_case a n size (pos i) rest small wz fits = subst (λ b. Indexes p built s ok rest a size (cond b (Ok i) (Err BadIndex)) (run p built s (I.IndexEnd n size ∷ []) (i ∷ a ∷ rest))) (sym (same_test i n)) (at (nat_le i n) refl)
    where
      at : (b : Bool) → nat_le i n ≡ b → Indexes p built s ok rest a size (cond b (Ok i) (Err BadIndex)) (then_do (then_do (if_in_range b (alu.word (a + i * size))) (λ v. Ok (v ∷ rest))) (run p built s []))
      at true q = let le : i ≤ n = grind (arith, nat_tests, q) in ap (λ w. w ∷ rest) (mod-eq_of_lt (fits i le))
      at false q = (tt, refl)
  end_case a n size (negsuc i) rest small wz fits =
      let w = of_signed (negsuc i) in
      let is : run p built s (I.IndexEnd n size ∷ []) (w ∷ a ∷ rest) ≡ Err BadIndex = ap (λ b. then_do (then_do (if_in_range b (alu.word (a + w * size))) (λ v. Ok (v ∷ rest))) (run p built s [])) (outside i n wz small) in
      subst (Indexes p built s ok rest a size (Err BadIndex)) (sym is) (tt, refl)

  pub end_index : (n : ℕ) (z : ℤ) (i : ℕ) → index_within (n + 1) z ≡ Ok i → i ≤ n
  end_index n (pos j) i h = by (nat_lt j (n + 1)) refl h
    where
      by : (b : Bool) → nat_lt j (n + 1) ≡ b → cond b (Ok j) (Err BadIndex) ≡ Ok i → i ≤ n
      by true q h = let same_index : j ≡ i = cc in let lt : j < n + 1 = grind (arith, nat_tests, q) in omega (arith, lt, same_index)
      by false q h = absurd (cc)
  end_index n (negsuc j) i h = absurd (cc)

  -- the pointer to an element, or to the end
  pub record ElementAt (q : Place) (further : ℕ) : Type 0 where
    pub offset : ℕ
    pub is : address_at p.types s q further ≡ Ok (Pointer q.object offset)
    pub address : is_address p s q.object offset ≡ true
    pub word_is : place_word p built s ok q + further ≡ address_in (addresses p.types s) q.object + offset

  pub element_at : (u u' n k : ℕ) (q : Place) → IsPlaced p built s ok u q → slice_get p.types.types u ≡ Some (T.Array u' n) → k ≤ n → ElementAt q (k * size_of p.types u')
  element_at u u' n k q (inl h) e le =
      let size = size_of p.types u' in
      let whole = size_is p built s ok u (T.Array u' n) (size * n) e refl in
      let within = object-within p.types built h.object.elem h.object.count q.path (place u h.offset) h.leads in
      let part = less k n size le in
      let below : h.offset + k * size ≤ object_size p.types h.object = omega (arith, within, whole, part) in
      let test : nat_le (h.offset + k * size) (object_size p.types h.object) ≡ true = at_most (h.offset + k * size) (object_size p.types h.object) below in
      let a = address_is (length p.sites) p.types s q.object h.object h.at in
      let w = place_word_is p built s ok u q h in
      record {
        offset = h.offset + k * size;
        is = ap (λ o. or_trap BadCode (then_option o (λ x. option_map (λ j. Pointer q.object (j + k * size)) (offset_in p.types x q.path)))) h.at
            ∙ ap (λ o. or_trap BadCode (option_map (λ j. Pointer q.object (j + k * size)) o)) (offset_is p built s ok h.object q.path u h.offset h.leads);
        address = ap (λ o. option_map_or (λ x. nat_le (h.offset + k * size) (object_size p.types x)) o false) h.at ∙ test;
        word_is = omega (arith, a, w);
      }
    where
      less : (k n m : ℕ) → k ≤ n → k * m ≤ m * n
      less k n m h = grind (arith, h)

      at_most : (a b : ℕ) → a ≤ b → nat_le a b ≡ true
      at_most a b h = grind (arith, nat_tests, h)
  element_at u u' n k q (inr h) e le =
      let both : ◌≡◌ {A = Option Ty} (Some (T.Array h.object.elem h.object.count)) (Some (T.Array u' n)) = sym h.array ∙ e in
      let elem : h.object.elem ≡ u' = cc in
      let count : h.object.count ≡ n = cc in
      let size = size_of p.types u' in
      let whole : object_size p.types h.object ≡ n * size = ap (λ c. c * size_of p.types h.object.elem) count ∙ ap (λ t. n * size_of p.types t) elem in
      let part = less k n size le in
      let below : k * size ≤ object_size p.types h.object = omega (arith, whole, part) in
      let test : nat_le (0 + k * size) (object_size p.types h.object) ≡ true = at_most (0 + k * size) (object_size p.types h.object) (omega (arith, below)) in
      let none : option_map_or (λ x. option_map_or (λ k. k) (offset_in p.types x q.path) 0) (slice_get s.objects q.object) 0 ≡ 0 = ap (λ o. option_map_or (λ x. option_map_or (λ k. k) (offset_in p.types x q.path) 0) o 0) h.at ∙ ap (λ l. option_map_or (λ k. k) (offset_in p.types h.object l) 0) h.no_step in
      record {
        offset = 0 + k * size;
        is = ap (λ o. or_trap BadCode (then_option o (λ x. option_map (λ j. Pointer q.object (j + k * size)) (offset_in p.types x q.path)))) h.at
            ∙ ap (λ l. or_trap BadCode (option_map (λ j. Pointer q.object (j + k * size)) (offset_in p.types h.object l))) h.no_step;
        address = ap (λ o. option_map_or (λ x. nat_le (0 + k * size) (object_size p.types x)) o false) h.at ∙ test;
        word_is = omega (arith, none);
      }
    where
      less : (k n m : ℕ) → k ≤ n → k * m ≤ n * m
      less k n m h = grind (arith, h)

      at_most : (a b : ℕ) → a ≤ b → nat_le a b ≡ true
      at_most a b h = grind (arith, nat_tests, h)
