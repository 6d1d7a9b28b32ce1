-- Marks keep their flags, and there is room for each.
use Rattle.std.proofs.Common.{◌≡◌, ◌∙◌, refl, ap, sym, subst, ℕ, zero, suc, ◌+◌, ◌<◌, ◌≤◌, Bool, true, false, ◌||◌, nat_eq, List, [], ◌∷◌, ◌++◌, length, Some, slice_get, get_or, set, unwrap_or, ◌^◌, ◌≢◌, arith}
use Rattle.std.specs.Prelude.{All, replicate}
use Rattle.std.specs.List.{range_with_len, IsDistinct}
use Rattle.std.proofs.lemmas.Bool.Decides.{nat_tests}
use Rattle.std.proofs.lemmas.List.{length_push, length-append, length-set, length-replicate}
use Rattle.std.proofs.lemmas.List.Folds.{list_any-append}
use Rattle.std.proofs.lemmas.List.Elements.{All-push}
use Rattle.std.proofs.lemmas.List.FromFn.{length-range_with_len}
use Rattle.std.proofs.lemmas.Map.Made.{length-le_from_is_member}
use Rattle.std.proofs.lemmas.Map.Keys.{IsDistinct-push}
use Rattle.lu_image_store.specs.Needed.{is_in}
use Rattle.lu_mark.specs.Marking.{Marking, IsMarking, AreFlags, with_marks, begun, in_order, flagged}
use Rattle.lu_mark.proofs.Members.{is_in-member, in_range, from_range, All-is_in, same_of, same_as_self, or_left, or_right, or_false, with_marks-longer, filter-agree}
use Rattle.lu_mark.proofs.Walking.{nat_laws, in_order-same, in_order-is_marking}

-- marks of so many objects are no more than these
few_marked : (marked : List ℕ) (n : ℕ) → All (λ x. x < n) marked → IsDistinct nat_eq marked → length marked ≤ n
few_marked marked n inside distinct =
    let fewer : length marked ≤ length (range_with_len 0 n) = length-le_from_is_member nat_laws marked (range_with_len 0 n) distinct (λ x h. let low : x < n = All-is_in (λ x. x < n) marked x inside (sym (is_in-member marked x) ∙ h) in is_in-member (range_with_len 0 n) x ∙ in_range n 0 x (omega arith) (omega (arith, low))) in
    let size = length-range_with_len 0 n in
    omega (arith, fewer, size)

flag_of : (flags : List Bool) (x : ℕ) (b : Bool) → slice_get flags x ≡ Some b → get_or flags x false ≡ b
flag_of [] x b e = absurd (cc)
flag_of (d ∷ flags) zero b e = cc
flag_of (d ∷ flags) (suc x) b e = flag_of flags x b e

slice_get-set_same : (flags : List Bool) (x : ℕ) (b : Bool) → x < length flags → slice_get (set flags x b) x ≡ Some b
slice_get-set_same [] x b h = absurd (omega (arith, h))
slice_get-set_same (d ∷ flags) zero b h = refl
slice_get-set_same (d ∷ flags) (suc x) b h = slice_get-set_same flags x b (omega (arith, h))

slice_get-set_other : (flags : List Bool) (x y : ℕ) (b : Bool) → y ≢ x → slice_get (set flags x b) y ≡ slice_get flags y
slice_get-set_other [] x y b ne = refl
slice_get-set_other (d ∷ flags) zero zero b ne = absurd (ne refl)
slice_get-set_other (d ∷ flags) zero (suc y) b ne = refl
slice_get-set_other (d ∷ flags) (suc x) zero b ne = refl
slice_get-set_other (d ∷ flags) (suc x) (suc y) b ne = slice_get-set_other flags x y b (λ e. ne (ap suc e))

module _ (flags : List Bool) (marked : List ℕ) (walked capacity : ℕ) (ok : IsMarking (record { size = length flags; marked = marked; walked = walked })) (told : AreFlags flags marked capacity) (x : ℕ) (low : x < length flags) where
  pub flag-is : is_in marked x ≡ get_or flags x false
  flag-is = sym (flag_of flags x (is_in marked x) (told.told x low))

  module _ (clear : get_or flags x false ≡ false) where
    more_inside : All (λ y. y < length flags) (marked ++ x ∷ [])
    more_inside = All-push (λ y. y < length flags) marked x ok.inside low

    more_distinct : IsDistinct nat_eq (marked ++ x ∷ [])
    more_distinct = IsDistinct-push nat_laws marked x ok.distinct (is_in-member marked x ∙ (flag-is ∙ clear))

    pub has_room : length marked < capacity
    has_room =
        let fewer = few_marked (marked ++ x ∷ []) (length flags) more_inside more_distinct in
        let size = length_push marked x in
        omega (arith, fewer, size, told.room)

    pub marked-is_marking : IsMarking (record { size = length flags; marked = marked ++ x ∷ []; walked = walked })
    marked-is_marking = record {
      inside = more_inside;
      distinct = more_distinct;
      within = let size = length_push marked x in omega (arith, size, ok.within);
    }

    flag_set : (y : ℕ) → (b : Bool) → nat_eq x y ≡ b → y < length flags → slice_get (set flags x true) y ≡ Some (is_in (marked ++ x ∷ []) y)
    flag_set y true e h =
        let same : x ≡ y = same_of x y e in
        let there : is_in (marked ++ x ∷ []) x ≡ true = list_any-append (λ z. nat_eq z x) marked (x ∷ []) ∙ or_right (is_in marked x) (is_in (x ∷ []) x) (or_left (nat_eq x x) false (same_as_self x)) in
        subst (λ z. slice_get (set flags x true) z ≡ Some (is_in (marked ++ x ∷ []) z)) same (slice_get-set_same flags x true low ∙ ap Some (sym there))
    flag_set y false e h =
        let other : is_in (marked ++ x ∷ []) y ≡ is_in marked y = list_any-append (λ z. nat_eq z y) marked (x ∷ []) ∙ (ap (λ d. is_in marked y || (d || false)) e ∙ or_false (is_in marked y)) in
        let ne : y ≢ x = grind (arith, nat_tests, e) in
        slice_get-set_other flags x y true ne ∙ (told.told y h ∙ ap Some (sym other))

    pub flags_set : AreFlags (set flags x true) (marked ++ x ∷ []) capacity
    flags_set =
        let size : length (set flags x true) ≡ length flags = length-set flags x true in
        record {
          told = λ y h. flag_set y (nat_eq x y) refl (omega (arith, h, size));
          room = omega (arith, size, told.room);
        }

    -- what is kept of the vectors after the mark
    pub mark_keeps : (new : List ℕ) (room : ℕ) → new ≡ marked ++ x ∷ [] → room ≡ capacity → length flags < 2 ^ 32 → IsMarking (record { size = length (set flags x true); marked = new; walked = walked }) × AreFlags (set flags x true) new room × (length (set flags x true) < 2 ^ 32)
    mark_keeps new room is same few =
        let size : length (set flags x true) ≡ length flags = length-set flags x true in
        let marking : IsMarking (record { size = length (set flags x true); marked = marked ++ x ∷ []; walked = walked }) = subst (λ n. IsMarking (record { size = n; marked = marked ++ x ∷ []; walked = walked })) (sym size) marked-is_marking in
        let told_by : AreFlags (set flags x true) new capacity = subst (λ zs. AreFlags (set flags x true) zs capacity) (sym is) flags_set in
        (subst (λ zs. IsMarking (record { size = length (set flags x true); marked = zs; walked = walked })) (sym is) marking, subst (AreFlags (set flags x true) new) (sym same) told_by, omega (arith, size, few))

-- no more are marked than there are
pub few_in : (m : Marking) → IsMarking m → length m.marked ≤ m.size
few_in m ok = few_marked m.marked m.size ok.inside ok.distinct

abbrev pub one_more : Marking → Marking
one_more m = record m { walked = m.walked + 1 }

-- after more marks, the next object still stands at its place
pub step_within : (old m : Marking) (targets : List ℕ) → m ≡ record old { marked = with_marks old.marked targets } → old.walked < length old.marked → m.walked + 1 ≤ length m.marked
step_within old m targets is more =
    let longer = with_marks-longer old.marked targets in
    let count = ap (λ n. n.walked) is in
    let size = ap (λ n. length n.marked) is ∙ (ap length longer.1 ∙ length-append old.marked longer.0) in
    omega (arith, count, size, more)

pub one_more-is_marking : (old m : Marking) (targets : List ℕ) → m ≡ record old { marked = with_marks old.marked targets } → old.walked < length old.marked → IsMarking m → IsMarking (one_more m)
one_more-is_marking old m targets is more ok =
    record { inside = ok.inside; distinct = ok.distinct; within = step_within old m targets is more }

-- the flags that are set are the marks in order
module _ (flags : List Bool) (marked : List ℕ) (walked capacity : ℕ) (ok : IsMarking (record { size = length flags; marked = marked; walked = walked })) (told : AreFlags flags marked capacity) where
  abbrev here : Marking
  here = record { size = length flags; marked = marked; walked = walked }

  pub flagged-is : flagged flags ≡ (in_order here).marked
  flagged-is =
      filter-agree (λ x. unwrap_or (slice_get flags x) false) (is_in marked) (range_with_len 0 (length flags)) (λ x h. let low = from_range (length flags) 0 x h in ap (λ o. unwrap_or o false) (told.told x (omega (arith, low))))

  pub flags_in_order : AreFlags flags (in_order here).marked capacity
  flags_in_order = record {
    told = λ x h. told.told x h ∙ ap Some (sym (in_order-same here ok x));
    room = told.room;
  }

  -- what is kept of the vectors once they are in order
  pub order_keeps : (new : List ℕ) (room : ℕ) → new ≡ (in_order here).marked → room ≡ capacity → length flags < 2 ^ 32 → IsMarking (record { size = length flags; marked = new; walked = walked }) × AreFlags flags new room × (length flags < 2 ^ 32)
  order_keeps new room is same few =
      let told_by : AreFlags flags new capacity = subst (λ zs. AreFlags flags zs capacity) (sym is) flags_in_order in
      (subst (λ zs. IsMarking (record { size = length flags; marked = zs; walked = walked })) (sym is) (in_order-is_marking here ok), subst (AreFlags flags new) (sym same) told_by, few)

-- before any mark
none_distinct : IsDistinct nat_eq []
unfolding IsDistinct
none_distinct = tt

clear_at : (n x : ℕ) → x < n → slice_get (replicate n false) x ≡ Some false
clear_at zero x h = absurd (omega (arith, h))
clear_at (suc n) zero h = refl
clear_at (suc n) (suc x) h = clear_at n x (omega (arith, h))

pub begin_keeps : (size room : ℕ) (flags : List Bool) (marked : List ℕ) → flags ≡ replicate size false → marked ≡ [] → size ≤ room → size < 2 ^ 32 → IsMarking (record { size = length flags; marked = marked; walked = 0 }) × AreFlags flags marked room × (length flags < 2 ^ 32)
begin_keeps size room flags marked clear none fits few =
    let count : length flags ≡ size = ap length clear ∙ length-replicate size false in
    let told : AreFlags (replicate size false) [] room = record { told = λ x h. clear_at size x (omega (arith, h, length-replicate size false)); room = omega (arith, length-replicate size false, fits) } in
    let marking : IsMarking (record { size = length flags; marked = []; walked = 0 }) = record { inside = λ k d h. absurd (omega (arith, h)); distinct = none_distinct; within = omega arith } in
    (subst (λ zs. IsMarking (record { size = length flags; marked = zs; walked = 0 })) (sym none) marking, subst (λ fs. AreFlags fs marked room) (sym clear) (subst (λ zs. AreFlags (replicate size false) zs room) (sym none) told), omega (arith, count, few))

pub begin_is : (size : ℕ) (roots : List ℕ) (flags : List Bool) (marked : List ℕ) (m : Marking) → m ≡ record { size = length flags; marked = with_marks marked roots; walked = 0 } → flags ≡ replicate size false → marked ≡ [] → m ≡ begun size roots
begin_is size roots flags marked m is clear none =
    let sized : ℕ → Marking = λ n. record { size = n; marked = with_marks marked roots; walked = 0 } in
    let from : List ℕ → Marking = λ zs. record { size = size; marked = with_marks zs roots; walked = 0 } in
    is ∙ (ap sized (ap length clear ∙ length-replicate size false) ∙ ap from none)
