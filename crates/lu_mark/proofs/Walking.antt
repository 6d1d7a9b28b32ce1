-- A walk goes on as one, and at its end the marked objects are the needed ones.
use Rattle.std.proofs.Common.{◌≡◌, ◌∙◌, ◌⊎◌, inl, inr, refl, ap, sym, subst, ℕ, zero, suc, ◌+◌, ◌<◌, ◌≤◌, Bool, true, false, ◌&&◌, ◌||◌, nat_eq, List, [], ◌∷◌, ◌++◌, length, Some, slice_get, get_or, take, ◌==◌, ◌≢◌, arith}
use Rattle.std.specs.Prelude.{◌↔◌, cond, filter}
use Rattle.std.specs.List.{range_with_len, IsDistinct}
use Rattle.std.specs.List.Sorted.{IsStrictlyIncreasing}
use Rattle.std.specs.Cmp.{IsEquivalence}
use Rattle.std.proofs.lemmas.List.Kept.{IsStrictlyIncreasing-filter}
use Rattle.std.proofs.lemmas.List.FromFn.{length-range_with_len, get_or-range_with_len}
use Rattle.std.proofs.lemmas.Map.Keys.{IsDistinct-from_apart, below_from_sorted, sorted_from_strictly_increasing}
use Rattle.std.proofs.lemmas.Bool.Decides.{nat_tests}
use Rattle.std.proofs.lemmas.List.{take-append-le}
use Rattle.std.proofs.lemmas.List.Folds.{list_any-append}
use Rattle.std.proofs.lemmas.Map.Made.{length-le_from_is_member}
use Rattle.lu_image_store.specs.Needed.{Graph, EndsChain, root, step, IsNeeded, is_in, numbers, ends_within, needed_in}
use Rattle.lu_image_store.proofs.Closure.{needed_in-are}
use Rattle.lu_mark.specs.declared.marks.WalkState.TheVariants.{More, Done}
use Rattle.lu_mark.specs.Marking.{Marking, IsMarking, with_marks, begun, next_in, in_order, ordered_if_done, stepped, state_of}
use Rattle.lu_mark.specs.Walks.{Follows, AreRoots, AreNext, IsWalk, GoesOn}
use Rattle.lu_mark.proofs.Members.{either, or_cases, or_left, or_right, is_in-member, is_in-with_marks, with_marks-longer, is_in-filter, in_range, All-is_in, All-from_is_in, is_in-get, filter-agree}

pub nat_laws : IsEquivalence nat_eq
nat_laws = record {
  refl = λ x. grind (arith, nat_tests);
  symm = λ x y. grind (arith, nat_tests);
  congr = λ x y z h. grind (arith, nat_tests);
}

-- at the beginning
pub begun-is_walk : (g : Graph) (size : ℕ) (roots : List ℕ) → g.size ≡ size → AreRoots g roots → IsWalk g (begun size roots)
begun-is_walk g size roots same are = record {
  size = sym same;
  needed = λ x h. let r = are.sound x (sym (is_in-with_marks [] roots x) ∙ h) in (0, root r.0 r.1);
  roots = λ x r. is_in-with_marks [] roots x ∙ are.whole x r;
  followed = λ y x h f. absurd (cc);
}

-- one more object was walked
take-more : (xs : List ℕ) (i y : ℕ) → slice_get xs i ≡ Some y → take (suc i) xs ≡ take i xs ++ y ∷ []
take-more [] i y e = absurd (cc)
take-more (x ∷ xs) zero y e = let q : x ≡ y = cc in ap (λ z. z ∷ []) q
take-more (x ∷ xs) (suc i) y e = ap (λ zs. x ∷ zs) (take-more xs i y e)

within : (xs : List ℕ) (i y : ℕ) → slice_get xs i ≡ Some y → i < length xs
within [] i y e = absurd (cc)
within (x ∷ xs) zero y e = omega arith
within (x ∷ xs) (suc i) y e = let h = within xs i y e in omega (arith, h)

abbrev pub walked_on : Marking → List ℕ → Marking
walked_on m targets = record m { marked = with_marks m.marked targets; walked = m.walked + 1 }

-- the objects that were walked: those before, and this one
walked_on-walked : (m : Marking) (targets : List ℕ) (y : ℕ) → next_in m ≡ Some y → take (m.walked + 1) (with_marks m.marked targets) ≡ take m.walked m.marked ++ y ∷ []
walked_on-walked m targets y at =
    let longer = with_marks-longer m.marked targets in
    let one : m.walked + 1 ≡ suc m.walked = omega arith in
    let low = within m.marked m.walked y at in
    let fits : suc m.walked ≤ length m.marked = omega (arith, low) in
    ap (λ n. take n (with_marks m.marked targets)) one ∙ (ap (take (suc m.walked)) longer.1 ∙ (take-append-le (suc m.walked) m.marked longer.0 fits ∙ take-more m.marked m.walked y at))

module _ (g : Graph) (m : Marking) (walk : IsWalk g m) (targets : List ℕ) (y : ℕ) (at : next_in m ≡ Some y) (are : AreNext g y targets) where
  y_needed : IsNeeded g y
  y_needed = walk.needed y (is_in-get m.marked m.walked y at)

  has : (x : ℕ) → is_in (with_marks m.marked targets) x ≡ is_in m.marked x || is_in targets x
  has x = is_in-with_marks m.marked targets x

  after_next : (x : ℕ) → Follows g y x → IsNeeded g x
  after_next x f = (suc y_needed.0, step y_needed.1 f.0 f.1 f.2)

  was_walked : (z : ℕ) → is_in (take (m.walked + 1) (with_marks m.marked targets)) z ≡ true → (is_in (take m.walked m.marked) z ≡ true) ⊎ (y ≡ z)
  was_walked z h =
      let e : is_in (take m.walked m.marked ++ y ∷ []) z ≡ true = sym (ap (λ xs. is_in xs z) (walked_on-walked m targets y at)) ∙ h in
      either (or_cases (is_in (take m.walked m.marked) z) (is_in (y ∷ []) z) (sym (list_any-append (λ w. nat_eq w z) (take m.walked m.marked) (y ∷ [])) ∙ e)) (λ q. inl q) (λ q. inr (only z q))
    where
      only : (z : ℕ) → is_in (y ∷ []) z ≡ true → y ≡ z
      only z q = either (or_cases (nat_eq y z) false q) (λ r. grind (arith, nat_tests, r)) (λ r. absurd (cc))

  pub walked_on-is_walk : IsWalk g (walked_on m targets)
  walked_on-is_walk = record {
    size = walk.size;
    needed = λ x h. either (or_cases (is_in m.marked x) (is_in targets x) (sym (has x) ∙ h)) (walk.needed x) (λ q. after_next x (are.sound x q));
    roots = λ x r. has x ∙ or_left (is_in m.marked x) (is_in targets x) (walk.roots x r);
    followed = λ z x h f. has x ∙ either (was_walked z h) (λ q. or_left (is_in m.marked x) (is_in targets x) (walk.followed z x q f)) (λ q. or_right (is_in m.marked x) (is_in targets x) (are.whole x (subst (λ w. Follows g w x) (sym q) f)));
  }

same_tests : (a b : Bool) → (a ≡ true → b ≡ true) → (b ≡ true → a ≡ true) → a ≡ b
same_tests true b f h = sym (f refl)
same_tests false true f h = h refl
same_tests false false f h = refl

-- in order
in_order-keeps : (m : Marking) (x : ℕ) → IsMarking m → is_in m.marked x ≡ true → is_in (in_order m).marked x ≡ true
in_order-keeps m x ok h =
    let low : x < m.size = All-is_in (λ x. x < m.size) m.marked x ok.inside h in
    let there = in_range m.size 0 x (omega arith) (omega (arith, low)) in
    is_in-filter (is_in m.marked) (range_with_len 0 m.size) x ∙ (cc)

in_order-only : (m : Marking) (x : ℕ) → is_in (in_order m).marked x ≡ true → is_in m.marked x ≡ true
in_order-only m x h = first (is_in m.marked x) (is_in (range_with_len 0 m.size) x) (sym (is_in-filter (is_in m.marked) (range_with_len 0 m.size) x) ∙ h)
  where
    first : (a b : Bool) → a && b ≡ true → a ≡ true
    first true b e = refl
    first false b e = absurd (cc)

pub in_order-same : (m : Marking) → IsMarking m → (x : ℕ) → is_in (in_order m).marked x ≡ is_in m.marked x
in_order-same m ok x = same_tests (is_in (in_order m).marked x) (is_in m.marked x) (in_order-only m x) (in_order-keeps m x ok)

taken : (n : ℕ) (xs : List ℕ) (x : ℕ) → is_in (take n xs) x ≡ true → is_in xs x ≡ true
taken zero xs x h = absurd (cc)
taken (suc n) [] x h = absurd (cc)
taken (suc n) (y ∷ xs) x h =
    either (or_cases (nat_eq y x) (is_in (take n xs) x) h) (λ e. or_left (nat_eq y x) (is_in xs x) e) (λ q. or_right (nat_eq y x) (is_in xs x) (taken n xs x q))

take-all : (xs : List ℕ) → take (length xs) xs ≡ xs
take-all [] = refl
take-all (x ∷ xs) = ap (λ ys. x ∷ ys) (take-all xs)

-- a walk in which each marked object was walked
module _ (g : Graph) (m : Marking) (walk : IsWalk g m) (ok : IsMarking m) (all : m.walked ≡ length m.marked) where
  all_walked : take m.walked m.marked ≡ m.marked
  all_walked = ap (λ n. take n m.marked) all ∙ take-all m.marked

  closed : (y x : ℕ) → is_in m.marked y ≡ true → Follows g y x → is_in m.marked x ≡ true
  closed y x h f = walk.followed y x (ap (λ xs. is_in xs y) all_walked ∙ h) f

  in_order-is_walk : IsWalk g (in_order m)
  in_order-is_walk = record {
    size = walk.size;
    needed = λ x h. walk.needed x (in_order-only m x h);
    roots = λ x r. in_order-keeps m x ok (walk.roots x r);
    followed = λ y x h f. in_order-keeps m x ok (closed y x (in_order-only m y (taken m.walked (in_order m).marked y h)) f);
  }

  chain_marked : {n x : ℕ} → EndsChain g n x → is_in m.marked x ≡ true
  chain_marked {x = x} (root low first) = walk.roots x (low, first)
  chain_marked {x = x} (step {y = y} before next low may) = closed y x (chain_marked before) (next, low, may)

  needed_are-marked : (x : ℕ) → is_in (needed_in g) x ≡ is_in m.marked x
  needed_are-marked x = same_tests (is_in (needed_in g) x) (is_in m.marked x) (λ h. chain_marked ((needed_in-are g).sound x h).1) (λ h. (needed_in-are g).whole x (walk.needed x h))

  kept_by : (n : ℕ) → (t : ℕ → Bool) × (ends_within g n ≡ filter t (numbers g))
  kept_by zero = (g.is_root, refl)
  kept_by (suc n) = (_, refl)

  -- the list of needed objects is the marked ones in order
  in_order-needed : (in_order m).marked ≡ needed_in g
  in_order-needed =
      let kept = kept_by g.size in
      let range : numbers g ≡ range_with_len 0 m.size = ap (range_with_len 0) (sym walk.size) in
      let agree : (x : ℕ) → is_in (numbers g) x ≡ true → is_in m.marked x ≡ kept.0 x =
      λ x h. sym (needed_are-marked x) ∙ (ap (λ xs. is_in xs x) kept.1 ∙ (is_in-filter kept.0 (numbers g) x ∙ right (kept.0 x) (is_in (numbers g) x) h)) in
      ap (filter (is_in m.marked)) (sym range) ∙ (filter-agree (is_in m.marked) kept.0 (numbers g) agree ∙ sym kept.1)
    where
      right : (a b : Bool) → b ≡ true → a && b ≡ a
      right true b h = h
      right false b h = refl

-- no more are marked than are needed
few : (g : Graph) (m : Marking) → IsWalk g m → IsDistinct nat_eq m.marked → length m.marked ≤ length (needed_in g)
few g m walk distinct =
    length-le_from_is_member nat_laws m.marked (needed_in g) distinct (λ x h. is_in-member (needed_in g) x ∙ (needed_in-are g).whole x (walk.needed x (sym (is_in-member m.marked x) ∙ h)))

-- the marks in order
range-rises : (n : ℕ) → IsStrictlyIncreasing (range_with_len 0 n)
range-rises n k h =
    let size : length (range_with_len 0 n) ≡ n = length-range_with_len 0 n in
    let here : get_or (range_with_len 0 n) k 0 ≡ 0 + k = get_or-range_with_len 0 n k 0 (omega (arith, h, size)) in
    let next : get_or (range_with_len 0 n) (k + 1) 0 ≡ 0 + (k + 1) = get_or-range_with_len 0 n (k + 1) 0 (omega (arith, h, size)) in
    omega (arith, here, next)

rising-distinct : (xs : List ℕ) → IsStrictlyIncreasing xs → IsDistinct nat_eq xs
rising-distinct xs rising =
    IsDistinct-from_apart nat_eq xs (λ i j d lt within. let h = below_from_sorted xs i j d (sorted_from_strictly_increasing xs rising) lt within in grind (arith, nat_tests))

in_order-distinct : (m : Marking) → IsDistinct nat_eq (in_order m).marked
in_order-distinct m =
    rising-distinct (in_order m).marked (IsStrictlyIncreasing-filter (is_in m.marked) (range_with_len 0 m.size) (range-rises m.size))

in_order-length : (m : Marking) → IsMarking m → length (in_order m).marked ≡ length m.marked
in_order-length m ok =
    let fewer : length (in_order m).marked ≤ length m.marked = length-le_from_is_member nat_laws (in_order m).marked m.marked (in_order-distinct m) (λ x h. is_in-member m.marked x ∙ in_order-only m x (sym (is_in-member (in_order m).marked x) ∙ h)) in
    let more : length m.marked ≤ length (in_order m).marked = length-le_from_is_member nat_laws m.marked (in_order m).marked ok.distinct (λ x h. is_in-member (in_order m).marked x ∙ in_order-keeps m x ok (sym (is_in-member m.marked x) ∙ h)) in
    omega (arith, fewer, more)

pub in_order-is_marking : (m : Marking) → IsMarking m → IsMarking (in_order m)
in_order-is_marking m ok = record {
  inside = All-from_is_in (λ x. x < m.size) (in_order m).marked (λ x h. All-is_in (λ x. x < m.size) m.marked x ok.inside (in_order-only m x h));
  distinct = in_order-distinct m;
  within = let same = in_order-length m ok in omega (arith, same, ok.within);
}

-- what a step does, where all was walked and where it was not
is_same : (a b : ℕ) → a ≡ b → (a == b) ≡ true
is_same a b e = grind (arith, nat_tests, e)

is_other : (a b : ℕ) → a ≢ b → (a == b) ≡ false
is_other a b e = grind (arith, nat_tests, e)

done_goes_on : (g : Graph) (n : Marking) → IsWalk g n → IsMarking n → n.walked ≡ length n.marked → GoesOn g (in_order n) Done
done_goes_on g n walk ok all =
    let needed = in_order-needed g n walk ok all in
    let count = ap length needed in
    let same = in_order-length n ok in
    record {
      walk = in_order-is_walk g n walk ok all;
      done = ((λ h. omega (arith, all, count, same)), (λ h. refl));
      needed = λ h. needed;
    }

more_goes_on : (g : Graph) (n : Marking) → IsWalk g n → IsMarking n → n.walked ≢ length n.marked → GoesOn g n More
more_goes_on g n walk ok more = record {
  walk = walk;
  done = ((λ h. absurd (cc)), (λ h. let less = few g n walk ok.distinct in let all : n.walked ≡ length n.marked = omega (arith, less, ok.within, h) in absurd (more all)));
  needed = λ h. absurd (cc);
}

module _ (old : Marking) (targets : List ℕ) (n : Marking) (is : n ≡ walked_on old targets) (ok : IsMarking n) where
  pub done-value : n.walked ≡ length n.marked → in_order n ≡ stepped old targets
  done-value all =
      ap (λ d. cond d (in_order n) n) (sym (is_same n.walked (length n.marked) all)) ∙ ap ordered_if_done is

  pub done-state : n.walked ≡ length n.marked → Done ≡ state_of (in_order n)
  done-state all =
      let same : n.walked ≡ length (in_order n).marked = all ∙ sym (in_order-length n ok) in
      ap (λ b. cond b Done More) (sym (is_same n.walked (length (in_order n).marked) same))

  pub more-value : n.walked ≢ length n.marked → n ≡ stepped old targets
  more-value more = ap (λ d. cond d (in_order n) n) (sym (is_other n.walked (length n.marked) more)) ∙ ap ordered_if_done is

  pub more-state : n.walked ≢ length n.marked → More ≡ state_of n
  more-state more = ap (λ b. cond b Done More) (sym (is_other n.walked (length n.marked) more))

  -- an object is left exactly where it is not done
  pub done-left : n.walked ≡ length n.marked → (Done ≡ More) ↔ ((in_order n).walked < length (in_order n).marked)
  done-left all =
      let same = in_order-length n ok in ((λ h. absurd (cc)), (λ h. absurd (omega (arith, h, all, same))))

  pub more-left : n.walked ≢ length n.marked → (More ≡ More) ↔ (n.walked < length n.marked)
  more-left more = ((λ h. let some = ok.within in omega (arith, some, more)), (λ h. refl))

  module _ (g : Graph) (y : ℕ) (walk : IsWalk g old) (at : next_in old ≡ Some y) (are : AreNext g y targets) where
    walks_on : IsWalk g n
    walks_on = subst (IsWalk g) (sym is) (walked_on-is_walk g old walk targets y at are)

    pub done-goes_on : n.walked ≡ length n.marked → GoesOn g (in_order n) Done
    done-goes_on all = done_goes_on g n walks_on ok all

    pub more-goes_on : n.walked ≢ length n.marked → GoesOn g n More
    more-goes_on more = more_goes_on g n walks_on ok more
