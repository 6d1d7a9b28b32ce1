-- The list of needed objects has exactly the ends of chains.
use Rattle.std.proofs.Common.{◌≡◌, ◌⊎◌, inl, inr, refl, ap, sym, subst, ℕ, zero, suc, ◌+◌, ◌<◌, ◌≤◌, Bool, true, false, ◌&&◌, ◌||◌, nat_eq, List, [], ◌∷◌, ◌++◌, length, get_or, arith}
use Rattle.std.specs.Prelude.{cond, filter, flat_map}
use Rattle.std.specs.List.{range_with_len}
use Rattle.std.specs.List.Sorted.{IsStrictlyIncreasing}
use Rattle.std.proofs.lemmas.List.Kept.{IsStrictlyIncreasing-filter}
use Rattle.std.proofs.lemmas.List.FromFn.{length-range_with_len, get_or-range_with_len}
use Rattle.std.proofs.lemmas.Bool.Decides.{nat_tests}
use Rattle.c_types.proofs.ChainLemmas.{or_cases, or_left, or_right}
use Rattle.lu_image_store.specs.Versions.{Versions}
use Rattle.lu_image_store.specs.Needed.{Graph, EndsChain, root, step, IsNeeded, AreNeeded, is_in, numbers, one_further, ends_within, needed_in, graph_of, needed_objects}
use Rattle.src_tree.specs.declared.value.Store.{Store}

abbrev Has : List ℕ → ℕ → Type 0
Has xs x = is_in xs x ≡ true

and_both : (a b : Bool) → a && b ≡ true → (a ≡ true) × (b ≡ true)
and_both true true e = (refl, refl)
and_both true false e = absurd (cc)
and_both false b e = absurd (cc)

and_of : (a b : Bool) → a ≡ true → b ≡ true → a && b ≡ true
and_of a b e h = cc

either : {A B C : Type 0} → A ⊎ B → (A → C) → (B → C) → C
either (inl a) f g = f a
either (inr b) f g = g b

-- lists of numbers
has_append : (xs ys : List ℕ) (x : ℕ) → Has (xs ++ ys) x → Has xs x ⊎ Has ys x
has_append [] ys x h = inr h
has_append (y ∷ xs) ys x h =
    either (or_cases (nat_eq y x) (is_in (xs ++ ys) x) h) (λ e. inl (or_left (nat_eq y x) (is_in xs x) e)) (λ q. either (has_append xs ys x q) (λ r. inl (or_right (nat_eq y x) (is_in xs x) r)) (λ r. inr r))

has_left : (xs ys : List ℕ) (x : ℕ) → Has xs x → Has (xs ++ ys) x
has_left [] ys x h = absurd (cc)
has_left (y ∷ xs) ys x h =
    either (or_cases (nat_eq y x) (is_in xs x) h) (λ e. or_left (nat_eq y x) (is_in (xs ++ ys) x) e) (λ q. or_right (nat_eq y x) (is_in (xs ++ ys) x) (has_left xs ys x q))

has_right : (xs ys : List ℕ) (x : ℕ) → Has ys x → Has (xs ++ ys) x
has_right [] ys x h = h
has_right (y ∷ xs) ys x h = or_right (nat_eq y x) (is_in (xs ++ ys) x) (has_right xs ys x h)

same_as_self : (x : ℕ) → nat_eq x x ≡ true
same_as_self x = grind (arith, nat_tests)

same_of : (x y : ℕ) → nat_eq x y ≡ true → x ≡ y
same_of x y e = grind (arith, nat_tests)

-- an element of the lists of all
from_flat : (f : ℕ → List ℕ) (ys : List ℕ) (x : ℕ) → Has (flat_map f ys) x → (y : ℕ) × Has ys y × Has (f y) x
from_flat f [] x h = absurd (cc)
from_flat f (y ∷ ys) x h =
    either (has_append (f y) (flat_map f ys) x h) (λ q. (y, or_left (nat_eq y y) (is_in ys y) (same_as_self y), q)) (λ q. let r = from_flat f ys x q in (r.0, or_right (nat_eq y r.0) (is_in ys r.0) r.1, r.2))

to_flat : (f : ℕ → List ℕ) (ys : List ℕ) (x y : ℕ) → Has ys y → Has (f y) x → Has (flat_map f ys) x
to_flat f [] x y h q = absurd (cc)
to_flat f (z ∷ ys) x y h q =
    either (or_cases (nat_eq z y) (is_in ys y) h) (λ e. let P : ℕ → Type 0 = λ w. Has (f w) x in has_left (f z) (flat_map f ys) x (subst P (sym (same_of z y e)) q)) (λ r. has_right (f z) (flat_map f ys) x (to_flat f ys x y r q))

-- what a test keeps
from_kept : (p : ℕ → Bool) (y : ℕ) (xs : List ℕ) (x : ℕ) → (Has (filter p xs) x → Has xs x × (p x ≡ true)) → (b : Bool) → p y ≡ b → Has (cond b (y ∷ filter p xs) (filter p xs)) x → Has (y ∷ xs) x × (p x ≡ true)
from_kept p y xs x later false e h = let r = later h in (or_right (nat_eq y x) (is_in xs x) r.0, r.1)
from_kept p y xs x later true e h =
    either (or_cases (nat_eq y x) (is_in (filter p xs) x) h) (λ d. (or_left (nat_eq y x) (is_in xs x) d, subst (λ w. p w ≡ true) (same_of y x d) e)) (λ q. let r = later q in (or_right (nat_eq y x) (is_in xs x) r.0, r.1))

from_filter : (p : ℕ → Bool) (xs : List ℕ) (x : ℕ) → Has (filter p xs) x → Has xs x × (p x ≡ true)
from_filter p [] x h = absurd (cc)
from_filter p (y ∷ xs) x h = from_kept p y xs x (from_filter p xs x) (p y) refl h

to_kept : (p : ℕ → Bool) (y : ℕ) (xs : List ℕ) (x : ℕ) → p x ≡ true → (Has xs x → Has (filter p xs) x) → (b : Bool) → p y ≡ b → Has (y ∷ xs) x → Has (cond b (y ∷ filter p xs) (filter p xs)) x
to_kept p y xs x e later true d h =
    either (or_cases (nat_eq y x) (is_in xs x) h) (λ q. or_left (nat_eq y x) (is_in (filter p xs) x) q) (λ q. or_right (nat_eq y x) (is_in (filter p xs) x) (later q))
to_kept p y xs x e later false d h =
    either (or_cases (nat_eq y x) (is_in xs x) h) (λ q. let no : p x ≡ false = subst (λ w. p w ≡ false) (same_of y x q) d in absurd (cc)) later

to_filter : (p : ℕ → Bool) (xs : List ℕ) (x : ℕ) → Has xs x → p x ≡ true → Has (filter p xs) x
to_filter p [] x h e = absurd (cc)
to_filter p (y ∷ xs) x h e = to_kept p y xs x e (λ q. to_filter p xs x q e) (p y) refl h

-- a weaker test keeps the same, or more
abbrev Grows : List ℕ → List ℕ → Type 0
Grows xs ys = (xs ≡ ys) ⊎ (length xs < length ys)

grow_by : (y : ℕ) (xs ys : List ℕ) (a b : Bool) → (a ≡ true → b ≡ true) → Grows xs ys → Grows (cond a (y ∷ xs) xs) (cond b (y ∷ ys) ys)
grow_by y xs ys true true h (inl e) = inl (ap (λ zs. y ∷ zs) e)
grow_by y xs ys true true h (inr l) = inr (omega (arith, l))
grow_by y xs ys true false h g = absurd (let e : false ≡ true = h refl in cc)
grow_by y xs ys false true h (inl e) = inr (let q : length xs ≡ length ys = ap length e in omega (arith, q))
grow_by y xs ys false true h (inr l) = inr (omega (arith, l))
grow_by y xs ys false false h g = g

filter-grows : (p q : ℕ → Bool) (xs : List ℕ) → ((x : ℕ) → Has xs x → p x ≡ true → q x ≡ true) → Grows (filter p xs) (filter q xs)
filter-grows p q [] weaker = inl refl
filter-grows p q (y ∷ xs) weaker =
    grow_by y (filter p xs) (filter q xs) (p y) (q y) (weaker y (or_left (nat_eq y y) (is_in xs y) (same_as_self y))) (filter-grows p q xs (λ x h. weaker x (or_right (nat_eq y x) (is_in xs x) h)))

-- the numbers below a bound
in_later : (a n x : ℕ) → a ≤ x → (suc a ≤ x → Has (range_with_len (a + 1) n) x) → (b : Bool) → nat_eq a x ≡ b → Has (range_with_len a (suc n)) x
in_later a n x low later true e = or_left (nat_eq a x) (is_in (range_with_len (a + 1) n) x) e
in_later a n x low later false e =
    let next : suc a ≤ x = grind (arith, nat_tests, low, e) in or_right (nat_eq a x) (is_in (range_with_len (a + 1) n) x) (later next)

in_range : (n a x : ℕ) → a ≤ x → x < a + n → Has (range_with_len a n) x
in_range zero a x low high = absurd (omega (arith, low, high))
in_range (suc n) a x low high =
    in_later a n x low (λ next. in_range n (a + 1) x (omega (arith, next)) (omega (arith, high))) (nat_eq a x) refl

from_range : (n a x : ℕ) → Has (range_with_len a n) x → x < a + n
from_range zero a x h = absurd (cc)
from_range (suc n) a x h =
    either (or_cases (nat_eq a x) (is_in (range_with_len (a + 1) n) x) h) (λ e. let same : a ≡ x = same_of a x e in omega (arith, same)) (λ q. let r = from_range n (a + 1) x q in omega (arith, r))

range-rises : (n : ℕ) → IsStrictlyIncreasing (range_with_len 0 n)
range-rises n k h =
    let size : length (range_with_len 0 n) ≡ n = length-range_with_len 0 n in
    let here : get_or (range_with_len 0 n) k 0 ≡ 0 + k = get_or-range_with_len 0 n k 0 (omega (arith, h, size)) in
    let next : get_or (range_with_len 0 n) (k + 1) 0 ≡ 0 + (k + 1) = get_or-range_with_len 0 n (k + 1) 0 (omega (arith, h, size)) in
    omega (arith, here, next)

kept_short : (y : ℕ) (xs ys : List ℕ) (b : Bool) → length xs ≤ length ys → length (cond b (y ∷ xs) xs) ≤ suc (length ys)
kept_short y xs ys true h = omega (arith, h)
kept_short y xs ys false h = omega (arith, h)

filter-short : (p : ℕ → Bool) (xs : List ℕ) → length (filter p xs) ≤ length xs
filter-short p [] = omega arith
filter-short p (y ∷ xs) = let h = kept_short y (filter p xs) xs (p y) (filter-short p xs) in omega (arith, h)

module _ (g : Graph) where
  abbrev ends : ℕ → List ℕ
  ends = ends_within g

  abbrev follows : List ℕ → ℕ → Bool
  follows found x = is_in found x || (g.may_follow x && is_in (flat_map g.next found) x)

  within_size : (n x : ℕ) → Has (ends n) x → x < g.size
  within_size zero x h = let r = from_range g.size 0 x (from_filter g.is_root (numbers g) x h).0 in omega (arith, r)
  within_size (suc n) x h = let r = from_range g.size 0 x (from_filter (follows (ends n)) (numbers g) x h).0 in omega (arith, r)

  -- each is the end of a chain
  ends-sound : (n x : ℕ) → Has (ends n) x → IsNeeded g x
  ends-sound zero x h = (0, root (within_size 0 x h) (from_filter g.is_root (numbers g) x h).1)
  ends-sound (suc n) x h =
      either (or_cases (is_in (ends n) x) (g.may_follow x && is_in (flat_map g.next (ends n)) x) (from_filter (follows (ends n)) (numbers g) x h).1) (ends-sound n x) (λ e. let both = and_both (g.may_follow x) (is_in (flat_map g.next (ends n)) x) e in let from = from_flat g.next (ends n) x both.1 in let before = ends-sound n from.0 from.1 in (suc before.0, step before.1 from.2 (within_size (suc n) x h) both.0))

  -- more steps find the same, or more
  ends-grow : (n : ℕ) → Grows (ends n) (ends (suc n))
  ends-grow zero = filter-grows g.is_root (follows (ends 0)) (numbers g) (λ x h e. or_left (is_in (ends 0) x) _ (to_filter g.is_root (numbers g) x h e))
  ends-grow (suc n) =
      filter-grows (follows (ends n)) (follows (ends (suc n))) (numbers g) (λ x h e. or_left (is_in (ends (suc n)) x) _ (to_filter (follows (ends n)) (numbers g) x h e))

  -- until nothing more is found, each step finds one more at least
  settles : (n : ℕ) → (ends n ≡ ends (suc n)) ⊎ (n ≤ length (ends n))
  settles zero = inr (omega arith)
  settles (suc n) =
      either (settles n) (λ e. inl (ap (one_further g) e)) (λ l. either (ends-grow n) (λ e. inl (ap (one_further g) e)) (λ more. inr (omega (arith, l, more))))

  ends-short : (n : ℕ) → length (ends (suc n)) ≤ g.size
  ends-short n =
      let size : length (range_with_len 0 g.size) ≡ g.size = length-range_with_len 0 g.size in
      let short : length (filter (follows (ends n)) (numbers g)) ≤ length (numbers g) = filter-short (follows (ends n)) (numbers g) in
      omega (arith, size, short)

  -- after as many steps as there are objects nothing more is found
  settled : ends g.size ≡ ends (suc g.size)
  settled =
      either (settles g.size) (λ e. e) (λ l. either (ends-grow g.size) (λ e. e) (λ more. let short : length (ends (suc g.size)) ≤ g.size = ends-short g.size in absurd (omega (arith, l, more, short))))

  started : (n x : ℕ) → Has (ends 0) x → Has (ends n) x
  started zero x h = h
  started (suc n) x h =
      let before = started n x h in
      let low : x < g.size = within_size n x before in
      to_filter (follows (ends n)) (numbers g) x (in_range g.size 0 x (omega arith) (omega (arith, low))) (or_left (is_in (ends n) x) _ before)

  -- each end of a chain is there
  ends-whole : {n x : ℕ} → EndsChain g n x → Has (ends g.size) x
  ends-whole {x = x} (root low first) =
      started g.size x (to_filter g.is_root (numbers g) x (in_range g.size 0 x (omega arith) (omega (arith, low))) first)
  ends-whole {x = x} (step {y = y} before next low may) =
      let there = ends-whole before in
      let found = to_flat g.next (ends g.size) x y there next in
      let kept = to_filter (follows (ends g.size)) (numbers g) x (in_range g.size 0 x (omega arith) (omega (arith, low))) (or_right (is_in (ends g.size) x) _ (and_of (g.may_follow x) (is_in (flat_map g.next (ends g.size)) x) may found)) in
      subst (λ xs. Has xs x) (sym settled) kept

  ends-rise : (n : ℕ) → IsStrictlyIncreasing (ends n)
  ends-rise zero = IsStrictlyIncreasing-filter g.is_root (numbers g) (range-rises g.size)
  ends-rise (suc n) = IsStrictlyIncreasing-filter (follows (ends n)) (numbers g) (range-rises g.size)

  pub needed_in-are : AreNeeded g (needed_in g)
  needed_in-are = record {
    rising = ends-rise g.size;
    sound = ends-sound g.size;
    whole = λ x needed. ends-whole needed.1;
  }

-- the needed objects of a store
pub needed_objects-are : (m : Versions) (store : Store) → AreNeeded (graph_of m store) (needed_objects m store)
needed_objects-are m store = needed_in-are (graph_of m store)
