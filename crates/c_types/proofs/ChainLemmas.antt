-- Chains against walks of so many edges.
use Rattle.std.proofs.Common.{◌≡◌, ◌∙◌, sym, ap, subst, ℕ, zero, suc, ◌<◌, ◌≤◌, Bool, true, false, ◌||◌, ◌⊎◌, inl, inr, eqb, nat_eq, List, [], ◌∷◌, length, arith, refl}
use Rattle.std.proofs.lemmas.Bool.Decides.{nat_tests}
use Rattle.std.proofs.lemmas.Map.Steps.{length-le_from_distinct_below}
use Rattle.std.specs.Prelude.{Contains}
use Rattle.std.specs.List.{IsDistinct, AllByRecursion, list_any}
use Rattle.c_types.specs.Chain.{Edges, Chain, one, more}
use Rattle.c_types.specs.Rounds.{reaches}

pub same_number : (a b : ℕ) → eqb a b ≡ true → a ≡ b
same_number a b e = grind (arith, nat_tests)

pub or_cases : (a b : Bool) → a || b ≡ true → (a ≡ true) ⊎ (b ≡ true)
or_cases true b h = inl refl
or_cases false b h = inr h

pub or_left : (a b : Bool) → a ≡ true → a || b ≡ true
or_left true b h = refl
or_left false b h = cc

pub or_right : (a b : Bool) → b ≡ true → a || b ≡ true
or_right true b h = refl
or_right false b h = h

or_false : (a b : Bool) → a || b ≡ false → (a ≡ false) × (b ≡ false)
or_false true b h = (h, cc)
or_false false b h = (refl, h)

pub list_any-of : (f : ℕ → Bool) (xs : List ℕ) (x : ℕ) → Contains xs x → f x ≡ true → list_any f xs ≡ true
list_any-of f [] x c h = absurd (omega (arith, c.1))
list_any-of f (y ∷ xs) x (zero, w, c) h = or_left (f y) (list_any f xs) (ap f c ∙ h)
list_any-of f (y ∷ xs) x (suc k, w, c) h = or_right (f y) (list_any f xs) (list_any-of f xs x (k, omega (arith, w), c) h)

pub list_any-some : (f : ℕ → Bool) (xs : List ℕ) → list_any f xs ≡ true → (x : ℕ) × Contains xs x × (f x ≡ true)
list_any-some f [] h = cc
list_any-some f (x ∷ xs) h = by_case (or_cases (f x) (list_any f xs) h) (list_any-some f xs)
  where
    by_case : (f x ≡ true) ⊎ (list_any f xs ≡ true) → (list_any f xs ≡ true → (u : ℕ) × Contains xs u × (f u ≡ true)) → (u : ℕ) × Contains (x ∷ xs) u × (f u ≡ true)
    by_case (inl e) rest = (x, (0, omega arith, refl), e)
    by_case (inr e) rest = let r = rest e in (r.0, (suc r.1.0, omega (arith, r.1.1), r.1.2), r.2)

module _ (edges : Edges) (t : ℕ) where
  -- what is reached has a chain
  pub chain_of-reaches : (k u : ℕ) → reaches edges (λ v. nat_eq v t) false k u ≡ true → Chain edges u t
  chain_of-reaches zero u h = cc
  chain_of-reaches (suc k) u h =
      let found = list_any-some (λ v. nat_eq v t || reaches edges (λ v. nat_eq v t) false k v) (edges u) h in
      by_case found.0 found.1 (or_cases _ _ found.2) (chain_of-reaches k found.0)
    where
      by_case : (v : ℕ) → Contains (edges u) v → (nat_eq v t ≡ true) ⊎ (reaches edges (λ v. nat_eq v t) false k v ≡ true) → (reaches edges (λ v. nat_eq v t) false k v ≡ true → Chain edges v t) → Chain edges u t
      by_case v c (inl e) rest = let q : v ≡ t = grind (arith, nat_tests) in one (let P : ℕ → Type 0 = λ x. Contains (edges u) x in subst P q c)
      by_case v c (inr e) rest = more c (rest e)

  pub reaches-more : (k u : ℕ) → reaches edges (λ v. nat_eq v t) false k u ≡ true → reaches edges (λ v. nat_eq v t) false (suc k) u ≡ true
  reaches-more zero u h = cc
  reaches-more (suc k) u h =
      let found = list_any-some (λ v. nat_eq v t || reaches edges (λ v. nat_eq v t) false k v) (edges u) h in
      list_any-of (λ v. nat_eq v t || reaches edges (λ v. nat_eq v t) false (suc k) v) (edges u) found.0 found.1 (by_case found.0 (or_cases _ _ found.2) (reaches-more k found.0))
    where
      by_case : (v : ℕ) → (nat_eq v t ≡ true) ⊎ (reaches edges (λ v. nat_eq v t) false k v ≡ true) → (reaches edges (λ v. nat_eq v t) false k v ≡ true → reaches edges (λ v. nat_eq v t) false (suc k) v ≡ true) → nat_eq v t || reaches edges (λ v. nat_eq v t) false (suc k) v ≡ true
      by_case v (inl e) rest = or_left _ _ e
      by_case v (inr e) rest = or_right _ _ (rest e)

  pub reaches-within : (n k u : ℕ) → k ≤ n → reaches edges (λ v. nat_eq v t) false k u ≡ true → reaches edges (λ v. nat_eq v t) false n u ≡ true
  reaches-within zero k u le h = let z : k ≡ 0 = omega arith in absurd (let e : false ≡ true = ap (λ k. reaches edges (λ v. nat_eq v t) false k u) (sym z) ∙ h in cc)
  reaches-within (suc n) zero u le h = cc
  reaches-within (suc n) (suc k) u le h = by_case (at_most k n (omega arith)) (reaches-within n (suc k) u)
    where
      at_most : (a b : ℕ) → a ≤ b → (a ≡ b) ⊎ (suc a ≤ b)
      at_most zero zero h = inl refl
      at_most zero (suc b) h = inr (omega arith)
      at_most (suc a) zero h = absurd (omega arith)
      at_most (suc a) (suc b) h = elim (at_most a b (omega arith)) [ inl e ↦ inl (ap suc e) | inr l ↦ inr (omega arith) ]

      by_case : (k ≡ n) ⊎ (suc k ≤ n) → (suc k ≤ n → reaches edges (λ v. nat_eq v t) false (suc k) u ≡ true → reaches edges (λ v. nat_eq v t) false n u ≡ true) → reaches edges (λ v. nat_eq v t) false (suc n) u ≡ true
      by_case (inl e) rest = ap (λ m. reaches edges (λ v. nat_eq v t) false (suc m) u) (sym e) ∙ h
      by_case (inr l) rest = reaches-more n u (rest l h)

  -- a walk to t, by the numbers from which it goes on
  data Walk : List ℕ → Type 0 where
    last : {u : ℕ} → Contains (edges u) t → Walk (u ∷ [])
    step : {u v : ℕ} {us : List ℕ} → Contains (edges u) v → Walk (v ∷ us) → Walk (u ∷ (v ∷ us))

  record Simple (u : ℕ) : Type 0 where
    pub after : List ℕ
    pub walk : Walk (u ∷ after)
    pub distinct : IsDistinct eqb (u ∷ after)

  reaches-walk : {u : ℕ} {us : List ℕ} → Walk (u ∷ us) → reaches edges (λ v. nat_eq v t) false (length (u ∷ us)) u ≡ true
  reaches-walk (last {u = u} c) = list_any-of (λ v. nat_eq v t || false) (edges u) t c (or_left (nat_eq t t) false (grind (arith, nat_tests)))
  reaches-walk (step {u = u} {v = v} {us = us} c rest) =
      list_any-of (λ x. nat_eq x t || reaches edges (λ v. nat_eq v t) false (length (v ∷ us)) x) (edges u) v c (or_right (nat_eq v t) _ (reaches-walk rest))

  -- the part of a walk from one of its numbers on
  cut : {xs : List ℕ} → Walk xs → IsDistinct eqb xs → (u : ℕ) → list_any (eqb u) xs ≡ true → Simple u
  unfolding IsDistinct
  cut (last {u = x} c) d u h = by_case (or_cases (eqb u x) false h)
    where
      by_case : (eqb u x ≡ true) ⊎ (false ≡ true) → Simple u
      by_case (inl e) = let q = same_number u x e in let P : ℕ → Type 0 = λ y. Simple y in subst P (sym q) (record { after = []; walk = last c; distinct = d })
      by_case (inr e) = absurd (cc)
  cut (step {u = x} {v = v} {us = us} c rest) d u h = by_case (or_cases (eqb u x) (list_any (eqb u) (v ∷ us)) h) (cut rest d.1 u)
    where
      by_case : (eqb u x ≡ true) ⊎ (list_any (eqb u) (v ∷ us) ≡ true) → (list_any (eqb u) (v ∷ us) ≡ true → Simple u) → Simple u
      by_case (inl e) later = let q = same_number u x e in let P : ℕ → Type 0 = λ y. Simple y in subst P (sym q) (record { after = v ∷ us; walk = step c rest; distinct = d })
      by_case (inr e) later = later e

  none_equal : (u : ℕ) (xs : List ℕ) → list_any (eqb u) xs ≡ false → AllByRecursion (λ y. eqb u y ≡ false) xs
  none_equal u [] h = tt
  none_equal u (x ∷ xs) h = let both = or_false (eqb u x) (list_any (eqb u) xs) h in (both.0, none_equal u xs both.1)

  simple_of : {u v : ℕ} → v ≡ t → Chain edges u v → Simple u
  unfolding IsDistinct
  simple_of {u} e (one {u = v} c) = let P : ℕ → Type 0 = λ x. Contains (edges u) x in record { after = []; walk = last (subst P e c); distinct = (tt, tt) }
  simple_of {u} e (more {u = m} c rest) = by_test (simple_of e rest) (list_any (eqb u) (m ∷ (simple_of e rest).after)) refl
    where
      by_test : (s : Simple m) (b : Bool) → list_any (eqb u) (m ∷ s.after) ≡ b → Simple u
      by_test s true h = cut s.walk s.distinct u h
      by_test s false h = record { after = m ∷ s.after; walk = step c s.walk; distinct = (none_equal u (m ∷ s.after) h, s.distinct) }

  walk_below : (n : ℕ) → ((x y : ℕ) → Contains (edges x) y → y < n) → {u : ℕ} {us : List ℕ} → u < n → Walk (u ∷ us) → (q : ℕ) → list_any (eqb q) (u ∷ us) ≡ true → q < n
  walk_below n bounded {u} lt (last c) q h = by_case (or_cases (eqb q u) false h)
    where
      by_case : (eqb q u ≡ true) ⊎ (false ≡ true) → q < n
      by_case (inl e) = rw (same_number q u e) lt
      by_case (inr e) = absurd (cc)
  walk_below n bounded {u} lt (step {v = v} {us = us} c rest) q h = by_case (or_cases (eqb q u) (list_any (eqb q) (v ∷ us)) h) (walk_below n bounded (bounded u v c) rest q)
    where
      by_case : (eqb q u ≡ true) ⊎ (list_any (eqb q) (v ∷ us) ≡ true) → (list_any (eqb q) (v ∷ us) ≡ true → q < n) → q < n
      by_case (inl e) later = rw (same_number q u e) lt
      by_case (inr e) later = later e

  -- a chain is found in as many steps as there are numbers
  pub reaches-chain : (n u : ℕ) → ((x y : ℕ) → Contains (edges x) y → y < n) → u < n → Chain edges u t → reaches edges (λ v. nat_eq v t) false n u ≡ true
  reaches-chain n u bounded lt c =
      let s = simple_of {v = t} refl c in
      let le = length-le_from_distinct_below (u ∷ s.after) n s.distinct (walk_below n bounded lt s.walk) in
      reaches-within n (length (u ∷ s.after)) u le (reaches-walk s.walk)

-- from a number that has a chain to itself, chains are as long as one likes
pub reaches-long : (edges : Edges) (k : ℕ) {t u : ℕ} → Chain edges t u → Chain edges u u → reaches edges (λ v. false) true k t ≡ true
reaches-long edges zero c d = refl
reaches-long edges (suc k) {t} (one {u = u} c) d = list_any-of (λ v. false || reaches edges (λ v. false) true k v) (edges t) u c (reaches-long edges k d d)
reaches-long edges (suc k) {t} (more {u = m} c rest) d = list_any-of (λ v. false || reaches edges (λ v. false) true k v) (edges t) m c (reaches-long edges k rest d)
