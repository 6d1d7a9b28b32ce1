-- Where no number leads to itself, each is settled after as many rounds as there are numbers.
use Rattle.std.proofs.Common.{◌≡◌, ◌∙◌, sym, ap, ℕ, zero, suc, ◌<◌, ◌≤◌, ◌+◌, Bool, true, false, ◌&&◌, ◌||◌, ◌⊎◌, inl, inr, eqb, if◌then◌else◌, List, [], ◌∷◌, length, Option, Some, None, slice_get, arith, refl}
use Rattle.std.proofs.lemmas.Map.Steps.{length-le_from_distinct_below}
use Rattle.std.specs.Prelude.{Contains}
use Rattle.std.specs.List.{IsDistinct, AllByRecursion, list_any, list_all}
use Rattle.c_types.specs.declared.parts.Ty.{Ty}
use Rattle.c_types.specs.declared.parts.Parts.{Parts}
use Rattle.c_types.specs.Chain.{Edges, Chain, one, more, is_settled, held_by}
use Rattle.c_types.specs.Recursion.{at_type, by_fuel, by_type, rounds_unsettled, depth, IsLocal}
use Rattle.c_types.proofs.Lists.{and_left, and_right}
use Rattle.c_types.proofs.Numbered.{and_both}
use Rattle.c_types.proofs.ChainLemmas.{same_number, or_cases}

or_false : (a b : Bool) → a || b ≡ false → (a ≡ false) × (b ≡ false)
or_false true b h = (h, cc)
or_false false b h = (refl, h)

none_equal : (t : ℕ) (xs : List ℕ) → list_any (eqb t) xs ≡ false → AllByRecursion (λ y. eqb t y ≡ false) xs
none_equal t [] h = tt
none_equal t (x ∷ xs) h = let both = or_false (eqb t x) (list_any (eqb t) xs) h in (both.0, none_equal t xs both.1)

not_all : (f : ℕ → Bool) (xs : List ℕ) → list_all f xs ≡ false → (u : ℕ) × Contains xs u × (f u ≡ false)
not_all f [] h = cc
not_all f (x ∷ xs) h = by_head (f x) refl h (not_all f xs)
  where
    by_head : (b : Bool) → f x ≡ b → b && list_all f xs ≡ false → (list_all f xs ≡ false → (u : ℕ) × Contains xs u × (f u ≡ false)) → (u : ℕ) × Contains (x ∷ xs) u × (f u ≡ false)
    by_head true e h rest = let r = rest h in (r.0, (suc r.1.0, omega (arith, r.1.1), r.1.2), r.2)
    by_head false e h rest = (x, (0, omega arith, refl), e)

pub all_at : (f : ℕ → Bool) (xs : List ℕ) (u : ℕ) → list_all f xs ≡ true → Contains xs u → f u ≡ true
all_at f [] u h c = absurd (omega (arith, c.1))
all_at f (x ∷ xs) u h (zero, w, c) = ap f (sym c) ∙ and_left (f x) (list_all f xs) h
all_at f (x ∷ xs) u h (suc k, w, c) = all_at f xs u (and_right (f x) (list_all f xs) h) (k, omega (arith, w), c)

module _ (edges : Edges) where
  -- edges one after another, by the numbers to which they lead
  data Trail : ℕ → List ℕ → Type 0 where
    ends : {t : ℕ} → Trail t []
    after : {t u : ℕ} {us : List ℕ} → Contains (edges t) u → Trail u us → Trail t (u ∷ us)

  trail_of : (n t : ℕ) → is_settled edges n t ≡ false → (us : List ℕ) × Trail t us × (length us ≡ n)
  trail_of zero t h = ([], ends, refl)
  trail_of (suc n) t h =
      let found = not_all (is_settled edges n) (edges t) h in
      let rest = trail_of n found.0 found.2 in
      (found.0 ∷ rest.0, after found.1 rest.1, ap suc rest.2)

  leads_to : {t : ℕ} {us : List ℕ} → Trail t us → (x : ℕ) → list_any (eqb x) us ≡ true → Chain edges t x
  leads_to ends x h = cc
  leads_to (after {t = t} {u = u} {us = us} c rest) x h = by_case (or_cases (eqb x u) (list_any (eqb x) us) h) (leads_to rest x)
    where
      by_case : (eqb x u ≡ true) ⊎ (list_any (eqb x) us ≡ true) → (list_any (eqb x) us ≡ true → Chain edges u x) → Chain edges t x
      by_case (inl e) rest = rw (same_number x u e) (one c)
      by_case (inr e) rest = more c (rest e)

  trail_below : (n : ℕ) → ((x y : ℕ) → Contains (edges x) y → y < n) → {t : ℕ} {us : List ℕ} → Trail t us → (q : ℕ) → list_any (eqb q) us ≡ true → q < n
  trail_below n bounded ends q h = cc
  trail_below n bounded (after {t = t} {u = u} {us = us} c rest) q h = by_case (or_cases (eqb q u) (list_any (eqb q) us) h) (trail_below n bounded rest q)
    where
      by_case : (eqb q u ≡ true) ⊎ (list_any (eqb q) us ≡ true) → (list_any (eqb q) us ≡ true → q < n) → q < n
      by_case (inl e) rest = rw (same_number q u e) (bounded t u c)
      by_case (inr e) rest = rest e

  loop_or_distinct : {t : ℕ} {us : List ℕ} → Trail t us → ((x : ℕ) × Chain edges x x) ⊎ IsDistinct eqb (t ∷ us)
  unfolding IsDistinct
  loop_or_distinct ends = inr (tt, tt)
  loop_or_distinct (after {t = t} {u = u} {us = us} c rest) = by_test (list_any (eqb t) (u ∷ us)) refl (loop_or_distinct rest)
    where
      by_test : (b : Bool) → list_any (eqb t) (u ∷ us) ≡ b → ((x : ℕ) × Chain edges x x) ⊎ IsDistinct eqb (u ∷ us) → ((x : ℕ) × Chain edges x x) ⊎ IsDistinct eqb (t ∷ (u ∷ us))
      by_test true e rests = inl (t, leads_to (after c rest) t e)
      by_test false e (inl loop) = inl loop
      by_test false e (inr d) = inr (none_equal t (u ∷ us) e, d)

  pub settled_all : (n : ℕ) → ((x y : ℕ) → Contains (edges x) y → y < n) → ((x : ℕ) → Chain edges x x → ⊥) → (t : ℕ) → t < n → is_settled edges n t ≡ true
  settled_all n bounded none t h = by_test (is_settled edges n t) refl
    where
      below : (us : List ℕ) → Trail t us → (q : ℕ) → list_any (eqb q) (t ∷ us) ≡ true → q < n
      below us trail q e = by_place (or_cases (eqb q t) (list_any (eqb q) us) e)
        where
          by_place : (eqb q t ≡ true) ⊎ (list_any (eqb q) us ≡ true) → q < n
          by_place (inl e) = rw (same_number q t e) h
          by_place (inr e) = trail_below n bounded trail q e

      by_case : (us : List ℕ) → Trail t us → length us ≡ n → ((x : ℕ) × Chain edges x x) ⊎ IsDistinct eqb (t ∷ us) → ⊥
      by_case us trail long (inl loop) = none loop.0 loop.1
      by_case us trail long (inr d) = let le = length-le_from_distinct_below (t ∷ us) n d (below us trail) in omega (arith, le, long)

      by_test : (b : Bool) → is_settled edges n t ≡ b → is_settled edges n t ≡ true
      by_test true e = e
      by_test false e = let trail = trail_of n t e in absurd (by_case trail.0 trail.1 trail.2 (loop_or_distinct trail.1))

  pub settled-edge : (n t u : ℕ) → is_settled edges (suc n) t ≡ true → Contains (edges t) u → is_settled edges n u ≡ true
  settled-edge n t u h c = all_at (is_settled edges n) (edges t) u h c

  all_more : (f g : ℕ → Bool) (xs : List ℕ) → ((u : ℕ) → f u ≡ true → g u ≡ true) → list_all f xs ≡ true → list_all g xs ≡ true
  all_more f g [] so h = refl
  all_more f g (x ∷ xs) so h = and_both (g x) (list_all g xs) (so x (and_left (f x) (list_all f xs) h)) (all_more f g xs so (and_right (f x) (list_all f xs) h))

  pub settled-more : (n t : ℕ) → is_settled edges n t ≡ true → is_settled edges (suc n) t ≡ true
  settled-more zero t h = cc
  settled-more (suc n) t h = all_more (is_settled edges n) (is_settled edges (suc n)) (edges t) (settled-more n) h

  one_more : (a b : Bool) (x y : ℕ) → (a ≡ true → b ≡ true) → x + 1 ≤ y → (if b then 0 else 1) + x + 1 ≤ (if a then 0 else 1) + y
  one_more true true x y h le = omega arith
  one_more true false x y h le = let e : false ≡ true = h refl in cc
  one_more false true x y h le = omega arith
  one_more false false x y h le = omega arith

  unsettled-edge : (n t u : ℕ) → Contains (edges t) u → rounds_unsettled edges n u + 1 ≤ rounds_unsettled edges (suc n) t
  unsettled-edge zero t u c = omega arith
  unsettled-edge (suc n) t u c =
      one_more (is_settled edges (suc n) t) (is_settled edges n u) (rounds_unsettled edges n u) (rounds_unsettled edges (suc n) t) (λ h. settled-edge n t u h c) (unsettled-edge n t u c)

  unsettled-falls : (n t u : ℕ) → is_settled edges n t ≡ true → Contains (edges t) u → rounds_unsettled edges n u < rounds_unsettled edges n t
  unsettled-falls zero t u h c = cc
  unsettled-falls (suc n) t u h c =
      let e : is_settled edges n u ≡ true = settled-edge n t u h c in
      let le : rounds_unsettled edges n u + 1 ≤ rounds_unsettled edges (suc n) t = unsettled-edge n t u c in
      same_when_settled (is_settled edges n u) (rounds_unsettled edges n u) (rounds_unsettled edges (suc n) t) e le
    where
      same_when_settled : (b : Bool) (x y : ℕ) → b ≡ true → x + 1 ≤ y → (if b then 0 else 1) + x < y
      same_when_settled true x y e le = omega arith
      same_when_settled false x y e le = cc

  unsettled-high : (n t : ℕ) → rounds_unsettled edges n t ≤ n
  unsettled-high zero t = omega arith
  unsettled-high (suc n) t = by_test (is_settled edges n t) (unsettled-high n t)
    where
      by_test : (b : Bool) → rounds_unsettled edges n t ≤ n → (if b then 0 else 1) + rounds_unsettled edges n t ≤ suc n
      by_test true le = omega arith
      by_test false le = omega arith

  unsettled-low : (n t : ℕ) → 0 < n → 1 ≤ rounds_unsettled edges n t
  unsettled-low zero t h = absurd (omega arith)
  unsettled-low (suc zero) t h = omega arith
  unsettled-low (suc (suc n)) t h = let rest = unsettled-low (suc n) t (omega arith) in omega (arith, rest)

pub depth-falls : (p : Parts) (t u : ℕ) → is_settled (held_by p) (length p.types) t ≡ true → Contains (held_by p t) u → depth p u < depth p t
depth-falls p t u h c = unsettled-falls (held_by p) (length p.types) t u h c

pub depth-high : (p : Parts) (t : ℕ) → depth p t ≤ length p.types
depth-high p t = unsettled-high (held_by p) (length p.types) t

pub depth-low : (p : Parts) (t u : ℕ) → t < length p.types → 1 ≤ depth p u
depth-low p t u h = unsettled-low (held_by p) (length p.types) u (omega arith)

-- a definition by recursion on types has its equation at each settled type
module _ {A : Type 0} (p : Parts) (step : (ℕ → A) → Ty → A) (other : A) (local : IsLocal p step) where
  same_step : (f g : ℕ → A) (t : ℕ) (o : Option Ty) → slice_get p.types t ≡ o → ((u : ℕ) → Contains (held_by p t) u → f u ≡ g u) → at_type (step f) other o ≡ at_type (step g) other o
  same_step f g t None e held = refl
  same_step f g t (Some ty) e held = local f g ty (λ u c. held u (rw e c))

  by_fuel-enough : (n m t : ℕ) → is_settled (held_by p) n t ≡ true → is_settled (held_by p) m t ≡ true → by_fuel p step other n t ≡ by_fuel p step other m t
  by_fuel-enough zero m t h k = cc
  by_fuel-enough (suc n) zero t h k = cc
  by_fuel-enough (suc n) (suc m) t h k =
      same_step (by_fuel p step other n) (by_fuel p step other m) t (slice_get p.types t) refl (λ u c. by_fuel-enough n m u (settled-edge (held_by p) n t u h c) (settled-edge (held_by p) m t u k c))

  pub by_type-is : (t : ℕ) → is_settled (held_by p) (length p.types) t ≡ true → by_type p step other t ≡ at_type (step (by_type p step other)) other (slice_get p.types t)
  by_type-is t h = by_fuel-enough (length p.types) (suc (length p.types)) t h (settled-more (held_by p) (length p.types) t h)
