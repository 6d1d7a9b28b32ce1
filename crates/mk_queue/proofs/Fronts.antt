-- What an arrival and a removal leave of the first messages.
use Rattle.std.proofs.Common.{◌≡◌, ◌<◌, ◌⊎◌, inl, inr, ℕ, ℤ, zero, suc, ◌+◌, ◌-◌, Bool, true, false, true≢false, ◌||◌, if◌then◌else◌, map, List, [], ◌∷◌, ◌++◌, length, drop, Option, Some, None, refl, sym, ◌∙◌, ap, subst, arith}
use Rattle.std.specs.Prelude.{option_map, remove}
use Rattle.std.specs.Ordering.{int_eq}
use Rattle.std.proofs.lemmas.Bool.Decides.{Decides-int_eq, nat_tests}
use Rattle.std.proofs.lemmas.Bool.{cases_order}
use Rattle.lu_base.specs.declared.message.Message.{Message}
use Rattle.mk_queue.specs.declared.front.Front.{Front}
use Rattle.mk_queue.specs.Fronts.{first_of, first_behind, has_front, AreRight, AreFronts, arrived, or_first, left, first_left, with_front}

-- ---- one more message

abbrev first_after : Option ℕ → ℕ → Bool → Option ℕ
first_after None place same = if same then Some place else None
first_after (Some i) place same = Some i

later : (o : Option ℕ) (place : ℕ) (same : Bool) → option_map (λ i. suc i) (first_after o place same) ≡ first_after (option_map (λ i. suc i) o) (suc place) same
later None place true = refl
later None place false = refl
later (Some i) place same = refl

first_push_step : (t : Bool) (o : Option ℕ) (place : ℕ) (same : Bool) (p : Option ℕ) → p ≡ first_after o place same
    → (if t then Some 0 else option_map (λ i. suc i) p) ≡ first_after (if t then Some 0 else option_map (λ i. suc i) o) (suc place) same
first_push_step true o place same p e = refl
first_push_step false o place same p e = ap (option_map (λ i. suc i)) e ∙ later o place same

first_push : (ms : List Message) (m : Message) (source : ℤ) → first_of (ms ++ m ∷ []) source ≡ first_after (first_of ms source) (length ms) (int_eq m.source source)
first_push [] m source = refl
first_push (n ∷ ms) m source = first_push_step (int_eq n.source source) (first_of ms source) (length ms) (int_eq m.source source) _ (first_push ms m source)

int_eq-sym : (a b : ℤ) (t : Bool) → int_eq a b ≡ t → int_eq b a ≡ t
int_eq-sym a b true e = (Decides-int_eq b a).1 (sym ((Decides-int_eq a b).0 e))
int_eq-sym a b false e = other (int_eq b a) refl
  where
    other : (u : Bool) → int_eq b a ≡ u → int_eq b a ≡ false
    other true f = absurd (true≢false (sym ((Decides-int_eq a b).1 (sym ((Decides-int_eq b a).0 f))) ∙ e))
    other false f = f

arrived_first : (o : Option ℕ) (place : ℕ) → or_first o place ≡ first_after o place true
arrived_first None place = refl
arrived_first (Some i) place = refl

other_first : (o : Option ℕ) (place : ℕ) → o ≡ first_after o place false
other_first None place = refl
other_first (Some i) place = refl

one_arrived : (ms : List Message) (m : Message) (f : Front) (t : Bool) → int_eq f.source m.source ≡ t → f.first ≡ first_of ms f.source
    → (if t then record { source = f.source; first = or_first f.first (length ms) } else f).first ≡ first_after (first_of ms f.source) (length ms) (int_eq m.source f.source)
one_arrived ms m f true e right = rw (int_eq-sym f.source m.source true e, right) (arrived_first (first_of ms f.source) (length ms))
one_arrived ms m f false e right = rw (int_eq-sym f.source m.source false e, right) (other_first (first_of ms f.source) (length ms))

-- each keeps its source
same_sources : (g : Front → Front) → ((f : Front) → (g f).source ≡ f.source) → (fs : List Front) (source : ℤ) → has_front (map g fs) source ≡ has_front fs source
same_sources g same [] source = refl
same_sources g same (f ∷ fs) source = rw (same f, same_sources g same fs source) refl

arrived_source : (source : ℤ) (place : ℕ) (f : Front) → (arrived source place f).source ≡ f.source
arrived_source source place f = step (int_eq f.source source)
  where
    step : (t : Bool) → (if t then record { source = f.source; first = or_first f.first place } else f).source ≡ f.source
    step true = refl
    step false = refl

all_arrived : (ms : List Message) (m : Message) (fs : List Front) → AreRight ms fs → AreRight (ms ++ m ∷ []) (map (arrived m.source (length ms)) fs)
all_arrived ms m [] right = tt
all_arrived ms m (f ∷ fs) (here, rest) = (now, all_arrived ms m fs rest)
  where
    now : (arrived m.source (length ms) f).first ≡ first_of (ms ++ m ∷ []) (arrived m.source (length ms) f).source
    now = one_arrived ms m f (int_eq f.source m.source) refl here ∙ sym (first_push ms m f.source) ∙ ap (first_of (ms ++ m ∷ [])) (sym (arrived_source m.source (length ms) f))

has_at : (fs : List Front) (a b : ℤ) → has_front fs a ≡ true → int_eq a b ≡ true → has_front fs b ≡ true
has_at fs a b h e = subst (λ s. has_front fs s ≡ true) ((Decides-int_eq a b).0 e) h

pub are_after_arrival : (ms : List Message) (m : Message) (fs : List Front) → AreFronts ms fs → has_front fs m.source ≡ true
    → AreFronts (ms ++ m ∷ []) (map (arrived m.source (length ms)) fs)
are_after_arrival ms m fs are has = record { right = all_arrived ms m fs are.right; whole = whole }
  where
    whole : (source : ℤ) → has_front (map (arrived m.source (length ms)) fs) source ≡ false → first_of (ms ++ m ∷ []) source ≡ None
    whole source none = step (int_eq m.source source) refl
      where
        none_before : has_front fs source ≡ false
        none_before = sym (same_sources (arrived m.source (length ms)) (arrived_source m.source (length ms)) fs source) ∙ none

        step : (t : Bool) → int_eq m.source source ≡ t → first_of (ms ++ m ∷ []) source ≡ None
        step true e = absurd (true≢false (sym (has_at fs m.source source has e) ∙ none_before))
        step false e = first_push ms m source ∙ ap (first_after (first_of ms source) (length ms)) e ∙ ap (λ o. first_after o (length ms) false) (are.whole source none_before)

-- ---- one more source

pub has_made : (fs : List Front) (source : ℤ) → has_front (with_front fs source) source ≡ true
has_made fs source = step (has_front fs source) refl
  where
    behind : (gs : List Front) → has_front (gs ++ record { source = source; first = None } ∷ []) source ≡ true
    behind [] = ap (λ t. t || false) ((Decides-int_eq source source).1 refl)
    behind (g ∷ gs) = or_true (int_eq g.source source) (behind gs)
      where
        or_true : (a : Bool) {b : Bool} → b ≡ true → (a || b) ≡ true
        or_true true e = refl
        or_true false e = e

    step : (t : Bool) → has_front fs source ≡ t → has_front (if t then fs else fs ++ record { source = source; first = None } ∷ []) source ≡ true
    step true e = e
    step false e = behind fs

pub are_after_made : (ms : List Message) (fs : List Front) (source : ℤ) → AreFronts ms fs → AreFronts ms (with_front fs source)
are_after_made ms fs source are = step (has_front fs source) refl
  where
    made : Front
    made = record { source = source; first = None }

    right : None ≡ first_of ms source → (gs : List Front) → AreRight ms gs → AreRight ms (gs ++ record { source = source; first = None } ∷ [])
    right e [] r = (e, tt)
    right e (g ∷ gs) (here, rest) = (here, right e gs rest)

    fewer : (s : ℤ) (gs : List Front) → has_front (gs ++ record { source = source; first = None } ∷ []) s ≡ false → has_front gs s ≡ false
    fewer s [] e = refl
    fewer s (g ∷ gs) e = or_false (int_eq g.source s) (has_front gs s) (has_front (gs ++ record { source = source; first = None } ∷ []) s) (fewer s gs) e
      where
        or_false : (a b c : Bool) → (c ≡ false → b ≡ false) → (a || c) ≡ false → (a || b) ≡ false
        or_false true b c h e = e
        or_false false b c h e = h e

    step : (t : Bool) → has_front fs source ≡ t → AreFronts ms (if t then fs else fs ++ record { source = source; first = None } ∷ [])
    step true e = are
    step false e = record { right = right (sym (are.whole source e)) fs are.right; whole = λ s none. are.whole s (fewer s fs none) }

-- ---- one message less

left_below : (r : List Message) (i : ℕ) (s : ℤ) (k : ℕ) → k < i → first_left r i s (Some k) ≡ Some k
left_below r i s k h = grind (arith, nat_tests)

left_at : (r : List Message) (i : ℕ) (s : ℤ) (k : ℕ) → k ≡ i → first_left r i s (Some k) ≡ first_behind r i s
left_at r i s k h = grind (arith, nat_tests)

left_above : (r : List Message) (i : ℕ) (s : ℤ) (k : ℕ) → i < k → first_left r i s (Some k) ≡ Some (k - 1)
left_above r i s k h = grind (arith, nat_tests)

from_nothing : (o : Option ℕ) → option_map (λ k. 0 + k) o ≡ o
from_nothing None = refl
from_nothing (Some k) = ap Some (let e : 0 + k ≡ k = omega arith in e)

one_further : (i : ℕ) (o : Option ℕ) → option_map (λ k. suc i + k) o ≡ option_map (λ k. suc k) (option_map (λ k. i + k) o)
one_further i None = refl
one_further i (Some k) = ap Some (let e : suc i + k ≡ suc (i + k) = omega arith in e)

left_later : (m : Message) (r : List Message) (i : ℕ) (s : ℤ) (o : Option ℕ) → option_map (λ k. suc k) (first_left r i s o) ≡ first_left (m ∷ r) (suc i) s (option_map (λ k. suc k) o)
left_later m r i s None = refl
left_later m r i s (Some k) = by_order (cases_order k i)
  where
    by_order : (k ≡ i) ⊎ ((k < i) ⊎ (i < k)) → option_map (λ k. suc k) (first_left r i s (Some k)) ≡ first_left (m ∷ r) (suc i) s (Some (suc k))
    by_order (inl e) = ap (option_map (λ k. suc k)) (left_at r i s k e) ∙ sym (one_further i (first_of (drop i r) s)) ∙ sym (left_at (m ∷ r) (suc i) s (suc k) (ap (λ n. suc n) e))
    by_order (inr (inl h)) = ap (option_map (λ k. suc k)) (left_below r i s k h) ∙ sym (left_below (m ∷ r) (suc i) s (suc k) (omega arith))
    by_order (inr (inr h)) = ap (option_map (λ k. suc k)) (left_above r i s k h) ∙ ap Some (let e : suc (k - 1) ≡ suc k - 1 = omega arith in e) ∙ sym (left_above (m ∷ r) (suc i) s (suc k) (omega arith))

taken_first : (r : List Message) (s : ℤ) (t : Bool) (o : Option ℕ) → first_of r s ≡ o → first_of r s ≡ first_left r 0 s (if t then Some 0 else option_map (λ k. suc k) o)
taken_first r s true o e = sym (left_at r 0 s 0 refl ∙ from_nothing (first_of r s))
taken_first r s false None e = e
taken_first r s false (Some k) e = e ∙ ap Some (let n : k ≡ suc k - 1 = omega arith in n) ∙ sym (left_above r 0 s (suc k) (omega arith))

taken_later : (m : Message) (r : List Message) (i : ℕ) (s : ℤ) (t : Bool) (o p : Option ℕ) → p ≡ first_left r i s o
    → (if t then Some 0 else option_map (λ k. suc k) p) ≡ first_left (m ∷ r) (suc i) s (if t then Some 0 else option_map (λ k. suc k) o)
taken_later m r i s true o p e = sym (left_below (m ∷ r) (suc i) s 0 (omega arith))
taken_later m r i s false o p e = ap (option_map (λ k. suc k)) e ∙ left_later m r i s o

first_remove : (ms : List Message) (i : ℕ) (s : ℤ) → i < length ms → first_of (remove ms i) s ≡ first_left (remove ms i) i s (first_of ms s)
first_remove [] i s h = absurd (omega arith)
first_remove (m ∷ ms) zero s h = taken_first ms s (int_eq m.source s) (first_of ms s) refl
first_remove (m ∷ ms) (suc i) s h = taken_later m (remove ms i) i s (int_eq m.source s) (first_of ms s) _ (first_remove ms i s (omega arith))

all_left : (ms : List Message) (i : ℕ) → i < length ms → (fs : List Front) → AreRight ms fs → AreRight (remove ms i) (map (left (remove ms i) i) fs)
all_left ms i h [] right = tt
all_left ms i h (f ∷ fs) (here, rest) = (ap (first_left (remove ms i) i f.source) here ∙ sym (first_remove ms i f.source h), all_left ms i h fs rest)

pub are_after_removal : (ms : List Message) (i : ℕ) (fs : List Front) → i < length ms → AreFronts ms fs → AreFronts (remove ms i) (map (left (remove ms i) i) fs)
are_after_removal ms i fs h are = record {
  right = all_left ms i h fs are.right;
  whole = λ s none. first_remove ms i s h ∙ ap (first_left (remove ms i) i s) (are.whole s (sym (same_sources (left (remove ms i) i) (λ f. refl) fs s) ∙ none));
}
