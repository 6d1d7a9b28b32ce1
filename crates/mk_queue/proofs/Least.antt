-- The least place of a first message of no held kind is that of the next message.
use Rattle.std.proofs.Common.{◌≡◌, ◌<◌, ◌≤◌, ◌⊎◌, inl, inr, ℕ, ℤ, zero, suc, Bool, true, false, true≢false, nat_lt, if◌then◌else◌, min, ◌||◌, get_or, List, [], ◌∷◌, length, Option, Some, None, refl, sym, ◌∙◌, ap, subst, arith}
use Rattle.std.specs.Prelude.{slice_get, option_map}
use Rattle.std.specs.Ordering.{int_eq}
use Rattle.std.proofs.lemmas.Bool.Decides.{Decides-int_eq, nat_tests}
use Rattle.std.proofs.lemmas.Option.{none-some, same_Some, slice_get_within, slice_get_cases}
use Rattle.lu_base.specs.declared.message.Message.{Message}
use Rattle.mk_queue.specs.declared.hold.Hold.{Hold}
use Rattle.mk_queue.specs.declared.front.Front.{Front}
use Rattle.mk_queue.specs.Held.{is_held_kind, next_message, IsHeldBack, by_kind, by_source, AreHeldBack, IsNext}
use Rattle.mk_queue.specs.Fronts.{first_of, has_front, AreRight, AreFronts, free_at, free_first, free_place, lesser, least_free}
use Rattle.mk_queue.proofs.NextMessage.{next_message-is, next_message-isnt}

-- ---- the first message of a source

record IsFirstAt (ms : List Message) (s : ℤ) (i : ℕ) : Type 0 where
  message : Message
  at : slice_get ms i ≡ Some message
  of : message.source ≡ s
  alone : (j : ℕ) (n : Message) → j < i → slice_get ms j ≡ Some n → n.source ≡ s → ⊥

-- there is a number, and it is at most that
record IsUpTo (o : Option ℕ) (i : ℕ) : Type 0 where
  number : ℕ
  is : o ≡ Some number
  most : number ≤ i

first_later : (m : Message) (ms : List Message) (s : ℤ) (i : ℕ) → int_eq m.source s ≡ false → IsFirstAt ms s i → IsFirstAt (m ∷ ms) s (suc i)
first_later m ms s i other first = record { message = first.message; at = first.at; of = first.of; alone = alone }
  where
    alone : (j : ℕ) (n : Message) → j < suc i → slice_get (m ∷ ms) j ≡ Some n → n.source ≡ s → ⊥
    alone zero n h at of = true≢false (sym ((Decides-int_eq m.source s).1 (ap (λ (k : Message). k.source) (same_Some m n at) ∙ of)) ∙ other)
    alone (suc j) n h at of = first.alone j n (omega arith) at of

first_some : (ms : List Message) (s : ℤ) (i : ℕ) → first_of ms s ≡ Some i → IsFirstAt ms s i
first_some [] s i e = absurd (none-some i e)
first_some (m ∷ ms) s i e = step (λ k f. first_some ms s k f) (int_eq m.source s) refl (first_of ms s) refl i e
  where
    step : ((k : ℕ) → first_of ms s ≡ Some k → IsFirstAt ms s k) → (t : Bool) → int_eq m.source s ≡ t → (o : Option ℕ) → first_of ms s ≡ o → (i : ℕ) → (if t then Some 0 else option_map (λ k. suc k) o) ≡ Some i → IsFirstAt (m ∷ ms) s i
    step rest true t o f i e = subst (IsFirstAt (m ∷ ms) s) (same_Some 0 i e) (record { message = m; at = refl; of = (Decides-int_eq m.source s).0 t; alone = λ j n h at of. absurd (omega arith) })
    step rest false t None f i e = absurd (none-some i e)
    step rest false t (Some k) f i e = subst (IsFirstAt (m ∷ ms) s) (same_Some (suc k) i e) (first_later m ms s k t (rest k f))

first_upto : (ms : List Message) (j : ℕ) (n : Message) → slice_get ms j ≡ Some n → IsUpTo (first_of ms n.source) j
first_upto [] j n e = absurd (none-some n e)
first_upto (m ∷ ms) zero n e = record { number = 0; is = ap (λ t. if t then Some 0 else option_map (λ k. suc k) (first_of ms n.source)) ((Decides-int_eq m.source n.source).1 (ap (λ (k : Message). k.source) (same_Some m n e))); most = omega arith }
first_upto (m ∷ ms) (suc j) n e = step (int_eq m.source n.source) (first_upto ms j n e)
  where
    step : (t : Bool) → IsUpTo (first_of ms n.source) j → IsUpTo (if t then Some 0 else option_map (λ k. suc k) (first_of ms n.source)) (suc j)
    step true up = record { number = 0; is = refl; most = omega arith }
    step false up = record { number = suc up.number; is = ap (option_map (λ k. suc k)) up.is; most = (let h : up.number ≤ j = up.most in omega arith) }

-- ---- the least place

lesser_left : (i : ℕ) (o : Option ℕ) → IsUpTo (lesser (Some i) o) i
lesser_left i None = record { number = i; is = refl; most = omega arith }
lesser_left i (Some j) = record { number = min i j; is = refl; most = omega arith }

lesser_right : (o : Option ℕ) (i : ℕ) → IsUpTo (lesser o (Some i)) i
lesser_right None i = record { number = i; is = refl; most = omega arith }
lesser_right (Some j) i = record { number = min j i; is = refl; most = omega arith }

lesser_cases : (a b : Option ℕ) (j : ℕ) → lesser a b ≡ Some j → (a ≡ Some j) ⊎ (b ≡ Some j)
lesser_cases None b j e = inr e
lesser_cases (Some i) None j e = inl e
lesser_cases (Some i) (Some k) j e = step (nat_lt k i) refl
  where
    step : (t : Bool) → nat_lt k i ≡ t → (Some i ≡ Some j) ⊎ (Some k ≡ Some j)
    step true t = let h : min i k ≡ k = grind (arith, nat_tests) in inr (ap Some (sym h) ∙ e)
    step false t = let h : min i k ≡ i = grind (arith, nat_tests) in inl (ap Some (sym h) ∙ e)

further : (o p : Option ℕ) (i : ℕ) → ((k : ℕ) → o ≡ Some k → IsUpTo p k) → IsUpTo o i → IsUpTo p i
further o p i more up = let next = more up.number up.is in record { number = next.number; is = next.is; most = (let a : next.number ≤ up.number = next.most in let b : up.number ≤ i = up.most in omega arith) }

module _ (hold : Hold) (ms : List Message) where
  least_start : (fs : List Front) (least : Option ℕ) (i : ℕ) → least ≡ Some i → IsUpTo (least_free hold ms least fs) i
  least_start [] least i e = record { number = i; is = e; most = omega arith }
  least_start (f ∷ fs) least i e =
      let now : IsUpTo (lesser least (free_place hold ms f)) i = subst (λ o. IsUpTo (lesser o (free_place hold ms f)) i) (sym e) (lesser_left i (free_place hold ms f)) in
      further (lesser least (free_place hold ms f)) (least_free hold ms (lesser least (free_place hold ms f)) fs) i (least_start fs (lesser least (free_place hold ms f))) now

  -- a source with a first message of no held kind
  record IsFree (s : ℤ) (k : ℕ) : Type 0 where
    first : first_of ms s ≡ Some k
    free : free_at hold (slice_get ms k) k ≡ Some k

  least_upto : (fs : List Front) (least : Option ℕ) (s : ℤ) (k : ℕ) → AreRight ms fs → has_front fs s ≡ true → IsFree s k → IsUpTo (least_free hold ms least fs) k
  least_upto [] least s k right has free = absurd (true≢false (sym has))
  least_upto (f ∷ fs) least s k (here, rest) has free = step (int_eq f.source s) refl has (λ has. least_upto fs (lesser least (free_place hold ms f)) s k rest has free)
    where
      step : (t : Bool) → int_eq f.source s ≡ t → (t || has_front fs s) ≡ true → (has_front fs s ≡ true → IsUpTo (least_free hold ms (lesser least (free_place hold ms f)) fs) k)
          → IsUpTo (least_free hold ms (lesser least (free_place hold ms f)) fs) k
      step true t has more =
          let first : f.first ≡ Some k = here ∙ ap (first_of ms) ((Decides-int_eq f.source s).0 t) ∙ free.first in
          let place : free_place hold ms f ≡ Some k = ap (free_first hold ms) first ∙ free.free in
          let now : IsUpTo (lesser least (free_place hold ms f)) k = subst (λ o. IsUpTo (lesser least o) k) (sym place) (lesser_right least k) in
          further (lesser least (free_place hold ms f)) (least_free hold ms (lesser least (free_place hold ms f)) fs) k (least_start fs (lesser least (free_place hold ms f))) now
      step false t has more = more has

  free_is : (o : Option Message) (i j : ℕ) → free_at hold o i ≡ Some j → i ≡ j
  free_is None i j e = absurd (none-some j e)
  free_is (Some m) i j e = step (is_held_kind hold m) e
    where
      step : (t : Bool) → (if t then None else Some i) ≡ Some j → i ≡ j
      step true e = absurd (none-some j e)
      step false e = same_Some i j e

  free_kind : (m : Message) (o : Option Message) (j : ℕ) → o ≡ Some m → free_at hold o j ≡ Some j → is_held_kind hold m ≡ false
  free_kind m o j at e = step (is_held_kind hold m) refl
    where
      step : (t : Bool) → is_held_kind hold m ≡ t → is_held_kind hold m ≡ false
      step true t = absurd (none-some j (sym (ap (λ t. if t then None else Some j) t) ∙ sym (ap (λ o. free_at hold o j) at) ∙ e))
      step false t = t

  free_of : (s : ℤ) (o : Option ℕ) (j : ℕ) → first_of ms s ≡ o → free_first hold ms o ≡ Some j → IsFree s j
  free_of s None j first e = absurd (none-some j e)
  free_of s (Some i) j first e =
      let same : i ≡ j = free_is (slice_get ms i) i j e in
      record { first = first ∙ ap Some same; free = subst (λ i. free_at hold (slice_get ms i) i ≡ Some j) same e }

  record IsSomeFree (j : ℕ) : Type 0 where
    source : ℤ
    free : IsFree source j

  least_from : (fs : List Front) (least : Option ℕ) (j : ℕ) → AreRight ms fs → least_free hold ms least fs ≡ Some j → (least ≡ Some j) ⊎ IsSomeFree j
  least_from [] least j right e = inl e
  least_from (f ∷ fs) least j (here, rest) e = step (least_from fs (lesser least (free_place hold ms f)) j rest e)
    where
      choose : (least ≡ Some j) ⊎ (free_place hold ms f ≡ Some j) → (least ≡ Some j) ⊎ IsSomeFree j
      choose (inl e) = inl e
      choose (inr e) = inr (record { source = f.source; free = free_of f.source f.first j (sym here) e })

      step : (lesser least (free_place hold ms f) ≡ Some j) ⊎ IsSomeFree j → (least ≡ Some j) ⊎ IsSomeFree j
      step (inl e) = choose (lesser_cases least (free_place hold ms f) j e)
      step (inr free) = inr free

  -- ---- the next message

  module _ (fs : List Front) (are : AreFronts ms fs) where
    has_of : (s : ℤ) (k : ℕ) → first_of ms s ≡ Some k → has_front fs s ≡ true
    has_of s k e = step (has_front fs s) refl
      where
        step : (t : Bool) → has_front fs s ≡ t → has_front fs s ≡ true
        step true t = t
        step false t = absurd (none-some k (sym (are.whole s t) ∙ e))

    held_behind : (i k : ℕ) (m n : Message) → slice_get ms i ≡ Some m → slice_get ms k ≡ Some n → n.source ≡ m.source → k ≤ i → is_held_kind hold n ≡ true → IsHeldBack hold ms i
    held_behind i k m n at_i at_k of most kind = step (nat_lt k i) refl
      where
        step : (t : Bool) → nat_lt k i ≡ t → IsHeldBack hold ms i
        step true t = by_source i k m n at_i (grind (arith, nat_tests)) at_k of (by_kind k n at_k kind)
        step false t = let same : k ≡ i = grind (arith, nat_tests) in subst (IsHeldBack hold ms) same (by_kind k n at_k kind)

    free_from : (m : Message) (k : ℕ) → slice_get ms k ≡ Some m → is_held_kind hold m ≡ false → free_at hold (slice_get ms k) k ≡ Some k
    free_from m k at kind = ap (λ o. free_at hold o k) at ∙ ap (λ t. if t then None else Some k) kind

    held_below : (i : ℕ) (m : Message) → slice_get ms i ≡ Some m → ((k : ℕ) → k ≤ i → IsUpTo (least_free hold ms None fs) k → ⊥) → IsHeldBack hold ms i
    held_below i m at none = step (is_held_kind hold first.message) refl
      where
        up : IsUpTo (first_of ms m.source) i
        up = first_upto ms i m at

        first : IsFirstAt ms m.source up.number
        first = first_some ms m.source up.number up.is

        step : (t : Bool) → is_held_kind hold first.message ≡ t → IsHeldBack hold ms i
        step true kind = held_behind i up.number m first.message at first.at first.of up.most kind
        step false kind =
            absurd (none up.number up.most (least_upto fs None m.source up.number are.right (has_of m.source up.number up.is) (record { first = up.is; free = free_from first.message up.number first.at kind })))

    held_until : (n : ℕ) → n ≤ length ms → ((k : ℕ) → k < n → IsUpTo (least_free hold ms None fs) k → ⊥) → AreHeldBack hold ms n
    held_until n most none i below = step (slice_get_cases ms i).1
      where
        step : ((m : Message) × (i < length ms) × (slice_get ms i ≡ Some m) × (get_or ms i m ≡ m)) ⊎ ((length ms ≤ i) × (slice_get ms i ≡ None)) → IsHeldBack hold ms i
        step (inl (m, _, at, _)) = held_below i m at (λ k up. none k (omega arith))
        step (inr (past, _)) = absurd (omega arith)

    next_at : (j : ℕ) → least_free hold ms None fs ≡ Some j → IsSomeFree j → IsNext hold ms j
    next_at j e some = record { within = within; free = free; before = before }
      where
        first : IsFirstAt ms some.source j
        first = first_some ms some.source j some.free.first

        within : j < length ms
        within = slice_get_within ms j first.message first.at

        kind : is_held_kind hold first.message ≡ false
        kind = free_kind first.message (slice_get ms j) j first.at some.free.free

        free_at_it : (i : ℕ) → i ≡ j → IsHeldBack hold ms i → ⊥
        free_at_it _ same (by_kind i m at held) = true≢false (sym held ∙ ap (is_held_kind hold) (same_Some m first.message (sym at ∙ ap (slice_get ms) same ∙ first.at)) ∙ kind)
        free_at_it _ same (by_source i k m n at below at_k of _) =
            first.alone k n (omega arith) at_k (of ∙ ap (λ (x : Message). x.source) (same_Some m first.message (sym at ∙ ap (slice_get ms) same ∙ first.at)) ∙ first.of)

        free : IsHeldBack hold ms j → ⊥
        free = free_at_it j refl

        before : AreHeldBack hold ms j
        before = held_until j (let in_list = within in omega arith) (λ k below up. let same : up.number ≡ j = same_Some up.number j (sym up.is ∙ e) in let most : up.number ≤ k = up.most in absurd (omega arith))

    next_step : (o : Option ℕ) → least_free hold ms None fs ≡ o → least_free hold ms None fs ≡ next_message hold ms
    next_step None e = e ∙ sym (next_message-isnt hold ms (held_until (length ms) (omega arith) (λ k below up. none-some up.number (sym e ∙ up.is))))
    next_step (Some j) e = from (least_from fs None j are.right e)
      where
        from : (None ≡ Some j) ⊎ IsSomeFree j → least_free hold ms None fs ≡ next_message hold ms
        from (inl n) = absurd (none-some j n)
        from (inr some) = e ∙ sym (next_message-is hold ms j (next_at j e some))

    pub least-next : least_free hold ms None fs ≡ next_message hold ms
    least-next = next_step (least_free hold ms None fs) refl
