-- The next message is the first that isn't held back, and there is at most one.
use Rattle.std.proofs.Common.{◌≡◌, ◌<◌, ◌≤◌, ℕ, ℤ, zero, suc, ◌+◌, Bool, true, false, true≢false, ◌||◌, nat_lt, if◌then◌else◌, List, [], ◌∷◌, length, drop, Option, Some, None, refl, sym, ◌∙◌, ap, subst, arith}
use Rattle.std.specs.Prelude.{slice_get}
use Rattle.std.specs.List.{list_any}
use Rattle.std.specs.Ordering.{int_eq}
use Rattle.std.proofs.lemmas.Bool.Decides.{Decides-int_eq, nat_tests}
use Rattle.lu_base.specs.declared.message.Message.{Message}
use Rattle.mk_queue.specs.declared.hold.Hold.{Hold}
use Rattle.mk_queue.specs.Held.{is_held_kind, is_held_behind, next_from, next_message, IsHeldBack, by_kind, by_source, AreHeldBack, IsNext}

-- what a list has from a place on
record Begins {A : Type 0} (xs : List A) (n : ℕ) (x : A) (rest : List A) : Type 0 where
  at : slice_get xs n ≡ Some x
  more : drop (suc n) xs ≡ rest
  within : n < length xs

begins : {A : Type 0} (xs : List A) (n : ℕ) (x : A) (rest : List A) → drop n xs ≡ x ∷ rest → Begins xs n x rest
begins [] zero x rest e = absurd (cc)
begins [] (suc n) x rest e = absurd (cc)
begins (y ∷ ys) zero x rest e = record { at = (let same : y ≡ x = cc in ap Some same); more = (let same : ys ≡ rest = cc in same); within = omega arith }
begins (y ∷ ys) (suc n) x rest e =
    let h = begins ys n x rest e in
    record { at = h.at; more = h.more; within = (let below = h.within in omega arith) }

ends : {A : Type 0} (xs : List A) (n : ℕ) → drop n xs ≡ [] → length xs ≤ n
ends [] n e = omega arith
ends (y ∷ ys) zero e = absurd (cc)
ends (y ∷ ys) (suc n) e = let h = ends ys n e in omega arith

module _ (hold : Hold) (messages : List Message) where
  some_same : (a b : Message) → Some a ≡ Some b → a ≡ b
  some_same a b e = cc

  -- a message before a place, of a source
  record IsBefore (place : ℕ) (source : ℤ) : Type 0 where
    where_ : ℕ
    message : Message
    below : where_ < place
    at : slice_get messages where_ ≡ Some message
    of : message.source ≡ source

  -- some sources are those of the messages before a place
  record AreSources (place : ℕ) (sources : List ℤ) : Type 0 where
    found : (source : ℤ) → list_any (λ s. int_eq s source) sources ≡ true → IsBefore place source
    back : (j : ℕ) (m : Message) → j < place → slice_get messages j ≡ Some m → list_any (λ s. int_eq s m.source) sources ≡ true

  no-sources : AreSources 0 []
  no-sources = record { found = λ source e. absurd (true≢false (sym e)); back = λ j m below at. absurd (omega arith) }

  one-more : (place : ℕ) (sources : List ℤ) (m : Message) → slice_get messages place ≡ Some m → AreSources place sources → AreSources (suc place) (m.source ∷ sources)
  one-more place sources m at are = record {
    found = λ source e. found_case source (int_eq m.source source) refl e;
    back = λ j n below at_j. back_case j n below at_j (nat_lt j place) refl;
  }
    where
      found_case : (source : ℤ) (t : Bool) → int_eq m.source source ≡ t → (t || list_any (λ s. int_eq s source) sources) ≡ true → IsBefore (suc place) source
      found_case source true t e = record { where_ = place; message = m; below = omega arith; at = at; of = (Decides-int_eq m.source source).0 t }
      found_case source false t e =
          let h = are.found source e in
          record { where_ = h.where_; message = h.message; below = (let below = h.below in omega arith); at = h.at; of = h.of }

      or_right : (a b : Bool) → b ≡ true → (a || b) ≡ true
      or_right true b e = refl
      or_right false b e = e

      or_left : (a b : Bool) → a ≡ true → (a || b) ≡ true
      or_left a b e = ap (λ t. t || b) e

      back_case : (j : ℕ) (n : Message) → j < suc place → slice_get messages j ≡ Some n → (t : Bool) → nat_lt j place ≡ t
          → (int_eq m.source n.source || list_any (λ s. int_eq s n.source) sources) ≡ true
      back_case j n below at_j true t = or_right (int_eq m.source n.source) (list_any (λ s. int_eq s n.source) sources) (are.back j n (grind (arith, nat_tests)) at_j)
      back_case j n below at_j false t =
          let here : j ≡ place = grind (arith, nat_tests) in
          let same : m ≡ n = some_same m n (sym at ∙ ap (slice_get messages) (sym here) ∙ at_j) in
          or_left (int_eq m.source n.source) (list_any (λ s. int_eq s n.source) sources) ((Decides-int_eq m.source n.source).1 (ap (λ (k : Message). k.source) same))

  -- what an answer from a place on says
  abbrev IsAnswer : Option ℕ → Type 0
  IsAnswer None = AreHeldBack hold messages (length messages)
  IsAnswer (Some i) = IsNext hold messages i

  held_step : (place : ℕ) → AreHeldBack hold messages place → IsHeldBack hold messages place → AreHeldBack hold messages (suc place)
  held_step place before here i below = step (nat_lt i place) refl
    where
      step : (t : Bool) → nat_lt i place ≡ t → IsHeldBack hold messages i
      step true t = before i (grind (arith, nat_tests))
      step false t = let same : place ≡ i = grind (arith, nat_tests) in subst (IsHeldBack hold messages) same here

  held-here : (place : ℕ) (sources : List ℤ) (m : Message) → slice_get messages place ≡ Some m → AreSources place sources → AreHeldBack hold messages place
      → (t : Bool) → is_held_kind hold m ≡ t → (t || list_any (λ s. int_eq s m.source) sources) ≡ true → IsHeldBack hold messages place
  held-here place sources m at are before true t e = by_kind place m at t
  held-here place sources m at are before false t e =
      let h = are.found m.source e in
      by_source place h.where_ m h.message at h.below h.at h.of (before h.where_ h.below)

  or_true : (a b : Bool) → b ≡ true → (a || b) ≡ true
  or_true true b e = refl
  or_true false b e = e

  free-here : (place : ℕ) (sources : List ℤ) (m : Message) → slice_get messages place ≡ Some m → AreSources place sources
      → is_held_behind hold sources m ≡ false → IsHeldBack hold messages place → ⊥
  free-here _ sources m at are e (by_kind place n at_n kind) =
      let same : n ≡ m = some_same n m (sym at_n ∙ at) in
      let held : is_held_kind hold m ≡ true = ap (is_held_kind hold) (sym same) ∙ kind in
      true≢false (sym (ap (λ t. t || list_any (λ s. int_eq s m.source) sources) held) ∙ e)
  free-here _ sources m at are e (by_source place j n earlier at_n below at_j source held) =
      let same : n ≡ m = some_same n m (sym at_n ∙ at) in
      let any : list_any (λ s. int_eq s m.source) sources ≡ true =
      subst (λ k. list_any (λ s. int_eq s k) sources ≡ true) (source ∙ ap (λ (k : Message). k.source) same) (are.back j earlier below at_j) in
      true≢false (sym (or_true (is_held_kind hold m) (list_any (λ s. int_eq s m.source) sources) any) ∙ e)

  answer-step : (place : ℕ) (sources : List ℤ) (m : Message) (ms : List Message) (t : Bool) → is_held_behind hold sources m ≡ t → Begins messages place m ms
      → AreSources place sources → AreHeldBack hold messages place
      → (AreSources (place + 1) (m.source ∷ sources) → AreHeldBack hold messages (place + 1) → IsAnswer (next_from hold (m.source ∷ sources) (place + 1) ms))
      → IsAnswer (if t then next_from hold (m.source ∷ sources) (place + 1) ms else Some place)
  answer-step place sources m ms true t here are before later =
      let n : suc place ≡ place + 1 = omega arith in
      later (subst (λ k. AreSources k (m.source ∷ sources)) n (one-more place sources m here.at are))
      (subst (AreHeldBack hold messages) n (held_step place before (held-here place sources m here.at are before (is_held_kind hold m) refl t)))
  answer-step place sources m ms false t here are before later =
      record { within = here.within; free = free-here place sources m here.at are t; before = before }

  answer-from : (rest : List Message) (place : ℕ) (sources : List ℤ) → drop place messages ≡ rest → AreSources place sources → AreHeldBack hold messages place
      → IsAnswer (next_from hold sources place rest)
  answer-from [] place sources e are before = λ i below. before i (let end = ends messages place e in omega arith)
  answer-from (m ∷ ms) place sources e are before =
      let here = begins messages place m ms e in
      let n : suc place ≡ place + 1 = omega arith in
      answer-step place sources m ms (is_held_behind hold sources m) refl here are before
      (λ are before. answer-from ms (place + 1) (m.source ∷ sources) (subst (λ k. drop k messages ≡ ms) n here.more) are before)

  answer-is : IsAnswer (next_message hold messages)
  answer-is = answer-from messages 0 [] refl no-sources (λ i below. absurd (omega arith))

  -- what the function says of the relation
  pub next_message-some : (i : ℕ) → next_message hold messages ≡ Some i → IsNext hold messages i
  next_message-some i e = subst IsAnswer e answer-is

  pub next_message-none : next_message hold messages ≡ None → AreHeldBack hold messages (length messages)
  next_message-none e = subst IsAnswer e answer-is

  -- there is at most one
  pub IsNext-one : (i j : ℕ) → IsNext hold messages i → IsNext hold messages j → i ≡ j
  IsNext-one i j first second = by_order (nat_lt i j) (nat_lt j i) refl refl
    where
      by_order : (s t : Bool) → nat_lt i j ≡ s → nat_lt j i ≡ t → i ≡ j
      by_order true t below _ = absurd (first.free (second.before i (grind (arith, nat_tests))))
      by_order false true _ below = absurd (second.free (first.before j (grind (arith, nat_tests))))
      by_order false false above below = grind (arith, nat_tests)

  none_step : (i : ℕ) → IsNext hold messages i → (o : Option ℕ) → IsAnswer o → o ≡ Some i
  none_step i next None all = absurd (next.free (all i next.within))
  none_step i next (Some j) is = ap Some (IsNext-one j i is next)

  -- and what the relation says of the function
  pub next_message-is : (i : ℕ) → IsNext hold messages i → next_message hold messages ≡ Some i
  next_message-is i next = none_step i next (next_message hold messages) answer-is

  all_step : AreHeldBack hold messages (length messages) → (o : Option ℕ) → IsAnswer o → o ≡ None
  all_step held None all = refl
  all_step held (Some j) is = absurd (is.free (held j is.within))

  pub next_message-isnt : AreHeldBack hold messages (length messages) → next_message hold messages ≡ None
  next_message-isnt held = all_step held (next_message hold messages) answer-is
