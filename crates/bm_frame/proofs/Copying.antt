-- Copies and zeros, chunk by chunk.
use Rattle.std.proofs.Common.{◌≡◌, ◌≢◌, ◌∙◌, refl, ap, sym, subst, ◌⊎◌, inl, inr, Bool, true, false, cond, ℕ, zero, suc, ◌+◌, ◌-◌, ◌≤◌, List, [], ◌∷◌, ◌++◌, length, take, drop, Some, arith, append_assoc}
use Rattle.std.specs.FinMap.{get, insert, get-insert, same_map, nat_cmp-IsAntisymmetric}
use Rattle.std.specs.Cmp.{nat_cmp_total}
use Rattle.std.proofs.lemmas.Bool.{cases_eq}
use Rattle.std.proofs.lemmas.List.{length-append, length-take, length-take-le, take-append-le, drop-take, take-take, drop-drop, drop_at, take-append-drop, length-replicate}
use Rattle.lu_spec.specs.Splice.{piece_at, spliced}
use Rattle.lu_spec.proofs.SpliceLemmas.{length-piece_at, length-spliced, piece_at-spliced_before, piece_at-spliced_after}
use Rattle.bm_mem.specs.Content.{Content, Holds, IsInside, IsWritten}
use Rattle.bm_mem.proofs.Entries.{same_address}
use Rattle.bm_mem.proofs.Laws.{get-insert_there, get-insert_else}
use Rattle.bm_mem.proofs.ObjectLemmas.{nothing_written}
use Rattle.bm_frame.proofs.Bytes.{zero_bytes, piece_length}

pub insert_twice : (m : Content) (k : ℕ) (a b : List ℕ) → insert (insert m k a) k b ≡ insert m k b
insert_twice m k a b =
    same_map nat_cmp_total nat_cmp-IsAntisymmetric (insert (insert m k a) k b) (insert m k b) (λ q. by_test q (same_address q k) refl)
  where
    by_test : (q : ℕ) (t : Bool) → same_address q k ≡ t → get (insert (insert m k a) k b) q ≡ get (insert m k b) q
    by_test q true t =
        get-insert nat_cmp_total (insert m k a) k b q
        ∙ (ap (λ c. cond c (Some b) (get (insert m k a) q)) t ∙ sym (get-insert nat_cmp_total m k b q ∙ ap (λ c. cond c (Some b) (get m q)) t))
    by_test q false t =
        get-insert nat_cmp_total (insert m k a) k b q
        ∙ (ap (λ c. cond c (Some b) (get (insert m k a) q)) t
        ∙ (get-insert nat_cmp_total m k a q
        ∙ (ap (λ c. cond c (Some a) (get m q)) t ∙ sym (get-insert nat_cmp_total m k b q ∙ ap (λ c. cond c (Some b) (get m q)) t))))

take_front : (xs ys : List ℕ) (n : ℕ) → length xs ≡ n → take n (xs ++ ys) ≡ xs
take_front xs ys n e =
    take-append-le n xs ys (omega (arith, e)) ∙ (ap (λ k. take k xs) (sym e) ∙ whole xs)
  where
    whole : (l : List ℕ) → take (length l) l ≡ l
    whole [] = refl
    whole (x ∷ l) = ap (λ k. x ∷ k) (whole l)

-- a piece, and another behind it
pub spliced_more : (b : List ℕ) (p : ℕ) (x y : List ℕ) → p + length x + length y ≤ length b → spliced (spliced b p x) (p + length x) y ≡ spliced b p (x ++ y)
spliced_more b p x y h =
    let front : length (take p b ++ x) ≡ p + length x = simp (length-append, length-take) (omega arith) in
    let whole : spliced b p x ≡ (take p b ++ x) ++ drop (p + length x) b = sym (append_assoc (take p b) x (drop (p + length x) b)) in
    let head : take (p + length x) (spliced b p x) ≡ take p b ++ x = ap (take (p + length x)) whole ∙ take_front (take p b ++ x) (drop (p + length x) b) (p + length x) front in
    let behind : drop (p + length x) (spliced b p x) ≡ drop (p + length x) b = ap (drop (p + length x)) whole ∙ drop_at (take p b ++ x) (drop (p + length x) b) (p + length x) front in
    let count : p + length x + length y ≡ length y + (p + length x) = omega arith in
    let tail : drop (p + length x + length y) (spliced b p x) ≡ drop (p + length x + length y) b = sym (drop-drop (length y) (p + length x) (spliced b p x)) ∙ (ap (drop (length y)) behind ∙ drop-drop (length y) (p + length x) b) in
    let both : p + length x + length y ≡ p + length (x ++ y) = omega (arith, length-append x y) in
    ap (λ l. l ++ (y ++ drop (p + length x + length y) (spliced b p x))) head
    ∙ (ap (λ l. (take p b ++ x) ++ (y ++ l)) (tail ∙ ap (λ k. drop k b) both)
    ∙ (append_assoc (take p b) x (y ++ drop (p + length (x ++ y)) b)
    ∙ ap (λ l. take p b ++ l) (sym (append_assoc x y (drop (p + length (x ++ y)) b)))))

-- a piece, and another before it
pub spliced_less : (b : List ℕ) (p : ℕ) (x y : List ℕ) → p + length y + length x ≤ length b → spliced (spliced b (p + length y) x) p y ≡ spliced b p (y ++ x)
spliced_less b p x y h =
    let high = p + length y in
    let rest = x ++ drop (high + length x) b in
    let front : length (take high b) ≡ high = length-take-le high b (omega arith) in
    let head : take p (spliced b high x) ≡ take p b = take-append-le p (take high b) rest (omega (arith, front)) ∙ take-take p high b (omega arith) in
    let tail : drop high (spliced b high x) ≡ rest = drop_at (take high b) rest high front in
    let both : high + length x ≡ p + length (y ++ x) = omega (arith, length-append y x) in
    ap (λ l. l ++ (y ++ drop high (spliced b high x))) head
    ∙ (ap (λ l. take p b ++ (y ++ l)) (tail ∙ ap (λ k. x ++ drop k b) both)
    ∙ ap (λ l. take p b ++ l) (sym (append_assoc y x (drop (p + length (y ++ x)) b))))

pub piece_more : (a : List ℕ) (q n k : ℕ) → piece_at a q n ++ piece_at a (q + n) k ≡ piece_at a q (n + k)
piece_more a q n k =
    let d = drop q a in
    let second : piece_at a (q + n) k ≡ drop n (take (n + k) d) = ap (take k) (sym (drop-drop n q a)) ∙ sym (drop-take n k d) in
    let first : piece_at a q n ≡ take n (take (n + k) d) = sym (take-take n (n + k) d (omega arith)) in
    ap (λ l. l ++ piece_at a (q + n) k) first ∙ (ap (λ l. take n (take (n + k) d) ++ l) second ∙ take-append-drop n (take (n + k) d))

-- the object of a range, and what stands in the range
pub record Source (m : Content) (start at count : ℕ) (piece : List ℕ) : Type 0 where
  pub bytes : List ℕ
  pub holds : Holds m start bytes at count
  pub same : piece_at bytes (at - start) count ≡ piece

some_in : {A : Type 0} (a b : A) → Some a ≡ Some b → a ≡ b
some_in a b h = cc

pub holds_part : (m : Content) (s : ℕ) (a : List ℕ) (at n k count : ℕ) → k + count ≤ n → Holds m s a at n → Holds m s a (at + k) count
holds_part m s a at n k count le h = record { at = h.at; low = omega (arith, h.low); high = omega (arith, h.high) }

-- memory in which a piece of the object at t was replaced
module _ (m n : Content) (s t : ℕ) (a b : List ℕ) (p : ℕ) (x : List ℕ) (is : n ≡ insert m t (spliced b p x)) (fits : p + length x ≤ length b) (b_at : get m t ≡ Some b) where
  pub target_at : get n t ≡ Some (spliced b p x)
  target_at = ap (λ c. get c t) is ∙ get-insert_there m t (spliced b p x)

  target_long : length (spliced b p x) ≡ length b
  target_long = length-spliced b p x fits

  pub target : (at count : ℕ) → t ≤ at → at + count ≤ t + length b → Holds n t (spliced b p x) at count
  target at count low high = let l = target_long in record { at = target_at; low = low; high = omega (arith, high, l) }

  -- a range that the piece doesn't meet
  pub source : (at count : ℕ) → Holds m s a at count → (p + length x ≤ at - s) ⊎ (at - s + count ≤ p) → Source n s at count (piece_at a (at - s) count)
  source at count h side = by_place (cases_eq s t)
    where
      apart : (a' : List ℕ) → b ≡ a' → (p + length x ≤ at - s) ⊎ (at - s + count ≤ p) → piece_at (spliced b p x) (at - s) count ≡ piece_at a' (at - s) count
      apart a' e (inl after) = piece_at-spliced_after b p x (at - s) count fits after ∙ ap (λ l. piece_at l (at - s) count) e
      apart a' e (inr before) = piece_at-spliced_before b p x (at - s) count fits before ∙ ap (λ l. piece_at l (at - s) count) e

      by_place : (s ≡ t) ⊎ (s ≢ t) → Source n s at count (piece_at a (at - s) count)
      by_place (inl same) =
          let one : b ≡ a = some_in b a (sym b_at ∙ (ap (get m) (sym same) ∙ h.at)) in
          let long : length b ≡ length a = ap length one in
          let l = target_long in
          record { bytes = spliced b p x; holds = record { at = ap (get n) same ∙ target_at; low = h.low; high = omega (arith, h.high, l, long) }; same = apart a one side }
      by_place (inr differs) =
          record { bytes = a; holds = record { at = ap (λ c. get c s) is ∙ (get-insert_else m t (spliced b p x) s differs ∙ h.at); low = h.low; high = h.high }; same = refl }

-- what a copy of a chunk leaves
abbrev pub IsCopied : Content → Content → ℕ → ℕ → ℕ → Type 0
IsCopied m n from to count =
    (s t : ℕ) (a b : List ℕ) → Holds m s a from count → Holds m t b to count → n ≡ insert m t (spliced b (to - t) (piece_at a (from - s) count))

-- a copy of `done` bytes, the lowest first
module _ (m n : Content) (from to size done count s t : ℕ) (a b : List ℕ) (down : to ≤ from) (le : done + count ≤ size) (h : Holds m s a from size) (k : Holds m t b to size) (is : n ≡ insert m t (spliced b (to - t) (piece_at a (from - s) done))) where
  abbrev x : List ℕ
  x = piece_at a (from - s) done

  x_long : length x ≡ done
  x_long = length-piece_at a (from - s) done (omega (arith, h.low, h.high))

  x_fits : to - t + length x ≤ length b
  x_fits = let l = x_long in omega (arith, k.low, k.high, l)

  from_part : Holds m s a (from + done) count
  from_part = holds_part m s a from size done count le h

  -- where the object is one, the bytes that were written lie below those that are read next
  same_side : (to - t + length x ≤ from + done - s) ⊎ (s ≢ t)
  same_side = by_place (cases_eq s t)
    where
      by_place : (s ≡ t) ⊎ (s ≢ t) → (to - t + length x ≤ from + done - s) ⊎ (s ≢ t)
      by_place (inl same) = let l = x_long in inl (omega (arith, l, same, down, h.low, k.low))
      by_place (inr differs) = inr differs

  source_up : Source n s (from + done) count (piece_at a (from + done - s) count)
  source_up = by_side same_side
    where
      by_side : (to - t + length x ≤ from + done - s) ⊎ (s ≢ t) → Source n s (from + done) count (piece_at a (from + done - s) count)
      by_side (inl after) = source m n s t a b (to - t) x is x_fits k.at (from + done) count from_part (inl after)
      by_side (inr differs) =
          let part = from_part in
          record { bytes = a; holds = record { at = ap (λ c. get c s) is ∙ (get-insert_else m t (spliced b (to - t) x) s differs ∙ h.at); low = part.low; high = part.high }; same = refl }

  target_up : Holds n t (spliced b (to - t) x) (to + done) count
  target_up = target m n s t a b (to - t) x is x_fits k.at (to + done) count (omega (arith, k.low)) (omega (arith, k.high))

  pub from_inside : IsInside n (from + done) count
  from_inside = let q = source_up in (s, q.bytes, q.holds)

  pub to_inside : IsInside n (to + done) count
  to_inside = (t, spliced b (to - t) x, target_up)

  pub copied_up : (n' : Content) → IsCopied n n' (from + done) (to + done) count → n' ≡ insert m t (spliced b (to - t) (piece_at a (from - s) (done + count)))
  copied_up n' c =
      let q = source_up in
      let l = x_long in
      let y = piece_at a (from + done - s) count in
      let place : to + done - t ≡ to - t + length x = omega (arith, k.low, l) in
      let next : from + done - s ≡ from - s + done = omega (arith, h.low) in
      let long : length y ≡ count = piece_length m s a (from + done) count from_part in
      let here : n' ≡ insert n t (spliced (spliced b (to - t) x) (to + done - t) (piece_at q.bytes (from + done - s) count)) = c s t q.bytes (spliced b (to - t) x) q.holds target_up in
      let piece : n' ≡ insert n t (spliced (spliced b (to - t) x) (to - t + length x) y) = here ∙ (ap (λ p. insert n t (spliced (spliced b (to - t) x) (to + done - t) p)) q.same ∙ ap (λ i. insert n t (spliced (spliced b (to - t) x) i y)) place) in
      let joined : spliced (spliced b (to - t) x) (to - t + length x) y ≡ spliced b (to - t) (x ++ y) = spliced_more b (to - t) x y (omega (arith, k.low, k.high, l, long)) in
      let whole : x ++ y ≡ piece_at a (from - s) (done + count) = ap (λ i. x ++ piece_at a i count) next ∙ piece_more a (from - s) done count in
      piece ∙ (ap (λ l. insert n t l) (joined ∙ ap (spliced b (to - t)) whole) ∙ (ap (λ c. insert c t (spliced b (to - t) (piece_at a (from - s) (done + count)))) is ∙ insert_twice m t (spliced b (to - t) x) (spliced b (to - t) (piece_at a (from - s) (done + count)))))

-- a copy of all but `left` bytes, the highest first; the next chunk begins at `next`
module _ (m n : Content) (from to size left next count s t : ℕ) (a b : List ℕ) (up : from ≤ to) (step : next + count ≡ left) (le : left ≤ size) (h : Holds m s a from size) (k : Holds m t b to size) (is : n ≡ insert m t (spliced b (to - t + left) (piece_at a (from - s + left) (size - left)))) where
  abbrev z : List ℕ
  z = piece_at a (from - s + left) (size - left)

  z_long : length z ≡ size - left
  z_long = length-piece_at a (from - s + left) (size - left) (omega (arith, h.low, h.high))

  z_fits : to - t + left + length z ≤ length b
  z_fits = let l = z_long in omega (arith, k.low, k.high, l)

  next_part : Holds m s a (from + next) count
  next_part = holds_part m s a from size next count (omega (arith, step)) h

  source_down : Source n s (from + next) count (piece_at a (from + next - s) count)
  source_down = by_place (cases_eq s t)
    where
      by_place : (s ≡ t) ⊎ (s ≢ t) → Source n s (from + next) count (piece_at a (from + next - s) count)
      by_place (inl same) =
          source m n s t a b (to - t + left) z is z_fits k.at (from + next) count next_part (inr (omega (arith, step, same, up, h.low, k.low)))
      by_place (inr differs) =
          let part = next_part in
          record { bytes = a; holds = record { at = ap (λ c. get c s) is ∙ (get-insert_else m t (spliced b (to - t + left) z) s differs ∙ h.at); low = part.low; high = part.high }; same = refl }

  target_down : Holds n t (spliced b (to - t + left) z) (to + next) count
  target_down = target m n s t a b (to - t + left) z is z_fits k.at (to + next) count (omega (arith, k.low)) (omega (arith, k.high, step))

  pub from_inside_down : IsInside n (from + next) count
  from_inside_down = let q = source_down in (s, q.bytes, q.holds)

  pub to_inside_down : IsInside n (to + next) count
  to_inside_down = (t, spliced b (to - t + left) z, target_down)

  pub copied_down : (n' : Content) → IsCopied n n' (from + next) (to + next) count → n' ≡ insert m t (spliced b (to - t + next) (piece_at a (from - s + next) (size - next)))
  copied_down n' c =
      let q = source_down in
      let l = z_long in
      let y = piece_at a (from + next - s) count in
      let long : length y ≡ count = piece_length m s a (from + next) count next_part in
      let place : to + next - t ≡ to - t + next = omega (arith, k.low) in
      let above : to - t + left ≡ to - t + next + length y = omega (arith, step, long) in
      let at_next : from + next - s ≡ from - s + next = omega (arith, h.low) in
      let at_left : from - s + left ≡ from - s + next + count = omega (arith, step) in
      let rest : count + (size - left) ≡ size - next = omega (arith, step) in
      let here : n' ≡ insert n t (spliced (spliced b (to - t + left) z) (to + next - t) (piece_at q.bytes (from + next - s) count)) = c s t q.bytes (spliced b (to - t + left) z) q.holds target_down in
      let piece : n' ≡ insert n t (spliced (spliced b (to - t + left) z) (to - t + next) y) = here ∙ (ap (λ p. insert n t (spliced (spliced b (to - t + left) z) (to + next - t) p)) q.same ∙ ap (λ i. insert n t (spliced (spliced b (to - t + left) z) i y)) place) in
      let joined : spliced (spliced b (to - t + left) z) (to - t + next) y ≡ spliced b (to - t + next) (y ++ z) = ap (λ i. spliced (spliced b i z) (to - t + next) y) above ∙ spliced_less b (to - t + next) z y (omega (arith, k.low, k.high, l, long, step)) in
      let whole : y ++ z ≡ piece_at a (from - s + next) (size - next) = ap (λ i. piece_at a i count ++ z) at_next ∙ (ap (λ i. piece_at a (from - s + next) count ++ piece_at a i (size - left)) at_left ∙ (piece_more a (from - s + next) count (size - left) ∙ ap (piece_at a (from - s + next)) rest)) in
      piece ∙ (ap (λ l. insert n t l) (joined ∙ ap (spliced b (to - t + next)) whole) ∙ (ap (λ c. insert c t (spliced b (to - t + next) (piece_at a (from - s + next) (size - next)))) is ∙ insert_twice m t (spliced b (to - t + left) z) (spliced b (to - t + next) (piece_at a (from - s + next) (size - next)))))

more_zeros : (n k : ℕ) → zero_bytes n ++ zero_bytes k ≡ zero_bytes (n + k)
more_zeros zero k = let e : k ≡ 0 + k = omega arith in ap zero_bytes e
more_zeros (suc n) k = let e : suc (n + k) ≡ suc n + k = omega arith in ap (λ l. 0 ∷ l) (more_zeros n k) ∙ ap zero_bytes e

pub zeros_front : (m n : ℕ) → n ≤ m → take n (zero_bytes m) ≡ zero_bytes n
zeros_front m zero h = refl
zeros_front zero (suc n) h = absurd (omega arith)
zeros_front (suc m) (suc n) h = ap (λ l. 0 ∷ l) (zeros_front m n (omega arith))

-- `done` bytes set to zero, the lowest first
module _ (m n : Content) (addr size done count s : ℕ) (a : List ℕ) (le : done + count ≤ size) (h : Holds m s a addr size) (is : n ≡ insert m s (spliced a (addr - s) (zero_bytes done))) where
  done_long : length (zero_bytes done) ≡ done
  done_long = length-replicate {A = ℕ} done 0

  done_fits : addr - s + length (zero_bytes done) ≤ length a
  done_fits = let l = done_long in omega (arith, h.low, h.high, l)

  cleared_target : Holds n s (spliced a (addr - s) (zero_bytes done)) (addr + done) count
  cleared_target = target m n s s a a (addr - s) (zero_bytes done) is done_fits h.at (addr + done) count (omega (arith, h.low)) (omega (arith, h.high))

  pub cleared_inside : (piece : List ℕ) → piece ≡ zero_bytes count → IsInside n (addr + done) (length piece)
  cleared_inside piece e =
      let long : length piece ≡ count = ap length e ∙ length-replicate {A = ℕ} count 0 in
      (s, spliced a (addr - s) (zero_bytes done), subst (λ k. Holds n s (spliced a (addr - s) (zero_bytes done)) (addr + done) k) (sym long) cleared_target)

  pub cleared_more : (n' : Content) (piece : List ℕ) → piece ≡ zero_bytes count → IsWritten n n' (addr + done) piece → n' ≡ insert m s (spliced a (addr - s) (zero_bytes (done + count)))
  cleared_more n' piece e w =
      let l = done_long in
      let long : length piece ≡ count = ap length e ∙ length-replicate {A = ℕ} count 0 in
      let place : addr + done - s ≡ addr - s + length (zero_bytes done) = omega (arith, h.low, l) in
      let here : n' ≡ insert n s (spliced (spliced a (addr - s) (zero_bytes done)) (addr + done - s) piece) = w s (spliced a (addr - s) (zero_bytes done)) (subst (λ k. Holds n s (spliced a (addr - s) (zero_bytes done)) (addr + done) k) (sym long) cleared_target) in
      let moved : n' ≡ insert n s (spliced (spliced a (addr - s) (zero_bytes done)) (addr - s + length (zero_bytes done)) piece) = here ∙ ap (λ i. insert n s (spliced (spliced a (addr - s) (zero_bytes done)) i piece)) place in
      let joined : spliced (spliced a (addr - s) (zero_bytes done)) (addr - s + length (zero_bytes done)) piece ≡ spliced a (addr - s) (zero_bytes done ++ piece) = spliced_more a (addr - s) (zero_bytes done) piece (omega (arith, h.low, h.high, l, long)) in
      let whole : zero_bytes done ++ piece ≡ zero_bytes (done + count) = ap (λ p. zero_bytes done ++ p) e ∙ more_zeros done count in
      moved ∙ (ap (λ l. insert n s l) (joined ∙ ap (spliced a (addr - s)) whole) ∙ (ap (λ c. insert c s (spliced a (addr - s) (zero_bytes (done + count)))) is ∙ insert_twice m s (spliced a (addr - s) (zero_bytes done)) (spliced a (addr - s) (zero_bytes (done + count)))))

pub nothing_down : (m : Content) (from to size s t : ℕ) (a b : List ℕ) → Holds m t b to size → m ≡ insert m t (spliced b (to - t + size) (piece_at a (from - s + size) (size - size)))
nothing_down m from to size s t a b k =
    let none : 0 ≡ size - size = omega arith in
    let place : to + size - t ≡ to - t + size = omega (arith, k.low) in
    nothing_written m t b (to + size) [] refl (record { at = k.at; low = omega (arith, k.low); high = omega (arith, k.high) })
    ∙ (ap (λ i. insert m t (spliced b i [])) place ∙ ap (λ i. insert m t (spliced b (to - t + size) (piece_at a (from - s + size) i))) none)

pub all_down : (m n : Content) (from to size left s t : ℕ) (a b : List ℕ) → left ≡ 0 → n ≡ insert m t (spliced b (to - t + left) (piece_at a (from - s + left) (size - left))) → n ≡ insert m t (spliced b (to - t) (piece_at a (from - s) size))
all_down m n from to size left s t a b none is =
    let place : to - t + left ≡ to - t = omega (arith, none) in
    let start : from - s + left ≡ from - s = omega (arith, none) in
    let count : size - left ≡ size = omega (arith, none) in
    is
    ∙ (ap (λ i. insert m t (spliced b i (piece_at a (from - s + left) (size - left)))) place
    ∙ (ap (λ i. insert m t (spliced b (to - t) (piece_at a i (size - left)))) start ∙ ap (λ i. insert m t (spliced b (to - t) (piece_at a (from - s) i))) count))
