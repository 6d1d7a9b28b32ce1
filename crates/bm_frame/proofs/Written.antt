-- What writes leave.
use Rattle.std.proofs.Common.{◌≡◌, ◌≢◌, ◌∙◌, refl, ap, sym, subst, ◌⊎◌, inl, inr, Bool, true, false, cond, ◌&&◌, ℕ, zero, suc, ◌+◌, ◌-◌, ◌≤◌, List, ◌∷◌, length, take, replicate, max, Option, Some, None, Result, Ok, Err, arith, nat_le, nat_eq}
use Rattle.std.specs.Prelude.{find, slice_get}
use Rattle.std.specs.Option.{option_map}
use Rattle.std.specs.Int.{byte_at, bytes_low_first}
use Rattle.std.specs.FinMap.{get, insert}
use Rattle.std.proofs.lemmas.Bool.{cases_eq}
use Rattle.std.proofs.lemmas.Bool.Decides.{nat_tests}
use Rattle.std.proofs.lemmas.List.{length-replicate}
use Rattle.lu_spec.specs.Then.{then_option}
use Rattle.lu_spec.specs.LittleEndian.{little_endian}
use Rattle.lu_spec.specs.Splice.{piece_at, spliced}
use Rattle.lu_spec.proofs.SpliceLemmas.{length-spliced}
use Rattle.lu_base.specs.declared.trap.Trap.{Trap}
use Rattle.bm_mem.specs.Content.{Content, Holds, IsInside, IsWritten}
use Rattle.bm_mem.proofs.Laws.{get-insert_there, get-insert_else}
use Rattle.bm_objects.specs.declared.row.Row.{Row}
use Rattle.bm_objects.specs.Table.{end_of, reaches}
use Rattle.bm_code.specs.declared.operation.Writing.TheVariants as W
use Rattle.bm_code.specs.Process.{Frame}
use Rattle.bm_code.specs.Frames.{some_or, on_two, bad}
use Rattle.bm_code.specs.Access.{live_at, read_at, changed, written_at, number_of, Scalar, scalars, scalar_size}
use Rattle.bm_code.specs.Pointers.{with_member, with_active, wrote, written}
use Rattle.bm_code.specs.Mapped.{HasObject, IsOfRow, IsMapped, or_bad}
use Rattle.bm_frame.proofs.Bytes.{row, bytes, got, holds, piece_there, piece_long, zero_bytes}
use Rattle.bm_frame.proofs.Copying.{IsCopied, holds_part, insert_twice, target}

some_in : {A : Type 0} (a b : A) → Some a ≡ Some b → a ≡ b
some_in a b h = cc

and_0 : (a b : Bool) → (a && b) ≡ true → a ≡ true
and_0 true b h = refl
and_0 false b h = h

and_1 : (a b : Bool) → (a && b) ≡ true → b ≡ true
and_1 true b h = h
and_1 false b h = absurd (cc)

and_both : (a b : Bool) → a ≡ true → b ≡ true → (a && b) ≡ true
and_both true b h t = t
and_both false b h t = absurd (cc)

le_less : (a n k e : ℕ) → k ≤ n → nat_le (a + n) e ≡ true → nat_le (a + k) e ≡ true
le_less a n k e h t = grind (arith, nat_tests)

-- a shorter range of a live object
pub live_less : (rows : List Row) (a n k : ℕ) (r : Row) → k ≤ n → live_at rows a n ≡ Some r → live_at rows a k ≡ Some r
live_less rows a n k r le = by_found (find (reaches a) rows) refl
  where
    by_test : (x : Row) → find (reaches a) rows ≡ Some x → (b : Bool) → (x.live && nat_le (a + n) (end_of x)) ≡ b → cond b (Some x) None ≡ Some r → live_at rows a k ≡ Some r
    by_test x f true t e =
        let still : (x.live && nat_le (a + k) (end_of x)) ≡ true = and_both x.live (nat_le (a + k) (end_of x)) (and_0 x.live (nat_le (a + n) (end_of x)) t) (le_less a n k (end_of x) le (and_1 x.live (nat_le (a + n) (end_of x)) t)) in
        ap (λ o. then_option o (λ r. cond (r.live && nat_le (a + k) (end_of r)) (Some r) None)) f ∙ (ap (λ b. cond b (Some x) None) still ∙ e)
    by_test x f false t e = absurd (cc)

    by_found : (o : Option Row) → find (reaches a) rows ≡ o → then_option o (λ r. cond (r.live && nat_le (a + n) (end_of r)) (Some r) None) ≡ Some r → live_at rows a k ≡ Some r
    by_found None f e = absurd (cc)
    by_found (Some x) f e = by_test x f (x.live && nat_le (a + n) (end_of x)) refl e

four : (n : ℕ) → length (little_endian 4 n) ≡ 4
unfolding little_endian
four n = refl

module _ (m : Content) (rows : List Row) (mapped : IsMapped m rows) where
  -- another object of the same length in place of a row's
  pub still_mapped : (k : ℕ) (r : Row) → slice_get rows k ≡ Some r → r.live ≡ true → (old new : List ℕ) → get m r.addr ≡ Some old → length new ≡ length old → IsMapped (insert m r.addr new) rows
  still_mapped k r at live old new got long = record { live = still; only = once }
    where
      by_place : (x : Row) → HasObject m x → (x.addr ≡ r.addr) ⊎ (x.addr ≢ r.addr) → HasObject (insert m r.addr new) x
      by_place x h (inl same) =
          let one : old ≡ h.0 = some_in old h.0 (sym got ∙ (ap (get m) (sym same) ∙ h.1)) in
          (new, ap (get (insert m r.addr new)) same ∙ get-insert_there m r.addr new, long ∙ (ap length one ∙ h.2))
      by_place x h (inr differs) = (h.0, get-insert_else m r.addr new x.addr differs ∙ h.1, h.2)

      still : (j : ℕ) (x : Row) → slice_get rows j ≡ Some x → x.live ≡ true → HasObject (insert m r.addr new) x
      still j x e l = by_place x (mapped.live j x e l) (cases_eq x.addr r.addr)

      by_start : (start : ℕ) (given : List ℕ) → get (insert m r.addr new) start ≡ Some given → (start ≡ r.addr) ⊎ (start ≢ r.addr) → IsOfRow rows start
      by_start start given e (inl same) = (k, r, at, sym same, live)
      by_start start given e (inr differs) = mapped.only start given (sym (get-insert_else m r.addr new start differs) ∙ e)

      once : (start : ℕ) (given : List ℕ) → get (insert m r.addr new) start ≡ Some given → IsOfRow rows start
      once start given e = by_start start given e (cases_eq start r.addr)

  module _ (a n : ℕ) (r : Row) (e : live_at rows a n ≡ Some r) where
    -- the content after a change of the object's bytes
    pub changed_there : (f : List ℕ → List ℕ) → changed m r f ≡ Some (insert m r.addr (f (bytes m rows mapped a n r e)))
    changed_there f = ap (option_map (λ bytes. insert m r.addr (f bytes))) (got m rows mapped a n r e)

    pub changed_mapped : (new : List ℕ) (n' : Content) → length new ≡ length (bytes m rows mapped a n r e) → n' ≡ insert m r.addr new → IsMapped n' rows
    changed_mapped new n' long is =
        let l = row m rows mapped a n r e in
        subst (λ c. IsMapped c rows) (sym is) (still_mapped l.index r l.at l.live (bytes m rows mapped a n r e) new (got m rows mapped a n r e) long)

    piece_fits : (piece : List ℕ) → length piece ≡ n → a - r.addr + length piece ≤ length (bytes m rows mapped a n r e)
    piece_fits piece long = let h = holds m rows mapped a n r e in omega (arith, h.low, h.high, long)

    abbrev spliced_there : List ℕ → List ℕ
    spliced_there piece = spliced (bytes m rows mapped a n r e) (a - r.addr) piece

    pub written_there : (piece : List ℕ) (n' : Content) → length piece ≡ n → n' ≡ insert m r.addr (spliced_there piece) → written_at m rows a piece ≡ Some n'
    written_there piece n' long is =
        let here : live_at rows a (length piece) ≡ Some r = ap (live_at rows a) long ∙ e in
        ap (λ o. then_option o (λ r. changed m r (λ bytes. spliced bytes (a - r.addr) piece))) here
        ∙ (changed_there (λ bytes. spliced bytes (a - r.addr) piece) ∙ ap Some (sym is))

    pub written_mapped : (piece : List ℕ) (n' : Content) → length piece ≡ n → n' ≡ insert m r.addr (spliced_there piece) → IsMapped n' rows
    written_mapped piece n' long is =
        changed_mapped (spliced_there piece) n' (length-spliced (bytes m rows mapped a n r e) (a - r.addr) piece (piece_fits piece long)) is

  -- a piece
  module _ (a : ℕ) (piece : List ℕ) (r : Row) (e : live_at rows a (length piece) ≡ Some r) (n' : Content) (w : IsWritten m n' a piece) where
    put_is : n' ≡ insert m r.addr (spliced (bytes m rows mapped a (length piece) r e) (a - r.addr) piece)
    put_is = w r.addr (bytes m rows mapped a (length piece) r e) (holds m rows mapped a (length piece) r e)

    pub put_there : or_bad (written_at m rows a piece) ≡ Ok n'
    put_there = ap or_bad (written_there a (length piece) r e piece n' refl put_is)

    pub put_mapped : IsMapped n' rows
    put_mapped = written_mapped a (length piece) r e piece n' refl put_is

  -- a copy
  module _ (from to size : ℕ) (r : Row) (e : live_at rows from size ≡ Some r) where
    abbrev source : List ℕ
    source = piece_at (bytes m rows mapped from size r e) (from - r.addr) size

    source_there : read_at m rows from size ≡ Some source
    source_there = piece_there m rows mapped from size r e

    pub copied_none : live_at rows to size ≡ None → some_or (read_at m rows from size) bad (λ piece. or_bad (written_at m rows to piece)) ≡ bad
    copied_none none =
        let long : length source ≡ size = piece_long m rows mapped from size r e in
        ap (λ o. some_or o bad (λ piece. or_bad (written_at m rows to piece))) source_there
        ∙ ap (λ o. or_bad (then_option o (λ r. changed m r (λ bytes. spliced bytes (to - r.addr) source)))) (ap (live_at rows to) long ∙ none)

    module _ (x : Row) (d : live_at rows to size ≡ Some x) (n' : Content) (c : IsCopied m n' from to size) where
      copy_is : n' ≡ insert m x.addr (spliced (bytes m rows mapped to size x d) (to - x.addr) source)
      copy_is = c r.addr x.addr (bytes m rows mapped from size r e) (bytes m rows mapped to size x d) (holds m rows mapped from size r e) (holds m rows mapped to size x d)

      pub copied_there : some_or (read_at m rows from size) bad (λ piece. or_bad (written_at m rows to piece)) ≡ Ok n'
      copied_there =
          ap (λ o. some_or o bad (λ piece. or_bad (written_at m rows to piece))) source_there
          ∙ ap or_bad (written_there to size x d source n' (piece_long m rows mapped from size r e) copy_is)

      pub copied_mapped : IsMapped n' rows
      copied_mapped = written_mapped to size x d source n' (piece_long m rows mapped from size r e) copy_is

  -- a member of a union
  module _ (a member offset size : ℕ) (r : Row) (e : live_at rows a (max 4 (offset + size)) ≡ Some r) where
    abbrev all : List ℕ
    all = bytes m rows mapped a (max 4 (offset + size)) r e

    pub union_holds : Holds m r.addr all a (max 4 (offset + size))
    union_holds = holds m rows mapped a (max 4 (offset + size)) r e

    pub union_live : live_at rows a 4 ≡ Some r
    union_live = live_less rows a (max 4 (offset + size)) 4 r (omega arith) e

    abbrev result : Result Content Trap
    result = some_or (live_at rows a (max 4 (offset + size))) bad (λ r. or_bad (with_active m rows a member offset size r))

    module _ (number : ℕ) (is : Some number ≡ option_map number_of (read_at m rows a 4)) where
      tested : with_active m rows a member offset size r ≡ cond (nat_eq number member) (Some m) (changed m r (with_member (a - r.addr) member offset size))
      tested = by_read (read_at m rows a 4) refl is
        where
          by_read : (o : Option (List ℕ)) → read_at m rows a 4 ≡ o → Some number ≡ option_map number_of o → with_active m rows a member offset size r ≡ cond (nat_eq number member) (Some m) (changed m r (with_member (a - r.addr) member offset size))
          by_read None f is = absurd (cc)
          by_read (Some piece) f is =
              let same : number_of piece ≡ number = sym (some_in number (number_of piece) is) in
              ap (λ o. some_or o None (λ bytes. cond (nat_eq (number_of bytes) member) (Some m) (changed m r (with_member (a - r.addr) member offset size)))) f
              ∙ ap (λ k. cond (nat_eq k member) (Some m) (changed m r (with_member (a - r.addr) member offset size))) same

      opened : result ≡ or_bad (cond (nat_eq number member) (Some m) (changed m r (with_member (a - r.addr) member offset size)))
      opened = ap (λ o. some_or o bad (λ r. or_bad (with_active m rows a member offset size r))) e ∙ ap or_bad tested

      same_true : number ≡ member → nat_eq number member ≡ true
      same_true s = grind (arith, nat_tests)

      same_false : number ≢ member → nat_eq number member ≡ false
      same_false s = grind (arith, nat_tests)

      pub union_same : number ≡ member → result ≡ Ok m
      union_same s = opened ∙ ap (λ b. or_bad (cond b (Some m) (changed m r (with_member (a - r.addr) member offset size)))) (same_true s)

      module _ (differs : number ≢ member) (n' : Content) (w : (s : ℕ) (given : List ℕ) → Holds m s given a (max 4 (offset + size)) → n' ≡ insert m s (with_member (a - s) member offset size given)) where
        union_is : n' ≡ insert m r.addr (with_member (a - r.addr) member offset size all)
        union_is = w r.addr all union_holds

        pub union_there : result ≡ Ok n'
        union_there =
            opened
            ∙ (ap (λ b. or_bad (cond b (Some m) (changed m r (with_member (a - r.addr) member offset size)))) (same_false differs)
            ∙ (ap or_bad (changed_there a (max 4 (offset + size)) r e (with_member (a - r.addr) member offset size)) ∙ ap Ok (sym union_is)))

        member_long : length (with_member (a - r.addr) member offset size all) ≡ length all
        member_long =
            let h = union_holds in
            let zeros : length (zero_bytes size) ≡ size = length-replicate {A = ℕ} size 0 in
            let inner : length (spliced all (a - r.addr + offset) (zero_bytes size)) ≡ length all = length-spliced all (a - r.addr + offset) (zero_bytes size) (omega (arith, h.low, h.high, zeros)) in
            length-spliced (spliced all (a - r.addr + offset) (zero_bytes size)) (a - r.addr) (little_endian 4 member) (omega (arith, h.low, h.high, inner, four member)) ∙ inner

        pub union_mapped : IsMapped n' rows
        union_mapped = changed_mapped a (max 4 (offset + size)) r e (with_member (a - r.addr) member offset size all) n' member_long union_is

low_front : (i n k v : ℕ) → n ≤ k → take n (bytes_low_first i k v) ≡ bytes_low_first i n v
low_front i zero k v h = refl
low_front i (suc n) zero v h = absurd (omega arith)
low_front i (suc n) (suc k) v h = ap (λ l. byte_at i v ∷ l) (low_front (suc i) n k v (omega arith))

pub word_front : (n v : ℕ) → n ≤ 8 → take n (bytes_low_first 0 8 v) ≡ little_endian n v
unfolding little_endian
word_front n v h = low_front 0 n 8 v h

-- zeros, and then the number of a member
module _ (m n : Content) (at offset size s : ℕ) (a : List ℕ) (h : Holds m s a at (max 4 (offset + size))) where
  pub member_holds : Holds m s a (at + offset) size
  member_holds = holds_part m s a at (max 4 (offset + size)) offset size (omega arith) h

  module _ (clear : (t : ℕ) (b : List ℕ) → Holds m t b (at + offset) size → n ≡ insert m t (spliced b (at + offset - t) (replicate size 0))) (piece : List ℕ) (long : length piece ≡ 4) where
    cleared : n ≡ insert m s (spliced a (at + offset - s) (zero_bytes size))
    cleared = clear s a member_holds

    zeros_long : length (zero_bytes size) ≡ size
    zeros_long = length-replicate {A = ℕ} size 0

    number_holds : Holds n s (spliced a (at + offset - s) (zero_bytes size)) at (length piece)
    number_holds =
        let z = zeros_long in
        subst (λ k. Holds n s (spliced a (at + offset - s) (zero_bytes size)) at k) (sym long) (target m n s s a a (at + offset - s) (zero_bytes size) cleared (omega (arith, h.low, h.high, z)) h.at at 4 h.low (omega (arith, h.high)))

    pub number_inside : IsInside n at (length piece)
    number_inside = (s, spliced a (at + offset - s) (zero_bytes size), number_holds)

    pub activated : (member : ℕ) (n' : Content) → piece ≡ little_endian 4 member → IsWritten n n' at piece → n' ≡ insert m s (with_member (at - s) member offset size a)
    activated member n' e w =
        let place : at + offset - s ≡ at - s + offset = omega (arith, h.low) in
        w s (spliced a (at + offset - s) (zero_bytes size)) number_holds
        ∙ (ap (λ c. insert c s (spliced (spliced a (at + offset - s) (zero_bytes size)) (at - s) piece)) cleared
        ∙ (insert_twice m s (spliced a (at + offset - s) (zero_bytes size)) (spliced (spliced a (at + offset - s) (zero_bytes size)) (at - s) piece)
        ∙ (ap (λ i. insert m s (spliced (spliced a i (zero_bytes size)) (at - s) piece)) place ∙ ap (λ p. insert m s (spliced (spliced a (at - s + offset) (zero_bytes size)) (at - s) p)) e)))

pub four_bytes_of : (v : ℕ) (piece : List ℕ) → piece ≡ bytes_low_first 0 4 v → piece ≡ little_endian 4 v
unfolding little_endian
four_bytes_of v piece e = e

store_in : (o : Option Scalar) (F : Scalar → Option Content) (f : Frame) (rest : List ℕ) (t : Trap) → some_or o bad (λ s. or_bad (F s)) ≡ Err t → some_or o bad (λ s. wrote f rest (F s)) ≡ Err t
store_in None F f rest t e = cc
store_in (Some s) F f rest t e = by_content (F s) e
  where
    by_content : (c : Option Content) → or_bad c ≡ Err t → wrote f rest c ≡ Err t
    by_content None e = cc
    by_content (Some m) e = absurd (cc)

pub store_traps : (k : ℕ) (m : Content) (rows : List Row) (f : Frame) (top word : ℕ) (below rest : List ℕ) (t : Trap) → f.stack ≡ top ∷ below → below ≡ word ∷ rest → some_or (slice_get scalars k) bad (λ s. or_bad (written_at m rows top (little_endian (scalar_size s) word))) ≡ Err t → written (W.Store k) m rows f ≡ Err t
store_traps k m rows f top word below rest t a b e =
    ap (λ l. on_two l bad (λ v a rest. some_or (slice_get scalars k) bad (λ s. wrote f rest (written_at m rows a (little_endian (scalar_size s) v))))) (a ∙ ap (λ l. top ∷ l) b)
    ∙ store_in (slice_get scalars k) (λ s. written_at m rows top (little_endian (scalar_size s) word)) f rest t e
