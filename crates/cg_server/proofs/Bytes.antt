-- The bytes of messages in memory.
use Rattle.std.proofs.Common.{◌≡◌, ◌∙◌, refl, ap, sym, subst, Bool, true, false, cond, ◌&&◌, ℕ, zero, suc, ◌+◌, ◌-◌, ◌<◌, List, [], ◌∷◌, ◌++◌, length, replicate, drop, get_or, Some, None, arith, nat_eq}
use Rattle.std.specs.Prelude.{ℤ, slice_get, not, is_some}
use Rattle.std.specs.Option.{option_map_or}
use Rattle.std.specs.FinMap as map
use Rattle.std.proofs.lemmas.List.{length-replicate}
use Rattle.std.proofs.lemmas.Bool.Decides.{nat_tests}
use Rattle.lu_spec.specs.Splice.{spliced}
use Rattle.src_meaning.proofs.LayoutLengths.{and_left, and_right}
use Rattle.bm_mem.specs.Content.{Content, Holds, IsInside, IsWritten}
use Rattle.bm_mem.proofs.Laws.{mapped}
use Rattle.bm_frame.proofs.Copying.{insert_twice}
use Rattle.bm_objects.specs.declared.row.Row.{Row}
use Rattle.bm_code.specs.Mapped.{HasObject, IsMapped}
use Rattle.bm_cpu.specs.Words.{word_bytes, words_bytes}
use Rattle.cg_server.specs.Messages.{is_message_row, has_messages, with_bytes}

-- eight ints, each in place of four bytes
pub ints_put : (a b c d e f g h : ℤ) → spliced (spliced (spliced (spliced (spliced (spliced (spliced (spliced (replicate 32 0) 0 (word_bytes a)) 4 (word_bytes b)) 8 (word_bytes c)) 12 (word_bytes d)) 16 (word_bytes e)) 20 (word_bytes f)) 24 (word_bytes g)) 28 (word_bytes h) ≡ words_bytes (a ∷ b ∷ c ∷ d ∷ e ∷ f ∷ g ∷ h ∷ [])
ints_put a b c d e f g h = refl

-- a list of six by its entries
pub six_of : (xs : List ℤ) (z : ℤ) → length xs ≡ 6 → get_or xs 0 z ∷ get_or xs 1 z ∷ get_or xs 2 z ∷ get_or xs 3 z ∷ get_or xs 4 z ∷ get_or xs 5 z ∷ [] ≡ xs
six_of (u ∷ v ∷ w ∷ x ∷ y ∷ t ∷ []) z n = refl
six_of [] z n = absurd (cc)
six_of (u ∷ []) z n = absurd (cc)
six_of (u ∷ v ∷ []) z n = absurd (cc)
six_of (u ∷ v ∷ w ∷ []) z n = absurd (cc)
six_of (u ∷ v ∷ w ∷ x ∷ []) z n = absurd (cc)
six_of (u ∷ v ∷ w ∷ x ∷ y ∷ []) z n = absurd (cc)
six_of (u ∷ v ∷ w ∷ x ∷ y ∷ t ∷ k ∷ xs) z n = absurd (omega (arith, n))

-- all of the bytes in place of as many
whole : (bytes piece : List ℕ) → length bytes ≡ length piece → spliced bytes 0 piece ≡ piece
whole bytes piece e = ap (λ n. piece ++ drop n bytes) past ∙ (ap (λ l. piece ++ l) (none bytes) ∙ end piece)
  where
    past : 0 + length piece ≡ length bytes
    past = omega (arith, e)

    none : (l : List ℕ) → drop (length l) l ≡ []
    none [] = refl
    none (x ∷ l) = none l

    end : (l : List ℕ) → l ++ [] ≡ l
    end [] = refl
    end (x ∷ l) = ap (λ l. x ∷ l) (end l)

-- the row of `m_in` or of `m_out`
pub message_row : (rows : List Row) (k : ℕ) (r : Row) → has_messages rows ≡ true → k < 2 → slice_get rows k ≡ Some r → is_message_row r ≡ true
message_row [] k r h low at = absurd (cc)
message_row (a ∷ []) k r h low at = absurd (cc)
message_row (a ∷ b ∷ rows) zero r h low at = let same : a ≡ r = cc in subst (λ r. is_message_row r ≡ true) same (and_left (is_message_row a) (is_message_row b) h)
message_row (a ∷ b ∷ rows) (suc zero) r h low at = let same : b ≡ r = cc in subst (λ r. is_message_row r ≡ true) same (and_right (is_message_row a) (is_message_row b) h)
message_row (a ∷ b ∷ rows) (suc (suc k)) r h low at = absurd (omega (arith, low))

pub two_rows : (rows : List Row) (k : ℕ) → has_messages rows ≡ true → k < 2 → k < length rows
two_rows [] k h low = absurd (cc)
two_rows (a ∷ []) k h low = absurd (cc)
two_rows (a ∷ b ∷ rows) k h low = omega (arith, low)

module _ (m : Content) (rows : List Row) (maps : IsMapped m rows) (messages : has_messages rows ≡ true) (k : ℕ) (low : k < 2) (r : Row) (at : slice_get rows k ≡ Some r) (piece : List ℕ) (long : length piece ≡ 32) where
  is_row : is_message_row r ≡ true
  is_row = message_row rows k r messages low at

  size : r.size ≡ 32
  size = let e = and_right (not (is_some r.site)) (nat_eq r.size 32) (and_right r.live (not (is_some r.site) && nat_eq r.size 32) is_row) in grind (arith, nat_tests, e)

  object : HasObject m r
  object = maps.live k r at (and_left r.live (not (is_some r.site) && nat_eq r.size 32) is_row)

  same : length object.0 ≡ length piece
  same = omega (arith, object.2, size, long)

  holds : Holds m r.addr object.0 r.addr (length piece)
  holds = record { at = object.1; low = omega arith; high = omega (arith, same) }

  pub is_inside : IsInside m r.addr (length piece)
  is_inside = (r.addr, object.0, holds)

  pub put_with : (n : Content) → IsWritten m n r.addr piece → n ≡ with_bytes rows k piece m
  put_with n written =
      let none : r.addr - r.addr ≡ 0 = omega arith in
      written r.addr object.0 holds
      ∙ (ap (λ at. map.insert m r.addr (spliced object.0 at piece)) none
      ∙ (ap (map.insert m r.addr) (whole object.0 piece same)
      ∙ ap (λ o. option_map_or (λ (r : Row). map.insert m r.addr piece) o m) (sym at)))

-- an object that was made zero, and its bytes then
module _ (m n : Content) (addr size : ℕ) (piece : List ℕ) (made : n ≡ map.insert m addr (replicate size 0)) (long : length piece ≡ size) where
  zeros_long : length {A = ℕ} (replicate size 0) ≡ length piece
  zeros_long = length-replicate {A = ℕ} size 0 ∙ sym long

  new_holds : Holds n addr (replicate size 0) addr (length piece)
  new_holds = mapped m n addr size addr (length piece) made (omega arith) (omega (arith, long))

  pub new_inside : IsInside n addr (length piece)
  new_inside = (addr, replicate size 0, new_holds)

  pub new_with : (x : Content) → IsWritten n x addr piece → x ≡ map.insert m addr piece
  new_with x written =
      let none : addr - addr ≡ 0 = omega arith in
      written addr (replicate size 0) new_holds
      ∙ (ap (λ at. map.insert n addr (spliced (replicate size 0) at piece)) none
      ∙ (ap (map.insert n addr) (whole (replicate size 0) piece zeros_long)
      ∙ (ap (λ n. map.insert n addr piece) made ∙ insert_twice m addr (replicate size 0) piece)))

-- what a choice gave
pub chosen : {A : Type 0} (b : Bool) (r x : A) → cond b (Some r) None ≡ Some x → r ≡ x
chosen true r x e = cc
chosen false r x e = absurd (cc)
