-- Bytes of live objects.
use Rattle.std.proofs.Common.{◌≡◌, ◌∙◌, refl, ap, sym, subst, Bool, true, false, cond, ◌&&◌, ℕ, zero, suc, ◌+◌, ◌-◌, ◌*◌, ◌≤◌, List, [], ◌∷◌, ◌++◌, length, take, drop, replicate, Option, Some, None, arith, nat_le}
use Rattle.std.specs.Prelude.{find, slice_get}
use Rattle.std.specs.Int.{w64, from_le_bytes}
use Rattle.std.specs.Option.{option_map}
use Rattle.std.specs.FinMap.{get}
use Rattle.std.proofs.lemmas.Bool.Decides.{nat_tests}
use Rattle.std.proofs.lemmas.List.{length-take, length-take-le, length-drop}
use Rattle.lu_spec.specs.Then.{then_option}
use Rattle.lu_spec.specs.Splice.{piece_at}
use Rattle.bm_mem.specs.Content.{Content, Holds, IsInside}
use Rattle.bm_objects.specs.declared.row.Row.{Row}
use Rattle.bm_objects.specs.Table.{end_of, reaches}
use Rattle.bm_objects.proofs.TableLemmas.{found, reaches_is}
use Rattle.bm_code.specs.Access.{live_at, read_at, number_of}
use Rattle.bm_code.specs.Mapped.{HasObject, IsMapped}

eight : (bs : List ℕ) → length bs ≡ 8 → from_le_bytes w64 bs ≡ number_of bs
eight (a ∷ b ∷ c ∷ d ∷ e ∷ f ∷ g ∷ h ∷ []) n = omega arith
eight [] n = absurd (omega (arith, n))
eight (a ∷ []) n = absurd (omega (arith, n))
eight (a ∷ b ∷ []) n = absurd (omega (arith, n))
eight (a ∷ b ∷ c ∷ []) n = absurd (omega (arith, n))
eight (a ∷ b ∷ c ∷ d ∷ []) n = absurd (omega (arith, n))
eight (a ∷ b ∷ c ∷ d ∷ e ∷ []) n = absurd (omega (arith, n))
eight (a ∷ b ∷ c ∷ d ∷ e ∷ f ∷ []) n = absurd (omega (arith, n))
eight (a ∷ b ∷ c ∷ d ∷ e ∷ f ∷ g ∷ []) n = absurd (omega (arith, n))
eight (a ∷ b ∷ c ∷ d ∷ e ∷ f ∷ g ∷ h ∷ i ∷ bs) n = absurd (omega (arith, n))

zeros : (n : ℕ) → number_of (replicate n 0) ≡ 0
zeros zero = refl
zeros (suc n) = omega (arith, zeros n)

front_number : (xs : List ℕ) (n : ℕ) → number_of (xs ++ replicate n 0) ≡ number_of xs
front_number [] n = zeros n
front_number (x ∷ xs) n = ap (λ k. x + 256 * k) (front_number xs n)

pub front_of : (bs front : List ℕ) (n : ℕ) → length bs ≡ 8 → bs ≡ front ++ replicate n 0 → from_le_bytes w64 bs ≡ number_of front
front_of bs front n len e = eight bs len ∙ (ap number_of e ∙ front_number front n)

and_0 : (a b : Bool) → (a && b) ≡ true → a ≡ true
and_0 true b h = refl
and_0 false b h = h

and_1 : (a b : Bool) → (a && b) ≡ true → b ≡ true
and_1 true b h = h
and_1 false b h = absurd (cc)

le_of : (a b : ℕ) → nat_le a b ≡ true → a ≤ b
le_of a b h = grind (arith, nat_tests)

-- a live row that has the range
pub record IsLive (rows : List Row) (a n : ℕ) (r : Row) : Type 0 where
  pub index : ℕ
  pub at : slice_get rows index ≡ Some r
  pub low : r.addr ≤ a
  pub fits : a + n ≤ end_of r
  pub live : r.live ≡ true

pub is_live : (rows : List Row) (a n : ℕ) (r : Row) → live_at rows a n ≡ Some r → IsLive rows a n r
is_live rows a n r = by_found (find (reaches a) rows) refl
  where
    by_test : (x : Row) → find (reaches a) rows ≡ Some x → (b : Bool) → (x.live && nat_le (a + n) (end_of x)) ≡ b → cond b (Some x) None ≡ Some r → IsLive rows a n r
    by_test x f true t e =
        let same : x ≡ r = cc in
        let g = found (reaches a) rows x f in
        let k = reaches_is a x g.2 in
        subst (λ r. IsLive rows a n r) same (record { index = g.0; at = g.1; low = k.0; fits = le_of (a + n) (end_of x) (and_1 x.live (nat_le (a + n) (end_of x)) t); live = and_0 x.live (nat_le (a + n) (end_of x)) t })
    by_test x f false t e = absurd (cc)

    by_found : (o : Option Row) → find (reaches a) rows ≡ o → then_option o (λ r. cond (r.live && nat_le (a + n) (end_of r)) (Some r) None) ≡ Some r → IsLive rows a n r
    by_found None f e = absurd (cc)
    by_found (Some x) f e = by_test x f (x.live && nat_le (a + n) (end_of x)) refl e

module _ (m : Content) (rows : List Row) (mapped : IsMapped m rows) (a n : ℕ) (r : Row) (e : live_at rows a n ≡ Some r) where
  pub row : IsLive rows a n r
  row = is_live rows a n r e

  pub object : HasObject m r
  object = mapped.live row.index r row.at row.live

  abbrev pub bytes : List ℕ
  bytes = object.0

  pub got : get m r.addr ≡ Some bytes
  got = object.1

  pub holds : Holds m r.addr bytes a n
  holds = let l = row in let o = object in record { at = got; low = l.low; high = omega (arith, l.fits, o.2) }

  pub inside : IsInside m a n
  inside = (r.addr, bytes, holds)

  pub piece_there : read_at m rows a n ≡ Some (piece_at bytes (a - r.addr) n)
  piece_there =
      ap (λ o. then_option o (λ r. option_map (λ bytes. piece_at bytes (a - r.addr) n) (get m r.addr))) e ∙ ap (option_map (λ bytes. piece_at bytes (a - r.addr) n)) got

  pub piece_long : length (piece_at bytes (a - r.addr) n) ≡ n
  piece_long = let l = row in let o = object in simp (length-take, length-drop) (omega (arith, l.fits, l.low, o.2))

  pub number_there : (number : ℕ) → ((start : ℕ) (bytes : List ℕ) → Holds m start bytes a n → number ≡ number_of (piece_at bytes (a - start) n)) → Some number ≡ option_map number_of (read_at m rows a n)
  number_there number is = ap Some (is r.addr bytes holds) ∙ sym (ap (option_map number_of) piece_there)

pub piece_length : (m : Content) (start : ℕ) (bytes : List ℕ) (a n : ℕ) → Holds m start bytes a n → length (piece_at bytes (a - start) n) ≡ n
piece_length m start bytes a n h = simp (length-take, length-drop) (omega (arith, h.low, h.high))

abbrev pub zero_bytes : ℕ → List ℕ
zero_bytes n = replicate n 0

pub zeros_left : (m n : ℕ) → drop n (zero_bytes m) ≡ zero_bytes (m - n)
zeros_left m zero = let e : m ≡ m - 0 = omega arith in ap zero_bytes e
zeros_left zero (suc n) = let e : 0 ≡ 0 - suc n = omega arith in ap zero_bytes e
zeros_left (suc m) (suc n) = let e : m - n ≡ suc m - suc n = omega arith in zeros_left m n ∙ ap zero_bytes e

-- what `copy_out` puts before zeros
pub read_front : (m : Content) (a n start : ℕ) (bytes into : List ℕ) (number : ℕ) → n ≤ 8 → Holds m start bytes a n → ((start : ℕ) (bytes : List ℕ) → Holds m start bytes a (length (take n (zero_bytes 8))) → into ≡ piece_at bytes (a - start) (length (take n (zero_bytes 8)))) → ((front : List ℕ) → length front ≡ n → into ++ drop n (zero_bytes 8) ≡ front ++ zero_bytes (8 - n) → number ≡ number_of front) → number ≡ number_of (piece_at bytes (a - start) n)
read_front m a n start bytes into number le h read is =
    let count : length (take n (zero_bytes 8)) ≡ n = length-take-le n (zero_bytes 8) le in
    let whole : Holds m start bytes a (length (take n (zero_bytes 8))) = subst (λ k. Holds m start bytes a k) (sym count) h in
    let piece : into ≡ piece_at bytes (a - start) n = read start bytes whole ∙ ap (piece_at bytes (a - start)) count in
    is into (ap length piece ∙ piece_length m start bytes a n h) (ap (λ l. into ++ l) (zeros_left 8 n)) ∙ ap number_of piece
