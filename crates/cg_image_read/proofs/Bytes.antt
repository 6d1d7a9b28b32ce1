-- Numbers and pieces of bytes: what is read is the number that was written, and what was written is read again.
use Rattle.std.proofs.Common.{◌≡◌, ◌∙◌, ap, sym, refl, ℕ, suc, ◌+◌, ◌^◌, ◌<◌, ◌≤◌, false, ltb, List, ◌∷◌, ◌++◌, length, get_or, take, drop, append_assoc, arith, inl, inr}
use Rattle.std.specs.Int.{w32, w64, from_le_bytes}
use Rattle.std.proofs.lemmas.Bool.{cases_lt, le-ltb}
use Rattle.std.proofs.lemmas.List.{take_at, drop_at, length-append, length-take, get_or-drop, get_or-take, get_or_past}
use Rattle.std.proofs.lemmas.Nat.{from_le_bytes-to_le_bytes_4}
use Rattle.lu_spec.specs.LittleEndian.{little_endian}
use Rattle.lu_spec.proofs.LittleEndianLemmas.{front_4, front_8, little_endian-4, length-little_endian}

abbrev pub IsBytes : List ℕ → Type 0
IsBytes bytes = (i : ℕ) → get_or bytes i 0 < 256

pub IsBytes-drop : (n : ℕ) (bytes : List ℕ) → IsBytes bytes → IsBytes (drop n bytes)
IsBytes-drop n bytes h i = rw get_or-drop (h (n + i))

pub IsBytes-take : (n : ℕ) (bytes : List ℕ) → IsBytes bytes → IsBytes (take n bytes)
IsBytes-take n bytes h i =
    elim (cases_lt i n) [
      | inl lt ↦ rw (get_or-take n bytes i 0 lt) (h i)
      | inr le ↦ rw (get_or_past (take n bytes) i 0 (omega (arith, length-take n bytes))) (omega arith)
    ]

pub IsBytes-rest : (b : ℕ) (bytes : List ℕ) → IsBytes (b ∷ bytes) → IsBytes bytes
IsBytes-rest b bytes h i = h (suc i)

-- what a reader took from the front
pub record Takes (bytes text rest : List ℕ) : Type 0 where
  pub parts : bytes ≡ text ++ rest
  pub fits : IsBytes rest

pub Takes-then : (a x b y c : List ℕ) → Takes a x b → Takes b y c → Takes a (x ++ y) c
Takes-then a x b y c p q = record { parts = p.parts ∙ ap (λ (t : List ℕ). x ++ t) q.parts ∙ sym (append_assoc x y c); fits = q.fits }

pub low_4 : (bytes : List ℕ) → IsBytes bytes → from_le_bytes w32 bytes < 2 ^ 32
low_4 bytes fits = omega (arith, fits 0, fits 1, fits 2, fits 3)

pub low_8 : (bytes : List ℕ) → IsBytes bytes → from_le_bytes w64 bytes < 2 ^ 64
low_8 bytes fits = omega (arith, fits 0, fits 1, fits 2, fits 3, fits 4, fits 5, fits 6, fits 7)

-- the number at the front
pub takes_4 : (bytes : List ℕ) → IsBytes bytes → 4 ≤ length bytes
    → Takes bytes (little_endian 4 (from_le_bytes w32 (take 4 bytes))) (drop 4 bytes) × (from_le_bytes w32 (take 4 bytes) < 2 ^ 32)
takes_4 bytes fits long =
    (record { parts = front_4 bytes (from_le_bytes w32 (take 4 bytes)) long fits refl; fits = IsBytes-drop 4 bytes fits }, low_4 (take 4 bytes) (IsBytes-take 4 bytes fits))

pub takes_8 : (bytes : List ℕ) → IsBytes bytes → 8 ≤ length bytes
    → Takes bytes (little_endian 8 (from_le_bytes w64 (take 8 bytes))) (drop 8 bytes) × (from_le_bytes w64 (take 8 bytes) < 2 ^ 64)
takes_8 bytes fits long =
    (record { parts = front_8 bytes (from_le_bytes w64 (take 8 bytes)) long fits refl; fits = IsBytes-drop 8 bytes fits }, low_8 (take 8 bytes) (IsBytes-take 8 bytes fits))

pub again_4 : (n : ℕ) (rest : List ℕ) → n < 2 ^ 32 → from_le_bytes w32 (take 4 (little_endian 4 n ++ rest)) ≡ n
again_4 n rest low =
    ap (from_le_bytes w32) (take_at (little_endian 4 n) rest 4 (length-little_endian 4 n) ∙ sym (little_endian-4 n)) ∙ from_le_bytes-to_le_bytes_4 n low

pub behind_4 : (n : ℕ) (rest : List ℕ) → drop 4 (little_endian 4 n ++ rest) ≡ rest
behind_4 n rest = drop_at (little_endian 4 n) rest 4 (length-little_endian 4 n)

pub behind_8 : (n : ℕ) (rest : List ℕ) → drop 8 (little_endian 8 n ++ rest) ≡ rest
behind_8 n rest = drop_at (little_endian 8 n) rest 8 (length-little_endian 8 n)

pub enough : (n k : ℕ) (rest : List ℕ) → ltb (length (little_endian k n ++ rest)) k ≡ false
enough n k rest = le-ltb _ _ (omega (arith, length-append (little_endian k n) rest, length-little_endian k n))
