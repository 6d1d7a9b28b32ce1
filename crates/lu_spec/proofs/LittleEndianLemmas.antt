-- Numbers as bytes, the lowest first.
use Rattle.std.proofs.Common.{◌≡◌, ◌∙◌, sym, ap, refl, ℕ, zero, suc, ◌<◌, ◌≤◌, ◌^◌, List, [], ◌∷◌, ◌++◌, length, get_or, take, drop, arith}
use Rattle.std.proofs.lemmas.List.{take-append-drop, length-take-le}
use Rattle.std.specs.Int.{bytes_low_first, to_le_bytes, from_le_bytes, w16, w32, w64}
use Rattle.std.proofs.lemmas.Nat.{from_le_bytes-to_le_bytes_4, from_le_bytes-to_le_bytes_8, le_bytes_4, le_bytes_8}
use Rattle.lu_spec.specs.LittleEndian.{little_endian}

length-bytes_low_first : (i count n : ℕ) → length (bytes_low_first i count n) ≡ count
length-bytes_low_first i zero n = refl
length-bytes_low_first i (suc count) n = omega (arith, length-bytes_low_first (suc i) count n)

pub length-little_endian : (count n : ℕ) → length (little_endian count n) ≡ count
unfolding little_endian
length-little_endian count n = length-bytes_low_first 0 count n

-- the bytes that `to_le_bytes` gives
pub little_endian-2 : (n : ℕ) → to_le_bytes w16 n ≡ little_endian 2 n
unfolding little_endian
little_endian-2 n = refl

pub little_endian-4 : (n : ℕ) → to_le_bytes w32 n ≡ little_endian 4 n
unfolding little_endian
little_endian-4 n = refl

pub little_endian-8 : (n : ℕ) → to_le_bytes w64 n ≡ little_endian 8 n
unfolding little_endian
little_endian-8 n = refl

-- numbers with the same bytes are the same
pub same_from_bytes_4 : (m n : ℕ) → m < 2 ^ 32 → n < 2 ^ 32 → little_endian 4 m ≡ little_endian 4 n → m ≡ n
unfolding little_endian
same_from_bytes_4 m n low_m low_n e =
    sym (from_le_bytes-to_le_bytes_4 m low_m) ∙ (ap (from_le_bytes w32) e ∙ from_le_bytes-to_le_bytes_4 n low_n)

pub same_from_bytes_8 : (m n : ℕ) → m < 2 ^ 64 → n < 2 ^ 64 → little_endian 8 m ≡ little_endian 8 n → m ≡ n
unfolding little_endian
same_from_bytes_8 m n low_m low_n e =
    sym (from_le_bytes-to_le_bytes_8 m low_m) ∙ (ap (from_le_bytes w64) e ∙ from_le_bytes-to_le_bytes_8 n low_n)

-- the bytes of the number that `from_le_bytes` reads
pub little_endian-read_4 : (bytes : List ℕ) (n : ℕ) → length bytes ≡ 4 → ((i : ℕ) → get_or bytes i 0 < 256) → n ≡ from_le_bytes w32 bytes → little_endian 4 n ≡ bytes
unfolding little_endian
little_endian-read_4 bytes n long low e = le_bytes_4 bytes n long low e

pub little_endian-read_8 : (bytes : List ℕ) (n : ℕ) → length bytes ≡ 8 → ((i : ℕ) → get_or bytes i 0 < 256) → n ≡ from_le_bytes w64 bytes → little_endian 8 n ≡ bytes
unfolding little_endian
little_endian-read_8 bytes n long low e = le_bytes_8 bytes n long low e

-- the same length in front gives the same front and the same rest
same_fronts : (xs ys rest more : List ℕ) → length xs ≡ length ys → xs ++ rest ≡ ys ++ more → (xs ≡ ys) × (rest ≡ more)
same_fronts [] [] rest more long e = (refl, e)
same_fronts [] (y ∷ ys) rest more long e = absurd (omega arith)
same_fronts (x ∷ xs) [] rest more long e = absurd (omega arith)
same_fronts (x ∷ xs) (y ∷ ys) rest more long e =
    let head : x ≡ y = cc in
    let tail : xs ++ rest ≡ ys ++ more = cc in
    let below = same_fronts xs ys rest more (omega arith) tail in (cc, below.1)

-- one number stands at the front
pub same_front_4 : (m n : ℕ) (rest more : List ℕ) → m < 2 ^ 32 → n < 2 ^ 32 → little_endian 4 m ++ rest ≡ little_endian 4 n ++ more → (m ≡ n) × (rest ≡ more)
same_front_4 m n rest more low_m low_n e =
    let fronts = same_fronts (little_endian 4 m) (little_endian 4 n) rest more (length-little_endian 4 m ∙ sym (length-little_endian 4 n)) e in
    (same_from_bytes_4 m n low_m low_n fronts.0, fronts.1)

pub same_front_8 : (m n : ℕ) (rest more : List ℕ) → m < 2 ^ 64 → n < 2 ^ 64 → little_endian 8 m ++ rest ≡ little_endian 8 n ++ more → (m ≡ n) × (rest ≡ more)
same_front_8 m n rest more low_m low_n e =
    let fronts = same_fronts (little_endian 8 m) (little_endian 8 n) rest more (length-little_endian 8 m ∙ sym (length-little_endian 8 n)) e in
    (same_from_bytes_8 m n low_m low_n fronts.0, fronts.1)

-- bytes of a front of a list
low_front : (n : ℕ) (bytes : List ℕ) → ((i : ℕ) → get_or bytes i 0 < 256) → (i : ℕ) → get_or (take n bytes) i 0 < 256
low_front zero bytes low i = grind arith
low_front (suc n) [] low i = low i
low_front (suc n) (b ∷ bytes) low zero = low zero
low_front (suc n) (b ∷ bytes) low (suc i) = low_front n bytes (λ k. low (suc k)) i

-- the number that is read at the front
pub front_4 : (bytes : List ℕ) (n : ℕ) → 4 ≤ length bytes → ((i : ℕ) → get_or bytes i 0 < 256) → n ≡ from_le_bytes w32 (take 4 bytes) → bytes ≡ little_endian 4 n ++ drop 4 bytes
front_4 bytes n long low e =
    sym (take-append-drop 4 bytes)
    ∙ ap (λ l. l ++ drop 4 bytes) (sym (little_endian-read_4 (take 4 bytes) n (length-take-le 4 bytes long) (low_front 4 bytes low) e))

pub front_8 : (bytes : List ℕ) (n : ℕ) → 8 ≤ length bytes → ((i : ℕ) → get_or bytes i 0 < 256) → n ≡ from_le_bytes w64 (take 8 bytes) → bytes ≡ little_endian 8 n ++ drop 8 bytes
front_8 bytes n long low e =
    sym (take-append-drop 8 bytes)
    ∙ ap (λ l. l ++ drop 8 bytes) (sym (little_endian-read_8 (take 8 bytes) n (length-take-le 8 bytes long) (low_front 8 bytes low) e))
