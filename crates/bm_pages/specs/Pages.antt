-- Bytes by address, in pages of 4,096 bytes.
use Rattle.std.specs.Prelude.{◌≡◌, ℕ, zero, suc, ◌+◌, ◌<◌, ◌≤◌, ◌/◌, ◌%◌, List, [], ◌∷◌, length, slice_index}

-- the bytes of each page, by its number; a page without memory has none
abbrev pub Pages : Type 0
Pages = ℕ → List ℕ

-- the byte at an address
abbrev pub byte_at : Pages → ℕ → ℕ
byte_at pages addr = slice_index (pages (addr / 4096)) (addr % 4096)

-- so many bytes from an address on
abbrev pub bytes_from : Pages → ℕ → ℕ → List ℕ
bytes_from pages addr zero = []
bytes_from pages addr (suc count) = byte_at pages addr ∷ bytes_from pages (addr + 1) count

-- the page has memory
abbrev pub IsThere : Pages → ℕ → Type 0
IsThere pages page = length (pages page) ≡ 4096

-- each byte of the range has a page
abbrev pub IsBacked : Pages → ℕ → ℕ → Type 0
IsBacked pages addr count = (k : ℕ) → k < count → IsThere pages ((addr + k) / 4096)

-- the range has this piece, and all other bytes and the lengths of all pages are as they were
pub record IsOverwritten (old new : Pages) (addr : ℕ) (piece : List ℕ) : Type 0 where
  pub piece_there : (k : ℕ) → k < length piece → byte_at new (addr + k) ≡ slice_index piece k
  pub below : (q : ℕ) → q < addr → byte_at new q ≡ byte_at old q
  pub above : (q : ℕ) → addr + length piece ≤ q → byte_at new q ≡ byte_at old q
  pub lengths : (page : ℕ) → length (new page) ≡ length (old page)
