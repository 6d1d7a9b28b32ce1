-- Words of clauses.
use Rattle.std.specs.Prelude.{ℕ, ◌<◌, Bool, MatchBool, Option, MatchOption}

-- the answer says whether the fact holds
abbrev pub Tells : Bool → Type 0 → Type 0
Tells answer P = MatchBool answer P (P → ⊥)

-- nothing is so
abbrev pub NoneIs : (ℕ → Type 0) → Type 0
NoneIs P = (n : ℕ) → P n → ⊥

-- the least number that is so
pub record IsLeast (P : ℕ → Type 0) (n : ℕ) : Type 0 where
  pub here : P n
  pub before : (m : ℕ) → m < n → P m → ⊥

-- the answer is the least number that is so, and none where there is none
abbrev pub IsFirst : (ℕ → Type 0) → Option ℕ → Type 0
IsFirst P answer = MatchOption answer (NoneIs P) (IsLeast P)
