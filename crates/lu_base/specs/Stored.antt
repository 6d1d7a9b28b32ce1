-- Files and output in memory, with the calls that fail.
use Rattle.std.specs.Prelude.{◌≡◌, ℕ, ◌+◌, List, [], ◌∷◌, ◌++◌, take, Bool, min, nat_eq, Option, Some, None, Result, Ok, Err, if◌then◌else◌}
use Rattle.std.specs.List.{list_any}
use Rattle.lu_base.specs.declared.sink.SinkFault.{SinkFault}
use Rattle.lu_base.specs.declared.sink.SinkFault.TheVariants.{Failed, Memory}

-- the number of the next call, which stands still at 2^64 - 1
abbrev pub next_call : ℕ → ℕ
next_call calls = min (calls + 1) 18446744073709551615

pub record StoredFiles : Type 0 where
  pub files : List (List ℕ × List ℕ)
  -- the numbers of the calls that fail
  pub failing : List ℕ
  -- the calls so far
  pub calls : ℕ
  pub faults : ℕ

abbrev pub is_failing : StoredFiles → Bool
is_failing s = list_any (λ k. nat_eq k (next_call s.calls)) s.failing

pub record StoredOutput : Type 0 where
  pub written : List ℕ
  -- the numbers of the calls that fail, each with the length of the front that goes out
  pub failing : List (ℕ × ℕ)
  pub calls : ℕ
  pub faults : ℕ

-- the length of the front that goes out in that call, or None where it doesn't fail: the first entry counts
abbrev pub front_in : List (ℕ × ℕ) → ℕ → Option ℕ
front_in [] call = None
front_in (entry ∷ entries) call = if nat_eq entry.0 call then Some entry.1 else front_in entries call

-- What a write does: where its number is in the list, the front goes out and it fails, or it finds no memory.
abbrev pub FrontAnswers : {A : Type 0} → StoredOutput → List ℕ → StoredOutput → Option ℕ → Result A SinkFault → Type 0
FrontAnswers old piece new None (Ok _) = new.written ≡ old.written ++ piece
FrontAnswers old piece new None (Err Failed) = ⊥
FrontAnswers old piece new (Some front) (Ok _) = ⊥
FrontAnswers old piece new (Some front) (Err Failed) = new.written ≡ old.written ++ take front piece
FrontAnswers old piece new call (Err Memory) = new.written ≡ old.written

pub record OutputAnswers {A : Type 0} (old : StoredOutput) (piece : List ℕ) (new : StoredOutput) (result : Result A SinkFault) : Type 0 where
  pub written : FrontAnswers old piece new (front_in old.failing (next_call old.calls)) result
  pub failing : new.failing ≡ old.failing
  pub calls : new.calls ≡ next_call old.calls
