-- Words of contracts on renames and their refusals.
use Rattle.std.specs.Prelude.{◌≡◌, List, Option, Some, None, Result, Ok, Err}
use Rattle.lu_image.specs.declared.rename.Rename.{Rename}
use Rattle.lu_image.specs.declared.pairing.Pairing.{Pairing}
use Rattle.lu_image.specs.declared.error.PairError.{PairError}
use Rattle.lu_image.specs.declared.error.PairError.TheVariants.{NoSuch, Twice, Memory}
use Rattle.lu_image.specs.Names.{Names}
use Rattle.lu_image.specs.Pairing.{old_names, given_names}

-- the names that renames stand by
pub record HasNames (renames : List Rename) (olds givens : Names) : Type 0 where
  pub old : olds ≡ old_names renames
  pub given : givens ≡ given_names renames

-- an error of a definition, against an error of a call; want of memory says nothing
abbrev pub IsErrorOf : Option PairError → PairError → Type 0
IsErrorOf refusal Memory = Unit {0}
IsErrorOf refusal (NoSuch table name) = refusal ≡ Some (NoSuch table name)
IsErrorOf refusal (Twice table name) = refusal ≡ Some (Twice table name)

-- a call that answers an error gives that refusal, and one that passes says that there is none
abbrev pub IsRefusedBy : {A : Type 0} → Option PairError → Result A PairError → Type 0
IsRefusedBy refusal (Ok a) = refusal ≡ None
IsRefusedBy refusal (Err e) = IsErrorOf refusal e

-- what a call answers is what the definition gives, or want of memory
abbrev pub IsPairedBy : Result Pairing PairError → Result Pairing PairError → Type 0
IsPairedBy given (Ok p) = given ≡ Ok p
IsPairedBy given (Err Memory) = Unit {0}
IsPairedBy given (Err (NoSuch table name)) = given ≡ Err (NoSuch table name)
IsPairedBy given (Err (Twice table name)) = given ≡ Err (Twice table name)
