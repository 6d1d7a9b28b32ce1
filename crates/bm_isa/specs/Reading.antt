-- What stands at the front of the bytes behind an instruction's number.
use Rattle.std.specs.Prelude.{◌≡◌, ◌≢◌, ℕ, List, ◌++◌}
use Rattle.bm_isa.specs.declared.instr.Instr.{Instr}
use Rattle.bm_isa.specs.declared.instr.Operands.{Operands}
use Rattle.bm_isa.specs.declared.instr.Operands.TheVariants.{Nothing, One, Two, Three, Word}
use Rattle.bm_isa.specs.Encoding.{parts_of, operand_bytes, OperandsFit, FitsMachine}

abbrev pub IsWord : Operands → Type 0
IsWord Nothing = ⊥
IsWord (One a) = ⊥
IsWord (Two a b) = ⊥
IsWord (Three a b c) = ⊥
IsWord (Word word) = Unit {0}

-- one to three operands
abbrev pub HasNumbers : Operands → Type 0
HasNumbers Nothing = ⊥
HasNumbers (One a) = Unit {0}
HasNumbers (Two a b) = Unit {0}
HasNumbers (Three a b c) = Unit {0}
HasNumbers (Word word) = ⊥

-- no instruction with that number has operands of the kind that stand at the front
abbrev pub NoneReads : (Operands → Type 0) → ℕ → List ℕ → Type 0
NoneReads Kind number bytes =
    (o : Operands) (rest : List ℕ) → Kind o → OperandsFit o → bytes ≡ operand_bytes o ++ rest → (i : Instr) → parts_of i ≢ (number, o)

-- the instruction has that number, and its operands stand at the front
pub record IsRead (number : ℕ) (bytes : List ℕ) (i : Instr) (rest : List ℕ) : Type 0 where
  pub same : (parts_of i).0 ≡ number
  pub split : bytes ≡ operand_bytes (parts_of i).1 ++ rest
  pub fits : FitsMachine i
