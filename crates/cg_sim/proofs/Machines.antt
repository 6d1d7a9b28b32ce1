-- The code of a function of the machine, and what stands in the code of statements.
use Rattle.std.proofs.Common.{◌≡◌, refl, ℕ, ◌+◌, List, length, Some}
use Rattle.std.specs.Prelude.{slice_get}
use Rattle.c_types.specs.declared.parts.Signature.{Signature}
use Rattle.lu_base.specs.declared.limits.TheConstants.{STACK_HEIGHT}
use Rattle.src_tree.specs.declared.program.Function.{Function}
use Rattle.src_tree.specs.declared.program.Program.{Program}
use Rattle.src_tree.specs.declared.stmt.TypedStmt.{Row_of-TypedStmt, end_of-TypedStmt, more_of-TypedStmt}
use Rattle.bm_code.specs.declared.code.MachineFunction.{MachineFunction}
use Rattle.cg_expr.specs.Code.{Target}
use Rattle.cg_expr.proofs.Lengths.{two}
use Rattle.cg_stmt.specs.declared.statements.Exits.{Exits}
use Rattle.cg_stmt.specs.StatementSizes.{statement_size, row_size}
use Rattle.cg_stmt.specs.StatementCode.{statement_code, row_code}
use Rattle.cg_stmt.specs.Functions.{function_code}
use Rattle.cg_stmt.proofs.CodeLengths.{length-statement}

abbrev pub target_at : Program → List ℕ → Target
target_at p starts = record { types = p.types; starts = starts; functions = p.functions }

-- the code of a function, whose signature stands in the table
pub record IsCode (at : Target) (f : Function) (m : MachineFunction) : Type 0 where
  pub signature : Signature
  pub is : slice_get at.types.signatures m.signature ≡ Some signature
  pub result : signature.result ≡ f.ret
  pub params : signature.params ≡ f.params
  pub locals : m.locals ≡ length f.params + length f.locals
  pub height : m.height ≡ STACK_HEIGHT
  pub code : m.code ≡ function_code at f

pub length-row : {k : _} (at : Target) (xs : Row_of-TypedStmt k) (to : Exits) (pc : ℕ) → length (row_code at xs to pc) ≡ row_size at xs
length-row at end_of-TypedStmt to pc = refl
length-row at (more_of-TypedStmt x rest) to pc =
    two (statement_code at x to pc) (row_code at rest to (pc + statement_size at x)) _ _ (length-statement at x to pc) (length-row at rest to (pc + statement_size at x))
