-- The machine's functions: those of a program, and those of its filters, which are hidden.
use Rattle.std.specs.Prelude.{ℕ, ◌+◌, Bool, ◌&&◌, if◌then◌else◌, List, [], ◌∷◌, ◌++◌, length, Option, Some, None}
use Rattle.c_types.specs.declared.parts.Signature.{Signature}
use Rattle.lu_base.specs.declared.limits.TheConstants.{STACK_HEIGHT}
use Rattle.bm_isa.specs.declared.instr.Instr.{Instr}
use Rattle.bm_isa.specs.declared.instr.Instr.TheVariants as I
use Rattle.bm_code.specs.declared.code.MachineFunction.{MachineFunction}
use Rattle.src_tree.specs.declared.expr.TypedExpr.{TypedExpr}
use Rattle.src_tree.specs.declared.program.Function.{Function}
use Rattle.src_tree.specs.Signatures.{same_numbers, same_result}
use Rattle.cg_expr.specs.Code.{Target, expression_code}
use Rattle.cg_stmt.specs.StatementCode.{exits, body_code}

-- the end of a body gives zero
abbrev pub end_code : Option ℕ → List Instr
end_code None = I.Return ∷ []
end_code (Some t) = I.Const 0 ∷ I.ReturnValue ∷ []

-- a function's code; no statement outside a loop leaves one
abbrev pub function_code : Target → Function → List Instr
function_code at f = body_code at f.body (exits 0 0) 0 ++ end_code f.ret

-- a filter's code: it hands its truth on as a panic with 1 or 0
abbrev pub filter_code : Target → TypedExpr → List Instr
filter_code at e = expression_code at e.ty e.kind 0 ++ (I.Not ∷ I.Not ∷ I.Panic ∷ [])

abbrev pub is_signature : Signature → Option ℕ → List ℕ → Bool
is_signature s ret params = same_result ret s.result && same_numbers params s.params

-- the number of the first signature with this result and these parameters; where there is none, the number of all
abbrev pub signature_number : List Signature → Option ℕ → List ℕ → ℕ
signature_number [] ret params = 0
signature_number (s ∷ ss) ret params =
    if is_signature s ret params then 0 else signature_number ss ret params + 1

abbrev pub machine_function : Target → Function → MachineFunction
machine_function at f = record {
  name = f.name;
  signature = signature_number at.types.signatures f.ret f.params;
  locals = length f.params + length f.locals;
  height = STACK_HEIGHT;
  code = function_code at f;
}

-- The hidden function of a filter, where there are so many names. Its signature is that of `init`, `void (void)`, since
-- the table needn't have one with the filter's type.
abbrev pub filter_function : Target → ℕ → TypedExpr → MachineFunction
filter_function at names e = record {
  name = names;
  signature = signature_number at.types.signatures None [];
  locals = 0;
  height = STACK_HEIGHT;
  code = filter_code at e;
}
