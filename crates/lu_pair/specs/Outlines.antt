-- The type of a function.
use Rattle.c_types.specs.declared.parts.Signature.{Signature}
use Rattle.src_tree.specs.declared.program.Function.{Function}

abbrev pub signature_of : Function → Signature
signature_of f = record { result = f.ret; params = f.params }
