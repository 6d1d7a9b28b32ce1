use Rattle.std.proofs.Common.{◌+◌, ◌*◌, length}
use Rattle.src_model.proofs.valid_types.+is_declared.Given as goal

abbrev pub decreases-are_declared_scalars : goal.decreases-are_declared_scalars
decreases-are_declared_scalars l = 200 * l.room + 2 + length l.types.now

abbrev pub decreases-is_declared : goal.decreases-is_declared
decreases-is_declared l = 200 * l.room

abbrev pub decreases-is_declared_scalar : goal.decreases-is_declared_scalar
decreases-is_declared_scalar l = 200 * l.room + 1

abbrev pub decreases-is_signature_declared : goal.decreases-is_signature_declared
decreases-is_signature_declared l = 200 * l.room + 197

abbrev pub decreases-is_numbered_signature_declared : goal.decreases-is_numbered_signature_declared
decreases-is_numbered_signature_declared l = 200 * l.room + 198

abbrev pub decreases-is_pointer_declared : goal.decreases-is_pointer_declared
decreases-is_pointer_declared l = 200 * l.room + 199
