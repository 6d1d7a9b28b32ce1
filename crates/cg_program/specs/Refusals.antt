-- Why a program has no code.
use Rattle.std.specs.Prelude.{◌≡◌, Some, None}
use Rattle.src_tree.specs.declared.program.Program.{Program}
use Rattle.cg_program.specs.declared.error.CompileError.{CompileError}
use Rattle.cg_program.specs.declared.error.CompileError.TheVariants.{TooLong, Memory}
use Rattle.cg_program.specs.Compiled.{first_long}

-- the first function that is too long; want of memory says that none is
abbrev pub Refuses : Program → CompileError → Type 0
Refuses p (TooLong f) = first_long p.functions ≡ Some f
Refuses p Memory = first_long p.functions ≡ None
