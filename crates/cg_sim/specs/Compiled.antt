-- When machine code is that of a program. More functions may stand behind the program's.
use Rattle.std.specs.Prelude.{◌≡◌, ℕ, Some, length, slice_get}
use Rattle.c_types.specs.Layout.{size_of}
use Rattle.src_tree.specs.declared.program.Function.{Function}
use Rattle.src_tree.specs.declared.program.Global as Text
use Rattle.src_tree.specs.declared.program.Site.{Site}
use Rattle.src_tree.specs.declared.program.Program.{Program}
use Rattle.src_meaning.specs.Initial.{initial_store}
use Rattle.src_meaning.specs.Objects.{addresses}
use Rattle.bm_code.specs.declared.code.MachineCode.{MachineCode}
use Rattle.bm_code.specs.declared.code.MachineGlobal.{MachineGlobal}
use Rattle.bm_code.specs.declared.code.MachineSite.{MachineSite}
use Rattle.cg_expr.specs.Code.{Target}
use Rattle.cg_stmt.specs.Functions.{machine_function}

-- what code is made for: the globals stand at the addresses of their objects in the initial store
abbrev pub target_of : Program → Target
target_of p = record { types = p.types; starts = addresses p.types (initial_store p); functions = p.functions }

abbrev pub machine_site : Site → MachineSite
machine_site s = record { function = s.function; ordinal = s.ordinal; elem = s.elem }

-- a global of the machine of as many bytes as the type has
pub record HasGlobal (code : MachineCode) (p : Program) (g : ℕ) (d : Text.Global) : Type 0 where
  pub global : MachineGlobal
  pub is : slice_get code.globals g ≡ Some global
  pub long : length global.bytes ≡ size_of p.types d.ty

-- the program's types, and its functions, sites and globals at their numbers
pub record IsCompiled (p : Program) (code : MachineCode) : Type 0 where
  pub types : code.types ≡ p.types
  pub functions : (f : ℕ) (d : Function) → slice_get p.functions f ≡ Some d → slice_get code.functions f ≡ Some (machine_function (target_of p) d)
  pub sites : (k : ℕ) (d : Site) → slice_get p.sites k ≡ Some d → slice_get code.sites k ≡ Some (machine_site d)
  pub globals : (g : ℕ) (d : Text.Global) → slice_get p.globals g ≡ Some d → HasGlobal code p g d
