-- The causes for which the names of an update are refused, by those of the crate below.
use Rattle.std.specs.Prelude.{◌≡◌, ⊤, Result, Ok, Err}
use Rattle.lu_image.specs.declared.rename.Table.{Table}
use Rattle.lu_image.specs.declared.rename.Table.TheVariants as table
use Rattle.lu_image.specs.declared.error.PairError.{PairError}
use Rattle.lu_image.specs.declared.error.PairError.TheVariants as pair_error
use Rattle.lu_load_lines.specs.declared.refusal.NameKind.{NameKind}
use Rattle.lu_load_lines.specs.declared.refusal.NameKind.TheVariants as kind
use Rattle.lu_load_lines.specs.declared.refusal.PairingRefusal.TheVariants.{NoSuch, Twice}
use Rattle.lu_resolve.specs.declared.error.ResolveError.{ResolveError}
use Rattle.lu_resolve.specs.declared.error.ResolveError.TheVariants.{Refused, Memory}

abbrev pub kind_of : Table → NameKind
kind_of table.Global = kind.Global
kind_of table.Struct = kind.Struct
kind_of table.Field = kind.Field
kind_of table.Union = kind.Union
kind_of table.Member = kind.Member
kind_of table.Function = kind.Function
kind_of table.Site = kind.Site

abbrev pub pair_cause : PairError → ResolveError
pair_cause (pair_error.NoSuch table name) = Refused (NoSuch (kind_of table) name)
pair_cause (pair_error.Twice table name) = Refused (Twice (kind_of table) name)
pair_cause pair_error.Memory = Memory

-- what a call answers is what the definition gives, or want of memory
abbrev pub Gives : {A : Type 0} → Result A ResolveError → Result A ResolveError → Type 0
Gives given (Ok a) = given ≡ Ok a
Gives given (Err (Refused why)) = given ≡ Err (Refused why)
Gives given (Err Memory) = ⊤
