-- What a text denotes: a program, or the first declaration that breaks a rule.
use Rattle.std.specs.Prelude.{◌≡◌, ⊤, ℕ, Bool, true, ◌&&◌, IsTrue, List, Result, Ok, Err}
use Rattle.c_types.specs.declared.parts.Parts.{Parts}
use Rattle.c_types.specs.Refusal.{IsBuilt}
use Rattle.c_ast.specs.Trees.{Declaration}
use Rattle.src_tree.specs.declared.program.Program.{Program}
use Rattle.src_meaning.specs.ValidTable.{has_types}
use Rattle.c_check_scope.specs.declared.scope.Scope.{Scope}
use Rattle.c_check_scope.specs.Rules.{has, IsLeast}
use Rattle.c_check_table.specs.Known.{knows_declarations}
use Rattle.c_check_table.specs.Tally.{has_records}
use Rattle.c_check_table.specs.Tables.{types_of}
use Rattle.c_check.specs.declared.verdict.Broken.{Broken}
use Rattle.c_check_scope.specs.declared.error.CheckError.{CheckError}
use Rattle.c_check_scope.specs.declared.error.CheckError.TheVariants.{Rule, Memory}
use Rattle.c_check.specs.Verdict.{scope_of, verdict}

-- the table has the types that each program has, and the signatures, structs, unions and arrays of the text
unfoldable pub has_declarations : Scope → List Declaration → Bool
has_declarations scope text = knows_declarations scope text && has_records scope text

-- the types that each program has
unfoldable pub has_common : Parts → Bool
has_common p = has_types p

abbrev pub has_text : Parts → List Declaration → Bool
has_text p text = has_common p && has_declarations (scope_of p text) text

-- the table of the types of a text whose pointers take so many bytes, which can be built and has all that it is asked for
pub record IsTableOf (pointer : ℕ) (text : List Declaration) (p : Parts) : Type 0 where
  pub is : p ≡ types_of pointer text
  pub built : IsBuilt p
  pub has : IsTrue (has_text p text)

-- a text that breaks no rule denotes this program, where pointers take so many bytes
pub record Denotes (pointer : ℕ) (text : List Declaration) (program : Program) : Type 0 where
  pub types : IsTableOf pointer text program.types
  pub is : verdict (types_of pointer text) text ≡ Ok program

-- this declaration of a text is the first that breaks a rule, and these are the rules that it breaks
abbrev pub Breaks : ℕ → List Declaration → Broken → Type 0
Breaks pointer text broken = verdict (types_of pointer text) text ≡ Err broken

abbrev pub IsBroken : ℕ → ℕ → Result Program Broken → Type 0
IsBroken n c (Ok program) = ⊥
IsBroken n c (Err broken) = (broken.decl ≡ n) × (has broken.rules c ≡ true)

-- declaration n of a text is the first that breaks a rule, and it breaks the rule of code c
abbrev pub breaks_rule : ℕ → List Declaration → ℕ → ℕ → Type 0
breaks_rule pointer text n c = IsBroken n c (verdict (types_of pointer text) text)

-- why a text is refused: the first declaration that breaks a rule, with the least code of those that it breaks
abbrev pub Refuses : ℕ → List Declaration → CheckError → Type 0
Refuses pointer text (Rule n least) = IsLeast (breaks_rule pointer text n) least
Refuses pointer text Memory = ⊤
