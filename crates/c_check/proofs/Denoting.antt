-- A verdict in a table of the types of a text is what the text denotes.
use Rattle.std.proofs.Common.{◌≡◌, ◌∙◌, refl, sym, ap, subst, ℕ, true, List, [], Result, Ok, Err}
use Rattle.std.specs.Prelude.{IfOk, IfErr, IsTrue}
use Rattle.c_types.specs.declared.parts.Parts.{Parts}
use Rattle.c_ast.specs.Trees.{Declaration}
use Rattle.src_tree.specs.declared.program.Program.{Program}
use Rattle.src_meaning.specs.ValidNames.{are_distinct}
use Rattle.c_check_scope.specs.Rules.{has, IsLeast}
use Rattle.c_check_table.specs.Tables.{types_of}
use Rattle.c_check.specs.declared.standing.Standing.{Standing}
use Rattle.c_check_table.specs.Outlines.{outline}
use Rattle.c_check_table.proofs.DistinctNames.{texts_are_distinct}
use Rattle.c_check.specs.declared.verdict.Broken.{Broken}
use Rattle.c_check.specs.Verdict.{finished, judged_in, scope_of, verdict}
use Rattle.c_check.specs.Denotation.{IsTableOf, Denotes, Breaks, IsBroken, breaks_rule}

pub denotes : (pointer : ℕ) (text : List Declaration) (table : Parts) (r : Result Program Broken) → IsTableOf pointer text table → r ≡ verdict table text → IfOk r (λ p. p.types ≡ table) → IfOk r (Denotes pointer text)
denotes pointer text table (Ok p) t e same =
    record { types = subst (IsTableOf pointer text) (sym same) t; is = ap (λ q. verdict q text) (sym t.is) ∙ sym e }
denotes pointer text table (Err b) t e same = same

pub breaks : (pointer : ℕ) (text : List Declaration) (table : Parts) (r : Result Program Broken) → IsTableOf pointer text table → r ≡ verdict table text → IfErr r (Breaks pointer text)
breaks pointer text table (Ok p) t e = tt
breaks pointer text table (Err b) t e = ap (λ q. verdict q text) (sym t.is) ∙ sym e

-- the least code of the rules that the first declaration breaks
pub refuses : (pointer : ℕ) (text : List Declaration) (broken : Broken) (least : ℕ) → Breaks pointer text broken → IsLeast (λ c. has broken.rules c ≡ true) least → IsLeast (breaks_rule pointer text broken.decl) least
refuses pointer text broken least first l =
    subst (λ v. IsLeast (λ c. IsBroken broken.decl c v) least) (sym first) (record { is = (refl, l.is); first = λ m h. l.first m h.1 })

abbrev names_in : Result Program Broken → List (List ℕ)
names_in (Ok program) = program.names
names_in (Err b) = []

-- the names of a program that is made are the texts of the outline
finished_names : (texts : List (List ℕ)) (r : Result Standing Broken) (program : Program) → finished texts r ≡ Ok program → program.names ≡ texts
finished_names texts (Ok s) program e = sym (ap names_in e)
finished_names texts (Err b) program e = absurd (cc)

-- no two names of the program that a text denotes are equal
pub names_are_distinct : (pointer : ℕ) (text : List Declaration) (program : Program) → Denotes pointer text program → IsTrue (are_distinct program.names)
names_are_distinct pointer text program d =
    ap are_distinct (finished_names (outline text).texts (judged_in (scope_of (types_of pointer text) text) text) program d.is) ∙ texts_are_distinct text
