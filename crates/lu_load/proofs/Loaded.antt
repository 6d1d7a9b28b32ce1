-- Sources that are loaded.
use Rattle.std.proofs.Common.{◌≡◌, ℕ, ◌+◌, ◌<◌, List, [], ◌∷◌, ◌++◌, length, take, Option, Some, None, IfSome, get_or, refl, sym, ap, subst, ◌∙◌, Result, Ok, Err, length-append}
use Rattle.std.proofs.lemmas.List.{take_more, length-map}
use Rattle.lu_base.specs.Files.{Files}
use Rattle.cg_program.specs.Compiled.{Source}
use Rattle.lu_load.specs.declared.source.SourceFile.{SourceFile}
use Rattle.src_tree.specs.declared.program.Program.{Program}
use Rattle.plan_file.specs.declared.plan.Plan.{Plan}
use Rattle.lu_load_lines.specs.declared.refusal.LoadRefusal.TheVariants as of
use Rattle.lu_load.specs.declared.error.LoadError.{LoadError}
use Rattle.lu_load.specs.declared.error.LoadError.TheVariants.{Refused, ReadFault, Memory}
use Rattle.lu_source.specs.Sources.{IsSource}
use Rattle.lu_load.specs.Programs.{pointer_size, IsProgramOf, IsLoaded, AreLoaded, CodeAnswers, SourceAnswers, sources_of}

loaded-behind : (files : Files) (ss : List SourceFile) (cs : List Source) (s : SourceFile) (c : Source)
    → AreLoaded files ss cs → IsLoaded files s c → AreLoaded files (ss ++ s ∷ []) (cs ++ c ∷ [])
loaded-behind files [] [] s c before it = (it, tt)
loaded-behind files (x ∷ xs) (y ∷ ys) s c before it = (before.0, loaded-behind files xs ys s c before.1 it)
loaded-behind files [] (y ∷ ys) s c before it = absurd before
loaded-behind files (x ∷ xs) [] s c before it = absurd before

-- the source at a place is loaded behind those before it
pub loaded-more : (held : Option Files) (ss : List SourceFile) (i : ℕ) (cs : List Source) (s : SourceFile) (c : Source)
    → i < length ss → s ≡ get_or ss i s
    → IfSome held (λ files. AreLoaded files (take i ss) cs) → IfSome held (λ files. IsLoaded files s c)
    → IfSome held (λ files. AreLoaded files (take (i + 1) ss) (cs ++ c ∷ []))
loaded-more None ss i cs s c low here before it = before
loaded-more (Some files) ss i cs s c low here before it =
    let front : take (i + 1) ss ≡ take i ss ++ s ∷ [] = take_more ss i s low ∙ ap (λ y. take i ss ++ y ∷ []) (sym here) in
    let P : List SourceFile → Type 0 = λ xs. AreLoaded files xs (cs ++ c ∷ []) in
    subst P (sym front) (loaded-behind files (take i ss) cs s c before it)

source-told : (files : Files) (s : SourceFile) (program : Program) (r : Result Source LoadError)
    → IsProgramOf files s program → CodeAnswers s program r → SourceAnswers files s r
source-told files s program (Ok code) denoted (same, short) =
    let P : Source → Type 0 = λ c. IsLoaded files s c in
    subst P (sym same) (record { denoted = denoted; short = short; plain = refl })
source-told files s program (Err (Refused (of.TooLong file function))) denoted (same, long) = (same, (program, denoted, long))
source-told files s program (Err (Refused (of.Plan why))) denoted never = absurd never
source-told files s program (Err (Refused (of.Source file why))) denoted never = absurd never
source-told files s program (Err (Refused (of.Filter update why))) denoted never = absurd never
source-told files s program (Err (Refused (of.Pairing update why))) denoted never = absurd never
source-told files s program (Err (Refused (of.Schedule why))) denoted never = absurd never
source-told files s program (Err ReadFault) denoted never = absurd never
source-told files s program (Err Memory) denoted never = tt

-- what the compiler answers of the program that a file has is what is said of the source
pub source-answered : (held : Option Files) (s : SourceFile) (program : Program) (r : Result Source LoadError)
    → IfSome held (λ files. IsProgramOf files s program) → CodeAnswers s program r → IfSome held (λ files. SourceAnswers files s r)
source-answered None s program r denoted told = denoted
source-answered (Some files) s program r denoted told = source-told files s program r denoted told

-- what is told of a file is told of the source whose file it is
pub program-told : (held : Option Files) (s : SourceFile) (pointer : ℕ) (name : List ℕ) (program : Program)
    → pointer ≡ pointer_size s.pointers → name ≡ s.file
    → IfSome held (λ files. IsSource pointer (files name) program) → IfSome held (λ files. IsProgramOf files s program)
program-told held s pointer name program same_size same_name told =
    let P : ℕ → Type 0 = λ n. IfSome held (λ files. IsSource n (files name) program) in
    let Q : List ℕ → Type 0 = λ file. IfSome held (λ files. IsSource (pointer_size s.pointers) (files file) program) in
    subst Q same_name (subst P same_size told)

-- there are as many sources as servers and updates
pub sources-count : (plan : Plan) → length (sources_of plan) ≡ length plan.server + length plan.update
sources-count plan = simp (length-append, length-map)

pub codes-count : (codes : List Source) (sources : List SourceFile) (plan : Plan)
    → length codes ≡ length sources → sources ≡ sources_of plan → length codes ≡ length plan.server + length plan.update
codes-count codes sources plan each same = each ∙ (ap length same ∙ sources-count plan)
