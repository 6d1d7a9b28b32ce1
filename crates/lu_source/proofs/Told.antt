-- What is told of a file's text is told of the file.
use Rattle.std.proofs.Common.{◌≡◌, ℕ, List, Option, Some, None, Result, Ok, Err, IfSome, IfOk, IfErr, subst, sym}
use Rattle.lu_base.specs.Files.{Files}
use Rattle.src_tree.specs.declared.program.Program.{Program}
use Rattle.lu_load_lines.specs.declared.refusal.SourceRefusal.TheVariants.{Absent, TooLarge, BadByte, BadNumber, Syntax, TooDeep, Rule}
use Rattle.lu_source.specs.declared.error.SourceError.{SourceError}
use Rattle.lu_source.specs.declared.error.SourceError.TheVariants.{Refused, ReadFault, Memory}
use Rattle.lu_source.specs.Sources.{Denotes, Refuses, HasText, SourceAnswers}

file-told : (pointer : ℕ) (file : Option (List ℕ)) (text : List ℕ) (r : Result Program SourceError)
    → HasText file text → IfOk r (Denotes pointer text) → IfErr r (Refuses pointer text) → SourceAnswers pointer file r
file-told pointer file text (Ok program) has denoted refused = (text, has, denoted)
file-told pointer file text (Err (Refused Absent)) has denoted refused = absurd refused
file-told pointer file text (Err (Refused TooLarge)) has denoted refused = absurd refused
file-told pointer file text (Err (Refused (BadByte line col))) has denoted refused = (text, has, refused)
file-told pointer file text (Err (Refused (BadNumber line col))) has denoted refused = (text, has, refused)
file-told pointer file text (Err (Refused (Syntax k))) has denoted refused = (text, has, refused)
file-told pointer file text (Err (Refused (TooDeep k))) has denoted refused = (text, has, refused)
file-told pointer file text (Err (Refused (Rule k code))) has denoted refused = (text, has, refused)
file-told pointer file text (Err ReadFault) has denoted refused = tt
file-told pointer file text (Err Memory) has denoted refused = tt

pub source-told : (held : Option Files) (name : List ℕ) (pointer : ℕ) (text seen : List ℕ) (r : Result Program SourceError)
    → seen ≡ text → IfSome held (λ files. HasText (files name) text) → IfOk r (Denotes pointer seen) → IfErr r (Refuses pointer seen)
    → IfSome held (λ files. SourceAnswers pointer (files name) r)
source-told None name pointer text seen r same has denoted refused = has
source-told (Some files) name pointer text seen r same has denoted refused =
    let P : List ℕ → Type 0 = λ t. HasText (files name) t in
    file-told pointer (files name) seen r (subst P (sym same) has) denoted refused
