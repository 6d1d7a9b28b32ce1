-- What an answer of a write says of what was written.
use Rattle.std.specs.Prelude.{◌≡◌, ℕ, List, ◌++◌, Option, Some, Result, Ok, Err}
use Rattle.lu_spec.specs.Prefix.{IsPrefix}
use Rattle.lu_base.specs.declared.sink.SinkFault.{SinkFault}
use Rattle.lu_base.specs.declared.sink.SinkFault.TheVariants.{Failed, Memory}

-- Ok appends the whole piece, a failed write a front of it, and want of memory nothing.
abbrev pub WriteAnswers : {A : Type 0} → List ℕ → List ℕ → Option (List ℕ) → Result A SinkFault → Type 0
WriteAnswers before piece after (Ok _) = after ≡ Some (before ++ piece)
WriteAnswers before piece after (Err Failed) = (front : List ℕ) × IsPrefix front piece × (after ≡ Some (before ++ front))
WriteAnswers before piece after (Err Memory) = after ≡ Some before
