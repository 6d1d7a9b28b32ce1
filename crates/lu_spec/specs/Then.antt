-- Going on after a step that may give nothing.
use Rattle.std.specs.Prelude.{Option, Some, None, Result, Ok, Err}

-- what f gives of the value, or nothing where there is none
abbrev pub then_option : {A B : Type 0} → Option A → (A → Option B) → Option B
then_option None f = None
then_option (Some a) f = f a

-- what f gives of the value, or the error
abbrev pub then_do : {A B E : Type 0} → Result A E → (A → Result B E) → Result B E
then_do (Err e) f = Err e
then_do (Ok a) f = f a
