-- What the words of a call ask for.
use Rattle.std.specs.Prelude.{ℕ, List, [], ◌∷◌, Bool, false, not, nat_eq, Option, Some, None, String, string_bytes, if◌then◌else◌, codes}
use Rattle.std.specs.Option.{option_map}
use Rattle.std.specs.declared.alloc.Global.{Global}
use Rattle.std.specs.Str.{bytes_eq}
use Rattle.lu_cli.specs.declared.words.Verb.{Verb}
use Rattle.lu_cli.specs.declared.words.Verb.TheVariants.{Run, Check}

-- a verb, and the name of a plan
pub record Asked : Type 0 where
  pub verb : Verb
  pub plan : List ℕ

abbrev pub asked : Verb → List ℕ → Asked
asked verb plan = record { verb = verb; plan = plan }

abbrev pub verb_of : List ℕ → Option Verb
verb_of word =
    if bytes_eq word (codes "run") then Some Run
    else if bytes_eq word (codes "check") then Some Check
    else None

-- a plan's name: not empty, and it doesn't begin with `-`
abbrev pub is_plan_word : List ℕ → Bool
is_plan_word [] = false
is_plan_word (b ∷ bs) = not (nat_eq b 45)

-- the words are two, a verb and a plan's name
abbrev pub asked_of : List (String Global) → Option Asked
asked_of (command ∷ plan ∷ []) =
    if is_plan_word (string_bytes plan) then option_map (λ verb. asked verb (string_bytes plan)) (verb_of (string_bytes command)) else None
asked_of _ = None
