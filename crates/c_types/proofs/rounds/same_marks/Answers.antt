use Rattle.std.proofs.Common.{◌≡◌, ◌∙◌, sym, true, false, refl, Bool}
use mathlib.Core.Bool.{beq}
use Rattle.c_types.proofs.Lists.{same-pointwise}
use Rattle.c_types.proofs.rounds.same_marks.Goals as goal

same_mark : (a b : Bool) → beq a b ≡ true → a ≡ b
same_mark true true h = refl
same_mark true false h = cc
same_mark false true h = cc
same_mark false false h = refl

pub returns : goal.returns
returns c = λ e. same-pointwise beq same_mark _ _ (sym c.eq.ensures ∙ e)
