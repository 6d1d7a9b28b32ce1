-- Going on after a step.
use Rattle.std.proofs.Common.{◌≡◌, Option, Some, None, Result, Ok, Err, refl}
use Rattle.lu_spec.specs.Then.{then_option, then_do}

-- what comes out came of a value
pub then_some : {A B : Type 0} (o : Option A) (f : A → Option B) (b : B) → then_option o f ≡ Some b → (a : A) × (o ≡ Some a) × (f a ≡ Some b)
then_some (Some a) f b e = (a, refl, e)
then_some None f b e = absurd (cc)

pub then_ok : {A B E : Type 0} (r : Result A E) (f : A → Result B E) (b : B) → then_do r f ≡ Ok b → (a : A) × (r ≡ Ok a) × (f a ≡ Ok b)
then_ok (Ok a) f b e = (a, refl, e)
then_ok (Err x) f b e = absurd (cc)
