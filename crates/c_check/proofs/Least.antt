-- The least code in a set of broken rules is the least that is broken.
use Rattle.std.proofs.Common.{◌≡◌, sym, subst, ℕ, true, Err}
use Rattle.c_check_scope.specs.Rules.{Rules, Checked, has, breaks, IsLeast}

pub least_broken : {A : Type 0} (judged : Checked A) (rules : Rules) (k : ℕ) → judged ≡ Err rules → IsLeast (λ c. has rules c ≡ true) k → IsLeast (λ c. breaks judged c ≡ true) k
least_broken judged rules k e least = subst (λ j. IsLeast (λ c. breaks j c ≡ true) k) (sym e) least
