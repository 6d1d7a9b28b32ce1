use Rattle.std.proofs.Common.{◌≡◌, subst, true, arith}
use Rattle.std.specs.Int.{w32, trailing_zeros}
use Rattle.c_check_scope.specs.Rules.{has, IsLeast}
use Rattle.c_check_scope.proofs.Sets.{least_of}
use Rattle.c_check_scope.proofs.rules.Rules.least.Goals as goal

pub returns : goal.returns
returns c =
    subst (λ s. IsLeast (λ k. has s k ≡ true) (trailing_zeros w32 c.self.inside.codes))
    c.self.view_is
    (least_of c.self.inside.codes c.self.invariant.0 (omega (arith, c.self.invariant.1)))
