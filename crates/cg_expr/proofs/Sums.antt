-- Numbers in results.
use Rattle.std.proofs.Common.{◌≡◌, subst, ℕ, Result, IfOk}
use Rattle.lu_base.specs.declared.memory.Memory.{Memory}

pub ok_is : (r : Result ℕ Memory) (m n : ℕ) → IfOk r (λ x. x ≡ m) → m ≡ n → IfOk r (λ x. x ≡ n)
ok_is r m n h e = subst (λ k. IfOk r (λ x. x ≡ k)) e h
