-- What is put behind code, in several steps.
use Rattle.std.proofs.Common.{◌≡◌, ◌∙◌, refl, sym, ap, ℕ, ◌+◌, List, [], ◌∷◌, ◌++◌, length, append_assoc, length-append, arith}
use Rattle.bm_isa.specs.declared.instr.Instr.{Instr}
use Rattle.bm_isa.specs.declared.instr.Instr.TheVariants as I
use Rattle.cg_expr.specs.Code.{choice}

pub puts : (c c' x y : List Instr) → c' ≡ c ++ x → x ≡ y → c' ≡ c ++ y
puts c c' x y h e = h ∙ ap (λ z. c ++ z) e

pub puts_two : (c c1 c2 x y : List Instr) → c1 ≡ c ++ x → c2 ≡ c1 ++ y → c2 ≡ c ++ (x ++ y)
puts_two c c1 c2 x y h k = k ∙ ap (λ z. z ++ y) h ∙ append_assoc c x y

pub puts_three : (c c1 c2 c3 x y z : List Instr) → c1 ≡ c ++ x → c2 ≡ c1 ++ y → c3 ≡ c2 ++ z → c3 ≡ c ++ (x ++ (y ++ z))
puts_three c c1 c2 c3 x y z h k l = puts_two c c1 c3 x (y ++ z) h (puts_two c1 c2 c3 y z k l)

-- where code ends behind which so many instructions were put
pub ends_at : (c c' x : List Instr) (n : ℕ) → c' ≡ c ++ x → length x ≡ n → length c' ≡ length c + n
ends_at c c' x n h e = ap length h ∙ length-append c x ∙ ap (λ k. length c + k) e

pub puts_choice : (c c1 c2 c3 c4 c5 test one alt : List Instr) (s n k other end : ℕ) → c1 ≡ c ++ test → c2 ≡ c1 ++ I.JumpIfZero other ∷ [] → c3 ≡ c2 ++ one → c4 ≡ c3 ++ I.Jump end ∷ [] → c5 ≡ c4 ++ alt → other ≡ length c + s + 1 + n + 1 → end ≡ other + k → c5 ≡ c ++ choice (length c) s n k test one alt
puts_choice c c1 c2 c3 c4 c5 test one alt s n k other end h1 h2 h3 h4 h5 o e =
    let last : c5 ≡ c3 ++ (I.Jump end ∷ alt) = puts_two c3 c4 c5 (I.Jump end ∷ []) alt h4 h5 in
    let more : c5 ≡ c2 ++ (one ++ (I.Jump end ∷ alt)) = puts_two c2 c3 c5 one (I.Jump end ∷ alt) h3 last in
    let most : c5 ≡ c1 ++ (I.JumpIfZero other ∷ (one ++ (I.Jump end ∷ alt))) = puts_two c1 c2 c5 (I.JumpIfZero other ∷ []) (one ++ (I.Jump end ∷ alt)) h2 more in
    let all : c5 ≡ c ++ (test ++ (I.JumpIfZero other ∷ (one ++ (I.Jump end ∷ alt)))) = puts_two c c1 c5 test (I.JumpIfZero other ∷ (one ++ (I.Jump end ∷ alt))) h1 most in
    let there : end ≡ length c + s + 1 + n + 1 + k = e ∙ ap (λ x. x + k) o in
    puts c c5 _ _ all (ap (λ x. test ++ (I.JumpIfZero x ∷ (one ++ (I.Jump end ∷ alt)))) o ∙ ap (λ x. test ++ (I.JumpIfZero (length c + s + 1 + n + 1) ∷ (one ++ (I.Jump x ∷ alt)))) there)
