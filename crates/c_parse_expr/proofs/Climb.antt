-- One turn of a chain's loop.
use Rattle.std.proofs.Common.{◌≡◌, ◌∙◌, refl, ap, ℕ, zero, suc, ◌-◌, Bool, true, false, List, Ok, Err, cond, arith}
use Rattle.c_ast.specs.declared.token.Token.{Token}
use Rattle.c_ast.specs.declared.fault.Fault.{Fault}
use Rattle.c_ast.specs.declared.fault.Fault.TheVariants.{TooDeep}
use Rattle.c_parse_expr.specs.declared.error.ReadError.{ReadError}
use Rattle.c_parse_expr.specs.declared.error.ReadError.TheVariants as error
use Rattle.c_parse_expr.specs.Reads.{Reads, ◌>>=◌, climb, Fails}

pub fails_along : {A B : Type 0} (e : ReadError) (x : Reads A) (y : Reads B) → ((f : Fault) → x ≡ Err f → y ≡ Err f) → Fails e x → Fails e y
fails_along error.Memory x y h k = tt
fails_along (error.Refused f) x y h k = h f k

module _ {T S : Type 0} (more : List Token → Bool) (step : List Token → Reads S) (join : T → S → T) (base : T) (ts : List Token) where
  pub climb_stop : (room : ℕ) → more ts ≡ false → climb more step join room base ts ≡ Ok (base, ts)
  unfolding climb
  climb_stop zero e = ap (λ b. cond b (Err TooDeep) (Ok (base, ts))) e
  climb_stop (suc room) e = ap (λ b. cond b (step ts >>= (λ p. climb more step join room (join base p.0) p.1)) (Ok (base, ts))) e

  pub climb_over : (room : ℕ) → room ≡ 0 → more ts ≡ true → climb more step join room base ts ≡ Err TooDeep
  unfolding climb
  climb_over zero n e = ap (λ b. cond b (Err TooDeep) (Ok (base, ts))) e
  climb_over (suc room) n e = absurd (omega arith)

  pub climb_step : (room : ℕ) → ¬ (room ≡ 0) → more ts ≡ true → climb more step join room base ts ≡ step ts >>= (λ p. climb more step join (room - 1) (join base p.0) p.1)
  unfolding climb
  climb_step zero n e = absurd (n refl)
  climb_step (suc room) n e = ap (λ b. cond b (step ts >>= (λ p. climb more step join room (join base p.0) p.1)) (Ok (base, ts))) e ∙ (let one : room ≡ suc room - 1 = omega arith in λ i. step ts >>= (λ p. climb more step join (one i) (join base p.0) p.1))

  pub climb_goes : (room : ℕ) → ¬ (room ≡ 0) → more ts ≡ true → (s : S) (rest : List Token) → step ts ≡ Ok (s, rest) → climb more step join room base ts ≡ climb more step join (room - 1) (join base s) rest
  climb_goes room n e s rest h = climb_step room n e ∙ ap (λ r. r >>= (λ p. climb more step join (room - 1) (join base p.0) p.1)) h

  pub climb_fails : (room : ℕ) → ¬ (room ≡ 0) → more ts ≡ true → (f : Fault) → step ts ≡ Err f → climb more step join room base ts ≡ Err f
  climb_fails room n e f h = climb_step room n e ∙ ap (λ r. r >>= (λ p. climb more step join (room - 1) (join base p.0) p.1)) h
