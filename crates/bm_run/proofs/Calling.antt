-- Jumps and calls.
use Rattle.std.proofs.Common.{◌≡◌, ◌≢◌, ◌∙◌, refl, ap, sym, subst, Bool, true, false, cond, ℕ, zero, suc, ◌+◌, ◌<◌, List, [], ◌∷◌, length, drop, Option, Some, None, arith, nat_lt, nat_eq}
use Rattle.std.specs.Prelude.{slice_get, if◌then◌else◌}
use Rattle.std.proofs.lemmas.Bool.Decides.{nat_tests}
use Rattle.lu_base.specs.declared.trap.Trap.TheVariants.{BadCode, BadCall}
use Rattle.c_types.specs.declared.parts.Signature.{Signature}
use Rattle.bm_code.specs.declared.code.MachineCode.{MachineCode}
use Rattle.bm_code.specs.declared.code.MachineFunction.{MachineFunction}
use Rattle.bm_code.specs.Process.{Frame, Process}
use Rattle.bm_code.specs.Frames.{some_or, on_top}
use Rattle.bm_code.specs.Transfers.{Effect, trap, pop_words, enter, call, call_word}
use Rattle.bm_code.specs.declared.stop.Stop.{Stop}
use Rattle.bm_run.specs.Came.{Came}
use Rattle.bm_run.proofs.Came.{pop_none}

some_in : {A : Type 0} (a b : A) → Some a ≡ Some b → a ≡ b
some_in a b h = cc

pub came_as : (e e' : Effect) (p : Process) (left : ℕ) (r : Option Stop) (left' : ℕ) (q : Process) → e ≡ e' → Came e' p left r left' q → Came e p left r left' q
came_as e e' p left r left' q same h = subst (λ e. Came e p left r left' q) (sym same) h

eq_zero : (n : ℕ) → n ≡ 0 → nat_eq n 0 ≡ true
eq_zero n e = grind (arith, nat_tests)

pub lt_true : (a b : ℕ) → a < b → nat_lt a b ≡ true
lt_true a b h = grind (arith, nat_tests)

eq_true : (a b : ℕ) → a ≡ b → nat_eq a b ≡ true
eq_true a b h = grind (arith, nat_tests)

eq_false : (a b : ℕ) → a ≢ b → nat_eq a b ≡ false
eq_false a b h = grind (arith, nat_tests)

-- a word that is 0 at the top
pub zero_goes : (t : Bool) (stack : List ℕ) (word : ℕ) (F G : List ℕ → Effect) (other last : Effect) → t ≡ true → slice_get stack 0 ≡ Some word → word ≡ 0 → cond t (on_top stack other (λ v rest. cond (nat_eq v 0) (F rest) (G rest))) last ≡ F (drop 1 stack)
zero_goes t [] word F G other last is top z = absurd (cc)
zero_goes t (v ∷ rest) word F G other last is top z =
    let first : v ≡ word = some_in v word top in
    ap (λ b. cond b (cond (nat_eq v 0) (F rest) (G rest)) last) is ∙ ap (λ b. cond b (F rest) (G rest)) (eq_zero v (first ∙ z))

-- the word under some others
pub record Under (n : ℕ) (stack words : List ℕ) (w : ℕ) : Type 0 where
  pub args : List ℕ
  pub below : List ℕ
  pub is : pop_words n stack words ≡ Some (args, w ∷ below)
  pub count : length args ≡ length words + n

pub under_some : (n : ℕ) (stack words : List ℕ) (w : ℕ) → slice_get stack n ≡ Some w → Under n stack words w
under_some zero [] words w e = absurd (cc)
under_some zero (v ∷ stack) words w e = record { args = words; below = stack; is = ap (λ v. Some (words, v ∷ stack)) (some_in v w e); count = omega arith }
under_some (suc n) [] words w e = absurd (cc)
under_some (suc n) (v ∷ stack) words w e =
    let u = under_some n stack (v ∷ words) w e in record { args = u.args; below = u.below; is = u.is; count = omega (arith, u.count) }

pub under_none : (n : ℕ) (stack words : List ℕ) (other : Effect) (F : List ℕ → ℕ → List ℕ → Effect) → None ≡ slice_get stack n → some_or (pop_words n stack words) other (λ split. on_top split.1 other (F split.0)) ≡ other
under_none zero [] words other F e = refl
under_none zero (v ∷ stack) words other F e = absurd (cc)
under_none (suc n) [] words other F e = refl
under_none (suc n) (v ∷ stack) words other F e = under_none n stack (v ∷ words) other F e

module _ (code : MachineCode) (f : MachineFunction) (p : Process) (fr : Frame) (cs : List Frame) where
  abbrev bad_code : Effect
  bad_code = trap BadCode p

  call_at : (g : ℕ) (A : Signature → Option (List ℕ × List ℕ)) (d : MachineFunction) (s : Signature) → Some d ≡ slice_get code.functions g → Some s ≡ slice_get code.types.signatures d.signature → call code f p fr cs g A ≡ some_or (A s) bad_code (enter f p fr cs g d s)
  call_at g A d s d_at s_at =
      ap (λ o. some_or o bad_code (λ d. some_or (slice_get code.types.signatures d.signature) bad_code (λ s. some_or (A s) bad_code (enter f p fr cs g d s)))) (sym d_at)
      ∙ ap (λ o. some_or o bad_code (λ s. some_or (A s) bad_code (enter f p fr cs g d s))) (sym s_at)

  call_nowhere : (g : ℕ) (A : Signature → Option (List ℕ × List ℕ)) → None ≡ slice_get code.functions g → call code f p fr cs g A ≡ bad_code
  call_nowhere g A e = ap (λ o. some_or o bad_code (λ d. some_or (slice_get code.types.signatures d.signature) bad_code (λ s. some_or (A s) bad_code (enter f p fr cs g d s)))) (sym e)

  call_unsigned : (g : ℕ) (A : Signature → Option (List ℕ × List ℕ)) (d : MachineFunction) → Some d ≡ slice_get code.functions g → None ≡ slice_get code.types.signatures d.signature → call code f p fr cs g A ≡ bad_code
  call_unsigned g A d d_at e =
      ap (λ o. some_or o bad_code (λ d. some_or (slice_get code.types.signatures d.signature) bad_code (λ s. some_or (A s) bad_code (enter f p fr cs g d s)))) (sym d_at)
      ∙ ap (λ o. some_or o bad_code (λ s. some_or (A s) bad_code (enter f p fr cs g d s))) (sym e)

  abbrev direct : ℕ → Effect
  direct g = call code f p fr cs g (λ s. pop_words (length s.params) fr.stack [])

  pub call_short : (g : ℕ) (d : MachineFunction) (s : Signature) → Some d ≡ slice_get code.functions g → Some s ≡ slice_get code.types.signatures d.signature → length fr.stack < length s.params → direct g ≡ bad_code
  call_short g d s d_at s_at lt =
      call_at g (λ s. pop_words (length s.params) fr.stack []) d s d_at s_at ∙ ap (λ o. some_or o bad_code (enter f p fr cs g d s)) (pop_none (length s.params) fr.stack [] lt)

  pub call_goes : (g : ℕ) (d : MachineFunction) (s : Signature) (args rest : List ℕ) → Some d ≡ slice_get code.functions g → Some s ≡ slice_get code.types.signatures d.signature → pop_words (length s.params) fr.stack [] ≡ Some (args, rest) → direct g ≡ enter f p fr cs g d s (args, rest)
  call_goes g d s args rest d_at s_at popped =
      call_at g (λ s. pop_words (length s.params) fr.stack []) d s d_at s_at ∙ ap (λ o. some_or o bad_code (enter f p fr cs g d s)) popped

  -- through a word
  abbrev indirect : ℕ → Effect
  indirect n = some_or (pop_words n fr.stack []) bad_code (λ split. on_top split.1 bad_code (call_word code f p fr cs split.0))

  pub indirect_none : (n : ℕ) → None ≡ slice_get fr.stack n → indirect n ≡ bad_code
  indirect_none n e = under_none n fr.stack [] bad_code (call_word code f p fr cs) e

  module _ (n w : ℕ) (at : Some w ≡ slice_get fr.stack n) where
    pub under : Under n fr.stack [] w
    under = under_some n fr.stack [] w (sym at)

    indirect_is : indirect n ≡ call_word code f p fr cs under.args w under.below
    indirect_is = ap (λ o. some_or o bad_code (λ split. on_top split.1 bad_code (call_word code f p fr cs split.0))) under.is

    pub indirect_null : w ≡ 0 → indirect n ≡ trap BadCall p
    indirect_null z = indirect_is ∙ ap (λ w. call_word code f p fr cs under.args w under.below) z

    abbrev matched : Signature → Option (List ℕ × List ℕ)
    matched s = if nat_eq (length s.params) (length under.args) then Some (under.args, under.below) else None

    indirect_call : (g : ℕ) → w ≡ suc g → indirect n ≡ call code f p fr cs g matched
    indirect_call g e = indirect_is ∙ ap (λ w. call_word code f p fr cs under.args w under.below) e

    pub indirect_nowhere : (g : ℕ) → w ≡ suc g → None ≡ slice_get code.functions g → indirect n ≡ bad_code
    indirect_nowhere g e none = indirect_call g e ∙ call_nowhere g matched none

    pub indirect_unsigned : (g : ℕ) (d : MachineFunction) → w ≡ suc g → Some d ≡ slice_get code.functions g → None ≡ slice_get code.types.signatures d.signature → indirect n ≡ bad_code
    indirect_unsigned g d e d_at none = indirect_call g e ∙ call_unsigned g matched d d_at none

    module _ (g : ℕ) (d : MachineFunction) (s : Signature) (e : w ≡ suc g) (d_at : Some d ≡ slice_get code.functions g) (s_at : Some s ≡ slice_get code.types.signatures d.signature) where
      called : indirect n ≡ some_or (matched s) bad_code (enter f p fr cs g d s)
      called = indirect_call g e ∙ call_at g matched d s d_at s_at

      pub indirect_other : length s.params ≢ n → indirect n ≡ bad_code
      indirect_other differs =
          let u = under in
          called
          ∙ ap (λ b. some_or (cond b (Some (u.args, u.below)) None) bad_code (enter f p fr cs g d s)) (eq_false (length s.params) (length u.args) (λ same. differs (same ∙ omega (arith, u.count))))

      pub indirect_goes : length s.params ≡ n → indirect n ≡ enter f p fr cs g d s (under.args, under.below)
      indirect_goes same =
          let u = under in
          called
          ∙ ap (λ b. some_or (cond b (Some (u.args, u.below)) None) bad_code (enter f p fr cs g d s)) (eq_true (length s.params) (length u.args) (omega (arith, u.count, same)))
