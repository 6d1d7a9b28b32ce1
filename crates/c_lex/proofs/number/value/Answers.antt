use Rattle.std.proofs.Common.{arith, ◌≤◌, ◌+◌, ◌*◌, ◌<◌, ◌≡◌, ℕ, get_or, take, ◌∙◌}
use Rattle.c_ast.specs.Lexeme.{value_in, digit_of}
use Rattle.c_lex.proofs.Values.{overflows, held}
use Rattle.c_lex.proofs.number.value.Goals as goal

at_least : (n k d v bound : ℕ) → n ≡ v → (n * k < bound → ⊥) → bound ≤ v * k + d
at_least n k d v bound e h = grind arith

at_least_sum : (n k d v s r bound : ℕ) → n ≡ v → s ≡ n * k → r ≡ d → (s + r < bound → ⊥) → bound ≤ v * k + d
at_least_sum n k d v s r bound e f g h = grind arith

pub returns-in-None : goal.returns-in-None
returns-in-None c = overflows c.args.base c.loop-b.b-index 18446744073709551616 c.args.digits.now c.requires.base c.loop-b-test.true
    (at_least c.loop-b.value c.args.base (digit_of (get_or c.args.digits.now c.loop-b.b-index 0)) (value_in c.args.base (take c.loop-b.b-index c.args.digits.now)) 18446744073709551616
    c.loop-b.invariant.0 c.in-None.ensures)

pub returns-in-None-checked_add : goal.returns-in-None-checked_add
returns-in-None-checked_add c = overflows c.args.base c.loop-b.b-index 18446744073709551616 c.args.digits.now c.requires.base c.loop-b-test.true
    (at_least_sum c.loop-b.value c.args.base (digit_of (get_or c.args.digits.now c.loop-b.b-index 0)) (value_in c.args.base (take c.loop-b.b-index c.args.digits.now)) c.in-Some.shifted c.from.result 18446744073709551616
    c.loop-b.invariant.0 c.in-Some.ensures.1 (c.from.ensures ∙ c.digit.ensures.value) c.in-None-checked_add.ensures)

pub returns : goal.returns
returns c = held c.args.base c.loop-b.value 18446744073709551616 c.loop-b.b-index c.args.digits.now c.loop-b.invariant.1 c.loop-b-test.false c.loop-b.invariant.0
