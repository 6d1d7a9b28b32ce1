use Rattle.std.proofs.Common.{rules, ◌≡◌, ◌∙◌, ◌-◌, sym, ap, Some}
use Rattle.c_types.specs.declared.parts.Ty.TheVariants as T
use Rattle.src_meaning.specs.ValidTypes as spec
use Rattle.src_meaning.proofs.ValidTypeFacts.{room-suc, declared-Function}
use Rattle.src_model.proofs.valid_types.+is_declared.Goals as goal

pub is_declared-returns-in-Some-Function : goal.is_declared-returns-in-Some-Function
is_declared-returns-in-Some-Function t c = let e = ap (λ n. spec.is_declared c.args.parts.now n (Some (T.Function c.in-Some-Function.number))) (sym (room-suc c.args.room c.if-room-eq0.false)) ∙ declared-Function c.args.parts.now (c.args.room - 1) c.in-Some-Function.number in search rules
