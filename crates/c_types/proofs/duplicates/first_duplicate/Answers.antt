use Rattle.std.proofs.Common.{◌≡◌, ◌<◌, ap, subst, ℕ, List, length, Some, Option, slice_get, ◌⊎◌, arith}
use Rattle.std.specs.Prelude.{MatchOption}
use Rattle.c_types.specs.declared.parts.Ty.{Ty}
use Rattle.c_types.specs.Refusal.{entries, ClashesBefore, HasNameTwice}
use Rattle.c_types.specs.Words.{IsLeast, NoneIs}
use Rattle.c_types.specs.Entries.{IsRepeated}
use Rattle.c_types.proofs.Lists.{within-some_and}
use Rattle.c_types.proofs.Repeats.{duplicate-repeated, repeated-duplicate}
use Rattle.c_types.proofs.duplicates.first_duplicate.Goals as goal

pub returns-in-Some : goal.returns-in-Some
returns-in-Some c =
    let p = c.args.parts.now in
    let n = c.in-Some.number in
    let P : Option ℕ → Type 0 = λ o. MatchOption o (NoneIs (IsRepeated c.as_slice-types.result.now)) (IsLeast (IsRepeated c.as_slice-types.result.now)) in
    let Q : List Ty → Type 0 = λ types. IsLeast (IsRepeated types) n in
    let least : IsLeast (IsRepeated p.types) n = subst Q c.as_slice-types.ensures (subst P c.in-Some.is c.in_ok-number.ensures) in
    let within = within-some_and (λ t. (m : ℕ) × (m < n) × (slice_get p.types m ≡ Some t)) p.types n least.here in
    record {
      here = repeated-duplicate p n within least.here;
      before = λ m lt d. least.before m lt (duplicate-repeated p m (omega (arith, within)) d);
    }

pub loop-number-init : goal.loop-number-init
loop-number-init c m lt d =
    let p = c.args.parts.now in
    let P : Option ℕ → Type 0 = λ o. MatchOption o (NoneIs (IsRepeated c.as_slice-types.result.now)) (IsLeast (IsRepeated c.as_slice-types.result.now)) in
    let Q : List Ty → Type 0 = λ types. NoneIs (IsRepeated types) in
    let none : NoneIs (IsRepeated p.types) = subst Q c.as_slice-types.ensures (subst P c.in_default.is c.in_ok-number.ensures) in
    none m (duplicate-repeated p m (omega (arith, ap length c.as_slice-types.ensures)) d)

pub returns : goal.returns
returns c n d =
    let within = within-some_and (λ e. ClashesBefore (entries c.args.parts.now) n e ⊎ HasNameTwice e) (entries c.args.parts.now) n d in
    c.loop-number.invariant n (omega (arith, within, c.entry_count-number-end.ensures)) d
