use Rattle.std.proofs.Common.{◌≡◌, ◌<◌, subst, refl, ℕ, Bool, true, false, ◌∷◌, Some, slice_get, below_more, get_or, arith}
use Rattle.std.specs.Prelude.{not}
use Rattle.std.specs.List.{list_any}
use Rattle.std.specs.List.Sorted.{IsPermutation}
use Rattle.std.specs.HashSet.{PutsKey}
use Rattle.c_types.specs.contracts.parts.TyPartialEq.TheImpl.{eq-value}
use Rattle.c_types.specs.declared.parts.IntKind.TheVariants.{Char}
use Rattle.c_types.specs.declared.parts.Ty.TheVariants.{Int}
use Rattle.c_types.specs.Entries.{IsRepeated}
use Rattle.c_types.proofs.Lists.{within-some_and}
use Rattle.c_types.proofs.Repeats.{repeated-found, repeated-none, keys-more}
use Rattle.c_types.proofs.duplicates.first_repeated.Goals as goal

not_true : (a b : Bool) → a ≡ true → a ≡ not b → b ≡ false
not_true a true h e = cc
not_true a false h e = refl

not_false : (a b : Bool) → a ≡ false → a ≡ not b → b ≡ true
not_false a true h e = refl
not_false a false h e = cc

pub loop-number-preserved : goal.loop-number-preserved
loop-number-preserved c =
    let types = c.args.types.now in
    let n = c.loop-number.number in
    let seen = c.loop-number.seen.keys in
    let t = get_or types n (Int Char) in
    let fresh : list_any (eq-value.it t) seen ≡ false = not_true c.in_ok-insert.field-0 _ c.if-not-branch.false c.in_ok-insert.ensures.added in
    let put : IsPermutation (t ∷ seen) c.insert.new.self.keys = subst (PutsKey c.loop-number.seen c.insert.new.self t) c.if-not-branch.false c.in_ok-insert.ensures.keys in
    record {
      keys = keys-more types seen n (Int Char) c.loop-number-test.true c.loop-number.invariant.keys c.insert.new.self.keys put;
      none = below_more (λ m. IsRepeated types m → ⊥) _ c.loop-number.invariant.none (repeated-none types seen n (Int Char) c.loop-number-test.true c.loop-number.invariant.keys fresh);
    }

pub returns-then-not-branch : goal.returns-then-not-branch
returns-then-not-branch c =
    let types = c.args.types.now in
    let n = c.loop-number.number in
    let seen = c.loop-number.seen.keys in
    let found : list_any (eq-value.it (get_or types n (Int Char))) seen ≡ true = not_false c.in_ok-insert.field-0 _ c.if-not-branch.true c.in_ok-insert.ensures.added in
    record {
      here = repeated-found types seen n (Int Char) c.loop-number-test.true c.loop-number.invariant.keys found;
      before = c.loop-number.invariant.none;
    }

pub returns : goal.returns
returns c n h =
    let within = within-some_and (λ t. (m : ℕ) × (m < n) × (slice_get c.args.types.now m ≡ Some t)) c.args.types.now n h in
    c.loop-number.invariant.none n (omega (arith, within)) h
