use Rattle.std.proofs.Common.{refl, ap, arith, ◌+◌, length, Result, Ok, Err}
use Rattle.lu_load.specs.declared.error.LoadError.{LoadError}
use Rattle.lu_load.specs.declared.update.Resolution.{Resolution}
use Rattle.lu_load.specs.Updates.{version_place, Resolves}
use Rattle.lu_load.proofs.Updating.{place-within, update-refused, update-there, code-there, told-of-codes}
use Rattle.lu_load.proofs.update.load_update.Goals as goal

pub bounds-codes-old : goal.bounds-codes-old
bounds-codes-old c =
    let there = update-there c.args.plan.now.update c.as_slice.result.now c.args.number c.index-as_slice-number.result c.as_slice.ensures c.requires.known c.index-as_slice-number.is in
    let low = place-within c.args.plan.now c.args.number c.index-as_slice-number.result c.requires.forms there in
    omega (arith, low, c.version_place-old.ensures, c.requires.each)

pub resolution_of-requires-clause-forms : goal.resolution_of-requires-clause-forms
resolution_of-requires-clause-forms c =
    let there = update-there c.args.plan.now.update c.as_slice.result.now c.args.number c.index-as_slice-number.result c.as_slice.ensures c.requires.known c.index-as_slice-number.is in
    (c.requires.forms.updates c.args.number c.index-as_slice-number.result there).renames

pub resolution_of-requires-clause-order : goal.resolution_of-requires-clause-order
resolution_of-requires-clause-order c =
    let there = update-there c.args.plan.now.update c.as_slice.result.now c.args.number c.index-as_slice-number.result c.as_slice.ensures c.requires.known c.index-as_slice-number.is in
    (c.requires.forms.updates c.args.number c.index-as_slice-number.result there).ordered

pub returns-in_err-found : goal.returns-in_err-found
returns-in_err-found c =
    let plan = c.args.plan.now in
    let u = c.index-as_slice-number.result in
    let there = update-there plan.update c.as_slice.result.now c.args.number u c.as_slice.ensures c.requires.known c.index-as_slice-number.is in
    let low = place-within plan c.args.number u c.requires.forms there in
    let refused : Result Resolution LoadError = Err c.in_err-found.field-0.0 in
    update-refused plan c.args.codes.now c.args.number u c.index-codes-old.result c.index-codes-new.result c.in_err-found.field-0.0 c.from_residual.result there
    (code-there c.args.codes.now c.version_place-old.result (version_place plan u.server u.from) c.index-codes-old.result c.version_place-old.ensures
    (omega (arith, low, c.version_place-old.ensures, c.requires.each)) c.index-codes-old.is)
    (code-there c.args.codes.now (length c.as_slice-2.result.now + c.args.number) (length plan.server + c.args.number) c.index-codes-new.result
    (ap (λ s. length s + c.args.number) c.as_slice-2.ensures) (omega (arith, ap length c.as_slice-2.ensures, c.requires.each, c.requires.known)) c.index-codes-new.is)
    (told-of-codes c.index-codes-old.result c.index-codes-new.result c.program.result.now c.program-2.result.now u refused c.program.ensures.value c.program-2.ensures.value
    c.in_err-found.ensures)
    c.from_residual.ensures.0 c.from_residual.ensures.1

pub returns : goal.returns
returns c =
    let plan = c.args.plan.now in
    let u = c.index-as_slice-number.result in
    let there = update-there plan.update c.as_slice.result.now c.args.number u c.as_slice.ensures c.requires.known c.index-as_slice-number.is in
    let low = place-within plan c.args.number u c.requires.forms there in
    let found : Result Resolution LoadError = Ok c.in_ok-found.found in
    let stands : Resolves c.index-codes-old.result.program c.index-codes-new.result.program u c.in_ok-found.found =
    told-of-codes c.index-codes-old.result c.index-codes-new.result c.program.result.now c.program-2.result.now u found c.program.ensures.value c.program-2.ensures.value
    c.in_ok-found.ensures in (
      u,
      there,
      record {
        old_place = c.version_place-old.ensures;
        new_place = ap (λ s. length s + c.args.number) c.as_slice-2.ensures;
        old = c.index-codes-old.result;
        old_is = code-there c.args.codes.now c.version_place-old.result c.version_place-old.result c.index-codes-old.result refl
            (omega (arith, low, c.version_place-old.ensures, c.requires.each)) c.index-codes-old.is;
        new = c.index-codes-new.result;
        new_is = code-there c.args.codes.now (length c.as_slice-2.result.now + c.args.number) (length c.as_slice-2.result.now + c.args.number) c.index-codes-new.result refl
            (omega (arith, ap length c.as_slice-2.ensures, c.requires.each, c.requires.known)) c.index-codes-new.is;
        filter = stands.filter;
        pairing = stands.pairing;
        pairs = stands.pairs;
      },
    )
