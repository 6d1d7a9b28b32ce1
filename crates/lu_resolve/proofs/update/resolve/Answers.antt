use Rattle.std.proofs.Common.{◌≡◌, ◌∙◌, ap, sym, subst, ℕ, List, [], Option, Result, Ok, Err}
use Rattle.plan_file.specs.declared.plan.Handler as Planned
use Rattle.lu_image.specs.declared.handler.Handler.{Handler}
use Rattle.lu_pair.proofs.Valid.{few_entries-valid}
use Rattle.lu_resolve.specs.declared.error.ResolveError.{ResolveError}
use Rattle.lu_resolve.specs.Causes.{Gives}
use Rattle.lu_resolve.specs.Handlers.{handlers_onto}
use Rattle.lu_resolve.specs.Updates.{resolved}
use Rattle.lu_resolve.proofs.Steps.{handlers-refused, last-refused, resolved-ok, residual-gives}
use Rattle.lu_resolve.proofs.PairsAre.{resolved-pairs}
use Rattle.lu_resolve.proofs.update.resolve.Goals as goal

pub handlers_of-requires-clause-functions : goal.handlers_of-requires-clause-functions
handlers_of-requires-clause-functions c = (few_entries-valid c.args.new.now c.requires.new_valid).functions

pub last_of-requires : goal.last_of-requires
last_of-requires c = (few_entries-valid c.args.new.now c.requires.new_valid).functions

pub returns-in_err-handlers-clause-given : goal.returns-in_err-handlers-clause-given
returns-in_err-handlers-clause-given c =
    let e = c.in_err-handlers.field-0.0 in
    let refused : Result (List Handler) ResolveError = Err e in
    let P : List (Option ℕ) → Type 0 = λ pairs. Gives (handlers_onto c.args.old.now c.args.new.now pairs [] c.as_slice.result.now) refused in
    let Q : List Planned.Handler → Type 0 = λ hs. Gives (handlers_onto c.args.old.now c.args.new.now c.in_ok-pairing.pairing.structs [] hs) refused in
    residual-gives (resolved c.args.old.now c.args.new.now c.args.update.now) c.from_residual-in_err-handlers.result e
    c.from_residual-in_err-handlers.ensures.0 c.from_residual-in_err-handlers.ensures.1
    (handlers-refused c.args.old.now c.args.new.now c.args.update.now c.in_ok-pairing.pairing e c.in_ok-pairing.ensures
    (subst Q c.as_slice.ensures (subst P c.as_slice-structs.ensures c.in_err-handlers.ensures)))

pub returns-in_err-after-clause-given : goal.returns-in_err-after-clause-given
returns-in_err-after-clause-given c =
    let e = c.in_err-after.field-0.0 in
    let P : List (Option ℕ) → Type 0 = λ pairs. handlers_onto c.args.old.now c.args.new.now pairs [] c.as_slice.result.now ≡ Ok c.in_ok-handlers.handlers in
    let Q : List Planned.Handler → Type 0 = λ hs. handlers_onto c.args.old.now c.args.new.now c.in_ok-pairing.pairing.structs [] hs ≡ Ok c.in_ok-handlers.handlers in
    residual-gives (resolved c.args.old.now c.args.new.now c.args.update.now) c.from_residual-in_err-after.result e
    c.from_residual-in_err-after.ensures.0 c.from_residual-in_err-after.ensures.1
    (last-refused c.args.old.now c.args.new.now c.args.update.now c.in_ok-pairing.pairing c.in_ok-handlers.handlers e c.in_ok-pairing.ensures
    (subst Q c.as_slice.ensures (subst P c.as_slice-structs.ensures c.in_ok-handlers.ensures))
    c.in_err-after.ensures)

pub returns-clause-pairs : goal.returns-clause-pairs
returns-clause-pairs c =
    resolved-pairs c.args.old.now c.args.new.now c.args.update.now _ c.requires.old_valid c.requires.new_valid c.requires.forms c.requires.order
    (let P : List (Option ℕ) → Type 0 = λ pairs. handlers_onto c.args.old.now c.args.new.now pairs [] c.as_slice.result.now ≡ Ok c.in_ok-handlers.handlers in
    let Q : List Planned.Handler → Type 0 = λ hs. handlers_onto c.args.old.now c.args.new.now c.in_ok-pairing.pairing.structs [] hs ≡ Ok c.in_ok-handlers.handlers in
    resolved-ok c.args.old.now c.args.new.now c.args.update.now c.in_ok-pairing.pairing c.in_ok-handlers.handlers c.in_ok-after.after c.in_ok-pairing.ensures
    (subst Q c.as_slice.ensures (subst P c.as_slice-structs.ensures c.in_ok-handlers.ensures)) c.in_ok-after.ensures
    ∙ ap (λ d. Ok (record c.in_ok-pairing.pairing { dangling = d; handlers = c.in_ok-handlers.handlers; after = c.in_ok-after.after })) (sym c.dangling_of-pairing.ensures))
