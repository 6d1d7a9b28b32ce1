-- What belongs together in two programs as an update says.
use Rattle.std.specs.Prelude.{ℕ, List, [], Option, Result, Ok, Err}
use Rattle.lu_spec.specs.Then.{then_do}
use Rattle.src_tree.specs.declared.program.Program.{Program}
use Rattle.plan_file.specs.declared.plan.Update.{Update}
use Rattle.plan_file.specs.declared.plan.Dangling as Planned
use Rattle.plan_file.specs.declared.plan.Dangling.TheVariants as planned
use Rattle.lu_image.specs.declared.handler.Handler.{Handler}
use Rattle.lu_image.specs.declared.pairing.Dangling.{Dangling}
use Rattle.lu_image.specs.declared.pairing.Dangling.TheVariants.{Refuse, Null}
use Rattle.lu_image.specs.declared.pairing.Pairing.{Pairing}
use Rattle.lu_image.specs.declared.error.PairError.{PairError}
use Rattle.lu_image.specs.RenameRefusal.{pair}
use Rattle.lu_resolve.specs.declared.error.ResolveError.{ResolveError}
use Rattle.lu_resolve.specs.Causes.{pair_cause}
use Rattle.lu_resolve.specs.Renames.{renames_of}
use Rattle.lu_resolve.specs.Handlers.{handlers_onto, last_of}

abbrev pub dangling_of : Planned.Dangling → Dangling
dangling_of planned.Refuse = Refuse
dangling_of planned.Null = Null

-- the pairing with the plan's rule on pointers to dead objects, its handlers and its last call
abbrev pub with_calls : Pairing → Dangling → List Handler → Option ℕ → Pairing
with_calls p rule hs last = record p { dangling = rule; handlers = hs; after = last }

abbrev pub or_cause : Result Pairing PairError → Result Pairing ResolveError
or_cause (Ok p) = Ok p
or_cause (Err e) = Err (pair_cause e)

-- What belongs together in the program that an update replaces and the one that it brings, or the first refusal: of its
-- renames, of its handlers in turn, of its last call.
abbrev pub resolved : Program → Program → Update → Result Pairing ResolveError
resolved old new u =
    then_do (or_cause (pair old new (renames_of u.rename))) (λ p.
    then_do (handlers_onto old new p.structs [] u.handler) (λ handlers.
    then_do (last_of new u.after) (λ last.
    Ok (with_calls p (dangling_of u.dangling) handlers last))))
