-- The handlers of an update and the function that it calls last, found by their names in two programs.
use Rattle.std.specs.Prelude.{ℕ, Bool, true, false, nat_eq, if◌then◌else◌, is_some, List, [], ◌∷◌, ◌++◌, Option, Some, None, Result, Ok, Err, slice_get}
use Rattle.std.specs.List.{list_any}
use Rattle.std.specs.Option.{option_map_or}
use Rattle.lu_spec.specs.Then.{then_option, then_do}
use Rattle.lu_lines.specs.Line.{Text}
use Rattle.c_types.specs.declared.parts.Signature.{Signature}
use Rattle.src_tree.specs.declared.program.Program.{Program}
use Rattle.plan_file.specs.declared.plan.Handler as Planned
use Rattle.lu_image.specs.declared.handler.Handler.{Handler}
use Rattle.lu_image.specs.Names.{entry_at, find, struct_names, function_names}
use Rattle.lu_image.specs.Pairs.{takes_forms, is_plain}
use Rattle.lu_pair.specs.Outlines.{signature_of}
use Rattle.lu_load_lines.specs.declared.refusal.NameKind.{NameKind}
use Rattle.lu_load_lines.specs.declared.refusal.NameKind.TheVariants as kind
use Rattle.lu_load_lines.specs.declared.refusal.PairingRefusal.TheVariants.{NoSuch, Twice}
use Rattle.lu_resolve.specs.declared.error.ResolveError.{ResolveError}
use Rattle.lu_resolve.specs.declared.error.ResolveError.TheVariants.{Refused}

-- the value, or the refusal of the name
abbrev pub or_nosuch : {A : Type 0} → NameKind → Text → Option A → Result A ResolveError
or_nosuch kind name None = Err (Refused (NoSuch kind name))
or_nosuch kind name (Some a) = Ok a

-- the number, where the test holds
abbrev pub number_if : Bool → ℕ → Option ℕ
number_if test n = if test then Some n else None

-- the function of that name, where its signature passes the test
abbrev pub function_where : Program → (Signature → Bool) → Text → Option ℕ
function_where p test name =
    then_option (find name (function_names p)) (λ f. number_if (option_map_or (λ g. test (signature_of g)) (slice_get p.functions f) false) f)

-- the old struct of that name, if it has a pair
abbrev pub paired_struct : Program → List (Option ℕ) → Text → Option ℕ
paired_struct old pairs name = then_option (find name (struct_names old)) (λ s. number_if (is_some (entry_at pairs s)) s)

abbrev pub has_handler : List Handler → ℕ → Bool
has_handler handlers structure = list_any (λ (h : Handler). nat_eq h.structure structure) handlers

-- the handler, or the refusal of a struct that has an earlier one
abbrev pub handler_unless : Bool → Text → Handler → Result Handler ResolveError
handler_unless true name h = Err (Refused (Twice kind.Handler name))
handler_unless false name h = Ok h

-- The handler of these names behind earlier ones: an old struct with a pair, a new struct as old form, and a new function
-- without a result that takes pointers to the two, where the struct has no handler yet.
abbrev pub handler_of : Program → Program → List (Option ℕ) → List Handler → Planned.Handler → Result Handler ResolveError
handler_of old new pairs earlier h =
    then_do (or_nosuch kind.Handler h.old (paired_struct old pairs h.old)) (λ structure.
    then_do (or_nosuch kind.Handler h.old_form (find h.old_form (struct_names new))) (λ form.
    then_do (or_nosuch kind.Handler h.function (function_where new (takes_forms new.types form (entry_at pairs structure)) h.function)) (λ function.
    handler_unless (has_handler earlier structure) h.old (record { structure = structure; form = form; function = function }))))

-- the handlers so far and those of the plan in turn, or the first refusal
abbrev pub handlers_onto : Program → Program → List (Option ℕ) → List Handler → List Planned.Handler → Result (List Handler) ResolveError
handlers_onto old new pairs done [] = Ok done
handlers_onto old new pairs done (h ∷ hs) =
    then_do (handler_of old new pairs done h) (λ handler. handlers_onto old new pairs (done ++ handler ∷ []) hs)

-- the new function that is called last, without parameters and without a result
abbrev pub last_of : Program → Option Text → Result (Option ℕ) ResolveError
last_of new None = Ok None
last_of new (Some name) = then_do (or_nosuch kind.After name (function_where new is_plain name)) (λ function. Ok (Some function))
