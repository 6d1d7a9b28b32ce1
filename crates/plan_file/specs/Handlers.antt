-- The handlers of an update.
use Rattle.std.specs.Prelude.{ℕ, List, [], ◌∷◌, Option, Some, None, Result, Ok, codes}
use Rattle.lu_spec.specs.Then.{then_do}
use Rattle.toml.specs.Data.{Data, Members, as_table}
use Rattle.plan_file.specs.declared.key.Key.TheVariants as key
use Rattle.plan_file.specs.declared.key.LimitedList.TheVariants as limited
use Rattle.plan_file.specs.declared.error.PlanError.{PlanError}
use Rattle.plan_file.specs.declared.plan.Handler.{Handler}
use Rattle.plan_file.specs.Forms.{is_name, text_where}
use Rattle.plan_file.specs.Lookup.{needed, or_field, if_passed, has_only, table_list, each_onto}

abbrev pub handler_words : List (List ℕ)
handler_words = codes "struct" ∷ codes "old_form" ∷ codes "function" ∷ []

-- the handler that a table stands for, or its first refusal
unfoldable pub handler_of : Members → Result Handler PlanError
handler_of ms =
    then_do (needed ms (codes "struct") key.HandlerStruct (text_where is_name)) (λ old.
    then_do (needed ms (codes "old_form") key.HandlerOldForm (text_where is_name)) (λ old_form.
    then_do (needed ms (codes "function") key.HandlerFunction (text_where is_name)) (λ function.
    if_passed (has_only handler_words ms) key.HandlerUnknown (
    Ok (record { old = old; old_form = old_form; function = function })))))

-- the handler that an item of the list stands for
abbrev pub handler_in : Data → Result Handler PlanError
handler_in d = then_do (or_field key.UpdateHandler (as_table d)) handler_of

abbrev pub handler_at : List Handler → Data → Result Handler PlanError
handler_at earlier d = handler_in d

-- at most 16 handlers, where there is a list of them
abbrev pub handlers_of : Option Data → Result (List Handler) PlanError
handlers_of None = Ok []
handlers_of (Some d) = then_do (table_list key.UpdateHandler limited.Handlers 0 16 d) (each_onto handler_at [])
