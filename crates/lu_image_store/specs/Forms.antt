-- Handlers, and how the fields of an old struct and of its old form pair.
use Rattle.std.specs.Prelude.{ℕ, nat_eq, List, [], map, Option, slice_get, find}
use Rattle.c_types.specs.declared.parts.FieldDef.{FieldDef}
use Rattle.c_types.specs.Tables.{fields_of}
use Rattle.src_tree.specs.declared.value.Value.{Value}
use Rattle.src_meaning.specs.Paths.{zero_of}
use Rattle.lu_image.specs.declared.handler.Handler.{Handler}
use Rattle.lu_image.specs.Names.{Names}
use Rattle.lu_image.specs.Pairing.{pair_names}
use Rattle.lu_image_store.specs.Versions.{Versions, old_types, new_types}

-- the handler of an old struct, if it has one
abbrev pub handler_of : Versions → ℕ → Option Handler
handler_of m s = find (λ h. nat_eq h.structure s) m.pairing.handlers

abbrev pub old_fields : Versions → ℕ → List FieldDef
old_fields m s = fields_of (old_types m) s

abbrev pub new_fields : Versions → ℕ → List FieldDef
new_fields m r = fields_of (new_types m) r

abbrev pub names_of : List (List ℕ) → List FieldDef → Names
names_of texts fields = map (λ f. slice_get texts f.name) fields

-- for each field of the old struct s the number of the field of equal name in its old form, if there is one
abbrev pub form_pairs : Versions → ℕ → ℕ → List (Option ℕ)
form_pairs m s form =
    pair_names [] (names_of m.old_names (old_fields m s)) (names_of m.new_names (new_fields m form))

-- the fields of a struct of the new program, all zero
abbrev pub zero_fields : Versions → ℕ → List Value
zero_fields m r = map (λ f. zero_of (new_types m) f.ty) (new_fields m r)
