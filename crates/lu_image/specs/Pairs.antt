-- When a pairing pairs two programs.
use Rattle.std.specs.Prelude.{◌≡◌, ℕ, Bool, true, false, ◌&&◌, not, nat_eq, is_some, IsTrue, List, [], ◌∷◌, length, Option, Some, None, slice_get}
use Rattle.std.specs.List.{list_all, list_any}
use Rattle.std.specs.Option.{option_map_or}
use Rattle.c_types.specs.declared.parts.Ty.{Ty}
use Rattle.c_types.specs.declared.parts.Ty.TheVariants.{Pointer, Struct}
use Rattle.c_types.specs.declared.parts.Parts.{Parts}
use Rattle.c_types.specs.declared.parts.Signature.{Signature}
use Rattle.src_tree.specs.declared.program.Program.{Program}
use Rattle.src_meaning.specs.Valid.{IsValid}
use Rattle.lu_image.specs.declared.rename.Rename.{Rename}
use Rattle.lu_image.specs.declared.pairing.Pairing.{Pairing}
use Rattle.lu_image.specs.declared.handler.Handler.{Handler}
use Rattle.lu_image.specs.Renaming.{are_in_order}
use Rattle.lu_image.specs.Names.{entry_at}
use Rattle.lu_image.specs.Pairing.{pairing_of}
use Rattle.lu_image.specs.RenameRefusal.{refusal_of}

abbrev pub is_struct : Option Ty → ℕ → Bool
is_struct (Some (Struct s)) k = nat_eq s k
is_struct _ k = false

-- a pointer to the struct of this number
abbrev pub is_pointer_to : Parts → Option Ty → ℕ → Bool
is_pointer_to p (Some (Pointer t)) k = is_struct (slice_get p.types t) k
is_pointer_to p _ k = false

-- two pointers, to the old form and to the pair of the struct
abbrev pub are_forms : Parts → ℕ → Option ℕ → List ℕ → Bool
are_forms p form (Some pair) (t ∷ u ∷ []) =
    is_pointer_to p (slice_get p.types t) form && is_pointer_to p (slice_get p.types u) pair
are_forms p form _ _ = false

-- a function of no result that takes them
abbrev pub takes_forms : Parts → ℕ → Option ℕ → Signature → Bool
takes_forms p form pair g = not (is_some g.result) && are_forms p form pair g.params

-- a handler names an old struct with a pair, a struct of the new program as old form, and such a function
abbrev pub is_handler : Pairing → Handler → Bool
is_handler p h =
    is_some (slice_get p.new.types.structs h.form) && option_map_or (takes_forms p.new.types h.form (entry_at p.structs h.structure)) (slice_get p.new.functions h.function) false

-- no struct has two handlers
abbrev pub are_distinct : List Handler → Bool
are_distinct [] = true
are_distinct (h ∷ hs) = not (list_any (λ g. nat_eq g.structure h.structure) hs) && are_distinct hs

abbrev pub is_plain : Signature → Bool
is_plain g = not (is_some g.result) && nat_eq (length g.params) 0

-- what is called last is a function of no parameters and no result
abbrev pub is_last : Pairing → Option ℕ → Bool
is_last p None = true
is_last p (Some f) = option_map_or is_plain (slice_get p.new.functions f) false

-- with the rule on pointers to dead objects, the handlers and the last call of another one
abbrev pub with_plan_of : Pairing → Pairing → Pairing
with_plan_of p q = record {
  globals = p.globals;
  structs = p.structs;
  fields = p.fields;
  unions = p.unions;
  members = p.members;
  functions = p.functions;
  sites = p.sites;
  old = p.old;
  new = p.new;
  dangling = q.dangling;
  handlers = q.handlers;
  after = q.after;
}

-- The pairing pairs the two programs: both are valid, its lists, tables and types are theirs under some renames that are
-- not refused, and its handlers and its last call are such as an update may have.
pub record Pairs (old new : Program) (p : Pairing) : Type 0 where
  pub old_valid : IsValid old
  pub new_valid : IsValid new
  pub renames : List Rename
  pub ordered : IsTrue (are_in_order renames)
  pub passes : refusal_of old new renames ≡ None
  pub paired : p ≡ with_plan_of (pairing_of old new renames) p
  pub handlers : IsTrue (list_all (is_handler p) p.handlers)
  pub distinct : IsTrue (are_distinct p.handlers)
  pub last : IsTrue (is_last p p.after)
