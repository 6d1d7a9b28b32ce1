-- Pairings of small programs.
use Rattle.std.proofs.Common.{◌≡◌, refl, ℕ, List, [], ◌∷◌, Option, Some, None, Ok, Err}
use Rattle.std.specs.Prelude.{codes}
use Rattle.std.specs.Fmt.{digits}
use Rattle.lu_image.specs.declared.rename.Table.{Table}
use Rattle.lu_image.specs.declared.rename.Table.TheVariants as T
use Rattle.lu_image.specs.declared.rename.Rename.{Rename}
use Rattle.lu_image.specs.declared.error.PairError.{PairError}
use Rattle.lu_image.specs.declared.error.PairError.TheVariants.{NoSuch, Twice}
use Rattle.lu_image.specs.Pairing.{global_pairs, struct_pairs, field_pairs, member_pairs, function_pairs, site_pairs, pairing_of}
use Rattle.lu_image.specs.RenameRefusal.{refusal_of, pair}
use Rattle.lu_image.proofs.Samples.{counter, cycle, tagged_cycle, cycle_with_word, cycle_of_words, shared, shared_of_three, twins, rename}

-- an int that becomes a long long: everything pairs with its own
counted : pair (counter 0) (counter 5) [] ≡ Ok (pairing_of (counter 0) (counter 5) [])
counted = refl

counted-globals : global_pairs (counter 0) (counter 5) [] ≡ Some 0 ∷ Some 1 ∷ Some 2 ∷ []
counted-globals = refl

counted-fields : field_pairs (counter 0) (counter 5) [] ≡ (Some 0 ∷ Some 1 ∷ Some 2 ∷ []) ∷ []
counted-fields = refl

counted-functions : function_pairs (counter 0) (counter 5) [] ≡ Some 0 ∷ Some 1 ∷ []
counted-functions = refl

-- a struct that gains a field in front
tagged-fields : field_pairs cycle tagged_cycle [] ≡ (Some 0 ∷ Some 1 ∷ Some 2 ∷ []) ∷ (Some 1 ∷ Some 2 ∷ []) ∷ []
tagged-fields = refl

tagged-sites : site_pairs cycle tagged_cycle [] ≡ Some 0 ∷ []
unfolding digits
tagged-sites = refl

-- a function that gains an allocation: its sites pair by a rename alone
gained : site_pairs cycle cycle_with_word [] ≡ None ∷ []
unfolding digits
gained = refl

abbrev moved : List Rename
moved = rename T.Site (codes "mk#0") (codes "mk#1") ∷ []

gained-renamed : site_pairs cycle cycle_with_word moved ≡ Some 1 ∷ []
unfolding digits
gained-renamed = refl

gained-refusal : refusal_of cycle cycle_with_word moved ≡ None
unfolding digits
gained-refusal = refl

-- as many sites whose types don't correspond
other-words : site_pairs cycle cycle_of_words [] ≡ None ∷ []
unfolding digits
other-words = refl

-- two renames to one name
two-to-one : pair shared shared_of_three (rename T.Global (codes "a") (codes "z") ∷ rename T.Global (codes "b") (codes "z") ∷ [])
    ≡ Err (Twice T.Global (codes "z"))
two-to-one = refl

-- an old name that is renamed doesn't pair by its name, nor does the name that is given
renamed-global : global_pairs shared shared_of_three (rename T.Global (codes "a") (codes "b") ∷ []) ≡ Some 0 ∷ Some 1 ∷ Some 3 ∷ None ∷ []
renamed-global = refl

renamed-function : function_pairs twins twins (rename T.Function (codes "a") (codes "b") ∷ []) ≡ Some 1 ∷ None ∷ Some 2 ∷ Some 3 ∷ []
renamed-function = refl

-- and its sites follow it
renamed-sites : site_pairs twins twins (rename T.Function (codes "a") (codes "b") ∷ []) ≡ Some 1 ∷ None ∷ []
unfolding digits
renamed-sites = refl

-- what can't be renamed or given
abbrev refused : Table → List ℕ → List ℕ → Option PairError
refused table old new = refusal_of twins twins (rename table old new ∷ [])

from-m_out : refused T.Global (codes "m_out") (codes "a") ≡ Some (NoSuch T.Global (codes "m_out"))
from-m_out = refl

to-m_in : refused T.Global (codes "a") (codes "m_in") ≡ Some (NoSuch T.Global (codes "m_in"))
to-m_in = refl

to-message : refused T.Struct (codes "pair") (codes "message") ≡ Some (NoSuch T.Struct (codes "message"))
to-message = refl

from-message : refused T.Field (codes "message.type") (codes "source") ≡ Some (NoSuch T.Field (codes "message.type"))
from-message = refl

absent-global : refused T.Global (codes "zz") (codes "yy") ≡ Some (NoSuch T.Global (codes "zz"))
absent-global = refl

absent-field : refused T.Field (codes "node.a") (codes "next") ≡ Some (NoSuch T.Field (codes "next"))
absent-field = refl

absent-member : refused T.Member (codes "node.a") (codes "a") ≡ Some (NoSuch T.Member (codes "node.a"))
absent-member = refl

absent-union : refused T.Union (codes "v") (codes "node") ≡ Some (NoSuch T.Union (codes "node"))
absent-union = refl

absent-site : refused T.Site (codes "a#00") (codes "b#0") ≡ Some (NoSuch T.Site (codes "a#00"))
unfolding digits
absent-site = refl

-- a name twice in one struct, and once in each of two
abbrev twice : List ℕ → List ℕ → Option PairError
twice one other = refusal_of twins twins (rename T.Field one (codes "a") ∷ rename T.Field other (codes "a") ∷ [])

in-one : twice (codes "node.a") (codes "node.b") ≡ Some (Twice T.Field (codes "a"))
in-one = refl

in-two : twice (codes "node.b") (codes "pair.b") ≡ None
in-two = refl

-- a field's rename in a struct without a pair
unpaired-struct : refusal_of cycle (counter 0) (rename T.Field (codes "node.v") (codes "v") ∷ []) ≡ Some (NoSuch T.Field (codes "v"))
unpaired-struct = refl

-- the fields of one struct, under renames
swapped-fields : field_pairs twins twins (rename T.Field (codes "node.a") (codes "b") ∷ [])
    ≡ (Some 0 ∷ Some 1 ∷ Some 2 ∷ []) ∷ (Some 1 ∷ None ∷ []) ∷ (Some 0 ∷ Some 1 ∷ []) ∷ []
swapped-fields = refl

swapped-members : member_pairs twins twins (rename T.Member (codes "v.b") (codes "a") ∷ []) ≡ (None ∷ Some 0 ∷ []) ∷ []
swapped-members = refl

crossed-structs : struct_pairs twins twins (rename T.Struct (codes "node") (codes "pair") ∷ []) ≡ Some 0 ∷ Some 2 ∷ None ∷ []
crossed-structs = refl
