-- The objects of globals, one after the other.
use Rattle.std.proofs.Common.{◌≡◌, ◌∙◌, ap, sym, true, ℕ, zero, suc, ◌+◌, ◌*◌, ◌<◌, List, [], ◌∷◌, ◌++◌, length, get_or, Some, arith}
use Rattle.std.specs.Prelude.{not, slice_get}
use Rattle.std.specs.FinMap.{insert}
use Rattle.std.proofs.lemmas.Bool.Decides.{nat_tests}
use Rattle.lu_base.specs.Addresses.{address_after}
use Rattle.c_types.specs.declared.parts.Parts.{Parts}
use Rattle.c_types.specs.declared.parts.Ty.TheVariants.{Array}
use Rattle.c_types.specs.Layout.{size_of}
use Rattle.c_types.specs.Numbering.{names_entry, is_array, type_is_numbered, is_well_numbered}
use Rattle.c_types.proofs.Lists.{and_left}
use Rattle.c_types.proofs.Numbered.{list_all-at, types_numbered}
use Rattle.bm_mem.specs.Content.{Content}
use Rattle.bm_objects.specs.declared.row.Row.{Row}
use Rattle.bm_code.specs.declared.code.MachineGlobal.{MachineGlobal}
use Rattle.bm_code.specs.Accepted.{global_bytes}
use Rattle.bm_code.specs.Globals.{Placed, global_row, with_global}

some_in : {A : Type 0} (a b : A) → Some a ≡ Some b → a ≡ b
some_in a b h = cc

-- the elements of an array are of the table
pub array_known : (types : Parts) (t elem count : ℕ) → is_well_numbered types ≡ true → slice_get types.types t ≡ Some (Array elem count) → elem < length types.types
array_known types t elem count numbered at =
    let here : type_is_numbered types (Array elem count) ≡ true = list_all-at (type_is_numbered types) types.types t (Array elem count) (types_numbered types numbered) at in
    let named : names_entry types.types elem ≡ true = and_left (names_entry types.types elem) (not (is_array (slice_get types.types elem))) here in
    grind (arith, nat_tests)

-- an object that is placed
pub placed_with : (types : Parts) (m : Content) (rows : List Row) (next : ℕ) (g : MachineGlobal) (r : Row) (piece : List ℕ) (n : Content) (rows' : List Row) (next' : ℕ) → n ≡ insert m r.addr piece → rows' ≡ rows ++ r ∷ [] → next' ≡ address_after r.addr r.size → r ≡ global_row types next g → piece ≡ g.bytes → ◌≡◌ {A = Placed} (record { content = n; rows = rows'; next = next' }) (with_global types (record { content = m; rows = rows; next = next }) g)
placed_with types m rows next g r piece n rows' next' e f h row_is piece_is =
    let content : n ≡ insert m next g.bytes = e ∙ (ap (λ r. insert m r.addr piece) row_is ∙ ap (insert m next) piece_is) in
    let more : rows' ≡ rows ++ global_row types next g ∷ [] = f ∙ ap (λ r. rows ++ r ∷ []) row_is in
    let after : next' ≡ address_after next (size_of types g.ty) = h ∙ ap (λ r. address_after r.addr r.size) row_is in
    ap (λ c. record { content = c; rows = rows'; next = next' }) content
    ∙ (ap (λ l. record { content = insert m next g.bytes; rows = l; next = next' }) more
    ∙ ap (λ a. record { content = insert m next g.bytes; rows = rows ++ global_row types next g ∷ []; next = a }) after)

pub get_at : (gs : List MachineGlobal) (i : ℕ) (g : MachineGlobal) → i < length gs → g ≡ get_or gs i g → slice_get gs i ≡ Some g
get_at [] i g lt e = absurd (omega arith)
get_at (x ∷ gs) zero g lt e = ap Some (sym e)
get_at (x ∷ gs) (suc i) g lt e = get_at gs i g (omega arith) e

-- the room that those to come may take
abbrev pub room : List MachineGlobal → ℕ
room gs = global_bytes gs + 31 * length gs
