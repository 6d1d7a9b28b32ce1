-- Two versions of a program, and their objects as elements of a type.
use Rattle.std.specs.Prelude.{ℕ, Bool, true, List, [], Option, Some, None, unwrap_or, slice_get}
use Rattle.std.specs.Option.{option_map}
use Rattle.lu_spec.specs.Then.{then_option}
use Rattle.c_types.specs.declared.parts.Parts.{Parts}
use Rattle.c_types.specs.declared.parts.Ty.{Ty}
use Rattle.c_types.specs.Layout.{size_of}
use Rattle.c_types.specs.Numbering.{is_array}
use Rattle.src_tree.specs.declared.value.ObjectKind.{ObjectKind}
use Rattle.src_tree.specs.declared.value.ObjectKind.TheVariants.{Global, Heap, Temporary}
use Rattle.src_tree.specs.declared.value.Object.{Object}
use Rattle.src_tree.specs.declared.program.Program.{Program}
use Rattle.src_meaning.specs.Initial.{global_elem, global_count}
use Rattle.lu_image.specs.declared.pairing.Pairing.{Pairing}
use Rattle.lu_image.specs.Correspondence.{pair_in, do_pair, corresponds}

-- the pairing of two programs, and the names that their fields have
pub record Versions : Type 0 where
  pub pairing : Pairing
  pub old_names : List (List ℕ)
  pub new_names : List (List ℕ)

-- those of two programs under a pairing
abbrev pub versions_of : Program → Program → Pairing → Versions
versions_of old new p = record {
  pairing = p;
  old_names = old.names;
  new_names = new.names;
}

abbrev pub old_types : Versions → Parts
old_types m = m.pairing.old.types

abbrev pub new_types : Versions → Parts
new_types m = m.pairing.new.types

abbrev pub old_type : Versions → ℕ → Option Ty
old_type m t = slice_get m.pairing.old.types.types t

abbrev pub new_type : Versions → ℕ → Option Ty
new_type m u = slice_get m.pairing.new.types.types u

abbrev pub old_size : Versions → ℕ → ℕ
old_size m t = size_of (old_types m) t

abbrev pub new_size : Versions → ℕ → ℕ
new_size m u = size_of (new_types m) u

-- an old type and a new one correspond
abbrev pub do_correspond : Versions → ℕ → ℕ → Bool
do_correspond m t u = corresponds (old_types m) (new_types m) m.pairing.structs m.pairing.unions t u

abbrev pub structs_pair : Versions → ℕ → ℕ → Bool
structs_pair m s r = do_pair m.pairing.structs s r

abbrev pub unions_pair : Versions → ℕ → ℕ → Bool
unions_pair m s r = do_pair m.pairing.unions s r

-- the new number of each field of an old struct
abbrev pub field_pairs : Versions → ℕ → List (Option ℕ)
field_pairs m s = unwrap_or (slice_get m.pairing.fields s) []

-- the new number of each member of an old union
abbrev pub member_pairs : Versions → ℕ → List (Option ℕ)
member_pairs m s = unwrap_or (slice_get m.pairing.members s) []

-- an object as so many elements of a type. A heap object counts as an array, and a global where it is declared as one
pub record Extent : Type 0 where
  pub elem : ℕ
  pub count : ℕ
  pub is_array : Bool

abbrev pub extent : ℕ → ℕ → Bool → Extent
extent elem count array = record { elem = elem; count = count; is_array = array }

-- a global of type t
abbrev pub global_extent : Parts → ℕ → Extent
global_extent p t = extent (global_elem p t) (global_count p t) (is_array (slice_get p.types t))

abbrev pub old_extent_in : Versions → ℕ → Object → ObjectKind → Option Extent
old_extent_in m k x Global = option_map (global_extent (old_types m)) (slice_get m.pairing.old.globals k)
old_extent_in m k x (Heap site) = Some (extent x.elem x.count true)
old_extent_in m k x Temporary = Some (extent x.elem x.count true)

-- the old object of number k
abbrev pub old_extent : Versions → ℕ → Object → Option Extent
old_extent m k x = old_extent_in m k x x.kind

-- the type of the global that pairs with an old one
abbrev pub paired_global : Versions → ℕ → Option ℕ
paired_global m k = then_option (pair_in m.pairing.globals k) (slice_get m.pairing.new.globals)

-- the type of the elements of the site that pairs with an old one
abbrev pub paired_site : Versions → ℕ → Option ℕ
paired_site m site = then_option (pair_in m.pairing.sites site) (slice_get m.pairing.new.sites)

abbrev pub new_extent_in : Versions → ℕ → Object → ObjectKind → Option Extent
new_extent_in m k x Global = option_map (global_extent (new_types m)) (paired_global m k)
new_extent_in m k x (Heap site) = option_map (λ u. extent u x.count true) (paired_site m site)
new_extent_in m k x Temporary = None

-- the new object of the old one of number k, if its global or its site has a pair; a heap object keeps its count
abbrev pub new_extent : Versions → ℕ → Object → Option Extent
new_extent m k x = new_extent_in m k x x.kind
