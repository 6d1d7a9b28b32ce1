-- The addresses of an update.
use Rattle.std.specs.Prelude.{ℕ, ◌+◌, ◌++◌, nat_eq, List, length, Option, Some, None, slice_get}
use Rattle.std.specs.List.{position_from}
use Rattle.std.specs.Option.{option_map}
use Rattle.lu_spec.specs.Then.{then_option}
use Rattle.lu_image.specs.Correspondence.{pair_in}
use Rattle.lu_base.specs.declared.limits.TheConstants.{FIRST_ADDRESS}
use Rattle.bm_objects.specs.declared.row.Row.{Row}
use Rattle.lu_image.specs.declared.pairing.Pairing.{Pairing}
use Rattle.lu_remap.specs.Shapes.{global_shapes, heap_shapes, moved_numbers, placed}

-- the old rows, the old numbers of the heap objects that move, and the new rows: the new globals, and those objects behind them
pub record Addresses : Type 0 where
  pub pairing : Pairing
  pub old : List Row
  pub moved : List ℕ
  pub new : List Row

abbrev pub addresses_of : Pairing → List Row → List ℕ → Addresses
addresses_of p rows needed = record {
  pairing = p;
  old = rows;
  moved = moved_numbers p rows needed;
  new = placed FIRST_ADDRESS (global_shapes p.new ++ heap_shapes p rows needed);
}

-- the new number of an old object: that of its pair, or its place among the heap objects that move, behind the new globals
abbrev pub number_of : Addresses → ℕ → Option ℕ → Option ℕ
number_of map k None = pair_in map.pairing.globals k
number_of map k (Some site) =
    option_map (λ i. length map.pairing.new.globals + i) (position_from (nat_eq k) 0 map.moved)

abbrev pub new_number : Addresses → ℕ → Option ℕ
new_number map k = then_option (slice_get map.old k) (λ r. number_of map k r.site)

-- the address of the image of an old object
abbrev pub new_address : Addresses → ℕ → Option ℕ
new_address map k = then_option (new_number map k) (λ j. option_map (λ r. r.addr) (slice_get map.new j))
