-- The needed objects of a store: the ends of finite chains of carried pointers.
use Rattle.std.specs.Prelude.{ℕ, zero, suc, ◌<◌, Bool, false, ◌&&◌, ◌||◌, nat_eq, is_some, IsTrue, List, length, filter, flat_map, slice_get}
use Rattle.std.specs.List.{list_any, range_with_len}
use Rattle.std.specs.List.Sorted.{IsStrictlyIncreasing}
use Rattle.std.specs.Option.{option_map_or}
use Rattle.src_tree.specs.declared.value.Object.{Object}
use Rattle.src_tree.specs.declared.value.Store.{Store}
use Rattle.src_meaning.specs.Objects.{is_global, is_live_heap}
use Rattle.lu_image_store.specs.Versions.{Versions, paired_global}
use Rattle.lu_image_store.specs.Carried.{carried}

-- objects by their numbers: where chains begin, where each goes on to, and which may follow another
pub record Graph : Type 0 where
  pub size : ℕ
  pub is_root : ℕ → Bool
  pub next : ℕ → List ℕ
  pub may_follow : ℕ → Bool

abbrev pub is_object : Store → (Object → Bool) → ℕ → Bool
is_object store test k = option_map_or test (slice_get store.objects k) false

-- chains begin at a paired global, and go on to live heap objects
abbrev pub graph_of : Versions → Store → Graph
graph_of m store = record {
  size = length store.objects;
  is_root = λ k. is_object store (λ x. is_global x.kind && is_some (paired_global m k)) k;
  next = carried m store;
  may_follow = is_object store is_live_heap;
}

abbrev pub is_in : List ℕ → ℕ → Bool
is_in xs x = list_any (λ y. nat_eq y x) xs

-- a chain of so many steps ends at x
pub data EndsChain (g : Graph) : ℕ → ℕ → Type 0 where
  root : {x : ℕ} → x < g.size → IsTrue (g.is_root x) → EndsChain g 0 x
  step : {n y x : ℕ} → EndsChain g n y → IsTrue (is_in (g.next y) x) → x < g.size → IsTrue (g.may_follow x) → EndsChain g (suc n) x

abbrev pub IsNeeded : Graph → ℕ → Type 0
IsNeeded g x = (n : ℕ) × EndsChain g n x

-- exactly the needed objects, in order
pub record AreNeeded (g : Graph) (xs : List ℕ) : Type 0 where
  pub rising : IsStrictlyIncreasing xs
  pub sound : (x : ℕ) → IsTrue (is_in xs x) → IsNeeded g x
  pub whole : (x : ℕ) → IsNeeded g x → IsTrue (is_in xs x)

-- The same as a list: the ends of chains of at most n steps, where no chain needs more steps than there are objects.
abbrev pub numbers : Graph → List ℕ
numbers g = range_with_len 0 g.size

abbrev pub with_next : Graph → List ℕ → List ℕ → List ℕ
with_next g found next = filter (λ x. is_in found x || (g.may_follow x && is_in next x)) (numbers g)

abbrev pub one_further : Graph → List ℕ → List ℕ
one_further g found = with_next g found (flat_map g.next found)

abbrev pub ends_within : Graph → ℕ → List ℕ
ends_within g zero = filter g.is_root (numbers g)
ends_within g (suc n) = one_further g (ends_within g n)

abbrev pub needed_in : Graph → List ℕ
needed_in g = ends_within g g.size

-- the numbers of the needed objects of a store, in order
abbrev pub needed_objects : Versions → Store → List ℕ
needed_objects m store = needed_in (graph_of m store)
