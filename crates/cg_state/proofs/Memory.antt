-- Rows, addresses and bytes of the objects of a store.
use Rattle.std.proofs.Common.{◌≡◌, ◌∙◌, refl, ap, sym, subst, Bool, true, false, cond, ◌&&◌, ℕ, zero, suc, ◌+◌, ◌<◌, ◌≤◌, List, [], ◌∷◌, Option, Some, None, arith, nat_le}
use Rattle.std.specs.Prelude.{slice_get, find, map}
use Rattle.std.specs.Ordering.{nat_cmp, eq_by_cmp}
use Rattle.std.specs.Cmp.{nat_cmp_total}
use Rattle.std.specs.FinMap.{find as look, get, get-from_entries}
use Rattle.std.proofs.lemmas.Bool.Decides.{nat_tests}
use Rattle.c_types.specs.declared.parts.Parts.{Parts}
use Rattle.src_tree.specs.declared.value.Value.{Value}
use Rattle.src_tree.specs.declared.value.Object.{Object}
use Rattle.src_tree.specs.declared.value.Store.{Store}
use Rattle.lu_base.specs.Addresses.{addresses_from}
use Rattle.lu_base.specs.declared.limits.TheConstants.{FIRST_ADDRESS}
use Rattle.src_meaning.specs.Objects.{object_size, addresses}
use Rattle.src_meaning.specs.ValueBytes.{Addresses, elements_bytes}
use Rattle.bm_objects.specs.Table.{reaches}
use Rattle.cg_state.specs.Represents.{address_in, address_past, row_of, rows_from, with_entry, entries_from, content_of}

-- where an object stands
pub record Stands (sites : ℕ) (p : Parts) (first : ℕ) (os : List Object) (o : ℕ) (x : Object) : Type 0 where
  pub address : ℕ
  pub above : first ≤ address
  pub is : slice_get (addresses_from first (map (object_size p) os)) o ≡ Some address
  pub row : slice_get (rows_from sites p first os) o ≡ Some (row_of sites p address x)

pub after_above : (p : Parts) (a : ℕ) (x : Object) → a + object_size p x + 16 ≤ address_past p a x
after_above p a x = omega arith

unfoldable pub stands : (sites : ℕ) (p : Parts) (first : ℕ) (os : List Object) (o : ℕ) (x : Object) → slice_get os o ≡ Some x → Stands sites p first os o x
stands sites p first [] o x e = absurd (cc)
stands sites p first (y ∷ os) zero x e =
    let same : y ≡ x = cc in
    record { address = first; above = omega arith; is = refl; row = ap (λ y. Some (row_of sites p first y)) same }
stands sites p first (y ∷ os) (suc o) x e =
    let rest = stands sites p (address_past p first y) os o x e in
    record { address = rest.address; above = omega (arith, after_above p first y, rest.above); is = rest.is; row = rest.row }

inside_if : (a b c : ℕ) → a ≤ b → b ≤ c → (nat_le a b && nat_le b c) ≡ true
inside_if a b c h k = grind (arith, nat_tests)

past_if : (a b c : ℕ) → c < b → (nat_le a b && nat_le b c) ≡ false
past_if a b c h = grind (arith, nat_tests)

before_if : (a b c : ℕ) → b < a → (nat_le a b && nat_le b c) ≡ false
before_if a b c h = grind (arith, nat_tests)

-- the row of an address in an object, its end included
pub find_row : (sites : ℕ) (p : Parts) (first : ℕ) (os : List Object) (o k : ℕ) (x : Object) (e : slice_get os o ≡ Some x) → k ≤ object_size p x → find (reaches ((stands sites p first os o x e).address + k)) (rows_from sites p first os) ≡ Some (row_of sites p (stands sites p first os o x e).address x)
unfolding stands
find_row sites p first [] o k x e le = absurd (cc)
find_row sites p first (y ∷ os) zero k x e le =
    let same : y ≡ x = cc in
    let n = first + k in
    subst (λ y. cond (reaches n (row_of sites p first y)) (Some (row_of sites p first y)) (find (reaches n) (rows_from sites p (address_past p first y) os)) ≡ Some (row_of sites p first x)) (sym same) (ap (λ b. cond b (Some (row_of sites p first x)) (find (reaches n) (rows_from sites p (address_past p first x) os))) (inside_if first n (first + object_size p x) (omega arith) (omega (arith, le))))
find_row sites p first (y ∷ os) (suc o) k x e le =
    let rest = stands sites p (address_past p first y) os o x e in
    let n = rest.address + k in
    ap (λ b. cond b (Some (row_of sites p first y)) (find (reaches n) (rows_from sites p (address_past p first y) os))) (past_if first n (first + object_size p y) (omega (arith, after_above p first y, rest.above)))
    ∙ find_row sites p (address_past p first y) os o k x e le

-- no object reaches below the first address
pub find_none : (sites : ℕ) (p : Parts) (first n : ℕ) (os : List Object) → n < first → find (reaches n) (rows_from sites p first os) ≡ None
find_none sites p first n [] lt = refl
find_none sites p first n (y ∷ os) lt =
    ap (λ b. cond b (Some (row_of sites p first y)) (find (reaches n) (rows_from sites p (address_past p first y) os))) (before_if first n (first + object_size p y) lt)
    ∙ find_none sites p (address_past p first y) n os (omega (arith, after_above p first y))

abbrev same_address : ℕ → ℕ → Bool
same_address a b = eq_by_cmp nat_cmp a b

address_refl : (a : ℕ) → same_address a a ≡ true
address_refl a = grind (arith, nat_tests)

other_address : (a b : ℕ) → b < a → same_address a b ≡ false
other_address a b h = grind (arith, nat_tests)

-- an entry of another address is passed
look_past : (p : Parts) (av : Addresses) (q first elem : ℕ) (vs : Option (List Value)) (rest : List (ℕ × List ℕ)) → first < q → look nat_cmp q (with_entry p av first elem vs rest) ≡ look nat_cmp q rest
look_past p av q first elem None rest lt = refl
look_past p av q first elem (Some vs) rest lt =
    ap (λ b. cond b (Some (elements_bytes p av elem vs)) (look nat_cmp q rest)) (other_address q first lt)

look_entry : (sites : ℕ) (p : Parts) (av : Addresses) (first : ℕ) (os : List Object) (o : ℕ) (x : Object) (vs : List Value) (e : slice_get os o ≡ Some x) → x.elements ≡ Some vs → look nat_cmp (stands sites p first os o x e).address (entries_from p av first os) ≡ Some (elements_bytes p av x.elem vs)
unfolding stands
look_entry sites p av first [] o x vs e live = absurd (cc)
look_entry sites p av first (y ∷ os) zero x vs e live =
    let same : y ≡ x = cc in
    let rest = entries_from p av (address_past p first y) os in
    ap (λ (z : Object). look nat_cmp first (with_entry p av first z.elem z.elements rest)) same
    ∙ ap (λ l. look nat_cmp first (with_entry p av first x.elem l rest)) live
    ∙ ap (λ b. cond b (Some (elements_bytes p av x.elem vs)) (look nat_cmp first rest)) (address_refl first)
look_entry sites p av first (y ∷ os) (suc o) x vs e live =
    let rest = stands sites p (address_past p first y) os o x e in
    look_past p av rest.address first y.elem y.elements (entries_from p av (address_past p first y) os) (omega (arith, after_above p first y, rest.above))
    ∙ look_entry sites p av (address_past p first y) os o x vs e live

-- the bytes of a live object
pub get_content : (sites : ℕ) (p : Parts) (s : Store) (o : ℕ) (x : Object) (vs : List Value) (e : slice_get s.objects o ≡ Some x) → x.elements ≡ Some vs → get (content_of p s) (stands sites p FIRST_ADDRESS s.objects o x e).address ≡ Some (elements_bytes p (addresses p s) x.elem vs)
get_content sites p s o x vs e live =
    get-from_entries nat_cmp_total (entries_from p (addresses p s) FIRST_ADDRESS s.objects) (stands sites p FIRST_ADDRESS s.objects o x e).address
    ∙ look_entry sites p (addresses p s) FIRST_ADDRESS s.objects o x vs e live

-- the address by which words go
pub address_is : (sites : ℕ) (p : Parts) (s : Store) (o : ℕ) (x : Object) (e : slice_get s.objects o ≡ Some x) → address_in (addresses p s) o ≡ (stands sites p FIRST_ADDRESS s.objects o x e).address
address_is sites p s o x e = ap (λ q. Rattle.std.specs.Option.option_map_or (λ n. n) q 0) (stands sites p FIRST_ADDRESS s.objects o x e).is
