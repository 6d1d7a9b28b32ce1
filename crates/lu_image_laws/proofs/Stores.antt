-- Objects of a store: those of globals and those after them, with other elements, and with one more.
use Rattle.std.proofs.Common.{◌≡◌, ◌∙◌, refl, sym, ap, subst, ℕ, zero, suc, ◌+◌, ◌≤◌, Bool, true, false, ◌&&◌, not, cond, nat_eq, nat_lt, nat_le, List, [], ◌∷◌, ◌++◌, map, length, Option, Some, None, slice_get, arith}
use Rattle.std.specs.Prelude.{slice_set}
use Rattle.std.specs.List.{list_all}
use Rattle.std.proofs.lemmas.Bool.Decides.{nat_tests}
use Rattle.lu_base.specs.Addresses as by_size
use Rattle.lu_base.proofs.AddressLemmas.{next_append, after_low}
use Rattle.c_types.specs.declared.parts.Parts.{Parts}
use Rattle.src_tree.specs.declared.value.Value.{Value}
use Rattle.src_tree.specs.declared.value.Object.{Object}
use Rattle.src_tree.specs.declared.value.ObjectKind.{ObjectKind}
use Rattle.src_tree.specs.declared.value.ObjectKind.TheVariants.{Global, Heap, Temporary}
use Rattle.src_tree.specs.declared.value.Store.{Store}
use Rattle.src_tree.specs.declared.program.Global as Text
use Rattle.src_tree.specs.declared.program.Program.{Program}
use Rattle.src_meaning.specs.Initial.{global_elem, global_count}
use Rattle.src_meaning.specs.Objects.{with_elements, is_live, is_live_heap, is_global, object_size, heap_sizes}
use Rattle.src_meaning.specs.Store.{has_type, is_well_typed, are_elements, is_of_kind, is_heap_object, is_global_object, are_objects}
use Rattle.src_meaning.proofs.LayoutLengths.{and_left, and_right}
use Rattle.src_laws.proofs.StoreParts.{all_get}
use Rattle.lu_image_laws.proofs.Members.{and_in}

pub equal_of : (a b : ℕ) → nat_eq a b ≡ true → a ≡ b
equal_of a b h = grind (arith, nat_tests, h)

-- what a global's object is
pub record IsGlobalObject (p : Program) (g : Text.Global) (x : Object) : Type 0 where
  pub kind : x.kind ≡ Global
  pub live : is_live x ≡ true
  pub elem : x.elem ≡ global_elem p.types g.ty
  pub count : x.count ≡ global_count p.types g.ty

pub global_object_is : (p : Program) (g : Text.Global) (x : Object) → is_global_object p g x ≡ true → IsGlobalObject p g x
global_object_is p g x h =
    let rest = and_right _ (is_live x && (nat_eq x.elem (global_elem p.types g.ty) && nat_eq x.count (global_count p.types g.ty))) h in
    let numbers = and_right (is_live x) (nat_eq x.elem (global_elem p.types g.ty) && nat_eq x.count (global_count p.types g.ty)) rest in
    record {
      kind = by x.kind h;
      live = and_left (is_live x) (nat_eq x.elem (global_elem p.types g.ty) && nat_eq x.count (global_count p.types g.ty)) rest;
      elem = equal_of x.elem (global_elem p.types g.ty) (and_left (nat_eq x.elem (global_elem p.types g.ty)) (nat_eq x.count (global_count p.types g.ty)) numbers);
      count = equal_of x.count (global_count p.types g.ty) (and_right (nat_eq x.elem (global_elem p.types g.ty)) (nat_eq x.count (global_count p.types g.ty)) numbers);
    }
  where
    by : (k : ObjectKind) → is_global_object p g (record x { kind = k }) ≡ true → k ≡ Global
    by Global h = refl
    by (Heap site) h = absurd (cc)
    by Temporary h = absurd (cc)

-- the object of a global, by its number
pub object_of : (p : Program) (gs : List Text.Global) (xs : List Object) (k : ℕ) (g : Text.Global) → are_objects p gs xs ≡ true → slice_get gs k ≡ Some g → (x : Object) × (slice_get xs k ≡ Some x) × IsGlobalObject p g x
object_of p [] xs k g h e = absurd (cc)
object_of p (d ∷ gs) [] k g h e = absurd (cc)
object_of p (d ∷ gs) (x ∷ xs) zero g h e =
    let same : d ≡ g = cc in
    (x, refl, subst (λ g. IsGlobalObject p g x) same (global_object_is p d x (and_left (is_global_object p d x) (are_objects p gs xs) h)))
object_of p (d ∷ gs) (x ∷ xs) (suc k) g h e =
    object_of p gs xs k g (and_right (is_global_object p d x) (are_objects p gs xs) h) e

-- an object that is no global is one of the heap
pub later_object : (p : Program) (gs : List Text.Global) (xs : List Object) (k : ℕ) (x : Object) → are_objects p gs xs ≡ true → slice_get xs k ≡ Some x → is_global x.kind ≡ false → is_heap_object p x ≡ true
later_object p [] xs k x h e kind = all_get (is_heap_object p) xs k x h e
later_object p (g ∷ gs) [] k x h e kind = absurd (cc)
later_object p (g ∷ gs) (y ∷ xs) zero x h e kind =
    let same : y ≡ x = cc in
    let is = (global_object_is p g y (and_left (is_global_object p g y) (are_objects p gs xs) h)).kind in
    absurd (let a : is_global x.kind ≡ true = ap (λ (x : Object). is_global x.kind) (sym same) ∙ ap is_global is in cc)
later_object p (g ∷ gs) (y ∷ xs) (suc k) x h e kind =
    later_object p gs xs k x (and_right (is_global_object p g y) (are_objects p gs xs) h) e kind

-- the elements of an object of well typed objects
pub elements_of_typed : (p : Program) (s : Store) (x : Object) (vs : List Value) → is_well_typed p s x ≡ true → x.elements ≡ Some vs → (length vs ≡ x.count) × (list_all (has_type p s x.elem) vs ≡ true)
elements_of_typed p s x vs h live =
    let two : (nat_eq (length vs) x.count && list_all (has_type p s x.elem) vs) ≡ true = subst (λ l. are_elements p s x l ≡ true) live h in
    (equal_of (length vs) x.count (and_left (nat_eq (length vs) x.count) (list_all (has_type p s x.elem) vs) two), and_right (nat_eq (length vs) x.count) (list_all (has_type p s x.elem) vs) two)

pub live_has : (x : Object) → is_live x ≡ true → (vs : List Value) × (x.elements ≡ Some vs)
live_has x h = by x.elements h
  where
    by : (l : Option (List Value)) → is_live (with_elements x l) ≡ true → (vs : List Value) × (l ≡ Some vs)
    by None h = absurd (cc)
    by (Some vs) h = (vs, refl)

-- with other elements
kind_same : (p : Program) (x : Object) (l : Option (List Value)) (k : ObjectKind) → is_of_kind p (with_elements x l) k ≡ is_of_kind p x k
kind_same p x l Global = refl
kind_same p x l (Heap site) = refl
kind_same p x l Temporary = refl

pub heap_kept : (p : Program) (x : Object) (l : Option (List Value)) → is_heap_object p x ≡ true → is_heap_object p (with_elements x l) ≡ true
heap_kept p x l h = ap (λ b. b && (nat_lt 0 x.count && nat_le (object_size p.types x) 4194304)) (kind_same p x l x.kind) ∙ h

pub global_kept : (p : Program) (g : Text.Global) (x : Object) (vs : List Value) → is_global_object p g x ≡ true → is_global_object p g (with_elements x (Some vs)) ≡ true
global_kept p g x vs h =
    and_in _ _ (and_left _ _ h) (and_in true _ refl (and_right (is_live x) _ (and_right _ _ h)))

pub sizes_set : (p : Parts) (x : Object) (l : Option (List Value)) (os : List Object) (o : ℕ) → slice_get os o ≡ Some x → map (object_size p) (slice_set os o (with_elements x l)) ≡ map (object_size p) os
sizes_set p x l [] o e = absurd (cc)
sizes_set p x l (y ∷ os) zero e = let same : y ≡ x = cc in ap (λ (y : Object). object_size p y ∷ map (object_size p) os) (sym same)
sizes_set p x l (y ∷ os) (suc o) e = ap (λ l. object_size p y ∷ l) (sizes_set p x l os o e)

-- a global takes nothing of the heap
pub heap_set : (p : Parts) (x : Object) (l : Option (List Value)) → is_global x.kind ≡ true → (os : List Object) (o : ℕ) → slice_get os o ≡ Some x → heap_sizes p (slice_set os o (with_elements x l)) ≡ heap_sizes p os
heap_set p x l kind [] o e = absurd (cc)
heap_set p x l kind (y ∷ os) zero e =
    let same : y ≡ x = cc in
    ap (λ n. n + heap_sizes p os) (none (with_elements x l) kind ∙ sym (none y (ap (λ (y : Object). is_global y.kind) same ∙ kind)))
  where
    none : (x : Object) → is_global x.kind ≡ true → cond (is_live_heap x) (object_size p x) 0 ≡ 0
    none x h = ap (λ b. cond (is_live x && not b) (object_size p x) 0) h ∙ by (is_live x)
      where
        by : (b : Bool) → cond (b && false) (object_size p x) 0 ≡ 0
        by true = refl
        by false = refl
heap_set p x l kind (y ∷ os) (suc o) e = ap (λ n. cond (is_live_heap y) (object_size p y) 0 + n) (heap_set p x l kind os o e)

-- with one more
pub heap_more : (p : Parts) (os : List Object) (x : Object) → heap_sizes p (os ++ x ∷ []) ≡ heap_sizes p os + cond (is_live_heap x) (object_size p x) 0
heap_more p [] x = omega arith
heap_more p (y ∷ os) x = let rest = heap_more p os x in omega (arith, rest)

sizes_more : (p : Parts) (os : List Object) (x : Object) → map (object_size p) (os ++ x ∷ []) ≡ map (object_size p) os ++ object_size p x ∷ []
sizes_more p [] x = refl
sizes_more p (y ∷ os) x = ap (λ l. object_size p y ∷ l) (sizes_more p os x)

pub next_more : (p : Parts) (os : List Object) (x : Object) → by_size.next_address (map (object_size p) (os ++ x ∷ [])) ≤ by_size.next_address (map (object_size p) os) + object_size p x + 31
next_more p os x =
    let is = ap by_size.next_address (sizes_more p os x) ∙ next_append 4096 (map (object_size p) os) (object_size p x ∷ []) in
    let low = after_low (by_size.next_address (map (object_size p) os)) (object_size p x) in
    omega (arith, is, low)

module _ (p : Program) (x : Object) (heap : is_heap_object p x ≡ true) where
  heaps_more : (xs : List Object) → list_all (is_heap_object p) xs ≡ true → list_all (is_heap_object p) (xs ++ x ∷ []) ≡ true
  heaps_more [] h = and_in (is_heap_object p x) true heap refl
  heaps_more (y ∷ xs) h =
      and_in (is_heap_object p y) _ (and_left (is_heap_object p y) (list_all (is_heap_object p) xs) h) (heaps_more xs (and_right (is_heap_object p y) (list_all (is_heap_object p) xs) h))

  pub objects_more : (gs : List Text.Global) (xs : List Object) → are_objects p gs xs ≡ true → are_objects p gs (xs ++ x ∷ []) ≡ true
  objects_more [] xs h = heaps_more xs h
  objects_more (g ∷ gs) [] h = absurd (cc)
  objects_more (g ∷ gs) (y ∷ xs) h =
      and_in (is_global_object p g y) _ (and_left (is_global_object p g y) (are_objects p gs xs) h) (objects_more gs xs (and_right (is_global_object p g y) (are_objects p gs xs) h))

pub all_more : {A : Type 0} (test : A → Bool) (xs : List A) (x : A) → list_all test xs ≡ true → test x ≡ true → list_all test (xs ++ x ∷ []) ≡ true
all_more test [] x h g = and_in (test x) true g refl
all_more test (y ∷ xs) x h g = and_in (test y) (list_all test (xs ++ x ∷ [])) (and_left (test y) (list_all test xs) h) (all_more test xs x (and_right (test y) (list_all test xs) h) g)

pub get_last : {A : Type 0} (xs : List A) (x : A) → slice_get (xs ++ x ∷ []) (length xs) ≡ Some x
get_last [] x = refl
get_last (y ∷ xs) x = get_last xs x

pub length_more : {A : Type 0} (xs : List A) (x : A) → length (xs ++ x ∷ []) ≡ suc (length xs)
length_more [] x = refl
length_more (y ∷ xs) x = ap suc (length_more xs x)
