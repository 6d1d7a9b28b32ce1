-- Types that equal an earlier one, against a set of those before.
use Rattle.std.proofs.Common.{◌≡◌, ◌∙◌, sym, ap, subst, refl, ℕ, zero, suc, ◌<◌, ◌+◌, ◌⊎◌, inl, inr, Bool, true, false, ◌&&◌, ◌||◌, nat_eq, List, [], ◌∷◌, ◌++◌, map, length, get_or, take, Option, Some, slice_get, arith, rules}
use Rattle.std.proofs.lemmas.Bool.Decides.{nat_tests}
use Rattle.std.proofs.lemmas.List.{take_more}
use Rattle.std.proofs.lemmas.List.Sorted.{Contains-permutation, IsPermutation-append_comm, IsPermutation-cons, IsPermutation-trans, IsPermutation-sym}
use Rattle.std.proofs.lemmas.Map.Views.{Contains-from_any}
use Rattle.std.specs.Prelude.{Contains, IsSomeAnd}
use Rattle.std.specs.List.{list_any}
use Rattle.std.specs.List.Sorted.{IsPermutation}
use denote.Enum.Bare.{same_true}
use Rattle.c_types.specs.contracts.parts.IntKind.{the_type}
use Rattle.c_types.specs.contracts.parts.TyPartialEq.TheImpl.{eq-value}
use Rattle.c_types.specs.declared.parts.IntKind.TheVariants.{Char, UChar, Short, UShort, Int as Int_kind, UInt, LongLong, ULongLong}
use Rattle.c_types.specs.declared.parts.Ty.{Ty}
use Rattle.c_types.specs.declared.parts.Ty.TheVariants.{Int, Pointer, VoidPointer, Function, Struct, Union, Array}
use Rattle.c_types.specs.declared.parts.Parts.{Parts}
use Rattle.c_types.specs.Refusal.{Entry, type_entry, entries, Clashes, HasNameTwice, ClashesBefore, IsDuplicate}
use Rattle.c_types.specs.Entries.{IsRepeated}
use Rattle.c_types.proofs.Lists.{and_left, and_right}
use Rattle.c_types.proofs.ShapeLaws.{get-before, get-map, some_within}

same_number : (a b : ℕ) → nat_eq a b ≡ true → a ≡ b
same_number a b h = grind (arith, nat_tests)

-- the derived test of types is equality
pub same_type : (a b : Ty) → eq-value.it a b ≡ true → a ≡ b
same_type (Int k) (Int j) h = ap Int (same_true the_type (search rules) k j h)
same_type (Pointer t) (Pointer u) h = ap Pointer (same_number t u h)
same_type VoidPointer VoidPointer h = refl
same_type (Function f) (Function g) h = ap Function (same_number f g h)
same_type (Struct s) (Struct r) h = ap Struct (same_number s r h)
same_type (Union s) (Union r) h = ap Union (same_number s r h)
same_type (Array t n) (Array u m) h =
    ap (λ t. Array t n) (same_number t u (and_left (nat_eq t u) (nat_eq n m) h)) ∙ ap (Array u) (same_number n m (and_right (nat_eq t u) (nat_eq n m) h))
same_type a b h = cc

number_itself : (a : ℕ) → nat_eq a a ≡ true
number_itself a = grind (arith, nat_tests)

type_itself : (a : Ty) → eq-value.it a a ≡ true
type_itself (Int Char) = refl
type_itself (Int UChar) = refl
type_itself (Int Short) = refl
type_itself (Int UShort) = refl
type_itself (Int Int_kind) = refl
type_itself (Int UInt) = refl
type_itself (Int LongLong) = refl
type_itself (Int ULongLong) = refl
type_itself (Pointer t) = number_itself t
type_itself VoidPointer = refl
type_itself (Function f) = number_itself f
type_itself (Struct s) = number_itself s
type_itself (Union s) = number_itself s
type_itself (Array t n) = ap (λ b. b && nat_eq n n) (number_itself t) ∙ number_itself n

-- a type is found by the test among those that have it
any_of : (xs : List Ty) (x : Ty) → Contains xs x → list_any (eq-value.it x) xs ≡ true
any_of [] x c = absurd (omega (arith, c.1))
any_of (y ∷ xs) x (zero, w, e) = ap (λ b. b || list_any (eq-value.it x) xs) (ap (eq-value.it x) e ∙ type_itself x)
any_of (y ∷ xs) x (suc k, w, e) = or_right (eq-value.it x y) (list_any (eq-value.it x) xs) (any_of xs x (k, omega (arith, w), e))
  where
    or_right : (a b : Bool) → b ≡ true → a || b ≡ true
    or_right true b h = refl
    or_right false b h = h

-- an entry before a place is among those that are taken
taken : (xs : List Ty) (n m : ℕ) (x : Ty) → m < n → slice_get xs m ≡ Some x → Contains (take n xs) x
taken [] n m x h e = cc
taken (y ∷ xs) zero m x h e = absurd (omega arith)
taken (y ∷ xs) (suc n) zero x h e = (0, omega arith, (let q : y ≡ x = cc in q))
taken (y ∷ xs) (suc n) (suc m) x h e = let c = taken xs n m x (omega arith) e in (suc c.0, omega (arith, c.1), c.2)

from_taken : (xs : List Ty) (n : ℕ) (x : Ty) → Contains (take n xs) x → (m : ℕ) × (m < n) × (slice_get xs m ≡ Some x)
from_taken [] zero x c = absurd (omega (arith, c.1))
from_taken [] (suc n) x c = absurd (omega (arith, c.1))
from_taken (y ∷ xs) zero x c = absurd (omega (arith, c.1))
from_taken (y ∷ xs) (suc n) x (zero, w, e) = (0, omega arith, ap Some e)
from_taken (y ∷ xs) (suc n) x (suc k, w, e) = let r = from_taken xs n x (k, omega (arith, w), e) in (suc r.0, omega (arith, r.1), r.2)

read : (xs : List Ty) (n : ℕ) (d : Ty) → n < length xs → slice_get xs n ≡ Some (get_or xs n d)
read [] n d h = absurd (omega arith)
read (x ∷ xs) zero d h = refl
read (x ∷ xs) (suc n) d h = read xs n d (omega arith)

module _ (types keys : List Ty) (n : ℕ) (d : Ty) (within : n < length types) (kept : IsPermutation (take n types) keys) where
  -- a type that the set has stands before
  pub repeated-found : list_any (eq-value.it (get_or types n d)) keys ≡ true → IsRepeated types n
  repeated-found h =
      let c = Contains-from_any same_type (get_or types n d) keys h in
      let r = from_taken types n (get_or types n d) (Contains-permutation keys (take n types) (get_or types n d) (IsPermutation-sym (take n types) keys kept) c) in
      let P : Option Ty → Type 0 = λ o. IsSomeAnd o (λ t. (m : ℕ) × (m < n) × (slice_get types m ≡ Some t)) in
      let here : IsSomeAnd (Some (get_or types n d)) (λ t. (m : ℕ) × (m < n) × (slice_get types m ≡ Some t)) = (r.0, r.1, r.2) in
      subst P (sym (read types n d within)) here

  -- and no other
  pub repeated-none : list_any (eq-value.it (get_or types n d)) keys ≡ false → IsRepeated types n → ⊥
  repeated-none h r =
      let P : Option Ty → Type 0 = λ o. IsSomeAnd o (λ t. (m : ℕ) × (m < n) × (slice_get types m ≡ Some t)) in
      let here : IsSomeAnd (Some (get_or types n d)) (λ t. (m : ℕ) × (m < n) × (slice_get types m ≡ Some t)) = subst P (read types n d within) r in
      let c = Contains-permutation (take n types) keys (get_or types n d) kept (taken types n here.0 (get_or types n d) here.1 here.2) in
      let e : true ≡ false = sym (any_of keys (get_or types n d) c) ∙ h in cc

  pub keys-more : (new : List Ty) → IsPermutation (get_or types n d ∷ keys) new → IsPermutation (take (n + 1) types) new
  keys-more new h =
      let t = get_or types n d in
      let P : List Ty → Type 0 = λ l. IsPermutation l new in
      subst P (sym (take_more types n d within)) (IsPermutation-trans (take n types ++ t ∷ []) (t ∷ keys) new (IsPermutation-trans (take n types ++ t ∷ []) (t ∷ take n types) (t ∷ keys) (IsPermutation-append_comm (take n types) (t ∷ [])) (IsPermutation-cons t (take n types) keys kept)) h)

module _ (p : Parts) where
  type-at : (n : ℕ) (t : Ty) → slice_get p.types n ≡ Some t → slice_get (entries p) n ≡ Some (type_entry t)
  type-at n t e = get-before (map type_entry p.types) _ n (type_entry t) (get-map type_entry p.types n t e)

  type-known : (n : ℕ) → n < length p.types → (t : Ty) × (slice_get p.types n ≡ Some t)
  type-known n h = some_within p.types n h

  -- where an entry is a type, a clash is an equal type
  clash-type : (m : ℕ) (t : Ty) → m < length p.types → IsSomeAnd (slice_get (entries p) m) (λ d. Clashes d (type_entry t)) → slice_get p.types m ≡ Some t
  clash-type m t h clash =
      let u = type-known m h in
      let P : Option Entry → Type 0 = λ o. IsSomeAnd o (λ d. Clashes d (type_entry t)) in
      let same : IsSomeAnd (Some (type_entry u.0)) (λ d. Clashes d (type_entry t)) = subst P (type-at m u.0 u.1) clash in
      u.1 ∙ ap Some same

  pub duplicate-repeated : (n : ℕ) → n < length p.types → IsDuplicate p n → IsRepeated p.types n
  duplicate-repeated n h d =
      let t = type-known n h in
      let P : Option Entry → Type 0 = λ o. IsSomeAnd o (λ e. ClashesBefore (entries p) n e ⊎ HasNameTwice e) in
      let here : IsSomeAnd (Some (type_entry t.0)) (λ e. ClashesBefore (entries p) n e ⊎ HasNameTwice e) = subst P (type-at n t.0 t.1) d in
      by_case t.0 t.1 here
    where
      by_case : (t : Ty) → slice_get p.types n ≡ Some t → ClashesBefore (entries p) n (type_entry t) ⊎ HasNameTwice (type_entry t) → IsRepeated p.types n
      by_case t e (inl (m, lt, clash)) =
          let Q : Option Ty → Type 0 = λ o. IsSomeAnd o (λ t. (m : ℕ) × (m < n) × (slice_get p.types m ≡ Some t)) in
          let before : IsSomeAnd (Some t) (λ t. (m : ℕ) × (m < n) × (slice_get p.types m ≡ Some t)) = (m, lt, clash-type m t (omega arith) clash) in
          subst Q (sym e) before
      by_case t e (inr x) = absurd x

  pub repeated-duplicate : (n : ℕ) → n < length p.types → IsRepeated p.types n → IsDuplicate p n
  repeated-duplicate n h r =
      let t = type-known n h in
      let Q : Option Ty → Type 0 = λ o. IsSomeAnd o (λ t. (m : ℕ) × (m < n) × (slice_get p.types m ≡ Some t)) in
      let before : IsSomeAnd (Some t.0) (λ t. (m : ℕ) × (m < n) × (slice_get p.types m ≡ Some t)) = subst Q t.1 r in
      let P : Option Entry → Type 0 = λ o. IsSomeAnd o (λ e. ClashesBefore (entries p) n e ⊎ HasNameTwice e) in
      let R : Option Entry → Type 0 = λ o. IsSomeAnd o (λ d. Clashes d (type_entry t.0)) in
      let clash : IsSomeAnd (Some (type_entry t.0)) (λ d. Clashes d (type_entry t.0)) = refl in
      let here : IsSomeAnd (Some (type_entry t.0)) (λ e. ClashesBefore (entries p) n e ⊎ HasNameTwice e) = inl (before.0, before.1, subst R (sym (type-at before.0 t.0 before.2)) clash) in
      subst P (sym (type-at n t.0 t.1)) here

  -- a type clashes with no entry of another kind
  pub type-apart : (k : ℕ) (e : Entry) → k < length p.types → ((t : Ty) → Clashes (type_entry t) e → ⊥) → IsSomeAnd (slice_get (entries p) k) (λ d. Clashes d e) → ⊥
  type-apart k e h none clash =
      let u = type-known k h in
      let P : Option Entry → Type 0 = λ o. IsSomeAnd o (λ d. Clashes d e) in
      none u.0 (subst P (type-at k u.0 u.1) clash)
