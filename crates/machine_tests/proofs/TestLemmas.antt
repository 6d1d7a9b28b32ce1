-- What the tests' code has.
use Rattle.std.proofs.Common.{◌≡◌, ◌∙◌, ap, sym, subst, ℕ, zero, suc, ◌<◌, List, [], ◌∷◌, ◌++◌, length, Some, arith}
use Rattle.std.specs.Prelude.{slice_get}
use Rattle.c_types.specs.Layout.{size_of}
use Rattle.bm_code.specs.declared.code.MachineCode.{MachineCode}
use Rattle.bm_code.specs.declared.code.MachineGlobal.{MachineGlobal}
use Rattle.bm_code.specs.Accepted.{IsAcceptedGlobal}

some_in : {A : Type 0} (a b : A) → Some a ≡ Some b → a ≡ b
some_in a b h = cc

-- of lists of no, one and two items
pub none_in : {A : Type 0} (xs : List A) (k : ℕ) (x : A) → xs ≡ [] → slice_get xs k ≡ Some x → ⊥
none_in [] k x e at = cc
none_in (y ∷ xs) k x e at = cc

one : {A : Type 0} (P : A → Type 0) (a x : A) (k : ℕ) → P a → slice_get (a ∷ []) k ≡ Some x → P x
one P a x zero p at = subst P (some_in a x at) p
one P a x (suc k) p at = absurd (cc)

pub in_one : {A : Type 0} (P : A → Type 0) (a x : A) (xs : List A) (k : ℕ) → xs ≡ a ∷ [] → P a → slice_get xs k ≡ Some x → P x
in_one P a x xs k e p at = one P a x k p (ap (λ l. slice_get l k) (sym e) ∙ at)

two : {A : Type 0} (P : A → Type 0) (a b x : A) (k : ℕ) → P a → P b → slice_get (a ∷ b ∷ []) k ≡ Some x → P x
two P a b x zero p q at = subst P (some_in a x at) p
two P a b x (suc k) p q at = one P b x k q at

pub in_two : {A : Type 0} (P : A → Type 0) (a b x : A) (xs : List A) (k : ℕ) → xs ≡ a ∷ b ∷ [] → P a → P b → slice_get xs k ≡ Some x → P x
in_two P a b x xs k e p q at = two P a b x k p q (ap (λ l. slice_get l k) (sym e) ∙ at)

-- one item more
pub in_more : {A : Type 0} (P : A → Type 0) (xs : List A) (a : A) → ((k : ℕ) (x : A) → slice_get xs k ≡ Some x → P x) → P a → (k : ℕ) (x : A) → slice_get (xs ++ a ∷ []) k ≡ Some x → P x
in_more P [] a h p k x at = one P a x k p at
in_more P (y ∷ xs) a h p zero x at = h 0 x at
in_more P (y ∷ xs) a h p (suc k) x at = in_more P xs a (λ k x at. h (suc k) x at) p k x at

-- a global of eight ints
pub good_global : (code : MachineCode) (g : MachineGlobal) → 0 < length code.names → length code.types.types ≡ 2 → g.name ≡ 0 → g.ty ≡ 1 → size_of code.types 1 ≡ 32 → length g.bytes ≡ 32 → IsAcceptedGlobal code g
good_global code g named types name ty size long = record {
  name = omega (arith, name, named);
  known = omega (arith, types, ty);
  whole = long ∙ (sym size ∙ ap (size_of code.types) (sym ty));
}
