-- When a table is refused: the first cause that applies, each with the least number.
use Rattle.std.specs.Prelude.{◌≡◌, ◌⊎◌, ℕ, ◌<◌, Bool, true, false, ◌&&◌, ◌||◌, not, nat_lt, nat_le, IsTrue, List, [], ◌++◌, map, Option, Some, IsSomeAnd, slice_get}
use Rattle.c_types.specs.declared.parts.Ty.{Ty}
use Rattle.c_types.specs.declared.parts.Ty.TheVariants.{Array}
use Rattle.c_types.specs.declared.parts.TagDef.{TagDef}
use Rattle.c_types.specs.declared.parts.FieldDef.{FieldDef}
use Rattle.c_types.specs.declared.parts.Signature.{Signature}
use Rattle.c_types.specs.declared.parts.Parts.{Parts}
use Rattle.c_types.specs.declared.errors.BuildError.{BuildError}
use Rattle.c_types.specs.declared.errors.BuildError.TheVariants.{Duplicate, Empty, Cycle, TooBig, Memory}
use Rattle.c_types.specs.Numbering.{is_well_numbered}
use Rattle.c_types.specs.Chain.{IsCyclic}
use Rattle.c_types.specs.Layout.{greatest, size_of}
use Rattle.c_types.specs.Words.{NoneIs, IsLeast}

pub data Entry : Type 0 where
  type_entry : Ty → Entry
  tag_entry : TagDef → Entry
  signature_entry : Signature → Entry

-- types, structs, unions and signatures, counted from 0 as one list
abbrev pub entries : Parts → List Entry
entries p =
    map type_entry p.types ++ (map tag_entry p.structs ++ (map tag_entry p.unions ++ map signature_entry p.signatures))

-- two entries may not stand together: equal types or signatures, structs or unions of one tag
abbrev pub Clashes : Entry → Entry → Type 0
Clashes (type_entry a) (type_entry b) = a ≡ b
Clashes (tag_entry a) (tag_entry b) = a.tag ≡ b.tag
Clashes (signature_entry a) (signature_entry b) = a ≡ b
Clashes _ _ = ⊥

abbrev pub HaveOneName : List FieldDef → ℕ → ℕ → Type 0
HaveOneName fields j k = IsSomeAnd (slice_get fields j) (λ a. IsSomeAnd (slice_get fields k) (λ b. a.name ≡ b.name))

-- field k has the name of an earlier one
abbrev pub HasNameBefore : List FieldDef → ℕ → Type 0
HasNameBefore fields k = (j : ℕ) × (j < k) × HaveOneName fields j k

-- two fields have one name
abbrev pub NamesTwice : List FieldDef → Type 0
NamesTwice fields = (k : ℕ) × HasNameBefore fields k

abbrev pub HasNameTwice : Entry → Type 0
HasNameTwice (tag_entry tag) = NamesTwice tag.fields
HasNameTwice _ = ⊥

abbrev pub ClashesBefore : List Entry → ℕ → Entry → Type 0
ClashesBefore all n e = (m : ℕ) × (m < n) × IsSomeAnd (slice_get all m) (λ d. Clashes d e)

abbrev pub IsDuplicate : Parts → ℕ → Type 0
IsDuplicate p n = IsSomeAnd (slice_get (entries p) n) (λ e. ClashesBefore (entries p) n e ⊎ HasNameTwice e)

abbrev pub HasNoField : Entry → Type 0
HasNoField (tag_entry tag) = tag.fields ≡ []
HasNoField _ = ⊥

abbrev pub IsEmpty : Parts → ℕ → Type 0
IsEmpty p n = IsSomeAnd (slice_get (entries p) n) HasNoField

abbrev pub has_bad_length : Option Ty → Bool
has_bad_length (Some (Array t n)) = not (nat_lt 0 n && nat_le n greatest)
has_bad_length _ = false

-- a size above the greatest, or a length that is none or above the greatest
abbrev pub is_too_big : Parts → ℕ → Bool
is_too_big p t = nat_lt greatest (size_of p t) || has_bad_length (slice_get p.types t)

abbrev pub IsTooBig : Parts → ℕ → Type 0
IsTooBig p t = IsTrue (is_too_big p t)

-- what every table of types has
pub record IsBuilt (p : Parts) : Type 0 where
  pub numbered : is_well_numbered p ≡ true
  pub distinct : NoneIs (IsDuplicate p)
  pub full : NoneIs (IsEmpty p)
  pub acyclic : NoneIs (IsCyclic p)
  pub small : NoneIs (IsTooBig p)

-- a table is refused so: no earlier cause applies, and the number is the least
abbrev pub Refuses : Parts → BuildError → Type 0
Refuses p (Duplicate n) = IsLeast (IsDuplicate p) n
Refuses p (Empty n) = NoneIs (IsDuplicate p) × IsLeast (IsEmpty p) n
Refuses p (Cycle t) = NoneIs (IsDuplicate p) × NoneIs (IsEmpty p) × IsLeast (IsCyclic p) t
Refuses p (TooBig t) = NoneIs (IsDuplicate p) × NoneIs (IsEmpty p) × NoneIs (IsCyclic p) × IsLeast (IsTooBig p) t
Refuses p Memory = Unit {0}
