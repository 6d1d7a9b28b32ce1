-- Marks after rounds over a table, and what they decide.
use Rattle.std.proofs.Common.{◌≡◌, ◌∙◌, sym, ap, ℕ, zero, suc, ◌<◌, Bool, true, false, ◌||◌, nat_eq, List, [], ◌∷◌, map, replicate, length, Option, Some, None, slice_get, arith, refl}
use Rattle.std.specs.Prelude.{Contains, MatchBool}
use Rattle.std.specs.List.{list_any}
use Rattle.std.specs.Option.{option_map_or}
use Rattle.c_types.specs.declared.parts.Ty.{Ty}
use Rattle.c_types.specs.declared.parts.Ty.TheVariants.{Int, Pointer, VoidPointer, Function, Struct, Union, Array}
use Rattle.c_types.specs.declared.parts.FieldDef.{FieldDef}
use Rattle.c_types.specs.declared.parts.Parts.{Parts}
use Rattle.c_types.specs.Tables.{fields_of, members_of}
use Rattle.c_types.specs.Numbering.{is_well_numbered}
use Rattle.c_types.specs.Chain.{Edges, Chain, field_types, held_in, held_by, pointed_in, pointed_by}
use Rattle.c_types.specs.Rounds.{reaches, is_target, mark_at, is_marked, round_mark, mark_rounds}
use Rattle.c_types.proofs.Numbered.{field_known, member_known, element_known, pointee_known}
use Rattle.c_types.proofs.ChainLemmas.{chain_of-reaches, reaches-chain, reaches-long}

pub list_any-same : (f g : ℕ → Bool) (xs : List ℕ) → ((x : ℕ) → Contains xs x → f x ≡ g x) → list_any f xs ≡ list_any g xs
list_any-same f g [] same = refl
list_any-same f g (x ∷ xs) same =
    let rest = list_any-same f g xs (λ y c. same y (suc c.0, omega (arith, c.1), c.2)) in
    ap (λ b. b || list_any f xs) (same x (0, omega arith, refl)) ∙ ap (λ b. g x || b) rest

-- a field of a type that is held
pub field-of : (fields : List FieldDef) (u : ℕ) → Contains (field_types fields) u → (j : ℕ) × (f : FieldDef) × (slice_get fields j ≡ Some f) × (f.ty ≡ u)
field-of [] u c = absurd (omega (arith, c.1))
field-of (f ∷ fields) u (zero, w, c) = (0, f, refl, c)
field-of (f ∷ fields) u (suc k, w, c) = let rest = field-of fields u (k, omega (arith, w), c) in (suc rest.0, rest.1, rest.2, rest.3)

module _ (p : Parts) (numbered : is_well_numbered p ≡ true) where
  held_in_table : (t u : ℕ) (o : Option Ty) → slice_get p.types t ≡ o → Contains (held_in p o) u → u < length p.types
  held_in_table t u None e c = absurd (omega (arith, c.1))
  held_in_table t u (Some (Int k)) e c = absurd (omega (arith, c.1))
  held_in_table t u (Some (Pointer v)) e c = absurd (omega (arith, c.1))
  held_in_table t u (Some VoidPointer) e c = absurd (omega (arith, c.1))
  held_in_table t u (Some (Function g)) e c = absurd (omega (arith, c.1))
  held_in_table t u (Some (Struct s)) e c =
      let f = field-of (fields_of p s) u c in
      let k = field_known p numbered s f.0 f.1 f.2 in omega (arith, k, f.3)
  held_in_table t u (Some (Union s)) e c =
      let f = field-of (members_of p s) u c in
      let k = member_known p numbered s f.0 f.1 f.2 in omega (arith, k, f.3)
  held_in_table t u (Some (Array v n)) e (zero, w, c) = let k = element_known p numbered t v n e in omega (arith, k, c)
  held_in_table t u (Some (Array v n)) e (suc k, w, c) = absurd (omega (arith, w))

  pub held_known : (t u : ℕ) → Contains (held_by p t) u → u < length p.types
  held_known t u c = held_in_table t u (slice_get p.types t) refl c

  pointed_in_table : (t u : ℕ) (o : Option Ty) → slice_get p.types t ≡ o → Contains (pointed_in o) u → u < length p.types
  pointed_in_table t u None e c = absurd (omega (arith, c.1))
  pointed_in_table t u (Some (Int k)) e c = absurd (omega (arith, c.1))
  pointed_in_table t u (Some (Pointer v)) e (zero, w, c) = let k = pointee_known p numbered t v e in omega (arith, k, c)
  pointed_in_table t u (Some (Pointer v)) e (suc k, w, c) = absurd (omega (arith, w))
  pointed_in_table t u (Some VoidPointer) e c = absurd (omega (arith, c.1))
  pointed_in_table t u (Some (Function g)) e c = absurd (omega (arith, c.1))
  pointed_in_table t u (Some (Struct s)) e c = absurd (omega (arith, c.1))
  pointed_in_table t u (Some (Union s)) e c = absurd (omega (arith, c.1))
  pointed_in_table t u (Some (Array v n)) e (zero, w, c) = let k = element_known p numbered t v n e in omega (arith, k, c)
  pointed_in_table t u (Some (Array v n)) e (suc k, w, c) = absurd (omega (arith, w))

  pub pointed_known : (t u : ℕ) → Contains (pointed_by p t) u → u < length p.types
  pointed_known t u c = pointed_in_table t u (slice_get p.types t) refl c

  mark_at-replicate : (n u : ℕ) (b : Bool) → u < n → mark_at (replicate n b) u ≡ b
  mark_at-replicate zero u b h = absurd (omega arith)
  mark_at-replicate (suc n) zero b h = refl
  mark_at-replicate (suc n) (suc u) b h = mark_at-replicate n u b (omega arith)

  mark_at-map : (f : Ty → Bool) (types : List Ty) (u : ℕ) → mark_at (map f types) u ≡ option_map_or f (slice_get types u) false
  mark_at-map f [] u = refl
  mark_at-map f (ty ∷ types) zero = refl
  mark_at-map f (ty ∷ types) (suc u) = mark_at-map f types u

  -- a mark after k rounds
  pub marks-reach : (target : Option ℕ) (start : Bool) (k u : ℕ) → u < length p.types → mark_at (mark_rounds p target start k) u ≡ reaches (held_by p) (is_target target) start k u
  marks-reach target start zero u h = mark_at-replicate (length p.types) u start h
  marks-reach target start (suc k) u h =
      mark_at-map (round_mark p target (mark_rounds p target start k)) p.types u ∙ at_type (slice_get p.types u) refl (λ v w. marks-reach target start k v w)
    where
      at_type : (o : Option Ty) → slice_get p.types u ≡ o → ((v : ℕ) → v < length p.types → mark_at (mark_rounds p target start k) v ≡ reaches (held_by p) (is_target target) start k v) → option_map_or (round_mark p target (mark_rounds p target start k)) o false ≡ list_any (λ v. is_target target v || reaches (held_by p) (is_target target) start k v) (held_in p o)
      at_type None e below = refl
      at_type (Some ty) e below =
          list_any-same (is_marked target (mark_rounds p target start k)) (λ v. is_target target v || reaches (held_by p) (is_target target) start k v) (held_in p (Some ty)) (λ v c. ap (λ b. is_target target v || b) (below v (held_in_table u v (Some ty) e c)))

  pub holds_decided : (t : ℕ) → t < length p.types → (b : Bool) → b ≡ mark_at (mark_rounds p (Some t) false (length p.types)) t → MatchBool b (Chain (held_by p) t t) (Chain (held_by p) t t → ⊥)
  holds_decided t h true e = chain_of-reaches (held_by p) t (length p.types) t (sym (marks-reach (Some t) false (length p.types) t h) ∙ sym e)
  holds_decided t h false e = λ c.
      let r = reaches-chain (held_by p) t (length p.types) t held_known h c in
      let x : true ≡ false = sym r ∙ (sym (marks-reach (Some t) false (length p.types) t h) ∙ sym e) in cc

  pub points_decided : (t : ℕ) → t < length p.types → (b : Bool) → b ≡ reaches (pointed_by p) (λ v. nat_eq v t) false (length p.types) t → MatchBool b (Chain (pointed_by p) t t) (Chain (pointed_by p) t t → ⊥)
  points_decided t h true e = chain_of-reaches (pointed_by p) t (length p.types) t (sym e)
  points_decided t h false e = λ c.
      let r = reaches-chain (pointed_by p) t (length p.types) t pointed_known h c in
      let x : true ≡ false = sym r ∙ sym e in cc

  -- a type that no long chain leaves holds none that holds itself
  pub unmarked-none : (t : ℕ) → t < length p.types → mark_at (mark_rounds p None true (length p.types)) t ≡ false → Chain (held_by p) t t → ⊥
  unmarked-none t h e c =
      let r = reaches-long (held_by p) (length p.types) c c in
      let x : true ≡ false = sym r ∙ (sym (marks-reach None true (length p.types) t h) ∙ e) in cc

pub reaches-one : (edges : Edges) (t m u v : ℕ) → edges u ≡ v ∷ [] → nat_eq v t ≡ false → reaches edges (λ v. nat_eq v t) false (suc m) u ≡ reaches edges (λ v. nat_eq v t) false m v
reaches-one edges t m u v e f = ap (list_any (λ x. nat_eq x t || reaches edges (λ v. nat_eq v t) false m x)) e ∙ (ap (λ b. (b || reaches edges (λ v. nat_eq v t) false m v) || false) f ∙ or_none (reaches edges (λ v. nat_eq v t) false m v))
  where
    or_none : (b : Bool) → b || false ≡ b
    or_none true = refl
    or_none false = refl
