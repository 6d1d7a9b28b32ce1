-- Two pointers of a store: whether they go to one object, as the source and the machine find it.
use Rattle.std.proofs.Common.{length, ◌≡◌, ◌∙◌, refl, sym, ap, subst, Bool, true, false, cond, ℕ, zero, suc, ◌+◌, ◌<◌, List, [], ◌∷◌, Some, Result, Ok, Err, arith, nat_eq, nat_lt, nat_le, ◌&&◌}
use Rattle.std.specs.Prelude.{slice_get, ℤ, pos, find}
use Rattle.std.specs.Option.{option_map, option_map_or}
use Rattle.std.proofs.lemmas.Bool.Decides.{nat_tests}
use Rattle.lu_base.specs.declared.trap.Trap.{Trap}
use Rattle.lu_base.specs.declared.trap.Trap.TheVariants.{PtrOrder}
use Rattle.c_types.specs.Refusal.{IsBuilt}
use Rattle.c_types.specs.declared.parts.Parts.{Parts}
use Rattle.src_tree.specs.declared.value.Value.{Value}
use Rattle.src_tree.specs.declared.value.Object.{Object}
use Rattle.src_tree.specs.declared.value.Store.{Store}
use Rattle.src_tree.specs.declared.program.Program.{Program}
use Rattle.lu_base.specs.declared.limits.TheConstants.{FIRST_ADDRESS}
use Rattle.cg_state.specs.Represents.{address_past}
use Rattle.src_meaning.specs.Objects.{Gives, object_size, addresses}
use Rattle.src_meaning.specs.Pointers.{with_offsets}
use Rattle.src_meaning.specs.Store.{is_address}
use Rattle.bm_objects.specs.declared.row.Row.{Row}
use Rattle.bm_objects.specs.Table.{reaches}
use Rattle.bm_code.specs.Frames.{some_or, bad}
use Rattle.bm_code.specs.Pointers.{base_of, of_one_object}
use Rattle.cg_state.specs.Represents.{address_in, rows_of}
use Rattle.cg_state.proofs.Typed.{APointer, null, to, object_of, object_address}
use Rattle.cg_sim_expr.proofs.Matching.{word}
use Rattle.cg_state.proofs.Memory.{stands, after_above, find_row, address_is}

-- an object ends before a later one begins
stands_apart : (sites : ℕ) (p : Parts) (first : ℕ) (os : List Object) (o q : ℕ) (x y : Object) (e : slice_get os o ≡ Some x) (g : slice_get os q ≡ Some y) → o < q → (stands sites p first os o x e).address + object_size p x < (stands sites p first os q y g).address
unfolding stands
stands_apart sites p first [] o q x y e g lt = absurd (cc)
stands_apart sites p first (z ∷ os) zero zero x y e g lt = absurd (omega (arith, lt))
stands_apart sites p first (z ∷ os) zero (suc q) x y e g lt =
    let same : z ≡ x = cc in
    let size = ap (object_size p) same in
    let rest = stands sites p (address_past p first z) os q y g in
    omega (arith, after_above p first z, rest.above, size)
stands_apart sites p first (z ∷ os) (suc o) zero x y e g lt = absurd (omega (arith, lt))
stands_apart sites p first (z ∷ os) (suc o) (suc q) x y e g lt = stands_apart sites p (address_past p first z) os o q x y e g (omega (arith, lt))

module _ (p : Program) (built : IsBuilt p.types) (s : Store) where
  abbrev base : ℕ → ℕ
  base o = address_in (addresses p.types s) o

  pub objects_apart : (o k q j : ℕ) → is_address p s o k ≡ true → is_address p s q j ≡ true → o < q → base o + k < base q
  objects_apart o k q j h g lt =
      let x = object_of p built s o k h in
      let y = object_of p built s q j g in
      let apart = stands_apart (length p.sites) p.types FIRST_ADDRESS s.objects o q x.object y.object x.is y.is lt in
      let a = address_is (length p.sites) p.types s o x.object x.is in
      let b = address_is (length p.sites) p.types s q y.object y.is in
      let within = x.within in
      omega (arith, apart, a, b, within)

  -- two objects begin at one address only where they are one
  same_base : (o k q j : ℕ) → is_address p s o k ≡ true → is_address p s q j ≡ true → nat_eq (base o) (base q) ≡ nat_eq o q
  same_base o k q j h g = by (nat_eq o q) refl
    where
      by : (b : Bool) → nat_eq o q ≡ b → nat_eq (base o) (base q) ≡ b
      by true e =
          let one : o ≡ q = grind (arith, nat_tests, e) in
          let equal : base o ≡ base q = ap base one in
          grind (arith, nat_tests, equal)
      by false e = at (nat_lt o q) refl
        where
          at : (b : Bool) → nat_lt o q ≡ b → nat_eq (base o) (base q) ≡ false
          at true l = let less : o < q = grind (arith, nat_tests, l) in let far = objects_apart o k q j h g less in grind (arith, nat_tests, far)
          at false l = let more : q < o = grind (arith, nat_tests, l, e) in let far = objects_apart q j o k g h more in grind (arith, nat_tests, far)

  pub same_pointer : (o k q j : ℕ) → is_address p s o k ≡ true → is_address p s q j ≡ true → nat_eq (base o + k) (base q + j) ≡ (nat_eq o q && nat_eq k j)
  same_pointer o k q j h g = by (nat_eq o q) refl
    where
      by : (b : Bool) → nat_eq o q ≡ b → nat_eq (base o + k) (base q + j) ≡ (b && nat_eq k j)
      by true e =
          let one : o ≡ q = grind (arith, nat_tests, e) in
          let equal : base o ≡ base q = ap base one in
          shifted (base o) (base q) k j equal
        where
          shifted : (a b k j : ℕ) → a ≡ b → nat_eq (a + k) (b + j) ≡ nat_eq k j
          shifted a b k j e = at (nat_eq k j) refl
            where
              at : (c : Bool) → nat_eq k j ≡ c → nat_eq (a + k) (b + j) ≡ c
              at true q = grind (arith, nat_tests, q, e)
              at false q = grind (arith, nat_tests, q, e)
      by false e = at (nat_lt o q) refl
        where
          at : (b : Bool) → nat_lt o q ≡ b → nat_eq (base o + k) (base q + j) ≡ false
          at true l = let less : o < q = grind (arith, nat_tests, l) in let far = objects_apart o k q j h g less in grind (arith, nat_tests, far)
          at false l = let more : q < o = grind (arith, nat_tests, l, e) in let far = objects_apart q j o k g h more in grind (arith, nat_tests, far)

  above_none : (rows : List Row) (n : ℕ) → 0 < n → base_of rows n ≡ option_map (λ (r : Row). r.addr) (find (reaches n) rows)
  above_none rows zero lt = absurd (omega (arith, lt))
  above_none rows (suc n) lt = refl

  base_is : (o k : ℕ) → is_address p s o k ≡ true → base_of (rows_of p s) (base o + k) ≡ Some (base o)
  base_is o k h =
      let x = object_of p built s o k h in
      let a = address_is (length p.sites) p.types s o x.object x.is in
      let low = object_address p built s o k h in
      above_none (rows_of p s) (base o + k) (omega (arith, low))
      ∙ (ap (λ n. option_map (λ (r : Row). r.addr) (find (reaches (n + k)) (rows_of p s))) a
      ∙ (ap (option_map (λ (r : Row). r.addr)) (find_row (length p.sites) p.types FIRST_ADDRESS s.objects o k x.object x.is x.within) ∙ ap Some (sym a)))

  unequal : (a b : ℕ) → (a ≡ b → ⊥) → nat_eq a b ≡ false
  unequal a b h = grind (arith, nat_tests, h)

  -- the start of an object is an address too
  least : (o k : ℕ) → is_address p s o k ≡ true → is_address p s o 0 ≡ true
  least o k h =
      let x = object_of p built s o k h in
      ap (λ q. option_map_or (λ (x : Object). nat_le 0 (object_size p.types x)) q false) x.is ∙ low (object_size p.types x.object)
    where
      low : (n : ℕ) → nat_le 0 n ≡ true
      low n = grind (arith, nat_tests)

  module _ {A : Type 0} (f : ℤ → ℤ → Gives A) (g : ℕ → ℕ → ℕ) (Fits : Gives A → Result ℕ Trap → Type 0) where
    -- what two pointers into one object give, or two nulls; else both sides trap
    pub offsets_fit : (v w : Value) → APointer p built s v → APointer p built s w → Fits (Err PtrOrder) (Err PtrOrder) → Fits (f (pos 0) (pos 0)) (Ok (g 0 0)) → ((o k j : ℕ) → is_address p s o k ≡ true → is_address p s o j ≡ true → Fits (f (pos k) (pos j)) (Ok (g (base o + k) (base o + j)))) → Fits (with_offsets f v w) (of_one_object (rows_of p s) (word p built s v) (word p built s w) (g (word p built s v) (word p built s w)))
    offsets_fit _ _ null null apart nulls one = nulls
    offsets_fit _ _ null (to q j h) apart nulls one =
        let low = object_address p built s q j h in
        let first = object_address p built s q 0 (least q j h) in
        let other : nat_eq 0 (base q) ≡ false = unequal 0 (base q) (λ e. omega (arith, first, e)) in
        let is = ap (λ o. some_or o bad (λ b. cond (nat_eq 0 b) (Ok (g 0 (base q + j))) (Err PtrOrder))) (base_is q j h) ∙ ap (λ b. cond b (Ok (g 0 (base q + j))) (Err PtrOrder)) other in
        subst (Fits (Err PtrOrder)) (sym is) apart
    offsets_fit _ _ (to o k h) null apart nulls one =
        let first = object_address p built s o 0 (least o k h) in
        let other : nat_eq (base o) 0 ≡ false = unequal (base o) 0 (λ e. omega (arith, first, e)) in
        let is = ap (λ q. some_or q bad (λ a. cond (nat_eq a 0) (Ok (g (base o + k) 0)) (Err PtrOrder))) (base_is o k h) ∙ ap (λ b. cond b (Ok (g (base o + k) 0)) (Err PtrOrder)) other in
        subst (Fits (Err PtrOrder)) (sym is) apart
    offsets_fit _ _ (to o k h) (to q j i) apart nulls one =
        let c : Result ℕ Trap = Ok (g (base o + k) (base q + j)) in
        let is = ap (λ r. some_or r bad (λ a. some_or (base_of (rows_of p s) (base q + j)) bad (λ b. cond (nat_eq a b) c (Err PtrOrder)))) (base_is o k h) ∙ (ap (λ r. some_or r bad (λ b. cond (nat_eq (base o) b) c (Err PtrOrder))) (base_is q j i) ∙ ap (λ b. cond b c (Err PtrOrder)) (same_base o k q j h i)) in
        subst (Fits (cond (nat_eq o q) (f (pos k) (pos j)) (Err PtrOrder))) (sym is) (by (nat_eq o q) refl)
      where
        by : (b : Bool) → nat_eq o q ≡ b → Fits (cond b (f (pos k) (pos j)) (Err PtrOrder)) (cond b (Ok (g (base o + k) (base q + j))) (Err PtrOrder))
        by true e =
            let same : o ≡ q = grind (arith, nat_tests, e) in
            subst (λ r. Fits (f (pos k) (pos j)) (Ok (g (base o + k) (base r + j)))) same (one o k j h (subst (λ r. is_address p s r j ≡ true) (sym same) i))
        by false e = apart
