-- Addresses are below 2 ^ 32, and a place has an address.
use Rattle.std.proofs.Common.{map, ◌≡◌, ◌∙◌, refl, ap, true, false, inl, inr, ℕ, zero, suc, ◌+◌, ◌^◌, ◌<◌, ◌≤◌, List, [], ◌∷◌, length, Option, Some, None, Ok, arith, nat_le}
use Rattle.std.specs.Prelude.{slice_get}
use Rattle.std.specs.Option.{option_map, option_map_or}
use Rattle.std.proofs.lemmas.Bool.Decides.{nat_tests}
use Rattle.lu_spec.specs.Then.{then_option}
use Rattle.lu_base.specs.declared.trap.Trap.TheVariants.{BadCode}
use Rattle.c_types.specs.Refusal.{IsBuilt}
use Rattle.c_types.specs.declared.parts.Parts.{Parts}
use Rattle.c_types.specs.Place.{place}
use Rattle.c_types.proofs.ObjectLaws.{object-within}
use Rattle.src_tree.specs.declared.value.Value.{Value, Pointer}
use Rattle.src_tree.specs.declared.value.Object.{Object}
use Rattle.src_tree.specs.declared.value.Store.{Store}
use Rattle.src_tree.specs.declared.program.Function.{Function}
use Rattle.src_tree.specs.declared.program.Program.{Program}
use Rattle.lu_base.specs.declared.limits.TheConstants.{FIRST_ADDRESS}
use Rattle.cg_state.specs.Represents.{address_past}
use Rattle.lu_base.specs.Addresses.{next_from}
use Rattle.src_meaning.specs.Objects.{Place, or_trap, object_size, addresses, offset_in, address_at}
use Rattle.src_tree.specs.Signatures.{has_signature}
use Rattle.src_meaning.specs.Store.{IsStore, is_address}
use Rattle.cg_state.specs.Represents.{address_in}
use Rattle.cg_state.proofs.Typed.{APointer, null, to, AFunction, no_function, to_function, object_of}
use Rattle.cg_sim_expr.proofs.Matching.{word}
use Rattle.cg_state.proofs.Memory.{stands, after_above, address_is}
use Rattle.cg_state.proofs.Places.{IsPart, place_word, place_word_is, offset_is}
use Rattle.cg_sim_expr.proofs.Steps.{IsPlaced, IsWhole}

pub end_above : (p : Parts) (a : ℕ) (os : List Object) → a ≤ next_from a (map (object_size p) os)
end_above p a [] = omega arith
end_above p a (y ∷ os) = let up = after_above p a y in let rest = end_above p (address_past p a y) os in omega (arith, up, rest)

stands_below : (sites : ℕ) (p : Parts) (a : ℕ) (os : List Object) (o : ℕ) (x : Object) (e : slice_get os o ≡ Some x) → (stands sites p a os o x e).address + object_size p x ≤ next_from a (map (object_size p) os)
unfolding stands
stands_below sites p a [] o x e = absurd (cc)
stands_below sites p a (y ∷ os) zero x e =
    let same : y ≡ x = cc in
    let up = after_above p a y in
    let rest = end_above p (address_past p a y) os in
    let size = ap (object_size p) same in
    omega (arith, up, rest, size)
stands_below sites p a (y ∷ os) (suc o) x e = stands_below sites p (address_past p a y) os o x e

within_list : {A : Type 0} (xs : List A) (n : ℕ) (x : A) → slice_get xs n ≡ Some x → n < length xs
within_list [] n x e = absurd (cc)
within_list (y ∷ xs) zero x e = omega arith
within_list (y ∷ xs) (suc n) x e = omega (arith, within_list xs n x e)

module _ (p : Program) (built : IsBuilt p.types) (s : Store) (ok : IsStore p s) where
  pub address_below : (o k : ℕ) → is_address p s o k ≡ true → address_in (addresses p.types s) o + k < 2 ^ 32
  address_below o k h =
      let x = object_of p built s o k h in
      let same = address_is (length p.sites) p.types s o x.object x.is in
      let below = stands_below (length p.sites) p.types FIRST_ADDRESS s.objects o x.object x.is in
      let last = ok.last in
      let within = x.within in
      omega (arith, same, below, last, within)

  pub pointer_below : (v : Value) → APointer p built s v → word p built s v < 2 ^ 32
  pointer_below v null = omega arith
  pointer_below v (to o k h) = address_below o k h

  pub name_below : length p.functions < 2 ^ 31 → (g : ℕ) (v : Value) → AFunction p built s g v → word p built s v < 2 ^ 32
  name_below few g v no_function = omega arith
  name_below few g v (to_function f h) = by (slice_get p.functions f) refl h
    where
      by : (o : Option Function) → slice_get p.functions f ≡ o → option_map_or (λ d. option_map_or (has_signature d) (slice_get p.types.signatures g) false) o false ≡ true → f + 1 < 2 ^ 32
      by None e h = absurd (cc)
      by (Some d) e h = let n = within_list p.functions f d e in omega (arith, n, few)

  -- the pointer to a place
  pub record Addressed (q : Place) : Type 0 where
    pub offset : ℕ
    pub is : address_at p.types s q 0 ≡ Ok (Pointer q.object offset)
    pub address : is_address p s q.object offset ≡ true
    pub word_is : place_word p built s ok q ≡ address_in (addresses p.types s) q.object + offset

  pub part_addressed : (u : ℕ) (q : Place) → IsPart p built s ok u q → Addressed q
  part_addressed u q h =
      let n : h.offset + 0 ≡ h.offset = omega arith in
      let within = object-within p.types built h.object.elem h.object.count q.path (place u h.offset) h.leads in
      let below : h.offset ≤ object_size p.types h.object = omega (arith, within) in
      let test : nat_le h.offset (object_size p.types h.object) ≡ true = grind (arith, nat_tests, below) in
      let a = address_is (length p.sites) p.types s q.object h.object h.at in
      let w = place_word_is p built s ok u q h in
      record {
        offset = h.offset;
        is = ap (λ o. or_trap BadCode (then_option o (λ x. option_map (λ k. Pointer q.object (k + 0)) (offset_in p.types x q.path)))) h.at
            ∙ (ap (λ o. or_trap BadCode (option_map (λ k. Pointer q.object (k + 0)) o)) (offset_is p built s ok h.object q.path u h.offset h.leads) ∙ ap (λ n. Ok (Pointer q.object n)) n);
        address = ap (λ o. option_map_or (λ x. nat_le h.offset (object_size p.types x)) o false) h.at ∙ test;
        word_is = omega (arith, a, w);
      }

  pub whole_addressed : (u : ℕ) (q : Place) → IsWhole p built s ok u q → Addressed q
  whole_addressed u q h =
      let low : nat_le 0 (object_size p.types h.object) ≡ true = least (object_size p.types h.object) in
      let none : option_map_or (λ x. option_map_or (λ k. k) (offset_in p.types x q.path) 0) (slice_get s.objects q.object) 0 ≡ 0 = ap (λ o. option_map_or (λ x. option_map_or (λ k. k) (offset_in p.types x q.path) 0) o 0) h.at ∙ ap (λ l. option_map_or (λ k. k) (offset_in p.types h.object l) 0) h.no_step in
      record {
        offset = 0;
        is = ap (λ o. or_trap BadCode (then_option o (λ x. option_map (λ k. Pointer q.object (k + 0)) (offset_in p.types x q.path)))) h.at
            ∙ ap (λ l. or_trap BadCode (option_map (λ k. Pointer q.object (k + 0)) (offset_in p.types h.object l))) h.no_step;
        address = ap (λ o. option_map_or (λ x. nat_le 0 (object_size p.types x)) o false) h.at ∙ low;
        word_is = omega (arith, none);
      }
    where
      least : (n : ℕ) → nat_le 0 n ≡ true
      least n = grind (arith, nat_tests)

  pub place_addressed : (u : ℕ) (q : Place) → IsPlaced p built s ok u q → Addressed q
  place_addressed u q (inl h) = part_addressed u q h
  place_addressed u q (inr h) = whole_addressed u q h

  pub place_below : (u : ℕ) (q : Place) → IsPart p built s ok u q → place_word p built s ok q < 2 ^ 32
  place_below u q h =
      let a = part_addressed u q h in
      let below = address_below q.object a.offset a.address in
      let w = a.word_is in
      omega (arith, below, w)
