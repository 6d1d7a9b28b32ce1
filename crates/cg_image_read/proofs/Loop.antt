-- Reading items one after the other, as a loop does.
use Rattle.std.proofs.Common.{◌≡◌, ◌≢◌, ◌∙◌, ap, sym, refl, ℕ, suc, ◌-◌, ◌+◌, ◌≤◌, ◌<◌, List, [], ◌∷◌, ◌++◌, Ok, Err, Option, Some, None, Bool, true, false, cond, length, get_or, drop, drop-cons, drop_of_length-le, arith}
use Rattle.c_types.specs.declared.parts.Ty.{Ty}
use Rattle.bm_code.specs.declared.code.MachineGlobal.{MachineGlobal}
use Rattle.bm_code.specs.Accepted.{global_bytes}
use Rattle.cg_image.specs.Image.{type_bytes}
use Rattle.cg_image_read.specs.declared.error.ImageError.{ImageError}
use Rattle.cg_image_read.specs.declared.error.ImageError.TheVariants.{Memory}
use Rattle.cg_image_read.specs.Fields.{Part, Item, place, items_at}
use Rattle.cg_image_read.specs.Types.{first_refused}

module _ {A : Type 0} (item : Item A) (end : ℕ) (before : List A) (count i : ℕ) (bytes : List ℕ) (total : Part (List A)) where
  pub goes_on : (x : A) (behind : List ℕ) → i < count → item before (place end bytes) bytes ≡ Ok (x, behind)
      → items_at item end before (count - i) bytes ≡ total → items_at item end (before ++ x ∷ []) (count - (i + 1)) behind ≡ total
  unfolding items_at
  goes_on x behind lt h so_far =
      let k : count - i ≡ suc (count - (i + 1)) = omega arith in
      let one : items_at item end before (count - i) bytes ≡ items_at item end (before ++ x ∷ []) (count - (i + 1)) behind = rw (k, h) refl in
      sym one ∙ so_far

  pub ends : (e : ImageError) → i < count → (e ≢ Memory → item before (place end bytes) bytes ≡ Err e)
      → items_at item end before (count - i) bytes ≡ total → e ≢ Memory → total ≡ Err e
  unfolding items_at
  ends e lt h so_far plain =
      let k : count - i ≡ suc (count - (i + 1)) = omega arith in
      let one : items_at item end before (count - i) bytes ≡ Err e = rw (k, h plain) refl in
      sym so_far ∙ one

  pub is_done : count ≤ i → items_at item end before (count - i) bytes ≡ total → total ≡ Ok (before, bytes)
  unfolding items_at
  is_done le so_far =
      let k : count - i ≡ 0 = omega arith in
      let one : items_at item end before (count - i) bytes ≡ Ok (before, bytes) = rw k refl in
      sym so_far ∙ one

-- looking for the first type that a test refuses
module _ (test : Ty → Bool) (end : ℕ) (bytes : List ℕ) (types : List Ty) (i : ℕ) (d : Ty) (total : Option ℕ) where
  at_type : i < length types → first_refused test end bytes (drop i types)
      ≡ cond (test (get_or types i d)) (first_refused test end (drop (length (type_bytes (get_or types i d))) bytes) (drop (i + 1) types)) (Some (place end bytes))
  unfolding first_refused
  at_type lt =
      let next : suc i ≡ i + 1 = omega arith in
      ap (first_refused test end bytes) (drop-cons types i d lt ∙ ap (λ k. get_or types i d ∷ drop k types) next)

  pub refused_here : i < length types → test (get_or types i d) ≡ false → first_refused test end bytes (drop i types) ≡ total → total ≡ Some (place end bytes)
  refused_here lt h so_far =
      sym so_far ∙ at_type lt ∙ ap (λ b. cond b (first_refused test end (drop (length (type_bytes (get_or types i d))) bytes) (drop (i + 1) types)) (Some (place end bytes))) h

  pub refused_later : i < length types → test (get_or types i d) ≡ true → first_refused test end bytes (drop i types) ≡ total
      → first_refused test end (drop (length (type_bytes (get_or types i d))) bytes) (drop (i + 1) types) ≡ total
  refused_later lt h so_far =
      sym (at_type lt ∙ ap (λ b. cond b (first_refused test end (drop (length (type_bytes (get_or types i d))) bytes) (drop (i + 1) types)) (Some (place end bytes))) h) ∙ so_far

  pub none_refused : length types ≤ i → first_refused test end bytes (drop i types) ≡ total → total ≡ None
  unfolding first_refused
  none_refused le so_far =
      let nothing : drop i types ≡ [] = drop_of_length-le types le in
      sym so_far ∙ ap (first_refused test end bytes) nothing

-- the bytes of globals with one more
pub global_bytes-more : (gs : List MachineGlobal) (g : MachineGlobal) → global_bytes (gs ++ g ∷ []) ≡ global_bytes gs + length g.bytes
global_bytes-more [] g = omega arith
global_bytes-more (h ∷ gs) g = omega (arith, global_bytes-more gs g)
