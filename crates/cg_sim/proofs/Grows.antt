-- A store with a new zero object stays a store of the program, and its content has that object's zero bytes more.
use Rattle.std.proofs.Common.{◌≡◌, ◌∙◌, refl, ap, sym, subst, true, cond, ℕ, suc, ◌<◌, List, [], ◌∷◌, ◌++◌, length, replicate, map, Option, Some, None, arith, nat_eq}
use Rattle.std.specs.Prelude.{slice_get, pos}
use Rattle.std.specs.List.{list_all}
use Rattle.std.specs.Ordering.{nat_cmp}
use Rattle.std.specs.Cmp.{nat_cmp_total}
use Rattle.std.specs.FinMap.{find as look, insert, get-from_entries, get-insert, same_map, nat_cmp-IsAntisymmetric}
use Rattle.c_types.specs.declared.parts.Parts.{Parts}
use Rattle.src_tree.specs.declared.value.Value.{Value, Null, Pointer}
use Rattle.src_tree.specs.declared.value.Object.{Object}
use Rattle.src_tree.specs.declared.value.ObjectKind.TheVariants.{Heap}
use Rattle.src_tree.specs.declared.value.Store.{Store}
use Rattle.src_tree.specs.declared.program.Program.{Program}
use Rattle.src_tree.specs.declared.program.Site.{Site}
use Rattle.src_meaning.specs.Paths.{zero_of}
use Rattle.src_meaning.specs.Objects.{object_size, addresses, next_address, zero_object, has_room, append_object}
use Rattle.lu_base.specs.declared.limits.TheConstants.{FIRST_ADDRESS}
use Rattle.cg_state.specs.Represents.{address_past, address_in, with_entry, entries_from, content_of}
use Rattle.lu_base.specs.Addresses.{next_from}
use Rattle.src_meaning.specs.Store.{IsStore, has_type, is_address, are_elements, is_well_typed}
use Rattle.src_meaning.specs.ValueBytes.{Addresses, elements_bytes}
use Rattle.src_meaning.proofs.LayoutLengths.{and_left, and_right}
use Rattle.c_types.specs.Refusal.{IsBuilt}
use Rattle.cg_state.proofs.Memory.{after_above}
use Rattle.cg_sim_expr.proofs.Limits.{end_above}
use Rattle.cg_state.proofs.Stores.{same_address, equal_address, cond_swap}
use Rattle.cg_sim.proofs.Kept.{kept_word_of}
use Rattle.src_laws.proofs.Extended.{extends_more}
use Rattle.src_laws.proofs.StoreLaws.{allocated_keeps}
use Rattle.src_laws.proofs.ZeroValues.{zero_elements}
use Rattle.cg_sim.proofs.MoreAddresses.{elements_keep}

-- the entries of a content with one object more
module _ (p : Parts) (av : Addresses) (x : Object) (vs : List Value) (live : x.elements ≡ Some vs) (q : ℕ) where
  abbrev mine : Option (List ℕ)
  mine = Some (elements_bytes p av x.elem vs)

  look_more : (a : ℕ) (os : List Object) → look nat_cmp q (entries_from p av a (os ++ x ∷ [])) ≡ cond (same_address q (next_from a (map (object_size p) os))) mine (look nat_cmp q (entries_from p av a os))
  look_more a [] = ap (λ l. look nat_cmp q (with_entry p av a x.elem l [])) live
  look_more a (y ∷ os) = by y.elements (look_more (address_past p a y) os)
    where
      next : ℕ
      next = address_past p a y

      by : (l : Option (List Value)) → look nat_cmp q (entries_from p av (address_past p a y) (os ++ x ∷ [])) ≡ cond (same_address q (next_from (address_past p a y) (map (object_size p) os))) mine (look nat_cmp q (entries_from p av (address_past p a y) os)) → look nat_cmp q (with_entry p av a y.elem l (entries_from p av (address_past p a y) (os ++ x ∷ []))) ≡ cond (same_address q (next_from (address_past p a y) (map (object_size p) os))) mine (look nat_cmp q (with_entry p av a y.elem l (entries_from p av (address_past p a y) os)))
      by None rest = rest
      by (Some us) rest =
          let up = after_above p a y in
          let end = end_above p (address_past p a y) os in
          ap (cond (same_address q a) (Some (elements_bytes p av y.elem us))) rest
          ∙ cond_swap (same_address q a) (same_address q (next_from (address_past p a y) (map (object_size p) os))) (Some (elements_bytes p av y.elem us)) mine (look nat_cmp q (entries_from p av (address_past p a y) os)) (λ t u. let m = equal_address q a t in let n = equal_address q (next_from (address_past p a y) (map (object_size p) os)) u in omega (arith, m, n, up, end))

module _ (p : Program) (built : IsBuilt p.types) (s : Store) (ok : IsStore p s) where
  module _ (b : Addresses) (same : (o k : ℕ) → is_address p s o k ≡ true → address_in b o ≡ address_in (addresses p.types s) o) where
    -- the objects' bytes stay
    entries_keep : (a : ℕ) (os : List Object) → list_all (is_well_typed p s) os ≡ true → entries_from p.types (addresses p.types s) a os ≡ entries_from p.types b a os
    entries_keep a [] h = refl
    entries_keep a (y ∷ os) h =
        by y.elements (and_left (is_well_typed p s y) (list_all (is_well_typed p s) os) h) (entries_keep (address_past p.types a y) os (and_right (is_well_typed p s y) (list_all (is_well_typed p s) os) h))
      where
        by : (l : Option (List Value)) → are_elements p s y l ≡ true → entries_from p.types (addresses p.types s) (address_past p.types a y) os ≡ entries_from p.types b (address_past p.types a y) os → with_entry p.types (addresses p.types s) a y.elem l (entries_from p.types (addresses p.types s) (address_past p.types a y) os) ≡ with_entry p.types b a y.elem l (entries_from p.types b (address_past p.types a y) os)
        by None g rest = rest
        by (Some vs) g rest =
            ap (λ l. (a, l) ∷ entries_from p.types (addresses p.types s) (address_past p.types a y) os) (elements_keep p built s (addresses p.types s) b same y.elem vs (and_right (nat_eq (length vs) y.count) (list_all (has_type p s y.elem) vs) g))
            ∙ ap (λ l. (a, elements_bytes p.types b y.elem vs) ∷ l) rest

  module _ (site elem n : ℕ) (d : Site) (at : slice_get p.sites site ≡ Some d) (is_elem : d.elem ≡ elem) (known : elem < length p.types.types) where
    abbrev x : Object
    x = zero_object p.types (Heap site) elem (suc n)

    abbrev after : Store
    after = append_object s x

    abbrev vs : List Value
    vs = replicate (suc n) (zero_of p.types elem)

    module _ (room : has_room p.types s x ≡ true) where
      stays_store : IsStore p after
      stays_store =
          subst (λ b. IsStore p (cond {A = Value × Store} b (Pointer (length s.objects) 0, after) (Null, s)).1) room (allocated_keeps p built s ok site elem d at is_elem known (pos (suc n)))

      zero_content : insert (content_of p.types s) (next_address p.types s) (replicate (object_size p.types x) 0) ≡ content_of p.types after
      zero_content =
          let b = addresses p.types after in
          let keep = entries_keep b (kept_word_of p built s after (extends_more s.objects (x ∷ []))) FIRST_ADDRESS s.objects ok.typed in
          let next = next_address p.types s in
          let old = entries_from p.types (addresses p.types s) FIRST_ADDRESS s.objects in
          let bytes = replicate (object_size p.types x) 0 in
          let zeros = zero_elements p built after b elem (suc n) known in
          same_map nat_cmp_total nat_cmp-IsAntisymmetric _ _ (λ q. get-insert nat_cmp_total (content_of p.types s) next bytes q
          ∙ (ap (cond (same_address q next) (Some bytes)) (get-from_entries nat_cmp_total old q)
          ∙ (ap (λ l. cond (same_address q next) (Some bytes) (look nat_cmp q l)) keep
          ∙ (ap (λ l. cond (same_address q next) (Some l) (look nat_cmp q (entries_from p.types b FIRST_ADDRESS s.objects))) (sym zeros)
          ∙ (sym (look_more p.types b x vs refl q FIRST_ADDRESS s.objects) ∙ sym (get-from_entries nat_cmp_total (entries_from p.types b FIRST_ADDRESS (s.objects ++ x ∷ [])) q))))))

      -- an allocation
      pub grown : IsStore p after × (insert (content_of p.types s) (next_address p.types s) (replicate (object_size p.types x) 0) ≡ content_of p.types after)
      grown = (stays_store, zero_content)
