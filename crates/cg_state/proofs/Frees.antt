-- A free is the process of the store in which the object is dead.
use Rattle.std.proofs.Common.{length, map, ◌≡◌, ◌∙◌, refl, ap, sym, Bool, true, false, ◌&&◌, not, cond, ℕ, zero, suc, ◌+◌, ◌<◌, ◌≤◌, List, [], ◌∷◌, Option, Some, None, arith, nat_eq}
use Rattle.std.specs.Prelude.{slice_get, slice_set, find, is_some}
use Rattle.std.specs.Option.{option_map_or}
use Rattle.std.specs.Ordering.{nat_cmp}
use Rattle.std.specs.Cmp.{nat_cmp_total}
use Rattle.std.specs.FinMap.{find as look, remove, get-from_entries, get-remove, same_map, nat_cmp-IsAntisymmetric}
use Rattle.std.proofs.lemmas.Bool.Decides.{nat_tests}
use Rattle.c_types.specs.declared.parts.Parts.{Parts}
use Rattle.src_tree.specs.declared.value.Value.{Value}
use Rattle.src_tree.specs.declared.value.Object.{Object}
use Rattle.src_tree.specs.declared.value.ObjectKind.{ObjectKind}
use Rattle.src_tree.specs.declared.value.ObjectKind.TheVariants.{Global, Heap, Temporary}
use Rattle.src_tree.specs.declared.value.Store.{Store}
use Rattle.src_tree.specs.declared.program.Program.{Program}
use Rattle.lu_base.specs.declared.limits.TheConstants.{FIRST_ADDRESS}
use Rattle.cg_state.specs.Represents.{address_past, address_in, row_of, rows_from, rows_of, with_entry, entries_from, content_of, site_of, process_of}
use Rattle.lu_base.specs.Addresses.{addresses_from, next_from}
use Rattle.src_meaning.specs.Objects.{with_object, with_elements, is_live, is_live_heap, is_global, object_size, addresses, next_address}
use Rattle.lu_base.specs.Sending.{Sent}
use Rattle.lu_base.specs.declared.trap.Trap.TheVariants.{BadFree}
use Rattle.src_meaning.specs.ValueBytes.{Addresses, elements_bytes}
use Rattle.bm_objects.specs.Table.{reaches, killed_at, killed}
use Rattle.bm_code.specs.Process.{Activity, Frame, Process}
use Rattle.bm_code.specs.Frames.{advanced}
use Rattle.bm_code.specs.Transfers.{Next, trap, running}
use Rattle.bm_code.specs.Services.{free, is_heap_start, without_object}
use Rattle.cg_state.proofs.Memory.{stands, after_above, find_row, address_is}
use Rattle.cg_state.proofs.Stores.{same_address, equal_address, cond_swap, cond_twice, look_with}

-- an object that has an own site is none of the globals
pub site_is : (sites : ℕ) (k : ObjectKind) → is_some (site_of sites k) ≡ not (is_global k)
site_is sites Global = refl
site_is sites (Heap site) = refl
site_is sites Temporary = refl

kill_same : (sites : ℕ) (p : Parts) (a : ℕ) (x : Object) → killed_at a (row_of sites p a x) ≡ row_of sites p a (with_elements x None)
kill_same sites p a x = by (nat_eq a a) (same_number a)
  where
    same_number : (a : ℕ) → nat_eq a a ≡ true
    same_number a = grind (arith, nat_tests)

    by : (b : Bool) → b ≡ true → cond b (record (row_of sites p a x) { live = false }) (row_of sites p a x) ≡ row_of sites p a (with_elements x None)
    by true e = refl
    by false e = absurd (cc)

kill_other : (sites : ℕ) (p : Parts) (a b : ℕ) (x : Object) → (a ≡ b → ⊥) → killed_at b (row_of sites p a x) ≡ row_of sites p a x
kill_other sites p a b x n = ap (λ t. cond t (record (row_of sites p a x) { live = false }) (row_of sites p a x)) (differ a b n)
  where
    differ : (a b : ℕ) → (a ≡ b → ⊥) → nat_eq a b ≡ false
    differ a b n = grind (arith, nat_tests)

none_killed : (sites : ℕ) (p : Parts) (first a : ℕ) (os : List Object) → a < first → killed (rows_from sites p first os) a ≡ rows_from sites p first os
none_killed sites p first a [] lt = refl
none_killed sites p first a (y ∷ os) lt =
    let up = after_above p first y in
    ap (λ r. r ∷ killed (rows_from sites p (address_past p first y) os) a) (kill_other sites p first a y (λ e. omega (arith, lt, e)))
    ∙ ap (λ rs. row_of sites p first y ∷ rs) (none_killed sites p (address_past p first y) a os (omega (arith, up, lt)))

look_below : (p : Parts) (av : Addresses) (first q : ℕ) (os : List Object) → q < first → look nat_cmp q (entries_from p av first os) ≡ None
look_below p av first q [] lt = refl
look_below p av first q (y ∷ os) lt =
    let up = after_above p first y in
    let rest = look_below p av (address_past p first y) q os (omega (arith, up, lt)) in
    by y.elements rest
  where
    other : (a b : ℕ) → a < b → same_address a b ≡ false
    other a b h = grind (arith, nat_tests)

    by : (l : Option (List Value)) → look nat_cmp q (entries_from p av (address_past p first y) os) ≡ None → look nat_cmp q (with_entry p av first y.elem l (entries_from p av (address_past p first y) os)) ≡ None
    by None r = r
    by (Some us) r = ap (λ b. cond b (Some (elements_bytes p av y.elem us)) (look nat_cmp q (entries_from p av (address_past p first y) os))) (other q first lt) ∙ r

module _ (sites : ℕ) (p : Parts) (x : Object) (vs : List Value) (live : x.elements ≡ Some vs) where
  abbrev pub dead : Object
  dead = with_elements x None

  pub addresses_dead : (a : ℕ) (os : List Object) (o : ℕ) → slice_get os o ≡ Some x → addresses_from a (map (object_size p) (slice_set os o dead)) ≡ addresses_from a (map (object_size p) os)
  addresses_dead a [] o e = absurd (cc)
  addresses_dead a (y ∷ os) zero e = let same : y ≡ x = cc in ap (λ (y : Object). a ∷ addresses_from (address_past p a y) (map (object_size p) os)) (sym same)
  addresses_dead a (y ∷ os) (suc o) e = ap (λ l. a ∷ l) (addresses_dead (address_past p a y) os o e)

  pub end_dead : (a : ℕ) (os : List Object) (o : ℕ) → slice_get os o ≡ Some x → next_from a (map (object_size p) (slice_set os o dead)) ≡ next_from a (map (object_size p) os)
  end_dead a [] o e = absurd (cc)
  end_dead a (y ∷ os) zero e = let same : y ≡ x = cc in ap (λ (y : Object). next_from (address_past p a y) (map (object_size p) os)) (sym same)
  end_dead a (y ∷ os) (suc o) e = end_dead (address_past p a y) os o e

  pub rows_dead : (a : ℕ) (os : List Object) (o : ℕ) (e : slice_get os o ≡ Some x) → killed (rows_from sites p a os) (stands sites p a os o x e).address ≡ rows_from sites p a (slice_set os o dead)
  unfolding stands
  rows_dead a [] o e = absurd (cc)
  rows_dead a (y ∷ os) zero e =
      let same : y ≡ x = cc in
      let up = after_above p a x in
      ap (λ (y : Object). killed_at a (row_of sites p a y) ∷ killed (rows_from sites p (address_past p a y) os) a) same
      ∙ (ap (λ r. r ∷ killed (rows_from sites p (address_past p a x) os) a) (kill_same sites p a x)
      ∙ ap (λ rs. row_of sites p a dead ∷ rs) (none_killed sites p (address_past p a x) a os (omega (arith, up))))
  rows_dead a (y ∷ os) (suc o) e =
      let st = stands sites p (address_past p a y) os o x e in
      let up = after_above p a y in
      let above = st.above in
      ap (λ r. r ∷ killed (rows_from sites p (address_past p a y) os) st.address) (kill_other sites p a st.address y (λ e. omega (arith, up, above, e)))
      ∙ ap (λ rs. row_of sites p a y ∷ rs) (rows_dead (address_past p a y) os o e)

  look_dead : (av : Addresses) (a : ℕ) (os : List Object) (o : ℕ) (e : slice_get os o ≡ Some x) (q : ℕ) → look nat_cmp q (entries_from p av a (slice_set os o dead)) ≡ cond (same_address q (stands sites p a os o x e).address) None (look nat_cmp q (entries_from p av a os))
  unfolding stands
  look_dead av a [] o e q = absurd (cc)
  look_dead av a (y ∷ os) zero e q =
      let same : y ≡ x = cc in
      let rest = entries_from p av (address_past p a x) os in
      let up = after_above p a x in
      absent (same_address q a) (look nat_cmp q rest) (λ t. let n = equal_address q a t in look_below p av (address_past p a x) q os (omega (arith, up, n)))
      ∙ (sym (cond_twice (same_address q a) None (Some (elements_bytes p av x.elem vs)) (look nat_cmp q rest))
      ∙ (ap (λ l. cond (same_address q a) None (look nat_cmp q (with_entry p av a x.elem l rest))) (sym live)
      ∙ ap (λ (y : Object). cond (same_address q a) None (look nat_cmp q (with_entry p av a y.elem y.elements (entries_from p av (address_past p a y) os)))) (sym same)))
    where
      absent : (b : Bool) (r : Option (List ℕ)) → (b ≡ true → r ≡ None) → r ≡ cond b None r
      absent true r h = h refl
      absent false r h = refl
  look_dead av a (y ∷ os) (suc o) e q =
      let st = stands sites p (address_past p a y) os o x e in
      let up = st.above in
      let more = after_above p a y in
      look_with sites p x vs vs live av q a y.elem y.elements (entries_from p av (address_past p a y) (slice_set os o dead))
      ∙ (ap (λ r. option_map_or (λ us. cond (same_address q a) (Some (elements_bytes p av y.elem us)) r) y.elements r) (look_dead av (address_past p a y) os o e q)
      ∙ (through y.elements st.address (omega (arith, more, up)) (look nat_cmp q (entries_from p av (address_past p a y) os))
      ∙ ap (cond (same_address q st.address) None) (sym (look_with sites p x vs vs live av q a y.elem y.elements (entries_from p av (address_past p a y) os)))))
    where
      through : (l : Option (List Value)) (b : ℕ) → a < b → (rest : Option (List ℕ)) → option_map_or (λ us. cond (same_address q a) (Some (elements_bytes p av y.elem us)) (cond (same_address q b) None rest)) l (cond (same_address q b) None rest) ≡ cond (same_address q b) None (option_map_or (λ us. cond (same_address q a) (Some (elements_bytes p av y.elem us)) rest) l rest)
      through None b lt rest = refl
      through (Some us) b lt rest =
          cond_swap (same_address q a) (same_address q b) (Some (elements_bytes p av y.elem us)) None rest (λ t u. let m = equal_address q a t in let n = equal_address q b u in omega (arith, m, n, lt))

  -- the content without the object's bytes
  pub remove_content : (s : Store) (o : ℕ) (e : slice_get s.objects o ≡ Some x) → remove (content_of p s) (stands sites p FIRST_ADDRESS s.objects o x e).address ≡ content_of p (with_object s o dead)
  remove_content s o e =
      let a = (stands sites p FIRST_ADDRESS s.objects o x e).address in
      let av = addresses p s in
      let old = entries_from p av FIRST_ADDRESS s.objects in
      let os' = slice_set s.objects o dead in
      let same_av : addresses_from FIRST_ADDRESS (map (object_size p) os') ≡ av = addresses_dead FIRST_ADDRESS s.objects o e in
      same_map nat_cmp_total nat_cmp-IsAntisymmetric _ _ (λ q. get-remove nat_cmp_total (content_of p s) a q
      ∙ (ap (cond (same_address q a) None) (get-from_entries nat_cmp_total old q)
      ∙ (sym (look_dead av FIRST_ADDRESS s.objects o e q)
      ∙ (ap (λ av. look nat_cmp q (entries_from p av FIRST_ADDRESS os')) (sym same_av) ∙ sym (get-from_entries nat_cmp_total (entries_from p (addresses_from FIRST_ADDRESS (map (object_size p) os')) FIRST_ADDRESS os') q)))))

and_false : (a b : Bool) → b ≡ false → (a && b) ≡ false
and_false true b h = h
and_false false b h = refl

free_acts : (q : Process) (fr : Frame) (cs : List Frame) (w : ℕ) (rest : List ℕ) → 0 < w → free q fr cs w rest ≡ cond (option_map_or (is_heap_start w) (find (reaches w) q.rows) false) (Next (running (without_object q w) (advanced fr rest) cs)) (trap BadFree q)
free_acts q fr cs zero rest h = absurd (omega (arith, h))
free_acts q fr cs (suc a) rest h = refl

-- FREE at a pointer
module _ (p : Program) (s : Store) (o : ℕ) (x : Object) (at : slice_get s.objects o ≡ Some x) (sends : List Sent) (a : Activity) (t : ℕ) (fr : Frame) (cs : List Frame) (rest : List ℕ) where
  abbrev before : Process
  before = process_of p s sends a t

  abbrev address : ℕ
  address = (stands (length p.sites) p.types FIRST_ADDRESS s.objects o x at).address

  goes_by : (k : ℕ) → k ≤ object_size p.types x → free before fr cs (address_in (addresses p.types s) o + k) rest ≡ cond (nat_eq address (address + k) && (is_live x && is_some (site_of (length p.sites) x.kind))) (Next (running (without_object before (address + k)) (advanced fr rest) cs)) (trap BadFree before)
  goes_by k le =
      let same = address_is (length p.sites) p.types s o x at in
      let up = (stands (length p.sites) p.types FIRST_ADDRESS s.objects o x at).above in
      let w : address_in (addresses p.types s) o + k ≡ address + k = omega (arith, same) in
      let some : 0 < address + k = omega (arith, up) in
      ap (λ w. free before fr cs w rest) w
      ∙ (free_acts before fr cs (address + k) rest some
      ∙ ap (λ r. cond (option_map_or (is_heap_start (address + k)) r false) (Next (running (without_object before (address + k)) (advanced fr rest) cs)) (trap BadFree before)) (find_row (length p.sites) p.types FIRST_ADDRESS s.objects o k x at le))

  -- inside an object
  pub free_inside : (k : ℕ) → suc k ≤ object_size p.types x → free before fr cs (address_in (addresses p.types s) o + suc k) rest ≡ trap BadFree before
  free_inside k le =
      goes_by (suc k) le ∙ ap (λ b. cond (b && (is_live x && is_some (site_of (length p.sites) x.kind))) (Next (running (without_object before (address + suc k)) (advanced fr rest) cs)) (trap BadFree before)) (differ address k)
    where
      differ : (a k : ℕ) → nat_eq a (a + suc k) ≡ false
      differ a k = let n : a ≡ a + suc k → ⊥ = λ e. omega (arith, e) in grind (arith, nat_tests, n)

  -- at the start of what is no live object of the heap
  pub free_other : is_live_heap x ≡ false → free before fr cs (address_in (addresses p.types s) o + 0) rest ≡ trap BadFree before
  free_other h =
      goes_by 0 (omega arith) ∙ ap (λ b. cond b (Next (running (without_object before (address + 0)) (advanced fr rest) cs)) (trap BadFree before)) (and_false (nat_eq address (address + 0)) (is_live x && is_some (site_of (length p.sites) x.kind)) (ap (λ b. is_live x && b) (site_is (length p.sites) x.kind) ∙ h))

  -- at the start of a live object of the heap
  pub free_live : (vs : List Value) (live : x.elements ≡ Some vs) → is_live_heap x ≡ true → free before fr cs (address_in (addresses p.types s) o + 0) rest ≡ Next (running (process_of p (with_object s o (with_elements x None)) sends a t) (advanced fr rest) cs)
  free_live vs live h =
      let n : address + 0 ≡ address = omega arith in
      let after = with_object s o (with_elements x None) in
      let there = λ (q : Process). Next (running q (advanced fr rest) cs) in
      goes_by 0 (omega arith)
      ∙ (ap (λ b. cond b (there (without_object before (address + 0))) (trap BadFree before)) (both (nat_eq address (address + 0)) (is_live x && is_some (site_of (length p.sites) x.kind)) (same_number address) (ap (λ b. is_live x && b) (site_is (length p.sites) x.kind) ∙ h))
      ∙ (ap (λ w. there (without_object before w)) n
      ∙ (ap (λ m. there (record { content = m; rows = killed (rows_of p s) address; next = next_address p.types s; outbox = sends; activity = a; spare = t })) (remove_content (length p.sites) p.types x vs live s o at)
      ∙ (ap (λ r. there (record { content = content_of p.types after; rows = r; next = next_address p.types s; outbox = sends; activity = a; spare = t })) (rows_dead (length p.sites) p.types x vs live FIRST_ADDRESS s.objects o at)
      ∙ ap (λ n. there (record { content = content_of p.types after; rows = rows_of p after; next = n; outbox = sends; activity = a; spare = t })) (sym (end_dead (length p.sites) p.types x vs live FIRST_ADDRESS s.objects o at))))))
    where
      both : (a b : Bool) → a ≡ true → b ≡ true → (a && b) ≡ true
      both a b h g = cc

      same_number : (a : ℕ) → nat_eq a (a + 0) ≡ true
      same_number a = let n : a ≡ a + 0 = omega arith in grind (arith, nat_tests, n)
