-- The machine's program of a source starts as the process of the initial store.
use Rattle.std.proofs.Common.{◌≡◌, ◌∙◌, refl, ap, sym, Bool, true, false, cond, ℕ, ◌*◌, ◌<◌, List, [], ◌∷◌, ◌++◌, length, map, Option, Some, None, slice_get, append_assoc, arith}
use Rattle.std.specs.Ordering.{nat_cmp, eq_by_cmp}
use Rattle.std.specs.Cmp.{nat_cmp_total}
use Rattle.std.specs.FinMap.{find as look, get, insert, empty, get-empty, get-insert, get-from_entries, same_map, nat_cmp-IsAntisymmetric}
use Rattle.std.proofs.lemmas.Bool.Decides.{nat_tests}
use Rattle.lu_base.specs.Addresses.{address_after, next_from}
use Rattle.lu_base.specs.declared.limits.TheConstants.{FIRST_ADDRESS}
use Rattle.c_types.specs.declared.parts.Parts.{Parts}
use Rattle.c_types.specs.declared.parts.Ty.{Ty}
use Rattle.c_types.specs.declared.parts.Ty.TheVariants as T
use Rattle.c_types.specs.declared.shape.Shape.{Shape}
use Rattle.c_types.specs.Layout.{size_of}
use Rattle.c_types.specs.Refusal.{IsBuilt}
use Rattle.c_types.proofs.ShapeLaws.{shape_of-is}
use Rattle.src_tree.specs.declared.value.Value.{Value}
use Rattle.src_tree.specs.declared.value.Object.{Object}
use Rattle.src_tree.specs.declared.program.Global as Text
use Rattle.src_tree.specs.declared.program.Program.{Program}
use Rattle.src_meaning.specs.Initial.{initial_object, initial_store, elem_in, count_in}
use Rattle.src_meaning.specs.Objects.{object_size, addresses}
use Rattle.src_meaning.specs.ValueBytes.{Addresses, elements_bytes}
use Rattle.bm_mem.specs.Content.{Content}
use Rattle.bm_objects.specs.declared.row.Row.{Row}
use Rattle.bm_code.specs.Globals.{Placed, no_objects, elements_in, global_row, with_globals, initial_process}
use Rattle.bm_code.specs.Process.{Idle}
use Rattle.cg_program.specs.Compiled.{Source, IsSource, machine_global, machine_code}
use Rattle.cg_state.specs.Represents.{address_past, row_of, rows_from, with_entry, entries_from, content_of, process_of}

-- what stands there, or else the other
abbrev or_else : {A : Type 0} → Option A → Option A → Option A
or_else (Some x) other = Some x
or_else None other = other

else_none : {A : Type 0} (o : Option A) → or_else o None ≡ o
else_none (Some x) = refl
else_none None = refl

abbrev same_address : ℕ → ℕ → Bool
same_address a b = eq_by_cmp nat_cmp a b

equal_address : (a b : ℕ) → same_address a b ≡ true → a ≡ b
equal_address a b e = grind (arith, nat_tests)

other_address : (a b : ℕ) → a < b → same_address a b ≡ false
other_address a b h = grind (arith, nat_tests)

-- no object stands below the first address
look_low : (p : Parts) (av : Addresses) (q first : ℕ) (os : List Object) → q < first → look nat_cmp q (entries_from p av first os) ≡ None
look_low p av q first [] lt = refl
look_low p av q first (x ∷ os) lt =
    by x.elements (look_low p av q (address_past p first x) os (omega (arith, lt)))
  where
    by : (l : Option (List Value)) → look nat_cmp q (entries_from p av (address_past p first x) os) ≡ None → look nat_cmp q (with_entry p av first x.elem l (entries_from p av (address_past p first x) os)) ≡ None
    by None e = e
    by (Some vs) e =
        ap (λ b. cond b (Some (elements_bytes p av x.elem vs)) (look nat_cmp q (entries_from p av (address_past p first x) os))) (other_address q first lt) ∙ e

module _ (p : Program) (built : IsBuilt p.types) where
  -- a global's object has the size of its type
  size_same : (d : Text.Global) → object_size p.types (initial_object p d) ≡ size_of p.types d.ty
  size_same d = by (slice_get p.types.types d.ty) refl
    where
      one : (n : ℕ) → 1 * n ≡ n
      one n = omega arith

      times : (a b : ℕ) → a * b ≡ b * a
      times a b = grind arith

      by : (o : Option Ty) → slice_get p.types.types d.ty ≡ o → count_in o * size_of p.types (elem_in d.ty o) ≡ size_of p.types d.ty
      by (Some (T.Array u n)) e = times n (size_of p.types u) ∙ sym (ap (λ (s : Shape). s.size) (shape_of-is p.types built d.ty (T.Array u n) e))
      by (Some (T.Int kind)) e = one (size_of p.types d.ty)
      by (Some (T.Pointer u)) e = one (size_of p.types d.ty)
      by (Some T.VoidPointer) e = one (size_of p.types d.ty)
      by (Some (T.Function u)) e = one (size_of p.types d.ty)
      by (Some (T.Struct u)) e = one (size_of p.types d.ty)
      by (Some (T.Union u)) e = one (size_of p.types d.ty)
      by None e = one (size_of p.types d.ty)

  same_elem : (t : ℕ) (o : Option Ty) → (elements_in t o).0 ≡ elem_in t o
  same_elem t None = refl
  same_elem t (Some (T.Array u n)) = refl
  same_elem t (Some (T.Int kind)) = refl
  same_elem t (Some (T.Pointer u)) = refl
  same_elem t (Some T.VoidPointer) = refl
  same_elem t (Some (T.Function u)) = refl
  same_elem t (Some (T.Struct u)) = refl
  same_elem t (Some (T.Union u)) = refl

  same_count : (t : ℕ) (o : Option Ty) → (elements_in t o).1 ≡ count_in o
  same_count t None = refl
  same_count t (Some (T.Array u n)) = refl
  same_count t (Some (T.Int kind)) = refl
  same_count t (Some (T.Pointer u)) = refl
  same_count t (Some T.VoidPointer) = refl
  same_count t (Some (T.Function u)) = refl
  same_count t (Some (T.Struct u)) = refl
  same_count t (Some (T.Union u)) = refl

  row_is : (sites a : ℕ) (d : Text.Global) → global_row p.types a (machine_global p d) ≡ row_of sites p.types a (initial_object p d)
  row_is sites a d =
      let o = slice_get p.types.types d.ty in
      let row : ℕ → ℕ → ℕ → Row = λ elem count size. record { addr = a; elem = elem; count = count; size = size; site = None; live = true } in
      ap (λ e. row e (elements_in d.ty o).1 (size_of p.types d.ty)) (same_elem d.ty o)
      ∙ (ap (λ n. row (elem_in d.ty o) n (size_of p.types d.ty)) (same_count d.ty o)
      ∙ ap (λ n. row (elem_in d.ty o) (count_in o) n) (sym (size_same d)))

  abbrev placed : Content → List Row → ℕ → Placed
  placed m r a = record { content = m; rows = r; next = a }

  abbrev after : Content → List Row → ℕ → List Text.Global → Placed
  after m r a gs = with_globals p.types (placed m r a) (map (machine_global p) gs)

  abbrev objects : List Text.Global → List Object
  objects gs = map (initial_object p) gs

  -- the address after a global's object
  past_is : (a : ℕ) (d : Text.Global) → address_after a (size_of p.types d.ty) ≡ address_past p.types a (initial_object p d)
  past_is a d = ap (address_after a) (sym (size_same d))

  next_is : (m : Content) (r : List Row) (a : ℕ) (gs : List Text.Global) → (after m r a gs).next ≡ next_from a (map (object_size p.types) (objects gs))
  next_is m r a [] = refl
  next_is m r a (d ∷ gs) =
      next_is (insert m a (machine_global p d).bytes) (r ++ global_row p.types a (machine_global p d) ∷ []) (address_after a (size_of p.types d.ty)) gs
      ∙ ap (λ b. next_from b (map (object_size p.types) (objects gs))) (past_is a d)

  rows_are : (sites : ℕ) (m : Content) (r : List Row) (a : ℕ) (gs : List Text.Global) → (after m r a gs).rows ≡ r ++ rows_from sites p.types a (objects gs)
  rows_are sites m r a [] = sym (no_more r)
    where
      no_more : (r : List Row) → r ++ [] ≡ r
      no_more [] = refl
      no_more (x ∷ r) = ap (λ l. x ∷ l) (no_more r)
  rows_are sites m r a (d ∷ gs) =
      let row = global_row p.types a (machine_global p d) in
      rows_are sites (insert m a (machine_global p d).bytes) (r ++ row ∷ []) (address_after a (size_of p.types d.ty)) gs
      ∙ (append_assoc r (row ∷ []) (rows_from sites p.types (address_after a (size_of p.types d.ty)) (objects gs))
      ∙ (ap (λ x. r ++ (x ∷ rows_from sites p.types (address_after a (size_of p.types d.ty)) (objects gs))) (row_is sites a d)
      ∙ ap (λ b. r ++ (row_of sites p.types a (initial_object p d) ∷ rows_from sites p.types b (objects gs))) (past_is a d)))

  swapped : (b : Bool) (y : List ℕ) (o rest : Option (List ℕ)) → (b ≡ true → o ≡ None) → or_else o (cond b (Some y) rest) ≡ or_else (cond b (Some y) o) rest
  swapped true y o rest none = ap (λ o. or_else o (Some y)) (none refl)
  swapped false y o rest none = refl

  abbrev av : Addresses
  av = addresses p.types (initial_store p)

  bytes_are : (m : Content) (r : List Row) (a : ℕ) (gs : List Text.Global) (q : ℕ) → get (after m r a gs).content q ≡ or_else (look nat_cmp q (entries_from p.types av a (objects gs))) (get m q)
  bytes_are m r a [] q = refl
  bytes_are m r a (d ∷ gs) q =
      let bytes = (machine_global p d).bytes in
      let rest : ℕ → Option (List ℕ) = λ b. look nat_cmp q (entries_from p.types av b (objects gs)) in
      let past = address_past p.types a (initial_object p d) in
      bytes_are (insert m a bytes) (r ++ global_row p.types a (machine_global p d) ∷ []) (address_after a (size_of p.types d.ty)) gs q
      ∙ (ap (λ b. or_else (rest b) (get (insert m a bytes) q)) (past_is a d)
      ∙ (ap (or_else (rest past)) (get-insert nat_cmp_total m a bytes q)
      ∙ swapped (same_address q a) bytes (rest past) (get m q) (λ e. (let same = equal_address q a e in look_low p.types av q past (objects gs) (omega (arith, same))))))

  start_is : (sites : ℕ) → (with_globals p.types no_objects (map (machine_global p) p.globals)) ≡ placed (content_of p.types (initial_store p)) (rows_from sites p.types FIRST_ADDRESS (objects p.globals)) (next_from FIRST_ADDRESS (map (object_size p.types) (objects p.globals)))
  start_is sites =
      let last = after empty [] FIRST_ADDRESS p.globals in
      let content : last.content ≡ content_of p.types (initial_store p) = same_map nat_cmp_total nat_cmp-IsAntisymmetric _ _ (λ q. bytes_are empty [] FIRST_ADDRESS p.globals q ∙ (ap (or_else (look nat_cmp q (entries_from p.types av FIRST_ADDRESS (objects p.globals)))) (get-empty nat_cmp q) ∙ (else_none _ ∙ sym (get-from_entries nat_cmp_total (entries_from p.types av FIRST_ADDRESS (objects p.globals)) q)))) in
      ap (λ m. placed m last.rows last.next) content
      ∙ (ap (λ r. placed (content_of p.types (initial_store p)) r last.next) (rows_are sites empty [] FIRST_ADDRESS p.globals)
      ∙ ap (λ n. placed (content_of p.types (initial_store p)) (rows_from sites p.types FIRST_ADDRESS (objects p.globals)) n) (next_is empty [] FIRST_ADDRESS p.globals))

-- the process of the initial store
pub source_starts : (s : Source) → IsSource s → initial_process (machine_code s) ≡ process_of s.program (initial_store s.program) [] (Idle None) 0
source_starts s is =
    let p = s.program in
    ap (λ (q : Placed). record { content = q.content; rows = q.rows; next = q.next; outbox = []; activity = Idle None; spare = 0 }) (start_is p is.valid.built (length p.sites))
