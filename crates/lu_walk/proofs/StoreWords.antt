-- The words in the bytes of a store's object go, in order, to the objects that it carries.
use Rattle.std.proofs.Common.{◌≡◌, ◌∙◌, refl, ap, sym, subst, Bool, true, false, ◌&&◌, ℕ, zero, suc, List, [], ◌∷◌, length, min, take, Option, Some, None, slice_get, if◌then◌else◌, nat_eq, arith}
use Rattle.std.specs.Prelude.{flat_map}
use Rattle.std.specs.List.{list_all}
use Rattle.std.specs.Option.{option_map, option_map_or}
use Rattle.std.proofs.lemmas.Bool.Decides.{nat_tests}
use Rattle.std.proofs.lemmas.List.{append-nil, length-map}
use Rattle.std.proofs.lemmas.Option.{slice_get_within, slice_get_past}
use Rattle.std.proofs.Math.Seq.{take-length}
use Rattle.c_types.specs.declared.parts.Ty.{Ty}
use Rattle.c_types.specs.Refusal.{IsBuilt}
use Rattle.c_types.proofs.Numbered.{list_all-at}
use Rattle.c_types.proofs.ShapeLaws.{get-map}
use Rattle.src_tree.specs.declared.value.ObjectKind.{ObjectKind}
use Rattle.src_tree.specs.declared.value.ObjectKind.TheVariants.{Global, Heap, Temporary}
use Rattle.src_tree.specs.declared.value.Object.{Object}
use Rattle.src_tree.specs.declared.value.Store.{Store}
use Rattle.src_tree.specs.declared.value.Value.{Value}
use Rattle.src_tree.specs.declared.program.Global as Text
use Rattle.src_tree.specs.declared.program.Program.{Program}
use Rattle.src_meaning.specs.Initial.{global_elem, global_count}
use Rattle.src_meaning.specs.Objects.{addresses, is_live}
use Rattle.src_meaning.specs.Store.{IsStore, has_type, are_elements, is_well_typed, are_objects, is_heap_object, is_global_object, is_of_kind}
use Rattle.src_meaning.specs.ValueBytes.{elements_bytes}
use Rattle.src_meaning.proofs.LayoutLengths.{and_left, and_right, typed_within}
use Rattle.bm_objects.specs.declared.row.Row.{Row}
use Rattle.cg_state.specs.Represents.{site_of, row_of}
use Rattle.lu_image.specs.Pairs.{Pairs}
use Rattle.lu_image.specs.Pairing.{outline_of}
use Rattle.lu_image_store.specs.Versions.{Versions, Extent, extent, global_extent, old_types, new_types, old_type, new_type, old_size, old_extent_in, new_extent_in, old_extent, new_extent, paired_global, paired_site}
use Rattle.lu_image_store.specs.Paths.{share_paths}
use Rattle.lu_image_store.specs.Carried as C
use Rattle.lu_scan.specs.Targets.{GoInTurn, AreWords}
use Rattle.lu_scan.specs.Scan.{words_in, items_words}
use Rattle.lu_scan.proofs.Carries.{words_go}
use Rattle.lu_walk.specs.ObjectWords.{elements_words, common_words, unpaired_words, global_words, heap_words, words_by_site, object_words}

no_values : (n : ℕ) → take {A = Value} n [] ≡ []
no_values zero = refl
no_values (suc n) = refl

global_elem-of : (p : Program) (g : Text.Global) (x : Object) → is_global_object p g x ≡ true → x.elem ≡ global_elem p.types g.ty
global_elem-of p g x h =
    let rest = and_right _ (is_live x && (nat_eq x.elem (global_elem p.types g.ty) && nat_eq x.count (global_count p.types g.ty))) h in
    let sized = and_right (is_live x) (nat_eq x.elem (global_elem p.types g.ty) && nat_eq x.count (global_count p.types g.ty)) rest in
    let same = and_left (nat_eq x.elem (global_elem p.types g.ty)) (nat_eq x.count (global_count p.types g.ty)) sized in
    grind (arith, nat_tests, same)

-- the object of a global has the elements of the global's type
global_at : (p : Program) (gs : List Text.Global) (xs : List Object) (k : ℕ) (x : Object) → are_objects p gs xs ≡ true → slice_get xs k ≡ Some x → x.kind ≡ Global → (g : Text.Global) × (slice_get gs k ≡ Some g) × (x.elem ≡ global_elem p.types g.ty)
global_at p [] xs k x h e global =
    let here = list_all-at (is_heap_object p) xs k x h e in
    let kind : is_of_kind p x x.kind ≡ true = and_left (is_of_kind p x x.kind) _ here in
    let none : is_of_kind p x x.kind ≡ false = ap (is_of_kind p x) global in
    absurd (cc)
global_at p (g ∷ gs) [] k x h e global = absurd (cc)
global_at p (g ∷ gs) (y ∷ xs) zero x h e global =
    let is : y ≡ x = cc in
    let here = and_left (is_global_object p g y) (are_objects p gs xs) h in
    let elem = global_elem-of p g y here in
    (g, refl, ap (λ (z : Object). z.elem) (sym is) ∙ elem)
global_at p (g ∷ gs) (y ∷ xs) (suc k) x h e global =
    global_at p gs xs k x (and_right (is_global_object p g y) (are_objects p gs xs) h) e global

module _ (m : Versions) (old new : Program) (s : Store) (pairs : Pairs old new m.pairing) (ok : IsStore old s) (fit : AreWords old s) where
  pub outline : m.pairing.old ≡ outline_of old
  outline = ap (λ p. p.old) pairs.paired

  pub same : old.types ≡ old_types m
  same = sym (ap (λ o. o.types) outline)

  pub built : IsBuilt old.types
  built = pairs.old_valid.built

  abbrev Turn : List ℕ → List ℕ → Type 0
  Turn = GoInTurn old s

  abbrev bytes_in : ℕ → List Value → List ℕ
  bytes_in t vs = elements_bytes old.types (addresses old.types s) t vs

  -- the first elements of a type
  first_turn : (t count : ℕ) (new : Option Ty) (vs : List Value) → list_all (has_type old s t) vs ≡ true → Turn (elements_words m t new (min count (length vs)) (bytes_in t vs)) (flat_map (C.carried_in m t true new) (take count vs))
  first_turn t count new [] typed =
      let none : min count 0 ≡ 0 = omega arith in
      let nothing : take count [] ≡ [] = no_values count in
      subst (λ n. Turn (elements_words m t new n []) (flat_map (C.carried_in m t true new) (take count []))) (sym none) (subst (λ vs. Turn [] (flat_map (C.carried_in m t true new) vs)) (sym nothing) tt)
  first_turn t count new (v ∷ vs) typed =
      let ty = typed_within old s (length old.types.types) t v (and_left (has_type old s t v) (list_all (has_type old s t) vs) typed) in
      let go = words_go m old s same built fit t (slice_get_within old.types.types t ty.0 ty.1) true new count (v ∷ vs) [] typed in
      subst (λ p. Turn (items_words (words_in m (length p.types) t true new) (old_size m t) (min count (length (v ∷ vs))) (bytes_in t (v ∷ vs))) (flat_map (C.carried_in m t true new) (take count (v ∷ vs)))) same (subst (λ b. Turn (items_words (words_in m (length old.types.types) t true new) (old_size m t) (min count (length (v ∷ vs))) b) (flat_map (C.carried_in m t true new) (take count (v ∷ vs)))) (append-nil (bytes_in t (v ∷ vs))) go)

  if_turn : (b : Bool) (ws os : List ℕ) → Turn ws os → Turn (if b then ws else []) (if b then os else [])
  if_turn true ws os h = h
  if_turn false ws os h = tt

  -- elements that an old object and a new one both have
  common_turn : (e d : Extent) (count : ℕ) (vs : List Value) → length vs ≡ count → list_all (has_type old s e.elem) vs ≡ true → Turn (common_words m e d count (bytes_in e.elem vs)) (if share_paths e d then flat_map (C.carried_in m e.elem true (new_type m d.elem)) (take d.count vs) else [])
  common_turn e d count vs long typed =
      if_turn (share_paths e d) (elements_words m e.elem (new_type m d.elem) (min d.count count) (bytes_in e.elem vs)) (flat_map (C.carried_in m e.elem true (new_type m d.elem)) (take d.count vs)) (subst (λ n. Turn (elements_words m e.elem (new_type m d.elem) (min d.count n) (bytes_in e.elem vs)) (flat_map (C.carried_in m e.elem true (new_type m d.elem)) (take d.count vs))) long (first_turn e.elem d.count (new_type m d.elem) vs typed))

  -- all elements, where there is no pair
  unpaired_turn : (t count : ℕ) (vs : List Value) → length vs ≡ count → list_all (has_type old s t) vs ≡ true → Turn (unpaired_words m t count (bytes_in t vs)) (flat_map (C.carried_in m t true (C.type_at_top m (old_type m t))) vs)
  unpaired_turn t count vs long typed =
      let new = C.type_at_top m (old_type m t) in
      let all : min (length vs) (length vs) ≡ count = omega (arith, long) in
      subst (λ us. Turn (elements_words m t new count (bytes_in t vs)) (flat_map (C.carried_in m t true new) us)) (take-length vs) (subst (λ n. Turn (elements_words m t new n (bytes_in t vs)) (flat_map (C.carried_in m t true new) (take (length vs) vs))) all (first_turn t (length vs) new vs typed))

  -- an object of the heap
  heap_turn : (row : Row) (x : Object) (vs : List Value) (pair : Option ℕ) → row.elem ≡ x.elem → row.count ≡ x.count → length vs ≡ x.count → list_all (has_type old s x.elem) vs ≡ true → Turn (heap_words m row pair (bytes_in x.elem vs)) (C.in_elements m x vs (Some (extent x.elem x.count true)) (option_map (λ u. extent u x.count true) pair))
  heap_turn row x vs (Some u) elem count long typed =
      subst (λ t. Turn (common_words m (extent t row.count true) (extent u row.count true) row.count (bytes_in x.elem vs)) (C.in_elements m x vs (Some (extent x.elem x.count true)) (Some (extent u x.count true)))) (sym elem) (subst (λ n. Turn (common_words m (extent x.elem n true) (extent u n true) n (bytes_in x.elem vs)) (C.in_elements m x vs (Some (extent x.elem x.count true)) (Some (extent u x.count true)))) (sym count) (common_turn (extent x.elem x.count true) (extent u x.count true) x.count vs long typed))
  heap_turn row x vs None elem count long typed =
      subst (λ t. Turn (unpaired_words m t row.count (bytes_in x.elem vs)) (C.in_elements m x vs (Some (extent x.elem x.count true)) None)) (sym elem) (subst (λ n. Turn (unpaired_words m x.elem n (bytes_in x.elem vs)) (C.in_elements m x vs (Some (extent x.elem x.count true)) None)) (sym count) (unpaired_turn x.elem x.count vs long typed))

  -- a global
  global_turn : (x : Object) (vs : List Value) (declared pair : Option ℕ) (count : ℕ) → count ≡ x.count → ((t : ℕ) → declared ≡ Some t → x.elem ≡ (global_extent (old_types m) t).elem) → length vs ≡ x.count → list_all (has_type old s x.elem) vs ≡ true → Turn (global_words m count declared pair (bytes_in x.elem vs)) (C.in_elements m x vs (option_map (global_extent (old_types m)) declared) (option_map (global_extent (new_types m)) pair))
  global_turn x vs None pair count counted elem long typed = tt
  global_turn x vs (Some t) (Some u) count counted elem long typed =
      let e = global_extent (old_types m) t in
      let d = global_extent (new_types m) u in
      let at : x.elem ≡ e.elem = elem t refl in
      subst (λ k. Turn (common_words m e d count (bytes_in k vs)) (C.in_elements m x vs (Some e) (Some d))) (sym at) (common_turn e d count vs (long ∙ sym counted) (subst (λ k. list_all (has_type old s k) vs ≡ true) at typed))
  global_turn x vs (Some t) None count counted elem long typed =
      let e = global_extent (old_types m) t in
      let at : x.elem ≡ e.elem = elem t refl in
      subst (λ k. Turn (unpaired_words m e.elem count (bytes_in k vs)) (C.in_elements m x vs (Some e) None)) (sym at) (unpaired_turn e.elem count vs (long ∙ sym counted) (subst (λ k. list_all (has_type old s k) vs ≡ true) at typed))

  -- what is known of a live object
  elements_typed : (k : ℕ) (x : Object) (vs : List Value) → slice_get s.objects k ≡ Some x → x.elements ≡ Some vs → (length vs ≡ x.count) × (list_all (has_type old s x.elem) vs ≡ true)
  elements_typed k x vs at live =
      let here : are_elements old s x x.elements ≡ true = list_all-at (is_well_typed old s) s.objects k x ok.typed at in
      let both : nat_eq (length vs) x.count && list_all (has_type old s x.elem) vs ≡ true = sym (ap (are_elements old s x) live) ∙ here in
      let count = and_left (nat_eq (length vs) x.count) (list_all (has_type old s x.elem) vs) both in
      (grind (arith, nat_tests, count), and_right (nat_eq (length vs) x.count) (list_all (has_type old s x.elem) vs) both)

  -- a global's element type
  declared_elem : (k : ℕ) (x : Object) → slice_get s.objects k ≡ Some x → x.kind ≡ Global → (t : ℕ) → slice_get m.pairing.old.globals k ≡ Some t → x.elem ≡ (global_extent (old_types m) t).elem
  declared_elem k x at global t declared =
      let g = global_at old old.globals s.objects k x ok.objects at global in
      let here : slice_get m.pairing.old.globals k ≡ Some g.0.ty = ap (λ o. slice_get o.globals k) outline ∙ get-map (λ (g : Text.Global). g.ty) old.globals k g.0 g.1 in
      let type : g.0.ty ≡ t = some_same (sym here ∙ declared) in
      g.2 ∙ (ap (λ p. global_elem p g.0.ty) same ∙ ap (global_elem (old_types m)) type)
    where
      some_same : {a b : ℕ} → Some a ≡ Some b → a ≡ b
      some_same e = cc

  -- the site of a temporary has no pair
  no_site : None ≡ paired_site m (length old.sites)
  no_site =
      let long : length m.pairing.sites ≡ length old.sites = ap (λ p. length p.sites) pairs.paired ∙ length-map old.sites _ in
      let past : slice_get m.pairing.sites (length old.sites) ≡ None = slice_get_past m.pairing.sites (length old.sites) (omega (arith, long)) in
      sym (pair_none past)
    where
      pair_none : slice_get m.pairing.sites (length old.sites) ≡ None → paired_site m (length old.sites) ≡ None
      pair_none e = rw e refl

  -- by kind
  kind_turn : (k address : ℕ) (x : Object) (vs : List Value) (kind : ObjectKind) → x.kind ≡ kind → slice_get s.objects k ≡ Some x → x.elements ≡ Some vs → Turn (words_by_site m k (row_of (length old.sites) old.types address x) (site_of (length old.sites) kind) (bytes_in x.elem vs)) (C.in_elements m x vs (old_extent_in m k x kind) (new_extent_in m k x kind))
  kind_turn k address x vs Global is at live =
      let typed = elements_typed k x vs at live in
      global_turn x vs (slice_get m.pairing.old.globals k) (paired_global m k) x.count refl (declared_elem k x at is) typed.0 typed.1
  kind_turn k address x vs (Heap site) is at live =
      let typed = elements_typed k x vs at live in
      heap_turn (row_of (length old.sites) old.types address x) x vs (paired_site m site) refl refl typed.0 typed.1
  kind_turn k address x vs Temporary is at live =
      let typed = elements_typed k x vs at live in
      let row = row_of (length old.sites) old.types address x in
      subst (λ o. Turn (heap_words m row o (bytes_in x.elem vs)) (C.in_elements m x vs (Some (extent x.elem x.count true)) None)) no_site (heap_turn row x vs None refl refl typed.0 typed.1)

  -- the words of a live object go to the objects that it carries
  pub object_turn : (k address : ℕ) (x : Object) (vs : List Value) → slice_get s.objects k ≡ Some x → x.elements ≡ Some vs → Turn (object_words m k (row_of (length old.sites) old.types address x) (bytes_in x.elem vs)) (C.carried m s k)
  object_turn k address x vs at live =
      let here = kind_turn k address x vs x.kind refl at live in
      let carried : C.carried m s k ≡ C.in_elements m x vs (old_extent m k x) (new_extent m k x) = ap (λ o. option_map_or (C.carried_by m k) o []) at ∙ ap (λ o. option_map_or (λ us. C.in_elements m x us (old_extent m k x) (new_extent m k x)) o []) live in
      subst (Turn (object_words m k (row_of (length old.sites) old.types address x) (bytes_in x.elem vs))) (sym carried) here
