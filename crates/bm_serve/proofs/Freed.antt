-- A space with one object less.
use Rattle.std.proofs.Common.{◌≡◌, ◌≢◌, ◌∙◌, refl, ap, sym, subst, ◌⊎◌, inl, inr, Bool, true, false, cond, ◌&&◌, ℕ, zero, suc, ◌+◌, ◌<◌, ◌≤◌, List, [], ◌∷◌, Option, Some, None, arith, nat_lt}
use Rattle.std.specs.Prelude.{slice_get, All, Any, IsSome, is_some, ◌==◌}
use Rattle.std.specs.FinMap.{get, remove}
use Rattle.std.proofs.lemmas.Bool.{cases_eq}
use Rattle.std.proofs.lemmas.Bool.Decides.{nat_tests}
use Rattle.std.proofs.lemmas.Option.{slice_get_within, get_or_from_slice_get}
use Rattle.c_types.specs.declared.parts.Parts.{Parts}
use Rattle.bm_mem.specs.Content.{Content}
use Rattle.bm_mem.proofs.Laws.{get-remove_there, get-remove_else}
use Rattle.bm_objects.specs.declared.row.Row.{Row}
use Rattle.bm_objects.specs.Table.{end_of, killed_at, killed, IsTable}
use Rattle.bm_code.specs.Services.{heap_part_of, heap_bytes}
use Rattle.bm_code.specs.Mapped.{HasObject, IsOfRow, AreKnown}
use Rattle.bm_serve.specs.Space.{IsSpace}

some_in : {A : Type 0} (a b : A) → Some a ≡ Some b → a ≡ b
some_in a b h = cc

eq_true : (a b : ℕ) → a ≡ b → (a == b) ≡ true
eq_true a b h = grind (arith, nat_tests)

eq_false : (a b : ℕ) → a ≢ b → (a == b) ≡ false
eq_false a b h = grind (arith, nat_tests)

lt_of : (a b : ℕ) → nat_lt a b ≡ true → a < b
lt_of a b h = grind (arith, nat_tests)

ge_of : (a b : ℕ) → nat_lt a b ≡ false → b ≤ a
ge_of a b h = grind (arith, nat_tests)

abbrev dead : Row → Row
dead r = record r { live = false }

killed_here : (a : ℕ) (r : Row) → r.addr ≡ a → killed_at a r ≡ dead r
killed_here a r e = ap (λ b. cond b (dead r) r) (eq_true r.addr a e)

killed_else : (a : ℕ) (r : Row) → r.addr ≢ a → killed_at a r ≡ r
killed_else a r e = ap (λ b. cond b (dead r) r) (eq_false r.addr a e)

-- what a kill leaves of a row
record Stays (a : ℕ) (r : Row) : Type 0 where
  addr : (killed_at a r).addr ≡ r.addr
  elem : (killed_at a r).elem ≡ r.elem
  size : (killed_at a r).size ≡ r.size

stays : (a : ℕ) (r : Row) → Stays a r
stays a r = by_place (cases_eq r.addr a)
  where
    by_place : (r.addr ≡ a) ⊎ (r.addr ≢ a) → Stays a r
    by_place (inl same) = let e = killed_here a r same in record { addr = ap (λ r. r.addr) e; elem = ap (λ r. r.elem) e; size = ap (λ r. r.size) e }
    by_place (inr differs) = let e = killed_else a r differs in record { addr = ap (λ r. r.addr) e; elem = ap (λ r. r.elem) e; size = ap (λ r. r.size) e }

record Was (rows : List Row) (a k : ℕ) (y : Row) : Type 0 where
  row : Row
  at : slice_get rows k ≡ Some row
  is : killed_at a row ≡ y

was : (rows : List Row) (a k : ℕ) (y : Row) → slice_get (killed rows a) k ≡ Some y → Was rows a k y
was [] a k y e = absurd (cc)
was (x ∷ rows) a zero y e = record { row = x; at = refl; is = some_in (killed_at a x) y e }
was (x ∷ rows) a (suc k) y e = let w = was rows a k y e in record { row = w.row; at = w.at; is = w.is }

becomes : (rows : List Row) (a k : ℕ) (x : Row) → slice_get rows k ≡ Some x → slice_get (killed rows a) k ≡ Some (killed_at a x)
becomes [] a k x e = absurd (cc)
becomes (y ∷ rows) a zero x e = ap (λ r. Some (killed_at a r)) (some_in y x e)
becomes (y ∷ rows) a (suc k) x e = becomes rows a k x e

-- no two rows begin at one address
unique : (rows : List Row) → IsTable rows → (j k : ℕ) (x y : Row) → slice_get rows j ≡ Some x → slice_get rows k ≡ Some y → x.addr ≡ y.addr → (j < k) → ⊥
unique rows t j k x y e f same lt =
    let h = t.apart j k x lt (slice_get_within rows k y f) in
    omega (arith, h, ap end_of (get_or_from_slice_get rows j x x e), ap (λ r. r.addr) (get_or_from_slice_get rows k y x f), same)

above_killed : (rows : List Row) (a next : ℕ) → All (λ r. end_of r < next) rows → All (λ r. end_of r < next) (killed rows a)
above_killed [] a next h k d lt = absurd (omega arith)
above_killed (x ∷ rows) a next h zero d lt = let s = stays a x in omega (arith, h 0 d (omega arith), s.addr, s.size)
above_killed (x ∷ rows) a next h (suc k) d lt = above_killed rows a next (λ j d lt. h (suc j) d (omega arith)) k d (omega arith)

heap_same : (rows : List Row) (a : ℕ) → ((k : ℕ) (x : Row) → slice_get rows k ≡ Some x → x.addr ≢ a) → heap_bytes (killed rows a) ≡ heap_bytes rows
heap_same [] a h = refl
heap_same (x ∷ rows) a h =
    let e = ap heap_part_of (killed_else a x (h 0 x refl)) in omega (arith, e, heap_same rows a (λ k y f. h (suc k) y f))

dead_part : (r : Row) → heap_part_of (dead r) ≡ 0
dead_part r = refl

heap_killed : (rows : List Row) (a k : ℕ) (r : Row) → slice_get rows k ≡ Some r → r.addr ≡ a → heap_part_of r ≡ r.size → ((j : ℕ) (x : Row) → slice_get rows j ≡ Some x → x.addr ≡ a → j ≡ k) → heap_bytes (killed rows a) + r.size ≡ heap_bytes rows
heap_killed [] a k r e at part one = absurd (cc)
heap_killed (y ∷ rows) a zero r e at part one =
    let same : y ≡ r = some_in y r e in
    let gone : heap_part_of (killed_at a y) ≡ 0 = ap heap_part_of (killed_here a y (ap (λ r. r.addr) same ∙ at)) ∙ dead_part y in
    let rest = heap_same rows a (λ j x f b. let n : suc j ≡ 0 = one (suc j) x f b in absurd (cc)) in
    omega (arith, gone, rest, ap heap_part_of same, part)
heap_killed (y ∷ rows) a (suc k) r e at part one =
    let other : y.addr ≢ a = λ b. let n : 0 ≡ suc k = one 0 y refl b in absurd (cc) in
    let still = ap heap_part_of (killed_else a y other) in
    let rest = heap_killed rows a k r e at part (λ j x f b. let n : suc j ≡ suc k = one (suc j) x f b in cc) in
    omega (arith, still, rest)

part_below : (rows : List Row) (k : ℕ) (r : Row) → slice_get rows k ≡ Some r → heap_part_of r ≤ heap_bytes rows
part_below [] k r e = absurd (cc)
part_below (y ∷ rows) zero r e = let same = ap heap_part_of (some_in y r e) in omega (arith, same)
part_below (y ∷ rows) (suc k) r e = omega (arith, part_below rows k r e)

heap_row : (r : Row) (site : Option ℕ) → r.live ≡ true → r.site ≡ site → is_some site ≡ true → heap_part_of r ≡ r.size
heap_row r site l s e = ap (λ b. cond (b && is_some r.site) r.size 0) l ∙ (ap (λ o. cond (is_some o) r.size 0) s ∙ ap (λ b. cond b r.size 0) e)

pub heap_whole : (r : Row) → r.live ≡ true → is_some r.site ≡ true → heap_part_of r ≡ r.size
heap_whole r l e = heap_row r r.site l refl e

module _ (types : Parts) (m : Content) (rows : List Row) (next used : ℕ) (space : IsSpace types m rows next used) (t : IsTable rows) (k : ℕ) (r : Row) (at : slice_get rows k ≡ Some r) (live : r.live ≡ true) (part : heap_part_of r ≡ r.size) where
  pub begins : Any (λ x. x.addr ≡ r.addr) rows
  begins = (k, r, slice_get_within rows k r at, get_or_from_slice_get rows k r r at, refl)

  pub is_mapped : IsSome (get m r.addr)
  is_mapped = let h = space.mapped.live k r at live in rw h.1 refl

  pub size_below : r.size ≤ used
  size_below = omega (arith, part_below rows k r at, part, space.used_is)

  only_here : (j : ℕ) (x : Row) → slice_get rows j ≡ Some x → x.addr ≡ r.addr → j ≡ k
  only_here j x e same = by_place (cases_eq j k)
    where
      by_place : (j ≡ k) ⊎ (j ≢ k) → j ≡ k
      by_place (inl e) = e
      by_place (inr differs) = by_order (less j k differs)
        where
          less : (j k : ℕ) → j ≢ k → (j < k) ⊎ (k < j)
          less j k n = by_test (nat_lt j k) refl
            where
              by_test : (b : Bool) → nat_lt j k ≡ b → (j < k) ⊎ (k < j)
              by_test true e = inl (lt_of j k e)
              by_test false e = inr (omega (arith, ge_of j k e, n))

          by_order : (j < k) ⊎ (k < j) → j ≡ k
          by_order (inl lt) = absurd (unique rows t j k x r e at same lt)
          by_order (inr lt) = absurd (unique rows t k j r x at e (sym same) lt)

  each_live : (j : ℕ) (y : Row) → slice_get (killed rows r.addr) j ≡ Some y → y.live ≡ true → HasObject (remove m r.addr) y
  each_live j y e l = let w = was rows r.addr j y e in by_place w.row w.at w.is (cases_eq w.row.addr r.addr)
    where
      by_place : (x : Row) → slice_get rows j ≡ Some x → killed_at r.addr x ≡ y → (x.addr ≡ r.addr) ⊎ (x.addr ≢ r.addr) → HasObject (remove m r.addr) y
      by_place x f is (inl same) =
          let no : false ≡ true = ap (λ x. x.live) (sym (killed_here r.addr x same) ∙ is) ∙ l in absurd (cc)
      by_place x f is (inr differs) =
          let one : x ≡ y = sym (killed_else r.addr x differs) ∙ is in
          let h = space.mapped.live j x f (ap (λ x. x.live) one ∙ l) in
          subst (HasObject (remove m r.addr)) one (h.0, get-remove_else m r.addr x.addr differs ∙ h.1, h.2)

  each_only : (start : ℕ) (bytes : List ℕ) → get (remove m r.addr) start ≡ Some bytes → IsOfRow (killed rows r.addr) start
  each_only start bytes e = by_place (cases_eq start r.addr)
    where
      by_place : (start ≡ r.addr) ⊎ (start ≢ r.addr) → IsOfRow (killed rows r.addr) start
      by_place (inl same) =
          let none : get (remove m r.addr) start ≡ None = ap (get (remove m r.addr)) same ∙ get-remove_there m r.addr in absurd (cc (none, e))
      by_place (inr differs) =
          let o = space.mapped.only start bytes (sym (get-remove_else m r.addr start differs) ∙ e) in
          let stay : killed_at r.addr o.1 ≡ o.1 = killed_else r.addr o.1 (λ same. differs (sym o.3 ∙ same)) in
          (o.0, o.1, becomes rows r.addr o.0 o.1 o.2 ∙ ap Some stay, o.3, o.4)

  each_known : AreKnown types (killed rows r.addr)
  each_known j y e =
      let w = was rows r.addr j y e in
      let s = stays r.addr w.row in
      omega (arith, space.known j w.row w.at, s.elem, ap (λ x. x.elem) w.is)

  pub space_freed : (n : Content) (rows' : List Row) (next' used' : ℕ) → n ≡ remove m r.addr → rows' ≡ killed rows r.addr → next' ≡ next → used' + r.size ≡ used → IsSpace types n rows' next' used'
  space_freed n rows' next' used' e f g h =
      subst (λ n. IsSpace types n rows' next' used') (sym e) (subst (λ l. IsSpace types (remove m r.addr) l next' used') (sym f) (subst (λ k. IsSpace types (remove m r.addr) (killed rows r.addr) k used') (sym g) whole))
    where
      whole : IsSpace types (remove m r.addr) (killed rows r.addr) next used'
      whole = record {
        mapped = record { live = each_live; only = each_only };
        known = each_known;
        above = above_killed rows r.addr next space.above;
        used_is = omega (arith, heap_killed rows r.addr k r at refl part only_here, h, space.used_is);
        used_low = omega (arith, space.used_low, h);
        next_low = space.next_low;
      }
