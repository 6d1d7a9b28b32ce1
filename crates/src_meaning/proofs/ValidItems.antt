-- Initialisers between braces, one after another.
use Rattle.std.proofs.Common.{◌≡◌, ◌∙◌, refl, sym, ap, ℕ, zero, suc, ◌+◌, ◌-◌, ◌<◌, Bool, true, false, ◌&&◌, nat_lt, List, [], ◌∷◌, take, length, get_or}
use native.Mathlib.Omega.{arith}
use Rattle.src_tree.specs.declared.program.Init.{Init, List as Listed}
use Rattle.src_tree.specs.declared.program.Init.TheBlock as B
use Rattle.src_tree.specs.declared.program.Program.{Program}
use Rattle.src_meaning.specs.ValidInitialiser.{is_initialiser, are_items, are_listed, is_item, is_not_empty, is_no_empty_list}

both : {a b c d : Bool} → a ≡ b → c ≡ d → (a && c) ≡ (b && d)
both {b = b} {c = c} e f = ap (λ x. x && c) e ∙ ap (λ x. b && x) f

and-true : (b : Bool) → (b && true) ≡ b
and-true true = refl
and-true false = refl

and-and : (a b c : Bool) → ((a && b) && c) ≡ (a && (b && c))
and-and true b c = refl
and-and false b c = refl

row-not_empty : (xs : List Init) → is_not_empty (B.hidden-the_row-Init-0 xs) ≡ is_no_empty_list xs
unfolding B.shape-the_row-Init-0 B.hidden-the_row-Init-0 denote.Hole.Carrier.hidden
row-not_empty [] = refl
row-not_empty (x ∷ xs) = refl

module _ (p : Program) (g room t : ℕ) where
  row-list : (k : ℕ) (xs : List Init) → are_items p g room t k (B.hidden-the_row-Init-0 xs) ≡ are_listed p g room t k xs
  unfolding B.shape-the_row-Init-0 B.hidden-the_row-Init-0 denote.Hole.Carrier.hidden
  row-list k [] = refl
  row-list k (x ∷ xs) = ap (λ b. is_item p g room t k x && b) (row-list (k + 1) xs)

  pub listed-more : (xs : List Init) (k i : ℕ) (d : Init) → i < length xs → are_listed p g room t k (take (i + 1) xs) ≡ are_listed p g room t k (take i xs) && is_item p g room t (k + i) (get_or xs i d)
  listed-more [] k i d h = absurd (omega arith)
  listed-more (x ∷ xs) k zero d h =
      let n : k ≡ k + 0 = omega arith in
      and-true (is_item p g room t k x) ∙ ap (λ m. is_item p g room t m x) n
  listed-more (x ∷ xs) k (suc i) d h =
      let n : suc i + 1 ≡ suc (i + 1) = omega arith in
      let m : (k + 1) + i ≡ k + suc i = omega arith in
      ap (λ j. are_listed p g room t k (take j (x ∷ xs))) n
      ∙ ap (λ b. is_item p g room t k x && b) (listed-more xs (k + 1) i d (omega arith) ∙ ap (λ j. are_listed p g room t (k + 1) (take i xs) && is_item p g room t j (get_or xs i d)) m)
      ∙ sym (and-and (is_item p g room t k x) (are_listed p g room t (k + 1) (take i xs)) (is_item p g room t (k + suc i) (get_or xs i d)))

pub listed-next : (p : Program) (g room t : ℕ) (xs : List Init) (i : ℕ) (d : Init) → i < length xs → are_listed p g room t 0 (take (i + 1) xs) ≡ are_listed p g room t 0 (take i xs) && is_item p g room t i (get_or xs i d)
listed-next p g room t xs i d h =
    let n : 0 + i ≡ i = omega arith in
    listed-more p g room t xs 0 i d h ∙ ap (λ j. are_listed p g room t 0 (take i xs) && is_item p g room t j (get_or xs i d)) n

pub initialiser-List : (p : Program) (g room t : ℕ) (xs : List Init) → is_initialiser p g room t (Listed xs) ≡ nat_lt 0 room && (is_no_empty_list xs && are_listed p g (room - 1) t 0 xs)
unfolding B.shape-the_row-Init-0 B.hidden-the_row-Init-0 denote.Hole.Carrier.hidden
initialiser-List p g room t xs = both refl (both (row-not_empty xs) (row-list p g (room - 1) t 0 xs))

pub ruleset item_facts = listed-next
