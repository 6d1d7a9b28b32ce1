-- Objects beside others.
use Rattle.std.proofs.Common.{◌≡◌, ◌≢◌, ◌∙◌, sym, ap, subst, ◌⊎◌, inl, inr, ℕ, ◌≤◌, ◌+◌, List, length, Some, None}
use Rattle.std.proofs.lemmas.Bool.{cases_eq}
use Rattle.std.specs.FinMap.{get, insert, remove as without}
use Rattle.bm_mem.specs.Content.{Content, IsClear}
use Rattle.bm_mem.proofs.Laws.{get-insert_there, get-insert_else, get-remove_there, get-remove_else}

-- a range beside a changed object is as clear as it was
pub clear_beside : (m n : Content) (start : ℕ) (new : List ℕ) (addr len : ℕ) → n ≡ insert m start new → IsClear m addr len → (start + length new ≤ addr) ⊎ (addr + len ≤ start) → IsClear n addr len
clear_beside m n start new addr len is clear side = λ at bytes there. by_place at bytes there (cases_eq at start)
  where
    by_place : (at : ℕ) (bytes : List ℕ) → get n at ≡ Some bytes → (at ≡ start) ⊎ (at ≢ start) → (at + length bytes ≤ addr) ⊎ (addr + len ≤ at)
    by_place at bytes there (inr other) =
        clear at bytes (sym (get-insert_else m start new at other) ∙ (ap (λ c. get c at) (sym is) ∙ there))
    by_place at bytes there (inl same) =
        let here : get n start ≡ Some new = ap (λ c. get c start) is ∙ get-insert_there m start new in
        let both : Some new ≡ Some bytes = sym here ∙ (ap (get n) (sym same) ∙ there) in
        let equal : new ≡ bytes = cc in
        subst (λ a. (a + length bytes ≤ addr) ⊎ (addr + len ≤ a)) (sym same) (subst (λ l. (start + length l ≤ addr) ⊎ (addr + len ≤ start)) equal side)

-- where an object is taken away from a clear neighbourhood its place is clear
pub clear_without : (m n : Content) (start : ℕ) (addr len : ℕ) → n ≡ without m start → ((at : ℕ) (bytes : List ℕ) → at ≢ start → get m at ≡ Some bytes → (at + length bytes ≤ addr) ⊎ (addr + len ≤ at)) → IsClear n addr len
clear_without m n start addr len is clear = λ at bytes there. by_place at bytes there (cases_eq at start)
  where
    by_place : (at : ℕ) (bytes : List ℕ) → get n at ≡ Some bytes → (at ≡ start) ⊎ (at ≢ start) → (at + length bytes ≤ addr) ⊎ (addr + len ≤ at)
    by_place at bytes there (inr other) =
        clear at bytes other (sym (get-remove_else m start at other) ∙ (ap (λ c. get c at) (sym is) ∙ there))
    by_place at bytes there (inl same) =
        let none : get n start ≡ None = ap (λ c. get c start) is ∙ get-remove_there m start in
        let both : None ≡ Some bytes = sym none ∙ (ap (get n) (sym same) ∙ there) in absurd (cc both)
