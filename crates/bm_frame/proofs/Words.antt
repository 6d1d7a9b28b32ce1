-- The topmost words of a stack.
use Rattle.std.proofs.Common.{◌≡◌, ◌∙◌, refl, ap, sym, ℕ, ◌-◌, ◌≤◌, List, [], ◌∷◌, ◌++◌, length, take, drop, reverse, Some, arith, append_assoc}
use Rattle.std.proofs.lemmas.List.{reverse-append, reverse-reverse, length-reverse, take-append-drop, length-drop}
use Rattle.std.proofs.Math.Seq.{take-length}
use Rattle.bm_code.specs.Transfers.{pop_words}

reverse_cons : (x : ℕ) (t ws : List ℕ) → reverse (x ∷ t) ++ ws ≡ reverse t ++ (x ∷ ws)
reverse_cons x t ws = ap (λ l. l ++ ws) (reverse-append (x ∷ []) t) ∙ append_assoc (reverse t) (x ∷ []) ws

popped : (t s ws : List ℕ) → pop_words (length t) (t ++ s) ws ≡ Some (reverse t ++ ws, s)
popped [] s ws = refl
popped (x ∷ t) s ws = popped t s (x ∷ ws) ∙ ap (λ l. Some (l, s)) (sym (reverse_cons x t ws))

drop_front : (t s : List ℕ) → drop (length t) (t ++ s) ≡ s
drop_front [] s = refl
drop_front (x ∷ t) s = drop_front t s

nil_right : (l : List ℕ) → l ++ [] ≡ l
nil_right [] = refl
nil_right (x ∷ l) = ap (λ m. x ∷ m) (nil_right l)

pub last_words : (n : ℕ) (xs s : List ℕ) → reverse xs ≡ s → n ≤ length xs → pop_words n s [] ≡ Some (drop (length xs - n) xs, drop n s)
last_words n xs s e le =
    let b = drop (length xs - n) xs in
    let a = take (length xs - n) xs in
    let whole : a ++ b ≡ xs = take-append-drop (length xs - n) xs in
    let long : length b ≡ n = omega (arith, length-drop (length xs - n) xs) in
    let turned : s ≡ reverse b ++ reverse a = sym e ∙ (ap reverse (sym whole) ∙ reverse-append a b) in
    let count : n ≡ length (reverse b) = sym long ∙ sym (length-reverse b) in
    let first : pop_words n s [] ≡ pop_words (length (reverse b)) (reverse b ++ reverse a) [] = ap (λ k. pop_words k s []) count ∙ ap (λ l. pop_words (length (reverse b)) l []) turned in
    let back : reverse (reverse b) ++ [] ≡ b = nil_right (reverse (reverse b)) ∙ reverse-reverse b in
    let below : drop n s ≡ reverse a = ap (λ k. drop k s) count ∙ (ap (drop (length (reverse b))) turned ∙ drop_front (reverse b) (reverse a)) in
    first ∙ (popped (reverse b) (reverse a) [] ∙ (ap (λ l. Some (l, reverse a)) back ∙ ap (λ l. Some (b, l)) (sym below)))

pub take_all : (l : List ℕ) (k : ℕ) → k ≡ length l → take k l ≡ l
take_all l k e = ap (λ k. take k l) e ∙ take-length l
