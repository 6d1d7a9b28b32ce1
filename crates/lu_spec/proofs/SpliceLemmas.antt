-- Ranges of lists.
use Rattle.std.proofs.Common.{◌≡◌, ◌∙◌, sym, ap, ℕ, ◌+◌, ◌-◌, ◌≤◌, List, ◌++◌, length, take, drop, arith, append_assoc}
use Rattle.std.proofs.lemmas.List.{length-append, length-take, length-drop, length-take-le, drop-append-le, take-append-le, drop-take, take-take, drop-drop, drop_at}
use Rattle.std.proofs.lemmas.Grind.{common_steps}
use Rattle.lu_spec.specs.Splice.{spliced, piece_at}

pub length-piece_at : {A : Type 0} (xs : List A) (at count : ℕ) → at + count ≤ length xs → length (piece_at xs at count) ≡ count
length-piece_at xs at count h = simp (length-take, length-drop) (omega arith)

pub length-spliced : {A : Type 0} (xs : List A) (at : ℕ) (piece : List A) → at + length piece ≤ length xs → length (spliced xs at piece) ≡ length xs
length-spliced xs at piece h = simp (length-append, length-take, length-drop) (omega arith)

-- what stands at the place of a piece
pub piece_at-spliced : {A : Type 0} (xs : List A) (at : ℕ) (piece : List A) → at + length piece ≤ length xs → piece_at (spliced xs at piece) at (length piece) ≡ piece
piece_at-spliced xs at piece h = grind (arith, common_steps)

-- what stands before the place
pub piece_at-spliced_before : {A : Type 0} (xs : List A) (at : ℕ) (piece : List A) (from count : ℕ) → at + length piece ≤ length xs → from + count ≤ at → piece_at (spliced xs at piece) from count ≡ piece_at xs from count
piece_at-spliced_before {A = A} xs at piece from count h before =
    let rest : List A = piece ++ drop (at + length piece) xs in
    let front : length (take at xs) ≡ at = length-take-le at xs (omega arith) in
    let long : count ≤ length (drop from (take at xs)) = omega (arith, length-drop from (take at xs)) in
    let split : take at xs ≡ take (from + (at - from)) xs = ap (λ n. take n xs) (omega arith) in
    ap (take count) (drop-append-le from (take at xs) rest (omega arith))
    ∙ (take-append-le count (drop from (take at xs)) rest long
    ∙ (ap (λ l. take count (drop from l)) split
    ∙ (ap (take count) (drop-take from (at - from) xs) ∙ take-take count (at - from) (drop from xs) (omega arith))))

-- what stands after it
drop-spliced : {A : Type 0} (xs : List A) (at : ℕ) (piece : List A) → at + length piece ≤ length xs → drop (at + length piece) (spliced xs at piece) ≡ drop (at + length piece) xs
drop-spliced xs at piece h =
    ap (drop (at + length piece)) (sym (append_assoc (take at xs) piece (drop (at + length piece) xs)))
    ∙ drop_at (take at xs ++ piece) (drop (at + length piece) xs) (at + length piece) (simp (length-append, length-take) (omega arith))

pub piece_at-spliced_after : {A : Type 0} (xs : List A) (at : ℕ) (piece : List A) (from count : ℕ) → at + length piece ≤ length xs → at + length piece ≤ from → piece_at (spliced xs at piece) from count ≡ piece_at xs from count
piece_at-spliced_after xs at piece from count h after =
    let end = at + length piece in
    let split : from ≡ end + (from - end) = omega arith in
    ap (take count)
    (ap (λ n. drop n (spliced xs at piece)) split
    ∙ (sym (drop-drop (from - end) end (spliced xs at piece))
    ∙ (ap (drop (from - end)) (drop-spliced xs at piece h)
    ∙ (drop-drop (from - end) end xs ∙ ap (λ n. drop n xs) (sym split)))))
