-- The files that a number stands for.
use Rattle.std.specs.Prelude.{ℕ, zero, suc, ◌+◌, ◌*◌, ◌/◌, ◌%◌, ◌^◌, List, [], ◌∷◌, ◌++◌, codes}
use Rattle.std.specs.Fmt.{decimal}
use Rattle.lu_gen.specs.Texts.{plan_text, old_cell, new_cell, program}

-- a linear congruential sequence
abbrev pub next : ℕ → ℕ
next x = (1664525 * x + 1013904223) % 2 ^ 32

-- the number so many steps behind x
unfoldable pub steps : ℕ → ℕ → ℕ
steps zero x = x
steps (suc count) x = next (steps count x)

abbrev pub key_of : ℕ → ℕ
key_of x = x / 65536 % 4096

-- the j-th message, with the key of x, and one round of the server
unfoldable pub pair : ℕ → ℕ → List ℕ
pair j x = codes "send " ++ decimal (100 + j % 8) ++ codes " store 1 " ++ decimal (key_of x) ++ 10 ∷ codes "drain 1" ++ 10 ∷ []

-- the pairs after the one numbered `after`, where the sequence stands at x
unfoldable pub pairs : ℕ → ℕ → ℕ → List ℕ
pairs after zero x = []
pairs after (suc count) x = pairs after count x ++ pair (after + suc count) (steps (suc count) x)

unfoldable pub update_lines : List ℕ
update_lines = codes "update up" ++ 10 ∷ codes "work up 100000" ++ 10 ∷ []

-- a thousand messages, with the update behind the five hundredth
unfoldable pub schedule : ℕ → List ℕ
schedule number = pairs 0 500 number ++ update_lines ++ pairs 500 500 (steps 500 number)

unfoldable pub generated_files : ℕ → List (List ℕ × List ℕ)
generated_files number =
    (codes "plan", plan_text) ∷ (codes "a.c", old_cell ++ program) ∷ (codes "b.c", new_cell ++ program) ∷ (codes "s", schedule number) ∷ []
