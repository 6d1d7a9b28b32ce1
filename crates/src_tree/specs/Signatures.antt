-- When two signatures are the same, and a function has one.
use Rattle.std.specs.Prelude.{ℕ, Bool, true, false, ◌&&◌, nat_eq, List, [], ◌∷◌, Option, Some, None}
use Rattle.c_types.specs.declared.parts.Signature.{Signature}
use Rattle.src_tree.specs.declared.program.Function.{Function}

abbrev pub same_numbers : List ℕ → List ℕ → Bool
same_numbers [] [] = true
same_numbers (x ∷ xs) (y ∷ ys) = nat_eq x y && same_numbers xs ys
same_numbers _ _ = false

abbrev pub same_result : Option ℕ → Option ℕ → Bool
same_result None None = true
same_result (Some a) (Some b) = nat_eq a b
same_result _ _ = false

-- the function has exactly that signature
abbrev pub has_signature : Function → Signature → Bool
has_signature f g = same_result f.ret g.result && same_numbers f.params g.params
