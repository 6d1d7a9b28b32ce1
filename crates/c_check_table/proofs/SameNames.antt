-- The texts of an outline are its names.
use Rattle.std.proofs.Common.{◌≡◌, ap, refl, List, [], ◌∷◌, ◌++◌}
use Rattle.c_ast.specs.Trees.{Declaration}
use Rattle.c_check_table.specs.Outlines.{outline}
use Rattle.c_check_table.proofs.Kept.{outline_keeps}

pub texts_are_names : (ds : List Declaration) → (outline ds).texts ≡ (outline ds).names
texts_are_names ds =
    outline_keeps (λ names texts. texts ≡ names) (λ names texts x e h. ap (λ l. l ++ (x ∷ [])) h) refl ds
