-- The declaration at a place of a text.
use Rattle.std.proofs.Common.{◌≡◌, refl, ℕ, zero, suc, List, [], ◌∷◌, Option, Some, None, slice_get, Bor}
use Rattle.std.specs.Option.{option_map, option_copied}
use Rattle.c_ast.specs.declared.decl.Decl.{Decl}
use Rattle.c_ast.specs.Trees.{declaration, declarations}

pub declarations_get : (ds : List Decl) (k : ℕ) → slice_get (declarations ds) k ≡ option_map declaration (slice_get ds k)
declarations_get [] k = refl
declarations_get (d ∷ ds) zero = refl
declarations_get (d ∷ ds) (suc k) = declarations_get ds k

pub seen : (o : Option (Bor Decl)) → option_map declaration (option_copied o) ≡ option_map (λ (d : Bor Decl). declaration d.now) o
seen None = refl
seen (Some d) = refl
