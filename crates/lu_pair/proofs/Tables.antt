-- The first refusal of all tables, from that of one.
use Rattle.std.proofs.Common.{◌≡◌, subst, List, Option, None}
use Rattle.src_tree.specs.declared.program.Program.{Program}
use Rattle.lu_image.specs.declared.rename.Rename.{Rename}
use Rattle.lu_image.specs.declared.error.PairError.{PairError}
use Rattle.lu_image.specs.RenameRefusal.{or_else, global_refusal, struct_refusal, field_refusal, union_refusal, member_refusal, function_refusal, site_refusal, refusal_of}
use Rattle.lu_pair.specs.Refusing.{IsErrorOf}
use Rattle.lu_pair.proofs.Exits.{error-first, error-then, none-both, none-left, none-right, or-regroup}

-- two that count together, and what follows
both-first : (a b c : Option PairError) (e : PairError) → IsErrorOf (or_else a b) e → IsErrorOf (or_else a (or_else b c)) e
both-first a b c e h = subst (λ o. IsErrorOf o e) (or-regroup a b c) (error-first (or_else a b) c e h)

both-then : (a b c : Option PairError) (e : PairError) → or_else a b ≡ None → IsErrorOf c e → IsErrorOf (or_else a (or_else b c)) e
both-then a b c e h k = error-then a (or_else b c) e (none-left a b h) (error-then b c e (none-right a b h) k)

both-none : (a b c : Option PairError) → or_else a b ≡ None → c ≡ None → or_else a (or_else b c) ≡ None
both-none a b c h k = none-both a (or_else b c) (none-left a b h) (none-both b c (none-right a b h) k)

module _ (old new : Program) (rs : List Rename) where
  module _ (e : PairError) where
    pub at-globals : IsErrorOf (global_refusal old new rs) e → IsErrorOf (refusal_of old new rs) e
    at-globals h = error-first (global_refusal old new rs) _ e h

  module _ (globals : global_refusal old new rs ≡ None) where
    pub at-structs : (e : PairError) → IsErrorOf (or_else (struct_refusal old new rs) (field_refusal old new rs)) e → IsErrorOf (refusal_of old new rs) e
    at-structs e h = error-then (global_refusal old new rs) _ e globals (both-first (struct_refusal old new rs) (field_refusal old new rs) _ e h)

    module _ (structs : or_else (struct_refusal old new rs) (field_refusal old new rs) ≡ None) where
      pub at-unions : (e : PairError) → IsErrorOf (or_else (union_refusal old new rs) (member_refusal old new rs)) e → IsErrorOf (refusal_of old new rs) e
      at-unions e h = error-then (global_refusal old new rs) _ e globals (both-then (struct_refusal old new rs) (field_refusal old new rs) _ e structs (both-first (union_refusal old new rs) (member_refusal old new rs) _ e h))

      module _ (unions : or_else (union_refusal old new rs) (member_refusal old new rs) ≡ None) where
        pub at-functions : (e : PairError) → IsErrorOf (function_refusal old new rs) e → IsErrorOf (refusal_of old new rs) e
        at-functions e h = error-then (global_refusal old new rs) _ e globals (both-then (struct_refusal old new rs) (field_refusal old new rs) _ e structs (both-then (union_refusal old new rs) (member_refusal old new rs) _ e unions (error-first (function_refusal old new rs) (site_refusal old new rs) e h)))

        pub at-sites : function_refusal old new rs ≡ None → (e : PairError) → IsErrorOf (site_refusal old new rs) e → IsErrorOf (refusal_of old new rs) e
        at-sites functions e h = error-then (global_refusal old new rs) _ e globals (both-then (struct_refusal old new rs) (field_refusal old new rs) _ e structs (both-then (union_refusal old new rs) (member_refusal old new rs) _ e unions (error-then (function_refusal old new rs) (site_refusal old new rs) e functions h)))

        pub at-none : function_refusal old new rs ≡ None → site_refusal old new rs ≡ None → refusal_of old new rs ≡ None
        at-none functions sites = none-both (global_refusal old new rs) _ globals (both-none (struct_refusal old new rs) (field_refusal old new rs) _ structs (both-none (union_refusal old new rs) (member_refusal old new rs) _ unions (none-both (function_refusal old new rs) (site_refusal old new rs) functions sites)))
