use Rattle.std.proofs.Common.{ap, sym, subst, length, arith}
use Rattle.c_types.specs.declared.duplicates.Entry as Declared
use Rattle.c_types.specs.declared.parts.Ty.{Ty}
use Rattle.c_types.specs.Refusal.{Clashes, type_entry}
use Rattle.c_types.specs.Entries.{entry_of}
use Rattle.c_types.proofs.Repeats.{type-apart}
use Rattle.c_types.proofs.duplicates.first_rival.Goals as goal

abbrev IsNoType : Declared.Entry → Type 0
IsNoType e = (t : Ty) → Clashes (type_entry t) (entry_of e) → ⊥

pub returns-in-Tag : goal.returns-in-Tag
returns-in-Tag c k h =
    type-apart c.args.parts.now k (entry_of c.args.here) (omega (arith, ap length c.as_slice.ensures)) (subst IsNoType (sym c.in-Tag.is) (λ t x. x))

pub returns-in-Signature : goal.returns-in-Signature
returns-in-Signature c k h =
    type-apart c.args.parts.now k (entry_of c.args.here) (omega (arith, ap length c.as_slice.ensures)) (subst IsNoType (sym c.in-Signature.is) (λ t x. x))
