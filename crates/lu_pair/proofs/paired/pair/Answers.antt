use Rattle.std.proofs.Common.{◌≡◌, ◌∙◌, sym, ap, subst, None, Ok}
use Rattle.lu_image.specs.declared.pairing.Dangling.TheVariants.{Refuse}
use Rattle.lu_image.specs.Pairing.{pairing_of}
use Rattle.lu_image.specs.RenameRefusal.{refusal_of, unless_refused}
use Rattle.lu_pair.specs.Refusing.{IsErrorOf}
use Rattle.lu_pair.specs.Tags.{AreTablePairs}
use Rattle.lu_pair.proofs.Exits.{memory-pairs, error-pairs}
use Rattle.lu_pair.proofs.paired.pair.Goals as goal

pub returns-in_err-tables : goal.returns-in_err-tables
returns-in_err-tables c =
    let old = c.args.old.now in
    let new = c.args.new.now in
    let rs = c.args.renames.now in
    let e = c.in_err-tables.field-0.0 in
    let refused = subst (λ renames. IsErrorOf (refusal_of old new renames) e) c.as_slice.ensures.value c.in_err-tables.ensures.refused in
    error-pairs (refusal_of old new rs) (pairing_of old new rs) e _ c.from_residual.ensures.1 refused

pub returns-in_err-old_outline : goal.returns-in_err-old_outline
returns-in_err-old_outline c = memory-pairs _ _ c.from_residual-in_err-old_outline.ensures.1

pub returns-in_err-new_outline : goal.returns-in_err-new_outline
returns-in_err-new_outline c = memory-pairs _ _ c.from_residual-in_err-new_outline.ensures.1

pub returns : goal.returns
returns c =
    let old = c.args.old.now in
    let new = c.args.new.now in
    let rs = c.args.renames.now in
    let passed = subst (λ renames. refusal_of old new renames ≡ None) c.as_slice.ensures.value c.in_ok-tables.ensures.refused in
    let t = subst (λ renames. AreTablePairs old new renames c.in_ok-tables.tables) c.as_slice.ensures.value c.in_ok-tables.ensures.pairs in
    ap (λ o. unless_refused o (pairing_of old new rs)) passed
    ∙ sym (λ i. Ok record {
      globals = (c.from_vec.ensures ∙ t.globals) i;
      structs = (c.from_vec-2.ensures ∙ t.structs) i;
      fields = (c.from_vec-3.ensures ∙ t.fields) i;
      unions = (c.from_vec-4.ensures ∙ t.unions) i;
      members = (c.from_vec-5.ensures ∙ t.members) i;
      functions = (c.from_vec-6.ensures ∙ t.functions) i;
      sites = (c.from_vec-7.ensures ∙ t.sites) i;
      old = c.in_ok-old_outline.ensures i;
      new = c.in_ok-new_outline.ensures i;
      dangling = Refuse;
      handlers = (c.from_vec-8.ensures ∙ c.new.ensures.items) i;
      after = None;
    })
