use Rattle.std.proofs.Common.{◌∙◌, sym, ap, subst, true, false, [], ◌∷◌, ◌++◌, ◌<◌}
use Rattle.std.specs.Prelude.{All}
use Rattle.std.proofs.lemmas.List.{append-nil}
use Rattle.std.proofs.lemmas.List.Elements.{All-push}
use Rattle.lu_scan.specs.Given.{versions}
use Rattle.lu_walk.specs.Rows.{is_root_row}
use Rattle.lu_walk.proofs.RowLemmas.{filter-range_more}
use Rattle.lu_walk.proofs.rows.roots.Goals as goal
use Rattle.lu_walk.proofs.rows.roots.Goals.{then-is_root+in_ok-push, else-is_root}

pub loop-number-preserved : goal.loop-number-preserved
loop-number-preserved c =
    let test = is_root_row (versions c.args.programs.now) c.args.rows.now in
    elim c.if-is_root.branch [
      | then-is_root+in_ok-push w ↦
          let more = filter-range_more test c.loop-number.number true (sym c.is_root.ensures ∙ w.if-is_root.true) in
          let items = ap (λ v. v.items) w.found-is ∙ w.in_ok-push.ensures.items in
          record {
            roots = items ∙ (ap (λ zs. zs ++ c.loop-number.number ∷ []) c.loop-number.invariant.roots ∙ sym more);
            inside = subst (All (λ k. k < c.args.count)) (sym items) (All-push (λ k. k < c.args.count) c.loop-number.found.items c.loop-number.number c.loop-number.invariant.inside c.loop-number-test.true);
          }
      | else-is_root w ↦
          let more = filter-range_more test c.loop-number.number false (sym c.is_root.ensures ∙ w.if-is_root.false) in
          let items = ap (λ v. v.items) w.found-is in
          record {
            roots = items ∙ (c.loop-number.invariant.roots ∙ sym (more ∙ append-nil _));
            inside = subst (All (λ k. k < c.args.count)) (sym items) c.loop-number.invariant.inside;
          }
    ]
