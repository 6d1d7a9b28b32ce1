use Rattle.std.proofs.Common.{rules, ◌≡◌, ◌∙◌, ◌++◌, ap}
use Rattle.src_meaning.specs.ValidNumbering as spec
use Rattle.src_meaning.proofs.ValidRows.{marks-Block, marks-If, marks-While, marks-For}
use Rattle.src_meaning.proofs.ValidMarks.{after-append}
use Rattle.src_model.proofs.valid_numbering.+after_statement.Goals as goal

pub after_statement-returns-in-Block : goal.after_statement-returns-in-Block
after_statement-returns-in-Block t c = let e = ap (λ k. spec.after_marks c.args.sites.now.all.now c.args.sites.now.function c.args.next (spec.marks k)) c.in-Block.is ∙ ap (spec.after_marks c.args.sites.now.all.now c.args.sites.now.function c.args.next) (marks-Block c.in-Block.body) in search rules

pub after_statement-returns-in-If : goal.after_statement-returns-in-If
after_statement-returns-in-If t c = let e = ap (λ k. spec.after_marks c.args.sites.now.all.now c.args.sites.now.function c.args.next (spec.marks k)) c.in-If.is ∙ ap (spec.after_marks c.args.sites.now.all.now c.args.sites.now.function c.args.next) (marks-If c.in-If.field-0 c.in-If.then c.in-If.otherwise) ∙ after-append c.args.sites.now.all.now c.args.sites.now.function (spec.marks c.in-If.then) c.args.next (spec.body_marks c.in-If.otherwise) in search rules

pub after_statement-returns-in-While : goal.after_statement-returns-in-While
after_statement-returns-in-While t c = let e = ap (λ k. spec.after_marks c.args.sites.now.all.now c.args.sites.now.function c.args.next (spec.marks k)) c.in-While.is ∙ ap (spec.after_marks c.args.sites.now.all.now c.args.sites.now.function c.args.next) (marks-While c.in-While.field-0 c.in-While.body) in search rules

pub after_statement-returns-in-For : goal.after_statement-returns-in-For
after_statement-returns-in-For t c = let e = ap (λ k. spec.after_marks c.args.sites.now.all.now c.args.sites.now.function c.args.next (spec.marks k)) c.in-For.is ∙ ap (spec.after_marks c.args.sites.now.all.now c.args.sites.now.function c.args.next) (marks-For c.in-For.first c.in-For.field-1 c.in-For.step c.in-For.body) ∙ after-append c.args.sites.now.all.now c.args.sites.now.function (spec.body_marks c.in-For.first) c.args.next (spec.body_marks c.in-For.step ++ spec.marks c.in-For.body) ∙ after-append c.args.sites.now.all.now c.args.sites.now.function (spec.body_marks c.in-For.step) (spec.after_marks c.args.sites.now.all.now c.args.sites.now.function c.args.next (spec.body_marks c.in-For.first)) (spec.marks c.in-For.body) in search rules
