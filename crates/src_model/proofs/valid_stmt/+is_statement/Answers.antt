use Rattle.std.proofs.Common.{rules, ◌≡◌, ◌∙◌, ap}
use Rattle.src_meaning.specs.ValidStatement as spec
use Rattle.src_model.specs.ValidSeen.{seen}
use Rattle.src_meaning.proofs.ValidRows.{statement-Block, statement-If, statement-While, statement-For}
use Rattle.src_model.proofs.valid_stmt.+is_statement.Goals as goal

pub is_statement-returns-then-room-gt1 : goal.is_statement-returns-then-room-gt1
is_statement-returns-then-room-gt1 t c = let e = ap (λ k. spec.is_statement (seen c.args.at.now) c.args.ret c.args.in_loop c.args.room k) c.in-Block.is ∙ statement-Block (seen c.args.at.now) c.args.ret c.args.in_loop c.args.room c.in-Block.body in search rules

pub is_statement-returns-then-are_optional : goal.is_statement-returns-then-are_optional
is_statement-returns-then-are_optional t c = let e = ap (λ k. spec.is_statement (seen c.args.at.now) c.args.ret c.args.in_loop c.args.room k) c.in-If.is ∙ statement-If (seen c.args.at.now) c.args.ret c.args.in_loop c.args.room c.in-If.e c.in-If.then c.in-If.otherwise in search rules

pub is_statement-returns-else-are_optional : goal.is_statement-returns-else-are_optional
is_statement-returns-else-are_optional t c = let e = ap (λ k. spec.is_statement (seen c.args.at.now) c.args.ret c.args.in_loop c.args.room k) c.in-If.is ∙ statement-If (seen c.args.at.now) c.args.ret c.args.in_loop c.args.room c.in-If.e c.in-If.then c.in-If.otherwise in search rules

pub is_statement-returns-then-is_test-2 : goal.is_statement-returns-then-is_test-2
is_statement-returns-then-is_test-2 t c = let e = ap (λ k. spec.is_statement (seen c.args.at.now) c.args.ret c.args.in_loop c.args.room k) c.in-While.is ∙ statement-While (seen c.args.at.now) c.args.ret c.args.in_loop c.args.room c.in-While.e c.in-While.body in search rules

pub is_statement-returns-then-are_statements-2 : goal.is_statement-returns-then-are_statements-2
is_statement-returns-then-are_statements-2 t c = let e = ap (λ k. spec.is_statement (seen c.args.at.now) c.args.ret c.args.in_loop c.args.room k) c.in-For.is ∙ statement-For (seen c.args.at.now) c.args.ret c.args.in_loop c.args.room c.in-For.first c.in-For.e c.in-For.step c.in-For.body in search rules

pub is_statement-returns-else-are_statements-2 : goal.is_statement-returns-else-are_statements-2
is_statement-returns-else-are_statements-2 t c = let e = ap (λ k. spec.is_statement (seen c.args.at.now) c.args.ret c.args.in_loop c.args.room k) c.in-For.is ∙ statement-For (seen c.args.at.now) c.args.ret c.args.in_loop c.args.room c.in-For.first c.in-For.e c.in-For.step c.in-For.body in search rules
