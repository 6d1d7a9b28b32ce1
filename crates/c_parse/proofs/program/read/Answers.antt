use Rattle.std.proofs.Common.{◌≡◌, ◌∙◌, sym, subst, suc, ◌+◌, length, arith}
use Rattle.c_ast.specs.Trees.{declaration}
use Rattle.c_parse_expr.proofs.Wholes.{not_empty}
use Rattle.c_parse.proofs.Programs.{SoFar, decl_falls, so_far_more, refuses}
use Rattle.c_parse.proofs.program.read.Goals as goal

pub decls-smaller : goal.decls-smaller
decls-smaller c = decl_falls c.decls.rest.now (declaration c.in-Ok.item) c.in-Ok.after.now c.in-Ok.ensures

pub decls-preserved : goal.decls-preserved
decls-preserved c =
    subst (λ l. SoFar c.args.tokens.now l c.in-Ok.after.now) (sym c.in_ok-push-in-Ok.ensures.ok) (so_far_more c.args.tokens.now c.decls.list c.decls.rest.now c.in-Ok.item c.in-Ok.after.now c.decls.invariant c.in-Ok.ensures)

pub returns-in-Err-clause-refused : goal.returns-in-Err-clause-refused
returns-in-Err-clause-refused c =
    let some = not_empty c.decls.rest.now (sym c.is_empty.ensures ∙ c.decls-test.true) in
    let number : c.len.result + 1 ≡ suc (length c.decls.list) = omega (arith, c.len.ensures) in
    rw c.located.ensures (refuses c.args.tokens.now c.decls.list c.decls.rest.now c.in-Err.error (c.len.result + 1) c.decls.invariant some number c.in-Err.ensures)
