-- Whole runs without an update, by computation.
use Rattle.std.proofs.Common.{◌≡◌, refl, pos, negsuc, [], ◌∷◌}
use Rattle.std.specs.Prelude.{codes}
use Rattle.lu_base.specs.declared.trap.Trap.TheVariants as X
use Rattle.src_tree.specs.declared.value.Value.TheBlock as V
use Rattle.src_tree.specs.declared.expr.ExprKind.TheBlock as E
use Rattle.src_tree.specs.declared.stmt.TypedStmt.TheBlock as S
use Rattle.src_tree.specs.declared.expr.BinaryOperator.TheVariants as B
use Rattle.src_tree.specs.declared.program.Program.{Program}
use Rattle.lu_lines.specs.declared.note.Note.TheVariants as note
use Rattle.sched_file.specs.declared.event.Event.TheVariants as event
use Rattle.sys_world.specs.Setup.{SystemSetup}
use Rattle.sys_world.specs.Transcript.{run_notes}
use Rattle.sys_world.proofs.Sample.{num, value, two, arg, kind, set, send_back, program, one_server, sends, runs, arguments, adding, looping}

abbrev fs : SystemSetup
fs =
    one_server (codes "fs") adding
    (sends 101 1 (pos 5) ∷ sends 101 1 (negsuc 6) ∷ sends 102 2 (pos 0) ∷ runs 1000000 ∷ runs 1000000 ∷ runs 1000000 ∷ [])

replies :
    run_notes fs []
    ≡ note.Boot (codes "fs")
    ∷ note.Reply (codes "fs") (pos 101) (pos 101) (arguments (pos 5))
    ∷ note.Reply (codes "fs") (pos 101) (pos 101) (arguments (negsuc 1))
    ∷ note.Reply (codes "fs") (pos 102) (pos 102) (arguments (negsuc 1))
    ∷ note.End
    ∷ []
unfolding V.shape-the_row-Value-0 V.hidden-the_row-Value-0 V.shown-the_row-Value-0 V.shape-the_row-Value-1 V.hidden-the_row-Value-1 V.shown-the_row-Value-1 E.shape-the_row-TypedExpr-1 E.hidden-the_row-TypedExpr-1 E.shape-the_row-TypedPlace-0 E.hidden-the_row-TypedPlace-0 S.shape-the_row-TypedStmt-0 S.hidden-the_row-TypedStmt-0 S.shape-the_row-TypedStmt-1 S.hidden-the_row-TypedStmt-1 denote.Hole.Carrier.hidden Rattle.src_tree.specs.declared.value.Value.TheViews.out-Value denote.Hole.Carrier.out denote.Hole.Carrier.shown
replies = refl

-- m_out.type = 1; m_out.arg[0] = 100 / m_in.arg[0]; send(m_in.source);
abbrev dividing : Program
dividing =
    program [] []
    (set (kind 1) (num (pos 1)) ∷ set (arg 1 0) (two B.Divide (num (pos 100)) (value (arg 0 0))) ∷ send_back ∷ [])

abbrev dz : SystemSetup
dz =
    one_server (codes "dz") dividing
    (sends 100 1 (pos 4)
    ∷ sends 101 1 (pos 0)
    ∷ sends 102 1 (pos 5)
    ∷ runs 1000000
    ∷ runs 1000000
    ∷ sends 103 1 (pos 1)
    ∷ event.Dump 0
    ∷ [])

-- a server dies, and answers what waits and what comes later
death :
    run_notes dz []
    ≡ note.Boot (codes "dz")
    ∷ note.Reply (codes "dz") (pos 100) (pos 1) (arguments (pos 25))
    ∷ note.Trap (codes "dz") X.DivZero
    ∷ note.Reply (codes "dz") (pos 102) (negsuc 0) (arguments (pos 0))
    ∷ note.Reply (codes "dz") (pos 103) (negsuc 0) (arguments (pos 0))
    ∷ note.DumpDead (codes "dz")
    ∷ note.End
    ∷ []
unfolding V.shape-the_row-Value-0 V.hidden-the_row-Value-0 V.shown-the_row-Value-0 V.shape-the_row-Value-1 V.hidden-the_row-Value-1 V.shown-the_row-Value-1 E.shape-the_row-TypedExpr-1 E.hidden-the_row-TypedExpr-1 E.shape-the_row-TypedPlace-0 E.hidden-the_row-TypedPlace-0 S.shape-the_row-TypedStmt-0 S.hidden-the_row-TypedStmt-0 S.shape-the_row-TypedStmt-1 S.hidden-the_row-TypedStmt-1 denote.Hole.Carrier.hidden Rattle.src_tree.specs.declared.value.Value.TheViews.out-Value denote.Hole.Carrier.out denote.Hole.Carrier.shown
death = refl

abbrev lo : SystemSetup
lo = one_server (codes "lo") looping (sends 100 1 (pos 0) ∷ runs 3 ∷ event.Dump 0 ∷ runs 7 ∷ event.Dump 0 ∷ runs 1 ∷ [])

-- 11 ticks: one at the entry and one behind each turn of the loop
pauses :
    run_notes lo []
    ≡ note.Boot (codes "lo")
    ∷ note.DumpBusy (codes "lo")
    ∷ note.DumpBusy (codes "lo")
    ∷ note.Reply (codes "lo") (pos 100) (pos 1) (arguments (pos 10))
    ∷ note.End
    ∷ []
unfolding V.shape-the_row-Value-0 V.hidden-the_row-Value-0 V.shown-the_row-Value-0 V.shape-the_row-Value-1 V.hidden-the_row-Value-1 V.shown-the_row-Value-1 E.shape-the_row-TypedExpr-1 E.hidden-the_row-TypedExpr-1 E.shape-the_row-TypedPlace-0 E.hidden-the_row-TypedPlace-0 S.shape-the_row-TypedStmt-0 S.hidden-the_row-TypedStmt-0 S.shape-the_row-TypedStmt-1 S.hidden-the_row-TypedStmt-1 denote.Hole.Carrier.hidden Rattle.src_tree.specs.declared.value.Value.TheViews.out-Value denote.Hole.Carrier.out denote.Hole.Carrier.shown
pauses = refl
