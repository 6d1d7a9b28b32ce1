-- Whole runs with an update, by computation.
use Rattle.std.proofs.Common.{◌≡◌, refl, ℕ, pos, negsuc, true, false, List, [], ◌∷◌, ◌++◌}
use Rattle.std.specs.Prelude.{codes}
use Rattle.src_tree.specs.declared.value.Value.TheBlock as V
use Rattle.src_tree.specs.declared.expr.ExprKind.TheBlock as E
use Rattle.src_tree.specs.declared.stmt.TypedStmt.TheBlock as S
use Rattle.lu_lines.specs.declared.note.Note.{Note}
use Rattle.lu_lines.specs.declared.note.Note.TheVariants as note
use Rattle.lu_lines.specs.declared.reason.Reason.{Reason}
use Rattle.lu_lines.specs.declared.reason.Reason.TheVariants as reason
use Rattle.sched_file.specs.declared.event.Event.{Event}
use Rattle.sched_file.specs.declared.event.Event.TheVariants as event
use Rattle.sys_world.specs.Setup.{SystemSetup}
use Rattle.sys_world.specs.Transcript.{run_notes}
use Rattle.sys_world.specs.Shortages.{shortages_of}
use Rattle.sys_world.proofs.Sample.{update, updated, sends, runs, arguments, adding, adding_wide, looping}

abbrev works : ℕ → Event
works units = event.Work 0 units

abbrev lo : SystemSetup
lo =
    updated (codes "lo") (update looping looping false)
    (sends 100 1 (pos 0) ∷ runs 3 ∷ event.Update 0 ∷ works 100 ∷ runs 8 ∷ works 100 ∷ [])

-- requested in the middle of a delivery, an update waits for its end
waits :
    run_notes lo []
    ≡ note.Boot (codes "lo")
    ∷ note.Waiting (codes "u")
    ∷ note.Reply (codes "lo") (pos 100) (pos 1) (arguments (pos 10))
    ∷ note.Held (codes "u")
    ∷ note.Walked (codes "u") 3
    ∷ note.Moved (codes "u") 3
    ∷ note.Committed (codes "u")
    ∷ note.End
    ∷ []
unfolding V.shape-the_row-Value-0 V.hidden-the_row-Value-0 V.shown-the_row-Value-0 V.shape-the_row-Value-1 V.hidden-the_row-Value-1 V.shown-the_row-Value-1 E.shape-the_row-TypedExpr-1 E.hidden-the_row-TypedExpr-1 E.shape-the_row-TypedPlace-0 E.hidden-the_row-TypedPlace-0 S.shape-the_row-TypedStmt-0 S.hidden-the_row-TypedStmt-0 S.shape-the_row-TypedStmt-1 S.hidden-the_row-TypedStmt-1 denote.Hole.Carrier.hidden Rattle.src_tree.specs.declared.value.Value.TheViews.out-Value denote.Hole.Carrier.out denote.Hole.Carrier.shown
waits = refl

abbrev narrow : SystemSetup
narrow =
    updated (codes "fs") (update adding_wide adding false)
    (sends 101 1 (pos 2147483647)
    ∷ sends 101 1 (pos 1)
    ∷ runs 100
    ∷ runs 100
    ∷ event.Update 0
    ∷ works 100
    ∷ sends 101 1 (pos 2)
    ∷ runs 100
    ∷ [])

-- an integer that the new type doesn't hold; the server goes on as before
refused :
    run_notes narrow []
    ≡ note.Boot (codes "fs")
    ∷ note.Reply (codes "fs") (pos 101) (pos 101) (arguments (pos 2147483647))
    ∷ note.Reply (codes "fs") (pos 101) (pos 101) (arguments (negsuc 2147483647))
    ∷ note.Waiting (codes "u")
    ∷ note.Held (codes "u")
    ∷ note.Walked (codes "u") 3
    ∷ note.Refused (codes "u") (reason.Narrow (codes "n") (pos 2147483648))
    ∷ note.Reply (codes "fs") (pos 101) (pos 101) (arguments (negsuc 2147483645))
    ∷ note.End
    ∷ []
unfolding V.shape-the_row-Value-0 V.hidden-the_row-Value-0 V.shown-the_row-Value-0 V.shape-the_row-Value-1 V.hidden-the_row-Value-1 V.shown-the_row-Value-1 E.shape-the_row-TypedExpr-1 E.hidden-the_row-TypedExpr-1 E.shape-the_row-TypedPlace-0 E.hidden-the_row-TypedPlace-0 S.shape-the_row-TypedStmt-0 S.hidden-the_row-TypedStmt-0 S.shape-the_row-TypedStmt-1 S.hidden-the_row-TypedStmt-1 denote.Hole.Carrier.hidden Rattle.src_tree.specs.declared.value.Value.TheViews.out-Value denote.Hole.Carrier.out denote.Hole.Carrier.shown
refused = refl

-- an update that is requested, works so many units and is aborted
abbrev aborted : ℕ → SystemSetup
aborted units =
    updated (codes "fs") (update adding adding_wide false)
    (sends 101 1 (pos 5)
    ∷ runs 100
    ∷ event.Update 0
    ∷ works units
    ∷ event.Abort 0
    ∷ sends 101 1 (pos 1)
    ∷ runs 100
    ∷ [])

abbrev told : List Note → List Note
told notes =
    note.Boot (codes "fs")
    ∷ note.Reply (codes "fs") (pos 101) (pos 101) (arguments (pos 5))
    ∷ note.Waiting (codes "u")
    ∷ note.Held (codes "u")
    ∷ (notes ++ note.Reply (codes "fs") (pos 101) (pos 101) (arguments (pos 6)) ∷ note.End ∷ [])

abbrev walked : Note
walked = note.Walked (codes "u") 3

abbrev moved : Note
moved = note.Moved (codes "u") 3

abbrev ended_by : Reason → Note
ended_by r = note.Refused (codes "u") r

aborts :
    (run_notes (aborted 2) [] ≡ told (ended_by (reason.Aborted 2) ∷ []))
    × (run_notes (aborted 3) [] ≡ told (walked ∷ ended_by (reason.Aborted 3) ∷ []))
    × (run_notes (aborted 6) [] ≡ told (walked ∷ moved ∷ ended_by (reason.Aborted 6) ∷ []))
    × (run_notes (aborted 7) [] ≡ told (walked ∷ moved ∷ note.Committed (codes "u") ∷ note.NotActive (codes "u") ∷ []))
unfolding V.shape-the_row-Value-0 V.hidden-the_row-Value-0 V.shown-the_row-Value-0 V.shape-the_row-Value-1 V.hidden-the_row-Value-1 V.shown-the_row-Value-1 E.shape-the_row-TypedExpr-1 E.hidden-the_row-TypedExpr-1 E.shape-the_row-TypedPlace-0 E.hidden-the_row-TypedPlace-0 S.shape-the_row-TypedStmt-0 S.hidden-the_row-TypedStmt-0 S.shape-the_row-TypedStmt-1 S.hidden-the_row-TypedStmt-1 denote.Hole.Carrier.hidden Rattle.src_tree.specs.declared.value.Value.TheViews.out-Value denote.Hole.Carrier.out denote.Hole.Carrier.shown
aborts = (refl, refl, refl, refl)

-- memory is refused in unit 4 of the first attempt, at the request, or in the unit that commits, which takes none
shortages :
    (run_notes (aborted 7) ((1, 4) ∷ []) ≡ told (walked ∷ ended_by (reason.NoMemory 4) ∷ note.NotActive (codes "u") ∷ []))
    × (run_notes (aborted 7) ((1, 7) ∷ []) ≡ run_notes (aborted 7) [])
unfolding V.shape-the_row-Value-0 V.hidden-the_row-Value-0 V.shown-the_row-Value-0 V.shape-the_row-Value-1 V.hidden-the_row-Value-1 V.shown-the_row-Value-1 E.shape-the_row-TypedExpr-1 E.hidden-the_row-TypedExpr-1 E.shape-the_row-TypedPlace-0 E.hidden-the_row-TypedPlace-0 S.shape-the_row-TypedStmt-0 S.hidden-the_row-TypedStmt-0 S.shape-the_row-TypedStmt-1 S.hidden-the_row-TypedStmt-1 denote.Hole.Carrier.hidden Rattle.src_tree.specs.declared.value.Value.TheViews.out-Value denote.Hole.Carrier.out denote.Hole.Carrier.shown
shortages = (refl, refl)

-- the shortages that a text tells
told_shortages :
    shortages_of (codes "update u waiting" ++ 10 ∷ (codes "update u refused NoMemory 4" ++ 10 ∷ codes "update u refused NoMemory 0" ++ 10 ∷ [])) ≡ (2, 0) ∷ (1, 4) ∷ []
told_shortages = refl

abbrev gated : SystemSetup
gated =
    updated (codes "fs") (update adding adding_wide true)
    (event.Update 0
    ∷ works 100
    ∷ event.Update 0
    ∷ event.Commit 0
    ∷ event.Update 0
    ∷ event.Commit 0
    ∷ [])

-- a gated update waits for its commit
gates :
    run_notes gated []
    ≡ note.Boot (codes "fs")
    ∷ note.Waiting (codes "u")
    ∷ note.Held (codes "u")
    ∷ walked
    ∷ moved
    ∷ note.Ready (codes "u")
    ∷ ended_by reason.Busy
    ∷ note.Committed (codes "u")
    ∷ ended_by (reason.Version 2)
    ∷ note.NotReady (codes "u")
    ∷ note.End
    ∷ []
unfolding V.shape-the_row-Value-0 V.hidden-the_row-Value-0 V.shown-the_row-Value-0 V.shape-the_row-Value-1 V.hidden-the_row-Value-1 V.shown-the_row-Value-1 E.shape-the_row-TypedExpr-1 E.hidden-the_row-TypedExpr-1 E.shape-the_row-TypedPlace-0 E.hidden-the_row-TypedPlace-0 S.shape-the_row-TypedStmt-0 S.hidden-the_row-TypedStmt-0 S.shape-the_row-TypedStmt-1 S.hidden-the_row-TypedStmt-1 denote.Hole.Carrier.hidden Rattle.src_tree.specs.declared.value.Value.TheViews.out-Value denote.Hole.Carrier.out denote.Hole.Carrier.shown
gates = refl
