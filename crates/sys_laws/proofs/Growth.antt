-- Mail only adds messages to the inboxes of live servers.
use Rattle.std.proofs.Common.{◌≡◌, refl, ℕ, zero, suc, ℤ, List, [], ◌∷◌, Option, Some, None}
use Rattle.std.specs.Prelude.{slice_get}
use Rattle.lu_base.specs.declared.message.Message.{Message}
use Rattle.lu_base.specs.declared.trap.Trap.{Trap}
use Rattle.lu_base.specs.Sending.{Sent}
use Rattle.lu_lines.specs.Line.{Text}
use Rattle.sys_world.specs.World.{CellValue, change}
use Rattle.sys_world.specs.Mail.{Mail, with_arrival, on_cell, at_cell, place_of, answer_of, answered_by, answered_at, answer, answer_all, put_by, put, post_to, post, post_all}

-- a cell, and one that messages came to while its server lived
pub data Grows (o : Option CellValue) : Option CellValue → Type 0 where
  same : Grows o o
  more : (d : CellValue) (m : Message) → d.trap ≡ None → Grows o (Some d) → Grows o (Some (with_arrival m d))

abbrev pub CellsGrow : List CellValue → List CellValue → Type 0
CellsGrow xs ys = (j : ℕ) → Grows (slice_get xs j) (slice_get ys j)

grows-trans : {a b c : Option CellValue} → Grows a b → Grows b c → Grows a c
grows-trans g same = g
grows-trans g (more d m live h) = more d m live (grows-trans g h)

pub still-grows : (xs : List CellValue) → CellsGrow xs xs
still-grows xs = λ j. same

pub later-grows : (xs ys zs : List CellValue) → CellsGrow xs ys → CellsGrow ys zs → CellsGrow xs zs
later-grows xs ys zs g h = λ j. grows-trans (g j) (h j)

arrive-grows : (m : Message) (cells : List CellValue) (place : ℕ) (c : CellValue) → slice_get cells place ≡ Some c → c.trap ≡ None
    → (j : ℕ) → Grows (slice_get cells j) (slice_get (change (with_arrival m) place cells) j)
arrive-grows m [] place c e live j = same
arrive-grows m (x ∷ xs) zero c e live zero = more x m (cc) same
arrive-grows m (x ∷ xs) zero c e live (suc j) = same
arrive-grows m (x ∷ xs) (suc place) c e live zero = same
arrive-grows m (x ∷ xs) (suc place) c e live (suc j) = arrive-grows m xs place c e live j

at-grows : (f : CellValue → Mail → Mail) (place : ℕ) (mail : Mail) → ((c : CellValue) → slice_get mail.cells place ≡ Some c → CellsGrow mail.cells (f c mail).cells)
    → CellsGrow mail.cells (at_cell f place mail).cells
at-grows f place mail each = by_cell (slice_get mail.cells place) refl
  where
    by_cell : (o : Option CellValue) → slice_get mail.cells place ≡ o → CellsGrow mail.cells (on_cell f o mail).cells
    by_cell None e = still-grows mail.cells
    by_cell (Some c) e = each c e

answered_by-grows : (place : ℕ) (m : Message) (t : Option Trap) (mail : Mail) (c : CellValue) → slice_get mail.cells place ≡ Some c → c.trap ≡ t
    → CellsGrow mail.cells (answered_by place m t mail).cells
answered_by-grows place m None mail c e live = arrive-grows m mail.cells place c e live
answered_by-grows place m (Some trap) mail c e dead = still-grows mail.cells

answered_at-grows : (name : Text) (to : ℤ) (m : Message) (o : Option ℕ) (mail : Mail) → CellsGrow mail.cells (answered_at name to m o mail).cells
answered_at-grows name to m None mail = still-grows mail.cells
answered_at-grows name to m (Some place) mail =
    at-grows (λ c mail. answered_by place m c.trap mail) place mail (λ c e. answered_by-grows place m c.trap mail c e refl)

answer-grows : (dead : CellValue) (to : ℤ) (mail : Mail) → CellsGrow mail.cells (answer dead to mail).cells
answer-grows dead to mail = answered_at-grows dead.name to (answer_of dead.number) (place_of mail.cells to) mail

pub answer_all-grows : (dead : CellValue) (ms : List Message) (mail : Mail) → CellsGrow mail.cells (answer_all dead ms mail).cells
answer_all-grows dead [] mail = still-grows mail.cells
answer_all-grows dead (m ∷ ms) mail =
    let next = answer dead m.source mail in
    later-grows mail.cells next.cells (answer_all dead ms next).cells (answer-grows dead m.source mail) (answer_all-grows dead ms next)

put_by-grows : (place : ℕ) (m : Message) (c : CellValue) (t : Option Trap) (mail : Mail) → slice_get mail.cells place ≡ Some c → c.trap ≡ t
    → CellsGrow mail.cells (put_by place m c t mail).cells
put_by-grows place m c None mail e live = arrive-grows m mail.cells place c e live
put_by-grows place m c (Some trap) mail e dead = answer-grows c m.source mail

pub put-grows : (place : ℕ) (m : Message) (mail : Mail) → CellsGrow mail.cells (put place m mail).cells
put-grows place m mail = at-grows (λ c mail. put_by place m c c.trap mail) place mail (λ c e. put_by-grows place m c c.trap mail e refl)

post_to-grows : (name : Text) (s : Sent) (o : Option ℕ) (mail : Mail) → CellsGrow mail.cells (post_to name s o mail).cells
post_to-grows name s None mail = still-grows mail.cells
post_to-grows name s (Some place) mail = put-grows place s.1 mail

pub post_all-grows : (name : Text) (ss : List Sent) (mail : Mail) → CellsGrow mail.cells (post_all name ss mail).cells
post_all-grows name [] mail = still-grows mail.cells
post_all-grows name (s ∷ ss) mail =
    let next = post name s mail in
    later-grows mail.cells next.cells (post_all name ss next).cells (post_to-grows name s (place_of mail.cells s.0) mail) (post_all-grows name ss next)
