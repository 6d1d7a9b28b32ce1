-- Lists of cells, and the values that they hold.
use Rattle.std.proofs.Common.{◌≡◌, refl, sym, ◌∙◌, ap, arith, ℕ, zero, suc, ◌<◌, ◌+◌, Bool, cond, not, nat_lt, ℤ, List, [], ◌∷◌, ◌++◌, map, length, take, get_or, Some, None}
use Rattle.std.specs.Prelude.{slice_get, slice_set, position}
use Rattle.std.specs.List.{position_or_len}
use Rattle.std.specs.Ordering.{int_eq}
use Rattle.std.proofs.lemmas.List.{length-map}
use Rattle.lu_base.specs.declared.message.Message.{Message}
use Rattle.lu_base.specs.declared.trap.Trap.{Trap}
use Rattle.lu_base.specs.Sending.{Sent}
use Rattle.lu_lines.specs.Line.{Text}
use Rattle.lu_lines.specs.declared.note.Note.{Note}
use Rattle.lu_lines.specs.declared.note.Note.TheVariants as note
use Rattle.sys_world.specs.World.{CellValue, change}
use Rattle.sys_world.specs.Mail.{Mail, at_cell, on_cell, place_of, answer, answer_of, answered_at, answer_all, put_by, put, post, post_all, tells, with_cell_at, with_sent, with_trap, send_mail, die_mail}
use Rattle.sys_mail.specs.Room.{CellRoom, cell_values}

-- one cell of a list changed
pub value-set : (f : CellValue → CellValue) (cells : List CellRoom) (place : ℕ) (d new : CellRoom) → place < length cells
    → new.value ≡ f (get_or cells place d).value → cell_values (slice_set cells place new) ≡ change f place (cell_values cells)
value-set f [] place d new within edit = refl
value-set f (x ∷ xs) zero d new within edit = ap (λ c. c ∷ cell_values xs) edit
value-set f (x ∷ xs) (suc place) d new within edit = ap (λ cs. x.value ∷ cs) (value-set f xs place d new (omega arith) edit)

-- the cell at a place
pub value-get : (cells : List CellRoom) (place : ℕ) (d : CellRoom) → place < length cells → slice_get (cell_values cells) place ≡ Some (get_or cells place d).value
value-get [] place d within = absurd (omega arith)
value-get (x ∷ xs) zero d within = refl
value-get (x ∷ xs) (suc place) d within = value-get xs place d (omega arith)

-- what is done at a known cell
pub at-known : (f : CellValue → Mail → Mail) (place : ℕ) (mail : Mail) (c : CellValue) → slice_get mail.cells place ≡ Some c → at_cell f place mail ≡ f c mail
at-known f place mail c e = ap (λ o. on_cell f o mail) e

first-map : {A B : Type 0} (p : B → Bool) (f : A → B) (xs : List A) → position_or_len p (map f xs) ≡ position_or_len (λ x. p (f x)) xs
first-map p f [] = refl
first-map p f (x ∷ xs) = ap (λ n. cond (not (p (f x))) (1 + n) 0) (first-map p f xs)

position-map : {A B : Type 0} (p : B → Bool) (f : A → B) (xs : List A) → position p (map f xs) ≡ position (λ x. p (f x)) xs
position-map p f xs =
    ap (λ n. cond (nat_lt n (length (map f xs))) (Some n) None) (first-map p f xs)
    ∙ ap (λ n. cond (nat_lt (position_or_len (λ x. p (f x)) xs) n) (Some (position_or_len (λ x. p (f x)) xs)) None) (length-map xs f)

pub place-of-values : (cells : List CellRoom) (number : ℤ) → position (λ (c : CellRoom). int_eq c.value.number number) cells ≡ place_of (cell_values cells) number
place-of-values cells number = sym (position-map (λ c. int_eq c.number number) (λ (c : CellRoom). c.value) cells)

-- a message that comes to a dead server
pub put-dead : (place : ℕ) (m : Message) (mail : Mail) (c : CellValue) (trap : Trap) (name : Text) (number : ℤ) → slice_get mail.cells place ≡ Some c → c.trap ≡ Some trap
    → name ≡ c.name → number ≡ c.number → answered_at name m.source (answer_of number) (place_of mail.cells m.source) mail ≡ put place m mail
put-dead place m mail c trap name number at dead named numbered =
    ap (λ name. answered_at name m.source (answer_of number) (place_of mail.cells m.source) mail) named
    ∙ (ap (λ number. answered_at c.name m.source (answer_of number) (place_of mail.cells m.source) mail) numbered
    ∙ sym (at-known (λ c mail. put_by place m c c.trap mail) place mail c at ∙ ap (λ t. put_by place m c t mail) dead))

-- one answer more
pub answer_all-more : (dead : CellValue) (ms : List Message) (m : Message) (mail : Mail) → answer_all dead (ms ++ m ∷ []) mail ≡ answer dead m.source (answer_all dead ms mail)
answer_all-more dead [] m mail = refl
answer_all-more dead (x ∷ ms) m mail = answer_all-more dead ms m (answer dead x.source mail)

-- one message more
pub post_all-more : (name : Text) (ss : List Sent) (s : Sent) (mail : Mail) → post_all name (ss ++ s ∷ []) mail ≡ post name s (post_all name ss mail)
post_all-more name [] s mail = refl
post_all-more name (x ∷ ss) s mail = post_all-more name ss s (post name x mail)

-- the answers of a dead server so far, and one more
pub answered-one : (dead : CellValue) (ms : List Message) (k : ℕ) (m : Message) (first now next : Mail) (name : Text) (number to : ℤ) → dead.name ≡ name → dead.number ≡ number
    → to ≡ m.source → take (k + 1) ms ≡ take k ms ++ m ∷ [] → now ≡ answer_all dead (take k ms) first
    → next ≡ answered_at name to (answer_of number) (place_of now.cells to) now → next ≡ answer_all dead (take (k + 1) ms) first
answered-one dead ms k m first now next name number to named numbered source more so_far e =
    e ∙ (ap (λ to. answered_at name to (answer_of number) (place_of now.cells to) now) source
    ∙ (ap (λ number. answered_at name m.source (answer_of number) (place_of now.cells m.source) now) (sym numbered)
    ∙ (ap (λ name. answered_at name m.source (answer_of dead.number) (place_of now.cells m.source) now) (sym named)
    ∙ (ap (answer dead m.source) so_far ∙ (sym (answer_all-more dead (take k ms) m first) ∙ ap (λ ms. answer_all dead ms first) (sym more))))))

-- what stands at a place of a list doesn't depend on what would stand behind its end
pub get-any : (cells : List CellRoom) (place : ℕ) (d e : CellRoom) → place < length cells → get_or cells place d ≡ get_or cells place e
get-any [] place d e within = absurd (omega arith)
get-any (x ∷ xs) zero d e within = refl
get-any (x ∷ xs) (suc place) d e within = get-any xs place d e (omega arith)

-- what goes out so far, and one message more
pub posted-one : (name : Text) (ss : List Sent) (k : ℕ) (s : Sent) (first now next : Mail) (to : ℤ) → to ≡ s.0 → take (k + 1) ss ≡ take k ss ++ s ∷ []
    → now ≡ post_all name (take k ss) first → next ≡ post name (to, s.1) now → next ≡ post_all name (take (k + 1) ss) first
posted-one name ss k s first now next to is more so_far e =
    e ∙ (ap (λ to. post name (to, s.1) now) is ∙ (ap (post name s) so_far ∙ (sym (post_all-more name (take k ss) s first) ∙ ap (λ ss. post_all name ss first) (sym more))))

-- what a server sends, its cell edited first
pub send-is : (place : ℕ) (sends : List Sent) (mail : Mail) (c : CellValue) (name : Text) (edited : List CellValue) → slice_get mail.cells place ≡ Some c → name ≡ c.name
    → edited ≡ change (with_sent sends) place mail.cells → post_all name sends (record { cells = edited; told = mail.told }) ≡ send_mail place sends mail
send-is place sends mail c name edited at named is =
    ap (λ cells. post_all name sends (record { cells = cells; told = mail.told })) is
    ∙ (ap (λ name. post_all name sends (with_cell_at (with_sent sends) place mail)) named
    ∙ sym (at-known (λ c mail. post_all c.name sends (with_cell_at (with_sent sends) place mail)) place mail c at))

-- what a death answers, its cell edited first
pub die-is : (place : ℕ) (trap : Trap) (mail : Mail) (c : CellValue) (edited : List CellValue) (waited : List Message) (told : List Note) → slice_get mail.cells place ≡ Some c
    → edited ≡ change (with_trap trap) place mail.cells → waited ≡ c.inbox → told ≡ mail.told ++ note.Trap c.name trap ∷ []
    → answer_all c waited (record { cells = edited; told = told }) ≡ die_mail place trap mail
die-is place trap mail c edited waited told at is all told_is =
    ap (λ cells. answer_all c waited (record { cells = cells; told = told })) is
    ∙ (ap (λ ms. answer_all c ms (record { cells = change (with_trap trap) place mail.cells; told = told })) all
    ∙ (ap (λ told. answer_all c c.inbox (record { cells = change (with_trap trap) place mail.cells; told = told })) told_is
    ∙ sym (at-known (λ c mail. answer_all c c.inbox (with_cell_at (with_trap trap) place (tells (note.Trap c.name trap) mail))) place mail c at)))
