-- The lines of the transcript.
use Rattle.std.specs.Prelude.{List, [], ◌∷◌, ◌++◌, ℕ, ℤ, Bool, pos, codes, map, ◌==◌, if◌then◌else◌}
use Rattle.std.specs.Fmt.{decimal, signed_decimal}
use Rattle.std.specs.Int.{to_be_bytes, w32}
use Rattle.std.specs.Ordering.{int_eq}
use Rattle.hex.specs.Hex.{encode_lower}
use Rattle.lu_base.specs.declared.trap.Trap.{Trap}
use Rattle.lu_base.specs.declared.trap.Trap.TheVariants as trap
use Rattle.lu_lines.specs.declared.note.Note.{Note}
use Rattle.lu_lines.specs.declared.note.Note.TheVariants as note
use Rattle.lu_lines.specs.declared.reason.Reason.{Reason}
use Rattle.lu_lines.specs.declared.reason.Reason.TheVariants.{Dead, Busy, Version, FilterTrap, NotQuiet, Aborted, HandlerTrap, NoMemory, Shape, HandledInUnion, ArrayCut, HeapLimit, Narrow, MemberGone, LostFunction, UnpairedSite, Dangling, LostTarget, NoPlace, Ambiguous}

abbrev pub Text : Type 0
Text = List ℕ

-- each word behind a space
abbrev pub spaced : List Text → Text
spaced [] = []
spaced (word ∷ words) = (32 ∷ word) ++ spaced words

-- the rest of a line behind its first word: each further word behind a space, and LF at the end
abbrev pub further_words : List Text → Text
further_words words = spaced words ++ 10 ∷ []

-- an element before those that are shown: a zero that nothing follows is left out
abbrev pub shown_before : {A : Type 0} → (A → Bool) → A → List A → List A
shown_before is_zero x [] = if is_zero x then [] else x ∷ []
shown_before is_zero x (y ∷ ys) = x ∷ y ∷ ys

-- a list without the zeros at its end
abbrev pub shown : {A : Type 0} → (A → Bool) → List A → List A
shown is_zero [] = []
shown is_zero (x ∷ xs) = shown_before is_zero x (shown is_zero xs)

abbrev pub shown_arguments : List ℤ → List ℤ
shown_arguments = shown (λ x. int_eq x (pos 0))

-- bytes in hexadecimal, up to the last that isn't zero; none are shown as `-`
abbrev pub digits_or_none : List ℕ → Text
digits_or_none [] = codes "-"
digits_or_none (b ∷ bs) = encode_lower (b ∷ bs)

abbrev pub bytes_text : List ℕ → Text
bytes_text bytes = digits_or_none (shown (λ b. b == 0) bytes)

-- an address has 8 hexadecimal digits
abbrev pub address_text : ℕ → Text
address_text address = encode_lower (to_be_bytes w32 address)

abbrev pub trap_text : Trap → Text
trap_text trap.DivZero = codes "DivZero"
trap_text trap.BadShift = codes "BadShift"
trap_text trap.BadIndex = codes "BadIndex"
trap_text trap.BadPointer = codes "BadPointer"
trap_text trap.PtrRange = codes "PtrRange"
trap_text trap.PtrOrder = codes "PtrOrder"
trap_text trap.UnionMember = codes "UnionMember"
trap_text trap.BadCall = codes "BadCall"
trap_text trap.BadFree = codes "BadFree"
trap_text trap.Depth = codes "Depth"
trap_text trap.Budget = codes "Budget"
trap_text (trap.Panic n) = codes "Panic " ++ signed_decimal n
trap_text trap.BadCode = codes "BadCode"

-- an object and an offset in it
abbrev pub target_text : Text → ℕ → Text
target_text object offset = object ++ 43 ∷ decimal offset

abbrev pub reason_words : Reason → List Text
reason_words (Dead t) = codes "Dead" ∷ trap_text t ∷ []
reason_words Busy = codes "Busy" ∷ []
reason_words (Version version) = codes "Version" ∷ decimal version ∷ []
reason_words (FilterTrap t) = codes "FilterTrap" ∷ trap_text t ∷ []
reason_words (NotQuiet deliveries) = codes "NotQuiet" ∷ decimal deliveries ∷ []
reason_words (Aborted units) = codes "Aborted" ∷ decimal units ∷ []
reason_words (HandlerTrap call t) = codes "HandlerTrap" ∷ decimal call ∷ trap_text t ∷ []
reason_words (NoMemory unit) = codes "NoMemory" ∷ decimal unit ∷ []
reason_words (Shape path) = codes "Shape" ∷ path ∷ []
reason_words (HandledInUnion path) = codes "HandledInUnion" ∷ path ∷ []
reason_words (ArrayCut path) = codes "ArrayCut" ∷ path ∷ []
reason_words (HeapLimit object) = codes "HeapLimit" ∷ object ∷ []
reason_words (Narrow path value) = codes "Narrow" ∷ path ∷ signed_decimal value ∷ []
reason_words (MemberGone path member) = codes "MemberGone" ∷ path ∷ member ∷ []
reason_words (LostFunction path function) = codes "LostFunction" ∷ path ∷ function ∷ []
reason_words (UnpairedSite path site) = codes "UnpairedSite" ∷ path ∷ site ∷ []
reason_words (Dangling path object offset) = codes "Dangling" ∷ path ∷ target_text object offset ∷ []
reason_words (LostTarget path object offset) = codes "LostTarget" ∷ path ∷ target_text object offset ∷ []
reason_words (NoPlace path object offset) = codes "NoPlace" ∷ path ∷ target_text object offset ∷ []
reason_words (Ambiguous path object offset) = codes "Ambiguous" ∷ path ∷ target_text object offset ∷ []

abbrev pub update_line : Text → List Text → Text
update_line update words = codes "update" ++ further_words (update ∷ words)

-- the bytes of a note's line
unfoldable pub line_bytes : Note → Text
line_bytes (note.Boot server) = codes "boot" ++ further_words (server ∷ [])
line_bytes (note.Reply server client kind arg) =
    codes "reply" ++ further_words (server ∷ signed_decimal client ∷ signed_decimal kind ∷ map signed_decimal (shown_arguments arg))
line_bytes (note.Trap server t) = codes "trap" ++ further_words (server ∷ trap_text t ∷ [])
line_bytes (note.Waiting update) = update_line update (codes "waiting" ∷ [])
line_bytes (note.Held update) = update_line update (codes "held" ∷ [])
line_bytes (note.Walked update objects) = update_line update (codes "walked" ∷ decimal objects ∷ [])
line_bytes (note.Moved update objects) = update_line update (codes "moved" ∷ decimal objects ∷ [])
line_bytes (note.Handled update calls) = update_line update (codes "handled" ∷ decimal calls ∷ [])
line_bytes (note.Ready update) = update_line update (codes "ready" ∷ [])
line_bytes (note.Committed update) = update_line update (codes "committed" ∷ [])
line_bytes (note.Refused update reason) = update_line update (codes "refused" ∷ reason_words reason)
line_bytes (note.NotReady update) = update_line update (codes "not" ∷ codes "ready" ∷ [])
line_bytes (note.NotActive update) = update_line update (codes "not" ∷ codes "active" ∷ [])
line_bytes (note.Dump server objects) = codes "dump" ++ further_words (server ∷ decimal objects ∷ [])
line_bytes (note.Object address name size bytes) =
    codes "object" ++ further_words (address_text address ∷ name ∷ decimal size ∷ bytes_text bytes ∷ [])
line_bytes (note.DumpBusy server) = codes "dump" ++ further_words (server ∷ codes "busy" ∷ [])
line_bytes (note.DumpDead server) = codes "dump" ++ further_words (server ∷ codes "dead" ∷ [])
line_bytes (note.WaitingAtEnd update) = update_line update (codes "waiting" ∷ codes "at" ∷ codes "end" ∷ [])
line_bytes (note.MovingAtEnd update) = update_line update (codes "moving" ∷ codes "at" ∷ codes "end" ∷ [])
line_bytes (note.ReadyAtEnd update) = update_line update (codes "ready" ∷ codes "at" ∷ codes "end" ∷ [])
line_bytes note.End = codes "end" ++ further_words []
