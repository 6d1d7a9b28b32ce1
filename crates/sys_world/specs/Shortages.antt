-- Which attempts ended for want of memory, and in which unit, as the lines of a text say.
use Rattle.std.specs.Prelude.{ℕ, ◌+◌, ◌==◌, List, [], ◌∷◌, map, Option, Some, None, ◌&&◌, codes, if◌then◌else◌}
use Rattle.std.specs.List.{slice_split}
use Rattle.std.specs.Str.{bytes_eq}
use Rattle.std.specs.Str.Parse.{digits_value}
use Rattle.lu_lines.specs.Line.{Text}
use Rattle.lu_lines.specs.declared.note.Note.{Note}
use Rattle.lu_lines.specs.declared.note.Note.TheVariants as note
use Rattle.lu_lines.specs.declared.reason.Reason.{Reason}
use Rattle.lu_lines.specs.declared.reason.Reason.TheVariants as reason

-- a finite map from attempts, from 1, to units; the first entry of an attempt counts
abbrev pub Shortages : Type 0
Shortages = List (ℕ × ℕ)

abbrev pub unit_of : Shortages → ℕ → Option ℕ
unit_of [] attempt = None
unit_of (entry ∷ entries) attempt = if entry.0 == attempt then Some entry.1 else unit_of entries attempt

-- what lines tell: how many attempts there were, the last attempt of each update by its name, and the map
pub record Read : Type 0 where
  pub attempts : ℕ
  pub last : List (Text × ℕ)
  pub short : Shortages

abbrev pub nothing_read : Read
nothing_read = record { attempts = 0; last = []; short = [] }

-- the last attempt of an update; 0 where it has made none
abbrev pub last_of : List (Text × ℕ) → Text → ℕ
last_of [] name = 0
last_of (entry ∷ entries) name = if bytes_eq entry.0 name then entry.1 else last_of entries name

-- an attempt of that update begins
abbrev pub after_begin : Text → Read → Read
after_begin name r = record {
  attempts = r.attempts + 1;
  last = (name, r.attempts + 1) ∷ r.last;
  short = r.short;
}

-- the last attempt of that update ended in that unit
abbrev pub after_end : Text → ℕ → Read → Read
after_end name unit r = record {
  attempts = r.attempts;
  last = r.last;
  short = (last_of r.last name, unit) ∷ r.short;
}

-- `update U refused NoMemory K`; with K = 0 it begins the attempt too
abbrev pub after_refusal : Text → ℕ → Read → Read
after_refusal name unit r = after_end name unit (if unit == 0 then after_begin name r else r)

abbrev pub after_words : List Text → Read → Read
after_words (a ∷ name ∷ b ∷ []) r =
    if bytes_eq a (codes "update") && bytes_eq b (codes "waiting") then after_begin name r else r
after_words (a ∷ name ∷ b ∷ c ∷ k ∷ []) r =
    if bytes_eq a (codes "update") && (bytes_eq b (codes "refused") && bytes_eq c (codes "NoMemory")) then after_refusal name (digits_value 10 k) r else r
after_words _ r = r

abbrev pub after_lines : List (List Text) → Read → Read
after_lines [] r = r
after_lines (words ∷ lines) r = after_lines lines (after_words words r)

-- all but the last piece: a piece behind the last LF is no line
abbrev pub all_but_last : List Text → List Text
all_but_last [] = []
all_but_last (x ∷ []) = []
all_but_last (x ∷ y ∷ ys) = x ∷ all_but_last (y ∷ ys)

-- the whole lines of a text, each as its words
abbrev pub lines_of : Text → List (List Text)
lines_of text = map (slice_split (λ b. b == 32)) (all_but_last (slice_split (λ b. b == 10) text))

-- the map that a text tells
abbrev pub shortages_of : Text → Shortages
shortages_of text = (after_lines (lines_of text) nothing_read).short

-- what a note's line tells
abbrev pub after_reason : Text → Reason → Read → Read
after_reason name (reason.NoMemory k) r = after_refusal name k r
after_reason name _ r = r

abbrev pub after_note : Note → Read → Read
after_note (note.Waiting name) r = after_begin name r
after_note (note.Refused name why) r = after_reason name why r
after_note _ r = r

abbrev pub after_notes : List Note → Read → Read
after_notes [] r = r
after_notes (n ∷ ns) r = after_notes ns (after_note n r)
