-- What instructions do to a frame.
use Rattle.std.specs.Prelude.{ℕ, ◌+◌, nat_lt, if◌then◌else◌, List, [], ◌∷◌, length, Option, Some, None, Result, Ok, Err, slice_get, slice_set}
use Rattle.lu_spec.specs.Then.{then_do}
use Rattle.lu_base.specs.declared.trap.Trap.{Trap}
use Rattle.lu_base.specs.declared.trap.Trap.TheVariants.{BadCode}
use Rattle.bm_code.specs.declared.operation.Stacking.{Stacking}
use Rattle.bm_code.specs.declared.operation.Stacking.TheVariants.{Constant, GetLocal, SetLocal, Pop, Duplicate, Swap}
use Rattle.bm_code.specs.Process.{Frame}

abbrev pub some_or : {A B : Type 0} → Option A → B → (A → B) → B
some_or None other f = other
some_or (Some a) other f = f a

-- the topmost word, and the two topmost, the lower first; and the words below
abbrev pub on_top : {A : Type 0} → List ℕ → A → (ℕ → List ℕ → A) → A
on_top [] other f = other
on_top (a ∷ rest) other f = f a rest

abbrev pub on_two : {A : Type 0} → List ℕ → A → (ℕ → ℕ → List ℕ → A) → A
on_two [] other f = other
on_two (b ∷ []) other f = other
on_two (b ∷ a ∷ rest) other f = f a b rest

-- the frame at another place with another stack
abbrev pub moved : Frame → ℕ → List ℕ → Frame
moved f place stack = record { function = f.function; place = place; locals = f.locals; stack = stack }

-- at the next instruction
abbrev pub advanced : Frame → List ℕ → Frame
advanced f stack = moved f (f.place + 1) stack

abbrev pub bad : {A : Type 0} → Result A Trap
bad = Err BadCode

-- one more word, where the stack may have it
abbrev pub pushed : ℕ → Frame → ℕ → Result Frame Trap
pushed height f v = if nat_lt (length f.stack) height then Ok (advanced f (v ∷ f.stack)) else bad

abbrev pub with_local : Frame → ℕ → ℕ → List ℕ → Result Frame Trap
with_local f x v rest =
    if nat_lt x (length f.locals) then Ok (record { function = f.function; place = f.place + 1; locals = slice_set f.locals x v; stack = rest }) else bad

-- `height` is how many words the stack may have
abbrev pub stacked : Stacking → ℕ → Frame → Result Frame Trap
stacked (Constant k) height f = pushed height f k
stacked (GetLocal x) height f = some_or (slice_get f.locals x) bad (pushed height f)
stacked (SetLocal x) height f = on_top f.stack bad (with_local f x)
stacked Pop height f = on_top f.stack bad (λ a rest. Ok (advanced f rest))
stacked Duplicate height f = on_top f.stack bad (λ a rest. pushed height f a)
stacked Swap height f = on_two f.stack bad (λ a b rest. Ok (advanced f (a ∷ b ∷ rest)))

-- another word for the topmost
abbrev pub on_word : (ℕ → Result ℕ Trap) → Frame → Result Frame Trap
on_word operation f = on_top f.stack bad (λ a rest. then_do (operation a) (λ v. Ok (advanced f (v ∷ rest))))

-- one word for the two topmost
abbrev pub on_words : (ℕ → ℕ → Result ℕ Trap) → Frame → Result Frame Trap
on_words operation f = on_two f.stack bad (λ a b rest. then_do (operation a b) (λ v. Ok (advanced f (v ∷ rest))))
