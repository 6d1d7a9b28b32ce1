-- Room for frames.
use Rattle.std.specs.Prelude.{◌≡◌, ℕ, ◌+◌, ◌≤◌, List, length, All}
use Rattle.lu_base.specs.declared.limits.TheConstants.{FRAMES, STACK_HEIGHT}
use Rattle.bm_frame.specs.declared.frame.Frame.{Frame}

-- as many wait and are free as there may be, and each list has the capacity for all
pub record HasRoom (waiting free wait_capacity free_capacity : ℕ) : Type 0 where
  pub count : waiting + free + 1 ≡ FRAMES
  pub to_wait : FRAMES ≤ wait_capacity + 1
  pub to_be_free : FRAMES ≤ free_capacity + 1

-- each has room for one more word
abbrev pub AreShort : List Frame → Type 0
AreShort frames = All (λ f. length f.stack ≤ STACK_HEIGHT) frames
