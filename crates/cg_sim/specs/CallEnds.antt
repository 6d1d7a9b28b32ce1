-- How a call on the machine ends as the source's call does.
use Rattle.std.specs.Prelude.{◌≡◌, ℕ, true, List, [], ◌∷◌, Option, Some, None, unwrap_or}
use Rattle.std.specs.Option.{option_map}
use Rattle.lu_base.specs.Sending.{Sent}
use Rattle.lu_base.specs.declared.world.World.{World}
use Rattle.src_tree.specs.declared.value.Value.{Value}
use Rattle.src_tree.specs.declared.value.Store.{Store}
use Rattle.src_tree.specs.declared.program.Program.{Program}
use Rattle.src_meaning.specs.Objects.{addresses}
use Rattle.src_meaning.specs.Store.{IsStore, has_type}
use Rattle.src_meaning.specs.Call.{Ending, Returned, Trapped, Starved}
use Rattle.bm_code.specs.declared.code.MachineCode.{MachineCode}
use Rattle.bm_code.specs.Process.{Activity}
use Rattle.bm_code.specs.Transfers.{Returns, idle}
use Rattle.bm_code.specs.Step.{step_instruction}
use Rattle.cg_state.specs.Represents.{value_word, process_of}
use Rattle.cg_state.specs.Runs.{Point, point, IsPlain, Leads, TrapsAs}

-- a value of each of these types
abbrev pub AreOfTypes : Program → Store → List ℕ → List Value → Type 0
AreOfTypes p s [] [] = Unit {0}
AreOfTypes p s (u ∷ us) (v ∷ vs) = (has_type p s u v ≡ true) × AreOfTypes p s us vs
AreOfTypes p s _ _ = ⊥

-- a value of the result's type, or none where there is no result
abbrev pub IsResult : Program → Store → Option ℕ → Option Value → Type 0
IsResult p s None None = Unit {0}
IsResult p s (Some u) (Some v) = has_type p s u v ≡ true
IsResult p s _ _ = ⊥

-- the word of a result; 0 where there is none
abbrev pub result_word : Program → Store → Option Value → ℕ
result_word p s v = unwrap_or (option_map (value_word (addresses p.types s)) v) 0

module _ (p : Program) (code : MachineCode) (world : World) where
  -- instructions lead from there to where the call returns the word, in the process of a store with these sends, with so
  -- many ticks left of those at the start
  pub record ReturnsAs (from : Point) (word : ℕ) (store : Store) (sends : List Sent) (ticks : ℕ) : Type 0 where
    pub activity : Activity
    pub leads : Leads p code world from (point store sends activity ticks)
    pub returns : step_instruction code world (process_of p store sends activity ticks) ≡ Returns word (idle None (process_of p store sends activity ticks))

  -- instructions lead from there to the end of the source's call with such a result: to its word, store, sends and ticks, or
  -- to its trap with its ticks; and they do come to an end
  abbrev pub EndsAs : Point → Option ℕ → Ending → Type 0
  EndsAs from ret (Returned v store sends ticks) =
      IsResult p store ret v × IsStore p store × ReturnsAs from (result_word p store v) store sends ticks
  EndsAs from ret (Trapped trap ticks) = IsPlain trap × TrapsAs p code world from trap ticks
  EndsAs from ret Starved = ⊥
