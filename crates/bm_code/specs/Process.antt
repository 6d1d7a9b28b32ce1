-- What a process is made of.
use Rattle.std.specs.Prelude.{ℕ, List, Option}
use Rattle.lu_base.specs.declared.trap.Trap.{Trap}
use Rattle.lu_base.specs.Sending.{Sent}
use Rattle.bm_mem.specs.Content.{Content}
use Rattle.bm_objects.specs.declared.row.Row.{Row}

-- a function under way: the place of its next instruction, its locals, and its operand stack with the top first
pub record Frame : Type 0 where
  pub function : ℕ
  pub place : ℕ
  pub locals : List ℕ
  pub stack : List ℕ

-- No call runs, and the last one trapped or didn't; or a call has begun and has no frame yet; or it runs.
pub data Activity : Type 0 where
  Idle : (last : Option Trap) → Activity
  Starting : (function : ℕ) (args : List ℕ) → Activity
  Running : (frame : Frame) (callers : List Frame) → Activity

-- the bytes of each live object by its address, all objects in order, the address of the next one, what was sent
-- and to whom, and how many ticks the call may still use, which is 0 where none runs
pub record Process : Type 0 where
  pub content : Content
  pub rows : List Row
  pub next : ℕ
  pub outbox : List Sent
  pub activity : Activity
  pub spare : ℕ
