-- What holds of the tool's record at any time, besides what its parts say: counts that have room, and a work that is at its
-- start until the setup is over; and how the turns in which its tasks failed become more. (This project's rule.)
use Rattle.std.specs.Prelude.{◌≡◌, ℕ, ◌+◌, ◌<◌, ◌≤◌, length, Option, Some, None}
use Rattle.plan_data.specs.PlanData.{PlanData}
use Rattle.tool_program.specs.ChunkCopier.CopierFacts as copiers
use Rattle.tool_program.specs.EventApplier.BatchPlans as appliers
use Rattle.tool_program.specs.Tools as program
use Rattle.tool_program.specs.declared.tool_setup.setup.Setup.{Setup}
use Rattle.tool_program.specs.declared.tool_setup.setup.Setup.TheVariants.{Reaching}
use Rattle.tool_program.specs.ToolSetup.Meanings.{range_reported}
use Rattle.server_model.specs.declared.answer.Answer.{Answer}
use Rattle.server_model.specs.declared.answer.KeyRange.{KeyRange}
use Rattle.tool_state.specs.ToolState.TryTurns.{TryTurns}
use Rattle.tool_state.specs.declared.tool_state.tool.Work.{Work}
use Rattle.tool_state.specs.declared.tool_state.tool.Tool.{Tool}
use Rattle.tool_state.specs.ToolState.Meanings.{work_of}

-- until the setup is over the machines are as at their start
abbrev pub IsFresh : PlanData → Option Setup → Work → Type 0
IsFresh plan None work = Unit {0}
IsFresh plan (Some setup) work = work_of work ≡ program.new_work plan plan.options.chunk_size 0 None

-- with counts of at most so much
pub record IsSoundAt (plan : PlanData) (most : ℕ) (tool : Tool) : Type 0 where
  pub copier : copiers.StepFits tool.work.copier.step
  pub applier : appliers.StepFits tool.work.applier.step
  pub number : tool.work.copier.number ≤ most
  pub attempts : tool.work.cutover.attempts ≤ most
  pub taken : tool.operator.taken ≤ most
  pub fresh : IsFresh plan tool.setup tool.work

-- *Sound*: no count is above the number of the next turn
abbrev pub IsSound : PlanData → Tool → Type 0
IsSound plan tool = IsSoundAt plan (tool.turns + 1) tool

-- there is room for one turn more, and for all of them as the reason's
pub record IsRoomy (room : ℕ) (tries : TryTurns) : Type 0 where
  pub own : length tries.turns < tries.room
  pub spent : length tries.turns < room

-- *Room*: one turn more can be taken
pub record HasRoom (tool : Tool) : Type 0 where
  pub setup : IsRoomy tool.spent.room tool.setup_tries
  pub chunk : IsRoomy tool.spent.room tool.work.chunk_tries
  pub batch : IsRoomy tool.spent.room tool.work.batch_tries
  pub attempt : IsRoomy tool.spent.room tool.work.attempt_tries

-- THE RANGE OF KEYS

-- where the setup asks for the range, this is a copy of the one that the answer has
abbrev pub IsRead : Option Setup → Option KeyRange → Answer → Type 0
IsRead (Some (Reaching position)) range answer = range ≡ range_reported answer
IsRead setup range answer = Unit {0}

-- THE TURNS IN WHICH TASKS FAILED

-- there is room for so many turns, and there are at most this many
pub record HasSpaceFor (limit count : ℕ) (tries : TryTurns) : Type 0 where
  pub room : limit ≤ tries.room
  pub few : length tries.turns ≤ count

-- *Space*: each task's tries have it, and the reason's have the room
pub record HasSpace (limit count : ℕ) (tool : Tool) : Type 0 where
  pub setup : HasSpaceFor limit count tool.setup_tries
  pub chunk : HasSpaceFor limit count tool.work.chunk_tries
  pub batch : HasSpaceFor limit count tool.work.batch_tries
  pub attempt : HasSpaceFor limit count tool.work.attempt_tries
  pub spent : limit ≤ tool.spent.room

-- one turn more, at most, in the same room
pub record Grows (before after : TryTurns) : Type 0 where
  pub room : after.room ≡ before.room
  pub turns : length after.turns ≤ length before.turns + 1

-- the attempts' tries do so, and the others stay what they are
pub record IsAttemptMore (before after : Tool) : Type 0 where
  pub setup : after.setup_tries ≡ before.setup_tries
  pub chunk : after.work.chunk_tries ≡ before.work.chunk_tries
  pub batch : after.work.batch_tries ≡ before.work.batch_tries
  pub attempt : Grows before.work.attempt_tries after.work.attempt_tries
  pub spent : after.spent.room ≡ before.spent.room

-- *Tries grow*: each task's do so, and the reason's keep their room
pub record TriesGrow (before after : Tool) : Type 0 where
  pub setup : Grows before.setup_tries after.setup_tries
  pub chunk : Grows before.work.chunk_tries after.work.chunk_tries
  pub batch : Grows before.work.batch_tries after.work.batch_tries
  pub attempt : Grows before.work.attempt_tries after.work.attempt_tries
  pub spent : after.spent.room ≡ before.spent.room
