-- *Parts of a journal*: each turn is of one of seven parts: the operator's, the clients', the setup's, the chunks', the
-- batches', the attempts' to exchange the tables, and what is cleared up: losses between calls, what is rolled back, what is
-- asked again because a session was lost, and what is done after the RENAME. The rows of notes count there too. (This project's
-- rule.)
use Rattle.std.specs.Prelude.{ℕ, Bool, true, false, ◌||◌, is_some, not, if◌then◌else◌, List, [], ◌∷◌, count_by, Option}
use Rattle.base_script.specs.declared.actor.Actor.{Actor}
use Rattle.base_script.specs.declared.actor.Actor.TheVariants.{Op, Insp, Copy, Apply, Lock, Ren, Client}
use Rattle.base_script.specs.declared.actor.Side.{Side}
use Rattle.server_model.specs.Along.{gathered}
use Rattle.server_model.specs.declared.request.Request.TheVariants as requests
use Rattle.server_model.specs.declared.entry.Asked.{Asked}
use Rattle.server_model.specs.declared.entry.Asked.TheVariants.{Call, Poll, Command, Cut}
use Rattle.server_model.specs.declared.entry.Entry.{Entry}
use Rattle.plan_data.specs.PlanData.{PlanData}
use Rattle.tool_program.specs.JournalWords.Sessions.{live_session}
use Rattle.tool_program.specs.declared.cutover_core.cutover.Phase.{Phase}
use Rattle.tool_program.specs.declared.cutover_core.cutover.Phase.TheVariants.{Attempting, Ending}
use Rattle.tool_program.specs.Tools.{ToolPhase, SettingUp, Migrating, moment}

pub data Part : Type 0 where
  OfOperator : Part
  OfClients : Part
  OfSetup : Part
  OfChunks : Part
  OfBatches : Part
  OfAttempts : Part
  OfClearing : Part

-- what is asked begins nothing, but rolls back
abbrev pub rolls_back : Asked → Bool
rolls_back (Call requests.Rollback) = true
rolls_back asked = false

abbrev pub work_part : Part → Asked → Part
work_part part asked = if rolls_back asked then OfClearing else part

-- a look at the tables, or a drop, at an attempt's end: where the inspector's session was lost before it, or is lost in it, it
-- is cleared up for that loss
abbrev pub is_again : Option ℕ → Option Side → Bool
is_again live side = not (is_some live) || is_some side

abbrev pub ending_part : Option ℕ → Option Side → Asked → Part
ending_part live side Poll = OfAttempts
ending_part live side asked = if is_again live side then OfClearing else OfAttempts

-- the inspector's turn after the setup: while no attempt stands it writes rows of notes, and after the RENAME it clears up
abbrev pub phase_part : Option ℕ → Option Side → Asked → Phase → Part
phase_part live side asked (Attempting stage) = OfAttempts
phase_part live side asked (Ending clearing) = ending_part live side asked
phase_part live side asked phase = OfClearing

abbrev pub inspector_part : Option ℕ → Option Side → Asked → ToolPhase → Part
inspector_part live side asked (SettingUp setup tries) = OfSetup
inspector_part live side asked (Migrating work) = phase_part live side asked work.cutover.phase

-- the turn of an actor that is neither a command nor a loss between calls
abbrev pub actor_part : ToolPhase → Option ℕ → Option Side → Asked → Actor → Part
actor_part tool_phase live side asked Op = OfOperator
actor_part tool_phase live side asked (Client client) = OfClients
actor_part tool_phase live side asked Insp = inspector_part live side asked tool_phase
actor_part tool_phase live side asked Copy = work_part OfChunks asked
actor_part tool_phase live side asked Apply = work_part OfBatches asked
actor_part tool_phase live side asked Lock = OfAttempts
actor_part tool_phase live side asked Ren = OfAttempts

-- by the tool's course and the actor's live session before the turn, and by what is asked and lost in it
abbrev pub part_by : ToolPhase → Option ℕ → Option Side → Actor → Asked → Part
part_by tool_phase live side actor (Command word) = OfOperator
part_by tool_phase live side actor Cut = OfClearing
part_by tool_phase live side actor asked = actor_part tool_phase live side asked actor

-- *Part of a turn*
unfoldable pub part_of : PlanData → List Entry → Entry → Part
part_of plan before entry = part_by (moment plan before).tool.tool_phase (live_session before entry.actor) entry.side entry.actor entry.asked

abbrev pub one_part : PlanData → List Entry → Entry → List Part
one_part plan before entry = part_of plan before entry ∷ []

-- *Parts of a journal*, turn by turn
unfoldable pub parts : PlanData → List Entry → List Part
parts plan journal = gathered (one_part plan) [] journal

-- whether the part is this one
abbrev pub same_part : Part → Part → Bool
same_part OfOperator OfOperator = true
same_part OfClients OfClients = true
same_part OfSetup OfSetup = true
same_part OfChunks OfChunks = true
same_part OfBatches OfBatches = true
same_part OfAttempts OfAttempts = true
same_part OfClearing OfClearing = true
same_part one other = false

-- how many turns of a journal are of a part
abbrev pub turns_of_part : Part → PlanData → List Entry → ℕ
turns_of_part part plan journal = count_by (same_part part) (parts plan journal)
