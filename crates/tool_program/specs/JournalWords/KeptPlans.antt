-- *Keeping the plan*: clients take the lines of their scripts in order, sessions are lost exactly where the plan names a
-- loss, and the operator takes its commands in order. (This project's rule.)
use Rattle.std.specs.Prelude.{◌≡◌, ◌≢◌, ℕ, ◌+◌, ◌==◌, false, ◌&&◌, if◌then◌else◌, List, [], ◌∷◌, length, count_by, is_some, Option, Some, None}
use Rattle.std.specs.List.{slice_get, flat_map, repeat}
use Rattle.base_script.specs.declared.actor.Actor.{Actor}
use Rattle.base_script.specs.declared.actor.Actor.TheVariants.{Op, Client}
use Rattle.base_script.specs.declared.actor.Side.{Side}
use Rattle.base_script.specs.declared.loss.Loss.{Loss}
use Rattle.base_script.specs.declared.loss.Loss.TheVariants.{Nth, Turn}
use Rattle.base_script.specs.declared.operator.OperatorWord.{OperatorWord}
use Rattle.server_model.specs.Along.{Along}
use Rattle.server_model.specs.declared.entry.Asked.{Asked}
use Rattle.server_model.specs.declared.entry.Asked.TheVariants.{Command, Cut}
use Rattle.server_model.specs.declared.entry.Entry.{Entry}
use Rattle.server_model.specs.Entries.{same_actor, is_command}
use Rattle.plan_data.specs.PlanData.{PlanData}
use Rattle.tool_program.specs.JournalWords.Journals.{turns_of}
use Rattle.tool_program.specs.JournalWords.Sessions.{live_session}
use Rattle.tool_program.specs.JournalWords.Clients.{client_asks}

-- all commands in order, `wait N` as N commands
unfoldable pub words_of : PlanData → List OperatorWord
words_of plan = flat_map (λ command. repeat command.units (command.word ∷ [])) plan.operator

-- how many of them were taken
abbrev pub commands_taken : List Entry → ℕ
commands_taken journal = count_by (λ entry. is_command entry.asked) journal

-- the actor whose session this loss takes away in the turn of this number, where it has one
abbrev pub cut_by : List Entry → ℕ → Loss → Option Actor
cut_by before turn (Nth actor n side) = None
cut_by before turn (Turn number actor) = if number == turn && is_some (live_session before actor) then Some actor else None

abbrev pub or_first : {A : Type 0} → Option A → Option A → Option A
or_first None later = later
or_first (Some first) later = Some first

-- the first loss between calls that can be taken in the next turn
unfoldable pub cut_among : List Entry → List Loss → Option Actor
cut_among before [] = None
cut_among before (loss ∷ losses) = or_first (cut_by before (length before + 1) loss) (cut_among before losses)

abbrev pub cut_due : PlanData → List Entry → Option Actor
cut_due plan before = cut_among before plan.faults

-- where this loss strikes the actor's turn of this number; the operator has no session
abbrev pub struck_by : Actor → ℕ → Loss → Option Side
struck_by Op number loss = None
struck_by actor number (Turn turn other) = None
struck_by actor number (Nth other n side) = if same_actor other actor && (n == number) then Some side else None

-- the first loss that strikes it
unfoldable pub struck_among : Actor → ℕ → List Loss → Option Side
struck_among actor number [] = None
struck_among actor number (loss ∷ losses) = or_first (struck_by actor number loss) (struck_among actor number losses)

abbrev pub side_due : PlanData → List Entry → Actor → Option Side
side_due plan before actor = struck_among actor (turns_of actor before + 1) plan.faults

-- A turn is a loss between calls exactly where one is due. Else its session is lost in it exactly where a loss strikes
-- the actor's turn of that number.
abbrev pub IsStruck : PlanData → List Entry → Entry → Option Actor → Type 0
IsStruck plan before entry (Some actor) = (entry.actor ≡ actor) × (entry.asked ≡ Cut) × (entry.side ≡ None)
IsStruck plan before entry None = (entry.asked ≢ Cut) × (entry.side ≡ side_due plan before entry.actor)

-- what the plan has an actor ask: a client its line, the operator its next command
abbrev pub TakesNext : PlanData → List Entry → Actor → Asked → Type 0
TakesNext plan before actor Cut = Unit {0}
TakesNext plan before (Client client) asked = client_asks plan before client ≡ Some asked
TakesNext plan before Op asked = (word : OperatorWord) × (slice_get (words_of plan) (commands_taken before) ≡ Some word) × (asked ≡ Command word)
TakesNext plan before actor asked = is_command asked ≡ false

-- a turn that the plan allows
pub record IsPlanned (plan : PlanData) (before : List Entry) (entry : Entry) : Type 0 where
  pub next : TakesNext plan before entry.actor entry.asked
  pub struck : IsStruck plan before entry (cut_due plan before)

-- *Keeping the plan*: each turn is one that the plan allows. (That in a run which has ended each script was gone through,
-- or its client lost, is part of what it means to have ended.)
unfoldable pub KeepsPlan : PlanData → List Entry → Type 0
KeepsPlan plan journal = Along (IsPlanned plan) [] journal
