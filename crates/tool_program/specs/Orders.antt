-- *Orders of turns*: `replay` takes the plan's words, passing over those whose actor may not go, and then goes round the
-- actors in their fixed order; in `run` each worker has actors of its own. An actor may go where it is ready and no lagging
-- replica holds it back. A loss between calls uses up no word, no place in a pass and no place in a rotation. (This project's rule.)
use Rattle.std.specs.Prelude.{◌≡◌, ◌<◌, ℕ, ◌+◌, ◌==◌, ◌%◌, min, Bool, true, false, ◌&&◌, not, if◌then◌else◌, List, [], ◌∷◌, ◌++◌, length, map, find, fold, zip, is_some, Option, Some, None}
use Rattle.std.specs.List.{flat_map, repeat, list_any}
use Rattle.base_script.specs.declared.actor.Actor.{Actor}
use Rattle.base_script.specs.declared.actor.Actor.TheVariants.{Op, Insp, Copy, Apply, Lock, Ren, Client}
use Rattle.base_script.specs.declared.script.ScriptLine.{ScriptLine}
use Rattle.server_model.specs.Along.{Along}
use Rattle.server_model.specs.declared.entry.Asked.{Asked}
use Rattle.server_model.specs.declared.entry.Asked.TheVariants.{Poll}
use Rattle.server_model.specs.declared.entry.Entry.{Entry}
use Rattle.server_model.specs.Entries.{same_actor, is_cut}
use Rattle.plan_data.specs.PlanData.{PlanData}
use Rattle.tool_program.specs.JournalWords.Journals.{IsFaithful, state_at}
use Rattle.tool_program.specs.JournalWords.KeptPlans.{KeepsPlan}
use Rattle.tool_program.specs.JournalWords.Sessions.{NumbersSessions}
use Rattle.tool_program.specs.Programs.{given, Follows}
use Rattle.tool_program.specs.Feeds.{is_held_back}

-- the clients from this number on
unfoldable pub clients_from : ℕ → List (List ScriptLine) → List Actor
clients_from client [] = []
clients_from client (script ∷ scripts) = Client client ∷ clients_from (client + 1) scripts

-- the actors in their fixed order: operator, inspector, copier, applier, locker, renamer, then the clients
unfoldable pub actors : PlanData → List Actor
actors plan = Op ∷ Insp ∷ Copy ∷ Apply ∷ Lock ∷ Ren ∷ clients_from 1 plan.clients

-- *Ready*: something is given to the actor
abbrev pub is_ready : PlanData → List Entry → Actor → Bool
is_ready plan journal actor = is_some (given plan journal actor)

abbrev pub is_poll : Option Asked → Bool
is_poll (Some Poll) = true
is_poll asked = false

abbrev pub is_ready_waiting : PlanData → List Entry → Actor → Bool
is_ready_waiting plan journal actor = is_poll (given plan journal actor)

-- WHAT THE REPLICA HOLDS

-- *May go*: something is given to the actor, and it isn't held back
abbrev pub may_go_at : PlanData → List Entry → ℕ → Actor → Bool
may_go_at plan journal held actor = is_ready plan journal actor && not (is_held_back plan journal held actor)

-- *A catch-up is due* where some actor is ready and every ready actor is held back
abbrev pub is_caught : PlanData → List Entry → ℕ → Bool
is_caught plan journal held = list_any (is_ready plan journal) (actors plan) && not (list_any (may_go_at plan journal held) (actors plan))

abbrev pub caught_up : PlanData → List Entry → ℕ → ℕ
caught_up plan journal held = if is_caught plan journal held then length (state_at plan journal).log else held

-- behind a turn: where its number is a multiple of the pause, so many events more, up to the log's end
abbrev pub risen : PlanData → List Entry → ℕ → ℕ
risen plan journal held = if length journal % plan.options.replica_pause == 0 then min (length (state_at plan journal).log) (held + plan.options.replica_step) else held

-- the turns so far, and what the replica holds behind them, before a catch-up
pub record Held : Type 0 where
  pub before : List Entry
  pub held : ℕ

abbrev pub held_after : PlanData → Held → Entry → Held
held_after plan now entry =
    record { before = now.before ++ entry ∷ []; held = risen plan (now.before ++ entry ∷ []) (caught_up plan now.before now.held) }

unfoldable pub held_behind : PlanData → List Entry → Held
held_behind plan journal = fold (held_after plan) (record { before = []; held = 0 }) journal

-- *What the replica holds* behind a journal, and behind the catch-up where one is due
unfoldable pub replica_length : PlanData → List Entry → ℕ
replica_length plan journal = caught_up plan journal (held_behind plan journal).held

-- *May go*, judged behind the catch-up
abbrev pub may_go : PlanData → List Entry → Actor → Bool
may_go plan journal actor = may_go_at plan journal (replica_length plan journal) actor

abbrev pub may_go_idle : PlanData → List Entry → Actor → Bool
may_go_idle plan journal actor = may_go plan journal actor && not (is_poll (given plan journal actor))

-- REPLAY

-- the words that are left of the plan's, and the actors that are left of a pass
pub record Queue : Type 0 where
  pub words : List Actor
  pub round : List Actor

-- the plan's words, each as often as it is there
unfoldable pub words_in : PlanData → List Actor
words_in plan = flat_map (λ run. repeat run.times (run.actor ∷ [])) plan.turns

-- an actor, and what is left after it
pub record Choice : Type 0 where
  pub actor : Actor
  pub queue : Queue

-- the first ready one of actors, with those after it
pub record Found : Type 0 where
  pub actor : Actor
  pub following : List Actor

unfoldable pub first_ready : (Actor → Bool) → List Actor → Option Found
first_ready ready [] = None
first_ready ready (actor ∷ others) = if ready actor then Some (record { actor = actor; following = others }) else first_ready ready others

-- from the next pass, once none is ready in this one
abbrev pub from_pass : Option Found → Option Choice
from_pass None = None
from_pass (Some found) = Some (record { actor = found.actor; queue = record { words = []; round = found.following } })

abbrev pub from_round : (Actor → Bool) → List Actor → Option Found → Option Choice
from_round ready all None = from_pass (first_ready ready all)
from_round ready all (Some found) = from_pass (Some found)

abbrev pub from_words : (Actor → Bool) → List Actor → Queue → Option Found → Option Choice
from_words ready all queue None = from_round ready all (first_ready ready queue.round)
from_words ready all queue (Some found) = Some (record { actor = found.actor; queue = record { words = found.following; round = queue.round } })

-- the next actor: that of the first word whose actor may go; else the first one of the pass that may, else of the next pass
unfoldable pub chosen : PlanData → List Entry → Queue → Option Choice
chosen plan before queue = from_words (may_go plan before) (actors plan) queue (first_ready (may_go plan before) queue.words)

-- the turns so far, and what is left after them
pub record Walk : Type 0 where
  pub before : List Entry
  pub queue : Queue

abbrev pub queue_left : Option Choice → Queue → Queue
queue_left None queue = queue
queue_left (Some choice) queue = choice.queue

abbrev pub queue_after : PlanData → Walk → Entry → Queue
queue_after plan walk entry = if is_cut entry.asked then walk.queue else queue_left (chosen plan walk.before walk.queue) walk.queue

abbrev pub walked : PlanData → Walk → Entry → Walk
walked plan walk entry = record { before = walk.before ++ entry ∷ []; queue = queue_after plan walk entry }

unfoldable pub queue_at : PlanData → List Entry → Queue
queue_at plan journal = (fold (walked plan) (record { before = []; queue = record { words = words_in plan; round = [] } }) journal).queue

abbrev pub actor_of : Option Choice → Option Actor
actor_of None = None
actor_of (Some choice) = Some choice.actor

-- *Next actor* of a replay
unfoldable pub next_actor : PlanData → List Entry → Option Actor
next_actor plan before = actor_of (chosen plan before (queue_at plan before))

abbrev pub IsNext : Bool → Option Actor → Actor → Type 0
IsNext true next actor = Unit {0}
IsNext false next actor = next ≡ Some actor

-- *Replay order*: each turn but a loss between calls is the next actor's.
unfoldable pub ReplayOrder : PlanData → List Entry → Type 0
ReplayOrder plan journal = Along (λ before entry. IsNext (is_cut entry.asked) (next_actor plan before) entry.actor) [] journal

-- *Replay*: a journal that is faithful, keeps the plan and follows the program, in replay order, and numbers its sessions one
-- by one.
pub record IsReplay (plan : PlanData) (journal : List Entry) : Type 0 where
  pub faithful : IsFaithful plan journal
  pub planned : KeepsPlan plan journal
  pub follows : Follows plan journal
  pub order : ReplayOrder plan journal
  pub numbered : NumbersSessions journal

-- RUN

-- a turn, and the worker that took it
pub record WorkerTurn : Type 0 where
  pub worker : ℕ
  pub actor : Actor

-- the actors of a worker: those whose place, from 0, leaves its number modulo the count of workers
unfoldable pub owned_from : ℕ → ℕ → ℕ → List Actor → List Actor
owned_from count worker place [] = []
owned_from count worker place (actor ∷ others) =
    if place % count == worker then actor ∷ owned_from count worker (place + 1) others else owned_from count worker (place + 1) others

abbrev pub owned : PlanData → ℕ → ℕ → List Actor
owned plan count worker = owned_from count worker 0 (actors plan)

abbrev pub is_among : Actor → List Actor → Bool
is_among actor others = list_any (same_actor actor) others

-- the actors after this one
unfoldable pub following : Actor → List Actor → List Actor
following actor [] = []
following actor (first ∷ others) = if same_actor first actor then others else following actor others

abbrev pub after_last : Option Actor → List Actor → List Actor
after_last None all = []
after_last (Some actor) all = following actor all

-- a turn with its entry
abbrev pub Paired : Type 0
Paired = WorkerTurn × Entry

-- the own actor that the worker took last; a loss between calls is no turn of a worker
abbrev pub taken_after : ℕ → List Actor → Option Actor → Paired → Option Actor
taken_after worker own old turn = if turn.0.worker == worker && not (is_cut turn.1.asked) && is_among turn.0.actor own then Some turn.0.actor else old

unfoldable pub last_taken : ℕ → List Actor → List Paired → Option Actor
last_taken worker own turns = fold (taken_after worker own) None turns

abbrev pub or_else : Option Actor → Option Actor → Option Actor
or_else None other = other
or_else (Some actor) other = Some actor

-- the first of these that is there: the worker's next actor in rotation that may go; the first actor of others that may and
-- doesn't wait; the first waiting actor of others, which no replica holds back
abbrev pub picked : PlanData → List Entry → List Actor → Option Actor → Option Actor
picked plan before own last =
    or_else (find (may_go plan before) (after_last last own ++ own))
    (or_else (find (λ actor. not (is_among actor own) && may_go_idle plan before actor) (actors plan))
    (find (λ actor. not (is_among actor own) && is_ready_waiting plan before actor) (actors plan)))

-- *A worker's actor* after these turns
unfoldable pub worker_actor : PlanData → ℕ → List Paired → ℕ → Option Actor
worker_actor plan count before worker = picked plan (map (λ turn. turn.1) before) (owned plan count worker) (last_taken worker (owned plan count worker) before)

pub record IsWorkersTurn (plan : PlanData) (count : ℕ) (before : List Paired) (turn : Paired) : Type 0 where
  pub below : turn.0.worker < count
  pub next : IsNext (is_cut turn.1.asked) (worker_actor plan count before turn.0.worker) turn.1.actor

-- *Run order*: the turns have the journal's actors, in order, and each is the one that its worker has by the rule.
pub record RunOrder (plan : PlanData) (journal : List Entry) (turns : List WorkerTurn) (count : ℕ) : Type 0 where
  pub actors : map (λ turn. turn.actor) turns ≡ map (λ entry. entry.actor) journal
  pub each : Along (IsWorkersTurn plan count) [] (zip turns journal)
