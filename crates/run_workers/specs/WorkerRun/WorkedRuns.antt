-- *Worked run*: a plan's turns, taken one by one by workers, each that of the actor that the rule gives its worker. (This
-- project's rule.)
use Rattle.std.specs.Prelude.{◌≡◌, ◌≤◌, ◌<◌, ℕ, Bool, true, false, List, [], ◌∷◌, ◌++◌, map, length, slice_index, Some, Result, Ok, Err}
use Rattle.std.specs.declared.alloc.AllocError.{AllocError}
use Rattle.std.specs.List.{zip}
use Rattle.std.proofs.Common.{ap, ◌∙◌, append_assoc}
use Rattle.std.proofs.lemmas.List.{map-append}
use Rattle.base_script.specs.declared.actor.Actor.{Actor}
use Rattle.server_model.specs.Along.{Along}
use Rattle.server_model.specs.declared.entry.Entry.{Entry}
use Rattle.server_model.specs.Entries.{is_cut}
use Rattle.plan_data.specs.PlanData.{PlanData}
use Rattle.tool_program.specs.JournalWords.Journals.{state_at}
use Rattle.tool_program.specs.JournalWords.Sessions.{NumbersSessions}
use Rattle.tool_program.specs.Orders.{owned, WorkerTurn, Paired, last_taken, worker_actor, IsNext}
use Rattle.proof_journals.specs.Run.Kept.{IsKept}
use Rattle.run_turns.specs.declared.due_turns.migration_run.turn.Turn.{Turn}
use Rattle.run_turns.specs.DueTurns.Due.{due, next_entry}
use Rattle.run_desk.specs.declared.shared_state.Entry.{Entry as Taken}
use Rattle.run_turns.specs.Runs.{RunView, is_over}
use Rattle.run_workers.specs.WorkerRun.Workers.{IsGoing, GoesOnFrom}

-- THE LIST OF TURNS

-- the turns of a list, with their workers
abbrev pub turn_of : Taken Entry → WorkerTurn
turn_of taken = record { worker = taken.worker; actor = taken.event.actor }

abbrev pub turns_of : List (Taken Entry) → List WorkerTurn
turns_of list = map turn_of list

-- the journal of a list
abbrev pub journal_of : List (Taken Entry) → List Entry
journal_of list = map (λ taken. taken.event) list

-- each turn beside its entry
abbrev pub paired_of : List (Taken Entry) → List Paired
paired_of list = map (λ taken. (turn_of taken, taken.event)) list

abbrev pub taken_of : Paired → Taken Entry
taken_of pair = record { worker = pair.0.worker; event = pair.1 }

-- the list of these turns beside this journal
abbrev pub listed : List WorkerTurn → List Entry → List (Taken Entry)
listed turns journal = map taken_of (zip turns journal)

-- RUNS BY WORKERS

-- *By the rule*: the run wasn't over before the turn, and the turn is that of its worker's actor, or a loss between calls.
pub record IsByRule (plan : PlanData) (count : ℕ) (before : List (Taken Entry)) (taken : Taken Entry) : Type 0 where
  pub going : is_over plan (journal_of before) ≡ false
  pub next : IsNext (is_cut taken.event.asked) (worker_actor plan count (paired_of before) taken.worker) taken.event.actor

-- *Run by workers*: the journal is faithful, keeps the plan, follows the program and keeps to its sessions, which are numbered
-- one by one, and each turn is by the rule.
pub record IsWorkersRun (plan : PlanData) (count : ℕ) (list : List (Taken Entry)) : Type 0 where
  pub kept : IsKept plan (journal_of list)
  pub rule : Along (IsByRule plan count) [] list
  pub numbered : NumbersSessions (journal_of list)

-- *Was over*: the run is over at some beginning of its journal
pub record WasOver (plan : PlanData) (journal : List Entry) : Type 0 where
  pub front : List Entry
  pub rest : List Entry
  pub is : journal ≡ front ++ rest
  pub over : is_over plan front ≡ true

-- What was over stays so. (Its proof stands here, since a shared state's law is proved beside its definition.)
pub stays_over : (plan : PlanData) (before after : List (Taken Entry)) → WasOver plan (journal_of before) → WasOver plan (journal_of (before ++ after))
stays_over plan before after was = record {
  front = was.front;
  rest = was.rest ++ journal_of after;
  is = map-append (λ (one : Taken Entry). one.event) before after ∙ ap (λ (journal : List Entry). journal ++ journal_of after) was.is ∙ append_assoc was.front was.rest (journal_of after);
  over = was.over;
}

-- a run that workers take turns of: its plan, how many workers there are, its turns, and whether there was no memory for one
pub record WorkedView : Type 0 where
  pub plan : PlanData
  pub workers : ℕ
  pub list : List (Taken Entry)
  pub is_short : Bool

-- *Takes one*: the turn that was due where the worker's actor was to take one was taken, with this entry
pub record TakesOne (before : WorkedView) (worker : ℕ) (after : WorkedView) : Type 0 where
  pub actor : Actor
  pub turn : Turn
  pub fed : before.is_short ≡ false
  pub chosen : worker_actor before.plan before.workers (paired_of before.list) worker ≡ Some actor
  pub is_due : due before.plan (journal_of before.list) actor ≡ Some turn
  pub taken : after ≡ record before { list = before.list ++ record { worker = worker; event = next_entry (journal_of before.list) (state_at before.plan (journal_of before.list)) turn } ∷ [] }

-- *Works*: what a turn of a worker answers, and what it leaves
abbrev pub Works : WorkedView → ℕ → Result Bool AllocError → WorkedView → Type 0
Works before worker (Ok true) after = TakesOne before worker after
Works before worker (Ok false) after = after ≡ before
Works before worker (Err error) after = after ≡ record before { is_short = true }

-- WHAT IS KEPT

-- What holds of a worked run's parts: its plan goes on; its turns and its journal are those of a run by workers; the server is
-- after them, unless there was no memory for a turn, and then the run isn't over; each worker has a place from which its
-- rotation goes on; and there is room for all turns that the plan allows.
pub record IsWorked (run : RunView) (workers : ℕ) (noted : List WorkerTurn) (used spare : ℕ) (places : List ℕ) (is_short : Bool) : Type 0 where
  pub going : IsGoing run.plan
  pub journal : journal_of (listed noted run.journal) ≡ run.journal
  pub turns : turns_of (listed noted run.journal) ≡ noted
  pub worked : IsWorkersRun run.plan workers (listed noted run.journal)
  pub server : is_short ≡ false → run.server ≡ state_at run.plan run.journal
  pub short : is_short ≡ true → is_over run.plan run.journal ≡ false
  pub some : 0 < workers
  pub count : length places ≡ workers
  pub rotation : (worker : ℕ) → GoesOnFrom run.plan workers worker (slice_index places worker) (last_taken worker (owned run.plan workers worker) (paired_of (listed noted run.journal)))
  pub many : used ≡ length run.journal
  pub room : run.plan.options.turn_limit ≤ spare
