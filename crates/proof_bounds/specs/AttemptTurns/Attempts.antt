-- How many turns the attempts to exchange the tables take: each of their calls goes on, and so an attempt takes few.
use Rattle.std.specs.Prelude.{◌≡◌, ◌≤◌, ℕ, true, false, List, [], ◌∷◌, ◌++◌, None}
use Rattle.base_script.specs.declared.actor.Actor.TheVariants.{Insp, Lock, Ren}
use Rattle.server_model.specs.declared.answer.Answer.{Answer}
use Rattle.server_model.specs.declared.answer.Answer.TheVariants as answers
use Rattle.server_model.specs.declared.entry.Entry.{Entry}
use Rattle.server_model.specs.Entries.{is_command, is_cut}
use Rattle.plan_data.specs.PlanData.{PlanData}
use Rattle.tool_program.specs.declared.cutover_core.cutover.Clearing.TheVariants.{Drops}
use Rattle.tool_program.specs.declared.cutover_core.cutover.Leftovers.{Leftovers}
use Rattle.tool_program.specs.declared.cutover_core.cutover.Phase.TheVariants.{Attempting, Ending}
use Rattle.tool_program.specs.declared.cutover_core.cutover.Drain.{Drain}
use Rattle.tool_program.specs.declared.cutover_core.cutover.Stage.TheVariants.{Locking, Hinting, ReadingCounter, SettingCounter, Drained, Showing, Dropping}
use Rattle.tool_program.specs.CutoverCore.CutOvers.{shows_wait}
use Rattle.tool_program.specs.JournalWords.Bounds.{measures}
use Rattle.tool_program.specs.Tools.{Work, Migrating, moment}
use Rattle.proof_journals.specs.Machine.Runnable.{IsRunnable}
use Rattle.proof_journals.specs.Plans.{IsSerialPlan}
use Rattle.proof_journals.specs.Run.Kept.{IsKept}
use Rattle.proof_bounds.specs.Laws.{MayWait}
use Rattle.proof_bounds.specs.Parts.{OfAttempts, turns_of_part}
use Rattle.proof_bounds.specs.Terms.{term_of}

-- the request is done or waits, or its wait or its session is over: it isn't refused
abbrev pub IsNotRefused : Answer → Type 0
IsNotRefused (answers.Ok count) = Unit {0}
IsNotRefused (answers.Waits by) = Unit {0}
IsNotRefused (answers.TimedOut waited) = Unit {0}
IsNotRefused answers.Lost = Unit {0}
IsNotRefused answer = ⊥

-- it is done
abbrev pub IsOk : Answer → Type 0
IsOk (answers.Ok count) = Unit {0}
IsOk answer = ⊥

-- it is a number: the one that comes next
abbrev pub IsAt : Answer → Type 0
IsAt (answers.At number) = Unit {0}
IsAt answer = ⊥

-- the listing shows the RENAME that waits
abbrev pub ShowsWait : Answer → Type 0
ShowsWait (answers.Waiting waiters) = shows_wait waiters ≡ true
ShowsWait answer = ⊥

-- LOCK TABLES, the RENAME's call, the sentry's DROP and the request that sets the counter aren't refused; and what else the inspector
-- asks in an attempt and at its end is done, where its session isn't lost
pub record AttemptGoes (work : Work) (entry : Entry) : Type 0 where
  pub locks : work.cutover.phase ≡ Attempting Locking → entry.actor ≡ Lock → IsNotRefused entry.answer
  pub hints : work.cutover.phase ≡ Attempting Hinting → entry.actor ≡ Insp → entry.side ≡ None → IsOk entry.answer
  pub reads : (drain : Drain) → work.cutover.phase ≡ Attempting (ReadingCounter drain) → entry.actor ≡ Insp → entry.side ≡ None → IsAt entry.answer
  pub sets : (number : ℕ) (drain : Drain) → work.cutover.phase ≡ Attempting (SettingCounter number drain) → entry.actor ≡ Insp → IsNotRefused entry.answer
  pub renames : work.cutover.phase ≡ Attempting Drained → entry.actor ≡ Ren → IsNotRefused entry.answer
  pub shows : work.cutover.phase ≡ Attempting Showing → entry.actor ≡ Insp → entry.side ≡ None → ShowsWait entry.answer
  pub drops : work.cutover.phase ≡ Attempting Dropping → entry.actor ≡ Lock → IsNotRefused entry.answer
  pub clears : (left : Leftovers) → work.cutover.phase ≡ Ending (Drops left) → entry.actor ≡ Insp → entry.side ≡ None → IsOk entry.answer

-- so does a turn that isn't a command, nor a loss between calls
abbrev pub TurnGoes : PlanData → List Entry → Entry → Type 0
TurnGoes plan before entry = (work : Work) → (moment plan before).tool.tool_phase ≡ Migrating work → is_command entry.asked ≡ false → is_cut entry.asked ≡ false → AttemptGoes work entry

-- a task may be tried once at least, and the numbers of attempts and of notes fit their rows
abbrev pub most_tries : ℕ
most_tries = 1000

abbrev pub most_notes : ℕ
most_notes = 1000

pub record MayTry (plan : PlanData) : Type 0 where
  pub some : 1 ≤ plan.options.default_retries
  pub few : plan.options.default_retries ≤ most_tries
  pub notes : plan.options.notes ≤ most_notes

-- *Attempts go on*: so does each turn of every journal that is kept
abbrev pub AttemptsGoOn : Type 0
AttemptsGoOn = (plan : PlanData) (before : List Entry) (entry : Entry) → MayTry plan → IsRunnable plan → IsSerialPlan plan → IsKept plan (before ++ entry ∷ []) → TurnGoes plan before entry

-- *The attempts' turns are few*: a journal that is kept has at most as many as each attempt that may be begun takes, with its waits
abbrev pub AttemptTurnsAreFew : Type 0
AttemptTurnsAreFew = (plan : PlanData) (journal : List Entry) → MayWait plan → MayTry plan → IsRunnable plan → IsSerialPlan plan → IsKept plan journal → turns_of_part OfAttempts plan journal ≤ term_of OfAttempts (measures plan)
