-- What stands in the journal of a revert's ground, and of the tries of the tasks that go on, behind every journal.
use Rattle.std.proofs.Common.{◌≡◌, ◌≢◌, ◌⊎◌, ℕ, ◌+◌, ◌-◌, ◌<◌, ◌≤◌, ◌==◌, Bool, true, false, cond, not, ◌&&◌, List, [], ◌∷◌, ◌++◌, length, take, Option, Some, None, refl, sym, ap, ◌∙◌, subst, inl, inr, arith}
use Rattle.std.proofs.lemmas.Bool.{false≢true}
use Rattle.std.proofs.Math.Seq.{take-append_seam, take-length}
use Rattle.std.proofs.lemmas.List.{length-append}
use Rattle.base_script.specs.declared.actor.Actor.{Actor}
use Rattle.base_script.specs.declared.actor.Actor.TheVariants.{Op, Insp, Copy, Apply, Lock, Ren, Client}
use Rattle.base_script.specs.declared.operator.OperatorWord.{OperatorWord}
use Rattle.base_script.specs.declared.operator.OperatorWord.TheVariants.{Throttle, NoThrottle, ChunkSize, Unpostpone, Panic, Wait}
use Rattle.server_model.specs.declared.answer.Answer.{Answer}
use Rattle.server_model.specs.declared.answer.Answer.TheVariants as answers
use Rattle.server_model.specs.declared.entry.Asked.{Asked}
use Rattle.server_model.specs.declared.entry.Asked.TheVariants.{Call, Poll, Command, Cut}
use Rattle.server_model.specs.declared.entry.Entry.{Entry}
use Rattle.server_model.specs.declared.outcome.Progress.{Progress}
use Rattle.server_model.specs.declared.outcome.Progress.TheVariants.{Going, TaskDone, TaskFailed, Unfit}
use Rattle.server_model.specs.declared.outcome.Task.{Task}
use Rattle.server_model.specs.declared.outcome.Task.TheVariants as tasks
use Rattle.server_model.specs.declared.request.Request.{Request}
use Rattle.server_model.specs.declared.request.Request.TheVariants as requests
use Rattle.server_model.specs.Entries.{is_client}
use Rattle.server_model.specs.PlainServer.{serves}
use Rattle.server_model.specs.States.{State, has_work}
use Rattle.plan_data.specs.PlanData.{PlanData}
use Rattle.tool_program.specs.JournalWords.Journals.{state_at, opens, may_lose}
use Rattle.tool_program.specs.ChunkCopier.Copiers as copiers
use Rattle.tool_program.specs.declared.chunk_copier.copier.Copier.{Copier}
use Rattle.tool_program.specs.declared.chunk_copier.copier.CopyStep.{CopyStep}
use Rattle.tool_program.specs.declared.chunk_copier.copier.CopyStep.TheVariants as copying
use Rattle.tool_program.specs.EventApplier.Appliers as appliers
use Rattle.tool_program.specs.declared.event_applier.applier.Applier.{Applier}
use Rattle.tool_program.specs.declared.event_applier.applier.ApplyStep.{ApplyStep}
use Rattle.tool_program.specs.declared.event_applier.applier.ApplyStep.TheVariants as applying
use Rattle.base_values.specs.declared.event.RowEvent.{RowEvent}
use Rattle.tool_changelog.specs.ToolTables.{sentry_schema}
use Rattle.tool_program.specs.CutoverCore.Attempts as attempts
use Rattle.tool_program.specs.CutoverCore.CutOvers as cutovers
use Rattle.tool_program.specs.CutoverCore.CutOvers.{is_bad, is_resting, drain_of}
use Rattle.tool_program.specs.declared.cutover_core.cutover.Phase.{Phase}
use Rattle.tool_program.specs.declared.cutover_core.cutover.Phase.TheVariants.{Resting, Attempting, Ending, Finishing, Finished}
use Rattle.tool_program.specs.declared.cutover_core.cutover.Stage.TheVariants.{Unlocking, Exchanging}
use Rattle.tool_program.specs.declared.cutover_core.cutover.CutOver.{CutOver}
use Rattle.tool_program.specs.declared.cutover_core.cutover.Role.{Role}
use Rattle.tool_program.specs.declared.cutover_core.cutover.Role.TheVariants.{Inspector, Locker, Renamer}
use Rattle.tool_program.specs.Failures.{turns_in as drain_turns, turns_of, is_actor_of, is_at, is_tried, drained_for, has_passed, IsBad, IsFailedTry, IsPanic, IsSpent, waited_for}
use Rattle.tool_program.specs.Programs.{given, may_begin, tool_call}
use Rattle.tool_program.specs.Operators.{commanded}
use Rattle.tool_program.specs.Setups.{Setup, Listing, Clearing, MakingLog, MakingGhost, Marking, Reaching, Ready, setup_after}
use Rattle.tool_program.specs.Tools.{Work, ToolPhase, SettingUp, Migrating, Reason, CopyUnfit, ApplyUnfit, Spent, Panicked, Tool, Moment, first_reason, stopped, is_renamed, reverts, spends, is_reverting, working, copy_after, copy_took, apply_after, apply_took, attempt_after, is_failure, cutover_took, drains, tool_phase_of, setup_took, actor_took, turn_counts, resizes, panics, command_took, asked_took, took, moment}
use Rattle.tool_program.specs.declared.cutover_core.cutover.Drain.TheVariants.{Turns}
use Rattle.tool_program.specs.declared.cutover_core.cutover.Stage.{Stage}
use Rattle.proof_journals.specs.Run.Laws.{Living}
use Rattle.proof_migration.proofs.ToolPhase.ToolPhaseTurns.{gives_asked}
use Rattle.proof_journals.specs.Machine.Machines.{ToolPhaseStands, WorkStands, PhaseHolds, held}
use Rattle.proof_journals.specs.Machine.Standings.{Standing, free, standing_of, answers_to, IsAbout, is_called}
use Rattle.proof_journals.proofs.Machine.Asking.{unless_called}
use Rattle.proof_journals.proofs.Machine.Journals.{IsRun, IsTogether, Asking, calls_so, polls_so, asking}
use Rattle.proof_journals.proofs.Machine.Seated.{IsServed, own_given, own_fits}
use Rattle.proof_journals.proofs.Sentry.Inductions.{moment_more}
use Rattle.server_model.proofs.LockedRows.Tests.{same_number, are_one}
use Rattle.proof_migration.specs.Attempt.Verdicts.{rests, IsFailedAttempt, IsSpentOn}
use Rattle.proof_migration.proofs.Attempt.Verdicts.Attempts.{took_fails, took_tried, IsRefusal, sentry_fails, TurnsLeft, IsLastDrain, drain_fails, took_left, ended_left, drained_left, DrainLeft}
use Rattle.proof_migration.proofs.Attempt.Verdicts.Tries.{TaskTries, AttemptTries, no_tries, panic_more, spent_more, attempts_spent_more, tries_more, attempts_more, tries_last, attempts_last, is_turn, spent_so, attempts_spent_so}
use Rattle.proof_migration.proofs.Attempt.Verdicts.Waits.{WaitsCount, turns_in, IsOverdue, wait_is_over}

-- WHAT HOLDS OF THE TOOL

-- the tries of a spent task stand in the journal; those of the cut-over where an attempt may be drained at all
pub record SpentHolds (plan : PlanData) (journal : List Entry) (task : Task) (turns : List ℕ) : Type 0 where
  pub others : task ≢ tasks.CutOver → IsSpent plan journal task turns
  pub attempts : task ≡ tasks.CutOver → 0 < plan.options.drain_limit → IsSpentOn plan journal turns

-- the ground of a revert stands in the journal
abbrev pub ReasonHolds : PlanData → List Entry → Option Reason → Type 0
ReasonHolds plan journal None = Unit {0}
ReasonHolds plan journal (Some (Panicked turn)) = IsPanic plan journal turn
ReasonHolds plan journal (Some (Spent task turns)) = SpentHolds plan journal task turns
ReasonHolds plan journal (Some (CopyUnfit turn place number)) = Unit {0}
ReasonHolds plan journal (Some (ApplyUnfit turn place number)) = Unit {0}

pub record WorkHolds (plan : PlanData) (journal : List Entry) (work : Work) : Type 0 where
  pub chunk : TaskTries plan journal (tasks.Chunk work.copier.number) work.chunk_tries
  pub batch : TaskTries plan journal (tasks.Batch work.applier.position) work.batch_tries
  pub attempts : 0 < plan.options.drain_limit → AttemptTries plan journal work.attempt_tries
  pub limit : work.cutover.drain_limit ≡ plan.options.drain_limit
  pub left : TurnsLeft plan.options.drain_limit work.cutover.phase

-- so do the tries of the task that stands
abbrev pub ToolPhaseHolds : PlanData → List Entry → ToolPhase → Type 0
ToolPhaseHolds plan journal (SettingUp setup tries) = TaskTries plan journal tasks.Setup tries
ToolPhaseHolds plan journal (Migrating work) = WorkHolds plan journal work

pub record ToolHolds (plan : PlanData) (journal : List Entry) (tool : Tool) : Type 0 where
  pub reason : ReasonHolds plan journal tool.reason
  pub tool_phase : ToolPhaseHolds plan journal tool.tool_phase
  pub turns : tool.turns ≡ length journal

-- WHAT A TASK'S ANSWER MEANS

-- only the commit of a chunk gives the copier another one
pub chunk_stays : (turn : ℕ) (copier : Copier) (answer : Answer) → (copiers.progress copier answer ≡ TaskDone → ⊥) → (copiers.took turn copier answer).number ≡ copier.number
unfolding copiers.took copiers.progress
chunk_stays turn copier answers.Lost going = refl
chunk_stays turn copier (answers.TimedOut waited) going = refl
chunk_stays turn copier answer going = by copier.step answer going where
  by : (step : CopyStep) (answer : Answer) → (copiers.progress_at step answer ≡ TaskDone → ⊥) → (copiers.after_answer turn copier step answer).number ≡ copier.number
  by copying.Choosing (answers.End end) going = refl
  by copying.Choosing answer going = refl
  by (copying.Spanning reported size) (answers.Keys keys end) going = refl
  by (copying.Spanning reported size) answer going = refl
  by (copying.Copying chunk done) (answers.Ok count) going = refl
  by (copying.Copying chunk done) answer going = refl
  by (copying.Committing chunk) (answers.Ok count) going = absurd (going refl)
  by (copying.Committing chunk) answer going = refl

-- only a loss and a time-out are a failed try
pub chunk_fails : (copier : Copier) (answer : Answer) → copiers.progress copier answer ≡ TaskFailed → is_bad answer ≡ true
unfolding copiers.progress
chunk_fails copier answer is = by copier.step answer is where
  by : (step : CopyStep) (answer : Answer) → copiers.progress_at step answer ≡ TaskFailed → is_bad answer ≡ true
  by step answers.Lost is = refl
  by step (answers.TimedOut waited) is = refl
  by copying.Choosing answer is = absurd cc
  by (copying.Spanning reported size) answer is = absurd cc
  by (copying.Copying chunk done) (answers.Refused number (Some place)) is = absurd cc
  by (copying.Copying chunk done) answer is = absurd cc
  by (copying.Committing chunk) (answers.Ok count) is = absurd cc
  by (copying.Committing chunk) answer is = absurd cc

-- only the end of a batch moves the applier's position
pub batch_stays : (turn : ℕ) (applier : Applier) (answer : Answer) → (appliers.progress applier answer ≡ TaskDone → ⊥) → (appliers.took turn applier answer).position ≡ applier.position
unfolding appliers.took appliers.progress
batch_stays turn applier answers.Lost going = refl
batch_stays turn applier (answers.TimedOut waited) going = refl
batch_stays turn applier answer going = by applier.step answer going where
  read : (events : List RowEvent) (following : ℕ) → (b : Bool) → (length (appliers.planned applier events) == 0) ≡ b → (appliers.nothing_planned (length (appliers.planned applier events)) ≡ TaskDone → ⊥)
      → (cond b (appliers.moved applier (appliers.batch_of turn applier events following)) (record applier { step = applying.Beginning (appliers.batch_of turn applier events following) })).position ≡ applier.position
  read events following true none going = absurd (going (ap (λ (b : Bool). cond b TaskDone Going) none))
  read events following false some going = refl

  by : (step : ApplyStep) (answer : Answer) → (appliers.progress_at applier step answer ≡ TaskDone → ⊥) → (appliers.after_answer turn applier step answer).position ≡ applier.position
  by applying.Reading (answers.Events events following) going = read events following (length (appliers.planned applier events) == 0) refl going
  by applying.Reading answer going = refl
  by (applying.Beginning batch) (answers.Ok count) going = refl
  by (applying.Beginning batch) answer going = refl
  by (applying.Applying batch done part) (answers.Ok count) going = refl
  by (applying.Applying batch done part) (answers.Refused number column) going = refl
  by (applying.Applying batch done part) answer going = refl
  by (applying.Committing batch) (answers.Ok count) going = absurd (going refl)
  by (applying.Committing batch) answer going = refl

pub batch_fails : (applier : Applier) (answer : Answer) → appliers.progress applier answer ≡ TaskFailed → is_bad answer ≡ true
unfolding appliers.progress
batch_fails applier answer is = by applier.step answer is where
  none : (statements : ℕ) → appliers.nothing_planned statements ≡ TaskFailed → ⊥
  none statements = at (statements == 0) where
    at : (b : Bool) → cond b TaskDone Going ≡ TaskFailed → ⊥
    at true same = cc
    at false same = cc

  by : (step : ApplyStep) (answer : Answer) → appliers.progress_at applier step answer ≡ TaskFailed → is_bad answer ≡ true
  by step answers.Lost is = refl
  by step (answers.TimedOut waited) is = refl
  by applying.Reading (answers.Events events following) is = absurd (none (length (appliers.planned applier events)) is)
  by applying.Reading answer is = absurd cc
  by (applying.Beginning batch) answer is = absurd cc
  by (applying.Applying batch done part) (answers.Refused number (Some place)) is = absurd cc
  by (applying.Applying batch done part) answer is = absurd cc
  by (applying.Committing batch) (answers.Ok count) is = absurd cc
  by (applying.Committing batch) answer is = absurd cc

-- ONE TURN MORE

first_holds : (plan : PlanData) (journal : List Entry) (old : Option Reason) (reason : Reason) → ReasonHolds plan journal old → ReasonHolds plan journal (Some reason) → ReasonHolds plan journal (first_reason old reason)
first_holds plan journal None reason was is = is
first_holds plan journal (Some first) reason was is = was

stopped_holds : (plan : PlanData) (journal : List Entry) (tool_phase : ToolPhase) → ToolPhaseHolds plan journal tool_phase → ToolPhaseHolds plan journal (stopped tool_phase)
unfolding cutovers.reverted
stopped_holds plan journal (SettingUp setup tries) holds = holds
stopped_holds plan journal (Migrating work) holds = record { chunk = holds.chunk; batch = holds.batch; attempts = holds.attempts; limit = holds.limit; left = ended_left plan.options.drain_limit work.cutover.phase }

reverts_hold : (plan : PlanData) (journal : List Entry) (reason : Reason) (tool : Tool) → ReasonHolds plan journal (Some reason) → ToolHolds plan journal tool → ToolHolds plan journal (reverts reason tool)
reverts_hold plan journal reason tool is holds = by (is_renamed tool.tool_phase) where
  by : (b : Bool) → ToolHolds plan journal (cond b tool (record tool { reason = first_reason tool.reason reason; tool_phase = stopped tool.tool_phase }))
  by true = holds
  by false = record { reason = first_holds plan journal tool.reason reason holds.reason is; tool_phase = stopped_holds plan journal tool.tool_phase holds.tool_phase; turns = holds.turns }

spends_hold : (plan : PlanData) (journal : List Entry) (task : Task) (tries : List ℕ) (tool : Tool) → (length tries ≡ plan.options.default_retries → SpentHolds plan journal task tries) → ToolHolds plan journal tool → ToolHolds plan journal (spends plan task tries tool)
spends_hold plan journal task tries tool stand holds = by (length tries == plan.options.default_retries) refl where
  by : (b : Bool) → (length tries == plan.options.default_retries) ≡ b → ToolHolds plan journal (cond b (reverts (Spent task tries) tool) tool)
  by true all = reverts_hold plan journal (Spent task tries) tool (stand (are_one (length tries) plan.options.default_retries all)) holds
  by false some = holds

spent_task : (plan : PlanData) (journal : List Entry) (task : Task) (tries : List ℕ) → task ≢ tasks.CutOver → TaskTries plan journal task tries → length tries ≡ plan.options.default_retries → SpentHolds plan journal task tries
spent_task plan journal task tries other stand all = record { others = λ same. spent_so plan journal task tries all stand; attempts = λ same. absurd (other same) }

attempt_holds : (plan : PlanData) (journal : List Entry) (fails : Bool) (work : Work) (cutover : CutOver) (tool : Tool) → ToolHolds plan journal tool → WorkHolds plan journal work → cutover.drain_limit ≡ plan.options.drain_limit → TurnsLeft plan.options.drain_limit cutover.phase
    → (fails ≡ true → 0 < plan.options.drain_limit → AttemptTries plan journal (work.attempt_tries ++ tool.turns ∷ [])) → ToolHolds plan journal (attempt_after plan fails work cutover tool)
attempt_holds plan journal true work cutover tool was holds limit left tried =
    spends_hold plan journal tasks.CutOver (work.attempt_tries ++ tool.turns ∷ []) (working (record work { cutover = cutover; attempt_tries = work.attempt_tries ++ tool.turns ∷ [] }) tool)
    (λ all. record { others = λ other. absurd (other refl); attempts = λ same some. attempts_spent_so plan journal (work.attempt_tries ++ tool.turns ∷ []) all (tried refl some) })
    (record { reason = was.reason; tool_phase = record { chunk = holds.chunk; batch = holds.batch; attempts = tried refl; limit = limit; left = left }; turns = was.turns })
attempt_holds plan journal false work cutover tool was holds limit left tried =
    record { reason = was.reason; tool_phase = record { chunk = holds.chunk; batch = holds.batch; attempts = holds.attempts; limit = limit; left = left }; turns = was.turns }

reason_more : (plan : PlanData) (journal : List Entry) (entry : Entry) (reason : Option Reason) → ReasonHolds plan journal reason → ReasonHolds plan (journal ++ entry ∷ []) reason
reason_more plan journal entry None is = tt
reason_more plan journal entry (Some (Panicked turn)) is = panic_more plan journal entry turn is
reason_more plan journal entry (Some (Spent task turns)) is = record { others = λ other. spent_more plan journal entry task turns (is.others other); attempts = λ same some. attempts_spent_more plan journal entry turns (is.attempts same some) }
reason_more plan journal entry (Some (CopyUnfit turn place number)) is = tt
reason_more plan journal entry (Some (ApplyUnfit turn place number)) is = tt

tool_phase_more : (plan : PlanData) (journal : List Entry) (entry : Entry) (tool_phase : ToolPhase) → ToolPhaseHolds plan journal tool_phase → ToolPhaseHolds plan (journal ++ entry ∷ []) tool_phase
tool_phase_more plan journal entry (SettingUp setup tries) is = tries_more plan journal entry tasks.Setup tries is
tool_phase_more plan journal entry (Migrating work) is = record {
  chunk = tries_more plan journal entry (tasks.Chunk work.copier.number) work.chunk_tries is.chunk;
  batch = tries_more plan journal entry (tasks.Batch work.applier.position) work.batch_tries is.batch;
  attempts = λ some. attempts_more plan journal entry work.attempt_tries (is.attempts some);
  limit = is.limit;
  left = is.left;
}

reverted_attempts : (cutover : CutOver) → (cutovers.reverted cutover).attempts ≡ cutover.attempts
unfolding cutovers.reverted
reverted_attempts cutover = refl

turned_attempts : (hint : ℕ) (cutover : CutOver) → (cutovers.applier_turn hint cutover).attempts ≡ cutover.attempts
unfolding cutovers.applier_turn
turned_attempts hint cutover = refl

turned_limit : (hint : ℕ) (cutover : CutOver) → (cutovers.applier_turn hint cutover).drain_limit ≡ cutover.drain_limit
unfolding cutovers.applier_turn
turned_limit hint cutover = refl

turned_left : {limit : ℕ} (hint : ℕ) (cutover : CutOver) → cutover.drain_limit ≡ limit → TurnsLeft limit cutover.phase → TurnsLeft limit (cutovers.applier_turn hint cutover).phase
unfolding cutovers.applier_turn
turned_left {limit} hint cutover same left = subst (λ (n : ℕ). TurnsLeft n (cutovers.drained cutover hint cutover.phase)) same (drained_left cutover hint (subst (λ (n : ℕ). TurnsLeft n cutover.phase) (sym same) left))

turn_fails : (hint : ℕ) (cutover : CutOver) → is_failure cutover.phase (cutovers.applier_turn hint cutover).phase ≡ true → IsLastDrain cutover hint
unfolding cutovers.applier_turn
turn_fails hint cutover fails = drain_fails cutover hint fails

-- an answer of the turn: what the entry has, and a loss of a session that had work
record Heard (state : State) (entry : Entry) (answer : Answer) : Type 0 where
  is : entry.answer ≡ answer
  work : entry.asked ≡ Cut → has_work state entry.session ≡ true

module _ (plan : PlanData) (journal : List Entry) (entry : Entry) (together : IsTogether plan journal) (run : IsRun plan journal entry) (counts : WaitsCount plan journal) (living : Living journal (state_at plan journal)) (was : ToolHolds plan journal (moment plan journal).tool) where
  abbrev now : Moment
  now = moment plan journal

  abbrev tool : Tool
  tool = record now.tool { turns = now.tool.turns + 1 }

  abbrev more : List Entry
  more = journal ++ entry ∷ []

  abbrev New : Tool → Type 0
  New = ToolHolds plan more

  turn_is : tool.turns ≡ length journal + 1
  turn_is = ap (λ (n : ℕ). n + 1) together.turns

  -- a loss and a time-out are what the definition of a failed try asks
  bad_so : is_client entry.actor ≡ false → (answer : Answer) → Heard now.server entry answer → is_bad answer ≡ true → IsBad plan more tool.turns entry now
  bad_so kind answers.Lost heard bad = inl (record { lost = heard.is; work = heard.work })
  bad_so kind (answers.TimedOut waited) heard bad =
      let over : IsOverdue plan journal entry.session waited = wait_is_over plan journal entry together run counts living kind waited heard.is in
      inr (record { over = heard.is ∙ ap answers.TimedOut over.over; polls = ap (λ (turns : List Entry). waited_for (plan.options.tool_wait - 1) (turns_in entry.session turns)) earlier ∙ over.polls }) where
        place : tool.turns - 1 ≡ length journal
        place = let same : tool.turns ≡ length journal + 1 = turn_is in omega (arith, same)

        earlier : take (tool.turns - 1) more ≡ journal
        earlier = ap (λ (n : ℕ). take n more) place ∙ take-append_seam journal (entry ∷ [])
  bad_so kind answer heard bad = absurd (false≢true bad)

  -- a failed try of the task that stands
  failed : (task : Task) → is_client entry.actor ≡ false → is_actor_of task entry.actor ≡ true → is_at task entry.actor now.tool.tool_phase ≡ true → (answer : Answer) → Heard now.server entry answer → is_bad answer ≡ true → IsFailedTry plan more task tool.turns
  failed task kind actor stands answer heard bad = record { entry = entry; before = now; is = is_turn plan journal entry tool.turns turn_is; at = stands; why = inl (actor, bad_so kind answer heard bad) }

  unchanged : New tool
  unchanged = record { reason = reason_more plan journal entry now.tool.reason was.reason; tool_phase = tool_phase_more plan journal entry now.tool.tool_phase was.tool_phase; turns = turn_is ∙ sym (length-append journal (entry ∷ [])) }

  work_was : (work : Work) → now.tool.tool_phase ≡ Migrating work → WorkHolds plan journal work
  work_was work same = subst (ToolPhaseHolds plan journal) same was.tool_phase

  work_now : (work : Work) → now.tool.tool_phase ≡ Migrating work → WorkHolds plan more work
  work_now work same = subst (ToolPhaseHolds plan more) same unchanged.tool_phase

  -- THE SETUP

  setup_holds : (answer : Answer) (setup : Setup) (tries : List ℕ) → now.tool.tool_phase ≡ SettingUp setup tries → entry.actor ≡ Insp → Heard now.server entry answer → New (setup_took plan setup tries answer tool)
  setup_holds answer setup tries same who heard = by (is_bad answer) refl where
    again : is_bad answer ≡ true → TaskTries plan more tasks.Setup (tries ++ tool.turns ∷ [])
    again bad =
        tries_last plan journal entry tasks.Setup tries tool.turns turn_is (subst (ToolPhaseHolds plan journal) same was.tool_phase)
        (failed tasks.Setup (ap is_client who) (ap (is_actor_of tasks.Setup) who) (ap (is_at tasks.Setup entry.actor) same) answer heard bad)

    goes : (setup : Setup) → ToolPhaseHolds plan more (tool_phase_of plan tool.operator.size setup tries)
    goes (Ready position range) =
        record { chunk = no_tries (IsFailedTry plan more (tasks.Chunk 1)) (length more); batch = no_tries (IsFailedTry plan more (tasks.Batch position)) (length more); attempts = λ some. no_tries (IsFailedAttempt plan more) (length more); limit = refl; left = tt }
    goes Listing = subst (ToolPhaseHolds plan more) same unchanged.tool_phase
    goes (Clearing left) = subst (ToolPhaseHolds plan more) same unchanged.tool_phase
    goes MakingLog = subst (ToolPhaseHolds plan more) same unchanged.tool_phase
    goes MakingGhost = subst (ToolPhaseHolds plan more) same unchanged.tool_phase
    goes Marking = subst (ToolPhaseHolds plan more) same unchanged.tool_phase
    goes (Reaching position) = subst (ToolPhaseHolds plan more) same unchanged.tool_phase

    by : (b : Bool) → is_bad answer ≡ b
        → New (cond b (spends plan tasks.Setup (tries ++ tool.turns ∷ []) (record tool { tool_phase = SettingUp Listing (tries ++ tool.turns ∷ []) })) (record tool { tool_phase = tool_phase_of plan tool.operator.size (setup_after plan.table setup answer) tries }))
    by true bad =
        spends_hold plan more tasks.Setup (tries ++ tool.turns ∷ []) (record tool { tool_phase = SettingUp Listing (tries ++ tool.turns ∷ []) }) (spent_task plan more tasks.Setup (tries ++ tool.turns ∷ []) (λ same. cc) (again bad)) (record { reason = unchanged.reason; tool_phase = again bad; turns = unchanged.turns })
    by false good = record { reason = unchanged.reason; tool_phase = goes (setup_after plan.table setup answer); turns = unchanged.turns }

  -- THE COPIER

  copy_holds : (answer : Answer) (work : Work) → now.tool.tool_phase ≡ Migrating work → entry.actor ≡ Copy → Heard now.server entry answer → New (copy_took plan answer work tool)
  copy_holds answer work same who heard = by (copiers.progress work.copier answer) refl where
    copier : Copier
    copier = copiers.took tool.turns work.copier answer

    number : (progress : Progress) → copiers.progress work.copier answer ≡ progress → (progress ≡ TaskDone → ⊥) → copier.number ≡ work.copier.number
    number progress reported going = chunk_stays tool.turns work.copier answer (λ done. going (sym reported ∙ done))

    fails : copiers.progress work.copier answer ≡ TaskFailed → copier.number ≡ work.copier.number → TaskTries plan more (tasks.Chunk copier.number) (work.chunk_tries ++ tool.turns ∷ [])
    fails reported stays =
        tries_last plan journal entry (tasks.Chunk copier.number) work.chunk_tries tool.turns turn_is
        (subst (λ (n : ℕ). TaskTries plan journal (tasks.Chunk n) work.chunk_tries) (sym stays) (work_was work same).chunk)
        (failed (tasks.Chunk copier.number) (ap is_client who) (ap (is_actor_of (tasks.Chunk copier.number)) who)
        (ap (is_at (tasks.Chunk copier.number) entry.actor) same ∙ ap (λ (n : ℕ). n == copier.number) (sym stays) ∙ same_number copier.number) answer heard (chunk_fails work.copier answer reported))

    by : (progress : Progress) → copiers.progress work.copier answer ≡ progress → New (copy_after plan work progress copier tool)
    by Going reported =
        record {
          reason = unchanged.reason;
          tool_phase = record { chunk = subst (λ (n : ℕ). TaskTries plan more (tasks.Chunk n) work.chunk_tries) (sym (number Going reported (λ same. cc))) (work_now work same).chunk; batch = (work_now work same).batch; attempts = (work_now work same).attempts; limit = (work_now work same).limit; left = (work_now work same).left };
          turns = unchanged.turns;
        }
    by TaskDone reported = record { reason = unchanged.reason; tool_phase = record { chunk = no_tries (IsFailedTry plan more (tasks.Chunk copier.number)) (length more); batch = (work_now work same).batch; attempts = (work_now work same).attempts; limit = (work_now work same).limit; left = (work_now work same).left }; turns = unchanged.turns }
    by TaskFailed reported =
        let tries : TaskTries plan more (tasks.Chunk copier.number) (work.chunk_tries ++ tool.turns ∷ []) = fails reported (number TaskFailed reported (λ same. cc)) in
        spends_hold plan more (tasks.Chunk copier.number) (work.chunk_tries ++ tool.turns ∷ []) (working (record work { copier = copier; chunk_tries = work.chunk_tries ++ tool.turns ∷ [] }) tool) (spent_task plan more (tasks.Chunk copier.number) (work.chunk_tries ++ tool.turns ∷ []) (λ same. cc) tries)
        (record { reason = unchanged.reason; tool_phase = record { chunk = tries; batch = (work_now work same).batch; attempts = (work_now work same).attempts; limit = (work_now work same).limit; left = (work_now work same).left }; turns = unchanged.turns })
    by (Unfit place unfit) reported = reverts_hold plan more (CopyUnfit tool.turns place unfit) tool tt unchanged

  -- THE APPLIER

  apply_holds : (answer : Answer) (work : Work) → now.tool.tool_phase ≡ Migrating work → entry.actor ≡ Apply → Heard now.server entry answer → New (apply_took plan answer work tool)
  apply_holds answer work same who heard = by (appliers.progress work.applier answer) refl where
    applier : Applier
    applier = appliers.took tool.turns work.applier answer

    position : (progress : Progress) → appliers.progress work.applier answer ≡ progress → (progress ≡ TaskDone → ⊥) → applier.position ≡ work.applier.position
    position progress reported going = batch_stays tool.turns work.applier answer (λ done. going (sym reported ∙ done))

    fails : appliers.progress work.applier answer ≡ TaskFailed → applier.position ≡ work.applier.position → TaskTries plan more (tasks.Batch applier.position) (work.batch_tries ++ tool.turns ∷ [])
    fails reported stays =
        tries_last plan journal entry (tasks.Batch applier.position) work.batch_tries tool.turns turn_is
        (subst (λ (n : ℕ). TaskTries plan journal (tasks.Batch n) work.batch_tries) (sym stays) (work_was work same).batch)
        (failed (tasks.Batch applier.position) (ap is_client who) (ap (is_actor_of (tasks.Batch applier.position)) who)
        (ap (is_at (tasks.Batch applier.position) entry.actor) same ∙ ap (λ (n : ℕ). n == applier.position) (sym stays) ∙ same_number applier.position) answer heard (batch_fails work.applier answer reported))

    by : (progress : Progress) → appliers.progress work.applier answer ≡ progress → New (apply_after plan work progress applier tool)
    by Going reported =
        record {
          reason = unchanged.reason;
          tool_phase = record { chunk = (work_now work same).chunk; batch = subst (λ (n : ℕ). TaskTries plan more (tasks.Batch n) work.batch_tries) (sym (position Going reported (λ same. cc))) (work_now work same).batch; attempts = (work_now work same).attempts; limit = (work_now work same).limit; left = (work_now work same).left };
          turns = unchanged.turns;
        }
    by TaskDone reported = record { reason = unchanged.reason; tool_phase = record { chunk = (work_now work same).chunk; batch = no_tries (IsFailedTry plan more (tasks.Batch applier.position)) (length more); attempts = (work_now work same).attempts; limit = (work_now work same).limit; left = (work_now work same).left }; turns = unchanged.turns }
    by TaskFailed reported =
        let tries : TaskTries plan more (tasks.Batch applier.position) (work.batch_tries ++ tool.turns ∷ []) = fails reported (position TaskFailed reported (λ same. cc)) in
        spends_hold plan more (tasks.Batch applier.position) (work.batch_tries ++ tool.turns ∷ []) (working (record work { applier = applier; batch_tries = work.batch_tries ++ tool.turns ∷ [] }) tool) (spent_task plan more (tasks.Batch applier.position) (work.batch_tries ++ tool.turns ∷ []) (λ same. cc) tries)
        (record { reason = unchanged.reason; tool_phase = record { chunk = (work_now work same).chunk; batch = tries; attempts = (work_now work same).attempts; limit = (work_now work same).limit; left = (work_now work same).left }; turns = unchanged.turns })
    by (Unfit place unfit) reported = reverts_hold plan more (ApplyUnfit tool.turns place unfit) tool tt unchanged

  -- EVERY ACTOR

  served : IsServed plan journal entry
  served = record { answered = run.answered; seated = record { session = run.followed.session } }

  lost_at : entry.asked ≡ Cut → entry.answer ≡ answers.Lost
  lost_at cut =
      sym (own_given plan journal entry together.known served (run.answered.sides (ap may_lose cut))) ∙ ap (λ (a : Asked). (serves (opens entry (state_at plan journal)) entry.session a).answer) cut

  -- at rest the locker asks for the sentry alone
  sentry_asked : (work : Work) → now.tool.tool_phase ≡ Migrating work → work.cutover.phase ≡ Resting → entry.actor ≡ Lock → (entry.asked ≡ Cut → ⊥) → IsAbout (requests.Create (sentry_schema work.cutover.table)) (standing_of plan journal entry.actor) entry.asked
  unfolding given attempts.next
  sentry_asked work same resting who uncut = by (asking plan journal Lock entry.asked together.server (subst (λ (a : Actor). given plan journal a ≡ Some entry.asked) who (gives_asked plan journal entry entry.asked run.followed.given refl uncut))) where
    stands : WorkStands journal (is_reverting now.tool.reason) (standing_of plan journal) work
    stands = subst (ToolPhaseStands journal (standing_of plan journal) (is_reverting now.tool.reason)) same together.stands

    free_locker : standing_of plan journal Lock ≡ free
    free_locker = stands.locker ∙ ap (held work.cutover.table) (subst (λ (p : Phase). PhaseHolds p work.cutover.hold) resting stands.phase)

    create : (b : Bool) (request : Request) → cond b None (Some (requests.Create (sentry_schema work.cutover.table))) ≡ Some request → request ≡ requests.Create (sentry_schema work.cutover.table)
    create true request is = absurd cc
    create false request is = cc

    by : Asking plan journal Lock entry.asked → IsAbout (requests.Create (sentry_schema work.cutover.table)) (standing_of plan journal entry.actor) entry.asked
    by (polls_so request asks some) = absurd (no (sym (ap (λ (s : Standing). s.waits) free_locker) ∙ some)) where
      no : None ≡ Some request → ⊥
      no same = cc
    by (calls_so request asks idle call) = is_called (asks ∙ ap Call (create work.cutover.is_stopped request (sym (ap (attempts.locker_call work.cutover) resting) ∙ next_is))) (ap (λ (a : Actor). (standing_of plan journal a).waits) who ∙ idle) where
      next_is : attempts.locker_call work.cutover work.cutover.phase ≡ Some request
      next_is =
          unless_called (is_resting work.cutover.phase && not (may_begin plan now.server now.tool work)) (attempts.next Locker work.cutover) request (ap (λ (c : ToolPhase). tool_call plan now.server journal now.tool c Lock) (sym same) ∙ call)

  sentry_answers : (work : Work) → now.tool.tool_phase ≡ Migrating work → work.cutover.phase ≡ Resting → entry.actor ≡ Lock → (answer : Answer) → Heard now.server entry answer → answers_to (requests.Create (sentry_schema work.cutover.table)) answer ≡ true
  sentry_answers work same resting who answer heard = by entry.asked refl where
    called : (entry.asked ≡ Cut → ⊥) → answers_to (requests.Create (sentry_schema work.cutover.table)) answer ≡ true
    called uncut =
        ap (answers_to (requests.Create (sentry_schema work.cutover.table))) (sym heard.is)
        ∙ own_fits plan journal entry together.known served (requests.Create (sentry_schema work.cutover.table)) (sentry_asked work same resting who uncut)

    no_call : (request : Request) → Call request ≡ Cut → ⊥
    no_call request same = cc

    no_poll : Poll ≡ Cut → ⊥
    no_poll same = cc

    no_command : (word : OperatorWord) → Command word ≡ Cut → ⊥
    no_command word same = cc

    by : (asked : Asked) → entry.asked ≡ asked → answers_to (requests.Create (sentry_schema work.cutover.table)) answer ≡ true
    by Cut asks = ap (answers_to (requests.Create (sentry_schema work.cutover.table))) (sym heard.is ∙ lost_at asks)
    by (Call request) asks = called (λ cut. no_call request (sym asks ∙ cut))
    by Poll asks = called (λ cut. no_poll (sym asks ∙ cut))
    by (Command word) asks = called (λ cut. no_command word (sym asks ∙ cut))

  -- who of the three took the turn
  record IsOf (role : Role) : Type 0 where
    kind : is_client entry.actor ≡ false
    of : is_actor_of tasks.CutOver entry.actor ≡ true
    locks : role ≡ Locker → entry.actor ≡ Lock

  attempt_failed : (answer : Answer) (role : Role) (work : Work) → now.tool.tool_phase ≡ Migrating work → IsOf role → Heard now.server entry answer → is_failure work.cutover.phase (cutovers.took role work.cutover answer).phase ≡ true → IsFailedAttempt plan more tool.turns
  attempt_failed answer role work same who heard fails = by (took_fails role work.cutover answer fails) where
    stood : is_at tasks.CutOver entry.actor now.tool.tool_phase ≡ true
    stood = ap (is_at tasks.CutOver entry.actor) same ∙ took_tried role entry.actor work.cutover answer who.locks fails

    refused : entry.actor ≡ Lock → work.cutover.phase ≡ Resting → (is_bad answer ≡ true) ⊎ IsRefusal answer → IsFailedAttempt plan more tool.turns
    refused lock resting (inl bad) = inl (failed tasks.CutOver who.kind who.of stood answer heard bad)
    refused lock resting (inr refusal) =
        inr (record {
          entry = entry;
          before = now;
          is = is_turn plan journal entry tool.turns turn_is;
          actor = lock;
          resting = ap rests same ∙ ap is_resting resting;
          number = refusal.number;
          column = refusal.column;
          refused = heard.is ∙ refusal.is;
        })

    by : (is_bad answer ≡ true) ⊎ ((role ≡ Locker) × (work.cutover.phase ≡ Resting) × (cutovers.is_ending (cutovers.begun answer) ≡ true)) → IsFailedAttempt plan more tool.turns
    by (inl bad) = inl (failed tasks.CutOver who.kind who.of stood answer heard bad)
    by (inr rest) = refused (who.locks rest.0) rest.1 (sentry_fails (sentry_schema work.cutover.table) answer (sentry_answers work same rest.1 (who.locks rest.0) answer heard) rest.2)

  took_limit : (role : Role) (cutover : CutOver) (answer : Answer) → (cutovers.took role cutover answer).drain_limit ≡ cutover.drain_limit
  unfolding cutovers.took
  took_limit Inspector cutover answer = refl
  took_limit Locker cutover answer = refl
  took_limit Renamer cutover answer = refl

  cut_holds : (answer : Answer) (role : Role) (work : Work) → now.tool.tool_phase ≡ Migrating work → IsOf role → Heard now.server entry answer → New (cutover_took plan role answer work tool)
  cut_holds answer role work same who heard =
      attempt_holds plan more (is_failure work.cutover.phase (cutovers.took role work.cutover answer).phase) work (cutovers.took role work.cutover answer) tool unchanged (work_now work same) (took_limit role work.cutover answer ∙ (work_now work same).limit)
      (took_left plan.options.drain_limit role work.cutover answer (work_now work same).left)
      (λ fails some. attempts_last plan journal entry work.attempt_tries tool.turns turn_is ((work_was work same).attempts some) (attempt_failed answer role work same who heard fails))

  -- in a revert the setup, the copier and the applier take nothing
  unless_reverting : (other : Tool) → New other → (b : Bool) → New (cond b tool other)
  unless_reverting other holds true = unchanged
  unless_reverting other holds false = holds

  actor_holds : (answer : Answer) (actor : Actor) (tool_phase : ToolPhase) → now.tool.tool_phase ≡ tool_phase → entry.actor ≡ actor → Heard now.server entry answer → New (actor_took plan actor answer tool_phase tool)
  actor_holds answer Insp (SettingUp setup tries) same who heard = unless_reverting (setup_took plan setup tries answer tool) (setup_holds answer setup tries same who heard) (is_reverting now.tool.reason)
  actor_holds answer Insp (Migrating work) same who heard = cut_holds answer Inspector work same (record { kind = ap is_client who; of = ap (is_actor_of tasks.CutOver) who; locks = λ role. absurd cc }) heard
  actor_holds answer Copy (Migrating work) same who heard = unless_reverting (copy_took plan answer work tool) (copy_holds answer work same who heard) (is_reverting now.tool.reason)
  actor_holds answer Apply (Migrating work) same who heard = unless_reverting (apply_took plan answer work tool) (apply_holds answer work same who heard) (is_reverting now.tool.reason)
  actor_holds answer Lock (Migrating work) same who heard = cut_holds answer Locker work same (record { kind = ap is_client who; of = ap (is_actor_of tasks.CutOver) who; locks = λ role. who }) heard
  actor_holds answer Ren (Migrating work) same who heard = cut_holds answer Renamer work same (record { kind = ap is_client who; of = ap (is_actor_of tasks.CutOver) who; locks = λ role. absurd cc }) heard
  actor_holds answer Op (Migrating work) same who heard = unchanged
  actor_holds answer (Client c) (Migrating work) same who heard = unchanged
  actor_holds answer Op (SettingUp setup tries) same who heard = unchanged
  actor_holds answer (Client c) (SettingUp setup tries) same who heard = unchanged
  actor_holds answer Copy (SettingUp setup tries) same who heard = unchanged
  actor_holds answer Apply (SettingUp setup tries) same who heard = unchanged
  actor_holds answer Lock (SettingUp setup tries) same who heard = unchanged
  actor_holds answer Ren (SettingUp setup tries) same who heard = unchanged

  heard_so : entry.asked ≢ Cut → Heard now.server entry entry.answer
  heard_so uncut = record { is = refl; work = λ cut. absurd (uncut cut) }

  -- THE DRAIN

  -- the course goes on with the attempt that stood before the turn
  record IsSameDrain (work : Work) : Type 0 where
    old : Work
    same : now.tool.tool_phase ≡ Migrating old
    phase : old.cutover.phase ≡ work.cutover.phase
    tries : old.attempt_tries ≡ work.attempt_tries

  abbrev FromBefore : ToolPhase → Type 0
  FromBefore (SettingUp setup tries) = Unit {0}
  FromBefore (Migrating work) = (stage : Stage) (turns : ℕ) → work.cutover.phase ≡ Attempting stage → drain_of stage ≡ Some (Turns turns) → IsSameDrain work

  stopped_from : (tool_phase : ToolPhase) → FromBefore (stopped tool_phase)
  unfolding cutovers.reverted
  stopped_from (SettingUp setup tries) = tt
  stopped_from (Migrating work) = λ stage turns at drain. absurd (by work.cutover.phase stage turns at drain) where
    none : (stage other : Stage) (turns : ℕ) → stage ≡ other → drain_of stage ≡ None → drain_of other ≡ Some (Turns turns) → ⊥
    none stage other turns same empty drain = let no : None ≡ Some (Turns turns) = sym empty ∙ ap drain_of same ∙ drain in cc

    by : (phase : Phase) (stage : Stage) (turns : ℕ) → cutovers.ended phase ≡ Attempting stage → drain_of stage ≡ Some (Turns turns) → ⊥
    by (Attempting Unlocking) stage turns at drain = let same : Unlocking ≡ stage = cc in none Unlocking stage turns same refl drain
    by (Attempting Exchanging) stage turns at drain = let same : Exchanging ≡ stage = cc in none Exchanging stage turns same refl drain
    by (Attempting other) stage turns at drain = cc
    by Resting stage turns at drain = cc
    by (Ending clearing) stage turns at drain = cc
    by (Finishing clearing) stage turns at drain = cc
    by Finished stage turns at drain = cc

  reverts_from : (reason : Reason) (other : Tool) → FromBefore other.tool_phase → FromBefore (reverts reason other).tool_phase
  reverts_from reason other from = by (is_renamed other.tool_phase) where
    by : (b : Bool) → FromBefore (cond b other (record other { reason = first_reason other.reason reason; tool_phase = stopped other.tool_phase })).tool_phase
    by true = from
    by false = stopped_from other.tool_phase

  spends_from : (task : Task) (tries : List ℕ) (other : Tool) → FromBefore other.tool_phase → FromBefore (spends plan task tries other).tool_phase
  spends_from task tries other from = by (length tries == plan.options.default_retries) where
    by : (b : Bool) → FromBefore (cond b (reverts (Spent task tries) other) other).tool_phase
    by true = reverts_from (Spent task tries) other from
    by false = from

  apply_from : (answer : Answer) (tool_phase : ToolPhase) → now.tool.tool_phase ≡ tool_phase → FromBefore (actor_took plan Apply answer tool_phase tool).tool_phase
  apply_from answer (SettingUp setup tries) same = subst FromBefore (sym same) tt
  apply_from answer (Migrating work) same = by (is_reverting now.tool.reason) where
    applier : Applier
    applier = appliers.took tool.turns work.applier answer

    here : FromBefore tool.tool_phase
    here = subst FromBefore (sym same) (λ stage turns at drain. record { old = work; same = same; phase = refl; tries = refl })

    reported : (progress : Progress) → FromBefore (apply_after plan work progress applier tool).tool_phase
    reported Going = λ stage turns at drain. record { old = work; same = same; phase = refl; tries = refl }
    reported TaskDone = λ stage turns at drain. record { old = work; same = same; phase = refl; tries = refl }
    reported TaskFailed =
        spends_from (tasks.Batch applier.position) (work.batch_tries ++ tool.turns ∷ []) (working (record work { applier = applier; batch_tries = work.batch_tries ++ tool.turns ∷ [] }) tool)
        (λ stage turns at drain. record { old = work; same = same; phase = refl; tries = refl })
    reported (Unfit place number) = reverts_from (ApplyUnfit tool.turns place number) tool here

    by : (b : Bool) → FromBefore (cond b tool (apply_took plan answer work tool)).tool_phase
    by true = here
    by false = reported (appliers.progress work.applier answer)

  passed_spends : (task : Task) (tries : List ℕ) (other : Tool) → has_passed (spends plan task tries other).tool_phase ≡ has_passed other.tool_phase
  passed_spends task tries other = by (length tries == plan.options.default_retries) where
    stops : (tool_phase : ToolPhase) → has_passed (stopped tool_phase) ≡ has_passed tool_phase
    stops (SettingUp setup tries) = refl
    stops (Migrating work) = stopped_attempts work where
      stopped_attempts : (work : Work) → (work.applier.hint == (cutovers.reverted work.cutover).attempts) ≡ (work.applier.hint == work.cutover.attempts)
      stopped_attempts work = ap (λ (n : ℕ). work.applier.hint == n) (reverted_attempts work.cutover)

    reverting : (b : Bool) → has_passed (cond b other (record other { reason = first_reason other.reason (Spent task tries); tool_phase = stopped other.tool_phase })).tool_phase ≡ has_passed other.tool_phase
    reverting true = refl
    reverting false = stops other.tool_phase

    by : (b : Bool) → has_passed (cond b (reverts (Spent task tries) other) other).tool_phase ≡ has_passed other.tool_phase
    by true = reverting (is_renamed other.tool_phase)
    by false = refl

  whole : take tool.turns more ≡ more
  whole = ap (λ (n : ℕ). take n more) (turn_is ∙ sym (length-append journal (entry ∷ []))) ∙ take-length more

  drain_failed : entry.actor ≡ Apply → entry.asked ≢ Cut → (other : Tool) (work : Work) → other.tool_phase ≡ Migrating work → (moment plan more).tool ≡ drains plan other.tool_phase other → IsSameDrain work → WorkHolds plan more work → 0 < plan.options.drain_limit
      → is_failure work.cutover.phase (cutovers.applier_turn work.applier.hint work.cutover).phase ≡ true → IsLastDrain work.cutover work.applier.hint → IsFailedAttempt plan more tool.turns
  drain_failed who uncut other work at final from holds some fails drain =
      inl (record { entry = entry; before = now; is = is_turn plan journal entry tool.turns turn_is; at = stood; why = inr (refl, record { actor = who; called = uncut; turns = drain.turns; drained = drained; last = last; following = following }) }) where
        phase : from.old.cutover.phase ≡ Attempting drain.stage
        phase = from.phase ∙ drain.phase

        stood : is_at tasks.CutOver entry.actor now.tool.tool_phase ≡ true
        stood = ap (is_at tasks.CutOver entry.actor) from.same ∙ ap (λ (a : Actor). is_tried a from.old.cutover.phase) who ∙ ap cutovers.may_succeed phase

        drained : drained_for now.tool.tool_phase ≡ Some drain.turns
        drained = ap drained_for from.same ∙ ap drain_turns phase ∙ ap turns_of drain.drain

        last : drain.turns + 1 ≡ plan.options.drain_limit
        last =
            let below : drain.turns < plan.options.drain_limit = subst (DrainLeft plan.options.drain_limit) drain.drain (subst (TurnsLeft plan.options.drain_limit) drain.phase holds.left) some in
            let above : work.cutover.drain_limit ≤ drain.turns + 1 = drain.last in
            let limit : work.cutover.drain_limit ≡ plan.options.drain_limit = holds.limit in
            omega (arith, below, above, limit)

        drained_now : (moment plan more).tool ≡ attempt_after plan true work (cutovers.applier_turn work.applier.hint work.cutover) other
        drained_now = final ∙ ap (λ (c : ToolPhase). drains plan c other) at ∙ ap (λ (b : Bool). attempt_after plan b work (cutovers.applier_turn work.applier.hint work.cutover) other) fails

        following : has_passed (moment plan (take tool.turns more)).tool.tool_phase ≡ false
        following =
            ap (λ (turns : List Entry). has_passed (moment plan turns).tool.tool_phase) whole ∙ ap (λ (t : Tool). has_passed t.tool_phase) drained_now
            ∙ passed_spends tasks.CutOver (work.attempt_tries ++ other.turns ∷ []) (working (record work { cutover = cutovers.applier_turn work.applier.hint work.cutover; attempt_tries = work.attempt_tries ++ other.turns ∷ [] }) other)
            ∙ ap (λ (n : ℕ). work.applier.hint == n) (turned_attempts work.applier.hint work.cutover) ∙ drain.following

  drain_holds : entry.actor ≡ Apply → entry.asked ≢ Cut → (other : Tool) → New other → FromBefore other.tool_phase → (moment plan more).tool ≡ drains plan other.tool_phase other → (tool_phase : ToolPhase) → other.tool_phase ≡ tool_phase → New (drains plan tool_phase other)
  drain_holds who uncut other holds from final (SettingUp setup tries) at = holds
  drain_holds who uncut other holds from final (Migrating work) at =
      attempt_holds plan more (is_failure work.cutover.phase turned.phase) work turned other holds works (turned_limit work.applier.hint work.cutover ∙ works.limit) left tried where
        turned : CutOver
        turned = cutovers.applier_turn work.applier.hint work.cutover

        works : WorkHolds plan more work
        works = subst (ToolPhaseHolds plan more) at holds.tool_phase

        left : TurnsLeft plan.options.drain_limit turned.phase
        left = turned_left work.applier.hint work.cutover works.limit works.left

        tried : is_failure work.cutover.phase turned.phase ≡ true → 0 < plan.options.drain_limit → AttemptTries plan more (work.attempt_tries ++ other.turns ∷ [])
        tried fails some =
            let drain : IsLastDrain work.cutover work.applier.hint = turn_fails work.applier.hint work.cutover fails in
            let same : IsSameDrain work = subst FromBefore at from drain.stage drain.turns drain.phase drain.drain in
            let turns : other.turns ≡ tool.turns = holds.turns ∙ length-append journal (entry ∷ []) ∙ sym turn_is in
            subst (λ (tries : List ℕ). AttemptTries plan more (tries ++ other.turns ∷ [])) same.tries
            (subst (λ (n : ℕ). AttemptTries plan more (same.old.attempt_tries ++ n ∷ [])) (sym turns)
            (attempts_last plan journal entry same.old.attempt_tries tool.turns turn_is ((work_was same.old same.same).attempts some) (drain_failed who uncut other work at final same works some fails drain)))

  counts_hold : (actor : Actor) → entry.actor ≡ actor → entry.asked ≢ Cut → (moment plan more).tool ≡ turn_counts plan actor (actor_took plan actor entry.answer now.tool.tool_phase tool) → New (turn_counts plan actor (actor_took plan actor entry.answer now.tool.tool_phase tool))
  counts_hold Apply who uncut final =
      drain_holds who uncut (actor_took plan Apply entry.answer now.tool.tool_phase tool) (actor_holds entry.answer Apply now.tool.tool_phase refl who (heard_so uncut)) (apply_from entry.answer now.tool.tool_phase refl) final
      (actor_took plan Apply entry.answer now.tool.tool_phase tool).tool_phase refl
  counts_hold actor who uncut final = actor_holds entry.answer actor now.tool.tool_phase refl who (heard_so uncut)

  heard_holds : entry.asked ≢ Cut → (moment plan more).tool ≡ turn_counts plan entry.actor (actor_took plan entry.actor entry.answer tool.tool_phase tool) → New (turn_counts plan entry.actor (actor_took plan entry.actor entry.answer tool.tool_phase tool))
  heard_holds uncut final = counts_hold entry.actor refl uncut final

  -- A COMMAND

  resized_holds : (word : OperatorWord) (tool_phase : ToolPhase) → ToolPhaseHolds plan more tool_phase → ToolPhaseHolds plan more (resizes word tool_phase)
  resized_holds (ChunkSize size) (Migrating work) holds = record { chunk = holds.chunk; batch = holds.batch; attempts = holds.attempts; limit = holds.limit; left = holds.left }
  resized_holds (ChunkSize size) (SettingUp setup tries) holds = holds
  resized_holds Throttle tool_phase holds = holds
  resized_holds NoThrottle tool_phase holds = holds
  resized_holds Unpostpone tool_phase holds = holds
  resized_holds Panic tool_phase holds = holds
  resized_holds Wait tool_phase holds = holds

  abbrev taken : OperatorWord → Tool
  taken word = record tool { operator = commanded word tool.operator; tool_phase = resizes word tool.tool_phase }

  command_holds : (word : OperatorWord) → entry.asked ≡ Command word → New (command_took word tool)
  command_holds word asks = by word asks (record { reason = unchanged.reason; tool_phase = resized_holds word now.tool.tool_phase unchanged.tool_phase; turns = unchanged.turns }) where
    by : (word : OperatorWord) → entry.asked ≡ Command word → New (taken word) → New (panics word (taken word))
    by Panic asks holds = reverts_hold plan more (Panicked tool.turns) (taken Panic) (record { entry = entry; before = now; is = is_turn plan journal entry tool.turns turn_is; asked = asks }) holds
    by Throttle asks holds = holds
    by NoThrottle asks holds = holds
    by (ChunkSize size) asks holds = holds
    by Unpostpone asks holds = holds
    by Wait asks holds = holds

  -- ANY TURN

  asked_holds : (asked : Asked) → entry.asked ≡ asked → (moment plan more).tool ≡ asked_took plan now.server entry asked tool → New (asked_took plan now.server entry asked tool)
  asked_holds (Command word) asks final = command_holds word asks
  asked_holds Cut asks final = by (has_work now.server entry.session) refl where
    by : (b : Bool) → has_work now.server entry.session ≡ b → New (cond b (actor_took plan entry.actor answers.Lost tool.tool_phase tool) tool)
    by true worked = actor_holds answers.Lost entry.actor now.tool.tool_phase refl refl (record { is = lost_at asks; work = λ cut. worked })
    by false idle = unchanged
  asked_holds (Call request) asks final = heard_holds (λ cut. no_cut (sym asks ∙ cut)) final where
    no_cut : Call request ≡ Cut → ⊥
    no_cut same = cc
  asked_holds Poll asks final = heard_holds (λ cut. no_cut (sym asks ∙ cut)) final where
    no_cut : Poll ≡ Cut → ⊥
    no_cut same = cc

  -- *One turn more*
  pub holds_more : ToolHolds plan more (moment plan more).tool
  unfolding took
  holds_more =
      let final : (moment plan more).tool ≡ asked_took plan now.server entry entry.asked tool = ap (λ (m : Moment). m.tool) (moment_more plan journal entry) in
      subst New (sym final) (asked_holds entry.asked refl final)

pub holds_begin : (plan : PlanData) → ToolHolds plan [] (moment plan []).tool
unfolding moment
holds_begin plan = record { reason = tt; tool_phase = no_tries (IsFailedTry plan [] tasks.Setup) 0; turns = refl }
