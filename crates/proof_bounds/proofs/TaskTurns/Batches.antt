-- The applying of a batch takes as many turns a try as its statements and their waits come to, and the next batch begins behind an
-- event more.
use Rattle.std.proofs.Common.{◌≡◌, ◌⊎◌, inl, inr, ◌≤◌, ◌<◌, ℕ, ◌+◌, ◌*◌, ◌==◌, Bool, true, false, cond, ◌&&◌, List, [], ◌∷◌, ◌++◌, length, Option, Some, None, refl, sym, ap, ◌∙◌, subst, arith, mul-le-mul_right}
use Rattle.std.specs.List.{list_any}
use Rattle.std.proofs.lemmas.Bool.{true≢false, false≢true}
use Rattle.std.proofs.lemmas.List.{length_push}
use Rattle.std.proofs.lemmas.Option.{none-some}
use Rattle.base_script.specs.declared.actor.Actor.{Actor}
use Rattle.base_script.specs.declared.actor.Actor.TheVariants.{Op, Insp, Copy, Apply, Lock, Ren, Client}
use Rattle.base_values.specs.declared.event.RowEvent.{RowEvent}
use Rattle.server_model.specs.EarlierAnswers.{events_in}
use Rattle.server_model.specs.Entries.{answer_at, same_actor, is_command, is_cut}
use Rattle.server_model.specs.States.{State, has_work}
use Rattle.server_model.specs.declared.answer.Answer.{Answer}
use Rattle.server_model.specs.declared.answer.Answer.TheVariants as answers
use Rattle.server_model.specs.declared.entry.Asked.TheVariants.{Call, Cut}
use Rattle.server_model.specs.declared.entry.Entry.{Entry}
use Rattle.server_model.specs.declared.outcome.Progress.{Progress}
use Rattle.server_model.specs.declared.outcome.Progress.TheVariants.{Going, TaskDone, TaskFailed, Unfit}
use Rattle.server_model.specs.declared.request.Request.{Request}
use Rattle.server_model.specs.declared.request.Request.TheVariants as requests
use Rattle.plan_data.specs.PlanData.{PlanData}
use Rattle.tool_program.specs.JournalWords.Bounds.{events, measures}
use Rattle.tool_program.specs.JournalWords.Histories.{history, is_alter}
use Rattle.tool_program.specs.JournalWords.Journals.{state_at}
use Rattle.tool_program.specs.JournalWords.Sessions.{live_session}
use Rattle.tool_program.specs.declared.event_applier.applier.Applier.{Applier}
use Rattle.tool_program.specs.declared.event_applier.applier.ApplyStep.{ApplyStep}
use Rattle.tool_program.specs.declared.event_applier.applier.ApplyStep.TheVariants.{Reading, Beginning, Applying, Committing}
use Rattle.tool_program.specs.declared.event_applier.applier.Batch.{Batch}
use Rattle.tool_program.specs.declared.event_applier.applier.Part.{Part}
use Rattle.tool_program.specs.declared.event_applier.applier.Part.TheVariants.{Whole, Removal, Return}
use Rattle.tool_program.specs.ChunkCopier.Copiers as copiers
use Rattle.tool_program.specs.EventApplier.Appliers.{Doing, after_part, batch_of, moved, planned, progress, progress_at, took}
use Rattle.tool_program.specs.EventApplier.Appliers as appliers
use Rattle.tool_program.specs.CutoverCore.CutOvers.{is_done}
use Rattle.tool_program.specs.Programs.{in_transaction, rolls_back, apply_call, tool_asks, tool_call, given}
use Rattle.tool_program.specs.Setups.{Setup, Listing, Clearing, MakingLog, MakingGhost, Marking, Reaching, Ready, setup_after}
use Rattle.tool_program.specs.Tools.{ToolPhase, SettingUp, Migrating, Tool, Work, is_reverting, stopped, tool_phase_of, moment}
use Rattle.tool_program.proofs.JournalWords.Answers.{answer_here, answer_more}
use Rattle.proof_journals.specs.Machine.Machines.{ApplierStands, SetupStands, ToolPhaseStands, WorkStands}
use Rattle.proof_journals.specs.Machine.Runnable.{IsRunnable}
use Rattle.proof_journals.specs.Machine.Standings.{Standing, free, answers_to, IsAbout, is_called, standing_in, standing_of}
use Rattle.proof_journals.specs.Plans.{IsSerialPlan}
use Rattle.proof_journals.specs.Run.Kept.{IsKept}
use Rattle.proof_journals.specs.ServerTurns.Others.{DefinitionsAreDone}
use Rattle.proof_journals.proofs.Actors.{same_actor_is}
use Rattle.proof_journals.proofs.Machine.Calling.{reverting_or}
use Rattle.proof_journals.proofs.Machine.Journals.{IsRun, IsTogether, Asking, calls_so, polls_so, applier_had}
use Rattle.proof_journals.proofs.Machine.Seated.{IsServed, own_fits, own_session}
use Rattle.proof_journals.proofs.Machine.Tabling.{back_quiet, free_idle}
use Rattle.proof_migration.specs.ToolPhase.Unaltered.{IsUnaltered}
use Rattle.proof_migration.proofs.Program.Turns.Follows.{kept_front, kept_run, unmarked_now}
use Rattle.proof_migration.proofs.ToolPhase.ToolPhaseTurns.{Kept}
use Rattle.proof_migration.proofs.ToolPhase.Unaltered.Away.{IsKnownAsked, all_asked, unaltered_front}
use Rattle.proof_migration.proofs.KeptJournals.{each_kept}
use Rattle.proof_bounds.specs.Laws.{MayWait}
use Rattle.proof_bounds.specs.Parts.{OfBatches, rolls_back as is_rollback, part_of, same_part, turns_of_part}
use Rattle.proof_bounds.specs.Tries.{ToolPhaseRoom}
use Rattle.proof_bounds.proofs.Counting.{count_none}
use Rattle.proof_bounds.proofs.Tries.{tries_few}
use Rattle.proof_bounds.proofs.Waits.{waited_by, IsCounted, counted_more, counted_begins, idle_waited, others_wait, waits_cut, waits_end, waits_on, waits_short}
use Rattle.proof_bounds.specs.TaskTurns.Answers.{BatchAnswer, IsClash, left_at}
use Rattle.proof_bounds.specs.TaskTurns.Batches.{BatchesGoOn, BatchTurnsAreFew, LogsAreFew, doings_at, statements_most, tries_turns}
use Rattle.proof_bounds.proofs.TaskTurns.BatchSteps.{HasEvent, IsOpen, Leaves, RestsAt, heard_leaves, next_doings, open_closes, open_grows, plans_of, task, try}
use Rattle.proof_bounds.proofs.TaskTurns.Growing.{IsGrown, log_grown, unaltered_so}
use Rattle.proof_bounds.proofs.TaskTurns.Logs.{left_less}
use Rattle.proof_bounds.proofs.TaskTurns.OwnTurns.{TaskTurn, batch_turn, busy_waited, command_other, idle_cut, no_turn, one_turn, own_asking}
use Rattle.proof_bounds.proofs.TaskTurns.Paying.{IsClosed, IsPaid, closed_ends, closed_stays, closed_waits}
use Rattle.proof_bounds.proofs.TaskTurns.TurnRule.{AnswerLeaves, ApplyLeaves, Applied, Copied, TurnLeaves, turn_left}
use Rattle.proof_bounds.proofs.TaskTurns.ReadLogs.{called_reads}

-- WHAT IS PLANNED

-- the batch's events were read in its turn, and this is planned for them
record IsOfBatch (journal : List Entry) (plans : List RowEvent → List Doing) (doings : List Doing) (batch : Batch) : Type 0 where
  read : List RowEvent
  following : ℕ
  reported : answer_at journal batch.read ≡ Some (answers.Events read following)
  plans_so : plans read ≡ doings

abbrev StepKnown : List Entry → (List RowEvent → List Doing) → List Doing → ApplyStep → Type 0
StepKnown journal plans doings Reading = Unit {0}
StepKnown journal plans doings (Beginning batch) = IsOfBatch journal plans doings batch
StepKnown journal plans doings (Applying batch done part) = IsOfBatch journal plans doings batch
StepKnown journal plans doings (Committing batch) = Unit {0}

batch_later : (journal more : List Entry) (plans : List RowEvent → List Doing) (doings : List Doing) (batch : Batch) → IsOfBatch journal plans doings batch → IsOfBatch (journal ++ more) plans doings batch
batch_later journal more plans doings batch is = record { read = is.read; following = is.following; reported = answer_more journal more batch.read _ is.reported; plans_so = is.plans_so }

step_later : (journal more : List Entry) (plans : List RowEvent → List Doing) (doings : List Doing) (step : ApplyStep) → StepKnown journal plans doings step → StepKnown (journal ++ more) plans doings step
step_later journal more plans doings Reading is = tt
step_later journal more plans doings (Beginning batch) is = batch_later journal more plans doings batch is
step_later journal more plans doings (Applying batch done part) is = batch_later journal more plans doings batch is
step_later journal more plans doings (Committing batch) is = tt

-- what the applier plans at its step is that
doings_here : (journal : List Entry) (applier : Applier) (doings : List Doing) (step : ApplyStep) (batch : Batch) → IsOfBatch journal (plans_of applier) doings batch → planned applier (events_in (answer_at journal batch.read)) ≡ doings
doings_here journal applier doings step batch is = ap (λ (a : Option Answer). planned applier (events_in a)) is.reported ∙ is.plans_so

module _ (journal : List Entry) (entry : Entry) (turn : ℕ) (turn_is : turn ≡ length journal + 1) (applier : Applier) (doings : List Doing) where
  abbrev later : List Entry
  later = journal ++ entry ∷ []

  abbrev After : ApplyStep → Answer → Type 0
  After step answer = StepKnown later (plans_of (took turn (record applier { step = step }) answer)) (next_doings (plans_of applier) step answer doings) (took turn (record applier { step = step }) answer).step

  -- after an answer too
  known_after : (step : ApplyStep) (answer : Answer) → entry.answer ≡ answer → StepKnown journal (plans_of applier) doings step → After step answer
  unfolding took planned
  known_after Reading (answers.Events read following) is known = by (length (planned applier read) == 0) where
    batch : Batch
    batch = batch_of turn (record applier { step = Reading }) read following

    reported : answer_at later turn ≡ Some (answers.Events read following)
    reported = ap (answer_at later) turn_is ∙ answer_here journal entry ∙ ap Some is

    by : (b : Bool) → StepKnown later (plans_of (cond b (moved (record applier { step = Reading }) (batch_of turn (record applier { step = Reading }) read following)) (record applier { step = Beginning (batch_of turn (record applier { step = Reading }) read following) })))
        (planned applier read) (cond b (moved (record applier { step = Reading }) (batch_of turn (record applier { step = Reading }) read following)) (record applier { step = Beginning (batch_of turn (record applier { step = Reading }) read following) })).step
    by true = tt
    by false = record { read = read; following = following; reported = reported; plans_so = refl }
  known_after (Beginning batch) (answers.Ok count) is known = batch_later journal (entry ∷ []) (plans_of applier) doings batch known
  known_after (Applying batch done part) (answers.Ok count) is known = by_part part where
    later_known : IsOfBatch later (plans_of applier) doings batch
    later_known = batch_later journal (entry ∷ []) (plans_of applier) doings batch known

    statements : (b : Bool) → StepKnown later (plans_of applier) doings (cond b (Committing batch) (Applying batch (done + 1) Whole))
    statements true = tt
    statements false = later_known

    by_part : (part : Part) → StepKnown later (plans_of applier) doings (after_part batch done part)
    by_part Whole = statements (done + 1 == batch.statements)
    by_part Removal = later_known
    by_part Return = statements (done + 1 == batch.statements)
  known_after (Applying batch done part) (answers.Refused number column) is known = by (number == Rattle.base_values.specs.declared.mysql_errors.TheConstants.ER_DUP_ENTRY) where
    by : (b : Bool) → StepKnown later (plans_of applier) doings (cond b (Applying batch done Removal) (Applying batch done part))
    by true = batch_later journal (entry ∷ []) (plans_of applier) doings batch known
    by false = batch_later journal (entry ∷ []) (plans_of applier) doings batch known
  known_after (Committing batch) (answers.Ok count) is known = tt
  known_after Reading answers.Lost is known = tt
  known_after (Beginning batch) answers.Lost is known = tt
  known_after (Applying batch done part) answers.Lost is known = tt
  known_after (Committing batch) answers.Lost is known = tt
  known_after Reading (answers.TimedOut n) is known = tt
  known_after (Beginning batch) (answers.TimedOut n) is known = tt
  known_after (Applying batch done part) (answers.TimedOut n) is known = tt
  known_after (Committing batch) (answers.TimedOut n) is known = tt
  known_after Reading answer is known = tt
  known_after (Beginning batch) answer is known = batch_later journal (entry ∷ []) (plans_of applier) doings batch known
  known_after (Applying batch done part) answer is known = batch_later journal (entry ∷ []) (plans_of applier) doings batch known
  known_after (Committing batch) answer is known = tt

lost_known : (journal : List Entry) (turn : ℕ) (applier : Applier) (doings : List Doing) → StepKnown journal (plans_of (took turn applier answers.Lost)) doings (took turn applier answers.Lost).step
unfolding took
lost_known journal turn applier doings = tt

-- what is planned there, by another name
answer_named : (most : ℕ) (table : List ℕ) (log : List RowEvent) (position : ℕ) (journal : List Entry) (applier : Applier) (doings : List Doing) (step : ApplyStep) (answer : Answer) → StepKnown journal (plans_of applier) doings step → BatchAnswer most table log position (plans_of applier) (doings_at journal applier step) step answer
    → BatchAnswer most table log position (plans_of applier) doings step answer
answer_named most table log position journal applier doings Reading (answers.Events read following) known goes = goes
answer_named most table log position journal applier doings (Beginning batch) (answers.Ok count) known goes = tt
answer_named most table log position journal applier doings (Applying batch done part) (answers.Ok count) known goes = tt
answer_named most table log position journal applier doings (Applying batch done part) (answers.Waits one) known goes = tt
answer_named most table log position journal applier doings (Applying batch done part) (answers.Refused number (Some place)) known goes = tt
answer_named most table log position journal applier doings (Applying batch done part) (answers.Refused number None) known goes =
    subst (λ (ds : List Doing). IsClash part (Rattle.std.specs.List.slice_get ds done) number) (doings_here journal applier doings (Applying batch done part) batch known) goes
answer_named most table log position journal applier doings (Committing batch) (answers.Ok count) known goes = tt
answer_named most table log position journal applier doings Reading answers.Lost known goes = tt
answer_named most table log position journal applier doings (Beginning batch) answers.Lost known goes = tt
answer_named most table log position journal applier doings (Applying batch done part) answers.Lost known goes = tt
answer_named most table log position journal applier doings (Committing batch) answers.Lost known goes = tt
answer_named most table log position journal applier doings Reading (answers.TimedOut n) known goes = tt
answer_named most table log position journal applier doings (Beginning batch) (answers.TimedOut n) known goes = tt
answer_named most table log position journal applier doings (Applying batch done part) (answers.TimedOut n) known goes = tt
answer_named most table log position journal applier doings (Committing batch) (answers.TimedOut n) known goes = tt
answer_named most table log position journal applier doings step answer known goes = absurd goes

-- THE JOURNAL

module _ (defined : DefinitionsAreDone) (plan : PlanData) (runs : IsRunnable plan) (serial : IsSerialPlan plan) (may : MayWait plan) (some : 1 ≤ plan.options.default_retries) (go : BatchesGoOn plan) (few_logs : LogsAreFew plan) where
  abbrev most : ℕ
  most = statements_most plan

  abbrev each : ℕ
  each = 1 + (measures plan).tool_wait

  abbrev bound : ℕ
  bound = (measures plan).tries

  abbrev limit : ℕ
  limit = (events (measures plan) + 4 * (measures plan).notes + (measures plan).tries) * tries_turns (measures plan)

  abbrev altered : List Entry → Bool
  altered journal = list_any is_alter (history plan journal)

  abbrev log_of : List Entry → List RowEvent
  log_of journal = (state_at plan journal).log

  -- the applier, while it goes on
  record Opened (journal : List Entry) (log : List RowEvent) (turns waited tries : ℕ) (applier : Applier) : Type 0 where
    doings : List Doing
    known : StepKnown journal (plans_of applier) doings applier.step
    open_so : IsOpen most each bound limit plan.table log turns waited applier.position tries doings applier.step

  -- by whether the RENAME is done or all is reverted
  abbrev Working : Bool → Bool → List Entry → List RowEvent → ℕ → ℕ → ℕ → Applier → Type 0
  Working true reverting journal log turns waited tries applier = IsClosed turns limit waited each
  Working false true journal log turns waited tries applier = IsClosed turns limit waited each
  Working false false journal log turns waited tries applier = Opened journal log turns waited tries applier

  abbrev Holding : Bool → List Entry → List RowEvent → ℕ → ℕ → Kept
  Holding done journal log turns waited reverting (SettingUp setup tries) = turns ≤ 0
  Holding done journal log turns waited reverting (Migrating work) = Working done reverting journal log turns waited (length work.batch_tries) work.applier

  record IsHeld (journal : List Entry) : Type 0 where
    counted : IsCounted plan journal
    stands : Holding (altered journal) journal (log_of journal) (turns_of_part OfBatches plan journal) (waited_by plan journal Apply) (is_reverting (moment plan journal).tool.reason) (moment plan journal).tool.tool_phase

  short_is : (journal : List Entry) → IsCounted plan journal → waited_by plan journal Apply + 1 ≤ each
  unfolding measures
  short_is journal counted = let short = waits_short plan journal counted.few Apply in omega (arith, short)

  bound_is : bound ≡ plan.options.default_retries
  unfolding measures
  bound_is = refl

  within_is : (journal : List Entry) → IsKept plan journal → IsUnaltered plan journal → left_at plan.table (log_of journal) 0 * task most each bound limit plan.table ≤ limit
  within_is journal kept off = mul-le-mul_right (tries_turns (measures plan)) (few_logs journal kept off)

  open_shut : (journal : List Entry) (log : List RowEvent) (turns waited tries : ℕ) (applier : Applier) → waited + 1 ≤ each → left_at plan.table log 0 * task most each bound limit plan.table ≤ limit → Opened journal log turns waited tries applier → IsClosed turns limit waited each
  open_shut journal log turns waited tries applier short within is = open_closes most each bound limit plan.table log turns waited applier.position tries is.doings short within applier.step is.open_so

  module _ (journal : List Entry) (entry : Entry) (kept_more : IsKept plan (journal ++ entry ∷ [])) (is : IsHeld journal) where
    abbrev more : List Entry
    more = journal ++ entry ∷ []

    abbrev tool : Tool
    tool = record (moment plan journal).tool { turns = (moment plan journal).tool.turns + 1 }

    abbrev on_now : Bool
    on_now = is_reverting (moment plan journal).tool.reason

    abbrev has : Actor → Standing
    has = standing_of plan journal

    abbrev turns : ℕ
    turns = turns_of_part OfBatches plan journal

    abbrev turns_now : ℕ
    turns_now = turns_of_part OfBatches plan more

    abbrev waited : ℕ
    waited = waited_by plan journal Apply

    abbrev waited_now : ℕ
    waited_now = waited_by plan more Apply

    abbrev New : Kept
    New = Holding (altered more) more (log_of more) turns_now waited_now

    kept : IsKept plan journal
    kept = kept_front plan journal (entry ∷ []) kept_more

    run : IsRun plan journal entry
    run = kept_run plan journal entry kept_more

    counted_now : IsCounted plan more
    counted_now = counted_more plan may journal entry run is.counted

    asked : IsKnownAsked plan journal
    asked = all_asked plan journal runs kept.faithful kept.follows

    together : IsTogether plan journal
    together = is.counted.together

    served : IsServed plan journal entry
    served = record { answered = run.answered; seated = record { session = run.followed.session } }

    short : waited + 1 ≤ each
    short = short_is journal is.counted

    short_now : waited_now + 1 ≤ each
    short_now = short_is more counted_now

    one : turns_now ≤ turns + 1
    one = one_turn OfBatches plan journal entry

    grown : IsGrown (log_of journal) (log_of more)
    grown = log_grown plan journal entry

    apply_given : given plan journal Apply ≡ tool_asks plan journal (moment plan journal) Apply
    unfolding given
    apply_given = refl

    own_turn : same_part OfBatches (part_of plan journal entry) ≡ true → TaskTurn Apply entry.actor entry.asked
    unfolding part_of
    own_turn own = batch_turn (moment plan journal).tool.tool_phase (live_session journal entry.actor) entry.side entry.actor entry.asked own

    -- HOW THE TURNS AND THE WAIT COUNT

    same_turns : (same_part OfBatches (part_of plan journal entry) ≡ true → ⊥) → turns_now ≡ turns
    same_turns other = no_turn OfBatches plan journal entry other

    others_turns : same_actor entry.actor Apply ≡ false → turns_now ≡ turns
    others_turns differ = same_turns (λ own. true≢false (sym (ap (λ (a : Actor). same_actor a Apply) (own_turn own).who) ∙ differ))

    others_waited : same_actor entry.actor Apply ≡ false → waited_now ≡ waited
    others_waited differ = others_wait plan may journal entry together is.counted.clients is.counted.both.living run is.counted.few Apply differ

    cut_turns : entry.asked ≡ Cut → turns_now ≡ turns
    cut_turns cut = same_turns (λ own. true≢false (sym (ap is_cut cut) ∙ (own_turn own).uncut))

    back_turns : entry.asked ≡ Call requests.Rollback → turns_now ≡ turns
    back_turns back = same_turns (λ own. true≢false (sym (ap is_rollback back) ∙ (own_turn own).forward))

    own_waits : entry.actor ≡ Apply → is_command entry.asked ≡ false → is_cut entry.asked ≡ false → (by : ℕ) → entry.answer ≡ answers.Waits by → waited_now ≡ waited + 1
    own_waits who called uncut by waits =
        subst (λ (a : Actor). waited_by plan more a ≡ waited_by plan journal a + 1) who (waits_on plan may journal entry together is.counted.clients is.counted.both.living run is.counted.few by called uncut waits).counts

    own_ends : entry.actor ≡ Apply → is_command entry.asked ≡ false → is_cut entry.asked ≡ false → ((by : ℕ) → entry.answer ≡ answers.Waits by → ⊥) → waited_now ≡ 0
    own_ends who called uncut heard = subst (λ (a : Actor). waited_by plan more a ≡ 0) who (waits_end plan may journal entry together is.counted.clients is.counted.both.living run is.counted.few called uncut heard)

    own_cut : entry.actor ≡ Apply → entry.asked ≡ Cut → waited_now ≡ 0
    own_cut who cut = subst (λ (a : Actor). waited_by plan more a ≡ 0) who (waits_cut plan may journal entry together is.counted.clients is.counted.both.living run is.counted.few cut)

    -- WHETHER THE RENAME IS DONE

    was_unaltered : altered more ≡ false → altered journal ≡ false
    was_unaltered off = unaltered_front plan journal (entry ∷ []) off

    still_unaltered : entry.actor ≡ Apply → altered journal ≡ false → altered more ≡ false
    still_unaltered who off = unaltered_so defined plan journal entry runs serial kept_more off (λ ren. true≢false (sym (ap (λ (a : Actor). same_actor a Apply) who) ∙ ap (λ (a : Actor). same_actor a Apply) ren))

    was_altered : entry.actor ≡ Apply → (b : Bool) → altered journal ≡ b → altered more ≡ b
    was_altered who false off = still_unaltered who off
    was_altered who true on = by (altered more) refl where
      by : (b : Bool) → altered more ≡ b → b ≡ true
      by true same = refl
      by false off = absurd (true≢false (sym on ∙ was_unaltered off))

    not_done : (work : Work) → (moment plan journal).tool.tool_phase ≡ Migrating work → altered journal ≡ false → is_done work.cutover.phase ≡ false
    not_done work eq off = (unmarked_now plan journal work asked off eq).undone.undone

    -- WHAT STANDS

    work_later : (done done_now reverting : Bool) (tries : ℕ) (applier : Applier) → (done_now ≡ false → done ≡ false) → altered journal ≡ done → Working done reverting journal (log_of journal) turns waited tries applier → Working done_now reverting more (log_of more) turns waited tries applier
    work_later true true reverting tries applier back at was = was
    work_later true false reverting tries applier back at was = absurd (true≢false (back refl))
    work_later false true true tries applier back at was = was
    work_later false true false tries applier back at was = open_shut journal (log_of journal) turns waited tries applier short (within_is journal kept at) was
    work_later false false true tries applier back at was = was
    work_later false false false tries applier back at was = record {
      doings = was.doings;
      known = step_later journal (entry ∷ []) (plans_of applier) was.doings applier.step was.known;
      open_so =
          subst (λ (log : List RowEvent). IsOpen most each bound limit plan.table log turns waited applier.position tries was.doings applier.step) (sym grown.is)
          (open_grows most each bound limit plan.table (log_of journal) grown.events turns waited applier.position tries was.doings applier.step was.open_so);
    }

    -- with the counts before the turn
    same_counts : turns_now ≡ turns → waited_now ≡ waited → (tool_phase : ToolPhase) → (moment plan journal).tool.tool_phase ≡ tool_phase → New on_now tool_phase
    same_counts count wait tool_phase eq =
        subst (λ (n : ℕ). Holding (altered more) more (log_of more) n waited_now on_now tool_phase) (sym count)
        (subst (λ (w : ℕ). Holding (altered more) more (log_of more) turns w on_now tool_phase) (sym wait) (by tool_phase (subst (Holding (altered journal) journal (log_of journal) turns waited on_now) eq is.stands))) where
          by : (tool_phase : ToolPhase) → Holding (altered journal) journal (log_of journal) turns waited on_now tool_phase → Holding (altered more) more (log_of more) turns waited on_now tool_phase
          by (SettingUp setup tries) was = was
          by (Migrating work) was = work_later (altered journal) (altered more) on_now (length work.batch_tries) work.applier was_unaltered refl was

    work_back : (done reverting : Bool) (tries : ℕ) (applier : Applier) → altered more ≡ done → Working done reverting more (log_of more) turns_now waited_now tries applier → Working done true more (log_of more) turns_now waited_now tries applier
    work_back true reverting tries applier at was = was
    work_back false true tries applier at was = was
    work_back false false tries applier at was = open_shut more (log_of more) turns_now waited_now tries applier short_now (within_is more kept_more at) was

    back : (b : Bool) (tool_phase : ToolPhase) → New b tool_phase → New true (stopped tool_phase)
    back b (SettingUp setup tries) now = now
    back b (Migrating work) now = work_back (altered more) b (length work.batch_tries) work.applier refl now

    setup_free : (setup : Setup) (tries : List ℕ) → (moment plan journal).tool.tool_phase ≡ SettingUp setup tries → has Apply ≡ free
    setup_free setup tries eq = at.applier where
      at : SetupStands has
      at = subst (ToolPhaseStands journal has on_now) eq together.stands

    -- OTHERS' TURNS

    -- the applying begins
    begins : (setup : Setup) (tries : List ℕ) → turns_now ≤ 0 → waited_now ≡ 0 → New false (tool_phase_of plan tool.operator.size setup tries)
    begins Listing tries none wait = none
    begins (Clearing left) tries none wait = none
    begins MakingLog tries none wait = none
    begins MakingGhost tries none wait = none
    begins Marking tries none wait = none
    begins (Reaching position) tries none wait = none
    begins (Ready position range) tries none wait = by (altered more) where
      applier : Applier
      applier = (Rattle.tool_program.specs.Tools.new_work plan tool.operator.size position range).applier

      no : (n : ℕ) → n ≡ 0 → 1 ≤ n → ⊥
      no n none some = omega (arith, none, some)

      first_paid : (n left all most m : ℕ) → n ≤ 0 → left ≤ all → n + left * m ≤ all * m + 0 * most + 0 + 0
      first_paid n left all most m none less = let times : left * m ≤ all * m = mul-le-mul_right m less in grind (arith, none, times)

      by : (b : Bool) → Working b false more (log_of more) turns_now waited_now 0 (Rattle.tool_program.specs.Tools.new_work plan tool.operator.size position range).applier
      by true = record { within = omega (arith, none); waits = λ on. absurd (no waited_now wait on) }
      by false = record {
        doings = [];
        known = tt;
        open_so = record {
          begins = omega arith;
          fits = tt;
          rests = wait;
          some = inl refl;
          paid =
              subst (IsPaid turns_now (left_at plan.table (log_of more) position * task most each bound limit plan.table) (left_at plan.table (log_of more) 0 * task most each bound limit plan.table) 0 (try most each bound limit plan.table) 0) (sym wait)
              (first_paid turns_now (left_at plan.table (log_of more) position) (left_at plan.table (log_of more) 0) (try most each bound limit plan.table) (task most each bound limit plan.table) none (left_less plan.table (log_of more) position));
        };
      }

    held_at : (b : Bool) (tool_phase : ToolPhase) → on_now ≡ b → New on_now tool_phase → New b tool_phase
    held_at b tool_phase on now = subst (λ (r : Bool). New r tool_phase) on now

    others_leave : (answer : Answer) → same_actor entry.actor Apply ≡ false → (actor : Actor) → same_actor actor Apply ≡ false → (tool_phase : ToolPhase) → (moment plan journal).tool.tool_phase ≡ tool_phase → AnswerLeaves plan New answer tool actor tool_phase
    others_leave answer differ actor other tool_phase eq = by actor other tool_phase eq where
      at : (tool_phase : ToolPhase) → (moment plan journal).tool.tool_phase ≡ tool_phase → New on_now tool_phase
      at tool_phase eq = same_counts (others_turns differ) (others_waited differ) tool_phase eq

      none_waited : (setup : Setup) (tries : List ℕ) → (moment plan journal).tool.tool_phase ≡ SettingUp setup tries → waited_now ≡ 0
      none_waited setup tries eq = others_waited differ ∙ idle_waited (state_at plan journal) (live_session journal Apply) (ap (λ (s : Standing). s.waits) (setup_free setup tries eq))

      copied : (work : Work) → New false (Migrating work) → (code : Progress) → Copied New answer tool work code
      copied work stands Going = stands
      copied work stands TaskDone = stands
      copied work stands TaskFailed = stands
      copied work stands (Unfit place number) = record { renamed = λ renamed. stands; reverts = back false (Migrating work) stands }

      by : (actor : Actor) → same_actor actor Apply ≡ false → (tool_phase : ToolPhase) → (moment plan journal).tool.tool_phase ≡ tool_phase → AnswerLeaves plan New answer tool actor tool_phase
      by Apply other tool_phase eq = absurd (true≢false other)
      by Insp other (SettingUp setup tries) eq = record {
        reverting = λ on. at (SettingUp setup tries) eq;
        again = λ off bad more_tries. at (SettingUp setup tries) eq;
        goes = λ off good. begins (setup_after plan.table setup answer) tries (at (SettingUp setup tries) eq) (none_waited setup tries eq);
      }
      by Insp other (Migrating work) eq = λ tries. at (Migrating work) eq
      by Lock other (Migrating work) eq = λ tries. at (Migrating work) eq
      by Ren other (Migrating work) eq = λ tries. at (Migrating work) eq
      by Copy other (Migrating work) eq = record { reverting = λ on. held_at true (Migrating work) on (at (Migrating work) eq); going = λ off. copied work (held_at false (Migrating work) off (at (Migrating work) eq)) (copiers.progress work.copier answer) }
      by Op other (Migrating work) eq = at (Migrating work) eq
      by (Client c) other (Migrating work) eq = at (Migrating work) eq
      by Op other (SettingUp setup tries) eq = at (SettingUp setup tries) eq
      by (Client c) other (SettingUp setup tries) eq = at (SettingUp setup tries) eq
      by Copy other (SettingUp setup tries) eq = at (SettingUp setup tries) eq
      by Lock other (SettingUp setup tries) eq = at (SettingUp setup tries) eq
      by Ren other (SettingUp setup tries) eq = at (SettingUp setup tries) eq

    -- THE APPLIER'S TURNS

    module _ (who : entry.actor ≡ Apply) where
      -- it takes none in the setup
      setup_none : (setup : Setup) (tries : List ℕ) → (moment plan journal).tool.tool_phase ≡ SettingUp setup tries → Asking plan journal Apply entry.asked → ⊥
      setup_none setup tries eq (calls_so request asks idle call) = none-some request (ap (λ (c : ToolPhase). tool_call plan (moment plan journal).server journal (moment plan journal).tool c Apply) (sym eq) ∙ call)
      setup_none setup tries eq (polls_so request asks waits) = none-some request (sym (ap (λ (s : Standing). s.waits) (setup_free setup tries eq)) ∙ waits)

      module _ (work : Work) (eq : (moment plan journal).tool.tool_phase ≡ Migrating work) where
        abbrev tries : ℕ
        tries = length work.batch_tries

        stands : Working (altered journal) on_now journal (log_of journal) turns waited tries work.applier
        stands = subst (Holding (altered journal) journal (log_of journal) turns waited on_now) eq is.stands

        few : altered journal ≡ false → on_now ≡ false → tries < bound
        few off going =
            let room = (subst (ToolPhaseRoom plan on_now) eq (tries_few plan journal some)) (not_done work eq off) in
            subst (λ (n : ℕ). tries < n) (sym bound_is) (room.batch.left going)

        open_now : altered journal ≡ false → on_now ≡ false → Opened journal (log_of journal) turns waited tries work.applier
        open_now off going =
            subst (λ (b : Bool). Working false b journal (log_of journal) turns waited tries work.applier) going (subst (λ (b : Bool). Working b on_now journal (log_of journal) turns waited tries work.applier) off stands)

        closed_by : (done reverting : Bool) → (done ≡ true) ⊎ (reverting ≡ true) → Working done reverting journal (log_of journal) turns waited tries work.applier → IsClosed turns limit waited each
        closed_by true reverting kind was = was
        closed_by false true kind was = was
        closed_by false false (inl on) was = absurd (false≢true on)
        closed_by false false (inr on) was = absurd (false≢true on)

        closed_now : (altered journal ≡ true) ⊎ (on_now ≡ true) → IsClosed turns limit waited each
        closed_now kind = closed_by (altered journal) on_now kind stands

        from_closed : (done reverting : Bool) (count : ℕ) (applier : Applier) → (done ≡ true) ⊎ (reverting ≡ true) → IsClosed turns_now limit waited_now each → Working done reverting more (log_of more) turns_now waited_now count applier
        from_closed true reverting count applier kind now = now
        from_closed false true count applier kind now = now
        from_closed false false count applier (inl on) now = absurd (false≢true on)
        from_closed false false count applier (inr on) now = absurd (false≢true on)

        -- what the turn makes of the applier
        applied : (answer : Answer) (doings : List Doing) (code : Progress) → altered more ≡ false → (moment plan journal).tool.tool_phase ≡ Migrating work → StepKnown more (plans_of (took tool.turns work.applier answer)) doings (took tool.turns work.applier answer).step
            → Leaves most each bound limit plan.table (log_of more) turns_now waited_now tries doings (took tool.turns work.applier answer) code → Applied New answer tool work code
        applied answer doings Going off at known leaves =
            subst (λ (b : Bool). Working b false more (log_of more) turns_now waited_now tries (took tool.turns work.applier answer)) (sym off) (record { doings = doings; known = known; open_so = leaves })
        applied answer doings TaskDone off at known leaves =
            subst (λ (b : Bool). Working b false more (log_of more) turns_now waited_now 0 (took tool.turns work.applier answer)) (sym off) (record { doings = doings; known = known; open_so = leaves })
        applied answer doings TaskFailed off at known leaves =
            subst (λ (n : ℕ). Working (altered more) false more (log_of more) turns_now waited_now n (took tool.turns work.applier answer)) (sym (length_push work.batch_tries tool.turns))
            (subst (λ (b : Bool). Working b false more (log_of more) turns_now waited_now (tries + 1) (took tool.turns work.applier answer)) (sym off) (record { doings = doings; known = known; open_so = leaves }))
        applied answer doings (Unfit place number) off at known leaves = record {
          renamed = λ renamed. absurd (true≢false (sym renamed ∙ not_done work at (was_unaltered off)));
          reverts = subst (λ (b : Bool). Working b true more (log_of more) turns_now waited_now tries work.applier) (sym off) leaves;
        }

        -- the answer at its step
        answered : (answer : Answer) → altered journal ≡ false → on_now ≡ false → entry.answer ≡ answer → 1 ≤ left_at plan.table (log_of more) work.applier.position
            → ((was : Opened journal (log_of journal) turns waited tries work.applier) → BatchAnswer most plan.table (log_of more) work.applier.position (plans_of work.applier) was.doings work.applier.step answer) → ((by : ℕ) → answer ≡ answers.Waits by → waited_now ≡ waited + 1)
            → (((by : ℕ) → answer ≡ answers.Waits by → ⊥) → waited_now ≡ 0) → Applied New answer tool work (progress work.applier answer)
        answered answer off going same event goes waits ends =
            let off_now = still_unaltered who off in
            let was = open_now off going in
            let turn_is : tool.turns ≡ length journal + 1 = ap (λ (n : ℕ). n + 1) together.turns in
            applied answer (next_doings (plans_of work.applier) work.applier.step answer was.doings) (progress work.applier answer) off_now eq
            (known_after journal entry tool.turns turn_is work.applier was.doings work.applier.step answer same was.known)
            (heard_leaves most each bound limit plan.table tool.turns work.applier (log_of more) turns turns_now waited waited_now tries was.doings one short short_now (few off going) event (within_is more kept_more off_now) work.applier.step answer
            (subst (λ (log : List RowEvent). IsOpen most each bound limit plan.table log turns waited work.applier.position tries was.doings work.applier.step) (sym grown.is)
            (open_grows most each bound limit plan.table (log_of journal) grown.events turns waited work.applier.position tries was.doings work.applier.step was.open_so))
            (goes was) waits ends)

        -- some event is left, but where nothing is read
        event_of : (step : ApplyStep) (left : ℕ) → HasEvent left tries step → (appliers.is_reading step ≡ true → 1 ≤ left) → 1 ≤ left
        event_of Reading left some_so reads = reads refl
        event_of (Beginning batch) left some_so reads = some_so
        event_of (Applying batch done part) left some_so reads = some_so
        event_of (Committing batch) left some_so reads = some_so

        later_left : left_at plan.table (log_of journal) work.applier.position ≤ left_at plan.table (log_of more) work.applier.position
        later_left = subst (λ (log : List RowEvent). left_at plan.table (log_of journal) work.applier.position ≤ left_at plan.table log work.applier.position) (sym grown.is) (Rattle.proof_bounds.proofs.TaskTurns.Logs.grows_least plan.table (log_of journal) grown.events work.applier.position)

        some_later : (a b : ℕ) → a ≤ b → 1 ≤ a → 1 ≤ b
        some_later a b less one = omega (arith, less, one)

        -- a turn that isn't a loss between calls
        module _ (called : is_command entry.asked ≡ false) (uncut : is_cut entry.asked ≡ false) where
          asks : Asking plan journal Apply entry.asked
          asks = own_asking plan journal entry together run Apply apply_given who uncut

          -- it reads where something is unread
          reads : (was : Opened journal (log_of journal) turns waited tries work.applier) → on_now ≡ false → appliers.is_reading work.applier.step ≡ true → 1 ≤ left_at plan.table (log_of journal) work.applier.position
          reads was going reading = by asks where
            rests : (step : ApplyStep) → appliers.is_reading step ≡ true → RestsAt waited step → waited ≡ 0
            rests Reading is_so at = at
            rests (Beginning batch) is_so at = at
            rests (Committing batch) is_so at = at
            rests (Applying batch done part) is_so at = absurd (false≢true is_so)

            by : Asking plan journal Apply entry.asked → 1 ≤ left_at plan.table (log_of journal) work.applier.position
            by (calls_so request asks_so idle call) =
                reverting_or (1 ≤ left_at plan.table (log_of journal) work.applier.position) on_now (rolls_back (moment plan journal).server (live_session journal Apply)) (apply_call plan (moment plan journal).server journal (moment plan journal).tool work) request
                (ap (λ (c : ToolPhase). tool_call plan (moment plan journal).server journal (moment plan journal).tool c Apply) (sym eq) ∙ call) (λ reverting back_so. absurd (true≢false (sym reverting ∙ going))) (λ goes asks_next. called_reads plan journal together work eq reading request asks_next)
            by (polls_so request asks_so waits_so) =
                let busy = busy_waited (state_at plan journal) (live_session journal Apply) request waits_so in
                let none = rests work.applier.step reading was.open_so.rests in
                absurd (no waited none busy) where
                  no : (n : ℕ) → n ≡ 0 → 1 ≤ n → ⊥
                  no n none busy = omega (arith, none, busy)

          open_leaves : altered journal ≡ false → on_now ≡ false → Applied New entry.answer tool work (progress work.applier entry.answer)
          open_leaves off going =
              answered entry.answer off going refl
              (some_later (left_at plan.table (log_of journal) work.applier.position) (left_at plan.table (log_of more) work.applier.position) later_left
              (event_of work.applier.step (left_at plan.table (log_of journal) work.applier.position) (open_now off going).open_so.some (λ reading. reads (open_now off going) going reading)))
              (λ was. answer_named most plan.table (log_of more) work.applier.position journal work.applier was.doings work.applier.step entry.answer was.known ((go journal entry kept_more).answered work eq going off who called uncut)) (λ by waits. own_waits who called uncut by waits)
              (λ heard. own_ends who called uncut heard)

          -- in a revert it rolls back, or polls
          closed_leaves : on_now ≡ true → IsClosed turns_now limit waited_now each
          closed_leaves on = by asks where
            before : IsClosed turns limit waited each
            before = closed_now (inr on)

            waits : (answer : Answer) → entry.answer ≡ answer → 1 ≤ waited → IsClosed turns_now limit waited_now each
            waits (answers.Waits by) same some_wait = subst (λ (w : ℕ). IsClosed turns_now limit w each) (sym (own_waits who called uncut by same)) (closed_waits turns turns_now limit waited each one some_wait short before)
            waits answer same some_wait =
                subst (λ (w : ℕ). IsClosed turns_now limit w each) (sym (own_ends who called uncut (λ by waits_so. let both : answer ≡ answers.Waits by = sym same ∙ waits_so in cc)))
                (closed_ends turns turns_now limit waited each one some_wait short before)

            rolled : entry.asked ≡ Call requests.Rollback → (has Apply).waits ≡ None → IsClosed turns_now limit waited_now each
            rolled back_so idle =
                subst (λ (w : ℕ). IsClosed turns_now limit w each) (sym (own_ends who called uncut (unwaited entry.answer refl)))
                (closed_stays turns turns_now limit waited each (let same = back_turns back_so in omega (arith, same)) before) where
                  fits : answers_to requests.Rollback entry.answer ≡ true
                  fits = own_fits plan journal entry together.known served requests.Rollback (subst (λ (a : Actor). IsAbout requests.Rollback (has a) entry.asked) (sym who) (is_called back_so idle))

                  unwaited : (answer : Answer) → entry.answer ≡ answer → (by : ℕ) → entry.answer ≡ answers.Waits by → ⊥
                  unwaited answer same by waits_so = false≢true (sym (ap (answers_to requests.Rollback) waits_so) ∙ fits)

            by : Asking plan journal Apply entry.asked → IsClosed turns_now limit waited_now each
            by (calls_so request asks_so idle call) =
                reverting_or (IsClosed turns_now limit waited_now each) on_now (rolls_back (moment plan journal).server (live_session journal Apply)) (apply_call plan (moment plan journal).server journal (moment plan journal).tool work) request
                (ap (λ (c : ToolPhase). tool_call plan (moment plan journal).server journal (moment plan journal).tool c Apply) (sym eq) ∙ call)
                (λ reverting back_so. rolled (asks_so ∙ ap Call (back_quiet (in_transaction (moment plan journal).server (live_session journal Apply)) request back_so)) idle) (λ going asks_next. absurd (true≢false (sym on ∙ going)))
            by (polls_so request asks_so waits_so) = waits entry.answer refl (busy_waited (state_at plan journal) (live_session journal Apply) request waits_so)

          heard : ApplyLeaves New entry.answer tool work
          heard = record { reverting = λ on. from_closed (altered more) true tries work.applier (inr refl) (closed_leaves on); going = λ going. going_by (altered journal) refl going } where
            going_by : (b : Bool) → altered journal ≡ b → on_now ≡ false → Applied New entry.answer tool work (progress work.applier entry.answer)
            going_by true done going = absurd ((go journal entry kept_more).over work eq going done who called uncut)
            going_by false off going = open_leaves off going

        -- a loss between calls
        module _ (cut : entry.asked ≡ Cut) where
          lost_fails : (step : ApplyStep) → progress_at work.applier step answers.Lost ≡ TaskFailed
          lost_fails Reading = refl
          lost_fails (Beginning batch) = refl
          lost_fails (Applying batch done part) = refl
          lost_fails (Committing batch) = refl

          none_now : waited_now ≡ 0
          none_now = own_cut who cut

          cut_closed : (altered journal ≡ true) ⊎ (on_now ≡ true) → IsClosed turns_now limit waited_now each
          cut_closed kind = subst (λ (w : ℕ). IsClosed turns_now limit w each) (sym none_now) (closed_stays turns turns_now limit waited each (let same = cut_turns cut in omega (arith, same)) (closed_now kind))

          -- where the log is read its session has no work
          reads_idle : (was : Opened journal (log_of journal) turns waited tries work.applier) → on_now ≡ false → has_work (moment plan journal).server entry.session ≡ true → appliers.is_reading work.applier.step ≡ true → ⊥
          reads_idle was going worked reading =
              true≢false (sym worked ∙ ap (λ (s : State). has_work s entry.session) together.server ∙ free_idle (state_at plan journal) entry.session
              (ap (standing_in (state_at plan journal)) (sym (own_session plan journal entry together.known served (ap is_cut cut))) ∙ ap (standing_of plan journal) who ∙ rests)) where
                work_stands : WorkStands journal on_now has work
                work_stands = subst (ToolPhaseStands journal has on_now) eq together.stands

                stood : ApplierStands journal work.applier (has Apply)
                stood = applier_had plan journal entry together run work work_stands going

                idle : (step : ApplyStep) → appliers.is_reading step ≡ true → RestsAt waited step → Rattle.proof_journals.specs.Machine.Machines.applier_busy step ≡ false
                idle Reading is_so at = refl
                idle (Beginning batch) is_so at = refl
                idle (Committing batch) is_so at = absurd (false≢true is_so)
                idle (Applying batch done part) is_so at = absurd (false≢true is_so)

                quiet : (step : ApplyStep) → appliers.is_reading step ≡ true → RestsAt waited step → waited ≡ 0
                quiet Reading is_so at = at
                quiet (Beginning batch) is_so at = at
                quiet (Committing batch) is_so at = at
                quiet (Applying batch done part) is_so at = absurd (false≢true is_so)

                no : (n : ℕ) → n ≡ 0 → 1 ≤ n → ⊥
                no n none busy = omega (arith, none, busy)

                unwaiting : (waits : Option Request) → (has Apply).waits ≡ waits → waits ≡ None
                unwaiting None at = refl
                unwaiting (Some request) at = absurd (no waited (quiet work.applier.step reading was.open_so.rests) (busy_waited (state_at plan journal) (live_session journal Apply) request at))

                same : (has_now : Standing) → has_now.busy ≡ false → has_now.locked ≡ [] → has_now.waits ≡ None → has_now ≡ free
                same has_now busy locked waits = λ i. record { busy = busy i; locked = locked i; waits = waits i }

                rests : has Apply ≡ free
                rests = same (has Apply) (stood.stands.busy ∙ idle work.applier.step reading was.open_so.rests) stood.stands.locked (unwaiting (has Apply).waits refl)

          lost_open : has_work (moment plan journal).server entry.session ≡ true → altered journal ≡ false → on_now ≡ false → Applied New answers.Lost tool work (progress work.applier answers.Lost)
          lost_open worked off going =
              answered_lost (some_later (left_at plan.table (log_of journal) work.applier.position) (left_at plan.table (log_of more) work.applier.position) later_left
              (event_of work.applier.step (left_at plan.table (log_of journal) work.applier.position) (open_now off going).open_so.some (λ reading. absurd (reads_idle (open_now off going) going worked reading)))) where
                lost_answer : (step : ApplyStep) (doings : List Doing) → BatchAnswer most plan.table (log_of more) work.applier.position (plans_of work.applier) doings step answers.Lost
                lost_answer Reading doings = tt
                lost_answer (Beginning batch) doings = tt
                lost_answer (Applying batch done part) doings = tt
                lost_answer (Committing batch) doings = tt

                answered_lost : 1 ≤ left_at plan.table (log_of more) work.applier.position → Applied New answers.Lost tool work (progress work.applier answers.Lost)
                answered_lost event =
                    let off_now = still_unaltered who off in
                    let was = open_now off going in
                    applied answers.Lost (next_doings (plans_of work.applier) work.applier.step answers.Lost was.doings) (progress work.applier answers.Lost) off_now eq
                    (lost_known more tool.turns work.applier (next_doings (plans_of work.applier) work.applier.step answers.Lost was.doings))
                    (heard_leaves most each bound limit plan.table tool.turns work.applier (log_of more) turns turns_now waited waited_now tries was.doings one short short_now (few off going) event (within_is more kept_more off_now) work.applier.step answers.Lost
                    (subst (λ (log : List RowEvent). IsOpen most each bound limit plan.table log turns waited work.applier.position tries was.doings work.applier.step) (sym grown.is)
                    (open_grows most each bound limit plan.table (log_of journal) grown.events turns waited work.applier.position tries was.doings work.applier.step was.open_so)) (lost_answer work.applier.step was.doings)
                    (λ by same. absurd (let no : answers.Lost ≡ answers.Waits by = same in cc)) (λ heard. none_now))

          lost : has_work (moment plan journal).server entry.session ≡ true → ApplyLeaves New answers.Lost tool work
          unfolding progress took
          lost worked = record { reverting = λ on. from_closed (altered more) true tries work.applier (inr refl) (cut_closed (inr on)); going = λ going. going_by (altered journal) refl going } where
            done_lost : altered journal ≡ true → Applied New answers.Lost tool work TaskFailed
            done_lost done = from_closed (altered more) false (length (work.batch_tries ++ tool.turns ∷ [])) (took tool.turns work.applier answers.Lost) (inl (was_altered who true done)) (cut_closed (inl done))

            going_by : (b : Bool) → altered journal ≡ b → on_now ≡ false → Applied New answers.Lost tool work (progress work.applier answers.Lost)
            going_by true done going = subst (Applied New answers.Lost tool work) (sym (lost_fails work.applier.step)) (done_lost done)
            going_by false off going = lost_open worked off going

      heard_leave : is_command entry.asked ≡ false → is_cut entry.asked ≡ false → (tool_phase : ToolPhase) → (moment plan journal).tool.tool_phase ≡ tool_phase → AnswerLeaves plan New entry.answer tool Apply tool_phase
      heard_leave called uncut (SettingUp setup tries) eq = absurd (setup_none setup tries eq (own_asking plan journal entry together run Apply apply_given who uncut))
      heard_leave called uncut (Migrating work) eq = heard work eq called uncut

      lost_leave : entry.asked ≡ Cut → has_work (moment plan journal).server entry.session ≡ true → (tool_phase : ToolPhase) → (moment plan journal).tool.tool_phase ≡ tool_phase → AnswerLeaves plan New answers.Lost tool Apply tool_phase
      lost_leave cut worked (SettingUp setup tries) eq =
          let none : turns ≤ 0 = subst (Holding (altered journal) journal (log_of journal) turns waited on_now) eq is.stands in let same = cut_turns cut in omega (arith, same, none)
      lost_leave cut worked (Migrating work) eq = lost work eq cut worked

    -- ONE TURN MORE

    turn_leaves : TurnLeaves plan New (moment plan journal).server entry tool
    turn_leaves = record {
      commanded = λ command. let differ = command_other plan journal entry together run Apply apply_given command in same_counts (others_turns differ) (others_waited differ) (moment plan journal).tool.tool_phase refl;
      idle = λ cut idle. idle_by (same_actor entry.actor Apply) refl cut idle;
      lost = λ cut worked. lost_by (same_actor entry.actor Apply) refl cut worked;
      heard = λ called uncut. heard_by (same_actor entry.actor Apply) refl called uncut;
    } where
      idle_by : (b : Bool) → same_actor entry.actor Apply ≡ b → entry.asked ≡ Cut → has_work (moment plan journal).server entry.session ≡ false → New on_now (moment plan journal).tool.tool_phase
      idle_by false differ cut idle = same_counts (others_turns differ) (others_waited differ) (moment plan journal).tool.tool_phase refl
      idle_by true own cut idle =
          let who = same_actor_is entry.actor Apply own in
          same_counts (cut_turns cut) (own_cut who cut ∙ sym (subst (λ (a : Actor). waited_by plan journal a ≡ 0) who (idle_cut plan journal entry together run cut idle))) (moment plan journal).tool.tool_phase refl

      lost_by : (b : Bool) → same_actor entry.actor Apply ≡ b → entry.asked ≡ Cut → has_work (moment plan journal).server entry.session ≡ true → AnswerLeaves plan New answers.Lost tool entry.actor (moment plan journal).tool.tool_phase
      lost_by false differ cut worked = others_leave answers.Lost differ entry.actor differ (moment plan journal).tool.tool_phase refl
      lost_by true own cut worked =
          let who = same_actor_is entry.actor Apply own in
          subst (λ (a : Actor). AnswerLeaves plan New answers.Lost tool a (moment plan journal).tool.tool_phase) (sym who) (lost_leave who cut worked (moment plan journal).tool.tool_phase refl)

      heard_by : (b : Bool) → same_actor entry.actor Apply ≡ b → is_command entry.asked ≡ false → is_cut entry.asked ≡ false → AnswerLeaves plan New entry.answer tool entry.actor (moment plan journal).tool.tool_phase
      heard_by false differ called uncut = others_leave entry.answer differ entry.actor differ (moment plan journal).tool.tool_phase refl
      heard_by true own called uncut =
          let who = same_actor_is entry.actor Apply own in
          subst (λ (a : Actor). AnswerLeaves plan New entry.answer tool a (moment plan journal).tool.tool_phase) (sym who) (heard_leave who called uncut (moment plan journal).tool.tool_phase refl)

    held_more : IsHeld more
    held_more = record { counted = counted_now; stands = turn_left plan New back journal entry (λ b work tries now. now) (λ b work size now. now) turn_leaves }

  held_begins : IsHeld []
  unfolding moment
  held_begins = record { counted = counted_begins plan runs.fitting.scripts; stands = let none = count_none OfBatches plan in omega (arith, none) }

  all_held : (journal : List Entry) → IsKept plan journal → IsHeld journal
  all_held journal kept = each_kept plan IsHeld (λ before entry one is. held_more before entry one is) journal kept held_begins

  -- what they come to
  module _ (journal : List Entry) (kept : IsKept plan journal) where
    abbrev had : ℕ
    had = turns_of_part OfBatches plan journal

    abbrev had_waited : ℕ
    had_waited = waited_by plan journal Apply

    held : IsHeld journal
    held = all_held journal kept

    few_by : (done reverting : Bool) (count : ℕ) (applier : Applier) → altered journal ≡ done → Working done reverting journal (log_of journal) had had_waited count applier → had ≤ limit
    few_by true reverting count applier at is = is.within
    few_by false true count applier at is = is.within
    few_by false false count applier at is = (open_shut journal (log_of journal) had had_waited count applier (short_is journal held.counted) (within_is journal kept at) is).within

    few_turns : (tool_phase : ToolPhase) → Holding (altered journal) journal (log_of journal) had had_waited (is_reverting (moment plan journal).tool.reason) tool_phase → had ≤ limit
    few_turns (SettingUp setup tries) is = omega (arith, is)
    few_turns (Migrating work) is = few_by (altered journal) (is_reverting (moment plan journal).tool.reason) (length work.batch_tries) work.applier refl is

-- *The batches' turns are few*
pub batch_few : DefinitionsAreDone → BatchTurnsAreFew
batch_few defined plan journal runs serial may some go few_logs kept = few_turns defined plan runs serial may some go few_logs journal kept (moment plan journal).tool.tool_phase (held defined plan runs serial may some go few_logs journal kept).stands
