-- The RENAME is done at most once: behind one of the run's the new table isn't listed, and the new tool exchanges the tables once at most.
use Rattle.std.proofs.Common.{◌≡◌, ◌≤◌, ◌⊎◌, ℕ, ◌+◌, ◌==◌, not, Bool, true, false, ◌&&◌, List, [], ◌∷◌, ◌++◌, cond, Option, Some, None, refl, sym, ap, ◌∙◌, subst, inl, inr, append_assoc, append-nil}
use Rattle.std.specs.Prelude.{count_by, is_some, length}
use Rattle.std.specs.List.{list_any}
use Rattle.std.proofs.lemmas.Bool.{true≢false}
use Rattle.std.proofs.Math.Seq.{drop-append_seam}
use Rattle.base_values.specs.ToolNames.{ghost_name, log_name, old_name}
use Rattle.base_script.specs.declared.actor.Actor.{Actor}
use Rattle.base_script.specs.declared.actor.Actor.TheVariants.{Op, Insp, Copy, Apply, Lock, Ren, Client}
use Rattle.server_model.specs.Along.{Along, Along-keeps}
use Rattle.server_model.specs.Entries.{is_client, is_command, is_cut}
use Rattle.server_model.specs.Listings.{tables_shown}
use Rattle.server_model.specs.PlainServer.{did, done}
use Rattle.server_model.specs.States.{State, session_of, unread}
use Rattle.server_model.specs.declared.listing.TableName.{TableName}
use Rattle.server_model.specs.declared.answer.Answer.{Answer}
use Rattle.server_model.specs.declared.answer.Answer.TheVariants as answers
use Rattle.server_model.specs.declared.entry.Asked.{Asked}
use Rattle.server_model.specs.declared.entry.Asked.TheVariants.{Call, Poll, Command, Cut}
use Rattle.server_model.specs.declared.entry.Entry.{Entry}
use Rattle.server_model.specs.declared.outcome.Progress.{Progress}
use Rattle.server_model.specs.declared.outcome.Progress.TheVariants.{Going, TaskDone, TaskFailed, Unfit}
use Rattle.server_model.specs.declared.request.Request.{Request}
use Rattle.server_model.specs.declared.request.Request.TheVariants as requests
use Rattle.plan_data.specs.PlanData.{PlanData, has_counter}
use Rattle.tool_notes.specs.declared.checkpoint.Checkpoint.{Checkpoint}
use Rattle.run_actors.proofs.AlterTurns.{of_client}
use Rattle.tool_program.specs.CutoverCore.Attempts.{has_name, has_sentry}
use Rattle.tool_program.specs.JournalWords.Histories as histories
use Rattle.tool_program.specs.JournalWords.Histories.{Alter, HistoryItem, adds, alters, answer_in, asked_about, entry_adds, history, is_alter, renames_away, request_waiting}
use Rattle.tool_program.specs.JournalWords.Journals.{may_lose, opens, state_at, IsAnswered, IsFaithful}
use Rattle.tool_program.specs.JournalWords.Sessions.{IsSeated, KeepsSessions}
use Rattle.tool_program.specs.Tools.{Migrating, SettingUp, ToolPhase, moment}
use Rattle.tool_program.specs.declared.chunk_copier.copier.Copier.{Copier}
use Rattle.tool_program.specs.declared.chunk_copier.copier.CopyRange.{CopyRange}
use Rattle.tool_program.specs.declared.chunk_copier.copier.CopyStep.{CopyStep}
use Rattle.tool_program.specs.declared.chunk_copier.copier.CopyStep.TheVariants as chunks
use Rattle.tool_program.specs.ChunkCopier.Copiers as copiers
use Rattle.tool_program.specs.declared.event_applier.applier.Applier.{Applier}
use Rattle.tool_program.specs.declared.event_applier.applier.ApplyStep.{ApplyStep}
use Rattle.tool_program.specs.declared.event_applier.applier.ApplyStep.TheVariants as batches
use Rattle.tool_program.specs.EventApplier.Appliers.{Doing}
use Rattle.tool_program.specs.EventApplier.Appliers as appliers
use Rattle.tool_finish.specs.declared.stage.Listed.{Listed}
use Rattle.tool_finish.specs.declared.stage.Listed.TheVariants.{NotRenamed, Renamed}
use Rattle.tool_finish.specs.declared.stage.Stage.{Stage}
use Rattle.tool_finish.specs.declared.stage.Stage.TheVariants.{Losing, Listing, Reading, Clearing, ReadingCounter, SettingCounter, Ranging, Copying, Applying, Exchanging, DroppingLog, DroppingOld, RollingBack, Done, Reverted}
use Rattle.tool_finish.specs.declared.stage.UnfitRow.{UnfitRow}
use Rattle.tool_finish.specs.Finishes.{applied, applying, checkpoint_in, copied, copier_from, applier_from, copying, counter_read, counting, dropped_log, first_live, has_read, listed, listed_in, losing, next, ranged, rolls_back, stage_behind, took, IsFinish, IsFinishTurn}
use Rattle.tool_finish.specs.Finishes as finishes
use Rattle.tool_finish.proofs.Walking.{stage_more}
use Rattle.proof_journals.specs.Machine.MigrationTables.{schema_of}
use Rattle.proof_journals.specs.Machine.Runnable.{IsRunnable}
use Rattle.proof_journals.specs.Machine.Standings.{standing_of}
use Rattle.proof_journals.specs.Plans.{IsSerialPlan}
use Rattle.proof_journals.specs.Run.Kept.{IsKept}
use Rattle.proof_journals.specs.Scenes.{Stored}
use Rattle.proof_journals.proofs.Journals.{stored_opened}
use Rattle.proof_journals.proofs.Machine.Calling.{served_along}
use Rattle.proof_journals.proofs.Machine.Schemas.{is_quiet, schema_rests}
use Rattle.proof_journals.proofs.Machine.Seated.{all_known, known_more, own_waiting, IsKnown, IsServed}
use Rattle.proof_journals.proofs.ServerTurns.Defining.{definitions_are_done}
use Rattle.proof_migration.specs.ToolPhase.Unaltered.{IsUnaltered}
use Rattle.proof_migration.proofs.Attempt.InspectorAnswers.{listed_is}
use Rattle.proof_migration.proofs.Once.Past.{goes_past, GoesPast, IsPast, ToolPhasePast}
use Rattle.proof_migration.proofs.Once.Renames.{renamed_past, unaltered_more}
use Rattle.proof_migration.proofs.Once.Whole.{come_once}
use Rattle.proof_migration.proofs.Program.Turns.Follows.{kept_front, kept_run}
use Rattle.proof_migration.proofs.ToolPhase.Marked.{none_yet, once_more}
use Rattle.proof_migration.proofs.ToolPhase.Unaltered.Away.{all_asked}
use Rattle.proof_resume.specs.Finish.Marks.{FinishesAlterOnce}
use Rattle.proof_resume.proofs.Finish.Holders.{any_own, nothing_outside}
use Rattle.proof_resume.proofs.Finish.Owners.{Owners}
use Rattle.proof_resume.proofs.Finish.Prompt.{alone_begins, alone_more, answer_is, finish_turns, its_request, lost_cut, GoesAlone, StandsAlone}

-- BEHIND A RENAME OF THE RUN'S

-- it is done, and the new table's name is free, or it isn't done
module _ (plan : PlanData) (runs : IsRunnable plan) (serial : IsSerialPlan plan) where
  abbrev PastOr : List Entry → Type 0
  PastOr journal = IsUnaltered plan journal ⊎ IsPast plan journal

  past_more : (journal : List Entry) (entry : Entry) → IsKept plan (journal ++ entry ∷ []) → PastOr journal → PastOr (journal ++ entry ∷ [])
  past_more journal entry kept (inl off) = by (list_any is_alter (entry_adds plan journal entry)) refl where
    by : (b : Bool) → list_any is_alter (entry_adds plan journal entry) ≡ b → PastOr (journal ++ entry ∷ [])
    by true is = inr (renamed_past definitions_are_done plan journal entry runs serial kept off is)
    by false is = inl (unaltered_more plan journal entry off is)
  past_more journal entry kept (inr past) =
      let before : IsKept plan journal = kept_front plan journal (entry ∷ []) kept in
      let goes : GoesPast plan journal entry = goes_past definitions_are_done plan journal entry serial runs (all_asked plan journal runs before.faithful before.follows) (kept_run plan journal entry kept) past in
      inr goes.past

  past_so : (some journal : List Entry) → IsKept plan (some ++ journal) → PastOr some → PastOr (some ++ journal)
  past_so some [] kept past = subst PastOr (sym (append-nil some)) past
  past_so some (entry ∷ journal) kept past =
      let all : (some ++ entry ∷ []) ++ journal ≡ some ++ entry ∷ journal = append_assoc some (entry ∷ []) journal in
      let later : IsKept plan ((some ++ entry ∷ []) ++ journal) = subst (IsKept plan) (sym all) kept in
      subst PastOr all (past_so (some ++ entry ∷ []) journal later (past_more some entry (kept_front plan (some ++ entry ∷ []) journal later) past))

  unaltered_first : IsUnaltered plan []
  unfolding history
  unaltered_first = refl

  pub run_past : (run : List Entry) → IsKept plan run → PastOr run
  run_past run kept = past_so [] run kept (inl unaltered_first)

-- WHAT IS LISTED

-- *What is listed* are the tables that exist
pub done_lists : (state : State) (number : ℕ) → (done state number requests.ShowTables).answer ≡ answers.Tables (tables_shown state.tables)
unfolding did
done_lists state number = rw (nothing_outside state number (session_of number state.sessions) requests.ShowTables refl) refl

-- whether the new table is listed
abbrev pub lists_new : Listed → Bool
lists_new (NotRenamed sentry) = true
lists_new (Renamed old) = false

-- whether the sentry is
abbrev pub lists_sentry : Listed → Bool
lists_sentry (NotRenamed sentry) = sentry
lists_sentry (Renamed old) = false

pub lists_new_is : (plan : PlanData) (tables : List TableName) → lists_new (listed_in plan tables) ≡ has_name (ghost_name plan.table) tables
lists_new_is plan tables = by (has_name (ghost_name plan.table) tables) where
  by : (new : Bool) → lists_new (cond new (NotRenamed (has_sentry plan.table tables)) (Renamed (has_name (old_name plan.table) tables))) ≡ new
  by true = refl
  by false = refl

pub lists_sentry_is : (plan : PlanData) (tables : List TableName) → has_name (ghost_name plan.table) tables ≡ true → lists_sentry (listed_in plan tables) ≡ has_sentry plan.table tables
lists_sentry_is plan tables new = ap (λ (b : Bool). lists_sentry (cond b (NotRenamed (has_sentry plan.table tables)) (Renamed (has_name (old_name plan.table) tables)))) new

-- WHAT A TURN ADDS TO THE HISTORY

module _ (plan : PlanData) (journal : List Entry) (entry : Entry) where
  abbrev own_adds : List HistoryItem
  own_adds = alters plan (histories.about journal entry) (answer_in entry.asked entry.side entry.answer entry.missed)

  -- no client's turn adds the ALTER
  pub adds_case : (P : List HistoryItem → Type 0) → ((items : List HistoryItem) → list_any is_alter items ≡ false → P items) → P own_adds → (actor : Actor) → P (adds plan journal entry actor)
  adds_case P none own (Client number) = none (adds plan journal entry (Client number)) (of_client plan journal entry number)
  adds_case P none own Op = own
  adds_case P none own Insp = own
  adds_case P none own Copy = own
  adds_case P none own Apply = own
  adds_case P none own Lock = own
  adds_case P none own Ren = own

  alters_none : (request : Option Request) (given : Option Answer) → renames_away plan.table request ≡ false → list_any is_alter (alters plan request given) ≡ false
  alters_none request (Some (answers.Ok count)) off = ap (λ (b : Bool). list_any is_alter (cond b (Alter ∷ []) [])) off
  alters_none request given off = refl

  adds_none : list_any is_alter own_adds ≡ false → list_any is_alter (entry_adds plan journal entry) ≡ false
  adds_none off = adds_case (λ items. list_any is_alter items ≡ false) (λ items none. none) off entry.actor

  -- a call that renames no migrated table
  call_none : (request : Request) → entry.asked ≡ Call request → renames_away plan.table (Some request) ≡ false → list_any is_alter (entry_adds plan journal entry) ≡ false
  call_none request called off =
      adds_none
      (ap (λ (asked : Asked). list_any is_alter (alters plan (asked_about asked (request_waiting journal entry.actor)) (answer_in asked entry.side entry.answer entry.missed))) called
      ∙ alters_none (Some request) (answer_in (Call request) entry.side entry.answer entry.missed) off)

  -- a loss
  cut_none : is_cut entry.asked ≡ true → list_any is_alter (entry_adds plan journal entry) ≡ false
  cut_none cut = adds_none (by entry.asked cut) where
    by : (asked : Asked) → is_cut asked ≡ true → list_any is_alter (alters plan (asked_about asked (request_waiting journal entry.actor)) (answer_in asked entry.side entry.answer entry.missed)) ≡ false
    by Cut cut = refl
    by (Call request) cut = absurd (true≢false (sym cut))
    by Poll cut = absurd (true≢false (sym cut))
    by (Command word) cut = absurd (true≢false (sym cut))

-- the machines make, drop and rename no table
abbrev pub is_quiet_if : Option Request → Bool
is_quiet_if None = true
is_quiet_if (Some request) = is_quiet request

pub copier_quiet : (journal : List Entry) (copier : Copier) → is_quiet_if (copiers.next journal copier) ≡ true
unfolding copiers.next
copier_quiet journal copier = by copier.is_copied where
  row : (key : Option _) → is_quiet_if (copiers.copies copier key) ≡ true
  row None = refl
  row (Some key) = refl

  at : (range : CopyRange) (step : CopyStep) → is_quiet_if (copiers.call_at journal copier range step) ≡ true
  at range chunks.Choosing = refl
  at range (chunks.Spanning reported size) = refl
  at range (chunks.Copying chunk copied) = row (copiers.key_at journal (chunks.Copying chunk copied))
  at range (chunks.Committing chunk) = refl

  in_range : (range : Option CopyRange) → is_quiet_if (copiers.call_in journal copier range) ≡ true
  in_range None = refl
  in_range (Some range) = at range copier.step

  by : (b : Bool) → is_quiet_if (cond b None (copiers.call_in journal copier copier.range)) ≡ true
  by true = refl
  by false = in_range copier.range

pub applier_quiet : (journal : List Entry) (applier : Applier) → is_quiet (appliers.next journal applier) ≡ true
unfolding appliers.next
applier_quiet journal applier = at applier.step where
  statement : (doing : Option Doing) → is_quiet (appliers.statement_result applier doing) ≡ true
  statement None = refl
  statement (Some doing) = refl

  at : (step : ApplyStep) → is_quiet (appliers.call_at journal applier step) ≡ true
  at batches.Reading = refl
  at (batches.Beginning batch) = refl
  at (batches.Applying batch done part) = statement (appliers.doing_at journal applier (batches.Applying batch done part))
  at (batches.Committing batch) = refl

quiet_renames : (table : List ℕ) (request : Request) → is_quiet request ≡ true → renames_away table (Some request) ≡ false
quiet_renames table (requests.Rename pairs) quiet = absurd (true≢false (sym quiet))
quiet_renames table request quiet = refl

-- EACH STAGE

-- the RENAME isn't done yet, or the new table's name is free
abbrev pub FirstSo : PlanData → List Entry → Type 0
FirstSo plan journal = IsUnaltered plan journal ⊎ (schema_of (ghost_name plan.table) (state_at plan journal).tables ≡ None)

-- where the new table is listed, the RENAME isn't done before the exchange
abbrev pub MarkAt : PlanData → List Entry → Stage → Type 0
MarkAt plan journal Losing = FirstSo plan journal
MarkAt plan journal Listing = FirstSo plan journal
MarkAt plan journal (Reading seen) = IsUnaltered plan journal ⊎ (lists_new seen ≡ false)
MarkAt plan journal (DroppingLog old) = Unit {0}
MarkAt plan journal DroppingOld = Unit {0}
MarkAt plan journal Done = Unit {0}
MarkAt plan journal stage = IsUnaltered plan journal

module _ (plan : PlanData) (journal : List Entry) (entry : Entry) (in_own : IsSeated journal entry) (unlost : entry.side ≡ None) (answered : IsAnswered (state_at plan journal) entry) (owners : Owners plan journal) (known : IsKnown plan journal) where
  abbrev more : List Entry
  more = journal ++ entry ∷ []

  abbrev now : State
  now = state_at plan journal

  abbrev after : State
  after = state_at plan more

  -- the turn leaves the history as it was, or alters for the first time; and what is so behind it
  record Marks (stage : Stage) : Type 0 where
    first : list_any is_alter (entry_adds plan journal entry) ≡ true → IsUnaltered plan journal
    marks : MarkAt plan more stage

  abbrev AddsNone : Type 0
  AddsNone = list_any is_alter (entry_adds plan journal entry) ≡ false

  served : IsServed plan journal entry
  served = record { answered = answered; seated = in_own }

  still : AddsNone → (stage : Stage) → MarkAt plan more stage → Marks stage
  still none stage marks = record { first = λ alters. absurd (true≢false (sym alters ∙ none)); marks = marks }

  off_more : AddsNone → IsUnaltered plan journal → IsUnaltered plan more
  off_more none off = unaltered_more plan journal entry off none

  quiet : (asked : Asked) → is_cut asked ≡ true → may_lose asked ≡ false
  quiet Cut cut = refl
  quiet (Call request) cut = absurd (true≢false (sym cut))
  quiet Poll cut = absurd (true≢false (sym cut))
  quiet (Command word) cut = absurd (true≢false (sym cut))

  cut_first : is_cut entry.asked ≡ true → FirstSo plan journal → FirstSo plan more
  cut_first cut (inl off) = inl (off_more (cut_none plan journal entry cut) off)
  cut_first cut (inr free) = inr (schema_rests plan journal entry served (own_waiting plan journal entry known served) (ghost_name plan.table) (quiet entry.asked cut) ∙ free)

  losing_marks : (live : Bool) → FirstSo plan more → MarkAt plan more (cond live Losing Listing)
  losing_marks true first = first
  losing_marks false first = first

  listed_marks : (called : entry.asked ≡ Call requests.ShowTables) → StandsAlone journal now Listing → FirstSo plan journal → MarkAt plan more (listed plan entry.answer)
  listed_marks called held first =
      subst (λ (a : Answer). MarkAt plan more (listed plan a)) (sym (answer_is plan journal entry in_own.session unlost answered owners requests.ShowTables called (any_own (Some entry.session) now held) ∙ done_lists (opens entry now) entry.session)) (by first) where
        by : FirstSo plan journal → IsUnaltered plan more ⊎ (lists_new (listed_in plan (tables_shown (opens entry now).tables)) ≡ false)
        by (inl off) = inl (off_more (call_none plan journal entry requests.ShowTables called refl) off)
        by (inr free) =
            inr (lists_new_is plan (tables_shown (opens entry now).tables) ∙ listed_is (ghost_name plan.table) (opens entry now).tables ∙ ap is_some (ap (λ (s : Stored). schema_of (ghost_name plan.table) s.tables) (stored_opened (is_command entry.asked) (not (is_client entry.actor)) entry.session now) ∙ free))

  counting_marks : (found : Checkpoint) → IsUnaltered plan more → MarkAt plan more (counting plan found)
  counting_marks found off = by (has_counter plan) where
    by : (b : Bool) → MarkAt plan more (cond b (ReadingCounter found) (Ranging found))
    by true = off
    by false = off

  read_marks : (seen : Listed) (found : Option Checkpoint) → IsUnaltered plan more ⊎ (lists_new seen ≡ false) → MarkAt plan more (has_read plan seen found)
  read_marks seen None so = so
  read_marks (NotRenamed true) (Some found) (inl off) = off
  read_marks (NotRenamed false) (Some found) (inl off) = counting_marks found off
  read_marks (NotRenamed sentry) (Some found) (inr none) = absurd (true≢false none)
  read_marks (Renamed old) (Some found) so = tt

  counter_marks : (found : Checkpoint) (given : Answer) → IsUnaltered plan more → MarkAt plan more (counter_read found given)
  counter_marks found (answers.At number) off = off
  counter_marks found given off = off

  applying_marks : (applier : Applier) → IsUnaltered plan more → MarkAt plan more (applying plan after applier)
  applying_marks applier off = by (appliers.starts applier && (unread after applier.position (plan.table ∷ log_name plan.table ∷ []) == 0)) where
    by : (b : Bool) → MarkAt plan more (cond b Exchanging (Applying applier))
    by true = off
    by false = off

  copying_marks : (copier : Copier) (applier : Applier) → IsUnaltered plan more → MarkAt plan more (copying plan after copier applier)
  copying_marks copier applier off = by copier.is_copied where
    by : (b : Bool) → MarkAt plan more (cond b (applying plan after applier) (Copying copier applier))
    by true = applying_marks applier off
    by false = off

  copied_marks : (turn : ℕ) (applier : Applier) (before then : Copier) (progress : Progress) → IsUnaltered plan more → MarkAt plan more (copied plan after turn applier before then progress)
  copied_marks turn applier before then (Unfit column number) off = off
  copied_marks turn applier before then Going off = copying_marks then applier off
  copied_marks turn applier before then TaskDone off = copying_marks then applier off
  copied_marks turn applier before then TaskFailed off = copying_marks then applier off

  applied_marks : (turn : ℕ) (before then : Applier) (progress : Progress) → IsUnaltered plan more → MarkAt plan more (applied plan after turn before then progress)
  applied_marks turn before then (Unfit column number) off = off
  applied_marks turn before then Going off = applying_marks then off
  applied_marks turn before then TaskDone off = applying_marks then off
  applied_marks turn before then TaskFailed off = applying_marks then off

  ranged_marks : (found : Checkpoint) (given : Answer) → IsUnaltered plan more → MarkAt plan more (ranged plan after found given)
  ranged_marks found (answers.Ends range) off = copying_marks (copier_from plan found.reach range) (applier_from plan found.position) off
  ranged_marks found given off = off

  log_marks : (old : Bool) → MarkAt plan more (dropped_log old)
  log_marks true = tt
  log_marks false = tt

  call_adds : (actor : Actor) (request : Request) → renames_away plan.table (Some request) ≡ false → finishes.calls actor request ≡ Some (entry.actor, entry.asked) → AddsNone
  call_adds actor request off is = call_none plan journal entry request (its_request entry actor request is) off

  copier_adds : (request : Option Request) → is_quiet_if request ≡ true → finishes.copies request ≡ Some (entry.actor, entry.asked) → AddsNone
  copier_adds None quiet is = absurd (cc)
  copier_adds (Some request) quiet is = call_adds Copy request (quiet_renames plan.table request quiet) is

  -- a turn that renames nothing leaves the history unaltered
  goes_still : AddsNone → (stage : Stage) → (IsUnaltered plan more → MarkAt plan more stage) → IsUnaltered plan journal → Marks stage
  goes_still none stage marks off = still none stage (marks (off_more none off))

  read_so : (seen : Listed) → AddsNone → MarkAt plan journal (Reading seen) → IsUnaltered plan more ⊎ (lists_new seen ≡ false)
  read_so seen none (inl off) = inl (off_more none off)
  read_so seen none (inr gone) = inr gone

  turn_marks : (stage : Stage) → next plan journal stage ≡ Some (entry.actor, entry.asked) → StandsAlone journal now stage → MarkAt plan journal stage → Marks (took plan more after entry.answer stage)
  unfolding next took
  turn_marks Losing is held marks =
      let cut : is_cut entry.asked ≡ true = lost_cut entry (first_live plan journal) is in still (cut_none plan journal entry cut) _ (losing_marks (is_some (first_live plan more)) (cut_first cut marks))
  turn_marks Listing is held marks = still (call_adds Insp _ refl is) _ (listed_marks (its_request entry Insp requests.ShowTables is) held marks)
  turn_marks (Reading seen) is held marks = let none : AddsNone = call_adds Insp _ refl is in still none _ (read_marks seen (checkpoint_in entry.answer) (read_so seen none marks))
  turn_marks (Clearing found) is held marks = goes_still (call_adds Insp _ refl is) _ (counting_marks found) marks
  turn_marks (ReadingCounter found) is held marks = goes_still (call_adds Insp _ refl is) _ (counter_marks found entry.answer) marks
  turn_marks (SettingCounter found number) is held marks = goes_still (call_adds Insp _ refl is) (Ranging found) (λ off. off) marks
  turn_marks (Ranging found) is held marks = goes_still (call_adds Insp _ refl is) _ (ranged_marks found entry.answer) marks
  turn_marks (Copying copier applier) is held marks =
      goes_still (copier_adds (copiers.next journal copier) (copier_quiet journal copier) is) _
      (copied_marks (length more) applier copier (copiers.took (length more) copier entry.answer) (copiers.progress copier entry.answer)) marks
  turn_marks (Applying applier) is held marks =
      goes_still (call_adds Apply (appliers.next journal applier) (quiet_renames plan.table (appliers.next journal applier) (applier_quiet journal applier)) is) _
      (applied_marks (length more) applier (appliers.took (length more) applier entry.answer) (appliers.progress applier entry.answer)) marks
  turn_marks Exchanging is held marks = record { first = λ alters. marks; marks = tt }
  turn_marks (DroppingLog old) is held marks = still (call_adds Insp _ refl is) _ (log_marks old)
  turn_marks DroppingOld is held marks = still (call_adds Insp _ refl is) _ tt
  turn_marks (RollingBack row) is held marks = goes_still (back row is) (Reverted row) (λ off. off) marks where
    back : (row : UnfitRow) → finishes.calls (rolls_back row) requests.Rollback ≡ Some (entry.actor, entry.asked) → AddsNone
    back row is = call_adds (rolls_back row) requests.Rollback refl is
  turn_marks Done is held marks = absurd (cc)
  turn_marks (Reverted row) is held marks = absurd (cc)

-- ALONG THE TURNS

-- *At most one ALTER* behind these turns
pub record GoesMarked (plan : PlanData) (run turns : List Entry) : Type 0 where
  pub alone : GoesAlone plan run turns
  pub known : IsKnown plan (run ++ turns)
  pub once : count_by is_alter (history plan (run ++ turns)) ≤ 1
  pub marks : MarkAt plan (run ++ turns) (stage_behind plan run turns)

abbrev Turn : PlanData → List Entry → List Entry → Entry → Type 0
Turn plan run before entry = IsFinishTurn plan run before entry × IsAnswered (state_at plan before) entry

pub marked_more : (plan : PlanData) (run turns : List Entry) (entry : Entry) → Turn plan run (run ++ turns) entry → GoesMarked plan run turns → GoesMarked plan run (turns ++ entry ∷ [])
marked_more plan run turns entry turn goes =
    let journal : List Entry = run ++ turns in
    let more : List Entry = journal ++ entry ∷ [] in
    let all : run ++ (turns ++ entry ∷ []) ≡ more = sym (append_assoc run turns (entry ∷ [])) in
    let stage : Stage = stage_behind plan run turns in
    let given : next plan journal stage ≡ Some (entry.actor, entry.asked) = ap (λ (some : List Entry). next plan journal (stage_behind plan run some)) (sym (drop-append_seam run turns)) ∙ turn.0.given in
    let one = turn_marks plan journal entry (record { session = turn.0.session }) turn.0.side turn.1 goes.alone.owners goes.known stage given goes.alone.stands goes.marks in
    record {
      alone = (alone_more plan run turns entry turn.0 turn.1 goes.alone).goes;
      known = subst (IsKnown plan) (sym all) (known_more plan journal entry goes.known (record { answered = turn.1; seated = record { session = turn.0.session } }));
      once = subst (λ (j : List Entry). count_by is_alter (history plan j) ≤ 1) (sym all) (once_more plan journal entry goes.once one.first);
      marks = subst (λ (j : List Entry). MarkAt plan j (stage_behind plan run (turns ++ entry ∷ []))) (sym all) (subst (MarkAt plan more) (sym (stage_more plan run turns entry)) one.marks);
    }

all_marked : (plan : PlanData) (run turns rest : List Entry) → Along (Turn plan run) (run ++ turns) rest → GoesMarked plan run turns → GoesMarked plan run (turns ++ rest)
all_marked plan run turns [] kept goes = subst (GoesMarked plan run) (sym (append-nil turns)) goes
all_marked plan run turns (entry ∷ rest) kept goes =
    subst (GoesMarked plan run) (append_assoc turns (entry ∷ []) rest)
    (all_marked plan run (turns ++ entry ∷ []) rest (subst (λ (all : List Entry). Along (Turn plan run) all rest) (append_assoc run turns (entry ∷ [])) kept.1) (marked_more plan run turns entry kept.0 goes))

pub marked_begins : (plan : PlanData) (run : List Entry) → IsRunnable plan → IsSerialPlan plan → IsKept plan run → count_by is_alter (history plan run) ≤ 1 → GoesMarked plan run []
unfolding stage_behind KeepsSessions
marked_begins plan run runs serial kept once = record {
  alone = alone_begins plan run kept;
  known = subst (IsKnown plan) (sym (append-nil run)) (all_known plan run (served_along plan [] run kept.faithful kept.sessions));
  once = subst (λ (j : List Entry). count_by is_alter (history plan j) ≤ 1) (sym (append-nil run)) once;
  marks = subst (λ (j : List Entry). MarkAt plan j (losing plan run)) (sym (append-nil run)) (by (is_some (first_live plan run)) (first (run_past plan runs serial run kept)));
} where
  first : PastOr plan runs serial run → FirstSo plan run
  first (inl off) = inl off
  first (inr past) = inr (gone (moment plan run).tool.tool_phase past) where
    gone : (tool_phase : ToolPhase) → ToolPhasePast plan (state_at plan run).tables (standing_of plan run Insp).waits tool_phase → schema_of (ghost_name plan.table) (state_at plan run).tables ≡ None
    gone (SettingUp setup tries) at = absurd at
    gone (Migrating work) at = at.0

  by : (b : Bool) → FirstSo plan run → MarkAt plan run (cond b Losing Listing)
  by true first = first
  by false first = first

pub marked_run : (plan : PlanData) (run : List Entry) → IsRunnable plan → IsSerialPlan plan → IsKept plan run → GoesMarked plan run []
marked_run plan run runs serial kept =
    marked_begins plan run runs serial kept
    (Along-keeps (λ before one. list_any is_alter (entry_adds plan before one) ≡ true → IsUnaltered plan before) (λ all. count_by is_alter (history plan all) ≤ 1) (λ all entry first once. once_more plan all entry once first) [] run (come_once definitions_are_done plan run runs serial kept) (none_yet plan))

pub finish_marked : (plan : PlanData) (run turns : List Entry) → IsRunnable plan → IsSerialPlan plan → IsKept plan run → IsFinish plan run turns → IsFaithful plan (run ++ turns) → GoesMarked plan run turns
finish_marked plan run turns runs serial kept finish faithful =
    all_marked plan run [] turns (subst (λ (all : List Entry). Along (Turn plan run) all turns) (sym (append-nil run)) (finish_turns plan run turns finish faithful))
    (marked_run plan run runs serial kept)

-- *Finishes alter once*
pub finishes_alter_once : FinishesAlterOnce
finishes_alter_once plan run turns runs serial kept finish faithful = (finish_marked plan run turns runs serial kept finish faithful).once
