-- A new tool that reverts names a row that can't be converted: along its turns what it rolls back, and what it reverted by, stands in the journal.
use Rattle.std.proofs.Common.{◌≡◌, ℕ, ◌==◌, Bool, true, false, ◌&&◌, List, [], ◌∷◌, ◌++◌, length, cond, Option, Some, None, refl, sym, ap, ◌∙◌, subst, append_assoc, append-nil}
use Rattle.std.specs.Prelude.{is_some}
use Rattle.std.proofs.lemmas.List.{length-append}
use Rattle.std.proofs.Math.Seq.{drop-append_seam}
use Rattle.base_values.specs.Laws.{StoresAgain}
use Rattle.base_values.specs.declared.value.Value.{Value}
use Rattle.base_values.specs.GhoSchema.Rows.{key_places}
use Rattle.base_values.specs.ToolNames.{log_name}
use Rattle.base_script.specs.declared.actor.Actor.TheVariants.{Copy, Apply}
use Rattle.server_model.specs.Along.{Along, Along-more}
use Rattle.server_model.specs.declared.answer.Answer.{Answer}
use Rattle.server_model.specs.declared.answer.Answer.TheVariants as answers
use Rattle.server_model.specs.declared.entry.Asked.TheVariants.{Call}
use Rattle.server_model.specs.declared.entry.Entry.{Entry}
use Rattle.server_model.specs.declared.outcome.Progress.{Progress}
use Rattle.server_model.specs.declared.outcome.Progress.TheVariants.{Going, TaskDone, TaskFailed, Unfit}
use Rattle.server_model.specs.declared.request.Request.{Request}
use Rattle.server_model.specs.Entries.{is_client, is_command}
use Rattle.server_model.specs.States.{State, is_of_tool, session_of, unread}
use Rattle.plan_data.specs.PlanData.{PlanData, has_counter, old_schema}
use Rattle.tool_notes.specs.declared.checkpoint.Checkpoint.{Checkpoint}
use Rattle.tool_program.specs.JournalWords.Journals.{IsAnswered, IsFaithful, opens, state_at}
use Rattle.tool_program.specs.JournalWords.Sessions.{IsSeated, live_session}
use Rattle.tool_program.specs.declared.chunk_copier.copier.Copier.{Copier}
use Rattle.tool_program.specs.declared.event_applier.applier.Applier.{Applier}
use Rattle.tool_program.specs.ChunkCopier.Copiers as copiers
use Rattle.tool_program.specs.EventApplier.Appliers as appliers
use Rattle.tool_program.specs.Tools.{moment}
use Rattle.tool_program.specs.Verdicts.{new_column_name}
use Rattle.tool_finish.specs.Checkpoints.{is_migrating}
use Rattle.tool_finish.specs.declared.stage.Listed.{Listed}
use Rattle.tool_finish.specs.declared.stage.Listed.TheVariants.{NotRenamed, Renamed}
use Rattle.tool_finish.specs.declared.stage.Refusal.{Refusal}
use Rattle.tool_finish.specs.declared.stage.Stage.{Stage}
use Rattle.tool_finish.specs.declared.stage.Stage.TheVariants.{Losing, Listing, Reading, Clearing, ReadingCounter, SettingCounter, Ranging, Copying, Applying, Exchanging, DroppingLog, DroppingOld, RollingBack, Done, Reverted}
use Rattle.tool_finish.specs.declared.stage.UnfitRow.{UnfitRow}
use Rattle.tool_finish.specs.declared.stage.UnfitRow.TheVariants.{Copied, Applied}
use Rattle.tool_finish.specs.Finishes.{IsFinish, IsFinishTurn, applied, applier_from, applying, checkpoint_in, copied, copier_from, copying, counter_read, counting, dropped_log, first_live, has_read, listed, next, ranged, stage_behind, took}
use Rattle.tool_finish.specs.Finishes as finishes
use Rattle.tool_finish.specs.WholeJournals.{IsUnfitBehind, row_at}
use Rattle.tool_finish.proofs.Walking.{stage_more}
use Rattle.proof_journals.specs.Ghost.HeldKeys.{Clustered}
use Rattle.proof_journals.specs.Ghost.Rows.Timelines.{Migration}
use Rattle.proof_journals.specs.Machine.MigrationTables.{TablesExist}
use Rattle.proof_journals.specs.Machine.Standings.{is_called, standing_of}
use Rattle.proof_journals.specs.Plans.{IsPlanRun}
use Rattle.proof_journals.specs.Run.Kept.{IsKept}
use Rattle.proof_journals.proofs.Actors.{placed}
use Rattle.proof_journals.proofs.Machine.Seated.{IsServed}
use Rattle.proof_migration.specs.Migration.Planning.{migration_of}
use Rattle.proof_migration.specs.Program.Turns.Laws.{IsMigrationOf}
use Rattle.proof_migration.specs.ToolPhase.Runnable.{IsAlterable}
use Rattle.proof_migration.proofs.ToolServes.{session_of_tool}
use Rattle.proof_migration.proofs.Unfit.Applies.{IsRefusedRow, refused_row}
use Rattle.proof_migration.proofs.Unfit.Copies.{IsRefusedCopy, refused_copy}
use Rattle.proof_migration.specs.Program.Turns.Goes.{StandsFor}
use Rattle.proof_resume.specs.Finish.Walks.{StartsRight}
use Rattle.proof_resume.proofs.Finish.Holders.{IsHeldBy}
use Rattle.proof_resume.proofs.Finish.Machines.{IsApplierOf, IsCopierOf}
use Rattle.proof_resume.proofs.Finish.Prompt.{StandsAlone, finish_turns, its_actor, its_request}
use Rattle.proof_resume.proofs.Finish.Runs.{Knows}
use Rattle.proof_resume.proofs.Finish.Verdicts.{GuardAt, Guards, guard_begins, guards_more}
use Rattle.proof_resume.proofs.Finish.Standing.{held_locked, held_waits}
use Rattle.proof_resume.proofs.Finish.Walks.{Walks, WalksAt, finish_walks}

-- WHAT STANDS IN THE JOURNAL

abbrev pub refusal_of : UnfitRow → Refusal
refusal_of (Copied copier refusal) = refusal
refusal_of (Applied applier refusal) = refusal

-- the row's key, as it is told in a journal
abbrev pub key_told : PlanData → List Entry → UnfitRow → List Value
key_told plan journal (Copied copier refusal) = copiers.unfit_key journal copier
key_told plan journal (Applied applier refusal) = appliers.unfit_key journal (key_places (old_schema plan)) applier

-- in some turn of the new tool's this row was refused; its key is told in every longer journal
pub record StandsSo (plan : PlanData) (run turns : List Entry) (row : UnfitRow) : Type 0 where
  pub key : List Value
  pub told : (rest : List Entry) → key_told plan ((run ++ turns) ++ rest) row ≡ key
  pub is : IsUnfitBehind plan run turns (refusal_of row).turn key (new_column_name plan (refusal_of row).column) (refusal_of row).number

-- what is rolled back, and what was
abbrev pub StandsAt : PlanData → List Entry → List Entry → Stage → Type 0
StandsAt plan run turns (RollingBack row) = StandsSo plan run turns row
StandsAt plan run turns (Reverted row) = StandsSo plan run turns row
StandsAt plan run turns stage = Unit {0}

module _ (plan : PlanData) (run turns : List Entry) (entry : Entry) where
  abbrev later : List Entry
  later = turns ++ entry ∷ []

  abbrev more : List Entry
  more = (run ++ turns) ++ entry ∷ []

  abbrev after : State
  after = state_at plan more

  pub longer : (rest : List Entry) → (run ++ later) ++ rest ≡ (run ++ turns) ++ entry ∷ rest
  longer rest = ap (λ (j : List Entry). j ++ rest) (sym (append_assoc run turns (entry ∷ []))) ∙ append_assoc (run ++ turns) (entry ∷ []) rest

  stays : (row : UnfitRow) → StandsSo plan run turns row → StandsSo plan run later row
  stays row was = record {
    key = was.key;
    told = λ rest. ap (λ (j : List Entry). key_told plan j row) (longer rest) ∙ was.told (entry ∷ rest);
    is = record {
      before = was.is.before;
      entry = was.is.entry;
      following = was.is.following ++ entry ∷ [];
      turns_are = ap (λ (all : List Entry). all ++ entry ∷ []) was.is.turns_are ∙ append_assoc was.is.before (was.is.entry ∷ was.is.following) (entry ∷ []);
      turn_is = was.is.turn_is;
      place = was.is.place;
      refused = was.is.refused;
      name = was.is.name;
      row = was.is.row;
      concerned = was.is.concerned;
      keyed = was.is.keyed;
      unfit = was.is.unfit;
      refuses = was.is.refuses;
      numbered = was.is.numbered;
    };
  }

  -- EACH STAGE

  counting_at : (found : Checkpoint) → StandsAt plan run later (counting plan found)
  counting_at found = by (has_counter plan) where
    by : (b : Bool) → StandsAt plan run later (cond b (ReadingCounter found) (Ranging found))
    by true = tt
    by false = tt

  read_at : (seen : Listed) (found : Option Checkpoint) → StandsAt plan run later (has_read plan seen found)
  read_at seen None = tt
  read_at (NotRenamed true) (Some found) = tt
  read_at (NotRenamed false) (Some found) = counting_at found
  read_at (Renamed old) (Some found) = tt

  applying_at : (applier : Applier) → StandsAt plan run later (applying plan after applier)
  applying_at applier = by (appliers.starts applier && (unread after applier.position (plan.table ∷ log_name plan.table ∷ []) == 0)) where
    by : (b : Bool) → StandsAt plan run later (cond b Exchanging (Applying applier))
    by true = tt
    by false = tt

  copying_at : (copier : Copier) (applier : Applier) → StandsAt plan run later (copying plan after copier applier)
  copying_at copier applier = by copier.is_copied where
    by : (b : Bool) → StandsAt plan run later (cond b (applying plan after applier) (Copying copier applier))
    by true = applying_at applier
    by false = tt

  abbrev refusal : ℕ → ℕ → Refusal
  refusal column number = record { turn = length more; column = column; number = number }

  copied_at : (applier : Applier) (before then : Copier) (progress : Progress) → ((column number : ℕ) → progress ≡ Unfit column number → StandsSo plan run later (Copied before (refusal column number))) → StandsAt plan run later (copied plan after (length more) applier before then progress)
  copied_at applier before then (Unfit column number) is = is column number refl
  copied_at applier before then Going is = copying_at then applier
  copied_at applier before then TaskDone is = copying_at then applier
  copied_at applier before then TaskFailed is = copying_at then applier

  applied_at : (before then : Applier) (progress : Progress) → ((column number : ℕ) → progress ≡ Unfit column number → StandsSo plan run later (Applied before (refusal column number))) → StandsAt plan run later (applied plan after (length more) before then progress)
  applied_at before then (Unfit column number) is = is column number refl
  applied_at before then Going is = applying_at then
  applied_at before then TaskDone is = applying_at then
  applied_at before then TaskFailed is = applying_at then

  listed_at : (given : Answer) → StandsAt plan run later (listed plan given)
  listed_at (answers.Tables tables) = tt
  listed_at given = tt

  counter_at : (found : Checkpoint) (given : Answer) → StandsAt plan run later (counter_read found given)
  counter_at found (answers.At number) = tt
  counter_at found given = tt

  ranged_at : (found : Checkpoint) (given : Answer) → StandsAt plan run later (ranged plan after found given)
  ranged_at found (answers.Ends range) = copying_at (copier_from plan found.reach range) (applier_from plan found.position)
  ranged_at found given = tt

  log_at : (old : Bool) → StandsAt plan run later (dropped_log old)
  log_at true = tt
  log_at false = tt

  losing_at : (live : Bool) → StandsAt plan run later (cond live Losing Listing)
  losing_at true = tt
  losing_at false = tt

  -- what a turn at this stage must show
  abbrev Refuses : Stage → Type 0
  Refuses (Copying copier applier) = (column number : ℕ) → copiers.progress copier entry.answer ≡ Unfit column number → StandsSo plan run later (Copied copier (refusal column number))
  Refuses (Applying applier) = (column number : ℕ) → appliers.progress applier entry.answer ≡ Unfit column number → StandsSo plan run later (Applied applier (refusal column number))
  Refuses stage = Unit {0}

  turn_at : (stage : Stage) → Refuses stage → StandsAt plan run turns stage → StandsAt plan run later (took plan more after entry.answer stage)
  unfolding took
  turn_at Losing refuses was = losing_at (is_some (first_live plan more))
  turn_at Listing refuses was = listed_at entry.answer
  turn_at (Reading seen) refuses was = read_at seen (checkpoint_in entry.answer)
  turn_at (Clearing found) refuses was = counting_at found
  turn_at (ReadingCounter found) refuses was = counter_at found entry.answer
  turn_at (SettingCounter found number) refuses was = tt
  turn_at (Ranging found) refuses was = ranged_at found entry.answer
  turn_at (Copying copier applier) refuses was = copied_at applier copier (copiers.took (length more) copier entry.answer) (copiers.progress copier entry.answer) refuses
  turn_at (Applying applier) refuses was = applied_at applier (appliers.took (length more) applier entry.answer) (appliers.progress applier entry.answer) refuses
  turn_at Exchanging refuses was = tt
  turn_at (DroppingLog old) refuses was = log_at old
  turn_at DroppingOld refuses was = tt
  turn_at (RollingBack row) refuses was = stays row was
  turn_at Done refuses was = tt
  turn_at (Reverted row) refuses was = stays row was

-- ONE TURN

module _ (again : StoresAgain) (plan : PlanData) (is : IsAlterable plan) (at : Clustered is.table.schema) (of : IsMigrationOf plan (migration_of is.table.schema is.new) is.table.rows) (run : List Entry) (is_run : IsPlanRun plan run) (kept : IsKept plan run)
    (starts : (turns : List Entry) → IsFaithful plan (run ++ turns) → IsFinish plan run turns → StartsRight plan (migration_of is.table.schema is.new) at is.table.rows run turns) where
  abbrev m : Migration
  m = migration_of is.table.schema is.new

  abbrev Turned : List Entry → Entry → Type 0
  Turned before entry = IsFinishTurn plan run before entry × IsAnswered (state_at plan before) entry

  -- *What stands* behind these turns
  pub record Goes (turns : List Entry) : Type 0 where
    pub finish : IsFinish plan run turns
    pub faithful : IsFaithful plan (run ++ turns)
    pub guards : Guards plan run turns
    pub stands : StandsAt plan run turns (stage_behind plan run turns)

  module _ (turns : List Entry) (entry : Entry) (turn : Turned (run ++ turns) entry) (goes : Goes turns) where
    abbrev journal : List Entry
    journal = run ++ turns

    abbrev now : State
    now = state_at plan journal

    seated : IsSeated journal entry
    seated = record { session = turn.0.session }

    served : IsServed plan journal entry
    served = record { answered = turn.1; seated = seated }

    walks : Walks plan is at is.table.rows of run turns
    walks = finish_walks plan is at is.table.rows of run turns is_run kept goes.finish goes.faithful (starts turns goes.faithful goes.finish)

    of_tool : is_command entry.asked ≡ false → is_client entry.actor ≡ false → is_of_tool (session_of entry.session (opens entry now).sessions) ≡ true
    of_tool = let both = walks.away.alone.owners.both in session_of_tool journal now entry both.living both.known (placed journal entry seated) turn.1

    -- nobody waits
    none_waits : (own : Option ℕ) → IsHeldBy own now → (standing_of plan journal entry.actor).waits ≡ None
    none_waits own held = held_waits own now (live_session journal entry.actor) held

    -- a row that the copier was refused
    copied_stands : (copier : Copier) (applier : Applier) → stage_behind plan run turns ≡ Copying copier applier → TablesExist plan now.tables → (own : Option ℕ) → IsHeldBy own now → IsCopierOf plan copier → StandsFor plan m at is.table.rows journal copier applier
        → (request : Option Request) → copiers.next journal copier ≡ request → finishes.copies request ≡ Some (entry.actor, entry.asked) → (column number : ℕ) → copiers.progress copier entry.answer ≡ Unfit column number → StandsSo plan run (later plan run turns entry) (Copied copier (refusal plan run turns entry column number))
    copied_stands copier applier stage exist own held of_plan stands None given asks column number unfit = absurd (cc)
    copied_stands copier applier stage exist own held of_plan stands (Some request) given asks column number unfit = record {
      key = was.key;
      told = λ rest. ap (λ (j : List Entry). copiers.unfit_key j copier) (longer plan run turns entry rest) ∙ was.told (entry ∷ rest);
      is = record {
        before = turns;
        entry = entry;
        following = [];
        turns_are = refl;
        turn_is = length-append journal (entry ∷ []);
        place = column;
        refused = was.refused;
        name = refl;
        row = was.row.row;
        concerned = ap (λ (s : Stage). row_at plan journal s was.key) stage ∙ was.row.concerned;
        keyed = was.row.keyed;
        unfit = was.row.none.fault;
        refuses = was.row.none.refuses;
        numbered = was.row.none.numbered;
      };
    } where
      was : IsRefusedCopy plan journal entry copier column number
      was =
          refused_copy again plan m at is.table.rows of journal entry goes.guards.marked.known served (held_locked own now (live_session journal entry.actor) held) exist copier applier of_plan.table of_plan.map stands (its_actor entry Copy request asks) copier.size request given
          (is_called (its_request entry Copy request asks) (none_waits own held)) column number unfit

    -- a row that the applier was refused
    applied_stands : (copier : Copier) (applier : Applier) → stage_behind plan run turns ≡ Applying applier → (own : Option ℕ) → IsHeldBy own now → IsApplierOf plan applier → StandsFor plan m at is.table.rows journal copier applier
        → finishes.calls Apply (appliers.next journal applier) ≡ Some (entry.actor, entry.asked) → (column number : ℕ) → appliers.progress applier entry.answer ≡ Unfit column number → StandsSo plan run (later plan run turns entry) (Applied applier (refusal plan run turns entry column number))
    applied_stands copier applier stage own held of_plan stands asks column number unfit = record {
      key = key;
      told = λ rest. ap (λ (j : List Entry). appliers.unfit_key j (key_places (old_schema plan)) applier) (longer plan run turns entry rest) ∙ was.told (key_places (old_schema plan)) (entry ∷ rest);
      is = record {
        before = turns;
        entry = entry;
        following = [];
        turns_are = refl;
        turn_is = length-append journal (entry ∷ []);
        place = column;
        refused = was.refused;
        name = refl;
        row = appliers.row_done (appliers.doing_at journal applier applier.step);
        concerned = ap (λ (s : Stage). row_at plan journal s key) stage;
        keyed = refl;
        unfit = was.none.fault;
        refuses = was.none.refuses;
        numbered = was.none.numbered;
      };
    } where
      key : List Value
      key = appliers.unfit_key journal (key_places (old_schema plan)) applier

      called : entry.asked ≡ Call (appliers.next journal applier)
      called = its_request entry Apply (appliers.next journal applier) asks

      was : IsRefusedRow plan journal entry applier column number
      was =
          refused_row plan m at is.table.rows of journal entry goes.guards.marked.known served (of_tool (ap is_command called) (ap is_client (its_actor entry Apply (appliers.next journal applier) asks))) copier applier (of_plan.table ∙ sym of.of.name) (of_plan.schema ∙ sym of.of.new) (of_plan.map ∙ sym of.of.columns) stands
          (is_called called (none_waits own held)) column number unfit

    -- what stands at the stage before it
    refuses : (stage : Stage) → stage_behind plan run turns ≡ stage → next plan journal stage ≡ Some (entry.actor, entry.asked) → StandsAlone journal now stage → Knows plan journal stage → GuardAt plan journal stage → WalksAt plan is at is.table.rows of journal stage → Refuses plan run turns entry stage
    unfolding next
    refuses (Copying copier applier) same asks held knows guard walked = copied_stands copier applier same guard.stand _ held knows.0 walked.1 (copiers.next journal copier) refl asks
    refuses (Applying applier) same asks held knows guard walked = applied_stands walked.0 applier same _ held knows walked.2 asks
    refuses Losing same asks held knows guard walked = tt
    refuses Listing same asks held knows guard walked = tt
    refuses (Reading seen) same asks held knows guard walked = tt
    refuses (Clearing found) same asks held knows guard walked = tt
    refuses (ReadingCounter found) same asks held knows guard walked = tt
    refuses (SettingCounter found number) same asks held knows guard walked = tt
    refuses (Ranging found) same asks held knows guard walked = tt
    refuses Exchanging same asks held knows guard walked = tt
    refuses (DroppingLog old) same asks held knows guard walked = tt
    refuses DroppingOld same asks held knows guard walked = tt
    refuses (RollingBack row) same asks held knows guard walked = tt
    refuses Done same asks held knows guard walked = tt
    refuses (Reverted row) same asks held knows guard walked = tt

    goes_more : Goes (turns ++ entry ∷ [])
    unfolding IsFinish
    goes_more =
        let stage : Stage = stage_behind plan run turns in
        let given : next plan journal stage ≡ Some (entry.actor, entry.asked) = ap (λ (some : List Entry). next plan journal (stage_behind plan run some)) (sym (drop-append_seam run turns)) ∙ turn.0.given in
        record {
          finish = Along-more (IsFinishTurn plan run) run turns entry goes.finish turn.0;
          faithful = subst (IsFaithful plan) (append_assoc run turns (entry ∷ [])) (Along-more (λ before one. IsAnswered (state_at plan before) one) [] journal entry goes.faithful turn.1);
          guards = guards_more plan run turns entry turn goes.guards;
          stands = subst (StandsAt plan run (turns ++ entry ∷ [])) (sym (stage_more plan run turns entry))
              (turn_at plan run turns entry stage (refuses stage refl given walks.away.alone.stands walks.away.knows goes.guards.guard walks.walks) goes.stands);
        }

  -- ALONG THE TURNS

  all_stand : (turns rest : List Entry) → Along Turned (run ++ turns) rest → Goes turns → Goes (turns ++ rest)
  all_stand turns [] turned goes = subst Goes (sym (append-nil turns)) goes
  all_stand turns (entry ∷ rest) turned goes =
      subst Goes (append_assoc turns (entry ∷ []) rest) (all_stand (turns ++ entry ∷ []) rest (subst (λ (all : List Entry). Along Turned all rest) (append_assoc run turns (entry ∷ [])) turned.1) (goes_more turns entry turned.0 goes))

  begins : is_migrating (moment plan run).tool.tool_phase ≡ true → Goes []
  unfolding stage_behind IsFinish
  begins migrating = record {
    finish = tt;
    faithful = subst (IsFaithful plan) (sym (append-nil run)) kept.faithful;
    guards = guard_begins plan run of.runs of.serial kept migrating;
    stands = by (is_some (first_live plan run));
  } where
    by : (b : Bool) → StandsAt plan run [] (cond b Losing Listing)
    by true = tt
    by false = tt

  -- *What was refused stands in the journal*
  pub finish_stands : is_migrating (moment plan run).tool.tool_phase ≡ true → (turns : List Entry) → IsFinish plan run turns → IsFaithful plan (run ++ turns) → StandsAt plan run turns (stage_behind plan run turns)
  finish_stands migrating turns finish faithful =
      (all_stand [] turns (subst (λ (all : List Entry). Along Turned all turns) (sym (append-nil run)) (finish_turns plan run turns finish faithful)) (begins migrating)).stands
