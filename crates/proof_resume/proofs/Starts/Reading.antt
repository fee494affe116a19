-- The row of a stored checkpoint is read back as a checkpoint that is behind the tool: what the tool writes can be read, since the key of its
-- reach is the key of a row.
use Rattle.base_script.specs.declared.actor.Actor.TheVariants.{Insp}
use Rattle.table_store.specs.Databases.{find_table}
use Rattle.server_model.specs.declared.answer.Answer.{Answer}
use Rattle.server_model.specs.declared.entry.Entry.{Entry}
use Rattle.plan_data.specs.PlanData.{PlanData}
use Rattle.proof_journals.specs.Run.Kept.{IsKept}
use Rattle.proof_journals.specs.Ghost.HeldKeys.{Clustered}
use Rattle.proof_journals.specs.Ghost.Rows.Moments.{Row}
use Rattle.proof_journals.specs.Ghost.Rows.Timelines.{Migration}
use Rattle.proof_migration.specs.ToolPhase.Unaltered.{IsUnaltered}
use Rattle.proof_migration.specs.Migration.Copier.CopierPlace.{copy_state}
use Rattle.proof_migration.specs.Program.Turns.Laws.{GoesSomehow, IsMigrationOf}
use Rattle.proof_migration.proofs.KeptJournals.{each_kept}
use Rattle.proof_migration.proofs.ToolPhase.Unaltered.Away.{all_asked, unaltered_front}
use Rattle.proof_migration.proofs.Program.Starts.{followers_go}
use Rattle.proof_migration.proofs.Program.Turns.Follows.{kept_front, kept_run}
use Rattle.proof_resume.specs.Reached.Coverage.{IsBehindTool, left_in}
use Rattle.proof_resume.specs.Reached.ChunkEnds.{CopierRecalls}
use Rattle.proof_resume.proofs.Reached.Copying.{reaches_rise}
use Rattle.proof_resume.proofs.Reached.Coverage.{stays_behind}
use Rattle.proof_resume.proofs.Reached.Noting.{notes_are_behind}
use Rattle.proof_resume.proofs.Reached.Rising.{positions_rise}
use Rattle.std.proofs.Common.{◌≡◌, ◌<◌, ℕ, ◌+◌, Bool, true, false, cond, List, [], ◌∷◌, ◌++◌, length, Option, Some, None, refl, sym, ap, ◌∙◌, subst}
use Rattle.std.specs.List.{AllByRecursion}
use Rattle.base_values.specs.declared.kind.Kind.{Kind}
use Rattle.base_values.specs.declared.kind.Kind.TheVariants.{Int, VarChar, VarBinary}
use Rattle.base_values.specs.declared.value.Value.{Value}
use Rattle.base_values.specs.declared.value.Value.TheVariants.{Null, Num, Text, Blob}
use Rattle.base_values.specs.StoredValues.{AreOfKinds, IsOfKind}
use Rattle.sql_grammar.specs.WordValues.ReadBack.{IsLiteral}
use Rattle.server_model.specs.declared.request.Request.{Request}
use Rattle.server_model.specs.declared.entry.Asked.TheVariants.{Call}
use Rattle.server_model.specs.EarlierAnswers.{end_in}
use Rattle.server_model.specs.Entries.{answer_at}
use Rattle.server_model.specs.LockedRows.Databases.{IsWellFormedDatabase}
use Rattle.tool_notes.specs.declared.checkpoint.Checkpoint.{Checkpoint}
use Rattle.tool_notes.specs.Laws.{IsWritten}
use Rattle.tool_notes.proofs.Rows.{rows_are_read}
use Rattle.proof_resume.specs.Reached.Laws.{ComesFurther}
use Rattle.tool_changelog.specs.declared.checkpoint.Reach.TheVariants.{All}
use Rattle.tool_program.specs.Programs.{reach_after, reach_in, tool_call}
use Rattle.tool_program.specs.Setups.{Setup}
use Rattle.tool_program.specs.Tools.{ToolPhase, SettingUp, Migrating, Work, is_reverting, moment}
use Rattle.tool_program.specs.JournalWords.Journals.{state_at}
use Rattle.tool_program.proofs.JournalWords.Answers.{answer_more}
use Rattle.tool_program.specs.declared.chunk_copier.copier.Copier.{Copier}
use Rattle.tool_program.specs.declared.chunk_copier.copier.CopyRange.{CopyRange}
use Rattle.tool_program.specs.declared.chunk_copier.copier.CopyStep.TheVariants.{Choosing}
use Rattle.tool_program.specs.ChunkCopier.Copiers as copiers
use Rattle.tool_program.specs.ChunkCopier.Copiers.{resized}
use Rattle.proof_journals.specs.Plans.{limits_of, scene_of}
use Rattle.proof_journals.specs.Machine.TableKeys.{CopierKeyed, IsKey, StaysWellFormed, ToolPhaseKeyed, AfterKeyed, kinds_of}
use Rattle.proof_journals.proofs.Machine.Journals.{IsRun, IsTogether}
use Rattle.proof_journals.proofs.Machine.Keyed.{all_keyed}
use Rattle.proof_migration.specs.Migration.Copier.CopierPlace.{AfterReported, CopierKnows, IsAnsweredAt}
use Rattle.proof_migration.specs.Migration.Copier.Laws.{IsCopierTurn}
use Rattle.proof_migration.proofs.HeldNames.Holders.{all_held_well}
use Rattle.proof_migration.proofs.KeptJournals.{along_of}
use Rattle.proof_migration.proofs.Migration.Copier.Knowing.{Asks, asks_at}
use Rattle.proof_plain.specs.Plain.{IsPlain, PlainRow}
use Rattle.proof_plain.specs.Plans.{IsShort, PlainPhase, PlainPlan}
use Rattle.proof_plain.proofs.Journals.{PlainRun, all_plain, short_front}
use Rattle.proof_resume.specs.Reached.Checkpoints.{checkpoint_asked, checkpoint_written, last_checkpoint, or_earlier}
use Rattle.proof_resume.proofs.Reached.Existing.{checkpoints_exist}
use Rattle.proof_resume.proofs.Reached.LastCheckpoints.{New, Past, inspector_called, new_copier, new_recalls, setup_writes_none, stays_past}
use Rattle.proof_resume.proofs.Reached.Written.{inspected_row, last_more, written_asked}
use Rattle.proof_resume.specs.Starts.Readings.{IsReadBehind}
use Rattle.proof_resume.specs.Starts.Laws.{CheckpointsAreRead, FoundIsBehind}
use Rattle.proof_resume.proofs.Reached.CopierTurns.{copier_keeps}
use Rattle.proof_resume.proofs.Reached.Copying.{range_took}
use Rattle.proof_resume.proofs.Reached.CopierEnds.{ends_stay, step_sized}
use Rattle.proof_resume.proofs.Starts.Keys.{EndIsPlain, StepPlain, follows_plain, stays_plain}

-- LITERALS

literal_value : (value : Value) (kind : Kind) → IsOfKind value kind → IsPlain value → IsLiteral value
literal_value Null (Int bytes unsigned) is plain = absurd is
literal_value Null (VarChar limit) is plain = absurd is
literal_value Null (VarBinary limit) is plain = absurd is
literal_value (Num number) kind is plain = plain
literal_value (Text text) kind is plain = tt
literal_value (Blob blob) kind is plain = plain

-- a plain key of a table has no null
literal_key : (kinds : List Kind) (key : Row) → AreOfKinds key kinds → PlainRow key → AllByRecursion IsLiteral key
literal_key kinds [] is plain = tt
literal_key [] (value ∷ key) is plain = absurd is
literal_key (kind ∷ kinds) (value ∷ key) is plain = (literal_value value kind is.0 plain.0, literal_key kinds key is.1 plain.1)

-- WHAT IS KEPT

pub record CopierPlain (journal : List Entry) (copier : Copier) : Type 0 where
  pub step : (range : CopyRange) → copier.range ≡ Some range → StepPlain journal copier range copier.step
  pub follows : (reported : ℕ) → copier.is_copied ≡ false → copier.following ≡ Some reported → PlainRow (end_in (answer_at journal reported))

record Stands (journal : List Entry) (work : Work) : Type 0 where
  recalls : CopierRecalls journal work.copier
  plain : CopierPlain journal work.copier
  reads : (row : Row) → last_checkpoint journal ≡ Some row → IsReadBehind journal work row

-- while the tool sets up, none was written
abbrev PhaseStands : List Entry → ToolPhase → Type 0
PhaseStands journal (SettingUp setup tries) = last_checkpoint journal ≡ None
PhaseStands journal (Migrating work) = Stands journal work

-- THE COPY BEGINS

new_plain : (journal : List Entry) (copier : Copier) → copier.following ≡ None → copier.step ≡ Choosing → CopierPlain journal copier
new_plain journal copier none choosing = record {
  step = λ range is. subst (StepPlain journal copier range) (sym choosing) tt;
  follows = λ reported going is. absurd (let no : None ≡ Some reported = sym none ∙ is in cc);
}

-- ONE TURN MORE

module _ (plan : PlanData) (m : Migration) (at : Clustered m.schema) (rows : List Row) (of : IsMigrationOf plan m rows) (plain : PlainPlan plan) (opening : find_table m.name plan.tables ≡ Some (record { schema = m.schema; rows = rows })) (journal : List Entry) (entry : Entry)
    (kept : IsKept plan (journal ++ entry ∷ [])) (off : IsUnaltered plan (journal ++ entry ∷ [])) (short : IsShort journal) where
  abbrev next : List Entry
  next = journal ++ entry ∷ []

  before : IsKept plan journal
  before = kept_front plan journal (entry ∷ []) kept

  run : IsRun plan journal entry
  run = kept_run plan journal entry kept

  together : IsTogether plan journal
  together = (all_asked plan journal of.runs before.faithful before.follows).marking.tabled.all.tool

  plainly : PlainRun plan journal
  plainly = all_plain plan journal plain of.runs of.serial before short

  module _ (work : Work) (eq : (moment plan journal).tool.tool_phase ≡ Migrating work) (was : Stands journal work) where
    goes : is_reverting (moment plan journal).tool.reason ≡ false → GoesSomehow plan m at rows journal
    goes going = followers_go plan m at rows of opening journal work before (unaltered_front plan journal (entry ∷ []) off) going eq

    -- THE COPIER

    still : CopierPlain next work.copier
    still = record {
      step = λ range is. ends_stay (λ low. EndIsPlain) journal entry work.copier range was.recalls.following work.copier.step was.recalls.step (was.plain.step range is);
      follows = λ reported going is.
          let known : IsAnsweredAt journal reported = subst (AfterReported journal) is was.recalls.following in
          subst PlainRow (ap end_in (known.is ∙ sym (answer_more journal (entry ∷ []) reported known.answer known.is))) (was.plain.follows reported going is);
    }

    turns : (size : ℕ) (request : Request) → IsCopierTurn m (limits_of plan) (scene_of plan next) journal entry (resized size work.copier) request → 0 < size → CopierPlain next (copiers.took (length journal + 1) (resized size work.copier) entry.answer)
    turns size request turn some = record {
      step = λ range is.
          let same : Some asks.range ≡ Some range = sym asks.is ∙ sym (range_took (length journal + 1) one entry.answer) ∙ is in
          let range_is : asks.range ≡ range = cc in
          subst (λ (r : CopyRange). StepPlain next (copiers.took (length journal + 1) one entry.answer) r (copiers.took (length journal + 1) one entry.answer).step) range_is (stays_plain m (limits_of plan) (scene_of plan next) journal entry one asks.range request turn asks.is knows (step_sized (λ low. EndIsPlain) journal work.copier size asks.range work.copier.step (was.plain.step asks.range asks.is)) plainly.state.tables);
      follows = follows_plain m (limits_of plan) (scene_of plan next) journal entry one asks.range request turn asks.is knows (step_sized (λ low. EndIsPlain) journal work.copier size asks.range work.copier.step (was.plain.step asks.range asks.is)) plainly.state.tables was.plain.follows;
    } where
      one : Copier
      one = resized size work.copier

      asks : Asks journal one request
      asks = asks_at journal one request turn.given

      knows : CopierKnows journal one
      knows = record { following = was.recalls.following; step = was.recalls.step; sized = some }

    plain_then : (then_work : Work) → (moment plan next).tool.tool_phase ≡ Migrating then_work → CopierPlain next then_work.copier
    plain_then =
        copier_keeps plan m at rows of journal entry work kept off eq goes (CopierPlain next) still (record { step = λ range is. tt; follows = still.follows }) (λ one size is. record { step = λ range at. step_sized (λ low. EndIsPlain) next one size range one.step (is.step range at); follows = is.follows })
        (λ one reported old size some here is. record { step = λ range at. subst (StepPlain next one range) here (is.step range at); follows = is.follows }) turns

    -- THE ROW

    keyed : CopierKeyed plan journal work.copier
    keyed = subst (ToolPhaseKeyed plan journal) eq (all_keyed plan journal of.runs.fitting of.runs.stands well before.faithful before.follows).tool_phase where
      well : StaysWellFormed plan journal
      well = along_of plan (λ some one. IsWellFormedDatabase (state_at plan some).tables) (λ some one all. (all_held_well plan some of.runs of.serial (kept_front plan some (one ∷ []) all)).serving.well_formed) [] journal before

    written : IsWritten (reach_in journal work.copier)
    written = by work.copier.is_copied refl work.copier.following refl where
      reported_so : (reported : ℕ) → work.copier.is_copied ≡ false → work.copier.following ≡ Some reported → AfterKeyed plan journal (Some reported) → AllByRecursion IsLiteral (end_in (answer_at journal reported))
      reported_so reported going is here = literal_key (kinds_of plan) (end_in (answer_at journal reported)) (subst (λ (a : Option Answer). IsKey plan (end_in a)) (sym here.is) here.key) (was.plain.follows reported going is)

      by : (b : Bool) → work.copier.is_copied ≡ b → (following : Option ℕ) → work.copier.following ≡ following → IsWritten (cond b All (reach_after journal following))
      by true copied following is = tt
      by false going None is = tt
      by false going (Some reported) is = reported_so reported going is (subst (AfterKeyed plan journal) is keyed.following)

    own_of : (row : Row) → checkpoint_written entry ≡ Some row → IsReadBehind journal work row
    own_of row is = record {
      found = record { position = work.applier.position; reach = reach_in journal work.copier };
      read = rows_are_read work.applier.position (reach_in journal work.copier) row (subst (PlainPhase plan (moment plan journal).tool.turns) eq plainly.tool.phase).applier.position written (inspected_row plan journal (moment plan journal).tool work called.0 row asked called.1);
      behind = notes_are_behind journal work.copier work.applier.position;
    } where
      called : (request : Request) × (checkpoint_asked Insp (Call request) ≡ Some row) × (tool_call plan (moment plan journal).server journal (moment plan journal).tool (moment plan journal).tool.tool_phase Insp ≡ Some request)
      called = inspector_called plan journal entry row together run (written_asked entry row is)

      asked : tool_call plan (moment plan journal).server journal (moment plan journal).tool (Migrating work) Insp ≡ Some called.0
      asked = ap (λ (c : ToolPhase). tool_call plan (moment plan journal).server journal (moment plan journal).tool c Insp) (sym eq) ∙ called.2

    module _ (then_work : Work) (then_eq : (moment plan next).tool.tool_phase ≡ Migrating then_work) where
      further : ComesFurther journal next work.copier then_work.copier
      further = reaches_rise plan m at rows of journal entry work then_work kept off eq then_eq goes was.recalls

      stays_of : (row : Row) → IsReadBehind journal work row → IsReadBehind next then_work row
      stays_of row one = record {
        found = one.found;
        read = one.read;
        behind = stays_behind one.found work.applier.position then_work.applier.position (left_in (copy_state journal work.copier)) (left_in (copy_state next then_work.copier)) (positions_rise plan m at rows of journal entry work then_work kept off eq then_eq goes) further.shrinks one.behind;
      }

      last_of : (one : Option Row) → checkpoint_written entry ≡ one → (row : Row) → or_earlier (last_checkpoint journal) one ≡ Some row → IsReadBehind next then_work row
      last_of None none row is = stays_of row (was.reads row is)
      last_of (Some other) some row is = let same : other ≡ row = cc in subst (IsReadBehind next then_work) same (stays_of other (own_of other some))

      works_on : Stands next then_work
      works_on = record { recalls = further.recalls; plain = plain_then then_work then_eq; reads = λ row is. last_of (checkpoint_written entry) refl row (sym (last_more journal entry) ∙ is) }

  -- after the setup
  set_up : (setup : Setup) (tries : List ℕ) → (moment plan journal).tool.tool_phase ≡ SettingUp setup tries → last_checkpoint journal ≡ None → PhaseStands next (moment plan next).tool.tool_phase
  set_up setup tries eq none = by (moment plan next).tool.tool_phase (new_copier plan journal entry setup tries eq) where
    still_none : last_checkpoint next ≡ None
    still_none = last_more journal entry ∙ ap (λ (one : Option Row). or_earlier one (checkpoint_written entry)) none ∙ ap (or_earlier None) (setup_writes_none plan journal entry setup tries together run eq)

    by : (tool_phase : ToolPhase) → New plan journal entry (is_reverting (moment plan next).tool.reason) tool_phase → PhaseStands next tool_phase
    by (SettingUp setup tries) new = still_none
    by (Migrating work) new = record { recalls = new_recalls next work.copier new.0 new.1; plain = new_plain next work.copier new.0 new.1; reads = λ row some. absurd (let no : None ≡ Some row = sym still_none ∙ some in cc) }

  stands_more : PhaseStands journal (moment plan journal).tool.tool_phase → PhaseStands next (moment plan next).tool.tool_phase
  stands_more was = by (moment plan journal).tool.tool_phase refl was where
    works : (work : Work) → (moment plan journal).tool.tool_phase ≡ Migrating work → Stands journal work → (tool_phase : ToolPhase) → (moment plan next).tool.tool_phase ≡ tool_phase → Past plan journal entry (is_reverting (moment plan next).tool.reason) tool_phase → PhaseStands next tool_phase
    works work eq was (SettingUp setup tries) then_eq past = absurd past
    works work eq was (Migrating then_work) then_eq past = works_on work eq was then_work then_eq

    by : (tool_phase : ToolPhase) → (moment plan journal).tool.tool_phase ≡ tool_phase → PhaseStands journal tool_phase → PhaseStands next (moment plan next).tool.tool_phase
    by (SettingUp setup tries) eq was = set_up setup tries eq was
    by (Migrating work) eq was = works work eq was (moment plan next).tool.tool_phase refl (stays_past plan journal entry work eq)

-- EVERY JOURNAL

stands_begins : (plan : PlanData) → PhaseStands [] (moment plan []).tool.tool_phase
unfolding moment last_checkpoint
stands_begins plan = refl

all_stand : (plan : PlanData) (m : Migration) (at : Clustered m.schema) (rows : List Row) → IsMigrationOf plan m rows → PlainPlan plan → find_table m.name plan.tables ≡ Some (record { schema = m.schema; rows = rows }) → (journal : List Entry) → IsKept plan journal → IsUnaltered plan journal → IsShort journal → PhaseStands journal (moment plan journal).tool.tool_phase
all_stand plan m at rows of plain opening journal kept =
    each_kept plan (λ before. IsUnaltered plan before → IsShort before → PhaseStands before (moment plan before).tool.tool_phase)
    (λ before entry one is off short.
    let front : IsShort before = short_front before (entry ∷ []) short in
    stands_more plan m at rows of plain opening before entry one off front (is (unaltered_front plan before (entry ∷ []) off) front)) journal kept (λ off short. stands_begins plan)

-- *Checkpoints are read.*
pub checkpoints_are_read : CheckpointsAreRead
checkpoints_are_read plan m at rows of tries plain opening run work kept off phase short row stored =
    (subst (PhaseStands run) phase (all_stand plan m at rows of plain opening run kept off short)).reads row (sym (checkpoints_exist plan run work of.runs of.serial tries kept off phase) ∙ stored)

-- *What is found is behind.*
pub found_is_behind : FoundIsBehind
found_is_behind plan m at rows of tries plain opening run work kept off phase short found stored =
    let there : IsReadBehind run work stored.row = checkpoints_are_read plan m at rows of tries plain opening run work kept off phase short stored.row stored.stored in
    let both : Some there.found ≡ Some found = sym there.read ∙ stored.read in
    let same : there.found ≡ found = cc in
    subst (λ (f : Checkpoint). IsBehindTool f work.applier.position (left_in (copy_state run work.copier))) same there.behind
