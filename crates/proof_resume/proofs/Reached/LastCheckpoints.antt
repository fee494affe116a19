-- The last checkpoint that was written is behind the tool, after every kept journal until the RENAME is done.
use Rattle.std.proofs.Common.{◌≡◌, ℕ, ◌+◌, Bool, true, false, List, [], ◌∷◌, ◌++◌, Option, Some, None, refl, sym, ap, ◌∙◌, subst}
use Rattle.base_script.specs.declared.actor.Actor.{Actor}
use Rattle.base_script.specs.declared.actor.Actor.TheVariants.{Op, Insp, Copy, Apply, Lock, Ren, Client}
use Rattle.table_store.specs.Databases.{find_table}
use Rattle.server_model.specs.declared.answer.Answer.{Answer}
use Rattle.server_model.specs.declared.answer.Answer.TheVariants as answers
use Rattle.server_model.specs.declared.entry.Asked.TheVariants.{Call, Poll, Cut}
use Rattle.server_model.specs.declared.entry.Entry.{Entry}
use Rattle.server_model.specs.declared.request.Request.{Request}
use Rattle.plan_data.specs.PlanData.{PlanData}
use Rattle.tool_program.specs.declared.chunk_copier.copier.Copier.{Copier}
use Rattle.tool_program.specs.declared.chunk_copier.copier.CopyStep.TheVariants.{Choosing}
use Rattle.tool_program.specs.Programs.{given, reach_in, tool_call}
use Rattle.tool_program.specs.Setups.{Setup, Listing, Clearing, MakingLog, MakingGhost, Marking, Reaching, Ready, setup_after, setup_call}
use Rattle.tool_program.specs.Tools.{ToolPhase, SettingUp, Migrating, Moment, Tool, Work, is_reverting, moment, stopped, tool_phase_of}
use Rattle.proof_journals.specs.Run.Kept.{IsKept}
use Rattle.proof_journals.specs.Ghost.HeldKeys.{Clustered}
use Rattle.proof_journals.specs.Ghost.Rows.Moments.{Row}
use Rattle.proof_journals.specs.Ghost.Rows.Timelines.{Migration}
use Rattle.proof_journals.proofs.Machine.Asking.{unless_called}
use Rattle.proof_journals.proofs.Machine.Journals.{Asking, IsRun, IsTogether, asking, calls_so, polls_so}
use Rattle.proof_migration.specs.ToolPhase.Unaltered.{IsUnaltered}
use Rattle.proof_migration.specs.Migration.Copier.CopierPlace.{AfterReported, StepKnows, copy_state}
use Rattle.proof_migration.specs.Program.Turns.Laws.{GoesSomehow, IsMigrationOf}
use Rattle.proof_migration.proofs.KeptJournals.{each_kept}
use Rattle.proof_migration.proofs.ToolPhase.ToolPhaseTurns.{AnswerKeeps, DrainKeeps, Kept, ResizeKeeps, gives_asked, turn_kept}
use Rattle.proof_migration.proofs.ToolPhase.Unaltered.Away.{all_asked, unaltered_front}
use Rattle.proof_migration.proofs.Program.Starts.{followers_go}
use Rattle.proof_migration.proofs.Program.Turns.Follows.{kept_front, kept_run}
use Rattle.proof_resume.specs.Reached.Coverage.{left_in}
use Rattle.proof_resume.specs.Reached.ChunkEnds.{CopierRecalls, StepEnds}
use Rattle.proof_resume.specs.Reached.Checkpoints.{IsOfCheckpoint, checkpoint_asked, checkpoint_written, last_checkpoint, or_earlier}
use Rattle.proof_resume.specs.Reached.Laws.{CheckpointsAreBehind, ComesFurther}
use Rattle.proof_resume.proofs.Reached.Copying.{reaches_rise}
use Rattle.proof_resume.proofs.Reached.Coverage.{stays_behind}
use Rattle.proof_resume.proofs.Reached.Noting.{notes_are_behind}
use Rattle.proof_resume.proofs.Reached.Rising.{positions_rise}
use Rattle.proof_resume.proofs.Reached.Written.{AsksCheckpoint, asks_checkpoint, inspected_row, last_more, setup_unasked, written_asked}

-- WHAT IS KNOWN

pub record Stands (journal : List Entry) (work : Work) : Type 0 where
  pub recalls : CopierRecalls journal work.copier
  pub behind : (row : Row) → last_checkpoint journal ≡ Some row → IsOfCheckpoint journal work row

-- while the tool sets up, none was written
abbrev pub PhaseStands : List Entry → ToolPhase → Type 0
PhaseStands journal (SettingUp setup tries) = last_checkpoint journal ≡ None
PhaseStands journal (Migrating work) = Stands journal work

-- FROM THE SETUP TO THE COPY

pub new_recalls : (journal : List Entry) (copier : Copier) → copier.following ≡ None → copier.step ≡ Choosing → CopierRecalls journal copier
new_recalls journal copier none choosing = record {
  following = subst (AfterReported journal) (sym none) tt;
  step = subst (StepKnows journal copier.range) (sym choosing) tt;
  ends = λ range is. subst (StepEnds journal copier range) (sym choosing) tt;
}

module _ (plan : PlanData) (journal : List Entry) (entry : Entry) where
  abbrev more : List Entry
  more = journal ++ entry ∷ []

  abbrev now : Moment
  now = moment plan journal

  abbrev tool : Tool
  tool = record now.tool { turns = now.tool.turns + 1 }

  -- a new copier has read nothing
  abbrev pub New : Kept
  New b (SettingUp setup tries) = Unit {0}
  New b (Migrating work) = (work.copier.following ≡ None) × (work.copier.step ≡ Choosing)

  back : (b : Bool) (tool_phase : ToolPhase) → New b tool_phase → New true (stopped tool_phase)
  back b (SettingUp setup tries) is = tt
  back b (Migrating work) is = is

  begins : (size : ℕ) (setup : Setup) (tries : List ℕ) → New false (tool_phase_of plan size setup tries)
  begins size (Ready position range) tries = (refl, refl)
  begins size Listing tries = tt
  begins size (Clearing left) tries = tt
  begins size MakingLog tries = tt
  begins size MakingGhost tries = tt
  begins size Marking tries = tt
  begins size (Reaching position) tries = tt

  setup_answer : (answer : Answer) (setup : Setup) (tries : List ℕ) (actor : Actor) → AnswerKeeps plan New answer tool actor (SettingUp setup tries)
  setup_answer answer setup tries Insp = record { reverting = λ is. tt; again = λ going bad some. tt; goes = λ going good. begins tool.operator.size (setup_after plan.table setup answer) tries }
  setup_answer answer setup tries Op = tt
  setup_answer answer setup tries Copy = tt
  setup_answer answer setup tries Apply = tt
  setup_answer answer setup tries Lock = tt
  setup_answer answer setup tries Ren = tt
  setup_answer answer setup tries (Client client) = tt

  drained : DrainKeeps New
  drained b work tries is = is

  pub new_copier : (setup : Setup) (tries : List ℕ) → now.tool.tool_phase ≡ SettingUp setup tries → New (is_reverting (moment plan more).tool.reason) (moment plan more).tool.tool_phase
  new_copier setup tries eq =
      turn_kept plan New back journal entry drained
      (record {
        commanded = λ word asks unsized. subst (New (is_reverting tool.reason)) (sym eq) tt;
        resized = λ size asks. subst (ResizeKeeps New tool size) (sym eq) tt;
        idle = λ asks rests. subst (New (is_reverting tool.reason)) (sym eq) tt;
        lost = λ asks worked. subst (AnswerKeeps plan New answers.Lost tool entry.actor) (sym eq) (setup_answer answers.Lost setup tries entry.actor);
        heard = λ called commanded. subst (AnswerKeeps plan New entry.answer tool entry.actor) (sym eq) (setup_answer entry.answer setup tries entry.actor);
      })

  -- IT NEVER SETS UP AGAIN

  abbrev pub Past : Kept
  Past b (SettingUp setup tries) = ⊥
  Past b (Migrating work) = Unit {0}

  past_back : (b : Bool) (tool_phase : ToolPhase) → Past b tool_phase → Past true (stopped tool_phase)
  past_back b (SettingUp setup tries) is = is
  past_back b (Migrating work) is = tt

  work_answer : (answer : Answer) (work : Work) (actor : Actor) → AnswerKeeps plan Past answer tool actor (Migrating work)
  work_answer answer work Insp = λ tries. tt
  work_answer answer work Copy = record { reverting = λ is. tt; unfit = λ going place number is. record { renamed = λ is. tt; reverts = tt }; took = λ going fits tries. tt }
  work_answer answer work Apply = record { reverting = λ is. tt; unfit = λ going place number is. record { renamed = λ is. tt; reverts = tt }; took = λ going fits tries. tt }
  work_answer answer work Lock = λ tries. tt
  work_answer answer work Ren = λ tries. tt
  work_answer answer work Op = tt
  work_answer answer work (Client client) = tt

  past_drained : DrainKeeps Past
  past_drained b work tries is = tt

  pub stays_past : (work : Work) → now.tool.tool_phase ≡ Migrating work → Past (is_reverting (moment plan more).tool.reason) (moment plan more).tool.tool_phase
  stays_past work eq =
      turn_kept plan Past past_back journal entry past_drained
      (record {
        commanded = λ word asks unsized. subst (Past (is_reverting tool.reason)) (sym eq) tt;
        resized = λ size asks. subst (ResizeKeeps Past tool size) (sym eq) tt;
        idle = λ asks rests. subst (Past (is_reverting tool.reason)) (sym eq) tt;
        lost = λ asks worked. subst (AnswerKeeps plan Past answers.Lost tool entry.actor) (sym eq) (work_answer answers.Lost work entry.actor);
        heard = λ called commanded. subst (AnswerKeeps plan Past entry.answer tool entry.actor) (sym eq) (work_answer entry.answer work entry.actor);
      })

-- WHAT THE INSPECTOR ASKS

-- its call, where it asks to write a checkpoint's row
pub inspector_called : (plan : PlanData) (journal : List Entry) (entry : Entry) (row : Row) → IsTogether plan journal → IsRun plan journal entry → checkpoint_asked entry.actor entry.asked ≡ Some row
    → (request : Request) × (checkpoint_asked Insp (Call request) ≡ Some row) × (tool_call plan (moment plan journal).server journal (moment plan journal).tool (moment plan journal).tool.tool_phase Insp ≡ Some request)
unfolding given
inspector_called plan journal entry row together run is = by (asking plan journal Insp entry.asked together.server gives) where
  checked : AsksCheckpoint entry.actor entry.asked row
  checked = asks_checkpoint entry.actor entry.asked row is

  no_cut : entry.asked ≡ Cut → ⊥
  no_cut cut = no (sym checked.asks ∙ cut) where
    no : {request : Request} → Call request ≡ Cut → ⊥
    no both = cc

  gives : given plan journal Insp ≡ Some entry.asked
  gives = subst (λ (a : Actor). given plan journal a ≡ Some entry.asked) checked.actor_is (gives_asked plan journal entry entry.asked run.followed.given refl no_cut)

  by : Asking plan journal Insp entry.asked → (request : Request) × (checkpoint_asked Insp (Call request) ≡ Some row) × (tool_call plan (moment plan journal).server journal (moment plan journal).tool (moment plan journal).tool.tool_phase Insp ≡ Some request)
  by (calls_so request asks idle call) = (request, sym (ap (λ (a : Actor). checkpoint_asked a (Call request)) checked.actor_is) ∙ ap (checkpoint_asked entry.actor) (sym asks) ∙ is, call)
  by (polls_so request asks waits) = absurd (no (sym checked.asks ∙ asks)) where
    no : {called : Request} → Call called ≡ Poll → ⊥
    no both = cc

-- while the tool sets up it doesn't
pub setup_writes_none : (plan : PlanData) (journal : List Entry) (entry : Entry) (setup : Setup) (tries : List ℕ) → IsTogether plan journal → IsRun plan journal entry → (moment plan journal).tool.tool_phase ≡ SettingUp setup tries → checkpoint_written entry ≡ None
setup_writes_none plan journal entry setup tries together run eq = by (checkpoint_written entry) refl where
  by : (one : Option Row) → checkpoint_written entry ≡ one → one ≡ None
  by None is = refl
  by (Some row) is = absurd (no called.1) where
    called : (request : Request) × (checkpoint_asked Insp (Call request) ≡ Some row) × (tool_call plan (moment plan journal).server journal (moment plan journal).tool (moment plan journal).tool.tool_phase Insp ≡ Some request)
    called = inspector_called plan journal entry row together run (written_asked entry row is)

    no : checkpoint_asked Insp (Call called.0) ≡ Some row → ⊥
    no some = let both : None ≡ Some row = sym (setup_unasked plan setup called.0 (unless_called (is_reverting (moment plan journal).tool.reason) (setup_call plan setup) called.0
        (ap (λ (c : ToolPhase). tool_call plan (moment plan journal).server journal (moment plan journal).tool c Insp) (sym eq) ∙ called.2))) ∙ some in cc

-- ONE TURN MORE

module _ (plan : PlanData) (m : Migration) (at : Clustered m.schema) (rows : List Row) (of : IsMigrationOf plan m rows) (opening : find_table m.name plan.tables ≡ Some (record { schema = m.schema; rows = rows })) (journal : List Entry) (entry : Entry) (kept : IsKept plan (journal ++ entry ∷ []))
    (off : IsUnaltered plan (journal ++ entry ∷ [])) where
  abbrev next : List Entry
  next = journal ++ entry ∷ []

  before : IsKept plan journal
  before = kept_front plan journal (entry ∷ []) kept

  run : IsRun plan journal entry
  run = kept_run plan journal entry kept

  together : IsTogether plan journal
  together = (all_asked plan journal of.runs before.faithful before.follows).marking.tabled.all.tool

  module _ (work then_work : Work) (eq : (moment plan journal).tool.tool_phase ≡ Migrating work) (then_eq : (moment plan next).tool.tool_phase ≡ Migrating then_work) (was : Stands journal work) where
    goes : is_reverting (moment plan journal).tool.reason ≡ false → GoesSomehow plan m at rows journal
    goes going = followers_go plan m at rows of opening journal work before (unaltered_front plan journal (entry ∷ []) off) going eq

    further : ComesFurther journal next work.copier then_work.copier
    further = reaches_rise plan m at rows of journal entry work then_work kept off eq then_eq goes was.recalls

    -- what is of a checkpoint behind the tool stays so
    stays_of : (row : Row) → IsOfCheckpoint journal work row → IsOfCheckpoint next then_work row
    stays_of row one = record {
      found = one.found;
      is = one.is;
      behind = stays_behind one.found work.applier.position then_work.applier.position (left_in (copy_state journal work.copier)) (left_in (copy_state next then_work.copier)) (positions_rise plan m at rows of journal entry work then_work kept off eq then_eq goes) further.shrinks one.behind;
    }

    -- the row that is written is of the tool as it is
    own_of : (row : Row) → checkpoint_written entry ≡ Some row → IsOfCheckpoint journal work row
    own_of row is = record { found = record { position = work.applier.position; reach = reach_in journal work.copier }; is = inspected_row plan journal (moment plan journal).tool work called.0 row asked called.1; behind = notes_are_behind journal work.copier work.applier.position } where
      called : (request : Request) × (checkpoint_asked Insp (Call request) ≡ Some row) × (tool_call plan (moment plan journal).server journal (moment plan journal).tool (moment plan journal).tool.tool_phase Insp ≡ Some request)
      called = inspector_called plan journal entry row together run (written_asked entry row is)

      asked : tool_call plan (moment plan journal).server journal (moment plan journal).tool (Migrating work) Insp ≡ Some called.0
      asked = ap (λ (c : ToolPhase). tool_call plan (moment plan journal).server journal (moment plan journal).tool c Insp) (sym eq) ∙ called.2

    last_of : (written : Option Row) → checkpoint_written entry ≡ written → (row : Row) → or_earlier (last_checkpoint journal) written ≡ Some row → IsOfCheckpoint next then_work row
    last_of None none row is = stays_of row (was.behind row is)
    last_of (Some other) some row is = let same : other ≡ row = cc in subst (IsOfCheckpoint next then_work) same (stays_of other (own_of other some))

    works_on : Stands next then_work
    works_on = record { recalls = further.recalls; behind = λ row is. last_of (checkpoint_written entry) refl row (sym (last_more journal entry) ∙ is) }

  -- after the setup
  set_up : (setup : Setup) (tries : List ℕ) → (moment plan journal).tool.tool_phase ≡ SettingUp setup tries → last_checkpoint journal ≡ None → PhaseStands next (moment plan next).tool.tool_phase
  set_up setup tries eq none = by (moment plan next).tool.tool_phase (new_copier plan journal entry setup tries eq) where
    still : last_checkpoint next ≡ None
    still = last_more journal entry ∙ ap (λ (one : Option Row). or_earlier one (checkpoint_written entry)) none ∙ ap (or_earlier None) (setup_writes_none plan journal entry setup tries together run eq)

    by : (tool_phase : ToolPhase) → New plan journal entry (is_reverting (moment plan next).tool.reason) tool_phase → PhaseStands next tool_phase
    by (SettingUp setup tries) is = still
    by (Migrating work) new = record { recalls = new_recalls next work.copier new.0 new.1; behind = λ row some. absurd (let no : None ≡ Some row = sym still ∙ some in cc) }

  pub stands_more : PhaseStands journal (moment plan journal).tool.tool_phase → PhaseStands next (moment plan next).tool.tool_phase
  stands_more was = by (moment plan journal).tool.tool_phase refl was where
    works : (work : Work) → (moment plan journal).tool.tool_phase ≡ Migrating work → Stands journal work → (tool_phase : ToolPhase) → (moment plan next).tool.tool_phase ≡ tool_phase → Past plan journal entry (is_reverting (moment plan next).tool.reason) tool_phase → PhaseStands next tool_phase
    works work eq was (SettingUp setup tries) then_eq past = absurd past
    works work eq was (Migrating then_work) then_eq past = works_on work then_work eq then_eq was

    by : (tool_phase : ToolPhase) → (moment plan journal).tool.tool_phase ≡ tool_phase → PhaseStands journal tool_phase → PhaseStands next (moment plan next).tool.tool_phase
    by (SettingUp setup tries) eq was = set_up setup tries eq was
    by (Migrating work) eq was = works work eq was (moment plan next).tool.tool_phase refl (stays_past plan journal entry work eq)

-- EVERY JOURNAL

stands_begins : (plan : PlanData) → PhaseStands [] (moment plan []).tool.tool_phase
unfolding moment last_checkpoint
stands_begins plan = refl

all_stand : (plan : PlanData) (m : Migration) (at : Clustered m.schema) (rows : List Row) → IsMigrationOf plan m rows → find_table m.name plan.tables ≡ Some (record { schema = m.schema; rows = rows }) → (journal : List Entry) → IsKept plan journal → IsUnaltered plan journal → PhaseStands journal (moment plan journal).tool.tool_phase
all_stand plan m at rows of opening journal kept =
    each_kept plan (λ before. IsUnaltered plan before → PhaseStands before (moment plan before).tool.tool_phase) (λ before entry one is off. stands_more plan m at rows of opening before entry one off (is (unaltered_front plan before (entry ∷ []) off))) journal kept (λ off. stands_begins plan)

-- *Checkpoints are behind.*
pub checkpoints_are_behind : CheckpointsAreBehind
checkpoints_are_behind plan m at rows of opening journal work kept off eq = (subst (PhaseStands journal) eq (all_stand plan m at rows of opening journal kept off)).behind
