-- Until the RENAME is done nothing of the migrated table is changed or logged.
use Rattle.std.proofs.Common.{◌≡◌, ◌≢◌, ℕ, ◌==◌, Bool, true, false, cond, not, ◌&&◌, ◌||◌, List, [], ◌∷◌, ◌++◌, Option, Some, None, refl, sym, ap, ◌∙◌, subst}
use Rattle.std.specs.List.{AllByRecursion, list_any}
use Rattle.std.specs.Str.{bytes_eq}
use Rattle.std.proofs.lemmas.Bool.{true≢false, false≢true}
use Rattle.base_values.specs.declared.event.RowEvent.{RowEvent}
use Rattle.table_store.specs.Databases.{find_table}
use Rattle.server_model.specs.Along.{gathered-more}
use Rattle.server_model.specs.declared.answer.Answer.{Answer}
use Rattle.server_model.specs.declared.answer.Answer.TheVariants as answers
use Rattle.server_model.specs.declared.entry.Asked.{Asked}
use Rattle.server_model.specs.declared.entry.Asked.TheVariants.{Call, Poll, Command, Cut}
use Rattle.server_model.specs.declared.entry.Entry.{Entry}
use Rattle.server_model.specs.declared.request.Request.{Request}
use Rattle.server_model.specs.declared.request.Request.TheVariants as requests
use Rattle.server_model.specs.Entries.{is_client, is_command}
use Rattle.server_model.specs.Operations.{after_events}
use Rattle.server_model.specs.States.{State}
use Rattle.plan_data.specs.PlanData.{PlanData}
use Rattle.tool_program.specs.JournalWords.Histories as histories
use Rattle.tool_program.specs.JournalWords.Histories.{HistoryItem, Alter, is_alter, renames_away, takes_away, answer_in, alters}
use Rattle.tool_program.specs.JournalWords.Journals.{opens, state_at}
use Rattle.tool_program.specs.declared.cutover_core.cutover.Phase.{Phase}
use Rattle.tool_program.specs.declared.cutover_core.cutover.Phase.TheVariants.{Resting, Attempting, Ending, Finishing, Finished}
use Rattle.tool_program.specs.CutoverCore.CutOvers.{is_done, is_ending}
use Rattle.tool_program.specs.Tools.{ToolPhase, SettingUp, Migrating, is_renamed, moment}
use Rattle.proof_journals.specs.Holdings.{face_of, stored}
use Rattle.proof_journals.specs.Plans.{is_client_session, limits_of, scene_of, IsSerialPlan}
use Rattle.proof_journals.specs.Scenes.{PlainItem, Scene, Stored, is_mine, logged, seen, Alike, Serial}
use Rattle.proof_journals.specs.Turns.{LineOutcome, Still, IsSceneRun, about, line_outcome, line_outcome_if, line_outcome_renamed, history, entry_adds, scene_state, reported_at}
use Rattle.proof_journals.proofs.Journals.{JournalHolds, journal_holds}
use Rattle.proof_journals.proofs.Kept.{others_alike, unfound}
use Rattle.proof_journals.proofs.Naming.{migrated_named}
use Rattle.proof_journals.proofs.PlanJournals.{plan_runs_are_scene_runs}
use Rattle.proof_journals.specs.Run.Kept.{IsKept}
use Rattle.proof_journals.specs.Machine.Runnable.{IsRunnable}
use Rattle.proof_journals.proofs.Machine.Journals.{IsRun}
use Rattle.proof_migration.specs.ToolPhase.Unaltered.{IsUnaltered}
use Rattle.proof_migration.proofs.ToolPhase.Unaltered.Away.{IsKnownAsked, tool_adds, unaltered_entry}
use Rattle.proof_migration.proofs.ToolPhase.Unaltered.Runs.{unaltered_runs}
use Rattle.proof_migration.specs.Attempt.Renamed.{ToolPhaseRenamed, IsRenamedAt}
use Rattle.proof_migration.proofs.Attempt.Renamed.Seen.{all_seen}
use Rattle.proof_migration.proofs.Program.Turns.Asked.{about_so}
use Rattle.proof_plans.specs.Complete.Laws.{gives_up}
use Rattle.proof_plans.proofs.Complete.Alone.{Nobody}

-- while no attempt ends, and the tool doesn't know that the RENAME was done, it isn't
pub unaltered : (plan : PlanData) (journal : List Entry) → IsRunnable plan → IsSerialPlan plan → IsKept plan journal → is_renamed (moment plan journal).tool.tool_phase ≡ false → gives_up (moment plan journal).tool.tool_phase ≡ false → IsUnaltered plan journal
unaltered plan journal runs serial kept going on = by (list_any is_alter (histories.history plan journal)) refl where
  phase : (phase : Phase) → is_done phase ≡ false → is_ending phase ≡ false → IsRenamedAt plan (state_at plan journal).tables phase → ⊥
  phase Resting going on at = at
  phase (Attempting stage) going on at = at
  phase (Ending clearing) going on at = true≢false on
  phase (Finishing clearing) going on at = true≢false going
  phase Finished going on at = true≢false going

  never : (tool_phase : ToolPhase) → is_renamed tool_phase ≡ false → gives_up tool_phase ≡ false → ToolPhaseRenamed plan (state_at plan journal).tables tool_phase → ⊥
  never (SettingUp setup tries) going on at = at
  never (Migrating work) going on at = phase work.cutover.phase going on at

  by : (b : Bool) → list_any is_alter (histories.history plan journal) ≡ b → b ≡ false
  by false off = refl
  by true marked = absurd (never (moment plan journal).tool.tool_phase going on (all_seen plan journal runs serial kept.faithful kept.follows marked))

-- NOTHING HAPPENED

no_client : (whole : List Entry) (session : ℕ) → Nobody whole → is_client_session whole session ≡ false
unfolding is_client_session
no_client [] session nobody = refl
no_client (entry ∷ whole) session nobody =
    ap (λ (b : Bool). not (is_command entry.asked) && ((entry.session == session) && b) || list_any (λ (one : Entry). not (is_command one.asked) && ((one.session == session) && is_client one.actor)) whole) nobody.0
    ∙ off (not (is_command entry.asked)) (entry.session == session) _ (no_client whole session nobody.1) where
      off : (a b c : Bool) → c ≡ false → (a && (b && false) || c) ≡ false
      off true true c is = is
      off true false c is = is
      off false b c is = is

unless_done : (answer : Answer) → ((count : ℕ) → answer ≡ answers.Ok count → ⊥) → line_outcome_renamed true (Some answer) ≡ Still
unless_done (answers.Ok count) never = absurd (never count refl)
unless_done answer never = refl

still_unless : (b : Bool) (answer : Answer) → (b ≡ true → (count : ℕ) → answer ≡ answers.Ok count → ⊥) → line_outcome_renamed b (Some answer) ≡ Still
still_unless b answer never = by b never where
  by : (b : Bool) → (b ≡ true → (count : ℕ) → answer ≡ answers.Ok count → ⊥) → line_outcome_renamed b (Some answer) ≡ Still
  by true never = unless_done answer (never refl)
  by false never = refl

module _ (plan : PlanData) (runs : IsRunnable plan) (serial : IsSerialPlan plan) (journal : List Entry) (entry : Entry) (known : IsKnownAsked plan journal) (run : IsRun plan journal entry) (off : IsUnaltered plan (journal ++ entry ∷ [])) (kind : is_client entry.actor ≡ false) (uncut : entry.asked ≢ Cut) (unlost : entry.side ≡ None) where
  abbrev now : State
  now = state_at plan journal

  reported_is : (count : ℕ) → entry.answer ≡ answers.Ok count → answer_in entry.asked entry.side entry.answer entry.missed ≡ Some (answers.Ok count)
  reported_is count is = by entry.asked refl ∙ ap Some is where
    by : (asked : Asked) → entry.asked ≡ asked → answer_in asked entry.side entry.answer entry.missed ≡ Some entry.answer
    by Cut asks = absurd (uncut asks)
    by (Call request) asks = ap (λ s. answer_in (Call request) s entry.answer entry.missed) unlost
    by Poll asks = ap (λ s. answer_in Poll s entry.answer entry.missed) unlost
    by (Command word) asks = ap (λ s. answer_in (Command word) s entry.answer entry.missed) unlost

  never_marked : (request : Request) → about (opens entry now) entry.session entry.asked ≡ Some request → renames_away plan.table (Some request) ≡ true → (count : ℕ) → entry.answer ≡ answers.Ok count → ⊥
  never_marked (requests.Rename pairs) is takes count done = true≢false (sym marks ∙ unaltered_entry plan journal entry off) where
    marks : list_any is_alter (histories.entry_adds plan journal entry) ≡ true
    marks =
        ap (list_any is_alter) (tool_adds plan serial journal entry runs.fitting known run kind entry.actor kind
        ∙ ap (λ r. alters plan r (answer_in entry.asked entry.side entry.answer entry.missed)) (about_so plan serial runs.fitting journal entry known run off (requests.Rename pairs) is) ∙ ap (alters plan (Some (requests.Rename pairs))) (reported_is count done))
        ∙ ap (λ (b : Bool). list_any is_alter (cond b (Alter ∷ []) [])) takes
  never_marked request is takes count done = absurd (false≢true takes)

  still : (whole : List Entry) → Nobody whole → line_outcome (scene_of plan whole) now entry ≡ Still
  still whole nobody =
      ap (λ (b : Bool). line_outcome_if b (scene_of plan whole) (opens entry now) entry.session entry.asked entry.side entry.answer entry.missed entry.draw) (no_client whole entry.session nobody)
      ∙ ap (λ s. line_outcome_renamed (renames_away plan.table (about (opens entry now) entry.session entry.asked)) (reported_at s entry.answer entry.missed)) unlost
      ∙ still_unless (renames_away plan.table (about (opens entry now) entry.session entry.asked)) entry.answer (by (about (opens entry now) entry.session entry.asked) refl) where
        by : (request : Option Request) → about (opens entry now) entry.session entry.asked ≡ request → renames_away plan.table request ≡ true → (count : ℕ) → entry.answer ≡ answers.Ok count → ⊥
        by None is takes count done = false≢true takes
        by (Some request) is takes count done = never_marked request is takes count done

  -- *Nothing more happens*
  pub nothing_more : (whole : List Entry) → Nobody whole → history (limits_of plan) (scene_of plan whole) journal ≡ [] → history (limits_of plan) (scene_of plan whole) (journal ++ entry ∷ []) ≡ []
  unfolding history
  nothing_more whole nobody none =
      gathered-more (entry_adds (limits_of plan) (scene_of plan whole)) [] journal entry ∙ ap (λ (items : List PlainItem). items ++ entry_adds (limits_of plan) (scene_of plan whole) journal entry) none
      ∙ ap (λ (f : LineOutcome). Rattle.proof_journals.specs.Turns.happens f (Rattle.proof_journals.specs.Turns.goings_at (limits_of plan) (scene_of plan whole) journal entry.session)) (still whole nobody)

pub nothing_begins : (plan : PlanData) (whole : List Entry) → history (limits_of plan) (scene_of plan whole) [] ≡ []
unfolding history
nothing_begins plan whole = refl

-- WHAT STANDS

-- no event is of the table
abbrev pub NoneOf : List ℕ → List RowEvent → Type 0
NoneOf name events = AllByRecursion (λ (event : RowEvent). bytes_eq event.table name ≡ false) events

none_logged : (scene : Scene) (name : List ℕ) (log : List RowEvent) → is_mine scene name ≡ true → logged scene log ≡ [] → NoneOf name log
none_logged scene name [] mine none = tt
none_logged scene name (event ∷ log) mine none = by (is_mine scene event.table) refl none (none_logged scene name log mine) where
  by : (b : Bool) → is_mine scene event.table ≡ b → cond b (event ∷ logged scene log) (logged scene log) ≡ [] → (logged scene log ≡ [] → NoneOf name log) → NoneOf name (event ∷ log)
  by true is same rest = absurd (let no : event ∷ logged scene log ≡ [] = same in cc)
  by false is same rest = (unfound scene event.table name is mine, rest same)

-- the table is as it was, nothing of it is logged, and no session wrote a row of it
pub record IsUntouched (plan : PlanData) (journal : List Entry) : Type 0 where
  pub scene : IsSceneRun (limits_of plan) (scene_of plan journal) journal
  pub table : find_table plan.table (state_at plan journal).tables ≡ find_table plan.table plan.tables
  pub log : NoneOf plan.table (state_at plan journal).log
  pub views : (session : ℕ) → find_table plan.table (after_events (state_at plan journal).tables (face_of (state_at plan journal).sessions session).hold.writes) ≡ find_table plan.table (state_at plan journal).tables

-- *Untouched*
pub untouched : (plan : PlanData) (journal : List Entry) → IsRunnable plan → IsSerialPlan plan → IsKept plan journal → IsUnaltered plan journal → Nobody journal → history (limits_of plan) (scene_of plan journal) journal ≡ [] → IsUntouched plan journal
untouched plan journal runs serial kept off nobody none = record {
  scene = scene_run;
  table = sym (alike.tables.each plan.table (migrated_named plan));
  log = none_logged scene plan.table (state_at plan journal).log (migrated_named plan) (sym alike.log);
  views = λ session. sym ((others_alike scene (state_at plan journal).tables (face_of (state_at plan journal).sessions session).hold.writes
      (subst (λ (b : Bool). Rattle.proof_journals.specs.Scenes.EventsMine scene b (face_of (state_at plan journal).sessions session).hold.writes) (no_client journal session nobody) (holds.holds.kept.fine session).named)).each plan.table (migrated_named plan));
} where
  scene : Scene
  scene = scene_of plan journal

  scene_run : IsSceneRun (limits_of plan) (scene_of plan journal) journal
  scene_run = plan_runs_are_scene_runs plan journal (unaltered_runs plan journal runs serial kept off)

  holds : JournalHolds (limits_of plan) (scene_of plan journal) journal
  holds = journal_holds (limits_of plan) (scene_of plan journal) journal scene_run

  alike : Alike scene (record { tables = plan.tables; log = [] }) (seen scene (stored (state_at plan journal)))
  alike = subst (λ (past : List PlainItem). Serial scene (record { tables = plan.tables; log = [] }) past (seen scene (stored (state_at plan journal)))) none holds.holds.kept.serial
