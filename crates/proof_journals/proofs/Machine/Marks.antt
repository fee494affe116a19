-- The cut-over is done only behind the ALTER's mark: until the RENAME is done the new table stands, and so the inspector
-- lists it.
use Rattle.std.proofs.Common.{◌≡◌, ◌⊎◌, ℕ, ◌+◌, Bool, true, false, cond, not, ◌||◌, List, [], ◌∷◌, ◌++◌, Option, Some, None, refl, sym, ap, ◌∙◌, subst, inl, inr}
use Rattle.std.specs.Prelude.{codes}
use Rattle.std.specs.List.{list_any}
use Rattle.std.specs.Str.{bytes_eq}
use Rattle.std.proofs.lemmas.Bool.{true≢false, false≢true, or_left, or_right}
use Rattle.std.proofs.lemmas.List.{append_cancel_left}
use Rattle.std.proofs.lemmas.List.Folds.{list_any-append}
use Rattle.base_script.specs.declared.actor.Actor.{Actor}
use Rattle.base_script.specs.declared.actor.Actor.TheVariants.{Op, Insp, Copy, Apply, Lock, Ren, Client}
use Rattle.base_script.specs.declared.actor.Side.{Side}
use Rattle.base_script.specs.declared.operator.OperatorWord.{OperatorWord}
use Rattle.base_script.specs.declared.operator.OperatorWord.TheVariants.{Throttle, NoThrottle, ChunkSize, Unpostpone, Panic, Wait}
use Rattle.server_model.specs.Along.{Along-keeps, gathered, gathered-more}
use Rattle.server_model.specs.declared.answer.Answer.{Answer}
use Rattle.server_model.specs.declared.answer.Answer.TheVariants as answers
use Rattle.server_model.specs.declared.answer.KeyRange.{KeyRange}
use Rattle.server_model.specs.declared.entry.Asked.{Asked}
use Rattle.server_model.specs.declared.entry.Asked.TheVariants.{Call, Poll, Command, Cut}
use Rattle.server_model.specs.declared.entry.Entry.{Entry}
use Rattle.server_model.specs.declared.listing.TableName.{TableName}
use Rattle.server_model.specs.declared.outcome.Task.TheVariants as tasks
use Rattle.server_model.specs.declared.request.Request.{Request}
use Rattle.server_model.specs.declared.request.Request.TheVariants as requests
use Rattle.server_model.specs.Entries.{same_actor}
use Rattle.server_model.specs.States.{has_work}
use Rattle.plan_data.specs.PlanData.{PlanData}
use Rattle.base_values.specs.ToolNames.{ghost_name, log_name, old_name}
use Rattle.tool_changelog.specs.ToolTables.{sentry_schema}
use Rattle.tool_program.specs.JournalWords.Histories as histories
use Rattle.tool_program.specs.JournalWords.Histories.{Alter, alters, adds, entry_adds, history, is_alter, renames_away, request_waiting, answer_in, waits_after}
use Rattle.tool_program.specs.JournalWords.Journals.{state_at, may_lose, IsFaithful}
use Rattle.tool_program.specs.JournalWords.Sessions.{live_session, session_left}
use Rattle.tool_program.specs.declared.cutover_core.cutover.Clearing.{Clearing as Cleared}
use Rattle.tool_program.specs.declared.cutover_core.cutover.Clearing.TheVariants.{Looking, Drops}
use Rattle.tool_program.specs.declared.cutover_core.cutover.CutOver.{CutOver}
use Rattle.tool_program.specs.declared.cutover_core.cutover.Hold.{Hold}
use Rattle.tool_program.specs.declared.cutover_core.cutover.Hold.TheVariants.{Nothing, WaitsToGuard, WaitsToLock, Locks}
use Rattle.tool_program.specs.declared.cutover_core.cutover.Leftovers.{Leftovers}
use Rattle.tool_program.specs.declared.cutover_core.cutover.Phase.{Phase}
use Rattle.tool_program.specs.declared.cutover_core.cutover.Phase.TheVariants.{Resting, Attempting, Ending, Finishing, Finished}
use Rattle.tool_program.specs.declared.cutover_core.cutover.Role.TheVariants.{Inspector}
use Rattle.tool_program.specs.declared.cutover_core.cutover.Stage.TheVariants.{Locking, Hinting, ReadingCounter, SettingCounter, Showing, Dropping, Unlocking}
use Rattle.tool_program.specs.CutoverCore.Attempts as cutovers
use Rattle.tool_program.specs.CutoverCore.Attempts.{exchange, clears, first_name, has_name, is_free}
use Rattle.tool_program.specs.CutoverCore.CutOvers.{is_bad}
use Rattle.tool_program.specs.Programs.{given, IsGiven, tool_call, tool_asks, Follows}
use Rattle.tool_program.specs.Operators as operators
use Rattle.tool_program.specs.Setups.{Setup, Listing, Clearing, MakingLog, MakingGhost, Marking, Reaching, Ready, setup_call, setup_step}
use Rattle.tool_program.specs.Tools.{Work, ToolPhase, SettingUp, Migrating, Panicked, Tool, Moment, stopped, spends, resizes, is_renamed, is_reverting, tool_phase_of, actor_took, turn_counts, command_took, asked_took, took, moment}
use Rattle.tool_program.proofs.OnlineCalls.Machines.{ToolPhaseIsNamed, named}
use Rattle.proof_journals.proofs.Actors.{live_more, same_actor_is, same_actor_itself}
use Rattle.proof_journals.proofs.Joined.{reported_answer}
use Rattle.proof_journals.proofs.Linking.{waiting_more}
use Rattle.server_model.proofs.LockedRows.Tests.{same_bytes, are_same, turned_bytes}
use Rattle.proof_journals.specs.Machine.Standings.{Standing, free, standing_in, standing_of, answered, gives, serves_to, IsAbout, is_called, is_polled}
use Rattle.proof_journals.specs.Machine.Machines.{inspector_waits, waits_so, ToolPhaseStands, WorkStands}
use Rattle.proof_journals.specs.Machine.FormedPlans.{IsFitting}
use Rattle.proof_journals.specs.Machine.MigrationTables.{schema_of, ghost_schema, past_ghost, SetupTables, ToolPhaseTables, TableExists}
use Rattle.proof_journals.proofs.Machine.Asking.{WaitsWith, some_request}
use Rattle.proof_journals.proofs.Machine.CuttingOver.{LockerAsks}
use Rattle.proof_journals.proofs.Machine.Inspecting.{Inspects, notes_so, cuts_so, inspects}
use Rattle.proof_journals.proofs.Machine.Journals.{IsRun, all_runs, Asking, calls_so, polls_so, asking, lock_about, ren_about}
use Rattle.proof_journals.proofs.Machine.Lifting.{spends_keeps, reverts_keeps, drains_keeps}
use Rattle.proof_journals.proofs.Machine.Phases.{DropsOther, IsUndone, ToolPhaseUndone, SeesGhost, EndsNot, lost_ends, undone_took, undone_counts, undone_commanded}
use Rattle.proof_journals.proofs.Machine.Polling.{given_idle, given_waits, waits_same}
use Rattle.proof_journals.proofs.Machine.Renaming.{renamed_or_stays, lists_found}
use Rattle.proof_journals.proofs.Machine.Schemas.{keeps_table, schema_stays, schema_rests}
use Rattle.proof_journals.proofs.Machine.Seated.{IsServed, others_stand, own_stands, own_heard, own_lost, own_given, own_missed, own_waiting}
use Rattle.proof_journals.proofs.Machine.Tabling.{IsTabled, tabled_more, tabled_begins, quiet_stay, past_keeps, Passes, passed, makes, step_past, step_waits, Following, waits_on, rests, following}
use Rattle.proof_journals.proofs.Sentry.Inductions.{moment_more}

-- NAMES

pub tails_apart : (a b : List ℕ) → bytes_eq a b ≡ false → (front : List ℕ) → bytes_eq (front ++ a) (front ++ b) ≡ false
tails_apart a b off front = by (bytes_eq (front ++ a) (front ++ b)) refl where
  by : (r : Bool) → bytes_eq (front ++ a) (front ++ b) ≡ r → r ≡ false
  by true same = let one : a ≡ b = append_cancel_left front a b (are_same (front ++ a) (front ++ b) same) in absurd (true≢false (sym (same_bytes a) ∙ ap (bytes_eq a) one ∙ off))
  by false same = refl

pub ghost_not_old : (table : List ℕ) → bytes_eq (ghost_name table) (old_name table) ≡ false
unfolding ghost_name old_name
ghost_not_old table = tails_apart (codes "_gho") (codes "_del") refl (codes "_" ++ table)

pub ghost_not_log : (table : List ℕ) → bytes_eq (ghost_name table) (log_name table) ≡ false
unfolding ghost_name log_name
ghost_not_log table = tails_apart (codes "_gho") (codes "_ghc") refl (codes "_" ++ table)

pub old_not_log : (table : List ℕ) → bytes_eq (old_name table) (log_name table) ≡ false
unfolding old_name log_name
old_not_log table = tails_apart (codes "_del") (codes "_ghc") refl (codes "_" ++ table)

pub log_not_old : (table : List ℕ) → bytes_eq (log_name table) (old_name table) ≡ false
log_not_old table = turned_bytes (old_name table) (log_name table) (old_not_log table)

-- WHO KEEPS THE NEW TABLE

abbrev pub KeepsGhost : List ℕ → Request → Type 0
KeepsGhost table request = keeps_table (ghost_name table) request ≡ true

pub locker_keeps : (table : List ℕ) (hold : Hold) (phase : Phase) (request : Request) → LockerAsks table hold phase request → KeepsGhost table request
unfolding sentry_schema
locker_keeps table hold phase request asks = by hold phase asks where
  makes_sentry : request ≡ requests.Create (sentry_schema table) → KeepsGhost table request
  makes_sentry is = subst (KeepsGhost table) (sym is) (ap not (turned_bytes (ghost_name table) (old_name table) (ghost_not_old table)))

  one_of : (other : Request) → request ≡ other → KeepsGhost table other → KeepsGhost table request
  one_of other is keeps = subst (KeepsGhost table) (sym is) keeps

  by : (hold : Hold) (phase : Phase) → LockerAsks table hold phase request → KeepsGhost table request
  by Nothing Resting is = makes_sentry is
  by Nothing (Attempting Locking) is = one_of _ is refl
  by Nothing phase is = absurd is
  by WaitsToGuard phase is = makes_sentry is
  by WaitsToLock phase is = one_of _ is refl
  by Locks (Attempting Dropping) is = one_of (requests.Drop (old_name table)) is (ap not (ghost_not_old table))
  by Locks (Attempting Unlocking) is = one_of _ is refl
  by Locks (Ending clearing) is = one_of _ is refl
  by Locks phase is = absurd is

pub first_keeps : (table : List ℕ) (left : Leftovers) → left.new_table ≡ false → KeepsGhost table (requests.Drop (first_name table left))
first_keeps table left none = ap not (by left.log left.new_table none) where
  by : (a b : Bool) → b ≡ false → bytes_eq (ghost_name table) (cond a (log_name table) (cond b (ghost_name table) (old_name table))) ≡ false
  by true b is = ghost_not_log table
  by false true is = absurd (true≢false is)
  by false false is = ghost_not_old table

pub inspector_keeps : (cutover : CutOver) (request : Request) → cutovers.next Inspector cutover ≡ Some request → IsUndone cutover.phase → KeepsGhost cutover.table request
unfolding cutovers.next
inspector_keeps cutover request is undone = by cutover.phase is undone where
  ends : (b : Bool) (clearing : Cleared) → cond b (clears cutover.table clearing) None ≡ Some request → DropsOther (Ending clearing) → KeepsGhost cutover.table request
  ends true Looking is other = some_request (KeepsGhost cutover.table) _ request is refl
  ends true (Drops left) is other = some_request (KeepsGhost cutover.table) _ request is (first_keeps cutover.table left other)
  ends false clearing is other = absurd cc

  by : (phase : Phase) → cutovers.inspector_call cutover phase ≡ Some request → IsUndone phase → KeepsGhost cutover.table request
  by (Attempting Hinting) is undone = some_request (KeepsGhost cutover.table) _ request is refl
  by (Attempting (ReadingCounter drain)) is undone = some_request (KeepsGhost cutover.table) _ request is refl
  by (Attempting (SettingCounter number drain)) is undone = some_request (KeepsGhost cutover.table) _ request is refl
  by (Attempting Showing) is undone = some_request (KeepsGhost cutover.table) _ request is refl
  by (Attempting stage) is undone = absurd cc
  by (Ending clearing) is undone = ends (is_free cutover.hold cutover.renamer_waits) clearing is undone.other
  by (Finishing clearing) is undone = absurd (true≢false undone.undone)
  by Finished is undone = absurd cc
  by Resting is undone = absurd cc

pub only_shows : (request : Request) (tables : List TableName) → serves_to request (answers.Tables tables) ≡ true → request ≡ requests.ShowTables
only_shows requests.ShowTables tables fits = refl
only_shows request tables fits = absurd cc

-- HOW A SETUP BECOMES READY

record ReadyBy (plan : PlanData) (actor : Actor) (setup : Setup) (answer : Answer) : Type 0 where
  position : ℕ
  range : Option KeyRange
  insp : actor ≡ Insp
  good : is_bad answer ≡ false
  is : setup_step plan.table setup answer ≡ Ready position range

abbrev IfReady : PlanData → Actor → Setup → Answer → ToolPhase → Type 0
IfReady plan actor setup answer (SettingUp other tries) = Unit {0}
IfReady plan actor setup answer (Migrating work) = ReadyBy plan actor setup answer

module _ (plan : PlanData) (actor : Actor) (setup : Setup) (answer : Answer) where
  abbrev Then : Bool → ToolPhase → Type 0
  Then b tool_phase = IfReady plan actor setup answer tool_phase

  ready_back : (b : Bool) (tool_phase : ToolPhase) → Then b tool_phase → Then true (stopped tool_phase)
  ready_back b (SettingUp other tries) is = tt
  ready_back b (Migrating work) is = is

  ready_tool_phase : (size : ℕ) (tries : List ℕ) → actor ≡ Insp → is_bad answer ≡ false → (next : Setup) → setup_step plan.table setup answer ≡ next → IfReady plan actor setup answer (tool_phase_of plan size next tries)
  ready_tool_phase size tries insp good (Ready position range) is = record { position = position; range = range; insp = insp; good = good; is = is }
  ready_tool_phase size tries insp good Listing is = tt
  ready_tool_phase size tries insp good (Clearing left) is = tt
  ready_tool_phase size tries insp good MakingLog is = tt
  ready_tool_phase size tries insp good MakingGhost is = tt
  ready_tool_phase size tries insp good Marking is = tt
  ready_tool_phase size tries insp good (Reaching position) is = tt

  ready_insp : actor ≡ Insp → (tries : List ℕ) (tool : Tool) → tool.tool_phase ≡ SettingUp setup tries → IfReady plan actor setup answer (actor_took plan Insp answer (SettingUp setup tries) tool).tool_phase
  ready_insp insp tries tool same = by (is_reverting tool.reason) (is_bad answer) refl where
    by : (a b : Bool) → is_bad answer ≡ b
        → IfReady plan actor setup answer (cond a tool (cond b (spends plan tasks.Setup (tries ++ tool.turns ∷ []) (record tool { tool_phase = SettingUp Listing (tries ++ tool.turns ∷ []) })) (record tool { tool_phase = tool_phase_of plan tool.operator.size (cond b Listing (setup_step plan.table setup answer)) tries }))).tool_phase
    by true b bad = subst (IfReady plan actor setup answer) (sym same) tt
    by false true bad = spends_keeps Then ready_back plan tasks.Setup (tries ++ tool.turns ∷ []) (record tool { tool_phase = SettingUp Listing (tries ++ tool.turns ∷ []) }) tt
    by false false bad = ready_tool_phase tool.operator.size tries insp bad (setup_step plan.table setup answer) refl

  ready_took : (own : Actor) → actor ≡ own → (tries : List ℕ) (tool : Tool) → tool.tool_phase ≡ SettingUp setup tries → IfReady plan actor setup answer (actor_took plan own answer (SettingUp setup tries) tool).tool_phase
  ready_took Insp same tries tool tool_phase = ready_insp same tries tool tool_phase
  ready_took Op same tries tool tool_phase = subst (IfReady plan actor setup answer) (sym tool_phase) tt
  ready_took Copy same tries tool tool_phase = subst (IfReady plan actor setup answer) (sym tool_phase) tt
  ready_took Apply same tries tool tool_phase = subst (IfReady plan actor setup answer) (sym tool_phase) tt
  ready_took Lock same tries tool tool_phase = subst (IfReady plan actor setup answer) (sym tool_phase) tt
  ready_took Ren same tries tool tool_phase = subst (IfReady plan actor setup answer) (sym tool_phase) tt
  ready_took (Client c) same tries tool tool_phase = subst (IfReady plan actor setup answer) (sym tool_phase) tt

  ready_counts : (own : Actor) (tool : Tool) → IfReady plan actor setup answer tool.tool_phase → IfReady plan actor setup answer (turn_counts plan own tool).tool_phase
  ready_counts Apply tool is = drains_keeps Then ready_back plan tool.tool_phase tool refl (λ b work tries at. at) is
  ready_counts Op tool is = is
  ready_counts Insp tool is = is
  ready_counts Copy tool is = is
  ready_counts Lock tool is = is
  ready_counts Ren tool is = is
  ready_counts (Client c) tool is = is

  ready_resized : (size : ℕ) (tool_phase : ToolPhase) → Then false tool_phase → Then false (resizes (ChunkSize size) tool_phase)
  ready_resized size (SettingUp other tries) is = tt
  ready_resized size (Migrating work) is = is

  ready_commanded : (word : OperatorWord) (tool : Tool) → IfReady plan actor setup answer tool.tool_phase → IfReady plan actor setup answer (command_took word tool).tool_phase
  ready_commanded Panic tool is = reverts_keeps Then ready_back (Panicked tool.turns) (record tool { operator = operators.commanded Panic tool.operator; tool_phase = tool.tool_phase }) is
  ready_commanded (ChunkSize size) tool is = ready_resized size tool.tool_phase is
  ready_commanded Throttle tool is = is
  ready_commanded NoThrottle tool is = is
  ready_commanded Unpostpone tool is = is
  ready_commanded Wait tool is = is

-- WHAT THE JOURNAL SAYS OF WAITS

abbrev pub Agrees : PlanData → List Entry → Type 0
Agrees plan journal = (a : Actor) → request_waiting journal a ≡ (standing_of plan journal a).waits

call_waits : (request : Request) (answer : Answer) (old : Standing) (waited : Option Request) → waits_after (Call request) answer waited ≡ (answered request answer old).waits
call_waits request (answers.Waits by) old waited = refl
call_waits request answers.Lost old waited = refl
call_waits request (answers.TimedOut time) old waited = refl
call_waits request answer old waited = refl

poll_waits : (request : Request) (answer : Answer) (old : Standing) (waited : Option Request) → waited ≡ Some request → waits_after Poll answer waited ≡ (answered request answer old).waits
poll_waits request (answers.Waits by) old waited is = is
poll_waits request answers.Lost old waited is = refl
poll_waits request (answers.TimedOut time) old waited is = refl
poll_waits request answer old waited is = refl

pub insp_given : (plan : PlanData) (journal : List Entry) (asked : Asked) → given plan journal Insp ≡ Some asked → tool_asks plan journal (moment plan journal) Insp ≡ Some asked
unfolding given
insp_given plan journal asked gives = gives

-- WHAT HOLDS UNTIL THE MARK

abbrev pub is_marked : PlanData → List Entry → Bool
is_marked plan journal = list_any is_alter (history plan journal)

-- the new table stands, the cut-over isn't done, and what the inspector waits with keeps the new table
pub record Unmarked (plan : PlanData) (journal : List Entry) (work : Work) : Type 0 where
  pub ghost : schema_of (ghost_name plan.table) (state_at plan journal).tables ≡ Some (ghost_schema plan)
  pub undone : IsUndone work.cutover.phase
  pub waits : (request : Request) → (standing_of plan journal Insp).waits ≡ Some request → KeepsGhost plan.table request

abbrev pub IfUnmarked : PlanData → List Entry → ToolPhase → Type 0
IfUnmarked plan journal (SettingUp setup tries) = Unit {0}
IfUnmarked plan journal (Migrating work) = Unmarked plan journal work

pub record IsMarking (plan : PlanData) (journal : List Entry) : Type 0 where
  pub tabled : IsTabled plan journal
  pub agree : Agrees plan journal
  pub tool_phase : (is_marked plan journal ≡ true) ⊎ IfUnmarked plan journal (moment plan journal).tool.tool_phase

pub history_more : (plan : PlanData) (journal : List Entry) (entry : Entry) → is_marked plan (journal ++ entry ∷ []) ≡ (is_marked plan journal || list_any is_alter (entry_adds plan journal entry))
unfolding history
history_more plan journal entry = ap (list_any is_alter) (gathered-more (entry_adds plan) [] journal entry) ∙ list_any-append is_alter (gathered (entry_adds plan) [] journal) (entry_adds plan journal entry)

-- ONE TURN

module _ (plan : PlanData) (journal : List Entry) (entry : Entry) (is : IsTabled plan journal) (agree : Agrees plan journal) (run : IsRun plan journal entry) where
  abbrev now : Moment
  now = moment plan journal

  abbrev tool : Tool
  tool = record now.tool { turns = now.tool.turns + 1 }

  abbrev more : List Entry
  more = journal ++ entry ∷ []

  abbrev has : Actor → Standing
  has = standing_of plan journal

  abbrev now_has : Actor → Standing
  now_has = standing_of plan more

  served : IsServed plan journal entry
  served = record { answered = run.answered; seated = record { session = run.followed.session } }

  commanded : (word : OperatorWord) → entry.asked ≡ Command word → now_has entry.actor ≡ free
  commanded word asks =
      ap (standing_in (state_at plan more)) (live_more journal entry entry.actor ∙ ap (λ (b : Bool). cond b (session_left entry.asked entry.answer entry.session) (live_session journal entry.actor)) (same_actor_itself entry.actor)
      ∙ ap (λ (a : Asked). session_left a entry.answer entry.session) asks)

  -- WAITS

  agree_own : (asked : Asked) → entry.asked ≡ asked → IsGiven plan journal entry asked → waits_after entry.asked entry.answer (request_waiting journal entry.actor) ≡ (now_has entry.actor).waits
  agree_own (Command word) asks gives = ap (λ (a : Asked). waits_after a entry.answer (request_waiting journal entry.actor)) asks ∙ ap (λ (s : Standing). s.waits) (sym (commanded word asks))
  agree_own Cut asks gives = ap (λ (a : Asked). waits_after a entry.answer (request_waiting journal entry.actor)) asks ∙ ap (λ (s : Standing). s.waits) (sym (own_lost plan journal entry is.all.tool.known served asks))
  agree_own (Call request) asks gives =
      ap (λ (a : Asked). waits_after a entry.answer (request_waiting journal entry.actor)) asks ∙ call_waits request entry.answer (has entry.actor) (request_waiting journal entry.actor)
      ∙ ap (λ (s : Standing). s.waits) (sym (own_stands plan journal entry is.all.tool.known served request (is_called asks (given_idle plan journal entry.actor request is.all gives))))
  agree_own Poll asks gives =
      let with : WaitsWith (has entry.actor).waits = given_waits plan journal entry.actor is.all gives in
      ap (λ (a : Asked). waits_after a entry.answer (request_waiting journal entry.actor)) asks ∙ poll_waits with.request entry.answer (has entry.actor) (request_waiting journal entry.actor) (agree entry.actor ∙ with.is)
      ∙ ap (λ (s : Standing). s.waits) (sym (own_stands plan journal entry is.all.tool.known served with.request (is_polled asks with.is)))

  agree_more : Agrees plan more
  agree_more a = waiting_more journal entry a ∙ by (same_actor entry.actor a) refl where
    by : (b : Bool) → same_actor entry.actor a ≡ b → cond b (waits_after entry.asked entry.answer (request_waiting journal a)) (request_waiting journal a) ≡ (now_has a).waits
    by false differ = agree a ∙ ap (λ (s : Standing). s.waits) (sym (others_stand plan journal entry is.all.tool.known served a differ))
    by true same =
        subst (λ (b : Actor). waits_after entry.asked entry.answer (request_waiting journal b) ≡ (now_has b).waits) (same_actor_is entry.actor a same) (agree_own entry.asked refl run.followed.given)

  -- THE MARK

  marked_on : is_marked plan journal ≡ true → is_marked plan more ≡ true
  marked_on marked = history_more plan journal entry ∙ or_left (is_marked plan journal) (list_any is_alter (entry_adds plan journal entry)) marked

  marked_here : (table : List ℕ) → table ≡ plan.table → entry.actor ≡ Ren → IsAbout (exchange table) (has Ren) entry.asked → (count : ℕ) → answer_in entry.asked entry.side entry.answer entry.missed ≡ Some (answers.Ok count) → is_marked plan more ≡ true
  marked_here table own same is_about count reported = history_more plan journal entry ∙ or_right (is_marked plan journal) (list_any is_alter (entry_adds plan journal entry)) here where
    about_is : IsAbout (exchange table) (has Ren) entry.asked → histories.about journal entry ≡ Some (exchange table)
    about_is (is_called asks none) = ap (λ (a : Asked). histories.asked_about a (request_waiting journal entry.actor)) asks
    about_is (is_polled asks some) = ap (λ (a : Asked). histories.asked_about a (request_waiting journal entry.actor)) asks ∙ ap (request_waiting journal) same ∙ agree Ren ∙ some

    away : renames_away plan.table (Some (exchange table)) ≡ true
    away = or_left (bytes_eq table plan.table) _ (ap (bytes_eq table) (sym own) ∙ same_bytes table)

    here : list_any is_alter (entry_adds plan journal entry) ≡ true
    here =
        ap (λ (a : Actor). list_any is_alter (adds plan journal entry a)) same ∙ ap (λ (r : Option Request). list_any is_alter (alters plan r (answer_in entry.asked entry.side entry.answer entry.missed))) (about_is is_about)
        ∙ ap (λ (t : Option Answer). list_any is_alter (alters plan (Some (exchange table)) t)) reported ∙ ap (λ (b : Bool). list_any is_alter (cond b (Alter ∷ []) [])) away

  table_own : (work : Work) → now.tool.tool_phase ≡ Migrating work → work.cutover.table ≡ plan.table
  table_own work tool_phase = (subst (ToolPhaseIsNamed plan) tool_phase (named plan journal)).cutover

  work_stands : (work : Work) → now.tool.tool_phase ≡ Migrating work → WorkStands journal (is_reverting now.tool.reason) has work
  work_stands work tool_phase = subst (ToolPhaseStands journal has (is_reverting now.tool.reason)) tool_phase is.all.tool.stands

  marks_asked : (work : Work) → now.tool.tool_phase ≡ Migrating work → entry.actor ≡ Ren → Asking plan journal Ren entry.asked → (count : ℕ) → answer_in entry.asked entry.side entry.answer entry.missed ≡ Some (answers.Ok count) → is_marked plan more ≡ true
  marks_asked work tool_phase same asks count reported =
      ren_about plan journal entry is.all.tool run work tool_phase (work_stands work tool_phase) asks (is_marked plan more ≡ true)
      (λ request is_about kind. marked_here work.cutover.table (table_own work tool_phase) same (subst (λ (r : Request). IsAbout r (has Ren) entry.asked) kind is_about) count reported)

  marks : (work : Work) → now.tool.tool_phase ≡ Migrating work → entry.actor ≡ Ren → (asked : Asked) → entry.asked ≡ asked → given plan journal Ren ≡ Some asked ⊎ (asked ≡ Cut) → (count : ℕ) → answer_in entry.asked entry.side entry.answer entry.missed ≡ Some (answers.Ok count) → is_marked plan more ≡ true
  unfolding given
  marks work tool_phase same asked asks (inl gives) count reported = marks_asked work tool_phase same (asking plan journal Ren entry.asked is.all.tool.server (gives ∙ ap Some (sym asks))) count reported
  marks work tool_phase same asked asks (inr cut) count reported = absurd (no (sym (ap (λ (a : Asked). answer_in a entry.side entry.answer entry.missed) (asks ∙ cut)) ∙ reported)) where
    no : None ≡ Some (answers.Ok count) → ⊥
    no both = cc

  -- WHAT IS TOLD

  side_heard : (entry.answer ≡ answers.Lost → ⊥) → entry.side ≡ None
  side_heard heard = by entry.side refl where
    by : (side : Option Side) → entry.side ≡ side → entry.side ≡ None
    by None at = at
    by (Some side) at = absurd (heard (own_missed plan journal entry is.all.tool.known served side at))

  reported_heard : entry.side ≡ None → (entry.asked ≡ Cut → ⊥) → answer_in entry.asked entry.side entry.answer entry.missed ≡ Some entry.answer
  reported_heard no_side called = ap (λ (s : Option Side). answer_in entry.asked s entry.answer entry.missed) no_side ∙ by entry.asked called where
    by : (a : Asked) → (a ≡ Cut → ⊥) → answer_in a None entry.answer entry.missed ≡ Some entry.answer
    by Cut called = absurd (called refl)
    by (Call request) called = refl
    by Poll called = refl
    by (Command word) called = refl

  decide : (reported : Option Answer) → answer_in entry.asked entry.side entry.answer entry.missed ≡ reported
      → ((count : ℕ) × (answer_in entry.asked entry.side entry.answer entry.missed ≡ Some (answers.Ok count))) ⊎ ((count : ℕ) → answer_in entry.asked entry.side entry.answer entry.missed ≡ Some (answers.Ok count) → ⊥)
  decide (Some (answers.Ok count)) at = inl (count, at)
  decide reported at = inr (λ count same. let both : reported ≡ Some (answers.Ok count) = sym at ∙ same in cc)

  -- WHERE THE RENAME ISN'T TOLD DONE

  module _ (untold : entry.actor ≡ Ren → (count : ℕ) → answer_in entry.asked entry.side entry.answer entry.missed ≡ Some (answers.Ok count) → ⊥) (work : Work) (tool_phase : now.tool.tool_phase ≡ Migrating work) (going : Unmarked plan journal work) where
    own_table : work.cutover.table ≡ plan.table
    own_table = table_own work tool_phase

    stands : WorkStands journal (is_reverting now.tool.reason) has work
    stands = work_stands work tool_phase

    about_own : (actor : Actor) (request : Request) → entry.actor ≡ actor → IsAbout request (has actor) entry.asked → IsAbout request (has entry.actor) entry.asked
    about_own actor request same is_about = subst (λ (a : Actor). IsAbout request (has a) entry.asked) (sym same) is_about

    ghost_kept : (actor : Actor) (request : Request) → entry.actor ≡ actor → IsAbout request (has actor) entry.asked → KeepsGhost plan.table request → schema_of (ghost_name plan.table) (state_at plan more).tables ≡ schema_of (ghost_name plan.table) (state_at plan journal).tables
    ghost_kept actor request same is_about keeps = schema_stays plan journal entry served (own_waiting plan journal entry is.all.tool.known served) (ghost_name plan.table) request (about_own actor request same is_about) keeps

    -- what the inspector asks
    insp_safe : (request : Request) → tool_call plan now.server journal now.tool now.tool.tool_phase Insp ≡ Some request → KeepsGhost plan.table request
    insp_safe request call = by (inspects plan journal now.tool work request (ap (λ (c : ToolPhase). tool_call plan now.server journal now.tool c Insp) (sym tool_phase) ∙ call)) where
      by : Inspects plan journal now.tool work request → KeepsGhost plan.table request
      by (notes_so note resting reverting next) = subst (KeepsGhost plan.table) (sym note.is) refl
      by (cuts_so off next) = subst (λ (t : List ℕ). KeepsGhost t request) own_table (inspector_keeps work.cutover request next going.undone)

    insp_kept : entry.actor ≡ Insp → Asking plan journal Insp entry.asked → schema_of (ghost_name plan.table) (state_at plan more).tables ≡ schema_of (ghost_name plan.table) (state_at plan journal).tables
    insp_kept same (calls_so request asks idle call) = ghost_kept Insp request same (is_called asks idle) (insp_safe request call)
    insp_kept same (polls_so request asks some) = ghost_kept Insp request same (is_polled asks some) (going.waits request some)

    ren_kept : entry.actor ≡ Ren → (request : Request) → IsAbout request (has Ren) entry.asked → request ≡ exchange work.cutover.table → schema_of (ghost_name plan.table) (state_at plan more).tables ≡ schema_of (ghost_name plan.table) (state_at plan journal).tables
    ren_kept same request is_about kind =
        by (renamed_or_stays plan journal entry served (own_waiting plan journal entry is.all.tool.known served) (ghost_name plan.table) _ (subst (λ (r : Request). IsAbout r (has entry.actor) entry.asked) kind (about_own Ren request same is_about)) (reported_answer (state_at plan journal) entry run.answered)) where
          by : ((count : ℕ) × (answer_in entry.asked entry.side entry.answer entry.missed ≡ Some (answers.Ok count))) ⊎ (schema_of (ghost_name plan.table) (state_at plan more).tables ≡ schema_of (ghost_name plan.table) (state_at plan journal).tables)
              → schema_of (ghost_name plan.table) (state_at plan more).tables ≡ schema_of (ghost_name plan.table) (state_at plan journal).tables
          by (inl reported) = absurd (untold same reported.0 reported.1)
          by (inr stays) = stays

    ghost_asked : (actor : Actor) → entry.actor ≡ actor → given plan journal actor ≡ Some entry.asked → (entry.asked ≡ Cut → ⊥) → ((word : OperatorWord) → entry.asked ≡ Command word → ⊥) → schema_of (ghost_name plan.table) (state_at plan more).tables ≡ schema_of (ghost_name plan.table) (state_at plan journal).tables
    unfolding given
    ghost_asked (Client c) same gives called commands = quiet_stay plan journal entry is.all is.quiet run (Client c) same refl gives called commands (ghost_name plan.table)
    ghost_asked Op same gives called commands = quiet_stay plan journal entry is.all is.quiet run Op same refl gives called commands (ghost_name plan.table)
    ghost_asked Copy same gives called commands = quiet_stay plan journal entry is.all is.quiet run Copy same refl gives called commands (ghost_name plan.table)
    ghost_asked Apply same gives called commands = quiet_stay plan journal entry is.all is.quiet run Apply same refl gives called commands (ghost_name plan.table)
    ghost_asked Insp same gives called commands = insp_kept same (asking plan journal Insp entry.asked is.all.tool.server gives)
    ghost_asked Lock same gives called commands =
        lock_about plan journal entry is.all.tool run work tool_phase stands (asking plan journal Lock entry.asked is.all.tool.server gives) (schema_of (ghost_name plan.table) (state_at plan more).tables ≡ schema_of (ghost_name plan.table) (state_at plan journal).tables)
        (λ request is_about kind. ghost_kept Lock request same is_about (subst (λ (t : List ℕ). KeepsGhost t request) own_table (locker_keeps work.cutover.table work.cutover.hold work.cutover.phase request kind)))
    ghost_asked Ren same gives called commands =
        ren_about plan journal entry is.all.tool run work tool_phase stands (asking plan journal Ren entry.asked is.all.tool.server gives) (schema_of (ghost_name plan.table) (state_at plan more).tables ≡ schema_of (ghost_name plan.table) (state_at plan journal).tables)
        (λ request is_about kind. ren_kept same request is_about kind)

    ghost_stays : (asked : Asked) → entry.asked ≡ asked → IsGiven plan journal entry asked → schema_of (ghost_name plan.table) (state_at plan more).tables ≡ schema_of (ghost_name plan.table) (state_at plan journal).tables
    ghost_stays (Command word) asks gives = schema_rests plan journal entry served (own_waiting plan journal entry is.all.tool.known served) (ghost_name plan.table) (ap may_lose asks)
    ghost_stays Cut asks gives = schema_rests plan journal entry served (own_waiting plan journal entry is.all.tool.known served) (ghost_name plan.table) (ap may_lose asks)
    ghost_stays (Call request) asks gives = ghost_asked entry.actor refl (gives ∙ ap Some (sym asks)) (λ cut. no_cut (sym asks ∙ cut)) (λ word command. no_command word (sym asks ∙ command)) where
      no_cut : Call request ≡ Cut → ⊥
      no_cut same = cc

      no_command : (word : OperatorWord) → Call request ≡ Command word → ⊥
      no_command word same = cc
    ghost_stays Poll asks gives = ghost_asked entry.actor refl (gives ∙ ap Some (sym asks)) (λ cut. no_cut (sym asks ∙ cut)) (λ word command. no_command word (sym asks ∙ command)) where
      no_cut : Poll ≡ Cut → ⊥
      no_cut same = cc

      no_command : (word : OperatorWord) → Poll ≡ Command word → ⊥
      no_command word same = cc

    -- what the inspector waits with then
    none_safe : (request : Request) → now_has entry.actor ≡ free → (now_has entry.actor).waits ≡ Some request → KeepsGhost plan.table request
    none_safe request none some = absurd (no (ap (λ (s : Standing). s.waits) (sym none) ∙ some)) where
      no : None ≡ Some request → ⊥
      no same = cc

    own_safe : entry.actor ≡ Insp → (asked : Asked) → entry.asked ≡ asked → IsGiven plan journal entry asked → (request : Request) → (now_has entry.actor).waits ≡ Some request → KeepsGhost plan.table request
    own_safe same (Command word) asks gives request some = none_safe request (commanded word asks) some
    own_safe same Cut asks gives request some = none_safe request (own_lost plan journal entry is.all.tool.known served asks) some
    own_safe same (Call called) asks gives request some =
        waits_same (KeepsGhost plan.table) called request entry.answer (has entry.actor) (called_safe (asking plan journal Insp (Call called) is.all.tool.server (insp_given plan journal (Call called) (subst (λ (a : Actor). given plan journal a ≡ Some (Call called)) same gives))))
        (ap (λ (s : Standing). s.waits) (sym (own_stands plan journal entry is.all.tool.known served called (is_called asks (given_idle plan journal entry.actor called is.all gives)))) ∙ some) where
          called_safe : Asking plan journal Insp (Call called) → KeepsGhost plan.table called
          called_safe (calls_so other same idle call) = let one : other ≡ called = cc in insp_safe called (call ∙ ap Some one)
          called_safe (polls_so other same some) = absurd (no same) where
            no : Call called ≡ Poll → ⊥
            no both = cc
    own_safe same Poll asks gives request some =
        let with : WaitsWith (has entry.actor).waits = given_waits plan journal entry.actor is.all gives in
        waits_same (KeepsGhost plan.table) with.request request entry.answer (has entry.actor) (going.waits with.request (ap (λ (a : Actor). (has a).waits) (sym same) ∙ with.is))
        (ap (λ (s : Standing). s.waits) (sym (own_stands plan journal entry is.all.tool.known served with.request (is_polled asks with.is))) ∙ some)

    waits_safe : (request : Request) → (now_has Insp).waits ≡ Some request → KeepsGhost plan.table request
    waits_safe request some = by (same_actor entry.actor Insp) refl where
      by : (b : Bool) → same_actor entry.actor Insp ≡ b → KeepsGhost plan.table request
      by false differ = going.waits request (ap (λ (s : Standing). s.waits) (sym (others_stand plan journal entry is.all.tool.known served Insp differ)) ∙ some)
      by true same = let one : entry.actor ≡ Insp = same_actor_is entry.actor Insp same in own_safe one entry.asked refl run.followed.given request (ap (λ (a : Actor). (now_has a).waits) one ∙ some)

    -- what its answers must not be
    lists_ghost : Asking plan journal Insp entry.asked → entry.actor ≡ Insp → SeesGhost work.cutover entry.answer
    lists_ghost asks same tables listed = by asks where
      no_side : entry.side ≡ None
      no_side = side_heard (λ lost. not_lost (sym lost ∙ listed)) where
        not_lost : answers.Lost ≡ answers.Tables tables → ⊥
        not_lost both = cc

      shows : (request : Request) → IsAbout request (has Insp) entry.asked → request ≡ requests.ShowTables
      shows request is_about = only_shows request tables (ap (serves_to request) (sym listed) ∙ own_heard plan journal entry is.all.tool.known served request (about_own Insp request same is_about) no_side)

      by : Asking plan journal Insp entry.asked → has_name (ghost_name work.cutover.table) tables ≡ true
      by (calls_so request called idle call) =
          subst (λ (t : List ℕ). has_name (ghost_name t) tables ≡ true) (sym own_table)
          (lists_found plan journal entry served (own_waiting plan journal entry is.all.tool.known served) (ghost_name plan.table) (ghost_schema plan) tables (called ∙ ap Call (shows request (is_called called idle))) (own_given plan journal entry is.all.tool.known served no_side ∙ listed) going.ghost)
      by (polls_so request polled some) = absurd (true≢false (sym stands.inspector.waits ∙ ap (waits_so inspector_waits) (some ∙ ap Some (shows request (is_polled polled some)))))

    ends_asked : (actor : Actor) → entry.actor ≡ actor → given plan journal actor ≡ Some entry.asked → (entry.asked ≡ Cut → ⊥) → EndsNot actor (Migrating work) entry.answer
    unfolding given
    ends_asked Ren same gives called = λ count ok. untold same count (reported_heard (side_heard (λ lost. not_lost count (sym lost ∙ ok))) called ∙ ap Some ok) where
      not_lost : (count : ℕ) → answers.Lost ≡ answers.Ok count → ⊥
      not_lost count both = cc
    ends_asked Insp same gives called = lists_ghost (asking plan journal Insp entry.asked is.all.tool.server gives) same
    ends_asked Op same gives called = tt
    ends_asked Copy same gives called = tt
    ends_asked Apply same gives called = tt
    ends_asked Lock same gives called = tt
    ends_asked (Client c) same gives called = tt

    undone_now : ToolPhaseUndone tool.tool_phase
    undone_now = subst ToolPhaseUndone (sym tool_phase) going.undone

    undone_asked : given plan journal entry.actor ≡ Some entry.asked → (entry.asked ≡ Cut → ⊥) → ToolPhaseUndone (turn_counts plan entry.actor (actor_took plan entry.actor entry.answer tool.tool_phase tool)).tool_phase
    undone_asked gives called =
        undone_counts plan entry.actor (actor_took plan entry.actor entry.answer tool.tool_phase tool)
        (undone_took plan entry.actor entry.answer tool.tool_phase tool refl (subst (λ (c : ToolPhase). EndsNot entry.actor c entry.answer) (sym tool_phase) (ends_asked entry.actor refl gives called)) undone_now)

    undone_more : (asked : Asked) → entry.asked ≡ asked → IsGiven plan journal entry asked → ToolPhaseUndone (asked_took plan now.server entry asked tool).tool_phase
    undone_more (Command word) asks gives = undone_commanded word tool undone_now
    undone_more Cut asks gives = by (has_work now.server entry.session) where
      by : (b : Bool) → ToolPhaseUndone (cond b (actor_took plan entry.actor answers.Lost tool.tool_phase tool) tool).tool_phase
      by true = undone_took plan entry.actor answers.Lost tool.tool_phase tool refl (lost_ends entry.actor tool.tool_phase) undone_now
      by false = undone_now
    undone_more (Call request) asks gives = undone_asked (gives ∙ ap Some (sym asks)) (λ cut. no (sym asks ∙ cut)) where
      no : Call request ≡ Cut → ⊥
      no same = cc
    undone_more Poll asks gives = undone_asked (gives ∙ ap Some (sym asks)) (λ cut. no (sym asks ∙ cut)) where
      no : Poll ≡ Cut → ⊥
      no same = cc

    goes_on : (next : ToolPhase) → ToolPhaseUndone next → IfUnmarked plan more next
    goes_on (SettingUp setup tries) undone = tt
    goes_on (Migrating other) undone = record { ghost = ghost_stays entry.asked refl run.followed.given ∙ going.ghost; undone = undone; waits = waits_safe }

    unmarked_more : IfUnmarked plan more (moment plan more).tool.tool_phase
    unfolding took
    unmarked_more = subst (λ (m : Moment). IfUnmarked plan more m.tool.tool_phase) (sym (moment_more plan journal entry)) (goes_on (asked_took plan now.server entry entry.asked tool).tool_phase (undone_more entry.asked refl run.followed.given))

  -- BEHIND THE SETUP

  module _ (setup : Setup) (tries : List ℕ) (tool_phase : now.tool.tool_phase ≡ SettingUp setup tries) where
    at_setup : SetupTables plan (state_at plan journal).tables has setup
    at_setup = subst (ToolPhaseTables plan (state_at plan journal).tables has) tool_phase is.tables

    ready_with : ReadyBy plan entry.actor setup entry.answer → (request : Request) → IsAbout request (has entry.actor) entry.asked → setup_call plan setup ≡ Some request
        → (schema_of (ghost_name plan.table) (state_at plan more).tables ≡ Some (ghost_schema plan)) × ((other : Request) → (now_has Insp).waits ≡ Some other → KeepsGhost plan.table other)
    ready_with ready request is_about call = (passes (step_past plan.table setup entry.answer (ap past_ghost ready.is)), λ other some. waits_none other (following request entry.answer (has entry.actor)) (ap (λ (a : Actor). (now_has a).waits) ready.insp ∙ some)) where
      not_marking : Marking ≡ Ready ready.position ready.range → ⊥
      not_marking both = cc

      passes : Passes setup entry.answer → schema_of (ghost_name plan.table) (state_at plan more).tables ≡ Some (ghost_schema plan)
      passes (passed past) =
          schema_stays plan journal entry served (own_waiting plan journal entry is.all.tool.known served) (ghost_name plan.table) request is_about (past_keeps plan setup request past call) ∙ at_setup.ghost past
      passes (makes count at_making reported) = absurd (not_marking (sym (ap (λ (s : Setup). setup_step plan.table s entry.answer) at_making ∙ ap (setup_step plan.table MakingGhost) reported) ∙ ready.is))

      no_request : None ≡ Some request → ⊥
      no_request both = cc

      waits_none : (other : Request) → Following request entry.answer (has entry.actor) → (now_has entry.actor).waits ≡ Some other → KeepsGhost plan.table other
      waits_none other (rests none) some = absurd (no (sym none ∙ ap (λ (s : Standing). s.waits) (sym (own_stands plan journal entry is.all.tool.known served request is_about)) ∙ some)) where
        no : None ≡ Some other → ⊥
        no both = cc
      waits_none other (waits_on by waits) some = absurd (no_request (ap (setup_call plan) (sym ready.is ∙ ap (setup_step plan.table setup) waits ∙ step_waits plan.table setup by) ∙ call))

    unreverted : (b : Bool) (call : Option Request) (request : Request) → cond b None call ≡ Some request → call ≡ Some request
    unreverted true call request is = absurd cc
    unreverted false call request is = is

    ready_asked : ReadyBy plan entry.actor setup entry.answer → Asking plan journal Insp entry.asked
        → (schema_of (ghost_name plan.table) (state_at plan more).tables ≡ Some (ghost_schema plan)) × ((other : Request) → (now_has Insp).waits ≡ Some other → KeepsGhost plan.table other)
    ready_asked ready (calls_so request asks idle call) =
        ready_with ready request (subst (λ (a : Actor). IsAbout request (has a) entry.asked) (sym ready.insp) (is_called asks idle)) (unreverted (is_reverting now.tool.reason) (setup_call plan setup) request (ap (λ (c : ToolPhase). tool_call plan now.server journal now.tool c Insp) (sym tool_phase) ∙ call))
    ready_asked ready (polls_so request asks some) = ready_with ready request (subst (λ (a : Actor). IsAbout request (has a) entry.asked) (sym ready.insp) (is_polled asks some)) (at_setup.waits request some)

    set_off : (answer : Answer) (next : ToolPhase) → ToolPhaseUndone next → IfReady plan entry.actor setup answer next
        → (ReadyBy plan entry.actor setup answer → (schema_of (ghost_name plan.table) (state_at plan more).tables ≡ Some (ghost_schema plan)) × ((other : Request) → (now_has Insp).waits ≡ Some other → KeepsGhost plan.table other)) → IfUnmarked plan more next
    set_off answer (SettingUp other more_tries) undone ready then = tt
    set_off answer (Migrating work) undone ready then = let bits = then ready in record { ghost = bits.0; undone = undone; waits = bits.1 }

    undone_setup : ToolPhaseUndone tool.tool_phase
    undone_setup = subst ToolPhaseUndone (sym tool_phase) tt

    ready_setup : (answer : Answer) → IfReady plan entry.actor setup answer tool.tool_phase
    ready_setup answer = subst (IfReady plan entry.actor setup answer) (sym tool_phase) tt

    ends_setup : (actor : Actor) (answer : Answer) → EndsNot actor (SettingUp setup tries) answer
    ends_setup Ren answer = tt
    ends_setup Insp answer = tt
    ends_setup Op answer = tt
    ends_setup Copy answer = tt
    ends_setup Apply answer = tt
    ends_setup Lock answer = tt
    ends_setup (Client c) answer = tt

    undone_so : (answer : Answer) → ToolPhaseUndone (actor_took plan entry.actor answer tool.tool_phase tool).tool_phase
    undone_so answer = undone_took plan entry.actor answer tool.tool_phase tool refl (subst (λ (c : ToolPhase). EndsNot entry.actor c answer) (sym tool_phase) (ends_setup entry.actor answer)) undone_setup

    ready_so : (answer : Answer) → IfReady plan entry.actor setup answer (actor_took plan entry.actor answer tool.tool_phase tool).tool_phase
    ready_so answer = subst (λ (c : ToolPhase). IfReady plan entry.actor setup answer (actor_took plan entry.actor answer c tool).tool_phase) (sym tool_phase) (ready_took plan entry.actor setup answer entry.actor refl tries tool tool_phase)

    never_ready : ReadyBy plan entry.actor setup answers.Lost → (schema_of (ghost_name plan.table) (state_at plan more).tables ≡ Some (ghost_schema plan)) × ((other : Request) → (now_has Insp).waits ≡ Some other → KeepsGhost plan.table other)
    never_ready ready = absurd (true≢false ready.good)

    asked_off : given plan journal entry.actor ≡ Some entry.asked → IfUnmarked plan more (turn_counts plan entry.actor (actor_took plan entry.actor entry.answer tool.tool_phase tool)).tool_phase
    asked_off gives =
        set_off entry.answer (turn_counts plan entry.actor (actor_took plan entry.actor entry.answer tool.tool_phase tool)).tool_phase
        (undone_counts plan entry.actor (actor_took plan entry.actor entry.answer tool.tool_phase tool) (undone_so entry.answer)) (ready_counts plan entry.actor setup entry.answer entry.actor (actor_took plan entry.actor entry.answer tool.tool_phase tool) (ready_so entry.answer))
        (λ ready. ready_asked ready (asking plan journal Insp entry.asked is.all.tool.server (insp_given plan journal entry.asked (subst (λ (a : Actor). given plan journal a ≡ Some entry.asked) ready.insp gives))))

    off_more : (asked : Asked) → entry.asked ≡ asked → IsGiven plan journal entry asked → IfUnmarked plan more (asked_took plan now.server entry asked tool).tool_phase
    off_more (Command word) asks gives = set_off answers.Lost (command_took word tool).tool_phase (undone_commanded word tool undone_setup) (ready_commanded plan entry.actor setup answers.Lost word tool (ready_setup answers.Lost)) never_ready
    off_more Cut asks gives = by (has_work now.server entry.session) where
      by : (b : Bool) → IfUnmarked plan more (cond b (actor_took plan entry.actor answers.Lost tool.tool_phase tool) tool).tool_phase
      by true = set_off answers.Lost (actor_took plan entry.actor answers.Lost tool.tool_phase tool).tool_phase (undone_so answers.Lost) (ready_so answers.Lost) never_ready
      by false = set_off answers.Lost tool.tool_phase undone_setup (ready_setup answers.Lost) never_ready
    off_more (Call request) asks gives = asked_off (gives ∙ ap Some (sym asks))
    off_more Poll asks gives = asked_off (gives ∙ ap Some (sym asks))

    setup_more : IfUnmarked plan more (moment plan more).tool.tool_phase
    unfolding took
    setup_more = subst (λ (m : Moment). IfUnmarked plan more m.tool.tool_phase) (sym (moment_more plan journal entry)) (off_more entry.asked refl run.followed.given)

  -- ONE TURN MORE

  given_or_cut : (asked : Asked) → IsGiven plan journal entry asked → entry.actor ≡ Ren → given plan journal Ren ≡ Some asked ⊎ (asked ≡ Cut)
  given_or_cut Cut gives same = inr refl
  given_or_cut (Call request) gives same = inl (subst (λ (a : Actor). given plan journal a ≡ Some (Call request)) same gives)
  given_or_cut Poll gives same = inl (subst (λ (a : Actor). given plan journal a ≡ Some Poll) same gives)
  given_or_cut (Command word) gives same = inl (subst (λ (a : Actor). given plan journal a ≡ Some (Command word)) same gives)

  tool_phase_more : (tool_phase : ToolPhase) → now.tool.tool_phase ≡ tool_phase → IfUnmarked plan journal tool_phase → (is_marked plan more ≡ true) ⊎ IfUnmarked plan more (moment plan more).tool.tool_phase
  tool_phase_more (SettingUp setup tries) at un = inr (setup_more setup tries at)
  tool_phase_more (Migrating work) at un = by (same_actor entry.actor Ren) refl (decide (answer_in entry.asked entry.side entry.answer entry.missed) refl) where
    by : (b : Bool) → same_actor entry.actor Ren ≡ b → ((count : ℕ) × (answer_in entry.asked entry.side entry.answer entry.missed ≡ Some (answers.Ok count))) ⊎ ((count : ℕ) → answer_in entry.asked entry.side entry.answer entry.missed ≡ Some (answers.Ok count) → ⊥)
        → (is_marked plan more ≡ true) ⊎ IfUnmarked plan more (moment plan more).tool.tool_phase
    by false differ reported = inr (unmarked_more (λ ren count ok. absurd (true≢false (sym (ap (λ (a : Actor). same_actor a Ren) ren ∙ same_actor_itself Ren) ∙ differ))) work at un)
    by true same (inr untold) = inr (unmarked_more (λ ren count ok. untold count ok) work at un)
    by true same (inl reported) =
        let ren : entry.actor ≡ Ren = same_actor_is entry.actor Ren same in
        inl (marks work at ren entry.asked refl (given_or_cut entry.asked run.followed.given ren) reported.0 reported.1)

  marking_tool_phase : (is_marked plan journal ≡ true) ⊎ IfUnmarked plan journal now.tool.tool_phase → (is_marked plan more ≡ true) ⊎ IfUnmarked plan more (moment plan more).tool.tool_phase
  marking_tool_phase (inl marked) = inl (marked_on marked)
  marking_tool_phase (inr un) = tool_phase_more now.tool.tool_phase refl un

-- WHOLE JOURNALS

pub marking_more : (plan : PlanData) (journal : List Entry) (entry : Entry) → IsRun plan journal entry → IsMarking plan journal → IsMarking plan (journal ++ entry ∷ [])
marking_more plan journal entry run is = record { tabled = tabled_more plan journal entry run is.tabled; agree = agree_more plan journal entry is.tabled is.agree run; tool_phase = marking_tool_phase plan journal entry is.tabled is.agree run is.tool_phase }

pub marking_begins : (plan : PlanData) → IsFitting plan → TableExists plan → IsMarking plan []
unfolding moment live_session request_waiting
marking_begins plan fit stands = record { tabled = tabled_begins plan fit stands; agree = λ a. refl; tool_phase = inr tt }

pub all_marking : (plan : PlanData) (journal : List Entry) → IsFitting plan → TableExists plan → IsFaithful plan journal → Follows plan journal → IsMarking plan journal
unfolding Follows
all_marking plan journal fit stands faithful follows =
    Along-keeps (IsRun plan) (IsMarking plan) (λ before entry run is. marking_more plan before entry run is) [] journal (all_runs plan [] journal faithful follows) (marking_begins plan fit stands)

-- *The cut-over is done only behind the mark*
pub done_marked : (plan : PlanData) (journal : List Entry) → IsMarking plan journal → is_renamed (moment plan journal).tool.tool_phase ≡ true → is_marked plan journal ≡ true
done_marked plan journal is renamed = by is.tool_phase where
  undone : (tool_phase : ToolPhase) → IfUnmarked plan journal tool_phase → is_renamed tool_phase ≡ true → ⊥
  undone (SettingUp setup tries) un renamed = false≢true renamed
  undone (Migrating work) un renamed = true≢false (sym renamed ∙ un.undone.undone)

  by : (is_marked plan journal ≡ true) ⊎ IfUnmarked plan journal (moment plan journal).tool.tool_phase → is_marked plan journal ≡ true
  by (inl marked) = marked
  by (inr un) = absurd (undone (moment plan journal).tool.tool_phase un renamed)
