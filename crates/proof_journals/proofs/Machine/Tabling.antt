-- The migrated table and the new one stand with their schemas until all rows are copied.
use Rattle.std.proofs.Common.{◌≡◌, ◌⊎◌, ℕ, ◌+◌, Bool, true, false, cond, not, ◌&&◌, List, [], ◌∷◌, ◌++◌, Option, Some, None, refl, sym, ap, ◌∙◌, subst, inl, inr}
use Rattle.std.specs.List.{slice_get}
use Rattle.std.proofs.lemmas.Bool.{true≢false, false≢true}
use Rattle.std.proofs.lemmas.Option.{none-some}
use Rattle.base_script.specs.declared.actor.Actor.{Actor}
use Rattle.base_script.specs.declared.actor.Actor.TheVariants.{Op, Insp, Copy, Apply, Lock, Ren, Client}
use Rattle.base_script.specs.declared.operator.OperatorWord.{OperatorWord}
use Rattle.base_script.specs.declared.operator.OperatorWord.TheVariants.{Throttle, NoThrottle, ChunkSize, Unpostpone, Panic, Wait}
use Rattle.base_script.specs.declared.script.ScriptWord.{ScriptWord}
use Rattle.base_script.specs.declared.script.ScriptWord.TheVariants as words
use Rattle.table_store.specs.Databases.{Database}
use Rattle.server_model.specs.Along.{Along-keeps}
use Rattle.server_model.specs.declared.answer.Answer.{Answer}
use Rattle.server_model.specs.declared.answer.Answer.TheVariants as answers
use Rattle.server_model.specs.declared.entry.Asked.{Asked}
use Rattle.server_model.specs.declared.entry.Asked.TheVariants.{Call, Poll, Command, Cut}
use Rattle.server_model.specs.declared.entry.Entry.{Entry}
use Rattle.server_model.specs.declared.outcome.Task.TheVariants as tasks
use Rattle.server_model.specs.declared.request.Request.{Request}
use Rattle.server_model.specs.declared.request.Request.TheVariants as requests
use Rattle.server_model.specs.Entries.{same_actor, is_client}
use Rattle.plan_data.specs.PlanData.{PlanData, old_schema}
use Rattle.base_values.specs.ToolNames.{ghost_name, log_name}
use Rattle.tool_changelog.specs.ToolTables.{log_schema}
use Rattle.tool_program.specs.JournalWords.Clients.{client_at, word_asks}
use Rattle.tool_program.specs.JournalWords.Journals.{state_at, IsFaithful, opening}
use Rattle.tool_program.specs.JournalWords.KeptPlans.{words_of}
use Rattle.tool_program.specs.JournalWords.Sessions.{live_session}
use Rattle.tool_program.specs.declared.chunk_copier.copier.Copier.{Copier}
use Rattle.tool_program.specs.declared.chunk_copier.copier.CopyStep.{CopyStep}
use Rattle.tool_program.specs.declared.chunk_copier.copier.CopyStep.TheVariants as copying
use Rattle.tool_program.specs.ChunkCopier.Copiers as copiers
use Rattle.tool_program.specs.declared.event_applier.applier.ApplyStep.{ApplyStep}
use Rattle.tool_program.specs.declared.event_applier.applier.ApplyStep.TheVariants as applying
use Rattle.tool_program.specs.EventApplier.Appliers as appliers
use Rattle.tool_program.specs.declared.cutover_core.cutover.Leftovers.{Leftovers}
use Rattle.tool_program.specs.declared.cutover_core.cutover.Phase.{Phase}
use Rattle.tool_program.specs.declared.cutover_core.cutover.Role.TheVariants.{Inspector, Locker, Renamer}
use Rattle.tool_program.specs.CutoverCore.Attempts as cutovers
use Rattle.tool_program.specs.CutoverCore.Attempts.{first_name, is_clear, without_first}
use Rattle.tool_program.specs.CutoverCore.CutOvers as cuts
use Rattle.tool_program.specs.CutoverCore.CutOvers.{is_bad, is_resting, drained, ended, applier_turn, reverted}
use Rattle.tool_program.specs.Setups.{Setup, Listing, Clearing, MakingLog, MakingGhost, Marking, Reaching, Ready, setup_call, setup_step, clearing, listed}
use Rattle.tool_program.proofs.OnlineCalls.Naming.{not_ghost, not_log, not_first}
use Rattle.server_model.proofs.LockedRows.Tests.{turned_bytes}
use Rattle.tool_program.specs.Operators.{is_throttled}
use Rattle.tool_program.specs.Programs.{in_transaction, waits, tool_call, tool_asks, copy_call, apply_call, lock_call, may_begin, rolls_back, given, IsGiven, Follows}
use Rattle.tool_program.specs.Operators.{commanded}
use Rattle.tool_program.specs.Tools.{Work, ToolPhase, SettingUp, Migrating, Panicked, Tool, Moment, stopped, spends, is_reverting, is_failure, tool_phase_of, copy_took, apply_took, cutover_took, actor_took, turn_counts, resizes, command_took, asked_took, took, moment}
use Rattle.server_model.specs.States.{State, has_work, session_of, is_in_transaction, holds_tables, is_waiting}
use Rattle.proof_journals.specs.Machine.Standings.{Standing, free, standing_in, standing_of, answered, answers_to, IsAbout, is_called, is_polled}
use Rattle.proof_journals.specs.Machine.Machines.{ApplierStands, copier_asks, applier_asks, held, PhaseHolds, renaming, WorkStands, SetupStands, ToolPhaseStands}
use Rattle.proof_journals.specs.Machine.FormedPlans.{IsFitting}
use Rattle.proof_journals.specs.Machine.MigrationTables.{schema_of, ghost_schema, TablesExist, past_ghost, SetupTables, WritesLog, Uncopied, WorkTables, ToolPhaseTables, TableExists}
use Rattle.proof_journals.specs.Machine.Laws.{TablesExistUncopied}
use Rattle.proof_journals.proofs.Machine.Calling.{none_asked, reverting_or}
use Rattle.proof_journals.proofs.Machine.Seated.{IsServed, others_stand, own_stands, own_fits, own_lost, own_session, own_waiting, own_given}
use Rattle.proof_journals.proofs.Machine.Asking.{some_request, WaitsWith, unless_called, copier_next, applier_next}
use Rattle.proof_journals.proofs.Machine.Inspecting.{Inspects, notes_so, cuts_so, inspects}
use Rattle.proof_journals.proofs.Machine.Lifting.{reverts_keeps, spends_keeps, attempt_keeps, copy_keeps, apply_keeps, drains_keeps}
use Rattle.proof_journals.proofs.Machine.Journals.{IsRun, all_runs, Asking, calls_so, polls_so, asking, apply_called, client_commands, never_commands}
use Rattle.proof_journals.proofs.Machine.Clients.{Next, calls_line, polls_line, client_next}
use Rattle.proof_journals.proofs.Machine.Polling.{AllTogether, AllWaits, waits_more, waits_begin, waits_same, together_more_all, together_begins_all, given_idle, given_waits, no_word}
use Rattle.proof_journals.proofs.Machine.Schemas.{keeps_table, is_quiet, quiet_keeps, schema_stays, schema_rests, schema_made}
use Rattle.proof_journals.proofs.Sentry.Inductions.{moment_more}
use Rattle.proof_journals.proofs.Faces.{busy_face}

-- THE SETUP'S CALLS

-- each leaves the migrated table
pub setup_keeps : (plan : PlanData) (setup : Setup) (request : Request) → setup_call plan setup ≡ Some request → keeps_table plan.table request ≡ true
unfolding log_schema
setup_keeps plan Listing request is = some_request (λ r. keeps_table plan.table r ≡ true) _ request is refl
setup_keeps plan (Clearing left) request is = some_request (λ r. keeps_table plan.table r ≡ true) _ request is (rw (not_first plan.table left) refl)
setup_keeps plan MakingLog request is = some_request (λ r. keeps_table plan.table r ≡ true) _ request is (rw (turned_bytes plan.table (log_name plan.table) (not_log plan.table)) refl)
setup_keeps plan MakingGhost request is = some_request (λ r. keeps_table plan.table r ≡ true) _ request is (rw (turned_bytes plan.table (ghost_name plan.table) (not_ghost plan.table)) refl)
setup_keeps plan Marking request is = some_request (λ r. keeps_table plan.table r ≡ true) _ request is refl
setup_keeps plan (Reaching position) request is = some_request (λ r. keeps_table plan.table r ≡ true) _ request is refl
setup_keeps plan (Ready position range) request is = absurd cc

-- ... and the new one, once it is made
pub past_keeps : (plan : PlanData) (setup : Setup) (request : Request) → past_ghost setup ≡ true → setup_call plan setup ≡ Some request → keeps_table (ghost_name plan.table) request ≡ true
past_keeps plan Marking request past is = some_request (λ r. keeps_table (ghost_name plan.table) r ≡ true) _ request is refl
past_keeps plan (Reaching position) request past is = some_request (λ r. keeps_table (ghost_name plan.table) r ≡ true) _ request is refl
past_keeps plan (Ready position range) request past is = absurd cc
past_keeps plan setup request past is = absurd (false≢true past)

clearing_past : (left : Leftovers) → past_ghost (clearing left) ≡ false
clearing_past left = by (is_clear left) where
  by : (b : Bool) → past_ghost (cond b MakingLog (Clearing left)) ≡ false
  by true = refl
  by false = refl

-- how a setup comes past the making of the new table
pub data Passes (setup : Setup) (answer : Answer) : Type 0 where
  passed : past_ghost setup ≡ true → Passes setup answer
  makes : (count : ℕ) → setup ≡ MakingGhost → answer ≡ answers.Ok count → Passes setup answer

pub step_past : (table : List ℕ) (setup : Setup) (answer : Answer) → past_ghost (setup_step table setup answer) ≡ true → Passes setup answer
step_past table Marking answer past = passed refl
step_past table (Reaching position) answer past = passed refl
step_past table (Ready position range) answer past = passed refl
step_past table MakingGhost (answers.Ok count) past = makes count refl refl
step_past table MakingGhost answer past = absurd (false≢true past)
step_past table Listing (answers.Tables tables) past = absurd (true≢false (sym past ∙ clearing_past (listed table tables)))
step_past table Listing answer past = absurd (false≢true past)
step_past table (Clearing left) (answers.Ok count) past = absurd (true≢false (sym past ∙ clearing_past (without_first left)))
step_past table (Clearing left) answer past = absurd (false≢true past)
step_past table MakingLog (answers.Ok count) past = absurd (false≢true past)
step_past table MakingLog answer past = absurd (false≢true past)

pub step_waits : (table : List ℕ) (setup : Setup) (by : ℕ) → setup_step table setup (answers.Waits by) ≡ setup
step_waits table Listing by = refl
step_waits table (Clearing left) by = refl
step_waits table MakingLog by = refl
step_waits table MakingGhost by = refl
step_waits table Marking by = refl
step_waits table (Reaching position) by = refl
step_waits table (Ready position range) by = refl

-- behind an answer the request waits, or none does
pub data Following (request : Request) (answer : Answer) (old : Standing) : Type 0 where
  waits_on : (by : ℕ) → answer ≡ answers.Waits by → Following request answer old
  rests : (answered request answer old).waits ≡ None → Following request answer old

pub following : (request : Request) (answer : Answer) (old : Standing) → Following request answer old
following request (answers.Waits by) old = waits_on by refl
following request answers.Lost old = rests refl
following request (answers.TimedOut waited) old = rests refl
following request answer old = rests refl

pub waits_copied : (turn : ℕ) (copier : Copier) (by : ℕ) → (copiers.took turn copier (answers.Waits by)).is_copied ≡ copier.is_copied
unfolding copiers.took
waits_copied turn copier by = at copier.step where
  at : (step : CopyStep) → (copiers.after_answer turn copier step (answers.Waits by)).is_copied ≡ copier.is_copied
  at copying.Choosing = refl
  at (copying.Spanning reported size) = refl
  at (copying.Copying chunk copied) = refl
  at (copying.Committing chunk) = refl

pub lost_copied : (turn : ℕ) (copier : Copier) → (copiers.took turn copier answers.Lost).is_copied ≡ copier.is_copied
unfolding copiers.took
lost_copied turn copier = refl

-- who has nothing has no work
pub free_idle : (state : State) (n : ℕ) → standing_in state (Some n) ≡ free → has_work state n ≡ false
free_idle state n is =
    let busy : is_in_transaction (session_of n state.sessions) ≡ false = busy_face (session_of n state.sessions) ∙ ap (λ (s : Standing). s.busy) is in
    let locked : holds_tables (session_of n state.sessions) ≡ false = Rattle.proof_journals.proofs.Machine.Asking.unlocked_holds (session_of n state.sessions) (ap (λ (s : Standing). s.locked) is) in
    let waits : is_waiting state n ≡ false = none_asked n state.waiting (ap (λ (s : Standing). s.waits) is) in
    rw (busy, locked, waits) refl

-- WHO ASKS NOTHING OF THE KIND

-- the copier, the applier and the clients make, drop and rename no table
abbrev pub may_define : Actor → Bool
may_define Insp = true
may_define Lock = true
may_define Ren = true
may_define actor = false

abbrev pub QuietAt : Actor → Request → Type 0
QuietAt actor request = may_define actor ≡ false → is_quiet request ≡ true

copier_quiet : (step : CopyStep) (request : Request) → copier_asks step request ≡ true → is_quiet request ≡ true
copier_quiet copying.Choosing (requests.ChunkEnd table low top size) kind = refl
copier_quiet (copying.Spanning reported most) (requests.BeginSpan table span size) kind = refl
copier_quiet (copying.Copying chunk copied) (requests.CopyRow from into columns key) kind = refl
copier_quiet (copying.Committing chunk) requests.Commit kind = refl
copier_quiet step request kind = absurd cc

applier_quiet : (step : ApplyStep) (request : Request) → applier_asks step request ≡ true → is_quiet request ≡ true
applier_quiet applying.Reading (requests.ReadLog position limit tables) kind = refl
applier_quiet (applying.Beginning batch) requests.Begin kind = refl
applier_quiet (applying.Applying batch done part) (requests.Do statement) kind = refl
applier_quiet (applying.Committing batch) requests.Commit kind = refl
applier_quiet step request kind = absurd cc

word_quiet : (word : ScriptWord) → is_quiet (word_asks word) ≡ true
word_quiet words.Begin = refl
word_quiet words.Commit = refl
word_quiet words.Rollback = refl
word_quiet (words.Do statement) = refl

pub back_quiet : (busy : Bool) (request : Request) → cond busy (Some requests.Rollback) None ≡ Some request → request ≡ requests.Rollback
back_quiet true request is = some_request (λ r. r ≡ requests.Rollback) _ request is refl
back_quiet false request is = absurd cc

call_quiet : (plan : PlanData) (journal : List Entry) (actor : Actor) (request : Request) (tool_phase : ToolPhase) → ToolPhaseStands journal (standing_of plan journal) (is_reverting (moment plan journal).tool.reason) tool_phase → may_define actor ≡ false
    → tool_call plan (moment plan journal).server journal (moment plan journal).tool tool_phase actor ≡ Some request → is_quiet request ≡ true
call_quiet plan journal Copy request (Migrating work) at none call =
    reverting_or (is_quiet request ≡ true) (is_reverting (moment plan journal).tool.reason) (rolls_back (moment plan journal).server (live_session journal Copy)) (copy_call plan (moment plan journal).server journal (moment plan journal).tool work) request call
    (λ reverting back. ap is_quiet (back_quiet (in_transaction (moment plan journal).server (live_session journal Copy)) request back))
    (λ going asks. copier_quiet work.copier.step request
    (copier_next journal work.copier request (unless_called (copiers.starts work.copier && is_throttled plan (moment plan journal).server (moment plan journal).tool.operator) (copiers.next journal work.copier) request asks)))
call_quiet plan journal Apply request (Migrating work) at none call =
    reverting_or (is_quiet request ≡ true) (is_reverting (moment plan journal).tool.reason) (rolls_back (moment plan journal).server (live_session journal Apply)) (apply_call plan (moment plan journal).server journal (moment plan journal).tool work) request call
    (λ reverting back. ap is_quiet (back_quiet (in_transaction (moment plan journal).server (live_session journal Apply)) request back))
    (λ going asks. applied at.applier going asks) where
      known_next : (stands : ApplierStands journal work.applier (standing_of plan journal Apply)) → applier_asks work.applier.step (appliers.call_at journal work.applier work.applier.step) ≡ true
      known_next stands = applier_next journal work.applier work.applier.step stands.known

      applied : (is_reverting (moment plan journal).tool.reason ≡ true) ⊎ ApplierStands journal work.applier (standing_of plan journal Apply) → is_reverting (moment plan journal).tool.reason ≡ false → apply_call plan (moment plan journal).server journal (moment plan journal).tool work ≡ Some request
          → is_quiet request ≡ true
      applied (inl reverting) going asks = absurd (true≢false (sym reverting ∙ going))
      applied (inr stands) going asks = applier_quiet work.applier.step request (ap (applier_asks work.applier.step) (next_is work.applier request (apply_called plan journal work request asks)) ∙ known_next stands) where
        next_is : (applier : _) (request : Request) → request ≡ appliers.next journal applier → request ≡ appliers.call_at journal applier applier.step
        next_is applier request same = same ∙ Rattle.proof_journals.proofs.Machine.Forming.next_call journal applier
call_quiet plan journal Insp request tool_phase at none call = absurd cc
call_quiet plan journal Lock request tool_phase at none call = absurd cc
call_quiet plan journal Ren request tool_phase at none call = absurd cc
call_quiet plan journal actor request (SettingUp setup tries) at none call = absurd cc
call_quiet plan journal actor request (Migrating work) at none call = absurd cc

tool_quiet : (plan : PlanData) (journal : List Entry) (actor : Actor) (request : Request) → AllTogether plan journal → tool_asks plan journal (moment plan journal) actor ≡ Some (Call request) → may_define actor ≡ false → is_quiet request ≡ true
tool_quiet plan journal actor request is gives none = by (asking plan journal actor (Call request) is.tool.server gives) where
  by : Asking plan journal actor (Call request) → is_quiet request ≡ true
  by (calls_so other same idle call) = let one : other ≡ request = cc in call_quiet plan journal actor request (moment plan journal).tool.tool_phase is.tool.stands none (call ∙ ap Some one)
  by (polls_so other same some) = absurd (no same) where
    no : Call request ≡ Poll → ⊥
    no both = cc

pub given_quiet : (plan : PlanData) (journal : List Entry) (actor : Actor) (request : Request) → AllTogether plan journal → given plan journal actor ≡ Some (Call request) → QuietAt actor request
unfolding given
given_quiet plan journal (Client c) request is gives none = by (client_next plan journal c (Call request) gives) where
  by : Next (client_at plan journal c) (Call request) → is_quiet request ≡ true
  by (calls_line line lines going off left same) = let one : word_asks line.word ≡ request = cc in subst (λ (r : Request). is_quiet r ≡ true) one (word_quiet line.word)
  by (polls_line going on same) = absurd (no same) where
    no : Call request ≡ Poll → ⊥
    no both = cc
given_quiet plan journal Op request is gives none = absurd (no_word (slice_get (words_of plan) (moment plan journal).tool.operator.taken) (Call request) refl gives)
given_quiet plan journal Copy request is gives none = tool_quiet plan journal Copy request is gives none
given_quiet plan journal Apply request is gives none = tool_quiet plan journal Apply request is gives none
given_quiet plan journal Insp request is gives none = absurd (true≢false none)
given_quiet plan journal Lock request is gives none = absurd (true≢false none)
given_quiet plan journal Ren request is gives none = absurd (true≢false none)

-- a statement makes, drops and renames no table
pub log_quiet : (plan : PlanData) (request : Request) → WritesLog plan request → is_quiet request ≡ true
log_quiet plan (requests.Do statement) is = refl
log_quiet plan request is = absurd is

pub next_uncopied : (journal : List Entry) (copier : Copier) (request : Request) → copiers.next journal copier ≡ Some request → copier.is_copied ≡ false
unfolding copiers.next
next_uncopied journal copier request is = by copier.is_copied is where
  by : (b : Bool) → cond b None (copiers.call_in journal copier copier.range) ≡ Some request → b ≡ false
  by true is = absurd cc
  by false is = refl

-- ONE TURN

module _ (plan : PlanData) (journal : List Entry) (entry : Entry) (is : AllTogether plan journal) (quiet : AllWaits QuietAt plan journal) (run : IsRun plan journal entry) where
  abbrev now : Moment
  now = moment plan journal

  abbrev tool : Tool
  tool = record now.tool { turns = now.tool.turns + 1 }

  abbrev more : List Entry
  more = journal ++ entry ∷ []

  abbrev has : Actor → Standing
  has = standing_of plan journal

  abbrev now_has : Actor → Standing
  now_has = standing_of plan more

  abbrev before : Database
  before = (state_at plan journal).tables

  abbrev after : Database
  after = (state_at plan more).tables

  served : IsServed plan journal entry
  served = record { answered = run.answered; seated = record { session = run.followed.session } }

  abbrev Now : Bool → ToolPhase → Type 0
  Now b tool_phase = ToolPhaseTables plan after now_has tool_phase

  abbrev Tabled : Tool → Type 0
  Tabled one = ToolPhaseTables plan after now_has one.tool_phase

  others : (actor : Actor) → entry.actor ≡ actor → (a : Actor) → same_actor actor a ≡ false → now_has a ≡ has a
  others actor same a differ = others_stand plan journal entry is.tool.known served a (ap (λ (b : Actor). same_actor b a) same ∙ differ)

  about : (actor : Actor) (request : Request) → entry.actor ≡ actor → IsAbout request (has actor) entry.asked → IsAbout request (has entry.actor) entry.asked
  about actor request same is_about = subst (λ (a : Actor). IsAbout request (has a) entry.asked) (sym same) is_about

  has_now : (actor : Actor) (request : Request) → entry.actor ≡ actor → IsAbout request (has actor) entry.asked → now_has actor ≡ answered request entry.answer (has actor)
  has_now actor request same is_about = subst (λ (a : Actor). now_has a ≡ answered request entry.answer (has a)) same (own_stands plan journal entry is.tool.known served request (about actor request same is_about))

  stays : (name : List ℕ) (actor : Actor) (request : Request) → entry.actor ≡ actor → IsAbout request (has actor) entry.asked → keeps_table name request ≡ true → schema_of name after ≡ schema_of name before
  stays name actor request same is_about keeps = schema_stays plan journal entry served (own_waiting plan journal entry is.tool.known served) name request (about actor request same is_about) keeps

  rests_so : (name : List ℕ) → Rattle.tool_program.specs.JournalWords.Journals.may_lose entry.asked ≡ false → schema_of name after ≡ schema_of name before
  rests_so name quiet_asked = schema_rests plan journal entry served (own_waiting plan journal entry is.tool.known served) name quiet_asked

  -- all schemas stay
  abbrev pub AllStay : Type 0
  AllStay = (name : List ℕ) → schema_of name after ≡ schema_of name before

  tables_stay : AllStay → TablesExist plan before → TablesExist plan after
  tables_stay stay at = record { old = stay plan.table ∙ at.old; ghost = stay (ghost_name plan.table) ∙ at.ghost }

  uncopied_stay : (work next : Work) → AllStay → now_has Insp ≡ has Insp → next.cutover.phase ≡ work.cutover.phase → next.cutover.renamer_waits ≡ work.cutover.renamer_waits → Uncopied plan before has work → Uncopied plan after now_has next
  uncopied_stay work next stay insp phase renamer at =
      record { tables = tables_stay stay at.tables; inspector = λ request some. at.inspector request (ap (λ (s : Standing). s.waits) (sym insp) ∙ some); phase = phase ∙ at.phase; renamer = renamer ∙ at.renamer }

  -- A REVERT, THE DRAIN, A COMMAND

  back : (b : Bool) (tool_phase : ToolPhase) → Now b tool_phase → Now true (stopped tool_phase)
  unfolding reverted
  back b (SettingUp setup tries) at = at
  back b (Migrating work) at = record { going = λ off. let one = at.going off in record { tables = one.tables; inspector = one.inspector; phase = ap ended one.phase; renamer = one.renamer }; copied = at.copied }

  drain : (b : Bool) (work : Work) (tries : List ℕ) → Now b (Migrating work) → Now b (Migrating (record work { cutover = applier_turn work.applier.hint work.cutover; attempt_tries = tries }))
  unfolding applier_turn
  drain b work tries at = record { going = λ off. let one = at.going off in record { tables = one.tables; inspector = one.inspector; phase = ap (drained work.cutover work.applier.hint) one.phase; renamer = one.renamer }; copied = at.copied }

  resized : (size : ℕ) (tool_phase : ToolPhase) → Now false tool_phase → Now false (resizes (ChunkSize size) tool_phase)
  resized size (SettingUp setup tries) at = at
  resized size (Migrating work) at = record { going = λ off. let one = at.going off in record { tables = one.tables; inspector = one.inspector; phase = one.phase; renamer = one.renamer }; copied = at.copied }

  commanded_so : (word : OperatorWord) (one : Tool) → Tabled one → Tabled (command_took word one)
  commanded_so Panic one at = reverts_keeps Now back (Panicked one.turns) (record one { operator = commanded Panic one.operator; tool_phase = one.tool_phase }) at
  commanded_so (ChunkSize size) one at = resized size one.tool_phase at
  commanded_so Throttle one at = at
  commanded_so NoThrottle one at = at
  commanded_so Unpostpone one at = at
  commanded_so Wait one at = at

  -- OTHERS' TURNS

  -- neither the inspector's turn nor the copier's, and no table is made, dropped or renamed
  still : (tool_phase : ToolPhase) → AllStay → now_has Insp ≡ has Insp → now_has Copy ≡ has Copy → ToolPhaseTables plan before has tool_phase → ToolPhaseTables plan after now_has tool_phase
  still (SettingUp setup tries) stay insp copy at =
      record { old = stay plan.table ∙ at.old; ghost = λ past. stay (ghost_name plan.table) ∙ at.ghost past; waits = λ request some. at.waits request (ap (λ (s : Standing). s.waits) (sym insp) ∙ some) }
  still (Migrating work) stay insp copy at = record { going = λ off. uncopied_stay work work stay insp refl refl (at.going off); copied = λ on. ap (λ (s : Standing). s.waits) copy ∙ at.copied on }

  -- a call or a poll of an actor that defines nothing leaves all schemas
  pub quiet_stay : (actor : Actor) → entry.actor ≡ actor → may_define actor ≡ false → given plan journal actor ≡ Some entry.asked → (entry.asked ≡ Cut → ⊥) → ((word : OperatorWord) → entry.asked ≡ Command word → ⊥) → AllStay
  quiet_stay actor same none gives called commanded name = by entry.asked refl where
    by : (asked : Asked) → entry.asked ≡ asked → schema_of name after ≡ schema_of name before
    by (Call request) asks =
        let given_call : given plan journal actor ≡ Some (Call request) = gives ∙ ap Some asks in
        stays name actor request same (is_called asks (given_idle plan journal actor request is given_call)) (quiet_keeps name request (given_quiet plan journal actor request is given_call none))
    by Poll asks =
        let with : WaitsWith (has actor).waits = given_waits plan journal actor is (gives ∙ ap Some asks) in
        stays name actor with.request same (is_polled asks with.is) (quiet_keeps name with.request (quiet actor with.request with.is none))
    by Cut asks = absurd (called asks)
    by (Command word) asks = absurd (commanded word asks)

  -- THE COPIER

  -- once all is copied it isn't asked, but to roll back
  pub copied_idle : (work : Work) → now.tool.tool_phase ≡ Migrating work → work.copier.is_copied ≡ true → (has Copy).waits ≡ None → Asking plan journal Copy entry.asked → (is_reverting now.tool.reason ≡ true) × IsAbout requests.Rollback (has Copy) entry.asked
  copied_idle work tool_phase on none (polls_so request asks some) = absurd (no (sym none ∙ some)) where
    no : None ≡ Some request → ⊥
    no same = cc
  copied_idle work tool_phase on none (calls_so request asks idle call) =
      reverting_or ((is_reverting now.tool.reason ≡ true) × IsAbout requests.Rollback (has Copy) entry.asked) (is_reverting now.tool.reason) (rolls_back now.server (live_session journal Copy)) (copy_call plan now.server journal now.tool work) request (ap (λ (c : ToolPhase). tool_call plan now.server journal now.tool c Copy) (sym tool_phase) ∙ call)
      (λ reverting back_so. (reverting, is_called (asks ∙ ap Call (back_quiet (in_transaction now.server (live_session journal Copy)) request back_so)) idle))
      (λ going asks_so. absurd (true≢false (sym on ∙ next_uncopied journal work.copier request (unless_called (copiers.starts work.copier && is_throttled plan now.server now.tool.operator) (copiers.next journal work.copier) request asks_so))))

  -- behind its turn it waits only where rows are left
  copy_asked : entry.actor ≡ Copy → AllStay → Asking plan journal Copy entry.asked → (tool_phase : ToolPhase) → now.tool.tool_phase ≡ tool_phase → ToolPhaseTables plan before has tool_phase → Tabled (actor_took plan Copy entry.answer tool_phase tool)
  copy_asked same stay asks (SettingUp setup tries) tool_phase at = subst Now' (sym tool_phase) (still (SettingUp setup tries) stay (others Copy same Insp refl) copy_free at) where
    Now' : ToolPhase → Type 0
    Now' c = ToolPhaseTables plan after now_has c

    setup_free : ToolPhaseStands journal has (is_reverting now.tool.reason) (SettingUp setup tries)
    setup_free = subst (ToolPhaseStands journal has (is_reverting now.tool.reason)) tool_phase is.tool.stands

    copy_free : now_has Copy ≡ has Copy
    copy_free = absurd (by asks) where
      by : Asking plan journal Copy entry.asked → ⊥
      by (polls_so request polled some) = no (sym (ap (λ (s : Standing). s.waits) setup_free.copier) ∙ some) where
        no : None ≡ Some request → ⊥
        no both = cc
      by (calls_so request called idle call) = no (ap (λ (c : ToolPhase). tool_call plan now.server journal now.tool c Copy) (sym tool_phase) ∙ call) where
        no : None ≡ Some request → ⊥
        no both = cc
  copy_asked same stay asks (Migrating work) tool_phase at = by (is_reverting now.tool.reason) refl where
    -- the cut-over and the inspector are as they were
    going_so : (next : Work) → next.cutover ≡ work.cutover → work.copier.is_copied ≡ false → Uncopied plan after now_has next
    going_so next cutover off = uncopied_stay work next stay (others Copy same Insp refl) (ap (λ c. c.phase) cutover) (ap (λ c. c.renamer_waits) cutover) (at.going off)

    idle_so : work.copier.is_copied ≡ true → (is_reverting now.tool.reason ≡ true) × IsAbout requests.Rollback (has Copy) entry.asked
    idle_so on = copied_idle work tool_phase on (at.copied on) asks

    back_waits : work.copier.is_copied ≡ true → (now_has Copy).waits ≡ None
    back_waits on =
        let rolls = idle_so on in
        let fits : answers_to requests.Rollback entry.answer ≡ true = own_fits plan journal entry is.tool.known served requests.Rollback (about Copy requests.Rollback same rolls.1) in
        ap (λ (s : Standing). s.waits) (has_now Copy requests.Rollback same rolls.1) ∙ at_answer entry.answer fits where
          at_answer : (answer : Answer) → answers_to requests.Rollback answer ≡ true → (answered requests.Rollback answer (has Copy)).waits ≡ None
          at_answer (answers.Ok count) fits = refl
          at_answer answers.Lost fits = refl
          at_answer answer fits = absurd cc

    off_if : is_reverting now.tool.reason ≡ false → work.copier.is_copied ≡ false
    off_if going = one work.copier.is_copied refl where
      one : (b : Bool) → work.copier.is_copied ≡ b → b ≡ false
      one true on = absurd (true≢false (sym (idle_so on).0 ∙ going))
      one false off = refl

    -- what it is told, where rows are left
    took_waits : is_reverting now.tool.reason ≡ false → (copiers.took tool.turns work.copier entry.answer).is_copied ≡ true → (now_has Copy).waits ≡ None
    took_waits going on = asked_waits asks where
      reported : (request : Request) → IsAbout request (has Copy) entry.asked → Following request entry.answer (has Copy) → (now_has Copy).waits ≡ None
      reported request is_about (rests none) = ap (λ (s : Standing). s.waits) (has_now Copy request same is_about) ∙ none
      reported request is_about (waits_on by waits) =
          absurd (true≢false (sym on ∙ ap (λ (a : Answer). (copiers.took tool.turns work.copier a).is_copied) waits ∙ waits_copied tool.turns work.copier by ∙ off_if going))

      asked_waits : Asking plan journal Copy entry.asked → (now_has Copy).waits ≡ None
      asked_waits (calls_so request called idle call) = reported request (is_called called idle) (following request entry.answer (has Copy))
      asked_waits (polls_so request polled some) = reported request (is_polled polled some) (following request entry.answer (has Copy))

    by : (b : Bool) → is_reverting tool.reason ≡ b → Tabled (cond b tool (copy_took plan entry.answer work tool))
    by true reverting = subst (ToolPhaseTables plan after now_has) (sym tool_phase) (record { going = λ off. going_so work refl off; copied = back_waits })
    by false going =
        copy_keeps Now back plan work (copiers.progress work.copier entry.answer) (copiers.took tool.turns work.copier entry.answer) tool
        (λ place number unfit. subst (ToolPhaseTables plan after now_has) (sym tool_phase) (record { going = λ off. going_so work refl off; copied = λ on. absurd (true≢false (sym on ∙ off_if going)) }))
        (λ tries. record { going = λ off. going_so (record work { copier = copiers.took tool.turns work.copier entry.answer; chunk_tries = tries }) refl (off_if going); copied = took_waits going })

  -- THE APPLIER

  apply_asked : entry.actor ≡ Apply → AllStay → (answer : Answer) → (tool_phase : ToolPhase) → now.tool.tool_phase ≡ tool_phase → ToolPhaseTables plan before has tool_phase → Tabled (actor_took plan Apply answer tool_phase tool)
  apply_asked same stay answer (SettingUp setup tries) tool_phase at = subst (ToolPhaseTables plan after now_has) (sym tool_phase) (still (SettingUp setup tries) stay (others Apply same Insp refl) (others Apply same Copy refl) at)
  apply_asked same stay answer (Migrating work) tool_phase at = by (is_reverting tool.reason) where
    same_work : (next : Work) → next.copier ≡ work.copier → next.cutover ≡ work.cutover → WorkTables plan after now_has next
    same_work next copier cutover = record {
      going = λ off. uncopied_stay work next stay (others Apply same Insp refl) (ap (λ c. c.phase) cutover) (ap (λ c. c.renamer_waits) cutover) (at.going (ap (λ c. c.is_copied) (sym copier) ∙ off));
      copied = λ on. ap (λ (s : Standing). s.waits) (others Apply same Copy refl) ∙ at.copied (ap (λ c. c.is_copied) (sym copier) ∙ on);
    }

    by : (b : Bool) → Tabled (cond b tool (apply_took plan answer work tool))
    by true = subst (ToolPhaseTables plan after now_has) (sym tool_phase) (same_work work refl refl)
    by false =
        apply_keeps Now back plan work (appliers.progress work.applier answer) (appliers.took tool.turns work.applier answer) tool
        (λ place number unfit. subst (ToolPhaseTables plan after now_has) (sym tool_phase) (same_work work refl refl)) (λ tries. same_work (record work { applier = appliers.took tool.turns work.applier answer; batch_tries = tries }) refl refl)

  -- THE CUT-OVER'S THREE

  -- a turn of one of them where no row is left to be copied
  cut_turn : (actor : Actor) → entry.actor ≡ actor → same_actor actor Copy ≡ false → (work next : Work) → next.copier ≡ work.copier → WorkTables plan before has work → (work.copier.is_copied ≡ false → Uncopied plan after now_has next) → WorkTables plan after now_has next
  cut_turn actor same differ work next copier at uncopied = record {
    going = λ off. uncopied (ap (λ c. c.is_copied) (sym copier) ∙ off);
    copied = λ on. ap (λ (s : Standing). s.waits) (others actor same Copy differ) ∙ at.copied (ap (λ c. c.is_copied) (sym copier) ∙ on);
  }

  -- while rows are left none of them is asked
  pub work_stands : (work : Work) → now.tool.tool_phase ≡ Migrating work → WorkStands journal (is_reverting now.tool.reason) has work
  work_stands work tool_phase = subst (ToolPhaseStands journal has (is_reverting now.tool.reason)) tool_phase is.tool.stands

  none_some : (P : Type 0) (request : Request) (waits : Option Request) → waits ≡ None → waits ≡ Some request → P
  none_some P request waits none some = absurd (no (sym none ∙ some)) where
    no : None ≡ Some request → ⊥
    no both = cc

  -- but the inspector to write notes
  pub insp_notes : (work : Work) → now.tool.tool_phase ≡ Migrating work → Uncopied plan before has work → Asking plan journal Insp entry.asked → (P : Type 0) → ((request : Request) → IsAbout request (has Insp) entry.asked → WritesLog plan request → P) → P
  insp_notes work tool_phase at (polls_so request asks some) P then = then request (is_polled asks some) (at.inspector request some)
  insp_notes work tool_phase at (calls_so request asks idle call) P then =
      then request (is_called asks idle) (by (inspects plan journal now.tool work request (ap (λ (c : ToolPhase). tool_call plan now.server journal now.tool c Insp) (sym tool_phase) ∙ call))) where
        by : Inspects plan journal now.tool work request → WritesLog plan request
        by (notes_so note resting going next) = subst (WritesLog plan) (sym note.is) refl
        by (cuts_so off next) = absurd (true≢false (sym (ap is_resting at.phase) ∙ off))

  pub ren_none : (work : Work) → now.tool.tool_phase ≡ Migrating work → Uncopied plan before has work → Asking plan journal Ren entry.asked → ⊥
  unfolding cutovers.next
  ren_none work tool_phase at (polls_so request asks some) =
      none_some ⊥ request (has Ren).waits (ap (λ (s : Standing). s.waits) ((work_stands work tool_phase).renamer ∙ ap (renaming work.cutover.table) at.renamer)) some
  ren_none work tool_phase at (calls_so request asks idle call) = no (ap (cutovers.renamer_call work.cutover) (sym at.phase) ∙ ap (λ (c : ToolPhase). tool_call plan now.server journal now.tool c Ren) (sym tool_phase) ∙ call) where
    no : None ≡ Some request → ⊥
    no both = cc

  pub lock_free : (work : Work) → now.tool.tool_phase ≡ Migrating work → Uncopied plan before has work → has Lock ≡ free
  lock_free work tool_phase at = (work_stands work tool_phase).locker ∙ ap (held work.cutover.table) (subst (λ (p : Phase). PhaseHolds p work.cutover.hold) at.phase (work_stands work tool_phase).phase)

  pub lock_none : (work : Work) → now.tool.tool_phase ≡ Migrating work → work.copier.is_copied ≡ false → Uncopied plan before has work → Asking plan journal Lock entry.asked → ⊥
  lock_none work tool_phase off at (polls_so request asks some) = none_some ⊥ request (has Lock).waits (ap (λ (s : Standing). s.waits) (lock_free work tool_phase at)) some
  lock_none work tool_phase off at (calls_so request asks idle call) = no (ap (λ (c : ToolPhase). tool_call plan now.server journal now.tool c Lock) (sym tool_phase) ∙ call) where
    never : may_begin plan now.server now.tool work ≡ false
    never = rw off refl

    held_back : (is_resting work.cutover.phase && not (may_begin plan now.server now.tool work)) ≡ true
    held_back = ap (λ (p : Phase). is_resting p && not (may_begin plan now.server now.tool work)) at.phase ∙ ap not never

    no : lock_call plan now.server now.tool work ≡ Some request → ⊥
    no some = none (ap (λ (b : Bool). cond b None (cutovers.next Locker work.cutover)) (sym held_back) ∙ some) where
      none : None ≡ Some request → ⊥
      none both = cc

  lock_asked : entry.actor ≡ Lock → (answer : Answer) (work : Work) → now.tool.tool_phase ≡ Migrating work → WorkTables plan before has work → (work.copier.is_copied ≡ false → ⊥) → Tabled (cutover_took plan Locker answer work tool)
  unfolding cuts.took
  lock_asked same answer work tool_phase at none =
      attempt_keeps Now back plan (is_failure work.cutover.phase (cuts.took Locker work.cutover answer).phase) work (cuts.took Locker work.cutover answer) tool
      (λ tries. cut_turn Lock same refl work (record work { cutover = cuts.took Locker work.cutover answer; attempt_tries = tries }) refl at (λ off. absurd (none off)))

  ren_asked : entry.actor ≡ Ren → (answer : Answer) (work : Work) → now.tool.tool_phase ≡ Migrating work → WorkTables plan before has work → (work.copier.is_copied ≡ false → Uncopied plan after now_has (record work { cutover = cuts.took Renamer work.cutover answer })) → Tabled (cutover_took plan Renamer answer work tool)
  ren_asked same answer work tool_phase at uncopied =
      attempt_keeps Now back plan (is_failure work.cutover.phase (cuts.took Renamer work.cutover answer).phase) work (cuts.took Renamer work.cutover answer) tool
      (λ tries. cut_turn Ren same refl work (record work { cutover = cuts.took Renamer work.cutover answer; attempt_tries = tries }) refl at (λ off. let one = uncopied off in record { tables = one.tables; inspector = one.inspector; phase = one.phase; renamer = one.renamer }))

  insp_asked : entry.actor ≡ Insp → (answer : Answer) (work : Work) → now.tool.tool_phase ≡ Migrating work → WorkTables plan before has work → (work.copier.is_copied ≡ false → Uncopied plan after now_has (record work { cutover = cuts.took Inspector work.cutover answer })) → Tabled (cutover_took plan Inspector answer work tool)
  insp_asked same answer work tool_phase at uncopied =
      attempt_keeps Now back plan (is_failure work.cutover.phase (cuts.took Inspector work.cutover answer).phase) work (cuts.took Inspector work.cutover answer) tool
      (λ tries. cut_turn Insp same refl work (record work { cutover = cuts.took Inspector work.cutover answer; attempt_tries = tries }) refl at (λ off. let one = uncopied off in record { tables = one.tables; inspector = one.inspector; phase = one.phase; renamer = one.renamer }))

  -- THE SETUP

  courses : (size : ℕ) (setup : Setup) (tries : List ℕ) → SetupTables plan after now_has setup → ((request : Request) → (now_has Insp).waits ≡ Some request → setup_call plan setup ≡ Some request) → now_has Copy ≡ free → Now false (tool_phase_of plan size setup tries)
  courses size (Ready position range) tries at waits copy = record {
    going = λ off. record { tables = record { old = at.old; ghost = at.ghost refl }; inspector = λ request some. none_some (WritesLog plan request) request None refl (at.waits request some); phase = refl; renamer = refl };
    copied = λ on. ap (λ (s : Standing). s.waits) copy;
  }
  courses size Listing tries at waits copy = at
  courses size (Clearing left) tries at waits copy = at
  courses size MakingLog tries at waits copy = at
  courses size MakingGhost tries at waits copy = at
  courses size Marking tries at waits copy = at
  courses size (Reaching position) tries at waits copy = at

  setup_done : (answer : Answer) (setup : Setup) (tries : List ℕ) (one : Tool) → one.tool_phase ≡ SettingUp setup tries → now_has Copy ≡ free → (is_reverting one.reason ≡ true → SetupTables plan after now_has setup) → (is_bad answer ≡ true → SetupTables plan after now_has Listing) → (is_bad answer ≡ false → SetupTables plan after now_has (setup_step plan.table setup answer))
      → Tabled (actor_took plan Insp answer (SettingUp setup tries) one)
  setup_done answer setup tries one tool_phase copy held_so bad good = by (is_reverting one.reason) (is_bad answer) refl refl where
    by : (a b : Bool) → is_reverting one.reason ≡ a → is_bad answer ≡ b
        → Tabled (cond a one (cond b (spends plan tasks.Setup (tries ++ one.turns ∷ []) (record one { tool_phase = SettingUp Listing (tries ++ one.turns ∷ []) })) (record one { tool_phase = tool_phase_of plan one.operator.size (cond b Listing (setup_step plan.table setup answer)) tries })))
    by true b reverting is_b = subst (ToolPhaseTables plan after now_has) (sym tool_phase) (held_so reverting)
    by false true reverting is_b = spends_keeps Now back plan tasks.Setup (tries ++ one.turns ∷ []) (record one { tool_phase = SettingUp Listing (tries ++ one.turns ∷ []) }) (bad is_b)
    by false false reverting is_b = let at = good is_b in courses one.operator.size (setup_step plan.table setup answer) tries at at.waits copy

  -- the inspector's answer in the setup
  setup_asked : entry.actor ≡ Insp → (setup : Setup) (tries : List ℕ) → now.tool.tool_phase ≡ SettingUp setup tries → SetupTables plan before has setup → (request : Request) → IsAbout request (has Insp) entry.asked → setup_call plan setup ≡ Some request → Tabled (actor_took plan Insp entry.answer (SettingUp setup tries) tool)
  setup_asked same setup tries tool_phase at request is_about call = setup_done entry.answer setup tries tool tool_phase copy_free held_so bad good where
    at_setup : SetupStands has
    at_setup = subst (ToolPhaseStands journal has (is_reverting now.tool.reason)) tool_phase is.tool.stands

    copy_free : now_has Copy ≡ free
    copy_free = others Insp same Copy refl ∙ at_setup.copier

    old_so : schema_of plan.table after ≡ Some (old_schema plan)
    old_so = stays plan.table Insp request same is_about (setup_keeps plan setup request call) ∙ at.old

    past_so : past_ghost setup ≡ true → schema_of (ghost_name plan.table) after ≡ Some (ghost_schema plan)
    past_so past = stays (ghost_name plan.table) Insp request same is_about (past_keeps plan setup request past call) ∙ at.ghost past

    waits_now : now_has Insp ≡ answered request entry.answer (has Insp)
    waits_now = has_now Insp request same is_about

    -- the request that is waited with is the step's own
    waits_step : (other : Request) → (now_has Insp).waits ≡ Some other → (by : ℕ) → entry.answer ≡ answers.Waits by → Some request ≡ Some other
    waits_step other some by waits = ap (λ (a : Answer). (answered request a (has Insp)).waits) (sym waits) ∙ ap (λ (s : Standing). s.waits) (sym waits_now) ∙ some

    still_waits : (other : Request) → (now_has Insp).waits ≡ Some other → (setup_call plan setup ≡ Some other) × (setup_step plan.table setup entry.answer ≡ setup)
    still_waits other some = reported (following request entry.answer (has Insp)) where
      reported : Following request entry.answer (has Insp) → (setup_call plan setup ≡ Some other) × (setup_step plan.table setup entry.answer ≡ setup)
      reported (rests none) = none_some ((setup_call plan setup ≡ Some other) × (setup_step plan.table setup entry.answer ≡ setup)) other (now_has Insp).waits (ap (λ (s : Standing). s.waits) waits_now ∙ none) some
      reported (waits_on by waits) = (call ∙ waits_step other some by waits, ap (setup_step plan.table setup) waits ∙ step_waits plan.table setup by)

    held_so : is_reverting tool.reason ≡ true → SetupTables plan after now_has setup
    held_so reverting = record { old = old_so; ghost = past_so; waits = λ other some. (still_waits other some).0 }

    bad : is_bad entry.answer ≡ true → SetupTables plan after now_has Listing
    bad is_b = record { old = old_so; ghost = λ past. absurd (false≢true past); waits = λ other some. none_some (Some requests.ShowTables ≡ Some other) other (now_has Insp).waits (ap (λ (s : Standing). s.waits) waits_now ∙ none_bad entry.answer is_b) some } where
      none_bad : (answer : Answer) → is_bad answer ≡ true → (answered request answer (has Insp)).waits ≡ None
      none_bad answers.Lost is_b = refl
      none_bad (answers.TimedOut waited) is_b = refl
      none_bad answer is_b = absurd (false≢true is_b)

    good : is_bad entry.answer ≡ false → SetupTables plan after now_has (setup_step plan.table setup entry.answer)
    good is_b = record {
      old = old_so;
      ghost = λ past. passes (step_past plan.table setup entry.answer past);
      waits = λ other some. let step = still_waits other some in ap (setup_call plan) step.1 ∙ step.0;
    } where
      passes : Passes setup entry.answer → schema_of (ghost_name plan.table) after ≡ Some (ghost_schema plan)
      passes (passed past) = past_so past
      passes (makes count at_making reported) =
          let one : request ≡ requests.Create (ghost_schema plan) = some_request (λ r. r ≡ requests.Create (ghost_schema plan)) _ request (ap (setup_call plan) (sym at_making) ∙ call) refl in
          let own_about : IsAbout (requests.Create (ghost_schema plan)) (has entry.actor) entry.asked = about Insp (requests.Create (ghost_schema plan)) same (subst (λ (r : Request). IsAbout r (has Insp) entry.asked) one is_about) in
          let no_side : entry.side ≡ None = side_none entry.side refl reported in
          schema_made plan journal entry served (own_waiting plan journal entry is.tool.known served) (ghost_schema plan) count own_about no_side (own_given plan journal entry is.tool.known served no_side ∙ reported) where
            side_none : (side : Option _) → entry.side ≡ side → entry.answer ≡ answers.Ok count → entry.side ≡ None
            side_none None no_side reported = no_side
            side_none (Some side) at_side reported = absurd (no (sym (Rattle.proof_journals.proofs.Machine.Seated.own_missed plan journal entry is.tool.known served side at_side) ∙ reported)) where
              no : answers.Lost ≡ answers.Ok count → ⊥
              no both = cc

  -- A LOSS BETWEEN CALLS

  cut_stay : entry.asked ≡ Cut → AllStay
  cut_stay cut name = rests_so name (ap Rattle.tool_program.specs.JournalWords.Journals.may_lose cut)

  lost_now : entry.asked ≡ Cut → (actor : Actor) → entry.actor ≡ actor → now_has actor ≡ free
  lost_now cut actor same = subst (λ (a : Actor). now_has a ≡ free) same (own_lost plan journal entry is.tool.known served cut)

  free_waits : (standing : Standing) → standing ≡ free → standing.waits ≡ None
  free_waits standing same = ap (λ (s : Standing). s.waits) same

  setup_has : (setup : Setup) (tries : List ℕ) → now.tool.tool_phase ≡ SettingUp setup tries → SetupStands has
  setup_has setup tries tool_phase = subst (ToolPhaseStands journal has (is_reverting now.tool.reason)) tool_phase is.tool.stands

  insp_lost : entry.asked ≡ Cut → entry.actor ≡ Insp → (tool_phase : ToolPhase) → now.tool.tool_phase ≡ tool_phase → ToolPhaseTables plan before has tool_phase → Tabled (actor_took plan Insp answers.Lost tool_phase tool)
  unfolding cuts.took
  insp_lost cut same (SettingUp setup tries) tool_phase at =
      setup_done answers.Lost setup tries tool tool_phase (others Insp same Copy refl ∙ (setup_has setup tries tool_phase).copier)
      (λ reverting. record { old = cut_stay cut plan.table ∙ at.old; ghost = λ past. cut_stay cut (ghost_name plan.table) ∙ at.ghost past; waits = λ request some. none_some (setup_call plan setup ≡ Some request) request (now_has Insp).waits (free_waits (now_has Insp) (lost_now cut Insp same)) some })
      (λ bad. record { old = cut_stay cut plan.table ∙ at.old; ghost = λ past. absurd (false≢true past); waits = λ request some. none_some (Some requests.ShowTables ≡ Some request) request (now_has Insp).waits (free_waits (now_has Insp) (lost_now cut Insp same)) some })
      (λ good. absurd (true≢false good))
  insp_lost cut same (Migrating work) tool_phase at =
      insp_asked same answers.Lost work tool_phase at
      (λ off. let one = at.going off in record { tables = tables_stay (cut_stay cut) one.tables; inspector = λ request some. none_some (WritesLog plan request) request (now_has Insp).waits (free_waits (now_has Insp) (lost_now cut Insp same)) some; phase = ap (λ (p : Phase). cuts.inspector_phase work.cutover p answers.Lost) one.phase; renamer = one.renamer })

  copy_lost : entry.asked ≡ Cut → entry.actor ≡ Copy → (tool_phase : ToolPhase) → now.tool.tool_phase ≡ tool_phase → ToolPhaseTables plan before has tool_phase → Tabled (actor_took plan Copy answers.Lost tool_phase tool)
  copy_lost cut same (SettingUp setup tries) tool_phase at =
      subst (ToolPhaseTables plan after now_has) (sym tool_phase) (still (SettingUp setup tries) (cut_stay cut) (others Copy same Insp refl) (lost_now cut Copy same ∙ sym (setup_has setup tries tool_phase).copier) at)
  copy_lost cut same (Migrating work) tool_phase at = by (is_reverting tool.reason) where
    going_so : (next : Work) → next.cutover ≡ work.cutover → work.copier.is_copied ≡ false → Uncopied plan after now_has next
    going_so next cutover off = uncopied_stay work next (cut_stay cut) (others Copy same Insp refl) (ap (λ c. c.phase) cutover) (ap (λ c. c.renamer_waits) cutover) (at.going off)

    by : (b : Bool) → Tabled (cond b tool (copy_took plan answers.Lost work tool))
    by true = subst (ToolPhaseTables plan after now_has) (sym tool_phase) (record { going = λ off. going_so work refl off; copied = λ on. free_waits (now_has Copy) (lost_now cut Copy same) })
    by false =
        copy_keeps Now back plan work (copiers.progress work.copier answers.Lost) (copiers.took tool.turns work.copier answers.Lost) tool
        (λ place number unfit. subst (ToolPhaseTables plan after now_has) (sym tool_phase) (record { going = λ off. going_so work refl off; copied = λ on. free_waits (now_has Copy) (lost_now cut Copy same) }))
        (λ tries. record {
          going = λ off. going_so (record work { copier = copiers.took tool.turns work.copier answers.Lost; chunk_tries = tries }) refl (sym (lost_copied tool.turns work.copier) ∙ off);
          copied = λ on. free_waits (now_has Copy) (lost_now cut Copy same);
        })

  lock_lost : entry.asked ≡ Cut → has_work now.server entry.session ≡ true → entry.actor ≡ Lock → (tool_phase : ToolPhase) → now.tool.tool_phase ≡ tool_phase → ToolPhaseTables plan before has tool_phase → Tabled (actor_took plan Lock answers.Lost tool_phase tool)
  lock_lost cut worked same (SettingUp setup tries) tool_phase at = subst (ToolPhaseTables plan after now_has) (sym tool_phase) (still (SettingUp setup tries) (cut_stay cut) (others Lock same Insp refl) (others Lock same Copy refl) at)
  lock_lost cut worked same (Migrating work) tool_phase at = lock_asked same answers.Lost work tool_phase at (λ off. true≢false (sym worked ∙ idle off)) where
    idle : work.copier.is_copied ≡ false → has_work now.server entry.session ≡ false
    idle off =
        ap (λ (s : State). has_work s entry.session) is.tool.server
        ∙ free_idle (state_at plan journal) entry.session
        (ap (standing_in (state_at plan journal)) (sym (own_session plan journal entry is.tool.known served (ap Rattle.server_model.specs.Entries.is_cut cut))) ∙ ap has same ∙ lock_free work tool_phase (at.going off))

  ren_lost : entry.asked ≡ Cut → entry.actor ≡ Ren → (tool_phase : ToolPhase) → now.tool.tool_phase ≡ tool_phase → ToolPhaseTables plan before has tool_phase → Tabled (actor_took plan Ren answers.Lost tool_phase tool)
  unfolding cuts.took
  ren_lost cut same (SettingUp setup tries) tool_phase at = subst (ToolPhaseTables plan after now_has) (sym tool_phase) (still (SettingUp setup tries) (cut_stay cut) (others Ren same Insp refl) (others Ren same Copy refl) at)
  ren_lost cut same (Migrating work) tool_phase at =
      ren_asked same answers.Lost work tool_phase at
      (λ off. let one = at.going off in record { tables = tables_stay (cut_stay cut) one.tables; inspector = λ request some. one.inspector request (ap (λ (s : Standing). s.waits) (sym (others Ren same Insp refl)) ∙ some); phase = ap (λ (p : Phase). cuts.renamer_phase p answers.Lost) one.phase; renamer = refl })

  -- EVERY TURN

  at_rest : (actor : Actor) → entry.actor ≡ actor → same_actor actor Insp ≡ false → same_actor actor Copy ≡ false → AllStay → ToolPhaseTables plan before has now.tool.tool_phase → Tabled tool
  at_rest actor same insp copy stay at = still now.tool.tool_phase stay (others actor same Insp insp) (others actor same Copy copy) at

  setup_none : (actor : Actor) → has actor ≡ free → ((request : Request) → tool_call plan now.server journal now.tool now.tool.tool_phase actor ≡ Some request → ⊥) → Asking plan journal actor entry.asked → ⊥
  setup_none actor none no_call (calls_so request asks idle call) = no_call request call
  setup_none actor none no_call (polls_so request asks some) = none_some ⊥ request (has actor).waits (free_waits (has actor) none) some

  -- a note changes nothing of it
  noted : entry.actor ≡ Insp → Asking plan journal Insp entry.asked → (work : Work) → now.tool.tool_phase ≡ Migrating work → Uncopied plan before has work → Uncopied plan after now_has (record work { cutover = cuts.took Inspector work.cutover entry.answer })
  unfolding cuts.took
  noted same asks work tool_phase at =
      insp_notes work tool_phase at asks (Uncopied plan after now_has (record work { cutover = cuts.took Inspector work.cutover entry.answer }))
      (λ request is_about kind. record {
        tables = tables_stay (λ name. stays name Insp request same is_about (quiet_keeps name request (log_quiet plan request kind))) at.tables;
        inspector = λ other some. waits_same (WritesLog plan) request other entry.answer (has Insp) kind (ap (λ (s : Standing). s.waits) (sym (has_now Insp request same is_about)) ∙ some);
        phase = ap (λ (p : Phase). cuts.inspector_phase work.cutover p entry.answer) at.phase;
        renamer = at.renamer;
      })

  insp_turn : entry.actor ≡ Insp → Asking plan journal Insp entry.asked → (tool_phase : ToolPhase) → now.tool.tool_phase ≡ tool_phase → ToolPhaseTables plan before has tool_phase → Tabled (actor_took plan Insp entry.answer tool_phase tool)
  insp_turn same (calls_so request asks idle call) (SettingUp setup tries) tool_phase at =
      setup_asked same setup tries tool_phase at request (is_called asks idle) (unless_called (is_reverting now.tool.reason) (setup_call plan setup) request (ap (λ (c : ToolPhase). tool_call plan now.server journal now.tool c Insp) (sym tool_phase) ∙ call))
  insp_turn same (polls_so request asks some) (SettingUp setup tries) tool_phase at = setup_asked same setup tries tool_phase at request (is_polled asks some) (at.waits request some)
  insp_turn same asks (Migrating work) tool_phase at = insp_asked same entry.answer work tool_phase at (λ off. noted same asks work tool_phase (at.going off))

  lock_turn : entry.actor ≡ Lock → Asking plan journal Lock entry.asked → (tool_phase : ToolPhase) → now.tool.tool_phase ≡ tool_phase → ToolPhaseTables plan before has tool_phase → Tabled (actor_took plan Lock entry.answer tool_phase tool)
  lock_turn same asks (SettingUp setup tries) tool_phase at = absurd (setup_none Lock (setup_has setup tries tool_phase).locker (λ request call. none-some request (ap (λ (c : ToolPhase). tool_call plan now.server journal now.tool c Lock) (sym tool_phase) ∙ call)) asks)
  lock_turn same asks (Migrating work) tool_phase at = lock_asked same entry.answer work tool_phase at (λ off. lock_none work tool_phase off (at.going off) asks)

  ren_turn : entry.actor ≡ Ren → Asking plan journal Ren entry.asked → (tool_phase : ToolPhase) → now.tool.tool_phase ≡ tool_phase → ToolPhaseTables plan before has tool_phase → Tabled (actor_took plan Ren entry.answer tool_phase tool)
  ren_turn same asks (SettingUp setup tries) tool_phase at = absurd (setup_none Ren (setup_has setup tries tool_phase).renamer (λ request call. none-some request (ap (λ (c : ToolPhase). tool_call plan now.server journal now.tool c Ren) (sym tool_phase) ∙ call)) asks)
  ren_turn same asks (Migrating work) tool_phase at = ren_asked same entry.answer work tool_phase at (λ off. absurd (ren_none work tool_phase (at.going off) asks))

  asked_so : (actor : Actor) → entry.actor ≡ actor → given plan journal actor ≡ Some entry.asked → (entry.asked ≡ Cut → ⊥) → ((word : OperatorWord) → entry.asked ≡ Command word → ⊥) → ToolPhaseTables plan before has now.tool.tool_phase
      → Tabled (turn_counts plan actor (actor_took plan actor entry.answer tool.tool_phase tool))
  unfolding given
  asked_so (Client c) same gives called commanded at = at_rest (Client c) same refl refl (quiet_stay (Client c) same refl gives called commanded) at
  asked_so Op same gives called commanded at = at_rest Op same refl refl (quiet_stay Op same refl gives called commanded) at
  asked_so Insp same gives called commanded at = insp_turn same (asking plan journal Insp entry.asked is.tool.server gives) now.tool.tool_phase refl at
  asked_so Copy same gives called commanded at = copy_asked same (quiet_stay Copy same refl gives called commanded) (asking plan journal Copy entry.asked is.tool.server gives) now.tool.tool_phase refl at
  asked_so Apply same gives called commanded at =
      drains_keeps Now back plan (actor_took plan Apply entry.answer tool.tool_phase tool).tool_phase (actor_took plan Apply entry.answer tool.tool_phase tool) refl drain (apply_asked same (quiet_stay Apply same refl gives called commanded) entry.answer now.tool.tool_phase refl at)
  asked_so Lock same gives called commanded at = lock_turn same (asking plan journal Lock entry.asked is.tool.server gives) now.tool.tool_phase refl at
  asked_so Ren same gives called commanded at = ren_turn same (asking plan journal Ren entry.asked is.tool.server gives) now.tool.tool_phase refl at

  word_stay : (word : OperatorWord) → entry.asked ≡ Command word → AllStay
  word_stay word asks name = rests_so name (ap Rattle.tool_program.specs.JournalWords.Journals.may_lose asks)

  word_so : (actor : Actor) (word : OperatorWord) → entry.actor ≡ actor → entry.asked ≡ Command word → given plan journal actor ≡ Some (Command word) → ToolPhaseTables plan before has now.tool.tool_phase → Tabled (command_took word tool)
  unfolding given
  word_so Op word same asks gives at = commanded_so word tool (at_rest Op same refl refl (word_stay word asks) at)
  word_so (Client c) word same asks gives at = absurd (client_commands plan journal c word gives)
  word_so Insp word same asks gives at = absurd (never_commands plan journal Insp word gives)
  word_so Copy word same asks gives at = absurd (never_commands plan journal Copy word gives)
  word_so Apply word same asks gives at = absurd (never_commands plan journal Apply word gives)
  word_so Lock word same asks gives at = absurd (never_commands plan journal Lock word gives)
  word_so Ren word same asks gives at = absurd (never_commands plan journal Ren word gives)

  worked_so : entry.asked ≡ Cut → has_work now.server entry.session ≡ true → (actor : Actor) → entry.actor ≡ actor → ToolPhaseTables plan before has now.tool.tool_phase → Tabled (actor_took plan actor answers.Lost tool.tool_phase tool)
  worked_so cut worked Op same at = at_rest Op same refl refl (cut_stay cut) at
  worked_so cut worked (Client c) same at = at_rest (Client c) same refl refl (cut_stay cut) at
  worked_so cut worked Insp same at = insp_lost cut same now.tool.tool_phase refl at
  worked_so cut worked Copy same at = copy_lost cut same now.tool.tool_phase refl at
  worked_so cut worked Apply same at = apply_asked same (cut_stay cut) answers.Lost now.tool.tool_phase refl at
  worked_so cut worked Lock same at = lock_lost cut worked same now.tool.tool_phase refl at
  worked_so cut worked Ren same at = ren_lost cut same now.tool.tool_phase refl at

  idle_so : entry.asked ≡ Cut → has_work now.server entry.session ≡ false → ToolPhaseTables plan before has now.tool.tool_phase → Tabled tool
  idle_so cut idle at = still now.tool.tool_phase (cut_stay cut) (same_as Insp) (same_as Copy) at where
    had : has entry.actor ≡ free
    had =
        ap (standing_in (state_at plan journal)) (own_session plan journal entry is.tool.known served (ap Rattle.server_model.specs.Entries.is_cut cut))
        ∙ Rattle.proof_journals.proofs.Machine.Asking.idle_stands (state_at plan journal) entry.session (ap (λ (s : State). has_work s entry.session) (sym is.tool.server) ∙ idle)

    same_as : (a : Actor) → now_has a ≡ has a
    same_as a = by (same_actor entry.actor a) refl where
      by : (b : Bool) → same_actor entry.actor a ≡ b → now_has a ≡ has a
      by false differ = others_stand plan journal entry is.tool.known served a differ
      by true same =
          let one : entry.actor ≡ a = Rattle.proof_journals.proofs.Actors.same_actor_is entry.actor a same in
          subst (λ (c : Actor). now_has c ≡ has c) one (own_lost plan journal entry is.tool.known served cut ∙ sym had)

  all_so : (asked : Asked) → entry.asked ≡ asked → IsGiven plan journal entry asked → ToolPhaseTables plan before has now.tool.tool_phase → Tabled (asked_took plan now.server entry asked tool)
  all_so (Command word) asks gives at = word_so entry.actor word refl asks gives at
  all_so Cut asks gives at = by (has_work now.server entry.session) refl where
    by : (b : Bool) → has_work now.server entry.session ≡ b → Tabled (cond b (actor_took plan entry.actor answers.Lost tool.tool_phase tool) tool)
    by true worked = worked_so asks worked entry.actor refl at
    by false idle = idle_so asks idle at
  all_so (Call request) asks gives at = asked_so entry.actor refl (gives ∙ ap Some (sym asks)) (λ cut. call_cut (sym asks ∙ cut)) (λ word command. call_command word (sym asks ∙ command)) at where
    call_cut : Call request ≡ Cut → ⊥
    call_cut same = cc

    call_command : (word : OperatorWord) → Call request ≡ Command word → ⊥
    call_command word same = cc
  all_so Poll asks gives at = asked_so entry.actor refl (gives ∙ ap Some (sym asks)) (λ cut. poll_cut (sym asks ∙ cut)) (λ word command. poll_command word (sym asks ∙ command)) at where
    poll_cut : Poll ≡ Cut → ⊥
    poll_cut same = cc

    poll_command : (word : OperatorWord) → Poll ≡ Command word → ⊥
    poll_command word same = cc

  pub tables_more : ToolPhaseTables plan before has now.tool.tool_phase → ToolPhaseTables plan after now_has (moment plan more).tool.tool_phase
  unfolding took
  tables_more at = subst (λ (m : Moment). ToolPhaseTables plan after now_has m.tool.tool_phase) (sym (moment_more plan journal entry)) (all_so entry.asked refl run.followed.given at)

-- WHOLE JOURNALS

pub record IsTabled (plan : PlanData) (journal : List Entry) : Type 0 where
  pub all : AllTogether plan journal
  pub quiet : AllWaits QuietAt plan journal
  pub tables : ToolPhaseTables plan (state_at plan journal).tables (standing_of plan journal) (moment plan journal).tool.tool_phase

pub tabled_more : (plan : PlanData) (journal : List Entry) (entry : Entry) → IsRun plan journal entry → IsTabled plan journal → IsTabled plan (journal ++ entry ∷ [])
tabled_more plan journal entry run is = record {
  all = together_more_all plan journal entry is.all run;
  quiet = waits_more QuietAt plan journal entry is.all is.quiet run (λ request asks gives. given_quiet plan journal entry.actor request is.all gives);
  tables = tables_more plan journal entry is.all is.quiet run is.tables;
}

pub tabled_begins : (plan : PlanData) → IsFitting plan → TableExists plan → IsTabled plan []
unfolding moment live_session Rattle.tool_program.specs.JournalWords.Journals.state_after
tabled_begins plan fit stands = record {
  all = together_begins_all plan fit;
  quiet = waits_begin QuietAt plan;
  tables = record { old = stands; ghost = λ past. absurd (false≢true past); waits = λ request some. absurd cc };
}

-- *Tables stand until all is copied*
pub all_tabled : (plan : PlanData) (journal : List Entry) → IsFitting plan → TableExists plan → IsFaithful plan journal → Follows plan journal → IsTabled plan journal
unfolding Follows
all_tabled plan journal fit stands faithful follows =
    Along-keeps (IsRun plan) (IsTabled plan) (λ before entry run is. tabled_more plan before entry run is) [] journal (all_runs plan [] journal faithful follows) (tabled_begins plan fit stands)

pub tables_exist : TablesExistUncopied
tables_exist plan journal fit stands faithful follows = (all_tabled plan journal fit stands faithful follows).tables
