-- Until the RENAME is done the migrated table is what the log makes of its opening rows.
use Rattle.std.proofs.Common.{◌≡◌, ℕ, true, false, List, [], ◌∷◌, ◌++◌, Option, Some, refl, sym, ap, ◌∙◌, subst, append_assoc, append-nil}
use Rattle.std.specs.List.{list_any}
use Rattle.std.specs.Str.{bytes_eq}
use Rattle.std.proofs.lemmas.Bool.{true≢false, false_from_ne_true}
use Rattle.base_values.specs.ToolNames.{ghost_name, is_tool_name, old_name}
use Rattle.table_store.specs.Databases.{TableRows, find_table}
use Rattle.base_script.specs.declared.actor.Actor.{Actor}
use Rattle.base_script.specs.declared.actor.Actor.TheVariants.{Op, Insp, Copy, Apply, Lock, Ren, Client}
use Rattle.server_model.specs.declared.answer.Answer.{Answer}
use Rattle.server_model.specs.declared.entry.Asked.{Asked}
use Rattle.server_model.specs.declared.entry.Asked.TheVariants.{Call, Poll, Command, Cut}
use Rattle.server_model.specs.declared.entry.Entry.{Entry}
use Rattle.server_model.specs.declared.request.Request.{Request}
use Rattle.server_model.specs.declared.request.Request.TheVariants as requests
use Rattle.server_model.specs.Entries.{is_client, is_command}
use Rattle.server_model.specs.Operations.{table_of}
use Rattle.server_model.specs.States.{State}
use Rattle.server_model.proofs.LockedRows.Tests.{are_same}
use Rattle.plan_data.specs.PlanData.{PlanData}
use Rattle.tool_program.specs.JournalWords.Journals.{opens, state_after, state_at}
use Rattle.proof_journals.specs.Holdings.{stored}
use Rattle.proof_journals.specs.Machine.Runnable.{IsRunnable}
use Rattle.proof_journals.specs.Plans.{IsSerialPlan, client_names, limits_of, scene_of}
use Rattle.proof_journals.specs.Run.Kept.{IsKept}
use Rattle.proof_journals.specs.Turns.{ClientAsks, IsSceneRun, about, reported_at}
use Rattle.proof_journals.specs.Ghost.Rows.Timelines.{Migration}
use Rattle.proof_journals.proofs.Ghost.Keeping.{TableExists, table_opens}
use Rattle.proof_journals.proofs.Machine.Journals.{IsRun}
use Rattle.proof_journals.proofs.Machine.Marks.{ghost_not_old, log_not_old}
use Rattle.proof_journals.proofs.Naming.{migrated_no_tool}
use Rattle.proof_journals.proofs.PlanJournals.{plan_runs_are_scene_runs}
use Rattle.proof_migration.specs.ToolPhase.Unaltered.{IsUnaltered}
use Rattle.proof_migration.proofs.Migration.Leaves.{WritesAway}
use Rattle.proof_migration.proofs.Migration.Others.{LeavesName}
use Rattle.proof_migration.proofs.Program.Leaving.{Left, NoneWrote, left}
use Rattle.proof_migration.proofs.Program.Turns.Asked.{asked_as, never_reported}
use Rattle.proof_migration.proofs.Program.Turns.Follows.{kept_front, kept_run}
use Rattle.proof_migration.proofs.ToolPhase.Unaltered.Asking.{AskedAs, ToolCall, exchange_takes}
use Rattle.proof_migration.proofs.ToolPhase.Unaltered.Away.{IsKnownAsked, all_asked, tool_not_mine, unaltered_front}
use Rattle.proof_migration.proofs.ToolPhase.Unaltered.Runs.{unaltered_runs}
use Rattle.proof_migration.proofs.ToolPhase.Marked.{old_is_tool}

-- the migrated table, beside the old one's name: of a table of that name nobody writes a row
abbrev pub unwritten : List ℕ → TableRows → Migration
unwritten name table = record { name = name; schema = table.schema; new = record (table.schema) { name = old_name name }; columns = [] }

-- *So far*: the migrated table is its opening rows behind the log, which fits it; and no row is of the old one's name
pub record StandsSoFar (plan : PlanData) (table : TableRows) (journal : List Entry) : Type 0 where
  pub stood : TableExists (unwritten plan.table table) table.rows (stored (state_at plan journal))
  pub away : NoneWrote (unwritten plan.table table) (state_at plan journal)

-- ONE TURN

module _ (plan : PlanData) (runs : IsRunnable plan) (serial : IsSerialPlan plan) (table : TableRows) (journal : List Entry) (entry : Entry) (kept : IsKept plan (journal ++ entry ∷ [])) (off : IsUnaltered plan (journal ++ entry ∷ [])) where
  abbrev m : Migration
  m = unwritten plan.table table

  abbrev now : State
  now = state_at plan journal

  abbrev reported : Option Answer
  reported = reported_at entry.side entry.answer entry.missed

  before : IsKept plan journal
  before = kept_front plan journal (entry ∷ []) kept

  known : IsKnownAsked plan journal
  known = all_asked plan journal runs before.faithful before.follows

  run : IsRun plan journal entry
  run = kept_run plan journal entry kept

  scene_run : IsSceneRun (limits_of plan) (scene_of plan (journal ++ entry ∷ [])) (journal ++ entry ∷ [])
  scene_run = plan_runs_are_scene_runs plan (journal ++ entry ∷ []) (unaltered_runs plan (journal ++ entry ∷ []) runs serial kept off)

  abbrev About : Request → Type 0
  About request = about (opens entry now) entry.session entry.asked ≡ Some request

  -- a command is about nothing
  uncommanded : (request : Request) → About request → is_command entry.asked ≡ false
  uncommanded request is = by entry.asked is where
    by : (asked : Asked) → about (opens entry now) entry.session asked ≡ Some request → is_command asked ≡ false
    by (Call called) is = refl
    by Poll is = refl
    by Cut is = refl
    by (Command word) is = absurd cc

  asks : (request : Request) → About request → AskedAs plan entry.actor request
  asks request is = asked_as plan serial runs.fitting journal entry known run off request is

  -- a client's table isn't the old one
  client_name : (name : List ℕ) → list_any (bytes_eq name) (client_names plan) ≡ true → bytes_eq name (old_name plan.table) ≡ false
  client_name name mine =
      false_from_ne_true (bytes_eq name (old_name plan.table))
      (λ same. true≢false (sym mine ∙ tool_not_mine plan name serial (ap (is_tool_name plan.table) (are_same name (old_name plan.table) same) ∙ old_is_tool plan.table)))

  -- a table of the tool's isn't the migrated one
  tool_name : (name : List ℕ) → is_tool_name plan.table name ≡ true → bytes_eq plan.table name ≡ false
  tool_name name tool = false_from_ne_true (bytes_eq plan.table name) (λ same. true≢false (sym tool ∙ ap (is_tool_name plan.table) (sym (are_same plan.table name same)) ∙ migrated_no_tool plan.table))

  -- WHAT IS WRITTEN

  client_writes : (request : Request) → ClientAsks (scene_of plan []) request → WritesAway m request
  client_writes (requests.Do statement) asks = client_name (table_of statement) asks
  client_writes (requests.CopyRow from into map key) asks = absurd asks
  client_writes request asks = tt

  of_ghost : (name : List ℕ) → name ≡ ghost_name plan.table → bytes_eq name (old_name plan.table) ≡ false
  of_ghost name is = ap (λ (n : List ℕ). bytes_eq n (old_name plan.table)) is ∙ ghost_not_old plan.table

  tool_writes : (request : Request) (actor : Actor) → ToolCall plan request actor → WritesAway m request
  tool_writes (requests.Do statement) Insp asks = ap (λ (n : List ℕ). bytes_eq n (old_name plan.table)) asks ∙ log_not_old plan.table
  tool_writes (requests.Do statement) Apply asks = of_ghost (table_of statement) asks
  tool_writes (requests.Do statement) Op asks = absurd asks
  tool_writes (requests.Do statement) Copy asks = absurd asks
  tool_writes (requests.Do statement) Lock asks = absurd asks
  tool_writes (requests.Do statement) Ren asks = absurd asks
  tool_writes (requests.Do statement) (Client c) asks = absurd asks
  tool_writes (requests.CopyRow from into map key) Copy asks = of_ghost into asks
  tool_writes (requests.CopyRow from into map key) Op asks = absurd asks
  tool_writes (requests.CopyRow from into map key) Insp asks = absurd asks
  tool_writes (requests.CopyRow from into map key) Apply asks = absurd asks
  tool_writes (requests.CopyRow from into map key) Lock asks = absurd asks
  tool_writes (requests.CopyRow from into map key) Ren asks = absurd asks
  tool_writes (requests.CopyRow from into map key) (Client c) asks = absurd asks
  tool_writes request actor asks = tt

  -- WHICH TABLES STAY

  client_leaves : (request : Request) → ClientAsks (scene_of plan []) request → LeavesName plan.table reported request
  client_leaves (requests.Create schema) asks = absurd asks
  client_leaves (requests.Drop gone) asks = absurd asks
  client_leaves (requests.Rename pairs) asks = absurd asks
  client_leaves request asks = tt

  tool_leaves : (request : Request) (actor : Actor) → is_client entry.actor ≡ false → About request → ToolCall plan request actor → LeavesName plan.table reported request
  tool_leaves (requests.Create schema) actor tool is asks = tool_name schema.name asks
  tool_leaves (requests.Drop gone) actor tool is asks = tool_name gone asks
  tool_leaves (requests.Rename pairs) actor tool is asks =
      λ done. absurd (never_reported plan serial runs.fitting journal entry known run off tool (uncommanded (requests.Rename pairs) is) pairs is (exchange_takes plan.table pairs asks.1) done)
  tool_leaves request actor tool is asks = tt

  -- either is so of whatever the turn is about
  each : (P : Request → Type 0) → ((request : Request) → ClientAsks (scene_of plan []) request → P request) → ((request : Request) (actor : Actor) → is_client entry.actor ≡ false → About request → ToolCall plan request actor → P request) → (request : Request) → About request → P request
  each P of_client of_tool request is = by entry.actor refl (asks request is) where
    by : (actor : Actor) → entry.actor ≡ actor → AskedAs plan actor request → P request
    by (Client c) same asks = of_client request asks
    by Op same asks = absurd asks
    by Insp same asks = of_tool request Insp (ap is_client same) is asks
    by Copy same asks = of_tool request Copy (ap is_client same) is asks
    by Apply same asks = of_tool request Apply (ap is_client same) is asks
    by Lock same asks = of_tool request Lock (ap is_client same) is asks
    by Ren same asks = of_tool request Ren (ap is_client same) is asks

  stands_more : StandsSoFar plan table journal → StandsSoFar plan table (journal ++ entry ∷ [])
  stands_more was =
      let writes : (request : Request) → About request → WritesAway m request = each (WritesAway m) client_writes (λ request actor tool is asks. tool_writes request actor asks) in
      let leaves : (request : Request) → About request → LeavesName m.name reported request = each (LeavesName plan.table reported) client_leaves tool_leaves in
      let all : Left m table.rows (limits_of plan) (scene_of plan (journal ++ entry ∷ [])) journal entry scene_run =
      left m table.rows (limits_of plan) (scene_of plan (journal ++ entry ∷ [])) journal entry scene_run run.answered.sides writes leaves was.stood was.away in
      record { stood = all.table; away = all.away }

-- WHOLE JOURNALS

stands_first : (plan : PlanData) (table : TableRows) → find_table plan.table plan.tables ≡ Some table → StandsSoFar plan table []
unfolding state_after
stands_first plan table found = record { stood = table_opens (unwritten plan.table table) table.rows plan.tables found; away = λ n. tt }

stands_along : (plan : PlanData) (table : TableRows) → IsRunnable plan → IsSerialPlan plan → (some journal : List Entry) → IsKept plan (some ++ journal) → IsUnaltered plan (some ++ journal) → StandsSoFar plan table some → StandsSoFar plan table (some ++ journal)
stands_along plan table runs serial some [] kept off was = subst (StandsSoFar plan table) (sym (append-nil some)) was
stands_along plan table runs serial some (entry ∷ journal) kept off was =
    let same : (some ++ entry ∷ []) ++ journal ≡ some ++ entry ∷ journal = append_assoc some (entry ∷ []) journal in
    let kept_all : IsKept plan ((some ++ entry ∷ []) ++ journal) = subst (IsKept plan) (sym same) kept in
    let off_all : IsUnaltered plan ((some ++ entry ∷ []) ++ journal) = subst (IsUnaltered plan) (sym same) off in
    subst (StandsSoFar plan table) same
    (stands_along plan table runs serial (some ++ entry ∷ []) journal kept_all off_all
    (stands_more plan runs serial table some entry (kept_front plan (some ++ entry ∷ []) journal kept_all) (unaltered_front plan (some ++ entry ∷ []) journal off_all) was))

-- *It stands so far*, after every kept journal in which the RENAME isn't done
pub stands_so_far : (plan : PlanData) (table : TableRows) → IsRunnable plan → IsSerialPlan plan → find_table plan.table plan.tables ≡ Some table → (journal : List Entry) → IsKept plan journal → IsUnaltered plan journal → StandsSoFar plan table journal
stands_so_far plan table runs serial found journal kept off = stands_along plan table runs serial [] journal kept off (stands_first plan table found)
