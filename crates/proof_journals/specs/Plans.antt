-- The scene of a plan: which tables are the clients', whose each session is, and what the tool may do among them.
use Rattle.std.specs.Prelude.{◌≡◌, ℕ, ◌==◌, Bool, true, false, not, ◌&&◌, List, [], ◌∷◌, ◌++◌, map, filter, Some}
use Rattle.std.specs.List.{AllByRecursion, list_any, flat_map}
use Rattle.std.specs.Str.{bytes_eq}
use Rattle.base_script.specs.declared.actor.Actor.{Actor}
use Rattle.base_script.specs.declared.actor.Actor.TheVariants.{Client}
use Rattle.base_script.specs.declared.script.ScriptWord.{ScriptWord}
use Rattle.base_script.specs.declared.script.ScriptWord.TheVariants as words
use Rattle.server_model.specs.declared.entry.Asked.{Asked}
use Rattle.server_model.specs.declared.entry.Asked.TheVariants.{Call}
use Rattle.server_model.specs.declared.entry.Entry.{Entry}
use Rattle.server_model.specs.Answers.{ok}
use Rattle.server_model.specs.Entries.{is_client, is_command}
use Rattle.server_model.specs.Operations.{table_of}
use Rattle.server_model.specs.States.{State, session_of, is_in_transaction, is_waiting}
use Rattle.base_values.specs.ToolNames.{is_tool_name}
use Rattle.plan_data.specs.PlanData.{PlanData}
use Rattle.tool_program.specs.JournalWords.AlteredTables.{plan_altered_table}
use Rattle.tool_program.specs.JournalWords.Journals.{state_at, IsFaithful}
use Rattle.tool_program.specs.JournalWords.KeptPlans.{TakesNext}
use Rattle.tool_program.specs.JournalWords.Sessions.{KeepsSessions}
use Rattle.server_model.specs.declared.session.Limits.{Limits}
use Rattle.server_model.specs.Along.{Along}
use Rattle.tool_program.specs.JournalWords.Histories.{about, answer_in}
use Rattle.server_model.specs.LockedRows.Coverage.{IsWellFormedTable}
use Rattle.proof_journals.specs.Scenes.{Scene}
use Rattle.proof_journals.specs.Turns.{ToolAsks, AtRest, RenamesSo}

-- the names of the plan's tables but the leftovers
unfoldable pub client_tables : PlanData → List (List ℕ)
client_tables plan = map (λ table. table.schema.name) (filter (λ table. not (is_tool_name plan.table table.schema.name)) plan.tables)

abbrev pub names_of : ScriptWord → List (List ℕ)
names_of (words.Do statement) = table_of statement ∷ []
names_of word = []

-- the names that scripts mention
unfoldable pub script_names : PlanData → List (List ℕ)
script_names plan = flat_map (λ script. flat_map (λ line. names_of line.word) script) plan.clients

-- *Client names*: those of the plan's tables but the leftovers; and the migrated table's and those that scripts mention,
-- whether or not such a table exists
unfoldable pub client_names : PlanData → List (List ℕ)
client_names plan = client_tables plan ++ filter (λ name. not (list_any (bytes_eq name) (client_tables plan))) (plan.table ∷ script_names plan)

-- the session is a client's
unfoldable pub is_client_session : List Entry → ℕ → Bool
is_client_session journal number = list_any (λ entry. not (is_command entry.asked) && ((entry.session == number) && is_client entry.actor)) journal

abbrev pub limits_of : PlanData → Limits
limits_of plan = record { client_wait = plan.options.client_wait; tool_wait = plan.options.tool_wait }

-- *Scene of a plan*, for all turns of a journal
abbrev pub scene_of : PlanData → List Entry → Scene
scene_of plan journal =
    record {
      mine = client_names plan;
      client = is_client_session journal;
      opening = plan.tables;
      migrated = plan.table;
      altered = plan_altered_table plan;
      exchanges = true;
    }

-- the tool's calls write, make, drop and rename no client table but by exchanges of the migrated one
abbrev pub AsksAway : PlanData → Asked → Type 0
AsksAway plan (Call request) = ToolAsks (scene_of plan []) request
AsksAway plan asked = Unit {0}

-- a call comes of a session that doesn't wait
abbrev pub AsksIdle : State → ℕ → Asked → Type 0
AsksIdle state session (Call request) = is_waiting state session ≡ false
AsksIdle state session asked = Unit {0}

-- *Keeping away*: what a turn of the tool is. CREATE, DROP and RENAME come outside a transaction, and by a RENAME of the
-- migrated table that was done this becomes the altered table.
pub record IsAway (plan : PlanData) (before : List Entry) (entry : Entry) : Type 0 where
  pub asks : AsksAway plan entry.asked
  pub idle : AsksIdle (state_at plan before) entry.session entry.asked
  pub rests : AtRest (is_in_transaction (session_of entry.session (state_at plan before).sessions)) (about before entry)
  pub exchanges : answer_in entry.asked entry.side entry.answer entry.missed ≡ Some ok → RenamesSo (scene_of plan []) (state_at plan before).tables (about before entry)

abbrev pub KeepsAway : PlanData → List Entry → Entry → Actor → Type 0
KeepsAway plan before entry (Client client) = Unit {0}
KeepsAway plan before entry actor = IsAway plan before entry

-- *Serial plan*: each of its tables is a table with a clustered key, whose defaults fit their columns; and its scripts
-- name no table of the tool's.
pub record IsSerialPlan (plan : PlanData) : Type 0 where
  pub tables : AllByRecursion IsWellFormedTable plan.tables
  pub scripts : AllByRecursion (λ name. is_tool_name plan.table name ≡ false) (script_names plan)

-- *Taking lines*: each turn asks what the plan has its actor ask, whatever sessions are lost.
unfoldable pub TakesLines : PlanData → List Entry → Type 0
TakesLines plan journal = Along (λ before entry. TakesNext plan before entry.actor entry.asked) [] journal

-- *Run of a plan*: a journal that follows from it, in which every answer is the server's and the tool keeps away
pub record IsPlanRun (plan : PlanData) (journal : List Entry) : Type 0 where
  pub serial : IsSerialPlan plan
  pub faithful : IsFaithful plan journal
  pub lines : TakesLines plan journal
  pub seated : KeepsSessions journal
  pub away : Along (λ before entry. KeepsAway plan before entry entry.actor) [] journal
