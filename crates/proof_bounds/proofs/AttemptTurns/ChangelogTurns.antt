-- What a turn leaves of the changelog that asks for no row of it: the same table, none, or a new one without rows.
use Rattle.std.proofs.Common.{◌≡◌, ◌⊎◌, Bool, true, false, cond, ℕ, List, [], ◌∷◌, ◌++◌, Option, Some, None, Result, Ok, Err, refl, sym, ap, ◌∙◌, subst, inl, inr}
use Rattle.std.specs.List.{list_any}
use Rattle.std.specs.Str.{bytes_eq}
use Rattle.std.proofs.lemmas.Bool.{true≢false, false_from_ne_true, or_from}
use Rattle.std.proofs.lemmas.Option.{none-some, same_Some}
use Rattle.base_script.specs.declared.actor.Actor.{Actor}
use Rattle.base_script.specs.declared.actor.Actor.TheVariants.{Op, Insp, Copy, Apply, Lock, Ren, Client}
use Rattle.base_values.specs.declared.gho_schema.schema.Schema.{Schema}
use Rattle.base_values.specs.ToolNames.{ghost_name, is_tool_name, log_name, old_name}
use Rattle.table_store.specs.Databases.{Database, TableRows, find_table, has_table, is_named, rename_tables, without_table}
use Rattle.table_store.specs.declared.renames.NotRenamed.{NotRenamed}
use Rattle.table_store.specs.declared.renames.Pair.{Pair}
use Rattle.server_model.specs.declared.answer.Answer.{Answer}
use Rattle.server_model.specs.declared.entry.Entry.{Entry}
use Rattle.server_model.specs.declared.request.Request.{Request}
use Rattle.server_model.specs.declared.request.Request.TheVariants as requests
use Rattle.server_model.specs.Effects.{created, dropped, renamed_or}
use Rattle.server_model.specs.Entries.{same_actor}
use Rattle.server_model.specs.Operations.{table_of}
use Rattle.server_model.specs.States.{State, pair_names}
use Rattle.server_model.proofs.LockedRows.Tests.{are_same, turned_bytes}
use Rattle.plan_data.specs.PlanData.{PlanData}
use Rattle.tool_program.specs.JournalWords.Journals.{may_lose, opens, state_at}
use Rattle.tool_program.specs.CutoverCore.Attempts.{exchange}
use Rattle.tool_program.proofs.OnlineCalls.Naming.{not_log}
use Rattle.proof_journals.specs.Plans.{IsSerialPlan, limits_of, scene_of}
use Rattle.proof_journals.specs.Scenes.{Stored}
use Rattle.proof_journals.specs.Turns.{ClientAsks, IsSceneRun, about, reported_at}
use Rattle.proof_journals.proofs.Ghost.Keeping.{found_besides}
use Rattle.proof_journals.proofs.Machine.Marks.{ghost_not_log, old_not_log}
use Rattle.proof_journals.proofs.Moves.{after_other, drop_moves, gone_none, rename_moves}
use Rattle.proof_migration.proofs.Migration.Leaves.{IsMoved, WritesAway, turn_leaves}
use Rattle.proof_migration.proofs.Program.Hints.Logging.{LogsAway, NoneWrote, away_left, watched}
use Rattle.proof_migration.proofs.ToolPhase.Unaltered.Asking.{AskedAs, ToolCall}
use Rattle.proof_migration.proofs.ToolPhase.Unaltered.Away.{log_is_tool, tool_not_mine}

-- WHAT IS LEFT OF IT

-- by a turn that may make tables of these schemas
pub data LogLeft (t : List ℕ) (makes : Schema → Type 0) (before after : Database) : Type 0 where
  log_stays : find_table (log_name t) after ≡ find_table (log_name t) before → LogLeft t makes before after
  log_gone : find_table (log_name t) after ≡ None → LogLeft t makes before after
  log_new : (schema : Schema) → makes schema → bytes_eq schema.name (log_name t) ≡ true → find_table (log_name t) before ≡ None → ((table : TableRows) → find_table (log_name t) after ≡ Some table → table.rows ≡ []) → LogLeft t makes before after

-- its rows are the same, or none
pub left_rows : (t : List ℕ) (makes : Schema → Type 0) (before after : Database) → LogLeft t makes before after → (table : TableRows) → find_table (log_name t) after ≡ Some table → (find_table (log_name t) before ≡ Some table) ⊎ (table.rows ≡ [])
left_rows t makes before after (log_stays same) table found = inl (sym same ∙ found)
left_rows t makes before after (log_gone gone) table found = absurd (none-some table (sym gone ∙ found))
left_rows t makes before after (log_new schema made named was empty) table found = inr (empty table found)

-- a new table stands behind the others
front_some : (name : List ℕ) (tables : Database) (new table : TableRows) → find_table name tables ≡ Some table → find_table name (tables ++ new ∷ []) ≡ Some table
front_some name [] new table found = absurd cc
front_some name (first ∷ tables) new table found = by (is_named name first) found (λ later. front_some name tables new table later) where
  by : (b : Bool) → cond b (Some first) (find_table name tables) ≡ Some table → (find_table name tables ≡ Some table → find_table name (tables ++ new ∷ []) ≡ Some table) → cond b (Some first) (find_table name (tables ++ new ∷ [])) ≡ Some table
  by true found later = found
  by false found later = later found

front_or : (name : List ℕ) (tables : Database) (new table : TableRows) → find_table name (tables ++ new ∷ []) ≡ Some table → (find_table name tables ≡ Some table) ⊎ (new ≡ table)
front_or name [] new table found = by (is_named name new) found where
  by : (b : Bool) → cond b (Some new) None ≡ Some table → (None ≡ Some table) ⊎ (new ≡ table)
  by true found = inr (same_Some new table found)
  by false found = absurd cc
front_or name (first ∷ tables) new table found = by (is_named name first) found (λ later. front_or name tables new table later) where
  by : (b : Bool) → cond b (Some first) (find_table name (tables ++ new ∷ [])) ≡ Some table → (find_table name (tables ++ new ∷ []) ≡ Some table → (find_table name tables ≡ Some table) ⊎ (new ≡ table)) → (cond b (Some first) (find_table name tables) ≡ Some table) ⊎ (new ≡ table)
  by true found later = inl found
  by false found later = later found

abbrev made_of : Database → Result Database ℕ
made_of tables = Ok tables

ok_same : (one other : Database) → made_of one ≡ made_of other → one ≡ other
ok_same one other same = cc

module _ (plan : PlanData) (serial : IsSerialPlan plan) (journal : List Entry) (entry : Entry) (more_run : IsSceneRun (limits_of plan) (scene_of plan (journal ++ entry ∷ [])) (journal ++ entry ∷ []))
    (as_asked : (request : Request) → about (opens entry (state_at plan journal)) entry.session entry.asked ≡ Some request → AskedAs plan entry.actor request) where
  abbrev t : List ℕ
  t = plan.table

  abbrev more : List Entry
  more = journal ++ entry ∷ []

  abbrev now : State
  now = state_at plan journal

  abbrev then : State
  then = state_at plan more

  abbrev About : Request → Type 0
  About request = about (opens entry now) entry.session entry.asked ≡ Some request

  -- WHO WRITES NO ROW OF IT

  client_away : (request : Request) → ClientAsks (scene_of plan []) request → WritesAway (watched t) request
  client_away (requests.Do statement) asks = false_from_ne_true (bytes_eq (table_of statement) (log_name t)) (λ same. true≢false (sym asks ∙ tool_not_mine plan (table_of statement) serial (ap (is_tool_name t) (are_same (table_of statement) (log_name t) same) ∙ log_is_tool t)))
  client_away (requests.CopyRow from into map key) asks = absurd asks
  client_away request asks = tt

  tool_away : (request : Request) (actor : Actor) → same_actor actor Insp ≡ false → ToolCall plan request actor → WritesAway (watched t) request
  tool_away (requests.Do statement) Apply other asks = ap (λ (n : List ℕ). bytes_eq n (log_name t)) asks ∙ ghost_not_log t
  tool_away (requests.Do statement) Insp other asks = absurd (true≢false other)
  tool_away (requests.Do statement) actor other asks = absurd asks
  tool_away (requests.CopyRow from into map key) Copy other asks = ap (λ (n : List ℕ). bytes_eq n (log_name t)) asks ∙ ghost_not_log t
  tool_away (requests.CopyRow from into map key) actor other asks = absurd asks
  tool_away request actor other asks = tt

  pub others_away : same_actor entry.actor Insp ≡ false → (request : Request) → About request → WritesAway (watched t) request
  others_away other request is = by entry.actor other (as_asked request is) where
    by : (actor : Actor) → same_actor actor Insp ≡ false → AskedAs plan actor request → WritesAway (watched t) request
    by (Client c) other asks = client_away request asks
    by Op other asks = absurd asks
    by Insp other asks = absurd (true≢false other)
    by Copy other asks = tool_away request Copy other asks
    by Apply other asks = tool_away request Apply other asks
    by Lock other asks = tool_away request Lock other asks
    by Ren other asks = tool_away request Ren other asks

  -- TABLES THAT ARE MADE, DROPPED AND RENAMED

  exchanged_off : (pairs : List Pair) → requests.Rename pairs ≡ exchange t → list_any (bytes_eq (log_name t)) (pair_names pairs) ≡ false
  exchanged_off pairs same = ap (λ (ps : List Pair). list_any (bytes_eq (log_name t)) (pair_names ps)) (pairs_same pairs _ same) ∙ rw (own, old, turned_bytes (ghost_name t) (log_name t) (ghost_not_log t)) refl where
    pairs_same : (one other : List Pair) → requests.Rename one ≡ requests.Rename other → one ≡ other
    pairs_same one other both = cc

    own : bytes_eq (log_name t) t ≡ false
    own = turned_bytes t (log_name t) (not_log t)

    old : bytes_eq (log_name t) (old_name t) ≡ false
    old = turned_bytes (old_name t) (log_name t) (old_not_log t)

  renames_off : (pairs : List Pair) → About (requests.Rename pairs) → list_any (bytes_eq (log_name t)) (pair_names pairs) ≡ false
  renames_off pairs is = by entry.actor (as_asked (requests.Rename pairs) is) where
    by : (actor : Actor) → AskedAs plan actor (requests.Rename pairs) → list_any (bytes_eq (log_name t)) (pair_names pairs) ≡ false
    by (Client c) asks = absurd asks
    by Op asks = absurd asks
    by Insp asks = exchanged_off pairs asks.1
    by Copy asks = exchanged_off pairs asks.1
    by Apply asks = exchanged_off pairs asks.1
    by Lock asks = exchanged_off pairs asks.1
    by Ren asks = exchanged_off pairs asks.1

  abbrev Left : Database → Type 0
  Left tables = LogLeft t (λ schema. About (requests.Create schema)) now.tables tables

  made_left : (schema : Schema) → About (requests.Create schema) → (found : Option TableRows) → find_table (log_name t) now.tables ≡ found → Left (now.tables ++ record { schema = schema; rows = [] } ∷ [])
  made_left schema is (Some table) found = log_stays (front_some (log_name t) now.tables (record { schema = schema; rows = [] }) table found ∙ sym found)
  made_left schema is None none = by (bytes_eq schema.name (log_name t)) refl where
    empty : (table : TableRows) → find_table (log_name t) (now.tables ++ record { schema = schema; rows = [] } ∷ []) ≡ Some table → table.rows ≡ []
    empty table found = either (front_or (log_name t) now.tables (record { schema = schema; rows = [] }) table found) where
      either : (find_table (log_name t) now.tables ≡ Some table) ⊎ ((record { schema = schema; rows = [] }) ≡ table) → table.rows ≡ []
      either (inl old) = absurd (none-some table (sym none ∙ old))
      either (inr new) = ap (λ (one : TableRows). one.rows) (sym new)

    by : (b : Bool) → bytes_eq schema.name (log_name t) ≡ b → Left (now.tables ++ record { schema = schema; rows = [] } ∷ [])
    by true named = log_new schema is named none empty
    by false other = log_stays (after_other (log_name t) now.tables (record { schema = schema; rows = [] }) other)

  moved_left : (reported : Option Answer) (request : Request) (tables : Database) → About request → IsMoved reported now.tables request tables → Left tables
  moved_left reported (requests.Create schema) tables is moved = by (has_table schema.name now.tables) moved where
    by : (b : Bool) → created b schema now.tables ≡ Ok tables → Left tables
    by true none = absurd cc
    by false made = subst Left (ok_same (now.tables ++ record { schema = schema; rows = [] } ∷ []) tables made) (made_left schema is (find_table (log_name t) now.tables) refl)
  moved_left reported (requests.Drop name) tables is moved = by (has_table name now.tables) moved where
    gone : (b : Bool) → bytes_eq (log_name t) name ≡ b → without_table name now.tables ≡ tables → Left tables
    gone true same made = log_gone (sym (ap (find_table (log_name t)) made) ∙ ap (λ (n : List ℕ). find_table (log_name t) (without_table n now.tables)) (sym (are_same (log_name t) name same)) ∙ gone_none (log_name t) now.tables)
    gone false other made = log_stays (sym (ap (find_table (log_name t)) made) ∙ (drop_moves name now.tables).others (log_name t) (or_from (bytes_eq (log_name t) name) false other refl))

    by : (b : Bool) → dropped b name now.tables ≡ Ok tables → Left tables
    by true made = gone (bytes_eq (log_name t) name) refl (ok_same (without_table name now.tables) tables made)
    by false none = absurd cc
  moved_left reported (requests.Rename pairs) tables is moved = by (rename_tables pairs now.tables) refl moved.1 where
    by : (made : Result Database NotRenamed) → rename_tables pairs now.tables ≡ made → renamed_or made ≡ Ok tables → Left tables
    by (Ok made) renames same = log_stays (sym (ap (find_table (log_name t)) (ok_same made tables same)) ∙ (rename_moves pairs now.tables made renames).others (log_name t) (renames_off pairs is))
    by (Err reason) renames same = absurd cc
  moved_left reported request tables is moved = absurd moved

  -- A TURN THAT ASKS FOR NO ROW OF IT

  module _ (sides : may_lose entry.asked ≡ false → entry.side ≡ None) (none : NoneWrote t now) (writes : (request : Request) → About request → WritesAway (watched t) request) where
    pub log_left : Left then.tables
    log_left =
        turn_leaves (watched t) (limits_of plan) (scene_of plan more) journal entry more_run sides (none entry.session) writes (Left then.tables)
        (record {
          holds = λ held away same besides. log_stays (ap (λ (s : Stored). find_table (log_name t) s.tables) same);
          commits = λ middle held besides served away tables log last. log_stays (ap (find_table (log_name t)) tables ∙ found_besides (log_name t) (middle entry.session).writes now.tables away);
          moves = λ request tables held asked moved made log away besides. subst Left (sym made) (moved_left (reported_at entry.side entry.answer entry.missed) request tables asked moved);
        })

    pub none_written : NoneWrote t then
    none_written = (away_left t (limits_of plan) (scene_of plan more) journal entry more_run sides none writes).none

    pub logs_left : LogsAway t now then
    logs_left = (away_left t (limits_of plan) (scene_of plan more) journal entry more_run sides none writes).logs
