-- The INSERT of an attempt's hint row logs one event of the changelog at most, and the REPLACE of a note's row two.
use Rattle.proof_migration.proofs.ToolServes.{filled_so}
use Rattle.std.proofs.Common.{◌≡◌, ◌≤◌, ℕ, ◌+◌, Bool, true, false, cond, ◌||◌, List, [], ◌∷◌, ◌++◌, map, length, filter, Option, Some, None, Result, Ok, Err, refl, sym, ap, ◌∙◌, subst, arith}
use Rattle.std.specs.List.{list_any}
use Rattle.std.specs.Str.{bytes_eq}
use Rattle.std.proofs.lemmas.List.{length-map, length-append}
use Rattle.std.proofs.lemmas.List.Sums.{sum_by-cons}
use Rattle.base_script.specs.declared.statement.Statement.{Statement}
use Rattle.base_values.specs.declared.event.Change.{Change}
use Rattle.base_values.specs.declared.event.Change.TheVariants as changes
use Rattle.base_values.specs.declared.event.RowEvent.{RowEvent}
use Rattle.base_values.specs.declared.gho_schema.schema.Schema.{Schema}
use Rattle.base_values.specs.declared.gho_schema.schema.Index.{Index}
use Rattle.base_values.specs.declared.mysql_errors.TheConstants.{ER_DUP_ENTRY, ER_TABLE_NOT_LOCKED}
use Rattle.base_values.specs.declared.value.Value.{Value}
use Rattle.base_values.specs.GhoSchema.Tables.{Apart, IsTable, clash}
use Rattle.base_values.specs.ToolNames.{log_name}
use Rattle.table_store.specs.Databases.{Database, TableRows, find_table}
use Rattle.server_model.specs.declared.answer.Answer.{Answer}
use Rattle.server_model.specs.declared.answer.Answer.TheVariants as answers
use Rattle.server_model.specs.declared.entry.Entry.{Entry}
use Rattle.server_model.specs.declared.request.Request.{Request}
use Rattle.server_model.specs.declared.request.Request.TheVariants as requests
use Rattle.server_model.specs.declared.session.Limits.{Limits}
use Rattle.server_model.specs.declared.work.StatementResult.{StatementResult}
use Rattle.server_model.specs.declared.work.Work.TheVariants as works
use Rattle.server_model.specs.Answers.{refuses}
use Rattle.server_model.specs.Blockers.{need_within}
use Rattle.server_model.specs.Checks.{new_row, or_refused, work_of}
use Rattle.server_model.specs.Effects.{Effect, effect, result_effect}
use Rattle.server_model.specs.Effects.Effect.{Rests, Writes}
use Rattle.server_model.specs.Entries.{is_cut}
use Rattle.server_model.specs.Operations.{events_of, operation_of, operation_result, result_in}
use Rattle.server_model.specs.StatementResults.{displaced, only, tells}
use Rattle.server_model.specs.States.{State, is_of, is_of_tool, session_of}
use Rattle.tool_changelog.specs.Hints.{hint_row}
use Rattle.tool_changelog.specs.ToolTables.{first_is_primary, log_schema}
use Rattle.tool_program.specs.JournalWords.Journals.{opens}
use Rattle.proof_journals.specs.Ghost.EffectStates.{EffectLeaves, is_lost, reported_done, was_done, where_done}
use Rattle.proof_journals.specs.Ghost.Invariant.{NotOf}
use Rattle.proof_journals.specs.Holdings.{face_of, stored}
use Rattle.proof_journals.specs.Scenes.{Scene, SessionHold, Stored}
use Rattle.proof_journals.specs.Turns.{IsReported, IsSceneRun, about, reported_at, scene_state}
use Rattle.proof_journals.proofs.Ghost.Leaving.{effects_are_done, holds_of}
use Rattle.proof_journals.proofs.Ghost.Turns.{along_next, run_front}
use Rattle.proof_journals.proofs.Ghost.Undone.{undone_is_left}
use Rattle.proof_migration.proofs.Migration.Copier.Served.{Deeded, deeded, seen_of}
use Rattle.proof_migration.proofs.Migration.Copier.Served.Deeded.{outside_so, within_so}
use Rattle.proof_migration.proofs.Program.Hints.Logging.{NoneWrote}
use Rattle.proof_migration.proofs.Program.Hints.Writes.{hint_insert}
use Rattle.proof_bounds.proofs.AttemptTurns.NoteRows.{log_uniques, note_write, one_gone}
use Rattle.proof_journals.proofs.Ghost.Rows.LineEvents.{count_both, count_of}

-- COUNTING

-- events of other tables count nothing
pub away_count : (name : List ℕ) (events : List RowEvent) → NotOf name events → count_of name events ≡ 0
away_count name [] away = refl
away_count name (event ∷ events) away =
    let a : count_of name (event ∷ events) ≡ 0 + count_of name events = sum_by-cons (λ (one : RowEvent). cond (is_of (name ∷ []) one) 1 0) event events ∙ ap (λ (b : Bool). cond (b || false) 1 0 + count_of name events) away.0 in
    let b = away_count name events away.1 in
    omega (arith, a, b)

-- one event counts one at most
one_event : (name : List ℕ) (event : RowEvent) → count_of name (event ∷ []) ≤ 1
one_event name event = by (bytes_eq event.table name) where
  by : (b : Bool) → 0 + cond (b || false) 1 0 ≤ 1
  by true = omega arith
  by false = omega arith

row_few : (name : List ℕ) (schema : Schema) (rows : List (List Value)) (row : List Value) → count_of name (result_in (record { table = name; work = λ one. works.Insert row }) (Some (record { schema = schema; rows = rows }))).events ≤ 1
unfolding tells
row_few name schema rows row = by (list_any (clash schema.uniques row) rows) where
  by : (b : Bool) → count_of name (events_of name (cond b (only (refuses ER_DUP_ENTRY)) (record { answer = answers.Ok 1; changes = changes.Write row ∷ [] })).changes) ≤ 1
  by true = omega arith
  by false = one_event name (record { table = name; change = changes.Write row })

made_few : (name : List ℕ) (schema : Schema) (rows : List (List Value)) (made : Result (List Value) Answer) → count_of name (result_in (record { table = name; work = λ one. or_refused made works.Insert }) (Some (record { schema = schema; rows = rows }))).events ≤ 1
unfolding tells
made_few name schema rows (Ok row) = row_few name schema rows row
made_few name schema rows (Err refusal) = omega arith

-- *The INSERT writes one row at most*
pub insert_few : (t : List ℕ) (attempt : ℕ) (seen : Database) → count_of (log_name t) (operation_result seen (operation_of (hint_insert t attempt))).events ≤ 1
unfolding operation_result work_of
insert_few t attempt seen = by (find_table (log_name t) seen) where
  by : (found : Option TableRows) → count_of (log_name t) (result_in (operation_of (hint_insert t attempt)) found).events ≤ 1
  by None = omega arith
  by (Some table) = made_few (log_name t) table.schema table.rows (new_row table.schema None (hint_row attempt))

-- the row of a note, in place of one at most
changes_few : (name : List ℕ) (all : List Change) → count_of name (events_of name all) ≤ length all
changes_few name [] = omega arith
changes_few name (change ∷ all) =
    let a = count_both name (record { table = name; change = change } ∷ []) (events_of name all) in
    let b = one_event name (record { table = name; change = change }) in
    let c = changes_few name all in
    omega (arith, a, b, c)

-- *The REPLACE writes two at most*, where no two rows of the changelog have one number
pub replace_few : (t : List ℕ) (row : List Value) (seen : Database) (table : TableRows) → find_table (log_name t) seen ≡ Some table → table.schema ≡ log_schema t → IsTable table.schema table.rows → count_of (log_name t) (operation_result seen (operation_of (note_write t row))).events ≤ 2
unfolding operation_result work_of tells
replace_few t row seen table found schema is = subst (λ (f : Option TableRows). count_of (log_name t) (result_in (operation_of (note_write t row)) f).events ≤ 2) (sym found) (by (new_row table.schema None row)) where
  own_uniques : table.schema.uniques ≡ first_is_primary
  own_uniques = ap (λ (s : Schema). s.uniques) schema ∙ log_uniques t

  apart : Apart first_is_primary table.rows
  apart = subst (λ (uniques : List Index). Apart uniques table.rows) own_uniques is.apart

  by : (made : Result (List Value) Answer) → count_of (log_name t) (result_in (record { table = log_name t; work = λ one. or_refused made works.Replace }) (Some table)).events ≤ 2
  by (Err refusal) = omega arith
  by (Ok stored) =
      let a = changes_few (log_name t) (map changes.Delete (displaced table.schema stored table.rows) ++ changes.Write stored ∷ []) in
      let b = length-append (map changes.Delete (displaced table.schema stored table.rows)) (changes.Write stored ∷ []) in
      let c = length-map (displaced table.schema stored table.rows) changes.Delete in
      let d : length (displaced table.schema stored table.rows) ≤ 1 = subst (λ (uniques : List Index). length (filter (clash uniques stored) table.rows) ≤ 1) (sym own_uniques) (one_gone stored table.rows apart) in
      omega (arith, a, b, c, d)

-- ONE TURN

module _ (t : List ℕ) (limits : Limits) (scene : Scene) (journal : List Entry) (entry : Entry) (more : IsSceneRun limits scene (journal ++ entry ∷ [])) (none_wrote : NoneWrote t (scene_state limits scene journal)) (statement : Statement) (most : ℕ) (few : count_of (log_name t) (operation_result (seen_of (scene_state limits scene journal) entry.session) (operation_of statement)).events ≤ most) (uncut : is_cut entry.asked ≡ false)
    (asked : about (opens entry (scene_state limits scene journal)) entry.session entry.asked ≡ Some (requests.Do statement)) (idle : (face_of (scene_state limits scene journal).sessions entry.session).busy ≡ false)
    (tool : is_of_tool (session_of entry.session (opens entry (scene_state limits scene journal)).sessions) ≡ true) where
  abbrev before : State
  before = scene_state limits scene journal

  abbrev after : State
  after = scene_state limits scene (journal ++ entry ∷ [])

  abbrev own : SessionHold
  own = holds_of before entry.session

  abbrev request : Request
  request = requests.Do statement

  abbrev Goal : Type 0
  Goal = count_of (log_name t) after.log ≤ count_of (log_name t) before.log + most

  run : IsSceneRun limits scene journal
  run = run_front limits scene journal (entry ∷ []) more

  entry_reported : IsReported limits scene journal entry
  entry_reported = along_next (IsReported limits scene) [] journal entry [] more.reported

  same_stored : stored after ≡ stored before → Goal
  same_stored same = let a : count_of (log_name t) after.log ≡ count_of (log_name t) before.log = ap (λ (s : Stored). count_of (log_name t) s.log) same in omega (arith, a)

  undone : reported_done (reported_at entry.side entry.answer entry.missed) ≡ false → Goal
  undone none = same_stored (undone_is_left limits scene journal entry request run entry_reported uncut asked none).0

  abbrev effect_now : Effect
  effect_now = effect (where_done entry.asked entry.session (opens entry before)) entry.session request

  abbrev result : StatementResult
  result = operation_result (seen_of before entry.session) (operation_of statement)

  module _ (given : Answer) (reported : reported_at entry.side entry.answer entry.missed ≡ Some given) (done : was_done given ≡ true) where
    left_as : (one : Effect) → effect_now ≡ one → EffectLeaves one (is_lost entry.side) entry.session (stored before) (stored after) (holds_of before) (holds_of after)
    left_as one is = subst (λ (d : Effect). EffectLeaves d (is_lost entry.side) entry.session (stored before) (stored after) (holds_of before) (holds_of after))
        (ap (effect (where_done entry.asked entry.session (opens entry before)) entry.session) (filled_so (opens entry before) entry.session request tool) ∙ is) (effects_are_done limits scene journal entry request given run entry_reported asked reported done)

    refused : (answer : Answer) → effect_now ≡ Rests answer → Goal
    refused answer is = same_stored (left_as (Rests answer) is).0

    committed : effect_now ≡ Writes result.answer result.events → Goal
    committed is =
        let all : EffectLeaves (Writes result.answer result.events) (is_lost entry.side) entry.session (stored before) (stored after) (holds_of before) (holds_of after) = left_as (Writes result.answer result.events) is in
        let a : count_of (log_name t) after.log ≡ count_of (log_name t) before.log + count_of (log_name t) (own.writes ++ result.events) = ap (count_of (log_name t)) all.1 ∙ count_both (log_name t) before.log (own.writes ++ result.events) in
        let b = count_both (log_name t) own.writes result.events in
        let c = away_count (log_name t) own.writes (none_wrote entry.session) in
        let d = few in
        omega (arith, a, b, c, d)

    done_goal : Goal
    done_goal = by (deeded entry before request) where
      by : Deeded before entry.session request effect_now → Goal
      by (outside_so is) = refused (refuses ER_TABLE_NOT_LOCKED) is
      by (within_so there same log is) = committed (is ∙ ap (λ (b : Bool). result_effect b (need_within (seen_of before entry.session) request) result) idle)

  reported_goal : (given : Option Answer) → reported_at entry.side entry.answer entry.missed ≡ given → (b : Bool) → reported_done given ≡ b → Goal
  reported_goal given reported false none = undone (ap reported_done reported ∙ none)
  reported_goal None reported true done = absurd (let no : false ≡ true = done in cc)
  reported_goal (Some given) reported true done = done_goal given reported done

  -- *No more events are logged of the changelog* than the statement writes
  pub row_grows : Goal
  row_grows = reported_goal (reported_at entry.side entry.answer entry.missed) refl (reported_done (reported_at entry.side entry.answer entry.missed)) refl
