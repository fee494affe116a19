-- A plan that was read is plain; and what is so of each turn, of the tables that are left and of the reason of a revert.
use Rattle.std.proofs.Common.{◌≡◌, ◌≤◌, ◌<◌, ℕ, ◌+◌, ◌^◌, true, List, [], ◌∷◌, ◌++◌, length, append_assoc, Option, Some, None, Ok, sym, subst, arith}
use Rattle.std.specs.Prelude.{is_some}
use Rattle.std.specs.List.{AllByRecursion}
use Rattle.std.proofs.lemmas.List.{length-append}
use Rattle.base_script.specs.declared.script.ScriptLine.{ScriptLine}
use Rattle.base_script.specs.declared.script.ScriptWord.{ScriptWord}
use Rattle.base_script.specs.declared.script.ScriptWord.TheVariants as words
use Rattle.base_script.specs.declared.statement.Statement.TheVariants as statements
use Rattle.base_values.specs.declared.gho_schema.schema.Column.{Column}
use Rattle.base_values.specs.declared.value.Value.{Value}
use Rattle.base_values.specs.GhoSchema.Tables.{IsRow}
use Rattle.base_values.specs.SchemaRules.Valid.{IsColumn, StoresDefault}
use Rattle.base_values.proofs.SchemaRules.Lists.{All-weaker}
use Rattle.table_store.specs.Databases.{Database, TableRows, find_table}
use Rattle.server_model.specs.declared.entry.Entry.{Entry}
use Rattle.server_model.specs.LockedRows.Coverage.{IsWellFormedTable}
use Rattle.server_model.specs.LockedRows.Databases.{WhereFound}
use Rattle.plan_data.specs.PlanData.{PlanData, new_schema}
use Rattle.plan_keys.specs.declared.limits.TheConstants.{ROW_LIMIT}
use Rattle.plan_reader.specs.Plans.{read}
use Rattle.plan_reader.specs.PlanTables.Tables.{IsSound}
use Rattle.tool_program.specs.JournalWords.Journals.{inner_answer, state_at}
use Rattle.tool_program.specs.JournalWords.Sessions.{NumbersSessions}
use Rattle.proof_journals.specs.Machine.Runnable.{IsRunnable}
use Rattle.proof_journals.specs.Plans.{IsSerialPlan}
use Rattle.proof_journals.specs.Run.Kept.{IsKept}
use Rattle.proof_migration.proofs.Program.Turns.Follows.{kept_front}
use Rattle.proof_migration.proofs.HeldNames.Holders.{all_held_well}
use Rattle.proof_plans.specs.ReadPlans.Schemas.{IsAccepted}
use Rattle.proof_plain.specs.Plain.{HasBytes, IfThere, IsPlain, PlainAnswer, PlainColumns, PlainDatabase, PlainRow, PlainRows, PlainTable, ShownRow, SmallIf}
use Rattle.proof_plain.specs.Plans.{BytesWord, HasByteDefaults, HasByteLiterals, HasByteTexts, IsShort, PlainPlan}
use Rattle.proof_plain.proofs.Journals.{DrawnAnswer, PlainRun, all_plain, answer_plain, draw_answers, draw_small}
use Rattle.proof_literals.proofs.ReadBytes.Plans.{plan_bytes}
use Rattle.proof_literals.proofs.ReadLimits.{IsSmallPlan, small_plan}
use Rattle.proof_literals.proofs.ReadScripts.{ShowsWord, scripts_shown}
use Rattle.proof_plain.proofs.Sessions.{few_sessions}
use Rattle.proof_literals.proofs.Starts.{new_start_small, starts_small}
use Rattle.proof_plain.proofs.Statements.{columns_some, found_plain, rows_length, whole_rows}
use Rattle.proof_plain.proofs.Values.{stored_plain}

-- ---- the plan

row_plain : (columns : List Column) (row : List Value) → IsRow columns row → AllByRecursion HasBytes row → PlainRow row
row_plain [] [] is have = tt
row_plain [] (value ∷ row) is have = absurd is
row_plain (column ∷ columns) [] is have = absurd is
row_plain (column ∷ columns) (value ∷ row) is have = (stored_plain value column.kind column.nullable value have.0 is.0, row_plain columns row is.1 have.1)

rows_plain : (columns : List Column) (rows : List (List Value)) → AllByRecursion (IsRow columns) rows → AllByRecursion (λ row. AllByRecursion HasBytes row) rows → PlainRows rows
rows_plain columns [] are have = tt
rows_plain columns (row ∷ rows) are have = (row_plain columns row are.0 have.0, rows_plain columns rows are.1 have.1)

default_plain : (column : Column) (default : Option Value) → StoresDefault column default → IfThere HasBytes default → IfThere IsPlain default
default_plain column None is have = tt
default_plain column (Some value) is have = stored_plain value column.kind column.nullable value have is

columns_plain : (columns : List Column) → AllByRecursion IsColumn columns → HasByteDefaults columns → PlainColumns columns
columns_plain [] are have = tt
columns_plain (column ∷ columns) are have = (default_plain column column.default are.0.default have.0, columns_plain columns are.1 have.1)

tables_plain : (tables : Database) → AllByRecursion IsSound tables → AllByRecursion (λ table. AllByRecursion (λ row. AllByRecursion HasBytes row) table.rows) tables → AllByRecursion (λ table. HasByteDefaults table.schema.columns) tables → PlainDatabase tables
tables_plain [] are rows defaults = tt
tables_plain (table ∷ tables) are rows defaults = (
  record { columns = columns_plain table.schema.columns are.0.valid.columns defaults.0; rows = rows_plain table.schema.columns table.rows are.0.is_table.rows_fit rows.0 },
  tables_plain tables are.1 rows.1 defaults.1,
)

few_plain : (tables : Database) → AllByRecursion (λ table. length table.rows ≤ ROW_LIMIT) tables → AllByRecursion (λ table. length table.rows ≤ 2 ^ 31) tables
few_plain [] few = tt
few_plain (table ∷ tables) few = (let a = few.0 in omega (arith, a), few_plain tables few.1)

word_plain : (word : ScriptWord) → HasByteLiterals word → ShowsWord word → BytesWord word
word_plain words.Begin have shows = tt
word_plain words.Commit have shows = tt
word_plain words.Rollback have shows = tt
word_plain (words.Do (statements.Insert table columns values drawn)) have shows = have
word_plain (words.Do (statements.Replace table columns values drawn)) have shows = have
word_plain (words.Do (statements.Delete table condition)) have shows = tt
word_plain (words.Do (statements.Update table sets condition)) have shows = have
word_plain (words.Do (statements.Select table what condition)) have shows = shows

lines_plain : (script : List ScriptLine) → AllByRecursion (λ line. HasByteLiterals line.word) script → AllByRecursion (λ line. ShowsWord line.word) script → AllByRecursion (λ line. BytesWord line.word) script
lines_plain [] have shows = tt
lines_plain (line ∷ script) have shows = (word_plain line.word have.0 shows.0, lines_plain script have.1 shows.1)

scripts_plain : (scripts : List (List ScriptLine)) → AllByRecursion (λ script. AllByRecursion (λ line. HasByteLiterals line.word) script) scripts → AllByRecursion (λ script. AllByRecursion (λ line. ShowsWord line.word) script) scripts
    → AllByRecursion (λ script. AllByRecursion (λ line. BytesWord line.word) script) scripts
scripts_plain [] have shows = tt
scripts_plain (script ∷ scripts) have shows = (lines_plain script have.0 shows.0, scripts_plain scripts have.1 shows.1)

-- *A plan that was read is plain*
pub plan_plain : (bytes : List ℕ) (plan : PlanData) → read bytes ≡ Ok plan → IsAccepted plan → IsRunnable plan → PlainPlan plan
plan_plain bytes plan is accepted runs =
    let texts : HasByteTexts plan = plan_bytes bytes plan is in
    let limits : IsSmallPlan plan = small_plan bytes plan is in
    record {
      tables = tables_plain plan.tables accepted.sound texts.rows texts.defaults;
      starts = starts_small bytes plan is accepted;
      rows = few_plain plan.tables limits.rows;
      scripts = scripts_plain plan.clients texts.literals (scripts_shown bytes plan is);
      map = texts.added;
      columns = columns_plain (new_schema plan).columns runs.fitting.valid.columns texts.altered;
      start = new_start_small bytes plan is accepted;
      client = let a = limits.options.client.1 in omega (arith, a);
      tool = let a = limits.options.tool.1 in omega (arith, a);
    }

-- *A journal that numbers its sessions is short*, where it has no more turns than the plan allows
pub journal_short : (plan : PlanData) (journal : List Entry) → IsSmallPlan plan → IsKept plan journal → NumbersSessions journal → length journal ≤ plan.options.turn_limit → IsShort journal
journal_short plan journal limits kept numbered within =
    let most = limits.options.turns.1 in
    record {
      turns = omega (arith, most, within);
      sessions = All-weaker (λ (entry : Entry). entry.session ≤ length journal) (λ entry. entry.session < 2 ^ 64) (λ entry least. omega (arith, least, most, within)) journal (few_sessions journal kept.sessions numbered).each;
    }

-- ---- each turn

pub record PlainTurn (plan : PlanData) (before : List Entry) (entry : Entry) : Type 0 where
  pub answer : PlainAnswer entry.answer
  pub draw : SmallIf entry.draw
  pub drawn : is_some entry.draw ≡ true → DrawnAnswer (inner_answer (state_at plan before) entry)

pub sessions_front : (front back : List Entry) → AllByRecursion (λ (entry : Entry). entry.session < 2 ^ 64) (front ++ back) → AllByRecursion (λ (entry : Entry). entry.session < 2 ^ 64) front
sessions_front [] back all = tt
sessions_front (entry ∷ front) back all = (all.0, sessions_front front back all.1)

last_session : (front : List Entry) (entry : Entry) (back : List Entry) → AllByRecursion (λ (one : Entry). one.session < 2 ^ 64) (front ++ entry ∷ back) → entry.session < 2 ^ 64
last_session [] entry back all = all.0
last_session (one ∷ front) entry back all = last_session front entry back all.1

module _ (plan : PlanData) (plain : PlainPlan plan) (runs : IsRunnable plan) (serial : IsSerialPlan plan) where
  pub turn_plain : (before : List Entry) (entry : Entry) (later : List Entry) → IsKept plan (before ++ entry ∷ later) → IsShort (before ++ entry ∷ later) → PlainTurn plan before entry
  turn_plain before entry later kept short =
      let whole : IsKept plan ((before ++ entry ∷ []) ++ later) = subst (IsKept plan) (sym (append_assoc before (entry ∷ []) later)) kept in
      let turn : IsKept plan (before ++ entry ∷ []) = kept_front plan (before ++ entry ∷ []) later whole in
      let front : IsKept plan before = kept_front plan before (entry ∷ []) turn in
      let long : length (before ++ entry ∷ later) ≡ length before + length (entry ∷ later) = length-append before (entry ∷ later) in
      let most = short.turns in
      let few : length before + 1 ≤ 2 ^ 31 = omega (arith, long, most) in
      let number : entry.session < 2 ^ 64 = last_session before entry later short.sessions in
      let now : PlainRun plan before = all_plain plan before plain runs serial front (record { turns = omega (arith, few); sessions = sessions_front before (entry ∷ later) short.sessions }) in
      record {
        answer = answer_plain plan plain runs serial before entry turn few number now;
        draw = draw_small plan plain runs serial before entry turn few number now;
        drawn = draw_answers plan plain runs serial before entry turn few number now;
      }

  -- ---- the tables

  abbrev pub ShownTable : TableRows → Type 0
  ShownTable table = AllByRecursion ShownRow table.rows

  shown_found : (found : Option TableRows) → WhereFound PlainTable found → WhereFound IsWellFormedTable found → WhereFound ShownTable found
  shown_found None plain is = tt
  shown_found (Some table) plain is = whole_rows (length table.schema.columns) table.rows (columns_some table is, rows_length table.schema.columns table.rows is.is_table.rows_fit) plain.rows

  pub table_shown : (journal : List Entry) (name : List ℕ) → IsKept plan journal → PlainRun plan journal → WhereFound ShownTable (find_table name (state_at plan journal).tables)
  table_shown journal name kept now =
      shown_found (find_table name (state_at plan journal).tables) (found_plain name (state_at plan journal).tables now.state.tables) ((all_held_well plan journal runs serial kept).serving.well_formed.each name)
