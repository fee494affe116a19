-- Until the RENAME is done the migrated table has few rows, and few events in the log: what ended leads one transaction at a time
-- from the opening tables on, and all transactions have no more lines than the scripts.
use Rattle.std.proofs.Common.{◌≡◌, ◌≤◌, ℕ, ◌+◌, ◌*◌, true, false, List, [], ◌∷◌, map, length, Option, Some, None, refl, sym, ap, ◌∙◌, subst, arith}
use Rattle.std.specs.Prelude.{option_map, unwrap_or}
use Rattle.std.specs.List.{AllByRecursion, list_any}
use Rattle.std.proofs.lemmas.Bool.{true≢false}
use Rattle.std.proofs.lemmas.Option.{same_Some}
use Rattle.base_values.specs.declared.event.RowEvent.{RowEvent}
use Rattle.base_values.specs.GhoSchema.Rows.{key_places}
use Rattle.table_store.specs.Databases.{TableRows, find_table}
use Rattle.server_model.specs.declared.entry.Entry.{Entry}
use Rattle.plan_data.specs.PlanData.{PlanData}
use Rattle.tool_program.specs.JournalWords.Bounds.{measures, keys}
use Rattle.tool_program.specs.JournalWords.Histories as histories
use Rattle.tool_program.specs.JournalWords.Histories.{HistoryItem, is_alter}
use Rattle.tool_program.specs.JournalWords.Journals.{state_at}
use Rattle.proof_journals.specs.Holdings.{stored}
use Rattle.proof_journals.specs.Laws.{IsTxn}
use Rattle.proof_journals.specs.Machine.Runnable.{IsRunnable}
use Rattle.proof_journals.specs.Plans.{IsSerialPlan, scene_of}
use Rattle.proof_journals.specs.Run.Kept.{IsKept}
use Rattle.proof_journals.specs.Ghost.Rows.Moments.{Row, rows_at}
use Rattle.proof_journals.specs.Scenes.{PlainItem, Scene, Serial, Stored, is_mine, seen}
use Rattle.proof_journals.proofs.Ghost.Fitting.{found_behind}
use Rattle.proof_journals.proofs.Naming.{migrated_named}
use Rattle.proof_journals.proofs.Openings.{opening_well_formed}
use Rattle.proof_journals.proofs.PlanJournals.{PlanHolds, plan_goes}
use Rattle.proof_journals.proofs.Progress.{plain}
use Rattle.proof_migration.specs.ToolPhase.Unaltered.{IsUnaltered}
use Rattle.proof_migration.proofs.ToolPhase.Unaltered.Runs.{unaltered_runs}
use Rattle.proof_journals.specs.Ghost.Rows.Counts.{all_keys, all_put}
use Rattle.proof_journals.proofs.Ghost.Rows.Counts.{keys_those}
use Rattle.proof_bounds.specs.Volumes.Laws.{CommittedRowsAreFew, EventsAreFew}
use Rattle.proof_bounds.proofs.Volumes.Keys.{all_ever, ever_puts, ever_rows, is_in, puts_filtered}
use Rattle.proof_journals.proofs.Ghost.Rows.LineEvents.{count_of, row_count}
use Rattle.proof_bounds.proofs.Volumes.Lines.{all_lines, open_lines}
use Rattle.proof_bounds.proofs.Volumes.Transactions.{HasGrown, LeadsByEvents, ended_lines, logged_count, serial_few, serial_leads}

plain_lines : (items : List HistoryItem) → ended_lines (map plain items) ≡ all_lines items
unfolding ended_lines all_lines
plain_lines [] = refl
plain_lines (histories.Txn past ∷ items) = ap (λ (n : ℕ). length past.txn.lines + n) (plain_lines items)
plain_lines (histories.Alter ∷ items) = ap (λ (n : ℕ). 0 + n) (plain_lines items)

plain_txns : (items : List HistoryItem) → list_any is_alter items ≡ false → AllByRecursion IsTxn (map plain items)
plain_txns [] off = tt
plain_txns (histories.Txn past ∷ items) off = (tt, plain_txns items off)
plain_txns (histories.Alter ∷ items) off = absurd (true≢false off)

opening_rows : (plan : PlanData) → row_count plan.table plan.tables ≡ (measures plan).rows
unfolding measures
opening_rows plan = by (find_table plan.table plan.tables) where
  by : (found : Option TableRows) → length (unwrap_or (option_map (λ (table : TableRows). table.rows) found) []) ≡ unwrap_or (option_map (λ (table : TableRows). length table.rows) found) 0
  by None = refl
  by (Some table) = refl

module _ (plan : PlanData) (journal : List Entry) (runs : IsRunnable plan) (serial : IsSerialPlan plan) (kept : IsKept plan journal) (off : IsUnaltered plan journal) where
  abbrev scene : Scene
  scene = scene_of plan journal

  abbrev now : Stored
  now = stored (state_at plan journal)

  abbrev ended : List HistoryItem
  ended = histories.history plan journal

  pub holds : PlanHolds plan journal journal
  holds = (plan_goes plan journal (unaltered_runs plan journal runs serial kept off)).0

  serial_is : Serial scene (record { tables = plan.tables; log = [] }) (map plain ended) (seen scene now)
  serial_is = subst (λ (items : List PlainItem). Serial scene (record { tables = plan.tables; log = [] }) items (seen scene now)) holds.linked.items holds.holds.holds.kept.serial

  few_lines : ended_lines (map plain ended) ≤ (measures plan).lines
  few_lines = let a = open_lines plan journal 0 in let b = plain_lines ended in omega (arith, a, b)

  pub grown : HasGrown scene plan.table (keys (measures plan)) (ended_lines (map plain ended)) (measures plan).rows 0 (seen scene now)
  grown =
      let a = few_lines in
      let b = opening_rows plan in
      serial_few scene plan.table (keys (measures plan)) (record { tables = plan.tables; log = [] }) (seen scene now) (map plain ended) plan.tables (measures plan).rows 0 (plain_txns ended off) serial_is (opening_well_formed plan.tables serial.tables) (record { each = λ name is. refl })
      (omega (arith, b)) (omega arith) (omega (arith, a))

  -- the committed rows, so far
  pub committed_rows : row_count plan.table (state_at plan journal).tables ≤ (measures plan).rows + all_lines ended
  committed_rows =
      let a = grown.rows in
      let b = plain_lines ended in
      let same : row_count plan.table grown.tables ≡ row_count plan.table (state_at plan journal).tables = ap (λ (o : Option TableRows). length (unwrap_or (option_map (λ (table : TableRows). table.rows) o) [])) (grown.alike.each plan.table (migrated_named plan)) in
      omega (arith, a, b, same)

  logged_events : count_of plan.table (state_at plan journal).log ≤ (measures plan).lines * (keys (measures plan) + 1)
  logged_events =
      let a = grown.events in
      let b = logged_count scene plan.table (state_at plan journal).log (migrated_named plan) in
      join (count_of plan.table (state_at plan journal).log) (ended_lines (map plain ended)) (measures plan).lines (keys (measures plan) + 1) (subst (λ (n : ℕ). n ≤ 0 + ended_lines (map plain ended) * (keys (measures plan) + 1)) b a) few_lines where
        join : (n few most m : ℕ) → n ≤ 0 + few * m → few ≤ most → n ≤ most * m
        join n few most m less more = grind (arith, less, more)

  leads : LeadsByEvents scene plan.tables (record { tables = plan.tables; log = [] }) (seen scene now)
  leads = serial_leads scene (record { tables = plan.tables; log = [] }) (seen scene now) (map plain ended) plan.tables (plain_txns ended off) serial_is (opening_well_formed plan.tables serial.tables) (record { each = λ name is. refl })

  -- each committed row's key is one that the table ever had
  pub keys_known : (opened table : TableRows) → find_table plan.table plan.tables ≡ Some opened → find_table plan.table (state_at plan journal).tables ≡ Some table
      → all_keys (is_in (all_ever plan.table (key_places opened.schema) opened.rows (state_at plan journal).log)) (key_places table.schema) table.rows ≡ true
  keys_known opened table found is =
      subst (λ (t : TableRows). all_keys (is_in keys_ever) (key_places t.schema) t.rows ≡ true) same
      (keys_those (is_in keys_ever) plan.table (key_places opened.schema) opened.rows leads.more (ever_rows plan.table (key_places opened.schema) opened.rows (state_at plan journal).log)
      (subst (λ (l : List RowEvent). all_put (is_in keys_ever) plan.table (key_places opened.schema) l ≡ true) leads.log
      (puts_filtered (is_in keys_ever) plan.table (key_places opened.schema) (λ event. is_mine scene event.table) (state_at plan journal).log (ever_puts plan.table (key_places opened.schema) opened.rows (state_at plan journal).log)))) where
        keys_ever : List Row
        keys_ever = all_ever plan.table (key_places opened.schema) opened.rows (state_at plan journal).log

        same : record { schema = opened.schema; rows = rows_at plan.table (key_places opened.schema) opened.rows leads.more (length leads.more) } ≡ table
        same =
            same_Some (record { schema = opened.schema; rows = rows_at plan.table (key_places opened.schema) opened.rows leads.more (length leads.more) }) table
            (sym (found_behind plan.table leads.more plan.tables opened (opening_well_formed plan.tables serial.tables) leads.fits found) ∙ leads.alike.each plan.table (migrated_named plan) ∙ is)

-- *Rows are few*
pub committed_few : CommittedRowsAreFew
committed_few plan journal runs serial kept off =
    let a = committed_rows plan journal runs serial kept off in
    let b = open_lines plan journal 0 in
    omega (arith, a, b)

-- *Events are few*
pub events_few : EventsAreFew
events_few plan journal runs serial kept off = join (count_of plan.table (state_at plan journal).log) (measures plan).lines (keys (measures plan)) (logged_events plan journal runs serial kept off) where
  join : (n lines most : ℕ) → n ≤ lines * (most + 1) → n ≤ lines * (most + 9)
  join n lines most less = grind (arith, less)
