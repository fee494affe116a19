-- A journal in which the RENAME is done once at most, and finds the altered table, is a run of its plan, and serial.
use Rattle.std.proofs.Common.{◌≡◌, ◌≤◌, ◌+◌, ℕ, Bool, true, false, cond, ◌||◌, List, [], ◌∷◌, ◌++◌, Option, Some, None, refl, sym, ap, ◌∙◌, subst, arith}
use Rattle.std.specs.Prelude.{count_by, fold}
use Rattle.std.specs.Option.{option_map}
use Rattle.std.specs.List.{list_any}
use Rattle.std.specs.Str.{bytes_eq}
use Rattle.std.proofs.lemmas.Bool.{true≢false, or_right}
use Rattle.std.proofs.lemmas.List.Sums.{fold-append}
use Rattle.table_store.specs.Databases.{Database, TableRows, find_table, name_table}
use Rattle.table_store.specs.declared.renames.Pair.{Pair}
use Rattle.base_script.specs.declared.actor.Actor.{Actor}
use Rattle.base_script.specs.declared.actor.Actor.TheVariants.{Op, Insp, Copy, Apply, Lock, Ren, Client}
use Rattle.server_model.specs.Along.{Along, Along-keeps, gathered, gathered-more}
use Rattle.server_model.specs.Answers.{ok}
use Rattle.server_model.specs.declared.answer.Answer.{Answer}
use Rattle.server_model.specs.declared.answer.Answer.TheVariants as answers
use Rattle.server_model.specs.declared.entry.Entry.{Entry}
use Rattle.server_model.specs.declared.request.Request.{Request}
use Rattle.server_model.specs.declared.request.Request.TheVariants as requests
use Rattle.server_model.specs.Entries.{is_client}
use Rattle.plan_data.specs.PlanData.{Altered, PlanData}
use Rattle.base_values.specs.ToolNames.{ghost_name, log_name, old_name, is_tool_name}
use Rattle.tool_program.specs.CutoverCore.Attempts.{exchange}
use Rattle.tool_program.specs.JournalWords.AlteredTables.{altered_table, imaged, plan_altered_table}
use Rattle.tool_program.specs.JournalWords.Histories as histories
use Rattle.tool_program.specs.JournalWords.Histories.{Alter, HistoryItem, adds, renames_away, alters, entry_adds, history, is_alter, takes_away, answer_in}
use Rattle.tool_program.specs.JournalWords.Journals.{state_at}
use Rattle.tool_program.specs.Programs.{Follows}
use Rattle.proof_journals.specs.Plans.{IsSerialPlan, KeepsAway, scene_of}
use Rattle.proof_journals.proofs.PlanJournals.{takes_lines, journals_are_serial}
use Rattle.proof_journals.specs.Turns.{IsExchange, RenamesSo}
use Rattle.proof_journals.proofs.Exchanging.{exchange_alters}
use Rattle.proof_journals.proofs.Naming.{migrated_named}
use Rattle.proof_journals.specs.Ghost.Copies.{IsAltered}
use Rattle.proof_migration.specs.Migration.Planning.{migration_of}
use Rattle.run_actors.proofs.AlterTurns.{of_client}
use Rattle.server_model.proofs.LockedRows.Tests.{same_bytes}
use Rattle.proof_journals.specs.Machine.Runnable.{IsRunnable}
use Rattle.proof_journals.proofs.Machine.Journals.{IsRun, all_runs}
use Rattle.proof_migration.specs.ToolPhase.Runnable.{AlterablePlansAreRunnable, IsAlterable}
use Rattle.proof_migration.proofs.ToolPhase.Runnable.Plans.{named}
use Rattle.proof_migration.proofs.ToolPhase.Unaltered.Asking.{exchange_takes}
use Rattle.proof_migration.proofs.ToolPhase.Unaltered.Runs.{none_counted}
use Rattle.proof_migration.proofs.ToolPhase.Unaltered.Away.{IsKnownAsked, about_asked, asked_begins, asked_more, ghost_is_tool, keeps_away_so, tool_adds, tool_not_mine}
use Rattle.proof_migration.specs.ToolPhase.Unaltered.{IsUnaltered}
use Rattle.proof_migration.specs.ToolPhase.Marked.{IsMarkedAt, MarkedJournalsAreRuns, MarkedJournalsAreSerial}

pub old_is_tool : (table : List ℕ) → is_tool_name table (old_name table) ≡ true
old_is_tool table = let name : List ℕ = old_name table in or_right (bytes_eq name (ghost_name table) || bytes_eq name (log_name table)) (bytes_eq name name) (same_bytes name)

-- THE EXCHANGE

module _ (plan : PlanData) (is : IsAlterable plan) (serial : IsSerialPlan plan) (tables : Database) (altered : IsAltered (migration_of is.table.schema is.new) tables) where
  abbrev old_table : TableRows
  old_table = record { schema = is.table.schema; rows = altered.rows }

  abbrev new_table : TableRows
  new_table = record { schema = record (is.new.0) { name = ghost_name is.table.schema.name }; rows = altered.made }

  new_named : is.new.0.name ≡ plan.table
  new_named = is.keeps.name ∙ named plan is

  -- the altered table, under the migrated one's name
  made_is : plan_altered_table plan old_table ≡ Some (name_table plan.table new_table)
  unfolding altered_table
  made_is =
      ap (λ (new : Option Altered). imaged new altered.rows) is.alters ∙ ap (option_map (λ made. record { schema = is.new.0; rows = made })) altered.altered
      ∙ ap (λ (n : List ℕ). Some (record { schema = record (is.new.0) { name = n }; rows = altered.made })) new_named

  exchanged : (pairs : List Pair) → requests.Rename pairs ≡ exchange plan.table → IsExchange (scene_of plan []) tables pairs
  exchanged pairs same = record {
    ghost = ghost_name plan.table;
    kept = old_name plan.table;
    pairs_are = (let one : pairs ≡ record { old = plan.table; new = old_name plan.table } ∷ record { old = ghost_name plan.table; new = plan.table } ∷ [] = cc in one);
    ghost_other = tool_not_mine plan (ghost_name plan.table) serial (ghost_is_tool plan.table);
    kept_other = tool_not_mine plan (old_name plan.table) serial (old_is_tool plan.table);
    old = old_table;
    new = new_table;
    was = ap (λ (n : List ℕ). find_table n tables) (sym (named plan is)) ∙ altered.old;
    stands = ap (λ (n : List ℕ). find_table (ghost_name n) tables) (sym (named plan is)) ∙ altered.new;
    made = made_is;
  }

  pub renames_so : (pairs : List Pair) → requests.Rename pairs ≡ exchange plan.table → RenamesSo (scene_of plan []) tables (Some (requests.Rename pairs))
  renames_so pairs same = exchange_alters (scene_of plan []) tables pairs (migrated_named plan) (exchanged pairs same)

-- ONE TURN

module _ (plan : PlanData) (is : IsAlterable plan) (runs : IsRunnable plan) (serial : IsSerialPlan plan) (journal : List Entry) (entry : Entry) (known : IsKnownAsked plan journal) (run : IsRun plan journal entry)
    (marked : IsMarkedAt plan is journal entry) where
  so_far : (tool : is_client entry.actor ≡ false) (asks : Option Request) → histories.about journal entry ≡ asks → answer_in entry.asked entry.side entry.answer entry.missed ≡ Some ok → RenamesSo (scene_of plan []) (state_at plan journal).tables asks
  so_far tool None about reported = tt
  so_far tool (Some (requests.Rename pairs)) about reported =
      let exchanges : requests.Rename pairs ≡ exchange plan.table = (about_asked plan serial journal entry runs.fitting known run tool (requests.Rename pairs) about).1 in
      renames_so plan is serial (state_at plan journal).tables (marked (alters_here (exchange_takes plan.table pairs exchanges))).1 pairs exchanges where
        alters_here : takes_away plan.table pairs ≡ true → list_any is_alter (entry_adds plan journal entry) ≡ true
        alters_here takes =
            ap (list_any is_alter) (tool_adds plan serial journal entry runs.fitting known run tool entry.actor tool)
            ∙ ap (λ (r : Option Request). list_any is_alter (alters plan r (answer_in entry.asked entry.side entry.answer entry.missed))) about
            ∙ ap (λ (t : Option Answer). list_any is_alter (alters plan (Some (requests.Rename pairs)) t)) reported ∙ ap (λ (b : Bool). list_any is_alter (cond b (Alter ∷ []) [])) takes
  so_far tool (Some request) about reported = tt

  away : KeepsAway plan journal entry entry.actor
  away = keeps_away_so plan serial journal entry runs.fitting known run (λ tool. so_far tool (histories.about journal entry) refl)

-- WHOLE JOURNALS

aways : (plan : PlanData) (is : IsAlterable plan) → IsRunnable plan → IsSerialPlan plan → (before journal : List Entry) → Along (IsRun plan) before journal → IsKnownAsked plan before → Along (IsMarkedAt plan is) before journal → Along (λ some entry. KeepsAway plan some entry entry.actor) before journal
aways plan is runs serial before [] turns known marked = tt
aways plan is runs serial before (entry ∷ journal) turns known marked = (away plan is runs serial before entry known turns.0 marked.0, aways plan is runs serial (before ++ entry ∷ []) journal turns.1 (asked_more plan before entry turns.0 known) marked.1)

-- *Marked journals are runs*
pub marked_runs : AlterablePlansAreRunnable → MarkedJournalsAreRuns
unfolding Follows
marked_runs runnable plan is worded serial journal kept marked =
    let runs : IsRunnable plan = runnable plan is worded in record {
      serial = serial;
      faithful = kept.faithful;
      lines = takes_lines plan journal kept.planned;
      seated = kept.sessions;
      away = aways plan is runs serial [] journal (all_runs plan [] journal kept.faithful kept.follows) (asked_begins plan runs) marked;
    }

-- ONCE AT MOST

alters_once : (plan : PlanData) (request : Option Request) (reported : Option Answer) → count_by is_alter (alters plan request reported) ≤ 1
alters_once plan request (Some (answers.Ok count)) = by (renames_away plan.table request) where
  by : (b : Bool) → count_by is_alter (cond b (Alter ∷ []) []) ≤ 1
  by true = omega arith
  by false = omega arith
alters_once plan request reported = omega arith

adds_once : (plan : PlanData) (before : List Entry) (entry : Entry) (actor : Actor) → count_by is_alter (adds plan before entry actor) ≤ 1
adds_once plan before entry (Client number) = subst (λ (n : ℕ). n ≤ 1) (sym (none_counted (adds plan before entry (Client number)) (of_client plan before entry number))) (omega arith)
adds_once plan before entry Op = alters_once plan (histories.about before entry) (answer_in entry.asked entry.side entry.answer entry.missed)
adds_once plan before entry Insp = alters_once plan (histories.about before entry) (answer_in entry.asked entry.side entry.answer entry.missed)
adds_once plan before entry Copy = alters_once plan (histories.about before entry) (answer_in entry.asked entry.side entry.answer entry.missed)
adds_once plan before entry Apply = alters_once plan (histories.about before entry) (answer_in entry.asked entry.side entry.answer entry.missed)
adds_once plan before entry Lock = alters_once plan (histories.about before entry) (answer_in entry.asked entry.side entry.answer entry.missed)
adds_once plan before entry Ren = alters_once plan (histories.about before entry) (answer_in entry.asked entry.side entry.answer entry.missed)

abbrev counted : ℕ → HistoryItem → ℕ
counted n item = n + cond (is_alter item) 1 0

-- items that are no ALTER count nothing more
none_more : (n : ℕ) (items : List HistoryItem) → list_any is_alter items ≡ false → fold counted n items ≡ n
none_more n [] off = refl
none_more n (item ∷ items) off = by (is_alter item) refl off (λ rest. none_more n items rest) where
  by : (b : Bool) → is_alter item ≡ b → (b || list_any is_alter items) ≡ false → (list_any is_alter items ≡ false → fold counted n items ≡ n) → fold counted (counted n item) items ≡ n
  by true is off others = absurd (true≢false off)
  by false is off others = let same : counted n item ≡ n = ap (λ (b : Bool). n + cond b 1 0) is ∙ omega arith in ap (λ (m : ℕ). fold counted m items) same ∙ others off

history_counts : (plan : PlanData) (before : List Entry) (entry : Entry) → count_by is_alter (history plan (before ++ entry ∷ [])) ≡ fold counted (count_by is_alter (history plan before)) (entry_adds plan before entry)
unfolding history
history_counts plan before entry = ap (count_by is_alter) (gathered-more (entry_adds plan) [] before entry) ∙ fold-append counted 0 (gathered (entry_adds plan) [] before) (entry_adds plan before entry)

pub once_more : (plan : PlanData) (before : List Entry) (entry : Entry) → count_by is_alter (history plan before) ≤ 1 → (list_any is_alter (entry_adds plan before entry) ≡ true → IsUnaltered plan before) → count_by is_alter (history plan (before ++ entry ∷ [])) ≤ 1
once_more plan before entry once marked = subst (λ (n : ℕ). n ≤ 1) (sym (history_counts plan before entry)) (by (list_any is_alter (entry_adds plan before entry)) refl) where
  by : (b : Bool) → list_any is_alter (entry_adds plan before entry) ≡ b → fold counted (count_by is_alter (history plan before)) (entry_adds plan before entry) ≤ 1
  by true is = subst (λ (n : ℕ). fold counted n (entry_adds plan before entry) ≤ 1) (sym (none_counted (history plan before) (marked is))) (adds_once plan before entry entry.actor)
  by false is = subst (λ (n : ℕ). n ≤ 1) (sym (none_more (count_by is_alter (history plan before)) (entry_adds plan before entry) is)) once

pub none_yet : (plan : PlanData) → count_by is_alter (history plan []) ≤ 1
unfolding history
none_yet plan = omega arith

-- ... and serial
pub marked_serial : AlterablePlansAreRunnable → MarkedJournalsAreSerial
marked_serial runnable plan is worded serial journal kept marked =
    journals_are_serial plan journal (marked_runs runnable plan is worded serial journal kept marked)
    (Along-keeps (IsMarkedAt plan is) (λ all. count_by is_alter (history plan all) ≤ 1) (λ all entry at once. once_more plan all entry once (λ alters. (at alters).0)) [] journal marked (none_yet plan))
