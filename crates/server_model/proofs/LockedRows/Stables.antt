-- What keeps a transaction stable: its own next line, another session's commit; and what it is at its end.
use Rattle.std.proofs.Common.{◌≡◌, ℕ, Bool, true, false, List, [], ◌∷◌, ◌++◌, Option, Some, None, refl, ap, ◌∙◌, subst}
use Rattle.std.specs.List.{list_any}
use Rattle.std.specs.Str.{bytes_eq}
use Rattle.base_values.specs.declared.event.RowEvent.{RowEvent}
use Rattle.base_values.specs.declared.event.Change.{Change}
use Rattle.base_values.specs.GhoSchema.Rows.{key_places}
use Rattle.server_locks.specs.declared.row_locks.lock.Lock.{Lock}
use Rattle.table_store.specs.Databases.{TableRows, Database, find_table, with_change}
use Rattle.base_script.specs.declared.script.ScriptWord.{ScriptWord}
use Rattle.base_script.specs.declared.script.ScriptWord.TheVariants as words
use Rattle.base_script.specs.declared.statement.Statement.{Statement}
use Rattle.server_model.specs.declared.transaction.Mark.{Mark}
use Rattle.server_model.specs.declared.transaction.Mark.TheVariants as marks
use Rattle.base_script.specs.declared.actor.Side.TheVariants.{Before, After}
use Rattle.server_model.specs.declared.transaction.TxnLine.{TxnLine}
use Rattle.server_model.specs.declared.work.StatementResult.{StatementResult}
use Rattle.std.specs.Option.{option_to_list}
use Rattle.server_model.specs.Alone.{reply_of}
use Rattle.server_model.specs.Rows.{change_all}
use Rattle.server_model.specs.LockedRows.Agreement.{TablesAgree, Agree, Within}
use Rattle.server_model.specs.LockedRows.Coverage.{IsWellFormedTable, IsSound, RowsCovered, rows_of, Apart}
use Rattle.server_model.specs.LockedRows.Databases.{TaskSound, WhereFound, IsWellFormedDatabase, ChangeCovered, EventCovered, EventsCovered}
use Rattle.server_model.specs.Operations.{table_of, operation_of, statement_result, row_needs, change_table, after_events}
use Rattle.server_model.specs.Alone.{line_says, line_events, line_replies, Ran, lines_run, nothing_ran}
use Rattle.server_model.specs.LockedRows.Laws.{StatementsKeepDatabases}
use Rattle.server_model.specs.LockedRows.Stability.{RunSo, Stable}
use Rattle.server_model.proofs.LockedRows.Covers.{others_kept}
use Rattle.server_model.proofs.LockedRows.Sound.{work_sound}
use Rattle.server_model.proofs.LockedRows.Finding.{NamesWithin, change_if, found_after, agree_events, agree_itself, agree_then, agree_within, says_alike, says_well_formed, says_covered, rows_more}
use Rattle.server_model.proofs.LockedRows.Tests.{are_same}

-- one line more
abbrev pub one_more : Database → Ran → TxnLine → Ran
one_more tables ran line = record { replies = ran.replies ++ line_replies (after_events tables ran.writes) line.word line.mark; writes = ran.writes ++ line_events (after_events tables ran.writes) line.word line.mark }

pub lines_run-more : (tables : Database) (ran : Ran) (lines : List TxnLine) (line : TxnLine) → lines_run tables ran (lines ++ line ∷ []) ≡ one_more tables (lines_run tables ran lines) line
unfolding lines_run
lines_run-more tables ran [] line = refl
lines_run-more tables ran (first ∷ lines) line = lines_run-more tables (one_more tables ran first) lines line

pub after_events-append : (tables : Database) (a b : List RowEvent) → after_events tables (a ++ b) ≡ after_events (after_events tables a) b
unfolding after_events
after_events-append tables [] b = refl
after_events-append tables (event ∷ a) b = after_events-append (with_change event.table (change_table event.change) tables) a b

-- the own next line, where what it says and writes is the same on both
pub more_alike : (one two : Database) (word : ScriptWord) (mark : Mark) (ran : Ran) → line_says (after_events one ran.writes) word ≡ line_says (after_events two ran.writes) word → one_more one ran (record { word = word; mark = mark }) ≡ one_more two ran (record { word = word; mark = mark })
more_alike one two word marks.Answered ran same = ap (λ (s : StatementResult). let r : Ran = record { replies = ran.replies ++ option_to_list (reply_of s.answer); writes = ran.writes ++ s.events } in r) same
more_alike one two word marks.TimedOut ran same = refl
more_alike one two word (marks.Lost Before) ran same = refl
more_alike one two word (marks.Lost After) ran same = ap (λ (s : StatementResult). let r : Ran = record { replies = ran.replies ++ []; writes = ran.writes ++ s.events } in r) same

-- a statement's work is sound
sound_in : (statement : Statement) (found : Option TableRows) → WhereFound IsWellFormedTable found → WhereFound (λ table. IsSound table.schema.columns ((operation_of statement).work table.schema)) found
sound_in statement None is = tt
sound_in statement (Some table) is = work_sound table.schema statement is.defaults

pub statement_sound : (tables : Database) (statement : Statement) → IsWellFormedDatabase tables → TaskSound (operation_of statement) tables
statement_sound tables statement is = sound_in statement (find_table (table_of statement) tables) (is.each (table_of statement))

-- *Statements keep databases*
pub statements_keep : StatementsKeepDatabases
statements_keep tables statement is = says_well_formed tables (operation_of statement) (statement_sound tables statement is) is

-- what a line leaves is orderly
line_well_formed : (tables : Database) (word : ScriptWord) (mark : Mark) → IsWellFormedDatabase tables → IsWellFormedDatabase (after_events tables (line_events tables word mark))
unfolding after_events
line_well_formed tables (words.Do statement) marks.Answered is = statements_keep tables statement is
line_well_formed tables (words.Do statement) (marks.Lost After) is = statements_keep tables statement is
line_well_formed tables (words.Do statement) (marks.Lost Before) is = is
line_well_formed tables (words.Do statement) marks.TimedOut is = is
line_well_formed tables words.Begin marks.Answered is = is
line_well_formed tables words.Begin marks.TimedOut is = is
line_well_formed tables words.Begin (marks.Lost Before) is = is
line_well_formed tables words.Begin (marks.Lost After) is = is
line_well_formed tables words.Commit marks.Answered is = is
line_well_formed tables words.Commit marks.TimedOut is = is
line_well_formed tables words.Commit (marks.Lost Before) is = is
line_well_formed tables words.Commit (marks.Lost After) is = is
line_well_formed tables words.Rollback marks.Answered is = is
line_well_formed tables words.Rollback marks.TimedOut is = is
line_well_formed tables words.Rollback (marks.Lost Before) is = is
line_well_formed tables words.Rollback (marks.Lost After) is = is

-- a line more, where each database that agrees under the larger names and locks gives the same line
pub stable_more : (names more : List (List ℕ)) (locks all : List Lock) (lines : List TxnLine) (ran : Ran) (tables : Database) (word : ScriptWord) (mark : Mark) → Stable names locks lines ran tables → NamesWithin names more → Within locks all
    → ((other : Database) → IsWellFormedDatabase (after_events other ran.writes) → Agree more all tables other → one_more tables ran (record { word = word; mark = mark }) ≡ one_more other ran (record { word = word; mark = mark }))
    → Stable more all (lines ++ record { word = word; mark = mark } ∷ []) (one_more tables ran (record { word = word; mark = mark })) tables
stable_more names more locks all lines ran tables word mark stable named within alike = record {
  each = λ other is agree.
      let there : RunSo lines ran other = stable.each other is (agree_within names more locks all tables other named within agree) in
      let same : one_more tables ran (record { word = word; mark = mark }) ≡ one_more other ran (record { word = word; mark = mark }) = alike other there.well_formed agree in
      rw same (record {
        runs = lines_run-more other nothing_ran lines (record { word = word; mark = mark }) ∙ ap (λ (r : Ran). one_more other r (record { word = word; mark = mark })) there.runs;
        well_formed = rw (after_events-append other ran.writes (line_events (after_events other ran.writes) word mark)) (line_well_formed (after_events other ran.writes) word mark there.well_formed);
      });
}

-- the own next statement, with the locks that it needs
pub stable_statement : (names more : List (List ℕ)) (locks all : List Lock) (lines : List TxnLine) (ran : Ran) (tables : Database) (statement : Statement) (mark : Mark) → Stable names locks lines ran tables → IsWellFormedDatabase tables
    → NamesWithin names more → Within locks all → list_any (bytes_eq (table_of statement)) more ≡ true → Within (row_needs (after_events tables ran.writes) statement) all
    → Stable more all (lines ++ record { word = words.Do statement; mark = mark } ∷ []) (one_more tables ran (record { word = words.Do statement; mark = mark })) tables
stable_statement names more locks all lines ran tables statement mark stable well_formed named within mine needed =
    let here : RunSo lines ran tables = stable.each tables well_formed (agree_itself names locks tables) in
    stable_more names more locks all lines ran tables (words.Do statement) mark stable named within
    (λ other is agree. more_alike tables other (words.Do statement) mark ran (says_alike more all (after_events tables ran.writes) (after_events other ran.writes) (operation_of statement) (agree_events more all tables other ran.writes agree) mine needed here.well_formed is).said)

-- a line that says nothing of the tables: BEGIN
pub stable_begin : (tables : Database) → IsWellFormedDatabase tables → Stable [] [] [] nothing_ran tables
unfolding lines_run after_events
stable_begin tables is = record { each = λ other well_formed agree. record { runs = refl; well_formed = well_formed } }

-- another session's commit, or whatever leaves the rows under the locks
pub stable_others : (names : List (List ℕ)) (locks : List Lock) (lines : List TxnLine) (ran : Ran) (before after : Database) → Agree names locks before after → Stable names locks lines ran before → Stable names locks lines ran after
stable_others names locks lines ran before after kept stable = record { each = λ other is agree. stable.each other is (agree_then names locks before after other kept agree) }

-- at the end the committed tables themselves agree
pub stable_end : (names : List (List ℕ)) (locks : List Lock) (lines : List TxnLine) (ran : Ran) (tables : Database) → IsWellFormedDatabase tables → Stable names locks lines ran tables → RunSo lines ran tables
stable_end names locks lines ran tables is stable = stable.each tables is (agree_itself names locks tables)

-- coverage speaks of schemas alone, which changes keep
covered_schema : (locks : List Lock) (change other : Change) (b : Bool) (found : Option TableRows) → WhereFound (ChangeCovered locks change) found → WhereFound (ChangeCovered locks change) (change_if b other found)
covered_schema locks change other true None covered = tt
covered_schema locks change other true (Some x) covered = covered
covered_schema locks change other false found covered = covered

covered_back : (locks : List Lock) (change other : Change) (b : Bool) (found : Option TableRows) → WhereFound (ChangeCovered locks change) (change_if b other found) → WhereFound (ChangeCovered locks change) found
covered_back locks change other true None covered = tt
covered_back locks change other true (Some x) covered = covered
covered_back locks change other false found covered = covered

pub covered_after : (names : List (List ℕ)) (locks : List Lock) (tables : Database) (event : RowEvent) (events : List RowEvent) → EventsCovered names locks tables events → EventsCovered names locks (with_change event.table (change_table event.change) tables) events
covered_after names locks tables event [] covered = tt
covered_after names locks tables event (first ∷ events) covered = (
  record { named = covered.0.named; covered = rw (found_after event.table first.table event.change tables) (covered_schema locks first.change event.change (bytes_eq event.table first.table) (find_table first.table tables) covered.0.covered) },
  covered_after names locks tables event events covered.1,
)

covered_before_one : (names : List (List ℕ)) (locks : List Lock) (tables : Database) (event : RowEvent) (events : List RowEvent) → EventsCovered names locks (with_change event.table (change_table event.change) tables) events → EventsCovered names locks tables events
covered_before_one names locks tables event [] covered = tt
covered_before_one names locks tables event (first ∷ events) covered = (
  record { named = covered.0.named; covered = covered_back locks first.change event.change (bytes_eq event.table first.table) (find_table first.table tables) (rw (found_after event.table first.table event.change tables) at covered.0.covered) },
  covered_before_one names locks tables event events covered.1,
)

pub covered_before : (names : List (List ℕ)) (locks : List Lock) (tables : Database) (writes events : List RowEvent) → EventsCovered names locks (after_events tables writes) events → EventsCovered names locks tables events
unfolding after_events
covered_before names locks tables [] events covered = covered
covered_before names locks tables (event ∷ writes) events covered = covered_before_one names locks tables event events (covered_before names locks (with_change event.table (change_table event.change) tables) writes events covered)

-- where the tables agree, coverage stays
covered_alike : (locks held : List Lock) (change : Change) (one two : Option TableRows) → TablesAgree held one two → WhereFound (ChangeCovered locks change) one → WhereFound (ChangeCovered locks change) two
covered_alike locks held change None None agree covered = tt
covered_alike locks held change None (Some y) agree covered = absurd agree
covered_alike locks held change (Some x) None agree covered = absurd agree
covered_alike locks held change (Some x) (Some y) agree covered = subst (λ (s : _). RowsCovered s locks (rows_of change)) agree.0 covered

pub covered_others : (names : List (List ℕ)) (locks : List Lock) (before after : Database) (events : List RowEvent) → Agree names locks before after → EventsCovered names locks before events → EventsCovered names locks after events
covered_others names locks before after [] agree covered = tt
covered_others names locks before after (first ∷ events) agree covered = (
  record { named = covered.0.named; covered = covered_alike locks locks first.change (find_table first.table before) (find_table first.table after) (agree.tables first.table covered.0.named) covered.0.covered },
  covered_others names locks before after events agree covered.1,
)

-- more names and locks cover as well
covered_with : (some all : List Lock) (change : Change) (found : Option TableRows) → Within some all → WhereFound (ChangeCovered some change) found → WhereFound (ChangeCovered all change) found
covered_with some all change None within covered = tt
covered_with some all change (Some x) within covered = rows_more x.schema some all (rows_of change) within covered

pub covered_more : (names more : List (List ℕ)) (some all : List Lock) (tables : Database) (events : List RowEvent) → NamesWithin names more → Within some all → EventsCovered names some tables events → EventsCovered more all tables events
covered_more names more some all tables [] named within covered = tt
covered_more names more some all tables (first ∷ events) named within covered =
    (record { named = named first.table covered.0.named; covered = covered_with some all first.change (find_table first.table tables) within covered.0.covered }, covered_more names more some all tables events named within covered.1)

pub covered_both : (names : List (List ℕ)) (locks : List Lock) (tables : Database) (a b : List RowEvent) → EventsCovered names locks tables a → EventsCovered names locks tables b → EventsCovered names locks tables (a ++ b)
covered_both names locks tables [] b one two = two
covered_both names locks tables (x ∷ a) b one two = (one.0, covered_both names locks tables a b one.1 two)

-- the own next statement's writes are covered
pub covered_statement : (names more : List (List ℕ)) (locks all : List Lock) (writes : List RowEvent) (tables : Database) (statement : Statement) → EventsCovered names locks tables writes → NamesWithin names more → Within locks all
    → list_any (bytes_eq (table_of statement)) more ≡ true → Within (row_needs (after_events tables writes) statement) all → EventsCovered more all tables (writes ++ (statement_result (after_events tables writes) statement).events)
covered_statement names more locks all writes tables statement covered named within mine needed =
    covered_both more all tables writes (statement_result (after_events tables writes) statement).events (covered_more names more locks all tables writes named within covered)
    (covered_before more all tables writes (statement_result (after_events tables writes) statement).events (says_covered more all (after_events tables writes) (operation_of statement) mine needed))

-- what one session commits changes no row under another's locks
tables_others : (own others : List Lock) (change : Change) (b : Bool) (found : Option TableRows) → Apart own others → (b ≡ true → WhereFound (ChangeCovered own change) found) → TablesAgree others found (change_if b change found)
unfolding change_all
tables_others own others change true None apart covered = tt
tables_others own others change true (Some x) apart covered = (refl, others_kept x.schema (key_places x.schema) own others (change ∷ []) x.rows apart (covered refl, tt))
tables_others own others change false None apart covered = tt
tables_others own others change false (Some x) apart covered = (refl, λ row is. refl)

one_other : (names mine : List (List ℕ)) (own others : List Lock) (tables : Database) (event : RowEvent) → Apart own others → EventCovered mine own tables event → Agree names others tables (with_change event.table (change_table event.change) tables)
one_other names mine own others tables event apart covered = record {
  tables = λ name named. rw (found_after event.table name event.change tables)
      (tables_others own others event.change (bytes_eq event.table name) (find_table name tables) apart (λ is. subst (λ (n : List ℕ). WhereFound (ChangeCovered own event.change) (find_table n tables)) (are_same event.table name is) covered.covered));
}

pub others_agree : (names mine : List (List ℕ)) (own others : List Lock) (tables : Database) (events : List RowEvent) → Apart own others → EventsCovered mine own tables events → Agree names others tables (after_events tables events)
unfolding after_events
others_agree names mine own others tables [] apart covered = agree_itself names others tables
others_agree names mine own others tables (event ∷ events) apart covered =
    agree_then names others tables (with_change event.table (change_table event.change) tables) (after_events (with_change event.table (change_table event.change) tables) events)
    (one_other names mine own others tables event apart covered.0)
    (others_agree names mine own others (with_change event.table (change_table event.change) tables) events apart (covered_after mine own tables event events covered.1))
