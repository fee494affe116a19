-- What transactions that ended one after the other leave of a table: each of their lines adds one row at most, and one event for
-- each row that there may be, and one more.
use Rattle.std.proofs.Common.{◌≡◌, ◌≤◌, ℕ, suc, ◌+◌, ◌*◌, Bool, true, false, cond, ◌||◌, List, [], ◌∷◌, ◌++◌, length, refl, sym, ap, ◌∙◌, subst, arith, append_assoc, append-nil}
use Rattle.std.specs.List.{AllByRecursion}
use Rattle.std.specs.Str.{bytes_eq}
use Rattle.std.proofs.lemmas.List.Sums.{sum_by-cons}
use Rattle.base_values.specs.declared.event.RowEvent.{RowEvent}
use Rattle.table_store.specs.Databases.{Database}
use Rattle.server_model.specs.declared.transaction.TxnLine.{TxnLine}
use Rattle.server_model.specs.Alone.{Ran, alone, line_events, lines_run, nothing_ran, outcome_if, stays}
use Rattle.server_model.specs.LockedRows.Databases.{IsWellFormedDatabase}
use Rattle.server_model.specs.Operations.{after_events}
use Rattle.server_model.specs.States.{is_of}
use Rattle.server_model.proofs.LockedRows.Stables.{after_events-append, one_more}
use Rattle.server_model.proofs.LockedRows.Tests.{are_same}
use Rattle.proof_journals.specs.Ghost.FittingEvents.{EventsFit}
use Rattle.proof_journals.specs.Scenes.{PlainItem, Txn, Alter, Scene, Stored, FoundAlike, Serial, NamesTable, is_mine, logged}
use Rattle.proof_journals.specs.Laws.{IsTxn}
use Rattle.proof_journals.proofs.Bridges.{alike_events, lines_alike}
use Rattle.proof_journals.proofs.Ghost.Fitting.{fit_more, well_formed_events}
use Rattle.proof_journals.proofs.Ghost.Rows.LineEvents.{WritesFew, count_both, count_of, line_rows, line_writes, row_count}

-- LINES OF ONE TRANSACTION

-- what lines wrote fits the tables; so many rows are there with it, and so many events of the table are among it
pub record RunsFew (name : List ℕ) (tables : Database) (seen wrote : ℕ) (writes : List RowEvent) : Type 0 where
  pub fits : EventsFit tables writes
  pub rows : row_count name (after_events tables writes) ≤ seen
  pub events : count_of name writes ≤ wrote

times_suc : (n m : ℕ) → suc n * m ≡ m + n * m
times_suc n m = grind arith

module _ (name : List ℕ) (most : ℕ) where
  -- one line more
  more_few : (tables : Database) (ran : Ran) (line : TxnLine) (rows events : ℕ) → IsWellFormedDatabase tables → rows ≤ most → RunsFew name tables rows events ran.writes → RunsFew name tables (rows + 1) (events + (most + 1)) (one_more tables ran line).writes
  more_few tables ran line rows events is short few =
      let then : Database = after_events tables ran.writes in
      let well : IsWellFormedDatabase then = well_formed_events tables ran.writes is few.fits in
      let wrote : List RowEvent = line_events then line.word line.mark in
      let writes : WritesFew name then wrote = line_writes name then line.word line.mark well in
      let grown = line_rows name then wrote well writes in
      let same : row_count name (after_events tables (ran.writes ++ wrote)) ≡ row_count name (after_events then wrote) = ap (row_count name) (after_events-append tables ran.writes wrote) in
      let counted = count_both name ran.writes wrote in
      let a = few.rows in
      let b = few.events in
      let c = writes.few.events in
      record {
        fits = fit_more tables ran.writes wrote few.fits writes.fits;
        rows = omega (arith, grown, same, a);
        events = omega (arith, counted, a, b, c, short);
      }

  -- all lines
  pub lines_few : (tables : Database) (ran : Ran) (lines : List TxnLine) (rows events : ℕ) → IsWellFormedDatabase tables → rows + length lines ≤ most → RunsFew name tables rows events ran.writes
      → RunsFew name tables (rows + length lines) (events + length lines * (most + 1)) (lines_run tables ran lines).writes
  unfolding lines_run
  lines_few tables ran [] rows events is short few = let a = few.rows in let b = few.events in record { fits = few.fits; rows = omega (arith, a); events = omega (arith, b) }
  lines_few tables ran (line ∷ lines) rows events is short few =
      let rest = lines_few tables (one_more tables ran line) lines (rows + 1) (events + (most + 1)) is (omega (arith, short)) (more_few tables ran line rows events is (omega (arith, short)) few) in
      let a = rest.rows in
      let b = rest.events in
      let c = times_suc (length lines) (most + 1) in
      record { fits = rest.fits; rows = omega (arith, a); events = omega (arith, b, c) }

  -- from none
  pub fresh_few : (tables : Database) (lines : List TxnLine) → IsWellFormedDatabase tables → row_count name tables + length lines ≤ most → RunsFew name tables (row_count name tables + length lines) (length lines * (most + 1)) (lines_run tables nothing_ran lines).writes
  unfolding EventsFit after_events
  fresh_few tables lines is short =
      let none : RunsFew name tables (row_count name tables) 0 [] = record { fits = tt; rows = omega arith; events = omega arith } in
      let all = lines_few tables nothing_ran lines (row_count name tables) 0 is short none in
      let a = all.rows in
      let b = all.events in
      record { fits = all.fits; rows = omega (arith, a); events = omega (arith, b) }

  -- ONE TRANSACTION

  -- what it leaves, and what it committed
  pub record LeavesFew (tables after : Database) (lines : ℕ) (committed : List RowEvent) : Type 0 where
    pub well : IsWellFormedDatabase after
    pub fits : EventsFit tables committed
    pub is : after ≡ after_events tables committed
    pub rows : row_count name after ≤ row_count name tables + lines
    pub events : count_of name committed ≤ lines * (most + 1)

  alone_few : (tables : Database) (lines : List TxnLine) → IsWellFormedDatabase tables → row_count name tables + length lines ≤ most → LeavesFew tables (alone tables lines).tables (length lines) (alone tables lines).committed
  unfolding alone EventsFit after_events
  alone_few tables lines is short = by (stays lines) where
    ran : Ran
    ran = lines_run tables nothing_ran lines

    few : RunsFew name tables (row_count name tables + length lines) (length lines * (most + 1)) ran.writes
    few = fresh_few tables lines is short

    by : (b : Bool) → LeavesFew tables (outcome_if b tables ran).tables (length lines) (outcome_if b tables ran).committed
    by true = record { well = well_formed_events tables ran.writes is few.fits; fits = few.fits; is = refl; rows = few.rows; events = few.events }
    by false = record { well = is; fits = tt; is = refl; rows = omega arith; events = omega arith }

  -- the same transaction on two databases that have the same tables of its names
  alone_alike : (names : List (List ℕ)) (a b : Database) (lines : List TxnLine) → AllByRecursion (λ line. NamesTable names line.word) lines → FoundAlike names a b → FoundAlike names (alone a lines).tables (alone b lines).tables × ((alone a lines).committed ≡ (alone b lines).committed)
  unfolding alone
  alone_alike names a b lines named alike = by (stays lines) where
    same : lines_run a nothing_ran lines ≡ lines_run b nothing_ran lines
    same = lines_alike names a b nothing_ran lines named alike

    by : (kept : Bool) → FoundAlike names (outcome_if kept a (lines_run a nothing_ran lines)).tables (outcome_if kept b (lines_run b nothing_ran lines)).tables × ((outcome_if kept a (lines_run a nothing_ran lines)).committed ≡ (outcome_if kept b (lines_run b nothing_ran lines)).committed)
    by true =
        (subst (λ (r : Ran). FoundAlike names (after_events a (lines_run a nothing_ran lines).writes) (after_events b r.writes)) same (alike_events names a b (lines_run a nothing_ran lines).writes alike), ap (λ (r : Ran). r.writes) same)
    by false = (alike, refl)

-- ALL THAT ENDED

abbrev pub lines_in : PlainItem → ℕ
lines_in (Txn past) = length past.txn.lines
lines_in Alter = 0

-- how many lines the transactions have
unfoldable pub ended_lines : List PlainItem → ℕ
ended_lines [] = 0
ended_lines (item ∷ items) = lines_in item + ended_lines items

-- a database that is well formed and has the same client tables; and what of its table, and of its events in the log, is more
-- than it was
pub record HasGrown (scene : Scene) (name : List ℕ) (most lines had logged : ℕ) (after : Stored) : Type 0 where
  pub tables : Database
  pub well : IsWellFormedDatabase tables
  pub alike : FoundAlike scene.mine tables after.tables
  pub rows : row_count name tables ≤ had + lines
  pub events : count_of name after.log ≤ logged + lines * (most + 1)

alike_then : (names : List (List ℕ)) (a b c : Database) → FoundAlike names a b → FoundAlike names b c → FoundAlike names a c
alike_then names a b c one two = record { each = λ name is. one.each name is ∙ two.each name is }

module _ (scene : Scene) (name : List ℕ) (most : ℕ) where
  pub serial_few : (before after : Stored) (items : List PlainItem) (tables : Database) (rows events : ℕ) → AllByRecursion IsTxn items → Serial scene before items after → IsWellFormedDatabase tables → FoundAlike scene.mine tables before.tables
      → row_count name tables ≤ rows → count_of name before.log ≤ events → rows + ended_lines items ≤ most → HasGrown scene name most (ended_lines items) rows events after
  unfolding ended_lines
  serial_few before after [] tables rows events txns alike is same few counted short =
      let b : count_of name after.log ≤ events = subst (λ (l : List RowEvent). count_of name l ≤ events) alike.log counted in
      record { tables = tables; well = is; alike = alike_then scene.mine tables before.tables after.tables same alike.tables; rows = omega (arith, few); events = omega (arith, b) }
  serial_few before after (Alter ∷ items) tables rows events txns serial is same few counted short = absurd txns.0
  serial_few before after (Txn past ∷ items) tables rows events txns serial is same few counted short =
      let start : Stored = serial.0 in
      let between : Stored = serial.1 in
      let leads = serial.3 in
      let n : ℕ = length past.txn.lines in
      let here : FoundAlike scene.mine tables start.tables = alike_then scene.mine tables before.tables start.tables same serial.2.tables in
      let left : LeavesFew name most tables (alone tables past.txn.lines).tables n (alone tables past.txn.lines).committed = alone_few name most tables past.txn.lines is (omega (arith, few, short)) in
      let both = alone_alike name most scene.mine tables start.tables past.txn.lines leads.3 here in
      let there : FoundAlike scene.mine (alone tables past.txn.lines).tables between.tables = subst (FoundAlike scene.mine (alone tables past.txn.lines).tables) (sym leads.1) both.0 in
      let log : between.log ≡ before.log ++ (alone tables past.txn.lines).committed =
      leads.2 ∙ ap (λ (l : List RowEvent). l ++ (alone start.tables past.txn.lines).committed) (sym serial.2.log) ∙ ap (λ (l : List RowEvent). before.log ++ l) (sym both.1) in
      let a = left.rows in
      let b = left.events in
      let c : count_of name between.log ≡ count_of name before.log + count_of name (alone tables past.txn.lines).committed = ap (count_of name) log ∙ count_both name before.log (alone tables past.txn.lines).committed in
      let rest = serial_few between after items (alone tables past.txn.lines).tables (rows + n) (events + n * (most + 1)) txns.1 serial.4 left.well there (omega (arith, few, a)) (omega (arith, counted, b, c)) (omega (arith, short)) in
      let d = rest.rows in
      let e = rest.events in
      let f = times_both n (ended_lines items) (most + 1) in
      record { tables = rest.tables; well = rest.well; alike = rest.alike; rows = omega (arith, d); events = omega (arith, e, f) } where
        times_both : (a b m : ℕ) → (a + b) * m ≡ a * m + b * m
        times_both a b m = grind arith

-- *What ended leads by events that fit*: they are what is more in the log, and the tables after them are those that are left
pub record LeadsByEvents (scene : Scene) (tables : Database) (before after : Stored) : Type 0 where
  pub more : List RowEvent
  pub log : after.log ≡ before.log ++ more
  pub fits : EventsFit tables more
  pub alike : FoundAlike scene.mine (after_events tables more) after.tables

pub serial_leads : (scene : Scene) (before after : Stored) (items : List PlainItem) (tables : Database) → AllByRecursion IsTxn items → Serial scene before items after → IsWellFormedDatabase tables → FoundAlike scene.mine tables before.tables → LeadsByEvents scene tables before after
unfolding EventsFit after_events
serial_leads scene before after [] tables txns alike is same = record { more = []; log = sym alike.log ∙ sym (append-nil before.log); fits = tt; alike = alike_then scene.mine tables before.tables after.tables same alike.tables }
serial_leads scene before after (Alter ∷ items) tables txns serial is same = absurd txns.0
serial_leads scene before after (Txn past ∷ items) tables txns serial is same =
    let start : Stored = serial.0 in
    let between : Stored = serial.1 in
    let leads = serial.3 in
    let lines : List TxnLine = past.txn.lines in
    let committed : List RowEvent = (alone tables lines).committed in
    let here : FoundAlike scene.mine tables start.tables = alike_then scene.mine tables before.tables start.tables same serial.2.tables in
    let left : LeavesFew scene.migrated (row_count scene.migrated tables + length lines) tables (alone tables lines).tables (length lines) committed = alone_few scene.migrated (row_count scene.migrated tables + length lines) tables lines is (omega arith) in
    let both = alone_alike scene.migrated 0 scene.mine tables start.tables lines leads.3 here in
    let there : FoundAlike scene.mine (alone tables lines).tables between.tables = subst (FoundAlike scene.mine (alone tables lines).tables) (sym leads.1) both.0 in
    let log : between.log ≡ before.log ++ committed = leads.2 ∙ ap (λ (l : List RowEvent). l ++ (alone start.tables lines).committed) (sym serial.2.log) ∙ ap (λ (l : List RowEvent). before.log ++ l) (sym both.1) in
    let rest : LeadsByEvents scene (alone tables lines).tables between after = serial_leads scene between after items (alone tables lines).tables txns.1 serial.4 left.well there in
    record {
      more = committed ++ rest.more;
      log = rest.log ∙ ap (λ (l : List RowEvent). l ++ rest.more) log ∙ append_assoc before.log committed rest.more;
      fits = fit_more tables committed rest.more left.fits (subst (λ (d : Database). EventsFit d rest.more) left.is rest.fits);
      alike = subst (λ (d : Database). FoundAlike scene.mine d after.tables) (ap (λ (d : Database). after_events d rest.more) left.is ∙ sym (after_events-append tables committed rest.more)) rest.alike;
    }

-- THE CLIENTS' PART OF THE LOG

-- the table's events of a log are those of the clients' part of it, where the table is a client's
pub logged_count : (scene : Scene) (name : List ℕ) (log : List RowEvent) → is_mine scene name ≡ true → count_of name (logged scene log) ≡ count_of name log
logged_count scene name [] mine = refl
logged_count scene name (event ∷ log) mine = by (is_mine scene event.table) (bytes_eq event.table name) refl refl (logged_count scene name log mine) where
  counted : (one : RowEvent) (events : List RowEvent) → count_of name (one ∷ events) ≡ cond (bytes_eq one.table name || false) 1 0 + count_of name events
  counted one events = sum_by-cons (λ (e : RowEvent). cond (is_of (name ∷ []) e) 1 0) one events

  by : (own named : Bool) → is_mine scene event.table ≡ own → bytes_eq event.table name ≡ named → count_of name (logged scene log) ≡ count_of name log → count_of name (cond own (event ∷ logged scene log) (logged scene log)) ≡ count_of name (event ∷ log)
  by true named is same rest = counted event (logged scene log) ∙ ap (λ (n : ℕ). cond (bytes_eq event.table name || false) 1 0 + n) rest ∙ sym (counted event log)
  by false true is same rest = absurd (no (sym is ∙ ap (is_mine scene) (are_same event.table name same) ∙ mine)) where
    no : false ≡ true → ⊥
    no both = cc
  by false false is same rest =
      let a : count_of name (event ∷ log) ≡ 0 + count_of name log = counted event log ∙ ap (λ (b : Bool). cond (b || false) 1 0 + count_of name log) same in
      omega (arith, rest, a)
