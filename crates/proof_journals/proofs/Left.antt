-- The client tables that are left: transactions and the ALTER lead from the ones to the others.
use Rattle.std.proofs.Common.{◌≡◌, ℕ, Bool, true, false, ◌||◌, List, [], ◌∷◌, ◌++◌, cond, Option, Some, None, refl, sym, ap, ◌∙◌, subst}
use Rattle.std.proofs.lemmas.Bool.{false≢true, true≢false, or_right}
use Rattle.std.specs.List.{AllByRecursion, list_any}
use Rattle.std.specs.Option.{option_to_list}
use Rattle.std.specs.Str.{bytes_eq}
use Rattle.std.proofs.lemmas.Cmp.{nat_list_eq_equiv}
use Rattle.base_values.specs.declared.event.RowEvent.{RowEvent}
use Rattle.base_values.specs.declared.event.Change.{Change}
use Rattle.table_store.specs.Databases.{TableRows, Database, find_table, is_named, with_change}
use Rattle.server_model.specs.Alone.{stays, Ran, lines_run, nothing_ran, outcome_if, alone}
use Rattle.server_model.specs.Operations.{after_events, change_table}
use Rattle.proof_journals.specs.Scenes.{Past, PlainItem, Txn, Alter, Stored, Scene, is_mine, FoundAlike, AltersTo, Leads, Serial, tables_left, LeadsTo, SerialHistory}
use Rattle.proof_journals.specs.Laws.{IsTxn}
use Rattle.server_model.proofs.LockedRows.Finding.{found_after, change_if}
use Rattle.proof_journals.proofs.Bridges.{lines_alike}
use Rattle.server_model.proofs.LockedRows.Tests.{same_bytes, are_same, turned_bytes}

-- a table that is found has the name
found_named : (name : List ℕ) (tables : Database) (table : TableRows) → find_table name tables ≡ Some table → bytes_eq table.schema.name name ≡ true
found_named name [] table is = absurd (cc)
found_named name (first ∷ tables) table is = at (is_named name first) refl is (found_named name tables table) where
  at : (b : Bool) → is_named name first ≡ b → cond b (Some first) (find_table name tables) ≡ Some table → (find_table name tables ≡ Some table → bytes_eq table.schema.name name ≡ true) → bytes_eq table.schema.name name ≡ true
  at true here is rest = let same : first ≡ table = cc in subst (λ (t : TableRows). bytes_eq t.schema.name name ≡ true) same here
  at false here is rest = rest is

-- what is found among those that are left
abbrev pub where_among : Bool → Option TableRows → Option TableRows
where_among true found = found
where_among false found = None

none_among : (b : Bool) → None ≡ where_among b None
none_among true = refl
none_among false = refl

found_left : (names : List (List ℕ)) (name : List ℕ) (tables : Database) → find_table name (tables_left names tables) ≡ where_among (list_any (bytes_eq name) names) (find_table name tables)
unfolding tables_left
found_left [] name tables = refl
found_left (first ∷ names) name tables = at (bytes_eq name first) (find_table first tables) refl refl (found_left names name tables) where
  at : (b : Bool) (found : Option TableRows) → bytes_eq name first ≡ b → find_table first tables ≡ found → find_table name (tables_left names tables) ≡ where_among (list_any (bytes_eq name) names) (find_table name tables)
      → find_table name (option_to_list found ++ tables_left names tables) ≡ where_among (b || list_any (bytes_eq name) names) (find_table name tables)
  at true None same is rest =
      let none : find_table name tables ≡ None = ap (λ (n : List ℕ). find_table n tables) (are_same name first same) ∙ is in
      rest ∙ ap (where_among (list_any (bytes_eq name) names)) none ∙ sym (none_among (list_any (bytes_eq name) names)) ∙ sym none
  at true (Some table) same is rest =
      let here : is_named name table ≡ true = ap (bytes_eq table.schema.name) (are_same name first same) ∙ found_named first tables table is in
      rw here (sym (ap (λ (n : List ℕ). find_table n tables) (are_same name first same) ∙ is))
  at false None same is rest = rest
  at false (Some table) same is rest =
      let off : is_named name table ≡ false = ap (λ (n : List ℕ). bytes_eq n name) (are_same table.schema.name first (found_named first tables table is)) ∙ turned_bytes name first same in
      rw off rest

-- the same client tables are left
left_same : (names some : List (List ℕ)) (a b : Database) → ((name : List ℕ) → list_any (bytes_eq name) some ≡ true → list_any (bytes_eq name) names ≡ true) → FoundAlike names a b → tables_left some a ≡ tables_left some b
unfolding tables_left
left_same names [] a b within alike = refl
left_same names (first ∷ some) a b within alike =
    let here : find_table first a ≡ find_table first b = alike.each first (within first (or_here (list_any (bytes_eq first) some) (same_bytes first))) in
    let rest : tables_left some a ≡ tables_left some b = left_same names some a b (λ name is. within name (or_right (bytes_eq name first) _ is)) alike in
    ap (λ (found : Option TableRows). option_to_list found ++ tables_left some a) here ∙ ap (λ (more : Database). option_to_list (find_table first b) ++ more) rest where
      or_here : (more : Bool) → bytes_eq first first ≡ true → (bytes_eq first first || more) ≡ true
      or_here more is = rw is refl

pub left_alike : (scene : Scene) (a b : Database) → FoundAlike scene.mine a b → tables_left scene.mine a ≡ tables_left scene.mine b
left_alike scene a b alike = left_same scene.mine scene.mine a b (λ name is. is) alike

-- the client tables are found among those that are left
pub left_found : (scene : Scene) (tables : Database) → FoundAlike scene.mine tables (tables_left scene.mine tables)
left_found scene tables = record { each = λ name is. sym (found_left scene.mine name tables ∙ ap (λ (b : Bool). where_among b (find_table name tables)) is) }

-- a change of a table, before and after the others are left out
change_left : (names : List (List ℕ)) (event : List ℕ) (change : Change) (tables : Database) → tables_left names (with_change event (change_table change) tables) ≡ with_change event (change_table change) (tables_left names tables)
unfolding tables_left
change_left [] event change tables = refl
change_left (first ∷ names) event change tables =
    ap (λ (found : Option TableRows). option_to_list found ++ tables_left names (with_change event (change_table change) tables)) (found_after event first change tables)
    ∙ ap (λ (more : Database). option_to_list (change_if (bytes_eq event first) change (find_table first tables)) ++ more) (change_left names event change tables)
    ∙ at (find_table first tables) refl where
      none : (b : Bool) → change_if b change None ≡ None
      none true = refl
      none false = refl

      by : (table : TableRows) (b c : Bool) → b ≡ c → option_to_list (change_if b change (Some table)) ++ with_change event (change_table change) (tables_left names tables) ≡ cond c (change_table change table) table ∷ with_change event (change_table change) (tables_left names tables)
      by table true true is = refl
      by table false false is = refl
      by table true false is = absurd (true≢false is)
      by table false true is = absurd (false≢true is)

      both : (table : TableRows) → find_table first tables ≡ Some table → bytes_eq event first ≡ is_named event table
      both table is = nat_list_eq_equiv.symm event first ∙ ap (λ (n : List ℕ). bytes_eq n event) (sym (are_same table.schema.name first (found_named first tables table is)))

      at : (found : Option TableRows) → find_table first tables ≡ found → option_to_list (change_if (bytes_eq event first) change found) ++ with_change event (change_table change) (tables_left names tables) ≡ with_change event (change_table change) (option_to_list found ++ tables_left names tables)
      at None is = ap (λ (o : Option TableRows). option_to_list o ++ with_change event (change_table change) (tables_left names tables)) (none (bytes_eq event first))
      at (Some table) is = by table (bytes_eq event first) (is_named event table) (both table is)

events_left : (names : List (List ℕ)) (events : List RowEvent) (tables : Database) → tables_left names (after_events tables events) ≡ after_events (tables_left names tables) events
unfolding after_events
events_left names [] tables = refl
events_left names (event ∷ events) tables = events_left names events (with_change event.table (change_table event.change) tables) ∙ ap (λ (d : Database). after_events d events) (change_left names event.table event.change tables)

-- a transaction alone, on the client tables that are left
outcome_left : (names : List (List ℕ)) (b : Bool) (tables : Database) (ran : Ran) → (outcome_if b (tables_left names tables) ran).tables ≡ tables_left names (outcome_if b tables ran).tables
outcome_left names true tables ran = sym (events_left names ran.writes tables)
outcome_left names false tables ran = refl

outcome_same : (b : Bool) (one two : Database) (ran : Ran) → ((outcome_if b one ran).replies ≡ (outcome_if b two ran).replies) × ((outcome_if b one ran).committed ≡ (outcome_if b two ran).committed)
outcome_same true one two ran = (refl, refl)
outcome_same false one two ran = (refl, refl)

txn_left : (scene : Scene) (past : Past) (before after : Stored) → Leads scene (Txn past) before after → LeadsTo scene (Txn past) (record { tables = tables_left scene.mine before.tables; log = before.log }) (record { tables = tables_left scene.mine after.tables; log = after.log })
unfolding alone
txn_left scene past before after leads =
    let b : Bool = stays past.txn.lines in
    let ran : Ran = lines_run before.tables nothing_ran past.txn.lines in
    let same : ran ≡ lines_run (tables_left scene.mine before.tables) nothing_ran past.txn.lines = lines_alike scene.mine before.tables (tables_left scene.mine before.tables) nothing_ran past.txn.lines leads.3 (left_found scene before.tables) in
    let both = outcome_same b before.tables (tables_left scene.mine before.tables) ran in
    subst (λ (r : Ran). (past.replies ≡ (outcome_if b (tables_left scene.mine before.tables) r).replies) × (tables_left scene.mine after.tables ≡ (outcome_if b (tables_left scene.mine before.tables) r).tables) × (after.log ≡ before.log ++ (outcome_if b (tables_left scene.mine before.tables) r).committed)) same
    (leads.0 ∙ both.0, ap (tables_left scene.mine) leads.1 ∙ sym (outcome_left scene.mine b before.tables ran), leads.2 ∙ ap (λ (c : List RowEvent). before.log ++ c) both.1)

-- the migrated table is altered, among those that are left
alter_each : (scene : Scene) (before after : Database) (alters : AltersTo scene before after) (some : List (List ℕ)) → ((name : List ℕ) → list_any (bytes_eq name) some ≡ true → list_any (bytes_eq name) scene.mine ≡ true) → tables_left some after ≡ with_change scene.migrated (λ table. alters.new) (tables_left some before)
unfolding tables_left
alter_each scene before after alters [] within = refl
alter_each scene before after alters (first ∷ some) within =
    at (bytes_eq first scene.migrated) refl (alter_each scene before after alters some (λ name is. within name (or_right (bytes_eq name first) _ is))) where
      rest' : Database
      rest' = with_change scene.migrated (λ table. alters.new) (tables_left some before)

      other : (found : Option TableRows) → find_table first before ≡ found → bytes_eq first scene.migrated ≡ false → option_to_list found ++ rest' ≡ with_change scene.migrated (λ table. alters.new) (option_to_list found ++ tables_left some before)
      other None is off = refl
      other (Some table) is off = let not_it : is_named scene.migrated table ≡ false = ap (λ (n : List ℕ). bytes_eq n scene.migrated) (are_same table.schema.name first (found_named first before table is)) ∙ off in rw not_it refl

      at : (b : Bool) → bytes_eq first scene.migrated ≡ b → tables_left some after ≡ rest' → option_to_list (find_table first after) ++ tables_left some after ≡ with_change scene.migrated (λ table. alters.new) (option_to_list (find_table first before) ++ tables_left some before)
      at true same more =
          let name : first ≡ scene.migrated = are_same first scene.migrated same in
          let old_named : is_named scene.migrated alters.old ≡ true = found_named scene.migrated before alters.old alters.was in
          rw (ap (λ (n : List ℕ). find_table n after) name ∙ alters.is, ap (λ (n : List ℕ). find_table n before) name ∙ alters.was, more) (rw old_named refl)
      at false off more = rw more (ap (λ (found : Option TableRows). option_to_list found ++ rest') (alters.others first (within first (rw (same_bytes first) refl)) off) ∙ other (find_table first before) refl off)

alter_left : (scene : Scene) (before after : Stored) → is_mine scene scene.migrated ≡ true → Leads scene Alter before after → LeadsTo scene Alter (record { tables = tables_left scene.mine before.tables; log = before.log }) (record { tables = tables_left scene.mine after.tables; log = after.log })
alter_left scene before after mine leads =
    (leads.0, record { old = leads.1.old; new = leads.1.new; was = sym ((left_found scene before.tables).each scene.migrated mine) ∙ leads.1.was; made = leads.1.made; is = alter_each scene before.tables after.tables leads.1 scene.mine (λ name is. is) }, leads.2)

lead_left : (scene : Scene) (item : PlainItem) (before after : Stored) → is_mine scene scene.migrated ≡ true → Leads scene item before after → LeadsTo scene item (record { tables = tables_left scene.mine before.tables; log = before.log }) (record { tables = tables_left scene.mine after.tables; log = after.log })
lead_left scene (Txn past) before after mine leads = txn_left scene past before after leads
lead_left scene Alter before after mine leads = alter_left scene before after mine leads

-- *what is serial up to other tables is serial over the client tables*
pub serial_left : (scene : Scene) (before after : Stored) (history : List PlainItem) → is_mine scene scene.migrated ≡ true → Serial scene before history after → SerialHistory scene (record { tables = tables_left scene.mine before.tables; log = before.log }) history (record { tables = tables_left scene.mine after.tables; log = after.log })
serial_left scene before after [] mine alike = rw (left_alike scene before.tables after.tables alike.tables, alike.log) refl
serial_left scene before after (item ∷ history) mine is =
    let start : Stored = is.0 in
    let leads = lead_left scene item is.0 is.1 mine is.3 in
    let same : record { tables = tables_left scene.mine is.0.tables; log = is.0.log } ≡ record { tables = tables_left scene.mine before.tables; log = before.log } = rw (left_alike scene before.tables is.0.tables is.2.tables, is.2.log) refl in
    let between : Stored = record { tables = tables_left scene.mine is.1.tables; log = is.1.log } in
    (between, subst (λ (s : Stored). LeadsTo scene item s between) same leads, serial_left scene is.1 after history mine is.4)

-- where the table may not be exchanged, no history alters it
pub none_alters : (scene : Scene) (before after : Stored) (history : List PlainItem) → scene.exchanges ≡ false → SerialHistory scene before history after → AllByRecursion IsTxn history
none_alters scene before after [] never is = tt
none_alters scene before after (Txn past ∷ history) never is = (tt, none_alters scene is.0 after history never is.2)
none_alters scene before after (Alter ∷ history) never is = absurd (false≢true (sym never ∙ is.1.0))
