-- The names that clients may mention: the migrated table's and the scripts' are among them, and those of no table of the
-- plan never stand.
use Rattle.std.proofs.Common.{◌≡◌, ℕ, ◌+◌, Bool, true, false, not, ◌||◌, zero, suc, List, [], ◌∷◌, ◌++◌, length, map, filter, cond, Option, Some, None, refl, sym, ap, ◌∙◌, subst, arith, length-append}
use Rattle.std.specs.Prelude.{◌==◌, ◌-◌, codes, option_map, unwrap_or}
use Rattle.std.specs.List.{AllByRecursion, list_any, flat_map, slice_get}
use Rattle.std.specs.Option.{option_to_list}
use Rattle.std.specs.Str.{bytes_eq}
use Rattle.std.proofs.lemmas.Bool.{false≢true, or_left, or_right}
use Rattle.std.proofs.lemmas.List.Folds.{list_any-append}
use Rattle.base_values.specs.declared.event.RowEvent.{RowEvent}
use Rattle.table_store.specs.Databases.{TableRows, Database, find_table, is_named, with_change}
use Rattle.table_store.proofs.ChangedTables.{change_found, other_found}
use Rattle.base_script.specs.declared.script.ScriptLine.{ScriptLine}
use Rattle.base_script.specs.declared.script.ScriptWord.{ScriptWord}
use Rattle.base_script.specs.declared.script.ScriptWord.TheVariants as words
use Rattle.server_model.specs.Alone.{Ran, outcome_if, alone, stays, lines_run, nothing_ran}
use Rattle.server_model.specs.Operations.{change_table, after_events}
use Rattle.base_values.specs.ToolNames.{is_tool_name, ghost_name, log_name, old_name}
use Rattle.plan_data.specs.PlanData.{PlanData}
use Rattle.tool_program.specs.JournalWords.Clients.{script_of}
use Rattle.tool_program.specs.JournalWords.Serials as serials
use Rattle.std.proofs.Common.{append_assoc, append-nil}
use Rattle.proof_journals.specs.Scenes.{PlainItem, Txn, Alter, Stored, Scene, is_mine, NamesTable, Leads, Serial, tables_left}
use Rattle.proof_journals.specs.Plans.{client_tables, names_of, script_names, client_names, IsSerialPlan}
use Rattle.server_model.proofs.LockedRows.Tests.{same_bytes, are_same, nor_right}

-- A NAME AMONG OTHERS

abbrev pub IsIn : List (List ℕ) → List (List ℕ) → Type 0
IsIn names all = AllByRecursion (λ name. list_any (bytes_eq name) all ≡ true) names

-- a name among these is among those that have it still: those that pass a test which it passes, and others in front
filter_has : (test : List ℕ → Bool) (name : List ℕ) (names : List (List ℕ)) → list_any (bytes_eq name) names ≡ true → test name ≡ true → list_any (bytes_eq name) (filter test names) ≡ true
filter_has test name [] is passes = absurd (false≢true is)
filter_has test name (first ∷ names) is passes = at (bytes_eq name first) refl is (filter_has test name names) where
  keep : (b : Bool) → b ≡ true → bytes_eq name first ≡ true → list_any (bytes_eq name) (cond b (first ∷ filter test names) (filter test names)) ≡ true
  keep true b same = or_left (bytes_eq name first) (list_any (bytes_eq name) (filter test names)) same
  keep false b same = absurd (false≢true b)

  skip : (b : Bool) → list_any (bytes_eq name) (filter test names) ≡ true → list_any (bytes_eq name) (cond b (first ∷ filter test names) (filter test names)) ≡ true
  skip true rest = or_right (bytes_eq name first) (list_any (bytes_eq name) (filter test names)) rest
  skip false rest = rest

  at : (b : Bool) → bytes_eq name first ≡ b → (b || list_any (bytes_eq name) names) ≡ true → (list_any (bytes_eq name) names ≡ true → test name ≡ true → list_any (bytes_eq name) (filter test names) ≡ true)
      → list_any (bytes_eq name) (cond (test first) (first ∷ filter test names) (filter test names)) ≡ true
  at true same is rest = keep (test first) (ap test (sym (are_same name first same)) ∙ passes) same
  at false same is rest = skip (test first) (rest is passes)

named_among : (name : List ℕ) (tables others : List (List ℕ)) → list_any (bytes_eq name) others ≡ true → list_any (bytes_eq name) (tables ++ filter (λ other. not (list_any (bytes_eq other) tables)) others) ≡ true
named_among name tables others is = list_any-append (bytes_eq name) tables (filter (λ other. not (list_any (bytes_eq other) tables)) others) ∙ at (list_any (bytes_eq name) tables) refl where
  at : (b : Bool) → list_any (bytes_eq name) tables ≡ b → (b || list_any (bytes_eq name) (filter (λ other. not (list_any (bytes_eq other) tables)) others)) ≡ true
  at true in_tables = refl
  at false off = filter_has (λ other. not (list_any (bytes_eq other) tables)) name others is (ap not off)

-- the migrated table's name
pub migrated_named : (plan : PlanData) → list_any (bytes_eq plan.table) (client_names plan) ≡ true
unfolding client_names
migrated_named plan = named_among plan.table (client_tables plan) (plan.table ∷ script_names plan) (or_left (bytes_eq plan.table plan.table) (list_any (bytes_eq plan.table) (script_names plan)) (same_bytes plan.table))

pub script_named : (plan : PlanData) (name : List ℕ) → list_any (bytes_eq name) (script_names plan) ≡ true → list_any (bytes_eq name) (client_names plan) ≡ true
unfolding client_names
script_named plan name is = named_among name (client_tables plan) (plan.table ∷ script_names plan) (or_right (bytes_eq name plan.table) (list_any (bytes_eq name) (script_names plan)) is)

-- THE SCRIPTS' NAMES

in_front : (names some more : List (List ℕ)) → IsIn names some → IsIn names (some ++ more)
in_front [] some more all = tt
in_front (name ∷ names) some more all = (list_any-append (bytes_eq name) some more ∙ or_left (list_any (bytes_eq name) some) (list_any (bytes_eq name) more) all.0, in_front names some more all.1)

following : (names some more : List (List ℕ)) → IsIn names more → IsIn names (some ++ more)
following [] some more all = tt
following (name ∷ names) some more all = (list_any-append (bytes_eq name) some more ∙ or_right (list_any (bytes_eq name) some) (list_any (bytes_eq name) more) all.0, following names some more all.1)

in_itself : (names : List (List ℕ)) → IsIn names names
in_itself [] = tt
in_itself (name ∷ names) = (or_left (bytes_eq name name) (list_any (bytes_eq name) names) (same_bytes name), following names (name ∷ []) names (in_itself names))

lines_in : (lines : List ScriptLine) (all : List (List ℕ)) → IsIn (flat_map (λ line. names_of line.word) lines) all → AllByRecursion (λ line. IsIn (names_of line.word) all) lines
lines_in [] all is = tt
lines_in (line ∷ lines) all is = (first_part (names_of line.word) (flat_map (λ line. names_of line.word) lines) is, lines_in lines all (second_part (names_of line.word) (flat_map (λ line. names_of line.word) lines) is)) where
  first_part : (a b : List (List ℕ)) → IsIn (a ++ b) all → IsIn a all
  first_part [] b is = tt
  first_part (name ∷ a) b is = (is.0, first_part a b is.1)

  second_part : (a b : List (List ℕ)) → IsIn (a ++ b) all → IsIn b all
  second_part [] b is = is
  second_part (name ∷ a) b is = second_part a b is.1

scripts_in : (scripts : List (List ScriptLine)) (i : ℕ) (script : List ScriptLine) → slice_get scripts i ≡ Some script → IsIn (flat_map (λ line. names_of line.word) script) (flat_map (λ script. flat_map (λ line. names_of line.word) script) scripts)
scripts_in [] i script is = absurd (cc)
scripts_in (first ∷ scripts) zero script is =
    subst (λ (s : List ScriptLine). IsIn (flat_map (λ line. names_of line.word) s) (flat_map (λ script. flat_map (λ line. names_of line.word) script) (first ∷ scripts))) (some_same is)
    (in_front (flat_map (λ line. names_of line.word) first) (flat_map (λ line. names_of line.word) first) (flat_map (λ script. flat_map (λ line. names_of line.word) script) scripts) (in_itself (flat_map (λ line. names_of line.word) first))) where
      some_same : Some first ≡ Some script → first ≡ script
      some_same same = cc
scripts_in (first ∷ scripts) (suc i) script is = following (flat_map (λ line. names_of line.word) script) (flat_map (λ line. names_of line.word) first) (flat_map (λ script. flat_map (λ line. names_of line.word) script) scripts) (scripts_in scripts i script is)

word_named : (plan : PlanData) (word : ScriptWord) → IsIn (names_of word) (script_names plan) → NamesTable (client_names plan) word
word_named plan words.Begin is = tt
word_named plan words.Commit is = tt
word_named plan words.Rollback is = tt
word_named plan (words.Do statement) is = script_named plan _ is.0

each_named : (plan : PlanData) (lines : List ScriptLine) → AllByRecursion (λ line. IsIn (names_of line.word) (script_names plan)) lines → AllByRecursion (λ line. NamesTable (client_names plan) line.word) lines
each_named plan [] all = tt
each_named plan (line ∷ lines) all = (word_named plan line.word all.0, each_named plan lines all.1)

-- each line of a client's script names a client table
pub script_lines : (plan : PlanData) (c : ℕ) → AllByRecursion (λ line. NamesTable (client_names plan) line.word) (unwrap_or (script_of c plan) [])
unfolding script_names
script_lines plan c = at (c == 0) where
  scripts_all : (script : List ScriptLine) → slice_get plan.clients (c - 1) ≡ Some script → AllByRecursion (λ line. NamesTable (client_names plan) line.word) script
  scripts_all script is = each_named plan script (lines_in script (script_names plan) (scripts_in plan.clients (c - 1) script is))

  found : (some : Option (List ScriptLine)) → slice_get plan.clients (c - 1) ≡ some → AllByRecursion (λ line. NamesTable (client_names plan) line.word) (unwrap_or some [])
  found None is = tt
  found (Some script) is = scripts_all script is

  at : (b : Bool) → AllByRecursion (λ line. NamesTable (client_names plan) line.word) (unwrap_or (cond b None (slice_get plan.clients (c - 1))) [])
  at true = tt
  at false = found (slice_get plan.clients (c - 1)) refl

-- THE TOOL'S NAMES

longer_differs : (a b : List ℕ) → (length a ≡ length b → ⊥) → bytes_eq a b ≡ false
longer_differs a b longer = at (bytes_eq a b) refl where
  at : (r : Bool) → bytes_eq a b ≡ r → bytes_eq a b ≡ false
  at true same = absurd (longer (ap length (are_same a b same)))
  at false differ = differ

pub migrated_no_tool : (table : List ℕ) → is_tool_name table table ≡ false
unfolding ghost_name log_name old_name
migrated_no_tool table = rw (apart (codes "_gho") refl, apart (codes "_ghc") refl, apart (codes "_del") refl) refl where
  apart : (ending : List ℕ) → length ending ≡ 4 → bytes_eq table (codes "_" ++ table ++ ending) ≡ false
  apart ending four = longer_differs table (codes "_" ++ table ++ ending) (λ same. longer (length table) (same ∙ length-append (codes "_" ++ table) ending ∙ rw (four) refl)) where
    longer : (n : ℕ) → n ≡ suc n + 4 → ⊥
    longer n is = absurd (omega arith)

-- WHAT NEVER STANDS

-- a table that stands, and is no leftover, is a client table
stands_named : (table : List ℕ) (tables : Database) (name : List ℕ) → is_tool_name table name ≡ false → list_any (bytes_eq name) (map (λ t. t.schema.name) (filter (λ t. not (is_tool_name table t.schema.name)) tables)) ≡ false → find_table name tables ≡ None
stands_named table [] name no_tool off = refl
stands_named table (first ∷ tables) name no_tool off = at (is_named name first) refl (is_tool_name table first.schema.name) refl off (stands_named table tables name no_tool) where
  at : (b : Bool) → is_named name first ≡ b → (t : Bool) → is_tool_name table first.schema.name ≡ t
      → list_any (bytes_eq name) (map (λ t. t.schema.name) (cond (not t) (first ∷ filter (λ t. not (is_tool_name table t.schema.name)) tables) (filter (λ t. not (is_tool_name table t.schema.name)) tables))) ≡ false
      → (list_any (bytes_eq name) (map (λ t. t.schema.name) (filter (λ t. not (is_tool_name table t.schema.name)) tables)) ≡ false → find_table name tables ≡ None) → cond b (Some first) (find_table name tables) ≡ None
  at true same true tool off rest = absurd (false≢true (sym no_tool ∙ ap (is_tool_name table) (sym (are_same first.schema.name name same)) ∙ tool))
  at true same false client off rest = absurd (false≢true (sym off ∙ or_left (bytes_eq name first.schema.name) _ (ap (λ (n : List ℕ). bytes_eq n first.schema.name) (sym (are_same first.schema.name name same)) ∙ same_bytes first.schema.name)))
  at false differ true tool off rest = rest off
  at false differ false client off rest = rest (nor_right (bytes_eq name first.schema.name) _ off)

-- what doesn't stand doesn't come to stand by events
none_changed : (table name : List ℕ) (change : TableRows → TableRows) (tables : Database) → ((t : TableRows) → (change t).schema.name ≡ t.schema.name) → find_table name tables ≡ None → find_table name (with_change table change tables) ≡ None
none_changed table name change tables keeps none = at (bytes_eq table name) refl where
  at : (b : Bool) → bytes_eq table name ≡ b → find_table name (with_change table change tables) ≡ None
  at true same =
      ap (λ (n : List ℕ). find_table name (with_change n change tables)) (are_same table name same) ∙ change_found name change tables keeps ∙ ap (option_map change) none
  at false differ = other_found table name change tables keeps differ ∙ none

none_events : (name : List ℕ) (events : List RowEvent) (tables : Database) → find_table name tables ≡ None → find_table name (after_events tables events) ≡ None
unfolding after_events
none_events name [] tables none = none
none_events name (event ∷ events) tables none = none_events name events (with_change event.table (change_table event.change) tables) (none_changed event.table name (change_table event.change) tables (λ t. refl) none)

none_alone : (name : List ℕ) (tables : Database) (b : Bool) (ran : Ran) → find_table name tables ≡ None → find_table name (outcome_if b tables ran).tables ≡ None
none_alone name tables true ran none = none_events name ran.writes tables none
none_alone name tables false ran none = none

-- nor by what ends
none_leads : (scene : Scene) (item : PlainItem) (before after : Stored) (name : List ℕ) → is_mine scene name ≡ true → Leads scene item before after → find_table name before.tables ≡ None → find_table name after.tables ≡ None
unfolding alone
none_leads scene (Txn past) before after name mine leads none = ap (find_table name) leads.1 ∙ none_alone name before.tables (stays past.txn.lines) (lines_run before.tables nothing_ran past.txn.lines) none
none_leads scene Alter before after name mine leads none = at (bytes_eq name scene.migrated) refl where
  at : (b : Bool) → bytes_eq name scene.migrated ≡ b → find_table name after.tables ≡ None
  at true same = absurd (some_none (sym leads.1.was ∙ ap (λ (n : List ℕ). find_table n before.tables) (sym (are_same name scene.migrated same)) ∙ none)) where
    some_none : Some leads.1.old ≡ None → ⊥
    some_none is = cc
  at false differ = leads.1.others name mine differ ∙ none

pub none_serial : (scene : Scene) (before : Stored) (items : List PlainItem) (after : Stored) (name : List ℕ) → is_mine scene name ≡ true → Serial scene before items after → find_table name before.tables ≡ None → find_table name after.tables ≡ None
none_serial scene before [] after name mine alike none = sym (alike.tables.each name mine) ∙ none
none_serial scene before (item ∷ items) after name mine serial none =
    none_serial scene serial.1 items after name mine serial.4 (none_leads scene item serial.0 serial.1 name mine serial.3 (sym (serial.2.tables.each name mine) ∙ none))

-- THE TABLES LEFT

abbrev pub extra_names : PlanData → List (List ℕ)
extra_names plan = filter (λ name. not (list_any (bytes_eq name) (client_tables plan))) (plan.table ∷ script_names plan)

extras_among : (plan : PlanData) (names : List (List ℕ)) → AllByRecursion (λ name. is_tool_name plan.table name ≡ false) names → AllByRecursion (λ name. find_table name plan.tables ≡ None) (filter (λ name. not (list_any (bytes_eq name) (client_tables plan))) names)
unfolding client_tables
extras_among plan [] all = tt
extras_among plan (name ∷ names) all = at (list_any (bytes_eq name) (client_tables plan)) refl (extras_among plan names all.1) where
  at : (b : Bool) → list_any (bytes_eq name) (client_tables plan) ≡ b → AllByRecursion (λ name. find_table name plan.tables ≡ None) (filter (λ name. not (list_any (bytes_eq name) (client_tables plan))) names)
      → AllByRecursion (λ name. find_table name plan.tables ≡ None) (cond (not b) (name ∷ filter (λ name. not (list_any (bytes_eq name) (client_tables plan))) names) (filter (λ name. not (list_any (bytes_eq name) (client_tables plan))) names))
  at true on rest = rest
  at false off rest = (stands_named plan.table plan.tables name all.0 off, rest)

pub extras_open : (plan : PlanData) → IsSerialPlan plan → AllByRecursion (λ name. find_table name plan.tables ≡ None) (extra_names plan)
extras_open plan is = extras_among plan (plan.table ∷ script_names plan) (migrated_no_tool plan.table, is.scripts)

extras_named : (plan : PlanData) → IsIn (extra_names plan) (client_names plan)
unfolding client_names
extras_named plan = following (extra_names plan) (client_tables plan) (extra_names plan) (in_itself (extra_names plan))

pub extras_serial : (plan : PlanData) (scene : Scene) (before : Stored) (items : List PlainItem) (after : Stored) → scene.mine ≡ client_names plan → Serial scene before items after → AllByRecursion (λ name. find_table name before.tables ≡ None) (extra_names plan)
    → AllByRecursion (λ name. find_table name after.tables ≡ None) (extra_names plan)
extras_serial plan scene before items after mine serial none = each (extra_names plan) (extras_named plan) none where
  one : (name : List ℕ) → list_any (bytes_eq name) (client_names plan) ≡ true → find_table name before.tables ≡ None → find_table name after.tables ≡ None
  one name named missing = none_serial scene before items after name (ap (list_any (bytes_eq name)) mine ∙ named) serial missing

  each : (names : List (List ℕ)) → IsIn names (client_names plan) → AllByRecursion (λ name. find_table name before.tables ≡ None) names → AllByRecursion (λ name. find_table name after.tables ≡ None) names
  each [] named missing = tt
  each (name ∷ names) named missing = (one name named.0 missing.0, each names named.1 missing.1)

left_both : (a b : List (List ℕ)) (tables : Database) → tables_left (a ++ b) tables ≡ tables_left a tables ++ tables_left b tables
unfolding tables_left
left_both [] b tables = refl
left_both (name ∷ a) b tables = ap (λ (more : Database). option_to_list (find_table name tables) ++ more) (left_both a b tables) ∙ sym (append_assoc (option_to_list (find_table name tables)) (tables_left a tables) (tables_left b tables))

left_none : (names : List (List ℕ)) (tables : Database) → AllByRecursion (λ name. find_table name tables ≡ None) names → tables_left names tables ≡ []
unfolding tables_left
left_none [] tables none = refl
left_none (name ∷ names) tables none = ap (λ (found : Option TableRows). option_to_list found ++ tables_left names tables) none.0 ∙ left_none names tables none.1

left_mapped : (some : List TableRows) (tables : Database) → tables_left (map (λ t. t.schema.name) some) tables ≡ flat_map (λ t. option_to_list (find_table t.schema.name tables)) some
unfolding tables_left
left_mapped [] tables = refl
left_mapped (t ∷ some) tables = ap (λ (more : Database). option_to_list (find_table t.schema.name tables) ++ more) (left_mapped some tables)

-- the client tables that are left are the plan's
pub left_is : (plan : PlanData) (tables : Database) → AllByRecursion (λ name. find_table name tables ≡ None) (extra_names plan) → tables_left (client_names plan) tables ≡ serials.tables_left plan tables
unfolding client_names client_tables serials.tables_left
left_is plan tables none =
    left_both (client_tables plan) (extra_names plan) tables ∙ ap (λ (more : Database). tables_left (client_tables plan) tables ++ more) (left_none (extra_names plan) tables none)
    ∙ append-nil (tables_left (client_tables plan) tables) ∙ left_mapped (filter (λ t. not (is_tool_name plan.table t.schema.name)) plan.tables) tables
