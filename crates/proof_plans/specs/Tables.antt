-- *What clients find* of the migrated table, and what is kept of the old one. (gh-ost, "Cut-over": its swap is atomic, so no
-- query sees the table missing, and the old one is left as it was; MySQL's manual, "Server Error Message
-- Reference", of ER_NO_SUCH_TABLE.)
use Rattle.std.specs.Prelude.{◌≡◌, ℕ, ◌==◌, Bool, true, false, List, [], ◌∷◌, ◌++◌, Option, Some, None}
use Rattle.std.specs.List.{list_all, list_any}
use Rattle.std.specs.Str.{bytes_eq}
use Rattle.table_store.specs.Databases.{TableRows, find_table, name_table}
use Rattle.server_model.specs.Along.{Along}
use Rattle.server_model.specs.States.{tables_named}
use Rattle.server_model.specs.declared.answer.Answer.{Answer}
use Rattle.server_model.specs.declared.answer.Answer.TheVariants as answers
use Rattle.server_model.specs.declared.entry.Entry.{Entry}
use Rattle.server_model.specs.declared.request.Request.{Request}
use Rattle.plan_data.specs.PlanData.{PlanData}
use Rattle.base_values.specs.ToolNames.{old_name}
use Rattle.base_values.specs.declared.mysql_errors.TheConstants.{ER_NO_SUCH_TABLE}
use Rattle.tool_program.specs.JournalWords.Histories.{about, entry_adds, is_alter, answer_in}
use Rattle.tool_program.specs.JournalWords.Journals.{state_at}

-- refused: there is no such table
abbrev pub is_missing : Option Answer → Bool
is_missing (Some (answers.Refused number column)) = number == ER_NO_SUCH_TABLE
is_missing reported = false

-- the request names no table but this one
abbrev pub names_alone : List ℕ → Request → Bool
names_alone table request = list_all (bytes_eq table) (tables_named request)

abbrev pub IsFound : List ℕ → Option Request → Option Answer → Type 0
IsFound table None reported = Unit {0}
IsFound table (Some request) reported = names_alone table request ≡ true → is_missing reported ≡ false

-- *Finds the table*: what names the migrated table alone, whoever asks it, as each client's statement on it does, isn't
-- answered ER_NO_SUCH_TABLE: in no turn that calls it or polls it, nor where the answer was missed.
unfoldable pub FindsTable : PlanData → List Entry → Type 0
FindsTable plan journal = Along (λ before entry. IsFound plan.table (about before entry) (answer_in entry.asked entry.side entry.answer entry.missed)) [] journal

-- what is under the old table's name is the table as it was; or nothing is there, once it is dropped
abbrev pub IsAsItWas : List ℕ → TableRows → Option TableRows → Type 0
IsAsItWas table was None = Unit {0}
IsAsItWas table was (Some old) = old ≡ name_table (old_name table) was

-- the old table right after the RENAME, and after more turns
pub record IsOldKept (plan : PlanData) (was : TableRows) (renamed later : List Entry) : Type 0 where
  pub becomes : find_table (old_name plan.table) (state_at plan renamed).tables ≡ Some (name_table (old_name plan.table) was)
  pub stays : IsAsItWas plan.table was (find_table (old_name plan.table) (state_at plan later).tables)

-- *Keeps the old table*: where the RENAME is done in some turn, the table of just before it stands after it under the old
-- table's name, with its rows and its schema but for the name; and after any more turns too, while one is there.
abbrev pub KeepsOldTable : PlanData → List Entry → Type 0
KeepsOldTable plan journal =
    (before : List Entry) (entry : Entry) (more rest : List Entry) (was : TableRows) → journal ≡ (before ++ entry ∷ more) ++ rest → list_any is_alter (entry_adds plan before entry) ≡ true → find_table plan.table (state_at plan before).tables ≡ Some was
    → IsOldKept plan was (before ++ entry ∷ []) (before ++ entry ∷ more)
