-- *The document of a workload*: what its text is, read as TOML, and what the plan's keys say. This project's rule.
use Rattle.std.specs.Prelude.{codes, ℕ, pos, false, List, [], ◌∷◌}
use Rattle.toml.specs.Data.{string, integer, boolean, array, table, Items, no_items, item, Members, no_members, member}
use Rattle.plan_data.specs.declared.options.Options.{Options}
use Rattle.plan_data.specs.PlanOptions.{default_options}
use Rattle.plan_keys.specs.Limits.{TableData, TextData}
use Rattle.plan_keys.specs.PlanKeys.{KeyData}
use Rattle.law_texts.specs.Workloads.Document.Texts.{table_name, create_text, alter_text, row_texts, script_texts}

-- the options that the plan says something of; all others have their defaults
abbrev pub options : Options
options = record default_options { chunk_size = 100; turn_limit = 1000000; show_tables = false; show_replies = false }

-- ---- the document, with its keys in order

-- texts as the items of an array
unfoldable pub text_items : List (List ℕ) → Items
text_items [] = no_items
text_items (text ∷ texts) = item (string text) (text_items texts)

abbrev pub options_table : Members
options_table =
    member (codes "chunk_size") (integer (pos 100)) (
    member (codes "show_replies") (boolean false) (
    member (codes "show_tables") (boolean false) (
    member (codes "turn_limit") (integer (pos 1000000)) no_members)))

abbrev pub rows_table : ℕ → Members
rows_table number = member (codes "create") (string create_text) (member (codes "rows") (array (text_items (row_texts number))) no_members)

-- *The document of a workload*
abbrev pub document : ℕ → Members
document number =
    member (codes "alter") (string alter_text) (
    member (codes "clients") (array (text_items (script_texts number))) (
    member (codes "options") (table options_table) (
    member (codes "table") (string table_name) (
    member (codes "tables") (array (item (table (rows_table number)) no_items)) (
    member (codes "version") (integer (pos 1)) no_members)))))

-- ---- what its keys say

abbrev pub table_texts : ℕ → TableData
table_texts number = record { create = create_text; rows = row_texts number }

abbrev pub texts : ℕ → TextData
texts number = record {
  table = table_name;
  alter = alter_text;
  tables = table_texts number ∷ [];
  clients = script_texts number;
  operator = [];
  faults = [];
  turns = [];
}

abbrev pub keys : ℕ → KeyData
keys number = record { version = 1; texts = texts number; options = options }
