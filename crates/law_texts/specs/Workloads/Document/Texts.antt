-- The texts of a workload: its CREATE TABLE, its ALTER, its rows and its scripts. This project's rule.
use Rattle.std.specs.Prelude.{codes, ℕ, ◌+◌, ◌*◌, ◌%◌, List, ◌++◌, map}
use Rattle.std.specs.Fmt.{decimal}
use Rattle.std.specs.List.{flat_map, range_with_len}
use Rattle.top_workload.specs.Draws.{drawn, state_after}
use Rattle.top_workload.specs.Workloads.{row_count, client_count, client_line}

-- the table's name, how it is created, and how it is altered
abbrev pub table_name : List ℕ
table_name = codes "g"

abbrev pub create_text : List ℕ
create_text = codes "CREATE TABLE g (id BIGINT PRIMARY KEY, u VARCHAR(24), v INT, UNIQUE KEY u (u))"

abbrev pub alter_text : List ℕ
alter_text = codes "ADD COLUMN s VARCHAR(8) NOT NULL DEFAULT 'new', MODIFY v BIGINT"

-- ---- rows

-- a row by its key and its value: `(2, 'u2', 807)`
unfoldable pub row_sql : ℕ → ℕ → List ℕ
row_sql key value = codes "(" ++ decimal key ++ codes ", 'u" ++ decimal key ++ codes "', " ++ decimal value ++ codes ")"

-- the key and the value of the row after this many others
abbrev pub row_key : ℕ → ℕ
row_key place = 2 * (place + 1)

abbrev pub row_value : ℕ → ℕ → ℕ
row_value number place = drawn (state_after number place) % 1000

-- the rows that the table of a workload opens with
unfoldable pub row_texts : ℕ → List (List ℕ)
row_texts number = map (λ place. row_sql (row_key place) (row_value number place)) (range_with_len 0 (row_count number))

-- ---- scripts

-- a client's script: 30 lines, by the draws from a state on
unfoldable pub script_text : ℕ → ℕ → List ℕ
script_text rows state = flat_map (client_line rows state) (range_with_len 0 30)

-- where the draws of the client after this many others begin
abbrev pub client_state : ℕ → ℕ → ℕ
client_state number client = state_after number (row_count number + 60 * client)

-- the scripts of a workload's clients
unfoldable pub script_texts : ℕ → List (List ℕ)
script_texts number = map (λ client. script_text (row_count number) (client_state number client)) (range_with_len 0 (client_count number))
