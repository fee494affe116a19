-- *The workload* of a number: a plan of a table with thousands of rows and of clients that insert, delete, change and move
-- rows at random. Numbers are drawn first for the rows, then for the clients' statements. This project's rule.
use Rattle.std.specs.Prelude.{codes, ℕ, ◌+◌, ◌*◌, ◌%◌, ◌==◌, if◌then◌else◌, List, ◌++◌}
use Rattle.std.specs.Fmt.{decimal}
use Rattle.std.specs.List.{flat_map, range_with_len}
use Rattle.top_workload.specs.Draws.{drawn, state_after}

-- how many rows the table opens with: 1,000 to 20,000
abbrev pub row_count : ℕ → ℕ
row_count number = 1000 * (1 + number % 20)

-- how many clients there are: 1 to 32
abbrev pub client_count : ℕ → ℕ
client_count number = 1 + number % 32

-- ---- rows

-- a row's line: its even key, a text of the key, and a value: `"(2, 'u2', 807)",`
unfoldable pub row_line : ℕ → ℕ → List ℕ
row_line key value = codes "\"(" ++ decimal key ++ codes ", 'u" ++ decimal key ++ codes "', " ++ decimal value ++ codes ")\",\n"

-- the row after this many others; each takes one draw
abbrev pub row_text : ℕ → ℕ → List ℕ
row_text number place = row_line (2 * (place + 1)) (drawn (state_after number place) % 1000)

unfoldable pub rows_text : ℕ → List ℕ
rows_text number = flat_map (row_text number) (range_with_len 0 (row_count number))

-- ---- statements

unfoldable pub where_text : ℕ → List ℕ
where_text key = codes " WHERE id = " ++ decimal key ++ codes "\n"

unfoldable pub values_text : ℕ → ℕ → List ℕ
values_text key value = codes "(" ++ decimal key ++ codes ", 'n" ++ decimal key ++ codes "', " ++ decimal value ++ codes ")\n"

abbrev pub insert_line : ℕ → ℕ → List ℕ
insert_line key value = codes "INSERT INTO g (id, u, v) VALUES " ++ values_text key value

abbrev pub delete_line : ℕ → List ℕ
delete_line key = codes "DELETE FROM g" ++ where_text key

abbrev pub change_line : ℕ → ℕ → List ℕ
change_line key value = codes "UPDATE g SET v = " ++ decimal value ++ where_text key

-- a row moves to the key after its own
abbrev pub move_line : ℕ → List ℕ
move_line key = codes "UPDATE g SET id = " ++ decimal (key + 1) ++ where_text key

-- the statement on a key that a drawn number says
unfoldable pub statement_line : ℕ → ℕ → List ℕ
statement_line what key =
    if what % 4 == 0 then insert_line key (what % 1000) else (if what % 4 == 1 then delete_line key else (if what % 4 == 2 then change_line key (what % 1000) else move_line key))

-- the statement that the two draws from a state on say; its key is from 1 to twice the number of rows
abbrev pub statement_text : ℕ → ℕ → List ℕ
statement_text rows state = statement_line (drawn state) (1 + drawn (state_after state 1) % (2 * rows))

-- ---- clients

-- the statement after this many others of its client, whose draws begin at the state; each takes two draws
abbrev pub client_line : ℕ → ℕ → ℕ → List ℕ
client_line rows state line = statement_text rows (state_after state (2 * line))

-- a client's script: 30 statements, by the draws from a state on
unfoldable pub client_text : ℕ → ℕ → List ℕ
client_text rows state = codes "\"\"\"\n" ++ flat_map (client_line rows state) (range_with_len 0 30) ++ codes "\"\"\",\n"

-- the client after this many others; the clients' draws begin after those of the rows
abbrev pub client_at : ℕ → ℕ → List ℕ
client_at number client = client_text (row_count number) (state_after number (row_count number + 60 * client))

unfoldable pub clients_text : ℕ → List ℕ
clients_text number = flat_map (client_at number) (range_with_len 0 (client_count number))

-- ---- the plan

unfoldable pub head_text : List ℕ
head_text = codes "version = 1\ntable = \"g\"\nalter = \"ADD COLUMN s VARCHAR(8) NOT NULL DEFAULT 'new', MODIFY v BIGINT\"\nclients = [\n"

unfoldable pub options_text : List ℕ
options_text = codes "]\n[options]\nchunk_size = 100\nturn_limit = 1000000\nshow_tables = false\nshow_replies = false\n"

unfoldable pub table_text : List ℕ
table_text = codes "[[tables]]\ncreate = \"CREATE TABLE g (id BIGINT PRIMARY KEY, u VARCHAR(24), v INT, UNIQUE KEY u (u))\"\nrows = [\n"

-- *The workload* of a number, as a plan's text
unfoldable pub workload : ℕ → List ℕ
workload number = head_text ++ clients_text number ++ options_text ++ table_text ++ rows_text number ++ codes "]\n"
