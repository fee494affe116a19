-- *The text of a workload is its document*, line by line.
use Rattle.std.proofs.Common.{◌≡◌, ◌∙◌, ℕ, suc, ◌-◌, ◌<◌, ◌≤◌, ◌==◌, true, false, List, [], ◌∷◌, ◌++◌, length, Some, refl, ap, codes, arith, append_assoc}
use Rattle.std.specs.Prelude.{pos}
use Rattle.std.proofs.lemmas.Bool.Decides.{nat_tests}
use Rattle.std.specs.List.{range_with_len}
use Rattle.toml_parser.specs.Lexical.{first, skip_ws, skip_from, skip_blank}
use Rattle.toml.specs.Data.{Data, string, integer, boolean, array, no_items}
use Rattle.toml.specs.Tables.{Node, value, open_table, open_array, Nodes, no_nodes, node, header, close, Document, Expression, key_value, std_table, array_table, along_header, along_dots, at_key, define}
use Rattle.toml.specs.Parse.{val, key_equals, expression, ends_line, line, lines, skip_bom, parse_document}
use Rattle.toml.proofs.OnLiterals.{toml_on_literals}
use Rattle.toml.proofs.Turns.{keyval_ok, lines_more, document_some}
use Rattle.top_workload.specs.Workloads.{row_count, client_count, row_text, rows_text, client_at, clients_text, head_text, options_text, table_text, workload}
use Rattle.law_texts.specs.Workloads.Document.Texts.{alter_text, table_name, create_text, row_sql, row_key, row_value, row_texts, script_text, client_state, script_texts}
use Rattle.law_texts.specs.Workloads.Document.Plans.{text_items, document}
use Rattle.law_texts.proofs.Workloads.Document.ArraysRead.{array_read, all_places}
use Rattle.law_texts.proofs.Workloads.Document.Spelled.{row_spelled, spelled_row, script_spelled, spelled_script}

-- ---- what has been read, behind each part

abbrev head_nodes : Nodes
head_nodes = node (codes "alter") (value (string alter_text)) (node (codes "table") (value (string table_name)) (node (codes "version") (value (integer (pos 1))) no_nodes))

abbrev clients_nodes : Data → Nodes
clients_nodes clients = node (codes "alter") (value (string alter_text)) (node (codes "clients") (value clients) (node (codes "table") (value (string table_name)) (node (codes "version") (value (integer (pos 1))) no_nodes)))

abbrev options_node : Node
options_node =
    open_table header (node (codes "chunk_size") (value (integer (pos 100))) (node (codes "show_replies") (value (boolean false)) (node (codes "show_tables") (value (boolean false)) (node (codes "turn_limit") (value (integer (pos 1000000))) no_nodes))))

-- with this node of the options
abbrev options_nodes : Data → Node → Nodes
options_nodes clients options =
    node (codes "alter") (value (string alter_text)) (node (codes "clients") (value clients) (node (codes "options") options (node (codes "table") (value (string table_name)) (node (codes "version") (value (integer (pos 1))) no_nodes))))

-- with these nodes in the one table
abbrev tables_nodes : Data → Nodes → Nodes
tables_nodes clients inner =
    node (codes "alter") (value (string alter_text)) (node (codes "clients") (value clients) (node (codes "options") options_node (node (codes "table") (value (string table_name)) (
    node (codes "tables") (open_array no_items inner) (node (codes "version") (value (integer (pos 1))) no_nodes)))))

abbrev create_nodes : Nodes
create_nodes = node (codes "create") (value (string create_text)) no_nodes

abbrev rows_nodes : Data → Nodes
rows_nodes rows = node (codes "create") (value (string create_text)) (node (codes "rows") (value rows) no_nodes)

-- ---- one line

feed_ends : (rest : List ℕ) → ends_line (skip_ws (10 ∷ rest)) ≡ true
unfolding skip_ws
feed_ends rest = let some : (length (10 ∷ rest) == 0) ≡ false = grind (arith, nat_tests) in rw some refl

line_said : (text rest : List ℕ) (said : Expression) → expression text ≡ Some (said, 10 ∷ rest) → line text ≡ Some (said, 10 ∷ rest)
unfolding line
line_said text rest said is = rw (is, feed_ends rest) refl

-- the line that stands here, behind which the document is the next
step : (fuel : ℕ) (doc next : Document) (before text rest : List ℕ) (said : Expression) → skip_blank before ≡ text → 0 < length text → expression text ≡ Some (said, 10 ∷ rest) → define doc said ≡ Some next
    → lines (suc fuel) doc before ≡ lines fuel next (10 ∷ rest)
step fuel doc next before text rest said skipped some is defined =
    let fewer : suc fuel - 1 ≡ fuel = omega arith in
    let other : (length text == 0) ≡ false = grind (arith, nat_tests) in
    lines_more (suc fuel) doc next before said (10 ∷ rest) (omega arith) (ap (λ (bytes : List ℕ). length bytes == 0) skipped ∙ other) (ap line skipped ∙ line_said text rest said is) defined
    ∙ ap (λ (n : ℕ). lines n next (10 ∷ rest)) fewer

-- ---- lines that are the same for each number

head_read : (fuel : ℕ) (rest : List ℕ)
    → lines (suc (suc (suc fuel))) (no_nodes, []) (codes "version = 1\ntable = \"g\"\nalter = \"ADD COLUMN s VARCHAR(8) NOT NULL DEFAULT 'new', MODIFY v BIGINT\"" ++ (10 ∷ rest)) ≡ lines fuel (head_nodes, []) (10 ∷ rest)
unfolding toml_on_literals
head_read fuel rest =
    let alter : List ℕ = codes "alter = \"ADD COLUMN s VARCHAR(8) NOT NULL DEFAULT 'new', MODIFY v BIGINT\"" ++ (10 ∷ rest) in
    let named : List ℕ = codes "table = \"g\"" ++ (10 ∷ alter) in
    let version : List ℕ = codes "version = 1" ++ (10 ∷ named) in
    let one : Nodes = node (codes "version") (value (integer (pos 1))) no_nodes in
    let two : Nodes = node (codes "table") (value (string table_name)) one in
    step (suc (suc fuel)) (no_nodes, []) (one, []) version version named (([], codes "version"), key_value (integer (pos 1))) refl (omega arith) refl refl
    ∙ step (suc fuel) (one, []) (two, []) (10 ∷ named) named alter (([], codes "table"), key_value (string table_name)) refl (omega arith) refl refl
    ∙ step fuel (two, []) (head_nodes, []) (10 ∷ alter) alter rest (([], codes "alter"), key_value (string alter_text)) refl (omega arith) refl refl

options_read : (fuel : ℕ) (clients : Data) (rest : List ℕ)
    → lines (suc (suc (suc (suc (suc fuel))))) (clients_nodes clients, []) (10 ∷ (codes "[options]\nchunk_size = 100\nturn_limit = 1000000\nshow_tables = false\nshow_replies = false" ++ (10 ∷ rest)))
    ≡ lines fuel (options_nodes clients options_node, codes "options" ∷ []) (10 ∷ rest)
unfolding toml_on_literals
options_read fuel clients rest =
    let at : List (List ℕ) = codes "options" ∷ [] in
    let replies : List ℕ = codes "show_replies = false" ++ (10 ∷ rest) in
    let tables : List ℕ = codes "show_tables = false" ++ (10 ∷ replies) in
    let turns : List ℕ = codes "turn_limit = 1000000" ++ (10 ∷ tables) in
    let chunks : List ℕ = codes "chunk_size = 100" ++ (10 ∷ turns) in
    let head : List ℕ = codes "[options]" ++ (10 ∷ chunks) in
    let three : Nodes = node (codes "turn_limit") (value (integer (pos 1000000))) no_nodes in
    let two : Nodes = node (codes "chunk_size") (value (integer (pos 100))) three in
    let one : Nodes = node (codes "chunk_size") (value (integer (pos 100))) no_nodes in
    let four : Nodes = node (codes "chunk_size") (value (integer (pos 100))) (node (codes "show_tables") (value (boolean false)) three) in
    step (suc (suc (suc (suc fuel)))) (clients_nodes clients, []) (options_nodes clients (open_table header no_nodes), at) (10 ∷ head) head chunks (([], codes "options"), std_table) refl (omega arith) refl refl
    ∙ step (suc (suc (suc fuel))) (options_nodes clients (open_table header no_nodes), at) (options_nodes clients (open_table header one), at) (10 ∷ chunks) chunks turns (([], codes "chunk_size"), key_value (integer (pos 100))) refl (omega arith) refl refl
    ∙ step (suc (suc fuel)) (options_nodes clients (open_table header one), at) (options_nodes clients (open_table header two), at) (10 ∷ turns) turns tables (([], codes "turn_limit"), key_value (integer (pos 1000000))) refl (omega arith) refl refl
    ∙ step (suc fuel) (options_nodes clients (open_table header two), at) (options_nodes clients (open_table header four), at) (10 ∷ tables) tables replies (([], codes "show_tables"), key_value (boolean false)) refl (omega arith) refl refl
    ∙ step fuel (options_nodes clients (open_table header four), at) (options_nodes clients options_node, at) (10 ∷ replies) replies rest (([], codes "show_replies"), key_value (boolean false)) refl (omega arith) refl refl

create_read : (fuel : ℕ) (clients : Data) (rest : List ℕ)
    → lines (suc (suc fuel)) (options_nodes clients options_node, codes "options" ∷ []) (10 ∷ (codes "[[tables]]\ncreate = \"CREATE TABLE g (id BIGINT PRIMARY KEY, u VARCHAR(24), v INT, UNIQUE KEY u (u))\"" ++ (10 ∷ rest)))
    ≡ lines fuel (tables_nodes clients create_nodes, codes "tables" ∷ []) (10 ∷ rest)
unfolding toml_on_literals
create_read fuel clients rest =
    let create : List ℕ = codes "create = \"CREATE TABLE g (id BIGINT PRIMARY KEY, u VARCHAR(24), v INT, UNIQUE KEY u (u))\"" ++ (10 ∷ rest) in
    let head : List ℕ = codes "[[tables]]" ++ (10 ∷ create) in
    let at : List (List ℕ) = codes "tables" ∷ [] in
    step (suc fuel) (options_nodes clients options_node, codes "options" ∷ []) (tables_nodes clients no_nodes, at) (10 ∷ head) head create (([], codes "tables"), array_table) refl (omega arith) refl refl
    ∙ step fuel (tables_nodes clients no_nodes, at) (tables_nodes clients create_nodes, at) (10 ∷ create) create rest (([], codes "create"), key_value (string create_text)) refl (omega arith) refl refl

-- ---- lines with an array

pair_said : (text following rest : List ℕ) (key : List ℕ) (said : Data) → (first text == 91) ≡ false → key_equals text ≡ Some (([], key), following) → val 80 following ≡ Some (said, 10 ∷ rest) → expression text ≡ Some ((([], key), key_value said), 10 ∷ rest)
unfolding expression
pair_said text following rest key said other at_value read = rw (other, keyval_ok (val 80) text following (10 ∷ rest) ([], key) said at_value read) refl

clients_key : (text : List ℕ) → key_equals (codes "clients = " ++ (91 ∷ text)) ≡ Some (([], codes "clients"), 91 ∷ text)
unfolding toml_on_literals
clients_key text = refl

rows_key : (text : List ℕ) → key_equals (codes "rows = " ++ (91 ∷ text)) ≡ Some (([], codes "rows"), 91 ∷ text)
unfolding toml_on_literals
rows_key text = refl

clients_defined : (clients : Data) → define (head_nodes, []) (([], codes "clients"), key_value clients) ≡ Some (clients_nodes clients, [])
unfolding define along_header along_dots at_key
clients_defined clients = refl

rows_defined : (clients rows : Data) → define (tables_nodes clients create_nodes, codes "tables" ∷ []) (([], codes "rows"), key_value rows) ≡ Some (tables_nodes clients (rows_nodes rows), codes "tables" ∷ [])
unfolding define along_header along_dots at_key
rows_defined clients rows = refl

feed_clients : (text : List ℕ) → skip_blank (10 ∷ (codes "clients = " ++ text)) ≡ codes "clients = " ++ text
unfolding skip_from
feed_clients text = refl

feed_rows : (text : List ℕ) → skip_blank (10 ∷ (codes "rows = " ++ text)) ≡ codes "rows = " ++ text
unfolding skip_from
feed_rows text = refl

clients_read : (fuel : ℕ) (clients : Data) (text rest : List ℕ) → val 80 (91 ∷ text) ≡ Some (clients, 10 ∷ rest) → lines (suc fuel) (head_nodes, []) (10 ∷ (codes "clients = " ++ (91 ∷ text))) ≡ lines fuel (clients_nodes clients, []) (10 ∷ rest)
clients_read fuel clients text rest read =
    let bytes : List ℕ = codes "clients = " ++ (91 ∷ text) in
    step fuel (head_nodes, []) (clients_nodes clients, []) (10 ∷ bytes) bytes rest (([], codes "clients"), key_value clients) (feed_clients (91 ∷ text)) (omega arith) (pair_said bytes (91 ∷ text) rest (codes "clients") clients refl (clients_key text) read) (clients_defined clients)

rows_read : (fuel : ℕ) (clients rows : Data) (text rest : List ℕ) → val 80 (91 ∷ text) ≡ Some (rows, 10 ∷ rest)
    → lines (suc fuel) (tables_nodes clients create_nodes, codes "tables" ∷ []) (10 ∷ (codes "rows = " ++ (91 ∷ text))) ≡ lines fuel (tables_nodes clients (rows_nodes rows), codes "tables" ∷ []) (10 ∷ rest)
rows_read fuel clients rows text rest read =
    let bytes : List ℕ = codes "rows = " ++ (91 ∷ text) in
    let at : List (List ℕ) = codes "tables" ∷ [] in
    step fuel (tables_nodes clients create_nodes, at) (tables_nodes clients (rows_nodes rows), at) (10 ∷ bytes) bytes rest (([], codes "rows"), key_value rows) (feed_rows (91 ∷ text)) (omega arith) (pair_said bytes (91 ∷ text) rest (codes "rows") rows refl (rows_key text) read) (rows_defined clients rows)

all_read : (fuel : ℕ) (doc : Document) → lines (suc fuel) doc (10 ∷ []) ≡ Some doc
unfolding lines skip_from
all_read fuel doc = refl

-- ---- the whole text

-- the text, with the texts of its clients and of its rows
abbrev text_of : List ℕ → List ℕ → List ℕ
text_of clients rows =
    codes "version = 1\ntable = \"g\"\nalter = \"ADD COLUMN s VARCHAR(8) NOT NULL DEFAULT 'new', MODIFY v BIGINT\"\nclients = [\n"
    ++ (clients ++ (codes "]\n[options]\nchunk_size = 100\nturn_limit = 1000000\nshow_tables = false\nshow_replies = false\n[[tables]]\ncreate = \"CREATE TABLE g (id BIGINT PRIMARY KEY, u VARCHAR(24), v INT, UNIQUE KEY u (u))\"\nrows = [\n"
    ++ (rows ++ codes "]\n")))

regrouped : (a b c d e f : List ℕ) → a ++ b ++ c ++ d ++ e ++ f ≡ a ++ (b ++ (c ++ (d ++ (e ++ f))))
regrouped a b c d e f = simp append_assoc refl

text_is : (number : ℕ) → workload number ≡ text_of (clients_text number) (rows_text number)
unfolding workload head_text options_text table_text
text_is number = regrouped head_text (clients_text number) options_text table_text (rows_text number) (codes "]\n")

clients_array : (number : ℕ) (rest : List ℕ) → val 80 (91 ∷ 10 ∷ (clients_text number ++ (93 ∷ rest))) ≡ Some (array (text_items (script_texts number)), rest)
unfolding clients_text script_texts
clients_array number rest =
    array_read 79 (client_at number) (λ client. script_spelled (row_count number) (client_state number client)) (λ client. script_text (row_count number) (client_state number client)) (range_with_len 0 (client_count number)) rest
    (all_places _ 0 (client_count number) (λ client less. spelled_script 79 number client))

rows_array : (number : ℕ) (rest : List ℕ) → val 80 (91 ∷ 10 ∷ (rows_text number ++ (93 ∷ rest))) ≡ Some (array (text_items (row_texts number)), rest)
unfolding rows_text row_texts
rows_array number rest =
    array_read 79 (row_text number) (row_spelled number) (λ place. row_sql (row_key place) (row_value number place)) (range_with_len 0 (row_count number)) rest
    (all_places _ 0 (row_count number) (λ place less. spelled_row 79 number place (omega (arith, less))))

module _ (clients rows : List ℕ) (clients_said rows_said : Data)
    (clients_are : (rest : List ℕ) → val 80 (91 ∷ 10 ∷ (clients ++ (93 ∷ rest))) ≡ Some (clients_said, rest))
    (rows_are : (rest : List ℕ) → val 80 (91 ∷ 10 ∷ (rows ++ (93 ∷ rest))) ≡ Some (rows_said, rest))
  where
    abbrev end_text : List ℕ
    end_text = codes "rows = [\n" ++ (rows ++ codes "]\n")

    abbrev create_text_of : List ℕ
    create_text_of = codes "[[tables]]\ncreate = \"CREATE TABLE g (id BIGINT PRIMARY KEY, u VARCHAR(24), v INT, UNIQUE KEY u (u))\"" ++ (10 ∷ end_text)

    abbrev options_text_of : List ℕ
    options_text_of = codes "[options]\nchunk_size = 100\nturn_limit = 1000000\nshow_tables = false\nshow_replies = false" ++ (10 ∷ create_text_of)

    abbrev clients_text_of : List ℕ
    clients_text_of = codes "clients = [\n" ++ (clients ++ (93 ∷ 10 ∷ options_text_of))

    abbrev whole : Document
    whole = (tables_nodes clients_said (rows_nodes rows_said), codes "tables" ∷ [])

    lines_read : (fuel : ℕ) → lines (suc (suc (suc (suc (suc (suc (suc (suc (suc (suc (suc (suc (suc fuel))))))))))))) (no_nodes, []) (text_of clients rows) ≡ Some whole
    lines_read fuel =
        head_read (suc (suc (suc (suc (suc (suc (suc (suc (suc (suc fuel)))))))))) clients_text_of
        ∙ clients_read (suc (suc (suc (suc (suc (suc (suc (suc (suc fuel))))))))) clients_said (10 ∷ (clients ++ (93 ∷ 10 ∷ options_text_of))) options_text_of (clients_are (10 ∷ options_text_of))
        ∙ options_read (suc (suc (suc (suc fuel)))) clients_said create_text_of
        ∙ create_read (suc (suc fuel)) clients_said end_text
        ∙ rows_read (suc fuel) clients_said rows_said (10 ∷ (rows ++ codes "]\n")) [] (rows_are (10 ∷ []))
        ∙ all_read fuel whole

    no_mark : skip_bom (text_of clients rows) ≡ text_of clients rows
    unfolding skip_bom
    no_mark = refl

    long_text : 12 ≤ length (text_of clients rows)
    long_text = omega arith

    pub text_read : parse_document (text_of clients rows) ≡ Some (close (tables_nodes clients_said (rows_nodes rows_said)))
    text_read =
        let size : ℕ = length (text_of clients rows) in
        let fuel : suc size ≡ suc (suc (suc (suc (suc (suc (suc (suc (suc (suc (suc (suc (suc (size - 12))))))))))))) = omega (arith, long_text) in
        document_some (text_of clients rows) whole (ap (lines (suc size) (no_nodes, [])) no_mark ∙ ap (λ (n : ℕ). lines n (no_nodes, []) (text_of clients rows)) fuel ∙ lines_read (size - 12))

pub workload_read : (number : ℕ) → parse_document (workload number) ≡ Some (document number)
workload_read number =
    ap parse_document (text_is number)
    ∙ text_read (clients_text number) (rows_text number) (array (text_items (script_texts number))) (array (text_items (row_texts number))) (clients_array number) (rows_array number)
