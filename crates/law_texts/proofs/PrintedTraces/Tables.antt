-- Printed tables, and the names of all that exist, are read.
use Rattle.std.proofs.Common.{◌≡◌, ◌∙◌, ℕ, zero, suc, ◌-◌, ◌<◌, true, false, nat_eq, List, [], ◌∷◌, ◌++◌, length, take, drop, map, Some, refl, sym, ap, codes, arith, append-nil, append_assoc, length-append}
use Rattle.std.specs.List.{AllByRecursion, ends_with, flat_map, fold, list_any, onto_first, prefix_len}
use Rattle.std.specs.Option.{option_and_then}
use Rattle.std.specs.Str.{bytes_eq}
use Rattle.std.specs.Cmp.Lexicographic.{pointwise}
use Rattle.std.proofs.lemmas.Bool.{and_from, or_right}
use Rattle.std.proofs.lemmas.List.{drop_at}
use Rattle.std.proofs.lemmas.List.Folds.{flat_map-map}
use Rattle.base_values.specs.declared.value.Value.{Value}
use Rattle.base_values.specs.declared.gho_schema.schema.Schema.{Schema}
use Rattle.base_values.specs.declared.gho_schema.schema.Column.{Column}
use Rattle.base_values.specs.Literals.{listed, printed_row}
use Rattle.table_store.specs.Databases.{Database, TableRows}
use Rattle.table_print.specs.Names.{comes_before, in_byte_order, names_line, placed, spaced, table_names}
use Rattle.table_print.specs.Tables.{column_names, more_names, row_lines, table_line}
use Rattle.server_model.specs.declared.outcome.Verdict.{Verdict}
use Rattle.run_audit.specs.declared.line.TraceLine.{TraceLine}
use Rattle.run_audit.specs.Lines.{printed_table}
use Rattle.top_trace_reader.specs.declared.reading.LeftTables.{LeftTables}
use Rattle.top_trace_reader.specs.declared.reading.Reading.{Reading}
use Rattle.top_trace_reader.specs.declared.reading.Reading.TheVariants.{Tables, Named}
use Rattle.top_trace_reader.specs.Lines.{is_names_line, is_table_line, names_columns, opens}
use Rattle.top_trace_reader.specs.Readings.{after_left, after_names, after_text, closed}
use Rattle.law_texts.specs.PrintedTraces.{CanPrintRow, CanPrintTable, IsOneLine}
use Rattle.law_texts.proofs.PrintedTraces.Lines.{Avoids, avoids-append, avoids-known, lines_text, lines_text-append, parts, parts-append, parts-first, parts-some}
use Rattle.law_texts.proofs.PrintedTraces.Readings.{Reads, after_texts, reads-then}
use Rattle.law_texts.proofs.PrintedTraces.Rows.{row_read}

-- ---- the line of a table

-- the line without its line feed
abbrev pub table_text : Schema → List ℕ
table_text schema = codes "table " ++ (schema.name ++ 32 ∷ (40 ∷ (column_names schema.columns ++ codes ")")))

table_apart : (name columns : List ℕ) → codes "table " ++ (name ++ codes " (" ++ columns ++ codes ")\n") ≡ (codes "table " ++ (name ++ 32 ∷ (40 ∷ (columns ++ codes ")")))) ++ codes "\n"
table_apart name columns = simp append_assoc

pub table_line_is : (schema : Schema) → table_line schema ≡ table_text schema ++ codes "\n"
unfolding table_line
table_line_is schema = table_apart schema.name (column_names schema.columns)

any_after : (one other : List (List ℕ)) → list_any opens other ≡ true → list_any opens (one ++ other) ≡ true
any_after [] other any = any
any_after (word ∷ one) other any = or_right (opens word) (list_any opens (one ++ other)) (any_after one other any)

opens_onto : (words : List (List ℕ)) → list_any opens (onto_first 40 words) ≡ true
opens_onto [] = refl
opens_onto (word ∷ words) = refl

columns_named : (one other : List (List ℕ)) → 0 < length one → list_any opens other ≡ true → names_columns (codes "table" ∷ (one ++ other)) ≡ true
columns_named [] other some any = absurd (omega arith)
columns_named (word ∷ one) other some any = any_after one other any

table_words : (name rest : List ℕ) → names_columns (parts 32 (codes "table " ++ (name ++ 32 ∷ (40 ∷ rest)))) ≡ true
table_words name rest =
    ap names_columns (parts-first 32 (codes "table") (name ++ 32 ∷ (40 ∷ rest)) (avoids-known 32 (codes "table") refl) ∙ ap (λ (words : List (List ℕ)). codes "table" ∷ words) (parts-append 32 name (40 ∷ rest)))
    ∙ columns_named (parts 32 name) (parts 32 (40 ∷ rest)) (parts-some 32 name) (opens_onto (parts 32 rest))

closes_line : (front : List ℕ) → ends_with nat_eq (front ++ codes ")") (codes ")") ≡ true
closes_line front =
    let same : length (front ++ codes ")") - 1 ≡ length front = omega (arith, length-append front (codes ")")) in
    ap (λ (n : ℕ). pointwise nat_eq (codes ")") (drop n (front ++ codes ")"))) same ∙ ap (λ (rest : List ℕ). pointwise nat_eq (codes ")") rest) (drop_at front (codes ")") (length front) refl)

table_last : (name columns : List ℕ) → codes "table " ++ (name ++ 32 ∷ (40 ∷ (columns ++ codes ")"))) ≡ (codes "table " ++ (name ++ 32 ∷ (40 ∷ columns))) ++ codes ")"
table_last name columns = simp append_assoc

table_is : (schema : Schema) → is_table_line (table_text schema) ≡ true
unfolding is_table_line
table_is schema =
    let front : List ℕ = codes "table " ++ (schema.name ++ 32 ∷ (40 ∷ column_names schema.columns)) in
    and_from (names_columns (parts 32 (table_text schema))) (ends_with nat_eq (table_text schema) (codes ")")) (table_words schema.name (column_names schema.columns ++ codes ")"))
    (ap (λ (text : List ℕ). ends_with nat_eq text (codes ")")) (table_last schema.name (column_names schema.columns)) ∙ closes_line front)

one_line_more : (columns : List Column) → AllByRecursion (λ column. IsOneLine column.name) columns → Avoids 10 (more_names columns)
unfolding more_names
one_line_more [] all = tt
one_line_more (column ∷ columns) all = (refl, (refl, avoids-append 10 column.name (more_names columns) all.0 (one_line_more columns all.1)))

one_line_columns : (columns : List Column) → AllByRecursion (λ column. IsOneLine column.name) columns → Avoids 10 (column_names columns)
unfolding column_names
one_line_columns [] all = tt
one_line_columns (column ∷ columns) all = avoids-append 10 column.name (more_names columns) all.0 (one_line_more columns all.1)

pub table_is_line : (schema : Schema) → IsOneLine schema.name → AllByRecursion (λ column. IsOneLine column.name) schema.columns → Avoids 10 (table_text schema)
table_is_line schema named all =
    avoids-append 10 (codes "table ") (schema.name ++ 32 ∷ (40 ∷ (column_names schema.columns ++ codes ")"))) (avoids-known 10 (codes "table ") refl)
    (avoids-append 10 schema.name (32 ∷ (40 ∷ (column_names schema.columns ++ codes ")"))) named (refl, (refl, avoids-append 10 (column_names schema.columns) (codes ")") (one_line_columns schema.columns all) (refl, tt))))

-- ---- its rows

no_table : (first : List ℕ) (more : List (List ℕ)) → bytes_eq first (codes "table") ≡ false → names_columns (first ∷ more) ≡ false
no_table first [] other = refl
no_table first (word ∷ more) other = rw other refl

row_words_are : (words : List (List ℕ)) → names_columns (onto_first 40 words) ≡ false
row_words_are [] = refl
row_words_are (word ∷ words) = no_table (40 ∷ word) words refl

row_is_no_table : (row : List Value) → is_table_line (printed_row row) ≡ false
unfolding is_table_line printed_row
row_is_no_table row = rw (row_words_are (parts 32 (listed row ++ codes ")"))) refl

row_is_no_names : (row : List Value) → is_names_line (printed_row row) ≡ false
unfolding is_names_line printed_row
row_is_no_names row = refl

-- the tables before, and one that these rows may follow
abbrev pub left_with : List TraceLine → Verdict → List (List ℕ) → List ℕ → LeftTables
left_with lines verdict tables current = record { lines = lines; verdict = verdict; tables = tables; current = Some current }

row_after : (clients : ℕ) (lines : List TraceLine) (verdict : Verdict) (tables : List (List ℕ)) (current : List ℕ) (row : List Value) → CanPrintRow row
    → after_text clients (Tables (left_with lines verdict tables current)) (printed_row row) ≡ Some (Tables (left_with lines verdict tables (current ++ (printed_row row ++ codes "\n"))))
unfolding after_text after_left
row_after clients lines verdict tables current row can = rw (row_is_no_table row, row_is_no_names row, row_read row can) refl

rows_after : (clients : ℕ) (lines : List TraceLine) (verdict : Verdict) (tables : List (List ℕ)) (current : List ℕ) (rows : List (List Value)) → AllByRecursion CanPrintRow rows
    → Reads clients (Tables (left_with lines verdict tables current)) (map printed_row rows) (Tables (left_with lines verdict tables (current ++ row_lines rows)))
unfolding row_lines
rows_after clients lines verdict tables current [] can = ap (λ (text : List ℕ). Some (Tables (left_with lines verdict tables text))) (sym (append-nil current))
rows_after clients lines verdict tables current (row ∷ rows) can =
    let longer : List ℕ = current ++ (printed_row row ++ codes "\n") in
    ap (option_and_then (λ (next : Reading). after_texts clients next (map printed_row rows))) (row_after clients lines verdict tables current row can.0)
    ∙ rows_after clients lines verdict tables longer rows can.1 ∙ ap (λ (text : List ℕ). Some (Tables (left_with lines verdict tables text))) (append_assoc current (printed_row row ++ codes "\n") (row_lines rows))

-- ---- one table, and all

abbrev pub lines_of_table : TableRows → List (List ℕ)
lines_of_table table = table_text table.schema ∷ map printed_row table.rows

pub row_lines_are : (rows : List (List Value)) → row_lines rows ≡ lines_text (map printed_row rows)
unfolding row_lines
row_lines_are rows = sym (flat_map-map (λ line. line ++ codes "\n") printed_row rows)

pub printed_table_is : (table : TableRows) → printed_table table ≡ lines_text (lines_of_table table)
printed_table_is table = rw (table_line_is table.schema, row_lines_are table.rows) refl

-- what is read with a table more
abbrev pub with_table : LeftTables → TableRows → LeftTables
with_table left table = left_with left.lines left.verdict (closed left) (printed_table table)

table_read : (clients : ℕ) (left : LeftTables) (table : TableRows) → CanPrintTable table → Reads clients (Tables left) (lines_of_table table) (Tables (with_table left table))
unfolding after_text after_left
table_read clients left table can =
    let line : List ℕ = table_text table.schema in
    let named : after_text clients (Tables left) line ≡ Some (Tables (left_with left.lines left.verdict (closed left) (line ++ codes "\n"))) = rw (table_is table.schema) refl in
    ap (option_and_then (λ (next : Reading). after_texts clients next (map printed_row table.rows))) named
    ∙ rows_after clients left.lines left.verdict (closed left) (line ++ codes "\n") table.rows can.rows
    ∙ ap (λ (text : List ℕ). Some (Tables (left_with left.lines left.verdict (closed left) (text ++ row_lines table.rows)))) (sym (table_line_is table.schema))

-- what is read with these tables more
abbrev pub with_tables : LeftTables → Database → LeftTables
with_tables left [] = left
with_tables left (table ∷ tables) = with_tables (with_table left table) tables

abbrev pub lines_of_tables : Database → List (List ℕ)
lines_of_tables tables = flat_map lines_of_table tables

pub tables_read : (clients : ℕ) (left : LeftTables) (tables : Database) → AllByRecursion CanPrintTable tables → Reads clients (Tables left) (lines_of_tables tables) (Tables (with_tables left tables))
tables_read clients left [] can = refl
tables_read clients left (table ∷ tables) can =
    reads-then clients (Tables left) (Tables (with_table left table)) (Tables (with_tables (with_table left table) tables)) (lines_of_table table) (lines_of_tables tables)
    (table_read clients left table can.0) (tables_read clients (with_table left table) tables can.1)

pub names_after : (left : LeftTables) (tables : Database) → after_names (with_tables left tables) ≡ Named (record { lines = left.lines; verdict = left.verdict; tables = closed left ++ map printed_table tables })
names_after left [] = ap (λ (texts : List (List ℕ)). Named (record { lines = left.lines; verdict = left.verdict; tables = texts })) (sym (append-nil (closed left)))
names_after left (table ∷ tables) =
    names_after (with_table left table) tables
    ∙ ap (λ (texts : List (List ℕ)). Named (record { lines = left.lines; verdict = left.verdict; tables = texts })) (append_assoc (closed left) (printed_table table ∷ []) (map printed_table tables))

pub tables_text : (tables : Database) → flat_map (λ table. table) (map printed_table tables) ≡ lines_text (lines_of_tables tables)
tables_text [] = refl
tables_text (table ∷ tables) = rw (printed_table_is table, tables_text tables) (sym (lines_text-append (lines_of_table table) (lines_of_tables tables)))

-- ---- the names of all

-- the line without its line feed
abbrev pub names_text : Database → List ℕ
names_text exist = codes "tables" ++ spaced (in_byte_order (table_names exist))

pub names_line_is : (exist : Database) → names_line exist ≡ names_text exist ++ codes "\n"
unfolding names_line
names_line_is exist = refl

names_no_table : (names : List (List ℕ)) → names_columns (parts 32 (codes "tables" ++ spaced names)) ≡ false
unfolding spaced
names_no_table [] = refl
names_no_table (name ∷ names) =
    ap names_columns (parts-first 32 (codes "tables") (name ++ spaced names) (avoids-known 32 (codes "tables") refl)) ∙ no_table (codes "tables") (parts 32 (name ++ spaced names)) refl

names_are : (names : List (List ℕ)) → is_names_line (codes "tables" ++ spaced names) ≡ true
unfolding is_names_line spaced
names_are [] = refl
names_are (name ∷ names) = refl

pub names_read : (clients : ℕ) (left : LeftTables) (exist : Database) → after_text clients (Tables left) (names_text exist) ≡ Some (after_names left)
unfolding after_text after_left is_table_line
names_read clients left exist = rw (names_no_table (in_byte_order (table_names exist)), names_are (in_byte_order (table_names exist))) refl

-- names in another order
all_take : (names : List (List ℕ)) (n : ℕ) → AllByRecursion IsOneLine names → AllByRecursion IsOneLine (take n names)
all_take names zero all = tt
all_take [] (suc n) all = tt
all_take (name ∷ names) (suc n) all = (all.0, all_take names n all.1)

all_drop : (names : List (List ℕ)) (n : ℕ) → AllByRecursion IsOneLine names → AllByRecursion IsOneLine (drop n names)
all_drop names zero all = all
all_drop [] (suc n) all = tt
all_drop (name ∷ names) (suc n) all = all_drop names n all.1

all_both : (one other : List (List ℕ)) → AllByRecursion IsOneLine one → AllByRecursion IsOneLine other → AllByRecursion IsOneLine (one ++ other)
all_both [] other first second = second
all_both (name ∷ one) other first second = (first.0, all_both one other first.1 second)

all_placed : (names : List (List ℕ)) (name : List ℕ) → AllByRecursion IsOneLine names → IsOneLine name → AllByRecursion IsOneLine (placed names name)
all_placed names name all is =
    let place : ℕ = prefix_len (λ other. comes_before other name) names in
    all_both (take place names) (name ∷ drop place names) (all_take names place all) (is, all_drop names place all)

all_ordered : (before names : List (List ℕ)) → AllByRecursion IsOneLine before → AllByRecursion IsOneLine names → AllByRecursion IsOneLine (fold placed before names)
all_ordered before [] first second = first
all_ordered before (name ∷ names) first second = all_ordered (placed before name) names (all_placed before name first second.0) second.1

all_names : (exist : Database) → AllByRecursion (λ table. IsOneLine table.schema.name) exist → AllByRecursion IsOneLine (table_names exist)
all_names [] all = tt
all_names (table ∷ exist) all = (all.0, all_names exist all.1)

one_line_names : (names : List (List ℕ)) → AllByRecursion IsOneLine names → Avoids 10 (spaced names)
unfolding spaced
one_line_names [] all = tt
one_line_names (name ∷ names) all = (refl, avoids-append 10 name (spaced names) all.0 (one_line_names names all.1))

pub names_is_line : (exist : Database) → AllByRecursion (λ table. IsOneLine table.schema.name) exist → Avoids 10 (names_text exist)
unfolding in_byte_order
names_is_line exist all =
    avoids-append 10 (codes "tables") (spaced (in_byte_order (table_names exist))) (avoids-known 10 (codes "tables") refl) (one_line_names (in_byte_order (table_names exist)) (all_ordered [] (table_names exist) tt (all_names exist all)))
