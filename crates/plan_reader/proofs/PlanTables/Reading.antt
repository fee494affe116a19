-- Reading rows and tables one after the other, as loops do.
use Rattle.std.proofs.Common.{◌≡◌, ℕ, ◌+◌, ◌<◌, ◌≤◌, List, [], ◌∷◌, ◌++◌, length, drop, map, get_or, Option, Some, None, Result, Ok, Err, Bor, refl, sym, ◌∙◌}
use Rattle.std.proofs.lemmas.List.{drop_all, drop_more}
use Rattle.table_store.specs.Databases.{TableRows, Database}
use Rattle.plan_keys.specs.declared.texts.TableKeys as code_table
use Rattle.plan_keys.specs.PlanKeys.{table_data}
use Rattle.base_values.proofs.GhoSchema.Loops.{from_here}
use Rattle.base_values.specs.declared.fault.Fault.{Fault}
use Rattle.base_values.specs.declared.fault.Fault.TheVariants as faults
use Rattle.plan_reader.specs.declared.plan_tables.fault.TableRefusal.{TableRefusal}
use Rattle.base_values.specs.Faults.{Refuses}
use Rattle.plan_reader.specs.PlanTables.Rows.{put_text, or_bad, next_number, put_texts}
use Rattle.plan_reader.specs.PlanTables.Tables.{of_rows, table_at, tables_from}

abbrev pub texts : List (Bor (List ℕ)) → List (List ℕ)
texts rows = map (λ (row : Bor (List ℕ)). row.now) rows

-- ---- rows

module _ (number row : ℕ) (table : TableRows) (rows : List (Bor (List ℕ))) (i : ℕ) (default : Bor (List ℕ)) (total : Result TableRows TableRefusal) (lt : i < length rows) where
  abbrev Here : Type 0
  Here = of_rows number (put_texts row table (texts (drop i rows))) ≡ total

  abbrev here : Option TableRows
  here = put_text table (get_or rows i default).now

  row_goes : (o : Option TableRows) (made : TableRows) → here ≡ o → of_rows number (or_bad row o) ≡ Ok made → Here → of_rows number (put_texts (next_number row) made (texts (drop (i + 1) rows))) ≡ total
  unfolding put_texts
  row_goes (Some found) made is e so_far =
      let same : found ≡ made = cc in
      let one : of_rows number (put_texts row table (texts (drop i rows))) ≡ of_rows number (put_texts (next_number row) made (texts (drop (i + 1) rows))) = rw (drop_more rows i default lt, is, same) refl in
      sym one ∙ so_far
  row_goes None made is e so_far = absurd (cc)

  pub row_goes_on : (made : TableRows) → of_rows number (or_bad row here) ≡ Ok made → Here → of_rows number (put_texts (next_number row) made (texts (drop (i + 1) rows))) ≡ total
  row_goes_on made e so_far = row_goes here made refl e so_far

  row_refuses : (o : Option TableRows) (refusal : TableRefusal) → here ≡ o → of_rows number (or_bad row o) ≡ Err refusal → Here → total ≡ Err refusal
  unfolding put_texts
  row_refuses (Some found) refusal is e so_far = absurd (cc)
  row_refuses None refusal is e so_far =
      let one : of_rows number (put_texts row table (texts (drop i rows))) ≡ Err refusal = rw (drop_more rows i default lt, is) e in
      sym so_far ∙ one

  pub row_fails : (fault : Fault TableRefusal) → Refuses fault (of_rows number (or_bad row here)) → Here → Refuses fault total
  row_fails faults.Memory e so_far = tt
  row_fails (faults.Refused refusal) e so_far = row_refuses here refusal refl e so_far

pub rows_ended : (number row : ℕ) (table : TableRows) (rows : List (Bor (List ℕ))) (i : ℕ) (total : Result TableRows TableRefusal) → length rows ≤ i → of_rows number (put_texts row table (texts (drop i rows))) ≡ total → total ≡ Ok table
unfolding put_texts
rows_ended number row table rows i total le so_far =
    let one : of_rows number (put_texts row table (texts (drop i rows))) ≡ Ok table = rw (drop_all i rows le) refl in
    sym so_far ∙ one

-- ---- tables

module _ (version : ℕ) (migrated : List ℕ) (number : ℕ) (tables : Database) (keys : List code_table.TableKeys) (i : ℕ) (first : code_table.TableKeys) (total : Result Database TableRefusal) (lt : i < length keys) (is : first ≡ get_or keys i first) where
  abbrev HereTables : Type 0
  HereTables = tables_from version migrated number tables (map table_data (drop i keys)) ≡ total

  pub table_goes_on : (table : TableRows) → table_at version migrated number tables (table_data first) ≡ Ok table → HereTables → tables_from version migrated (next_number number) (tables ++ (table ∷ [])) (map table_data (drop (i + 1) keys)) ≡ total
  unfolding tables_from
  table_goes_on table e so_far =
      let one : tables_from version migrated number tables (map table_data (drop i keys)) ≡ tables_from version migrated (next_number number) (tables ++ (table ∷ [])) (map table_data (drop (i + 1) keys)) = rw (from_here keys i first lt is, e) refl in
      sym one ∙ so_far

  table_refuses : (refusal : TableRefusal) → table_at version migrated number tables (table_data first) ≡ Err refusal → HereTables → total ≡ Err refusal
  unfolding tables_from
  table_refuses refusal e so_far =
      let one : tables_from version migrated number tables (map table_data (drop i keys)) ≡ Err refusal = rw (from_here keys i first lt is, e) refl in
      sym so_far ∙ one

  pub table_fails : (fault : Fault TableRefusal) → Refuses fault (table_at version migrated number tables (table_data first)) → HereTables → Refuses fault total
  table_fails faults.Memory e so_far = tt
  table_fails (faults.Refused refusal) e so_far = table_refuses refusal e so_far

pub tables_ended : (version : ℕ) (migrated : List ℕ) (number : ℕ) (tables : Database) (keys : List code_table.TableKeys) (i : ℕ) (total : Result Database TableRefusal) → length keys ≤ i → tables_from version migrated number tables (map table_data (drop i keys)) ≡ total → total ≡ Ok tables
unfolding tables_from
tables_ended version migrated number tables keys i total le so_far =
    let one : tables_from version migrated number tables (map table_data (drop i keys)) ≡ Ok tables = rw (drop_all i keys le) refl in
    sym so_far ∙ one
