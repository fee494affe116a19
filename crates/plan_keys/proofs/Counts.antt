-- Counting the rows of tables.
use Rattle.std.proofs.Common.{◌≡◌, ◌+◌, List, [], ◌∷◌, length, map, Bor, ℕ, refl, sym, ◌∙◌}
use Rattle.std.proofs.lemmas.List.{length-map}
use Rattle.std.proofs.lemmas.List.Sums.{sum_by-cons}
use Rattle.std.specs.List.{sum_by}
use Rattle.plan_keys.specs.declared.texts.TableKeys as code_table
use Rattle.plan_keys.specs.Limits.{TableData, row_count}
use Rattle.plan_keys.specs.PlanKeys.{table_data}

sums : (a b c d : ℕ) → a ≡ b → c ≡ d → a + c ≡ b + d
sums a b c d same also = rw (same, also) refl

pub rows_counted : (tables : List code_table.TableKeys) → row_count (map table_data tables) ≡ sum_by (λ (table : code_table.TableKeys). length table.rows.items) tables
rows_counted [] = refl
rows_counted (table ∷ tables) =
    sum_by-cons (λ (texts : TableData). length texts.rows) (table_data table) (map table_data tables)
    ∙ sums (length (table_data table).rows) (length table.rows.items) (row_count (map table_data tables)) (sum_by (λ (table : code_table.TableKeys). length table.rows.items) tables)
    (length-map table.rows.items (λ (row : Bor (List ℕ)). row.now)) (rows_counted tables)
    ∙ sym (sum_by-cons (λ (table : code_table.TableKeys). length table.rows.items) table tables)
