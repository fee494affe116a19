-- One row more of an UPDATE.
use Rattle.std.proofs.Common.{◌≡◌, List, [], ◌∷◌, ◌++◌, Option, Result, Ok, Err, true, false, refl, ap, append_assoc, append-nil}
use Rattle.base_values.specs.declared.value.Value.{Value}
use Rattle.base_values.specs.declared.gho_schema.schema.Schema.{Schema}
use Rattle.base_values.specs.GhoSchema.Rows.{key_places}
use Rattle.table_store.proofs.Orders.{Row}
use Rattle.base_values.specs.declared.event.Change.{Change}
use Rattle.base_values.specs.declared.event.Change.TheVariants as changes
use Rattle.base_values.specs.declared.mysql_errors.TheConstants.{ER_DUP_ENTRY}
use Rattle.server_model.specs.declared.answer.Answer.{Answer}
use Rattle.server_model.specs.Answers.{refuses}
use Rattle.server_model.specs.Rows.{same_row, change_rows}
use Rattle.server_model.specs.StatementResults.{with_sets, clashes_besides, change_first, updates}
use Rattle.test_model.specs.RowUpdates.{changes_after}

after_first : (front : List Change) (change : Change) (others : Result (List Change) Answer) → changes_after (front ++ change ∷ []) others ≡ changes_after front (change_first change others)
after_first front change (Ok others) = ap (λ (cs : List Change). Ok cs) (append_assoc front (change ∷ []) others)
after_first front change (Err refusal) = refl

module _ (schema : Schema) (sets : List (Option Value)) (front : List Change) (rows : List Row) (old : Row) (met : List Row) where
  -- it stays as it is
  pub stays : same_row old (with_sets sets old) ≡ true → changes_after front (updates schema sets met rows) ≡ changes_after front (updates schema sets (old ∷ met) rows)
  unfolding updates
  stays same = rw same refl

  -- its new row clashes with another one
  pub clashing : same_row old (with_sets sets old) ≡ false → clashes_besides schema (with_sets sets old) old rows ≡ true → Err (refuses ER_DUP_ENTRY) ≡ changes_after front (updates schema sets (old ∷ met) rows)
  unfolding updates
  clashing other clash = rw (other, clash) refl

  -- it changes
  pub changed : same_row old (with_sets sets old) ≡ false → clashes_besides schema (with_sets sets old) old rows ≡ false
      → changes_after (front ++ changes.Update old (with_sets sets old) ∷ []) (updates schema sets met (change_rows (key_places schema) (changes.Update old (with_sets sets old)) rows)) ≡ changes_after front (updates schema sets (old ∷ met) rows)
  unfolding updates
  changed other clash = rw (other, clash) (after_first front (changes.Update old (with_sets sets old)) (updates schema sets met (change_rows (key_places schema) (changes.Update old (with_sets sets old)) rows)))

-- no row is left
pub ended : (schema : Schema) (sets : List (Option Value)) (front : List Change) (rows : List Row) → changes_after front (updates schema sets [] rows) ≡ Ok front
unfolding updates
ended schema sets front rows = ap (λ (cs : List Change). Ok cs) (append-nil front)

-- there are no changes so far
pub after_nothing : (others : Result (List Change) Answer) → changes_after [] others ≡ others
after_nothing (Ok others) = refl
after_nothing (Err refusal) = refl
