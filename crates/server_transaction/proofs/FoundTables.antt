-- What holds of the table of a name, where one is found.
use Rattle.std.proofs.Common.{◌≡◌, ℕ, List, Option, Some, None, refl, sym, ap, ◌∙◌, subst}
use Rattle.std.specs.Prelude.{IsSomeAnd}
use Rattle.std.specs.Option.{option_map}
use Rattle.base_values.specs.declared.event.Change.{Change}
use Rattle.base_values.specs.declared.event.Change.TheVariants.{Write, Update, Delete}
use Rattle.table_store.specs.Databases.{TableRows, Database, find_table, with_change, IsNewIn}
use Rattle.table_store.proofs.Orders.{Row}
use Rattle.table_store.proofs.ChangedTables.{change_found}
use Rattle.server_model.specs.Rows.{change_rows}
use Rattle.server_model.specs.Operations.{change_table}
use Rattle.server_transaction.specs.FittingEvents.{FitsIn}

-- a row that fits is new
pub fits_new : (row : Row) (found : Option TableRows) → FitsIn (Write row) found → IsSomeAnd found (IsNewIn row)
fits_new row None fits = absurd fits
fits_new row (Some table) fits = fits

-- a table stands where a change fits
pub record Found (found : Option TableRows) : Type 0 where
  pub table : TableRows
  pub is : found ≡ Some table

pub found_of : (change : Change) (found : Option TableRows) → FitsIn change found → Found found
found_of change None fits = absurd fits
found_of change (Some table) fits = record { table = table; is = refl }

put_after : (before after : Row) (found : Option TableRows) → FitsIn (Update before after) found → FitsIn (Write after) (option_map (change_table (Delete before)) found)
unfolding change_rows
put_after before after None fits = absurd fits
put_after before after (Some table) fits = fits.1

pub fits_in : (name : List ℕ) (before after : Row) (tables left : Database) → left ≡ with_change name (change_table (Delete before)) tables → FitsIn (Update before after) (find_table name tables) → FitsIn (Write after) (find_table name left)
fits_in name before after tables left is fits =
    subst (FitsIn (Write after)) (sym (ap (find_table name) is ∙ change_found name (change_table (Delete before)) tables (λ t. refl))) (put_after before after (find_table name tables) fits)
